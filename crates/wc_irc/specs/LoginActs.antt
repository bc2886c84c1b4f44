-- What is said at a login that asks for capabilities and logs in by SASL (IRCv3), and what follows of
-- a message that may be about it.
use Rattle.std.specs.Prelude.{ℕ, List, [], ◌∷◌, ◌++◌, map, codes, if◌then◌else◌}
use Rattle.wc_text.specs.declared.names.Cause.TheVariants as cause
use Rattle.wc_ircmsg.specs.declared.message.Message.{Message}
use Rattle.wc_ircmsg.specs.Written.{line_of}
use Rattle.wc_irc.specs.declared.act.Act.{Act}
use Rattle.wc_irc.specs.declared.act.Act.TheVariants as act
use Rattle.wc_irc.specs.Autojoin.{message}
use Rattle.wc_irc.specs.Servers.{ServerState}
use Rattle.wc_irc.specs.TalkActs.{sent, other_acts}
use Rattle.wc_irc_texts.specs.declared.login_step.LoginStep.{LoginStep}
use Rattle.wc_irc_texts.specs.declared.login_step.LoginStep.TheVariants as step
use Rattle.wc_irc_texts.specs.declared.negotiation.Negotiation.{Negotiation}
use Rattle.wc_irc_texts.specs.Negotiation.{login_step, listed, granted, has_sasl, after_step}
use Rattle.wc_irc_texts.specs.Sasl.{login_pieces}
use Rattle.wc_irc_texts.specs.Texts.{in_one_line, spaced}

-- a CAP of a word and a text
abbrev pub cap_params : List ℕ → List ℕ → List (List ℕ)
cap_params word text = word ∷ in_one_line text ∷ []

abbrev pub cap_act : List ℕ → List ℕ → Act
cap_act word text = act.Send (line_of (message (codes "CAP") (cap_params word text)))

-- as the link begins the list is asked for, where options ask for any of it
abbrev pub list_act : Act
list_act = cap_act (codes "LS") (codes "302")

abbrev pub list_acts : Negotiation → List Act
list_acts n = if n.is_used then list_act ∷ [] else []

abbrev pub end_act : Act
end_act = sent (codes "CAP") (codes "END")

-- those that are offered are asked for, where there are any
abbrev pub asking_act : List (List ℕ) → Act
asking_act [] = end_act
asking_act (name ∷ names) = cap_act (codes "REQ") (spaced (name ∷ names))

abbrev pub granted_act : List (List ℕ) → Act
granted_act names = if has_sasl names then sent (codes "AUTHENTICATE") (codes "PLAIN") else end_act

-- the server is given up where options ask for it, and else the login goes on without SASL
abbrev pub failure_act : Negotiation → Act
failure_act n = if n.is_strict then act.Leave cause.NickTaken else end_act

abbrev pub refusal_act : Negotiation → Act
refusal_act n = if has_sasl n.offered then failure_act n else end_act

abbrev pub proof_acts : Negotiation → List Act
proof_acts n = map (sent (codes "AUTHENTICATE")) (login_pieces n.user n.password)

-- ---- a message that is of no other kind

unfoldable pub acts_of_step : ServerState → Message → LoginStep → List Act
acts_of_step s m step.Foreign = other_acts s m
acts_of_step s m step.Nothing = []
acts_of_step s m step.Lists = []
acts_of_step s m step.EndsList = asking_act (listed s.negotiation m) ∷ []
acts_of_step s m step.Grants = granted_act (granted s.negotiation m) ∷ []
acts_of_step s m step.Refuses = refusal_act s.negotiation ∷ []
acts_of_step s m step.TakesAway = []
acts_of_step s m step.AsksProof = proof_acts s.negotiation
acts_of_step s m step.Admits = other_acts s m ++ end_act ∷ []
acts_of_step s m step.Rejects = other_acts s m ++ failure_act s.negotiation ∷ []

abbrev pub login_acts : ServerState → Message → List Act
login_acts s m = acts_of_step s m (login_step s.negotiation m)

abbrev pub after_login : ServerState → Message → ServerState
after_login s m = record s {
  negotiation = after_step s.negotiation m (login_step s.negotiation m);
}
