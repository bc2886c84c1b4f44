-- A login that asks a server for capabilities and logs in by SASL (IRCv3).
use Rattle.std.specs.Prelude.{ℕ, Bool, ◌&&◌, ◌||◌, List, [], ◌∷◌, bytes_eq, codes}
use Rattle.std.specs.Prelude.{if◌then◌else◌}
use Rattle.wc_text.specs.Words.{is_filled}
use Rattle.wc_ircmsg.specs.declared.message.Message.{Message}
use Rattle.wc_irc_texts.specs.declared.login_step.LoginStep.{LoginStep}
use Rattle.wc_irc_texts.specs.declared.login_step.LoginStep.TheVariants as step
use Rattle.wc_irc_texts.specs.declared.login_step.Stage.{Stage}
use Rattle.wc_irc_texts.specs.declared.login_step.Stage.TheVariants.{Idle, Lists, Asks, Begins, Proves}
use Rattle.wc_irc_texts.specs.declared.negotiation.Negotiation.{Negotiation}
use Rattle.wc_irc_texts.specs.Capabilities.{is_among, wished_names, offered_names, named_in}
use Rattle.wc_irc_texts.specs.Capabilities.{unnamed_in}
use Rattle.wc_irc_texts.specs.LoginSteps.{used_step, cap_text}

-- ---- what options give

-- there is a login where neither its name nor its password is empty
abbrev pub logs_in : List ℕ → List ℕ → Bool
logs_in user password = is_filled user && is_filled password

unfoldable pub negotiation_of : List ℕ → List ℕ → List ℕ → List ℕ → Negotiation
negotiation_of user password wishes at_failure = record {
  is_used = logs_in user password || is_filled wishes;
  user = user;
  password = password;
  is_strict = bytes_eq at_failure (codes "disconnect");
  wished = wished_names (logs_in user password) wishes;
  stage = Idle;
  offered = [];
  stands = [];
}

-- ---- what a message is to it

unfoldable pub login_step : Negotiation → Message → LoginStep
login_step n m = if n.is_used then used_step n.stage n.stands m else step.Foreign

-- ---- what the login is after it

abbrev pub listed : Negotiation → Message → List (List ℕ)
listed n m = offered_names n.wished n.offered (cap_text m)

abbrev pub granted : Negotiation → Message → List (List ℕ)
granted n m = named_in n.offered (cap_text m)

abbrev pub has_sasl : List (List ℕ) → Bool
has_sasl names = is_among (codes "sasl") names

abbrev pub stage_asking : List (List ℕ) → Stage
stage_asking [] = Idle
stage_asking (name ∷ names) = Asks

abbrev pub with_asked : Negotiation → List (List ℕ) → Negotiation
with_asked n names = record n { offered = names; stage = stage_asking names }

abbrev pub stage_granted : List (List ℕ) → Stage
stage_granted names = if has_sasl names then Begins else Idle

abbrev pub with_granted : Negotiation → List (List ℕ) → Negotiation
with_granted n names = record n { stands = names; stage = stage_granted names }

abbrev pub ended : Negotiation → Negotiation
ended n = record n { stage = Idle }

unfoldable pub after_step : Negotiation → Message → LoginStep → Negotiation
after_step n m step.Foreign = n
after_step n m step.Nothing = n
after_step n m step.Lists = record n { offered = listed n m }
after_step n m step.EndsList = with_asked n (listed n m)
after_step n m step.Grants = with_granted n (granted n m)
after_step n m step.Refuses = ended n
after_step n m step.TakesAway = record n { stands = unnamed_in n.stands (cap_text m) }
after_step n m step.AsksProof = record n { stage = Proves }
after_step n m step.Admits = ended n
after_step n m step.Rejects = ended n

-- ---- a link begins, and is lost

abbrev pub begun : Negotiation → Negotiation
begun n = if n.is_used then record n { stage = Lists } else n

abbrev pub lost : Negotiation → Negotiation
lost n = record n { stage = Idle; offered = []; stands = [] }
