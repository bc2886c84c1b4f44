-- The lines that a server prints.
use Rattle.std.specs.Prelude.{ℕ, Bool, true, false, List, [], ◌∷◌, ◌++◌, codes}
use Rattle.wc_ircmsg.specs.declared.message.Message.{Message}
use Rattle.wc_model.specs.declared.change.LineSpec.{LineSpec}
use Rattle.wc_model.specs.declared.change.What.TheVariants as what
use Rattle.wc_model.specs.Levels.{highlight_of, notify_of}
use Rattle.wc_irc.specs.declared.act.Act.{Act}
use Rattle.wc_irc.specs.declared.act.Act.TheVariants as act
use Rattle.wc_irc_texts.specs.Texts.{plain}

-- a line with its levels, where it is known whether it calls the user; it has no dates yet
unfoldable pub line : List (List ℕ) → List ℕ → List ℕ → Bool → LineSpec
line tags prefix text calls_user = record {
  date = 0;
  usec = 0;
  date_printed = 0;
  usec_printed = 0;
  displayed = true;
  notify = notify_of tags calls_user;
  highlight = highlight_of tags calls_user;
  tags = tags;
  prefix = plain prefix;
  message = plain text;
}

-- it is printed on the buffer of this full name, where it is known whether it calls the user
abbrev pub said : List ℕ → List (List ℕ) → List ℕ → List ℕ → Bool → Act
said buffer tags prefix text calls_user = act.On buffer
    (what.Print (line tags prefix text calls_user))

-- and where it calls no one
abbrev pub printed : List ℕ → List (List ℕ) → List ℕ → List ℕ → Act
printed buffer tags prefix text = said buffer tags prefix text false

-- ---- tags

abbrev pub nick_tag : List ℕ → List ℕ
nick_tag nick = codes "nick_" ++ nick

abbrev pub host_tag : Message → List ℕ
host_tag m = codes "host_" ++ m.user ++ 64 ∷ m.host

-- a tag, and the nick that a message is from
abbrev pub nick_tags : List ℕ → Message → List (List ℕ)
nick_tags tag m = tag ∷ nick_tag m.nick ∷ []

-- these, and its host
abbrev pub full_tags : List ℕ → Message → List (List ℕ)
full_tags tag m = tag ∷ nick_tag m.nick ∷ host_tag m ∷ []
