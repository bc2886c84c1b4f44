-- Messages that hold text alone.
use Rattle.std.specs.Prelude.{ℕ, List, [], ◌∷◌}
use Rattle.std.specs.Str.{IsUtf8}
use Rattle.wc_ircmsg.specs.declared.message.Message.{Message}

abbrev pub AreUtf8Texts : List (List ℕ) → Type 0
AreUtf8Texts [] = Unit {0}
AreUtf8Texts (text ∷ texts) = IsUtf8 text × AreUtf8Texts texts

-- each text of a message is UTF-8
pub record MessageIsUtf8 (message : Message) : Type 0 where
  pub tags : IsUtf8 message.tags
  pub nick : IsUtf8 message.nick
  pub user : IsUtf8 message.user
  pub host : IsUtf8 message.host
  pub command : IsUtf8 message.command
  pub params : AreUtf8Texts message.params
