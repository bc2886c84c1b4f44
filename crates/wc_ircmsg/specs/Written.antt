-- How messages are written.
use Rattle.std.specs.Prelude.{ℕ, ◌≤◌, Bool, true, not, ◌&&◌, ◌||◌, ◌==◌, List, [], ◌∷◌}
use Rattle.std.specs.Prelude.{◌++◌, if◌then◌else◌, length, IsTrue}
use Rattle.std.specs.List.{list_all, list_any}
use Rattle.wc_ircmsg.specs.declared.message.Message.{Message}
use Rattle.wc_ircmsg.specs.Commands.{is_command}

-- a parameter that is no word of its own: one that is empty, has a blank or begins with `:`
abbrev pub needs_colon : List ℕ → Bool
needs_colon [] = true
needs_colon (b ∷ param) = (b == 58) || list_any (λ c. c == 32) (b ∷ param)

-- only the last parameter may need a `:`
abbrev pub are_words : List (List ℕ) → Bool
are_words [] = true
are_words (param ∷ []) = true
are_words (param ∷ next ∷ params) = not (needs_colon param) && are_words (next ∷ params)

-- CR, LF and NUL
abbrev pub ends_lines : ℕ → Bool
ends_lines b = (b == 13) || (b == 10) || (b == 0)

-- a text that stays in one line
abbrev pub is_one_line : List ℕ → Bool
is_one_line text = list_all (λ b. not (ends_lines b)) text

-- a message that a line can spell
pub record IsWritable (message : Message) : Type 0 where
  pub command : IsTrue (is_command message.command)
  pub few : length message.params ≤ 15
  pub words : IsTrue (are_words message.params)
  pub one_line : IsTrue (list_all is_one_line message.params)

-- the last parameter, after a `:` where it needs one
abbrev pub last_text : List ℕ → List ℕ
last_text param = if needs_colon param then 58 ∷ param else param

-- each parameter after a blank
abbrev pub params_text : List (List ℕ) → List ℕ
params_text [] = []
params_text (param ∷ []) = 32 ∷ last_text param
params_text (param ∷ next ∷ params) = 32 ∷ (param ++ params_text (next ∷ params))

-- the command and the parameters, without tags and a prefix
abbrev pub line_of : Message → List ℕ
line_of message = message.command ++ params_text message.params

abbrev pub without_prefix : Message → Message
without_prefix message = record {
  tags = [];
  nick = [];
  user = [];
  host = [];
  command = message.command;
  params = message.params;
}
