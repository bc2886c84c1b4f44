-- What a completion answers.
use Rattle.std.specs.Prelude.{◌≡◌, ℕ, ℤ, pos, negsuc, Bool, true, false, ◌&&◌, ◌==◌, nat_le, List, []}
use Rattle.std.specs.Prelude.{◌∷◌, length, filter, Option, Some, None, if◌then◌else◌, codes}
use Rattle.wc_text.specs.declared.names.Handle.{Handle}
use Rattle.wc_buffers.specs.Calls.{is_there}
use Rattle.wc_model.specs.World.{World, rows_at}
use Rattle.wc_nicklist.specs.declared.item.Row.{Row}
use Rattle.wc_complete.specs.declared.completion.Completion.{Completion}
use Rattle.wc_complete.specs.declared.completion.Context.{Context}
use Rattle.wc_complete.specs.declared.completion.Context.TheVariants.{Command, Auto}
use Rattle.wc_complete.specs.BaseWord.{char_count, last_word, before_word, front_at}
use Rattle.wc_complete.specs.Candidates.{begins_as, all_slashed}
use Rattle.wc_complete.specs.NickNames.{nick_names}
use Rattle.wc_complete.specs.Order.{IsInOrder, in_order}

abbrev pub begins_with_slash : List ℕ → Bool
begins_with_slash [] = false
begins_with_slash (byte ∷ text) = byte == 47

-- a word with a slash in front is a command where nothing is before it
abbrev pub context_by : List ℕ → List ℕ → Context
context_by before word =
    if (length before == 0) && begins_with_slash word then Command else Auto

abbrev pub context_of : List ℕ → Context
context_of front = context_by (before_word front) (last_word front)

abbrev pub context_name : Context → List ℕ
context_name Command = codes "command"
context_name Auto = codes "auto"

abbrev pub candidates_of : Context → List (List ℕ) → List Row → List (List ℕ)
candidates_of Command commands rows = all_slashed commands
candidates_of Auto commands rows = nick_names rows

-- what completes the end of a text, where these commands and these rows of a nicklist are there
pub record Completes (commands : List (List ℕ)) (rows : List Row) (front : List ℕ) (completion : Completion) : Type 0 where
  pub context : completion.context ≡ context_of front
  pub base_word : completion.base_word ≡ last_word front
  pub pos_start : completion.pos_start ≡ char_count (before_word front)
  pub pos_end : completion.pos_end ≡ char_count front
  pub list : IsInOrder (filter (begins_as (last_word front))
      (candidates_of (context_of front) commands rows)) completion.list

-- the same as a value
unfoldable pub completion_of : List (List ℕ) → List Row → List ℕ → Completion
completion_of commands rows front = record {
  context = context_of front;
  base_word = last_word front;
  pos_start = char_count (before_word front);
  pos_end = char_count front;
  list = in_order (filter (begins_as (last_word front))
      (candidates_of (context_of front) commands rows));
}

-- -1 is the end of a text, and no position is before that
abbrev pub is_position : ℤ → Bool
is_position (pos count) = true
is_position (negsuc n) = n == 0

-- no line that is read is longer
abbrev pub longest : ℕ
longest = 65536

-- What completes the word that ends at a position of a text, in a buffer. Nothing where the buffer is
-- not there, at no position, and where no line holds the text.
unfoldable pub completion_at : World → List (List ℕ) → Handle → ℤ → List ℕ → Option Completion
completion_at world commands buffer position text =
    if is_there buffer world.groups && is_position position && nat_le (length text) longest
    then Some (completion_of commands (rows_at world buffer.0) (front_at position text)) else None
