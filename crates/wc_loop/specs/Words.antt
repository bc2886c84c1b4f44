-- What the words of a call ask.
use Rattle.std.specs.Prelude.{ℕ, ◌+◌, ◌^◌, ◌==◌, Bool, true, false, ◌&&◌, ◌||◌, List, [], ◌∷◌, ◌++◌}
use Rattle.std.specs.Prelude.{if◌then◌else◌, nat_le, Option, Some, None, Result, Ok, Err, codes, ℤ}
use Rattle.std.specs.Prelude.{pos, negsuc}
use Rattle.std.specs.Str.{bytes_eq}
use Rattle.wc_text.specs.Integer.{integer_of}
use Rattle.wc_loop.specs.declared.words.Shows.{Shows}
use Rattle.wc_loop.specs.declared.words.Shows.TheVariants.{Nothing, Version, Help, Demo}
use Rattle.wc_loop.specs.declared.words.Wish.{Wish}

-- a number of turns is 1 to 2^62
abbrev pub turns_by : Option ℤ → Option ℕ
turns_by (Some (pos n)) = if nat_le 1 n && nat_le n (2 ^ 62) then Some n else None
turns_by (Some (negsuc n)) = None
turns_by None = None

unfoldable pub turns_of : List ℕ → Option ℕ
turns_of text = turns_by (integer_of text)

-- a number of lines of a demo is 1 to 100,000
abbrev pub demo_by : Option ℤ → Option ℕ
demo_by (Some (pos n)) = if nat_le 1 n && nat_le n 100000 then Some n else None
demo_by (Some (negsuc n)) = None
demo_by None = None

unfoldable pub demo_of : List ℕ → Option ℕ
demo_of text = demo_by (integer_of text)

unfoldable pub is_version : List ℕ → Bool
is_version word = bytes_eq word (codes "-v")

unfoldable pub is_help : List ℕ → Bool
is_help word = bytes_eq word (codes "-h") || bytes_eq word (codes "--help")

unfoldable pub is_folder : List ℕ → Bool
is_folder word = bytes_eq word (codes "-d")

unfoldable pub is_turns : List ℕ → Bool
is_turns word = bytes_eq word (codes "--turns")

unfoldable pub is_demo : List ℕ → Bool
is_demo word = bytes_eq word (codes "--demo")

-- a command of the start comes after it
unfoldable pub is_command : List ℕ → Bool
is_command word = bytes_eq word (codes "-r")

-- no server is connected at the start
unfoldable pub is_unconnected : List ℕ → Bool
is_unconnected word = bytes_eq word (codes "-a")

-- what is asked after a word that takes no value; none where the word takes one, or is none
unfoldable pub asked_by : Wish → List ℕ → Option Wish
asked_by wish word = if is_version word then Some (record wish { shows = Version }) else (
    if is_help word then Some (record wish { shows = Help }) else (
    if is_unconnected word then Some (record wish { holds = true }) else None))

-- whether a word takes a value that is text
abbrev pub takes_text : List ℕ → Bool
takes_text word = is_folder word || is_command word

-- whether it takes one that is a number
abbrev pub takes_number : List ℕ → Bool
takes_number word = is_turns word || is_demo word

abbrev pub takes_value : List ℕ → Bool
takes_value word = takes_text word || takes_number word

abbrev pub with_turns : Wish → Option ℕ → Option Wish
with_turns wish None = None
with_turns wish (Some n) = Some (record wish { turns = n })

-- a demo is shown, unless a text is asked for, whichever comes first
abbrev pub shown_after : Shows → ℕ → Shows
shown_after Nothing lines = Demo lines
shown_after Version lines = Version
shown_after Help lines = Help
shown_after (Demo others) lines = Demo lines

abbrev pub with_demo : Wish → Option ℕ → Option Wish
with_demo wish None = None
with_demo wish (Some lines) = Some (record wish { shows = shown_after wish.shows lines })

-- what is asked after a word that takes a value, and its value; none where that is unreadable
unfoldable pub asked_with : Wish → List ℕ → List ℕ → Option Wish
asked_with wish word value = if is_turns word then with_turns wish (turns_of value) else (
    if is_demo word then with_demo wish (demo_of value) else Some wish)

abbrev pub with_wish : Option Wish → ℕ → (Wish → Result Wish ℕ) → Result Wish ℕ
with_wish (Some wish) place others = others wish
with_wish None place others = Err place

abbrev pub with_flag : Option Wish → (Wish → Result Wish ℕ) → Result Wish ℕ → Result Wish ℕ
with_flag (Some wish) others valued = others wish
with_flag None others valued = valued

-- what words ask after the first `place` of them, which asked `wish`; or the number of the first
-- one with a fault
abbrev pub wish_from : ℕ → Wish → List (List ℕ) → Result Wish ℕ
wish_from place wish [] = Ok wish
wish_from place wish (word ∷ []) = with_flag (asked_by wish word) (λ asked. Ok asked)
    (Err (place + 1))
wish_from place wish (word ∷ value ∷ words) = with_flag (asked_by wish word)
    (λ asked. wish_from (place + 1) asked (value ∷ words)) (
    if takes_value word then with_wish (asked_with wish word value) (place + 2)
    (λ asked. wish_from (place + 2) asked words) else Err (place + 1))

-- what the words ask, or the number of the first one with a fault, counted from 1
abbrev pub wish_of : List (List ℕ) → Result Wish ℕ
wish_of words = wish_from 0 (record { shows = Nothing; turns = 2 ^ 62; holds = false }) words

-- the folder that words name after others that named one, the last of which counts
abbrev pub folder_from : Option (List ℕ) → List (List ℕ) → Option (List ℕ)
folder_from folder [] = folder
folder_from folder (word ∷ []) = folder
folder_from folder (word ∷ value ∷ words) =
    if is_folder word then folder_from (Some value) words else (
    if takes_number word || is_command word then folder_from folder words
    else folder_from folder (value ∷ words))

abbrev pub folder_of : List (List ℕ) → Option (List ℕ)
folder_of words = folder_from None words

-- a command has a slash in front
abbrev pub with_slash : List ℕ → List ℕ
with_slash [] = 47 ∷ []
with_slash (byte ∷ bytes) = if byte == 47 then byte ∷ bytes else 47 ∷ byte ∷ bytes

-- the commands that words name, after these
abbrev pub commands_from : List (List ℕ) → List (List ℕ) → List (List ℕ)
commands_from commands [] = commands
commands_from commands (word ∷ []) = commands
commands_from commands (word ∷ value ∷ words) =
    if is_command word then commands_from (commands ++ with_slash value ∷ []) words else (
    if takes_number word || is_folder word then commands_from commands words
    else commands_from commands (value ∷ words))

-- the commands that are run at the start
abbrev pub commands_of : List (List ℕ) → List (List ℕ)
commands_of words = commands_from [] words

-- whether no server is connected by itself at the start
abbrev pub holds_in : Result Wish ℕ → Bool
holds_in (Ok wish) = wish.holds
holds_in (Err n) = false

-- what words ask of the start
pub record Opening : Type 0 where
  -- what is run
  pub commands : List (List ℕ)
  pub holds : Bool

abbrev pub opening_of : List (List ℕ) → Opening
opening_of words = record { commands = commands_of words; holds = holds_in (wish_of words) }
