-- The arguments of a trigger's hook.
use Rattle.std.specs.Prelude.{ℕ, Bool, false, ◌&&◌, ◌==◌, List, [], ◌∷◌, Option, Some, None, codes}
use Rattle.std.specs.Prelude.{option_map, if◌then◌else◌, bytes_eq}
use Rattle.std.specs.Option.{option_and_then}
use Rattle.wc_text.specs.Splits.{before, text_after}
use Rattle.wc_options.specs.Number.{number_in}
use Rattle.wc_hooks.specs.declared.kind.HookKind.{HookKind}
use Rattle.wc_hooks.specs.declared.kind.HookKind.TheVariants.{Relay, Signal, Print, Modifier}
use Rattle.wc_hooks.specs.declared.kind.HookKind.TheVariants.{Command, CommandRun, Timer}
use Rattle.wc_triggers.specs.Words.{is_name}
use Rattle.wc_triggers.specs.Hooks.{modifiers, is_among}
use Rattle.wc_triggers.specs.Keys.{key_of, ranked, signal_keys}
use Rattle.wc_triggers.specs.declared.keys.TriggerKey.{TriggerKey}
use Rattle.wc_triggers.specs.declared.arguments.Arguments.{Arguments}

-- arguments that are keys alone
abbrev pub keyed : List TriggerKey → Arguments
keyed keys = record {
  keys = keys;
  buffers = [];
  tags = [];
  text = [];
  interval = 0;
  max_calls = 0;
}

-- ---- a print: masks of buffers, of tags, and a text, parted at the first two semicolons

abbrev pub printed : ℕ → List ℕ → List ℕ → Option (List ℕ) → Option Arguments
printed priority buffers tags None = None
printed priority buffers tags (Some text) = Some (record {
  keys = key_of priority [] ∷ [];
  buffers = buffers;
  tags = tags;
  text = text;
  interval = 0;
  max_calls = 0;
})

abbrev pub printed_after : ℕ → List ℕ → Option (List ℕ) → Option Arguments
printed_after priority buffers None = None
printed_after priority buffers (Some rest) =
    printed priority buffers (before 59 rest) (text_after 59 rest)

abbrev pub print_arguments : ℕ → List ℕ → Option Arguments
print_arguments priority text = printed_after priority (before 59 text) (text_after 59 text)

-- ---- a timer: an interval, a zero, and how many calls there may be, parted at semicolons

abbrev pub both : Option ℕ → Option ℕ → Option (ℕ × ℕ)
both None b = None
both (Some a) None = None
both (Some a) (Some b) = Some (a, b)

abbrev pub times_by : List ℕ → List ℕ → Option (List ℕ) → Option (ℕ × ℕ)
times_by interval zero None = None
times_by interval zero (Some calls) = if bytes_eq zero (codes "0")
    then both (number_in 100 2147483647 interval) (number_in 0 2147483647 calls) else None

abbrev pub times_after : List ℕ → Option (List ℕ) → Option (ℕ × ℕ)
times_after interval None = None
times_after interval (Some rest) = times_by interval (before 59 rest) (text_after 59 rest)

abbrev pub times_of : List ℕ → Option (ℕ × ℕ)
times_of text = times_after (before 59 text) (text_after 59 text)

abbrev pub timed : ℕ → ℕ × ℕ → Arguments
timed priority times = record {
  keys = key_of priority [] ∷ [];
  buffers = [];
  tags = [];
  text = [];
  interval = times.0;
  max_calls = times.1;
}

-- ---- a modifier, a command, a command that is about to run

-- a slash and a name
abbrev pub is_slashed : List ℕ → Bool
is_slashed [] = false
is_slashed (b ∷ name) = b == 47 && is_name name

-- whether the text is a key of such a hook
abbrev pub is_key : HookKind → List ℕ → Bool
is_key Relay text = false
is_key Signal text = false
is_key Print text = false
is_key Modifier text = is_among modifiers text
is_key Command text = is_name text
is_key CommandRun text = is_slashed text
is_key Timer text = false

abbrev pub key_arguments : HookKind → ℕ → List ℕ → Option Arguments
key_arguments kind priority text = if is_key kind text
    then Some (keyed (key_of priority text ∷ [])) else None

-- ---- all hooks

-- the arguments after their priority
abbrev pub ranked_arguments : HookKind → ℕ × List ℕ → Option Arguments
ranked_arguments Relay (priority, text) = key_arguments Relay priority text
ranked_arguments Signal (priority, text) = key_arguments Signal priority text
ranked_arguments Print (priority, text) = print_arguments priority text
ranked_arguments Modifier (priority, text) = key_arguments Modifier priority text
ranked_arguments Command (priority, text) = key_arguments Command priority text
ranked_arguments CommandRun (priority, text) = key_arguments CommandRun priority text
ranked_arguments Timer (priority, text) = option_map (timed priority) (times_of text)

abbrev pub others_of : HookKind → List ℕ → Option Arguments
others_of kind text = option_and_then (ranked_arguments kind) (ranked text)

-- what the arguments of a hook say, where they say something
abbrev pub arguments_of : HookKind → List ℕ → Option Arguments
arguments_of Relay text = others_of Relay text
arguments_of Signal text = option_map keyed (signal_keys text)
arguments_of Print text = others_of Print text
arguments_of Modifier text = others_of Modifier text
arguments_of Command text = others_of Command text
arguments_of CommandRun text = others_of CommandRun text
arguments_of Timer text = others_of Timer text
