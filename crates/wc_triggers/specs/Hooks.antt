-- What triggers may be hooked for, and the names that stand there.
use Rattle.std.specs.Prelude.{ℕ, Bool, List, [], ◌∷◌, codes, find, Option, bytes_eq}
use Rattle.std.specs.List.{list_any}
use Rattle.wc_hooks.specs.declared.kind.HookKind.{HookKind}
use Rattle.wc_hooks.specs.declared.kind.HookKind.TheVariants.{Relay, Signal, Print, Modifier}
use Rattle.wc_hooks.specs.declared.kind.HookKind.TheVariants.{Command, CommandRun, Timer}

-- the name of a hook; no trigger is hooked for `Relay`
abbrev pub hook_name : HookKind → List ℕ
hook_name Relay = []
hook_name Signal = codes "signal"
hook_name Print = codes "print"
hook_name Modifier = codes "modifier"
hook_name Command = codes "command"
hook_name CommandRun = codes "command_run"
hook_name Timer = codes "timer"

abbrev pub hooks : List HookKind
hooks = Signal ∷ Print ∷ Modifier ∷ Command ∷ CommandRun ∷ Timer ∷ []

-- the hook that a word names
abbrev pub kind_named : List ℕ → Option HookKind
kind_named word = find (λ kind. bytes_eq word (hook_name kind)) hooks

abbrev pub is_among : List (List ℕ) → List ℕ → Bool
is_among names name = list_any (λ other. bytes_eq other name) names

-- ---- signals and modifiers

unfoldable pub signals : List (List ℕ)
signals =
    codes "buffer_opened"
    ∷ codes "buffer_closing"
    ∷ codes "buffer_moved"
    ∷ codes "buffer_merged"
    ∷ codes "buffer_unmerged"
    ∷ codes "buffer_hidden"
    ∷ codes "buffer_unhidden"
    ∷ codes "buffer_renamed"
    ∷ codes "buffer_title_changed"
    ∷ codes "buffer_localvar_added"
    ∷ codes "buffer_localvar_changed"
    ∷ codes "buffer_localvar_removed"
    ∷ codes "buffer_cleared"
    ∷ codes "buffer_line_added"
    ∷ codes "irc_server_connected"
    ∷ codes "irc_server_disconnected"
    ∷ []

unfoldable pub modifiers : List (List ℕ)
modifiers = codes "weechat_print" ∷ codes "input_text_for_buffer" ∷ []

-- ---- variables

-- the variables that a hook gives
unfoldable pub variables_of : HookKind → List (List ℕ)
variables_of Relay = []
variables_of Signal = codes "tg_signal" ∷ codes "tg_signal_data" ∷ []
variables_of Print = codes "tg_tags" ∷ codes "tg_prefix" ∷ codes "tg_message" ∷ []
variables_of Modifier = codes "tg_modifier" ∷ codes "tg_string" ∷ []
variables_of Command =
    codes "tg_argv1"
    ∷ codes "tg_argv2"
    ∷ codes "tg_argv3"
    ∷ codes "tg_argv4"
    ∷ codes "tg_argv5"
    ∷ codes "tg_argv6"
    ∷ codes "tg_argv7"
    ∷ codes "tg_argv8"
    ∷ codes "tg_argv9"
    ∷ codes "tg_argv_eol1"
    ∷ []
variables_of CommandRun = codes "tg_command" ∷ []
variables_of Timer = codes "tg_remaining_calls" ∷ []

-- the one of them in which patterns replace where no other is named
unfoldable pub own_variable : HookKind → List ℕ
own_variable Relay = []
own_variable Signal = codes "tg_signal_data"
own_variable Print = codes "tg_message"
own_variable Modifier = codes "tg_string"
own_variable Command = codes "tg_argv_eol1"
own_variable CommandRun = codes "tg_command"
own_variable Timer = codes "tg_remaining_calls"
