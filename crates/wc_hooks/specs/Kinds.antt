-- Kinds of hooks and their owners, compared.
use Rattle.std.specs.Prelude.{ℕ, Bool, false, ◌==◌}
use Rattle.wc_hooks.specs.declared.kind.HookKind.{HookKind}
use Rattle.wc_hooks.specs.declared.kind.HookKind.TheVariants.{Relay, Signal, Print, Modifier}
use Rattle.wc_hooks.specs.declared.kind.HookKind.TheVariants.{Command, CommandRun, Timer}
use Rattle.wc_hooks.specs.declared.entry.Owner.{Owner}
use Rattle.wc_hooks.specs.declared.entry.Owner.TheVariants.{Session, Trigger}

abbrev pub kind_number : HookKind → ℕ
kind_number Relay = 0
kind_number Signal = 1
kind_number Print = 2
kind_number Modifier = 3
kind_number Command = 4
kind_number CommandRun = 5
kind_number Timer = 6

abbrev pub same_kind : HookKind → HookKind → Bool
same_kind a b = kind_number a == kind_number b

-- the kind of relay sessions
abbrev pub is_relay : HookKind → Bool
is_relay kind = kind_number kind == 0

abbrev pub same_owner : Owner → Owner → Bool
same_owner (Session a) (Session b) = a.0 == b.0
same_owner (Session a) (Trigger b) = false
same_owner (Trigger a) (Session b) = false
same_owner (Trigger a) (Trigger b) = a == b
