-- Lines that get the flags that are at their content handles.
use Rattle.std.specs.Prelude.{ℕ, Bool, nat_eq, Option, Some, None, map}
use Rattle.std.specs.HashMap.{HashMap, get_by}
use Rattle.wc_lines.specs.declared.line.Line.{Line}
use Rattle.wc_lines.specs.Held.{RingView}

-- the flag that is at a content handle
abbrev pub flag_at : {S : Type 0} → HashMap ℕ Bool S → ℕ → Option Bool
flag_at flags content = get_by (nat_eq content) flags

-- the line with this flag, or as it is where there is none
abbrev pub set_flag : Option Bool → Line → Line
set_flag None line = line
set_flag (Some on) line = record line { displayed = on }

abbrev pub with_own_flag : (ℕ → Option Bool) → Line → Line
with_own_flag flags line = set_flag (flags line.content.0) line

abbrev pub with_flags : (ℕ → Option Bool) → RingView → RingView
with_flags flags held = record held { lines = map (with_own_flag flags) held.lines }
