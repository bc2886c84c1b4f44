use Rattle.std.proofs.Common.{◌≡◌}
use Rattle.std.specs.Prelude.{find}
use Rattle.wc_core.specs.Forms.{command_forms, is_form_of}
use Rattle.wc_core.specs.TypedSeen.{lines_left, length_left}
use Rattle.wc_core.proofs.command_forms.form_named.Given as goal

-- what is found in the lines that are left is what is found in all of them
abbrev pub invariant-loop-left : goal.invariant-loop-left
invariant-loop-left l = find (is_form_of l.name) (lines_left l.left) ≡ find (is_form_of l.name) command_forms

abbrev pub decreases-loop-left : goal.decreases-loop-left
decreases-loop-left l = length_left l.left
