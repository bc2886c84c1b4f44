use Rattle.std.proofs.Common.{◌≡◌}
use Rattle.std.specs.List.{list_any}
use Rattle.wc_lines.specs.LinesLeft.{lines_left}
use Rattle.wc_model.specs.Parts.{is_flipped}
use Rattle.wc_events.proofs.flip_lookup.has_flipped.Given as goal

-- whether one is flipped is asked of the lines that are left
abbrev pub invariant-loop-line : goal.invariant-loop-line
invariant-loop-line l = list_any (is_flipped l.flips) (lines_left l.line-iterator) ≡ list_any (is_flipped l.flips) l.lines.lines
