use Rattle.std.proofs.Common.{◌≡◌, ◌++◌, map, drop}
use Rattle.wc_options.specs.Config.{text_of_lines, set_lines}
use Rattle.wc_options.specs.Table.{row_of}
use Rattle.wc_options.proofs.write.write_values.Given as goal

abbrev pub invariant-loop-place : goal.invariant-loop-place
invariant-loop-place l =
    l.text ++ text_of_lines (set_lines l.prefix (map row_of (drop l.place l.table)) (drop l.place l.values)) ≡ l.fn.text ++ text_of_lines (set_lines l.prefix (map row_of l.table) l.values)
