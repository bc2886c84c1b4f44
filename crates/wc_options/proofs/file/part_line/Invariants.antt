use Rattle.wc_options.proofs.FileLemmas.{IsPartedFrom}
use Rattle.wc_options.proofs.file.part_line.Given as goal

abbrev pub invariant-loop-place : goal.invariant-loop-place
invariant-loop-place l = IsPartedFrom l.line l.place
