use Rattle.std.proofs.Common.{◌≡◌, eqb, cond, [], drop}
use Rattle.std.specs.List.{list_any}
use Rattle.wc_text.specs.declared.names.Handle.{Handle}
use Rattle.wc_nickdiff.specs.Held.{touches_of}
use Rattle.wc_world.specs.Near.{numbers}
use Rattle.wc_board.proofs.pushes.forget_group.Given as goal

abbrev pub invariant-loop-buffer : goal.invariant-loop-buffer
invariant-loop-buffer l = (b : Handle) → cond (list_any (λ n. eqb n b.0) (numbers (drop l.buffer-index l.group))) [] (touches_of b l.pending) ≡ cond (list_any (λ n. eqb n b.0) (numbers l.group)) [] (touches_of b l.initial.pending)
