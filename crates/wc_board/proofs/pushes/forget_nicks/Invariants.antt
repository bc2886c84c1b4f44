use Rattle.std.proofs.Common.{◌≡◌, eqb, cond, []}
use Rattle.std.specs.List.{list_any}
use Rattle.wc_text.specs.declared.names.Handle.{Handle}
use Rattle.wc_nickdiff.specs.Held.{touches_of}
use Rattle.wc_model.specs.Order.{order}
use Rattle.wc_world.specs.Near.{all_numbers}
use Rattle.wc_board.proofs.pushes.forget_nicks.Given as goal

abbrev pub invariant-loop-group : goal.invariant-loop-group
invariant-loop-group l = (b : Handle) → cond (list_any (λ n. eqb n b.0) (all_numbers l.group-iterator)) [] (touches_of b l.pending) ≡ cond (list_any (λ n. eqb n b.0) (order l.world.groups)) [] (touches_of b l.initial.pending)
