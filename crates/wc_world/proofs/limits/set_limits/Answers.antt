use Rattle.std.proofs.Common.{◌∙◌, ◌+◌, cond, eqb, drop, get_or, option_map, ap, sym, subst}
use Rattle.std.proofs.lemmas.List.{drop_more}
use Rattle.wc_text.specs.declared.names.Handle.{Handle}
use Rattle.wc_lines.specs.Ring.{with_limit}
use Rattle.wc_world.specs.Flips.{lies_in}
use Rattle.wc_world.specs.Kept.{held_at}
use Rattle.wc_world.specs.Limits.{HasRoom}
use Rattle.wc_world.specs.Near.{numbers}
use Rattle.wc_world.proofs.LimitLemmas.{done_once, limit_twice, room_left}
use Rattle.wc_world.proofs.limits.set_limits.Goals as goal

pub loop-h-preserved : goal.loop-h-preserved
loop-h-preserved c =
    let g = with_limit c.args.limit in
    let h : Handle = get_or c.args.buffers.now c.loop-h.h-index (record { 0 = 0 }) in
    let set = c.set_limit_at.ensures in (
      λ q.
          let was = held_at c.loop-h.held q in
          let rest = numbers (drop (c.loop-h.h-index + 1) c.args.buffers.now) in
          ap (λ o. cond (lies_in q rest) (option_map g o) o) (set q)
          ∙ done_once g (limit_twice c.args.limit) (eqb h.0 q) (lies_in q rest) was
          ∙ ap (λ hs. cond (lies_in q (numbers hs)) (option_map g was) was) (sym (drop_more c.args.buffers.now c.loop-h.h-index (record { 0 = 0 }) c.loop-h-test.true))
          ∙ c.loop-h.invariant.0 q,
      λ q. subst (HasRoom c.args.limit) (sym (set q)) (room_left (eqb h.0 q) c.args.limit c.args.limit (held_at c.loop-h.held q) (c.loop-h.invariant.1 q)),
    )
