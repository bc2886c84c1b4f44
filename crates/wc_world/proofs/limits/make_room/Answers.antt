use Rattle.std.proofs.Common.{◌≡◌, ◌∙◌, ◌+◌, ℕ, cond, eqb, drop, get_or, option_map, ap, sym}
use Rattle.std.proofs.lemmas.List.{drop_more}
use Rattle.wc_text.specs.declared.names.Handle.{Handle}
use Rattle.wc_lines.specs.Ring.{with_room}
use Rattle.wc_world.specs.Flips.{lies_in}
use Rattle.wc_world.specs.Kept.{held_at}
use Rattle.wc_world.specs.Near.{numbers}
use Rattle.wc_world.proofs.LimitLemmas.{done_once, room_twice, room_at, on_err}
use Rattle.wc_world.proofs.limits.make_room.Goals as goal

pub loop-h-preserved : goal.loop-h-preserved
loop-h-preserved c =
    let g = with_room c.args.limit in
    let h : Handle = get_or c.args.buffers.now c.loop-h.h-index (record { 0 = 0 }) in
    let made = c.in_ok-make_room_at.ensures.ok in (
      λ q.
          let was = held_at c.loop-h.held q in
          let rest = numbers (drop (c.loop-h.h-index + 1) c.args.buffers.now) in
          ap (λ o. cond (lies_in q rest) (option_map g o) o) (made q)
          ∙ done_once g (room_twice c.args.limit) (eqb h.0 q) (lies_in q rest) was
          ∙ ap (λ hs. cond (lies_in q (numbers hs)) (option_map g was) was) (sym (drop_more c.args.buffers.now c.loop-h.h-index (record { 0 = 0 }) c.loop-h-test.true))
          ∙ c.loop-h.invariant.0 q,
      λ q. room_at (eqb h.0 q) c.args.limit _ (held_at c.loop-h.held q) _ (c.loop-h.invariant.1 q) (made q),
    )

pub returns-in_err-make_room_at-clause-err : goal.returns-in_err-make_room_at-clause-err
returns-in_err-make_room_at-clause-err c =
    let same : (q : ℕ) → held_at c.make_room_at.new.held q ≡ held_at c.loop-h.held q = c.in_err-make_room_at.ensures.err in
    on_err c.from_residual.result (λ q. let r = c.loop-h.invariant.1 q in (r.0, same q ∙ r.1))
