use Rattle.std.proofs.Common.{◌∙◌, ◌+◌, cond, eqb, drop, get_or, option_map, ap, sym}
use Rattle.std.proofs.lemmas.List.{drop_more}
use Rattle.wc_text.specs.declared.names.Handle.{Handle}
use Rattle.wc_lines.specs.Flags.{flag_at, with_flags}
use Rattle.wc_world.specs.Flips.{lies_in}
use Rattle.wc_world.specs.Kept.{held_at}
use Rattle.wc_world.specs.Near.{numbers}
use Rattle.wc_world.proofs.LastFlags.{settled}
use Rattle.wc_world.proofs.all_lines.set_flags.Goals as goal

pub loop-h-preserved : goal.loop-h-preserved
loop-h-preserved c = λ q.
    let flags = flag_at c.args.flags.now in
    let was = held_at c.loop-h.held q in
    let h : Handle = get_or c.args.buffers.now c.loop-h.h-index (record { 0 = 0 }) in
    let rest = numbers (drop (c.loop-h.h-index + 1) c.args.buffers.now) in
    ap (λ o. cond (lies_in q rest) (option_map (with_flags flags) o) o) (c.set_flags_at.ensures q)
    ∙ settled flags (eqb h.0 q) (lies_in q rest) was
    ∙ ap (λ hs. cond (lies_in q (numbers hs)) (option_map (with_flags flags) was) was) (sym (drop_more c.args.buffers.now c.loop-h.h-index (record { 0 = 0 }) c.loop-h-test.true))
    ∙ c.loop-h.invariant q
