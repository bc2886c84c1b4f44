use Rattle.std.proofs.Common.{Some, None, sym, ◌∙◌}
use Rattle.wc_text.proofs.MaskLemmas.{part_and_star}
use Rattle.wc_text.proofs.masks.matches_some_end.Goals as goal

pub returns-in_default-after_first : goal.returns-in_default-after_first
returns-in_default-after_first c =
    let h = c.in-Some.ensures in
    sym (part_and_star c.args.fold c.loop-part.mask.now c.in-Some.part.now c.in-Some.others.now c.loop-part.text.now None h.0 h.1 c.in_default-after_first.ensures)
    ∙ c.loop-part.invariant

pub loop-part-preserved : goal.loop-part-preserved
loop-part-preserved c =
    let h = c.in-Some.ensures in
    sym (part_and_star c.args.fold c.loop-part.mask.now c.in-Some.part.now c.in-Some.others.now c.loop-part.text.now (Some c.in-Some-after_first.following.now) h.0 h.1 c.in-Some-after_first.ensures)
    ∙ c.loop-part.invariant
