use Rattle.std.proofs.Common.{length, ap, arith}
use Rattle.wc_lines.proofs.PackedLaws.{shorter, tag_at_front, no_tag}
use Rattle.wc_lines.proofs.packed_texts.count_tags.Goals as goal

pub loop-tag-smaller : goal.loop-tag-smaller
loop-tag-smaller c = shorter c.loop-tag.rest.now (c.in-Some._tag.now, c.in-Some.after.now) c.in-Some.ensures

pub loop-tag-preserved : goal.loop-tag-preserved
loop-tag-preserved c =
    let less = shorter c.loop-tag.rest.now (c.in-Some._tag.now, c.in-Some.after.now) c.in-Some.ensures in
    let more = ap length (tag_at_front c.loop-tag.rest.now c.in-Some._tag.now c.in-Some.after.now c.in-Some.ensures) in
    let was = c.loop-tag.invariant in
    (omega (arith, was.0, more), omega (arith, was.1, less))

pub returns : goal.returns
returns c =
    let none = ap length (no_tag c.loop-tag.rest.now c.in_default.ensures) in
    omega (arith, c.loop-tag.invariant.0, none)
