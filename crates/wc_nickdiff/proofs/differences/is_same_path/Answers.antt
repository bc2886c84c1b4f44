use Rattle.std.proofs.Common.{◌<◌, length, sym, ◌∙◌, arith}
use Rattle.wc_nicklist.proofs.Paths.{other_lengths, one_differs, one_alike, all_alike}
use Rattle.wc_nickdiff.proofs.differences.is_same_path.Goals as goal

pub returns-then-a-b : goal.returns-then-a-b
returns-then-a-b c = sym (other_lengths c.args.a.now c.args.b.now c.if-a-b.true)

pub returns-then-ne : goal.returns-then-ne
returns-then-ne c =
    let h : c.loop-i.i < length c.args.a.now = omega arith in
    let l : c.loop-i.i < length c.args.b.now = omega (arith, c.if-a-b.false) in
    sym (c.loop-i.invariant ∙ one_differs c.args.a.now c.args.b.now c.loop-i.i c.index-a-i.result c.index-b-i.result h l c.index-a-i.is c.index-b-i.is c.as_slice.result.now c.as_slice-in-loop-i.result.now c.as_slice.ensures c.as_slice-in-loop-i.ensures c.if-ne.ensures)

pub loop-i-preserved : goal.loop-i-preserved
loop-i-preserved c =
    let h : c.loop-i.i < length c.args.a.now = omega arith in
    let l : c.loop-i.i < length c.args.b.now = omega (arith, c.if-a-b.false) in
    c.loop-i.invariant ∙ one_alike c.args.a.now c.args.b.now c.loop-i.i c.index-a-i.result c.index-b-i.result h l c.index-a-i.is c.index-b-i.is c.as_slice.result.now c.as_slice-in-loop-i.result.now c.as_slice.ensures c.as_slice-in-loop-i.ensures c.if-ne.ensures

pub returns : goal.returns
returns c = sym (c.loop-i.invariant ∙ all_alike c.args.a.now c.args.b.now c.loop-i.i (omega arith) (omega (arith, c.if-a-b.false)))
