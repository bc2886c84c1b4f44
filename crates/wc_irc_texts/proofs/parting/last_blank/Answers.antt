use Rattle.std.proofs.Common.{arith}
use Rattle.wc_irc_texts.proofs.PartLemmas.{blank_passed, blank_found}
use Rattle.wc_irc_texts.proofs.parting.last_blank.Goals as goal

pub loop-place-preserved : goal.loop-place-preserved
loop-place-preserved c = record {
  within = omega arith;
  same = blank_passed c.args.text.now c.loop-place.place c.args.last c.loop-place-test.true c.loop-place.invariant.within c.requires c.if-text-place-ne32.true c.loop-place.invariant.same;
}

pub returns-else-text-place-ne32 : goal.returns-else-text-place-ne32
returns-else-text-place-ne32 c =
    blank_found c.args.text.now c.loop-place.place c.args.last c.loop-place.invariant.within c.requires c.if-text-place-ne32.false c.loop-place.invariant.same
