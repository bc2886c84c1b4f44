use Rattle.std.proofs.Common.{◌∙◌, ap, sym, length, arith}
use Rattle.wc_eval.specs.Walks.{meant}
use Rattle.wc_eval.specs.Reading.{blocks_left, from_sign}
use Rattle.wc_eval.proofs.PartLemmas.{blocks_start, some_sign, sign_here, sign_later}
use Rattle.wc_eval.proofs.parts.from_sign.Goals as goal

pub steps-init : goal.steps-init
steps-init c =
    let same = ap length c.new-walk.ensures.rest in record {
      found = ap from_sign (blocks_start c.new-walk.result c.args.text.now c.new-walk.ensures.pieces);
      shorter = omega (arith, same);
    }

pub returns-then-is_some-clause-found : goal.returns-then-is_some-clause-found
returns-then-is_some-clause-found c =
    sign_here c.steps.walk (meant c.in-Some.field-0-0) (blocks_left c.in-Some.after) c.rest.result.now
    c.rest.ensures c.in-Some.ensures.steps c.rest-then-is_some.result.now c.rest-then-is_some.ensures
    (some_sign _ c.cut.result c.rest.result.now _ c.cut.ensures.found c.if-is_some.ensures)
    ∙ c.steps.invariant.found

pub steps-preserved : goal.steps-preserved
steps-preserved c = record {
  found = sym (sign_later c.steps.walk (meant c.in-Some.field-0-0) (blocks_left c.in-Some.after)
      c.rest.result.now c.rest.ensures c.in-Some.ensures.steps
      (some_sign _ c.cut.result c.rest.result.now _ c.cut.ensures.found c.if-is_some.ensures))
      ∙ c.steps.invariant.found;
  shorter = omega (arith, c.in-Some.ensures.shorter, c.steps.invariant.shorter);
}
