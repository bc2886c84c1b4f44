use Rattle.std.proofs.Common.{◌∙◌, ap, sym, nat_le, subst, ◌<◌, arith}
use Rattle.wc_eval.specs.Pieces.{open_after}
use Rattle.wc_eval.specs.Walks.{left_of, meant}
use Rattle.wc_eval.proofs.PartLemmas.{too_many, most_start}
use Rattle.wc_eval.proofs.parts.opens_at_most.Goals as goal

pub steps-init : goal.steps-init
steps-init c = record {
  same = ap (λ n. nat_le n c.args.most)
      (most_start c.new-walk.result c.args.text.now c.new-walk.ensures.pieces);
  few = omega arith;
}

pub returns-then-open-most : goal.returns-then-open-most
returns-then-open-most c =
    let more : c.args.most < open_after (meant c.in-Some.piece) c.steps.open =
    subst (λ n. c.args.most < n) c.open_after-open.ensures c.if-open-most.true in
    sym (too_many c.steps.open c.args.most (left_of c.steps.walk) (meant c.in-Some.piece)
    (left_of c.in-Some.after) c.in-Some.ensures.steps more) ∙ c.steps.invariant.same
