use Rattle.std.proofs.Common.{Some, sym, subst, rules, arith, ◌∷◌, to_z}
use mir.Val.{SFits}
use mir.Syntax.{w64}
use Rattle.std.proofs.lemmas.Int.{to_z-of_z}
use Rattle.wc_eval.specs.Fronts.{SumGoesOn, ProductGoesOn, NumberGoesOn, EnclosedGoesOn, IsFront}
use Rattle.wc_eval.proofs.NumberLemmas.{plain_enclosed, plain_literal, enclosed_open, enclosed_close}
use Rattle.wc_eval.proofs.NumberLemmas.{number_fails, number_over, number_reads, number_ends}
use Rattle.wc_eval.proofs.LoopLemmas.{product_start, product_next, product_stops}
use Rattle.wc_eval.proofs.LoopLemmas.{product_over, sum_start, sum_next, sum_stops, sum_over}
use Rattle.wc_eval.proofs.FrontLemmas.{number_front, literal_written, enclosed_reads, front_weaker}
use Rattle.wc_eval.proofs.FrontLemmas.{product_joined, sum_joined}
use Rattle.wc_eval.proofs.sums.+calc.Goals as goal

-- ---- a number in parentheses

pub read_enclosed-returns-in_err-cut_closing-clause-value :
    goal.read_enclosed-returns-in_err-cut_closing-clause-value
read_enclosed-returns-in_err-cut_closing-clause-value t c =
    subst (EnclosedGoesOn c.args.depth c.args.text.now) (sym c.from_residual-in_err-cut_closing.ensures)
    (enclosed_open c.args.depth c.args.text.now c.in_ok-value.value c.in_ok-value.rest (omega arith)
    c.in_ok-value.ensures.value c.in_ok-value.ensures.ended c.in_err-cut_closing.ensures.found)

pub read_enclosed-returns-clause-value : goal.read_enclosed-returns-clause-value
read_enclosed-returns-clause-value t c =
    let fits : SFits w64 c.in_ok-value.value = search rules in
    subst (λ v. EnclosedGoesOn c.args.depth c.args.text.now (Some (v, c.in_ok-cut_closing.field-0)))
    (sym (to_z-of_z w64 c.in_ok-value.value fits))
    (enclosed_close c.args.depth c.args.text.now c.in_ok-value.value c.in_ok-value.rest (omega arith)
    c.in_ok-value.ensures.value c.in_ok-cut_closing.field-0 c.in_ok-cut_closing.ensures.found)

pub read_enclosed-returns-clause-front : goal.read_enclosed-returns-clause-front
read_enclosed-returns-clause-front t c =
    let fits : SFits w64 c.in_ok-value.value = search rules in
    subst (λ v. IsFront c.args.depth 2 (40 ∷ c.args.text.now) v c.in_ok-cut_closing.field-0.now)
    (sym (to_z-of_z w64 c.in_ok-value.value fits))
    (enclosed_reads c.args.depth c.args.text.now c.in_ok-value.value c.in_ok-value.rest.now
    c.in_ok-cut_closing.field-0.now (omega arith) c.in_ok-value.ensures.front
    c.in_ok-cut_closing.ensures.found)

-- ---- a number with what is before it

pub read_number-returns-in_err-value-clause-value : goal.read_number-returns-in_err-value-clause-value
read_number-returns-in_err-value-clause-value t c =
    let cut = c.cut_negations-negations in
    subst (NumberGoesOn c.args.depth c.args.text.now) (sym c.from_residual.ensures)
    (number_fails c.args.depth c.args.text.now cut.result.1.now cut.result.0 cut.ensures.rest
    cut.ensures.count c.in_err-value.ensures.value)

pub read_number-returns-in_err-negation_of-clause-value :
    goal.read_number-returns-in_err-negation_of-clause-value
read_number-returns-in_err-negation_of-clause-value t c =
    let cut = c.cut_negations-negations in
    let fits : SFits w64 c.in_ok-value.value = search rules in
    subst (NumberGoesOn c.args.depth c.args.text.now) (sym c.from_residual-in_err-negation_of.ensures)
    (number_over c.args.depth c.args.text.now cut.result.1.now cut.result.0 cut.ensures.rest
    cut.ensures.count c.in_ok-value.value c.in_ok-value.rest c.in_ok-value.ensures.value
    (simp to_z-of_z at c.in_err-negation_of.ensures))

pub read_number-returns-clause-value : goal.read_number-returns-clause-value
read_number-returns-clause-value t c =
    let cut = c.cut_negations-negations in
    let fits : SFits w64 c.in_ok-value.value = search rules in
    let short : SFits w64 c.in_ok-negation_of.field-0 = search rules in
    subst (λ v. NumberGoesOn c.args.depth c.args.text.now (Some (v, c.past_margin.result)))
    (sym (to_z-of_z w64 c.in_ok-negation_of.field-0 short))
    (number_reads c.args.depth c.args.text.now cut.result.1.now cut.result.0 cut.ensures.rest
    cut.ensures.count c.in_ok-value.value c.in_ok-negation_of.field-0 c.in_ok-value.rest
    c.past_margin.result c.in_ok-value.ensures.value (simp to_z-of_z at c.in_ok-negation_of.ensures)
    c.past_margin.ensures.text)

pub read_number-returns-clause-front : goal.read_number-returns-clause-front
read_number-returns-clause-front t c =
    let cut = c.cut_negations-negations in
    let fits : SFits w64 c.in_ok-value.value = search rules in
    let short : SFits w64 c.in_ok-negation_of.field-0 = search rules in
    subst (λ v. IsFront c.args.depth 2 c.args.text.now v c.past_margin.result.now)
    (sym (to_z-of_z w64 c.in_ok-negation_of.field-0 short))
    (number_front c.args.depth c.args.text.now cut.result.1.now cut.result.0 cut.ensures.rest
    cut.ensures.count c.in_ok-value.value c.in_ok-negation_of.field-0 c.in_ok-value.rest.now
    c.past_margin.result.now c.in_ok-value.ensures.front (simp to_z-of_z at c.in_ok-negation_of.ensures)
    c.past_margin.ensures.text)

pub read_number-returns-clause-ended : goal.read_number-returns-clause-ended
read_number-returns-clause-ended t c =
    number_ends c.in_ok-value.rest.now c.past_margin.result.now c.past_margin.ensures.text

pub read_plain-returns-in-Some-clause-value : goal.read_plain-returns-in-Some-clause-value
read_plain-returns-in-Some-clause-value t c =
    plain_enclosed c.args.depth c.args.text.now c.read_enclosed.result c.in-Some.inside.now
    c.in-Some.ensures.found c.read_enclosed.ensures.value

pub read_plain-returns-in-None-clause-value : goal.read_plain-returns-in-None-clause-value
read_plain-returns-in-None-clause-value t c =
    plain_literal c.args.depth c.args.text.now c.read_literal.result c.in-None.ensures.found
    c.read_literal.ensures.value

pub read_plain-returns-in-None-clause-front : goal.read_plain-returns-in-None-clause-front
read_plain-returns-in-None-clause-front t c =
    literal_written c.args.depth c.args.text.now c.read_literal.result c.read_literal.ensures.value

-- ---- products

pub read_product-factors-init : goal.read_product-factors-init
read_product-factors-init t c =
    let fits : SFits w64 c.in_ok-value.value = search rules in
    rw (to_z-of_z w64 c.in_ok-value.value fits)
    (record {
      stands = product_start c.args.depth c.args.text.now c.in_ok-value.value c.in_ok-value.rest
          c.in_ok-value.ensures.value;
      front = front_weaker c.args.depth 1 c.args.text.now c.in_ok-value.value c.in_ok-value.rest.now
          c.in_ok-value.ensures.front;
      bare = c.in_ok-value.ensures.ended;
      shorter = c.in_ok-value.ensures.shorter;
    })

pub read_product-returns-in_err-right-clause-value : goal.read_product-returns-in_err-right-clause-value
read_product-returns-in_err-right-clause-value t c =
    subst (ProductGoesOn c.args.depth c.args.text.now) (sym c.from_residual-in_err-right.ensures)
    (product_stops c.args.depth c.args.text.now (to_z w64 c.factors.value-bits) c.factors.rest.now c.in-Some.operator
    c.in-Some.following.now c.factors.invariant.stands (sym c.in-Some.ensures.found)
    c.in_err-right.ensures.value)

pub read_product-returns-in_err-value-2-clause-value :
    goal.read_product-returns-in_err-value-2-clause-value
read_product-returns-in_err-value-2-clause-value t c =
    let fits : SFits w64 c.in_ok-right.right = search rules in
    subst (ProductGoesOn c.args.depth c.args.text.now) (sym c.from_residual-in_err-value-2.ensures)
    (product_over c.args.depth c.args.text.now (to_z w64 c.factors.value-bits) c.factors.rest.now
    c.in-Some.operator c.in-Some.following.now c.factors.invariant.stands
    (sym c.in-Some.ensures.found) c.in_ok-right.right c.in_ok-right.after c.in_ok-right.ensures.value
    (sym (simp to_z-of_z at c.in_err-value-2.ensures)))

pub read_product-factors-preserved : goal.read_product-factors-preserved
read_product-factors-preserved t c =
    let fits : SFits w64 c.in_ok-value-2.value = search rules in
    let short : SFits w64 c.in_ok-right.right = search rules in
    let is = sym (simp to_z-of_z at c.in_ok-value-2.ensures) in
    rw (to_z-of_z w64 c.in_ok-value-2.value fits)
    (record {
      stands = product_next c.args.depth c.args.text.now (to_z w64 c.factors.value-bits)
          c.factors.rest.now c.in-Some.operator c.in-Some.following.now c.factors.invariant.stands
          (sym c.in-Some.ensures.found) c.in_ok-right.right c.in_ok-value-2.value c.in_ok-right.after
          c.in_ok-right.ensures.value is;
      front = product_joined c.args.depth c.args.text.now (to_z w64 c.factors.value-bits)
          c.in_ok-right.right c.in_ok-value-2.value c.in-Some.operator c.factors.rest.now
          c.in-Some.following.now c.in_ok-right.after.now c.factors.invariant.front
          (sym c.in-Some.ensures.found) c.in_ok-right.ensures.front is;
      bare = c.in_ok-right.ensures.ended;
      shorter = omega (
        arith,
        c.in_ok-right.ensures.shorter,
        c.in-Some.ensures.shorter,
        c.factors.invariant.shorter,
      );
    })

-- ---- sums

pub read_sum-terms-init : goal.read_sum-terms-init
read_sum-terms-init t c =
    let fits : SFits w64 c.in_ok-value.value = search rules in
    rw (to_z-of_z w64 c.in_ok-value.value fits)
    (record {
      stands = sum_start c.args.depth c.args.text.now c.in_ok-value.value c.in_ok-value.rest
          c.in_ok-value.ensures.value;
      front = front_weaker c.args.depth 0 c.args.text.now c.in_ok-value.value c.in_ok-value.rest.now
          c.in_ok-value.ensures.front;
      ended = c.in_ok-value.ensures.ended;
      shorter = c.in_ok-value.ensures.shorter;
    })

pub read_sum-returns-in_err-right-clause-value : goal.read_sum-returns-in_err-right-clause-value
read_sum-returns-in_err-right-clause-value t c =
    subst (SumGoesOn c.args.depth c.args.text.now) (sym c.from_residual-in_err-right.ensures)
    (sum_stops c.args.depth c.args.text.now (to_z w64 c.terms.value-bits) c.terms.rest.now c.in-Some.operator
    c.in-Some.following.now c.terms.invariant.stands (sym c.in-Some.ensures.found)
    c.in_err-right.ensures.value)

pub read_sum-returns-in_err-value-2-clause-value : goal.read_sum-returns-in_err-value-2-clause-value
read_sum-returns-in_err-value-2-clause-value t c =
    let fits : SFits w64 c.in_ok-right.right = search rules in
    subst (SumGoesOn c.args.depth c.args.text.now) (sym c.from_residual-in_err-value-2.ensures)
    (sum_over c.args.depth c.args.text.now (to_z w64 c.terms.value-bits) c.terms.rest.now
    c.in-Some.operator c.in-Some.following.now c.terms.invariant.stands (sym c.in-Some.ensures.found)
    c.in_ok-right.right c.in_ok-right.after c.in_ok-right.ensures.value c.in_ok-right.ensures.ended
    (sym (simp to_z-of_z at c.in_err-value-2.ensures)))

pub read_sum-terms-preserved : goal.read_sum-terms-preserved
read_sum-terms-preserved t c =
    let fits : SFits w64 c.in_ok-value-2.value = search rules in
    let short : SFits w64 c.in_ok-right.right = search rules in
    let is = sym (simp to_z-of_z at c.in_ok-value-2.ensures) in
    rw (to_z-of_z w64 c.in_ok-value-2.value fits)
    (record {
      stands = sum_next c.args.depth c.args.text.now (to_z w64 c.terms.value-bits)
          c.terms.rest.now c.in-Some.operator c.in-Some.following.now c.terms.invariant.stands
          (sym c.in-Some.ensures.found) c.in_ok-right.right c.in_ok-value-2.value c.in_ok-right.after
          c.in_ok-right.ensures.value c.in_ok-right.ensures.ended is;
      front = sum_joined c.args.depth c.args.text.now (to_z w64 c.terms.value-bits)
          c.in_ok-right.right c.in_ok-value-2.value c.in-Some.operator c.terms.rest.now
          c.in-Some.following.now c.in_ok-right.after.now c.terms.invariant.front
          (sym c.in-Some.ensures.found) c.in_ok-right.ensures.front is;
      ended = c.in_ok-right.ensures.ended;
      shorter = omega (
        arith,
        c.in_ok-right.ensures.shorter,
        c.in-Some.ensures.shorter,
        c.terms.invariant.shorter,
      );
    })
