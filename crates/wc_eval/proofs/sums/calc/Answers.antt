use Rattle.std.proofs.Common.{refl, sym, ◌∙◌, rules}
use mir.Val.{SFits}
use mir.Syntax.{w64}
use Rattle.std.proofs.lemmas.Int.{to_z-of_z}
use Rattle.wc_eval.proofs.FrontLemmas.{front_worth}
use Rattle.wc_eval.proofs.GrammarLemmas.{calc_fails, calc_over, calc_done, no_worth, one_worth, none_left}
use Rattle.wc_eval.proofs.sums.calc.Goals as goal

pub returns-in_err-value-clause-exact : goal.returns-in_err-value-clause-exact
returns-in_err-value-clause-exact c =
    no_worth c.args.text.now c.from_residual.result c.from_residual.ensures
    (calc_fails c.args.text.now c.in_err-value.ensures.value)

pub returns-in_err-value-clause-computed : goal.returns-in_err-value-clause-computed
returns-in_err-value-clause-computed c =
    c.from_residual.ensures ∙ sym (calc_fails c.args.text.now c.in_err-value.ensures.value)

pub returns-then-not-is_empty-clause-exact : goal.returns-then-not-is_empty-clause-exact
returns-then-not-is_empty-clause-exact c =
    no_worth c.args.text.now _ refl
    (calc_over c.args.text.now c.in_ok-value.value c.in_ok-value.rest c.in_ok-value.ensures.value
    c.in_ok-value.ensures.ended c.if-not-is_empty.ensures)

pub returns-then-not-is_empty-clause-computed : goal.returns-then-not-is_empty-clause-computed
returns-then-not-is_empty-clause-computed c =
    sym (calc_over c.args.text.now c.in_ok-value.value c.in_ok-value.rest c.in_ok-value.ensures.value
    c.in_ok-value.ensures.ended c.if-not-is_empty.ensures)

pub returns-clause-exact : goal.returns-clause-exact
returns-clause-exact c =
    let fits : SFits w64 c.in_ok-value.value = search rules in
    let none = none_left c.in_ok-value.rest.now c.if-not-is_empty.ensures in
    rw (to_z-of_z w64 c.in_ok-value.value fits)
    (one_worth c.args.text.now c.in_ok-value.value
    (calc_done c.args.text.now c.in_ok-value.value c.in_ok-value.rest c.in_ok-value.ensures.value none)
    (front_worth c.args.text.now c.in_ok-value.value c.in_ok-value.rest.now c.in_ok-value.ensures.front
    none))

pub returns-clause-computed : goal.returns-clause-computed
returns-clause-computed c =
    let fits : SFits w64 c.in_ok-value.value = search rules in
    let none = none_left c.in_ok-value.rest.now c.if-not-is_empty.ensures in
    rw (to_z-of_z w64 c.in_ok-value.value fits)
    (sym (calc_done c.args.text.now c.in_ok-value.value c.in_ok-value.rest c.in_ok-value.ensures.value
    none))
