use Rattle.std.proofs.Common.{◌≡◌, ◌+◌, ◌<◌, true, length, get_or, Some, sym, ap, ◌∙◌, arith}
use Rattle.std.specs.List.{list_all}
use Rattle.std.specs.Char.{is_ascii_digit, digit_value}
use Rattle.std.specs.Str.Parse.{digits_value}
use Rattle.std.proofs.lemmas.List.{take_all}
use Rattle.std.proofs.lemmas.Bool.Decides.{nat_tests}
use Rattle.std.proofs.lemmas.Int.Digits.{digits_value_more}
use Rattle.wc_text.proofs.IntegerLemmas.{list_all_more, too_large, magnitude}
use Rattle.wc_text.proofs.numbers.read_magnitude.Goals as goal

pub returns-in_err-checked_mul : goal.returns-in_err-checked_mul
returns-in_err-checked_mul c =
    c.from_residual.ensures
    ∙ sym (too_large _ c.args.digits.now (c.loop-b.b-index + 1) (omega (arith, digits_value_more 10 c.args.digits.now _ c.loop-b-test.true, c.in_err-checked_mul.ensures, c.loop-b.invariant.0)))

pub returns-in_err-value : goal.returns-in_err-value
returns-in_err-value c =
    let digit : digit_value (get_or c.args.digits.now c.loop-b.b-index 0) ≡ c.from.result = grind (arith, nat_tests) in
    c.from_residual-in_err-value.ensures
    ∙ sym (too_large _ c.args.digits.now (c.loop-b.b-index + 1) (omega (arith, digits_value_more 10 c.args.digits.now _ c.loop-b-test.true, c.in_err-value.ensures, c.in_ok-checked_mul.ensures.1, c.loop-b.invariant.0)))

pub loop-b-preserved : goal.loop-b-preserved
loop-b-preserved c =
    let digit : digit_value (get_or c.args.digits.now c.loop-b.b-index 0) ≡ c.from.result = grind (arith, nat_tests) in (
      omega (arith, digits_value_more 10 c.args.digits.now _ c.loop-b-test.true, c.in_ok-value.ensures.1, c.in_ok-checked_mul.ensures.1, c.loop-b.invariant.0),
      list_all_more is_ascii_digit _ _ c.loop-b-test.true c.loop-b.invariant.1 (sym c.if-not-is_ascii_digit.ensures.value),
      omega (arith, c.in_ok-value.ensures.0, c.in_ok-value.ensures.1),
    )

pub returns : goal.returns
returns c =
    let ds = c.args.digits.now in
    let all = take_all c.loop-b.b-index ds c.loop-b-test.false in
    let value : c.loop-b.value ≡ digits_value 10 ds = c.loop-b.invariant.0 ∙ ap (digits_value 10) all in
    let digits : list_all is_ascii_digit ds ≡ true = sym (ap (list_all is_ascii_digit) all) ∙ c.loop-b.invariant.1 in
    let some : 0 < length ds = grind (arith, nat_tests) in
    ap Some value ∙ sym (magnitude _ ds some digits (omega arith))
