use Rattle.std.proofs.Common.{◌≡◌, ◌+◌, ◌<◌, true, length, get_or, Some, sym, ap, ◌∙◌, arith}
use Rattle.std.specs.List.{list_all}
use Rattle.std.specs.Char.{digit_value}
use Rattle.std.specs.Str.Parse.{digits_value}
use Rattle.std.proofs.lemmas.List.{take_all}
use Rattle.std.proofs.lemmas.Bool.Decides.{nat_tests, Decides-eqb}
use Rattle.std.proofs.lemmas.Int.Digits.{digits_value_more}
use Rattle.wc_session.proofs.NameLemmas.{is_digit, list_all_more, not_digit, digit_passes, no_digits, no_number, too_large, number}
use Rattle.wc_session.proofs.names.hex_number.Goals as goal

pub returns-then-is_empty : goal.returns-then-is_empty
returns-then-is_empty c = no_digits c.args.digits.now ((Decides-eqb _ 0).0 (sym c.is_empty.ensures ∙ c.if-is_empty.true))

pub returns-in_err-digit : goal.returns-in_err-digit
returns-in_err-digit c =
    let never = rw c.from.ensures at c.in_err-digit.ensures.value in
    c.from_residual.ensures ∙ sym (no_number c.args.digits.now c.loop-b.b-index c.loop-b-test.true (not_digit (get_or c.args.digits.now c.loop-b.b-index 0) never))

pub returns-in_err-checked_mul : goal.returns-in_err-checked_mul
returns-in_err-checked_mul c =
    c.from_residual-in_err-checked_mul.ensures
    ∙ sym (too_large c.args.digits.now (c.loop-b.b-index + 1) (omega (arith, digits_value_more 16 c.args.digits.now _ c.loop-b-test.true, c.in_err-checked_mul.ensures, c.loop-b.invariant.0)))

pub loop-b-preserved : goal.loop-b-preserved
loop-b-preserved c =
    let ds = c.args.digits.now in
    let here : (digit_value (get_or ds c.loop-b.b-index 0) < 16) × (c.in_ok-digit.digit ≡ digit_value (get_or ds c.loop-b.b-index 0)) = rw c.from.ensures at c.in_ok-digit.ensures.value in (
      omega (arith, digits_value_more 16 ds _ c.loop-b-test.true, c.in_ok-value.ensures.1, c.in_ok-checked_mul.ensures.1, c.loop-b.invariant.0, here.1, c.from-in-loop-b.ensures),
      list_all_more is_digit _ _ c.loop-b-test.true c.loop-b.invariant.1 (digit_passes (get_or ds c.loop-b.b-index 0) here.0),
      omega (arith, c.in_ok-value.ensures.0, c.in_ok-value.ensures.1),
    )

pub returns : goal.returns
returns c =
    let ds = c.args.digits.now in
    let all = take_all c.loop-b.b-index ds c.loop-b-test.false in
    let value : c.loop-b.value ≡ digits_value 16 ds = c.loop-b.invariant.0 ∙ ap (digits_value 16) all in
    let digits : list_all is_digit ds ≡ true = sym (ap (list_all is_digit) all) ∙ c.loop-b.invariant.1 in
    let some : 0 < length ds = grind (arith, nat_tests) in
    ap Some value ∙ sym (number ds some digits (omega arith))
