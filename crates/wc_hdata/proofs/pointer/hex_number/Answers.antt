use Rattle.std.proofs.Common.{◌≡◌, ◌<◌, get_or, Some, sym, ap, ◌∙◌, arith, subst}
use Rattle.std.specs.Char.{digit_value}
use Rattle.std.specs.Str.Parse.{digits_value, AllDigits}
use Rattle.std.proofs.lemmas.List.{take_all}
use Rattle.std.proofs.lemmas.Int.Digits.{digits_value_more}
use Rattle.wc_hdata.proofs.PointerLemmas.{hex_more, hex_room, no_hex, hex_number_of}
use Rattle.wc_hdata.proofs.pointer.hex_number.Goals as goal

pub returns-in_err-digit : goal.returns-in_err-digit
returns-in_err-digit c =
    let never = rw c.from.ensures at c.in_err-digit.ensures.value in
    c.from_residual.ensures ∙ sym (no_hex c.args.digits.now c.loop-b.b-index c.loop-b-test.true never)

pub overflow_mul-value : goal.overflow_mul-value
overflow_mul-value c =
    let ds = c.args.digits.now in
    omega (arith, hex_room ds c.loop-b.b-index c.loop-b-test.true c.loop-b.invariant.most c.loop-b.invariant.digits, c.loop-b.invariant.value)

pub overflow_add-value : goal.overflow_add-value
overflow_add-value c =
    let ds = c.args.digits.now in
    let here : (digit_value (get_or ds c.loop-b.b-index 0) < 16) × (c.in_ok-digit.digit ≡ digit_value (get_or ds c.loop-b.b-index 0)) = rw c.from.ensures at c.in_ok-digit.ensures.value in
    omega (arith, hex_room ds c.loop-b.b-index c.loop-b-test.true c.loop-b.invariant.most c.loop-b.invariant.digits, c.loop-b.invariant.value, here.0, here.1, c.from-in-loop-b.ensures)

pub loop-b-preserved : goal.loop-b-preserved
loop-b-preserved c =
    let ds = c.args.digits.now in
    let here : (digit_value (get_or ds c.loop-b.b-index 0) < 16) × (c.in_ok-digit.digit ≡ digit_value (get_or ds c.loop-b.b-index 0)) = rw c.from.ensures at c.in_ok-digit.ensures.value in
    record {
      value = omega (arith, digits_value_more 16 ds _ c.loop-b-test.true, c.loop-b.invariant.value, here.1, c.from-in-loop-b.ensures);
      digits = hex_more ds c.loop-b.b-index c.loop-b-test.true c.loop-b.invariant.digits here.0;
      least = c.loop-b.invariant.least;
      most = c.loop-b.invariant.most;
    }

pub returns : goal.returns
returns c =
    let ds = c.args.digits.now in
    let all = take_all c.loop-b.b-index ds c.loop-b-test.false in
    let digits : AllDigits 16 ds = subst (λ t. AllDigits 16 t) all c.loop-b.invariant.digits in
    ap Some (c.loop-b.invariant.value ∙ ap (digits_value 16) all) ∙ sym (hex_number_of ds c.loop-b.invariant.least c.loop-b.invariant.most digits)
