use Rattle.std.proofs.Common.{◌≡◌, ◌-◌, ◌^◌, ◌<◌, true, length, get_or, min, Some, sym, ap, ◌∙◌, arith, List, ℕ}
use Rattle.std.specs.List.{list_all}
use Rattle.std.specs.Char.{is_ascii_digit, digit_value}
use Rattle.std.specs.Str.Parse.{digits_value}
use Rattle.std.proofs.lemmas.List.{take_all}
use Rattle.std.proofs.lemmas.Bool.Decides.{nat_tests}
use Rattle.std.proofs.lemmas.Int.Digits.{digits_value_more}
use Rattle.wc_text.proofs.IntegerLemmas.{list_all_more}
use Rattle.wc_core.proofs.TypedWords.{number_at}
use Rattle.wc_core.proofs.typed.read_number.Goals as goal

pub loop-b-preserved : goal.loop-b-preserved
loop-b-preserved c =
    let digit : digit_value (get_or c.args.bytes.now c.loop-b.b-index 0) ≡ c.from.result = grind (arith, nat_tests) in
    record {
      value = omega (arith, digits_value_more 10 c.args.bytes.now c.loop-b.b-index c.loop-b-test.true, digit, c.saturating_add-value.ensures, c.saturating_mul.ensures, c.loop-b.invariant.value);
      digits = list_all_more is_ascii_digit _ _ c.loop-b-test.true c.loop-b.invariant.digits (sym c.if-not-is_ascii_digit.ensures.value);
    }

pub returns : goal.returns
returns c =
    let ds = c.args.bytes.now in
    let all = take_all c.loop-b.b-index ds c.loop-b-test.false in
    let digits : list_all is_ascii_digit ds ≡ true = sym (ap (list_all is_ascii_digit) all) ∙ c.loop-b.invariant.digits in
    let some : 0 < length ds = grind (arith, nat_tests) in
    ap Some (c.loop-b.invariant.value ∙ ap (λ (ds : List ℕ). min (digits_value 10 ds) (2 ^ 32 - 1)) all) ∙ sym (number_at ds some digits)
