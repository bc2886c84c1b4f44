-- What the limits of values and of their sums say.
use Rattle.std.proofs.Common.{◌≡◌, ℕ, zero, suc, ◌+◌, ◌≤◌, Bool, true, false, List, [], length}
use Rattle.std.proofs.Common.{Some, None, refl, subst, arith}
use Rattle.std.specs.Prelude.{nat_le, nat_lt, if◌then◌else◌}
use Rattle.std.proofs.lemmas.Option.{none-some, same_Some}
use Rattle.std.proofs.lemmas.Bool.{and_parts, leb-true}
use Rattle.wc_eval.specs.Values.{longest}
use Rattle.wc_eval.specs.Verdicts.{Oracle}
use Rattle.wc_eval.specs.Names.{Facts}
use Rattle.wc_eval.specs.Kinds.{kind_of}
use Rattle.wc_eval.specs.Progress.{Progress, Answer, fresh, value_or, if_short, if_fits, names_fit, value_fits}
use Rattle.wc_eval.specs.Progress.{SumsFit, with_made, counted, most_defined, most_made, most_forms}
use Rattle.wc_eval.specs.Pieces.{pieces_of}
use Rattle.wc_eval.specs.Meaning.{pieces_value, kind_value, form_by, too_deep, evaluator, form_at, text_value}

-- ---- a text

short_or_empty : (o : Answer (List ℕ)) → length (value_or [] (if_short o)) ≤ 65536
short_or_empty None = omega arith
short_or_empty (Some found) = by (nat_le (length found.0) longest) refl
  where
    by : (b : Bool) → nat_le (length found.0) longest ≡ b →
        length (value_or [] (if b then Some found else None)) ≤ 65536
    by true e = leb-true (length found.0) longest e
    by false e = omega arith

module _ (scope : Facts) (oracle : Oracle) where
  short_at : (n : ℕ) (text : List ℕ) → length (value_or [] (evaluator scope oracle n text fresh)) ≤ 65536
  unfolding evaluator
  short_at zero text = short_or_empty (pieces_value too_deep (pieces_of text) fresh)
  short_at (suc n) text =
      short_or_empty (pieces_value (form_by scope oracle (evaluator scope oracle n)) (pieces_of text) fresh)

  pub text_short : (text : List ℕ) → length (text_value scope oracle text) ≤ 65536
  unfolding text_value
  text_short text = short_at 32 text

-- ---- a form

sums_fit : (value : List ℕ) (p : Progress) → value_fits (length value) p ≡ true →
    (length value ≤ 65536) × SumsFit (with_made (length value) p)
sums_fit value p fits =
    let outer = and_parts (nat_le (length value) longest) _ fits in
    let inner = and_parts (names_fit p) _ outer.1 in
    let names = and_parts (nat_le p.named most_defined) _ inner.0 in (
      leb-true (length value) longest outer.0,
      record {
        named = leb-true p.named most_defined names.0;
        defined = leb-true p.defined most_defined names.1;
        made = leb-true (p.made + length value) most_made inner.1;
      },
    )

within : (o : Answer (List ℕ)) (value : List ℕ) (after : Progress) → if_fits o ≡ Some (value, after) →
    (length value ≤ 65536) × SumsFit after
within None value after e = absurd (none-some _ e)
within (Some found) value after e = by (value_fits (length found.0) found.1) refl e
  where
    by : (b : Bool) → value_fits (length found.0) found.1 ≡ b → ◌≡◌ {A = Answer (List ℕ)}
        (if b then Some (found.0, with_made (length found.0) found.1) else None) (Some (value, after)) →
        (length value ≤ 65536) × SumsFit after
    by true fits e = subst (λ (f : List ℕ × Progress). (length f.0 ≤ 65536) × SumsFit f.1) (same_Some _ _ e)
        (sums_fit found.0 found.1 fits)
    by false fits e = absurd (none-some _ e)

-- where so many forms may be evaluated, or none
within_by : (b : Bool) (o : Answer (List ℕ)) (value : List ℕ) (after : Progress) →
    ◌≡◌ {A = Answer (List ℕ)} (if b then if_fits o else None) (Some (value, after)) →
    (length value ≤ 65536) × SumsFit after
within_by true o value after e = within o value after e
within_by false o value after e = absurd (none-some _ e)

pub form_within : (scope : Facts) (oracle : Oracle) (levels : ℕ) (text value : List ℕ) (before after : Progress) →
    form_at scope oracle levels text before ≡ Some (value, after) → (length value ≤ 65536) × SumsFit after
unfolding form_at
form_within scope oracle zero text value before after e = absurd (none-some _ e)
form_within scope oracle (suc levels) text value before after e =
    within_by (nat_lt before.forms most_forms) (kind_value scope oracle (evaluator scope oracle levels)
    (kind_of text).0 (kind_of text).1 (counted before)) value after e
