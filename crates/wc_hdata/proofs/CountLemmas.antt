-- Counts, as they are written and as they are computed.
use Rattle.std.proofs.Common.{◌≡◌, ℕ, zero, suc, ◌+◌, ◌-◌, ◌^◌, ◌<◌, ◌≤◌, List, [], ◌∷◌, ◌++◌, length, take, Option, Some, None, option_and_then, Bool, true, false, cond, ◌&&◌, nat_eq, nat_lt, nat_le, eqb, refl, sym, ap, subst, ◌∙◌, arith, length-append, codes, ℤ, pos, neg_ℤ}
use Rattle.std.specs.List.{list_all, ends_with}
use Rattle.std.specs.Char.{is_ascii_digit}
use Rattle.std.specs.Str.{bytes_eq}
use Rattle.std.specs.Str.Parse.{digits_value}
use Rattle.std.proofs.lemmas.Bool.{false≢true, ltb-true, leb-true, lt-ltb, le-leb, eqb-true, not-true, and_parts, and_from}
use Rattle.std.proofs.lemmas.Bool.Decides.{Decides-eqb}
use Rattle.std.proofs.lemmas.List.{take_at}
use Rattle.std.proofs.lemmas.Option.{none-some, same_Some, cond_some, option_and_then_some}
use Rattle.std.proofs.lemmas.Slice.Eq.{bytes_eq-Decides, ends_is}
use Rattle.wc_text.specs.Integer.{is_numeral, negative_of, positive_of, integer_of}
use Rattle.wc_hdata.specs.declared.count.Count.{Count}
use Rattle.wc_hdata.specs.declared.count.Count.TheVariants as Counts
use Rattle.wc_hdata.specs.Paths.{SpellsCount, IsCount}
use Rattle.wc_hdata.specs.Answers.{count_of_number, count_inside, inside, count_of}
use Rattle.wc_hdata.proofs.CutLemmas.{lacks, lacks-append, not_this, passing_lacks, from_mark}

-- ---- numbers
first_digit : (b : ℕ) (ds : List ℕ) → is_numeral (b ∷ ds) ≡ true → is_ascii_digit b ≡ true
first_digit b ds numeral =
    let digits = and_parts (nat_lt 0 (length (b ∷ ds))) (list_all is_ascii_digit (b ∷ ds)) numeral in
    (and_parts (is_ascii_digit b) (list_all is_ascii_digit ds) digits.1).0

all_digits : (ds : List ℕ) → is_numeral ds ≡ true → list_all is_ascii_digit ds ≡ true
all_digits ds numeral = (and_parts (nat_lt 0 (length ds)) (list_all is_ascii_digit ds) numeral).1

forward_integer : (ds : List ℕ) (n : ℕ) → SpellsCount ds n → integer_of ds ≡ Some (pos n)
unfolding integer_of
forward_integer [] n numbers = absurd (false≢true numbers.numeral)
forward_integer (b ∷ ds) n numbers =
    let v = digits_value 10 (b ∷ ds) in
    let no_sign : eqb b 45 ≡ false = not-true (eqb b 45) (not_this is_ascii_digit 45 b refl (first_digit b ds numbers.numeral)) in
    let small : v < 2 ^ 63 = omega (arith, numbers.value, numbers.most) in
    ap (λ (t : Bool). cond t (negative_of ds) (positive_of (b ∷ ds))) no_sign
    ∙ ap (λ (t : Bool). cond t (Some (pos v)) None) (and_from (is_numeral (b ∷ ds)) (nat_lt v (2 ^ 63)) numbers.numeral (lt-ltb v (2 ^ 63) small))
    ∙ ap (λ (k : ℕ). Some (pos k)) numbers.value

backward_integer : (ds : List ℕ) (n : ℕ) → SpellsCount ds n → integer_of (45 ∷ ds) ≡ Some (neg_ℤ (pos n))
unfolding integer_of
backward_integer ds n numbers =
    let v = digits_value 10 ds in
    let small : v ≤ 2 ^ 63 = omega (arith, numbers.value, numbers.most) in
    ap (λ (t : Bool). cond t (Some (neg_ℤ (pos v))) None) (and_from (is_numeral ds) (nat_le v (2 ^ 63)) numbers.numeral (le-leb v (2 ^ 63) small))
    ∙ ap (λ (k : ℕ). Some (neg_ℤ (pos k))) numbers.value

counted_forward : (n : ℕ) → 1 ≤ n → n < 2 ^ 31 → count_of_number (pos n) ≡ Some (Counts.Forward n)
counted_forward n least most =
    ap (λ (t : Bool). cond t (Some (Counts.Forward n)) None) (and_from (nat_le 1 n) (nat_lt n (2 ^ 31)) (le-leb 1 n least) (lt-ltb n (2 ^ 31) most))

counted_backward : (n : ℕ) → 1 ≤ n → n < 2 ^ 31 → count_of_number (neg_ℤ (pos n)) ≡ Some (Counts.Backward n)
counted_backward zero least most = absurd (omega arith)
counted_backward (suc n) least most =
    let same : n + 1 ≡ suc n = omega arith in
    let small : n + 1 < 2 ^ 31 = omega arith in
    ap (λ (t : Bool). cond t (Some (Counts.Backward (n + 1))) None) (lt-ltb (n + 1) (2 ^ 31) small) ∙ ap (λ (k : ℕ). Some (Counts.Backward k)) same

record CountsBack (n : ℕ) (count : Count) : Type 0 where
  pub least : 1 ≤ n
  pub most : n < 2 ^ 31
  pub is : Counts.Backward n ≡ count

back_counted : (n : ℕ) (count : Count) → count_of_number (neg_ℤ (pos n)) ≡ Some count → CountsBack n count
back_counted zero count is = absurd (none-some count is)
back_counted (suc n) count is =
    let parts = cond_some (nat_lt (n + 1) (2 ^ 31)) (Counts.Backward (n + 1)) count is in
    let small : n + 1 < 2 ^ 31 = ltb-true (n + 1) (2 ^ 31) parts.0 in
    let same : suc n ≡ n + 1 = omega arith in
    record { least = omega arith; most = omega (arith, small); is = ap (λ (k : ℕ). Counts.Backward k) same ∙ parts.1 }

-- ---- parentheses
inside_made : (text : List ℕ) → inside (text ++ 41 ∷ []) ≡ Some text
inside_made text =
    let whole = text ++ 41 ∷ [] in
    let ends = (ends_is {E = nat_eq} Decides-eqb whole (41 ∷ []) (ends_with nat_eq whole (41 ∷ [])) refl).1 text refl in
    let long : length text ≡ length whole - 1 = omega (arith, length-append text (41 ∷ [])) in
    ap (λ (t : Bool). cond t (Some (take (length whole - 1) whole)) None) ends ∙ ap Some (take_at text (41 ∷ []) (length whole - 1) long)

inside_is : (text inner : List ℕ) → inside text ≡ Some inner → text ≡ inner ++ 41 ∷ []
inside_is text inner is =
    let parts = cond_some (ends_with nat_eq text (41 ∷ [])) (take (length text - 1) text) inner is in
    (ends_is {E = nat_eq} Decides-eqb text (41 ∷ []) (ends_with nat_eq text (41 ∷ [])) refl).0 parts.0 ∙ ap (λ (t : List ℕ). t ++ 41 ∷ []) parts.1

no_star : (ds : List ℕ) → is_numeral ds ≡ true → bytes_eq ds (codes "*") ≡ false
no_star ds numeral = by (bytes_eq ds (codes "*")) refl where
  by : (t : Bool) → bytes_eq ds (codes "*") ≡ t → t ≡ false
  by true e = absurd (false≢true (ap is_numeral (sym ((bytes_eq-Decides ds (codes "*")).0 e)) ∙ numeral))
  by false e = refl

star_inside : count_inside (codes "*") ≡ Some Counts.All
unfolding count_inside
star_inside = refl

forward_inside : (ds : List ℕ) (n : ℕ) → SpellsCount ds n → count_inside ds ≡ Some (Counts.Forward n)
unfolding count_inside
forward_inside ds n numbers =
    ap (λ (t : Bool). cond t (Some Counts.All) (option_and_then count_of_number (integer_of ds))) (no_star ds numbers.numeral)
    ∙ ap (option_and_then count_of_number) (forward_integer ds n numbers) ∙ counted_forward n numbers.least numbers.most

backward_inside : (ds : List ℕ) (n : ℕ) → SpellsCount ds n → count_inside (45 ∷ ds) ≡ Some (Counts.Backward n)
unfolding count_inside
backward_inside ds n numbers = ap (option_and_then count_of_number) (backward_integer ds n numbers) ∙ counted_backward n numbers.least numbers.most

-- ---- what is written is counted
pub record Written (text : List ℕ) (count : Count) : Type 0 where
  pub rest : Option (List ℕ)
  pub is : text ≡ from_mark 40 rest
  pub made : count_of rest ≡ Some count

pub written : (text : List ℕ) (count : Count) → IsCount text count → Written text count
written text Counts.One w = record { rest = None; is = w; made = refl }
written text Counts.All w = record { rest = Some (42 ∷ 41 ∷ []); is = w; made = ap (option_and_then count_inside) (inside_made (42 ∷ [])) ∙ star_inside }
written text (Counts.Forward n) w = record {
  rest = Some (w.0 ++ 41 ∷ []);
  is = w.2;
  made = ap (option_and_then count_inside) (inside_made w.0) ∙ forward_inside w.0 n w.1;
}
written text (Counts.Backward n) w = record {
  rest = Some (45 ∷ (w.0 ++ 41 ∷ []));
  is = w.2;
  made = ap (option_and_then count_inside) (inside_made (45 ∷ w.0)) ∙ backward_inside w.0 n w.1;
}

-- ---- what is counted is written
back_written : (b : ℕ) (ds : List ℕ) (z : ℤ) (count : Count) → b ≡ 45 → negative_of ds ≡ Some z → count_of_number z ≡ Some count → IsCount (40 ∷ ((b ∷ ds) ++ 41 ∷ [])) count
back_written b ds z count sign read made =
    let v = digits_value 10 ds in
    let parts = cond_some (is_numeral ds && nat_le v (2 ^ 63)) (neg_ℤ (pos v)) z read in
    let back = back_counted v count (ap count_of_number parts.1 ∙ made) in
    subst (λ (c : Count). IsCount (40 ∷ ((b ∷ ds) ++ 41 ∷ [])) c) back.is (
      ds,
      record { numeral = (and_parts (is_numeral ds) (nat_le v (2 ^ 63)) parts.0).0; value = refl; least = back.least; most = back.most },
      ap (λ (k : ℕ). 40 ∷ k ∷ (ds ++ 41 ∷ [])) sign,
    )

forward_written : (ds : List ℕ) (z : ℤ) (count : Count) → positive_of ds ≡ Some z → count_of_number z ≡ Some count → IsCount (40 ∷ (ds ++ 41 ∷ [])) count
forward_written ds z count read made =
    let v = digits_value 10 ds in
    let parts = cond_some (is_numeral ds && nat_lt v (2 ^ 63)) (pos v) z read in
    let sized = cond_some (nat_le 1 v && nat_lt v (2 ^ 31)) (Counts.Forward v) count (ap count_of_number parts.1 ∙ made) in
    let within = and_parts (nat_le 1 v) (nat_lt v (2 ^ 31)) sized.0 in
    subst (λ (c : Count). IsCount (40 ∷ (ds ++ 41 ∷ [])) c) sized.1 (
      ds,
      record { numeral = (and_parts (is_numeral ds) (nat_lt v (2 ^ 63)) parts.0).0; value = refl; least = leb-true 1 v within.0; most = ltb-true v (2 ^ 31) within.1 },
      refl,
    )

integer_written : (ds : List ℕ) (z : ℤ) (count : Count) → integer_of ds ≡ Some z → count_of_number z ≡ Some count → IsCount (40 ∷ (ds ++ 41 ∷ [])) count
unfolding integer_of
integer_written [] z count read made = absurd (none-some z read)
integer_written (b ∷ ds) z count read made = by (eqb b 45) refl read where
  by : (t : Bool) → eqb b 45 ≡ t → cond t (negative_of ds) (positive_of (b ∷ ds)) ≡ Some z → IsCount (40 ∷ ((b ∷ ds) ++ 41 ∷ [])) count
  by true e here = back_written b ds z count (eqb-true b 45 e) here made
  by false e here = forward_written (b ∷ ds) z count here made

inside_written : (inner : List ℕ) (count : Count) → count_inside inner ≡ Some count → IsCount (40 ∷ (inner ++ 41 ∷ [])) count
unfolding count_inside
inside_written inner count is = by (bytes_eq inner (codes "*")) refl is where
  by : (t : Bool) → bytes_eq inner (codes "*") ≡ t → cond t (Some Counts.All) (option_and_then count_of_number (integer_of inner)) ≡ Some count → IsCount (40 ∷ (inner ++ 41 ∷ [])) count
  by true e here =
      subst (λ (c : Count). IsCount (40 ∷ (inner ++ 41 ∷ [])) c) (same_Some Counts.All count here)
      (ap (λ (t : List ℕ). 40 ∷ (t ++ 41 ∷ [])) ((bytes_eq-Decides inner (codes "*")).0 e))
  by false e here = option_and_then_some count_of_number (integer_of inner) count here (λ z read made. integer_written inner z count read made)

pub counted_written : (rest : Option (List ℕ)) (count : Count) → count_of rest ≡ Some count → IsCount (from_mark 40 rest) count
counted_written None count is = subst (λ (c : Count). IsCount [] c) (same_Some Counts.One count is) refl
counted_written (Some text) count is =
    option_and_then_some count_inside (inside text) count is
    (λ inner found here. subst (λ (t : List ℕ). IsCount (40 ∷ t) count) (sym (inside_is text inner found)) (inside_written inner count here))

-- a count has no slash
digits_lack : (ds : List ℕ) → is_numeral ds ≡ true → lacks 47 (ds ++ 41 ∷ []) ≡ true
digits_lack ds numeral = lacks-append 47 ds (41 ∷ []) (passing_lacks is_ascii_digit 47 refl ds (all_digits ds numeral)) refl

pub count_lacks : (text : List ℕ) (count : Count) → IsCount text count → lacks 47 text ≡ true
count_lacks text Counts.One w = ap (lacks 47) w
count_lacks text Counts.All w = ap (lacks 47) w
count_lacks text (Counts.Forward n) w = ap (lacks 47) w.2 ∙ digits_lack w.0 w.1.numeral
count_lacks text (Counts.Backward n) w = ap (lacks 47) w.2 ∙ digits_lack w.0 w.1.numeral
