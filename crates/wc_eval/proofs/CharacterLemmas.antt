-- Texts by their characters, and parts between separators.
use Rattle.std.proofs.Common.{◌≡◌, ℕ, zero, suc, ◌+◌, ◌-◌, ◌<◌, Bool, true, false, List, [], ◌∷◌, ◌++◌, length, take, get_or}
use Rattle.std.proofs.Common.{Some, None, option_map, refl, ap, sym, ◌∙◌, append-nil, arith}
use Rattle.std.proofs.Common.{Result, Ok, Err, IfOk, IsUtf8}
use Rattle.std.specs.Prelude.{if◌then◌else◌, slice_get, nat_eq}
use Rattle.std.specs.List.{slice_split}
use Rattle.std.specs.Str.{chars, encode_utf8_all}
use Rattle.std.specs.Char.{encode_utf8}
use Rattle.std.proofs.lemmas.List.{take_more, get_or_read}
use Rattle.std.proofs.lemmas.Str.{encodes-append}
use Rattle.std.proofs.lemmas.Option.{same_Some}
use Rattle.wc_eval.specs.Cuts.{is_among, parts_between, after_separators, before_separator, separator_count, spelled_or_empty}
use Rattle.wc_eval.specs.Cuts.{or_comma, part_of, split_value}
use Rattle.wc_eval.proofs.RunLemmas.{by_bool}

-- one character more
pub spelled_step : (cs : List ℕ) (i c : ℕ) (bytes : List ℕ) → i < length cs → get_or cs i 0 ≡ c →
    bytes ≡ encode_utf8_all (take i cs) → bytes ++ encode_utf8 c ≡ encode_utf8_all (take (i + 1) cs)
spelled_step cs i c bytes l e is =
    ap (λ b. b ++ encode_utf8 c) is
    ∙ ap (λ b. encode_utf8_all (take i cs) ++ b) (sym (append-nil (encode_utf8 c)))
    ∙ ap (λ x. encode_utf8_all (take i cs) ++ encode_utf8_all (x ∷ [])) (sym e)
    ∙ sym (encodes-append (take i cs) (get_or cs i 0 ∷ []))
    ∙ ap encode_utf8_all (sym (take_more cs i 0 l))

-- ---- separators

module _ (p : ℕ → Bool) where
  -- there is a first part
  record HasFirst (parts : List (List ℕ)) : Type 0 where
    pub first : List ℕ
    pub others : List (List ℕ)
    pub is : parts ≡ first ∷ others

  has_first : (cs : List ℕ) → HasFirst (slice_split p cs)
  has_first [] = record { first = []; others = []; is = refl }
  has_first (c ∷ cs) = let ih = has_first cs in by_bool (p c) _
      (λ t. record { first = []; others = slice_split p cs; is = rw t refl })
      (λ f. record { first = c ∷ ih.first; others = ih.others; is = rw (f, ih.is) refl })

  count_is : (cs : List ℕ) → length (slice_split p cs) ≡ suc (separator_count p cs)
  count_is [] = refl
  count_is (c ∷ cs) = let ih = has_first cs in by_bool (p c) _
      (λ t. rw t (ap suc (count_is cs)))
      (λ f. rw (f, ih.is) (sym (ap length ih.is) ∙ count_is cs))

  pub part_count : (cs : List ℕ) → 0 < length cs →
      length (parts_between p cs) ≡ separator_count p cs + 1
  part_count [] some = absurd (omega (arith, some))
  part_count (c ∷ cs) some = let is = count_is (c ∷ cs) in is ∙ omega arith

  first_is : (cs : List ℕ) → slice_get (slice_split p cs) 0 ≡ Some (before_separator p cs)
  first_is [] = refl
  first_is (c ∷ cs) = let ih = has_first cs in by_bool (p c) _
      (λ t. rw t refl)
      (λ f. rw (f, ih.is) (ap (λ l. Some (c ∷ l))
      (same_Some _ _ (sym (ap (λ l. slice_get l 0) ih.is) ∙ first_is cs))))

  part_is : (n : ℕ) (cs : List ℕ) →
      slice_get (slice_split p cs) n ≡ option_map (before_separator p) (after_separators p n cs)
  part_is zero cs = first_is cs
  part_is (suc n) [] = refl
  part_is (suc n) (c ∷ cs) = let ih = has_first cs in by_bool (p c) _
      (λ t. rw t (part_is n cs))
      (λ f. rw (f, ih.is) (sym (ap (λ l. slice_get l (suc n)) ih.is) ∙ part_is (suc n) cs))

  before_is : (cs : List ℕ) → before_separator p cs ≡ take (length (before_separator p cs)) cs
  before_is [] = refl
  before_is (c ∷ cs) = by_bool (p c) _ (λ t. rw t refl) (λ f. rw f (ap (λ l. c ∷ l) (before_is cs)))

  pub part_spelled : (cs rest : List ℕ) (n k : ℕ) → 0 < length cs →
      Some rest ≡ after_separators p n cs → k ≡ length (before_separator p rest) →
      encode_utf8_all (take k rest) ≡ spelled_or_empty (slice_get (parts_between p cs) n)
  part_spelled [] rest n k some e is = absurd (omega (arith, some))
  part_spelled (c ∷ cs) rest n k some e is =
      ap (λ j. encode_utf8_all (take j rest)) is
      ∙ ap encode_utf8_all (sym (before_is rest))
      ∙ ap (λ o. spelled_or_empty (option_map (before_separator p) o)) e
      ∙ ap spelled_or_empty (sym (part_is n (c ∷ cs)))

  pub part_none : (cs : List ℕ) (n : ℕ) → 0 < length cs → None ≡ after_separators p n cs →
      [] ≡ spelled_or_empty (slice_get (parts_between p cs) n)
  part_none [] n some e = absurd (omega (arith, some))
  part_none (c ∷ cs) n some e =
      ap (λ o. spelled_or_empty (option_map (before_separator p) o)) e
      ∙ ap spelled_or_empty (sym (part_is n (c ∷ cs)))

  -- ---- steps along characters

  count_more : (done : List ℕ) (c : ℕ) → separator_count p (done ++ c ∷ [])
      ≡ (if p c then separator_count p done + 1 else separator_count p done)
  count_more [] c = by_bool (p c) _ (λ t. rw t refl) (λ f. rw f refl)
  count_more (d ∷ done) c = let ih = count_more done c in by_bool (p d) _
      (λ t. rw (t, ih) (by_bool (p c) _ (λ u. rw u (omega arith)) (λ g. rw g refl)))
      (λ f. rw f ih)

  pub counted : (cs : List ℕ) (i c n : ℕ) (b : Bool) → i < length cs → c ≡ get_or cs i c →
      n ≡ separator_count p (take i cs) → b ≡ p c →
      (if b then n + 1 else n) ≡ separator_count p (take (i + 1) cs)
  counted cs i c n b l item is e =
      ap (λ x. if x then n + 1 else n) e
      ∙ ap (λ m. if p c then m + 1 else m) is
      ∙ sym (count_more (take i cs) c)
      ∙ ap (λ x. separator_count p (take i cs ++ x ∷ [])) (get_or_read cs i c l item 0)
      ∙ ap (separator_count p) (sym (take_more cs i 0 l))

  after_step : (c : ℕ) (cs : List ℕ) (n : ℕ) → 0 < n → p c ≡ true →
      after_separators p (n - 1) cs ≡ after_separators p n (c ∷ cs)
  after_step c cs zero some t = absurd (omega (arith, some))
  after_step c cs (suc n) some t = let e : suc n - 1 ≡ n = omega arith in rw (t, e) refl

  pub after_more : (c : ℕ) (cs rest : List ℕ) (n : ℕ) → rest ≡ c ∷ cs → 0 < n → true ≡ p c →
      after_separators p (n - 1) cs ≡ after_separators p n rest
  after_more c cs rest n is some t =
      after_step c cs n some (sym t) ∙ ap (after_separators p n) (sym is)

  pub after_none : (rest : List ℕ) (n : ℕ) → length rest ≡ 0 → 0 < n → None ≡ after_separators p n rest
  after_none [] zero e some = absurd (omega (arith, some))
  after_none [] (suc n) e some = refl
  after_none (c ∷ cs) n e some = absurd (omega (arith, e))

  pub before_none : (c : ℕ) (cs rest : List ℕ) → rest ≡ c ∷ cs → true ≡ p c →
      length (before_separator p rest) ≡ 0
  before_none c cs rest is t =
      ap (λ l. length (before_separator p l)) is ∙ (let u = sym t in rw u refl)

  pub before_more : (c : ℕ) (cs rest : List ℕ) → rest ≡ c ∷ cs → false ≡ p c →
      length (before_separator p rest) ≡ suc (length (before_separator p cs))
  before_more c cs rest is f =
      ap (λ l. length (before_separator p l)) is ∙ (let u = sym f in rw u refl)

  pub before_end : (rest : List ℕ) → length rest ≡ 0 → length (before_separator p rest) ≡ 0
  before_end [] e = refl
  before_end (c ∷ cs) e = absurd (omega (arith, e))

-- one separator more
pub among_more : (done : List ℕ) (s c : ℕ) →
    is_among (done ++ s ∷ []) c ≡ (if nat_eq s c then true else is_among done c)
among_more [] s c = by_bool (nat_eq s c) _ (λ t. rw t refl) (λ f. rw f refl)
among_more (d ∷ done) s c = let ih = among_more done s c in by_bool (nat_eq d c) _
    (λ t. rw t (by_bool (nat_eq s c) _ (λ u. rw u refl) (λ g. rw g refl)))
    (λ f. rw f ih)

-- ---- what is parted

pub comma_utf8 : (separators : List ℕ) → IsUtf8 separators → IsUtf8 (or_comma separators)
unfolding encode_utf8
comma_utf8 [] utf8 = (44 ∷ [], (refl, refl))
comma_utf8 (b ∷ separators) utf8 = utf8

pub split_is : (number separators flags text among characters value : List ℕ) → length flags ≡ 0 →
    among ≡ chars (or_comma separators) → characters ≡ chars text →
    value ≡ part_of number (parts_between (is_among among) characters) →
    value ≡ split_value number separators flags text
split_is number separators [] text among characters value e a b is =
    is ∙ ap (λ l. part_of number (parts_between (is_among l) characters)) a
    ∙ ap (λ l. part_of number (parts_between (is_among (chars (or_comma separators))) l)) b
split_is number separators (flag ∷ flags) text among characters value e a b is =
    absurd (omega (arith, e))

-- what holds of a value that is there
pub ok_maps : {A E : Type 0} (r : Result A E) (P Q : A → Type 0) → ((x : A) → P x → Q x) →
    IfOk r P → IfOk r Q
ok_maps (Ok x) P Q f holds = f x holds
ok_maps (Err e) P Q f holds = tt
