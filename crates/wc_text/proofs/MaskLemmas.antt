-- A mask is matched part by part.
use Rattle.std.proofs.Common.{◌≡◌, ℕ, zero, suc, ◌+◌, ◌<◌, Bool, true, false, cond, not, ◌&&◌, ◌||◌, List, [], ◌∷◌, ◌++◌, length, take, drop, Option, Some, None, is_some, ◌⊎◌, inl, inr, refl, sym, ap, subst, ◌∙◌, arith}
use Rattle.std.specs.Prelude.{◌==◌}
use Rattle.std.specs.List.{position_or_len}
use Rattle.std.proofs.lemmas.List.{take_all, take-append-drop, length-append, length-drop, append-nil}
use Rattle.std.proofs.lemmas.Bool.{and_parts}
use Rattle.std.proofs.lemmas.Bool.Decides.{nat_tests}
use Rattle.wc_text.specs.Mask.{same_byte, some_end, first_and, is_nothing, is_star, matches_of, is_plain, after_front, first_of_two, after_first, ends_with}

or_second : (x y : Bool) → y ≡ true → (x || y) ≡ true
or_second true y e = refl
or_second false y e = e

or_parts : (x y : Bool) → (x || y) ≡ true → (x ≡ true) ⊎ (y ≡ true)
or_parts true y e = inl refl
or_parts false y e = inr e

some_same : (x y : List ℕ) → Some x ≡ Some y → x ≡ y
some_same x y e = cc

-- ---- the first star
star_here : (c : ℕ) (mask : List ℕ) → is_star c ≡ true → position_or_len is_star (c ∷ mask) ≡ 0
star_here c mask e = rw e refl

star_later : (c : ℕ) (mask : List ℕ) → is_star c ≡ false → position_or_len is_star (c ∷ mask) ≡ suc (position_or_len is_star mask)
star_later c mask e = rw e (omega arith)

abbrev PartsAt : List ℕ → ℕ → Type 0
PartsAt mask n = (is_plain (take n mask) ≡ true) × (n < length mask → mask ≡ take n mask ++ 42 ∷ drop (suc n) mask)

parted_by : (c : ℕ) (mask : List ℕ) (test : Bool) → is_star c ≡ test → PartsAt mask (position_or_len is_star mask) → PartsAt (c ∷ mask) (position_or_len is_star (c ∷ mask))
parted_by c mask true e h =
    let P : ℕ → Type 0 = PartsAt (c ∷ mask) in
    let star : c ≡ 42 = grind (arith, nat_tests) in
    subst P (sym (star_here c mask e)) (refl, λ _. ap (λ b. b ∷ mask) star)
parted_by c mask false e h =
    let P : ℕ → Type 0 = PartsAt (c ∷ mask) in
    subst P (sym (star_later c mask e)) (rw e h.0, λ inside. ap (λ bytes. c ∷ bytes) (h.1 (omega arith)))

parted : (mask : List ℕ) → PartsAt mask (position_or_len is_star mask)
parted [] = (refl, λ h. absurd (omega arith))
parted (c ∷ mask) = parted_by c mask (is_star c) refl (parted mask)

pub no_star : (mask : List ℕ) (n : ℕ) → n ≡ position_or_len (λ b. b == 42) mask → n ≡ length mask → is_plain mask ≡ true
no_star mask n e all =
    let P : ℕ → Type 0 = PartsAt mask in
    let h : PartsAt mask n = subst P (sym e) (parted mask) in
    sym (ap is_plain (take_all n mask (omega arith))) ∙ h.0

pub star_at : (mask : List ℕ) (n : ℕ) → n ≡ position_or_len (λ b. b == 42) mask → n < length mask → (is_plain (take n mask) ≡ true) × (mask ≡ take n mask ++ 42 ∷ drop (n + 1) mask)
star_at mask n e inside =
    let P : ℕ → Type 0 = PartsAt mask in
    let h : PartsAt mask n = subst P (sym e) (parted mask) in
    let next : n + 1 ≡ suc n = omega arith in
    (h.0, h.1 inside ∙ ap (λ k. take n mask ++ 42 ∷ drop k mask) (sym next))

-- ---- a part at the front
abbrev pub passes : (List ℕ → Bool) → Option (List ℕ) → Bool
passes test None = false
passes test (Some text) = test text

front_by : (fold : Bool) (c b : ℕ) (front mask text : List ℕ) (test : Bool) → same_byte fold c b ≡ test → (more : Bool)
    → more ≡ passes (matches_of fold mask) (after_front fold front text)
    → (same_byte fold c b && more) ≡ passes (matches_of fold mask) (cond (same_byte fold c b) (after_front fold front text) None)
front_by fold c b front mask text true e more h = rw e h
front_by fold c b front mask text false e more h = rw e refl

plain_step : (fold : Bool) (c : ℕ) (mask text : List ℕ) → is_star c ≡ false → matches_of fold (c ∷ mask) text ≡ first_and fold c (matches_of fold mask) text
plain_step fold c mask text e = rw e refl

not_star : (c : ℕ) (part : List ℕ) → is_plain (c ∷ part) ≡ true → (is_star c ≡ false) × (is_plain part ≡ true)
not_star c part e = let h = and_parts (not (is_star c)) (is_plain part) e in (grind (arith, nat_tests), h.1)

-- a mask that begins with a plain part
pub matches_front : (fold : Bool) (front mask text : List ℕ) → is_plain front ≡ true → matches_of fold (front ++ mask) text ≡ passes (matches_of fold mask) (after_front fold front text)
matches_front fold [] mask text plain = refl
matches_front fold (c ∷ front) mask [] plain = plain_step fold c (front ++ mask) [] (not_star c front plain).0
matches_front fold (c ∷ front) mask (b ∷ text) plain =
    let h = not_star c front plain in
    plain_step fold c (front ++ mask) (b ∷ text) h.0
    ∙ front_by fold c b front mask text (same_byte fold c b) refl (matches_of fold (front ++ mask) text) (matches_front fold front mask text h.1)

-- ---- the first place of a part
-- what some end of a shorter end matches, some end of the longer one matches
shorter_end : (test : List ℕ → Bool) (n : ℕ) (text : List ℕ) → some_end test (drop (suc n) text) ≡ true → some_end test (drop n text) ≡ true
shorter_end test zero [] e = e
shorter_end test (suc n) [] e = e
shorter_end test zero (b ∷ text) e = or_second (test (b ∷ text)) (some_end test text) e
shorter_end test (suc n) (b ∷ text) e = shorter_end test n text e

front_is_by : (fold : Bool) (c b : ℕ) (part text rest : List ℕ) (test : Bool) → same_byte fold c b ≡ test → cond (same_byte fold c b) (after_front fold part text) None ≡ Some rest
    → (after_front fold part text ≡ Some rest → rest ≡ drop (length part) text) → rest ≡ drop (length part) text
front_is_by fold c b part text rest true t e ih = ih (rw t at e)
front_is_by fold c b part text rest false t e ih = let none : None ≡ Some rest = rw t at e in cc

front_is : (fold : Bool) (part text rest : List ℕ) → after_front fold part text ≡ Some rest → rest ≡ drop (length part) text
front_is fold [] text rest e = sym (some_same text rest e)
front_is fold (c ∷ part) [] rest e = cc
front_is fold (c ∷ part) (b ∷ text) rest e = front_is_by fold c b part text rest (same_byte fold c b) refl e (front_is fold part text rest)

abbrev Later : Bool → (List ℕ → Bool) → List ℕ → List ℕ → Bool
Later fold test part text = some_end (λ end. passes (some_end test) (after_front fold part end)) text

here : (fold : Bool) (test : List ℕ → Bool) (part text : List ℕ) (found : Option (List ℕ)) → after_front fold part text ≡ found
    → passes (some_end test) found ≡ true → some_end test (drop (length part) text) ≡ true
here fold test part text None e h = cc
here fold test part text (Some rest) e h = ap (some_end test) (sym (front_is fold part text rest e)) ∙ h

later : (fold : Bool) (test : List ℕ → Bool) (part text : List ℕ) → Later fold test part text ≡ true → some_end test (drop (length part) text) ≡ true
later fold test part [] e = here fold test part [] (after_front fold part []) refl e
later fold test part (b ∷ text) e = elim (or_parts _ _ e) [
  | inl now ↦ here fold test part (b ∷ text) (after_front fold part (b ∷ text)) refl now
  | inr then ↦ shorter_end test (length part) (b ∷ text) (later fold test part text then)
]

settled : (x y : Bool) → (y ≡ true → x ≡ true) → (x || y) ≡ x
settled true y h = refl
settled false true h = sym (h refl)
settled false false h = refl

first_by : (fold : Bool) (test : List ℕ → Bool) (part text : List ℕ) (b : ℕ) (found : Option (List ℕ)) → after_front fold part (b ∷ text) ≡ found
    → Later fold test part text ≡ passes (some_end test) (after_first fold part text)
    → (passes (some_end test) found || Later fold test part text) ≡ passes (some_end test) (first_of_two found (after_first fold part text))
first_by fold test part text b None e h = h
first_by fold test part text b (Some rest) e h =
    settled (some_end test rest) (Later fold test part text)
    (λ more. ap (some_end test) (front_is fold part (b ∷ text) rest e) ∙ shorter_end test (length part) (b ∷ text) (later fold test part text more))

-- where the text begins with the part, that is its first place
pub found_first : (fold : Bool) (part text rest : List ℕ) → after_front fold part text ≡ Some rest → after_first fold part text ≡ Some rest
found_first fold part [] rest e = e
found_first fold part (b ∷ text) rest e = rw e refl

-- it is enough to look after the first place
pub first_place : (fold : Bool) (test : List ℕ → Bool) (part text : List ℕ) → Later fold test part text ≡ passes (some_end test) (after_first fold part text)
first_place fold test part [] = refl
first_place fold test part (b ∷ text) = first_by fold test part text b (after_front fold part (b ∷ text)) refl (first_place fold test part text)

-- ---- the last part
plain_matches : (fold : Bool) (mask text : List ℕ) → is_plain mask ≡ true → matches_of fold mask text ≡ passes is_nothing (after_front fold mask text)
plain_matches fold mask text plain = ap (λ m. matches_of fold m text) (sym (append-nil mask)) ∙ matches_front fold mask [] text plain ∙ nothing (after_front fold mask text)
  where
    nothing : (found : Option (List ℕ)) → passes (matches_of fold []) found ≡ passes is_nothing found
    nothing None = refl
    nothing (Some rest) = refl

pub whole_matches : (fold : Bool) (mask text : List ℕ) (found : Option (List ℕ)) → is_plain mask ≡ true → found ≡ after_front fold mask text → matches_of fold mask text ≡ passes is_nothing found
whole_matches fold mask text found plain e = plain_matches fold mask text plain ∙ ap (passes is_nothing) (sym e)

too_short : (fold : Bool) (mask text : List ℕ) → length text < length mask → after_front fold mask text ≡ None
too_short fold [] text h = absurd (omega arith)
too_short fold (c ∷ mask) [] h = refl
too_short fold (c ∷ mask) (b ∷ text) h = either (same_byte fold c b) (after_front fold mask text) (too_short fold mask text (omega arith))
  where
    either : (test : Bool) (found : Option (List ℕ)) → found ≡ None → cond test found None ≡ None
    either true found e = e
    either false found e = refl

nothing_len : (rest : List ℕ) → 0 < length rest → is_nothing rest ≡ false
nothing_len [] h = absurd (omega arith)
nothing_len (b ∷ rest) h = refl

nothing_none : (rest : List ℕ) → length rest ≡ 0 → is_nothing rest ≡ true
nothing_none [] h = refl
nothing_none (b ∷ rest) h = absurd (omega arith)

too_long_by : (fold : Bool) (mask text : List ℕ) (found : Option (List ℕ)) → after_front fold mask text ≡ found → length mask < length text → passes is_nothing found ≡ false
too_long_by fold mask text None e h = refl
too_long_by fold mask text (Some rest) e h =
    nothing_len rest (omega (arith, ap length (front_is fold mask text rest e), length-drop (length mask) text))

same_len_by : (fold : Bool) (mask text : List ℕ) (found : Option (List ℕ)) → after_front fold mask text ≡ found → length mask ≡ length text → passes is_nothing found ≡ is_some found
same_len_by fold mask text None e h = refl
same_len_by fold mask text (Some rest) e h =
    nothing_none rest (omega (arith, ap length (front_is fold mask text rest e), length-drop (length mask) text))

-- a text that is shorter than a mask without stars ends with nothing that it matches
ends_short : (fold : Bool) (mask text : List ℕ) → is_plain mask ≡ true → length text < length mask → ends_with fold mask text ≡ false
ends_short fold mask [] plain h = plain_matches fold mask [] plain ∙ ap (passes is_nothing) (too_short fold mask [] h)
ends_short fold mask (b ∷ text) plain h =
    (λ k. (plain_matches fold mask (b ∷ text) plain ∙ ap (passes is_nothing) (too_short fold mask (b ∷ text) h)) k || ends_short fold mask text plain (omega arith) k)

ends_here : (fold : Bool) (mask text : List ℕ) (b : ℕ) → is_plain mask ≡ true → length mask ≡ suc (length text) → ends_with fold mask (b ∷ text) ≡ is_some (after_front fold mask (b ∷ text))
ends_here fold mask text b plain h =
    (λ k. (plain_matches fold mask (b ∷ text) plain ∙ same_len_by fold mask (b ∷ text) (after_front fold mask (b ∷ text)) refl h) k || ends_short fold mask text plain (omega arith) k)
    ∙ or_false (is_some (after_front fold mask (b ∷ text)))
  where
    or_false : (x : Bool) → (x || false) ≡ x
    or_false true = refl
    or_false false = refl

ends_later : (fold : Bool) (mask text : List ℕ) (b : ℕ) → is_plain mask ≡ true → length mask < suc (length text) → ends_with fold mask (b ∷ text) ≡ ends_with fold mask text
ends_later fold mask text b plain h =
    ap (λ x. x || ends_with fold mask text) (plain_matches fold mask (b ∷ text) plain ∙ too_long_by fold mask (b ∷ text) (after_front fold mask (b ∷ text)) refl h)

ends_at : (fold : Bool) (mask front end : List ℕ) → is_plain mask ≡ true → length mask ≡ length end → ends_with fold mask (front ++ end) ≡ is_some (after_front fold mask end)
ends_at fold [] [] [] plain h = refl
ends_at fold (c ∷ mask) [] [] plain h = absurd (omega arith)
ends_at fold mask [] (b ∷ end) plain h = ends_here fold mask end b plain h
ends_at fold mask (b ∷ front) end plain h =
    ends_later fold mask (front ++ end) b plain (omega (arith, length-append front end)) ∙ ends_at fold mask front end plain h

-- one that is not ends with it where its last bytes do
pub ends_long : (fold : Bool) (mask text : List ℕ) (n : ℕ) → is_plain mask ≡ true → length mask + n ≡ length text → ends_with fold mask text ≡ is_some (after_front fold mask (drop n text))
ends_long fold mask text n plain h =
    ap (ends_with fold mask) (sym (take-append-drop n text)) ∙ ends_at fold mask (take n text) (drop n text) plain (omega (arith, length-drop n text))

pub no_end : (fold : Bool) (mask text : List ℕ) → is_plain mask ≡ true → length text < length mask → ends_with fold mask text ≡ false
no_end = ends_short

-- ---- masks with a star
some_end_same : (f g : List ℕ → Bool) → ((text : List ℕ) → f text ≡ g text) → (text : List ℕ) → some_end f text ≡ some_end g text
some_end_same f g same [] = same []
some_end_same f g same (b ∷ text) = λ k. same (b ∷ text) k || some_end_same f g same text k

-- before the first star the text begins with the mask, and some end of the rest matches what comes after the star
pub front_and_star : (fold : Bool) (mask front others text : List ℕ) (found : Option (List ℕ)) → is_plain front ≡ true → mask ≡ front ++ 42 ∷ others → found ≡ after_front fold front text
    → matches_of fold mask text ≡ passes (ends_with fold others) found
front_and_star fold mask front others text found plain parts e =
    ap (λ m. matches_of fold m text) parts ∙ matches_front fold front (42 ∷ others) text plain ∙ ap (passes (ends_with fold others)) (sym e)

-- and where some end is sought, it is enough to go on after the first place of the part
pub part_and_star : (fold : Bool) (mask part others text : List ℕ) (found : Option (List ℕ)) → is_plain part ≡ true → mask ≡ part ++ 42 ∷ others → found ≡ after_first fold part text
    → ends_with fold mask text ≡ passes (ends_with fold others) found
part_and_star fold mask part others text found plain parts e =
    ap (λ m. ends_with fold m text) parts
    ∙ some_end_same (matches_of fold (part ++ 42 ∷ others)) (λ end. passes (some_end (matches_of fold others)) (after_front fold part end)) (λ end. matches_front fold part (42 ∷ others) end plain) text
    ∙ first_place fold (matches_of fold others) part text
    ∙ ap (passes (ends_with fold others)) (sym e)
