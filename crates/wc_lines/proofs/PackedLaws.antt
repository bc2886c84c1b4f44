-- What is read of a block is what was written.
use Rattle.std.proofs.Common.{◌≡◌, ℕ, zero, suc, ◌+◌, ◌<◌, ◌≤◌, ◌^◌, Bool, true, false, cond, List, [], ◌∷◌, ◌++◌, length, take, drop, Option, Some, None, refl, sym, ap, ◌∙◌, arith, length-drop, length-append, append_assoc, append-nil}
use Rattle.std.specs.Prelude.{nat_lt}
use Rattle.std.specs.Int.{w32, from_be_bytes}
use Rattle.std.proofs.Math.Seq.{take-append_seam, drop-append_seam}
use Rattle.std.proofs.lemmas.Nat.{from_be_bytes-to_be_bytes_4}
use Rattle.std.proofs.lemmas.Option.{none-some, same_Some}
use Rattle.std.proofs.lemmas.Bool.Decides.{nat_tests}
use Rattle.wc_lines.specs.Packed.{LineTexts, spelled, all_spelled, AllFit, cut_at, first_tag, first_tags, with_rest, tags_of}

-- ---- the tests
past : {A : Type 0} (b : Bool) (r : Option A) (x : A) → cond b None r ≡ Some x → (b ≡ false) × (r ≡ Some x)
past true r x e = absurd (none-some x e)
past false r x e = (refl, e)

not_less : (n m : ℕ) → m ≤ n → nat_lt n m ≡ false
not_less n m h = grind (arith, nat_tests)

less : (n m : ℕ) → n < m → nat_lt n m ≡ true
less n m h = grind (arith, nat_tests)

no_less : (n m : ℕ) → nat_lt n m ≡ false → m ≤ n
no_less n m e = grind (arith, nat_tests)

-- ---- what comes after a tag is shorter
after_cut : (n : ℕ) (bytes : List ℕ) (x : List ℕ × List ℕ) → cut_at n bytes ≡ Some x → length x.1 ≤ length bytes
after_cut n bytes x e =
    let h = past (nat_lt (length bytes) n) (Some (take n bytes, drop n bytes)) x e in
    let rest : drop n bytes ≡ x.1 = ap (λ y. y.1) (same_Some (take n bytes, drop n bytes) x h.1) in
    omega (arith, ap length rest, length-drop n bytes)

pub shorter : (bytes : List ℕ) (x : List ℕ × List ℕ) → first_tag bytes ≡ Some x → length x.1 < length bytes
unfolding first_tag
shorter bytes x e =
    let n = from_be_bytes w32 (take 4 bytes) in
    let h = past (nat_lt (length bytes) 4) (cut_at n (drop 4 bytes)) x e in
    omega (arith, no_less (length bytes) 4 h.0, after_cut n (drop 4 bytes) x h.1, length-drop 4 bytes)

too_short : (bytes : List ℕ) → length bytes < 4 → first_tag bytes ≡ None
unfolding first_tag
too_short bytes short = ap (λ b. cond b None (cut_at (from_be_bytes w32 (take 4 bytes)) (drop 4 bytes))) (less (length bytes) 4 short)

-- ---- as many steps as there are bytes are enough
same_rest : (n m : ℕ) (bytes : List ℕ) (o : Option (List ℕ × List ℕ)) → first_tag bytes ≡ o → length bytes ≤ suc n → length bytes ≤ suc m
    → ((rest : List ℕ) → length rest ≤ n → length rest ≤ m → first_tags n rest ≡ first_tags m rest)
    → with_rest (first_tags n) o ≡ with_rest (first_tags m) o
same_rest n m bytes None e h k ih = refl
same_rest n m bytes (Some x) e h k ih =
    let less = shorter bytes x e in
    ap (λ tags. x.0 ∷ tags) (ih x.1 (omega (arith, less)) (omega (arith, less)))

enough : (n m : ℕ) (bytes : List ℕ) → length bytes ≤ n → length bytes ≤ m → first_tags n bytes ≡ first_tags m bytes
enough zero zero bytes h k = refl
enough zero (suc m) bytes h k = sym (ap (with_rest (first_tags m)) (too_short bytes (omega arith)))
enough (suc n) zero bytes h k = ap (with_rest (first_tags n)) (too_short bytes (omega arith))
enough (suc n) (suc m) bytes h k = same_rest n m bytes (first_tag bytes) refl h k (enough n m)

-- one step more than there are bytes
one_more : (bytes : List ℕ) (o : Option (List ℕ × List ℕ)) → first_tag bytes ≡ o → tags_of bytes ≡ with_rest (first_tags (length bytes)) o
unfolding tags_of
one_more bytes o e =
    enough (length bytes) (suc (length bytes)) bytes (omega arith) (omega arith) ∙ ap (with_rest (first_tags (length bytes))) e

pub tag_at_front : (bytes tag rest : List ℕ) → first_tag bytes ≡ Some (tag, rest) → tags_of bytes ≡ tag ∷ tags_of rest
unfolding tags_of
tag_at_front bytes tag rest e =
    let less = shorter bytes (tag, rest) e in
    one_more bytes (Some (tag, rest)) e ∙ ap (λ tags. tag ∷ tags) (enough (length bytes) (length rest) rest (omega (arith, less)) (omega arith))

pub no_tag : (bytes : List ℕ) → first_tag bytes ≡ None → tags_of bytes ≡ []
no_tag bytes e = one_more bytes None e

-- what `next` needs
pub ruleset tag_facts = (tag_at_front, no_tag)

-- ---- what was spelled is read
cut_front : (tag rest : List ℕ) → cut_at (length tag) (tag ++ rest) ≡ Some (tag, rest)
cut_front tag rest =
    let n = length tag in
    let long = not_less (length (tag ++ rest)) n (omega (arith, length-append tag rest)) in
    ap (λ b. cond b None (Some (take n (tag ++ rest), drop n (tag ++ rest)))) long
    ∙ (λ i. Some (take-append_seam tag rest i, drop-append_seam tag rest i))

first_spelled : (tag rest : List ℕ) → length tag < 2 ^ 32 → first_tag (spelled tag ++ rest) ≡ Some (tag, rest)
unfolding spelled first_tag
first_spelled tag rest fits =
    let bytes = spelled tag ++ rest in
    let n = length tag in
    let four : nat_lt (length bytes) 4 ≡ false = not_less (length bytes) 4 (omega arith) in
    let size : from_be_bytes w32 (take 4 bytes) ≡ n = from_be_bytes-to_be_bytes_4 n fits in
    ap (λ b. cond b None (cut_at (from_be_bytes w32 (take 4 bytes)) (drop 4 bytes))) four
    ∙ ap (λ k. cut_at k (tag ++ rest)) size
    ∙ cut_front tag rest

tags_of_spelled : (tags : List (List ℕ)) → AllFit tags → tags_of (all_spelled tags) ≡ tags
tags_of_spelled [] fit = no_tag [] (too_short [] (omega arith))
tags_of_spelled (tag ∷ tags) fit =
    tag_at_front (all_spelled (tag ∷ tags)) tag (all_spelled tags) (first_spelled tag (all_spelled tags) fit.0)
    ∙ ap (λ more. tag ∷ more) (tags_of_spelled tags fit.1)

-- ---- the whole block
abbrev texts : List (List ℕ) → List ℕ → List ℕ → LineTexts
texts tags prefix message = record { tags = tags; prefix = prefix; message = message }

pub texts_of_block : (tags : List (List ℕ)) (prefix message block : List ℕ) (m t : ℕ) → m ≡ length prefix → t ≡ length (prefix ++ message) → AllFit tags
    → block ≡ (prefix ++ message) ++ all_spelled tags
    → texts (tags_of (drop t block)) (take m block) (drop m (take t block)) ≡ texts tags prefix message
texts_of_block tags prefix message block m t at_message at_tags fit is =
    let end = all_spelled tags in
    let tags_read : tags_of (drop t block) ≡ tags =
    (λ i. tags_of (drop (at_tags i) (is i))) ∙ ap tags_of (drop-append_seam (prefix ++ message) end) ∙ tags_of_spelled tags fit in
    let prefix_read : take m block ≡ prefix =
    (λ i. take (at_message i) (is i)) ∙ ap (take (length prefix)) (append_assoc prefix message end) ∙ take-append_seam prefix (message ++ end) in
    let message_read : drop m (take t block) ≡ message =
    (λ i. drop (at_message i) (take (at_tags i) (is i))) ∙ ap (drop (length prefix)) (take-append_seam (prefix ++ message) end) ∙ drop-append_seam prefix message in
    λ i. texts (tags_read i) (prefix_read i) (message_read i)

-- behind the message there is nothing but the tags that are read there
pub end_of_block : (tags : List (List ℕ)) (front block : List ℕ) (t : ℕ) → t ≡ length front → AllFit tags → block ≡ front ++ all_spelled tags
    → drop t block ≡ all_spelled (tags_of (drop t block))
end_of_block tags front block t at_tags fit is =
    let end : drop t block ≡ all_spelled tags = (λ i. drop (at_tags i) (is i)) ∙ drop-append_seam front (all_spelled tags) in
    end ∙ ap all_spelled (sym (tags_of_spelled tags fit)) ∙ ap (λ bytes. all_spelled (tags_of bytes)) (sym end)

-- ---- one tag after another
spelled_more : (tags more : List (List ℕ)) → all_spelled (tags ++ more) ≡ all_spelled tags ++ all_spelled more
spelled_more [] more = refl
spelled_more (tag ∷ tags) more = ap (λ bytes. spelled tag ++ bytes) (spelled_more tags more) ∙ sym (append_assoc (spelled tag) (all_spelled tags) (all_spelled more))

fit_more : (tags more : List (List ℕ)) → AllFit tags → AllFit more → AllFit (tags ++ more)
fit_more [] more h k = k
fit_more (tag ∷ tags) more h k = (h.0, fit_more tags more h.1 k)

one_spelled : (tag : List ℕ) → all_spelled (tag ∷ []) ≡ spelled tag
one_spelled tag = append-nil (spelled tag)

-- a block with the first tags, and with one tag more
pub put_one : (old block new tag : List ℕ) (tags : List (List ℕ)) → block ≡ old ++ all_spelled tags → new ≡ block ++ spelled tag
    → new ≡ old ++ all_spelled (tags ++ tag ∷ [])
put_one old block new tag tags was is =
    is ∙ ap (λ bytes. bytes ++ spelled tag) was
    ∙ append_assoc old (all_spelled tags) (spelled tag)
    ∙ ap (λ bytes. old ++ (all_spelled tags ++ bytes)) (sym (one_spelled tag))
    ∙ ap (λ bytes. old ++ bytes) (sym (spelled_more tags (tag ∷ [])))

pub fits_one : (tag : List ℕ) (tags : List (List ℕ)) → AllFit tags → length tag < 2 ^ 32 → AllFit (tags ++ tag ∷ [])
fits_one tag tags h k = fit_more tags (tag ∷ []) h (k, tt)

-- ---- how long the tags are
more_long : (tags more : List (List ℕ)) → length (all_spelled (tags ++ more)) ≡ length (all_spelled tags) + length (all_spelled more)
more_long tags more = ap length (spelled_more tags more) ∙ length-append (all_spelled tags) (all_spelled more)

spelled_long : (tag : List ℕ) → length (spelled tag) ≡ length tag + 4
unfolding spelled
spelled_long tag = omega arith

pub one_longer : (tags : List (List ℕ)) (tag : List ℕ) → length (all_spelled (tags ++ tag ∷ [])) ≡ length (all_spelled tags) + 4 + length tag
one_longer tags tag = omega (arith, more_long tags (tag ∷ []), ap length (one_spelled tag), spelled_long tag)
