-- Blocks and codes, byte by byte.
use Rattle.std.proofs.Common.{◌≡◌, ℕ, zero, suc, ◌<◌, List, [], ◌∷◌, ◌++◌, length, get_or, bit_xor, map, refl, ap, sym, ◌∙◌, arith}
use Rattle.std.proofs.lemmas.List.{append_assoc, append-nil, ext_get_or, length-map, get_or-map}
use Rattle.wc_relaycmd.specs.Pbkdf2.{with_pad, hmac_of_block, xor_each}

pub length-xor_each : (xs ys : List ℕ) → length (xor_each xs ys) ≡ length xs
unfolding xor_each
length-xor_each [] ys = refl
length-xor_each (x ∷ xs) [] = refl
length-xor_each (x ∷ xs) (y ∷ ys) = ap suc (length-xor_each xs ys)

pub get-xor_each : (xs ys : List ℕ) (k : ℕ) → k < length xs → k < length ys → get_or (xor_each xs ys) k 0 ≡ bit_xor (get_or xs k 0) (get_or ys k 0)
unfolding xor_each
get-xor_each [] ys k p q = absurd (omega (arith, p))
get-xor_each (x ∷ xs) [] k p q = absurd (omega (arith, q))
get-xor_each (x ∷ xs) (y ∷ ys) zero p q = refl
get-xor_each (x ∷ xs) (y ∷ ys) (suc k) p q = get-xor_each xs ys k (omega (arith, p)) (omega (arith, q))

pub xor_each_by_index : (new xs ys : List ℕ) → length new ≡ length xs → length ys ≡ length xs →
    ((k : ℕ) → k < length xs → get_or new k 0 ≡ bit_xor (get_or xs k 0) (get_or ys k 0)) → new ≡ xor_each xs ys
xor_each_by_index new xs ys same long at =
    ext_get_or 0 _ _ (same ∙ sym (length-xor_each xs ys))
    (λ k h. let below : k < length xs = omega (arith, h, same) in at k below ∙ sym (get-xor_each xs ys k below (omega (arith, below, long))))

pub map_by_index : (f : ℕ → ℕ) (new xs : List ℕ) → length new ≡ length xs →
    ((k : ℕ) → k < length xs → get_or new k 0 ≡ f (get_or xs k 0)) → new ≡ map f xs
map_by_index f new xs same at =
    ext_get_or 0 _ _ (same ∙ sym (length-map xs f))
    (λ k h. let below : k < length xs = omega (arith, h, same) in at k below ∙ sym (get_or-map f xs k 0 0 below))

-- the code of two pieces, from the digests of the inner and of the outer hasher
pub hmac_made : (hash : List ℕ → List ℕ) (block first second inner outer : List ℕ)
    → inner ≡ hash (with_pad 54 block ++ first ++ second) → outer ≡ hash (with_pad 92 block ++ inner ++ [])
    → outer ≡ hmac_of_block hash block (first ++ second)
unfolding hmac_of_block
hmac_made hash block first second inner outer is_inner is_outer =
    is_outer ∙ ap hash (append-nil (with_pad 92 block ++ inner) ∙ ap (λ d. with_pad 92 block ++ d) (is_inner ∙ ap hash (append_assoc (with_pad 54 block) first second)))
