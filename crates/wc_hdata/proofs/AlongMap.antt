-- A count goes along a list as it goes along what the list is seen as.
use Rattle.std.proofs.Common.{◌≡◌, ℕ, ◌+◌, List, [], ◌∷◌, ◌++◌, map, take, drop, reverse, refl, sym, ap, ◌∙◌}
use Rattle.std.proofs.lemmas.List.{take-map, drop-map, map-append, reverse-append}
use Rattle.wc_hdata.specs.declared.count.Count.{Count}
use Rattle.wc_hdata.specs.declared.count.Count.TheVariants.{One, All, Forward, Backward}
use Rattle.wc_hdata.specs.Along.{along}

map-reverse : {A B : Type 0} (f : A → B) (xs : List A) → map f (reverse xs) ≡ reverse (map f xs)
map-reverse f [] = refl
map-reverse f (x ∷ xs) =
    ap (map f) (reverse-append (x ∷ []) xs) ∙ map-append f (reverse xs) (x ∷ [])
    ∙ ap (λ l. l ++ f x ∷ []) (map-reverse f xs) ∙ sym (reverse-append (f x ∷ []) (map f xs))

pub along_map : {A B : Type 0} (f : A → B) (count : Count) (at : ℕ) (xs : List A) → map f (along count at xs) ≡ along count at (map f xs)
along_map f One at xs = sym (ap (take 1) (drop-map f at xs) ∙ take-map f 1 (drop at xs))
along_map f All at xs = sym (drop-map f at xs)
along_map f (Forward n) at xs = sym (ap (take n) (drop-map f at xs) ∙ take-map f n (drop at xs))
along_map f (Backward n) at xs = sym (take-map f n (reverse (take (at + 1) xs))) ∙ ap (take n) (map-reverse f (take (at + 1) xs) ∙ ap reverse (sym (take-map f (at + 1) xs)))
