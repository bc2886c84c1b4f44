-- The texts of keys, as they are written one by one.
use Rattle.std.proofs.Common.{◌≡◌, ℕ, ◌+◌, ◌<◌, List, [], ◌∷◌, ◌++◌, length, get_or, take, map, sym, ap, ◌∙◌, append_assoc}
use Rattle.std.specs.List.{join_with_byte}
use Rattle.std.proofs.lemmas.List.{take_more, map-append}
use Rattle.wc_keys.specs.declared.key.Key.{Key}
use Rattle.wc_keys.specs.Keys.{key_text}
use Rattle.wc_hdata.proofs.EndLemmas.{joined-push}

-- the text of a first key and of others
abbrev pub texts : Key → List Key → List ℕ
texts first others = join_with_byte 44 (key_text first ∷ map key_text others)

texts_push : (first : Key) (others : List Key) (key : Key) → texts first (others ++ key ∷ []) ≡ texts first others ++ (44 ∷ key_text key)
texts_push first others key =
    ap (λ (ts : List (List ℕ)). join_with_byte 44 (key_text first ∷ ts)) (map-append key_text others (key ∷ []))
    ∙ joined-push 44 (key_text first) (map key_text others) (key_text key)

pub texts_more : (first : Key) (others : List Key) (i : ℕ) (d : Key) (text comma new : List ℕ) → i < length others → text ≡ texts first (take i others)
    → comma ≡ text ++ 44 ∷ [] → new ≡ comma ++ key_text (get_or others i d) → new ≡ texts first (take (i + 1) others)
texts_more first others i d text comma new within so_far parted written =
    written ∙ ap (λ (t : List ℕ). t ++ key_text (get_or others i d)) (parted ∙ ap (λ (t : List ℕ). t ++ 44 ∷ []) so_far)
    ∙ append_assoc (texts first (take i others)) (44 ∷ []) (key_text (get_or others i d))
    ∙ sym (texts_push first (take i others) (get_or others i d)) ∙ ap (texts first) (sym (take_more others i d within))
