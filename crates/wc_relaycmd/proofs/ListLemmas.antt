-- The items of a list, and the pairs that they write.
use Rattle.std.proofs.Common.{◌≡◌, ◌≢◌, ℕ, List, [], ◌∷◌, ◌++◌, refl, ap, sym, ◌∙◌, eqb, Bool, true, false, cond, append_assoc, append-nil, Option, Some, None, ◌&&◌}
use Rattle.std.specs.List.{onto_first, filter_map, cons_option}
use Rattle.wc_text.specs.declared.names.Pair.{Pair}
use Rattle.std.specs.Option.{option_to_list}
use Rattle.wc_text.specs.Splits.{before, text_after}
use Rattle.wc_relaycmd.specs.Lists.{pieces_of, items_of, pair_in, pairs_of}
use Rattle.wc_relaycmd.proofs.SplitLemmas.{slice_split_last, slice_split_more}

-- items, the first with more bytes at its front
abbrev pub items_after : List ℕ → List (List ℕ) → List (List ℕ)
items_after front [] = front ∷ []
items_after front (item ∷ items) = (front ++ item) ∷ items

pub items_after-onto_first : (front : List ℕ) (b : ℕ) (items : List (List ℕ)) → items_after front (onto_first b items) ≡ items_after (front ++ b ∷ []) items
items_after-onto_first front b [] = refl
items_after-onto_first front b (item ∷ items) = ap (λ first. first ∷ items) (sym (append_assoc front (b ∷ []) item))

-- the pieces so far, and the last one
pub pieces_end : (front new all : List (List ℕ)) (piece rest : List ℕ) → front ++ pieces_of rest ≡ all → piece ≡ before 44 rest → None ≡ text_after 44 rest → new ≡ front ++ piece ∷ [] → new ≡ all
pieces_end front new all piece rest so_far cut none pushed =
    pushed ∙ ap (λ p. front ++ p ∷ []) cut ∙ ap (λ ps. front ++ ps) (sym (slice_split_last 44 rest (sym none))) ∙ so_far

-- the pieces so far, and one more
pub pieces_more : (front new all : List (List ℕ)) (piece rest more : List ℕ) → front ++ pieces_of rest ≡ all → piece ≡ before 44 rest → Some more ≡ text_after 44 rest → new ≡ front ++ piece ∷ [] → new ++ pieces_of more ≡ all
pieces_more front new all piece rest more so_far cut some pushed =
    ap (λ ps. ps ++ pieces_of more) (pushed ∙ ap (λ p. front ++ p ∷ []) cut) ∙
    append_assoc front (before 44 rest ∷ []) (pieces_of more) ∙ ap (λ ps. front ++ ps) (sym (slice_split_more 44 rest more (sym some))) ∙ so_far

-- an option's value before others
pub filter_map-first : {A B : Type 0} (f : A → Option B) (x : A) (xs : List A) (ys : List B) → ys ++ filter_map f (x ∷ xs) ≡ (ys ++ option_to_list (f x)) ++ filter_map f xs
filter_map-first {B = B} f x xs ys = first (f x) where
  first : (o : Option B) → ys ++ cons_option o (filter_map f xs) ≡ (ys ++ option_to_list o) ++ filter_map f xs
  first None = ap (λ zs. zs ++ filter_map f xs) (sym (append-nil ys))
  first (Some y) = sym (append_assoc ys (y ∷ []) (filter_map f xs))

-- the pairs so far, and that of the last item
pub pairs_end : (front new all : List Pair) (pair : Option Pair) (text item rest : List ℕ) → front ++ pairs_of rest ≡ all → items_of rest ≡ item ∷ [] → text ≡ item → pair ≡ pair_in text → new ≡ front ++ option_to_list pair → new ≡ all
unfolding pairs_of
pairs_end front new all pair text item rest so_far items same found pushed =
    pushed ∙ ap (λ p. front ++ option_to_list p) (found ∙ ap pair_in same) ∙ sym (append-nil (front ++ option_to_list (pair_in item))) ∙ sym (filter_map-first pair_in item [] front) ∙
    ap (λ is. front ++ filter_map pair_in is) (sym items) ∙ so_far

-- the pairs so far, and that of one more item
pub pairs_more : (front new all : List Pair) (pair : Option Pair) (text item rest more : List ℕ) → front ++ pairs_of rest ≡ all → items_of rest ≡ item ∷ items_of more → text ≡ item → pair ≡ pair_in text → new ≡ front ++ option_to_list pair → new ++ pairs_of more ≡ all
unfolding pairs_of
pairs_more front new all pair text item rest more so_far items same found pushed =
    ap (λ ps. ps ++ filter_map pair_in (items_of more)) (pushed ∙ ap (λ p. front ++ option_to_list p) (found ∙ ap pair_in same)) ∙ sym (filter_map-first pair_in item (items_of more) front) ∙
    ap (λ is. front ++ filter_map pair_in is) (sym items) ∙ so_far

-- an item so far, and one more byte
pub item_more : (item new rest more list : List ℕ) (b : ℕ) → items_after item (items_of rest) ≡ items_of list → items_of rest ≡ onto_first b (items_of more) → new ≡ item ++ b ∷ [] → items_after new (items_of more) ≡ items_of list
item_more item new rest more list b so_far front pushed =
    ap (λ i. items_after i (items_of more)) pushed ∙ sym (items_after-onto_first item b (items_of more)) ∙ ap (items_after item) (sym front) ∙ so_far

-- an item that ends
pub item_end : (item rest list : List ℕ) (others : List (List ℕ)) → items_after item (items_of rest) ≡ items_of list → items_of rest ≡ [] ∷ others → items_of list ≡ item ∷ others
item_end item rest list others so_far front =
    sym so_far ∙ ap (items_after item) front ∙ ap (λ i. i ∷ others) (append-nil item)

pub items_after-nil : (items : List (List ℕ)) (item : List ℕ) → item ≡ [] → items ≢ [] → items_after item items ≡ items
items_after-nil [] item nil some = absurd (some refl)
items_after-nil (first ∷ items) item nil some = ap (λ i. (i ++ first) ∷ items) nil

pub onto_first-filled : (b : ℕ) (items : List (List ℕ)) → onto_first b items ≢ []
onto_first-filled b [] e = cc
onto_first-filled b (item ∷ items) e = cc

-- a list has an item
pub items_of-filled : (list : List ℕ) → items_of list ≢ []
items_of-filled [] e = cc
items_of-filled (b ∷ []) e = by (eqb b 44) e where
  by : (t : Bool) → cond t ([] ∷ [] ∷ []) ((b ∷ []) ∷ []) ≡ [] → ⊥
  by true e = cc
  by false e = cc
items_of-filled (b ∷ c ∷ text) e = by (eqb b 92 && eqb c 44) (eqb b 44) e where
  by : (t u : Bool) → cond t (onto_first c (items_of text)) (cond u ([] ∷ items_of (c ∷ text)) (onto_first b (items_of (c ∷ text)))) ≡ [] → ⊥
  by true u e = onto_first-filled c (items_of text) e
  by false true e = cc
  by false false e = onto_first-filled b (items_of (c ∷ text)) e
