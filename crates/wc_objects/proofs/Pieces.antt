-- How a text falls into the pieces between its marks.
use Rattle.std.proofs.Common.{◌≡◌, ℕ, ◌+◌, ◌<◌, Bool, true, false, eqb, List, [], ◌∷◌, ◌++◌, length, take, drop, get_or, refl, sym, ap, subst, ◌∙◌, append_assoc, append-nil, add-one, arith}
use Rattle.std.proofs.lemmas.Bool.{eq-eqb, ne_eqb}
use Rattle.std.proofs.Math.Seq.{drop-cons}
use Rattle.std.proofs.lemmas.List.{drop_all, take_all, take_more}
use Rattle.wc_objects.specs.Forms.{onto_first, pieces_of}

-- a front joins the first piece
abbrev pub onto_all : List ℕ → List (List ℕ) → List (List ℕ)
onto_all front [] = front ∷ []
onto_all front (piece ∷ pieces) = (front ++ piece) ∷ pieces

onto_more : (front : List ℕ) (b : ℕ) (pieces : List (List ℕ)) → onto_all front (onto_first b pieces) ≡ onto_all (front ++ b ∷ []) pieces
onto_more front b [] = refl
onto_more front b (piece ∷ pieces) = ap (λ (p : List ℕ). p ∷ pieces) (sym (append_assoc front (b ∷ []) piece))

onto_none : (b : ℕ) (pieces : List (List ℕ)) → onto_all [] (onto_first b pieces) ≡ onto_first b pieces
onto_none b [] = refl
onto_none b (piece ∷ pieces) = refl

pub starts_pieces : (mark : ℕ) (text : List ℕ) → pieces_of mark text ≡ onto_all [] (pieces_of mark text)
starts_pieces mark [] = refl
starts_pieces mark (b ∷ text) = by_test (eqb b mark) refl
  where
    by_test : (t : Bool) → eqb b mark ≡ t → pieces_of mark (b ∷ text) ≡ onto_all [] (pieces_of mark (b ∷ text))
    by_test true e = rw e refl
    by_test false e = rw e (sym (onto_none b (pieces_of mark text)))

pieces_mark : (mark : ℕ) (text : List ℕ) → pieces_of mark (mark ∷ text) ≡ [] ∷ pieces_of mark text
pieces_mark mark text = rw (eq-eqb mark mark refl) refl

pieces_other : (mark b : ℕ) (text : List ℕ) → (b ≡ mark → ⊥) → pieces_of mark (b ∷ text) ≡ onto_first b (pieces_of mark text)
pieces_other mark b text other = rw (ne_eqb b mark other) refl

-- what is known of the text as its bytes are passed one by one
abbrev pub PiecesFrom : ℕ → List ℕ → ℕ → Type 0
PiecesFrom mark text i = pieces_of mark text ≡ onto_all (take i text) (pieces_of mark (drop i text))

rest_is : (i : ℕ) (text : List ℕ) → i < length text → drop i text ≡ get_or text i 0 ∷ drop (i + 1) text
rest_is i text within = rw (add-one, drop-cons text i 0 within) refl

pub passes : (mark : ℕ) (text : List ℕ) (i : ℕ) → i < length text → (get_or text i 0 ≡ mark → ⊥) → PiecesFrom mark text i → PiecesFrom mark text (i + 1)
passes mark text i within other so_far =
    let b = get_or text i 0 in
    so_far ∙ ap (λ (t : List ℕ). onto_all (take i text) (pieces_of mark t)) (rest_is i text within)
    ∙ ap (onto_all (take i text)) (pieces_other mark b (drop (i + 1) text) other) ∙ onto_more (take i text) b (pieces_of mark (drop (i + 1) text))
    ∙ ap (λ (t : List ℕ). onto_all t (pieces_of mark (drop (i + 1) text))) (sym (take_more text i 0 within))

pub finds_mark : (mark : ℕ) (text : List ℕ) (i : ℕ) → i < length text → get_or text i 0 ≡ mark → PiecesFrom mark text i → pieces_of mark text ≡ take i text ∷ pieces_of mark (drop (i + 1) text)
finds_mark mark text i within found so_far =
    so_far ∙ ap (λ (t : List ℕ). onto_all (take i text) (pieces_of mark t)) (rest_is i text within ∙ ap (λ (b : ℕ). b ∷ drop (i + 1) text) found)
    ∙ ap (onto_all (take i text)) (pieces_mark mark (drop (i + 1) text)) ∙ ap (λ (p : List ℕ). p ∷ pieces_of mark (drop (i + 1) text)) (append-nil (take i text))

pub finds_end : (mark : ℕ) (text : List ℕ) (i : ℕ) → i ≡ length text → PiecesFrom mark text i → pieces_of mark text ≡ text ∷ []
finds_end mark text i ended so_far =
    so_far ∙ ap (λ (t : List ℕ). onto_all (take i text) (pieces_of mark t)) (drop_all i text (omega arith))
    ∙ ap (λ (p : List ℕ). p ∷ []) (append-nil (take i text) ∙ take_all i text (omega arith))

-- there is at least one piece
pub record Begins (pieces : List (List ℕ)) : Type 0 where
  pub piece : List ℕ
  pub others : List (List ℕ)
  pub are : pieces ≡ piece ∷ others

begins_onto : (b : ℕ) (pieces : List (List ℕ)) → Begins (onto_first b pieces)
begins_onto b [] = record { piece = b ∷ []; others = []; are = refl }
begins_onto b (piece ∷ pieces) = record { piece = b ∷ piece; others = pieces; are = refl }

pub begins : (mark : ℕ) (text : List ℕ) → Begins (pieces_of mark text)
begins mark [] = record { piece = []; others = []; are = refl }
begins mark (b ∷ text) = by_test (eqb b mark) refl
  where
    by_test : (t : Bool) → eqb b mark ≡ t → Begins (pieces_of mark (b ∷ text))
    by_test true e = record { piece = []; others = pieces_of mark text; are = rw e refl }
    by_test false e = let P : List (List ℕ) → Type 0 = λ ps. Begins ps in subst P (rw e refl) (begins_onto b (pieces_of mark text))
