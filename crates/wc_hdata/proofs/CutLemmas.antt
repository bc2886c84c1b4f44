-- What cutting a text at a byte gives.
use Rattle.std.proofs.Common.{◌≡◌, ℕ, ◌+◌, List, [], ◌∷◌, ◌++◌, length, Option, Some, None, Bool, true, false, cond, not, ◌&&◌, eqb, refl, sym, ap, ◌∙◌, append-nil}
use Rattle.std.specs.List.{slice_split, onto_first, list_all}
use Rattle.std.proofs.lemmas.Bool.{false≢true, eqb-true, eq-eqb, and_parts, and_from}
use Rattle.std.proofs.lemmas.List.Folds.{list_all-append}
use Rattle.wc_text.specs.Splits.{before, text_after}
use Rattle.wc_hdata.specs.Pieces.{pieces_at}

before-same : (c b : ℕ) (text : List ℕ) → b ≡ c → before c (b ∷ text) ≡ []
before-same c b text e = ap (λ (t : Bool). cond t [] (b ∷ before c text)) (eq-eqb b c e)

text_after-same : (c b : ℕ) (text : List ℕ) → b ≡ c → text_after c (b ∷ text) ≡ Some text
text_after-same c b text e = ap (λ (t : Bool). cond t (Some text) (text_after c text)) (eq-eqb b c e)

-- ---- texts without a byte
abbrev pub lacks : ℕ → List ℕ → Bool
lacks c text = list_all (λ b. not (eqb b c)) text

pub lacks-append : (c : ℕ) (front text : List ℕ) → lacks c front ≡ true → lacks c text ≡ true → lacks c (front ++ text) ≡ true
lacks-append c front text p q = list_all-append (λ b. not (eqb b c)) front text ∙ and_from (lacks c front) (lacks c text) p q

pub not_this : (p : ℕ → Bool) (c b : ℕ) → p c ≡ false → p b ≡ true → not (eqb b c) ≡ true
not_this p c b fails passes = by (eqb b c) refl where
  by : (t : Bool) → eqb b c ≡ t → not t ≡ true
  by true e = absurd (false≢true (sym fails ∙ ap p (sym (eqb-true b c e)) ∙ passes))
  by false e = refl

-- bytes that pass a test which this byte fails
pub passing_lacks : (p : ℕ → Bool) (c : ℕ) → p c ≡ false → (text : List ℕ) → list_all p text ≡ true → lacks c text ≡ true
passing_lacks p c fails [] passes = refl
passing_lacks p c fails (b ∷ text) passes =
    let both = and_parts (p b) (list_all p text) passes in
    and_from (not (eqb b c)) (lacks c text) (not_this p c b fails both.0) (passing_lacks p c fails text both.1)

-- ---- a cut, undone
abbrev pub from_mark : ℕ → Option (List ℕ) → List ℕ
from_mark c None = []
from_mark c (Some text) = c ∷ text

before-front : (c : ℕ) (front rest : List ℕ) → lacks c front ≡ true → before c (front ++ rest) ≡ front ++ before c rest
before-front c [] rest h = refl
before-front c (b ∷ front) rest h = by (eqb b c) h (before-front c front rest) where
  by : (t : Bool) → not t && lacks c front ≡ true → (lacks c front ≡ true → before c (front ++ rest) ≡ front ++ before c rest)
      → cond t [] (b ∷ before c (front ++ rest)) ≡ b ∷ (front ++ before c rest)
  by true h more = absurd (false≢true h)
  by false h more = ap (λ (t : List ℕ). b ∷ t) (more h)

text_after-front : (c : ℕ) (front rest : List ℕ) → lacks c front ≡ true → text_after c (front ++ rest) ≡ text_after c rest
text_after-front c [] rest h = refl
text_after-front c (b ∷ front) rest h = by (eqb b c) h (text_after-front c front rest) where
  by : (t : Bool) → not t && lacks c front ≡ true → (lacks c front ≡ true → text_after c (front ++ rest) ≡ text_after c rest)
      → cond t (Some (front ++ rest)) (text_after c (front ++ rest)) ≡ text_after c rest
  by true h more = absurd (false≢true h)
  by false h more = more h

before-mark : (c : ℕ) (rest : Option (List ℕ)) → before c (from_mark c rest) ≡ []
before-mark c None = refl
before-mark c (Some text) = before-same c c text refl

text_after-mark : (c : ℕ) (rest : Option (List ℕ)) → text_after c (from_mark c rest) ≡ rest
text_after-mark c None = refl
text_after-mark c (Some text) = text_after-same c c text refl

pub before-joined : (c : ℕ) (front : List ℕ) (rest : Option (List ℕ)) → lacks c front ≡ true → before c (front ++ from_mark c rest) ≡ front
before-joined c front rest h = before-front c front (from_mark c rest) h ∙ ap (λ (t : List ℕ). front ++ t) (before-mark c rest) ∙ append-nil front

pub text_after-joined : (c : ℕ) (front : List ℕ) (rest : Option (List ℕ)) → lacks c front ≡ true → text_after c (front ++ from_mark c rest) ≡ rest
text_after-joined c front rest h = text_after-front c front (from_mark c rest) h ∙ text_after-mark c rest

pub cut_joins : (c : ℕ) (text : List ℕ) → text ≡ before c text ++ from_mark c (text_after c text)
cut_joins c [] = refl
cut_joins c (b ∷ text) = by (eqb b c) refl (cut_joins c text) where
  by : (t : Bool) → eqb b c ≡ t → text ≡ before c text ++ from_mark c (text_after c text)
      → b ∷ text ≡ cond t [] (b ∷ before c text) ++ from_mark c (cond t (Some text) (text_after c text))
  by true e more = ap (λ n. n ∷ text) (eqb-true b c e)
  by false e more = ap (λ (t : List ℕ). b ∷ t) more

-- ---- pieces
-- the first piece, and those after it
pub pieces_cut : (c : ℕ) (text : List ℕ) → slice_split (λ b. eqb b c) text ≡ before c text ∷ pieces_at c (text_after c text)
pieces_cut c [] = refl
pieces_cut c (b ∷ text) = by (eqb b c) (pieces_cut c text) where
  by : (t : Bool) → slice_split (λ b. eqb b c) text ≡ before c text ∷ pieces_at c (text_after c text)
      → cond t ([] ∷ slice_split (λ b. eqb b c) text) (onto_first b (slice_split (λ b. eqb b c) text))
      ≡ cond t [] (b ∷ before c text) ∷ pieces_at c (cond t (Some text) (text_after c text))
  by true more = refl
  by false more = ap (onto_first b) more

pub pieces_joined : (c : ℕ) (front : List ℕ) (rest : Option (List ℕ)) → lacks c front ≡ true → slice_split (λ b. eqb b c) (front ++ from_mark c rest) ≡ front ∷ pieces_at c rest
pieces_joined c front rest h =
    pieces_cut c (front ++ from_mark c rest) ∙ ap (λ (t : List ℕ). t ∷ pieces_at c (text_after c (front ++ from_mark c rest))) (before-joined c front rest h)
    ∙ ap (λ (o : Option (List ℕ)). front ∷ pieces_at c o) (text_after-joined c front rest h)

-- each piece after its mark
abbrev pub marked : ℕ → List (List ℕ) → List ℕ
marked c [] = []
marked c (piece ∷ pieces) = c ∷ (piece ++ marked c pieces)

marked-onto : (c b : ℕ) (text : List ℕ) (pieces : List (List ℕ)) → marked c pieces ≡ c ∷ text → marked c (onto_first b pieces) ≡ c ∷ b ∷ text
marked-onto c b text [] e = absurd (cc)
marked-onto c b text (piece ∷ pieces) e = let same : piece ++ marked c pieces ≡ text = cc in ap (λ (t : List ℕ). c ∷ b ∷ t) same

marked-split : (c : ℕ) (text : List ℕ) → marked c (slice_split (λ b. eqb b c) text) ≡ c ∷ text
marked-split c [] = refl
marked-split c (b ∷ text) = by (eqb b c) refl (marked-split c text) where
  by : (t : Bool) → eqb b c ≡ t → marked c (slice_split (λ b. eqb b c) text) ≡ c ∷ text
      → marked c (cond t ([] ∷ slice_split (λ b. eqb b c) text) (onto_first b (slice_split (λ b. eqb b c) text))) ≡ c ∷ b ∷ text
  by true e more = ap (λ (t : List ℕ). c ∷ t) more ∙ ap (λ n. c ∷ n ∷ text) (sym (eqb-true b c e))
  by false e more = marked-onto c b text (slice_split (λ b. eqb b c) text) more

pub marked-pieces : (c : ℕ) (rest : Option (List ℕ)) → marked c (pieces_at c rest) ≡ from_mark c rest
marked-pieces c None = refl
marked-pieces c (Some text) = marked-split c text

-- how long what is left is, with one for the mark in front
abbrev pub length_left : Option (List ℕ) → ℕ
length_left None = 0
length_left (Some text) = 1 + length text
