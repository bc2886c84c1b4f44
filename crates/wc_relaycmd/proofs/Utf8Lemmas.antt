-- What is cut out of a text is text.
use Rattle.std.proofs.Common.{◌≡◌, ◌≢◌, ℕ, zero, suc, ◌+◌, ◌<◌, List, [], ◌∷◌, ◌++◌, length, get_or, refl, ap, sym, arith, eqb, Bool, true, false, cond, ◌&&◌, Option, Some, None, option_map, subst, append_assoc, append-nil, length-append, lit<}
use Rattle.std.proofs.lemmas.Bool.Decides.{Decides-eqb}
use Rattle.std.proofs.lemmas.List.{take_at}
use Rattle.std.proofs.Math.Seq.{drop-append-add}
use Rattle.std.proofs.lemmas.Str.{IsUtf8-append, IsUtf8-nil, IsUtf8-take, IsUtf8-drop, IsUtf8-from_ascii, IsCharBoundary-before_ascii, IsCharBoundary-after_ascii}
use Rattle.std.specs.List.{onto_first, filter_map, cons_option}
use Rattle.std.specs.Str.{IsUtf8}
use Rattle.wc_text.specs.declared.names.Pair.{Pair}
use Rattle.wc_text.specs.Splits.{before, text_after, past, blanks, WordAndRest}
use Rattle.wc_relaycmd.specs.Lists.{items_of, pieces_of, pair_in, pairs_of}
use Rattle.wc_relaycmd.specs.Escapes.{without_escapes, arguments_meant}
use Rattle.wc_relaycmd.specs.Utf8.{AreUtf8Words, PairsUtf8}
use Rattle.wc_relaycmd.proofs.ListLemmas.{items_after, items_after-onto_first, items_of-filled}
use Rattle.wc_text.proofs.WordLemmas.{margin, cut_after}

get_or-seam : (front rest : List ℕ) (b : ℕ) → get_or (front ++ b ∷ rest) (length front) 0 ≡ b
get_or-seam [] rest b = refl
get_or-seam (c ∷ front) rest b = get_or-seam front rest b

-- a text may be cut at an ASCII byte
pub cut_text : (front : List ℕ) (b : ℕ) (rest : List ℕ) → b < 128 → IsUtf8 (front ++ b ∷ rest) → IsUtf8 front × IsUtf8 rest
cut_text front b rest ascii utf8 =
    let text = front ++ b ∷ rest in
    let n = length-append front (b ∷ rest) in
    let inside : length front < length (front ++ b ∷ rest) = omega (arith, n) in
    let small : get_or (front ++ b ∷ rest) (length front) 0 < 128 = omega (arith, get_or-seam front rest b) in (
      subst IsUtf8 (take_at front (b ∷ rest) (length front) refl) (IsUtf8-take (front ++ b ∷ rest) (length front) utf8 (IsCharBoundary-before_ascii (front ++ b ∷ rest) (length front) inside small)),
      subst IsUtf8 (drop-append-add front (b ∷ rest) 1) (IsUtf8-drop (front ++ b ∷ rest) (length front + 1) utf8 (IsCharBoundary-after_ascii (front ++ b ∷ rest) (length front) utf8 inside small)),
    )

one_byte : (b : ℕ) → b < 128 → IsUtf8 (b ∷ [])
one_byte b ascii = IsUtf8-from_ascii (b ∷ []) (λ i. grind arith)

pub put_byte : (b : ℕ) (text : List ℕ) → b < 128 → IsUtf8 text → IsUtf8 (b ∷ text)
put_byte b text ascii utf8 = IsUtf8-append (b ∷ []) text (one_byte b ascii) utf8

pub before-whole : (c : ℕ) (text : List ℕ) → text_after c text ≡ None → before c text ≡ text
before-whole c [] none = refl
before-whole c (b ∷ text) none = by (eqb b c) none (before-whole c text) where
  by : (t : Bool) → cond t (Some text) (text_after c text) ≡ None → (text_after c text ≡ None → before c text ≡ text) → cond t [] (b ∷ before c text) ≡ b ∷ text
  by true here more = absurd (cc)
  by false here more = ap (λ t. b ∷ t) (more here)

pub before_text : (c : ℕ) (text : List ℕ) → c < 128 → IsUtf8 text → IsUtf8 (before c text)
before_text c text ascii utf8 = by (text_after c text) refl where
  by : (o : Option (List ℕ)) → text_after c text ≡ o → IsUtf8 (before c text)
  by None e = subst IsUtf8 (sym (before-whole c text e)) utf8
  by (Some rest) e = (cut_text (before c text) c rest ascii (subst IsUtf8 (cut_after c text rest e) utf8)).0

pub after_text : (c : ℕ) (text rest : List ℕ) → c < 128 → IsUtf8 text → text_after c text ≡ Some rest → IsUtf8 rest
after_text c text rest ascii utf8 e = (cut_text (before c text) c rest ascii (subst IsUtf8 (cut_after c text rest e) utf8)).1

pub after_blanks_text : (n : ℕ) (rest : List ℕ) → IsUtf8 (blanks n ++ rest) → IsUtf8 rest
after_blanks_text zero rest utf8 = utf8
after_blanks_text (suc n) rest utf8 = after_blanks_text n rest (cut_text [] 32 (blanks n ++ rest) (lit< tt) utf8).1

pub past_text : (text : List ℕ) → IsUtf8 text → IsUtf8 (past 32 text)
past_text text utf8 = let gap = margin text in after_blanks_text gap.0 (past 32 text) (subst IsUtf8 gap.1 utf8)

-- a word, and what follows it
pub parts_text : (text word rest : List ℕ) → WordAndRest text word rest → IsUtf8 text → IsUtf8 word × IsUtf8 rest
parts_text text word rest parts utf8 = by parts.gap rest parts.parted (subst IsUtf8 parts.spelled utf8) where
  by : (gap : ℕ) (rest : List ℕ) → (rest ≢ [] → 0 < gap) → IsUtf8 (word ++ (blanks gap ++ rest)) → IsUtf8 word × IsUtf8 rest
  by zero [] parted here = (subst IsUtf8 (append-nil word) here, IsUtf8-nil)
  by zero (b ∷ rest) parted here = let none : 0 < 0 = parted (λ e. cc) in absurd (omega arith)
  by (suc gap) rest parted here = let cut = cut_text word 32 (blanks gap ++ rest) (lit< tt) here in (cut.0, after_blanks_text gap rest cut.1)

-- escapes that are read
pub unescaped_text : (front text : List ℕ) → IsUtf8 (front ++ text) → IsUtf8 (front ++ without_escapes text)
unescaped_text front [] utf8 = utf8
unescaped_text front (b ∷ []) utf8 = utf8
unescaped_text front (b ∷ c ∷ text) utf8 =
    by (eqb b 92) (eqb c 92) (eqb c 110) refl refl refl (λ u. unescaped_text [] text u) (unescaped_text (front ++ b ∷ []) (c ∷ text) (subst IsUtf8 (sym (append_assoc front (b ∷ []) (c ∷ text))) utf8)) where
      after_two : b < 128 → c < 128 → IsUtf8 front × IsUtf8 text
      after_two small_b small_c = let cut = cut_text front b (c ∷ text) small_b utf8 in (cut.0, (cut_text [] c text small_c cut.1).1)

      read : (byte : ℕ) → byte < 128 → eqb b 92 ≡ true → c < 128 → (IsUtf8 text → IsUtf8 (without_escapes text)) → IsUtf8 (front ++ byte ∷ without_escapes text)
      read byte ascii e small more =
          let is_slash : b ≡ 92 = (Decides-eqb b 92).0 e in
          let cut = after_two (omega arith) small in
          IsUtf8-append front (byte ∷ without_escapes text) cut.0 (put_byte byte (without_escapes text) ascii (more cut.1))

      by : (s t u : Bool) → eqb b 92 ≡ s → eqb c 92 ≡ t → eqb c 110 ≡ u → (IsUtf8 text → IsUtf8 (without_escapes text)) → IsUtf8 ((front ++ b ∷ []) ++ without_escapes (c ∷ text)) →
          IsUtf8 (front ++ cond (s && t) (92 ∷ without_escapes text) (cond (s && u) (10 ∷ without_escapes text) (b ∷ without_escapes (c ∷ text))))
      by true true u e f g more other = let is_slash : c ≡ 92 = (Decides-eqb c 92).0 f in read 92 (lit< tt) e (omega arith) more
      by true false true e f g more other = let is_n : c ≡ 110 = (Decides-eqb c 110).0 g in read 10 (lit< tt) e (omega arith) more
      by true false false e f g more other = subst IsUtf8 (append_assoc front (b ∷ []) (without_escapes (c ∷ text))) other
      by false t u e f g more other = subst IsUtf8 (append_assoc front (b ∷ []) (without_escapes (c ∷ text))) other

pub meant_text : (escaped : Bool) (text : List ℕ) → IsUtf8 text → IsUtf8 (arguments_meant escaped text)
meant_text true text utf8 = unescaped_text [] text utf8
meant_text false text utf8 = utf8

-- the items of a list
pub items_after-front : (items : List (List ℕ)) → items ≢ [] → items_after [] items ≡ items
items_after-front [] some = absurd (some refl)
items_after-front (item ∷ items) some = refl

pub items_text : (front text : List ℕ) → IsUtf8 (front ++ text) → AreUtf8Words (items_after front (items_of text))
items_text front [] utf8 = (utf8, tt)
items_text front (b ∷ []) utf8 = by (eqb b 44) refl where
  by : (t : Bool) → eqb b 44 ≡ t → AreUtf8Words (items_after front (cond t ([] ∷ [] ∷ []) ((b ∷ []) ∷ [])))
  by true e =
      let is_comma : b ≡ 44 = (Decides-eqb b 44).0 e in
      (subst IsUtf8 (sym (append-nil front)) (cut_text front b [] (omega arith) utf8).0, (IsUtf8-nil, tt))
  by false e = (utf8, tt)
items_text front (b ∷ c ∷ text) utf8 =
    by (eqb b 92) (eqb c 44) (eqb b 44) refl refl refl (λ u. items_text (front ++ c ∷ []) text u) (λ u. items_text [] (c ∷ text) u)
    (items_text (front ++ b ∷ []) (c ∷ text) (subst IsUtf8 (sym (append_assoc front (b ∷ []) (c ∷ text))) utf8)) where
      ends : (u : Bool) → eqb b 44 ≡ u → (IsUtf8 (c ∷ text) → AreUtf8Words (items_after [] (items_of (c ∷ text)))) → AreUtf8Words (items_after (front ++ b ∷ []) (items_of (c ∷ text))) →
          AreUtf8Words (items_after front (cond u ([] ∷ items_of (c ∷ text)) (onto_first b (items_of (c ∷ text)))))
      ends true e next other =
          let is_comma : b ≡ 44 = (Decides-eqb b 44).0 e in
          let cut = cut_text front b (c ∷ text) (omega arith) utf8 in
          (subst IsUtf8 (sym (append-nil front)) cut.0, subst AreUtf8Words (items_after-front (items_of (c ∷ text)) (items_of-filled (c ∷ text))) (next cut.1))
      ends false e next other = subst AreUtf8Words (sym (items_after-onto_first front b (items_of (c ∷ text)))) other

      by : (s t u : Bool) → eqb b 92 ≡ s → eqb c 44 ≡ t → eqb b 44 ≡ u → (IsUtf8 ((front ++ c ∷ []) ++ text) → AreUtf8Words (items_after (front ++ c ∷ []) (items_of text))) →
          (IsUtf8 (c ∷ text) → AreUtf8Words (items_after [] (items_of (c ∷ text)))) → AreUtf8Words (items_after (front ++ b ∷ []) (items_of (c ∷ text))) →
          AreUtf8Words (items_after front (cond (s && t) (onto_first c (items_of text)) (cond u ([] ∷ items_of (c ∷ text)) (onto_first b (items_of (c ∷ text))))))
      by true true u e f g more next other =
          let is_slash : b ≡ 92 = (Decides-eqb b 92).0 e in
          let cut = cut_text front b (c ∷ text) (omega arith) utf8 in
          subst AreUtf8Words (sym (items_after-onto_first front c (items_of text)))
          (more (subst IsUtf8 (sym (append_assoc front (c ∷ []) text)) (IsUtf8-append front (c ∷ text) cut.0 cut.1)))
      by true false u e f g more next other = ends u g next other
      by false t u e f g more next other = ends u g next other

pair_text : (item : List ℕ) (pair : Pair) → IsUtf8 item → pair_in item ≡ Some pair → IsUtf8 pair.name × IsUtf8 pair.value
pair_text item pair utf8 is = by (text_after 61 item) refl is where
  by : (o : Option (List ℕ)) → text_after 61 item ≡ o → option_map (λ value. record { name = past 32 (before 61 item); value = value }) o ≡ Some pair → IsUtf8 pair.name × IsUtf8 pair.value
  by None e here = absurd (cc)
  by (Some value) e here =
      let same : record { name = past 32 (before 61 item); value = value } ≡ pair = cc in
      subst (λ (p : Pair). IsUtf8 p.name × IsUtf8 p.value) same (past_text (before 61 item) (before_text 61 item (lit< tt) utf8), after_text 61 item value (lit< tt) utf8 e)

pairs_among_text : (items : List (List ℕ)) → AreUtf8Words items → PairsUtf8 (filter_map pair_in items)
pairs_among_text [] utf8 = tt
pairs_among_text (item ∷ items) utf8 = by (pair_in item) refl (pairs_among_text items utf8.1) where
  by : (o : Option Pair) → pair_in item ≡ o → PairsUtf8 (filter_map pair_in items) → PairsUtf8 (cons_option o (filter_map pair_in items))
  by None e others = others
  by (Some pair) e others = (pair_text item pair utf8.0 e, others)

pub pairs_text : (text : List ℕ) → IsUtf8 text → PairsUtf8 (pairs_of text)
unfolding pairs_of
pairs_text text utf8 = pairs_among_text (items_of text) (subst AreUtf8Words (items_after-front (items_of text) (items_of-filled text)) (items_text [] text utf8))

-- the pieces of a text
pub pieces_filled : (text : List ℕ) → pieces_of text ≢ []
pieces_filled [] none = cc
pieces_filled (b ∷ text) none = by (eqb b 44) (pieces_of text) none where
  by : (t : Bool) (others : List (List ℕ)) → cond t ([] ∷ others) (onto_first b others) ≡ [] → ⊥
  by true others e = cc
  by false [] e = cc
  by false (piece ∷ others) e = cc

pub pieces_text : (front text : List ℕ) → IsUtf8 (front ++ text) → AreUtf8Words (items_after front (pieces_of text))
pieces_text front [] utf8 = (utf8, tt)
pieces_text front (b ∷ text) utf8 =
    by (eqb b 44) refl (λ u. pieces_text [] text u) (pieces_text (front ++ b ∷ []) text (subst IsUtf8 (sym (append_assoc front (b ∷ []) text)) utf8)) where
      by : (t : Bool) → eqb b 44 ≡ t → (IsUtf8 text → AreUtf8Words (items_after [] (pieces_of text))) → AreUtf8Words (items_after (front ++ b ∷ []) (pieces_of text)) →
          AreUtf8Words (items_after front (cond t ([] ∷ pieces_of text) (onto_first b (pieces_of text))))
      by true e next other =
          let is_comma : b ≡ 44 = (Decides-eqb b 44).0 e in
          let cut = cut_text front b text (omega arith) utf8 in
          (subst IsUtf8 (sym (append-nil front)) cut.0, subst AreUtf8Words (items_after-front (pieces_of text) (pieces_filled text)) (next cut.1))
      by false e next other = subst AreUtf8Words (sym (items_after-onto_first front b (pieces_of text))) other

pub all_pieces_text : (text : List ℕ) → IsUtf8 text → AreUtf8Words (pieces_of text)
all_pieces_text text utf8 = subst AreUtf8Words (items_after-front (pieces_of text) (pieces_filled text)) (pieces_text [] text utf8)
