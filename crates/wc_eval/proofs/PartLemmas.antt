-- The parts of a condition, and what is all of it.
use Rattle.std.proofs.Common.{◌≡◌, ℕ, ◌+◌, ◌-◌, ◌<◌, ◌≤◌, Bool, true, false, nat_le, is_some, ◌&&◌, ◌==◌, List, [], ◌∷◌, ◌++◌, length, take, map}
use Rattle.std.proofs.Common.{Option, Some, None, option_map, refl, ap, sym, subst, ◌∙◌, append_assoc}
use Rattle.std.proofs.Common.{length-append, append-nil, arith}
use Rattle.std.proofs.lemmas.Option.{none-some, same_Some}
use Rattle.std.proofs.lemmas.Bool.{eqb-true, false≢true, lt-leb}
use Rattle.wc_eval.specs.declared.pieces.Walk.{Walk}
use Rattle.wc_eval.specs.Pieces.{Piece, Byte, Form, Group, piece_text, text_of, is_byte, pieces_of}
use Rattle.wc_eval.specs.Pieces.{with_groups, blocks_of, open_after, most_open_from, most_open}
use Rattle.wc_eval.specs.Walks.{left_of}
use Rattle.wc_eval.specs.Parts.{onto_part, begins_with_byte, parts_at, parts_of, group_by, whole_group}
use Rattle.wc_eval.specs.Parts.{comparing_from, comparing_in}
use Rattle.wc_eval.specs.Comparisons.{sign_at}
use Rattle.wc_eval.specs.declared.comparison.Comparison.{Comparison}
use Rattle.wc_eval.specs.declared.parts.Sides.{Sides}
use Rattle.wc_eval.specs.Reading.{blocks_left, past_first, past_pair, or_later, past_two, texts_by, from_sign}
use Rattle.wc_eval.specs.Reading.{IsComparing}
use Rattle.wc_eval.proofs.RunLemmas.{by_bool}
use Rattle.wc_eval.proofs.PieceLemmas.{is_written, pieces_text}
use Rattle.wc_eval.proofs.GroupPieces.{groups_text}

-- what is left of a text is what the pieces that are left write
pub blocks_text : (walk : Walk) → text_of (blocks_left walk) ≡ walk.rest.now
blocks_text walk = groups_text (left_of walk) ∙ pieces_text walk.has_bytes_alone walk.rest.now

-- ---- two bytes that part

pub record IsParted (c : ℕ) (ps rest : List Piece) : Type 0 where
  pub front : List Piece
  pub parts : parts_at c false ps ≡ front ∷ parts_at c false rest
  pub written : text_of ps ≡ text_of front ++ c ∷ c ∷ text_of rest

parted_here : (c : ℕ) (p : Piece) (ps rest : List Piece) → is_byte c p ≡ true →
    Some rest ≡ past_first c ps → IsParted c (p ∷ ps) rest
parted_here c p [] rest t e = absurd (none-some _ (sym e))
parted_here c p (q ∷ ps) rest t e = by_bool (is_byte c q) _
    (λ u. let is : rest ≡ ps = same_Some _ _ (rw u at e) in record {
      front = [];
      parts = rw (t, u) (ap (λ l. [] ∷ parts_at c false l) (sym is));
      written = ap (λ l. l ++ (piece_text q ++ text_of ps)) (is_written c p t)
          ∙ ap (λ l. c ∷ (l ++ text_of ps)) (is_written c q u)
          ∙ ap (λ l. c ∷ c ∷ text_of l) (sym is);
    })
    (λ f. absurd (none-some _ (sym (rw f at e))))

not_pair : (c : ℕ) (p : Piece) (ps : List Piece) → None ≡ past_pair c p ps →
    (is_byte c p && begins_with_byte c ps) ≡ false
not_pair c p ps e = by_bool (is_byte c p) _
    (λ t. rw t (by ps (rw t at e)))
    (λ f. rw f refl)
  where
    by : (ps : List Piece) → None ≡ past_first c ps → begins_with_byte c ps ≡ false
    by [] e = refl
    by (q ∷ qs) e = by_bool (is_byte c q) _
        (λ t. absurd (none-some _ (rw t at e)))
        (λ f. f)

pair_here : (c : ℕ) (p : Piece) (ps rest : List Piece) → Some rest ≡ past_pair c p ps →
    IsParted c (p ∷ ps) rest
pair_here c p ps rest e = by_bool (is_byte c p) _
    (λ t. parted_here c p ps rest t (rw t at e))
    (λ f. absurd (none-some _ (sym (rw f at e))))

parted_later : (c : ℕ) (p : Piece) (ps rest : List Piece) →
    (is_byte c p && begins_with_byte c ps) ≡ false → IsParted c ps rest → IsParted c (p ∷ ps) rest
parted_later c p ps rest f is = record {
  front = p ∷ is.front;
  parts = rw f (ap (onto_part p) is.parts);
  written = ap (λ l. piece_text p ++ l) is.written
      ∙ sym (append_assoc (piece_text p) (text_of is.front) (c ∷ c ∷ text_of rest));
}

pub parted : (c : ℕ) (ps rest : List Piece) → Some rest ≡ past_two c ps → IsParted c ps rest
parted c [] rest e = absurd (none-some _ (sym e))
parted c (p ∷ ps) rest e = by (past_pair c p ps) refl (parted c ps rest) e
  where
    by : (o : Option (List Piece)) → o ≡ past_pair c p ps →
        (Some rest ≡ past_two c ps → IsParted c ps rest) → Some rest ≡ or_later o (past_two c ps) →
        IsParted c (p ∷ ps) rest
    by None is ih e = parted_later c p ps rest (not_pair c p ps is) (ih e)
    by (Some found) is ih e = pair_here c p ps rest (e ∙ is)

pub one_part : (c : ℕ) (ps : List Piece) → None ≡ past_two c ps → parts_at c false ps ≡ ps ∷ []
one_part c [] e = refl
one_part c (p ∷ ps) e = by (past_pair c p ps) refl (one_part c ps) e
  where
    by : (o : Option (List Piece)) → o ≡ past_pair c p ps →
        (None ≡ past_two c ps → parts_at c false ps ≡ ps ∷ []) → None ≡ or_later o (past_two c ps) →
        parts_at c false (p ∷ ps) ≡ (p ∷ ps) ∷ []
    by None is ih e = rw (not_pair c p ps is) (ap (onto_part p) (ih e))
    by (Some found) is ih e = absurd (none-some _ e)

front_two : (whole front : List ℕ) (c : ℕ) (rest : List ℕ) → whole ≡ front ++ c ∷ c ∷ rest →
    take (length whole - length rest - 2) whole ≡ front
front_two whole front c rest is =
    let long : length whole ≡ length (front ++ c ∷ c ∷ rest) = ap length is in
    let sum : length (front ++ c ∷ c ∷ rest) ≡ length front + length (c ∷ c ∷ rest) =
    length-append front (c ∷ c ∷ rest) in
    let same : length whole - length rest - 2 ≡ length front = omega (arith, long, sum) in
    rw (same, is) (take_front front (c ∷ c ∷ rest))
  where
    take_front : (a b : List ℕ) → take (length a) (a ++ b) ≡ a
    take_front [] b = refl
    take_front (x ∷ a) b = ap (λ l. x ∷ l) (take_front a b)

pub part_some : (c : ℕ) (walk end : Walk) → Some (blocks_left end) ≡ past_two c (blocks_left walk) →
    texts_by c (Some walk)
    ≡ take (length walk.rest.now - length end.rest.now - 2) walk.rest.now ∷ texts_by c (Some end)
part_some c walk end e =
    let is = parted c (blocks_left walk) (blocks_left end) e in
    let whole : walk.rest.now ≡ text_of is.front ++ c ∷ c ∷ end.rest.now =
    sym (blocks_text walk) ∙ is.written
    ∙ ap (λ l. text_of is.front ++ c ∷ c ∷ l) (blocks_text end) in
    ap (map text_of) is.parts
    ∙ ap (λ l. l ∷ texts_by c (Some end))
    (sym (front_two walk.rest.now (text_of is.front) c end.rest.now whole))

pub part_none : (c : ℕ) (walk : Walk) → None ≡ past_two c (blocks_left walk) →
    texts_by c (Some walk) ≡ walk.rest.now ∷ []
part_none c walk e = ap (map text_of) (one_part c (blocks_left walk) e)
    ∙ ap (λ l. l ∷ []) (blocks_text walk)

pub parts_start : (c : ℕ) (walk : Walk) (text : List ℕ) → left_of walk ≡ pieces_of text →
    texts_by c (Some walk) ≡ parts_of c text
unfolding parts_of blocks_of
parts_start c walk text is = ap (λ ps. map text_of (parts_at c false (with_groups ps))) is

-- ---- a group that is all of a text

no_pieces : (ps : List Piece) → length (text_of ps) ≡ 0 → ps ≡ []
no_pieces [] e = refl
no_pieces (Byte b ∷ ps) e = absurd (omega (arith, e))
no_pieces (Form text ∷ ps) e = absurd (omega (arith, e))
no_pieces (Group text ∷ ps) e = absurd (omega (arith, e))

module _ (text : List ℕ) (p : Piece) (after : Walk) (blocks : blocks_of text ≡ p ∷ blocks_left after)
  where
    pub whole_more : false ≡ (length after.rest.now == 0) → whole_group text ≡ None
    unfolding whole_group
    whole_more more = ap group_by blocks ∙ by (blocks_left after) (blocks_text after)
      where
        only : (p q : Piece) (qs : List Piece) → group_by (p ∷ q ∷ qs) ≡ None
        only (Byte b) q qs = refl
        only (Form inside) q qs = refl
        only (Group inside) q qs = refl

        by : (qs : List Piece) → text_of qs ≡ after.rest.now → group_by (p ∷ qs) ≡ None
        by [] is = absurd (false≢true (more ∙ ap (λ (l : List ℕ). length l == 0) (sym is)))
        by (q ∷ qs) is = only p q qs

    pub whole_last : true ≡ (length after.rest.now == 0) → whole_group text ≡ group_by (p ∷ [])
    unfolding whole_group
    whole_last none =
        let empty : length after.rest.now ≡ 0 = eqb-true (length after.rest.now) 0 (sym none) in
        ap group_by (blocks ∙ ap (λ l. p ∷ l)
        (no_pieces (blocks_left after) (ap length (blocks_text after) ∙ empty)))

pub whole_none : (text : List ℕ) → blocks_of text ≡ [] → whole_group text ≡ None
unfolding whole_group
whole_none text e = ap group_by e

pub blocks_written : (text : List ℕ) → text_of (blocks_of text) ≡ text
unfolding blocks_of
blocks_written text = groups_text (pieces_of text) ∙ pieces_text false text

pub blocks_start : (walk : Walk) (text : List ℕ) → left_of walk ≡ pieces_of text →
    blocks_left walk ≡ blocks_of text
unfolding blocks_of
blocks_start walk text is = ap with_groups is

-- ---- the parts that are still to come

pub same_front : (whole text end rest front : List ℕ) → text ≡ whole → end ≡ rest →
    front ≡ take (length text - length end - 2) text →
    take (length whole - length rest - 2) whole ≡ front
same_front whole text end rest front one two e = rw (← one, ← two) (sym e)

pub along : (c d : ℕ) (left right : Option Walk) → d ≡ c → right ≡ left →
    texts_by c left ≡ texts_by d right
along c d left right one two = rw (one, two) refl

-- ---- comparisons

is_some_map : {A B : Type 0} (f : A → B) (o : Option A) → is_some (option_map f o) ≡ is_some o
is_some_map f None = refl
is_some_map f (Some x) = refl

pub some_sign : {A : Type 0} (f : A → Comparison × List ℕ) (o : Option A) (text : List ℕ) (b : Bool) →
    option_map f o ≡ sign_at text → b ≡ is_some o → is_some (sign_at text) ≡ b
some_sign f o text b e is = ap is_some (sym e) ∙ is_some_map f o ∙ sym is

module _ (walk : Walk) (p : Piece) (qs : List Piece) (rest : List ℕ) (is : rest ≡ walk.rest.now)
    (blocks : blocks_left walk ≡ p ∷ qs) where
  written_here : text_of (p ∷ qs) ≡ rest
  written_here = ap text_of (sym blocks) ∙ blocks_text walk ∙ sym is

  pub sign_here : (there : List ℕ) → there ≡ walk.rest.now → is_some (sign_at rest) ≡ true →
      Some there ≡ from_sign (blocks_left walk)
  sign_here there same t = ap Some (same ∙ sym is) ∙ sym (ap from_sign blocks
      ∙ rw (written_here, t) refl)

  pub sign_later : is_some (sign_at rest) ≡ false → from_sign (blocks_left walk) ≡ from_sign qs
  sign_later f = ap from_sign blocks ∙ rw (written_here, f) refl

none_is : {A : Type 0} (o : Option A) → is_some o ≡ false → o ≡ None
none_is None e = refl
none_is (Some x) e = absurd (false≢true (sym e))

comparing_none : (ps : List Piece) (left : List ℕ) → None ≡ from_sign ps → comparing_from left ps ≡ None
comparing_none [] left e = refl
comparing_none (p ∷ ps) left e = by_bool (is_some (sign_at (text_of (p ∷ ps)))) _
    (λ t. absurd (none-some _ (rw t at e)))
    (λ f. rw (none_is (sign_at (text_of (p ∷ ps))) f) (comparing_none ps (left ++ piece_text p) (rw f at e)))

record Compares (left : List ℕ) (ps : List Piece) (rest : List ℕ) (found : Comparison × List ℕ) : Type 0 where
  pub front : List ℕ
  pub written : text_of ps ≡ front ++ rest
  pub comparing : comparing_from left ps
      ≡ Some (record { left = left ++ front; comparison = found.0; right = found.1 })

comparing_some : (ps : List Piece) (left rest : List ℕ) (found : Comparison × List ℕ) →
    Some rest ≡ from_sign ps → sign_at rest ≡ Some found → Compares left ps rest found
comparing_some [] left rest found e sign = absurd (none-some _ (sym e))
comparing_some (p ∷ ps) left rest found e sign = by_bool (is_some (sign_at (text_of (p ∷ ps)))) _
    (λ t. let is : rest ≡ text_of (p ∷ ps) = same_Some _ _ (rw t at e) in
    let here : sign_at (text_of (p ∷ ps)) ≡ Some found = ap sign_at (sym is) ∙ sign in record {
      front = [];
      written = sym is;
      comparing = rw (here, append-nil left) refl;
    })
    (λ f. let more = comparing_some ps (left ++ piece_text p) rest found (rw f at e) sign in record {
      front = piece_text p ++ more.front;
      written = ap (λ l. piece_text p ++ l) more.written ∙ sym (append_assoc (piece_text p) more.front rest);
      comparing = rw (none_is (sign_at (text_of (p ∷ ps))) f) (more.comparing
          ∙ ap (λ l. Some (record { left = l; comparison = found.0; right = found.1 }))
          (append_assoc left (piece_text p) more.front));
    })

pub sign_there : (ps : List Piece) (rest : List ℕ) → Some rest ≡ from_sign ps → None ≡ sign_at rest → ⊥
sign_there [] rest e none = none-some _ (sym e)
sign_there (p ∷ ps) rest e none = by_bool (is_some (sign_at (text_of (p ∷ ps)))) _
    (λ t. let is : rest ≡ text_of (p ∷ ps) = same_Some _ _ (rw t at e) in
    false≢true (ap is_some (none ∙ ap sign_at is) ∙ t))
    (λ f. sign_there ps rest (rw f at e) none)

pub compares_not : (text : List ℕ) → None ≡ from_sign (blocks_of text) → IsComparing (comparing_in text) None
unfolding comparing_in
compares_not text e = subst (λ o. IsComparing o None) (sym (comparing_none (blocks_of text) [] e)) tt

front_one : (whole front rest : List ℕ) → whole ≡ front ++ rest →
    take (length whole - length rest) whole ≡ front
front_one whole front rest is =
    let long : length whole ≡ length (front ++ rest) = ap length is in
    let sum : length (front ++ rest) ≡ length front + length rest = length-append front rest in
    let same : length whole - length rest ≡ length front = omega (arith, long, sum) in
    rw (same, is) (take_front front rest)
  where
    take_front : (a b : List ℕ) → take (length a) (a ++ b) ≡ a
    take_front [] b = refl
    take_front (x ∷ a) b = ap (λ l. x ∷ l) (take_front a b)

pub compares : (text rest : List ℕ) (sides : Sides) → Some rest ≡ from_sign (blocks_of text) →
    Some (sides.comparison, sides.right.now) ≡ sign_at rest →
    sides.left.now ≡ take (length text - length rest) text → IsComparing (comparing_in text) (Some sides)
unfolding comparing_in
compares text rest sides e sign left =
    let is = comparing_some (blocks_of text) [] rest (sides.comparison, sides.right.now) e (sym sign) in
    subst (λ o. IsComparing o (Some sides)) (sym is.comparing)
    (left ∙ front_one text is.front rest (sym (blocks_written text) ∙ is.written), refl, refl)

-- ---- how many parentheses are open

most_least : (ps : List Piece) (count : ℕ) → count ≤ most_open_from count ps
most_least [] count = omega arith
most_least (p ∷ ps) count = omega arith

pub too_many : (count most : ℕ) (ps : List Piece) (p : Piece) (qs : List Piece) → ps ≡ p ∷ qs →
    most < open_after p count → nat_le (most_open_from count ps) most ≡ false
too_many count most ps p qs is more =
    let least = most_least qs (open_after p count) in
    ap (λ l. nat_le (most_open_from count l) most) is
    ∙ lt-leb (most_open_from count (p ∷ qs)) most (omega (arith, least))

pub most_start : (walk : Walk) (text : List ℕ) → left_of walk ≡ pieces_of text →
    most_open_from 0 (left_of walk) ≡ most_open text
unfolding most_open
most_start walk text is = ap (most_open_from 0) is
