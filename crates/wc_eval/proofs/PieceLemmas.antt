-- The pieces of a text, from a form at its front and from a byte.
use Rattle.std.proofs.Common.{◌≡◌, ℕ, ◌+◌, ◌-◌, Bool, true, false, ◌&&◌, ◌==◌, List, []}
use Rattle.std.proofs.Common.{◌∷◌, ◌++◌, length, take, Option, Some, None, option_map, refl, ap, sym}
use Rattle.std.proofs.Common.{subst, ◌∙◌, append_assoc, length-append, arith}
use Rattle.std.specs.Prelude.{option_and_then, if◌then◌else◌}
use Rattle.std.proofs.lemmas.Option.{none-some, same_Some}
use Rattle.std.proofs.lemmas.Bool.{eqb-true, ne_eqb, and_parts, false≢true}
use Rattle.wc_text.specs.Splits.{begins_with}
use Rattle.wc_eval.specs.Pieces.{Piece, Byte, Form, Group, piece_text, text_of, is_byte, split_at}
use Rattle.wc_eval.specs.Pieces.{form_or_bytes, byte_before, with_forms, is_open, bytes_of}
use Rattle.wc_eval.specs.Pieces.{with_loose_end, pieces_of}
use Rattle.wc_eval.specs.Walks.{begins_form, after_form, inside_form, pieces_left}
use Rattle.wc_eval.proofs.RunLemmas.{by_bool}

abbrev Parts : Type 0
Parts = List Piece × List Piece

-- ---- what pieces are written as

pub is_written : (c : ℕ) (p : Piece) → is_byte c p ≡ true → piece_text p ≡ c ∷ []
is_written c (Byte b) e = ap (λ x. x ∷ []) (eqb-true b c e)
is_written c (Form text) e = absurd (false≢true e)
is_written c (Group text) e = absurd (false≢true e)

pub split_text : (c : ℕ) (ps : List Piece) (parts : Parts) → split_at c ps ≡ Some parts →
    text_of ps ≡ text_of parts.0 ++ c ∷ text_of parts.1
split_text c [] parts e = absurd (none-some _ e)
split_text c (p ∷ ps) parts e = by_bool (is_byte c p) _
    (λ t. let is : ([], ps) ≡ parts = same_Some _ _ (rw t at e) in
    subst (λ (parts : Parts). text_of (p ∷ ps) ≡ text_of parts.0 ++ c ∷ text_of parts.1) is
    (ap (λ l. l ++ text_of ps) (is_written c p t)))
    (λ f. by (split_at c ps) (split_text c ps) (rw f at e))
  where
    by : (o : Option Parts) → ((found : Parts) → o ≡ Some found →
        text_of ps ≡ text_of found.0 ++ c ∷ text_of found.1) →
        option_map (λ (found : Parts). (p ∷ found.0, found.1)) o ≡ Some parts →
        text_of (p ∷ ps) ≡ text_of parts.0 ++ c ∷ text_of parts.1
    by None ih e = absurd (none-some _ e)
    by (Some found) ih e =
        let is : (p ∷ found.0, found.1) ≡ parts = same_Some _ _ e in
        subst (λ (parts : Parts). text_of (p ∷ ps) ≡ text_of parts.0 ++ c ∷ text_of parts.1) is
        (ap (λ l. piece_text p ++ l) (ih found refl)
        ∙ sym (append_assoc (piece_text p) (text_of found.0) (c ∷ text_of found.1)))

form_text : (ps : List Piece) (o : Option Parts) → split_at 125 ps ≡ o →
    text_of (form_or_bytes ps o) ≡ 36 ∷ 123 ∷ text_of ps
form_text ps None e = refl
form_text ps (Some parts) e =
    ap (λ l. 36 ∷ 123 ∷ l) (append_assoc (text_of parts.0) (125 ∷ []) (text_of parts.1)
    ∙ sym (split_text 125 ps parts e))

before_text : (b : ℕ) (ps : List Piece) → text_of (byte_before b ps) ≡ b ∷ text_of ps
before_text b [] = refl
before_text b (p ∷ ps) = by_bool ((b == 36) && is_byte 123 p) _
    (λ t. let parts = and_parts (b == 36) (is_byte 123 p) t in
    rw t (form_text ps (split_at 125 ps) refl
    ∙ ap (λ x. x ∷ 123 ∷ text_of ps) (sym (eqb-true b 36 parts.0))
    ∙ ap (λ l. b ∷ (l ++ text_of ps)) (sym (is_written 123 p parts.1))))
    (λ f. rw f refl)

pub forms_text : (text : List ℕ) → text_of (with_forms text) ≡ text
forms_text [] = refl
forms_text (b ∷ text) = before_text b (with_forms text) ∙ ap (λ l. b ∷ l) (forms_text text)

-- ---- a byte where no form begins

-- the first piece is a byte only where the text begins with it
first_byte : (c : ℕ) (p : Piece) (ps : List Piece) (text : List ℕ) → text_of (p ∷ ps) ≡ text →
    begins_with c text ≡ false → is_byte c p ≡ false
first_byte c (Byte b) ps text is none = rw (← is) at none
first_byte c (Form inside) ps text is none = refl
first_byte c (Group inside) ps text is none = refl

plain_before : (b : ℕ) (ps : List Piece) (text : List ℕ) → text_of ps ≡ text →
    begins_form b text ≡ false → byte_before b ps ≡ Byte b ∷ ps
plain_before b [] text is none = refl
plain_before b (p ∷ ps) text is none = by_bool (b == 36) _
    (λ t. let first = first_byte 123 p ps text is (rw t at none) in rw (t, first) refl)
    (λ f. rw f refl)

pub plain_forms : (b : ℕ) (text : List ℕ) → begins_form b text ≡ false →
    with_forms (b ∷ text) ≡ Byte b ∷ with_forms text
plain_forms b text none = plain_before b (with_forms text) text (forms_text text) none

-- ---- a `${`

opened_before : (ps : List Piece) → byte_before 36 (byte_before 123 ps) ≡ form_or_bytes ps (split_at 125 ps)
opened_before [] = refl
opened_before (p ∷ ps) = refl

pub opened_forms : (inside : List ℕ) →
    with_forms (36 ∷ 123 ∷ inside) ≡ form_or_bytes (with_forms inside) (split_at 125 (with_forms inside))
opened_forms inside = opened_before (with_forms inside)

-- ---- what is left after closing bytes

-- the pieces after so many such bytes and one more
abbrev pub past : ℕ → ℕ → List Piece → Option (List Piece)
past c n [] = None
past c n (p ∷ ps) = if is_byte c p then (if n == 0 then Some ps else past c (n - 1) ps)
    else past c n ps

module _ (c : ℕ) where
  past_none : (n : ℕ) (ps : List Piece) → past c 0 ps ≡ None → past c n ps ≡ None
  past_none n [] e = refl
  past_none n (p ∷ ps) e = by_bool (is_byte c p) _
      (λ t. absurd (none-some _ (sym (rw t at e))))
      (λ f. rw f (past_none n ps (rw f at e)))

  past_more : (n : ℕ) (ps : List Piece) → past c (n + 1) ps ≡ option_and_then (past c n) (past c 0 ps)
  past_more n [] = refl
  past_more n (p ∷ ps) = by_bool (is_byte c p) _
      (λ t. let more : (n + 1 == 0) ≡ false = ne_eqb (n + 1) 0 (λ e. omega (arith, e)) in
      let less : n + 1 - 1 ≡ n = omega arith in rw (t, more, less) refl)
      (λ f. rw f (past_more n ps))

  pub split_past : (ps : List Piece) →
      past c 0 ps ≡ option_map (λ (parts : Parts). parts.1) (split_at c ps)
  split_past [] = refl
  split_past (p ∷ ps) = by_bool (is_byte c p) _
      (λ t. rw t refl)
      (λ f. rw f (split_past ps ∙ by (split_at c ps)))
    where
      by : (o : Option Parts) → option_map (λ (parts : Parts). parts.1) o
          ≡ option_map (λ (parts : Parts). parts.1)
          (option_map (λ (parts : Parts). (p ∷ parts.0, parts.1)) o)
      by None = refl
      by (Some parts) = refl

  -- one that opens before them: with its partner it is one piece, and else none is left
  pub opened_past : (opening : List Piece → Option Parts → List Piece)
      (n : ℕ) (ps : List Piece) → past c n (opening ps None) ≡ past c n ps →
      ((parts : Parts) → past c n (opening ps (Some parts)) ≡ past c n parts.1) →
      past c n (opening ps (split_at c ps)) ≡ past c (n + 1) ps
  opened_past opening n ps none some = by (split_at c ps) refl
    where
      by : (o : Option Parts) → split_at c ps ≡ o → past c n (opening ps o) ≡ past c (n + 1) ps
      by None is =
          let left : past c 0 ps ≡ None = split_past ps ∙ ap (option_map (λ (parts : Parts). parts.1)) is in
          none ∙ past_none n ps left ∙ sym (past_none (n + 1) ps left)
      by (Some parts) is =
          let left : past c 0 ps ≡ Some parts.1 =
          split_past ps ∙ ap (option_map (λ (parts : Parts). parts.1)) is in
          some parts ∙ sym (past_more n ps ∙ ap (option_and_then (past c n)) left)

-- ---- the `}` of a form

form_past : (n : ℕ) (inside : List ℕ) →
    past 125 n (with_forms (36 ∷ 123 ∷ inside)) ≡ past 125 (n + 1) (with_forms (123 ∷ inside))
form_past n inside =
    ap (past 125 n) (opened_forms inside)
    ∙ opened_past 125 form_or_bytes n (with_forms inside) refl (λ parts. refl)
    ∙ sym (ap (past 125 (n + 1)) (plain_forms 123 inside refl))

begun : (b c : ℕ) (text : List ℕ) → begins_form b (c ∷ text) ≡ true → (b ≡ 36) × (c ≡ 123)
begun b c text e = let parts = and_parts (b == 36) (c == 123) e in
    (eqb-true b 36 parts.0, eqb-true c 123 parts.1)

plain_past : (b : ℕ) (text : List ℕ) (n : ℕ) → begins_form b text ≡ false →
    ((m : ℕ) → option_map with_forms (after_form m text) ≡ past 125 m (with_forms text)) →
    option_map with_forms (after_form n (b ∷ text)) ≡ past 125 n (with_forms (b ∷ text))
plain_past b text n none ih =
    by_bool (b == 125) _
    (λ t. by_bool (n == 0) _ (λ z. rw (none, t, z) refl) (λ z. rw (none, t, z) (ih (n - 1))))
    (λ f. rw (none, f) (ih n))
    ∙ sym (ap (past 125 n) (plain_forms b text none))

pub after_forms : (text : List ℕ) (n : ℕ) →
    option_map with_forms (after_form n text) ≡ past 125 n (with_forms text)
after_forms [] n = refl
after_forms (b ∷ []) n = by_bool (begins_form b []) _
    (λ t. absurd (false≢true (and_parts (b == 36) false t).1))
    (λ f. plain_past b [] n f (λ m. refl))
after_forms (b ∷ c ∷ text) n = by_bool (begins_form b (c ∷ text)) _
    (λ t. let is = begun b c text t in
    rw t (after_forms (c ∷ text) (n + 1)
    ∙ subst (λ x. past 125 (n + 1) (with_forms (c ∷ text)) ≡ past 125 n (with_forms (x ∷ c ∷ text)))
    (sym is.0)
    (subst (λ y. past 125 (n + 1) (with_forms (y ∷ text)) ≡ past 125 n (with_forms (36 ∷ y ∷ text)))
    (sym is.1) (sym (form_past n text)))))
    (λ f. plain_past b (c ∷ text) n f (after_forms (c ∷ text)))

-- ---- what is before a closing byte

pub front_is : (whole front : List ℕ) (c : ℕ) (rest : List ℕ) → whole ≡ front ++ c ∷ rest →
    take (length whole - length rest - 1) whole ≡ front
front_is whole front c rest is =
    let long : length whole ≡ length (front ++ c ∷ rest) = ap length is in
    let sum : length (front ++ c ∷ rest) ≡ length front + length (c ∷ rest) =
    length-append front (c ∷ rest) in
    let same : length whole - length rest - 1 ≡ length front = omega (arith, long, sum) in
    rw (same, is) (take_front front (c ∷ rest))
  where
    take_front : (a b : List ℕ) → take (length a) (a ++ b) ≡ a
    take_front [] b = refl
    take_front (x ∷ a) b = ap (λ l. x ∷ l) (take_front a b)

-- the pieces up to a closing byte, and what is left
pub record IsSplit (c : ℕ) (ps : List Piece) (front : List ℕ) (rest : List Piece) : Type 0 where
  pub before : List Piece
  pub split : split_at c ps ≡ Some (before, rest)
  pub written : text_of before ≡ front
  pub parted : text_of ps ≡ front ++ c ∷ text_of rest

pub split_found : (c : ℕ) (ps rest : List Piece) → past c 0 ps ≡ Some rest →
    IsSplit c ps (take (length (text_of ps) - length (text_of rest) - 1) (text_of ps)) rest
split_found c ps rest e = by (split_at c ps) refl (sym (split_past c ps) ∙ e)
  where
    by : (o : Option Parts) → split_at c ps ≡ o →
        option_map (λ (parts : Parts). parts.1) o ≡ Some rest →
        IsSplit c ps (take (length (text_of ps) - length (text_of rest) - 1) (text_of ps)) rest
    by None is e = absurd (none-some _ e)
    by (Some parts) is e =
        let left : parts.1 ≡ rest = same_Some _ _ e in
        let whole : text_of ps ≡ text_of parts.0 ++ c ∷ text_of rest =
        split_text c ps parts is ∙ ap (λ l. text_of parts.0 ++ c ∷ text_of l) left in
        let front = front_is (text_of ps) (text_of parts.0) c (text_of rest) whole in record {
          before = parts.0;
          split = is ∙ ap (λ l. Some (parts.0, l)) left;
          written = sym front;
          parted = whole ∙ ap (λ l. l ++ c ∷ text_of rest) (sym front);
        }

pub split_none : (c : ℕ) (ps : List Piece) → past c 0 ps ≡ None → split_at c ps ≡ None
split_none c ps e = by (split_at c ps) (sym (split_past c ps) ∙ e)
  where
    by : (o : Option Parts) → option_map (λ (parts : Parts). parts.1) o ≡ None → o ≡ None
    by None e = refl
    by (Some parts) e = absurd (none-some _ (sym e))

-- ---- pieces with loose ends

loose_form : (inside : List ℕ) (ps : List Piece) →
    with_loose_end (Form inside ∷ ps) ≡ Form inside ∷ with_loose_end ps
loose_form inside [] = refl
loose_form inside (p ∷ ps) = refl

loose_plain : (b : ℕ) (ps : List Piece) (text : List ℕ) → text_of ps ≡ text →
    begins_form b text ≡ false → with_loose_end (Byte b ∷ ps) ≡ Byte b ∷ with_loose_end ps
loose_plain b [] text is none = refl
loose_plain b (p ∷ ps) text is none = by_bool (b == 36) _
    (λ t. let first = first_byte 123 p ps text is (rw t at none) in rw (t, first) refl)
    (λ f. rw f refl)

pub plain_pieces : (b : ℕ) (text : List ℕ) → begins_form b text ≡ false →
    pieces_of (b ∷ text) ≡ Byte b ∷ pieces_of text
unfolding pieces_of
plain_pieces b text none = ap with_loose_end (plain_forms b text none)
    ∙ loose_plain b (with_forms text) text (forms_text text) none

bytes_text : (text : List ℕ) → text_of (bytes_of text) ≡ text
bytes_text [] = refl
bytes_text (b ∷ text) = ap (λ l. b ∷ l) (bytes_text text)

loose_text : (ps : List Piece) → text_of (with_loose_end ps) ≡ text_of ps
loose_text [] = refl
loose_text (p ∷ ps) = by_bool (is_open p ps) _
    (λ t. rw t (bytes_text (text_of (p ∷ ps))))
    (λ f. rw f (ap (λ l. piece_text p ++ l) (loose_text ps)))

pub pieces_text : (alone : Bool) (text : List ℕ) → text_of (pieces_left alone text) ≡ text
unfolding pieces_of
pieces_text true text = bytes_text text
pieces_text false text = loose_text (with_forms text) ∙ forms_text text

pub form_pieces : (text after : List ℕ) → Some after ≡ after_form 0 text →
    pieces_of (36 ∷ 123 ∷ text)
    ≡ Form (take (length text - length after - 1) text) ∷ pieces_of after
unfolding pieces_of
form_pieces text after e =
    let found : past 125 0 (with_forms text) ≡ Some (with_forms after) =
    sym (after_forms text 0) ∙ ap (option_map with_forms) (sym e) in
    let split = split_found 125 (with_forms text) (with_forms after) found in
    let front : text_of split.before ≡ take (length text - length after - 1) text =
    split.written ∙ same (forms_text text) (forms_text after) in
    ap with_loose_end (opened_forms text ∙ ap (form_or_bytes (with_forms text)) split.split)
    ∙ loose_form (text_of split.before) (with_forms after)
    ∙ ap (λ l. Form l ∷ with_loose_end (with_forms after)) front
  where
    same : {a b : List ℕ} → a ≡ text → b ≡ after →
        take (length a - length b - 1) a ≡ take (length text - length after - 1) text
    same p q = rw (p, q) refl

pub loose_pieces : (text : List ℕ) → None ≡ after_form 0 text →
    pieces_of (36 ∷ 123 ∷ text) ≡ bytes_of (36 ∷ 123 ∷ text)
unfolding pieces_of
loose_pieces text e =
    let none : split_at 125 (with_forms text) ≡ None =
    split_none 125 (with_forms text) (sym (after_forms text 0) ∙ ap (option_map with_forms) (sym e)) in
    ap with_loose_end (opened_forms text ∙ ap (form_or_bytes (with_forms text)) none)
    ∙ ap (λ l. bytes_of (36 ∷ 123 ∷ l)) (forms_text text)

-- ---- one step of a walk

inside_parts : (text inside : List ℕ) → Some inside ≡ inside_form text → text ≡ 36 ∷ 123 ∷ inside
inside_parts [] inside e = absurd (none-some _ (sym e))
inside_parts (b ∷ []) inside e = absurd (none-some _ (sym e))
inside_parts (b ∷ c ∷ text) inside e = by_bool ((b == 36) && (c == 123)) _
    (λ t. let parts = and_parts (b == 36) (c == 123) t in
    let is : inside ≡ text = same_Some _ _ (rw t at e) in
    rw (eqb-true b 36 parts.0, eqb-true c 123 parts.1, is) refl)
    (λ f. absurd (none-some _ (sym (rw f at e))))

not_inside : (b : ℕ) (text : List ℕ) → None ≡ inside_form (b ∷ text) → begins_form b text ≡ false
not_inside b [] e = by_bool (b == 36) _ (λ t. rw t refl) (λ f. rw f refl)
not_inside b (c ∷ text) e = by_bool ((b == 36) && (c == 123)) _
    (λ t. absurd (none-some _ (rw t at e)))
    (λ f. f)

module _ (text : List ℕ) (first : ℕ) (others : List ℕ) (is : text ≡ first ∷ others) where
  pub step_alone : pieces_left true text ≡ Byte first ∷ pieces_left true others
  step_alone = ap bytes_of is

  pub step_plain : None ≡ inside_form text → pieces_left false text ≡ Byte first ∷ pieces_left false others
  step_plain e = ap pieces_of is
      ∙ plain_pieces first others (not_inside first others (e ∙ ap inside_form is))

  pub step_loose : (inside : List ℕ) → Some inside ≡ inside_form text → None ≡ after_form 0 inside →
      pieces_left false text ≡ Byte first ∷ pieces_left true others
  step_loose inside e none =
      let opened : text ≡ 36 ∷ 123 ∷ inside = inside_parts text inside e in
      ap pieces_of opened ∙ loose_pieces inside none ∙ ap bytes_of (sym opened ∙ is)

pub step_form : (text inside after : List ℕ) → Some inside ≡ inside_form text →
    Some after ≡ after_form 0 inside → pieces_left false text
    ≡ Form (take (length inside - length after - 1) inside) ∷ pieces_left false after
step_form text inside after e found =
    ap pieces_of (inside_parts text inside e) ∙ form_pieces inside after found

pub step_none : (alone : Bool) (text : List ℕ) → text ≡ [] → pieces_left alone text ≡ []
unfolding pieces_of
step_none true text is = ap bytes_of is
step_none false text is = ap pieces_of is
