-- What is cut out of UTF-8 is UTF-8: all that parts a text is ASCII.
use Rattle.std.proofs.Common.{◌≡◌, ℕ, zero, suc, ◌≤◌, ◌<◌, Bool, true, false, ◌&&◌, ◌==◌, nat_lt, List, [], ◌∷◌, ◌++◌, length}
use Rattle.std.proofs.Common.{Option, Some, None, map, option_map, refl, ap, sym, subst, ◌∙◌, append_assoc}
use Rattle.std.proofs.Common.{append-nil, IsUtf8, arith}
use Rattle.std.specs.List.{list_all}
use Rattle.std.proofs.lemmas.Option.{none-some, same_Some, some_pair_parts}
use Rattle.std.proofs.lemmas.Bool.{and_parts, and_from, ltb-true, eqb-true, false≢true}
use Rattle.std.proofs.lemmas.Bool.Decides.{nat_tests}
use Rattle.wc_text.proofs.Utf8Lemmas.{utf8_parts}
use Rattle.wc_eval.specs.Pieces.{Piece, Byte, Form, Group, piece_text, text_of, is_byte, split_at, bytes_of, pieces_of}
use Rattle.wc_eval.specs.Pieces.{blocks_of}
use Rattle.wc_eval.specs.Walks.{texts_of}
use Rattle.wc_eval.specs.declared.comparison.Comparison.{Comparison}
use Rattle.wc_eval.specs.Comparisons.{after_word, signs, sign_or, sign_among, sign_at}
use Rattle.wc_eval.specs.declared.kind.Kind.{Kind}
use Rattle.wc_eval.specs.Kinds.{words, kind_or, kind_among}
use Rattle.wc_eval.specs.Kinds.{or_name, kind_of}
use Rattle.wc_eval.specs.Texts.{is_blank, past_margin, without_tail, without_blanks}
use Rattle.wc_eval.specs.Parts.{parts_at, parts_of, group_by, whole_group, Comparing, comparing_or, comparing_from, comparing_in}
use Rattle.wc_eval.specs.Reading.{past_first, past_pair, or_later, past_two}
use Rattle.wc_eval.specs.Turns.{EachUtf8}
use Rattle.wc_eval.proofs.RunLemmas.{by_bool}
use Rattle.wc_eval.proofs.PieceLemmas.{split_text, pieces_text}
use Rattle.wc_eval.proofs.PartLemmas.{blocks_written, parted, one_part}

abbrev is_ascii : List ℕ → Bool
is_ascii text = list_all (λ b. nat_lt b 128) text

-- what comes after ASCII
past_ascii : (front rest : List ℕ) → is_ascii front ≡ true → IsUtf8 (front ++ rest) → IsUtf8 rest
past_ascii [] rest ascii utf8 = utf8
past_ascii (b ∷ front) rest ascii utf8 =
    let parts : (nat_lt b 128 ≡ true) × (is_ascii front ≡ true) =
    and_parts (nat_lt b 128) (is_ascii front) ascii in
    past_ascii front rest parts.1 (utf8_parts [] b (front ++ rest) (ltb-true b 128 parts.0) utf8).1

-- ---- parts at a byte

split_utf8 : (c : ℕ) (ps : List Piece) (parts : List Piece × List Piece) → c < 128 →
    split_at c ps ≡ Some parts → IsUtf8 (text_of ps) →
    IsUtf8 (text_of parts.0) × IsUtf8 (text_of parts.1)
split_utf8 c ps parts small e utf8 = utf8_parts (text_of parts.0) c (text_of parts.1) small
    (subst IsUtf8 (split_text c ps parts e) utf8)

pub texts_utf8 : (c : ℕ) (ps : List Piece) (a b : List ℕ) → c < 128 →
    ◌≡◌ {A = Option (List ℕ × List ℕ)} (Some (a, b)) (option_map texts_of (split_at c ps)) →
    IsUtf8 (text_of ps) → IsUtf8 a × IsUtf8 b
texts_utf8 c ps a b small e utf8 = by (split_at c ps) refl e
  where
    by : (o : Option (List Piece × List Piece)) → split_at c ps ≡ o →
        ◌≡◌ {A = Option (List ℕ × List ℕ)} (Some (a, b)) (option_map texts_of o) →
        IsUtf8 a × IsUtf8 b
    by None is e = absurd (none-some _ (sym e))
    by (Some parts) is e =
        let same = some_pair_parts a (text_of parts.0) b (text_of parts.1) e in
        let both = split_utf8 c ps parts small is utf8 in
        (subst IsUtf8 (sym same.0) both.0, subst IsUtf8 (sym same.1) both.1)

module _ (c : ℕ) (text a b : List ℕ) (small : c < 128) (utf8 : IsUtf8 text) where
  -- at a byte outside forms
  pub byte_utf8 : ◌≡◌ {A = Option (List ℕ × List ℕ)} (Some (a, b))
      (option_map texts_of (split_at c (pieces_of text))) → IsUtf8 a × IsUtf8 b
  byte_utf8 e = texts_utf8 c (pieces_of text) a b small e
      (subst IsUtf8 (sym (pieces_text false text)) utf8)

  -- at a byte outside forms and groups
  pub block_utf8 : ◌≡◌ {A = Option (List ℕ × List ℕ)} (Some (a, b))
      (option_map texts_of (split_at c (blocks_of text))) → IsUtf8 a × IsUtf8 b
  block_utf8 e = texts_utf8 c (blocks_of text) a b small e
      (subst IsUtf8 (sym (blocks_written text)) utf8)

-- ---- forms and groups

both_text : (a b : List Piece) → text_of (a ++ b) ≡ text_of a ++ text_of b
both_text [] b = refl
both_text (p ∷ a) b = ap (λ l. piece_text p ++ l) (both_text a b)
    ∙ sym (append_assoc (piece_text p) (text_of a) (text_of b))

bytes_text : (text : List ℕ) → text_of (bytes_of text) ≡ text
bytes_text [] = refl
bytes_text (b ∷ text) = ap (λ l. b ∷ l) (bytes_text text)

pub record AreUtf8 (front form rest : List ℕ) : Type 0 where
  pub front_is : IsUtf8 front
  pub form_is : IsUtf8 form
  pub rest_is : IsUtf8 rest

-- a form, with what is before it and after it
pub form_utf8 : (text front form rest : List ℕ) →
    pieces_of text ≡ bytes_of front ++ Form form ∷ pieces_of rest → IsUtf8 text →
    AreUtf8 front form rest
form_utf8 text front form rest e utf8 =
    let whole : text ≡ front ++ 36 ∷ 123 ∷ (form ++ 125 ∷ rest) =
    sym (pieces_text false text) ∙ ap text_of e
    ∙ both_text (bytes_of front) (Form form ∷ pieces_of rest)
    ∙ ap (λ l. l ++ text_of (Form form ∷ pieces_of rest)) (bytes_text front)
    ∙ ap (λ l. front ++ 36 ∷ 123 ∷ l) (append_assoc form (125 ∷ []) (text_of (pieces_of rest))
    ∙ ap (λ l. form ++ 125 ∷ l) (pieces_text false rest)) in
    let one = utf8_parts front 36 (123 ∷ (form ++ 125 ∷ rest)) (omega arith) (subst IsUtf8 whole utf8) in
    let two = utf8_parts [] 123 (form ++ 125 ∷ rest) (omega arith) one.1 in
    let three = utf8_parts form 125 rest (omega arith) two.1 in record {
      front_is = one.0;
      form_is = three.0;
      rest_is = three.1;
    }

-- the condition in a group that is all of a text
pub group_utf8 : (text inside : List ℕ) → whole_group text ≡ Some inside → IsUtf8 text → IsUtf8 inside
unfolding whole_group
group_utf8 text inside e utf8 = by (blocks_of text) e (blocks_written text)
  where
    by : (ps : List Piece) → group_by ps ≡ Some inside → text_of ps ≡ text → IsUtf8 inside
    by [] e is = absurd (none-some _ e)
    by (Byte b ∷ ps) e is = absurd (none-some _ e)
    by (Form form ∷ ps) e is = absurd (none-some _ e)
    by (Group group ∷ []) e is =
        let whole : text ≡ 40 ∷ (group ++ 41 ∷ []) = sym is ∙ append-nil (40 ∷ (group ++ 41 ∷ [])) in
        let one = utf8_parts [] 40 (group ++ 41 ∷ []) (omega arith) (subst IsUtf8 whole utf8) in
        subst IsUtf8 (same_Some _ _ e) (utf8_parts group 41 [] (omega arith) one.1).0
    by (Group group ∷ p ∷ ps) e is = absurd (none-some _ e)

-- ---- words

after_word_is : (word text rest : List ℕ) → after_word word text ≡ Some rest → text ≡ word ++ rest
after_word_is [] text rest e = same_Some _ _ e
after_word_is (c ∷ word) [] rest e = absurd (none-some _ e)
after_word_is (c ∷ word) (b ∷ text) rest e = by_bool (b == c) _
    (λ t. rw (eqb-true b c t) (ap (λ l. c ∷ l) (after_word_is word text rest (rw t at e))))
    (λ f. absurd (none-some _ (rw f at e)))

are_ascii : List (List ℕ × Kind) → Bool
are_ascii [] = true
are_ascii (w ∷ ws) = is_ascii w.0 && are_ascii ws

among_utf8 : (ws : List (List ℕ × Kind)) (text : List ℕ) (found : Kind × List ℕ) →
    are_ascii ws ≡ true → kind_among ws text ≡ Some found → IsUtf8 text → IsUtf8 found.1
unfolding are_ascii
among_utf8 [] text found ascii e utf8 = absurd (none-some _ e)
among_utf8 (w ∷ ws) text found ascii e utf8 =
    let parts : (is_ascii w.0 ≡ true) × (are_ascii ws ≡ true) = and_parts (is_ascii w.0) (are_ascii ws) ascii in
    by parts.0 (after_word w.0 text) refl e (λ e. among_utf8 ws text found parts.1 e utf8)
  where
    by : is_ascii w.0 ≡ true → (o : Option (List ℕ)) → after_word w.0 text ≡ o →
        kind_or w.1 o (kind_among ws text) ≡ Some found →
        (kind_among ws text ≡ Some found → IsUtf8 found.1) → IsUtf8 found.1
    by small None is e later = later e
    by small (Some rest) is e later =
        let same : (w.1, rest) ≡ found = same_Some _ _ e in
        subst (λ (f : Kind × List ℕ). IsUtf8 f.1) same
        (past_ascii w.0 rest small (subst IsUtf8 (after_word_is w.0 text rest is) utf8))

pub kind_utf8 : (text : List ℕ) → IsUtf8 text → IsUtf8 (kind_of text).1
unfolding kind_of are_ascii
kind_utf8 text utf8 = by (kind_among words text) refl
  where
    by : (o : Option (Kind × List ℕ)) → kind_among words text ≡ o → IsUtf8 (or_name text o).1
    by None e = utf8
    by (Some found) e = among_utf8 words text found refl e utf8

-- ---- blanks

blank_small : (b : ℕ) → is_blank b ≡ true → b < 128
blank_small b t = grind (arith, nat_tests)

margin_utf8 : (text : List ℕ) → IsUtf8 text → IsUtf8 (past_margin text)
margin_utf8 [] utf8 = utf8
margin_utf8 (b ∷ text) utf8 = by_bool (is_blank b) _
    (λ t. rw t (margin_utf8 text (utf8_parts [] b text (blank_small b t) utf8).1))
    (λ f. rw f utf8)

-- a text, parted into one without blanks at its end and blanks
record IsTrimmed (text : List ℕ) : Type 0 where
  pub tail : List ℕ
  pub blank : list_all is_blank tail ≡ true
  pub parted : text ≡ without_tail text ++ tail

trimmed : (text : List ℕ) → IsTrimmed text
trimmed [] = record { tail = []; blank = refl; parted = refl }
trimmed (b ∷ text) = by (trimmed text) (without_tail text) refl
  where
    by : IsTrimmed text → (front : List ℕ) → without_tail text ≡ front → IsTrimmed (b ∷ text)
    by ih [] e =
        let all : text ≡ ih.tail = ih.parted ∙ ap (λ l. l ++ ih.tail) e in by_bool (is_blank b) _
        (λ t. record {
          tail = b ∷ ih.tail;
          blank = and_from (is_blank b) (list_all is_blank ih.tail) t ih.blank;
          parted = rw (e, t) (ap (λ l. b ∷ l) all);
        })
        (λ f. record {
          tail = ih.tail;
          blank = ih.blank;
          parted = rw (e, f) (ap (λ l. b ∷ l) all);
        })
    by ih (c ∷ front) e = record {
      tail = ih.tail;
      blank = ih.blank;
      parted = rw e (ap (λ l. b ∷ l) (ih.parted ∙ ap (λ l. l ++ ih.tail) e));
    }

tail_utf8 : (front tail : List ℕ) → list_all is_blank tail ≡ true → IsUtf8 (front ++ tail) → IsUtf8 front
tail_utf8 front [] blank utf8 = subst IsUtf8 (append-nil front) utf8
tail_utf8 front (b ∷ tail) blank utf8 =
    let parts : (is_blank b ≡ true) × (list_all is_blank tail ≡ true) =
    and_parts (is_blank b) (list_all is_blank tail) blank in
    (utf8_parts front b tail (blank_small b parts.0) utf8).0

pub blanks_utf8 : (text : List ℕ) → IsUtf8 text → IsUtf8 (without_blanks text)
unfolding without_blanks
blanks_utf8 text utf8 =
    let is = trimmed (past_margin text) in
    tail_utf8 (without_tail (past_margin text)) is.tail is.blank
    (subst IsUtf8 is.parted (margin_utf8 text utf8))

-- ---- comparisons

are_signs : List (List ℕ × Comparison) → Bool
are_signs [] = true
are_signs (s ∷ ss) = nat_lt 0 (length s.0) && (is_ascii s.0 && are_signs ss)

record IsSigned (rest right : List ℕ) : Type 0 where
  pub first : ℕ
  pub others : List ℕ
  pub small : first < 128
  pub ascii : is_ascii others ≡ true
  pub parted : rest ≡ first ∷ (others ++ right)

signed : (word rest right : List ℕ) → nat_lt 0 (length word) ≡ true → is_ascii word ≡ true →
    rest ≡ word ++ right → IsSigned rest right
signed [] rest right long ascii is = absurd (false≢true long)
signed (c ∷ word) rest right long ascii is =
    let parts : (nat_lt c 128 ≡ true) × (is_ascii word ≡ true) = and_parts (nat_lt c 128) (is_ascii word) ascii in
    record {
      first = c;
      others = word;
      small = ltb-true c 128 parts.0;
      ascii = parts.1;
      parted = is;
    }

sign_is_ascii : (ss : List (List ℕ × Comparison)) (rest : List ℕ) (found : Comparison × List ℕ) →
    are_signs ss ≡ true → sign_among ss rest ≡ Some found → IsSigned rest found.1
unfolding are_signs
sign_is_ascii [] rest found all e = absurd (none-some _ e)
sign_is_ascii (s ∷ ss) rest found all e =
    let one : (nat_lt 0 (length s.0) ≡ true) × ((is_ascii s.0 && are_signs ss) ≡ true) =
    and_parts (nat_lt 0 (length s.0)) (is_ascii s.0 && are_signs ss) all in
    let two : (is_ascii s.0 ≡ true) × (are_signs ss ≡ true) = and_parts (is_ascii s.0) (are_signs ss) one.1 in
    by one.0 two.0 (after_word s.0 rest) refl e (λ e. sign_is_ascii ss rest found two.1 e)
  where
    by : nat_lt 0 (length s.0) ≡ true → is_ascii s.0 ≡ true → (o : Option (List ℕ)) →
        after_word s.0 rest ≡ o → sign_or s.1 o (sign_among ss rest) ≡ Some found →
        (sign_among ss rest ≡ Some found → IsSigned rest found.1) → IsSigned rest found.1
    by long ascii None is e later = later e
    by long ascii (Some right) is e later =
        let same : (s.1, right) ≡ found = same_Some _ _ e in
        subst (λ (f : Comparison × List ℕ). IsSigned rest f.1) same
        (signed s.0 rest right long ascii (after_word_is s.0 rest right is))

sign_utf8 : (front rest : List ℕ) (found : Comparison × List ℕ) → sign_at rest ≡ Some found →
    IsUtf8 (front ++ rest) → IsUtf8 front × IsUtf8 found.1
unfolding sign_at are_signs
sign_utf8 front rest found e utf8 =
    let is = sign_is_ascii signs rest found refl e in
    let both = utf8_parts front is.first (is.others ++ found.1) is.small
    (subst (λ l. IsUtf8 (front ++ l)) is.parted utf8) in
    (both.0, past_ascii is.others found.1 is.ascii both.1)

comparing_utf8_from : (ps : List Piece) (left : List ℕ) (found : Comparing) →
    comparing_from left ps ≡ Some found → IsUtf8 (left ++ text_of ps) →
    IsUtf8 found.left × IsUtf8 found.right
comparing_utf8_from [] left found e utf8 = absurd (none-some _ e)
comparing_utf8_from (p ∷ ps) left found e utf8 =
    by (sign_at (text_of (p ∷ ps))) refl e (λ e. comparing_utf8_from ps (left ++ piece_text p) found e
    (subst IsUtf8 (sym (append_assoc left (piece_text p) (text_of ps))) utf8))
  where
    by : (o : Option (Comparison × List ℕ)) → sign_at (text_of (p ∷ ps)) ≡ o →
        comparing_or left o (comparing_from (left ++ piece_text p) ps) ≡ Some found →
        (comparing_from (left ++ piece_text p) ps ≡ Some found → IsUtf8 found.left × IsUtf8 found.right) →
        IsUtf8 found.left × IsUtf8 found.right
    by None is e later = later e
    by (Some sign) is e later =
        let here : Comparing = record { left = left; comparison = sign.0; right = sign.1 } in
        let same : here ≡ found = same_Some _ _ e in
        subst (λ (f : Comparing). IsUtf8 f.left × IsUtf8 f.right) same
        (sign_utf8 left (text_of (p ∷ ps)) sign is utf8)

-- both sides of a comparison
pub comparing_utf8 : (text : List ℕ) (found : Comparing) → comparing_in text ≡ Some found →
    IsUtf8 text → IsUtf8 found.left × IsUtf8 found.right
unfolding comparing_in
comparing_utf8 text found e utf8 = comparing_utf8_from (blocks_of text) [] found e
    (subst IsUtf8 (sym (blocks_written text)) utf8)

-- ---- the parts of a condition

fewer_first : (c : ℕ) (ps rest : List Piece) → past_first c ps ≡ Some rest → length rest < length ps
fewer_first c [] rest e = absurd (none-some _ e)
fewer_first c (p ∷ ps) rest e = by_bool (is_byte c p) _
    (λ t. let is : ps ≡ rest = same_Some _ _ (rw t at e) in
    let same = ap length is in omega (arith, same))
    (λ f. absurd (none-some _ (rw f at e)))

fewer : (c : ℕ) (ps rest : List Piece) → past_two c ps ≡ Some rest → length rest < length ps
fewer c [] rest e = absurd (none-some _ e)
fewer c (p ∷ ps) rest e = by (past_pair c p ps) refl e (λ e. fewer c ps rest e)
  where
    pair : past_pair c p ps ≡ Some rest → length rest < suc (length ps)
    pair e = by_bool (is_byte c p) _
        (λ t. let less = fewer_first c ps rest (rw t at e) in omega (arith, less))
        (λ f. absurd (none-some _ (rw f at e)))

    by : (o : Option (List Piece)) → past_pair c p ps ≡ o → or_later o (past_two c ps) ≡ Some rest →
        (past_two c ps ≡ Some rest → length rest < length ps) → length rest < suc (length ps)
    by None is e ih = let less = ih e in omega (arith, less)
    by (Some found) is e ih = pair (is ∙ e)

parts_utf8_from : (n c : ℕ) (ps : List Piece) → c < 128 → length ps ≤ n → IsUtf8 (text_of ps) →
    EachUtf8 (map text_of (parts_at c false ps))
parts_utf8_from zero c [] small few utf8 = (utf8, tt)
parts_utf8_from zero c (p ∷ ps) small few utf8 = absurd (omega (arith, few))
parts_utf8_from (suc n) c ps small few utf8 = by (past_two c ps) refl (parts_utf8_from n c)
  where
    by : (o : Option (List Piece)) → past_two c ps ≡ o → ((qs : List Piece) → c < 128 →
        length qs ≤ n → IsUtf8 (text_of qs) → EachUtf8 (map text_of (parts_at c false qs))) →
        EachUtf8 (map text_of (parts_at c false ps))
    by None e ih = rw (one_part c ps (sym e)) (utf8, tt)
    by (Some rest) e ih =
        let less = fewer c ps rest e in
        let is = parted c ps rest (sym e) in
        let one = utf8_parts (text_of is.front) c (c ∷ text_of rest) small (subst IsUtf8 is.written utf8) in
        let two = utf8_parts [] c (text_of rest) small one.1 in
        rw is.parts (one.0, ih rest small (omega (arith, less, few)) two.1)

-- each part is UTF-8
pub parts_utf8 : (c : ℕ) (text : List ℕ) → c < 128 → IsUtf8 text → EachUtf8 (parts_of c text)
unfolding parts_of
parts_utf8 c text small utf8 = parts_utf8_from (length (blocks_of text)) c (blocks_of text) small
    (omega arith) (subst IsUtf8 (sym (blocks_written text)) utf8)
