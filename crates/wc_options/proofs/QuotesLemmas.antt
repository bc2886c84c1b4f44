-- Values in quotes: how they are written and read in pieces, that what is written is read again, and that texts stay texts.
use Rattle.std.proofs.Common.{ℕ, zero, suc, ◌≡◌, ◌≢◌, ◌+◌, ◌<◌, ◌≤◌, Bool, true, false, cond, ◌||◌, List, [], ◌∷◌, ◌++◌, length, take, drop, get_or, Option, Some, None, refl, ap, sym, ◌∙◌, subst, arith, ltb}
use Rattle.std.specs.Prelude.{◌==◌, bytes_eq, option_map, position}
use Rattle.std.specs.Prelude.{Result, Ok, Err, IfOk, IfSome}
use Rattle.std.specs.List.{list_all, position_or_len}
use Rattle.std.specs.Str.{IsUtf8}
use Rattle.std.proofs.Math.Utf8.{scalar, scalars, encode, encodes}
use Rattle.std.proofs.lemmas.Bool.Decides.{nat_tests}
use Rattle.std.proofs.lemmas.List.{append_assoc, append-nil, drop_more, drop_all, take_all, take_at, drop_at, length-append}
use Rattle.std.proofs.lemmas.List.Quantifiers.{position-Some}
use Rattle.std.proofs.lemmas.List.Sums.{fails_before_first}
use Rattle.std.proofs.lemmas.Slice.Eq.{bytes_eq-Decides}
use Rattle.std.proofs.lemmas.Str.{IsUtf8-append, IsUtf8-nil, IsUtf8-encode, IsUtf8-past_char, encode_ascii, inside_one, length-encode, len_utf8_bounds}
use Rattle.wc_options.specs.Quotes.{is_marked, escaped, quoted, unescaped, unquoted}
use Rattle.wc_options.proofs.ByteLemmas.{no_lf, and-first, and-second, text-from_ascii, list_all-append}

-- ---- tests of a byte

or-first : (a b : Bool) → (a || b) ≡ false → a ≡ false
or-first true b h = cc
or-first false b h = refl

or-second : (a b : Bool) → (a || b) ≡ false → b ≡ false
or-second true b h = cc
or-second false b h = h

no_quote : (byte : ℕ) → is_marked byte ≡ false → (byte == 34) ≡ false
no_quote byte e = or-first (byte == 34) (byte == 92) e

no_backslash : (byte : ℕ) → is_marked byte ≡ false → (byte == 92) ≡ false
no_backslash byte e = or-second (byte == 34) (byte == 92) e

marked-low : (byte : ℕ) → is_marked byte ≡ true → byte < 128
marked-low byte e = grind (arith, nat_tests)

-- ---- a byte at a time

pub escaped-marked : (byte : ℕ) (bytes : List ℕ) → is_marked byte ≡ true → escaped (byte ∷ bytes) ≡ 92 ∷ byte ∷ escaped bytes
escaped-marked byte bytes e = rw e refl

pub escaped-plain : (byte : ℕ) (bytes : List ℕ) → is_marked byte ≡ false → escaped (byte ∷ bytes) ≡ byte ∷ escaped bytes
escaped-plain byte bytes e = rw e refl

pub unescaped-nil : unescaped [] ≡ None
unfolding unescaped
unescaped-nil = refl

pub unescaped-closing : unescaped (34 ∷ []) ≡ Some []
unfolding unescaped
unescaped-closing = refl

pub unescaped-marked : (byte : ℕ) (bytes : List ℕ) → is_marked byte ≡ true → unescaped (92 ∷ byte ∷ bytes) ≡ option_map (λ value. byte ∷ value) (unescaped bytes)
unfolding unescaped
unescaped-marked byte bytes e = rw e refl

pub unescaped-plain : (byte : ℕ) (bytes : List ℕ) → is_marked byte ≡ false → unescaped (byte ∷ bytes) ≡ option_map (λ value. byte ∷ value) (unescaped bytes)
unfolding unescaped
unescaped-plain byte [] e = rw (no_quote byte e) refl
unescaped-plain byte (other ∷ bytes) e = rw (no_quote byte e, no_backslash byte e) refl

unescaped-stray : (byte : ℕ) (bytes : List ℕ) → is_marked byte ≡ false → unescaped (92 ∷ byte ∷ bytes) ≡ None
unfolding unescaped
unescaped-stray byte bytes e = rw e refl

unescaped-lone : unescaped (92 ∷ []) ≡ None
unfolding unescaped
unescaped-lone = refl

unescaped-early : (byte : ℕ) (bytes : List ℕ) → unescaped (34 ∷ byte ∷ bytes) ≡ None
unfolding unescaped
unescaped-early byte bytes = refl

unescaped-one : (byte : ℕ) → unescaped (byte ∷ []) ≡ cond (byte == 34) (Some []) None
unfolding unescaped
unescaped-one byte = refl

-- ---- a run of plain bytes at a time

abbrev pub NoneMarked : ℕ → List ℕ → Type 0
NoneMarked n text = (k : ℕ) → k < n → is_marked (get_or text k 0) ≡ false

pub escaped-run : (n : ℕ) (text : List ℕ) → n ≤ length text → NoneMarked n text → escaped text ≡ take n text ++ escaped (drop n text)
escaped-run zero text h none = refl
escaped-run (suc n) [] h none = absurd (omega arith)
escaped-run (suc n) (byte ∷ text) h none =
    escaped-plain byte text (none zero (omega arith)) ∙ ap (λ rest. byte ∷ rest) (escaped-run n text (omega arith) (λ k below. none (suc k) (omega arith)))

-- a front put before a value
abbrev pub before : List ℕ → Option (List ℕ) → Option (List ℕ)
before front o = option_map (λ value. front ++ value) o

pub before-nil : (o : Option (List ℕ)) → before [] o ≡ o
before-nil None = refl
before-nil (Some value) = refl

pub before-cons : (byte : ℕ) (front : List ℕ) (o : Option (List ℕ)) → option_map (λ value. byte ∷ value) (before front o) ≡ before (byte ∷ front) o
before-cons byte front None = refl
before-cons byte front (Some value) = refl

pub before-append : (first second : List ℕ) (o : Option (List ℕ)) → before first (before second o) ≡ before (first ++ second) o
before-append first second None = refl
before-append first second (Some value) = ap Some (sym (append_assoc first second value))

front-of : (front : List ℕ) (o : Option (List ℕ)) (value : List ℕ) → before front o ≡ Some value → (rest : List ℕ) × (o ≡ Some rest) × (value ≡ front ++ rest)
front-of front None value e = cc
front-of front (Some rest) value e = (rest, refl, cc)

pub unescaped-run : (n : ℕ) (text : List ℕ) → n ≤ length text → NoneMarked n text → unescaped text ≡ before (take n text) (unescaped (drop n text))
unescaped-run zero text h none = sym (before-nil (unescaped text))
unescaped-run (suc n) [] h none = absurd (omega arith)
unescaped-run (suc n) (byte ∷ text) h none =
    unescaped-plain byte text (none zero (omega arith))
    ∙ ap (option_map (λ value. byte ∷ value)) (unescaped-run n text (omega arith) (λ k below. none (suc k) (omega arith)))
    ∙ before-cons byte (take n text) (unescaped (drop n text))

-- ---- what is written is read again

pub unescaped-escaped : (value : List ℕ) → unescaped (escaped value ++ 34 ∷ []) ≡ Some value
unescaped-escaped [] = unescaped-closing
unescaped-escaped (byte ∷ value) = by (is_marked byte) refl (unescaped-escaped value)
  where
    by : (b : Bool) → is_marked byte ≡ b → unescaped (escaped value ++ 34 ∷ []) ≡ Some value → unescaped (escaped (byte ∷ value) ++ 34 ∷ []) ≡ Some (byte ∷ value)
    by true e more =
        ap (λ text. unescaped (text ++ 34 ∷ [])) (escaped-marked byte value e) ∙ unescaped-marked byte (escaped value ++ 34 ∷ []) e ∙ ap (option_map (λ rest. byte ∷ rest)) more
    by false e more =
        ap (λ text. unescaped (text ++ 34 ∷ [])) (escaped-plain byte value e) ∙ unescaped-plain byte (escaped value ++ 34 ∷ []) e ∙ ap (option_map (λ rest. byte ∷ rest)) more

pub unquoted_quoted : (value : List ℕ) → unquoted (quoted value) ≡ Some value
unfolding unquoted quoted
unquoted_quoted value = unescaped-escaped value

-- ---- what is read is what would be written

only-closing : (byte : ℕ) (value : List ℕ) (b : Bool) → (byte == 34) ≡ b → cond b (Some []) None ≡ Some value → byte ∷ [] ≡ escaped value ++ 34 ∷ []
only-closing byte value true q e =
    let is : byte ≡ 34 = grind (arith, nat_tests) in
    let none : value ≡ [] = cc in
    rw (is, none) refl
only-closing byte value false q e = cc

abbrev IsOnly : List ℕ → Type 0
IsOnly text = (value : List ℕ) → unescaped text ≡ Some value → text ≡ escaped value ++ 34 ∷ []

only-pair : (other : ℕ) (bytes value : List ℕ) → is_marked other ≡ true → IsOnly bytes → unescaped (92 ∷ other ∷ bytes) ≡ Some value → 92 ∷ other ∷ bytes ≡ escaped value ++ 34 ∷ []
only-pair other bytes value m more e =
    let back = front-of (other ∷ []) (unescaped bytes) value (sym (unescaped-marked other bytes m) ∙ e) in
    ap (λ t. 92 ∷ other ∷ t) (more back.0 back.1) ∙ ap (λ t. t ++ 34 ∷ []) (sym (escaped-marked other back.0 m)) ∙ ap (λ v. escaped v ++ 34 ∷ []) (sym back.2)

only-plain : (byte : ℕ) (bytes value : List ℕ) → is_marked byte ≡ false → IsOnly bytes → unescaped (byte ∷ bytes) ≡ Some value → byte ∷ bytes ≡ escaped value ++ 34 ∷ []
only-plain byte bytes value m more e =
    let back = front-of (byte ∷ []) (unescaped bytes) value (sym (unescaped-plain byte bytes m) ∙ e) in
    ap (λ t. byte ∷ t) (more back.0 back.1) ∙ ap (λ t. t ++ 34 ∷ []) (sym (escaped-plain byte back.0 m)) ∙ ap (λ v. escaped v ++ 34 ∷ []) (sym back.2)

only-by : (byte other : ℕ) (bytes value : List ℕ) (q s m : Bool) → (byte == 34) ≡ q → (byte == 92) ≡ s → is_marked other ≡ m → IsOnly bytes → IsOnly (other ∷ bytes)
    → unescaped (byte ∷ other ∷ bytes) ≡ Some value → byte ∷ other ∷ bytes ≡ escaped value ++ 34 ∷ []
only-by byte other bytes value true s m is is-slash is-marked far near e =
    let first : byte ≡ 34 = grind (arith, nat_tests) in
    cc (ap (λ b. unescaped (b ∷ other ∷ bytes)) first, unescaped-early other bytes, e)
only-by byte other bytes value false true true is is-slash is-marked far near e =
    let first : byte ≡ 92 = grind (arith, nat_tests) in
    ap (λ b. b ∷ other ∷ bytes) first ∙ only-pair other bytes value is-marked far (ap (λ b. unescaped (b ∷ other ∷ bytes)) (sym first) ∙ e)
only-by byte other bytes value false true false is is-slash is-marked far near e =
    let first : byte ≡ 92 = grind (arith, nat_tests) in
    cc (ap (λ b. unescaped (b ∷ other ∷ bytes)) first, unescaped-stray other bytes is-marked, e)
only-by byte other bytes value false false m is is-slash is-marked far near e =
    let plain : is_marked byte ≡ false = rw (is, is-slash) refl in
    only-plain byte (other ∷ bytes) value plain near e

unescaped-only : (text value : List ℕ) → unescaped text ≡ Some value → text ≡ escaped value ++ 34 ∷ []
unescaped-only [] value e = cc (unescaped-nil, e)
unescaped-only (byte ∷ []) value e = only-closing byte value (byte == 34) refl (sym (unescaped-one byte) ∙ e)
unescaped-only (byte ∷ other ∷ bytes) value e =
    only-by byte other bytes value (byte == 34) (byte == 92) (is_marked other) refl refl refl (unescaped-only bytes) (unescaped-only (other ∷ bytes)) e

pub unquoted-only : (text value : List ℕ) → unquoted text ≡ Some value → text ≡ quoted value
unfolding unquoted quoted
unquoted-only [] value e = cc
unquoted-only (byte ∷ text) value e = by (byte == 34) refl e
  where
    by : (b : Bool) → (byte == 34) ≡ b → cond b (unescaped text) None ≡ Some value → byte ∷ text ≡ 34 ∷ (escaped value ++ 34 ∷ [])
    by true q same =
        let first : byte ≡ 34 = grind (arith, nat_tests) in
        ap (λ b. b ∷ text) first ∙ ap (λ t. 34 ∷ t) (unescaped-only text value same)
    by false q same = cc

-- ---- a text in quotes is a text, and so is the value of such a text

run-encoded : (c : ℕ) (rest text : List ℕ) → text ≡ encode c ++ rest → is_marked c ≡ false → NoneMarked (length (encode c)) text
run-encoded c rest text e plain k below = by (is_marked (get_or text k 0)) refl
  where
    by : (b : Bool) → is_marked (get_or text k 0) ≡ b → b ≡ false
    by false m = refl
    by true m =
        let same : c ≡ get_or text k 0 = inside_one c rest text k e below (marked-low (get_or text k 0) m) in
        sym m ∙ sym (ap is_marked same) ∙ plain

escaped-encoded : (c : ℕ) (rest : List ℕ) → is_marked c ≡ false → escaped (encode c ++ rest) ≡ encode c ++ escaped rest
escaped-encoded c rest plain =
    escaped-run (length (encode c)) (encode c ++ rest) (omega (arith, length-append (encode c) rest)) (run-encoded c rest (encode c ++ rest) refl plain)
    ∙ ap (λ front. front ++ escaped (drop (length (encode c)) (encode c ++ rest))) (take_at (encode c) rest (length (encode c)) refl)
    ∙ ap (λ back. encode c ++ escaped back) (drop_at (encode c) rest (length (encode c)) refl)

unescaped-encoded : (c : ℕ) (rest : List ℕ) → is_marked c ≡ false → unescaped (encode c ++ rest) ≡ before (encode c) (unescaped rest)
unescaped-encoded c rest plain =
    unescaped-run (length (encode c)) (encode c ++ rest) (omega (arith, length-append (encode c) rest)) (run-encoded c rest (encode c ++ rest) refl plain)
    ∙ ap (λ front. before front (unescaped (drop (length (encode c)) (encode c ++ rest)))) (take_at (encode c) rest (length (encode c)) refl)
    ∙ ap (λ back. before (encode c) (unescaped back)) (drop_at (encode c) rest (length (encode c)) refl)

encoded-marked : (c : ℕ) (rest : List ℕ) → is_marked c ≡ true → encode c ++ rest ≡ c ∷ rest
encoded-marked c rest m = ap (λ front. front ++ rest) (encode_ascii c (marked-low c m))

one-text : (c : ℕ) → c < 128 → IsUtf8 (c ∷ [])
one-text c low = text-from_ascii (c ∷ []) (grind (arith, nat_tests))

escaped-text-by : (cs : List ℕ) → scalars cs ≡ true → IsUtf8 (escaped (encodes cs))
escaped-text-by [] s = IsUtf8-nil
escaped-text-by (c ∷ cs) s = by (is_marked c) refl (escaped-text-by cs (and-second (scalar c) (scalars cs) s))
  where
    by : (b : Bool) → is_marked c ≡ b → IsUtf8 (escaped (encodes cs)) → IsUtf8 (escaped (encode c ++ encodes cs))
    by true m more =
        subst IsUtf8 (sym (ap escaped (encoded-marked c (encodes cs) m) ∙ escaped-marked c (encodes cs) m))
        (IsUtf8-append (92 ∷ []) (c ∷ escaped (encodes cs)) (one-text 92 (omega arith)) (IsUtf8-append (c ∷ []) (escaped (encodes cs)) (one-text c (marked-low c m)) more))
    by false m more =
        subst IsUtf8 (sym (escaped-encoded c (encodes cs) m)) (IsUtf8-append (encode c) (escaped (encodes cs)) (IsUtf8-encode c (and-first (scalar c) (scalars cs) s)) more)

pub quoted-text : (value : List ℕ) → IsUtf8 value → IsUtf8 (quoted value)
unfolding quoted
quoted-text value text =
    let inside : IsUtf8 (escaped value) = subst (λ v. IsUtf8 (escaped v)) text.1.1 (escaped-text-by text.0 text.1.0) in
    IsUtf8-append (34 ∷ []) (escaped value ++ 34 ∷ []) (one-text 34 (omega arith)) (IsUtf8-append (escaped value) (34 ∷ []) inside (one-text 34 (omega arith)))

-- ---- the marks of a text

pub mark_backslash : (text : List ℕ) → bytes_eq (take 1 text) (92 ∷ []) ≡ true → unescaped text ≡ unescaped (92 ∷ drop 1 text)
mark_backslash [] e = cc
mark_backslash (byte ∷ text) e = ap (λ b. unescaped (b ∷ text)) (same-first byte e)
  where
    same-first : (b : ℕ) → bytes_eq (b ∷ []) (92 ∷ []) ≡ true → b ≡ 92
    same-first b h = let same = (bytes_eq-Decides (b ∷ []) (92 ∷ [])).0 h in cc

quote-first : (byte : ℕ) → bytes_eq (byte ∷ []) (92 ∷ []) ≡ false → is_marked byte ≡ true → byte ≡ 34
quote-first byte e m = grind (arith, nat_tests)

pub mark_closing : (text : List ℕ) → bytes_eq (take 1 text) (92 ∷ []) ≡ false → is_marked (get_or text 0 0) ≡ true → length text ≡ 1 → unescaped text ≡ Some []
mark_closing [] e m h = cc
mark_closing (byte ∷ []) e m h = ap (λ b. unescaped (b ∷ [])) (quote-first byte e m) ∙ unescaped-closing
mark_closing (byte ∷ other ∷ bytes) e m h = absurd (omega arith)

pub mark_stray : (text : List ℕ) → bytes_eq (take 1 text) (92 ∷ []) ≡ false → is_marked (get_or text 0 0) ≡ true → length text ≢ 1 → unescaped text ≡ None
mark_stray [] e m h = cc
mark_stray (byte ∷ []) e m h = absurd (h refl)
mark_stray (byte ∷ other ∷ bytes) e m h = ap (λ b. unescaped (b ∷ other ∷ bytes)) (quote-first byte e m) ∙ unescaped-early other bytes

pub ruleset marks = (mark_backslash, mark_closing, mark_stray)

pub marked_byte : (text rest : List ℕ) (byte : ℕ) → text ≡ byte ∷ rest → is_marked byte ≡ true → unescaped (92 ∷ text) ≡ option_map (λ value. byte ∷ value) (unescaped rest)
marked_byte text rest byte e m = ap (λ t. unescaped (92 ∷ t)) e ∙ unescaped-marked byte rest m

pub plain_byte : (text rest : List ℕ) (byte : ℕ) → text ≡ byte ∷ rest → is_marked byte ≡ false → unescaped (92 ∷ text) ≡ None
plain_byte text rest byte e m = ap (λ t. unescaped (92 ∷ t)) e ∙ unescaped-stray byte rest m

pub no_byte : (text : List ℕ) → length text ≡ 0 → unescaped (92 ∷ text) ≡ None
no_byte [] e = unescaped-lone
no_byte (byte ∷ text) e = absurd (omega arith)

pub ruleset marked_bytes = (marked_byte, plain_byte, no_byte)

-- ---- a text in quotes

pub unquoted_some : (text : List ℕ) → bytes_eq (take 1 text) (34 ∷ []) ≡ true → unquoted text ≡ unescaped (drop 1 text)
unfolding unquoted
unquoted_some [] e = cc
unquoted_some (byte ∷ text) e = rw (quote-test byte e) refl
  where
    quote-test : (b : ℕ) → bytes_eq (b ∷ []) (34 ∷ []) ≡ true → (b == 34) ≡ true
    quote-test b h = grind (arith, nat_tests)

pub unquoted_none : (text : List ℕ) → bytes_eq (take 1 text) (34 ∷ []) ≡ false → unquoted text ≡ None
unfolding unquoted
unquoted_none [] e = refl
unquoted_none (byte ∷ text) e = rw (quote-test byte e) refl
  where
    quote-test : (b : ℕ) → bytes_eq (b ∷ []) (34 ∷ []) ≡ false → (b == 34) ≡ false
    quote-test b h = grind (arith, nat_tests)

pub ruleset quoting = (unquoted_some, unquoted_none)

found-only : (text rest : List ℕ) (found : Option (List ℕ)) → rest ≡ drop 1 text → bytes_eq (take 1 text) (34 ∷ []) ≡ true → found ≡ unescaped rest → IfSome found (λ value. text ≡ quoted value)
found-only text rest None r q e = tt
found-only text rest (Some value) r q e = unquoted-only text value (unquoted_some text q ∙ ap unescaped (sym r) ∙ sym e)

pub only-quoted : {E : Type 0} (result : Result (Option (List ℕ)) E) (text rest : List ℕ) → rest ≡ drop 1 text → bytes_eq (take 1 text) (34 ∷ []) ≡ true
    → IfOk result (λ found. found ≡ unescaped rest) → IfOk result (λ found. IfSome found (λ value. text ≡ quoted value))
only-quoted (Ok found) text rest r q e = found-only text rest found r q e
only-quoted (Err error) text rest r q e = tt

-- ---- the loops

marked-at : (rest : List ℕ) (place : ℕ) → position is_marked rest ≡ Some place → (place < length rest) × (is_marked (get_or rest place 0) ≡ true) × NoneMarked place rest
marked-at rest place e = position-Some is_marked rest place 0 e

pub marked_first : (rest : List ℕ) (place : ℕ) → position is_marked rest ≡ Some place → is_marked (get_or (drop place rest) 0 0) ≡ true
marked_first rest place e =
    let at = marked-at rest place e in
    ap (λ text. is_marked (get_or text 0 0)) (drop_more rest place 0 at.0) ∙ at.1

none-marked : (rest : List ℕ) → position is_marked rest ≡ None → NoneMarked (length rest) rest
none-marked rest e k below = by (ltb (position_or_len is_marked rest) (length rest)) refl e
  where
    by : (b : Bool) → ltb (position_or_len is_marked rest) (length rest) ≡ b → cond b (Some (position_or_len is_marked rest)) None ≡ None → is_marked (get_or rest k 0) ≡ false
    by true h none = cc
    by false h none =
        let far : length rest ≤ position_or_len is_marked rest = grind (arith, nat_tests) in
        fails_before_first is_marked rest k 0 (omega arith)

-- ---- writing

pub escaped_end : (text rest whole : List ℕ) → position is_marked rest ≡ None → text ++ escaped rest ≡ whole → text ++ rest ≡ whole
escaped_end text rest whole e so_far =
    let same : escaped rest ≡ rest =
    escaped-run (length rest) rest (omega arith) (none-marked rest e)
    ∙ ap (λ back. take (length rest) rest ++ escaped back) (drop_all (length rest) rest (omega arith))
    ∙ append-nil (take (length rest) rest)
    ∙ take_all (length rest) rest (omega arith) in
    ap (λ back. text ++ back) (sym same) ∙ so_far

-- a quote or a backslash is at this place, with others after it
marked-split : (rest : List ℕ) (place : ℕ) → position is_marked rest ≡ Some place → drop place rest ≡ get_or rest place 0 ∷ drop (place + 1) rest
marked-split rest place e = drop_more rest place 0 (marked-at rest place e).0

pub escaped_step : (text rest whole plain marked byte others : List ℕ) (place : ℕ) → position is_marked rest ≡ Some place
    → plain ≡ take place rest → marked ≡ drop place rest → byte ≡ take 1 marked → others ≡ drop 1 marked
    → text ++ escaped rest ≡ whole → text ++ plain ++ 92 ∷ [] ++ byte ++ escaped others ≡ whole
escaped_step text rest whole plain marked byte others place e p m b o so_far =
    let at = marked-at rest place e in
    let first = get_or rest place 0 in
    let after = drop (place + 1) rest in
    let split : marked ≡ first ∷ after = m ∙ marked-split rest place e in
    let one : byte ≡ first ∷ [] = b ∙ ap (take 1) split in
    let back : others ≡ after = o ∙ ap (drop 1) split in
    let run : escaped rest ≡ take place rest ++ 92 ∷ first ∷ escaped after =
    escaped-run place rest (omega (arith, at.0)) at.2
    ∙ ap (λ t. take place rest ++ escaped t) (marked-split rest place e)
    ∙ ap (λ t. take place rest ++ t) (escaped-marked first after at.1) in
    rw (p, one, back) (append_assoc (text ++ take place rest ++ 92 ∷ []) (first ∷ []) (escaped after) ∙ append_assoc (text ++ take place rest) (92 ∷ []) (first ∷ escaped after) ∙ append_assoc text (take place rest) (92 ∷ first ∷ escaped after) ∙ ap (λ t. text ++ t) (sym run))
    ∙ so_far

pub quoted_written : (text value : List ℕ) → text ++ 34 ∷ [] ++ escaped value ++ 34 ∷ [] ≡ text ++ quoted value
unfolding quoted
quoted_written text value =
    append_assoc (text ++ 34 ∷ []) (escaped value) (34 ∷ []) ∙ append_assoc text (34 ∷ []) (escaped value ++ 34 ∷ [])

pub ruleset written_quotes = (quoted_written, unquoted_quoted)

-- ---- reading

pub unescaped_end : (text value rest : List ℕ) → position is_marked rest ≡ None → unescaped text ≡ before value (unescaped rest) → unescaped text ≡ None
unescaped_end text value rest e so_far =
    let none : unescaped rest ≡ None =
    unescaped-run (length rest) rest (omega arith) (none-marked rest e)
    ∙ ap (λ back. before (take (length rest) rest) (unescaped back)) (drop_all (length rest) rest (omega arith))
    ∙ ap (before (take (length rest) rest)) unescaped-nil in
    so_far ∙ ap (before value) none

-- the plain bytes before a mark come after the value so far
pub unescaped_plain : (text value rest plain marked : List ℕ) (place : ℕ) → position is_marked rest ≡ Some place
    → plain ≡ take place rest → marked ≡ drop place rest → unescaped text ≡ before value (unescaped rest) → unescaped text ≡ before (value ++ plain) (unescaped marked)
unescaped_plain text value rest plain marked place e p m so_far =
    let at = marked-at rest place e in
    so_far
    ∙ ap (before value) (unescaped-run place rest (omega (arith, at.0)) at.2)
    ∙ before-append value (take place rest) (unescaped (drop place rest))
    ∙ ap (λ front. before (value ++ front) (unescaped (drop place rest))) (sym p)
    ∙ ap (λ back. before (value ++ plain) (unescaped back)) (sym m)

pub before-byte : (value : List ℕ) (byte : ℕ) (o : Option (List ℕ)) → before value (option_map (λ rest. byte ∷ rest) o) ≡ before (value ++ byte ∷ []) o
before-byte value byte None = refl
before-byte value byte (Some rest) = ap Some (sym (append_assoc value (byte ∷ []) rest))

pub unescaped_closing : (text value rest plain marked now : List ℕ) (place : ℕ) → position is_marked rest ≡ Some place
    → plain ≡ take place rest → marked ≡ drop place rest → unescaped text ≡ before value (unescaped rest) → now ≡ value ++ plain → unescaped marked ≡ Some [] → Some now ≡ unescaped text
unescaped_closing text value rest plain marked now place e p m so_far is closing =
    sym (unescaped_plain text value rest plain marked place e p m so_far ∙ ap (before (value ++ plain)) closing ∙ ap Some (append-nil (value ++ plain) ∙ sym is))

pub unescaped_byte : (text value rest plain marked now more others : List ℕ) (place byte : ℕ) → position is_marked rest ≡ Some place
    → plain ≡ take place rest → marked ≡ drop place rest → unescaped text ≡ before value (unescaped rest) → now ≡ value ++ plain → unescaped marked ≡ option_map (λ back. byte ∷ back) (unescaped others)
    → more ≡ now ++ byte ∷ [] → unescaped text ≡ before more (unescaped others)
unescaped_byte text value rest plain marked now more others place byte e p m so_far is one same =
    unescaped_plain text value rest plain marked place e p m so_far
    ∙ ap (before (value ++ plain)) one
    ∙ before-byte (value ++ plain) byte (unescaped others)
    ∙ ap (λ front. before front (unescaped others)) (sym (same ∙ ap (λ front. front ++ byte ∷ []) is))

pub unescaped_wrong : (text value rest plain marked : List ℕ) (place : ℕ) → position is_marked rest ≡ Some place
    → plain ≡ take place rest → marked ≡ drop place rest → unescaped text ≡ before value (unescaped rest) → unescaped marked ≡ None → None ≡ unescaped text
unescaped_wrong text value rest plain marked place e p m so_far none =
    sym (unescaped_plain text value rest plain marked place e p m so_far ∙ ap (before (value ++ plain)) none)

-- ---- the value of a text is a text

abbrev GivesText : List ℕ → Type 0
GivesText text = (value : List ℕ) → unescaped text ≡ Some value → IsUtf8 value

gives-none : (text : List ℕ) → unescaped text ≡ None → GivesText text
gives-none text none value e = cc

stray-first : (rest : List ℕ) → is_marked (get_or rest 0 0) ≡ false → unescaped (92 ∷ rest) ≡ None
stray-first [] m = unescaped-lone
stray-first (byte ∷ rest) m = unescaped-stray byte rest m

gives-quote : (rest : List ℕ) → GivesText (34 ∷ rest)
gives-quote [] value e = let none : value ≡ [] = cc (unescaped-closing, e) in subst IsUtf8 (sym none) IsUtf8-nil
gives-quote (byte ∷ rest) value e = cc (unescaped-early byte rest, e)

gives-front : (front rest text : List ℕ) → IsUtf8 front → unescaped text ≡ before front (unescaped rest) → GivesText rest → GivesText text
gives-front front rest text is same more value e =
    let back = front-of front (unescaped rest) value (sym same ∙ e) in
    subst IsUtf8 (sym back.2) (IsUtf8-append front back.0 is (more back.0 back.1))

gives-after : (d : ℕ) (rest : List ℕ) → GivesText rest → GivesText (92 ∷ (encode d ++ rest))
gives-after d rest more = by (is_marked d) refl
  where
    by : (b : Bool) → is_marked d ≡ b → GivesText (92 ∷ (encode d ++ rest))
    by true m = gives-front (d ∷ []) rest (92 ∷ (encode d ++ rest)) (one-text d (marked-low d m)) (ap (λ t. unescaped (92 ∷ t)) (encoded-marked d rest m) ∙ unescaped-marked d rest m) more
    by false m =
        gives-none (92 ∷ (encode d ++ rest)) (stray-first (encode d ++ rest) (run-encoded d rest (encode d ++ rest) refl m 0 (omega (arith, length-encode d, (len_utf8_bounds d).0))))

gives-step : (c : ℕ) (rest : List ℕ) → scalar c ≡ true → GivesText rest → GivesText (92 ∷ rest) → GivesText (encode c ++ rest)
gives-step c rest s more marked = by (is_marked c) refl (c == 34) refl
  where
    by : (b : Bool) → is_marked c ≡ b → (q : Bool) → (c == 34) ≡ q → GivesText (encode c ++ rest)
    by false m q e = gives-front (encode c) rest (encode c ++ rest) (IsUtf8-encode c s) (unescaped-encoded c rest m) more
    by true m true e =
        let is : c ≡ 34 = grind (arith, nat_tests) in
        subst GivesText (sym (encoded-marked c rest m ∙ ap (λ b. b ∷ rest) is)) (gives-quote rest)
    by true m false e =
        let is : c ≡ 92 = grind (arith, nat_tests) in
        subst GivesText (sym (encoded-marked c rest m ∙ ap (λ b. b ∷ rest) is)) marked

gives-text : (cs : List ℕ) → scalars cs ≡ true → GivesText (encodes cs)
gives-text [] s = gives-none [] unescaped-nil
gives-text (c ∷ []) s = gives-step c [] (and-first (scalar c) true s) (gives-none [] unescaped-nil) (gives-none (92 ∷ []) unescaped-lone)
gives-text (c ∷ d ∷ ds) s =
    let more = and-second (scalar c) (scalars (d ∷ ds)) s in
    gives-step c (encodes (d ∷ ds)) (and-first (scalar c) (scalars (d ∷ ds)) s) (gives-text (d ∷ ds) more) (gives-after d (encodes ds) (gives-text ds (and-second (scalar d) (scalars ds) more)))

unescaped-text : (text value : List ℕ) → IsUtf8 text → unescaped text ≡ Some value → IsUtf8 value
unescaped-text text value is e = gives-text is.0 is.1.0 value (ap unescaped is.1.1 ∙ e)

pub unquoted-text : (text value : List ℕ) → IsUtf8 text → unquoted text ≡ Some value → IsUtf8 value
unfolding unquoted
unquoted-text [] value is e = cc
unquoted-text (byte ∷ text) value is e = by (byte == 34) refl e
  where
    by : (b : Bool) → (byte == 34) ≡ b → cond b (unescaped text) None ≡ Some value → IsUtf8 value
    by true q same =
        let low : byte < 128 = grind (arith, nat_tests) in
        unescaped-text text value (IsUtf8-past_char (byte ∷ text) text byte is (ap (λ front. front ++ text) (sym (encode_ascii byte low)))) same
    by false q same = cc

-- ---- a value in quotes has no LF, where the value has none

escaped-line : (value : List ℕ) → list_all no_lf value ≡ true → list_all no_lf (escaped value) ≡ true
escaped-line [] h = refl
escaped-line (byte ∷ value) h = by (is_marked byte) refl (escaped-line value (and-second (no_lf byte) (list_all no_lf value) h))
  where
    by : (b : Bool) → is_marked byte ≡ b → list_all no_lf (escaped value) ≡ true → list_all no_lf (escaped (byte ∷ value)) ≡ true
    by true m more = ap (list_all no_lf) (escaped-marked byte value m) ∙ rw (and-first (no_lf byte) (list_all no_lf value) h) more
    by false m more = ap (list_all no_lf) (escaped-plain byte value m) ∙ rw (and-first (no_lf byte) (list_all no_lf value) h) more

pub quoted-line : (value : List ℕ) → list_all no_lf value ≡ true → list_all no_lf (quoted value) ≡ true
unfolding quoted
quoted-line value h = list_all-append no_lf (escaped value) (34 ∷ []) (escaped-line value h) refl
