-- What the lines of a file make of the options.
use Rattle.std.proofs.Common.{ℕ, ◌≡◌, ◌+◌, ◌<◌, Bool, true, false, List, [], ◌∷◌, ◌++◌, length, take, drop, get_or, Option, Some, None, Ok, Err, refl, ap, sym, ◌∙◌, subst, arith}
use Rattle.std.specs.Prelude.{bytes_eq, option_map, option_and_then}
use Rattle.std.specs.Option.{option_map_or}
use Rattle.std.specs.Str.{IsUtf8, is_utf8}
use Rattle.std.proofs.lemmas.List.{drop-drop, drop_at, get_or-append-add, length-append, take-append-drop}
use Rattle.std.proofs.lemmas.Slice.Eq.{bytes_eq-Decides}
use Rattle.std.proofs.lemmas.Str.{IsUtf8-from_is_utf8, is_utf8-from_IsUtf8, IsUtf8-drop, IsCharBoundary-after_ascii}
use Rattle.wc_options.specs.Config.{after_line, after_lines, config_of, of_lines, is_passed_over, setting_in, with_setting}
use Rattle.wc_options.specs.File.{lines_of, parted, equals_sign}
use Rattle.wc_options.specs.Options.{OptionsValue, fresh}
use Rattle.wc_options.specs.Version.{is_in_quotes, told_version}
use Rattle.wc_options.specs.declared.version.Version.{Version}
use Rattle.wc_options.specs.declared.version.Version.TheVariants.{One}
use Rattle.wc_options.specs.Quotes.{unquoted}
use Rattle.wc_options.proofs.FileLemmas.{parted-here, parted-next}

-- ---- UTF-8

pub utf8_true : (line : List ℕ) → IsUtf8 line → true ≡ is_utf8 line
utf8_true line text = sym (is_utf8-from_IsUtf8 line text)

utf8_false-by : (line : List ℕ) (b : Bool) → is_utf8 line ≡ b → ¬ (IsUtf8 line) → false ≡ b
utf8_false-by line true e bad = absurd (bad (IsUtf8-from_is_utf8 line e))
utf8_false-by line false e bad = refl

pub utf8_false : (line : List ℕ) → ¬ (IsUtf8 line) → false ≡ is_utf8 line
utf8_false line bad = utf8_false-by line (is_utf8 line) refl bad

pub ruleset utf8_tests = (utf8_true, utf8_false)

-- ---- one line

pub line_passed : (version : Version) (options : OptionsValue) (line : List ℕ) → true ≡ is_passed_over line → after_line version options line ≡ Some options
unfolding after_line
line_passed version options line e = rw (← e) refl

pub line_not_text : (version : Version) (options : OptionsValue) (line : List ℕ) → false ≡ is_passed_over line → false ≡ is_utf8 line → after_line version options line ≡ None
unfolding after_line
line_not_text version options line e u = rw (← e, ← u) refl

pub line_taken : (version : Version) (options : OptionsValue) (line : List ℕ) → false ≡ is_passed_over line → true ≡ is_utf8 line → after_line version options line ≡ with_setting options (option_and_then (setting_in version) (parted line))
unfolding after_line
line_taken version options line e u = rw (← e, ← u) refl

pub ruleset lines_taken = (line_passed, line_not_text)

-- ---- a line in its parts

parted-whole-here : (line : List ℕ) (parts : List ℕ × List ℕ) → bytes_eq (take 3 line) equals_sign ≡ true → parted line ≡ Some parts → line ≡ parts.0 ++ (equals_sign ++ parts.1)
parted-whole-here line parts e p =
    let same : parts ≡ ([], drop 3 line) = cc (parted-here line e, p) in
    rw same (sym (take-append-drop 3 line) ∙ ap (λ front. front ++ drop 3 line) ((bytes_eq-Decides (take 3 line) equals_sign).0 e))

parted-whole-some : (byte : ℕ) (bytes : List ℕ) (inner parts : List ℕ × List ℕ) → bytes ≡ inner.0 ++ (equals_sign ++ inner.1) → parts ≡ (byte ∷ inner.0, inner.1) → byte ∷ bytes ≡ parts.0 ++ (equals_sign ++ parts.1)
parted-whole-some byte bytes inner parts e same = rw same (ap (λ rest. byte ∷ rest) e)

parted-whole-next : (byte : ℕ) (bytes : List ℕ) (r : Option (List ℕ × List ℕ)) (parts : List ℕ × List ℕ) → parted bytes ≡ r → option_map (λ inner. (byte ∷ inner.0, inner.1)) r ≡ Some parts
    → ((inner : List ℕ × List ℕ) → parted bytes ≡ Some inner → bytes ≡ inner.0 ++ (equals_sign ++ inner.1)) → byte ∷ bytes ≡ parts.0 ++ (equals_sign ++ parts.1)
parted-whole-next byte bytes None parts e p more = cc
parted-whole-next byte bytes (Some inner) parts e p more =
    let same : parts ≡ (byte ∷ inner.0, inner.1) = cc in
    parted-whole-some byte bytes inner parts (more inner e) same

parted-whole-by : (byte : ℕ) (bytes : List ℕ) (parts : List ℕ × List ℕ) (b : Bool) → bytes_eq (take 3 (byte ∷ bytes)) equals_sign ≡ b → parted (byte ∷ bytes) ≡ Some parts
    → ((inner : List ℕ × List ℕ) → parted bytes ≡ Some inner → bytes ≡ inner.0 ++ (equals_sign ++ inner.1)) → byte ∷ bytes ≡ parts.0 ++ (equals_sign ++ parts.1)
parted-whole-by byte bytes parts true e p more = parted-whole-here (byte ∷ bytes) parts e p
parted-whole-by byte bytes parts false e p more = parted-whole-next byte bytes (parted bytes) parts refl (sym (parted-next byte bytes e) ∙ p) more

parted-none : parted [] ≡ None
unfolding parted
parted-none = refl

pub parted-whole : (line : List ℕ) (parts : List ℕ × List ℕ) → parted line ≡ Some parts → line ≡ parts.0 ++ (equals_sign ++ parts.1)
parted-whole [] parts p = cc (parted-none, p)
parted-whole (byte ∷ bytes) parts p = parted-whole-by byte bytes parts (bytes_eq (take 3 (byte ∷ bytes)) equals_sign) refl p (parted-whole bytes)

value-text-by : (name value : List ℕ) → IsUtf8 (name ++ (equals_sign ++ value)) → IsUtf8 value
value-text-by name value text =
    let line = name ++ (equals_sign ++ value) in
    let blank : get_or line (length name + 2) 0 ≡ 32 = get_or-append-add name (equals_sign ++ value) 2 0 in
    let inside : length name + 2 < length line = omega (arith, length-append name (equals_sign ++ value)) in
    let place : length name + 2 + 1 ≡ length name + 3 = omega arith in
    let rest : drop (length name + 2 + 1) line ≡ value =
    ap (λ n. drop n line) place ∙ sym (drop-drop 3 (length name) line) ∙ ap (drop 3) (drop_at name (equals_sign ++ value) (length name) refl) in
    subst IsUtf8 rest (IsUtf8-drop line (length name + 2 + 1) text (IsCharBoundary-after_ascii line (length name + 2) text inside (omega arith)))

-- what comes after the first ` = ` of a text is a text
pub value-text : (line name value : List ℕ) → parted line ≡ Some (name, value) → IsUtf8 line → IsUtf8 value
value-text line name value p text = value-text-by name value (subst IsUtf8 (parted-whole line (name, value) p) text)

-- ---- the lines of a file

pub lines_step : (version : Version) (number : ℕ) (options following : OptionsValue) (line bytes rest : List ℕ) → lines_of bytes ≡ line ∷ lines_of rest → after_line version options line ≡ Some following
    → after_lines version number options (lines_of bytes) ≡ after_lines version (number + 1) following (lines_of rest)
lines_step version number options following line bytes rest e h = ap (after_lines version number options) e ∙ rw h refl

pub lines_stop : (version : Version) (number : ℕ) (options : OptionsValue) (line bytes rest : List ℕ) → lines_of bytes ≡ line ∷ lines_of rest → after_line version options line ≡ None
    → after_lines version number options (lines_of bytes) ≡ Err number
lines_stop version number options line bytes rest e h = ap (after_lines version number options) e ∙ rw h refl

pub lines_end : (version : Version) (number : ℕ) (options : OptionsValue) (bytes : List ℕ) → lines_of bytes ≡ [] → after_lines version number options (lines_of bytes) ≡ Ok options
lines_end version number options bytes e = ap (after_lines version number options) e

pub ruleset lines_read = (lines_step, lines_stop, lines_end)

pub config_empty : (bytes : List ℕ) → lines_of bytes ≡ [] → config_of bytes ≡ Ok fresh
unfolding config_of
config_empty bytes e = ap of_lines e

pub config_told : (bytes line rest : List ℕ) (options : OptionsValue) (version : Version) → lines_of bytes ≡ line ∷ lines_of rest → told_version line ≡ Some version → options ≡ fresh
    → config_of bytes ≡ after_lines version 2 options (lines_of rest)
unfolding config_of
config_told bytes line rest options version e v o =
    ap of_lines e
    ∙ ap (λ told. option_map_or (λ w. after_lines w 2 fresh (lines_of rest)) told (after_lines One 1 fresh (line ∷ lines_of rest))) v
    ∙ ap (λ (start : OptionsValue). after_lines version 2 start (lines_of rest)) (sym o)

pub config_untold : (bytes line rest : List ℕ) (options : OptionsValue) → lines_of bytes ≡ line ∷ lines_of rest → told_version line ≡ None → options ≡ fresh
    → config_of bytes ≡ after_lines One 1 options (lines_of bytes)
unfolding config_of
config_untold bytes line rest options e v o =
    ap of_lines e
    ∙ ap (λ told. option_map_or (λ w. after_lines w 2 fresh (lines_of rest)) told (after_lines One 1 fresh (line ∷ lines_of rest))) v
    ∙ ap (after_lines One 1 fresh) (sym e)
    ∙ ap (λ (start : OptionsValue). after_lines One 1 start (lines_of bytes)) (sym o)

pub ruleset config_read = (config_empty)

-- ---- a value as a version has it

pub setting_as_is : (version : Version) (name written : List ℕ) → is_in_quotes version written ≡ false → setting_in version (name, written) ≡ Some (name, written)
setting_as_is version name written q = rw q refl

pub setting_in_quotes : (version : Version) (name written value : List ℕ) → is_in_quotes version written ≡ true → unquoted written ≡ Some value → setting_in version (name, written) ≡ Some (name, value)
setting_in_quotes version name written value q e = rw (q, e) refl

pub setting_unreadable : (version : Version) (name written : List ℕ) → is_in_quotes version written ≡ true → unquoted written ≡ None → setting_in version (name, written) ≡ None
setting_unreadable version name written q e = rw (q, e) refl
