-- What is written of options is read back as these options.
use Rattle.std.proofs.Common.{ℕ, ◌≡◌, true, false, not, ◌&&◌, List, [], ◌∷◌, ◌++◌, length, take, Some, None, refl, ap, sym, ◌∙◌, leb}
use Rattle.std.specs.Prelude.{bytes_eq, option_map, option_and_then, ◌==◌}
use Rattle.std.specs.List.{list_all}
use Rattle.std.specs.Str.{IsUtf8}
use Rattle.std.proofs.lemmas.List.{append_assoc}
use Rattle.std.proofs.lemmas.Str.{IsUtf8-append, is_utf8-from_IsUtf8}
use Rattle.wc_options.specs.Config.{after_line, is_passed_over, with_setting, setting_in, text_of_lines}
use Rattle.wc_options.specs.File.{lines_of, parted, equals_sign, onto_first}
use Rattle.wc_options.specs.Names.{Located, located, row_of_located}
use Rattle.wc_options.specs.Options.{OptionsValue, refusal_of, with_value_at, makes_server}
use Rattle.wc_options.specs.Values.{value_fits}
use Rattle.wc_options.specs.Quotes.{quoted}
use Rattle.wc_options.specs.Version.{is_in_quotes}
use Rattle.wc_options.specs.declared.version.Version.TheVariants.{Two}
use Rattle.wc_options.proofs.ByteLemmas.{no_lf, no_blank, and-first, and-second, not-true, text-from_ascii}
use Rattle.wc_options.proofs.ConfigLemmas.{line_taken, setting_in_quotes}
use Rattle.wc_options.proofs.FileLemmas.{lines_of-hit, lines_of-miss, parted-here, parted-next}
use Rattle.wc_options.proofs.KeptLemmas.{refusal_of_some, with_value_some}
use Rattle.wc_options.proofs.QuotesLemmas.{quoted-text, unquoted_quoted}

-- ---- lines

line-first : (line rest : List ℕ) → list_all no_lf line ≡ true → lines_of (line ++ 10 ∷ rest) ≡ line ∷ lines_of rest
line-first [] rest h = lines_of-hit 10 rest refl
line-first (byte ∷ line) rest h =
    lines_of-miss byte (line ++ 10 ∷ rest) (not-true (byte == 10) (and-first (not (byte == 10)) (list_all no_lf line) h))
    ∙ ap (onto_first byte) (line-first line rest (and-second (not (byte == 10)) (list_all no_lf line) h))

-- no line has an LF
abbrev pub AreLines : List (List ℕ) → Type 0
AreLines [] = Unit {0}
AreLines (line ∷ lines) = (list_all no_lf line ≡ true) × AreLines lines

pub AreLines-append : (xs ys : List (List ℕ)) → AreLines xs → AreLines ys → AreLines (xs ++ ys)
AreLines-append [] ys h k = k
AreLines-append (x ∷ xs) ys h k = (h.0, AreLines-append xs ys h.1 k)

lines-none : lines_of [] ≡ []
unfolding lines_of
lines-none = refl

pub lines_of-ended : (lines : List (List ℕ)) → AreLines lines → lines_of (text_of_lines lines) ≡ lines
lines_of-ended [] h = lines-none
lines_of-ended (line ∷ lines) h =
    ap lines_of (append_assoc line (10 ∷ []) (text_of_lines lines)) ∙ line-first line (text_of_lines lines) h.0 ∙ ap (λ rest. line ∷ rest) (lines_of-ended lines h.1)

-- ---- parting

first-differs : (byte : ℕ) (rest : List ℕ) → (byte == 32) ≡ false → bytes_eq (take 3 (byte ∷ rest)) equals_sign ≡ false
first-differs byte rest e = rw e refl

part-first : (name value : List ℕ) → list_all no_blank name ≡ true → parted (name ++ (equals_sign ++ value)) ≡ Some (name, value)
part-first [] value h = parted-here (equals_sign ++ value) refl
part-first (byte ∷ name) value h =
    let other : (byte == 32) ≡ false = not-true (byte == 32) (and-first (not (byte == 32)) (list_all no_blank name) h) in
    parted-next byte (name ++ (equals_sign ++ value)) (first-differs byte (name ++ (equals_sign ++ value)) other)
    ∙ ap (option_map (λ parts. (byte ∷ parts.0, parts.1))) (part-first name value (and-second (not (byte == 32)) (list_all no_blank name) h))

-- ---- one option's line

pub record IsNameAt (name : List ℕ) (place : Located) : Type 0 where
  pub begins : (rest : List ℕ) → is_passed_over (name ++ rest) ≡ false
  pub plain : list_all no_blank name ≡ true
  pub whole : list_all no_lf name ≡ true
  pub text : IsUtf8 name
  pub here : located name ≡ Some place

equals-text : IsUtf8 equals_sign
equals-text = text-from_ascii equals_sign refl

-- the value fits, and there is room for the server
pub record CanTake (options : OptionsValue) (place : Located) (value : List ℕ) : Type 0 where
  pub fit : value_fits (row_of_located place).kind value ≡ true
  pub text : IsUtf8 value
  pub room : (makes_server options place && leb 64 (length options.servers)) ≡ false

not_refused : (options : OptionsValue) (name value : List ℕ) (place : Located) → located name ≡ Some place → CanTake options place value → refusal_of options name value ≡ None
not_refused options name value place here can = refusal_of_some options name value place (sym here) ∙ rw (can.fit, can.room) refl

taken-some : (options : OptionsValue) (name value : List ℕ) (place : Located) → located name ≡ Some place → CanTake options place value → with_setting options (Some (name, value)) ≡ Some (with_value_at options value place)
taken-some options name value place here can =
    rw (not_refused options name value place here can) (ap Some (with_value_some options name value place (sym here)))

in-quotes : (value : List ℕ) → is_in_quotes Two (quoted value) ≡ true
unfolding quoted
in-quotes value = refl

pub read-line : (options : OptionsValue) (name value : List ℕ) (place : Located) → IsNameAt name place → CanTake options place value
    → after_line Two options (name ++ equals_sign ++ quoted value) ≡ Some (with_value_at options value place)
read-line options name value place at can =
    let written = quoted value in
    let whole : IsUtf8 (name ++ (equals_sign ++ written)) = IsUtf8-append name (equals_sign ++ written) at.text (IsUtf8-append equals_sign written equals-text (quoted-text value can.text)) in
    ap (after_line Two options) (append_assoc name equals_sign written)
    ∙ line_taken Two options (name ++ (equals_sign ++ written)) (sym (at.begins (equals_sign ++ written))) (sym (is_utf8-from_IsUtf8 (name ++ (equals_sign ++ written)) whole))
    ∙ ap (λ parts. with_setting options (option_and_then (setting_in Two) parts)) (part-first name written at.plain)
    ∙ ap (with_setting options) (setting_in_quotes Two name written value (in-quotes value) (unquoted_quoted value))
    ∙ taken-some options name value place at.here can
