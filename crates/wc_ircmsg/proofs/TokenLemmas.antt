-- The value of a server's token PREFIX.
use Rattle.std.proofs.Common.{◌≡◌, ◌≢◌, ℕ, List, [], ◌∷◌, ◌++◌, length, refl, ap, sym, ◌∙◌, arith, eqb, nat_eq, Bool, true, false, cond, ◌&&◌, Option, Some, None, option_map, subst}
use Rattle.std.proofs.lemmas.Bool.{false≢true, and_parts, and_from}
use Rattle.std.proofs.lemmas.Bool.Decides.{nat_tests, Decides-eqb}
use Rattle.std.proofs.lemmas.Str.{IsUtf8-from_is_utf8, is_utf8-from_IsUtf8}
use Rattle.std.specs.List.{list_all}
use Rattle.std.specs.Char.{is_ascii_alphabetic}
use Rattle.std.specs.Str.{IsUtf8, is_utf8, chars}
use Rattle.wc_ircmsg.specs.declared.prefixes.Prefixes.{Prefixes}
use Rattle.wc_ircmsg.specs.Commands.{is_filled, is_name}
use Rattle.wc_text.specs.Splits.{before, text_after, Lacks}
use Rattle.wc_ircmsg.specs.Tokens.{each_once, parts_of, are_modes, are_chars, SpellsPrefixes}
use Rattle.wc_text.proofs.WordLemmas.{before-at, text_after-at, cut_after}

-- whether bytes are UTF-8
pub utf8_true : (text : List ℕ) → IsUtf8 text → is_utf8 text ≡ true
utf8_true text utf8 = is_utf8-from_IsUtf8 text utf8

pub utf8_false : (text : List ℕ) → (IsUtf8 text → ⊥) → is_utf8 text ≡ false
utf8_false text bad = by (is_utf8 text) refl where
  by : (t : Bool) → is_utf8 text ≡ t → is_utf8 text ≡ false
  by true e = absurd (bad (IsUtf8-from_is_utf8 text e))
  by false e = e

pub ruleset utf8_tests = (utf8_true, utf8_false)

abbrev firsts : Option (List ℕ × List ℕ) → List ℕ
firsts None = []
firsts (Some parts) = parts.0

abbrev seconds : Option (List ℕ × List ℕ) → List ℕ
seconds None = []
seconds (Some parts) = parts.1

-- letters have no `)`
letter_other : (b : ℕ) → is_ascii_alphabetic b ≡ true → b ≢ 41
letter_other b is = λ same. absurd (grind (arith, nat_tests))

letters_lack : (text : List ℕ) → list_all is_ascii_alphabetic text ≡ true → Lacks 41 text
letters_lack [] all = tt
letters_lack (b ∷ text) all = let both = and_parts (is_ascii_alphabetic b) (list_all is_ascii_alphabetic text) all in (letter_other b both.0, letters_lack text both.1)

-- the parts of a value that spells prefixes
pub SpellsPrefixes-parts : (value : List ℕ) (prefixes : Prefixes) → SpellsPrefixes value prefixes → parts_of value ≡ Some (prefixes.modes, prefixes.chars)
SpellsPrefixes-parts value prefixes spells =
    let lacks = letters_lack prefixes.modes (and_parts (is_filled prefixes.modes) (list_all is_ascii_alphabetic prefixes.modes) spells.letters).1 in
    ap parts_of spells.spelled
    ∙ ap (option_map (λ text. (before 41 (prefixes.modes ++ 41 ∷ prefixes.chars), text))) (text_after-at 41 prefixes.modes prefixes.chars lacks)
    ∙ ap (λ modes. Some (modes, prefixes.chars)) (before-at 41 prefixes.modes prefixes.chars lacks)

pub SpellsPrefixes-modes : (value : List ℕ) (prefixes : Prefixes) → SpellsPrefixes value prefixes → are_modes prefixes.modes ≡ true
SpellsPrefixes-modes value prefixes spells = and_from (is_name prefixes.modes) (each_once nat_eq prefixes.modes) spells.letters spells.modes_once

pub SpellsPrefixes-chars : (value : List ℕ) (prefixes : Prefixes) → SpellsPrefixes value prefixes → are_chars (length prefixes.modes) prefixes.chars ≡ true
SpellsPrefixes-chars value prefixes spells =
    and_from (is_utf8 prefixes.chars) (eqb (length (chars prefixes.chars)) (length prefixes.modes) && each_once nat_eq (chars prefixes.chars)) (utf8_true prefixes.chars spells.utf8)
    (and_from (eqb (length (chars prefixes.chars)) (length prefixes.modes)) (each_once nat_eq (chars prefixes.chars)) ((Decides-eqb (length (chars prefixes.chars)) (length prefixes.modes)).1 spells.as_many) spells.chars_once)

-- what the parts spell
pub SpellsPrefixes-made : (value modes text : List ℕ) → parts_of value ≡ Some (modes, text) → are_modes modes ≡ true → are_chars (length modes) text ≡ true → SpellsPrefixes value (record { modes = modes; chars = text })
SpellsPrefixes-made value modes text parted modes_pass chars_pass =
    let modes_both = and_parts (is_name modes) (each_once nat_eq modes) modes_pass in
    let chars_both = and_parts (is_utf8 text) (eqb (length (chars text)) (length modes) && each_once nat_eq (chars text)) chars_pass in
    let many = and_parts (eqb (length (chars text)) (length modes)) (each_once nat_eq (chars text)) chars_both.1 in
    record {
      spelled = spelled value parted;
      letters = modes_both.0;
      modes_once = modes_both.1;
      utf8 = IsUtf8-from_is_utf8 text chars_both.0;
      as_many = (Decides-eqb (length (chars text)) (length modes)).0 many.0;
      chars_once = many.1;
    }
  where
    cut : (b : ℕ) (rest : List ℕ) (o : Option (List ℕ)) → b ≡ 40 → text_after 41 rest ≡ o → option_map {U = List ℕ × List ℕ} (λ t. (before 41 rest, t)) o ≡ Some (modes, text) → b ∷ rest ≡ 40 ∷ (modes ++ 41 ∷ text)
    cut b rest None begins found e = absurd (cc)
    cut b rest (Some left) begins found e =
        let front : before 41 rest ≡ modes = ap firsts e in
        let back : left ≡ text = ap seconds e in
        let whole : rest ≡ before 41 rest ++ 41 ∷ left = cut_after 41 rest left found in
        (λ i. begins i ∷ whole i) ∙ (λ i. 40 ∷ (front i ++ 41 ∷ back i))

    opened : (b : ℕ) (rest : List ℕ) (t : Bool) → eqb b 40 ≡ t → cond t (option_map {U = List ℕ × List ℕ} (λ u. (before 41 rest, u)) (text_after 41 rest)) None ≡ Some (modes, text) → b ∷ rest ≡ 40 ∷ (modes ++ 41 ∷ text)
    opened b rest true e here = cut b rest (text_after 41 rest) ((Decides-eqb b 40).0 e) refl here
    opened b rest false e here = absurd (cc)

    spelled : (value : List ℕ) → parts_of value ≡ Some (modes, text) → value ≡ 40 ∷ (modes ++ 41 ∷ text)
    spelled [] e = absurd (cc)
    spelled (b ∷ rest) e = opened b rest (eqb b 40) refl e

-- the same of copies of the parts
pub copies_spell : (value modes text new_modes new_text : List ℕ) → new_modes ≡ modes → new_text ≡ text → parts_of value ≡ Some (modes, text) → are_modes modes ≡ true → are_chars (length modes) text ≡ true
    → SpellsPrefixes value (record { modes = new_modes; chars = new_text })
copies_spell value modes text new_modes new_text copied also parted modes_pass chars_pass =
    subst (λ (prefixes : Prefixes). SpellsPrefixes value prefixes) (λ i. record { modes = sym copied i; chars = sym also i }) (SpellsPrefixes-made value modes text parted modes_pass chars_pass)

-- ---- values that spell none
pub not_parted : (value : List ℕ) (prefixes : Prefixes) → parts_of value ≡ None → SpellsPrefixes value prefixes → ⊥
not_parted value prefixes parted spells = let parts = SpellsPrefixes-parts value prefixes spells in cc

same_parts : (value modes text : List ℕ) (prefixes : Prefixes) → parts_of value ≡ Some (modes, text) → SpellsPrefixes value prefixes → (modes ≡ prefixes.modes) × (text ≡ prefixes.chars)
same_parts value modes text prefixes parted spells =
    let same = sym parted ∙ SpellsPrefixes-parts value prefixes spells in
    (ap firsts same, ap seconds same)

pub not_modes : (value modes text : List ℕ) (prefixes : Prefixes) → parts_of value ≡ Some (modes, text) → are_modes modes ≡ false → SpellsPrefixes value prefixes → ⊥
not_modes value modes text prefixes parted fails spells =
    let same = same_parts value modes text prefixes parted spells in
    false≢true (sym fails ∙ ap are_modes same.0 ∙ SpellsPrefixes-modes value prefixes spells)

pub not_chars : (value modes text : List ℕ) (prefixes : Prefixes) → parts_of value ≡ Some (modes, text) → are_chars (length modes) text ≡ false → SpellsPrefixes value prefixes → ⊥
not_chars value modes text prefixes parted fails spells =
    let same = same_parts value modes text prefixes parted spells in
    false≢true (sym fails ∙ (λ i. are_chars (length (same.0 i)) (same.1 i)) ∙ SpellsPrefixes-chars value prefixes spells)

-- a value spells one answer at most
pub copies_same : (value modes text new_modes new_text : List ℕ) (prefixes : Prefixes) → new_modes ≡ modes → new_text ≡ text → parts_of value ≡ Some (modes, text) → SpellsPrefixes value prefixes
    → Some (record { modes = new_modes; chars = new_text }) ≡ Some prefixes
copies_same value modes text new_modes new_text prefixes copied also parted spells =
    let same = same_parts value modes text prefixes parted spells in
    λ i. Some (record { modes = (copied ∙ same.0) i; chars = (also ∙ same.1) i })
