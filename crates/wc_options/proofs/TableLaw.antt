-- The names in the tables are read as the options that they name.
use Rattle.std.proofs.Common.{ℕ, suc, ◌≡◌, true, false, not, ◌&&◌, List, [], ◌∷◌, ◌++◌, length, Some, refl, ap, ◌∙◌, arith, leb}
use Rattle.std.specs.Prelude.{◌==◌}
use Rattle.std.specs.List.{list_all, before_first, after_first}
use Rattle.std.proofs.lemmas.Bool.Decides.{nat_tests}
use Rattle.std.proofs.lemmas.List.{append_assoc}
use Rattle.std.proofs.lemmas.Str.{IsUtf8-append}
use Rattle.wc_options.specs.Config.{is_passed_over, prefix_of}
use Rattle.wc_options.specs.Names.{AtGlobal, AtServer, located, located_of_server, is_server_name, is_server_byte, server_prefix}
use Rattle.wc_options.specs.Table.{OptionRow, globals, of_server, place_in, row_at}
use Rattle.wc_options.proofs.ByteLemmas.{is_ascii, text-from_ascii, no_lf, no_blank, no_dot, list_all-append, list_all-weaken, and-first, and-second, not-true}
use Rattle.wc_options.proofs.LawLemmas.{IsNameAt}
use Rattle.wc_options.proofs.PartLemmas.{before_first-hit, before_first-miss, after_first-hit, after_first-miss}

-- ---- the options of the program

-- each row of a table from a place on is named by its name
abbrev pub AreNamed : ℕ → List OptionRow → Type 0
AreNamed place [] = Unit {0}
AreNamed place (row ∷ rows) = IsNameAt row.name (AtGlobal place) × (row_at globals place ≡ row) × AreNamed (suc place) rows

pub globals-AreNamed : AreNamed 0 globals
unfolding globals located place_in
globals-AreNamed =
    let name : (text : List ℕ) (place : ℕ) → ((rest : List ℕ) → is_passed_over (text ++ rest) ≡ false) → list_all no_blank text ≡ true → list_all no_lf text ≡ true → list_all is_ascii text ≡ true → located text ≡ Some (AtGlobal place) → IsNameAt text (AtGlobal place)
    = λ text place begins plain whole ascii here. record { begins = begins; plain = plain; whole = whole; text = text-from_ascii text ascii; here = here } in (name _ 0 (λ rest. refl) refl refl refl refl, refl, (name _ 1 (λ rest. refl) refl refl refl refl, refl, (name _ 2 (λ rest. refl) refl refl refl refl, refl, (name _ 3 (λ rest. refl) refl refl refl refl, refl, (name _ 4 (λ rest. refl) refl refl refl refl, refl, (name _ 5 (λ rest. refl) refl refl refl refl, refl, (name _ 6 (λ rest. refl) refl refl refl refl, refl, (name _ 7 (λ rest. refl) refl refl refl refl, refl, (name _ 8 (λ rest. refl) refl refl refl refl, refl, (name _ 9 (λ rest. refl) refl refl refl refl, refl, (name _ 10 (λ rest. refl) refl refl refl refl, refl, (name _ 11 (λ rest. refl) refl refl refl refl, refl, (name _ 12 (λ rest. refl) refl refl refl refl, refl, (name _ 13 (λ rest. refl) refl refl refl refl, refl, (name _ 14 (λ rest. refl) refl refl refl refl, refl, (name _ 15 (λ rest. refl) refl refl refl refl, refl, (name _ 16 (λ rest. refl) refl refl refl refl, refl, (name _ 17 (λ rest. refl) refl refl refl refl, refl, (name _ 18 (λ rest. refl) refl refl refl refl, refl, tt)))))))))))))))))))

-- ---- the options of a server

-- each row of its table from a place on has a plain name that is found there
abbrev pub ArePlain : ℕ → List OptionRow → Type 0
ArePlain place [] = Unit {0}
ArePlain place (row ∷ rows) =
    (list_all no_blank row.name ≡ true) × (list_all no_lf row.name ≡ true) × (list_all is_ascii row.name ≡ true) × (place_in row.name of_server ≡ Some place) × (row_at of_server place ≡ row) × ArePlain (suc place) rows

pub of_server-ArePlain : ArePlain 0 of_server
unfolding of_server place_in
of_server-ArePlain = (
  refl,
  refl,
  refl,
  refl,
  refl,
  (
    refl,
    refl,
    refl,
    refl,
    refl,
    (
      refl,
      refl,
      refl,
      refl,
      refl,
      (
        refl,
        refl,
        refl,
        refl,
        refl,
        (
          refl,
          refl,
          refl,
          refl,
          refl,
          (
            refl,
            refl,
            refl,
            refl,
            refl,
            (
              refl,
              refl,
              refl,
              refl,
              refl,
              (
                refl,
                refl,
                refl,
                refl,
                refl,
                (
                  refl,
                  refl,
                  refl,
                  refl,
                  refl,
                  (
                    refl,
                    refl,
                    refl,
                    refl,
                    refl,
                    (
                      refl,
                      refl,
                      refl,
                      refl,
                      refl,
                      (refl, refl, refl, refl, refl, tt),
                    ),
                  ),
                ),
              ),
            ),
          ),
        ),
      ),
    ),
  ),
)

before_dot-name : (name rest : List ℕ) → list_all no_dot name ≡ true → before_first (λ byte. byte == 46) (name ++ 46 ∷ rest) ≡ name
before_dot-name [] rest h = before_first-hit (λ byte. byte == 46) 46 rest refl
before_dot-name (byte ∷ name) rest h =
    before_first-miss (λ b. b == 46) byte (name ++ 46 ∷ rest) (not-true (byte == 46) (and-first (not (byte == 46)) (list_all no_dot name) h))
    ∙ ap (λ front. byte ∷ front) (before_dot-name name rest (and-second (not (byte == 46)) (list_all no_dot name) h))

after_dot-name : (name rest : List ℕ) → list_all no_dot name ≡ true → after_first (λ byte. byte == 46) (name ++ 46 ∷ rest) ≡ rest
after_dot-name [] rest h = after_first-hit (λ byte. byte == 46) 46 rest refl
after_dot-name (byte ∷ name) rest h =
    after_first-miss (λ b. b == 46) byte (name ++ 46 ∷ rest) (not-true (byte == 46) (and-first (not (byte == 46)) (list_all no_dot name) h))
    ∙ after_dot-name name rest (and-second (not (byte == 46)) (list_all no_dot name) h)

-- a byte of a server's name is no dot, no blank, no LF, and ASCII
byte-no_dot : (byte : ℕ) → is_server_byte byte ≡ true → no_dot byte ≡ true
byte-no_dot byte h = grind (arith, nat_tests)

byte-no_blank : (byte : ℕ) → is_server_byte byte ≡ true → no_blank byte ≡ true
byte-no_blank byte h = grind (arith, nat_tests)

byte-no_lf : (byte : ℕ) → is_server_byte byte ≡ true → no_lf byte ≡ true
byte-no_lf byte h = grind (arith, nat_tests)

name-bytes : (name : List ℕ) → is_server_name name ≡ true → list_all is_server_byte name ≡ true
unfolding is_server_name
name-bytes name h = and-second (leb 1 (length name) && leb (length name) 32) (list_all is_server_byte name) h

byte-ascii : (byte : ℕ) → is_server_byte byte ≡ true → is_ascii byte ≡ true
byte-ascii byte h = grind (arith, nat_tests)

located-server-of : (name option : List ℕ) (place : ℕ) → is_server_name name ≡ true → place_in option of_server ≡ Some place → located_of_server (name ++ 46 ∷ option) ≡ Some (AtServer name place)
located-server-of name option place named there =
    let plain : list_all no_dot name ≡ true = list_all-weaken is_server_byte no_dot byte-no_dot name (name-bytes name named) in
    let before = before_dot-name name option plain in
    let following = after_dot-name name option plain in
    rw (before, following, named, there) refl

located-server : (name option : List ℕ) (place : ℕ) → is_server_name name ≡ true → place_in option of_server ≡ Some place → located (prefix_of name ++ option) ≡ Some (AtServer name place)
unfolding located
located-server name option place named there = ap located_of_server (append_assoc name (46 ∷ []) option) ∙ located-server-of name option place named there

pub server-IsNameAt : (name option : List ℕ) (place : ℕ) → is_server_name name ≡ true → list_all no_blank option ≡ true → list_all no_lf option ≡ true → list_all is_ascii option ≡ true → place_in option of_server ≡ Some place
    → IsNameAt (prefix_of name ++ option) (AtServer name place)
server-IsNameAt name option place named plain whole ascii there =
    let bytes : list_all is_server_byte name ≡ true = name-bytes name named in
    let name-plain : list_all no_blank name ≡ true = list_all-weaken is_server_byte no_blank byte-no_blank name bytes in
    let name-whole : list_all no_lf name ≡ true = list_all-weaken is_server_byte no_lf byte-no_lf name bytes in
    record {
      begins = λ rest. refl;
      plain = list_all-append no_blank (prefix_of name) option (list_all-append no_blank (server_prefix ++ name) (46 ∷ []) (list_all-append no_blank server_prefix name refl name-plain) refl) plain;
      whole = list_all-append no_lf (prefix_of name) option (list_all-append no_lf (server_prefix ++ name) (46 ∷ []) (list_all-append no_lf server_prefix name refl name-whole) refl) whole;
      text = IsUtf8-append (prefix_of name) option
          (IsUtf8-append (server_prefix ++ name) (46 ∷ []) (IsUtf8-append server_prefix name (text-from_ascii server_prefix refl) (text-from_ascii name (list_all-weaken is_server_byte is_ascii byte-ascii name bytes))) (text-from_ascii (46 ∷ []) refl))
          (text-from_ascii option ascii);
      here = located-server name option place named there;
    }
