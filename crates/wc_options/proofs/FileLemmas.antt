use Rattle.std.proofs.Common.{ℕ, ◌≡◌, ◌<◌, ◌≤◌, ◌+◌, ◌-◌, ◌==◌, eqb, Bool, true, false, cond, List, [], ◌∷◌, ◌++◌, length, take, drop, get_or, Option, Some, None, refl, ap, sym, ◌∙◌, subst, arith}
use Rattle.std.specs.Prelude.{bytes_eq, option_map}
use Rattle.std.specs.List.{before_first, after_first}
use Rattle.std.proofs.lemmas.List.{append-nil, append_assoc, drop_more, take_more, drop_all}
use Rattle.wc_options.specs.File.{lines_of, onto_first, parted, equals_sign}
use Rattle.wc_options.proofs.PartLemmas.{before_first-hit, before_first-miss, after_first-hit, after_first-miss}

is_lf : ℕ → Bool
is_lf byte = byte == 10

-- ---- lines

pub lines_of-nil : (bytes : List ℕ) → length bytes ≡ 0 → lines_of bytes ≡ []
unfolding lines_of
lines_of-nil [] h = refl
lines_of-nil (byte ∷ bytes) h = absurd (omega arith)

pub lines_of-hit : (byte : ℕ) (bytes : List ℕ) → (byte == 10) ≡ true → lines_of (byte ∷ bytes) ≡ [] ∷ lines_of bytes
unfolding lines_of
lines_of-hit byte bytes e = rw e

pub lines_of-miss : (byte : ℕ) (bytes : List ℕ) → (byte == 10) ≡ false → lines_of (byte ∷ bytes) ≡ onto_first byte (lines_of bytes)
unfolding lines_of
lines_of-miss byte bytes e = rw e

-- the first line ends before the first LF, and the others come after it
abbrev BeginsWithLine : List ℕ → Type 0
BeginsWithLine bytes = lines_of bytes ≡ before_first (λ c. c == 10) bytes ∷ lines_of (after_first (λ c. c == 10) bytes)

first-hit : (byte : ℕ) (bytes : List ℕ) → (byte == 10) ≡ true → BeginsWithLine (byte ∷ bytes)
first-hit byte bytes e =
    rw (before_first-hit (λ c. c == 10) byte bytes e, after_first-hit (λ c. c == 10) byte bytes e) (lines_of-hit byte bytes e)

first-last : (byte : ℕ) → (byte == 10) ≡ false → BeginsWithLine (byte ∷ [])
first-last byte e =
    rw (before_first-miss (λ c. c == 10) byte [] e, after_first-miss (λ c. c == 10) byte [] e, lines_of-miss byte [] e, lines_of-nil [] refl) refl

first-miss : (byte : ℕ) (bytes : List ℕ) → (byte == 10) ≡ false → BeginsWithLine bytes → BeginsWithLine (byte ∷ bytes)
first-miss byte bytes e h =
    rw (before_first-miss (λ c. c == 10) byte bytes e, after_first-miss (λ c. c == 10) byte bytes e, lines_of-miss byte bytes e, h) refl

first-by : (byte : ℕ) (bytes : List ℕ) (b : Bool) → (byte == 10) ≡ b → (0 < length bytes → BeginsWithLine bytes) → BeginsWithLine (byte ∷ bytes)
first-by byte bytes true e h = first-hit byte bytes e
first-by byte [] false e h = first-last byte e
first-by byte (other ∷ bytes) false e h = first-miss byte (other ∷ bytes) e (h (omega arith))

pub lines_of-first : (bytes : List ℕ) → 0 < length bytes → BeginsWithLine bytes
lines_of-first [] h = absurd (omega arith)
lines_of-first (byte ∷ bytes) h = first-by byte bytes (byte == 10) refl (lines_of-first bytes)

pub ruleset first_lines = (lines_of-nil, lines_of-first)

-- ---- parting

pub parted-here : (rest : List ℕ) → bytes_eq (take 3 rest) equals_sign ≡ true → parted rest ≡ Some ([], drop 3 rest)
unfolding parted
parted-here [] e = cc
parted-here (byte ∷ bytes) e = rw e

pub parted-next : (byte : ℕ) (bytes : List ℕ) → bytes_eq (take 3 (byte ∷ bytes)) equals_sign ≡ false → parted (byte ∷ bytes) ≡ option_map (λ parts. (byte ∷ parts.0, parts.1)) (parted bytes)
unfolding parted
parted-next byte bytes e = rw e

parted-along : (rest : List ℕ) (byte : ℕ) (bytes : List ℕ) → rest ≡ byte ∷ bytes → bytes_eq (take 3 rest) equals_sign ≡ false
    → parted rest ≡ option_map (λ parts. (byte ∷ parts.0, parts.1)) (parted bytes)
parted-along rest byte bytes eq =
    subst (λ (r : List ℕ). bytes_eq (take 3 r) equals_sign ≡ false → parted r ≡ option_map (λ parts. (byte ∷ parts.0, parts.1)) (parted bytes)) (sym eq) (parted-next byte bytes)

-- a front put before the name
abbrev pub following : List ℕ → Option (List ℕ × List ℕ) → Option (List ℕ × List ℕ)
following front r = option_map (λ parts. (front ++ parts.0, parts.1)) r

following-one : (front : List ℕ) (byte : ℕ) (r : Option (List ℕ × List ℕ)) → following front (option_map (λ parts. (byte ∷ parts.0, parts.1)) r) ≡ following (front ++ byte ∷ []) r
following-one front byte None = refl
following-one front byte (Some parts) = rw append_assoc

following-nil : (r : Option (List ℕ × List ℕ)) → r ≡ following [] r
following-nil None = refl
following-nil (Some parts) = refl

-- before this place no ` = ` begins
pub record IsPartedFrom (line : List ℕ) (place : ℕ) : Type 0 where
  pub same : parted line ≡ following (take place line) (parted (drop place line))

pub parted_start : (line : List ℕ) → IsPartedFrom line 0
parted_start line = record { same = following-nil (parted line) }

next-same : (line : List ℕ) (place : ℕ) → place < length line → bytes_eq (take 3 (drop place line)) equals_sign ≡ false
    → following (take place line) (parted (drop place line)) ≡ following (take (place + 1) line) (parted (drop (place + 1) line))
next-same line place h e =
    ap (following (take place line)) (parted-along (drop place line) (get_or line place 0) (drop (place + 1) line) (drop_more line place 0 h) e)
    ∙ following-one (take place line) (get_or line place 0) (parted (drop (place + 1) line))
    ∙ ap (λ front. following front (parted (drop (place + 1) line))) (sym (take_more line place 0 h))

pub parted_more : (line : List ℕ) (place : ℕ) → place < length line → bytes_eq (take 3 (drop place line)) equals_sign ≡ false → IsPartedFrom line place → IsPartedFrom line (place + 1)
parted_more line place h e so_far = record { same = so_far.same ∙ next-same line place h e }

pub parted_found : (line : List ℕ) (place : ℕ) → bytes_eq (take 3 (drop place line)) equals_sign ≡ true → IsPartedFrom line place → parted line ≡ Some (take place line, drop 3 (drop place line))
parted_found line place e so_far = so_far.same ∙ rw (parted-here _ e, append-nil) refl

pub parted_none : (line : List ℕ) (place : ℕ) → length line ≤ place → IsPartedFrom line place → parted line ≡ None
unfolding parted
parted_none line place h so_far = so_far.same ∙ rw (drop_all place line h) refl

pub ruleset parting = (parted_start, parted_more, parted_found, parted_none)
