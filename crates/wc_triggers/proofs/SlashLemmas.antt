-- Texts up to a byte that ends them: a byte at a time, and that texts stay texts.
use Rattle.std.proofs.Common.{◌≡◌, ℕ, ◌<◌, ◌≤◌, Bool, true, false, ◌&&◌, List, [], ◌∷◌, ◌++◌, length, take, drop, get_or, ◌-◌, Option, Some, None, cond, refl, ap, sym, subst, ◌∙◌, arith, append_assoc, append-nil}
use Rattle.std.specs.Prelude.{◌==◌, IfSome}
use Rattle.std.specs.Str.{IsUtf8}
use Rattle.std.proofs.lemmas.Bool.{and_parts}
use Rattle.std.proofs.lemmas.Bool.Decides.{nat_tests}
use Rattle.std.proofs.lemmas.Str.{IsUtf8-append}
use Rattle.std.proofs.Math.Seq.{take-length}
use Rattle.wc_text.proofs.Utf8Lemmas.{utf8_parts}
use Rattle.wc_triggers.specs.Slashes.{is_marked, with_byte, unslashed, first_meant}

abbrev pub Read : Type 0
Read = List ℕ × Option (List ℕ)

-- what was read after a front
abbrev pub read_after : List ℕ → Read → Read
read_after front read = (front ++ read.0, read.1)

read_more : (front : List ℕ) (b : ℕ) (read : Read) → read_after (front ++ b ∷ []) read ≡ read_after front (with_byte b read)
read_more front b read = ap (λ word. (word, read.1)) (append_assoc front (b ∷ []) read.0)

pub read_none : (read : Read) → read_after [] read ≡ read
read_none (word, rest) = refl

abbrev others_of : List ℕ → List ℕ
others_of rest = take (length rest - 1) (drop 1 rest)

others_are : (b : ℕ) (text : List ℕ) → others_of (b ∷ text) ≡ text
others_are b text =
    let n : length (b ∷ text) - 1 ≡ length text = omega arith in
    ap (λ k. take k text) n ∙ take-length text

rest_is : (rest : List ℕ) → 1 ≤ length rest → rest ≡ get_or rest 0 0 ∷ others_of rest
rest_is [] some = absurd (omega (arith, some))
rest_is (b ∷ text) some = ap (λ l. b ∷ l) (sym (others_are b text))

pub less_others : (rest : List ℕ) → length (take (length rest - 1) (drop 1 rest)) ≤ length rest
less_others [] = omega arith
less_others (b ∷ text) = omega (arith, ap length (others_are b text))

module _ (stop : ℕ) (both : Bool) where
  -- at the byte that ends it
  stops : (b : ℕ) (text : List ℕ) → (b == stop) ≡ true → unslashed stop both (b ∷ text) ≡ ([], Some text)
  unfolding unslashed
  stops b [] e = rw e refl
  stops b (c ∷ text) e = rw e refl

  meant_by : (test : Bool) (b c : ℕ) (text : List ℕ) (read : List ℕ → Read) →
      cond test (with_byte c (read text)) (with_byte b (read (c ∷ text)))
      ≡ with_byte (cond {A = ℕ × List ℕ} test (c, text) (b, c ∷ text)).0 (read (cond {A = ℕ × List ℕ} test (c, text) (b, c ∷ text)).1)
  meant_by true b c text read = refl
  meant_by false b c text read = refl

  -- at another
  goes_on : (b : ℕ) (text : List ℕ) → (b == stop) ≡ false →
      unslashed stop both (b ∷ text) ≡ with_byte (first_meant stop both b text).0 (unslashed stop both (first_meant stop both b text).1)
  unfolding unslashed
  goes_on b [] e = rw e refl
  goes_on b (c ∷ text) e = rw e (meant_by (b == 92 && is_marked stop both c) b c text (unslashed stop both))

  -- the walk along the text: what was read, and what is still to be read
  pub stopped : (value text all : List ℕ) (b : ℕ) → (b == stop) ≡ true →
      read_after value (unslashed stop both (b ∷ text)) ≡ unslashed stop both all →
      ◌≡◌ {A = Read} (value, Some text) (unslashed stop both all)
  stopped value text all b e so_far =
      ap (λ word. (word, Some text)) (sym (append-nil value)) ∙ sym (ap (read_after value) (stops b text e)) ∙ so_far

  pub walked : (value text all : List ℕ) (b byte : ℕ) (following : List ℕ) → (b == stop) ≡ false →
      ◌≡◌ {A = ℕ × List ℕ} (byte, following) (first_meant stop both b text) →
      read_after value (unslashed stop both (b ∷ text)) ≡ unslashed stop both all →
      read_after (value ++ byte ∷ []) (unslashed stop both following) ≡ unslashed stop both all
  walked value text all b byte following e meant so_far =
      read_more value byte (unslashed stop both following)
      ∙ ap (λ (m : ℕ × List ℕ). read_after value (with_byte m.0 (unslashed stop both m.1))) meant
      ∙ sym (ap (read_after value) (goes_on b text e)) ∙ so_far

  pub ended : (value all : List ℕ) → read_after value (unslashed stop both []) ≡ unslashed stop both all →
      ◌≡◌ {A = Read} (value, None) (unslashed stop both all)
  unfolding unslashed
  ended value all so_far = ap (λ word. (word, None)) (sym (append-nil value)) ∙ so_far

  -- the same as the code has it: the first byte of what is left, and the others
  is_stop : (b : ℕ) → b ≡ stop → (b == stop) ≡ true
  is_stop b e = grind (arith, nat_tests)

  is_no_stop : (b : ℕ) → (b ≡ stop → ⊥) → (b == stop) ≡ false
  is_no_stop b e = grind (arith, nat_tests)

  pub stopped_at : (value rest all : List ℕ) → 1 ≤ length rest → get_or rest 0 0 ≡ stop →
      read_after value (unslashed stop both rest) ≡ unslashed stop both all →
      ◌≡◌ {A = Read} (value, Some (take (length rest - 1) (drop 1 rest))) (unslashed stop both all)
  stopped_at value rest all some first so_far =
      stopped value (others_of rest) all (get_or rest 0 0) (is_stop (get_or rest 0 0) first)
      (ap (λ l. read_after value (unslashed stop both l)) (sym (rest_is rest some)) ∙ so_far)

  pub walked_at : (value rest all new following : List ℕ) (byte : ℕ) → 1 ≤ length rest → (get_or rest 0 0 ≡ stop → ⊥) →
      ◌≡◌ {A = ℕ × List ℕ} (byte, following) (first_meant stop both (get_or rest 0 0) (take (length rest - 1) (drop 1 rest))) →
      new ≡ value ++ byte ∷ [] → read_after value (unslashed stop both rest) ≡ unslashed stop both all →
      read_after new (unslashed stop both following) ≡ unslashed stop both all
  walked_at value rest all new following byte some first meant made so_far =
      ap (λ v. read_after v (unslashed stop both following)) made
      ∙ walked value (others_of rest) all (get_or rest 0 0) byte following (is_no_stop (get_or rest 0 0) first) meant
      (ap (λ l. read_after value (unslashed stop both l)) (sym (rest_is rest some)) ∙ so_far)

  pub ended_at : (value rest all : List ℕ) → length rest < 1 → read_after value (unslashed stop both rest) ≡ unslashed stop both all →
      ◌≡◌ {A = Read} (value, None) (unslashed stop both all)
  ended_at value [] all none so_far = ended value all so_far
  ended_at value (b ∷ rest) all none so_far = absurd (omega (arith, none))

  -- ---- UTF-8

  abbrev ReadUtf8 : List ℕ → Read → Type 0
  ReadUtf8 front read = IsUtf8 (front ++ read.0) × IfSome read.1 IsUtf8

  choose : (test : Bool) (front : List ℕ) (a b : Read) → (test ≡ true → ReadUtf8 front a) → (test ≡ false → ReadUtf8 front b) → ReadUtf8 front (cond test a b)
  choose true front a b first second = first refl
  choose false front a b first second = second refl

  at_stop : (front : List ℕ) (b : ℕ) (text : List ℕ) → stop < 128 → IsUtf8 (front ++ b ∷ text) → (b == stop) ≡ true → ReadUtf8 front ([], Some text)
  at_stop front b text small utf8 e =
      let ascii : b < 128 = grind (arith, nat_tests) in
      let parts = utf8_parts front b text ascii utf8 in
      (subst IsUtf8 (sym (append-nil front)) parts.0, parts.1)

  taken : (front : List ℕ) (b : ℕ) (read : Read) → ReadUtf8 (front ++ b ∷ []) read → ReadUtf8 front (with_byte b read)
  taken front b read utf8 = (subst IsUtf8 (append_assoc front (b ∷ []) read.0) utf8.0, utf8.1)

  moved : (front : List ℕ) (b : ℕ) (text : List ℕ) → IsUtf8 (front ++ b ∷ text) → IsUtf8 ((front ++ b ∷ []) ++ text)
  moved front b text utf8 = subst IsUtf8 (sym (append_assoc front (b ∷ []) text)) utf8

  -- a backslash that is not meant goes
  without : (front : List ℕ) (b c : ℕ) (text : List ℕ) (mark : Bool) → IsUtf8 (front ++ b ∷ c ∷ text) → ((b == 92) && mark) ≡ true → IsUtf8 (front ++ c ∷ text)
  without front b c text mark utf8 e =
      let is : (b == 92) ≡ true = (and_parts (b == 92) mark e).0 in
      let ascii : b < 128 = grind (arith, nat_tests) in
      let parts = utf8_parts front b (c ∷ text) ascii utf8 in
      IsUtf8-append front (c ∷ text) parts.0 parts.1

  read_utf8 : (front text : List ℕ) → stop < 128 → IsUtf8 (front ++ text) → ReadUtf8 front (unslashed stop both text)
  unfolding unslashed
  read_utf8 front [] small utf8 = (utf8, tt)
  read_utf8 front (b ∷ []) small utf8 = choose (b == stop) front ([], Some []) (b ∷ [], None) (at_stop front b [] small utf8) (λ e. (utf8, tt))
  read_utf8 front (b ∷ c ∷ text) small utf8 =
      let mark = is_marked stop both c in
      let here = with_byte c (unslashed stop both text) in
      let plain = with_byte b (unslashed stop both (c ∷ text)) in
      choose (b == stop) front ([], Some (c ∷ text)) (cond (b == 92 && mark) here plain) (at_stop front b (c ∷ text) small utf8)
      (λ e. choose (b == 92 && mark) front here plain
      (λ m. taken front c (unslashed stop both text) (read_utf8 (front ++ c ∷ []) text small (moved front c text (without front b c text mark utf8 m))))
      (λ m. taken front b (unslashed stop both (c ∷ text)) (read_utf8 (front ++ b ∷ []) (c ∷ text) small (moved front b (c ∷ text) utf8))))

  pub unslashed_utf8 : (text : List ℕ) → stop < 128 → IsUtf8 text → IsUtf8 (unslashed stop both text).0 × IfSome (unslashed stop both text).1 IsUtf8
  unslashed_utf8 text small utf8 = read_utf8 [] text small utf8
