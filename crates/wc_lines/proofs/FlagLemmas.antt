-- A list that is changed from the front, one element after another.
use Rattle.std.proofs.Common.{◌≡◌, ℕ, zero, suc, ◌+◌, ◌<◌, Bool, List, [], ◌∷◌, ◌++◌, map, take, drop, length, get_or, set, Option, Some, None, ap, ◌∙◌, arith}
use Rattle.std.specs.Prelude.{All}
use Rattle.std.proofs.lemmas.List.Elements.{All-map}
use Rattle.wc_lines.specs.declared.line.Line.{Line}
use Rattle.wc_lines.specs.Flags.{set_flag, with_own_flag}
use Rattle.wc_lines.specs.LineText.{HasUtf8Texts}

module _ {A : Type 0} (F : A → A) where
  abbrev pub so_far : ℕ → List A → List A
  so_far n xs = map F (take n xs) ++ drop n xs

  next_by : (n : ℕ) (xs : List A) (x : A) → n < length xs → x ≡ get_or (so_far n xs) n x → set (so_far n xs) n (F x) ≡ so_far (suc n) xs
  next_by n [] x inside is = absurd (omega arith)
  next_by zero (y ∷ ys) x inside is = ap (λ z. F z ∷ ys) is
  next_by (suc n) (y ∷ ys) x inside is = ap (λ zs. F y ∷ zs) (next_by n ys x (omega arith) is)

  pub next : (n : ℕ) (xs : List A) (x : A) → n < length xs → x ≡ get_or (so_far n xs) n x → set (so_far n xs) n (F x) ≡ so_far (n + 1) xs
  next n xs x inside is = let one : suc n ≡ n + 1 = omega arith in next_by n xs x inside is ∙ ap (λ m. so_far m xs) one

-- ---- the flag is no text

set_text : (flag : Option Bool) (line : Line) → HasUtf8Texts line → HasUtf8Texts (set_flag flag line)
set_text None line text = text
set_text (Some on) line text = record { tags = text.tags; prefix = text.prefix; message = text.message }

pub all_flagged : (flags : ℕ → Option Bool) (lines : List Line) → All HasUtf8Texts lines → All HasUtf8Texts (map (with_own_flag flags) lines)
all_flagged flags lines all = All-map HasUtf8Texts (with_own_flag flags) lines (λ k d inside. set_text (flags (get_or lines k d).content.0) (get_or lines k d) (all k d inside))
