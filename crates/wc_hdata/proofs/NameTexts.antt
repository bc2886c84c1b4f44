-- The name of a buffer without its plugin is text.
use Rattle.std.proofs.Common.{◌≡◌, ℕ, ◌+◌, ◌<◌, List, [], ◌∷◌, ◌++◌, length, get_or, refl, arith, Option, Some, None, subst, length-append}
use Rattle.std.specs.Prelude.{unwrap_or}
use Rattle.std.proofs.Math.Seq.{drop-append-add}
use Rattle.std.proofs.lemmas.Str.{IsUtf8-drop, IsCharBoundary-after_ascii}
use Rattle.std.specs.Str.{IsUtf8}
use Rattle.wc_text.specs.Splits.{before, text_after}
use Rattle.wc_text.proofs.WordLemmas.{cut_after}
use Rattle.wc_events.specs.BufferObjects.{bare_name}

get_or-seam : (front rest : List ℕ) (b : ℕ) → get_or (front ++ b ∷ rest) (length front) 0 ≡ b
get_or-seam [] rest b = refl
get_or-seam (c ∷ front) rest b = get_or-seam front rest b

-- what comes after an ASCII byte
after_ascii : (front : List ℕ) (b : ℕ) (rest : List ℕ) → b < 128 → IsUtf8 (front ++ b ∷ rest) → IsUtf8 rest
after_ascii front b rest ascii utf8 =
    let inside : length front < length (front ++ b ∷ rest) = omega (arith, length-append front (b ∷ rest)) in
    let small : get_or (front ++ b ∷ rest) (length front) 0 < 128 = omega (arith, get_or-seam front rest b) in
    subst IsUtf8 (drop-append-add front (b ∷ rest) 1) (IsUtf8-drop (front ++ b ∷ rest) (length front + 1) utf8 (IsCharBoundary-after_ascii (front ++ b ∷ rest) (length front) utf8 inside small))

pub bare_name_text : (full_name : List ℕ) → IsUtf8 full_name → IsUtf8 (bare_name full_name)
bare_name_text full_name utf8 = by (text_after 46 full_name) refl where
  by : (o : Option (List ℕ)) → text_after 46 full_name ≡ o → IsUtf8 (unwrap_or o full_name)
  by None at = utf8
  by (Some rest) at = after_ascii (before 46 full_name) 46 rest (omega arith) (subst IsUtf8 (cut_after 46 full_name rest at) utf8)
