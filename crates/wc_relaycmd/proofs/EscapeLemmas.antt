-- Texts whose escapes are read.
use Rattle.std.proofs.Common.{◌≡◌, ℕ, List, [], ◌∷◌, ◌++◌, refl, ap, sym, ◌∙◌, arith, eqb, Bool, true, false, cond, append_assoc, length, ◌<◌, ◌≤◌, ◌&&◌}
use Rattle.std.proofs.lemmas.Bool.{false≢true}
use Rattle.std.proofs.lemmas.Bool.Decides.{nat_tests}
use Rattle.wc_text.specs.Splits.{before, onward}
use Rattle.wc_text.proofs.SplitLemmas.{before-onward}
use Rattle.wc_relaycmd.specs.Escapes.{without_escapes}

-- up to its first `\` a text means itself
pub unescaped_cut : (text : List ℕ) → before 92 text ++ without_escapes (onward 92 text) ≡ without_escapes text
unescaped_cut [] = refl
unescaped_cut (b ∷ []) = grind (arith, nat_tests)
unescaped_cut (b ∷ c ∷ text) = by (eqb b 92) refl (unescaped_cut (c ∷ text)) where
  by : (t : Bool) → eqb b 92 ≡ t → before 92 (c ∷ text) ++ without_escapes (onward 92 (c ∷ text)) ≡ without_escapes (c ∷ text) → before 92 (b ∷ c ∷ text) ++ without_escapes (onward 92 (b ∷ c ∷ text)) ≡ without_escapes (b ∷ c ∷ text)
  by true e rest = ap (λ t. cond t [] (b ∷ before 92 (c ∷ text)) ++ without_escapes (cond t (b ∷ c ∷ text) (onward 92 (c ∷ text)))) e
  by false e rest =
      ap (λ t. cond t [] (b ∷ before 92 (c ∷ text)) ++ without_escapes (cond t (b ∷ c ∷ text) (onward 92 (c ∷ text)))) e ∙ ap (λ t. b ∷ t) rest ∙
      sym (ap (λ t. cond (t && eqb c 92) (92 ∷ without_escapes text) (cond (t && eqb c 110) (10 ∷ without_escapes text) (b ∷ without_escapes (c ∷ text)))) e)

-- what is read so far, and a run and what is at the front after it
pub unescaped_more : (plain with_run new run rest back front more text : List ℕ) → plain ++ without_escapes rest ≡ without_escapes text → run ≡ before 92 rest → back ≡ onward 92 rest →
    without_escapes back ≡ front ++ without_escapes more → with_run ≡ plain ++ run → new ≡ with_run ++ front → new ++ without_escapes more ≡ without_escapes text
unescaped_more plain with_run new run rest back front more text so_far cut text_after read first second =
    ap (λ t. t ++ without_escapes more) (second ∙ ap (λ t. t ++ front) (first ∙ ap (λ r. plain ++ r) cut)) ∙
    append_assoc (plain ++ before 92 rest) front (without_escapes more) ∙ ap (λ t. (plain ++ before 92 rest) ++ t) (sym read ∙ ap without_escapes text_after) ∙
    append_assoc plain (before 92 rest) (without_escapes (onward 92 rest)) ∙ ap (λ t. plain ++ t) (unescaped_cut rest) ∙ so_far

-- each turn leaves less
pub shrinks : (rest back more : List ℕ) (empty : Bool) → empty ≡ eqb (length rest) 0 → empty ≡ false → length back ≤ length rest → length more ≤ length back → (0 < length back → length more < length back) → length more < length rest
shrinks [] back more empty is some within less moves = absurd (false≢true (sym some ∙ is))
shrinks (b ∷ rest) [] more empty is some within less moves = omega arith
shrinks (b ∷ rest) (c ∷ back) more empty is some within less moves = let shorter : length more < length (c ∷ back) = moves (omega arith) in omega arith

-- a text without a `\` means itself
pub unescaped-plain : (text : List ℕ) → onward 92 text ≡ [] → without_escapes text ≡ text
unescaped-plain text none =
    sym (unescaped_cut text) ∙ ap (λ t. before 92 text ++ without_escapes t) none ∙ ap (λ t. before 92 text ++ t) (sym none) ∙ before-onward 92 text
