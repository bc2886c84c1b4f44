use Rattle.std.proofs.Common.{◌≡◌, false, List, ℕ, suc, [], ◌∷◌, length, Some, None, refl, sym, ◌∙◌, arith}
use Rattle.std.specs.Prelude.{◌==◌}
use Rattle.std.proofs.lemmas.Bool.Decides.{nat_tests}
use Rattle.wc_text.specs.Mask.{is_nothing}
use Rattle.wc_text.proofs.MaskLemmas.{whole_matches}
use Rattle.wc_text.proofs.masks.is_whole.Goals as goal

filled : (n : ℕ) → (suc n == 0) ≡ false
filled n = grind (arith, nat_tests)

empty_is_nothing : (rest : List ℕ) → (length rest == 0) ≡ is_nothing rest
empty_is_nothing [] = refl
empty_is_nothing (b ∷ rest) = filled (length rest)

pub returns-in-Some : goal.returns-in-Some
returns-in-Some c =
    c.is_empty.ensures ∙ empty_is_nothing c.in-Some.following.now
    ∙ sym (whole_matches c.args.fold c.args.mask.now c.args.text.now (Some c.in-Some.following.now) c.requires c.in-Some.ensures)

pub returns-in-None : goal.returns-in-None
returns-in-None c = sym (whole_matches c.args.fold c.args.mask.now c.args.text.now None c.requires c.in-None.ensures)
