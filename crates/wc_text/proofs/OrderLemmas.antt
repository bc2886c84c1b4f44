-- The order of texts with case ignored is a total one.
use Rattle.std.proofs.Common.{◌≡◌, ℕ, List, [], ◌∷◌, refl, ap₂, arith}
use Rattle.std.specs.declared.cmp.Ordering.{Ordering}
use Rattle.std.specs.declared.cmp.Ordering.TheVariants.{Less, Equal, Greater}
use Rattle.std.specs.Ordering.{nat_cmp, ordering_then}
use Rattle.std.specs.Cmp.{IsTotalOrder}
use Rattle.std.proofs.lemmas.Cmp.{then_total, on_total, nat_list_cmp_total, tied_itself}
use Rattle.std.proofs.lemmas.Bool.Decides.{nat_tests}
use Rattle.wc_text.specs.Order.{lower_case, byte_order, fold_order}

-- `antisymm`, `trans` and `congr` of std's order laws
pub fold_order_total : IsTotalOrder fold_order
unfolding fold_order
fold_order_total = then_total (on_total lower_case nat_list_cmp_total) nat_list_cmp_total

pub fold_order_itself : (a : List ℕ) → fold_order a a ≡ Equal
fold_order_itself a = tied_itself fold_order_total a

then_equal : (o p : Ordering) → ordering_then o p ≡ Equal → p ≡ Equal
then_equal Less p e = cc
then_equal Equal p e = e
then_equal Greater p e = cc

first_equal : (o p : Ordering) → ordering_then o p ≡ Equal → o ≡ Equal
first_equal Less p e = cc
first_equal Equal p e = refl
first_equal Greater p e = cc

same_number : (x y : ℕ) → nat_cmp x y ≡ Equal → x ≡ y
same_number x y e = grind (arith, nat_tests)

same_bytes : (a b : List ℕ) → byte_order a b ≡ Equal → a ≡ b
same_bytes [] [] e = refl
same_bytes [] (y ∷ b) e = cc
same_bytes (x ∷ a) [] e = cc
same_bytes (x ∷ a) (y ∷ b) e = ap₂ (λ z c. z ∷ c) (same_number x y (first_equal _ _ e)) (same_bytes a b (then_equal (nat_cmp x y) _ e))

-- only equal texts are tied
pub same_from_fold_order : (a b : List ℕ) → fold_order a b ≡ Equal → a ≡ b
unfolding fold_order
same_from_fold_order a b e = same_bytes a b (then_equal (byte_order (lower_case a) (lower_case b)) _ e)
