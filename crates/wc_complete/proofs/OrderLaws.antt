-- Texts that were sorted, and of which each was then kept once.
use Rattle.std.proofs.Common.{◌≡◌, ℕ, Bool, true, List, refl, sym, ap, subst, ◌∙◌}
use Rattle.std.specs.Prelude.{Contains, bytes_eq}
use Rattle.std.specs.List.{dedup}
use Rattle.std.specs.List.Sorted.{IsPermutation, IsSortedBy, IsStrictlySortedBy}
use Rattle.std.specs.Cmp.{IsStrictWeakOrder}
use Rattle.std.specs.Cmp.Lexicographic.{bytes_decides}
use Rattle.std.specs.Ordering.{is_lt, is_eq, eq_by_cmp}
use Rattle.std.specs.declared.cmp.Ordering.{Ordering}
use Rattle.std.specs.declared.cmp.Ordering.TheVariants.{Less, Equal, Greater}
use Rattle.std.proofs.lemmas.Bool.{false≢true}
use Rattle.std.proofs.lemmas.Bool.Decides.{same_from_decides}
use Rattle.std.proofs.lemmas.Cmp.{nat_list_eq_equiv}
use Rattle.std.proofs.lemmas.List.Kept.{Contains-dedup, Contains-from_dedup, IsStrictlySortedBy-dedup}
use Rattle.std.proofs.lemmas.List.Sorted.{Contains-permutation, IsPermutation-sym, ranks_by}
use Rattle.wc_text.specs.Order.{fold_order}
use Rattle.wc_text.proofs.OrderLemmas.{fold_order_total, fold_order_itself, same_from_fold_order}
use Rattle.wc_complete.specs.Order.{IsInOrder}

abbrev pub is_below : List ℕ → List ℕ → Bool
is_below a b = is_lt (fold_order a b)

pub ranks : IsStrictWeakOrder is_below
ranks = ranks_by fold_order_total (λ x. x)

tied : (o : Ordering) → is_eq o ≡ true → o ≡ Equal
tied Less e = absurd (false≢true e)
tied Equal e = refl
tied Greater e = absurd (false≢true e)

ties : (a b : List ℕ) → bytes_eq a b ≡ eq_by_cmp fold_order a b
ties a b = same_from_decides (bytes_eq a b) (is_eq (fold_order a b)) (bytes_decides a b) (
  λ e. same_from_fold_order a b (tied (fold_order a b) e),
  λ e. ap is_eq (ap (fold_order a) (sym e) ∙ fold_order_itself a),
)

pub ordered_once : (xs ys zs : List (List ℕ)) → IsPermutation xs ys → IsSortedBy is_below ys → zs ≡ dedup bytes_eq ys → IsInOrder xs zs
ordered_once xs ys zs moves sorted e = record {
  same = λ text. (
    λ h. Contains-permutation ys xs text (IsPermutation-sym xs ys moves) (Contains-from_dedup bytes_eq ys text (subst (λ l. Contains l text) e h)),
    λ h. subst (λ l. Contains l text) (sym e) (Contains-dedup nat_list_eq_equiv (λ x y t. (bytes_decides x y).0 t) ys text (Contains-permutation xs ys text moves h)),
  );
  sorted = subst (IsStrictlySortedBy fold_order) (sym e) (IsStrictlySortedBy-dedup fold_order_total ties ys sorted);
}
