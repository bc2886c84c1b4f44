-- What a map by handles has after one entry is put in or taken out.
use Rattle.std.proofs.Common.{◌≡◌, ℕ, cond, eqb, Some, None, ap, ◌∙◌}
use Rattle.std.specs.FinMap.{FinMap, get, insert, remove, get-insert, get-remove}
use Rattle.std.specs.Ordering.{nat_cmp}
use Rattle.std.specs.Cmp.{nat_cmp_total}
use Rattle.wc_world.proofs.HeldLemmas.{tied}

pub get_put : {X : Type 0} (m : FinMap nat_cmp X) (k : ℕ) (x : X) (q : ℕ) → get (insert m k x) q ≡ cond (eqb q k) (Some x) (get m q)
get_put m k x q = get-insert nat_cmp_total m k x q ∙ ap (λ b. cond b (Some x) (get m q)) (tied q k)

pub get_taken : {X : Type 0} (m : FinMap nat_cmp X) (k q : ℕ) → get (remove m k) q ≡ cond (eqb q k) None (get m q)
get_taken m k q = get-remove nat_cmp_total m k q ∙ ap (λ b. cond b None (get m q)) (tied q k)
