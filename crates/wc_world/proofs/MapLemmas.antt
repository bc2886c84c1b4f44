-- A table by handles, seen as a map of what its values show.
use Rattle.std.proofs.Common.{◌≡◌, ℕ, Bool, true, false, cond, eqb, List, [], ◌∷◌, map, Option, Some, None, option_map, refl, sym, ◌∙◌, arith, eq-eqb, eqb-true}
use Rattle.std.specs.Prelude.{nat_eq}
use Rattle.std.specs.FinMap.{FinMap, from_entries, get, insert, remove, find, get-insert, get-remove, get-from_entries, same_map, nat_cmp-IsAntisymmetric}
use Rattle.std.specs.HashMap.{HashMap, get_by}
use Rattle.std.specs.Ordering.{nat_cmp, eq_by_cmp}
use Rattle.std.specs.Cmp.{nat_cmp_total, unsigned_tied}
use Rattle.std.specs.Map.{lookup}
use Rattle.std.proofs.lemmas.Bool.Decides.{nat_tests}
use Rattle.wc_buffers.proofs.GroupLaws.{by_bool}

pub tied : (q h : ℕ) → eq_by_cmp nat_cmp q h ≡ eqb q h
tied q h = unsigned_tied q h

pub eqb_turned : (a b : ℕ) → eqb a b ≡ eqb b a
eqb_turned a b = by_bool (eqb a b) _ (λ t. t ∙ sym (eq-eqb b a (sym (eqb-true a b t)))) (λ t. t ∙ sym (let z : eqb b a ≡ false = grind (arith, nat_tests) in z))

pub alike : {Y : Type 0} (m n : FinMap nat_cmp Y) → ((q : ℕ) → get m q ≡ get n q) → m ≡ n
alike m n is = same_map nat_cmp_total nat_cmp-IsAntisymmetric m n is

module _ {X Y : Type 0} (f : X → Y) where
  -- what the values show, by their keys
  abbrev pub shown_map : {S : Type 0} → HashMap ℕ X S → FinMap nat_cmp Y
  shown_map m = from_entries (map (λ e. (e.0, f e.1)) m.entries)

  find_shown : (q : ℕ) (es : List (ℕ × X)) → find nat_cmp q (map (λ e. (e.0, f e.1)) es) ≡ option_map f (lookup (eqb q) es)
  find_shown q [] = refl
  find_shown q (e ∷ es) = by_bool (eqb q e.0) _
      (λ t. rw (tied q e.0, t) refl)
      (λ t. rw (tied q e.0, t) (find_shown q es))

  pub get_shown : {S : Type 0} (m : HashMap ℕ X S) (q : ℕ) → get (shown_map m) q ≡ option_map f (get_by (nat_eq q) m)
  get_shown m q = get-from_entries nat_cmp_total (map (λ e. (e.0, f e.1)) m.entries) q ∙ find_shown q m.entries

  module _ {S T : Type 0} (m : HashMap ℕ X S) (n : HashMap ℕ X T) where
    pub same_shown : ((q : ℕ) → option_map f (get_by (nat_eq q) n) ≡ option_map f (get_by (nat_eq q) m)) → shown_map n ≡ shown_map m
    same_shown is = alike (shown_map n) (shown_map m) (λ q. get_shown n q ∙ is q ∙ sym (get_shown m q))

    turned_at : (h : ℕ) (o : Option Y) (q : ℕ) → cond (eqb h q) o (option_map f (get_by (nat_eq q) m)) ≡ cond (eq_by_cmp nat_cmp q h) o (get (shown_map m) q)
    turned_at h o q =
        let test : eqb h q ≡ eq_by_cmp nat_cmp q h = eqb_turned h q ∙ sym (tied q h) in
        λ i. cond (test i) o (sym (get_shown m q) i)

    pub put_shown : (h : ℕ) (y : Y) → ((q : ℕ) → option_map f (get_by (nat_eq q) n) ≡ cond (eqb h q) (Some y) (option_map f (get_by (nat_eq q) m))) → shown_map n ≡ insert (shown_map m) h y
    put_shown h y is = alike (shown_map n) (insert (shown_map m) h y) each
      where
        each : (q : ℕ) → get (shown_map n) q ≡ get (insert (shown_map m) h y) q
        each q = get_shown n q ∙ is q ∙ turned_at h (Some y) q ∙ sym (get-insert nat_cmp_total (shown_map m) h y q)

    pub removed_shown : (h : ℕ) → ((q : ℕ) → option_map f (get_by (nat_eq q) n) ≡ cond (eqb h q) None (option_map f (get_by (nat_eq q) m))) → shown_map n ≡ remove (shown_map m) h
    removed_shown h is = alike (shown_map n) (remove (shown_map m) h) each
      where
        each : (q : ℕ) → get (shown_map n) q ≡ get (remove (shown_map m) h) q
        each q = get_shown n q ∙ is q ∙ turned_at h None q ∙ sym (get-remove nat_cmp_total (shown_map m) h q)

pub map_in_cond : {X Y : Type 0} (f : X → Y) (b : Bool) (o p : Option X) → option_map f (cond b o p) ≡ cond b (option_map f o) (option_map f p)
map_in_cond f true o p = refl
map_in_cond f false o p = refl
