-- The first reason that holds is the refusal.
use Rattle.std.proofs.Common.{◌≡◌, ℕ, zero, suc, ◌<◌, ◌≤◌, Bool, true, false, ◌&&◌, ◌||◌, Option, Some, None, List, length, refl, sym, ap, ◌∙◌, arith}
use Rattle.std.specs.Prelude.{◌==◌, nat_lt, is_some, is_none}
use Rattle.std.proofs.lemmas.Bool.{true≢false}
use borrow.Author.Tests.{ltb-false}
use Rattle.wc_nicklist.specs.declared.item.Row.{Row}
use Rattle.wc_nicklist.specs.declared.refused.NickRefused.{NickRefused}
use Rattle.wc_nicklist.specs.declared.refused.NickRefused.TheVariants.{IsRoot, BadName, NoParent, NameTaken, NoSuch, NotEmpty}
use Rattle.wc_nicklist.specs.Calls.{is_bad_name, when, or_else, name_refusal, add_refusal, has_children, remove_refusal, change_refusal}
use Rattle.wc_nicklist.specs.Order.{key_at}
use Rattle.wc_nicklist.specs.Rows.{find_row, is_root, path_below}

or_right : (a b : Bool) → a || b ≡ false → b ≡ false
or_right true b e = absurd (true≢false e)
or_right false b e = e

filled : (n : ℕ) → (n == 0) || nat_lt 64 n ≡ false → (0 < n) × (n ≤ 64)
filled zero e = absurd (true≢false e)
filled (suc n) e = (omega arith, ltb-false 64 (suc n) (or_right (suc n == 0) (nat_lt 64 (suc n)) e))

-- what an accepted name is
pub record IsName (is_group : Bool) (name : List ℕ) : Type 0 where
  pub bounds : (0 < length name) × (length name ≤ 64)
  pub no_root : (is_group && is_root name) ≡ false

pub is_name : (is_group : Bool) (name : List ℕ) → name_refusal is_group name ≡ None → IsName is_group name
unfolding name_refusal
is_name g name e = go (g && is_root name) (is_bad_name name) refl refl e
  where
    go : (root bad : Bool) → (g && is_root name) ≡ root → is_bad_name name ≡ bad → or_else (when root IsRoot) (when bad (BadName (length name))) ≡ None → IsName g name
    go true bad r b e = absurd cc
    go false true r b e = absurd cc
    go false false r b e = record { bounds = filled (length name) b; no_root = r }

module _ (g : Bool) (name : List ℕ) (rows : List Row) where
  pub add_named : (parent : List ℕ) (e : NickRefused) → name_refusal g name ≡ Some e → add_refusal g parent name rows ≡ Some e
  unfolding add_refusal
  add_named parent e n = ap (λ o. or_else o (or_else (when (is_none (path_below parent rows)) (NoParent parent)) (when (is_some (find_row (key_at g name) rows)) (NameTaken name)))) n

  pub add_orphan : (parent : List ℕ) → name_refusal g name ≡ None → is_some (path_below parent rows) ≡ false → add_refusal g parent name rows ≡ Some (NoParent parent)
  unfolding add_refusal
  add_orphan parent n p = go (path_below parent rows) (find_row (key_at g name) rows) p (name_refusal g name) n
    where
      go : (o : Option (List (List ℕ))) (f : Option Row) → is_some o ≡ false → (r : Option NickRefused) → r ≡ None → or_else r (or_else (when (is_none o) (NoParent parent)) (when (is_some f) (NameTaken name))) ≡ Some (NoParent parent)
      go None f p None n = refl
      go None f p (Some e) n = absurd cc
      go (Some path) f p r n = absurd (true≢false p)

  pub add_taken : (parent : List ℕ) → name_refusal g name ≡ None → is_some (path_below parent rows) ≡ true → is_some (find_row (key_at g name) rows) ≡ true → add_refusal g parent name rows ≡ Some (NameTaken name)
  unfolding add_refusal
  add_taken parent n p t = go (path_below parent rows) (find_row (key_at g name) rows) p t (name_refusal g name) n
    where
      go : (o : Option (List (List ℕ))) (f : Option Row) → is_some o ≡ true → is_some f ≡ true → (r : Option NickRefused) → r ≡ None → or_else r (or_else (when (is_none o) (NoParent parent)) (when (is_some f) (NameTaken name))) ≡ Some (NameTaken name)
      go None f p t r n = absurd (true≢false (sym p))
      go (Some path) None p t r n = absurd (true≢false (sym t))
      go (Some path) (Some row) p t None n = refl
      go (Some path) (Some row) p t (Some e) n = absurd cc

  pub add_accepted : (parent : List ℕ) → name_refusal g name ≡ None → is_some (path_below parent rows) ≡ true → is_some (find_row (key_at g name) rows) ≡ false → add_refusal g parent name rows ≡ None
  unfolding add_refusal
  add_accepted parent n p t = go (path_below parent rows) (find_row (key_at g name) rows) p t (name_refusal g name) n
    where
      go : (o : Option (List (List ℕ))) (f : Option Row) → is_some o ≡ true → is_some f ≡ false → (r : Option NickRefused) → r ≡ None → or_else r (or_else (when (is_none o) (NoParent parent)) (when (is_some f) (NameTaken name))) ≡ None
      go None f p t r n = absurd (true≢false (sym p))
      go (Some path) (Some row) p t r n = absurd (true≢false t)
      go (Some path) None p t None n = refl
      go (Some path) None p t (Some e) n = absurd cc

  pub remove_named : (e : NickRefused) → name_refusal g name ≡ Some e → remove_refusal g name rows ≡ Some e
  unfolding remove_refusal
  remove_named e n = ap (λ o. or_else o (or_else (when (is_none (find_row (key_at g name) rows)) (NoSuch name)) (when (g && has_children (find_row (key_at g name) rows) rows) (NotEmpty name)))) n

  pub remove_absent : name_refusal g name ≡ None → find_row (key_at g name) rows ≡ None → remove_refusal g name rows ≡ Some (NoSuch name)
  unfolding remove_refusal
  remove_absent n f = (λ i. or_else (n i) (or_else (when (is_none (f i)) (NoSuch name)) (when (g && has_children (f i) rows) (NotEmpty name))))

  pub remove_filled : (r : Row) → name_refusal g name ≡ None → find_row (key_at g name) rows ≡ Some r → (g && has_children (Some r) rows) ≡ true → remove_refusal g name rows ≡ Some (NotEmpty name)
  unfolding remove_refusal
  remove_filled r n f h = (λ i. or_else (n i) (or_else (when (is_none (f i)) (NoSuch name)) (when (g && has_children (f i) rows) (NotEmpty name)))) ∙ ap (λ b. when b (NotEmpty name)) h

  pub remove_accepted : (r : Row) → name_refusal g name ≡ None → find_row (key_at g name) rows ≡ Some r → (g && has_children (Some r) rows) ≡ false → remove_refusal g name rows ≡ None
  unfolding remove_refusal
  remove_accepted r n f h = (λ i. or_else (n i) (or_else (when (is_none (f i)) (NoSuch name)) (when (g && has_children (f i) rows) (NotEmpty name)))) ∙ ap (λ b. when b (NotEmpty name)) h

  pub change_named : (e : NickRefused) → name_refusal g name ≡ Some e → change_refusal g name rows ≡ Some e
  unfolding change_refusal
  change_named e n = ap (λ o. or_else o (when (is_none (find_row (key_at g name) rows)) (NoSuch name))) n

  pub change_absent : name_refusal g name ≡ None → is_some (find_row (key_at g name) rows) ≡ false → change_refusal g name rows ≡ Some (NoSuch name)
  unfolding change_refusal
  change_absent n f = go (find_row (key_at g name) rows) f (name_refusal g name) n
    where
      go : (o : Option Row) → is_some o ≡ false → (r : Option NickRefused) → r ≡ None → or_else r (when (is_none o) (NoSuch name)) ≡ Some (NoSuch name)
      go None f None n = refl
      go None f (Some e) n = absurd cc
      go (Some row) f r n = absurd (true≢false f)

  pub change_accepted : name_refusal g name ≡ None → is_some (find_row (key_at g name) rows) ≡ true → change_refusal g name rows ≡ None
  unfolding change_refusal
  change_accepted n f = go (find_row (key_at g name) rows) f (name_refusal g name) n
    where
      go : (o : Option Row) → is_some o ≡ true → (r : Option NickRefused) → r ≡ None → or_else r (when (is_none o) (NoSuch name)) ≡ None
      go None f r n = absurd (true≢false (sym f))
      go (Some row) f None n = refl
      go (Some row) f (Some e) n = absurd cc

-- What holds where nothing is refused.
or_first : (a b : Option NickRefused) → or_else a b ≡ None → a ≡ None
or_first None b e = refl
or_first (Some a) b e = absurd cc

or_second : (a b : Option NickRefused) → or_else a b ≡ None → b ≡ None
or_second None b e = e
or_second (Some a) b e = absurd cc

when_not : (b : Bool) (e : NickRefused) → when b e ≡ None → b ≡ false
when_not true e n = absurd cc
when_not false e n = refl

module _ (g : Bool) (name : List ℕ) (rows : List Row) where
  pub record MayAdd (above : List ℕ) : Type 0 where
    pub named : name_refusal g name ≡ None
    pub parent : is_some (path_below above rows) ≡ true
    pub absent : find_row (key_at g name) rows ≡ None

  pub may_add : (parent : List ℕ) → add_refusal g parent name rows ≡ None → MayAdd parent
  unfolding add_refusal
  may_add parent e =
      let following = or_second (name_refusal g name) _ e in
      let orphan = or_first (when (is_none (path_below parent rows)) (NoParent parent)) _ following in
      let taken = or_second (when (is_none (path_below parent rows)) (NoParent parent)) _ following in
      record {
        named = or_first (name_refusal g name) _ e;
        parent = stands (path_below parent rows) (when_not _ _ orphan);
        absent = lacks (find_row (key_at g name) rows) (when_not _ _ taken);
      }
    where
      stands : {A : Type 0} (o : Option A) → is_none o ≡ false → is_some o ≡ true
      stands None t = absurd (true≢false t)
      stands (Some x) t = refl

      lacks : {A : Type 0} (o : Option A) → is_some o ≡ false → o ≡ None
      lacks None t = refl
      lacks (Some x) t = absurd (true≢false t)

  there : (o : Option Row) → is_none o ≡ false → is_some o ≡ true
  there None t = absurd (true≢false t)
  there (Some x) t = refl

  pub record MayRemove : Type 0 where
    pub stands : is_some (find_row (key_at g name) rows) ≡ true
    pub childless : g ≡ true → has_children (find_row (key_at g name) rows) rows ≡ false

  pub may_remove : remove_refusal g name rows ≡ None → MayRemove
  unfolding remove_refusal
  may_remove e =
      let following = or_second (name_refusal g name) _ e in
      record {
        stands = there (find_row (key_at g name) rows) (when_not _ _ (or_first (when (is_none (find_row (key_at g name) rows)) (NoSuch name)) _ following));
        childless = empty g (has_children (find_row (key_at g name) rows) rows) (when_not _ _ (or_second (when (is_none (find_row (key_at g name) rows)) (NoSuch name)) _ following));
      }
    where
      empty : (a b : Bool) → (a && b) ≡ false → a ≡ true → b ≡ false
      empty true b e t = e
      empty false b e t = absurd (true≢false (sym t))

  pub may_change : change_refusal g name rows ≡ None → is_some (find_row (key_at g name) rows) ≡ true
  unfolding change_refusal
  may_change e = there (find_row (key_at g name) rows) (when_not _ _ (or_second (name_refusal g name) _ e))
