-- Each root that a client holds is that of its buffer, and each nicklist with rows has one.
use Rattle.std.proofs.Common.{◌≡◌, ◌≢◌, ℕ, ◌+◌, Bool, true, false, cond, ◌||◌, ◌⊎◌, inl, inr, eqb, eq-eqb, eqb-true, List, [], ◌∷◌, ◌++◌, map, Option, Some, None, is_some, unwrap_or, refl, sym, ap, subst, ◌∙◌, arith}
use Rattle.std.specs.FinMap.{get, insert, remove, empty, get-empty}
use Rattle.std.specs.List.{AllByRecursion, flat_map}
use Rattle.std.specs.Ordering.{nat_cmp}
use Rattle.std.proofs.lemmas.Bool.{false≢true}
use Rattle.std.proofs.lemmas.Bool.Decides.{nat_tests}
use Rattle.wc_nicklist.specs.declared.item.Item.{Item}
use Rattle.wc_nicklist.specs.declared.item.Row.{Row}
use Rattle.wc_nicklist.specs.Rows.{IsRows}
use Rattle.wc_nickdiff.specs.NickPush.{root_item, full_list}
use Rattle.wc_buffers.specs.declared.row.BufferEntry.{BufferEntry}
use Rattle.wc_buffers.specs.Calls.{handle_of}
use Rattle.wc_buffers.specs.Groups.{in_group}
use Rattle.wc_model.specs.World.{World, rows_at, root_at}
use Rattle.wc_board.specs.Told.{Told, told_of}
use Rattle.wc_view.specs.NickFold.{is_root_item}
use Rattle.wc_mirror_laws.specs.Roots.{RootPart, with_item, with_items, HasRoots}
use Rattle.wc_mirror_laws.proofs.MapLemmas.{get_put, get_taken}
use Rattle.wc_mirror_laws.proofs.NickRows.{all_found}
use Rattle.wc_mirror_laws.proofs.NickWorlds.{told_put, told_taken}

-- Each root is that of its buffer, which is one of some, and each of some others has one.
pub record RootsFor (some others : ℕ → Type 0) (roots : RootPart) : Type 0 where
  pub own : (buffer root : ℕ) → get roots buffer ≡ Some root → root ≡ buffer + 3
  pub among : (buffer : ℕ) → is_some (get roots buffer) ≡ true → some buffer
  pub filled : (buffer : ℕ) → others buffer → is_some (get roots buffer) ≡ true

-- it is the buffer, or one of these
abbrev Or : ℕ → (ℕ → Type 0) → ℕ → Type 0
Or k filled q = (eqb q k ≡ true) ⊎ filled q

weaker : (a b f g : ℕ → Type 0) (roots : RootPart) → ((q : ℕ) → a q → b q) → ((q : ℕ) → g q → f q) → RootsFor a f roots → RootsFor b g roots
weaker a b f g roots more less are = record {
  own = are.own;
  among = λ q some. more q (are.among q some);
  filled = λ q is. are.filled q (less q is);
}

put_for : (a f : ℕ → Type 0) (k : ℕ) (roots : RootPart) → a k → RootsFor a f roots → RootsFor a (Or k f) (insert roots k (k + 3))
put_for a f k roots here are = record {
  own = λ q root at. own q root (eqb q k) refl (sym (get_put roots k (k + 3) q) ∙ at);
  among = λ q some. among q (eqb q k) refl (sym (ap is_some (get_put roots k (k + 3) q)) ∙ some);
  filled = λ q is. ap is_some (get_put roots k (k + 3) q) ∙ filled q (eqb q k) refl is;
}
  where
    own : (q root : ℕ) (b : Bool) → eqb q k ≡ b → cond b (Some (k + 3)) (get roots q) ≡ Some root → root ≡ q + 3
    own q root true e at =
        let same : q ≡ k = eqb-true q k e in
        let is : k + 3 ≡ root = (let z = at in cc) in
        omega (arith, same, is)
    own q root false e at = are.own q root at

    among : (q : ℕ) (b : Bool) → eqb q k ≡ b → is_some (cond b (Some (k + 3)) (get roots q)) ≡ true → a q
    among q true e some = subst a (sym (eqb-true q k e)) here
    among q false e some = are.among q some

    filled : (q : ℕ) (b : Bool) → eqb q k ≡ b → Or k f q → is_some (cond b (Some (k + 3)) (get roots q)) ≡ true
    filled q true e is = refl
    filled q false e (inl t) = absurd (false≢true (sym e ∙ t))
    filled q false e (inr is) = are.filled q is

-- ---- items

-- where an item is a root it is that of the buffer
abbrev pub IsOwn : ℕ → Item → Type 0
IsOwn buffer item = is_root_item item ≡ true → item.handle.0 ≡ buffer + 3

pub rows_own : (buffer : ℕ) (rows : List Row) → IsRows rows → AllByRecursion (λ (r : Row). IsOwn buffer r.item) rows
rows_own buffer rows held = all_found (λ (r : Row). IsOwn buffer r.item) rows held.keyed
    (λ k r e root. absurd (false≢true (sym (held.held k r e).no_root ∙ root)))

item_for : (a f : ℕ → Type 0) (buffer : ℕ) (item : Item) (roots : RootPart) → a buffer → IsOwn buffer item → RootsFor a f roots → RootsFor a f (with_item buffer item roots)
item_for a f buffer item roots here own are = by (is_root_item item) refl
  where
    by : (b : Bool) → is_root_item item ≡ b → RootsFor a f (cond b (insert roots buffer item.handle.0) roots)
    by true e =
        subst (λ n. RootsFor a f (insert roots buffer n)) (sym (own e))
        (weaker a a (Or buffer f) f (insert roots buffer (buffer + 3)) (λ q x. x) (λ q x. inr x) (put_for a f buffer roots here are))
    by false e = are

abbrev pub IsRight : (ℕ → Type 0) → ℕ × Item → Type 0
IsRight a told = a told.0 × IsOwn told.0 told.1

items_for : (a f : ℕ → Type 0) (told : List (ℕ × Item)) (roots : RootPart) → AllByRecursion (IsRight a) told → RootsFor a f roots → RootsFor a f (with_items told roots)
items_for a f [] roots right are = are
items_for a f (t ∷ told) roots right are = items_for a f told (with_item t.0 t.1 roots) right.1 (item_for a f t.0 t.1 roots right.0.0 right.0.1 are)

-- the items of a buffer
abbrev pub at_buffer : ℕ → List Item → List (ℕ × Item)
at_buffer buffer items = map (λ (i : Item). (buffer, i)) items

rows_right : (a : ℕ → Type 0) (buffer : ℕ) (rows : List Row) → a buffer → AllByRecursion (λ (r : Row). IsOwn buffer r.item) rows → AllByRecursion (IsRight a) (at_buffer buffer (map (λ (r : Row). r.item) rows))
rows_right a buffer [] here own = tt
rows_right a buffer (r ∷ rows) here own = ((here, own.0), rows_right a buffer rows here own.1)

-- a whole list tells the root first
full_for : (a f : ℕ → Type 0) (buffer : ℕ) (rows : List Row) (roots : RootPart) → a buffer → IsRows rows → RootsFor a f roots
    → RootsFor a (Or buffer f) (with_items (at_buffer buffer (full_list (root_item (root_at buffer)) rows)) roots)
full_for a f buffer rows roots here held are =
    items_for a (Or buffer f) (at_buffer buffer (map (λ (r : Row). r.item) rows)) (insert roots buffer (buffer + 3)) (rows_right a buffer rows here (rows_own buffer rows held)) (put_for a f buffer roots here are)

-- ---- what was told

abbrev pub IsAmong : Told → ℕ → Type 0
IsAmong told q = is_some (get told q) ≡ true

abbrev IsFilled : Told → ℕ → Type 0
IsFilled told q = told_of told q ≢ []

to_roots : (roots : RootPart) (told : Told) → RootsFor (IsAmong told) (IsFilled told) roots → HasRoots roots told
to_roots roots told are = record { own = are.own; there = are.among; filled = are.filled }

of_roots : (roots : RootPart) (told : Told) → HasRoots roots told → RootsFor (IsAmong told) (IsFilled told) roots
of_roots roots told has = record { own = has.own; among = has.there; filled = has.filled }

among_put : (told : Told) (k : ℕ) (rows : List Row) (q : ℕ) → IsAmong told q → IsAmong (insert told k rows) q
among_put told k rows q some = ap is_some (get_put told k rows q) ∙ by (eqb q k) where
  by : (b : Bool) → is_some (cond b (Some rows) (get told q)) ≡ true
  by true = refl
  by false = some

-- other rows of a buffer
filled_put : (told : Told) (k : ℕ) (rows : List Row) (q : ℕ) → IsFilled (insert told k rows) q → Or k (IsFilled told) q
filled_put told k rows q is = by (eqb q k) refl (λ none. is (told_put told k rows q ∙ none)) where
  by : (b : Bool) → eqb q k ≡ b → (cond b rows (told_of told q) ≡ [] → ⊥) → Or k (IsFilled told) q
  by true e is = inl e
  by false e is = inr is

still_filled : (told : Told) (k : ℕ) (rows : List Row) → (rows ≢ [] → IsFilled told k) → (q : ℕ) → IsFilled (insert told k rows) q → IsFilled told q
still_filled told k rows some q is = by (eqb q k) refl (λ none. is (told_put told k rows q ∙ none)) where
  by : (b : Bool) → eqb q k ≡ b → (cond b rows (told_of told q) ≡ [] → ⊥) → IsFilled told q
  by true e is = subst (IsFilled told) (sym (eqb-true q k e)) (some is)
  by false e is = is

-- the same roots stand for other rows of a buffer, where it had rows before it has some
pub put_roots : (roots : RootPart) (told : Told) (k : ℕ) (rows : List Row) → (rows ≢ [] → told_of told k ≢ []) → HasRoots roots told → HasRoots roots (insert told k rows)
put_roots roots told k rows some has =
    to_roots roots (insert told k rows)
    (weaker (IsAmong told) (IsAmong (insert told k rows)) (IsFilled told) (IsFilled (insert told k rows)) roots (among_put told k rows) (still_filled told k rows some) (of_roots roots told has))

-- a whole list
pub full_roots : (roots : RootPart) (told : Told) (buffer : ℕ) (rows : List Row) → is_some (get told buffer) ≡ true → IsRows rows → HasRoots roots told
    → HasRoots (with_items (at_buffer buffer (full_list (root_item (root_at buffer)) rows)) roots) (insert told buffer rows)
full_roots roots told buffer rows here held has =
    let new = with_items (at_buffer buffer (full_list (root_item (root_at buffer)) rows)) roots in
    to_roots new (insert told buffer rows)
    (weaker (IsAmong told) (IsAmong (insert told buffer rows)) (Or buffer (IsFilled told)) (IsFilled (insert told buffer rows)) new (among_put told buffer rows) (filled_put told buffer rows)
    (full_for (IsAmong told) (IsFilled told) buffer rows roots here held (of_roots roots told has)))

-- a diff
pub diff_roots : (roots : RootPart) (told : Told) (buffer : ℕ) (items : List (ℕ × Item)) (rows : List Row) → AllByRecursion (IsRight (IsAmong told)) items → (rows ≢ [] → told_of told buffer ≢ [])
    → HasRoots roots told → HasRoots (with_items items roots) (insert told buffer rows)
diff_roots roots told buffer items rows right some has =
    let new = with_items items roots in
    put_roots new told buffer rows some (to_roots new told (items_for (IsAmong told) (IsFilled told) items roots right (of_roots roots told has)))

-- a buffer that is closed
pub closed_roots : (roots : RootPart) (told : Told) (k : ℕ) → HasRoots roots told → HasRoots (remove roots k) (remove told k)
closed_roots roots told k has = record {
  own = λ q root at. own q root (eqb q k) (sym (get_taken roots k q) ∙ at);
  there = λ q some. ap is_some (get_taken told k q) ∙ there q (eqb q k) (sym (ap is_some (get_taken roots k q)) ∙ some);
  filled = λ q is. ap is_some (get_taken roots k q) ∙ filled q (eqb q k) (λ none. is (told_taken told k q ∙ none));
}
  where
    none : Option ℕ
    none = None

    own : (q root : ℕ) (b : Bool) → cond b none (get roots q) ≡ Some root → root ≡ (root_at q).0
    own q root true at = absurd (let z = at in cc)
    own q root false at = has.own q root at

    there : (q : ℕ) (b : Bool) → is_some (cond b none (get roots q)) ≡ true → is_some (cond b None (get told q)) ≡ true
    there q true some = absurd (false≢true some)
    there q false some = has.there q some

    filled : (q : ℕ) (b : Bool) → (cond b [] (told_of told q) ≡ [] → ⊥) → is_some (cond b none (get roots q)) ≡ true
    filled q true is = absurd (is refl)
    filled q false is = has.filled q is

-- ---- the dump

items-append : (a b : List (ℕ × Item)) (roots : RootPart) → with_items (a ++ b) roots ≡ with_items b (with_items a roots)
items-append [] b roots = refl
items-append (t ∷ a) b roots = items-append a b (with_item t.0 t.1 roots)

-- what is read of the list of a buffer
abbrev pub list_read : World → BufferEntry → List (ℕ × Item)
list_read world e = at_buffer (handle_of e) (full_list (root_item (root_at (handle_of e))) (rows_at world (handle_of e)))

lists_for : (a f : ℕ → Type 0) (world : World) (es : List BufferEntry) (roots : RootPart) → ((q : ℕ) → in_group handle_of q es ≡ true → a q) → ((q : ℕ) → IsRows (rows_at world q)) → RootsFor a f roots
    → RootsFor a (λ q. (in_group handle_of q es ≡ true) ⊎ f q) (with_items (flat_map (list_read world) es) roots)
lists_for a f world [] roots here held are = weaker a a f (λ q. (false ≡ true) ⊎ f q) roots (λ q x. x) (λ q x. either q x) are
  where
    either : (q : ℕ) → (false ≡ true) ⊎ f q → f q
    either q (inl e) = absurd (false≢true e)
    either q (inr x) = x
lists_for a f world (e ∷ es) roots here held are =
    let h = handle_of e in
    let read = list_read world e in
    let others = flat_map (list_read world) es in
    let first = full_for a f h (rows_at world h) roots (here h (ap (λ b. b || in_group handle_of h es) (eq-eqb h h refl))) (held h) are in
    let rest = lists_for a (Or h f) world es (with_items read roots) (λ q is. here q (right (eqb h q) (in_group handle_of q es) is)) held first in
    subst (RootsFor a (λ q. (in_group handle_of q (e ∷ es) ≡ true) ⊎ f q)) (sym (items-append read others roots))
    (weaker a a (λ q. (in_group handle_of q es ≡ true) ⊎ Or h f q) (λ q. (in_group handle_of q (e ∷ es) ≡ true) ⊎ f q) (with_items others (with_items read roots)) (λ q x. x) (λ q x. sort q (eqb h q) (in_group handle_of q es) refl refl x) rest)
  where
    right : (b c : Bool) → c ≡ true → b || c ≡ true
    right true c t = refl
    right false c t = t

    turned : (q k : ℕ) → eqb k q ≡ true → eqb q k ≡ true
    turned q k t = grind (arith, nat_tests)

    sort : (q : ℕ) (b c : Bool) → eqb (handle_of e) q ≡ b → in_group handle_of q es ≡ c → (b || c ≡ true) ⊎ f q → (c ≡ true) ⊎ Or (handle_of e) f q
    sort q b c s t (inr x) = inr (inr x)
    sort q true c s t (inl x) = inr (inl (turned q (handle_of e) s))
    sort q false c s t (inl x) = inl x

-- the roots of all buffers
pub lists_roots : (world : World) (es : List BufferEntry) → ((q : ℕ) → is_some (get world.nicks q) ≡ in_group handle_of q es) → ((q : ℕ) → IsRows (rows_at world q)) → HasRoots (with_items (flat_map (list_read world) es) empty) world.nicks
lists_roots world es same held =
    let roots = with_items (flat_map (list_read world) es) empty in
    to_roots roots world.nicks
    (weaker (IsAmong world.nicks) (IsAmong world.nicks) (λ q. (in_group handle_of q es ≡ true) ⊎ ⊥) (IsFilled world.nicks) roots (λ q x. x) (λ q is. inl (sym (same q) ∙ listed q (get world.nicks q) is))
    (lists_for (IsAmong world.nicks) (λ q. ⊥) world es empty (λ q is. same q ∙ is) held start))
  where
    listed : (q : ℕ) (o : Option (List Row)) → (unwrap_or o [] ≡ [] → ⊥) → is_some o ≡ true
    listed q None is = absurd (is refl)
    listed q (Some rows) is = refl

    none : RootPart
    none = empty

    start : RootsFor (IsAmong world.nicks) (λ q. ⊥) none
    start = record {
      own = λ q root at. absurd (let z : None ≡ Some root = sym (get-empty nat_cmp q) ∙ at in cc);
      among = λ q some. absurd (false≢true (sym (ap is_some (get-empty nat_cmp q)) ∙ some));
      filled = λ q is. absurd is;
    }
