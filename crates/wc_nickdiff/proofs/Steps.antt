-- One step of a diff, and a run of several, by what is found.
use Rattle.std.proofs.Common.{◌≡◌, ℕ, ◌+◌, ◌<◌, ◌≤◌, Bool, true, false, cond, ◌&&◌, ◌||◌, not, Option, Some, None, Ok, List, [], ◌∷◌, ◌++◌, length, map, refl, sym, ap, ◌∙◌, subst, arith}
use Rattle.std.specs.Prelude.{bytes_eq, is_none, is_some, if◌then◌else◌, nat_lt, ◌==◌}
use Rattle.std.specs.Cmp.Lexicographic.{bytes_decides}
use Rattle.std.proofs.lemmas.Bool.{false≢true}
use Rattle.std.proofs.lemmas.Bool.Decides.{nat_tests}
use Rattle.wc_nicklist.specs.declared.item.Item.{Item}
use Rattle.wc_nicklist.specs.declared.item.Key.{Key}
use Rattle.wc_nicklist.specs.declared.item.Row.{Row}
use Rattle.wc_nicklist.specs.Order.{key, key_of, key_at, group_key}
use Rattle.wc_nicklist.specs.Rows.{key_eq, path_eq, find_row, remove_row, insert_row, replace_row, changed_row, root_name, is_root, last_or, parent_of, below, below_row, path_below, has_child, level_at, Ascending, Keyed}
use Rattle.wc_nicklist.specs.Calls.{is_bad_name, name_refusal, add_refusal, remove_refusal, change_refusal, add_under, row_under}
use Rattle.wc_nicklist.proofs.OrderLaws.{by_bool, key_eq-true, key_eq-same}
use Rattle.wc_nicklist.proofs.RowLaws.{find-remove, find-insert, find-replace, keyed-remove, keyed-insert, keyed-replace, ascending-remove, ascending-insert, ascending-replace}
use Rattle.wc_nickdiff.specs.declared.diff_item.DiffItem.{DiffItem}
use Rattle.wc_nickdiff.specs.declared.diff_item.Mark.{Mark}
use Rattle.wc_nickdiff.specs.declared.diff_item.Mark.TheVariants.{Parent, Added, Removed, Changed}
use Rattle.wc_nickdiff.specs.Apply.{is_parent, is_refused_under, is_refused, applied_under, applied_from}
use Rattle.wc_nickdiff.specs.NickPush.{Op, op, group_item, same_name, with_parents}
use Rattle.wc_nickdiff.proofs.Split.{or_row}

-- A run of items, each with its parent.
abbrev pub Runs : List Op → List Row → List Row → Type 0
Runs [] rows out = rows ≡ out
Runs (o ∷ os) rows out =
    (is_parent o.mark ≡ false) × (o.parent.name ≡ o.under) × (is_none (path_below o.under rows) ≡ false) × (is_refused_under o.mark o.under o.item rows ≡ false)
    × Runs os (applied_under o.mark o.under o.item rows) out

pub runs-append : (a b : List Op) (rows mid out : List Row) → Runs a rows mid → Runs b mid out → Runs (a ++ b) rows out
runs-append [] b rows mid out e h = subst (λ l. Runs b l out) (sym e) h
runs-append (o ∷ os) b rows mid out e h = (e.0, e.1, e.2, e.3, runs-append os b (applied_under o.mark o.under o.item rows) mid out e.4 h)

same_name_some : (p : Option (List ℕ)) (name : List ℕ) → same_name p name ≡ true → p ≡ Some name
same_name_some None name e = absurd (false≢true e)
same_name_some (Some p) name e = ap Some ((bytes_decides p name).0 e)

-- an item that names a parent that is
parent_taken : (i : Item) (p : Option (List ℕ)) (rows : List Row) → is_none (path_below i.name rows) ≡ false → is_refused (record { mark = Parent; item = i }) p rows ≡ false
unfolding is_refused_under
parent_taken i None rows e = e
parent_taken i (Some p) rows e = e

parent_after : (i : Item) (p : List ℕ) (rows : List Row) → applied_under Parent p i rows ≡ rows
unfolding applied_under
parent_after i p rows = refl

-- the parents that are in a diff do no more than name them
with_parents_run-one : (o : Op) (os : List Op) (m : ℕ) (rows out : List Row) → Runs (o ∷ os) rows out → applied_from (m + 1) (Some o.under) (with_parents (Some o.under) os) (applied_under o.mark o.under o.item rows) ≡ Ok out
    → applied_from m (Some o.under) (record { mark = o.mark; item = o.item } ∷ with_parents (Some o.under) os) rows ≡ Ok out
with_parents_run-one o os m rows out e rest = rw (e.3, e.0) rest

pub with_parents_run : (os : List Op) (p : Option (List ℕ)) (n : ℕ) (rows out : List Row) → Runs os rows out → applied_from n p (with_parents p os) rows ≡ Ok out
with_parents_run [] p n rows out e = ap Ok e
with_parents_run (o ∷ os) p n rows out e =
    let rest = λ (m : ℕ). with_parents_run-one o os m rows out e (with_parents_run os (Some o.under) (m + 1) (applied_under o.mark o.under o.item rows) out e.4) in
    by_bool (same_name p o.under) _
    (λ t.
    let same = same_name_some p o.under t in
    rw t (subst (λ q. applied_from n q (record { mark = o.mark; item = o.item } ∷ with_parents q os) rows ≡ Ok out) (sym same) (rest n)))
    (λ t.
    let taken = parent_taken o.parent p rows (ap (λ z. is_none (path_below z rows)) e.1 ∙ e.2) in
    rw (t, taken, parent_after o.parent, e.1) (rest (n + 1)))

-- What a list of rows has, by a function of the keys.
abbrev pub Found : Type 0
Found = Key → Option Row

pub record Holds (f : Found) (rows : List Row) : Type 0 where
  pub ascending : Ascending rows
  pub keyed : Keyed rows
  pub found : (k : Key) → find_row k rows ≡ f k

abbrev pub path_under : List ℕ → Found → Option (List (List ℕ))
path_under name f = if is_root name then Some [] else below_row (f (group_key name))

path_below-found : (f : Found) (rows : List Row) → Holds f rows → (name : List ℕ) → path_below name rows ≡ path_under name f
unfolding path_below
path_below-found f rows h name = rw (h.found (group_key name)) refl

abbrev pub after : Found → Mark → Row → Found
after f Parent r = f
after f Removed r = λ q. cond (key_eq (key r) q) None (f q)
after f Added r = λ q. cond (key_eq (key r) q) (Some r) (f q)
after f Changed r = λ q. cond (key_eq (key r) q) (Some r) (f q)

-- what a nicklist asks of a row beside its parent
pub record Good (r : Row) : Type 0 where
  pub level : r.item.level ≡ level_at r.item.is_group r.path
  pub named : (0 < length r.item.name) × (length r.item.name ≤ 64)
  pub no_root : (r.item.is_group && is_root r.item.name) ≡ false

pub record Stands (f : Found) (r : Row) : Type 0 where
  pub row : Row
  pub there : f (key r) ≡ Some row
  pub path : row.path ≡ r.path
  pub same : key row ≡ key r
  pub level : row.item.level ≡ r.item.level

abbrev pub Fits : Found → Mark → Row → Type 0
Fits f Parent r = ⊥
Fits f Removed r = Stands f r × (r.item.is_group ≡ true → (q : Key) (c : Row) → f q ≡ Some c → path_eq c.path (below r) ≡ false)
Fits f Added r = f (key r) ≡ None
Fits f Changed r = Stands f r

no_child : (path : List (List ℕ)) (rows : List Row) → Keyed rows → ((q : Key) (c : Row) → find_row q rows ≡ Some c → path_eq c.path path ≡ false) → has_child path rows ≡ false
no_child path [] kd h = refl
no_child path (x ∷ xs) kd h =
    let own : path_eq x.path path ≡ false = h (key x) x (rw (key_eq-same (key x)) refl) in
    let rest = no_child path xs kd.1 (λ q c e. h q c (by_bool (key_eq (key x) q) _
    (λ t. absurd (let i : Some c ≡ None = sym e ∙ ap (λ z. find_row z xs) (sym (key_eq-true _ _ t)) ∙ kd.0 in cc))
    (λ t. rw t e))) in
    rw (own, rest) refl

name_fits : (g : Bool) (name : List ℕ) → (g && is_root name) ≡ false → is_bad_name name ≡ false → name_refusal g name ≡ None
unfolding name_refusal
name_fits g name n b = rw (n, b) refl

bad_name : (name : List ℕ) → 0 < length name → length name ≤ 64 → is_bad_name name ≡ false
bad_name name a b = grind (arith, nat_tests)

good_name : (r : Row) → Good r → name_refusal r.item.is_group r.item.name ≡ None
good_name r g = name_fits r.item.is_group r.item.name g.no_root (bad_name r.item.name g.named.0 g.named.1)

removal_fits : (g : Bool) (name : List ℕ) (rows : List Row) (s : Row) → name_refusal g name ≡ None → find_row (key_at g name) rows ≡ Some s → (g && has_child (below s) rows) ≡ false → remove_refusal g name rows ≡ None
unfolding remove_refusal
removal_fits g name rows s n f h = rw (n, f, h) refl

addition_fits : (g : Bool) (p name : List ℕ) (path : List (List ℕ)) (rows : List Row) → name_refusal g name ≡ None → path_below p rows ≡ Some path → find_row (key_at g name) rows ≡ None → add_refusal g p name rows ≡ None
unfolding add_refusal
addition_fits g p name path rows n e f = rw (n, e, f) refl

change_fits : (g : Bool) (name : List ℕ) (rows : List Row) (s : Row) → name_refusal g name ≡ None → find_row (key_at g name) rows ≡ Some s → change_refusal g name rows ≡ None
unfolding change_refusal
change_fits g name rows s n f = rw (n, f) refl

pub record Stepped (f : Found) (m : Mark) (r : Row) (rows : List Row) : Type 0 where
  pub fits : is_refused_under m (parent_of r) r.item rows ≡ false
  pub holds : Holds (after f m r) (applied_under m (parent_of r) r.item rows)

under_same : (s r : Row) → s.path ≡ r.path → bytes_eq (parent_of s) (parent_of r) ≡ true
under_same s r p = (bytes_decides (parent_of s) (parent_of r)).1 (ap (last_or root_name) p)

group_and : (g b : Bool) → (g ≡ true → b ≡ false) → (g && b) ≡ false
group_and true b h = h refl
group_and false b h = refl

removed : (f : Found) (r : Row) (rows : List Row) → Holds f rows → Good r → Fits f Removed r → Stepped f Removed r rows
unfolding is_refused_under applied_under
removed f r rows h good fits =
    let s = fits.0 in
    let i : find_row (key r) rows ≡ Some s.row = h.found (key r) ∙ s.there in
    let same : below s.row ≡ below r = λ j. s.path j ++ (s.same j).name ∷ [] in
    let none = removal_fits r.item.is_group r.item.name rows s.row (good_name r good) i
    (group_and r.item.is_group _ (λ g. ap (λ z. has_child z rows) same ∙ no_child (below r) rows h.keyed (λ q c z. fits.1 g q c (sym (h.found q) ∙ z)))) in
    record {
      fits = rw (i, none, under_same s.row r s.path) refl;
      holds = record {
        ascending = ascending-remove (key r) rows h.ascending;
        keyed = keyed-remove (key r) rows h.keyed;
        found = λ q. find-remove (key r) q rows ∙ ap (cond (key_eq (key r) q) None) (h.found q);
      };
    }

added : (f : Found) (r : Row) (rows : List Row) → Holds f rows → Good r → path_under (parent_of r) f ≡ Some r.path → Fits f Added r → Stepped f Added r rows
unfolding is_refused_under applied_under
added f r rows h good p fits =
    let e : path_below (parent_of r) rows ≡ Some r.path = path_below-found f rows h (parent_of r) ∙ p in
    let i : find_row (key r) rows ≡ None = h.found (key r) ∙ fits in
    let none = addition_fits r.item.is_group (parent_of r) r.item.name r.path rows (good_name r good) e i in
    let same : row_under r.item.is_group r.path r.item ≡ r = λ j. record r { item = record (r.item) { level = sym good.level j } } in
    let out : applied_under Added (parent_of r) r.item rows ≡ insert_row r rows = ap (λ o. add_under r.item.is_group o r.item rows) e ∙ ap (λ x. insert_row x rows) same in
    record {
      fits = rw none refl;
      holds = subst (Holds (after f Added r)) (sym out) (record {
        ascending = ascending-insert r rows i h.ascending;
        keyed = keyed-insert r rows i h.keyed;
        found = λ q. find-insert r q rows i ∙ ap (cond (key_eq (key r) q) (Some r)) (h.found q);
      });
    }

changed : (f : Found) (r : Row) (rows : List Row) → Holds f rows → Good r → Fits f Changed r → Stepped f Changed r rows
unfolding is_refused_under applied_under
changed f r rows h good s =
    let i : find_row (key r) rows ≡ Some s.row = h.found (key r) ∙ s.there in
    let none = change_fits r.item.is_group r.item.name rows s.row (good_name r good) i in
    let same : changed_row s.row r.item ≡ r = λ j. record { path = s.path j; item = record (r.item) { is_group = (s.same j).is_group; level = s.level j; name = (s.same j).name } } in
    let out : applied_under Changed (parent_of r) r.item rows ≡ replace_row r rows = rw i (ap (λ x. replace_row x rows) same) in
    record {
      fits = rw (i, none, under_same s.row r s.path) refl;
      holds = subst (Holds (after f Changed r)) (sym out) (record {
        ascending = ascending-replace r s.row rows i s.path h.keyed h.ascending;
        keyed = keyed-replace r rows h.keyed;
        found = λ q. find-replace r s.row q rows i ∙ ap (cond (key_eq (key r) q) (Some r)) (h.found q);
      });
    }

one_step : (f : Found) (m : Mark) (r : Row) (rows : List Row) → Holds f rows → Good r → path_under (parent_of r) f ≡ Some r.path → Fits f m r → Stepped f m r rows
one_step f Parent r rows h good p fits = absurd fits
one_step f Removed r rows h good p fits = removed f r rows h good fits
one_step f Added r rows h good p fits = added f r rows h good p fits
one_step f Changed r rows h good p fits = changed f r rows h good fits

-- A phase: items of one mark.
abbrev pub after_all : Found → Mark → List Row → Found
after_all f m [] = f
after_all f m (r ∷ rs) = after_all (after f m r) m rs

pub record Ready (root : Item) (source : List Row) (f : Found) (m : Mark) (r : Row) : Type 0 where
  pub named : (group_item root (λ k. find_row k source) (parent_of r)).name ≡ parent_of r
  pub under : path_under (parent_of r) f ≡ Some r.path
  pub fits : Fits f m r
  pub good : Good r

abbrev pub AllReady : Item → List Row → Found → Mark → List Row → Type 0
AllReady root source f m [] = Unit {0}
AllReady root source f m (r ∷ rs) = Ready root source f m r × AllReady root source (after f m r) m rs

pub phase : (root : Item) (source : List Row) (f : Found) (m : Mark) (rs : List Row) (rows : List Row) → is_parent m ≡ false → Holds f rows → AllReady root source f m rs → (out : List Row) × Runs (map (op m root (λ k. find_row k source)) rs) rows out × Holds (after_all f m rs) out
phase root source f m [] rows np h ready = (rows, refl, h)
phase root source f m (r ∷ rs) rows np h ready =
    let s = one_step f m r rows h ready.0.good ready.0.under ready.0.fits in
    let next = phase root source (after f m r) m rs (applied_under m (parent_of r) r.item rows) np s.holds ready.1 in
    let e = path_below-found f rows h (parent_of r) ∙ ready.0.under in
    (next.0, (np, ready.0.named, ap is_none e, s.fits, next.1), next.2)

after_push : (f : Found) (m : Mark) (rs : List Row) (r : Row) → after_all f m (rs ++ r ∷ []) ≡ after (after_all f m rs) m r
after_push f m [] r = refl
after_push f m (x ∷ xs) r = after_push (after f m x) m xs r

-- ready at each place
ready_from : (root : Item) (source : List Row) (f : Found) (m : Mark) (all pre rs : List Row) → all ≡ pre ++ rs → ((a : List Row) (r : Row) (b : List Row) → all ≡ a ++ r ∷ b → Ready root source (after_all f m a) m r) → AllReady root source (after_all f m pre) m rs
ready_from root source f m all pre [] e h = tt
ready_from root source f m all pre (r ∷ rs) e h = (
  h pre r rs e,
  subst (λ z. AllReady root source z m rs) (after_push f m pre r) (ready_from root source f m all (pre ++ r ∷ []) rs (e ∙ snoc pre rs) h),
)
  where
    snoc : (xs ys : List Row) → xs ++ r ∷ ys ≡ (xs ++ r ∷ []) ++ ys
    snoc [] ys = refl
    snoc (x ∷ xs) ys = ap (λ l. x ∷ l) (snoc xs ys)

pub ready_at_each : (root : Item) (source : List Row) (f : Found) (m : Mark) (rs : List Row) → ((a : List Row) (r : Row) (b : List Row) → rs ≡ a ++ r ∷ b → Ready root source (after_all f m a) m r) → AllReady root source f m rs
ready_at_each root source f m rs h = ready_from root source f m rs [] rs refl h

-- what is found after a phase
pub found_removed : (f : Found) (rs : List Row) (q : Key) → after_all f Removed rs q ≡ cond (is_some (find_row q rs)) None (f q)
found_removed f [] q = refl
found_removed f (r ∷ rs) q = found_removed (after f Removed r) rs q ∙ by_bool (key_eq (key r) q) _
    (λ t. rw t (elim (is_some (find_row q rs)) as (λ b. cond {A = Option Row} b None None ≡ None) [ true ↦ refl | false ↦ refl ]))
    (λ t. rw t refl)

set_found : (m : Mark) (f : Found) (rs : List Row) (q : Key) → ((g : Found) (r : Row) → after g m r ≡ (λ z. cond (key_eq (key r) z) (Some r) (g z))) → Keyed rs → after_all f m rs q ≡ or_row (find_row q rs) (f q)
set_found m f [] q s kd = refl
set_found m f (r ∷ rs) q s kd = set_found m (after f m r) rs q s kd.1 ∙ ap (λ (z : Found). or_row (find_row q rs) (z q)) (s f r) ∙ by_bool (key_eq (key r) q) _
    (λ t. let e : find_row q rs ≡ None = ap (λ z. find_row z rs) (sym (key_eq-true _ _ t)) ∙ kd.0 in rw (t, e) refl)
    (λ t. rw t refl)

pub found_added : (f : Found) (rs : List Row) (q : Key) → Keyed rs → after_all f Added rs q ≡ or_row (find_row q rs) (f q)
found_added f rs q kd = set_found Added f rs q (λ g r. refl) kd

pub found_changed : (f : Found) (rs : List Row) (q : Key) → Keyed rs → after_all f Changed rs q ≡ or_row (find_row q rs) (f q)
found_changed f rs q kd = set_found Changed f rs q (λ g r. refl) kd
