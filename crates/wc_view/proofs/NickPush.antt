-- Which item comes after rows that are read.
use Rattle.std.proofs.Common.{◌≡◌, ℕ, zero, suc, ◌+◌, ◌-◌, ◌<◌, ◌≤◌, Bool, true, false, Option, Some, None, List, [], ◌∷◌, ◌++◌, length, take, refl, sym, ap, ◌∙◌, subst, arith}
use Rattle.std.specs.Prelude.{is_some, is_none}
use Rattle.std.specs.List.{slice_get}
use Rattle.std.proofs.lemmas.Bool.{true≢false, false_from_ne_true}
use Rattle.std.proofs.lemmas.List.{length-take}
use Rattle.wc_nicklist.specs.declared.item.Item.{Item}
use Rattle.wc_nicklist.specs.declared.item.Key.{Key}
use Rattle.wc_nicklist.specs.declared.item.Row.{Row}
use Rattle.wc_nicklist.specs.declared.refused.NickRefused.{NickRefused}
use Rattle.wc_nicklist.specs.Order.{key, key_at, before}
use Rattle.wc_nicklist.specs.Rows.{find_row, insert_row, root_name, last_or, below, path_below, level_at}
use Rattle.wc_nicklist.specs.Calls.{when, or_else, name_refusal, add_refusal, row_under, add_under, add_row}
use Rattle.wc_nicklist.proofs.OrderLaws.{by_bool}
use Rattle.wc_nicklist.proofs.Held.{by_row}
use Rattle.wc_nicklist.proofs.Refusals.{add_accepted}
use Rattle.wc_view.specs.NickFold.{are_rows}
use Rattle.wc_view.specs.NickLists.{last_row, path_after, nick_name, next_row, comes_after}
use Rattle.wc_view.proofs.NickStands.{Good, Fits, good_from, fits_from, fits_to, insert_last}
use Rattle.wc_view.proofs.NickNext.{no_rows, last_found, after_all, nick_place, group_place, fronts, after_stands}

-- ---- what an item that is added needs
record Accepts (g : Bool) (name : List ℕ) (rows : List Row) : Type 0 where
  named : name_refusal g name ≡ None
  fresh : find_row (key_at g name) rows ≡ None

first_none : (a b : Option NickRefused) → or_else a b ≡ None → a ≡ None
first_none None b e = refl
first_none (Some x) b e = absurd cc

second_none : (a b : Option NickRefused) → or_else a b ≡ None → b ≡ None
second_none None b e = e
second_none (Some x) b e = absurd cc

none_taken : (o : Option Row) (e : NickRefused) → when (is_some o) e ≡ None → o ≡ None
none_taken None e h = refl
none_taken (Some r) e h = absurd cc

accepts : (g : Bool) (parent name : List ℕ) (rows : List Row) → add_refusal g parent name rows ≡ None → Accepts g name rows
unfolding add_refusal
accepts g parent name rows e = record {
  named = first_none _ _ e;
  fresh = none_taken _ _ (second_none _ _ (second_none _ _ e));
}

-- ---- a row of this kind, which is below a parent that is there
pub record Comes (rows : List Row) (r : Row) (g : Bool) : Type 0 where
  pub good : are_rows rows ≡ true
  pub kind : r.item.is_group ≡ g
  pub parent : path_below (last_or root_name r.path) rows ≡ Some r.path

abbrev AfterLast : List Row → Row → Type 0
AfterLast rows r = (l : Row) → last_row rows ≡ Some l → before l r ≡ true

key_is : (r : Row) (g : Bool) → r.item.is_group ≡ g → key_at g r.item.name ≡ key r
key_is r g e = λ j. record { is_group = sym e j; name = r.item.name }

fits_by : (rows : List Row) (r : Row) (g : Bool) → Comes rows r g → AfterLast rows r → r.item.level ≡ level_at g r.path
    → add_refusal g (last_or root_name r.path) r.item.name rows ≡ None → Fits rows r
fits_by rows r g c b level a =
    let ok = accepts g (last_or root_name r.path) r.item.name rows a in
    record {
      following = λ k x f. by_row (last_row rows) _
          (λ n. absurd (let i : None ≡ Some x = sym (ap (find_row k) (no_rows rows n)) ∙ f in cc))
          (λ l e. after_all rows l r (good_from rows c.good) e (b l e) k x f);
      fresh = ap (λ k. find_row k rows) (sym (key_is r g c.kind)) ∙ ok.fresh;
      stands = record {
        parent = c.parent;
        level = level ∙ ap (λ z. level_at z r.path) (sym c.kind);
        named = ap (λ z. name_refusal z r.item.name) c.kind ∙ ok.named;
      };
    }

-- a row that fits is accepted
pub accepted_by : (rows : List Row) (r : Row) (g : Bool) → Comes rows r g → Fits rows r → add_refusal g (last_or root_name r.path) r.item.name rows ≡ None
accepted_by rows r g c f =
    add_accepted g r.item.name rows (last_or root_name r.path)
    (ap (λ z. name_refusal z r.item.name) (sym c.kind) ∙ f.stands.named)
    (ap is_some c.parent)
    (ap is_some (ap (λ k. find_row k rows) (key_is r g c.kind) ∙ f.fresh))

-- the rows with it are none that a nicklist can hold
misfit : (rows : List Row) (r : Row) → (Fits rows r → ⊥) → false ≡ are_rows (rows ++ r ∷ [])
misfit rows r n = sym (false_from_ne_true _ (λ e. n (fits_from rows r e)))

pub refused_level : (rows : List Row) (r : Row) (g : Bool) → Comes rows r g → (r.item.level ≡ level_at g r.path → ⊥) → false ≡ are_rows (rows ++ r ∷ [])
refused_level rows r g c n = misfit rows r (λ f. n (f.stands.level ∙ ap (λ z. level_at z r.path) c.kind))

pub refused_order : (rows : List Row) (r l : Row) (g : Bool) → Comes rows r g → last_row rows ≡ Some l → before l r ≡ false → false ≡ are_rows (rows ++ r ∷ [])
refused_order rows r l g c e b = misfit rows r (λ f. true≢false (sym (f.following (key l) l (last_found rows l (good_from rows c.good) e)) ∙ b))

pub refused_add : (rows : List Row) (r : Row) (g : Bool) (e : NickRefused) → Comes rows r g → add_refusal g (last_or root_name r.path) r.item.name rows ≡ Some e → false ≡ are_rows (rows ++ r ∷ [])
refused_add rows r g e c a = misfit rows r (λ f. let i : None ≡ Some e = sym (accepted_by rows r g c f) ∙ a in cc)

pub fitted : (rows : List Row) (r : Row) (g : Bool) → Comes rows r g → AfterLast rows r → r.item.level ≡ level_at g r.path
    → add_refusal g (last_or root_name r.path) r.item.name rows ≡ None → true ≡ are_rows (rows ++ r ∷ [])
fitted rows r g c b level a = sym (fits_to rows r c.good (fits_by rows r g c b level a))

row_is : (r : Row) (g : Bool) → r.item.is_group ≡ g → r.item.level ≡ level_at g r.path → row_under g r.path r.item ≡ r
row_is r g e level = λ j. record {
  path = r.path;
  item = record {
    handle = r.item.handle;
    is_group = sym e j;
    visible = r.item.visible;
    level = sym level j;
    name = r.item.name;
    color = r.item.color;
    prefix = r.item.prefix;
    prefix_color = r.item.prefix_color;
  };
}

-- and then it comes in after the others
pub added : (rows : List Row) (r : Row) (g : Bool) → Comes rows r g → AfterLast rows r → r.item.level ≡ level_at g r.path
    → add_refusal g (last_or root_name r.path) r.item.name rows ≡ None → add_row g (last_or root_name r.path) r.item rows ≡ rows ++ r ∷ []
added rows r g c b level a =
    ap (λ o. add_under g o r.item rows) c.parent
    ∙ ap (λ z. insert_row z rows) (row_is r g c.kind level)
    ∙ insert_last rows r (good_from rows c.good).keyed (fits_by rows r g c b level a)

-- ---- nicks
pub nick_path : (rows : List Row) (i : Item) → i.is_group ≡ false → (next_row rows i).path ≡ path_after (last_row rows)
nick_path rows i e = rw e refl

pub nick_comes : (rows : List Row) (i : Item) → are_rows rows ≡ true → i.is_group ≡ false → Comes rows (next_row rows i) false
nick_comes rows i ok e = record {
  good = ok;
  kind = e;
  parent = subst (λ p. path_below (last_or root_name p) rows ≡ Some p) (sym (nick_path rows i e)) (after_stands rows (good_from rows ok));
}

nick_before : (rows : List Row) (i : Item) (l : Row) → i.is_group ≡ false → last_row rows ≡ Some l → before l (next_row rows i) ≡ comes_after (nick_name (last_row rows)) i.name
nick_before rows i l e h =
    nick_place l (next_row rows i) e (nick_path rows i e ∙ ap path_after h)
    ∙ ap (λ o. comes_after (nick_name o) i.name) (sym h)

pub nick_after : (rows : List Row) (i : Item) → i.is_group ≡ false → comes_after (nick_name (last_row rows)) i.name ≡ true → (l : Row) → last_row rows ≡ Some l → before l (next_row rows i) ≡ true
nick_after rows i e b l h = nick_before rows i l e h ∙ b

pub nick_misplaced : (rows : List Row) (i : Item) → are_rows rows ≡ true → i.is_group ≡ false → comes_after (nick_name (last_row rows)) i.name ≡ false → false ≡ are_rows (rows ++ next_row rows i ∷ [])
nick_misplaced rows i ok e b = by_row (last_row rows) _
    (λ n. absurd (true≢false (ap (λ o. comes_after (nick_name o) i.name) (sym n) ∙ b)))
    (λ l h. refused_order rows (next_row rows i) l false (nick_comes rows i ok e) h (nick_before rows i l e h ∙ b))

-- ---- groups
pub group_path : (rows : List Row) (i : Item) → i.is_group ≡ true → (next_row rows i).path ≡ take (i.level - 1) (path_after (last_row rows))
group_path rows i e = rw e refl

pub group_comes : (rows : List Row) (i : Item) → are_rows rows ≡ true → i.is_group ≡ true → Comes rows (next_row rows i) true
group_comes rows i ok e =
    let g = good_from rows ok in
    let path = path_after (last_row rows) in
    record {
      good = ok;
      kind = e;
      parent = subst (λ p. path_below (last_or root_name p) rows ≡ Some p) (sym (group_path rows i e)) (fronts rows g (length path) path refl (after_stands rows g) (i.level - 1));
    }

group_before : (rows : List Row) (i : Item) (l : Row) → i.is_group ≡ true → i.level - 1 ≤ length (path_after (last_row rows)) → last_row rows ≡ Some l
    → before l (next_row rows i) ≡ comes_after (slice_get (path_after (last_row rows)) (i.level - 1)) i.name
group_before rows i l e d h =
    group_place l (next_row rows i) (i.level - 1) e (subst (λ o. i.level - 1 ≤ length (path_after o)) h d) (group_path rows i e ∙ ap (λ o. take (i.level - 1) (path_after o)) h)
    ∙ ap (λ o. comes_after (slice_get (path_after o) (i.level - 1)) i.name) (sym h)

pub group_after : (rows : List Row) (i : Item) → i.is_group ≡ true → i.level - 1 ≤ length (path_after (last_row rows))
    → comes_after (slice_get (path_after (last_row rows)) (i.level - 1)) i.name ≡ true → (l : Row) → last_row rows ≡ Some l → before l (next_row rows i) ≡ true
group_after rows i e d b l h = group_before rows i l e d h ∙ b

pub group_misplaced : (rows : List Row) (i : Item) → are_rows rows ≡ true → i.is_group ≡ true → i.level - 1 ≤ length (path_after (last_row rows))
    → comes_after (slice_get (path_after (last_row rows)) (i.level - 1)) i.name ≡ false → false ≡ are_rows (rows ++ next_row rows i ∷ [])
group_misplaced rows i ok e d b = by_row (last_row rows) _
    (λ n. absurd (true≢false (no_group n (subst (λ o. i.level - 1 ≤ length (path_after o)) n d) ∙ b)))
    (λ l h. refused_order rows (next_row rows i) l true (group_comes rows i ok e) h (group_before rows i l e d h ∙ b))
  where
    no_group : last_row rows ≡ None → i.level - 1 ≤ 0 → true ≡ comes_after (slice_get (path_after (last_row rows)) (i.level - 1)) i.name
    no_group n z = (let k : i.level - 1 ≡ 0 = omega arith in λ j. comes_after (slice_get (path_after (sym n j)) (sym k j)) i.name)

-- the level of a group is that of its path
pub group_level : (rows : List Row) (i : Item) → i.is_group ≡ true → 0 < i.level → i.level - 1 ≤ length (path_after (last_row rows)) → i.level ≡ level_at true (next_row rows i).path
group_level rows i e z d = omega (arith, ap length (group_path rows i e), length-take (i.level - 1) (path_after (last_row rows)))

pub group_too_deep : (rows : List Row) (i : Item) → i.is_group ≡ true → length (path_after (last_row rows)) < i.level - 1 → i.level ≡ level_at true (next_row rows i).path → ⊥
group_too_deep rows i e d l = omega (arith, ap length (group_path rows i e), length-take (i.level - 1) (path_after (last_row rows)), l)

pub group_at_root : (rows : List Row) (i : Item) → i.level ≡ 0 → i.level ≡ level_at true (next_row rows i).path → ⊥
group_at_root rows i z l = omega (arith, z, l)

-- the path below a group that came in
pub group_path_now : (rows : List Row) (i : Item) → i.is_group ≡ true → take (i.level - 1) (path_after (last_row rows)) ++ i.name ∷ [] ≡ path_after (Some (next_row rows i))
group_path_now rows i e = ap (λ p. p ++ i.name ∷ []) (sym (group_path rows i e)) ∙ sym (below_it (next_row rows i) e)
  where
    below_it : (r : Row) → r.item.is_group ≡ true → path_after (Some r) ≡ below r
    below_it r e = rw e refl
