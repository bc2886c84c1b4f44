-- One item of a diff.
use Rattle.std.proofs.Common.{◌≡◌, ℕ, ◌+◌, ◌<◌, Bool, true, false, cond, not, Option, None, Some, Result, Ok, Err, List, [], ◌∷◌, ◌++◌, drop, length, get_or, refl, sym, ap, ◌∙◌, subst, add-one, drop-cons, IfOk, IsTrue}
use Rattle.std.specs.Prelude.{is_some, is_none}
use Rattle.wc_nicklist.specs.declared.item.Item.{Item}
use Rattle.wc_nicklist.specs.declared.item.Row.{Row}
use Rattle.wc_nicklist.specs.Rows.{path_below, TextsAreUtf8}
use Rattle.wc_nickdiff.specs.declared.diff_item.DiffItem.{DiffItem}
use Rattle.wc_nickdiff.specs.declared.diff_item.Mark.{Mark}
use Rattle.wc_nickdiff.specs.declared.diff_item.Mark.TheVariants.{Parent, Added, Removed, Changed}
use Rattle.wc_nickdiff.specs.Apply.{is_parent, is_refused_under, is_refused, applied_under, item_applied, named_last, applied_from, AreUtf8}

some_or_none : {A : Type 0} (o : Option A) → is_some o ≡ not (is_none o)
some_or_none None = refl
some_or_none (Some a) = refl

-- an item that names a parent
pub named_fits : {E : Type 0} (r : Result Bool E) (m : Mark) (p : List ℕ) (i : Item) (rows : List Row) → m ≡ Parent → IfOk r (λ has. has ≡ is_some (path_below i.name rows)) → IfOk r (λ done. done ≡ not (is_refused_under m p i rows))
unfolding is_refused_under
named_fits (Ok b) m p i rows e h = h ∙ some_or_none (path_below i.name rows) ∙ ap (λ k. not (is_refused_under k p i rows)) (sym e)
named_fits (Err x) m p i rows e h = tt

pub named_after : {E : Type 0} (r : Result Bool E) (m : Mark) (p : List ℕ) (i : Item) (rows : List Row) → m ≡ Parent → IfOk r (λ done. IsTrue done → rows ≡ applied_under m p i rows)
unfolding applied_under
named_after (Ok b) m p i rows e = λ t. ap (λ k. applied_under k p i rows) (sym e)
named_after (Err x) m p i rows e = tt

named_is : (m : Mark) → is_parent m ≡ true → m ≡ Parent
named_is Parent e = refl
named_is Added e = absurd cc
named_is Removed e = absurd cc
named_is Changed e = absurd cc

-- the first item that names a parent
pub first_fits : {E : Type 0} (r : Result Bool E) (d : DiffItem) (p : Option (List ℕ)) (rows : List Row) → p ≡ None → is_parent d.mark ≡ true → IfOk r (λ has. has ≡ is_some (path_below d.item.name rows)) → IfOk r (λ done. done ≡ not (is_refused d p rows))
first_fits r d p rows n e h =
    let here : is_refused d p rows ≡ is_refused_under d.mark [] d.item rows = ap (λ q. is_refused d q rows) n ∙ rw e refl in
    subst (λ b. IfOk r (λ done. done ≡ not b)) (sym here) (named_fits r d.mark [] d.item rows (named_is d.mark e) h)

pub first_after : {E : Type 0} (r : Result Bool E) (d : DiffItem) (p : Option (List ℕ)) (rows : List Row) → p ≡ None → is_parent d.mark ≡ true → IfOk r (λ done. IsTrue done → rows ≡ item_applied d p rows)
first_after r d p rows n e = subst (λ q. IfOk r (λ done. IsTrue done → rows ≡ item_applied d q rows)) (sym n) (named_after r d.mark [] d.item rows (named_is d.mark e))

-- the items that are left, one by one
at_place : (ds : List DiffItem) (n : ℕ) (d : DiffItem) → n < length ds → d ≡ get_or ds n d → drop n ds ≡ d ∷ drop (n + 1) ds
at_place ds n d l e = drop-cons ds n d l ∙ rw (sym e, add-one) refl

pub next_texts : (ds : List DiffItem) (n : ℕ) (d : DiffItem) → n < length ds → d ≡ get_or ds n d → AreUtf8 (drop n ds) → TextsAreUtf8 d.item × AreUtf8 (drop (n + 1) ds)
next_texts ds n d l e h = subst AreUtf8 (at_place ds n d l e) h

pub next_from : (ds : List DiffItem) (n : ℕ) (d : DiffItem) (p : Option (List ℕ)) (rows : List Row) → n < length ds → d ≡ get_or ds n d → applied_from n p (drop n ds) rows ≡ cond (is_refused d p rows) (Err n) (applied_from (n + 1) (named_last d p) (drop (n + 1) ds) (item_applied d p rows))
next_from ds n d p rows l e = ap (λ xs. applied_from n p xs rows) (at_place ds n d l e)

pub utf8_push : (ds : List DiffItem) (d : DiffItem) → AreUtf8 ds → TextsAreUtf8 d.item → AreUtf8 (ds ++ d ∷ [])
utf8_push [] d h t = (t, tt)
utf8_push (x ∷ xs) d h t = (h.0, utf8_push xs d h.1 t)
