-- The texts of what is pushed are those of the rows that were told and of the rows now.
use Rattle.std.proofs.Common.{◌≡◌, ℕ, ◌+◌, not, nat_lt, List, [], ◌∷◌, ◌++◌, map, reverse, length, Option, Some, None, refl, All}
use Rattle.std.specs.List.{AllByRecursion}
use Rattle.std.proofs.lemmas.List.{reverse-append}
use Rattle.std.proofs.lemmas.List.Elements.{All-filter, All-append, All-map, All-weaker, All-same, All-push, All-head, All-tail, recursion_from_All, All-from_recursion}
use Rattle.wc_text.specs.declared.names.Handle.{Handle}
use Rattle.wc_nicklist.specs.declared.item.Item.{Item}
use Rattle.wc_nicklist.specs.declared.item.Key.{Key}
use Rattle.wc_nicklist.specs.declared.item.Row.{Row}
use Rattle.wc_nicklist.specs.Order.{key, group_key}
use Rattle.wc_nicklist.specs.Rows.{find_row, is_root, parent_of, IsRows, TextsAreUtf8}
use Rattle.wc_nicklist.proofs.OrderLaws.{by_bool}
use Rattle.wc_nickdiff.specs.declared.diff_item.DiffItem.{DiffItem}
use Rattle.wc_nickdiff.specs.declared.diff_item.Mark.{Mark}
use Rattle.wc_nickdiff.specs.declared.diff_item.Mark.TheVariants.{Removed, Added, Changed}
use Rattle.wc_nickdiff.specs.Apply.{AreUtf8}
use Rattle.wc_nickdiff.specs.NickPush.{Op, op, ops, stays, change_list, is_group, is_nick, item_or, group_item, root_item, same_name, with_parents, push_of, nick_push}
use Rattle.wc_events.specs.NickForms.{IsPushText}
use Rattle.wc_events.proofs.NicksFormed.{texts_of_rows, texts_of_root, texts_of_full}

abbrev RowText : Row → Type 0
RowText r = TextsAreUtf8 r.item

abbrev OpText : Op → Type 0
OpText o = TextsAreUtf8 o.parent × TextsAreUtf8 o.item

all_reverse : {X : Type 0} (P : X → Type 0) (xs : List X) → All P xs → All P (reverse xs)
all_reverse P [] h = h
all_reverse P (x ∷ xs) h =
    All-same P (reverse (x ∷ xs)) (reverse xs ++ x ∷ []) (reverse-append (x ∷ []) xs)
    (All-push P (reverse xs) x (all_reverse P xs (All-tail P x xs h)) (All-head P x xs h))

group_text : (root : Item) (found : Key → Option Row) (name : List ℕ) → TextsAreUtf8 root → ((q : Key) (r : Row) → found q ≡ Some r → RowText r) → TextsAreUtf8 (group_item root found name)
group_text root found name h each = by_bool (is_root name) _ (λ t. rw t h) (λ t. rw t (by (found (group_key name)) refl))
  where
    by : (o : Option Row) → found (group_key name) ≡ o → TextsAreUtf8 (item_or root o)
    by None e = h
    by (Some r) e = each (group_key name) r e

-- the items of rows, under groups that are found
each_op : (mark : Mark) (root : Item) (found : Key → Option Row) (rs : List Row) → TextsAreUtf8 root → ((q : Key) (r : Row) → found q ≡ Some r → RowText r) → All RowText rs → All OpText (map (op mark root found) rs)
each_op mark root found rs h each all =
    All-map OpText (op mark root found) rs (All-weaker RowText (λ r. OpText (op mark root found r)) (λ r t. (group_text root found (parent_of r) h each, t)) rs all)

found_text : (rows : List Row) → IsRows rows → (q : Key) (r : Row) → find_row q rows ≡ Some r → RowText r
found_text rows are q r e = (are.held q r e).utf8

all_texts : (rows : List Row) → IsRows rows → All RowText rows
all_texts rows are = All-from_recursion RowText rows (texts_of_rows rows are)

ops_text : (root : Handle) (told now : List Row) → IsRows told → IsRows now → All OpText (ops (root_item root) told now)
ops_text root told now was is =
    let h = texts_of_root root in
    let out = All-filter (λ r. not (stays (Some r) (find_row (key r) now))) RowText told (all_texts told was) in
    let came = All-filter (λ r. not (stays (find_row (key r) told) (Some r))) RowText now (all_texts now is) in
    let differ = All-filter (λ r. change_list (find_row (key r) told) (Some r)) RowText now (all_texts now is) in
    All-append OpText _ _ (each_op Removed (root_item root) (λ q. find_row q told) _ h (found_text told was) (All-filter is_nick RowText _ out))
    (All-append OpText _ _ (each_op Removed (root_item root) (λ q. find_row q told) _ h (found_text told was) (all_reverse RowText _ (All-filter is_group RowText _ out)))
    (All-append OpText _ _ (each_op Added (root_item root) (λ q. find_row q now) _ h (found_text now is) (All-filter is_group RowText _ came))
    (All-append OpText _ _ (each_op Added (root_item root) (λ q. find_row q now) _ h (found_text now is) (All-filter is_nick RowText _ came))
    (each_op Changed (root_item root) (λ q. find_row q now) _ h (found_text now is) differ))))

with_parents_text : (p : Option (List ℕ)) (os : List Op) → AllByRecursion OpText os → AreUtf8 (with_parents p os)
with_parents_text p [] h = tt
with_parents_text p (o ∷ os) h = by_bool (same_name p o.under) _
    (λ t. rw t (h.0.1, with_parents_text p os h.1))
    (λ t. rw t (h.0.0, (h.0.1, with_parents_text (Some o.under) os h.1)))

push_of_text : (root : Handle) (ds : List DiffItem) (now : List Row) → IsRows now → AreUtf8 ds → IsPushText (push_of (root_item root) ds now)
push_of_text root [] now is h = tt
push_of_text root (d ∷ ds) now is h = by_bool (nat_lt (length (d ∷ ds)) (length now + 1)) _ (λ t. rw t h) (λ t. rw t (texts_of_full root now is))

pub push_text : (root : Handle) (told now : List Row) → IsRows told → IsRows now → IsPushText (nick_push root told now)
push_text root told now was is =
    push_of_text root _ now is (with_parents_text None (ops (root_item root) told now) (recursion_from_All OpText _ (ops_text root told now was is)))
