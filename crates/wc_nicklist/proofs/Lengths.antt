-- How many rows an edit leaves.
use Rattle.std.proofs.Common.{◌≡◌, ◌+◌, Option, Some, None, List, [], ◌∷◌, length, refl, sym, ap, ◌∙◌, arith}
use Rattle.wc_nicklist.specs.declared.item.Item.{Item}
use Rattle.wc_nicklist.specs.declared.item.Key.{Key}
use Rattle.wc_nicklist.specs.declared.item.Row.{Row}
use Rattle.wc_nicklist.specs.Order.{key, before}
use Rattle.wc_nicklist.specs.Rows.{key_eq, find_row, insert_row, remove_row, replace_row, changed_row, change_found, change_row, Keyed}
use Rattle.wc_nicklist.proofs.OrderLaws.{by_bool, key_eq-true}
use Rattle.wc_nicklist.proofs.Places.{absent_removed}

pub length-insert_row : (r : Row) (rows : List Row) → length (insert_row r rows) ≡ length rows + 1
length-insert_row r [] = refl
length-insert_row r (x ∷ xs) = by_bool (before r x) _
    (λ t. rw t (omega arith))
    (λ t. rw t (omega (arith, length-insert_row r xs)))

pub length-remove_row : (k : Key) (rows : List Row) (r : Row) → Keyed rows → find_row k rows ≡ Some r → length (remove_row k rows) + 1 ≡ length rows
length-remove_row k [] r h e = absurd cc
length-remove_row k (x ∷ xs) r h e = by_bool (key_eq (key x) k) _
    (λ t.
    let none : find_row k xs ≡ None = ap (λ z. find_row z xs) (sym (key_eq-true _ _ t)) ∙ h.0 in
    rw (t, absent_removed k xs none) (omega arith))
    (λ t. rw t (omega (arith, length-remove_row k xs r h.1 (rw t at e))))

length-replace_row : (r : Row) (rows : List Row) → length (replace_row r rows) ≡ length rows
length-replace_row r [] = refl
length-replace_row r (x ∷ xs) = by_bool (key_eq (key x) (key r)) _
    (λ t. rw t (omega (arith, length-replace_row r xs)))
    (λ t. rw t (omega (arith, length-replace_row r xs)))

pub length-change_row : (k : Key) (i : Item) (rows : List Row) → length (change_row k i rows) ≡ length rows
length-change_row k i rows = go (find_row k rows)
  where
    go : (o : Option Row) → length (change_found o i rows) ≡ length rows
    go None = refl
    go (Some r) = length-replace_row (changed_row r i) rows
