-- The rows of a nicklist are read from its full list.
use Rattle.std.proofs.Common.{◌≡◌, ℕ, ◌<◌, ◌≤◌, Bool, true, false, ◌&&◌, eqb, Some, List, [], ◌∷◌, length, refl, sym, ap, ◌∙◌, arith}
use Rattle.std.specs.Prelude.{is_none}
use Rattle.std.specs.List.{list_all}
use Rattle.std.proofs.lemmas.Bool.{eq-eqb}
use Rattle.std.proofs.lemmas.Bool.Decides.{nat_tests}
use Rattle.wc_text.specs.declared.names.Handle.{Handle}
use Rattle.wc_nicklist.specs.declared.item.Key.{Key}
use Rattle.wc_nicklist.specs.declared.item.Row.{Row}
use Rattle.wc_nicklist.specs.Order.{key, before}
use Rattle.wc_nicklist.specs.Rows.{key_eq, find_row, is_root, parent_of, path_below, level_at, AllAfter, Ascending, Keyed, IsListedRow, IsRows}
use Rattle.wc_nicklist.specs.Calls.{is_bad_name, name_refusal}
use Rattle.wc_nicklist.proofs.OrderLaws.{by_bool, key_eq-true, key_eq-same, path_eq-same}
use Rattle.wc_nickdiff.specs.NickPush.{root_item, full_list}
use Rattle.wc_nickdiff.proofs.PushLaw.{kept}
use Rattle.wc_nickdiff.proofs.FullLaw.{full_law}
use Rattle.wc_nickdiff.proofs.Split.{no_row}
use Rattle.wc_view.specs.NickFold.{are_ascending, are_keyed, is_path, may_be_listed, are_rows, is_root_item, rows_if, rows_listed}

both : (a b : Bool) → a ≡ true → b ≡ true → (a && b) ≡ true
both a b x y = ap (λ c. c && b) x ∙ y

all_after : (x : Row) (ys : List Row) → AllAfter x ys → list_all (λ y. before x y) ys ≡ true
all_after x [] following = refl
all_after x (y ∷ ys) following = both (before x y) (list_all (λ y. before x y) ys) following.0 (all_after x ys following.1)

ascending : (rows : List Row) → Ascending rows → are_ascending rows ≡ true
ascending [] up = refl
ascending (x ∷ xs) up = both (list_all (λ y. before x y) xs) (are_ascending xs) (all_after x xs up.0) (ascending xs up.1)

keyed : (rows : List Row) → Keyed rows → are_keyed rows ≡ true
keyed [] once = refl
keyed (x ∷ xs) once = both (is_none (find_row (key x) xs)) (are_keyed xs) (ap is_none once.0) (keyed xs once.1)

-- each row is the one of its key
all_found : (test : Row → Bool) (rows : List Row) → Keyed rows → ((k : Key) (r : Row) → find_row k rows ≡ Some r → test r ≡ true) → list_all test rows ≡ true
all_found test [] once holds = refl
all_found test (x ∷ xs) once holds =
    both (test x) (list_all test xs) (holds (key x) x (rw (key_eq-same (key x)) refl)) (all_found test xs once.1 (λ k r found. holds k r (later k r found)))
  where
    later : (k : Key) (r : Row) → find_row k xs ≡ Some r → find_row k (x ∷ xs) ≡ Some r
    later k r found = by_bool (key_eq (key x) k) _
        (λ t. no_row r (sym found ∙ ap (λ q. find_row q xs) (sym (key_eq-true (key x) k t)) ∙ once.0))
        (λ t. rw t found)

not_bad : (name : List ℕ) → (0 < length name) × (length name ≤ 64) → is_bad_name name ≡ false
not_bad name bounds = let a = bounds.0 in let b = bounds.1 in grind (arith, nat_tests)

named : (is_group : Bool) (name : List ℕ) → (is_group && is_root name) ≡ false → is_bad_name name ≡ false → is_none (name_refusal is_group name) ≡ true
unfolding name_refusal
named is_group name no_root good = rw (no_root, good) refl

stands : (rows : List Row) (r : Row) → IsListedRow rows r → may_be_listed rows r ≡ true
stands rows r held =
    both (is_path (path_below (parent_of r) rows) r.path) _ (ap (λ found. is_path found r.path) held.parent ∙ path_eq-same r.path)
    (both (eqb r.item.level (level_at r.item.is_group r.path)) (is_none (name_refusal r.item.is_group r.item.name)) (eq-eqb r.item.level (level_at r.item.is_group r.path) held.level)
    (named r.item.is_group r.item.name held.no_root (not_bad r.item.name held.named)))

rows_hold : (rows : List Row) → IsRows rows → are_rows rows ≡ true
unfolding are_rows
rows_hold rows ok =
    both (are_ascending rows) _ (ascending rows ok.ascending)
    (both (are_keyed rows) (list_all (may_be_listed rows) rows) (keyed rows ok.keyed) (all_found (may_be_listed rows) rows ok.keyed (λ k r found. stands rows r (ok.held k r found))))

pub listed : (root : Handle) (rows : List Row) → IsRows rows → rows_listed (full_list (root_item root) rows) ≡ Some rows
unfolding rows_listed
listed root rows ok =
    ap (λ read. rows_if (is_root_item (root_item root) && are_rows read) read) (full_law (root_item root) rows (kept rows ok))
    ∙ ap (λ b. rows_if b rows) (both (is_root_item (root_item root)) (are_rows rows) refl (rows_hold rows ok))
