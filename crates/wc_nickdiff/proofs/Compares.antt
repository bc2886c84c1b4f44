-- The comparison of the rows of one key, and of one key after the other.
use Rattle.std.proofs.Common.{◌≡◌, ℕ, ◌+◌, ◌<◌, true, false, Option, Some, None, List, [], ◌∷◌, ◌++◌, length, get_or, take, refl, sym, ap, ◌∙◌, append-nil}
use Rattle.std.proofs.lemmas.List.{take_more}
use Rattle.std.proofs.lemmas.Grind.{flat_map-append}
use Rattle.wc_nicklist.specs.declared.item.Row.{Row}
use Rattle.wc_nicklist.specs.Rows.{find_row}
use Rattle.wc_nickdiff.specs.declared.diff_item.FirstTouch.{FirstTouch}
use Rattle.wc_nickdiff.specs.Compared.{keep, leaving_row, coming_row, changed_pair, listed_row, picked_rows}
use Rattle.wc_nickdiff.specs.NickPush.{stays}

-- a row that does not stay is out, and one that did not stay is in
pub out_whole : (told now : Option Row) → stays told now ≡ false → leaving_row told now ≡ told
out_whole None now e = refl
out_whole (Some r) now e = rw e refl

pub in_whole : (told now : Option Row) → stays told now ≡ false → coming_row told now ≡ now
in_whole told None e = refl
in_whole told (Some r) e = rw e refl

pub change_none : (told now : Option Row) → stays told now ≡ false → changed_pair told now ≡ None
change_none told None e = refl
change_none told (Some r) e = rw e refl

-- one that stays is neither
pub out_none : (told now : Option Row) → stays told now ≡ true → leaving_row told now ≡ None
out_none None now e = refl
out_none (Some r) now e = rw e refl

pub in_none : (told now : Option Row) → stays told now ≡ true → coming_row told now ≡ None
in_none told None e = refl
in_none told (Some r) e = rw e refl

-- the next key
pub picked_more : (pick : Option Row → Option Row → Option Row) (now : List Row) (ts : List FirstTouch) (n : ℕ) (t : FirstTouch) → n < length ts → t ≡ get_or ts n t → picked_rows pick now (take (n + 1) ts) ≡ picked_rows pick now (take n ts) ++ listed_row (pick t.before (find_row t.key now))
picked_more pick now ts n t l e =
    ap (picked_rows pick now) (take_more ts n t l ∙ ap (λ z. take n ts ++ z ∷ []) (sym e))
    ∙ flat_map-append (λ u. listed_row (pick u.before (find_row u.key now))) (take n ts) (t ∷ [])
    ∙ ap (λ l. picked_rows pick now (take n ts) ++ l) (append-nil (listed_row (pick t.before (find_row t.key now))))
