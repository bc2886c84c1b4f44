-- The order of names, of keys and of rows.
use Rattle.std.specs.Prelude.{ℕ, Bool, true, false, List, [], ◌∷◌, ◌++◌, map}
use Rattle.std.specs.Cmp.Lexicographic.{slice_cmp}
use Rattle.std.specs.Ordering.{nat_cmp, ordering_then, is_lt}
use Rattle.std.specs.declared.cmp.Ordering.{Ordering}
use Rattle.wc_text.specs.Order.{fold_order}
use Rattle.wc_nicklist.specs.declared.item.Item.{Item}
use Rattle.wc_nicklist.specs.declared.item.Key.{Key}
use Rattle.wc_nicklist.specs.declared.item.Row.{Row}

-- nicks are before groups
abbrev pub kind : Bool → ℕ
kind false = 0
kind true = 1

abbrev pub key_cmp : Key → Key → Ordering
key_cmp a b = ordering_then (nat_cmp (kind a.is_group) (kind b.is_group)) (fold_order a.name b.name)

abbrev pub key_at : Bool → List ℕ → Key
key_at is_group name = record { is_group = is_group; name = name }

abbrev pub key_of : Item → Key
key_of i = record { is_group = i.is_group; name = i.name }

abbrev pub key : Row → Key
key r = key_of r.item

abbrev pub group_key : List ℕ → Key
group_key name = record { is_group = true; name = name }

-- the keys from below the root down to a key under this path
abbrev pub address_of : List (List ℕ) → Key → List Key
address_of path k = map group_key path ++ k ∷ []

abbrev pub address : Row → List Key
address r = address_of r.path (key r)

-- The canonical order: a group, its nicks, then its child groups, each by name.
unfoldable pub address_cmp : List Key → List Key → Ordering
address_cmp a b = slice_cmp key_cmp a b

-- whether a row is before what has this address
abbrev pub is_before : Row → List Key → Bool
is_before r a = is_lt (address_cmp (address r) a)

unfoldable pub before : Row → Row → Bool
before a b = is_before a (address b)
