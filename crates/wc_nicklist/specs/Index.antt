-- The index from keys to the numbers of rows.
use Rattle.std.specs.Prelude.{ℕ, ◌+◌, ◌*◌, ◌<◌, Bool, ◌&&◌, Option, List, length}
use Rattle.std.specs.Prelude.{if◌then◌else◌, bytes_eq, nat_eq, nat_le, nat_lt}
use Rattle.std.specs.List.{list_all}
use Rattle.std.specs.HashMap.{HashMap, get_by, spare}
use Rattle.std.specs.declared.alloc.Global.{Global}
use Rattle.std.specs.declared.vec.Vec.{Vec}
use Rattle.wc_nicklist.specs.declared.by_name.IdsByName.{IdsByName}
use Rattle.wc_nicklist.specs.declared.index.Index.{Index}
use Rattle.wc_nicklist.specs.declared.item.Key.{Key}
use Rattle.wc_nicklist.specs.declared.store.RowId.{RowId}
use Rattle.wc_nicklist.specs.Digest.{front}

abbrev pub are_bytes : List ℕ → Bool
are_bytes name = list_all (λ b. nat_lt b 256) name

-- at most 15 bytes, which one number holds with how many there are
unfoldable pub is_short : List ℕ → Bool
is_short name = nat_le (length name) 15 && are_bytes name

unfoldable pub number : List ℕ → ℕ
number name = front 15 name * 256 + length name

-- what is under a number, and under the bytes of a name
abbrev pub at_short : {X S : Type 0} → HashMap ℕ X S → ℕ → Option X
at_short m n = get_by (λ k. nat_eq n k) m

abbrev pub at_long : {X S : Type 0} → HashMap (Vec ℕ Global) X S → List ℕ → Option X
at_long m name = get_by (λ k. bytes_eq name k.items) m

unfoldable pub at_name : IdsByName → List ℕ → Option RowId
at_name p name = if is_short name then at_short p.short (number name) else at_long p.long name

-- one more name comes in without taking memory
abbrev pub HasNameRoom : IdsByName → Type 0
HasNameRoom p = (0 < spare p.short) × (0 < spare p.long)

abbrev pub id_in : Index → Key → Option RowId
id_in i k = if k.is_group then at_name i.groups k.name else at_name i.nicks k.name

-- one more group or nick comes in without taking memory
abbrev pub IndexHasRoom : Index → Type 0
IndexHasRoom i = HasNameRoom i.groups × HasNameRoom i.nicks
