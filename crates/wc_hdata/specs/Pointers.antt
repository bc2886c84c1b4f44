-- What contracts see of pointers whose bytes are counted.
use Rattle.std.specs.Prelude.{◌≡◌, ℕ, ◌^◌, ◌<◌, ◌≤◌, List, length}
use Rattle.std.specs.List.{All}
use Rattle.wc_hdata.specs.declared.pointers.Pointers.TheInside.{Inside}
use Rattle.wc_hdata.specs.WalkBytes.{pointers_bytes}

abbrev pub pointers_of : Inside → List ℕ
pointers_of pointers = pointers.items.items

-- a number of 64 bits
abbrev pub IsPointer : ℕ → Type 0
IsPointer pointer = pointer < 2 ^ 64

-- the bytes that spell the pointers are counted, which are few enough for that
pub record AreSpelled (pointers : Inside) : Type 0 where
  pub bytes : pointers.bytes ≡ length (pointers_bytes pointers.items.items)
  pub few : length pointers.items.items ≤ 2 ^ 32
  pub numbers : All IsPointer pointers.items.items
