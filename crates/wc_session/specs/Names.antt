-- How a client names a buffer.
use Rattle.std.specs.Prelude.{ℕ, ◌^◌, Bool, ◌&&◌, nat_lt, nat_eq, List, length, drop, Option, Some}
use Rattle.std.specs.Prelude.{None, codes, if◌then◌else◌}
use Rattle.std.specs.List.{list_all, starts_with}
use Rattle.std.specs.Char.{digit_value}
use Rattle.std.specs.Str.Parse.{digits_value}
use Rattle.wc_text.specs.declared.names.Handle.{Handle}
use Rattle.wc_buffers.specs.Calls.{EntryGroups, is_there, handle_of_name}

-- one hex digit or more, of either case, and nothing else
abbrev pub is_hex_numeral : List ℕ → Bool
is_hex_numeral digits = nat_lt 0 (length digits) && list_all (λ c. nat_lt (digit_value c) 16) digits

-- the number that hex digits write, where a handle can have it
unfoldable pub hex_number : List ℕ → Option ℕ
hex_number digits = if is_hex_numeral digits && nat_lt (digits_value 16 digits) (2 ^ 64)
    then Some (digits_value 16 digits) else None

-- the handle that `0x` and hex digits name
abbrev pub handle_named : List ℕ → Option ℕ
handle_named name = if starts_with nat_eq name (codes "0x") then hex_number (drop 2 name) else None

-- the buffer of a handle, where it is there
abbrev pub if_there : EntryGroups → ℕ → Option Handle
if_there groups handle = if is_there (record { 0 = handle }) groups
    then Some (record { 0 = handle }) else None

abbrev pub named_by : EntryGroups → List ℕ → Option ℕ → Option Handle
named_by groups name None = handle_of_name name groups
named_by groups name (Some handle) = if_there groups handle

-- the buffer that a text names, by its handle or by its full name
unfoldable pub buffer_named : EntryGroups → List ℕ → Option Handle
buffer_named groups name = named_by groups name (handle_named name)
