-- Which values an option may have.
use Rattle.std.specs.Prelude.{ℕ, Bool, true, false, ◌==◌, ◌&&◌, ◌||◌, not, nat_le, bytes_eq, length}
use Rattle.std.specs.Prelude.{List, [], ◌∷◌, is_some, codes}
use Rattle.std.specs.List.{list_all}
use Rattle.wc_options.specs.Address.{address_of}
use Rattle.wc_options.specs.Number.{number_in}
use Rattle.wc_options.specs.declared.kind.Kind.{Kind}
use Rattle.wc_options.specs.declared.kind.Kind.TheVariants.{Number, Text, Filled, Word, Switch}
use Rattle.wc_options.specs.declared.kind.Kind.TheVariants.{Endpoint}

-- no value has CR, LF or NUL
abbrev pub is_storable_byte : ℕ → Bool
is_storable_byte byte = not (byte == 13) && not (byte == 10) && not (byte == 0)

-- a value has at most 1,024 bytes
unfoldable pub is_storable : List ℕ → Bool
is_storable value = nat_le (length value) 1024 && list_all is_storable_byte value

-- one word is not empty, does not begin with a colon, and has no blank
unfoldable pub is_word : List ℕ → Bool
is_word [] = false
is_word (byte ∷ bytes) = not (byte == 58) && list_all (λ c. not (c == 32)) (byte ∷ bytes)

unfoldable pub is_switch : List ℕ → Bool
is_switch value = bytes_eq value (codes "on") || bytes_eq value (codes "off")

-- whether a value is of a kind
abbrev pub is_of_kind : Kind → List ℕ → Bool
is_of_kind (Number lowest highest) value = is_some (number_in lowest highest value)
is_of_kind Text value = true
is_of_kind Filled value = not (length value == 0)
is_of_kind Word value = is_word value
is_of_kind Switch value = is_switch value
is_of_kind Endpoint value = length value == 0 || is_some (address_of value)

-- whether a value may be at an option of a kind
unfoldable pub value_fits : Kind → List ℕ → Bool
value_fits kind value = is_storable value && is_of_kind kind value
