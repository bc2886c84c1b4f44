-- Addresses: an IPv4 address or `localhost`, a slash, and a port.
use Rattle.std.specs.Prelude.{ℕ, ◌+◌, ◌*◌, ◌==◌, bytes_eq, List, Option, Some, None}
use Rattle.std.specs.Prelude.{option_and_then, codes, if◌then◌else◌}
use Rattle.std.specs.List.{before_first, after_first}
use Rattle.wc_text.specs.declared.names.Address.{Address}
use Rattle.wc_options.specs.Number.{number_in}

-- what is before the first dot, and what comes after it
abbrev pub before_dot : List ℕ → List ℕ
before_dot text = before_first (λ byte. byte == 46) text

abbrev pub after_dot : List ℕ → List ℕ
after_dot text = after_first (λ byte. byte == 46) text

-- four numbers of one byte each as one number, the first in the highest byte
abbrev pub address_number : Option ℕ → Option ℕ → Option ℕ → Option ℕ → Option ℕ
address_number first second third fourth =
    option_and_then (λ a. option_and_then (λ b. option_and_then (λ c. option_and_then (λ d.
    Some (((a * 256 + b) * 256 + c) * 256 + d)) fourth) third) second) first

-- a dotted IPv4 address: four numbers up to 255
unfoldable pub ipv4_of : List ℕ → Option ℕ
ipv4_of text =
    let rest = after_dot text in let last = after_dot rest in
    address_number (number_in 0 255 (before_dot text)) (number_in 0 255 (before_dot rest))
    (number_in 0 255 (before_dot last)) (number_in 0 255 (after_dot last))

-- `localhost` is 127.0.0.1
abbrev pub host_of : List ℕ → Option ℕ
host_of text = if bytes_eq text (codes "localhost") then Some 2130706433 else ipv4_of text

-- the address that a text writes
unfoldable pub address_of : List ℕ → Option Address
address_of text =
    option_and_then (λ ip. option_and_then (λ port. Some (record { ip = ip; port = port }))
    (number_in 1 65535 (after_first (λ byte. byte == 47) text)))
    (host_of (before_first (λ byte. byte == 47) text))
