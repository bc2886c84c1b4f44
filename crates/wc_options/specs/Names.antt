-- Which option a name names.
use Rattle.std.specs.Prelude.{ℕ, Bool, ◌==◌, ◌&&◌, ◌||◌, ◌<◌, ◌≡◌, ⊤, true, nat_le}
use Rattle.std.specs.Prelude.{bytes_eq, length, take, drop, List, [], ◌∷◌, Option, Some, None}
use Rattle.std.specs.Prelude.{option_map, codes, if◌then◌else◌}
use Rattle.std.specs.List.{list_all}
use Rattle.wc_options.specs.Address.{before_dot, after_dot}
use Rattle.wc_options.specs.Table.{OptionRow, globals, of_server, place_in, row_at}

-- an option of the program by its place in the table, or an option of a server by the server's name
-- and its place in that table
pub data Located : Type 0 where
  AtGlobal : ℕ → Located
  AtServer : List ℕ → ℕ → Located

-- `a` to `z`, `0` to `9`, `_` or `-`
abbrev pub is_server_byte : ℕ → Bool
is_server_byte byte = (nat_le 97 byte && nat_le byte 122) || (nat_le 48 byte && nat_le byte 57)
    || byte == 95 || byte == 45

-- a server's name has 1 to 32 of these
unfoldable pub is_server_name : List ℕ → Bool
is_server_name name = nat_le 1 (length name) && nat_le (length name) 32
    && list_all is_server_byte name

abbrev pub server_prefix : List ℕ
server_prefix = codes "irc.server."

-- NAME.X
abbrev pub located_of_server : List ℕ → Option Located
located_of_server rest =
    if is_server_name (before_dot rest) then option_map (AtServer (before_dot rest))
    (place_in (after_dot rest) of_server) else None

-- the option that a name names: `irc.server.NAME.X` is an option of a server, and every other name
-- is looked up among the options of the program
unfoldable pub located : List ℕ → Option Located
located name =
    if bytes_eq (take 11 name) server_prefix then located_of_server (drop 11 name)
    else option_map AtGlobal (place_in name globals)

-- its row in the table
abbrev pub row_of_located : Located → OptionRow
row_of_located (AtGlobal place) = row_at globals place
row_of_located (AtServer server place) = row_at of_server place

-- it is in the table
abbrev pub IsInTable : Located → Type 0
IsInTable (AtGlobal place) = place < 19
IsInTable (AtServer server place) = place < 12

-- the server that it names may have that name
abbrev pub IsNamed : Located → Type 0
IsNamed (AtGlobal place) = ⊤
IsNamed (AtServer server place) = is_server_name server ≡ true
