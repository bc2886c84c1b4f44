-- The options as a map from names to values, and what each call makes of them.
use Rattle.std.specs.Prelude.{ℕ, Bool, true, false, ◌&&◌, not, nat_le, bytes_eq, length, List, []}
use Rattle.std.specs.Prelude.{◌∷◌, ◌++◌, map, slice_set, slice_index_or, find, Option, Some, None}
use Rattle.std.specs.Prelude.{is_some, option_map, option_and_then, unwrap_or, codes, if◌then◌else◌}
use Rattle.std.specs.Option.{option_map_or}
use Rattle.wc_options.specs.Names.{Located, AtGlobal, AtServer, located, row_of_located}
use Rattle.wc_options.specs.Table.{OptionRow, globals, of_server, place_in, row_at}
use Rattle.wc_options.specs.Values.{value_fits}
use Rattle.wc_options.specs.declared.refusal.SetRefused.{SetRefused}
use Rattle.wc_options.specs.declared.refusal.SetRefused.TheVariants.{UnknownOption, BadValue}
use Rattle.wc_options.specs.declared.refusal.SetRefused.TheVariants.{TooManyServers}

-- a server's name and, in the order of the table, the value of each of its options, where one is
-- set
pub record ServerOptions : Type 0 where
  pub name : List ℕ
  pub own : List (Option (List ℕ))

-- the value of each option of the program in the order of the table, where one is set, and the
-- servers in the order of their making
pub record OptionsValue : Type 0 where
  pub set : List (Option (List ℕ))
  pub servers : List ServerOptions

-- ---- what is there where none is set

-- the option whose value a server's option takes where it has none of its own
abbrev pub stands_for : OptionRow → Option ℕ
stands_for row = place_in (codes "irc.server_default." ++ row.name) globals

-- `addresses`, which takes no other option's value, is always set, at first to its default
abbrev pub own_at_first : OptionRow → Option (List ℕ)
own_at_first row = if is_some (stands_for row) then None else Some row.default

abbrev pub fresh_server : List ℕ → ServerOptions
fresh_server name = record { name = name; own = map own_at_first of_server }

abbrev pub no_server : ServerOptions
no_server = record { name = []; own = [] }

unfoldable pub fresh : OptionsValue
fresh = record { set = map (λ (row : OptionRow). None) globals; servers = [] }

-- ---- the value that counts

abbrev pub global_value : OptionsValue → ℕ → List ℕ
global_value options place = unwrap_or (slice_index_or options.set place None)
    (row_at globals place).default

abbrev pub server_value : OptionsValue → ServerOptions → ℕ → List ℕ
server_value options server place =
    let row = row_at of_server place in
    unwrap_or (slice_index_or server.own place None)
    (unwrap_or (option_map (global_value options) (stands_for row)) row.default)

abbrev pub is_named : List ℕ → ServerOptions → Bool
is_named name server = bytes_eq server.name name

-- whether a server has this name
abbrev pub has_server : List ℕ → List ServerOptions → Bool
has_server name servers = is_some (find (is_named name) servers)

abbrev pub value_at : OptionsValue → Located → Option (List ℕ)
value_at options (AtGlobal place) = Some (global_value options place)
value_at options (AtServer name place) = option_map (λ server. server_value options server place)
    (find (is_named name) options.servers)

-- the value of the option with a name; the options of a server are there where the server is
unfoldable pub value_of : OptionsValue → List ℕ → Option (List ℕ)
value_of options name = option_and_then (value_at options) (located name)

-- ---- setting a value

abbrev pub most_servers : ℕ
most_servers = 64

-- whether a value there makes a server
abbrev pub makes_server : OptionsValue → Located → Bool
makes_server options (AtGlobal place) = false
makes_server options (AtServer name place) = not (has_server name options.servers)

abbrev pub refusal_at : OptionsValue → List ℕ → Located → Option SetRefused
refusal_at options value place =
    if not (value_fits (row_of_located place).kind value)
    then Some (BadValue (row_of_located place).range)
    else if makes_server options place && nat_le most_servers (length options.servers)
    then Some (TooManyServers most_servers)
    else None

abbrev pub refusal_in : OptionsValue → List ℕ → Option Located → Option SetRefused
refusal_in options value None = Some UnknownOption
refusal_in options value (Some place) = refusal_at options value place

-- why a value is refused: the name is none of an option, the value is none of it, or it would make
-- one server too many
unfoldable pub refusal_of : OptionsValue → List ℕ → List ℕ → Option SetRefused
refusal_of options name value = refusal_in options value (located name)

abbrev pub with_own : ℕ → Option (List ℕ) → ServerOptions → ServerOptions
with_own place value server = record server { own = slice_set server.own place value }

-- the server with this name has the value, and where there is none it is made after the others
abbrev pub put_own : List ℕ → ℕ → List ℕ → List ServerOptions → List ServerOptions
put_own name place value [] = with_own place (Some value) (fresh_server name) ∷ []
put_own name place value (server ∷ servers) =
    if is_named name server then with_own place (Some value) server ∷ servers
    else server ∷ put_own name place value servers

abbrev pub with_value_at : OptionsValue → List ℕ → Located → OptionsValue
with_value_at options value (AtGlobal place) =
    record options { set = slice_set options.set place (Some value) }
with_value_at options value (AtServer name place) =
    record options { servers = put_own name place value options.servers }

-- the options with a value set
unfoldable pub with_value : OptionsValue → List ℕ → List ℕ → OptionsValue
with_value options name value = option_map_or (with_value_at options value) (located name) options

-- whether setting the option with a name makes a server
unfoldable pub makes : OptionsValue → List ℕ → Bool
makes options name = option_map_or (makes_server options) (located name) false

-- ---- unsetting

-- the server with this name has its first value there again
abbrev pub reset_own : List ℕ → ℕ → List ServerOptions → List ServerOptions
reset_own name place [] = []
reset_own name place (server ∷ servers) =
    if is_named name server then with_own place (own_at_first (row_at of_server place)) server ∷
    servers else server ∷ reset_own name place servers

abbrev pub reset_at : OptionsValue → Located → OptionsValue
reset_at options (AtGlobal place) = record options { set = slice_set options.set place None }
reset_at options (AtServer name place) =
    record options { servers = reset_own name place options.servers }

-- the options with one of them at its default
unfoldable pub without_value : OptionsValue → List ℕ → OptionsValue
without_value options name = option_map_or (reset_at options) (located name) options

-- ---- taking a server away

-- the servers without the one with this name
abbrev pub without : List ℕ → List ServerOptions → List ServerOptions
without name [] = []
without name (server ∷ servers) = if is_named name server then servers
    else server ∷ without name servers
