-- What holds of all options at every time.
use Rattle.std.specs.Prelude.{◌≡◌, ◌≤◌, ℕ, true, false, length, List, [], ◌∷◌, map, Option, Some}
use Rattle.std.specs.Prelude.{None, ⊤}
use Rattle.std.specs.Str.{IsUtf8}
use Rattle.wc_options.specs.Names.{is_server_name}
use Rattle.wc_options.specs.Options.{ServerOptions, OptionsValue, own_at_first, has_server}
use Rattle.wc_options.specs.Table.{OptionRow, globals, of_server}
use Rattle.wc_options.specs.Values.{value_fits}

-- a value that is set is a text that fits its option, and one is set where the option has one at
-- first
abbrev pub Fits : (OptionRow → Option (List ℕ)) → OptionRow → Option (List ℕ) → Type 0
Fits first row None = first row ≡ None
Fits first row (Some value) = (value_fits row.kind value ≡ true) × IsUtf8 value

-- this holds at each option of a table
abbrev pub FitAll : (OptionRow → Option (List ℕ)) → List OptionRow → List (Option (List ℕ)) → Type 0
FitAll first [] [] = ⊤
FitAll first [] (value ∷ values) = ⊥
FitAll first (row ∷ rows) [] = ⊥
FitAll first (row ∷ rows) (value ∷ values) = Fits first row value × FitAll first rows values

-- an option of the program has no value at first
abbrev pub unset_at_first : OptionRow → Option (List ℕ)
unset_at_first row = None

-- the servers have names that a server may have, each its own, and values that fit
abbrev pub AreServers : List ServerOptions → Type 0
AreServers [] = ⊤
AreServers (server ∷ servers) =
    (is_server_name server.name ≡ true) × FitAll own_at_first of_server server.own
    × (has_server server.name servers ≡ false) × AreServers servers

pub record AreOptionsKept (options : OptionsValue) : Type 0 where
  pub set_fit : FitAll unset_at_first globals options.set
  pub servers_fit : AreServers options.servers
  pub few : length options.servers ≤ 64

-- and of what is stored beside them: the defaults, and the servers' names
pub record AreTextsStored (options : OptionsValue) (defaults : List (List ℕ)) (no_address : List ℕ)
    (names : List (List ℕ)) : Type 0 where
  pub kept : AreOptionsKept options
  pub defaults_are : defaults ≡ map (λ (row : OptionRow). row.default) globals
  pub no_address_is : no_address ≡ []
  pub names_are : names ≡ map (λ (server : ServerOptions). server.name) options.servers
