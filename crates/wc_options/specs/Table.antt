-- The options, in the order in which the file has them.
use Rattle.std.specs.Prelude.{ℕ, Option, Some, None, List, [], ◌∷◌, ◌++◌, bytes_eq, codes, position}
use Rattle.std.specs.Prelude.{slice_index_or}
use Rattle.wc_options.specs.declared.kind.Kind.{Kind}
use Rattle.wc_options.specs.declared.kind.Kind.TheVariants.{Number, Text, Filled, Word, Switch}
use Rattle.wc_options.specs.declared.kind.Kind.TheVariants.{Endpoint}
use Rattle.wc_options.specs.declared.table.Row.{Row}

-- an option: its name, what its values have to be, its value where none is set, and the words that
-- tell a user which values it takes
pub record OptionRow : Type 0 where
  pub name : List ℕ
  pub kind : Kind
  pub default : List ℕ
  pub range : List ℕ

-- the same in the code
abbrev pub row_of : Row → OptionRow
row_of row = record {
  name = row.name.now;
  kind = row.kind;
  default = row.default.now;
  range = row.range.now;
}

abbrev pub option : List ℕ → Kind → List ℕ → List ℕ → OptionRow
option name kind default range = record {
  name = name;
  kind = kind;
  default = default;
  range = range;
}

-- the options of the program
unfoldable pub globals : List OptionRow
globals =
    option (codes "weechat.history.max_buffer_lines_number") (Number 1 4096) (codes "4096")
    (codes "1 to 4096")
    ∷ option (codes "relay.network.password") Text [] (codes "text")
    ∷ option (codes "relay.network.password_hash_algo") Text (codes "*")
    (codes "masks joined by commas")
    ∷ option (codes "relay.network.max_clients") (Number 1 64) (codes "5") (codes "1 to 64")
    ∷ option (codes "relay.network.max_unsent") (Number 0 4096) (codes "0") (codes "0 to 4096")
    ∷ option (codes "relay.network.handles") Text (codes "counted")
    (codes "counted, fresh, read at the start")
    ∷ option (codes "relay.port.weechat") (Number 1 65535) (codes "9000")
    (codes "1 to 65535, read at the start")
    ∷ option (codes "irc.look.private_max") (Number 1 256) (codes "256")
    (codes "1 to 256, read at the start")
    ∷ option (codes "irc.server_default.nicks") Filled (codes "weechat") (codes "text, not empty")
    ∷ option (codes "irc.server_default.realname") Filled (codes "weechat")
    (codes "text, not empty")
    ∷ option (codes "irc.server_default.username") Word (codes "weechat") (codes "one word")
    ∷ option (codes "irc.server_default.password") Text [] (codes "text")
    ∷ option (codes "irc.server_default.autojoin") Text [] (codes "text")
    ∷ option (codes "irc.server_default.autoconnect") Switch (codes "off") (codes "on, off")
    ∷ option (codes "irc.server_default.tls") Switch (codes "on") (codes "on, off")
    ∷ option (codes "irc.server_default.sasl_username") Text [] (codes "text")
    ∷ option (codes "irc.server_default.sasl_password") Text [] (codes "text")
    ∷ option (codes "irc.server_default.sasl_fail") Text (codes "continue") (codes "continue, disconnect")
    ∷ option (codes "irc.server_default.capabilities") Text [] (codes "words")
    ∷ []

-- the options of each server, by the last part of their names
unfoldable pub of_server : List OptionRow
of_server =
    option (codes "addresses") Endpoint [] (codes "address/port")
    ∷ option (codes "nicks") Filled (codes "weechat") (codes "text, not empty")
    ∷ option (codes "username") Word (codes "weechat") (codes "one word")
    ∷ option (codes "realname") Filled (codes "weechat") (codes "text, not empty")
    ∷ option (codes "password") Text [] (codes "text")
    ∷ option (codes "autojoin") Text [] (codes "text")
    ∷ option (codes "autoconnect") Switch (codes "off") (codes "on, off")
    ∷ option (codes "tls") Switch (codes "on") (codes "on, off")
    ∷ option (codes "sasl_username") Text [] (codes "text")
    ∷ option (codes "sasl_password") Text [] (codes "text")
    ∷ option (codes "sasl_fail") Text (codes "continue") (codes "continue, disconnect")
    ∷ option (codes "capabilities") Text [] (codes "words")
    ∷ []

-- the place of the option with a name
unfoldable pub place_in : List ℕ → List OptionRow → Option ℕ
place_in name rows = position (λ row. bytes_eq row.name name) rows

-- the option at a place
abbrev pub no_row : OptionRow
no_row = option [] Text [] []

abbrev pub row_at : List OptionRow → ℕ → OptionRow
row_at rows place = slice_index_or rows place no_row
