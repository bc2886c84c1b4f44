-- A server when its connection is begun: what its options give, or why it is not connected.
use Rattle.std.specs.Prelude.{ℕ, Bool, false, ◌&&◌, nat_le, List, [], ◌++◌, length, filter, drop}
use Rattle.std.specs.Prelude.{bytes_eq, codes, unwrap_or, Option, Some, None, Result, Ok, Err}
use Rattle.std.specs.Prelude.{option_and_then, if◌then◌else◌}
use Rattle.wc_text.specs.declared.names.Address.{Address}
use Rattle.wc_options.specs.Address.{address_of}
use Rattle.wc_options.specs.Number.{number_in}
use Rattle.wc_options.specs.Options.{OptionsValue, value_of}
use Rattle.wc_irc.specs.declared.refused.ServerRefused.{ServerRefused}
use Rattle.wc_irc.specs.declared.refused.ServerRefused.TheVariants.{TlsOn, BadAddress}
use Rattle.wc_irc_texts.specs.declared.negotiation.Negotiation.{Negotiation}
use Rattle.wc_irc_texts.specs.Features.{default_features}
use Rattle.wc_irc_texts.specs.Names.{is_nick}
use Rattle.wc_irc_texts.specs.Negotiation.{negotiation_of}
use Rattle.wc_irc_texts.specs.Pieces.{pieces}
use Rattle.wc_irc.specs.Servers.{ServerState, first_of}

-- ---- options

abbrev pub option_name : List ℕ → List ℕ → List ℕ
option_name server option = codes "irc.server." ++ server ++ codes "." ++ option

abbrev pub option_of : OptionsValue → List ℕ → List ℕ → List ℕ
option_of options server option = unwrap_or (value_of options (option_name server option)) []

abbrev pub address_in : OptionsValue → List ℕ → Option Address
address_in options server = address_of (option_of options server (codes "addresses"))

abbrev pub is_tls : OptionsValue → List ℕ → Bool
is_tls options server = bytes_eq (option_of options server (codes "tls")) (codes "on")

-- ---- nicks

-- one that has room for the `_` that may come to it
abbrev pub may_be_tried : List ℕ → Bool
may_be_tried nick = is_nick default_features.prefixes nick && nat_le (length nick) 60

-- those of the option `nicks`, which commas part
unfoldable pub nicks_of : List ℕ → List (List ℕ)
nicks_of value = filter may_be_tried (pieces value)

abbrev pub server_nicks : OptionsValue → List ℕ → List (List ℕ)
server_nicks options server = nicks_of (option_of options server (codes "nicks"))

-- ---- SASL, and other capabilities

abbrev pub first_negotiation : OptionsValue → List ℕ → Negotiation
first_negotiation options server =
    negotiation_of (option_of options server (codes "sasl_username"))
    (option_of options server (codes "sasl_password"))
    (option_of options server (codes "capabilities"))
    (option_of options server (codes "sasl_fail"))

-- ---- private buffers: as many as there may be buffers in all where the option has no such number,
-- which no value of it has not

unfoldable pub private_max_of : OptionsValue → ℕ
private_max_of options = unwrap_or (option_and_then (number_in 1 256)
    (value_of options (codes "irc.look.private_max"))) 256

-- ---- the server

unfoldable pub first_state : OptionsValue → List ℕ → Address → ServerState
first_state options server address = record {
  name = server;
  address = address;
  user = option_of options server (codes "username");
  real_name = option_of options server (codes "realname");
  password = option_of options server (codes "password");
  autojoin = option_of options server (codes "autojoin");
  nick = first_of (server_nicks options server) (codes "weechat");
  nicks_left = drop 1 (server_nicks options server);
  taken = 0;
  negotiation = first_negotiation options server;
  mask = [];
  is_connected = false;
  is_registered = false;
  features = default_features;
  channels = [];
  private_max = private_max_of options;
}

abbrev pub start_at : OptionsValue → List ℕ → Option Address → Result ServerState ServerRefused
start_at options server None = Err BadAddress
start_at options server (Some address) = Ok (first_state options server address)

-- TLS is refused first, and then an address that is none
unfoldable pub start_of : OptionsValue → List ℕ → Result ServerState ServerRefused
start_of options server = if is_tls options server then Err TlsOn
    else start_at options server (address_in options server)
