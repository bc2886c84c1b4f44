-- What `/server` and `/connect` ask of the options, and why they are refused.
use Rattle.std.specs.Prelude.{ℕ, Bool, true, false, List, [], ◌∷◌, ◌++◌, codes, Option, Some, None}
use Rattle.std.specs.Prelude.{Result, Ok, Err, if◌then◌else◌}
use Rattle.wc_text.specs.declared.names.Pair.{Pair}
use Rattle.wc_options.specs.Options.{OptionsValue, has_server}
use Rattle.wc_buffers.specs.Vars.{pair}
use Rattle.wc_irc.specs.declared.refused.ServerRefused.{ServerRefused}
use Rattle.wc_irc.specs.declared.refused.ServerRefused.TheVariants as refused
use Rattle.wc_irc.specs.Servers.{ServerState}
use Rattle.wc_irc.specs.Start.{option_name, start_of}

-- ---- `/server add` sets the address, and after it TLS, where that is said

abbrev pub on_or_off : Bool → List ℕ
on_or_off true = codes "on"
on_or_off false = codes "off"

abbrev pub address_setting : List ℕ → List ℕ → Pair
address_setting name address = pair (option_name name (codes "addresses")) address

abbrev pub tls_settings : List ℕ → Option Bool → List Pair
tls_settings name None = []
tls_settings name (Some tls) = pair (option_name name (codes "tls")) (on_or_off tls) ∷ []

abbrev pub settings_of : List ℕ → List ℕ → Option Bool → List Pair
settings_of name address tls = address_setting name address ∷ tls_settings name tls

-- ---- refusals

abbrev pub no_such_server : List ℕ → List ℕ
no_such_server name = codes "irc: no such server: " ++ name

-- a server that has a link
abbrev pub if_connected : Bool → List ℕ → Option (List ℕ)
if_connected is_linked name = if is_linked then Some (codes "irc: connected: " ++ name) else None

unfoldable pub delete_refusal : OptionsValue → Bool → List ℕ → Option (List ℕ)
delete_refusal options is_linked name =
    if has_server name options.servers then if_connected is_linked name
    else Some (no_such_server name)

-- one that cannot be begun is refused for that first
abbrev pub start_refusal : Bool → List ℕ → Result ServerState ServerRefused → Option (List ℕ)
start_refusal is_linked name (Ok s) = if_connected is_linked name
start_refusal is_linked name (Err refused.TlsOn) = Some (codes "irc: TLS is not offered: " ++ name)
start_refusal is_linked name (Err refused.BadAddress) = Some (codes "irc: bad address: " ++ name)
start_refusal is_linked name (Err refused.NoMemory) = None

unfoldable pub connect_refusal : OptionsValue → Bool → List ℕ → Option (List ℕ)
connect_refusal options is_linked name =
    if has_server name options.servers then start_refusal is_linked name (start_of options name)
    else Some (no_such_server name)
