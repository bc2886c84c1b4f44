-- The options that the core reads by itself.
use Rattle.std.specs.Prelude.{ℕ, ◌*◌, ◌^◌, ◌&&◌, List, Option, Some, None, unwrap_or, codes}
use Rattle.std.specs.Prelude.{nat_lt, if◌then◌else◌}
use Rattle.std.specs.Str.{bytes_eq}
use Rattle.wc_options.specs.Number.{number_in}
use Rattle.wc_options.specs.Options.{OptionsValue}
use Rattle.wc_session.specs.Heeded.{option_value}

-- the number from 1 to the highest that a value writes; where it writes none, which no value of
-- these options does, the default
abbrev pub number_or : ℕ → ℕ → List ℕ → ℕ
number_or highest default value = unwrap_or (number_in 1 highest value) default

-- the option of how many lines a buffer holds at most, its greatest number and its default
abbrev pub lines_option : List ℕ
lines_option = codes "weechat.history.max_buffer_lines_number"

abbrev pub greatest_limit : ℕ
greatest_limit = 4096

-- how many lines a buffer holds at most
unfoldable pub most_lines : OptionsValue → ℕ
most_lines options = number_or greatest_limit greatest_limit (option_value options lines_option)

-- the limit of lines that an option gets with a value, where it is the option of that and the value may
-- be one
unfoldable pub limit_set : List ℕ → List ℕ → Option ℕ
limit_set name value = if bytes_eq name lines_option then number_in 1 greatest_limit value else None

-- the limit of lines that an option gets with its default
unfoldable pub limit_unset : List ℕ → Option ℕ
limit_unset name = if bytes_eq name lines_option then Some greatest_limit else None

-- how many clients are open at most
unfoldable pub client_limit : OptionsValue → ℕ
client_limit options = number_or 64 5 (option_value options (codes "relay.network.max_clients"))

-- where clients are listened for
unfoldable pub port_of : OptionsValue → ℕ
port_of options = number_or 65535 9000 (option_value options (codes "relay.port.weechat"))

-- Where handles are to be fresh, those below this one are passed over as a run starts at a moment, in
-- milliseconds since 1970: each millisecond has 2^20 of its own. A moment for which there are none
-- passes none over.
unfoldable pub first_handle : OptionsValue → ℕ → ℕ
first_handle options moment =
    if bytes_eq (option_value options (codes "relay.network.handles")) (codes "fresh")
    && nat_lt moment (2 ^ 42)
    then moment * 1048576 else 0
