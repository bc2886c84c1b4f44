-- The options that a session heeds.
use Rattle.std.specs.Prelude.{ℕ, ◌*◌, List, [], Option, option_map, unwrap_or, codes}
use Rattle.wc_options.specs.Number.{number_in}
use Rattle.wc_options.specs.Options.{OptionsValue, value_of}

-- the value of the option with a name, which is empty where there is none
abbrev pub option_value : OptionsValue → List ℕ → List ℕ
option_value options name = unwrap_or (value_of options name) []

-- the password that is set
unfoldable pub password_of : OptionsValue → List ℕ
password_of options = option_value options (codes "relay.network.password")

-- the algorithms that are allowed, as masks
unfoldable pub masks_of : OptionsValue → List ℕ
masks_of options = option_value options (codes "relay.network.password_hash_algo")

-- how many unsent bytes a client may have, where that is bounded; the option has megabytes, of which
-- none are no bound
unfoldable pub most_unsent : OptionsValue → Option ℕ
most_unsent options = option_map (λ megabytes. megabytes * 1048576)
    (number_in 1 4096 (option_value options (codes "relay.network.max_unsent")))
