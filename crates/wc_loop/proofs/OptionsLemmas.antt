-- What the reading of a configuration came to.
use Rattle.std.proofs.Common.{◌≡◌, ℕ, ◌≤◌, Bool, true, false, cond, ◌&&◌, nat_le, List, Option, Some, None, Result, Ok, Err, IfOk, IfSome, codes, refl, ap, arith}
use Rattle.std.specs.Prelude.{unwrap_or}
use Rattle.std.proofs.lemmas.Bool.Decides.{nat_tests}
use Rattle.wc_options.specs.Config.{config_of}
use Rattle.wc_options.specs.Number.{number_in, number_of, within}
use Rattle.wc_options.specs.Options.{OptionsValue}
use Rattle.wc_options.specs.ReadConfig.{IsBadLine}
use Rattle.wc_options.specs.declared.refusal.ConfigRefused.TheVariants.{BadLine}
use Rattle.wc_session.specs.Heeded.{option_value}
use Rattle.wc_core.specs.Limits.{most_lines, port_of}
use Rattle.wc_core.specs.Served.{Means}
use Rattle.wc_turns.specs.declared.headless.Headless.{Headless}
use Rattle.wc_loop.specs.Endings.{IsPort}
use Rattle.wc_loop.specs.Headline.{state_before, IsConfigured}
use Rattle.wc_loop.specs.Words.{Opening}
use Rattle.wc_eval.specs.Verdicts.{Oracle}

-- the number of an unreadable line
pub line_is : (n : ℕ) (r : Result OptionsValue ℕ) → IsBadLine (BadLine n) r → r ≡ Err n
line_is n (Ok options) bad = absurd bad
line_is n (Err m) bad = let same : n ≡ m = cc in ap Err (let e : m ≡ n = omega (arith, same) in e)

-- ---- no limit is above 4,096

within-most : (lowest highest n : ℕ) (o : Option ℕ) → within lowest highest o ≡ Some n → n ≤ highest
within-most lowest highest n None e = cc
within-most lowest highest n (Some m) e = go (nat_le lowest m) (nat_le m highest) refl e
  where
    go : (b c : Bool) → nat_le m highest ≡ c → cond (b && c) (Some m) None ≡ Some n → n ≤ highest
    go true true f q = (let same : m ≡ n = cc in grind (arith, nat_tests))
    go true false f q = cc
    go false c f q = cc

number-most : (lowest highest n : ℕ) (text : List ℕ) → number_in lowest highest text ≡ Some n → n ≤ highest
unfolding number_in
number-most lowest highest n text e = within-most lowest highest n (number_of text) e

or-most : (default highest : ℕ) (o : Option ℕ) → default ≤ highest → ((n : ℕ) → o ≡ Some n → n ≤ highest) → unwrap_or o default ≤ highest
or-most default highest None below h = below
or-most default highest (Some n) below h = h n refl

pub limit_most : (options : OptionsValue) → most_lines options ≤ 4096
unfolding most_lines
limit_most options =
    let value = option_value options (codes "weechat.history.max_buffer_lines_number") in
    or-most 4096 4096 (number_in 1 4096 value) (omega arith) (λ n e. number-most 1 4096 n value e)

-- ---- the port

port_by : (r : Result OptionsValue ℕ) → (port : ℕ) × IfOk r (λ options. port ≡ port_of options)
port_by (Ok options) = (port_of options, refl)
port_by (Err n) = (0, tt)

-- there is a port that a configuration sets
pub some_port : (contents : Option (List ℕ)) → (port : ℕ) × IsPort contents port
some_port None = (0, tt)
some_port (Some configuration) = port_by (config_of configuration)

-- a state and a port that were made by the options
pub configured_by : (opening : Opening) (contents : Option (List ℕ)) (headless : Headless) (port : ℕ) (options : OptionsValue) → IfSome contents (λ configuration. config_of configuration ≡ Ok options)
    → ((oracle : Oracle) → Means headless.core (state_before oracle options opening)) → port ≡ port_of options → IfSome contents (IsConfigured opening headless port)
configured_by opening None headless port options set means at = tt
configured_by opening (Some configuration) headless port options set means at = record { options = options; set = set; means = means; port_set = at }
