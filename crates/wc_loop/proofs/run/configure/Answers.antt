use Rattle.std.proofs.Common.{ℕ, List, subst}
use Rattle.wc_loop.specs.Headline.{state_before}
use Rattle.wc_core.specs.Served.{Means}
use Rattle.wc_loop.proofs.OptionsLemmas.{configured_by}
use Rattle.wc_loop.proofs.run.configure.Goals as goal
use Rattle.wc_eval.specs.Verdicts.{Oracle}

pub returns-in-Ok-state_by-clause-known : goal.returns-in-Ok-state_by-clause-known
returns-in-Ok-state_by-clause-known g c =
    let made = c.in-Ok-state_by.made in
    let options = c.in_ok-options.options in
    let P : List (List ℕ) → Type 0 = λ commands. (oracle : Oracle) → Means made.headless.core (state_before oracle options (record { commands = commands; holds = c.args.holds })) in
    configured_by _ _ made.headless made.port options c.in_ok-options.ensures.known (subst P c.in-Ok.ensures c.in-Ok-state_by.ensures.means) c.in-Ok-state_by.ensures.port
