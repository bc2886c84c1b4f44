use Rattle.std.proofs.Common.{map, string_bytes, sym, subst}
use Rattle.wc_core.specs.Served.{Means}
use Rattle.wc_turns.specs.declared.headless.Headless.{Headless}
use Rattle.wc_loop.specs.Headline.{state_before}
use Rattle.wc_loop.proofs.HeadlineLemmas.{means-held}
use Rattle.wc_loop.proofs.run.state_by.Goals as goal

pub returns-clause-means : goal.returns-clause-means
returns-clause-means c = λ oracle.
    let commands = map string_bytes c.args.commands.items in
    let P : Headless → Type 0 = λ h. Means h.core (state_before oracle c.args.options (record { commands = commands; holds = c.args.holds })) in
    subst P (sym c.hold_if.ensures) (means-held oracle c.args.holds c.in_ok-headless.headless c.args.options commands (c.in_ok-headless.ensures.means oracle))
