use Rattle.std.proofs.Common.{◌∙◌, ap, ap₂}
use Rattle.wc_filters.specs.Hides.{sifted}
use Rattle.wc_filters.proofs.FilterLemmas.{hidden_by}
use Rattle.wc_filters.proofs.seeker.Seeker.hides_line.Goals as goal

pub returns-clause-hides : goal.returns-clause-hides
returns-clause-hides c =
    let line = c.args.line.now in
    let own = c.self.inside in
    let found = c.sifts.ensures.found
    ∙ ap (λ fs. sifted fs line.tags c.prefix.result.now c.message.result.now) c.as_mut_slice.ensures.value
    ∙ ap₂ (λ p m. sifted own.sieves.items line.tags p m) c.prefix.ensures c.message.ensures in
    hidden_by own.full_name.now line.tags line.prefix line.message c.args.self.now own.filters.now own.sieves.items c.sifts.result
    c.self.view_is c.self.invariant found
