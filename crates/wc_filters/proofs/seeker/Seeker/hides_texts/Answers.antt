use Rattle.std.proofs.Common.{◌∙◌, ap}
use Rattle.wc_filters.specs.Hides.{sifted}
use Rattle.wc_filters.proofs.FilterLemmas.{hidden_by}
use Rattle.wc_filters.proofs.seeker.Seeker.hides_texts.Goals as goal

pub returns-clause-hides : goal.returns-clause-hides
returns-clause-hides c =
    let own = c.self.inside in
    let found = c.sifts.ensures.found
    ∙ ap (λ fs. sifted fs c.args.tags.now c.args.prefix.now c.args.message.now) c.as_mut_slice.ensures.value in
    hidden_by own.full_name.now c.args.tags.now c.args.prefix.now c.args.message.now c.args.self.now own.filters.now own.sieves.items
    c.sifts.result c.self.view_is c.self.invariant found
