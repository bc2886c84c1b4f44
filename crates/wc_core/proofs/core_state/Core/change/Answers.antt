use Rattle.std.proofs.Common.{inr, subst}
use Rattle.wc_model.specs.declared.change.Change.{Change}
use Rattle.wc_core.specs.Inputs.{Makes}
use Rattle.wc_core.proofs.CoreLemmas.{starves-only}
use Rattle.wc_core.proofs.core_state.Core.change.Goals as goal

pub returns-in-Ok-clause-made : goal.returns-in-Ok-clause-made
returns-in-Ok-clause-made c = λ none.
    let P : Change → Type 0 = λ change. Makes c.args.self.now change c.make.new.self in
    subst P c.in-Ok.ensures.fitted (c.make.ensures.made none)

pub returns-in-Err-clause-made : goal.returns-in-Err-clause-made
returns-in-Err-clause-made c = λ none. inr (starves-only c.args.self.now c.starve.new.self c.starve.ensures.counts c.starve.ensures.rises)
