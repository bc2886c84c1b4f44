use Rattle.std.proofs.Common.{◌≡◌, ap, sym, ◌∙◌}
use Rattle.wc_core.specs.CoreView.{CoreView}
use Rattle.wc_core.proofs.CoreLemmas.{not_same, are_same}
use Rattle.wc_core.proofs.core_state.Core.run_one.Goals as goal

pub returns-clause-cut : goal.returns-clause-cut
returns-clause-cut c = λ differs same.
    let following : c.self-2.inside.cuts ≡ c.run_act.new.self.cuts = ap (λ (core : CoreView). core.cuts) c.self-2.view_is in
    let before : c.self.inside.cuts ≡ c.args.self.now.cuts = ap (λ (core : CoreView). core.cuts) c.self.view_is in
    not_same _ _ differs (following ∙ same ∙ sym before)

pub returns-clause-uncut : goal.returns-clause-uncut
returns-clause-uncut c = λ same.
    let following : c.self-2.inside.cuts ≡ c.run_act.new.self.cuts = ap (λ (core : CoreView). core.cuts) c.self-2.view_is in
    let before : c.self.inside.cuts ≡ c.args.self.now.cuts = ap (λ (core : CoreView). core.cuts) c.self.view_is in
    sym following ∙ are_same _ _ same ∙ before
