use Rattle.std.proofs.Common.{◌≡◌, ap, sym, ◌∙◌}
use Rattle.wc_core.specs.CoreView.{CoreView}
use Rattle.wc_core.specs.Limits.{limit_unset}
use Rattle.wc_core.specs.Step.{unset_step}
use Rattle.wc_core.proofs.CloseLemmas.{unsets-closes}
use Rattle.wc_core.proofs.OptionLemmas.{limit-cut, limit-then}
use Rattle.wc_core.proofs.core_state.Core.unset_option.Goals as goal

pub returns-then-self-cuts : goal.returns-then-self-cuts
returns-then-self-cuts c =
    let following : c.self-2.inside.cuts ≡ c.change_limit.new.self.cuts = ap (λ (core : CoreView). core.cuts) c.self-2.view_is in
    let before : c.self.inside.cuts ≡ c.args.self.now.cuts = ap (λ (core : CoreView). core.cuts) c.self.view_is in
    limit-cut c.args.self.now c.change_limit.new.self c.limit_unset-limit.result (limit_unset c.args.name.now) (λ next. unset_step next c.args.name.now)
    (c.limit_unset-limit.ensures.number ∙ ap limit_unset c.as_slice.ensures) (λ same. c.if-self-cuts.true (following ∙ same ∙ sym before)) c.change_limit.ensures

pub returns : goal.returns
returns c =
    let following : c.self-2.inside.cuts ≡ c.change_limit.new.self.cuts = ap (λ (core : CoreView). core.cuts) c.self-2.view_is in
    let before : c.self.inside.cuts ≡ c.args.self.now.cuts = ap (λ (core : CoreView). core.cuts) c.self.view_is in
    limit-then c.args.self.now c.change_limit.new.self c.unset_value.new.self c.limit_unset-limit.result (limit_unset c.args.name.now) (λ next. unset_step next c.args.name.now) (λ j state. unsets-closes j state c.args.name.now)
    (c.limit_unset-limit.ensures.number ∙ ap limit_unset c.as_slice.ensures) (sym following ∙ c.if-self-cuts.false ∙ before) c.change_limit.ensures c.unset_value.ensures
