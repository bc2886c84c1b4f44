use Rattle.std.proofs.Common.{◌≡◌, ap, sym, ◌∙◌}
use Rattle.wc_core.specs.CoreView.{CoreView}
use Rattle.wc_core.specs.Limits.{limit_set}
use Rattle.wc_core.specs.Step.{set_step}
use Rattle.wc_core.proofs.CloseLemmas.{sets-closes}
use Rattle.wc_core.proofs.OptionLemmas.{limit-cut, limit-then}
use Rattle.wc_core.proofs.core_state.Core.set_option.Goals as goal

pub returns-then-self-cuts : goal.returns-then-self-cuts
returns-then-self-cuts c =
    let following : c.self-2.inside.cuts ≡ c.change_limit.new.self.cuts = ap (λ (core : CoreView). core.cuts) c.self-2.view_is in
    let before : c.self.inside.cuts ≡ c.args.self.now.cuts = ap (λ (core : CoreView). core.cuts) c.self.view_is in
    limit-cut c.args.self.now c.change_limit.new.self c.limit_set-limit.result (limit_set c.args.pair.now.name c.args.pair.now.value) (λ next. set_step next c.args.pair.now.name c.args.pair.now.value)
    (c.limit_set-limit.ensures.number ∙ ap (λ n. limit_set n c.as_slice-2.result.now) c.as_slice.ensures ∙ ap (limit_set c.args.pair.now.name) c.as_slice-2.ensures) (λ same. c.if-self-cuts.true (following ∙ same ∙ sym before)) c.change_limit.ensures

pub returns : goal.returns
returns c =
    let following : c.self-2.inside.cuts ≡ c.change_limit.new.self.cuts = ap (λ (core : CoreView). core.cuts) c.self-2.view_is in
    let before : c.self.inside.cuts ≡ c.args.self.now.cuts = ap (λ (core : CoreView). core.cuts) c.self.view_is in
    limit-then c.args.self.now c.change_limit.new.self c.set_value.new.self c.limit_set-limit.result (limit_set c.args.pair.now.name c.args.pair.now.value) (λ next. set_step next c.args.pair.now.name c.args.pair.now.value) (λ j state. sets-closes j state c.args.pair.now.name c.args.pair.now.value)
    (c.limit_set-limit.ensures.number ∙ ap (λ n. limit_set n c.as_slice-2.result.now) c.as_slice.ensures ∙ ap (limit_set c.args.pair.now.name) c.as_slice-2.ensures) (sym following ∙ c.if-self-cuts.false ∙ before) c.change_limit.ensures c.set_value.ensures
