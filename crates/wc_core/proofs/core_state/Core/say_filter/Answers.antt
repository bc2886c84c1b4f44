use Rattle.std.proofs.Common.{ℕ, List, ap, subst, sym, ◌∙◌}
use Rattle.std.specs.Str.{IsUtf8}
use Rattle.wc_core.specs.Contained.{Runs}
use Rattle.wc_core.specs.Resolved.{filter_text}
use Rattle.wc_core.specs.Step.{refusal_step}
use Rattle.wc_core.proofs.CoreLemmas.{starves-as}
use Rattle.wc_core.proofs.ResolvedTexts.{filter-text-utf8}
use Rattle.wc_core.proofs.core_state.Core.say_filter.Goals as goal

pub tell_refusal-requires : goal.tell_refusal-requires
tell_refusal-requires c = subst IsUtf8 (sym (c.in-Ok.ensures ∙ ap (λ name. filter_text name c.args.refused.now) c.as_slice.ensures)) (filter-text-utf8 c.args.name.now c.args.refused.now c.requires)

pub returns-in-Ok : goal.returns-in-Ok
returns-in-Ok c =
    let P : List ℕ → Type 0 = λ text. Runs c.args.self.now c.tell_refusal.new.self (λ state. refusal_step state text) in
    subst P (c.in-Ok.ensures ∙ ap (λ name. filter_text name c.args.refused.now) c.as_slice.ensures) c.tell_refusal.ensures.does

pub returns-in-Err : goal.returns-in-Err
returns-in-Err c = λ told. starves-as c.args.self.now c.starve.new.self c.starve.ensures.counts c.starve.ensures.rises told _
