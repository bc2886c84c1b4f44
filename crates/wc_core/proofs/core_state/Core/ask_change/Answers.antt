use Rattle.std.proofs.Common.{refl, sym, subst}
use Rattle.std.specs.Str.{IsUtf8}
use Rattle.wc_core.specs.Step.{ask_step}
use Rattle.wc_core.proofs.PushLemmas.{Runs-over}
use Rattle.wc_core.proofs.CoreLemmas.{asks-made, asks-told, starved_only}
use Rattle.wc_core.specs.Fitted.{fitted}
use Rattle.wc_core.proofs.ResolvedTexts.{what_text, refusal-utf8, fitted-utf8}
use Rattle.wc_core.proofs.core_state.Core.ask_change.Goals as goal

pub change-requires : goal.change-requires
change-requires c = what_text c.args.change.what c.requires

pub tell_refusal-requires : goal.tell_refusal-requires
tell_refusal-requires c = subst IsUtf8 (sym c.in-Ok.ensures) (refusal-utf8 c.args.self.now.world (fitted c.args.self.now.filters c.args.self.now.world c.args.change) c.in-Some.reason (fitted-utf8 c.args.self.now.filters c.args.self.now.world c.args.change.buffer c.args.change.what c.requires) c.in-Some.ensures.refused.refused)

pub returns-in_default-clause-does : goal.returns-in_default-clause-does
returns-in_default-clause-does c = asks-made c.args.self.now c.change.new.self c.args.change (c.in_default.ensures.made refl)

pub returns-in-Ok-clause-does : goal.returns-in-Ok-clause-does
returns-in-Ok-clause-does c = asks-told c.args.self.now c.change.new.self c.tell_refusal.new.self c.args.change c.in-Some.reason c.in-Ok.text c.in-Some.ensures.refused c.in-Ok.ensures c.tell_refusal.ensures.does

pub returns-clause-does : goal.returns-clause-does
returns-clause-does c =
    Runs-over c.args.self.now c.change.new.self c.starve.new.self (λ state. ask_step state c.args.change) c.in-Some.ensures.refused.stays c.in-Some.ensures.refused.touches
    (starved_only c.change.new.self c.starve.new.self (λ state. ask_step state c.args.change) c.starve.ensures.counts c.starve.ensures.rises)
