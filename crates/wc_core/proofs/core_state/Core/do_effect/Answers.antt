use Rattle.std.proofs.Common.{sym, subst}
use Rattle.wc_core.specs.Contained.{Runs}
use Rattle.wc_core.specs.CoreView.{CoreView}
use Rattle.wc_core.specs.ResolvedSeen.{outcome_of}
use Rattle.wc_core.specs.Step.{effect_step}
use Rattle.wc_core.specs.declared.resolve.Resolution.{Resolution}
use Rattle.wc_core.proofs.RunLemmas.{Runs-stays}
use Rattle.wc_core.proofs.core_state.Core.do_effect.Goals as goal

abbrev does : CoreView → CoreView → Resolution → Type 0
does old new r = Runs old new (λ state. effect_step state (outcome_of r))

pub returns-in-Stays : goal.returns-in-Stays
returns-in-Stays c = subst (does c.args.self.now c.args.self.now) (sym c.in-Stays.is) (Runs-stays c.args.self.now)

pub returns-in-Tells : goal.returns-in-Tells
returns-in-Tells c = subst (does c.args.self.now c.tell_refusal.new.self) (sym c.in-Tells.is) c.tell_refusal.ensures.does

pub returns-in-SavesOptions : goal.returns-in-SavesOptions
returns-in-SavesOptions c = subst (does c.args.self.now c.save.new.self) (sym c.in-SavesOptions.is) c.save.ensures

pub returns-in-ChangesHotlist : goal.returns-in-ChangesHotlist
returns-in-ChangesHotlist c = subst (does c.args.self.now c.use_hotlist.new.self) (sym c.in-ChangesHotlist.is) c.use_hotlist.ensures
