use Rattle.wc_irc.specs.declared.refused.ServerRefused.TheVariants.{TlsOn, BadAddress}
use Rattle.wc_core.proofs.RunLemmas.{Runs-stays}
use Rattle.wc_core.proofs.CoreLemmas.{starves-as}
use Rattle.std.proofs.Common.{Ok, ap, sym, ◌∙◌, Err}
use Rattle.wc_irc.specs.Start.{start_of}
use Rattle.wc_core.specs.CoreView.{CoreView}
use Rattle.wc_core.proofs.AskedLemmas.{begins-as}
use Rattle.wc_core.proofs.core_state.Core.begin.Goals as goal

pub returns-in-Ok : goal.returns-in-Ok
returns-in-Ok c =
    begins-as c.args.self.now c.begin_with.new.self c.args.name.now (Ok c.in-Ok.server) (ap (λ (core : CoreView). start_of core.options c.args.name.now) (sym c.self.view_is) ∙ c.in-Ok.ensures.made) c.begin_with.ensures

pub returns-in-Err-NoMemory : goal.returns-in-Err-NoMemory
returns-in-Err-NoMemory c = λ told. starves-as c.args.self.now c.starve.new.self c.starve.ensures.counts c.starve.ensures.rises told _

pub returns-in-Err-TlsOn : goal.returns-in-Err-TlsOn
returns-in-Err-TlsOn c =
    let e = (rw c.in-Err-TlsOn.field-0-is at c.in-Err-TlsOn.ensures.refused) (λ e. cc) in
    begins-as c.args.self.now c.args.self.now c.args.name.now (Err TlsOn) (ap (λ (core : CoreView). start_of core.options c.args.name.now) (sym c.self.view_is) ∙ e) (Runs-stays c.args.self.now)

pub returns-in-Err-BadAddress : goal.returns-in-Err-BadAddress
returns-in-Err-BadAddress c =
    let e = (rw c.in-Err-BadAddress.field-0-is at c.in-Err-BadAddress.ensures.refused) (λ e. cc) in
    begins-as c.args.self.now c.args.self.now c.args.name.now (Err BadAddress) (ap (λ (core : CoreView). start_of core.options c.args.name.now) (sym c.self.view_is) ∙ e) (Runs-stays c.args.self.now)
