use Rattle.std.proofs.Common.{subst}
use Rattle.wc_irc.specs.CommandSeen.{errand_seen, IsFit}
use Rattle.wc_irc.specs.declared.errand.Errand.{Errand}
use Rattle.wc_irc.proofs.SentLemmas.{each_writable}
use Rattle.wc_irc.proofs.errand_acts.put_errand.Goals as goal

pub put_each-requires : goal.put_each-requires
put_each-requires c =
    let P : Errand → Type 0 = λ errand. IsFit (errand_seen errand) in
    each_writable c.in-SendEach.command.now c.in-SendEach.each (subst P c.in-SendEach.is c.requires)
