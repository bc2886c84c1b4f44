use Rattle.std.proofs.Common.{subst, sym, ap, ◌∙◌}
use Rattle.wc_model.specs.World.{World}
use Rattle.wc_hdata.specs.Kept.{AreKept}
use Rattle.wc_hdata.proofs.KeptLemmas.{kept_list}
use Rattle.wc_hdata.proofs.starts.at_list.Goals as goal

pub returns-in-Some-clause-kept : goal.returns-in-Some-clause-kept
returns-in-Some-clause-kept c =
    subst (AreKept c.args.lists.now) (sym c.one.ensures) (kept_list c.args.lists.now c.buffers.result.now c.args.pointer c.in-Some.list (c.buffers.ensures ∙ ap (λ (world : World). world.groups) c.world.ensures) c.requires c.in-Some.ensures, tt)
