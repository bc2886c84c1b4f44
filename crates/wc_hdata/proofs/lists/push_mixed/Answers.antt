use Rattle.std.proofs.Common.{subst}
use Rattle.wc_buffers.specs.Kept.{handles}
use Rattle.wc_hdata.specs.Listed.{firsts_of}
use Rattle.wc_hdata.proofs.MadeLemmas.{MadeOnce, made_step, made_end}
use Rattle.wc_hdata.proofs.lists.push_mixed.Goals as goal

pub loop-group-preserved : goal.loop-group-preserved
loop-group-preserved c = record {
  goes = tt;
  ends = tt;
  lists = c.in_ok-push_group.ensures.lists c.loop-group.invariant.lists;
  made = made_step (firsts_of c.loop-group.mixed.items) (firsts_of c.push_group.new.mixed.items) c.in-Some.group.now c.next.new.self (handles c.args.world.now.groups)
      (subst (λ left. MadeOnce (firsts_of c.loop-group.mixed.items) left (handles c.args.world.now.groups)) c.in-Some.ensures.steps c.loop-group.invariant.made) c.in_ok-push_group.ensures.made;
}

pub returns-clause-made : goal.returns-clause-made
returns-clause-made c = made_end (firsts_of c.loop-group.mixed.items) (handles c.args.world.now.groups)
    (subst (λ left. MadeOnce (firsts_of c.loop-group.mixed.items) left (handles c.args.world.now.groups)) c.in-None.ensures.steps.0 c.loop-group.invariant.made)
