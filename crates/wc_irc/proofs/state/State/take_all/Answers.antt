use Rattle.wc_irc.specs.ServersSeen.{seen}
use Rattle.wc_irc.proofs.MaskLemmas.{mask_taken}
use Rattle.wc_irc.proofs.state.State.take_all.Goals as goal

pub returns-in-Ok-clause-after : goal.returns-in-Ok-clause-after
returns-in-Ok-clause-after c =
    mask_taken c.in_ok-told.told (seen c.args.self.now) (seen c.take_in.new.self) (seen c.put_mask.new.self) c.args.m.now c.args.kind c.in-Ok.ensures.after c.put_mask.ensures c.in_ok-told.ensures
