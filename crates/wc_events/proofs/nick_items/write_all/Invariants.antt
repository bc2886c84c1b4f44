use Rattle.wc_buffers.specs.Kept.{handles}
use Rattle.wc_events.specs.NickForms.{all_nicks}
use Rattle.wc_events.proofs.NickWalks.{WritesAmid}
use Rattle.wc_events.proofs.nick_items.write_all.Given as goal

abbrev pub invariant-loop-group : goal.invariant-loop-group
invariant-loop-group l = WritesAmid l.fn.whole l.left l.fn.out l.out (all_nicks l.world (handles l.world.groups)) (all_nicks l.world l.group-iterator)
