use Rattle.wc_turns.proofs.TurnLemmas.{LoopStep-trans}
use Rattle.wc_turns.proofs.AskedLemmas.{Settles-both}
use Rattle.wc_turns.proofs.connect.settle.Goals as goal

pub returns-clause-continues : goal.returns-clause-continues
returns-clause-continues g c = LoopStep-trans _ c.connect_wanted.new.headless _ _ (g.S.Sockets.seen c.connect_wanted.new.sockets) _ c.connect_wanted.ensures.continues c.close_all_leaving.ensures.continues

pub returns-clause-settles : goal.returns-clause-settles
returns-clause-settles g c = Settles-both c.args.headless.now c.connect_wanted.new.headless c.close_all_leaving.new.headless (g.S.Sockets.seen c.args.sockets.now) (g.S.Sockets.seen c.connect_wanted.new.sockets) (g.S.Sockets.seen c.close_all_leaving.new.sockets) c.close_all_leaving.ensures.continues.told c.connect_wanted.ensures.asks c.connect_wanted.ensures.done c.close_all_leaving.ensures.parts c.close_all_leaving.ensures.parted
