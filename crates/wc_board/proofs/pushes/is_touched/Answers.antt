use Rattle.wc_nickdiff.specs.Held.{touches_of}
use Rattle.wc_board.proofs.PushConnections.{no_touches}
use Rattle.wc_board.proofs.TouchCounts.{some_test}
use Rattle.wc_board.proofs.pushes.is_touched.Goals as goal

pub returns-clause-exact : goal.returns-clause-exact
returns-clause-exact c = some_test c.held.result _ c.held.ensures.exact

pub returns-clause-none : goal.returns-clause-none
returns-clause-none c = no_touches c.held.result (touches_of c.args.buffer c.args.pending.now) c.held.ensures.exact
