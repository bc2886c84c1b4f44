use Rattle.wc_turns.proofs.SocketLemmas.{Puts-plain-at, Puts-unowed-at}
use Rattle.wc_turns.proofs.headless.Headless.frame_unsent.Goals as goal

pub returns-in_default : goal.returns-in_default
returns-in_default c = Puts-plain-at c.args.link.0 c.args.self.now c.in_ok-place.place c.index_mut.result.now _ c.in_ok-place.ensures c.index_mut.ensures.value c.in_default.not-Socket

pub returns-in_err-unsent : goal.returns-in_err-unsent
returns-in_err-unsent c = Puts-unowed-at c.args.link.0 c.args.self.now c.in_ok-place.place c.index_mut.result.now c.in-Socket.socket _ _ c.from_residual-in_err-unsent.ensures c.in_ok-place.ensures c.index_mut.ensures.value c.in-Socket.is c.in_err-unsent.ensures
