use Rattle.std.proofs.Common.{[], ap}
use Rattle.wc_turns.specs.declared.links.LinkState.{LinkState}
use Rattle.wc_turns.proofs.ReadServes.{ServesOpened-fed, ServesOpened-starved}
use Rattle.wc_turns.proofs.sockets.serve_opened.Goals as goal

pub returns-in-Ok : goal.returns-in-Ok
returns-in-Ok c = record {
  serves = ServesOpened-fed c.args.bytes.now c.args.state.now (record c.feed_held-held.new.state { tail = c.begin.new.self }) _ c.args.core.now _ c.args.ran.now _ (ap (λ (l : LinkState). record l { tail = c.begin.new.self }) c.feed_held-held.ensures.rest) c.begin.ensures c.feed_held-held.ensures.socket (λ f. c.in-Ok.ensures.ok [] [] f) c.serve_frames.ensures.serves;
}

pub returns-in-Err : goal.returns-in-Err
returns-in-Err c = record {
  serves = ServesOpened-starved c.args.bytes.now c.args.state.now (record c.feed_held-held.new.state { tail = c.begin.new.self }) _ c.args.core.now _ c.args.ran.now _ (ap (λ (l : LinkState). record l { tail = c.begin.new.self }) c.feed_held-held.ensures.rest) c.begin.ensures c.feed_held-held.ensures.socket c.close_socket.ensures.closes;
}
