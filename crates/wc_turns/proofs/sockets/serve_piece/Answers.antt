use Rattle.wc_turns.proofs.FramesLemmas.{ServesPiece-fed, ServesPiece-starved}
use Rattle.wc_turns.proofs.sockets.serve_piece.Goals as goal

pub returns-in-Ok : goal.returns-in-Ok
returns-in-Ok c = record { serves = ServesPiece-fed c.args.link.0 c.args.bytes.now c.serve_ws.result c.args.socket.now c.feed_bounded.new.socket _ c.args.core.now _ c.args.tail.now _ c.args.ran.now _ c.in-Ok.ensures.ok c.serve_ws.ensures.serves }

pub returns-in-Err : goal.returns-in-Err
returns-in-Err c = record { serves = ServesPiece-starved c.args.link.0 c.args.bytes.now c.args.socket.now c.feed_bounded.new.socket c.args.core.now c.args.tail.now c.args.ran.now c.requires.going }
