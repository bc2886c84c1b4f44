use Rattle.std.proofs.Common.{refl}
use Rattle.wc_framing.specs.declared.framing.Framing.TheVariants.{Socket}
use Rattle.wc_turns.proofs.ReadServes.{ServesFrames-plain, ServesFrames-goes, ServesFrames-closes}
use Rattle.wc_turns.proofs.SocketLemmas.{plain-not}
use Rattle.wc_turns.proofs.sockets.serve_frames.Goals as goal

pub returns-in_default : goal.returns-in_default
returns-in_default c = record { serves = ServesFrames-plain c.args.bytes.now c.args.state.now c.args.core.now c.args.ran.now (plain-not c.args.state.now.framing c.in_default.not-Socket) }

pub returns-in_default-then : goal.returns-in_default-then
returns-in_default-then c = record {
  serves = ServesFrames-goes c.args.bytes.now c.args.state.now _ c.in-Socket.socket c.serve_piece-then.new.socket c.args.core.now _ c.args.ran.now _ c.in-Socket.is refl c.in_default-then.ensures.serves;
}

pub returns : goal.returns
returns c = record {
  serves = ServesFrames-closes c.args.bytes.now c.args.state.now (record c.args.state.now { tail = c.serve_piece-then.new.tail; framing = Socket c.serve_piece-then.new.socket }) c.close_socket.new.state c.in-Socket.socket c.serve_piece-then.new.socket c.args.core.now c.serve_piece-then.new.core c.close_socket.new.core c.args.ran.now c.serve_piece-then.new.ran c.close_socket.new.ran c.in-Closed.cause c.requires.going c.in-Socket.is refl c.in-Closed.ensures.serves c.close_socket.ensures.closes;
}
