use Rattle.std.proofs.Common.{refl, subst}
use Rattle.wc_framing.specs.declared.framing.Belongs.TheVariants.{Text, Opened, Frames}
use Rattle.wc_framing.specs.Framing.{Opens}
use Rattle.wc_turns.proofs.ReadServes.{ServesBytes-ended, ServesBytes-text, ServesBytes-opened, ServesBytes-frames}
use Rattle.wc_turns.proofs.sockets.serve_bytes.Goals as goal

pub returns-then-state : goal.returns-then-state
returns-then-state c = record { serves = ServesBytes-ended c.args.bytes.now c.args.state.now c.args.core.now c.args.ran.now c.if-state.true }

pub returns-in-Text : goal.returns-in-Text
returns-in-Text c = record {
  serves = ServesBytes-text c.args.bytes.now c.args.state.now _ c.args.core.now _ c.args.ran.now _ c.if-state.false refl (subst (λ held. Opens held c.args.bytes.now c.args.state.now.framing Text c.open.new.self) c.as_slice.ensures c.in-Text.ensures.opens) c.in-Text.ensures.plain c.feed.ensures.tail c.feed.ensures.takes c.feed.ensures.causes c.feed.ensures.idle;
}

pub returns-in-Opened : goal.returns-in-Opened
returns-in-Opened c = record {
  serves = ServesBytes-opened c.args.bytes.now c.args.state.now (record c.args.state.now { framing = c.open.new.self }) _ c.args.core.now _ c.args.ran.now _ c.if-state.false refl (subst (λ held. Opens held c.args.bytes.now c.args.state.now.framing Opened c.open.new.self) c.as_slice.ensures c.in-Opened.ensures.opens) c.in-Opened.ensures.plain c.serve_opened.ensures.serves;
}

pub returns-in-Frames : goal.returns-in-Frames
returns-in-Frames c = record {
  serves = ServesBytes-frames c.args.bytes.now c.args.state.now (record c.args.state.now { framing = c.open.new.self }) _ c.args.core.now _ c.args.ran.now _ c.if-state.false refl (subst (λ held. Opens held c.args.bytes.now c.args.state.now.framing Frames c.open.new.self) c.as_slice.ensures c.in-Frames.ensures.opens) c.in-Frames.ensures.plain c.serve_frames.ensures.serves;
}
