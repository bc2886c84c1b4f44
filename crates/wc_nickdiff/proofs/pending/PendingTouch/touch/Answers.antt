use Rattle.std.proofs.lemmas.Result.{on_ok_weaker}
use Rattle.wc_nickdiff.proofs.Buffers.{noted}
use Rattle.wc_nickdiff.proofs.pending.PendingTouch.touch.Goals as goal

pub returns-clause-ok : goal.returns-clause-ok
returns-clause-ok c = on_ok_weaker c.note.result (noted c.args.buffer c.args.key.now c.args.before c.args.self.now c.note.new.self) c.note.ensures.ok
