use Rattle.std.proofs.Common.{rules, ◌≡◌, length}
use Rattle.std.specs.VecDeque.{deque_len}
use Rattle.wc_lines.proofs.RingLemmas.{text_at}
use Rattle.wc_lines.proofs.lines.Lines.at.Goals as goal

pub returns-clause-text : goal.returns-clause-text
returns-clause-text c =
    let q = c.self.inside.queue in
    let count : deque_len q ≡ length q.items = search rules in
    text_at c.get.result q.items (deque_len q) c.args.place count c.get.ensures.variant c.get.ensures.lookup c.self.invariant.text
