use Rattle.std.proofs.Common.{rules, ◌≡◌, ◌-◌, ◌∙◌, length, get_or, ap, subst, IfSome}
use Rattle.std.specs.VecDeque.{deque_len}
use Rattle.wc_lines.specs.Held.{RingView}
use Rattle.wc_lines.specs.Ring.{newest}
use Rattle.wc_lines.proofs.Newest.{newest_at}
use Rattle.wc_lines.proofs.lines.Lines.newest.Goals as goal

pub returns-clause-line : goal.returns-clause-line
returns-clause-line c =
    let q = c.self.inside.queue in
    let count : deque_len q ≡ length q.items = search rules in
    newest_at c.back.result q.items c.back.ensures.item.0 (subst (λ n. IfSome c.back.result (λ x. x.now ≡ get_or q.items (n - 1) x.now)) count c.back.ensures.lookup)
    ∙ ap (λ (held : RingView). newest held.lines) c.self.view_is
