use Rattle.std.proofs.Common.{rules, ◌≡◌, ◌-◌, ◌≤◌, length, sym, subst, arith}
use Rattle.std.specs.Prelude.{All}
use Rattle.std.specs.VecDeque.{deque_len}
use Rattle.std.proofs.lemmas.List.Elements.{All-drop}
use Rattle.wc_lines.specs.Held.{RingView}
use Rattle.wc_lines.specs.LineText.{HasUtf8Texts}
use Rattle.wc_lines.proofs.KeepLast.{few}
use Rattle.wc_lines.proofs.lines.Lines.set_limit.Goals as goal

pub invariant_of-self : goal.invariant_of-self
invariant_of-self c =
    let was = c.self.invariant in
    let lines = c.self.inside.queue.items in
    let left = c.keep_last.ensures in
    let queue = c.keep_last.new.lines in
    let count : deque_len queue ≡ length queue.items = search rules in
    record {
      some = c.requires.some;
      most = c.requires.most;
      within = few c.args.limit (deque_len queue) lines queue.items count left.items;
      room = subst (λ (held : RingView). c.args.limit ≤ held.room) (sym c.self.view_is) c.requires.room;
      taken = omega (arith, left.room, was.taken);
      text = subst (All HasUtf8Texts) (sym left.items) (All-drop HasUtf8Texts (length lines - c.args.limit) lines was.text);
    }
