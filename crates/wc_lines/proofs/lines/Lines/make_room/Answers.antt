use Rattle.std.proofs.Common.{rules, ◌≡◌, length, sym, ap, subst, arith}
use Rattle.std.specs.Prelude.{All}
use Rattle.std.specs.VecDeque.{deque_len}
use Rattle.wc_lines.specs.LineText.{HasUtf8Texts}
use Rattle.wc_lines.proofs.lines.Lines.make_room.Goals as goal

pub invariant_of-self : goal.invariant_of-self
invariant_of-self c =
    let was = c.self.invariant in
    let count : deque_len c.reserve.new.lines ≡ length c.reserve.new.lines.items = search rules in
    let before : deque_len c.self.inside.queue ≡ length c.self.inside.queue.items = search rules in
    let now = c.reserve.ensures in
    record {
      some = was.some;
      most = was.most;
      within = omega (arith, count, before, ap length now.items, was.within);
      room = was.room;
      taken = omega (arith, now.kept, was.taken);
      text = subst (All HasUtf8Texts) (sym now.items) was.text;
    }

pub invariant_of-self-2 : goal.invariant_of-self-2
invariant_of-self-2 c =
    let was = c.self.invariant in
    let count : deque_len c.reserve.new.lines ≡ length c.reserve.new.lines.items = search rules in
    let before : deque_len c.self.inside.queue ≡ length c.self.inside.queue.items = search rules in
    let now = c.in_ok-reserve.ensures in
    record {
      some = was.some;
      most = was.most;
      within = omega (arith, count, before, ap length now.items, was.within);
      room = omega (arith, was.room, c.if-limit-self.false);
      taken = now.room;
      text = subst (All HasUtf8Texts) (sym now.items) was.text;
    }
