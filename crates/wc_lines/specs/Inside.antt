-- What the fields mean, and what always holds of them.
use Rattle.std.specs.Prelude.{◌≤◌, All}
use Rattle.std.specs.VecDeque.{deque_len, deque_capacity}
use Rattle.wc_lines.specs.declared.lines.Lines.TheInside.{Inside}
use Rattle.wc_lines.specs.Held.{RingView}
use Rattle.wc_lines.specs.LineText.{HasUtf8Texts}

abbrev pub held_of : Inside → RingView
held_of a = record {
  limit = a.limit;
  lines = a.queue.items;
  pushed = a.pushed;
  room = a.room;
}

-- there is room for as many lines as are held at most, and each of those that are held is text
pub record IsRing (a : Inside) : Type 0 where
  pub some : 1 ≤ a.limit
  pub most : a.limit ≤ 4096
  pub within : deque_len a.queue ≤ a.limit
  pub room : a.limit ≤ a.room
  pub taken : a.room ≤ deque_capacity a.queue
  pub text : All HasUtf8Texts a.queue.items
