use Rattle.std.proofs.Common.{◌≡◌, ◌+◌, ℕ, take, vec_len}
use Rattle.wc_scripted.specs.Cursors.{cursor_at, given_at}
use Rattle.wc_scripted.specs.Rows.{row_at}
use Rattle.wc_scripted.proofs.places.make_places.Given as goal

abbrev pub invariant-loop : goal.invariant-loop
invariant-loop l = record {
  count : vec_len l.rows ≡ vec_len l.fn.rows + l.counter;
  rows : (other : ℕ) → row_at other l.rows.items ≡ row_at other l.fn.rows.items;
  paired : vec_len l.rows ≡ vec_len l.play.cursors;
  script : l.play.script ≡ l.fn.play.script;
  listener : l.play.listener ≡ l.fn.play.listener;
  given : (other : ℕ) → given_at (take l.fn.play.script.released l.fn.play.script.steps) other (cursor_at other l.play.cursors.items)
      ≡ given_at (take l.fn.play.script.released l.fn.play.script.steps) other (cursor_at other l.fn.play.cursors.items);
}
