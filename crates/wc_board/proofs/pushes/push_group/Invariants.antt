use Rattle.std.proofs.Common.{◌≡◌, ℕ, ◌+◌, ◌≤◌, true, List, [], map, drop}
use Rattle.wc_text.specs.declared.names.Handle.{Handle}
use Rattle.wc_nickdiff.specs.Held.{touches_of}
use Rattle.wc_nicklist.specs.declared.item.Row.{Row}
use Rattle.wc_world.specs.Near.{numbers}
use Rattle.wc_board.specs.declared.connection.Connection.{Connection}
use Rattle.wc_board.specs.Connections.{client_of}
use Rattle.wc_board.specs.Pushes.{AreThere, pushed_connection, EachPushed, touched_number}
use Rattle.wc_board.specs.Told.{AreTold}
use Rattle.wc_board.specs.Served.{ConnectionsKept}
use Rattle.wc_board.proofs.pushes.push_group.Given as goal

abbrev pub invariant-loop-buffer : goal.invariant-loop-buffer
invariant-loop-buffer g l = record {
  told : l.told ≡ true → AreThere l.world l.group → (told : ℕ → List Row) → AreTold l.world l.pending told → map (pushed_connection l.world told (numbers (drop l.buffer-index l.group))) l.clients ≡ map (pushed_connection l.world told (numbers l.group)) l.initial.clients;
  each : AreThere l.world l.group → (told : ℕ → List Row) → AreTold l.world l.pending told → (final : List Connection) → EachPushed (numbers (drop l.buffer-index l.group)) (pushed_connection l.world told (numbers (drop l.buffer-index l.group))) l.clients final → EachPushed (numbers l.group) (pushed_connection l.world told (numbers l.group)) l.initial.clients final;
  there : AreThere l.world l.group → AreThere l.world (drop l.buffer-index l.group);
  kept : ConnectionsKept l.initial.clients l.clients;
  clients : map client_of l.clients ≡ map client_of l.initial.clients;
  once : l.spellings + touched_number l.pending (numbers (drop l.buffer-index l.group)) ≤ l.initial.spellings + touched_number l.pending (numbers l.group);
  idle : ((buffer : Handle) → touches_of buffer l.pending ≡ []) → (l.told ≡ true) × (l.clients ≡ l.initial.clients);
}
