use Rattle.std.proofs.Common.{◌≡◌, ℕ, ◌+◌, ◌≤◌, true, List, [], map}
use Rattle.wc_text.specs.declared.names.Handle.{Handle}
use Rattle.wc_nickdiff.specs.Held.{touches_of}
use Rattle.wc_nicklist.specs.declared.item.Row.{Row}
use Rattle.wc_model.specs.Order.{order}
use Rattle.wc_world.specs.Near.{all_numbers}
use Rattle.wc_board.specs.declared.connection.Connection.{Connection}
use Rattle.wc_board.specs.Connections.{client_of}
use Rattle.wc_board.specs.Pushes.{pushed_connection, EachPushed, touched_number}
use Rattle.wc_board.specs.Told.{AreTold}
use Rattle.wc_board.specs.Served.{ConnectionsKept}
use Rattle.wc_board.proofs.PushConnections.{AllThere}
use Rattle.wc_board.proofs.pushes.push_nicks.Given as goal

abbrev pub invariant-loop-group : goal.invariant-loop-group
invariant-loop-group g l = record {
  told : l.told ≡ true → (told : ℕ → List Row) → AreTold l.world l.pending told → map (pushed_connection l.world told (all_numbers l.group-iterator)) l.clients ≡ map (pushed_connection l.world told (order l.world.groups)) l.initial.clients;
  each : (told : ℕ → List Row) → AreTold l.world l.pending told → (final : List Connection) → EachPushed (all_numbers l.group-iterator) (pushed_connection l.world told (all_numbers l.group-iterator)) l.clients final → EachPushed (order l.world.groups) (pushed_connection l.world told (order l.world.groups)) l.initial.clients final;
  there : AllThere l.world l.group-iterator;
  kept : ConnectionsKept l.initial.clients l.clients;
  clients : map client_of l.clients ≡ map client_of l.initial.clients;
  once : l.spellings + touched_number l.pending (all_numbers l.group-iterator) ≤ l.initial.spellings + touched_number l.pending (order l.world.groups);
  idle : ((buffer : Handle) → touches_of buffer l.pending ≡ []) → (l.told ≡ true) × (l.clients ≡ l.initial.clients);
}
