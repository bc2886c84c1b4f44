use Rattle.std.proofs.Common.{◌≡◌, ◌+◌, ◌≤◌, true, List, map, drop}
use Rattle.wc_model.specs.Parts.{trim_part}
use Rattle.wc_model.specs.World.{World}
use Rattle.wc_board.specs.declared.connection.Connection.{Connection}
use Rattle.wc_board.specs.Served.{PartsServed, heard_number}
use Rattle.wc_board.proofs.PartLemmas.{parts_connection}
use Rattle.wc_board.proofs.telling.tell_trims.Given as goal

-- what is left is still to be told to the clients so far
abbrev pub invariant-loop-trim : goal.invariant-loop-trim
invariant-loop-trim g l = record {
  told : l.told ≡ true → (w : World) → map (parts_connection w (map trim_part (drop l.trim-index l.trims))) l.clients ≡ map (parts_connection w (map trim_part l.trims)) l.initial.clients;
  each : (w : World) (final : List Connection) → PartsServed w (map trim_part (drop l.trim-index l.trims)) l.clients final → PartsServed w (map trim_part l.trims) l.initial.clients final;
  least : l.initial.spellings ≤ l.spellings;
  once : l.spellings + heard_number l.clients (map trim_part (drop l.trim-index l.trims)) ≤ l.initial.spellings + heard_number l.initial.clients (map trim_part l.trims);
}
