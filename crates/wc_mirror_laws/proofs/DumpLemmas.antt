-- There are as many groups as buffers, or fewer.
use Rattle.std.proofs.Common.{ℕ, ◌≤◌, map, length, arith}
use Rattle.std.proofs.lemmas.List.{length-map}
use Rattle.wc_buffers.specs.declared.row.BufferEntry.{BufferEntry}
use Rattle.wc_buffers.specs.Kept.{handles}
use Rattle.wc_buffers.proofs.TableLemmas.{groups-le-rows}
use Rattle.wc_model.specs.World.{World}
use Rattle.wc_mirror_laws.specs.Worlds.{IsWorldKept}

pub few_groups : (limit : ℕ) (world : World) → IsWorldKept limit world → length world.groups ≤ 256
few_groups limit world is =
    let few = is.groups.few in
    omega (arith, groups-le-rows (handles world.groups) is.groups.filled, length-map world.groups (map (λ (e : BufferEntry). e.row.handle)))
