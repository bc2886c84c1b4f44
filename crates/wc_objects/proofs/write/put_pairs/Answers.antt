use Rattle.std.proofs.Common.{length}
use Rattle.std.specs.List.{flat_map}
use Rattle.wc_objects.specs.Spelling.{pair_bytes, be32}
use Rattle.wc_objects.proofs.Rooms.{next_has_room, count_has_room}
use Rattle.wc_objects.proofs.write.put_pairs.Goals as goal

pub put_pair-requires : goal.put_pair-requires
put_pair-requires c = rw c.pair-item.is (next_has_room (be32 (length c.args.pairs.now)) pair_bytes c.args.pairs.now c.loop-pair.pair-index c.pair-item.result c.args.out.now c.loop-pair.out c.loop-pair-test.true c.requires c.loop-pair.invariant)

pub put_count-requires : goal.put_count-requires
put_count-requires c = count_has_room c.args.out.now (length c.args.pairs.now) (flat_map pair_bytes c.args.pairs.now) c.requires
