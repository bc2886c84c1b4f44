use Rattle.std.proofs.Common.{length}
use Rattle.std.specs.List.{flat_map}
use Rattle.wc_objects.proofs.Rooms.{count_has_room}
use Rattle.wc_events.specs.ValueBytes.{tag_bytes}
use Rattle.wc_events.proofs.value_bytes.put_counted_tags.Goals as goal

pub put_count-requires : goal.put_count-requires
put_count-requires c = count_has_room c.args.out.now (length c.args.line.now.tags) (flat_map tag_bytes c.args.line.now.tags) c.requires
