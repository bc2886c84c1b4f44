use Rattle.std.proofs.Common.{length}
use Rattle.std.specs.List.{flat_map}
use Rattle.wc_objects.proofs.Rooms.{count_has_room}
use Rattle.wc_events.specs.ValueBytes.{var_bytes}
use Rattle.wc_events.proofs.value_bytes.put_counted_vars.Goals as goal

pub put_count-requires : goal.put_count-requires
put_count-requires c = count_has_room c.args.out.now (length c.args.vars.now) (flat_map var_bytes c.args.vars.now) c.requires
