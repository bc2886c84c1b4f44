use Rattle.std.proofs.Common.{arith}
use Rattle.std.proofs.lemmas.Grind.{common_steps}
use Rattle.std.proofs.lemmas.List.Folds.{length-flat_map-take}
use Rattle.wc_objects.specs.Spelling.{be32, with_count, variable_bytes}
use Rattle.wc_objects.proofs.size.room_after_lists.Goals as goal

pub returns-in_err-left-2 : goal.returns-in_err-left-2
unfolding be32
returns-in_err-left-2 c =
    let fits = length-flat_map-take (with_count variable_bytes) c.args.lists.now c.loop-list.list-index c.list-item.result c.loop-list-test.true in
    grind (arith, common_steps, c.list-item.is, c.in_err-left-2.ensures)
