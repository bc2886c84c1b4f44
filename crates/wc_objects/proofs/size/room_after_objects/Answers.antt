use Rattle.std.proofs.Common.{arith}
use Rattle.std.proofs.lemmas.Grind.{common_steps}
use Rattle.std.proofs.lemmas.List.Folds.{length-flat_map-take}
use Rattle.wc_objects.specs.Spelling.{object_bytes}
use Rattle.wc_objects.proofs.size.room_after_objects.Goals as goal

pub returns-in_err-left : goal.returns-in_err-left
returns-in_err-left c =
    let fits = length-flat_map-take object_bytes c.args.objects.now c.loop-object.object-index c.object-item.result c.loop-object-test.true in
    grind (arith, common_steps, c.object-item.is, c.in_err-left.ensures)
