use Rattle.std.proofs.Common.{arith}
use Rattle.std.proofs.lemmas.Grind.{common_steps}
use Rattle.std.proofs.lemmas.List.Folds.{length-flat_map-take}
use Rattle.wc_objects.specs.Spelling.{value_bytes}
use Rattle.wc_objects.proofs.size.room_after_item_values.Goals as goal

pub returns-in_err-left : goal.returns-in_err-left
returns-in_err-left c =
    let fits = length-flat_map-take value_bytes c.args.values.now c.loop-value.value-index c.value-item.result c.loop-value-test.true in
    grind (arith, common_steps, c.value-item.is, c.in_err-left.ensures)
