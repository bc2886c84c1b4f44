use Rattle.std.proofs.Common.{arith}
use Rattle.std.proofs.lemmas.Grind.{common_steps}
use Rattle.std.proofs.lemmas.List.Folds.{length-flat_map-take}
use Rattle.wc_objects.specs.Spelling.{item_bytes}
use Rattle.wc_objects.proofs.size.room_after_items.Goals as goal

pub returns-in_err-left : goal.returns-in_err-left
returns-in_err-left c =
    let fits = length-flat_map-take item_bytes c.args.items.now c.loop-item.item-index c.item-item.result c.loop-item-test.true in
    grind (arith, common_steps, c.item-item.is, c.in_err-left.ensures)
