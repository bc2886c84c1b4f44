use Rattle.std.proofs.Common.{arith}
use Rattle.std.proofs.lemmas.Grind.{common_steps}
use Rattle.std.proofs.lemmas.List.Folds.{length-flat_map-take}
use Rattle.wc_objects.specs.Spelling.{be32, variable_bytes}
use Rattle.wc_objects.proofs.size.room_after_variables.Goals as goal

pub returns-in_err-left-2 : goal.returns-in_err-left-2
unfolding be32
returns-in_err-left-2 c =
    let fits = length-flat_map-take variable_bytes c.args.variables.now c.loop-variable.variable-index c.variable-item.result c.loop-variable-test.true in
    grind (arith, common_steps, c.variable-item.is, c.in_err-left-2.ensures)
