use Rattle.std.proofs.Common.{arith}
use Rattle.std.proofs.lemmas.Grind.{common_steps}
use Rattle.std.proofs.lemmas.List.Folds.{length-flat_map-take}
use Rattle.wc_keys.specs.declared.key.Key.TheVariants.{Number}
use Rattle.wc_events.specs.ValueBytes.{line_bytes}
use Rattle.wc_events.proofs.ValueBytes.{one_more}
use Rattle.wc_events.proofs.line_bytes.room_after_line.Goals as goal

pub returns-in_err-left : goal.returns-in_err-left
returns-in_err-left c =
    let fits = length-flat_map-take (line_bytes c.args.buffer c.args.line.now) c.args.keys.now c.loop-key.key-index Number c.loop-key-test.true in
    grind (arith, common_steps, c.in_err-left.ensures)

pub loop-key-preserved : goal.loop-key-preserved
loop-key-preserved c =
    one_more (line_bytes c.args.buffer c.args.line.now) c.args.keys.now c.loop-key.key-index Number c.args.room c.loop-key.left c.in_ok-left.left c.loop-key-test.true c.loop-key.invariant c.in_ok-left.ensures
