use Rattle.wc_options.proofs.WriteLemmas.{values_step}
use Rattle.wc_options.proofs.write.write_values.Goals as goal

pub loop-place-preserved : goal.loop-place-preserved
loop-place-preserved c =
    values_step c.loop-place.text c.write_value.new.text c.args.prefix.now c.args.table.now c.args.values.now c.loop-place.place _ c.index-values-place.result _
    c.loop-place-test.true c.requires c.index-values-place.is c.loop-place.invariant c.in_ok-write_value.ensures
