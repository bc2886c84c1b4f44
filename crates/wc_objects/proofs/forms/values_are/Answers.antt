use Rattle.wc_objects.proofs.KeyLemmas.{starts_keys, all_passed}
use Rattle.wc_objects.proofs.forms.values_are.Goals as goal

pub loop-value-init : goal.loop-value-init
loop-value-init c = starts_keys c.args.keys.now c.all_keys-left.result c.args.values.now c.all_keys-left.ensures

pub returns : goal.returns
returns c =
    all_passed c.args.keys.now c.loop-value.left c.args.values.now c.loop-value.value-index c.is_none.result c.loop-value-test.false c.is_none.ensures c.loop-value.invariant
