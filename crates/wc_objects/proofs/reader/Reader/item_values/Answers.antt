use Rattle.std.proofs.lemmas.Result.{err_from_is_err_and}
use Rattle.wc_objects.specs.declared.kind.Kind.TheVariants.{Chr}
use Rattle.wc_objects.specs.Reading.{values_at}
use Rattle.wc_objects.proofs.Loops.{values_go_on, values_end, values_done}
use Rattle.wc_objects.proofs.reader.Reader.item_values.Goals as goal

pub returns-in_err-item : goal.returns-in_err-item
returns-in_err-item c =
    let p = err_from_is_err_and c.from_residual.result c.from_residual.ensures.1 in
    rw (p.1, p.2)
    (values_end c.in_err-item.field-0.0 c.loop-kind.items c.args.kinds.now c.loop-kind.kind-index Chr c.loop-kind.self.bytes.now (values_at c.args.kinds.now c.args.self.now.bytes.now) c.loop-kind-test.true c.in_err-item.ensures c.loop-kind.invariant)

pub loop-kind-preserved : goal.loop-kind-preserved
loop-kind-preserved c =
    rw c.in_ok-push.ensures.ok
    (values_go_on c.loop-kind.items c.args.kinds.now c.loop-kind.kind-index Chr c.loop-kind.self.bytes.now c.in_ok-item.item c.value.new.self.bytes.now (values_at c.args.kinds.now c.args.self.now.bytes.now) c.loop-kind-test.true c.in_ok-item.ensures c.loop-kind.invariant)

pub returns : goal.returns
returns c = values_done c.loop-kind.items c.args.kinds.now c.loop-kind.kind-index c.loop-kind.self.bytes.now (values_at c.args.kinds.now c.args.self.now.bytes.now) c.loop-kind-test.false c.loop-kind.invariant
