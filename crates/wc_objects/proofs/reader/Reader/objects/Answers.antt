use Rattle.std.proofs.Common.{◌-◌, length, arith}
use Rattle.std.proofs.lemmas.Result.{err_from_is_err_and}
use Rattle.wc_objects.specs.Reading.{objects_of}
use Rattle.wc_objects.proofs.Loops.{some_go_on, some_end, objects_done, objects_left, is_nothing, is_something}
use Rattle.wc_objects.proofs.reader.Reader.objects.Goals as goal

pub returns-then-is_empty : goal.returns-then-is_empty
returns-then-is_empty c = objects_done c.loop.items ((length c.args.self.now.bytes.now) - c.loop.counter) c.loop.self.bytes.now (objects_of c.args.self.now.bytes.now) (is_nothing (length c.loop.self.bytes.now) c.if-is_empty.ensures) c.loop.invariant

pub returns-in_err-item : goal.returns-in_err-item
returns-in_err-item c =
    let p = err_from_is_err_and c.from_residual.result c.from_residual.ensures.1 in
    rw (p.1, p.2)
    (some_end c.in_err-item.field-0.0 c.loop.items (length c.args.self.now.bytes.now) c.loop.counter c.loop.self.bytes.now (objects_of c.args.self.now.bytes.now) (is_something (length c.loop.self.bytes.now) c.if-is_empty.ensures) c.loop-test.true c.in_err-item.ensures c.loop.invariant)

pub loop-preserved : goal.loop-preserved
loop-preserved c =
    rw c.in_ok-push.ensures.ok
    (some_go_on c.loop.items (length c.args.self.now.bytes.now) c.loop.counter c.loop.self.bytes.now c.in_ok-item.item c.object.new.self.bytes.now (objects_of c.args.self.now.bytes.now) (is_something (length c.loop.self.bytes.now) c.if-is_empty.ensures) c.loop-test.true c.in_ok-item.ensures c.loop.invariant)

pub returns-then-is_empty-2 : goal.returns-then-is_empty-2
returns-then-is_empty-2 c = objects_done c.loop.items ((length c.args.self.now.bytes.now) - c.loop.counter) c.loop.self.bytes.now (objects_of c.args.self.now.bytes.now) (is_nothing (length c.loop.self.bytes.now) c.if-is_empty-2.ensures) c.loop.invariant

pub returns-else-is_empty-2 : goal.returns-else-is_empty-2
returns-else-is_empty-2 c =
    objects_left c.loop.items ((length c.args.self.now.bytes.now) - c.loop.counter) c.loop.self.bytes.now (objects_of c.args.self.now.bytes.now) (omega arith) (is_something (length c.loop.self.bytes.now) c.if-is_empty-2.ensures) c.loop.invariant
