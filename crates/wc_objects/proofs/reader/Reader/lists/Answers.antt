use Rattle.std.proofs.lemmas.Result.{err_from_is_err_and}
use Rattle.wc_objects.specs.Reading.{times, counted_at, variable_at}
use Rattle.wc_objects.proofs.Loops.{goes_on, ends, is_done}
use Rattle.wc_objects.proofs.reader.Reader.lists.Goals as goal

pub returns-in_err-item : goal.returns-in_err-item
returns-in_err-item c =
    let p = err_from_is_err_and c.from_residual.result c.from_residual.ensures.1 in
    rw (p.1, p.2) (ends (counted_at variable_at) c.in_err-item.field-0.0 c.loop.items c.args.count c.loop.counter c.loop.self.bytes.now (times c.args.count (counted_at variable_at) c.args.self.now.bytes.now) c.loop-test.true c.in_err-item.ensures c.loop.invariant)

pub loop-preserved : goal.loop-preserved
loop-preserved c =
    rw c.in_ok-push.ensures.ok (goes_on (counted_at variable_at) c.loop.items c.args.count c.loop.counter c.loop.self.bytes.now c.in_ok-item.item c.variables.new.self.bytes.now (times c.args.count (counted_at variable_at) c.args.self.now.bytes.now) c.loop-test.true c.in_ok-item.ensures c.loop.invariant)

pub returns : goal.returns
returns c = is_done (counted_at variable_at) c.loop.items c.args.count c.loop.counter c.loop.self.bytes.now (times c.args.count (counted_at variable_at) c.args.self.now.bytes.now) c.loop-test.false c.loop.invariant
