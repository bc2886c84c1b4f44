use Rattle.std.proofs.Common.{arith, ◌<◌}
use Rattle.wc_hdata.specs.Ranges.{places_in}
use Rattle.wc_hdata.proofs.RangeLemmas.{next_on, next_back}
use Rattle.wc_hdata.proofs.cursor.Cursor.next.Goals as goal

pub returns-then-self-2 : goal.returns-then-self-2
returns-then-self-2 c =
    let le = c.self.invariant.0 in
    let lt : c.self.inside.low < c.self.inside.high = omega (arith, le, c.if-self.false) in
    next_back c.self.inside.backward (places_in c.self.inside.source) c.args.self.now c.self.inside.low c.self.inside.high _ c.if-self-2.true c.self.view_is lt c.self.invariant.1 c.at.ensures

pub returns-else-self-2 : goal.returns-else-self-2
returns-else-self-2 c =
    let le = c.self.invariant.0 in
    let lt : c.self.inside.low < c.self.inside.high = omega (arith, le, c.if-self.false) in
    next_on c.self.inside.backward (places_in c.self.inside.source) c.args.self.now c.self.inside.low c.self.inside.high _ _ c.if-self-2.false c.self.view_is lt c.self.invariant.1 (omega arith) c.at-else-self-2.ensures
