use Rattle.std.proofs.Common.{arith, ◌<◌, ◌≤◌, length}
use Rattle.wc_hdata.proofs.RangeLemmas.{held_got, none_held}
use Rattle.wc_hdata.proofs.cursor.held_at.Goals as goal

pub returns-in-Some : goal.returns-in-Some
returns-in-Some c = let l = c.in-Some.ensures.lookup in
    let lt : c.args.place < length c.args.lines.now = omega (arith, l) in
    held_got c.args.lines.now c.args.place c.in-Some.held.now lt l.1

pub returns-in-None : goal.returns-in-None
returns-in-None c = let l = c.in-None.ensures.lookup in
    let le : length c.args.lines.now ≤ c.args.place = omega (arith, l) in
    none_held c.args.lines.now c.args.place le
