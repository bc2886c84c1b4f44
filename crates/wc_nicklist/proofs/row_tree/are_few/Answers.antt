use Rattle.std.proofs.Common.{◌+◌, ◌-◌, ◌≤◌, sym, ap, ◌∙◌, arith, add-one, leb-true}
use Rattle.std.specs.Prelude.{slice_get, vec_len}
use Rattle.wc_nicklist.proofs.Places.{got_some}
use Rattle.wc_nicklist.proofs.row_tree.are_few.Goals as goal

pub returns-then-len-le-HALF : goal.returns-then-len-le-HALF
returns-then-len-le-HALF c t =
    let leaf = c.in-Some.leaf.now in
    let next = c.in-Some-get.next.now in
    let first = c.in-Some.ensures.lookup in
    let second = c.in-Some-get.ensures.lookup in
    let own : vec_len leaf ≤ 32 = omega (arith, c.len.ensures, c.if-len-le-HALF.true) in
    let other : vec_len next ≤ 32 - vec_len leaf = omega (arith, c.len-then-len-le-HALF.ensures, c.len-then-len-le-HALF-2.ensures, leb-true c.len-then-len-le-HALF.result (32 - c.len-then-len-le-HALF-2.result) t) in
    record {
      leaf = leaf;
      next = next;
      got = got_some c.args.leaves.now c.args.at leaf first.0 first.1;
      next_got = sym (ap (λ n. slice_get c.args.leaves.now n) (add-one c.args.at)) ∙ got_some c.args.leaves.now (c.args.at + 1) next second.0 second.1;
      few = omega (arith, own, other);
    }
