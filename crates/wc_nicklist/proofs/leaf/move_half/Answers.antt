use Rattle.std.proofs.Common.{◌≡◌, ◌≤◌, ◌<◌, length, ap, refl, arith}
use Rattle.wc_nicklist.proofs.Halves.{half_init, half_step, half_end}
use Rattle.wc_nicklist.proofs.leaf.move_half.Goals as goal

pub loop-lower-init : goal.loop-lower-init
loop-lower-init c =
    let low = c.args.lower.now.ok in
    let up = c.args.upper.now.ok in
    let none : length c.args.upper.now.items ≡ 0 = ap length c.requires.empty in
    record {
      rows = half_init c.args.lower.now.items c.args.upper.now.items 32 c.requires.empty;
      total = omega (arith, low, up, none, c.requires.full);
      half = omega (arith, c.requires.full);
      roomy = c.requires.roomy;
      upper_capacity = refl;
      lower_capacity = refl;
    }

pub loop-lower-preserved : goal.loop-lower-preserved
loop-lower-preserved c =
    let i = c.loop-lower.invariant in
    let low = c.loop-lower.lower.ok in
    let h : 32 < length c.loop-lower.lower.items = omega arith in
    record {
      rows = half_step c.args.lower.now.items c.loop-lower.lower.items c.remove-entry.new.self.items c.loop-lower.upper.items c.push_reserved.new.self.items c.remove-entry.result 32 h c.remove-entry.ensures.items c.remove-entry.ensures.value c.push_reserved.ensures.items i.rows;
      total = omega (arith, i.total, c.remove-entry.ensures.len, c.push_reserved.ensures.len);
      half = omega (arith, c.remove-entry.ensures.len);
      roomy = omega (arith, i.roomy, c.push_reserved.ensures.capacity);
      upper_capacity = omega (arith, i.upper_capacity, c.push_reserved.ensures.capacity);
      lower_capacity = omega (arith, i.lower_capacity, c.remove-entry.ensures.capacity);
    }

pub returns-clause-rows : goal.returns-clause-rows
returns-clause-rows c =
    let i = c.loop-lower.invariant in
    let low = c.loop-lower.lower.ok in
    let h : length c.loop-lower.lower.items ≤ 32 = omega arith in
    half_end c.args.lower.now.items c.loop-lower.lower.items c.loop-lower.upper.items 32 h i.rows
