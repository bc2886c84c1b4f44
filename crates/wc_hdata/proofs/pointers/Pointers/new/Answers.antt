use Rattle.std.proofs.Common.{arith}
use Rattle.wc_hdata.proofs.SpelledLemmas.{none_bytes, none_pointers}
use Rattle.wc_hdata.proofs.pointers.Pointers.new.Goals as goal

pub invariant_of-result : goal.invariant_of-result
invariant_of-result c =
    let is = c.in_ok-items.ensures.items_if_clones_equal (λ y e. e) in
    let len = c.in_ok-items.ensures.len in
    let most = c.if-count-gt-MOST_POINTERS.false in
    record {
      bytes = none_bytes c.in_ok-items.items.items c.args.count is;
      few = omega (arith, len, most);
      numbers = none_pointers c.in_ok-items.items.items c.args.count is;
    }
