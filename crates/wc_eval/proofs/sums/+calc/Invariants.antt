use Rattle.std.proofs.Common.{◌≡◌, ◌≤◌, ◌+◌, ◌*◌, length}
use Rattle.wc_eval.specs.Texts.{past_margin}
use Rattle.wc_eval.specs.Fronts.{EndsProduct, IsFront}
use Rattle.wc_eval.proofs.LoopLemmas.{SumStands, ProductStands}
use Rattle.wc_eval.proofs.sums.+calc.Given as goal

abbrev pub decreases-read_sum : goal.decreases-read_sum
decreases-read_sum l = l.depth * 5 + 4

abbrev pub decreases-read_product : goal.decreases-read_product
decreases-read_product l = l.depth * 5 + 3

abbrev pub decreases-read_number : goal.decreases-read_number
decreases-read_number l = l.depth * 5 + 2

abbrev pub decreases-read_plain : goal.decreases-read_plain
decreases-read_plain l = l.depth * 5 + 1

abbrev pub decreases-read_enclosed : goal.decreases-read_enclosed
decreases-read_enclosed l = l.depth * 5

abbrev pub invariant-read_sum-terms : goal.invariant-read_sum-terms
invariant-read_sum-terms l = record {
  stands : SumStands l.depth l.text l.value l.rest;
  front : IsFront l.depth 0 l.text l.value l.rest;
  ended : EndsProduct l.rest;
  shorter : length l.rest ≤ length l.text;
}

abbrev pub decreases-read_sum-terms : goal.decreases-read_sum-terms
decreases-read_sum-terms l = length l.rest

abbrev pub invariant-read_product-factors : goal.invariant-read_product-factors
invariant-read_product-factors l = record {
  stands : ProductStands l.depth l.text l.value l.rest;
  front : IsFront l.depth 1 l.text l.value l.rest;
  bare : past_margin l.rest ≡ l.rest;
  shorter : length l.rest ≤ length l.text;
}

abbrev pub decreases-read_product-factors : goal.decreases-read_product-factors
decreases-read_product-factors l = length l.rest
