-- How far a count goes along a list.
use Rattle.std.specs.Prelude.{ℕ, ◌+◌, List, take, drop, reverse}
use Rattle.wc_hdata.specs.declared.count.Count.{Count}
use Rattle.wc_hdata.specs.declared.count.Count.TheVariants.{One, All, Forward, Backward}

-- the elements to which a count goes from a place of a list
abbrev pub along : {A : Type 0} → Count → ℕ → List A → List A
along One at xs = take 1 (drop at xs)
along All at xs = drop at xs
along (Forward n) at xs = take n (drop at xs)
along (Backward n) at xs = take n (reverse (take (at + 1) xs))
