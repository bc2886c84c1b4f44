-- Whether a path gives few enough pointers.
use Rattle.std.proofs.Common.{◌≡◌, ◌+◌, Bool, true, false, List, [], length, arith, refl, sym, ap, ◌∙◌}
use Rattle.std.specs.Prelude.{nat_le, nat_lt, Some, None}
use Rattle.std.proofs.lemmas.Bool.Decides.{nat_tests}
use Rattle.wc_model.specs.World.{World}
use Rattle.wc_hdata.specs.declared.path.Path.{Path}
use Rattle.wc_hdata.specs.declared.path.Step.{Step}
use Rattle.wc_hdata.specs.Depth.{further}
use Rattle.wc_hdata.specs.Reached.{Place}
use Rattle.wc_hdata.specs.Refusals.{most_visits, refusal_from, too_many, walk_refusal}
use Rattle.wc_hdata.specs.Starts.{starts}
use Rattle.wc_hdata.specs.Walk.{nodes_at, visits}
use Rattle.wc_hdata.proofs.DepthLemmas.{visits_at}

few_of : (world : World) (path : Path) (first : List Place) (steps : List Step) (few : Bool) → steps ≡ path.steps → few ≡ nat_le (length first + further world steps first) most_visits → nat_le (visits world path.steps (nodes_at world.groups [] first)) most_visits ≡ few
few_of world path first steps few same is = ap (λ n. nat_le n most_visits) (visits_at world path.steps first ∙ ap (λ s. length first + further world s first) (sym same)) ∙ sym is

pub few_accepted : (world : World) (path : Path) (first : List Place) (steps : List Step) (few : Bool) → Some first ≡ starts world path.count path.start → steps ≡ path.steps → few ≡ nat_le (length first + further world steps first) most_visits → few ≡ true → walk_refusal world path ≡ None
unfolding walk_refusal
few_accepted world path first steps few begun same is t_few =
    let le : nat_le (visits world path.steps (nodes_at world.groups [] first)) most_visits ≡ true = few_of world path first steps few same is ∙ t_few in
    let t : nat_lt most_visits (visits world path.steps (nodes_at world.groups [] first)) ≡ false = grind (arith, nat_tests) in
    ap (refusal_from world path) (sym begun) ∙ rw t refl

pub many_refused : (world : World) (path : Path) (first : List Place) (steps : List Step) (few : Bool) → Some first ≡ starts world path.count path.start → steps ≡ path.steps → few ≡ nat_le (length first + further world steps first) most_visits → few ≡ false → walk_refusal world path ≡ Some too_many
unfolding walk_refusal
many_refused world path first steps few begun same is f_few =
    let gt : nat_le (visits world path.steps (nodes_at world.groups [] first)) most_visits ≡ false = few_of world path first steps few same is ∙ f_few in
    let t : nat_lt most_visits (visits world path.steps (nodes_at world.groups [] first)) ≡ true = grind (arith, nat_tests) in
    ap (refusal_from world path) (sym begun) ∙ rw t refl
