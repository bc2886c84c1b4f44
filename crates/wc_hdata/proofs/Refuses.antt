-- The first reason that holds, and the answer where none does.
use Rattle.std.proofs.Common.{◌≡◌, ℕ, ◌<◌, ◌≤◌, true, false, Some, None, List, length, arith, refl, sym, ap, ◌∙◌}
use Rattle.std.specs.Prelude.{nat_lt}
use Rattle.std.specs.List.{flat_map}
use Rattle.std.proofs.lemmas.Bool.Decides.{nat_tests}
use Rattle.wc_model.specs.World.{World}
use Rattle.wc_objects.specs.declared.object.HdaItem.{HdaItem}
use Rattle.wc_objects.specs.declared.object.Object.{Object}
use Rattle.wc_keys.specs.declared.key.Key.{Key}
use Rattle.wc_hdata.specs.declared.path.Path.{Path}
use Rattle.wc_hdata.specs.declared.refused.WalkRefused.{WalkRefused}
use Rattle.wc_hdata.specs.Hdata.{keys_asked, all_bytes, bytes_of, length_refusal, most_bytes, object_of, refusal, too_long, walk_object}
use Rattle.wc_hdata.specs.Refusals.{reached, refusal_from, start_pointer, walk_refusal}
use Rattle.wc_hdata.specs.Starts.{or_else, starts}
use Rattle.wc_hdata.specs.declared.refused.WalkRefused.TheVariants.{DeadPointer}
use Rattle.wc_hdata.specs.Values.{items_of}

pub first_refusal : (world : World) (path : Path) (keys : List ℕ) (e : WalkRefused) → walk_refusal world path ≡ Some e → refusal world path keys ≡ Some e
unfolding refusal
first_refusal world path keys e due = ap (λ first. or_else first (length_refusal (length (all_bytes world path keys)))) due

length_of : (world : World) (path : Path) (keys : List ℕ) (named : List Key) → named ≡ keys_asked path keys → length (flat_map (bytes_of world named) (reached world path)) ≡ length (all_bytes world path keys)
length_of world path keys named k = λ i. length (flat_map (bytes_of world (k i)) (reached world path))

following : (world : World) (path : Path) (keys : List ℕ) → walk_refusal world path ≡ None → refusal world path keys ≡ length_refusal (length (all_bytes world path keys))
unfolding refusal
following world path keys none = ap (λ first. or_else first (length_refusal (length (all_bytes world path keys)))) none

pub long_refusal : (world : World) (path : Path) (keys : List ℕ) (named : List Key) → walk_refusal world path ≡ None → named ≡ keys_asked path keys → most_bytes < length (flat_map (bytes_of world named) (reached world path)) → refusal world path keys ≡ Some too_long
long_refusal world path keys named none k long =
    let same = length_of world path keys named k in
    let t : nat_lt most_bytes (length (all_bytes world path keys)) ≡ true = grind (arith, nat_tests) in
    following world path keys none ∙ rw t refl

pub no_refusal : (world : World) (path : Path) (keys : List ℕ) (named : List Key) → walk_refusal world path ≡ None → named ≡ keys_asked path keys → length (flat_map (bytes_of world named) (reached world path)) ≤ most_bytes → refusal world path keys ≡ None
no_refusal world path keys named none k short =
    let same = length_of world path keys named k in
    let t : nat_lt most_bytes (length (all_bytes world path keys)) ≡ false = grind (arith, nat_tests) in
    following world path keys none ∙ rw t refl

pub object_is : (world : World) (path : Path) (keys : List ℕ) (named : List Key) (items : List HdaItem) (object : Object) → object ≡ object_of path named items → named ≡ keys_asked path keys → items ≡ items_of world named (reached world path) → object ≡ walk_object world path keys
unfolding walk_object
object_is world path keys named items object is k e =
    is ∙ ap (object_of path named) e ∙ (λ i. object_of path (k i) (items_of world (k i) (reached world path)))

-- what `walk` needs
pub ruleset walk_facts = (first_refusal, long_refusal, no_refusal, object_is)

-- a path that is not refused does not begin at a dead pointer
pub not_dead : (world : World) (path : Path) → starts world path.count path.start ≡ None → walk_refusal world path ≡ None → ⊥
unfolding walk_refusal
not_dead world path dead none = let due : Some (DeadPointer (start_pointer path.start)) ≡ None = sym (ap (refusal_from world path) dead) ∙ none in cc
