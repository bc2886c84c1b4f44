-- The room that the answer to a data path takes, as it is measured.
use Rattle.std.proofs.Common.{◌≡◌, ℕ, ◌+◌, ◌-◌, ◌^◌, ◌<◌, ◌≤◌, inl, inr, Bool, true, false, cond, List, ◌++◌, [], ◌∷◌, length, Option, Some, None, refl, ap, sym, ◌∙◌, arith, length-append}
use Rattle.std.specs.Prelude.{nat_lt}
use Rattle.std.proofs.lemmas.Bool.Decides.{nat_tests}
use Rattle.std.proofs.lemmas.Option.{none-some}
use Rattle.bytes.specs.Filled.{Filled}
use Rattle.wc_model.specs.World.{World}
use Rattle.wc_objects.specs.Spelling.{HasRoomFor, Puts, be32}
use Rattle.wc_objects.proofs.Rooms.{Puts-then, length-be32}
use Rattle.wc_keys.specs.declared.key.Key.{Key}
use Rattle.wc_hdata.specs.declared.path.Path.{Path}
use Rattle.wc_hdata.specs.declared.path.Step.{Step}
use Rattle.wc_hdata.specs.declared.writer.Left.{Left}
use Rattle.wc_hdata.specs.declared.writer.Size.{Size}
use Rattle.wc_hdata.specs.Hdata.{most_bytes}
use Rattle.wc_hdata.specs.Reached.{Place}
use Rattle.wc_hdata.specs.Refusals.{most_visits, too_many, reached, reached_from, walk_refusal, refusal_from}
use Rattle.wc_hdata.specs.Starts.{starts}
use Rattle.wc_hdata.specs.Walk.{Node, nodes_at, nodes_reached, onward_all, visits}
use Rattle.wc_hdata.specs.WalkBytes.{pointers_of_all, values_of_all, walk_body, walk_bytes}
use Rattle.wc_hdata.specs.WalkRoom.{IsAfter, IsOver, IsSize, IsTooLong}
use Rattle.wc_hdata.proofs.WalkMessage.{length_of_walk}

-- ---- a path that is not refused reaches few places
visits_cover : (world : World) (steps : List Step) (nodes : List Node) → length (nodes_reached world steps nodes) ≤ visits world steps nodes
visits_cover world [] nodes = omega arith
visits_cover world (step ∷ steps) nodes = omega (arith, visits_cover world steps (onward_all world step nodes))

few_from : (world : World) (path : Path) (places : Option (List Place)) → refusal_from world path places ≡ None → length (reached_from world path places) < 2 ^ 31
few_from world path None none = omega arith
few_from world path (Some places) none = by (nat_lt most_visits count) refl none
  where
    count : ℕ
    count = visits world path.steps (nodes_at world.groups [] places)

    by : (t : Bool) → nat_lt most_visits count ≡ t → cond t (Some too_many) None ≡ None → length (nodes_reached world path.steps (nodes_at world.groups [] places)) < 2 ^ 31
    by true e is = absurd (none-some too_many (sym is))
    by false e is =
        let most : count ≤ 4194304 = grind (arith, nat_tests, e) in
        omega (arith, visits_cover world path.steps (nodes_at world.groups [] places), most)

pub few_reached : (world : World) (path : Path) → walk_refusal world path ≡ None → length (reached world path) < 2 ^ 31
unfolding walk_refusal reached
few_reached world path none = few_from world path (starts world path.count path.start) none

-- ---- what is too long
module _ (world : World) (front : List ℕ) (keys : List Key) (nodes : List Node) where
  pub front_over : 2147483639 < length front → IsTooLong world front keys nodes
  front_over over = inr (omega (arith, over, length_of_walk world front keys nodes))

  pub items_over : (whole : Left) → whole.values ≡ most_bytes → whole.room + length front ≡ 2147483639 → IsOver whole (pointers_of_all nodes) (values_of_all world keys nodes) → IsTooLong world front keys nodes
  items_over whole values room (inl over) = inr (omega (arith, over, room, length_of_walk world front keys nodes))
  items_over whole values room (inr over) = inl (omega (arith, over, values))

  pub message_over : (whole left : Left) → whole.values ≡ most_bytes → whole.room + length front ≡ 2147483639
      → IsAfter whole left (pointers_of_all nodes) (values_of_all world keys nodes) (length nodes) → left.room < 2147483584 - left.values → IsTooLong world front keys nodes
  message_over whole left values room rest over = inr (omega (arith, over, values, room, rest.room, rest.values_left, length_of_walk world front keys nodes))

  pub is_size : (whole left : Left) (spare : ℕ) → whole.values ≡ most_bytes → whole.items ≡ 0 → whole.room + length front ≡ 2147483639
      → IsAfter whole left (pointers_of_all nodes) (values_of_all world keys nodes) (length nodes) → spare + (2147483584 - left.values) ≡ left.room
      → IsSize world front keys nodes (record { bytes = 2147483647 - spare; items = left.items })
  is_size whole left spare values items room rest short = record {
    bytes = omega (arith, values, room, rest.room, rest.values_left, short, length_of_walk world front keys nodes);
    items = omega (arith, items, rest.counted);
    short = omega arith;
    few_values = omega (arith, values, rest.values_left);
  }

-- ---- the message, whose length is known
length_of_message : (world : World) (front : List ℕ) (keys : List Key) (nodes : List Node) → length (walk_bytes world front keys nodes) ≡ 4 + length (walk_body world front keys nodes)
length_of_message world front keys nodes =
    let body = walk_body world front keys nodes in
    omega (arith, length-append (be32 (4 + length body)) body, length-be32 (4 + length body))

sized : (world : World) (front : List ℕ) (keys : List Key) (nodes : List Node) (size : Size) → IsSize world front keys nodes size
    → walk_bytes world front keys nodes ≡ be32 size.bytes ++ walk_body world front keys nodes
sized world front keys nodes size is =
    let body = walk_body world front keys nodes in
    let length_is : 4 + length body ≡ size.bytes = omega (arith, is.bytes, length_of_message world front keys nodes) in
    ap (λ n. be32 n ++ body) length_is

pub body_has_room : (world : World) (front : List ℕ) (keys : List Key) (nodes : List Node) (size : Size) (old counted : Filled) → IsSize world front keys nodes size
    → size.bytes ≤ old.spare → Puts old counted (be32 size.bytes) → HasRoomFor counted (walk_body world front keys nodes)
body_has_room world front keys nodes size old counted is room puts =
    let whole = length_of_message world front keys nodes in
    (omega (arith, room, puts.1, is.bytes, whole, length-be32 size.bytes), omega (arith, is.bytes, is.short, whole))

pub message_is : (world : World) (front : List ℕ) (keys : List Key) (nodes : List Node) (size : Size) (old counted new : Filled) → IsSize world front keys nodes size
    → Puts old counted (be32 size.bytes) → Puts counted new (walk_body world front keys nodes) → new.items ≡ old.items ++ walk_bytes world front keys nodes
message_is world front keys nodes size old counted new is head body =
    (Puts-then old counted new (be32 size.bytes) (walk_body world front keys nodes) head body).0 ∙ ap (λ (b : List ℕ). old.items ++ b) (sym (sized world front keys nodes size is))
