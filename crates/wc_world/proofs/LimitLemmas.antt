-- Lines that get room, and another limit, one buffer after another.
use Rattle.std.proofs.Common.{◌≡◌, ℕ, ◌≤◌, max, Bool, true, false, ◌||◌, cond, List, Option, Some, None, option_map, refl, ap, ◌∙◌, arith}
use Rattle.std.specs.Prelude.{Result, Ok, Err, OnErr}
use Rattle.wc_lines.specs.declared.line.Line.{Line}
use Rattle.wc_lines.specs.Held.{RingView}
use Rattle.wc_lines.specs.Ring.{last_of, with_limit, with_room}
use Rattle.wc_lines.proofs.KeepLast.{last_all, last_short}
use Rattle.wc_world.specs.Limits.{HasRoom}

abbrev roomed : RingView → ℕ → RingView
roomed x room = record { limit = x.limit; lines = x.lines; pushed = x.pushed; room = room }

-- ---- what is done at one buffer is not changed by doing it again

module _ (g : RingView → RingView) (twice : (x : RingView) → g (g x) ≡ g x) where
  done_twice : (o : Option RingView) → option_map g (option_map g o) ≡ option_map g o
  done_twice None = refl
  done_twice (Some x) = ap (λ y. Some y) (twice x)

  pub done_once : (here later : Bool) (o : Option RingView) → cond later (option_map g (cond here (option_map g o) o)) (cond here (option_map g o) o) ≡ cond (here || later) (option_map g o) o
  done_once true true o = done_twice o
  done_once true false o = refl
  done_once false true o = refl
  done_once false false o = refl

pub room_twice : (room : ℕ) (x : RingView) → with_room room (with_room room x) ≡ with_room room x
room_twice room x = let e : max (max x.room room) room ≡ max x.room room = omega arith in ap (roomed x) e

pub limit_twice : (limit : ℕ) (x : RingView) → with_limit limit (with_limit limit x) ≡ with_limit limit x
limit_twice limit x = ap (λ (lines : List Line). record { limit = limit; lines = lines; pushed = x.pushed; room = x.room }) (last_all limit (last_of limit x.lines) (last_short limit x.lines))

-- ---- room

room_more : (more room : ℕ) (o : Option RingView) → option_map (with_room more) (option_map (with_room room) o) ≡ option_map (with_room (max room more)) o
room_more more room None = refl
room_more more room (Some x) = let e : max (max x.room room) more ≡ max x.room (max room more) = omega arith in ap (λ r. Some (roomed x r)) e

same_room : (o : Option RingView) → o ≡ option_map (with_room 0) o
same_room None = refl
same_room (Some x) = let e : x.room ≡ max x.room 0 = omega arith in ap (λ r. Some (roomed x r)) e

pub no_more_room : (o p : Option RingView) → p ≡ o → (room : ℕ) × (p ≡ option_map (with_room room) o)
no_more_room o p e = (0, e ∙ same_room o)

pub room_at : (here : Bool) (more : ℕ) (o was is : Option RingView) → (room : ℕ) × (was ≡ option_map (with_room room) o) → is ≡ cond here (option_map (with_room more) was) was → (room : ℕ) × (is ≡ option_map (with_room room) o)
room_at true more o was is r e = (max r.0 more, e ∙ ap (option_map (with_room more)) r.1 ∙ room_more more r.0 o)
room_at false more o was is r e = (r.0, e ∙ r.1)

pub room_made : (room : ℕ) (o : Option RingView) → HasRoom room (option_map (with_room room) o)
room_made room None = tt
room_made room (Some x) = omega arith

-- another limit leaves the room
pub room_left : (here : Bool) (limit room : ℕ) (o : Option RingView) → HasRoom room o → HasRoom room (cond here (option_map (with_limit limit) o) o)
room_left true limit room None r = tt
room_left true limit room (Some x) r = r
room_left false limit room o r = r

-- what holds whatever was answered
pub on_err : {A E T : Type 0} (r : Result A E) → T → OnErr r T
on_err (Ok a) t = tt
on_err (Err e) t = t
