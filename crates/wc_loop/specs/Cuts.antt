-- How bytes are cut is of no matter.
use Rattle.std.specs.Prelude.{◌≡◌, ℕ, List, ◌∷◌, ◌++◌}
use Rattle.wc_text.specs.declared.names.LinkId.{LinkId}
use Rattle.wc_outside.specs.Seen.{Seen}
use Rattle.wc_outside.specs.declared.happening.Happening.TheVariants.{Read}
use Rattle.wc_core.specs.Events.{Event}
use Rattle.wc_core.specs.State.{State}
use Rattle.wc_core.specs.Step.{run}
use Rattle.wc_turns.specs.Parties.{owed_to, asks_in}
use Rattle.wc_turns.specs.declared.headless.Headless.{Headless}
use Rattle.wc_turns.specs.Events.{whole}
use Rattle.wc_turns.specs.Heard.{Heard, Happened}
use Rattle.wc_loop.specs.Headline.{HandsOut}

-- two runs take the same events, end in the same world, owe each link the same bytes, and want the
-- same connections
pub record RunAlike (first : State) (x y : Headless) (events others : List Event) : Type 0 where
  pub reached : events ≡ others
  pub world : x.core.world ≡ y.core.world
  pub quits : x.core.quits ≡ y.core.quits
  pub owed : (link : ℕ) → owed_to link (run first events).acts ≡ owed_to link (run first others).acts
  pub asked : asks_in (run first events).acts ≡ asks_in (run first others).acts

-- runs in which what was heard spells the same events
abbrev pub SpellAlike : Type 0
SpellAlike = (first : State) (a b : Seen) (x y : Headless) (one : HandsOut first a x)
    (other : HandsOut first b y) → whole one.history ≡ whole other.history →
    RunAlike first x y one.events other.events

-- what is read at once spells the same events as what is read in two pieces
abbrev pub CutAnywhere : Type 0
CutAnywhere = (before after : List Heard) (link : LinkId) (xs ys : List ℕ) →
    whole (before ++ Happened (Read link (xs ++ ys)) ∷ after)
    ≡ whole (before ++ Happened (Read link xs) ∷ Happened (Read link ys) ∷ after)
