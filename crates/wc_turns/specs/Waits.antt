-- How a turn waits, and how it ends.
use Rattle.std.specs.Prelude.{ℕ, ◌-◌, ◌^◌, ◌≡◌, ◌<◌, ◌≤◌, ◌⊎◌, ◌==◌, Bool, true, false, ◌||◌}
use Rattle.std.specs.Prelude.{if◌then◌else◌, is_some, All, Result, Ok, Err}
use Rattle.std.specs.List.{list_any}
use Rattle.wc_outside.specs.Seen.{Seen}
use Rattle.wc_outside.specs.declared.happening.Failed.{Failed as Fault}
use Rattle.wc_turns.specs.declared.headless.Headless.{Headless}
use Rattle.wc_turns.specs.declared.turn.TurnEnd.{TurnEnd}
use Rattle.wc_turns.specs.declared.turn.TurnEnd.TheVariants.{GoOn, Quit, ListenFault}
use Rattle.wc_outside.specs.Keyed.{at_key}
use Rattle.wc_core.specs.Served.{KeepsSaved}
use Rattle.wc_turns.specs.Contained.{is_known, HasStarved}
use Rattle.wc_turns.specs.Links.{link_number}
use Rattle.wc_turns.specs.Parties.{IsCalm}
use Rattle.wc_turns.specs.Sources.{TakesNothing}
use Rattle.wc_turns.specs.Turns.{LoopStep, AgreesWithSockets, HasCause}

-- whether a source was reported ready and is not drained
abbrev pub has_undrained : Headless → Bool
has_undrained headless = headless.listening || list_any (λ state. state.undrained)
    headless.links.opened.items

-- how long a wait may take, in milliseconds: no time at the start, before which no event was reached
abbrev pub timeout_of : Headless → ℕ
timeout_of headless = if headless.ran == 0 || has_undrained headless then 0 else 100

-- how a turn ends whose wait returned
abbrev pub then_of : {A : Type 0} → Result A Fault → Bool → TurnEnd
then_of (Err fault) quits = ListenFault
then_of (Ok done) true = Quit
then_of (Ok done) false = GoOn

-- In a turn no link is lost: one that was open before is open after it or listed as closed, and so
-- is one whose number came to be used, unless it was refused for want of memory.
pub record LosesNone (x y : Headless) : Type 0 where
  pub opened : (link : ℕ) → is_some (at_key link_number link x.links.opened.items) ≡ true →
      is_known link y ≡ true
  pub came : (link : ℕ) → x.used < link → link ≤ y.used → (is_known link y ≡ true)
      ⊎ HasStarved x.core.starved y.core.starved

-- so many waits return, and a turn begins, at which clients may leave for want of memory
pub record WakesCore (waits : ℕ) (old new : Headless) (before after : Seen) : Type 0 where
  pub continues : LoopStep false waits 0 old new before after
  pub closed : new.core.starved ≡ old.core.starved → old.core.starved < 2 ^ 64 - 1 →
      new.links.closed.items ≡ continues.closed
  pub calm : IsCalm new.core
  pub rises : old.core.starved ≤ new.core.starved
  pub loses : LosesNone old new
  pub nothing : TakesNothing before after
  pub causes : AgreesWithSockets old before →
      All (HasCause old new before after) new.links.closed.items
  pub saves : KeepsSaved old.core new.core
