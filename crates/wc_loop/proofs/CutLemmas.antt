-- Runs in which what was heard spells the same events.
use Rattle.std.proofs.Common.{◌≡◌, sym, ap, ◌∙◌}
use Rattle.wc_outside.specs.Seen.{Seen}
use Rattle.wc_core.specs.State.{State, has_end}
use Rattle.wc_core.specs.Step.{run}
use Rattle.wc_turns.specs.declared.headless.Headless.{Headless}
use Rattle.wc_turns.specs.Events.{whole}
use Rattle.wc_turns.specs.Parties.{owed_to, asks_in}
use Rattle.wc_turns.specs.Run.{up_to_quit}
use Rattle.wc_loop.specs.Headline.{HandsOut}
use Rattle.wc_loop.specs.Cuts.{RunAlike}

pub runs-alike : (first : State) (a b : Seen) (x y : Headless) (one : HandsOut first a x) (other : HandsOut first b y) → whole one.history ≡ whole other.history → RunAlike first x y one.events other.events
runs-alike first a b x y one other e = record {
  reached = same;
  world = sym (ap (λ (s : State). s.world) one.means.same) ∙ ap (λ events. (run first events).state.world) same ∙ ap (λ (s : State). s.world) other.means.same;
  quits = one.quits ∙ ap (λ events. has_end (run first events).acts) same ∙ sym other.quits;
  owed = λ link. ap (λ events. owed_to link (run first events).acts) same;
  asked = ap (λ events. asks_in (run first events).acts) same;
} where
  same : one.events ≡ other.events
  same = one.ends ∙ ap (up_to_quit first) e ∙ sym other.ends
