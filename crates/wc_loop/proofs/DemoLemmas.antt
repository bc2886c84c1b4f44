-- What the run of a demo comes to.
use Rattle.std.proofs.Common.{◌≡◌, ℕ, List, [], ◌++◌, Bool, IsTrue, false, map, Option, Some, Result, Ok, Err, IfOk, refl, sym, ap, subst, ◌∙◌, append-nil}
use Rattle.std.specs.Prelude.{max}
use Rattle.wc_text.specs.declared.no_memory.NoMemory.{NoMemory}
use Rattle.wc_outside.specs.Seen.{Seen}
use Rattle.wc_options.specs.Config.{config_of}
use Rattle.wc_options.specs.File.{lines_of}
use Rattle.wc_options.specs.Options.{OptionsValue, fresh}
use Rattle.wc_core.specs.Events.{Event}
use Rattle.wc_core.specs.State.{State}
use Rattle.wc_core.specs.Step.{run}
use Rattle.wc_turns.specs.declared.headless.Headless.{Headless}
use Rattle.wc_turns.specs.Events.{whole}
use Rattle.wc_turns.specs.Heard.{Happened, happenings}
use Rattle.wc_turns.proofs.PlainLemmas.{plain-heard}
use Rattle.wc_loop.proofs.DemoPlain.{plain-demo}
use Rattle.wc_eval.specs.Verdicts.{Oracle, Agrees}
use Rattle.wc_demo.specs.declared.counts.Counts.{Counts}
use Rattle.wc_demo.specs.Client.{IsCountedBy}
use Rattle.wc_demo.specs.Counts.{counts_of}
use Rattle.wc_demo.specs.Script.{client, demo_taken}
use Rattle.wc_demo.specs.Start.{start_words}
use Rattle.wc_loop.specs.declared.ending.Ending.{Ending}
use Rattle.wc_loop.specs.Demo.{demo_opening, demo_state, unsent_to_client, RunsDemo, AreDemoCounts}
use Rattle.wc_loop.specs.Endings.{Runs, status_of}
use Rattle.wc_loop.specs.Headline.{HandsOut, state_before}
use Rattle.wc_loop.specs.Words.{commands_of}

-- an empty configuration sets nothing
empty_config : config_of [] ≡ Ok fresh
unfolding config_of lines_of
empty_config = refl

of_ok : (o : Result OptionsValue ℕ) (x : OptionsValue) (P : OptionsValue → Type 0) → o ≡ Ok x → IfOk o P → P x
of_ok o x P e h = subst (λ (r : Result OptionsValue ℕ). IfOk r P) e h

-- a run that took all its turns and was never short of memory
ran : (turns k k' : ℕ) (before after : Seen) (ending : Ending) (last : Headless) → Runs demo_opening turns (Some []) k k' before after ending (Some last) → status_of ending ≡ 8 → last.core.starved ≡ 0 → RunsDemo after last
ran turns k k' before after ending last r eight starved = record {
  starved = starved;
  going = (r.ends.all eight).1;
  handed = λ tells. of_ok (config_of []) fresh (λ options. IsTrue after.tells → last.core.starved ≡ 0 → (oracle : Oracle) → Agrees oracle last.core.verdicts → HandsOut (state_before oracle options demo_opening) after last) empty_config r.left.headline tells starved;
}

-- the same of a run of which its words, its configuration and its end are known
pub ran-by : (words : List (List ℕ)) (holds : Bool) (turns k k' : ℕ) (contents : Option (List ℕ)) (before after : Seen) (ending : Ending) (found : Option Headless) (last : Headless) → words ≡ start_words → holds ≡ false → contents ≡ Some []
    → found ≡ Some last → Runs (record { commands = commands_of words; holds = holds }) turns contents k k' before after ending found → status_of ending ≡ 8 → last.core.starved ≡ 0 → RunsDemo after last
ran-by words holds turns k k' contents before after ending found last w h t f r eight starved = ran turns k k' before after ending last (rw (w, h, t, f) at r) eight starved

-- where nothing is left of all events, these are all
all_events : (all events rest : List Event) → all ≡ events ++ rest → rest ≡ [] → events ≡ all
all_events all events rest e none = sym (e ∙ ap (λ xs. events ++ xs) none ∙ append-nil events)

-- the world at the end is that of the run over what was heard
pub ends_in : (first : State) (seen : Seen) (last : Headless) (handed : HandsOut first seen last) → last.core.quits ≡ false → (run first (whole handed.history)).state.world ≡ last.core.world
ends_in first seen last handed going =
    let events = all_events (whole handed.history) handed.events handed.reaches.rest handed.reaches.front (handed.reaches.whole going) in
    ap (λ (es : List Event). (run first es).state.world) (sym events) ∙ ap (λ (s : State). s.world) handed.means.same

-- what the sockets gave is all that was heard in a demo
demo-heard : (lines : ℕ) (first : State) (seen : Seen) (last : Headless) (handed : HandsOut first seen last) → seen.taken ≡ demo_taken lines → handed.history ≡ map Happened (demo_taken lines)
demo-heard lines first seen last handed taken =
    let spells : happenings handed.history ≡ demo_taken lines = handed.spells ∙ taken in
    plain-heard (demo_taken lines) (plain-demo lines) [] handed.history spells handed.sockets ∙ ap (map Happened) spells

counted : (lines : ℕ) (counts : Counts) (seen : Seen) (last : Headless) → RunsDemo seen last → IsTrue seen.tells → seen.taken ≡ demo_taken lines → counts ≡ counts_of last.core.world
    → IsCountedBy (max last.core.world.limit 1) (seen.sent client.0) (unsent_to_client last) counts → AreDemoCounts lines counts
counted lines counts seen last demo tells taken are mirrored =
    let handed = demo.handed tells in
    record {
      seen = seen;
      last = last;
      are = λ oracle judged. are ∙ sym (ap counts_of (ends_in (demo_state oracle) seen last (handed oracle judged) demo.going)) ∙ ap (λ hs. counts_of (run (demo_state oracle) (whole hs)).state.world) (demo-heard lines (demo_state oracle) seen last (handed oracle judged) taken);
      taken = taken;
      handed = handed;
      starved = demo.starved;
      mirrored = mirrored;
    }

-- the same of counts that may be wanting for memory
pub counted-by : (lines : ℕ) (counted : Result Counts NoMemory) (seen : Seen) (last : Headless) → RunsDemo seen last → IsTrue seen.tells → seen.taken ≡ demo_taken lines → IfOk counted (λ counts. counts ≡ counts_of last.core.world)
    → IfOk counted (IsCountedBy (max last.core.world.limit 1) (seen.sent client.0) (unsent_to_client last)) → IfOk counted (AreDemoCounts lines)
counted-by lines (Ok counts) seen last demo tells taken are mirrored = counted lines counts seen last demo tells taken are mirrored
counted-by lines (Err e) seen last demo tells taken are mirrored = tt
