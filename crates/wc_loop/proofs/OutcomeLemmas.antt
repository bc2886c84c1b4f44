-- What a run comes to, by its words.
use Rattle.std.proofs.Common.{◌≡◌, ◌≢◌, ◌⊎◌, inl, inr, ℕ, Bool, true, false, cond, eqb, is_some, IsTrue, List, [], Option, Some, None, Result, Ok, Err, IfOk, IfSome, refl, sym, ap, ◌∙◌, arith}
use Rattle.std.proofs.lemmas.Bool.{false≢true}
use Rattle.std.proofs.lemmas.Bool.Decides.{nat_tests}
use Rattle.std.specs.Io.KnownBytes.{append_known}
use Rattle.wc_outside.specs.Seen.{Seen, IsNew}
use Rattle.wc_turns.specs.declared.headless.Headless.{Headless}
use Rattle.wc_demo.specs.declared.counts.Counts.{Counts}
use Rattle.wc_loop.specs.declared.ending.Ending.{Ending}
use Rattle.wc_loop.specs.declared.ending.Ending.TheVariants as finish
use Rattle.wc_loop.specs.declared.words.Shows.{Shows}
use Rattle.wc_loop.specs.declared.words.Shows.TheVariants as shows
use Rattle.wc_loop.specs.declared.words.Wish.{Wish}
use Rattle.wc_loop.proofs.OptionsLemmas.{some_port}
use Rattle.wc_loop.specs.Demo.{demo_text, IsDemoEnd, PrintsDemo, IfDemo, IfDemoShown}
use Rattle.wc_loop.specs.Headline.{Headline, TakesEach}
use Rattle.wc_loop.specs.Words.{Opening}
use Rattle.wc_turns.specs.Parties.{IsCalm}
use Rattle.wc_turns.specs.Turns.{wake_count, AgreesWithSockets}
use Rattle.wc_loop.specs.Endings.{ClosesLast, ServedLast, SentLast, LastOf, StatusOf, StatusFor, IsNumber, IsLastState, HasCause, WaitsAtMost, AsksNothing, RunsBy, RunsFor, asks_turns, runs_for, shown_by, IsAsked, printed_text, status_text, ending_text, status_of, number_of, counts_in, shown_at, is_unsaved}

-- ---- the text

-- it goes by whether a wait returned for one status alone
status-as : (woken woken' : Bool) (status number : ℕ) → (status ≡ 3 → woken ≡ woken') → status_text woken status number ≡ status_text woken' status number
status-as woken woken' status number same = by (eqb status 3) refl where
  by : (b : Bool) → eqb status 3 ≡ b → status_text woken status number ≡ status_text woken' status number
  by true e = ap (λ w. status_text w status number) (same (grind (arith, nat_tests)))
  by false e = rw e refl

printed-as : (shown : Shows) (woken woken' : Bool) (status number : ℕ) (counts : Counts) → (status ≡ 3 → woken ≡ woken') → printed_text shown woken status number counts ≡ printed_text shown woken' status number counts
printed-as shows.Version woken woken' status number counts same = refl
printed-as shows.Help woken woken' status number counts same = refl
printed-as shows.Nothing woken woken' status number counts same = status-as woken woken' status number same
printed-as (shows.Demo lines) woken woken' status number counts same = by (eqb status 0) where
  by : (b : Bool) → cond b (demo_text lines counts) (status_text woken status number) ≡ cond b (demo_text lines counts) (status_text woken' status number)
  by true = refl
  by false = status-as woken woken' status number same

-- what is printed at an end that shows what words ask for
text-of : (shown : Shows) (end : Ending) (last : Option Headless) → shown_at end ≡ shown → (status_of end ≡ 3 → is_unsaved end ≡ is_some last) → ending_text end ≡ printed_text shown (is_some last) (status_of end) (number_of end) (counts_in end)
text-of shown end last e same =
    printed-as (shown_at end) (is_unsaved end) (is_some last) (status_of end) (number_of end) (counts_in end) same
    ∙ ap (λ (s : Shows). printed_text s (is_some last) (status_of end) (number_of end) (counts_in end)) e

-- ---- a demo

-- how a demo may end
demo-status : (lines : ℕ) (end : Ending) → IsDemoEnd lines end → (status_of end ≡ 0) ⊎ (status_of end ≡ 5)
demo-status lines (finish.Demo said counts) d = inl refl
demo-status lines finish.NoMemory d = inr refl
demo-status lines finish.Version d = absurd d
demo-status lines finish.Help d = absurd d
demo-status lines (finish.BadWord n) d = absurd d
demo-status lines finish.WaitFailed d = absurd d
demo-status lines finish.NoConfiguration d = absurd d
demo-status lines (finish.BadLine n) d = absurd d
demo-status lines finish.ListenFailed d = absurd d
demo-status lines finish.NotSaved d = absurd d
demo-status lines finish.TurnsTaken d = absurd d
demo-status lines finish.Quit d = absurd d

-- the text of its end where no wait returned
demo-said : (lines said : ℕ) (counts : Counts) → said ≡ lines → printed_text (shows.Demo said) false 0 0 counts ≡ printed_text (shows.Demo lines) false 0 0 counts
demo-said lines said counts e = ap (λ (n : ℕ). demo_text n counts) e

demo-text : (lines : ℕ) (end : Ending) → IsDemoEnd lines end → ending_text end ≡ printed_text (shows.Demo lines) false (status_of end) (number_of end) (counts_in end)
demo-text lines (finish.Demo said counts) d = demo-said lines said counts d.0
demo-text lines finish.NoMemory d = refl
demo-text lines finish.Version d = absurd d
demo-text lines finish.Help d = absurd d
demo-text lines (finish.BadWord n) d = absurd d
demo-text lines finish.WaitFailed d = absurd d
demo-text lines finish.NoConfiguration d = absurd d
demo-text lines (finish.BadLine n) d = absurd d
demo-text lines finish.ListenFailed d = absurd d
demo-text lines finish.NotSaved d = absurd d
demo-text lines finish.TurnsTaken d = absurd d
demo-text lines finish.Quit d = absurd d

-- where its status is 0 the counts are printed
demo-prints : (lines : ℕ) (end : Ending) (before after : Option (List ℕ)) → IsDemoEnd lines end → status_of end ≡ 0 → after ≡ append_known before (ending_text end) → PrintsDemo lines before after
demo-prints lines (finish.Demo said counts) before after d e p = record { counts = counts; are = d.1; holds = p ∙ ap (λ (n : ℕ). append_known before (demo_text n counts)) d.0 }
demo-prints lines finish.NoMemory before after d e p = absurd (omega (arith, e))
demo-prints lines finish.Version before after d e p = absurd d
demo-prints lines finish.Help before after d e p = absurd d
demo-prints lines (finish.BadWord n) before after d e p = absurd d
demo-prints lines finish.WaitFailed before after d e p = absurd d
demo-prints lines finish.NoConfiguration before after d e p = absurd d
demo-prints lines (finish.BadLine n) before after d e p = absurd d
demo-prints lines finish.ListenFailed before after d e p = absurd d
demo-prints lines finish.NotSaved before after d e p = absurd d
demo-prints lines finish.TurnsTaken before after d e p = absurd d
demo-prints lines finish.Quit before after d e p = absurd d

-- over what is run and connected at the start
module _ (opening : Opening) where
  status_for : (b : Shows) (turns : ℕ) (contents : Option (List ℕ)) (k k' : ℕ) (before after : Seen) (ending : Ending) (last : Option Headless) → RunsFor b opening turns contents k k' before after ending last → StatusFor b turns contents after (status_of ending) last
  status_for shows.Version turns contents k k' before after ending last r = rw (r.ends, r.none) (refl, refl)
  status_for shows.Help turns contents k k' before after ending last r = rw (r.ends, r.none) (refl, refl)
  status_for (shows.Demo lines) turns contents k k' before after ending last r = (demo-status lines ending r.ends, r.nothing.none)
  status_for shows.Nothing turns contents k k' before after ending last r = r.ends

  pub StatusOf-runs : (wish : Result Wish ℕ) (contents : Option (List ℕ)) (k k' : ℕ) (before after : Seen) (ending : Ending) (last : Option Headless) → RunsBy opening wish contents k k' before after ending last → StatusOf wish contents after (status_of ending) last
  StatusOf-runs (Err n) contents k k' before after ending last r = rw (r.ends, r.none) (refl, refl)
  StatusOf-runs (Ok wish) contents k k' before after ending last r = status_for wish.shows wish.turns contents k k' before after ending last r

  number_for : (b : Shows) (wish : Wish) (turns : ℕ) (contents : Option (List ℕ)) (k k' : ℕ) (before after : Seen) (ending : Ending) (last : Option Headless) → RunsFor b opening turns contents k k' before after ending last → IsNumber (Ok wish) contents (status_of ending) (number_of ending)
  number_for shows.Version wish turns contents k k' before after ending last r = rw r.ends (record { word = λ q. absurd (omega arith); line = λ q. absurd (omega arith) })
  number_for shows.Help wish turns contents k k' before after ending last r = rw r.ends (record { word = λ q. absurd (omega arith); line = λ q. absurd (omega arith) })
  number_for (shows.Demo lines) wish turns contents k k' before after ending last r = by (demo-status lines ending r.ends) where
    by : (status_of ending ≡ 0) ⊎ (status_of ending ≡ 5) → IsNumber (Ok wish) contents (status_of ending) (number_of ending)
    by (inl e) = record { word = λ q. absurd (omega arith); line = λ q. absurd (omega arith) }
    by (inr e) = record { word = λ q. absurd (omega arith); line = λ q. absurd (omega arith) }
  number_for shows.Nothing wish turns contents k k' before after ending last r = record { word = λ q. absurd (r.ends.later q); line = r.line }

  pub IsNumber-runs : (wish : Result Wish ℕ) (contents : Option (List ℕ)) (k k' : ℕ) (before after : Seen) (ending : Ending) (last : Option Headless) → RunsBy opening wish contents k k' before after ending last → IsNumber wish contents (status_of ending) (number_of ending)
  IsNumber-runs (Err n) contents k k' before after ending last r = rw r.ends (record { word = λ q. refl; line = λ q. absurd (omega arith) })
  IsNumber-runs (Ok wish) contents k k' before after ending last r = number_for wish.shows wish wish.turns contents k k' before after ending last r

  -- what is the same however the words are
  pub record Common (wish : Result Wish ℕ) (contents : Option (List ℕ)) (k k' : ℕ) (before after : Seen) (ending : Ending) (last : Option Headless) : Type 0 where
    pub text : ending_text ending ≡ printed_text (shown_by wish) (is_some last) (status_of ending) (number_of ending) (counts_in ending)
    pub counted : LastOf after last
    pub left : IfSome last (IsLastState opening contents before after)
    pub served : status_of ending ≡ 8 → IfSome last (ServedLast before after)
    pub sent : status_of ending ≡ 0 → IfSome last (SentLast before after)
    pub faults : HasCause before.faults after.faults k k' (status_of ending)
    pub asked : IsTrue after.tells → IsAsked (asks_turns wish) contents (status_of ending) (is_some last) after.asked

  not-two : {n : ℕ} → (n ≡ 0) ⊎ (n ≡ 5) → n ≢ 2
  not-two (inl e) = λ q. omega arith
  not-two (inr e) = λ q. omega arith

  not-three : {n : ℕ} → (n ≡ 0) ⊎ (n ≡ 5) → n ≢ 3
  not-three (inl e) = λ q. omega arith
  not-three (inr e) = λ q. omega arith

  not-six : {n : ℕ} → (n ≡ 0) ⊎ (n ≡ 5) → n ≢ 6
  not-six (inl e) = λ q. omega arith
  not-six (inr e) = λ q. omega arith

  few : (wish : Result Wish ℕ) (n : ℕ) (contents : Option (List ℕ)) (k k' : ℕ) (before after : Seen) (wanted ending : Ending) (last : Option Headless) → IsNew before → AsksNothing k k' before after wanted ending last
      → ending_text wanted ≡ printed_text (shown_by wish) false (status_of wanted) (number_of wanted) (counts_in wanted) → asks_turns wish ≡ false
      → status_of wanted ≡ n → n ≢ 2 → n ≢ 3 → n ≢ 6 → Common wish contents k k' before after ending last
  few wish n contents k k' before after wanted ending last new r text none e two three six = rw (r.ends, r.none, r.seen) (record {
    text = text;
    counted = λ t. ap wake_count (new.taken t);
    left = tt;
    served = λ q. tt;
    sent = λ q. tt;
    faults = record { wait = λ q. absurd (two (sym e ∙ q)); keeper = λ q. absurd (three (sym e ∙ q)); listener = λ q. absurd (six (sym e ∙ q)) };
    asked = λ t. (let p = some_port contents in record { port = p.0; set = p.1; connects = []; unwoken = λ q. refl; is = new.asked t ∙ sym (rw none refl) });
  })

  common_for : (b : Shows) (wish : Wish) → wish.shows ≡ b → (contents : Option (List ℕ)) (k k' : ℕ) (before after : Seen) (ending : Ending) (last : Option Headless) → IsNew before → RunsFor b opening wish.turns contents k k' before after ending last → Common (Ok wish) contents k k' before after ending last
  common_for shows.Version wish e contents k k' before after ending last new r = few (Ok wish) 0 contents k k' before after finish.Version ending last new r (rw e refl) (ap runs_for e) refl (λ q. omega arith) (λ q. omega arith) (λ q. omega arith)
  common_for shows.Help wish e contents k k' before after ending last new r = few (Ok wish) 0 contents k k' before after finish.Help ending last new r (rw e refl) (ap runs_for e) refl (λ q. omega arith) (λ q. omega arith) (λ q. omega arith)
  common_for (shows.Demo lines) wish e contents k k' before after ending last new r =
      let text = demo-text lines ending r.ends in
      few (Ok wish) (status_of ending) contents k k' before after ending ending last new r.nothing (rw e text) (ap runs_for e) refl (not-two (demo-status lines ending r.ends)) (not-three (demo-status lines ending r.ends)) (not-six (demo-status lines ending r.ends))
  common_for shows.Nothing wish e contents k k' before after ending last new r = record { text = text-of (shown_by (Ok wish)) ending last (r.shown ∙ sym e) r.saving; counted = r.counted; left = r.left; served = r.served; sent = r.sent; faults = r.faults; asked = λ t. (let a = r.asked t in record { port = a.port; set = a.set; connects = a.connects; unwoken = a.unwoken; is = a.is ∙ sym (rw e refl) }) }

  pub Common-runs : (wish : Result Wish ℕ) (contents : Option (List ℕ)) (k k' : ℕ) (before after : Seen) (ending : Ending) (last : Option Headless) → IsNew before → RunsBy opening wish contents k k' before after ending last → Common wish contents k k' before after ending last
  Common-runs (Err n) contents k k' before after ending last new r = few (Err n) 1 contents k k' before after (finish.BadWord n) ending last new r refl refl refl (λ q. omega arith) (λ q. omega arith) (λ q. omega arith)
  Common-runs (Ok wish) contents k k' before after ending last new r = common_for wish.shows wish refl contents k k' before after ending last new r

  waits_for : (b : Shows) (turns : ℕ) (contents : Option (List ℕ)) (k k' : ℕ) (before after : Seen) (ending : Ending) (last : Option Headless) → IsNew before → RunsFor b opening turns contents k k' before after ending last → WaitsAtMost turns after last
  waits_for shows.Version turns contents k k' before after ending last new r = rw (r.none, r.seen) (record { counted = tt; told = λ t. (let e = ap wake_count (new.taken t) in omega arith) })
  waits_for shows.Help turns contents k k' before after ending last new r = rw (r.none, r.seen) (record { counted = tt; told = λ t. (let e = ap wake_count (new.taken t) in omega arith) })
  waits_for (shows.Demo lines) turns contents k k' before after ending last new r = rw (r.nothing.none, r.nothing.seen) (record { counted = tt; told = λ t. (let e = ap wake_count (new.taken t) in omega arith) })
  waits_for shows.Nothing turns contents k k' before after ending last new r = r.most

  -- at most as many waits returned as words ask for
  pub Waits-runs : (wish : Result Wish ℕ) (contents : Option (List ℕ)) (k k' : ℕ) (before after : Seen) (ending : Ending) (last : Option Headless) → IsNew before → RunsBy opening wish contents k k' before after ending last → IfOk wish (λ wish. WaitsAtMost wish.turns after last)
  Waits-runs (Err n) contents k k' before after ending last new r = tt
  Waits-runs (Ok wish) contents k k' before after ending last new r = waits_for wish.shows wish.turns contents k k' before after ending last new r

  untouched_for : (b : Shows) (turns : ℕ) (contents : Option (List ℕ)) (k k' : ℕ) (before after : Seen) (ending : Ending) (last : Option Headless) → runs_for b ≡ false → RunsFor b opening turns contents k k' before after ending last → after ≡ before
  untouched_for shows.Version turns contents k k' before after ending last e r = r.seen
  untouched_for shows.Help turns contents k k' before after ending last e r = r.seen
  untouched_for (shows.Demo lines) turns contents k k' before after ending last e r = r.nothing.seen
  untouched_for shows.Nothing turns contents k k' before after ending last e r = absurd (false≢true (sym e))

  pub untouched : (wish : Result Wish ℕ) (contents : Option (List ℕ)) (k k' : ℕ) (before after : Seen) (ending : Ending) (last : Option Headless) → RunsBy opening wish contents k k' before after ending last → asks_turns wish ≡ false → after ≡ before
  untouched (Err n) contents k k' before after ending last r e = r.seen
  untouched (Ok wish) contents k k' before after ending last r e = untouched_for wish.shows wish.turns contents k k' before after ending last e r

  pub IfSome-headline : (last : Option Headless) (contents : Option (List ℕ)) (before after : Seen) → IfSome last (IsLastState opening contents before after) → IfSome last (Headline opening contents after)
  IfSome-headline None contents before after left = tt
  IfSome-headline (Some last) contents before after left = left.headline

  pub IfSome-takes : (last : Option Headless) (contents : Option (List ℕ)) (before after : Seen) → IfSome last (IsLastState opening contents before after) → IfSome last (TakesEach opening contents after)
  IfSome-takes None contents before after left = tt
  IfSome-takes (Some last) contents before after left = left.takes

  pub IfSome-agrees : (last : Option Headless) (contents : Option (List ℕ)) (before after : Seen) → IfSome last (IsLastState opening contents before after) → IfSome last (λ last. AgreesWithSockets last after)
  IfSome-agrees None contents before after left = tt
  IfSome-agrees (Some last) contents before after left = left.agrees

  pub IfSome-calm : (last : Option Headless) (contents : Option (List ℕ)) (before after : Seen) → IfSome last (IsLastState opening contents before after) → IfSome last (λ last. IsCalm last.core)
  IfSome-calm None contents before after left = tt
  IfSome-calm (Some last) contents before after left = left.calm

  pub IfSome-causes : (last : Option Headless) (contents : Option (List ℕ)) (before after : Seen) → IfSome last (IsLastState opening contents before after) → IfSome last (ClosesLast opening contents before after)
  IfSome-causes None contents before after left = tt
  IfSome-causes (Some last) contents before after left = left.causes

  demo_for : (b : Shows) (turns : ℕ) (contents : Option (List ℕ)) (k k' : ℕ) (before after : Seen) (ending : Ending) (last : Option Headless) (old new : Option (List ℕ)) → RunsFor b opening turns contents k k' before after ending last
      → status_of ending ≡ 0 → new ≡ append_known old (ending_text ending) → IfDemoShown b (λ lines. PrintsDemo lines old new)
  demo_for shows.Version turns contents k k' before after ending last old new r e p = tt
  demo_for shows.Help turns contents k k' before after ending last old new r e p = tt
  demo_for shows.Nothing turns contents k k' before after ending last old new r e p = tt
  demo_for (shows.Demo lines) turns contents k k' before after ending last old new r e p = demo-prints lines ending old new r.ends e p

  -- where a demo ends with the status 0 its counts are printed
  pub Demo-runs : (wish : Result Wish ℕ) (contents : Option (List ℕ)) (k k' : ℕ) (before after : Seen) (ending : Ending) (last : Option Headless) (old new : Option (List ℕ)) → RunsBy opening wish contents k k' before after ending last
      → status_of ending ≡ 0 → new ≡ append_known old (ending_text ending) → IfDemo wish (λ lines. PrintsDemo lines old new)
  Demo-runs (Err n) contents k k' before after ending last old new r e p = tt
  Demo-runs (Ok wish) contents k k' before after ending last old new r e p = demo_for wish.shows wish.turns contents k k' before after ending last old new r e p
