-- A client that settled by the dump of a part has it after all events.
use Rattle.std.proofs.Common.{◌≡◌, ℕ, ◌≤◌, Bool, true, List, [], ◌∷◌, ◌++◌, Option, refl, sym, ap, subst, ◌∙◌}
use Rattle.std.specs.List.{AllByRecursion}
use Rattle.std.specs.Str.{IsUtf8}
use Rattle.wc_text.specs.Splits.{BeginsWithout}
use Rattle.wc_model.specs.World.{first_world}
use Rattle.wc_options.specs.Options.{OptionsValue}
use Rattle.wc_core.specs.Events.{Event}
use Rattle.wc_core.specs.State.{State}
use Rattle.wc_core.specs.Step.{step, run}
use Rattle.wc_hotlist.proofs.MeansLaws.{none_means}
use Rattle.wc_hotlist.specs.Means.{Means}
use Rattle.wc_hotlist.specs.Pairs.{HotPair}
use Rattle.wc_mirror_laws.specs.Held.{HeldPart, HeldOf, nothing, Has}
use Rattle.wc_mirror_laws.specs.Settled.{AskedFor, asked_in, asked_on, client_on, follows_all, is_following, StaysPlain, IsLimited, LimitStays, TakesDump, IsFair}
use Rattle.wc_mirror_laws.specs.Kept.{IsStateKept}
use Rattle.wc_mirror_laws.specs.News.{EventsCome}
use Rattle.wc_mirror_laws.specs.Mirrors.{mirror_after, beginning, IsShortLine, Mirrors, RunKeeps, RunMeans}
use Rattle.wc_mirror_laws.proofs.ChangeLemmas.{mirror-append}
use Rattle.wc_mirror_laws.proofs.HotlistNews.{news_none}
use Rattle.wc_mirror_laws.proofs.LimitLemmas.{limited_before, limited_stays}
use Rattle.wc_mirror_laws.proofs.ListLemmas.{all_front, all_back}
use Rattle.wc_mirror_laws.proofs.ShownLemmas.{once-first, shown-first}
use Rattle.wc_mirror_laws.proofs.WorldLemmas.{first_lists, first_kept}
use Rattle.wc_mirror_laws.proofs.StepLemmas.{step_keeps, step_counts, step_news, followed}
use Rattle.wc_mirror_laws.proofs.EventLemmas.{asked_one, step_mirrors, dump_mirrors}
use Rattle.wc_eval.specs.Verdicts.{Oracle}

abbrev Follows : Option ℕ → AskedFor → Type 0
Follows limit asked = follows_all limit asked.client ≡ true

-- a client has a part after events, which had this before
abbrev HasAfter : (which : HeldPart) → Option ℕ → ℕ → List ℕ → HeldOf which → State → List Event → Type 0
HasAfter which limit link id part state events = Has which (mirror_after which limit link id part (run state events).acts) (run state events).state

-- by those after the first
has-then : (which : HeldPart) (limit : Option ℕ) (link : ℕ) (id : List ℕ) (part : HeldOf which) (state : State) (event : Event) (events : List Event)
    → HasAfter which limit link id (mirror_after which limit link id part (step state event).acts) (step state event).state events → HasAfter which limit link id part state (event ∷ events)
has-then which limit link id part state event events has =
    let next = (step state event).state in
    let last = (run next events).state in
    subst (λ part. Has which part last) (sym (mirror-append which limit link id part (step state event).acts (run next events).acts)) has

-- a limit that was never changed in the end was not changed before
limited_on : (limit : Option ℕ) (link : ℕ) (state : State) (events : List Event) → IsStateKept link state → IsLimited limit (run state events).state.world → IsLimited limit state.world
limited_on limit link state [] kept limited = limited
limited_on limit link state (event ∷ events) kept limited =
    limited_before limit state.world (step state event).state.world (step_counts link state event kept) (limited_on limit link (step state event).state events (step_keeps link state event kept) limited)

-- so it stays in each step
stays_on : (limit : Option ℕ) (link : ℕ) (state : State) (event : Event) (events : List Event) → IsStateKept link state → IsLimited limit (run (step state event).state events).state.world
    → LimitStays limit state.world (step state event).state.world
stays_on limit link state event events kept limited =
    limited_stays limit state.world (step state event).state.world (step_counts link state event kept) (limited_on limit link (step state event).state events (step_keeps link state event kept) limited)

-- ---- after the dump

-- whoever follows at each request and at the end does so at the start
stood : (limit : Option ℕ) (link : ℕ) (state : State) (events : List Event) → IsStateKept link state → AllByRecursion (Follows limit) (asked_on link state events)
    → is_following limit (client_on link (run state events).state) ≡ true → is_following limit (client_on link state) ≡ true
stood limit link state [] kept all after = after
stood limit link state (event ∷ events) kept all after =
    let next = (step state event).state in
    let here = asked_in link state event in
    by here refl (all_front (Follows limit) here (asked_on link next events) all)
    (stood limit link next events (step_keeps link state event kept) (all_back (Follows limit) here (asked_on link next events) all) after)
  where
    by : (o : List AskedFor) → asked_in link state event ≡ o → AllByRecursion (Follows limit) o → is_following limit (client_on link (step state event).state) ≡ true → is_following limit (client_on link state) ≡ true
    by [] e all then = followed limit link state event kept e then
    by (first ∷ others) e all then = ap (is_following limit) (asked_one link state event first others e).client ∙ all.0

mirrored : (which : HeldPart) (limit : Option ℕ) (link : ℕ) (id : List ℕ) (state : State) (events : List Event) (part : HeldOf which) → IsStateKept link state → BeginsWithout 95 id → AllByRecursion IsShortLine events
    → AllByRecursion (IsFair which id) (asked_on link state events) → AllByRecursion (Follows limit) (asked_on link state events) → StaysPlain limit link state events
    → is_following limit (client_on link (run state events).state) ≡ true → IsLimited limit (run state events).state.world → Has which part state → HasAfter which limit link id part state events
mirrored which limit link id state [] part kept free within fair follows plain still limited had = had
mirrored which limit link id state (event ∷ events) part kept free within fair follows plain still limited had =
    let next = (step state event).state in
    let here = asked_in link state event in
    let rest = asked_on link next events in
    let then = step_keeps link state event kept in
    let after = stood limit link next events then (all_back (Follows limit) here rest follows) still in
    let now = all_front (IsFair which id) here rest fair in
    let part' = mirror_after which limit link id part (step state event).acts in
    let has : Has which part' next = step_mirrors which limit link id state event part kept free within.0 now plain.0 after (stays_on limit link state event events kept limited) had in
    has-then which limit link id part state event events
    (mirrored which limit link id next events part' then free within.1 (all_back (IsFair which id) here rest fair) (all_back (Follows limit) here rest follows) plain.1 still limited has)

-- ---- up to the dump

-- the dump, and what was asked after it
record IsTaken (limit : Option ℕ) (which : HeldPart) (id : List ℕ) (dump : AskedFor) (following : List AskedFor) : Type 0 where
  takes : TakesDump which id dump
  fair : AllByRecursion (IsFair which id) following
  follows : AllByRecursion (Follows limit) following

never : (before following : List AskedFor) (dump : AskedFor) → [] ≡ before ++ dump ∷ following → ⊥
never [] following dump e = cc
never (first ∷ before) following dump e = cc

has-dump : (which : HeldPart) (limit : Option ℕ) (link : ℕ) (id : List ℕ) (part : HeldOf which) (state : State) (event : Event) (events : List Event) (dump : AskedFor) (following : List AskedFor) → IsStateKept link state
    → AllByRecursion IsShortLine (event ∷ events) → IsTaken limit which id dump following → asked_in link state event ≡ dump ∷ [] → asked_on link (step state event).state events ≡ following → StaysPlain limit link state (event ∷ events)
    → is_following limit (client_on link (run (step state event).state events).state) ≡ true → IsLimited limit (run (step state event).state events).state.world → HasAfter which limit link id part state (event ∷ events)
has-dump which limit link id part state event events dump following kept within taken here is plain still limited =
    let next = (step state event).state in
    let none : List AskedFor = [] in
    let then = step_keeps link state event kept in
    let follows = subst (AllByRecursion (Follows limit)) (sym is) taken.follows in
    let fair = subst (AllByRecursion (IsFair which id)) (sym is) taken.fair in
    let free = subst (BeginsWithout 95) taken.takes.under (asked_one link state event dump none here).free in
    let part' = mirror_after which limit link id part (step state event).acts in
    let after = stood limit link next events then follows still in
    let shown : Has which part' next = dump_mirrors which limit link id state event part dump kept within.0 here taken.takes plain.0 after (stays_on limit link state event events kept limited) in
    has-then which limit link id part state event events (mirrored which limit link id next events part' then free within.1 fair follows plain.1 still limited shown)

settles : (which : HeldPart) (limit : Option ℕ) (link : ℕ) (id : List ℕ) (state : State) (events : List Event) (part : HeldOf which) (before following : List AskedFor) (dump : AskedFor) → IsStateKept link state
    → AllByRecursion IsShortLine events → IsTaken limit which id dump following → asked_on link state events ≡ before ++ dump ∷ following → StaysPlain limit link state events → is_following limit (client_on link (run state events).state) ≡ true
    → IsLimited limit (run state events).state.world → HasAfter which limit link id part state events
settles which limit link id state [] part before following dump kept within taken e plain still limited = absurd (never before following dump e)
settles which limit link id state (event ∷ events) part before following dump kept within taken e plain still limited =
    by (asked_in link state event) before refl e
    (λ before is. settles which limit link id (step state event).state events (mirror_after which limit link id part (step state event).acts) before following dump (step_keeps link state event kept) within.1 taken is plain.1 still limited)
  where
    rest : List AskedFor
    rest = asked_on link (step state event).state events

    met : (first : AskedFor) (before : List AskedFor) → asked_in link state event ≡ first ∷ [] → first ∷ rest ≡ before ++ dump ∷ following
        → ((before : List AskedFor) → rest ≡ before ++ dump ∷ following → HasAfter which limit link id (mirror_after which limit link id part (step state event).acts) (step state event).state events)
        → HasAfter which limit link id part state (event ∷ events)
    met first [] here is others =
        let same : first ≡ dump = cc in
        has-dump which limit link id part state event events dump following kept within taken (here ∙ ap (λ a. a ∷ []) same) (cc) plain still limited
    met first (other ∷ before) here is others = has-then which limit link id part state event events (others before (cc))

    by : (o before : List AskedFor) → asked_in link state event ≡ o → asked_in link state event ++ rest ≡ before ++ dump ∷ following
        → ((before : List AskedFor) → rest ≡ before ++ dump ∷ following → HasAfter which limit link id (mirror_after which limit link id part (step state event).acts) (step state event).state events)
        → HasAfter which limit link id part state (event ∷ events)
    by [] before here is others = has-then which limit link id part state event events (others before (sym (ap (λ o. o ++ rest) here) ∙ is))
    by (first ∷ more) before here is others =
        let one = here ∙ ap (λ o. first ∷ o) (asked_one link state event first more here).none in
        met first before one (sym (ap (λ o. o ++ rest) one) ∙ is) others

-- ---- from the start

pub start_kept : (lines link : ℕ) (oracle : Oracle) (options : OptionsValue) (commands : List (List ℕ)) (connects : Bool) → lines ≤ 4096 → AllByRecursion IsUtf8 commands → IsStateKept link (beginning oracle options lines commands connects)
start_kept lines link oracle options commands connects most texts = record { most = most; world = first_kept lines; once = once-first lines; shown = shown-first lines; told = first_lists; texts = texts; rows = tt; news = news_none (first_world lines).groups; there = tt; first = refl }

kept_on : (link : ℕ) (state : State) (events : List Event) → IsStateKept link state → IsStateKept link (run state events).state
kept_on link state [] kept = kept
kept_on link state (event ∷ events) kept = kept_on link (step state event).state events (step_keeps link state event kept)

pub run_keeps : RunKeeps
run_keeps oracle options lines commands connects events link most texts = kept_on link (beginning oracle options lines commands connects) events (start_kept lines link oracle options commands connects most texts)

news_on : (link : ℕ) (state : State) (pairs : List HotPair) (events : List Event) → IsStateKept link state → Means state.hotlist pairs → EventsCome state pairs events
news_on link state pairs [] kept means = tt
news_on link state pairs (event ∷ events) kept means =
    let comes = step_news link state event kept pairs means in
    (comes, news_on link (step state event).state comes.final events (step_keeps link state event kept) comes.means)

pub run_means : RunMeans
run_means oracle options lines commands connects events most texts =
    news_on 0 (beginning oracle options lines commands connects) [] events (start_kept lines 0 oracle options commands connects most texts) none_means

pub mirrors : (which : HeldPart) → Mirrors which
mirrors which limit oracle options lines commands connects events link id most texts within settled limited =
    settles which limit link id (beginning oracle options lines commands connects) events (nothing which) settled.before settled.following settled.dump (start_kept lines link oracle options commands connects most texts) within
    (record {
      takes = settled.takes;
      fair = settled.fair;
      follows = settled.follows.1;
    }) settled.asked settled.plain settled.still limited
