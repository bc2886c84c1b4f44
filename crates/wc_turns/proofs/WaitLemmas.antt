-- How a turn waits, and how it ends.
use Rattle.std.proofs.Common.{◌≡◌, ◌⊎◌, inl, inr, ℕ, ◌<◌, ◌≤◌, nat_le, Bool, true, false, cond, eqb, ◌||◌, IsTrue, List, [], ◌∷◌, ◌++◌, map, Option, Some, None, is_some, All, Result, Ok, Err, OnOk, OnErr, is_err, refl, sym, ap, ◌∙◌, subst, arith}
use Rattle.std.proofs.lemmas.Bool.{false≢true}
use Rattle.std.proofs.lemmas.Bool.Decides.{nat_tests}
use Rattle.std.proofs.lemmas.List.{append-nil}
use Rattle.std.proofs.lemmas.List.Elements.{All-nil}
use Rattle.std.specs.List.{list_any}
use Rattle.wc_outside.specs.Seen.{Seen, IsDrained, HasUndrained, MayWait}
use Rattle.wc_outside.specs.declared.happening.Failed.{Failed as Fault}
use Rattle.wc_outside.specs.declared.happening.Happening.TheVariants.{Woke}
use Rattle.wc_turns.specs.declared.headless.Headless.{Headless}
use Rattle.wc_turns.specs.declared.turn.TurnEnd.{TurnEnd}
use Rattle.wc_turns.specs.declared.turn.TurnEnd.TheVariants.{GoOn, Quit}
use Rattle.wc_outside.specs.Keyed.{at_key}
use Rattle.wc_turns.specs.Contained.{is_known, HasStarved, KeepsLinks}
use Rattle.wc_core.specs.CoreView.{CoreView}
use Rattle.wc_core.specs.Served.{Distinct}
use Rattle.wc_turns.specs.declared.links.LinkState.{LinkState}
use Rattle.wc_turns.specs.Links.{link_number, is_undrained}
use Rattle.wc_turns.specs.Served.{closed_number}
use Rattle.wc_turns.specs.Sources.{TakesNothing, TakesWithin, has_flag}
use Rattle.wc_turns.specs.Parties.{asks_of, closes_asked, IsCalm}
use Rattle.wc_turns.specs.Turns.{AgreesWithSockets, IsServers, HasReason, closed_so_far, LoopStep, ClosesExactly, moment, waits_then, faults_then, faults_of}
use Rattle.wc_turns.specs.Waits.{has_undrained, timeout_of, then_of, WakesCore, LosesNone}
use Rattle.wc_turns.proofs.KeyedLemmas.{absent-there}
use Rattle.wc_turns.proofs.ContainedLemmas.{starved-following, starved-later}
use Rattle.wc_turns.proofs.PointLemmas.{MomentAdvances-same}
use Rattle.wc_turns.proofs.RunLemmas.{ReachesEvents-none}
use Rattle.wc_turns.proofs.SourceLemmas.{TakesNothing-call}
use Rattle.wc_turns.proofs.StepLemmas.{SameSets, among-same}
use Rattle.wc_turns.proofs.CauseLemmas.{Onward-none}
use Rattle.wc_turns.proofs.TurnLemmas.{Call, LoopStep-step}
use Rattle.wc_core.proofs.OracleLemmas.{verdicts-same}
use Rattle.wc_turns.proofs.GoesLemmas.{Goes-same}

-- ---- nothing is taken

pub Nothing-woke : (a b : Seen) (m : ℕ) → (IsTrue b.tells → b.taken ≡ a.taken ++ Woke m ∷ []) → TakesNothing a b
Nothing-woke a b m taken = TakesNothing-call a b (Woke m ∷ []) taken (λ k. refl) refl

pub Nothing-none : (a b : Seen) → (IsTrue b.tells → b.taken ≡ a.taken ++ []) → TakesNothing a b
Nothing-none a b taken = TakesNothing-call a b [] taken (λ k. refl) refl

pub Within-none : (a b : Seen) → TakesNothing a b → TakesWithin a b
Within-none a b h = record {
  bytes = λ t k one. (let same = h.bytes t k in omega arith);
  clients = λ t. (let same = h.clients t in omega arith);
}

-- ---- a wait failed

-- the links that the turn before closed are forgotten
unfoldable pub LoopStep-unwoken : (x y : Headless) (a b : Seen) → y.core ≡ x.core → y.clock ≡ x.clock → y.used ≡ x.used → y.listening ≡ x.listening → y.refused.items ≡ x.refused.items → y.unlisted ≡ x.unlisted → y.turns ≡ x.turns → y.ran ≡ x.ran → y.links.opened.items ≡ x.links.opened.items → y.links.closed.items ≡ [] → IsCalm x.core
    → Call a b [] → (IsTrue b.tells → (k : ℕ) → b.sent k ≡ a.sent k) → (IsTrue b.tells → (k : ℕ) → b.choked k ≡ a.choked k) → (IsTrue b.tells → b.asked ≡ a.asked) → SameSets a b → LoopStep false 0 0 x y a b
LoopStep-unwoken x y a b core clock used listening refused unlisted turns ran opened closed calm call sent choked asked same =
    let none : closed_so_far y ≡ [] = ap (λ cs. cs ++ closes_asked y.core) closed ∙ ap closes_asked core ∙ calm.parted in
    LoopStep-step false 0 0 x y a b [] [] [] refl call (λ below. omega arith) refl refl
    (let q = ap (λ (c : CoreView). c.starved) core in omega arith)
    (λ t s. absurd (false≢true t)) (λ s. subst (All (HasReason x y a b)) (sym none) (All-nil (HasReason x y a b))) (λ s k h. subst (IsServers k) core h) (λ s. Onward-none x.core y.core [] (let e = ap (λ (c : CoreView). c.servers.used) core in omega arith) (λ k. refl))
    (λ over. ap (λ (c : CoreView). c.quits) core ∙ over) (λ t. absurd (false≢true t))
    (λ s. rw (opened, core, used, listening, refused) (among-same x.links.opened.items x.core x.used x.listening x.refused.items a b same s))
    (λ t s on. rw (append-nil a.taken, clock, opened, used, ran, refused, unlisted) (s.told (call.told t) (sym (ap (λ (c : CoreView). c.quits) core) ∙ on)))
    (λ t s on. rw (append-nil a.taken, append-nil s.history, opened, used, ran) (s.hears (call.told t) (sym (ap (λ (c : CoreView). c.quits) core) ∙ on)))
    (λ t s k e. rw (append-nil a.taken) (s.sockets (call.told t) k (rw opened at e)))
    (λ s stopped. ap (λ (c : CoreView). c.servers.wanted) core ∙ s.idle (sym ran ∙ stopped))
    (λ t s. record {
      events = [];
      reaches = rw ran (ReachesEvents-none x.core.quits y.core.quits x.ran);
      rises = (let q = ap (λ (c : CoreView). c.starved) core in omega arith);
      verdicts = verdicts-same x.core.verdicts y.core.verdicts (ap (λ (c : CoreView). c.verdicts) core);
      goes = Goes-same x.core y.core core;
      advances = λ fed below told' were agrees. MomentAdvances-same told' (moment x a) (moment y b) core used (sent t) (choked t) (ap (λ xs. xs ++ asks_of y.core.servers.wanted) (asked t) ∙ ap (λ (c : CoreView). a.asked ++ asks_of c.servers.wanted) core) [] (call.taken t) [] refl were tt;
      silent = λ over. refl;
      ends = tt;
      last = λ fed below told' were agrees going over. absurd (false≢true (sym going ∙ sym (ap (λ (c : CoreView). c.quits) core) ∙ over));
    })

closes-by : (x y : Headless) (a b : Seen) → AgreesWithSockets x a → WakesCore 0 x y a b → (t : Bool) → b.tells ≡ t → ClosesExactly x y a b
closes-by x y a b s w true told =
    let goes = w.continues.goes told s in
    record {
      history = s.history;
      spells = s.spells;
      heard = w.continues.heard;
      taken = λ t. w.continues.taken t ∙ ap (λ ts. a.taken ++ ts) (sym w.continues.spells);
      ends = λ t. goes.ends;
      events = goes.events;
      reaches = λ t. goes.reaches;
      closed = λ t fed below told' were agrees. w.closed fed below ∙ sym (goes.advances fed below told' were agrees).closes;
    }
closes-by x y a b s w false told = record {
  history = s.history;
  spells = s.spells;
  heard = w.continues.heard;
  taken = λ t. w.continues.taken t ∙ ap (λ ts. a.taken ++ ts) (sym w.continues.spells);
  ends = λ t. absurd (false≢true (sym told ∙ t));
  events = [];
  reaches = λ t. absurd (false≢true (sym told ∙ t));
  closed = λ t. absurd (false≢true (sym told ∙ t));
}

-- where the wait failed, nothing is closed
pub closes-unwoken : (x y : Headless) (a b : Seen) → AgreesWithSockets x a → WakesCore 0 x y a b → ClosesExactly x y a b
closes-unwoken x y a b s w = closes-by x y a b s w b.tells refl

-- ---- how the turn ends

pub OnOk-get : {A : Type 0} (r : Result A Fault) (P : Type 0) → is_err r ≡ false → OnOk r P → P
OnOk-get (Ok v) P e h = h
OnOk-get (Err f) P e h = absurd (false≢true (sym e))

pub OnErr-get : {A : Type 0} (r : Result A Fault) (P : Type 0) → is_err r ≡ true → OnErr r P → P
OnErr-get (Ok v) P e h = absurd (false≢true e)
OnErr-get (Err f) P e h = h

pub LoopStep-then : {A : Type 0} (r : Result A Fault) (quits : Bool) (then : TurnEnd) (x z : Headless) (a c : Seen) → then ≡ then_of r quits → LoopStep false 1 (faults_of r) x z a c → LoopStep false (waits_then then) (faults_then then) x z a c
LoopStep-then (Err f) quits then x z a c e h = rw e h
LoopStep-then (Ok v) true then x z a c e h = rw e h
LoopStep-then (Ok v) false then x z a c e h = rw e h

pub goes-on : {A : Type 0} (r : Result A Fault) (quits : Bool) (then : TurnEnd) → then ≡ then_of r quits → then ≡ GoOn → (is_err r ≡ false) × (quits ≡ false)
goes-on (Err f) quits then e q = cc
goes-on (Ok v) true then e q = cc
goes-on (Ok v) false then e q = (refl, refl)

pub quits-by : {A : Type 0} (r : Result A Fault) (quits : Bool) (then : TurnEnd) → then ≡ then_of r quits → then ≡ Quit → quits ≡ true
quits-by (Err f) quits then e q = cc
quits-by (Ok v) true then e q = refl
quits-by (Ok v) false then e q = cc

-- ---- no link is lost

pub loses-none : (x y z : Headless) → LosesNone x y → x.core.starved ≤ y.core.starved → KeepsLinks y z → LosesNone x z
loses-none x y z loses rises h = record {
  opened = λ k there. h.known k (loses.opened k there);
  came = λ k above below. came-by k above below (nat_le k y.used) refl;
}
  where
    later-by : (k : ℕ) → (is_known k y ≡ true) ⊎ HasStarved x.core.starved y.core.starved → (is_known k z ≡ true) ⊎ HasStarved x.core.starved z.core.starved
    later-by k (inl known) = inl (h.known k known)
    later-by k (inr starved) = inr (starved-later x.core.starved y.core.starved z.core.starved h.rises starved)

    following-by : (k : ℕ) → (is_known k z ≡ true) ⊎ HasStarved y.core.starved z.core.starved → (is_known k z ≡ true) ⊎ HasStarved x.core.starved z.core.starved
    following-by k (inl known) = inl known
    following-by k (inr starved) = inr (starved-following x.core.starved y.core.starved z.core.starved rises starved)

    came-by : (k : ℕ) → x.used < k → k ≤ z.used → (t : Bool) → nat_le k y.used ≡ t → (is_known k z ≡ true) ⊎ HasStarved x.core.starved z.core.starved
    came-by k above below true e = later-by k (loses.came k above (grind (arith, nat_tests)))
    came-by k above below false e = following-by k (h.came k (grind (arith, nat_tests)) below)

-- the same links are there as before a wait that failed
pub unwoken-loses : (x y : Headless) → y.used ≡ x.used → ((k : ℕ) → is_some (at_key link_number k y.links.opened.items) ≡ is_some (at_key link_number k x.links.opened.items)) → LosesNone x y
unwoken-loses x y used links = record {
  opened = λ k there. ap (λ b. b || is_some (at_key closed_number k y.links.closed.items)) (links k ∙ there);
  came = λ k above below. absurd (omega arith);
}

-- ---- how long a wait may take

-- where no link is flagged, none is that is looked up
none-flagged : (flag : LinkState → Bool) (k : ℕ) (states : List LinkState) → list_any flag states ≡ false → has_flag flag (at_key link_number k states) ≡ false
none-flagged flag k [] e = refl
none-flagged flag k (state ∷ states) e = by (flag state) (eqb (link_number state) k) refl e (none-flagged flag k states)
  where
    by : (f t : Bool) → flag state ≡ f → (f || list_any flag states) ≡ false → (list_any flag states ≡ false → has_flag flag (at_key link_number k states) ≡ false) → has_flag flag (cond t (Some state) (at_key link_number k states)) ≡ false
    by true t g q ih = absurd (false≢true (sym q))
    by false true g q ih = g
    by false false g q ih = ih q

-- where one is flagged, one is that is looked up
some-flagged : (flag : LinkState → Bool) (states : List LinkState) → Distinct (map link_number states) → list_any flag states ≡ true → (k : ℕ) × (has_flag flag (at_key link_number k states) ≡ true)
some-flagged flag [] apart e = absurd (false≢true e)
some-flagged flag (state ∷ states) apart e = by (flag state) refl e (some-flagged flag states apart.1)
  where
    same : (n : ℕ) → eqb n n ≡ true
    same n = grind (arith, nat_tests)

    some-of : (o : Option LinkState) → has_flag flag o ≡ true → is_some o ≡ true
    some-of (Some s) h = refl
    some-of None h = absurd (false≢true h)

    later : (found : (k : ℕ) × (has_flag flag (at_key link_number k states) ≡ true)) → (k : ℕ) × (has_flag flag (at_key link_number k (state ∷ states)) ≡ true)
    later found =
        let n = absent-there link_number (link_number state) found.0 states apart.0 (some-of _ found.1) in
        let test : eqb (link_number state) found.0 ≡ false = grind (arith, nat_tests) in
        (found.0, rw test found.1)

    by : (f : Bool) → flag state ≡ f → (f || list_any flag states) ≡ true → (list_any flag states ≡ true → (k : ℕ) × (has_flag flag (at_key link_number k states) ≡ true)) → (k : ℕ) × (has_flag flag (at_key link_number k (state ∷ states)) ≡ true)
    by true g q ih = (link_number state, rw (same (link_number state)) g)
    by false g q ih = later (ih q)

flag-undrained : (o : Option LinkState) → has_flag (λ state. state.undrained) o ≡ is_undrained o
flag-undrained (Some state) = refl
flag-undrained None = refl

undrained-seen : (h : Headless) (seen : Seen) → AgreesWithSockets h seen → has_undrained h ≡ true → HasUndrained seen
undrained-seen h seen s e = by h.listening refl e
  where
    by : (b : Bool) → h.listening ≡ b → (b || list_any (λ state. state.undrained) h.links.opened.items) ≡ true → HasUndrained seen
    by true l q = inr (s.among.listens ∙ l)
    by false l q =
        let found = some-flagged (λ state. state.undrained) h.links.opened.items s.among.apart q in
        inl (found.0, s.among.undrained found.0 ∙ sym (flag-undrained (at_key link_number found.0 h.links.opened.items)) ∙ found.1)

drained-seen : (h : Headless) (seen : Seen) → AgreesWithSockets h seen → has_undrained h ≡ false → IsDrained seen
drained-seen h seen s e =
    let parts = both h.listening (list_any (λ state. state.undrained) h.links.opened.items) e in
    record { links = λ k. s.among.undrained k ∙ sym (flag-undrained (at_key link_number k h.links.opened.items)) ∙ none-flagged (λ state. state.undrained) k h.links.opened.items parts.1; listener = s.among.listens ∙ parts.0 }
  where
    both : (a b : Bool) → (a || b) ≡ false → (a ≡ false) × (b ≡ false)
    both true b q = absurd (false≢true (sym q))
    both false b q = (refl, q)

-- a wait takes as long as it may
pub MayWait-timeout : (h : Headless) (seen : Seen) → AgreesWithSockets h seen → h.core.quits ≡ false → MayWait (timeout_of h) seen
MayWait-timeout h seen s going = by (eqb h.ran 0) (has_undrained h) refl refl
  where
    by : (first undrained : Bool) → eqb h.ran 0 ≡ first → has_undrained h ≡ undrained → MayWait (cond (first || undrained) 0 100) seen
    by true u e f = record { long = λ above. absurd (omega arith); short = λ q t. inr ((s.told t going).silent (grind (arith, nat_tests))) }
    by false true e f = record { long = λ above. absurd (omega arith); short = λ q t. inl (undrained-seen h seen s f) }
    by false false e f = record { long = λ above. (refl, drained-seen h seen s f); short = λ q t. absurd (omega arith) }
