-- How a loop goes on.
use Rattle.std.proofs.Common.{◌≡◌, ℕ, ◌+◌, ◌-◌, ◌^◌, ◌<◌, ◌≤◌, Bool, true, false, ◌||◌, IsTrue, List, [], ◌∷◌, ◌++◌, length, map, All, Result, Ok, Err, OnErr, is_ok, refl, sym, ap, ◌∙◌, subst, arith, append_assoc}
use Rattle.std.specs.List.{list_any}
use Rattle.std.proofs.lemmas.Bool.{false≢true}
use Rattle.std.proofs.lemmas.List.{append-nil, length-append}
use Rattle.std.proofs.lemmas.List.Folds.{list_any-append}
use Rattle.wc_outside.specs.Seen.{Seen}
use Rattle.wc_outside.specs.Faults.{Faults, NeverFall, Rose}
use Rattle.wc_outside.specs.declared.happening.Happening.{Happening}
use Rattle.wc_outside.specs.declared.happening.Failed.{Failed as Fault}
use Rattle.wc_core.specs.Events.{Event}
use Rattle.wc_core.specs.State.{State, has_end}
use Rattle.wc_core.specs.Step.{run}
use Rattle.wc_core.specs.Served.{state_of, WereTold, Means, KeepsSaved}
use Rattle.wc_text.specs.declared.names.Address.{Address}
use Rattle.wc_outside.specs.declared.happening.Asked.TheVariants.{Connect}
use Rattle.wc_core.specs.State.{Beside, beside}
use Rattle.wc_core.proofs.DidLemmas.{has_end-append, KeepsSaved-trans}
use Rattle.wc_turns.specs.declared.links.Closed.{Closed}
use Rattle.wc_turns.specs.declared.headless.Headless.{Headless}
use Rattle.wc_turns.specs.Events.{events_from, socket_on}
use Rattle.wc_turns.specs.Heard.{Heard, happenings}
use Rattle.wc_turns.specs.Links.{link_number, is_socket_at}
use Rattle.wc_outside.specs.Keyed.{at_key}
use Rattle.wc_turns.specs.Run.{closings, EndsAtQuit}
use Rattle.wc_turns.specs.Parties.{owed_to, asks_in, IsCalm}
use Rattle.wc_turns.specs.Served.{ReachesEvents}
use Rattle.wc_turns.specs.Turns.{AgreesWithHappenings, AgreesWithHeard, AgreesOnLinks, AgreesWithSockets, Moment, moment, point, MomentAdvances, gives, GivesNothing, EndsEach, QuitsWithin, CoreTakes, HasCause, HasReason, wake_count, listen_faults, faults_of, closed_so_far, LoopStep, ClosesExactly}
use Rattle.wc_turns.proofs.RunLemmas.{run-append-state, run-append-acts, closings-append, events_from-append, ReachesEvents-trans, ReachesEvents-none, EndsAtQuit-append}
use Rattle.wc_turns.proofs.HandsLemmas.{Delivers-trans}
use Rattle.wc_turns.proofs.HeardLemmas.{happenings-append, plain-before}
use Rattle.wc_turns.proofs.PointLemmas.{owed_to-append, asks_in-append, OnOneSide-trans}
use Rattle.wc_turns.proofs.CauseLemmas.{KeepsSides, Onward, Onward-none, Onward-trans, reasons-trans, reasons-as, reasons-same, turn-reasons}
use Rattle.wc_eval.specs.Verdicts.{Oracle, Agrees}
use Rattle.wc_core.proofs.OracleLemmas.{Agrees-before, Stay-trans, verdicts-same}
use Rattle.wc_turns.specs.Goes.{Goes}
use Rattle.wc_turns.proofs.GoesLemmas.{Goes-both}

pub NeverFall-refl : (a : Faults) → NeverFall a a
NeverFall-refl a = record { waits = omega arith; listens = omega arith; connects = omega arith; links = omega arith }

pub NeverFall-trans : (a b c : Faults) → NeverFall a b → NeverFall b c → NeverFall a c
NeverFall-trans a b c h g = record {
  waits = (let p = h.waits in let q = g.waits in omega arith);
  listens = (let p = h.listens in let q = g.listens in omega arith);
  connects = (let p = h.connects in let q = g.connects in omega arith);
  links = (let p = h.links in let q = g.links in omega arith);
}

or-assoc : (a b c : Bool) → ((a || b) || c) ≡ (a || (b || c))
or-assoc true b c = refl
or-assoc false b c = refl

or-end : (b c : Bool) → c ≡ true → (b || c) ≡ true
or-end true c e = refl
or-end false c e = e

MomentAdvances-trans : (told : Beside) (a b c : Moment) (closed closed' : List Closed) (es fs : List Event) (more : List Happening) → c.taken ≡ b.taken ++ more → (b.core.quits ≡ true → fs ≡ []) → (h : MomentAdvances told a b closed es) → MomentAdvances (beside (run (state_of a.core told) es).state) b c closed' fs → MomentAdvances told a c (closed ++ closed') (es ++ fs)
MomentAdvances-trans told a b c closed closed' es fs more grows over h g =
    let first = (run (state_of a.core told) es).acts in
    let middle = (run (state_of a.core told) es).state in
    let later = state_of b.core (beside middle) in
    let second = (run middle fs).acts in
    let acts = run-append-acts (state_of a.core told) es fs in
    let same : (run later fs).acts ≡ second = ap (λ s. (run s fs).acts) (sym h.means.same) in
    let P : State → Type 0 = λ state. Means c.core state in
    record {
      means = subst P (ap (λ s. (run s fs).state) (sym h.means.same) ∙ sym (run-append-state (state_of a.core told) es fs)) g.means;
      oracle = ap (λ (s : State). s.oracle) (run-append-state (state_of a.core told) es fs) ∙ ap (λ s. (run s fs).state.oracle) h.means.same ∙ g.oracle ∙ h.oracle;
      stops = EndsAtQuit-append (state_of a.core told) es fs h.stops (λ q. over (h.quits ∙ or-end a.core.quits (has_end first) q)) (subst (λ s. EndsAtQuit s fs) (sym h.means.same) g.stops);
      hands = λ k plain. rw (acts, owed_to-append k first second) (Delivers-trans (point k a) (point k b) (point k c) (owed_to k first) (owed_to k second) (h.hands k (plain-before k b.taken more (ap (socket_on k) (sym grows) ∙ plain))) (rw same at (g.hands k plain)));
      sides = rw acts (OnOneSide-trans a.core b.core c.core first second h.sides (rw same at g.sides));
      asks = rw (acts, asks_in-append first second) (g.asks ∙ ap (λ xs. xs ++ asks_in (run later fs).acts) h.asks ∙ append_assoc a.asked (asks_in first) _ ∙ ap (λ acts'. a.asked ++ (asks_in first ++ asks_in acts')) same);
      closes = rw acts (closings-append first second ∙ ap (λ cs. cs ++ closings second) h.closes ∙ ap (λ cs. closed ++ cs) (rw same at g.closes));
      quits = g.quits ∙ ap (λ q. q || has_end (run later fs).acts) h.quits ∙ or-assoc a.core.quits (has_end first) _
          ∙ ap (λ acts'. a.core.quits || (has_end first || has_end acts')) same ∙ ap (λ q. a.core.quits || q) (sym (has_end-append first second)) ∙ ap (λ done. a.core.quits || has_end done) (sym acts);
    }

gives-nothing : (xs ys : List Heard) → GivesNothing (happenings xs) → GivesNothing (happenings ys) → GivesNothing (happenings (xs ++ ys))
gives-nothing xs ys p q = ap (list_any gives) (happenings-append xs ys) ∙ list_any-append gives (happenings xs) (happenings ys) ∙ rw p q

-- more is heard after what ran `/quit`
QuitsWithin-then : (before more more' : List Heard) (es fs : List Event) → QuitsWithin before more es → GivesNothing (happenings more') → QuitsWithin before (more ++ more') (es ++ fs)
QuitsWithin-then before more more' es fs q silent = record {
  front = q.front;
  heard = q.heard;
  back = q.back ++ more';
  same = ap (λ xs. xs ++ more') q.same ∙ append_assoc q.front (q.heard ∷ q.back) more';
  within = (let p = q.within in let l = length-append es fs in omega arith);
  silent = gives-nothing q.back more' q.silent silent;
}

-- more was heard before it, all of whose events are reached
QuitsWithin-later : (before now more more' : List Heard) (es rest fs : List Event) → now ≡ before ++ more → events_from before more ≡ es ++ rest → rest ≡ [] → QuitsWithin now more' fs → QuitsWithin before (more ++ more') (es ++ fs)
QuitsWithin-later before now more more' es rest fs grows front none q = record {
  front = more ++ q.front;
  heard = q.heard;
  back = q.back;
  same = ap (λ xs. more ++ xs) q.same ∙ sym (append_assoc more q.front (q.heard ∷ q.back));
  within =
      let all : events_from before more ≡ es = front ∙ ap (λ xs. es ++ xs) none ∙ append-nil es in
      let parts : length (events_from before (more ++ q.front)) ≡ length es + length (events_from now q.front) =
      ap length (events_from-append before more q.front) ∙ length-append (events_from before more) (events_from (before ++ more) q.front) ∙ ap (λ xs. length xs + length (events_from (before ++ more) q.front)) all ∙ ap (λ taken. length es + length (events_from taken q.front)) (sym grows) in
      let p = q.within in
      let l = length-append es fs in
      omega arith;
  silent = q.silent;
}

-- WebSocket links end as their bytes have it, one after another
EndsEach-append : (before xs ys : List Heard) → EndsEach before xs → EndsEach (before ++ xs) ys → EndsEach before (xs ++ ys)
EndsEach-append before [] ys h g = subst (λ past. EndsEach past ys) (append-nil before) g
EndsEach-append before (x ∷ xs) ys h g = (h.0, EndsEach-append (before ++ x ∷ []) xs ys h.1 (subst (λ past. EndsEach past ys) (sym (append_assoc before (x ∷ []) xs)) g))

pub CoreTakes-trans : (past now : List Heard) (a b c : Moment) (n m o : ℕ) (closed closed' : List Closed) (more more' : List Heard) (given : List Happening) → c.taken ≡ b.taken ++ given → now ≡ past ++ more → (a.core.quits ≡ true → b.core.quits ≡ true) → (b.core.quits ≡ true → c.core.quits ≡ true)
    → CoreTakes past a b n m closed more → CoreTakes now b c m o closed' more' → CoreTakes past a c n o (closed ++ closed') (more ++ more')
CoreTakes-trans past now a b c n m o closed closed' more more' given gives' grows first second h g = record {
  events = h.events ++ g.events;
  reaches = rw (events_from-append past more more')
      (ReachesEvents-trans a.core.quits b.core.quits c.core.quits n m o (events_from past more) (events_from (past ++ more) more') h.events g.events first second h.reaches
      (subst (λ taken. ReachesEvents b.core.quits c.core.quits m o (events_from taken more') g.events) grows g.reaches));
  rises = (let p = h.rises in let q = g.rises in omega arith);
  verdicts = Stay-trans a.core.verdicts b.core.verdicts c.core.verdicts h.verdicts g.verdicts;
  goes = Goes-both h.events g.events a.core b.core c.core h.goes g.goes;
  advances = λ same below told were agrees.
      let p = h.rises in
      let q = g.rises in
      let before = h.advances (omega arith) below told were (earlier told agrees) in
      MomentAdvances-trans told a b c closed closed' h.events g.events given gives' g.reaches.nothing before (g.advances (omega arith) (omega arith) (beside (run (state_of a.core told) h.events).state) before.means.told (onward told.oracle (run (state_of a.core told) h.events).state.oracle before.oracle agrees));
  silent = λ over. gives-nothing more more' (h.silent over) (g.silent (first over));
  ends = EndsEach-append past more more' h.ends (subst (λ before. EndsEach before more') grows g.ends);
  last = λ same below told were agrees going over.
      let p = h.rises in
      let q = g.rises in
      let half : b.core.starved ≡ a.core.starved = omega arith in
      let rest : c.core.starved ≡ b.core.starved = omega arith in
      let before = h.advances half below told were (earlier told agrees) in
      quits-by b.core.quits refl going
      (λ quit. QuitsWithin-then past more more' h.events g.events (h.last half below told were (earlier told agrees) going quit) (g.silent quit))
      (λ on. QuitsWithin-later past now more more' h.events h.reaches.rest g.events grows h.reaches.front (h.reaches.whole on) (g.last rest (omega arith) (beside (run (state_of a.core told) h.events).state) before.means.told (onward told.oracle (run (state_of a.core told) h.events).state.oracle before.oracle agrees) on over));
} where
  earlier : (told : Beside) → Agrees told.oracle c.core.verdicts → Agrees told.oracle b.core.verdicts
  earlier told agrees = Agrees-before told.oracle b.core.verdicts c.core.verdicts g.verdicts agrees

  onward : (o p : Oracle) → p ≡ o → Agrees o c.core.verdicts → Agrees p c.core.verdicts
  onward o p same agrees = subst (λ (q : Oracle). Agrees q c.core.verdicts) (sym same) agrees

  quits-by : (t : Bool) → b.core.quits ≡ t → a.core.quits ≡ false → (b.core.quits ≡ true → QuitsWithin past (more ++ more') (h.events ++ g.events)) → (b.core.quits ≡ false → QuitsWithin past (more ++ more') (h.events ++ g.events)) → QuitsWithin past (more ++ more') (h.events ++ g.events)
  quits-by true e going p q = p e
  quits-by false e going p q = q e

pub wakes-append : (xs ys : List Happening) → wake_count (xs ++ ys) ≡ wake_count xs + wake_count ys
wakes-append [] ys = omega arith
wakes-append (x ∷ xs) ys = let h = wakes-append xs ys in omega arith

pub listen_faults-append : (xs ys : List Happening) → listen_faults (xs ++ ys) ≡ listen_faults xs + listen_faults ys
listen_faults-append [] ys = omega arith
listen_faults-append (x ∷ xs) ys = let h = listen_faults-append xs ys in omega arith

-- what a call of the sockets gave
pub record Call (before after : Seen) (given : List Happening) : Type 0 where
  pub told : IsTrue after.tells → IsTrue before.tells
  pub taken : IsTrue after.tells → after.taken ≡ before.taken ++ given
  pub asked : IsTrue after.tells → after.asked ≡ before.asked
  pub counts : NeverFall before.faults after.faults

-- one that may ask for connections
pub record AskingCall (before after : Seen) (given : List Happening) (connects : List Address) : Type 0 where
  pub told : IsTrue after.tells → IsTrue before.tells
  pub taken : IsTrue after.tells → after.taken ≡ before.taken ++ given
  pub asked : IsTrue after.tells → after.asked ≡ before.asked ++ map Connect connects
  pub counts : NeverFall before.faults after.faults

-- a step of the loop: a call of the sockets, at which it may ask for connections, and what the loop
-- does at it
unfoldable pub LoopStep-ask : (w : Bool) (n f : ℕ) (x y : Headless) (a b : Seen) (given : List Happening) (heard : List Heard) (connects : List Address) (closed : List Closed)
    → happenings heard ≡ given → AskingCall a b given connects → (x.turns + n < 2 ^ 64 → y.turns ≡ x.turns + n) → wake_count given ≡ n → listen_faults given ≡ f
    → x.core.starved ≤ y.core.starved → (w ≡ true → AgreesWithSockets x a → y.core.starved ≡ x.core.starved → x.core.starved < 2 ^ 64 - 1 → closed_so_far y ≡ closed_so_far x ++ closed) → (AgreesWithSockets x a → All (HasReason x y a b) (closed_so_far y)) → (AgreesWithSockets x a → KeepsSides x.core y.core) → (AgreesWithSockets x a → Onward x.core y.core given)
    → (x.core.quits ≡ true → y.core.quits ≡ true) → (w ≡ true → AgreesWithSockets x a → KeepsSaved x.core y.core)
    → (AgreesOnLinks x.links.opened.items x.core x.used x.listening x.refused.items a → AgreesOnLinks y.links.opened.items y.core y.used y.listening y.refused.items b)
    → (IsTrue b.tells → AgreesWithSockets x a → y.core.quits ≡ false → AgreesWithHappenings y.clock y.links.opened.items y.used y.ran y.refused.items y.unlisted (a.taken ++ given))
    → (IsTrue b.tells → (s : AgreesWithSockets x a) → y.core.quits ≡ false → AgreesWithHeard y.links.opened.items y.used y.ran (a.taken ++ given) (s.history ++ heard))
    → (IsTrue b.tells → (s : AgreesWithSockets x a) → (k : ℕ) → is_socket_at (at_key link_number k y.links.opened.items) ≡ true → socket_on k (a.taken ++ given) ≡ true)
    → (AgreesWithSockets x a → y.ran ≡ 0 → y.core.servers.wanted ≡ [])
    → (IsTrue b.tells → (s : AgreesWithSockets x a) → CoreTakes s.history (moment x a) (moment y b) x.ran y.ran closed heard)
    → LoopStep w n f x y a b
LoopStep-ask w n f x y a b given heard connects closed spells call turns wake listen rises grows causes sides onward quits saves among told hears sockets idle goes = record {
  turns = turns;
  counts = call.counts;
  told = call.told;
  connects = connects;
  asked = call.asked;
  wakes = λ t. (let e = ap wake_count (call.taken t) in let q = wakes-append a.taken given in omega arith);
  listens = λ t. (let e = ap listen_faults (call.taken t) in let q = listen_faults-append a.taken given in omega arith);
  gained = given;
  taken = call.taken;
  heard = heard;
  spells = spells;
  rises = rises;
  closed = closed;
  grows = grows;
  causes = causes;
  sides = sides;
  reached = λ s. (onward s).reached;
  comes = λ s. (onward s).comes;
  quits = quits;
  saves = saves;
  agrees = λ s. record {
    history = s.history ++ heard;
    spells = λ t. happenings-append s.history heard ∙ ap (λ hs. hs ++ happenings heard) (s.spells (call.told t)) ∙ ap (λ hs. a.taken ++ hs) spells ∙ sym (call.taken t);
    among = among s.among;
    told = λ t on. rw (call.taken t) (told t s on);
    hears = λ t on. rw (call.taken t) (hears t s on);
    sockets = λ t. rw (call.taken t) (sockets t s);
    idle = idle s;
  };
  adds = λ s. refl;
  goes = goes;
}

-- a step at which nothing is asked for
unfoldable pub LoopStep-step : (w : Bool) (n f : ℕ) (x y : Headless) (a b : Seen) (given : List Happening) (heard : List Heard) (closed : List Closed)
    → happenings heard ≡ given → Call a b given → (x.turns + n < 2 ^ 64 → y.turns ≡ x.turns + n) → wake_count given ≡ n → listen_faults given ≡ f
    → x.core.starved ≤ y.core.starved → (w ≡ true → AgreesWithSockets x a → y.core.starved ≡ x.core.starved → x.core.starved < 2 ^ 64 - 1 → closed_so_far y ≡ closed_so_far x ++ closed) → (AgreesWithSockets x a → All (HasReason x y a b) (closed_so_far y)) → (AgreesWithSockets x a → KeepsSides x.core y.core) → (AgreesWithSockets x a → Onward x.core y.core given)
    → (x.core.quits ≡ true → y.core.quits ≡ true) → (w ≡ true → AgreesWithSockets x a → KeepsSaved x.core y.core)
    → (AgreesOnLinks x.links.opened.items x.core x.used x.listening x.refused.items a → AgreesOnLinks y.links.opened.items y.core y.used y.listening y.refused.items b)
    → (IsTrue b.tells → AgreesWithSockets x a → y.core.quits ≡ false → AgreesWithHappenings y.clock y.links.opened.items y.used y.ran y.refused.items y.unlisted (a.taken ++ given))
    → (IsTrue b.tells → (s : AgreesWithSockets x a) → y.core.quits ≡ false → AgreesWithHeard y.links.opened.items y.used y.ran (a.taken ++ given) (s.history ++ heard))
    → (IsTrue b.tells → (s : AgreesWithSockets x a) → (k : ℕ) → is_socket_at (at_key link_number k y.links.opened.items) ≡ true → socket_on k (a.taken ++ given) ≡ true)
    → (AgreesWithSockets x a → y.ran ≡ 0 → y.core.servers.wanted ≡ [])
    → (IsTrue b.tells → (s : AgreesWithSockets x a) → CoreTakes s.history (moment x a) (moment y b) x.ran y.ran closed heard)
    → LoopStep w n f x y a b
unfolding LoopStep-ask
LoopStep-step w n f x y a b given heard closed spells call turns wake listen rises grows causes sides onward quits saves among told hears sockets idle goes =
    LoopStep-ask w n f x y a b given heard [] closed spells (record { told = call.told; taken = call.taken; asked = λ t. call.asked t ∙ sym (append-nil a.asked); counts = call.counts }) turns wake listen rises grows causes sides onward quits saves among told hears sockets idle goes

connects-both : (xs ys : List Address) → map Connect (xs ++ ys) ≡ map Connect xs ++ map Connect ys
connects-both [] ys = refl
connects-both (x ∷ xs) ys = ap (λ zs. Connect x ∷ zs) (connects-both xs ys)

grown-by : (x y z : Headless) (c d : List Closed) → closed_so_far y ≡ closed_so_far x ++ c → closed_so_far z ≡ closed_so_far y ++ d → closed_so_far z ≡ closed_so_far x ++ (c ++ d)
grown-by x y z c d e f = f ∙ ap (λ xs. xs ++ d) e ∙ append_assoc (closed_so_far x) c d

-- what comes at a step
pub onward-of : {w : Bool} {n f : ℕ} (x y : Headless) (a b : Seen) (h : LoopStep w n f x y a b) → AgreesWithSockets x a → Onward x.core y.core h.gained
onward-of x y a b h s = record { reached = h.reached s; comes = h.comes s }

pub LoopStep-sum : {w : Bool} {n m k f g e : ℕ} → n + m ≡ k → f + g ≡ e → (x y z : Headless) (a b c : Seen) → LoopStep w n f x y a b → LoopStep w m g y z b c → LoopStep w k e x z a c
LoopStep-sum {w} {n} {m} {k} {f} {g} {e} nm fg x y z a b c h q = record {
  turns = λ below. (let first = h.turns (omega arith) in let second = q.turns (omega arith) in omega arith);
  counts = NeverFall-trans _ _ _ h.counts q.counts;
  told = λ t. h.told (q.told t);
  connects = h.connects ++ q.connects;
  asked = λ t. q.asked t ∙ ap (λ xs. xs ++ map Connect q.connects) (h.asked (q.told t)) ∙ append_assoc a.asked (map Connect h.connects) (map Connect q.connects) ∙ ap (λ xs. a.asked ++ xs) (sym (connects-both h.connects q.connects));
  wakes = λ t. (let first = h.wakes (q.told t) in let second = q.wakes t in omega arith);
  listens = λ t. (let first = h.listens (q.told t) in let second = q.listens t in omega arith);
  closed = h.closed ++ q.closed;
  rises = (let first = h.rises in let second = q.rises in omega arith);
  grows = λ t s same below. (let first = h.rises in let second = q.rises in grown-by x y z h.closed q.closed (h.grows t s (omega arith) below) (q.grows t (h.agrees s) (omega arith) (omega arith)));
  gained = h.gained ++ q.gained;
  taken = λ t. q.taken t ∙ ap (λ xs. xs ++ q.gained) (h.taken (q.told t)) ∙ append_assoc a.taken h.gained q.gained;
  heard = h.heard ++ q.heard;
  spells = happenings-append h.heard q.heard ∙ ap (λ hs. hs ++ happenings q.heard) h.spells ∙ ap (λ hs. h.gained ++ hs) q.spells;
  causes = λ s. reasons-trans x y z a b c h.gained q.gained q.told h.taken q.taken h.counts q.counts (h.sides s) (onward-of x y a b h s) (onward-of y z b c q (h.agrees s)) (h.causes s) (q.causes (h.agrees s));
  sides = λ s k g. h.sides s k (q.sides (h.agrees s) k g);
  reached = λ s. (Onward-trans x.core y.core z.core h.gained q.gained (q.sides (h.agrees s)) (onward-of x y a b h s) (onward-of y z b c q (h.agrees s))).reached;
  comes = λ s. (Onward-trans x.core y.core z.core h.gained q.gained (q.sides (h.agrees s)) (onward-of x y a b h s) (onward-of y z b c q (h.agrees s))).comes;
  quits = λ over. q.quits (h.quits over);
  saves = λ t s. KeepsSaved-trans x.core y.core z.core (h.saves t s) (q.saves t (h.agrees s));
  agrees = λ s. q.agrees (h.agrees s);
  adds = λ s. q.adds (h.agrees s) ∙ ap (λ hs. hs ++ q.heard) (h.adds s) ∙ append_assoc s.history h.heard q.heard;
  goes = λ t s. CoreTakes-trans s.history (h.agrees s).history (moment x a) (moment y b) (moment z c) x.ran y.ran z.ran h.closed q.closed h.heard q.heard q.gained (q.taken t) (h.adds s) h.quits q.quits (h.goes (q.told t) s) (q.goes t (h.agrees s));
}

pub LoopStep-trans : {w : Bool} {n f : ℕ} (x y z : Headless) (a b c : Seen) → LoopStep w n f x y a b → LoopStep w 0 0 y z b c → LoopStep w n f x z a c
LoopStep-trans {w} {n} {f} x y z a b c h q = LoopStep-sum (omega arith) (omega arith) x y z a b c h q

-- nothing had failed before
pub LoopStep-following : {w : Bool} {n f : ℕ} (x y z : Headless) (a b c : Seen) → LoopStep w 0 0 x y a b → LoopStep w n f y z b c → LoopStep w n f x z a c
LoopStep-following {w} {n} {f} x y z a b c h q = LoopStep-sum (omega arith) (omega arith) x y z a b c h q

-- a call did not fail
pub LoopStep-ok : {A : Type 0} {w : Bool} {n : ℕ} (r : Result A Fault) (v : A) (x y : Headless) (a b : Seen) → r ≡ Ok v → LoopStep w n (faults_of r) x y a b → LoopStep w n 0 x y a b
LoopStep-ok r v x y a b e h = rw e at h

-- nothing failed so far
pub LoopStep-good : {A : Type 0} {w : Bool} {n : ℕ} (r : Result A Fault) (x y : Headless) (a b : Seen) → is_ok r ≡ true → LoopStep w n (faults_of r) x y a b → LoopStep w n 0 x y a b
LoopStep-good (Ok v) x y a b e h = h
LoopStep-good (Err f) x y a b e h = absurd (false≢true e)

-- what is seen of more than one turn, of a state that stands for the same
pub LoopStep-as : {w : Bool} {n f : ℕ} (x y z : Headless) (a b : Seen) → z.turns ≡ y.turns → z.core.starved ≡ y.core.starved → closed_so_far z ≡ closed_so_far y → z.core.servers ≡ y.core.servers → (y.core.quits ≡ true → z.core.quits ≡ true) → ((s : AgreesWithSockets y b) → (t : AgreesWithSockets z b) × (t.history ≡ s.history))
    → ((past : List Heard) (closed : List Closed) (more : List Heard) → CoreTakes past (moment x a) (moment y b) x.ran y.ran closed more → CoreTakes past (moment x a) (moment z b) x.ran z.ran closed more) → LoopStep w n f x y a b → LoopStep false n f x z a b
LoopStep-as {w} x y z a b turns starved closes servers quits agrees takes h = record {
  turns = λ below. turns ∙ h.turns below;
  counts = h.counts;
  told = h.told;
  connects = h.connects;
  asked = h.asked;
  wakes = h.wakes;
  listens = h.listens;
  gained = h.gained;
  taken = h.taken;
  heard = h.heard;
  spells = h.spells;
  rises = (let r = h.rises in omega arith);
  closed = h.closed;
  grows = λ t. absurd (false≢true t);
  causes = λ s. rw closes (reasons-as x y z a b (ap (λ v. v.used) servers) (closed_so_far y) (h.causes s));
  sides = λ s k g. h.sides s k (rw servers at g);
  reached = λ s. (let p = h.reached s in let e = ap (λ v. v.used) servers in omega arith);
  comes = λ s k e. (let q = h.comes s k e in (q.0, λ g. q.1 (rw servers at g)));
  quits = λ over. quits (h.quits over);
  saves = λ t. absurd (false≢true t);
  agrees = λ s. (agrees (h.agrees s)).0;
  adds = λ s. (agrees (h.agrees s)).1 ∙ h.adds s;
  goes = λ t s. takes s.history h.closed h.heard (h.goes t s);
}

pub LoopStep-wider : {w : Bool} {n f : ℕ} (x y : Headless) (a b : Seen) → LoopStep w n f x y a b → LoopStep false n f x y a b
LoopStep-wider x y a b h = LoopStep-as x y y a b refl refl refl refl (λ over. over) (λ s. (s, refl)) (λ past closed more takes. takes) h

-- a turn begins, and what it closes then goes on
pub LoopStep-joined : (x y z : Headless) (a b c : Seen) (h : LoopStep false 1 0 x y a b) (q : LoopStep true 0 0 y z b c) → (j : LoopStep false 1 0 x z a c) × (j.closed ≡ h.closed ++ q.closed)
unfolding LoopStep-sum LoopStep-wider LoopStep-as
LoopStep-joined x y z a b c h q = (LoopStep-sum (omega arith) (omega arith) x y z a b c h (LoopStep-wider y z b c q), refl)

-- nothing is taken, and the loop changes nothing that its clients or the happenings see
pub LoopStep-still : (x y : Headless) (a b : Seen) → Call a b [] → y.turns ≡ x.turns → y.core.starved ≡ x.core.starved → y.core.verdicts ≡ x.core.verdicts → y.core.quits ≡ x.core.quits → y.ran ≡ x.ran → KeepsSides x.core y.core → y.core.servers.used ≡ x.core.servers.used → y.core.servers.wanted ≡ x.core.servers.wanted → KeepsSaved x.core y.core
    → closed_so_far y ≡ closed_so_far x
    → (AgreesOnLinks x.links.opened.items x.core x.used x.listening x.refused.items a → AgreesOnLinks y.links.opened.items y.core y.used y.listening y.refused.items b)
    → (IsTrue b.tells → AgreesWithHappenings x.clock x.links.opened.items x.used x.ran x.refused.items x.unlisted a.taken → AgreesWithHappenings y.clock y.links.opened.items y.used y.ran y.refused.items y.unlisted a.taken)
    → (IsTrue b.tells → (history : List Heard) → AgreesWithHeard x.links.opened.items x.used x.ran a.taken history → AgreesWithHeard y.links.opened.items y.used y.ran a.taken history)
    → ((k : ℕ) → is_socket_at (at_key link_number k y.links.opened.items) ≡ true → is_socket_at (at_key link_number k x.links.opened.items) ≡ true)
    → (IsTrue b.tells → AgreesWithSockets x a → (told : Beside) → WereTold x.core told → MomentAdvances told (moment x a) (moment y b) [] []) → (AgreesWithSockets x a → Goes [] x.core y.core)
    → LoopStep true 0 0 x y a b
LoopStep-still x y a b call turns starved judged quits ran sides used wanted saves closed among told hears sockets advances goes =
    LoopStep-step true 0 0 x y a b [] [] [] refl call (λ below. omega arith) refl refl
    (omega arith) (λ t s same below. closed ∙ sym (append-nil _)) (λ s. reasons-same x y a b closed) (λ s. sides) (λ s. Onward-none x.core y.core [] (omega arith) (λ k. refl)) (λ over. quits ∙ over) (λ t s. saves) among
    (λ t s on. rw (append-nil a.taken) (told t (s.told (call.told t) (sym quits ∙ on))))
    (λ t s on. rw (append-nil a.taken, append-nil s.history) (hears t s.history (s.hears (call.told t) (sym quits ∙ on))))
    (λ t s k e. rw (append-nil a.taken) (s.sockets (call.told t) k (sockets k e)))
    (λ s none. wanted ∙ s.idle (sym ran ∙ none))
    (λ t s. record { events = []; reaches = rw ran (ReachesEvents-none x.core.quits y.core.quits x.ran); rises = omega arith; verdicts = verdicts-same x.core.verdicts y.core.verdicts judged; goes = goes s; advances = λ same below told were agrees. advances t s told were; silent = λ over. refl; ends = tt; last = λ same below told were agrees going over. absurd (false≢true (sym going ∙ sym quits ∙ over)) })

pub Rose-following : {A : Type 0} (r : Result A Fault) (p q n : ℕ) → p ≤ q → OnErr r (Rose q n) → OnErr r (Rose p n)
Rose-following (Ok v) p q n below h = tt
Rose-following (Err f) p q n below h = omega arith

pub Rose-later : {A : Type 0} (r : Result A Fault) (p q n : ℕ) → q ≤ n → OnErr r (Rose p q) → OnErr r (Rose p n)
Rose-later (Ok v) p q n below h = tt
Rose-later (Err f) p q n below h = omega arith

-- what is left to close where nobody is leaving
calm-closed : (x : Headless) → IsCalm x.core → closed_so_far x ≡ x.links.closed.items
calm-closed x calm = ap (λ cs. x.links.closed.items ++ cs) calm.parted ∙ append-nil x.links.closed.items

-- the links that a turn closes
pub turn-closes : {f : ℕ} (x z w : Headless) (a b c : Seen) → AgreesWithSockets x a → IsCalm z.core → IsCalm w.core → (h : LoopStep false 1 0 x z a b) → (z.core.starved ≡ x.core.starved → x.core.starved < 2 ^ 64 - 1 → z.links.closed.items ≡ h.closed) → (q : LoopStep true 0 f z w b c) → w.core.starved ≡ x.core.starved → x.core.starved < 2 ^ 64 - 1 → w.links.closed.items ≡ h.closed ++ q.closed
turn-closes x z w a b c s calm calm' h lists q same below =
    let first = h.rises in
    let second = q.rises in
    sym (calm-closed w calm') ∙ q.grows refl (h.agrees s) (omega arith) (omega arith) ∙ ap (λ cs. cs ++ q.closed) (calm-closed z calm ∙ lists (omega arith) below)

pub turn-causes : {f : ℕ} (x z w : Headless) (a b c : Seen) → AgreesWithSockets x a → IsCalm z.core → IsCalm w.core → (h : LoopStep false 1 0 x z a b) → All (HasCause x z a b) z.links.closed.items → (q : LoopStep true 0 f z w b c) → All (HasCause x w a c) w.links.closed.items
turn-causes x z w a b c s calm calm' h caused q = rw (calm-closed w calm') at
    (turn-reasons x z w a b c h.gained q.gained q.told h.taken q.taken h.counts q.counts (h.sides s) (onward-of x z a b h s) (onward-of z w b c q (h.agrees s)) (rw (calm-closed z calm) caused) (q.causes (h.agrees s)))

pub turn-continues : {f : ℕ} (x z w : Headless) (a b c : Seen) → LoopStep false 1 0 x z a b → LoopStep true 0 f z w b c → LoopStep false 1 f x w a c
turn-continues {f} x z w a b c h q = LoopStep-sum (omega arith) (omega arith) x z w a b c h (LoopStep-wider z w b c q)

-- what is taken in a turn is what is heard in it
taken-by : {f : ℕ} (x z w : Headless) (a b c : Seen) (h : LoopStep false 1 0 x z a b) (q : LoopStep true 0 f z w b c) → IsTrue c.tells → c.taken ≡ a.taken ++ happenings (h.heard ++ q.heard)
taken-by x z w a b c h q t =
    q.taken t ∙ ap (λ ts. ts ++ q.gained) (h.taken (q.told t)) ∙ append_assoc a.taken h.gained q.gained
    ∙ ap (λ ts. a.taken ++ ts) (sym (happenings-append h.heard q.heard ∙ ap (λ hs. hs ++ happenings q.heard) h.spells ∙ ap (λ hs. h.gained ++ hs) q.spells))

exactly-by : {f : ℕ} (x z w : Headless) (a b c : Seen) → AgreesWithSockets x a → IsCalm z.core → IsCalm w.core → (h : LoopStep false 1 0 x z a b) → (z.core.starved ≡ x.core.starved → x.core.starved < 2 ^ 64 - 1 → z.links.closed.items ≡ h.closed) → (q : LoopStep true 0 f z w b c) → (t : Bool) → c.tells ≡ t → ClosesExactly x w a c
exactly-by x z w a b c s calm calm' h lists q true t' =
    let done = CoreTakes-trans s.history (h.agrees s).history (moment x a) (moment z b) (moment w c) x.ran z.ran w.ran h.closed q.closed h.heard q.heard q.gained (q.taken t') (h.adds s) h.quits q.quits (h.goes (q.told t') s) (q.goes t' (h.agrees s)) in
    record {
      history = s.history;
      spells = s.spells;
      heard = h.heard ++ q.heard;
      taken = taken-by x z w a b c h q;
      ends = λ t. done.ends;
      events = done.events;
      reaches = λ t. done.reaches;
      closed = λ t same below told were agrees. turn-closes x z w a b c s calm calm' h lists q same below ∙ sym (done.advances same below told were agrees).closes;
    }
exactly-by x z w a b c s calm calm' h lists q false t' = record {
  history = s.history;
  spells = s.spells;
  heard = h.heard ++ q.heard;
  taken = taken-by x z w a b c h q;
  ends = λ t. absurd (false≢true (sym t' ∙ t));
  events = [];
  reaches = λ t. absurd (false≢true (sym t' ∙ t));
  closed = λ t. absurd (false≢true (sym t' ∙ t));
}

pub turn-closes-exactly : {f : ℕ} (x z w : Headless) (a b c : Seen) → AgreesWithSockets x a → IsCalm z.core → IsCalm w.core → (h : LoopStep false 1 0 x z a b) → (z.core.starved ≡ x.core.starved → x.core.starved < 2 ^ 64 - 1 → z.links.closed.items ≡ h.closed) → (q : LoopStep true 0 f z w b c) → ClosesExactly x w a c
turn-closes-exactly x z w a b c s calm calm' h lists q = exactly-by x z w a b c s calm calm' h lists q c.tells refl
