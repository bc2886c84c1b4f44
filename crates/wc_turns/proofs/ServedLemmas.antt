-- The core takes one event after another.
use Rattle.std.proofs.Common.{◌≡◌, ℕ, ◌-◌, ◌^◌, ◌<◌, inl, inr, Bool, true, false, ◌||◌, eqb, List, [], ◌∷◌, ◌++◌, Option, Some, None, IsSome, refl, sym, ap, ◌∙◌, subst, arith}
use Rattle.std.proofs.lemmas.Bool.{false≢true}
use Rattle.std.proofs.lemmas.Bool.Decides.{nat_tests}
use Rattle.std.proofs.lemmas.List.{append-nil}
use Rattle.wc_text.specs.declared.names.Cause.{Cause}
use Rattle.wc_core.specs.Events.{Event, Line}
use Rattle.wc_core.specs.CoreView.{CoreView}
use Rattle.wc_core.specs.State.{State, Act, Stage, has_end}
use Rattle.wc_core.specs.Changing.{way_after}
use Rattle.wc_core.specs.Step.{step, run}
use Rattle.wc_core.specs.Served.{links_of, state_of, WereTold, Means, sent_to, outs_of, close_of, or_else, Distinct, Follows, FollowsUnlessStarved, Does, LeavesBy, plain_beside}
use Rattle.wc_board.specs.Connections.{leaving_in, leaving_on, unsent_on}
use Rattle.wc_core.specs.State.{Beside, beside}
use Rattle.wc_core.proofs.ComeLemmas.{ServersKeep-refl, ServersKeep-trans}
use Rattle.wc_core.proofs.DidLemmas.{Follows-stays, Follows-then, KeepsClients-refl, KeepsClients-trans, KeepsSaved-trans}
use Rattle.wc_turns.specs.Served.{MayRun, LeavesFor, LeavesAtLine}
use Rattle.wc_core.specs.ServersKept.{LeaveInOrder, ServersKeep}
use Rattle.wc_servers.specs.Outs.{ServersFollow}
use Rattle.wc_turns.specs.Run.{EndsAtQuit}
use Rattle.wc_turns.proofs.RunLemmas.{run-append-state, run-append-acts, EndsAtQuit-one, EndsAtQuit-append}
use Rattle.wc_turns.proofs.ClosingLemmas.{LineCause, line-cause, line-others}
use Rattle.wc_eval.specs.Verdicts.{Oracle, Agrees}
use Rattle.wc_core.proofs.OracleLemmas.{Agrees-before}
use Rattle.wc_turns.specs.Goes.{TakesEvent}
use Rattle.wc_turns.proofs.GoesLemmas.{Goes-same, Goes-one, Goes-both}

pub Follows-acts : (told : Beside) (a b : CoreView) (state : State) (acts acts' : List Act) (way way' : List Stage) → acts ≡ acts' → Follows told a b (record { state = state; acts = acts; way = way }) → Follows told a b (record { state = state; acts = acts'; way = way' })
Follows-acts told a b state acts acts' way way' e did =
    let g = subst (λ xs. Follows told a b (record { state = state; acts = xs; way = way })) e did in
    record { means = g.means; oracle = g.oracle; bytes = g.bytes; leaving = g.leaving; quits = g.quits; servers = g.servers; parts = g.parts }

Follows-append : (told : Beside) (a b c : CoreView) (es fs : List Event) → ServersKeep a.servers b.servers → Follows told a b (run (state_of a told) es) → Follows (beside (run (state_of a told) es).state) b c (run (state_of b (beside (run (state_of a told) es).state)) fs) → Follows told a c (run (state_of a told) (es ++ fs))
Follows-append told a b c es fs keep h g =
    let did = Follows-then told a b c (run (state_of a told) es) (λ next. run next fs) keep h g in
    let acts = sym (run-append-acts (state_of a told) es fs) in
    let P : State → Type 0 = λ state. Means c state in
    record {
      means = subst P (sym (run-append-state (state_of a told) es fs)) did.means;
      oracle = ap (λ (s : State). s.oracle) (run-append-state (state_of a told) es fs) ∙ did.oracle;
      bytes = λ k. did.bytes k ∙ ap (λ xs. unsent_on k a.connections ++ sent_to k xs) acts;
      leaving = λ k. did.leaving k ∙ ap (λ xs. or_else (leaving_on k a.connections) (close_of k xs)) acts;
      quits = did.quits ∙ ap (λ xs. a.quits || has_end xs) acts;
      servers = subst (λ xs. ServersFollow a.servers c.servers (outs_of xs)) acts did.servers;
      parts = subst (λ xs. LeaveInOrder a.servers c.servers (outs_of xs)) acts did.parts;
    }

ends-by : (before end : Bool) → end ≡ true → (before || end) ≡ true
ends-by true end q = refl
ends-by false end q = q

pub MayRun-none : (a : CoreView) → MayRun a a []
MayRun-none a = record { keeps = KeepsClients-refl a; goes = Goes-same a a refl; does = λ same below distinct told were agrees. Follows-stays told a were; stops = λ same below distinct told were agrees. tt }

pub MayRun-one : (a b : CoreView) (event : Event) → Does a b (λ state. step state event) → TakesEvent event a b → MayRun a b (event ∷ [])
MayRun-one a b event h takes = record {
  keeps = (h (plain_beside a)).keeps;
  goes = Goes-one event a b takes;
  does = λ same below distinct told were agrees. (let s = step (state_of a told) event in Follows-acts told a b s.state s.acts (s.acts ++ []) s.way (s.way ++ way_after (outs_of s.acts) []) (sym (append-nil s.acts)) ((h told).does same below distinct were agrees));
  stops = λ same below distinct told were agrees. EndsAtQuit-one (state_of a told) (event ∷ []) refl;
}

-- where `/quit` was run by the first of them, there are none after it
pub MayRun-then : (a b c : CoreView) (es fs : List Event) → (b.quits ≡ true → fs ≡ []) → MayRun a b es → MayRun b c fs → MayRun a c (es ++ fs)
MayRun-then a b c es fs over h g = record {
  keeps = KeepsClients-trans a b c h.keeps g.keeps;
  goes = Goes-both es fs a b c h.goes g.goes;
  does = λ same below distinct told were agrees.
      let before = first same below distinct told were agrees in
      Follows-append told a b c es fs h.keeps.servers before (g.does (later same) (under same below) (following distinct) (beside (run (state_of a told) es).state) before.means.told (onward told.oracle (run (state_of a told) es).state.oracle before.oracle agrees));
  stops = λ same below distinct told were agrees.
      let before = first same below distinct told were agrees in
      let state = (run (state_of a told) es).state in
      let P : State → Type 0 = λ s. EndsAtQuit s fs in
      EndsAtQuit-append (state_of a told) es fs (h.stops (half same) below distinct told were (earlier told agrees)) (λ q. over (before.quits ∙ ends-by a.quits (has_end (run (state_of a told) es).acts) q))
      (subst P (sym before.means.same) (g.stops (later same) (under same below) (following distinct) (beside state) before.means.told (onward told.oracle state.oracle before.oracle agrees)));
} where
  half : c.starved ≡ a.starved → b.starved ≡ a.starved
  half same = let p = h.keeps.rises in let q = g.keeps.rises in omega arith

  later : c.starved ≡ a.starved → c.starved ≡ b.starved
  later same = let p = h.keeps.rises in let q = g.keeps.rises in omega arith

  under : c.starved ≡ a.starved → a.starved < 2 ^ 64 - 1 → b.starved < 2 ^ 64 - 1
  under same below = let p = h.keeps.rises in let q = g.keeps.rises in omega arith

  following : Distinct (links_of a) → Distinct (links_of b)
  following distinct = subst Distinct (sym h.keeps.links) distinct

  earlier : (told : Beside) → Agrees told.oracle c.verdicts → Agrees told.oracle b.verdicts
  earlier told agrees = Agrees-before told.oracle b.verdicts c.verdicts g.keeps.verdicts agrees

  onward : (o p : Oracle) → p ≡ o → Agrees o c.verdicts → Agrees p c.verdicts
  onward o p same agrees = subst (λ (q : Oracle). Agrees q c.verdicts) (sym same) agrees

  first : c.starved ≡ a.starved → a.starved < 2 ^ 64 - 1 → Distinct (links_of a) → (told : Beside) → WereTold a told → Agrees told.oracle c.verdicts → Follows told a b (run (state_of a told) es)
  first same below distinct told were agrees = h.does (half same) below distinct told were (earlier told agrees)

-- where the first of them ran no `/quit`
pub MayRun-trans : (a b c : CoreView) (es fs : List Event) → b.quits ≡ false → MayRun a b es → MayRun b c fs → MayRun a c (es ++ fs)
MayRun-trans a b c es fs going h g = MayRun-then a b c es fs (λ over. absurd (false≢true (sym going ∙ over))) h g

-- ---- who leaves at a line

some_here : {X : Type 0} (o : Option X) (x : X) → o ≡ Some x → IsSome o
some_here (Some y) x e = refl
some_here None x e = absurd (let q : None ≡ Some x = e in cc)

for-same : (link other : ℕ) (o : Option Cause) → LeavesFor link other o o
for-same link other None = tt
for-same link other (Some why) = refl

pub LeavesAtLine-refl : (link : ℕ) (core : CoreView) → LeavesAtLine link core core
LeavesAtLine-refl link core = record { servers = ServersKeep-refl core.servers; saves = inl (refl, refl); rises = omega arith; links = refl; leaving = λ distinct other. for-same link other (leaving_on other core.connections) }

for-then : (link other : ℕ) (a b c : Option Cause) → LeavesFor link other a b → LeavesFor link other b c → LeavesFor link other a c
for-then link other (Some why) b c h g = subst (λ o. LeavesFor link other o c) h g
for-then link other None None c h g = g
for-then link other None (Some why) c h g = rw g h

pub LeavesAtLine-trans : (link : ℕ) (a b c : CoreView) → LeavesAtLine link a b → LeavesAtLine link b c → LeavesAtLine link a c
LeavesAtLine-trans link a b c h g = record {
  rises = (let p = h.rises in let q = g.rises in omega arith);
  links = g.links ∙ h.links;
  saves = KeepsSaved-trans a b c h.saves g.saves;
  servers = ServersKeep-trans a.servers b.servers c.servers h.servers g.servers;
  leaving = λ distinct other. for-then link other (leaving_on other a.connections) (leaving_on other b.connections) (leaving_on other c.connections) (h.leaving distinct other) (g.leaving (subst Distinct (sym h.links) distinct) other);
}

for-line : (link : ℕ) (closes : Option Cause) → LineCause closes → LeavesFor link link None closes
for-line link None h = tt
for-line link (Some why) (inl e) = rw e refl
for-line link (Some why) (inr e) = rw e refl

for-closed : (link other : ℕ) (state : State) (line : List ℕ) (t : Bool) → eqb other link ≡ t → LeavesFor link other None (close_of other (step state (Line link line)).acts)
for-closed link other state line true e =
    let same : link ≡ other = grind (arith, nat_tests) in
    subst (λ k. LeavesFor link k None (close_of k (step state (Line link line)).acts)) same (for-line link _ (line-cause link state line))
for-closed link other state line false e = rw (line-others link state line other (λ q. grind (arith, nat_tests))) tt

for-step : (link other : ℕ) (before closes after : Option Cause) → (IsSome before → after ≡ before) → LeavesBy before closes after → LeavesFor link other None closes → LeavesFor link other before after
for-step link other (Some why) closes after kept h g = kept refl
for-step link other None closes after kept (inl e) g = rw e g
for-step link other None closes after kept (inr (inl e)) g = rw e tt
for-step link other None closes after kept (inr (inr e)) g = rw e tt

pub LeavesAtLine-one : (link : ℕ) (a b : CoreView) (line : List ℕ) → Does a b (λ state. step state (Line link line)) → LeavesAtLine link a b
LeavesAtLine-one link a b line done = record {
  rises = h.keeps.rises;
  links = h.keeps.links;
  saves = h.keeps.saves;
  servers = h.keeps.servers;
  leaving = λ distinct other. for-step link other (leaving_on other a.connections) (close_of other (step state (Line link line)).acts) (leaving_on other b.connections) (λ s. ap leaving_in (h.keeps.kept other s)) (h.causes distinct other)
      (for-closed link other state line (eqb other link) refl);
} where
  state : State
  state = state_of a (plain_beside a)

  h : FollowsUnlessStarved (plain_beside a) a b (step state (Line link line))
  h = done (plain_beside a)
