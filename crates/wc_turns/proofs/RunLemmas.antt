-- Laws of runs.
use Rattle.std.proofs.Common.{◌≡◌, ℕ, ◌+◌, ◌-◌, ◌^◌, ◌<◌, min, Bool, true, false, ◌||◌, cond, List, [], ◌∷◌, ◌++◌, length, refl, sym, ap, ◌∙◌, append_assoc, arith}
use Rattle.std.proofs.lemmas.Bool.{false≢true}
use Rattle.std.proofs.lemmas.List.{append-nil, length-append}
use Rattle.std.proofs.lemmas.Grind.{common_steps, flat_map-append}
use Rattle.wc_turns.specs.Heard.{Heard}
use Rattle.wc_core.specs.Events.{Event}
use Rattle.wc_core.specs.State.{State, Act, has_end}
use Rattle.wc_core.specs.Step.{step, run}
use Rattle.wc_core.proofs.DidLemmas.{has_end-append}
use Rattle.wc_turns.specs.Events.{events_of, events_from}
use Rattle.wc_turns.specs.Run.{act_closes, closings, EndsAtQuit, up_to_quit}
use Rattle.wc_turns.specs.Served.{ReachesEvents}

pub run-append-state : (state : State) (es fs : List Event) → (run state (es ++ fs)).state ≡ (run (run state es).state fs).state
run-append-state state [] fs = refl
run-append-state state (e ∷ es) fs = run-append-state (step state e).state es fs

pub run-append-acts : (state : State) (es fs : List Event) → (run state (es ++ fs)).acts ≡ (run state es).acts ++ (run (run state es).state fs).acts
run-append-acts state [] fs = refl
run-append-acts state (e ∷ es) fs =
    let a = (step state e).acts in
    ap (λ rest. a ++ rest) (run-append-acts (step state e).state es fs) ∙ sym (append_assoc a _ _)

pub closings-append : (acts others : List Act) → closings (acts ++ others) ≡ closings acts ++ closings others
closings-append acts others = flat_map-append act_closes acts others

-- what happens at the end adds its events
pub events_from-push : (before history : List Heard) (h : Heard)
    → events_from before (history ++ h ∷ []) ≡ events_from before history ++ events_of (before ++ history) h
events_from-push before [] h = grind (arith, common_steps)
events_from-push before (g ∷ gs) h = grind (arith, common_steps, events_from-push (before ++ g ∷ []) gs h)

pub events_from-append : (before xs ys : List Heard)
    → events_from before (xs ++ ys) ≡ events_from before xs ++ events_from (before ++ xs) ys
events_from-append before [] ys = grind (arith, common_steps)
events_from-append before (x ∷ xs) ys = grind (arith, common_steps, events_from-append (before ++ x ∷ []) xs ys)

pub ran-more : (ran mid ran' : ℕ) (es fs : List Event) → mid ≡ min (ran + length es) (2 ^ 64 - 1) → (mid < 2 ^ 64 → ran' ≡ min (mid + length fs) (2 ^ 64 - 1)) → ran' ≡ min (ran + length (es ++ fs)) (2 ^ 64 - 1)
ran-more ran mid ran' es fs e f = let l = length-append es fs in let g = f (omega arith) in omega arith

-- all events are reached
pub ReachesEvents-all : (q r : Bool) (n m : ℕ) (es : List Event) → q ≡ false → (n < 2 ^ 64 → m ≡ min (n + length es) (2 ^ 64 - 1)) → ReachesEvents q r n m es es
ReachesEvents-all q r n m es off counts = record { rest = []; front = sym (append-nil es); counts = counts; whole = λ e. refl; nothing = λ e. absurd (false≢true (sym off ∙ e)) }

-- none is there
pub ReachesEvents-none : (q r : Bool) (n : ℕ) → ReachesEvents q r n n [] []
ReachesEvents-none q r n = record { rest = []; front = refl; counts = λ fits. omega arith; whole = λ e. refl; nothing = λ e. refl }

-- none is reached, after `/quit`
pub ReachesEvents-over : (q r : Bool) (n : ℕ) (all : List Event) → r ≡ true → ReachesEvents q r n n all []
ReachesEvents-over q r n all over = record { rest = all; front = refl; counts = λ fits. omega arith; whole = λ e. absurd (false≢true (sym e ∙ over)); nothing = λ e. refl }

reaches-by : (q r s : Bool) (n m o : ℕ) (all more es fs : List Event) → (t : Bool) → r ≡ t → (q ≡ true → r ≡ true) → (r ≡ true → s ≡ true) → ReachesEvents q r n m all es → ReachesEvents r s m o more fs → ReachesEvents q s n o (all ++ more) (es ++ fs)
reaches-by q r s n m o all more es fs false e qr rs h g = record {
  rest = g.rest;
  front = ap (λ xs. xs ++ more) (h.front ∙ ap (λ xs. es ++ xs) (h.whole e) ∙ append-nil es) ∙ ap (λ xs. es ++ xs) g.front ∙ sym (append_assoc es fs g.rest);
  counts = λ fits. ran-more n m o es fs (h.counts fits) g.counts;
  whole = g.whole;
  nothing = λ over. absurd (false≢true (sym e ∙ qr over));
}
reaches-by q r s n m o all more es fs true e qr rs h g =
    let none : fs ≡ [] = g.nothing e in
    record {
      rest = h.rest ++ more;
      front = ap (λ xs. xs ++ more) h.front ∙ append_assoc es h.rest more ∙ ap (λ xs. xs ++ (h.rest ++ more)) (sym (append-nil es) ∙ ap (λ xs. es ++ xs) (sym none));
      counts = λ fits. ran-more n m o es fs (h.counts fits) g.counts;
      whole = λ on. absurd (false≢true (sym on ∙ rs e));
      nothing = λ over. ap (λ xs. xs ++ fs) (h.nothing over) ∙ none;
    }

pub ReachesEvents-trans : (q r s : Bool) (n m o : ℕ) (all more es fs : List Event) → (q ≡ true → r ≡ true) → (r ≡ true → s ≡ true) → ReachesEvents q r n m all es → ReachesEvents r s m o more fs → ReachesEvents q s n o (all ++ more) (es ++ fs)
ReachesEvents-trans q r s n m o all more es fs qr rs h g = reaches-by q r s n m o all more es fs r refl qr rs h g

-- ---- where a run ends

pub EndsAtQuit-one : (state : State) (events : List Event) → length events ≡ 1 → EndsAtQuit state events
EndsAtQuit-one state [] e = absurd (let q : 0 ≡ 1 = e in omega (arith, q))
EndsAtQuit-one state (event ∷ []) e = (λ q. refl, tt)
EndsAtQuit-one state (event ∷ (f ∷ fs)) e = absurd (omega (arith, e))

or-left : (b c : Bool) → b ≡ true → (b || c) ≡ true
or-left b c e = rw e refl

or-right : (b c : Bool) → c ≡ true → (b || c) ≡ true
or-right true c e = refl
or-right false c e = e

-- more events come only where none of those before ran `/quit`
pub EndsAtQuit-append : (state : State) (es fs : List Event) → EndsAtQuit state es → (has_end (run state es).acts ≡ true → fs ≡ []) → EndsAtQuit (run state es).state fs → EndsAtQuit state (es ++ fs)
EndsAtQuit-append state [] fs h over g = g
EndsAtQuit-append state (e ∷ es) fs h over g =
    let first = step state e in
    let rest = (run first.state es).acts in
    let quits : (has_end (first.acts ++ rest)) ≡ (has_end first.acts || has_end rest) = has_end-append first.acts rest in (
      λ q. ap (λ xs. xs ++ fs) (h.0 q) ∙ over (quits ∙ or-left (has_end first.acts) (has_end rest) q),
      EndsAtQuit-append first.state es fs h.1 (λ q. over (quits ∙ or-right (has_end first.acts) (has_end rest) q)) g,
    )

front-by : (state : State) (e : Event) (es rest : List Event) (t : Bool) → has_end (step state e).acts ≡ t → (has_end (step state e).acts ≡ true → es ≡ []) → (has_end (step state e).acts ≡ false → es ≡ up_to_quit (step state e).state (es ++ rest))
    → e ∷ es ≡ e ∷ cond t [] (up_to_quit (step state e).state (es ++ rest))
front-by state e es rest true q stops goes = ap (λ xs. e ∷ xs) (stops q)
front-by state e es rest false q stops goes = ap (λ xs. e ∷ xs) (goes q)

-- they are the front of all events that ends at the first `/quit`
pub up_to_quit-front : (state : State) (all events rest : List Event) → all ≡ events ++ rest → EndsAtQuit state events → (has_end (run state events).acts ≡ false → rest ≡ []) → events ≡ up_to_quit state all
up_to_quit-front state all [] rest front h whole = sym (ap (up_to_quit state) (front ∙ whole refl))
up_to_quit-front state all (e ∷ es) rest front h whole =
    let first = step state e in
    let acts = (run first.state es).acts in
    rw front (front-by state e es rest (has_end first.acts) refl h.0
    (λ q. up_to_quit-front first.state (es ++ rest) es rest refl h.1 (λ none. whole (has_end-append first.acts acts ∙ ap (λ b. b || has_end acts) q ∙ none))))
