-- What bytes leave of a tail and of the core.
use Rattle.std.proofs.Common.{◌≡◌, ℕ, ◌+◌, ◌-◌, ◌^◌, ◌<◌, true, false, List, [], ◌∷◌, ◌++◌, length, min, refl, sym, ap, ◌∙◌, arith, append_assoc}
use Rattle.std.proofs.lemmas.Bool.{false≢true}
use Rattle.wc_core.specs.Events.{Event}
use Rattle.wc_core.specs.CoreView.{CoreView}
use Rattle.wc_turns.specs.declared.tail.Tail.{Tail}
use Rattle.wc_turns.specs.Lines.{rest, HasNoLf}
use Rattle.wc_turns.specs.Events.{read_events, line_events}
use Rattle.wc_turns.specs.Served.{MayRun, MayTake, LeavesAtLine}
use Rattle.wc_turns.specs.Tails.{IsTail}
use Rattle.wc_turns.proofs.LineLemmas.{rest-append, rest-line, rest-ended, read_events-append, read_events-line, read_events-none}
use Rattle.wc_turns.proofs.RunLemmas.{ran-more}
use Rattle.wc_turns.proofs.ServedLemmas.{MayRun-none, MayRun-trans, LeavesAtLine-refl, LeavesAtLine-trans}

-- events of a link were taken
pub record Took (before now : CoreView) (ran ran' : ℕ) (events : List Event) : Type 0 where
  pub takes : MayRun before now events
  pub counts : ran' ≡ min (ran + length events) (2 ^ 64 - 1)

Took-none : (core : CoreView) (ran : ℕ) → ran < 2 ^ 64 → Took core core ran ran []
Took-none core ran fits = record { takes = MayRun-none core; counts = omega arith }

Took-more : (a b c : CoreView) (r s t : ℕ) (es fs : List Event) → b.quits ≡ false → Took a b r s es → Took b c s t fs → Took a c r t (es ++ fs)
Took-more a b c r s t es fs going h g = record { takes = MayRun-trans a b c es fs going h.takes g.takes; counts = ran-more r s t es fs h.counts (λ fits. g.counts) }

-- bytes of a link were served up to an LF
pub record Fed (before now : CoreView) (link : ℕ) (old new : Tail) (ran ran' : ℕ) (bytes rest' : List ℕ) : Type 0 where
  pub done : List ℕ
  pub split : bytes ≡ done ++ rest'
  pub causes : LeavesAtLine link before now
  pub tail : (line : List ℕ) → IsTail line old → IsTail (rest line done) new
  pub takes : (line : List ℕ) → IsTail line old → Took before now ran ran' (read_events link line done)

pub Fed-none : (core : CoreView) (link : ℕ) (tail : Tail) (ran : ℕ) (bytes : List ℕ) → ran < 2 ^ 64 → Fed core core link tail tail ran ran bytes bytes
Fed-none core link tail ran bytes fits = record { done = []; split = refl; causes = LeavesAtLine-refl link core; tail = λ line h. h; takes = λ line h. Took-none core ran fits }

begun : (new : Tail) → new ≡ record { line = []; over = false } → IsTail [] new
begun new e = rw e (record { bounded = omega arith; short = λ q. refl; long = λ q. absurd (false≢true q) })

-- one more line was served
pub Fed-line : (a b c : CoreView) (link : ℕ) (old mid new : Tail) (r s t : ℕ) (bytes rest' following front : List ℕ)
    → b.quits ≡ false → Fed a b link old mid r s bytes rest' → rest' ≡ front ++ 10 ∷ following → HasNoLf front → new ≡ record { line = []; over = false }
    → ((line : List ℕ) → IsTail line mid → Took b c s t (line_events link (line ++ front))) → LeavesAtLine link b c
    → Fed a c link old new r t bytes following
Fed-line a b c link old mid new r s t bytes rest' following front going fed e clean is takes causes = record {
  done = fed.done ++ (front ++ 10 ∷ []);
  split = fed.split ∙ ap (λ xs. fed.done ++ xs) (e ∙ sym (append_assoc front (10 ∷ []) following)) ∙ sym (append_assoc fed.done (front ++ 10 ∷ []) following);
  causes = LeavesAtLine-trans link a b c fed.causes causes;
  tail = λ line h. rw (rest-append line fed.done (front ++ 10 ∷ []), rest-ended (rest line fed.done) front clean) (begun new is);
  takes = λ line h. rw (read_events-append link line fed.done (front ++ 10 ∷ []), read_events-line link (rest line fed.done) front clean)
      (Took-more a b c r s t _ _ going (fed.takes line h) (takes (rest line fed.done) (fed.tail line h)));
}

-- all lines were served, and bytes without an LF are left
pub Fed-tail : (before now : CoreView) (link : ℕ) (old mid new : Tail) (ran ran' : ℕ) (bytes following : List ℕ)
    → Fed before now link old mid ran ran' bytes following → HasNoLf following → ((line : List ℕ) → IsTail line mid → IsTail (line ++ following) new) → (line : List ℕ) → IsTail line old → IsTail (rest line bytes) new
Fed-tail before now link old mid new ran ran' bytes following fed clean extended line h =
    rw (fed.split, rest-append line fed.done following, rest-line (rest line fed.done) following clean) (extended (rest line fed.done) (fed.tail line h))

pub Fed-takes : (before now : CoreView) (link : ℕ) (old mid : Tail) (ran ran' : ℕ) (bytes following : List ℕ)
    → before.quits ≡ false → Fed before now link old mid ran ran' bytes following → HasNoLf following → (line : List ℕ) → IsTail line old → MayTake before now ran ran' (read_events link line bytes)
Fed-takes before now link old mid ran ran' bytes following going fed clean line h =
    let took = fed.takes line h in
    record {
      events = read_events link line fed.done;
      reaches = record {
        rest = [];
        front = ap (read_events link line) fed.split ∙ read_events-append link line fed.done following ∙ ap (λ es. read_events link line fed.done ++ es) (read_events-none link (rest line fed.done) following clean);
        counts = λ fits. took.counts;
        whole = λ on. refl;
        nothing = λ over. absurd (false≢true (sym going ∙ over));
      };
      takes = took.takes;
    }

-- a line ran `/quit`, and those after it are not served
pub Fed-quit : (before now : CoreView) (link : ℕ) (old mid : Tail) (ran ran' : ℕ) (bytes following : List ℕ)
    → before.quits ≡ false → now.quits ≡ true → Fed before now link old mid ran ran' bytes following → (line : List ℕ) → IsTail line old → MayTake before now ran ran' (read_events link line bytes)
Fed-quit before now link old mid ran ran' bytes following going over fed line h =
    let took = fed.takes line h in
    record {
      events = read_events link line fed.done;
      reaches = record {
        rest = read_events link (rest line fed.done) following;
        front = ap (read_events link line) fed.split ∙ read_events-append link line fed.done following;
        counts = λ fits. took.counts;
        whole = λ on. absurd (false≢true (sym on ∙ over));
        nothing = λ q. absurd (false≢true (sym going ∙ q));
      };
      takes = took.takes;
    }
