-- Steps that close no client, one after another.
use Rattle.std.proofs.Common.{◌≡◌, ◌≢◌, ℕ, Bool, true, false, cond, ◌||◌, inl, inr, Option, None, ap, sym, subst, ◌∙◌, arith, List, ◌++◌}
use Rattle.wc_text.specs.declared.names.Cause.{Cause}
use Rattle.wc_core.specs.CoreView.{CoreView}
use Rattle.wc_core.specs.State.{State, beside, Stage, Stepped, has_end, Act, outs_of}
use Rattle.wc_core.specs.Changing.{way_after}
use Rattle.wc_core.specs.Step.{then_does}
use Rattle.wc_board.specs.Connections.{leaving_on}
use Rattle.wc_board.specs.Served.{StaysOrStarves}
use Rattle.wc_core.specs.Served.{state_of, or_else, close_of, LeavesBy, Follows}
use Rattle.wc_core.specs.Contained.{Rest, rest_of, beside_in, state_with, first_stage, IsOn, IsDone, IsContained, RunsAt, Runs}
use Rattle.wc_core.proofs.ChangeCloses.{then-closes}
use Rattle.wc_core.proofs.CountLemmas.{counts-stay}
use Rattle.wc_core.proofs.DidLemmas.{ClosesLater, or_else-none, has_end-append}
use Rattle.wc_core.proofs.OracleLemmas.{Agrees-before}
use Rattle.wc_core.proofs.RunLemmas.{IsOn-first, RunsAt-then, or-more}

abbrev pub ClosesNone : (State → Stepped) → Type 0
ClosesNone step = (j : ℕ) (state : State) → close_of j (step state).acts ≡ None

-- whom a step closes after another one, where both close no one
pub later-none : (b : CoreView) (one : Stepped) (next : State → Stepped) → ((j : ℕ) → close_of j one.acts ≡ None) → ClosesNone next → ClosesLater b one next
later-none b one next none n_none = record { first_none = none; same = λ j. n_none j (state_of b (beside one.state)) ∙ sym (n_none j one.state) }

-- one after another, where nothing was cut short
pub Runs-then : (a b c : CoreView) (first next : State → Stepped) → ClosesNone first → ClosesNone next → b.cuts ≡ a.cuts → Runs a b first → Runs b c next → Runs a c (λ state. then_does (first state) next)
Runs-then a b c first next f_none n_none uncut f g = λ told.
    let one = first (state_with a told) in
    RunsAt-then told a b c one next (later-none b one next (λ j. f_none j (state_with a told)) n_none) uncut (f told) g

pub stays-by : (a b : CoreView) (j : ℕ) (closes : Option Cause) → closes ≡ None → LeavesBy (leaving_on j a.connections) closes (leaving_on j b.connections) → StaysOrStarves (leaving_on j a.connections) (leaving_on j b.connections)
stays-by a b j closes none (inl e) = inl (e ∙ ap (or_else (leaving_on j a.connections)) none ∙ or_else-none (leaving_on j a.connections))
stays-by a b j closes none (inr e) = e

pub ends-then : (acts more : List Act) → has_end acts ≡ true → has_end (acts ++ more) ≡ true
ends-then acts more e = has_end-append acts more ∙ ap (λ t. t || has_end more) e

-- a step that closes no one and was cut short, and one that goes on after it
pub RunsAt-cut : (told : Rest) (a b : CoreView) (s t : Stepped) → ((j : ℕ) → close_of j s.acts ≡ None) → b.cuts ≢ a.cuts → ((x first : Stage) → IsOn x first s.way → IsOn x first t.way) → (has_end s.acts ≡ true → has_end t.acts ≡ true) → RunsAt told a b s → RunsAt told a b t
RunsAt-cut told a b s t none cut longer ends f = record {
  keeps = f.keeps;
  board = f.board;
  counts = f.counts;
  causes = λ here distinct j. inr (stays-by a b j (close_of j s.acts) (none j) (f.causes here distinct j));
  does = λ here same below distinct were agrees. absurd (cut (counts-stay a b f.counts below same));
  contains = λ below distinct were agrees.
      let is = f.contains below distinct were agrees in
      let part = is.part in
      record { whole = λ same. absurd (cut same); quits = λ over. or-more a.quits (has_end s.acts) (has_end t.acts) ends (is.quits over); part = record { stage = part.stage; is_on = longer part.stage (first_stage (state_with a told)) part.is_on; holds = part.holds; servers = part.servers } };
}

-- the next one is skipped where the first was cut short
pub Runs-cut : (a b : CoreView) (first next : State → Stepped) → ClosesNone first → b.cuts ≢ a.cuts → Runs a b first → Runs a b (λ state. then_does (first state) next)
Runs-cut a b first next none cut f = λ told.
    let one = first (state_with a told) in
    RunsAt-cut told a b one (then_does one next) (λ j. none j (state_with a told)) cut (λ x at on. IsOn-first x at one.way (way_after (outs_of one.acts) (next one.state).way) on) (ends-then one.acts (next one.state).acts) (f told)

-- what is chosen by what the state says
pub Runs-as : (a b : CoreView) (step whole : State → Stepped) → ((told : Rest) → step (state_with a told) ≡ whole (state_with a told)) → Runs a b step → Runs a b whole
Runs-as a b step whole same f = λ told.
    let P : Stepped → Type 0 = λ stepped. RunsAt told a b stepped in
    subst P (same told) (f told)

-- ---- steps that may run `/quit`

ended : (before after end : Bool) → before ≡ false → after ≡ (before || end) → end ≡ after
ended before after end going e = sym (e ∙ ap (λ t. t || end) going)

-- a step, and where it does not run `/quit` the next one
abbrev pub unless_ended : Stepped → (State → Stepped) → Stepped
unless_ended one next = cond (has_end one.acts) one (then_does one next)

-- the end of the first is that of both
pub ends_both : (one : Stepped) (next : State → Stepped) → has_end one.acts ≡ true → has_end (unless_ended one next).acts ≡ true
ends_both one next e = rw e e

-- what is on the way of the first is on that of both
pub on_both : (one : Stepped) (next : State → Stepped) (x first : Stage) → IsOn x first one.way → IsOn x first (unless_ended one next).way
on_both one next x first on = by (has_end one.acts) where
  by : (t : Bool) → IsOn x first (cond t one (then_does one next)).way
  by true = on
  by false = IsOn-first x first one.way (way_after (outs_of one.acts) (next one.state).way) on

-- a step that ran `/quit`, before another one
pub ends-first : (a b : CoreView) (first next : State → Stepped) → ClosesNone first → a.quits ≡ false → b.quits ≡ true → Runs a b first → Runs a b (λ state. unless_ended (first state) next)
ends-first a b first next none going quit done = λ told.
    let f = done told in
    let one = first (state_with a told) in
    let P : Bool → Type 0 = λ t. Follows (beside_in told) a b (cond t one (then_does one next)) in
    record {
      keeps = f.keeps;
      board = f.board;
      counts = f.counts;
      causes = λ here distinct j. inr (stays-by a b j (close_of j one.acts) (none j (state_with a told)) (f.causes here distinct j));
      does = λ here same below distinct were agrees.
          let did = f.does here same below distinct were agrees in
          subst P (sym (ended a.quits b.quits (has_end one.acts) going did.quits ∙ quit)) did;
      contains = λ below distinct were agrees.
          let is = f.contains below distinct were agrees in
          let Q : Bool → Type 0 = λ t. IsDone told a b (cond t one (then_does one next)) in
          record {
            whole = λ same. (let d = is.whole same in subst Q (sym (ended a.quits b.quits (has_end one.acts) going d.quits ∙ quit)) d);
            part = record { stage = is.part.stage; is_on = on_both one next is.part.stage (first_stage (state_with a told)) is.part.is_on; holds = is.part.holds; servers = is.part.servers };
            quits = λ over. or-more a.quits (has_end one.acts) (has_end (unless_ended one next).acts) (ends_both one next) (is.quits over);
          };
    }

-- one that did not, and the other one
pub goes-on : (a b c : CoreView) (first next : State → Stepped) → ClosesNone first → ClosesNone next → a.quits ≡ false → b.quits ≡ false → b.cuts ≡ a.cuts → Runs a b first → Runs b c next → Runs a c (λ state. unless_ended (first state) next)
goes-on a b c first next none none' going on uncut done more = λ told.
    let f = done told in
    let one = first (state_with a told) in
    let all = then_does one next in
    let h = Runs-then a b c first next none none' uncut done more told in
    let P : Bool → Type 0 = λ t. Follows (beside_in told) a c (cond t one all) in
    record {
      keeps = h.keeps;
      board = h.board;
      counts = h.counts;
      causes = λ here distinct j. inr (stays-by a c j (close_of j all.acts) (then-closes j one next (none j (state_with a told)) (none' j one.state)) (h.causes here distinct j));
      does = λ here same below distinct were agrees.
          let p = f.keeps.rises in
          let q = (more (rest_of one.state)).keeps.rises in
          let half : b.starved ≡ a.starved = omega arith in
          let did = f.does here half below distinct were (Agrees-before told.oracle b.verdicts c.verdicts (more (rest_of one.state)).keeps.verdicts agrees) in
          subst P (sym (ended a.quits b.quits (has_end one.acts) going did.quits ∙ on)) (h.does here same below distinct were agrees);
      contains = λ below distinct were agrees.
          let did = (f.contains below distinct were (Agrees-before told.oracle b.verdicts c.verdicts (more (rest_of one.state)).keeps.verdicts agrees)).whole uncut in
          let Q : Bool → Type 0 = λ t. IsContained told a c (cond t one all) in
          subst Q (sym (ended a.quits b.quits (has_end one.acts) going did.quits ∙ on)) (h.contains below distinct were agrees);
    }
