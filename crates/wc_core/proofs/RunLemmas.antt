-- How steps that are run follow one another, whatever memory is refused.
use Rattle.std.proofs.Common.{◌≡◌, ℕ, ◌-◌, ◌^◌, ◌<◌, ◌||◌, Bool, true, false, List, [], ◌∷◌, ◌++◌, append-nil, map, inl, inr, Option, Some, None, refl, ap, sym, subst, ◌∙◌, arith}
use Rattle.wc_session.specs.declared.client.Client.{Client}
use Rattle.wc_board.specs.Connections.{leaving_on}
use Rattle.wc_eval.specs.Verdicts.{Oracle, Agrees}
use Rattle.wc_servers.specs.Outs.{Out, ServersFollow}
use Rattle.wc_servers.proofs.OutLemmas.{ServersFollow-refl, ServersFollow-trans}
use Rattle.wc_core.specs.BoardSteps.{board_of, StepsBy}
use Rattle.wc_core.specs.CoreView.{CoreView}
use Rattle.wc_core.specs.State.{State, beside, Stage, Stepped, has_end}
use Rattle.wc_core.specs.Changing.{after_out, way_after}
use Rattle.wc_core.specs.Step.{no_step, then_does}
use Rattle.wc_core.specs.Served.{links_of, clients_of, state_of, WereTold, close_of, or_else, outs_of, Distinct, LeavesBy, Follows, KeepsClients, Does}
use Rattle.wc_core.specs.Served.{plain_beside}
use Rattle.wc_core.specs.Contained.{Rest, rest_of, beside_in, rest_in, state_with, Holds, first_stage, last_stage, IsOn, IsDone, IsContained, Contains, Counts, RunsBy, RunsAt, RunsFor, Runs, RunsHere, RanOutFor}
use Rattle.wc_core.proofs.BoardStepLemmas.{by-any, by-both, by-same}
use Rattle.wc_core.proofs.OracleLemmas.{Agrees-before}
use Rattle.wc_core.proofs.CountLemmas.{Counts-refl, Counts-trans}
use Rattle.wc_core.proofs.DidLemmas.{or-false, leaves-none, has_end-append, outs_of-append, or-assoc, KeepsClients-refl, KeepsClients-trans, Follows-stays, Follows-then, ClosesLater, causes-then}
use Rattle.std.proofs.lemmas.Bool.{false≢true}

-- ---- the way of a step

pub IsOn-begin : (first : Stage) (way : List Stage) → IsOn first first way
IsOn-begin first [] = refl
IsOn-begin first (next ∷ way) = inl refl

-- what is on the way is on a longer one
pub IsOn-first : (s first : Stage) (way more : List Stage) → IsOn s first way → IsOn s first (way ++ more)
IsOn-first s first [] [] e = e
IsOn-first s first [] (next ∷ more) e = inl e
IsOn-first s first (next ∷ way) more (inl e) = inl e
IsOn-first s first (next ∷ way) more (inr on) = inr (IsOn-first s next way more on)

-- what is on a way is on the same one after another
IsOn-later : (s first next : Stage) (way more : List Stage) → IsOn s next more → IsOn s first (way ++ next ∷ more)
IsOn-later s first next [] more on = inr on
IsOn-later s first next (n ∷ way) more on = inr (IsOn-later s n next way more on)

-- a way that begins on another one
IsOn-then : (s m first : Stage) (way more : List Stage) → IsOn m first way → IsOn s m more → IsOn s first (way ++ more)
IsOn-then s m first [] more e on = let P : Stage → Type 0 = λ m. IsOn s m more in subst P e on
IsOn-then s m first (n ∷ way) [] (inl e) on = inl (on ∙ e)
IsOn-then s m first (n ∷ way) (x ∷ more) (inl e) (inl same) = inl (same ∙ e)
IsOn-then s m first (n ∷ way) (x ∷ more) (inl e) (inr on) = inr (IsOn-later s n x way more on)
IsOn-then s m first (n ∷ way) more (inr at) on = inr (IsOn-then s m n way more at on)

-- the same way after more went out
abbrev after_outs : List Out → Stage → Stage
after_outs outs s = record { state = s.state; outs = outs ++ s.outs }

on-out : (out : Out) (s first : Stage) (way : List Stage) → IsOn s first way → IsOn (after_out out s) (after_out out first) (map (after_out out) way)
on-out out s first [] e = ap (after_out out) e
on-out out s first (n ∷ way) (inl e) = inl (ap (after_out out) e)
on-out out s first (n ∷ way) (inr on) = inr (on-out out s n way on)

on-outs : (outs : List Out) (s first : Stage) (way : List Stage) → IsOn s first way → IsOn (after_outs outs s) (after_outs outs first) (way_after outs way)
on-outs [] s first way on = on
on-outs (out ∷ outs) s first way on = on-out out (after_outs outs s) (after_outs outs first) (way_after outs way) (on-outs outs s first way on)

-- what is on the way of the second of two steps
on-second : (s : Stage) (from : State) (first : Stepped) (next : State → Stepped) → IsOn (last_stage first) (first_stage from) first.way → IsOn s (first_stage first.state) (next first.state).way → IsOn (after_outs (outs_of first.acts) s) (first_stage from) (then_does first next).way
on-second s from first next one two =
    let outs = outs_of first.acts in
    let more = way_after outs (next first.state).way in
    let S : List Out → Stage = λ outs. record { state = first.state; outs = outs } in
    let P : Stage → Type 0 = λ m. IsOn (after_outs outs s) m more in
    IsOn-then (after_outs outs s) (last_stage first) (first_stage from) first.way more one (subst P (ap S (append-nil outs)) (on-outs outs s (first_stage first.state) (next first.state).way two))

-- ---- nothing is done

pub Holds-same : (a : CoreView) (told : Rest) → WereTold a (beside_in told) → Holds a (state_with a told)
Holds-same a told were = record { same = refl; told = were }

pub done-none : (told : Rest) (a : CoreView) → WereTold a (beside_in told) → IsDone told a a (no_step (state_with a told))
done-none told a were = record { holds = Holds-same a told were; is_on = refl; oracle = refl; quits = sym (or-false a.quits); servers = ServersFollow-refl a.servers }

pub contained-none : (told : Rest) (a : CoreView) → WereTold a (beside_in told) → IsContained told a a (no_step (state_with a told))
contained-none told a were = record { whole = λ same. done-none told a were; part = record { stage = first_stage (state_with a told); is_on = refl; holds = Holds-same a told were; servers = ServersFollow-refl a.servers }; quits = λ over. or-false a.quits ∙ over }

-- ---- a step of which no growth was refused

pub RunsAt-exact : {own : Option ℕ} → (told : Rest) (a b : CoreView) (of : List Client → Stepped) → KeepsClients a b → StepsBy own (board_of a) (board_of b) → Counts 0 a b
    → (Distinct (links_of a) → (j : ℕ) → leaving_on j b.connections ≡ or_else (leaving_on j a.connections) (close_of j (of (clients_of a.connections)).acts))
    → (Distinct (links_of a) → WereTold a (beside_in told) → Follows (beside_in told) a b (of (clients_of a.connections)))
    → (Distinct (links_of a) → WereTold a (beside_in told) → IsDone told a b (of told.clients)) → RunsBy own told a b (of told.clients)
RunsAt-exact told a b of keeps board counts leaves did done = record {
  keeps = keeps;
  board = board;
  counts = counts;
  causes = λ here distinct j.
      let P : List Client → Type 0 = λ clients. LeavesBy (leaving_on j a.connections) (close_of j (of clients).acts) (leaving_on j b.connections) in
      subst P (sym here) (inl (leaves distinct j));
  does = λ here same below distinct were agrees.
      let P : List Client → Type 0 = λ clients. Follows (beside_in told) a b (of clients) in
      subst P (sym here) (did distinct were);
  contains = λ below distinct were agrees. record {
    whole = λ same. done distinct were;
    part = record { stage = last_stage (of told.clients); is_on = (done distinct were).is_on; holds = (done distinct were).holds; servers = (done distinct were).servers };
    quits = λ over. sym (done distinct were).quits ∙ over;
  };
}

pub Runs-stays : {own : Option ℕ} → (a : CoreView) → RunsFor own a a no_step
Runs-stays a = λ told.
    let of : List Client → Stepped = λ clients. no_step (record (state_with a told) { clients = clients }) in
    RunsAt-exact told a a of (KeepsClients-refl a) (by-same (board_of a) (board_of a) refl) (Counts-refl a) (λ distinct. leaves-none a (of (clients_of a.connections)) (λ j. refl)) (λ distinct were. Follows-stays (beside_in told) a were) (λ distinct were. done-none told a were)

pub or-more : (a b c : Bool) → (b ≡ true → c ≡ true) → (a || b) ≡ true → (a || c) ≡ true
or-more true b c more e = refl
or-more false b c more e = more e

-- ---- memory was refused at the begin

pub RunsAt-short : {own : Option ℕ} → (told : Rest) (a b : CoreView) (stepped : Stepped) (ends : Bool) (outs : List Out) → (ends ≡ true → has_end stepped.acts ≡ true) → IsOn (record { state = state_with a told; outs = outs }) (first_stage (state_with a told)) stepped.way
    → RanOutFor own ends outs a b → RunsBy own told a b stepped
RunsAt-short told a b stepped ends outs reaches on f = record {
  keeps = f.keeps;
  board = f.board;
  counts = f.counts;
  causes = λ here distinct j. inr (f.causes distinct j);
  does = λ here same below distinct were agrees. (let more = f.counted below in absurd (omega arith));
  contains = λ below distinct were agrees. record {
    whole = λ same. (let more = f.cut below in absurd (omega (arith, more, same)));
    part = record { stage = record { state = state_with a told; outs = outs }; is_on = on; holds = f.holds told were; servers = f.servers };
    quits = λ over. or-more a.quits ends (has_end stepped.acts) reaches (sym f.quits ∙ over);
  };
}

pub RunsAt-starved : {own : Option ℕ} → (told : Rest) (a b : CoreView) (stepped : Stepped) → RanOutFor own false [] a b → RunsBy own told a b stepped
RunsAt-starved told a b stepped f = RunsAt-short told a b stepped false [] (λ q. absurd (false≢true q)) (IsOn-begin (first_stage (state_with a told)) stepped.way) f

pub Runs-starved : {own : Option ℕ} → (a b : CoreView) (step : State → Stepped) → RanOutFor own false [] a b → RunsFor own a b step
Runs-starved a b step f = λ told. RunsAt-starved told a b (step (state_with a told)) f

-- ---- one step after another

-- all of two steps is done
IsDone-then : (told : Rest) (a b c : CoreView) (first : Stepped) (next : State → Stepped) → IsDone told a b first → IsDone (rest_of first.state) b c (next first.state) → first.state ≡ state_with b (rest_of first.state) → IsDone told a c (then_does first next)
IsDone-then told a b c first next f g same =
    let second = next first.state in
    record {
      holds = g.holds;
      is_on =
          let P : State → Type 0 = λ s. IsOn (last_stage second) (first_stage s) second.way in
          let S : List Out → Stage = λ outs. record { state = second.state; outs = outs } in
          let Q : Stage → Type 0 = λ s. IsOn s (first_stage (state_with a told)) (then_does first next).way in
          subst Q (ap S (sym (outs_of-append first.acts second.acts))) (on-second (last_stage second) (state_with a told) first next f.is_on (subst P (sym same) g.is_on));
      oracle = g.oracle ∙ f.oracle;
      quits = g.quits ∙ ap (λ t. t || has_end second.acts) f.quits ∙ or-assoc a.quits (has_end first.acts) (has_end second.acts) ∙ ap (λ t. a.quits || t) (sym (has_end-append first.acts second.acts));
      servers = (let Q : List Out → Type 0 = λ outs. ServersFollow a.servers c.servers outs in subst Q (sym (outs_of-append first.acts second.acts)) (ServersFollow-trans a.servers b.servers c.servers (outs_of first.acts) (outs_of second.acts) f.servers g.servers));
    }

-- the first of them was not cut short
pub RunsAt-then : {own : Option ℕ} → (told : Rest) (a b c : CoreView) (first : Stepped) (next : State → Stepped) → ClosesLater b first next → b.cuts ≡ a.cuts → RunsBy own told a b first → RunsFor own b c next → RunsBy own told a c (then_does first next)
RunsAt-then {own} told a b c first next closes uncut f run = record {
  keeps = KeepsClients-trans a b c f.keeps g.keeps;
  board = by-both (board_of a) (board_of b) (board_of c) f.board g.board;
  counts = Counts-trans a b c f.counts g.counts;
  causes = λ here distinct j.
      let own : Rest = record (rest_of first.state) { clients = clients_of b.connections } in
      causes-then a b c first next j closes g.keeps (f.causes here distinct j) ((run own).causes refl (subst Distinct (sym f.keeps.links) distinct) j);
  does = λ here same below distinct were agrees.
      let p = f.keeps.rises in
      let q = g.keeps.rises in
      let half : b.starved ≡ a.starved = omega arith in
      let rest : c.starved ≡ b.starved = omega arith in
      let before = f.does here half below distinct were (Agrees-before told.oracle b.verdicts c.verdicts g.keeps.verdicts agrees) in
      let P : Oracle → Type 0 = λ oracle. Agrees oracle c.verdicts in
      let e = before.means.same in
      let after = g.does (ap (λ (s : State). s.clients) e) rest (omega arith) (subst Distinct (sym f.keeps.links) distinct) before.means.told (subst P (sym before.oracle) agrees) in
      let F : State → State = λ s. record (state_of b (beside first.state)) { clients = s.clients } in
      let Q : State → Type 0 = λ s. Follows (beside first.state) b c (next s) in
      Follows-then (beside_in told) a b c first next f.keeps.servers before (subst Q (ap F e) after);
  contains = λ below distinct were agrees. both below distinct were agrees;
} where
  g : RunsBy own (rest_of first.state) b c (next (state_with b (rest_of first.state)))
  g = run (rest_of first.state)

  both : a.cuts < 2 ^ 64 - 1 → Distinct (links_of a) → WereTold a (beside_in told) → Agrees told.oracle c.verdicts → IsContained told a c (then_does first next)
  both below distinct were agrees =
      let early = Agrees-before told.oracle b.verdicts c.verdicts g.keeps.verdicts agrees in
      let one = (f.contains below distinct were early).whole uncut in
      let P : Oracle → Type 0 = λ oracle. Agrees oracle c.verdicts in
      let two = g.contains (omega (arith, below, uncut)) (subst Distinct (sym f.keeps.links) distinct) one.holds.told (subst P (sym one.oracle) agrees) in
      let Q : State → Type 0 = λ s. IsContained (rest_of first.state) b c (next s) in
      let more = subst Q (sym one.holds.same) two in
      let R : State → Type 0 = λ s. IsOn more.part.stage (first_stage s) (next first.state).way in
      record {
        whole = λ same. IsDone-then told a b c first next one (more.whole (omega (arith, same, uncut))) one.holds.same;
        part = record {
          stage = after_outs (outs_of first.acts) more.part.stage;
          is_on = on-second more.part.stage (state_with a told) first next one.is_on (subst R (sym one.holds.same) more.part.is_on);
          holds = more.part.holds;
          servers = ServersFollow-trans a.servers b.servers c.servers (outs_of first.acts) more.part.stage.outs one.servers more.part.servers;
        };
        quits = λ over.
            ap (λ t. a.quits || t) (has_end-append first.acts (next first.state).acts) ∙ sym (or-assoc a.quits (has_end first.acts) (has_end (next first.state).acts)) ∙ ap (λ t. t || has_end (next first.state).acts) (sym one.quits)
            ∙ more.quits over;
      }

-- ---- for whom

-- what is done for no client is so whoever is served
pub RunsBy-any : (own : Option ℕ) (told : Rest) (a b : CoreView) (stepped : Stepped) → RunsAt told a b stepped → RunsBy own told a b stepped
RunsBy-any own told a b stepped f = record { keeps = f.keeps; board = by-any own (board_of a) (board_of b) f.board; counts = f.counts; causes = f.causes; does = f.does; contains = f.contains }

pub RunsFor-any : (own : Option ℕ) (a b : CoreView) (step : State → Stepped) → Runs a b step → RunsFor own a b step
RunsFor-any own a b step f = λ told. RunsBy-any own told a b (step (state_with a told)) (f told)

-- ---- what is known of a step that was run

pub does-of : (a b : CoreView) (step : State → Stepped) → Runs a b step → Does a b step
does-of a b step run = λ told.
    let f = run (rest_in a told) in
    record { keeps = f.keeps; causes = λ distinct j. f.causes refl distinct j; does = λ same below distinct were agrees. f.does refl same below distinct were agrees }

pub contains-of : (a b : CoreView) (step : State → Stepped) → Runs a b step → Contains a b step
contains-of a b step run = λ told below distinct were agrees. (run (rest_in a told)).contains below distinct were agrees

pub here-of : (k : ℕ) (a b : CoreView) (step : State → Stepped) → RunsFor (Some k) a b step → RunsHere k a b step
here-of k a b step run = λ told. run (rest_in a told)

pub does-here : (k : ℕ) (a b : CoreView) (step : State → Stepped) → RunsHere k a b step → Does a b step
does-here k a b step run = λ told.
    let f = run told in
    record { keeps = f.keeps; causes = λ distinct j. f.causes refl distinct j; does = λ same below distinct were agrees. f.does refl same below distinct were agrees }

pub contains-here : (k : ℕ) (a b : CoreView) (step : State → Stepped) → RunsHere k a b step → Contains a b step
contains-here k a b step run = λ told below distinct were agrees. (run told).contains below distinct were agrees

pub counts-of : (a b : CoreView) (step : State → Stepped) → Runs a b step → Counts 0 a b
counts-of a b step run = (run (rest_in a (plain_beside a))).counts

pub counts-here : (k : ℕ) (a b : CoreView) (step : State → Stepped) → RunsHere k a b step → Counts 0 a b
counts-here k a b step run = (run (plain_beside a)).counts

pub board-of : (a b : CoreView) (step : State → Stepped) → Runs a b step → StepsBy None (board_of a) (board_of b)
board-of a b step run = (run (rest_in a (plain_beside a))).board

pub board-here : (k : ℕ) (a b : CoreView) (step : State → Stepped) → RunsHere k a b step → StepsBy (Some k) (board_of a) (board_of b)
board-here k a b step run = (run (plain_beside a)).board
