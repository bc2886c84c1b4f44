-- The commands of the start.
use Rattle.std.proofs.Common.{◌≡◌, ℕ, ◌≤◌, zero, suc, length, drop, Bool, true, false, cond, List, [], ◌∷◌, inl, inr, None, refl, ap, sym, subst, ◌∙◌, ◌||◌, arith}
use Rattle.std.specs.Prelude.{map}
use Rattle.wc_core.specs.CoreView.{CoreView}
use Rattle.wc_core.specs.Typed.{lines_of_text}
use Rattle.wc_core.specs.State.{State, Stepped, has_end}
use Rattle.wc_core.specs.Events.{Start}
use Rattle.wc_core.specs.Limits.{first_handle}
use Rattle.wc_core.specs.Step.{core_buffer, then_does, lines_step, commands_step, start_step, step}
use Rattle.wc_core.specs.ServerTyped.{connect_all_step}
use Rattle.wc_board.specs.BoardView.{BoardView}
use Rattle.wc_board.specs.Connections.{leaving_on}
use Rattle.wc_board.specs.Served.{StaysOrStarves}
use Rattle.wc_core.specs.Served.{state_of, or_else, close_of, LeavesBy, Follows, Does}
use Rattle.wc_core.proofs.ChainLemmas.{ClosesNone, later-none}
use Rattle.wc_core.proofs.ChangeCloses.{then-closes}
use Rattle.wc_core.proofs.ServerCloses.{connects_all-closes}
use Rattle.wc_core.proofs.CloseLemmas.{runs-closes, commands-closes}
use Rattle.wc_core.proofs.DidLemmas.{or_else-none, FollowsUnlessStarved-then}
use Rattle.wc_core.proofs.OracleLemmas.{Agrees-before}
use Rattle.wc_core.specs.State.{beside}
use Rattle.std.proofs.lemmas.Bool.{false≢true}
use Rattle.wc_core.specs.Contained.{Runs}
use Rattle.wc_core.specs.Starts.{RunsInput, RunsCommands, RunsStart, Starts, begun_core}
use Rattle.wc_core.specs.BoardSteps.{board_of, BoardSteps, Skips}
use Rattle.wc_world.specs.Handles.{skip_world}
use Rattle.wc_core.proofs.BoardStepLemmas.{steps-one, steps-both}
use Rattle.wc_core.proofs.RunLemmas.{contains-of, counts-of, board-of}

-- a step that closes none, in the place of another one that closes none
stays-by : (j : ℕ) (a b : CoreView) (s : Stepped) → close_of j s.acts ≡ None → LeavesBy (leaving_on j a.connections) (close_of j s.acts) (leaving_on j b.connections) → StaysOrStarves (leaving_on j a.connections) (leaving_on j b.connections)
stays-by j a b s none (inl e) = inl (e ∙ ap (or_else (leaving_on j a.connections)) none ∙ or_else-none (leaving_on j a.connections))
stays-by j a b s none (inr e) = e

-- one after another, of which each may be cut short
Does-then : (a b c : CoreView) (first next : State → Stepped) → ClosesNone first → ClosesNone next → Does a b first → Does b c next → Does a c (λ state. then_does (first state) next)
Does-then a b c first next f_none n_none f g = λ told.
    let one = first (state_of a told) in
    FollowsUnlessStarved-then told a b c one next (later-none b one next (λ j. f_none j (state_of a told)) n_none) (f told) g

ended : (before after end : Bool) → before ≡ false → after ≡ (before || end) → end ≡ after
ended before after end going e = sym (e ∙ ap (λ t. t || end) going)

-- a step that ran `/quit`, before another one
ends-first : (a b : CoreView) (first next : State → Stepped) → ClosesNone first → a.quits ≡ false → b.quits ≡ true → Does a b first → Does a b (λ state. cond (has_end (first state).acts) (first state) (then_does (first state) next))
ends-first a b first next none going quit done = λ told.
    let f = done told in
    let one = first (state_of a told) in
    let P : Bool → Type 0 = λ t. Follows told a b (cond t one (then_does one next)) in
    record {
      keeps = f.keeps;
      causes = λ distinct j. inr (stays-by j a b one (none j (state_of a told)) (f.causes distinct j));
      does = λ same below distinct were agrees.
          let did = f.does same below distinct were agrees in
          subst P (sym (ended a.quits b.quits (has_end one.acts) going did.quits ∙ quit)) did;
    }

-- one that did not, and the other one
goes-on : (a b c : CoreView) (first next : State → Stepped) → ClosesNone first → ClosesNone next → a.quits ≡ false → b.quits ≡ false → Does a b first → Does b c next
    → Does a c (λ state. cond (has_end (first state).acts) (first state) (then_does (first state) next))
goes-on a b c first next none none' going on done more = λ told.
    let f = done told in
    let one = first (state_of a told) in
    let all = then_does one next in
    let h = Does-then a b c first next none none' done more told in
    let g = more (beside one.state) in
    let P : Bool → Type 0 = λ t. Follows told a c (cond t one all) in
    record {
      keeps = h.keeps;
      causes = λ distinct j. inr (stays-by j a c all (then-closes j one next (none j (state_of a told)) (none' j one.state)) (h.causes distinct j));
      does = λ same below distinct were agrees.
          let p = f.keeps.rises in
          let q = g.keeps.rises in
          let half : b.starved ≡ a.starved = omega arith in
          let did = f.does half below distinct were (Agrees-before told.oracle b.verdicts c.verdicts g.keeps.verdicts agrees) in
          subst P (sym (ended a.quits b.quits (has_end one.acts) going did.quits ∙ on)) (h.does same below distinct were agrees);
    }

-- a command that ran `/quit`
pub commands-quit : (a b : CoreView) (command : List ℕ) (commands : List (List ℕ)) → a.quits ≡ false → b.quits ≡ true → Does a b (λ state. lines_step state core_buffer (lines_of_text command)) → Does a b (λ state. commands_step state (command ∷ commands))
commands-quit a b command commands going quit done =
    ends-first a b (λ state. lines_step state core_buffer (lines_of_text command)) (λ next. commands_step next commands) (λ j state. runs-closes j state core_buffer (lines_of_text command)) going quit done

-- a command that did not, and those after it
pub commands-more : (a b c : CoreView) (command : List ℕ) (commands : List (List ℕ)) → a.quits ≡ false → b.quits ≡ false → Does a b (λ state. lines_step state core_buffer (lines_of_text command)) → Does b c (λ state. commands_step state commands)
    → Does a c (λ state. commands_step state (command ∷ commands))
commands-more a b c command commands going on done more =
    goes-on a b c (λ state. lines_step state core_buffer (lines_of_text command)) (λ next. commands_step next commands) (λ j state. runs-closes j state core_buffer (lines_of_text command)) (λ j state. commands-closes j state commands) going on done more

-- the commands of the start ran `/quit`, or servers are connected after them
pub starts-quit : (a b : CoreView) (commands : List (List ℕ)) → a.quits ≡ false → b.quits ≡ true → Does a b (λ state. commands_step state commands) → Does a b (λ state. start_step state commands)
starts-quit a b commands going quit done = ends-first a b (λ state. commands_step state commands) connect_all_step (λ j state. commands-closes j state commands) going quit done

pub starts-more : (a b c : CoreView) (commands : List (List ℕ)) → a.quits ≡ false → b.quits ≡ false → Does a b (λ state. commands_step state commands) → Does b c connect_all_step → Does a c (λ state. start_step state commands)
starts-more a b c commands going on done more =
    goes-on a b c (λ state. commands_step state commands) connect_all_step (λ j state. commands-closes j state commands) (λ j state. connects_all-closes j state) going on done more

-- what the commands of the start begin with, by its parts
abbrev pub with_start : CoreView → BoardView → ℕ → List (List ℕ) → Bool → CoreView
with_start old board moment commands quits = record old { world = board.world; pending = board.pending; connections = board.connections; moment = moment; commands = commands; quits = quits }

start-parts : (old : CoreView) (board : BoardView) (rest : List (List ℕ)) (quit : Bool) (moment handle : ℕ) → handle ≡ first_handle old.options moment → board ≡ record (board_of old) { world = skip_world handle old.world } → rest ≡ [] → quit ≡ false
    → with_start old board moment rest quit ≡ begun_core moment old
start-parts old board rest quit moment handle first skips none going =
    let B : BoardView → CoreView = λ board. with_start old board moment rest quit in
    let H : ℕ → CoreView = λ handle. with_start old (record (board_of old) { world = skip_world handle old.world }) moment rest quit in
    let C : List (List ℕ) → CoreView = λ commands. record (begun_core moment old) { commands = commands; quits = quit } in
    let Q : Bool → CoreView = λ quits. record (begun_core moment old) { quits = quits } in
    ap B skips ∙ ap H first ∙ ap C none ∙ ap Q going

-- the start sets the moment and passes handles over, and its commands are run as if no `/quit` had
-- been run before
pub started : (old new : CoreView) (moment : ℕ) → Does (begun_core moment old) new (λ state. start_step state old.commands) → Does old (record new { quits = new.quits || old.quits }) (λ state. step state (Start moment))
started old new moment done = λ told.
    let f = done told in
    record {
      keeps = record { board = steps-both (board_of old) (board_of (begun_core moment old)) (board_of new) skips f.keeps.board; rises = f.keeps.rises; links = f.keeps.links; kept = f.keeps.kept; saves = f.keeps.saves; servers = f.keeps.servers; verdicts = f.keeps.verdicts };
      causes = f.causes;
      does = λ same below distinct were agrees.
          let g = f.does same below distinct were agrees in
          record { means = record { same = g.means.same; told = g.means.told }; oracle = g.oracle; bytes = g.bytes; leaving = g.leaving; quits = ap (λ t. t || old.quits) g.quits ∙ or-turned _ old.quits; servers = g.servers; parts = g.parts };
    }
  where
    skips : BoardSteps (board_of old) (board_of (begun_core moment old))
    skips = steps-one (board_of old) (board_of (begun_core moment old)) (Skips (record { handle = first_handle old.options moment; put = refl }))

    or-turned : (a b : Bool) → (a || b) ≡ (b || a)
    or-turned true true = refl
    or-turned true false = refl
    or-turned false true = refl
    or-turned false false = refl

pub started-by : (old mid : CoreView) (board : BoardView) (commands rest : List (List ℕ)) (quit' quit : Bool) (moment handle : ℕ) → handle ≡ first_handle old.options moment → board ≡ record (board_of old) { world = skip_world handle old.world } → rest ≡ [] → quit' ≡ false → quit ≡ old.quits → commands ≡ old.commands
    → Does (with_start old board moment rest quit') mid (λ state. start_step state commands) → Does old (record mid { quits = mid.quits || quit }) (λ state. step state (Start moment))
started-by old mid board commands rest quit' quit moment handle first skips none going was same done =
    let P : CoreView → Type 0 = λ core. Does core mid (λ state. start_step state commands) in
    let R : List (List ℕ) → Type 0 = λ commands. Does (begun_core moment old) mid (λ state. start_step state commands) in
    let S : Bool → Type 0 = λ quit. Does old (record mid { quits = mid.quits || quit }) (λ state. step state (Start moment)) in
    subst S (sym was) (started old mid moment (subst R same (subst P (start-parts old board rest quit' moment handle first skips none going) done)))

-- ---- each command as an input of its own

pub runs-input : (a b : CoreView) (step : State → Stepped) → Runs a b step → RunsInput a b step
runs-input a b step run = record { contained = contains-of a b step run; counted = counts-of a b step run; drops = board-of a b step run }

pub command-last : (a b : CoreView) (command : List ℕ) (commands : List (List ℕ)) → b.quits ≡ true → RunsInput a b (λ state. lines_step state core_buffer (lines_of_text command)) → RunsCommands (command ∷ commands) a b
command-last a b command commands quit run = record { mid = b; runs = run; ends = λ same. refl; goes_on = λ on. absurd (false≢true (sym on ∙ quit)) }

pub command-more : (a b c : CoreView) (command : List ℕ) (commands : List (List ℕ)) → b.quits ≡ false → RunsInput a b (λ state. lines_step state core_buffer (lines_of_text command)) → RunsCommands commands b c → RunsCommands (command ∷ commands) a c
command-more a b c command commands on run more = record { mid = b; runs = run; ends = λ quit. absurd (false≢true (sym on ∙ quit)); goes_on = λ same. more }

pub start-last : (a b : CoreView) (commands : List (List ℕ)) → b.quits ≡ true → RunsCommands commands a b → RunsStart commands a b
start-last a b commands quit runs = record { mid = b; runs = runs; ends = λ same. refl; connects = λ on. absurd (false≢true (sym on ∙ quit)) }

pub start-more : (a b c : CoreView) (commands : List (List ℕ)) → b.quits ≡ false → RunsCommands commands a b → Runs b c connect_all_step → RunsStart commands a c
start-more a b c commands on runs run = record { mid = b; runs = runs; ends = λ quit. absurd (false≢true (sym on ∙ quit)); connects = λ same. runs-input b c connect_all_step run }

pub starts-by : (old mid : CoreView) (board : BoardView) (commands rest : List (List ℕ)) (quit' quit : Bool) (moment handle : ℕ) → handle ≡ first_handle old.options moment → board ≡ record (board_of old) { world = skip_world handle old.world } → rest ≡ [] → quit' ≡ false → quit ≡ old.quits → commands ≡ old.commands
    → RunsStart commands (with_start old board moment rest quit') mid → Starts moment old (record mid { quits = mid.quits || quit })
starts-by old mid board commands rest quit' quit moment handle first skips none going was same done =
    let P : CoreView → Type 0 = λ core. RunsStart commands core mid in
    let R : List (List ℕ) → Type 0 = λ commands. RunsStart commands (begun_core moment old) mid in
    let F : Bool → CoreView = λ quit. record mid { quits = mid.quits || quit } in
    record { last = mid; runs = subst R same (subst P (start-parts old board rest quit' moment handle first skips none going) done); put = ap F was }

abbrev nothing : (X : Type 0) → List X
nothing X = []

drop_empty : (X : Type 0) (i : ℕ) → drop i (nothing X) ≡ nothing X
drop_empty X zero = refl
drop_empty X (suc i) = refl

pub drop_past : {X : Type 0} (i : ℕ) (xs : List X) → length xs ≤ i → drop i xs ≡ []
drop_past {X} i [] e = drop_empty X i
drop_past zero (x ∷ xs) e = absurd (omega (arith, e))
drop_past (suc i) (x ∷ xs) e = drop_past i xs (omega (arith, e))

pub none-of : {X Y : Type 0} (f : X → Y) (xs : List X) → map f xs ≡ [] → length xs ≡ 0
none-of f [] e = refl
none-of f (x ∷ xs) e = absurd (omega (arith, ap length e))

-- a start without commands sets the moment and passes handles over
pub idle-by : (old now mid : CoreView) (board : BoardView) (rest : List (List ℕ)) (quit' quit : Bool) (moment handle : ℕ) → old ≡ now → handle ≡ first_handle old.options moment → board ≡ record (board_of old) { world = skip_world handle old.world } → rest ≡ [] → quit' ≡ false → quit ≡ old.quits → now.commands ≡ []
    → mid ≡ with_start old board moment rest quit' → record mid { quits = mid.quits || quit } ≡ record now { world = skip_world (first_handle now.options moment) now.world; moment = moment }
idle-by old now mid board rest quit' quit moment handle is first skips none going was empty same =
    let F : CoreView → CoreView = λ core. record core { quits = core.quits || quit } in
    let H : Bool → CoreView = λ quits. record (begun_core moment old) { quits = quits } in
    let J : CoreView → CoreView = λ core. record core { world = skip_world (first_handle core.options moment) core.world; moment = moment } in
    let I : List (List ℕ) → CoreView = λ commands. record (J old) { commands = commands } in
    ap F (same ∙ start-parts old board rest quit' moment handle first skips none going) ∙ ap H was ∙ ap I (sym (ap (λ (core : CoreView). core.commands) is ∙ empty)) ∙ ap J is
