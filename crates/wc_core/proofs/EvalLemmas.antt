-- A text is evaluated, and then something is done with its value.
use Rattle.std.proofs.Common.{◌≡◌, ◌||◌, codes, Result, Ok, Err, IfOk, ℕ, ◌+◌, ◌-◌, ◌^◌, min, ◌<◌, ◌≤◌, Bool, true, false, cond, List, inl, inr, Option, None, IsUtf8, refl, ap, sym, subst, ◌∙◌, arith, zero, suc, [], ◌∷◌, Some, option_map, All, length, length-append, IfSome, decimal, nat_lt}
use Rattle.std.specs.Prelude.{unwrap_or, position}
use Rattle.std.specs.Str.{is_utf8}
use Rattle.std.proofs.lemmas.Str.{is_utf8-from_IsUtf8, IsUtf8-nil, IsUtf8-from_ascii}
use Rattle.wc_text.specs.declared.names.Cause.{Cause}
use Rattle.wc_text.specs.declared.names.Handle.{Handle}
use Rattle.wc_outside.specs.Keyed.{at_key}
use Rattle.wc_board.specs.Connections.{connection_link, leaving_on}
use Rattle.wc_board.specs.Served.{StaysOrStarves}
use Rattle.wc_servers.specs.Outs.{ServersFollow}
use Rattle.wc_servers.specs.Seats.{ServersView}
use Rattle.wc_core.specs.CoreView.{CoreView}
use Rattle.wc_core.specs.BoardSteps.{board_of}
use Rattle.wc_core.proofs.BoardStepLemmas.{steps-same, by-both, by-same}
use Rattle.wc_core.specs.Evaluated.{value_at, holds_at, answer_text, printed_value, buffer_or_core, number_text, facts_by, facts_of_buffer, locals_of_buffer, facts_at}
use Rattle.wc_core.specs.Inputs.{Judges, Values}
use Rattle.wc_core.specs.State.{State, Beside, Stepped}
use Rattle.wc_core.specs.Step.{no_step, ask_step, run_value, input_at, evaluation_at, evaluated_by, plain_step}
use Rattle.wc_core.specs.Served.{WereTold, close_of, Distinct, Follows, KeepsClients, links_of, clients_of}
use Rattle.wc_core.proofs.ChainLemmas.{stays-by}
use Rattle.wc_core.proofs.ChangeCloses.{asks-closes, closes_none-if}
use Rattle.wc_core.proofs.CloseLemmas.{input_at-closes}
use Rattle.wc_core.proofs.CoreLemmas.{starves-only}
use Rattle.wc_core.proofs.DidLemmas.{KeepsClients-trans, servers-same}
use Rattle.wc_core.proofs.OracleLemmas.{Agrees-before}
use Rattle.wc_core.specs.Typed.{typed_line, evaluation_of}
use Rattle.wc_core.specs.EvaluatedSeen.{facts_around, IsAround}
use Rattle.wc_core.specs.declared.evaluated.Surroundings.{Surroundings}
use Rattle.wc_eval.specs.Names.{Facts, HasText, AreTexts}
use Rattle.wc_eval.specs.Meaning.{text_value, condition_holds}
use Rattle.wc_eval.specs.Verdicts.{Oracle, Agrees, VerdictsView, Stay}
use Rattle.wc_options.specs.Options.{OptionsValue}
use Rattle.wc_buffers.specs.Calls.{EntryGroups, entry_of, number, handle_of}
use Rattle.wc_buffers.specs.declared.row.BufferEntry.{BufferEntry}
use Rattle.wc_buffers.specs.Vars.{pair}
use Rattle.wc_buffers.specs.Kept.{AreBuffers, AreVars}
use Rattle.wc_text.specs.declared.names.Pair.{Pair}
use Rattle.std.proofs.lemmas.List.Elements.{All-nil, All-cons}
use Rattle.wc_core.specs.declared.typed_eval.EvalUse.{EvalUse}
use Rattle.wc_core.specs.declared.typed_eval.EvalUse.TheVariants as eval
use Rattle.wc_buffers.specs.Groups.{AllFilled, rows, place, in_group}
use Rattle.std.proofs.lemmas.Fmt.{IsAscii-decimal}
use Rattle.std.specs.List.{position_or_len}
use Rattle.std.proofs.lemmas.Bool.Decides.{nat_tests}
use Rattle.wc_core.specs.Contained.{Rest, state_with, RunsAt, Runs, Counts, Holds, IsContained, beside_in, starving_number}
use Rattle.wc_core.proofs.RunLemmas.{Runs-starved, Runs-stays}
use Rattle.wc_core.proofs.CountLemmas.{Counts-trans, counts-none}

-- where verdicts alone are others, all clients stay
pub keeps-judged : (a b : CoreView) → Judges a b → KeepsClients a b
keeps-judged a b judges = record {
  board = steps-same a b (ap board_of judges.only);
  rises = (let e = ap (λ (c : CoreView). c.starved) judges.only in omega arith);
  links = ap (λ (c : CoreView). links_of c) judges.only;
  kept = λ j some. ap (λ (c : CoreView). at_key connection_link j c.connections) judges.only;
  saves = inl (ap (λ (c : CoreView). c.unwritten) judges.only, ap (λ (c : CoreView). c.saved) judges.only);
  servers = servers-same a b (ap (λ (c : CoreView). c.servers) judges.only);
  verdicts = judges.stay;
}

-- what a call judged that had the verdicts alone
pub judges-by : (a : CoreView) (verdicts : VerdictsView) → Stay a.verdicts verdicts → Judges a (record a { verdicts = verdicts })
judges-by a verdicts stay = record { only = refl; stay = stay }

-- what was found for some facts was found for the same ones
pub found-as : {X : Type 0} (of : Facts → Oracle → X) (some same : Facts) (verdicts : VerdictsView) (value : X) → some ≡ same → ((oracle : Oracle) → Agrees oracle verdicts → value ≡ of some oracle) → (oracle : Oracle) → Agrees oracle verdicts → value ≡ of same oracle
found-as of some same verdicts value e found oracle agrees = found oracle agrees ∙ ap (λ facts. of facts oracle) e

-- what follows a core follows one that has other verdicts and is else the same
follows-judged : (told : Beside) (a b c : CoreView) (stepped : Stepped) → b ≡ record a { verdicts = b.verdicts } → Follows told b c stepped → Follows told a c stepped
follows-judged told a b c stepped only f =
    let P : CoreView → Type 0 = λ core. Follows told core c stepped in
    let g : Follows told (record a { verdicts = b.verdicts }) c stepped = subst P only f in
    record { means = g.means; oracle = g.oracle; bytes = g.bytes; leaving = g.leaving; quits = g.quits; servers = g.servers; parts = g.parts }

contained-judged : (told : Rest) (a b c : CoreView) (stepped : Stepped) → b ≡ record a { verdicts = b.verdicts } → IsContained told b c stepped → IsContained told a c stepped
contained-judged told a b c stepped only f =
    let P : CoreView → Type 0 = λ core. IsContained told core c stepped in
    let g : IsContained told (record a { verdicts = b.verdicts }) c stepped = subst P only f in
    record { whole = λ same. (let d = g.whole same in record { holds = d.holds; is_on = d.is_on; oracle = d.oracle; quits = d.quits; servers = d.servers }); part = record { stage = g.part.stage; is_on = g.part.is_on; holds = g.part.holds; servers = g.part.servers }; quits = g.quits }

counts-judged : (a b c : CoreView) → b ≡ record a { verdicts = b.verdicts } → Counts 0 b c → Counts 0 a c
counts-judged a b c only f = Counts-trans a b c (counts-none a b (ap (λ (core : CoreView). starving_number core.connections) only) (ap (λ (core : CoreView). core.starved) only) (ap (λ (core : CoreView). core.cuts) only)) f

-- a text is judged, and what is done with the value is done with what the text comes to in the state before
pub Runs-judged : {X : Type 0} (a b c : CoreView) (value : X) (of : State → X) (step : State → X → Stepped) → ((j : ℕ) (state : State) (x : X) → close_of j (step state x).acts ≡ None) → Judges a b → Values a b value of → Runs b c (λ state. step state value)
    → Runs a c (λ state. step state (of state))
Runs-judged {X} a b c value of step none judges values done = λ told.
    let g = done told in
    let before = state_with a told in
    let links = sym (keeps-judged a b judges).links in
    let P : CoreView → Type 0 = λ core. WereTold core (beside_in told) in
    let R : CoreView → Type 0 = λ core. Follows (beside_in told) b c (step (state_with core told) value) in
    let S : X → Type 0 = λ x. Follows (beside_in told) b c (step before x) in
    let T : CoreView → Type 0 = λ core. IsContained told b c (step (state_with core told) value) in
    let U : X → Type 0 = λ x. IsContained told b c (step before x) in
    let clients = ap (λ (core : CoreView). clients_of core.connections) judges.only in
    record {
      keeps = KeepsClients-trans a b c (keeps-judged a b judges) g.keeps;
      board = by-both (board_of a) (board_of b) (board_of c) (by-same (board_of a) (board_of b) (ap board_of judges.only)) g.board;
      counts = counts-judged a b c judges.only g.counts;
      causes = λ here distinct j.
          let later : StaysOrStarves (leaving_on j b.connections) (leaving_on j c.connections) =
          stays-by b c j (close_of j (step (state_with b told) value).acts) (none j (state_with b told) value) (g.causes (here ∙ sym clients) (subst Distinct links distinct) j) in
          let V : Option Cause → Type 0 = λ o. StaysOrStarves o (leaving_on j c.connections) in
          inr (subst V (ap (λ (core : CoreView). leaving_on j core.connections) judges.only) later);
      does = λ here same below distinct were agrees.
          let e = ap (λ (core : CoreView). core.starved) judges.only in
          let half : c.starved ≡ b.starved = omega (arith, same, e) in
          let under : b.starved < 2 ^ 64 - 1 = omega (arith, below, e) in
          let agreed = Agrees-before told.oracle b.verdicts c.verdicts g.keeps.verdicts agrees in
          let did = g.does (here ∙ sym clients) half under (subst Distinct links distinct) (subst P (sym judges.only) were) agrees in
          follows-judged (beside_in told) a b c (step before (of before)) judges.only (subst S (values told agreed) (subst R judges.only did));
      contains = λ below distinct were agrees.
          let e = ap (λ (core : CoreView). core.cuts) judges.only in
          let agreed = Agrees-before told.oracle b.verdicts c.verdicts g.keeps.verdicts agrees in
          let is = g.contains (omega (arith, below, e)) (subst Distinct links distinct) (subst P (sym judges.only) were) agrees in
          contained-judged told a b c (step before (of before)) judges.only (subst U (values told agreed) (subst T judges.only is));
    }

-- want of memory after texts were judged
pub judged-starves : (a b c : CoreView) (step : State → Stepped) → Judges a b → c ≡ record b { starved = min (b.starved + 1) (2 ^ 64 - 1); cuts = min (b.cuts + 1) (2 ^ 64 - 1) } → b.starved ≤ c.starved → Runs a c step
judged-starves a b c step judges counts rises =
    let starves = starves-only b c counts rises in
    let e = ap (λ (core : CoreView). core.starved) judges.only in
    let cuts = ap (λ (core : CoreView). core.cuts) judges.only in
    Runs-starved a c step (record {
      keeps = KeepsClients-trans a b c (keeps-judged a b judges) starves.keeps;
      board = by-both (board_of a) (board_of b) (board_of c) (by-same (board_of a) (board_of b) (ap board_of judges.only)) starves.board;
      counts = counts-judged a b c judges.only starves.counts;
      causes = λ distinct j.
          let T : Option Cause → Type 0 = λ o. StaysOrStarves o (leaving_on j c.connections) in
          subst T (ap (λ (core : CoreView). leaving_on j core.connections) judges.only) (starves.causes (subst Distinct (sym (keeps-judged a b judges).links) distinct) j);
      counted = λ below. (let more = starves.counted (omega (arith, below, e)) in omega (arith, more, e));
      cut = λ below. (let more = starves.cut (omega (arith, below, cuts)) in omega (arith, more, cuts));
      quits = starves.quits ∙ ap (λ (core : CoreView). core.quits || false) judges.only;
      servers = (let V : ServersView → Type 0 = λ v. ServersFollow v c.servers [] in subst V (ap (λ (core : CoreView). core.servers) judges.only) starves.servers);
      holds = λ told were.
          let P : CoreView → Type 0 = λ core. WereTold core (beside_in told) in
          let Q : CoreView → Type 0 = λ core. Holds c (state_with core told) in
          subst Q judges.only (starves.holds told (subst P (sym judges.only) were));
    })

-- ---- the three forms

value-closes : (n : ℕ) (buffer : Handle) (j : ℕ) (state : State) (value : List ℕ) → close_of j (run_value (input_at n) state buffer value).acts ≡ None
value-closes n buffer j state value = closes_none-if j (is_utf8 value) (input_at n state buffer value) (no_step state) (input_at-closes n j state buffer value) refl

pub runs-value : (a b c : CoreView) (n : ℕ) (buffer : Handle) (text value : List ℕ) → Judges a b → Values a b value (λ state. value_at state buffer text) → IsUtf8 value → Runs b c (λ state. input_at n state buffer value)
    → Runs a c (λ state. run_value (input_at n) state buffer (value_at state buffer text))
runs-value a b c n buffer text value judges values utf8 done =
    Runs-judged a b c value (λ state. value_at state buffer text) (λ state value. run_value (input_at n) state buffer value) (value-closes n buffer) judges values (λ told.
    let before = state_with b told in
    let P : Bool → Type 0 = λ t. RunsAt told b c (cond t (input_at n before buffer value) (no_step before)) in
    subst P (sym (is_utf8-from_IsUtf8 value utf8)) (done told))

pub prints-value : (a b c : CoreView) (buffer : Handle) (text value : List ℕ) → Judges a b → Values a b value (λ state. value_at state buffer text) → Runs b c (λ state. ask_step state (printed_value state.moment value))
    → Runs a c (λ state. ask_step state (printed_value state.moment (value_at state buffer text)))
prints-value a b c buffer text value judges values done =
    Runs-judged a b c value (λ state. value_at state buffer text) (λ state value. ask_step state (printed_value state.moment value)) (λ j state value. asks-closes j state (printed_value state.moment value)) judges values done

pub prints-answer : (a b c : CoreView) (buffer : Handle) (text : List ℕ) (holds : Bool) → Judges a b → Values a b holds (λ state. holds_at state buffer text) → Runs b c (λ state. ask_step state (printed_value state.moment (answer_text holds)))
    → Runs a c (λ state. ask_step state (printed_value state.moment (answer_text (holds_at state buffer text))))
prints-answer a b c buffer text holds judges values done =
    Runs-judged a b c holds (λ state. holds_at state buffer text) (λ state holds. ask_step state (printed_value state.moment (answer_text holds))) (λ j state holds. asks-closes j state (printed_value state.moment (answer_text holds))) judges values done

-- ---- the forms by their number of levels

-- a line that evaluates a text
pub evaluates : (a b : CoreView) (levels : ℕ) (buffer : Handle) (line : List ℕ) (usage : EvalUse) (text : List ℕ) → Some (usage, text) ≡ evaluation_of (typed_line line) → Runs a b (λ state. evaluation_at levels state buffer usage text)
    → Runs a b (λ state. input_at levels state buffer line)
evaluates a b levels buffer line usage text e done = λ told.
    let P : Option (EvalUse × List ℕ) → Type 0 = λ o. RunsAt told a b (evaluated_by (evaluation_at levels) (state_with a told) buffer line o) in
    subst P e (done told)

-- a line that evaluates none
pub evaluates-not : (a b : CoreView) (levels : ℕ) (buffer : Handle) (line : List ℕ) → None ≡ evaluation_of (typed_line line) → Runs a b (λ state. plain_step state buffer line) → Runs a b (λ state. input_at levels state buffer line)
evaluates-not a b levels buffer line e done = λ told.
    let P : Option (EvalUse × List ℕ) → Type 0 = λ o. RunsAt told a b (evaluated_by (evaluation_at levels) (state_with a told) buffer line o) in
    subst P e (done told)

-- inside as many others as may be
pub evaluates-none : (a : CoreView) (levels : ℕ) (buffer : Handle) (usage : EvalUse) (text : List ℕ) → levels ≡ 0 → Runs a a (λ state. evaluation_at levels state buffer usage text)
unfolding evaluation_at
evaluates-none a zero buffer usage text e = Runs-stays a
evaluates-none a (suc levels) buffer usage text e = absurd (omega (arith, e))

pub evaluates-run : (a b : CoreView) (levels : ℕ) (buffer : Handle) (text : List ℕ) → 0 < levels → Runs a b (λ state. run_value (input_at (levels - 1)) state buffer (value_at state buffer text)) → Runs a b (λ state. evaluation_at levels state buffer eval.Run text)
unfolding evaluation_at
evaluates-run a b zero buffer text some done = absurd (omega (arith, some))
evaluates-run a b (suc levels) buffer text some done =
    let P : ℕ → Type 0 = λ n. Runs a b (λ state. run_value (input_at n) state buffer (value_at state buffer text)) in
    subst P (omega arith) done

pub evaluates-print : (a b : CoreView) (levels : ℕ) (buffer : Handle) (text : List ℕ) → 0 < levels → Runs a b (λ state. ask_step state (printed_value state.moment (value_at state buffer text))) → Runs a b (λ state. evaluation_at levels state buffer eval.Print text)
unfolding evaluation_at
evaluates-print a b zero buffer text some done = absurd (omega (arith, some))
evaluates-print a b (suc levels) buffer text some done = done

pub evaluates-test : (a b : CoreView) (levels : ℕ) (buffer : Handle) (text : List ℕ) → 0 < levels → Runs a b (λ state. ask_step state (printed_value state.moment (answer_text (holds_at state buffer text)))) → Runs a b (λ state. evaluation_at levels state buffer eval.Test text)
unfolding evaluation_at
evaluates-test a b zero buffer text some done = absurd (omega (arith, some))
evaluates-test a b (suc levels) buffer text some done = done

-- ---- what a text may name

-- there are no more groups than buffers, and the number of a buffer is that of a group
groups-few : (gs : EntryGroups) → AllFilled gs → length gs ≤ length (rows gs)
groups-few [] filled = omega arith
groups-few ([] ∷ gs) filled = absurd filled
groups-few ((e ∷ es) ∷ gs) filled = (let h = groups-few gs filled in let l = length-append (e ∷ es) (rows gs) in omega (arith, h, l))

position-below : {X : Type 0} (test : X → Bool) (xs : List X) → IfSome (position test xs) (λ n. n < length xs)
position-below test xs = by (nat_lt (position_or_len test xs) (length xs)) refl where
  by : (t : Bool) → nat_lt (position_or_len test xs) (length xs) ≡ t → IfSome (cond t (Some (position_or_len test xs)) None) (λ n. n < length xs)
  by true e = grind (arith, nat_tests)
  by false e = tt

number_by-text : (most : ℕ) (o : Option ℕ) → IfSome o (λ n. n < most) → most ≤ 256 → IsUtf8 (number_text (option_map (λ n. n + 1) o))
number_by-text most None small few = IsUtf8-nil
number_by-text most (Some n) small few = IsUtf8-from_ascii (decimal (n + 1)) (IsAscii-decimal (n + 1) (omega (arith, small, few)))

numbers_text : (buffer : Handle) (gs : EntryGroups) → AreBuffers gs → IsUtf8 (number_text (number buffer gs))
numbers_text buffer gs are = number_by-text (length gs) (place handle_of buffer.0 gs) (position-below (in_group handle_of buffer.0) gs) (let few = groups-few gs are.filled in let most = are.few in omega (arith, few, most))

-- facts and variables of a buffer that is there are text, and so is what is known of none
pub around_text : (groups : EntryGroups) (buffer : Handle) (options : OptionsValue) (around : Surroundings) → AreBuffers groups → IsAround groups buffer around → AreTexts (facts_around options around)
around_text groups buffer options around are is = record {
  vars = subst (All HasText) (sym is.vars) (All-nil HasText);
  facts = subst (All HasText) (sym is.facts) (facts_text (number on groups) (entry_of on groups) (numbers_text on groups are) refl);
  locals = subst (All HasText) (sym is.locals) (locals_text (entry_of on groups) refl);
  groups = subst (All IsUtf8) (sym is.groups_none) (All-nil IsUtf8);
} where
  on : Handle
  on = buffer_or_core groups buffer

  facts_text : (n : Option ℕ) (o : Option BufferEntry) → IsUtf8 (number_text n) → entry_of on groups ≡ o → All HasText (facts_by n (option_map (λ (e : BufferEntry). e.row) o))
  facts_text n None digits at = All-nil HasText
  facts_text n (Some e) digits at =
      let text = (are.fit on e at).text in
      All-cons HasText (pair (codes "buffer.number") (number_text n)) (pair (codes "buffer.full_name") e.row.full_name ∷ pair (codes "buffer.short_name") e.row.short_name ∷ pair (codes "buffer.title") e.row.title ∷ []) digits (All-cons HasText (pair (codes "buffer.full_name") e.row.full_name) (pair (codes "buffer.short_name") e.row.short_name ∷ pair (codes "buffer.title") e.row.title ∷ []) text.full_name (All-cons HasText (pair (codes "buffer.short_name") e.row.short_name) (pair (codes "buffer.title") e.row.title ∷ []) text.short_name (All-cons HasText (pair (codes "buffer.title") e.row.title) [] text.title (All-nil HasText))))

  locals_text : (o : Option BufferEntry) → entry_of on groups ≡ o → All HasText (unwrap_or (option_map (λ (e : BufferEntry). e.vars) o) [])
  locals_text None at = All-nil HasText
  locals_text (Some e) at = each e.vars (are.fit on e at).vars where
    each : (vars : List Pair) → AreVars vars → All HasText vars
    each [] all = All-nil HasText
    each (v ∷ vars) all = All-cons HasText v vars all.0.value (each vars all.1)

-- ---- values that were found

abbrev facts_by_parts : OptionsValue → List Pair → List Pair → List Pair → List (List ℕ) → Facts
facts_by_parts options vars facts locals groups = record { vars = vars; options = options; facts = facts; locals = locals; groups = groups }

-- what is around is what a text may name in each state that the core means
facts-are : (a : CoreView) (buffer : Handle) (around : Surroundings) → IsAround a.world.groups buffer around → (told : Rest) → facts_around a.options around ≡ facts_at (state_with a told) buffer
facts-are a buffer around is told =
    let on = buffer_or_core a.world.groups buffer in
    ap (λ vars. facts_by_parts a.options vars around.facts around.locals around.groups) is.vars ∙ ap (λ facts. facts_by_parts a.options [] facts around.locals around.groups) is.facts
    ∙ ap (λ locals. facts_by_parts a.options [] (facts_of_buffer a.world.groups on) locals around.groups) is.locals ∙ ap (λ groups. facts_by_parts a.options [] (facts_of_buffer a.world.groups on) (locals_of_buffer a.world.groups on) groups) is.groups_none

-- the value that was made of what is around is what the text comes to in each state that the core meant
pub value-found : (a b : CoreView) (buffer : Handle) (text value : List ℕ) (around : Surroundings) → IsAround a.world.groups buffer around → ((oracle : Oracle) → Agrees oracle b.verdicts → value ≡ text_value (facts_around a.options around) oracle text)
    → Values a b value (λ state. value_at state buffer text)
value-found a b buffer text value around is found = λ told agrees. found told.oracle agrees ∙ ap (λ facts. text_value facts told.oracle text) (facts-are a buffer around is told)

pub holds-found : (a b : CoreView) (buffer : Handle) (text : List ℕ) (holds : Bool) (around : Surroundings) → IsAround a.world.groups buffer around → ((oracle : Oracle) → Agrees oracle b.verdicts → holds ≡ condition_holds (facts_around a.options around) oracle text)
    → Values a b holds (λ state. holds_at state buffer text)
holds-found a b buffer text holds around is found = λ told agrees. found told.oracle agrees ∙ ap (λ facts. condition_holds facts told.oracle text) (facts-are a buffer around is told)

-- what is so of each value that was made is so of the one that was made
pub ok-as : {A E : Type 0} (P Q : A → Type 0) (r : Result A E) → ((a : A) → P a → Q a) → IfOk r P → IfOk r Q
ok-as P Q (Ok a) f p = f a p
ok-as P Q (Err e) f p = tt
