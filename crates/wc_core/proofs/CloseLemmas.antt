-- Whom the steps close.
use Rattle.std.proofs.Common.{◌≡◌, ℕ, zero, suc, Bool, true, false, cond, eqb, ◌⊎◌, inl, inr, List, [], ◌∷◌, Option, Some, None, refl, ap, sym, ◌∙◌, not}
use Rattle.wc_text.specs.declared.names.Cause.{Cause}
use Rattle.wc_text.specs.declared.names.Cause.TheVariants.{NoMemory}
use Rattle.std.specs.List.{flat_map}
use Rattle.wc_nickdiff.specs.declared.diff_item.Push.{Push}
use Rattle.wc_session.specs.Event.{push_told}
use Rattle.wc_objects.specs.declared.object.WireMessage.{WireMessage}
use Rattle.wc_session.specs.declared.client.Client.{Client}
use Rattle.wc_outside.specs.Keyed.{put_at}
use Rattle.wc_session.specs.Reply.{Answer}
use Rattle.wc_session.specs.declared.outcome.Outcome.{Outcome}
use Rattle.wc_session.specs.declared.outcome.Outcome.TheVariants as outcome
use Rattle.wc_text.specs.declared.names.Handle.{Handle}
use Rattle.wc_buffers.specs.Calls.{is_there}
use Rattle.wc_model.specs.Order.{order}
use Rattle.wc_model.specs.Apply.{after}
use Rattle.wc_core.specs.Resolved.{Effect, Stays, Ends as ResolvedEnds, Tells, Asks, SetsOption, UnsetsOption, SavesOptions, ChangesHotlist, ChangesFilters, effect_of, option_text}
use Rattle.wc_options.specs.Options.{refusal_of, value_of}
use Rattle.wc_options.specs.declared.refusal.SetRefused.{SetRefused}
use Rattle.wc_options.specs.declared.refusal.SetRefused.TheVariants.{UnknownOption}
use Rattle.wc_core.specs.Typed.{TypedCommand, typed_line, lines_of_text, evaluation_of}
use Rattle.wc_core.specs.Limits.{limit_set, limit_unset}
use Rattle.wc_core.specs.State.{State, Stepped, has_end}
use Rattle.wc_core.specs.Step.{reach_step, limit_step, set_step_if, set_step, unset_step_if, unset_step, client_link, pushed_to, push_at, pushes_of, push_step, no_step, then_does, sends, ask_step, effect_step, typed_step, other_of, input_by, input_step, lines_step, start_step, outcome_step, answer_step, loss_step, core_buffer, commands_step, plain_step, Evaluation, evaluated_by, input_with, eval_step, evaluation_at, input_at}
use Rattle.wc_core.specs.CoreView.{CoreView}
use Rattle.wc_core.specs.Served.{state_of, or_else, close_of, LeavesBy}
use Rattle.wc_board.specs.Served.{StaysOrStarves}
use Rattle.wc_irc_texts.specs.Texts.{in_one_line}
use Rattle.wc_irc_words.specs.Typed.{asked_of}
use Rattle.wc_core.specs.ServerSteps.{before_step}
use Rattle.wc_core.specs.ServerTyped.{connect_all_step}
use Rattle.wc_core.proofs.ChangeCloses.{closes_none-if, then-closes, limits-closes, tells-closes, asks-closes, filters-closes}
use Rattle.wc_core.proofs.ServerCloses.{quits-closes, before-closes, connects_all-closes, serves-closes}
use Rattle.wc_core.proofs.DidLemmas.{close_of-append, ClosesLater}
use Rattle.wc_core.proofs.ConnectionLemmas.{close-sends}
use Rattle.wc_core.specs.State.{beside}
use Rattle.wc_core.specs.Evaluated.{value_at, holds_at, answer_text, printed_value}
use Rattle.wc_core.specs.declared.typed_eval.EvalUse.{EvalUse}
use Rattle.wc_core.specs.declared.typed_eval.EvalUse.TheVariants as eval
use Rattle.std.specs.Str.{is_utf8}

-- ---- pushes

pushed-closes : (j : ℕ) (buffer : Handle) (push : Push) (clients : List Client) → close_of j (flat_map (pushed_to buffer push) clients) ≡ None
pushed-closes j buffer push [] = refl
pushed-closes j buffer push (client ∷ clients) =
    close_of-append j (pushed_to buffer push client) (flat_map (pushed_to buffer push) clients)
    ∙ ap (λ o. or_else o (close_of j (flat_map (pushed_to buffer push) clients))) (close-sends j (client_link client) (push_told buffer push client)) ∙ pushed-closes j buffer push clients

each-closes : (j : ℕ) (state : State) (buffers : List ℕ) → close_of j (flat_map (pushes_of state) buffers) ≡ None
each-closes j state [] = refl
each-closes j state (buffer ∷ buffers) =
    close_of-append j (pushes_of state buffer) (flat_map (pushes_of state) buffers)
    ∙ ap (λ o. or_else o (close_of j (flat_map (pushes_of state) buffers))) (pushed-closes j (record { 0 = buffer }) (push_at state buffer) state.clients) ∙ each-closes j state buffers

pub pushes-closes : (j : ℕ) (state : State) → close_of j (push_step state).acts ≡ None
pushes-closes j state = each-closes j state (order state.world.groups)

-- ---- what is typed

sets_if-closes : (j : ℕ) (state : State) (name value : List ℕ) (o : Option SetRefused) → close_of j (set_step_if state name value o).acts ≡ None
sets_if-closes j state name value None = refl
sets_if-closes j state name value (Some reason) = tells-closes j state (option_text name reason)

unsets_if-closes : (j : ℕ) (state : State) (name : List ℕ) (o : Option (List ℕ)) → close_of j (unset_step_if state name o).acts ≡ None
unsets_if-closes j state name None = tells-closes j state (option_text name UnknownOption)
unsets_if-closes j state name (Some value) = refl

pub sets-closes : (j : ℕ) (state : State) (name value : List ℕ) → close_of j (set_step state name value).acts ≡ None
sets-closes j state name value = sets_if-closes j state name value (refusal_of state.options name value)

pub unsets-closes : (j : ℕ) (state : State) (name : List ℕ) → close_of j (unset_step state name).acts ≡ None
unsets-closes j state name = unsets_if-closes j state name (value_of state.options name)

-- nor does another limit of lines before it
after_limit-closes : (j : ℕ) (state : State) (o : Option ℕ) (next : State → Stepped) → ((state : State) → close_of j (next state).acts ≡ None) → close_of j (then_does (limit_step state o) next).acts ≡ None
after_limit-closes j state o next none = then-closes j (limit_step state o) next (limits-closes j state o) (none (limit_step state o).state)

resolved-closes : (j : ℕ) (state : State) (r : Effect) → close_of j (effect_step state r).acts ≡ None
resolved-closes j state Stays = refl
resolved-closes j state ResolvedEnds = quits-closes j state
resolved-closes j state (Tells text) = tells-closes j state text
resolved-closes j state (Asks change) = then-closes j (before_step state change) (λ next. ask_step next change) (before-closes j state change) (asks-closes j (before_step state change).state change)
resolved-closes j state (SetsOption name value) = after_limit-closes j state (limit_set name value) (λ next. set_step next name value) (λ next. sets-closes j next name value)
resolved-closes j state (UnsetsOption name) = after_limit-closes j state (limit_unset name) (λ next. unset_step next name) (λ next. unsets-closes j next name)
resolved-closes j state SavesOptions = refl
resolved-closes j state (ChangesHotlist usage buffer) = refl
resolved-closes j state (ChangesFilters change) = filters-closes j state change

pub does-closes : (j : ℕ) (state : State) (buffer : Handle) (typed : TypedCommand) → close_of j (typed_step state buffer typed).acts ≡ None
does-closes j state buffer typed = resolved-closes j state (effect_of state.world state.moment buffer typed)

input_by-closes : (j : ℕ) (state : State) (buffer : Handle) (line : List ℕ) (o : Option (List ℕ)) → close_of j (input_by state buffer line o).acts ≡ None
input_by-closes j state buffer line None = does-closes j state buffer (typed_line line)
input_by-closes j state buffer line (Some text) = serves-closes j state buffer line text (asked_of (in_one_line line))

plain-closes : (j : ℕ) (state : State) (buffer : Handle) (line : List ℕ) → close_of j (plain_step state buffer line).acts ≡ None
plain-closes j state buffer line = input_by-closes j state buffer line (other_of (typed_line line))

-- nor does what is evaluated close anyone
abbrev ClosesNobody : Evaluation → Type 0
ClosesNobody evaluate = (j : ℕ) (state : State) (buffer : Handle) (usage : EvalUse) (text : List ℕ) → close_of j (evaluate state buffer usage text).acts ≡ None

evaluated-closes : (evaluate : Evaluation) → ClosesNobody evaluate → (j : ℕ) (state : State) (buffer : Handle) (line : List ℕ) (o : Option (EvalUse × List ℕ)) → close_of j (evaluated_by evaluate state buffer line o).acts ≡ None
evaluated-closes evaluate none j state buffer line None = plain-closes j state buffer line
evaluated-closes evaluate none j state buffer line (Some (usage, text)) = none j state buffer usage text

input_with-closes : (evaluate : Evaluation) → ClosesNobody evaluate → (j : ℕ) (state : State) (buffer : Handle) (line : List ℕ) → close_of j (input_with evaluate state buffer line).acts ≡ None
input_with-closes evaluate none j state buffer line = evaluated-closes evaluate none j state buffer line (evaluation_of (typed_line line))

eval-closes : (evaluate : Evaluation) → ClosesNobody evaluate → ClosesNobody (eval_step (input_with evaluate))
eval-closes evaluate none j state buffer eval.Run text =
    let value = value_at state buffer text in
    closes_none-if j (is_utf8 value) (input_with evaluate state buffer value) (no_step state) (input_with-closes evaluate none j state buffer value) refl
eval-closes evaluate none j state buffer eval.Print text = asks-closes j state (printed_value state.moment (value_at state buffer text))
eval-closes evaluate none j state buffer eval.Test text = asks-closes j state (printed_value state.moment (answer_text (holds_at state buffer text)))

evaluation-closes : (levels : ℕ) → ClosesNobody (evaluation_at levels)
unfolding evaluation_at
evaluation-closes zero = λ j state buffer usage text. refl
evaluation-closes (suc levels) = eval-closes (evaluation_at levels) (evaluation-closes levels)

pub input_at-closes : (levels j : ℕ) (state : State) (buffer : Handle) (line : List ℕ) → close_of j (input_at levels state buffer line).acts ≡ None
input_at-closes levels j state buffer line = input_with-closes (evaluation_at levels) (evaluation-closes levels) j state buffer line

pub input-closes : (j : ℕ) (state : State) (buffer : Handle) (line : List ℕ) → close_of j (input_step state buffer line).acts ≡ None
input-closes j state buffer line = input_at-closes 32 j state buffer line

pub runs-closes : (j : ℕ) (state : State) (buffer : Handle) (lines : List (List ℕ)) → close_of j (lines_step state buffer lines).acts ≡ None
runs-closes j state buffer [] = refl
runs-closes j state buffer (line ∷ lines) =
    let first = input_step state buffer line in
    let all = then_does first (λ next. lines_step next buffer lines) in
    closes_none-if j (not (is_there buffer state.world.groups)) (no_step state) (cond (has_end first.acts) first all) refl
    (closes_none-if j (has_end first.acts) first all (input-closes j state buffer line)
    (then-closes j first (λ next. lines_step next buffer lines) (input-closes j state buffer line) (runs-closes j first.state buffer lines)))

pub commands-closes : (j : ℕ) (state : State) (commands : List (List ℕ)) → close_of j (commands_step state commands).acts ≡ None
commands-closes j state [] = refl
commands-closes j state (command ∷ commands) =
    let first = lines_step state core_buffer (lines_of_text command) in
    closes_none-if j (has_end first.acts) first (then_does first (λ next. commands_step next commands)) (runs-closes j state core_buffer (lines_of_text command))
    (then-closes j first (λ next. commands_step next commands) (runs-closes j state core_buffer (lines_of_text command)) (commands-closes j first.state commands))

pub starts-closes : (j : ℕ) (state : State) (commands : List (List ℕ)) → close_of j (start_step state commands).acts ≡ None
starts-closes j state commands =
    let first = commands_step state commands in
    closes_none-if j (has_end first.acts) first (then_does first connect_all_step) (commands-closes j state commands) (then-closes j first connect_all_step (commands-closes j state commands) (connects_all-closes j first.state))

follows-same : (j k : ℕ) (o : Outcome) (s t : State) → close_of j (outcome_step s k o).acts ≡ close_of j (outcome_step t k o).acts
follows-same j k outcome.Replied s t = refl
follows-same j k outcome.Silent s t = refl
follows-same j k (outcome.Input buffer text) s t = runs-closes j s buffer (lines_of_text text) ∙ sym (runs-closes j t buffer (lines_of_text text))
follows-same j k (outcome.Leave why) s t = refl
follows-same j k outcome.NoMemory s t = refl

pub reply-later : (b : CoreView) (k : ℕ) (state : State) (messages : List WireMessage) (o : Outcome) → ClosesLater b (reach_step state (sends k messages)) (λ next. outcome_step next k o)
reply-later b k state messages o = record { first_none = λ j. close-sends j k messages; same = λ j. follows-same j k o (state_of b (beside state)) state }

-- whom an answer closes does not hang on the state
pub answer-closes-same : (j k : ℕ) (answer : Answer) (s t : State) → close_of j (answer_step s k answer).acts ≡ close_of j (answer_step t k answer).acts
answer-closes-same j k answer s t =
    let sent = sends k answer.messages in
    let after : State → State = λ state. record state { clients = put_at client_link k answer.client state.clients } in
    close_of-append j sent (outcome_step (after s) k answer.outcome).acts ∙ ap (or_else (close_of j sent)) (follows-same j k answer.outcome (after s) (after t)) ∙ sym (close_of-append j sent (outcome_step (after t) k answer.outcome).acts)

starve_else : (before closes after : Option Cause) → StaysOrStarves None closes → after ≡ or_else before closes → StaysOrStarves before after
starve_else None closes after (inl none) e = inl (e ∙ none)
starve_else None closes after (inr starved) e = inr (e ∙ starved)
starve_else (Some why) closes after closed e = inl e

lost-closes : (j k : ℕ) (state : State) (o : Option Client) → StaysOrStarves None (close_of j (loss_step state k NoMemory o).acts)
lost-closes j k state None = inl refl
lost-closes j k state (Some client) = by (eqb k j) where
  by : (t : Bool) → StaysOrStarves None (or_else (cond t (Some NoMemory) None) None)
  by true = inr refl
  by false = inl refl

-- a client that is lost for want of memory leaves for that cause
pub lost-starves : (j k : ℕ) (state : State) (o : Option Client) (before after : Option Cause) → (after ≡ or_else before (close_of j (loss_step state k NoMemory o).acts)) ⊎ StaysOrStarves before after → StaysOrStarves before after
lost-starves j k state o before after (inl e) = starve_else before (close_of j (loss_step state k NoMemory o).acts) after (lost-closes j k state o) e
lost-starves j k state o before after (inr e) = e

-- the cause for which a client that was open is leaving
pub leaves_for : (before closes after : Option Cause) (why : Cause) → LeavesBy before closes after → before ≡ None → after ≡ Some why → (closes ≡ Some why) ⊎ (why ≡ NoMemory)
leaves_for before closes after why (inl e) none some = inl (ap (λ o. or_else o closes) (sym none) ∙ sym e ∙ some)
leaves_for before closes after why (inr (inl e)) none some = absurd (cc)
leaves_for before closes after why (inr (inr e)) none some = inr (cc)
