-- What the core does at each event.
use Rattle.std.specs.Prelude.{ℕ, zero, suc, not, max, ◌&&◌, List, [], ◌∷◌, ◌++◌, length}
use Rattle.std.specs.Prelude.{nat_lt, if◌then◌else◌, Option, Some, None}
use Rattle.std.specs.Str.{is_utf8}
use Rattle.wc_text.specs.declared.names.Handle.{Handle}
use Rattle.wc_text.specs.declared.names.Cause.{Cause}
use Rattle.wc_text.specs.declared.names.Cause.TheVariants.{Ended, Failed, Surplus, BadSocket}
use Rattle.wc_outside.specs.Keyed.{at_key, put_at, without}
use Rattle.wc_buffers.specs.Calls.{is_there}
use Rattle.wc_relaycmd.specs.Answers.{request_of}
use Rattle.wc_relaycmd.specs.declared.request.Request.{Request}
use Rattle.wc_session.specs.declared.client.Client.{Client}
use Rattle.wc_session.specs.declared.outcome.Outcome.{Outcome}
use Rattle.wc_session.specs.declared.outcome.Outcome.TheVariants as outcome
use Rattle.wc_session.specs.Known.{new_client}
use Rattle.wc_session.specs.Reply.{Answer, reply_of}
use Rattle.wc_servers.specs.Seats.{server_link}
use Rattle.wc_world.specs.Handles.{skip_world}
use Rattle.wc_core.specs.Events.{Event, Start, Tick, Arrives, Line as LineCame, Stands, Ends, Fails}
use Rattle.wc_core.specs.Events.{Breaks, ListenFails}
use Rattle.wc_core.specs.Limits.{client_limit, first_handle}
use Rattle.wc_core.specs.Contexts.{context_of}
use Rattle.wc_core.specs.Resolved.{Effect, Stays, Ends as ResolvedEnds, Tells, Asks, SetsOption}
use Rattle.wc_core.specs.Resolved.{UnsetsOption, SavesOptions, ChangesHotlist, ChangesFilters}
use Rattle.wc_core.specs.Resolved.{effect_of}
use Rattle.wc_core.specs.State.{State, Closes, Stepped, has_end}
use Rattle.wc_board.specs.Answered.{is_nicklist}
use Rattle.wc_core.specs.Evaluated.{value_at, holds_at, answer_text, printed_value}
use Rattle.wc_core.specs.declared.typed_eval.EvalUse.{EvalUse}
use Rattle.wc_core.specs.declared.typed_eval.EvalUse.TheVariants as eval
use Rattle.wc_core.specs.Typed.{TypedCommand, Others, typed_line, lines_of_text, evaluation_of}
pub use Rattle.wc_core.specs.Changing.{client_link, core_buffer, no_step, put_step, reach_step}
pub use Rattle.wc_core.specs.Changing.{then_does, sends, told_to}
pub use Rattle.wc_core.specs.Changing.{tell_all_step, made_step, change_step, change_step_if}
pub use Rattle.wc_core.specs.Changing.{refused, refusal_step, filter_step, filters_step}
pub use Rattle.wc_core.specs.Changing.{ask_step_if, ask_step, pushed_to, push_at, pushes_of}
pub use Rattle.wc_core.specs.Changing.{push_step, set_step_if, set_step, unset_step_if, unset_step}
pub use Rattle.wc_core.specs.Changing.{limit_change, limit_step, set_effect_step, unset_effect_step}
pub use Rattle.wc_core.specs.Changing.{save_step, hotlist_step, with_hotlist}
use Rattle.wc_core.specs.ServerSteps.{before_step, quit_step, server_line_step, server_loss_step}
use Rattle.wc_core.specs.ServerSteps.{stands_step}
use Rattle.wc_core.specs.ServerTyped.{served_line_step, connect_all_step}

-- ---- what is typed

abbrev pub effect_step : State → Effect → Stepped
effect_step state Stays = no_step state
effect_step state ResolvedEnds = quit_step state
effect_step state (Tells text) = refusal_step state text
effect_step state (Asks change) = then_does (before_step state change)
    (λ next. ask_step next change)
effect_step state (SetsOption name value) = set_effect_step state name value
effect_step state (UnsetsOption name) = unset_effect_step state name
effect_step state SavesOptions = save_step state
effect_step state (ChangesHotlist usage buffer) = hotlist_step state usage buffer
effect_step state (ChangesFilters change) = filter_step state change

-- what one line comes to that is typed into a buffer and that the core knows by itself
abbrev pub typed_step : State → Handle → TypedCommand → Stepped
typed_step state buffer typed = effect_step state (effect_of state.world state.moment buffer typed)

-- what is told of a line that the core does not know by itself, where no server takes it
abbrev pub other_of : TypedCommand → Option (List ℕ)
other_of (Others text) = Some text
other_of _ = None

abbrev pub input_by : State → Handle → List ℕ → Option (List ℕ) → Stepped
input_by state buffer line None = typed_step state buffer (typed_line line)
input_by state buffer line (Some text) = served_line_step state buffer line text

-- one line that evaluates nothing
abbrev pub plain_step : State → Handle → List ℕ → Stepped
plain_step state buffer line = input_by state buffer line (other_of (typed_line line))

-- ---- what is evaluated

-- how a line is run that is typed into a buffer
abbrev pub Input : Type 0
Input = State → Handle → List ℕ → Stepped

-- what becomes of a text that is evaluated on a buffer
abbrev pub Evaluation : Type 0
Evaluation = State → Handle → EvalUse → List ℕ → Stepped

-- a value is run as an input, where it is text, as each value is
abbrev pub run_value : Input → Input
run_value deeper state buffer value = if is_utf8 value then deeper state buffer value
    else no_step state

-- an `/eval`, inside which an input is run so
abbrev pub eval_step : Input → Evaluation
eval_step deeper state buffer eval.Run text =
    run_value deeper state buffer (value_at state buffer text)
eval_step deeper state buffer eval.Print text =
    ask_step state (printed_value state.moment (value_at state buffer text))
eval_step deeper state buffer eval.Test text =
    ask_step state (printed_value state.moment (answer_text (holds_at state buffer text)))

abbrev pub no_evaluation : Evaluation
no_evaluation state buffer usage text = no_step state

abbrev pub evaluated_by : Evaluation → State → Handle → List ℕ → Option (EvalUse × List ℕ) →
    Stepped
evaluated_by evaluate state buffer line None = plain_step state buffer line
evaluated_by evaluate state buffer line (Some (usage, text)) = evaluate state buffer usage text

-- one line, where this becomes of a text that is evaluated
abbrev pub input_with : Evaluation → Input
input_with evaluate state buffer line =
    evaluated_by evaluate state buffer line (evaluation_of (typed_line line))

-- an `/eval`, where so many may still be inside one another; one more does nothing
unfoldable pub evaluation_at : ℕ → Evaluation
evaluation_at zero = no_evaluation
evaluation_at (suc levels) = eval_step (input_with (evaluation_at levels))

-- one line that is typed into a buffer, where so many `/eval`s may still be inside one another
abbrev pub input_at : ℕ → Input
input_at levels = input_with (evaluation_at levels)

-- one line that is typed into a buffer
abbrev pub input_step : Input
input_step = input_at 32

-- ---- lines

-- The lines that are typed into a buffer, one after another. After a `/quit` nothing is done, and
-- once the buffer is closed neither.
abbrev pub lines_step : State → Handle → List (List ℕ) → Stepped
lines_step state buffer [] = no_step state
lines_step state buffer (line ∷ lines) =
    if not (is_there buffer state.world.groups) then no_step state else (
    let first = input_step state buffer line in
    if has_end first.acts then first
    else then_does first (λ next. lines_step next buffer lines))

-- ---- clients

abbrev pub leave_step : State → ℕ → Cause → Stepped
leave_step state link cause = reach_step
    (record state { clients = without client_link link state.clients })
    (Closes link cause ∷ [])

-- what an answer asks of the core, after its messages
abbrev pub outcome_step : State → ℕ → Outcome → Stepped
outcome_step state link outcome.Replied = no_step state
outcome_step state link outcome.Silent = no_step state
outcome_step state link (outcome.Input buffer text) = lines_step state buffer (lines_of_text text)
outcome_step state link (outcome.Leave cause) = leave_step state link cause
outcome_step state link outcome.NoMemory = no_step state

abbrev pub answer_step : State → ℕ → Answer → Stepped
answer_step state link answer =
    then_does (reach_step (record state {
      clients = put_at client_link link answer.client state.clients;
    })
    (sends link answer.messages))
    (λ next. outcome_step next link answer.outcome)

abbrev pub reply_step : State → Client → Request → Stepped
reply_step state client request = answer_step state (client_link client)
    (reply_of state.world (context_of state) client request)

-- a line of a client, where it is open and its line is a request; what is to be pushed comes before
-- a nicklist
abbrev pub request_step : State → Client → Option Request → Stepped
request_step state client None = no_step state
request_step state client (Some request) =
    if client.logged_in && is_nicklist request.command
    then then_does (push_step state) (λ next. reply_step next client request)
    else reply_step state client request

abbrev pub line_step : State → List ℕ → Option Client → Stepped
line_step state line None = no_step state
line_step state line (Some client) = request_step state client (request_of client.escaped line)

abbrev pub loss_step : State → ℕ → Cause → Option Client → Stepped
loss_step state link cause None = no_step state
loss_step state link cause (Some client) = leave_step state link cause

-- the line of a link: that of an open client, or else that of a server
abbrev pub link_line_step : State → ℕ → List ℕ → Option Client → Stepped
link_line_step state link line None =
    server_line_step state link line (at_key server_link link state.servers)
link_line_step state link line (Some client) = line_step state line (Some client)

-- the loss of a link: that of an open client, or else that of a server
abbrev pub link_loss_step : State → ℕ → Cause → Option Client → Stepped
link_loss_step state link cause None =
    server_loss_step link cause state (at_key server_link link state.servers)
link_loss_step state link cause (Some client) = loss_step state link cause (Some client)

-- The commands of the start, one after another, each an input of its own on the core buffer. Those
-- after a `/quit` are not run.
abbrev pub commands_step : State → List (List ℕ) → Stepped
commands_step state [] = no_step state
commands_step state (command ∷ commands) =
    let first = lines_step state core_buffer (lines_of_text command) in
    if has_end first.acts then first
    else then_does first (λ next. commands_step next commands)

-- the commands of the start, and after them the servers that are connected by themselves
abbrev pub start_step : State → List (List ℕ) → Stepped
start_step state commands =
    let first = commands_step state commands in
    if has_end first.acts then first else then_does first connect_all_step

-- a client that comes, where there are not too many, and else its link is closed
abbrev pub arrival_step : State → ℕ → List ℕ → Stepped
arrival_step state link nonce =
    if nat_lt (length state.clients) (client_limit state.options)
    then put_step (record state {
      clients = state.clients ++ new_client (record { 0 = link })
          nonce ∷ [];
      used = max state.used link;
    })
    else reach_step (record state { used = max state.used link })
    (Closes link Surplus ∷ [])

-- the state that the commands of the start begin with
abbrev pub begun_state : State → ℕ → State
begun_state state moment = record state {
  world = skip_world (first_handle state.options moment) state.world;
  moment = moment;
  commands = [];
}

-- what the core does at an event
abbrev pub step : State → Event → Stepped
step state (Start moment) = start_step (begun_state state moment) state.commands
step state (Tick moment) = push_step (record state { moment = moment })
step state (Arrives link nonce) = arrival_step state link nonce
step state (LineCame link line) = link_line_step state link line
    (at_key client_link link state.clients)
step state (Stands link) = stands_step state link (at_key server_link link state.servers)
step state (Ends link) = link_loss_step state link Ended (at_key client_link link state.clients)
step state (Fails link) = link_loss_step state link Failed (at_key client_link link state.clients)
step state (Breaks link) =
    link_loss_step state link BadSocket (at_key client_link link state.clients)
step state ListenFails = no_step state

-- what it does at one event after another
abbrev pub run : State → List Event → Stepped
run state [] = no_step state
run state (event ∷ events) = then_does (step state event) (λ next. run next events)
