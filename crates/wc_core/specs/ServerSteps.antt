-- What follows of a server: the acts that it asks for, one by one, its lines, and its loss.
use Rattle.std.specs.Prelude.{ℕ, ◌/◌, Bool, false, List, [], ◌∷◌, ◌++◌, map, flat_map}
use Rattle.std.specs.Prelude.{codes, Option, Some, None, option_and_then, Result, Ok, Err}
use Rattle.std.specs.Prelude.{if◌then◌else◌, ◌==◌}
use Rattle.std.specs.Str.{is_utf8}
use Rattle.wc_text.specs.Lossy.{lossy_of}
use Rattle.wc_text.specs.declared.names.Cause.{Cause}
use Rattle.wc_text.specs.declared.names.Handle.{Handle}
use Rattle.wc_outside.specs.Keyed.{at_key, put_at, without}
use Rattle.wc_buffers.specs.Calls.{EntryGroups, handle_of_name, vars_at}
use Rattle.wc_buffers.specs.Vars.{value_of}
use Rattle.wc_model.specs.declared.change.Change.{Change}
use Rattle.wc_model.specs.declared.change.LineSpec.{LineSpec}
use Rattle.wc_model.specs.declared.refused.ChangeRefused.{ChangeRefused}
use Rattle.wc_model.specs.declared.change.What.{What}
use Rattle.wc_model.specs.declared.change.What.TheVariants as what
use Rattle.wc_ircmsg.specs.declared.message.Message.{Message}
use Rattle.wc_ircmsg.specs.declared.message.LineRefused.{LineRefused}
use Rattle.wc_ircmsg.specs.Answers.{reading_of}
use Rattle.wc_irc.specs.declared.act.Act.{Act as ServerAct}
use Rattle.wc_irc.specs.declared.act.Act.TheVariants as act
use Rattle.wc_irc.specs.CloseActs.{close_acts}
use Rattle.wc_irc.specs.LinkActs.{first_acts, after_connect, loss_acts}
use Rattle.wc_irc.specs.ServerActs.{acts_of_server, after_server}
use Rattle.wc_irc.specs.Servers.{ServerState}
use Rattle.wc_board.specs.Told.{is_close}
use Rattle.wc_servers.specs.Outs.{Out, SendsLine, Parts, quit_outs}
use Rattle.wc_servers.specs.Seats.{ServerSeat, server_link, server_named, ended}
use Rattle.wc_servers.specs.Texts.{is_change_text}
use Rattle.wc_core.specs.Changing.{no_step, put_step, reach_step, then_does, change_step}
use Rattle.wc_core.specs.Changing.{change_step_if, refused, refusal_step}
use Rattle.wc_core.specs.Resolved.{change_of, null, refusal_text, usec_of}
use Rattle.wc_core.specs.State.{State, Serves, Quits, Stage, Stepped}

-- something is to go out for a server
abbrev pub out_step : State → Out → Stepped
out_step state out = reach_step state (Serves out ∷ [])

-- ---- acts, one by one

-- the date of a line, in seconds: its own, or the moment where it has none
abbrev pub own_date : ℕ → LineSpec → ℕ
own_date moment line = if line.date == 0 then moment / 1000 else line.date

-- and its microseconds
abbrev pub own_usec : ℕ → LineSpec → ℕ
own_usec moment line = if line.date == 0 then usec_of moment else line.usec

-- lines have the moment at which they are printed, in seconds and microseconds
abbrev pub dated_line : ℕ → LineSpec → LineSpec
dated_line moment line = record line {
  date = own_date moment line;
  usec = own_usec moment line;
  date_printed = moment / 1000;
  usec_printed = usec_of moment;
}

abbrev pub dated : ℕ → What → What
dated moment (what.Print line) = what.Print (dated_line moment line)
dated moment other = other

-- a refusal is told, where it is UTF-8
abbrev pub say_step : State → List ℕ → Stepped
say_step state text = if is_utf8 text then refusal_step state text else no_step state

-- a change, or why it is refused
abbrev pub told_step_if : State → Change → Option ChangeRefused → Stepped
told_step_if state change None = change_step state change
told_step_if state change (Some reason) = say_step state (refusal_text reason)

-- a change whose texts are UTF-8; where it is refused it is passed over, and its refusal is told
-- where it follows of a command
abbrev pub try_step : Bool → State → Change → Stepped
try_step tells state change = if is_change_text change.what then (
    if tells then told_step_if state change (refused state change)
    else change_step_if state change (refused state change)) else no_step state

-- a change of a buffer, where it is there
abbrev pub on_step : Bool → State → What → Option Handle → Stepped
on_step tells state w None = no_step state
on_step tells state w (Some buffer) = try_step tells state (change_of buffer (dated state.moment w))

-- a line to a server that is not leaving
abbrev pub send_step : State → ℕ → List ℕ → Option ServerSeat → Stepped
send_step state link line None = no_step state
send_step state link line (Some seat) = out_step state (SendsLine link (ended line))

-- Signals are for nobody yet. A loss comes after the other acts.
abbrev pub act_step : Bool → ℕ → State → ServerAct → Stepped
act_step tells link state (act.Open spec) = try_step tells state (change_of null (what.Add spec))
act_step tells link state (act.On full_name w) = on_step tells state w
    (handle_of_name full_name state.world.groups)
act_step tells link state (act.Send line) = send_step state link line
    (at_key server_link link state.servers)
act_step tells link state (act.Raise signal payload) = no_step state
act_step tells link state (act.Leave cause) = no_step state

abbrev pub acts_step : Bool → ℕ → State → List ServerAct → Stepped
acts_step tells link state [] = no_step state
acts_step tells link state (a ∷ acts) =
    then_does (act_step tells link state a) (λ next. acts_step tells link next acts)

-- ---- a loss

-- a server is leaving: its link is to be closed, and what follows of its loss is done
abbrev pub leave_server : ℕ → Cause → State → Stepped
leave_server link cause state = reach_step
    (record state { servers = without server_link link state.servers })
    (Serves (Parts link cause) ∷ [])

abbrev pub server_loss_step : ℕ → Cause → State → Option ServerSeat → Stepped
server_loss_step link cause state None = no_step state
server_loss_step link cause state (Some seat) =
    then_does (leave_server link cause state)
    (λ next. acts_step false link next (loss_acts state.world.groups seat.server))

-- the cause of the loss that acts ask for, if they do
abbrev pub leave_in : List ServerAct → Option Cause
leave_in [] = None
leave_in (act.Leave cause ∷ acts) = Some cause
leave_in (_ ∷ acts) = leave_in acts

abbrev pub loss_step_if : ℕ → State → Option Cause → Stepped
loss_step_if link state None = no_step state
loss_step_if link state (Some cause) = server_loss_step link cause state
    (at_key server_link link state.servers)

-- acts, and then the loss of the server, where they ask for it
abbrev pub server_acts_step : Bool → ℕ → State → List ServerAct → Stepped
server_acts_step tells link state acts = then_does (acts_step tells link state acts)
    (λ next. loss_step_if link next (leave_in acts))

-- ---- lines, and a link that stands

-- another state of the server of a link
abbrev pub with_server : State → ℕ → ServerState → State
with_server state link server = record state {
  servers = put_at server_link link (record { link = link; server = server }) state.servers;
}

abbrev pub taken_step : State → ℕ → ServerState → Message → Stepped
taken_step state link server m =
    then_does (put_step (with_server state link (after_server server m)))
    (λ next. server_acts_step false link next (acts_of_server state.world.groups server m))

abbrev pub message_step : State → ℕ → ServerState → Result Message LineRefused → Stepped
message_step state link server (Err refused) = no_step state
message_step state link server (Ok m) = taken_step state link server m

-- what is no message is passed over
abbrev pub server_line_step : State → ℕ → List ℕ → Option ServerSeat → Stepped
server_line_step state link line None = no_step state
server_line_step state link line (Some seat) = message_step state link seat.server
    (reading_of (lossy_of line))

abbrev pub stands_step : State → ℕ → Option ServerSeat → Stepped
stands_step state link None = no_step state
stands_step state link (Some seat) =
    then_does (put_step (with_server state link (after_connect seat.server)))
    (λ next. server_acts_step false link next (first_acts seat.server))

-- ---- the server of a buffer: the one that its variable names

abbrev pub named_in : List ServerSeat → Option (List ℕ) → Option ServerSeat
named_in servers None = None
named_in servers (Some name) = server_named name servers

abbrev pub server_name_at : EntryGroups → Handle → Option (List ℕ)
server_name_at groups buffer = option_and_then (value_of (codes "server")) (vars_at buffer groups)

abbrev pub server_of : State → Handle → Option ServerSeat
server_of state buffer = named_in state.servers (server_name_at state.world.groups buffer)

-- ---- before a buffer is closed, and before the run ends

-- the channel of a buffer is left
abbrev pub parting_step : State → Handle → Option ServerSeat → Stepped
parting_step state buffer None = no_step state
parting_step state buffer (Some seat) = acts_step false seat.link state
    (close_acts state.world.groups seat.server buffer)

abbrev pub before_step : State → Change → Stepped
before_step state change = if is_close change.what
    then parting_step state change.buffer (server_of state change.buffer) else no_step state

-- servers are told one after another, after this went out
abbrev pub quit_way : State → List Out → List ServerSeat → List Stage
quit_way state outs [] = []
quit_way state outs (seat ∷ seats) =
    record { state = state; outs = outs ++ quit_outs seat }
    ∷ quit_way state (outs ++ quit_outs seat) seats

-- QUIT to each server whose link stands, and then the run is to end
abbrev pub quit_step : State → Stepped
quit_step state = record {
  state = state;
  acts = map Serves (flat_map quit_outs state.servers) ++ Quits ∷ [];
  way = quit_way state [] state.servers;
}
