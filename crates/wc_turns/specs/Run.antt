-- What a run closes, and where it ends.
use Rattle.std.specs.Prelude.{◌≡◌, true, List, [], ◌∷◌, ◌++◌, if◌then◌else◌, Option, Some, None}
use Rattle.std.specs.List.{flat_map}
use Rattle.wc_text.specs.declared.names.LinkId.{LinkId}
use Rattle.wc_text.specs.declared.names.Cause.{Cause}
use Rattle.wc_board.specs.declared.connection.Connection.{Connection}
use Rattle.wc_core.specs.Events.{Event}
use Rattle.wc_core.specs.State.{State, Act, Sends, Closes, Serves, Quits, has_end}
use Rattle.wc_servers.specs.Outs.{Out, SendsLine, Connects, Parts}
use Rattle.wc_core.specs.ServersKept.{Parting}
use Rattle.wc_core.specs.Step.{step}
use Rattle.wc_turns.specs.declared.links.Closed.{Closed}

-- the close that a server asks for
abbrev pub close_of_parting : Parting → Closed
close_of_parting parting = record {
  link = record { 0 = parting.link };
  cause = parting.cause;
}

-- the close that a client asks for, if it is leaving
abbrev pub closed_by : LinkId → Option Cause → List Closed
closed_by link None = []
closed_by link (Some cause) = record { link = link; cause = cause } ∷ []

-- the closes that clients ask for, in the order in which they came
abbrev pub leaving_closes : List Connection → List Closed
leaving_closes [] = []
leaving_closes (connection ∷ connections) = closed_by connection.session.client.link
    connection.leaving ++ leaving_closes connections

-- the link that goes out for a server as a close, with its cause
abbrev pub out_closes : Out → List Closed
out_closes (SendsLine link bytes) = []
out_closes (Connects link address server) = []
out_closes (Parts link cause) = record { link = record { 0 = link }; cause = cause } ∷ []

-- the links that acts close, in order, each with its cause
abbrev pub act_closes : Act → List Closed
act_closes (Sends link message) = []
act_closes (Closes link cause) = record { link = record { 0 = link }; cause = cause } ∷ []
act_closes (Serves out) = out_closes out
act_closes Quits = []

abbrev pub closings : List Act → List Closed
closings acts = flat_map act_closes acts

-- after an event that runs `/quit` there is none
abbrev pub EndsAtQuit : State → List Event → Type 0
EndsAtQuit state [] = Unit {0}
EndsAtQuit state (event ∷ events) = (has_end (step state event).acts ≡ true → events ≡ [])
    × EndsAtQuit (step state event).state events

-- the events up to the first one that runs `/quit`
abbrev pub up_to_quit : State → List Event → List Event
up_to_quit state [] = []
up_to_quit state (event ∷ events) = event ∷ (if has_end (step state event).acts then []
    else up_to_quit (step state event).state events)
