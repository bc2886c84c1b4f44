-- What is typed for servers.
use Rattle.std.specs.Prelude.{ℕ, ◌+◌, ◌^◌, Bool, List, [], ◌∷◌, ◌++◌, map, codes, bytes_eq, nat_le}
use Rattle.std.specs.Prelude.{is_some, true, Option, Some, None, Result, Ok, Err, if◌then◌else◌}
use Rattle.std.specs.Str.{IsUtf8}
use Rattle.wc_text.specs.declared.names.Handle.{Handle}
use Rattle.wc_text.specs.declared.names.Pair.{Pair}
use Rattle.wc_buffers.specs.Calls.{handle_of_name}
use Rattle.wc_buffers.specs.Vars.{pair}
use Rattle.wc_buffers.specs.declared.row.BufferSpec.{BufferSpec}
use Rattle.wc_model.specs.declared.change.What.TheVariants as what
use Rattle.wc_options.specs.Options.{OptionsValue, ServerOptions, has_server, refusal_of}
use Rattle.wc_options.specs.Options.{without, with_value}
use Rattle.wc_options.specs.declared.refusal.SetRefused.{SetRefused}
use Rattle.wc_irc.specs.declared.act.Act.{Act as ServerAct}
use Rattle.wc_irc.specs.declared.refused.ServerRefused.{ServerRefused}
use Rattle.wc_irc.specs.CloseActs.{disconnect_acts}
use Rattle.wc_irc.specs.CommandActs.{acts_of_typed, acts_of_unlinked}
use Rattle.wc_irc.specs.ServerOptions.{settings_of, delete_refusal, connect_refusal, no_such_server}
use Rattle.wc_irc.specs.Servers.{ServerState}
use Rattle.wc_irc.specs.Start.{option_of, start_of}
use Rattle.wc_irc.specs.Targets.{server_buffer}
use Rattle.wc_irc_texts.specs.Texts.{in_one_line}
use Rattle.wc_irc_words.specs.Typed.{ServerCommand, AddsServer, DeletesServer, Connects as ConnectsTo}
use Rattle.wc_irc_words.specs.Typed.{Disconnects, asked_of}
use Rattle.wc_servers.specs.Outs.{Connects}
use Rattle.wc_servers.specs.Seats.{ServerSeat, server_named}
use Rattle.wc_core.specs.Changing.{no_step, put_step, reach_step, then_does, refusal_step}
use Rattle.wc_core.specs.Resolved.{change_of, null, option_text}
use Rattle.wc_core.specs.ServerSteps.{say_step, try_step, server_acts_step, server_of}
use Rattle.wc_core.specs.State.{State, Serves, Stepped}

-- whether a server has a link, or is to have one
abbrev pub is_linked : State → List ℕ → Bool
is_linked state name = is_some (server_named name state.servers)

-- ---- `/server`

abbrev pub HasTextValue : Pair → Type 0
HasTextValue setting = IsUtf8 setting.value

-- an option gets a value, and then others do; where it is refused they do not
abbrev pub settings_if : State → Pair → (State → Stepped) → Option SetRefused → Stepped
settings_if state setting others None = then_does (put_step (record state {
  options = with_value state.options setting.name setting.value;
}))
    others
settings_if state setting others (Some reason) =
    say_step state (option_text setting.name reason)

abbrev pub settings_step : State → List Pair → Stepped
settings_step state [] = no_step state
settings_step state (setting ∷ settings) =
    settings_if state setting (λ next. settings_step next settings)
    (refusal_of state.options setting.name setting.value)

abbrev pub delete_step : State → List ℕ → Option (List ℕ) → Stepped
delete_step state name None = put_step (record state {
  options = record state.options { servers = without name state.options.servers };
})
delete_step state name (Some text) = say_step state text

-- ---- `/connect`

abbrev pub server_vars : List ℕ → List ℕ → List Pair
server_vars name nick = pair (codes "type") (codes "server") ∷ pair (codes "server") name
    ∷ pair (codes "nick") nick ∷ []

abbrev pub server_spec : ServerState → BufferSpec
server_spec s = record {
  full_name = server_buffer s.name;
  short_name = s.name;
  title = [];
  vars = server_vars s.name s.nick;
}

-- a buffer is opened, where none has its full name
abbrev pub open_new_step : State → BufferSpec → Stepped
open_new_step state spec = if is_some (handle_of_name spec.full_name state.world.groups)
    then no_step state else try_step true state (change_of null (what.Add spec))

abbrev pub open_step : State → ServerState → Stepped
open_step state s = open_new_step state (server_spec s)

-- a connection is begun, whose link has the next number
abbrev pub seat_step : State → ServerState → Stepped
seat_step state s = reach_step (record state {
  servers = state.servers ++ record { link = state.used + 1; server = s } ∷ [];
  used = state.used + 1;
})
    (Serves (Connects (state.used + 1) s.address s.name) ∷ [])

abbrev pub begin_step : State → Result ServerState ServerRefused → Stepped
begin_step state (Err refused) = no_step state
begin_step state (Ok s) = then_does (open_step state s) (λ next. seat_step next s)

-- no link numbers are left
abbrev pub is_spent : State → Bool
is_spent state = nat_le (2 ^ 62) state.used

abbrev pub connect_step_if : State → List ℕ → Option (List ℕ) → Stepped
connect_step_if state name (Some text) = say_step state text
connect_step_if state name None =
    if is_spent state then say_step state (codes "no handle left")
    else begin_step state (start_of state.options name)

abbrev pub connect_step : State → List ℕ → Stepped
connect_step state name = connect_step_if state name
    (connect_refusal state.options (is_linked state name) name)

-- ---- servers that are connected by themselves

abbrev pub connects_itself : OptionsValue → List ℕ → Bool
connects_itself options name = bytes_eq (option_of options name (codes "autoconnect")) (codes "on")

abbrev pub connect_own_step : State → List ℕ → Stepped
connect_own_step state name = if connects_itself state.options name then connect_step state name
    else no_step state

abbrev pub connect_each_step : State → List (List ℕ) → Stepped
connect_each_step state [] = no_step state
connect_each_step state (name ∷ names) =
    then_does (connect_own_step state name) (λ next. connect_each_step next names)

abbrev pub server_names : OptionsValue → List (List ℕ)
server_names options = map (λ (server : ServerOptions). server.name) options.servers

abbrev pub connect_all_step : State → Stepped
connect_all_step state = if state.connects
    then connect_each_step state (server_names state.options) else no_step state

-- ---- `/disconnect`

abbrev pub not_connected : List ℕ
not_connected = codes "irc: not connected"

-- why a server that is named has no link
abbrev pub unlinked_text : OptionsValue → Option (List ℕ) → List ℕ
unlinked_text options None = not_connected
unlinked_text options (Some name) = if has_server name options.servers then not_connected
    else no_such_server name

abbrev pub disconnect_step_if : State → Option (List ℕ) → Option ServerSeat → Stepped
disconnect_step_if state name None = say_step state (unlinked_text state.options name)
disconnect_step_if state name (Some seat) = server_acts_step true seat.link state
    (disconnect_acts seat.server)

-- the server that is named, or else that of the buffer
abbrev pub meant_server : State → Handle → Option (List ℕ) → Option ServerSeat
meant_server state buffer None = server_of state buffer
meant_server state buffer (Some name) = server_named name state.servers

abbrev pub disconnect_step : State → Handle → Option (List ℕ) → Stepped
disconnect_step state buffer name = disconnect_step_if state name (meant_server state buffer name)

-- ---- what is typed on a buffer

abbrev pub acts_in : Option (List ServerAct) → List ServerAct
acts_in None = []
acts_in (Some acts) = acts

-- no link has the number 0
abbrev pub on_buffer_step : State → Handle → List ℕ → Option ServerSeat → Stepped
on_buffer_step state buffer line None = server_acts_step true 0 state
    (acts_in (acts_of_unlinked state.world.groups buffer line))
on_buffer_step state buffer line (Some seat) = server_acts_step true seat.link state
    (acts_in (acts_of_typed state.world.groups seat.server buffer line))

abbrev pub served_step : State → Handle → List ℕ → List ℕ → Option ServerCommand → Stepped
served_step state buffer line text None = refusal_step state text
served_step state buffer line text (Some (AddsServer name address tls)) =
    settings_step state (settings_of name address tls)
served_step state buffer line text (Some (DeletesServer name)) =
    delete_step state name (delete_refusal state.options (is_linked state name) name)
served_step state buffer line text (Some (ConnectsTo name)) = connect_step state name
served_step state buffer line text (Some (Disconnects name)) = disconnect_step state buffer name
served_step state buffer line text (Some _) = on_buffer_step state buffer line
    (server_of state buffer)

-- A line that the core does not know by itself. Where servers do not either, this text is told. CR
-- and NUL are taken out before it is read.
abbrev pub served_line_step : State → Handle → List ℕ → List ℕ → Stepped
served_line_step state buffer line text = served_step state buffer line text
    (asked_of (in_one_line line))
