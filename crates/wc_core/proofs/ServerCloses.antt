-- Servers close no client.
use Rattle.std.proofs.Common.{◌≡◌, ℕ, Bool, true, false, cond, List, [], ◌∷◌, ◌++◌, codes, Option, Some, None, Result, Ok, Err, is_some, refl}
use Rattle.std.specs.Prelude.{map, flat_map}
use Rattle.std.specs.Str.{is_utf8}
use Rattle.wc_text.specs.Lossy.{lossy_of}
use Rattle.wc_text.specs.declared.names.Cause.{Cause}
use Rattle.wc_text.specs.declared.names.Handle.{Handle}
use Rattle.wc_text.specs.declared.names.Pair.{Pair}
use Rattle.wc_outside.specs.Keyed.{at_key}
use Rattle.wc_buffers.specs.Calls.{handle_of_name}
use Rattle.wc_model.specs.declared.change.Change.{Change}
use Rattle.wc_model.specs.declared.change.What.{What}
use Rattle.wc_model.specs.declared.change.What.TheVariants as what
use Rattle.wc_model.specs.declared.refused.ChangeRefused.{ChangeRefused}
use Rattle.wc_options.specs.Options.{refusal_of, with_value}
use Rattle.wc_options.specs.declared.refusal.SetRefused.{SetRefused}
use Rattle.wc_ircmsg.specs.declared.message.Message.{Message}
use Rattle.wc_ircmsg.specs.declared.message.LineRefused.{LineRefused}
use Rattle.wc_ircmsg.specs.Answers.{reading_of}
use Rattle.wc_irc.specs.declared.act.Act.{Act as ServerAct}
use Rattle.wc_irc.specs.declared.act.Act.TheVariants as act
use Rattle.wc_irc.specs.declared.refused.ServerRefused.{ServerRefused}
use Rattle.wc_irc.specs.CloseActs.{close_acts, disconnect_acts}
use Rattle.wc_irc.specs.CommandActs.{acts_of_typed, acts_of_unlinked}
use Rattle.wc_irc.specs.LinkActs.{first_acts, after_connect, loss_acts}
use Rattle.wc_irc.specs.ServerActs.{acts_of_server, after_server}
use Rattle.wc_irc.specs.ServerOptions.{settings_of, delete_refusal, connect_refusal}
use Rattle.wc_irc.specs.Servers.{ServerState}
use Rattle.wc_irc.specs.Start.{start_of}
use Rattle.wc_irc_words.specs.Typed.{ServerCommand, AddsServer, DeletesServer, Connects as ConnectsTo, Disconnects, Joins, Parts, Says, Notices, Queries, Does, Renames, SetsTopic, Kicks, SetsModes, AsksNames, Bids, Quotes, Talks, Wrong}
use Rattle.wc_board.specs.Told.{is_close}
use Rattle.wc_servers.specs.Outs.{Out, quit_outs}
use Rattle.wc_servers.specs.Seats.{ServerSeat, server_link}
use Rattle.wc_servers.specs.Texts.{is_change_text}
use Rattle.wc_core.specs.Resolved.{change_of, null, refusal_text, option_text}
use Rattle.wc_core.specs.State.{State, Act, Serves, Quits, Stepped}
use Rattle.wc_core.specs.Changing.{no_step, change_step_if, refused, refusal_step}
use Rattle.wc_core.specs.ServerSteps.{dated, say_step, told_step_if, try_step, on_step, send_step, act_step, acts_step, leave_server, server_loss_step, leave_in, loss_step_if, server_acts_step, with_server, message_step, server_line_step, stands_step, server_of, parting_step, before_step, quit_step}
use Rattle.wc_core.specs.ServerTyped.{is_linked, settings_if, settings_step, delete_step, server_spec, open_step, seat_step, begin_step, is_spent, connect_step_if, connect_step, connects_itself, connect_own_step, connect_each_step, server_names, connect_all_step, unlinked_text, disconnect_step_if, meant_server, acts_in, on_buffer_step, served_step}
use Rattle.wc_core.specs.Served.{close_of}
use Rattle.wc_core.proofs.ChangeCloses.{closes_none-if, changes_if-closes, tells-closes, then-closes}

-- ---- servers

pub out-closes : (j : ℕ) (outs : List Out) (acts : List Act) → close_of j acts ≡ None → close_of j (map Serves outs ++ acts) ≡ None
out-closes j [] acts e = e
out-closes j (out ∷ outs) acts e = out-closes j outs acts e

pub quits-closes : (j : ℕ) (state : State) → close_of j (quit_step state).acts ≡ None
quits-closes j state = out-closes j (flat_map quit_outs state.servers) (Quits ∷ []) refl

pub says-closes : (j : ℕ) (state : State) (text : List ℕ) → close_of j (say_step state text).acts ≡ None
says-closes j state text = closes_none-if j (is_utf8 text) (refusal_step state text) (no_step state) (tells-closes j state text) refl

pub told_if-closes : (j : ℕ) (state : State) (change : Change) (o : Option ChangeRefused) → close_of j (told_step_if state change o).acts ≡ None
told_if-closes j state change None = changes_if-closes j state change None
told_if-closes j state change (Some reason) = says-closes j state (refusal_text reason)

pub tries-closes : (j : ℕ) (tells : Bool) (state : State) (change : Change) → close_of j (try_step tells state change).acts ≡ None
tries-closes j tells state change =
    let told = told_step_if state change (refused state change) in
    let made = change_step_if state change (refused state change) in
    closes_none-if j (is_change_text change.what) (cond tells told made) (no_step state)
    (closes_none-if j tells told made (told_if-closes j state change (refused state change)) (changes_if-closes j state change (refused state change))) refl

pub on-closes : (j : ℕ) (tells : Bool) (state : State) (w : What) (o : Option Handle) → close_of j (on_step tells state w o).acts ≡ None
on-closes j tells state w None = refl
on-closes j tells state w (Some buffer) = tries-closes j tells state (change_of buffer (dated state.moment w))

pub send-closes : (j : ℕ) (state : State) (link : ℕ) (line : List ℕ) (o : Option ServerSeat) → close_of j (send_step state link line o).acts ≡ None
send-closes j state link line None = refl
send-closes j state link line (Some seat) = refl

pub act-closes : (j : ℕ) (tells : Bool) (link : ℕ) (state : State) (a : ServerAct) → close_of j (act_step tells link state a).acts ≡ None
act-closes j tells link state (act.Open spec) = tries-closes j tells state (change_of null (what.Add spec))
act-closes j tells link state (act.On full_name w) = on-closes j tells state w (handle_of_name full_name state.world.groups)
act-closes j tells link state (act.Send line) = send-closes j state link line (at_key server_link link state.servers)
act-closes j tells link state (act.Raise signal payload) = refl
act-closes j tells link state (act.Leave cause) = refl

pub acts-closes : (j : ℕ) (tells : Bool) (link : ℕ) (state : State) (acts : List ServerAct) → close_of j (acts_step tells link state acts).acts ≡ None
acts-closes j tells link state [] = refl
acts-closes j tells link state (a ∷ acts) =
    then-closes j (act_step tells link state a) (λ next. acts_step tells link next acts) (act-closes j tells link state a) (acts-closes j tells link (act_step tells link state a).state acts)

pub server_loss-closes : (j link : ℕ) (cause : Cause) (state : State) (o : Option ServerSeat) → close_of j (server_loss_step link cause state o).acts ≡ None
server_loss-closes j link cause state None = refl
server_loss-closes j link cause state (Some seat) = acts-closes j false link (leave_server link cause state).state (loss_acts state.world.groups seat.server)

pub loss_if-closes : (j link : ℕ) (state : State) (o : Option Cause) → close_of j (loss_step_if link state o).acts ≡ None
loss_if-closes j link state None = refl
loss_if-closes j link state (Some cause) = server_loss-closes j link cause state (at_key server_link link state.servers)

pub server_acts-closes : (j : ℕ) (tells : Bool) (link : ℕ) (state : State) (acts : List ServerAct) → close_of j (server_acts_step tells link state acts).acts ≡ None
server_acts-closes j tells link state acts =
    then-closes j (acts_step tells link state acts) (λ next. loss_step_if link next (leave_in acts)) (acts-closes j tells link state acts) (loss_if-closes j link (acts_step tells link state acts).state (leave_in acts))

pub message-closes : (j : ℕ) (state : State) (link : ℕ) (server : ServerState) (r : Result Message LineRefused) → close_of j (message_step state link server r).acts ≡ None
message-closes j state link server (Err refused) = refl
message-closes j state link server (Ok m) = server_acts-closes j false link (with_server state link (after_server server m)) (acts_of_server state.world.groups server m)

pub server_line-closes : (j : ℕ) (state : State) (link : ℕ) (line : List ℕ) (o : Option ServerSeat) → close_of j (server_line_step state link line o).acts ≡ None
server_line-closes j state link line None = refl
server_line-closes j state link line (Some seat) = message-closes j state link seat.server (reading_of (lossy_of line))

pub stands-closes : (j : ℕ) (state : State) (link : ℕ) (o : Option ServerSeat) → close_of j (stands_step state link o).acts ≡ None
stands-closes j state link None = refl
stands-closes j state link (Some seat) = server_acts-closes j false link (with_server state link (after_connect seat.server)) (first_acts seat.server)

pub part-closes : (j : ℕ) (state : State) (buffer : Handle) (o : Option ServerSeat) → close_of j (parting_step state buffer o).acts ≡ None
part-closes j state buffer None = refl
part-closes j state buffer (Some seat) = acts-closes j false seat.link state (close_acts state.world.groups seat.server buffer)

pub before-closes : (j : ℕ) (state : State) (change : Change) → close_of j (before_step state change).acts ≡ None
before-closes j state change = closes_none-if j (is_close change.what) (parting_step state change.buffer (server_of state change.buffer)) (no_step state) (part-closes j state change.buffer (server_of state change.buffer)) refl

-- ---- what is typed for servers

pub settings_if-closes : (j : ℕ) (state : State) (setting : Pair) (others : State → Stepped) (o : Option SetRefused) → ((s : State) → close_of j (others s).acts ≡ None) → close_of j (settings_if state setting others o).acts ≡ None
settings_if-closes j state setting others None e = e (record state { options = with_value state.options setting.name setting.value })
settings_if-closes j state setting others (Some reason) e = says-closes j state (option_text setting.name reason)

pub settings-closes : (j : ℕ) (state : State) (settings : List Pair) → close_of j (settings_step state settings).acts ≡ None
settings-closes j state [] = refl
settings-closes j state (setting ∷ settings) = settings_if-closes j state setting (λ next. settings_step next settings) (refusal_of state.options setting.name setting.value) (λ s. settings-closes j s settings)

pub deletes-closes : (j : ℕ) (state : State) (name : List ℕ) (o : Option (List ℕ)) → close_of j (delete_step state name o).acts ≡ None
deletes-closes j state name None = refl
deletes-closes j state name (Some text) = says-closes j state text

pub opens-closes : (j : ℕ) (state : State) (s : ServerState) → close_of j (open_step state s).acts ≡ None
opens-closes j state s = closes_none-if j (is_some (handle_of_name (server_spec s).full_name state.world.groups)) (no_step state) (try_step true state (change_of null (what.Add (server_spec s)))) refl (tries-closes j true state (change_of null (what.Add (server_spec s))))

pub begins-closes : (j : ℕ) (state : State) (r : Result ServerState ServerRefused) → close_of j (begin_step state r).acts ≡ None
begins-closes j state (Err refused) = refl
begins-closes j state (Ok s) = then-closes j (open_step state s) (λ next. seat_step next s) (opens-closes j state s) refl

pub connects_if-closes : (j : ℕ) (state : State) (name : List ℕ) (o : Option (List ℕ)) → close_of j (connect_step_if state name o).acts ≡ None
connects_if-closes j state name (Some text) = says-closes j state text
connects_if-closes j state name None =
    closes_none-if j (is_spent state) (say_step state (codes "no handle left")) (begin_step state (start_of state.options name)) (says-closes j state (codes "no handle left")) (begins-closes j state (start_of state.options name))

pub connects-closes : (j : ℕ) (state : State) (name : List ℕ) → close_of j (connect_step state name).acts ≡ None
connects-closes j state name = connects_if-closes j state name (connect_refusal state.options (is_linked state name) name)

pub connects_own-closes : (j : ℕ) (state : State) (name : List ℕ) → close_of j (connect_own_step state name).acts ≡ None
connects_own-closes j state name = closes_none-if j (connects_itself state.options name) (connect_step state name) (no_step state) (connects-closes j state name) refl

pub connects_each-closes : (j : ℕ) (state : State) (names : List (List ℕ)) → close_of j (connect_each_step state names).acts ≡ None
connects_each-closes j state [] = refl
connects_each-closes j state (name ∷ names) =
    then-closes j (connect_own_step state name) (λ next. connect_each_step next names) (connects_own-closes j state name) (connects_each-closes j (connect_own_step state name).state names)

pub connects_all-closes : (j : ℕ) (state : State) → close_of j (connect_all_step state).acts ≡ None
connects_all-closes j state = closes_none-if j state.connects (connect_each_step state (server_names state.options)) (no_step state) (connects_each-closes j state (server_names state.options)) refl

pub disconnects_if-closes : (j : ℕ) (state : State) (name : Option (List ℕ)) (o : Option ServerSeat) → close_of j (disconnect_step_if state name o).acts ≡ None
disconnects_if-closes j state name None = says-closes j state (unlinked_text state.options name)
disconnects_if-closes j state name (Some seat) = server_acts-closes j true seat.link state (disconnect_acts seat.server)

pub on_buffer-closes : (j : ℕ) (state : State) (buffer : Handle) (line : List ℕ) (o : Option ServerSeat) → close_of j (on_buffer_step state buffer line o).acts ≡ None
on_buffer-closes j state buffer line None = server_acts-closes j true 0 state (acts_in (acts_of_unlinked state.world.groups buffer line))
on_buffer-closes j state buffer line (Some seat) = server_acts-closes j true seat.link state (acts_in (acts_of_typed state.world.groups seat.server buffer line))

here-closes : (j : ℕ) (state : State) (buffer : Handle) (line : List ℕ) → close_of j (on_buffer_step state buffer line (server_of state buffer)).acts ≡ None
here-closes j state buffer line = on_buffer-closes j state buffer line (server_of state buffer)

pub serves-closes : (j : ℕ) (state : State) (buffer : Handle) (line text : List ℕ) (o : Option ServerCommand) → close_of j (served_step state buffer line text o).acts ≡ None
serves-closes j state buffer line text None = tells-closes j state text
serves-closes j state buffer line text (Some (AddsServer name address tls)) = settings-closes j state (settings_of name address tls)
serves-closes j state buffer line text (Some (DeletesServer name)) = deletes-closes j state name (delete_refusal state.options (is_linked state name) name)
serves-closes j state buffer line text (Some (ConnectsTo name)) = connects-closes j state name
serves-closes j state buffer line text (Some (Disconnects name)) = disconnects_if-closes j state name (meant_server state buffer name)
serves-closes j state buffer line text (Some (Joins channel)) = here-closes j state buffer line
serves-closes j state buffer line text (Some (Parts reason)) = here-closes j state buffer line
serves-closes j state buffer line text (Some (Says target said)) = here-closes j state buffer line
serves-closes j state buffer line text (Some (Notices target said)) = here-closes j state buffer line
serves-closes j state buffer line text (Some (Queries nick)) = here-closes j state buffer line
serves-closes j state buffer line text (Some (Does deed)) = here-closes j state buffer line
serves-closes j state buffer line text (Some (Renames nick)) = here-closes j state buffer line
serves-closes j state buffer line text (Some (SetsTopic topic)) = here-closes j state buffer line
serves-closes j state buffer line text (Some (Kicks nick reason)) = here-closes j state buffer line
serves-closes j state buffer line text (Some (SetsModes words)) = here-closes j state buffer line
serves-closes j state buffer line text (Some AsksNames) = here-closes j state buffer line
serves-closes j state buffer line text (Some (Bids word said)) = here-closes j state buffer line
serves-closes j state buffer line text (Some (Quotes said)) = here-closes j state buffer line
serves-closes j state buffer line text (Some (Talks said)) = here-closes j state buffer line
serves-closes j state buffer line text (Some (Wrong name)) = here-closes j state buffer line
