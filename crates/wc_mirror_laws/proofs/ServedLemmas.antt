-- What is typed for servers reaches the client that follows.
use Rattle.std.proofs.Common.{ℕ, ◌+◌, Bool, true, false, cond, List, [], ◌∷◌, Option, Some, None, Result, Ok, Err, refl}
use Rattle.std.specs.Prelude.{codes, is_some}
use Rattle.wc_text.specs.Splits.{BeginsWithout}
use Rattle.wc_text.specs.declared.names.Handle.{Handle}
use Rattle.wc_text.specs.declared.names.Pair.{Pair}
use Rattle.wc_buffers.specs.Calls.{handle_of_name}
use Rattle.wc_buffers.specs.declared.row.BufferSpec.{BufferSpec}
use Rattle.wc_model.specs.declared.change.What.TheVariants as what
use Rattle.wc_options.specs.Options.{refusal_of, without, with_value}
use Rattle.wc_options.specs.declared.refusal.SetRefused.{SetRefused}
use Rattle.wc_irc.specs.declared.refused.ServerRefused.{ServerRefused}
use Rattle.wc_irc.specs.CloseActs.{disconnect_acts}
use Rattle.wc_irc.specs.CommandActs.{acts_of_typed, acts_of_unlinked}
use Rattle.wc_irc.specs.ServerOptions.{settings_of, delete_refusal, connect_refusal}
use Rattle.wc_irc.specs.Servers.{ServerState}
use Rattle.wc_irc.specs.Start.{start_of}
use Rattle.wc_irc_texts.specs.Texts.{in_one_line}
use Rattle.wc_irc_words.specs.Typed.{ServerCommand, AddsServer, DeletesServer, Connects as ConnectsTo, Disconnects, asked_of}
use Rattle.wc_servers.specs.Outs.{Connects}
use Rattle.wc_servers.specs.Seats.{ServerSeat}
use Rattle.wc_core.specs.Resolved.{change_of, null, option_text}
use Rattle.wc_core.specs.State.{State, Serves, Stepped}
use Rattle.wc_core.specs.Step.{no_step}
use Rattle.wc_core.specs.ServerSteps.{say_step, try_step, server_of}
use Rattle.wc_core.specs.ServerTyped.{is_linked, settings_if, settings_step, delete_step, server_spec, open_new_step, open_step, seat_step, begin_step, is_spent, connect_step_if, connect_step, connects_itself, connect_own_step, connect_each_step, server_names, connect_all_step, unlinked_text, disconnect_step_if, meant_server, acts_in, on_buffer_step, served_step, served_line_step}
use Rattle.wc_mirror_laws.specs.Held.{HeldPart}
use Rattle.wc_mirror_laws.specs.Kept.{IsStateKept}
use Rattle.wc_mirror_laws.proofs.ChangeLemmas.{Tells, Tells-stays, Tells-then, Tells-tells}
use Rattle.wc_mirror_laws.proofs.MildCommands.{mild_disconnect, mild_typed, mild_unlinked}
use Rattle.wc_mirror_laws.proofs.ServerLemmas.{kept_aside, Tells-aside, Tells-put, Tells-says, Tells-tries, Tells-server}

module _ (which : HeldPart) (limit : Option ℕ) (link : ℕ) (id : List ℕ) (free : BeginsWithout 95 id) where
  abbrev Kept : State → Type 0
  Kept state = IsStateKept link state

  abbrev Does : State → Stepped → Type 0
  Does state stepped = Tells which limit link id state stepped

  stays : (state : State) → Kept state → Does state (no_step state)
  stays state kept = Tells-stays which limit link id state kept

  says : (state : State) (text : List ℕ) → Kept state → Does state (say_step state text)
  says state text kept = Tells-says which limit link id free state text kept

  -- ---- `/server`

  Tells-settings : (state : State) (settings : List Pair) → Kept state → Does state (settings_step state settings)
  Tells-settings state [] kept = stays state kept
  Tells-settings state (setting ∷ settings) kept = by (refusal_of state.options setting.name setting.value) (λ next k. Tells-settings next settings k) where
    next : State
    next = record state { options = with_value state.options setting.name setting.value }

    by : (o : Option SetRefused) → ((next : State) → Kept next → Does next (settings_step next settings)) → Does state (settings_if state setting (λ next. settings_step next settings) o)
    by None others =
        Tells-put which limit link id free state next.options state.servers state.used (λ next. settings_step next settings) (others next (kept_aside link state next.options state.servers state.used kept))
    by (Some reason) others = says state (option_text setting.name reason) kept

  Tells-deletes : (state : State) (name : List ℕ) (o : Option (List ℕ)) → Kept state → Does state (delete_step state name o)
  Tells-deletes state name None kept = Tells-aside which limit link id free state (record state.options { servers = without name state.options.servers }) state.servers state.used [] refl kept
  Tells-deletes state name (Some text) kept = says state text kept

  -- ---- `/connect`

  Tells-opens : (state : State) (spec : BufferSpec) → Kept state → Does state (open_new_step state spec)
  Tells-opens state spec kept = by (is_some (handle_of_name spec.full_name state.world.groups)) where
    by : (b : Bool) → Does state (cond b (no_step state) (try_step true state (change_of null (what.Add spec))))
    by true = stays state kept
    by false = Tells-tries which limit link id free true state (change_of null (what.Add spec)) kept tt

  Tells-seats : (state : State) (s : ServerState) → Kept state → Does state (seat_step state s)
  Tells-seats state s kept =
      let next = (seat_step state s).state in
      Tells-aside which limit link id free state state.options next.servers next.used (Serves (Connects (state.used + 1) s.address s.name) ∷ []) refl kept

  Tells-begins : (state : State) (o : Result ServerState ServerRefused) → Kept state → Does state (begin_step state o)
  Tells-begins state (Err refused) kept = stays state kept
  Tells-begins state (Ok s) kept =
      let first = Tells-opens state (server_spec s) kept in
      Tells-then which limit link id state (open_step state s) (λ next. seat_step next s) first (Tells-seats (open_step state s).state s first.kept)

  Tells-connects : (state : State) (name : List ℕ) → Kept state → Does state (connect_step state name)
  Tells-connects state name kept = by (connect_refusal state.options (is_linked state name) name) where
    free_number : (b : Bool) → Does state (cond b (say_step state (codes "no handle left")) (begin_step state (start_of state.options name)))
    free_number true = says state (codes "no handle left") kept
    free_number false = Tells-begins state (start_of state.options name) kept

    by : (o : Option (List ℕ)) → Does state (connect_step_if state name o)
    by None = free_number (is_spent state)
    by (Some text) = says state text kept

  Tells-own : (state : State) (name : List ℕ) → Kept state → Does state (connect_own_step state name)
  Tells-own state name kept = by (connects_itself state.options name) where
    by : (b : Bool) → Does state (cond b (connect_step state name) (no_step state))
    by true = Tells-connects state name kept
    by false = stays state kept

  Tells-each : (state : State) (names : List (List ℕ)) → Kept state → Does state (connect_each_step state names)
  Tells-each state [] kept = stays state kept
  Tells-each state (name ∷ names) kept =
      let first = Tells-own state name kept in
      Tells-then which limit link id state (connect_own_step state name) (λ next. connect_each_step next names) first (Tells-each (connect_own_step state name).state names first.kept)

  -- the servers that are connected by themselves
  pub Tells-all : (state : State) → Kept state → Does state (connect_all_step state)
  Tells-all state kept = by state.connects where
    by : (b : Bool) → Does state (cond b (connect_each_step state (server_names state.options)) (no_step state))
    by true = Tells-each state (server_names state.options) kept
    by false = stays state kept

  -- ---- `/disconnect`, and what is typed on a buffer

  Tells-disconnects : (state : State) (name : Option (List ℕ)) (o : Option ServerSeat) → Kept state → Does state (disconnect_step_if state name o)
  Tells-disconnects state name None kept = says state (unlinked_text state.options name) kept
  Tells-disconnects state name (Some seat) kept = Tells-server which limit link id free true seat.link state (disconnect_acts seat.server) kept (mild_disconnect seat.server)

  Tells-typed : (state : State) (buffer : Handle) (line : List ℕ) (o : Option ServerSeat) → Kept state → Does state (on_buffer_step state buffer line o)
  Tells-typed state buffer line None kept =
      Tells-server which limit link id free true 0 state (acts_in (acts_of_unlinked state.world.groups buffer line)) kept (mild_unlinked state.world.groups buffer line)
  Tells-typed state buffer line (Some seat) kept =
      Tells-server which limit link id free true seat.link state (acts_in (acts_of_typed state.world.groups seat.server buffer line)) kept (mild_typed state.world.groups seat.server buffer line)

  Tells-asked : (state : State) (buffer : Handle) (line text : List ℕ) (o : Option ServerCommand) → Kept state → Does state (served_step state buffer line text o)
  Tells-asked state buffer line text None kept = Tells-tells which limit link id state text free kept
  Tells-asked state buffer line text (Some (AddsServer name address tls)) kept = Tells-settings state (settings_of name address tls) kept
  Tells-asked state buffer line text (Some (DeletesServer name)) kept = Tells-deletes state name (delete_refusal state.options (is_linked state name) name) kept
  Tells-asked state buffer line text (Some (ConnectsTo name)) kept = Tells-connects state name kept
  Tells-asked state buffer line text (Some (Disconnects name)) kept = Tells-disconnects state name (meant_server state buffer name) kept
  Tells-asked state buffer line text (Some _) kept = Tells-typed state buffer line (server_of state buffer) kept

  pub Tells-serves : (state : State) (buffer : Handle) (line text : List ℕ) → Kept state → Does state (served_line_step state buffer line text)
  Tells-serves state buffer line text kept = Tells-asked state buffer line text (asked_of (in_one_line line)) kept
