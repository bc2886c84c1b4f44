-- What the events of a server's link leave there.
use Rattle.std.proofs.Common.{◌≡◌, ◌⊎◌, inl, inr, ℕ, Bool, true, false, cond, eqb, List, [], ◌∷◌, ◌++◌, map, Option, Some, None, Result, Ok, Err, is_some, refl, ap, ◌∙◌, arith}
use Rattle.std.specs.Str.{is_utf8}
use Rattle.std.proofs.lemmas.Bool.{false≢true}
use Rattle.std.proofs.lemmas.Bool.Decides.{nat_tests}
use Rattle.wc_text.specs.Lossy.{lossy_of}
use Rattle.wc_text.specs.declared.names.Cause.{Cause}
use Rattle.wc_text.specs.declared.names.Handle.{Handle}
use Rattle.wc_outside.specs.Keyed.{at_key}
use Rattle.wc_buffers.specs.Calls.{handle_of_name}
use Rattle.wc_model.specs.declared.change.Change.{Change}
use Rattle.wc_model.specs.declared.change.What.{What}
use Rattle.wc_model.specs.declared.change.What.TheVariants as what
use Rattle.wc_model.specs.declared.refused.ChangeRefused.{ChangeRefused}
use Rattle.wc_ircmsg.specs.declared.message.Message.{Message}
use Rattle.wc_ircmsg.specs.declared.message.LineRefused.{LineRefused}
use Rattle.wc_ircmsg.specs.Answers.{reading_of}
use Rattle.wc_irc.specs.declared.act.Act.{Act as ServerAct}
use Rattle.wc_irc.specs.declared.act.Act.TheVariants as act
use Rattle.wc_irc.specs.LinkActs.{first_acts, after_connect, loss_acts}
use Rattle.wc_irc.specs.ServerActs.{acts_of_server, after_server}
use Rattle.wc_irc.specs.Servers.{ServerState}
use Rattle.wc_session.specs.declared.client.Client.{Client}
use Rattle.wc_servers.specs.Outs.{or_else, part_of}
use Rattle.wc_servers.specs.Seats.{ServerSeat, server_link}
use Rattle.wc_servers.specs.Texts.{is_change_text}
use Rattle.wc_servers.proofs.OutLemmas.{part_of-append}
use Rattle.wc_core.specs.Resolved.{change_of, null, refusal_text, told_refusal}
use Rattle.wc_core.specs.State.{State, Act, Stepped}
use Rattle.wc_core.specs.Served.{outs_of}
use Rattle.wc_core.specs.Changing.{client_link, no_step, then_does, change_step, change_step_if, refused, refusal_step}
use Rattle.wc_core.specs.ServerSteps.{dated, say_step, told_step_if, try_step, on_step, send_step, act_step, acts_step, leave_server, server_loss_step, leave_in, loss_step_if, server_acts_step, with_server, message_step, server_line_step, stands_step}
use Rattle.wc_core.specs.Changing.{put_step}
use Rattle.wc_core.proofs.DidLemmas.{outs_of-append}
use Rattle.wc_turns.proofs.KeyedLemmas.{is_some-put_at}

-- no client comes to the link, and a server that is there stays or is parted with
pub record Stays (link : ℕ) (state : State) (stepped : Stepped) : Type 0 where
  pub clients : at_key client_link link state.clients ≡ None → at_key client_link link stepped.state.clients ≡ None
  pub seated : is_some (at_key server_link link state.servers) ≡ true → (is_some (at_key server_link link stepped.state.servers) ≡ true) ⊎ (is_some (part_of link (outs_of stepped.acts)) ≡ true)

pub stays-still : (link : ℕ) (state : State) → Stays link state (no_step state)
stays-still link state = record { clients = λ none. none; seated = λ there. inl there }

some-front : (a b : Option Cause) → is_some a ≡ true → is_some (or_else a b) ≡ true
some-front (Some cause) b e = refl
some-front None b e = absurd (false≢true e)

some-back : (a b : Option Cause) → is_some b ≡ true → is_some (or_else a b) ≡ true
some-back (Some cause) b e = refl
some-back None b e = e

part-of-outs : (link : ℕ) (a b : List Act) → part_of link (outs_of (a ++ b)) ≡ or_else (part_of link (outs_of a)) (part_of link (outs_of b))
part-of-outs link a b = ap (part_of link) (outs_of-append a b) ∙ part_of-append link (outs_of a) (outs_of b)

pub stays-then : (link : ℕ) (state : State) (first : Stepped) (others : State → Stepped) → Stays link state first → Stays link first.state (others first.state) → Stays link state (then_does first others)
stays-then link state first others h g = record {
  clients = λ none. g.clients (h.clients none);
  seated = λ there. first-by (h.seated there);
} where
  next : Stepped
  next = others first.state

  first-by : (is_some (at_key server_link link first.state.servers) ≡ true) ⊎ (is_some (part_of link (outs_of first.acts)) ≡ true) → (is_some (at_key server_link link next.state.servers) ≡ true) ⊎ (is_some (part_of link (outs_of (first.acts ++ next.acts))) ≡ true)
  first-by (inr parts) = inr (ap is_some (part-of-outs link first.acts next.acts) ∙ some-front (part_of link (outs_of first.acts)) (part_of link (outs_of next.acts)) parts)
  first-by (inl there) = second-by (g.seated there)
    where
      second-by : (is_some (at_key server_link link next.state.servers) ≡ true) ⊎ (is_some (part_of link (outs_of next.acts)) ≡ true) → (is_some (at_key server_link link next.state.servers) ≡ true) ⊎ (is_some (part_of link (outs_of (first.acts ++ next.acts))) ≡ true)
      second-by (inl still) = inl still
      second-by (inr parts) = inr (ap is_some (part-of-outs link first.acts next.acts) ∙ some-back (part_of link (outs_of first.acts)) (part_of link (outs_of next.acts)) parts)

stays-if : (link : ℕ) (state : State) (t : Bool) (x y : Stepped) → Stays link state x → Stays link state y → Stays link state (cond t x y)
stays-if link state true x y h g = h
stays-if link state false x y h g = g

-- the same servers are there, and no client comes
stays-as : (link : ℕ) (state : State) (stepped : Stepped) → stepped.state.servers ≡ state.servers → (at_key client_link link state.clients ≡ None → at_key client_link link stepped.state.clients ≡ None) → Stays link state stepped
stays-as link state stepped same clients = record { clients = clients; seated = λ there. inl (ap (λ servers. is_some (at_key server_link link servers)) same ∙ there) }

-- ---- changes

missing-map : (link : ℕ) (f : Client → Client) (clients : List Client) → ((client : Client) → client_link (f client) ≡ client_link client) → at_key client_link link clients ≡ None → at_key client_link link (map f clients) ≡ None
missing-map link f [] same none = refl
missing-map link f (client ∷ clients) same none = ap (λ n. cond (eqb n link) (Some (f client)) (at_key client_link link (map f clients))) (same client) ∙ map-by (eqb (client_link client) link) none (missing-map link f clients same)
  where
    map-by : (t : Bool) → cond t (Some client) (at_key client_link link clients) ≡ None → (at_key client_link link clients ≡ None → at_key client_link link (map f clients) ≡ None) → cond t (Some (f client)) (at_key client_link link (map f clients)) ≡ None
    map-by true e ih = absurd (let q : Some client ≡ None = e in cc)
    map-by false e ih = ih e

stays-changed : (link : ℕ) (state : State) (change : Change) → Stays link state (change_step state change)
stays-changed link state change = stays-as link state (change_step state change) refl (λ none. missing-map link _ state.clients (λ client. refl) none)

stays-changed-if : (link : ℕ) (state : State) (change : Change) (o : Option ChangeRefused) → Stays link state (change_step_if state change o)
stays-changed-if link state change None = stays-changed link state change
stays-changed-if link state change (Some reason) = stays-still link state

stays-refused : (link : ℕ) (state : State) (text : List ℕ) → Stays link state (refusal_step state text)
stays-refused link state text = stays-changed-if link state (told_refusal state.moment text) (refused state (told_refusal state.moment text))

stays-said : (link : ℕ) (state : State) (text : List ℕ) → Stays link state (say_step state text)
stays-said link state text = stays-if link state (is_utf8 text) (refusal_step state text) (no_step state) (stays-refused link state text) (stays-still link state)

stays-told-if : (link : ℕ) (state : State) (change : Change) (o : Option ChangeRefused) → Stays link state (told_step_if state change o)
stays-told-if link state change None = stays-changed link state change
stays-told-if link state change (Some reason) = stays-said link state (refusal_text reason)

stays-tried : (link : ℕ) (tells : Bool) (state : State) (change : Change) → Stays link state (try_step tells state change)
stays-tried link tells state change =
    let told = told_step_if state change (refused state change) in
    let made = change_step_if state change (refused state change) in
    stays-if link state (is_change_text change.what) (cond tells told made) (no_step state)
    (stays-if link state tells told made (stays-told-if link state change (refused state change)) (stays-changed-if link state change (refused state change))) (stays-still link state)

-- ---- acts

stays-on : (link : ℕ) (tells : Bool) (state : State) (w : What) (o : Option Handle) → Stays link state (on_step tells state w o)
stays-on link tells state w None = stays-still link state
stays-on link tells state w (Some buffer) = stays-tried link tells state (change_of buffer (dated state.moment w))

stays-sent : (link : ℕ) (state : State) (to : ℕ) (line : List ℕ) (o : Option ServerSeat) → Stays link state (send_step state to line o)
stays-sent link state to line None = stays-still link state
stays-sent link state to line (Some seat) = stays-as link state (send_step state to line (Some seat)) refl (λ none. none)

stays-act : (link : ℕ) (tells : Bool) (to : ℕ) (state : State) (a : ServerAct) → Stays link state (act_step tells to state a)
stays-act link tells to state (act.Open spec) = stays-tried link tells state (change_of null (what.Add spec))
stays-act link tells to state (act.On full_name w) = stays-on link tells state w (handle_of_name full_name state.world.groups)
stays-act link tells to state (act.Send line) = stays-sent link state to line (at_key server_link to state.servers)
stays-act link tells to state (act.Raise signal payload) = stays-still link state
stays-act link tells to state (act.Leave cause) = stays-still link state

stays-acts : (link : ℕ) (tells : Bool) (to : ℕ) (state : State) (acts : List ServerAct) → Stays link state (acts_step tells to state acts)
stays-acts link tells to state [] = stays-still link state
stays-acts link tells to state (a ∷ acts) =
    stays-then link state (act_step tells to state a) (λ next. acts_step tells to next acts) (stays-act link tells to state a) (stays-acts link tells to (act_step tells to state a).state acts)

-- ---- a loss

eqb-same : (k : ℕ) → eqb k k ≡ true
eqb-same k = grind (arith, nat_tests)

pub stays-lost : (link : ℕ) (cause : Cause) (state : State) (o : Option ServerSeat) → Stays link state (server_loss_step link cause state o)
stays-lost link cause state None = stays-still link state
stays-lost link cause state (Some seat) =
    let acts = loss_acts state.world.groups seat.server in
    stays-then link state (leave_server link cause state) (λ next. acts_step false link next acts)
    (record { clients = λ none. none; seated = λ there. inr (rw (eqb-same link) refl) }) (stays-acts link false link (leave_server link cause state).state acts)

stays-lost-if : (link : ℕ) (state : State) (o : Option Cause) → Stays link state (loss_step_if link state o)
stays-lost-if link state None = stays-still link state
stays-lost-if link state (Some cause) = stays-lost link cause state (at_key server_link link state.servers)

stays-server : (link : ℕ) (tells : Bool) (state : State) (acts : List ServerAct) → Stays link state (server_acts_step tells link state acts)
stays-server link tells state acts =
    stays-then link state (acts_step tells link state acts) (λ next. loss_step_if link next (leave_in acts)) (stays-acts link tells link state acts) (stays-lost-if link (acts_step tells link state acts).state (leave_in acts))

-- the server of a link becomes another one, and acts
stays-with : (link : ℕ) (state : State) (server : ServerState) (acts : List ServerAct) → Stays link state (then_does (put_step (with_server state link server)) (λ next. server_acts_step false link next acts))
stays-with link state server acts =
    let h = stays-server link false (with_server state link server) acts in
    record {
      clients = λ none. h.clients none;
      seated = λ there. h.seated (is_some-put_at server_link link link (record { link = link; server = server }) state.servers refl ∙ there);
    }

stays-message : (link : ℕ) (state : State) (server : ServerState) (r : Result Message LineRefused) → Stays link state (message_step state link server r)
stays-message link state server (Err reason) = stays-still link state
stays-message link state server (Ok m) = stays-with link state (after_server server m) (acts_of_server state.world.groups server m)

-- ---- the events of a link

pub stays-line : (link : ℕ) (state : State) (line : List ℕ) (o : Option ServerSeat) → Stays link state (server_line_step state link line o)
stays-line link state line None = stays-still link state
stays-line link state line (Some seat) = stays-message link state seat.server (reading_of (lossy_of line))

pub stays-stood : (link : ℕ) (state : State) (o : Option ServerSeat) → Stays link state (stands_step state link o)
stays-stood link state None = stays-still link state
stays-stood link state (Some seat) = stays-with link state (after_connect seat.server) (first_acts seat.server)
