-- The core at first, and what it does of nicklists.
use Rattle.std.proofs.Common.{◌≡◌, ℕ, ◌-◌, ◌^◌, ◌<◌, ◌≤◌, Bool, true, false, cond, eqb, List, [], ◌∷◌, ◌++◌, inl, inr, arith, None, Some, unwrap_or, refl, ap, sym, subst, ◌∙◌, ◌||◌}
use Rattle.std.specs.Prelude.{map}
use Rattle.std.specs.List.{flat_map}
use Rattle.std.specs.FinMap.{FinMap, get, insert, empty, get-empty, get-insert}
use Rattle.std.specs.Ordering.{nat_cmp}
use Rattle.std.specs.Cmp.{nat_cmp_total}
use Rattle.wc_text.specs.declared.names.Handle.{Handle}
use Rattle.wc_nickdiff.specs.declared.diff_item.Push.{Push}
use Rattle.wc_session.specs.Event.{push_told}
use Rattle.wc_session.specs.Sending.{spelling}
use Rattle.wc_outside.specs.Keyed.{at_key}
use Rattle.wc_nicklist.specs.declared.item.Row.{Row}
use Rattle.wc_nicklist.specs.Rows.{IsRows, find_row}
use Rattle.wc_nickdiff.specs.Held.{OfBuffer}
use Rattle.wc_nickdiff.specs.Told.{told_or}
use Rattle.wc_model.specs.World.{World, rows_at, first_world}
use Rattle.wc_model.specs.Order.{order}
use Rattle.wc_objects.specs.declared.object.WireMessage.{WireMessage}
use Rattle.wc_options.specs.Options.{OptionsValue}
use Rattle.wc_session.specs.declared.client.Client.{Client}
use Rattle.wc_world.proofs.HeldLemmas.{tied}
use Rattle.wc_board.specs.declared.connection.Connection.{Connection}
use Rattle.wc_board.specs.Connections.{connection_link, is_open, leaving_in, leaving_on}
use Rattle.wc_board.specs.Pushes.{pushes_told, sent_connection, pushed_connection, AreHeld}
use Rattle.wc_board.specs.Served.{ConnectionsKept}
use Rattle.wc_board.specs.Told.{told_of, AreTold, AreSameTouches}
use Rattle.wc_core.specs.State.{Beside}
use Rattle.wc_board.proofs.ConnectionLemmas.{ConnectionsKept-links, ConnectionsKept-leaving, ConnectionsKept-causes}
use Rattle.wc_board.proofs.PushConnections.{sent_client}
use Rattle.wc_board.proofs.TellLaw.{rows_told}
use Rattle.wc_servers.specs.Seats.{no_servers, open_of}
use Rattle.wc_core.specs.CoreView.{CoreView}
use Rattle.wc_core.specs.BoardSteps.{board_of, Keeps, Pushes, StepsBy}
use Rattle.wc_core.proofs.BoardStepLemmas.{steps-one, steps-both, by-both, by-one}
use Rattle.wc_board.specs.Answered.{IsPushed}
use Rattle.wc_core.specs.State.{State, Stepped, first_state, has_end}
use Rattle.wc_core.specs.Events.{Tick}
use Rattle.wc_core.specs.Step.{step, client_link, pushed_to, push_step, pushes_of, push_at}
use Rattle.wc_core.specs.Served.{links_of, clients_of, state_of, WereTold, Means, or_else, outs_of, Distinct, Follows, KeepsClients, Does, plain_beside}
use Rattle.wc_core.proofs.CloseLemmas.{pushes-closes}
use Rattle.wc_core.proofs.ConnectionLemmas.{end-sends, outs-sends}
use Rattle.wc_core.proofs.DidLemmas.{or_else-none, or-false, has_end-append, outs_of-append, no-outs, no-order, servers-same, saves-as}
use Rattle.wc_core.proofs.PushBytes.{pushes-sent, pushed-clients}
use Rattle.wc_eval.specs.Verdicts.{Oracle, VerdictsView}
use Rattle.wc_core.proofs.ComeLemmas.{ServersKeep-refl}
use Rattle.wc_core.proofs.OracleLemmas.{verdicts-same, Stay-refl}
use Rattle.wc_core.specs.Contained.{Rest, beside_in, rest_in, state_with, last_stage, Holds, IsDone, Contains, Counts, Runs}

-- ---- the core at first

rows_inserted : (nicks : FinMap nat_cmp (List Row)) (k q : ℕ) → unwrap_or (get nicks q) [] ≡ [] → unwrap_or (get (insert nicks k []) q) [] ≡ []
rows_inserted nicks k q none = ap (λ o. unwrap_or o []) (get-insert nat_cmp_total nicks k [] q ∙ ap (λ b. cond b (Some []) (get nicks q)) (tied q k)) ∙ by (eqb q k) where
  no_rows : List Row
  no_rows = []

  by : (b : Bool) → unwrap_or (cond b (Some no_rows) (get nicks q)) no_rows ≡ no_rows
  by true = refl
  by false = none

first_rows : (limit : ℕ) (b : ℕ) → rows_at (first_world limit) b ≡ []
first_rows limit b = rows_inserted empty 1 b (ap (λ o. unwrap_or o []) (get-empty nat_cmp b))

no_rows_held : IsRows []
no_rows_held = record { ascending = tt; keyed = tt; held = λ k r e. absurd (cc) }

first_held : (limit : ℕ) → AreHeld (first_world limit)
first_held limit b = subst IsRows (sym (first_rows limit b)) no_rows_held

pub first-means : (oracle : Oracle) (verdicts : VerdictsView) (options : OptionsValue) (limit : ℕ) (commands : List (List ℕ)) (starved cuts : ℕ) (quits : Bool)
    → Means (record { options = options; world = first_world limit; pending = []; connections = []; moment = 0; commands = commands; saved = None; unwritten = false; hotlist = []; filters = []; servers = no_servers; verdicts = verdicts; connects = true; starved = starved; cuts = cuts; quits = quits }) (first_state oracle options limit commands)
first-means oracle verdicts options limit commands starved cuts quits = record { same = refl; told = rows_told (first_world limit) [] (first_held limit) (λ b. refl) }

-- ---- what is kept of touches

-- what the core means stays where the same is kept
pub same-told : (old : CoreView) (pending : List OfBuffer) (told : Beside) → AreSameTouches old.pending pending → WereTold old told → WereTold (record old { pending = pending }) told
same-told old pending told same were b = record {
  held = (were b).held;
  found = λ k. ap (λ first. told_or first (find_row k (rows_at old.world b.0))) (same b k) ∙ (were b).found k;
}

-- where what was touched is kept in another way, all clients stay
pub keeps-touches : (old : CoreView) (pending : List OfBuffer) → AreSameTouches old.pending pending → KeepsClients old (record old { pending = pending })
keeps-touches old pending same = record {
  board = steps-one (board_of old) (record (board_of old) { pending = pending }) (Keeps (record { same = same; put = refl }));
  rises = omega arith;
  links = refl;
  kept = λ j some. refl;
  saves = inl (refl, refl);
  servers = ServersKeep-refl old.servers;
  verdicts = Stay-refl old.verdicts;
}

-- so what is done after that is done
pub Runs-over : (old mid new : CoreView) (step : State → Stepped) → mid ≡ record old { pending = mid.pending } → AreSameTouches old.pending mid.pending → Runs mid new step → Runs old new step
Runs-over old mid new step e same done =
    let P : CoreView → Type 0 = λ c. Runs c new step in
    over (subst P e done)
  where
    over : Runs (record old { pending = mid.pending }) new step → Runs old new step
    over done = λ told.
        let f = done told in
        record {
          keeps = record { board = steps-both (board_of old) (record (board_of old) { pending = mid.pending }) (board_of new) (steps-one (board_of old) (record (board_of old) { pending = mid.pending }) (Keeps (record { same = same; put = refl }))) f.keeps.board; rises = f.keeps.rises; links = f.keeps.links; kept = f.keeps.kept; saves = f.keeps.saves; servers = f.keeps.servers; verdicts = f.keeps.verdicts };
          board = by-both (board_of old) (record (board_of old) { pending = mid.pending }) (board_of new) (by-one (board_of old) (record (board_of old) { pending = mid.pending }) (Keeps (record { same = same; put = refl })) tt) f.board;
          counts = record { dropped = f.counts.dropped; short = f.counts.short; own = f.counts.own; lost = f.counts.lost; leaving = f.counts.leaving; counted = f.counts.counted; cuts = f.counts.cuts };
          causes = f.causes;
          does = λ here stays below distinct were agrees.
              let g = f.does here stays below distinct (same-told old mid.pending (beside_in told) same were) agrees in
              record { means = g.means; oracle = g.oracle; bytes = g.bytes; leaving = g.leaving; quits = g.quits; servers = g.servers; parts = g.parts };
          contains = λ below distinct were agrees.
              let is = f.contains below distinct (same-told old mid.pending (beside_in told) same were) agrees in
              record { whole = λ uncut. (let d = is.whole uncut in record { holds = d.holds; is_on = d.is_on; oracle = d.oracle; quits = d.quits; servers = d.servers }); part = record { stage = is.part.stage; is_on = is.part.is_on; holds = is.part.holds; servers = is.part.servers }; quits = is.quits };
        }

-- ---- pushes

pushed-ends : (buffer : Handle) (push : Push) (clients : List Client) → has_end (flat_map (pushed_to buffer push) clients) ≡ false
pushed-ends buffer push [] = refl
pushed-ends buffer push (client ∷ clients) =
    has_end-append (pushed_to buffer push client) (flat_map (pushed_to buffer push) clients)
    ∙ ap (λ t. t || has_end (flat_map (pushed_to buffer push) clients)) (end-sends (client_link client) (push_told buffer push client)) ∙ pushed-ends buffer push clients

each-ends : (state : State) (buffers : List ℕ) → has_end (flat_map (pushes_of state) buffers) ≡ false
each-ends state [] = refl
each-ends state (buffer ∷ buffers) =
    has_end-append (pushes_of state buffer) (flat_map (pushes_of state) buffers)
    ∙ ap (λ t. t || has_end (flat_map (pushes_of state) buffers)) (pushed-ends (record { 0 = buffer }) (push_at state buffer) state.clients) ∙ each-ends state buffers

pub pushes-end : (state : State) → has_end (push_step state).acts ≡ false
pushes-end state = each-ends state (order state.world.groups)

pushed-outs : (buffer : Handle) (push : Push) (clients : List Client) → outs_of (flat_map (pushed_to buffer push) clients) ≡ []
pushed-outs buffer push [] = refl
pushed-outs buffer push (client ∷ clients) =
    outs_of-append (pushed_to buffer push client) (flat_map (pushed_to buffer push) clients)
    ∙ ap (λ t. t ++ outs_of (flat_map (pushed_to buffer push) clients)) (outs-sends (client_link client) (push_told buffer push client)) ∙ pushed-outs buffer push clients

each-outs : (state : State) (buffers : List ℕ) → outs_of (flat_map (pushes_of state) buffers) ≡ []
each-outs state [] = refl
each-outs state (buffer ∷ buffers) =
    outs_of-append (pushes_of state buffer) (flat_map (pushes_of state) buffers)
    ∙ ap (λ t. t ++ outs_of (flat_map (pushes_of state) buffers)) (pushed-outs (record { 0 = buffer }) (push_at state buffer) state.clients) ∙ each-outs state buffers

pushes-outs : (state : State) → outs_of (push_step state).acts ≡ []
pushes-outs state = each-outs state (order state.world.groups)

sent_leaving : (messages : List WireMessage) (connection : Connection) → (sent_connection messages connection).leaving ≡ connection.leaving
sent_leaving messages connection = by (is_open connection) where
  by : (b : Bool) → (cond b (record connection { session = record connection.session { unsent = connection.session.unsent ++ flat_map (λ m. spelling m) messages } }) connection).leaving ≡ connection.leaving
  by true = refl
  by false = refl

pushed_link : (w : World) (told : ℕ → List Row) (ns : List ℕ) (connection : Connection) → connection_link (pushed_connection w told ns connection) ≡ connection_link connection
pushed_link w told ns connection = ap client_link (sent_client (pushes_told w told ns connection.session.client) connection)

pushed_leaving : (j : ℕ) (w : World) (told : ℕ → List Row) (ns : List ℕ) (connections : List Connection) → leaving_on j (map (pushed_connection w told ns) connections) ≡ leaving_on j connections
pushed_leaving j w told ns [] = refl
pushed_leaving j w told ns (connection ∷ connections) =
    let push = pushed_connection w told ns in
    ap (λ n. leaving_in (cond (eqb n j) (Some (push connection)) (at_key connection_link j (map push connections)))) (pushed_link w told ns connection)
    ∙ by (eqb (connection_link connection) j) (pushed_leaving j w told ns connections)
  where
    by : (t : Bool) → leaving_on j (map (pushed_connection w told ns) connections) ≡ leaving_on j connections
        → leaving_in (cond t (Some (pushed_connection w told ns connection)) (at_key connection_link j (map (pushed_connection w told ns) connections))) ≡ leaving_in (cond t (Some connection) (at_key connection_link j connections))
    by true more = sent_leaving (pushes_told w told ns connection.session.client) connection
    by false more = more

-- the core after its pushes, whatever memory was refused
pub record IsPushedCore (old new : CoreView) : Type 0 where
  pub board : IsPushed (board_of old) (board_of new)
  pub stays : new ≡ record old { pending = new.pending; connections = new.connections; starved = new.starved }
  pub kept : ConnectionsKept old.connections new.connections
  pub rows : AreTold new.world new.pending (rows_at new.world)
  pub rises : old.starved ≤ new.starved
  pub counts : Counts 0 old new
  -- all of it is done, or want of memory was counted
  pub all : (old.starved < 2 ^ 64 - 1 → new.starved ≡ old.starved → (told : ℕ → List Row) → AreTold old.world old.pending told → new.connections ≡ map (pushed_connection old.world told (order old.world.groups)) old.connections)

pushed_keeps : (old new : CoreView) → IsPushedCore old new → KeepsClients old new
pushed_keeps old new is = record {
  board = steps-one (board_of old) (board_of new) (Pushes is.board);
  rises = is.rises;
  links = ConnectionsKept-links old.connections new.connections is.kept;
  kept = λ j some. ConnectionsKept-leaving j old.connections new.connections is.kept some;
  saves = saves-as old new (record old { pending = new.pending; connections = new.connections; starved = new.starved }) is.stays refl refl;
  servers = servers-same old new (ap (λ (c : CoreView). c.servers) is.stays);
  verdicts = verdicts-same old.verdicts new.verdicts (ap (λ (c : CoreView). c.verdicts) is.stays);
}

pub push-done : (old new : CoreView) → IsPushedCore old new → Runs old new push_step
push-done old new is = λ told. record {
  keeps = pushed_keeps old new is;
  board = by-one (board_of old) (board_of new) (Pushes is.board) tt;
  counts = is.counts;
  causes = λ here distinct j. inr (ConnectionsKept-causes j old.connections new.connections is.kept);
  does = λ here same below distinct were agrees.
      let P : List Client → Type 0 = λ clients. Follows (beside_in told) old new (push_step (record (state_with old told) { clients = clients })) in
      subst P (sym here) (by (beside_in told) same below distinct were);
  contains = λ below distinct were agrees. record { whole = λ uncut. done told; quits = λ over. sym (done told).quits ∙ over; part = record { stage = last_stage (push_step (state_with old told)); is_on = inr refl; holds = (done told).holds; servers = (done told).servers } };
} where
  next : CoreView
  next = record old { pending = new.pending; connections = new.connections; starved = new.starved }

  rows : AreTold old.world new.pending (rows_at old.world)
  rows = let P : World → Type 0 = λ w. AreTold w new.pending (rows_at w) in subst P (ap (λ (c : CoreView). c.world) is.stays) is.rows

  done : (told : Rest) → IsDone told old new (push_step (state_with old told))
  done told =
      let state = state_with old told in
      let P : CoreView → Type 0 = λ c. IsDone told old c (push_step state) in
      subst P (sym is.stays) (record {
        holds = record { same = refl; told = rows };
        is_on = inr refl;
        oracle = refl;
        quits = sym (ap (λ t. old.quits || t) (pushes-end state) ∙ or-false old.quits);
        servers = no-outs old next (push_step state).acts refl (pushes-outs state);
      })

  by : (told : Beside) → new.starved ≡ old.starved → old.starved < 2 ^ 64 - 1 → Distinct (links_of old) → WereTold old told → Follows told old new (push_step (state_of old told))
  by told same below distinct were =
      let state = state_of old told in
      let pushed = is.all below same (told_of told.rows) were in
      let of : List Client → State = λ clients. record { options = old.options; clients = clients; world = old.world; told = old.world.nicks; moment = old.moment; commands = old.commands; saved = old.saved; hotlist = old.hotlist; filters = old.filters; servers = open_of old.servers.seats; used = old.servers.used; connects = old.connects; oracle = told.oracle } in
      let P : CoreView → Type 0 = λ c. Follows told old c (push_step state) in
      subst P (sym is.stays) (record {
        means = record { same = ap of (sym (ap clients_of pushed ∙ pushed-clients old.world (told_of told.rows) (order old.world.groups) old.connections)); told = rows };
        oracle = refl;
        bytes = λ j. pushes-sent j state old.world old.connections new.connections refl refl distinct pushed;
        leaving = λ j. ap (leaving_on j) pushed ∙ pushed_leaving j old.world (told_of told.rows) (order old.world.groups) old.connections ∙ sym (ap (or_else (leaving_on j old.connections)) (pushes-closes j state) ∙ or_else-none (leaving_on j old.connections));
        quits = sym (ap (λ t. old.quits || t) (pushes-end state) ∙ or-false old.quits);
        servers = no-outs old next (push_step state).acts refl (pushes-outs state);
        parts = no-order old next (push_step state).acts refl (pushes-outs state);
      })

-- a tick sets the moment, and then pushes
pub tick-done : (old new : CoreView) (moment : ℕ) → Runs (record old { moment = moment }) new push_step → Does old new (λ state. step state (Tick moment))
tick-done old new moment run = λ told.
    let f = run (rest_in old told) in
    record {
      keeps = record { board = f.keeps.board; rises = f.keeps.rises; links = f.keeps.links; kept = f.keeps.kept; saves = f.keeps.saves; servers = f.keeps.servers; verdicts = f.keeps.verdicts };
      causes = λ distinct j. f.causes refl distinct j;
      does = λ same below distinct were agrees. (let g = f.does refl same below distinct were agrees in record { means = g.means; oracle = g.oracle; bytes = g.bytes; leaving = g.leaving; quits = g.quits; servers = g.servers; parts = g.parts });
    }

-- nothing of it is cut short
pub tick-contained : (old new : CoreView) (moment : ℕ) → Runs (record old { moment = moment }) new push_step → new.cuts ≡ old.cuts → Contains old new (λ state. step state (Tick moment))
tick-contained old new moment run uncut = λ told below distinct were agrees.
    let d = ((run (rest_in old told)).contains below distinct were agrees).whole uncut in
    let holds : Holds new (step (state_of old told) (Tick moment)).state = record { same = d.holds.same; told = d.holds.told } in
    record {
      whole = λ same. record { holds = holds; is_on = inr refl; oracle = d.oracle; quits = d.quits; servers = d.servers };
      part = record { stage = last_stage (step (state_of old told) (Tick moment)); is_on = inr refl; holds = holds; servers = d.servers };
      quits = λ over. sym d.quits ∙ over;
    }

pub tick-counts : (old new : CoreView) (moment : ℕ) → Runs (record old { moment = moment }) new push_step → Counts 0 old new
tick-counts old new moment run =
    let f = (run (rest_in old (plain_beside old))).counts in
    record { dropped = f.dropped; short = f.short; own = f.own; lost = f.lost; leaving = f.leaving; counted = f.counted; cuts = f.cuts }

pub tick-board : (old new : CoreView) (moment : ℕ) → Runs (record old { moment = moment }) new push_step → StepsBy None (board_of old) (board_of new)
tick-board old new moment run =
    let f = (run (rest_in old (plain_beside old))).board in
    record { boards = f.boards; steps = f.steps }
