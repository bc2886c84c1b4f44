-- Whom the events of one link close.
use Rattle.std.proofs.Common.{◌≡◌, ◌≢◌, ℕ, ◌⊎◌, inl, inr, Bool, true, false, ◌&&◌, ◌||◌, not, cond, eqb, nat_le, List, [], ◌∷◌, ◌++◌, length, map, All, Option, Some, None, is_some, append_assoc, refl, sym, ap, ◌∙◌, subst, arith}
use Rattle.std.specs.List.{flat_map}
use Rattle.std.specs.Option.{is_none}
use Rattle.std.proofs.lemmas.Bool.{false≢true}
use Rattle.std.proofs.lemmas.Bool.Decides.{nat_tests}
use Rattle.std.proofs.lemmas.List.{append-nil}
use Rattle.std.proofs.lemmas.List.Elements.{All-nil, All-cons, All-head, All-tail, All-append}
use Rattle.wc_text.specs.declared.names.Pair.{Pair}
use Rattle.wc_text.specs.declared.names.Cause.{Cause}
use Rattle.wc_text.specs.declared.names.Cause.TheVariants.{Ended, Failed, LoginFailed, Quit, BadSocket}
use Rattle.wc_outside.specs.Keyed.{at_key, put_at}
use Rattle.wc_text.specs.declared.names.Handle.{Handle}
use Rattle.wc_model.specs.World.{World}
use Rattle.wc_objects.specs.declared.object.WireMessage.{WireMessage}
use Rattle.wc_relaycmd.specs.Answers.{request_of}
use Rattle.wc_relaycmd.specs.declared.request.Command.{Command}
use Rattle.wc_relaycmd.specs.declared.request.Command.TheVariants as ask
use Rattle.wc_relaycmd.specs.declared.request.Request.{Request}
use Rattle.wc_session.specs.declared.client.Client.{Client}
use Rattle.wc_session.specs.declared.outcome.Outcome.{Outcome}
use Rattle.wc_session.specs.declared.outcome.Outcome.TheVariants as outcome
use Rattle.wc_session.specs.Handshakes.{choice_in, algorithm_for}
use Rattle.wc_session.specs.Logins.{pairs_let_in}
use Rattle.wc_session.specs.Names.{buffer_named}
use Rattle.wc_session.specs.RequestContext.{Context}
use Rattle.wc_session.specs.Heeded.{password_of, masks_of}
use Rattle.wc_session.specs.Reply.{Answer, silent, replies, leaves as drops, typed_into, shaken, handshake_reply, handshake_answer, init_answer, is_open, served, reply_of}
use Rattle.wc_core.specs.Events.{Event, Start, Tick, Arrives, Line as LineCame, Stands, Ends, Fails, Breaks, ListenFails}
use Rattle.wc_core.specs.Contexts.{context_of}
use Rattle.wc_core.specs.ServerSteps.{server_line_step, server_loss_step, stands_step}
use Rattle.wc_core.specs.ServersKept.{Parting, parts_in}
use Rattle.wc_servers.specs.Outs.{SendsLine, Connects, Parts, or_else as or_other, part_of}
use Rattle.wc_servers.specs.Seats.{server_link}
use Rattle.wc_servers.proofs.OutLemmas.{part_of-append}
use Rattle.wc_core.proofs.ComeLemmas.{parts_in-append}
use Rattle.wc_core.proofs.ServerCloses.{server_line-closes, server_loss-closes, stands-closes}
use Rattle.wc_core.specs.Typed.{lines_of_text}
use Rattle.wc_core.specs.State.{State, Act, Sends, Closes, Serves, Quits, Stage, Stepped}
use Rattle.wc_core.specs.Step.{step, run, no_step, then_does, push_step, reply_step as answered, outcome_step, leave_step, sends, request_step, answer_step, link_line_step, link_loss_step, client_link}
use Rattle.wc_core.specs.Served.{or_else, close_of, outs_of}
use Rattle.wc_board.specs.Answered.{is_nicklist}
use Rattle.wc_core.proofs.DidLemmas.{close_of-append, outs_of-append}
use Rattle.wc_core.proofs.ConnectionLemmas.{close-sends}
use Rattle.wc_core.proofs.CloseLemmas.{runs-closes, pushes-closes}
use Rattle.wc_turns.specs.Lines.{ended_lines, without_cr, line_limit}
use Rattle.wc_turns.specs.Events.{line_events, read_events}
use Rattle.wc_turns.specs.Run.{closings, close_of_parting}
use Rattle.wc_turns.specs.declared.links.Closed.{Closed}
use Rattle.wc_turns.specs.Served.{closed_by}
use Rattle.wc_turns.proofs.KeyedLemmas.{at_key-filter_same}
use Rattle.wc_turns.proofs.RunLemmas.{closings-append}
use Rattle.wc_turns.proofs.StayLemmas.{Stays, stays-still, stays-then, stays-lost, stays-line, stays-stood}

-- an event of a link that came
abbrev pub IsOf : ℕ → Event → Type 0
IsOf link (LineCame other line) = other ≡ link
IsOf link (Stands other) = other ≡ link
IsOf link (Ends other) = other ≡ link
IsOf link (Fails other) = other ≡ link
IsOf link (Breaks other) = other ≡ link
IsOf link (Start moment) = ⊥
IsOf link (Tick moment) = ⊥
IsOf link (Arrives other nonce) = ⊥
IsOf link ListenFails = ⊥

-- what these acts close of servers, in order
abbrev pub parted : List Act → List Closed
parted acts = map close_of_parting (parts_in (outs_of acts))

-- acts that close servers, and after them the client of one link, or none
pub record OneLink (link : ℕ) (acts : List Act) : Type 0 where
  pub others : (k : ℕ) → k ≢ link → close_of k acts ≡ None
  pub one : closings acts ≡ parted acts ++ closed_by (record { 0 = link }) (close_of link acts)

eqb-same : (k : ℕ) → eqb k k ≡ true
eqb-same k = grind (arith, nat_tests)

map-both : (ps qs : List Parting) → map close_of_parting (ps ++ qs) ≡ map close_of_parting ps ++ map close_of_parting qs
map-both [] qs = refl
map-both (p ∷ ps) qs = ap (λ cs. close_of_parting p ∷ cs) (map-both ps qs)

pub parted-append : (a b : List Act) → parted (a ++ b) ≡ parted a ++ parted b
parted-append a b = ap (λ outs. map close_of_parting (parts_in outs)) (outs_of-append a b) ∙ ap (map close_of_parting) (parts_in-append (outs_of a) (outs_of b)) ∙ map-both (parts_in (outs_of a)) (parts_in (outs_of b))

-- where no client is closed, servers alone are
pub no-closes : (acts : List Act) → ((k : ℕ) → close_of k acts ≡ None) → closings acts ≡ parted acts
no-closes [] h = refl
no-closes (Sends to m ∷ acts) h = no-closes acts h
no-closes (Quits ∷ acts) h = no-closes acts h
no-closes (Serves (SendsLine to bytes) ∷ acts) h = no-closes acts h
no-closes (Serves (Connects number address server) ∷ acts) h = no-closes acts h
no-closes (Serves (Parts number cause) ∷ acts) h = ap (λ cs. record { link = record { 0 = number }; cause = cause } ∷ cs) (no-closes acts h)
no-closes (Closes to why ∷ acts) h = absurd (let q : Some why ≡ None = rw (eqb-same to) at (h to) in cc)

none-one : (link : ℕ) (acts : List Act) → ((k : ℕ) → close_of k acts ≡ None) → OneLink link acts
none-one link acts h = record { others = λ k n. h k; one = no-closes acts h ∙ sym (append-nil (parted acts)) ∙ ap (λ o. parted acts ++ closed_by (record { 0 = link }) o) (sym (h link)) }

close-one : (link : ℕ) (why : Cause) → OneLink link (Closes link why ∷ [])
close-one link why = record {
  others = λ k n. (let test : eqb link k ≡ false = grind (arith, nat_tests) in rw test refl);
  one = rw (eqb-same link) refl;
}

-- what a step of a link does: it closes that link or none, and where it does so the link has no client after it
pub record StepsOne (link : ℕ) (stepped : Stepped) : Type 0 where
  pub acts : OneLink link stepped.acts
  pub left : (close_of link stepped.acts ≡ None) ⊎ (at_key client_link link stepped.state.clients ≡ None)

stays-one : (link : ℕ) (state : State) → StepsOne link (no_step state)
stays-one link state = record { acts = none-one link [] (λ k. refl); left = inl refl }

leaves-one : (link : ℕ) (state : State) (why : Cause) → StepsOne link (leave_step state link why)
leaves-one link state why = record { acts = close-one link why; left = inr (at_key-filter_same client_link link state.clients) }

follows-one : (link : ℕ) (state : State) (o : Outcome) → StepsOne link (outcome_step state link o)
follows-one link state outcome.Replied = stays-one link state
follows-one link state outcome.Silent = stays-one link state
follows-one link state (outcome.Input buffer text) = record { acts = none-one link _ (λ k. runs-closes k state buffer (lines_of_text text)); left = inl (runs-closes link state buffer (lines_of_text text)) }
follows-one link state (outcome.Leave why) = leaves-one link state why
follows-one link state outcome.NoMemory = stays-one link state

-- acts in front that close nothing
front-one : (link : ℕ) (front : List Act) (stepped : Stepped) (way : List Stage) → ((k : ℕ) → close_of k front ≡ None) → StepsOne link stepped → StepsOne link (record { state = stepped.state; acts = front ++ stepped.acts; way = way })
front-one link front stepped way none h =
    let same : (k : ℕ) → close_of k (front ++ stepped.acts) ≡ close_of k stepped.acts = λ k. close_of-append k front stepped.acts ∙ ap (λ o. or_else o (close_of k stepped.acts)) (none k) in
    record {
      acts = record {
        others = λ k n. same k ∙ h.acts.others k n;
        one = closings-append front stepped.acts ∙ ap (λ cs. cs ++ closings stepped.acts) (no-closes front none) ∙ ap (λ cs. parted front ++ cs) h.acts.one ∙ sym (append_assoc (parted front) (parted stepped.acts) (closed_by (record { 0 = link }) (close_of link stepped.acts)))
            ∙ ap (λ cs. cs ++ closed_by (record { 0 = link }) (close_of link stepped.acts)) (sym (parted-append front stepped.acts)) ∙ ap (λ o. parted (front ++ stepped.acts) ++ closed_by (record { 0 = link }) o) (sym (same link));
      };
      left = left-by h.left (same link);
    }
  where
    left-by : (close_of link stepped.acts ≡ None) ⊎ (at_key client_link link stepped.state.clients ≡ None) → close_of link (front ++ stepped.acts) ≡ close_of link stepped.acts
        → (close_of link (front ++ stepped.acts) ≡ None) ⊎ (at_key client_link link stepped.state.clients ≡ None)
    left-by (inl e) q = inl (q ∙ e)
    left-by (inr e) q = inr e

answers-one : (link : ℕ) (state : State) (answer : Answer) → StepsOne link (answer_step state link answer)
answers-one link state answer =
    let next : State = record state { clients = put_at client_link link answer.client state.clients } in
    front-one link (sends link answer.messages) (outcome_step next link answer.outcome) _ (λ k. close-sends k link answer.messages) (follows-one link next answer.outcome)

asked-one : (state : State) (client : Client) (request : Option Request) → StepsOne (client_link client) (request_step state client request)
asked-one state client None = stays-one (client_link client) state
asked-one state client (Some request) = by (client.logged_in && is_nicklist request.command) where
  link : ℕ
  link = client_link client

  following : State
  following = (push_step state).state

  by : (b : Bool) → StepsOne link (cond b (then_does (push_step state) (λ next. answered next client request)) (answered state client request))
  by true = front-one link (push_step state).acts (answered following client request) _ (λ k. pushes-closes k state) (answers-one link following (reply_of following.world (context_of following) client request))
  by false = answers-one link state (reply_of state.world (context_of state) client request)

found-key : (link : ℕ) (clients : List Client) (client : Client) → at_key client_link link clients ≡ Some client → client_link client ≡ link
found-key link [] client e = absurd (let q : None ≡ Some client = e in cc)
found-key link (c ∷ cs) client e = found-by (eqb (client_link c) link) refl (found-key link cs client)
  where
    found-by : (t : Bool) → eqb (client_link c) link ≡ t → (at_key client_link link cs ≡ Some client → client_link client ≡ link) → client_link client ≡ link
    found-by true f ih =
        let same : c ≡ client = (let q : Some c ≡ Some client = rw f at e in cc) in
        let here : client_link c ≡ link = grind (arith, nat_tests) in
        sym (ap client_link same) ∙ here
    found-by false f ih = ih (rw f at e)

-- what a server does closes no client
served-one : (link : ℕ) (stepped : Stepped) → ((k : ℕ) → close_of k stepped.acts ≡ None) → StepsOne link stepped
served-one link stepped none = record { acts = none-one link stepped.acts none; left = inl (none link) }

line-one : (link : ℕ) (state : State) (line : List ℕ) (o : Option Client) → at_key client_link link state.clients ≡ o → StepsOne link (link_line_step state link line o)
line-one link state line None e =
    let o = at_key server_link link state.servers in
    served-one link (server_line_step state link line o) (λ k. server_line-closes k state link line o)
line-one link state line (Some client) e = subst (λ k. StepsOne k (request_step state client (request_of client.escaped line))) (found-key link state.clients client e) (asked-one state client (request_of client.escaped line))

lost-one : (link : ℕ) (state : State) (why : Cause) (o : Option Client) → StepsOne link (link_loss_step state link why o)
lost-one link state why None =
    let o = at_key server_link link state.servers in
    served-one link (server_loss_step link why state o) (λ k. server_loss-closes k link why state o)
lost-one link state why (Some client) = leaves-one link state why

step-one : (link : ℕ) (state : State) (event : Event) → IsOf link event → StepsOne link (step state event)
step-one link state (LineCame other line) h = subst (λ k. StepsOne k (step state (LineCame other line))) h (line-one other state line (at_key client_link other state.clients) refl)
step-one link state (Stands other) h =
    let o = at_key server_link other state.servers in
    served-one link (stands_step state other o) (λ k. stands-closes k state other o)
step-one link state (Ends other) h = subst (λ k. StepsOne k (step state (Ends other))) h (lost-one other state Ended (at_key client_link other state.clients))
step-one link state (Fails other) h = subst (λ k. StepsOne k (step state (Fails other))) h (lost-one other state Failed (at_key client_link other state.clients))
step-one link state (Breaks other) h = subst (λ k. StepsOne k (step state (Breaks other))) h (lost-one other state BadSocket (at_key client_link other state.clients))
step-one link state (Start moment) h = absurd h
step-one link state (Tick moment) h = absurd h
step-one link state (Arrives other nonce) h = absurd h
step-one link state ListenFails h = absurd h

-- ---- a link without a client

aside-line : (link : ℕ) (state : State) (line : List ℕ) (o : Option Client) → o ≡ None → Stays link state (link_line_step state link line o) × ((k : ℕ) → close_of k (link_line_step state link line o).acts ≡ None)
aside-line link state line None e = (let o = at_key server_link link state.servers in (stays-line link state line o, λ k. server_line-closes k state link line o))
aside-line link state line (Some client) e = absurd (let q : Some client ≡ None = e in cc)

aside-lost : (link : ℕ) (state : State) (why : Cause) (o : Option Client) → o ≡ None → Stays link state (link_loss_step state link why o) × ((k : ℕ) → close_of k (link_loss_step state link why o).acts ≡ None)
aside-lost link state why None e = (let o = at_key server_link link state.servers in (stays-lost link why state o, λ k. server_loss-closes k link why state o))
aside-lost link state why (Some client) e = absurd (let q : Some client ≡ None = e in cc)

-- what its events do to the link, and that they close no client
abbrev IsAside : ℕ → State → Stepped → Type 0
IsAside link state stepped = Stays link state stepped × ((k : ℕ) → close_of k stepped.acts ≡ None)

step-aside : (link : ℕ) (state : State) (event : Event) → IsOf link event → at_key client_link link state.clients ≡ None → IsAside link state (step state event)
step-aside link state (LineCame other line) h none = subst (λ k. at_key client_link k state.clients ≡ None → IsAside k state (step state (LineCame other line))) h (λ e. aside-line other state line (at_key client_link other state.clients) e) none
step-aside link state (Stands other) h none = subst (λ k. IsAside k state (step state (Stands other))) h (let o = at_key server_link other state.servers in (stays-stood other state o, λ k. stands-closes k state other o))
step-aside link state (Ends other) h none = subst (λ k. at_key client_link k state.clients ≡ None → IsAside k state (step state (Ends other))) h (λ e. aside-lost other state Ended (at_key client_link other state.clients) e) none
step-aside link state (Fails other) h none = subst (λ k. at_key client_link k state.clients ≡ None → IsAside k state (step state (Fails other))) h (λ e. aside-lost other state Failed (at_key client_link other state.clients) e) none
step-aside link state (Breaks other) h none = subst (λ k. at_key client_link k state.clients ≡ None → IsAside k state (step state (Breaks other))) h (λ e. aside-lost other state BadSocket (at_key client_link other state.clients) e) none
step-aside link state (Start moment) h none = absurd h
step-aside link state (Tick moment) h none = absurd h
step-aside link state (Arrives other nonce) h none = absurd h
step-aside link state ListenFails h none = absurd h

run-aside : (link : ℕ) (state : State) (events : List Event) → All (IsOf link) events → at_key client_link link state.clients ≡ None → IsAside link state (run state events)
run-aside link state [] h none = (stays-still link state, λ k. refl)
run-aside link state (e ∷ es) h none =
    let first = step-aside link state e (All-head (IsOf link) e es h) none in
    let later = run-aside link (step state e).state es (All-tail (IsOf link) e es h) (first.0.clients none) in (
      stays-then link state (step state e) (λ next. run next es) first.0 later.0,
      λ k. close_of-append k (step state e).acts (run (step state e).state es).acts ∙ ap (λ o. or_else o (close_of k (run (step state e).state es).acts)) (first.1 k) ∙ later.1 k,
    )

step-missing : (link : ℕ) (state : State) (event : Event) → IsOf link event → at_key client_link link state.clients ≡ None → at_key server_link link state.servers ≡ None → step state event ≡ no_step state
step-missing link state (LineCame other line) h none nobody =
    let e : at_key client_link other state.clients ≡ None = subst (λ k. at_key client_link k state.clients ≡ None) (sym h) none in
    let f : at_key server_link other state.servers ≡ None = subst (λ k. at_key server_link k state.servers ≡ None) (sym h) nobody in
    rw (e, f) refl
step-missing link state (Stands other) h none nobody = let f : at_key server_link other state.servers ≡ None = subst (λ k. at_key server_link k state.servers ≡ None) (sym h) nobody in rw f refl
step-missing link state (Ends other) h none nobody =
    let e : at_key client_link other state.clients ≡ None = subst (λ k. at_key client_link k state.clients ≡ None) (sym h) none in
    let f : at_key server_link other state.servers ≡ None = subst (λ k. at_key server_link k state.servers ≡ None) (sym h) nobody in
    rw (e, f) refl
step-missing link state (Fails other) h none nobody =
    let e : at_key client_link other state.clients ≡ None = subst (λ k. at_key client_link k state.clients ≡ None) (sym h) none in
    let f : at_key server_link other state.servers ≡ None = subst (λ k. at_key server_link k state.servers ≡ None) (sym h) nobody in
    rw (e, f) refl
step-missing link state (Breaks other) h none nobody =
    let e : at_key client_link other state.clients ≡ None = subst (λ k. at_key client_link k state.clients ≡ None) (sym h) none in
    let f : at_key server_link other state.servers ≡ None = subst (λ k. at_key server_link k state.servers ≡ None) (sym h) nobody in
    rw (e, f) refl
step-missing link state (Start moment) h none nobody = absurd h
step-missing link state (Tick moment) h none nobody = absurd h
step-missing link state (Arrives other nonce) h none nobody = absurd h
step-missing link state ListenFails h none nobody = absurd h

-- without a client and a server nothing is done
run-missing : (link : ℕ) (state : State) (events : List Event) → All (IsOf link) events → at_key client_link link state.clients ≡ None → at_key server_link link state.servers ≡ None → run state events ≡ no_step state
run-missing link state [] h none nobody = refl
run-missing link state (e ∷ es) h none nobody =
    let first = step-missing link state e (All-head (IsOf link) e es h) none nobody in
    rw first (run-missing link state es (All-tail (IsOf link) e es h) none nobody)

-- ---- events of one link

-- the link has no client before these events, or it has no server after them, and none that left
abbrev pub IsApart : ℕ → State → List Event → Type 0
IsApart link state events = (at_key client_link link state.clients ≡ None)
    ⊎ ((at_key server_link link (run state events).state.servers ≡ None) × (part_of link (outs_of (run state events).acts) ≡ None))

some-none : {X : Type 0} (o : Option X) → o ≡ None → is_some o ≡ true → ⊥
some-none None e t = false≢true t
some-none (Some x) e t = absurd (let q : Some x ≡ None = e in cc)

none-some : {X : Type 0} (o : Option X) → is_some o ≡ false → o ≡ None
none-some None e = refl
none-some (Some x) e = absurd (false≢true (sym e))

later-none : (a b : Option Cause) → or_other a b ≡ None → b ≡ None
later-none None b e = e
later-none (Some cause) b e = absurd (let q : Some cause ≡ None = e in cc)

part-later : (link : ℕ) (a b : List Act) → part_of link (outs_of (a ++ b)) ≡ None → part_of link (outs_of b) ≡ None
part-later link a b e = later-none (part_of link (outs_of a)) (part_of link (outs_of b)) (sym (ap (part_of link) (outs_of-append a b) ∙ part_of-append link (outs_of a) (outs_of b)) ∙ e)

-- acts of servers come before those that close at most one client
both-one : (link : ℕ) (a b : List Act) → OneLink link a → close_of link a ≡ None → OneLink link b → OneLink link (a ++ b)
both-one link a b first none later = record {
  others = λ k n. close_of-append k a b ∙ ap (λ o. or_else o (close_of k b)) (first.others k n) ∙ later.others k n;
  one = closings-append a b ∙ ap (λ cs. cs ++ closings b) (first.one ∙ ap (λ o. parted a ++ closed_by (record { 0 = link }) o) none ∙ append-nil (parted a)) ∙ ap (λ cs. parted a ++ cs) later.one
      ∙ sym (append_assoc (parted a) (parted b) (closed_by (record { 0 = link }) (close_of link b))) ∙ ap (λ cs. cs ++ closed_by (record { 0 = link }) (close_of link b)) (sym (parted-append a b))
      ∙ ap (λ o. parted (a ++ b) ++ closed_by (record { 0 = link }) o) (sym (close_of-append link a b ∙ ap (λ o. or_else o (close_of link b)) none));
}

-- events of one link close servers, then its client at most once, and no other client
pub run-one : (link : ℕ) (state : State) (events : List Event) → All (IsOf link) events → IsApart link state events → OneLink link (run state events).acts
run-one link state events h (inl none) = none-one link (run state events).acts (run-aside link state events h none).1
run-one link state [] h (inr nobody) = none-one link [] (λ k. refl)
run-one link state (e ∷ es) h (inr nobody) =
    let first = step-one link state e (All-head (IsOf link) e es h) in
    let rest = All-tail (IsOf link) e es h in
    let following : IsApart link (step state e).state es = inr (nobody.0, part-later link (step state e).acts (run (step state e).state es).acts nobody.1) in
    one-by first first.left (run-one link (step state e).state es rest following) rest following
  where
    one-by : StepsOne link (step state e) → (close_of link (step state e).acts ≡ None) ⊎ (at_key client_link link (step state e).state.clients ≡ None) → OneLink link (run (step state e).state es).acts → All (IsOf link) es → IsApart link (step state e).state es → OneLink link (run state (e ∷ es)).acts
    one-by first (inl none) later all following = both-one link (step state e).acts (run (step state e).state es).acts first.acts none later
    one-by first (inr gone) later all following = gone-by (is_some (at_key server_link link (step state e).state.servers)) refl
      where
        last : Stepped
        last = run (step state e).state es

        not-both : (is_some (at_key server_link link last.state.servers) ≡ true) ⊎ (is_some (part_of link (outs_of last.acts)) ≡ true) → ⊥
        not-both (inl there) = some-none (at_key server_link link last.state.servers) nobody.0 there
        not-both (inr parts) = some-none (part_of link (outs_of last.acts)) (part-later link (step state e).acts last.acts nobody.1) parts

        gone-by : (t : Bool) → is_some (at_key server_link link (step state e).state.servers) ≡ t → OneLink link ((step state e).acts ++ last.acts)
        gone-by true there = absurd (not-both ((run-aside link (step state e).state es all gone).0.seated there))
        gone-by false missing =
            let nothing : last.acts ≡ [] = ap (λ s. s.acts) (run-missing link (step state e).state es all gone (none-some (at_key server_link link (step state e).state.servers) missing)) in
            rw (nothing, append-nil (step state e).acts) first.acts

-- ---- events of reads

pub all-front : {A : Type 0} (P : A → Type 0) (xs ys : List A) → All P (xs ++ ys) → All P xs
all-front P [] ys h = All-nil P
all-front P (x ∷ xs) ys h = All-cons P x xs (All-head P x (xs ++ ys) h) (all-front P xs ys (All-tail P x (xs ++ ys) h))

line-of : (link : ℕ) (line : List ℕ) → All (IsOf link) (line_events link line)
line-of link line = of-by (nat_le (length line) line_limit)
  where
    of-by : (t : Bool) → All (IsOf link) (cond t (LineCame link (without_cr line) ∷ []) [])
    of-by true = All-cons (IsOf link) (LineCame link (without_cr line)) [] refl (All-nil (IsOf link))
    of-by false = All-nil (IsOf link)

lines-of : (link : ℕ) (lines : List (List ℕ)) → All (IsOf link) (flat_map (line_events link) lines)
lines-of link [] = All-nil (IsOf link)
lines-of link (line ∷ lines) = All-append (IsOf link) (line_events link line) (flat_map (line_events link) lines) (line-of link line) (lines-of link lines)

pub read-of : (link : ℕ) (line bytes : List ℕ) → All (IsOf link) (read_events link line bytes)
read-of link line bytes = lines-of link (ended_lines line bytes)

pub ended-of : (link : ℕ) → All (IsOf link) (Ends link ∷ [])
ended-of link = All-cons (IsOf link) (Ends link) [] refl (All-nil (IsOf link))

pub stands-of : (link : ℕ) → All (IsOf link) (Stands link ∷ [])
stands-of link = All-cons (IsOf link) (Stands link) [] refl (All-nil (IsOf link))

pub failed-of : (link : ℕ) → All (IsOf link) (Fails link ∷ [])
failed-of link = All-cons (IsOf link) (Fails link) [] refl (All-nil (IsOf link))

pub broken-of : (link : ℕ) → All (IsOf link) (Breaks link ∷ [])
broken-of link = All-cons (IsOf link) (Breaks link) [] refl (All-nil (IsOf link))

-- ---- causes

abbrev pub LineCause : Option Cause → Type 0
LineCause None = Unit {0}
LineCause (Some why) = (why ≡ LoginFailed) ⊎ (why ≡ Quit)

abbrev CanLeave : Outcome → Type 0
CanLeave (outcome.Leave why) = (why ≡ LoginFailed) ⊎ (why ≡ Quit)
CanLeave _ = Unit {0}

can-if : (b : Bool) (x y : Answer) → CanLeave x.outcome → CanLeave y.outcome → CanLeave (cond b x y).outcome
can-if true x y p q = p
can-if false x y p q = q

can-reply : (client : Client) (messages : List WireMessage) → CanLeave (replies client messages).outcome
can-reply client [] = tt
can-reply client (m ∷ messages) = tt

can-handshake : (masks : List ℕ) (client : Client) (id : List ℕ) (pairs : List Pair) → CanLeave (handshake_answer masks client id pairs).outcome
unfolding handshake_answer
can-handshake masks client id pairs =
    can-if (not client.logged_in && is_none (choice_in masks pairs))
    (record { messages = handshake_reply masks client id pairs; outcome = outcome.Leave LoginFailed; client = shaken masks client pairs })
    (replies (shaken masks client pairs) (handshake_reply masks client id pairs)) (inl refl) (can-reply (shaken masks client pairs) (handshake_reply masks client id pairs))

can-init : (masks password : List ℕ) (client : Client) (pairs : List Pair) → CanLeave (init_answer masks password client pairs).outcome
unfolding init_answer
can-init masks password client pairs =
    let let_in : Client = record client { logged_in = true } in
    can-if client.logged_in (silent client) (cond (pairs_let_in pairs password client.nonce (algorithm_for masks client.chosen)) (silent let_in) (drops client LoginFailed)) tt
    (can-if (pairs_let_in pairs password client.nonce (algorithm_for masks client.chosen)) (silent let_in) (drops client LoginFailed) tt (inl refl))

can-type : (client : Client) (text : List ℕ) (buffer : Option Handle) → CanLeave (typed_into client text buffer).outcome
can-type client text None = tt
can-type client text (Some buffer) = tt

can-served : (world : World) (context : Context) (client : Client) (id : List ℕ) (command : Command) → CanLeave (served world context client id command).outcome
unfolding served
can-served world context client id (ask.Handshake pairs) = can-handshake (masks_of context.options) client id pairs
can-served world context client id (ask.Init pairs) = can-init (masks_of context.options) (password_of context.options) client pairs
can-served world context client id (ask.Hdata path keys) = can-reply client _
can-served world context client id (ask.Info name) = can-reply client _
can-served world context client id (ask.Infolist name argument) = can-reply client _
can-served world context client id (ask.Nicklist buffer) = can-reply client _
can-served world context client id (ask.Input buffer text) = can-type client text (buffer_named world.groups buffer)
can-served world context client id (ask.Completion buffer position text) = can-reply client _
can-served world context client id (ask.Sync buffers asked) = tt
can-served world context client id (ask.Desync buffers asked) = tt
can-served world context client id ask.Test = can-reply client _
can-served world context client id (ask.Ping text) = can-reply client _
can-served world context client id ask.Quit = inr refl

can-answer : (world : World) (context : Context) (client : Client) (request : Request) → CanLeave (reply_of world context client request).outcome
unfolding reply_of
can-answer world context client request =
    can-if (client.logged_in || is_open request.command) (served world context client request.id request.command) (drops client LoginFailed) (can-served world context client request.id request.command) (inl refl)

follows-cause : (link : ℕ) (state : State) (o : Outcome) → CanLeave o → LineCause (close_of link (outcome_step state link o).acts)
follows-cause link state outcome.Replied h = tt
follows-cause link state outcome.Silent h = tt
follows-cause link state (outcome.Input buffer text) h = subst LineCause (sym (runs-closes link state buffer (lines_of_text text))) tt
follows-cause link state (outcome.Leave why) h = rw (eqb-same link) h
follows-cause link state outcome.NoMemory h = tt

answers-cause : (link : ℕ) (state : State) (answer : Answer) → CanLeave answer.outcome → LineCause (close_of link (answer_step state link answer).acts)
answers-cause link state answer h =
    let next : State = record state { clients = put_at client_link link answer.client state.clients } in
    let same : close_of link (sends link answer.messages ++ (outcome_step next link answer.outcome).acts) ≡ close_of link (outcome_step next link answer.outcome).acts =
    close_of-append link (sends link answer.messages) (outcome_step next link answer.outcome).acts ∙ ap (λ o. or_else o (close_of link (outcome_step next link answer.outcome).acts)) (close-sends link link answer.messages) in
    subst LineCause (sym same) (follows-cause link next answer.outcome h)

asked-cause : (state : State) (client : Client) (request : Option Request) → LineCause (close_of (client_link client) (request_step state client request).acts)
asked-cause state client None = tt
asked-cause state client (Some request) = by (client.logged_in && is_nicklist request.command) where
  link : ℕ
  link = client_link client

  replied : (at : State) → LineCause (close_of link (answered at client request).acts)
  replied at = answers-cause link at (reply_of at.world (context_of at) client request) (can-answer at.world (context_of at) client request)

  following : Stepped
  following = answered (push_step state).state client request

  by : (b : Bool) → LineCause (close_of link (cond b (then_does (push_step state) (λ next. answered next client request)) (answered state client request)).acts)
  by true = subst LineCause (sym (close_of-append link (push_step state).acts following.acts ∙ ap (λ o. or_else o (close_of link following.acts)) (pushes-closes link state))) (replied (push_step state).state)
  by false = replied state

line-by : (link : ℕ) (state : State) (line : List ℕ) (o : Option Client) → at_key client_link link state.clients ≡ o → LineCause (close_of link (link_line_step state link line o).acts)
line-by link state line None e = let o = at_key server_link link state.servers in subst LineCause (sym (server_line-closes link state link line o)) tt
line-by link state line (Some client) e = subst (λ k. LineCause (close_of k (request_step state client (request_of client.escaped line)).acts)) (found-key link state.clients client e) (asked-cause state client (request_of client.escaped line))

-- for what a line closes its link
pub line-cause : (link : ℕ) (state : State) (line : List ℕ) → LineCause (close_of link (step state (LineCame link line)).acts)
line-cause link state line = line-by link state line (at_key client_link link state.clients) refl

-- and it closes no other
pub line-others : (link : ℕ) (state : State) (line : List ℕ) (k : ℕ) → k ≢ link → close_of k (step state (LineCame link line)).acts ≡ None
line-others link state line k n = (line-one link state line (at_key client_link link state.clients) refl).acts.others k n
