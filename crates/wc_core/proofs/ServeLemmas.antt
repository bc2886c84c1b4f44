-- What the core's calls do, against the steps.
use Rattle.std.proofs.Common.{◌≡◌, ◌≢◌, ℕ, ◌≤◌, Bool, true, false, cond, eqb, List, [], ◌∷◌, ◌++◌, Option, Some, None, IsSome, inl, not, refl, ap, sym, subst, ◌∙◌, ◌||◌, arith, append-nil}
use Rattle.std.specs.Prelude.{map}
use Rattle.std.specs.List.{flat_map}
use Rattle.std.specs.Option.{is_none, option_copied}
use Rattle.wc_text.specs.Splits.{before, text_after}
use Rattle.wc_core.proofs.TypedLemmas.{lines_left-split}
use Rattle.std.specs.Borrow.{Bor}
use Rattle.std.proofs.lemmas.Bool.{false≢true}
use Rattle.std.proofs.lemmas.Bool.Decides.{nat_tests}
use Rattle.wc_text.specs.declared.names.Cause.{Cause}
use Rattle.wc_outside.specs.Keyed.{at_key, put_at}
use Rattle.wc_outside.proofs.KeyedLemmas.{at_key-key, at_key-put_other, at_key-put_same}
use Rattle.wc_text.specs.declared.names.Handle.{Handle}
use Rattle.wc_buffers.specs.Calls.{is_there}
use Rattle.wc_filters.specs.declared.filter.Filter.{Filter}
use Rattle.wc_hotlist.specs.declared.row.HotRow.{HotRow}
use Rattle.wc_model.specs.declared.notice.Notice.{Notice}
use Rattle.wc_model.specs.World.{World}
use Rattle.wc_nickdiff.specs.Held.{OfBuffer}
use Rattle.wc_objects.specs.declared.object.WireMessage.{WireMessage}
use Rattle.wc_session.specs.Known.{Known}
use Rattle.wc_session.specs.Sending.{spelling}
use Rattle.wc_board.specs.declared.connection.Connection.{Connection}
use Rattle.wc_core.specs.CoreView.{CoreView}
use Rattle.wc_core.specs.BoardSteps.{board_of, BoardSteps}
use Rattle.wc_core.specs.TypedSeen.{lines_left}
use Rattle.wc_core.specs.State.{State, Stage, Stepped, has_end}
use Rattle.wc_core.specs.Inputs.{GoesOn, Stops}
use Rattle.wc_core.specs.Changing.{with_filters}
use Rattle.wc_core.specs.Step.{client_link, sends, no_step, then_does, tell_all_step, with_hotlist, input_step, lines_step, leave_step}
use Rattle.wc_board.specs.Connections.{connection_link, is_open, unsent_in, unsent_on, leaving_in, leaving_on}
use Rattle.wc_core.specs.Served.{links_of, clients_of, state_of, WereTold, or_else, close_of, Distinct, Follows, KeepsSaved, KeepsClients}
use Rattle.wc_core.specs.Contained.{state_with, IsOn, RunsAt, Runs}
use Rattle.wc_board.specs.Served.{told_connection, ConnectionsKept}
use Rattle.wc_board.specs.Told.{Told}
use Rattle.wc_core.specs.State.{Beside}
use Rattle.wc_servers.proofs.OutLemmas.{ServersFollow-refl}
use Rattle.wc_core.specs.ServersKept.{ServersKeep}
use Rattle.wc_core.proofs.ComeLemmas.{ServersKeep-refl, LeaveInOrder-refl}
use Rattle.wc_core.proofs.DidLemmas.{no-outs, no-order, or_else-none, or-false}
use Rattle.wc_core.proofs.RunLemmas.{Runs-stays}
use Rattle.wc_core.proofs.CloseLemmas.{input-closes, runs-closes}
use Rattle.wc_core.proofs.ConnectionLemmas.{sent-sends, close-sends, outs-sends, end-sends, close-told, outs-told, end-told, told-clients, told-leaving, told-bytes, clients-put, clients-leave}
use Rattle.wc_board.proofs.ConnectionLemmas.{ConnectionsKept-links, ConnectionsKept-leaving}
use Rattle.wc_core.proofs.ChainLemmas.{on_both, ends-first, goes-on, RunsAt-cut, ends_both}
use Rattle.wc_core.proofs.OracleLemmas.{verdicts-same, Stay-refl}
use Rattle.wc_core.specs.Changing.{reach_step}

-- ---- a notice that is told

abbrev pub told_to_all : CoreView → World → List OfBuffer → Notice → CoreView
told_to_all old world pending n = record old { world = world; pending = pending; connections = map (told_connection world n) old.connections }

pub told-left : (told : Beside) (told' : Told) (old : CoreView) (world : World) (n : Notice) (j : ℕ) → leaving_on j (map (told_connection world n) old.connections) ≡ or_else (leaving_on j old.connections) (close_of j (tell_all_step (state_of old told) told' world n).acts)
told-left told told' old world n j = told-leaving j world n old.connections ∙ sym (ap (or_else (leaving_on j old.connections)) (close-told j world n (clients_of old.connections)) ∙ or_else-none (leaving_on j old.connections))

-- the core with another hotlist and other filters
abbrev pub with_rows : CoreView → List HotRow → List Filter → CoreView
with_rows old rows filters = record old { hotlist = rows; filters = filters }

-- and a state
abbrev pub with_news : State → List HotRow → List Filter → State
with_news state rows filters = with_hotlist (with_filters state filters) rows

pub Follows-told : (told : Beside) (told' : Told) (old : CoreView) (rows : List HotRow) (filters : List Filter) (world : World) (pending : List OfBuffer) (n : Notice) → Distinct (links_of old) → WereTold (told_to_all (with_rows old rows filters) world pending n) (record told { rows = told' })
    → Follows told old (told_to_all (with_rows old rows filters) world pending n) (tell_all_step (with_news (state_of old told) rows filters) told' world n)
Follows-told told told' old rows filters world pending n distinct were = record {
  means = record { same = rw (told-clients world n old.connections) refl; told = were };
  oracle = refl;
  bytes = λ j. told-bytes j world n old.connections distinct;
  leaving = told-left told told' old world n;
  quits = sym (ap (λ t. old.quits || t) (end-told world n (clients_of old.connections)) ∙ or-false old.quits);
  servers = no-outs old (told_to_all (with_rows old rows filters) world pending n) (tell_all_step (with_news (state_of old told) rows filters) told' world n).acts refl (outs-told world n (clients_of old.connections));
  parts = no-order old (told_to_all (with_rows old rows filters) world pending n) (tell_all_step (with_news (state_of old told) rows filters) told' world n).acts refl (outs-told world n (clients_of old.connections));
}

pub KeepsClients-told : (old new : CoreView) → BoardSteps (board_of old) (board_of new) → ConnectionsKept old.connections new.connections → old.starved ≤ new.starved → KeepsSaved old new → ServersKeep old.servers new.servers → new.verdicts ≡ old.verdicts → KeepsClients old new
KeepsClients-told old new steps kept rises saves servers judged = record { board = steps; verdicts = verdicts-same old.verdicts new.verdicts judged; servers = servers; saves = saves; rises = rises; links = ConnectionsKept-links old.connections new.connections kept; kept = λ j some. ConnectionsKept-leaving j old.connections new.connections kept some }

-- ---- a connection that is changed

put-links : (k : ℕ) (y : Connection) (connections : List Connection) → connection_link y ≡ k → map connection_link (put_at connection_link k y connections) ≡ map connection_link connections
put-links k y [] e = refl
put-links k y (connection ∷ connections) e = grind (arith, nat_tests, put-links k y connections e)

none_of : (leaving : Option Cause) → is_none leaving ≡ true → leaving ≡ None
none_of None sits = refl
none_of (Some why) sits = absurd (false≢true sits)

pub open_none : (s : Connection) → is_open s ≡ true → s.leaving ≡ None
open_none s sits = none_of s.leaving sits

stays_by : (leaving : Option Cause) → is_none leaving ≡ true → IsSome leaving → ⊥
stays_by None sits some = absurd (cc)
stays_by (Some why) sits some = false≢true sits

open_stays : (s : Connection) → is_open s ≡ true → IsSome s.leaving → ⊥
open_stays s sits some = stays_by s.leaving sits some

-- the connection of an open client is changed
pub KeepsClients-put : (old : CoreView) (k : ℕ) (s y : Connection) → BoardSteps (board_of old) (record (board_of old) { connections = put_at connection_link k y old.connections }) → at_key connection_link k old.connections ≡ Some s → is_open s ≡ true → connection_link y ≡ k → KeepsClients old (record old { connections = put_at connection_link k y old.connections })
KeepsClients-put old k s y steps at sits key = record {
  board = steps;
  rises = omega arith;
  links = put-links k y old.connections key;
  kept = λ j some. by j (eqb j k) refl some;
  saves = inl (refl, refl);
  servers = ServersKeep-refl old.servers;
  verdicts = Stay-refl old.verdicts;
} where
  by : (j : ℕ) (t : Bool) → eqb j k ≡ t → IsSome (leaving_on j old.connections) → at_key connection_link j (put_at connection_link k y old.connections) ≡ at_key connection_link j old.connections
  by j true e some =
      let here : j ≡ k = grind (arith, nat_tests) in
      let P : ℕ → Type 0 = λ n. IsSome (leaving_on n old.connections) in
      let Q : Option Connection → Type 0 = λ o. IsSome (leaving_in o) in
      absurd (open_stays s sits (subst Q at (subst P here some)))
  by j false e some = let ne : j ≢ k = λ q. grind (arith, nat_tests) in at_key-put_other connection_link k j y old.connections key ne

-- what is seen of a link whose connection is changed, or of another
put_here : (A : Type 0) (f : Option Connection → A) (k j : ℕ) (s y : Connection) (connections : List Connection) → at_key connection_link k connections ≡ Some s → connection_link y ≡ k → eqb k j ≡ true → (f (at_key connection_link j (put_at connection_link k y connections)) ≡ f (Some y)) × (f (at_key connection_link j connections) ≡ f (Some s))
put_here A f k j s y connections at key e =
    let here : k ≡ j = grind (arith, nat_tests) in (
      ap f (subst (λ n. at_key connection_link n (put_at connection_link k y connections) ≡ Some y) here (at_key-put_same connection_link k s y connections key at)),
      ap f (subst (λ n. at_key connection_link n connections ≡ Some s) here at),
    )

put_there : (A : Type 0) (f : Option Connection → A) (k j : ℕ) (y : Connection) (connections : List Connection) → connection_link y ≡ k → eqb k j ≡ false → f (at_key connection_link j (put_at connection_link k y connections)) ≡ f (at_key connection_link j connections)
put_there A f k j y connections key e = let ne : j ≢ k = λ q. grind (arith, nat_tests) in ap f (at_key-put_other connection_link k j y connections key ne)

-- another session on the connection of an open client changes no cause
pub leaving-put : (old : CoreView) (k : ℕ) (s : Connection) (session' : Known) (j : ℕ) → at_key connection_link k old.connections ≡ Some s → is_open s ≡ true → client_link session'.client ≡ k
    → leaving_on j (put_at connection_link k (record { session = session'; leaving = None }) old.connections) ≡ leaving_on j old.connections
leaving-put old k s session' j at sits key = by (eqb k j) refl where
  y : Connection
  y = record { session = session'; leaving = None }

  by : (t : Bool) → eqb k j ≡ t → leaving_on j (put_at connection_link k y old.connections) ≡ leaving_on j old.connections
  by true q = let seen = put_here (Option Cause) leaving_in k j s y old.connections at key q in seen.0 ∙ sym (open_none s sits) ∙ sym seen.1
  by false q = put_there (Option Cause) leaving_in k j y old.connections key q

-- a reply comes after the unsent bytes
pub reply-left : (old : CoreView) (k : ℕ) (s : Connection) (session' : Known) (messages : List WireMessage) (j : ℕ) → at_key connection_link k old.connections ≡ Some s → is_open s ≡ true → client_link session'.client ≡ k
    → leaving_on j (put_at connection_link k (record { session = session'; leaving = None }) old.connections) ≡ or_else (leaving_on j old.connections) (close_of j (sends k messages))
reply-left old k s session' messages j at sits key = leaving-put old k s session' j at sits key ∙ sym (ap (or_else (leaving_on j old.connections)) (close-sends j k messages) ∙ or_else-none (leaving_on j old.connections))

pub Follows-reply : (told : Beside) (old : CoreView) (k : ℕ) (s : Connection) (session' : Known) (messages : List WireMessage) → at_key connection_link k old.connections ≡ Some s → is_open s ≡ true → client_link session'.client ≡ k
    → session'.unsent ≡ s.session.unsent ++ flat_map (λ m. spelling m) messages → WereTold old told
    → Follows told old (record old { connections = put_at connection_link k (record { session = session'; leaving = None }) old.connections }) (reach_step (record (state_of old told) { clients = put_at client_link k session'.client (clients_of old.connections) }) (sends k messages))
Follows-reply told old k s session' messages at sits key e were = record {
  means = record { same = rw (clients-put k old.connections s session' at sits) refl; told = were };
  oracle = refl;
  bytes = λ j. bytes_by j (eqb k j) refl ∙ ap (λ t. unsent_on j old.connections ++ t) (sym (sent-sends j k messages));
  leaving = λ j. reply-left old k s session' messages j at sits key;
  quits = sym (ap (λ t. old.quits || t) (end-sends k messages) ∙ or-false old.quits);
  servers = no-outs old (record old { connections = put_at connection_link k (record { session = session'; leaving = None }) old.connections }) (sends k messages) refl (outs-sends k messages);
  parts = no-order old (record old { connections = put_at connection_link k (record { session = session'; leaving = None }) old.connections }) (sends k messages) refl (outs-sends k messages);
} where
  y : Connection
  y = record { session = session'; leaving = None }

  bytes_by : (j : ℕ) (t : Bool) → eqb k j ≡ t → unsent_on j (put_at connection_link k y old.connections) ≡ unsent_on j old.connections ++ cond t (flat_map (λ m. spelling m) messages) []
  bytes_by j true q = let seen = put_here (List ℕ) unsent_in k j s y old.connections at key q in seen.0 ∙ e ∙ ap (λ t. t ++ flat_map (λ m. spelling m) messages) (sym seen.1)
  bytes_by j false q = put_there (List ℕ) unsent_in k j y old.connections key q ∙ sym (append-nil (unsent_on j old.connections))

-- a client is marked as leaving
left-by : (k j : ℕ) (s : Connection) (why : Cause) (connections : List Connection) → at_key connection_link k connections ≡ Some s → is_open s ≡ true
    → leaving_on j (put_at connection_link k (record { session = s.session; leaving = Some why }) connections) ≡ or_else (leaving_on j connections) (or_else (cond (eqb k j) (Some why) None) None)
left-by k j s why connections at sits = by (eqb k j) refl where
  y : Connection
  y = record { session = s.session; leaving = Some why }

  key : connection_link y ≡ k
  key = at_key-key connection_link k connections s at

  by : (t : Bool) → eqb k j ≡ t → leaving_on j (put_at connection_link k y connections) ≡ or_else (leaving_on j connections) (or_else (cond t (Some why) None) None)
  by true q = let seen = put_here (Option Cause) leaving_in k j s y connections at key q in seen.0 ∙ sym (ap (λ o. or_else o (Some why)) (seen.1 ∙ open_none s sits))
  by false q = put_there (Option Cause) leaving_in k j y connections key q ∙ sym (or_else-none (leaving_on j connections))

pub leave-left : (told : Beside) (old : CoreView) (k : ℕ) (s : Connection) (why : Cause) (j : ℕ) → at_key connection_link k old.connections ≡ Some s → is_open s ≡ true
    → leaving_on j (put_at connection_link k (record { session = s.session; leaving = Some why }) old.connections) ≡ or_else (leaving_on j old.connections) (close_of j (leave_step (state_of old told) k why).acts)
leave-left told old k s why j at sits = left-by k j s why old.connections at sits

pub Follows-leave : (told : Beside) (old : CoreView) (k : ℕ) (s : Connection) (why : Cause) → Distinct (links_of old) → at_key connection_link k old.connections ≡ Some s → is_open s ≡ true → WereTold old told
    → Follows told old (record old { connections = put_at connection_link k (record { session = s.session; leaving = Some why }) old.connections }) (leave_step (state_of old told) k why)
Follows-leave told old k s why distinct at sits were = record {
  means = record { same = rw (clients-leave k old.connections s s.session why distinct at) refl; told = were };
  oracle = refl;
  bytes = λ j. bytes_by j (eqb k j) refl ∙ sym (append-nil (unsent_on j old.connections));
  leaving = λ j. leave-left told old k s why j at sits;
  quits = sym (or-false old.quits);
  servers = ServersFollow-refl old.servers;
  parts = LeaveInOrder-refl old.servers;
} where
  y : Connection
  y = record { session = s.session; leaving = Some why }

  key : connection_link y ≡ k
  key = at_key-key connection_link k old.connections s at

  bytes_by : (j : ℕ) (t : Bool) → eqb k j ≡ t → unsent_on j (put_at connection_link k y old.connections) ≡ unsent_on j old.connections
  bytes_by j true q = let seen = put_here (List ℕ) unsent_in k j s y old.connections at key q in seen.0 ∙ sym seen.1
  bytes_by j false q = put_there (List ℕ) unsent_in k j y old.connections key q

-- ---- a text that is typed

-- what a line does to a buffer that is there
runs-there : (P : Stepped → Type 0) (a : State) (buffer : Handle) (line : List ℕ) (lines : List (List ℕ)) → is_there buffer a.world.groups ≡ true
    → P (cond (has_end (input_step a buffer line).acts) (input_step a buffer line) (then_does (input_step a buffer line) (λ next. lines_step next buffer lines))) → P (lines_step a buffer (line ∷ lines))
runs-there P a buffer line lines there f =
    let one = input_step a buffer line in
    let all = then_does one (λ next. lines_step next buffer lines) in
    let Q : Bool → Type 0 = λ t. P (cond (not t) (no_step a) (cond (has_end one.acts) one all)) in
    subst Q (sym there) f

-- one line, and the lines after it
pub runs-lines : (a b c : CoreView) (buffer : Handle) (line : List ℕ) (lines : List (List ℕ)) → is_there buffer a.world.groups ≡ true → a.quits ≡ false → GoesOn a b buffer line → Runs b c (λ state. lines_step state buffer lines)
    → Runs a c (λ state. lines_step state buffer (line ∷ lines))
runs-lines a b c buffer line lines there going f g = λ told.
    let P : Stepped → Type 0 = λ s. RunsAt told a c s in
    runs-there P (state_with a told) buffer line lines there
    (goes-on a b c (λ state. input_step state buffer line) (λ next. lines_step next buffer lines) (λ j state. input-closes j state buffer line) (λ j state. runs-closes j state buffer lines) going f.goes f.uncut f.runs g told)

-- the lines after it are skipped where the run is to end, and where it was cut short
pub stops-quit : (a b : CoreView) (buffer : Handle) (line : List ℕ) → a.quits ≡ false → b.quits ≡ true → Runs a b (λ state. input_step state buffer line) → Stops a b buffer line
stops-quit a b buffer line going quit f = λ lines there told.
    let P : Stepped → Type 0 = λ s. RunsAt told a b s in
    runs-there P (state_with a told) buffer line lines there
    (ends-first a b (λ state. input_step state buffer line) (λ next. lines_step next buffer lines) (λ j state. input-closes j state buffer line) going quit f told)

pub stops-cut : (a b : CoreView) (buffer : Handle) (line : List ℕ) → b.cuts ≢ a.cuts → Runs a b (λ state. input_step state buffer line) → Stops a b buffer line
stops-cut a b buffer line cut f = λ lines there told.
    let state = state_with a told in
    let one = input_step state buffer line in
    let longer : (x first : Stage) → IsOn x first one.way → IsOn x first (lines_step state buffer (line ∷ lines)).way =
    λ x first on. (let P : Stepped → Type 0 = λ s. IsOn x first s.way in runs-there P state buffer line lines there (on_both one (λ next. lines_step next buffer lines) x first on)) in
    let ends : has_end one.acts ≡ true → has_end (lines_step state buffer (line ∷ lines)).acts ≡ true =
    λ e. (let P : Stepped → Type 0 = λ s. has_end s.acts ≡ true in runs-there P state buffer line lines there (ends_both one (λ next. lines_step next buffer lines) e)) in
    RunsAt-cut told a b one (lines_step state buffer (line ∷ lines)) (λ j. input-closes j state buffer line) cut longer ends (f told)

left_lines : (left : Option (Bor (List ℕ))) (rest : Bor (List ℕ)) (line : List ℕ) (others : Option (Bor (List ℕ))) → left ≡ Some rest → line ≡ before 10 rest.now → option_copied others ≡ text_after 10 rest.now → line ∷ lines_left others ≡ lines_left left
left_lines left rest line others e front back = ap (λ l. l ∷ lines_left others) front ∙ lines_left-split rest.now others back ∙ sym (ap lines_left e)

-- a buffer that is not there, before the lines that are left
pub gone_left : (a : CoreView) (buffer : Handle) (left : Option (Bor (List ℕ))) (rest : Bor (List ℕ)) (line : List ℕ) (others : Option (Bor (List ℕ))) → left ≡ Some rest → line ≡ before 10 rest.now → option_copied others ≡ text_after 10 rest.now
    → is_there buffer a.world.groups ≡ false → Runs a a (λ state. lines_step state buffer (lines_left left))
gone_left a buffer left rest line others e front back there = λ told.
    let state = state_with a told in
    let P : List (List ℕ) → Type 0 = λ lines. RunsAt told a a (lines_step state buffer lines) in
    let one = input_step state buffer line in
    let Q : Bool → Type 0 = λ t. RunsAt told a a (cond (not t) (no_step state) (cond (has_end one.acts) one (then_does one (λ next. lines_step next buffer (lines_left others))))) in
    subst P (left_lines left rest line others e front back) (subst Q (sym there) (Runs-stays a told))

-- a line after which the lines that are left are skipped
pub quit_left : (a b : CoreView) (buffer : Handle) (left : Option (Bor (List ℕ))) (rest : Bor (List ℕ)) (line : List ℕ) (others : Option (Bor (List ℕ))) → left ≡ Some rest → line ≡ before 10 rest.now → option_copied others ≡ text_after 10 rest.now
    → is_there buffer a.world.groups ≡ true → Stops a b buffer line → Runs a b (λ state. lines_step state buffer (lines_left left))
quit_left a b buffer left rest line others e front back there stops = λ told.
    let P : List (List ℕ) → Type 0 = λ lines. RunsAt told a b (lines_step (state_with a told) buffer lines) in
    subst P (left_lines left rest line others e front back) (stops (lines_left others) there told)

-- another line, before the lines that are left
pub more_left : (a b c : CoreView) (buffer : Handle) (left : Option (Bor (List ℕ))) (rest : Bor (List ℕ)) (line : List ℕ) (others : Option (Bor (List ℕ))) → left ≡ Some rest → line ≡ before 10 rest.now → option_copied others ≡ text_after 10 rest.now
    → is_there buffer a.world.groups ≡ true → a.quits ≡ false → GoesOn a b buffer line → Runs b c (λ state. lines_step state buffer (lines_left others)) → Runs a c (λ state. lines_step state buffer (lines_left left))
more_left a b c buffer left rest line others e front back there going f g = λ told.
    let P : List (List ℕ) → Type 0 = λ lines. RunsAt told a c (lines_step (state_with a told) buffer lines) in
    subst P (left_lines left rest line others e front back) (runs-lines a b c buffer line (lines_left others) there going f g told)

-- what is done as if no `/quit` had been run before
pub goes-aside : (old mid : CoreView) (quit' quit : Bool) (step : State → Stepped) → quit' ≡ false → quit ≡ old.quits → Runs (record old { quits = quit' }) mid step → Runs old (record mid { quits = mid.quits || quit }) step
goes-aside old mid quit' quit step going was run =
    let P : Bool → Type 0 = λ quits. Runs (record old { quits = quits }) mid step in
    let Q : Bool → Type 0 = λ quit. Runs old (record mid { quits = mid.quits || quit }) step in
    subst Q (sym was) (aside (subst P going run))
  where
    or-aside : (a b c : Bool) → (a ≡ true → (false || c) ≡ true) → (a || b) ≡ true → (b || c) ≡ true
    or-aside a true c more e = refl
    or-aside true false c more e = more refl
    or-aside false false c more e = absurd (false≢true e)

    or-turned : (a b : Bool) → ((false || a) || b) ≡ (b || a)
    or-turned true true = refl
    or-turned true false = refl
    or-turned false true = refl
    or-turned false false = refl

    aside : Runs (record old { quits = false }) mid step → Runs old (record mid { quits = mid.quits || old.quits }) step
    aside run = λ told.
        let f = run told in
        record {
          keeps = record { board = f.keeps.board; rises = f.keeps.rises; links = f.keeps.links; kept = f.keeps.kept; saves = f.keeps.saves; servers = f.keeps.servers; verdicts = f.keeps.verdicts };
          board = record { boards = f.board.boards; steps = f.board.steps };
          counts = record { dropped = f.counts.dropped; short = f.counts.short; own = f.counts.own; lost = f.counts.lost; leaving = f.counts.leaving; counted = f.counts.counted; cuts = f.counts.cuts };
          causes = f.causes;
          does = λ here same below distinct were agrees.
              let g = f.does here same below distinct were agrees in
              record { means = record { same = g.means.same; told = g.means.told }; oracle = g.oracle; bytes = g.bytes; leaving = g.leaving; quits = ap (λ t. t || old.quits) g.quits ∙ or-turned _ old.quits; servers = g.servers; parts = g.parts };
          contains = λ below distinct were agrees.
              let is = f.contains below distinct were agrees in
              record {
                whole = λ same. (let d = is.whole same in record { holds = record { same = d.holds.same; told = d.holds.told }; is_on = d.is_on; oracle = d.oracle; quits = ap (λ t. t || old.quits) d.quits ∙ or-turned _ old.quits; servers = d.servers });
                part = record { stage = is.part.stage; is_on = is.part.is_on; holds = record { same = is.part.holds.same; told = is.part.holds.told }; servers = is.part.servers };
                quits = λ over. or-aside mid.quits old.quits (has_end (step (state_with old told)).acts) is.quits over;
              };
        }
