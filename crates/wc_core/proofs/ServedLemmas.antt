-- What the calls of servers do.
use Rattle.std.proofs.Common.{cond, ◌≡◌, ℕ, ◌+◌, ◌-◌, ◌^◌, ◌≤◌, Bool, true, false, List, [], min, Option, Some, None, Result, Ok, Err, codes, is_some, not, refl, ap, sym, subst, ◌∙◌}
use Rattle.std.specs.Borrow.{Bor}
use Rattle.std.specs.Option.{option_copied}
use Rattle.std.specs.Prelude.{option_map, option_and_then}
use Rattle.std.proofs.lemmas.Bool.{false≢true}
use Rattle.wc_text.specs.declared.names.Cause.{Cause}
use Rattle.wc_text.specs.declared.names.Handle.{Handle}
use Rattle.wc_outside.specs.Keyed.{at_key, put_at}
use Rattle.wc_buffers.specs.Calls.{EntryGroups, vars_at}
use Rattle.wc_buffers.specs.Vars.{value_of}
use Rattle.wc_text.specs.declared.names.Pair.{Pair}
use Rattle.wc_irc.specs.CloseActs.{close_acts}
use Rattle.wc_text.specs.Lossy.{lossy_of}
use Rattle.wc_ircmsg.specs.Answers.{reading_of}
use Rattle.wc_ircmsg.specs.declared.message.LineRefused.{LineRefused}
use Rattle.wc_ircmsg.specs.declared.message.Message.{Message}
use Rattle.wc_irc.specs.declared.act.Act.{Act as ServerAct}
use Rattle.wc_irc.specs.LinkActs.{first_acts, after_connect, loss_acts, after_loss}
use Rattle.wc_irc.specs.ServerActs.{acts_of_server, after_server}
use Rattle.wc_irc.specs.Servers.{ServerState}
use Rattle.wc_core.specs.ServerSteps.{before_step}
use Rattle.wc_board.specs.Told.{is_close}
use Rattle.wc_model.specs.declared.change.Change.{Change}
use Rattle.wc_model.specs.declared.change.What.{What}
use Rattle.wc_model.specs.declared.change.What.TheVariants as what
use Rattle.wc_servers.specs.Lost.{BecomesIf, BecomesAt, Stood, Took, LosesIf, Lost}
use Rattle.wc_servers.specs.Seats.{SeatView, ServersView, ServerSeat, seat_link, server_link, is_open, is_open_at, seat_of, open_of, open_in, open_if, told_if, told_at, known, left_for, server_named, AreSeats}
use Rattle.wc_servers.proofs.OutLemmas.{open-at}
use Rattle.wc_core.specs.CoreView.{CoreView}
use Rattle.wc_core.specs.State.{State, Stepped}
use Rattle.wc_core.specs.Changing.{no_step, then_does, put_step}
use Rattle.wc_core.specs.Inputs.{taken_at}
use Rattle.wc_core.specs.ServerSteps.{with_server, acts_step, leave_server, server_loss_step, server_acts_step, message_step, server_line_step, stands_step, named_in, server_of, parting_step}
use Rattle.wc_core.specs.Served.{plain_beside, state_of}
use Rattle.wc_core.proofs.ChainLemmas.{Runs-then, Runs-as}
use Rattle.wc_core.proofs.ServerCloses.{acts-closes, server_acts-closes}
use Rattle.wc_core.specs.ServersKept.{LeavesIf, LeavesAt, LosesServer, left_after}
use Rattle.wc_core.proofs.ComeLemmas.{left_one}
use Rattle.wc_core.proofs.ServerLemmas.{becomes, leaves}
use Rattle.wc_core.specs.Contained.{Rest, state_with, Runs}
use Rattle.wc_core.proofs.RunLemmas.{Runs-stays}
use Rattle.wc_core.proofs.CoreLemmas.{starved_only}

-- ---- a server that becomes another one, and what follows

becomes-by : (E : Type 0) (old new : CoreView) (k : ℕ) (does : ServerState → List ServerAct) (after : ServerState → ServerState) (step : State → Option ServerSeat → Stepped) (seats : List SeatView) (acts : List ServerAct)
    → ((state : State) → step state None ≡ no_step state)
    → ((told : Rest) (s : ServerSeat) → step (state_with old told) (Some s) ≡ then_does (put_step (with_server (state_with old told) k (after s.server))) (λ next. server_acts_step false k next (does s.server)))
    → AreSeats old.servers → (o : Option SeatView) → at_key seat_link k old.servers.seats ≡ o → BecomesAt {E = E} k does after old.servers.seats seats (Ok acts) o
    → Runs (record old { servers = record old.servers { seats = seats } }) new (λ state. server_acts_step false k state acts) → Runs old new (λ state. step state (at_key server_link k state.servers))
becomes-by E old new k does after step seats acts none some are o at is done = by o at is
  where
    Mid : List SeatView → CoreView
    Mid seats = record old { servers = record old.servers { seats = seats } }

    nothing : at_key server_link k (open_of old.servers.seats) ≡ None → (seats ≡ old.servers.seats) × (acts ≡ []) → Runs old new (λ state. step state (at_key server_link k state.servers))
    nothing missing same =
        let P : List SeatView → Type 0 = λ seats. Runs (Mid seats) new (λ state. server_acts_step false k state acts) in
        let Q : List ServerAct → Type 0 = λ acts. Runs old new (λ state. server_acts_step false k state acts) in
        Runs-as old new no_step (λ state. step state (at_key server_link k state.servers)) (λ told. sym (ap (step (state_with old told)) missing ∙ none (state_with old told))) (subst Q same.1 (subst P same.0 done))

    becoming : (s : SeatView) → at_key seat_link k old.servers.seats ≡ Some s → is_open s ≡ true → (acts ≡ does s.server) × (seats ≡ put_at seat_link k (known (after s.server) s) old.servers.seats) → Runs old new (λ state. step state (at_key server_link k state.servers))
    becoming s at sits same =
        let there : at_key server_link k (open_of old.servers.seats) ≡ Some (seat_of s) = open-at k old.servers.seats are.apart ∙ ap open_in at ∙ ap (λ b. open_if b s) sits in
        let P : List SeatView → Type 0 = λ seats. Runs (Mid seats) new (λ state. server_acts_step false k state acts) in
        let Q : List ServerAct → Type 0 = λ acts. Runs (Mid (put_at seat_link k (known (after s.server) s) old.servers.seats)) new (λ state. server_acts_step false k state acts) in
        let first : State → Stepped = λ state. put_step (with_server state k (after s.server)) in
        let next : State → Stepped = λ state. server_acts_step false k state (does s.server) in
        Runs-as old new (λ state. then_does (first state) next) (λ state. step state (at_key server_link k state.servers)) (λ told. sym (ap (step (state_with old told)) there ∙ some told (seat_of s)))
        (Runs-then old (Mid (put_at seat_link k (known (after s.server) s) old.servers.seats)) new first next (λ j state. refl) (λ j state. server_acts-closes j false k state (does s.server)) refl (becomes old k s (after s.server) are at sits) (subst Q same.0 (subst P same.1 done)))

    with_seat : (s : SeatView) → at_key seat_link k old.servers.seats ≡ Some s → (t : Bool) → is_open s ≡ t → BecomesIf {E = E} t k does after old.servers.seats seats (Ok acts) s → Runs old new (λ state. step state (at_key server_link k state.servers))
    with_seat s at true sits is = becoming s at sits is
    with_seat s at false shut is = nothing (open-at k old.servers.seats are.apart ∙ ap open_in at ∙ ap (λ b. open_if b s) shut) is

    by : (o : Option SeatView) → at_key seat_link k old.servers.seats ≡ o → BecomesAt {E = E} k does after old.servers.seats seats (Ok acts) o → Runs old new (λ state. step state (at_key server_link k state.servers))
    by None at is = nothing (open-at k old.servers.seats are.apart ∙ ap open_in at) is
    by (Some s) at is = with_seat s at (is_open s) refl is

-- all stay where memory is refused
becomes-refused : {E : Type 0} (k : ℕ) (does : ServerState → List ServerAct) (after : ServerState → ServerState) (old new : List SeatView) (f : E) (o : Option SeatView) → BecomesAt {E = E} k does after old new (Err f) o → new ≡ old
becomes-refused k does after old new f None is = is
becomes-refused {E} k does after old new f (Some s) is = by (is_open s) is where
  by : (t : Bool) → BecomesIf {E = E} t k does after old new (Err f) s → new ≡ old
  by true is = is
  by false is = is

pub stands-refused : (E : Type 0) (old new : ServersView) (k : ℕ) (f : E) → Stood {E = E} k old.seats new.seats (Err f) (at_key seat_link k old.seats) → new ≡ record old { seats = new.seats } → new ≡ old
stands-refused E old new k f is e = e ∙ ap (λ (seats : List SeatView). record old { seats = seats }) (becomes-refused k (λ s. first_acts s) (λ s. after_connect s) old.seats new.seats f (at_key seat_link k old.seats) is)

pub takes-refused : (E : Type 0) (old new : ServersView) (groups : EntryGroups) (k : ℕ) (m : Message) (f : E) → Took {E = E} k groups m old.seats new.seats (Err f) (at_key seat_link k old.seats) → new ≡ record old { seats = new.seats } → new ≡ old
takes-refused E old new groups k m f is e =
    e ∙ ap (λ (seats : List SeatView). record old { seats = seats }) (becomes-refused k (λ s. acts_of_server groups s m) (λ s. after_server s m) old.seats new.seats f (at_key seat_link k old.seats) is)

-- its link stands
pub stands-done : (E : Type 0) (old new : CoreView) (k : ℕ) (seats : List SeatView) (acts : List ServerAct) → AreSeats old.servers
    → Stood {E = E} k old.servers.seats seats (Ok acts) (at_key seat_link k old.servers.seats) → Runs (record old { servers = record old.servers { seats = seats } }) new (λ state. server_acts_step false k state acts)
    → Runs old new (λ state. stands_step state k (at_key server_link k state.servers))
stands-done E old new k seats acts are is done =
    becomes-by E old new k (λ s. first_acts s) (λ s. after_connect s) (λ state o. stands_step state k o) seats acts (λ state. refl) (λ told s. refl) are (at_key seat_link k old.servers.seats) refl is done

-- it takes a message
pub takes-done : (E : Type 0) (old new : CoreView) (k : ℕ) (m : Message) (seats : List SeatView) (acts : List ServerAct) → AreSeats old.servers
    → Took {E = E} k old.world.groups m old.servers.seats seats (Ok acts) (at_key seat_link k old.servers.seats) → Runs (record old { servers = record old.servers { seats = seats } }) new (λ state. server_acts_step false k state acts)
    → Runs old new (λ state. taken_at state k m (at_key server_link k state.servers))
takes-done E old new k m seats acts are is done =
    becomes-by E old new k (λ s. acts_of_server old.world.groups s m) (λ s. after_server s m) (λ state o. taken_at state k m o) seats acts (λ state. refl) (λ told s. refl) are (at_key seat_link k old.servers.seats) refl is done

-- ---- lines

-- there is no server that is open
pub lines-none : (old : CoreView) (k : ℕ) (line : List ℕ) → AreSeats old.servers → open_in (at_key seat_link k old.servers.seats) ≡ None → Runs old old (λ state. server_line_step state k line (at_key server_link k state.servers))
lines-none old k line are none =
    Runs-as old old no_step (λ state. server_line_step state k line (at_key server_link k state.servers)) (λ told. sym (ap (server_line_step (state_with old told) k line) (open-at k old.servers.seats are.apart ∙ none))) (Runs-stays old)

pub lines-read : (old new : CoreView) (k : ℕ) (line : List ℕ) (m : Message) → reading_of (lossy_of line) ≡ Ok m → Runs old new (λ state. taken_at state k m (at_key server_link k state.servers)) → Runs old new (λ state. server_line_step state k line (at_key server_link k state.servers))
lines-read old new k line m e done =
    Runs-as old new (λ state. taken_at state k m (at_key server_link k state.servers)) (λ state. server_line_step state k line (at_key server_link k state.servers)) (λ told. by told (at_key server_link k (open_of old.servers.seats))) done
  where
    by : (told : Rest) (o : Option ServerSeat) → taken_at (state_with old told) k m o ≡ server_line_step (state_with old told) k line o
    by told None = refl
    by told (Some seat) = ap (message_step (state_with old told) k seat.server) (sym e)

-- one that is no message
pub lines-passed : (old : CoreView) (k : ℕ) (line : List ℕ) (refused : LineRefused) → reading_of (lossy_of line) ≡ Err refused → Runs old old (λ state. server_line_step state k line (at_key server_link k state.servers))
lines-passed old k line refused e =
    Runs-as old old no_step (λ state. server_line_step state k line (at_key server_link k state.servers)) (λ told. by told (at_key server_link k (open_of old.servers.seats))) (Runs-stays old)
  where
    by : (told : Rest) (o : Option ServerSeat) → no_step (state_with old told) ≡ server_line_step (state_with old told) k line o
    by told None = refl
    by told (Some seat) = ap (message_step (state_with old told) k seat.server) (sym e)

-- ---- a loss

-- there is no server that is open
pub loses-none : (old : CoreView) (k : ℕ) (why : Cause) → AreSeats old.servers → open_in (at_key seat_link k old.servers.seats) ≡ None → Runs old old (λ state. server_loss_step k why state (at_key server_link k state.servers))
loses-none old k why are none =
    Runs-as old old no_step (λ state. server_loss_step k why state (at_key server_link k state.servers)) (λ told. sym (ap (server_loss_step k why (state_with old told)) (open-at k old.servers.seats are.apart ∙ none))) (Runs-stays old)

lost-then : (old new : CoreView) (k : ℕ) (why : Cause) (s : SeatView) (server : ServerState) → AreSeats old.servers → at_key seat_link k old.servers.seats ≡ Some s → is_open s ≡ true
    → Runs (record old { servers = left_one old.servers k why server s }) new (λ state. acts_step false k state (loss_acts old.world.groups s.server))
    → Runs old new (λ state. server_loss_step k why state (at_key server_link k state.servers))
lost-then old new k why s server are at sits done =
    let there : at_key server_link k (open_of old.servers.seats) ≡ Some (seat_of s) = open-at k old.servers.seats are.apart ∙ ap open_in at ∙ ap (λ b. open_if b s) sits in
    let mid : CoreView = record old { servers = left_one old.servers k why server s } in
    let next : State → Stepped = λ state. acts_step false k state (loss_acts old.world.groups s.server) in
    Runs-as old new (λ state. then_does (leave_server k why state) next) (λ state. server_loss_step k why state (at_key server_link k state.servers)) (λ told. sym (ap (server_loss_step k why (state_with old told)) there))
    (Runs-then old mid new (leave_server k why) next (λ j state. refl) (λ j state. acts-closes j false k state (loss_acts old.world.groups s.server)) refl (leaves old k s server why are at sits) done)

-- one that is open leaves, and what follows is done
pub loses-done : (E : Type 0) (old new : CoreView) (k : ℕ) (why : Cause) (seats : List SeatView) (acts : List ServerAct) → AreSeats old.servers → Lost {E = E} k old.world.groups why old.servers.left old.servers.seats seats (Ok acts) (at_key seat_link k old.servers.seats)
    → (open_in (at_key seat_link k old.servers.seats) ≡ None → ⊥) → Runs (record old { servers = record old.servers { seats = seats; left = left_after old.servers } }) new (λ state. acts_step false k state acts)
    → Runs old new (λ state. server_loss_step k why state (at_key server_link k state.servers))
loses-done E old new k why seats acts are is sits_open done = by (at_key seat_link k old.servers.seats) refl is sits_open
  where
    Mid : List SeatView → CoreView
    Mid seats = record old { servers = record old.servers { seats = seats; left = left_after old.servers } }

    with_seat : (s : SeatView) → at_key seat_link k old.servers.seats ≡ Some s → (t : Bool) → is_open s ≡ t → LosesIf {E = E} t k old.world.groups why old.servers.left old.servers.seats seats (Ok acts) s → (open_if t s ≡ None → ⊥) → Runs old new (λ state. server_loss_step k why state (at_key server_link k state.servers))
    with_seat s at false shut is sits_open = absurd (sits_open refl)
    with_seat s at true sits is sits_open =
        let P : List SeatView → Type 0 = λ seats. Runs (Mid seats) new (λ state. acts_step false k state acts) in
        let now = put_at seat_link k (left_for why old.servers.left (known (after_loss s.server) s)) old.servers.seats in
        let Q : List ServerAct → Type 0 = λ acts. Runs (Mid now) new (λ state. acts_step false k state acts) in
        lost-then old new k why s (after_loss s.server) are at sits (subst Q is.0 (subst P is.1 done))

    by : (o : Option SeatView) → at_key seat_link k old.servers.seats ≡ o → Lost {E = E} k old.world.groups why old.servers.left old.servers.seats seats (Ok acts) o → (open_in o ≡ None → ⊥) → Runs old new (λ state. server_loss_step k why state (at_key server_link k state.servers))
    by None at is sits_open = absurd (sits_open refl)
    by (Some s) at is sits_open = with_seat s at (is_open s) refl is sits_open

-- one that is open leaves, and memory is refused for what follows
pub loses-starved : (E : Type 0) (old new : CoreView) (k : ℕ) (why : Cause) (seats : List SeatView) (f : E) → AreSeats old.servers → Lost {E = E} k old.world.groups why old.servers.left old.servers.seats seats (Err f) (at_key seat_link k old.servers.seats)
    → (open_in (at_key seat_link k old.servers.seats) ≡ None → ⊥)
    → new ≡ record old { servers = record old.servers { seats = seats; left = left_after old.servers }; starved = min (old.starved + 1) (2 ^ 64 - 1); cuts = min (old.cuts + 1) (2 ^ 64 - 1) } → old.starved ≤ new.starved
    → Runs old new (λ state. server_loss_step k why state (at_key server_link k state.servers))
loses-starved E old new k why seats f are is sits_open e rises = by (at_key seat_link k old.servers.seats) refl is sits_open
  where
    with_seat : (s : SeatView) → at_key seat_link k old.servers.seats ≡ Some s → (t : Bool) → is_open s ≡ t → LosesIf {E = E} t k old.world.groups why old.servers.left old.servers.seats seats (Err f) s → (open_if t s ≡ None → ⊥) → Runs old new (λ state. server_loss_step k why state (at_key server_link k state.servers))
    with_seat s at false shut is sits_open = absurd (sits_open refl)
    with_seat s at true sits is sits_open =
        let mid : CoreView = record old { servers = left_one old.servers k why s.server s } in
        let Q : List SeatView → Type 0 = λ seats. new ≡ record old { servers = record old.servers { seats = seats; left = left_after old.servers }; starved = min (old.starved + 1) (2 ^ 64 - 1); cuts = min (old.cuts + 1) (2 ^ 64 - 1) } in
        lost-then old new k why s s.server are at sits (starved_only mid new (λ state. acts_step false k state (loss_acts old.world.groups s.server)) (subst Q is e) rises)

    by : (o : Option SeatView) → at_key seat_link k old.servers.seats ≡ o → Lost {E = E} k old.world.groups why old.servers.left old.servers.seats seats (Err f) o → (open_in o ≡ None → ⊥) → Runs old new (λ state. server_loss_step k why state (at_key server_link k state.servers))
    by None at is sits_open = absurd (sits_open refl)
    by (Some s) at is sits_open = with_seat s at (is_open s) refl is sits_open

-- ---- by what the calls say

pub stands-to : (E : Type 0) (old new : CoreView) (servers : ServersView) (k : ℕ) (acts : List ServerAct) → AreSeats old.servers → Stood {E = E} k old.servers.seats servers.seats (Ok acts) (at_key seat_link k old.servers.seats) → servers ≡ record old.servers { seats = servers.seats }
    → Runs (record old { servers = servers }) new (λ state. server_acts_step false k state acts) → Runs old new (λ state. stands_step state k (at_key server_link k state.servers))
stands-to E old new servers k acts are is e done =
    let P : ServersView → Type 0 = λ v. Runs (record old { servers = v }) new (λ state. server_acts_step false k state acts) in
    stands-done E old new k servers.seats acts are is (subst P e done)

pub takes-to : (E : Type 0) (old new : CoreView) (servers : ServersView) (groups : EntryGroups) (k : ℕ) (m : Message) (acts : List ServerAct) → AreSeats old.servers → groups ≡ old.world.groups
    → Took {E = E} k groups m old.servers.seats servers.seats (Ok acts) (at_key seat_link k old.servers.seats) → servers ≡ record old.servers { seats = servers.seats }
    → Runs (record old { servers = servers }) new (λ state. server_acts_step false k state acts) → Runs old new (λ state. taken_at state k m (at_key server_link k state.servers))
takes-to E old new servers groups k m acts are same is e done =
    let P : ServersView → Type 0 = λ v. Runs (record old { servers = v }) new (λ state. server_acts_step false k state acts) in
    let Q : EntryGroups → Type 0 = λ groups. Took {E = E} k groups m old.servers.seats servers.seats (Ok acts) (at_key seat_link k old.servers.seats) in
    takes-done E old new k m servers.seats acts are (subst Q same is) (subst P e done)

pub loses-to : (E : Type 0) (old new : CoreView) (servers : ServersView) (groups : EntryGroups) (k : ℕ) (why : Cause) (acts : List ServerAct) → AreSeats old.servers → groups ≡ old.world.groups
    → Lost {E = E} k groups why old.servers.left old.servers.seats servers.seats (Ok acts) (at_key seat_link k old.servers.seats) → (open_in (at_key seat_link k old.servers.seats) ≡ None → ⊥) → servers ≡ record old.servers { seats = servers.seats; left = left_after old.servers }
    → Runs (record old { servers = servers }) new (λ state. acts_step false k state acts) → Runs old new (λ state. server_loss_step k why state (at_key server_link k state.servers))
loses-to E old new servers groups k why acts are same is sits e done =
    let P : ServersView → Type 0 = λ v. Runs (record old { servers = v }) new (λ state. acts_step false k state acts) in
    let Q : EntryGroups → Type 0 = λ groups. Lost {E = E} k groups why old.servers.left old.servers.seats servers.seats (Ok acts) (at_key seat_link k old.servers.seats) in
    loses-done E old new k why servers.seats acts are (subst Q same is) sits (subst P e done)

pub starves-to : (E : Type 0) (old new : CoreView) (servers : ServersView) (groups : EntryGroups) (k : ℕ) (why : Cause) (f : E) → AreSeats old.servers → groups ≡ old.world.groups
    → Lost {E = E} k groups why old.servers.left old.servers.seats servers.seats (Err f) (at_key seat_link k old.servers.seats) → (open_in (at_key seat_link k old.servers.seats) ≡ None → ⊥) → servers ≡ record old.servers { seats = servers.seats; left = left_after old.servers }
    → new ≡ record old { servers = servers; starved = min (old.starved + 1) (2 ^ 64 - 1); cuts = min (old.cuts + 1) (2 ^ 64 - 1) } → old.starved ≤ new.starved → Runs old new (λ state. server_loss_step k why state (at_key server_link k state.servers))
starves-to E old new servers groups k why f are same is sits e counts rises =
    let P : ServersView → Type 0 = λ v. new ≡ record old { servers = v; starved = min (old.starved + 1) (2 ^ 64 - 1); cuts = min (old.cuts + 1) (2 ^ 64 - 1) } in
    let Q : EntryGroups → Type 0 = λ groups. Lost {E = E} k groups why old.servers.left old.servers.seats servers.seats (Err f) (at_key seat_link k old.servers.seats) in
    loses-starved E old new k why servers.seats f are (subst Q same is) sits (subst P e counts) rises

-- whether a server was found
pub none_found : {A B : Type 0} (f : A → B) (o : Option (Bor A)) (x : Option B) (b : Bool) → option_map f (option_copied o) ≡ x → is_some o ≡ not b → b ≡ true → x ≡ None
none_found f None x b e is none = sym e
none_found f (Some a) x b e is none = absurd (false≢true (sym (is ∙ ap not none)))

pub some_found : {A B : Type 0} (f : A → B) (o : Option (Bor A)) (x : Option B) (b : Bool) → option_map f (option_copied o) ≡ x → is_some o ≡ not b → b ≡ false → x ≡ None → ⊥
some_found f None x b e is some same = false≢true (is ∙ ap not some)
some_found f (Some a) x b e is some same = absurd (let q : Some (f a.now) ≡ None = e ∙ same in cc)

-- ---- what a loss leaves of servers

pub leaves-none : (old : ServersView) (k : ℕ) (why : Cause) (o : Option SeatView) → open_in o ≡ None → LeavesAt k why old old o
leaves-none old k why None none = refl
leaves-none old k why (Some s) none = by (is_open s) none where
  by : (t : Bool) → open_if t s ≡ None → LeavesIf t k why old old s
  by true none = absurd (let q : Some (seat_of s) ≡ None = none in cc)
  by false none = refl

pub leaves-as : (E : Type 0) (old new : ServersView) (groups : EntryGroups) (k : ℕ) (why : Cause) (r : Result (List ServerAct) E) → Lost {E = E} k groups why old.left old.seats new.seats r (at_key seat_link k old.seats) → (open_in (at_key seat_link k old.seats) ≡ None → ⊥)
    → new ≡ record old { seats = new.seats; left = left_after old } → LeavesAt k why old new (at_key seat_link k old.seats)
leaves-as E old new groups k why r lost sits_open e = by (at_key seat_link k old.seats) lost sits_open
  where
    F : List SeatView → ServersView
    F seats = record old { seats = seats; left = left_after old }

    with_seat : (s : SeatView) (r : Result (List ServerAct) E) (t : Bool) → LosesIf {E = E} t k groups why old.left old.seats new.seats r s → (open_if t s ≡ None → ⊥) → LeavesIf t k why old new s
    with_seat s r false is sits_open = absurd (sits_open refl)
    with_seat s (Ok acts) true is sits_open = record { server = after_loss s.server; left = e ∙ ap F is.1 }
    with_seat s (Err f) true is sits_open = record { server = s.server; left = e ∙ ap F is }

    by : (o : Option SeatView) → Lost {E = E} k groups why old.left old.seats new.seats r o → (open_in o ≡ None → ⊥) → LeavesAt k why old new o
    by None is sits_open = absurd (sits_open refl)
    by (Some s) is sits_open = with_seat s r (is_open s) is sits_open

-- the same servers after that
pub leaves-same : (a b c : ServersView) (k : ℕ) (why : Cause) → LeavesAt k why a b (at_key seat_link k a.seats) → c ≡ b → LeavesAt k why a c (at_key seat_link k a.seats)
leaves-same a b c k why is e = let P : ServersView → Type 0 = λ servers. LeavesAt k why a servers (at_key seat_link k a.seats) in subst P (sym e) is

-- no bytes are put where no server is open
pub told-shut : (k : ℕ) (line : List ℕ) (seats : List SeatView) (o : Option SeatView) → is_open_at o ≡ false → told_at k line seats o ≡ seats
told-shut k line seats None shut = refl
told-shut k line seats (Some s) shut = ap (λ t. told_if t k line seats s) shut

pub sends-shut : (old new : ServersView) (k : ℕ) (line : List ℕ) → new ≡ record old { seats = told_at k line old.seats (at_key seat_link k old.seats) } → is_open_at (at_key seat_link k old.seats) ≡ false → new ≡ old
sends-shut old new k line e shut =
    let F : List SeatView → ServersView = λ seats. record old { seats = seats } in
    e ∙ ap F (told-shut k line old.seats (at_key seat_link k old.seats) shut)

-- the loss of a link that has an open client, or none
pub loses-other : (old new : ServersView) (k : ℕ) (why : Cause) (b : Bool) → b ≡ true → new ≡ old → LosesServer b k why old new
loses-other old new k why true e same = same
loses-other old new k why false e same = absurd (false≢true e)

pub loses-server : (old new : ServersView) (k : ℕ) (why : Cause) (b : Bool) → b ≡ false → LeavesAt k why old new (at_key seat_link k old.seats) → LosesServer b k why old new
loses-server old new k why true e is = absurd (false≢true (sym e))
loses-server old new k why false e is = is

-- ---- the server of a buffer

abbrev named_by : ServersView → Option (List Pair) → Option ServerSeat
named_by servers vars = named_in (open_of servers.seats) (option_and_then (value_of (codes "server")) vars)

pub serves-none : (core : CoreView) (buffer : Handle) (groups : EntryGroups) → groups ≡ core.world.groups → None ≡ vars_at buffer groups → None ≡ server_of (state_of core (plain_beside core)) buffer
serves-none core buffer groups same e = ap (named_by core.servers) (e ∙ ap (vars_at buffer) same)

pub serves-unnamed : (core : CoreView) (buffer : Handle) (groups : EntryGroups) (vars : List Pair) → groups ≡ core.world.groups → Some vars ≡ vars_at buffer groups → None ≡ value_of (codes "server") vars → None ≡ server_of (state_of core (plain_beside core)) buffer
serves-unnamed core buffer groups vars same e none = ap (named_in (open_of core.servers.seats)) none ∙ ap (named_by core.servers) (e ∙ ap (vars_at buffer) same)

pub serves-named : (core : CoreView) (buffer : Handle) (groups : EntryGroups) (vars : List Pair) (name said : List ℕ) (found : Option ServerSeat) → groups ≡ core.world.groups → Some vars ≡ vars_at buffer groups → Some name ≡ value_of (codes "server") vars → said ≡ name
    → found ≡ server_named said (open_of core.servers.seats) → found ≡ server_of (state_of core (plain_beside core)) buffer
serves-named core buffer groups vars name said found same e named read is =
    is ∙ ap (λ name. server_named name (open_of core.servers.seats)) read ∙ ap (named_in (open_of core.servers.seats)) named ∙ ap (named_by core.servers) (e ∙ ap (vars_at buffer) same)

-- the channel of a buffer is left, where the buffer has a server
pub parts-none : (old : CoreView) (buffer : Handle) → None ≡ server_of (state_of old (plain_beside old)) buffer → Runs old old (λ state. parting_step state buffer (server_of state buffer))
parts-none old buffer none = Runs-as old old no_step (λ state. parting_step state buffer (server_of state buffer)) (λ told. ap (parting_step (state_with old told) buffer) none) (Runs-stays old)

pub parts-found : (old new : CoreView) (buffer : Handle) (groups : EntryGroups) (seat : SeatView) (link : ℕ) (server : ServerState) (acts : List ServerAct)
    → Some (seat_of seat) ≡ server_of (state_of old (plain_beside old)) buffer → link ≡ seat.link → server ≡ seat.server → groups ≡ old.world.groups → acts ≡ close_acts groups server buffer → Runs old new (λ state. acts_step false link state acts)
    → Runs old new (λ state. parting_step state buffer (server_of state buffer))
parts-found old new buffer groups seat link server acts there linked same shown e done =
    let P : ℕ → Type 0 = λ n. Runs old new (λ state. acts_step false n state acts) in
    let Q : List ServerAct → Type 0 = λ acts. Runs old new (λ state. acts_step false seat.link state acts) in
    let all = e ∙ ap (λ groups. close_acts groups server buffer) shown ∙ ap (λ server. close_acts old.world.groups server buffer) same in
    Runs-as old new (λ state. acts_step false seat.link state (close_acts old.world.groups seat.server buffer)) (λ state. parting_step state buffer (server_of state buffer)) (λ told. ap (parting_step (state_with old told) buffer) there) (subst Q all (subst P linked done))

-- a change that closes no buffer
is_close-other : (w : What) → (w ≡ what.Close → ⊥) → is_close w ≡ false
is_close-other (what.Add spec) other = refl
is_close-other what.Close other = absurd (other refl)
is_close-other (what.MoveTo number) other = refl
is_close-other (what.MergeInto into) other = refl
is_close-other what.Unmerge other = refl
is_close-other what.Hide other = refl
is_close-other what.Unhide other = refl
is_close-other (what.Rename name flips) other = refl
is_close-other (what.ShortName name) other = refl
is_close-other (what.Title title) other = refl
is_close-other (what.SetVar var) other = refl
is_close-other (what.RemoveVar name) other = refl
is_close-other (what.Print line) other = refl
is_close-other what.Clear other = refl
is_close-other (what.Flips flips) other = refl
is_close-other (what.AddGroup parent item) other = refl
is_close-other (what.AddNick group item) other = refl
is_close-other (what.RemoveGroup name) other = refl
is_close-other (what.RemoveNick name) other = refl
is_close-other (what.ChangeGroup item) other = refl
is_close-other (what.ChangeNick item) other = refl
is_close-other (what.Limit limit) other = refl

-- before it nothing is done
pub before-other : (old : CoreView) (change : Change) → (change.what ≡ what.Close → ⊥) → Runs old old (λ state. before_step state change)
before-other old change other =
    Runs-as old old no_step (λ state. before_step state change)
    (λ told. ap (λ t. cond t (parting_step (state_with old told) change.buffer (server_of (state_with old told) change.buffer)) (no_step (state_with old told))) (sym (is_close-other change.what other))) (Runs-stays old)

-- servers that stay as they were where one is not open, by one step after another
pub shut-then : (a b c : ServersView) (k : ℕ) → (is_open_at (at_key seat_link k a.seats) ≡ false → b ≡ a) → (is_open_at (at_key seat_link k b.seats) ≡ false → c ≡ b) → is_open_at (at_key seat_link k a.seats) ≡ false → c ≡ a
shut-then a b c k f g shut =
    let same = f shut in
    g (ap (λ (servers : ServersView). is_open_at (at_key seat_link k servers.seats)) same ∙ shut) ∙ same
