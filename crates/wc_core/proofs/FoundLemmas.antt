-- The server that is meant, the buffer that it is to have, and acts that memory was found for.
use Rattle.std.proofs.Common.{◌≡◌, ℕ, ◌+◌, ◌-◌, ◌^◌, ◌≤◌, min, Bool, true, false, List, is_some, Option, Some, None, Result, Ok, Err, IfOk, IfErr, refl, sym, subst, ◌∙◌}
use Rattle.std.specs.Borrow.{Bor}
use Rattle.std.specs.Option.{option_copied}
use Rattle.wc_text.specs.declared.names.Handle.{Handle}
use Rattle.wc_buffers.specs.Calls.{EntryGroups, handle_of_name}
use Rattle.wc_buffers.specs.declared.row.BufferSpec.{BufferSpec}
use Rattle.wc_model.specs.declared.change.What.TheVariants as what
use Rattle.wc_irc.specs.declared.act.Act.{Act as ServerAct}
use Rattle.wc_irc.specs.CloseActs.{disconnect_acts}
use Rattle.wc_irc.specs.CommandActs.{acts_of_typed, acts_of_unlinked}
use Rattle.wc_irc.specs.Servers.{ServerState}
use Rattle.wc_irc_words.specs.TypedSeen.{word_in}
use Rattle.wc_servers.specs.Seats.{SeatView, ServersView, seat_of}
use Rattle.wc_core.specs.CoreView.{CoreView}
use Rattle.wc_core.specs.Resolved.{change_of, null}
use Rattle.wc_core.specs.State.{State, Stepped}
use Rattle.wc_core.specs.Changing.{no_step}
use Rattle.wc_core.specs.ServerSteps.{try_step, server_acts_step, server_of}
use Rattle.wc_core.specs.ServerTyped.{open_new_step, meant_server, disconnect_step, acts_in, on_buffer_step}
use Rattle.wc_core.specs.Served.{plain_beside, state_of}
use Rattle.wc_core.proofs.ChainLemmas.{Runs-as}
use Rattle.wc_core.proofs.CoreLemmas.{starved_only}
use Rattle.wc_core.proofs.AskedLemmas.{disconnects-as, typed-as}
use Rattle.wc_core.specs.Contained.{Runs}
use Rattle.wc_core.proofs.RunLemmas.{Runs-stays}

-- ---- a buffer that is opened where none has its name

abbrev tries_new : BufferSpec → State → Stepped
tries_new spec state = try_step true state (change_of null (what.Add spec))

pub opens-not : (old : CoreView) (spec : BufferSpec) (there : Bool) → there ≡ is_some (handle_of_name spec.full_name old.world.groups) → there ≡ true → Runs old old (λ state. open_new_step state spec)
opens-not old spec there e passed =
    Runs-as old old no_step (λ state. open_new_step state spec) (λ told. let test : is_some (handle_of_name spec.full_name old.world.groups) ≡ true = sym e ∙ passed in rw test refl) (Runs-stays old)

pub opens-new : (old new : CoreView) (spec : BufferSpec) (there : Bool) → there ≡ is_some (handle_of_name spec.full_name old.world.groups) → there ≡ false → Runs old new (λ state. try_step true state (change_of null (what.Add spec)))
    → Runs old new (λ state. open_new_step state spec)
opens-new old new spec there e failed done =
    Runs-as old new (tries_new spec) (λ state. open_new_step state spec) (λ told. let test : is_some (handle_of_name spec.full_name old.world.groups) ≡ false = sym e ∙ failed in rw test refl) done

-- ---- servers that stay

pub refused-starved : (old new : CoreView) (servers : ServersView) (step : State → Stepped) → servers ≡ old.servers → new ≡ record old { servers = servers; starved = min (old.starved + 1) (2 ^ 64 - 1); cuts = min (old.cuts + 1) (2 ^ 64 - 1) } → old.starved ≤ new.starved → Runs old new step
refused-starved old new servers step e counts rises =
    let P : ServersView → Type 0 = λ servers. new ≡ record old { servers = servers; starved = min (old.starved + 1) (2 ^ 64 - 1); cuts = min (old.cuts + 1) (2 ^ 64 - 1) } in
    starved_only old new step (subst P e counts) rises

-- ---- acts

-- those that were found are run, or want of memory is counted
pub runs-found : {E : Type 0} (old new : CoreView) (k : ℕ) (r : Result (List ServerAct) E) (acts : List ServerAct) → IfOk r (λ a. a ≡ acts)
    → IfOk r (λ a. Runs old new (λ state. server_acts_step true k state a)) → IfErr r (λ e. (step : State → Stepped) → Runs old new step)
    → Runs old new (λ state. server_acts_step true k state acts)
runs-found old new k (Ok a) acts e done starves =
    let P : List ServerAct → Type 0 = λ acts. Runs old new (λ state. server_acts_step true k state acts) in
    subst P e done
runs-found old new k (Err f) acts e done starves = starves (λ state. server_acts_step true k state acts)

pub runs-asked : {E : Type 0} (old new : CoreView) (k : ℕ) (r : Result (Option (List ServerAct)) E) (acts : Option (List ServerAct)) → IfOk r (λ o. o ≡ acts)
    → IfOk r (λ o. Runs old new (λ state. server_acts_step true k state (acts_in o))) → IfErr r (λ e. (step : State → Stepped) → Runs old new step)
    → Runs old new (λ state. server_acts_step true k state (acts_in acts))
runs-asked old new k (Ok o) acts e done starves =
    let P : Option (List ServerAct) → Type 0 = λ o. Runs old new (λ state. server_acts_step true k state (acts_in o)) in
    subst P e done
runs-asked old new k (Err f) acts e done starves = starves (λ state. server_acts_step true k state (acts_in acts))

-- the server that is meant is told the end
pub ends-found : {E : Type 0} (old new : CoreView) (buffer : Handle) (name : Option (List ℕ)) (seat : SeatView) (link : ℕ) (server : ServerState) (r : Result (List ServerAct) E)
    → Some (seat_of seat) ≡ meant_server (state_of old (plain_beside old)) buffer name → link ≡ seat.link → server ≡ seat.server → IfOk r (λ a. a ≡ disconnect_acts server)
    → IfOk r (λ a. Runs old new (λ state. server_acts_step true link state a)) → IfErr r (λ e. (step : State → Stepped) → Runs old new step)
    → Runs old new (λ state. disconnect_step state buffer name)
ends-found old new buffer name seat link server r meant linked same is done starves =
    let P : ℕ → Type 0 = λ n. Runs old new (λ state. server_acts_step true n state (disconnect_acts seat.server)) in
    let Q : ServerState → Type 0 = λ s. Runs old new (λ state. server_acts_step true link state (disconnect_acts s)) in
    disconnects-as old new buffer name (Some (seat_of seat)) meant (subst P linked (subst Q same (runs-found old new link r (disconnect_acts server) is done starves)))

-- what is typed for the server of a buffer
pub types-linked : {E : Type 0} (old new : CoreView) (buffer : Handle) (line : List ℕ) (seat : SeatView) (link : ℕ) (server : ServerState) (groups : EntryGroups) (r : Result (Option (List ServerAct)) E)
    → Some (seat_of seat) ≡ server_of (state_of old (plain_beside old)) buffer → link ≡ seat.link → server ≡ seat.server → groups ≡ old.world.groups → IfOk r (λ o. o ≡ acts_of_typed groups server buffer line)
    → IfOk r (λ o. Runs old new (λ state. server_acts_step true link state (acts_in o))) → IfErr r (λ e. (step : State → Stepped) → Runs old new step)
    → Runs old new (λ state. on_buffer_step state buffer line (server_of state buffer))
types-linked old new buffer line seat link server groups r here linked same shown is done starves =
    let P : ℕ → Type 0 = λ n. Runs old new (λ state. server_acts_step true n state (acts_in (acts_of_typed old.world.groups seat.server buffer line))) in
    let Q : ServerState → Type 0 = λ s. Runs old new (λ state. server_acts_step true link state (acts_in (acts_of_typed old.world.groups s buffer line))) in
    let R : EntryGroups → Type 0 = λ groups. Runs old new (λ state. server_acts_step true link state (acts_in (acts_of_typed groups server buffer line))) in
    let ran = subst P linked (subst Q same (subst R shown (runs-asked old new link r (acts_of_typed groups server buffer line) is done starves))) in
    typed-as old new buffer line (Some (seat_of seat)) here
    (Runs-as old new (λ state. server_acts_step true seat.link state (acts_in (acts_of_typed old.world.groups seat.server buffer line))) (λ state. on_buffer_step state buffer line (Some (seat_of seat))) (λ told. refl) ran)

-- the same on a buffer of no server
pub types-unlinked : {E : Type 0} (old new : CoreView) (buffer : Handle) (line : List ℕ) (groups : EntryGroups) (r : Result (Option (List ServerAct)) E)
    → None ≡ server_of (state_of old (plain_beside old)) buffer → groups ≡ old.world.groups → IfOk r (λ o. o ≡ acts_of_unlinked groups buffer line)
    → IfOk r (λ o. Runs old new (λ state. server_acts_step true 0 state (acts_in o))) → IfErr r (λ e. (step : State → Stepped) → Runs old new step)
    → Runs old new (λ state. on_buffer_step state buffer line (server_of state buffer))
types-unlinked old new buffer line groups r here shown is done starves =
    let R : EntryGroups → Type 0 = λ groups. Runs old new (λ state. server_acts_step true 0 state (acts_in (acts_of_unlinked groups buffer line))) in
    let ran = subst R shown (runs-asked old new 0 r (acts_of_unlinked groups buffer line) is done starves) in
    typed-as old new buffer line None here
    (Runs-as old new (λ state. server_acts_step true 0 state (acts_in (acts_of_unlinked old.world.groups buffer line))) (λ state. on_buffer_step state buffer line None) (λ told. refl) ran)

-- ---- a name that is meant

pub words_copied : (o : Option (Bor (List ℕ))) → option_copied o ≡ word_in o
words_copied None = refl
words_copied (Some word) = refl
