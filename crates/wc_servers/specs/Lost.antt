-- What a server's machine answers, and what the servers are after that.
use Rattle.std.specs.Prelude.{◌≡◌, ℕ, Bool, true, false, List, [], Option, Some, None, Result, Ok, Err}
use Rattle.wc_text.specs.declared.names.Cause.{Cause}
use Rattle.wc_outside.specs.Keyed.{put_at}
use Rattle.wc_buffers.specs.Calls.{EntryGroups}
use Rattle.wc_ircmsg.specs.declared.message.Message.{Message}
use Rattle.wc_irc.specs.declared.act.Act.{Act}
use Rattle.wc_irc.specs.LinkActs.{first_acts, after_connect, loss_acts, after_loss}
use Rattle.wc_irc.specs.ServerActs.{acts_of_server, after_server}
use Rattle.wc_irc.specs.Servers.{ServerState}
use Rattle.wc_servers.specs.Seats.{SeatView, seat_link, is_open, known, left_for}

-- where there is no server that is open nothing follows
abbrev pub Nothing : {E : Type 0} → List SeatView → List SeatView → Result (List Act) E → Type 0
Nothing old new (Ok acts) = (new ≡ old) × (acts ≡ [])
Nothing old new (Err e) = new ≡ old

-- an open server answers these acts, and is another one after them; it stays as it was where memory
-- is refused
abbrev pub Becomes : {E : Type 0} → ℕ → (ServerState → List Act) → (ServerState → ServerState) →
    List SeatView → List SeatView → Result (List Act) E → SeatView → Type 0
Becomes link does after old new (Ok acts) seat = (acts ≡ does seat.server)
    × (new ≡ put_at seat_link link (known (after seat.server) seat) old)
Becomes link does after old new (Err e) seat = new ≡ old

abbrev pub BecomesIf : {E : Type 0} → Bool → ℕ → (ServerState → List Act) →
    (ServerState → ServerState) → List SeatView → List SeatView → Result (List Act) E → SeatView →
    Type 0
BecomesIf true link does after old new result seat = Becomes link does after old new result seat
BecomesIf false link does after old new result seat = Nothing old new result

abbrev pub BecomesAt : {E : Type 0} → ℕ → (ServerState → List Act) → (ServerState → ServerState) →
    List SeatView → List SeatView → Result (List Act) E → Option SeatView → Type 0
BecomesAt link does after old new result None = Nothing old new result
BecomesAt link does after old new result (Some seat) =
    BecomesIf (is_open seat) link does after old new result seat

-- its link stands
abbrev pub Stood : {E : Type 0} → ℕ → List SeatView → List SeatView → Result (List Act) E →
    Option SeatView → Type 0
Stood link old new result seat = BecomesAt link (λ s. first_acts s) (λ s. after_connect s) old new
    result seat

-- it takes a message
abbrev pub Took : {E : Type 0} → ℕ → EntryGroups → Message → List SeatView → List SeatView →
    Result (List Act) E → Option SeatView → Type 0
Took link groups m old new result seat = BecomesAt link (λ s. acts_of_server groups s m)
    (λ s. after_server s m) old new result seat

-- an open server begins to leave for this cause, after so many others, whether memory is refused or
-- not
abbrev pub Loses : {E : Type 0} → ℕ → EntryGroups → Cause → ℕ → List SeatView → List SeatView →
    Result (List Act) E → SeatView → Type 0
Loses link groups cause rank old new (Ok acts) seat = (acts ≡ loss_acts groups seat.server)
    × (new ≡ put_at seat_link link (left_for cause rank (known (after_loss seat.server) seat)) old)
Loses link groups cause rank old new (Err e) seat =
    new ≡ put_at seat_link link (left_for cause rank seat) old

abbrev pub LosesIf : {E : Type 0} → Bool → ℕ → EntryGroups → Cause → ℕ → List SeatView →
    List SeatView → Result (List Act) E → SeatView → Type 0
LosesIf true link groups cause rank old new result seat =
    Loses link groups cause rank old new result seat
LosesIf false link groups cause rank old new result seat = Nothing old new result

abbrev pub Lost : {E : Type 0} → ℕ → EntryGroups → Cause → ℕ → List SeatView → List SeatView →
    Result (List Act) E → Option SeatView → Type 0
Lost link groups cause rank old new result None = Nothing old new result
Lost link groups cause rank old new result (Some seat) =
    LosesIf (is_open seat) link groups cause rank old new result seat
