-- What is to go out for servers, and how what is kept of them follows it.
use Rattle.std.specs.Prelude.{◌≡◌, ℕ, ◌≤◌, List, [], ◌∷◌, ◌++◌, is_some, IsSome}
use Rattle.std.specs.Prelude.{Option, Some, None, if◌then◌else◌, ◌==◌}
use Rattle.wc_text.specs.declared.names.Address.{Address}
use Rattle.wc_text.specs.declared.names.Cause.{Cause}
use Rattle.wc_outside.specs.Keyed.{at_key}
use Rattle.wc_irc.specs.CloseActs.{quit_line}
use Rattle.wc_irc.specs.declared.act.Act.{Act}
use Rattle.wc_irc.specs.declared.act.Act.TheVariants as act
use Rattle.wc_servers.specs.declared.wanted.Wanted.{Wanted}
use Rattle.wc_servers.specs.Seats.{ServersView, ServerSeat, seat_link, unsent_on, leaving_on, ended}

pub data Out : Type 0 where
  -- bytes for the server of a link
  SendsLine : ℕ → List ℕ → Out
  -- a connection, whose link has this number, and its server's name
  Connects : ℕ → Address → List ℕ → Out
  -- the link of a server is to be closed
  Parts : ℕ → Cause → Out

-- ---- what they do to a link

abbrev pub lines_by : ℕ → Out → List ℕ
lines_by link (SendsLine to bytes) = if to == link then bytes else []
lines_by link (Connects number address server) = []
lines_by link (Parts number cause) = []

-- the bytes for the server of a link
abbrev pub lines_to : ℕ → List Out → List ℕ
lines_to link [] = []
lines_to link (out ∷ outs) = lines_by link out ++ lines_to link outs

abbrev pub or_else : Option Cause → Option Cause → Option Cause
or_else None other = other
or_else (Some cause) other = Some cause

abbrev pub part_by : ℕ → Out → Option Cause
part_by link (SendsLine to bytes) = None
part_by link (Connects number address server) = None
part_by link (Parts number cause) = if number == link then Some cause else None

-- why the link of a server is first to be closed, if it is
abbrev pub part_of : ℕ → List Out → Option Cause
part_of link [] = None
part_of link (out ∷ outs) = or_else (part_by link out) (part_of link outs)

abbrev pub wanted_by : Out → List Wanted
wanted_by (SendsLine to bytes) = []
wanted_by (Connects number address server) = record {
  link = record { 0 = number };
  address = address;
  server = server;
} ∷ []
wanted_by (Parts number cause) = []

-- the connections that are to be asked for
abbrev pub wanted_in : List Out → List Wanted
wanted_in [] = []
wanted_in (out ∷ outs) = wanted_by out ++ wanted_in outs

-- ---- what is said before the run ends

-- the line at the front of acts
abbrev pub first_line : ℕ → List Act → List Out
first_line link [] = []
first_line link (act.Send line ∷ acts) = SendsLine link (ended line) ∷ []
first_line link (_ ∷ acts) = []

abbrev pub quit_outs : ServerSeat → List Out
quit_outs seat = first_line seat.link (quit_line seat.server)

-- ---- what is kept of servers

-- bytes are put after the unsent ones of their links, servers that are to part are leaving, and
-- connections are to be asked for after those before
pub record ServersFollow (old new : ServersView) (outs : List Out) : Type 0 where
  pub lines : (link : ℕ) → unsent_on link new.seats ≡ unsent_on link old.seats ++ lines_to link outs
  pub leaving : (link : ℕ) → leaving_on link new.seats
      ≡ or_else (leaving_on link old.seats) (part_of link outs)
  pub wanted : new.wanted ≡ old.wanted ++ wanted_in outs

-- what holds also where memory was refused: no server goes, one that is leaving stays as it is, and
-- who comes has a number that was not used
pub record ServersKeep (old new : ServersView) : Type 0 where
  pub rises : old.used ≤ new.used
  pub links : (link : ℕ) → link ≤ old.used → is_some (at_key seat_link link new.seats)
      ≡ is_some (at_key seat_link link old.seats)
  pub kept : (link : ℕ) → IsSome (leaving_on link old.seats) → at_key seat_link link new.seats
      ≡ at_key seat_link link old.seats
  pub more : List Wanted
  pub wanted : new.wanted ≡ old.wanted ++ more
