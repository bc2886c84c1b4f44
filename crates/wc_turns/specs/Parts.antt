-- How the loop parts with clients, and what one call takes of a link.
use Rattle.std.specs.Prelude.{ℕ, ◌+◌, ◌≡◌, ◌≢◌, ◌<◌, ◌≤◌, ◌⊎◌, IsSome, Bool, true, false}
use Rattle.std.specs.Prelude.{if◌then◌else◌, List, map, All, Option, Some, None, Result, Ok, Err}
use Rattle.std.specs.Prelude.{IsTrue}
use Rattle.wc_text.specs.declared.names.LinkId.{LinkId}
use Rattle.wc_text.specs.declared.names.Cause.{Cause}
use Rattle.wc_outside.specs.Seen.{Seen}
use Rattle.wc_outside.specs.Keyed.{at_key}
use Rattle.wc_outside.specs.declared.happening.Failed.{Failed as Fault}
use Rattle.wc_core.specs.CoreView.{CoreView}
use Rattle.wc_board.specs.Connections.{connection_link, leaving_on}
use Rattle.wc_servers.specs.Seats.{AreApart, seat_link, leaving_on as server_leaving_on}
use Rattle.wc_core.specs.Served.{links_of, or_else, Distinct}
use Rattle.wc_turns.specs.declared.links.Closed.{Closed}
use Rattle.wc_turns.specs.declared.headless.Headless.{Headless}
use Rattle.wc_turns.specs.Contained.{KeepsLinks}
use Rattle.wc_turns.specs.Links.{link_number, frames_of, IsStanding}
use Rattle.wc_turns.specs.Parties.{has_party, closes_asked, party_count, IsCalm}
use Rattle.wc_turns.specs.Served.{closed_number}
use Rattle.wc_turns.specs.Sources.{NothingBecameReady, TakesNothing, bytes_taken, arrivals}
use Rattle.wc_turns.specs.Turns.{has_failed}

-- why a link is to be closed, if it is
abbrev pub leaving_of : ℕ → CoreView → Option Cause
leaving_of link core = or_else (server_leaving_on link core.servers.seats)
    (leaving_on link core.connections)

-- the failure of a link is no event that is run: `/quit` was run, or its client or server is leaving
abbrev pub FailureIgnored : ℕ → CoreView → Type 0
FailureIgnored link core = (core.quits ≡ true)
    ⊎ (Distinct (links_of core) → AreApart (map seat_link core.servers.seats) →
    IsSome (leaving_of link core))

-- a link has the same client or server, with what they have not sent yet, if it has any
pub record SameParty (link : ℕ) (x y : CoreView) : Type 0 where
  pub client : at_key connection_link link y.connections ≡ at_key connection_link link x.connections
  pub server : at_key seat_link link y.servers.seats ≡ at_key seat_link link x.servers.seats

-- bytes are sent on one link at most, and nothing is taken
pub record SendsOn (link : ℕ) (x y : Headless) (before after : Seen) : Type 0 where
  pub falls : NothingBecameReady before after
  pub nothing : TakesNothing before after
  pub quits : y.core.quits ≡ x.core.quits
  pub starved : y.core.starved ≡ x.core.starved
  pub used : y.used ≡ x.used
  -- the same links are there
  pub numbers : map link_number y.links.opened.items ≡ map link_number x.links.opened.items
  pub closed : y.links.closed.items ≡ x.links.closed.items
  pub links : map connection_link y.core.connections ≡ map connection_link x.core.connections
  pub servers : map seat_link y.core.servers.seats ≡ map seat_link x.core.servers.seats
  pub wanted : y.core.servers.wanted ≡ x.core.servers.wanted
  pub leaving : closes_asked y.core ≡ closes_asked x.core
  pub why : leaving_of link y.core ≡ leaving_of link x.core
  pub parties : (other : ℕ) → other ≢ link → SameParty other x.core y.core
  pub frames : (other : ℕ) → other ≢ link →
      frames_of (at_key link_number other y.links.opened.items)
      ≡ frames_of (at_key link_number other x.links.opened.items)
  pub blocked : (other : ℕ) → other ≢ link → after.blocked other ≡ before.blocked other
  pub stands : (other : ℕ) → IsStanding other x.links.opened.items →
      IsStanding other y.links.opened.items

-- no close is that of this link
abbrev pub SparesOthers : ℕ → List Closed → Type 0
SparesOthers link closed = All (λ (c : Closed). closed_number c ≢ link) closed

-- the link that was lost failed, if one was
abbrev pub HasFailed : Option LinkId → Seen → Type 0
HasFailed None seen = Unit {0}
HasFailed (Some link) seen = IsTrue seen.tells → has_failed link.0 seen.taken ≡ true

-- clients and servers that are leaving are parted with, and the others are left as they are
pub record ClosesLeaving (x y : Headless) (before after : Seen) : Type 0 where
  pub falls : NothingBecameReady before after
  pub nothing : TakesNothing before after
  pub quits : y.core.quits ≡ x.core.quits
  pub wanted : y.core.servers.wanted ≡ x.core.servers.wanted
  pub spared : (other : ℕ) → SparesOthers other (closes_asked x.core) →
      SparesOthers other (closes_asked y.core)
  pub parties : (other : ℕ) → SparesOthers other (closes_asked x.core) →
      SameParty other x.core y.core
  pub blocked : (other : ℕ) → SparesOthers other (closes_asked x.core) →
      after.blocked other ≡ before.blocked other
  pub contained : KeepsLinks x y
  -- who is at a link is forgotten, or stays as it is
  pub parted : (other : ℕ) → (has_party other y.core ≡ false)
      ⊎ ((leaving_of other y.core ≡ leaving_of other x.core)
      × (has_party other y.core ≡ has_party other x.core))
  pub fewer : party_count y.core ≤ party_count x.core
  pub lost : (other : ℕ) → has_party other x.core ≡ true → has_party other y.core ≡ false →
      party_count y.core < party_count x.core
  pub stands : (other : ℕ) → IsStanding other x.links.opened.items →
      IsStanding other y.links.opened.items

-- bytes are taken of one link at most, and no client comes
pub record ReadsOn (link : ℕ) (before after : Seen) : Type 0 where
  pub falls : NothingBecameReady before after
  pub others : IsTrue after.tells → (other : ℕ) → other ≢ link → bytes_taken other after.taken
      ≡ bytes_taken other before.taken
  pub clients : IsTrue after.tells → arrivals after.taken ≡ arrivals before.taken

-- so many bytes were taken of a link
abbrev pub ReadBytes : ℕ → ℕ → Seen → Seen → Type 0
ReadBytes link count before after = IsTrue after.tells → bytes_taken link after.taken
    ≡ bytes_taken link before.taken + count

-- whether a client came
abbrev pub came_of : Result Bool Fault → ℕ
came_of (Ok more) = if more then 1 else 0
came_of (Err fault) = 0

-- the connections that the core wants are asked for: no one else comes, and who is leaving goes on
-- so, unless it is gone
pub record AsksWanted (x y : Headless) (before after : Seen) : Type 0 where
  pub falls : NothingBecameReady before after
  pub nothing : TakesNothing before after
  pub quits : y.core.quits ≡ x.core.quits
  pub contained : KeepsLinks x y
  pub fewer : party_count y.core ≤ party_count x.core
  pub lost : (link : ℕ) → has_party link x.core ≡ true → has_party link y.core ≡ false →
      party_count y.core < party_count x.core
  pub gone : (link : ℕ) → has_party link x.core ≡ false → has_party link y.core ≡ false
  pub parted : (link : ℕ) → IsSome (leaving_of link x.core) → (has_party link y.core ≡ false)
      ⊎ IsSome (leaving_of link y.core)
  pub stands : (link : ℕ) → link ≤ x.used → IsStanding link x.links.opened.items →
      IsStanding link y.links.opened.items

-- what the core asks for after an event is done: the connections that it wants are asked for, and
-- who is leaving is parted with
pub record Settles (x y : Headless) (before after : Seen) : Type 0 where
  pub falls : NothingBecameReady before after
  pub nothing : TakesNothing before after
  pub quits : y.core.quits ≡ x.core.quits
  pub calm : IsCalm y.core
  pub contained : KeepsLinks x y
  -- no one else comes, and a link that was to be closed is closed
  pub fewer : party_count y.core ≤ party_count x.core
  pub lost : (link : ℕ) → has_party link x.core ≡ true → has_party link y.core ≡ false →
      party_count y.core < party_count x.core
  pub parted : (link : ℕ) → IsSome (leaving_of link x.core) → has_party link y.core ≡ false
  -- a link that stands goes on so
  pub stands : (link : ℕ) → link ≤ x.used → IsStanding link x.links.opened.items →
      IsStanding link y.links.opened.items
