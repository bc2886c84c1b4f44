-- The links that are open, and the connections that are to be.
use Rattle.std.specs.Prelude.{ℕ, Bool, true, false, List, [], ◌∷◌, ◌++◌, Option, Some, None}
use Rattle.std.specs.Prelude.{◌≡◌, ◌≤◌, ◌⊎◌, is_some, not}
use Rattle.wc_outside.specs.Keyed.{at_key, put_at}
use Rattle.wc_framing.specs.declared.framing.Framing.{Framing}
use Rattle.wc_framing.specs.Framing.{is_socket, silent}
use Rattle.wc_turns.specs.Framed.{first_framing, frames_in, gone_in}
use Rattle.wc_turns.specs.declared.links.Closed.{Closed}
use Rattle.wc_text.specs.declared.names.LinkId.{LinkId}
use Rattle.wc_turns.specs.declared.links.LinkState.{LinkState}

abbrev pub link_number : LinkState → ℕ
link_number state = state.link.0

-- whether a link is kept as one that was reported ready and is not drained
abbrev pub is_undrained : Option LinkState → Bool
is_undrained (Some state) = state.undrained
is_undrained None = false

-- the links that were closed, with one more where it was there
abbrev pub with_closed : Option LinkState → List Closed → Closed → List Closed
with_closed (Some state) closed one = closed ++ one ∷ []
with_closed None closed one = closed

-- whether a link is kept as one whose last write found no room
abbrev pub is_blocked : Option LinkState → Bool
is_blocked (Some state) = state.blocked
is_blocked None = false

-- the frames of a WebSocket that are still to be sent on a link
abbrev pub frames_of : Option LinkState → Option (List ℕ)
frames_of (Some state) = frames_in state.framing
frames_of None = None

-- whether a link is a WebSocket
abbrev pub is_socket_at : Option LinkState → Bool
is_socket_at (Some state) = is_socket state.framing
is_socket_at None = false

-- whether a link is kept as a connection that does not stand yet
abbrev pub is_connecting : Option LinkState → Bool
is_connecting (Some state) = state.connecting
is_connecting None = false

-- whether a link is kept that the sockets have too: one whose connection was refused they do not have
abbrev pub is_there : Option LinkState → Bool
is_there (Some state) = not state.refused
is_there None = false

-- whether a link is kept of which nothing more is read, since it is to be closed as a WebSocket
abbrev pub is_ended : Option LinkState → Bool
is_ended (Some state) = state.ended
is_ended None = false

-- to whom a link leads: the name of a server, or none for a client; whether it is a connection that
-- does not stand yet; whether that was refused as it was asked for; and how its bytes are framed, but
-- for what is to be sent; and whether it is to be closed as a WebSocket
pub record Kind : Type 0 where
  pub server : Option (List ℕ)
  pub connecting : Bool
  pub refused : Bool
  pub framing : Framing
  pub ended : Bool

abbrev pub kind_of : Option LinkState → Option Kind
kind_of (Some state) = Some (record {
  server = state.server;
  connecting = state.connecting;
  refused = state.refused;
  framing = silent state.framing;
  ended = state.ended;
})
kind_of None = None

-- the number of a link is used, and it has no record
abbrev pub IsUnkept : List LinkState → ℕ → ℕ → Type 0
IsUnkept states used link = (link ≤ used) × (at_key link_number link states ≡ None)

-- these links are all of those, in order, but for some of which this is so
abbrev pub AreAllBut : (ℕ → Type 0) → List LinkId → List LinkId → Type 0
AreAllBut P [] [] = Unit {0}
AreAllBut P (link ∷ links) [] = ⊥
AreAllBut P [] (one ∷ all) = P one.0 × AreAllBut P [] all
AreAllBut P (link ∷ links) (one ∷ all) = ((link ≡ one) × AreAllBut P links all)
    ⊎ (P one.0 × AreAllBut P (link ∷ links) all)

-- a link is kept as a connection that does not stand yet
abbrev pub IsConnecting : ℕ → List LinkState → Type 0
IsConnecting link states = is_connecting (at_key link_number link states) ≡ true

-- a link is not kept as a connection that does not stand yet
abbrev pub IsStanding : ℕ → List LinkState → Type 0
IsStanding link states = is_connecting (at_key link_number link states) ≡ false

-- the links after one of them changed so, where it is there
abbrev pub changed_at : ℕ → (LinkState → LinkState) → List LinkState → Option LinkState →
    List LinkState
changed_at link change states (Some state) = put_at link_number link (change state) states
changed_at link change states None = states

-- a link that a wait reported
abbrev pub reported_state : LinkState → LinkState
reported_state state = record state { undrained = true; blocked = false }

-- a link that is drained
abbrev pub drained_state : LinkState → LinkState
drained_state state = record state { undrained = false }

-- a link after a write that found no room, or some
abbrev pub written_link : Bool → LinkState → LinkState
written_link blocked state = record state { blocked = blocked }

-- a link after the first bytes of its frames are sent
abbrev pub gone_frames : ℕ → LinkState → LinkState
gone_frames count state = record state { framing = gone_in count state.framing }

-- a connection that stands
abbrev pub standing_state : LinkState → LinkState
standing_state state = record state { connecting = false }

-- a link that came: that of a client, or the connection to a server of this name, which does not
-- stand yet, or was refused as it was asked for
abbrev pub new_state : LinkId → Option (List ℕ) → Bool → LinkState
new_state link server refused = record {
  link = link;
  server = server;
  connecting = is_some server;
  refused = refused;
  tail = record { line = []; over = false };
  framing = first_framing (is_some server);
  ended = false;
  undrained = false;
  blocked = false;
}
