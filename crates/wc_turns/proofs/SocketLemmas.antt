-- What is put into frames and what is sent on a WebSocket link, by the exits of the calls.
use Rattle.std.proofs.Common.{◌≡◌, ℕ, true, false, ◌+◌, ◌≤◌, length, List, drop, Bor, is_some, Option, Some, None, refl, sym, ap, ◌∙◌, subst, get_or, set}
use Rattle.std.proofs.lemmas.Bool.{false≢true}
use Rattle.std.proofs.Math.Bridge.{le_prop}
use Rattle.std.proofs.Math.Nat.{ℕ_set}
use Rattle.std.proofs.lemmas.List.{set-get_or}
use Rattle.std.specs.Global.{Vec}
use Rattle.std.specs.Option.{option_copied}
use Rattle.std.specs.Prelude.{slice_index_or, vec_len, vec_capacity}
use Rattle.std.specs.Vec.{with_item}
use Rattle.wc_text.specs.declared.names.Cause.TheVariants.{NoMemory, BadSocket}
use Rattle.wc_text.specs.declared.names.LinkId.{LinkId}
use Rattle.wc_outside.specs.Keyed.{at_key, put_at, IsKeyPlace}
use Rattle.wc_board.specs.Connections.{connection_link}
use Rattle.wc_core.specs.LinksSeen.{bytes_or, unsent_in_core, gone_in}
use Rattle.wc_ws.specs.declared.names.PutRefused.{PutRefused}
use Rattle.wc_ws.specs.declared.names.PutRefused.TheVariants as refused
use Rattle.wc_ws.specs.Link.{Link}
use Rattle.wc_framing.specs.declared.framing.Framing.{Framing}
use Rattle.wc_framing.specs.declared.framing.Framing.TheVariants as framing
use Rattle.wc_framing.specs.declared.messages.Framed.{Framed}
use Rattle.wc_framing.specs.Framing.{is_socket}
use Rattle.wc_framing.specs.Messages.{Frames}
use Rattle.wc_turns.specs.declared.headless.Headless.{Headless}
use Rattle.wc_turns.specs.declared.links.LinkState.{LinkState}
use Rattle.wc_turns.specs.declared.links.Links.{Links}
use Rattle.wc_turns.specs.Contained.{HasStarved}
use Rattle.wc_turns.specs.Framed.{frames_in, gone_in as frames_gone}
use Rattle.wc_turns.specs.Heard.{NotPut}
use Rattle.wc_turns.specs.Links.{link_number, changed_at, frames_of, gone_frames, is_socket_at}
use Rattle.wc_turns.specs.Sockets.{PutsNone, PutsUnsent, PutsBy, PutsAt, PutsMessages, starves, breaks, PutsOrLoses, sent_core, SendsFirst}
use Rattle.wc_turns.specs.Steps.{LosesLink}
use Rattle.wc_turns.specs.Turns.{TakesHappening}
use Rattle.wc_turns.proofs.KeyedLemmas.{at_key-key, at_key-put_same, put_at-same}

-- a framing that is no WebSocket
pub plain-not : (f : Framing) → ((x : Link) → f ≡ framing.Socket x → ⊥) → is_socket f ≡ false
plain-not framing.Undecided other = refl
plain-not framing.Plain other = refl
plain-not (framing.Socket link) other = absurd (other link refl)

-- ---- links of which one was borrowed and did not change

vec-same : {X : Type 0} (v : Vec X) (items : List X) → v.items ≡ items → (ok : v.len ≡ length items) → record v { items = items; ok = (ok, v.ok.1) } ≡ v
vec-same v items e ok = subst (λ is. (k : v.len ≡ length is) → record v { items = is; ok = (k, v.ok.1) } ≡ v) e (λ k. ap (λ (q : v.len ≡ length v.items). record v { ok = (q, v.ok.1) }) (ℕ_set _ _ k v.ok.0)) ok

item-same : {X : Type 0} (v : Vec X) (i : ℕ) (w : X) → w ≡ slice_index_or v.items i w → with_item v i w ≡ v
item-same v i w e = vec-same v _ (sym (ap (λ d. set v.items i d) e ∙ set-get_or v.items i w)) _

links-same : (links : Links) (opened : Vec LinkState) (room : vec_len opened + vec_len links.closed ≤ vec_capacity links.closed) → opened ≡ links.opened → record { opened = opened; closed = links.closed; room = room } ≡ links
links-same links opened room e = subst (λ (o : Vec LinkState). (r : vec_len o + vec_len links.closed ≤ vec_capacity links.closed) → record { opened = o; closed = links.closed; room = r } ≡ links) (sym e)
    (λ r. ap (λ (q : vec_len links.opened + vec_len links.closed ≤ vec_capacity links.closed). record links { room = q }) (le_prop r links.room)) room

same-links : (x : Headless) (place : ℕ) (state : LinkState) (room : vec_len (with_item x.links.opened place state) + vec_len x.links.closed ≤ vec_capacity x.links.closed) → state ≡ slice_index_or x.links.opened.items place state
    → record x { links = record { opened = with_item x.links.opened place state; closed = x.links.closed; room = room } } ≡ x
same-links x place state room at = ap (λ l. record x { links = l }) (links-same x.links _ room (item-same x.links.opened place state at))

-- ---- messages that are put

-- nothing is put where there is no such link
pub Puts-missing : (link : ℕ) (x : Headless) → at_key link_number link x.links.opened.items ≡ None → PutsMessages link x x None
Puts-missing link x e = rw e (refl, refl)

-- nor where it is no WebSocket
pub Puts-plain : (link : ℕ) (x : Headless) (state : LinkState) → at_key link_number link x.links.opened.items ≡ Some state → is_socket state.framing ≡ false → PutsMessages link x x None
Puts-plain link x state found plain = rw found (by state.framing plain)
  where
    by : (f : Framing) → is_socket f ≡ false → PutsBy link state f x x None
    by framing.Undecided e = (refl, refl)
    by framing.Plain e = (refl, refl)
    by (framing.Socket socket) e = absurd (false≢true (sym e))

-- nor where nobody is at it
pub Puts-unowed : (link : ℕ) (x : Headless) (state : LinkState) (socket : Link) → at_key link_number link x.links.opened.items ≡ Some state → state.framing ≡ framing.Socket socket → unsent_in_core link x.core ≡ None → PutsMessages link x x None
Puts-unowed link x state socket found is none = rw found (subst (λ f. PutsBy link state f x x None) (sym is) (subst (λ o. PutsUnsent link state socket o x x None) (sym none) (refl, refl)))

-- the same of a link at a place
pub Puts-plain-at : (link : ℕ) (x : Headless) (place : ℕ) (state : LinkState) (room : vec_len (with_item x.links.opened place state) + vec_len x.links.closed ≤ vec_capacity x.links.closed) → IsKeyPlace link_number link x.links.opened.items place
    → state ≡ slice_index_or x.links.opened.items place state → ((s : Link) → state.framing ≡ framing.Socket s → ⊥)
    → PutsMessages link x (record x { links = record { opened = with_item x.links.opened place state; closed = x.links.closed; room = room } }) None
Puts-plain-at link x place state room p at other =
    subst (λ y. PutsMessages link x y None) (sym (same-links x place state room at)) (Puts-plain link x state (p.found state ∙ ap Some (sym at)) (plain-not state.framing other))

pub Puts-unowed-at : (link : ℕ) (x : Headless) (place : ℕ) (state : LinkState) (socket : Link) (why : Option PutRefused) (room : vec_len (with_item x.links.opened place (record state { framing = framing.Socket socket })) + vec_len x.links.closed ≤ vec_capacity x.links.closed) → why ≡ None
    → IsKeyPlace link_number link x.links.opened.items place → state ≡ slice_index_or x.links.opened.items place state → state.framing ≡ framing.Socket socket → None ≡ unsent_in_core link x.core
    → PutsMessages link x (record x { links = record { opened = with_item x.links.opened place (record state { framing = framing.Socket socket }); closed = x.links.closed; room = room } }) why
Puts-unowed-at link x place state socket why room nothing p at is none =
    let same : record state { framing = framing.Socket socket } ≡ state = ap (λ f. record state { framing = f }) (sym is) in
    let links = ap (λ l. record x { links = l }) (links-same x.links _ room (ap (λ s. with_item x.links.opened place s) same ∙ item-same x.links.opened place state at)) in
    subst (λ y. PutsMessages link x y why) (sym links) (subst (λ w. PutsMessages link x x w) (sym nothing) (Puts-unowed link x state socket (p.found state ∙ ap Some (sym at)) is (sym none)))

pub Puts-framed : (link : ℕ) (x y : Headless) (state : LinkState) (socket socket' : Link) (unsent : List ℕ) (framed : Framed) → at_key link_number link x.links.opened.items ≡ Some state → state.framing ≡ framing.Socket socket → unsent_in_core link x.core ≡ Some unsent → Frames unsent socket framed socket'
    → y ≡ record x { core = y.core; links = y.links } → y.links.closed ≡ x.links.closed → y.links.opened.items ≡ put_at link_number link (record state { framing = framing.Socket socket' }) x.links.opened.items → y.core ≡ gone_in link framed.count x.core (at_key connection_link link x.core.connections) → PutsMessages link x y framed.refused
Puts-framed link x y state socket socket' unsent framed found is owed frames rest closed opened core =
    rw found (subst (λ f. PutsBy link state f x y framed.refused) (sym is) (subst (λ o. PutsUnsent link state socket o x y framed.refused) (sym owed)
    (record { framed = framed; socket' = socket'; frames = frames; refused = refl; rest = rest; closed = closed; opened = opened; core = core })))

-- where a message was refused, the link is a WebSocket
pub refused-socket : (link : ℕ) (x mid : Headless) (why : PutRefused) → PutsMessages link x mid (Some why) → is_socket_at (at_key link_number link mid.links.opened.items) ≡ true
refused-socket link x mid why p = by (at_key link_number link x.links.opened.items) refl p
  where
    none : PutsNone x mid (Some why) → is_socket_at (at_key link_number link mid.links.opened.items) ≡ true
    none h = absurd (let q : Some why ≡ None = h.1 in cc)

    unsent-by : (state : LinkState) (socket : Link) (o : Option (List ℕ)) → at_key link_number link x.links.opened.items ≡ Some state → PutsUnsent link state socket o x mid (Some why) → is_socket_at (at_key link_number link mid.links.opened.items) ≡ true
    unsent-by state socket None found h = none h
    unsent-by state socket (Some unsent) found h =
        ap (λ ss. is_socket_at (at_key link_number link ss)) h.opened
        ∙ ap is_socket_at (at_key-put_same link_number link state (record state { framing = framing.Socket h.socket' }) x.links.opened.items (at_key-key link_number link x.links.opened.items state found) found)

    framing-by : (state : LinkState) (f : Framing) → at_key link_number link x.links.opened.items ≡ Some state → PutsBy link state f x mid (Some why) → is_socket_at (at_key link_number link mid.links.opened.items) ≡ true
    framing-by state framing.Undecided found h = none h
    framing-by state framing.Plain found h = none h
    framing-by state (framing.Socket socket) found h = unsent-by state socket (unsent_in_core link x.core) found h

    by : (o : Option LinkState) → at_key link_number link x.links.opened.items ≡ o → PutsAt link o x mid (Some why) → is_socket_at (at_key link_number link mid.links.opened.items) ≡ true
    by None e h = none h
    by (Some state) e h = framing-by state state.framing e h

-- a message is refused: there was no memory for it, or the link takes none
pub Loses-starved : (link : ℕ) (x mid y : Headless) → PutsMessages link x mid (Some refused.NoMemory) → y ≡ record mid { core = y.core } → LosesLink link NoMemory mid.core y.core → HasStarved mid.core.starved y.core.starved → PutsOrLoses false link x y
Loses-starved link x mid y puts same loses starved = (mid, (Some refused.NoMemory, (puts, starves refl same loses starved)))

pub Loses-broken : (link : LinkId) (x mid y : Headless) → PutsMessages link.0 x mid (Some refused.NotTaken) → (is_socket_at (at_key link_number link.0 mid.links.opened.items) ≡ true → TakesHappening mid y (NotPut link)) → LosesLink link.0 BadSocket mid.core y.core → PutsOrLoses false link.0 x y
Loses-broken link x mid y puts takes loses = (mid, (Some refused.NotTaken, (puts, breaks refl (takes (refused-socket link.0 x mid refused.NotTaken puts)) loses)))

-- ---- what is sent

pub copied-none : (o : Option (Bor (List ℕ))) → is_some o ≡ false → option_copied o ≡ None
copied-none None e = refl
copied-none (Some b) e = absurd (false≢true (sym e))

pub sends_frames : (o u : Option (List ℕ)) (frames : List ℕ) → Some frames ≡ o → Some frames ≡ bytes_or o u
sends_frames o u frames e = rw (sym e) refl

pub sends_unsent : (o u v : Option (List ℕ)) → None ≡ o → v ≡ u → v ≡ bytes_or o u
sends_unsent o u v e f = rw (sym e) f

-- the frames of a link of which there are none are not changed
pub changed-plain : (link count : ℕ) (states : List LinkState) → frames_of (at_key link_number link states) ≡ None → changed_at link (gone_frames count) states (at_key link_number link states) ≡ states
changed-plain link count states none = by (at_key link_number link states) refl none
  where
    plain : (f : Framing) → frames_in f ≡ None → frames_gone count f ≡ f
    plain framing.Undecided e = refl
    plain framing.Plain e = refl
    plain (framing.Socket socket) e = absurd (let q : Some socket.output ≡ None = e in cc)

    by : (o : Option LinkState) → at_key link_number link states ≡ o → frames_of o ≡ None → changed_at link (gone_frames count) states o ≡ states
    by None found e = refl
    by (Some state) found e = ap (λ f. put_at link_number link (record state { framing = f }) states) (plain state.framing e) ∙ put_at-same link_number link states state found

-- those of the link at a place are
pub changed-socket : (link count place : ℕ) (states : List LinkState) (state : LinkState) (socket : Link) → IsKeyPlace link_number link states place → state ≡ get_or states place state → state.framing ≡ framing.Socket socket
    → set states place (record state { framing = framing.Socket (record socket { output = drop count socket.output }) }) ≡ changed_at link (gone_frames count) states (at_key link_number link states)
changed-socket link count place states state socket p at is =
    let found : at_key link_number link states ≡ Some state = p.found state ∙ ap Some (sym at) in
    p.put _ ∙ ap (λ f. put_at link_number link (record state { framing = frames_gone count f }) states) (sym is) ∙ sym (ap (changed_at link (gone_frames count) states) found)

-- the frames of a WebSocket are sent
pub Sends-frames : (link count : ℕ) (x y : Headless) (frames : List ℕ) → frames_of (at_key link_number link x.links.opened.items) ≡ Some frames → y ≡ record x { core = y.core; links = y.links } → y.links.closed ≡ x.links.closed
    → y.links.opened.items ≡ changed_at link (gone_frames count) x.links.opened.items (at_key link_number link x.links.opened.items) → y.core ≡ x.core → SendsFirst link count x y
Sends-frames link count x y frames some rest closed opened core = record { rest = rest; closed = closed; opened = opened; core = core ∙ sym (ap (λ o. sent_core o link count x.core) some) }

-- or what is owed to who is at the link
pub Sends-owed : (link count : ℕ) (x y : Headless) → frames_of (at_key link_number link x.links.opened.items) ≡ None → y ≡ record x { core = y.core; links = y.links } → y.links ≡ x.links
    → y.core ≡ gone_in link count x.core (at_key connection_link link x.core.connections) → SendsFirst link count x y
Sends-owed link count x y none rest links core = record {
  rest = rest;
  closed = ap (λ l. l.closed) links;
  opened = ap (λ l. l.opened.items) links ∙ sym (changed-plain link count x.links.opened.items none);
  core = core ∙ sym (ap (λ o. sent_core o link count x.core) none);
}
