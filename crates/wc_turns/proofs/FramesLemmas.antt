-- What the frames of a WebSocket link come to, message by message and read by read.
use Rattle.std.proofs.Common.{◌≡◌, ◌≢◌, ◌⊎◌, inl, inr, ℕ, ◌+◌, ◌-◌, ◌^◌, ◌<◌, Bool, true, false, eqb, min, List, [], ◌∷◌, ◌++◌, Option, Some, None, Err, IfSome, IsSome, refl, sym, ap, ◌∙◌, subst, append_assoc, arith}
use Rattle.std.proofs.lemmas.Bool.{false≢true}
use Rattle.std.proofs.lemmas.Bool.Decides.{nat_tests}
use Rattle.std.proofs.lemmas.List.{append-nil}
use Rattle.wc_text.specs.declared.names.Cause.{Cause}
use Rattle.wc_text.specs.declared.names.Cause.TheVariants.{Ended, Failed, LoginFailed, NoMemory, Surplus, Quit, Disconnected, NickTaken, BadSocket}
use Rattle.wc_outside.specs.Keyed.{at_key}
use Rattle.wc_board.specs.Connections.{connection_link, is_open_at, leaving_in, leaving_on}
use Rattle.wc_board.specs.Served.{StaysOrStarves}
use Rattle.wc_core.specs.Events.{Event, Ends, Breaks}
use Rattle.wc_core.specs.CoreView.{CoreView}
use Rattle.wc_core.specs.Step.{step, client_link, link_loss_step}
use Rattle.wc_core.specs.Served.{Does, plain_beside}
use Rattle.wc_core.proofs.ComeLemmas.{ServersKeep-trans}
use Rattle.wc_core.proofs.DidLemmas.{KeepsSaved-trans}
use Rattle.wc_ws.specs.declared.names.WsRefused.{WsRefused}
use Rattle.wc_ws.specs.declared.names.WsRefused.TheVariants as refused
use Rattle.wc_ws.specs.Link.{Link}
use Rattle.wc_framing.specs.Unframed.{Fed, Comes}
use Rattle.wc_turns.specs.declared.links.LinkState.{LinkState}
use Rattle.wc_turns.specs.declared.sockets.WsThen.{WsThen}
use Rattle.wc_turns.specs.declared.sockets.WsThen.TheVariants.{GoOn, Closed as ClosedFor}
use Rattle.wc_turns.specs.declared.tail.Tail.{Tail}
use Rattle.wc_turns.specs.Events.{read_events, end_events}
use Rattle.wc_turns.specs.Lines.{rest}
use Rattle.wc_turns.specs.Parties.{has_open}
use Rattle.wc_turns.specs.Served.{MayTake, IsOfLine, LeavesFor, LeavesAtLine, IsOfRead, LeavesForRead, LeavesAtRead}
use Rattle.wc_turns.specs.Sockets.{cause_of, IsSocketCause, end_for, IsSpared, ClosesSocket, IsSocketEnd, FedThen, then_of, ServesSocket, ServesPiece}
use Rattle.wc_turns.specs.Steps.{LosesLink}
use Rattle.wc_turns.specs.Tails.{IsTail}
use Rattle.wc_turns.specs.Turns.{EndsAs}
use Rattle.wc_turns.proofs.ContainedLemmas.{starved-counted}
use Rattle.wc_turns.proofs.LineLemmas.{rest-append, read_events-append}
use Rattle.wc_turns.proofs.LossLemmas.{MayRun-starved}
use Rattle.wc_turns.proofs.RunLemmas.{ReachesEvents-all, ReachesEvents-none, ReachesEvents-trans}
use Rattle.wc_turns.proofs.ServedLemmas.{MayRun-none, MayRun-one, MayRun-trans, LeavesAtLine-refl, LeavesAtLine-trans}
use Rattle.wc_turns.specs.Goes.{TakesEvent, LosesWhole}
use Rattle.wc_turns.proofs.GoesLemmas.{Goes-starved}

-- ---- who leaves at a read

-- for what a client can leave at a line, it can at a read
line-read : (socket : Bool) (link other : ℕ) (why : Cause) → IsOfLine link other why → IsOfRead socket link other why
line-read socket link other NoMemory h = tt
line-read socket link other LoginFailed h = h
line-read socket link other Quit h = h
line-read socket link other Ended h = absurd h
line-read socket link other BadSocket h = absurd h
line-read socket link other Failed h = absurd h
line-read socket link other Surplus h = absurd h
line-read socket link other Disconnected h = absurd h
line-read socket link other NickTaken h = absurd h

for-read : (socket : Bool) (link other : ℕ) (before now : Option Cause) → LeavesFor link other before now → LeavesForRead socket link other before now
for-read socket link other (Some why) now h = h
for-read socket link other None (Some why) h = line-read socket link other why h
for-read socket link other None None h = tt

pub LeavesAtRead-line : (socket : Bool) (link : ℕ) (a b : CoreView) → LeavesAtLine link a b → LeavesAtRead socket link a b
LeavesAtRead-line socket link a b h = record {
  rises = h.rises;
  links = h.links;
  leaving = λ distinct other. for-read socket link other (leaving_on other a.connections) (leaving_on other b.connections) (h.leaving distinct other);
  saves = h.saves;
  servers = h.servers;
}

read-then : (socket : Bool) (link other : ℕ) (a b c : Option Cause) → LeavesForRead socket link other a b → LeavesForRead socket link other b c → LeavesForRead socket link other a c
read-then socket link other (Some why) b c h g = subst (λ o. LeavesForRead socket link other o c) h g
read-then socket link other None None c h g = g
read-then socket link other None (Some why) c h g = rw g h

pub LeavesAtRead-trans : (socket : Bool) (link : ℕ) (a b c : CoreView) → LeavesAtRead socket link a b → LeavesAtRead socket link b c → LeavesAtRead socket link a c
LeavesAtRead-trans socket link a b c h g = record {
  rises = (let p = h.rises in let q = g.rises in omega arith);
  links = g.links ∙ h.links;
  leaving = λ distinct other. read-then socket link other (leaving_on other a.connections) (leaving_on other b.connections) (leaving_on other c.connections) (h.leaving distinct other) (g.leaving (rw h.links distinct) other);
  saves = KeepsSaved-trans a b c h.saves g.saves;
  servers = ServersKeep-trans a.servers b.servers c.servers h.servers g.servers;
}

-- a client that was leaving goes on so, and one that is not leaves for a cause of a read
lost-read : (socket : Bool) (link other : ℕ) (before now : Option Cause) → (IsSome before → now ≡ before) → (before ≡ None → (now ≡ None) ⊎ ((why : Cause) × ((now ≡ Some why) × IsOfRead socket link other why))) → LeavesForRead socket link other before now
lost-read socket link other (Some w) now kept fresh = kept refl
lost-read socket link other None now kept fresh = by (fresh refl)
  where
    by : (now ≡ None) ⊎ ((why : Cause) × ((now ≡ Some why) × IsOfRead socket link other why)) → LeavesForRead socket link other None now
    by (inl e) = rw e tt
    by (inr p) = rw p.1.0 p.1.1

-- for what a WebSocket is closed its client leaves at a read
pub own-read : (link : ℕ) (why : Cause) → IsSocketCause why → IsOfRead true link link why
own-read link Ended h = (refl, refl)
own-read link BadSocket h = (refl, refl)
own-read link NoMemory h = tt
own-read link Failed h = absurd h
own-read link LoginFailed h = absurd h
own-read link Surplus h = absurd h
own-read link Quit h = absurd h
own-read link Disconnected h = absurd h
own-read link NickTaken h = absurd h

-- the client of a link leaves as that is closed
pub LeavesAtRead-lost : (socket : Bool) (link : ℕ) (why : Cause) (a b : CoreView) → IsOfRead socket link link why → LosesLink link why a b → LeavesAtRead socket link a b
LeavesAtRead-lost socket link why a b is h = record {
  rises = h.keeps.rises;
  links = h.keeps.links;
  leaving = λ distinct other. lost-read socket link other (leaving_on other a.connections) (leaving_on other b.connections) (λ s. ap leaving_in (h.keeps.kept other s))
      (λ none. by other (eqb other link) refl (λ n. h.causes distinct other n) (λ e. h.leaves distinct e) none);
  saves = h.keeps.saves;
  servers = h.keeps.servers;
} where
  fresh : Option Cause → ℕ → Type 0
  fresh now other = (now ≡ None) ⊎ ((w : Cause) × ((now ≡ Some w) × IsOfRead socket link other w))

  own : (now : Option Cause) → (now ≡ None) ⊎ ((now ≡ Some why) ⊎ (now ≡ Some NoMemory)) → fresh now link
  own now (inl e) = inl e
  own now (inr (inl e)) = inr (why, (e, is))
  own now (inr (inr e)) = inr (NoMemory, (e, tt))

  others : (other : ℕ) (before now : Option Cause) → before ≡ None → StaysOrStarves before now → fresh now other
  others other before now none (inl e) = inl (e ∙ none)
  others other before now none (inr e) = inr (NoMemory, (e, tt))

  by : (other : ℕ) (t : Bool) → eqb other link ≡ t → (other ≢ link → StaysOrStarves (leaving_on other a.connections) (leaving_on other b.connections))
      → (leaving_on link a.connections ≡ None → (leaving_on link b.connections ≡ None) ⊎ ((leaving_on link b.connections ≡ Some why) ⊎ (leaving_on link b.connections ≡ Some NoMemory)))
      → leaving_on other a.connections ≡ None → fresh (leaving_on other b.connections) other
  by other true e apart here none =
      let same : link ≡ other = grind (arith, nat_tests) in
      subst (λ k. fresh (leaving_on k b.connections) k) same (own (leaving_on link b.connections) (here (ap (λ k. leaving_on k a.connections) same ∙ none)))
  by other false e apart here none = others other (leaving_on other a.connections) (leaving_on other b.connections) none (apart (λ q. grind (arith, nat_tests)))

-- it leaves, or is spared
pub LeavesAtRead-closed : (socket : Bool) (link : ℕ) (why : Cause) (a b : CoreView) → IsOfRead socket link link why → LosesLink link why a b ⊎ IsSpared link why a b → LeavesAtRead socket link a b
LeavesAtRead-closed socket link why a b is (inl loses) = LeavesAtRead-lost socket link why a b is loses
LeavesAtRead-closed socket link why a b is (inr spared) = subst (LeavesAtRead socket link a) (sym spared.same) (LeavesAtRead-line socket link a a (LeavesAtLine-refl link a))

-- ---- the core takes events, and then others

pub MayTake-none : (a : CoreView) (ran : ℕ) → MayTake a a ran ran []
MayTake-none a ran = record { events = []; reaches = ReachesEvents-none a.quits a.quits ran; takes = MayRun-none a }

pub MayTake-one : (a b : CoreView) (ran ran' : ℕ) (event : Event) → a.quits ≡ false → ran' ≡ min (ran + 1) (2 ^ 64 - 1) → Does a b (λ state. step state event) → TakesEvent event a b → MayTake a b ran ran' (event ∷ [])
MayTake-one a b ran ran' event going count does takes = record {
  events = event ∷ [];
  reaches = ReachesEvents-all a.quits b.quits ran ran' (event ∷ []) going (λ fits. omega arith);
  takes = MayRun-one a b event does takes;
}

pub MayTake-then : (a b c : CoreView) (r s t : ℕ) (all more : List Event) → a.quits ≡ false → b.quits ≡ false → MayTake a b r s all → MayTake b c s t more → MayTake a c r t (all ++ more)
MayTake-then a b c r s t all more first going h g = record {
  events = h.events ++ g.events;
  reaches = ReachesEvents-trans a.quits b.quits c.quits r s t all more h.events g.events (λ over. absurd (false≢true (sym first ∙ over))) (λ over. absurd (false≢true (sym going ∙ over))) h.reaches g.reaches;
  takes = MayRun-trans a b c h.events g.events going h.takes g.takes;
}

ended-memory : Ended ≡ NoMemory → ⊥
ended-memory q = cc

broken-memory : BadSocket ≡ NoMemory → ⊥
broken-memory q = cc

-- the event at which a WebSocket link is closed
pub MayTake-end : (why : Cause) (link : ℕ) (a b : CoreView) (ran ran' : ℕ) → IsSocketCause why → (why ≡ NoMemory → has_open link a ≡ true) → a.quits ≡ false → (why ≡ NoMemory → ran' ≡ ran) → (why ≢ NoMemory → ran' ≡ min (ran + 1) (2 ^ 64 - 1))
    → Does a b (λ state. link_loss_step state link why (at_key client_link link state.clients)) → (why ≡ NoMemory → a.starved < 2 ^ 64 - 1 → a.starved < b.starved) → LosesWhole link why a b → MayTake a b ran ran' (end_events link (end_for why))
MayTake-end Ended link a b ran ran' is there going none one does counted whole = MayTake-one a b ran ran' (Ends link) going (one ended-memory) does whole
MayTake-end BadSocket link a b ran ran' is there going none one does counted whole = MayTake-one a b ran ran' (Breaks link) going (one broken-memory) does whole
MayTake-end NoMemory link a b ran ran' is there going none one does counted whole =
    let keeps = (does (plain_beside a)).keeps in
    record {
      events = [];
      reaches = rw (none refl) (ReachesEvents-none a.quits b.quits ran);
      takes = MayRun-starved a b [] keeps (starved-counted a.starved a.starved b.starved (omega arith) keeps.rises (counted refl)) (Goes-starved link a b (record { there = there refl; loses = whole }));
    }
MayTake-end Failed link a b ran ran' is there going none one does counted whole = absurd is
MayTake-end LoginFailed link a b ran ran' is there going none one does counted whole = absurd is
MayTake-end Surplus link a b ran ran' is there going none one does counted whole = absurd is
MayTake-end Quit link a b ran ran' is there going none one does counted whole = absurd is
MayTake-end Disconnected link a b ran ran' is there going none one does counted whole = absurd is
MayTake-end NickTaken link a b ran ran' is there going none one does counted whole = absurd is

-- a link whose client is open has one that is not leaving
pub open-has : (link : ℕ) (core : CoreView) → is_open_at (at_key connection_link link core.connections) ≡ true → has_open link core ≡ true
open-has link core opened = rw opened refl

-- a client that is spared takes none
pub ClosesSocket-spared : (why : Cause) (state : LinkState) (core : CoreView) (ran : ℕ) → why ≡ NoMemory → is_open_at (at_key connection_link state.link.0 core.connections) ≡ false → ClosesSocket why state (record state { ended = true }) core core ran ran
ClosesSocket-spared why state core ran starves leaves = record {
  state = refl;
  takes = rw starves (MayTake-none core ran);
  loses = inr (record { starves = starves; leaves = leaves; same = refl });
  idle = λ none. none;
  wanted = refl;
}

-- its client is leaving then, or it has none
pub ClosesSocket-shut : (why : Cause) (old new : LinkState) (a b : CoreView) (ran ran' : ℕ) → ClosesSocket why old new a b ran ran' → is_open_at (at_key connection_link old.link.0 b.connections) ≡ false
ClosesSocket-shut why old new a b ran ran' s = by s.loses
  where
    by : LosesLink old.link.0 why a b ⊎ IsSpared old.link.0 why a b → is_open_at (at_key connection_link old.link.0 b.connections) ≡ false
    by (inl loses) = loses.gone
    by (inr spared) = ap (λ (c : CoreView). is_open_at (at_key connection_link old.link.0 c.connections)) spared.same ∙ spared.leaves

-- where no event was reached after it, none was before
pub idle-end : (why : Cause) (ran ran' : ℕ) → IsSocketCause why → (why ≡ NoMemory → ran' ≡ ran) → (why ≢ NoMemory → ran' ≡ min (ran + 1) (2 ^ 64 - 1)) → ran' ≡ 0 → ran ≡ 0
idle-end Ended ran ran' is none one z = let q = one ended-memory in absurd (omega arith)
idle-end BadSocket ran ran' is none one z = let q = one broken-memory in absurd (omega arith)
idle-end NoMemory ran ran' is none one z = sym (none refl) ∙ z
idle-end Failed ran ran' is none one z = absurd is
idle-end LoginFailed ran ran' is none one z = absurd is
idle-end Surplus ran ran' is none one z = absurd is
idle-end Quit ran ran' is none one z = absurd is
idle-end Disconnected ran ran' is none one z = absurd is
idle-end NickTaken ran ran' is none one z = absurd is

-- ---- message by message

-- a refusal is a cause for which a WebSocket is closed
pub cause-socket : (why : WsRefused) → IsSocketCause (cause_of why)
cause-socket (refused.HeadTooLong limit) = tt
cause-socket refused.BadHead = tt
cause-socket refused.BadFrame = tt
cause-socket refused.NoMemory = tt

-- what was refused ends as its bytes do
pub ends-refused : (why : WsRefused) (bytes read : List ℕ) (link : Link) → Comes bytes read (Err why) link → EndsAs (end_for (cause_of why)) bytes read
ends-refused (refused.HeadTooLong limit) bytes read link h = h
ends-refused refused.BadHead bytes read link h = h
ends-refused refused.BadFrame bytes read link h = h
ends-refused refused.NoMemory bytes read link h = tt

-- nothing was served, or nothing is left to be
pub ServesSocket-none : (link : ℕ) (then : Option WsThen) (old new : Link) (core : CoreView) (tail : Tail) (ran : ℕ) → core.quits ≡ false → ((bytes read : List ℕ) → Fed bytes read old → FedThen then false bytes read new) → IfSome then IsSocketEnd → ServesSocket link then old new core core tail tail ran ran
ServesSocket-none link then old new core tail ran going fed ends = record {
  text = [];
  fed = λ bytes read f. rw (going, append-nil read) (fed bytes read f);
  tails = λ on line h. h;
  takes = λ line h. MayTake-none core ran;
  causes = LeavesAtLine-refl link core;
  idle = λ none. (none, refl);
  goes = λ e. going;
  quits = λ over. absurd (false≢true (sym going ∙ over));
  ends = ends;
}

then-fed : (quits : Bool) (bytes text : List ℕ) (link : Link) → Fed bytes text link → FedThen (then_of quits) quits bytes text link
then-fed true bytes text link h = tt
then-fed false bytes text link h = h

then-none : (quits : Bool) → then_of quits ≡ None → quits ≡ false
then-none true e = absurd (let q : Some GoOn ≡ None = e in cc)
then-none false e = refl

then-ends : (quits : Bool) → IfSome (then_of quits) IsSocketEnd
then-ends true = tt
then-ends false = tt

-- the lines of one message were served
pub ServesSocket-text : (link : ℕ) (then : Option WsThen) (old new : Link) (a b : CoreView) (t u : Tail) (ran ran' : ℕ) (text : List ℕ) → then ≡ then_of b.quits → ((bytes read : List ℕ) → Fed bytes read old → Fed bytes (read ++ text) new)
    → (b.quits ≡ false → (line : List ℕ) → IsTail line t → IsTail (rest line text) u) → ((line : List ℕ) → IsTail line t → MayTake a b ran ran' (read_events link line text)) → LeavesAtLine link a b → (ran' ≡ 0 → (ran ≡ 0) × (b ≡ a)) → ServesSocket link then old new a b t u ran ran'
ServesSocket-text link then old new a b t u ran ran' text is fed tails takes causes idle = record {
  text = text;
  fed = λ bytes read f. subst (λ o. FedThen o b.quits bytes (read ++ text) new) (sym is) (then-fed b.quits bytes (read ++ text) new (fed bytes read f));
  tails = tails;
  takes = takes;
  causes = causes;
  idle = idle;
  goes = λ e. then-none b.quits (sym is ∙ e);
  quits = λ over. is ∙ ap then_of over;
  ends = subst (λ o. IfSome o IsSocketEnd) (sym is) (then-ends b.quits);
}

-- messages were served, and then others
pub ServesSocket-then : (link : ℕ) (then : Option WsThen) (o m n : Link) (a b c : CoreView) (t u v : Tail) (r s q : ℕ) → a.quits ≡ false → ServesSocket link None o m a b t u r s → ServesSocket link then m n b c u v s q → ServesSocket link then o n a c t v r q
ServesSocket-then link then o m n a b c t u v r s q going h g = record {
  text = h.text ++ g.text;
  fed = λ bytes read f. subst (λ text. FedThen then c.quits bytes text n) (append_assoc read h.text g.text) (g.fed bytes (read ++ h.text) (h.fed bytes read f));
  tails = λ on line i. rw (rest-append line h.text g.text) (g.tails on (rest line h.text) (h.tails (h.goes refl) line i));
  takes = λ line i. rw (read_events-append link line h.text g.text)
      (MayTake-then a b c r s q (read_events link line h.text) (read_events link (rest line h.text) g.text) going (h.goes refl) (h.takes line i) (g.takes (rest line h.text) (h.tails (h.goes refl) line i)));
  causes = LeavesAtLine-trans link a b c h.causes g.causes;
  idle = λ none. (let later = g.idle none in let first = h.idle later.0 in (first.0, later.1 ∙ first.1));
  goes = g.goes;
  quits = g.quits;
  ends = g.ends;
}

-- a piece was fed, and its messages were served
pub ServesPiece-fed : (link : ℕ) (piece : List ℕ) (then : WsThen) (old mid new : Link) (a b : CoreView) (t u : Tail) (ran ran' : ℕ) → ((bytes read : List ℕ) → Fed bytes read old → Fed (bytes ++ piece) read mid) → ServesSocket link (Some then) mid new a b t u ran ran' → ServesPiece link piece then old new a b t u ran ran'
ServesPiece-fed link piece then old mid new a b t u ran ran' feeds s = record { mid = mid; serves = s; fed = λ bytes read f. s.fed (bytes ++ piece) read (feeds bytes read f) }

-- there was no memory for it
pub ServesPiece-starved : (link : ℕ) (piece : List ℕ) (old new : Link) (core : CoreView) (tail : Tail) (ran : ℕ) → core.quits ≡ false → ServesPiece link piece (ClosedFor NoMemory) old new core core tail tail ran ran
ServesPiece-starved link piece old new core tail ran going = record {
  mid = new;
  serves = ServesSocket-none link (Some (ClosedFor NoMemory)) new new core tail ran going (λ bytes read f. tt) tt;
  fed = λ bytes read f. tt;
}
