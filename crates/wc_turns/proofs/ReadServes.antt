-- What a read of a link comes to, plain or a WebSocket.
use Rattle.std.proofs.Common.{◌≡◌, ℕ, zero, suc, ◌≤◌, Bool, true, false, eqb, ◌&&◌, List, [], ◌∷◌, ◌++◌, length, Option, Some, None, is_none, inl, inr, refl, sym, ap, ◌∙◌, subst, arith}
use Rattle.std.proofs.lemmas.Bool.{false≢true}
use Rattle.std.proofs.lemmas.Bool.Decides.{nat_tests}
use Rattle.std.proofs.lemmas.List.{append-nil}
use Rattle.wc_text.specs.declared.names.Cause.{Cause}
use Rattle.wc_text.specs.declared.names.Cause.TheVariants.{NoMemory}
use Rattle.wc_text.specs.declared.names.LinkId.{LinkId}
use Rattle.wc_outside.specs.Keyed.{at_key}
use Rattle.wc_board.specs.Connections.{connection_link, is_open_at}
use Rattle.wc_core.specs.CoreView.{CoreView}
use Rattle.wc_ws.specs.Link.{Link}
use Rattle.wc_framing.specs.declared.framing.Framing.{Framing}
use Rattle.wc_framing.specs.declared.framing.Framing.TheVariants as framing
use Rattle.wc_framing.specs.declared.framing.Belongs.TheVariants.{Text, Opened, Frames}
use Rattle.wc_framing.specs.Framing.{is_socket, FramedAs, FedAs, Opens, StaysPlain}
use Rattle.wc_framing.specs.Opening.{mark, is_front, begins, may_open}
use Rattle.wc_framing.specs.Unframed.{Fed}
use Rattle.wc_framing.proofs.OpeningLemmas.{and-left, and-right, begins-more, plain-more, undecided-no}
use Rattle.wc_turns.specs.declared.links.LinkState.{LinkState}
use Rattle.wc_turns.specs.declared.sockets.WsThen.TheVariants.{GoOn, Closed as ClosedFor}
use Rattle.wc_turns.specs.declared.tail.Tail.{Tail}
use Rattle.wc_turns.specs.Events.{read_events, end_events, text_of_read}
use Rattle.wc_turns.specs.Heard.{GoesOn}
use Rattle.wc_turns.specs.Lines.{rest, HasNoLf}
use Rattle.wc_turns.specs.Served.{MayTake, LeavesAtLine, LeavesAtRead}
use Rattle.wc_turns.specs.Sockets.{end_for, FedThen, ServesPiece, ClosesSocket, FeedsHeld, UnframedAs, ServesFrames, ServesOpened, ReadServed, ServesBytes}
use Rattle.wc_turns.specs.Tails.{IsTail}
use Rattle.wc_turns.specs.Turns.{FramedFor, EndsAs}
use Rattle.wc_turns.proofs.EndedLemmas.{ends-before}
use Rattle.wc_turns.proofs.FramesLemmas.{LeavesAtRead-line, LeavesAtRead-trans, LeavesAtRead-closed, ClosesSocket-shut, own-read, MayTake-none, MayTake-then}
use Rattle.wc_turns.proofs.HeardAgrees.{framed-is}
use Rattle.wc_turns.proofs.LineLemmas.{rest-append, rest-line}
use Rattle.wc_turns.proofs.ServedLemmas.{LeavesAtLine-refl}

-- ---- what is held of a client that is not known yet

pub no-lf-front : (b w : List ℕ) → is_front b w ≡ true → HasNoLf w → HasNoLf b
no-lf-front [] w e h k l = absurd (omega arith)
no-lf-front (x ∷ b) [] e h k l = absurd (false≢true e)
no-lf-front (x ∷ b) (y ∷ w) e h zero l = let same : x ≡ y = (let t = and-left (eqb x y) (is_front b w) e in grind (arith, nat_tests)) in λ q. h zero (omega arith) (sym same ∙ q)
no-lf-front (x ∷ b) (y ∷ w) e h (suc k) l = no-lf-front b w (and-right (eqb x y) (is_front b w) e) (λ j m. h (suc j) (omega arith)) k (omega arith)

front-short : (b w : List ℕ) → is_front b w ≡ true → length b ≤ length w
front-short [] w e = omega arith
front-short (x ∷ b) [] e = absurd (false≢true e)
front-short (x ∷ b) (y ∷ w) e = let l = front-short b w (and-right (eqb x y) (is_front b w) e) in omega arith

pub no-lf-mark : HasNoLf mark
no-lf-mark zero l = λ q. absurd (omega arith)
no-lf-mark (suc zero) l = λ q. absurd (omega arith)
no-lf-mark (suc (suc zero)) l = λ q. absurd (omega arith)
no-lf-mark (suc (suc (suc zero))) l = λ q. absurd (omega arith)
no-lf-mark (suc (suc (suc (suc k)))) l = absurd (omega arith)

-- they are the tail of the link
pub held-is : (all : List ℕ) (tail : Tail) → may_open all ≡ true → IsTail (rest [] all) tail → tail.line ≡ all
held-is all tail e h =
    let front : is_front all mark ≡ true = and-left (is_front all mark) _ e in
    let line : rest [] all ≡ all = rest-line [] all (no-lf-front all mark front no-lf-mark) in
    let short = front-short all mark front in
    by tail.over refl line short
  where
    by : (t : Bool) → tail.over ≡ t → rest [] all ≡ all → length all ≤ length mark → tail.line ≡ all
    by false f line short = h.short f ∙ line
    by true f line short = (let long = h.long f in let l = ap length line in absurd (omega arith))

-- a client that is no WebSocket has no text of frames
plain-read : (all read : List ℕ) (f : Framing) → is_socket f ≡ false → FramedAs all read f → read ≡ []
plain-read all read framing.Undecided e h = h.1
plain-read all read framing.Plain e h = h.1.1
plain-read all read (framing.Socket link) e h = absurd (false≢true (sym e))

unframed-as : (bytes text : List ℕ) (f : Framing) → begins bytes ≡ true → UnframedAs bytes text f → FramedAs bytes text f
unframed-as bytes text framing.Undecided e h = absurd h
unframed-as bytes text framing.Plain e h = absurd h
unframed-as bytes text (framing.Socket link) e h = (e, h)

fed-socket : (bytes text : List ℕ) (f : Framing) → FedAs bytes text f → is_socket f ≡ true
fed-socket bytes text framing.Undecided h = absurd h
fed-socket bytes text framing.Plain h = absurd h
fed-socket bytes text (framing.Socket link) h = refl

framed-fed : (bytes text : List ℕ) (f : Framing) → is_socket f ≡ true → FramedAs bytes text f → (begins bytes ≡ true) × FedAs bytes text f
framed-fed bytes text framing.Undecided e h = absurd (false≢true e)
framed-fed bytes text framing.Plain e h = absurd (false≢true e)
framed-fed bytes text (framing.Socket link) e h = (h.0, h.1.fed)

-- a client whose bytes begin a head with a piece was not known before it
opened-undecided : (all bytes read : List ℕ) (f : Framing) → is_socket f ≡ false → FramedAs all read f → begins (all ++ bytes) ≡ true → f ≡ framing.Undecided
opened-undecided all bytes read framing.Undecided e h begun = refl
opened-undecided all bytes read framing.Plain e h begun = absurd (false≢true (sym (plain-more all bytes h.0 h.1.0).0 ∙ begun))
opened-undecided all bytes read (framing.Socket link) e h begun = absurd (false≢true (sym e))

held-undecided : (all read : List ℕ) (state : LinkState) → FramedAs all read state.framing → IsTail (rest [] (text_of_read (is_socket state.framing) all read)) state.tail → state.framing ≡ framing.Undecided → state.tail.line ≡ all
held-undecided all read state h tail e = held-is all state.tail (rw e at h).0 (rw e at tail)

-- a WebSocket was read, which is to be closed or goes on
framed-after : (server : Option (List ℕ)) (ended : Bool) (bytes text : List ℕ) (f : Framing) → server ≡ None → begins bytes ≡ true → is_socket f ≡ true → (ended ≡ false → UnframedAs bytes text f) → FramedFor server ended bytes text f
framed-after None true bytes text f client begun is unframed = (begun, is)
framed-after None false bytes text f client begun is unframed = unframed-as bytes text f begun (unframed refl)
framed-after (Some name) ended bytes text f client begun is unframed = absurd (cc client)

-- ---- the frames of a piece

-- a link that is no WebSocket has none
pub ServesFrames-plain : (bytes : List ℕ) (state : LinkState) (core : CoreView) (ran : ℕ) → is_socket state.framing ≡ false → ServesFrames bytes state state core core ran ran
ServesFrames-plain bytes state core ran plain = record {
  text = [];
  end = GoesOn;
  state = refl;
  leaves = λ e. inl e;
  socket = refl;
  framed = λ all read fed on q. absurd (false≢true (sym plain ∙ fed-socket all read state.framing fed));
  ends = λ all read fed. tt;
  tails = λ on line h. h;
  takes = λ line h. MayTake-none core ran;
  causes = LeavesAtRead-line (is_socket state.framing) state.link.0 core core (LeavesAtLine-refl state.link.0 core);
  idle = λ none. (none, refl);
  plain = λ e. (refl, refl);
}

-- the messages of a piece were served, and the link goes on
pub ServesFrames-goes : (bytes : List ℕ) (old new : LinkState) (before after : Link) (a b : CoreView) (ran ran' : ℕ) → old.framing ≡ framing.Socket before → new ≡ record old { tail = new.tail; framing = framing.Socket after }
    → ServesPiece old.link.0 bytes GoOn before after a b old.tail new.tail ran ran' → ServesFrames bytes old new a b ran ran'
ServesFrames-goes bytes old new before after a b ran ran' is state p =
    let s = p.serves in
    let socket : is_socket old.framing ≡ true = ap is_socket is in
    let later : new.framing ≡ framing.Socket after = ap (λ (l : LinkState). l.framing) state in
    record {
      text = s.text;
      end = GoesOn;
      state = state ∙ ap (λ e. record old { tail = new.tail; framing = framing.Socket after; ended = e }) (sym (ap (λ (l : LinkState). l.ended) state)) ∙ ap (λ f. record old { tail = new.tail; framing = f; ended = new.ended }) (sym later);
      leaves = λ e. inl (sym (ap (λ (l : LinkState). l.ended) state) ∙ e);
      socket = ap is_socket later ∙ sym socket;
      framed = λ all read f on q. rw later (subst (λ q. FedThen (Some GoOn) q (all ++ bytes) (read ++ s.text) after) on (p.fed all read (rw is at f)));
      ends = λ all read f. tt;
      tails = s.tails;
      takes = λ line h. rw (append-nil (read_events old.link.0 line s.text)) (s.takes line h);
      causes = LeavesAtRead-line (is_socket old.framing) old.link.0 a b s.causes;
      idle = λ none. (let first = s.idle none in (first.0, ap (λ (c : CoreView). c.servers.wanted) first.1));
      plain = λ e. absurd (false≢true (sym e ∙ ap is_socket later));
    }

-- or it was closed after them
pub ServesFrames-closes : (bytes : List ℕ) (old mid new : LinkState) (before after : Link) (a b c : CoreView) (r s t : ℕ) (why : Cause) → a.quits ≡ false → old.framing ≡ framing.Socket before → mid ≡ record old { tail = mid.tail; framing = framing.Socket after }
    → ServesPiece old.link.0 bytes (ClosedFor why) before after a b old.tail mid.tail r s → ClosesSocket why mid new b c s t → ServesFrames bytes old new a c r t
ServesFrames-closes bytes old mid new before after a b c r s t why going is state p closes =
    let serves = p.serves in
    let link : mid.link ≡ old.link = ap (λ (l : LinkState). l.link) state in
    let tail : new.tail ≡ mid.tail = ap (λ (l : LinkState). l.tail) closes.state in
    let later : new.framing ≡ framing.Socket after = ap (λ (l : LinkState). l.framing) closes.state ∙ ap (λ (l : LinkState). l.framing) state in
    let over : new.ended ≡ true = ap (λ (l : LinkState). l.ended) closes.state in
    let running : b.quits ≡ false = goes-on b.quits refl in
    let socket : is_socket old.framing ≡ true = ap is_socket is in
    let own = LeavesAtRead-closed true mid.link.0 why b c (own-read mid.link.0 why serves.ends) closes.loses in
    record {
      text = serves.text;
      end = end_for why;
      state = closes.state ∙ ap (λ (l : LinkState). record l { ended = true }) state ∙ ap (λ t. record old { tail = t; framing = framing.Socket after; ended = true }) (sym tail)
          ∙ ap (λ f. record old { tail = new.tail; framing = f; ended = true }) (sym later) ∙ ap (λ e. record old { tail = new.tail; framing = new.framing; ended = e }) (sym over);
      leaves = λ e. inr (subst (λ (l : LinkId). is_open_at (at_key connection_link l.0 c.connections) ≡ false) link (ClosesSocket-shut why mid new b c s t closes));
      socket = ap is_socket later ∙ sym socket;
      framed = λ all read f on q. absurd (false≢true (sym q ∙ over));
      ends = λ all read f. p.fed all read (rw is at f);
      tails = λ on line h. rw tail (serves.tails running line h);
      takes = λ line h. MayTake-then a b c r s t (read_events old.link.0 line serves.text) (end_events old.link.0 (end_for why)) going running (serves.takes line h)
          (subst (λ (l : LinkId). MayTake b c s t (end_events l.0 (end_for why))) link closes.takes);
      causes = rw socket (LeavesAtRead-trans true old.link.0 a b c (LeavesAtRead-line true old.link.0 a b serves.causes) (subst (λ (l : LinkId). LeavesAtRead true l.0 b c) link own));
      idle = λ none. (let first = serves.idle (closes.idle none) in (first.0, closes.wanted ∙ ap (λ (v : CoreView). v.servers.wanted) first.1));
      plain = λ e. absurd (false≢true (sym e ∙ ap is_socket later));
    }
  where
    goes-on : (q : Bool) → b.quits ≡ q → b.quits ≡ false
    goes-on true e = absurd (let same : Some (ClosedFor why) ≡ Some GoOn = p.serves.quits e in cc)
    goes-on false e = e

-- the same of the first piece of a WebSocket, before which bytes were held
pub ServesOpened-fed : (bytes : List ℕ) (old mid new : LinkState) (a b : CoreView) (ran ran' : ℕ) → mid ≡ record old { tail = mid.tail; framing = mid.framing } → mid.tail ≡ record { line = []; over = false } → is_socket mid.framing ≡ is_socket old.framing
    → (FedAs [] [] old.framing → FedAs old.tail.line [] mid.framing) → ServesFrames bytes mid new a b ran ran' → ServesOpened bytes old new a b ran ran'
ServesOpened-fed bytes old mid new a b ran ran' state begun socket feeds s =
    let link : mid.link ≡ old.link = ap (λ (l : LinkState). l.link) state in
    let start : IsTail [] mid.tail = rw begun (record { bounded = omega arith; short = λ q. refl; long = λ q. absurd (false≢true q) }) in
    record {
      text = s.text;
      end = s.end;
      state = s.state ∙ ap (λ (l : LinkState). record l { tail = new.tail; framing = new.framing; ended = new.ended }) state;
      leaves = ends-before old mid new b link (ap (λ (l : LinkState). l.ended) state) s.leaves;
      socket = s.socket ∙ socket;
      framed = λ fed on q. s.framed old.tail.line [] (feeds fed) on q;
      ends = λ fed. s.ends old.tail.line [] (feeds fed);
      tails = λ on. s.tails on [] start;
      takes = subst (λ (l : LinkId). MayTake a b ran ran' (read_events l.0 [] s.text ++ end_events l.0 s.end)) link (s.takes [] start);
      causes = subst (λ (l : LinkId). LeavesAtRead (is_socket old.framing) l.0 a b) link (subst (λ t. LeavesAtRead t mid.link.0 a b) socket s.causes);
      idle = s.idle;
      plain = s.plain;
    }

-- what was held could not be fed for want of memory, and the link is closed
pub ServesOpened-starved : (bytes : List ℕ) (old mid new : LinkState) (a b : CoreView) (ran ran' : ℕ) → mid ≡ record old { tail = mid.tail; framing = mid.framing } → mid.tail ≡ record { line = []; over = false } → is_socket mid.framing ≡ is_socket old.framing
    → ClosesSocket NoMemory mid new a b ran ran' → ServesOpened bytes old new a b ran ran'
ServesOpened-starved bytes old mid new a b ran ran' state begun socket s =
    let link : mid.link ≡ old.link = ap (λ (l : LinkState). l.link) state in
    let start : IsTail [] mid.tail = rw begun (record { bounded = omega arith; short = λ q. refl; long = λ q. absurd (false≢true q) }) in
    let tail : new.tail ≡ mid.tail = ap (λ (l : LinkState). l.tail) s.state in
    let later : new.framing ≡ mid.framing = ap (λ (l : LinkState). l.framing) s.state in
    let over : new.ended ≡ true = ap (λ (l : LinkState). l.ended) s.state in
    record {
      text = [];
      end = GoesOn;
      state = s.state ∙ ap (λ (l : LinkState). record l { ended = true }) state ∙ ap (λ t. record old { tail = t; framing = mid.framing; ended = true }) (sym tail)
          ∙ ap (λ f. record old { tail = new.tail; framing = f; ended = true }) (sym later) ∙ ap (λ e. record old { tail = new.tail; framing = new.framing; ended = e }) (sym over);
      leaves = λ e. inr (subst (λ (l : LinkId). is_open_at (at_key connection_link l.0 b.connections) ≡ false) link (ClosesSocket-shut NoMemory mid new a b ran ran' s));
      socket = ap is_socket later ∙ socket;
      framed = λ fed on q. absurd (false≢true (sym q ∙ over));
      ends = λ fed. tt;
      tails = λ on. rw tail start;
      takes = s.takes;
      causes = subst (λ (l : LinkId). LeavesAtRead (is_socket old.framing) l.0 a b) link (LeavesAtRead-closed (is_socket old.framing) mid.link.0 NoMemory a b tt s.loses);
      idle = λ none. (s.idle none, s.wanted);
      plain = λ e. (refl, refl);
    }

-- a WebSocket is fed what was held, and what is none has nothing
pub FeedsHeld-socket : (old new : LinkState) (before after : Link) → old.framing ≡ framing.Socket before → new.framing ≡ framing.Socket after → ((bytes text : List ℕ) → Fed bytes text before → Fed (bytes ++ old.tail.line) text after) → FeedsHeld old new
FeedsHeld-socket old new before after is later feeds = λ bytes text f. rw later (feeds bytes text (rw is at f))

pub FeedsHeld-plain : (old new : LinkState) → is_socket old.framing ≡ false → FeedsHeld old new
FeedsHeld-plain old new plain = λ bytes text f. absurd (false≢true (sym plain ∙ fed-socket bytes text old.framing f))

-- ---- a read of a link

-- a link that is to be closed is not read any more
pub ServesBytes-ended : (bytes : List ℕ) (state : LinkState) (core : CoreView) (ran : ℕ) → state.ended ≡ true → ServesBytes bytes state state core core ran ran
ServesBytes-ended bytes state core ran over = record {
  text = [];
  end = GoesOn;
  state = refl;
  leaves = λ e. inl e;
  plain = λ e. (refl, refl);
  serves = λ all read framed tail. by state.server refl all read (rw over at framed) tail;
  causes = LeavesAtRead-line (is_socket state.framing) state.link.0 core core (LeavesAtLine-refl state.link.0 core);
  idle = λ none. (none, refl);
} where
  by : (server : Option (List ℕ)) → state.server ≡ server → (all read : List ℕ) → FramedFor state.server true all read state.framing → IsTail (rest [] (text_of_read (is_socket state.framing) all read)) state.tail → ReadServed (is_none state.server && begins (all ++ bytes)) all read bytes [] GoesOn state core core ran ran
  by (Some name) e all read framed tail = absurd (let q = rw e at framed in false≢true (sym q.0))
  by None e all read framed tail =
      let both = rw e at framed in
      let begun : begins (all ++ bytes) ≡ true = begins-more all bytes both.0 in
      let index : (is_none state.server && begins (all ++ bytes)) ≡ true = ap (λ o. is_none o && begins (all ++ bytes)) e ∙ begun in
      rw index (record {
        is = both.1;
        framed = λ on. rw (e, over) (begun, both.1);
        ends = tt;
        tails = λ on. rw (append-nil read) (rw both.1 at tail);
        takes = MayTake-none core ran;
      })

-- the bytes are text of the link as they come
pub ServesBytes-text : (bytes : List ℕ) (old new : LinkState) (a b : CoreView) (ran ran' : ℕ) → old.ended ≡ false → new ≡ record old { tail = new.tail; framing = new.framing } → Opens old.tail.line bytes old.framing Text new.framing → StaysPlain old.framing Text new.framing
    → (b.quits ≡ false → (line : List ℕ) → IsTail line old.tail → IsTail (rest line bytes) new.tail) → ((line : List ℕ) → IsTail line old.tail → MayTake a b ran ran' (read_events old.link.0 line bytes)) → LeavesAtLine old.link.0 a b → (ran' ≡ 0 → (ran ≡ 0) × (b ≡ a)) → ServesBytes bytes old new a b ran ran'
ServesBytes-text bytes old new a b ran ran' unended state opens plain tails takes causes idle = record {
  text = [];
  end = GoesOn;
  state = state ∙ ap (λ e. record old { tail = new.tail; framing = new.framing; ended = e }) (sym (ap (λ (l : LinkState). l.ended) state));
  leaves = λ e. inl (sym (ap (λ (l : LinkState). l.ended) state) ∙ e);
  plain = λ e. (refl, refl);
  serves = λ all read framed tail. by old.server refl all read (rw unended at framed) tail;
  causes = LeavesAtRead-line (is_socket new.framing) old.link.0 a b causes;
  idle = λ none. (let first = idle none in (first.0, ap (λ (c : CoreView). c.servers.wanted) first.1));
} where
  server : new.server ≡ old.server
  server = ap (λ (l : LinkState). l.server) state

  ended : new.ended ≡ false
  ended = ap (λ (l : LinkState). l.ended) state ∙ unended

  link : new.link ≡ old.link
  link = ap (λ (l : LinkState). l.link) state

  -- a plain link, whose framing is known before and after it
  is-plain : (all read : List ℕ) → is_socket old.framing ≡ false → read ≡ [] → is_socket new.framing ≡ false → FramedFor old.server false (all ++ bytes) [] new.framing → IsTail (rest [] (text_of_read (is_socket old.framing) all read)) old.tail
      → ReadServed (is_none old.server && begins (all ++ bytes)) all read bytes [] GoesOn new a b ran ran'
  is-plain all read before none after framed tail =
      let index : (is_none old.server && begins (all ++ bytes)) ≡ false = framed-is old.server false (all ++ bytes) [] new.framing framed ∙ after in
      let line : IsTail (rest [] all) old.tail = rw before at tail in
      rw index (record {
        is = after;
        framed = λ on. rw (server, ended, none) framed;
        ends = tt;
        tails = λ on. rw (rest-append [] all bytes) (tails on (rest [] all) line);
        takes = rw (link, append-nil (read_events old.link.0 (rest [] all) bytes)) (takes (rest [] all) line);
      })

  -- a WebSocket would have begun as one
  no-socket : (all read : List ℕ) (f : Framing) → is_socket f ≡ true → FramedAs all read f → (g : Framing) → is_socket g ≡ false → FramedAs (all ++ bytes) [] g → ⊥
  no-socket all read f e h framing.Undecided is q = false≢true (sym (undecided-no (all ++ bytes) q.0) ∙ begins-more all bytes (framed-fed all read f e h).0)
  no-socket all read f e h framing.Plain is q = false≢true (sym q.0 ∙ begins-more all bytes (framed-fed all read f e h).0)
  no-socket all read f e h (framing.Socket link) is q = false≢true (sym is)

  plain-before : (all read : List ℕ) → FramedAs all read old.framing → is_socket new.framing ≡ false → FramedAs (all ++ bytes) [] new.framing → (t : Bool) → is_socket old.framing ≡ t → t ≡ false
  plain-before all read h is q true e = absurd (no-socket all read old.framing e h new.framing is q)
  plain-before all read h is q false e = refl

  -- the text of frames that a server has is of no matter
  server-plain : (all read name : List ℕ) → old.server ≡ Some name → new.framing ≡ framing.Plain → is_socket old.framing ≡ false → IsTail (rest [] (text_of_read (is_socket old.framing) all read)) old.tail → ReadServed (is_none old.server && begins (all ++ bytes)) all read bytes [] GoesOn new a b ran ran'
  server-plain all read name e is before tail =
      let index : (is_none old.server && begins (all ++ bytes)) ≡ false = ap (λ o. is_none o && begins (all ++ bytes)) e in
      let line : IsTail (rest [] all) old.tail = rw before at tail in
      rw index (record {
        is = ap is_socket is;
        framed = λ on. rw (server, e, ended) (refl, is);
        ends = tt;
        tails = λ on. rw (rest-append [] all bytes) (tails on (rest [] all) line);
        takes = rw (link, append-nil (read_events old.link.0 (rest [] all) bytes)) (takes (rest [] all) line);
      })

  by : (server : Option (List ℕ)) → old.server ≡ server → (all read : List ℕ) → FramedFor old.server false all read old.framing → IsTail (rest [] (text_of_read (is_socket old.framing) all read)) old.tail → ReadServed (is_none old.server && begins (all ++ bytes)) all read bytes [] GoesOn new a b ran ran'
  by None e all read framed tail =
      let h : FramedAs all read old.framing = rw e at framed in
      let is = opens all read h (held-undecided all read old h tail) in
      let before : is_socket old.framing ≡ false = plain-before all read h is.0 is.1 (is_socket old.framing) refl in
      is-plain all read before (plain-read all read old.framing before h) is.0 (rw e is.1) tail
  by (Some name) e all read framed tail =
      let h = rw e at framed in
      let stays = plain h.1 in
      let before : is_socket old.framing ≡ false = ap is_socket h.1 in
      server-plain all read name e stays.1 before tail

-- the bytes are the first ones of a WebSocket, but for what was held
pub ServesBytes-opened : (bytes : List ℕ) (old mid new : LinkState) (a b : CoreView) (ran ran' : ℕ) → old.ended ≡ false → mid ≡ record old { framing = mid.framing } → Opens old.tail.line bytes old.framing Opened mid.framing → StaysPlain old.framing Opened mid.framing → ServesOpened bytes mid new a b ran ran' → ServesBytes bytes old new a b ran ran'
ServesBytes-opened bytes old mid new a b ran ran' unended state opens plain s = record {
  text = s.text;
  end = s.end;
  state = s.state ∙ ap (λ (l : LinkState). record l { tail = new.tail; framing = new.framing; ended = new.ended }) state;
  leaves = ends-before old mid new b (ap (λ (l : LinkState). l.link) state) (ap (λ (l : LinkState). l.ended) state) s.leaves;
  plain = s.plain;
  serves = λ all read framed tail. by old.server refl all read (rw unended at framed) tail;
  causes = subst (λ t. LeavesAtRead t old.link.0 a b) (sym s.socket) (subst (λ (l : LinkId). LeavesAtRead (is_socket mid.framing) l.0 a b) (ap (λ (l : LinkState). l.link) state) s.causes);
  idle = s.idle;
} where
  server : new.server ≡ old.server
  server = ap (λ (l : LinkState). l.server) s.state ∙ ap (λ (l : LinkState). l.server) state

  link : new.link ≡ mid.link
  link = ap (λ (l : LinkState). l.link) s.state

  by : (name : Option (List ℕ)) → old.server ≡ name → (all read : List ℕ) → FramedFor old.server false all read old.framing → IsTail (rest [] (text_of_read (is_socket old.framing) all read)) old.tail → ReadServed (is_none old.server && begins (all ++ bytes)) all read bytes s.text s.end new a b ran ran'
  by (Some name) e all read framed tail = absurd (let h = rw e at framed in let q : Opened ≡ Text = (plain h.1).0 in cc)
  by None e all read framed tail =
      let h : FramedAs all read old.framing = rw e at framed in
      let is = opens all read h (held-undecided all read old h tail) in
      let begun : begins (all ++ bytes) ≡ true = is.1.0 in
      let none : read ≡ [] = plain-read all read old.framing is.0 h in
      let line : mid.tail.line ≡ all = ap (λ (l : LinkState). l.tail.line) state ∙ held-undecided all read old h tail (opened-undecided all bytes read old.framing is.0 h begun) in
      let socket : is_socket new.framing ≡ true = s.socket ∙ fed-socket [] [] mid.framing is.1.1 in
      let index : (is_none old.server && begins (all ++ bytes)) ≡ true = ap (λ o. is_none o && begins (all ++ bytes)) e ∙ begun in
      rw index (record {
        is = socket;
        framed = λ on. framed-after new.server new.ended (all ++ bytes) (read ++ s.text) new.framing (server ∙ e) begun socket (λ q. rw none (subst (λ l. UnframedAs (l ++ bytes) s.text new.framing) line (s.framed is.1.1 on q)));
        ends = rw none (subst (λ l. EndsAs s.end (l ++ bytes) s.text) line (s.ends is.1.1));
        tails = λ on. rw none (s.tails on);
        takes = rw (link, none) s.takes;
      })

-- the bytes are frames of a WebSocket
pub ServesBytes-frames : (bytes : List ℕ) (old mid new : LinkState) (a b : CoreView) (ran ran' : ℕ) → old.ended ≡ false → mid ≡ record old { framing = mid.framing } → Opens old.tail.line bytes old.framing Frames mid.framing → StaysPlain old.framing Frames mid.framing → ServesFrames bytes mid new a b ran ran' → ServesBytes bytes old new a b ran ran'
ServesBytes-frames bytes old mid new a b ran ran' unended state opens plain s = record {
  text = s.text;
  end = s.end;
  state = s.state ∙ ap (λ (l : LinkState). record l { tail = new.tail; framing = new.framing; ended = new.ended }) state;
  leaves = ends-before old mid new b (ap (λ (l : LinkState). l.link) state) (ap (λ (l : LinkState). l.ended) state) s.leaves;
  plain = s.plain;
  serves = λ all read framed tail. by old.server refl all read (rw unended at framed) tail;
  causes = subst (λ t. LeavesAtRead t old.link.0 a b) (sym s.socket) (subst (λ (l : LinkId). LeavesAtRead (is_socket mid.framing) l.0 a b) (ap (λ (l : LinkState). l.link) state) s.causes);
  idle = s.idle;
} where
  server : new.server ≡ old.server
  server = ap (λ (l : LinkState). l.server) s.state ∙ ap (λ (l : LinkState). l.server) state

  link : new.link ≡ mid.link
  link = ap (λ (l : LinkState). l.link) s.state

  by : (name : Option (List ℕ)) → old.server ≡ name → (all read : List ℕ) → FramedFor old.server false all read old.framing → IsTail (rest [] (text_of_read (is_socket old.framing) all read)) old.tail → ReadServed (is_none old.server && begins (all ++ bytes)) all read bytes s.text s.end new a b ran ran'
  by (Some name) e all read framed tail = absurd (let h = rw e at framed in let q : Frames ≡ Text = (plain h.1).0 in cc)
  by None e all read framed tail =
      let h : FramedAs all read old.framing = rw e at framed in
      let is = opens all read h (held-undecided all read old h tail) in
      let known = framed-fed all read old.framing is.0 h in
      let fed : FedAs all read mid.framing = subst (λ f. FedAs all read f) (sym is.1) known.1 in
      let begun : begins (all ++ bytes) ≡ true = begins-more all bytes known.0 in
      let line : IsTail (rest [] read) mid.tail = rw (ap (λ (l : LinkState). l.tail) state) (rw is.0 at tail) in
      let socket : is_socket new.framing ≡ true = s.socket ∙ ap is_socket is.1 ∙ is.0 in
      let index : (is_none old.server && begins (all ++ bytes)) ≡ true = ap (λ o. is_none o && begins (all ++ bytes)) e ∙ begun in
      rw index (record {
        is = socket;
        framed = λ on. framed-after new.server new.ended (all ++ bytes) (read ++ s.text) new.framing (server ∙ e) begun socket (λ q. s.framed all read fed on q);
        ends = s.ends all read fed;
        tails = λ on. rw (rest-append [] read s.text) (s.tails on (rest [] read) line);
        takes = rw link (s.takes (rest [] read) line);
      })
