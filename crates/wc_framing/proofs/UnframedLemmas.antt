-- What the bytes of a WebSocket link come to, message by message.
use Rattle.std.proofs.Common.{◌≡◌, ◌≢◌, ℕ, zero, suc, ◌+◌, ◌-◌, ◌<◌, ◌≤◌, Bool, true, false, List, [], ◌∷◌, ◌++◌, length, take, drop, slice_index, Option, Some, None, IfSome, Result, Ok, Err, OnOk, refl, sym, ap, ◌∙◌, subst, arith, append_assoc, length-append, length-take, length-drop}
use Rattle.std.specs.List.{flat_map}
use Rattle.std.proofs.lemmas.Grind.{flat_map-append}
use Rattle.std.proofs.lemmas.List.{append-nil, drop-append-le, take-append-le}
use Rattle.memchr.specs.Find.{FindsNeedle, OccursAt}
use Rattle.websocket.specs.declared.error.Error.{Error}
use Rattle.websocket.specs.declared.protocol.frame.codec.FrameStatus.{FrameStatus}
use Rattle.websocket.specs.declared.protocol.frame.codec.FrameStatus.TheVariants.{Partial, Complete}
use Rattle.websocket.specs.declared.protocol.state.WebSocketState.TheVariants.{Active}
use Rattle.websocket.specs.declared.protocol.config.Role.TheVariants.{Server}
use Rattle.websocket.specs.Connection.{Connection, Effect, read_step, can_read}
use Rattle.websocket.specs.Content.{Content, is_close, text as TextOf, binary as BinaryOf, ping as Ping, pong as Pong, close as Close}
use Rattle.websocket.proofs.EffectLemmas.{IsSoundEffect_from_read}
use Rattle.websocket.proofs.StreamLemmas.{read_step-append, TookFrame_from_read}
use Rattle.wc_ws.specs.declared.names.WsGot.{WsGot}
use Rattle.wc_ws.specs.declared.names.WsGot.TheVariants.{Payload, Control, NotYet, Ended}
use Rattle.wc_ws.specs.declared.names.WsRefused.{WsRefused}
use Rattle.wc_ws.specs.declared.names.WsRefused.TheVariants.{HeadTooLong, BadHead, BadFrame, NoMemory}
use Rattle.wc_ws.specs.declared.names.WsStage.{WsStage}
use Rattle.wc_ws.specs.declared.names.WsStage.TheVariants.{Head, Frames, Over}
use Rattle.wc_ws.specs.Head.{FirstEmptyLine, IsUpgrade, AsksNothing, head_to, after_head, head_limit, empty_line}
use Rattle.wc_ws.specs.Link.{Link, server, server_of, limits, told, Steps, StepsWhere, OnFrames, OnHead, Opens, opened, after_frame, waits, too_long, refused, starved, goes_on}
use Rattle.wc_ws.proofs.HeadLemmas.{line_fits}
use Rattle.wc_ws.proofs.SideLemmas.{IsTame_from_read}
use Rattle.wc_framing.specs.Unframed.{payload_of, payload, payloads, Reads, fresh, HoldsHead, ReadsFrames, FedAt, Fed, AwaitsHead, AwaitsFrame, AwaitsAt, Unframes, ReadsClose, IsBroken, no_end, no_head, no_frame, Comes, Shrinks}

-- ---- bytes that come after those that were read

-- a frame that was read is read the same where more bytes follow
pub Reads-append : (c d : Connection) (i l m : List ℕ) (es : List Effect) → Reads c i es d l → Reads c (i ++ m) es d (l ++ m)
Reads-append c d i l m [] h = (h.0, ap (λ bytes. bytes ++ m) h.1)
Reads-append c d i l m (e ∷ es) h =
    let n = h.0 in
    let step = h.1.0 in
    let took = TookFrame_from_read c i (n, e) step in (
      n,
      (
        read_step-append c i m (λ k. cc (step, k.1)) ∙ step,
        subst (λ rest. Reads e.next rest es d (l ++ m)) (sym (drop-append-le n i m took.inside)) (Reads-append e.next d (drop n i) l m es h.1.1),
      ),
    )

-- one more frame is read
Reads-then : (c d : Connection) (i l : List ℕ) (es : List Effect) (p : ℕ × Effect) → Reads c i es d l → read_step d l ≡ Ok (Complete p) → Reads c i (es ++ p.1 ∷ []) p.1.next (drop p.0 l)
Reads-then c d i l [] p h step = (p.0, (rw (h.0, h.1) at step, (refl, ap (drop p.0) h.1)))
Reads-then c d i l (e ∷ es) p h step = (h.0, (h.1.0, Reads-then e.next d (drop h.0 i) l es p h.1.1 step))

-- the bytes of a list up to a place are those of a longer one
same-place : (hay more' : List ℕ) (k : ℕ) → k < length hay → slice_index (hay ++ more') k ≡ slice_index hay k
same-place [] more' k l = absurd (omega arith)
same-place (x ∷ hay) more' zero l = refl
same-place (x ∷ hay) more' (suc k) l = same-place hay more' k (omega arith)

occurs-more : (hay more' : List ℕ) (k : ℕ) → OccursAt hay empty_line k → OccursAt (hay ++ more') empty_line k
occurs-more hay more' k o = record {
  fits = (let f = o.fits in let l = length-append hay more' in omega arith);
  reads = λ j l. same-place hay more' (k + j) (let f = o.fits in omega arith) ∙ o.reads j l;
}

occurs-less : (hay more' : List ℕ) (k : ℕ) → k + 4 ≤ length hay → OccursAt (hay ++ more') empty_line k → OccursAt hay empty_line k
occurs-less hay more' k within o = record {
  fits = within;
  reads = λ j l. sym (same-place hay more' (k + j) (omega arith)) ∙ o.reads j l;
}

first-more : (hay more' : List ℕ) (place : ℕ) → FindsNeedle hay empty_line 0 (Some place) → FindsNeedle (hay ++ more') empty_line 0 (Some place)
first-more hay more' place found = (
  record {
    low = omega arith;
    high = (let h = found.0.high in let l = length-append hay more' in omega arith);
    before = λ k low below occurs. found.0.before k low below (occurs-less hay more' k (let f = found.1.fits in omega arith) occurs);
  },
  occurs-more hay more' place found.1,
)

take-more : (n : ℕ) (xs ys : List ℕ) → take n (xs ++ ys) ≡ take n xs ++ take (n - length xs) ys
take-more zero xs ys = let none : zero - length xs ≡ 0 = omega arith in ap (λ k. take k ys) (sym none)
take-more (suc n) [] ys = let same : suc n - 0 ≡ suc n = omega arith in ap (λ k. take k ys) (sym same)
take-more (suc n) (x ∷ xs) ys = let same : suc n - suc (length xs) ≡ n - length xs = omega arith in ap (λ zs. x ∷ zs) (take-more n xs ys ∙ ap (λ k. take n xs ++ take k ys) (sym same))

-- the first empty line stays the first one
pub line-more : (bytes more' : List ℕ) (place : ℕ) → FirstEmptyLine bytes (Some place) → FirstEmptyLine (bytes ++ more') (Some place)
line-more bytes more' place found = subst (λ hay. FindsNeedle hay empty_line 0 (Some place)) (sym (take-more 8192 bytes more')) (first-more (take 8192 bytes) (take (8192 - length bytes) more') place found)

frames-more : (bytes text' piece : List ℕ) (link : Link) → ReadsFrames bytes text' link → ReadsFrames (bytes ++ piece) text' (record link { input = link.input ++ piece })
frames-more bytes text' piece link r =
    let fits = line_fits bytes r.place r.ends in
    record {
      place = r.place;
      key = r.key;
      ends = line-more bytes piece r.place r.ends;
      asks = subst (λ head. IsUpgrade head r.key) (sym (take-append-le (r.place + 4) bytes piece fits.0)) r.asks;
      effects = r.effects;
      reads = subst (λ after. Reads fresh after r.effects (server link) (link.input ++ piece)) (sym (drop-append-le (r.place + 4) bytes piece fits.0)) (Reads-append fresh (server link) (after_head r.place bytes) link.input piece r.effects r.reads);
      made = r.made;
    }

fed-at : (stage : WsStage) (bytes text' piece : List ℕ) (link : Link) → FedAt stage bytes text' link → FedAt stage (bytes ++ piece) text' (record link { input = link.input ++ piece })
fed-at Head bytes text' piece link h = record { input = ap (λ i. i ++ piece) h.input; state = h.state; fragments = h.fragments; none = h.none }
fed-at Frames bytes text' piece link h = frames-more bytes text' piece link h
fed-at (Over why) bytes text' piece link h = absurd h

-- where a call went well
pub OnOk-map : {A B : Type 0} (r : Result A B) {P Q : Type 0} → (P → Q) → OnOk r P → OnOk r Q
OnOk-map (Ok v) f h = f h
OnOk-map (Err e) f h = tt

-- a piece is fed
pub Fed-piece : (bytes text' piece : List ℕ) (link : Link) → Fed bytes text' link → Fed (bytes ++ piece) text' (record link { input = link.input ++ piece })
Fed-piece bytes text' piece link h = fed-at link.stage bytes text' piece link h

-- ---- a frame is read

payloads-more : (es : List Effect) (e : Effect) → payloads (es ++ e ∷ []) ≡ payloads es ++ payload e
payloads-more es e = flat_map-append payload es (e ∷ []) ∙ ap (λ t. payloads es ++ t) (append-nil (payload e))

server-of : (conn : Connection) → conn.role ≡ Server → conn.config ≡ limits → server_of conn.state conn.fragments ≡ conn
server-of conn role config = rw (sym role, sym config) refl

-- the frames of a link after one more
frames-step : (bytes text' : List ℕ) (old : Link) (p : ℕ × Effect) → ReadsFrames bytes text' old → read_step (server old) old.input ≡ Ok (Complete p) → ReadsFrames bytes (text' ++ payload p.1) (after_frame old p)
frames-step bytes text' old p r step =
    let side = (IsTame_from_read (server old) old.input p step).side in
    let next : server (after_frame old p) ≡ p.1.next = server-of p.1.next side.role side.config in
    record {
      place = r.place;
      key = r.key;
      ends = r.ends;
      asks = r.asks;
      effects = r.effects ++ p.1 ∷ [];
      reads = subst (λ conn. Reads fresh (after_head r.place bytes) (r.effects ++ p.1 ∷ []) conn (drop p.0 old.input)) (sym next) (Reads-then fresh (server old) (after_head r.place bytes) old.input r.effects p r.reads step);
      made = ap (λ t. t ++ payload p.1) r.made ∙ sym (payloads-more r.effects p.1);
    }

-- what is told of a frame is what it adds to the text, and after a close nothing more is read
told-comes : (bytes text' : List ℕ) (o : Option Content) (new : Link) → new.stage ≡ Frames → IfSome o (λ m. is_close m ≡ true → can_read new.state ≡ false) → FedAt new.stage bytes (text' ++ payload_of o) new → Comes bytes text' (Ok (told o)) new
told-comes bytes text' None new stage ends h = subst (λ t. Fed bytes t new) (append-nil text') h
told-comes bytes text' (Some (TextOf bs)) new stage ends h = h
told-comes bytes text' (Some (BinaryOf bs)) new stage ends h = h
told-comes bytes text' (Some (Ping bs)) new stage ends h = subst (λ t. Fed bytes t new) (append-nil text') h
told-comes bytes text' (Some (Pong bs)) new stage ends h = subst (λ t. Fed bytes t new) (append-nil text') h
told-comes bytes text' (Some (Close f)) new stage ends h = record {
  link = new;
  frames = subst (λ t. ReadsFrames bytes t new) (append-nil text') (subst (λ s. FedAt s bytes (text' ++ []) new) stage h);
  closed = ends refl;
}

steps-comes : (bytes text' : List ℕ) (old new : Link) (got : WsGot) (step : Result (FrameStatus (ℕ × Effect)) Error) → read_step (server old) old.input ≡ step → old.stage ≡ Frames → ReadsFrames bytes text' old → Steps old step got new → Comes bytes text' (Ok got) new
steps-comes bytes text' old new got (Err e) is stage r h = absurd h
steps-comes bytes text' old new got (Ok (Partial n)) is stage r h =
    rw (h.0, h.1) (record {
      fed = subst (λ s. FedAt s bytes text' old) (sym stage) r;
      awaits = subst (λ s. AwaitsAt s old) (sym stage) (record { wanted = n; partial = is });
    })
steps-comes bytes text' old new got (Ok (Complete p)) is stage r h =
    rw (h.0, h.1) (told-comes bytes text' p.1.message (after_frame old p) stage (IsSoundEffect_from_read (server old) old.input p is).close_ends_reading (subst (λ s. FedAt s bytes (text' ++ payload p.1) (after_frame old p)) (sym stage) (frames-step bytes text' old p r is)))

where-comes : (t : Bool) (bytes text' : List ℕ) (old new : Link) (got : WsGot) → can_read old.state ≡ t → old.stage ≡ Frames → ReadsFrames bytes text' old → StepsWhere t old got new → Comes bytes text' (Ok got) new
where-comes false bytes text' old new got over stage r h = rw h.0 (record { link = old; frames = r; closed = over })
where-comes true bytes text' old new got over stage r h = steps-comes bytes text' old new got (read_step (server old) old.input) refl stage r h

frames-comes : (bytes text' : List ℕ) (old new : Link) (result : Result WsGot WsRefused) → old.stage ≡ Frames → ReadsFrames bytes text' old → OnFrames old result new → Comes bytes text' result new
frames-comes bytes text' old new (Ok got) stage r h = where-comes (can_read old.state) bytes text' old new got refl stage r h
frames-comes bytes text' old new (Err BadFrame) stage r h = no_frame old r h.1
frames-comes bytes text' old new (Err NoMemory) stage r h = tt
frames-comes bytes text' old new (Err BadHead) stage r h = absurd h
frames-comes bytes text' old new (Err (HeadTooLong limit)) stage r h = absurd h

head-comes : (bytes text' : List ℕ) (old new : Link) (result : Result WsGot WsRefused) → old.stage ≡ Head → HoldsHead bytes text' old → OnHead old result new → Comes bytes text' result new
head-comes bytes text' old new result stage h (waits none short is same) =
    rw (is, same) (record {
      fed = subst (λ s. FedAt s bytes text' old) (sym stage) h;
      awaits = subst (λ s. AwaitsAt s old) (sym stage) (record { none = none; short = short });
    })
head-comes bytes text' old new result stage h (too_long none long is over) = rw is (no_end (subst (λ i. FirstEmptyLine i None) h.input none) (subst (λ i. head_limit ≤ length i) h.input long))
head-comes bytes text' old new result stage h (refused none is over) = rw is (no_head (subst AsksNothing h.input none))
head-comes bytes text' old new result stage h (starved is over) = rw is tt
head-comes bytes text' old new result stage h (goes_on mid opens frames) =
    let first : ReadsFrames bytes text' mid = rw opens.is (record {
      place = opens.place;
      key = opens.key;
      ends = subst (λ i. FirstEmptyLine i (Some opens.place)) h.input opens.ends;
      asks = subst (λ i. IsUpgrade (head_to opens.place i) opens.key) h.input opens.asks;
      effects = [];
      reads = rw (h.state, h.fragments, h.input) (refl, refl);
      made = h.none;
    }) in
    frames-comes bytes text' mid new result (ap (λ (l : Link). l.stage) opens.is) first frames

pub Fed-next : (bytes text' : List ℕ) (old new : Link) (result : Result WsGot WsRefused)
    → (old.stage ≡ Head → OnHead old result new) → (old.stage ≡ Frames → OnFrames old result new) → Fed bytes text' old → Comes bytes text' result new
Fed-next bytes text' old new result head frames fed = by old.stage refl fed
  where
    by : (stage : WsStage) → old.stage ≡ stage → FedAt stage bytes text' old → Comes bytes text' result new
    by Head e h = head-comes bytes text' old new result e h (head e)
    by Frames e h = frames-comes bytes text' old new result e h (frames e)
    by (Over why) e h = absurd h

-- ---- less is left to be read

told-shrinks : (o : Option Content) (old new : Link) → length new.input < length old.input → Shrinks (Ok (told o)) old new
told-shrinks None old new l = l
told-shrinks (Some (TextOf bs)) old new l = l
told-shrinks (Some (BinaryOf bs)) old new l = l
told-shrinks (Some (Ping bs)) old new l = l
told-shrinks (Some (Pong bs)) old new l = l
told-shrinks (Some (Close f)) old new l = tt

steps-shrinks : (old new : Link) (got : WsGot) (step : Result (FrameStatus (ℕ × Effect)) Error) → read_step (server old) old.input ≡ step → Steps old step got new → Shrinks (Ok got) old new
steps-shrinks old new got (Err e) is h = absurd h
steps-shrinks old new got (Ok (Partial n)) is h = rw h.0 tt
steps-shrinks old new got (Ok (Complete p)) is h =
    let took = TookFrame_from_read (server old) old.input p is in
    rw (h.0, h.1) (told-shrinks p.1.message old (after_frame old p) (omega (arith, length-drop p.0 old.input, took.not_empty, took.inside)))

where-shrinks : (t : Bool) (old new : Link) (got : WsGot) → StepsWhere t old got new → Shrinks (Ok got) old new
where-shrinks false old new got h = rw h.0 tt
where-shrinks true old new got h = steps-shrinks old new got (read_step (server old) old.input) refl h

frames-shrinks : (old new : Link) (result : Result WsGot WsRefused) → OnFrames old result new → Shrinks result old new
frames-shrinks old new (Ok got) h = where-shrinks (can_read old.state) old new got h
frames-shrinks old new (Err why) h = tt

shrinks-more : (result : Result WsGot WsRefused) (old mid new : Link) → length mid.input ≤ length old.input → Shrinks result mid new → Shrinks result old new
shrinks-more (Ok (Payload bs)) old mid new l h = omega arith
shrinks-more (Ok Control) old mid new l h = omega arith
shrinks-more (Ok NotYet) old mid new l h = tt
shrinks-more (Ok Ended) old mid new l h = tt
shrinks-more (Err why) old mid new l h = tt

head-shrinks : (old new : Link) (result : Result WsGot WsRefused) → OnHead old result new → Shrinks result old new
head-shrinks old new result (waits none short is same) = rw is tt
head-shrinks old new result (too_long none long is over) = rw is tt
head-shrinks old new result (refused none is over) = rw is tt
head-shrinks old new result (starved is over) = rw is tt
head-shrinks old new result (goes_on mid opens frames) =
    let less : length mid.input ≤ length old.input = rw opens.is (let l = length-drop (opens.place + 4) old.input in omega arith) in
    shrinks-more result old mid new less (frames-shrinks mid new result frames)

pub Fed-shrinks : (old new : Link) (result : Result WsGot WsRefused)
    → ((why : WsRefused) → old.stage ≡ Over why → (result ≡ Err why) × (new ≡ old)) → (old.stage ≡ Head → OnHead old result new) → (old.stage ≡ Frames → OnFrames old result new) → Shrinks result old new
Fed-shrinks old new result over head frames = by old.stage refl
  where
    by : (stage : WsStage) → old.stage ≡ stage → Shrinks result old new
    by Head e = head-shrinks old new result (head e)
    by Frames e = frames-shrinks old new result (frames e)
    by (Over why) e = rw (over why e).0 tt
