-- Bytes spell the same events however they are cut.
use Rattle.std.proofs.Common.{◌≡◌, ℕ, suc, Bool, true, false, cond, eqb, ◌&&◌, ◌||◌, List, [], ◌∷◌, ◌++◌, map, Option, Some, None, refl, sym, ap, ◌∙◌, append_assoc, arith}
use Rattle.std.specs.List.{flat_map}
use Rattle.std.proofs.lemmas.Grind.{flat_map-append}
use Rattle.std.proofs.lemmas.List.{append-nil}
use Rattle.std.proofs.lemmas.List.Folds.{list_any-append}
use Rattle.std.proofs.lemmas.Bool.{false≢true}
use Rattle.std.proofs.lemmas.Bool.Decides.{nat_tests}
use Rattle.wc_text.specs.declared.names.LinkId.{LinkId}
use Rattle.wc_outside.specs.declared.happening.Happening.{Happening}
use Rattle.wc_outside.specs.declared.happening.Happening.TheVariants.{Woke, Accepted, Read, Ended, Failed, Connected, Refused, ListenFailed}
use Rattle.wc_framing.specs.Opening.{mark, is_front, begins}
use Rattle.wc_framing.proofs.OpeningLemmas.{and-left, and-right}
use Rattle.wc_turns.specs.Events.{bytes_on, comes_on, has_come, socket_on, text_in, tail_as, text_of_read, text_events, came_events, clock_from, clock, refused_from, refused_since, loss_of, wake_events, read_events, end_events, happening_events, events_of, events_from, whole}
use Rattle.wc_turns.specs.Heard.{Heard, Happened, Unframed, NotPut, happened, happenings}
use Rattle.wc_turns.specs.Lines.{rest, HasNoLf}
use Rattle.wc_turns.proofs.HeardLemmas.{happenings-push, plain-before, tail_as-push}
use Rattle.wc_turns.proofs.LineLemmas.{rest-append, read_events-append, read_events-none}
use Rattle.wc_turns.proofs.ReadServes.{no-lf-front, no-lf-mark}
use Rattle.wc_turns.proofs.RunLemmas.{events_from-append}

clock_from-append : (last : Option ℕ) (hs gs : List Happening) → clock_from last (hs ++ gs) ≡ clock_from (clock_from last hs) gs
clock_from-append last [] gs = refl
clock_from-append None (Woke moment ∷ hs) gs = clock_from-append (Some moment) hs gs
clock_from-append (Some last) (Woke moment ∷ hs) gs = clock_from-append _ hs gs
clock_from-append last (Accepted link nonce ∷ hs) gs = clock_from-append last hs gs
clock_from-append last (Read link bytes ∷ hs) gs = clock_from-append last hs gs
clock_from-append last (Ended link ∷ hs) gs = clock_from-append last hs gs
clock_from-append last (Failed link ∷ hs) gs = clock_from-append last hs gs
clock_from-append last (Connected link ∷ hs) gs = clock_from-append last hs gs
clock_from-append last (Refused link ∷ hs) gs = clock_from-append last hs gs
clock_from-append last (ListenFailed ∷ hs) gs = clock_from-append last hs gs

refused_from-append : (refused : List LinkId) (hs gs : List Happening) → refused_from refused (hs ++ gs) ≡ refused_from (refused_from refused hs) gs
refused_from-append refused [] gs = refl
refused_from-append refused (Woke moment ∷ hs) gs = refused_from-append [] hs gs
refused_from-append refused (Accepted link nonce ∷ hs) gs = refused_from-append refused hs gs
refused_from-append refused (Read link bytes ∷ hs) gs = refused_from-append refused hs gs
refused_from-append refused (Ended link ∷ hs) gs = refused_from-append refused hs gs
refused_from-append refused (Failed link ∷ hs) gs = refused_from-append refused hs gs
refused_from-append refused (Connected link ∷ hs) gs = refused_from-append refused hs gs
refused_from-append refused (Refused link ∷ hs) gs = refused_from-append (refused ++ link ∷ []) hs gs
refused_from-append refused (ListenFailed ∷ hs) gs = refused_from-append refused hs gs

-- ---- what matters of what was heard before

record Alike (hs gs : List Heard) : Type 0 where
  clocks : clock (happenings hs) ≡ clock (happenings gs)
  refused : refused_since (happenings hs) ≡ refused_since (happenings gs)
  bytes : (link : ℕ) → flat_map (bytes_on link) (happenings hs) ≡ flat_map (bytes_on link) (happenings gs)
  comes : (link : ℕ) → has_come link (happenings hs) ≡ has_come link (happenings gs)
  tails : (socket : Bool) (link : ℕ) → tail_as socket link hs ≡ tail_as socket link gs

alike-push : (hs gs : List Heard) (h : Heard) → Alike hs gs → Alike (hs ++ h ∷ []) (gs ++ h ∷ [])
alike-push hs gs h a = record {
  clocks = ap clock (happenings-push hs h) ∙ clock_from-append None (happenings hs) (happened h) ∙ ap (λ last. clock_from last (happened h)) a.clocks ∙ sym (ap clock (happenings-push gs h) ∙ clock_from-append None (happenings gs) (happened h));
  refused = ap refused_since (happenings-push hs h) ∙ refused_from-append [] (happenings hs) (happened h) ∙ ap (λ links. refused_from links (happened h)) a.refused ∙ sym (ap refused_since (happenings-push gs h) ∙ refused_from-append [] (happenings gs) (happened h));
  bytes = λ link. bytes-push link hs ∙ ap (λ bs. bs ++ flat_map (bytes_on link) (happened h)) (a.bytes link) ∙ sym (bytes-push link gs);
  comes = λ link. comes-push link hs ∙ ap (λ t. t || has_come link (happened h)) (a.comes link) ∙ sym (comes-push link gs);
  tails = λ socket link. tail_as-push socket link hs h ∙ ap (λ tail. rest tail (text_in link socket h)) (a.tails socket link) ∙ sym (tail_as-push socket link gs h);
}
  where
    bytes-push : (link : ℕ) (xs : List Heard) → flat_map (bytes_on link) (happenings (xs ++ h ∷ [])) ≡ flat_map (bytes_on link) (happenings xs) ++ flat_map (bytes_on link) (happened h)
    bytes-push link xs = ap (flat_map (bytes_on link)) (happenings-push xs h) ∙ flat_map-append (bytes_on link) (happenings xs) (happened h)

    comes-push : (link : ℕ) (xs : List Heard) → has_come link (happenings (xs ++ h ∷ [])) ≡ (has_come link (happenings xs) || has_come link (happened h))
    comes-push link xs = ap (has_come link) (happenings-push xs h) ∙ list_any-append (comes_on link) (happenings xs) (happened h)

-- a link is a WebSocket after a read, or not
socket-read : (k : ℕ) (taken : List Happening) (link : LinkId) (bytes : List ℕ) → socket_on k (taken ++ Read link bytes ∷ []) ≡ ((has_come k taken || has_come k (Read link bytes ∷ [])) && begins (flat_map (bytes_on k) taken ++ flat_map (bytes_on k) (Read link bytes ∷ [])))
socket-read k taken link bytes =
    ap (λ t. t && begins (flat_map (bytes_on k) (taken ++ Read link bytes ∷ []))) (list_any-append (comes_on k) taken (Read link bytes ∷ []))
    ∙ ap (λ bs. (has_come k taken || has_come k (Read link bytes ∷ [])) && begins bs) (flat_map-append (bytes_on k) taken (Read link bytes ∷ []))

alike-came : (hs gs : List Heard) (link : LinkId) (bytes text : List ℕ) → Alike hs gs → came_events link hs bytes text ≡ came_events link gs bytes text
alike-came hs gs link bytes text a =
    let one = has_come link.0 (Read link bytes ∷ []) in
    let more = flat_map (bytes_on link.0) (Read link bytes ∷ []) in
    let same : socket_on link.0 (happenings hs ++ Read link bytes ∷ []) ≡ socket_on link.0 (happenings gs ++ Read link bytes ∷ []) =
    socket-read link.0 (happenings hs) link bytes ∙ ap (λ t. (t || one) && begins (flat_map (bytes_on link.0) (happenings hs) ++ more)) (a.comes link.0)
    ∙ ap (λ bs. (has_come link.0 (happenings gs) || one) && begins (bs ++ more)) (a.bytes link.0) ∙ sym (socket-read link.0 (happenings gs) link bytes) in
    let socket = socket_on link.0 (happenings gs ++ Read link bytes ∷ []) in
    ap (λ t. text_events t link.0 hs bytes text) same ∙ ap (λ line. read_events link.0 line (text_of_read socket bytes text)) (a.tails socket link.0)

alike-happened : (hs gs : List Heard) (h : Happening) → Alike hs gs → happening_events hs h ≡ happening_events gs h
alike-happened hs gs (Woke moment) a = ap (λ last. wake_events last moment ++ map loss_of (refused_since (happenings hs))) a.clocks ∙ ap (λ links. wake_events (clock (happenings gs)) moment ++ map loss_of links) a.refused
alike-happened hs gs (Accepted link nonce) a = refl
alike-happened hs gs (Read link bytes) a = alike-came hs gs link bytes [] a
alike-happened hs gs (Ended link) a = refl
alike-happened hs gs (Failed link) a = refl
alike-happened hs gs (Connected link) a = refl
alike-happened hs gs (Refused link) a = refl
alike-happened hs gs ListenFailed a = refl

alike-events_of : (hs gs : List Heard) (h : Heard) → Alike hs gs → events_of hs h ≡ events_of gs h
alike-events_of hs gs (Happened h) a = alike-happened hs gs h a
alike-events_of hs gs (Unframed link bytes text end) a = ap (λ es. es ++ end_events link.0 end) (alike-came hs gs link bytes text a)
alike-events_of hs gs (NotPut link) a = refl

alike-events_from : (hs gs more : List Heard) → Alike hs gs → events_from hs more ≡ events_from gs more
alike-events_from hs gs [] a = refl
alike-events_from hs gs (h ∷ more) a = ap (λ events. events ++ events_from (hs ++ h ∷ []) more) (alike-events_of hs gs h a)
    ∙ ap (λ events. events_of gs h ++ events) (alike-events_from (hs ++ h ∷ []) (gs ++ h ∷ []) more (alike-push hs gs h a))

-- ---- bytes that are read at once, or in two pieces

parts : (link : LinkId) (xs ys : List ℕ) (other : ℕ) → bytes_on other (Read link (xs ++ ys)) ≡ bytes_on other (Read link xs) ++ bytes_on other (Read link ys)
parts link xs ys other = by (eqb link.0 other)
  where
    by : (t : Bool) → cond t (xs ++ ys) [] ≡ cond t xs [] ++ cond t ys []
    by true = refl
    by false = refl

bytes-push : (other : ℕ) (before : List Heard) (link : LinkId) (xs : List ℕ) → flat_map (bytes_on other) (happenings (before ++ Happened (Read link xs) ∷ [])) ≡ flat_map (bytes_on other) (happenings before) ++ bytes_on other (Read link xs)
bytes-push other before link xs = ap (flat_map (bytes_on other)) (happenings-push before (Happened (Read link xs))) ∙ flat_map-append (bytes_on other) (happenings before) (Read link xs ∷ []) ∙ ap (λ bs. flat_map (bytes_on other) (happenings before) ++ bs) (append-nil (bytes_on other (Read link xs)))

or-none : (b : Bool) → (b || false) ≡ b
or-none true = refl
or-none false = refl

comes-push : (other : ℕ) (before : List Heard) (link : LinkId) (xs : List ℕ) → has_come other (happenings (before ++ Happened (Read link xs) ∷ [])) ≡ has_come other (happenings before)
comes-push other before link xs = ap (has_come other) (happenings-push before (Happened (Read link xs))) ∙ list_any-append (comes_on other) (happenings before) (Read link xs ∷ []) ∙ or-none (has_come other (happenings before))

cut-alike : (before : List Heard) (link : LinkId) (xs ys : List ℕ) → Alike (before ++ Happened (Read link (xs ++ ys)) ∷ []) ((before ++ Happened (Read link xs) ∷ []) ++ Happened (Read link ys) ∷ [])
cut-alike before link xs ys = record {
  clocks = clock-push before (xs ++ ys) ∙ sym (clock-push front ys ∙ clock-push before xs);
  refused = refused-push before (xs ++ ys) ∙ sym (refused-push front ys ∙ refused-push before xs);
  bytes = λ other. bytes-push other before link (xs ++ ys) ∙ ap (λ bs. flat_map (bytes_on other) (happenings before) ++ bs) (parts link xs ys other) ∙ sym (append_assoc (flat_map (bytes_on other) (happenings before)) (bytes_on other (Read link xs)) (bytes_on other (Read link ys)))
      ∙ sym (bytes-push other front link ys ∙ ap (λ bs. bs ++ bytes_on other (Read link ys)) (bytes-push other before link xs));
  comes = λ other. comes-push other before link (xs ++ ys) ∙ sym (comes-push other front link ys ∙ comes-push other before link xs);
  tails = λ socket other. tail_as-push socket other before (Happened (Read link (xs ++ ys))) ∙ tail-parts socket other
      ∙ sym (tail_as-push socket other front (Happened (Read link ys)) ∙ ap (λ tail. rest tail (text_in other socket (Happened (Read link ys)))) (tail_as-push socket other before (Happened (Read link xs))));
}
  where
    front : List Heard
    front = before ++ Happened (Read link xs) ∷ []

    clock-push : (hs : List Heard) (bytes : List ℕ) → clock (happenings (hs ++ Happened (Read link bytes) ∷ [])) ≡ clock (happenings hs)
    clock-push hs bytes = ap clock (happenings-push hs (Happened (Read link bytes))) ∙ clock_from-append None (happenings hs) (Read link bytes ∷ []) ∙ still (clock (happenings hs))
      where
        still : (last : Option ℕ) → clock_from last (Read link bytes ∷ []) ≡ last
        still None = refl
        still (Some m) = refl

    refused-push : (hs : List Heard) (bytes : List ℕ) → refused_since (happenings (hs ++ Happened (Read link bytes) ∷ [])) ≡ refused_since (happenings hs)
    refused-push hs bytes = ap refused_since (happenings-push hs (Happened (Read link bytes))) ∙ refused_from-append [] (happenings hs) (Read link bytes ∷ [])

    tail-parts : (socket : Bool) (other : ℕ) → rest (tail_as socket other before) (text_in other socket (Happened (Read link (xs ++ ys)))) ≡ rest (rest (tail_as socket other before) (text_in other socket (Happened (Read link xs)))) (text_in other socket (Happened (Read link ys)))
    tail-parts true other = refl
    tail-parts false other = ap (rest (tail_as false other before)) (parts link xs ys other) ∙ rest-append (tail_as false other before) (bytes_on other (Read link xs)) (bytes_on other (Read link ys))

-- ---- the lines that end with both pieces

-- what begins a head only with more bytes is a front of its mark
begins-later : (w a b : List ℕ) → is_front w (a ++ b) ≡ true → is_front w a ≡ false → is_front a w ≡ true
begins-later [] a b e f = absurd (false≢true (sym f))
begins-later (x ∷ w) [] b e f = refl
begins-later (x ∷ w) (y ∷ a) b e f =
    let same : x ≡ y = (let t = and-left (eqb x y) (is_front w (a ++ b)) e in grind (arith, nat_tests)) in
    let here : eqb x y ≡ true = and-left (eqb x y) (is_front w (a ++ b)) e in
    let back : eqb y x ≡ true = grind (arith, nat_tests) in
    let following = begins-later w a b (and-right (eqb x y) (is_front w (a ++ b)) e) (sym (ap (λ t. t && is_front w a) here) ∙ f) in
    ap (λ t. t && is_front a w) back ∙ following

no-lf-back : (a b : List ℕ) → HasNoLf (a ++ b) → HasNoLf b
no-lf-back [] b h = h
no-lf-back (x ∷ a) b h = no-lf-back a b (λ k l. h (suc k) (omega arith))

-- so no line ends with it
none-ended : (line all xs ys : List ℕ) (n : ℕ) → begins (all ++ (xs ++ ys)) ≡ true → begins (all ++ xs) ≡ false → read_events n line xs ≡ []
none-ended line all xs ys n e f =
    let front : is_front (all ++ xs) mark ≡ true = begins-later mark (all ++ xs) ys (ap begins (append_assoc all xs ys) ∙ e) f in
    read_events-none n line xs (no-lf-back all xs (no-lf-front (all ++ xs) mark front no-lf-mark))

came-parts : (before : List Heard) (link : LinkId) (xs ys : List ℕ) → came_events link before (xs ++ ys) [] ≡ came_events link before xs [] ++ came_events link (before ++ Happened (Read link xs) ∷ []) ys []
came-parts before link xs ys = by (has_come k taken) refl (begins (all ++ (xs ++ ys))) refl (begins (all ++ xs)) refl
  where
    k : ℕ
    k = link.0

    taken : List Happening
    taken = happenings before

    all : List ℕ
    all = flat_map (bytes_on k) taken

    front : List Heard
    front = before ++ Happened (Read link xs) ∷ []

    own : (bytes : List ℕ) → bytes_on k (Read link bytes) ≡ bytes
    own bytes = grind (arith, nat_tests)

    -- whether the link is a WebSocket by each of the reads
    socket-by : (hs : List Happening) (bytes : List ℕ) → socket_on k (hs ++ Read link bytes ∷ []) ≡ (has_come k hs && begins (flat_map (bytes_on k) hs ++ bytes))
    socket-by hs bytes = socket-read k hs link bytes ∙ ap (λ t. t && begins (flat_map (bytes_on k) hs ++ flat_map (bytes_on k) (Read link bytes ∷ []))) (or-none (has_come k hs)) ∙ ap (λ bs. has_come k hs && begins (flat_map (bytes_on k) hs ++ bs)) (append-nil (bytes_on k (Read link bytes)) ∙ own bytes)

    last : socket_on k (happenings front ++ Read link ys ∷ []) ≡ (has_come k taken && begins (all ++ (xs ++ ys)))
    last = socket-by (happenings front) ys ∙ ap (λ t. t && begins (flat_map (bytes_on k) (happenings front) ++ ys)) (comes-push k before link xs)
        ∙ ap (λ bs. has_come k taken && begins bs) (ap (λ bs. bs ++ ys) (bytes-push k before link xs ∙ ap (λ bs. all ++ bs) (own xs)) ∙ append_assoc all xs ys)

    -- the events of the three reads, where it is known what the link is
    events-by : (hs : List Heard) (bytes : List ℕ) (socket : Bool) → socket_on k (happenings hs ++ Read link bytes ∷ []) ≡ socket → came_events link hs bytes [] ≡ text_events socket k hs bytes []
    events-by hs bytes socket e = ap (λ t. text_events t k hs bytes []) e

    plain-parts : read_events k (tail_as false k before) (xs ++ ys) ≡ read_events k (tail_as false k before) xs ++ read_events k (tail_as false k front) ys
    plain-parts = read_events-append k (tail_as false k before) xs ys ∙ ap (λ line. read_events k (tail_as false k before) xs ++ read_events k line ys) (sym (tail_as-push false k before (Happened (Read link xs)) ∙ ap (rest (tail_as false k before)) (own xs)))

    and-none : (b : Bool) → (b && false) ≡ false
    and-none true = refl
    and-none false = refl

    -- it is plain after both pieces, and so after the first one
    all-plain : socket_on k (taken ++ Read link (xs ++ ys) ∷ []) ≡ false → socket_on k (taken ++ Read link xs ∷ []) ≡ false → socket_on k (happenings front ++ Read link ys ∷ []) ≡ false → came_events link before (xs ++ ys) [] ≡ came_events link before xs [] ++ came_events link front ys []
    all-plain e f g = events-by before (xs ++ ys) false e ∙ plain-parts ∙ sym (ap (λ es. es ++ came_events link front ys []) (events-by before xs false f) ∙ ap (λ es. read_events k (tail_as false k before) xs ++ es) (events-by front ys false g))

    by : (come : Bool) → has_come k taken ≡ come → (later : Bool) → begins (all ++ (xs ++ ys)) ≡ later → (first : Bool) → begins (all ++ xs) ≡ first → came_events link before (xs ++ ys) [] ≡ came_events link before xs [] ++ came_events link front ys []
    by false c later l first f =
        all-plain (socket-by taken (xs ++ ys) ∙ ap (λ t. t && begins (all ++ (xs ++ ys))) c) (socket-by taken xs ∙ ap (λ t. t && begins (all ++ xs)) c) (last ∙ ap (λ t. t && begins (all ++ (xs ++ ys))) c)
    by true c false l first f =
        let both : socket_on k (taken ++ Read link (xs ++ ys) ∷ []) ≡ false = socket-by taken (xs ++ ys) ∙ ap (λ t. has_come k taken && t) l ∙ and-none (has_come k taken) in
        let end : socket_on k (happenings front ++ Read link ys ∷ []) ≡ false = last ∙ ap (λ t. has_come k taken && t) l ∙ and-none (has_come k taken) in
        let one : socket_on k (taken ++ Read link xs ∷ []) ≡ false = ap (socket_on k) (sym (happenings-push before (Happened (Read link xs)))) ∙ plain-before k (happenings front) (Read link ys ∷ []) end in
        all-plain both one end
    by true c true l true f =
        let both = events-by before (xs ++ ys) true (socket-by taken (xs ++ ys) ∙ ap (λ t. t && begins (all ++ (xs ++ ys))) c ∙ l) in
        let one = events-by before xs true (socket-by taken xs ∙ ap (λ t. t && begins (all ++ xs)) c ∙ f) in
        let end = events-by front ys true (last ∙ ap (λ t. t && begins (all ++ (xs ++ ys))) c ∙ l) in
        both ∙ sym (ap (λ es. es ++ came_events link front ys []) one ∙ end)
    by true c true l false f =
        let both = events-by before (xs ++ ys) true (socket-by taken (xs ++ ys) ∙ ap (λ t. t && begins (all ++ (xs ++ ys))) c ∙ l) in
        let one = events-by before xs false (socket-by taken xs ∙ ap (λ t. t && begins (all ++ xs)) c ∙ f) ∙ none-ended (tail_as false k before) all xs ys k l f in
        let end = events-by front ys true (last ∙ ap (λ t. t && begins (all ++ (xs ++ ys))) c ∙ l) in
        both ∙ sym (ap (λ es. es ++ came_events link front ys []) one ∙ end)

-- a read can be cut anywhere
pub cut_anywhere : (before after : List Heard) (link : LinkId) (xs ys : List ℕ)
    → whole (before ++ Happened (Read link (xs ++ ys)) ∷ after) ≡ whole (before ++ Happened (Read link xs) ∷ Happened (Read link ys) ∷ after)
cut_anywhere before after link xs ys =
    let front = before ++ Happened (Read link xs) ∷ [] in
    events_from-append [] before (Happened (Read link (xs ++ ys)) ∷ after)
    ∙ ap (λ events. whole before ++ events)
    (ap (λ events. events ++ events_from (before ++ Happened (Read link (xs ++ ys)) ∷ []) after) (came-parts before link xs ys)
    ∙ append_assoc (came_events link before xs []) (came_events link front ys []) _
    ∙ ap (λ events. came_events link before xs [] ++ (came_events link front ys [] ++ events)) (alike-events_from _ _ after (cut-alike before link xs ys)))
    ∙ sym (events_from-append [] before (Happened (Read link xs) ∷ Happened (Read link ys) ∷ after))
