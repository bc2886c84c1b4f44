-- What the clients that settled hold at the end of a run, and which flags lines have then.
use Rattle.std.proofs.Common.{◌≡◌, ℕ, ◌-◌, ◌≤◌, Bool, true, false, cond, eqb, nat_le, List, [], ◌∷◌, ◌++◌, length, map, not, take, slice_index, Option, Some, None, IfSome, IfOk, Result, Ok, Err, refl, sym, subst, arith}
use Rattle.std.specs.List.{AllByRecursion, flat_map}
use Rattle.std.specs.Str.{IsUtf8}
use Rattle.std.proofs.lemmas.Bool.{false≢true}
use Rattle.std.proofs.lemmas.Bool.Decides.{nat_tests}
use Rattle.std.proofs.lemmas.List.{length-take}
use Rattle.wc_text.specs.declared.names.LinkId.{LinkId}
use Rattle.wc_outside.specs.Seen.{Seen}
use Rattle.wc_outside.specs.Keyed.{at_key}
use Rattle.wc_outside.specs.declared.happening.Happening.{Happening}
use Rattle.wc_outside.specs.declared.happening.Happening.TheVariants.{Woke, Accepted, Read, Ended, Failed, Connected, Refused, ListenFailed}
use Rattle.wc_session.specs.declared.client.Client.{Client}
use Rattle.wc_core.specs.Events.{Event, Tick, Line}
use Rattle.wc_core.specs.Fitted.{AreShown}
use Rattle.wc_core.specs.State.{State}
use Rattle.wc_core.specs.Step.{client_link, run}
use Rattle.wc_board.specs.Connections.{unsent_on}
use Rattle.wc_core.specs.Served.{state_of, sent_to}
use Rattle.wc_mirror_laws.specs.Held.{HeldPart}
use Rattle.wc_mirror_laws.specs.Bytes.{ShowsPart}
use Rattle.wc_mirror_laws.specs.Mirrors.{beginning, IsShortLine}
use Rattle.wc_mirror_laws.specs.Settled.{SettledBy, IsLimited, is_following}
use Rattle.wc_mirror_laws.proofs.BytesLemmas.{part_shows}
use Rattle.wc_mirror_laws.proofs.RunLemmas.{run_keeps}
use Rattle.wc_options.specs.Config.{config_of}
use Rattle.wc_options.specs.Options.{OptionsValue}
use Rattle.wc_core.specs.Limits.{most_lines}
use Rattle.wc_turns.specs.declared.headless.Headless.{Headless}
use Rattle.wc_loop.proofs.OptionsLemmas.{limit_most}
use Rattle.wc_turns.specs.Events.{socket_on, tail_as, text_of_read, came_events, happening_events, end_events, events_of, events_from, wake_events, loss_of, refused_since, line_events, is_tick, clock}
use Rattle.wc_turns.specs.Heard.{Heard, Happened, Unframed, NotPut, SocketEnd, GoesOn, Closes, Broken, happenings}
use Rattle.wc_loop.specs.Headline.{HandsOut, ClientsHoldDumps, LinesAreShown, state_before}
use Rattle.wc_loop.specs.Words.{Opening}
use Rattle.wc_turns.specs.Lines.{ended_lines, without_cr, line_limit}
use Rattle.wc_core.specs.State.{beside}
use Rattle.wc_eval.specs.Verdicts.{Oracle}

-- ---- lines are no longer than one may be

short-append : (xs ys : List Event) → AllByRecursion IsShortLine xs → AllByRecursion IsShortLine ys → AllByRecursion IsShortLine (xs ++ ys)
short-append [] ys h g = g
short-append (x ∷ xs) ys h g = (h.0, short-append xs ys h.1 g)

short-front : (xs ys : List Event) → AllByRecursion IsShortLine (xs ++ ys) → AllByRecursion IsShortLine xs
short-front [] ys h = tt
short-front (x ∷ xs) ys h = (h.0, short-front xs ys h.1)

short-wake : (last : Option ℕ) (m : ℕ) → AllByRecursion IsShortLine (wake_events last m)
short-wake None m = (tt, tt)
short-wake (Some last) m = go (is_tick last m)
  where
    go : (b : Bool) → AllByRecursion IsShortLine (cond b (Tick m ∷ []) [])
    go true = (tt, tt)
    go false = tt

cut-short : (line : List ℕ) → length (without_cr line) ≤ length line
cut-short line = go (eqb (slice_index line (length line - 1)) 13)
  where
    go : (b : Bool) → length (cond b (take (length line - 1) line) line) ≤ length line
    go true = let few = length-take (length line - 1) line in omega arith
    go false = omega arith

short-line : (link : ℕ) (line : List ℕ) → AllByRecursion IsShortLine (line_events link line)
short-line link line = go (nat_le (length line) line_limit) refl
  where
    go : (b : Bool) → nat_le (length line) line_limit ≡ b → AllByRecursion IsShortLine (cond b (Line link (without_cr line) ∷ []) [])
    go true e = ((let few = cut-short line in grind (arith, nat_tests)), tt)
    go false e = tt

short-lines : (link : ℕ) (lines : List (List ℕ)) → AllByRecursion IsShortLine (flat_map (line_events link) lines)
short-lines link [] = tt
short-lines link (line ∷ lines) = short-append (line_events link line) (flat_map (line_events link) lines) (short-line link line) (short-lines link lines)

short-losses : (refused : List LinkId) → AllByRecursion IsShortLine (map loss_of refused)
short-losses [] = tt
short-losses (link ∷ refused) = (tt, short-losses refused)

short-came : (link : LinkId) (before : List Heard) (bytes text : List ℕ) → AllByRecursion IsShortLine (came_events link before bytes text)
short-came link before bytes text =
    let socket = socket_on link.0 (happenings before ++ Read link bytes ∷ []) in
    short-lines link.0 (ended_lines (tail_as socket link.0 before) (text_of_read socket bytes text))

short-happened : (before : List Heard) (h : Happening) → AllByRecursion IsShortLine (happening_events before h)
short-happened before (Woke m) =
    let taken = happenings before in
    short-append (wake_events (clock taken) m) (map loss_of (refused_since taken)) (short-wake (clock taken) m) (short-losses (refused_since taken))
short-happened before (Accepted link nonce) = (tt, tt)
short-happened before (Read link bytes) = short-came link before bytes []
short-happened before (Ended link) = (tt, tt)
short-happened before (Failed link) = (tt, tt)
short-happened before (Connected link) = (tt, tt)
short-happened before (Refused link) = tt
short-happened before ListenFailed = (tt, tt)

short-end : (link : ℕ) (end : SocketEnd) → AllByRecursion IsShortLine (end_events link end)
short-end link GoesOn = tt
short-end link Closes = (tt, tt)
short-end link Broken = (tt, tt)

short-of : (before : List Heard) (h : Heard) → AllByRecursion IsShortLine (events_of before h)
short-of before (Happened h) = short-happened before h
short-of before (Unframed link bytes text end) = short-append (came_events link before bytes text) (end_events link.0 end) (short-came link before bytes text) (short-end link.0 end)
short-of before (NotPut link) = (tt, tt)

pub short-from : (before history : List Heard) → AllByRecursion IsShortLine (events_from before history)
short-from before [] = tt
short-from before (h ∷ hs) = short-append (events_of before h) (events_from (before ++ h ∷ []) hs) (short-of before h) (short-from (before ++ h ∷ []) hs)

-- ---- a client that settled is open

open-client : (P : Type 0) (limit : Option ℕ) (o : Option Client) → is_following limit o ≡ true → ((client : Client) → o ≡ Some client → P) → P
open-client P limit None e f = absurd (false≢true e)
open-client P limit (Some client) e f = f client refl

shows-by : (oracle : Oracle) (commands : List (List ℕ)) (connects : Bool) (texts : AllByRecursion IsUtf8 commands) (options : OptionsValue) (lines : ℕ) (seen : Seen) (last : Headless) → lines ≤ 4096 → (handed : HandsOut (beginning oracle options lines commands connects) seen last) (which : HeldPart) (limit : Option ℕ) (link : ℕ) (id : List ℕ) → 1 ≤ link → socket_on link seen.taken ≡ false → SettledBy limit which link id (beginning oracle options lines commands connects) handed.events
    → IsLimited limit last.core.world
    → ShowsPart which limit id (seen.sent link ++ unsent_on link last.core.connections) (state_of last.core (beside (run (beginning oracle options lines commands connects) handed.events).state))
shows-by oracle commands connects texts options lines seen last most handed which limit link id one plain settled limited =
    let first = beginning oracle options lines commands connects in
    let means : State = state_of last.core (beside (run first handed.events).state) in
    let short = short-front handed.events handed.reaches.rest (subst (AllByRecursion IsShortLine) handed.reaches.front (short-from [] handed.history)) in
    let shows : ShowsPart which limit id (sent_to link (run first handed.events).acts) (run first handed.events).state = part_shows which limit oracle options lines commands connects handed.events link id most texts short settled (subst (λ (state : State). IsLimited limit state.world) (sym handed.means.same) limited) in
    let bytes = open-client _ limit (at_key client_link link (run first handed.events).state.clients) settled.still (λ client there. handed.opened link client one plain there) in
    subst (λ sent. ShowsPart which limit id sent means) (sym bytes) (subst (λ state. ShowsPart which limit id (sent_to link (run first handed.events).acts) state) handed.means.same shows)

pub ClientsHoldDumps-known : (opening : Opening) → AllByRecursion IsUtf8 opening.commands → (contents : Option (List ℕ)) (seen : Seen) (last : Headless) → ClientsHoldDumps opening contents seen last
ClientsHoldDumps-known opening texts None seen last = tt
ClientsHoldDumps-known opening texts (Some kept) seen last = go (config_of kept)
  where
    go : (r : Result OptionsValue ℕ) → IfOk r (λ options. (oracle : Oracle) (handed : HandsOut (state_before oracle options opening) seen last) (which : HeldPart) (limit : Option ℕ) (link : ℕ) (id : List ℕ) → 1 ≤ link → socket_on link seen.taken ≡ false → SettledBy limit which link id (state_before oracle options opening) handed.events
        → IsLimited limit last.core.world → ShowsPart which limit id (seen.sent link ++ unsent_on link last.core.connections) (state_of last.core (beside (run (state_before oracle options opening) handed.events).state)))
    go (Ok options) = λ oracle handed which limit link id one plain settled limited. shows-by oracle opening.commands (not opening.holds) texts options (most_lines options) seen last (limit_most options) handed which limit link id one plain settled limited
    go (Err n) = tt

pub ClientsHoldDumps-last : (opening : Opening) → AllByRecursion IsUtf8 opening.commands → (contents : Option (List ℕ)) (seen : Seen) (last : Option Headless) → IfSome last (ClientsHoldDumps opening contents seen)
ClientsHoldDumps-last opening texts contents seen None = tt
ClientsHoldDumps-last opening texts contents seen (Some last) = ClientsHoldDumps-known opening texts contents seen last

-- ---- lines are shown as the filters have them

-- the core keeps this beside what it keeps of a link, of any one
shown-by : (oracle : Oracle) (commands : List (List ℕ)) (connects : Bool) (texts : AllByRecursion IsUtf8 commands) (options : OptionsValue) (lines : ℕ) (seen : Seen) (last : Headless) → lines ≤ 4096 → HandsOut (beginning oracle options lines commands connects) seen last → AreShown last.core.filters last.core.world
shown-by oracle commands connects texts options lines seen last most handed =
    let kept = run_keeps oracle options lines commands connects handed.events 0 most texts in
    subst (λ (state : State). AreShown state.filters state.world) handed.means.same kept.shown

LinesAreShown-known : (opening : Opening) → AllByRecursion IsUtf8 opening.commands → (contents : Option (List ℕ)) (seen : Seen) (last : Headless) → LinesAreShown opening contents seen last
LinesAreShown-known opening texts None seen last = tt
LinesAreShown-known opening texts (Some kept) seen last = go (config_of kept)
  where
    go : (r : Result OptionsValue ℕ) → IfOk r (λ options. (oracle : Oracle) → HandsOut (state_before oracle options opening) seen last → AreShown last.core.filters last.core.world)
    go (Ok options) = λ oracle handed. shown-by oracle opening.commands (not opening.holds) texts options (most_lines options) seen last (limit_most options) handed
    go (Err n) = tt

pub LinesAreShown-last : (opening : Opening) → AllByRecursion IsUtf8 opening.commands → (contents : Option (List ℕ)) (seen : Seen) (last : Option Headless) → IfSome last (LinesAreShown opening contents seen)
LinesAreShown-last opening texts contents seen None = tt
LinesAreShown-last opening texts contents seen (Some last) = LinesAreShown-known opening texts contents seen last
