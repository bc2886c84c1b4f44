-- One event leaves a client that follows with what it holds of the world.
use Rattle.std.proofs.Common.{◌≡◌, ℕ, ◌≤◌, Bool, true, false, cond, List, [], ◌∷◌, length, Option, Some, None, refl, sym, ap, subst, ◌∙◌, eqb, nat_lt}
use Rattle.std.specs.List.{AllByRecursion}
use Rattle.wc_text.specs.declared.names.Cause.{Cause}
use Rattle.wc_text.specs.declared.names.Cause.TheVariants as cause
use Rattle.wc_outside.specs.Keyed.{at_key}
use Rattle.wc_outside.proofs.KeyedLemmas.{at_key-key}
use Rattle.wc_relaycmd.specs.declared.request.Request.{Request}
use Rattle.wc_relaycmd.specs.Answers.{request_of}
use Rattle.wc_text.specs.Splits.{BeginsWithout}
use Rattle.wc_session.specs.declared.client.Client.{Client}
use Rattle.wc_session.specs.Reply.{reply_of}
use Rattle.wc_core.specs.Contexts.{context_of}
use Rattle.wc_core.specs.Events.{Event, Start, Tick, Arrives, Line as LineCame, Stands, Ends, Fails, Breaks, ListenFails}
use Rattle.wc_core.specs.State.{State, Stepped}
use Rattle.wc_servers.specs.Seats.{server_link}
use Rattle.wc_core.specs.Limits.{client_limit}
use Rattle.wc_core.specs.Step.{client_link, then_does, sends, reply_step, request_step, link_line_step, link_loss_step, step}
use Rattle.wc_mirror_laws.specs.Held.{HeldPart, Lines, HeldOf, Has}
use Rattle.wc_mirror_laws.specs.Settled.{AskedFor, asked_by, asked_with, asked_in, client_on, is_following, TakesDump, IsFair, IsPlain, LimitStays}
use Rattle.wc_mirror_laws.specs.Kept.{IsStateKept}
use Rattle.wc_mirror_laws.specs.Mirrors.{mirror_after, StepMirrors, DumpMirrors}
use Rattle.wc_mirror_laws.proofs.IdLemmas.{request_free}
use Rattle.wc_mirror_laws.proofs.AskedLemmas.{before_reply, before_clients, asked_after, Tells-before, all_told, before_right}
use Rattle.wc_mirror_laws.proofs.PushLemmas.{push_right}
use Rattle.wc_mirror_laws.proofs.ReplyLemmas.{dump_right, reply_right, sends_right}
use Rattle.wc_mirror_laws.proofs.ChangeLemmas.{mirror-append}
use Rattle.wc_mirror_laws.proofs.InputLemmas.{Tells-start}
use Rattle.wc_mirror_laws.proofs.LimitLemmas.{stays_second, suits_before}
use Rattle.wc_mirror_laws.proofs.ServerLemmas.{Tells-line, Tells-loss, Tells-stands}
use Rattle.wc_mirror_laws.proofs.SkipLemmas.{begun_stays, begun_had}
use Rattle.wc_mirror_laws.proofs.StepLemmas.{arrived, asked_here, ticked, kept-ticked, reply_link, reply_text, right-answers, reply_plain, counts_replies}

-- ---- what the client of a link asks at an event

-- it asks one thing, and is open
pub record IsOne (link : ℕ) (state : State) (first : AskedFor) (others : List AskedFor) : Type 0 where
  pub client : client_on link state ≡ Some first.client
  pub none : others ≡ []
  pub free : BeginsWithout 95 first.request.id

pub asked_one : (link : ℕ) (state : State) (event : Event) (first : AskedFor) (others : List AskedFor) → asked_in link state event ≡ first ∷ others → IsOne link state first others
asked_one link state (Start moment) first others e = absurd (let h = e in cc)
asked_one link state (Tick moment) first others e = absurd (let h = e in cc)
asked_one link state (Arrives k nonce) first others e = absurd (let h = e in cc)
asked_one link state (LineCame k line) first others e = by (eqb k link) e where
  has : (client : Client) (o : Option Request) → client_on link state ≡ Some client → request_of client.escaped line ≡ o → asked_with client o ≡ first ∷ others → IsOne link state first others
  has client None at read e = absurd (let h = e in cc)
  has client (Some request) at read e =
      let whole : record { client = client; request = request } ≡ first = cc in
      record {
        client = at ∙ ap (λ (a : AskedFor). Some a.client) whole;
        none = cc;
        free = subst (λ (a : AskedFor). BeginsWithout 95 a.request.id) whole (request_free line client.escaped request read);
      }

  came : (o : Option Client) → client_on link state ≡ o → asked_by line o ≡ first ∷ others → IsOne link state first others
  came None at e = absurd (let h = e in cc)
  came (Some client) at e = has client (request_of client.escaped line) at refl e

  by : (b : Bool) → cond b (asked_by line (client_on link state)) [] ≡ first ∷ others → IsOne link state first others
  by true e = came (client_on link state) refl e
  by false e = absurd (let h = e in cc)
asked_one link state (Stands k) first others e = absurd (let h = e in cc)
asked_one link state (Ends k) first others e = absurd (let h = e in cc)
asked_one link state (Fails k) first others e = absurd (let h = e in cc)
asked_one link state (Breaks k) first others e = absurd (let h = e in cc)
asked_one link state ListenFails first others e = absurd (let h = e in cc)

-- ---- a line of a client

-- what was asked by the line of a client
asked_now : (link : ℕ) (state : State) (k : ℕ) (line : List ℕ) (client : Client) (request : Request) → at_key client_link k state.clients ≡ Some client → request_of client.escaped line ≡ Some request
    → eqb (client_link client) link ≡ true → asked_in link state (LineCame k line) ≡ record { client = client; request = request } ∷ []
asked_now link state k line client request at read here =
    let key = at_key-key client_link k state.clients client at in
    asked_here link k state line (Some client) (ap (λ n. eqb n link) (sym key) ∙ here) at ∙ ap (asked_with client) read

-- what a client has after what was done
abbrev HasAfter : (which : HeldPart) → Option ℕ → ℕ → List ℕ → HeldOf which → Stepped → Type 0
HasAfter which limit link id part stepped = Has which (mirror_after which limit link id part stepped.acts) stepped.state

-- the client of a line, by its own link
found : (k : ℕ) (state : State) (client : Client) → at_key client_link k state.clients ≡ Some client → at_key client_link (client_link client) state.clients ≡ Some client
found k state client at = ap (λ n. at_key client_link n state.clients) (at_key-key client_link k state.clients client at) ∙ at

-- where what comes before a reply and the reply leave a part right, so does what follows
replied : (which : HeldPart) (limit : Option ℕ) (link : ℕ) (id : List ℕ) (state : State) (k : ℕ) (line : List ℕ) (client : Client) (request : Request) (part : HeldOf which) → IsStateKept link state → BeginsWithout 95 id → request_of client.escaped line ≡ Some request
    → at_key client_link (client_link client) state.clients ≡ Some client → IsPlain limit (client_on link state) → is_following limit (client_on link (reply_step (before_reply state client request).state client request).state) ≡ true
    → LimitStays limit (before_reply state client request).state.world (reply_step (before_reply state client request).state client request).state.world
    → Has which (mirror_after which limit link id (mirror_after which limit link id part (before_reply state client request).acts) (sends (client_link client) (reply_of (before_reply state client request).state.world (context_of (before_reply state client request).state) client request).messages)) (before_reply state client request).state
    → HasAfter which limit link id part (then_does (before_reply state client request) (λ next. reply_step next client request))
replied which limit link id state k line client request part kept free read at plain following stays had =
    let tells = Tells-before which limit link id state client request free kept in
    let first = before_reply state client request in
    let next = first.state in
    let then = mirror_after which limit link id part first.acts in
    let answer = reply_of next.world (context_of next) client request in
    let last = (reply_step next client request).state in
    subst (λ part. Has which part last) (sym (mirror-append which limit link id part first.acts (reply_step next client request).acts))
    (right-answers which limit link id next (client_link client) answer then (reply_link next client line request read) (reply_text next client line request read) tells.kept free
    (reply_plain limit link next client request (ap (λ clients. at_key client_link (client_link client) clients) (before_clients state client request) ∙ at) (tells.plain plain)) following stays had)

-- a limit that stays over a request does so over the reply, after what comes before that
stays_over : (limit : Option ℕ) (link : ℕ) (state : State) (line : List ℕ) (client : Client) (request : Request) → IsStateKept link state → request_of client.escaped line ≡ Some request
    → LimitStays limit state.world (reply_step (before_reply state client request).state client request).state.world
    → LimitStays limit (before_reply state client request).state.world (reply_step (before_reply state client request).state client request).state.world
stays_over limit link state line client request kept read stays =
    let tells = Tells-before Lines None link [] state client request tt kept in
    let next = (before_reply state client request).state in
    stays_second limit state.world next.world (reply_step next client request).state.world tells.counts (counts_replies link next line client request read tells.kept) stays

line_right : (which : HeldPart) (limit : Option ℕ) (link : ℕ) (id : List ℕ) (state : State) (k : ℕ) (line : List ℕ) (part : HeldOf which) → IsStateKept link state → BeginsWithout 95 id → length line ≤ 65536
    → AllByRecursion (IsFair which id) (asked_in link state (LineCame k line)) → IsPlain limit (client_on link state) → is_following limit (client_on link (step state (LineCame k line)).state) ≡ true
    → LimitStays limit state.world (step state (LineCame k line)).state.world → Has which part state
    → Has which (mirror_after which limit link id part (step state (LineCame k line)).acts) (step state (LineCame k line)).state
line_right which limit link id state k line part kept free within fair plain after stays had = came (at_key client_link k state.clients) refl after stays where
  served : (client : Client) (o : Option Request) → at_key client_link k state.clients ≡ Some client → request_of client.escaped line ≡ o
      → is_following limit (client_on link (request_step state client o).state) ≡ true → LimitStays limit state.world (request_step state client o).state.world → Has which (mirror_after which limit link id part (request_step state client o).acts) (request_step state client o).state
  served client None at read after stays = had
  served client (Some request) at read after stays =
      let own = λ (here : eqb (client_link client) link ≡ true). (subst (AllByRecursion (IsFair which id)) (asked_now link state k line client request at read here) fair).0 in
      let first = before_reply state client request in
      let next = first.state in
      let steps = asked_after state client request in
      let following = subst (λ (s : Stepped). is_following limit (client_on link s.state) ≡ true) steps after in
      let then = mirror_after which limit link id part first.acts in
      let tells = Tells-before which limit link id state client request free kept in
      let before = found k state client at in
      let then_stays = stays_over limit link state line client request kept read (subst (λ (s : Stepped). LimitStays limit state.world s.state.world) steps stays) in
      let suits = suits_before limit next.world (reply_step next client request).state.world then_stays in
      let had' : Has which then next = before_right which limit link id state client request part kept free before following had in
      subst (HasAfter which limit link id part) (sym steps)
      (replied which limit link id state k line client request part kept free read before plain following then_stays
      (sends_right which limit link id next (client_link client) (reply_of next.world (context_of next) client request).messages then
      (λ mine. reply_right which limit link id next client line request then tells.kept free within read (own mine) (all_told which state client request) suits had') (λ else. had')))

  came : (o : Option Client) → at_key client_link k state.clients ≡ o → is_following limit (client_on link (link_line_step state k line o).state) ≡ true → LimitStays limit state.world (link_line_step state k line o).state.world
      → Has which (mirror_after which limit link id part (link_line_step state k line o).acts) (link_line_step state k line o).state
  came None at after stays =
      let tells = Tells-line which limit link id free state k line (at_key server_link k state.servers) kept in
      tells.right (sym tells.following ∙ after) plain stays part had
  came (Some client) at after stays = served client (request_of client.escaped line) at refl after stays

-- ---- one event

lost_right : (which : HeldPart) (limit : Option ℕ) (link : ℕ) (id : List ℕ) (state : State) (k : ℕ) (why : Cause) (o : Option Client) (part : HeldOf which) → IsStateKept link state → BeginsWithout 95 id
    → IsPlain limit (client_on link state) → is_following limit (client_on link (link_loss_step state k why o).state) ≡ true → LimitStays limit state.world (link_loss_step state k why o).state.world → Has which part state
    → Has which (mirror_after which limit link id part (link_loss_step state k why o).acts) (link_loss_step state k why o).state
lost_right which limit link id state k why None part kept free plain after stays had =
    let tells = Tells-loss which limit link id free k why state (at_key server_link k state.servers) kept in
    tells.right (sym tells.following ∙ after) plain stays part had
lost_right which limit link id state k why (Some client) part kept free plain after stays had = had

pub step_mirrors : (which : HeldPart) → StepMirrors which
step_mirrors which limit link id state (Start moment) part kept free within fair plain after stays had =
    let tells = Tells-start which limit link id state moment free kept in
    tells.right (sym tells.following ∙ after) plain (begun_stays limit state moment (step state (Start moment)).state.world stays) part (begun_had which part state moment had)
step_mirrors which limit link id state (Tick moment) part kept free within fair plain after stays had =
    push_right which limit link id (ticked state moment) part (kept-ticked link state moment kept) free after had
step_mirrors which limit link id state (Arrives k nonce) part kept free within fair plain after stays had = by (nat_lt (length state.clients) (client_limit state.options)) where
  by : (b : Bool) → Has which (mirror_after which limit link id part (arrived state k nonce b).acts) (arrived state k nonce b).state
  by true = had
  by false = had
step_mirrors which limit link id state (LineCame k line) part kept free within fair plain after stays had = line_right which limit link id state k line part kept free within fair plain after stays had
step_mirrors which limit link id state (Stands k) part kept free within fair plain after stays had =
    let tells = Tells-stands which limit link id free state k (at_key server_link k state.servers) kept in
    tells.right (sym tells.following ∙ after) plain stays part had
step_mirrors which limit link id state (Ends k) part kept free within fair plain after stays had = lost_right which limit link id state k cause.Ended (at_key client_link k state.clients) part kept free plain after stays had
step_mirrors which limit link id state (Fails k) part kept free within fair plain after stays had = lost_right which limit link id state k cause.Failed (at_key client_link k state.clients) part kept free plain after stays had
step_mirrors which limit link id state (Breaks k) part kept free within fair plain after stays had = lost_right which limit link id state k cause.BadSocket (at_key client_link k state.clients) part kept free plain after stays had
step_mirrors which limit link id state ListenFails part kept free within fair plain after stays had = had

-- ---- the dump

line_dumps : (which : HeldPart) (limit : Option ℕ) (link : ℕ) (id : List ℕ) (state : State) (k : ℕ) (line : List ℕ) (part : HeldOf which) (dump : AskedFor) → IsStateKept link state → length line ≤ 65536
    → asked_in link state (LineCame k line) ≡ dump ∷ [] → TakesDump which id dump → IsPlain limit (client_on link state) → is_following limit (client_on link (step state (LineCame k line)).state) ≡ true
    → LimitStays limit state.world (step state (LineCame k line)).state.world
    → Has which (mirror_after which limit link id part (step state (LineCame k line)).acts) (step state (LineCame k line)).state
line_dumps which limit link id state k line part dump kept within e takes plain after stays = by (eqb k link) refl where
  none : List AskedFor
  none = []

  free : BeginsWithout 95 id
  free = subst (BeginsWithout 95) takes.under (asked_one link state (LineCame k line) dump none e).free

  served : (client : Client) (o : Option Request) → at_key client_link k state.clients ≡ Some client → request_of client.escaped line ≡ o → eqb k link ≡ true → asked_with client o ≡ dump ∷ []
      → is_following limit (client_on link (request_step state client o).state) ≡ true → LimitStays limit state.world (request_step state client o).state.world → Has which (mirror_after which limit link id part (request_step state client o).acts) (request_step state client o).state
  served client None at read here is after stays = absurd (let h = is in cc)
  served client (Some request) at read here is after stays =
      let whole : record { client = client; request = request } ≡ dump = cc in
      let taken = subst (TakesDump which id) (sym whole) takes in
      let key : eqb (client_link client) link ≡ true = ap (λ n. eqb n link) (at_key-key client_link k state.clients client at) ∙ here in
      let first = before_reply state client request in
      let next = first.state in
      let steps = asked_after state client request in
      let following = subst (λ (s : Stepped). is_following limit (client_on link s.state) ≡ true) steps after in
      let then = mirror_after which limit link id part first.acts in
      let tells = Tells-before which limit link id state client request free kept in
      let then_stays = stays_over limit link state line client request kept read (subst (λ (s : Stepped). LimitStays limit state.world s.state.world) steps stays) in
      let suits = suits_before limit next.world (reply_step next client request).state.world then_stays in
      subst (HasAfter which limit link id part) (sym steps)
      (replied which limit link id state k line client request part kept free read (found k state client at) plain following then_stays
      (sends_right which limit link id next (client_link client) (reply_of next.world (context_of next) client request).messages then
      (λ mine. dump_right which limit link id next client line request then tells.kept within read taken (all_told which state client request taken.logged_in taken.dump) suits)
      (λ else. absurd (let h : false ≡ true = sym else ∙ key in cc))))

  came : (o : Option Client) → at_key client_link k state.clients ≡ o → eqb k link ≡ true → asked_by line o ≡ dump ∷ [] → is_following limit (client_on link (link_line_step state k line o).state) ≡ true
      → LimitStays limit state.world (link_line_step state k line o).state.world → Has which (mirror_after which limit link id part (link_line_step state k line o).acts) (link_line_step state k line o).state
  came None at here is after stays = absurd (let h = is in cc)
  came (Some client) at here is after stays = served client (request_of client.escaped line) at refl here is after stays

  by : (b : Bool) → eqb k link ≡ b → Has which (mirror_after which limit link id part (step state (LineCame k line)).acts) (step state (LineCame k line)).state
  by true here = let o = at_key client_link k state.clients in came o refl here (sym (asked_here link k state line o here refl) ∙ e) after stays
  by false here = absurd (let h : none ≡ dump ∷ [] = sym (ap (λ b. cond b (asked_by line (client_on link state)) none) here) ∙ e in cc)

pub dump_mirrors : (which : HeldPart) → DumpMirrors which
dump_mirrors which limit link id state (Start moment) part dump kept within e takes plain after stays = absurd (let h = e in cc)
dump_mirrors which limit link id state (Tick moment) part dump kept within e takes plain after stays = absurd (let h = e in cc)
dump_mirrors which limit link id state (Arrives k nonce) part dump kept within e takes plain after stays = absurd (let h = e in cc)
dump_mirrors which limit link id state (LineCame k line) part dump kept within e takes plain after stays = line_dumps which limit link id state k line part dump kept within e takes plain after stays
dump_mirrors which limit link id state (Stands k) part dump kept within e takes plain after stays = absurd (let h = e in cc)
dump_mirrors which limit link id state (Ends k) part dump kept within e takes plain after stays = absurd (let h = e in cc)
dump_mirrors which limit link id state (Fails k) part dump kept within e takes plain after stays = absurd (let h = e in cc)
dump_mirrors which limit link id state (Breaks k) part dump kept within e takes plain after stays = absurd (let h = e in cc)
dump_mirrors which limit link id state ListenFails part dump kept within e takes plain after stays = absurd (let h = e in cc)
