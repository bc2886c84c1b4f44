-- What a reply leaves of what a client has.
use Rattle.std.proofs.Common.{◌≡◌, ℕ, ◌≤◌, Bool, true, false, cond, ◌||◌, List, [], ◌∷◌, length, codes, Some, None, refl, sym, ap, subst, ◌∙◌, arith, eqb, bytes_eq}
use Rattle.std.specs.Prelude.{Option, Result, Ok, Err}
use Rattle.std.proofs.lemmas.Bool.{false≢true, and_parts}
use Rattle.std.proofs.lemmas.Slice.Eq.{bytes_eq-Decides}
use Rattle.wc_text.specs.declared.names.Cause.TheVariants as cause
use Rattle.wc_model.specs.World.{World}
use Rattle.wc_objects.specs.declared.object.Object.{Object}
use Rattle.wc_objects.specs.declared.object.WireMessage.{WireMessage}
use Rattle.wc_relaycmd.specs.declared.request.Command.{Command}
use Rattle.wc_relaycmd.specs.declared.request.Command.TheVariants as ask
use Rattle.wc_relaycmd.specs.declared.request.Request.{Request}
use Rattle.wc_relaycmd.specs.Answers.{request_of}
use Rattle.wc_text.specs.Splits.{BeginsWithout}
use Rattle.wc_hdata.specs.Dumps.{buffers_text}
use Rattle.wc_session.specs.declared.client.Client.{Client}
use Rattle.wc_session.specs.OneReply.{AtMostOne, id_of_reply}
use Rattle.wc_session.specs.Reply.{dump_asked, is_line_dump, is_open, leaves, served, reply_of}
use Rattle.wc_session.specs.Sending.{message, fits, reply}
use Rattle.wc_session.proofs.OneReplyLaws.{one_reply}
use Rattle.wc_session.proofs.SendingLemmas.{fits_within}
use Rattle.wc_session.specs.RequestContext.{Context}
use Rattle.wc_session.proofs.DumpReplies.{IsWalkable, dump_told}
use Rattle.wc_view.specs.BufferFold.{kind_named}
use Rattle.wc_view.specs.NickFold.{NickPart}
use Rattle.wc_view.specs.Views.{Suits}
use Rattle.wc_core.specs.Contexts.{context_of}
use Rattle.wc_core.specs.State.{State}
use Rattle.wc_core.specs.Step.{sends}
use Rattle.wc_mirror_laws.specs.Held.{HeldPart, Lines, Buffers, Nicks, HeldOf, asks_dump, fold_unrefused, fold_one, Has}
use Rattle.wc_mirror_laws.specs.Roots.{RootPart, fold_roots}
use Rattle.wc_mirror_laws.specs.Settled.{TakesDump, IsFair}
use Rattle.wc_mirror_laws.specs.Kept.{IsStateKept}
use Rattle.wc_mirror_laws.specs.Mirrors.{fold_all, mirror_after}
use Rattle.wc_mirror_laws.specs.Worlds.{IsWorldKept}
use Rattle.wc_mirror_laws.proofs.DumpLemmas.{few_groups}
use Rattle.wc_mirror_laws.proofs.HandleLemmas.{rows_handles}
use Rattle.wc_mirror_laws.proofs.HeldLemmas.{dump_of, dump_short, IsAllTold, dump_shown}
use Rattle.wc_mirror_laws.proofs.IdLemmas.{request_free, request_size, event_apart, apart_event}
use Rattle.wc_mirror_laws.proofs.ClientLemmas.{messages-sends}
use Rattle.wc_mirror_laws.proofs.WorldLemmas.{once}

-- ---- a reply under another id

-- an id that is none of those that are folded
pub record IsOther (id other : List ℕ) : Type 0 where
  pub dump : bytes_eq other id ≡ false
  pub added : bytes_eq other (codes "_buffer_line_added") ≡ false
  pub closing : bytes_eq other (codes "_buffer_closing") ≡ false
  pub cleared : bytes_eq other (codes "_buffer_cleared") ≡ false
  pub flags : bytes_eq other (codes "_buffer_line_data_changed") ≡ false
  pub trims : bytes_eq other (codes "_buffer_lines_trimmed") ≡ false
  pub opened : bytes_eq other (codes "_buffer_opened") ≡ false
  pub nicklist : bytes_eq other (codes "_nicklist") ≡ false
  pub diff : bytes_eq other (codes "_nicklist_diff") ≡ false
  pub buffers : kind_named other ≡ None

unread : (id : List ℕ) (rows : Result (Option NickPart) ℕ) (m : WireMessage) → IsOther id m.id → fold_unrefused id rows m ≡ rows
unread id (Ok part) m is = rw (is.dump, is.diff, is.nicklist, is.opened, is.closing) refl
unread id (Err place) m is = rw is.dump refl

unrooted : (id : List ℕ) (roots : RootPart) (m : WireMessage) → IsOther id m.id → fold_roots id roots m ≡ roots
unrooted id roots m is = rw (is.dump, is.diff, is.nicklist, is.closing) refl

-- a message under such an id changes nothing
passed : (which : HeldPart) (limit : Option ℕ) (id : List ℕ) (part : HeldOf which) (m : WireMessage) → IsOther id m.id → fold_one which limit id part m ≡ part
passed Lines limit id part m is = rw (is.dump, is.added, is.closing, is.cleared, is.flags, is.trims) refl
passed Buffers limit id part m is = rw (is.dump, is.buffers) refl
passed Nicks limit id held m is = λ i. record { rows = unread id held.rows m is i; roots = unrooted id held.roots m is i }

unmoved : (which : HeldPart) (limit : Option ℕ) (id other : List ℕ) (part : HeldOf which) (messages : List WireMessage) → AtMostOne other messages → IsOther id other → fold_all which limit id part messages ≡ part
unmoved which limit id other part [] one is = refl
unmoved which limit id other part (m ∷ []) one is = passed which limit id part m (subst (IsOther id) (sym one) is)
unmoved which limit id other part (m ∷ n ∷ messages) one is = absurd one

-- the id of a request, and that of its reply
reply_other : (id other : List ℕ) (command : Command) → IsOther id other → bytes_eq (codes "_pong") id ≡ false → IsOther id (id_of_reply other command)
reply_other id other (ask.Ping text) is pong = record { dump = pong; added = refl; closing = refl; cleared = refl; flags = refl; trims = refl; opened = refl; nicklist = refl; diff = refl; buffers = refl }
reply_other id other _ is pong = is

no_kind : (other : List ℕ) → BeginsWithout 95 other → kind_named other ≡ None
no_kind other free =
    rw (
      apart_event (codes "buffer_opened") other free,
      apart_event (codes "buffer_moved") other free,
      apart_event (codes "buffer_merged") other free,
      apart_event (codes "buffer_unmerged") other free,
      apart_event (codes "buffer_hidden") other free,
      apart_event (codes "buffer_unhidden") other free,
      apart_event (codes "buffer_renamed") other free,
      apart_event (codes "buffer_title_changed") other free,
      apart_event (codes "buffer_localvar_added") other free,
      apart_event (codes "buffer_localvar_changed") other free,
      apart_event (codes "buffer_localvar_removed") other free,
      apart_event (codes "buffer_closing") other free,
    ) refl

free_other : (id other : List ℕ) → BeginsWithout 95 other → bytes_eq other id ≡ false → IsOther id other
free_other id other free apart = record {
  dump = apart;
  added = apart_event (codes "buffer_line_added") other free;
  closing = apart_event (codes "buffer_closing") other free;
  cleared = apart_event (codes "buffer_cleared") other free;
  flags = apart_event (codes "buffer_line_data_changed") other free;
  trims = apart_event (codes "buffer_lines_trimmed") other free;
  opened = apart_event (codes "buffer_opened") other free;
  nicklist = apart_event (codes "nicklist") other free;
  diff = apart_event (codes "nicklist_diff") other free;
  buffers = no_kind other free;
}

other_reply : (which : HeldPart) (limit : Option ℕ) (id : List ℕ) (state : State) (client : Client) (line : List ℕ) (request : Request) (part : HeldOf which) → BeginsWithout 95 id
    → request_of client.escaped line ≡ Some request → bytes_eq request.id id ≡ false → fold_all which limit id part (reply_of state.world (context_of state) client request).messages ≡ part
other_reply which limit id state client line request part free read other =
    unmoved which limit id (id_of_reply request.id request.command) part (reply_of state.world (context_of state) client request).messages (one_reply state.world (context_of state) client request)
    (reply_other id request.id request.command (free_other id request.id (request_free line client.escaped request read) other) (event_apart (codes "pong") id free))

-- ---- the dump

walkable : (limit : ℕ) (world : World) → limit ≤ 4096 → IsWorldKept limit world → IsWalkable world
walkable limit world most is = record {
  once = once limit world is;
  groups = few_groups limit world is;
  buffers = (let few = is.groups.few in omega (arith, few, rows_handles world.groups));
  short = λ h. let within = is.within h in omega arith;
}

dump_is_asked : (which : HeldPart) (world : World) (command : Command) → asks_dump which command ≡ true → dump_asked world command ≡ Some (dump_of which world)
unfolding dump_asked
dump_is_asked Lines world (ask.Hdata path keys) e = rw e refl
dump_is_asked Lines world _ e = absurd (false≢true e)
dump_is_asked Buffers world (ask.Hdata path keys) e =
    let same = (bytes_eq-Decides path buffers_text).0 (and_parts (bytes_eq path buffers_text) _ e).0 in
    let other : is_line_dump path keys ≡ false = ap (λ p. is_line_dump p keys) same in
    rw (other, e) refl
dump_is_asked Buffers world _ e = absurd (false≢true e)
dump_is_asked Nicks world (ask.Nicklist None) e = refl
dump_is_asked Nicks world _ e = absurd (false≢true e)

reply_one : (id : List ℕ) (objects : List Object) → fits (message id objects) ≡ true → reply id objects ≡ message id objects ∷ []
unfolding reply
reply_one id objects e = rw e refl

-- the dump is the one message that its request gets
reply_dump : (which : HeldPart) (world : World) (context : Context) (client : Client) (request : Request) → IsWalkable world → client.logged_in ≡ true → asks_dump which request.command ≡ true
    → fits (message request.id (dump_of which world)) ≡ true → (reply_of world context client request).messages ≡ message request.id (dump_of which world) ∷ []
reply_dump which world context client request is logged e fit =
    dump_told world context client request (dump_of which world) is logged (dump_is_asked which world request.command e) ∙ reply_one request.id (dump_of which world) fit

-- before login it gets none
closed_dump : (which : HeldPart) (command : Command) → asks_dump which command ≡ true → is_open command ≡ false
closed_dump Lines (ask.Hdata path keys) e = refl
closed_dump Lines _ e = absurd (false≢true e)
closed_dump Buffers (ask.Hdata path keys) e = refl
closed_dump Buffers _ e = absurd (false≢true e)
closed_dump Nicks (ask.Nicklist buffer) e = refl
closed_dump Nicks _ e = absurd (false≢true e)

early_dump : (which : HeldPart) (world : World) (context : Context) (client : Client) (request : Request) → client.logged_in ≡ false → asks_dump which request.command ≡ true
    → (reply_of world context client request).messages ≡ []
unfolding reply_of
early_dump which world context client request early e =
    ap (λ b. (cond (b || is_open request.command) (served world context client request.id request.command) (leaves client cause.LoginFailed)).messages) early
    ∙ ap (λ b. (cond b (served world context client request.id request.command) (leaves client cause.LoginFailed)).messages) (closed_dump which request.command e)

-- the dump shows its part, whatever the client had
pub dump_right : (which : HeldPart) (limit : Option ℕ) (link : ℕ) (id : List ℕ) (state : State) (client : Client) (line : List ℕ) (request : Request) (part : HeldOf which) → IsStateKept link state → length line ≤ 65536
    → request_of client.escaped line ≡ Some request → TakesDump which id (record { client = client; request = request }) → IsAllTold which state → Suits limit state.world
    → Has which (fold_all which limit id part (reply_of state.world (context_of state) client request).messages) state
dump_right which limit link id state client line request part kept within read takes all suits =
    let size = request_size line client.escaped request read in
    let fit = fits_within (message request.id (dump_of which state.world)) (dump_short which state.world.limit request.id state.world (omega arith) kept.most kept.world) in
    let told = reply_dump which state.world (context_of state) client request (walkable state.world.limit state.world kept.most kept.world) takes.logged_in takes.dump fit ∙ ap (λ id. message id (dump_of which state.world) ∷ []) takes.under in
    subst (λ part. Has which part state) (sym (ap (fold_all which limit id part) told)) (dump_shown which limit id part state kept.most kept.world suits all)

-- ---- any reply

-- a reply leaves a client that has a part with it
pub reply_right : (which : HeldPart) (limit : Option ℕ) (link : ℕ) (id : List ℕ) (state : State) (client : Client) (line : List ℕ) (request : Request) (part : HeldOf which) → IsStateKept link state → BeginsWithout 95 id → length line ≤ 65536
    → request_of client.escaped line ≡ Some request → IsFair which id (record { client = client; request = request }) → (client.logged_in ≡ true → asks_dump which request.command ≡ true → IsAllTold which state) → Suits limit state.world → Has which part state
    → Has which (fold_all which limit id part (reply_of state.world (context_of state) client request).messages) state
reply_right which limit link id state client line request part kept free within read fair all suits had = by (bytes_eq request.id id) client.logged_in refl refl where
  messages : List WireMessage
  messages = (reply_of state.world (context_of state) client request).messages

  by : (same logged : Bool) → bytes_eq request.id id ≡ same → client.logged_in ≡ logged → Has which (fold_all which limit id part messages) state
  by true true e logged =
      dump_right which limit link id state client line request part kept within read (record { logged_in = logged; dump = fair e; under = (bytes_eq-Decides request.id id).0 e }) (all logged (fair e)) suits
  by true false e early =
      subst (λ part. Has which part state) (sym (ap (fold_all which limit id part) (early_dump which state.world (context_of state) client request early (fair e)))) had
  by false logged e was = subst (λ part. Has which part state) (sym (other_reply which limit id state client line request part free read e)) had

-- what is sent to the client of one link
pub sends_right : (which : HeldPart) (limit : Option ℕ) (link : ℕ) (id : List ℕ) (state : State) (k : ℕ) (messages : List WireMessage) (part : HeldOf which)
    → (eqb k link ≡ true → Has which (fold_all which limit id part messages) state) → (eqb k link ≡ false → Has which part state)
    → Has which (mirror_after which limit link id part (sends k messages)) state
sends_right which limit link id state k messages part here else =
    subst (λ messages. Has which (fold_all which limit id part messages) state) (sym (messages-sends link k messages)) (by (eqb k link) refl)
  where
    none : List WireMessage
    none = []

    by : (b : Bool) → eqb k link ≡ b → Has which (fold_all which limit id part (cond b messages none)) state
    by true e = here e
    by false e = else e
