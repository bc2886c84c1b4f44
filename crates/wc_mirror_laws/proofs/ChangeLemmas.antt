-- Changes reach the client that follows them, for each part that it may hold.
use Rattle.std.proofs.Common.{◌≡◌, ℕ, ◌≤◌, Bool, true, false, cond, List, [], ◌∷◌, ◌++◌, Option, Some, None, refl, sym, ap, subst, ◌∙◌, eqb, IsUtf8}
use Rattle.std.specs.Prelude.{unwrap_or}
use Rattle.std.specs.List.{AllByRecursion, flat_map}
use Rattle.std.proofs.lemmas.Bool.{false≢true}
use Rattle.std.proofs.lemmas.List.Elements.{All-nil}
use Rattle.wc_text.specs.declared.names.Handle.{Handle}
use Rattle.wc_buffers.specs.Calls.{entry_of, lacks_var}
use Rattle.wc_filters.specs.declared.filter.Filter.{Filter}
use Rattle.wc_filters.specs.declared.refused.FilterRefused.{FilterRefused}
use Rattle.wc_filters.specs.Kept.{new_filter, refusal_of as refusal_of_filter}
use Rattle.wc_model.specs.declared.change.Change.{Change}
use Rattle.wc_model.specs.declared.change.Flip.{Flip}
use Rattle.wc_model.specs.declared.change.What.{What}
use Rattle.wc_model.specs.declared.change.What.TheVariants.{SetVar}
use Rattle.wc_model.specs.declared.notice.Notice.{Notice}
use Rattle.wc_model.specs.declared.refused.ChangeRefused.{ChangeRefused}
use Rattle.wc_model.specs.World.{World}
use Rattle.wc_model.specs.Apply.{refusal, after}
use Rattle.wc_model.specs.Notices.{var_kind, kind_of, notice}
use Rattle.wc_model.specs.Parts.{parts_of}
use Rattle.wc_model.specs.Touches.{told_after}
use Rattle.wc_objects.specs.declared.object.WireMessage.{WireMessage}
use Rattle.wc_text.specs.Splits.{BeginsWithout}
use Rattle.wc_session.specs.declared.client.Client.{Client}
use Rattle.wc_session.specs.Event.{event_messages, part_told, parts_told, notice_told}
use Rattle.wc_session.specs.Sync.{follows, after_event}
use Rattle.wc_core.specs.Changing.{fitted_in, with_filters, refilter_step, add_filter_if, planned_step}
use Rattle.wc_core.specs.Fitted.{AreShown, flips_change, flips_everywhere}
use Rattle.wc_core.specs.News.{hotlist_after}
use Rattle.wc_core.specs.Resolved.{refusal_text, filter_text, no_such_filter, told_refusal}
use Rattle.wc_core.specs.State.{State, Act, Stepped}
use Rattle.wc_core.specs.Step.{client_link, no_step, then_does, sends, told_to, tell_all_step, made_step, change_step, change_step_if, refused, refusal_step, ask_step_if, ask_step, filters_step, filter_step}
use Rattle.wc_core.specs.declared.typed_filter.FilterChange.{FilterChange}
use Rattle.wc_core.specs.declared.typed_filter.FilterChange.TheVariants as filtering
use Rattle.wc_core.specs.Served.{messages_to}
use Rattle.wc_core.proofs.MessageLemmas.{messages_to-append}
use Rattle.wc_view.specs.NickFold.{NickPart}
use Rattle.wc_rules.specs.Plans.{filters_without, filters_switched}
use Rattle.wc_mirror_laws.proofs.FlipLemmas.{fitted_told, flips_accepted}
use Rattle.wc_mirror_laws.proofs.HotlistKept.{after_small}
use Rattle.wc_mirror_laws.proofs.HotlistNews.{news_change, rows_there}
use Rattle.wc_mirror_laws.specs.Held.{HeldPart, Lines, HeldOf, Has}
use Rattle.wc_view.specs.Views.{heard_parts, Suits}
use Rattle.wc_mirror_laws.specs.Settled.{client_on, is_following, IsPlain, LimitStays}
use Rattle.wc_mirror_laws.specs.Kept.{IsKeptWith, IsStateKept, IsKeptButFlags}
use Rattle.wc_mirror_laws.specs.Mirrors.{fold_all, mirror_after, ChangeKeeps, MadeKeeps, ChangeMirrors, FiltersKeep}
use Rattle.wc_mirror_laws.proofs.ClientLemmas.{following-heard, plain-heard, first-heard, sends_each, told-first, told_nothing, IsOwn, told_heard, messages-sends}
use Rattle.wc_mirror_laws.proofs.IdLemmas.{id_free}
use Rattle.wc_mirror_laws.proofs.HeldLemmas.{fold_all-append, parts_messages, change_right}
use Rattle.wc_mirror_laws.proofs.LimitLemmas.{Counts, counts_same, counts_after, counts_then, stays_first, stays_second, suits_before, suits_after}
use Rattle.wc_mirror_laws.proofs.ListLemmas.{all_more}
use Rattle.wc_mirror_laws.proofs.NewsLemmas.{News, change_means, news_stays, news_put, news_made, news_then}
use Rattle.wc_mirror_laws.proofs.NoticeLemmas.{IsTelling, telling, parts_telling}
use Rattle.wc_mirror_laws.proofs.PrintLemmas.{level_fits}
use Rattle.wc_mirror_laws.proofs.ShownLemmas.{shown-change, shown-refilter, shown-none, once-change}
use Rattle.wc_mirror_laws.proofs.TellingLemmas.{AllSpelt, event_spelt}
use Rattle.wc_mirror_laws.specs.Changes.{IsTold, IsAsked}
use Rattle.wc_mirror_laws.specs.Worlds.{IsWorldKept}
use Rattle.wc_mirror_laws.proofs.WorldLemmas.{limit_after, after_kept, limit_most, told_kept}

pub mirror-append : (which : HeldPart) (limit : Option ℕ) (link : ℕ) (id : List ℕ) (part : HeldOf which) (a b : List Act) → mirror_after which limit link id part (a ++ b) ≡ mirror_after which limit link id (mirror_after which limit link id part a) b
mirror-append which limit link id part a b =
    ap (fold_all which limit id part) (messages_to-append link a b) ∙ fold_all-append which limit id part (messages_to link a) (messages_to link b)

-- ---- the messages of acts

pub both_spelt : (a b : List WireMessage) → AllSpelt a → AllSpelt b → AllSpelt (a ++ b)
both_spelt [] b p q = q
both_spelt (m ∷ a) b p q = (p.0, both_spelt a b p.1 q)

pub acts_spelt : (link : ℕ) (a b : List Act) → AllSpelt (messages_to link a) → AllSpelt (messages_to link b) → AllSpelt (messages_to link (a ++ b))
acts_spelt link a b p q = subst AllSpelt (sym (messages_to-append link a b)) (both_spelt (messages_to link a) (messages_to link b) p q)

pub sends_spelt : (link k : ℕ) (messages : List WireMessage) → AllSpelt messages → AllSpelt (messages_to link (sends k messages))
sends_spelt link k messages all = subst AllSpelt (sym (messages-sends link k messages)) (by (eqb k link)) where
  by : (b : Bool) → AllSpelt (cond b messages [])
  by true = all
  by false = tt

told_spelt : (world : World) (parts : List Notice) (client : Client) → AllByRecursion (λ part. AllSpelt (event_messages world part)) parts → AllSpelt (parts_told world parts client)
unfolding part_told
told_spelt world [] client all = tt
told_spelt world (part ∷ parts) client all =
    both_spelt (part_told world part client) (parts_told world parts (after_event part.kind part.buffer.0 client)) (by (follows part.kind part.buffer.0 client)) (told_spelt world parts (after_event part.kind part.buffer.0 client) all.1)
  where
    by : (b : Bool) → AllSpelt (cond b (event_messages world part) [])
    by true = all.0
    by false = tt

pub clients_spelt : (link : ℕ) (told : Client → List WireMessage) (clients : List Client) → ((client : Client) → AllSpelt (told client)) → AllSpelt (messages_to link (sends_each told clients))
clients_spelt link told [] all = tt
clients_spelt link told (client ∷ clients) all =
    acts_spelt link (sends (client_link client) (told client)) (sends_each told clients) (sends_spelt link (client_link client) (told client) (all client)) (clients_spelt link told clients all)

-- ---- what is done

-- What is done to the state: what always holds does so still, each message keeps the rules, and a client that follows has
-- its part after it. A client that did not ask for lines that went did not do so afterwards, each change of the limit is
-- counted, and the hotlist means the lines that count.
pub record Tells (which : HeldPart) (limit : Option ℕ) (link : ℕ) (id : List ℕ) (state : State) (stepped : Stepped) : Type 0 where
  pub following : is_following limit (client_on link stepped.state) ≡ is_following limit (client_on link state)
  pub kept : IsStateKept link stepped.state
  pub plain : IsPlain limit (client_on link state) → IsPlain limit (client_on link stepped.state)
  pub counts : Counts state.world stepped.state.world
  pub spelt : AllSpelt (messages_to link stepped.acts)
  pub news : News state stepped
  pub right : is_following limit (client_on link state) ≡ true → IsPlain limit (client_on link state) → LimitStays limit state.world stepped.state.world → (part : HeldOf which) → Has which part state
      → Has which (mirror_after which limit link id part stepped.acts) stepped.state

pub Tells-stays : (which : HeldPart) (limit : Option ℕ) (link : ℕ) (id : List ℕ) (state : State) → IsStateKept link state → Tells which limit link id state (no_step state)
Tells-stays which limit link id state kept = record { following = refl; kept = kept; plain = λ plain. plain; counts = counts_same state.world; spelt = tt; news = news_stays state; right = λ follows plain stays part had. had }

pub Tells-then : (which : HeldPart) (limit : Option ℕ) (link : ℕ) (id : List ℕ) (state : State) (first : Stepped) (others : State → Stepped) → Tells which limit link id state first → Tells which limit link id first.state (others first.state)
    → Tells which limit link id state (then_does first others)
Tells-then which limit link id state first others a b = record {
  following = b.following ∙ a.following;
  kept = b.kept;
  plain = λ plain. b.plain (a.plain plain);
  counts = counts_then state.world first.state.world (others first.state).state.world a.counts b.counts;
  spelt = acts_spelt link first.acts (others first.state).acts a.spelt b.spelt;
  news = news_then state first others a.news b.news;
  right = λ follows plain stays part had.
      let last = (others first.state).state in
      let here = stays_first limit state.world first.state.world last.world b.counts stays in
      let then = stays_second limit state.world first.state.world last.world a.counts b.counts stays in
      subst (λ part. Has which part last) (sym (mirror-append which limit link id part first.acts (others first.state).acts))
      (b.right (a.following ∙ follows) (a.plain plain) then (mirror_after which limit link id part first.acts) (a.right follows plain here part had));
}

-- ---- a change

own_var : (b : Bool) → IsOwn (var_kind b)
own_var true = tt
own_var false = tt

-- no change is told as lines that went alone
own_kind : (w : World) (h : Handle) (a : What) → IsOwn (kind_of w h a)
own_kind w h (SetVar var) = own_var (lacks_var var.name (entry_of h w.groups))
own_kind w h _ = tt

-- the messages that the client of a link is sent, where it follows all events
told_event : (limit : Option ℕ) (link : ℕ) (state : State) (told : NickPart) (world : World) (n : Notice) → IsStateKept link state → IsOwn n.kind → is_following limit (client_on link state) ≡ true → IsPlain limit (client_on link state)
    → messages_to link (tell_all_step state told world n).acts ≡ parts_messages world (heard_parts limit world n)
told_event limit link state told world n kept own follows plain = by (client_on link state) refl follows plain where
  by : (o : Option Client) → client_on link state ≡ o → is_following limit o ≡ true → IsPlain limit o → messages_to link (flat_map (told_to world n) state.clients) ≡ parts_messages world (heard_parts limit world n)
  by None at e plain = absurd (false≢true e)
  by (Some client) at e plain = told-first link (notice_told world n) (told_nothing world n) state.clients client kept.first at ∙ told_heard limit world n client own e plain

-- a change leaves a client that had a part with it, where its limit is that of the world before and after
change_has : (which : HeldPart) (limit : Option ℕ) (link : ℕ) (id : List ℕ) (state : State) (change : Change) (part : HeldOf which) → IsStateKept link state → BeginsWithout 95 id → IsTold change.what
    → refusal state.world change ≡ None → is_following limit (client_on link state) ≡ true → IsPlain limit (client_on link state) → Suits limit state.world → Suits limit (after state.world change) → Has which part state
    → Has which (mirror_after which limit link id part (made_step state change).acts) (made_step state change).state
change_has which limit link id state change part kept free told good follows plain before then had =
    let w = state.world in
    let v = after w change in
    let new = (made_step state change).state in
    let event = told_event limit link state (told_after w change.buffer change.what state.told) v (notice w change) kept (own_kind w change.buffer change.what) follows plain in
    subst (λ part. Has which part new) (sym (ap (fold_all which limit id part) event))
    (change_right which limit id part state change kept.most kept.world kept.told told (id_free id free) good before then had)

-- A change that is made as it is keeps what always holds, where this is said of the flags afterwards.
made_kept : (Flags Later : Type 0) (link : ℕ) (state : State) (filters : List Filter) (change : Change) → IsKeptWith Flags link state → IsTold change.what → refusal state.world change ≡ None
    → Later → IsKeptWith Later link (made_step (with_filters state filters) change).state
made_kept Flags Later link state filters change kept told good later =
    let w = state.world in
    let v = after w change in
    let n = notice w change in
    let is = after_kept w.limit w change.buffer change.what kept.world told good in
    let tells = telling w.limit w change.buffer change.what kept.most kept.world told good in
    let most = limit_most w.limit change.what told kept.most in
    let news = news_change w.limit w change.buffer change.what state.told state.hotlist kept.world told good kept.told kept.news in
    record {
      most = subst (λ n. n ≤ 4096) (sym is.same) most;
      texts = kept.texts;
      rows = after_small w state.hotlist change.buffer change.what tells.buffer kept.rows;
      news = news;
      there = rows_there v.groups (hotlist_after state.hotlist change.buffer change.what) news;
      world = subst (λ n. IsWorldKept n v) (sym is.same) is;
      once = once-change w.limit w change kept.world kept.once;
      shown = later;
      told = told_kept w.limit w change.buffer change.what state.told kept.world told good kept.told;
      first = first-heard n.kind n.buffer.0 link state.clients kept.first;
    }

-- A change that is made as it is, by which each line has the flag that these filters give. What is sent is that of the
-- filters before.
Tells-made : (which : HeldPart) (limit : Option ℕ) (link : ℕ) (id : List ℕ) (state : State) (filters : List Filter) (change : Change) → BeginsWithout 95 id → IsStateKept link state → IsTold change.what → refusal state.world change ≡ None
    → AreShown filters (after state.world change) → Tells which limit link id state (made_step (with_filters state filters) change)
Tells-made which limit link id state filters change free kept told good shown =
    let w = state.world in
    let v = after w change in
    let n = notice w change in
    let is = after_kept w.limit w change.buffer change.what kept.world told good in
    let tells = telling w.limit w change.buffer change.what kept.most kept.world told good in
    let counts = counts_after w change.buffer change.what in
    let next = (made_step (with_filters state filters) change).state in
    record {
      following = following-heard limit n.kind n.buffer.0 link state.clients;
      kept = made_kept (AreShown state.filters w) (AreShown filters v) link state filters change kept told good shown;
      plain = plain-heard limit n.kind n.buffer.0 link state.clients;
      counts = counts;
      spelt = clients_spelt link (notice_told v n) state.clients
          (λ client. told_spelt v (parts_of v n) client (all_more IsTelling (λ part. AllSpelt (event_messages v part)) (parts_of v n) (λ part tells. event_spelt (limit_after w.limit change.what) v part is tells) (parts_telling (limit_after w.limit change.what) v n is tells)));
      news = news_made state next change (flat_map (told_to v n) state.clients) refl (λ pairs means. change_means w.limit w change.buffer change.what state.hotlist pairs kept.world told good kept.news means);
      right = λ follows plain stays part had.
          change_has which limit link id state change part kept free told good follows plain (suits_before limit w v stays) (suits_after limit w v counts stays) had;
    }

-- a change that is asked, with the flags that the filters give
pub Tells-changes : (which : HeldPart) (limit : Option ℕ) (link : ℕ) (id : List ℕ) (state : State) (change : Change) → BeginsWithout 95 id → IsStateKept link state → IsAsked change.what
    → refused state change ≡ None → Tells which limit link id state (change_step state change)
Tells-changes which limit link id state change free kept asked good =
    Tells-made which limit link id state state.filters (fitted_in state change) free kept (fitted_told state.filters state.world change.buffer change.what asked) good
    (shown-change state.world.limit state.filters state.world change kept.world kept.once kept.shown asked good)

-- other filters, with the flags that differ by them
Tells-flips : (which : HeldPart) (limit : Option ℕ) (link : ℕ) (id : List ℕ) (state : State) (filters : List Filter) (flips : List Flip) → BeginsWithout 95 id → IsStateKept link state → flips ≡ flips_everywhere filters state.world
    → Tells which limit link id state (refilter_step state filters flips)
Tells-flips which limit link id state filters [] free kept e = record {
  following = refl;
  kept = record { most = kept.most; world = kept.world; once = kept.once; shown = shown-none filters state.world (sym e); told = kept.told; texts = kept.texts; rows = kept.rows; news = kept.news; there = kept.there; first = kept.first };
  plain = λ plain. plain;
  counts = counts_same state.world;
  spelt = tt;
  news = news_put state (with_filters state filters) [] refl refl;
  right = λ follows plain stays part had. had;
}
Tells-flips which limit link id state filters (flip ∷ flips) free kept e =
    Tells-made which limit link id state filters (flips_change (flip ∷ flips)) free kept tt
    (subst (λ flips. refusal state.world (flips_change flips) ≡ None) (sym e) (flips_accepted filters state.world))
    (subst (λ flips. AreShown filters (after state.world (flips_change flips))) (sym e) (shown-refilter state.world.limit filters state.world kept.world kept.once))

Tells-filters : (which : HeldPart) (limit : Option ℕ) (link : ℕ) (id : List ℕ) (state : State) (filters : List Filter) → BeginsWithout 95 id → IsStateKept link state → Tells which limit link id state (filters_step state filters)
Tells-filters which limit link id state filters free kept = Tells-flips which limit link id state filters (flips_everywhere filters state.world) free kept refl

pub change_keeps : ChangeKeeps
change_keeps link state change kept asked good = (Tells-changes Lines None link [] state change tt kept asked good).kept

pub made_keeps : MadeKeeps
made_keeps link state change kept told good = made_kept (Unit {0}) (Unit {0}) link state state.filters change kept told good tt

pub filters_keep : FiltersKeep
filters_keep link state filters kept = (Tells-filters Lines None link [] state filters tt kept).kept

pub change_mirrors : (which : HeldPart) → ChangeMirrors which
change_mirrors which limit link id state change part kept free told good plain follows before then had = change_has which limit link id state change part kept free told good follows plain before then had

-- a refusal that is told
pub Tells-tells : (which : HeldPart) (limit : Option ℕ) (link : ℕ) (id : List ℕ) (state : State) (text : List ℕ) → BeginsWithout 95 id → IsStateKept link state → Tells which limit link id state (refusal_step state text)
Tells-tells which limit link id state text free kept = by (refused state (told_refusal state.moment text)) refl where
  by : (o : Option ChangeRefused) → refused state (told_refusal state.moment text) ≡ o → Tells which limit link id state (change_step_if state (told_refusal state.moment text) o)
  by None good = Tells-changes which limit link id state (told_refusal state.moment text) free kept (All-nil IsUtf8, level_fits [] false) good
  by (Some reason) good = Tells-stays which limit link id state kept

pub Tells-asks : (which : HeldPart) (limit : Option ℕ) (link : ℕ) (id : List ℕ) (state : State) (change : Change) → BeginsWithout 95 id → IsStateKept link state → IsAsked change.what → Tells which limit link id state (ask_step state change)
Tells-asks which limit link id state change free kept asked = by (refused state change) refl where
  by : (o : Option ChangeRefused) → refused state change ≡ o → Tells which limit link id state (ask_step_if state change o)
  by None good = Tells-changes which limit link id state change free kept asked good
  by (Some reason) good = Tells-tells which limit link id state (refusal_text reason) free kept

-- ---- filters

Tells-adds : (which : HeldPart) (limit : Option ℕ) (link : ℕ) (id : List ℕ) (state : State) (filter : Filter) (o : Option FilterRefused) → BeginsWithout 95 id → IsStateKept link state → Tells which limit link id state (add_filter_if state filter o)
Tells-adds which limit link id state filter None free kept = Tells-filters which limit link id state (state.filters ++ filter ∷ []) free kept
Tells-adds which limit link id state filter (Some reason) free kept = Tells-tells which limit link id state (filter_text filter.name reason) free kept

Tells-plans : (which : HeldPart) (limit : Option ℕ) (link : ℕ) (id : List ℕ) (state : State) (name : List ℕ) (o : Option (List Filter)) → BeginsWithout 95 id → IsStateKept link state → Tells which limit link id state (planned_step state name o)
Tells-plans which limit link id state name None free kept = Tells-tells which limit link id state (no_such_filter name) free kept
Tells-plans which limit link id state name (Some filters) free kept = Tells-filters which limit link id state filters free kept

pub Tells-refilters : (which : HeldPart) (limit : Option ℕ) (link : ℕ) (id : List ℕ) (state : State) (change : FilterChange) → BeginsWithout 95 id → IsStateKept link state → Tells which limit link id state (filter_step state change)
Tells-refilters which limit link id state (filtering.Add name buffers tags pattern) free kept =
    Tells-adds which limit link id state (new_filter name buffers tags pattern) (refusal_of_filter state.oracle state.filters name pattern) free kept
Tells-refilters which limit link id state (filtering.Delete name) free kept = Tells-plans which limit link id state name (filters_without name state.filters) free kept
Tells-refilters which limit link id state (filtering.Switch name switch) free kept = Tells-plans which limit link id state (unwrap_or name []) (filters_switched name switch state.filters) free kept
