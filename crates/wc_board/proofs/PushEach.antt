-- Connections of which each gets its pushes, or leaves for want of memory.
use Rattle.std.proofs.Common.{◌≡◌, ℕ, suc, arith, length, filter, Bool, true, false, cond, ◌&&◌, ◌||◌, ◌≤◌, List, [], ◌∷◌, ◌++◌, inl, inr, Some, refl, ap, sym, subst, ◌∙◌}
use Rattle.std.specs.Prelude.{map}
use Rattle.std.specs.List.{list_any}
use Rattle.std.specs.Option.{is_none}
use Rattle.std.proofs.lemmas.Bool.{false≢true}
use Rattle.wc_text.specs.declared.names.Cause.TheVariants.{NoMemory}
use Rattle.wc_text.specs.declared.names.Handle.{Handle}
use Rattle.wc_nicklist.specs.declared.item.Row.{Row}
use Rattle.wc_nickdiff.specs.declared.diff_item.Push.{Push}
use Rattle.wc_nickdiff.specs.declared.diff_item.Push.TheVariants.{Nothing, Diff, Full}
use Rattle.wc_model.specs.declared.notice.EventKind.{EventKind}
use Rattle.wc_model.specs.declared.notice.EventKind.TheVariants.{NicklistDiff}
use Rattle.wc_model.specs.World.{World}
use Rattle.wc_objects.specs.declared.object.WireMessage.{WireMessage}
use Rattle.wc_events.specs.NickObjects.{push_kind}
use Rattle.wc_session.specs.declared.client.Client.{Client}
use Rattle.wc_session.specs.Event.{Spelled, IsPushOf, push_messages, push_told}
use Rattle.wc_session.specs.Sync.{follows, after_event}
use Rattle.wc_board.specs.declared.connection.Connection.{Connection}
use Rattle.wc_board.specs.Connections.{is_open}
use Rattle.wc_board.specs.Pushes.{follows_nicks, push_of, pushes_told, sent_connection, push_connection, pushed_connection, PushedOrLeft, EachPushed}
use Rattle.wc_board.specs.Served.{heard_connection, starved_connection, ConnectionServed, ConnectionsServed}
use Rattle.wc_board.proofs.PushConnections.{put_bytes, spelt, sent_none, sent_client, pushed_first, pushed_more, heard_push, push_heard}

pub each_map : (ns : List ℕ) (push : Connection → Connection) (connections : List Connection) → EachPushed ns push connections (map push connections)
each_map ns push [] = tt
each_map ns push (connection ∷ connections) = (inl refl, each_map ns push connections)

-- ---- one push after another

sent_opens : (messages : List WireMessage) (connection : Connection) → is_open (sent_connection messages connection) ≡ is_open connection
sent_opens messages connection = by (is_open connection) where
  by : (b : Bool) → is_open (cond b (put_bytes connection (connection.session.unsent ++ spelt messages)) connection) ≡ is_open connection
  by true = refl
  by false = refl

sent_shut : (messages : List WireMessage) (connection : Connection) → is_open connection ≡ false → sent_connection messages connection ≡ connection
sent_shut messages connection shut = ap (λ b. cond b (put_bytes connection (connection.session.unsent ++ spelt messages)) connection) shut

-- a push that leaves who is leaving alone, lets no one leave, and changes nothing that is asked for
pub record IsPush (push : Connection → Connection) : Type 0 where
  pub opens : (connection : Connection) → is_open (push connection) ≡ is_open connection
  pub shut : (connection : Connection) → is_open connection ≡ false → push connection ≡ connection
  pub client : (connection : Connection) → (push connection).session.client ≡ connection.session.client

one_is : (b : Handle) (push : Push) → IsPush (push_connection b push)
one_is b push = record {
  opens = λ c. sent_opens (push_told b push c.session.client) c;
  shut = λ c. sent_shut (push_told b push c.session.client) c;
  client = λ c. sent_client (push_told b push c.session.client) c;
}

pub all_is : (w : World) (told : ℕ → List Row) (ns : List ℕ) → IsPush (pushed_connection w told ns)
all_is w told ns = record {
  opens = λ c. sent_opens (pushes_told w told ns c.session.client) c;
  shut = λ c. sent_shut (pushes_told w told ns c.session.client) c;
  client = λ c. sent_client (pushes_told w told ns c.session.client) c;
}

any_left : (p : ℕ → Bool) (ms ns : List ℕ) → list_any p ms ≡ true → list_any p (ms ++ ns) ≡ true
any_left p [] ns e = absurd (false≢true e)
any_left p (m ∷ ms) ns e = by (p m) e (any_left p ms ns) where
  by : (t : Bool) → (t || list_any p ms) ≡ true → (list_any p ms ≡ true → list_any p (ms ++ ns) ≡ true) → (t || list_any p (ms ++ ns)) ≡ true
  by true e more = refl
  by false e more = more e

any_right : (p : ℕ → Bool) (ms ns : List ℕ) → list_any p ns ≡ true → list_any p (ms ++ ns) ≡ true
any_right p [] ns e = e
any_right p (m ∷ ms) ns e = by (p m) (any_right p ms ns e) where
  by : (t : Bool) → list_any p (ms ++ ns) ≡ true → (t || list_any p (ms ++ ns)) ≡ true
  by true more = refl
  by false more = more

-- the pushes of some buffers, and then those of others
module _ (ms ns : List ℕ) (f g h : Connection → Connection) (whole : (s : Connection) → f s ≡ h (g s)) (first : IsPush g) (next : IsPush h) where
  one_then : (a b c : Connection) → PushedOrLeft ms g a b → PushedOrLeft ns h b c → PushedOrLeft (ms ++ ns) f a c
  one_then a b c (inl e) (inl q) = inl (q ∙ ap h e ∙ sym (whole a))
  one_then a b c (inl e) (inr l) =
      let same : b.session.client ≡ a.session.client = ap (λ (s : Connection). s.session.client) e ∙ first.client a in
      inr (record {
        opened = sym (first.opens a) ∙ ap is_open (sym e) ∙ l.opened;
        asked = any_right (follows_nicks a.session.client) ms ns (sym (ap (λ client. list_any (follows_nicks client) ns) same) ∙ l.asked);
        leaving = l.leaving;
      })
  one_then a b c (inr l) (inl q) = inr (record {
    opened = l.opened;
    asked = any_left (follows_nicks a.session.client) ms ns l.asked;
    leaving = ap (λ (s : Connection). s.leaving) (q ∙ next.shut b (ap is_none l.leaving)) ∙ l.leaving;
  })
  one_then a b c (inr l) (inr m) = inr (record {
    opened = l.opened;
    asked = any_left (follows_nicks a.session.client) ms ns l.asked;
    leaving = m.leaving;
  })

  each_then : (old mid new : List Connection) → EachPushed ms g old mid → EachPushed ns h mid new → EachPushed (ms ++ ns) f old new
  each_then [] [] [] p q = tt
  each_then [] [] (c ∷ new) p q = absurd q
  each_then [] (b ∷ mid) new p q = absurd p
  each_then (a ∷ old) [] new p q = absurd p
  each_then (a ∷ old) (b ∷ mid) [] p q = absurd q
  each_then (a ∷ old) (b ∷ mid) (c ∷ new) p q = (one_then a b c p.0 q.0, each_then old mid new p.1 q.1)

-- the push of a buffer, and those of the buffers after it
pub each_first : (w : World) (told : ℕ → List Row) (b : Handle) (ns : List ℕ) (old mid new : List Connection) → EachPushed (b.0 ∷ []) (push_connection b (push_of w b.0 (told b.0))) old mid → EachPushed ns (pushed_connection w told ns) mid new → EachPushed (b.0 ∷ ns) (pushed_connection w told (b.0 ∷ ns)) old new
each_first w told b ns old mid new p q =
    each_then (b.0 ∷ []) ns (pushed_connection w told (b.0 ∷ ns)) (push_connection b (push_of w b.0 (told b.0))) (pushed_connection w told ns) (pushed_first w told b ns) (one_is b (push_of w b.0 (told b.0))) (all_is w told ns) old mid new p q

pub each_more : (w : World) (told : ℕ → List Row) (ms ns : List ℕ) (old mid new : List Connection) → EachPushed ms (pushed_connection w told ms) old mid → EachPushed ns (pushed_connection w told ns) mid new → EachPushed (ms ++ ns) (pushed_connection w told (ms ++ ns)) old new
each_more w told ms ns old mid new p q =
    each_then ms ns (pushed_connection w told (ms ++ ns)) (pushed_connection w told ms) (pushed_connection w told ns) (pushed_more w told ms ns) (all_is w told ms) (all_is w told ns) old mid new p q

-- ---- where no memory is found for a push

abbrev left : Connection → Connection
left connection = record connection { leaving = Some NoMemory }

abbrev noted : Connection → Client → Connection
noted connection client = record connection { session = record connection.session { client = client } }

-- who does not follow the push is told nothing, and forgets nothing
record IsDeaf (kind : EventKind) (b : Handle) (push : Push) : Type 0 where
  asks : (client : Client) → follows kind b.0 client ≡ true → follows_nicks client b.0 ≡ true
  stays : (client : Client) → after_event kind b.0 client ≡ client
  nothing : (client : Client) → follows kind b.0 client ≡ false → push_told b push client ≡ []

starved_one : (kind : EventKind) (b : Handle) (push : Push) → IsDeaf kind b push → (a x : Connection) → x ≡ starved_connection kind b.0 a → PushedOrLeft (b.0 ∷ []) (push_connection b push) a x
starved_one kind b push deaf a x same = by (is_open a) (follows kind b.0 a.session.client) refl refl same where
  by : (t f : Bool) → is_open a ≡ t → follows kind b.0 a.session.client ≡ f → x ≡ cond (t && f) (left a) (cond t (noted a (after_event kind b.0 a.session.client)) a) → PushedOrLeft (b.0 ∷ []) (push_connection b push) a x
  by true true e q is = inr (record { opened = e; asked = ap (λ t. t || false) (deaf.asks a.session.client q); leaving = ap (λ (s : Connection). s.leaving) is })
  by true false e q is =
      let none : push_connection b push a ≡ a = ap (λ messages. sent_connection messages a) (deaf.nothing a.session.client q) ∙ sent_none a in
      inl (is ∙ ap (noted a) (deaf.stays a.session.client) ∙ sym none)
  by false f e q is = inl (is ∙ sym (sent_shut (push_told b push a.session.client) a e))

told_none : (b : Handle) (push : Push) (client : Client) → follows (push_kind push) b.0 client ≡ false → push_told b push client ≡ []
unfolding push_told
told_none b push client e = ap (λ t. cond t (push_messages b push) []) e

diff_none : (b : Handle) (push : Push) (client : Client) → follows NicklistDiff b.0 client ≡ false → push_told b push client ≡ []
diff_none b Nothing client e = told_none b Nothing client refl
diff_none b (Diff items) client e = told_none b (Diff items) client e
diff_none b (Full items) client e = told_none b (Full items) client e

diff_deaf : (b : Handle) (push : Push) → IsDeaf NicklistDiff b push
diff_deaf b push = record { asks = λ client e. e; stays = λ client. refl; nothing = diff_none b push }

push_asks : (b : Handle) (push : Push) (client : Client) → follows (push_kind push) b.0 client ≡ true → follows_nicks client b.0 ≡ true
push_asks b Nothing client e = absurd (false≢true e)
push_asks b (Diff items) client e = e
push_asks b (Full items) client e = e

event_deaf : (event : Spelled) (b : Handle) (push : Push) → IsPushOf event b push → IsDeaf event.kind b push
event_deaf event b push is = let P : EventKind → Type 0 = λ kind. IsDeaf kind b push in subst P (sym is.kind) (record { asks = push_asks b push; stays = heard_push push b.0; nothing = told_none b push })

pub each_starved : (b : Handle) (push : Push) (connections : List Connection) → EachPushed (b.0 ∷ []) (push_connection b push) connections (map (starved_connection NicklistDiff b.0) connections)
each_starved b push [] = tt
each_starved b push (connection ∷ connections) = (starved_one NicklistDiff b push (diff_deaf b push) connection _ refl, each_starved b push connections)

-- who was served the event of a push
pub each_heard : (event : Spelled) (b : Handle) (push : Push) (old new : List Connection) → IsPushOf event b push → ConnectionsServed event.kind event.buffer.0 (heard_connection event) old new → EachPushed (b.0 ∷ []) (push_connection b push) old new
each_heard event b push [] [] is served = tt
each_heard event b push [] (y ∷ new) is served = absurd served
each_heard event b push (a ∷ old) [] is served = absurd served
each_heard event b push (a ∷ old) (y ∷ new) is served = (one served.0, each_heard event b push old new is served.1) where
  one : ConnectionServed event.kind event.buffer.0 (heard_connection event) a y → PushedOrLeft (b.0 ∷ []) (push_connection b push) a y
  one (inl e) = inl (e ∙ push_heard event b push a is)
  one (inr e) = starved_one event.kind b push (event_deaf event b push is) a y (e ∙ ap (λ (h : Handle). starved_connection event.kind h.0 a) is.buffer)

-- ---- where no one left

abbrev pub open_number : List Connection → ℕ
open_number connections = length (filter (λ connection. is_open connection) connections)

pub number_more : (s : Connection) (connections : List Connection) (t : Bool) → is_open s ≡ t → open_number (s ∷ connections) ≡ cond t (suc (open_number connections)) (open_number connections)
number_more s connections t e = ap (λ t. length (cond t (s ∷ filter (λ connection. is_open connection) connections) (filter (λ connection. is_open connection) connections))) e ∙ by t where
  by : (t : Bool) → length (cond t (s ∷ filter (λ connection. is_open connection) connections) (filter (λ connection. is_open connection) connections)) ≡ cond t (suc (open_number connections)) (open_number connections)
  by true = refl
  by false = refl

module _ (ns : List ℕ) (push : Connection → Connection) (is : IsPush push) where
  pub not_more : (old new : List Connection) → EachPushed ns push old new → open_number new ≤ open_number old
  not_more [] [] p = omega arith
  not_more [] (b ∷ new) p = absurd p
  not_more (a ∷ old) [] p = absurd p
  not_more (a ∷ old) (b ∷ new) p = by p.0 (is_open a) refl (not_more old new p.1) where
    by : PushedOrLeft ns push a b → (t : Bool) → is_open a ≡ t → open_number new ≤ open_number old → open_number (b ∷ new) ≤ open_number (a ∷ old)
    by (inl e) true q more = (let x = number_more a old true q in let y = number_more b new true (ap is_open e ∙ is.opens a ∙ q) in omega (arith, x, y, more))
    by (inl e) false q more = (let x = number_more a old false q in let y = number_more b new false (ap is_open e ∙ is.opens a ∙ q) in omega (arith, x, y, more))
    by (inr l) t q more = (let x = number_more a old true l.opened in let y = number_more b new false (ap is_none l.leaving) in omega (arith, x, y, more))

  -- each was pushed, where as many are open as before
  pub none_left : (old new : List Connection) → EachPushed ns push old new → open_number new ≡ open_number old → new ≡ map push old
  none_left [] [] p e = refl
  none_left [] (b ∷ new) p e = absurd p
  none_left (a ∷ old) [] p e = absurd p
  none_left (a ∷ old) (b ∷ new) p e = by p.0 (is_open a) refl (not_more old new p.1) (none_left old new p.1) where
    by : PushedOrLeft ns push a b → (t : Bool) → is_open a ≡ t → open_number new ≤ open_number old → (open_number new ≡ open_number old → new ≡ map push old) → b ∷ new ≡ push a ∷ map push old
    by (inl q) true o less more =
        let x = number_more a old true o in
        let y = number_more b new true (ap is_open q ∙ is.opens a ∙ o) in
        ap (λ s. s ∷ new) q ∙ ap (λ ss. push a ∷ ss) (more (omega (arith, x, y, e)))
    by (inl q) false o less more =
        let x = number_more a old false o in
        let y = number_more b new false (ap is_open q ∙ is.opens a ∙ o) in
        ap (λ s. s ∷ new) q ∙ ap (λ ss. push a ∷ ss) (more (omega (arith, x, y, e)))
    by (inr l) t o less more =
        let x = number_more a old true l.opened in
        let y = number_more b new false (ap is_none l.leaving) in
        absurd (omega (arith, x, y, e, less))
