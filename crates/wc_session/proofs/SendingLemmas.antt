-- Messages after the unsent bytes.
use Rattle.std.proofs.Common.{◌≡◌, ℕ, ◌-◌, ◌^◌, ◌<◌, ◌≤◌, Bool, true, false, cond, List, [], ◌∷◌, ◌++◌, length, refl, sym, ap, subst, ◌∙◌, append-nil, arith}
use Rattle.std.specs.Str.{IsUtf8}
use Rattle.std.proofs.lemmas.Bool.Decides.{nat_tests}
use Rattle.wc_objects.specs.declared.object.Object.{Object}
use Rattle.wc_objects.specs.declared.object.WireMessage.{WireMessage}
use Rattle.wc_objects.specs.Forms.{well_formed}
use Rattle.wc_objects.specs.Spelling.{message_bytes}
use Rattle.wc_model.specs.World.{World}
use Rattle.wc_model.specs.declared.notice.EventKind.{EventKind}
use Rattle.wc_model.specs.declared.notice.Notice.{Notice}
use Rattle.wc_text.specs.declared.names.Handle.{Handle}
use Rattle.wc_nickdiff.specs.declared.diff_item.Push.{Push}
use Rattle.wc_events.specs.NickObjects.{push_kind}
use Rattle.wc_session.specs.Known.{Known}
use Rattle.wc_session.specs.Event.{Spelled, IsEventOf, IsPushOf, event_messages, part_told, push_messages, push_told, with_event}
use Rattle.wc_session.specs.Sync.{follows}
use Rattle.wc_session.specs.Sending.{message, spelling, fits, fitting, reply, null_hdata, is_owed, Sends}

fitting_one : (m : WireMessage) → fits m ≡ true → fitting m ≡ m ∷ []
unfolding fitting
fitting_one m e = rw e refl

fitting_none : (m : WireMessage) → fits m ≡ false → fitting m ≡ []
unfolding fitting
fitting_none m e = rw e refl

pub fits_within : (m : WireMessage) → length (spelling m) ≤ 2 ^ 31 - 1 → fits m ≡ true
fits_within m h = grind (arith, nat_tests)

pub fits_not : (m : WireMessage) → 2 ^ 31 - 1 < length (spelling m) → fits m ≡ false
fits_not m h = grind (arith, nat_tests)

pub sends_none : (bytes : List ℕ) → Sends bytes bytes []
sends_none bytes = record { bytes = sym (append-nil bytes); spelt = tt }

-- a message that was put after the bytes
pub sends_one : (old new id : List ℕ) (objects : List Object) → new ≡ old ++ message_bytes id objects → length (message_bytes id objects) ≤ 2 ^ 31 - 1
    → IsUtf8 id → well_formed objects ≡ true → Sends old new (fitting (message id objects))
sends_one old new id objects e within text formed =
    let P : List WireMessage → Type 0 = λ messages. Sends old new messages in
    subst P (sym (fitting_one (message id objects) (fits_within (message id objects) within))) (record {
      bytes = e ∙ ap (λ (t : List ℕ). old ++ t) (sym (append-nil (message_bytes id objects)));
      spelt = (record { id = text; formed = formed; spelling = refl; fits = within }, tt);
    })

-- one that does not fit was not put there
pub sends_too_long : (old new id : List ℕ) (objects : List Object) → new ≡ old → 2 ^ 31 - 1 < length (message_bytes id objects)
    → Sends old new (fitting (message id objects))
sends_too_long old new id objects e long =
    let P : List WireMessage → Type 0 = λ messages. Sends old new messages in
    subst P (sym (fitting_none (message id objects) (fits_not (message id objects) long)))
    (record { bytes = e ∙ sym (append-nil old); spelt = tt })

-- ---- a reply

pub reply_first : (id : List ℕ) (objects : List Object) → fits (message id objects) ≡ true → fitting (message id objects) ≡ reply id objects
unfolding reply
reply_first id objects e = fitting_one (message id objects) e ∙ rw e refl

pub reply_second : (id : List ℕ) (objects : List Object) → fits (message id objects) ≡ false → fitting (message id null_hdata) ≡ reply id objects
unfolding reply
reply_second id objects e = rw e refl

pub owed_first : (id : List ℕ) (objects : List Object) → fits (message id objects) ≡ true → true ≡ is_owed (reply id objects)
owed_first id objects e = ap is_owed (sym (fitting_one (message id objects) e)) ∙ ap is_owed (reply_first id objects e)

pub owed_fitting : (m : WireMessage) (sent : Bool) → fits m ≡ sent → sent ≡ is_owed (fitting m)
owed_fitting m true e = ap is_owed (sym (fitting_one m e))
owed_fitting m false e = ap is_owed (sym (fitting_none m e))

pub owed_second : (id : List ℕ) (objects : List Object) (sent : Bool) → fits (message id objects) ≡ false → sent ≡ fits (message id null_hdata)
    → sent ≡ is_owed (reply id objects)
owed_second id objects sent e is = owed_fitting (message id null_hdata) sent (sym is) ∙ ap is_owed (reply_second id objects e)

-- a message that does not fit left the bytes as they were
pub unsent_same : (old new : List ℕ) (m : WireMessage) → fits m ≡ false → Sends old new (fitting m) → new ≡ old
unsent_same old new m e sends =
    let P : List WireMessage → Type 0 = λ messages. Sends old new messages in
    let none : Sends old new [] = subst P (fitting_none m e) sends in
    none.bytes ∙ append-nil old

pub sends_as : (old new : List ℕ) (a b : List WireMessage) → a ≡ b → Sends old new a → Sends old new b
sends_as old new a b e sends = let P : List WireMessage → Type 0 = λ messages. Sends old new messages in subst P e sends

pub sends_from : (old mid new : List ℕ) (messages : List WireMessage) → mid ≡ old → Sends mid new messages → Sends old new messages
sends_from old mid new messages e sends = let P : List ℕ → Type 0 = λ bytes. Sends bytes new messages in subst P e sends

-- ---- events

-- what an event is to tell a client is after its bytes, once the event is
told_sends : (event : Spelled) (kind : EventKind) (at : Handle) (messages : List WireMessage) (session : Known) → event.kind ≡ kind → event.buffer ≡ at → Sends [] event.bytes messages
    → Sends session.unsent (with_event event session).unsent (cond (follows kind at.0 session.client) messages [])
told_sends event kind at messages session what where_it_is sends = by (follows kind at.0 session.client) refl
  where
    same : follows event.kind event.buffer.0 session.client ≡ follows kind at.0 session.client
    same = λ i. follows (what i) (where_it_is i).0 session.client

    by : (t : Bool) → follows kind at.0 session.client ≡ t → Sends session.unsent (with_event event session).unsent (cond (follows kind at.0 session.client) messages [])
    by true e = sends_as _ _ _ _ (sym (ap (λ t. cond t messages []) e)) (record {
      bytes = ap (λ t. session.unsent ++ cond t event.bytes []) (same ∙ e) ∙ ap (λ (t : List ℕ). session.unsent ++ t) sends.bytes;
      spelt = sends.spelt;
    })
    by false e = sends_as _ _ _ _ (sym (ap (λ t. cond t messages []) e)) (record {
      bytes = ap (λ t. session.unsent ++ cond t event.bytes []) (same ∙ e);
      spelt = tt;
    })

pub event_sends : (event : Spelled) (world : World) (part : Notice) (session : Known) → IsEventOf event world part
    → Sends session.unsent (with_event event session).unsent (part_told world part session.client)
unfolding part_told
event_sends event world part session is = told_sends event part.kind part.buffer (event_messages world part) session is.kind is.buffer is.bytes

pub push_sends : (event : Spelled) (buffer : Handle) (push : Push) (session : Known) → IsPushOf event buffer push
    → Sends session.unsent (with_event event session).unsent (push_told buffer push session.client)
unfolding push_told
push_sends event buffer push session is = told_sends event (push_kind push) buffer (push_messages buffer push) session is.kind is.buffer is.bytes
