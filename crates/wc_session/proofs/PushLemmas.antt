-- The message of a push.
use Rattle.std.proofs.Common.{◌≡◌, ℕ, List, [], Option, Some, None, sym, ap, option_map}
use Rattle.wc_text.specs.declared.names.Handle.{Handle}
use Rattle.wc_objects.specs.declared.object.Object.{Object}
use Rattle.wc_objects.specs.declared.object.WireMessage.{WireMessage}
use Rattle.wc_nickdiff.specs.declared.diff_item.Push.{Push}
use Rattle.wc_events.specs.BufferObjects.{id_of}
use Rattle.wc_events.specs.NickObjects.{push_kind, push_objects}
use Rattle.wc_session.specs.Event.{if_fits, push_messages}
use Rattle.wc_session.specs.Sending.{message, fitting, Sends}
use Rattle.wc_session.proofs.SendingLemmas.{sends_as}

abbrev of_objects : Push → Option (List Object) → List WireMessage
of_objects push objects = if_fits (option_map (λ objects. message (id_of (push_kind push)) objects) objects)

-- nothing to push has no bytes
pub push_none : (buffer : Handle) (push : Push) (bytes : List ℕ) → bytes ≡ [] → push_objects buffer push ≡ None → Sends [] bytes (push_messages buffer push)
push_none buffer push bytes e none = sends_as [] bytes [] (push_messages buffer push) (sym (ap (of_objects push) none)) (record { bytes = e; spelt = tt })

pub push_some : (buffer : Handle) (push : Push) (objects : List Object) (bytes : List ℕ) → push_objects buffer push ≡ Some objects
    → Sends [] bytes (fitting (message (id_of (push_kind push)) objects)) → Sends [] bytes (push_messages buffer push)
push_some buffer push objects bytes some sends = sends_as [] bytes _ (push_messages buffer push) (sym (ap (of_objects push) some)) sends
