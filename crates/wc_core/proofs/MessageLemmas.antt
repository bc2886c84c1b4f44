-- The bytes for a link spell the messages for it.
use Rattle.std.proofs.Common.{◌≡◌, ℕ, Bool, true, false, cond, eqb, List, [], ◌∷◌, ◌++◌, refl, ap, sym, ◌∙◌, append-nil, append_assoc}
use Rattle.std.specs.List.{flat_map}
use Rattle.std.proofs.lemmas.List.Concat.{flat_map-append}
use Rattle.wc_objects.specs.declared.object.WireMessage.{WireMessage}
use Rattle.wc_session.specs.Sending.{spelling}
use Rattle.wc_core.specs.State.{Act, Sends, Closes, Serves, Quits}
use Rattle.wc_core.specs.Served.{messages_by, messages_to, sent_by, sent_to}

abbrev spelt : List WireMessage → List ℕ
spelt messages = flat_map (λ m. spelling m) messages

sent_by-spelt : (link : ℕ) (act : Act) → sent_by link act ≡ spelt (messages_by link act)
sent_by-spelt link (Sends to m) = by (eqb to link) where
  by : (t : Bool) → cond t (spelling m) [] ≡ spelt (cond t (m ∷ []) [])
  by true = sym (append-nil (spelling m))
  by false = refl
sent_by-spelt link (Closes to cause) = refl
sent_by-spelt link (Serves out) = refl
sent_by-spelt link Quits = refl

pub sent_to-messages : (link : ℕ) (acts : List Act) → sent_to link acts ≡ flat_map (λ m. spelling m) (messages_to link acts)
sent_to-messages link [] = refl
sent_to-messages link (act ∷ acts) =
    ap (λ t. t ++ sent_to link acts) (sent_by-spelt link act) ∙ ap (λ t. spelt (messages_by link act) ++ t) (sent_to-messages link acts)
    ∙ sym (flat_map-append (λ m. spelling m) (messages_by link act) (messages_to link acts))

pub messages_to-append : (link : ℕ) (a b : List Act) → messages_to link (a ++ b) ≡ messages_to link a ++ messages_to link b
messages_to-append link [] b = refl
messages_to-append link (act ∷ a) b =
    ap (λ t. messages_by link act ++ t) (messages_to-append link a b) ∙ sym (append_assoc (messages_by link act) (messages_to link a) (messages_to link b))
