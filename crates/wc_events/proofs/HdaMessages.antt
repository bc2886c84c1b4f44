-- A message of one hdata is what is before its items, their count, and the items.
use Rattle.std.proofs.Common.{◌≡◌, ℕ, ◌+◌, List, [], ◌∷◌, ◌++◌, length, Some, ap, sym, ◌∙◌, append_assoc, append-nil}
use Rattle.wc_objects.specs.declared.kind.Kind.TheVariants as kinds
use Rattle.wc_objects.specs.Kinds.{letters}
use Rattle.wc_objects.specs.declared.object.Object.TheVariants as o
use Rattle.wc_objects.specs.declared.object.Object.TheViews.{out-roll-Object, out-roll-Hda}
use Rattle.wc_objects.specs.declared.object.Hda.{roll-Hda}
use Rattle.wc_objects.specs.declared.object.HdaItem.{HdaItem}
use Rattle.wc_objects.specs.Spelling.{item_bytes, object_bytes, hda_bytes, message_bytes, body_bytes, text_bytes, with_count, be32}
use Rattle.wc_events.specs.HdaBytes.{front_bytes, hda_body, hda_message}

hda_of : (path keys : List ℕ) (items : List HdaItem) → object_bytes (o.Hda (roll-Hda (record { path = Some path; keys = Some keys; items = items })))
    ≡ letters kinds.Hda ++ (text_bytes (Some path) ++ (text_bytes (Some keys) ++ with_count item_bytes items))
unfolding object_bytes hda_bytes
hda_of path keys items =
    rw (← o.rolls-Hda (roll-Hda (record { path = Some path; keys = Some keys; items = items })), out-roll-Object)
    (let opened = out-roll-Hda (record { path = Some path; keys = Some keys; items = items }) in λ i. letters kinds.Hda ++ (text_bytes (opened i).path ++ (text_bytes (opened i).keys ++ with_count item_bytes (opened i).items)))

arranged : (t h p q r : List ℕ) → t ++ ((h ++ (p ++ (q ++ r))) ++ []) ≡ (t ++ (h ++ (p ++ q))) ++ r
arranged t h p q r =
    ap (λ (x : List ℕ). t ++ x) (append-nil (h ++ (p ++ (q ++ r)))) ∙ ap (λ (x : List ℕ). t ++ (h ++ x)) (sym (append_assoc p q r)) ∙ ap (λ (x : List ℕ). t ++ x) (sym (append_assoc h (p ++ q) r)) ∙ sym (append_assoc t (h ++ (p ++ q)) r)

pub hda_body_is : (id path keys : List ℕ) (items : List HdaItem) → body_bytes id (o.Hda (roll-Hda (record { path = Some path; keys = Some keys; items = items })) ∷ []) ≡ hda_body (front_bytes id path keys) items
hda_body_is id path keys items =
    ap (λ (x : List ℕ). 0 ∷ (text_bytes (Some id) ++ (x ++ []))) (hda_of path keys items)
    ∙ ap (λ (x : List ℕ). 0 ∷ x) (arranged (text_bytes (Some id)) (letters kinds.Hda) (text_bytes (Some path)) (text_bytes (Some keys)) (with_count item_bytes items))

pub hda_message_is : (id path keys : List ℕ) (items : List HdaItem) → hda_message (front_bytes id path keys) items ≡ message_bytes id (o.Hda (roll-Hda (record { path = Some path; keys = Some keys; items = items })) ∷ [])
unfolding message_bytes
hda_message_is id path keys items = ap (λ (x : List ℕ). be32 (4 + length x) ++ x) (sym (hda_body_is id path keys items))
