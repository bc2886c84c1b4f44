-- Changes of slots that open passes do not see.
use Rattle.std.proofs.Common.{◌≡◌, ℕ, zero, suc, ◌+◌, ◌<◌, ◌≤◌, Bool, true, false, not, Option, Some, None, List, [], ◌∷◌, length, map, take, drop, get_or, arith, refl, ap, ◌∙◌}
use Rattle.std.specs.Prelude.{filter, ◌&&◌, ◌==◌, ◌≢◌, nat_le, if◌then◌else◌, bytes_eq}
use Rattle.std.specs.List.{list_all, list_any}
use Rattle.std.proofs.lemmas.List.{length-map}
use Rattle.wc_hooks.specs.declared.cursor.Cursor.{Cursor}
use Rattle.wc_hooks.specs.declared.entry.HookId.{HookId}
use Rattle.wc_hooks.specs.declared.kind.HookKind.{HookKind}
use Rattle.wc_hooks.specs.declared.slot.Slot.{Slot}
use Rattle.wc_hooks.specs.Kinds.{same_kind}
use Rattle.wc_hooks.specs.Ranks.{falls_by}
use Rattle.wc_hooks.specs.Slots.{slot_rank, slot_entry, slot_filing, is_slot, is_live, is_slot_for, was_of, in_snapshot, window, ahead, first_topic, going_at, goings, one_topic, are_apart, CursorFits, AllCursorsFit, with_enabled, with_slot_switch, gone_from, with_leave, seen_opening, with_opening}
use Rattle.wc_hooks.proofs.Lists.{filter_map, map_both, map_same, all_map, any_map, take_map, drop_map}
use Rattle.wc_hooks.proofs.Puts.{falls_map}
use Rattle.wc_hooks.proofs.Bits.{noted_then, opened_elsewhere}

-- it is filed as before, and passes of other places than k see the same
pub record AlikeSlot (k : ℕ) (new old : Slot) : Type 0 where
  pub id : new.id ≡ old.id
  pub kind : new.kind ≡ old.kind
  pub key : new.key ≡ old.key
  pub priority : new.priority ≡ old.priority
  pub owner : new.owner ≡ old.owner
  pub past : (q : ℕ) → q < 32 → q ≢ k → was_of q new ≡ was_of q old

abbrev pub Alike : ℕ → (Slot → Slot) → Type 0
Alike k f = (slot : Slot) → AlikeSlot k (f slot) slot

either : (P : Slot → Type 0) (b : Bool) (x y : Slot) → P x → P y → P (if b then x else y)
either P true x y hx hy = hx
either P false x y hx hy = hy

same_slot : (k : ℕ) (slot : Slot) → AlikeSlot k slot slot
same_slot k slot = record { id = refl; kind = refl; key = refl; priority = refl; owner = refl; past = λ q lt ne. refl }

pub alike_switch : (k : ℕ) (id : HookId) (on : Bool) → Alike k (with_slot_switch id on)
alike_switch k id on slot = either (λ u. AlikeSlot k u slot) (is_slot id slot && is_live slot) (with_enabled on slot) slot
    (record { id = refl; kind = refl; key = refl; priority = refl; owner = refl; past = λ q lt ne. noted_then slot.enabled slot.past q on lt })
    (same_slot k slot)

pub alike_leave : (k : ℕ) (id : HookId) → Alike k (with_leave id)
alike_leave k id slot = either (λ u. AlikeSlot k u slot) (is_slot id slot) (gone_from slot) slot
    (record { id = refl; kind = refl; key = refl; priority = refl; owner = refl; past = λ q lt ne. noted_then slot.enabled slot.past q false lt })
    (same_slot k slot)

pub alike_opening : (k : ℕ) (kind : HookKind) (key : List ℕ) → k < 32 → Alike k (with_opening k kind key)
alike_opening k kind key le slot = either (λ u. AlikeSlot k u slot) (is_slot_for kind key slot) (seen_opening k slot) slot
    (record { id = refl; kind = refl; key = refl; priority = refl; owner = refl; past = λ q lt ne. opened_elsewhere slot.past k q slot.enabled le lt ne })
    (same_slot k slot)

-- no pass is open at the place k, the cursors' places beginning at p
abbrev pub IsFree : ℕ → ℕ → List (Option Cursor) → Type 0
IsFree k p [] = Unit {0}
IsFree k p (None ∷ cs) = IsFree k (p + 1) cs
IsFree k p (Some c ∷ cs) = (p ≢ k) × IsFree k (p + 1) cs

module _ (k : ℕ) (f : Slot → Slot) (a : Alike k f) where
  entry_alike : (slot : Slot) → slot_entry (f slot) ≡ slot_entry slot
  entry_alike slot = λ i. record { id = (a slot).id i; owner = (a slot).owner i }

  topic_alike : (kind : HookKind) (key : List ℕ) (slot : Slot) → is_slot_for kind key (f slot) ≡ is_slot_for kind key slot
  topic_alike kind key slot = λ i. same_kind ((a slot).kind i) kind && bytes_eq ((a slot).key i) key

  seen_alike : (q hooked : ℕ) (slots : List Slot) → q < 32 → q ≢ k → map slot_entry (filter (in_snapshot q hooked) (map f slots)) ≡ map slot_entry (filter (in_snapshot q hooked) slots)
  seen_alike q hooked slots lt ne =
      ap (map slot_entry) (filter_map f (in_snapshot q hooked) (in_snapshot q hooked) (λ s i. nat_le ((a s).id i).0 hooked && (a s).past q lt ne i) slots)
      ∙ map_both f slot_entry (filter (in_snapshot q hooked) slots)
      ∙ map_same (λ s. slot_entry (f s)) slot_entry entry_alike (filter (in_snapshot q hooked) slots)

  first_alike : (slots : List Slot) → first_topic (map f slots) ≡ first_topic slots
  first_alike [] = refl
  first_alike (x ∷ xs) = λ i. Some (record { kind = (a x).kind i; key = (a x).key i })

  one_alike : (slots : List Slot) → one_topic (map f slots) ≡ one_topic slots
  one_alike [] = refl
  one_alike (x ∷ xs) = (λ i. list_all (is_slot_for ((a x).kind i) ((a x).key i)) (map f xs)) ∙ all_map (is_slot_for x.kind x.key) (is_slot_for x.kind x.key) f (topic_alike x.kind x.key) xs

  pub window_alike : (c : Cursor) (slots : List Slot) → window c (map f slots) ≡ map f (window c slots)
  window_alike c slots = ap (take c.count) (drop_map f c.start slots) ∙ take_map f c.count (drop c.start slots)

  going_alike : (q : ℕ) (c : Cursor) (slots : List Slot) → q < 32 → q ≢ k → going_at q c (map f slots) ≡ going_at q c slots
  going_alike q c slots lt ne =
      let w = window_alike c slots in
      let left : map slot_entry (ahead q c (map f slots)) ≡ map slot_entry (ahead q c slots) =
      ap (λ l. map slot_entry (filter (in_snapshot q c.hooked) l)) (ap (drop c.seen) w ∙ drop_map f c.seen (window c slots)) ∙ seen_alike q c.hooked (drop c.seen (window c slots)) lt ne in
      let over : first_topic (window c (map f slots)) ≡ first_topic (window c slots) = ap first_topic w ∙ first_alike (window c slots) in
      λ i. record { left = left i; looked = c.looked; over = over i }

  pub goings_alike : (p : ℕ) (slots : List Slot) (cs : List (Option Cursor)) → p + length cs ≤ 32 → IsFree k p cs → goings p (map f slots) cs ≡ goings p slots cs
  goings_alike p slots [] le free = refl
  goings_alike p slots (None ∷ cs) le free = ap (λ l. None ∷ l) (goings_alike (p + 1) slots cs (omega (arith, le)) free)
  goings_alike p slots (Some c ∷ cs) le free = (λ i. Some (going_alike p c slots (omega (arith, le)) free.0 i) ∷ goings_alike (p + 1) slots cs (omega (arith, le)) free.1 i)

  stands_alike : (hooked : ℕ) (slots : List Slot) (c : Cursor) → CursorFits hooked slots c → CursorFits hooked (map f slots) c
  stands_alike hooked slots c s =
      let n = length-map slots f in let inside = s.inside in record {
        inside = omega (arith, n, inside);
        within = s.within;
        counted = s.counted;
        drawn = s.drawn;
        topic = ap one_topic (window_alike c slots) ∙ one_alike (window c slots) ∙ s.topic;
      }

  pub all_stand_alike : (hooked : ℕ) (slots : List Slot) (cs : List (Option Cursor)) → AllCursorsFit hooked slots cs → AllCursorsFit hooked (map f slots) cs
  all_stand_alike hooked slots [] s = tt
  all_stand_alike hooked slots (None ∷ cs) s = all_stand_alike hooked slots cs s
  all_stand_alike hooked slots (Some c ∷ cs) s = (stands_alike hooked slots c s.0, all_stand_alike hooked slots cs s.1)

  pub filings_alike : (slots : List Slot) → map slot_filing (map f slots) ≡ map slot_filing slots
  filings_alike slots = map_both f slot_filing slots ∙ map_same (λ s. slot_filing (f s)) slot_filing (λ s i. record { id = (a s).id i; kind = (a s).kind i; key = (a s).key i; priority = (a s).priority i }) slots

  pub falls_alike : (slots : List Slot) → falls_by slot_rank (map f slots) ≡ falls_by slot_rank slots
  falls_alike slots = falls_map slot_rank slot_rank f (λ s i. record { kind = (a s).kind i; key = (a s).key i; priority = (a s).priority i }) slots

  pub apart_alike : (slots : List Slot) → are_apart (map f slots) ≡ are_apart slots
  apart_alike [] = refl
  apart_alike (x ∷ xs) = λ i. not ((ap (λ id. list_any (is_slot id) (map f xs)) (a x).id ∙ any_map (is_slot x.id) (is_slot x.id) f (λ s j. ((a s).id j).0 == x.id.0) xs) i) && apart_alike xs i

pub all_free : (k p : ℕ) (cs : List (Option Cursor)) → p + length cs ≤ k → IsFree k p cs
all_free k p [] le = tt
all_free k p (None ∷ cs) le = all_free k (p + 1) cs (omega (arith, le))
all_free k p (Some c ∷ cs) le = (omega (arith, le), all_free k (p + 1) cs (omega (arith, le)))

free_past : (k p : ℕ) (cs : List (Option Cursor)) → k < p → IsFree k p cs
free_past k p [] lt = tt
free_past k p (None ∷ cs) lt = free_past k (p + 1) cs (omega arith)
free_past k p (Some c ∷ cs) lt = (omega arith, free_past k (p + 1) cs (omega arith))

pub free_at : (k p i : ℕ) (cs : List (Option Cursor)) → k ≡ p + i → get_or cs i None ≡ None → IsFree k p cs
free_at k p i [] e free = tt
free_at k p zero (None ∷ cs) e free = free_past k (p + 1) cs (omega arith)
free_at k p zero (Some c ∷ cs) e free = absurd cc
free_at k p (suc i) (None ∷ cs) e free = free_at k (p + 1) i cs (omega arith) free
free_at k p (suc i) (Some c ∷ cs) e free = (omega arith, free_at k (p + 1) i cs (omega arith) free)
