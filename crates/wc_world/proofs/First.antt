-- The world with the core buffer alone.
use Rattle.std.proofs.Common.{◌≡◌, ℕ, zero, suc, ltb, ◌≤◌, Bool, true, false, cond, eqb, List, [], ◌∷◌, map, Some, None, is_some, refl, ap, sym, subst, ◌∙◌, arith, eqb-true, IsAscii}
use Rattle.std.specs.FinMap.{insert, empty, from_entries}
use Rattle.std.specs.HashMap.{HashMap}
use Rattle.std.proofs.lemmas.Bool.{and_parts, ltb-true}
use Rattle.std.specs.List.{list_all}
use Rattle.std.specs.Map.{lookup}
use Rattle.std.proofs.lemmas.Str.{IsUtf8-from_ascii}
use Rattle.wc_buffers.specs.Kept.{HasUtf8Row}
use Rattle.wc_lines.specs.Held.{RingView, no_lines}
use Rattle.wc_buffers.specs.Calls.{EntryGroups, handle_of, with_buffer}
use Rattle.wc_buffers.specs.Groups.{has}
use Rattle.wc_buffers.proofs.GroupLaws.{by_bool}
use Rattle.wc_model.specs.World.{core_row}
use Rattle.wc_world.specs.Kept.{held_at, field_map, IsWorld, IsHeldBuffer}
use Rattle.wc_world.proofs.HeldLemmas.{put_field}
use Rattle.wc_world.proofs.Done.{same_some}

or_false : (b : Bool) → cond b true false ≡ b
or_false true = refl
or_false false = refl

pub has_core : (q : ℕ) → has handle_of q (with_buffer core_row [] []) ≡ eqb 1 q
has_core q = by_bool (eqb 1 q) _ (λ t. rw t refl) (λ t. rw t refl)

pub first_kept : {S : Type 0} (gs : EntryGroups) (n : HashMap ℕ RingView S) (limit : ℕ) → gs ≡ with_buffer core_row [] [] → ((q : ℕ) → held_at n q ≡ cond (eqb 1 q) (Some (no_lines limit)) None) → 1 ≤ limit → limit ≤ 4096 → IsWorld gs n (record { most = limit; changes = 0 }) 5
first_kept gs n limit g c some most = subst (λ g. IsWorld g n (record { most = limit; changes = 0 }) 5) (sym g) (record {
  stored = λ q. ap is_some (c q) ∙ still q ∙ sym (has_core q);
  fit = λ q x f. by_bool (eqb 1 q) _
      (λ t. (let z : Some (no_lines limit) ≡ Some x = (let y = sym (c q) ∙ f in rw t at y) in subst (IsHeldBuffer (record { most = limit; changes = 0 }) 5) (same_some (no_lines limit) x z) (record { limited = refl; roomy = omega arith; apart = tt; counted = omega arith })))
      (λ t. absurd (let z : None ≡ Some x = (let y = sym (c q) ∙ f in rw t at y) in cc));
  below = λ q t. (let z = eqb-true 1 q (sym (has_core q) ∙ t) in omega arith);
  some = some;
  most = most;
  started = omega arith;
  ended = omega arith;
})
  where
    still : (q : ℕ) → is_some (cond (eqb 1 q) (Some (no_lines limit)) None) ≡ eqb 1 q
    still q = by_bool (eqb 1 q) _ (λ t. rw t refl) (λ t. rw t refl)

pub none_held : {S : Type 0} (m : HashMap ℕ RingView S) (q : ℕ) → m.entries ≡ [] → held_at m q ≡ None
none_held m q none = ap (λ (es : List (ℕ × RingView)). lookup (eqb q) es) none

pub first_field : {S T Y : Type 0} (f : RingView → Y) (m : HashMap ℕ RingView S) (n : HashMap ℕ RingView T) (limit : ℕ) → m.entries ≡ [] → ((q : ℕ) → held_at n q ≡ cond (eqb 1 q) (Some (no_lines limit)) (held_at m q)) → field_map f n ≡ insert empty 1 (f (no_lines limit))
first_field f m n limit none c =
    let nothing : field_map f m ≡ empty = ap (λ (es : List (ℕ × RingView)). from_entries (map (λ e. (e.0, f e.1)) es)) none in
    put_field f m n 1 (no_lines limit) c ∙ ap (λ l. insert l 1 (f (no_lines limit))) nothing

ascii : (text : List ℕ) → list_all (λ b. ltb b 128) text ≡ true → IsAscii text
ascii [] e i = omega arith
ascii (b ∷ text) e zero = let a = and_parts (ltb b 128) (list_all (λ b. ltb b 128) text) e in ltb-true b 128 a.0
ascii (b ∷ text) e (suc i) = let a = and_parts (ltb b 128) (list_all (λ b. ltb b 128) text) e in ascii text a.1 i

pub core_text : HasUtf8Row core_row
core_text = record {
  full_name = IsUtf8-from_ascii core_row.full_name (ascii core_row.full_name refl);
  short_name = IsUtf8-from_ascii core_row.short_name (ascii core_row.short_name refl);
  title = IsUtf8-from_ascii core_row.title (ascii core_row.title refl);
}
