-- What is written is the answer, and what is refused is refused for its reason.
use Rattle.std.proofs.Common.{◌≡◌, ℕ, ◌-◌, ◌^◌, ◌≤◌, inl, inr, Bool, true, false, cond, List, [], ◌∷◌, length, Some, None, refl, ap, ◌∙◌, arith}
use Rattle.std.specs.Prelude.{nat_lt}
use Rattle.std.proofs.lemmas.Bool.Decides.{nat_tests}
use Rattle.wc_model.specs.World.{World}
use Rattle.wc_objects.specs.Spelling.{message_bytes}
use Rattle.wc_keys.specs.declared.key.Key.{Key}
use Rattle.wc_hdata.specs.declared.path.Path.{Path}
use Rattle.wc_hdata.specs.declared.refused.WalkRefused.{WalkRefused}
use Rattle.wc_hdata.specs.Hdata.{all_bytes, keys_asked, length_refusal, message_refusal, most_bytes, refusal, too_long, walk_object}
use Rattle.wc_hdata.specs.Refusals.{reached, walk_refusal}
use Rattle.wc_hdata.specs.Starts.{or_else}
use Rattle.wc_hdata.specs.WalkBytes.{front_for, values_of_all, walk_bytes}
use Rattle.wc_hdata.specs.WalkRoom.{IsTooLong}
use Rattle.wc_hdata.proofs.WalkMessage.{values_are, walk_message}

-- the message that is written with the keys that are asked for
pub message_for : (id : List ℕ) (world : World) (path : Path) (keys : List ℕ) (asked : List Key) → asked ≡ keys_asked path keys
    → walk_bytes world (front_for id path asked) asked (reached world path) ≡ message_bytes id (walk_object world path keys ∷ [])
message_for id world path keys asked same =
    ap (λ (ks : List Key). walk_bytes world (front_for id path ks) ks (reached world path)) same ∙ walk_message id world path keys

values_for : (world : World) (path : Path) (keys : List ℕ) (asked : List Key) → asked ≡ keys_asked path keys → length (values_of_all world asked (reached world path)) ≡ length (all_bytes world path keys)
values_for world path keys asked same = ap (λ (ks : List Key). length (values_of_all world ks (reached world path))) same ∙ ap length (values_are world path keys)

by_length : (world : World) (path : Path) (keys : List ℕ) → walk_refusal world path ≡ None → refusal world path keys ≡ length_refusal (length (all_bytes world path keys))
unfolding refusal
by_length world path keys none = ap (λ first. or_else first (length_refusal (length (all_bytes world path keys)))) none

pub accepted_for : (world : World) (path : Path) (keys : List ℕ) (asked : List Key) → walk_refusal world path ≡ None → asked ≡ keys_asked path keys
    → length (values_of_all world asked (reached world path)) ≤ 2 ^ 31 - 64 → refusal world path keys ≡ None
accepted_for world path keys asked none same short =
    let values = values_for world path keys asked same in
    let t : nat_lt most_bytes (length (all_bytes world path keys)) ≡ false = grind (arith, nat_tests) in
    by_length world path keys none ∙ rw t refl

-- ---- the reasons
pub refused_first : (id : List ℕ) (world : World) (path : Path) (keys : List ℕ) (e : WalkRefused) → walk_refusal world path ≡ Some e → message_refusal id world path keys ≡ Some e
unfolding message_refusal refusal
refused_first id world path keys e due =
    let last = cond (nat_lt (2 ^ 31 - 1) (length (message_bytes id (walk_object world path keys ∷ [])))) (Some too_long) None in
    ap (λ first. or_else (or_else first (length_refusal (length (all_bytes world path keys)))) last) due

either : (id : List ℕ) (world : World) (path : Path) (keys : List ℕ) → walk_refusal world path ≡ None
    → message_refusal id world path keys ≡ or_else (length_refusal (length (all_bytes world path keys))) (cond (nat_lt (2 ^ 31 - 1) (length (message_bytes id (walk_object world path keys ∷ [])))) (Some too_long) None)
unfolding message_refusal
either id world path keys none =
    ap (λ first. or_else first (cond (nat_lt (2 ^ 31 - 1) (length (message_bytes id (walk_object world path keys ∷ [])))) (Some too_long) None)) (by_length world path keys none)

both_long : (t : Bool) → or_else (cond t (Some too_long) None) (Some too_long) ≡ Some too_long
both_long true = refl
both_long false = refl

pub refused_last : (id : List ℕ) (world : World) (path : Path) (keys : List ℕ) (asked : List Key) → walk_refusal world path ≡ None → asked ≡ keys_asked path keys
    → IsTooLong world (front_for id path asked) asked (reached world path) → message_refusal id world path keys ≡ Some too_long
refused_last id world path keys asked none same (inl many) =
    let values = values_for world path keys asked same in
    let t : nat_lt most_bytes (length (all_bytes world path keys)) ≡ true = grind (arith, nat_tests) in
    either id world path keys none ∙ rw t refl
refused_last id world path keys asked none same (inr long) =
    let message = ap length (message_for id world path keys asked same) in
    let t : nat_lt (2 ^ 31 - 1) (length (message_bytes id (walk_object world path keys ∷ []))) ≡ true = grind (arith, nat_tests) in
    either id world path keys none ∙ rw t (both_long (nat_lt most_bytes (length (all_bytes world path keys))))

-- what `write_in` needs
pub ruleset written_facts = (message_for, accepted_for, refused_first, refused_last)
