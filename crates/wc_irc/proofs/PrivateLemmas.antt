-- How many private buffers of a server there are, by the handles of all buffers.
use Rattle.std.proofs.Common.{◌≡◌, ℕ, ◌+◌, ◌-◌, Bool, true, false, cond, List, [], ◌∷◌, ◌++◌, length, map, filter, Option, Some, None, refl, sym, ap, ◌∙◌, arith}
use Rattle.std.specs.Prelude.{◌==◌, nat_le, option_map}
use Rattle.std.specs.List.{AllByRecursion}
use Rattle.std.proofs.lemmas.Bool.Decides.{nat_tests}
use Rattle.wc_buffers.specs.declared.row.BufferEntry.{BufferEntry}
use Rattle.wc_buffers.specs.Calls.{EntryGroups, entry_of}
use Rattle.wc_buffers.specs.Groups.{rows}
use Rattle.wc_buffers.specs.Kept.{AreBuffers, handles}
use Rattle.wc_irc.specs.PrivateBuffers.{is_private_of, private_buffers}
use Rattle.wc_irc.specs.PrivatesSeen.{is_private_by, privates_at, all_privates_at}
use Rattle.wc_irc.specs.Servers.{ServerState}
use Rattle.wc_irc.proofs.TargetLemmas.{rows_once, all_parts}

-- ---- those of two lists, one after the other

both : {A : Type 0} (p : A → Bool) (xs ys : List A) → length (filter p (xs ++ ys)) ≡ length (filter p xs) + length (filter p ys)
both p [] ys = omega arith
both p (x ∷ xs) ys = by (p x) (both p xs ys) where
  by : (t : Bool) → length (filter p (xs ++ ys)) ≡ length (filter p xs) + length (filter p ys)
      → length (cond t (x ∷ filter p (xs ++ ys)) (filter p (xs ++ ys))) ≡ length (cond t (x ∷ filter p xs) (filter p xs)) + length (filter p ys)
  by true ih = omega (arith, ih)
  by false ih = ih

-- ---- those of a group, and of all groups

group_privates : (s : ServerState) (gs : EntryGroups) (es : List BufferEntry) → AllByRecursion (λ e. entry_of e.row.handle gs ≡ Some e) es
    → privates_at gs s (map (λ (e : BufferEntry). e.row.handle) es) ≡ length (filter (is_private_of s) es)
group_privates s gs [] all = refl
group_privates s gs (e ∷ es) all =
    let same : is_private_by s (option_map (λ (x : BufferEntry). x.vars) (entry_of e.row.handle gs)) ≡ is_private_of s e = ap (λ o. is_private_by s (option_map (λ (x : BufferEntry). x.vars) o)) all.0 in
    by _ (is_private_of s e) same (group_privates s gs es all.1) where
      by : (t u : Bool) → t ≡ u → privates_at gs s (map (λ (x : BufferEntry). x.row.handle) es) ≡ length (filter (is_private_of s) es)
          → length (cond t (e.row.handle ∷ filter (λ h. is_private_by s (option_map (λ (x : BufferEntry). x.vars) (entry_of h gs))) (map (λ (x : BufferEntry). x.row.handle) es)) (filter (λ h. is_private_by s (option_map (λ (x : BufferEntry). x.vars) (entry_of h gs))) (map (λ (x : BufferEntry). x.row.handle) es)))
          ≡ length (cond u (e ∷ filter (is_private_of s) es) (filter (is_private_of s) es))
      by true true same ih = omega (arith, ih)
      by false false same ih = ih
      by true false same ih = absurd (cc)
      by false true same ih = absurd (cc)

privates_from : (s : ServerState) (all gs : EntryGroups) → AllByRecursion (λ e. entry_of e.row.handle all ≡ Some e) (rows gs)
    → all_privates_at all s (handles gs) ≡ length (private_buffers gs s)
privates_from s all [] found = refl
privates_from s all (g ∷ gs) found =
    let parts = all_parts _ g (rows gs) found in
    (λ i. group_privates s all g parts.0 i + privates_from s all gs parts.1 i) ∙ sym (both (is_private_of s) g (rows gs))

pub all_privates : (s : ServerState) (gs : EntryGroups) → AreBuffers gs → all_privates_at gs s (handles gs) ≡ length (private_buffers gs s)
all_privates s gs are = privates_from s gs gs (rows_once gs are.once)

-- ---- whether there is room

pub no_room : (most count : ℕ) → (most - count == 0) ≡ nat_le most count
no_room most count = grind (arith, nat_tests)
