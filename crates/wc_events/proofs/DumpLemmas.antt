-- Dumps, by the handles of the buffers.
use Rattle.std.proofs.Common.{◌≡◌, ℕ, ◌+◌, ◌≤◌, true, false, eqb, List, [], ◌∷◌, ◌++◌, ◌⊎◌, inl, inr, map, length, find, flat_map, Some, refl, sym, ap, subst, ◌∙◌, arith, append_assoc, eq-eqb, length-append}
use Rattle.std.specs.List.{AllByRecursion}
use Rattle.std.proofs.lemmas.List.Concat.{flat_map-append}
use Rattle.wc_buffers.specs.declared.row.BufferEntry.{BufferEntry}
use Rattle.wc_buffers.specs.Calls.{EntryGroups, handle_of, entry_of}
use Rattle.wc_buffers.specs.Groups.{rows, in_group, times_in, times, AllFilled}
use Rattle.wc_buffers.specs.Kept.{AreBuffers, handles}
use Rattle.wc_buffers.proofs.GroupLaws.{times_in-append, in_group_tells}
use Rattle.wc_world.proofs.GroupRows.{find-append, not_found}
use Rattle.wc_objects.specs.declared.object.HdaItem.{HdaItem}
use Rattle.wc_events.specs.Dumps.{if_there, each_told}

-- ---- each buffer is found by its handle

times-rows : (h : ℕ) (gs : EntryGroups) → times handle_of h gs ≡ times_in handle_of h (rows gs)
times-rows h [] = refl
times-rows h (g ∷ gs) = ap (λ n. times_in handle_of h g + n) (times-rows h gs) ∙ sym (times_in-append handle_of h g (rows gs))

lacks : (h : ℕ) (es : List BufferEntry) → times_in handle_of h es ≡ 0 → in_group handle_of h es ≡ false
lacks h es none = by (in_group_tells handle_of h es)
  where
    by : ((in_group handle_of h es ≡ true) × (1 ≤ times_in handle_of h es)) ⊎ ((in_group handle_of h es ≡ false) × (times_in handle_of h es ≡ 0)) → in_group handle_of h es ≡ false
    by (inl t) = absurd (let some = t.1 in omega arith)
    by (inr f) = f.0

abbrev found_in : List BufferEntry → BufferEntry → Type 0
found_in es e = find (λ x. eqb (handle_of x) (handle_of e)) es ≡ Some e

first_found : (es : List BufferEntry) (e : BufferEntry) (others : List BufferEntry) → times_in handle_of (handle_of e) (es ++ e ∷ others) ≤ 1 → found_in (es ++ e ∷ others) e
first_found es e others once =
    let same : eqb (handle_of e) (handle_of e) ≡ true = eq-eqb (handle_of e) (handle_of e) refl in
    let here : times_in handle_of (handle_of e) (e ∷ others) ≡ 1 + times_in handle_of (handle_of e) others = rw same refl in
    let none : times_in handle_of (handle_of e) es ≡ 0 = omega (arith, times_in-append handle_of (handle_of e) es (e ∷ others), once, here) in
    find-append handle_of (handle_of e) es (e ∷ others) ∙ rw (not_found handle_of (handle_of e) es (lacks (handle_of e) es none), same) refl

each_found : (es others : List BufferEntry) → ((h : ℕ) → times_in handle_of h (es ++ others) ≤ 1) → AllByRecursion (found_in (es ++ others)) others
each_found es [] once = tt
each_found es (e ∷ others) once =
    let shift : es ++ e ∷ others ≡ (es ++ e ∷ []) ++ others = sym (append_assoc es (e ∷ []) others) in (
      first_found es e others (once (handle_of e)),
      subst (λ all. AllByRecursion (found_in all) others) (sym shift) (each_found (es ++ e ∷ []) others (subst (λ all. (h : ℕ) → times_in handle_of h all ≤ 1) shift once)),
    )

-- each handle is that of one buffer at most
pub rows_once : (gs : EntryGroups) → ((h : ℕ) → times handle_of h gs ≤ 1) → AllByRecursion (λ e. entry_of e.row.handle gs ≡ Some e) (rows gs)
rows_once gs once = each_found [] (rows gs) (λ h. let one = once h in omega (arith, times-rows h gs))

pub rows_found : (gs : EntryGroups) → AreBuffers gs → AllByRecursion (λ e. entry_of e.row.handle gs ≡ Some e) (rows gs)
rows_found gs are = rows_once gs are.once

pub all_parts : (P : BufferEntry → Type 0) (xs ys : List BufferEntry) → AllByRecursion P (xs ++ ys) → AllByRecursion P xs × AllByRecursion P ys
all_parts P [] ys all = (tt, all)
all_parts P (x ∷ xs) ys all = let r = all_parts P xs ys all.1 in ((all.0, r.0), r.1)

-- ---- what is told by handles is told by buffers

group_told : (gs : EntryGroups) (told : BufferEntry → List HdaItem) (es : List BufferEntry) → AllByRecursion (λ e. entry_of e.row.handle gs ≡ Some e) es
    → each_told gs told (map (λ (e : BufferEntry). e.row.handle) es) ≡ flat_map told es
group_told gs told [] all = refl
group_told gs told (e ∷ es) all = λ i. if_there told (all.0 i) ++ group_told gs told es all.1 i

each_from : (all : EntryGroups) (told : BufferEntry → List HdaItem) (gs : EntryGroups) → AllByRecursion (λ e. entry_of e.row.handle all ≡ Some e) (rows gs)
    → flat_map (each_told all told) (handles gs) ≡ flat_map told (rows gs)
each_from all told [] found = refl
each_from all told (g ∷ gs) found =
    let parts = all_parts _ g (rows gs) found in
    (λ i. group_told all told g parts.0 i ++ each_from all told gs parts.1 i) ∙ sym (flat_map-append told g (rows gs))

-- what is told of all buffers
pub told_of_all : (gs : EntryGroups) (told : BufferEntry → List HdaItem) → AreBuffers gs → flat_map (each_told gs told) (handles gs) ≡ flat_map told (rows gs)
told_of_all gs told are = each_from gs told gs (rows_found gs are)

-- ---- there are as many groups as buffers, or fewer

few : (gs : EntryGroups) → AllFilled gs → length gs ≤ length (rows gs)
few [] filled = omega arith
few ((e ∷ es) ∷ gs) filled = omega (arith, few gs filled, length-append es (rows gs))
few ([] ∷ gs) filled = absurd filled

length-handles : (gs : EntryGroups) → length (handles gs) ≡ length gs
length-handles [] = refl
length-handles (g ∷ gs) = omega (arith, length-handles gs)

pub few_groups : (gs : EntryGroups) → AreBuffers gs → length (handles gs) ≤ 256
few_groups gs are = let most = are.few in omega (arith, few gs are.filled, length-handles gs)
