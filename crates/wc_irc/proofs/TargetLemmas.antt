-- The names of all buffers, by their handles.
use Rattle.std.proofs.Common.{◌≡◌, ℕ, ◌+◌, ◌≤◌, Bool, true, false, cond, eqb, List, [], ◌∷◌, ◌++◌, ◌⊎◌, inl, inr, map, find, Some, None, refl, sym, ap, subst, ◌∙◌, arith, append_assoc, eq-eqb}
use Rattle.std.specs.Prelude.{option_map}
use Rattle.std.specs.List.{AllByRecursion}
use Rattle.std.proofs.lemmas.Bool.{or_parts}
use Rattle.std.proofs.lemmas.List.{map-append}
use Rattle.wc_buffers.specs.declared.row.BufferEntry.{BufferEntry}
use Rattle.wc_buffers.specs.Calls.{EntryGroups, handle_of, entry_of}
use Rattle.wc_buffers.specs.Groups.{rows, in_group, times_in, times}
use Rattle.wc_buffers.specs.Kept.{AreBuffers, handles}
use Rattle.wc_buffers.proofs.GroupLaws.{times_in-append, in_group_tells}
use Rattle.wc_irc.specs.Targets.{names_of}
use Rattle.wc_irc.specs.TargetsSeen.{name_in, names_at, all_names_at}

-- ---- what is found in two lists, one after the other

pub find_past : {A : Type 0} (p : A → Bool) (xs ys : List A) → find p xs ≡ None → find p (xs ++ ys) ≡ find p ys
find_past p [] ys none = refl
find_past p (x ∷ xs) ys none = by (p x) none (find_past p xs ys) where
  by : (t : Bool) → cond t (Some x) (find p xs) ≡ None → (find p xs ≡ None → find p (xs ++ ys) ≡ find p ys) → cond t (Some x) (find p (xs ++ ys)) ≡ find p ys
  by true none ih = absurd (cc)
  by false none ih = ih none

pub find_first : {A : Type 0} (p : A → Bool) (xs ys : List A) (v : A) → find p xs ≡ Some v → find p (xs ++ ys) ≡ Some v
find_first p [] ys v some = absurd (cc)
find_first p (x ∷ xs) ys v some = by (p x) some (find_first p xs ys v) where
  by : (t : Bool) → cond t (Some x) (find p xs) ≡ Some v → (find p xs ≡ Some v → find p (xs ++ ys) ≡ Some v) → cond t (Some x) (find p (xs ++ ys)) ≡ Some v
  by true some ih = some
  by false some ih = ih some

-- ---- each buffer is found by its handle

times-rows : (h : ℕ) (gs : EntryGroups) → times handle_of h gs ≡ times_in handle_of h (rows gs)
times-rows h [] = refl
times-rows h (g ∷ gs) = ap (λ n. times_in handle_of h g + n) (times-rows h gs) ∙ sym (times_in-append handle_of h g (rows gs))

lacks : (h : ℕ) (es : List BufferEntry) → times_in handle_of h es ≡ 0 → in_group handle_of h es ≡ false
lacks h es none = by (in_group_tells handle_of h es)
  where
    by : ((in_group handle_of h es ≡ true) × (1 ≤ times_in handle_of h es)) ⊎ ((in_group handle_of h es ≡ false) × (times_in handle_of h es ≡ 0)) → in_group handle_of h es ≡ false
    by (inl t) = absurd (let some = t.1 in omega arith)
    by (inr f) = f.0

is_none_in : (h : ℕ) (es : List BufferEntry) → in_group handle_of h es ≡ false → find (λ x. eqb (handle_of x) h) es ≡ None
is_none_in h [] e = refl
is_none_in h (x ∷ es) e = let o = or_parts (eqb (handle_of x) h) (in_group handle_of h es) e in rw o.0 (is_none_in h es o.1)

abbrev found_in : List BufferEntry → BufferEntry → Type 0
found_in es e = find (λ x. eqb (handle_of x) (handle_of e)) es ≡ Some e

first_found : (es : List BufferEntry) (e : BufferEntry) (others : List BufferEntry) → times_in handle_of (handle_of e) (es ++ e ∷ others) ≤ 1 → found_in (es ++ e ∷ others) e
first_found es e others once =
    let same : eqb (handle_of e) (handle_of e) ≡ true = eq-eqb (handle_of e) (handle_of e) refl in
    let here : times_in handle_of (handle_of e) (e ∷ others) ≡ 1 + times_in handle_of (handle_of e) others = rw same refl in
    let none : times_in handle_of (handle_of e) es ≡ 0 = omega (arith, times_in-append handle_of (handle_of e) es (e ∷ others), once, here) in
    find_past (λ x. eqb (handle_of x) (handle_of e)) es (e ∷ others) (is_none_in (handle_of e) es (lacks (handle_of e) es none)) ∙ rw same refl

each_found : (es others : List BufferEntry) → ((h : ℕ) → times_in handle_of h (es ++ others) ≤ 1) → AllByRecursion (found_in (es ++ others)) others
each_found es [] once = tt
each_found es (e ∷ others) once =
    let shift : es ++ e ∷ others ≡ (es ++ e ∷ []) ++ others = sym (append_assoc es (e ∷ []) others) in (
      first_found es e others (once (handle_of e)),
      subst (λ all. AllByRecursion (found_in all) others) (sym shift) (each_found (es ++ e ∷ []) others (subst (λ all. (h : ℕ) → times_in handle_of h all ≤ 1) shift once)),
    )

pub rows_once : (gs : EntryGroups) → ((h : ℕ) → times handle_of h gs ≤ 1) → AllByRecursion (λ e. entry_of e.row.handle gs ≡ Some e) (rows gs)
rows_once gs once = each_found [] (rows gs) (λ h. let one = once h in omega (arith, times-rows h gs))

pub all_parts : (P : BufferEntry → Type 0) (xs ys : List BufferEntry) → AllByRecursion P (xs ++ ys) → AllByRecursion P xs × AllByRecursion P ys
all_parts P [] ys all = (tt, all)
all_parts P (x ∷ xs) ys all = let r = all_parts P xs ys all.1 in ((all.0, r.0), r.1)

-- ---- their names

group_names : (gs : EntryGroups) (es : List BufferEntry) → AllByRecursion (λ e. entry_of e.row.handle gs ≡ Some e) es
    → names_at gs (map (λ (e : BufferEntry). e.row.handle) es) ≡ map (λ (e : BufferEntry). e.row.full_name) es
group_names gs [] all = refl
group_names gs (e ∷ es) all = λ i. name_in (option_map (λ (x : BufferEntry). x.row) (all.0 i)) ++ group_names gs es all.1 i

names_from : (all gs : EntryGroups) → AllByRecursion (λ e. entry_of e.row.handle all ≡ Some e) (rows gs) → all_names_at all (handles gs) ≡ names_of gs
names_from all [] found = refl
names_from all (g ∷ gs) found =
    let parts = all_parts _ g (rows gs) found in
    (λ i. group_names all g parts.0 i ++ names_from all gs parts.1 i) ∙ sym (map-append (λ (e : BufferEntry). e.row.full_name) g (rows gs))

pub names_all : (gs : EntryGroups) → AreBuffers gs → all_names_at gs (handles gs) ≡ names_of gs
names_all gs are = names_from gs gs (rows_once gs are.once)

pub ruleset find_facts = (find_past, find_first, names_all)
