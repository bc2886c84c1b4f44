-- The buffers of a name, as the index of names tells them.
use Rattle.std.proofs.Common.{◌≡◌, ℕ, Bool, true, false, not, ◌&&◌, ◌||◌, eqb, List, [], ◌∷◌, Option, Some, None, option_map, unwrap_or, find, map, is_some, refl, ap, sym, subst, ◌∙◌, eqb-true, eq-eqb}
use Rattle.std.proofs.lemmas.Bool.{false≢true, or_parts, not-false, false_from_ne_true}
use Rattle.std.specs.Cmp.Lexicographic.{bytes_decides}
use Rattle.std.specs.HashMap.{HashMap}
use Rattle.std.specs.List.{list_any}
use Rattle.std.specs.declared.alloc.Global.{Global}
use Rattle.std.specs.declared.vec.Vec.{Vec}
use Rattle.wc_text.specs.declared.names.Handle.{Handle}
use Rattle.wc_buffers.specs.declared.row.BufferEntry.{BufferEntry}
use Rattle.wc_buffers.specs.Calls.{handle_of, handle_of_name, is_named, other_named}
use Rattle.wc_buffers.specs.Groups.{rows, in_group, has}
use Rattle.wc_buffers.specs.Kept.{at_handle, at_name, blank, entry_at, groups_of_handles, AreBuffersKept}
use Rattle.wc_buffers.specs.Table.{key}
use Rattle.wc_buffers.proofs.GroupLaws.{by_bool, rows-map}
use Rattle.wc_buffers.proofs.Shown.{key_at, in_rows}

module _ {S T : Type 0} (gs : List (List Handle)) (entries : HashMap ℕ BufferEntry S) (names : HashMap (Vec ℕ Global) Handle T) (kept : AreBuffersKept gs entries names) (name : List ℕ) where
  handle_at : Handle → Handle
  handle_at x = (entry_at entries x).row.handle

  -- each of these handles has a buffer
  abbrev AllThere : List Handle → Type 0
  AllThere [] = Unit {0}
  AllThere (x ∷ xs) = (is_some (at_handle entries x.0) ≡ true) × AllThere xs

  all_there-from : (hs : List Handle) → ((q : ℕ) → in_group key q hs ≡ true → is_some (at_handle entries q) ≡ true) → AllThere hs
  all_there-from [] there = tt
  all_there-from (x ∷ xs) there = (there x.0 (rw (eq-eqb x.0 x.0 refl) refl), all_there-from xs (λ q i. there q (by (eqb x.0 q) (in_group key q xs) i)))
    where
      by : (a b : Bool) → b ≡ true → (a || b) ≡ true
      by true b i = refl
      by false b i = i

  all_there : AllThere (rows gs)
  all_there = all_there-from (rows gs) (λ q i. kept.stored q ∙ sym (in_rows q gs) ∙ i)

  -- a buffer that has the name is the one that the name leads to
  leads_here : (x : Handle) → is_some (at_handle entries x.0) ≡ true → is_named name (entry_at entries x) ≡ true → at_name names name ≡ Some x
  leads_here x there t = by (at_handle entries x.0) refl there
    where
      by : (o : Option BufferEntry) → at_handle entries x.0 ≡ o → is_some o ≡ true → at_name names name ≡ Some x
      by None i s = absurd (false≢true s)
      by (Some e) i s =
          let at : entry_at entries x ≡ e = ap (λ o. unwrap_or o (blank x)) i in
          let has_name : name ≡ e.row.full_name = (bytes_decides name e.row.full_name).0 (ap (is_named name) (sym at) ∙ t) in
          let number : e.row.handle.0 ≡ x.0 = kept.keyed x.0 e i in
          let same : e.row.handle ≡ x = λ j. record { 0 = number j } in
          ap (at_name names) has_name ∙ kept.leads x.0 e i ∙ ap Some same

  -- where the name leads to no buffer, none has it
  none_named : at_name names name ≡ None → (hs : List Handle) → AllThere hs → list_any (is_named name) (map (entry_at entries) hs) ≡ false
  none_named none [] all = refl
  none_named none (x ∷ xs) all = by_bool (is_named name (entry_at entries x)) _
      (λ t. let l = leads_here x all.0 t in absurd cc)
      (λ t. rw t (none_named none xs all.1))

  -- the buffer that the name leads to has it
  module _ (h : Handle) (leads : at_name names name ≡ Some h) where
    this_named : is_named name (entry_at entries h) ≡ true
    this_named =
        let r = kept.led name h leads in
        let at : entry_at entries h ≡ r.0 = ap (λ o. unwrap_or o (blank h)) r.1 in
        ap (is_named name) at ∙ (bytes_decides name r.0.row.full_name).1 (sym r.2)

    only_this : (x : Handle) → is_some (at_handle entries x.0) ≡ true → is_named name (entry_at entries x) ≡ true → x ≡ h
    only_this x there t = let l : Some x ≡ Some h = sym (leads_here x there t) ∙ leads in cc

    not_this : (x : Handle) → is_named name (entry_at entries x) ≡ false → eqb x.0 h.0 ≡ false
    not_this x t = false_from_ne_true (eqb x.0 h.0)
        (λ u.
        let number : x.0 ≡ h.0 = eqb-true x.0 h.0 u in
        let same : x ≡ h = λ j. record { 0 = number j } in
        false≢true (sym t ∙ ap (λ (y : Handle). is_named name (entry_at entries y)) same ∙ this_named))

    found_named : (hs : List Handle) → AllThere hs → in_group key h.0 hs ≡ true → option_map (λ (e : BufferEntry). e.row.handle) (find (is_named name) (map (entry_at entries) hs)) ≡ Some h
    found_named [] all i = absurd (false≢true i)
    found_named (x ∷ xs) all i = by_bool (is_named name (entry_at entries x)) _
        (λ t.
        let same = only_this x all.0 t in
        let number = key_at entries kept.keyed x in
        let handle : (entry_at entries x).row.handle ≡ x = λ j. record { 0 = number j } in
        rw t (ap Some (handle ∙ same)))
        (λ t. let other = not_this x t in rw t (found_named xs all.1 (let z = i in rw other at z)))

    any_other : (own : Handle) (hs : List Handle) → AllThere hs → list_any (other_named name own) (map (entry_at entries) hs) ≡ (in_group key h.0 hs && not (eqb h.0 own.0))
    any_other own [] all = refl
    any_other own (x ∷ xs) all = by_bool (is_named name (entry_at entries x)) _
        (λ t.
        let same = only_this x all.0 t in
        let number : handle_of (entry_at entries x) ≡ h.0 = key_at entries kept.keyed x ∙ ap (λ (y : Handle). y.0) same in
        let this : eqb x.0 h.0 ≡ true = eq-eqb x.0 h.0 (ap (λ (y : Handle). y.0) same) in
        rw (t, number, this, any_other own xs all.1) (by (not (eqb h.0 own.0)) (in_group key h.0 xs)))
        (λ t. let other = not_this x t in rw (t, other) (any_other own xs all.1))
      where
        by : (a b : Bool) → (a || (b && a)) ≡ a
        by true b = refl
        by false true = refl
        by false false = refl

    here : in_group key h.0 (rows gs) ≡ true
    here = let r = kept.led name h leads in in_rows h.0 gs ∙ sym (kept.stored h.0) ∙ ap is_some r.1

  rows-shown : rows (groups_of_handles entries gs) ≡ map (entry_at entries) (rows gs)
  rows-shown = rows-map (entry_at entries) key handle_of (key_at entries kept.keyed) gs

  not_found : (es : List BufferEntry) → list_any (is_named name) es ≡ false → find (is_named name) es ≡ None
  not_found [] e = refl
  not_found (x ∷ xs) e = let o = or_parts (is_named name x) (list_any (is_named name) xs) e in rw o.0 (not_found xs o.1)

  none_other : (own : Handle) (es : List BufferEntry) → list_any (is_named name) es ≡ false → list_any (other_named name own) es ≡ false
  none_other own [] e = refl
  none_other own (x ∷ xs) e = let o = or_parts (is_named name x) (list_any (is_named name) xs) e in rw o.0 (none_other own xs o.1)

  pub named-shown : (o : Option Handle) → at_name names name ≡ o → o ≡ handle_of_name name (groups_of_handles entries gs)
  named-shown None e = sym (ap (λ es. option_map (λ (x : BufferEntry). x.row.handle) (find (is_named name) es)) rows-shown ∙ ap (option_map (λ (x : BufferEntry). x.row.handle)) (not_found (map (entry_at entries) (rows gs)) (none_named e (rows gs) all_there)))
  named-shown (Some h) e = sym (ap (λ es. option_map (λ (x : BufferEntry). x.row.handle) (find (is_named name) es)) rows-shown ∙ found_named h e (rows gs) all_there (here h e))

  pub not_taken : (own : Handle) → at_name names name ≡ None → false ≡ list_any (other_named name own) (rows (groups_of_handles entries gs))
  not_taken own e = sym (ap (list_any (other_named name own)) rows-shown ∙ none_other own (map (entry_at entries) (rows gs)) (none_named e (rows gs) all_there))

  pub taken_by : (own h : Handle) → at_name names name ≡ Some h → not (eqb h.0 own.0) ≡ list_any (other_named name own) (rows (groups_of_handles entries gs))
  taken_by own h e = sym (ap (list_any (other_named name own)) rows-shown ∙ any_other h e own (rows gs) all_there ∙ ap (λ b. b && not (eqb h.0 own.0)) (here h e))

  -- where no other buffer has the name, it leads to this one or to none
  pub free_but : (own other : Handle) → list_any (other_named name own) (rows (groups_of_handles entries gs)) ≡ false → at_name names name ≡ Some other → other.0 ≡ own.0
  free_but own other free e = let n = not-false (eqb other.0 own.0) (taken_by own other e ∙ free) in eqb-true other.0 own.0 n

  pub free_for_new : (own : Handle) → has key own.0 gs ≡ false → list_any (other_named name own) (rows (groups_of_handles entries gs)) ≡ false → at_name names name ≡ None
  free_for_new own absent free = by (at_name names name) refl
    where
      by : (o : Option Handle) → at_name names name ≡ o → o ≡ None
      by None e = refl
      by (Some other) e =
          let same = free_but own other free e in
          let r = kept.led name other e in
          let there : has key other.0 gs ≡ true = sym (kept.stored other.0) ∙ ap is_some r.1 in
          absurd (false≢true (sym absent ∙ subst (λ q. has key q gs ≡ true) same there))
