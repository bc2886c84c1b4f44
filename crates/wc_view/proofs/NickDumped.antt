-- The nicklists that a dump tells, by the groups of its rows.
use Rattle.std.proofs.Common.{◌≡◌, ℕ, Bool, true, false, cond, ◌⊎◌, Option, Some, None, List, [], ◌∷◌, map, refl, sym, ap, ◌∙◌, inl, inr, eqb, arith}
use Rattle.std.specs.Prelude.{is_some, option_map}
use Rattle.std.specs.FinMap.{find, get, from_entries, get-from_entries, same_map, nat_cmp-IsAntisymmetric}
use Rattle.std.specs.Ordering.{nat_cmp, eq_by_cmp}
use Rattle.std.specs.Cmp.{nat_cmp_total}
use Rattle.std.proofs.lemmas.Bool.{true≢false, eqb-true, eq-eqb}
use Rattle.std.proofs.lemmas.Bool.Decides.{nat_tests}
use Rattle.wc_nicklist.specs.declared.item.Row.{Row}
use Rattle.wc_view.specs.declared.nick_rows.NickRow.{NickRow}
use Rattle.wc_view.specs.Each.{onto, each}
use Rattle.wc_view.specs.NickEntries.{NickEntry, nicks_at}
use Rattle.wc_view.specs.NickFold.{NickPart, rows_listed, items_of, entry_of, part_listed}
use Rattle.wc_view.specs.NickGroups.{Group, by_buffer, entry_listed}
use Rattle.wc_view.proofs.EntryLemmas.{by_bool, tied}
use Rattle.wc_view.proofs.NickGroups.{some_items, AreItems, groups_find, groups_items}

abbrev has : ℕ → List ℕ → Bool
has q [] = false
has q (b ∷ bs) = cond (eqb q b) true (has q bs)

-- the entry of a buffer
abbrev tag : (ℕ → Option (List Row)) → ℕ → Option NickEntry
tag f b = option_map (λ rows. (b, rows)) (f b)

record Told (f : ℕ → Option (List Row)) (bs : List ℕ) (es : List NickEntry) : Type 0 where
  all : each (tag f) bs ≡ Some es
  found : (q : ℕ) → find nat_cmp q es ≡ cond (has q bs) (f q) None
  there : (q : ℕ) → has q bs ≡ true → f q ≡ None → ⊥

record Untold (f : ℕ → Option (List Row)) (bs : List ℕ) : Type 0 where
  none : each (tag f) bs ≡ None
  buffer : ℕ
  among : has buffer bs ≡ true
  untold : f buffer ≡ None

by_rows : (o : Option (List Row)) (P : Type 0) → (o ≡ None → P) → ((rows : List Row) → o ≡ Some rows → P) → P
by_rows None P at_none at_some = at_none refl
by_rows (Some rows) P at_none at_some = at_some rows refl

own : (b : ℕ) (bs : List ℕ) → has b (b ∷ bs) ≡ true
own b bs = rw (eq-eqb b b refl) refl

more_has : (q b : ℕ) (bs : List ℕ) → has q bs ≡ true → has q (b ∷ bs) ≡ true
more_has q b bs e = by_bool (eqb q b) _ (λ t. rw t refl) (λ t. rw t e)

onto_none : {B : Type 0} (o : Option B) → onto o None ≡ None
onto_none None = refl
onto_none (Some y) = refl

told_more : (f : ℕ → Option (List Row)) (b : ℕ) (bs : List ℕ) (rows : List Row) (es : List NickEntry) → f b ≡ Some rows → Told f bs es → Told f (b ∷ bs) ((b, rows) ∷ es)
told_more f b bs rows es s w = record {
  all = λ i. onto (option_map (λ z. (b, z)) (s i)) (w.all i);
  found = λ q. by_bool (eqb q b) _
      (λ t. rw (tied q b, t) (sym (ap f (eqb-true q b t) ∙ s)))
      (λ t. rw (tied q b, t) (w.found q));
  there = λ q e n. by_bool (eqb q b) _
      (λ t. let z : Some rows ≡ None = sym s ∙ sym (ap f (eqb-true q b t)) ∙ n in cc)
      (λ t. w.there q (rw t at e) n);
}

told_or_not : (f : ℕ → Option (List Row)) (bs : List ℕ) → ((es : List NickEntry) × Told f bs es) ⊎ Untold f bs
told_or_not f [] = inl ([], record { all = refl; found = λ q. refl; there = λ q e. absurd (true≢false (sym e)) })
told_or_not f (b ∷ bs) = elim (told_or_not f bs) [
  | inl w ↦ by_rows (f b) _
      (λ n. inr (record { none = ap (λ o. onto (option_map (λ rows. (b, rows)) o) (each (tag f) bs)) n; buffer = b; among = own b bs; untold = n }))
      (λ rows s. inl ((b, rows) ∷ w.0, told_more f b bs rows w.0 s w.1))
  | inr u ↦ inr (record { none = ap (onto (tag f b)) u.none ∙ onto_none (tag f b); buffer = u.buffer; among = more_has u.buffer b bs u.among; untold = u.untold })
]

-- the same buffers, in whatever order and however often
same_part : (f : ℕ → Option (List Row)) (bs ks : List ℕ) → ((q : ℕ) → has q bs ≡ has q ks) → option_map nicks_at (each (tag f) bs) ≡ option_map nicks_at (each (tag f) ks)
same_part f bs ks h = elim (told_or_not f bs) [
  | inl a ↦ elim (told_or_not f ks) [
    | inl c ↦ ap (option_map nicks_at) a.1.all
        ∙ ap Some (same_map nat_cmp_total nat_cmp-IsAntisymmetric _ _ (λ q.
        get-from_entries nat_cmp_total a.0 q ∙ a.1.found q ∙ ap (λ z. cond z (f q) None) (h q)
        ∙ sym (get-from_entries nat_cmp_total c.0 q ∙ c.1.found q)))
        ∙ sym (ap (option_map nicks_at) c.1.all)
    | inr u ↦ absurd (a.1.there u.buffer (h u.buffer ∙ u.among) u.untold)
  ]
  | inr v ↦ elim (told_or_not f ks) [
    | inl c ↦ absurd (c.1.there v.buffer (sym (h v.buffer) ∙ v.among) v.untold)
    | inr u ↦ ap (option_map nicks_at) (v.none ∙ sym u.none)
  ]
]

-- the buffers of rows and of groups
abbrev of_rows : List NickRow → List ℕ
of_rows rows = map (λ (row : NickRow). row.buffer) rows

abbrev of_groups : List Group → List ℕ
of_groups gs = map (λ (g : Group). g.0) gs

abbrev listed_among : List NickRow → ℕ → Option (List Row)
listed_among rows b = rows_listed (items_of b rows)

by_rows_each : (all rows : List NickRow) → each (entry_of all) rows ≡ each (tag (listed_among all)) (of_rows rows)
by_rows_each all [] = refl
by_rows_each all (row ∷ rows) = ap (onto (tag (listed_among all) row.buffer)) (by_rows_each all rows)

by_groups_each : (gs : List Group) (all : List NickRow) → AreItems gs all → each entry_listed gs ≡ each (tag (listed_among all)) (of_groups gs)
by_groups_each [] all h = refl
by_groups_each (g ∷ gs) all h = (λ i. onto (option_map (λ rows. (g.0, rows)) (rows_listed (h.0 i))) (by_groups_each gs all h.1 i))

has_groups : (q : ℕ) (gs : List Group) → has q (of_groups gs) ≡ is_some (find nat_cmp q gs)
has_groups q [] = refl
has_groups q (g ∷ gs) = by_bool (eqb q g.0) _
    (λ t. rw (tied q g.0, t) refl)
    (λ t. rw (tied q g.0, t) (has_groups q gs))

has_rows : (q : ℕ) (rows : List NickRow) → has q (of_rows rows) ≡ is_some (some_items (items_of q rows))
has_rows q [] = refl
has_rows q (row ∷ rows) = by_bool (eqb q row.buffer) _
    (λ t. let u : eqb row.buffer q ≡ true = grind (arith, nat_tests) in rw (t, u) refl)
    (λ t. let u : eqb row.buffer q ≡ false = grind (arith, nat_tests) in rw (t, u) (has_rows q rows))

pub part_by_groups : (rows : List NickRow) → option_map nicks_at (each entry_listed (by_buffer rows)) ≡ part_listed rows
part_by_groups rows =
    ap (option_map nicks_at) (by_groups_each (by_buffer rows) rows (groups_items rows))
    ∙ same_part (listed_among rows) (of_groups (by_buffer rows)) (of_rows rows)
    (λ q. has_groups q (by_buffer rows) ∙ ap is_some (groups_find rows q) ∙ sym (has_rows q rows))
    ∙ ap (option_map nicks_at) (sym (by_rows_each rows rows))
