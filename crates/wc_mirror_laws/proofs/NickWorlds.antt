-- The nicklists of buffers, of which each that is there has one, as buffers and rows come and go.
use Rattle.std.proofs.Common.{◌≡◌, ℕ, ◌+◌, ◌≤◌, Bool, true, false, cond, ◌||◌, eqb, eqb-true, List, [], ◌∷◌, ◌++◌, length, Option, Some, None, is_some, refl, sym, ap, subst, ◌∙◌, arith}
use Rattle.std.specs.FinMap.{get, insert, remove, empty, entries, get-empty, len-entries, len-empty}
use Rattle.std.specs.Ordering.{nat_cmp}
use Rattle.std.proofs.lemmas.Bool.Decides.{nat_tests}
use Rattle.std.proofs.lemmas.List.Folds.{list_any-append}
use Rattle.wc_text.specs.declared.names.Handle.{Handle}
use Rattle.wc_nicklist.specs.declared.item.Row.{Row}
use Rattle.wc_buffers.specs.declared.row.BufferEntry.{BufferEntry}
use Rattle.wc_buffers.specs.Calls.{EntryGroups, handle_of, without_buffer}
use Rattle.wc_buffers.specs.Groups.{has, in_group}
use Rattle.wc_world.proofs.Counted.{some_rows, count-insert, count-remove}
use Rattle.wc_world.proofs.GroupRows.{has-take_out}
use Rattle.wc_model.specs.World.{count_rows}
use Rattle.wc_board.specs.Told.{Told, told_of}
use Rattle.wc_mirror_laws.specs.Nicks.{AreRowsKept, AreListsKept}
use Rattle.wc_mirror_laws.proofs.MapLemmas.{get_put, get_taken}
use Rattle.wc_mirror_laws.proofs.NickRows.{none_kept, more_kept}

turn : (a b : ℕ) → eqb a b ≡ eqb b a
turn a b = grind (arith, nat_tests)

-- the rows where one buffer was given others
pub told_put : (lists : Told) (k : ℕ) (rows : List Row) (q : ℕ) → told_of (insert lists k rows) q ≡ cond (eqb q k) rows (told_of lists q)
told_put lists k rows q = ap some_rows (get_put lists k rows q) ∙ by (eqb q k) where
  by : (b : Bool) → some_rows (cond b (Some rows) (get lists q)) ≡ cond b rows (told_of lists q)
  by true = refl
  by false = refl

pub told_taken : (lists : Told) (k q : ℕ) → told_of (remove lists k) q ≡ cond (eqb q k) [] (told_of lists q)
told_taken lists k q = ap some_rows (get_taken lists k q) ∙ by (eqb q k) where
  by : (b : Bool) → some_rows (cond b None (get lists q)) ≡ cond b [] (told_of lists q)
  by true = refl
  by false = refl

either_kept : (next : ℕ) (b : Bool) (new old : List Row) → AreRowsKept next new → AreRowsKept next old → AreRowsKept next (cond b new old)
either_kept next true new old p q = p
either_kept next false new old p q = q

-- one buffer's rows are at most those of all
pub rows_few : (lists : Told) (k : ℕ) → length (told_of lists k) ≤ count_rows (entries lists)
rows_few lists k = omega (arith, count-remove lists k)

-- ---- other groups

pub lists_kept : (next more : ℕ) (gs hs : EntryGroups) (lists : Told) → next ≤ more → ((q : ℕ) → has handle_of q hs ≡ has handle_of q gs) → AreListsKept next gs lists → AreListsKept more hs lists
lists_kept next more gs hs lists le same kept = record {
  there = λ q. kept.there q ∙ sym (same q);
  rows = λ q. more_kept next more (told_of lists q) le (kept.rows q);
}

-- ---- a buffer that comes

after_others : (a b : Bool) → b || a ≡ a || ((b || false) || false)
after_others true true = refl
after_others true false = refl
after_others false true = refl
after_others false false = refl

some_put : (b : Bool) (rows : List Row) (o : Option (List Row)) → is_some (cond b (Some rows) o) ≡ b || is_some o
some_put true rows o = refl
some_put false rows o = refl

pub lists_added : (next k : ℕ) (gs : EntryGroups) (e : BufferEntry) (lists : Told) → handle_of e ≡ k → AreListsKept next gs lists → AreListsKept (next + 4) (gs ++ (e ∷ []) ∷ []) (insert lists k [])
lists_added next k gs e lists here kept = record {
  there = λ q.
      ap is_some (get_put lists k [] q) ∙ some_put (eqb q k) [] (get lists q)
      ∙ ap (λ b. eqb q k || b) (kept.there q) ∙ after_others (has handle_of q gs) (eqb q k)
      ∙ ap (λ b. has handle_of q gs || ((b || false) || false)) (turn q k ∙ ap (λ n. eqb n q) (sym here)) ∙ sym (list_any-append (in_group handle_of q) gs ((e ∷ []) ∷ []));
  rows = λ q. subst (AreRowsKept (next + 4)) (sym (told_put lists k [] q))
      (either_kept (next + 4) (eqb q k) [] (told_of lists q) (none_kept (next + 4)) (more_kept next (next + 4) (told_of lists q) (omega arith) (kept.rows q)));
}

pub count_added : (lists : Told) (k most : ℕ) → count_rows (entries lists) ≤ most → count_rows (entries (insert lists k [])) ≤ most
count_added lists k most few = omega (arith, few, count-insert lists k [])

-- ---- a buffer that goes

pub lists_closed : (next : ℕ) (h : Handle) (gs : EntryGroups) (lists : Told) → AreListsKept next gs lists → AreListsKept next (without_buffer h gs) (remove lists h.0)
lists_closed next h gs lists kept = record {
  there = λ q.
      ap is_some (get_taken lists h.0 q ∙ ap (λ b. cond b None (get lists q)) (turn q h.0)) ∙ still q (eqb h.0 q) ∙ sym (has-take_out handle_of h.0 q gs);
  rows = λ q. subst (AreRowsKept next) (sym (told_taken lists h.0 q)) (either_kept next (eqb q h.0) [] (told_of lists q) (none_kept next) (kept.rows q));
}
  where
    still : (q : ℕ) (b : Bool) → is_some (cond b None (get lists q)) ≡ cond b false (has handle_of q gs)
    still q true = refl
    still q false = kept.there q

pub count_closed : (lists : Told) (k most : ℕ) → count_rows (entries lists) ≤ most → count_rows (entries (remove lists k)) ≤ most
count_closed lists k most few = omega (arith, few, count-remove lists k)

-- ---- other rows of a buffer

pub lists_put : (next more k : ℕ) (gs : EntryGroups) (rows : List Row) (lists : Told) → next ≤ more → has handle_of k gs ≡ true → AreRowsKept more rows → AreListsKept next gs lists → AreListsKept more gs (insert lists k rows)
lists_put next more k gs rows lists le here new kept = record {
  there = λ q. ap is_some (get_put lists k rows q) ∙ by q (eqb q k) refl;
  rows = λ q. subst (AreRowsKept more) (sym (told_put lists k rows q)) (either_kept more (eqb q k) rows (told_of lists q) new (more_kept next more (told_of lists q) le (kept.rows q)));
}
  where
    by : (q : ℕ) (b : Bool) → eqb q k ≡ b → is_some (cond b (Some rows) (get lists q)) ≡ has handle_of q gs
    by q true e = sym (ap (λ n. has handle_of n gs) (eqb-true q k e) ∙ here)
    by q false e = kept.there q

-- how many rows there are then
pub count_put : (lists : Told) (k most : ℕ) (rows : List Row) → count_rows (entries lists) + length rows ≤ most + length (told_of lists k) → count_rows (entries (insert lists k rows)) ≤ most
count_put lists k most rows few = omega (arith, few, count-insert lists k rows)

-- ---- the start

pub no_lists : (next : ℕ) → AreListsKept next [] empty
no_lists next = record {
  there = λ q. ap is_some (get-empty nat_cmp q);
  rows = λ q. subst (AreRowsKept next) (sym (ap some_rows (get-empty nat_cmp q))) (none_kept next);
}

no_entries : (es : List (ℕ × List Row)) → length es ≡ 0 → count_rows es ≡ 0
no_entries [] e = refl
no_entries (x ∷ es) e = absurd (omega arith)

pub none_counted : count_rows (entries (empty {X = List Row} {R = nat_cmp})) ≡ 0
none_counted = no_entries (entries empty) (sym (len-entries empty) ∙ len-empty nat_cmp (List Row))
