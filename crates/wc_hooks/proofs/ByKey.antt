-- What the calls do to the entries of one kind and key, that a new number is fresh, and that an unknown one changes nothing.
use Rattle.std.proofs.Common.{◌≡◌, ℕ, ◌+◌, ◌<◌, Bool, true, false, not, None, List, [], ◌∷◌, map, arith, refl, sym, ap, ◌∙◌}
use Rattle.std.specs.Prelude.{◌==◌, nat_le, if◌then◌else◌}
use Rattle.std.specs.List.{list_all, list_any}
use Rattle.std.proofs.lemmas.Bool.{and_parts, eqb-true, true≢false}
use Rattle.std.proofs.lemmas.Bool.Decides.{nat_tests}
use Rattle.wc_hooks.specs.declared.entry.Entry.{Entry}
use Rattle.wc_hooks.specs.declared.entry.HookId.{HookId}
use Rattle.wc_hooks.specs.declared.kind.HookKind.{HookKind}
use Rattle.wc_hooks.specs.Rows.{HookRow, rank_of, put_in, is_for, is_id, rows_filed, without, rows_switched, with_switch, lives}
use Rattle.wc_hooks.specs.Filings.{filing_of, without_filing}
use Rattle.wc_hooks.specs.Table.{Table, IsHookTable, IsUnusedId, is_among, are_drawn, left_of, left_at, with_row, with_rows, without_row, any_open}
use Rattle.wc_hooks.proofs.Lists.{by_bool, keeps_first, any_first, any_rest, all_get, filter_comm, filter_map}
use Rattle.wc_hooks.proofs.Puts.{filter-put}
use Rattle.wc_hooks.proofs.Marked.{unmarks_none}

pub hooked_by_key : (was new : Table) (row : HookRow) → IsHookTable was → new ≡ with_row row was → (kind : HookKind) (key : List ℕ) → rows_filed kind key new.rows ≡ (if is_for kind key row then put_in row (rows_filed kind key was.rows) else rows_filed kind key was.rows)
hooked_by_key was new row law e kind key = ap (λ t. rows_filed kind key t.rows) e ∙ filter-put rank_of (is_for kind key) row was.rows law.falls

pub unhooked_by_key : (was new : Table) (id : HookId) → new ≡ without_row id was → (kind : HookKind) (key : List ℕ) → rows_filed kind key new.rows ≡ without id (rows_filed kind key was.rows)
unhooked_by_key was new id e kind key = ap (λ t. rows_filed kind key t.rows) e ∙ filter_comm (is_for kind key) (λ row. not (is_id id row)) was.rows

switched_for : (kind : HookKind) (key : List ℕ) (id : HookId) (on : Bool) (row : HookRow) → is_for kind key (with_switch id on row) ≡ is_for kind key row
switched_for kind key id on row = by_bool (is_id id row) (λ t. rw t refl) (λ t. rw t refl)

pub switched_by_key : (was new : Table) (id : HookId) (on : Bool) → new ≡ with_rows (rows_switched id on was.rows) was → (kind : HookKind) (key : List ℕ) → rows_filed kind key new.rows ≡ rows_switched id on (rows_filed kind key was.rows)
switched_by_key was new id on e kind key = ap (λ t. rows_filed kind key t.rows) e ∙ filter_map (with_switch id on) (is_for kind key) (is_for kind key) (switched_for kind key id on) was.rows

-- numbers above all that were drawn
not_alive : (n : ℕ) (id : HookId) (rows : List HookRow) → n < id.0 → list_all (λ row. nat_le row.id.0 n) rows ≡ true → lives id rows ≡ false
not_alive n id [] lt h = refl
not_alive n id (row ∷ rows) lt h =
    let parts = and_parts (nat_le row.id.0 n) (list_all (λ row. nat_le row.id.0 n) rows) h in
    let low : nat_le row.id.0 n ≡ true = parts.0 in
    let other : (row.id.0 == id.0) ≡ false = grind (arith, nat_tests) in
    any_rest (is_id id) row rows other ∙ not_alive n id rows lt parts.1

not_left : (n : ℕ) (id : HookId) (left : List Entry) → n < id.0 → are_drawn n left ≡ true → is_among id left ≡ false
not_left n id [] lt h = refl
not_left n id (entry ∷ left) lt h =
    let parts = and_parts (nat_le entry.id.0 n) (list_all (λ entry. nat_le entry.id.0 n) left) h in
    let low : nat_le entry.id.0 n ≡ true = parts.0 in
    let other : (entry.id.0 == id.0) ≡ false = grind (arith, nat_tests) in
    any_rest (λ e. e.id.0 == id.0) entry left other ∙ not_left n id left lt parts.1

left_drawn : (t : Table) (place : ℕ) → IsHookTable t → are_drawn t.hooked (left_at t place) ≡ true
left_drawn t place law = all_get (λ p. are_drawn t.hooked (left_of p)) t.passes place None law.passes_drawn refl

not_marked : (id : HookId) (rows : List HookRow) (marks : List Entry) → lives id rows ≡ false → list_all (λ mark. lives mark.id rows) marks ≡ true → is_among id marks ≡ false
not_marked id rows [] none h = refl
not_marked id rows (mark ∷ marks) none h =
    let parts = and_parts (lives mark.id rows) (list_all (λ m. lives m.id rows) marks) h in
    by_bool (mark.id.0 == id.0)
    (λ t. absurd (true≢false (sym parts.0 ∙ (let e : mark.id.0 ≡ id.0 = eqb-true _ _ t in ap (λ n. list_any (λ row. row.id.0 == n) rows) e) ∙ none)))
    (λ t. any_rest (λ m. m.id.0 == id.0) mark marks t ∙ not_marked id rows marks none parts.1)

pub next_is_fresh : (t : Table) (id : HookId) → IsHookTable t → id.0 ≡ t.hooked + 1 → IsUnusedId id t
next_is_fresh t id law number =
    let above : t.hooked < id.0 = omega (arith, number) in
    let none = not_alive t.hooked id t.rows above law.rows_drawn in record {
      lives = none;
      marks = not_marked id t.rows t.marks none law.marks_live;
      left = λ place. not_left t.hooked id (left_at t place) above (left_drawn t place law);
    }

-- where none lives with this number, taking it out or switching it changes nothing
without_none : (id : HookId) (rows : List HookRow) → lives id rows ≡ false → without id rows ≡ rows
without_none id [] h = refl
without_none id (row ∷ rows) h = by_bool (is_id id row)
    (λ t. absurd (true≢false (sym (any_first (is_id id) row rows t) ∙ h)))
    (λ t. keeps_first (λ row. not (is_id id row)) row rows (ap not t) ∙ ap (λ l. row ∷ l) (without_none id rows (sym (any_rest (is_id id) row rows t) ∙ h)))

as_it_is : (id : HookId) (on : Bool) (row : HookRow) → is_id id row ≡ false → with_switch id on row ≡ row
as_it_is id on row t = rw t refl

switched_none : (id : HookId) (on : Bool) (rows : List HookRow) → lives id rows ≡ false → rows_switched id on rows ≡ rows
switched_none id on [] h = refl
switched_none id on (row ∷ rows) h = by_bool (is_id id row)
    (λ t. absurd (true≢false (sym (any_first (is_id id) row rows t) ∙ h)))
    (λ t. (λ i. as_it_is id on row t i ∷ switched_none id on rows (sym (any_rest (is_id id) row rows t) ∙ h) i))

pub switches_none : (was new : Table) (id : HookId) (on : Bool) → new ≡ with_rows (rows_switched id on was.rows) was → lives id was.rows ≡ false → new ≡ was
switches_none was new id on e none = e ∙ ap (λ rows. with_rows rows was) (switched_none id on was.rows none)

filings_none : (id : HookId) (was : Table) → IsHookTable was → lives id was.rows ≡ false → (if any_open was.passes then was.filed else without_filing id was.filed) ≡ was.filed
filings_none id was law none = by_bool (any_open was.passes)
    (λ t. ap (λ b. if b then was.filed else without_filing id was.filed) t)
    (λ t. ap (λ b. if b then was.filed else without_filing id was.filed) t
    ∙ ap (without_filing id) (law.all_live t)
    ∙ filter_map filing_of (λ row. not (is_id id row)) (λ filing. not (filing.id.0 == id.0)) (λ row. refl) was.rows
    ∙ ap (map filing_of) (without_none id was.rows none)
    ∙ sym (law.all_live t))

pub unhooks_none : (id : HookId) (was : Table) → IsHookTable was → lives id was.rows ≡ false → was ≡ without_row id was
unhooks_none id was law none = λ i. record {
  rows = sym (without_none id was.rows none) i;
  marks = sym (unmarks_none id was.rows was.marks none law.marks_live) i;
  hooked = was.hooked;
  filed = sym (filings_none id was law none) i;
  passes = was.passes;
}
