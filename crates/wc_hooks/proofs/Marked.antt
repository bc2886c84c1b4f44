-- The marks of running: they name entries that live, and no owner twice.
use Rattle.std.proofs.Common.{◌≡◌, ◌+◌, ◌≤◌, Bool, true, false, not, Some, None, List, [], ◌∷◌, ◌++◌, length, arith, refl, sym, ap, ◌∙◌, subst}
use Rattle.std.specs.Prelude.{filter, ◌&&◌, ◌==◌}
use Rattle.std.specs.List.{list_all, list_any}
use Rattle.std.proofs.lemmas.Bool.{and_parts, and_from, false≢true, true≢false, eqb-true, eq-eqb}
use Rattle.std.proofs.Common.{append-nil}
use Rattle.wc_hooks.specs.declared.entry.Entry.{Entry}
use Rattle.wc_hooks.specs.declared.entry.HookId.{HookId}
use Rattle.wc_hooks.specs.declared.entry.Owner.{Owner}
use Rattle.wc_hooks.specs.declared.entry.Owner.TheVariants.{Session, Trigger}
use Rattle.wc_hooks.specs.Kinds.{same_owner}
use Rattle.wc_hooks.specs.Ranks.{precedes}
use Rattle.wc_hooks.specs.Rows.{HookRow, rank_of, is_id, put_in, without, with_switch, rows_switched, lives}
use Rattle.wc_hooks.specs.Passes.{runs, with_given, without_mark}
use Rattle.wc_hooks.specs.Inside.{is_marked_in, owners_differ, IsMarked}
use Rattle.wc_hooks.proofs.Lists.{by_bool, not_true, keeps_first, drops_first, any_first, any_rest, any_more, any_weaker, any_map, all_filter, all_weaker}
use Rattle.wc_hooks.proofs.Puts.{put_before, put_after}

owner_true : (a b : Owner) → same_owner a b ≡ true → a ≡ b
owner_true (Session a) (Session b) e = let k : a.0 ≡ b.0 = eqb-true a.0 b.0 e in λ i. Session (record { 0 = k i })
owner_true (Session a) (Trigger b) e = absurd (false≢true e)
owner_true (Trigger a) (Session b) e = absurd (false≢true e)
owner_true (Trigger a) (Trigger b) e = ap Trigger (eqb-true a b e)

owner_self : (a : Owner) → same_owner a a ≡ true
owner_self (Session a) = eq-eqb a.0 a.0 refl
owner_self (Trigger a) = eq-eqb a a refl

-- no more are marked than live: each owner that is marked has an entry, and they differ
abbrev others_of : Owner → List HookRow → List HookRow
others_of owner rows = filter (λ row. not (same_owner row.owner owner)) rows

abbrev owned : List HookRow → Entry → Bool
owned rows mark = list_any (λ row. same_owner row.owner mark.owner) rows

fewer : (owner : Owner) (rows : List HookRow) → list_any (λ row. same_owner row.owner owner) rows ≡ true → length (others_of owner rows) + 1 ≤ length rows
fewer owner [] h = absurd (false≢true h)
fewer owner (row ∷ rows) h = by_bool (same_owner row.owner owner)
    (λ t. let e = ap length (drops_first (λ r. not (same_owner r.owner owner)) row rows (ap not t)) in let n = no_more owner rows in omega (arith, e, n))
    (λ t. let e = ap length (keeps_first (λ r. not (same_owner r.owner owner)) row rows (ap not t)) in
    let n = fewer owner rows (sym (any_rest (λ r. same_owner r.owner owner) row rows t) ∙ h) in omega (arith, e, n)) where
      no_more : (owner : Owner) (rows : List HookRow) → length (others_of owner rows) ≤ length rows
      no_more owner [] = omega arith
      no_more owner (row ∷ rows) = let n = no_more owner rows in by_bool (same_owner row.owner owner)
          (λ t. let e = ap length (drops_first (λ r. not (same_owner r.owner owner)) row rows (ap not t)) in omega (arith, e, n))
          (λ t. let e = ap length (keeps_first (λ r. not (same_owner r.owner owner)) row rows (ap not t)) in omega (arith, e, n))

still_owned : (owner : Owner) (mark : Entry) (rows : List HookRow) → same_owner mark.owner owner ≡ false → owned rows mark ≡ true → owned (others_of owner rows) mark ≡ true
still_owned owner mark [] differ h = absurd (false≢true h)
still_owned owner mark (row ∷ rows) differ h = by_bool (same_owner row.owner mark.owner)
    (λ t. let other : same_owner row.owner owner ≡ false = ap (λ o. same_owner o owner) (owner_true row.owner mark.owner t) ∙ differ in
    ap (list_any (λ r. same_owner r.owner mark.owner)) (keeps_first (λ r. not (same_owner r.owner owner)) row rows (ap not other)) ∙ any_first (λ r. same_owner r.owner mark.owner) row (others_of owner rows) t)
    (λ t. let ih = still_owned owner mark rows differ (sym (any_rest (λ r. same_owner r.owner mark.owner) row rows t) ∙ h) in by_bool (same_owner row.owner owner)
    (λ u. ap (list_any (λ r. same_owner r.owner mark.owner)) (drops_first (λ r. not (same_owner r.owner owner)) row rows (ap not u)) ∙ ih)
    (λ u. ap (list_any (λ r. same_owner r.owner mark.owner)) (keeps_first (λ r. not (same_owner r.owner owner)) row rows (ap not u)) ∙ any_more (λ r. same_owner r.owner mark.owner) row (others_of owner rows) ih))

all_owned : (owner : Owner) (marks : List Entry) (rows : List HookRow) → runs owner marks ≡ false → list_all (owned rows) marks ≡ true → list_all (owned (others_of owner rows)) marks ≡ true
all_owned owner [] rows none h = refl
all_owned owner (mark ∷ marks) rows none h =
    let parts = and_parts (owned rows mark) (list_all (owned rows) marks) h in
    by_bool (same_owner mark.owner owner)
    (λ t. absurd (true≢false (sym (any_first (λ m. same_owner m.owner owner) mark marks t) ∙ none)))
    (λ t. and_from _ _ (still_owned owner mark rows t parts.0) (all_owned owner marks rows (sym (any_rest (λ m. same_owner m.owner owner) mark marks t) ∙ none) parts.1))

no_more_than : (marks : List Entry) (rows : List HookRow) → owners_differ marks ≡ true → list_all (owned rows) marks ≡ true → length marks ≤ length rows
no_more_than [] rows apart h = omega arith
no_more_than (mark ∷ marks) rows apart h =
    let a = and_parts (not (runs mark.owner marks)) (owners_differ marks) apart in
    let parts = and_parts (owned rows mark) (list_all (owned rows) marks) h in
    let less = fewer mark.owner rows parts.0 in
    let ih = no_more_than marks (others_of mark.owner rows) a.1 (all_owned mark.owner marks rows (not_true _ a.0) parts.1) in
    omega (arith, less, ih)

marked_owned : (rows : List HookRow) (mark : Entry) → is_marked_in rows mark ≡ true → owned rows mark ≡ true
marked_owned rows mark h = any_weaker (λ row. is_id mark.id row && same_owner row.owner mark.owner) (λ row. same_owner row.owner mark.owner) (λ row t. (and_parts (is_id mark.id row) (same_owner row.owner mark.owner) t).1) rows h

pub most_marks : (rows : List HookRow) (marks : List Entry) → IsMarked rows marks → length marks ≤ length rows
most_marks rows marks m = no_more_than marks rows m.apart (all_weaker (is_marked_in rows) (owned rows) (λ mark h. marked_owned rows mark h) marks m.live)

-- what calls do to the marks
any_put : (p : HookRow → Bool) (a : HookRow) (rows : List HookRow) → list_any p rows ≡ true → list_any p (put_in a rows) ≡ true
any_put p a [] h = absurd (false≢true h)
any_put p a (row ∷ rows) h = by_bool (precedes (rank_of a) (rank_of row))
    (λ t. ap (list_any p) (put_before rank_of a row rows t) ∙ any_more p a (row ∷ rows) h)
    (λ t. ap (list_any p) (put_after rank_of a row rows t) ∙ by_bool (p row)
    (λ u. any_first p row (put_in a rows) u)
    (λ u. any_more p row (put_in a rows) (any_put p a rows (sym (any_rest p row rows u) ∙ h))))

pub marked_put : (a : HookRow) (rows : List HookRow) (marks : List Entry) → IsMarked rows marks → IsMarked (put_in a rows) marks
marked_put a rows marks m = record { live = all_weaker (is_marked_in rows) (is_marked_in (put_in a rows)) (λ mark h. any_put (λ row. is_id mark.id row && same_owner row.owner mark.owner) a rows h) marks m.live; apart = m.apart }

switched_marks : (id : HookId) (on : Bool) (mark : Entry) (row : HookRow) → (is_id mark.id (with_switch id on row) && same_owner (with_switch id on row).owner mark.owner) ≡ (is_id mark.id row && same_owner row.owner mark.owner)
switched_marks id on mark row = by_bool (is_id id row) (λ t. rw t refl) (λ t. rw t refl)

pub marked_switched : (id : HookId) (on : Bool) (rows : List HookRow) (marks : List Entry) → IsMarked rows marks → IsMarked (rows_switched id on rows) marks
marked_switched id on rows marks m = record {
  live = all_weaker (is_marked_in rows) (is_marked_in (rows_switched id on rows)) (λ mark h. any_map (λ row. is_id mark.id row && same_owner row.owner mark.owner) (λ row. is_id mark.id row && same_owner row.owner mark.owner) (with_switch id on) (switched_marks id on mark) rows ∙ h) marks m.live;
  apart = m.apart;
}

any_filter : (p q : Entry → Bool) (marks : List Entry) → list_any p marks ≡ false → list_any p (filter q marks) ≡ false
any_filter p q [] h = refl
any_filter p q (mark ∷ marks) h = by_bool (p mark)
    (λ t. absurd (true≢false (sym (any_first p mark marks t) ∙ h)))
    (λ t. let ih = any_filter p q marks (sym (any_rest p mark marks t) ∙ h) in by_bool (q mark)
    (λ u. ap (list_any p) (keeps_first q mark marks u) ∙ any_rest p mark (filter q marks) t ∙ ih)
    (λ u. ap (list_any p) (drops_first q mark marks u) ∙ ih))

differ_filter : (q : Entry → Bool) (marks : List Entry) → owners_differ marks ≡ true → owners_differ (filter q marks) ≡ true
differ_filter q [] h = refl
differ_filter q (mark ∷ marks) h =
    let parts = and_parts (not (runs mark.owner marks)) (owners_differ marks) h in
    by_bool (q mark)
    (λ u. ap owners_differ (keeps_first q mark marks u) ∙ and_from _ _ (ap not (any_filter (λ m. same_owner m.owner mark.owner) q marks (not_true _ parts.0))) (differ_filter q marks parts.1))
    (λ u. ap owners_differ (drops_first q mark marks u) ∙ differ_filter q marks parts.1)

pub marked_ended : (id : HookId) (rows : List HookRow) (marks : List Entry) → IsMarked rows marks → IsMarked rows (without_mark id marks)
marked_ended id rows marks m = record { live = all_filter (is_marked_in rows) (λ mark. not (mark.id.0 == id.0)) marks m.live; apart = differ_filter (λ mark. not (mark.id.0 == id.0)) marks m.apart }

-- the entry of another number lives on
lives_on : (id : HookId) (mark : Entry) (rows : List HookRow) → (mark.id.0 == id.0) ≡ false → is_marked_in rows mark ≡ true → is_marked_in (without id rows) mark ≡ true
lives_on id mark [] differ h = absurd (false≢true h)
lives_on id mark (row ∷ rows) differ h =
    let p = λ (r : HookRow). is_id mark.id r && same_owner r.owner mark.owner in
    by_bool (p row)
    (λ t. let here : is_id id row ≡ false = (let e : row.id.0 ≡ mark.id.0 = eqb-true _ _ (and_parts (is_id mark.id row) (same_owner row.owner mark.owner) t).0 in ap (λ n. n == id.0) e ∙ differ) in
    ap (list_any p) (keeps_first (λ r. not (is_id id r)) row rows (ap not here)) ∙ any_first p row (without id rows) t)
    (λ t. let ih = lives_on id mark rows differ (sym (any_rest p row rows t) ∙ h) in by_bool (is_id id row)
    (λ u. ap (list_any p) (drops_first (λ r. not (is_id id r)) row rows (ap not u)) ∙ ih)
    (λ u. ap (list_any p) (keeps_first (λ r. not (is_id id r)) row rows (ap not u)) ∙ any_more p row (without id rows) ih))

all_live_on : (id : HookId) (rows : List HookRow) (marks : List Entry) → list_all (is_marked_in rows) marks ≡ true → list_all (is_marked_in (without id rows)) (without_mark id marks) ≡ true
all_live_on id rows [] h = refl
all_live_on id rows (mark ∷ marks) h =
    let parts = and_parts (is_marked_in rows mark) (list_all (is_marked_in rows) marks) h in
    by_bool (mark.id.0 == id.0)
    (λ t. ap (list_all (is_marked_in (without id rows))) (drops_first (λ m. not (m.id.0 == id.0)) mark marks (ap not t)) ∙ all_live_on id rows marks parts.1)
    (λ t. ap (list_all (is_marked_in (without id rows))) (keeps_first (λ m. not (m.id.0 == id.0)) mark marks (ap not t)) ∙ and_from _ _ (lives_on id mark rows t parts.0) (all_live_on id rows marks parts.1))

pub marked_left : (id : HookId) (rows : List HookRow) (marks : List Entry) → IsMarked rows marks → IsMarked (without id rows) (without_mark id marks)
marked_left id rows marks m = record { live = all_live_on id rows marks m.live; apart = differ_filter (λ mark. not (mark.id.0 == id.0)) marks m.apart }

-- one more
all_more : (q : Entry → Bool) (marks : List Entry) (mark : Entry) → list_all q marks ≡ true → q mark ≡ true → list_all q (marks ++ mark ∷ []) ≡ true
all_more q [] mark h t = and_from _ _ t refl
all_more q (m ∷ marks) mark h t = let parts = and_parts (q m) (list_all q marks) h in and_from _ _ parts.0 (all_more q marks mark parts.1 t)

owner_turned : (a b : Owner) → same_owner a b ≡ false → same_owner b a ≡ false
owner_turned a b h = by_bool (same_owner b a) (λ t. absurd (true≢false (sym (ap (λ o. same_owner o b) (sym (owner_true b a t)) ∙ owner_self b) ∙ h))) (λ t. t)

runs_more : (owner : Owner) (marks : List Entry) (mark : Entry) → runs owner marks ≡ false → same_owner mark.owner owner ≡ false → runs owner (marks ++ mark ∷ []) ≡ false
runs_more owner [] mark h t = any_rest (λ m. same_owner m.owner owner) mark [] t
runs_more owner (m ∷ marks) mark h t = by_bool (same_owner m.owner owner)
    (λ u. absurd (true≢false (sym (any_first (λ k. same_owner k.owner owner) m marks u) ∙ h)))
    (λ u. any_rest (λ k. same_owner k.owner owner) m (marks ++ mark ∷ []) u ∙ runs_more owner marks mark (sym (any_rest (λ k. same_owner k.owner owner) m marks u) ∙ h) t)

differ_more : (marks : List Entry) (mark : Entry) → owners_differ marks ≡ true → runs mark.owner marks ≡ false → owners_differ (marks ++ mark ∷ []) ≡ true
differ_more [] mark h t = refl
differ_more (m ∷ marks) mark h t =
    let parts = and_parts (not (runs m.owner marks)) (owners_differ marks) h in
    by_bool (same_owner m.owner mark.owner)
    (λ u. absurd (true≢false (sym (any_first (λ k. same_owner k.owner mark.owner) m marks u) ∙ t)))
    (λ u. and_from _ _ (ap not (runs_more m.owner marks mark (not_true _ parts.0) (owner_turned m.owner mark.owner u))) (differ_more marks mark parts.1 (sym (any_rest (λ k. same_owner k.owner mark.owner) m marks u) ∙ t)))

pub marked_given : (rows : List HookRow) (marks : List Entry) (mark : Entry) → IsMarked rows marks → is_marked_in rows mark ≡ true → runs mark.owner marks ≡ false → IsMarked rows (with_given (Some mark) marks)
marked_given rows marks mark m live idle = record { live = all_more (is_marked_in rows) marks mark m.live live; apart = differ_more marks mark m.apart idle }

pub marked_none : (rows : List HookRow) (marks : List Entry) → IsMarked rows marks → IsMarked rows (with_given None marks)
marked_none rows marks m = subst (IsMarked rows) (sym (append-nil marks)) m

-- a mark names an entry that lives
pub marks_live : (rows : List HookRow) (marks : List Entry) → IsMarked rows marks → list_all (λ mark. lives mark.id rows) marks ≡ true
marks_live rows marks m = all_weaker (is_marked_in rows) (λ mark. lives mark.id rows) (λ mark h. any_weaker (λ row. is_id mark.id row && same_owner row.owner mark.owner) (is_id mark.id) (λ row t. (and_parts (is_id mark.id row) (same_owner row.owner mark.owner) t).0) rows h) marks m.live

-- where the entry does not live, no mark names it
pub unmarks_none : (id : HookId) (rows : List HookRow) (marks : List Entry) → lives id rows ≡ false → list_all (λ mark. lives mark.id rows) marks ≡ true → without_mark id marks ≡ marks
unmarks_none id rows [] none h = refl
unmarks_none id rows (mark ∷ marks) none h =
    let parts = and_parts (lives mark.id rows) (list_all (λ m. lives m.id rows) marks) h in
    by_bool (mark.id.0 == id.0)
    (λ t. absurd (true≢false (sym parts.0 ∙ (let e : mark.id.0 ≡ id.0 = eqb-true _ _ t in ap (λ n. list_any (λ row. row.id.0 == n) rows) e) ∙ none)))
    (λ t. keeps_first (λ m. not (m.id.0 == id.0)) mark marks (ap not t) ∙ ap (λ l. mark ∷ l) (unmarks_none id rows marks none parts.1))
