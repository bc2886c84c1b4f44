-- A pass over the entries of the clients, turn by turn.
use Rattle.std.proofs.Common.{◌≡◌, ℕ, zero, suc, ◌+◌, ◌<◌, ◌≤◌, Bool, true, false, not, cond, eqb, ◌&&◌, Option, Some, None, List, [], ◌∷◌, length, map, drop, get_or, set, refl, ap, sym, subst, ◌∙◌, arith}
use Rattle.std.specs.Prelude.{option_to_list, is_some}
use Rattle.std.proofs.lemmas.Bool.{and_from, false≢true, eq-eqb, eqb-true}
use Rattle.std.proofs.lemmas.List.{drop-set-lt, drop_all}
use Rattle.wc_hooks.specs.declared.entry.Entry.{Entry}
use Rattle.wc_hooks.specs.declared.entry.HookId.{HookId}
use Rattle.wc_hooks.specs.declared.kind.HookKind.TheVariants.{Relay}
use Rattle.wc_hooks.specs.Rows.{HookRow, entry_of, is_id, is_on, without}
use Rattle.wc_hooks.specs.Passes.{hooks_on, due, entries_left, may_run, with_given, without_mark}
use Rattle.wc_hooks.specs.Table.{Table, Going, IsOpen, pass_at, left_at, left_of, looked_at, over_at, opening, with_pass, next_of, after_next}
use Rattle.wc_hooks.proofs.Lists.{by_bool, drops_first, any_first, any_more}
use Rattle.wc_board.specs.declared.connection.Connection.{Connection}
use Rattle.wc_board.specs.Connections.{is_open}
use Rattle.wc_board.specs.Hooked.{entry_row, entry_rows, are_rising, AreHooked}
use Rattle.wc_board.specs.RelayPass.{relay_alone, entries_from, IsPassAt, GivesFirst, IsGivenAt, is_given, turn_ended}
use Rattle.wc_board.proofs.HookedLemmas.{rising_parts, differs, rows_kept, rows_shut, all_taken}

-- ---- the place of the pass

alone_again : (pass other : Option Going) → set (relay_alone pass) 16 other ≡ relay_alone other
alone_again pass other = refl

-- ---- the entries that are left

abbrev entries_first : Bool → HookId → Connection → List HookRow → List Entry
entries_first b id c rows = map entry_of (cond b (entry_row id c ∷ rows) rows)

-- the first of these entries has a number above the bound
first_above : (low high : ℕ) (ids : List HookId) (cs : List Connection) (entry : Entry) (left : List Entry) → are_rising low high ids ≡ true → map entry_of (entry_rows ids cs) ≡ entry ∷ left → low < entry.id.0
first_above low high [] cs entry left rising e = absurd (cc)
first_above low high (id ∷ ids) [] entry left rising e = absurd (cc)
first_above low high (id ∷ ids) (c ∷ cs) entry left rising e =
    let parts = rising_parts low high id ids rising in
    by_bool (is_open c)
    (λ t. let all : entry_of (entry_row id c) ∷ map entry_of (entry_rows ids cs) ≡ entry ∷ left = ap (λ b. entries_first b id c (entry_rows ids cs)) (sym t) ∙ e in
    let same : entry_of (entry_row id c) ≡ entry = cc in
    let number : id.0 ≡ entry.id.0 = ap (λ (x : Entry). x.id.0) same in
    omega (arith, parts.0, number))
    (λ f. let all : map entry_of (entry_rows ids cs) ≡ entry ∷ left = ap (λ b. entries_first b id c (entry_rows ids cs)) (sym f) ∙ e in
    let more = first_above id.0 high ids cs entry left parts.1.1 all in
    omega (arith, parts.0, more))

-- the first of the entries that are left is on
first_on : (ids : List HookId) (cs : List Connection) (i : ℕ) (entry : Entry) (left : List Entry) → entries_from i ids cs ≡ entry ∷ left → is_on entry.id (entry_rows ids cs) ≡ true
first_on [] cs zero entry left e = absurd (cc)
first_on [] cs (suc i) entry left e = absurd (cc)
first_on (id ∷ ids) [] zero entry left e = absurd (cc)
first_on (id ∷ ids) [] (suc i) entry left e = absurd (none (drop i ids) e) where
  none : (ids : List HookId) → map entry_of (entry_rows ids []) ≡ entry ∷ left → ⊥
  none [] e = cc
  none (id ∷ ids) e = cc
first_on (id ∷ ids) (c ∷ cs) zero entry left e = by_bool (is_open c)
    (λ t. let all : entry_of (entry_row id c) ∷ map entry_of (entry_rows ids cs) ≡ entry ∷ left = ap (λ b. entries_first b id c (entry_rows ids cs)) (sym t) ∙ e in
    let same : entry_of (entry_row id c) ≡ entry = cc in
    let number : id.0 ≡ entry.id.0 = ap (λ (x : Entry). x.id.0) same in
    ap (λ b. is_on entry.id (cond b (entry_row id c ∷ entry_rows ids cs) (entry_rows ids cs))) t
    ∙ any_first (λ row. is_id entry.id row && row.enabled) (entry_row id c) (entry_rows ids cs) (and_from _ _ (eq-eqb id.0 entry.id.0 number) refl))
    (λ f. ap (λ b. is_on entry.id (cond b (entry_row id c ∷ entry_rows ids cs) (entry_rows ids cs))) f
    ∙ first_on ids cs zero entry left (ap (λ b. entries_first b id c (entry_rows ids cs)) (sym f) ∙ e))
first_on (id ∷ ids) (c ∷ cs) (suc i) entry left e =
    let more = first_on ids cs i entry left e in
    by_bool (is_open c)
    (λ t. ap (λ b. is_on entry.id (cond b (entry_row id c ∷ entry_rows ids cs) (entry_rows ids cs))) t ∙ any_more (λ row. is_id entry.id row && row.enabled) (entry_row id c) (entry_rows ids cs) more)
    (λ f. ap (λ b. is_on entry.id (cond b (entry_row id c ∷ entry_rows ids cs) (entry_rows ids cs))) f ∙ more)

abbrev HasFirstOn : List HookRow → List Entry → Type 0
HasFirstOn rows [] = Unit {0}
HasFirstOn rows (entry ∷ left) = is_on entry.id rows ≡ true

has_first : (ids : List HookId) (cs : List Connection) (i : ℕ) (entries : List Entry) → entries_from i ids cs ≡ entries → HasFirstOn (entry_rows ids cs) entries
has_first ids cs i [] e = tt
has_first ids cs i (entry ∷ left) e = first_on ids cs i entry left e

-- where none runs, the first is given
first_given : (rows : List HookRow) (entries : List Entry) → HasFirstOn rows entries → GivesFirst (due rows [] entries) (entries_left rows [] entries) entries
first_given rows [] on = refl
first_given rows (entry ∷ left) on =
    let runs_now : may_run rows [] entry ≡ true = and_from _ _ on refl in
    let P : Bool → Type 0 = λ b. GivesFirst (cond b (Some entry) (due rows [] left)) (cond b left (entries_left rows [] left)) (entry ∷ left) in
    subst P (sym runs_now) refl

-- ---- turns

-- the entry that was given is that of the next connection exactly where its client is open
pub turn_is : (low high : ℕ) (ids : List HookId) (cs : List Connection) (i : ℕ) (id : HookId) (x : Connection) (given : Option Entry) (left : List Entry) → are_rising low high ids ≡ true → length ids ≡ length cs → i < length ids
    → id ≡ get_or ids i id → x ≡ get_or cs i x → GivesFirst given left (entries_from i ids cs) → is_given given id ≡ is_open x
turn_is low high [] cs i id x given left rising each inside at here first = absurd (omega (arith, inside))
turn_is low high (h ∷ ids) [] i id x given left rising each inside at here first = absurd (omega (arith, each))
turn_is low high (h ∷ ids) (c ∷ cs) (suc i) id x given left rising each inside at here first =
    turn_is h.0 high ids cs i id x given left (rising_parts low high h ids rising).1.1 (omega (arith, each)) (omega (arith, inside)) at here first
turn_is low high (h ∷ ids) (c ∷ cs) zero id x given left rising each inside at here first =
    let parts = rising_parts low high h ids rising in
    let opens : is_open x ≡ is_open c = ap is_open here in
    let number : id.0 ≡ h.0 = ap (λ (s : HookId). s.0) at in
    by (is_open c) refl given first parts.1.1 number ∙ sym opens
  where
    by : (b : Bool) → is_open c ≡ b → (given : Option Entry) → GivesFirst given left (map entry_of (cond (is_open c) (entry_row h c ∷ entry_rows ids cs) (entry_rows ids cs))) → are_rising h.0 high ids ≡ true → id.0 ≡ h.0 → is_given given id ≡ is_open c
    by true t None first rising number = let none : entry_of (entry_row h c) ∷ map entry_of (entry_rows ids cs) ≡ [] = ap (λ b. entries_first b h c (entry_rows ids cs)) (sym t) ∙ first in absurd (cc)
    by true t (Some entry) first rising number =
        let all : entry_of (entry_row h c) ∷ map entry_of (entry_rows ids cs) ≡ entry ∷ left = ap (λ b. entries_first b h c (entry_rows ids cs)) (sym t) ∙ first in
        let same : entry_of (entry_row h c) ≡ entry = cc in
        let its : h.0 ≡ entry.id.0 = ap (λ (s : Entry). s.id.0) same in
        eq-eqb entry.id.0 id.0 (omega (arith, its, number)) ∙ sym t
    by false f None first rising number = sym f
    by false f (Some entry) first rising number =
        let all : map entry_of (entry_rows ids cs) ≡ entry ∷ left = ap (λ b. entries_first b h c (entry_rows ids cs)) (sym f) ∙ first in
        let above = first_above h.0 high ids cs entry left rising all in
        differs id.0 entry.id.0 (omega (arith, above, number)) ∙ sym f

-- the entries from a connection on, where its client is open and where it is not
from_open : (ids : List HookId) (cs : List Connection) (i : ℕ) (id : HookId) (x : Connection) → length ids ≡ length cs → i < length ids → id ≡ get_or ids i id → x ≡ get_or cs i x → is_open x ≡ true → entries_from i ids cs ≡ entry_of (entry_row id x) ∷ entries_from (suc i) ids cs
from_open [] cs i id x each inside at here opened = absurd (omega (arith, inside))
from_open (h ∷ ids) [] i id x each inside at here opened = absurd (omega (arith, each))
from_open (h ∷ ids) (c ∷ cs) (suc i) id x each inside at here opened = from_open ids cs i id x (omega (arith, each)) (omega (arith, inside)) at here opened
from_open (h ∷ ids) (c ∷ cs) zero id x each inside at here opened =
    ap (λ b. entries_first b h c (entry_rows ids cs)) (ap is_open (sym here) ∙ opened)
    ∙ ap (λ (s : HookId). entry_of (entry_row s c) ∷ map entry_of (entry_rows ids cs)) (sym at)
    ∙ ap (λ (s : Connection). entry_of (entry_row id s) ∷ map entry_of (entry_rows ids cs)) (sym here)

from_shut : (ids : List HookId) (cs : List Connection) (i : ℕ) (x : Connection) → length ids ≡ length cs → i < length ids → x ≡ get_or cs i x → is_open x ≡ false → entries_from i ids cs ≡ entries_from (suc i) ids cs
from_shut [] cs i x each inside here shut = absurd (omega (arith, inside))
from_shut (h ∷ ids) [] i x each inside here shut = absurd (omega (arith, each))
from_shut (h ∷ ids) (c ∷ cs) (suc i) x each inside here shut = from_shut ids cs i x (omega (arith, each)) (omega (arith, inside)) here shut
from_shut (h ∷ ids) (c ∷ cs) zero x each inside here shut = ap (λ b. entries_first b h c (entry_rows ids cs)) (ap is_open (sym here) ∙ shut)

-- ---- the table through a pass

-- a pass over all entries opens
pub pass_opened : (old new : Table) (ids : List HookId) (drawn place : ℕ) (key : List ℕ) (cs : List Connection) → AreHooked old ids drawn cs → place ≡ 16 → key ≡ [] → new ≡ with_pass place (Some (opening Relay key old)) old → IsPassAt new ids 0 cs
pass_opened old new ids drawn place key cs hooked here empty made =
    let made_here : new ≡ with_pass 16 (Some (opening Relay [] old)) old =
    made ∙ ap (λ n. with_pass n (Some (opening Relay key old)) old) here ∙ ap (λ bytes. with_pass 16 (Some (opening Relay bytes old)) old) empty in
    let P : Table → Type 0 = λ t. IsPassAt t ids 0 cs in
    let passes : set old.passes 16 (Some (opening Relay [] old)) ≡ relay_alone (Some (opening Relay [] old)) = ap (λ ps. set ps 16 (Some (opening Relay [] old))) hooked.passes in
    let at : pass_at (with_pass 16 (Some (opening Relay [] old)) old) 16 ≡ Some (opening Relay [] old) = ap (λ ps. get_or ps 16 None) passes in
    subst P (sym made_here) (record {
      rows = hooked.rows;
      marks = hooked.marks;
      passes = passes ∙ ap relay_alone (sym at);
      is_open = ap is_some at;
      left = ap left_of at ∙ ap (λ rows. hooks_on Relay [] rows) hooked.rows ∙ ap (map entry_of) (all_taken ids cs);
    })

-- the next entry is given
pub given_next : (old new : Table) (place steps : ℕ) (ids : List HookId) (i : ℕ) (cs : List Connection) (given : Option Entry) → IsPassAt old ids i cs → place ≡ 16 → given ≡ next_of old place → new ≡ after_next old place steps → IsGivenAt new ids i cs given
given_next old new place steps ids i cs given pass here given_is made_is =
    let is : given ≡ next_of old 16 = given_is ∙ ap (next_of old) here in
    let made : new ≡ after_next old 16 steps = made_is ∙ ap (λ n. after_next old n steps) here in
    let entries = entries_from i ids cs in
    let rows = entry_rows ids cs in
    let found : next_of old 16 ≡ due rows [] entries = ap (λ rs. due rs old.marks (left_at old 16)) pass.rows ∙ ap (λ ms. due rows ms (left_at old 16)) pass.marks ∙ ap (λ es. due rows [] es) pass.left in
    let rest : entries_left old.rows old.marks (left_at old 16) ≡ entries_left rows [] entries =
    ap (λ rs. entries_left rs old.marks (left_at old 16)) pass.rows ∙ ap (λ ms. entries_left rows ms (left_at old 16)) pass.marks ∙ ap (λ es. entries_left rows [] es) pass.left in
    let going : Going = record { left = entries_left old.rows old.marks (left_at old 16); looked = looked_at old 16 + steps; over = over_at old 16 } in
    let passes : set old.passes 16 (Some going) ≡ relay_alone (Some going) = ap (λ ps. set ps 16 (Some going)) pass.passes ∙ alone_again (pass_at old 16) (Some going) in
    let at : pass_at (after_next old 16 steps) 16 ≡ Some going = ap (λ ps. get_or ps 16 None) passes in
    let P : Table → Type 0 = λ t. IsGivenAt t ids i cs given in
    let Q : Option Entry → Type 0 = λ g. GivesFirst g (left_at (after_next old 16 steps) 16) entries in
    let R : List Entry → Type 0 = λ left. GivesFirst (due rows [] entries) left entries in
    subst P (sym made) (record {
      rows = pass.rows;
      marks = ap (λ ms. with_given (next_of old 16) ms) pass.marks ∙ ap option_to_list (sym is);
      passes = passes ∙ ap relay_alone (sym at);
      is_open = ap is_some at;
      first = subst Q (sym (is ∙ found)) (subst R (sym (ap left_of at ∙ rest)) (first_given rows entries (has_first ids cs i entries refl)));
    })

-- a client that is leaving has no turn
pub passed_over : (table : Table) (ids : List HookId) (i : ℕ) (cs : List Connection) (given : Option Entry) (x : Connection) → IsGivenAt table ids i cs given → length ids ≡ length cs → i < length ids → x ≡ get_or cs i x → is_open x ≡ false → IsGivenAt table ids (suc i) cs given
passed_over table ids i cs given x pass each inside here shut = record {
  rows = pass.rows;
  marks = pass.marks;
  passes = pass.passes;
  is_open = pass.is_open;
  first = subst (λ (entries : List Entry). GivesFirst given (left_at table 16) entries) (from_shut ids cs i x each inside here shut) pass.first;
}

mark_ended : (id : HookId) (entry : Entry) → entry.id.0 ≡ id.0 → without_mark id (entry ∷ []) ≡ []
mark_ended id entry e = drops_first (λ (mark : Entry). not (eqb mark.id.0 id.0)) entry [] (ap not (eq-eqb entry.id.0 id.0 e))

tails_same : (a b : Entry) (xs ys : List Entry) → a ∷ xs ≡ b ∷ ys → xs ≡ ys
tails_same a b xs ys e = cc

-- the client whose entry was given had its turn: it is open as before, or its entry is gone
pub turn_over : (old new : Table) (ids : List HookId) (high i : ℕ) (cs : List Connection) (given : Option Entry) (id : HookId) (x y : Connection) (stays : Bool) → IsGivenAt old ids i cs given → are_rising 0 high ids ≡ true → length ids ≡ length cs → i < length ids
    → id ≡ get_or ids i id → x ≡ get_or cs i x → is_given given id ≡ true → new ≡ turn_ended id stays old
    → (stays ≡ true → is_open y ≡ is_open x) → (stays ≡ false → is_open y ≡ false) → y.session.client.link ≡ x.session.client.link → IsPassAt new ids (suc i) (set cs i y)
turn_over old new ids high i cs None id x y stays pass rising each inside at here is made opens shuts link = absurd (false≢true is)
turn_over old new ids high i cs (Some entry) id x y stays pass rising each inside at here is made opens shuts link =
    subst (λ (t : Table). IsPassAt t ids (suc i) (set cs i y)) (sym made) (by stays opens shuts)
  where
    opened : is_open x ≡ true
    opened = sym (turn_is 0 high ids cs i id x (Some entry) (left_at old 16) rising each inside at here pass.first) ∙ is

    ended : without_mark id old.marks ≡ []
    ended = ap (without_mark id) pass.marks ∙ mark_ended id entry (eqb-true entry.id.0 id.0 is)

    left : left_at old 16 ≡ entries_from (suc i) ids (set cs i y)
    left = tails_same entry (entry_of (entry_row id x)) (left_at old 16) (entries_from (suc i) ids cs) (sym pass.first ∙ from_open ids cs i id x each inside at here opened)
        ∙ ap (λ rest. map entry_of (entry_rows (drop (suc i) ids) rest)) (sym (drop-set-lt (suc i) cs i y (omega arith)))

    by : (stays : Bool) → (stays ≡ true → is_open y ≡ is_open x) → (stays ≡ false → is_open y ≡ false) → IsPassAt (turn_ended id stays old) ids (suc i) (set cs i y)
    by true opens shuts = record {
      rows = pass.rows ∙ sym (rows_kept ids cs i x y here (opens refl) link);
      marks = ended;
      passes = pass.passes;
      is_open = pass.is_open;
      left = left;
    }
    by false opens shuts = record {
      rows = ap (without id) pass.rows ∙ sym (rows_shut id 0 high ids cs i y rising each inside at (shuts refl));
      marks = ap (without_mark id) ended;
      passes = pass.passes;
      is_open = pass.is_open;
      left = left;
    }

-- a turn opens and closes no pass, and draws no number
pub turn_open : (old new : Table) (id : HookId) (stays : Bool) (place : ℕ) → new ≡ turn_ended id stays old → IsOpen old place → IsOpen new place
turn_open old new id stays place made is_open_now = subst (λ (t : Table). IsOpen t place) (sym made) (by stays) where
  by : (stays : Bool) → IsOpen (turn_ended id stays old) place
  by true = is_open_now
  by false = is_open_now

pub turn_drawn : (old new : Table) (id : HookId) (stays : Bool) → new ≡ turn_ended id stays old → new.hooked ≡ old.hooked
turn_drawn old new id stays made = ap (λ (t : Table). t.hooked) made ∙ by stays where
  by : (stays : Bool) → (turn_ended id stays old).hooked ≡ old.hooked
  by true = refl
  by false = refl

-- once all had their turn none is running
pub all_over : (table : Table) (ids : List HookId) (i : ℕ) (cs : List Connection) (given : Option Entry) → IsGivenAt table ids i cs given → length ids ≤ i → table.marks ≡ []
all_over table ids i cs None pass past = pass.marks
all_over table ids i cs (Some entry) pass past =
    let none : entries_from i ids cs ≡ [] = ap (λ rest. map entry_of (entry_rows rest (drop i cs))) (drop_all i ids past) in
    let some : [] ≡ entry ∷ left_at table 16 = sym none ∙ pass.first in
    absurd (cc)
