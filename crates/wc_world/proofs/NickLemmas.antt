-- The nicklists as they are stored, seen as a map of lists of rows.
use Rattle.std.proofs.Common.{◌≡◌, ℕ, ◌+◌, ◌≤◌, Bool, true, false, cond, eqb, List, [], ◌∷◌, map, length, Option, Some, None, option_map, unwrap_or, is_some, refl, ap, sym, subst, ◌∙◌, arith, eq-eqb, eqb-true}
use Rattle.std.specs.Prelude.{IfSome, option_copied}
use Rattle.std.specs.Borrow.{Bor}
use Rattle.std.specs.FinMap.{FinMap, get, insert, remove, entries, from_entries, empty, len-entries, len-empty}
use Rattle.std.specs.Map.{lookup}
use Rattle.std.specs.HashMap.{HashMap}
use Rattle.std.specs.Ordering.{nat_cmp}
use Rattle.std.proofs.lemmas.Bool.{false≢true}
use Rattle.wc_nicklist.specs.declared.item.Row.{Row}
use Rattle.wc_nicklist.specs.Rows.{Nicks, IsRows}
use Rattle.wc_text.specs.declared.names.Handle.{Handle}
use Rattle.wc_buffers.specs.Calls.{EntryGroups, handle_of}
use Rattle.wc_buffers.specs.Groups.{has}
use Rattle.wc_buffers.proofs.GroupLaws.{by_bool}
use Rattle.wc_model.specs.World.{root_at, count_rows, row_limit}
use Rattle.wc_world.specs.Nicks.{list_at, rows_of, room_of, rows_map, shown_list, with_room, with_edit, AreSameRows, IsListChangedAt, AreCut, IsList, AreNicks}
use Rattle.wc_world.proofs.Counted.{some_rows, count-insert, count-remove}
use Rattle.wc_world.proofs.MapLemmas.{get_shown, same_shown, put_shown, removed_shown, map_in_cond}

abbrev rows_in : Nicks → List Row
rows_in x = x.rows

abbrev root_and_rows : Handle × List Row → List Row
root_and_rows p = p.1

-- the rows of what is shown of a nicklist
pub rows_shown : (o : Option Nicks) → option_map rows_in o ≡ option_map root_and_rows (option_map shown_list o)
rows_shown None = refl
rows_shown (Some x) = refl

pub some_shown : (o : Option Nicks) → is_some (option_map shown_list o) ≡ is_some o
some_shown None = refl
some_shown (Some x) = refl

pub get_rows : {S : Type 0} (m : HashMap ℕ Nicks S) (q : ℕ) → get (rows_map m) q ≡ option_map rows_in (list_at m q)
get_rows m q = get_shown rows_in m q

pub rows_there : {S : Type 0} (m : HashMap ℕ Nicks S) (q : ℕ) → some_rows (get (rows_map m) q) ≡ rows_of (list_at m q)
rows_there m q = ap some_rows (get_rows m q) ∙ by (list_at m q)
  where
    by : (o : Option Nicks) → some_rows (option_map rows_in o) ≡ rows_of o
    by None = refl
    by (Some x) = refl

module _ {S T : Type 0} (m : HashMap ℕ Nicks S) (n : HashMap ℕ Nicks T) where
  pub same_rows : AreSameRows m n → rows_map n ≡ rows_map m
  same_rows is = same_shown rows_in m n (λ q. rows_shown (list_at n q) ∙ ap (option_map root_and_rows) (is q) ∙ sym (rows_shown (list_at m q)))

  pub put_rows : (h : ℕ) (x : Nicks) → ((q : ℕ) → list_at n q ≡ cond (eqb h q) (Some x) (list_at m q)) → rows_map n ≡ insert (rows_map m) h x.rows
  put_rows h x is = put_shown rows_in m n h x.rows (λ q. ap (option_map rows_in) (is q) ∙ map_in_cond rows_in (eqb h q) (Some x) (list_at m q))

  pub removed_rows : (h : ℕ) → ((q : ℕ) → list_at n q ≡ cond (eqb h q) None (list_at m q)) → rows_map n ≡ remove (rows_map m) h
  removed_rows h is = removed_shown rows_in m n h (λ q. ap (option_map rows_in) (is q) ∙ map_in_cond rows_in (eqb h q) None (list_at m q))

  pub same_lists : ((q : ℕ) → list_at n q ≡ list_at m q) → AreSameRows m n
  same_lists is q = ap (option_map shown_list) (is q)

  -- room is not seen
  pub roomy_lists : (h : ℕ) (parent : List ℕ) → IsListChangedAt h (with_room parent) m n → AreSameRows m n
  roomy_lists h parent is q = ap (option_map shown_list) (is q) ∙ by_bool (eqb h q) _ (λ t. rw t (by (list_at m q))) (λ t. rw t refl)
    where
      by : (o : Option Nicks) → option_map shown_list (option_map (with_room parent) o) ≡ option_map shown_list o
      by None = refl
      by (Some x) = refl

  -- a nicklist that was changed is one that is put in
  pub list_put : (h : ℕ) (f : Nicks → Nicks) (x : Nicks) → list_at m h ≡ Some x → IsListChangedAt h f m n → (q : ℕ) → list_at n q ≡ cond (eqb h q) (Some (f x)) (list_at m q)
  list_put h f x at is q = is q ∙ by_bool (eqb h q) _ (λ t. rw t (ap (λ k. option_map f (list_at m k)) (sym (eqb-true h q t)) ∙ ap (option_map f) at)) (λ t. rw t refl)

pub some_list : (o : Option Nicks) → is_some o ≡ true → (x : Nicks) × (o ≡ Some x)
some_list None e = absurd (false≢true e)
some_list (Some x) e = (x, refl)

-- ---- what holds of the nicklists still holds

pub kept_nicks : {S : Type 0} (gs hs : EntryGroups) (m : HashMap ℕ Nicks S) (count : ℕ) → ((q : ℕ) → has handle_of q hs ≡ has handle_of q gs) → AreNicks gs m count → AreNicks hs m count
kept_nicks gs hs m count e w = record {
  stored = λ q. w.stored q ∙ sym (e q);
  fit = w.fit;
  counted = w.counted;
  most = w.most;
}

none_held : IsRows []
none_held = record { ascending = tt; keyed = tt; held = λ k r e. absurd cc }

-- the rows of each buffer are rows that a nicklist can hold
pub all_held : {S : Type 0} (gs : EntryGroups) (m : HashMap ℕ Nicks S) (count : ℕ) → AreNicks gs m count → (b : ℕ) → IsRows (some_rows (get (rows_map m) b))
all_held gs m count w b = subst IsRows (sym (rows_there m b)) (by (list_at m b) (w.fit b))
  where
    by : (o : Option Nicks) → ((x : Nicks) → o ≡ Some x → IsList b x) → IsRows (rows_of o)
    by None f = none_held
    by (Some x) f = (f x refl).held

-- where roots and rows are the same
pub kept_shown : {S T : Type 0} (gs hs : EntryGroups) (m : HashMap ℕ Nicks S) (n : HashMap ℕ Nicks T) (count : ℕ) → hs ≡ gs → AreSameRows m n → AreNicks gs m count → AreNicks hs n count
kept_shown gs hs m n count g s w = subst (λ g. AreNicks g n count) (sym g) (record {
  stored = λ q. sym (some_shown (list_at n q)) ∙ ap is_some (s q) ∙ some_shown (list_at m q) ∙ w.stored q;
  fit = λ q x e. here q (list_at m q) x (w.fit q) (sym (s q) ∙ ap (option_map shown_list) e);
  counted = w.counted ∙ ap (λ (l : FinMap nat_cmp (List Row)). count_rows (entries l)) (sym (same_rows m n s));
  most = w.most;
})
  where
    here : (q : ℕ) (o : Option Nicks) (x : Nicks) → ((y : Nicks) → o ≡ Some y → IsList q y) → option_map shown_list o ≡ Some (shown_list x) → IsList q x
    here q None x f e = absurd cc
    here q (Some y) x f e =
        let p : shown_list y ≡ shown_list x = ap (λ o. unwrap_or o (shown_list x)) e in
        record {
          rooted = sym (ap (λ (p : Handle × List Row). p.0) p) ∙ (f y refl).rooted;
          held = subst IsRows (ap root_and_rows p) (f y refl).held;
          cut = subst AreCut (ap root_and_rows p) (f y refl).cut;
        }

-- a nicklist that is told of twice is the same one
same_list : (x y : Nicks) → Some x ≡ Some y → x ≡ y
same_list x y e = ap (λ o. unwrap_or o x) e

module _ {S T : Type 0} (gs hs : EntryGroups) (m : HashMap ℕ Nicks S) (n : HashMap ℕ Nicks T) (count : ℕ) (w : AreNicks gs m count) where
  -- a buffer more, whose nicklist has no rows
  pub nicks_opened : (k : ℕ) (x : Nicks) → x.rows ≡ [] → x.root ≡ root_at k → list_at m k ≡ None
      → ((q : ℕ) → list_at n q ≡ cond (eqb k q) (Some x) (list_at m q)) → ((q : ℕ) → has handle_of q hs ≡ cond (eqb k q) true (has handle_of q gs)) → AreNicks hs n count
  nicks_opened k x empty root none c h = record {
    stored = λ q. ap is_some (c q) ∙ still q ∙ sym (h q);
    fit = λ q y f. by_bool (eqb k q) _
        (λ t. (let z : Some x ≡ Some y = (let u = sym (c q) ∙ f in rw t at u) in subst (IsList q) (same_list x y z) (record { rooted = root ∙ ap root_at (eqb-true k q t); held = subst IsRows (sym empty) none_held; cut = subst AreCut (sym empty) tt })))
        (λ t. (let z : list_at m q ≡ Some y = (let u = sym (c q) ∙ f in rw t at u) in w.fit q y z));
    counted =
        let put : rows_map n ≡ insert (rows_map m) k x.rows = put_rows m n k x c in
        let sum = count-insert (rows_map m) k x.rows in
        let was : length (some_rows (get (rows_map m) k)) ≡ 0 = ap length (rows_there m k ∙ ap rows_of none) in
        let more : length x.rows ≡ 0 = ap length empty in
        let same : count_rows (entries (insert (rows_map m) k x.rows)) ≡ count_rows (entries (rows_map m)) = omega (arith, sum, was, more) in
        w.counted ∙ sym same ∙ ap (λ (l : FinMap nat_cmp (List Row)). count_rows (entries l)) (sym put);
    most = w.most;
  }
    where
      still : (q : ℕ) → is_some (cond (eqb k q) (Some x) (list_at m q)) ≡ cond (eqb k q) true (has handle_of q gs)
      still q = by_bool (eqb k q) _ (λ t. rw t refl) (λ t. rw t (w.stored q))

  -- the rows of a buffer are at most all
  pub rows_within : (k : ℕ) → length (rows_of (list_at m k)) ≤ count
  rows_within k =
      let sum = count-remove (rows_map m) k in
      let own : length (some_rows (get (rows_map m) k)) ≡ length (rows_of (list_at m k)) = ap length (rows_there m k) in
      let all = w.counted in
      omega (arith, sum, own, all)

  -- a buffer less
  pub nicks_closed : (k left : ℕ) → left + length (rows_of (list_at m k)) ≡ count
      → ((q : ℕ) → list_at n q ≡ cond (eqb k q) None (list_at m q)) → ((q : ℕ) → has handle_of q hs ≡ cond (eqb k q) false (has handle_of q gs)) → AreNicks hs n left
  nicks_closed k left less c h = record {
    stored = λ q. ap is_some (c q) ∙ still q ∙ sym (h q);
    fit = λ q y f. by_bool (eqb k q) _
        (λ t. absurd (let z : None ≡ Some y = (let u = sym (c q) ∙ f in rw t at u) in cc))
        (λ t. (let z : list_at m q ≡ Some y = (let u = sym (c q) ∙ f in rw t at u) in w.fit q y z));
    counted =
        let gone : rows_map n ≡ remove (rows_map m) k = removed_rows m n k c in
        let sum = count-remove (rows_map m) k in
        let own : length (some_rows (get (rows_map m) k)) ≡ length (rows_of (list_at m k)) = ap length (rows_there m k) in
        let all = w.counted in
        let same : left ≡ count_rows (entries (remove (rows_map m) k)) = omega (arith, sum, own, all, less) in
        same ∙ ap (λ (l : FinMap nat_cmp (List Row)). count_rows (entries l)) (sym gone);
    most = (let all = w.most in omega (arith, all, less));
  }
    where
      still : (q : ℕ) → is_some (cond (eqb k q) None (list_at m q)) ≡ cond (eqb k q) false (has handle_of q gs)
      still q = by_bool (eqb k q) _ (λ t. rw t refl) (λ t. rw t (w.stored q))

-- a nicklist is put in in place of another one of the same root
pub nicks_changed : {S T : Type 0} (gs : EntryGroups) (m : HashMap ℕ Nicks S) (n : HashMap ℕ Nicks T) (count count2 : ℕ) (k : ℕ) (x y : Nicks)
    → AreNicks gs m count → list_at m k ≡ Some x → ((q : ℕ) → list_at n q ≡ cond (eqb k q) (Some y) (list_at m q)) → y.root ≡ x.root → IsRows y.rows → AreCut y.rows → count2 + length x.rows ≡ count + length y.rows → count2 ≤ row_limit → AreNicks gs n count2
nicks_changed gs m n count count2 k x y w at is root held cut sum most = record {
  stored = λ q. ap is_some (is q) ∙ still q ∙ w.stored q;
  fit = λ q z e. by_bool (eqb k q) _
      (λ t. (let own : Some y ≡ Some z = (let u = sym (is q) ∙ e in rw t at u) in subst (IsList q) (same_list y z own) (record { rooted = root ∙ (w.fit k x at).rooted ∙ ap root_at (eqb-true k q t); held = held; cut = cut })))
      (λ t. (let u2 : list_at m q ≡ Some z = (let u = sym (is q) ∙ e in rw t at u) in w.fit q z u2));
  counted =
      let put : rows_map n ≡ insert (rows_map m) k y.rows = put_rows m n k y is in
      let made = count-insert (rows_map m) k y.rows in
      let own : length (some_rows (get (rows_map m) k)) ≡ length x.rows = ap length (rows_there m k ∙ ap rows_of at) in
      let all = w.counted in
      let same : count2 ≡ count_rows (entries (insert (rows_map m) k y.rows)) = omega (arith, made, own, all, sum) in
      same ∙ ap (λ (l : FinMap nat_cmp (List Row)). count_rows (entries l)) (sym put);
  most = most;
}
  where
    still : (q : ℕ) → is_some (cond (eqb k q) (Some y) (list_at m q)) ≡ is_some (list_at m q)
    still q = by_bool (eqb k q) _
        (λ t. rw t (sym (ap (λ q. is_some (list_at m q)) (sym (eqb-true k q t)) ∙ ap is_some at)))
        (λ t. rw t refl)

pub rows_listed : {S : Type 0} (m : HashMap ℕ Nicks S) (h : ℕ) (x : Nicks) → list_at m h ≡ Some x → some_rows (get (rows_map m) h) ≡ x.rows
rows_listed m h x e = rows_there m h ∙ ap rows_of e

module _ {S T U : Type 0} (m : HashMap ℕ Nicks S) (n : HashMap ℕ Nicks T) (o : HashMap ℕ Nicks U) where
  pub room_made : (h : ℕ) (parent : List ℕ) → is_some (list_at m h) ≡ true → IsListChangedAt h (with_room parent) m n → room_of (list_at n h) ≡ Some parent
  room_made h parent t is = ap room_of (is h) ∙ ap (λ b. room_of (cond b (option_map (with_room parent) (list_at m h)) (list_at m h))) (eq-eqb h h refl) ∙ by (list_at m h) t
    where
      by : (o : Option Nicks) → is_some o ≡ true → room_of (option_map (with_room parent) o) ≡ Some parent
      by None t = absurd (false≢true t)
      by (Some x) t = refl

  pub rows_stay : (h : ℕ) (parent : List ℕ) → IsListChangedAt h (with_room parent) m n → rows_of (list_at n h) ≡ rows_of (list_at m h)
  rows_stay h parent is = ap rows_of (is h) ∙ ap (λ b. rows_of (cond b (option_map (with_room parent) (list_at m h)) (list_at m h))) (eq-eqb h h refl) ∙ by (list_at m h)
    where
      by : (o : Option Nicks) → rows_of (option_map (with_room parent) o) ≡ rows_of o
      by None = refl
      by (Some x) = refl

  -- an edit takes the room away that was made before
  pub through_room : (h : ℕ) (parent : List ℕ) (f : List Row → List Row) → IsListChangedAt h (with_room parent) m n → IsListChangedAt h (with_edit f) n o → IsListChangedAt h (with_edit f) m o
  through_room h parent f a b q = b q ∙ ap (λ x. cond (eqb h q) (option_map (with_edit f) x) x) (a q) ∙ by_bool (eqb h q) _ (λ t. rw t (by (list_at m q))) (λ t. rw t refl)
    where
      by : (o : Option Nicks) → option_map (with_edit f) (option_map (with_room parent) o) ≡ option_map (with_edit f) o
      by None = refl
      by (Some x) = refl

-- what holds of a nicklist that is lent
pub lent_list : (o : Option (Bor Nicks)) (p : Option Nicks) (P : Nicks → Type 0) → option_copied o ≡ p → ((x : Nicks) → p ≡ Some x → P x) → IfSome o (λ x. P x.now)
lent_list None p P e f = tt
lent_list (Some x) p P e f = f x.now (sym e)

pub no_list : (o : Option Nicks) → is_some o ≡ false → o ≡ None
no_list None e = refl
no_list (Some x) e = absurd (false≢true (sym e))

-- ---- the nicklists of the world with the core buffer alone

no_rows : {S : Type 0} (m : HashMap ℕ Nicks S) → m.entries ≡ [] → rows_map m ≡ empty
no_rows m none = ap (λ (es : List (ℕ × Nicks)). from_entries (map (λ e. (e.0, e.1.rows)) es)) none

no_lists : {S : Type 0} (m : HashMap ℕ Nicks S) (q : ℕ) → m.entries ≡ [] → list_at m q ≡ None
no_lists m q none = ap (λ (es : List (ℕ × Nicks)). lookup (eqb q) es) none

no_length : (es : List (ℕ × List Row)) → length es ≡ 0 → count_rows es ≡ 0
no_length [] e = refl
no_length (x ∷ es) e = absurd (omega arith)

none_counted : count_rows (entries (empty {X = List Row} {R = nat_cmp})) ≡ 0
none_counted = no_length (entries empty) (sym (len-entries empty) ∙ len-empty nat_cmp (List Row))

pub first_nicks : {S T : Type 0} (hs : EntryGroups) (m : HashMap ℕ Nicks S) (n : HashMap ℕ Nicks T) (x : Nicks) → m.entries ≡ [] → x.rows ≡ [] → x.root ≡ root_at 1
    → ((q : ℕ) → list_at n q ≡ cond (eqb 1 q) (Some x) (list_at m q)) → ((q : ℕ) → has handle_of q hs ≡ eqb 1 q) → AreNicks hs n 0
first_nicks hs m n x none rows root c h =
    let start : AreNicks [] m 0 = record {
      stored = λ q. ap is_some (no_lists m q none);
      fit = λ q y e. absurd (let z : None ≡ Some y = sym (no_lists m q none) ∙ e in cc);
      counted = sym (ap (λ (l : FinMap nat_cmp (List Row)). count_rows (entries l)) (no_rows m none) ∙ none_counted);
      most = omega arith;
    } in
    nicks_opened [] hs m n 0 start 1 x rows root (no_lists m 1 none) c (λ q. h q ∙ sym (or_nothing (eqb 1 q)))
  where
    or_nothing : (b : Bool) → cond b true false ≡ b
    or_nothing true = refl
    or_nothing false = refl

pub first_rows : {S T : Type 0} (m : HashMap ℕ Nicks S) (n : HashMap ℕ Nicks T) (x : Nicks) → m.entries ≡ [] → x.rows ≡ []
    → ((q : ℕ) → list_at n q ≡ cond (eqb 1 q) (Some x) (list_at m q)) → rows_map n ≡ insert empty 1 []
first_rows m n x none rows c = put_rows m n 1 x c ∙ (λ i. insert (no_rows m none i) 1 (rows i))
