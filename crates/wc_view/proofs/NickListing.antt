-- What is read of a nicklist after one row more.
use Rattle.std.proofs.Common.{◌≡◌, ℕ, zero, suc, ◌+◌, ◌-◌, ◌<◌, ◌≤◌, Bool, true, false, ◌&&◌, Option, Some, None, List, [], ◌∷◌, ◌++◌, length, take, refl, sym, ap, ◌∙◌, subst, arith, append_assoc}
use Rattle.std.specs.Prelude.{Result, Ok, Err, OnOk, IfOk, IfErr, option_map, option_copied}
use Rattle.std.specs.List.{slice_get}
use Rattle.std.specs.Slice.{IsItemAt}
use Rattle.std.proofs.lemmas.Option.{slice_get_read}
use denote.Ref.{Bor}
use Rattle.std.proofs.lemmas.Bool.{true≢false, false_from_ne_true}
use Rattle.std.proofs.lemmas.List.{append-nil}
use Rattle.wc_nicklist.specs.declared.item.Item.{Item}
use Rattle.wc_nicklist.specs.declared.item.Row.{Row}
use Rattle.wc_nicklist.specs.declared.refused.NickRefused.{NickRefused}
use Rattle.wc_nicklist.specs.declared.refused.NickRefused.TheVariants.{NoMemory}
use Rattle.wc_nicklist.specs.Rows.{root_name, last_or, TextsAreUtf8}
use Rattle.wc_nicklist.specs.Calls.{add_refusal, add_row}
use Rattle.wc_nicklist.proofs.OrderLaws.{by_bool}
use Rattle.wc_nickdiff.specs.PushLaw.{rows_from}
use Rattle.wc_view.specs.declared.nick_list.Listing.{Listing}
use Rattle.wc_view.specs.NickFold.{are_rows, is_root_item, rows_if, rows_listed}
use Rattle.wc_view.specs.NickLists.{last_row, path_after, nick_name, next_row, comes_after, rows_after, Took, IsListing, ItemsAreUtf8}
use Rattle.wc_view.proofs.NickStands.{good_from, good_to, good_left}
use Rattle.wc_view.proofs.NickNext.{last-append}
use Rattle.wc_view.proofs.NickPush.{refused_level, refused_add, fitted, added, nick_path, nick_comes, nick_after, nick_misplaced, group_path, group_comes, group_after, group_misplaced, group_level, group_too_deep, group_at_root, group_path_now}

last_is : (rows : List Row) (r : Row) → last_row (rows ++ r ∷ []) ≡ Some r
last_is rows r = last-append None rows r

-- ---- what a nicklist answered
pub took_ok : {A P : Type 0} (outcome : Result A NickRefused) (taken : Bool) → Took outcome taken → taken ≡ true → OnOk outcome P → P
took_ok (Ok x) taken t e h = h
took_ok (Err why) taken t e h = absurd (true≢false (sym e ∙ t.0))

pub took_err : {A : Type 0} (refusal : Option NickRefused) (outcome : Result A NickRefused) (taken : Bool) → Took outcome taken → taken ≡ false
    → IfErr outcome (λ why. (why ≡ NoMemory → ⊥) → refusal ≡ Some why) → (why : NickRefused) × (refusal ≡ Some why)
took_err refusal (Ok x) taken t e h = absurd (true≢false (sym t ∙ e))
took_err refusal (Err why) taken t e h = (why, h t.1)

no_item : {X : Type 0} (xs : List X) (i : ℕ) → length xs ≤ i → None ≡ slice_get xs i
no_item [] i h = refl
no_item (x ∷ xs) zero h = absurd (omega arith)
no_item (x ∷ xs) (suc i) h = no_item xs i (omega arith)

pub item_got : {X : Type 0} (xs : List X) (i : ℕ) (r : Option (Bor X)) → IsItemAt xs i r → option_copied r ≡ slice_get xs i
item_got xs i None h = no_item xs i h.3
item_got xs i (Some x) h = sym (slice_get_read xs (length xs) i x.now refl h.3.0 h.1)

no_rows_are : are_rows [] ≡ true
unfolding are_rows
no_rows_are = refl

pub empty_listed : (l : Listing) → l.list.rows ≡ [] → l.path.items ≡ [] → l.nick ≡ None → IsListing l
empty_listed l rows path nick = record {
  rows = ap are_rows rows ∙ no_rows_are;
  path = path ∙ ap (λ z. path_after (last_row z)) (sym rows);
  nick = nick ∙ ap (λ z. nick_name (last_row z)) (sym rows);
}

-- ---- nicks
module _ (l : Listing) (ok : IsListing l) (i : Item) (e : i.is_group ≡ false) where
  pub nick_of_other_level : (i.level ≡ 0 → ⊥) → false ≡ are_rows (l.list.rows ++ next_row l.list.rows i ∷ [])
  nick_of_other_level n = refused_level l.list.rows (next_row l.list.rows i) false (nick_comes l.list.rows i ok.rows e) n

  pub nick_in_front : comes_after l.nick i.name ≡ false → false ≡ are_rows (l.list.rows ++ next_row l.list.rows i ∷ [])
  nick_in_front b = nick_misplaced l.list.rows i ok.rows e (ap (λ o. comes_after o i.name) (sym ok.nick) ∙ b)

  module _ (named : l.root_name ≡ root_name) (p : List ℕ) (p_is : p ≡ last_or l.root_name l.path.items) where
    nick_parent : p ≡ last_or root_name (next_row l.list.rows i).path
    nick_parent = let q = ok.path ∙ sym (nick_path l.list.rows i e) in p_is ∙ (λ j. last_or (named j) (q j))

    pub nick_refused : (why : NickRefused) → add_refusal false p i.name l.list.rows ≡ Some why → false ≡ are_rows (l.list.rows ++ next_row l.list.rows i ∷ [])
    nick_refused why a = refused_add l.list.rows (next_row l.list.rows i) false why (nick_comes l.list.rows i ok.rows e) (ap (λ z. add_refusal false z i.name l.list.rows) (sym nick_parent) ∙ a)

    module _ (level : i.level ≡ 0) (b : comes_after l.nick i.name ≡ true) (a : add_refusal false p i.name l.list.rows ≡ None) where
      following : comes_after (nick_name (last_row l.list.rows)) i.name ≡ true
      following = ap (λ o. comes_after o i.name) (sym ok.nick) ∙ b

      accepted : add_refusal false (last_or root_name (next_row l.list.rows i).path) i.name l.list.rows ≡ None
      accepted = ap (λ z. add_refusal false z i.name l.list.rows) (sym nick_parent) ∙ a

      pub nick_fits : true ≡ are_rows (l.list.rows ++ next_row l.list.rows i ∷ [])
      nick_fits = fitted l.list.rows (next_row l.list.rows i) false (nick_comes l.list.rows i ok.rows e) (nick_after l.list.rows i e following) level accepted

      pub nick_added : add_row false p i l.list.rows ≡ l.list.rows ++ next_row l.list.rows i ∷ []
      nick_added = ap (λ z. add_row false z i l.list.rows) nick_parent ∙ added l.list.rows (next_row l.list.rows i) false (nick_comes l.list.rows i ok.rows e) (nick_after l.list.rows i e following) level accepted

      pub nick_listed : (m : Listing) → m.list.rows ≡ add_row false p i l.list.rows → m.path.items ≡ l.path.items → m.nick ≡ Some i.name → IsListing m
      nick_listed m rows_are path_is nick_is =
          let r = next_row l.list.rows i in
          let rows = rows_are ∙ nick_added in
          let last : last_row m.list.rows ≡ Some r = ap last_row rows ∙ last_is l.list.rows r in
          record {
            rows = ap are_rows rows ∙ sym nick_fits;
            path = path_is ∙ ok.path ∙ sym (nick_path l.list.rows i e) ∙ of_nick r e ∙ ap path_after (sym last);
            nick = nick_is ∙ name_of r e ∙ ap nick_name (sym last);
          }
        where
          of_nick : (r : Row) → r.item.is_group ≡ false → r.path ≡ path_after (Some r)
          of_nick r e = rw e refl

          name_of : (r : Row) → r.item.is_group ≡ false → Some r.item.name ≡ nick_name (Some r)
          name_of r e = rw e refl

-- ---- groups
module _ (l : Listing) (ok : IsListing l) (i : Item) (e : i.is_group ≡ true) where
  pub group_without_level : i.level ≡ 0 → false ≡ are_rows (l.list.rows ++ next_row l.list.rows i ∷ [])
  group_without_level z = refused_level l.list.rows (next_row l.list.rows i) true (group_comes l.list.rows i ok.rows e) (group_at_root l.list.rows i z)

  pub group_too_far : length l.path.items < i.level - 1 → false ≡ are_rows (l.list.rows ++ next_row l.list.rows i ∷ [])
  group_too_far h = refused_level l.list.rows (next_row l.list.rows i) true (group_comes l.list.rows i ok.rows e) (group_too_deep l.list.rows i e (subst (λ z. length z < i.level - 1) ok.path h))

  module _ (deep : i.level - 1 ≤ length l.path.items) where
    within : i.level - 1 ≤ length (path_after (last_row l.list.rows))
    within = subst (λ z. i.level - 1 ≤ length z) ok.path deep

    pub group_in_front : comes_after (slice_get l.path.items (i.level - 1)) i.name ≡ false → false ≡ are_rows (l.list.rows ++ next_row l.list.rows i ∷ [])
    group_in_front b = group_misplaced l.list.rows i ok.rows e within (ap (λ z. comes_after (slice_get z (i.level - 1)) i.name) (sym ok.path) ∙ b)

    module _ (named : l.root_name ≡ root_name) (p : List ℕ) (p_is : p ≡ last_or l.root_name (take (i.level - 1) l.path.items)) where
      group_parent : p ≡ last_or root_name (next_row l.list.rows i).path
      group_parent = let q = ap (take (i.level - 1)) ok.path ∙ sym (group_path l.list.rows i e) in p_is ∙ (λ j. last_or (named j) (q j))

      pub group_refused : (why : NickRefused) → add_refusal true p i.name l.list.rows ≡ Some why → false ≡ are_rows (l.list.rows ++ next_row l.list.rows i ∷ [])
      group_refused why a = refused_add l.list.rows (next_row l.list.rows i) true why (group_comes l.list.rows i ok.rows e) (ap (λ z. add_refusal true z i.name l.list.rows) (sym group_parent) ∙ a)

      module _ (some : 0 < i.level) (b : comes_after (slice_get l.path.items (i.level - 1)) i.name ≡ true) (a : add_refusal true p i.name l.list.rows ≡ None) where
        after_sibling : comes_after (slice_get (path_after (last_row l.list.rows)) (i.level - 1)) i.name ≡ true
        after_sibling = ap (λ z. comes_after (slice_get z (i.level - 1)) i.name) (sym ok.path) ∙ b

        group_accepted : add_refusal true (last_or root_name (next_row l.list.rows i).path) i.name l.list.rows ≡ None
        group_accepted = ap (λ z. add_refusal true z i.name l.list.rows) (sym group_parent) ∙ a

        pub group_fits : true ≡ are_rows (l.list.rows ++ next_row l.list.rows i ∷ [])
        group_fits = fitted l.list.rows (next_row l.list.rows i) true (group_comes l.list.rows i ok.rows e) (group_after l.list.rows i e within after_sibling) (group_level l.list.rows i e some within) group_accepted

        pub group_added : add_row true p i l.list.rows ≡ l.list.rows ++ next_row l.list.rows i ∷ []
        group_added = ap (λ z. add_row true z i l.list.rows) group_parent ∙ added l.list.rows (next_row l.list.rows i) true (group_comes l.list.rows i ok.rows e) (group_after l.list.rows i e within after_sibling) (group_level l.list.rows i e some within) group_accepted

        pub group_listed : (m : Listing) → m.list.rows ≡ add_row true p i l.list.rows → m.path.items ≡ take (i.level - 1) l.path.items ++ i.name ∷ [] → m.nick ≡ None → IsListing m
        group_listed m rows_are path_is nick_is =
            let r = next_row l.list.rows i in
            let rows = rows_are ∙ group_added in
            let last : last_row m.list.rows ≡ Some r = ap last_row rows ∙ last_is l.list.rows r in
            record {
              rows = ap are_rows rows ∙ sym group_fits;
              path = path_is ∙ ap (λ z. take (i.level - 1) z ++ i.name ∷ []) ok.path ∙ group_path_now l.list.rows i e ∙ ap path_after (sym last);
              nick = nick_is ∙ no_name r e ∙ ap nick_name (sym last);
            }
          where
            no_name : (r : Row) → r.item.is_group ≡ true → None ≡ nick_name (Some r)
            no_name r e = rw e refl

-- ---- all rows
below_nick : (r : Row) → r.item.is_group ≡ false → path_after (Some r) ≡ r.path
below_nick r e = rw e refl

from_group : (path : List (List ℕ)) (i : Item) (rest : List Item) → i.is_group ≡ true
    → rows_from path (i ∷ rest) ≡ record { path = take (i.level - 1) path; item = i } ∷ rows_from (take (i.level - 1) path ++ i.name ∷ []) rest
from_group path i rest g = rw g refl

from_nick : (path : List (List ℕ)) (i : Item) (rest : List Item) → i.is_group ≡ false → rows_from path (i ∷ rest) ≡ record { path = path; item = i } ∷ rows_from path rest
from_nick path i rest g = rw g refl

row_by : (path : List (List ℕ)) (rows : List Row) (i : Item) → path ≡ (next_row rows i).path → record { path = path; item = i } ≡ next_row rows i
row_by path rows i e = λ j. record { path = e j; item = i }

abbrev Rest : List Row → Item → List Item → List Row
Rest rows i rest = next_row rows i ∷ rows_from (path_after (Some (next_row rows i))) rest

read_group : (rows : List Row) (i : Item) (rest : List Item) → i.is_group ≡ true → rows_from (path_after (last_row rows)) (i ∷ rest) ≡ Rest rows i rest
read_group rows i rest g =
    from_group (path_after (last_row rows)) i rest g
    ∙ ap (λ r. r ∷ rows_from (take (i.level - 1) (path_after (last_row rows)) ++ i.name ∷ []) rest) (row_by _ rows i (sym (group_path rows i g)))
    ∙ ap (λ z. next_row rows i ∷ rows_from z rest) (group_path_now rows i g)

read_nick : (rows : List Row) (i : Item) (rest : List Item) → i.is_group ≡ false → rows_from (path_after (last_row rows)) (i ∷ rest) ≡ Rest rows i rest
read_nick rows i rest g =
    let path : path_after (last_row rows) ≡ (next_row rows i).path = sym (nick_path rows i g) in
    from_nick (path_after (last_row rows)) i rest g
    ∙ ap (λ r. r ∷ rows_from (path_after (last_row rows)) rest) (row_by _ rows i path)
    ∙ ap (λ z. next_row rows i ∷ rows_from z rest) (path ∙ sym (below_nick (next_row rows i) g))

read_step : (rows : List Row) (i : Item) (rest : List Item) → rows_from (path_after (last_row rows)) (i ∷ rest) ≡ Rest rows i rest
read_step rows i rest = by_bool i.is_group _ (read_group rows i rest) (read_nick rows i rest)

-- the rows so far, and those of the items that are left
abbrev pub Reads : List Row → List Row → List Item → Type 0
Reads whole rows rest = whole ≡ rows ++ rows_from (path_after (last_row rows)) rest

pub read_more : (whole rows new : List Row) (i : Item) (left rest : List Item) → Reads whole rows left → left ≡ i ∷ rest → new ≡ rows ++ next_row rows i ∷ [] → Reads whole new rest
read_more whole rows new i left rest h e n =
    let r = next_row rows i in
    let last : Some r ≡ last_row new = sym (ap last_row n ∙ last_is rows r) in
    h ∙ ap (λ z. rows ++ rows_from (path_after (last_row rows)) z) e ∙ ap (λ z. rows ++ z) (read_step rows i rest)
    ∙ sym (append_assoc rows (r ∷ []) (rows_from (path_after (Some r)) rest))
    ∙ (λ j. sym n j ++ rows_from (path_after (last j)) rest)

pub read_refused : (whole rows : List Row) (i : Item) (left rest : List Item) → Reads whole rows left → left ≡ i ∷ rest → false ≡ are_rows (rows ++ next_row rows i ∷ [])
    → None ≡ rows_if (are_rows whole) whole
read_refused whole rows i left rest h e n =
    let r = next_row rows i in
    let more = rows_from (path_after (Some r)) rest in
    let split : whole ≡ (rows ++ r ∷ []) ++ more =
    h ∙ ap (λ z. rows ++ rows_from (path_after (last_row rows)) z) e ∙ ap (λ z. rows ++ z) (read_step rows i rest) ∙ sym (append_assoc rows (r ∷ []) more) in
    let no : are_rows whole ≡ false = false_from_ne_true _ (λ t.
    true≢false (sym (good_to (rows ++ r ∷ []) (good_left (rows ++ r ∷ []) more (good_from _ (ap are_rows (sym split) ∙ t)))) ∙ sym n)) in
    rw no refl

pub read_all : (whole rows : List Row) (left : List Item) → Reads whole rows left → left ≡ [] → are_rows rows ≡ true → Some rows ≡ rows_if (are_rows whole) whole
read_all whole rows left h e t =
    let same : whole ≡ rows = h ∙ ap (λ z. rows ++ rows_from (path_after (last_row rows)) z) e ∙ append-nil rows in
    let yes : are_rows whole ≡ true = ap are_rows same ∙ t in
    rw yes (ap Some (sym same))

-- ---- with a root
only_false : (a b : Bool) (rows : List Row) → a ≡ false → None ≡ rows_if (a && b) rows
only_false true b rows e = absurd (true≢false e)
only_false false b rows e = refl

only_true : (a b : Bool) (rows : List Row) → a ≡ true → rows_if b rows ≡ rows_if (a && b) rows
only_true true b rows e = refl
only_true false b rows e = absurd (true≢false (sym e))

pub empty_items : (items : List Item) → length items ≡ 0 → items ≡ []
empty_items [] e = refl
empty_items (i ∷ items) e = absurd (omega (arith, e))

pub listed_none : (items : List Item) → items ≡ [] → None ≡ rows_listed items
unfolding rows_listed
listed_none items e = ap rows_listed (sym e)

pub listed_other : (items rest : List Item) (root : Item) → items ≡ root ∷ rest → is_root_item root ≡ false → None ≡ rows_listed items
unfolding rows_listed
listed_other items rest root e n = only_false (is_root_item root) (are_rows (rows_from [] rest)) (rows_from [] rest) n ∙ ap rows_listed (sym e)

pub listed_rows : (items rest : List Item) (root : Item) → items ≡ root ∷ rest → is_root_item root ≡ true → rows_after rest ≡ rows_listed items
unfolding rows_listed
listed_rows items rest root e n = only_true (is_root_item root) (are_rows (rows_from [] rest)) (rows_from [] rest) n ∙ ap rows_listed (sym e)

pub rest_utf8 : (items rest : List Item) (root : Item) → items ≡ root ∷ rest → ItemsAreUtf8 items → ItemsAreUtf8 rest
rest_utf8 items rest root e h = (subst ItemsAreUtf8 e h).1

pub first_utf8 : (items rest : List Item) (i : Item) → items ≡ i ∷ rest → ItemsAreUtf8 items → TextsAreUtf8 i
first_utf8 items rest i e h = (subst ItemsAreUtf8 e h).0

pub answered : {A E : Type 0} {B : Type 0} (view : A → B) (result : Result (Option A) E) (a b : Option B) → IfOk result (λ o. option_map view o ≡ a) → a ≡ b → IfOk result (λ o. option_map view o ≡ b)
answered view (Ok o) a b h e = h ∙ e
answered view (Err x) a b h e = tt
