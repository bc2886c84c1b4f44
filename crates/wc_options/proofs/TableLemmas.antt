-- What the tables of options answer.
use Rattle.std.proofs.Common.{ℕ, ◌≡◌, ◌+◌, ◌<◌, Bool, true, false, cond, List, [], ◌∷◌, ◌++◌, ◌≤◌, length, map, get_or, take, replicate, zero, suc, ◌≢◌, Option, Some, None, refl, ap, sym, ◌∙◌, not, arith, subst}
use Rattle.std.specs.Prelude.{bytes_eq, position, IfSome}
use Rattle.std.specs.List.{prefix_len, position_or_len}
use Rattle.std.proofs.lemmas.List.{length-map, get_or-map, get_or-replicate, map_more, take_all}
use Rattle.std.proofs.lemmas.List.Quantifiers.{position-Some}
use Rattle.wc_options.specs.Options.{own_at_first, stands_for}
use Rattle.wc_options.specs.Table.{OptionRow, row_of, place_in, globals, of_server, row_at, no_row}
use Rattle.wc_options.specs.declared.table.Row.{Row}

prefix_len-map : {X Y : Type 0} (f : X → Y) (p : Y → Bool) (xs : List X) → prefix_len p (map f xs) ≡ prefix_len (λ x. p (f x)) xs
prefix_len-map f p [] = refl
prefix_len-map f p (x ∷ xs) = rw (prefix_len-map f p xs)

pub position-map : {X Y : Type 0} (f : X → Y) (p : Y → Bool) (xs : List X) → position p (map f xs) ≡ position (λ x. p (f x)) xs
position-map f p xs = rw (prefix_len-map f (λ y. not (p y)) xs, length-map xs f)

pub table_places : (name : List ℕ) (rows : List Row) → place_in name (map row_of rows) ≡ position (λ (row : Row). bytes_eq row.name.now name) rows
unfolding place_in
table_places name rows = position-map row_of (λ row. bytes_eq row.name name) rows

pub table_reads : (rows : List Row) (place : ℕ) (d : Row) → place < length rows → row_at (map row_of rows) place ≡ row_of (get_or rows place d)
table_reads rows place d h = get_or-map row_of rows place d no_row h

-- a place that a name has is one of the table
place_in-below : (name : List ℕ) (rows : List OptionRow) (place : ℕ) → place_in name rows ≡ Some place → place < length rows
unfolding place_in
place_in-below name rows place e = (position-Some (λ row. bytes_eq row.name name) rows place no_row e).0

length-globals : length globals ≡ 19
unfolding globals
length-globals = refl

length-of_server : length of_server ≡ 12
unfolding of_server
length-of_server = refl

pub place_in_globals : (name : List ℕ) (place : ℕ) → place_in name globals ≡ Some place → place < 19
place_in_globals name place e = rw (← length-globals) (place_in-below name globals place e)

pub place_in_of_server : (name : List ℕ) (place : ℕ) → place_in name of_server ≡ Some place → place < 12
place_in_of_server name place e = rw (← length-of_server) (place_in-below name of_server place e)

-- ---- first values, place by place

abbrev none_of : Option (List ℕ)
none_of = None

pub firsts_more : (place : ℕ) → place < 12 → map own_at_first (take (place + 1) of_server) ≡ map own_at_first (take place of_server) ++ own_at_first (row_at of_server place) ∷ []
firsts_more place h =
    let below : place < length of_server = rw length-of_server h in
    map_more own_at_first of_server place no_row below

pub firsts_all : (place : ℕ) → 12 ≤ place → map own_at_first (take place of_server) ≡ map own_at_first of_server
firsts_all place h =
    let all : length of_server ≤ place = rw length-of_server h in
    ap (map own_at_first) (take_all place of_server all)

pub ruleset firsts = (firsts_more, firsts_all)

firsts-are : map own_at_first of_server ≡ Some [] ∷ replicate 11 None
unfolding of_server globals place_in
firsts-are = refl

none_in : (n place : ℕ) → place < n → get_or (replicate n (none_of)) place none_of ≡ none_of
none_in n place h = get_or-replicate n place none_of none_of h

first_of : (place : ℕ) → place < 12 → own_at_first (row_at of_server place) ≡ get_or (Some [] ∷ replicate 11 none_of) place none_of
first_of place h =
    let below : place < length of_server = rw length-of_server h in
    sym (get_or-map own_at_first of_server place no_row none_of below) ∙ ap (λ firsts. get_or firsts place none_of) firsts-are

pub first_value_zero : (place : ℕ) → place < 12 → place ≡ 0 → own_at_first (row_at of_server place) ≡ Some []
first_value_zero place h e = first_of place h ∙ ap (λ p. get_or (Some [] ∷ replicate 11 none_of) p none_of) e

pub first_value_other : (place : ℕ) → place < 12 → place ≢ 0 → own_at_first (row_at of_server place) ≡ None
first_value_other zero h ne = absurd (ne refl)
first_value_other (suc place) h ne = first_of (suc place) h ∙ none_in 11 place (omega arith)

pub ruleset first_values = (first_value_zero, first_value_other)

stands-are : map stands_for of_server ≡ None ∷ Some 8 ∷ Some 10 ∷ Some 9 ∷ Some 11 ∷ Some 12 ∷ Some 13 ∷ Some 14 ∷ Some 15 ∷ Some 16 ∷ Some 17 ∷ Some 18 ∷ []
unfolding of_server globals place_in
stands-are = refl

pub stands_for_reads : (place : ℕ) (d : Option ℕ) → place < 12 → stands_for (row_at of_server place) ≡ get_or (None ∷ Some 8 ∷ Some 10 ∷ Some 9 ∷ Some 11 ∷ Some 12 ∷ Some 13 ∷ Some 14 ∷ Some 15 ∷ Some 16 ∷ Some 17 ∷ Some 18 ∷ []) place d
stands_for_reads place d h =
    let below : place < length of_server = rw length-of_server h in
    sym (get_or-map stands_for of_server place no_row d below) ∙ ap (λ list. get_or list place d) stands-are
