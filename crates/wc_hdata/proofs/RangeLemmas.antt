-- The part of a list that is still to come.
use Rattle.std.proofs.Common.{◌≡◌, ℕ, zero, suc, ◌+◌, ◌-◌, ◌<◌, ◌≤◌, min, Bool, true, false, List, [], ◌∷◌, ◌++◌, length, map, take, drop, reverse, get_or, Option, Some, None, MatchOption, option_map, slice_get, arith, sym, ap, ◌∙◌, length-take, length-drop}
use Rattle.std.proofs.lemmas.List.{take_all, take_min, drop_min, drop-take, take_more, drop_more, drop-append-le, reverse-append, get_or-take, same_lists, places, length-reverse}
use Rattle.std.proofs.lemmas.Option.{get_or_from_slice_get, slice_get-map, slice_get-get_or, slice_get_past}
use Rattle.wc_text.specs.declared.names.Handle.{Handle}
use Rattle.wc_lines.specs.declared.line.Line.{Line}
use Rattle.wc_hdata.specs.declared.place.HeldLine.{HeldLine as LentLine}
use Rattle.wc_hdata.specs.declared.place.Place.{Place as Lent}
use Rattle.wc_hdata.specs.Lists.{held_by}
use Rattle.wc_hdata.specs.Ranges.{between, toward}
use Rattle.wc_hdata.specs.Reached.{Place, Line_at, held_line, held_lines, place_of}

-- ---- where a count begins and ends

pub all_on : {A : Type 0} (xs : List A) (at n low : ℕ) → n ≡ length xs → low ≡ min at n → between low n xs ≡ drop at xs
all_on xs at n low e l =
    ap (drop low) (take_all n xs (omega (arith, e))) ∙ ap (λ k. drop k xs) (l ∙ ap (min at) e) ∙ drop_min at xs

pub some_on : {A : Type 0} (xs : List A) (most at n low m : ℕ) → n ≡ length xs → low ≡ min at n → m ≡ min most (n - low) → between low (low + m) xs ≡ take most (drop at xs)
some_on xs most at n low m e l k =
    let rest : drop low xs ≡ drop at xs = ap (λ i. drop i xs) (l ∙ ap (min at) e) ∙ drop_min at xs in
    let long : m ≡ min most (length (drop low xs)) = omega (arith, e, k, length-drop low xs) in
    drop-take low m xs ∙ ap (λ i. take i (drop low xs)) long ∙ take_min most (drop low xs) ∙ ap (take most) rest

last_ones : {A : Type 0} (xs : List A) (most : ℕ) → reverse (drop (length xs - most) xs) ≡ take most (reverse xs)
last_ones xs most = same_lists _ _ (grind (arith, places)) (λ k d h. grind (arith, places))

pub some_back : {A : Type 0} (xs : List A) (most at high low : ℕ) → high ≡ min (at + 1) (length xs) → low ≡ high - most → reverse (between low high xs) ≡ take most (reverse (take (at + 1) xs))
some_back xs most at high low h l =
    let front : take high xs ≡ take (at + 1) xs = ap (λ k. take k xs) h ∙ take_min (at + 1) xs in
    let long : low ≡ length (take high xs) - most = omega (arith, h, l, length-take high xs) in
    ap (λ k. reverse (drop k (take high xs))) long ∙ last_ones (take high xs) most ∙ ap (λ ys. take most (reverse ys)) front

-- ---- the next one

past : {A : Type 0} (xs : List A) (k : ℕ) → slice_get xs k ≡ None → length xs ≤ k
past [] k e = omega arith
past (x ∷ xs) zero e = absurd (cc)
past (x ∷ xs) (suc k) e = let more = past xs k e in omega (arith, more)

first_between : {A : Type 0} (xs : List A) (low high : ℕ) (x : A) → low < high → high ≤ length xs → slice_get xs low ≡ Some x → between low high xs ≡ x ∷ between (low + 1) high xs
first_between xs low high x lt le got =
    let long : low < length (take high xs) = omega (arith, lt, le, length-take high xs) in
    drop_more (take high xs) low x long ∙ ap (λ y. y ∷ between (low + 1) high xs) (get_or-take high xs low x lt ∙ get_or_from_slice_get xs low x x got)

last_between : {A : Type 0} (xs : List A) (low high : ℕ) (x : A) → low ≤ high → high < length xs → slice_get xs high ≡ Some x → between low (high + 1) xs ≡ between low high xs ++ x ∷ []
last_between xs low high x le lt got =
    let long : low ≤ length (take high xs) = omega (arith, lt, le, length-take high xs) in
    ap (drop low) (take_more xs high x lt ∙ ap (λ y. take high xs ++ y ∷ []) (get_or_from_slice_get xs high x x got)) ∙ drop-append-le low (take high xs) (x ∷ []) long

pub next_on : (b : Bool) (all now : List Place) (low high i : ℕ) (result : Option Lent) → b ≡ false → toward b (between low high all) ≡ now → low < high → high ≤ length all → i ≡ low → option_map place_of result ≡ slice_get all i
    → MatchOption result ((now ≡ []) × (toward b (between (low + 1) high all) ≡ [])) (λ place. now ≡ place_of place ∷ toward b (between (low + 1) high all))
next_on true all now low high i result f is lt le at got = absurd (cc)
next_on false all now low high i None f is lt le at got = absurd (let over = past all i (sym got) in omega (arith, over, lt, le, at))
next_on false all now low high i (Some place) f is lt le at got = sym is ∙ first_between all low high (place_of place) lt le (ap (slice_get all) (sym at) ∙ sym got)

pub next_back : (b : Bool) (all now : List Place) (low high : ℕ) (result : Option Lent) → b ≡ true → toward b (between low high all) ≡ now → low < high → high ≤ length all → option_map place_of result ≡ slice_get all (high - 1)
    → MatchOption result ((now ≡ []) × (toward b (between low (high - 1) all) ≡ [])) (λ place. now ≡ place_of place ∷ toward b (between low (high - 1) all))
next_back false all now low high result t is lt le got = absurd (cc)
next_back true all now low high None t is lt le got = absurd (let over = past all (high - 1) (sym got) in omega (arith, over, lt, le))
next_back true all now low high (Some place) t is lt le got =
    let up : high ≡ (high - 1) + 1 = omega (arith, lt) in
    let more = last_between all low (high - 1) (place_of place) (omega (arith, lt)) (omega (arith, lt, le)) (sym got) in
    sym is ∙ ap (λ k. reverse (between low k all)) up ∙ ap reverse more ∙ reverse-append (between low (high - 1) all) (place_of place ∷ [])

-- ---- how many

pub length_left : (b : Bool) (all now : List Place) (low high : ℕ) → toward b (between low high all) ≡ now → high ≤ length all → length now ≡ high - low
length_left true all now low high is le = ap length (sym is) ∙ length-reverse (between low high all) ∙ length-drop low (take high all) ∙ (let t = length-take high all in omega (arith, le, t))
length_left false all now low high is le = ap length (sym is) ∙ length-drop low (take high all) ∙ (let t = length-take high all in omega (arith, le, t))

-- ---- the one at a place

pub held_got : (lines : List LentLine) (i : ℕ) (held : LentLine) → i < length lines → held ≡ get_or lines i held → Some (Line_at (held_line held)) ≡ slice_get (map Line_at (held_lines lines)) i
held_got lines i held lt is = sym (slice_get-map Line_at (held_lines lines) i ∙ ap (option_map Line_at) (slice_get-map held_line lines i ∙ ap (option_map held_line) (slice_get-get_or lines i held lt ∙ ap Some (sym is))))

pub none_held : (lines : List LentLine) (i : ℕ) → length lines ≤ i → None ≡ slice_get (map Line_at (held_lines lines)) i
none_held lines i over = sym (slice_get-map Line_at (held_lines lines) i ∙ ap (option_map Line_at) (slice_get-map held_line lines i ∙ ap (option_map held_line) (slice_get_past lines i over)))

pub line_got : (buffer : Handle) (lines : List Line) (i : ℕ) (result : Option Line) → result ≡ slice_get lines i → option_map (λ line. Line_at (held_by buffer line)) result ≡ slice_get (map Line_at (map (held_by buffer) lines)) i
line_got buffer lines i None is = sym (slice_get-map Line_at (map (held_by buffer) lines) i ∙ ap (option_map Line_at) (slice_get-map (held_by buffer) lines i ∙ ap (option_map (held_by buffer)) (sym is)))
line_got buffer lines i (Some line) is = sym (slice_get-map Line_at (map (held_by buffer) lines) i ∙ ap (option_map Line_at) (slice_get-map (held_by buffer) lines i ∙ ap (option_map (held_by buffer)) (sym is)))
