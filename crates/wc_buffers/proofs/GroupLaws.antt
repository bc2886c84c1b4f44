-- The laws of the edits of groups: they commute with a map that keeps the keys, and keys stay distinct.
use Rattle.std.proofs.Common.{◌≡◌, ℕ, ◌+◌, ◌≤◌, Bool, true, false, cond, not, ltb, eqb, List, [], ◌∷◌, ◌++◌, ◌⊎◌, map, take, drop, length, filter, position, find, flat_map, Some, option_map, refl, ap, sym, ◌∙◌, inr, arith, take-append-drop, suc, lt-ltb}
use Rattle.std.specs.List.{list_any, prefix_len}
use Rattle.std.proofs.lemmas.Bool.Decides.{nat_tests}
use Rattle.std.proofs.lemmas.List.{take-map, drop-map, map-append, length-map}
use Rattle.wc_buffers.specs.Groups.{filled_groups, AllFilled, rows, in_group, has, row_of, place, times_in, times, only, without, update, take_out, pick, append_to, merge, others, own, move_group, part, unmerge}

pub by_bool : (b : Bool) (P : Type 0) → (b ≡ true → P) → (b ≡ false → P) → P
by_bool true P at_true at_false = at_true refl
by_bool false P at_true at_false = at_false refl

-- ---- maps and filters

map-square : {A B C D : Type 0} (f : A → B) (g : C → D) (u : A → C) (v : B → D) → ((x : A) → g (u x) ≡ v (f x)) → (xs : List A) → map g (map u xs) ≡ map v (map f xs)
map-square f g u v same [] = refl
map-square f g u v same (x ∷ xs) = rw (same x, map-square f g u v same xs) refl

flat_map-square : {A B X Y : Type 0} (f : A → B) (g : X → Y) (u : X → List A) (v : Y → List B) → ((x : X) → map f (u x) ≡ v (g x)) → (xs : List X) → map f (flat_map u xs) ≡ flat_map v (map g xs)
flat_map-square f g u v same [] = refl
flat_map-square f g u v same (x ∷ xs) = map-append f (u x) (flat_map u xs) ∙ rw (same x, flat_map-square f g u v same xs) refl

filter-map : {A B : Type 0} (f : A → B) (p : B → Bool) (q : A → Bool) → ((x : A) → p (f x) ≡ q x) → (xs : List A) → map f (filter q xs) ≡ filter p (map f xs)
filter-map f p q same [] = refl
filter-map f p q same (x ∷ xs) = rw (same x) (elim (q x) as (λ b. map f (cond b (x ∷ filter q xs) (filter q xs)) ≡ cond b (f x ∷ filter p (map f xs)) (filter p (map f xs))) [
  | true ↦ ap (λ l. f x ∷ l) (filter-map f p q same xs)
  | false ↦ filter-map f p q same xs
])

pub list_any-map : {A B : Type 0} (f : A → B) (p : B → Bool) (q : A → Bool) → ((x : A) → p (f x) ≡ q x) → (xs : List A) → list_any p (map f xs) ≡ list_any q xs
list_any-map f p q same [] = refl
list_any-map f p q same (x ∷ xs) = rw (same x, list_any-map f p q same xs) refl

prefix_len-map : {A B : Type 0} (f : A → B) (p : B → Bool) (q : A → Bool) → ((x : A) → p (f x) ≡ q x) → (xs : List A) → prefix_len p (map f xs) ≡ prefix_len q xs
prefix_len-map f p q same [] = refl
prefix_len-map f p q same (x ∷ xs) = rw (same x, prefix_len-map f p q same xs) refl

position-map : {A B : Type 0} (f : A → B) (p : B → Bool) (q : A → Bool) → ((x : A) → p (f x) ≡ q x) → (xs : List A) → position p (map f xs) ≡ position q xs
position-map f p q same xs =
    rw (prefix_len-map f (λ y. not (p y)) (λ x. not (q x)) (λ x. ap not (same x)) xs, length-map xs f) refl

find-map : {A B : Type 0} (f : A → B) (p : B → Bool) (q : A → Bool) → ((x : A) → p (f x) ≡ q x) → (xs : List A) → find p (map f xs) ≡ option_map f (find q xs)
find-map f p q same [] = refl
find-map f p q same (x ∷ xs) = rw (same x) (elim (q x) as (λ b. cond b (Some (f x)) (find p (map f xs)) ≡ option_map f (cond b (Some x) (find q xs))) [
  | true ↦ refl
  | false ↦ find-map f p q same xs
])

pub filled-some : {A : Type 0} (x : A) (xs : List A) (gs : List (List A)) → filled_groups ((x ∷ xs) ∷ gs) ≡ (x ∷ xs) ∷ filled_groups gs
filled-some x xs gs = rw (lt-ltb 0 (suc (length xs)) (omega arith)) refl

-- ---- the edits under a map that keeps the keys

module _ {A B : Type 0} (f : A → B) (k : A → ℕ) (key : B → ℕ) (same : (x : A) → key (f x) ≡ k x) where
  abbrev pub shown : List (List A) → List (List B)
  shown gs = map (map f) gs

  test : (h : ℕ) (x : A) → eqb (key (f x)) h ≡ eqb (k x) h
  test h x = ap (λ n. eqb n h) (same x)

  pub in_group-map : (h : ℕ) (g : List A) → in_group key h (map f g) ≡ in_group k h g
  in_group-map h g = list_any-map f (λ y. eqb (key y) h) (λ x. eqb (k x) h) (test h) g

  pub has-map : (h : ℕ) (gs : List (List A)) → has key h (shown gs) ≡ has k h gs
  has-map h gs = list_any-map (map f) (in_group key h) (in_group k h) (in_group-map h) gs

  pub place-map : (h : ℕ) (gs : List (List A)) → place key h (shown gs) ≡ place k h gs
  place-map h gs = position-map (map f) (in_group key h) (in_group k h) (in_group-map h) gs

  pub rows-map : (gs : List (List A)) → rows (shown gs) ≡ map f (rows gs)
  rows-map gs = sym (flat_map-square f (map f) (λ g. g) (λ g. g) (λ g. refl) gs)

  pub row_of-map : (h : ℕ) (gs : List (List A)) → row_of key h (shown gs) ≡ option_map f (row_of k h gs)
  row_of-map h gs = ap (find (λ y. eqb (key y) h)) (rows-map gs) ∙ find-map f (λ y. eqb (key y) h) (λ x. eqb (k x) h) (test h) (rows gs)

  filled-map : (gs : List (List A)) → shown (filled_groups gs) ≡ filled_groups (shown gs)
  filled-map gs = filter-map (map f) (λ g. ltb 0 (length g)) (λ g. ltb 0 (length g)) (λ g. ap (ltb 0) (length-map g f)) gs

  pub only-map : (h : ℕ) (g : List A) → map f (only k h g) ≡ only key h (map f g)
  only-map h g = filter-map f (λ y. eqb (key y) h) (λ x. eqb (k x) h) (test h) g

  pub without-map : (h : ℕ) (g : List A) → map f (without k h g) ≡ without key h (map f g)
  without-map h g = filter-map f (λ y. not (eqb (key y) h)) (λ x. not (eqb (k x) h)) (λ x. ap not (test h x)) g

  pub update-map : (h : ℕ) (F : A → A) (G : B → B) → ((x : A) → f (F x) ≡ G (f x)) → (gs : List (List A)) → shown (update k h F gs) ≡ update key h G (shown gs)
  update-map h F G agree gs = map-square (map f) (map f) (map (λ x. cond (eqb (k x) h) (F x) x)) (map (λ y. cond (eqb (key y) h) (G y) y)) (λ g. map-square f f (λ x. cond (eqb (k x) h) (F x) x) (λ y. cond (eqb (key y) h) (G y) y) one g) gs
    where
      one : (x : A) → f (cond (eqb (k x) h) (F x) x) ≡ cond (eqb (key (f x)) h) (G (f x)) (f x)
      one x = rw (same x) (elim (eqb (k x) h) as (λ b. f (cond b (F x) x) ≡ cond b (G (f x)) (f x)) [ true ↦ agree x | false ↦ refl ])

  pub take_out-map : (h : ℕ) (gs : List (List A)) → shown (take_out k h gs) ≡ take_out key h (shown gs)
  take_out-map h gs = filled-map (map (without k h) gs) ∙ ap filled_groups (map-square (map f) (map f) (without k h) (without key h) (without-map h) gs)

  pub pick-map : (h : ℕ) (gs : List (List A)) → map f (pick k h gs) ≡ pick key h (shown gs)
  pick-map h gs = flat_map-square f (map f) (only k h) (only key h) (only-map h) gs

  pub append_to-map : (h : ℕ) (new : List A) (gs : List (List A)) → shown (append_to k h new gs) ≡ append_to key h (map f new) (shown gs)
  append_to-map h new gs = map-square (map f) (map f) (λ g. cond (in_group k h g) (g ++ new) g) (λ g. cond (in_group key h g) (g ++ map f new) g) one gs
    where
      one : (g : List A) → map f (cond (in_group k h g) (g ++ new) g) ≡ cond (in_group key h (map f g)) (map f g ++ map f new) (map f g)
      one g = rw (in_group-map h g) (elim (in_group k h g) as (λ b. map f (cond b (g ++ new) g) ≡ cond b (map f g ++ map f new) (map f g)) [ true ↦ map-append f g new | false ↦ refl ])

  pub merge-map : (h into : ℕ) (gs : List (List A)) → shown (merge k h into gs) ≡ merge key h into (shown gs)
  merge-map h into gs = append_to-map into (pick k h gs) (take_out k h gs) ∙ rw (pick-map h gs, take_out-map h gs) refl

  others-map : (h : ℕ) (gs : List (List A)) → shown (others k h gs) ≡ others key h (shown gs)
  others-map h gs = filter-map (map f) (λ g. not (in_group key h g)) (λ g. not (in_group k h g)) (λ g. ap not (in_group-map h g)) gs

  own-map : (h : ℕ) (gs : List (List A)) → shown (own k h gs) ≡ own key h (shown gs)
  own-map h gs = filter-map (map f) (in_group key h) (in_group k h) (in_group-map h) gs

  pub move_group-map : (h n : ℕ) (gs : List (List A)) → shown (move_group k h n gs) ≡ move_group key h n (shown gs)
  move_group-map h n gs =
      let os = others k h gs in
      map-append (map f) (take n os) (own k h gs ++ drop n os)
      ∙ rw (map-append (map f) (own k h gs) (drop n os), ← take-map (map f) n os, ← drop-map (map f) n os, others-map h gs, own-map h gs) refl

  part-map : (h : ℕ) (g : List A) → shown (part k h g) ≡ part key h (map f g)
  part-map h g = rw (in_group-map h g) (elim (in_group k h g) as (λ b. shown (cond b (filled_groups (without k h g ∷ only k h g ∷ [])) (g ∷ [])) ≡ cond b (filled_groups (without key h (map f g) ∷ only key h (map f g) ∷ [])) (map f g ∷ [])) [
    | true ↦ filled-map (without k h g ∷ only k h g ∷ []) ∙ rw (without-map h g, only-map h g) refl
    | false ↦ refl
  ])

  pub unmerge-map : (h : ℕ) (gs : List (List A)) → shown (unmerge k h gs) ≡ unmerge key h (shown gs)
  unmerge-map h gs = flat_map-square (map f) (map f) (part k h) (part key h) (part-map h) gs

  times_in-map : (h : ℕ) (g : List A) → times_in key h (map f g) ≡ times_in k h g
  times_in-map h [] = refl
  times_in-map h (x ∷ xs) = rw (same x, times_in-map h xs) refl

  pub times-map : (h : ℕ) (gs : List (List A)) → times key h (shown gs) ≡ times k h gs
  times-map h [] = refl
  times-map h (g ∷ gs) = rw (times_in-map h g, times-map h gs) refl

  pub AllFilled-map : (gs : List (List A)) → AllFilled gs → AllFilled (shown gs)
  AllFilled-map [] all = tt
  AllFilled-map ([] ∷ gs) all = absurd all
  AllFilled-map ((x ∷ xs) ∷ gs) all = AllFilled-map gs all

-- ---- how often a key is after an edit

module _ {A : Type 0} (key : A → ℕ) where
  pub times_in-append : (h : ℕ) (xs ys : List A) → times_in key h (xs ++ ys) ≡ times_in key h xs + times_in key h ys
  times_in-append h [] ys = omega arith
  times_in-append h (x ∷ xs) ys = omega (arith, times_in-append h xs ys)

  pub times-append : (h : ℕ) (xs ys : List (List A)) → times key h (xs ++ ys) ≡ times key h xs + times key h ys
  times-append h [] ys = omega arith
  times-append h (g ∷ gs) ys = omega (arith, times-append h gs ys)

  -- a row of the key is there or not
  pub in_group_tells : (h : ℕ) (g : List A) → ((in_group key h g ≡ true) × (1 ≤ times_in key h g)) ⊎ ((in_group key h g ≡ false) × (times_in key h g ≡ 0))
  in_group_tells h [] = inr (refl, refl)
  in_group_tells h (x ∷ xs) = grind (arith, nat_tests, in_group_tells h xs)

  pub has_tells : (h : ℕ) (gs : List (List A)) → ((has key h gs ≡ true) × (1 ≤ times key h gs)) ⊎ ((has key h gs ≡ false) × (times key h gs ≡ 0))
  has_tells h [] = inr (refl, refl)
  has_tells h (g ∷ gs) = grind (arith, nat_tests, has_tells h gs, in_group_tells h g)

  pub has_from_times : (h : ℕ) (gs hs : List (List A)) → times key h hs ≡ times key h gs → has key h hs ≡ has key h gs
  has_from_times h gs hs e = grind (arith, has_tells h gs, has_tells h hs)

  pub times_in-without : (h n : ℕ) (g : List A) → times_in key h (without key n g) ≡ cond (eqb n h) 0 (times_in key h g)
  times_in-without h n [] = grind (arith, nat_tests)
  times_in-without h n (x ∷ xs) = grind (arith, nat_tests, times_in-without h n xs)

  pub times_in-only : (h n : ℕ) (g : List A) → times_in key h (only key n g) ≡ cond (eqb n h) (times_in key h g) 0
  times_in-only h n [] = grind (arith, nat_tests)
  times_in-only h n (x ∷ xs) = grind (arith, nat_tests, times_in-only h n xs)

  pub times-filled : (h : ℕ) (gs : List (List A)) → times key h (filled_groups gs) ≡ times key h gs
  times-filled h [] = refl
  times-filled h ([] ∷ gs) = omega (arith, times-filled h gs)
  times-filled h ((x ∷ xs) ∷ gs) = rw (filled-some x xs gs, times-filled h gs) refl

  times-without : (h n : ℕ) (gs : List (List A)) → times key h (map (without key n) gs) ≡ cond (eqb n h) 0 (times key h gs)
  times-without h n [] = grind (arith, nat_tests)
  times-without h n (g ∷ gs) = grind (arith, nat_tests, times-without h n gs, times_in-without h n g)

  pub times-take_out : (h n : ℕ) (gs : List (List A)) → times key h (take_out key n gs) ≡ cond (eqb n h) 0 (times key h gs)
  times-take_out h n gs = times-filled h (map (without key n) gs) ∙ times-without h n gs

  pub times_in-pick : (h n : ℕ) (gs : List (List A)) → times_in key h (pick key n gs) ≡ cond (eqb n h) (times key h gs) 0
  times_in-pick h n [] = grind (arith, nat_tests)
  times_in-pick h n (g ∷ gs) = grind (arith, nat_tests, times_in-pick h n gs, times_in-only h n g, times_in-append h (only key n g) (pick key n gs))

  pub times-split : (h n : ℕ) (gs : List (List A)) → times key h (own key n gs) + times key h (others key n gs) ≡ times key h gs
  times-split h n [] = refl
  times-split h n (g ∷ gs) = grind (arith, nat_tests, times-split h n gs, in_group_tells n g)

  pub times-move_group : (h n m : ℕ) (gs : List (List A)) → times key h (move_group key n m gs) ≡ times key h gs
  times-move_group h n m gs =
      let os = others key n gs in
      let all : take m os ++ drop m os ≡ os = take-append-drop m os in
      omega (arith, times-append h (take m os) (own key n gs ++ drop m os), times-append h (own key n gs) (drop m os), times-append h (take m os) (drop m os), ap (times key h) all, times-split h n gs)

  times-part : (h n : ℕ) (g : List A) → times key h (part key n g) ≡ times_in key h g
  times-part h n g = elim (in_group key n g) as (λ b. times key h (cond b (filled_groups (without key n g ∷ only key n g ∷ [])) (g ∷ [])) ≡ times_in key h g) [
    | true ↦ times-filled h (without key n g ∷ only key n g ∷ []) ∙ grind (arith, nat_tests, times_in-without h n g, times_in-only h n g)
    | false ↦ omega arith
  ]

  pub times-unmerge : (h n : ℕ) (gs : List (List A)) → times key h (unmerge key n gs) ≡ times key h gs
  times-unmerge h n [] = refl
  times-unmerge h n (g ∷ gs) = omega (arith, times-append h (part key n g) (unmerge key n gs), times-part h n g, times-unmerge h n gs)

  -- rows that are put after those of one group
  pub times-append_to : (h n : ℕ) (new : List A) (gs : List (List A)) → times key n gs ≤ 1 → times key h (append_to key n new gs) ≡ times key h gs + cond (has key n gs) (times_in key h new) 0
  times-append_to h n new [] once = omega arith
  times-append_to h n new (g ∷ gs) once =
      let later : times key n gs ≤ 1 = omega arith in
      grind (arith, nat_tests, times-append_to h n new gs later, times_in-append h g new, in_group_tells n g, has_tells n gs)

  -- a row that is put after those of another group
  pub times-merge : (h n into : ℕ) (gs : List (List A)) → times key into gs ≤ 1 → has key into gs ≡ true → eqb n into ≡ false → times key h (merge key n into gs) ≡ times key h gs
  times-merge h n into gs once there apart =
      let rest = take_out key n gs in
      let same : times key into rest ≡ times key into gs = times-take_out into n gs ∙ rw apart refl in
      let stays : has key into rest ≡ true = has_from_times into gs rest same ∙ there in
      let put : times key h (append_to key into (pick key n gs) rest) ≡ times key h rest + cond (has key into rest) (times_in key h (pick key n gs)) 0 = times-append_to h into (pick key n gs) rest (omega arith) in
      let all : times key h (append_to key into (pick key n gs) rest) ≡ times key h rest + times_in key h (pick key n gs) = put ∙ rw stays refl in
      all ∙ by (eqb n h) (times-take_out h n gs) (times_in-pick h n gs)
    where
      by : (t : Bool) → times key h (take_out key n gs) ≡ cond t 0 (times key h gs) → times_in key h (pick key n gs) ≡ cond t (times key h gs) 0 → times key h (take_out key n gs) + times_in key h (pick key n gs) ≡ times key h gs
      by true a b = omega arith
      by false a b = omega arith

  -- a change that keeps the keys
  times_in-update : (h n : ℕ) (F : A → A) → ((x : A) → key (F x) ≡ key x) → (g : List A) → times_in key h (map (λ x. cond (eqb (key x) n) (F x) x) g) ≡ times_in key h g
  times_in-update h n F keeps [] = refl
  times_in-update h n F keeps (x ∷ xs) = elim (eqb (key x) n) as (λ b. times_in key h (cond b (F x) x ∷ map (λ x. cond (eqb (key x) n) (F x) x) xs) ≡ times_in key h (x ∷ xs)) [
    | true ↦ rw (keeps x, times_in-update h n F keeps xs) refl
    | false ↦ rw (times_in-update h n F keeps xs) refl
  ]

  pub times-update : (h n : ℕ) (F : A → A) → ((x : A) → key (F x) ≡ key x) → (gs : List (List A)) → times key h (update key n F gs) ≡ times key h gs
  times-update h n F keeps [] = refl
  times-update h n F keeps (g ∷ gs) = rw (times_in-update h n F keeps g, times-update h n F keeps gs) refl
