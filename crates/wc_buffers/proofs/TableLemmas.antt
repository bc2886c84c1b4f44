-- Groups of handles, each handle once: where a handle is, and what an edit there leaves.
use Rattle.std.proofs.Common.{◌≡◌, ℕ, suc, ◌+◌, ◌≤◌, ◌<◌, Bool, true, false, cond, not, ◌&&◌, ◌||◌, ltb, eqb, List, [], ◌∷◌, ◌++◌, map, take, drop, set, get_or, length, insert, remove, position, Option, Some, None, refl, ap, sym, subst, ◌∙◌, arith, append_assoc, append-nil, take_at, drop_at, length-append, lt-ltb, le-ltb, eqb-true, take-append-drop}
use Rattle.std.specs.List.{list_any, position_or_len}
use Rattle.std.proofs.lemmas.Bool.{false≢true, or_parts}
use Rattle.std.proofs.lemmas.Bool.Decides.{nat_tests}
use Rattle.std.proofs.lemmas.List.{set_at, get_or_at, map-append}
use Rattle.std.proofs.lemmas.List.Concat.{flat_map-append}
use Rattle.std.proofs.lemmas.List.Elements.{filter-append}
use Rattle.std.proofs.lemmas.List.Folds.{list_any-append}
use Rattle.wc_text.specs.declared.names.Handle.{Handle}
use Rattle.wc_buffers.specs.Groups.{filled_groups, AllFilled, rows, in_group, has, place, times_in, times, only, without, take_out, pick, append_to, others, own, move_group, part, unmerge}
use Rattle.wc_buffers.specs.Table.{key, AllEmpty, AreGroups}
use Rattle.wc_buffers.proofs.GroupLaws.{by_bool, filled-some, times-append, in_group_tells, has_tells, times-take_out, times-append_to, times-move_group, times-unmerge}

-- ---- the first element that passes a test

pub record FirstAt {X : Type 0} (p : X → Bool) (n : ℕ) (xs : List X) : Type 0 where
  pub front : List X
  pub x : X
  pub back : List X
  pub whole : xs ≡ front ++ x ∷ back
  pub long : length front ≡ n
  pub before : list_any p front ≡ false
  pub here : p x ≡ true

-- there is one at its place, or the place is the length
first_of : {X : Type 0} (p : X → Bool) (xs : List X) → list_any p xs ≡ true → FirstAt p (position_or_len p xs) xs
first_of p [] e = absurd (false≢true e)
first_of p (x ∷ xs) e = by (p x) refl e (first_of p xs)
  where
    by : (t : Bool) → p x ≡ t → (list_any p (x ∷ xs) ≡ true) → (list_any p xs ≡ true → FirstAt p (position_or_len p xs) xs) → FirstAt p (position_or_len p (x ∷ xs)) (x ∷ xs)
    by true t e rec = record { front = []; x = x; back = xs; whole = refl; long = rw t refl; before = refl; here = t }
    by false t e rec =
        let r = rec (let z = e in rw t at z) in
        record { front = x ∷ r.front; x = r.x; back = r.back; whole = ap (λ l. x ∷ l) r.whole; long = (let l = r.long in rw t (omega arith)); before = rw t r.before; here = r.here }

none_len : {X : Type 0} (p : X → Bool) (xs : List X) → list_any p xs ≡ false → position_or_len p xs ≡ length xs
none_len p [] e = refl
none_len p (x ∷ xs) e = let o = or_parts (p x) (list_any p xs) e in rw o.0 (let r = none_len p xs o.1 in omega arith)

within : {X : Type 0} (p : X → Bool) (xs : List X) → FirstAt p (position_or_len p xs) xs → position_or_len p xs < length xs
within p xs f = let w = ap length f.whole in let a = length-append f.front (f.x ∷ f.back) in let l = f.long in omega arith

pub position_some : {X : Type 0} (p : X → Bool) (n : ℕ) (xs : List X) → position p xs ≡ Some n → FirstAt p n xs
position_some p n xs e = by_bool (list_any p xs) _
    (λ t.
    let f = first_of p xs t in
    let s : position p xs ≡ Some (position_or_len p xs) = rw (lt-ltb (position_or_len p xs) (length xs) (within p xs f)) refl in
    let same : position_or_len p xs ≡ n = cc in
    subst (λ m. FirstAt p m xs) same f)
    (λ t. let s : position p xs ≡ None = rw (none_len p xs t, le-ltb (length xs) (length xs) (omega arith)) refl in absurd cc)

pub position_none : {X : Type 0} (p : X → Bool) (xs : List X) → position p xs ≡ None → list_any p xs ≡ false
position_none p xs e = by_bool (list_any p xs) _
    (λ t.
    let s : position p xs ≡ Some (position_or_len p xs) = rw (lt-ltb (position_or_len p xs) (length xs) (within p xs (first_of p xs t))) refl in
    absurd cc)
    (λ t. t)

-- ---- lists that are written at a place

pub written : {X : Type 0} (front back : List X) (x y : X) (n : ℕ) → length front ≡ n → set (front ++ x ∷ back) n y ≡ front ++ y ∷ back
written front back x y n e = set_at front x back y n e

following : {X : Type 0} (front back : List X) (x : X) (n : ℕ) → length front ≡ n → drop (suc n) (front ++ x ∷ back) ≡ back
following front back x n e =
    let l : length (front ++ x ∷ []) ≡ suc n = (let a = length-append front (x ∷ []) in omega arith) in
    ap (drop (suc n)) (sym (append_assoc front (x ∷ []) back)) ∙ drop_at (front ++ x ∷ []) back (suc n) l

pub removed : {X : Type 0} (front back : List X) (x : X) (n : ℕ) → length front ≡ n → remove (front ++ x ∷ back) n ≡ front ++ back
removed front back x n e = rw (take_at front (x ∷ back) n e, following front back x n e) refl

-- one more right after the place
pub put_after : {X : Type 0} (front back : List X) (x y : X) (n : ℕ) → length front ≡ n → insert (front ++ x ∷ back) (n + 1) y ≡ front ++ x ∷ y ∷ back
put_after front back x y n e =
    let l : length (front ++ x ∷ []) ≡ n + 1 = (let a = length-append front (x ∷ []) in omega arith) in
    let s = append_assoc front (x ∷ []) back in
    ap (λ z. insert z (n + 1) y) (sym s) ∙ rw (take_at (front ++ x ∷ []) back (n + 1) l, drop_at (front ++ x ∷ []) back (n + 1) l) (append_assoc front (x ∷ []) (y ∷ back))

-- ---- groups without a key

module _ (h : ℕ) where
  without_same : (g : List Handle) → in_group key h g ≡ false → without key h g ≡ g
  without_same [] e = refl
  without_same (x ∷ xs) e = let o = or_parts (eqb x.0 h) (in_group key h xs) e in rw o.0 (ap (λ l. x ∷ l) (without_same xs o.1))

  only_none : (g : List Handle) → in_group key h g ≡ false → only key h g ≡ []
  only_none [] e = refl
  only_none (x ∷ xs) e = let o = or_parts (eqb x.0 h) (in_group key h xs) e in rw o.0 (only_none xs o.1)

  take_out_same : (gs : List (List Handle)) → has key h gs ≡ false → AllFilled gs → take_out key h gs ≡ gs
  take_out_same [] e f = refl
  take_out_same ([] ∷ gs) e f = absurd f
  take_out_same ((x ∷ xs) ∷ gs) e f =
      let o = or_parts (in_group key h (x ∷ xs)) (has key h gs) e in
      rw (without_same (x ∷ xs) o.0) (filled-some x xs (map (without key h) gs) ∙ ap (λ l. (x ∷ xs) ∷ l) (take_out_same gs o.1 f))

  pick_none : (gs : List (List Handle)) → has key h gs ≡ false → pick key h gs ≡ []
  pick_none [] e = refl
  pick_none (g ∷ gs) e = let o = or_parts (in_group key h g) (has key h gs) e in rw (only_none g o.0, pick_none gs o.1) refl

  append_to_same : (new : List Handle) (gs : List (List Handle)) → has key h gs ≡ false → append_to key h new gs ≡ gs
  append_to_same new [] e = refl
  append_to_same new (g ∷ gs) e = let o = or_parts (in_group key h g) (has key h gs) e in rw (o.0, append_to_same new gs o.1) refl

  others_same : (gs : List (List Handle)) → has key h gs ≡ false → others key h gs ≡ gs
  others_same [] e = refl
  others_same (g ∷ gs) e = let o = or_parts (in_group key h g) (has key h gs) e in rw (o.0, others_same gs o.1) refl

  own_none : (gs : List (List Handle)) → has key h gs ≡ false → own key h gs ≡ []
  own_none [] e = refl
  own_none (g ∷ gs) e = let o = or_parts (in_group key h g) (has key h gs) e in rw (o.0, own_none gs o.1) refl

  unmerge_same : (gs : List (List Handle)) → has key h gs ≡ false → unmerge key h gs ≡ gs
  unmerge_same [] e = refl
  unmerge_same (g ∷ gs) e = let o = or_parts (in_group key h g) (has key h gs) e in rw (o.0, unmerge_same gs o.1) refl

AllFilled-append : (xs ys : List (List Handle)) → AllFilled xs → AllFilled ys → AllFilled (xs ++ ys)
AllFilled-append [] ys a b = b
AllFilled-append ([] ∷ xs) ys a b = absurd a
AllFilled-append ((r ∷ g) ∷ xs) ys a b = AllFilled-append xs ys a b

AllFilled-left : (xs ys : List (List Handle)) → AllFilled (xs ++ ys) → AllFilled xs
AllFilled-left [] ys a = tt
AllFilled-left ([] ∷ xs) ys a = absurd a
AllFilled-left ((r ∷ g) ∷ xs) ys a = AllFilled-left xs ys a

AllFilled-right : (xs ys : List (List Handle)) → AllFilled (xs ++ ys) → AllFilled ys
AllFilled-right [] ys a = a
AllFilled-right ([] ∷ xs) ys a = absurd a
AllFilled-right ((r ∷ g) ∷ xs) ys a = AllFilled-right xs ys a

AllFilled-group : (g : List Handle) (gs : List (List Handle)) → 0 < length g → AllFilled gs → AllFilled (g ∷ gs)
AllFilled-group [] gs l a = absurd (omega arith)
AllFilled-group (x ∷ xs) gs l a = a

AllFilled-tail : (g : List Handle) (gs : List (List Handle)) → AllFilled (g ∷ gs) → AllFilled gs
AllFilled-tail [] gs a = absurd a
AllFilled-tail (x ∷ xs) gs a = a

filled-group : (g : List Handle) (gs : List (List Handle)) → 0 < length g → filled_groups (g ∷ gs) ≡ g ∷ filled_groups gs
filled-group [] gs l = absurd (omega arith)
filled-group (x ∷ xs) gs l = filled-some x xs gs

filled-none : (g : List Handle) (gs : List (List Handle)) → length g ≡ 0 → filled_groups (g ∷ gs) ≡ filled_groups gs
filled-none [] gs l = refl
filled-none (x ∷ xs) gs l = absurd (omega arith)

rows-append : (xs ys : List (List Handle)) → length (rows (xs ++ ys)) ≡ length (rows xs) + length (rows ys)
rows-append xs ys = ap length (flat_map-append (λ g. g) xs ys) ∙ length-append (rows xs) (rows ys)

rows-cons : (g : List Handle) (gs : List (List Handle)) → length (rows (g ∷ gs)) ≡ length g + length (rows gs)
rows-cons g gs = length-append g (rows gs)

-- groups that are filled are no more than their rows
pub groups-le-rows : (gs : List (List Handle)) → AllFilled gs → length gs ≤ length (rows gs)
groups-le-rows [] a = omega arith
groups-le-rows ([] ∷ gs) a = absurd a
groups-le-rows ((x ∷ xs) ∷ gs) a = omega (arith, groups-le-rows gs a, length-append xs (rows gs))

-- ---- a handle that is once

pub record StandsAt (h n : ℕ) (gs : List (List Handle)) : Type 0 where
  pub front : List (List Handle)
  pub group : List Handle
  pub back : List (List Handle)
  pub whole : gs ≡ front ++ group ∷ back
  pub long : length front ≡ n
  pub before : has key h front ≡ false
  pub here : in_group key h group ≡ true
  pub after : has key h back ≡ false
  pub alone : times_in key h group ≡ 1

pub stands : (h n : ℕ) (gs : List (List Handle)) → AreGroups gs → place key h gs ≡ Some n → StandsAt h n gs
stands h n gs are e =
    let f = position_some (in_group key h) n gs e in
    let once : times key h (f.front ++ f.x ∷ f.back) ≤ 1 = subst (λ l. times key h l ≤ 1) f.whole (are.once h) in
    let sum = times-append key h f.front (f.x ∷ f.back) in
    let here = in_group_tells key h f.x in
    let later = has_tells key h f.back in
    record {
      front = f.front;
      group = f.x;
      back = f.back;
      whole = f.whole;
      long = f.long;
      before = f.before;
      here = f.here;
      after = (let i = f.here in grind (arith, sum, once, here, later));
      alone = (let i = f.here in grind (arith, sum, once, here));
    }

pub never_nowhere : (h : ℕ) (gs : List (List Handle)) → has key h gs ≡ true → place key h gs ≡ None → ⊥
never_nowhere h gs e n = false≢true (sym (position_none (in_group key h) gs n) ∙ e)

-- ---- rows after an edit

length-without : (h : ℕ) (g : List Handle) → length (without key h g) + times_in key h g ≡ length g
length-without h [] = refl
length-without h (x ∷ xs) = by (eqb x.0 h) (length-without h xs)
  where
    by : (t : Bool) → length (without key h xs) + times_in key h xs ≡ length xs → length (cond (not t) (x ∷ without key h xs) (without key h xs)) + (cond t 1 0 + times_in key h xs) ≡ suc (length xs)
    by true e = omega arith
    by false e = omega arith

rows-filled : (gs : List (List Handle)) → length (rows (filled_groups gs)) ≡ length (rows gs)
rows-filled [] = refl
rows-filled ([] ∷ gs) = rows-filled gs
rows-filled ((x ∷ xs) ∷ gs) = rw (filled-some x xs gs) (omega (arith, rows-filled gs, length-append xs (rows (filled_groups gs)), length-append xs (rows gs)))

rows-without : (h : ℕ) (gs : List (List Handle)) → length (rows (map (without key h) gs)) + times key h gs ≡ length (rows gs)
rows-without h [] = refl
rows-without h (g ∷ gs) = omega (arith, rows-without h gs, length-without h g, rows-cons g gs, rows-cons (without key h g) (map (without key h) gs))

pub rows-take_out : (h : ℕ) (gs : List (List Handle)) → length (rows (take_out key h gs)) + times key h gs ≡ length (rows gs)
rows-take_out h gs = omega (arith, rows-filled (map (without key h) gs), rows-without h gs)

rows-three : (a : List (List Handle)) (g : List Handle) (b : List (List Handle)) → length (rows (a ++ g ∷ b)) ≡ length (rows a) + length g + length (rows b)
rows-three a g b = omega (arith, rows-append a (g ∷ b), rows-cons g b)

-- ---- the edits at the place of a handle

module _ (h n : ℕ) (gs : List (List Handle)) (s : StandsAt h n gs) (are : AreGroups gs) where
  front_filled : AllFilled s.front
  front_filled = AllFilled-left s.front (s.group ∷ s.back) (subst AllFilled s.whole are.filled)

  back_filled : AllFilled s.back
  back_filled = AllFilled-tail s.group s.back (AllFilled-right s.front (s.group ∷ s.back) (subst AllFilled s.whole are.filled))

  take_out_parts : take_out key h gs ≡ s.front ++ (filled_groups (without key h s.group ∷ map (without key h) s.back))
  take_out_parts =
      ap (take_out key h) s.whole ∙ ap filled_groups (map-append (without key h) s.front (s.group ∷ s.back))
      ∙ filter-append (λ g. ltb 0 (length g)) (map (without key h) s.front) (map (without key h) (s.group ∷ s.back))
      ∙ ap (λ l. l ++ filled_groups (without key h s.group ∷ map (without key h) s.back)) (take_out_same h s.front s.before front_filled)

  pub take_out_some : 0 < length (without key h s.group) → take_out key h gs ≡ s.front ++ without key h s.group ∷ s.back
  take_out_some l = take_out_parts ∙ ap (λ x. s.front ++ x) (filled-group (without key h s.group) (map (without key h) s.back) l ∙ ap (λ x. without key h s.group ∷ x) (take_out_same h s.back s.after back_filled))

  pub take_out_none : length (without key h s.group) ≡ 0 → take_out key h gs ≡ s.front ++ s.back
  take_out_none l = take_out_parts ∙ ap (λ x. s.front ++ x) (filled-none (without key h s.group) (map (without key h) s.back) l ∙ take_out_same h s.back s.after back_filled)

  others_at : others key h gs ≡ s.front ++ s.back
  others_at =
      ap (others key h) s.whole ∙ filter-append (λ g. not (in_group key h g)) s.front (s.group ∷ s.back)
      ∙ rw (others_same h s.front s.before, s.here, others_same h s.back s.after) refl

  own_at : own key h gs ≡ s.group ∷ []
  own_at =
      ap (own key h) s.whole ∙ filter-append (in_group key h) s.front (s.group ∷ s.back)
      ∙ rw (own_none h s.front s.before, s.here, own_none h s.back s.after) refl

  pub move_group_at : (m : ℕ) → move_group key h m gs ≡ insert (s.front ++ s.back) m s.group
  move_group_at m = rw (others_at, own_at) refl

  pub append_to_at : (new : List Handle) → append_to key h new gs ≡ s.front ++ (s.group ++ new) ∷ s.back
  append_to_at new =
      ap (append_to key h new) s.whole ∙ map-append (λ g. cond (in_group key h g) (g ++ new) g) s.front (s.group ∷ s.back)
      ∙ rw (append_to_same h new s.front s.before, s.here, append_to_same h new s.back s.after) refl

  pub pick_at : pick key h gs ≡ only key h s.group
  pick_at =
      ap (pick key h) s.whole ∙ flat_map-append (only key h) s.front (s.group ∷ s.back)
      ∙ rw (pick_none h s.front s.before, pick_none h s.back s.after) (append-nil (only key h s.group))

  unmerge_parts : unmerge key h gs ≡ s.front ++ (filled_groups (without key h s.group ∷ only key h s.group ∷ []) ++ s.back)
  unmerge_parts =
      ap (unmerge key h) s.whole ∙ flat_map-append (part key h) s.front (s.group ∷ s.back)
      ∙ rw (unmerge_same h s.front s.before, s.here, unmerge_same h s.back s.after) refl

  pub unmerge_at : (alone : List Handle) → only key h s.group ≡ alone → 0 < length alone → 0 < length (without key h s.group) → unmerge key h gs ≡ s.front ++ without key h s.group ∷ alone ∷ s.back
  unmerge_at alone e some rest =
      unmerge_parts ∙ rw (e, filled-group (without key h s.group) (alone ∷ []) rest, filled-group alone [] some) refl

-- the handle alone
same_handle : (x h : Handle) → eqb x.0 h.0 ≡ true → x ≡ h
same_handle x h t = let e : x.0 ≡ h.0 = eqb-true x.0 h.0 t in λ i. record { 0 = e i }

pub only_alone : (h : Handle) (g : List Handle) → times_in key h.0 g ≡ 1 → only key h.0 g ≡ h ∷ []
only_alone h [] e = absurd (omega arith)
only_alone h (x ∷ xs) e = by (eqb x.0 h.0) refl e (only_alone h xs)
  where
    by : (t : Bool) → eqb x.0 h.0 ≡ t → cond t 1 0 + times_in key h.0 xs ≡ 1 → (times_in key h.0 xs ≡ 1 → only key h.0 xs ≡ h ∷ []) → cond t (x ∷ only key h.0 xs) (only key h.0 xs) ≡ h ∷ []
    by true t e rec =
        let none : in_group key h.0 xs ≡ false = grind (arith, in_group_tells key h.0 xs) in
        rw (only_none h.0 xs none, same_handle x h t) refl
    by false t e rec = rec (omega arith)

-- ---- what is kept

AllFilled-filled : (gs : List (List Handle)) → AllFilled (filled_groups gs)
AllFilled-filled [] = tt
AllFilled-filled ([] ∷ gs) = AllFilled-filled gs
AllFilled-filled ((x ∷ xs) ∷ gs) = rw (filled-some x xs gs) (AllFilled-filled gs)

pub added_are : (h : Handle) (gs : List (List Handle)) → AreGroups gs → has key h.0 gs ≡ false → length (rows gs) < 256 → AreGroups (gs ++ (h ∷ []) ∷ [])
added_are h gs are absent room = record {
  once = λ q. grind (arith, nat_tests, times-append key q gs ((h ∷ []) ∷ []), are.once q, has_tells key q gs, absent);
  filled = AllFilled-append gs ((h ∷ []) ∷ []) are.filled tt;
  few = omega (arith, rows-append gs ((h ∷ []) ∷ []));
}

pub taken_are : (h : ℕ) (gs : List (List Handle)) → AreGroups gs → AreGroups (take_out key h gs)
taken_are h gs are = record {
  once = λ q. grind (arith, nat_tests, times-take_out key q h gs, are.once q);
  filled = AllFilled-filled (map (without key h) gs);
  few = (let f = are.few in omega (arith, rows-take_out h gs));
}

AllFilled-insert : (m : ℕ) (g : List Handle) (gs : List (List Handle)) → AllFilled gs → 0 < length g → AllFilled (insert gs m g)
AllFilled-insert m g gs a l =
    let whole : AllFilled (take m gs ++ drop m gs) = subst AllFilled (sym (take-append-drop m gs)) a in
    AllFilled-append (take m gs) (g ∷ drop m gs) (AllFilled-left (take m gs) (drop m gs) whole) (AllFilled-group g (drop m gs) l (AllFilled-right (take m gs) (drop m gs) whole))

rows-insert : (m : ℕ) (g : List Handle) (gs : List (List Handle)) → length (rows (insert gs m g)) ≡ length (rows gs) + length g
rows-insert m g gs = omega (arith, rows-three (take m gs) g (drop m gs), rows-append (take m gs) (drop m gs), ap (λ l. length (rows l)) (take-append-drop m gs))

filled_here : (h : ℕ) (g : List Handle) → times_in key h g ≡ 1 → 0 < length g
filled_here h g e = omega (arith, length-without h g)

pub moved_are : (h n m : ℕ) (gs : List (List Handle)) → AreGroups gs → StandsAt h n gs → AreGroups (move_group key h m gs)
moved_are h n m gs are s = record {
  once = λ q. omega (arith, times-move_group key q h m gs, are.once q);
  filled = subst AllFilled (sym (move_group_at h n gs s are m)) (AllFilled-insert m s.group (s.front ++ s.back) (AllFilled-append s.front s.back (front_filled h n gs s are) (back_filled h n gs s are)) (filled_here h s.group s.alone));
  few = (let f = are.few in omega (arith, ap (λ l. length (rows l)) (move_group_at h n gs s are m), rows-insert m s.group (s.front ++ s.back), rows-append s.front s.back, rows-three s.front s.group s.back, ap (λ l. length (rows l)) s.whole));
}

pub rows-moved : (h n m : ℕ) (gs : List (List Handle)) → AreGroups gs → StandsAt h n gs → length (rows (move_group key h m gs)) ≡ length (rows gs)
rows-moved h n m gs are s = omega (arith, ap (λ l. length (rows l)) (move_group_at h n gs s are m), rows-insert m s.group (s.front ++ s.back), rows-append s.front s.back, rows-three s.front s.group s.back, ap (λ l. length (rows l)) s.whole)

pub rows-appended : (h n : ℕ) (new : List Handle) (gs : List (List Handle)) → AreGroups gs → StandsAt h n gs → length (rows (append_to key h new gs)) ≡ length (rows gs) + length new
rows-appended h n new gs are s = omega (arith, ap (λ l. length (rows l)) (append_to_at h n gs s are new), rows-three s.front (s.group ++ new) s.back, length-append s.group new, rows-three s.front s.group s.back, ap (λ l. length (rows l)) s.whole)

pub appended_are : (into n : ℕ) (h : Handle) (gs : List (List Handle)) → AreGroups gs → StandsAt into n gs → has key h.0 gs ≡ false → length (rows gs) < 256 → AreGroups (append_to key into (h ∷ []) gs)
appended_are into n h gs are s absent room = record {
  once = λ q. grind (arith, nat_tests, times-append_to key q into (h ∷ []) gs (are.once into), are.once q, has_tells key q gs, absent);
  filled = subst AllFilled (sym (append_to_at into n gs s are (h ∷ []))) (AllFilled-append s.front ((s.group ++ h ∷ []) ∷ s.back) (front_filled into n gs s are) (AllFilled-group (s.group ++ h ∷ []) s.back (omega (arith, length-append s.group (h ∷ []))) (back_filled into n gs s are)));
  few = omega (arith, rows-appended into n (h ∷ []) gs are s);
}

pub rows-unmerged : (h : Handle) (n : ℕ) (gs : List (List Handle)) → AreGroups gs → (s : StandsAt h.0 n gs) → 0 < length (without key h.0 s.group) → length (rows (unmerge key h.0 gs)) ≡ length (rows gs)
rows-unmerged h n gs are s rest =
    let at = unmerge_at h.0 n gs s are (h ∷ []) (only_alone h s.group s.alone) (omega arith) rest in
    let one = s.alone in
    omega (arith, ap (λ l. length (rows l)) at, rows-three s.front (without key h.0 s.group) ((h ∷ []) ∷ s.back), rows-cons (h ∷ []) s.back, rows-three s.front s.group s.back, ap (λ l. length (rows l)) s.whole, length-without h.0 s.group)

pub unmerged_are : (h : Handle) (n : ℕ) (gs : List (List Handle)) → AreGroups gs → (s : StandsAt h.0 n gs) → 0 < length (without key h.0 s.group) → AreGroups (unmerge key h.0 gs)
unmerged_are h n gs are s rest =
    let at = unmerge_at h.0 n gs s are (h ∷ []) (only_alone h s.group s.alone) (omega arith) rest in
    record {
      once = λ q. omega (arith, times-unmerge key q h.0 gs, are.once q);
      filled = subst AllFilled (sym at) (AllFilled-append s.front (without key h.0 s.group ∷ (h ∷ []) ∷ s.back) (front_filled h.0 n gs s are) (AllFilled-group (without key h.0 s.group) ((h ∷ []) ∷ s.back) rest (back_filled h.0 n gs s are)));
      few = (let f = are.few in omega (arith, rows-unmerged h n gs are s rest));
    }

-- a buffer that is not alone leaves others after
pub leaves_others : (h n : ℕ) (gs : List (List Handle)) → (s : StandsAt h n gs) → list_any (λ g. in_group key h g && eqb (length g) 1) gs ≡ false → 0 < length (without key h s.group)
leaves_others h n gs s e =
    let p : List Handle → Bool = λ g. in_group key h g && eqb (length g) 1 in
    let all : list_any p (s.front ++ s.group ∷ s.back) ≡ false = subst (λ l. list_any p l ≡ false) s.whole e in
    let parts : (list_any p s.front || list_any p (s.group ∷ s.back)) ≡ false = sym (list_any-append p s.front (s.group ∷ s.back)) ∙ all in
    let right = or_parts (list_any p s.front) (list_any p (s.group ∷ s.back)) parts in
    let here = or_parts (p s.group) (list_any p s.back) right.1 in
    let i = s.here in
    let one = s.alone in
    let not_one : eqb (length s.group) 1 ≡ false = grind (arith, here, i) in
    grind (arith, nat_tests, length-without h s.group)

-- ---- spare groups

pub AllEmpty-push : (gs : List (List Handle)) (g : List Handle) → AllEmpty gs → g ≡ [] → AllEmpty (gs ++ g ∷ [])
AllEmpty-push [] g all e = (e, tt)
AllEmpty-push (x ∷ xs) g all e = (all.0, AllEmpty-push xs g all.1 e)

pub AllEmpty-pop : (gs : List (List Handle)) (g : List Handle) → AllEmpty (gs ++ g ∷ []) → (g ≡ []) × AllEmpty gs
AllEmpty-pop [] g all = (all.0, tt)
AllEmpty-pop (x ∷ xs) g all = let r = AllEmpty-pop xs g all.1 in (r.0, (all.0, r.1))

pub nothing : {X : Type 0} (xs : List X) → length xs ≡ 0 → xs ≡ []
nothing [] e = refl
nothing (x ∷ xs) e = absurd (omega arith)

-- ---- what the edits of the code leave

module _ (h n : ℕ) (gs : List (List Handle)) (are : AreGroups gs) (e : place key h gs ≡ Some n) where
  pub at : StandsAt h n gs
  at = stands h n gs are e

  -- the group that is read there
  pub read_there : (g : List Handle) → g ≡ get_or gs n g → g ≡ at.group
  read_there g is = is ∙ ap (λ l. get_or l n g) at.whole ∙ get_or_at at.front at.group at.back g n at.long

  pub set_there : (y : List Handle) → set gs n y ≡ at.front ++ y ∷ at.back
  set_there y = ap (λ l. set l n y) at.whole ∙ written at.front at.back at.group y n at.long

  long_there : length gs ≡ length at.front + 1 + length at.back
  long_there = omega (arith, ap length at.whole, length-append at.front (at.group ∷ at.back))

  pub set_left : (w : List Handle) → w ≡ without key h at.group → 0 < length w → set gs n w ≡ take_out key h gs
  set_left w is l = set_there w ∙ rw is (sym (take_out_some h n gs at are (subst (λ v. 0 < length v) is l)))

  pub removed_left : (w : List Handle) → w ≡ without key h at.group → length w ≡ 0 → remove (set gs n w) n ≡ take_out key h gs
  removed_left w is l = ap (λ v. remove v n) (set_there w) ∙ removed at.front at.back w n at.long ∙ sym (take_out_none h n gs at are (subst (λ v. length v ≡ 0) is l))

  pub removed_length : (w : List Handle) → length (remove (set gs n w) n) + 1 ≡ length gs
  removed_length w = omega (arith, ap (λ v. length (remove v n)) (set_there w), ap length (removed at.front at.back w n at.long), length-append at.front at.back, long_there)

  pub empty_there : (w x : List Handle) → length w ≡ 0 → x ≡ get_or (set gs n w) n x → x ≡ []
  empty_there w x l is = is ∙ ap (λ v. get_or v n x) (set_there w) ∙ get_or_at at.front w at.back x n at.long ∙ nothing w l

  pub moved_there : (m : ℕ) (g : List Handle) → g ≡ get_or gs n g → insert (remove gs n) m g ≡ move_group key h m gs
  moved_there m g is =
      let r : remove gs n ≡ at.front ++ at.back = ap (λ v. remove v n) at.whole ∙ removed at.front at.back at.group n at.long in
      rw (r, read_there g is) (sym (move_group_at h n gs at are m))

  pub moved_length : (m : ℕ) → length (move_group key h m gs) ≡ length gs
  moved_length m =
      let l = at.front ++ at.back in
      omega (arith, ap length (move_group_at h n gs at are m), length-append (take m l) (at.group ∷ drop m l), length-append (take m l) (drop m l), ap length (take-append-drop m l), length-append at.front at.back, long_there)

  pub appended_there : (new w : List Handle) → w ≡ at.group ++ new → set gs n w ≡ append_to key h new gs
  appended_there new w is = set_there w ∙ rw is (sym (append_to_at h n gs at are new))

-- the new group is right after
module _ (h : Handle) (n : ℕ) (gs : List (List Handle)) (are : AreGroups gs) (e : place key h.0 gs ≡ Some n) where
  pub unmerged_there : (w : List Handle) → w ≡ without key h.0 (at h.0 n gs are e).group → 0 < length w → insert (set gs n w) (n + 1) (h ∷ []) ≡ unmerge key h.0 gs
  unmerged_there w is l =
      let s = at h.0 n gs are e in
      ap (λ v. insert v (n + 1) (h ∷ [])) (set_there h.0 n gs are e w) ∙ put_after s.front s.back w (h ∷ []) n s.long
      ∙ rw is (sym (unmerge_at h.0 n gs s are (h ∷ []) (only_alone h s.group s.alone) (omega arith) (subst (λ v. 0 < length v) is l)))

  pub unmerged_length : (w : List Handle) → length (insert (set gs n w) (n + 1) (h ∷ [])) ≡ length gs + 1
  unmerged_length w =
      let s = at h.0 n gs are e in
      omega (arith, ap (λ v. length (insert v (n + 1) (h ∷ []))) (set_there h.0 n gs are e w), ap length (put_after s.front s.back w (h ∷ []) n s.long), length-append s.front (w ∷ (h ∷ []) ∷ s.back), long_there h.0 n gs are e)

-- a group has no more handles than there are
pub group-le-rows : (h n : ℕ) (gs : List (List Handle)) → (s : StandsAt h n gs) → length s.group ≤ length (rows gs)
group-le-rows h n gs s = omega (arith, rows-three s.front s.group s.back, ap (λ l. length (rows l)) s.whole)

-- a group beside another leaves fewer groups than handles
pub fewer : (h n : ℕ) (gs : List (List Handle)) → AreGroups gs → (s : StandsAt h n gs) → 0 < length (without key h s.group) → length gs < length (rows gs)
fewer h n gs are s l =
    let front = groups-le-rows s.front (front_filled h n gs s are) in
    let back = groups-le-rows s.back (back_filled h n gs s are) in
    let one = s.alone in
    omega (arith, rows-three s.front s.group s.back, ap (λ v. length (rows v)) s.whole, ap length s.whole, length-append s.front (s.group ∷ s.back), length-without h s.group)

-- ---- a handle that is there

pub found : (h : ℕ) (gs : List (List Handle)) → has key h gs ≡ true → (n : ℕ) × (place key h gs ≡ Some n)
found h gs e = by (place key h gs) refl
  where
    by : (o : Option ℕ) → place key h gs ≡ o → (n : ℕ) × (place key h gs ≡ Some n)
    by None i = absurd (never_nowhere h gs e i)
    by (Some n) i = (n, i)

pub rows-taken : (h : ℕ) (gs : List (List Handle)) → AreGroups gs → has key h gs ≡ true → length (rows (take_out key h gs)) + 1 ≡ length (rows gs)
rows-taken h gs are e =
    let one : times key h gs ≡ 1 = grind (arith, are.once h, has_tells key h gs) in
    omega (arith, rows-take_out h gs)

pub taken_has : (h into : ℕ) (gs : List (List Handle)) → eqb h into ≡ false → has key into gs ≡ true → has key into (take_out key h gs) ≡ true
taken_has h into gs apart e = grind (arith, nat_tests, times-take_out key into h gs, has_tells key into gs, has_tells key into (take_out key h gs))

pub taken_lacks : (h : ℕ) (gs : List (List Handle)) → has key h (take_out key h gs) ≡ false
taken_lacks h gs = grind (arith, nat_tests, times-take_out key h h gs, has_tells key h (take_out key h gs))

pub picked : (h : Handle) (gs : List (List Handle)) → AreGroups gs → has key h.0 gs ≡ true → pick key h.0 gs ≡ h ∷ []
picked h gs are e =
    let f = found h.0 gs e in
    let s = stands h.0 f.0 gs are f.1 in
    pick_at h.0 f.0 gs s are ∙ only_alone h s.group s.alone

pub rows-put : (into : ℕ) (h : Handle) (gs : List (List Handle)) → AreGroups gs → has key into gs ≡ true → length (rows (append_to key into (h ∷ []) gs)) ≡ length (rows gs) + 1
rows-put into h gs are e = let f = found into gs e in rows-appended into f.0 (h ∷ []) gs are (stands into f.0 gs are f.1)

pub rows-moved_group : (h m : ℕ) (gs : List (List Handle)) → AreGroups gs → has key h gs ≡ true → length (rows (move_group key h m gs)) ≡ length (rows gs)
rows-moved_group h m gs are e = let f = found h gs e in rows-moved h f.0 m gs are (stands h f.0 gs are f.1)

pub rows-parted : (h : Handle) (gs : List (List Handle)) → AreGroups gs → has key h.0 gs ≡ true → list_any (λ g. in_group key h.0 g && eqb (length g) 1) gs ≡ false → length (rows (unmerge key h.0 gs)) ≡ length (rows gs)
rows-parted h gs are e merged =
    let f = found h.0 gs e in
    let s = stands h.0 f.0 gs are f.1 in
    rows-unmerged h f.0 gs are s (leaves_others h.0 f.0 gs s merged)
