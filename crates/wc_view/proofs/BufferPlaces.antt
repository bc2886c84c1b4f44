-- Groups of a client after an edit.
use Rattle.std.proofs.Common.{◌≡◌, ℕ, ◌+◌, ◌<◌, ◌≤◌, true, false, cond, not, eqb, List, [], ◌∷◌, ◌++◌, length, map, take, drop, find, Option, Some, None, refl, sym, ap, subst, ◌∙◌, arith, lt-ltb}
use Rattle.std.specs.List.{position_or_len}
use Rattle.std.proofs.lemmas.Bool.{eq-eqb, eqb-true, or_parts, false≢true}
use Rattle.std.proofs.lemmas.Bool.Decides.{nat_tests}
use Rattle.std.proofs.lemmas.List.{append-nil, append_assoc, map-append, length-append, take-append-drop, length-take}
use Rattle.std.proofs.lemmas.List.Filters.{length-filter_both}
use Rattle.std.proofs.lemmas.List.Folds.{list_any-append}
use Rattle.wc_buffers.specs.Groups.{rows, in_group, has, place, row_of, times, times_in, update, only, pick, append_to, others, own, move_group}
use Rattle.wc_buffers.proofs.GroupLaws.{by_bool, in_group_tells, has_tells}
use Rattle.wc_world.proofs.GroupRows.{find-append, or_some, not_found}
use Rattle.wc_model.specs.Order.{before_in}
use Rattle.wc_view.specs.declared.mirror_buffer.MirrorBuffer.{MirrorBuffer}
use Rattle.wc_view.specs.Grouped.{MirrorGroups, key_of, insert_after, put_after}

-- ---- a change of the one row of a key
module _ {A : Type 0} (key : A → ℕ) (h : ℕ) where
  none_there : (F G : A → A) (g : List A) → times_in key h g ≡ 0 → map (λ x. cond (eqb (key x) h) (F x) x) g ≡ map (λ x. cond (eqb (key x) h) (G x) x) g
  none_there F G [] n = refl
  none_there F G (x ∷ g) n = by_bool (eqb (key x) h) _
      (λ t. absurd (let z : 1 + times_in key h g ≡ 0 = rw t at n in omega arith))
      (λ t. let z : 0 + times_in key h g ≡ 0 = rw t at n in rw t (ap (λ l. x ∷ l) (none_there F G g (omega arith))))

  once_there : (F G : A → A) (e : A) (g : List A) → F e ≡ G e → times_in key h g ≤ 1 → find (λ x. eqb (key x) h) g ≡ Some e
      → map (λ x. cond (eqb (key x) h) (F x) x) g ≡ map (λ x. cond (eqb (key x) h) (G x) x) g
  once_there F G e [] same few found = refl
  once_there F G e (x ∷ g) same few found = by_bool (eqb (key x) h) _
      (λ t. let z : 1 + times_in key h g ≤ 1 = rw t at few in
      let is : Some x ≡ Some e = rw t at found in
      let x_is : x ≡ e = (let w = is in cc) in
      let head : F x ≡ G x = ap F x_is ∙ same ∙ ap G (sym x_is) in
      rw t (λ i. head i ∷ none_there F G g (omega arith) i))
      (λ t. let z : 0 + times_in key h g ≤ 1 = rw t at few in rw t (ap (λ l. x ∷ l) (once_there F G e g same (omega arith) (rw t at found))))

  none_in : (F G : A → A) (gs : List (List A)) → times key h gs ≡ 0 → update key h F gs ≡ update key h G gs
  none_in F G [] n = refl
  none_in F G (g ∷ gs) n = let a : times_in key h g ≡ 0 = omega arith in let b : times key h gs ≡ 0 = omega arith in λ i. none_there F G g a i ∷ none_in F G gs b i

  pub once_changed : (F G : A → A) (e : A) (gs : List (List A)) → F e ≡ G e → times key h gs ≤ 1 → row_of key h gs ≡ Some e → update key h F gs ≡ update key h G gs
  once_changed F G e [] same few found = refl
  once_changed F G e (g ∷ gs) same few found = by_bool (in_group key h g) _
      (λ t. let some : 1 ≤ times_in key h g = (let r = in_group_tells key h g in grind (arith, in_group_tells key h g)) in
      let rest : times key h gs ≡ 0 = omega arith in
      let here : find (λ x. eqb (key x) h) g ≡ Some e = front (find (λ x. eqb (key x) h) g) refl t in
      λ i. once_there F G e g same (omega arith) here i ∷ none_in F G gs rest i)
      (λ t. let zero_here : times_in key h g ≡ 0 = grind (arith, in_group_tells key h g) in
      let later : row_of key h gs ≡ Some e = sym (find-append key h g (rows gs) ∙ ap (λ o. or_some o (row_of key h gs)) (not_found key h g t)) ∙ found in
      λ i. none_there F G g zero_here i ∷ once_changed F G e gs same (omega arith) later i)
    where
      front : (o : Option A) → find (λ x. eqb (key x) h) g ≡ o → in_group key h g ≡ true → find (λ x. eqb (key x) h) g ≡ Some e
      front None is t = absurd (never g t is)
        where
          never : (g : List A) → in_group key h g ≡ true → find (λ x. eqb (key x) h) g ≡ None → ⊥
          never [] t n = false≢true t
          never (x ∷ g) t n = by_bool (eqb (key x) h) _ (λ u. let z : Some x ≡ None = rw u at n in absurd cc) (λ u. never g (rw u at t) (rw u at n))
      front (Some y) is t = is ∙ sym (sym found ∙ find-append key h g (rows gs) ∙ ap (λ o. or_some o (row_of key h gs)) is)

  pub found_key : (e : A) (xs : List A) → find (λ x. eqb (key x) h) xs ≡ Some e → key e ≡ h
  found_key e [] f = absurd (let z = f in cc)
  found_key e (x ∷ xs) f = by_bool (eqb (key x) h) _
      (λ t. let is : Some x ≡ Some e = rw t at f in let x_is : x ≡ e = (let w = is in cc) in ap key (sym x_is) ∙ eqb-true (key x) h t)
      (λ t. found_key e xs (rw t at f))

  -- ---- the place of a group that is moved
  pub own_few : (gs : List (List A)) → length (own key h gs) ≤ times key h gs
  own_few [] = omega arith
  own_few (g ∷ gs) = by_bool (in_group key h g) _
      (λ t. rw t (let a = own_few gs in let b : 1 ≤ times_in key h g = grind (arith, in_group_tells key h g) in omega arith))
      (λ t. rw t (let a = own_few gs in omega arith))

  pub parted : (gs : List (List A)) → length (own key h gs) + length (others key h gs) ≡ length gs
  parted gs = length-filter_both (in_group key h) (λ g. not (in_group key h g)) (λ g. refl) gs

  position_after : (front : List (List A)) (g : List A) (back : List (List A)) → has key h front ≡ false → in_group key h g ≡ true
      → position_or_len (in_group key h) (front ++ g ∷ back) ≡ length front
  position_after [] g back none t = rw t refl
  position_after (x ∷ front) g back none t =
      let o = or_parts (in_group key h x) (has key h front) none in
      rw o.0 (let r = position_after front g back o.1 t in omega arith)

  pub placed : (front : List (List A)) (g : List A) (back : List (List A)) → has key h front ≡ false → in_group key h g ≡ true → place key h (front ++ g ∷ back) ≡ Some (length front)
  placed front g back none t =
      let n = position_after front g back none t in
      let inside : length front < length (front ++ g ∷ back) = omega (arith, length-append front (g ∷ back)) in
      rw (n, lt-ltb (length front) (length (front ++ g ∷ back)) inside) refl

  front_lacks : (n : ℕ) (gs : List (List A)) → has key h gs ≡ false → has key h (take n gs) ≡ false
  front_lacks n gs e = (or_parts (has key h (take n gs)) (has key h (drop n gs)) (sym (list_any-append (in_group key h) (take n gs) (drop n gs)) ∙ ap (has key h) (take-append-drop n gs) ∙ e)).0

  others_lack : (gs : List (List A)) → has key h (others key h gs) ≡ false
  others_lack [] = refl
  others_lack (g ∷ gs) = by_bool (in_group key h g) _ (λ t. rw t (others_lack gs)) (λ t. rw t (rw t (others_lack gs)))

  first_own : (gs : List (List A)) → has key h gs ≡ true → (g : List A) × (more : List (List A)) × (own key h gs ≡ g ∷ more) × (in_group key h g ≡ true)
  first_own [] t = absurd (false≢true t)
  first_own (g ∷ gs) t = by_bool (in_group key h g) _
      (λ u. (g, own key h gs, rw u refl, u))
      (λ u. let r = first_own gs (rw u at t) in (r.0, r.1, rw u r.2, r.3))

  pub moved_place : (n : ℕ) (gs : List (List A)) → has key h gs ≡ true → n ≤ length (others key h gs) → place key h (move_group key h n gs) ≡ Some n
  moved_place n gs there l =
      let os = others key h gs in
      let r = first_own gs there in
      let long : length (take n os) ≡ n = omega (arith, length-take n os) in
      ap (λ own. place key h (take n os ++ (own ++ drop n os))) r.2
      ∙ placed (take n os) r.0 (r.1 ++ drop n os) (front_lacks n os (others_lack gs)) r.3
      ∙ ap Some long

-- ---- to put a buffer after the one before is to append
abbrev last_key : ℕ → List MirrorBuffer → ℕ
last_key p [] = p
last_key p (x ∷ xs) = last_key (key_of x) xs

before-append : (p h : ℕ) (g : List MirrorBuffer) (rest : List ℕ) → times_in key_of h g ≡ 0 → before_in p h (map key_of g ++ rest) ≡ before_in (last_key p g) h rest
before-append p h [] rest e = refl
before-append p h (x ∷ xs) rest e =
    let t : eqb (key_of x) h ≡ false = grind (arith, nat_tests) in
    let i : times_in key_of h xs ≡ 0 = omega arith in
    rw t (before-append (key_of x) h xs rest i)

last_in : (p : ℕ) (x : MirrorBuffer) (xs : List MirrorBuffer) → in_group key_of (last_key p (x ∷ xs)) (x ∷ xs) ≡ true
last_in p x [] = rw (eq-eqb (key_of x) (key_of x) refl) refl
last_in p x (y ∷ ys) = grind (arith, last_in (key_of x) y ys)

none_after : (q : ℕ) (new g : List MirrorBuffer) → in_group key_of q g ≡ false → insert_after q new g ≡ g
none_after q new [] e = refl
none_after q new (x ∷ xs) e = let o = or_parts (eqb (key_of x) q) (in_group key_of q xs) e in rw o.0 (ap (λ l. x ∷ l) (none_after q new xs o.1))

none_put : (q : ℕ) (new : List MirrorBuffer) (gs : MirrorGroups) → has key_of q gs ≡ false → put_after q new gs ≡ gs
none_put q new [] e = refl
none_put q new (g ∷ gs) e = let o = or_parts (in_group key_of q g) (has key_of q gs) e in λ i. none_after q new g o.0 i ∷ none_put q new gs o.1 i

insert_last : (p : ℕ) (new : List MirrorBuffer) (x : MirrorBuffer) (xs : List MirrorBuffer) → ((q : ℕ) → times_in key_of q (x ∷ xs) ≤ 1)
    → insert_after (last_key p (x ∷ xs)) new (x ∷ xs) ≡ (x ∷ xs) ++ new
insert_last p new x [] u = rw (eq-eqb (key_of x) (key_of x) refl) (ap (λ l. x ∷ l) (append-nil new))
insert_last p new x (y ∷ ys) u =
    let l = last_key (key_of x) (y ∷ ys) in
    let i : in_group key_of l (y ∷ ys) ≡ true = last_in (key_of x) y ys in
    let few : times_in key_of l (x ∷ (y ∷ ys)) ≤ 1 = u l in
    let t : eqb (key_of x) l ≡ false = grind (arith, nat_tests, in_group_tells key_of l (y ∷ ys)) in
    rw t (ap (λ k. x ∷ k) (insert_last (key_of x) new y ys (λ q. let v : times_in key_of q (x ∷ (y ∷ ys)) ≤ 1 = u q in omega arith)))

last_in_filled : (t p : ℕ) (g : List MirrorBuffer) → in_group key_of t g ≡ true → in_group key_of (last_key p g) g ≡ true
last_in_filled t p [] i = absurd (false≢true i)
last_in_filled t p (x ∷ xs) i = last_in p x xs

insert_last_filled : (t p : ℕ) (new g : List MirrorBuffer) → ((q : ℕ) → times_in key_of q g ≤ 1) → in_group key_of t g ≡ true → insert_after (last_key p g) new g ≡ g ++ new
insert_last_filled t p new [] u i = absurd (false≢true i)
insert_last_filled t p new (x ∷ xs) u i = insert_last p new x xs u

abbrev order_of : MirrorGroups → List ℕ
order_of gs = map key_of (rows gs)

order_of-cons : (g : List MirrorBuffer) (gs : MirrorGroups) → order_of (g ∷ gs) ≡ map key_of g ++ order_of gs
order_of-cons g gs = map-append key_of g (rows gs)

untouched : (t : ℕ) (new : List MirrorBuffer) (gs : MirrorGroups) → has key_of t gs ≡ false → append_to key_of t new gs ≡ gs
untouched t new [] e = refl
untouched t new (g ∷ gs) e = let o = or_parts (in_group key_of t g) (has key_of t gs) e in rw (o.0, untouched t new gs o.1) refl

abbrev After : ℕ → ℕ → ℕ → List MirrorBuffer → MirrorGroups → Type 0
After t h p new gs =
    (has key_of (before_in p h (order_of (append_to key_of t new gs))) gs ≡ true)
    × (put_after (before_in p h (order_of (append_to key_of t new gs))) new gs ≡ append_to key_of t new gs)

here : (t h p : ℕ) (r : MirrorBuffer) (rs g : List MirrorBuffer) (gs : MirrorGroups) → key_of r ≡ h → times_in key_of h g ≡ 0 → ((q : ℕ) → times key_of q (g ∷ gs) ≤ 1) → in_group key_of t g ≡ true
    → After t h p (r ∷ rs) (g ∷ gs)
here t h p r rs g gs k none few i =
    let new = r ∷ rs in
    let q = last_key p g in
    let few_g : (q : ℕ) → times_in key_of q g ≤ 1 = λ q. let v : times_in key_of q g + times key_of q gs ≤ 1 = few q in omega arith in
    let l : in_group key_of q g ≡ true = last_in_filled t p g i in
    let rest_t : has key_of t gs ≡ false = (let v : times_in key_of t g + times key_of t gs ≤ 1 = few t in grind (arith, in_group_tells key_of t g, has_tells key_of t gs)) in
    let rest_q : has key_of q gs ≡ false = (let v : times_in key_of q g + times key_of q gs ≤ 1 = few q in grind (arith, in_group_tells key_of q g, has_tells key_of q gs)) in
    let whole : append_to key_of t new (g ∷ gs) ≡ (g ++ new) ∷ gs = rw i (ap (λ l. (g ++ new) ∷ l) (untouched t new gs rest_t)) in
    let e : before_in p h (order_of ((g ++ new) ∷ gs)) ≡ q =
    ap (before_in p h) (order_of-cons (g ++ new) gs ∙ ap (λ l. l ++ order_of gs) (map-append key_of g new) ∙ append_assoc (map key_of g) (map key_of new) (order_of gs))
    ∙ before-append p h g (map key_of new ++ order_of gs) none ∙ first_before q h r rs (order_of gs) k in
    subst (λ w. (has key_of (before_in p h (order_of w)) (g ∷ gs) ≡ true) × (put_after (before_in p h (order_of w)) new (g ∷ gs) ≡ w)) (sym whole)
    (subst (λ z. (has key_of z (g ∷ gs) ≡ true) × (put_after z new (g ∷ gs) ≡ (g ++ new) ∷ gs)) (sym e)
    (rw l refl, λ j. insert_last_filled t p new g few_g i j ∷ none_put q new gs rest_q j))
  where
    first_before : (q h : ℕ) (r : MirrorBuffer) (rs : List MirrorBuffer) (rest : List ℕ) → key_of r ≡ h → before_in q h (map key_of (r ∷ rs) ++ rest) ≡ q
    first_before q h r rs rest k = rw (eq-eqb (key_of r) h k) refl

pub merged_after : (t h p : ℕ) (r : MirrorBuffer) (rs : List MirrorBuffer) (gs : MirrorGroups) → key_of r ≡ h → times key_of h gs ≡ 0 → has key_of t gs ≡ true → ((q : ℕ) → times key_of q gs ≤ 1)
    → After t h p (r ∷ rs) gs
merged_after t h p r rs [] k none there u = absurd (false≢true there)
merged_after t h p r rs (g ∷ gs) k none there u =
    let few_gs : (q : ℕ) → times key_of q gs ≤ 1 = λ q. let v : times_in key_of q g + times key_of q gs ≤ 1 = u q in omega arith in
    let none_g : times_in key_of h g ≡ 0 = omega arith in
    let none_gs : times key_of h gs ≡ 0 = omega arith in
    by_bool (in_group key_of t g) _
    (λ i. here t h p r rs g gs k none_g u i)
    (λ i.
    let new = r ∷ rs in
    let ih = merged_after t h (last_key p g) r rs gs k none_gs (rw i at there) few_gs in
    let q = before_in (last_key p g) h (order_of (append_to key_of t new gs)) in
    let whole : append_to key_of t new (g ∷ gs) ≡ g ∷ append_to key_of t new gs = rw i refl in
    let e : before_in p h (order_of (g ∷ append_to key_of t new gs)) ≡ q =
    ap (before_in p h) (order_of-cons g (append_to key_of t new gs)) ∙ before-append p h g (order_of (append_to key_of t new gs)) none_g in
    let not_g : in_group key_of q g ≡ false = (let v : times_in key_of q g + times key_of q gs ≤ 1 = u q in grind (arith, in_group_tells key_of q g, has_tells key_of q gs, ih.0)) in
    subst (λ w. (has key_of (before_in p h (order_of w)) (g ∷ gs) ≡ true) × (put_after (before_in p h (order_of w)) new (g ∷ gs) ≡ w)) (sym whole)
    (subst (λ z. (has key_of z (g ∷ gs) ≡ true) × (put_after z new (g ∷ gs) ≡ g ∷ append_to key_of t new gs)) (sym e)
    (rw not_g ih.0, λ j. none_after q new g not_g j ∷ ih.1 j)))

pub pick_filled : (h : ℕ) (gs : MirrorGroups) → has key_of h gs ≡ true → (x : MirrorBuffer) × (xs : List MirrorBuffer) × (pick key_of h gs ≡ x ∷ xs) × (key_of x ≡ h)
pick_filled h [] e = absurd (false≢true e)
pick_filled h (g ∷ gs) e = by_bool (in_group key_of h g) _
    (λ t. let r = only_filled g t in (r.0, r.1 ++ pick key_of h gs, ap (λ l. l ++ pick key_of h gs) r.2, r.3))
    (λ t. let r = pick_filled h gs (rw t at e) in (r.0, r.1, ap (λ l. l ++ pick key_of h gs) (only_none g t) ∙ r.2, r.3))
  where
    only_none : (g : List MirrorBuffer) → in_group key_of h g ≡ false → only key_of h g ≡ []
    only_none [] n = refl
    only_none (x ∷ g) n = let o = or_parts (eqb (key_of x) h) (in_group key_of h g) n in rw o.0 (only_none g o.1)

    only_filled : (g : List MirrorBuffer) → in_group key_of h g ≡ true → (x : MirrorBuffer) × (xs : List MirrorBuffer) × (only key_of h g ≡ x ∷ xs) × (key_of x ≡ h)
    only_filled [] n = absurd (false≢true n)
    only_filled (x ∷ g) n = by_bool (eqb (key_of x) h) _
        (λ t. (x, only key_of h g, rw t refl, eqb-true (key_of x) h t))
        (λ t. let r = only_filled g (rw t at n) in (r.0, r.1, rw t r.2, r.3))
