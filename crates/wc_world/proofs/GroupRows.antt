-- The row of a key in groups that were changed.
use Rattle.std.proofs.Common.{◌≡◌, ℕ, ◌≤◌, Bool, true, false, cond, ◌&&◌, ◌||◌, eqb, List, [], ◌∷◌, ◌++◌, ◌⊎◌, map, take, drop, find, Option, Some, None, option_map, refl, inl, inr, ap, sym, ◌∙◌, arith, append-nil, take-append-drop, eq-eqb, eqb-true}
use Rattle.std.specs.List.{list_any}
use Rattle.std.proofs.lemmas.Bool.{false≢true, or_parts}
use Rattle.std.proofs.lemmas.List.{map-append}
use Rattle.std.proofs.lemmas.List.Concat.{flat_map-append}
use Rattle.std.proofs.lemmas.List.Folds.{list_any-append}
use Rattle.wc_buffers.specs.Groups.{filled_groups, rows, in_group, has, row_of, times, without, only, update, take_out, pick, append_to, merge, others, own, move_group, part, unmerge}
use Rattle.wc_buffers.proofs.GroupLaws.{by_bool, filled-some, has_tells, times-take_out, has_from_times, times-move_group, times-unmerge, times-update}

abbrev pub or_some : {A : Type 0} → Option A → Option A → Option A
or_some None b = b
or_some (Some a) b = Some a

or_some-none : {A : Type 0} (o : Option A) → or_some o None ≡ o
or_some-none None = refl
or_some-none (Some a) = refl

none_parts : {A : Type 0} (a b : Option A) → or_some a b ≡ None → (a ≡ None) × (b ≡ None)
none_parts None b e = (refl, e)
none_parts (Some a) b e = (e, absurd cc)

module _ {A : Type 0} (key : A → ℕ) where
  abbrev found : ℕ → List A → Option A
  found h xs = find (λ x. eqb (key x) h) xs

  pub find-append : (h : ℕ) (xs ys : List A) → found h (xs ++ ys) ≡ or_some (found h xs) (found h ys)
  find-append h [] ys = refl
  find-append h (x ∷ xs) ys = by_bool (eqb (key x) h) _ (λ t. rw t refl) (λ t. rw t (find-append h xs ys))

  rows-append : (gs hs : List (List A)) → rows (gs ++ hs) ≡ rows gs ++ rows hs
  rows-append gs hs = flat_map-append (λ g. g) gs hs

  pub row_of-append : (h : ℕ) (gs hs : List (List A)) → row_of key h (gs ++ hs) ≡ or_some (row_of key h gs) (row_of key h hs)
  row_of-append h gs hs = ap (found h) (rows-append gs hs) ∙ find-append h (rows gs) (rows hs)

  pub not_found : (h : ℕ) (xs : List A) → in_group key h xs ≡ false → found h xs ≡ None
  not_found h [] e = refl
  not_found h (x ∷ xs) e = let o = or_parts (eqb (key x) h) (in_group key h xs) e in rw o.0 (not_found h xs o.1)

  pub found_in : (h : ℕ) (xs : List A) → in_group key h xs ≡ true → (x : A) × (found h xs ≡ Some x)
  found_in h [] e = absurd (false≢true e)
  found_in h (x ∷ xs) e = by_bool (eqb (key x) h) _ (λ t. (x, rw t refl)) (λ t. let r = found_in h xs (rw t at e) in (r.0, rw t r.1))

  pub in_rows : (h : ℕ) (gs : List (List A)) → in_group key h (rows gs) ≡ has key h gs
  in_rows h [] = refl
  in_rows h (g ∷ gs) = list_any-append (λ x. eqb (key x) h) g (rows gs) ∙ ap (λ b. in_group key h g || b) (in_rows h gs)

  pub no_row : (h : ℕ) (gs : List (List A)) → has key h gs ≡ false → row_of key h gs ≡ None
  no_row h gs e = not_found h (rows gs) (in_rows h gs ∙ e)

  pub some_row : (h : ℕ) (gs : List (List A)) → has key h gs ≡ true → (x : A) × (row_of key h gs ≡ Some x)
  some_row h gs e = found_in h (rows gs) (in_rows h gs ∙ e)

  -- ---- a group that is moved

  others_lack : (h : ℕ) (gs : List (List A)) → has key h (others key h gs) ≡ false
  others_lack h [] = refl
  others_lack h (g ∷ gs) = by_bool (in_group key h g) _ (λ t. rw t (others_lack h gs)) (λ t. rw t (rw t (others_lack h gs)))

  row_of-own : (h : ℕ) (gs : List (List A)) → row_of key h (own key h gs) ≡ row_of key h gs
  row_of-own h [] = refl
  row_of-own h (g ∷ gs) = by_bool (in_group key h g) _
      (λ t. rw t (find-append h g (rows (own key h gs)) ∙ ap (or_some (found h g)) (row_of-own h gs) ∙ sym (find-append h g (rows gs))))
      (λ t. rw t (row_of-own h gs ∙ sym (find-append h g (rows gs) ∙ ap (λ o. or_some o (row_of key h gs)) (not_found h g t))))

  pub row_of-move : (h n : ℕ) (gs : List (List A)) → row_of key h (move_group key h n gs) ≡ row_of key h gs
  row_of-move h n gs =
      let os = others key h gs in
      let parts = or_parts (has key h (take n os)) (has key h (drop n os)) (sym (list_any-append (in_group key h) (take n os) (drop n os)) ∙ ap (has key h) (take-append-drop n os) ∙ others_lack h gs) in
      row_of-append h (take n os) (own key h gs ++ drop n os)
      ∙ ap (λ o. or_some o (row_of key h (own key h gs ++ drop n os))) (no_row h (take n os) parts.0)
      ∙ row_of-append h (own key h gs) (drop n os)
      ∙ ap (or_some (row_of key h (own key h gs))) (no_row h (drop n os) parts.1)
      ∙ or_some-none (row_of key h (own key h gs))
      ∙ row_of-own h gs

  -- ---- a row that is put after those of another group

  found-only : (h : ℕ) (g : List A) → found h (only key h g) ≡ found h g
  found-only h [] = refl
  found-only h (x ∷ xs) = by_bool (eqb (key x) h) _ (λ t. rw t (rw t refl)) (λ t. rw t (found-only h xs))

  found-pick : (h : ℕ) (gs : List (List A)) → found h (pick key h gs) ≡ row_of key h gs
  found-pick h [] = refl
  found-pick h (g ∷ gs) = find-append h (only key h g) (pick key h gs) ∙ (λ i. or_some (found-only h g i) (found-pick h gs i)) ∙ sym (find-append h g (rows gs))

  pub has-take_out : (h q : ℕ) (gs : List (List A)) → has key q (take_out key h gs) ≡ cond (eqb h q) false (has key q gs)
  has-take_out h q gs = by_bool (eqb h q) _ (λ t. rw t (gone t (has_tells key q (take_out key h gs)))) (λ t. rw t (has_from_times key q gs (take_out key h gs) (times-take_out key q h gs ∙ ap (λ b. cond b 0 (times key q gs)) t)))
    where
      gone : eqb h q ≡ true → ((has key q (take_out key h gs) ≡ true) × (1 ≤ times key q (take_out key h gs))) ⊎ ((has key q (take_out key h gs) ≡ false) × (times key q (take_out key h gs) ≡ 0)) → has key q (take_out key h gs) ≡ false
      gone t (inl p) = let z : times key q (take_out key h gs) ≡ 0 = times-take_out key q h gs ∙ ap (λ b. cond b 0 (times key q gs)) t in absurd (let l = p.1 in omega arith)
      gone t (inr p) = p.0

  pub in_group-pick : (h q : ℕ) (gs : List (List A)) → in_group key q (pick key h gs) ≡ cond (eqb h q) (has key q gs) false
  in_group-pick h q [] = by_bool (eqb h q) _ (λ t. rw t refl) (λ t. rw t refl)
  in_group-pick h q (g ∷ gs) = list_any-append (λ x. eqb (key x) q) (only key h g) (pick key h gs) ∙ (λ i. in_only g i || in_group-pick h q gs i) ∙ by_bool (eqb h q) _ (λ t. rw t refl) (λ t. rw t refl)
    where
      in_only : (xs : List A) → in_group key q (only key h xs) ≡ cond (eqb h q) (in_group key q xs) false
      in_only [] = by_bool (eqb h q) _ (λ t. rw t refl) (λ t. rw t refl)
      in_only (x ∷ xs) = by_bool (eqb (key x) h) _
          (λ t. rw t (ap (λ b. eqb (key x) q || b) (in_only xs) ∙ (let e : eqb (key x) q ≡ eqb h q = ap (λ k. eqb k q) (eqb-true (key x) h t) in rw e (by_bool (eqb h q) _ (λ u. rw u refl) (λ u. rw u refl)))))
          (λ t. rw t (in_only xs ∙ by_bool (eqb h q) _
          (λ u. rw u (let e : eqb (key x) q ≡ false = ap (eqb (key x)) (sym (eqb-true h q u)) ∙ t in rw e refl))
          (λ u. rw u refl)))

  has-append_to : (into q : ℕ) (new : List A) (gs : List (List A)) → has key q (append_to key into new gs) ≡ (has key q gs || (has key into gs && in_group key q new))
  has-append_to into q new [] = refl
  has-append_to into q new (g ∷ gs) = by_bool (in_group key into g) _
      (λ t. rw t (ap (λ b. in_group key q (g ++ new) || b) (has-append_to into q new gs) ∙ ap (λ b. b || (has key q gs || (has key into gs && in_group key q new))) (list_any-append (λ x. eqb (key x) q) g new) ∙ shuffle (in_group key q g) (in_group key q new) (has key q gs) (has key into gs)))
      (λ t. rw t (ap (λ b. in_group key q g || b) (has-append_to into q new gs) ∙ assoc (in_group key q g) (has key q gs) (has key into gs && in_group key q new)))
    where
      assoc : (a b c : Bool) → (a || (b || c)) ≡ ((a || b) || c)
      assoc true b c = refl
      assoc false b c = refl

      shuffle : (a n b i : Bool) → ((a || n) || (b || (i && n))) ≡ ((a || b) || n)
      shuffle true n b i = refl
      shuffle false true true i = refl
      shuffle false true false i = refl
      shuffle false false true i = refl
      shuffle false false false true = refl
      shuffle false false false false = refl

  appended : (h into : ℕ) (new : List A) (x : A) (gs : List (List A)) → row_of key h gs ≡ None → has key into gs ≡ true → found h new ≡ Some x → row_of key h (append_to key into new gs) ≡ Some x
  appended h into new x [] e t n = absurd (false≢true t)
  appended h into new x (g ∷ gs) e t n =
      let p = none_parts (found h g) (row_of key h gs) (sym (find-append h g (rows gs)) ∙ e) in
      by_bool (in_group key into g) _
      (λ u. rw u (find-append h (g ++ new) (rows (append_to key into new gs)) ∙ ap (λ o. or_some o (row_of key h (append_to key into new gs))) (find-append h g new ∙ (λ i. or_some (p.0 i) (n i)))))
      (λ u. rw u (find-append h g (rows (append_to key into new gs)) ∙ (λ i. or_some (p.0 i) (appended h into new x gs p.1 (rw u at t) n i))))

  pub merged_apart : (h into : ℕ) (gs : List (List A)) → has key h gs ≡ true → list_any (λ g. in_group key h g && in_group key into g) gs ≡ false → eqb h into ≡ false
  merged_apart h into gs t e = by_bool (eqb h into) _ (λ u. absurd (false≢true (sym e ∙ ap (λ k. list_any (λ g. in_group key h g && in_group key k g) gs) (sym (eqb-true h into u)) ∙ together gs t))) (λ u. u)
    where
      together : (hs : List (List A)) → has key h hs ≡ true → list_any (λ g. in_group key h g && in_group key h g) hs ≡ true
      together [] z = absurd (false≢true z)
      together (g ∷ hs) z = by_bool (in_group key h g) _ (λ u. rw u refl) (λ u. rw u (together hs (rw u at z)))

  pub row_of-merge : (h into : ℕ) (gs : List (List A)) → has key h gs ≡ true → has key into gs ≡ true → eqb h into ≡ false → row_of key h (merge key h into gs) ≡ row_of key h gs
  row_of-merge h into gs t u n =
      let r = some_row h gs t in
      appended h into (pick key h gs) r.0 (take_out key h gs)
      (no_row h (take_out key h gs) (has-take_out h h gs ∙ ap (λ b. cond b false (has key h gs)) (eq-eqb h h refl)))
      (has-take_out h into gs ∙ ap (λ b. cond b false (has key into gs)) n ∙ u)
      (found-pick h gs ∙ r.1)
      ∙ sym r.1

  pub has-merge : (h into q : ℕ) (gs : List (List A)) → has key into gs ≡ true → eqb h into ≡ false → has key q (merge key h into gs) ≡ has key q gs
  has-merge h into q gs u n =
      has-append_to into q (pick key h gs) (take_out key h gs)
      ∙ (λ i. has-take_out h q gs i || (has-take_out h into gs i && in_group-pick h q gs i))
      ∙ rw (n, u) (by_bool (eqb h q) _ (λ t. rw t refl) (λ t. rw t (or_false (has key q gs))))
    where
      or_false : (b : Bool) → (b || false) ≡ b
      or_false true = refl
      or_false false = refl

  -- ---- a row that gets a group of its own

  rows-filled : (gs : List (List A)) → rows (filled_groups gs) ≡ rows gs
  rows-filled [] = refl
  rows-filled ([] ∷ gs) = rows-filled gs
  rows-filled ((x ∷ xs) ∷ gs) = ap rows (filled-some x xs gs) ∙ ap (λ r. (x ∷ xs) ++ r) (rows-filled gs)

  found-without : (h : ℕ) (g : List A) → found h (without key h g) ≡ None
  found-without h [] = refl
  found-without h (x ∷ xs) = by_bool (eqb (key x) h) _ (λ t. rw t (found-without h xs)) (λ t. rw t (rw t (found-without h xs)))

  row_of-part : (h : ℕ) (g : List A) → row_of key h (part key h g) ≡ found h g
  row_of-part h g = by_bool (in_group key h g) _
      (λ t. rw t (ap (found h) (rows-filled (without key h g ∷ only key h g ∷ [])) ∙ find-append h (without key h g) (only key h g ++ []) ∙ ap (λ o. or_some o (found h (only key h g ++ []))) (found-without h g) ∙ ap (found h) (append-nil (only key h g)) ∙ found-only h g))
      (λ t. rw t (ap (found h) (append-nil g)))

  pub row_of-unmerge : (h : ℕ) (gs : List (List A)) → row_of key h (unmerge key h gs) ≡ row_of key h gs
  row_of-unmerge h [] = refl
  row_of-unmerge h (g ∷ gs) = row_of-append h (part key h g) (unmerge key h gs) ∙ (λ i. or_some (row_of-part h g i) (row_of-unmerge h gs i)) ∙ sym (find-append h g (rows gs))

  pub has-unmerge : (h q : ℕ) (gs : List (List A)) → has key q (unmerge key h gs) ≡ has key q gs
  has-unmerge h q gs = has_from_times key q gs (unmerge key h gs) (times-unmerge key q h gs)

  pub has-move : (h n q : ℕ) (gs : List (List A)) → has key q (move_group key h n gs) ≡ has key q gs
  has-move h n q gs = has_from_times key q gs (move_group key h n gs) (times-move_group key q h n gs)

  -- ---- a row that is changed

  module _ (h : ℕ) (F : A → A) (same : (x : A) → key (F x) ≡ key x) where
    abbrev changed : A → A
    changed x = cond (eqb (key x) h) (F x) x

    rows-update : (gs : List (List A)) → rows (update key h F gs) ≡ map changed (rows gs)
    rows-update [] = refl
    rows-update (g ∷ gs) = ap (λ r. map changed g ++ r) (rows-update gs) ∙ sym (map-append changed g (rows gs))

    found-changed : (xs : List A) → found h (map changed xs) ≡ option_map F (found h xs)
    found-changed [] = refl
    found-changed (x ∷ xs) = by_bool (eqb (key x) h) _ (λ t. let u : eqb (key (F x)) h ≡ true = ap (λ k. eqb k h) (same x) ∙ t in rw t (rw u refl)) (λ t. rw t (rw t (found-changed xs)))

    pub row_of-update : (gs : List (List A)) → row_of key h (update key h F gs) ≡ option_map F (row_of key h gs)
    row_of-update gs = ap (found h) (rows-update gs) ∙ found-changed (rows gs)

    pub has-update : (q : ℕ) (gs : List (List A)) → has key q (update key h F gs) ≡ has key q gs
    has-update q gs = has_from_times key q gs (update key h F gs) (times-update key q h F same gs)
