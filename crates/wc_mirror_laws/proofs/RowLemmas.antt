-- What holds of each row holds of each where groups were edited.
use Rattle.std.proofs.Common.{◌≡◌, ℕ, ◌+◌, ◌≤◌, Bool, true, false, cond, not, eqb, ltb, length, List, [], ◌∷◌, ◌++◌, map, take, drop, find, Some, refl, sym, ap, subst, ◌∙◌, arith}
use Rattle.std.specs.List.{AllByRecursion}
use Rattle.std.proofs.lemmas.Bool.{false≢true}
use Rattle.std.proofs.lemmas.List.{map-append}
use Rattle.wc_buffers.proofs.GroupLaws.{times_in-append}
use Rattle.wc_buffers.specs.Groups.{filled_groups, rows, in_group, row_of, times_in, times, only, without, update, take_out, pick, merge, others, own, move_group, part, unmerge}
use Rattle.wc_mirror_laws.proofs.ListLemmas.{all_append, all_front, all_back, all_filter, all_take, all_drop, all_map, all_flat}

-- ---- rows and groups

abbrev AllGroups : {A : Type 0} → (A → Type 0) → List (List A) → Type 0
AllGroups P gs = AllByRecursion (AllByRecursion P) gs

grouped : {A : Type 0} (P : A → Type 0) (gs : List (List A)) → AllByRecursion P (rows gs) → AllGroups P gs
grouped P [] a = tt
grouped P (g ∷ gs) a = (all_front P g (rows gs) a, grouped P gs (all_back P g (rows gs) a))

flat : {A : Type 0} (P : A → Type 0) (gs : List (List A)) → AllGroups P gs → AllByRecursion P (rows gs)
flat P gs a = all_flat (AllByRecursion P) P (λ g. g) gs (λ g all. all) a

module _ {A : Type 0} (P : A → Type 0) (key : A → ℕ) where
  pub added_rows : (x : A) (gs : List (List A)) → P x → AllByRecursion P (rows gs) → AllByRecursion P (rows (gs ++ (x ∷ []) ∷ []))
  added_rows x gs is a = flat P (gs ++ (x ∷ []) ∷ []) (all_append (AllByRecursion P) gs ((x ∷ []) ∷ []) (grouped P gs a) ((is, tt), tt))

  left : (h : ℕ) (gs : List (List A)) → AllGroups P gs → AllGroups P (take_out key h gs)
  left h gs a = all_filter (AllByRecursion P) _ (map (without key h) gs) (all_map (AllByRecursion P) (AllByRecursion P) (without key h) gs (λ g all. all_filter P _ g all) a)

  pub taken_rows : (h : ℕ) (gs : List (List A)) → AllByRecursion P (rows gs) → AllByRecursion P (rows (take_out key h gs))
  taken_rows h gs a = flat P (take_out key h gs) (left h gs (grouped P gs a))

  pub moved_rows : (h n : ℕ) (gs : List (List A)) → AllByRecursion P (rows gs) → AllByRecursion P (rows (move_group key h n gs))
  moved_rows h n gs a =
      let all = grouped P gs a in
      let os = others key h gs in
      let rest = all_filter (AllByRecursion P) (λ g. not (in_group key h g)) gs all in
      flat P (move_group key h n gs)
      (all_append (AllByRecursion P) (take n os) (own key h gs ++ drop n os) (all_take (AllByRecursion P) n os rest)
      (all_append (AllByRecursion P) (own key h gs) (drop n os) (all_filter (AllByRecursion P) (in_group key h) gs all) (all_drop (AllByRecursion P) n os rest)))

  pub merged_rows : (h into : ℕ) (gs : List (List A)) → AllByRecursion P (rows gs) → AllByRecursion P (rows (merge key h into gs))
  merged_rows h into gs a =
      let new = pick key h gs in
      let picked = all_flat (AllByRecursion P) P (only key h) gs (λ g all. all_filter P _ g all) (grouped P gs a) in
      flat P (merge key h into gs)
      (all_map (AllByRecursion P) (AllByRecursion P) (λ g. cond (in_group key into g) (g ++ new) g) (take_out key h gs) (λ g all. put picked g (in_group key into g) all) (left h gs (grouped P gs a)))
    where
      put : AllByRecursion P (pick key h gs) → (g : List A) (b : Bool) → AllByRecursion P g → AllByRecursion P (cond b (g ++ pick key h gs) g)
      put new g true all = all_append P g (pick key h gs) all new
      put new g false all = all

  pub unmerged_rows : (h : ℕ) (gs : List (List A)) → AllByRecursion P (rows gs) → AllByRecursion P (rows (unmerge key h gs))
  unmerged_rows h gs a = flat P (unmerge key h gs) (all_flat (AllByRecursion P) (AllByRecursion P) (part key h) gs (λ g all. parts g (in_group key h g) all) (grouped P gs a))
    where
      parts : (g : List A) (b : Bool) → AllByRecursion P g → AllGroups P (cond b (filled_groups (without key h g ∷ only key h g ∷ [])) (g ∷ []))
      parts g true all =
          all_filter (AllByRecursion P) (λ xs. ltb 0 (length xs)) (without key h g ∷ only key h g ∷ [])
          (all_filter P (λ x. not (eqb (key x) h)) g all, (all_filter P (λ x. eqb (key x) h) g all, tt))
      parts g false all = (all, tt)

  -- ---- the row of a key, which is once

  pub row_has : (h : ℕ) (xs : List A) (e : A) → find (λ x. eqb (key x) h) xs ≡ Some e → AllByRecursion P xs → P e
  row_has h [] e found a = absurd (let f = found in cc)
  row_has h (x ∷ xs) e found a = by (eqb (key x) h) found (λ f. row_has h xs e f a.1) where
    by : (b : Bool) → cond b (Some x) (find (λ x. eqb (key x) h) xs) ≡ Some e → (find (λ x. eqb (key x) h) xs ≡ Some e → P e) → P e
    by true f rest = let same : x ≡ e = cc in subst P same a.0
    by false f rest = rest f

module _ {A : Type 0} (key : A → ℕ) where
  pub times_rows : (h : ℕ) (gs : List (List A)) → times_in key h (rows gs) ≡ times key h gs
  times_rows h [] = refl
  times_rows h (g ∷ gs) = times_in-append key h g (rows gs) ∙ ap (λ n. times_in key h g + n) (times_rows h gs)

  none_after : (h : ℕ) (e : A) (xs : List A) → times_in key h xs ≡ 0 → AllByRecursion (λ x. eqb (key x) h ≡ true → x ≡ e) xs
  none_after h e [] none = tt
  none_after h e (x ∷ xs) none = (λ here. absurd (grind (arith, here, none)), none_after h e xs (grind (arith, none)))

  only_row : (h : ℕ) (e : A) (xs : List A) → times_in key h xs ≤ 1 → find (λ x. eqb (key x) h) xs ≡ Some e → AllByRecursion (λ x. eqb (key x) h ≡ true → x ≡ e) xs
  only_row h e [] once found = tt
  only_row h e (x ∷ xs) once found = by (eqb (key x) h) refl once found (λ o f. only_row h e xs o f) where
    by : (b : Bool) → eqb (key x) h ≡ b → cond b 1 0 + times_in key h xs ≤ 1 → cond b (Some x) (find (λ x. eqb (key x) h) xs) ≡ Some e
        → (times_in key h xs ≤ 1 → find (λ x. eqb (key x) h) xs ≡ Some e → AllByRecursion (λ x. eqb (key x) h ≡ true → x ≡ e) xs)
        → (eqb (key x) h ≡ true → x ≡ e) × AllByRecursion (λ x. eqb (key x) h ≡ true → x ≡ e) xs
    by true t o f rest = (λ here. cc, none_after h e xs (omega arith))
    by false t o f rest = (λ here. absurd (false≢true (sym t ∙ here)), rest (omega arith) f)

  module _ (P Q : A → Type 0) (h : ℕ) (F : A → A) (more : (x : A) → P x → Q x) (e : A) (is : Q (F e)) where
    changed_list : (xs : List A) → AllByRecursion (λ x. eqb (key x) h ≡ true → x ≡ e) xs → AllByRecursion P xs → AllByRecursion Q (map (λ x. cond (eqb (key x) h) (F x) x) xs)
    changed_list [] o a = tt
    changed_list (x ∷ xs) o a = (by (eqb (key x) h) refl, changed_list xs o.1 a.1) where
      by : (b : Bool) → eqb (key x) h ≡ b → Q (cond b (F x) x)
      by true t = subst (λ y. Q (F y)) (sym (o.0 t)) is
      by false t = more x a.0

    rows_map : (f : A → A) (gs : List (List A)) → rows (map (map f) gs) ≡ map f (rows gs)
    rows_map f [] = refl
    rows_map f (g ∷ gs) = ap (λ r. map f g ++ r) (rows_map f gs) ∙ sym (map-append f g (rows gs))

    pub updated_rows : (gs : List (List A)) → times key h gs ≤ 1 → row_of key h gs ≡ Some e → AllByRecursion P (rows gs) → AllByRecursion Q (rows (update key h F gs))
    updated_rows gs once found a =
        subst (AllByRecursion Q) (sym (rows_map (λ x. cond (eqb (key x) h) (F x) x) gs))
        (changed_list (rows gs) (only_row h e (rows gs) (let t = times_rows h gs in omega arith) found) a)
