-- The edits of groups, one group or buffer after another.
use Rattle.std.proofs.Common.{◌≡◌, ℕ, ◌+◌, ◌<◌, Bool, true, false, not, eqb, List, [], ◌∷◌, ◌++◌, length, take, get_or, map, filter, flat_map, refl, sym, ap, ◌∙◌}
use Rattle.std.proofs.lemmas.List.{take_more, append-nil, append_assoc, map-append}
use Rattle.std.proofs.lemmas.List.Elements.{filter-append}
use Rattle.std.proofs.lemmas.Grind.{flat_map-append}
use Rattle.wc_buffers.specs.Groups.{filled_groups, in_group, without, only, take_out, pick, others, own, part, unmerge}
use Rattle.wc_view.specs.declared.mirror_buffer.MirrorBuffer.{MirrorBuffer}
use Rattle.wc_view.specs.Grouped.{MirrorGroups, key_of, with_after, insert_after, put_after}

-- a filter of one more
filter_yes : {X : Type 0} (p : X → Bool) (xs : List X) (i : ℕ) (x : X) → i < length xs → x ≡ get_or xs i x → p x ≡ true → filter p (take (i + 1) xs) ≡ filter p (take i xs) ++ x ∷ []
filter_yes p xs i x l is t =
    ap (filter p) (take_more xs i x l ∙ ap (λ y. take i xs ++ y ∷ []) (sym is)) ∙ filter-append p (take i xs) (x ∷ []) ∙ rw t refl

filter_no : {X : Type 0} (p : X → Bool) (xs : List X) (i : ℕ) (x : X) → i < length xs → x ≡ get_or xs i x → p x ≡ false → filter p (take (i + 1) xs) ≡ filter p (take i xs)
filter_no p xs i x l is t =
    ap (filter p) (take_more xs i x l ∙ ap (λ y. take i xs ++ y ∷ []) (sym is)) ∙ filter-append p (take i xs) (x ∷ []) ∙ rw t (append-nil (filter p (take i xs)))

pub without_more : (h i : ℕ) (xs kept : List MirrorBuffer) (x : MirrorBuffer) → i < length xs → x ≡ get_or xs i x → eqb (key_of x) h ≡ false
    → kept ≡ without key_of h (take i xs) → kept ++ x ∷ [] ≡ without key_of h (take (i + 1) xs)
without_more h i xs kept x l is t e = ap (λ ys. ys ++ x ∷ []) e ∙ sym (filter_yes (λ y. not (eqb (key_of y) h)) xs i x l is (ap not t))

pub without_same : (h i : ℕ) (xs kept : List MirrorBuffer) (x : MirrorBuffer) → i < length xs → x ≡ get_or xs i x → eqb (key_of x) h ≡ true
    → kept ≡ without key_of h (take i xs) → kept ≡ without key_of h (take (i + 1) xs)
without_same h i xs kept x l is t e = e ∙ sym (filter_no (λ y. not (eqb (key_of y) h)) xs i x l is (ap not t))

pub only_more : (h i : ℕ) (xs front picked : List MirrorBuffer) (x : MirrorBuffer) → i < length xs → x ≡ get_or xs i x → eqb (key_of x) h ≡ true
    → picked ≡ front ++ only key_of h (take i xs) → picked ++ x ∷ [] ≡ front ++ only key_of h (take (i + 1) xs)
only_more h i xs front picked x l is t e =
    ap (λ ys. ys ++ x ∷ []) e ∙ append_assoc front (only key_of h (take i xs)) (x ∷ []) ∙ ap (λ ys. front ++ ys) (sym (filter_yes (λ y. eqb (key_of y) h) xs i x l is t))

pub only_same : (h i : ℕ) (xs front picked : List MirrorBuffer) (x : MirrorBuffer) → i < length xs → x ≡ get_or xs i x → eqb (key_of x) h ≡ false
    → picked ≡ front ++ only key_of h (take i xs) → picked ≡ front ++ only key_of h (take (i + 1) xs)
only_same h i xs front picked x l is t e = e ∙ ap (λ ys. front ++ ys) (sym (filter_no (λ y. eqb (key_of y) h) xs i x l is t))

pub others_more : (h i : ℕ) (gs found : MirrorGroups) (g : List MirrorBuffer) → i < length gs → g ≡ get_or gs i g → in_group key_of h g ≡ false
    → found ≡ others key_of h (take i gs) → found ++ g ∷ [] ≡ others key_of h (take (i + 1) gs)
others_more h i gs found g l is t e = ap (λ ys. ys ++ g ∷ []) e ∙ sym (filter_yes (λ y. not (in_group key_of h y)) gs i g l is (ap not t))

pub others_same : (h i : ℕ) (gs found : MirrorGroups) (g : List MirrorBuffer) → i < length gs → g ≡ get_or gs i g → in_group key_of h g ≡ true
    → found ≡ others key_of h (take i gs) → found ≡ others key_of h (take (i + 1) gs)
others_same h i gs found g l is t e = e ∙ sym (filter_no (λ y. not (in_group key_of h y)) gs i g l is (ap not t))

pub own_more : (h i : ℕ) (gs front found : MirrorGroups) (g : List MirrorBuffer) → i < length gs → g ≡ get_or gs i g → in_group key_of h g ≡ true
    → found ≡ front ++ own key_of h (take i gs) → found ++ g ∷ [] ≡ front ++ own key_of h (take (i + 1) gs)
own_more h i gs front found g l is t e =
    ap (λ ys. ys ++ g ∷ []) e ∙ append_assoc front (own key_of h (take i gs)) (g ∷ []) ∙ ap (λ ys. front ++ ys) (sym (filter_yes (in_group key_of h) gs i g l is t))

pub own_same : (h i : ℕ) (gs front found : MirrorGroups) (g : List MirrorBuffer) → i < length gs → g ≡ get_or gs i g → in_group key_of h g ≡ false
    → found ≡ front ++ own key_of h (take i gs) → found ≡ front ++ own key_of h (take (i + 1) gs)
own_same h i gs front found g l is t e = e ∙ ap (λ ys. front ++ ys) (sym (filter_no (in_group key_of h) gs i g l is t))

-- what each of one more gives
flat_more : {X A : Type 0} (f : X → List A) (xs : List X) (i : ℕ) (x : X) → i < length xs → x ≡ get_or xs i x → flat_map f (take (i + 1) xs) ≡ flat_map f (take i xs) ++ f x
flat_more f xs i x l is =
    ap (flat_map f) (take_more xs i x l ∙ ap (λ y. take i xs ++ y ∷ []) (sym is)) ∙ flat_map-append f (take i xs) (x ∷ [])
    ∙ ap (λ ys. flat_map f (take i xs) ++ ys) (append-nil (f x))

pub pick_more : (h i : ℕ) (gs : MirrorGroups) (picked new g : List MirrorBuffer) → i < length gs → g ≡ get_or gs i g → new ≡ picked ++ only key_of h g
    → picked ≡ pick key_of h (take i gs) → new ≡ pick key_of h (take (i + 1) gs)
pick_more h i gs picked new g l is n e = n ∙ ap (λ ys. ys ++ only key_of h g) e ∙ sym (flat_more (only key_of h) gs i g l is)

pub insert_more : (h i : ℕ) (added xs placed new : List MirrorBuffer) (x : MirrorBuffer) → i < length xs → x ≡ get_or xs i x → new ≡ placed ++ with_after h added x
    → placed ≡ insert_after h added (take i xs) → new ≡ insert_after h added (take (i + 1) xs)
insert_more h i added xs placed new x l is n e = n ∙ ap (λ ys. ys ++ with_after h added x) e ∙ sym (flat_more (with_after h added) xs i x l is)

pub unmerge_more : (h i : ℕ) (gs parted new : MirrorGroups) (g : List MirrorBuffer) → i < length gs → g ≡ get_or gs i g → new ≡ parted ++ part key_of h g
    → parted ≡ unmerge key_of h (take i gs) → new ≡ unmerge key_of h (take (i + 1) gs)
unmerge_more h i gs parted new g l is n e = n ∙ ap (λ ys. ys ++ part key_of h g) e ∙ sym (flat_more (part key_of h) gs i g l is)

pub take_out_more : (h i : ℕ) (gs left new : MirrorGroups) (g kept : List MirrorBuffer) → i < length gs → g ≡ get_or gs i g → kept ≡ without key_of h g → new ≡ left ++ filled_groups (kept ∷ [])
    → left ≡ take_out key_of h (take i gs) → new ≡ take_out key_of h (take (i + 1) gs)
take_out_more h i gs left new g kept l is k n e =
    n ∙ ap (λ ys. ys ++ filled_groups (kept ∷ [])) e ∙ ap (λ ys. take_out key_of h (take i gs) ++ filled_groups (ys ∷ [])) k
    ∙ sym (ap (take_out key_of h) (take_more gs i g l ∙ ap (λ y. take i gs ++ y ∷ []) (sym is))
    ∙ ap filled_groups (map-append (without key_of h) (take i gs) (g ∷ [])) ∙ filter-append _ (map (without key_of h) (take i gs)) (without key_of h g ∷ []))

pub put_more : (h i : ℕ) (added : List MirrorBuffer) (gs placed : MirrorGroups) (g new : List MirrorBuffer) → i < length gs → g ≡ get_or gs i g → new ≡ insert_after h added g
    → placed ≡ put_after h added (take i gs) → placed ++ new ∷ [] ≡ put_after h added (take (i + 1) gs)
put_more h i added gs placed g new l is n e =
    ap (λ ys. ys ++ new ∷ []) e ∙ ap (λ y. put_after h added (take i gs) ++ y ∷ []) n
    ∙ sym (ap (put_after h added) (take_more gs i g l ∙ ap (λ y. take i gs ++ y ∷ []) (sym is)) ∙ map-append (insert_after h added) (take i gs) (g ∷ []))

-- what `without` needs
pub ruleset without_facts = (without_more, without_same)

-- what `others` needs
pub ruleset others_facts = (others_more, others_same)
