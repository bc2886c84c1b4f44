-- No line is flipped by a change that sets no flag.
use Rattle.std.proofs.Common.{◌≡◌, ℕ, zero, suc, ◌+◌, ◌-◌, ◌<◌, Bool, true, false, eqb, List, [], ◌∷◌, ◌++◌, map, drop, length, filter, flat_map, None, refl, ap, ◌∙◌, arith, eq-eqb}
use Rattle.std.specs.List.{find as find_first}
use Rattle.std.proofs.lemmas.Bool.{or_parts}
use Rattle.std.proofs.lemmas.Bool.Decides.{nat_tests}
use Rattle.std.proofs.lemmas.List.{map-append}
use Rattle.std.proofs.lemmas.List.Elements.{filter-append}
use Rattle.wc_lines.specs.declared.line.Line.{Line}
use Rattle.wc_lines.specs.Ring.{last_of, has_content}
use Rattle.wc_buffers.proofs.GroupLaws.{by_bool}
use Rattle.wc_model.specs.Notices.{bool_eq, is_flipped, flips_in}
use Rattle.wc_world.specs.Kept.{AreContentsApart}

same_bool : (b : Bool) → bool_eq b b ≡ true
same_bool true = refl
same_bool false = refl

-- the flips among lines after a line of another content
pub skip_flips : (l : Line) (ls xs : List Line) → has_content l.content xs ≡ false → flips_in (l ∷ ls) xs ≡ flips_in ls xs
skip_flips l ls [] e = refl
skip_flips l ls (x ∷ xs) e =
    let o = or_parts (eqb x.content.0 l.content.0) (has_content l.content xs) e in
    let apart : eqb l.content.0 x.content.0 ≡ false = (let z = o.0 in grind (arith, nat_tests)) in
    let same : is_flipped (l ∷ ls) x ≡ is_flipped ls x = rw apart refl in
    let rest = skip_flips l ls xs o.1 in
    by_bool (is_flipped ls x) _
    (λ t. rw (same, t) (ap (λ hs. x.content ∷ hs) rest))
    (λ t. rw (same, t) rest)

pub no_flips : (n : ℕ) (ls : List Line) → AreContentsApart n ls → flips_in ls ls ≡ []
no_flips n [] a = refl
no_flips n (l ∷ ls) a =
    let own : is_flipped (l ∷ ls) l ≡ false = rw (eq-eqb l.content.0 l.content.0 refl, same_bool l.displayed) refl in
    rw own (skip_flips l ls ls a.1 ∙ no_flips n ls a.2)

pub flips_drop : (ls : List Line) (k : ℕ) (xs : List Line) → flips_in ls xs ≡ [] → flips_in ls (drop k xs) ≡ []
flips_drop ls zero xs e = e
flips_drop ls (suc k) [] e = refl
flips_drop ls (suc k) (x ∷ xs) e = by_bool (is_flipped ls x) _
    (λ t. absurd (let z : x.content ∷ flips_in ls xs ≡ [] = rw t at e in cc))
    (λ t. flips_drop ls k xs (rw t at e))

not_there : (n c : ℕ) (ls : List Line) → AreContentsApart n ls → n < c + 1 → find_first (λ (other : Line). eqb other.content.0 c) ls ≡ None
not_there n c [] a l = refl
not_there n c (x ∷ xs) a l = let z : eqb x.content.0 c ≡ false = (let b = a.0 in grind (arith, nat_tests)) in rw z (not_there n c xs a.2 l)

pub no_flips_printed : (n limit : ℕ) (x : Line) (ls : List Line) → AreContentsApart n ls → n < x.content.0 + 1 → flips_in ls (last_of limit (ls ++ x ∷ [])) ≡ []
no_flips_printed n limit x ls a l =
    let new : is_flipped ls x ≡ false = rw (not_there n x.content.0 ls a l) refl in
    let whole : flips_in ls (ls ++ x ∷ []) ≡ [] =
    ap (map (λ (y : Line). y.content)) (filter-append (is_flipped ls) ls (x ∷ []))
    ∙ map-append (λ (y : Line). y.content) (filter (is_flipped ls) ls) (filter (is_flipped ls) (x ∷ []))
    ∙ ap (λ hs. hs ++ map (λ (y : Line). y.content) (filter (is_flipped ls) (x ∷ []))) (no_flips n ls a)
    ∙ rw new refl in
    flips_drop ls (length (ls ++ x ∷ []) - limit) (ls ++ x ∷ []) whole

pub nothing_flat : {X Y : Type 0} (f : X → List Y) (xs : List X) → ((x : X) → f x ≡ []) → flat_map f xs ≡ []
nothing_flat f [] e = refl
nothing_flat f (x ∷ xs) e = rw (e x) (nothing_flat f xs e)

-- ---- lines stay apart

pub apart_more : (n m : ℕ) (ls : List Line) → n < m + 1 → AreContentsApart n ls → AreContentsApart m ls
apart_more n m [] l a = tt
apart_more n m (x ∷ xs) l a = ((let b = a.0 in omega arith), a.1, apart_more n m xs l a.2)

pub apart_drop : (n k : ℕ) (ls : List Line) → AreContentsApart n ls → AreContentsApart n (drop k ls)
apart_drop n zero ls a = a
apart_drop n (suc k) [] a = tt
apart_drop n (suc k) (x ∷ xs) a = apart_drop n k xs a.2

apart_push : (n m : ℕ) (x : Line) (ls : List Line) → AreContentsApart n ls → n < x.content.0 + 1 → x.content.0 < m → AreContentsApart m (ls ++ x ∷ [])
apart_push n m x [] a l b = (b, refl, tt)
apart_push n m x (y ∷ ys) a l b = ((let z = a.0 in omega arith), lacks, apart_push n m x ys a.2 l b)
  where
    still : (zs : List Line) → has_content y.content zs ≡ false → has_content y.content (zs ++ x ∷ []) ≡ false
    still [] e = let z : eqb x.content.0 y.content.0 ≡ false = (let c = a.0 in grind (arith, nat_tests)) in rw z refl
    still (w ∷ ws) e = let o = or_parts (eqb w.content.0 y.content.0) (has_content y.content ws) e in rw o.0 (still ws o.1)

    lacks : has_content y.content (ys ++ x ∷ []) ≡ false
    lacks = still ys a.1

pub apart_printed : (n m limit : ℕ) (x : Line) (ls : List Line) → AreContentsApart n ls → n < x.content.0 + 1 → x.content.0 < m → AreContentsApart m (last_of limit (ls ++ x ∷ []))
apart_printed n m limit x ls a l b = apart_drop m (length (ls ++ x ∷ []) - limit) (ls ++ x ∷ []) (apart_push n m x ls a l b)
