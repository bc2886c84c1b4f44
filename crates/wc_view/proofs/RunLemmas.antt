-- Runs of equal numbers, from the front.
use Rattle.std.proofs.Common.{◌≡◌, ℕ, true, false, cond, eqb, List, [], ◌∷◌, ◌++◌, length, fold, refl, sym, ap, ◌∙◌, arith}
use Rattle.std.proofs.lemmas.List.{append_assoc}
use Rattle.std.proofs.lemmas.Bool.Decides.{nat_tests}
use Rattle.wc_buffers.proofs.GroupLaws.{filled-some}
use Rattle.wc_view.specs.declared.mirror_buffer.MirrorBuffer.{MirrorBuffer}
use Rattle.wc_view.specs.declared.told_buffer.ToldBuffer.{ToldBuffer}
use Rattle.wc_view.specs.Grouped.{MirrorGroups}
use Rattle.wc_view.specs.BufferFold.{in_front, put_in_front, runs}
use Rattle.wc_view.specs.Runs.{GroupsSoFar, nothing_open, with_row, groups_of_open}
use Rattle.wc_view.proofs.EntryLemmas.{by_bool}

-- buffers in front of the first group
abbrev prepend : List MirrorBuffer → MirrorGroups → MirrorGroups
prepend g [] = g ∷ []
prepend g (x ∷ groups) = (g ++ x) ∷ groups

-- a group of this number in front of the groups that these rows make
abbrev glued : ℕ → List MirrorBuffer → List ToldBuffer → MirrorGroups → MirrorGroups
glued n g [] groups = g ∷ groups
glued n g (row ∷ rows) groups = cond (eqb n row.number) (prepend g groups) (g ∷ groups)

prepend-front : (g : List MirrorBuffer) (b : MirrorBuffer) (groups : MirrorGroups) → prepend (g ++ b ∷ []) groups ≡ prepend g (in_front b groups)
prepend-front g b [] = refl
prepend-front g b (x ∷ groups) = ap (λ y. y ∷ groups) (append_assoc g (b ∷ []) x)

one_front : (b : MirrorBuffer) (groups : MirrorGroups) → prepend (b ∷ []) groups ≡ in_front b groups
one_front b [] = refl
one_front b (x ∷ groups) = refl

grown : (g : List MirrorBuffer) (row : ToldBuffer) (rows : List ToldBuffer) (groups : MirrorGroups) → (rows ≡ [] → groups ≡ [])
    → glued row.number (g ++ row.buffer ∷ []) rows groups ≡ prepend g (put_in_front row rows groups)
grown g row [] groups none = refl
grown g row (next ∷ rows) groups none = by_bool (eqb row.number next.number) _
    (λ t. rw t (prepend-front g row.buffer groups))
    (λ t. rw t refl)

begun : (row : ToldBuffer) (rows : List ToldBuffer) (groups : MirrorGroups) → glued row.number (row.buffer ∷ []) rows groups ≡ put_in_front row rows groups
begun row [] groups = refl
begun row (next ∷ rows) groups = by_bool (eqb row.number next.number) _
    (λ t. rw t (one_front row.buffer groups))
    (λ t. rw t refl)

abbrev open_at : MirrorGroups → ℕ → List MirrorBuffer → GroupsSoFar
open_at groups n g = record { groups = groups; number = n; group = g }

same_number : (groups : MirrorGroups) (n : ℕ) (b : MirrorBuffer) (g : List MirrorBuffer) (row : ToldBuffer) → eqb n row.number ≡ true
    → with_row (open_at groups n (b ∷ g)) row ≡ open_at groups row.number (b ∷ (g ++ row.buffer ∷ []))
same_number groups n b g row t = let some : eqb (length (b ∷ g)) 0 ≡ false = grind (arith, nat_tests) in rw (some, t) refl

next_number : (groups : MirrorGroups) (n : ℕ) (b : MirrorBuffer) (g : List MirrorBuffer) (row : ToldBuffer) → eqb n row.number ≡ false
    → with_row (open_at groups n (b ∷ g)) row ≡ open_at (groups ++ (b ∷ g) ∷ []) row.number (row.buffer ∷ [])
next_number groups n b g row t = let some : eqb (length (b ∷ g)) 0 ≡ false = grind (arith, nat_tests) in rw (some, t) refl

more : (groups : MirrorGroups) (n : ℕ) (b : MirrorBuffer) (g : List MirrorBuffer) (rows : List ToldBuffer)
    → groups_of_open (fold with_row (open_at groups n (b ∷ g)) rows) ≡ groups ++ glued n (b ∷ g) rows (runs rows)
more groups n b g [] = ap (λ gs. groups ++ gs) (filled-some b g [])
more groups n b g (row ∷ rows) = by_bool (eqb n row.number) _
    (λ t. ap (λ o. groups_of_open (fold with_row o rows)) (same_number groups n b g row t) ∙ more groups row.number b (g ++ row.buffer ∷ []) rows
    ∙ ap (λ gs. groups ++ gs) (grown (b ∷ g) row rows (runs rows) (λ e. ap runs e))
    ∙ ap (λ z. groups ++ cond z (prepend (b ∷ g) (put_in_front row rows (runs rows))) ((b ∷ g) ∷ put_in_front row rows (runs rows))) (sym t))
    (λ t. ap (λ o. groups_of_open (fold with_row o rows)) (next_number groups n b g row t) ∙ more (groups ++ (b ∷ g) ∷ []) row.number row.buffer [] rows
    ∙ append_assoc groups ((b ∷ g) ∷ []) (glued row.number (row.buffer ∷ []) rows (runs rows))
    ∙ ap (λ gs. groups ++ (b ∷ g) ∷ gs) (begun row rows (runs rows))
    ∙ ap (λ z. groups ++ cond z (prepend (b ∷ g) (put_in_front row rows (runs rows))) ((b ∷ g) ∷ put_in_front row rows (runs rows))) (sym t))

pub runs_finished : (rows : List ToldBuffer) → groups_of_open (fold with_row nothing_open rows) ≡ runs rows
runs_finished [] = refl
runs_finished (row ∷ rows) = more [] row.number row.buffer [] rows ∙ begun row rows (runs rows)
