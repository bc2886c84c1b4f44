-- The first set of a buffer, by its place.
use Rattle.std.proofs.Common.{◌≡◌, ℕ, suc, ◌<◌, ◌≤◌, Bool, true, false, cond, List, [], ◌∷◌, ◌++◌, length, get_or, set, Some, None, refl, sym, ap, subst, ◌∙◌, append-nil, arith}
use Rattle.std.specs.Prelude.{◌==◌, nat_lt, position}
use Rattle.std.specs.List.{position_or_len}
use Rattle.std.proofs.lemmas.Bool.Decides.{nat_tests}
use Rattle.wc_text.specs.declared.names.Handle.{Handle}
use Rattle.wc_session.specs.declared.sync_set.SyncSet.{SyncSet}
use Rattle.wc_session.specs.declared.sync_set.BufferSet.{BufferSet}
use Rattle.wc_session.specs.Sync.{union, difference, put_to, without_options}

abbrev with_set : (SyncSet → SyncSet) → BufferSet → BufferSet
with_set f s = record { buffer = s.buffer; set = f s.set }

-- the first set of the buffer changed by f, and where there is none these sets after the others
abbrev changed : (SyncSet → SyncSet) → List BufferSet → ℕ → List BufferSet → List BufferSet
changed f new buffer [] = new
changed f new buffer (s ∷ sets) = cond (s.buffer.0 == buffer) (with_set f s ∷ sets) (s ∷ changed f new buffer sets)

put_is : (options : SyncSet) (buffer : Handle) (sets : List BufferSet)
    → put_to options buffer sets ≡ changed (λ set. union set options) (record { buffer = buffer; set = options } ∷ []) buffer.0 sets
put_is options buffer [] = refl
put_is options buffer (s ∷ sets) = ap (λ others. cond (s.buffer.0 == buffer.0) (record { buffer = s.buffer; set = union s.set options } ∷ sets) (s ∷ others)) (put_is options buffer sets)

taken_is : (options : SyncSet) (buffer : Handle) (sets : List BufferSet) → without_options options buffer sets ≡ changed (λ set. difference set options) [] buffer.0 sets
taken_is options buffer [] = refl
taken_is options buffer (s ∷ sets) = ap (λ others. cond (s.buffer.0 == buffer.0) (record { buffer = s.buffer; set = difference s.set options } ∷ sets) (s ∷ others)) (taken_is options buffer sets)

abbrev place : ℕ → List BufferSet → ℕ
place buffer sets = position_or_len (λ s. s.buffer.0 == buffer) sets

abbrev IsAt : (SyncSet → SyncSet) → List BufferSet → ℕ → List BufferSet → ℕ → Type 0
IsAt f new buffer sets n =
    (n < length sets → (d : BufferSet) → changed f new buffer sets ≡ set sets n (with_set f (get_or sets n d)))
    × (length sets ≤ n → changed f new buffer sets ≡ sets ++ new)

here : (buffer : ℕ) (s : BufferSet) (sets : List BufferSet) → (s.buffer.0 == buffer) ≡ true → place buffer (s ∷ sets) ≡ 0
here buffer s sets e = rw e refl

later : (buffer : ℕ) (s : BufferSet) (sets : List BufferSet) → (s.buffer.0 == buffer) ≡ false → place buffer (s ∷ sets) ≡ suc (place buffer sets)
later buffer s sets e = rw e (omega arith)

is_at_by : (f : SyncSet → SyncSet) (new : List BufferSet) (buffer : ℕ) (s : BufferSet) (sets : List BufferSet) (test : Bool) → (s.buffer.0 == buffer) ≡ test
    → IsAt f new buffer sets (place buffer sets) → IsAt f new buffer (s ∷ sets) (place buffer (s ∷ sets))
is_at_by f new buffer s sets true e h =
    let P : ℕ → Type 0 = IsAt f new buffer (s ∷ sets) in
    subst P (sym (here buffer s sets e)) (λ inside d. rw e refl, λ outside. absurd (omega arith))
is_at_by f new buffer s sets false e h =
    let P : ℕ → Type 0 = IsAt f new buffer (s ∷ sets) in
    subst P (sym (later buffer s sets e)) (
      λ inside d. rw e (ap (λ others. s ∷ others) (h.0 (omega arith) d)),
      λ outside. rw e (ap (λ others. s ∷ others) (h.1 (omega arith))),
    )

is_at : (f : SyncSet → SyncSet) (new : List BufferSet) (buffer : ℕ) (sets : List BufferSet) → IsAt f new buffer sets (place buffer sets)
is_at f new buffer [] = (λ inside d. absurd (omega arith), λ outside. refl)
is_at f new buffer (s ∷ sets) = is_at_by f new buffer s sets (s.buffer.0 == buffer) refl (is_at f new buffer sets)

found : (n m k : ℕ) → cond (nat_lt n m) (Some n) None ≡ Some k → (k ≡ n) × (n < m)
found n m k e = (grind (arith, nat_tests), grind (arith, nat_tests))

not_found : (n m : ℕ) → cond (nat_lt n m) (Some n) None ≡ None → m ≤ n
not_found n m e = grind (arith, nat_tests)

some_at : (f : SyncSet → SyncSet) (new : List BufferSet) (buffer : ℕ) (sets : List BufferSet) (k : ℕ) → position (λ s. s.buffer.0 == buffer) sets ≡ Some k
    → (d : BufferSet) → changed f new buffer sets ≡ set sets k (with_set f (get_or sets k d))
some_at f new buffer sets k e d =
    let at = found (place buffer sets) (length sets) k e in
    subst (λ n. changed f new buffer sets ≡ set sets n (with_set f (get_or sets n d))) (sym at.0) ((is_at f new buffer sets).0 at.1 d)

none_at : (f : SyncSet → SyncSet) (new : List BufferSet) (buffer : ℕ) (sets : List BufferSet) → position (λ s. s.buffer.0 == buffer) sets ≡ None
    → changed f new buffer sets ≡ sets ++ new
none_at f new buffer sets e = (is_at f new buffer sets).1 (not_found (place buffer sets) (length sets) e)

pub put_some : (options : SyncSet) (buffer : Handle) (sets : List BufferSet) (k : ℕ) → position (λ s. s.buffer.0 == buffer.0) sets ≡ Some k
    → (d : BufferSet) → put_to options buffer sets ≡ set sets k (record { buffer = (get_or sets k d).buffer; set = union (get_or sets k d).set options })
put_some options buffer sets k e d = put_is options buffer sets ∙ some_at (λ set. union set options) _ buffer.0 sets k e d

pub put_none : (options : SyncSet) (buffer : Handle) (sets : List BufferSet) → position (λ s. s.buffer.0 == buffer.0) sets ≡ None
    → put_to options buffer sets ≡ sets ++ record { buffer = buffer; set = options } ∷ []
put_none options buffer sets e = put_is options buffer sets ∙ none_at (λ set. union set options) _ buffer.0 sets e

pub taken_some : (options : SyncSet) (buffer : Handle) (sets : List BufferSet) (k : ℕ) → position (λ s. s.buffer.0 == buffer.0) sets ≡ Some k
    → (d : BufferSet) → without_options options buffer sets ≡ set sets k (record { buffer = (get_or sets k d).buffer; set = difference (get_or sets k d).set options })
taken_some options buffer sets k e d = taken_is options buffer sets ∙ some_at (λ set. difference set options) [] buffer.0 sets k e d

pub taken_none : (options : SyncSet) (buffer : Handle) (sets : List BufferSet) → position (λ s. s.buffer.0 == buffer.0) sets ≡ None → without_options options buffer sets ≡ sets
taken_none options buffer sets e = taken_is options buffer sets ∙ none_at (λ set. difference set options) [] buffer.0 sets e ∙ append-nil sets
