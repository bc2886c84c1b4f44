-- Values that are read one after the other, as a loop does.
use Rattle.std.proofs.lemmas.Bool.{eqb-true}
use Rattle.std.proofs.Common.{true, false, eqb, zero, ◌≡◌, ℕ, suc, ◌-◌, ◌+◌, ◌≤◌, ◌<◌, List, [], ◌∷◌, ◌++◌, Result, Ok, Err, refl, sym, ap, ◌∙◌, append_assoc, append-nil, arith, add-one, length, drop, get_or}
use Rattle.wc_objects.specs.declared.fault.ReadError.{ReadError}
use Rattle.wc_objects.specs.declared.fault.ReadError.TheVariants as errors
use Rattle.std.proofs.Math.Seq.{drop-cons}
use Rattle.std.proofs.lemmas.List.{drop_all}
use Rattle.wc_objects.specs.declared.kind.Kind.{Kind}
use Rattle.wc_objects.specs.declared.object.Object.{Object}
use Rattle.wc_objects.specs.Reading.{Read, ◌>>=◌, Fails, times, value_at, values_at, object_at, objects_within}

-- what was read before, and what is still read
abbrev pub following : {A : Type 0} → List A → Read (List A) → Read (List A)
following front read = read >>= λ x. Ok (front ++ x.0, x.1)

regroup : {A : Type 0} (front : List A) (x : A) (read : Read (List A)) → following front (read >>= λ xs. Ok (x ∷ xs.0, xs.1)) ≡ following (front ++ x ∷ []) read
regroup {A} front x (Ok xs) = ap (λ (all : List A). Ok (all, xs.1)) (sym (append_assoc front (x ∷ []) xs.0))
regroup front x (Err left) = refl

pub goes_on : {A : Type 0} (read : List ℕ → Read A) (front : List A) (count i : ℕ) (bytes : List ℕ) (x : A) (after : List ℕ) (total : Read (List A)) → i < count → read bytes ≡ Ok (x, after)
    → following front (times (count - i) read bytes) ≡ total → following (front ++ x ∷ []) (times (count - (i + 1)) read after) ≡ total
unfolding times
goes_on read front count i bytes x after total lt h so_far =
    let k : count - i ≡ suc (count - (i + 1)) = omega arith in
    let one : following front (times (count - i) read bytes) ≡ following (front ++ x ∷ []) (times (count - (i + 1)) read after) = rw (k, h) (regroup front x (times (count - (i + 1)) read after)) in
    sym one ∙ so_far

pub ends : {A : Type 0} (read : List ℕ → Read A) (e : ReadError) (front : List A) (count i : ℕ) (bytes : List ℕ) (total : Read (List A)) → i < count → Fails e (read bytes)
    → following front (times (count - i) read bytes) ≡ total → Fails e total
unfolding times
ends read errors.NoMemory front count i bytes total lt h so_far = tt
ends read (errors.Broken left) front count i bytes total lt h so_far =
    let k : count - i ≡ suc (count - (i + 1)) = omega arith in
    let one : following front (times (count - i) read bytes) ≡ Err left = rw (k, h) refl in
    sym so_far ∙ one

pub is_done : {A : Type 0} (read : List ℕ → Read A) (front : List A) (count i : ℕ) (bytes : List ℕ) (total : Read (List A)) → count ≤ i → following front (times (count - i) read bytes) ≡ total → total ≡ Ok (front, bytes)
unfolding times
is_done {A} read front count i bytes total le so_far =
    let k : count - i ≡ 0 = omega arith in
    let one : following front (times (count - i) read bytes) ≡ Ok (front, bytes) = rw k (ap (λ (all : List A). Ok (all, bytes)) (append-nil front)) in
    sym so_far ∙ one

-- ---- a value of each type

rest_is : (kinds : List Kind) (i : ℕ) (d : Kind) → i < length kinds → drop i kinds ≡ get_or kinds i d ∷ drop (i + 1) kinds
rest_is kinds i d within = rw (add-one, drop-cons kinds i d within) refl

pub values_go_on : (front : List Object) (kinds : List Kind) (i : ℕ) (d : Kind) (bytes : List ℕ) (x : Object) (after : List ℕ) (total : Read (List Object)) → i < length kinds → value_at (get_or kinds i d) bytes ≡ Ok (x, after)
    → following front (values_at (drop i kinds) bytes) ≡ total → following (front ++ x ∷ []) (values_at (drop (i + 1) kinds) after) ≡ total
unfolding values_at
values_go_on front kinds i d bytes x after total lt h so_far =
    let one : following front (values_at (drop i kinds) bytes) ≡ following (front ++ x ∷ []) (values_at (drop (i + 1) kinds) after) =
    rw (rest_is kinds i d lt, h) (regroup front x (values_at (drop (i + 1) kinds) after)) in
    sym one ∙ so_far

pub values_end : (e : ReadError) (front : List Object) (kinds : List Kind) (i : ℕ) (d : Kind) (bytes : List ℕ) (total : Read (List Object)) → i < length kinds → Fails e (value_at (get_or kinds i d) bytes)
    → following front (values_at (drop i kinds) bytes) ≡ total → Fails e total
unfolding values_at
values_end errors.NoMemory front kinds i d bytes total lt h so_far = tt
values_end (errors.Broken left) front kinds i d bytes total lt h so_far =
    let one : following front (values_at (drop i kinds) bytes) ≡ Err left = rw (rest_is kinds i d lt, h) refl in
    sym so_far ∙ one

pub values_done : (front : List Object) (kinds : List Kind) (i : ℕ) (bytes : List ℕ) (total : Read (List Object)) → length kinds ≤ i → following front (values_at (drop i kinds) bytes) ≡ total → total ≡ Ok (front, bytes)
unfolding values_at
values_done front kinds i bytes total le so_far =
    let one : following front (values_at (drop i kinds) bytes) ≡ Ok (front, bytes) = rw (drop_all i kinds le) (ap (λ (all : List Object). Ok (all, bytes)) (append-nil front)) in
    sym so_far ∙ one

-- ---- objects to the end

abbrev pub whole_after : List Object → Result (List Object) ℕ → Result (List Object) ℕ
whole_after front read = read >>= λ others. Ok (front ++ others)

regroup_whole : (front : List Object) (x : Object) (read : Result (List Object) ℕ) → whole_after front (read >>= λ others. Ok (x ∷ others)) ≡ whole_after (front ++ x ∷ []) read
regroup_whole front x (Ok others) = ap Ok (sym (append_assoc front (x ∷ []) others))
regroup_whole front x (Err left) = refl

pub objects_go_on : (front : List Object) (count i : ℕ) (b : ℕ) (bytes : List ℕ) (x : Object) (after : List ℕ) (total : Result (List Object) ℕ) → i < count → object_at (b ∷ bytes) ≡ Ok (x, after)
    → whole_after front (objects_within (count - i) (b ∷ bytes)) ≡ total → whole_after (front ++ x ∷ []) (objects_within (count - (i + 1)) after) ≡ total
unfolding objects_within
objects_go_on front count i b bytes x after total lt h so_far =
    let k : count - i ≡ suc (count - (i + 1)) = omega arith in
    let one : whole_after front (objects_within (count - i) (b ∷ bytes)) ≡ whole_after (front ++ x ∷ []) (objects_within (count - (i + 1)) after) =
    rw (k, h) (regroup_whole front x (objects_within (count - (i + 1)) after)) in
    sym one ∙ so_far

pub objects_end : (e : ReadError) (front : List Object) (count i : ℕ) (b : ℕ) (bytes : List ℕ) (total : Result (List Object) ℕ) → i < count → Fails e (object_at (b ∷ bytes))
    → whole_after front (objects_within (count - i) (b ∷ bytes)) ≡ total → Fails e total
unfolding objects_within
objects_end errors.NoMemory front count i b bytes total lt h so_far = tt
objects_end (errors.Broken left) front count i b bytes total lt h so_far =
    let k : count - i ≡ suc (count - (i + 1)) = omega arith in
    let one : whole_after front (objects_within (count - i) (b ∷ bytes)) ≡ Err left = rw (k, h) refl in
    sym so_far ∙ one

-- the same where the bytes are known to be some
pub some_go_on : (front : List Object) (count i : ℕ) (bytes : List ℕ) (x : Object) (after : List ℕ) (total : Result (List Object) ℕ) → 0 < length bytes → i < count → object_at bytes ≡ Ok (x, after)
    → whole_after front (objects_within (count - i) bytes) ≡ total → whole_after (front ++ x ∷ []) (objects_within (count - (i + 1)) after) ≡ total
some_go_on front count i [] x after total some lt h so_far = absurd (omega arith)
some_go_on front count i (b ∷ bytes) x after total some lt h so_far = objects_go_on front count i b bytes x after total lt h so_far

pub some_end : (e : ReadError) (front : List Object) (count i : ℕ) (bytes : List ℕ) (total : Result (List Object) ℕ) → 0 < length bytes → i < count → Fails e (object_at bytes)
    → whole_after front (objects_within (count - i) bytes) ≡ total → Fails e total
some_end e front count i [] total some lt h so_far = absurd (omega arith)
some_end e front count i (b ∷ bytes) total some lt h so_far = objects_end e front count i b bytes total lt h so_far

pub objects_done : (front : List Object) (fuel : ℕ) (bytes : List ℕ) (total : Result (List Object) ℕ) → length bytes ≡ 0 → whole_after front (objects_within fuel bytes) ≡ total → total ≡ Ok front
unfolding objects_within
objects_done front fuel [] total none so_far = sym so_far ∙ ap Ok (append-nil front)
objects_done front fuel (b ∷ bytes) total none so_far = absurd (omega arith)

pub objects_left : (front : List Object) (fuel : ℕ) (bytes : List ℕ) (total : Result (List Object) ℕ) → fuel ≡ 0 → 0 < length bytes → whole_after front (objects_within fuel bytes) ≡ total → total ≡ Err (length bytes)
unfolding objects_within
objects_left front fuel [] total spent some so_far = absurd (omega arith)
objects_left front fuel (b ∷ bytes) total spent some so_far = sym so_far ∙ ap (λ k. whole_after front (objects_within k (b ∷ bytes))) spent

pub is_nothing : (n : ℕ) → true ≡ eqb n 0 → n ≡ 0
is_nothing n t = eqb-true n 0 (sym t)

pub is_something : (n : ℕ) → false ≡ eqb n 0 → 0 < n
is_something zero t = absurd cc
is_something (suc n) t = omega arith
