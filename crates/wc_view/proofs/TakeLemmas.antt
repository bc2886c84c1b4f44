-- What a client makes of the bytes that it takes.
use Rattle.std.proofs.Common.{◌≡◌, ℕ, List, Option, Some, None, refl, sym, subst}
use Rattle.std.specs.Prelude.{true, Result, Ok, Err, IsTrue, IfOk, IfSome, OnErr}
use Rattle.wc_objects.specs.declared.object.WireMessage.{WireMessage}
use Rattle.wc_objects.specs.declared.read.MessageRefused.{MessageRefused}
use Rattle.wc_objects.specs.declared.read.MessageRefused.TheVariants.{BadAt}
use Rattle.wc_objects.specs.Forms.{well_formed}
use Rattle.wc_objects.specs.Reading.{GivesFirst, first_message}
use Rattle.wc_objects.specs.Spells.{FrontSpells, misses_bytes}
use Rattle.wc_objects.proofs.Fronts.{only, missing}
use Rattle.wc_view.specs.declared.mirror.MirrorRefused.{MirrorRefused}
use Rattle.wc_view.specs.declared.mirror.MirrorRefused.TheVariants.{BadMessage, BadDiff, NoMemory}
use Rattle.wc_view.specs.Taking.{MirrorParts, parts_after, TakesMessage}

abbrev pub Front : Type 0
Front = Option (WireMessage × ℕ)

pub takes_found : (read : Result Front ℕ) (message : WireMessage) (size : ℕ) (old new : MirrorParts) → read ≡ Ok (Some (message, size))
    → parts_after old message ≡ Ok new → TakesMessage (Ok size) old new read
takes_found read message size old new is e = subst (TakesMessage (Ok size) old new) (sym is) (refl, e)

pub takes_refused : (read : Result Front ℕ) (message : WireMessage) (size place : ℕ) (old new : MirrorParts) → read ≡ Ok (Some (message, size))
    → parts_after old message ≡ Err place → new ≡ old → TakesMessage (Err (BadDiff place)) old new read
takes_refused read message size place old new is e same = subst (TakesMessage (Err (BadDiff place)) old new) (sym is) (e, same)

pub takes_none : (read : Result Front ℕ) (old new : MirrorParts) → read ≡ Ok None → new ≡ old → TakesMessage (Ok 0) old new read
takes_none read old new is e = subst (TakesMessage (Ok 0) old new) (sym is) (refl, e)

pub takes_bad : (read : Result Front ℕ) (place : ℕ) (old new : MirrorParts) → read ≡ Err place → new ≡ old → TakesMessage (Err (BadMessage place)) old new read
takes_bad read place old new is e = subst (TakesMessage (Err (BadMessage place)) old new) (sym is) (refl, e)

-- after a refusal nothing has changed
pub unchanged : (result : Result ℕ MirrorRefused) (read : Result Front ℕ) (old new : MirrorParts) → TakesMessage result old new read → OnErr result (new ≡ old)
unchanged (Ok size) read old new t = tt
unchanged (Err NoMemory) read old new t = t
unchanged (Err (BadMessage at)) (Err place) old new t = t.1
unchanged (Err (BadMessage at)) (Ok front) old new t = absurd t
unchanged (Err (BadDiff at)) (Ok (Some found)) old new t = t.1
unchanged (Err (BadDiff at)) (Ok None) old new t = absurd t
unchanged (Err (BadDiff at)) (Err place) old new t = absurd t

-- reading as a call answers it where memory is found
abbrev pub answered : Result Front ℕ → Result Front MessageRefused
answered (Ok front) = Ok front
answered (Err place) = Err (BadAt place)

pub gives_answered : (read : Result Front ℕ) → GivesFirst (answered read) read
gives_answered (Ok front) = refl
gives_answered (Err place) = refl

is_given : (read : Result Front ℕ) (front : Front) → GivesFirst (answered read) (Ok front) → read ≡ Ok front
is_given (Ok found) front e = sym e
is_given (Err place) front e = absurd (let k = e in cc)

spelt_first : (bytes : List ℕ) (message : WireMessage) (size : ℕ) → FrontSpells message size bytes → first_message bytes ≡ Ok (Some (message, size))
spelt_first bytes message size f =
    let read = first_message bytes in
    is_given read (Some (message, size)) (only bytes (answered read) (gives_answered read) message size f)

missing_first : (bytes : List ℕ) → IsTrue (misses_bytes bytes) → first_message bytes ≡ Ok None
missing_first bytes m =
    let read = first_message bytes in
    is_given read None (missing bytes (answered read) (gives_answered read) m)

pub takes_spelt : (bytes : List ℕ) (result : Result ℕ MirrorRefused) (old new : MirrorParts) → TakesMessage result old new (first_message bytes)
    → (message : WireMessage) (size : ℕ) → FrontSpells message size bytes → TakesMessage result old new (Ok (Some (message, size)))
takes_spelt bytes result old new t message size f = subst (TakesMessage result old new) (spelt_first bytes message size f) t

pub takes_missing : (bytes : List ℕ) (result : Result ℕ MirrorRefused) (old new : MirrorParts) → TakesMessage result old new (first_message bytes)
    → IsTrue (misses_bytes bytes) → TakesMessage result old new (Ok None)
takes_missing bytes result old new t m = subst (TakesMessage result old new) (missing_first bytes m) t

-- what is read keeps the rules of its types
pub front_formed : {E : Type 0} (result : Result Front E) (bytes : List ℕ) → IfOk result (λ front. IfSome front (λ found. FrontSpells found.0 found.1 bytes))
    → IfOk result (λ front. IfSome front (λ found. well_formed found.0.objects ≡ true))
front_formed (Ok (Some found)) bytes h = h.spells.formed
front_formed (Ok None) bytes h = tt
front_formed (Err e) bytes h = tt

-- what `take_front` needs
pub ruleset take_front_facts = (takes_found, takes_none, takes_bad, takes_refused)
