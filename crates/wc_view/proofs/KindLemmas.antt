-- The kind of an event by its id, from the front of a list of kinds.
use Rattle.std.proofs.Common.{◌≡◌, ℕ, zero, suc, ◌+◌, ◌<◌, true, false, List, [], ◌∷◌, length, drop, get_or, Option, Some, None, refl, sym, ap, ◌∙◌, arith}
use Rattle.std.specs.Prelude.{bytes_eq}
use Rattle.wc_model.specs.declared.notice.EventKind.{EventKind}
use Rattle.wc_events.specs.BufferObjects.{id_of}
use Rattle.wc_objects.specs.declared.object.Object.{Object}
use Rattle.wc_objects.specs.declared.object.WireMessage.{WireMessage}
use Rattle.wc_view.specs.declared.told_buffer.ToldBuffer.{ToldBuffer}
use Rattle.wc_view.specs.BufferFold.{kind_among, kind_named, event_buffer, changed_by, event_groups, fold_buffer_event}

at_place : (ks : List EventKind) (i : ℕ) (k : EventKind) → i < length ks → k ≡ get_or ks i k → drop i ks ≡ k ∷ drop (suc i) ks
at_place [] i k l is = absurd (omega arith)
at_place (g ∷ ks) zero k l is = ap (λ h. h ∷ ks) (sym is)
at_place (g ∷ ks) (suc i) k l is = at_place ks i k (omega arith) is

at_next : (ks : List EventKind) (i : ℕ) (k : EventKind) → i < length ks → k ≡ get_or ks i k → drop i ks ≡ k ∷ drop (i + 1) ks
at_next ks i k l is = let e : suc i ≡ i + 1 = omega arith in at_place ks i k l is ∙ ap (λ n. k ∷ drop n ks) e

pub kind_here : (id : List ℕ) (ks : List EventKind) (i : ℕ) (k : EventKind) (all : Option EventKind) → i < length ks → k ≡ get_or ks i k → bytes_eq id (id_of k) ≡ true
    → kind_among id (drop i ks) ≡ all → Some k ≡ all
kind_here id ks i k all l is t e = sym (ap (kind_among id) (at_next ks i k l is) ∙ rw t refl) ∙ e

pub kind_more : (id : List ℕ) (ks : List EventKind) (i : ℕ) (k : EventKind) (all : Option EventKind) → i < length ks → k ≡ get_or ks i k → bytes_eq id (id_of k) ≡ false
    → kind_among id (drop i ks) ≡ all → kind_among id (drop (i + 1) ks) ≡ all
kind_more id ks i k all l is t e = sym (ap (kind_among id) (at_next ks i k l is) ∙ rw t refl) ∙ e

nothing_left : {X : Type 0} (xs : List X) → drop (length xs) xs ≡ []
nothing_left [] = refl
nothing_left (x ∷ xs) = nothing_left xs

pub kind_none : (id : List ℕ) (ks : List EventKind) (all : Option EventKind) → kind_among id (drop (length ks) ks) ≡ all → None ≡ all
kind_none id ks all e = sym (ap (kind_among id) (nothing_left ks)) ∙ e

-- before the dump events change nothing
changed_none : (kind : EventKind) (told : Option ToldBuffer) → changed_by kind told None ≡ None
changed_none kind None = refl
changed_none kind (Some told) = refl

groups_none : (kind : Option EventKind) (objects : List Object) → event_groups kind objects None ≡ None
groups_none None objects = refl
groups_none (Some kind) objects = changed_none kind (event_buffer kind objects)

pub nothing_held : (message : WireMessage) → None ≡ fold_buffer_event None message
nothing_held message = sym (groups_none (kind_named message.id) message.objects)

-- what `kind_among` needs
pub ruleset kind_among_facts = (kind_more, kind_here, kind_none)
