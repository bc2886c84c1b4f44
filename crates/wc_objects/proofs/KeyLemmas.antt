-- Values that are passed with their keys.
use Rattle.std.proofs.Common.{◌≡◌, ℕ, ◌≤◌, Bool, true, false, not, List, [], ◌∷◌, ◌++◌, append_assoc, length, drop, Option, Some, None, refl, sym, ap, ◌∙◌}
use Rattle.std.specs.Prelude.{is_some}
use Rattle.std.specs.Borrow.{Bor}
use Rattle.std.proofs.lemmas.List.{drop_all}
use Rattle.wc_objects.specs.declared.kind.Kind.{Kind}
use Rattle.wc_objects.specs.declared.object.Object.{Object}
use Rattle.wc_objects.specs.Forms.{key_kind, with_kind, kinds_of, kinds_of_keys, values_of, keys_of}
use Rattle.wc_objects.specs.Left.{keys_left}
use Rattle.wc_objects.proofs.Pieces.{begins}

values_missing : (first : Option Kind) (others : Option (List Kind)) → values_of (with_kind first others) [] ≡ false
values_missing None others = refl
values_missing (Some kind) None = refl
values_missing (Some kind) (Some kinds) = refl

-- where no value is left, none was missing exactly where no key is left
pub ends_keys : (left : Option (Bor (List ℕ))) → values_of (kinds_of_keys (keys_left left)) [] ≡ not (is_some left)
ends_keys None = refl
ends_keys (Some text) =
    let b = begins 44 text.now in
    rw b.are (values_missing (key_kind b.piece) (kinds_of_keys b.others))

pub starts_keys : (keys : List ℕ) (left : Option (Bor (List ℕ))) (values : List Object) → keys_left left ≡ keys_of keys → values_of (kinds_of keys) values ≡ values_of (kinds_of_keys (keys_left left)) values
unfolding kinds_of
starts_keys keys left values e = ap (λ (ks : List (List ℕ)). values_of (kinds_of_keys ks) values) (sym e)

no_more : (some none : Bool) → some ≡ not none → none ≡ not some
no_more some true e = ap not (sym e)
no_more some false e = ap not (sym e)

pub all_passed : (keys : List ℕ) (left : Option (Bor (List ℕ))) (values : List Object) (i : ℕ) (none : Bool) → length values ≤ i → is_some left ≡ not none
    → values_of (kinds_of keys) values ≡ values_of (kinds_of_keys (keys_left left)) (drop i values) → none ≡ values_of (kinds_of keys) values
all_passed keys left values i none ended tested so_far =
    no_more (is_some left) none tested
    ∙ sym (so_far ∙ ap (λ (vs : List Object). values_of (kinds_of_keys (keys_left left)) vs) (drop_all i values ended) ∙ ends_keys left)

-- the types of some keys, and of those after them
abbrev pub after_kinds : List Kind → Option (List Kind) → Option (List Kind)
after_kinds front None = None
after_kinds front (Some kinds) = Some (front ++ kinds)

pub kinds_more : (front : List Kind) (kind : Kind) (others : Option (List Kind)) → after_kinds front (with_kind (Some kind) others) ≡ after_kinds (front ++ kind ∷ []) others
kinds_more front kind None = refl
kinds_more front kind (Some kinds) = ap Some (sym (append_assoc front (kind ∷ []) kinds))

pub kinds_start : (keys : List ℕ) (left : Option (Bor (List ℕ))) → keys_left left ≡ keys_of keys → after_kinds [] (kinds_of_keys (keys_left left)) ≡ kinds_of keys
unfolding kinds_of
kinds_start keys left e = none_before (kinds_of_keys (keys_left left)) ∙ ap kinds_of_keys e
  where
    none_before : (kinds : Option (List Kind)) → after_kinds [] kinds ≡ kinds
    none_before None = refl
    none_before (Some kinds) = refl
