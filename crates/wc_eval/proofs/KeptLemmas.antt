-- Names as they are kept in an evaluation.
use Rattle.std.proofs.Common.{◌≡◌, ℕ, List, [], ◌∷◌, option_map, refl, ap, bytes_eq}
use Rattle.std.specs.Prelude.{String, string_bytes}
use Rattle.std.specs.Map.{lookup}
use Rattle.std.specs.declared.alloc.Global.{Global}
use Rattle.std.specs.declared.vec.Vec.{Vec}
use Rattle.indexmap.specs.IndexMap.{insert_entry}
use Rattle.wc_eval.specs.Stored.{Stored, names_of}
use Rattle.wc_eval.specs.Progress.{with_name}
use Rattle.wc_eval.specs.Names.{defined_in}
use Rattle.wc_eval.proofs.RunLemmas.{by_bool}

pub names_set : (key : Vec ℕ Global) (value : String Global) (es : Stored) →
    names_of (insert_entry (λ a b. bytes_eq a.items b.items) es key value)
    ≡ with_name key.items (string_bytes value) (names_of es)
names_set key value [] = refl
names_set key value (e ∷ es) = by_bool (bytes_eq key.items e.0.items) _
    (λ t. rw t refl)
    (λ f. rw f (ap (λ l. (e.0.items, string_bytes e.1) ∷ l) (names_set key value es)))

pub names_found : (name : List ℕ) (es : Stored) →
    option_map string_bytes (lookup (λ k. bytes_eq name k.items) es) ≡ defined_in name (names_of es)
names_found name [] = refl
names_found name (e ∷ es) = by_bool (bytes_eq name e.0.items) _
    (λ t. rw t refl)
    (λ f. rw f (names_found name es))
