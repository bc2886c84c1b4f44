-- Objects, each read as it is spelt.
use Rattle.std.proofs.Common.{◌≡◌, true, false, ◌&&◌, refl, sym, ap, subst, ◌∙◌}
use Rattle.std.specs.List.{list_all}
use Rattle.std.proofs.lemmas.Bool.{and_parts}
use Rattle.wc_objects.specs.declared.kind.Kind.{Kind}
use Rattle.wc_objects.specs.declared.kind.Kind.TheVariants.{Chr, Int, Lon, Str, Buf, Ptr, Tim, Htb, Hda, Inf, Inl, Arr}
use Rattle.wc_objects.specs.declared.object.Object.{Object}
use Rattle.wc_objects.specs.declared.object.Object.TheViews.{out-Object}
use Rattle.wc_objects.specs.declared.object.Object.TheOpen.{Object-F}
use Rattle.wc_objects.specs.declared.object.Object.TheVariants as o
use Rattle.wc_objects.specs.Kinds.{Layer, letters, same, is_simple, is_value, kind_at, kind_of}
use Rattle.wc_objects.specs.Forms.{simple_is, value_is, value_layer_is, is_text, object_is}
use Rattle.wc_objects.specs.Within.{ValueWithin, ObjectWithin}
use Rattle.wc_objects.specs.Spelling.{value_layer, value_bytes, hda_bytes, whole_layer, whole_bytes, object_bytes}
use Rattle.wc_objects.specs.Reading.{kind_by, any_kind, value_at, hda_at, inf_at, inl_at, whole_at, object_at}
use Rattle.wc_objects.proofs.Codecs.{Codec, mapped, refit, respell, chain_tied}
use Rattle.wc_objects.proofs.NumberCodecs.{kind_codec}
use Rattle.wc_objects.proofs.ValueCodecs.{pair_test, IsValueLayer, IsValue, value_codec}
use Rattle.wc_objects.proofs.PathCodecs.{IsHda, hda_codec}
use Rattle.wc_objects.proofs.ListCodecs.{IsInf, inf_codec, IsList, list_codec}
use Rattle.wc_objects.proofs.WholeCodecs.{IsWholeLayer, IsWhole, MadeHda, to_hda, from_hda, to_inf, from_inf, to_list, from_list}
use Rattle.wc_objects.proofs.Layers.{layer_of, same_is}

-- ---- a value

abbrev KindTest : Kind → Layer → Type 0
KindTest kind layer = (kind_at layer ≡ kind) × (value_layer_is (kind_at layer) layer ≡ true)

own_kind : (kind own : Kind) (layer : Layer) → kind_at layer ≡ own → same kind own ≡ true → value_layer_is kind layer ≡ true → KindTest kind layer
own_kind kind own layer is e h = let k : kind_at layer ≡ kind = is ∙ sym (same_is kind own e) in (k, subst (λ (y : Kind). value_layer_is y layer ≡ true) (sym k) h)

to_whole : (kind : Kind) (layer : Layer) → IsValueLayer kind layer → IsWholeLayer kind layer
to_whole kind (Object-F.Chr n) h = let e = h.0 in let p = own_kind kind Chr (Object-F.Chr n) refl e h.0 in (p.0, p.1, h.1)
to_whole kind (Object-F.Int n) h = let e = h.0 in let p = own_kind kind Int (Object-F.Int n) refl e h.0 in (p.0, p.1, h.1)
to_whole kind (Object-F.Lon n) h = let e = h.0 in let p = own_kind kind Lon (Object-F.Lon n) refl e h.0 in (p.0, p.1, h.1)
to_whole kind (Object-F.Str t) h = let e = (and_parts (same kind Str) (is_text t) h.0).0 in let p = own_kind kind Str (Object-F.Str t) refl e h.0 in (p.0, p.1, h.1)
to_whole kind (Object-F.Buf t) h = let e = (and_parts (same kind Buf) (is_text t) h.0).0 in let p = own_kind kind Buf (Object-F.Buf t) refl e h.0 in (p.0, p.1, h.1)
to_whole kind (Object-F.Ptr n) h = let e = h.0 in let p = own_kind kind Ptr (Object-F.Ptr n) refl e h.0 in (p.0, p.1, h.1)
to_whole kind (Object-F.Tim n) h = let e = h.0 in let p = own_kind kind Tim (Object-F.Tim n) refl e h.0 in (p.0, p.1, h.1)
to_whole kind (Object-F.Htb key value pairs) h =
    let p = and_parts (same kind Htb && is_simple key && is_simple value) (list_all (pair_test key value) pairs) h.0 in
    let q = and_parts (same kind Htb && is_simple key) (is_simple value) p.0 in
    let e = (and_parts (same kind Htb) (is_simple key) q.0).0 in
    let p = own_kind kind Htb (Object-F.Htb key value pairs) refl e h.0 in (p.0, p.1, h.1)
to_whole kind (Object-F.Hda hda) h = absurd (let k = h.0 in cc)
to_whole kind (Object-F.Inf name value) h = absurd (let k = h.0 in cc)
to_whole kind (Object-F.Inl name items) h = absurd (let k = h.0 in cc)
to_whole kind (Object-F.Arr element values) h =
    let p = and_parts (same kind Arr && is_simple element) (list_all (simple_is element) values) h.0 in
    let e = (and_parts (same kind Arr) (is_simple element) p.0).0 in
    let p = own_kind kind Arr (Object-F.Arr element values) refl e h.0 in (p.0, p.1, h.1)

of_type : (kind : Kind) (layer : Layer) → kind_at layer ≡ kind → value_layer_is (kind_at layer) layer ≡ true → value_layer_is kind layer ≡ true
of_type kind layer e h = subst (λ (y : Kind). value_layer_is y layer ≡ true) e h

no_value : (own kind : Kind) → own ≡ kind → is_value own ≡ false → is_value kind ≡ true → ⊥
no_value own kind e none some = let k : is_value own ≡ true = ap is_value e ∙ some in let y : false ≡ true = sym none ∙ k in cc

from_whole : (kind : Kind) (layer : Layer) → is_value kind ≡ true → IsWholeLayer kind layer → IsValueLayer kind layer
from_whole kind (Object-F.Chr n) v h = (of_type kind (Object-F.Chr n) h.0 h.1, h.2)
from_whole kind (Object-F.Int n) v h = (of_type kind (Object-F.Int n) h.0 h.1, h.2)
from_whole kind (Object-F.Lon n) v h = (of_type kind (Object-F.Lon n) h.0 h.1, h.2)
from_whole kind (Object-F.Str t) v h = (of_type kind (Object-F.Str t) h.0 h.1, h.2)
from_whole kind (Object-F.Buf t) v h = (of_type kind (Object-F.Buf t) h.0 h.1, h.2)
from_whole kind (Object-F.Ptr n) v h = (of_type kind (Object-F.Ptr n) h.0 h.1, h.2)
from_whole kind (Object-F.Tim n) v h = (of_type kind (Object-F.Tim n) h.0 h.1, h.2)
from_whole kind (Object-F.Htb key value pairs) v h = (of_type kind (Object-F.Htb key value pairs) h.0 h.1, h.2)
from_whole kind (Object-F.Hda hda) v h = absurd (no_value Hda kind h.0 refl v)
from_whole kind (Object-F.Inf name value) v h = absurd (no_value Inf kind h.0 refl v)
from_whole kind (Object-F.Inl name items) v h = absurd (no_value Inl kind h.0 refl v)
from_whole kind (Object-F.Arr element values) v h = (of_type kind (Object-F.Arr element values) h.0 h.1, h.2)

spelt_same : (kind : Kind) (layer : Layer) → IsValueLayer kind layer → value_layer layer ≡ whole_layer layer
spelt_same kind (Object-F.Chr n) h = refl
spelt_same kind (Object-F.Int n) h = refl
spelt_same kind (Object-F.Lon n) h = refl
spelt_same kind (Object-F.Str t) h = refl
spelt_same kind (Object-F.Buf t) h = refl
spelt_same kind (Object-F.Ptr n) h = refl
spelt_same kind (Object-F.Tim n) h = refl
spelt_same kind (Object-F.Htb key value pairs) h = refl
spelt_same kind (Object-F.Hda hda) h = absurd (let k = h.0 in cc)
spelt_same kind (Object-F.Inf name value) h = absurd (let k = h.0 in cc)
spelt_same kind (Object-F.Inl name items) h = absurd (let k = h.0 in cc)
spelt_same kind (Object-F.Arr element values) h = refl

value_whole : (kind : Kind) (x : Object) → IsValue kind x → IsWhole kind x
unfolding value_is ValueWithin object_is ObjectWithin
value_whole kind x h = to_whole kind (out-Object x) h

whole_value : (kind : Kind) (x : Object) → is_value kind ≡ true → IsWhole kind x → IsValue kind x
unfolding value_is ValueWithin object_is ObjectWithin
whole_value kind x v h = from_whole kind (out-Object x) v h

spelt_value : (kind : Kind) (x : Object) → IsValue kind x → value_bytes x ≡ whole_bytes x
unfolding value_is ValueWithin value_bytes
spelt_value kind x h = spelt_same kind (out-Object x) h

plain_codec : (kind : Kind) → is_value kind ≡ true → Codec (value_at kind) whole_bytes (IsWhole kind)
plain_codec kind v =
    refit (value_at kind) whole_bytes (IsValue kind) (IsWhole kind) (value_whole kind) (λ x h. whole_value kind x v h)
    (respell (value_at kind) value_bytes whole_bytes (IsValue kind) (spelt_value kind) (value_codec kind))

-- ---- an object of each type

pub whole_codec : (kind : Kind) → Codec (whole_at kind) whole_bytes (IsWhole kind)
unfolding whole_at
whole_codec Chr = plain_codec Chr refl
whole_codec Int = plain_codec Int refl
whole_codec Lon = plain_codec Lon refl
whole_codec Str = plain_codec Str refl
whole_codec Buf = plain_codec Buf refl
whole_codec Ptr = plain_codec Ptr refl
whole_codec Tim = plain_codec Tim refl
whole_codec Htb = plain_codec Htb refl
whole_codec Hda = refit (whole_at Hda) whole_bytes MadeHda (IsWhole Hda) to_hda from_hda (mapped hda_at hda_bytes IsHda o.Hda whole_bytes hda_codec (λ h f. ap whole_layer (layer_of (Object-F.Hda h))))
whole_codec Inf = refit inf_at whole_bytes IsInf (IsWhole Inf) to_inf from_inf inf_codec
whole_codec Inl = refit inl_at whole_bytes IsList (IsWhole Inl) to_list from_list list_codec
whole_codec Arr = plain_codec Arr refl

abbrev pub IsObject : Object → Type 0
IsObject x = (object_is x ≡ true) × ObjectWithin x

pub object_codec : Codec object_at object_bytes IsObject
unfolding object_at object_bytes
object_codec =
    refit object_at object_bytes (λ x. (any_kind (kind_of x) ≡ true) × IsWhole (kind_of x) x) IsObject
    (λ x f. (f.1.1, f.1.2))
    (λ x f. (refl, (refl, f.0, f.1)))
    (chain_tied (kind_by any_kind) letters (λ kind. any_kind kind ≡ true) (λ whole kind rest. whole_at kind rest) whole_bytes IsWhole kind_of (λ kind x g. g.0) (kind_codec any_kind) (λ whole kind h. whole_codec kind))
