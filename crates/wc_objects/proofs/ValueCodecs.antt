-- Values of an hda, each read as it is spelt.
use Rattle.std.proofs.Common.{◌≡◌, Bool, true, false, ◌&&◌, List, refl, sym, ap, subst, ◌∙◌}
use Rattle.std.specs.List.{list_all, AllByRecursion}
use Rattle.std.proofs.lemmas.Bool.{and_parts, and_from}
use Rattle.wc_objects.specs.declared.kind.Kind.{Kind}
use Rattle.wc_objects.specs.declared.kind.Kind.TheVariants.{Chr, Int, Lon, Str, Buf, Ptr, Tim, Htb, Hda, Inf, Inl, Arr}
use Rattle.wc_objects.specs.declared.object.Object.{Object}
use Rattle.wc_objects.specs.declared.object.Object.TheViews.{out-Object}
use Rattle.wc_objects.specs.declared.object.Object.TheOpen.{Object-F}
use Rattle.wc_objects.specs.Kinds.{Layer, same, is_simple}
use Rattle.wc_objects.specs.Forms.{simple_is, value_layer_is, value_is}
use Rattle.wc_objects.specs.Within.{SimpleWithin, PairWithin, ValueLayerWithin, ValueWithin}
use Rattle.wc_objects.specs.Spelling.{simple_layer, simple_bytes, value_layer, value_bytes}
use Rattle.wc_objects.specs.Reading.{simple_at, value_at}
use Rattle.wc_objects.proofs.Codecs.{Codec, refit, respell}
use Rattle.wc_objects.proofs.CountCodecs.{Both, each_both, both_tests, both_facts, each_as}
use Rattle.wc_objects.proofs.SimpleCodecs.{IsSimpleLayer, IsSimple, simple_codec}
use Rattle.wc_objects.proofs.TableCodecs.{IsPair, IsTable, IsArray, TableOf, table_key, table_value, ArrayOf, array_kind, table_codec, array_codec}
use Rattle.wc_objects.proofs.Layers.{layer_of, is_object}

abbrev pub IsValueLayer : Kind → Layer → Type 0
IsValueLayer kind layer = (value_layer_is kind layer ≡ true) × ValueLayerWithin layer

abbrev pub IsValue : Kind → Object → Type 0
IsValue kind x = (value_is kind x ≡ true) × ValueWithin x

at_layer : (kind : Kind) (x : Object) (layer : Layer) → out-Object x ≡ layer → IsValueLayer kind layer → IsValue kind x
unfolding value_is ValueWithin
at_layer kind x layer e h = subst (λ (l : Layer). IsValueLayer kind l) (sym e) h

-- ---- tables

abbrev pub pair_test : Kind → Kind → Object × Object → Bool
pair_test key value p = simple_is key p.0 && simple_is value p.1

pair_is : (key value : Kind) (p : Object × Object) → Both (pair_test key value) PairWithin p → IsPair key value p
pair_is key value p f = let t = and_parts (simple_is key p.0) (simple_is value p.1) f.0 in ((t.0, f.1.0), (t.1, f.1.1))

is_pair : (key value : Kind) (p : Object × Object) → IsPair key value p → Both (pair_test key value) PairWithin p
is_pair key value p f = (and_from (simple_is key p.0) (simple_is value p.1) f.0.0 f.1.0, (f.0.1, f.1.1))

is_table : (key value : Kind) (pairs : List (Object × Object)) → is_simple key ≡ true → is_simple value ≡ true → AllByRecursion (IsPair key value) pairs → IsValueLayer Htb (Object-F.Htb key value pairs)
is_table key value pairs k v all =
    let each = each_as (IsPair key value) (Both (pair_test key value) PairWithin) (is_pair key value) pairs all in (
      and_from (is_simple key && is_simple value) (list_all (pair_test key value) pairs) (and_from (is_simple key) (is_simple value) k v) (both_tests (pair_test key value) PairWithin pairs each),
      both_facts (pair_test key value) PairWithin pairs each,
    )

pub to_table : (x : Object) → IsTable x → IsValue Htb x
to_table x f = at_layer Htb x (Object-F.Htb _ _ f.1.1.0) (ap out-Object f.1.1.1 ∙ layer_of (Object-F.Htb _ _ f.1.1.0)) (is_table _ _ f.1.1.0 f.0 f.1.0 f.1.1.2)

abbrev TableAt : Object → Layer → Type 0
TableAt x layer = (is_simple (table_key layer) ≡ true) × ((is_simple (table_value layer) ≡ true) × TableOf (table_key layer) (table_value layer) x)

table_from : (x : Object) (layer : Layer) → out-Object x ≡ layer → IsValueLayer Htb layer → TableAt x layer
table_from x (Object-F.Chr n) e h = absurd (let k = h.0 in cc)
table_from x (Object-F.Int n) e h = absurd (let k = h.0 in cc)
table_from x (Object-F.Lon n) e h = absurd (let k = h.0 in cc)
table_from x (Object-F.Str t) e h = absurd (let k = h.0 in cc)
table_from x (Object-F.Buf t) e h = absurd (let k = h.0 in cc)
table_from x (Object-F.Ptr n) e h = absurd (let k = h.0 in cc)
table_from x (Object-F.Tim n) e h = absurd (let k = h.0 in cc)
table_from x (Object-F.Htb key value pairs) e h =
    let p = and_parts (is_simple key && is_simple value) (list_all (pair_test key value) pairs) h.0 in
    let q = and_parts (is_simple key) (is_simple value) p.0 in
    (q.0, (q.1, (pairs, is_object x (Object-F.Htb key value pairs) e, each_as (Both (pair_test key value) PairWithin) (IsPair key value) (pair_is key value) pairs (each_both (pair_test key value) PairWithin pairs p.1 h.1))))
table_from x (Object-F.Hda hda) e h = absurd (let k = h.0 in cc)
table_from x (Object-F.Inf name value) e h = absurd (let k = h.0 in cc)
table_from x (Object-F.Inl name items) e h = absurd (let k = h.0 in cc)
table_from x (Object-F.Arr element values) e h = absurd (let k = h.0 in cc)

pub from_table : (x : Object) → IsValue Htb x → IsTable x
unfolding value_is ValueWithin
from_table x h = table_from x (out-Object x) refl h

-- ---- arrays

is_array : (kind : Kind) (values : List Object) → is_simple kind ≡ true → AllByRecursion (IsSimple kind) values → IsValueLayer Arr (Object-F.Arr kind values)
is_array kind values k all =
    (and_from (is_simple kind) (list_all (simple_is kind) values) k (both_tests (simple_is kind) SimpleWithin values all), both_facts (simple_is kind) SimpleWithin values all)

pub to_array : (x : Object) → IsArray x → IsValue Arr x
to_array x f = at_layer Arr x (Object-F.Arr _ f.1.0) (ap out-Object f.1.1 ∙ layer_of (Object-F.Arr _ f.1.0)) (is_array _ f.1.0 f.0 f.1.2)

abbrev ArrayAt : Object → Layer → Type 0
ArrayAt x layer = (is_simple (array_kind layer) ≡ true) × ArrayOf (array_kind layer) x

array_from : (x : Object) (layer : Layer) → out-Object x ≡ layer → IsValueLayer Arr layer → ArrayAt x layer
array_from x (Object-F.Chr n) e h = absurd (let k = h.0 in cc)
array_from x (Object-F.Int n) e h = absurd (let k = h.0 in cc)
array_from x (Object-F.Lon n) e h = absurd (let k = h.0 in cc)
array_from x (Object-F.Str t) e h = absurd (let k = h.0 in cc)
array_from x (Object-F.Buf t) e h = absurd (let k = h.0 in cc)
array_from x (Object-F.Ptr n) e h = absurd (let k = h.0 in cc)
array_from x (Object-F.Tim n) e h = absurd (let k = h.0 in cc)
array_from x (Object-F.Htb key value pairs) e h = absurd (let k = h.0 in cc)
array_from x (Object-F.Hda hda) e h = absurd (let k = h.0 in cc)
array_from x (Object-F.Inf name value) e h = absurd (let k = h.0 in cc)
array_from x (Object-F.Inl name items) e h = absurd (let k = h.0 in cc)
array_from x (Object-F.Arr kind values) e h =
    let p = and_parts (is_simple kind) (list_all (simple_is kind) values) h.0 in
    (p.0, (values, is_object x (Object-F.Arr kind values) e, each_both (simple_is kind) SimpleWithin values p.1 h.1))

pub from_array : (x : Object) → IsValue Arr x → IsArray x
unfolding value_is ValueWithin
from_array x h = array_from x (out-Object x) refl h

-- ---- values that hold no others

value_from : (kind : Kind) (layer : Layer) → IsSimpleLayer kind layer → IsValueLayer kind layer
value_from kind (Object-F.Chr n) h = h
value_from kind (Object-F.Int n) h = h
value_from kind (Object-F.Lon n) h = h
value_from kind (Object-F.Str t) h = h
value_from kind (Object-F.Buf t) h = h
value_from kind (Object-F.Ptr n) h = h
value_from kind (Object-F.Tim n) h = h
value_from kind (Object-F.Htb key value pairs) h = absurd (let k = h.0 in cc)
value_from kind (Object-F.Hda hda) h = h
value_from kind (Object-F.Inf name value) h = h
value_from kind (Object-F.Inl name items) h = h
value_from kind (Object-F.Arr element values) h = absurd (let k = h.0 in cc)

spelt_same : (kind : Kind) (layer : Layer) → IsSimpleLayer kind layer → simple_layer layer ≡ value_layer layer
spelt_same kind (Object-F.Chr n) h = refl
spelt_same kind (Object-F.Int n) h = refl
spelt_same kind (Object-F.Lon n) h = refl
spelt_same kind (Object-F.Str t) h = refl
spelt_same kind (Object-F.Buf t) h = refl
spelt_same kind (Object-F.Ptr n) h = refl
spelt_same kind (Object-F.Tim n) h = refl
spelt_same kind (Object-F.Htb key value pairs) h = absurd (let k = h.0 in cc)
spelt_same kind (Object-F.Hda hda) h = refl
spelt_same kind (Object-F.Inf name value) h = refl
spelt_same kind (Object-F.Inl name items) h = refl
spelt_same kind (Object-F.Arr element values) h = absurd (let k = h.0 in cc)

simple_from : (kind : Kind) (layer : Layer) → same kind Htb ≡ false → same kind Arr ≡ false → IsValueLayer kind layer → IsSimpleLayer kind layer
simple_from kind (Object-F.Chr n) a b h = h
simple_from kind (Object-F.Int n) a b h = h
simple_from kind (Object-F.Lon n) a b h = h
simple_from kind (Object-F.Str t) a b h = h
simple_from kind (Object-F.Buf t) a b h = h
simple_from kind (Object-F.Ptr n) a b h = h
simple_from kind (Object-F.Tim n) a b h = h
simple_from kind (Object-F.Htb key value pairs) a b h =
    let p = and_parts (same kind Htb && is_simple key && is_simple value) (list_all (pair_test key value) pairs) h.0 in
    let q = and_parts (same kind Htb && is_simple key) (is_simple value) p.0 in
    let r = and_parts (same kind Htb) (is_simple key) q.0 in
    absurd (let k = r.0 in cc)
simple_from kind (Object-F.Hda hda) a b h = h
simple_from kind (Object-F.Inf name value) a b h = h
simple_from kind (Object-F.Inl name items) a b h = h
simple_from kind (Object-F.Arr element values) a b h =
    let p = and_parts (same kind Arr && is_simple element) (list_all (simple_is element) values) h.0 in
    let q = and_parts (same kind Arr) (is_simple element) p.0 in
    absurd (let k = q.0 in cc)

simple_value : (kind : Kind) (x : Object) → IsSimple kind x → IsValue kind x
unfolding simple_is SimpleWithin value_is ValueWithin
simple_value kind x h = value_from kind (out-Object x) h

value_simple : (kind : Kind) (x : Object) → same kind Htb ≡ false → same kind Arr ≡ false → IsValue kind x → IsSimple kind x
unfolding simple_is SimpleWithin value_is ValueWithin
value_simple kind x a b h = simple_from kind (out-Object x) a b h

spelt_value : (kind : Kind) (x : Object) → IsSimple kind x → simple_bytes x ≡ value_bytes x
unfolding simple_is SimpleWithin simple_bytes value_bytes
spelt_value kind x h = spelt_same kind (out-Object x) h

other_codec : (kind : Kind) → same kind Htb ≡ false → same kind Arr ≡ false → Codec (simple_at kind) value_bytes (IsValue kind)
other_codec kind a b =
    refit (simple_at kind) value_bytes (IsSimple kind) (IsValue kind) (simple_value kind) (λ x h. value_simple kind x a b h)
    (respell (simple_at kind) simple_bytes value_bytes (IsSimple kind) (spelt_value kind) (simple_codec kind))

-- ---- a value of each type

pub value_codec : (kind : Kind) → Codec (value_at kind) value_bytes (IsValue kind)
unfolding value_at
value_codec Chr = other_codec Chr refl refl
value_codec Int = other_codec Int refl refl
value_codec Lon = other_codec Lon refl refl
value_codec Str = other_codec Str refl refl
value_codec Buf = other_codec Buf refl refl
value_codec Ptr = other_codec Ptr refl refl
value_codec Tim = other_codec Tim refl refl
value_codec Htb = refit (value_at Htb) value_bytes IsTable (IsValue Htb) to_table from_table table_codec
value_codec Hda = other_codec Hda refl refl
value_codec Inf = other_codec Inf refl refl
value_codec Inl = other_codec Inl refl refl
value_codec Arr = refit (value_at Arr) value_bytes IsArray (IsValue Arr) to_array from_array array_codec
