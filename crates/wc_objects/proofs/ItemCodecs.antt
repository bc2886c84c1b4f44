-- Items of an hda, each read as it is spelt.
use Rattle.std.proofs.Common.{◌≡◌, ℕ, ◌<◌, true, eqb, List, [], ◌∷◌, ◌++◌, length, drop, get_or, Option, Some, refl, sym, ap, subst, ◌∙◌, arith}
use Rattle.std.specs.Prelude.{pos}
use Rattle.std.specs.List.{AllByRecursion, flat_map}
use Rattle.std.proofs.lemmas.Bool.{and_parts, and_from, eqb-true, eq-eqb}
use Rattle.std.proofs.lemmas.List.{length-append}
use Rattle.std.proofs.lemmas.List.Concat.{flat_map-cons}
use Rattle.wc_objects.specs.declared.kind.Kind.{Kind}
use Rattle.wc_objects.specs.declared.object.Object.{Object}
use Rattle.wc_objects.specs.declared.object.Object.TheVariants as o
use Rattle.wc_objects.specs.declared.object.HdaItem.{HdaItem, out-HdaItem}
use Rattle.wc_objects.specs.declared.object.Object.TheViews.{out-roll-HdaItem, roll-out-HdaItem}
use Rattle.wc_objects.specs.Forms.{value_is, values_are, item_of}
use Rattle.wc_objects.specs.Within.{PointerWithin, ValueWithin, ItemWithin}
use Rattle.wc_objects.specs.Spelling.{pointer_bytes, value_bytes, item_bytes}
use Rattle.wc_objects.specs.Reading.{◌>>=◌, made_of, times, pointer_at, value_at, values_at, item_at}
use Rattle.wc_objects.specs.Reading.{item_of as made_item}
use Rattle.wc_objects.proofs.Codecs.{IsBytes, Codec, done, value_is as value_same, rest_is, mapped, refit, respell, chain_tied, AreAll, all_times}
use Rattle.wc_objects.proofs.NumberCodecs.{pointer_codec}
use Rattle.wc_objects.proofs.CountCodecs.{Both}
use Rattle.wc_objects.proofs.ValueCodecs.{IsValue, value_codec}

-- ---- a value for each type

abbrev pub AreValues : List Kind → List Object → Type 0
AreValues kinds values = (values_are kinds values ≡ true) × AllByRecursion ValueWithin values

abbrev first_of : List Object → Object
first_of values = get_or values 0 (o.Int (pos 0))

abbrev spelt_others : List Object → List ℕ
spelt_others values = flat_map value_bytes (drop 1 values)

abbrev AfterFirst : List Kind → Object → List Object → Type 0
AfterFirst kinds v values = (others : List Object) × (values ≡ v ∷ others) × AreValues kinds others

abbrev FirstThen : Kind → List Kind → List Object → Type 0
FirstThen kind kinds values = IsValue kind (first_of values) × AfterFirst kinds (first_of values) values

first_spelt : (kind : Kind) (kinds : List Kind) (values : List Object) → FirstThen kind kinds values → value_bytes (first_of values) ++ spelt_others values ≡ flat_map value_bytes values
first_spelt kind kinds [] f = absurd (let k = f.1.1 in cc)
first_spelt kind kinds (v ∷ values) f = sym (flat_map-cons value_bytes v values)

to_values : (kind : Kind) (kinds : List Kind) (values : List Object) → FirstThen kind kinds values → AreValues (kind ∷ kinds) values
to_values kind kinds [] f = absurd (let k = f.1.1 in cc)
to_values kind kinds (v ∷ values) f =
    let rest : values ≡ f.1.0 = ap (drop 1) f.1.1 in
    let others = subst (λ (vs : List Object). AreValues kinds vs) (sym rest) f.1.2 in
    (and_from (value_is kind v) (values_are kinds values) f.0.0 others.0, (f.0.1, others.1))

from_values : (kind : Kind) (kinds : List Kind) (values : List Object) → AreValues (kind ∷ kinds) values → FirstThen kind kinds values
from_values kind kinds [] f = absurd (let k = f.0 in cc)
from_values kind kinds (v ∷ values) f = let p = and_parts (value_is kind v) (values_are kinds values) f.0 in ((p.0, f.1.0), (values, refl, (p.1, f.1.1)))

no_values : (values : List Object) → AreValues [] values → [] ≡ values
no_values [] f = refl
no_values (v ∷ values) f = absurd (let k = f.0 in cc)

none_codec : Codec (values_at []) (flat_map value_bytes) (AreValues [])
unfolding values_at
none_codec = record {
  takes = λ bytes xs rest fits e.
      let none : [] ≡ xs = value_same [] xs bytes rest e in
      let left : bytes ≡ rest = rest_is [] xs bytes rest e in
      (left ∙ ap (λ (all : List Object). flat_map value_bytes all ++ rest) none, subst IsBytes left fits, subst (λ (all : List Object). AreValues [] all) none (refl, tt));
  again = λ xs rest fits short.
      let none = no_values xs fits in
      subst (λ (all : List Object). values_at [] (flat_map value_bytes all ++ rest) ≡ done all rest) none refl;
}

some_codec : (kind : Kind) (kinds : List Kind) → Codec (values_at kinds) (flat_map value_bytes) (AreValues kinds) → Codec (values_at (kind ∷ kinds)) (flat_map value_bytes) (AreValues (kind ∷ kinds))
unfolding values_at
some_codec kind kinds c =
    refit (values_at (kind ∷ kinds)) (flat_map value_bytes) (FirstThen kind kinds) (AreValues (kind ∷ kinds)) (to_values kind kinds) (from_values kind kinds)
    (respell (values_at (kind ∷ kinds)) (λ values. value_bytes (first_of values) ++ spelt_others values) (flat_map value_bytes) (FirstThen kind kinds) (first_spelt kind kinds)
    (chain_tied (value_at kind) value_bytes (IsValue kind) (λ whole v rest. values_at kinds rest >>= made_of (λ others. v ∷ others)) spelt_others (AfterFirst kinds) first_of
    (λ v values g. ap first_of g.1) (value_codec kind)
    (λ whole v h. mapped (values_at kinds) (flat_map value_bytes) (AreValues kinds) (λ others. v ∷ others) spelt_others c (λ others f. refl))))

pub values_codec : (kinds : List Kind) → Codec (values_at kinds) (flat_map value_bytes) (AreValues kinds)
values_codec [] = none_codec
values_codec (kind ∷ kinds) = some_codec kind kinds (values_codec kinds)

-- ---- an item

abbrev pub IsItem : ℕ → Option (List Kind) → HdaItem → Type 0
IsItem depth kinds = Both (item_of depth kinds) ItemWithin

abbrev ItemOf : List Kind → List ℕ → HdaItem → Type 0
ItemOf kinds pointers item = (values : List Object) × (item ≡ made_item pointers values) × AreValues kinds values

abbrev pointers_of : HdaItem → List ℕ
pointers_of item = (out-HdaItem item).pointers

abbrev spelt_item_values : HdaItem → List ℕ
spelt_item_values item = flat_map value_bytes (out-HdaItem item).values

abbrev MadeItem : ℕ → List Kind → HdaItem → Type 0
MadeItem depth kinds item = AreAll depth PointerWithin (pointers_of item) × ItemOf kinds (pointers_of item) item

out_item : (pointers : List ℕ) (values : List Object) → out-HdaItem (made_item pointers values) ≡ record { pointers = pointers; values = values }
out_item pointers values = out-roll-HdaItem (record { pointers = pointers; values = values })

to_item : (depth : ℕ) (kinds : List Kind) (item : HdaItem) → MadeItem depth kinds item → IsItem depth (Some kinds) item
unfolding item_of ItemWithin
to_item depth kinds item f =
    let values : (out-HdaItem item).values ≡ f.1.0 = ap (λ (x : HdaItem). (out-HdaItem x).values) f.1.1 ∙ ap (λ x. x.values) (out_item (pointers_of item) f.1.0) in
    let are = subst (λ (vs : List Object). AreValues kinds vs) (sym values) f.1.2 in
    (and_from (eqb (length (pointers_of item)) depth) (values_are kinds (out-HdaItem item).values) (eq-eqb (length (pointers_of item)) depth f.0.0) are.0, (f.0.1, are.1))

from_item : (depth : ℕ) (kinds : List Kind) (item : HdaItem) → IsItem depth (Some kinds) item → MadeItem depth kinds item
unfolding item_of ItemWithin
from_item depth kinds item f =
    let p = and_parts (eqb (length (pointers_of item)) depth) (values_are kinds (out-HdaItem item).values) f.0 in
    ((eqb-true (length (pointers_of item)) depth p.0, f.1.0), ((out-HdaItem item).values, sym (roll-out-HdaItem item), (p.1, f.1.1)))

pub item_codec : (depth : ℕ) (kinds : List Kind) → Codec (item_at depth kinds) item_bytes (IsItem depth (Some kinds))
unfolding item_at item_bytes
item_codec depth kinds =
    refit (item_at depth kinds) item_bytes (MadeItem depth kinds) (IsItem depth (Some kinds)) (to_item depth kinds) (from_item depth kinds)
    (chain_tied (times depth pointer_at) (flat_map pointer_bytes) (AreAll depth PointerWithin) (λ whole pointers rest. values_at kinds rest >>= made_of (made_item pointers)) spelt_item_values (ItemOf kinds) pointers_of
    (λ pointers item g. ap pointers_of g.1 ∙ ap (λ x. x.pointers) (out_item pointers g.0)) (all_times depth pointer_at pointer_bytes PointerWithin pointer_codec)
    (λ whole pointers h. mapped (values_at kinds) (flat_map value_bytes) (AreValues kinds) (made_item pointers) spelt_item_values (values_codec kinds)
    (λ values f. ap (λ x. flat_map value_bytes x.values) (out_item pointers values))))

pointers_some : (pointers : List ℕ) → 0 < length pointers → 0 < length (flat_map pointer_bytes pointers)
pointers_some [] h = absurd (omega arith)
pointers_some (p ∷ pointers) h = omega (arith, ap length (flat_map-cons pointer_bytes p pointers))

-- an item on a path has a pointer
pub item_some : (depth : ℕ) (kinds : List Kind) (item : HdaItem) → 0 < depth → IsItem depth (Some kinds) item → 0 < length (item_bytes item)
unfolding item_bytes
item_some depth kinds item positive f =
    let long = (from_item depth kinds item f).0.0 in
    omega (arith, length-append (flat_map pointer_bytes (pointers_of item)) (spelt_item_values item), pointers_some (pointers_of item) (omega (arith, long, positive)))
