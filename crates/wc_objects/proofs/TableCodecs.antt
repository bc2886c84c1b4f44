-- Tables and arrays, each read as it is spelt.
use Rattle.std.proofs.Common.{◌≡◌, ℕ, ◌<◌, true, List, [], ◌++◌, length, refl, sym, ap, subst, ◌∙◌, arith}
use Rattle.std.specs.List.{AllByRecursion}
use Rattle.std.proofs.lemmas.List.{length-append}
use Rattle.wc_objects.specs.declared.kind.Kind.{Kind}
use Rattle.wc_objects.specs.declared.kind.Kind.TheVariants.{Chr}
use Rattle.wc_objects.specs.declared.object.Object.{Object}
use Rattle.wc_objects.specs.declared.object.Object.TheViews.{out-Object}
use Rattle.wc_objects.specs.declared.object.Object.TheOpen.{Object-F}
use Rattle.wc_objects.specs.declared.object.Object.TheVariants as o
use Rattle.wc_objects.specs.Kinds.{Layer, letters, is_simple}
use Rattle.wc_objects.specs.Spelling.{simple_bytes, pair_bytes, with_count, value_layer, value_bytes}
use Rattle.wc_objects.specs.Reading.{◌>>=◌, made_of, kind_by, counted_at, simple_at, pair_at, table_at, array_at}
use Rattle.wc_objects.proofs.Codecs.{Codec, mapped, refit, respell, chain_tied}
use Rattle.wc_objects.proofs.NumberCodecs.{kind_codec}
use Rattle.wc_objects.proofs.CountCodecs.{counted_codec}
use Rattle.wc_objects.proofs.SimpleCodecs.{IsSimple, from_simple, simple_some, simple_codec}
use Rattle.wc_objects.proofs.Layers.{layer_of}

pub some_simple : (kind : Kind) (x : Object) → IsSimple kind x → 0 < length (simple_bytes x)
some_simple kind x f = simple_some kind x (from_simple kind x f)

-- ---- pairs

abbrev pub IsPair : Kind → Kind → Object × Object → Type 0
IsPair key value p = IsSimple key p.0 × IsSimple value p.1

abbrev AfterKey : Kind → Object → Object × Object → Type 0
AfterKey value k p = (v : Object) × (p ≡ (k, v)) × IsSimple value v

pub pair_codec : (key value : Kind) → Codec (pair_at key value) pair_bytes (IsPair key value)
unfolding pair_at
pair_codec key value =
    refit (λ bytes. simple_at key bytes >>= λ k. simple_at value k.1 >>= made_of (λ v. (k.0, v))) pair_bytes (λ p. IsSimple key p.0 × AfterKey value p.0 p) (IsPair key value)
    (λ p f. (f.0, subst (λ (x : Object). IsSimple value x) (sym (ap (λ (q : Object × Object). q.1) f.1.1)) f.1.2))
    (λ p f. (f.0, (p.1, refl, f.1)))
    (chain_tied (simple_at key) simple_bytes (IsSimple key) (λ whole k rest. simple_at value rest >>= made_of (λ v. (k, v))) (λ p. simple_bytes p.1) (AfterKey value) (λ p. p.0)
    (λ k p g. ap (λ (q : Object × Object). q.0) g.1) (simple_codec key)
    (λ whole k h. mapped (simple_at value) simple_bytes (IsSimple value) (λ v. (k, v)) (λ p. simple_bytes p.1) (simple_codec value) (λ v f. refl)))

some_pair : (key value : Kind) (p : Object × Object) → IsPair key value p → 0 < length (pair_bytes p)
some_pair key value p f = omega (arith, length-append (simple_bytes p.0) (simple_bytes p.1), some_simple key p.0 f.0)

-- ---- tables

abbrev pub table_key : Layer → Kind
table_key (Object-F.Htb key value pairs) = key
table_key _ = Chr

abbrev pub table_value : Layer → Kind
table_value (Object-F.Htb key value pairs) = value
table_value _ = Chr

abbrev table_pairs : Layer → List (Object × Object)
table_pairs (Object-F.Htb key value pairs) = pairs
table_pairs _ = []

abbrev pub TableOf : Kind → Kind → Object → Type 0
TableOf key value x = (pairs : List (Object × Object)) × (x ≡ o.Htb key value pairs) × AllByRecursion (IsPair key value) pairs

table_layer : (key value : Kind) (x : Object) → (t : TableOf key value x) → out-Object x ≡ Object-F.Htb key value t.0
table_layer key value x t = ap out-Object t.1 ∙ layer_of (Object-F.Htb key value t.0)

abbrev spelt_pairs : Object → List ℕ
spelt_pairs x = with_count pair_bytes (table_pairs (out-Object x))

abbrev spelt_value : Object → List ℕ
spelt_value x = letters (table_value (out-Object x)) ++ spelt_pairs x

abbrev spelt_table : Layer → List ℕ
spelt_table layer = letters (table_key layer) ++ (letters (table_value layer) ++ with_count pair_bytes (table_pairs layer))

abbrev pub AfterTableKey : Kind → Object → Type 0
AfterTableKey key x = (is_simple (table_value (out-Object x)) ≡ true) × TableOf key (table_value (out-Object x)) x

abbrev pub IsTable : Object → Type 0
IsTable x = (is_simple (table_key (out-Object x)) ≡ true) × AfterTableKey (table_key (out-Object x)) x

after_key : (key : Kind) → Codec (λ bytes. kind_by is_simple bytes >>= λ value. counted_at (pair_at key value.0) value.1 >>= made_of (o.Htb key value.0)) spelt_value (AfterTableKey key)
after_key key =
    chain_tied (kind_by is_simple) letters (λ value. is_simple value ≡ true) (λ whole value rest. counted_at (pair_at key value) rest >>= made_of (o.Htb key value)) spelt_pairs (TableOf key) (λ x. table_value (out-Object x))
    (λ value x t. ap table_value (table_layer key value x t)) (kind_codec is_simple)
    (λ whole value h. mapped (counted_at (pair_at key value)) (with_count pair_bytes) (AllByRecursion (IsPair key value)) (o.Htb key value) spelt_pairs
    (counted_codec (pair_at key value) pair_bytes (IsPair key value) (some_pair key value) (pair_codec key value))
    (λ pairs f. ap (λ (l : Layer). with_count pair_bytes (table_pairs l)) (layer_of (Object-F.Htb key value pairs))))

pub table_codec : Codec table_at value_bytes IsTable
unfolding table_at value_bytes
table_codec =
    respell table_at (λ x. spelt_table (out-Object x)) value_bytes IsTable
    (λ x f. let e = table_layer (table_key (out-Object x)) (table_value (out-Object x)) x f.1.1 in ap spelt_table e ∙ sym (ap value_layer e))
    (chain_tied (kind_by is_simple) letters (λ key. is_simple key ≡ true) (λ whole key rest. kind_by is_simple rest >>= λ value. counted_at (pair_at key value.0) value.1 >>= made_of (o.Htb key value.0)) spelt_value AfterTableKey
    (λ x. table_key (out-Object x)) (λ key x t. ap table_key (table_layer key (table_value (out-Object x)) x t.1)) (kind_codec is_simple) (λ whole key h. after_key key))

-- ---- arrays

abbrev pub array_kind : Layer → Kind
array_kind (Object-F.Arr kind values) = kind
array_kind _ = Chr

abbrev array_values : Layer → List Object
array_values (Object-F.Arr kind values) = values
array_values _ = []

abbrev pub ArrayOf : Kind → Object → Type 0
ArrayOf kind x = (values : List Object) × (x ≡ o.Arr kind values) × AllByRecursion (IsSimple kind) values

array_layer : (kind : Kind) (x : Object) → (t : ArrayOf kind x) → out-Object x ≡ Object-F.Arr kind t.0
array_layer kind x t = ap out-Object t.1 ∙ layer_of (Object-F.Arr kind t.0)

abbrev spelt_values : Object → List ℕ
spelt_values x = with_count simple_bytes (array_values (out-Object x))

abbrev spelt_array : Layer → List ℕ
spelt_array layer = letters (array_kind layer) ++ with_count simple_bytes (array_values layer)

abbrev pub IsArray : Object → Type 0
IsArray x = (is_simple (array_kind (out-Object x)) ≡ true) × ArrayOf (array_kind (out-Object x)) x

pub array_codec : Codec array_at value_bytes IsArray
unfolding array_at value_bytes
array_codec =
    respell array_at (λ x. spelt_array (out-Object x)) value_bytes IsArray
    (λ x f. let e = array_layer (array_kind (out-Object x)) x f.1 in ap spelt_array e ∙ sym (ap value_layer e))
    (chain_tied (kind_by is_simple) letters (λ kind. is_simple kind ≡ true) (λ whole kind rest. counted_at (simple_at kind) rest >>= made_of (o.Arr kind)) spelt_values ArrayOf
    (λ x. array_kind (out-Object x)) (λ kind x t. ap array_kind (array_layer kind x t)) (kind_codec is_simple)
    (λ whole kind h. mapped (counted_at (simple_at kind)) (with_count simple_bytes) (AllByRecursion (IsSimple kind)) (o.Arr kind) spelt_values
    (counted_codec (simple_at kind) simple_bytes (IsSimple kind) (some_simple kind) (simple_codec kind))
    (λ values f. ap (λ (l : Layer). with_count simple_bytes (array_values l)) (layer_of (Object-F.Arr kind values)))))
