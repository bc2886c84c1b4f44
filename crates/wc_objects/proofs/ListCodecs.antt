-- Infos and lists of variables, each read as it is spelt.
use Rattle.std.proofs.Common.{◌≡◌, ℕ, ◌<◌, true, List, [], ◌++◌, length, Option, Some, None, refl, sym, ap, subst, ◌∙◌, arith}
use Rattle.std.specs.List.{AllByRecursion, flat_map}
use Rattle.std.specs.Str.{is_utf8}
use Rattle.std.proofs.lemmas.Bool.{and_parts, and_from}
use Rattle.std.proofs.lemmas.List.{length-append}
use Rattle.wc_objects.specs.declared.kind.Kind.{Kind}
use Rattle.wc_objects.specs.declared.kind.Kind.TheVariants.{Chr, Int, Lon, Str, Buf, Ptr, Tim, Htb, Hda, Inf, Inl, Arr}
use Rattle.wc_objects.specs.declared.object.Object.{Object}
use Rattle.wc_objects.specs.declared.object.InlVar.{InlVar, out-InlVar}
use Rattle.wc_objects.specs.declared.object.Object.TheViews.{out-Object, out-roll-InlVar, roll-out-InlVar}
use Rattle.wc_objects.specs.declared.object.Object.TheOpen.{Object-F}
use Rattle.wc_objects.specs.declared.object.Object.TheVariants as o
use Rattle.wc_objects.specs.declared.fault.Rule.TheVariants.{Plain}
use Rattle.wc_objects.specs.Kinds.{Layer, letters, is_simple, kind_at, kind_of}
use Rattle.wc_objects.specs.Forms.{simple_is, variable_is}
use Rattle.wc_objects.specs.Within.{VariableWithin}
use Rattle.wc_objects.specs.Spelling.{be32, text_bytes, with_count, simple_bytes, variable_bytes, whole_layer, whole_bytes}
use Rattle.wc_objects.specs.Reading.{◌>>=◌, made_of, keeps, name_at, text_at, kind_by, simple_at, counted_at, variable_of, variable_at, inf_at, inl_at}
use Rattle.wc_objects.proofs.Codecs.{Codec, mapped, refit, respell, chain_tied}
use Rattle.wc_objects.proofs.FieldCodecs.{Passes, spelt_name, name_codec, IsText, text_codec}
use Rattle.wc_objects.proofs.NumberCodecs.{kind_codec}
use Rattle.wc_objects.proofs.CountCodecs.{counted_codec}
use Rattle.wc_objects.proofs.SimpleCodecs.{IsSimple, MadeSimple, from_simple, simple_codec}
use Rattle.wc_objects.proofs.Layers.{object_of, layer_of}

-- ---- infos

abbrev pub inf_name : Layer → List ℕ
inf_name (Object-F.Inf (Some name) value) = name
inf_name _ = []

abbrev inf_value : Layer → Option (List ℕ)
inf_value (Object-F.Inf name value) = value
inf_value _ = None

abbrev pub InfOf : List ℕ → Object → Type 0
InfOf name x = (value : Option (List ℕ)) × (x ≡ o.Inf (Some name) value) × IsText (keeps Plain) value

abbrev pub IsInf : Object → Type 0
IsInf x = Passes (keeps Plain) (inf_name (out-Object x)) × InfOf (inf_name (out-Object x)) x

inf_layer : (name : List ℕ) (x : Object) → (f : InfOf name x) → out-Object x ≡ Object-F.Inf (Some name) f.0
inf_layer name x f = ap out-Object f.1 ∙ layer_of (Object-F.Inf (Some name) f.0)

abbrev spelt_inf : Layer → List ℕ
spelt_inf layer = spelt_name (inf_name layer) ++ text_bytes (inf_value layer)

pub inf_codec : Codec inf_at whole_bytes IsInf
unfolding inf_at text_bytes
inf_codec =
    respell inf_at (λ x. spelt_inf (out-Object x)) whole_bytes IsInf
    (λ x f. let e = inf_layer (inf_name (out-Object x)) x f.1 in ap spelt_inf e ∙ sym (ap whole_layer e))
    (chain_tied name_at spelt_name (Passes (keeps Plain)) (λ whole name rest. text_at rest >>= made_of (o.Inf (Some name))) (λ x. text_bytes (inf_value (out-Object x))) InfOf (λ x. inf_name (out-Object x))
    (λ name x f. ap inf_name (inf_layer name x f)) (name_codec (keeps Plain))
    (λ whole name h. mapped text_at text_bytes (IsText (keeps Plain)) (o.Inf (Some name)) (λ x. text_bytes (inf_value (out-Object x))) (text_codec (keeps Plain))
    (λ value f. ap (λ (l : Layer). text_bytes (inf_value l)) (layer_of (Object-F.Inf (Some name) value)))))

-- ---- variables

kind_is : (x : Object) (layer : Layer) → x ≡ object_of layer → kind_of x ≡ kind_at layer
kind_is x layer e = ap kind_of e ∙ ap kind_at (layer_of layer)

made_kind : (kind : Kind) (x : Object) → MadeSimple kind x → kind_of x ≡ kind
made_kind Chr x m = kind_is x (Object-F.Chr m.0) m.1
made_kind Int x m = kind_is x (Object-F.Int m.0) m.1
made_kind Lon x m = kind_is x (Object-F.Lon m.0) m.1
made_kind Str x m = kind_is x (Object-F.Str m.0) m.1
made_kind Buf x m = kind_is x (Object-F.Buf m.0) m.1
made_kind Ptr x m = kind_is x (Object-F.Ptr m.0) m.1
made_kind Tim x m = kind_is x (Object-F.Tim m.0) m.1
made_kind Htb x m = absurd m
made_kind Hda x m = absurd m
made_kind Inf x m = absurd m
made_kind Inl x m = absurd m
made_kind Arr x m = absurd m

made_simple : (kind : Kind) (x : Object) → MadeSimple kind x → is_simple kind ≡ true
made_simple Chr x m = refl
made_simple Int x m = refl
made_simple Lon x m = refl
made_simple Str x m = refl
made_simple Buf x m = refl
made_simple Ptr x m = refl
made_simple Tim x m = refl
made_simple Htb x m = absurd m
made_simple Hda x m = absurd m
made_simple Inf x m = absurd m
made_simple Inl x m = absurd m
made_simple Arr x m = absurd m

abbrev name_of : InlVar → List ℕ
name_of v = (out-InlVar v).name

abbrev value_kind : InlVar → Kind
value_kind v = kind_of (out-InlVar v).value

abbrev spelt_value : InlVar → List ℕ
spelt_value v = simple_bytes (out-InlVar v).value

abbrev VariableOf : List ℕ → Kind → InlVar → Type 0
VariableOf name kind v = (value : Object) × (v ≡ variable_of name value) × IsSimple kind value

abbrev AfterName : List ℕ → InlVar → Type 0
AfterName name v = (is_simple (value_kind v) ≡ true) × VariableOf name (value_kind v) v

abbrev MadeVariable : InlVar → Type 0
MadeVariable v = Passes (keeps Plain) (name_of v) × AfterName (name_of v) v

abbrev pub IsVariable : InlVar → Type 0
IsVariable v = (variable_is v ≡ true) × VariableWithin v

out_variable : (name : List ℕ) (value : Object) → out-InlVar (variable_of name value) ≡ record { name = name; value = value }
out_variable name value = out-roll-InlVar (record { name = name; value = value })

value_is_of : (name : List ℕ) (kind : Kind) (v : InlVar) → (f : VariableOf name kind v) → (out-InlVar v).value ≡ f.0
value_is_of name kind v f = ap (λ (x : InlVar). (out-InlVar x).value) f.1 ∙ ap (λ x. x.value) (out_variable name f.0)

after_name : (name : List ℕ) → Codec (λ bytes. kind_by is_simple bytes >>= λ kind. simple_at kind.0 kind.1 >>= made_of (variable_of name)) (λ v. letters (value_kind v) ++ spelt_value v) (AfterName name)
after_name name =
    chain_tied (kind_by is_simple) letters (λ kind. is_simple kind ≡ true) (λ whole kind rest. simple_at kind rest >>= made_of (variable_of name)) spelt_value (VariableOf name) value_kind
    (λ kind v f. ap kind_of (value_is_of name kind v f) ∙ made_kind kind f.0 (from_simple kind f.0 f.2)) (kind_codec is_simple)
    (λ whole kind h. mapped (simple_at kind) simple_bytes (IsSimple kind) (variable_of name) spelt_value (simple_codec kind) (λ value f. ap (λ x. simple_bytes x.value) (out_variable name value)))

to_variable : (v : InlVar) → MadeVariable v → IsVariable v
unfolding variable_is VariableWithin
to_variable v f =
    let own = subst (λ (x : Object). IsSimple (value_kind v) x) (sym (value_is_of (name_of v) (value_kind v) v f.1.1)) f.1.1.2 in
    (and_from (is_utf8 (name_of v)) (simple_is (value_kind v) (out-InlVar v).value) f.0 own.0, own.1)

from_variable : (v : InlVar) → IsVariable v → MadeVariable v
unfolding variable_is VariableWithin
from_variable v f =
    let value = (out-InlVar v).value in
    let p = and_parts (is_utf8 (name_of v)) (simple_is (value_kind v) value) f.0 in
    (p.0, (made_simple (value_kind v) value (from_simple (value_kind v) value (p.1, f.1)), (value, sym (roll-out-InlVar v), (p.1, f.1))))

pub variable_codec : Codec variable_at variable_bytes IsVariable
unfolding variable_at variable_bytes text_bytes
variable_codec =
    refit variable_at variable_bytes MadeVariable IsVariable to_variable from_variable
    (chain_tied name_at spelt_name (Passes (keeps Plain)) (λ whole name rest. kind_by is_simple rest >>= λ kind. simple_at kind.0 kind.1 >>= made_of (variable_of name)) (λ v. letters (value_kind v) ++ spelt_value v) AfterName name_of
    (λ name v f. ap name_of f.1.1 ∙ ap (λ x. x.name) (out_variable name f.1.0)) (name_codec (keeps Plain)) (λ whole name h. after_name name))

-- ---- lists of them

length-be32 : (n : ℕ) → length (be32 n) ≡ 4
unfolding be32
length-be32 n = refl

counted_some : {A : Type 0} (spell : A → List ℕ) (xs : List A) → 0 < length (with_count spell xs)
counted_some spell xs = omega (arith, length-append (be32 (length xs)) (flat_map spell xs), length-be32 (length xs))

variable_some : (v : InlVar) → 0 < length (variable_bytes v)
unfolding variable_bytes text_bytes be32
variable_some v = omega arith

abbrev pub AreVariables : List InlVar → Type 0
AreVariables = AllByRecursion IsVariable

abbrev pub list_name : Layer → List ℕ
list_name (Object-F.Inl name items) = name
list_name _ = []

abbrev list_items : Layer → List (List InlVar)
list_items (Object-F.Inl name items) = items
list_items _ = []

abbrev pub ListOf : List ℕ → Object → Type 0
ListOf name x = (items : List (List InlVar)) × (x ≡ o.Inl name items) × AllByRecursion AreVariables items

abbrev pub IsList : Object → Type 0
IsList x = Passes (keeps Plain) (list_name (out-Object x)) × ListOf (list_name (out-Object x)) x

list_layer : (name : List ℕ) (x : Object) → (f : ListOf name x) → out-Object x ≡ Object-F.Inl name f.0
list_layer name x f = ap out-Object f.1 ∙ layer_of (Object-F.Inl name f.0)

abbrev spelt_items : Layer → List ℕ
spelt_items layer = with_count (with_count variable_bytes) (list_items layer)

abbrev spelt_list : Layer → List ℕ
spelt_list layer = spelt_name (list_name layer) ++ spelt_items layer

pub list_codec : Codec inl_at whole_bytes IsList
unfolding inl_at text_bytes
list_codec =
    respell inl_at (λ x. spelt_list (out-Object x)) whole_bytes IsList
    (λ x f. let e = list_layer (list_name (out-Object x)) x f.1 in ap spelt_list e ∙ sym (ap whole_layer e))
    (chain_tied name_at spelt_name (Passes (keeps Plain)) (λ whole name rest. counted_at (counted_at variable_at) rest >>= made_of (o.Inl name)) (λ x. spelt_items (out-Object x)) ListOf (λ x. list_name (out-Object x))
    (λ name x f. ap list_name (list_layer name x f)) (name_codec (keeps Plain))
    (λ whole name h. mapped (counted_at (counted_at variable_at)) (with_count (with_count variable_bytes)) (AllByRecursion AreVariables) (o.Inl name) (λ x. spelt_items (out-Object x))
    (counted_codec (counted_at variable_at) (with_count variable_bytes) AreVariables (λ item f. counted_some variable_bytes item)
    (counted_codec variable_at variable_bytes IsVariable (λ v f. variable_some v) variable_codec))
    (λ items f. ap spelt_items (layer_of (Object-F.Inl name items)))))
