-- Objects that are no values: what an hdata, an info or a list of variables is.
use Rattle.std.proofs.Common.{◌≡◌, Bool, true, List, Some, None, refl, sym, ap, subst, ◌∙◌}
use Rattle.std.specs.List.{list_all, AllByRecursion}
use Rattle.std.specs.Str.{is_utf8}
use Rattle.std.proofs.lemmas.Bool.{and_parts, and_from}
use Rattle.wc_objects.specs.declared.kind.Kind.{Kind}
use Rattle.wc_objects.specs.declared.kind.Kind.TheVariants.{Hda, Inf, Inl}
use Rattle.wc_objects.specs.declared.object.Object.{Object}
use Rattle.wc_objects.specs.declared.object.Hda.{Hda as HdaValue}
use Rattle.wc_objects.specs.declared.object.InlVar.{InlVar}
use Rattle.wc_objects.specs.declared.object.Object.TheViews.{out-Object}
use Rattle.wc_objects.specs.declared.object.Object.TheOpen.{Object-F}
use Rattle.wc_objects.specs.declared.object.Object.TheVariants as o
use Rattle.wc_objects.specs.declared.fault.Rule.TheVariants.{Plain}
use Rattle.wc_objects.specs.Kinds.{Layer, kind_at, kind_of}
use Rattle.wc_objects.specs.Forms.{variable_is, is_text, object_layer_is, object_is}
use Rattle.wc_objects.specs.Within.{VariableWithin, ObjectLayerWithin, ObjectWithin}
use Rattle.wc_objects.specs.Reading.{keeps}
use Rattle.wc_objects.proofs.FieldCodecs.{Passes}
use Rattle.wc_objects.proofs.SimpleCodecs.{text_is, is_text_of}
use Rattle.wc_objects.proofs.CountCodecs.{Both, each_both, both_tests, both_facts, each_as}
use Rattle.wc_objects.proofs.PathCodecs.{IsHda}
use Rattle.wc_objects.proofs.ListCodecs.{IsInf, InfOf, inf_name, AreVariables, IsList, ListOf, list_name}
use Rattle.wc_objects.proofs.Layers.{object_of, layer_of, is_object}

abbrev pub IsWholeLayer : Kind → Layer → Type 0
IsWholeLayer kind layer = (kind_at layer ≡ kind) × (object_layer_is layer ≡ true) × ObjectLayerWithin layer

abbrev pub IsWhole : Kind → Object → Type 0
IsWhole kind x = (kind_of x ≡ kind) × (object_is x ≡ true) × ObjectWithin x

pub at_layer : (kind : Kind) (x : Object) (layer : Layer) → x ≡ object_of layer → IsWholeLayer kind layer → IsWhole kind x
unfolding object_is ObjectWithin
at_layer kind x layer e h = subst (λ (l : Layer). IsWholeLayer kind l) (sym (ap out-Object e ∙ layer_of layer)) h

-- ---- an hdata

abbrev pub MadeHda : Object → Type 0
MadeHda x = (h : HdaValue) × (x ≡ o.Hda h) × IsHda h

pub to_hda : (x : Object) → MadeHda x → IsWhole Hda x
to_hda x f = at_layer Hda x (Object-F.Hda f.0) f.1 (refl, f.2.0, f.2.1)

hda_from : (x : Object) (layer : Layer) → out-Object x ≡ layer → IsWholeLayer Hda layer → MadeHda x
hda_from x (Object-F.Chr n) e f = absurd (let k = f.0 in cc)
hda_from x (Object-F.Int n) e f = absurd (let k = f.0 in cc)
hda_from x (Object-F.Lon n) e f = absurd (let k = f.0 in cc)
hda_from x (Object-F.Str t) e f = absurd (let k = f.0 in cc)
hda_from x (Object-F.Buf t) e f = absurd (let k = f.0 in cc)
hda_from x (Object-F.Ptr n) e f = absurd (let k = f.0 in cc)
hda_from x (Object-F.Tim n) e f = absurd (let k = f.0 in cc)
hda_from x (Object-F.Htb key value pairs) e f = absurd (let k = f.0 in cc)
hda_from x (Object-F.Hda h) e f = (h, is_object x (Object-F.Hda h) e, (f.1, f.2))
hda_from x (Object-F.Inf name value) e f = absurd (let k = f.0 in cc)
hda_from x (Object-F.Inl name items) e f = absurd (let k = f.0 in cc)
hda_from x (Object-F.Arr element values) e f = absurd (let k = f.0 in cc)

pub from_hda : (x : Object) → IsWhole Hda x → MadeHda x
unfolding object_is ObjectWithin
from_hda x f = hda_from x (out-Object x) refl f

-- ---- an info

pub to_inf : (x : Object) → IsInf x → IsWhole Inf x
to_inf x f = at_layer Inf x (Object-F.Inf (Some (inf_name (out-Object x))) f.1.0) f.1.1 (refl, and_from (is_utf8 (inf_name (out-Object x))) (is_text f.1.0) f.0 (text_is f.1.0 f.1.2), tt)

abbrev InfAt : Object → Layer → Type 0
InfAt x layer = Passes (keeps Plain) (inf_name layer) × InfOf (inf_name layer) x

inf_from : (x : Object) (layer : Layer) → out-Object x ≡ layer → IsWholeLayer Inf layer → InfAt x layer
inf_from x (Object-F.Chr n) e f = absurd (let k = f.0 in cc)
inf_from x (Object-F.Int n) e f = absurd (let k = f.0 in cc)
inf_from x (Object-F.Lon n) e f = absurd (let k = f.0 in cc)
inf_from x (Object-F.Str t) e f = absurd (let k = f.0 in cc)
inf_from x (Object-F.Buf t) e f = absurd (let k = f.0 in cc)
inf_from x (Object-F.Ptr n) e f = absurd (let k = f.0 in cc)
inf_from x (Object-F.Tim n) e f = absurd (let k = f.0 in cc)
inf_from x (Object-F.Htb key value pairs) e f = absurd (let k = f.0 in cc)
inf_from x (Object-F.Hda hda) e f = absurd (let k = f.0 in cc)
inf_from x (Object-F.Inf None value) e f = absurd (let k = f.1 in cc)
inf_from x (Object-F.Inf (Some name) value) e f = let p = and_parts (is_utf8 name) (is_text value) f.1 in (p.0, (value, is_object x (Object-F.Inf (Some name) value) e, is_text_of value p.1))
inf_from x (Object-F.Inl name items) e f = absurd (let k = f.0 in cc)
inf_from x (Object-F.Arr element values) e f = absurd (let k = f.0 in cc)

pub from_inf : (x : Object) → IsWhole Inf x → IsInf x
unfolding object_is ObjectWithin
from_inf x f = inf_from x (out-Object x) refl f

-- ---- a list of variables

abbrev lists_test : List InlVar → Bool
lists_test item = list_all (λ v. variable_is v) item

abbrev ListsWithin : List InlVar → Type 0
ListsWithin = AllByRecursion VariableWithin

to_lists : (items : List (List InlVar)) → AllByRecursion AreVariables items → AllByRecursion (Both lists_test ListsWithin) items
to_lists items f = each_as AreVariables (Both lists_test ListsWithin) (λ item g. (both_tests (λ v. variable_is v) VariableWithin item g, both_facts (λ v. variable_is v) VariableWithin item g)) items f

pub to_list : (x : Object) → IsList x → IsWhole Inl x
to_list x f =
    let each = to_lists f.1.0 f.1.2 in
    at_layer Inl x (Object-F.Inl (list_name (out-Object x)) f.1.0) f.1.1
    (refl, and_from (is_utf8 (list_name (out-Object x))) (list_all lists_test f.1.0) f.0 (both_tests lists_test ListsWithin f.1.0 each), both_facts lists_test ListsWithin f.1.0 each)

abbrev ListAt : Object → Layer → Type 0
ListAt x layer = Passes (keeps Plain) (list_name layer) × ListOf (list_name layer) x

list_from : (x : Object) (layer : Layer) → out-Object x ≡ layer → IsWholeLayer Inl layer → ListAt x layer
list_from x (Object-F.Chr n) e f = absurd (let k = f.0 in cc)
list_from x (Object-F.Int n) e f = absurd (let k = f.0 in cc)
list_from x (Object-F.Lon n) e f = absurd (let k = f.0 in cc)
list_from x (Object-F.Str t) e f = absurd (let k = f.0 in cc)
list_from x (Object-F.Buf t) e f = absurd (let k = f.0 in cc)
list_from x (Object-F.Ptr n) e f = absurd (let k = f.0 in cc)
list_from x (Object-F.Tim n) e f = absurd (let k = f.0 in cc)
list_from x (Object-F.Htb key value pairs) e f = absurd (let k = f.0 in cc)
list_from x (Object-F.Hda hda) e f = absurd (let k = f.0 in cc)
list_from x (Object-F.Inf name value) e f = absurd (let k = f.0 in cc)
list_from x (Object-F.Inl name items) e f =
    let p = and_parts (is_utf8 name) (list_all lists_test items) f.1 in
    let each = each_both lists_test ListsWithin items p.1 f.2 in
    (p.0, (items, is_object x (Object-F.Inl name items) e, each_as (Both lists_test ListsWithin) AreVariables (λ item g. each_both (λ v. variable_is v) VariableWithin item g.0 g.1) items each))
list_from x (Object-F.Arr element values) e f = absurd (let k = f.0 in cc)

pub from_list : (x : Object) → IsWhole Inl x → IsList x
unfolding object_is ObjectWithin
from_list x f = list_from x (out-Object x) refl f
