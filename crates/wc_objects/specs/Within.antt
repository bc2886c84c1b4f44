-- The numbers of a message lie within the types that hold them.
use Rattle.std.specs.Prelude.{ℕ, ◌<◌, ◌^◌}
use Rattle.std.specs.List.{AllByRecursion}
use Rattle.std.specs.Int.{w8, w32, w64}
use Rattle.std.specs.Int.RustNames.{FitsSigned}
use Rattle.wc_objects.specs.declared.object.Object.{Object, out-Object}
use Rattle.wc_objects.specs.declared.object.Object.TheOpen.{Object-F}
use Rattle.wc_objects.specs.declared.object.Hda.{Hda as HdaValue, out-Hda}
use Rattle.wc_objects.specs.declared.object.HdaItem.{HdaItem, out-HdaItem}
use Rattle.wc_objects.specs.declared.object.InlVar.{InlVar, out-InlVar}
use Rattle.wc_objects.specs.declared.object.WireMessage.{WireMessage}
use Rattle.wc_objects.specs.Kinds.{Layer}

abbrev pub SimpleLayerWithin : Layer → Type 0
SimpleLayerWithin (Object-F.Chr n) = FitsSigned w8 n
SimpleLayerWithin (Object-F.Int n) = FitsSigned w32 n
SimpleLayerWithin (Object-F.Lon n) = FitsSigned w64 n
SimpleLayerWithin (Object-F.Ptr p) = p < 2 ^ 64
SimpleLayerWithin (Object-F.Tim n) = FitsSigned w64 n
SimpleLayerWithin _ = Unit {0}

unfoldable pub SimpleWithin : Object → Type 0
SimpleWithin o = SimpleLayerWithin (out-Object o)

abbrev pub PairWithin : Object × Object → Type 0
PairWithin p = SimpleWithin p.0 × SimpleWithin p.1

abbrev pub ValueLayerWithin : Layer → Type 0
ValueLayerWithin (Object-F.Htb key value pairs) = AllByRecursion PairWithin pairs
ValueLayerWithin (Object-F.Arr kind values) = AllByRecursion SimpleWithin values
ValueLayerWithin layer = SimpleLayerWithin layer

unfoldable pub ValueWithin : Object → Type 0
ValueWithin o = ValueLayerWithin (out-Object o)

abbrev pub PointerWithin : ℕ → Type 0
PointerWithin p = p < 2 ^ 64

unfoldable pub ItemWithin : HdaItem → Type 0
ItemWithin item = AllByRecursion PointerWithin (out-HdaItem item).pointers
    × AllByRecursion ValueWithin (out-HdaItem item).values

unfoldable pub HdaWithin : HdaValue → Type 0
HdaWithin h = AllByRecursion ItemWithin (out-Hda h).items

unfoldable pub VariableWithin : InlVar → Type 0
VariableWithin v = SimpleWithin (out-InlVar v).value

abbrev pub ObjectLayerWithin : Layer → Type 0
ObjectLayerWithin (Object-F.Hda h) = HdaWithin h
ObjectLayerWithin (Object-F.Inl name items) = AllByRecursion (AllByRecursion VariableWithin) items
ObjectLayerWithin layer = ValueLayerWithin layer

unfoldable pub ObjectWithin : Object → Type 0
ObjectWithin o = ObjectLayerWithin (out-Object o)

-- each number of a message is one of its type
abbrev pub IsWithin : WireMessage → Type 0
IsWithin message = AllByRecursion ObjectWithin message.objects
