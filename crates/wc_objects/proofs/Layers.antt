-- An object is one of its variants, and the layer of a variant is its own.
use Rattle.std.proofs.Common.{◌≡◌, ℕ, refl, sym, ap, ◌∙◌, get_or, true}
use Rattle.std.proofs.lemmas.Bool.{eqb-true}
use Rattle.wc_objects.specs.declared.kind.Kind.{Kind}
use Rattle.wc_objects.specs.declared.kind.Kind.TheVariants.{Chr, Int, Lon, Str, Buf, Ptr, Tim, Htb, Hda, Inf, Inl, Arr}
use Rattle.wc_objects.specs.declared.object.Object.{Object}
use Rattle.wc_objects.specs.declared.object.Object.TheViews.{out-Object, roll-Object, out-roll-Object, roll-out-Object}
use Rattle.wc_objects.specs.declared.object.Object.TheOpen.{Object-F}
use Rattle.wc_objects.specs.declared.object.Object.TheVariants as o
use Rattle.wc_objects.specs.declared.object.Object.TheVariants.{rolls-Chr, rolls-Int, rolls-Lon, rolls-Str, rolls-Buf, rolls-Ptr, rolls-Tim, rolls-Htb, rolls-Hda, rolls-Inf, rolls-Inl, rolls-Arr}
use Rattle.wc_objects.specs.Kinds.{Layer, index, same}
use Rattle.wc_objects.specs.Forms.{kinds}

-- the object of a layer
abbrev pub object_of : Layer → Object
object_of (Object-F.Chr n) = o.Chr n
object_of (Object-F.Int n) = o.Int n
object_of (Object-F.Lon n) = o.Lon n
object_of (Object-F.Str t) = o.Str t
object_of (Object-F.Buf t) = o.Buf t
object_of (Object-F.Ptr n) = o.Ptr n
object_of (Object-F.Tim n) = o.Tim n
object_of (Object-F.Htb key value pairs) = o.Htb key value pairs
object_of (Object-F.Hda h) = o.Hda h
object_of (Object-F.Inf name value) = o.Inf name value
object_of (Object-F.Inl name items) = o.Inl name items
object_of (Object-F.Arr kind values) = o.Arr kind values

pub rolled : (layer : Layer) → roll-Object layer ≡ object_of layer
rolled (Object-F.Chr n) = rolls-Chr n
rolled (Object-F.Int n) = rolls-Int n
rolled (Object-F.Lon n) = rolls-Lon n
rolled (Object-F.Str t) = rolls-Str t
rolled (Object-F.Buf t) = rolls-Buf t
rolled (Object-F.Ptr n) = rolls-Ptr n
rolled (Object-F.Tim n) = rolls-Tim n
rolled (Object-F.Htb key value pairs) = rolls-Htb key value pairs
rolled (Object-F.Hda h) = rolls-Hda h
rolled (Object-F.Inf name value) = rolls-Inf name value
rolled (Object-F.Inl name items) = rolls-Inl name items
rolled (Object-F.Arr kind values) = rolls-Arr kind values

pub layer_of : (layer : Layer) → out-Object (object_of layer) ≡ layer
layer_of layer = ap out-Object (sym (rolled layer)) ∙ out-roll-Object layer

pub is_object : (x : Object) (layer : Layer) → out-Object x ≡ layer → x ≡ object_of layer
is_object x layer e = sym (roll-out-Object x) ∙ ap roll-Object e ∙ rolled layer

-- types are told apart by their numbers
at_index : ℕ → Kind
at_index n = get_or kinds n Arr

back : (kind : Kind) → at_index (index kind) ≡ kind
unfolding at_index
back Chr = refl
back Int = refl
back Lon = refl
back Str = refl
back Buf = refl
back Ptr = refl
back Tim = refl
back Htb = refl
back Hda = refl
back Inf = refl
back Inl = refl
back Arr = refl

pub same_is : (a b : Kind) → same a b ≡ true → a ≡ b
same_is a b e = sym (back a) ∙ ap at_index (eqb-true (index a) (index b) e) ∙ back b
