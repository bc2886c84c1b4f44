-- The types of objects.
use Rattle.std.specs.Prelude.{ℕ, Bool, true, false, ◌||◌, ◌==◌, List, codes}
use Rattle.wc_objects.specs.declared.kind.Kind.{Kind}
use Rattle.wc_objects.specs.declared.kind.Kind.TheVariants.{Chr, Int, Lon, Str, Buf, Ptr, Tim, Htb}
use Rattle.wc_objects.specs.declared.kind.Kind.TheVariants.{Hda, Inf, Inl, Arr}
use Rattle.wc_objects.specs.declared.object.Object.{Object, out-Object}
use Rattle.wc_objects.specs.declared.object.Object.TheOpen.{Object-F}
use Rattle.wc_objects.specs.declared.object.Hda.{Hda as HdaValue}
use Rattle.wc_objects.specs.declared.object.HdaItem.{HdaItem}
use Rattle.wc_objects.specs.declared.object.InlVar.{InlVar}

-- one level of an object
abbrev pub Layer : Type 0
Layer = Object-F Object HdaValue HdaItem InlVar

-- the three letters that name a type
abbrev pub letters : Kind → List ℕ
letters Chr = codes "chr"
letters Int = codes "int"
letters Lon = codes "lon"
letters Str = codes "str"
letters Buf = codes "buf"
letters Ptr = codes "ptr"
letters Tim = codes "tim"
letters Htb = codes "htb"
letters Hda = codes "hda"
letters Inf = codes "inf"
letters Inl = codes "inl"
letters Arr = codes "arr"

abbrev pub index : Kind → ℕ
index Chr = 0
index Int = 1
index Lon = 2
index Str = 3
index Buf = 4
index Ptr = 5
index Tim = 6
index Htb = 7
index Hda = 8
index Inf = 9
index Inl = 10
index Arr = 11

abbrev pub same : Kind → Kind → Bool
same a b = index a == index b

-- the types whose values hold no other objects, of which arrays and tables are made
abbrev pub is_simple : Kind → Bool
is_simple Htb = false
is_simple Hda = false
is_simple Inf = false
is_simple Inl = false
is_simple Arr = false
is_simple _ = true

-- the types of the values of an hda
abbrev pub is_value : Kind → Bool
is_value kind = is_simple kind || same kind Htb || same kind Arr

abbrev pub kind_at : Layer → Kind
kind_at (Object-F.Chr n) = Chr
kind_at (Object-F.Int n) = Int
kind_at (Object-F.Lon n) = Lon
kind_at (Object-F.Str t) = Str
kind_at (Object-F.Buf t) = Buf
kind_at (Object-F.Ptr n) = Ptr
kind_at (Object-F.Tim n) = Tim
kind_at (Object-F.Htb key value pairs) = Htb
kind_at (Object-F.Hda h) = Hda
kind_at (Object-F.Inf name value) = Inf
kind_at (Object-F.Inl name items) = Inl
kind_at (Object-F.Arr kind values) = Arr

abbrev pub kind_of : Object → Kind
kind_of o = kind_at (out-Object o)
