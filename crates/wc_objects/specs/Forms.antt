-- Which objects a message may hold.
use Rattle.std.specs.Prelude.{ℕ, ◌-◌, Bool, true, false, ◌&&◌, ◌==◌, nat_lt, List, [], ◌∷◌}
use Rattle.std.specs.Prelude.{length, drop, Option, Some, None, if◌then◌else◌, bytes_eq}
use Rattle.std.specs.Prelude.{slice_index, is_some}
use Rattle.std.specs.List.{list_all}
use Rattle.std.specs.Str.{is_utf8}
use Rattle.wc_objects.specs.declared.kind.Kind.{Kind}
use Rattle.wc_objects.specs.declared.kind.Kind.TheVariants.{Chr, Int, Lon, Str, Buf, Ptr, Tim, Htb}
use Rattle.wc_objects.specs.declared.kind.Kind.TheVariants.{Hda, Inf, Inl, Arr}
use Rattle.wc_objects.specs.declared.object.Object.{Object, out-Object}
use Rattle.wc_objects.specs.declared.object.Object.TheOpen.{Object-F}
use Rattle.wc_objects.specs.declared.object.Hda.{Hda as HdaValue, out-Hda}
use Rattle.wc_objects.specs.declared.object.HdaItem.{HdaItem, out-HdaItem}
use Rattle.wc_objects.specs.declared.object.InlVar.{InlVar, out-InlVar}
use Rattle.wc_objects.specs.Kinds.{Layer, letters, same, is_simple, is_value, kind_at, kind_of}

-- null, or UTF-8
abbrev pub is_text : Option (List ℕ) → Bool
is_text None = true
is_text (Some text) = is_utf8 text

-- a text that is not null
abbrev pub is_name : Option (List ℕ) → Bool
is_name None = false
is_name (Some text) = is_utf8 text

-- the pieces of a text that are between marks, at least one
abbrev pub onto_first : ℕ → List (List ℕ) → List (List ℕ)
onto_first b [] = (b ∷ []) ∷ []
onto_first b (piece ∷ pieces) = (b ∷ piece) ∷ pieces

abbrev pub pieces_of : ℕ → List ℕ → List (List ℕ)
pieces_of mark [] = [] ∷ []
pieces_of mark (b ∷ text) = if b == mark then [] ∷ pieces_of mark text
    else onto_first b (pieces_of mark text)

-- an h-path is one or more names of at least one byte, parted by slashes
abbrev pub names_of : List ℕ → List (List ℕ)
names_of path = pieces_of 47 path

abbrev pub is_path : List ℕ → Bool
is_path path = list_all (λ name. nat_lt 0 (length name)) (names_of path)

-- the type that three letters name
abbrev pub kind_among : List Kind → List ℕ → Option Kind
kind_among [] text = None
kind_among (kind ∷ kinds) text = if bytes_eq (letters kind) text then Some kind
    else kind_among kinds text

abbrev pub kinds : List Kind
kinds = Chr ∷ Int ∷ Lon ∷ Str ∷ Buf ∷ Ptr ∷ Tim ∷ Htb ∷ Hda ∷ Inf ∷ Inl ∷ Arr ∷ []

unfoldable pub named_kind : List ℕ → Option Kind
named_kind text = kind_among kinds text

abbrev pub only_if : (Kind → Bool) → Option Kind → Option Kind
only_if test None = None
only_if test (Some kind) = if test kind then Some kind else None

-- a key is a name of at least one byte, a colon, and the type of its values
unfoldable pub key_kind : List ℕ → Option Kind
key_kind key =
    if nat_lt 4 (length key) && slice_index key (length key - 4) == 58
    then only_if is_value (named_kind (drop (length key - 3) key)) else None

-- keys are parted by commas, and an empty text has none
abbrev pub keys_of : List ℕ → List (List ℕ)
keys_of [] = []
keys_of (b ∷ text) = pieces_of 44 (b ∷ text)

abbrev pub with_kind : Option Kind → Option (List Kind) → Option (List Kind)
with_kind (Some kind) (Some kinds) = Some (kind ∷ kinds)
with_kind _ _ = None

abbrev pub kinds_of_keys : List (List ℕ) → Option (List Kind)
kinds_of_keys [] = Some []
kinds_of_keys (key ∷ keys) = with_kind (key_kind key) (kinds_of_keys keys)

unfoldable pub kinds_of : List ℕ → Option (List Kind)
kinds_of text = kinds_of_keys (keys_of text)

-- the object is of this type, which holds no others, and its text is one
abbrev pub simple_layer_is : Kind → Layer → Bool
simple_layer_is kind (Object-F.Chr n) = same kind Chr
simple_layer_is kind (Object-F.Int n) = same kind Int
simple_layer_is kind (Object-F.Lon n) = same kind Lon
simple_layer_is kind (Object-F.Str text) = same kind Str && is_text text
simple_layer_is kind (Object-F.Buf text) = same kind Buf && is_text text
simple_layer_is kind (Object-F.Ptr n) = same kind Ptr
simple_layer_is kind (Object-F.Tim n) = same kind Tim
simple_layer_is kind _ = false

unfoldable pub simple_is : Kind → Object → Bool
simple_is kind o = simple_layer_is kind (out-Object o)

-- the same, or a table or an array of such objects
abbrev pub value_layer_is : Kind → Layer → Bool
value_layer_is kind (Object-F.Htb key value pairs) =
    same kind Htb && is_simple key && is_simple value
    && list_all (λ p. simple_is key p.0 && simple_is value p.1) pairs
value_layer_is kind (Object-F.Arr element values) = same kind Arr && is_simple element
    && list_all (λ o. simple_is element o) values
value_layer_is kind layer = simple_layer_is kind layer

unfoldable pub value_is : Kind → Object → Bool
value_is kind o = value_layer_is kind (out-Object o)

-- a value for each key, in their order
abbrev pub values_are : List Kind → List Object → Bool
values_are [] [] = true
values_are (kind ∷ kinds) (value ∷ values) = value_is kind value && values_are kinds values
values_are _ _ = false

abbrev pub values_of : Option (List Kind) → List Object → Bool
values_of None values = false
values_of (Some kinds) values = values_are kinds values

-- an item has a pointer for each name of the path, and a value for each key
unfoldable pub item_of : ℕ → Option (List Kind) → HdaItem → Bool
item_of depth kinds item = length (out-HdaItem item).pointers == depth && values_of kinds
    (out-HdaItem item).values

-- the null hdata has neither path nor keys nor items
abbrev pub hda_parts_are : Option (List ℕ) → Option (List ℕ) → List HdaItem → Bool
hda_parts_are None None items = length items == 0
hda_parts_are (Some path) (Some keys) items = is_utf8 path && is_path path && is_utf8 keys
    && is_some (kinds_of keys)
    && list_all (λ item. item_of (length (names_of path)) (kinds_of keys) item) items
hda_parts_are _ _ items = false

unfoldable pub hda_is : HdaValue → Bool
hda_is h = hda_parts_are (out-Hda h).path (out-Hda h).keys (out-Hda h).items

unfoldable pub variable_is : InlVar → Bool
variable_is v = is_utf8 (out-InlVar v).name && simple_is (kind_of (out-InlVar v).value)
    (out-InlVar v).value

abbrev pub object_layer_is : Layer → Bool
object_layer_is (Object-F.Hda h) = hda_is h
object_layer_is (Object-F.Inf name value) = is_name name && is_text value
object_layer_is (Object-F.Inl name items) = is_utf8 name
    && list_all (λ item. list_all (λ v. variable_is v) item) items
object_layer_is layer = value_layer_is (kind_at layer) layer

unfoldable pub object_is : Object → Bool
object_is o = object_layer_is (out-Object o)

-- each object keeps the rules of its type
unfoldable pub well_formed : List Object → Bool
well_formed objects = list_all (λ o. object_is o) objects
