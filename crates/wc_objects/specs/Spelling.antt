-- The one spelling of each message of the relay.
use Rattle.std.specs.Prelude.{◌≡◌, ℕ, ◌+◌, ◌<◌, ◌≤◌, ◌^◌, List, [], ◌∷◌, ◌++◌}
use Rattle.std.specs.Prelude.{length, Option, Some, None, MatchOption}
use Rattle.std.specs.List.{flat_map}
use Rattle.std.specs.Fmt.{signed_decimal}
use Rattle.std.specs.Int.{w8, w32, to_be_bytes, cast_unsigned}
use Rattle.wc_objects.specs.declared.kind.Kind.{Kind}
use Rattle.wc_objects.specs.declared.kind.Kind.TheVariants.{Str}
use Rattle.wc_objects.specs.declared.object.Object.{Object, out-Object}
use Rattle.wc_objects.specs.declared.object.Object.TheOpen.{Object-F}
use Rattle.wc_objects.specs.declared.object.Hda.{Hda, out-Hda}
use Rattle.wc_objects.specs.declared.object.HdaItem.{HdaItem, out-HdaItem}
use Rattle.wc_objects.specs.declared.object.InlVar.{InlVar, out-InlVar}
use Rattle.bytes.specs.Filled.{Filled}
use Rattle.wc_objects.specs.Hex.{hex}
use Rattle.wc_objects.specs.Kinds.{Layer, letters, kind_of}

-- four bytes, the highest first
unfoldable pub be32 : ℕ → List ℕ
be32 n = to_be_bytes w32 n

-- a text after its length, where a null text has the length -1
unfoldable pub text_bytes : Option (List ℕ) → List ℕ
text_bytes (Some text) = be32 (length text) ++ text
text_bytes None = 255 ∷ 255 ∷ 255 ∷ 255 ∷ []

-- a number's text after the one byte of its length
abbrev pub short_bytes : List ℕ → List ℕ
short_bytes text = length text ∷ text

abbrev pub pointer_bytes : ℕ → List ℕ
pointer_bytes p = short_bytes (hex p)

-- a list after its count
abbrev pub with_count : {A : Type 0} → (A → List ℕ) → List A → List ℕ
with_count spell xs = be32 (length xs) ++ flat_map spell xs

-- a value that holds no other, without the letters of its type
abbrev pub simple_layer : Layer → List ℕ
simple_layer (Object-F.Chr n) = cast_unsigned w8 n ∷ []
simple_layer (Object-F.Int n) = be32 (cast_unsigned w32 n)
simple_layer (Object-F.Lon n) = short_bytes (signed_decimal n)
simple_layer (Object-F.Str text) = text_bytes text
simple_layer (Object-F.Buf text) = text_bytes text
simple_layer (Object-F.Ptr p) = pointer_bytes p
simple_layer (Object-F.Tim n) = short_bytes (signed_decimal n)
simple_layer _ = []

unfoldable pub simple_bytes : Object → List ℕ
simple_bytes o = simple_layer (out-Object o)

abbrev pub pair_bytes : Object × Object → List ℕ
pair_bytes p = simple_bytes p.0 ++ simple_bytes p.1

-- a table: the types of its keys and values, its count, and each key and its value
abbrev pub table_bytes : Kind → Kind → List (Object × Object) → List ℕ
table_bytes key value pairs = letters key ++ (letters value ++ with_count pair_bytes pairs)

-- an array: the type of its values, its count and its values
abbrev pub array_bytes : Kind → List Object → List ℕ
array_bytes kind values = letters kind ++ with_count simple_bytes values

-- a value of an hda: a table, an array or one that holds no other
abbrev pub value_layer : Layer → List ℕ
value_layer (Object-F.Htb key value pairs) = table_bytes key value pairs
value_layer (Object-F.Arr kind values) = array_bytes kind values
value_layer layer = simple_layer layer

unfoldable pub value_bytes : Object → List ℕ
value_bytes o = value_layer (out-Object o)

-- an item of an hda: its pointers and its values
unfoldable pub item_bytes : HdaItem → List ℕ
item_bytes item = flat_map pointer_bytes (out-HdaItem item).pointers ++ flat_map value_bytes
    (out-HdaItem item).values

unfoldable pub hda_bytes : Hda → List ℕ
hda_bytes h = text_bytes (out-Hda h).path
    ++ (text_bytes (out-Hda h).keys ++ with_count item_bytes (out-Hda h).items)

-- a variable of an inl: its name, the letters of its type and its value
unfoldable pub variable_bytes : InlVar → List ℕ
variable_bytes v = text_bytes (Some (out-InlVar v).name) ++ (letters (kind_of (out-InlVar v).value)
    ++ simple_bytes (out-InlVar v).value)

abbrev pub whole_layer : Layer → List ℕ
whole_layer (Object-F.Hda h) = hda_bytes h
whole_layer (Object-F.Inf name value) = text_bytes name ++ text_bytes value
whole_layer (Object-F.Inl name items) = text_bytes (Some name)
    ++ with_count (with_count variable_bytes) items
whole_layer layer = value_layer layer

-- an object: the letters of its type and its value
abbrev pub whole_bytes : Object → List ℕ
whole_bytes o = whole_layer (out-Object o)

unfoldable pub object_bytes : Object → List ℕ
object_bytes o = letters (kind_of o) ++ whole_bytes o

-- what comes after the length: the byte of no compression, the id and the objects
abbrev pub body_bytes : List ℕ → List Object → List ℕ
body_bytes id objects = 0 ∷ (text_bytes (Some id) ++ flat_map object_bytes objects)

-- a message, whose length counts itself
unfoldable pub message_bytes : List ℕ → List Object → List ℕ
message_bytes id objects = be32 (4 + length (body_bytes id objects)) ++ body_bytes id objects

-- what comes after the length of a message of one str
abbrev pub text_body_bytes : List ℕ → List ℕ → List ℕ
text_body_bytes id text = 0 ∷ (text_bytes (Some id) ++ (letters Str ++ text_bytes (Some text)))

-- what is left of a room after the bytes, or None where they are longer
abbrev pub FitsIn : Option ℕ → ℕ → List ℕ → Type 0
FitsIn rest room bytes = MatchOption rest (room < length bytes) (λ n. n + length bytes ≡ room)

-- there is room for the bytes, which may be a part of a message
abbrev pub HasRoomFor : Filled → List ℕ → Type 0
HasRoomFor out bytes = (length bytes ≤ out.spare) × (length bytes < 2 ^ 31)

-- the bytes come after what was there, and took so much of the room
abbrev pub Puts : Filled → Filled → List ℕ → Type 0
Puts old new bytes = (new.items ≡ old.items ++ bytes) × (new.spare + length bytes ≡ old.spare)
