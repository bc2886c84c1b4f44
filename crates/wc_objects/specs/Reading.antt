-- Reading from left to right. Where a field breaks a rule, the answer is how many bytes were left
-- where the first such field begins.
use Rattle.std.specs.Prelude.{◌≡◌, ℕ, zero, suc, ◌^◌, ℤ, pos, negsuc, Bool, true, ◌&&◌, ◌||◌}
use Rattle.std.specs.Prelude.{◌-◌, ◌==◌, nat_lt, nat_le, List, [], ◌∷◌, length, take, drop}
use Rattle.std.specs.Prelude.{slice_index, Option, Some, None, is_some, Result, Ok, Err}
use Rattle.std.specs.Prelude.{if◌then◌else◌, bytes_eq}
use Rattle.std.specs.Int.{w8, w32, from_be_bytes, cast_signed}
use Rattle.std.specs.Fmt.{signed_decimal}
use Rattle.std.specs.Str.{is_utf8}
use Rattle.std.specs.Str.Parse.{signed_digits_value}
use Rattle.wc_objects.specs.declared.kind.Kind.{Kind}
use Rattle.wc_objects.specs.declared.kind.Kind.TheVariants.{Chr, Int, Lon, Str, Buf, Ptr, Tim, Htb}
use Rattle.wc_objects.specs.declared.kind.Kind.TheVariants.{Hda, Inf, Inl, Arr}
use Rattle.wc_objects.specs.declared.object.Object.{Object}
use Rattle.wc_objects.specs.declared.object.Object.TheVariants as o
use Rattle.wc_objects.specs.declared.object.Hda.{Hda as HdaValue, roll-Hda}
use Rattle.wc_objects.specs.declared.object.HdaItem.{HdaItem, roll-HdaItem}
use Rattle.wc_objects.specs.declared.object.InlVar.{InlVar, roll-InlVar}
use Rattle.wc_objects.specs.declared.object.WireMessage.{WireMessage}
use Rattle.wc_objects.specs.declared.fault.Rule.{Rule}
use Rattle.wc_objects.specs.declared.fault.Rule.TheVariants.{Plain, Path, Keys}
use Rattle.wc_objects.specs.declared.read.MessageRefused.{MessageRefused}
use Rattle.wc_objects.specs.declared.read.MessageRefused.TheVariants as refused
use Rattle.wc_objects.specs.declared.fault.ReadError.{ReadError}
use Rattle.wc_objects.specs.declared.fault.ReadError.TheVariants as errors
use Rattle.wc_objects.specs.Hex.{hex_number}
use Rattle.wc_objects.specs.Kinds.{is_simple}
use Rattle.wc_objects.specs.Forms.{named_kind, only_if, is_path, names_of, kinds_of}

-- a value and the bytes after it, or how many bytes were left
abbrev pub Read : Type 0 → Type 0
Read A = Result (A × List ℕ) ℕ

infixl 10 ◌>>=◌
abbrev pub ◌>>=◌ : {A B : Type 0} → Result A ℕ → (A → Result B ℕ) → Result B ℕ
(Ok x) >>= f = f x
(Err left) >>= f = Err left

abbrev pub broken_at : {A : Type 0} → List ℕ → Result A ℕ
broken_at bytes = Err (length bytes)

-- What a function returned, seen by view, with the bytes that it left, is what reading gives,
-- unless memory was refused.
abbrev pub Fails : {A : Type 0} → ReadError → Result A ℕ → Type 0
Fails errors.NoMemory read = Unit {0}
Fails (errors.Broken left) read = read ≡ Err left

abbrev pub GivesValue : {X A : Type 0} → (X → A) → Result X ReadError → List ℕ → Read A → Type 0
GivesValue view (Ok x) rest read = read ≡ Ok (view x, rest)
GivesValue view (Err e) rest read = Fails e read

abbrev pub TakesNoMemory : {X : Type 0} → Result X ReadError → Type 0
TakesNoMemory (Ok x) = Unit {0}
TakesNoMemory (Err errors.NoMemory) = ⊥
TakesNoMemory (Err (errors.Broken left)) = Unit {0}

abbrev pub same_value : {A : Type 0} → A → A
same_value x = x

abbrev pub no_text : {A : Type 0} → A → Option (List ℕ)
no_text x = None

-- ---- fields

abbrev pub bytes_at : ℕ → List ℕ → Read (List ℕ)
bytes_at n bytes = if nat_lt (length bytes) n then broken_at bytes
    else Ok (take n bytes, drop n bytes)

-- a number of four bytes
unfoldable pub number_at : List ℕ → Read ℕ
number_at bytes = bytes_at 4 bytes >>= λ x. Ok (from_be_bytes w32 x.0, x.1)

-- a signed byte
unfoldable pub byte_at : List ℕ → Read ℤ
byte_at bytes = bytes_at 1 bytes >>= λ b. Ok (cast_signed w8 (slice_index b.0 0), b.1)

-- a signed number of four bytes
unfoldable pub int_at : List ℕ → Read ℤ
int_at bytes = number_at bytes >>= λ n. Ok (cast_signed w32 n.0, n.1)

-- a count is not negative
unfoldable pub count_at : List ℕ → Read ℕ
count_at bytes = number_at bytes >>= λ n. if nat_lt n.0 (2 ^ 31) then Ok n else broken_at bytes

-- n bytes of which a test holds
unfoldable pub tested_at : (List ℕ → Bool) → ℕ → List ℕ → Read (List ℕ)
tested_at test n bytes = bytes_at n bytes >>= λ text. if test text.0 then Ok text
    else broken_at bytes

-- a text that is not null
unfoldable pub name_by : (List ℕ → Bool) → List ℕ → Read (List ℕ)
name_by test bytes = count_at bytes >>= λ n. tested_at test n.0 n.1

-- the same, as a text that may be null
unfoldable pub some_text_at : (List ℕ → Bool) → ℕ → List ℕ → Read (Option (List ℕ))
some_text_at test n bytes = tested_at test n bytes >>= λ text. Ok (Some text.0, text.1)

-- a text, or null
unfoldable pub text_by : (List ℕ → Bool) → List ℕ → Read (Option (List ℕ))
text_by test bytes = number_at bytes >>= λ n. if n.0 == 4294967295 then Ok (None, n.1)
    else (if nat_lt n.0 (2 ^ 31) then some_text_at test n.0 n.1 else broken_at bytes)

unfoldable pub null_at : List ℕ → Read (Option (List ℕ))
null_at bytes = number_at bytes >>= λ n. if n.0 == 4294967295 then Ok (None, n.1)
    else broken_at bytes

-- a text of one byte of length, which is not 0 and not above most
unfoldable pub short_at : ℕ → List ℕ → Read (List ℕ)
short_at most bytes = bytes_at 1 bytes >>= λ n.
    let size = slice_index n.0 0 in
    if nat_lt 0 size && nat_le size most then bytes_at size n.1 else broken_at bytes

-- what the text at the front of bytes spells, if it spells something
abbrev pub spelt_value : {A : Type 0} → List ℕ → List ℕ → Option A → Read A
spelt_value bytes rest None = broken_at bytes
spelt_value bytes rest (Some x) = Ok (x, rest)

-- the number of 64 bits whose one spelling the text is
abbrev pub fits_i64 : ℤ → Bool
fits_i64 (pos n) = nat_lt n (2 ^ 63)
fits_i64 (negsuc n) = nat_lt n (2 ^ 63)

abbrev pub if_spelt : ℤ → List ℕ → Option ℤ
if_spelt z text = if fits_i64 z && bytes_eq (signed_decimal z) text then Some z else None

unfoldable pub decimal_number : List ℕ → Option ℤ
decimal_number text = if_spelt (signed_digits_value 10 text) text

unfoldable pub decimal_at : List ℕ → Read ℤ
decimal_at bytes = short_at 20 bytes >>= λ text. spelt_value (drop 1 bytes) text.1
    (decimal_number text.0)

unfoldable pub pointer_at : List ℕ → Read ℕ
pointer_at bytes = short_at 16 bytes >>= λ text. spelt_value (drop 1 bytes) text.1
    (hex_number text.0)

-- the three letters of a type of which a test holds
unfoldable pub kind_by : (Kind → Bool) → List ℕ → Read Kind
kind_by test bytes = bytes_at 3 bytes >>= λ letters. spelt_value bytes letters.1
    (only_if test (named_kind letters.0))

-- the rules that a text keeps: it is UTF-8, and a path is one, and keys are such
abbrev pub keeps : Rule → List ℕ → Bool
keeps Plain text = is_utf8 text
keeps Path text = is_utf8 text && is_path text
keeps Keys text = is_utf8 text && is_some (kinds_of text)

abbrev pub name_at : List ℕ → Read (List ℕ)
name_at = name_by (keeps Plain)

abbrev pub text_at : List ℕ → Read (Option (List ℕ))
text_at = text_by (keeps Plain)

-- ---- values

abbrev pub made_of : {A B : Type 0} → (A → B) → A × List ℕ → Read B
made_of f x = Ok (f x.0, x.1)

-- n of them
unfoldable pub times : {A : Type 0} → ℕ → (List ℕ → Read A) → List ℕ → Read (List A)
times zero read bytes = Ok ([], bytes)
times (suc n) read bytes = read bytes >>= λ first. times n read first.1 >>=
    λ others. Ok (first.0 ∷ others.0, others.1)

-- as many as a count says
unfoldable pub counted_at : {A : Type 0} → (List ℕ → Read A) → List ℕ → Read (List A)
counted_at read bytes = count_at bytes >>= λ n. times n.0 read n.1

-- a value of a type that holds no others
unfoldable pub simple_at : Kind → List ℕ → Read Object
simple_at Chr bytes = byte_at bytes >>= made_of o.Chr
simple_at Int bytes = int_at bytes >>= made_of o.Int
simple_at Lon bytes = decimal_at bytes >>= made_of o.Lon
simple_at Str bytes = text_at bytes >>= made_of o.Str
simple_at Buf bytes = text_at bytes >>= made_of o.Buf
simple_at Ptr bytes = pointer_at bytes >>= made_of o.Ptr
simple_at Tim bytes = decimal_at bytes >>= made_of o.Tim
simple_at kind bytes = broken_at bytes

unfoldable pub pair_at : Kind → Kind → List ℕ → Read (Object × Object)
pair_at key value bytes = simple_at key bytes >>= λ k. simple_at value k.1 >>=
    λ v. Ok ((k.0, v.0), v.1)

unfoldable pub table_at : List ℕ → Read Object
table_at bytes = kind_by is_simple bytes >>= λ key. kind_by is_simple key.1 >>= λ value. counted_at
    (pair_at key.0 value.0) value.1 >>= made_of (o.Htb key.0 value.0)

unfoldable pub array_at : List ℕ → Read Object
array_at bytes = kind_by is_simple bytes >>= λ kind. counted_at (simple_at kind.0) kind.1 >>=
    made_of (o.Arr kind.0)

-- a value of an hda
unfoldable pub value_at : Kind → List ℕ → Read Object
value_at Htb bytes = table_at bytes
value_at Arr bytes = array_at bytes
value_at kind bytes = simple_at kind bytes

-- a value of each type
unfoldable pub values_at : List Kind → List ℕ → Read (List Object)
values_at [] bytes = Ok ([], bytes)
values_at (kind ∷ kinds) bytes = value_at kind bytes >>= λ first. values_at kinds first.1 >>=
    λ others. Ok (first.0 ∷ others.0, others.1)

abbrev pub item_of : List ℕ → List Object → HdaItem
item_of pointers values = roll-HdaItem (record { pointers = pointers; values = values })

unfoldable pub item_at : ℕ → List Kind → List ℕ → Read HdaItem
item_at depth kinds bytes = times depth pointer_at bytes >>= λ pointers. values_at kinds pointers.1
    >>= made_of (item_of pointers.0)

abbrev pub depth_of : List ℕ → Option ℕ
depth_of path = if is_path path then Some (length (names_of path)) else None

abbrev pub items_by : Option ℕ → Option (List Kind) → List ℕ → Read (List HdaItem)
items_by (Some depth) (Some kinds) bytes = counted_at (item_at depth kinds) bytes
items_by _ _ bytes = broken_at bytes

abbrev pub hda_of : Option (List ℕ) → Option (List ℕ) → List HdaItem → HdaValue
hda_of path keys items = roll-Hda (record { path = path; keys = keys; items = items })

-- what comes after the path: of the null hdata null keys and no items
abbrev pub hda_after : Option (List ℕ) → List ℕ → Read HdaValue
hda_after None bytes = null_at bytes >>= λ keys. count_at keys.1 >>= λ n. if n.0 == 0
    then Ok (hda_of None None [], n.1) else broken_at keys.1
hda_after (Some path) bytes = name_by (keeps Keys) bytes >>= λ keys. items_by (depth_of path)
    (kinds_of keys.0) keys.1 >>= made_of (hda_of (Some path) (Some keys.0))

unfoldable pub hda_at : List ℕ → Read HdaValue
hda_at bytes = text_by (keeps Path) bytes >>= λ path. hda_after path.0 path.1

unfoldable pub inf_at : List ℕ → Read Object
inf_at bytes = name_at bytes >>= λ name. text_at name.1 >>= made_of (o.Inf (Some name.0))

abbrev pub variable_of : List ℕ → Object → InlVar
variable_of name value = roll-InlVar (record { name = name; value = value })

unfoldable pub variable_at : List ℕ → Read InlVar
variable_at bytes = name_at bytes >>= λ name. kind_by is_simple name.1 >>=
    λ kind. simple_at kind.0 kind.1 >>= made_of (variable_of name.0)

unfoldable pub inl_at : List ℕ → Read Object
inl_at bytes = name_at bytes >>= λ name. counted_at (counted_at variable_at) name.1 >>=
    made_of (o.Inl name.0)

unfoldable pub whole_at : Kind → List ℕ → Read Object
whole_at Hda bytes = hda_at bytes >>= made_of o.Hda
whole_at Inf bytes = inf_at bytes
whole_at Inl bytes = inl_at bytes
whole_at kind bytes = value_at kind bytes

abbrev pub any_kind : Kind → Bool
any_kind kind = true

unfoldable pub object_at : List ℕ → Read Object
object_at bytes = kind_by any_kind bytes >>= λ kind. whole_at kind.0 kind.1

-- ---- messages

-- objects to the end of the bytes, of which each takes some
unfoldable pub objects_within : ℕ → List ℕ → Result (List Object) ℕ
objects_within fuel [] = Ok []
objects_within zero (b ∷ bytes) = broken_at (b ∷ bytes)
objects_within (suc fuel) (b ∷ bytes) = object_at (b ∷ bytes) >>=
    λ first. objects_within fuel first.1 >>= λ others. Ok (first.0 ∷ others)

abbrev pub objects_of : List ℕ → Result (List Object) ℕ
objects_of bytes = objects_within (length bytes) bytes

-- the byte of compression is 0
unfoldable pub plain_at : List ℕ → Read ℕ
plain_at bytes = bytes_at 1 bytes >>= λ b. if slice_index b.0 0 == 0 then Ok (0, b.1)
    else broken_at bytes

-- all bytes of a message of a length that messages have
unfoldable pub message_of : List ℕ → Result WireMessage ℕ
message_of bytes = number_at bytes >>= λ size. plain_at size.1 >>= λ plain. name_at plain.1 >>=
    λ id. objects_of id.1 >>= λ objects. Ok (record { id = id.0; objects = objects })

-- what a function returned is what reading gives, unless memory was refused
abbrev pub GivesWhole : {X : Type 0} → Result X ReadError → Result X ℕ → Type 0
GivesWhole (Ok x) read = read ≡ Ok x
GivesWhole (Err e) read = Fails e read

abbrev pub with_size : ℕ → Result WireMessage ℕ → Result (Option (WireMessage × ℕ)) ℕ
with_size size (Ok message) = Ok (Some (message, size))
with_size size (Err left) = Err (size - left)

abbrev pub of_size : ℕ → List ℕ → Result (Option (WireMessage × ℕ)) ℕ
of_size size bytes =
    if nat_lt size 9 || nat_lt 2147483647 size then Err 0
    else (if nat_lt (length bytes) size then Ok None
    else with_size size (message_of (take size bytes)))

-- The message at the front of the bytes and its length, or None where bytes are missing, or the
-- place of the first field that breaks a rule.
unfoldable pub first_message : List ℕ → Result (Option (WireMessage × ℕ)) ℕ
first_message bytes = if nat_lt (length bytes) 4 then Ok None
    else of_size (from_be_bytes w32 (take 4 bytes)) bytes

abbrev pub RefusesMessage : {A : Type 0} → MessageRefused → Result A ℕ → Type 0
RefusesMessage refused.NoMemory read = Unit {0}
RefusesMessage (refused.BadAt place) read = read ≡ Err place

abbrev pub GivesFirst : Result (Option (WireMessage × ℕ)) MessageRefused →
    Result (Option (WireMessage × ℕ)) ℕ → Type 0
GivesFirst (Ok x) read = read ≡ Ok x
GivesFirst (Err e) read = RefusesMessage e read

-- the value that reading gives, and how many of the bytes it takes; None where reading gives none
abbrev pub IsRead : {A : Type 0} → A × ℕ → ℕ → Read A → Type 0
IsRead found size (Ok x) = (found.0 ≡ x.0) × (found.1 ≡ size - length x.1)
IsRead found size (Err left) = ⊥

abbrev pub IsBroken : {A : Type 0} → Read A → Type 0
IsBroken (Ok x) = ⊥
IsBroken (Err left) = Unit {0}

abbrev pub GivesFront : {A : Type 0} → Option (A × ℕ) → ℕ → Read A → Type 0
GivesFront (Some found) size read = IsRead found size read
GivesFront None size read = IsBroken read
