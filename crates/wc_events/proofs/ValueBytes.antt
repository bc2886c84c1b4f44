-- The bytes of values.
use Rattle.std.proofs.Common.{◌≡◌, ℕ, ℤ, suc, true, nat_le, ◌+◌, ◌-◌, ◌/◌, ◌^◌, ◌<◌, ◌≤◌, List, [], ◌∷◌, ◌++◌, map, length, take, get_or, Some, refl, ap, ◌∙◌, arith}
use Rattle.std.proofs.lemmas.List.{length-append, length-map, take_more}
use Rattle.std.proofs.lemmas.List.Concat.{flat_map-append}
use Rattle.std.proofs.lemmas.Bool.Decides.{nat_tests}
use Rattle.std.specs.Fmt.{decimal, signed_decimal}
use Rattle.itoa.proofs.Decimal.{length_pair, length_two}
use Rattle.std.specs.Int.{w8, w32, to_be_bytes, cast_unsigned}
use Rattle.std.specs.List.{flat_map}
use Rattle.bytes.specs.Filled.{Filled}
use denote.Hole.Carrier.{out}
use Rattle.wc_text.specs.declared.names.Pair.{Pair}
use Rattle.wc_lines.specs.Packed.{spelled, all_spelled}
use Rattle.wc_objects.specs.declared.kind.Kind.TheVariants as k
use Rattle.wc_objects.specs.Kinds.{letters}
use Rattle.wc_objects.specs.declared.object.Object.TheVariants as o
use Rattle.wc_objects.specs.declared.object.Object.TheViews.{out-Object, out-roll-Object}
use Rattle.wc_objects.specs.Spelling.{value_bytes, simple_bytes, pair_bytes, pointer_bytes, short_bytes, text_bytes, with_count, be32, HasRoomFor}
use Rattle.wc_objects.proofs.Rooms.{length-be32}
use Rattle.wc_events.specs.BufferObjects.{pair_of, table, text}
use Rattle.wc_events.specs.LineObjects.{moment, texts}
use Rattle.wc_events.specs.ValueBytes.{tag_bytes, var_bytes}

pub int_value : (n : ℤ) → value_bytes (o.Int n) ≡ to_be_bytes w32 (cast_unsigned w32 n)
unfolding value_bytes simple_bytes out-Object out be32
int_value n = refl

pub int_length : (n : ℤ) → length (value_bytes (o.Int n)) ≡ 4
unfolding value_bytes simple_bytes out-Object out be32
int_length n = refl

pub chr_value : (n : ℤ) → value_bytes (o.Chr n) ≡ cast_unsigned w8 n ∷ []
unfolding value_bytes simple_bytes out-Object out
chr_value n = refl

pub chr_length : (n : ℤ) → length (value_bytes (o.Chr n)) ≡ 1
unfolding value_bytes simple_bytes out-Object out
chr_length n = refl

pub ptr_value : (n : ℕ) → value_bytes (o.Ptr n) ≡ pointer_bytes n
unfolding value_bytes simple_bytes out-Object out
ptr_value n = refl

pub tim_value : (n : ℤ) → value_bytes (o.Tim n) ≡ short_bytes (signed_decimal n)
unfolding value_bytes simple_bytes out-Object out
tim_value n = refl

pub str_value : (bytes : List ℕ) → value_bytes (text bytes) ≡ text_bytes (Some bytes)
unfolding value_bytes simple_bytes out-Object out
str_value bytes = refl

-- ---- tags
each_tag : (tags : List (List ℕ)) → flat_map simple_bytes (texts tags) ≡ flat_map tag_bytes tags
unfolding simple_bytes out-Object out
each_tag [] = refl
each_tag (t ∷ tags) = ap (λ (b : List ℕ). tag_bytes t ++ b) (each_tag tags)

tag_count : (tags : List (List ℕ)) → length (texts tags) ≡ length tags
tag_count [] = refl
tag_count (t ∷ tags) = ap suc (tag_count tags)

pub tags_value : (tags : List (List ℕ)) → value_bytes (o.Arr k.Str (texts tags)) ≡ letters k.Str ++ with_count tag_bytes tags
unfolding value_bytes
tags_value tags = rw (← o.rolls-Arr k.Str (texts tags), out-roll-Object) (λ i. letters k.Str ++ (be32 (tag_count tags i) ++ each_tag tags i))

pub tags_length : (tags : List (List ℕ)) → length (value_bytes (o.Arr k.Str (texts tags))) ≡ 7 + length (flat_map tag_bytes tags)
tags_length tags =
    ap length (tags_value tags)
    ∙ omega (arith, length-append (letters k.Str) (with_count tag_bytes tags), length-append (be32 (length tags)) (flat_map tag_bytes tags), length-be32 (length tags))

-- tags lie in memory as they are written
pub spelled_tags_are : (tags : List (List ℕ)) → all_spelled tags ≡ flat_map tag_bytes tags
unfolding spelled text_bytes be32
spelled_tags_are [] = refl
spelled_tags_are (t ∷ tags) = ap (λ (b : List ℕ). spelled t ++ b) (spelled_tags_are tags)

pub spelled_length : (tags : List (List ℕ)) → length (all_spelled tags) ≡ length (flat_map tag_bytes tags)
spelled_length tags = ap length (spelled_tags_are tags)

-- ---- variables
each_var : (vars : List Pair) → flat_map pair_bytes (map pair_of vars) ≡ flat_map var_bytes vars
unfolding simple_bytes out-Object out
each_var [] = refl
each_var (var ∷ vars) = ap (λ (b : List ℕ). var_bytes var ++ b) (each_var vars)

pub table_value : (vars : List Pair) → value_bytes (table vars) ≡ letters k.Str ++ (letters k.Str ++ with_count var_bytes vars)
unfolding value_bytes
table_value vars =
    rw (← o.rolls-Htb k.Str k.Str (map pair_of vars), out-roll-Object) (λ i. letters k.Str ++ (letters k.Str ++ (be32 (length-map vars pair_of i) ++ each_var vars i)))

pub table_length : (vars : List Pair) → length (value_bytes (table vars)) ≡ 10 + length (flat_map var_bytes vars)
table_length vars =
    ap length (table_value vars)
    ∙ omega (arith, length-append (letters k.Str) (letters k.Str ++ with_count var_bytes vars), length-append (letters k.Str) (with_count var_bytes vars), length-append (be32 (length vars)) (flat_map var_bytes vars), length-be32 (length vars))

-- ---- dates
ten_long : (n : ℕ) → 1000000000 ≤ n → n ≤ 9999999999 → length (decimal n) ≡ 10
ten_long n least most =
    let one = length_pair n (omega (arith, least)) (omega (arith, most)) in
    let two = length_pair (n / 100) (omega (arith, least)) (omega (arith, most)) in
    let three = length_pair (n / 100 / 100) (omega (arith, least)) (omega (arith, most)) in
    let four = length_pair (n / 100 / 100 / 100) (omega (arith, least)) (omega (arith, most)) in
    let five = length_two (n / 100 / 100 / 100 / 100) (omega (arith, least)) (omega (arith, most)) in
    omega (arith, one, two, three, four, five)

pub date_length : (date : ℕ) → 1000000000 ≤ date → date ≤ 9999999999 → length (value_bytes (o.Tim (moment date))) ≡ 11
unfolding value_bytes simple_bytes out-Object out
date_length date least most =
    let few : nat_le date (2 ^ 63 - 1) ≡ true = grind (arith, nat_tests) in
    rw few (omega (arith, ten_long date least most))

-- what values are as bytes
pub ruleset value_facts = (int_value, int_length, chr_value, chr_length, ptr_value, tim_value, str_value, tags_length, table_length)

-- where there was room for all, there is room for the first of those that are left
pub first_has_room : {X : Type 0} (spell : X → List ℕ) (all left rest : List X) (x : X) (old now : Filled) → HasRoomFor old (flat_map spell all)
    → now.spare + length (flat_map spell all) ≡ old.spare + length (flat_map spell left) → length (flat_map spell left) ≤ length (flat_map spell all)
    → left ≡ x ∷ rest → HasRoomFor now (spell x)
first_has_room spell all left rest x old now room spare less is =
    let parts = ap (λ l. length (flat_map spell l)) is ∙ length-append (spell x) (flat_map spell rest) in
    (omega (arith, room.0, spare, parts), omega (arith, room.1, less, parts))

-- what is left after one more of a list
pub one_more : {X : Type 0} (spell : X → List ℕ) (xs : List X) (i : ℕ) (d : X) (room left new : ℕ) → i < length xs → left + length (flat_map spell (take i xs)) ≡ room
    → new + length (spell (get_or xs i d)) ≡ left → new + length (flat_map spell (take (i + 1) xs)) ≡ room
one_more spell xs i d room left new within so_far one =
    let more = ap (λ ys. length (flat_map spell ys)) (take_more xs i d within) ∙ ap length (flat_map-append spell (take i xs) (get_or xs i d ∷ [])) in
    omega (arith, so_far, one, more, length-append (flat_map spell (take i xs)) (spell (get_or xs i d) ++ []), length-append (spell (get_or xs i d)) [])
