-- What values say. None where the value is of another kind, or has a number or a null text that it
-- can not have.
use Rattle.std.specs.Prelude.{ℕ, ℤ, pos, Bool, true, false, ◌&&◌, List, Option, Some, None}
use Rattle.std.specs.Prelude.{if◌then◌else◌}
use Rattle.std.specs.Ordering.{int_eq}
use Rattle.wc_text.specs.declared.names.Pair.{Pair}
use Rattle.wc_objects.specs.declared.kind.Kind.TheVariants.{Str}
use Rattle.wc_objects.specs.declared.object.Object.{Object, out-Object}
use Rattle.wc_objects.specs.declared.object.Object.TheOpen.{Object-F}
use Rattle.wc_objects.specs.Kinds.{Layer, same}
use Rattle.wc_view.specs.Each.{each}

abbrev pub pointer_layer : Layer → Option ℕ
pointer_layer (Object-F.Ptr n) = Some n
pointer_layer _ = None

abbrev pub pointer_in : Object → Option ℕ
pointer_in value = pointer_layer (out-Object value)

-- a date is not negative
abbrev pub date_layer : Layer → Option ℕ
date_layer (Object-F.Tim (pos n)) = Some n
date_layer _ = None

abbrev pub date_in : Object → Option ℕ
date_in value = date_layer (out-Object value)

-- a number is not negative
abbrev pub number_layer : Layer → Option ℕ
number_layer (Object-F.Int (pos n)) = Some n
number_layer _ = None

abbrev pub number_in : Object → Option ℕ
number_in value = number_layer (out-Object value)

abbrev pub level_layer : Layer → Option ℤ
level_layer (Object-F.Chr n) = Some n
level_layer _ = None

abbrev pub level_in : Object → Option ℤ
level_in value = level_layer (out-Object value)

-- truth is 1 and 0
abbrev pub truth_of : ℤ → Option Bool
truth_of n = if int_eq n (pos 0) then Some false else (if int_eq n (pos 1) then Some true else None)

abbrev pub truth_layer : Layer → Option Bool
truth_layer (Object-F.Chr n) = truth_of n
truth_layer _ = None

abbrev pub truth_in : Object → Option Bool
truth_in value = truth_layer (out-Object value)

abbrev pub text_layer : Layer → Option (List ℕ)
text_layer (Object-F.Str text) = text
text_layer _ = None

abbrev pub text_in : Object → Option (List ℕ)
text_in value = text_layer (out-Object value)

abbrev pub texts_layer : Layer → Option (List (List ℕ))
texts_layer (Object-F.Arr kind values) = if same kind Str then each text_in values else None
texts_layer _ = None

abbrev pub texts_in : Object → Option (List (List ℕ))
texts_in value = texts_layer (out-Object value)

-- truth among numbers is 1 and 0 too
abbrev pub switch_layer : Layer → Option Bool
switch_layer (Object-F.Int n) = truth_of n
switch_layer _ = None

abbrev pub switch_in : Object → Option Bool
switch_in value = switch_layer (out-Object value)

abbrev pub pair_of : Option (List ℕ) → Option (List ℕ) → Option Pair
pair_of (Some name) (Some value) = Some (record { name = name; value = value })
pair_of _ _ = None

abbrev pub pair_in : Object × Object → Option Pair
pair_in pair = pair_of (text_in pair.0) (text_in pair.1)

abbrev pub pairs_layer : Layer → Option (List Pair)
pairs_layer (Object-F.Htb key value pairs) = if same key Str && same value Str
    then each pair_in pairs else None
pairs_layer _ = None

-- the variables of a buffer
abbrev pub pairs_in : Object → Option (List Pair)
pairs_in value = pairs_layer (out-Object value)
