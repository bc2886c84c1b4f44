-- How many of the oldest lines of a buffer went, by a message.
use Rattle.std.specs.Prelude.{List, [], ◌∷◌, Option, Some, None}
use Rattle.std.specs.Option.{option_and_then}
use Rattle.wc_objects.specs.declared.object.Object.{Object}
use Rattle.wc_objects.specs.declared.object.HdaItem.{HdaItem, out-HdaItem}
use Rattle.wc_keys.specs.declared.key.KeyList.TheVariants as l
use Rattle.wc_keys.specs.Keys.{list_text}
use Rattle.wc_keys.specs.Events.{buffer_path}
use Rattle.wc_view.specs.declared.trims.LineTrim.{LineTrim}
use Rattle.wc_view.specs.Each.{only}
use Rattle.wc_view.specs.Items.{items_on}
use Rattle.wc_view.specs.Values.{pointer_in, number_in}

abbrev pub trim_with : List Object → Option LineTrim
trim_with (buffer ∷ count ∷ []) = option_and_then (λ buffer. option_and_then (λ count.
    Some (record { buffer = buffer; count = count })) (number_in count)) (pointer_in buffer)
trim_with _ = None

unfoldable pub trim_in : HdaItem → Option LineTrim
trim_in item = trim_with (out-HdaItem item).values

-- what the one item says, where its values can be a buffer and a number
abbrev pub trim_on : List Object → Option LineTrim
trim_on objects = option_and_then trim_in
    (option_and_then only (items_on buffer_path (list_text l.Trimmed) objects))
