-- The buffer that a message tells of by its number and its name alone.
use Rattle.std.specs.Prelude.{ℕ, List, [], ◌∷◌, Option, None}
use Rattle.std.specs.Option.{option_and_then}
use Rattle.wc_objects.specs.declared.object.Object.{Object}
use Rattle.wc_objects.specs.declared.object.HdaItem.{HdaItem, out-HdaItem}
use Rattle.wc_keys.specs.declared.key.KeyList.TheVariants as l
use Rattle.wc_keys.specs.Keys.{list_text}
use Rattle.wc_keys.specs.Events.{buffer_path}
use Rattle.wc_view.specs.Each.{only}
use Rattle.wc_view.specs.Items.{items_on, last_pointer}
use Rattle.wc_view.specs.Values.{number_in, text_in}

abbrev pub named_with : Option ℕ → List Object → Option ℕ
named_with buffer (number ∷ name ∷ []) = option_and_then (λ number. option_and_then (λ name. buffer)
    (text_in name)) (number_in number)
named_with buffer _ = None

unfoldable pub named_in : HdaItem → Option ℕ
named_in item = named_with (last_pointer item) (out-HdaItem item).values

-- the buffer of the one item, where its values can be a number and a name
abbrev pub buffer_named : List Object → Option ℕ
buffer_named objects = option_and_then named_in
    (option_and_then only (items_on buffer_path (list_text l.Named) objects))
