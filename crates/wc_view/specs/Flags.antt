-- The flags of lines that a message tells.
use Rattle.std.specs.Prelude.{ℕ, List, [], ◌∷◌, Option, Some, None}
use Rattle.std.specs.Option.{option_and_then}
use Rattle.wc_objects.specs.declared.object.Object.{Object}
use Rattle.wc_objects.specs.declared.object.HdaItem.{HdaItem, out-HdaItem}
use Rattle.wc_keys.specs.declared.key.KeyList.TheVariants as l
use Rattle.wc_keys.specs.Keys.{list_text}
use Rattle.wc_keys.specs.Events.{line_path}
use Rattle.wc_view.specs.declared.flags.LineFlag.{LineFlag}
use Rattle.wc_view.specs.Each.{each}
use Rattle.wc_view.specs.Items.{items_on, last_pointer}
use Rattle.wc_view.specs.Values.{pointer_in, truth_in}

-- a line by the last pointer, which is that of the line's content, its buffer, and whether it is
-- displayed
abbrev pub flag_of : Option ℕ → List Object → Option LineFlag
flag_of content (buffer ∷ displayed ∷ []) =
    option_and_then (λ content. option_and_then (λ buffer. option_and_then (λ displayed.
    Some (record { buffer = buffer; content = content; displayed = displayed }))
    (truth_in displayed)) (pointer_in buffer)) content
flag_of content _ = None

unfoldable pub flag_in : HdaItem → Option LineFlag
flag_in item = flag_of (last_pointer item) (out-HdaItem item).values

-- the flags of a message, each of whose items says one
abbrev pub flags_on : List Object → Option (List LineFlag)
flags_on objects = option_and_then (each flag_in) (items_on line_path (list_text l.Flags) objects)
