-- Whether the texts of what a server asks for are UTF-8, and a limit of lines is one that there may be.
use Rattle.std.specs.Prelude.{Bool, true, ◌&&◌, nat_le}
use Rattle.std.specs.List.{list_all}
use Rattle.std.specs.Str.{is_utf8}
use Rattle.wc_text.specs.declared.names.Pair.{Pair}
use Rattle.wc_nicklist.specs.declared.item.Item.{Item}
use Rattle.wc_buffers.specs.declared.row.BufferSpec.{BufferSpec}
use Rattle.wc_model.specs.declared.change.LineSpec.{LineSpec}
use Rattle.wc_model.specs.declared.change.What.{What}
use Rattle.wc_model.specs.declared.change.What.TheVariants as what

abbrev pub is_pair_text : Pair → Bool
is_pair_text pair = is_utf8 pair.name && is_utf8 pair.value

abbrev pub is_spec_text : BufferSpec → Bool
is_spec_text spec = is_utf8 spec.full_name && (is_utf8 spec.short_name
    && (is_utf8 spec.title && list_all is_pair_text spec.vars))

abbrev pub is_line_text : LineSpec → Bool
is_line_text line = list_all is_utf8 line.tags && (is_utf8 line.prefix && is_utf8 line.message)

abbrev pub is_item_text : Item → Bool
is_item_text item = is_utf8 item.name && (is_utf8 item.color
    && (is_utf8 item.prefix && is_utf8 item.prefix_color))

unfoldable pub is_change_text : What → Bool
is_change_text (what.Add spec) = is_spec_text spec
is_change_text what.Close = true
is_change_text (what.MoveTo number) = true
is_change_text (what.MergeInto into) = true
is_change_text what.Unmerge = true
is_change_text what.Hide = true
is_change_text what.Unhide = true
is_change_text (what.Rename name flips) = is_utf8 name
is_change_text (what.ShortName name) = is_utf8 name
is_change_text (what.Title title) = is_utf8 title
is_change_text (what.SetVar var) = is_pair_text var
is_change_text (what.RemoveVar name) = is_utf8 name
is_change_text (what.Print line) = is_line_text line
is_change_text what.Clear = true
is_change_text (what.Flips flips) = true
is_change_text (what.AddGroup parent item) = is_utf8 parent && is_item_text item
is_change_text (what.AddNick group item) = is_utf8 group && is_item_text item
is_change_text (what.RemoveGroup name) = true
is_change_text (what.RemoveNick name) = true
is_change_text (what.ChangeGroup item) = is_item_text item
is_change_text (what.ChangeNick item) = is_item_text item
is_change_text (what.Limit limit) = nat_le 1 limit && nat_le limit 4096
