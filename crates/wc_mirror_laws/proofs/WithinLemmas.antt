-- The numbers of objects lie within their types.
use Rattle.std.proofs.Common.{ℕ, ◌^◌, ◌<◌, List, [], ◌∷◌, filter, Some, arith}
use Rattle.std.specs.Prelude.{codes}
use Rattle.std.specs.Int.{w8}
use Rattle.std.specs.Int.RustNames.{FitsSigned}
use Rattle.std.specs.List.{AllByRecursion}
use Rattle.wc_text.specs.declared.names.Handle.{Handle}
use Rattle.wc_lines.specs.declared.line.Line.{Line}
use Rattle.wc_nicklist.specs.declared.item.Item.{Item}
use Rattle.wc_nickdiff.specs.declared.diff_item.DiffItem.{DiffItem}
use Rattle.wc_nickdiff.specs.declared.diff_item.Mark.{Mark}
use Rattle.wc_nickdiff.specs.declared.diff_item.Mark.TheVariants as mark
use Rattle.wc_buffers.specs.declared.row.BufferEntry.{BufferEntry}
use Rattle.wc_model.specs.declared.notice.Notice.{Notice}
use Rattle.wc_model.specs.declared.notice.Trim.{Trim}
use Rattle.wc_model.specs.Parts.{is_flipped}
use Rattle.wc_objects.specs.declared.object.Object.{Object}
use Rattle.wc_objects.specs.declared.object.Object.TheVariants as o
use Rattle.wc_objects.specs.declared.object.Object.TheViews.{out-roll-Object, out-roll-Hda}
use Rattle.wc_objects.specs.declared.object.Hda.{Hda, roll-Hda}
use Rattle.wc_objects.specs.declared.object.HdaItem.{HdaItem, roll-HdaItem}
use Rattle.wc_objects.specs.Within.{ValueWithin, ItemWithin, HdaWithin, ObjectWithin}
use Rattle.wc_keys.specs.Events.{line_path}
use Rattle.wc_events.specs.LineObjects.{truth, count, moment, line_keys, line_values, added_item, added_objects}
use Rattle.wc_events.specs.BufferObjects.{about, opened_keys, opened_values, opened_objects, placed_keys, placed_values, placed_objects, renamed_keys, renamed_values, renamed_objects, title_keys, title_values, title_objects, vars_keys, vars_values, vars_objects, named_keys, named_values, named_objects, flag_keys, flag_item, flag_items, flag_objects, trim_keys, trim_values, trim_objects}
use Rattle.wc_events.specs.NickObjects.{nick_path, nick_keys, nick_values, nick_item, mark_code, diff_item, nick_objects}
use Rattle.wc_hdata.proofs.ValuesWithin.{moment_within, count_within, truth_within, flag_within, value_tim, value_chr, value_int, value_ptr, value_str, value_texts, value_table}
use Rattle.wc_mirror_laws.specs.Printed.{IsPrinted}
use Rattle.wc_mirror_laws.proofs.ListLemmas.{all_filter, all_map}
use Rattle.wc_mirror_laws.proofs.NoticeLemmas.{IsTrimTold, IsTelling}

-- ---- objects of items

pub hda_within : (h : Hda) → HdaWithin h → ObjectWithin (o.Hda h)
unfolding ObjectWithin
hda_within h all = rw (← o.rolls-Hda h, out-roll-Object) all

path_within : (path keys : List ℕ) (items : List HdaItem) → AllByRecursion ItemWithin items → HdaWithin (roll-Hda (record { path = Some path; keys = Some keys; items = items }))
unfolding HdaWithin
path_within path keys items all = rw out-roll-Hda all

pub items_within : (path keys : List ℕ) (items : List HdaItem) → AllByRecursion ItemWithin items → AllByRecursion ObjectWithin (o.Hda (roll-Hda (record { path = Some path; keys = Some keys; items = items })) ∷ [])
items_within path keys items all = (hda_within _ (path_within path keys items all), tt)

-- ---- lines

values_within : (buffer : Handle) (line : Line) → buffer.0 < 2 ^ 64 → IsPrinted line → AllByRecursion ValueWithin (line_values buffer line)
unfolding line_values
values_within buffer line small is = (
  value_ptr buffer.0 small,
  (
    value_int (count line.id) (count_within line.id),
    (
      value_tim (moment line.date) (moment_within line.date),
      (
        value_int (count line.usec) (count_within line.usec),
        (
          value_tim (moment line.date_printed) (moment_within line.date_printed),
          (
            value_int (count line.usec_printed) (count_within line.usec_printed),
            (
              value_chr (truth line.displayed) (truth_within line.displayed),
              (
                value_chr line.notify is.notify,
                (
                  value_chr (truth line.highlight) (truth_within line.highlight),
                  (
                    value_texts line.tags,
                    (value_str line.prefix, (value_str line.message, tt)),
                  ),
                ),
              ),
            ),
          ),
        ),
      ),
    ),
  ),
)

added_within : (buffer : Handle) (line : Line) → buffer.0 < 2 ^ 64 → IsPrinted line → ItemWithin (added_item buffer line)
unfolding ItemWithin added_item
added_within buffer line small is = ((is.content, tt), values_within buffer line small is)

pub event_within : (buffer : Handle) (line : Line) → buffer.0 < 2 ^ 64 → IsPrinted line → AllByRecursion ObjectWithin (added_objects buffer line)
event_within buffer line small is = items_within (codes "line_data") line_keys (added_item buffer line ∷ []) (added_within buffer line small is, tt)

-- lines whose flags differ
flag_within_item : (buffer : Handle) (line : Line) → buffer.0 < 2 ^ 64 → IsPrinted line → ItemWithin (flag_item buffer line)
unfolding ItemWithin
flag_within_item buffer line small is = ((is.content, tt), (value_ptr buffer.0 small, (value_chr (truth line.displayed) (truth_within line.displayed), tt)))

pub flags_within : (buffer : Handle) (flips : List Handle) (lines : List Line) → buffer.0 < 2 ^ 64 → AllByRecursion IsPrinted lines → AllByRecursion ObjectWithin (flag_objects buffer flips lines)
flags_within buffer flips lines small all =
    items_within line_path flag_keys (flag_items buffer flips lines)
    (all_map IsPrinted ItemWithin (flag_item buffer) (filter (is_flipped flips) lines) (λ line printed. flag_within_item buffer line small printed) (all_filter IsPrinted (is_flipped flips) lines all))

-- ---- buffers

pub item_within : (buffer : ℕ) (values : List Object) → buffer < 2 ^ 64 → AllByRecursion ValueWithin values → ItemWithin (roll-HdaItem (record { pointers = buffer ∷ []; values = values }))
unfolding ItemWithin
item_within buffer values small all = ((small, tt), all)

about_within : (keys : List ℕ) (buffer : Handle) (values : List Object) → buffer.0 < 2 ^ 64 → AllByRecursion ValueWithin values → AllByRecursion ObjectWithin (about keys buffer values)
about_within keys buffer values small all =
    items_within (codes "buffer") keys (roll-HdaItem (record { pointers = buffer.0 ∷ []; values = values }) ∷ []) (item_within buffer.0 values small all, tt)

opened_all : (n : Notice) (e : BufferEntry) → IsTelling n → AllByRecursion ValueWithin (opened_values n e)
unfolding opened_values
opened_all n e is = (
  value_int _ (count_within n.number),
  (value_str _, (value_str _, (value_int _ (flag_within e.row.hidden), (value_str _, (value_table e.vars, (value_ptr _ is.prev, (value_ptr _ is.next, tt))))))),
)

pub opened_within : (n : Notice) (e : BufferEntry) → IsTelling n → AllByRecursion ObjectWithin (opened_objects n e)
opened_within n e is = about_within opened_keys n.buffer (opened_values n e) is.buffer (opened_all n e is)

placed_all : (n : Notice) → IsTelling n → AllByRecursion ValueWithin (placed_values n)
unfolding placed_values
placed_all n is = (value_int _ (count_within n.number), (value_str _, (value_ptr _ is.prev, (value_ptr _ is.next, tt))))

pub placed_within : (n : Notice) → IsTelling n → AllByRecursion ObjectWithin (placed_objects n)
placed_within n is = about_within placed_keys n.buffer (placed_values n) is.buffer (placed_all n is)

renamed_all : (n : Notice) (e : BufferEntry) → AllByRecursion ValueWithin (renamed_values n e)
unfolding renamed_values
renamed_all n e = (value_int _ (count_within n.number), (value_str _, (value_str _, (value_table e.vars, tt))))

pub renamed_within : (n : Notice) (e : BufferEntry) → IsTelling n → AllByRecursion ObjectWithin (renamed_objects n e)
renamed_within n e is = about_within renamed_keys n.buffer (renamed_values n e) is.buffer (renamed_all n e)

title_all : (n : Notice) (e : BufferEntry) → AllByRecursion ValueWithin (title_values n e)
unfolding title_values
title_all n e = (value_int _ (count_within n.number), (value_str _, (value_str _, tt)))

pub title_within : (n : Notice) (e : BufferEntry) → IsTelling n → AllByRecursion ObjectWithin (title_objects n e)
title_within n e is = about_within title_keys n.buffer (title_values n e) is.buffer (title_all n e)

vars_all : (n : Notice) (e : BufferEntry) → AllByRecursion ValueWithin (vars_values n e)
unfolding vars_values
vars_all n e = (value_int _ (count_within n.number), (value_str _, (value_table e.vars, tt)))

pub vars_within : (n : Notice) (e : BufferEntry) → IsTelling n → AllByRecursion ObjectWithin (vars_objects n e)
vars_within n e is = about_within vars_keys n.buffer (vars_values n e) is.buffer (vars_all n e)

named_all : (n : Notice) → AllByRecursion ValueWithin (named_values n)
unfolding named_values
named_all n = (value_int _ (count_within n.number), (value_str _, tt))

pub named_within : (n : Notice) → IsTelling n → AllByRecursion ObjectWithin (named_objects n)
named_within n is = about_within named_keys n.buffer (named_values n) is.buffer (named_all n)

trim_all : (trim : Trim) → IsTrimTold trim → AllByRecursion ValueWithin (trim_values trim)
unfolding trim_values
trim_all trim told = (value_ptr _ told.buffer, (value_int _ (count_within trim.count), tt))

pub trim_within : (trim : Trim) → IsTrimTold trim → AllByRecursion ObjectWithin (trim_objects trim)
trim_within trim told = about_within trim_keys trim.buffer (trim_values trim) told.buffer (trim_all trim told)

-- ---- nicklists

nick_all : (i : Item) → AllByRecursion ValueWithin (nick_values i)
unfolding nick_values
nick_all i = (
  value_chr _ (truth_within i.is_group),
  (
    value_chr _ (truth_within i.visible),
    (value_int _ (count_within i.level), (value_str i.name, (value_str i.color, (value_str i.prefix, (value_str i.prefix_color, tt))))),
  ),
)

pub nick_within : (buffer : Handle) (i : Item) → buffer.0 < 2 ^ 64 → i.handle.0 < 2 ^ 64 → ItemWithin (nick_item buffer i)
unfolding ItemWithin
nick_within buffer i small own = ((small, (own, tt)), nick_all i)

mark_within : (m : Mark) → FitsSigned w8 (mark_code m)
mark_within mark.Parent = record { sfits = omega arith }
mark_within mark.Added = record { sfits = omega arith }
mark_within mark.Removed = record { sfits = omega arith }
mark_within mark.Changed = record { sfits = omega arith }

pub diff_within : (buffer : Handle) (d : DiffItem) → buffer.0 < 2 ^ 64 → d.item.handle.0 < 2 ^ 64 → ItemWithin (diff_item buffer d)
unfolding ItemWithin
diff_within buffer d small own = ((small, (own, tt)), (value_chr _ (mark_within d.mark), nick_all d.item))

pub nicks_within : (items : List HdaItem) → AllByRecursion ItemWithin items → AllByRecursion ObjectWithin (nick_objects items)
nicks_within items all = items_within nick_path nick_keys items all
