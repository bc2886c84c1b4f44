-- What is told of buffers is read as it was told.
use Rattle.std.proofs.Common.{◌≡◌, ℕ, ◌^◌, ◌-◌, Bool, true, false, cond, List, [], ◌∷◌, map, codes, Option, Some, refl, ap, ◌∙◌}
use Rattle.std.specs.Prelude.{bytes_eq, nat_le, option_map}
use Rattle.std.specs.Option.{option_and_then}
use denote.Hole.Carrier.{out}
use Rattle.wc_text.specs.declared.names.Handle.{Handle}
use Rattle.wc_text.specs.declared.names.Pair.{Pair}
use Rattle.wc_buffers.specs.declared.row.BufferEntry.{BufferEntry}
use Rattle.wc_objects.specs.declared.kind.Kind.TheVariants as k
use Rattle.wc_objects.specs.declared.object.Object.{Object}
use Rattle.wc_objects.specs.declared.object.Object.TheVariants as o
use Rattle.wc_objects.specs.declared.object.Object.TheViews.{out-Object, out-roll-Object}
use Rattle.wc_objects.specs.declared.object.HdaItem.{roll-HdaItem}
use Rattle.wc_model.specs.declared.notice.Notice.{Notice}
use Rattle.wc_model.specs.declared.notice.EventKind.{EventKind}
use Rattle.wc_model.specs.declared.notice.EventKind.TheVariants as event
use Rattle.wc_events.specs.LineObjects.{truth}
use Rattle.wc_events.specs.BufferObjects.{pair_of, table, about, opened_keys, opened_values, opened_objects, placed_keys, placed_values, placed_objects, renamed_keys, renamed_values, renamed_objects, title_keys, title_values, title_objects, vars_keys, vars_values, vars_objects, named_keys, named_values, named_objects}
use Rattle.wc_view.specs.declared.told_buffer.ToldBuffer.{ToldBuffer}
use Rattle.wc_keys.specs.declared.key.Key.{Key}
use Rattle.wc_view.specs.Each.{each, only}
use Rattle.wc_view.specs.Values.{switch_in, pair_in, pairs_in}
use Rattle.wc_view.specs.Items.{items_on}
use Rattle.wc_view.specs.ToldBuffer.{bare, carry, carry_all, buffer_in}
use Rattle.wc_view.specs.BufferFold.{keys_of, event_buffer, fold_buffers, changed_by}
use Rattle.wc_view.specs.Grouped.{MirrorGroups, with_event}
use Rattle.wc_view.specs.Ids.{IsFree}
use Rattle.wc_view.proofs.LineTold.{pointer_told, number_told, text_told, items_told}
use Rattle.wc_view.proofs.NoticeLaw.{other_id, message_of}

pub switch_told : (on : Bool) → switch_in (o.Int (truth on)) ≡ Some on
unfolding out-Object out
switch_told true = refl
switch_told false = refl

pair_told : (var : Pair) → pair_in (pair_of var) ≡ Some var
pair_told var = rw (text_told, text_told) refl

each_told : (vars : List Pair) → each pair_in (map pair_of vars) ≡ Some vars
each_told [] = refl
each_told (var ∷ vars) = rw (pair_told var, each_told vars) refl

pub pairs_told : (vars : List Pair) → pairs_in (table vars) ≡ Some vars
pairs_told vars = rw (← o.rolls-Htb k.Str k.Str (map pair_of vars), out-roll-Object) (each_told vars)

-- a number, which counts as the greatest that a message may hold where it is greater
abbrev pub cut : ℕ → ℕ
cut number = cond (nat_le number (2 ^ 31 - 1)) number (2 ^ 31 - 1)

-- ---- what each event carries
abbrev pub placed_told : Notice → ToldBuffer
placed_told notice = record {
  number = cut notice.number;
  prev = notice.prev.0;
  buffer = record (bare notice.buffer.0).buffer { full_name = notice.full_name };
}

abbrev pub opened_told : Notice → BufferEntry → ToldBuffer
opened_told notice e = record {
  number = cut notice.number;
  prev = notice.prev.0;
  buffer = record { handle = notice.buffer; full_name = notice.full_name; short_name = e.row.short_name; title = e.row.title; hidden = e.row.hidden; vars = e.vars };
}

abbrev pub renamed_told : Notice → BufferEntry → ToldBuffer
renamed_told notice e = record {
  number = cut notice.number;
  prev = 0;
  buffer = record (bare notice.buffer.0).buffer { full_name = notice.full_name; short_name = e.row.short_name; vars = e.vars };
}

abbrev pub title_told : Notice → BufferEntry → ToldBuffer
title_told notice e = record {
  number = cut notice.number;
  prev = 0;
  buffer = record (bare notice.buffer.0).buffer { full_name = notice.full_name; title = e.row.title };
}

abbrev pub vars_told : Notice → BufferEntry → ToldBuffer
vars_told notice e = record {
  number = cut notice.number;
  prev = 0;
  buffer = record (bare notice.buffer.0).buffer { full_name = notice.full_name; vars = e.vars };
}

abbrev pub named_told : Notice → ToldBuffer
named_told notice = record { number = cut notice.number; prev = 0; buffer = record (bare notice.buffer.0).buffer { full_name = notice.full_name } }

carried_told : (fields : List Key) (buffer : Handle) (values : List Object)
    → buffer_in fields (roll-HdaItem (record { pointers = buffer.0 ∷ []; values = values })) ≡ carry_all fields values (bare buffer.0)
unfolding buffer_in
carried_told fields buffer values = refl

read_about : (fields : List Key) (keys : List ℕ) (buffer : Handle) (values : List Object) → bytes_eq keys keys ≡ true
    → option_and_then (buffer_in fields) (option_and_then only (items_on (codes "buffer") keys (about keys buffer values))) ≡ carry_all fields values (bare buffer.0)
read_about fields keys buffer values same =
    ap (λ items. option_and_then (buffer_in fields) (option_and_then only items)) (items_told (codes "buffer") keys (roll-HdaItem (record { pointers = buffer.0 ∷ []; values = values }) ∷ []) refl same)
    ∙ carried_told fields buffer values

placed_read : (notice : Notice) → carry_all (keys_of event.Moved) (placed_values notice) (bare notice.buffer.0) ≡ Some (placed_told notice)
unfolding carry placed_values
placed_read notice = rw (number_told, text_told, pointer_told, pointer_told) refl

opened_read : (notice : Notice) (e : BufferEntry) → carry_all (keys_of event.Opened) (opened_values notice e) (bare notice.buffer.0) ≡ Some (opened_told notice e)
unfolding carry opened_values
opened_read notice e = rw (number_told, text_told notice.full_name, text_told e.row.short_name, switch_told, text_told e.row.title, pairs_told, pointer_told, pointer_told) refl

renamed_read : (notice : Notice) (e : BufferEntry) → carry_all (keys_of event.Renamed) (renamed_values notice e) (bare notice.buffer.0) ≡ Some (renamed_told notice e)
unfolding carry renamed_values
renamed_read notice e = rw (number_told, text_told notice.full_name, text_told e.row.short_name, pairs_told) refl

title_read : (notice : Notice) (e : BufferEntry) → carry_all (keys_of event.TitleChanged) (title_values notice e) (bare notice.buffer.0) ≡ Some (title_told notice e)
unfolding carry title_values
title_read notice e = rw (number_told, text_told notice.full_name, text_told e.row.title) refl

vars_read : (notice : Notice) (e : BufferEntry) → carry_all (keys_of event.VarAdded) (vars_values notice e) (bare notice.buffer.0) ≡ Some (vars_told notice e)
unfolding carry vars_values
vars_read notice e = rw (number_told, text_told, pairs_told) refl

named_read : (notice : Notice) → carry_all (keys_of event.Closing) (named_values notice) (bare notice.buffer.0) ≡ Some (named_told notice)
unfolding carry named_values
named_read notice = rw (number_told, text_told) refl

-- ---- what each event makes of the groups
abbrev Folds : List ℕ → Option MirrorGroups → EventKind → List Object → ToldBuffer → Type 0
Folds id part kind objects told = fold_buffers id part (message_of kind objects) ≡ option_map (with_event kind told) part

folded : (kind : EventKind) (told : Option ToldBuffer) (part : Option MirrorGroups) (is : ToldBuffer) → told ≡ Some is → changed_by kind told part ≡ option_map (with_event kind is) part
folded kind told part is e = ap (λ t. changed_by kind t part) e

pub opened_by : (notice : Notice) (e : BufferEntry) → event_buffer event.Opened (opened_objects notice e) ≡ Some (opened_told notice e)
unfolding event_buffer
opened_by notice e = read_about (keys_of event.Opened) opened_keys notice.buffer (opened_values notice e) refl ∙ opened_read notice e

pub opened_folds : (id : List ℕ) (part : Option MirrorGroups) (notice : Notice) (e : BufferEntry) → IsFree id → Folds id part event.Opened (opened_objects notice e) (opened_told notice e)
opened_folds id part notice e free =
    rw (other_id (codes "buffer_opened") id free) (folded event.Opened _ part (opened_told notice e) (opened_by notice e))

pub renamed_folds : (id : List ℕ) (part : Option MirrorGroups) (notice : Notice) (e : BufferEntry) → IsFree id → Folds id part event.Renamed (renamed_objects notice e) (renamed_told notice e)
unfolding event_buffer
renamed_folds id part notice e free =
    rw (other_id (codes "buffer_renamed") id free) (folded event.Renamed _ part (renamed_told notice e)
    (read_about (keys_of event.Renamed) renamed_keys notice.buffer (renamed_values notice e) refl ∙ renamed_read notice e))

pub title_folds : (id : List ℕ) (part : Option MirrorGroups) (notice : Notice) (e : BufferEntry) → IsFree id → Folds id part event.TitleChanged (title_objects notice e) (title_told notice e)
unfolding event_buffer
title_folds id part notice e free =
    rw (other_id (codes "buffer_title_changed") id free) (folded event.TitleChanged _ part (title_told notice e)
    (read_about (keys_of event.TitleChanged) title_keys notice.buffer (title_values notice e) refl ∙ title_read notice e))

vars_about : (notice : Notice) (e : BufferEntry) → option_and_then (buffer_in (keys_of event.VarAdded)) (option_and_then only (items_on (codes "buffer") vars_keys (vars_objects notice e))) ≡ Some (vars_told notice e)
vars_about notice e = read_about (keys_of event.VarAdded) vars_keys notice.buffer (vars_values notice e) refl ∙ vars_read notice e

pub added_folds : (id : List ℕ) (part : Option MirrorGroups) (notice : Notice) (e : BufferEntry) → IsFree id → Folds id part event.VarAdded (vars_objects notice e) (vars_told notice e)
unfolding event_buffer
added_folds id part notice e free = rw (other_id (codes "buffer_localvar_added") id free) (folded event.VarAdded _ part (vars_told notice e) (vars_about notice e))

pub changed_folds : (id : List ℕ) (part : Option MirrorGroups) (notice : Notice) (e : BufferEntry) → IsFree id → Folds id part event.VarChanged (vars_objects notice e) (vars_told notice e)
unfolding event_buffer
changed_folds id part notice e free = rw (other_id (codes "buffer_localvar_changed") id free) (folded event.VarChanged _ part (vars_told notice e) (vars_about notice e))

pub removed_folds : (id : List ℕ) (part : Option MirrorGroups) (notice : Notice) (e : BufferEntry) → IsFree id → Folds id part event.VarRemoved (vars_objects notice e) (vars_told notice e)
unfolding event_buffer
removed_folds id part notice e free = rw (other_id (codes "buffer_localvar_removed") id free) (folded event.VarRemoved _ part (vars_told notice e) (vars_about notice e))

pub closing_folds : (id : List ℕ) (part : Option MirrorGroups) (notice : Notice) → IsFree id → Folds id part event.Closing (named_objects notice) (named_told notice)
unfolding event_buffer
closing_folds id part notice free =
    rw (other_id (codes "buffer_closing") id free) (folded event.Closing _ part (named_told notice)
    (read_about (keys_of event.Closing) named_keys notice.buffer (named_values notice) refl ∙ named_read notice))

placed_about : (notice : Notice) → option_and_then (buffer_in (keys_of event.Moved)) (option_and_then only (items_on (codes "buffer") placed_keys (placed_objects notice))) ≡ Some (placed_told notice)
placed_about notice = read_about (keys_of event.Moved) placed_keys notice.buffer (placed_values notice) refl ∙ placed_read notice

pub moved_folds : (id : List ℕ) (part : Option MirrorGroups) (notice : Notice) → IsFree id → Folds id part event.Moved (placed_objects notice) (placed_told notice)
unfolding event_buffer
moved_folds id part notice free = rw (other_id (codes "buffer_moved") id free) (folded event.Moved _ part (placed_told notice) (placed_about notice))

pub merged_folds : (id : List ℕ) (part : Option MirrorGroups) (notice : Notice) → IsFree id → Folds id part event.Merged (placed_objects notice) (placed_told notice)
unfolding event_buffer
merged_folds id part notice free = rw (other_id (codes "buffer_merged") id free) (folded event.Merged _ part (placed_told notice) (placed_about notice))

pub unmerged_folds : (id : List ℕ) (part : Option MirrorGroups) (notice : Notice) → IsFree id → Folds id part event.Unmerged (placed_objects notice) (placed_told notice)
unfolding event_buffer
unmerged_folds id part notice free = rw (other_id (codes "buffer_unmerged") id free) (folded event.Unmerged _ part (placed_told notice) (placed_about notice))

pub hidden_folds : (id : List ℕ) (part : Option MirrorGroups) (notice : Notice) → IsFree id → Folds id part event.Hidden (placed_objects notice) (placed_told notice)
unfolding event_buffer
hidden_folds id part notice free = rw (other_id (codes "buffer_hidden") id free) (folded event.Hidden _ part (placed_told notice) (placed_about notice))

pub unhidden_folds : (id : List ℕ) (part : Option MirrorGroups) (notice : Notice) → IsFree id → Folds id part event.Unhidden (placed_objects notice) (placed_told notice)
unfolding event_buffer
unhidden_folds id part notice free = rw (other_id (codes "buffer_unhidden") id free) (folded event.Unhidden _ part (placed_told notice) (placed_about notice))
