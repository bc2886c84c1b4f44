-- What is told of buffers keeps the rules of messages.
use Rattle.std.proofs.Common.{◌≡◌, ℕ, true, ◌&&◌, List, [], ◌∷◌, filter, map, Option, None, Some, option_map, IfSome, refl, sym, subst}
use Rattle.std.specs.List.{list_all}
use Rattle.std.specs.Str.{IsUtf8, is_utf8}
use Rattle.std.proofs.lemmas.Str.{is_utf8-from_IsUtf8}
use denote.Hole.Carrier.{out}
use Rattle.wc_text.specs.declared.names.Handle.{Handle}
use Rattle.wc_text.specs.declared.names.Pair.{Pair}
use Rattle.wc_buffers.specs.declared.row.BufferEntry.{BufferEntry}
use Rattle.wc_buffers.specs.Kept.{AreVars, IsBuffer}
use Rattle.wc_lines.specs.declared.line.Line.{Line}
use Rattle.wc_model.specs.declared.notice.Notice.{Notice}
use Rattle.wc_model.specs.declared.notice.Trim.{Trim}
use Rattle.wc_model.specs.Parts.{is_flipped}
use Rattle.wc_objects.specs.declared.kind.Kind.{Kind}
use Rattle.wc_objects.specs.declared.kind.Kind.TheVariants as k
use Rattle.wc_objects.specs.declared.object.Object.{Object}
use Rattle.wc_objects.specs.declared.object.Object.TheVariants as o
use Rattle.wc_objects.specs.declared.object.Object.TheViews.{out-Object, out-roll-Object, out-roll-Hda}
use Rattle.wc_objects.specs.declared.object.Hda.{roll-Hda}
use Rattle.wc_objects.specs.declared.object.HdaItem.{HdaItem, roll-HdaItem}
use Rattle.wc_objects.specs.Forms.{kinds_of, simple_is, value_is, values_are, item_of, hda_is, object_is, well_formed}
use Rattle.wc_keys.specs.declared.key.KeyList.TheVariants as l
use Rattle.wc_keys.specs.Events.{buffer_path, line_path}
use Rattle.wc_keys.proofs.ListTexts.{list_is_text, list_names_kinds, buffer_path_is_text, line_path_is_text}
use Rattle.wc_events.specs.BufferObjects.{text, pair_of, table, about, told_objects, named_keys, placed_keys, opened_keys, renamed_keys, title_keys, vars_keys, named_values, placed_values, opened_values, renamed_values, title_values, vars_values, named_objects, placed_objects, opened_objects, renamed_objects, title_objects, vars_objects, flag_keys, flag_item, flag_items, flag_objects, trim_keys, trim_values, trim_objects}
use Rattle.wc_events.proofs.Formed.{int_formed, ptr_formed, chr_formed, str_formed}

pairs_simple : (vars : List Pair) → AreVars vars → list_all (λ pair. simple_is k.Str pair.0 && simple_is k.Str pair.1) (map pair_of vars) ≡ true
unfolding simple_is out-Object out
pairs_simple [] _ = refl
pairs_simple (var ∷ vars) h = rw (is_utf8-from_IsUtf8 var.name h.0.name, is_utf8-from_IsUtf8 var.value h.0.value) (pairs_simple vars h.1)

pub table_formed : (vars : List Pair) → AreVars vars → value_is k.Htb (table vars) ≡ true
unfolding value_is
table_formed vars h = rw (← o.rolls-Htb k.Str k.Str (map pair_of vars), out-roll-Object) (pairs_simple vars h)

-- items on the path `buffer`, under keys of these types
pub on_buffer_formed : (keys : List ℕ) (kinds : List Kind) (items : List HdaItem) → is_utf8 keys ≡ true → kinds_of keys ≡ Some kinds
    → list_all (λ item. item_of 1 (Some kinds) item) items ≡ true
    → well_formed (o.Hda (roll-Hda (record { path = Some buffer_path; keys = Some keys; items = items })) ∷ []) ≡ true
unfolding well_formed object_is hda_is
on_buffer_formed keys kinds items text are each =
    rw (← o.rolls-Hda (roll-Hda (record { path = Some buffer_path; keys = Some keys; items = items })), out-roll-Object, out-roll-Hda, buffer_path_is_text, text, are, each) refl

item_formed : (kinds : List Kind) (buffer : Handle) (values : List Object) → values_are kinds values ≡ true
    → item_of 1 (Some kinds) (roll-HdaItem (record { pointers = buffer.0 ∷ []; values = values })) ≡ true
unfolding item_of
item_formed kinds buffer values h = h

about_formed : (keys : List ℕ) (kinds : List Kind) (buffer : Handle) (values : List Object) → is_utf8 keys ≡ true → kinds_of keys ≡ Some kinds
    → values_are kinds values ≡ true → well_formed (about keys buffer values) ≡ true
about_formed keys kinds buffer values text are h = on_buffer_formed keys kinds _ text are (rw (item_formed kinds buffer values h) refl)

-- ---- each event

pub named_formed : (notice : Notice) → IsUtf8 notice.full_name → well_formed (named_objects notice) ≡ true
unfolding named_values
named_formed notice h =
    about_formed named_keys _ notice.buffer (named_values notice) (list_is_text l.Named) (list_names_kinds l.Named) (rw (int_formed, str_formed notice.full_name h) refl)

pub placed_formed : (notice : Notice) → IsUtf8 notice.full_name → well_formed (placed_objects notice) ≡ true
unfolding placed_values
placed_formed notice h =
    about_formed placed_keys _ notice.buffer (placed_values notice) (list_is_text l.Placed) (list_names_kinds l.Placed)
    (rw (int_formed, str_formed notice.full_name h, ptr_formed notice.prev.0, ptr_formed notice.next.0) refl)

pub opened_formed : (notice : Notice) (e : BufferEntry) → IsUtf8 notice.full_name → IsBuffer e → well_formed (opened_objects notice e) ≡ true
unfolding opened_values
opened_formed notice e h is =
    about_formed opened_keys _ notice.buffer (opened_values notice e) (list_is_text l.Opened) (list_names_kinds l.Opened)
    (rw (int_formed, str_formed notice.full_name h, str_formed e.row.short_name is.text.short_name, int_formed, str_formed e.row.title is.text.title, table_formed e.vars is.vars, ptr_formed notice.prev.0, ptr_formed notice.next.0) refl)

pub renamed_formed : (notice : Notice) (e : BufferEntry) → IsUtf8 notice.full_name → IsBuffer e → well_formed (renamed_objects notice e) ≡ true
unfolding renamed_values
renamed_formed notice e h is =
    about_formed renamed_keys _ notice.buffer (renamed_values notice e) (list_is_text l.Renamed) (list_names_kinds l.Renamed)
    (rw (int_formed, str_formed notice.full_name h, str_formed e.row.short_name is.text.short_name, table_formed e.vars is.vars) refl)

pub title_formed : (notice : Notice) (e : BufferEntry) → IsUtf8 notice.full_name → IsBuffer e → well_formed (title_objects notice e) ≡ true
unfolding title_values
title_formed notice e h is =
    about_formed title_keys _ notice.buffer (title_values notice e) (list_is_text l.Titled) (list_names_kinds l.Titled)
    (rw (int_formed, str_formed notice.full_name h, str_formed e.row.title is.text.title) refl)

pub vars_formed : (notice : Notice) (e : BufferEntry) → IsUtf8 notice.full_name → IsBuffer e → well_formed (vars_objects notice e) ≡ true
unfolding vars_values
vars_formed notice e h is =
    about_formed vars_keys _ notice.buffer (vars_values notice e) (list_is_text l.Variables) (list_names_kinds l.Variables)
    (rw (int_formed, str_formed notice.full_name h, table_formed e.vars is.vars) refl)

pub trims_formed : (trim : Trim) → well_formed (trim_objects trim) ≡ true
unfolding trim_values
trims_formed trim =
    about_formed trim_keys _ trim.buffer (trim_values trim) (list_is_text l.Trimmed) (list_names_kinds l.Trimmed) (rw (ptr_formed trim.buffer.0, int_formed) refl)

-- ---- what is told of a buffer that is there

told_by : (f : BufferEntry → List Object) (o : Option BufferEntry) (told : Option (List Object)) → ((e : BufferEntry) → IsBuffer e → well_formed (f e) ≡ true) → IfSome o IsBuffer → told ≡ option_map f o → IfSome told (λ objects. well_formed objects ≡ true)
told_by f None told each is at = subst (λ t. IfSome t (λ objects. well_formed objects ≡ true)) (sym at) tt
told_by f (Some e) told each is at = subst (λ t. IfSome t (λ objects. well_formed objects ≡ true)) (sym at) (each e is)

pub opened_told : (notice : Notice) (o : Option BufferEntry) (told : Option (List Object)) → IsUtf8 notice.full_name → IfSome o IsBuffer → told ≡ option_map (told_objects l.Opened notice) o → IfSome told (λ objects. well_formed objects ≡ true)
unfolding opened_values
opened_told notice o told text is at = told_by (opened_objects notice) o told (λ e kept. opened_formed notice e text kept) is at

pub renamed_told : (notice : Notice) (o : Option BufferEntry) (told : Option (List Object)) → IsUtf8 notice.full_name → IfSome o IsBuffer → told ≡ option_map (told_objects l.Renamed notice) o → IfSome told (λ objects. well_formed objects ≡ true)
unfolding renamed_values
renamed_told notice o told text is at = told_by (renamed_objects notice) o told (λ e kept. renamed_formed notice e text kept) is at

pub title_told : (notice : Notice) (o : Option BufferEntry) (told : Option (List Object)) → IsUtf8 notice.full_name → IfSome o IsBuffer → told ≡ option_map (told_objects l.Titled notice) o → IfSome told (λ objects. well_formed objects ≡ true)
unfolding title_values
title_told notice o told text is at = told_by (title_objects notice) o told (λ e kept. title_formed notice e text kept) is at

pub vars_told : (notice : Notice) (o : Option BufferEntry) (told : Option (List Object)) → IsUtf8 notice.full_name → IfSome o IsBuffer → told ≡ option_map (told_objects l.Variables notice) o → IfSome told (λ objects. well_formed objects ≡ true)
unfolding vars_values
vars_told notice o told text is at = told_by (vars_objects notice) o told (λ e kept. vars_formed notice e text kept) is at

-- ---- flags of lines

flag_item_formed : (buffer : Handle) (line : Line) → item_of 1 (Some (k.Ptr ∷ k.Chr ∷ [])) (flag_item buffer line) ≡ true
unfolding item_of
flag_item_formed buffer line = rw (ptr_formed, chr_formed) refl

flag_items_formed : (buffer : Handle) (lines : List Line) → list_all (λ item. item_of 1 (Some (k.Ptr ∷ k.Chr ∷ [])) item) (map (flag_item buffer) lines) ≡ true
flag_items_formed buffer [] = refl
flag_items_formed buffer (line ∷ lines) = rw (flag_item_formed buffer line) (flag_items_formed buffer lines)

pub flags_formed : (buffer : Handle) (flips : List Handle) (lines : List Line) → well_formed (flag_objects buffer flips lines) ≡ true
unfolding well_formed object_is hda_is
flags_formed buffer flips lines =
    rw (← o.rolls-Hda (roll-Hda (record { path = Some line_path; keys = Some flag_keys; items = flag_items buffer flips lines })), out-roll-Object, out-roll-Hda, line_path_is_text, list_is_text l.Flags, list_names_kinds l.Flags, flag_items_formed buffer (filter (is_flipped flips) lines)) refl
