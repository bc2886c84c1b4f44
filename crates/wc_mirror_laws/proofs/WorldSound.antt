-- The world of the core is sound, and so are the replies that tell of it.
use Rattle.std.proofs.Common.{ℕ, ◌^◌, ◌<◌, Bool, true, false, cond, List, [], ◌∷◌, ◌++◌, codes, Option, Some, None, arith}
use Rattle.std.specs.Prelude.{ℤ, bytes_eq, unwrap_or}
use Rattle.std.specs.List.{AllByRecursion}
use Rattle.std.specs.Int.{w32}
use Rattle.std.specs.Int.RustNames.{FitsSigned}
use Rattle.std.proofs.lemmas.List.Elements.{recursion_from_All}
use denote.Hole.Carrier.{out}
use Rattle.wc_text.specs.declared.names.Handle.{Handle}
use Rattle.wc_lines.specs.declared.line.Line.{Line}
use Rattle.wc_buffers.specs.declared.row.BufferEntry.{BufferEntry}
use Rattle.wc_buffers.specs.declared.row.BufferRow.{BufferRow}
use Rattle.wc_buffers.specs.Calls.{EntryGroups, entry_of, number}
use Rattle.wc_buffers.specs.Groups.{rows}
use Rattle.wc_model.specs.World.{World, lines_at}
use Rattle.wc_objects.specs.declared.object.InlVar.{InlVar}
use Rattle.wc_objects.specs.declared.object.Object.TheVariants as o
use Rattle.wc_objects.specs.declared.object.Object.TheViews.{out-Object, out-roll-Object}
use Rattle.wc_objects.specs.Within.{SimpleWithin, VariableWithin, ObjectWithin}
use Rattle.wc_events.specs.BufferObjects.{count, text}
use Rattle.wc_hdata.specs.Infos.{variable, variables_of, buffer_item, buffer_items, setting_of, setting_variables, setting_item, infolist_object}
use Rattle.wc_hdata.specs.Sound.{IsSoundBuffer, IsSoundLine, IsSound}
use Rattle.wc_hdata.specs.Steps.{all_buffers}
use Rattle.wc_hdata.proofs.SoundPlaces.{IsSoundHandle, buffers_sound}
use Rattle.wc_session.specs.Reply.{infolist_objects}
use Rattle.wc_mirror_laws.specs.Printed.{IsPrinted}
use Rattle.wc_mirror_laws.specs.Worlds.{IsBufferKept, IsWorldKept}
use Rattle.wc_mirror_laws.proofs.ListLemmas.{all_more}
use Rattle.wc_hdata.proofs.ValuesWithin.{count_within, flag_within}

-- ---- the world

buffer_sound : (next : ℕ) (e : BufferEntry) → next < 2 ^ 63 → IsBufferKept next e → IsSoundBuffer e
buffer_sound next e most is =
    let below = is.below in
    let own = is.own in
    let mixed = is.mixed in
    record { fit = is.fit; handle = omega arith; own = omega arith; mixed = omega arith }

line_sound : (line : Line) → IsPrinted line → IsSoundLine line
line_sound line is = record { text = is.text; handle = is.handle; content = is.content; notify = is.notify }

pub world_sound : (limit : ℕ) (world : World) → IsWorldKept limit world → IsSound world
world_sound limit world is = record {
  buffers = (let ended = is.ended in all_more (IsBufferKept world.next) IsSoundBuffer (rows world.groups) (λ e kept. buffer_sound world.next e (omega arith) kept) is.each);
  lines = λ h. all_more IsPrinted IsSoundLine (lines_at world h) line_sound (recursion_from_All IsPrinted (lines_at world h) (is.printed h));
}

-- ---- the list of buffers

abbrev Small : ℕ → Type 0
Small n = n < 2 ^ 64

ptr_variable : (name : List ℕ) (n : ℕ) → Small n → VariableWithin (variable name (o.Ptr n))
unfolding variable VariableWithin SimpleWithin out-Object out
ptr_variable name n small = small

int_variable : (name : List ℕ) (n : ℤ) → FitsSigned w32 n → VariableWithin (variable name (o.Int n))
unfolding variable VariableWithin SimpleWithin out-Object out
int_variable name n fit = fit

str_variable : (name value : List ℕ) → VariableWithin (variable name (text value))
unfolding variable VariableWithin SimpleWithin out-Object out
str_variable name value = tt

variables_within : (n : ℕ) (buffer : Handle) (row : BufferRow) → Small buffer.0 → AllByRecursion VariableWithin (variables_of (count n) buffer row)
unfolding variables_of
variables_within n buffer row small = (
  ptr_variable _ buffer.0 small,
  (int_variable _ (count n) (count_within n), (str_variable _ _, (str_variable _ _, (str_variable _ _, (int_variable _ _ (flag_within row.hidden), tt))))),
)

listed_within : (groups : EntryGroups) (buffers : List Handle) → AllByRecursion (IsSoundHandle groups) buffers → AllByRecursion (AllByRecursion VariableWithin) (buffer_items groups buffers)
listed_within groups [] all = tt
listed_within groups (buffer ∷ buffers) all = by (entry_of buffer groups) (listed_within groups buffers all.1) where
  by : (e : Option BufferEntry) → AllByRecursion (AllByRecursion VariableWithin) (buffer_items groups buffers)
      → AllByRecursion (AllByRecursion VariableWithin) (buffer_item groups buffer e ++ buffer_items groups buffers)
  by None rest = rest
  by (Some e) rest = (variables_within (unwrap_or (number buffer groups) 0) buffer e.row all.0.small, rest)

inl_within : (name : List ℕ) (items : List (List InlVar)) → AllByRecursion (AllByRecursion VariableWithin) items → ObjectWithin (o.Inl name items)
unfolding ObjectWithin
inl_within name items all = rw (← o.rolls-Inl name items, out-roll-Object) all

setting_within : (name : List ℕ) (value : Option (List ℕ)) → AllByRecursion (AllByRecursion VariableWithin) (setting_item name value)
unfolding setting_variables
setting_within name None = tt
setting_within name (Some value) = ((str_variable _ _, (str_variable _ _, tt)), tt)

pub infolist_within : (limit : ℕ) (world : World) (name argument : List ℕ) → IsWorldKept limit world → AllByRecursion ObjectWithin (infolist_objects world name argument)
unfolding infolist_objects infolist_object
infolist_within limit world name argument is = (inl_within name _ (by (bytes_eq name (codes "buffer")) (bytes_eq name (codes "option"))), tt) where
  by : (buffers options : Bool) → AllByRecursion (AllByRecursion VariableWithin) (cond buffers (buffer_items world.groups (all_buffers world.groups)) (cond options (setting_item argument (setting_of argument)) []))
  by true options = listed_within world.groups (all_buffers world.groups) (buffers_sound world (world_sound limit world is))
  by false true = setting_within argument (setting_of argument)
  by false false = tt
