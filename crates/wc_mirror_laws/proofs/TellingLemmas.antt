-- The event of each change that commands ask for: it keeps the rules of messages, and it is told.
use Rattle.std.proofs.Common.{◌≡◌, ℕ, ◌-◌, ◌^◌, ◌≤◌, Bool, true, false, cond, List, [], ◌∷◌, length, Option, Some, None, option_map, refl, ap, arith}
use Rattle.std.specs.List.{AllByRecursion, list_any}
use Rattle.std.specs.Str.{IsUtf8}
use Rattle.std.proofs.lemmas.Bool.Decides.{nat_tests}
use Rattle.std.proofs.lemmas.List.Elements.{recursion_from_All}
use Rattle.wc_text.specs.declared.names.Handle.{Handle}
use Rattle.wc_lines.specs.declared.line.Line.{Line}
use Rattle.wc_buffers.specs.declared.row.BufferEntry.{BufferEntry}
use Rattle.wc_buffers.specs.Calls.{handle_of, entry_of}
use Rattle.wc_buffers.specs.Groups.{rows}
use Rattle.wc_buffers.specs.Kept.{IsBuffer}
use Rattle.wc_model.specs.declared.notice.EventKind.{EventKind}
use Rattle.wc_model.specs.declared.notice.EventKind.TheVariants as kind
use Rattle.wc_model.specs.declared.notice.Notice.{Notice}
use Rattle.wc_model.specs.declared.notice.Trim.{Trim}
use Rattle.wc_model.specs.Parts.{is_flipped}
use Rattle.wc_model.specs.World.{World, lines_at}
use Rattle.wc_lines.specs.Ring.{newest}
use Rattle.wc_objects.specs.declared.object.Object.{Object}
use Rattle.wc_objects.specs.declared.object.WireMessage.{WireMessage}
use Rattle.wc_objects.specs.Forms.{well_formed}
use Rattle.wc_objects.specs.Spelling.{message_bytes}
use Rattle.wc_objects.specs.Within.{ObjectWithin}
use Rattle.wc_keys.proofs.EventIds.{id_text}
use Rattle.wc_events.specs.LineObjects.{added_objects}
use Rattle.wc_events.specs.BufferObjects.{id_of, objects_of, event_objects, event_of, opened_objects, renamed_objects, title_objects, vars_objects, flag_objects, flagged_objects, trim_objects, trimmed_objects}
use Rattle.wc_events.proofs.Formed.{added_formed}
use Rattle.wc_events.proofs.EventsFormed.{opened_formed, placed_formed, renamed_formed, title_formed, vars_formed, named_formed, flags_formed, trims_formed}
use Rattle.wc_session.specs.Event.{if_fits, event_messages}
use Rattle.wc_session.specs.Sending.{fits, fitting}
use Rattle.wc_session.proofs.SendingLemmas.{fits_within}
use Rattle.wc_mirror_laws.specs.Printed.{IsPrinted}
use Rattle.wc_mirror_laws.specs.Worlds.{IsBufferKept, IsWorldKept}
use Rattle.wc_mirror_laws.specs.Bytes.{IsSpelt}
use Rattle.wc_mirror_laws.proofs.BufferSizes.{opened_size, placed_size, renamed_size, title_size, vars_size, trim_size}
use Rattle.wc_mirror_laws.proofs.RowLemmas.{row_has}
use Rattle.wc_mirror_laws.proofs.NoticeLemmas.{IsTrimTold, IsTelling}
use Rattle.wc_mirror_laws.proofs.SizeLemmas.{added_size, flags_size, named_size}
use Rattle.wc_mirror_laws.proofs.WithinLemmas.{event_within, opened_within, placed_within, renamed_within, title_within, vars_within, named_within, flags_within, trim_within}

-- ---- messages that keep the rules

abbrev pub AllSpelt : List WireMessage → Type 0
AllSpelt messages = AllByRecursion IsSpelt messages

-- objects that keep the rules
pub record AreGood (objects : List Object) : Type 0 where
  pub formed : well_formed objects ≡ true
  pub within : AllByRecursion ObjectWithin objects

pub one_spelt : (m : WireMessage) → IsUtf8 m.id → AreGood m.objects → fits m ≡ true → IsSpelt m
one_spelt m text good e = record {
  spells = record { id = text; formed = good.formed; spelling = refl; fits = grind (arith, nat_tests) };
  within = good.within;
}

pub fitting_spelt : (m : WireMessage) → IsUtf8 m.id → AreGood m.objects → AllSpelt (fitting m)
unfolding fitting
fitting_spelt m text good = by (fits m) refl where
  by : (b : Bool) → fits m ≡ b → AllSpelt (cond b (m ∷ []) [])
  by true e = (one_spelt m text good e, tt)
  by false e = tt

-- ---- the objects of events

-- what holds of objects, where there are some
abbrev OnObjects : (List Object → Type 0) → Option (List Object) → Type 0
OnObjects P None = Unit {0}
OnObjects P (Some objects) = P objects

on_entry : (P : List Object → Type 0) (f : BufferEntry → List Object) (o : Option BufferEntry) → ((e : BufferEntry) → o ≡ Some e → P (f e)) → OnObjects P (option_map f o)
on_entry P f None each = tt
on_entry P f (Some e) each = each e refl

on_newest : (P : List Object → Type 0) (buffer : Handle) (lines : List Line) → AllByRecursion IsPrinted lines → ((line : Line) → IsPrinted line → P (added_objects buffer line))
    → OnObjects P (option_map (added_objects buffer) (newest lines))
on_newest P buffer [] all each = tt
on_newest P buffer (line ∷ []) all each = each line all.0
on_newest P buffer (line ∷ next ∷ lines) all each = on_newest P buffer (next ∷ lines) all.1 each

on_trims : (P : List Object → Type 0) (trims : List Trim) → AllByRecursion IsTrimTold trims → ((trim : Trim) → IsTrimTold trim → P (trim_objects trim)) → OnObjects P (trimmed_objects trims)
on_trims P [] all each = tt
on_trims P (trim ∷ trims) all each = each trim all.0

on_flags : (P : List Object → Type 0) (buffer : Handle) (flips : List Handle) (lines : List Line) → P (flag_objects buffer flips lines) → OnObjects P (flagged_objects buffer flips lines)
on_flags P buffer flips lines p = by (list_any (is_flipped flips) lines) where
  by : (b : Bool) → OnObjects P (cond b (Some (flag_objects buffer flips lines)) None)
  by true = p
  by false = tt

entry_kept : (limit : ℕ) (v : World) (n : Notice) (e : BufferEntry) → IsWorldKept limit v → entry_of n.buffer v.groups ≡ Some e → IsBufferKept v.next e
entry_kept limit v n e is at = row_has (IsBufferKept v.next) handle_of n.buffer.0 (rows v.groups) e at is.each

entry_fit : (limit : ℕ) (v : World) (n : Notice) (e : BufferEntry) → IsWorldKept limit v → entry_of n.buffer v.groups ≡ Some e → IsBuffer e
entry_fit limit v n e is at = (entry_kept limit v n e is at).fit

objects_good : (limit : ℕ) (v : World) (k : EventKind) (n : Notice) → IsWorldKept limit v → IsTelling n → OnObjects AreGood (objects_of v k n)
unfolding objects_of
objects_good limit v kind.Opened n is tells = on_entry AreGood (opened_objects n) (entry_of n.buffer v.groups) (λ e at. record { formed = opened_formed n e tells.name (entry_fit limit v n e is at); within = opened_within n e tells })
objects_good limit v kind.Moved n is tells = record { formed = placed_formed n tells.name; within = placed_within n tells }
objects_good limit v kind.Merged n is tells = record { formed = placed_formed n tells.name; within = placed_within n tells }
objects_good limit v kind.Unmerged n is tells = record { formed = placed_formed n tells.name; within = placed_within n tells }
objects_good limit v kind.Hidden n is tells = record { formed = placed_formed n tells.name; within = placed_within n tells }
objects_good limit v kind.Unhidden n is tells = record { formed = placed_formed n tells.name; within = placed_within n tells }
objects_good limit v kind.Renamed n is tells = on_entry AreGood (renamed_objects n) (entry_of n.buffer v.groups) (λ e at. record { formed = renamed_formed n e tells.name (entry_fit limit v n e is at); within = renamed_within n e tells })
objects_good limit v kind.TitleChanged n is tells = on_entry AreGood (title_objects n) (entry_of n.buffer v.groups) (λ e at. record { formed = title_formed n e tells.name (entry_fit limit v n e is at); within = title_within n e tells })
objects_good limit v kind.VarAdded n is tells = on_entry AreGood (vars_objects n) (entry_of n.buffer v.groups) (λ e at. record { formed = vars_formed n e tells.name (entry_fit limit v n e is at); within = vars_within n e tells })
objects_good limit v kind.VarChanged n is tells = on_entry AreGood (vars_objects n) (entry_of n.buffer v.groups) (λ e at. record { formed = vars_formed n e tells.name (entry_fit limit v n e is at); within = vars_within n e tells })
objects_good limit v kind.VarRemoved n is tells = on_entry AreGood (vars_objects n) (entry_of n.buffer v.groups) (λ e at. record { formed = vars_formed n e tells.name (entry_fit limit v n e is at); within = vars_within n e tells })
objects_good limit v kind.Cleared n is tells = record { formed = named_formed n tells.name; within = named_within n tells }
objects_good limit v kind.Closing n is tells = record { formed = named_formed n tells.name; within = named_within n tells }
objects_good limit v kind.LineAdded n is tells =
    on_newest AreGood n.buffer (lines_at v n.buffer.0) (recursion_from_All IsPrinted (lines_at v n.buffer.0) (is.printed n.buffer.0))
    (λ line printed. record { formed = added_formed n.buffer line printed.text; within = event_within n.buffer line tells.buffer printed })
objects_good limit v kind.LineDataChanged n is tells =
    let lines = lines_at v n.buffer.0 in
    on_flags AreGood n.buffer n.flips lines
    (record { formed = flags_formed n.buffer n.flips lines; within = flags_within n.buffer n.flips lines tells.buffer (recursion_from_All IsPrinted lines (is.printed n.buffer.0)) })
objects_good limit v kind.Nicklist n is tells = tt
objects_good limit v kind.NicklistDiff n is tells = tt
objects_good limit v kind.NickTouched n is tells = tt
objects_good limit v kind.LimitSet n is tells = tt
objects_good limit v kind.LinesTrimmed n is tells = on_trims AreGood n.trims tells.trims (λ trim told. record { formed = trims_formed trim; within = trim_within trim told })

-- the event of a notice keeps the rules
pub event_spelt : (limit : ℕ) (v : World) (n : Notice) → IsWorldKept limit v → IsTelling n → AllSpelt (event_messages v n)
event_spelt limit v n is tells = by (event_objects v n) (objects_good limit v n.kind n is tells) where
  by : (o : Option (List Object)) → OnObjects AreGood o → AllSpelt (if_fits (option_map (λ objects. record { id = id_of n.kind; objects = objects }) o))
  by None good = tt
  by (Some objects) good = fitting_spelt (record { id = id_of n.kind; objects = objects }) (id_text n.kind) good

-- ---- each event is told

-- an event is short enough to be told
abbrev IsShort : EventKind → List Object → Type 0
IsShort k objects = length (message_bytes (id_of k) objects) ≤ 2 ^ 31 - 1

objects_short : (limit : ℕ) (v : World) (k : EventKind) (n : Notice) → limit ≤ 4096 → IsWorldKept limit v → IsTelling n → OnObjects (IsShort k) (objects_of v k n)
unfolding objects_of
objects_short limit v kind.Opened n most is tells = on_entry (IsShort kind.Opened) (opened_objects n) (entry_of n.buffer v.groups) (λ e at. let kept = entry_kept limit v n e is at in opened_size (id_of kind.Opened) n e (omega arith) tells kept.fit kept.names)
objects_short limit v kind.Moved n most is tells = placed_size (id_of kind.Moved) n (omega arith) tells
objects_short limit v kind.Merged n most is tells = placed_size (id_of kind.Merged) n (omega arith) tells
objects_short limit v kind.Unmerged n most is tells = placed_size (id_of kind.Unmerged) n (omega arith) tells
objects_short limit v kind.Hidden n most is tells = placed_size (id_of kind.Hidden) n (omega arith) tells
objects_short limit v kind.Unhidden n most is tells = placed_size (id_of kind.Unhidden) n (omega arith) tells
objects_short limit v kind.Renamed n most is tells = on_entry (IsShort kind.Renamed) (renamed_objects n) (entry_of n.buffer v.groups) (λ e at. let kept = entry_kept limit v n e is at in renamed_size (id_of kind.Renamed) n e (omega arith) tells kept.fit kept.names)
objects_short limit v kind.TitleChanged n most is tells = on_entry (IsShort kind.TitleChanged) (title_objects n) (entry_of n.buffer v.groups) (λ e at. let kept = entry_kept limit v n e is at in title_size (id_of kind.TitleChanged) n e (omega arith) tells kept.fit kept.names)
objects_short limit v kind.VarAdded n most is tells = on_entry (IsShort kind.VarAdded) (vars_objects n) (entry_of n.buffer v.groups) (λ e at. let kept = entry_kept limit v n e is at in vars_size (id_of kind.VarAdded) n e (omega arith) tells kept.fit kept.names)
objects_short limit v kind.VarChanged n most is tells = on_entry (IsShort kind.VarChanged) (vars_objects n) (entry_of n.buffer v.groups) (λ e at. let kept = entry_kept limit v n e is at in vars_size (id_of kind.VarChanged) n e (omega arith) tells kept.fit kept.names)
objects_short limit v kind.VarRemoved n most is tells = on_entry (IsShort kind.VarRemoved) (vars_objects n) (entry_of n.buffer v.groups) (λ e at. let kept = entry_kept limit v n e is at in vars_size (id_of kind.VarRemoved) n e (omega arith) tells kept.fit kept.names)
objects_short limit v kind.Cleared n most is tells = named_size (id_of kind.Cleared) n (omega arith) tells.buffer tells.short
objects_short limit v kind.Closing n most is tells = named_size (id_of kind.Closing) n (omega arith) tells.buffer tells.short
objects_short limit v kind.LineAdded n most is tells =
    on_newest (IsShort kind.LineAdded) n.buffer (lines_at v n.buffer.0) (recursion_from_All IsPrinted (lines_at v n.buffer.0) (is.printed n.buffer.0))
    (λ line printed. added_size (id_of kind.LineAdded) n.buffer line (omega arith) tells.buffer printed)
objects_short limit v kind.LineDataChanged n most is tells =
    let lines = lines_at v n.buffer.0 in
    let held = is.within n.buffer.0 in
    on_flags (IsShort kind.LineDataChanged) n.buffer n.flips lines
    (flags_size (id_of kind.LineDataChanged) n.buffer n.flips lines (omega arith) tells.buffer (omega arith) (recursion_from_All IsPrinted lines (is.printed n.buffer.0)))
objects_short limit v kind.Nicklist n most is tells = tt
objects_short limit v kind.NicklistDiff n most is tells = tt
objects_short limit v kind.NickTouched n most is tells = tt
objects_short limit v kind.LimitSet n most is tells = tt
objects_short limit v kind.LinesTrimmed n most is tells = on_trims (IsShort kind.LinesTrimmed) n.trims tells.trims (λ trim told. trim_size (id_of kind.LinesTrimmed) trim (omega arith) told)

-- a message that is short enough is sent
pub whole_message : (m : WireMessage) → length (message_bytes m.id m.objects) ≤ 2 ^ 31 - 1 → fitting m ≡ m ∷ []
unfolding fitting
whole_message m short = ap (λ b. cond b (m ∷ []) []) (fits_within m short)

-- the one message of a notice, where there is one
abbrev pub messages_of : Option WireMessage → List WireMessage
messages_of None = []
messages_of (Some m) = m ∷ []

-- no event is too long to be told
pub event_whole : (limit : ℕ) (v : World) (n : Notice) → limit ≤ 4096 → IsWorldKept limit v → IsTelling n → event_messages v n ≡ messages_of (event_of v n)
event_whole limit v n most is tells = by (event_objects v n) (objects_short limit v n.kind n most is tells) where
  message_of : List Object → WireMessage
  message_of objects = record { id = id_of n.kind; objects = objects }

  by : (o : Option (List Object)) → OnObjects (IsShort n.kind) o → if_fits (option_map message_of o) ≡ messages_of (option_map message_of o)
  by None short = refl
  by (Some objects) short = whole_message (message_of objects) short
