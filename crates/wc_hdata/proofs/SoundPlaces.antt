-- What a path reaches in a sound world is sound.
use Rattle.std.proofs.Common.{◌≡◌, ℕ, ◌-◌, ◌^◌, ◌<◌, Bool, true, false, cond, eqb, List, [], ◌∷◌, map, length, find, flat_map, Option, Some, None, option_map, sym, subst, arith}
use Rattle.std.specs.List.{AllByRecursion}
use Rattle.wc_text.specs.declared.names.Handle.{Handle}
use Rattle.wc_buffers.specs.declared.row.BufferEntry.{BufferEntry}
use Rattle.wc_buffers.specs.Calls.{EntryGroups, handle_of, entry_of, is_there}
use Rattle.wc_buffers.specs.Groups.{rows}
use Rattle.wc_buffers.specs.Kept.{handles}
use Rattle.wc_model.specs.World.{World, lines_at}
use Rattle.wc_hdata.specs.declared.count.Count.{Count}
use Rattle.wc_hdata.specs.declared.element.Element.{Element}
use Rattle.wc_hdata.specs.declared.element.Element.TheVariants as element
use Rattle.wc_hdata.specs.declared.path.Path.{Path}
use Rattle.wc_hdata.specs.declared.path.Start.{Start}
use Rattle.wc_hdata.specs.declared.path.Start.TheVariants as start
use Rattle.wc_hdata.specs.declared.path.Step.{Step}
use Rattle.wc_hdata.specs.declared.place.LineList.{LineList}
use Rattle.wc_hdata.specs.declared.place.LineList.TheVariants.{Own, Mixed}
use Rattle.wc_hdata.specs.declared.variable.Variable.{Variable}
use Rattle.wc_hdata.specs.declared.variable.Variable.TheVariants as by_name
use Rattle.wc_hdata.specs.Along.{along}
use Rattle.wc_hdata.specs.Kept.{IsThere}
use Rattle.wc_hdata.specs.Lists.{held_by, own_lines, lines_of_all, is_in, group_with, group_of, lines_in, list_of_group}
use Rattle.wc_hdata.specs.Reached.{HeldLine, Place, Buffer, Lines, Line_at, Data_at}
use Rattle.wc_hdata.specs.Refusals.{reached, reached_from}
use Rattle.wc_hdata.specs.Sound.{IsSoundBuffer, IsSoundLine, IsSound}
use Rattle.wc_hdata.specs.Starts.{has_own, is_named, named_in, own_at, mixed_among, line_among, line_at, lines_from, or_else, place_of_line, starts, at_pointer, at_buffer}
use Rattle.wc_hdata.specs.Steps.{all_buffers, buffers_from, from_buffer, from_data, from_line, from_lines, place_in, reach}
use Rattle.wc_hdata.specs.Walk.{Node, list_pointer, row_number, pointer_of, node_at, nodes_at, onward, onward_all, nodes_reached}
use Rattle.wc_hdata.proofs.DumpWalks.{all_handles}
use Rattle.wc_hdata.proofs.Everywhere.{all_append, all_front, all_back, all_along, all_map}
use Rattle.wc_hdata.proofs.KeptLemmas.{all_sorted, all_there}

-- ---- what is found

abbrev pub OnSome : {X : Type 0} → (X → Type 0) → Option X → Type 0
OnSome P None = Unit {0}
OnSome P (Some x) = P x

found_is : {X : Type 0} (P : X → Type 0) (p : X → Bool) (xs : List X) → AllByRecursion P xs → OnSome P (find p xs)
found_is P p [] a = tt
found_is P p (x ∷ xs) a = by (p x) (found_is P p xs a.1) where
  by : (b : Bool) → OnSome P (find p xs) → OnSome P (cond b (Some x) (find p xs))
  by true rest = a.0
  by false rest = rest

-- the same of a list that is made of lists
each_flat : {X Y : Type 0} (P : X → Type 0) (Q : Y → Type 0) (f : X → List Y) (xs : List X) → ((x : X) → P x → AllByRecursion Q (f x)) → AllByRecursion P xs → AllByRecursion Q (flat_map f xs)
each_flat P Q f [] each all = tt
each_flat P Q f (x ∷ xs) each all = all_append Q (f x) (flat_map f xs) (each x all.0) (each_flat P Q f xs each all.1)

-- ---- places

-- a buffer that is there, of a handle of 64 bits
pub record IsSoundHandle (groups : EntryGroups) (h : Handle) : Type 0 where
  pub there : is_there h groups ≡ true
  pub small : h.0 < 2 ^ 64

pub record IsSoundHeld (held : HeldLine) : Type 0 where
  pub buffer : held.buffer.0 < 2 ^ 64
  pub line : IsSoundLine held.line

abbrev pub IsSoundList : LineList → Type 0
IsSoundList (Own buffer) = buffer.0 < 2 ^ 64
IsSoundList (Mixed buffer) = Unit {0}

abbrev pub IsSoundPlace : EntryGroups → Place → Type 0
IsSoundPlace groups (Buffer buffer) = IsSoundHandle groups buffer
IsSoundPlace groups (Lines list) = IsSoundList list
IsSoundPlace groups (Line_at held) = IsSoundHeld held
IsSoundPlace groups (Data_at held) = IsSoundHeld held

-- ---- the buffers

each_handle : (groups : EntryGroups) (es : List BufferEntry) → AllByRecursion IsSoundBuffer es → AllByRecursion (IsThere groups) (map (λ (e : BufferEntry). e.row.handle) es)
    → AllByRecursion (IsSoundHandle groups) (map (λ (e : BufferEntry). e.row.handle) es)
each_handle groups [] sound there = tt
each_handle groups (e ∷ es) sound there = (record { there = there.0; small = sound.0.handle }, each_handle groups es sound.1 there.1)

pub buffers_sound : (world : World) → IsSound world → AllByRecursion (IsSoundHandle world.groups) (all_buffers world.groups)
buffers_sound world is =
    subst (AllByRecursion (IsSoundHandle world.groups)) (sym (all_handles world.groups))
    (each_handle world.groups (rows world.groups) is.buffers (subst (AllByRecursion (IsThere world.groups)) (all_handles world.groups) (all_there world.groups)))

-- ---- lists of lines

own_sound : (world : World) (buffer : Handle) → IsSound world → buffer.0 < 2 ^ 64 → AllByRecursion IsSoundHeld (own_lines world buffer)
own_sound world buffer is small = all_map IsSoundLine IsSoundHeld (held_by buffer) (λ line sound. record { buffer = small; line = sound }) (lines_at world buffer.0) (is.lines buffer.0)

group_sound : (P : Handle → Type 0) (buffer : ℕ) (groups : List (List Handle)) → AllByRecursion P (flat_map (λ group. group) groups) → AllByRecursion P (group_with buffer groups)
group_sound P buffer [] all = tt
group_sound P buffer (group ∷ groups) all = by (is_in buffer group) (group_sound P buffer groups (all_back P group (flat_map (λ group. group) groups) all)) where
  by : (b : Bool) → AllByRecursion P (group_with buffer groups) → AllByRecursion P (cond b group (group_with buffer groups))
  by true rest = all_front P group (flat_map (λ group. group) groups) all
  by false rest = rest

pub lines_sound : (world : World) (list : LineList) → IsSound world → IsSoundList list → AllByRecursion IsSoundHeld (lines_in world list)
lines_sound world (Own buffer) is small = own_sound world buffer is small
lines_sound world (Mixed buffer) is small =
    all_sorted IsSoundHeld (lines_of_all world (group_of world.groups buffer.0))
    (each_flat (IsSoundHandle world.groups) IsSoundHeld (own_lines world) (group_of world.groups buffer.0) (λ h kept. own_sound world h is kept.small)
    (group_sound (IsSoundHandle world.groups) buffer.0 (handles world.groups) (buffers_sound world is)))

abbrev AreSound : World → List Place → Type 0
AreSound world places = AllByRecursion (IsSoundPlace world.groups) places

lines_at_sound : (world : World) (count : Count) (at : ℕ) (lines : List HeldLine) → AllByRecursion IsSoundHeld lines → AreSound world (map Line_at (along count at lines))
lines_at_sound world count at lines all = all_map IsSoundHeld (IsSoundPlace world.groups) Line_at (λ held kept. kept) (along count at lines) (all_along IsSoundHeld count at lines all)

buffers_at_sound : (world : World) (count : Count) (at : ℕ) → IsSound world → AreSound world (map Buffer (along count at (all_buffers world.groups)))
buffers_at_sound world count at is =
    all_map (IsSoundHandle world.groups) (IsSoundPlace world.groups) Buffer (λ h kept. kept) (along count at (all_buffers world.groups))
    (all_along (IsSoundHandle world.groups) count at (all_buffers world.groups) (buffers_sound world is))

-- ---- steps

shown_sound : (buffer : Handle) (group : List Handle) → buffer.0 < 2 ^ 64 → IsSoundList (list_of_group buffer group)
shown_sound buffer [] small = small
shown_sound buffer (first ∷ []) small = small
shown_sound buffer (first ∷ (second ∷ others)) small = tt

pub reach_sound : (world : World) (step : Step) (place : Place) → IsSound world → IsSoundPlace world.groups place → AreSound world (reach world step place)
unfolding reach
reach_sound world step (Buffer buffer) is kept = by step.variable where
  by : (variable : Variable) → AreSound world (from_buffer world variable buffer)
  by by_name.OwnLines = (kept.small, tt)
  by by_name.Lines = (shown_sound buffer (group_of world.groups buffer.0) kept.small, tt)
  by by_name.FirstLine = tt
  by by_name.LastLine = tt
  by by_name.Data = tt
  by by_name.Buffer = tt
reach_sound world step (Lines list) is kept = by step.variable where
  lines : List HeldLine
  lines = lines_in world list

  by : (variable : Variable) → AreSound world (from_lines world variable step.count list)
  by by_name.OwnLines = tt
  by by_name.Lines = tt
  by by_name.FirstLine = lines_at_sound world step.count 0 lines (lines_sound world list is kept)
  by by_name.LastLine = lines_at_sound world step.count (length lines - 1) lines (lines_sound world list is kept)
  by by_name.Data = tt
  by by_name.Buffer = tt
reach_sound world step (Line_at held) is kept = by step.variable where
  by : (variable : Variable) → AreSound world (from_line variable held)
  by by_name.OwnLines = tt
  by by_name.Lines = tt
  by by_name.FirstLine = tt
  by by_name.LastLine = tt
  by by_name.Data = (kept, tt)
  by by_name.Buffer = tt
reach_sound world step (Data_at held) is kept = by step.variable where
  by : (variable : Variable) → AreSound world (from_data world variable step.count held)
  by by_name.OwnLines = tt
  by by_name.Lines = tt
  by by_name.FirstLine = tt
  by by_name.LastLine = tt
  by by_name.Data = tt
  by by_name.Buffer = buffers_at_sound world step.count (place_in held.buffer (all_buffers world.groups)) is

-- ---- where a path begins

lists_sound : (world : World) (pointer : ℕ) (is : IsSound world) (own mixed : Option Handle) → OnSome (IsSoundHandle world.groups) own
    → OnSome (AreSound world) (option_map (λ list. Lines list ∷ []) (or_else (option_map Own own) (option_map Mixed mixed)))
lists_sound world pointer is None None kept = tt
lists_sound world pointer is None (Some first) kept = (tt, tt)
lists_sound world pointer is (Some buffer) mixed kept = (kept.small, tt)

among_sound : (world : World) (element : Element) (pointer : ℕ) (buffers : List Handle) → IsSound world → AllByRecursion (IsSoundHandle world.groups) buffers
    → OnSome IsSoundHeld (line_among world element pointer buffers)
among_sound world element pointer [] is all = tt
among_sound world element pointer (buffer ∷ buffers) is all =
    by (named_in element pointer (own_lines world buffer)) (found_is IsSoundHeld (λ held. is_named element pointer held.line) (own_lines world buffer) (own_sound world buffer is all.0.small))
    (among_sound world element pointer buffers is all.1) where
      by : (o : Option HeldLine) → OnSome IsSoundHeld o → OnSome IsSoundHeld (line_among world element pointer buffers) → OnSome IsSoundHeld (or_else o (line_among world element pointer buffers))
      by None here rest = rest
      by (Some held) here rest = here

line_sound : (world : World) (count : Count) (o : Option HeldLine) → IsSound world → OnSome IsSoundHeld o → OnSome (AreSound world) (option_map (lines_from world count) o)
line_sound world count None is kept = tt
line_sound world count (Some held) is kept =
    lines_at_sound world count (place_of_line held.line.handle.0 (own_lines world held.buffer)) (own_lines world held.buffer) (own_sound world held.buffer is kept.buffer)

data_sound : (world : World) (o : Option HeldLine) → OnSome IsSoundHeld o → OnSome (AreSound world) (option_map (λ held. Data_at held ∷ []) o)
data_sound world None kept = tt
data_sound world (Some held) kept = (kept, tt)

buffer_sound : (world : World) (count : Count) (pointer : ℕ) → IsSound world → OnSome (AreSound world) (at_buffer world.groups count pointer)
buffer_sound world count pointer is = by (is_there (record { 0 = pointer }) world.groups) where
  by : (b : Bool) → OnSome (AreSound world) (cond b (Some (buffers_from world.groups count (record { 0 = pointer }))) None)
  by true = buffers_at_sound world count (place_in (record { 0 = pointer }) (all_buffers world.groups)) is
  by false = tt

pointer_sound : (world : World) (count : Count) (e : Element) (pointer : ℕ) → IsSound world → OnSome (AreSound world) (at_pointer world count e pointer)
pointer_sound world count element.Buffer pointer is = buffer_sound world count pointer is
pointer_sound world count element.Lines pointer is =
    lists_sound world pointer is (own_at world.groups pointer) (mixed_among world.groups pointer (handles world.groups))
    (found_is (IsSoundHandle world.groups) (has_own world.groups pointer) (all_buffers world.groups) (buffers_sound world is))
pointer_sound world count element.Line pointer is =
    line_sound world count (line_at world element.Line pointer) is (among_sound world element.Line pointer (all_buffers world.groups) is (buffers_sound world is))
pointer_sound world count element.LineData pointer is =
    data_sound world (line_at world element.LineData pointer) (among_sound world element.LineData pointer (all_buffers world.groups) is (buffers_sound world is))

starts_sound : (world : World) (count : Count) (s : Start) → IsSound world → OnSome (AreSound world) (starts world count s)
unfolding starts
starts_sound world count start.FirstBuffer is = buffers_at_sound world count 0 is
starts_sound world count start.LastBuffer is = buffers_at_sound world count (length (all_buffers world.groups) - 1) is
starts_sound world count (start.Pointer e pointer) is = pointer_sound world count e pointer is

-- ---- nodes

pub record IsSoundNode (groups : EntryGroups) (node : Node) : Type 0 where
  pub pointers : AllByRecursion (λ p. p < 2 ^ 64) node.pointers
  pub place : IsSoundPlace groups node.place

own_small : (o : Option BufferEntry) → OnSome IsSoundBuffer o → row_number (λ row. row.own_lines.0) (option_map (λ (e : BufferEntry). e.row) o) < 2 ^ 64
own_small None kept = omega arith
own_small (Some e) kept = kept.own

mixed_small : (o : Option BufferEntry) → OnSome IsSoundBuffer o → row_number (λ row. row.mixed_lines.0) (option_map (λ (e : BufferEntry). e.row) o) < 2 ^ 64
mixed_small None kept = omega arith
mixed_small (Some e) kept = kept.mixed

-- what there is of a buffer
pub entry_sound : (world : World) (h : Handle) → IsSound world → OnSome IsSoundBuffer (entry_of h world.groups)
entry_sound world h is = found_is IsSoundBuffer (λ e. eqb (handle_of e) h.0) (rows world.groups) is.buffers

list_small : (world : World) (list : LineList) → IsSound world → list_pointer world.groups list < 2 ^ 64
list_small world (Own h) is = own_small (entry_of h world.groups) (entry_sound world h is)
list_small world (Mixed h) is = mixed_small (entry_of h world.groups) (entry_sound world h is)

pointer_small : (world : World) (place : Place) → IsSound world → IsSoundPlace world.groups place → pointer_of world.groups place < 2 ^ 64
pointer_small world (Buffer buffer) is kept = kept.small
pointer_small world (Lines list) is kept = list_small world list is
pointer_small world (Line_at held) is kept = kept.line.handle
pointer_small world (Data_at held) is kept = kept.line.content

nodes_sound : (world : World) (pointers : List ℕ) (places : List Place) → IsSound world → AllByRecursion (λ p. p < 2 ^ 64) pointers → AreSound world places
    → AllByRecursion (IsSoundNode world.groups) (nodes_at world.groups pointers places)
nodes_sound world pointers places is small all =
    all_map (IsSoundPlace world.groups) (IsSoundNode world.groups) (node_at world.groups pointers)
    (λ place kept. record { pointers = all_append (λ p. p < 2 ^ 64) pointers (pointer_of world.groups place ∷ []) small (pointer_small world place is kept, tt); place = kept }) places all

steps_sound : (world : World) (steps : List Step) (nodes : List Node) → IsSound world → AllByRecursion (IsSoundNode world.groups) nodes
    → AllByRecursion (IsSoundNode world.groups) (nodes_reached world steps nodes)
steps_sound world [] nodes is all = all
steps_sound world (step ∷ steps) nodes is all =
    steps_sound world steps (onward_all world step nodes) is
    (each_flat (IsSoundNode world.groups) (IsSoundNode world.groups) (onward world step) nodes
    (λ node kept. nodes_sound world node.pointers (reach world step node.place) is kept.pointers (reach_sound world step node.place is kept.place)) all)

pub reached_sound : (world : World) (path : Path) → IsSound world → AllByRecursion (IsSoundNode world.groups) (reached world path)
unfolding reached
reached_sound world path is = by (starts world path.count path.start) (starts_sound world path.count path.start is) where
  by : (o : Option (List Place)) → OnSome (AreSound world) o → AllByRecursion (IsSoundNode world.groups) (reached_from world path o)
  by None kept = tt
  by (Some places) kept = steps_sound world path.steps (nodes_at world.groups [] places) is (nodes_sound world [] places is tt kept)
