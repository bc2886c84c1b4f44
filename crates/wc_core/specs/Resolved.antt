-- What a text that is typed into a buffer comes to in a world.
use Rattle.std.specs.Prelude.{ℕ, ◌*◌, ◌/◌, ◌%◌, ◌++◌, ◌==◌, zero, suc, true, false, List, [], ◌∷◌}
use Rattle.std.specs.Prelude.{codes, if◌then◌else◌, Option, Some, None}
use Rattle.std.specs.List.{slice_get, before_first}
use Rattle.std.specs.Str.Parse.{digits_value}
use Rattle.wc_text.specs.declared.names.Handle.{Handle}
use Rattle.wc_text.specs.Integer.{is_numeral}
use Rattle.wc_buffers.specs.declared.row.BufferEntry.{BufferEntry}
use Rattle.wc_buffers.specs.declared.row.BufferSpec.{BufferSpec}
use Rattle.wc_buffers.specs.declared.refused.BufferRefused.{BufferRefused}
use Rattle.wc_buffers.specs.declared.refused.BufferRefused.TheVariants as buffers
use Rattle.wc_buffers.specs.Calls.{EntryGroups, buffer_of}
use Rattle.wc_buffers.specs.declared.row.BufferRow.{BufferRow}
use Rattle.wc_filters.specs.declared.refused.FilterRefused.{FilterRefused}
use Rattle.wc_filters.specs.declared.refused.FilterRefused.TheVariants as filter
use Rattle.wc_model.specs.declared.change.Change.{Change}
use Rattle.wc_model.specs.declared.change.What.{What}
use Rattle.wc_model.specs.declared.change.What.TheVariants as what
use Rattle.wc_model.specs.declared.change.LineSpec.{LineSpec}
use Rattle.wc_model.specs.declared.refused.ChangeRefused.{ChangeRefused}
use Rattle.wc_model.specs.declared.refused.ChangeRefused.TheVariants as refused
use Rattle.wc_model.specs.Levels.{highlight_of, notify_of}
use Rattle.wc_model.specs.World.{World}
use Rattle.wc_options.specs.declared.refusal.SetRefused.{SetRefused}
use Rattle.wc_options.specs.declared.refusal.SetRefused.TheVariants as option
use Rattle.wc_session.specs.Names.{buffer_named}
use Rattle.wc_core.specs.Typed.{TypedCommand, Nothing, Quits, Refused, Others, Prints, Adds, Closes}
use Rattle.wc_core.specs.Typed.{Merges, Names, Changes, Sets, Unsets, Switches, Saves, Evaluates}
use Rattle.wc_core.specs.Typed.{UsesHotlist, UsesFilters}
use Rattle.wc_core.specs.declared.typed_filter.FilterChange.{FilterChange}
use Rattle.wc_core.specs.declared.typed_hotlist.HotlistUse.{HotlistUse}

pub data Effect : Type 0 where
  Stays : Effect
  -- the run is to end
  Ends : Effect
  -- a refusal is told
  Tells : List ℕ → Effect
  Asks : Change → Effect
  -- an option is to get a value, or its default
  SetsOption : List ℕ → List ℕ → Effect
  UnsetsOption : List ℕ → Effect
  -- the options are to be saved
  SavesOptions : Effect
  -- rows of the hotlist are to be taken out by a command that is typed into a buffer
  ChangesHotlist : HotlistUse → Handle → Effect
  -- the filters are to change
  ChangesFilters : FilterChange → Effect

-- ---- buffers that a command names

abbrev pub first_in : List BufferEntry → Option Handle
first_in [] = None
first_in (e ∷ group) = Some e.row.handle

abbrev pub first_in_group : Option (List BufferEntry) → Option Handle
first_in_group None = None
first_in_group (Some group) = first_in group

-- the first buffer of the group of this number
abbrev pub first_of_number : EntryGroups → ℕ → Option Handle
first_of_number groups zero = None
first_of_number groups (suc n) = first_in_group (slice_get groups n)

-- a buffer by the number of its group, its full name or its handle
unfoldable pub buffer_meant : EntryGroups → List ℕ → Option Handle
buffer_meant groups word = if is_numeral word then first_of_number groups (digits_value 10 word)
    else buffer_named groups word

abbrev pub no_such_buffer : List ℕ
no_such_buffer = codes "buffer: no such buffer"

-- what is asked of the buffer that is meant, where it is there
abbrev pub of_meant : (Handle → Change) → Option Handle → Effect
of_meant change None = Tells no_such_buffer
of_meant change (Some buffer) = Asks (change buffer)

abbrev pub of_named : EntryGroups → Handle → (Handle → Change) → Option (List ℕ) → Effect
of_named groups buffer change None = Asks (change buffer)
of_named groups buffer change (Some word) = of_meant change (buffer_meant groups word)

-- a buffer that is to be shown: nothing changes where it is there
abbrev pub switched : Option Handle → Effect
switched None = Tells (codes "wrong arguments: /buffer")
switched (Some buffer) = Stays

-- ---- changes

abbrev pub change_of : Handle → What → Change
change_of buffer w = record { buffer = buffer; what = w }

-- a moment in milliseconds as the microseconds of its second
abbrev pub usec_of : ℕ → ℕ
usec_of moment = moment % 1000 * 1000

-- a line that is printed at this moment, which it has in seconds and microseconds
abbrev pub line_spec : ℕ → List (List ℕ) → List ℕ → List ℕ → LineSpec
line_spec moment tags prefix message = record {
  date = moment / 1000;
  usec = usec_of moment;
  date_printed = moment / 1000;
  usec_printed = usec_of moment;
  displayed = true;
  notify = notify_of tags false;
  highlight = highlight_of tags false;
  tags = tags;
  prefix = prefix;
  message = message;
}

-- a buffer of the core
abbrev pub core_spec : List ℕ → BufferSpec
core_spec name = record {
  full_name = codes "core." ++ name;
  short_name = name;
  title = [];
  vars = [];
}

abbrev pub null : Handle
null = record { 0 = 0 }

-- what is before the first dot of a buffer's full name, or all of it
abbrev pub plugin_in : Option BufferRow → List ℕ
plugin_in None = []
plugin_in (Some row) = before_first (λ b. b == 46) row.full_name

abbrev pub rename_of : EntryGroups → Handle → List ℕ → What
rename_of groups buffer name = what.Rename (plugin_in (buffer_of buffer groups) ++ codes "."
    ++ name) []

unfoldable pub effect_of : World → ℕ → Handle → TypedCommand → Effect
effect_of world moment buffer Nothing = Stays
effect_of world moment buffer Quits = Ends
effect_of world moment buffer (Refused text) = Tells text
effect_of world moment buffer (Others text) = Tells text
effect_of world moment buffer (Prints name tags prefix message) =
    of_named world.groups buffer
    (λ b. change_of b (what.Print (line_spec moment tags prefix message))) name
effect_of world moment buffer (Adds name) = Asks (change_of null (what.Add (core_spec name)))
effect_of world moment buffer (Closes name) = of_named world.groups buffer
    (λ b. change_of b what.Close) name
effect_of world moment buffer (Merges name) =
    of_meant (λ into. change_of buffer (what.MergeInto into)) (buffer_meant world.groups name)
effect_of world moment buffer (Names name) =
    Asks (change_of buffer (rename_of world.groups buffer name))
effect_of world moment buffer (Changes w) = Asks (change_of buffer w)
effect_of world moment buffer (Sets name value) = SetsOption name value
effect_of world moment buffer (Unsets name) = UnsetsOption name
effect_of world moment buffer (Switches name) = switched (buffer_meant world.groups name)
effect_of world moment buffer Saves = SavesOptions
effect_of world moment buffer (UsesHotlist usage) = ChangesHotlist usage buffer
effect_of world moment buffer (UsesFilters change) = ChangesFilters change
effect_of world moment buffer (Evaluates usage text) = Stays

-- ---- the texts of refusals

abbrev pub buffer_text : BufferRefused → List ℕ
buffer_text (buffers.NoBuffer h) = codes "no such buffer"
buffer_text buffers.IsCore = codes "core buffer"
buffer_text (buffers.BadName n) = codes "bad name"
buffer_text (buffers.FixedVar name) = codes "fixed variable"
buffer_text (buffers.NameTaken name) = codes "name taken: " ++ name
buffer_text (buffers.NoVar name) = codes "no such variable: " ++ name
buffer_text (buffers.SameGroup n) = codes "same group"
buffer_text buffers.NotMerged = codes "not merged"
buffer_text (buffers.BadNumber n) = codes "bad number"
buffer_text (buffers.TooMany n) = codes "too many"
buffer_text buffers.NoMemory = []

-- No command sets flags of lines, and want of memory is told by no line.
abbrev pub refusal_text : ChangeRefused → List ℕ
refusal_text (refused.Buffer reason) = codes "buffer: " ++ buffer_text reason
refusal_text (refused.Nick reason) = []
refusal_text (refused.NoLine h) = []
refusal_text (refused.TooManyRows limit) = []
refusal_text refused.Spent = codes "no handle left"
refusal_text refused.NoMemory = []

-- why an option does not get a value; want of memory is told by no line
abbrev pub option_text : List ℕ → SetRefused → List ℕ
option_text name option.UnknownOption = codes "option: unknown: " ++ name
option_text name (option.BadValue range) = codes "option: bad value, range " ++ range
option_text name (option.TooManyServers limit) = codes "option: too many servers"
option_text name option.NoMemory = []

-- why a filter of this name is not added; want of memory is told by no line
abbrev pub filter_text : List ℕ → FilterRefused → List ℕ
filter_text name filter.NameTaken = codes "filter: name taken: " ++ name
filter_text name filter.BadPattern = codes "filter: bad pattern"
filter_text name filter.TooMany = codes "filter: too many"
filter_text name filter.NoMemory = []

abbrev pub no_such_filter : List ℕ → List ℕ
no_such_filter name = codes "filter: no such name: " ++ name

-- the change that tells a refusal: a line of the core buffer
abbrev pub told_refusal : ℕ → List ℕ → Change
told_refusal moment text = change_of (record { 0 = 1 })
    (what.Print (line_spec moment [] (codes "=!=") text))
