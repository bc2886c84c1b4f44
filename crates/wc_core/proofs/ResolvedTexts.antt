-- What a line comes to is text, and so is what is told of a refusal.
use Rattle.std.proofs.Common.{◌≡◌, ℕ, Bool, true, false, cond, List, [], ◌++◌, Option, Some, None, codes, lit<, option_map, refl, sym, subst}
use Rattle.std.specs.Prelude.{find, not, nat_lt, ◌+◌, length}
use Rattle.std.specs.Str.{IsUtf8}
use Rattle.std.proofs.lemmas.Str.{IsUtf8-nil, IsUtf8-append}
use Rattle.std.proofs.lemmas.List.Elements.{All-nil}
use Rattle.wc_text.specs.declared.names.Handle.{Handle}
use Rattle.wc_text.specs.declared.names.Pair.{Pair}
use Rattle.wc_relaycmd.proofs.Utf8Lemmas.{before_text}
use Rattle.wc_buffers.specs.declared.row.BufferEntry.{BufferEntry}
use Rattle.wc_buffers.specs.declared.row.BufferRow.{BufferRow}
use Rattle.wc_buffers.specs.declared.refused.BufferRefused.{BufferRefused}
use Rattle.wc_buffers.specs.declared.refused.BufferRefused.TheVariants as buffers
use Rattle.wc_buffers.specs.Entries.{IsText}
use Rattle.wc_buffers.specs.Kept.{IsBuffer, AreBuffers}
use Rattle.wc_buffers.specs.Calls.{EntryGroups, entry_of, number, is_bad_name, is_fixed, when, or_else as first_of, no_buffer, bad_name, fixed_var, bad_var_names, fixed_vars, refusal_of_name, bad_names, no_room, too_many_vars, add_refusal_so_far, add_refusal, close_refusal, move_refusal, are_together, same_group, merge_refusal, unmerge_refusal, rename_refusal, short_name_refusal, var_refusal, set_var_refusal, remove_var_refusal}
use Rattle.wc_filters.specs.declared.filter.Filter.{Filter}
use Rattle.wc_filters.specs.declared.refused.FilterRefused.{FilterRefused}
use Rattle.wc_filters.specs.declared.refused.FilterRefused.TheVariants as filter
use Rattle.wc_model.specs.declared.change.Change.{Change}
use Rattle.wc_model.specs.declared.change.Flip.{Flip}
use Rattle.wc_model.specs.declared.change.What.{What}
use Rattle.wc_model.specs.declared.change.What.TheVariants as what
use Rattle.wc_model.specs.declared.refused.ChangeRefused.{ChangeRefused}
use Rattle.wc_model.specs.declared.refused.ChangeRefused.TheVariants as refused
use Rattle.wc_model.specs.World.{World, last_handle}
use Rattle.wc_model.specs.Touches.{touched_key}
use Rattle.wc_model.specs.Apply.{or_else, of_buffers, refusal_of_handles, is_held, no_line, row_of, refusal_of, refusal}
use Rattle.wc_world.specs.Texts.{IsChangeText}
use Rattle.wc_core.specs.Typed.{TypedCommand, Nothing, Quits, Refused, Others, Prints, Adds, Closes, Merges, Names, Changes, Sets, Unsets, Switches, Saves, UsesHotlist, UsesFilters, typed_line, Evaluates}
use Rattle.wc_core.specs.Resolved.{Effect, switched, buffer_meant, no_such_buffer, of_meant, of_named, change_of, line_spec, core_spec, plugin_in, rename_of, effect_of, buffer_text, refusal_text, filter_text, no_such_filter, told_refusal}
use Rattle.wc_core.specs.Fitted.{fitted_what}
use Rattle.wc_core.specs.Texts.{WhatUtf8, EffectUtf8}
use Rattle.wc_core.proofs.TypedLemmas.{ascii_text, TypedUtf8, typed_utf8}
use Rattle.wc_core.proofs.ResolvedWords.{plugin_before}
use Rattle.wc_core.specs.Evaluated.{printed_value}

-- ---- what a line comes to

meant_text : (change : Handle → Change) → ((b : Handle) → WhatUtf8 (change b).what) → (o : Option Handle) → EffectUtf8 (of_meant change o)
meant_text change each None = ascii_text no_such_buffer refl
meant_text change each (Some buffer) = each buffer

named_text : (groups : EntryGroups) (buffer : Handle) (change : Handle → Change) → ((b : Handle) → WhatUtf8 (change b).what) → (o : Option (List ℕ)) → EffectUtf8 (of_named groups buffer change o)
named_text groups buffer change each None = each buffer
named_text groups buffer change each (Some word) = meant_text change each (buffer_meant groups word)

plugin_text : (o : Option BufferEntry) → ((e : BufferEntry) → o ≡ Some e → IsBuffer e) → IsUtf8 (plugin_in (option_map (λ (e : BufferEntry). e.row) o))
plugin_text None fit = IsUtf8-nil
plugin_text (Some e) fit = subst IsUtf8 (plugin_before e.row.full_name) (before_text 46 e.row.full_name (lit< tt) (fit e refl).text.full_name)

renamed_text : (groups : EntryGroups) (buffer : Handle) (name : List ℕ) → AreBuffers groups → IsUtf8 name → WhatUtf8 (rename_of groups buffer name)
renamed_text groups buffer name are utf8 =
    let plugin = plugin_in (option_map (λ (e : BufferEntry). e.row) (entry_of buffer groups)) in
    IsUtf8-append (plugin ++ codes ".") name (IsUtf8-append plugin (codes ".") (plugin_text (entry_of buffer groups) (are.fit buffer)) (ascii_text (codes ".") refl)) utf8

added_text : (name : List ℕ) → IsUtf8 name → WhatUtf8 (what.Add (core_spec name))
added_text name utf8 = record { full_name = IsUtf8-append (codes "core.") name (ascii_text (codes "core.") refl) utf8; short_name = utf8; title = IsUtf8-nil; vars = All-nil IsText }

switched_text : (o : Option Handle) → EffectUtf8 (switched o)
switched_text None = ascii_text (codes "wrong arguments: /buffer") refl
switched_text (Some buffer) = tt

pub resolved-utf8 : (world : World) (moment : ℕ) (buffer : Handle) (typed : TypedCommand) → AreBuffers world.groups → TypedUtf8 typed → EffectUtf8 (effect_of world moment buffer typed)
unfolding effect_of
resolved-utf8 world moment buffer Nothing are utf8 = tt
resolved-utf8 world moment buffer Quits are utf8 = tt
resolved-utf8 world moment buffer (Refused text) are utf8 = utf8
resolved-utf8 world moment buffer (Others text) are utf8 = utf8
resolved-utf8 world moment buffer (Prints name tags prefix message) are utf8 =
    named_text world.groups buffer (λ b. change_of b (what.Print (line_spec moment tags prefix message))) (λ b. record { tags = utf8.tags; prefix = utf8.prefix; message = utf8.message }) name
resolved-utf8 world moment buffer (Adds name) are utf8 = added_text name utf8
resolved-utf8 world moment buffer (Closes name) are utf8 = named_text world.groups buffer (λ b. change_of b what.Close) (λ b. tt) name
resolved-utf8 world moment buffer (Merges name) are utf8 = meant_text (λ into. change_of buffer (what.MergeInto into)) (λ b. tt) (buffer_meant world.groups name)
resolved-utf8 world moment buffer (Names name) are utf8 = renamed_text world.groups buffer name are utf8
resolved-utf8 world moment buffer (Changes w) are utf8 = utf8
resolved-utf8 world moment buffer (Sets name value) are utf8 = utf8
resolved-utf8 world moment buffer (Unsets name) are utf8 = utf8
resolved-utf8 world moment buffer (Switches name) are utf8 = switched_text (buffer_meant world.groups name)
resolved-utf8 world moment buffer Saves are utf8 = tt
resolved-utf8 world moment buffer (UsesHotlist usage) are utf8 = tt
resolved-utf8 world moment buffer (UsesFilters change) are utf8 = utf8
resolved-utf8 world moment buffer (Evaluates usage value) are utf8 = tt

-- the same of a line that was read
pub line-utf8 : (world : World) (moment : ℕ) (buffer : Handle) (typed : TypedCommand) (line : List ℕ) (r : Effect) → AreBuffers world.groups → IsUtf8 line → typed ≡ typed_line line → r ≡ effect_of world moment buffer typed → EffectUtf8 r
line-utf8 world moment buffer typed line r are utf8 read e = subst EffectUtf8 (sym e) (resolved-utf8 world moment buffer typed are (subst TypedUtf8 (sym read) (typed_utf8 line utf8)))

pub what_text : (w : What) → WhatUtf8 w → IsChangeText w
what_text (what.Add spec) utf8 = utf8
what_text what.Close utf8 = utf8
what_text (what.MoveTo number) utf8 = utf8
what_text (what.MergeInto into) utf8 = utf8
what_text what.Unmerge utf8 = utf8
what_text what.Hide utf8 = utf8
what_text what.Unhide utf8 = utf8
what_text (what.Rename name flips) utf8 = utf8
what_text (what.ShortName name) utf8 = utf8
what_text (what.Title title) utf8 = utf8
what_text (what.SetVar var) utf8 = utf8
what_text (what.RemoveVar name) utf8 = tt
what_text (what.Print line) utf8 = utf8
what_text what.Clear utf8 = utf8
what_text (what.Flips flips) utf8 = utf8
what_text (what.AddGroup parent item) utf8 = absurd utf8
what_text (what.AddNick group item) utf8 = absurd utf8
what_text (what.RemoveGroup name) utf8 = absurd utf8
what_text (what.RemoveNick name) utf8 = absurd utf8
what_text (what.ChangeGroup item) utf8 = absurd utf8
what_text (what.ChangeNick item) utf8 = absurd utf8
what_text (what.Limit limit) fits = fits

-- what is typed touches no row of a nicklist
pub untouched : (w : What) → WhatUtf8 w → touched_key w ≡ None
untouched (what.Add spec) utf8 = refl
untouched what.Close utf8 = refl
untouched (what.MoveTo number) utf8 = refl
untouched (what.MergeInto into) utf8 = refl
untouched what.Unmerge utf8 = refl
untouched what.Hide utf8 = refl
untouched what.Unhide utf8 = refl
untouched (what.Rename name flips) utf8 = refl
untouched (what.ShortName name) utf8 = refl
untouched (what.Title title) utf8 = refl
untouched (what.SetVar var) utf8 = refl
untouched (what.RemoveVar name) utf8 = refl
untouched (what.Print line) utf8 = refl
untouched what.Clear utf8 = refl
untouched (what.Flips flips) utf8 = refl
untouched (what.AddGroup parent item) utf8 = absurd utf8
untouched (what.AddNick group item) utf8 = absurd utf8
untouched (what.RemoveGroup name) utf8 = absurd utf8
untouched (what.RemoveNick name) utf8 = absurd utf8
untouched (what.ChangeGroup item) utf8 = absurd utf8
untouched (what.ChangeNick item) utf8 = absurd utf8
untouched (what.Limit limit) fits = refl

pub told_text : (moment : ℕ) (text : List ℕ) → IsUtf8 text → IsChangeText (told_refusal moment text).what
told_text moment text utf8 = record { tags = All-nil IsUtf8; prefix = ascii_text (codes "=!=") refl; message = utf8 }

-- what is printed of a text that was evaluated is text
pub printed_text : (moment : ℕ) (value : List ℕ) → IsUtf8 value → WhatUtf8 (printed_value moment value).what
printed_text moment value utf8 = record {
  tags = All-nil IsUtf8;
  prefix = IsUtf8-nil;
  message = IsUtf8-append (codes "== [") (value ++ codes "]") (ascii_text (codes "== [") refl) (IsUtf8-append value (codes "]") utf8 (ascii_text (codes "]") refl));
}

-- ---- why a change is refused

abbrev BufferUtf8 : Option BufferRefused → Type 0
BufferUtf8 None = Unit {0}
BufferUtf8 (Some reason) = IsUtf8 (buffer_text reason)

abbrev RefusedUtf8 : Option ChangeRefused → Type 0
RefusedUtf8 None = Unit {0}
RefusedUtf8 (Some reason) = IsUtf8 (refusal_text reason)

when_text : (b : Bool) (reason : BufferRefused) → IsUtf8 (buffer_text reason) → BufferUtf8 (when b reason)
when_text true reason utf8 = utf8
when_text false reason utf8 = tt

first_text : (a b : Option BufferRefused) → BufferUtf8 a → BufferUtf8 b → BufferUtf8 (first_of a b)
first_text None b p q = q
first_text (Some r) b p q = p

no_buffer_text : (h : Handle) (gs : EntryGroups) → BufferUtf8 (no_buffer h gs)
no_buffer_text h gs = when_text _ (buffers.NoBuffer h) (ascii_text (codes "no such buffer") refl)

bad_name_text : (limit : ℕ) (name : List ℕ) → BufferUtf8 (bad_name limit name)
bad_name_text limit name = when_text (is_bad_name limit name) (buffers.BadName _) (ascii_text (codes "bad name") refl)

bad_vars_text : (vars : List Pair) → BufferUtf8 (bad_var_names vars)
bad_vars_text vars = by (find (λ (v : Pair). is_bad_name 64 v.name) vars) where
  by : (o : Option Pair) → BufferUtf8 (option_map (λ (v : Pair). buffers.BadName (length v.name)) o)
  by None = tt
  by (Some v) = ascii_text (codes "bad name") refl

fixed_vars_text : (vars : List Pair) → BufferUtf8 (fixed_vars vars)
fixed_vars_text vars = by (find (λ (v : Pair). is_fixed v.name) vars) where
  by : (o : Option Pair) → BufferUtf8 (option_map (λ (v : Pair). buffers.FixedVar v.name) o)
  by None = tt
  by (Some v) = ascii_text (codes "fixed variable") refl

taken_text : (name : List ℕ) (h : Handle) (gs : EntryGroups) → IsUtf8 name → BufferUtf8 (refusal_of_name name h gs)
taken_text name h gs utf8 = when_text _ (buffers.NameTaken name) (IsUtf8-append (codes "name taken: ") name (ascii_text (codes "name taken: ") refl) utf8)

too_many_text : (b : Bool) (limit : ℕ) → BufferUtf8 (when b (buffers.TooMany limit))
too_many_text b limit = when_text b (buffers.TooMany limit) (ascii_text (codes "too many") refl)

bad_names_text : (row : BufferRow) (vars : List Pair) → BufferUtf8 (bad_names row vars)
unfolding bad_names
bad_names_text row vars =
    first_text (bad_name 256 row.full_name) _ (bad_name_text 256 row.full_name)
    (first_text (bad_name 128 row.short_name) _ (bad_name_text 128 row.short_name)
    (first_text (bad_var_names vars) (fixed_vars vars) (bad_vars_text vars) (fixed_vars_text vars)))

so_far_text : (row : BufferRow) (vars : List Pair) (gs : EntryGroups) → IsUtf8 row.full_name → BufferUtf8 (add_refusal_so_far row vars gs)
unfolding add_refusal_so_far no_room
so_far_text row vars gs utf8 = first_text (bad_names row vars) _ (bad_names_text row vars) (first_text (refusal_of_name row.full_name row.handle gs) (no_room gs) (taken_text row.full_name row.handle gs utf8) (too_many_text _ 256))

add_text : (row : BufferRow) (vars : List Pair) (gs : EntryGroups) → IsUtf8 row.full_name → BufferUtf8 (add_refusal row vars gs)
unfolding add_refusal too_many_vars
add_text row vars gs utf8 = first_text (add_refusal_so_far row vars gs) (too_many_vars row.full_name vars) (so_far_text row vars gs utf8) (too_many_text _ 64)

close_text : (h : Handle) (gs : EntryGroups) → BufferUtf8 (close_refusal h gs)
unfolding close_refusal
close_text h gs = first_text (no_buffer h gs) _ (no_buffer_text h gs) (when_text _ buffers.IsCore (ascii_text (codes "core buffer") refl))

move_text : (h : Handle) (n : ℕ) (gs : EntryGroups) → BufferUtf8 (move_refusal h n gs)
unfolding move_refusal
move_text h n gs = first_text (no_buffer h gs) _ (no_buffer_text h gs) (when_text _ (buffers.BadNumber n) (ascii_text (codes "bad number") refl))

same_text : (o : Option ℕ) → BufferUtf8 (same_group o)
same_text None = tt
same_text (Some n) = ascii_text (codes "same group") refl

together_text : (b : Bool) (o : Option ℕ) → BufferUtf8 (cond b (same_group o) None)
together_text true o = same_text o
together_text false o = tt

merge_text : (h into : Handle) (gs : EntryGroups) → BufferUtf8 (merge_refusal h into gs)
unfolding merge_refusal
merge_text h into gs = first_text (no_buffer h gs) _ (no_buffer_text h gs) (first_text (no_buffer into gs) _ (no_buffer_text into gs) (together_text (are_together h into gs) (number h gs)))

unmerge_text : (h : Handle) (gs : EntryGroups) → BufferUtf8 (unmerge_refusal h gs)
unfolding unmerge_refusal
unmerge_text h gs = first_text (no_buffer h gs) _ (no_buffer_text h gs) (when_text _ buffers.NotMerged (ascii_text (codes "not merged") refl))

rename_text : (h : Handle) (name : List ℕ) (gs : EntryGroups) → IsUtf8 name → BufferUtf8 (rename_refusal h name gs)
unfolding rename_refusal
rename_text h name gs utf8 = first_text (no_buffer h gs) _ (no_buffer_text h gs) (first_text (bad_name 256 name) (refusal_of_name name h gs) (bad_name_text 256 name) (taken_text name h gs utf8))

short_text : (h : Handle) (name : List ℕ) (gs : EntryGroups) → BufferUtf8 (short_name_refusal h name gs)
unfolding short_name_refusal
short_text h name gs = first_text (no_buffer h gs) (bad_name 128 name) (no_buffer_text h gs) (bad_name_text 128 name)

var_text : (h : Handle) (name : List ℕ) (gs : EntryGroups) → BufferUtf8 (var_refusal h name gs)
unfolding var_refusal
var_text h name gs =
    first_text (no_buffer h gs) _ (no_buffer_text h gs)
    (first_text (bad_name 64 name) (fixed_var name) (bad_name_text 64 name) (when_text (is_fixed name) (buffers.FixedVar name) (ascii_text (codes "fixed variable") refl)))

set_text : (h : Handle) (name : List ℕ) (gs : EntryGroups) → BufferUtf8 (set_var_refusal h name gs)
unfolding set_var_refusal
set_text h name gs = first_text (var_refusal h name gs) _ (var_text h name gs) (too_many_text _ 64)

remove_text : (h : Handle) (name : List ℕ) (gs : EntryGroups) → IsUtf8 name → BufferUtf8 (remove_var_refusal h name gs)
unfolding remove_var_refusal
remove_text h name gs utf8 =
    first_text (var_refusal h name gs) _ (var_text h name gs)
    (when_text _ (buffers.NoVar name) (IsUtf8-append (codes "no such variable: ") name (ascii_text (codes "no such variable: ") refl) utf8))

of_buffers_text : (o : Option BufferRefused) → BufferUtf8 o → RefusedUtf8 (of_buffers o)
of_buffers_text None utf8 = tt
of_buffers_text (Some reason) utf8 = IsUtf8-append (codes "buffer: ") (buffer_text reason) (ascii_text (codes "buffer: ") refl) utf8

or_else_text : (a b : Option ChangeRefused) → RefusedUtf8 a → RefusedUtf8 b → RefusedUtf8 (or_else a b)
or_else_text None b p q = q
or_else_text (Some r) b p q = p

spent_text : (count : ℕ) (world : World) → RefusedUtf8 (refusal_of_handles count world)
spent_text count world = by (nat_lt (last_handle + 1) (world.next + count)) where
  by : (b : Bool) → RefusedUtf8 (cond b (Some refused.Spent) None)
  by true = ascii_text (codes "no handle left") refl
  by false = tt

no_line_text : (flips : List Flip) (world : World) → RefusedUtf8 (no_line flips world)
no_line_text flips world = by (find (λ (flip : Flip). not (is_held flip.content world)) flips) where
  by : (o : Option Flip) → RefusedUtf8 (option_map (λ (flip : Flip). refused.NoLine flip.content) o)
  by None = tt
  by (Some flip) = IsUtf8-nil

refused_text : (world : World) (h : Handle) (w : What) → WhatUtf8 w → RefusedUtf8 (refusal_of world h w)
unfolding refusal_of
refused_text world h (what.Add spec) utf8 =
    or_else_text (of_buffers (add_refusal (row_of world.next spec) spec.vars world.groups)) (refusal_of_handles 4 world)
    (of_buffers_text (add_refusal (row_of world.next spec) spec.vars world.groups) (add_text (row_of world.next spec) spec.vars world.groups utf8.full_name)) (spent_text 4 world)
refused_text world h what.Close utf8 = of_buffers_text (close_refusal h world.groups) (close_text h world.groups)
refused_text world h (what.MoveTo n) utf8 = of_buffers_text (move_refusal h n world.groups) (move_text h n world.groups)
refused_text world h (what.MergeInto into) utf8 = of_buffers_text (merge_refusal h into world.groups) (merge_text h into world.groups)
refused_text world h what.Unmerge utf8 = of_buffers_text (unmerge_refusal h world.groups) (unmerge_text h world.groups)
refused_text world h what.Hide utf8 = of_buffers_text (no_buffer h world.groups) (no_buffer_text h world.groups)
refused_text world h what.Unhide utf8 = of_buffers_text (no_buffer h world.groups) (no_buffer_text h world.groups)
refused_text world h (what.Rename name flips) utf8 =
    or_else_text (of_buffers (rename_refusal h name world.groups)) (no_line flips world)
    (of_buffers_text (rename_refusal h name world.groups) (rename_text h name world.groups utf8)) (no_line_text flips world)
refused_text world h (what.ShortName name) utf8 = of_buffers_text (short_name_refusal h name world.groups) (short_text h name world.groups)
refused_text world h (what.Title title) utf8 = of_buffers_text (no_buffer h world.groups) (no_buffer_text h world.groups)
refused_text world h (what.SetVar var) utf8 = of_buffers_text (set_var_refusal h var.name world.groups) (set_text h var.name world.groups)
refused_text world h (what.RemoveVar name) utf8 = of_buffers_text (remove_var_refusal h name world.groups) (remove_text h name world.groups utf8)
refused_text world h (what.Print line) utf8 = or_else_text (of_buffers (no_buffer h world.groups)) (refusal_of_handles 2 world) (of_buffers_text (no_buffer h world.groups) (no_buffer_text h world.groups)) (spent_text 2 world)
refused_text world h what.Clear utf8 = of_buffers_text (no_buffer h world.groups) (no_buffer_text h world.groups)
refused_text world h (what.Flips flips) utf8 = no_line_text flips world
refused_text world h (what.AddGroup parent item) utf8 = absurd utf8
refused_text world h (what.AddNick group item) utf8 = absurd utf8
refused_text world h (what.RemoveGroup name) utf8 = absurd utf8
refused_text world h (what.RemoveNick name) utf8 = absurd utf8
refused_text world h (what.ChangeGroup item) utf8 = absurd utf8
refused_text world h (what.ChangeNick item) utf8 = absurd utf8
refused_text world h (what.Limit limit) fits = tt

-- what is told of a refused change is text
pub refusal-utf8 : (world : World) (change : Change) (reason : ChangeRefused) → WhatUtf8 change.what → refusal world change ≡ Some reason → IsUtf8 (refusal_text reason)
refusal-utf8 world change reason utf8 e = subst RefusedUtf8 e (refused_text world change.buffer change.what utf8)

-- a change is text with its flags as well
pub fitted-utf8 : (filters : List Filter) (world : World) (buffer : Handle) (w : What) → WhatUtf8 w → WhatUtf8 (fitted_what filters world buffer w)
fitted-utf8 filters world buffer (what.Print line) utf8 = record { tags = utf8.tags; prefix = utf8.prefix; message = utf8.message }
fitted-utf8 filters world buffer (what.Rename name flips) utf8 = utf8
fitted-utf8 filters world buffer (what.Add spec) utf8 = utf8
fitted-utf8 filters world buffer what.Close utf8 = utf8
fitted-utf8 filters world buffer (what.MoveTo number) utf8 = utf8
fitted-utf8 filters world buffer (what.MergeInto into) utf8 = utf8
fitted-utf8 filters world buffer what.Unmerge utf8 = utf8
fitted-utf8 filters world buffer what.Hide utf8 = utf8
fitted-utf8 filters world buffer what.Unhide utf8 = utf8
fitted-utf8 filters world buffer (what.ShortName name) utf8 = utf8
fitted-utf8 filters world buffer (what.Title title) utf8 = utf8
fitted-utf8 filters world buffer (what.SetVar var) utf8 = utf8
fitted-utf8 filters world buffer (what.RemoveVar name) utf8 = utf8
fitted-utf8 filters world buffer what.Clear utf8 = utf8
fitted-utf8 filters world buffer (what.Flips flips) utf8 = utf8
fitted-utf8 filters world buffer (what.AddGroup parent item) utf8 = absurd utf8
fitted-utf8 filters world buffer (what.AddNick group item) utf8 = absurd utf8
fitted-utf8 filters world buffer (what.RemoveGroup name) utf8 = absurd utf8
fitted-utf8 filters world buffer (what.RemoveNick name) utf8 = absurd utf8
fitted-utf8 filters world buffer (what.ChangeGroup item) utf8 = absurd utf8
fitted-utf8 filters world buffer (what.ChangeNick item) utf8 = absurd utf8
fitted-utf8 filters world buffer (what.Limit limit) utf8 = utf8

-- the text of a refusal of a filter
pub filter-text-utf8 : (name : List ℕ) (reason : FilterRefused) → IsUtf8 name → IsUtf8 (filter_text name reason)
filter-text-utf8 name filter.NameTaken utf8 = IsUtf8-append (codes "filter: name taken: ") name (ascii_text (codes "filter: name taken: ") refl) utf8
filter-text-utf8 name filter.BadPattern utf8 = ascii_text (codes "filter: bad pattern") refl
filter-text-utf8 name filter.TooMany utf8 = ascii_text (codes "filter: too many") refl
filter-text-utf8 name filter.NoMemory utf8 = ascii_text [] refl

pub no-filter-utf8 : (name : List ℕ) → IsUtf8 name → IsUtf8 (no_such_filter name)
no-filter-utf8 name utf8 = IsUtf8-append (codes "filter: no such name: ") name (ascii_text (codes "filter: no such name: ") refl) utf8
