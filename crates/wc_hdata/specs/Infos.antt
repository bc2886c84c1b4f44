-- Informations, and lists of them.
use Rattle.std.specs.Prelude.{ℕ, ℤ, List, [], ◌∷◌, ◌++◌, unwrap_or, Option, Some, None, codes}
use Rattle.std.specs.Prelude.{bytes_eq, if◌then◌else◌}
use Rattle.wc_text.specs.declared.names.Handle.{Handle}
use Rattle.wc_buffers.specs.declared.row.BufferEntry.{BufferEntry}
use Rattle.wc_buffers.specs.declared.row.BufferRow.{BufferRow}
use Rattle.wc_buffers.specs.Calls.{EntryGroups, entry_of, number}
use Rattle.wc_objects.specs.declared.object.InlVar.{InlVar, roll-InlVar}
use Rattle.wc_objects.specs.declared.object.Object.{Object}
use Rattle.wc_objects.specs.declared.object.Object.TheVariants as o
use Rattle.wc_keys.specs.declared.key.Key.TheVariants as k
use Rattle.wc_keys.specs.Keys.{key_name}
use Rattle.wc_events.specs.BufferObjects.{count, text}
use Rattle.wc_events.specs.LineObjects.{truth}
use Rattle.wc_hdata.specs.Steps.{all_buffers}

-- the informations that there are
abbrev pub info_of : List ℕ → Option (List ℕ)
info_of name =
    if bytes_eq name (codes "version") then Some (codes "4.0.0")
    else (if bytes_eq name (codes "version_number") then Some (codes "67108864") else None)

-- the values of the settings of WeeChat that clients ask for; they are no options
abbrev pub setting_of : List ℕ → Option (List ℕ)
setting_of name =
    if bytes_eq name (codes "weechat.look.buffer_time_format") then Some (codes "%H:%M:%S") else (
    if bytes_eq name (codes "weechat.completion.nick_completer") then Some (codes ":") else (
    if bytes_eq name (codes "weechat.completion.nick_add_space") then Some (codes "on") else None))

-- a variable of a list
unfoldable pub variable : List ℕ → Object → InlVar
variable name value = roll-InlVar (record { name = name; value = value })

-- the names and the title of a buffer
abbrev pub names_of : BufferRow → List InlVar
names_of row =
    variable (key_name k.FullName) (text row.full_name) ∷
    variable (key_name k.ShortName) (text row.short_name) ∷
    variable (key_name k.Title) (text row.title) ∷ []

-- what the list of buffers has of one
unfoldable pub variables_of : ℤ → Handle → BufferRow → List InlVar
variables_of number buffer row =
    variable (codes "pointer") (o.Ptr buffer.0) ∷
    variable (key_name k.Number) (o.Int number) ∷
    variable (key_name k.FullName) (text row.full_name) ∷
    variable (key_name k.ShortName) (text row.short_name) ∷
    variable (key_name k.Title) (text row.title) ∷
    variable (key_name k.Hidden) (o.Int (truth row.hidden)) ∷ []

abbrev pub buffer_item : EntryGroups → Handle → Option BufferEntry → List (List InlVar)
buffer_item groups buffer None = []
buffer_item groups buffer (Some e) = variables_of (count (unwrap_or (number buffer groups) 0))
    buffer e.row ∷ []

abbrev pub buffer_items : EntryGroups → List Handle → List (List InlVar)
buffer_items groups [] = []
buffer_items groups (buffer ∷ buffers) = buffer_item groups buffer (entry_of buffer groups)
    ++ buffer_items groups buffers

-- what the list of options has of a setting
unfoldable pub setting_variables : List ℕ → List ℕ → List InlVar
setting_variables name value =
    variable (key_name k.FullName) (text name) ∷ variable (codes "value") (text value) ∷ []

abbrev pub setting_item : List ℕ → Option (List ℕ) → List (List InlVar)
setting_item name None = []
setting_item name (Some value) = setting_variables name value ∷ []

-- the items of the list of all buffers in their order, and of the list of the option that the
-- argument names, where it is one of the settings; a list of another name is empty
abbrev pub listed : EntryGroups → List ℕ → List ℕ → List (List InlVar)
listed groups name argument =
    if bytes_eq name (codes "buffer") then buffer_items groups (all_buffers groups) else (
    if bytes_eq name (codes "option") then setting_item argument (setting_of argument) else [])

unfoldable pub infolist_object : EntryGroups → List ℕ → List ℕ → Object
infolist_object groups name argument = o.Inl name (listed groups name argument)
