-- The keys of WeeChat's relay protocol, and the lists of them that are told together.
use Rattle.std.specs.Prelude.{ℕ, Bool, true, false, List, [], ◌∷◌, ◌++◌, map, codes, bytes_eq}
use Rattle.std.specs.List.{join_with_byte, list_any}
use Rattle.wc_objects.specs.declared.kind.Kind.{Kind}
use Rattle.wc_objects.specs.declared.kind.Kind.TheVariants as kinds
use Rattle.wc_objects.specs.Kinds.{letters}
use Rattle.wc_keys.specs.declared.key.Key.{Key}
use Rattle.wc_keys.specs.declared.key.Key.TheVariants as k
use Rattle.wc_keys.specs.declared.key.KeyList.{KeyList}
use Rattle.wc_keys.specs.declared.key.KeyList.TheVariants as l

-- how each key is written, the type of its values, and whether it is a key of our own of buffers
abbrev pub key_row : Key → List ℕ × Kind × Bool
key_row k.Number = (codes "number", kinds.Int, false)
key_row k.FullName = (codes "full_name", kinds.Str, false)
key_row k.ShortName = (codes "short_name", kinds.Str, false)
key_row k.Hidden = (codes "hidden", kinds.Int, false)
key_row k.Title = (codes "title", kinds.Str, false)
key_row k.LocalVariables = (codes "local_variables", kinds.Htb, false)
key_row k.PrevBuffer = (codes "prev_buffer", kinds.Ptr, false)
key_row k.NextBuffer = (codes "next_buffer", kinds.Ptr, false)
key_row k.BufferType = (codes "type", kinds.Int, true)
key_row k.Notify = (codes "notify", kinds.Int, true)
key_row k.Nicklist = (codes "nicklist", kinds.Int, true)
key_row k.FirstLine = (codes "first_line", kinds.Ptr, false)
key_row k.LastLine = (codes "last_line", kinds.Ptr, false)
key_row k.LinesCount = (codes "lines_count", kinds.Int, false)
key_row k.Data = (codes "data", kinds.Ptr, false)
key_row k.Buffer = (codes "buffer", kinds.Ptr, false)
key_row k.Id = (codes "id", kinds.Int, false)
key_row k.Date = (codes "date", kinds.Tim, false)
key_row k.DateUsec = (codes "date_usec", kinds.Int, false)
key_row k.DatePrinted = (codes "date_printed", kinds.Tim, false)
key_row k.DateUsecPrinted = (codes "date_usec_printed", kinds.Int, false)
key_row k.Displayed = (codes "displayed", kinds.Chr, false)
key_row k.NotifyLevel = (codes "notify_level", kinds.Chr, false)
key_row k.Highlight = (codes "highlight", kinds.Chr, false)
key_row k.TagsArray = (codes "tags_array", kinds.Arr, false)
key_row k.Prefix = (codes "prefix", kinds.Str, false)
key_row k.Message = (codes "message", kinds.Str, false)
key_row k.Diff = (codes "_diff", kinds.Chr, false)
key_row k.Group = (codes "group", kinds.Chr, false)
key_row k.Visible = (codes "visible", kinds.Chr, false)
key_row k.Level = (codes "level", kinds.Int, false)
key_row k.Name = (codes "name", kinds.Str, true)
key_row k.Color = (codes "color", kinds.Str, false)
key_row k.PrefixColor = (codes "prefix_color", kinds.Str, false)
key_row k.Priority = (codes "priority", kinds.Int, false)
key_row k.Unread = (codes "count", kinds.Arr, false)
key_row k.Trimmed = (codes "count", kinds.Int, false)
key_row k.Context = (codes "context", kinds.Str, false)
key_row k.BaseWord = (codes "base_word", kinds.Str, false)
key_row k.PosStart = (codes "pos_start", kinds.Int, false)
key_row k.PosEnd = (codes "pos_end", kinds.Int, false)
key_row k.List = (codes "list", kinds.Arr, false)

abbrev pub key_name : Key → List ℕ
key_name key = (key_row key).0

abbrev pub kind_of_key : Key → Kind
kind_of_key key = (key_row key).1

-- A key of our own of buffers is told only where a request names it.
abbrev pub is_own : Key → Bool
is_own key = (key_row key).2

-- whether keys are written the same; in each list every key has a name of its own
abbrev pub same_key : Key → Key → Bool
same_key a b = bytes_eq (key_name a) (key_name b)

-- what is told of a new buffer
abbrev pub buffer_keys : List Key
buffer_keys = k.Number ∷ k.FullName ∷ k.ShortName ∷ k.Hidden ∷ k.Title ∷ k.LocalVariables
    ∷ k.PrevBuffer ∷ k.NextBuffer ∷ []

-- the keys of our own of buffers
abbrev pub own_keys : List Key
own_keys = k.Name ∷ k.BufferType ∷ k.Notify ∷ k.Nicklist ∷ []

abbrev pub nick_keys : List Key
nick_keys = k.Group ∷ k.Visible ∷ k.Level ∷ k.Name ∷ k.Color ∷ k.Prefix ∷ k.PrefixColor ∷ []

-- the keys of each list, in order
abbrev pub keys_in : KeyList → List Key
keys_in l.Buffer = buffer_keys ++ own_keys
keys_in l.Lines = k.FirstLine ∷ k.LastLine ∷ k.LinesCount ∷ []
keys_in l.Line = k.Data ∷ []
keys_in l.LineData = k.Buffer ∷ k.Id ∷ k.Date ∷ k.DateUsec ∷ k.DatePrinted ∷ k.DateUsecPrinted
    ∷ k.Displayed ∷ k.NotifyLevel ∷ k.Highlight ∷ k.TagsArray ∷ k.Prefix ∷ k.Message ∷ []
keys_in l.Dump = k.Number ∷ k.FullName ∷ k.ShortName ∷ k.Hidden ∷ k.Title ∷ k.LocalVariables ∷ []
keys_in l.Opened = buffer_keys
keys_in l.Placed = k.Number ∷ k.FullName ∷ k.PrevBuffer ∷ k.NextBuffer ∷ []
keys_in l.Renamed = k.Number ∷ k.FullName ∷ k.ShortName ∷ k.LocalVariables ∷ []
keys_in l.Titled = k.Number ∷ k.FullName ∷ k.Title ∷ []
keys_in l.Variables = k.Number ∷ k.FullName ∷ k.LocalVariables ∷ []
keys_in l.Named = k.Number ∷ k.FullName ∷ []
keys_in l.Flags = k.Buffer ∷ k.Displayed ∷ []
keys_in l.Trimmed = k.Buffer ∷ k.Trimmed ∷ []
keys_in l.Nicks = nick_keys
keys_in l.Diff = k.Diff ∷ nick_keys
keys_in l.Hotlist = k.Priority ∷ k.Buffer ∷ k.Unread ∷ []
keys_in l.Completion = k.Context ∷ k.BaseWord ∷ k.PosStart ∷ k.PosEnd ∷ k.List ∷ []

-- a name, a colon and the letters of a type
abbrev pub key_text : Key → List ℕ
key_text key = key_name key ++ (58 ∷ letters (kind_of_key key))

-- keys as a message names them: commas join them
abbrev pub joined_keys : List Key → List ℕ
joined_keys keys = join_with_byte 44 (map key_text keys)

-- the same of keys that a request names
unfoldable pub keys_text : List Key → List ℕ
keys_text keys = joined_keys keys

-- the same of a list
abbrev pub list_text : KeyList → List ℕ
list_text list = joined_keys (keys_in list)

-- whether a list has a key of our own of buffers
abbrev pub has_own : KeyList → Bool
has_own list = list_any is_own (keys_in list)

-- the types of its values
abbrev pub kinds_in : KeyList → List Kind
kinds_in list = map kind_of_key (keys_in list)
