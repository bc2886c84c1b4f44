-- The keys of elements.
use Rattle.std.specs.Prelude.{ℕ, Bool, not, ◌==◌, List, [], ◌∷◌, ◌++◌, Option, Some, None}
use Rattle.std.specs.Prelude.{if◌then◌else◌}
use Rattle.std.specs.List.{slice_split, filter, filter_map, find, list_any}
use Rattle.std.specs.Str.{bytes_eq}
use Rattle.wc_hdata.specs.declared.element.Element.{Element}
use Rattle.wc_hdata.specs.declared.element.Element.TheVariants as Elements
use Rattle.wc_keys.specs.declared.key.Key.{Key}
use Rattle.wc_keys.specs.declared.key.KeyList.{KeyList}
use Rattle.wc_keys.specs.declared.key.KeyList.TheVariants as l
use Rattle.wc_keys.specs.Keys.{keys_in, key_name, is_own}
pub use Rattle.wc_keys.specs.Keys.{kind_of_key, same_key, key_text}
unfoldable pub use Rattle.wc_keys.specs.Keys.{keys_text}

-- the keys of each element, in order
abbrev pub list_at : Element → KeyList
list_at Elements.Buffer = l.Buffer
list_at Elements.Lines = l.Lines
list_at Elements.Line = l.Line
list_at Elements.LineData = l.LineData

abbrev pub keys_at : Element → List Key
keys_at element = keys_in (list_at element)

-- the key of that name among those of a list
abbrev pub key_named : KeyList → List ℕ → Option Key
key_named list text = find (λ key. bytes_eq text (key_name key)) (keys_in list)

abbrev pub has_key : List Key → Key → Bool
has_key keys key = list_any (λ other. same_key other key) keys

-- each key where it came first
abbrev pub firsts : List Key → List Key
firsts [] = []
firsts (key ∷ keys) = key ∷ filter (λ other. not (same_key key other)) (firsts keys)

-- the keys of a list that a text names between commas
unfoldable pub named_keys : KeyList → List ℕ → List Key
named_keys list text = firsts (filter_map (key_named list) (slice_split (λ b. b == 44) text))

-- keys without those that are our own
abbrev pub without_own : List Key → List Key
without_own keys = filter (λ key. not (is_own key)) keys

-- the same, or all but our own where the text is empty
abbrev pub keys_asked_in : KeyList → List ℕ → List Key
keys_asked_in list [] = without_own (keys_in list)
keys_asked_in list (b ∷ text) = named_keys list (b ∷ text)

-- those of an element
abbrev pub keys_of : Element → List ℕ → List Key
keys_of element text = keys_asked_in (list_at element) text

-- keys with one more, unless it is among them
abbrev pub with_key : List Key → Option Key → List Key
with_key keys None = keys
with_key keys (Some key) = if has_key keys key then keys else keys ++ key ∷ []
