-- The texts of keys and of elements keep the rules of messages.
use Rattle.std.proofs.Common.{◌≡◌, ℕ, suc, ◌≤◌, List, [], ◌∷◌, length, map, Option, Some, None, Bool, true, false, cond, ◌&&◌, nat_lt, eqb, refl, sym, ap, ◌∙◌, arith, append-nil, length-append}
use Rattle.std.specs.List.{slice_split, onto_first, list_all, join_with_byte}
use Rattle.std.specs.Str.{IsAscii, is_utf8}
use Rattle.std.proofs.lemmas.Bool.{ltb-true, and_parts, and_from}
use Rattle.std.proofs.lemmas.List.{length-map}
use Rattle.std.proofs.lemmas.List.Folds.{list_all-append}
use Rattle.std.proofs.lemmas.Str.{IsUtf8-from_ascii, is_utf8-from_IsUtf8}
use Rattle.std.proofs.lemmas.Str.Ascii.{IsAscii-nil, IsAscii-cons}
use Rattle.wc_objects.specs.declared.kind.Kind.{Kind}
use Rattle.wc_objects.specs.Kinds.{letters}
use Rattle.wc_objects.specs.Forms as forms
use Rattle.wc_objects.specs.Forms.{pieces_of, names_of, is_path, named_kind, key_kind, with_kind, kinds_of_keys, kinds_of}
use Rattle.wc_hdata.specs.declared.element.Element.{Element}
use Rattle.wc_hdata.specs.declared.element.Element.TheVariants as Elements
use Rattle.wc_keys.specs.declared.key.Key.{Key}
use Rattle.wc_keys.specs.declared.key.Key.TheVariants as k
use Rattle.wc_hdata.specs.declared.path.Path.{Path}
use Rattle.wc_hdata.specs.declared.path.Step.{Step}
use Rattle.wc_hdata.specs.Names.{element_name}
use Rattle.wc_keys.specs.Keys.{key_name}
use Rattle.wc_hdata.specs.Paths.{target, element_of, elements_of, h_path_of}
use Rattle.wc_keys.specs.Keys.{kind_of_key, key_text, keys_text}
use Rattle.wc_hdata.proofs.CutLemmas.{lacks, pieces_joined}

-- ---- pieces of joined texts
same_onto : (b : ℕ) (pieces : List (List ℕ)) → forms.onto_first b pieces ≡ onto_first b pieces
same_onto b [] = refl
same_onto b (piece ∷ pieces) = refl

pieces_are : (c : ℕ) (text : List ℕ) → pieces_of c text ≡ slice_split (λ b. eqb b c) text
pieces_are c [] = refl
pieces_are c (b ∷ text) = by (eqb b c) (pieces_are c text) where
  by : (t : Bool) → pieces_of c text ≡ slice_split (λ n. eqb n c) text
      → cond t ([] ∷ pieces_of c text) (forms.onto_first b (pieces_of c text)) ≡ cond t ([] ∷ slice_split (λ n. eqb n c) text) (onto_first b (slice_split (λ n. eqb n c) text))
  by true e = ap (λ (ps : List (List ℕ)). [] ∷ ps) e
  by false e = same_onto b (pieces_of c text) ∙ ap (onto_first b) e

split_joined : (c : ℕ) (first : List ℕ) (texts : List (List ℕ)) → lacks c first ≡ true → list_all (lacks c) texts ≡ true → slice_split (λ b. eqb b c) (join_with_byte c (first ∷ texts)) ≡ first ∷ texts
split_joined c first [] h more = ap (slice_split (λ b. eqb b c)) (sym (append-nil first)) ∙ pieces_joined c first None h
split_joined c first (second ∷ texts) h more =
    let both = and_parts (lacks c second) (list_all (lacks c) texts) more in
    pieces_joined c first (Some (join_with_byte c (second ∷ texts))) h ∙ ap (λ (ps : List (List ℕ)). first ∷ ps) (split_joined c second texts both.0 both.1)

pieces_of-joined : (c : ℕ) (first : List ℕ) (texts : List (List ℕ)) → lacks c first ≡ true → list_all (lacks c) texts ≡ true → pieces_of c (join_with_byte c (first ∷ texts)) ≡ first ∷ texts
pieces_of-joined c first texts h more = pieces_are c (join_with_byte c (first ∷ texts)) ∙ split_joined c first texts h more

-- ---- UTF-8
abbrev is_small : ℕ → Bool
is_small b = nat_lt b 128

small_ascii : (text : List ℕ) → list_all is_small text ≡ true → IsAscii text
small_ascii [] small = IsAscii-nil
small_ascii (b ∷ text) small =
    let both = and_parts (is_small b) (list_all is_small text) small in
    IsAscii-cons b text (ltb-true b 128 both.0) (small_ascii text both.1)

small_utf8 : (text : List ℕ) → list_all is_small text ≡ true → is_utf8 text ≡ true
small_utf8 text small = is_utf8-from_IsUtf8 text (IsUtf8-from_ascii text (small_ascii text small))

small_joined : (c : ℕ) → is_small c ≡ true → (texts : List (List ℕ)) → list_all (list_all is_small) texts ≡ true → list_all is_small (join_with_byte c texts) ≡ true
small_joined c mark [] small = refl
small_joined c mark (text ∷ []) small = (and_parts (list_all is_small text) true small).0
small_joined c mark (text ∷ second ∷ texts) small =
    let both = and_parts (list_all is_small text) (list_all (list_all is_small) (second ∷ texts)) small in
    let others = join_with_byte c (second ∷ texts) in
    list_all-append is_small text (c ∷ others)
    ∙ and_from (list_all is_small text) (is_small c && list_all is_small others) both.0
    (and_from (is_small c) (list_all is_small others) mark (small_joined c mark (second ∷ texts) both.1))

-- what holds of each holds of all
all_mapped : {A B : Type 0} (f : A → B) (p : B → Bool) → ((x : A) → p (f x) ≡ true) → (xs : List A) → list_all p (map f xs) ≡ true
all_mapped f p each [] = refl
all_mapped f p each (x ∷ xs) = and_from (p (f x)) (list_all p (map f xs)) (each x) (all_mapped f p each xs)

-- ---- h-paths
element_whole : (element : Element) → lacks 47 (element_name element) ≡ true
element_whole Elements.Buffer = refl
element_whole Elements.Lines = refl
element_whole Elements.Line = refl
element_whole Elements.LineData = refl

element_filled : (element : Element) → nat_lt 0 (length (element_name element)) ≡ true
element_filled Elements.Buffer = refl
element_filled Elements.Lines = refl
element_filled Elements.Line = refl
element_filled Elements.LineData = refl

element_small : (element : Element) → list_all is_small (element_name element) ≡ true
element_small Elements.Buffer = refl
element_small Elements.Lines = refl
element_small Elements.Line = refl
element_small Elements.LineData = refl

-- the names of an h-path are those of the elements
pub h_path_names : (path : Path) → names_of (h_path_of path) ≡ map element_name (elements_of path)
h_path_names path =
    pieces_of-joined 47 (element_name (element_of path.start)) (map element_name (map (λ (step : Step). target step.variable) path.steps)) (element_whole (element_of path.start))
    (all_mapped element_name (lacks 47) element_whole (map (λ (step : Step). target step.variable) path.steps))

pub h_path_is_path : (path : Path) → is_path (h_path_of path) ≡ true
h_path_is_path path =
    ap (list_all (λ name. nat_lt 0 (length name))) (h_path_names path) ∙ all_mapped element_name (λ name. nat_lt 0 (length name)) element_filled (elements_of path)

-- a name for the start, and one for each step
pub h_path_depth : (path : Path) → length (names_of (h_path_of path)) ≡ suc (length path.steps)
h_path_depth path =
    ap length (h_path_names path) ∙ length-map (elements_of path) element_name ∙ ap suc (length-map path.steps (λ (step : Step). target step.variable))

pub h_path_is_utf8 : (path : Path) → is_utf8 (h_path_of path) ≡ true
h_path_is_utf8 path = small_utf8 (h_path_of path) (small_joined 47 refl (map element_name (elements_of path)) (all_mapped element_name (list_all is_small) element_small (elements_of path)))

-- ---- keys
-- a key's text has no comma, names the type of the key, and is ASCII
record Keyed (key : Key) : Type 0 where
  pub whole : lacks 44 (key_text key) ≡ true
  pub kind : key_kind (key_text key) ≡ Some (kind_of_key key)
  pub small : list_all is_small (key_text key) ≡ true

keyed : (key : Key) → Keyed key
unfolding key_kind named_kind
keyed k.Number = record { whole = refl; kind = refl; small = refl }
keyed k.FullName = record { whole = refl; kind = refl; small = refl }
keyed k.ShortName = record { whole = refl; kind = refl; small = refl }
keyed k.Hidden = record { whole = refl; kind = refl; small = refl }
keyed k.Title = record { whole = refl; kind = refl; small = refl }
keyed k.LocalVariables = record { whole = refl; kind = refl; small = refl }
keyed k.PrevBuffer = record { whole = refl; kind = refl; small = refl }
keyed k.NextBuffer = record { whole = refl; kind = refl; small = refl }
keyed k.BufferType = record { whole = refl; kind = refl; small = refl }
keyed k.Notify = record { whole = refl; kind = refl; small = refl }
keyed k.Nicklist = record { whole = refl; kind = refl; small = refl }
keyed k.FirstLine = record { whole = refl; kind = refl; small = refl }
keyed k.LastLine = record { whole = refl; kind = refl; small = refl }
keyed k.LinesCount = record { whole = refl; kind = refl; small = refl }
keyed k.Data = record { whole = refl; kind = refl; small = refl }
keyed k.Buffer = record { whole = refl; kind = refl; small = refl }
keyed k.Id = record { whole = refl; kind = refl; small = refl }
keyed k.Date = record { whole = refl; kind = refl; small = refl }
keyed k.DateUsec = record { whole = refl; kind = refl; small = refl }
keyed k.DatePrinted = record { whole = refl; kind = refl; small = refl }
keyed k.DateUsecPrinted = record { whole = refl; kind = refl; small = refl }
keyed k.Displayed = record { whole = refl; kind = refl; small = refl }
keyed k.NotifyLevel = record { whole = refl; kind = refl; small = refl }
keyed k.Highlight = record { whole = refl; kind = refl; small = refl }
keyed k.TagsArray = record { whole = refl; kind = refl; small = refl }
keyed k.Prefix = record { whole = refl; kind = refl; small = refl }
keyed k.Message = record { whole = refl; kind = refl; small = refl }
keyed k.Diff = record { whole = refl; kind = refl; small = refl }
keyed k.Group = record { whole = refl; kind = refl; small = refl }
keyed k.Visible = record { whole = refl; kind = refl; small = refl }
keyed k.Level = record { whole = refl; kind = refl; small = refl }
keyed k.Name = record { whole = refl; kind = refl; small = refl }
keyed k.Color = record { whole = refl; kind = refl; small = refl }
keyed k.PrefixColor = record { whole = refl; kind = refl; small = refl }
keyed k.Priority = record { whole = refl; kind = refl; small = refl }
keyed k.Unread = record { whole = refl; kind = refl; small = refl }
keyed k.Trimmed = record { whole = refl; kind = refl; small = refl }
keyed k.Context = record { whole = refl; kind = refl; small = refl }
keyed k.BaseWord = record { whole = refl; kind = refl; small = refl }
keyed k.PosStart = record { whole = refl; kind = refl; small = refl }
keyed k.PosEnd = record { whole = refl; kind = refl; small = refl }
keyed k.List = record { whole = refl; kind = refl; small = refl }

key_whole : (key : Key) → lacks 44 (key_text key) ≡ true
key_whole key = (keyed key).whole

key_small : (key : Key) → list_all is_small (key_text key) ≡ true
key_small key = (keyed key).small

kinds_are : (keys : List Key) → kinds_of_keys (map key_text keys) ≡ Some (map kind_of_key keys)
kinds_are [] = refl
kinds_are (key ∷ keys) =
    ap (λ (o : Option Kind). with_kind o (kinds_of_keys (map key_text keys))) (keyed key).kind ∙ ap (with_kind (Some (kind_of_key key))) (kinds_are keys)

key_filled : (key : Key) → 1 ≤ length (key_text key)
key_filled key = omega (arith, length-append (key_name key) (58 ∷ letters (kind_of_key key)))

joined_filled : (c : ℕ) (first : List ℕ) (texts : List (List ℕ)) → 1 ≤ length first → 1 ≤ length (join_with_byte c (first ∷ texts))
joined_filled c first [] filled = filled
joined_filled c first (second ∷ texts) filled = omega (arith, length-append first (c ∷ join_with_byte c (second ∷ texts)))

filled_pieces : (text : List ℕ) → 1 ≤ length text → forms.keys_of text ≡ pieces_of 44 text
filled_pieces [] filled = absurd (omega arith)
filled_pieces (b ∷ text) filled = refl

-- the types that a text of keys names
pub keys_text_kinds : (keys : List Key) → kinds_of (keys_text keys) ≡ Some (map kind_of_key keys)
unfolding keys_text kinds_of
keys_text_kinds [] = refl
keys_text_kinds (key ∷ keys) =
    ap kinds_of_keys (filled_pieces (join_with_byte 44 (key_text key ∷ map key_text keys)) (joined_filled 44 (key_text key) (map key_text keys) (key_filled key))
    ∙ pieces_of-joined 44 (key_text key) (map key_text keys) (key_whole key) (all_mapped key_text (lacks 44) key_whole keys))
    ∙ kinds_are (key ∷ keys)

pub keys_text_is_utf8 : (keys : List Key) → is_utf8 (keys_text keys) ≡ true
unfolding keys_text
keys_text_is_utf8 keys = small_utf8 (join_with_byte 44 (map key_text keys)) (small_joined 44 refl (map key_text keys) (all_mapped key_text (list_all is_small) key_small keys))
