-- The answer to a data path keeps the rules of messages.
use Rattle.std.proofs.Common.{◌≡◌, ℕ, suc, ℤ, ◌&&◌, Bool, true, false, cond, not, subst, List, [], ◌∷◌, length, map, Option, Some, None, refl, sym, ◌∙◌, find, All, eqb, eq-eqb}
use Rattle.std.specs.List.{AllByRecursion, filter, filter_map, list_all, slice_split, cons_option}
use Rattle.std.specs.Str.{IsUtf8, bytes_eq, is_utf8}
use Rattle.std.proofs.lemmas.Str.{is_utf8-from_IsUtf8}
use Rattle.std.proofs.lemmas.Bool.{and_from}
use Rattle.std.proofs.lemmas.Option.{same_Some}
use Rattle.std.proofs.lemmas.List.Elements.{recursion_from_All}
use denote.Hole.Carrier.{out}
use Rattle.wc_text.specs.declared.names.Pair.{Pair}
use Rattle.wc_text.specs.declared.names.Handle.{Handle}
use Rattle.wc_lines.specs.LineText.{HasUtf8Texts}
use Rattle.wc_buffers.specs.declared.row.BufferEntry.{BufferEntry}
use Rattle.wc_buffers.specs.Calls.{EntryGroups, handle_of, entry_of, is_there}
use Rattle.wc_buffers.specs.Kept.{AreBuffers, AreVars, IsBuffer}
use Rattle.wc_world.proofs.GroupRows.{some_row}
use Rattle.wc_objects.specs.declared.kind.Kind.{Kind}
use Rattle.wc_objects.specs.declared.kind.Kind.TheVariants as kind
use Rattle.wc_objects.specs.declared.object.Object.{Object}
use Rattle.wc_objects.specs.declared.object.Object.TheVariants as o
use Rattle.wc_objects.specs.declared.object.Object.TheViews.{out-Object, out-roll-Object, out-roll-Hda, out-roll-HdaItem}
use Rattle.wc_objects.specs.declared.object.Hda.{roll-Hda}
use Rattle.wc_objects.specs.declared.object.HdaItem.{HdaItem, roll-HdaItem}
use Rattle.wc_objects.specs.Forms.{kinds_of, simple_is, value_is, values_are, item_of as item_is, values_of as kinds_hold, hda_is, object_is, well_formed, names_of, is_path}
use Rattle.wc_events.specs.BufferObjects.{pair_of, table, text, bare_name}
use Rattle.wc_events.specs.LineObjects.{texts}
use Rattle.wc_model.specs.World.{World}
use Rattle.wc_hdata.specs.declared.element.Element.{Element}
use Rattle.wc_hdata.specs.declared.element.Element.TheVariants as Elements
use Rattle.wc_keys.specs.declared.key.Key.{Key}
use Rattle.wc_keys.specs.declared.key.KeyList.{KeyList}
use Rattle.wc_hdata.specs.declared.path.Path.{Path}
use Rattle.wc_hdata.specs.Hdata.{keys_asked, walk_object}
use Rattle.wc_hdata.specs.Kept.{Listed, IsKept}
use Rattle.wc_keys.specs.Keys.{kind_of_key, same_key, keys_text}
use Rattle.wc_hdata.specs.Keys.{list_at, keys_at, key_named, firsts, named_keys, keys_asked_in, keys_of}
use Rattle.wc_keys.specs.Keys.{key_name, keys_in, is_own, own_keys}
use Rattle.wc_hdata.specs.Paths.{element_at, h_path_of}
use Rattle.wc_hdata.specs.Reached.{Place, HeldLine, Buffer, Lines, Line_at, Data_at}
use Rattle.wc_hdata.specs.Refusals.{reached}
use Rattle.wc_hdata.specs.Values.{of_buffer, of_lines, of_data, value_of, values_of, item_of, items_of}
use Rattle.wc_hdata.specs.Walk.{Node}
use Rattle.wc_hdata.specs.WalkForms.{element_of_place, AreNodesKept}
use Rattle.wc_hdata.proofs.Everywhere.{all_weaken}
use Rattle.wc_hdata.proofs.FormLemmas.{h_path_is_path, h_path_depth, h_path_is_utf8, keys_text_kinds, keys_text_is_utf8}
use Rattle.wc_hdata.proofs.NameTexts.{bare_name_text}
use Rattle.wc_hdata.proofs.ReachedForms.{IsNodeOf, AreNodesOf, reached_are}

-- ---- what holds of the keys of an element holds of those that are asked for
found_is : (P : Key → Type 0) (test : Key → Bool) (keys : List Key) (key : Key) → AllByRecursion P keys → find test keys ≡ Some key → P key
found_is P test [] key all found = absurd (cc)
found_is P test (first ∷ keys) key all found = by (test first) found (found_is P test keys key all.1)
  where
    by : (t : Bool) → cond t (Some first) (find test keys) ≡ Some key → (find test keys ≡ Some key → P key) → P key
    by true e others = subst P (same_Some first key e) all.0
    by false e others = others e

mapped_are : (P : Key → Type 0) (f : List ℕ → Option Key) → ((text : List ℕ) (key : Key) → f text ≡ Some key → P key) → (names : List (List ℕ)) → AllByRecursion P (filter_map f names)
mapped_are P f each [] = tt
mapped_are P f each (name ∷ names) = by (f name) refl (mapped_are P f each names)
  where
    by : (found : Option Key) → f name ≡ found → AllByRecursion P (filter_map f names) → AllByRecursion P (cons_option found (filter_map f names))
    by None e others = others
    by (Some key) e others = (each name key e, others)

filtered_are : (P : Key → Type 0) (test : Key → Bool) (keys : List Key) → AllByRecursion P keys → AllByRecursion P (filter test keys)
filtered_are P test [] all = tt
filtered_are P test (key ∷ keys) all = by (test key) (filtered_are P test keys all.1)
  where
    by : (t : Bool) → AllByRecursion P (filter test keys) → AllByRecursion P (cond t (key ∷ filter test keys) (filter test keys))
    by true others = (all.0, others)
    by false others = others

firsts_are : (P : Key → Type 0) (keys : List Key) → AllByRecursion P keys → AllByRecursion P (firsts keys)
firsts_are P [] all = tt
firsts_are P (key ∷ keys) all = (all.0, filtered_are P (λ other. not (same_key key other)) (firsts keys) (firsts_are P keys all.1))

pub asked_are : (P : Key → Type 0) (list : KeyList) (text : List ℕ) → AllByRecursion P (keys_in list) → AllByRecursion P (keys_asked_in list text)
unfolding named_keys
asked_are P list [] all = filtered_are P (λ key. not (is_own key)) (keys_in list) all
asked_are P list (b ∷ text) all =
    firsts_are P _ (mapped_are P (key_named list) (λ name key found. found_is P (λ key. bytes_eq name (key_name key)) (keys_in list) key all found) (slice_split (λ b. eqb b 44) (b ∷ text)))

-- ---- each key has a value of its type
abbrev pub IsValue : Key → Option Object → Type 0
IsValue key None = ⊥
IsValue key (Some value) = value_is (kind_of_key key) value ≡ true

pub values_fit : (f : Key → Option Object) (keys : List Key) → AllByRecursion (λ key. IsValue key (f key)) keys → values_are (map kind_of_key keys) (filter_map f keys) ≡ true
values_fit f [] all = refl
values_fit f (key ∷ keys) all = by (f key) all.0 (values_fit f keys all.1)
  where
    by : (value : Option Object) → IsValue key value → values_are (map kind_of_key keys) (filter_map f keys) ≡ true
        → values_are (kind_of_key key ∷ map kind_of_key keys) (cons_option value (filter_map f keys)) ≡ true
    by None fits others = absurd fits
    by (Some value) fits others = and_from (value_is (kind_of_key key) value) (values_are (map kind_of_key keys) (filter_map f keys)) fits others

-- ---- values by their types
pub int_formed : (n : ℤ) → value_is kind.Int (o.Int n) ≡ true
unfolding value_is simple_is out-Object out
int_formed n = refl

pub ptr_formed : (n : ℕ) → value_is kind.Ptr (o.Ptr n) ≡ true
unfolding value_is simple_is out-Object out
ptr_formed n = refl

tim_formed : (n : ℤ) → value_is kind.Tim (o.Tim n) ≡ true
unfolding value_is simple_is out-Object out
tim_formed n = refl

chr_formed : (n : ℤ) → value_is kind.Chr (o.Chr n) ≡ true
unfolding value_is simple_is out-Object out
chr_formed n = refl

pub str_formed : (bytes : List ℕ) → IsUtf8 bytes → value_is kind.Str (text bytes) ≡ true
unfolding value_is simple_is out-Object out
str_formed bytes h = is_utf8-from_IsUtf8 bytes h

tags_simple : (tags : List (List ℕ)) → AllByRecursion IsUtf8 tags → list_all (λ value. simple_is kind.Str value) (texts tags) ≡ true
unfolding simple_is out-Object out
tags_simple [] _ = refl
tags_simple (tag ∷ tags) h = rw (is_utf8-from_IsUtf8 tag h.0) (tags_simple tags h.1)

pub tags_formed : (tags : List (List ℕ)) → All IsUtf8 tags → value_is kind.Arr (o.Arr kind.Str (texts tags)) ≡ true
unfolding value_is
tags_formed tags h = rw (← o.rolls-Arr kind.Str (texts tags), out-roll-Object) (tags_simple tags (recursion_from_All IsUtf8 tags h))

vars_simple : (vars : List Pair) → AreVars vars → list_all (λ (p : Object × Object). simple_is kind.Str p.0 && simple_is kind.Str p.1) (map pair_of vars) ≡ true
unfolding simple_is out-Object out
vars_simple [] _ = refl
vars_simple (var ∷ vars) h = rw (is_utf8-from_IsUtf8 var.name h.0.name, is_utf8-from_IsUtf8 var.value h.0.value) (vars_simple vars h.1)

table_formed : (vars : List Pair) → AreVars vars → value_is kind.Htb (table vars) ≡ true
unfolding value_is
table_formed vars h = rw (← o.rolls-Htb kind.Str kind.Str (map pair_of vars), out-roll-Object) (vars_simple vars h)

-- ---- the values of each element
entry_fits : (groups : EntryGroups) (buffer : Handle) (e : BufferEntry) → IsBuffer e → AllByRecursion (λ key. IsValue key (of_buffer groups buffer key (Some e))) (keys_at Elements.Buffer)
entry_fits groups buffer e is = (int_formed _, (str_formed e.row.full_name is.text.full_name, (str_formed e.row.short_name is.text.short_name, (int_formed _, (str_formed e.row.title is.text.title, (table_formed e.vars is.vars, (ptr_formed _, (ptr_formed _, own_fit))))))))
  where
    own_fit : AllByRecursion (λ key. IsValue key (of_buffer groups buffer key (Some e))) own_keys
    own_fit = (str_formed (bare_name e.row.full_name) (bare_name_text e.row.full_name is.text.full_name), (int_formed _, (int_formed _, (int_formed _, tt))))

-- each buffer that is there keeps its limits
abbrev pub AreFit : EntryGroups → Type 0
AreFit groups = (h : Handle) (e : BufferEntry) → entry_of h groups ≡ Some e → IsBuffer e

buffer_fits : (groups : EntryGroups) (buffer : Handle) → AreFit groups → is_there buffer groups ≡ true → AllByRecursion (λ key. IsValue key (of_buffer groups buffer key (entry_of buffer groups))) (keys_at Elements.Buffer)
buffer_fits groups buffer are there =
    let row = some_row handle_of buffer.0 groups there in
    subst (λ (found : Option BufferEntry). AllByRecursion (λ key. IsValue key (of_buffer groups buffer key found)) (keys_at Elements.Buffer)) (sym row.1)
    (entry_fits groups buffer row.0 (are buffer row.0 row.1))

lines_fit : (lines : List HeldLine) → AllByRecursion (λ key. IsValue key (of_lines key lines)) (keys_at Elements.Lines)
lines_fit lines = (ptr_formed _, (ptr_formed _, (int_formed _, tt)))

data_fits : (held : HeldLine) → HasUtf8Texts held.line → AllByRecursion (λ key. IsValue key (of_data key held)) (keys_at Elements.LineData)
data_fits held h = (ptr_formed _, (int_formed _, (tim_formed _, (int_formed _, (tim_formed _, (int_formed _, (chr_formed _, (chr_formed _, (chr_formed _, (tags_formed held.line.tags h.tags, (str_formed held.line.prefix h.prefix, (str_formed held.line.message h.message, tt))))))))))))

-- a buffer that is there, and a line whose texts are UTF-8
abbrev pub IsTold : EntryGroups → Place → Type 0
IsTold groups (Buffer buffer) = is_there buffer groups ≡ true
IsTold groups (Lines list) = Unit {0}
IsTold groups (Line_at held) = Unit {0}
IsTold groups (Data_at held) = HasUtf8Texts held.line

place_fits : (world : World) (place : Place) → AreFit world.groups → IsTold world.groups place → AllByRecursion (λ key. IsValue key (value_of world place key)) (keys_at (element_of_place place))
unfolding value_of
place_fits world (Buffer buffer) are kept = buffer_fits world.groups buffer are kept
place_fits world (Lines list) are kept = lines_fit _
place_fits world (Line_at held) are kept = (ptr_formed _, tt)
place_fits world (Data_at held) are kept = data_fits held kept

-- ---- an item
pub parts_fit : (pointers : List ℕ) (values : List Object) (depth : ℕ) (kinds : List Kind) → length pointers ≡ depth → values_are kinds values ≡ true
    → item_is depth (Some kinds) (roll-HdaItem (record { pointers = pointers; values = values })) ≡ true
unfolding item_is
parts_fit pointers values depth kinds deep fits =
    let opened = out-roll-HdaItem (record { pointers = pointers; values = values }) in
    (λ i. eqb (length (opened i).pointers) depth && kinds_hold (Some kinds) (opened i).values)
    ∙ and_from (eqb (length pointers) depth) (values_are kinds values) (eq-eqb (length pointers) depth deep) fits

item_fits : (world : World) (element : Element) (depth : ℕ) (asked : List ℕ) (node : Node) → AreFit world.groups → IsTold world.groups node.place → IsNodeOf element depth node
    → item_is depth (Some (map kind_of_key (keys_of element asked))) (item_of world (keys_of element asked) node) ≡ true
item_fits world element depth asked node are kept of =
    let keys = keys_of element asked in
    let each = asked_are (λ key. IsValue key (value_of world node.place key)) (list_at element) asked
    (subst (λ (e : Element). AllByRecursion (λ key. IsValue key (value_of world node.place key)) (keys_at e)) of.0 (place_fits world node.place are kept)) in
    parts_fit node.pointers (values_of world keys node.place) depth (map kind_of_key keys) of.1 (values_fit (value_of world node.place) keys each)

items_fit : (world : World) (element : Element) (depth : ℕ) (asked : List ℕ) (nodes : List Node) → AreFit world.groups → AllByRecursion (λ (node : Node). IsTold world.groups node.place) nodes → AreNodesOf element depth nodes
    → list_all (λ item. item_is depth (Some (map kind_of_key (keys_of element asked))) item) (items_of world (keys_of element asked) nodes) ≡ true
items_fit world element depth asked [] are kept of = refl
items_fit world element depth asked (node ∷ nodes) are kept of =
    and_from (item_is depth _ (item_of world (keys_of element asked) node)) _ (item_fits world element depth asked node are kept.0 of.0) (items_fit world element depth asked nodes are kept.1 of.1)

-- ---- the whole
pub hda_fits : (path keys : List ℕ) (items : List HdaItem) (depth : ℕ) (kinds : List Kind) → is_utf8 path ≡ true → is_path path ≡ true → is_utf8 keys ≡ true → kinds_of keys ≡ Some kinds → length (names_of path) ≡ depth
    → list_all (λ item. item_is depth (Some kinds) item) items ≡ true → well_formed (o.Hda (roll-Hda (record { path = Some path; keys = Some keys; items = items })) ∷ []) ≡ true
unfolding well_formed object_is hda_is
hda_fits path keys items depth kinds text_is named keys_is typed deep each =
    rw (← o.rolls-Hda (roll-Hda (record { path = Some path; keys = Some keys; items = items })), out-roll-Object, out-roll-Hda, text_is, named, keys_is, typed, deep, each) refl

pub walk_keeps_rules : (world : World) (path : Path) (keys : List ℕ) → AreFit world.groups → AllByRecursion (λ (node : Node). IsTold world.groups node.place) (reached world path)
    → well_formed (walk_object world path keys ∷ []) ≡ true
unfolding walk_object
walk_keeps_rules world path keys are told =
    let asked = keys_asked path keys in
    let nodes = reached world path in
    hda_fits (h_path_of path) (keys_text asked) (items_of world asked nodes) (suc (length path.steps)) (map kind_of_key asked)
    (h_path_is_utf8 path) (h_path_is_path path) (keys_text_is_utf8 asked) (keys_text_kinds asked) (h_path_depth path)
    (items_fit world (element_at path) (suc (length path.steps)) keys nodes are told (reached_are world path))

kept_told : (listed : Listed) (place : Place) → IsKept listed place → IsTold listed.world.groups place
kept_told listed (Buffer buffer) kept = kept
kept_told listed (Lines list) kept = tt
kept_told listed (Line_at held) kept = tt
kept_told listed (Data_at held) kept = kept.text

pub walk_formed : (listed : Listed) (path : Path) (keys : List ℕ) → AreBuffers listed.world.groups → AreNodesKept listed (reached listed.world path) → well_formed (walk_object listed.world path keys ∷ []) ≡ true
walk_formed listed path keys are kept =
    walk_keeps_rules listed.world path keys are.fit
    (all_weaken (λ (node : Node). IsKept listed node.place) (λ (node : Node). IsTold listed.world.groups node.place) (λ node is. kept_told listed node.place is) (reached listed.world path) kept)
