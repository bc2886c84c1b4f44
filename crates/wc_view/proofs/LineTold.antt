-- What is told of lines is read as it was told.
use Rattle.std.proofs.Common.{◌≡◌, ℕ, ◌-◌, ◌^◌, ◌≤◌, ℤ, Bool, true, false, cond, List, [], ◌∷◌, codes, Some, refl, ap, ◌∙◌, le-leb}
use Rattle.std.specs.Prelude.{bytes_eq, pos}
use Rattle.std.specs.Option.{option_and_then}
use Rattle.std.proofs.lemmas.Bool.{eq-eqb}
use denote.Hole.Carrier.{out}
use Rattle.wc_text.specs.declared.names.Handle.{Handle}
use Rattle.wc_lines.specs.declared.line.Line.{Line}
use Rattle.wc_objects.specs.declared.kind.Kind.TheVariants as k
use Rattle.wc_objects.specs.declared.object.Object.TheVariants as o
use Rattle.wc_objects.specs.declared.object.Object.TheViews.{out-Object, out-roll-Object, out-roll-Hda}
use Rattle.wc_objects.specs.declared.object.Hda.{roll-Hda}
use Rattle.wc_objects.specs.declared.object.HdaItem.{HdaItem, roll-HdaItem}
use Rattle.wc_model.specs.declared.notice.Notice.{Notice}
use Rattle.wc_events.specs.LineObjects.{truth, count, moment, texts, line_keys, line_values, on_path, added_item, added_objects, dumped_item}
use Rattle.wc_events.specs.BufferObjects.{named_keys, named_values, named_objects}
use Rattle.wc_view.specs.declared.rows.LineRow.{LineRow}
use Rattle.wc_view.specs.Each.{each, only}
use Rattle.wc_view.specs.Values.{pointer_in, date_in, number_in, level_in, truth_in, text_in, texts_in}
use Rattle.wc_view.specs.Items.{items_on}
use Rattle.wc_view.specs.Rows.{dates_in, marks_in, line_texts_in, row_of, row_in, rows_on}
use Rattle.wc_view.specs.Named.{named_in, buffer_named}
use Rattle.wc_view.specs.Fold.{only_row}
use Rattle.wc_view.specs.Views.{shown_date, shown_number, shown_line}

pub pointer_told : (n : ℕ) → pointer_in (o.Ptr n) ≡ Some n
unfolding out-Object out
pointer_told n = refl

pub date_told : (date : ℕ) → date_in (o.Tim (moment date)) ≡ Some (shown_date date)
unfolding out-Object out
date_told date = refl

pub count_told : (number : ℕ) → number_in (o.Int (count number)) ≡ Some (shown_number number)
unfolding out-Object out
count_told number = refl

-- a number that a message may hold is told as it is
pub few_shown : (number : ℕ) → number ≤ 2 ^ 31 - 1 → shown_number number ≡ number
few_shown number few = ap (λ b. cond b number (2 ^ 31 - 1)) (le-leb number (2 ^ 31 - 1) few)

pub truth_told : (on : Bool) → truth_in (o.Chr (truth on)) ≡ Some on
unfolding out-Object out
truth_told true = refl
truth_told false = refl

pub number_told : (n : ℕ) → number_in (o.Int (pos n)) ≡ Some n
unfolding out-Object out
number_told n = refl

pub level_told : (n : ℤ) → level_in (o.Chr n) ≡ Some n
unfolding out-Object out
level_told n = refl

pub text_told : (text : List ℕ) → text_in (o.Str (Some text)) ≡ Some text
unfolding out-Object out
text_told text = refl

each_told : (tags : List (List ℕ)) → each text_in (texts tags) ≡ Some tags
each_told [] = refl
each_told (tag ∷ tags) = rw (text_told tag, each_told tags) refl

texts_told : (tags : List (List ℕ)) → texts_in (o.Arr k.Str (texts tags)) ≡ Some tags
texts_told tags = rw (← o.rolls-Arr k.Str (texts tags), out-roll-Object) (each_told tags)

-- the row of a line
abbrev pub row : Handle → Line → LineRow
row buffer line = record { buffer = buffer.0; line = shown_line line }

values_told : (buffer : Handle) (line : Line) → row_of (Some line.content.0) (line_values buffer line) ≡ Some (row buffer line)
unfolding line_values dates_in marks_in line_texts_in
values_told buffer line =
    rw (date_told, count_told, date_told, count_told, pointer_told, count_told, truth_told, level_told, truth_told, texts_told, text_told, text_told) refl

pub added_told : (buffer : Handle) (line : Line) → row_in (added_item buffer line) ≡ Some (row buffer line)
unfolding row_in added_item
added_told buffer line = values_told buffer line

pub dumped_told : (buffer own : Handle) (line : Line) → row_in (dumped_item buffer own line) ≡ Some (row buffer line)
unfolding row_in dumped_item
dumped_told buffer own line = values_told buffer line

-- the items of a message of one hda
pub items_told : (path keys : List ℕ) (items : List HdaItem) → bytes_eq path path ≡ true → bytes_eq keys keys ≡ true
    → items_on path keys (o.Hda (roll-Hda (record { path = Some path; keys = Some keys; items = items })) ∷ []) ≡ Some items
unfolding items_on
items_told path keys items p k =
    rw (← o.rolls-Hda (roll-Hda (record { path = Some path; keys = Some keys; items = items })), out-roll-Object, out-roll-Hda, p, k) refl

-- the rows of a message of lines
pub rows_told : (path : List ℕ) (items : List HdaItem) → bytes_eq path path ≡ true
    → rows_on path (o.Hda (on_path path items) ∷ []) ≡ each row_in items
rows_told path items same = ap (option_and_then (each row_in)) (items_told path line_keys items same refl)

pub same_bytes : (id : List ℕ) → bytes_eq id id ≡ true
same_bytes [] = refl
same_bytes (b ∷ id) = rw (eq-eqb b b refl) (same_bytes id)

-- the event of a new line
pub added_read : (buffer : Handle) (line : Line) → only_row (rows_on (codes "line_data") (added_objects buffer line)) ≡ Some (row buffer line)
added_read buffer line =
    ap only_row (rows_told (codes "line_data") (added_item buffer line ∷ []) refl) ∙ rw (added_told buffer line) refl

-- the event of a buffer by its number and its name alone
abbrev named_items : Notice → List HdaItem
named_items notice = roll-HdaItem (record { pointers = notice.buffer.0 ∷ []; values = named_values notice }) ∷ []

named_item_told : (notice : Notice) → option_and_then named_in (only (named_items notice)) ≡ Some notice.buffer.0
unfolding named_in named_values
named_item_told notice = rw (number_told, text_told) refl

pub named_told : (notice : Notice) → buffer_named (named_objects notice) ≡ Some notice.buffer.0
named_told notice =
    ap (λ items. option_and_then named_in (option_and_then only items)) (items_told (codes "buffer") named_keys (named_items notice) refl refl)
    ∙ named_item_told notice
