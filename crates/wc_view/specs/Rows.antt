-- The lines that a message tells.
use Rattle.std.specs.Prelude.{ℕ, List, [], ◌∷◌, Option, Some, None}
use Rattle.std.specs.Option.{option_and_then}
use Rattle.wc_lines.specs.Packed.{LineTexts}
use Rattle.wc_objects.specs.declared.object.Object.{Object}
use Rattle.wc_objects.specs.declared.object.HdaItem.{HdaItem, out-HdaItem}
use Rattle.wc_keys.specs.declared.key.KeyList.TheVariants as l
use Rattle.wc_keys.specs.Keys.{list_text}
use Rattle.wc_view.specs.declared.rows.LineDates.{LineDates}
use Rattle.wc_view.specs.declared.rows.LineMarks.{LineMarks}
use Rattle.wc_view.specs.declared.rows.LineRow.{LineRow}
use Rattle.wc_view.specs.Each.{each}
use Rattle.wc_view.specs.Items.{items_on, last_pointer}
use Rattle.wc_view.specs.Values.{pointer_in, date_in, number_in, level_in, truth_in, text_in}
use Rattle.wc_view.specs.Values.{texts_in}

-- what the values say that are dates
unfoldable pub dates_in : Object → Object → Object → Object → Option LineDates
dates_in date usec printed usec_printed =
    option_and_then (λ date. option_and_then (λ usec. option_and_then (λ printed.
    option_and_then (λ usec_printed.
    Some (record {
      date = date;
      usec = usec;
      date_printed = printed;
      usec_printed = usec_printed;
    }))
    (number_in usec_printed)) (date_in printed)) (number_in usec)) (date_in date)

-- what the values say that are numbers
unfoldable pub marks_in : Object → Object → LineDates → Object → Object → Object → Option LineMarks
marks_in buffer id dates displayed notify highlight =
    option_and_then (λ buffer. option_and_then (λ id. option_and_then (λ displayed.
    option_and_then (λ notify. option_and_then (λ highlight.
    Some (record {
      buffer = buffer;
      id = id;
      dates = dates;
      displayed = displayed;
      notify = notify;
      highlight = highlight;
    }))
    (truth_in highlight)) (level_in notify)) (truth_in displayed)) (number_in id))
    (pointer_in buffer)

-- what the values say that are texts
unfoldable pub line_texts_in : Object → Object → Object → Option LineTexts
line_texts_in tags prefix message =
    option_and_then (λ tags. option_and_then (λ prefix. option_and_then (λ message.
    Some (record { tags = tags; prefix = prefix; message = message })) (text_in message))
    (text_in prefix)) (texts_in tags)

abbrev pub row_with : ℕ → LineMarks → LineTexts → LineRow
row_with content marks texts = record {
  buffer = marks.buffer;
  line = record {
    content = record { 0 = content };
    id = marks.id;
    date = marks.dates.date;
    usec = marks.dates.usec;
    date_printed = marks.dates.date_printed;
    usec_printed = marks.dates.usec_printed;
    displayed = marks.displayed;
    notify = marks.notify;
    highlight = marks.highlight;
    tags = texts.tags;
    prefix = texts.prefix;
    message = texts.message;
  };
}

-- a line and its buffer, by the last pointer, which is that of the line's content, and the values
-- in the order of the keys
abbrev pub row_of : Option ℕ → List Object → Option LineRow
row_of content (buffer ∷ id ∷ date ∷ usec ∷ printed ∷ usec_printed ∷ displayed ∷ notify ∷
    highlight ∷ tags ∷ prefix ∷ message ∷ []) =
    option_and_then (λ content. option_and_then (λ dates. option_and_then
    (λ marks. option_and_then (λ texts. Some (row_with content marks texts))
    (line_texts_in tags prefix message))
    (marks_in buffer id dates displayed notify highlight))
    (dates_in date usec printed usec_printed)) content
row_of content _ = None

unfoldable pub row_in : HdaItem → Option LineRow
row_in item = row_of (last_pointer item) (out-HdaItem item).values

-- the lines of a message of one hda on this path with the keys of a line, each of whose items says
-- a line
abbrev pub rows_on : List ℕ → List Object → Option (List LineRow)
rows_on path objects = option_and_then (each row_in) (items_on path (list_text l.LineData) objects)
