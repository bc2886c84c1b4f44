-- What a text comes to that is evaluated on a buffer.
use Rattle.std.specs.Prelude.{ℕ, Bool, true, false, List, [], ◌∷◌, ◌++◌, codes, decimal, unwrap_or}
use Rattle.std.specs.Prelude.{if◌then◌else◌, Option, Some, None}
use Rattle.wc_text.specs.declared.names.Handle.{Handle}
use Rattle.wc_text.specs.declared.names.Pair.{Pair}
use Rattle.wc_buffers.specs.declared.row.BufferRow.{BufferRow}
use Rattle.wc_buffers.specs.Calls.{EntryGroups, buffer_of, is_there, number, vars_at}
use Rattle.wc_buffers.specs.Vars.{pair}
use Rattle.wc_eval.specs.Meaning.{text_value, condition_holds}
use Rattle.wc_eval.specs.Names.{Facts}
use Rattle.wc_model.specs.declared.change.Change.{Change}
use Rattle.wc_model.specs.declared.change.What.TheVariants as what
use Rattle.wc_core.specs.Resolved.{change_of, line_spec}
use Rattle.wc_core.specs.State.{State}

-- ---- what a text may name

-- the buffer, or the core buffer where it is gone
abbrev pub buffer_or_core : EntryGroups → Handle → Handle
buffer_or_core groups buffer = if is_there buffer groups then buffer else record { 0 = 1 }

abbrev pub number_text : Option ℕ → List ℕ
number_text None = []
number_text (Some n) = decimal n

-- the facts of a buffer that has this number
abbrev pub facts_of_row : Option ℕ → BufferRow → List Pair
facts_of_row n row =
    pair (codes "buffer.number") (number_text n)
    ∷ pair (codes "buffer.full_name") row.full_name
    ∷ pair (codes "buffer.short_name") row.short_name
    ∷ pair (codes "buffer.title") row.title ∷ []

abbrev pub facts_by : Option ℕ → Option BufferRow → List Pair
facts_by n None = []
facts_by n (Some row) = facts_of_row n row

-- the facts of a buffer, and none where it is not there
abbrev pub facts_of_buffer : EntryGroups → Handle → List Pair
facts_of_buffer groups buffer = facts_by (number buffer groups) (buffer_of buffer groups)

-- its local variables
abbrev pub locals_of_buffer : EntryGroups → Handle → List Pair
locals_of_buffer groups buffer = unwrap_or (vars_at buffer groups) []

-- options, and what is known of the buffer; there are no variables of a trigger and no groups of a
-- match
abbrev pub facts_at : State → Handle → Facts
facts_at state buffer = record {
  vars = [];
  options = state.options;
  facts = facts_of_buffer state.world.groups (buffer_or_core state.world.groups buffer);
  locals = locals_of_buffer state.world.groups (buffer_or_core state.world.groups buffer);
  groups = [];
}

-- ---- what it comes to

-- the value of a text
abbrev pub value_at : State → Handle → List ℕ → List ℕ
value_at state buffer text = text_value (facts_at state buffer) state.oracle text

-- whether a condition holds
abbrev pub holds_at : State → Handle → List ℕ → Bool
holds_at state buffer text = condition_holds (facts_at state buffer) state.oracle text

abbrev pub answer_text : Bool → List ℕ
answer_text true = codes "1"
answer_text false = codes "0"

-- the change that prints it: a line of the core buffer
abbrev pub printed_value : ℕ → List ℕ → Change
printed_value moment value = change_of (record { 0 = 1 })
    (what.Print (line_spec moment [] [] (codes "== [" ++ value ++ codes "]")))
