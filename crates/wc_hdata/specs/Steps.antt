-- Where a step of a path leads.
use Rattle.std.specs.Prelude.{ℕ, ◌-◌, ◌==◌, List, [], ◌∷◌, map, length, unwrap_or, position}
use Rattle.std.specs.List.{flat_map}
use Rattle.wc_text.specs.declared.names.Handle.{Handle}
use Rattle.wc_buffers.specs.Calls.{EntryGroups}
use Rattle.wc_buffers.specs.Kept.{handles}
use Rattle.wc_model.specs.World.{World}
use Rattle.wc_hdata.specs.declared.count.Count.{Count}
use Rattle.wc_hdata.specs.declared.path.Step.{Step}
use Rattle.wc_hdata.specs.declared.variable.Variable.{Variable}
use Rattle.wc_hdata.specs.declared.variable.Variable.TheVariants as by
use Rattle.wc_hdata.specs.declared.place.LineList.{LineList}
use Rattle.wc_hdata.specs.declared.place.LineList.TheVariants.{Own}
use Rattle.wc_hdata.specs.Along.{along}
use Rattle.wc_hdata.specs.Lists.{lines_in, shown_list}
use Rattle.wc_hdata.specs.Reached.{Place, HeldLine, Buffer, Lines, Line_at, Data_at}

-- the buffers in their order
abbrev pub all_buffers : EntryGroups → List Handle
all_buffers groups = flat_map (λ group. group) (handles groups)

-- the place of a buffer among them
abbrev pub place_in : Handle → List Handle → ℕ
place_in buffer buffers = unwrap_or (position (λ (h : Handle). h.0 == buffer.0) buffers) 0

-- the buffers to which a count goes from one
abbrev pub buffers_from : EntryGroups → Count → Handle → List Place
buffers_from groups count buffer = map Buffer (along count (place_in buffer (all_buffers groups))
    (all_buffers groups))

-- the lines to which a count goes from the first of a list, or from the last
abbrev pub from_first : Count → List HeldLine → List Place
from_first count lines = map Line_at (along count 0 lines)

abbrev pub from_last : Count → List HeldLine → List Place
from_last count lines = map Line_at (along count (length lines - 1) lines)

-- where a variable leads from a buffer, a list of lines, a line or the data of one
abbrev pub from_buffer : World → Variable → Handle → List Place
from_buffer world by.OwnLines buffer = Lines (Own buffer) ∷ []
from_buffer world by.Lines buffer = Lines (shown_list world.groups buffer) ∷ []
from_buffer world by.FirstLine buffer = []
from_buffer world by.LastLine buffer = []
from_buffer world by.Data buffer = []
from_buffer world by.Buffer buffer = []

abbrev pub from_lines : World → Variable → Count → LineList → List Place
from_lines world by.FirstLine count list = from_first count (lines_in world list)
from_lines world by.LastLine count list = from_last count (lines_in world list)
from_lines world by.OwnLines count list = []
from_lines world by.Lines count list = []
from_lines world by.Data count list = []
from_lines world by.Buffer count list = []

abbrev pub from_line : Variable → HeldLine → List Place
from_line by.Data held = Data_at held ∷ []
from_line by.OwnLines held = []
from_line by.Lines held = []
from_line by.FirstLine held = []
from_line by.LastLine held = []
from_line by.Buffer held = []

abbrev pub from_data : World → Variable → Count → HeldLine → List Place
from_data world by.Buffer count held = buffers_from world.groups count held.buffer
from_data world by.OwnLines count held = []
from_data world by.Lines count held = []
from_data world by.FirstLine count held = []
from_data world by.LastLine count held = []
from_data world by.Data count held = []

-- where a step leads
unfoldable pub reach : World → Step → Place → List Place
reach world step (Buffer buffer) = from_buffer world step.variable buffer
reach world step (Lines list) = from_lines world step.variable step.count list
reach world step (Line_at held) = from_line step.variable held
reach world step (Data_at held) = from_data world step.variable step.count held
