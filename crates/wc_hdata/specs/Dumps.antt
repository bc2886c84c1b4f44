-- The paths and the keys that ask for what the dumps tell.
use Rattle.std.specs.Prelude.{ℕ, ◌≤◌, List, [], ◌∷◌, length, codes}
use Rattle.wc_model.specs.World.{World, lines_at}
use Rattle.wc_hdata.specs.declared.count.Count.TheVariants.{One, All}
use Rattle.wc_hdata.specs.declared.path.Path.{Path}
use Rattle.wc_hdata.specs.declared.path.Start.TheVariants.{FirstBuffer}
use Rattle.wc_hdata.specs.declared.variable.Variable.TheVariants.{OwnLines, FirstLine, Data}

-- all buffers
abbrev pub buffers_text : List ℕ
buffers_text = codes "buffer:gui_buffers(*)"

abbrev pub buffers_path : Path
buffers_path = record { start = FirstBuffer; count = All; steps = [] }

abbrev pub buffers_keys : List ℕ
buffers_keys = codes "number,full_name,short_name,hidden,title,local_variables"

-- all lines of each buffer
abbrev pub lines_text : List ℕ
lines_text = codes "buffer:gui_buffers(*)/own_lines/first_line(*)/data"

abbrev pub lines_path : Path
lines_path = record {
  start = FirstBuffer;
  count = All;
  steps = record { variable = OwnLines; count = One } ∷ record { variable = FirstLine; count = All }
      ∷ record { variable = Data; count = One } ∷ [];
}

abbrev pub lines_keys : List ℕ
lines_keys = codes
    "buffer,id,date,date_usec,date_printed,date_usec_printed,displayed,notify_level,highlight,tags_array,prefix,message"

-- no buffer has more lines than its list may hold
abbrev pub AreShort : World → Type 0
AreShort world = (h : ℕ) → length (lines_at world h) ≤ 4096
