-- The flags of lines as the filters have them.
use Rattle.std.specs.Prelude.{◌≡◌, ℕ, List, All}
use Rattle.std.specs.List.{flat_map}
use Rattle.wc_text.specs.declared.names.Handle.{Handle}
use Rattle.wc_buffers.specs.Calls.{buffer_of}
use Rattle.wc_buffers.specs.Vars.{cut_to}
use Rattle.wc_filters.specs.declared.filter.Filter.{Filter}
use Rattle.wc_lines.specs.declared.line.Line.{Line}
use Rattle.wc_model.specs.declared.change.Change.{Change}
use Rattle.wc_model.specs.declared.change.Flip.{Flip}
use Rattle.wc_model.specs.declared.change.LineSpec.{LineSpec}
use Rattle.wc_model.specs.declared.change.What.{What}
use Rattle.wc_model.specs.declared.change.What.TheVariants.{Print, Rename, Flips}
use Rattle.wc_model.specs.LineCuts.{cut_tags}
use Rattle.wc_model.specs.Notices.{name_in}
use Rattle.wc_model.specs.Order.{order}
use Rattle.wc_model.specs.World.{World, lines_at}
use Rattle.wc_rules.specs.Displayed.{is_displayed, line_is_displayed, flips_of}

-- the full name of a buffer, and nothing where there is no such buffer
abbrev pub full_name_at : World → Handle → List ℕ
full_name_at world buffer = name_in (buffer_of buffer world.groups)

-- ---- a change with the flags that the filters give

-- a line has the flag of its texts as its buffer takes them
abbrev pub fitted_line : List Filter → List ℕ → LineSpec → LineSpec
fitted_line filters name line = record line {
  displayed =
      is_displayed filters name (cut_tags line.tags) (cut_to 128 line.prefix)
      (cut_to 1024 line.message);
}

-- a line that is printed has its flag, and a buffer that is renamed those of its lines for the new name
abbrev pub fitted_what : List Filter → World → Handle → What → What
fitted_what filters world buffer (Print line) =
    Print (fitted_line filters (full_name_at world buffer) line)
fitted_what filters world buffer (Rename name flips) =
    Rename name (flips_of filters name (lines_at world buffer.0))
fitted_what filters world buffer w = w

abbrev pub fitted : List Filter → World → Change → Change
fitted filters world change = record change {
  what = fitted_what filters world change.buffer change.what;
}

-- ---- the flags of all lines

-- the lines of a buffer that get another flag by these filters
abbrev pub flips_at : List Filter → World → ℕ → List Flip
flips_at filters world buffer =
    flips_of filters (full_name_at world (record { 0 = buffer })) (lines_at world buffer)

-- those of some buffers
abbrev pub flips_among : List Filter → World → List ℕ → List Flip
flips_among filters world buffers = flat_map (λ buffer. flips_at filters world buffer) buffers

-- those of all buffers, in their order
abbrev pub flips_everywhere : List Filter → World → List Flip
flips_everywhere filters world = flips_among filters world (order world.groups)

-- a change of flags is a change of no one buffer
abbrev pub flips_change : List Flip → Change
flips_change flips = record { buffer = record { 0 = 0 }; what = Flips flips }

-- each line of a buffer has the flag that these filters give
abbrev pub IsShownAt : List Filter → World → ℕ → Type 0
IsShownAt filters world buffer =
    All (λ (line : Line). line.displayed
    ≡ line_is_displayed filters (full_name_at world (record { 0 = buffer })) line)
    (lines_at world buffer)

-- each line has
abbrev pub AreShown : List Filter → World → Type 0
AreShown filters world = All (λ buffer. IsShownAt filters world buffer) (order world.groups)
