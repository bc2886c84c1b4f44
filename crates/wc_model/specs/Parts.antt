-- What a change is told as: its own event, then of each buffer the lines whose flags differ, and then
-- how many of the oldest lines each buffer lost. Each of these is noticed by itself.
use Rattle.std.specs.Prelude.{ℕ, Bool, ◌==◌, List, [], ◌∷◌, ◌++◌, map, filter}
use Rattle.std.specs.List.{list_any}
use Rattle.wc_text.specs.declared.names.Handle.{Handle}
use Rattle.wc_lines.specs.declared.line.Line.{Line}
use Rattle.wc_model.specs.declared.notice.EventKind.{EventKind}
use Rattle.wc_model.specs.declared.notice.EventKind.TheVariants as kind
use Rattle.wc_model.specs.declared.notice.Notice.{Notice}
use Rattle.wc_model.specs.declared.notice.Trim.{Trim}
use Rattle.wc_model.specs.World.{World, lines_at}
use Rattle.wc_model.specs.Order.{order}

-- what is noticed of a buffer beside the event of the change
abbrev pub part_with : EventKind → Handle → List Handle → List Trim → Notice
part_with kind buffer flips trims = record {
  kind = kind;
  buffer = buffer;
  number = 0;
  full_name = [];
  prev = record { 0 = 0 };
  next = record { 0 = 0 };
  lines = [];
  flips = flips;
  trims = trims;
}

-- ---- lines whose flags differ, which are named by their contents

abbrev pub is_flipped : List Handle → Line → Bool
is_flipped flips line = list_any (λ (flip : Handle). flip.0 == line.content.0) flips

abbrev pub has_flips : World → List Handle → ℕ → Bool
has_flips world flips buffer = list_any (is_flipped flips) (lines_at world buffer)

-- what is noticed of a buffer that has such lines
abbrev pub flag_part : List Handle → ℕ → Notice
flag_part flips buffer = part_with kind.LineDataChanged (record { 0 = buffer }) flips []

-- of each buffer that has some, in order
abbrev pub flag_parts : World → List Handle → List Notice
flag_parts world [] = []
flag_parts world (flip ∷ flips) =
    map (flag_part (flip ∷ flips)) (filter (has_flips world (flip ∷ flips)) (order world.groups))

-- ---- lines that went

-- what is noticed of a buffer that lost lines
abbrev pub trim_part : Trim → Notice
trim_part trim = part_with kind.LinesTrimmed trim.buffer [] (trim ∷ [])

-- ---- all of it

-- the parts of a notice, in the world after the change, in the order in which they are told
abbrev pub parts_of : World → Notice → List Notice
parts_of world notice = notice ∷ flag_parts world notice.flips ++ map trim_part notice.trims
