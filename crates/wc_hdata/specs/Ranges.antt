-- The part of a list that is still to come, forward or backward.
use Rattle.std.specs.Prelude.{ℕ, ◌≤◌, Bool, true, false, List, [], ◌∷◌, map, take, drop, length, reverse}
use Rattle.wc_hdata.specs.declared.cursor.Source.{Source}
use Rattle.wc_hdata.specs.declared.cursor.Source.TheVariants as source
use Rattle.wc_hdata.specs.declared.cursor.Cursor.TheInside.{Inside}
use Rattle.wc_hdata.specs.Lists.{held_by}
use Rattle.wc_hdata.specs.Reached.{Place, Buffer, Line_at, held_lines, place_of}

-- what a list has from one place up to another
abbrev pub between : {A : Type 0} → ℕ → ℕ → List A → List A
between low high xs = drop low (take high xs)

abbrev pub toward : {A : Type 0} → Bool → List A → List A
toward true xs = reverse xs
toward false xs = xs

-- the places of a list
abbrev pub places_in : Source → List Place
places_in (source.One place) = place_of place ∷ []
places_in (source.Buffers buffers) = map Buffer buffers.now
places_in (source.Own buffer lines) = map Line_at (map (held_by buffer) lines.now.lines)
places_in (source.Held lines) = map Line_at (held_lines lines.now)

-- the places that are still to come
abbrev pub places_left : Inside → List Place
places_left cursor = toward cursor.backward
    (between cursor.low cursor.high (places_in cursor.source))

abbrev pub IsRange : Inside → Type 0
IsRange cursor = (cursor.low ≤ cursor.high) × (cursor.high ≤ length (places_in cursor.source))
