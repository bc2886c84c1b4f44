-- How the text of a form is parted at a byte outside forms and groups, in one pass.
use Rattle.std.specs.Prelude.{ℕ, Bool, true, false, nat_le, List, [], ◌∷◌, Option, Some, None}
use Rattle.std.specs.Prelude.{if◌then◌else◌}
use Rattle.wc_eval.specs.declared.branches.Candidate.{Candidate}
use Rattle.wc_eval.specs.Pieces.{Piece, text_of, is_byte, open_after, split_at, or_all, blocks_of}
use Rattle.wc_eval.specs.Walks.{left_of}

-- A place right after such a byte: how many parentheses are open there, and the pieces after it.
abbrev pub Place : Type 0
Place = ℕ × List Piece

-- the place, unless fewer parentheses are open now: then one that was open there was closed
abbrev pub still_outside : Option Place → ℕ → Option Place
still_outside None n = None
still_outside (Some place) n = if nat_le place.0 n then Some place else None

-- a place that is kept, or else the one after a piece that is this byte
abbrev pub or_here : ℕ → Piece → ℕ → Option Place → List Piece → Option Place
or_here c p n None ps = if is_byte c p then Some (n, ps) else None
or_here c p n (Some place) ps = Some place

-- the place that is known after a piece, with so many parentheses open then
abbrev pub next_place : ℕ → Piece → ℕ → Option Place → List Piece → Option Place
next_place c p n place ps = or_here c p n (still_outside place n) ps

-- the place that is known at the end
abbrev pub place_at_end : ℕ → ℕ → Option Place → List Piece → Option Place
place_at_end c n place [] = place
place_at_end c n place (p ∷ ps) = place_at_end c (open_after p n)
    (next_place c p (open_after p n) place ps) ps

-- the place of a candidate
abbrev pub place_of : Candidate → Place
place_of candidate = (candidate.count, left_of candidate.after)

abbrev pub place_by : Option Candidate → Option Place
place_by None = None
place_by (Some candidate) = Some (place_of candidate)

-- ---- two branches

-- two branches, which the first `:` parts; the second may lack
abbrev pub branches_of : List ℕ → List Piece × List Piece
branches_of text = or_all (blocks_of text) (split_at 58 (blocks_of text))

abbrev pub branch : Bool → List Piece × List Piece → List ℕ
branch true parts = text_of parts.0
branch false parts = text_of parts.1
