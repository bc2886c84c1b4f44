-- The rows of links by number, where a link that was never made has an empty row.
use Rattle.std.specs.Prelude.{ℕ, ◌≡◌, ◌||◌, ◌&&◌, not, Bool, false, List, [], length, All}
use Rattle.std.specs.List.{list_any, slice_index_or}
use Rattle.wc_scripted.specs.declared.rows.Row.{Row}
use Rattle.wc_scripted.specs.declared.scripted.Scripted.{Scripted}
use Rattle.wc_outside.specs.declared.sockets.Token.{Token}
use Rattle.wc_outside.specs.Happenings.{is_link, IsThere}
use Rattle.wc_scripted.specs.Scripts.{is_for, is_arrival}

-- the row of a link that is not there
abbrev pub blank : Row
blank = record {
  sent = [];
  is_open = false;
  undrained = false;
  blocked = false;
  choked = false;
  news = false;
  taken = 0;
}

-- a link's row
abbrev pub row_at : ℕ → List Row → Row
row_at link rows = slice_index_or rows link blank

-- the row of a number that gets its place, of a link that is there or not, where these steps were
-- released before
abbrev pub placed_row : Bool → ℕ → List Scripted → Row
placed_row is_there link steps = record blank {
  is_open = is_there;
  news = is_there && list_any (is_for link) steps;
}

-- what each row is once its link is closed
abbrev pub closed_row : Row → Row
closed_row row = record row {
  is_open = false;
  undrained = false;
  blocked = false;
  choked = row.choked || row.blocked;
}

-- whether a wait has the link to report
abbrev pub is_fresh_row : Row → Bool
is_fresh_row row = row.is_open && (row.news || row.blocked)

-- a row whose link is about to take a whole window again
abbrev pub refilled : Row → Row
refilled row = record row { taken = 0 }

-- a link's row after these steps were released
abbrev pub noted : ℕ → List Scripted → Row → Row
noted link steps row = record row { news = row.news || (row.is_open && list_any (is_for link) steps) }

-- a row after a wait, which reported its link or not
abbrev pub marked : Bool → Row → Row
marked is_reported row = record row {
  undrained = row.undrained || is_reported;
  blocked = row.blocked && not is_reported;
  news = row.news && not is_reported;
}

-- a link's row after a wait that released these steps, and reported the link or not
abbrev pub waited : Bool → ℕ → List Scripted → Row → Row
waited is_reported link steps row = marked is_reported (noted link steps (refilled row))

-- these steps were released
pub record Noted (old new : List Row) (arriving_old arriving_new : Bool) (steps : List Scripted)
    : Type 0 where
  pub rows : (link : ℕ) → row_at link new ≡ noted link steps (row_at link old)
  pub arriving : arriving_new ≡ arriving_old || list_any is_arrival steps
  pub count : length new ≡ length old

-- a wait has reported these sources so far
pub record Reported (old new : List Row) (tokens : List Token) : Type 0 where
  pub there : All (IsThere (λ link. (row_at link old).is_open)) tokens
  pub rows : (link : ℕ) → row_at link new ≡ marked (list_any (is_link link) tokens) (row_at link old)
  pub count : length new ≡ length old
