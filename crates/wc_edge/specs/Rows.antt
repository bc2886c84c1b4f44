-- The rows of the links that are there, which ascend by number.
use Rattle.std.specs.Prelude.{ℕ, ◌≡◌, ◌<◌, ◌||◌, ◌&&◌, not, Bool, true, false, List, length, map, All, Option}
use Rattle.std.specs.Prelude.{Some, None, slice_index}
use Rattle.std.specs.List.{list_any}
use Rattle.wc_outside.specs.declared.sockets.Token.{Token}
use Rattle.wc_outside.specs.Happenings.{is_link, is_listener, IsThere}
use Rattle.wc_outside.specs.Keyed.{at_key}
use Rattle.wc_edge.specs.declared.rows.Row.{Row}

-- the number of a row's link
abbrev pub number_of : Row → ℕ
number_of row = row.link.0

-- what is there where no row is
abbrev pub no_row : Row
no_row = record { link = record { 0 = 0 }; undrained = false; blocked = false }

abbrev pub has : Option Row → Bool
has None = false
has (Some row) = true

abbrev pub undrained_in : Option Row → Bool
undrained_in None = false
undrained_in (Some row) = row.undrained

abbrev pub blocked_in : Option Row → Bool
blocked_in None = false
blocked_in (Some row) = row.blocked

-- whether a link is there, is not drained, and is blocked
abbrev pub is_there : List Row → ℕ → Bool
is_there rows link = has (at_key number_of link rows)

abbrev pub is_undrained : List Row → ℕ → Bool
is_undrained rows link = undrained_in (at_key number_of link rows)

abbrev pub is_blocked : List Row → ℕ → Bool
is_blocked rows link = blocked_in (at_key number_of link rows)

-- each number is below those after it
abbrev pub IsAscending : List ℕ → Type 0
IsAscending ns = (i j : ℕ) → i < j → j < length ns → slice_index ns i < slice_index ns j

-- a wait has reported these sources so far, and nothing else changed
pub record SourcesReported (old new : List Row) (listening_old listening_new : Bool)
    (tokens : List Token) : Type 0 where
  pub sources : All (IsThere (is_there old)) tokens
  pub undrained : (link : ℕ) → is_undrained new link ≡ is_undrained old link
      || list_any (is_link link) tokens
  pub listening : listening_new ≡ listening_old || list_any is_listener tokens
  pub there : (link : ℕ) → is_there new link ≡ is_there old link
  pub blocked : (link : ℕ) → is_blocked new link ≡ is_blocked old link
      && not (list_any (is_link link) tokens)
  pub numbers : map number_of new ≡ map number_of old
