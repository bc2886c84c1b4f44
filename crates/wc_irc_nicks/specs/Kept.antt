-- The nicks of a channel as they are stored: places in the order of coming, of which some are
-- holes, and an index from the folded nick to its place.
use Rattle.std.specs.Prelude.{◌≡◌, ℕ, ◌≤◌, ◌/◌, List, [], ◌∷◌, length, slice_index_or}
use Rattle.std.specs.Prelude.{Option, Some, None, IsSome, nat_le, ◌<◌, bytes_eq, if◌then◌else◌}
use Rattle.wc_ircmsg.specs.declared.case_map.CaseMap.{CaseMap}
use Rattle.wc_ircmsg.specs.CaseMaps.{folded_name}
use Rattle.wc_irc_texts.specs.declared.seat.ModeSet.{ModeSet}
use Rattle.wc_irc_texts.specs.declared.seat.Seat.{Seat}

-- The nicks of a list, with the case map by which they are told apart, and how many nicks more come
-- in without taking memory.
pub record MembersValue : Type 0 where
  pub case_map : CaseMap
  pub seats : List Seat
  pub room : ℕ

abbrev pub with_seats : (List Seat → List Seat) → MembersValue → MembersValue
with_seats change list = record list { seats = change list.seats }

-- a nick that is to come onto a list that goes by this case map
pub record NewNickValue : Type 0 where
  pub case_map : CaseMap
  pub nick : List ℕ

-- the nicks at the places that are no holes
abbrev pub filled : List (Option Seat) → List Seat
filled [] = []
filled (None ∷ places) = filled places
filled (Some seat ∷ places) = seat ∷ filled places

abbrev pub seat_at : List (Option Seat) → ℕ → Option Seat
seat_at places n = slice_index_or places n None

-- the place of a nick by an index
abbrev pub place_in : CaseMap → (List ℕ → Option ℕ) → List ℕ → Option ℕ
place_in case_map index nick = if nat_le (length nick) 64 then index (folded_name case_map nick)
    else None

-- whether there is a nick that look-ups find by this key
abbrev pub HasKey : CaseMap → List ℕ → Option Seat → Type 0
HasKey case_map key None = ⊥
HasKey case_map key (Some seat) = folded_name case_map seat.nick ≡ key

pub record IsKept (case_map : CaseMap) (places : List (Option Seat))
    (index : List ℕ → Option ℕ) : Type 0 where
  -- what the index finds has the key, and each nick is found
  pub sound : (key : List ℕ) (n : ℕ) → index key ≡ Some n → HasKey case_map key (seat_at places n)
  pub complete : (n : ℕ) (seat : Seat) → seat_at places n ≡ Some seat →
      index (folded_name case_map seat.nick) ≡ Some n
  -- no nick is longer than a key may be
  pub short : (n : ℕ) (seat : Seat) → seat_at places n ≡ Some seat → length seat.nick ≤ 64

-- ---- changes at a place

abbrev pub under_modes : ModeSet → Seat → Seat
under_modes modes seat = record { nick = seat.nick; modes = modes }

abbrev pub under_name : List ℕ → Seat → Seat
under_name nick seat = record { nick = nick; modes = seat.modes }

-- the index has some place for the nick
abbrev pub CanMove : CaseMap → (List ℕ → Option ℕ) → Option Seat → Type 0
CanMove case_map index None = Unit {0}
CanMove case_map index (Some seat) = (length seat.nick ≤ 64)
    × IsSome (index (folded_name case_map seat.nick))

-- and then this one
abbrev pub IsMoved : CaseMap → Option Seat → ℕ → (List ℕ → Option ℕ) → (List ℕ → Option ℕ) → Type 0
IsMoved case_map None place before after = (q : List ℕ) → after q ≡ before q
IsMoved case_map (Some seat) place before after = (q : List ℕ) → after q
    ≡ (if bytes_eq (folded_name case_map seat.nick) q then Some place else before q)

-- ---- an index after holes were taken out, where so many places are right again

pub record IsNoted (case_map : CaseMap) (places : List (Option Seat))
    (index : List ℕ → Option ℕ) (done : ℕ) : Type 0 where
  -- each nick has some place in the index, and the first ones have theirs
  pub found : (n : ℕ) → CanMove case_map index (seat_at places n)
  pub right : (n : ℕ) (seat : Seat) → n < done → seat_at places n ≡ Some seat →
      index (folded_name case_map seat.nick) ≡ Some n
  -- the index has no other key, and no two nicks have the same
  pub known : (key : List ℕ) (n : ℕ) → index key ≡ Some n →
      (m : ℕ) × HasKey case_map key (seat_at places m)
  pub apart : (n m : ℕ) (seat other : Seat) → seat_at places n ≡ Some seat →
      seat_at places m ≡ Some other →
      folded_name case_map seat.nick ≡ folded_name case_map other.nick → n ≡ m

-- so many nicks, and no more holes than nicks but one
pub record AreCounted (places : List (Option Seat)) (count : ℕ) : Type 0 where
  pub counted : count ≡ length (filled places)
  pub dense : length places / 2 ≤ count
