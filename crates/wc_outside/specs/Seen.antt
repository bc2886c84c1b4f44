-- What is seen of sockets.
use Rattle.std.specs.Prelude.{ℕ, ◌≡◌, ◌<◌, ◌⊎◌, Bool, true, false, List, [], IsTrue}
use Rattle.wc_outside.specs.declared.happening.Asked.{Asked}
use Rattle.wc_outside.specs.declared.happening.Happening.{Happening}
use Rattle.wc_outside.specs.Faults.{Faults}

pub record Seen : Type 0 where
  -- whether the next four are told; what is no longer told is not told again
  pub tells : Bool
  -- what they gave, in order
  pub taken : List Happening
  -- the bytes that were sent on each link
  pub sent : ℕ → List ℕ
  -- what they were asked to listen at and to connect to, in order
  pub asked : List Asked
  -- whether a link was closed while its last write had found no room
  pub choked : ℕ → Bool
  -- how many link numbers are used
  pub used : ℕ
  -- whether a link was given or connected and is not closed
  pub there : ℕ → Bool
  -- whether a link was reported ready and is not drained, and whether the listener was
  pub undrained : ℕ → Bool
  pub listening : Bool
  -- whether the last write to a link that is there found no room, and no later wait reported it
  pub blocked : ℕ → Bool
  -- how often they failed
  pub faults : Faults

-- the sockets are new
pub record IsNew (seen : Seen) : Type 0 where
  pub used : seen.used ≡ 0
  pub there : (link : ℕ) → seen.there link ≡ false
  pub undrained : (link : ℕ) → seen.undrained link ≡ false
  pub listening : seen.listening ≡ false
  pub blocked : (link : ℕ) → seen.blocked link ≡ false
  pub taken : IsTrue seen.tells → seen.taken ≡ []
  pub sent : IsTrue seen.tells → (link : ℕ) → seen.sent link ≡ []
  pub asked : IsTrue seen.tells → seen.asked ≡ []
  pub choked : IsTrue seen.tells → (link : ℕ) → seen.choked link ≡ false

-- every source is drained
pub record IsDrained (seen : Seen) : Type 0 where
  pub links : (link : ℕ) → seen.undrained link ≡ false
  pub listener : seen.listening ≡ false

-- a source was reported ready and is not drained
abbrev pub HasUndrained : Seen → Type 0
HasUndrained seen = ((link : ℕ) × (seen.undrained link ≡ true)) ⊎ (seen.listening ≡ true)

-- how long a wait may take, in milliseconds: 100 where every source is drained, and else, or before
-- anything was given, no time
pub record MayWait (time : ℕ) (seen : Seen) : Type 0 where
  pub long : 0 < time → (time ≡ 100) × IsDrained seen
  pub short : time ≡ 0 → IsTrue seen.tells → HasUndrained seen ⊎ (seen.taken ≡ [])
