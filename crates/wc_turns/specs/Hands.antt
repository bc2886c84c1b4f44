-- What is handed to one link over a run, also where it is closed.
use Rattle.std.specs.Prelude.{ℕ, ◌≡◌, Bool, true, false, List, [], ◌++◌}

-- what is seen of one link at a moment
pub record Point : Type 0 where
  -- what was sent on it
  pub sent : List ℕ
  -- what its session has not sent yet
  pub unsent : List ℕ
  -- whether its number is used and it has no session
  pub gone : Bool
  -- whether it was closed without room for what was unsent, or failed
  pub spoiled : Bool

-- what was sent is a front of these bytes, and all of them unless the link was spoiled
pub record IsFrontOf (all : List ℕ) (point : Point) : Type 0 where
  pub rest : List ℕ
  pub same : all ≡ point.sent ++ rest
  pub whole : point.spoiled ≡ false → rest ≡ []

-- from one moment to another the link is owed these bytes
pub record Delivers (a b : Point) (owed : List ℕ) : Type 0 where
  pub gone : a.gone ≡ true → b.gone ≡ true
  pub spoils : b.spoiled ≡ false → a.spoiled ≡ false
  -- it is open at the end
  pub stays : b.gone ≡ false → b.sent ++ b.unsent ≡ (a.sent ++ a.unsent) ++ owed
  -- it is closed between
  pub closes : a.gone ≡ false → b.gone ≡ true → IsFrontOf ((a.sent ++ a.unsent) ++ owed) b
  -- it was closed before
  pub sent : a.gone ≡ true → b.sent ≡ a.sent
  pub nothing : a.gone ≡ true → owed ≡ []
