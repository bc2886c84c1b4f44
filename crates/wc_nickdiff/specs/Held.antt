-- What is kept of the keys that were touched.
use Rattle.std.specs.Prelude.{◌≡◌, ℕ, Bool, true, ◌==◌, Option, Some, None, List, [], ◌∷◌, ◌++◌}
use Rattle.std.specs.Prelude.{if◌then◌else◌, IsSome, is_none}
use Rattle.std.specs.List.{list_any}
use Rattle.wc_text.specs.declared.names.Handle.{Handle}
use Rattle.wc_nicklist.specs.declared.item.Key.{Key}
use Rattle.wc_nicklist.specs.declared.item.Row.{Row}
use Rattle.wc_nicklist.specs.Order.{key}
use Rattle.wc_nicklist.specs.Rows.{key_eq}
use Rattle.wc_nickdiff.specs.declared.diff_item.FirstTouch.{FirstTouch}

-- what was at the first touch of a key: None where it was not touched
abbrev pub before_at : Key → List FirstTouch → Option (Option Row)
before_at k [] = None
before_at k (t ∷ ts) = if key_eq t.key k then Some t.before else before_at k ts

-- whether the key of a row was not touched
abbrev pub is_untouched : List FirstTouch → Row → Bool
is_untouched ts r = is_none (before_at (key r) ts)

-- no key is there twice
abbrev pub EachOnce : List FirstTouch → Type 0
EachOnce [] = Unit {0}
EachOnce (t ∷ ts) = (before_at t.key ts ≡ None) × EachOnce ts

-- only the first touch of a key is kept
abbrev pub keep_first : Option (Option Row) → FirstTouch → List FirstTouch → List FirstTouch
keep_first None t ts = ts ++ t ∷ []
keep_first (Some row) t ts = ts

abbrev pub with_touch : Key → Option Row → List FirstTouch → List FirstTouch
with_touch k row ts = keep_first (before_at k ts) (record { key = k; before = row }) ts

-- the touches of a buffer
pub record OfBuffer : Type 0 where
  pub buffer : Handle
  pub touches : List FirstTouch

abbrev pub touches_of : Handle → List OfBuffer → List FirstTouch
touches_of b [] = []
touches_of b (x ∷ xs) = if x.buffer.0 == b.0 then x.touches else touches_of b xs

-- each key that is kept is one of these
abbrev pub AreAmong : List FirstTouch → List Key → Type 0
AreAmong ts keys = (k : Key) → IsSome (before_at k ts) → list_any (λ q. key_eq q k) keys ≡ true
