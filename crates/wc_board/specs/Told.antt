-- What was told of the nicklists, by what was touched since.
use Rattle.std.specs.Prelude.{◌≡◌, ℕ, Bool, true, false, ◌&&◌, ◌==◌, Option, None, List, []}
use Rattle.std.specs.Prelude.{unwrap_or, if◌then◌else◌}
use Rattle.std.specs.FinMap.{FinMap, get}
use Rattle.std.specs.Ordering.{nat_cmp}
use Rattle.wc_text.specs.declared.names.Handle.{Handle}
use Rattle.wc_nicklist.specs.declared.item.Key.{Key}
use Rattle.wc_nicklist.specs.declared.item.Row.{Row}
use Rattle.wc_nickdiff.specs.Held.{OfBuffer, before_at, touches_of}
use Rattle.wc_nickdiff.specs.Told.{IsTold}
use Rattle.wc_model.specs.declared.change.Change.{Change}
use Rattle.wc_model.specs.declared.change.What.{What}
use Rattle.wc_model.specs.declared.change.What.TheVariants.{Close}
use Rattle.wc_model.specs.Touches.{touched_by}
use Rattle.wc_model.specs.World.{World, rows_at}

-- the rows of each buffer's nicklist that were last told
abbrev pub Told : Type 0
Told = FinMap nat_cmp (List Row)

-- none are told of a buffer that is not among them
abbrev pub told_of : Told → ℕ → List Row
told_of told buffer = unwrap_or (get told buffer) []

-- no key was touched since each buffer's last push
abbrev pub AllPushed : List OfBuffer → Type 0
AllPushed pending = (buffer : Handle) → touches_of buffer pending ≡ []

-- these are the rows that were told of a buffer
abbrev pub WasTold : World → List OfBuffer → Handle → List Row → Type 0
WasTold world pending buffer told = IsTold (λ k. before_at k (touches_of buffer pending))
    (rows_at world buffer.0) told

-- these are the rows that were told of each buffer
abbrev pub AreTold : World → List OfBuffer → (ℕ → List Row) → Type 0
AreTold world pending told = (buffer : Handle) → WasTold world pending buffer (told buffer.0)

-- ---- what is kept of a change

-- the row that was at the first touch of each key
abbrev pub first_of : List OfBuffer → Handle → Key → Option (Option Row)
first_of pending buffer key = before_at key (touches_of buffer pending)

abbrev pub is_close : What → Bool
is_close Close = true
is_close _ = false

-- the rows that were at the first touches, after an accepted change: none of a buffer that is closed
abbrev pub first_after : World → Handle → What → (Handle → Key → Option (Option Row)) → Handle →
    Key → Option (Option Row)
first_after world buffer what first b k = if is_close what && (buffer.0 == b.0) then None
    else touched_by world buffer what first b k

-- what is kept before and after an accepted change
abbrev pub AreTouched : World → Change → List OfBuffer → List OfBuffer → Type 0
AreTouched world change old new = (buffer : Handle) (key : Key) → first_of new buffer key
    ≡ first_after world change.buffer change.what (first_of old) buffer key

-- the same is kept
abbrev pub AreSameTouches : List OfBuffer → List OfBuffer → Type 0
AreSameTouches old new = (buffer : Handle) (key : Key) → first_of new buffer key
    ≡ first_of old buffer key
