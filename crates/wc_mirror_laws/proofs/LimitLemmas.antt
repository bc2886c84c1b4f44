-- Each change of the limit of lines is counted, so a step that counts none leaves the limit.
use Rattle.std.proofs.Common.{◌≡◌, ℕ, ◌≤◌, ◌<◌, Option, Some, None, refl, sym, ◌∙◌, arith}
use Rattle.wc_text.specs.declared.names.Handle.{Handle}
use Rattle.wc_lines.specs.Ring.{counted}
use Rattle.wc_model.specs.declared.change.What.{What}
use Rattle.wc_model.specs.declared.change.What.TheVariants.{Limit}
use Rattle.wc_model.specs.World.{World}
use Rattle.wc_model.specs.Apply.{after_of}
use Rattle.wc_view.specs.Views.{Suits}
use Rattle.wc_mirror_laws.specs.Settled.{IsLimited, LimitStays}

-- A count that may still rise did not fall, and where it did not rise the limit is as it was.
pub record Counts (old new : World) : Type 0 where
  pub grows : new.limit_changes < counted new.limit_changes → old.limit_changes ≤ new.limit_changes
  pub stays : new.limit_changes < counted old.limit_changes → new.limit ≡ old.limit

pub counts_same : (w : World) → Counts w w
counts_same w = record { grows = λ few. omega arith; stays = λ few. refl }

-- where neither the limit nor the count is another
counts_held : (w v : World) → v.limit ≡ w.limit → v.limit_changes ≡ w.limit_changes → Counts w v
counts_held w v limit changes = record { grows = λ few. omega (arith, changes); stays = λ few. limit }

pub counts_after : (w : World) (h : Handle) (a : What) → Counts w (after_of w h a)
unfolding after_of
counts_after w h (Limit limit) = record { grows = λ few. omega (arith, few); stays = λ few. absurd (omega (arith, few)) }
counts_after w h _ = counts_held w _ refl refl

pub counts_then : (u v w : World) → Counts u v → Counts v w → Counts u w
counts_then u v w a b = record {
  grows = λ few.
      let second = b.grows few in
      let first = a.grows (omega (arith, few, second)) in
      omega (arith, first, second);
  stays = λ few.
      let second = b.grows (omega (arith, few)) in
      let first = a.grows (omega (arith, few, second)) in
      b.stays (omega (arith, few, first, second)) ∙ a.stays (omega (arith, few, second));
}

-- ---- a limit that stays

-- where it stays over two steps it does so over each
pub stays_first : (limit : Option ℕ) (u v w : World) → Counts v w → LimitStays limit u w → LimitStays limit u v
stays_first None u v w b stays = tt
stays_first (Some limit) u v w b stays =
    let few = stays.1 in
    let second = b.grows (omega (arith, few)) in
    (stays.0, omega (arith, few, second))

pub stays_second : (limit : Option ℕ) (u v w : World) → Counts u v → Counts v w → LimitStays limit u w → LimitStays limit v w
stays_second None u v w a b stays = tt
stays_second (Some limit) u v w a b stays =
    let few = stays.1 in
    let second = b.grows (omega (arith, few)) in
    let first = a.grows (omega (arith, few, second)) in
    (a.stays (omega (arith, few, second)) ∙ stays.0, omega (arith, few, first, second))

-- it suits the world before and after
pub suits_before : (limit : Option ℕ) (w v : World) → LimitStays limit w v → Suits limit w
suits_before None w v stays = tt
suits_before (Some limit) w v stays = stays.0

pub suits_after : (limit : Option ℕ) (w v : World) → Counts w v → LimitStays limit w v → Suits limit v
suits_after None w v counts stays = tt
suits_after (Some limit) w v counts stays = counts.stays stays.1 ∙ stays.0

-- ---- a limit that was never changed

-- what was never changed afterwards was not changed before
pub limited_before : (limit : Option ℕ) (w v : World) → Counts w v → IsLimited limit v → IsLimited limit w
limited_before None w v counts is = tt
limited_before (Some limit) w v counts is =
    let none = is.1 in
    let grows = counts.grows (omega (arith, none)) in
    (sym (counts.stays (omega (arith, none))) ∙ is.0, omega (arith, grows, none))

pub limited_stays : (limit : Option ℕ) (w v : World) → Counts w v → IsLimited limit v → LimitStays limit w v
limited_stays None w v counts is = tt
limited_stays (Some limit) w v counts is =
    let none = is.1 in
    ((limited_before (Some limit) w v counts is).0, omega (arith, none))
