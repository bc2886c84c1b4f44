-- No link is lost, nor a connection that was asked for.
use Rattle.std.specs.Prelude.{ℕ, ◌-◌, ◌^◌, ◌≡◌, ◌<◌, ◌≤◌, ◌⊎◌, ◌||◌, Bool, true}
use Rattle.std.specs.Prelude.{is_some}
use Rattle.wc_outside.specs.Keyed.{at_key}
use Rattle.wc_turns.specs.declared.headless.Headless.{Headless}
use Rattle.wc_turns.specs.Links.{link_number}
use Rattle.wc_turns.specs.Served.{closed_number}

-- whether a link is open, or listed as closed
abbrev pub is_known : ℕ → Headless → Bool
is_known link headless = is_some (at_key link_number link headless.links.opened.items)
    || is_some (at_key closed_number link headless.links.closed.items)

-- want of memory was counted, or can be counted no more
abbrev pub HasStarved : ℕ → ℕ → Type 0
HasStarved starved starved' = (starved < starved') ⊎ (2 ^ 64 - 1 ≤ starved')

-- Within a turn each link that is open or listed as closed goes on so, and each whose number comes
-- to be used is so then, or was refused for want of memory.
pub record KeepsLinks (x y : Headless) : Type 0 where
  pub used : x.used ≤ y.used
  pub rises : x.core.starved ≤ y.core.starved
  pub known : (link : ℕ) → is_known link x ≡ true → is_known link y ≡ true
  pub came : (link : ℕ) → x.used < link → link ≤ y.used → (is_known link y ≡ true)
      ⊎ HasStarved x.core.starved y.core.starved
