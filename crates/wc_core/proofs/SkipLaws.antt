-- Which handles are passed over at the start.
use Rattle.std.proofs.Common.{◌≡◌, ◌≢◌, ℕ, ◌*◌, ◌≤◌, ◌<◌, ◌^◌, ◌&&◌, Bool, true, false, cond, nat_lt, codes, refl, ap, sym, ◌∙◌, arith}
use Rattle.std.specs.Str.{bytes_eq}
use Rattle.std.proofs.lemmas.Bool.{false≢true}
use Rattle.std.proofs.lemmas.Bool.Decides.{nat_tests}
use Rattle.std.proofs.lemmas.Slice.Eq.{bytes_eq-Decides}
use Rattle.wc_options.specs.Options.{OptionsValue}
use Rattle.wc_session.specs.Heeded.{option_value}
use Rattle.wc_model.specs.World.{World}
use Rattle.wc_world.specs.Handles.{next_from, skip_world}
use Rattle.wc_world.proofs.HandleLemmas.{next_reaches, next_stays}
use Rattle.wc_core.specs.Limits.{first_handle}

pub counted_stay : (options : OptionsValue) (moment : ℕ) (world : World) → option_value options (codes "relay.network.handles") ≢ codes "fresh" → skip_world (first_handle options moment) world ≡ world
unfolding first_handle
counted_stay options moment world other = by (bytes_eq (option_value options (codes "relay.network.handles")) (codes "fresh")) refl where
  by : (b : Bool) → bytes_eq (option_value options (codes "relay.network.handles")) (codes "fresh") ≡ b → skip_world (cond (b && nat_lt moment (2 ^ 42)) (moment * 1048576) 0) world ≡ world
  by true same = absurd (other ((bytes_eq-Decides (option_value options (codes "relay.network.handles")) (codes "fresh")).0 same))
  by false same = ap (λ n. record world { next = n }) (next_stays world.next)

pub fresh_reach : (options : OptionsValue) (moment : ℕ) (world : World) → option_value options (codes "relay.network.handles") ≡ codes "fresh" → moment < 2 ^ 42 → moment * 1048576 ≤ (skip_world (first_handle options moment) world).next
unfolding first_handle
fresh_reach options moment world is below = by (bytes_eq (option_value options (codes "relay.network.handles")) (codes "fresh")) (nat_lt moment (2 ^ 42)) refl refl where
  by : (b c : Bool) → bytes_eq (option_value options (codes "relay.network.handles")) (codes "fresh") ≡ b → nat_lt moment (2 ^ 42) ≡ c → moment * 1048576 ≤ next_from (cond (b && c) (moment * 1048576) 0) world.next
  by true true same low = next_reaches (moment * 1048576) world.next (omega arith)
  by true false same low = absurd (grind (arith, nat_tests))
  by false c same low = absurd (false≢true (sym same ∙ (bytes_eq-Decides (option_value options (codes "relay.network.handles")) (codes "fresh")).1 is))
