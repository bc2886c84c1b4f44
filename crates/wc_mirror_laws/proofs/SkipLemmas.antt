-- What is kept where handles are passed over.
use Rattle.std.proofs.Common.{ℕ, ◌≤◌, Option, Some, None, refl, arith}
use Rattle.wc_model.specs.World.{World, lines_at}
use Rattle.wc_world.specs.Handles.{next_from, skip_world}
use Rattle.wc_world.proofs.FlipLemmas.{apart_more}
use Rattle.wc_world.proofs.HandleLemmas.{next_rises, next_bounded}
use Rattle.wc_core.specs.Limits.{first_handle}
use Rattle.wc_core.specs.State.{State}
use Rattle.wc_core.specs.Step.{begun_state}
use Rattle.wc_mirror_laws.specs.Held.{HeldPart, Lines, Buffers, Nicks, HeldOf, Has}
use Rattle.wc_mirror_laws.specs.Kept.{IsStateKept}
use Rattle.wc_mirror_laws.specs.Settled.{LimitStays}
use Rattle.wc_mirror_laws.specs.Worlds.{IsWorldKept}
use Rattle.wc_mirror_laws.proofs.NickWorlds.{lists_kept}
use Rattle.wc_mirror_laws.proofs.WorldLemmas.{all_grown}

skip_kept : (limit handle : ℕ) (w : World) → IsWorldKept limit w → IsWorldKept limit (skip_world handle w)
skip_kept limit handle w is =
    let next = next_from handle w.next in
    let up : w.next ≤ next = next_rises handle w.next in
    record {
      same = is.same;
      started = (let some = is.started in omega arith);
      ended = next_bounded handle w.next is.ended;
      groups = is.groups;
      each = all_grown w.next next up w.groups is.each;
      within = is.within;
      printed = is.printed;
      apart = λ h. apart_more w.next next (lines_at w h) (omega arith) (is.apart h);
      none = is.none;
      nicks = lists_kept w.next next w.groups w.groups w.nicks up (λ q. refl) is.nicks;
      counted = is.counted;
    }

-- what the commands of the start begin with is kept
pub begun_kept : (link : ℕ) (state : State) (moment : ℕ) → IsStateKept link state → IsStateKept link (begun_state state moment)
begun_kept link state moment kept =
    let handle = first_handle state.options moment in
    let next = state.world.next in
    record {
      most = kept.most;
      world = skip_kept state.world.limit handle state.world kept.world;
      once = kept.once;
      shown = kept.shown;
      told = lists_kept next (next_from handle next) state.world.groups state.world.groups state.told (next_rises handle next) (λ q. refl) kept.told;
      texts = tt;
      rows = kept.rows;
      news = kept.news;
      there = kept.there;
      first = kept.first;
    }

-- what a client holds is there as it was
pub begun_had : (which : HeldPart) (part : HeldOf which) (state : State) (moment : ℕ) → Has which part state → Has which part (begun_state state moment)
begun_had Lines part state moment had = had
begun_had Buffers part state moment had = had
begun_had Nicks part state moment had = had

pub begun_stays : (limit : Option ℕ) (state : State) (moment : ℕ) (v : World) → LimitStays limit state.world v → LimitStays limit (begun_state state moment).world v
begun_stays None state moment v stays = tt
begun_stays (Some limit) state moment v stays = stays
