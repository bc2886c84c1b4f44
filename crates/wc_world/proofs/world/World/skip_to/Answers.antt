use Rattle.std.proofs.Common.{ℕ, ◌∙◌, ap, sym, subst}
use Rattle.wc_world.specs.Handles.{next_from, skip_world}
use Rattle.wc_world.specs.Kept.{world_of, IsWorld}
use Rattle.wc_world.specs.Nicks.{rows_map}
use Rattle.wc_world.proofs.Done.{kept_drawn}
use Rattle.wc_world.proofs.HandleLemmas.{next_rises, next_bounded}
use Rattle.wc_world.proofs.world.World.skip_to.Goals as goal

pub invariant_of-self : goal.invariant_of-self
invariant_of-self c =
    let held = c.self.invariant.0 in
    let next = c.self.inside.next in
    let P : ℕ → Type 0 = λ n. IsWorld c.self.inside.buffers c.self.inside.held c.self.inside.limit n in (
      subst P (sym c.next_from-self-inside.ensures) (kept_drawn c.self.inside.buffers c.self.inside.held c.self.inside.limit next (next_from c.args.handle next) (next_rises c.args.handle next) (next_bounded c.args.handle next held.ended) held),
      c.self.invariant.1,
    )

pub returns : goal.returns
returns c =
    ap (λ n. world_of c.self.inside.buffers c.self.inside.held (rows_map c.self.inside.nicks) c.self.inside.limit n) c.next_from-self-inside.ensures ∙ ap (skip_world c.args.handle) c.self.view_is
