use Rattle.std.proofs.Common.{sym, subst}
use Rattle.wc_world.specs.Nicks.{AreNicks}
use Rattle.wc_world.proofs.First.{first_kept}
use Rattle.wc_world.proofs.world.World.new.Goals as goal

pub invariant_of-result : goal.invariant_of-result
invariant_of-result c = (
  first_kept c.in_ok-buffers.buffers c.in_ok-held.held c.args.limit c.in_ok-buffers.ensures c.in_ok-held.ensures.each c.requires.some c.requires.most,
  subst (λ groups. AreNicks groups c.in_ok-nicks.nicks 0) (sym c.in_ok-buffers.ensures) c.in_ok-nicks.ensures.held,
)

pub returns : goal.returns
returns c = λ i. record { groups = c.in_ok-buffers.ensures i; lines = c.in_ok-held.ensures.all i; printed = c.in_ok-held.ensures.printed i; nicks = c.in_ok-nicks.ensures.rows i; limit = c.args.limit; limit_changes = 0; next = 5 }
