use Rattle.std.proofs.Common.{ap, sym, ◌∙◌}
use Rattle.wc_outside.specs.Keyed.{without}
use Rattle.wc_board.specs.Connections.{connection_link}
use Rattle.wc_board.proofs.ConnectionLemmas.{removed-without, without-none}
use Rattle.wc_board.proofs.clients.Clients.forget.Goals as goal

pub loop-place-preserved : goal.loop-place-preserved
loop-place-preserved c =
    ap (without connection_link c.args.link.0) c.take_out.ensures
    ∙ removed-without c.args.link.0 c.loop-place.self c.in-Some.place (rw c.as_slice.ensures at c.in-Some.ensures)
    ∙ c.loop-place.invariant

pub returns : goal.returns
returns c = sym (without-none c.args.link.0 c.loop-place.self (rw c.as_slice.ensures at c.in_default.ensures)) ∙ c.loop-place.invariant
