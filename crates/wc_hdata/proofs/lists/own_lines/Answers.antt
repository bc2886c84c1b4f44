use Rattle.std.proofs.Common.{subst, sym, ap, map}
use Rattle.std.specs.FinMap.{get}
use Rattle.std.specs.List.{AllByRecursion}
use Rattle.wc_model.specs.World.{printed_at}
use Rattle.wc_hdata.specs.Kept.{IsHeld}
use Rattle.wc_hdata.specs.Lists.{held_by}
use Rattle.wc_hdata.proofs.KeptLemmas.{lines_held, lines_of_ring}
use Rattle.wc_hdata.proofs.lists.own_lines.Goals as goal

pub returns-clause-held : goal.returns-clause-held
returns-clause-held c there =
    subst (AllByRecursion (IsHeld c.args.world.now)) (ap (map (held_by c.args.buffer)) (sym (lines_of_ring (get c.args.world.now.lines c.args.buffer.0) c.args.world.now.limit (printed_at c.args.world.now c.args.buffer.0) c.in_ok-lines.lines.now c.in_ok-lines.ensures)))
    (lines_held c.args.world.now c.args.buffer c.in_ok-lines.lines.now.lines there c.iter.ensures.text)
