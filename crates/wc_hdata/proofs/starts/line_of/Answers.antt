use Rattle.std.proofs.Common.{map}
use Rattle.wc_hdata.specs.Lists.{held_by, own_lines}
use Rattle.wc_hdata.proofs.KeptLemmas.{line_held}
use Rattle.wc_hdata.proofs.starts.line_of.Goals as goal

pub returns-clause-held : goal.returns-clause-held
returns-clause-held c = line_held c.args.world.now c.args.element c.args.pointer (own_lines c.args.world.now c.args.buffer) (map (held_by c.args.buffer) c.in_ok-own_lines.field-0.now.lines) _ c.in_ok-own_lines.ensures.lines (c.own_lines.ensures.held c.requires) c.line_in.ensures
