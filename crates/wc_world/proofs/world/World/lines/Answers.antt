use Rattle.std.proofs.Common.{◌∙◌, option_map, ap}
use Rattle.wc_world.specs.Kept.{held_in, lines_view}
use Rattle.wc_world.specs.Nicks.{rows_map}
use Rattle.wc_world.proofs.Done.{held_shown}
use Rattle.wc_world.proofs.world.World.lines.Goals as goal

pub returns : goal.returns
returns c = ap (option_map lines_view) c.get.ensures.value ∙ held_shown c.self.inside.buffers c.self.inside.held (rows_map c.self.inside.nicks) c.self.inside.limit c.self.inside.next c.self.invariant.0 c.args.h.0 ∙ ap (λ v. held_in v c.args.h.0) c.self.view_is
