use Rattle.std.proofs.Common.{◌∙◌, ap, subst}
use Rattle.wc_buffers.specs.Kept.{handles, AreBuffers}
use Rattle.wc_buffers.proofs.Held.{are_buffers}
use Rattle.wc_buffers.proofs.Shown.{handles-shown}
use Rattle.wc_buffers.proofs.buffers.Buffers.groups.Goals as goal

pub returns-clause-groups : goal.returns-clause-groups
returns-clause-groups c = c.iter.ensures.all ∙ handles-shown c.self.inside.table c.self.inside.entries c.self.inside.names c.self.invariant ∙ ap handles c.self.view_is

pub returns-clause-held : goal.returns-clause-held
returns-clause-held c = subst AreBuffers c.self.view_is (are_buffers c.self.inside.table c.self.inside.entries c.self.inside.names c.self.invariant c.iter.ensures.groups)
