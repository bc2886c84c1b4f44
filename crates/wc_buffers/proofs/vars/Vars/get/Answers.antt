use Rattle.std.proofs.Common.{◌∙◌, ap, refl, Some, None}
use Rattle.wc_buffers.specs.Vars.{value_of}
use Rattle.wc_buffers.proofs.VarLemmas.{got_value}
use Rattle.wc_buffers.proofs.vars.Vars.get.Goals as goal

pub returns-in-Some : goal.returns-in-Some
returns-in-Some c = got_value (Some c.in-Some.pair.now) c.args.name.now c.self.inside.vars.entries (Some c.in-Some.pair.now.value) c.in-Some.ensures.value c.self.invariant refl ∙ ap (value_of c.args.name.now) c.self.view_is

pub returns-in-None : goal.returns-in-None
returns-in-None c = got_value None c.args.name.now c.self.inside.vars.entries None c.in-None.ensures.value c.self.invariant refl ∙ ap (value_of c.args.name.now) c.self.view_is
