use Rattle.std.proofs.Common.{sym, ◌∙◌}
use Rattle.wc_hdata.specs.Paths.{element_of}
use Rattle.wc_hdata.proofs.EndLemmas.{end_is}
use Rattle.wc_hdata.proofs.path.Path.element.Goals as goal

pub returns-in-Some : goal.returns-in-Some
returns-in-Some c =
    c.target.ensures ∙ sym (end_is (element_of c.args.self.now.start) c.args.self.now.steps c.as_slice.result.now c.in-Some.step.now c.as_slice.ensures (sym c.in-Some.ensures.value))
