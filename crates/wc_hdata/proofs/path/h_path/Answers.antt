use Rattle.std.proofs.Common.{◌∙◌, ◌++◌, ap}
use Rattle.wc_hdata.specs.Names.{element_name}
use Rattle.wc_hdata.specs.Paths.{element_of}
use Rattle.wc_hdata.proofs.EndLemmas.{names_pushed}
use Rattle.wc_hdata.proofs.path.h_path.Goals as goal

pub loop-step-preserved : goal.loop-step-preserved
loop-step-preserved c = record {
  items = c.loop-step.invariant.items;
  names =
      names_pushed (element_of c.args.path.now.start) c.args.path.now.steps c.as_slice-step-items.result.now c.loop-step.step-index _ c.loop-step.text c.append.new.self c.append-in-loop-step.new.self
      c.loop-step.invariant.items c.loop-step-test.true c.loop-step.invariant.names c.in_ok-append.ensures.ok
      (c.in_ok-append-2.ensures.ok ∙ ap (λ n. c.append.new.self ++ n) (c.name-in-loop-step.ensures ∙ ap element_name c.target.ensures));
}
