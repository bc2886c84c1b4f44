use Rattle.std.proofs.Common.{◌≡◌, take}
use Rattle.wc_hdata.specs.Paths.{element_of}
use Rattle.wc_hdata.proofs.EndLemmas.{names_up_to}
use Rattle.wc_hdata.proofs.path.h_path.Given as goal

abbrev pub invariant-loop-step : goal.invariant-loop-step
invariant-loop-step l = record {
  items : l.step-items ≡ l.path.steps;
  names : l.text ≡ names_up_to (element_of l.path.start) (take l.step-index l.path.steps);
}
