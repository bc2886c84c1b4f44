use Rattle.wc_turns.proofs.ContainedLemmas.{KeepsLinks-refl}
use Rattle.wc_turns.proofs.CloseLemmas.{LoopStep-refl}
use Rattle.wc_turns.proofs.ServeLemmas.{OnOk-map}
use Rattle.wc_turns.proofs.serve.accept_rest.Goals as goal

pub returns-clause-heard : goal.returns-clause-heard
returns-clause-heard g c = OnOk-map c.accept_all.result _ _ c.accept_all.ensures.heard (λ heard agrees out. heard)

pub returns-then-not-headless-clause-continues : goal.returns-then-not-headless-clause-continues
returns-then-not-headless-clause-continues g c = LoopStep-refl _ _

pub returns-then-not-headless-clause-contained : goal.returns-then-not-headless-clause-contained
returns-then-not-headless-clause-contained g c = λ agrees. KeepsLinks-refl _
