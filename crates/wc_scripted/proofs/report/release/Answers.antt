use Rattle.std.proofs.Common.{◌≡◌, ◌+◌, ◌++◌, ◌∷◌, [], take, sym, ap, ◌∙◌}
use Rattle.std.proofs.lemmas.List.{take_more}
use Rattle.wc_scripted.proofs.RowLemmas.{Noted-trans}
use Rattle.wc_scripted.proofs.report.release.Goals as goal

pub loop-step-preserved : goal.loop-step-preserved
loop-step-preserved c =
    let whole : take (c.loop-step.step-index + 1) c.args.steps.now ≡ take c.loop-step.step-index c.args.steps.now ++ c.step-item.result ∷ [] = take_more c.args.steps.now c.loop-step.step-index c.step-item.result c.loop-step-test.true ∙ ap (λ s. take c.loop-step.step-index c.args.steps.now ++ s ∷ []) (sym c.step-item.is) in
    rw whole (Noted-trans _ _ _ _ _ _ _ _ c.loop-step.invariant c.note_step.ensures)
