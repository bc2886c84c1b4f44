use Rattle.std.proofs.Common.{◌≡◌, sym, ◌∙◌}
use Rattle.std.proofs.lemmas.Result.{IfOk-weaker}
use Rattle.wc_eval.specs.Names.{facts_of}
use Rattle.wc_eval.proofs.StepLemmas.{agrees_earlier}
use Rattle.wc_triggers.specs.Reactions.{SaysTexts, begun, idle, reaction_after}
use Rattle.wc_triggers.proofs.PartLemmas.{known_later}
use Rattle.wc_triggers.proofs.ReactionLemmas.{reaction_fires, reaction_idle, idle_texts, fired_texts}
use Rattle.wc_triggers.proofs.react.react.Goals as goal

pub returns-then-not-branch-clause-reaction : goal.returns-then-not-branch-clause-reaction
returns-then-not-branch-clause-reaction c =
    let facts = facts_of c.args.scope in
    IfOk-weaker c.idle.result (λ reaction. reaction ≡ idle (begun facts)) _ (λ reaction made oracle agrees.
    reaction_idle c.args.parts.now facts oracle reaction (sym c.if-not-branch.true ∙ c.in_ok-fires.ensures.fires oracle agrees) made) c.idle.ensures

pub returns-then-not-branch-clause-texts : goal.returns-then-not-branch-clause-texts
returns-then-not-branch-clause-texts c =
    IfOk-weaker c.idle.result _ SaysTexts (λ reaction made. idle_texts (facts_of c.args.scope) reaction c.requires.scope made) c.idle.ensures

pub run_of-requires-clause-fine : goal.run_of-requires-clause-fine
run_of-requires-clause-fine c =
    known_later c.args.verdicts.now c.fires.new.verdicts c.args.parts.now.replacements c.fires.ensures.stay c.requires.fine

pub returns-clause-reaction : goal.returns-clause-reaction
returns-clause-reaction c =
    let parts = c.args.parts.now in
    let facts = facts_of c.args.scope in
    let run = c.in_ok-run.run' in
    IfOk-weaker c.reaction_after.result (λ reaction. reaction ≡ reaction_after parts run) _ (λ reaction made oracle agrees.
    let before = agrees_earlier oracle c.fires.new.verdicts c.run_of.new.verdicts c.run_of.ensures.stay agrees in
    reaction_fires parts facts oracle reaction run (sym c.if-not-branch.false ∙ c.in_ok-fires.ensures.fires oracle before)
    (c.in_ok-run.ensures.run oracle agrees) made) c.reaction_after.ensures

pub returns-clause-texts : goal.returns-clause-texts
returns-clause-texts c =
    IfOk-weaker c.reaction_after.result _ SaysTexts (λ reaction made.
    fired_texts c.args.parts.now c.in_ok-run.run' reaction c.requires.parts c.in_ok-run.ensures.texts made) c.reaction_after.ensures
