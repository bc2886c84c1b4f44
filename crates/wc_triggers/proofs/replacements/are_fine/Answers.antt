use Rattle.std.proofs.Common.{sym, subst, ◌∙◌, take, drop, length, ◌-◌, ◌∷◌}
use Rattle.std.specs.Prelude.{All}
use Rattle.std.proofs.lemmas.List.Elements.{All-tail}
use Rattle.wc_triggers.specs.Replacements.{HasTexts}
use Rattle.wc_triggers.proofs.PartLemmas.{Judged, judged_next, stay_both, all_fine, first_and_others, none_left}
use Rattle.wc_triggers.proofs.replacements.are_fine.Goals as goal

pub loop-rest-preserved : goal.loop-rest-preserved
loop-rest-preserved c =
    let rest = c.loop-rest.rest.now in
    let others = take (length rest - 1) (drop 1 rest) in
    let part = c.part-item.result in
    let old = c.args.verdicts.now in
    let mid = c.loop-rest.verdicts in
    let new = c.is_fine.new.verdicts in
    let parts = first_and_others rest part c.in-len1-up.len_at_least c.part-item.is in
    let judged : Judged old mid c.args.parts.now (part ∷ others) = subst (λ l. Judged old mid c.args.parts.now l) parts c.loop-rest.invariant.judged in
    let later = c.in_ok-is_fine.ensures.stay in record {
      judged = judged_next old mid new c.args.parts.now others part judged later (stay_both old mid new judged.stay later)
          (sym c.in_ok-is_fine.ensures.known ∙ c.if-not-branch.false);
      texts = All-tail HasTexts part others (subst (All HasTexts) parts c.loop-rest.invariant.texts);
    }

pub returns-clause-fine : goal.returns-clause-fine
returns-clause-fine c =
    let old = c.args.verdicts.now in
    let new = c.loop-rest.verdicts in
    all_fine old new c.args.parts.now
    (subst (λ l. Judged old new c.args.parts.now l) (none_left c.loop-rest.rest.now c.in_default.len_below) c.loop-rest.invariant.judged)
