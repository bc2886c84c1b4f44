use Rattle.std.proofs.Common.{◌≡◌, sym, subst}
use Rattle.wc_model.specs.declared.change.Change.{Change}
use Rattle.wc_world.specs.Texts.{IsChangeText}
use Rattle.wc_core.specs.CoreView.{CoreView}
use Rattle.wc_core.specs.Resolved.{told_refusal}
use Rattle.wc_core.proofs.CoreLemmas.{tells-changed, starves-as}
use Rattle.wc_core.proofs.ResolvedTexts.{told_text}
use Rattle.wc_core.proofs.core_state.Core.tell_refusal.Goals as goal

pub change-skipped-requires : goal.change-skipped-requires
change-skipped-requires c =
    let P : Change → Type 0 = λ line. IsChangeText line.what in
    subst P (sym c.in-Ok.ensures) (told_text _ c.args.text c.requires)

pub returns-in-Ok-clause-does : goal.returns-in-Ok-clause-does
returns-in-Ok-clause-does c =
    let P : CoreView → Type 0 = λ core. c.in-Ok.line ≡ told_refusal core.moment c.args.text in
    tells-changed c.args.self.now c.change-skipped.new.self c.args.text c.in-Ok.line c.change-skipped.result (subst P c.self.view_is c.in-Ok.ensures) c.change-skipped.ensures.made c.change-skipped.ensures.refused

pub returns-in-Err-clause-does : goal.returns-in-Err-clause-does
returns-in-Err-clause-does c = λ told. starves-as c.args.self.now c.starve.new.self c.starve.ensures.counts c.starve.ensures.rises told _
