use Rattle.std.proofs.Common.{◌≡◌, ◌∙◌, ◌++◌, [], List, ℕ, Option, ap, subst}
use Rattle.std.specs.Result.{OnOk}
use Rattle.wc_options.specs.Config.{text_of_lines, set_lines}
use Rattle.wc_options.specs.Kept.{AreOptionsKept}
use Rattle.wc_options.specs.Options.{OptionsValue}
use Rattle.wc_options.specs.Table.{globals}
use Rattle.std.proofs.Common.{length}
use Rattle.wc_options.proofs.KeptLemmas.{length-set_values}
use Rattle.wc_options.proofs.options.Options.write_globals.Goals as goal

pub write_values-requires : goal.write_values-requires
write_values-requires c = ap length c.deref.ensures.value ∙ length-set_values _ c.self.invariant.kept

pub returns-clause-written : goal.returns-clause-written
unfolding globals
returns-clause-written c =
    subst (λ (values : List (Option (List ℕ))). OnOk c.write_values.result (c.write_values.new.text ≡ c.args.text.now ++ text_of_lines (set_lines [] globals values)))
    (c.deref.ensures.value ∙ ap (λ (o : OptionsValue). o.set) c.self.view_is) c.write_values.ensures

pub returns-clause-kept : goal.returns-clause-kept
returns-clause-kept c = subst AreOptionsKept c.self.view_is c.self.invariant.kept
