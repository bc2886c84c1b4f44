use Rattle.std.proofs.Common.{All, refl, sym, subst}
use Rattle.wc_eval.specs.Names.{facts_of, HasText}
use Rattle.wc_triggers.proofs.ReactionLemmas.{values_texts, put_is, groups_are, run_is}
use Rattle.wc_triggers.proofs.run.Run.replace_matches.Goals as goal

pub returns-clause-run : goal.returns-clause-run
returns-clause-run c = λ oracle agrees.
    let groups = groups_are c.in_ok-groups.groups c.args.text.now c.as_slice.result.now c.in-Some.last.now c.as_slice-2.result.now
    c.in_ok-groups.ensures.texts c.as_slice.ensures c.as_slice-2.ensures in
    let vars = put_is _ c.args.self.now.vars _ c.args.part.now.variable _ c.in_ok-value.value _
    c.in_ok-self.ensures c.as_slice-name.ensures c.as_slice-4.ensures c.as_slice-3.ensures in
    run_is (facts_of c.args.scope) _ oracle c.args.part.now c.args.text.now c.args.self.now c.args.matches.now _ c.in-Some.last.now
    _ c.in_ok-groups.groups c.in_ok-value.value c.replaced.new.self c.in-Some.ensures.cases.0 groups refl
    (c.in_ok-value.ensures.value oracle agrees) vars

pub returns-clause-texts : goal.returns-clause-texts
returns-clause-texts c =
    let vars = put_is _ c.args.self.now.vars _ c.args.part.now.variable _ c.in_ok-value.value _
    c.in_ok-self.ensures c.as_slice-name.ensures c.as_slice-4.ensures c.as_slice-3.ensures in record {
      vars = subst (All HasText) (sym vars)
          (values_texts c.args.part.now.variable c.in_ok-value.value c.args.self.now.vars c.in_ok-value.ensures.utf8 c.requires.texts.vars);
      groups = c.in_ok-groups.ensures.utf8;
    }
