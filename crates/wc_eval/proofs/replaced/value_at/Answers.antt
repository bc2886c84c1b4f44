use Rattle.std.proofs.Common.{sym, subst, ap}
use Rattle.wc_eval.specs.Names.{facts_of, AreTexts}
use Rattle.wc_eval.specs.Replaced.{group_texts}
use Rattle.wc_eval.proofs.ReplacedLemmas.{value_is}
use Rattle.wc_eval.proofs.replaced.value_at.Goals as goal

pub text-requires : goal.text-requires
text-requires c = record {
  scope = subst (λ s. AreTexts (facts_of s)) (sym c.new.ensures.scope) (record {
    vars = c.requires.scope.vars;
    facts = c.requires.scope.facts;
    locals = c.requires.scope.locals;
    groups = c.in_ok-groups.ensures.utf8;
  });
  text = c.requires.replacement;
}

pub returns-clause-gives : goal.returns-clause-gives
returns-clause-gives c =
    value_is (facts_of c.args.scope) _ (facts_of c.new.result.scope) (group_texts c.args.text.now c.args.groups.now) c.new.result.levels
    c.args.replacement.now c.text.new.verdicts c.args.kept.now c.text.new.kept
    (ap (λ g. record (facts_of c.args.scope) { groups = g }) c.in_ok-groups.ensures.texts)
    (ap facts_of c.new.ensures.scope) c.new.ensures.levels c.text.result c.text.ensures.gives
