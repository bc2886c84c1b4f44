use Rattle.std.proofs.Common.{refl, subst}
use Rattle.std.specs.Prelude.{All}
use Rattle.std.proofs.lemmas.List.Elements.{All-head, All-tail}
use Rattle.wc_eval.specs.Names.{facts_of}
use Rattle.wc_eval.proofs.StepLemmas.{stay_same, stay_both}
use Rattle.wc_triggers.specs.Replacements.{HasTexts}
use Rattle.wc_triggers.proofs.PartLemmas.{known_later}
use Rattle.wc_triggers.proofs.ReactionLemmas.{part_next, part_known, others_known, parts_end}
use Rattle.wc_triggers.proofs.run.Run.replace_all.Goals as goal

pub parts-init : goal.parts-init
parts-init c = record {
  comes = λ oracle agrees. refl;
  stay = stay_same c.args.verdicts.now;
  parts = c.requires.parts;
  known = c.requires.known;
  texts = c.requires.texts;
}

pub replace-requires : goal.replace-requires
replace-requires c =
    let old = c.parts in
    let first = c.in-Some.ensures.cases.0 in
    let part = c.in-Some.part.now in
    let others = c.in-Some.others.now in record {
      scope = c.requires.scope;
      part = All-head HasTexts part others (subst (All HasTexts) first old.invariant.parts);
      known = part_known (facts_of c.args.scope) c.args.parts.now old.rest.now others part first old.verdicts old.invariant.known;
      texts = old.invariant.texts;
    }

pub parts-preserved : goal.parts-preserved
parts-preserved c =
    let old = c.parts in
    let facts = facts_of c.args.scope in
    let first = c.in-Some.ensures.cases.0 in
    let part = c.in-Some.part.now in
    let others = c.in-Some.others.now in
    let later = c.in_ok-replace.ensures in
    let new = c.replace.new.verdicts in record {
      comes = part_next facts c.args.parts.now old.rest.now others part first old.verdicts new c.args.self.now old.self c.replace.new.self
          old.invariant.comes later.stay later.run;
      stay = stay_both c.args.verdicts.now old.verdicts new old.invariant.stay later.stay;
      parts = All-tail HasTexts part others (subst (All HasTexts) first old.invariant.parts);
      known = known_later old.verdicts new others later.stay (others_known facts c.args.parts.now old.rest.now others part first old.verdicts old.invariant.known);
      texts = later.texts;
    }

pub returns-clause-run : goal.returns-clause-run
returns-clause-run c =
    parts_end (facts_of c.args.scope) c.parts.verdicts c.args.parts.now c.parts.rest.now c.args.self.now c.parts.self c.parts.invariant.comes
    c.in_default.ensures.cases
