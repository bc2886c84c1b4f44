use Rattle.std.proofs.Common.{◌≡◌, ◌<◌, length, ap, sym, subst, ◌∙◌, arith, option_map}
use Rattle.std.specs.Prelude.{All, IfSome}
use Rattle.std.proofs.lemmas.List.Elements.{All-push}
use Rattle.std.proofs.lemmas.Bool.Decides.{nat_tests}
use Rattle.wc_triggers.specs.Replacements.{all_parts, HasTexts}
use Rattle.wc_triggers.proofs.PartLemmas.{parts_after, next_part, wrong_part, all_of_them, front_shorter}
use Rattle.wc_triggers.proofs.replacements.all_parts.Goals as goal

pub returns-in_default-clause-is : goal.returns-in_default-clause-is
returns-in_default-clause-is c =
    let rest = c.loop-rest.rest.now in
    let some : 0 < length rest = grind (arith, nat_tests) in
    wrong_part c.args.kind c.loop-rest.parts rest (all_parts c.args.kind c.args.text.now) some c.loop-rest.invariant.read
    (ap (option_map _) (sym c.in_default.is) ∙ c.in_ok-part.ensures.is)

pub loop-rest-smaller : goal.loop-rest-smaller
loop-rest-smaller c =
    front_shorter c.args.kind c.loop-rest.rest.now (c.in-Some.part, c.in-Some.following.now)
    (sym (ap (option_map _) (sym c.in-Some.is) ∙ c.in_ok-part.ensures.is))

pub loop-rest-preserved : goal.loop-rest-preserved
loop-rest-preserved c =
    let rest = c.loop-rest.rest.now in
    let parts = c.loop-rest.parts in
    let following = c.in-Some.following.now in
    let some : 0 < length rest = grind (arith, nat_tests) in record {
      read = ap (λ l. parts_after l (all_parts c.args.kind following)) c.in_ok-push.ensures.ok
          ∙ next_part c.args.kind parts rest (all_parts c.args.kind c.args.text.now) some c.loop-rest.invariant.read c.in-Some.part following
          (ap (option_map _) (sym c.in-Some.is) ∙ c.in_ok-part.ensures.is);
      texts = subst (All HasTexts) (sym c.in_ok-push.ensures.ok)
          (All-push HasTexts parts c.in-Some.part c.loop-rest.invariant.texts
          (subst (λ front. IfSome front (λ f. HasTexts f.0)) c.in-Some.is c.in_ok-part.ensures.utf8));
    }

pub returns-clause-is : goal.returns-clause-is
returns-clause-is c =
    let none : length c.loop-rest.rest.now ≡ 0 = grind (arith, nat_tests) in
    all_of_them c.args.kind c.loop-rest.parts c.loop-rest.rest.now (all_parts c.args.kind c.args.text.now) none c.loop-rest.invariant.read
