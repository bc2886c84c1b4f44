use Rattle.std.proofs.Common.{◌≡◌, All, IsUtf8, sym, subst, ◌∙◌}
use Rattle.std.proofs.lemmas.List.Elements.{All-push}
use Rattle.wc_eval.specs.Replaced.{group_text}
use Rattle.wc_eval.proofs.GroupLemmas.{one_more, none_left}
use Rattle.wc_eval.proofs.ReplacedLemmas.{nothing}
use Rattle.wc_eval.proofs.matches.group_texts.Goals as goal

pub groups-preserved : goal.groups-preserved
groups-preserved c =
    let text = c.args.text.now in
    let is : c.in_ok-from_slice.field-0 ≡ group_text text c.in-Some.group.now = c.in_ok-from_slice.ensures ∙ c.group_text.ensures.value in record {
      texts = one_more (group_text text) _ _ _ _ _ _ _ c.in-Some.ensures.cases.0 c.groups.invariant.texts is c.in_ok-push.ensures.ok;
      utf8 = subst (All IsUtf8) (sym c.in_ok-push.ensures.ok) (All-push IsUtf8 c.groups.texts c.in_ok-from_slice.field-0 c.groups.invariant.utf8
          (subst IsUtf8 (sym c.in_ok-from_slice.ensures) c.group_text.ensures.utf8));
    }

pub returns-clause-texts : goal.returns-clause-texts
returns-clause-texts c =
    none_left (group_text c.args.text.now) _ _ _ (nothing c.groups.rest.now c.in_default.ensures.cases) c.groups.invariant.texts
