use Rattle.std.proofs.Common.{IsUtf8, All, length, sym, subst, refl, ap, ◌∙◌, option_and_then, slice_get}
use Rattle.std.proofs.lemmas.Bool.{ltb-true, ltb-false}
use Rattle.std.proofs.lemmas.Option.{slice_get_past, slice_get_read}
use Rattle.wc_eval.specs.Names.{or_empty, group_value}
use Rattle.wc_eval.proofs.KindValues.{all_read}
use Rattle.wc_eval.proofs.scope.Scope.group.Goals as goal

pub returns-in-Some-get-clause-utf8 : goal.returns-in-Some-get-clause-utf8
returns-in-Some-get-clause-utf8 c =
    let found = c.in-Some-get.ensures.lookup in
    subst IsUtf8 (sym c.as_slice-in-Some-get.ensures) (all_read c.as_slice.result.now c.in-Some.place
    c.in-Some-get.group.now (subst (All IsUtf8) (sym c.as_slice.ensures) c.requires.groups)
    (ltb-true c.in-Some.place (length c.as_slice.result.now) (sym found.0)) found.1)

pub returns-in-Some-get-clause-value : goal.returns-in-Some-get-clause-value
unfolding group_value
returns-in-Some-get-clause-value c =
    let found = c.in-Some-get.ensures.lookup in
    c.as_slice-in-Some-get.ensures
    ∙ ap or_empty (sym (slice_get_read c.as_slice.result.now (length c.as_slice.result.now) c.in-Some.place
    c.in-Some-get.group.now refl (ltb-true c.in-Some.place (length c.as_slice.result.now) (sym found.0)) found.1))
    ∙ ap (λ l. or_empty (slice_get l c.in-Some.place)) c.as_slice.ensures
    ∙ ap (λ o. or_empty (option_and_then (slice_get c.args.self.groups.now) o)) c.in-Some.ensures

pub returns-in-None-clause-value : goal.returns-in-None-clause-value
unfolding group_value
returns-in-None-clause-value c =
    let found = c.in-None.ensures.lookup in
    ap or_empty (sym (slice_get_past c.as_slice.result.now c.in-Some.place (ltb-false c.in-Some.place (length c.as_slice.result.now) (sym found.0))))
    ∙ ap (λ l. or_empty (slice_get l c.in-Some.place)) c.as_slice.ensures
    ∙ ap (λ o. or_empty (option_and_then (slice_get c.args.self.groups.now) o)) c.in-Some.ensures
