use Rattle.std.proofs.Common.{refl, ◌-◌, length, take}
use Rattle.wc_eval.specs.Pieces.{pieces_of}
use Rattle.wc_eval.proofs.FormLemmas.{cuts_none, cuts_loose, cuts_form, same_cut}
use Rattle.wc_eval.proofs.forms.cut_to_form.Goals as goal

pub returns-in_default-clause-form : goal.returns-in_default-clause-form
returns-in_default-clause-form c = (
  refl,
  cuts_none c.args.text.now c.from_form-rest.result.now
      c.from_form-rest.ensures.text c.in_default.ensures.found,
)

pub returns-in_default-past_form-clause-form : goal.returns-in_default-past_form-clause-form
returns-in_default-past_form-clause-form c = (
  refl,
  cuts_loose c.args.text.now
      c.from_form-rest.result.now c.from_form-rest.ensures.text c.in-Some.inside.now
      c.in-Some.ensures.found c.in_default-past_form.ensures.found,
)

pub returns-clause-form : goal.returns-clause-form
returns-clause-form c =
    let text = c.args.text.now in
    let rest = c.from_form-rest.result.now in
    let inside = c.in-Some.inside.now in
    let end = c.in-Some-past_form.end.now in
    same_cut text c.split_at.result.0.now c.before-2.result.now end (pieces_of text)
    (take (length text - length rest) text) (take (length inside - length end - 1) inside)
    c.split_at.ensures.front c.before-2.ensures
    (cuts_form text rest c.from_form-rest.ensures.text inside end c.in-Some.ensures.found
    c.in-Some-past_form.ensures.found)
