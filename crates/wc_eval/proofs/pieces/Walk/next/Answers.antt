use Rattle.std.proofs.Common.{false, ap, sym, subst, ◌∙◌, ◌∷◌}
use Rattle.std.proofs.lemmas.List.{nil_from_length}
use Rattle.wc_eval.specs.Pieces.{Byte, Form}
use Rattle.wc_eval.specs.Walks.{pieces_left, left_of, Steps}
use Rattle.wc_eval.proofs.PieceLemmas.{step_plain, step_loose, step_form, step_none}
use Rattle.wc_eval.proofs.pieces.Walk.next.Goals as goal

pub returns-in_err-first-clause-steps : goal.returns-in_err-first-clause-steps
returns-in_err-first-clause-steps c =
    subst (Steps (left_of c.args.self)) (sym c.from_residual.ensures)
    (step_none c.args.self.has_bytes_alone c.args.self.rest.now
    (nil_from_length c.args.self.rest.now c.in_err-first.ensures.cases))

pub returns-in_default-clause-steps : goal.returns-in_default-clause-steps
returns-in_default-clause-steps c =
    ap (λ alone. pieces_left alone c.args.self.rest.now) c.if-self.false
    ∙ step_plain c.args.self.rest.now c.in_ok-first.first.now c.in_ok-first.others.now
    c.in_ok-first.ensures.cases.0 c.in_default.ensures.found
    ∙ ap (λ ps. Byte c.in_ok-first.first.now ∷ ps) (sym c.after-in_default.ensures.pieces)

pub returns-in-Some-past_form-clause-steps : goal.returns-in-Some-past_form-clause-steps
returns-in-Some-past_form-clause-steps c =
    ap (λ alone. pieces_left alone c.args.self.rest.now) c.if-self.false
    ∙ step_form c.args.self.rest.now c.in-Some.inside.now c.in-Some-past_form.end.now
    c.in-Some.ensures.found c.in-Some-past_form.ensures.found
    ∙ ap (λ text. Form text ∷ pieces_left false c.in-Some-past_form.end.now)
    (sym c.before-in-Some-past_form.ensures)
    ∙ ap (λ ps. Form c.before-in-Some-past_form.result.now ∷ ps)
    (sym c.after-in-Some-past_form.ensures.pieces)

pub returns-in-None-clause-steps : goal.returns-in-None-clause-steps
returns-in-None-clause-steps c =
    ap (λ alone. pieces_left alone c.args.self.rest.now) c.if-self.false
    ∙ step_loose c.args.self.rest.now c.in_ok-first.first.now c.in_ok-first.others.now
    c.in_ok-first.ensures.cases.0 c.in-Some.inside.now c.in-Some.ensures.found c.in-None.ensures.found
    ∙ ap (λ ps. Byte c.in_ok-first.first.now ∷ ps) (sym c.after-in-None.ensures.pieces)
