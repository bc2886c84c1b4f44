use Rattle.std.proofs.Common.{◌∷◌, ◌∙◌, Some, None, ap, sym}
use Rattle.wc_eval.specs.Reading.{texts_by}
use Rattle.wc_eval.proofs.PartLemmas.{part_some, part_none, same_front, along}
use Rattle.wc_eval.proofs.parts.Parts.next.Goals as goal

pub returns-in-Some-clause-takes : goal.returns-in-Some-clause-takes
returns-in-Some-clause-takes c =
    let walk = c.in_ok-walk.walk in
    let end = c.in-Some.end in
    let byte = c.args.self.byte in
    ap (texts_by byte) c.in_ok-walk.was
    ∙ part_some byte walk end c.in-Some.ensures.found
    ∙ ap (λ l. l ∷ texts_by byte (Some end)) (same_front walk.rest.now c.rest.result.now
    c.rest-in-Some.result.now end.rest.now c.before_two.result.now c.rest.ensures
    c.rest-in-Some.ensures c.before_two.ensures)
    ∙ ap (λ l. c.before_two.result.now ∷ l) (along byte c.parts_along.result.byte (Some end)
    c.parts_along.result.left c.parts_along.ensures.byte c.parts_along.ensures.left)

pub returns-in-None-clause-takes : goal.returns-in-None-clause-takes
returns-in-None-clause-takes c =
    let walk = c.in_ok-walk.walk in
    let byte = c.args.self.byte in
    ap (texts_by byte) c.in_ok-walk.was
    ∙ part_none byte walk c.in-None.ensures.found
    ∙ ap (λ l. l ∷ texts_by byte None) (sym c.rest-in-None.ensures)
    ∙ ap (λ l. c.rest-in-None.result.now ∷ l) (along byte c.parts_along-in-None.result.byte None
    c.parts_along-in-None.result.left c.parts_along-in-None.ensures.byte
    c.parts_along-in-None.ensures.left)
