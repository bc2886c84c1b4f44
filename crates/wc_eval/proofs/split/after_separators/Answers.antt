use Rattle.std.proofs.Common.{◌∙◌, ap, option_map}
use Rattle.wc_eval.specs.Cuts.{is_among}
use Rattle.wc_eval.proofs.CharacterLemmas.{after_none, after_more}
use Rattle.wc_eval.proofs.split.after_separators.Goals as goal

pub returns-in_err-first : goal.returns-in_err-first
returns-in_err-first c = λ of known.
    ap (option_map (λ rest. rest.now)) c.from_residual.ensures
    ∙ after_none (is_among of) c.characters.rest.now c.characters.left c.in_err-first.ensures.cases
    c.characters-test.true
    ∙ c.characters.invariant of known

pub characters-preserved-then-contains : goal.characters-preserved-then-contains
characters-preserved-then-contains c = λ of known.
    after_more (is_among of) c.in_ok-first.first.now c.in_ok-first.others.now c.characters.rest.now
    c.characters.left c.in_ok-first.ensures.cases.0 c.characters-test.true
    (c.if-contains.ensures ∙ known c.in_ok-first.first.now)
    ∙ c.characters.invariant of known
