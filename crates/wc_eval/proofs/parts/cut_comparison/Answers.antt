use Rattle.std.proofs.Common.{sym, subst}
use Rattle.wc_eval.specs.Pieces.{blocks_of}
use Rattle.wc_eval.specs.Parts.{comparing_in}
use Rattle.wc_eval.specs.Reading.{IsComparing}
use Rattle.wc_eval.proofs.PartLemmas.{compares_not, sign_there, compares}
use Rattle.wc_eval.proofs.parts.cut_comparison.Goals as goal

pub returns-in_err-rest : goal.returns-in_err-rest
returns-in_err-rest c =
    subst (IsComparing (comparing_in c.args.text.now)) (sym c.from_residual.ensures)
    (compares_not c.args.text.now c.in_err-rest.ensures.found)

pub returns-in_err-comparison : goal.returns-in_err-comparison
returns-in_err-comparison c =
    absurd (sign_there (blocks_of c.args.text.now) c.in_ok-rest.rest.now c.in_ok-rest.ensures.found
    c.in_err-comparison.ensures.found)

pub returns : goal.returns
returns c =
    compares c.args.text.now c.in_ok-rest.rest.now _ c.in_ok-rest.ensures.found
    c.in_ok-comparison.ensures.found c.split_at.ensures.front
