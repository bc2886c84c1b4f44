use Rattle.std.proofs.Common.{◌∙◌, ap}
use Rattle.wc_hdata.specs.Listed.{number_of}
use Rattle.wc_hdata.proofs.MadeLemmas.{first_number, last_number}
use Rattle.wc_hdata.proofs.lists.own_numbers.Goals as goal

pub returns-in-Some-clause-first : goal.returns-in-Some-clause-first
returns-in-Some-clause-first c = c.number_of.ensures ∙ ap number_of c.at.ensures.line ∙ first_number c.args.buffer c.in-Some.lines.now.lines _ c.in-Some.ensures.lines

pub returns-in-Some-clause-last : goal.returns-in-Some-clause-last
returns-in-Some-clause-last c = c.number_of-in-Some.ensures ∙ ap number_of c.newest.ensures.line ∙ last_number c.args.buffer c.in-Some.lines.now.lines _ c.in-Some.ensures.lines
