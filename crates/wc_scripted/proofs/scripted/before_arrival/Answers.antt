use Rattle.std.proofs.Common.{◌∙◌, length}
use Rattle.std.specs.List.{position_or_len}
use Rattle.std.proofs.lemmas.List.Sums.{prefix_len-le-length}
use Rattle.wc_scripted.specs.Scripts.{is_arrival}
use Rattle.wc_scripted.proofs.CursorLemmas.{first_or_all}
use Rattle.wc_scripted.proofs.scripted.before_arrival.Goals as goal

pub returns-clause-place : goal.returns-clause-place
returns-clause-place c = let s = c.args.steps.now in c.unwrap_or.ensures ∙ first_or_all (position_or_len is_arrival s) (length s) c.arrival_place.result (prefix_len-le-length _ s) c.arrival_place.ensures

pub returns-clause-within : goal.returns-clause-within
returns-clause-within c = let s = c.args.steps.now in let same = c.unwrap_or.ensures ∙ first_or_all (position_or_len is_arrival s) (length s) c.arrival_place.result (prefix_len-le-length _ s) c.arrival_place.ensures in let below = prefix_len-le-length _ s in rw same below
