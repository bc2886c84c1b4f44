use Rattle.std.proofs.Common.{rules}
use Rattle.std.specs.Prelude.{is_some}
use Rattle.std.proofs.lemmas.Fn.{filter_same}
use Rattle.wc_irc_texts.specs.declared.seat.Seat.{Seat}
use Rattle.wc_irc_nicks.proofs.places.without_holes.Goals as goal

pub returns : goal.returns
returns c = filter_same _ (is_some {T = Seat}) _ (λ x b f' k. search rules) _ _ c.retain.ensures.filtered
