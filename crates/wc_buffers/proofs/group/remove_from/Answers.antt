use Rattle.std.proofs.Common.{rules}
use Rattle.std.proofs.lemmas.Fn.{filter_same}
use Rattle.wc_buffers.proofs.group.remove_from.Goals as goal

pub returns-clause-handles : goal.returns-clause-handles
returns-clause-handles c = filter_same _ _ _ (λ x b f k. search rules) _ _ c.retain.ensures.filtered
