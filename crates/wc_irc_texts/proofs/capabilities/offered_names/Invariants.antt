use Rattle.std.proofs.Common.{◌≡◌, ◌++◌, drop, filter}
use Rattle.std.specs.Prelude.{◌||◌}
use Rattle.wc_irc_texts.specs.Capabilities.{is_among, is_offered, offered_names}
use Rattle.wc_irc_texts.proofs.capabilities.offered_names.Given as goal

abbrev pub invariant-loop-name : goal.invariant-loop-name
invariant-loop-name l = l.names ++ filter (λ name. is_among name l.offered || is_offered name l.text) (drop l.name-index l.wished) ≡ offered_names l.wished l.offered l.text
