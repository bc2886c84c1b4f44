use Rattle.wc_core.proofs.ServedLemmas.{before-other}
use Rattle.std.proofs.Common.{sym, ◌∙◌}
use Rattle.std.proofs.lemmas.Bool.{false≢true}
use Rattle.wc_core.proofs.core_state.Core.part_before.Goals.{in-Close, in_default}
use Rattle.wc_core.proofs.core_state.Core.part_before.Goals as goal

pub returns-else-matches : goal.returns-else-matches
returns-else-matches c =
    elim c.match-matches.branch [
      | in-Close w ↦ absurd (false≢true (sym c.if-matches.false ∙ w.matches-is))
      | in_default w ↦ before-other c.args.self.now c.args.change.now w.in_default.not-Close
    ]
