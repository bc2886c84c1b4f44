use Rattle.std.proofs.Common.{subst}
use Rattle.std.specs.Prelude.{All}
use Rattle.wc_lines.specs.LineText.{HasUtf8Texts}
use Rattle.wc_lines.proofs.lines.Lines.iter.Goals as goal

pub returns-clause-text : goal.returns-clause-text
returns-clause-text c = subst (λ held. All HasUtf8Texts held.lines) c.self.view_is c.self.invariant.text
