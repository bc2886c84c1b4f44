use Rattle.std.proofs.Common.{sym, subst}
use Rattle.std.specs.Prelude.{All, IfSome}
use Rattle.wc_triggers.specs.Replacements.{HasTexts}
use Rattle.wc_triggers.proofs.read.read_replacements.Goals as goal

pub are_fine-requires : goal.are_fine-requires
are_fine-requires c =
    subst (All HasTexts) (sym c.as_slice.ensures) (subst (λ found. IfSome found (All HasTexts)) c.in-Some.is c.in_ok-found.ensures.utf8)
