use Rattle.std.proofs.Common.{IsUtf8, sym, subst}
use Rattle.std.proofs.lemmas.Str.{IsUtf8-append}
use Rattle.wc_eval.proofs.cuts.front_and.Goals as goal

pub returns-clause-utf8 : goal.returns-clause-utf8
returns-clause-utf8 c =
    subst IsUtf8 (sym c.in_ok-append.ensures.ok)
    (IsUtf8-append c.in_ok-value.value c.args.suffix.now c.in_ok-value.ensures.utf8 c.requires.suffix)
