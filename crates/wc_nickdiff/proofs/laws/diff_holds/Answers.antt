use Rattle.std.proofs.Common.{refl}
use Rattle.wc_nickdiff.specs.NickPush.{root_item}
use Rattle.wc_nickdiff.proofs.PushLaw.{diff_law, kept}
use Rattle.wc_nickdiff.proofs.laws.diff_holds.Goals as goal

pub returns : goal.returns
returns c = λ root told now old new. diff_law (root_item root) told now refl (kept told old) (kept now new)
