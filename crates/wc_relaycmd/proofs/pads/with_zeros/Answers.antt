use Rattle.std.proofs.Common.{◌++◌, ap₂, length}
use Rattle.std.proofs.lemmas.List.{drop-replicate}
use Rattle.wc_relaycmd.proofs.pads.with_zeros.Goals as goal

pub returns : goal.returns
returns g c = ap₂ (λ a b. a ++ b) c.copy_from_slice.ensures.after (drop-replicate (length c.args.key.now) _ 0)
