use Rattle.std.proofs.Common.{sym, ◌∙◌}
use Rattle.std.proofs.lemmas.Slice.Zip.{either_empty_from_Zip}
use Rattle.wc_relaycmd.proofs.SecretLemmas.{difference_end, same_by_difference}
use Rattle.wc_relaycmd.proofs.login.is_same_secret.Goals as goal

pub returns : goal.returns
returns c =
    same_by_difference c.loop-x.difference c.args.given.now c.args.kept.now c.if-given-kept.false
    (sym (difference_end _ _ _ (either_empty_from_Zip c.loop-x.x-iterator c.next.new.self _ c.in-None.is c.next.ensures.steps)) ∙ c.loop-x.invariant)
