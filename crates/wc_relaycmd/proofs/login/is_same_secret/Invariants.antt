use Rattle.std.proofs.Common.{◌≡◌}
use Rattle.wc_relaycmd.proofs.SecretLemmas.{difference}
use Rattle.wc_relaycmd.proofs.login.is_same_secret.Given as goal

abbrev pub invariant-loop-x : goal.invariant-loop-x
invariant-loop-x l = difference l.difference l.x-iterator.a.rest.now l.x-iterator.b.rest.now ≡ difference 0 l.given l.kept
