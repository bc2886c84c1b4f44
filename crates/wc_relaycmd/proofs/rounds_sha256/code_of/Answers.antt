use Rattle.sha2.specs.Sha256.{sha256}
use Rattle.wc_relaycmd.specs.Pbkdf2.{with_pad}
use Rattle.wc_relaycmd.proofs.PadLemmas.{hmac_made}
use Rattle.wc_relaycmd.proofs.rounds_sha256.code_of.Goals as goal

pub returns : goal.returns
returns c block inner outer =
    hmac_made sha256 block c.args.first.now c.args.second.now _ _ (c.digest_after-digest.ensures (with_pad 54 block) inner) (c.digest_after.ensures (with_pad 92 block) outer)
