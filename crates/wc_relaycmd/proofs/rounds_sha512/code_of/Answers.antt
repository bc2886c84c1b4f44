use Rattle.sha2.specs.Sha512.{sha512}
use Rattle.wc_relaycmd.specs.Pbkdf2.{with_pad}
use Rattle.wc_relaycmd.proofs.PadLemmas.{hmac_made}
use Rattle.wc_relaycmd.proofs.rounds_sha512.code_of.Goals as goal

pub returns : goal.returns
returns c block inner outer =
    hmac_made sha512 block c.args.first.now c.args.second.now _ _ (c.digest_after-digest.ensures (with_pad 54 block) inner) (c.digest_after.ensures (with_pad 92 block) outer)
