use Rattle.std.proofs.Common.{Some, None}
use Rattle.std.proofs.lemmas.Bool.Decides.{Decides-eqb}
use Rattle.std.proofs.lemmas.Slice.Eq.{strip_prefix_is}
use Rattle.wc_relaycmd.proofs.SaltLemmas.{salted_some, salted_none}
use Rattle.wc_relaycmd.proofs.login.is_salted.Goals as goal

pub returns-in-Some : goal.returns-in-Some
returns-in-Some c =
    salted_some c.args.salt.now c.args.nonce.now c.in-Some.more.now _
    (strip_prefix_is Decides-eqb c.args.salt.now c.args.nonce.now (Some c.in-Some.more) c.in-Some.ensures.cases) c.is_empty.ensures

pub returns-in-None : goal.returns-in-None
returns-in-None c =
    salted_none c.args.salt.now c.args.nonce.now (strip_prefix_is Decides-eqb c.args.salt.now c.args.nonce.now None c.in-None.ensures.cases)
