use Rattle.std.proofs.Common.{◌≡◌, ◌∙◌, Some, length, arith, ap}
use Rattle.wc_options.specs.Options.{with_own}
use Rattle.wc_options.proofs.ReadLemmas.{length-fresh}
use Rattle.wc_options.proofs.options.server_with.Goals as goal

pub put-requires : goal.put-requires
put-requires c = let e : length c.in_ok-server.server.own ≡ 12 = length-fresh _ _ c.in_ok-server.ensures in omega (arith, c.requires)

pub returns : goal.returns
returns c = c.put.ensures ∙ ap (with_own c.args.place (Some c.args.value)) c.in_ok-server.ensures
