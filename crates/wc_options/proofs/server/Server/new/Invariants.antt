use Rattle.std.proofs.Common.{◌≡◌, map, take}
use Rattle.wc_options.specs.Options.{own_at_first}
use Rattle.wc_options.specs.Table.{of_server}
use Rattle.wc_options.proofs.server.Server.new.Given as goal

abbrev pub invariant-loop-place : goal.invariant-loop-place
invariant-loop-place l = l.own.items ≡ map own_at_first (take l.place of_server)
