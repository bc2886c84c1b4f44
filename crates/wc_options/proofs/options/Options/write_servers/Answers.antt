use Rattle.std.proofs.Common.{arith}
use Rattle.wc_options.proofs.ReadLemmas.{length-own_at}
use Rattle.wc_options.proofs.options.Options.write_servers.Goals as goal

pub write-requires : goal.write-requires
write-requires c =
    length-own_at c.self.inside.servers.items c.loop-place.place c.index-server.result.now (omega arith) c.self.invariant.kept.servers_fit c.index-server.ensures
