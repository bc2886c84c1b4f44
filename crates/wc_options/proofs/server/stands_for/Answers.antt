use Rattle.std.proofs.Common.{sym, None}
use Rattle.wc_options.proofs.TableLemmas.{stands_for_reads}
use Rattle.wc_options.proofs.server.stands_for.Goals as goal

pub returns : goal.returns
returns c = sym (stands_for_reads c.args.place None c.requires)
