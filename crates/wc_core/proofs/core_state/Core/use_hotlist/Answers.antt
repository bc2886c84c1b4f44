use Rattle.wc_core.proofs.NewsLemmas.{rows_used-done}
use Rattle.wc_core.proofs.core_state.Core.use_hotlist.Goals as goal

pub returns : goal.returns
returns c = rows_used-done c.args.self.now c.take_rows.new.self c.args.usage c.args.buffer c.take_rows.ensures
