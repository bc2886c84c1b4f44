use Rattle.wc_hdata.specs.Ranges.{places_in}
use Rattle.wc_hdata.proofs.RangeLemmas.{some_on}
use Rattle.wc_hdata.proofs.cursor.Cursor.forward.Goals as goal

pub returns : goal.returns
returns c = some_on (places_in c.args.source) c.args.most c.args.at _ _ _ c.len-all.ensures c.min-low.ensures c.min.ensures
