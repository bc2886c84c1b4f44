use Rattle.wc_hdata.specs.Ranges.{places_in}
use Rattle.wc_hdata.proofs.RangeLemmas.{all_on}
use Rattle.wc_hdata.proofs.cursor.Cursor.onward.Goals as goal

pub returns : goal.returns
returns c = all_on (places_in c.args.source) c.args.at _ _ c.len-high.ensures c.min.ensures
