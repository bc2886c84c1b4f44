use Rattle.wc_options.specs.Table.{globals}
use Rattle.wc_options.proofs.table.global_place.Goals as goal

pub returns : goal.returns
unfolding globals
returns c = c.place_in.ensures
