use Rattle.std.proofs.Common.{◌∙◌}
use Rattle.wc_filters.proofs.TabLemmas.{parted_is}
use Rattle.wc_filters.proofs.search.parted.Goals as goal

pub returns-in-len2-up : goal.returns-in-len2-up
returns-in-len2-up c = parted_is _ _ c.from_tab-tab.ensures c.in-len2-up.len_at_least
