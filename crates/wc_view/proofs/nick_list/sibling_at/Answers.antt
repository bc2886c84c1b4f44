use Rattle.wc_view.proofs.NickListing.{item_got}
use Rattle.wc_view.proofs.nick_list.sibling_at.Goals as goal

pub returns : goal.returns
returns c = item_got c.args.path.now c.args.depth c.get.result c.get.ensures.lookup
