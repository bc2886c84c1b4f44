use Rattle.std.proofs.Common.{refl, ap}
use Rattle.wc_view.proofs.NickListing.{empty_listed}
use Rattle.wc_view.proofs.nick_list.Listing.new.Goals as goal

pub returns-clause-listing : goal.returns-clause-listing
returns-clause-listing c = empty_listed _ (ap (λ n. n.rows) c.in_ok-list.ensures) c.new-2.ensures.items refl
