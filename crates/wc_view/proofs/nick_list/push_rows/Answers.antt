use Rattle.std.proofs.Common.{[], sym, ◌∙◌}
use Rattle.std.specs.Vec.Iter.{into_iter_items}
use Rattle.wc_nickdiff.specs.PushLaw.{rows_from}
use Rattle.wc_view.proofs.NickListing.{read_more, read_refused, rest_utf8}
use Rattle.wc_view.proofs.nick_list.push_rows.Goals as goal

pub returns-then-not-fits : goal.returns-then-not-fits
returns-then-not-fits c =
    read_refused (rows_from [] (into_iter_items c.args.rows)) c.loop-item.listing.list.rows c.in-Some.item _ _
    c.loop-item.invariant.rows c.in-Some.ensures.steps.0 (sym c.if-not-fits.true ∙ c.in_ok-fits.ensures.fits)

pub loop-item-preserved : goal.loop-item-preserved
loop-item-preserved c = record {
  listing = c.in_ok-fits.ensures.listing c.if-not-fits.false;
  root = c.in_ok-fits.ensures.root;
  texts = rest_utf8 _ _ c.in-Some.item c.in-Some.ensures.steps.0 c.loop-item.invariant.texts;
  rows = read_more (rows_from [] (into_iter_items c.args.rows)) c.loop-item.listing.list.rows _ c.in-Some.item _ _
      c.loop-item.invariant.rows c.in-Some.ensures.steps.0 (c.in_ok-fits.ensures.after c.if-not-fits.false);
}
