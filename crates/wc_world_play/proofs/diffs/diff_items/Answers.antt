use Rattle.std.proofs.Common.{subst, sym}
use Rattle.wc_nickdiff.specs.Apply.{AreUtf8}
use Rattle.wc_nickdiff.proofs.Items.{utf8_push}
use Rattle.wc_world_play.proofs.diffs.diff_items.Goals as goal

pub loop-word-preserved : goal.loop-word-preserved
loop-word-preserved c = subst AreUtf8 (sym c.in_ok-push.ensures.ok) (utf8_push c.loop-word.items c.in_ok-item.item c.loop-word.invariant c.in_ok-item.ensures)
