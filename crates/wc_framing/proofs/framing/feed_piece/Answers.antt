use Rattle.wc_framing.proofs.UnframedLemmas.{OnOk-map, Fed-piece}
use Rattle.wc_framing.proofs.framing.feed_piece.Goals as goal

pub returns-clause-ok : goal.returns-clause-ok
returns-clause-ok c = OnOk-map c.feed.result (λ e bytes text fed. rw e (Fed-piece bytes text c.args.piece.now c.args.link.now fed)) c.feed.ensures.ok
