use Rattle.wc_relaycmd.proofs.EscapeLemmas.{unescaped_more, shrinks}
use Rattle.wc_relaycmd.proofs.escapes.unescape.Goals as goal

pub loop-rest-smaller : goal.loop-rest-smaller
loop-rest-smaller c =
    shrinks c.loop-rest.rest.now _ _ _ c.is_empty.ensures c.loop-rest-test.true c.cut_at.ensures.shorter c.read_front.ensures.shorter c.read_front.ensures.moves

pub loop-rest-preserved : goal.loop-rest-preserved
loop-rest-preserved c =
    unescaped_more c.loop-rest.plain _ _ _ c.loop-rest.rest.now _ c.read_front.result.0.now c.read_front.result.1.now c.args.text.now c.loop-rest.invariant c.cut_at.ensures.front c.cut_at.ensures.back
    c.read_front.ensures.meant c.in_ok-append.ensures.ok c.in_ok-append-2.ensures.ok
