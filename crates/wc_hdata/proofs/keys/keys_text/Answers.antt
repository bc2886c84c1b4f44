use Rattle.wc_hdata.proofs.TextLemmas.{texts_more}
use Rattle.wc_hdata.proofs.keys.keys_text.Goals as goal

pub loop-key-preserved : goal.loop-key-preserved
loop-key-preserved c =
    let so_far = c.loop-key.invariant in (
      so_far.0,
      so_far.1,
      texts_more so_far.0 c.in-Some.others.now c.loop-key.key-index _ c.loop-key.text c.append.new.self c.append_key-in-loop-key.new.text c.loop-key-test.true so_far.2 c.in_ok-append.ensures.ok c.in_ok-append_key-2.ensures,
    )
