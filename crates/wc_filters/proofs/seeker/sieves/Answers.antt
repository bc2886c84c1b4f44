use Rattle.wc_filters.proofs.FilterLemmas.{first_and_others, ready_next}
use Rattle.wc_filters.proofs.seeker.sieves.Goals as goal

pub loop-rest-preserved : goal.loop-rest-preserved
loop-rest-preserved c =
    let rest = c.loop-rest.rest.now in
    let row = c.row-item.result in
    ready_next c.args.full_name.now c.args.rows.now rest _ c.loop-rest.sieves.items c.put.new.sieves.items row
    (first_and_others rest row c.in-len1-up.len_at_least c.row-item.is) c.in_ok-put.ensures c.loop-rest.invariant
