use Rattle.std.proofs.Common.{rules}
use Rattle.std.proofs.lemmas.List.Sorted.{answers_always}
use Rattle.wc_hdata.proofs.FoundLemmas.{buffer_of, found_list}
use Rattle.wc_hdata.proofs.shown.find_shown.Goals as goal

pub returns-in-Ok : goal.returns-in-Ok
returns-in-Ok c =
    found_list c.args.buffers.now c.args.shown.now c.args.buffer c.in-Ok.at _ c.requires c.in-Ok.ensures.bound
    (c.in-Ok.ensures.position buffer_of (answers_always _ _ _ (λ f a r q k. search rules)))
