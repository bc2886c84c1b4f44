use Rattle.std.proofs.Common.{Some, map, string_bytes, ap, ◌∙◌}
use Rattle.wc_loop.proofs.DemoLemmas.{ran-by}
use Rattle.wc_loop.proofs.demo.run_over.Goals as goal

pub returns-in-Some : goal.returns-in-Some
returns-in-Some c =
    let words = ap (map string_bytes) c.as_slice.ensures.value ∙ c.in_ok-words.ensures in
    let kept = c.in_ok-keeper.ensures.contents ∙ ap Some c.new.ensures in
    ran-by _ _ _ _ _ _ _ _ _ _ c.in-Some.last words c.demo_wish.ensures.holds kept c.in-Some.ensures.last c.run-outcome.ensures.runs c.in-Some.ensures.turns c.in-Some.ensures.starved
