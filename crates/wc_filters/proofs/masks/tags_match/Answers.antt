use Rattle.std.proofs.Common.{eqb, rules, tests}
use Rattle.std.proofs.lemmas.Iterator.Search.{any_from_yields_List}
use Rattle.std.proofs.lemmas.Iterator.Splits.{YieldsList-from_slice_split}
use Rattle.wc_filters.specs.Masks.{item_holds, tags_match}
use Rattle.wc_filters.specs.Parts.{tags_in}
use Rattle.wc_filters.proofs.masks.tags_match.Goals as goal

pub returns : goal.returns
unfolding tags_match
returns c =
    any_from_yields_List (λ item. item_holds item (tags_in c.args.tags)) _ _ _ c.any.ensures.ran
    (YieldsList-from_slice_split _ (λ b. eqb b 44) c.args.items.now c.split.ensures.rest c.split.ensures.done c.split.ensures.closure (λ x r q k. search (rules, tests)))
    (λ x b q k. search (rules, tests))
