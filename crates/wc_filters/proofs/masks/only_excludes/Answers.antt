use Rattle.std.proofs.Common.{eqb, rules, tests}
use Rattle.std.proofs.lemmas.Iterator.Search.{all_from_yields_List}
use Rattle.std.proofs.lemmas.Iterator.Splits.{YieldsList-from_slice_split}
use Rattle.wc_filters.specs.Masks.{is_exclusion}
use Rattle.wc_filters.proofs.masks.only_excludes.Goals as goal

pub returns : goal.returns
returns c =
    all_from_yields_List (λ mask. is_exclusion mask) _ _ _ c.all.ensures.ran
    (YieldsList-from_slice_split _ (λ b. eqb b 44) c.args.masks.now c.split.ensures.rest c.split.ensures.done c.split.ensures.closure (λ x r q k. search (rules, tests)))
    (λ x b q k. search (rules, tests))
