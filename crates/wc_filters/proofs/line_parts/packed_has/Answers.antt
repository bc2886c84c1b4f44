use Rattle.std.proofs.Common.{true, rules, tests}
use Rattle.std.proofs.lemmas.Iterator.Search.{any_from_yields_List}
use Rattle.std.proofs.lemmas.Iterator.Consumers.{YieldsList-from_first}
use Rattle.wc_lines.specs.TagsLeft.{tags_left}
use Rattle.wc_text.specs.Mask.{matches_of}
use Rattle.wc_filters.proofs.line_parts.packed_has.Goals as goal

pub returns : goal.returns
returns c =
    any_from_yields_List (λ tag. matches_of true c.args.mask.now tag) c.any.new.self _ _ c.any.ensures.ran
    (YieldsList-from_first (λ x. x.now) tags_left {s = c.tags.result} c.args.line.now.tags c.tags.ensures)
    (λ x b q k. search (rules, tests))
