use Rattle.std.proofs.Common.{◌≡◌}
use Rattle.std.specs.Option.{option_copied}
use Rattle.wc_irc_texts.specs.Pieces.{length_left}
use Rattle.wc_irc_texts.specs.Tags.{tags_left, last_value, tag_value}
use Rattle.wc_irc_texts.proofs.tags.tag_value.Given as goal

abbrev pub invariant-loop-left : goal.invariant-loop-left
invariant-loop-left l = last_value l.name (option_copied l.found) (tags_left l.left) ≡ tag_value l.name l.tags

abbrev pub decreases-loop-left : goal.decreases-loop-left
decreases-loop-left l = length_left l.left
