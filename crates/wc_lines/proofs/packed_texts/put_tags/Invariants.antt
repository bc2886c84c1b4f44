use Rattle.std.proofs.Common.{◌≡◌, ◌++◌, take}
use Rattle.wc_lines.specs.Packed.{all_spelled, AllFit}
use Rattle.wc_lines.proofs.packed_texts.put_tags.Given as goal

-- the tags up to here are spelled
abbrev pub invariant-loop-tag : goal.invariant-loop-tag
invariant-loop-tag l = (l.block.items ≡ l.initial.block.items ++ all_spelled (take l.tag-index l.tags)) × AllFit (take l.tag-index l.tags)
