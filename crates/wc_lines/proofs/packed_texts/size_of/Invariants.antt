use Rattle.std.proofs.Common.{◌≡◌, ◌+◌, ◌++◌, length, take}
use Rattle.wc_lines.specs.Packed.{all_spelled}
use Rattle.wc_lines.proofs.packed_texts.size_of.Given as goal

-- the tags up to here are counted
abbrev pub invariant-loop-tag : goal.invariant-loop-tag
invariant-loop-tag l = l.size ≡ length (l.prefix ++ l.message) + length (all_spelled (take l.tag-index l.tags))
