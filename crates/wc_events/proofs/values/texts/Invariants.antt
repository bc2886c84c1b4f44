use Rattle.std.proofs.Common.{◌≡◌, ◌++◌}
use Rattle.wc_lines.specs.TagsLeft.{tags_left}
use Rattle.wc_events.specs.LineObjects.{texts}
use Rattle.wc_events.proofs.values.texts.Given as goal

-- the values so far, and those of the tags that are left
abbrev pub invariant-loop-tag : goal.invariant-loop-tag
invariant-loop-tag l = l.values ++ texts (tags_left l.tag-iterator) ≡ texts l.line.tags
