use Rattle.std.proofs.Common.{◌≡◌, ◌+◌, ◌≤◌, length, drop}
use Rattle.wc_model.specs.LineCuts.{cut_tags, tags_from}
use Rattle.wc_world.proofs.cut.fitting.Given as goal

abbrev pub invariant-loop-tag : goal.invariant-loop-tag
invariant-loop-tag l = record { few : l.count ≤ 32; short : l.size ≤ 256; cut : length (cut_tags l.tags) ≡ l.count + length (tags_from l.count l.size (drop l.tag-index l.tags)) }
