use Rattle.std.proofs.Common.{◌∙◌, ap, sym, map, length}
use Rattle.std.proofs.lemmas.List.{length-map}
use Rattle.wc_buffers.specs.Kept.{entry_at}
use Rattle.wc_buffers.proofs.buffers.Buffers.group_count.Goals as goal

pub returns : goal.returns
returns c = c.len.ensures ∙ sym (length-map c.self.inside.table (map (entry_at c.self.inside.entries))) ∙ ap length c.self.view_is
