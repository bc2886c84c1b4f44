use Rattle.std.proofs.Common.{rules, ◌∙◌, ap}
use Rattle.std.proofs.lemmas.Fn.{filter_same}
use Rattle.wc_view.specs.Entries.{part_at}
use Rattle.wc_view.proofs.EditLemmas.{is_other, gone}
use Rattle.wc_view.proofs.buffer_lines.remove_buffer.Goals as goal

pub returns : goal.returns
returns c =
    ap part_at (filter_same _ (is_other c.args.buffer) _ (λ x b f' k. search rules) _ _ c.retain.ensures.filtered)
    ∙ gone c.args.buffer c.args.entries.now.items
