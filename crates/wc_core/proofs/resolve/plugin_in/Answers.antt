use Rattle.std.proofs.Common.{ap, sym, ◌∙◌, Option}
use Rattle.std.specs.Borrow.{Bor}
use Rattle.std.specs.Option.{option_copied}
use Rattle.wc_text.specs.Splits.{before}
use Rattle.wc_buffers.specs.declared.row.BufferRow.{BufferRow}
use Rattle.wc_core.specs.Resolved.{plugin_in}
use Rattle.wc_core.proofs.ResolvedWords.{plugin_before}
use Rattle.wc_core.proofs.resolve.plugin_in.Goals as goal

pub returns-in-Some : goal.returns-in-Some
returns-in-Some c =
    c.split_once.ensures.front ∙ ap (before 46) c.as_slice.ensures ∙ plugin_before c.in-Some.row.now.full_name
    ∙ sym (ap (λ (o : Option (Bor BufferRow)). plugin_in (option_copied o)) c.in-Some.is)
