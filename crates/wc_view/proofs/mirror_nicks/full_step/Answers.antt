use Rattle.std.proofs.Common.{◌≡◌, Some, sym, ap, ◌∙◌}
use Rattle.wc_view.specs.Each.{only}
use Rattle.wc_view.specs.NickRows.{nick_rows_on}
use Rattle.wc_view.proofs.NickFolded.{full_list}
use Rattle.wc_view.proofs.mirror_nicks.full_step.Goals as goal

pub returns-in-Some-2 : goal.returns-in-Some-2
returns-in-Some-2 c = λ part.
    let rows = c.in-Some.rows.items in
    let told : Some rows ≡ nick_rows_on c.args.message.now.objects = rw c.in-Some.is at c.in_ok-rows.ensures in
    full_list (nick_rows_on c.args.message.now.objects) rows c.in-Some-only_group.group c.in-Some-2.entry part told
    (c.in-Some-only_group.ensures ∙ ap only c.in_ok-by_buffer.ensures)
    (sym c.in-Some-2.is ∙ c.in_ok-entry.ensures)
