use Rattle.std.proofs.Common.{◌≡◌, Some, ap, ◌∙◌}
use Rattle.wc_view.specs.Each.{each}
use Rattle.wc_view.specs.NickGroups.{by_buffer, entry_listed}
use Rattle.wc_view.specs.NickRows.{nick_rows_on}
use Rattle.wc_view.proofs.NickFolded.{dump_all}
use Rattle.wc_view.proofs.mirror_nicks.dump_step.Goals as goal

pub returns-in-Some-2 : goal.returns-in-Some-2
returns-in-Some-2 c = λ part.
    let rows = c.in-Some.rows.items in
    let told : Some rows ≡ nick_rows_on c.args.message.now.objects = rw c.in-Some.is at c.in_ok-rows.ensures in
    let listed : Some c.in-Some-2.entries.items ≡ each entry_listed c.in_ok-groups.groups.items = rw c.in-Some-2.is at c.in_ok-entries.ensures in
    dump_all (nick_rows_on c.args.message.now.objects) rows c.in-Some-2.entries.items part told (listed ∙ ap (each entry_listed) c.in_ok-groups.ensures)
