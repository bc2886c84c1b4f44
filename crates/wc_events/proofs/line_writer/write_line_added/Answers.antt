use Rattle.std.proofs.Common.{ℕ, ◌-◌, ◌^◌, ◌<◌, List, length, subst}
use Rattle.std.specs.Prelude.{IsErrOf}
use Rattle.wc_keys.specs.Events.{id_of}
use Rattle.wc_model.specs.declared.notice.EventKind.TheVariants as kinds
use Rattle.wc_objects.specs.declared.write.WriteRefused.{WriteRefused}
use Rattle.wc_events.specs.LineObjects.{added_objects}
use Rattle.wc_events.proofs.EventBytes.{added_told, puts_told}
use Rattle.wc_events.proofs.Formed.{added_formed}
use Rattle.wc_events.proofs.line_writer.write_line_added.Goals as goal

pub returns-clause-ok : goal.returns-clause-ok
returns-clause-ok c =
    let same = added_told c.event_id.result.now c.text.result.now (id_of kinds.LineAdded) c.args.buffer c.keys.result.now c.args.line.now c.event_id.ensures.id c.text.ensures c.keys.ensures in
    puts_told c.append_lines.result c.args.out.now.items c.append_lines.new.out.items (id_of kinds.LineAdded) _ (added_objects c.args.buffer c.args.line.now) same (added_formed c.args.buffer c.args.line.now c.requires) c.append_lines.ensures.ok c.append_lines.ensures.fits

pub returns-clause-too_long : goal.returns-clause-too_long
returns-clause-too_long c =
    let same = added_told c.event_id.result.now c.text.result.now (id_of kinds.LineAdded) c.args.buffer c.keys.result.now c.args.line.now c.event_id.ensures.id c.text.ensures c.keys.ensures in
    subst (λ (b : List ℕ). IsErrOf c.append_lines.result WriteRefused.TooLong → 2 ^ 31 - 1 < length b) same c.append_lines.ensures.too_long
