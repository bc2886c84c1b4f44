use Rattle.std.proofs.Common.{sym, subst}
use Rattle.std.specs.Str.{IsUtf8}
use Rattle.wc_keys.proofs.EventIds.{id_text}
use Rattle.wc_keys.proofs.events.event_id.Goals as goal

-- src/events.rt:65:1
pub returns-clause-text : goal.returns-clause-text
returns-clause-text c = subst IsUtf8 (sym c.event_row.ensures.id) (id_text c.args.kind)
