use Rattle.std.proofs.Common.{[], List, refl, sym, ap, subst, ◌∙◌}
use Rattle.std.specs.Prelude.{map}
use Rattle.wc_model.specs.declared.notice.Notice.{Notice}
use Rattle.wc_board.specs.Served.{PartsServed}
use Rattle.wc_board.proofs.FlagLemmas.{flags_none}
use Rattle.wc_board.proofs.PartLemmas.{parts_connection}
use Rattle.wc_board.proofs.PushConnections.{map_none}
use Rattle.wc_board.proofs.flags.tell_flags.Goals as goal

pub returns-then-is_empty-clause-told : goal.returns-then-is_empty-clause-told
returns-then-is_empty-clause-told g c = λ told.
    let w = c.args.world.now in
    let connections = c.args.clients.now in
    sym (map_none (parts_connection w []) (λ s. refl) connections)
    ∙ ap (λ parts. map (parts_connection w parts) connections) (sym (flags_none w c.args.flips.now (sym (rw c.as_slice.ensures at c.is_empty.ensures) ∙ c.if-is_empty.true)))

pub returns-then-is_empty-clause-each : goal.returns-then-is_empty-clause-each
returns-then-is_empty-clause-each g c =
    let w = c.args.world.now in
    let connections = c.args.clients.now in
    let P : List Notice → Type 0 = λ parts. PartsServed w parts connections connections in
    subst P (sym (flags_none w c.args.flips.now (sym (rw c.as_slice.ensures at c.is_empty.ensures) ∙ c.if-is_empty.true))) refl
