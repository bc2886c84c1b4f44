use Rattle.std.proofs.Common.{◌≡◌, ◌<◌, ◌∙◌, ap, arith, length, get_or, set}
use Rattle.std.proofs.lemmas.List.{get_or_default}
use Rattle.std.proofs.lemmas.List.Edits.{map_over_more}
use Rattle.wc_board.specs.Served.{noted_connection}
use Rattle.wc_board.proofs.connection.note_all.Goals as goal

pub loop-connection-preserved : goal.loop-connection-preserved
loop-connection-preserved c =
    let service = noted_connection c.args.kind c.args.buffer.0 in
    let inside : c.loop-connection.connection-index < length c.loop-connection.connections = omega arith in
    let x = get_or c.loop-connection.connections c.loop-connection.connection-index c.connection-item.result in
    let at : x ≡ get_or c.loop-connection.connections c.loop-connection.connection-index x = get_or_default c.loop-connection.connections c.loop-connection.connection-index c.connection-item.result x inside in
    let one : c.note.new.self ≡ service x = c.note.ensures in
    ap (λ s. set c.loop-connection.connections c.loop-connection.connection-index s) one ∙ map_over_more service c.args.connections.now c.loop-connection.connections c.loop-connection.connection-index x (omega arith) c.loop-connection.invariant at
