use Rattle.std.proofs.Common.{◌≡◌, ap, sym, subst, ◌∙◌, arith, List, length}
use Rattle.std.proofs.lemmas.List.{length-map}
use Rattle.wc_board.specs.declared.connection.Connection.{Connection}
use Rattle.wc_board.specs.Hooked.{AreHooked}
use Rattle.wc_board.specs.Served.{noted_connection}
use Rattle.wc_board.proofs.ConnectionLemmas.{items_back}
use Rattle.wc_board.proofs.EventLemmas.{noted_open, noted_link}
use Rattle.wc_board.proofs.HookedChanges.{all_kept}
use Rattle.wc_board.proofs.clients.Clients.note_all.Goals as goal

pub invariant_of-self : goal.invariant_of-self
invariant_of-self c =
    let a = c.self.inside in
    let items = a.connections.items in
    let f = noted_connection c.args.kind c.args.buffer.0 in
    let noted = rw c.deref_mut.ensures.value at c.note_all.ensures in
    let all : a.connections.len ≡ length items = omega (arith, a.connections.ok.0) in
    let back = items_back a.connections.len items c.note_all.new.connections all (ap length noted ∙ length-map items f) ∙ noted in
    subst (λ (cs : List Connection). AreHooked a.hooks a.entries.items a.drawn cs) (sym back)
    (all_kept a.hooks a.entries.items a.drawn items f c.self.invariant (noted_open c.args.kind c.args.buffer.0) (noted_link c.args.kind c.args.buffer.0))
