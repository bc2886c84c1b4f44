use Rattle.std.proofs.Common.{ℕ, sym, subst}
use Rattle.wc_board.specs.Hooked.{AreHooked}
use Rattle.wc_board.proofs.clients.Clients.hooks.Goals as goal

pub returns : goal.returns
returns c =
    let a = c.self.inside in
    let P : ℕ → Type 0 = λ drawn. AreHooked a.hooks a.entries.items drawn a.connections.items in
    rw (← c.self.view_is) (record { ids = a.entries.items; hooked = subst P (sym c.self.invariant.count) c.self.invariant })
