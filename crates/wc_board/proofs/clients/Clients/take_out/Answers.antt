use Rattle.std.proofs.Common.{◌<◌, sym, subst, length, List}
use Rattle.std.specs.List.{remove}
use Rattle.wc_hooks.specs.declared.entry.HookId.{HookId}
use Rattle.wc_board.specs.declared.connection.Connection.{Connection}
use Rattle.wc_board.specs.Hooked.{AreHooked}
use Rattle.wc_board.proofs.HookedChanges.{one_removed}
use Rattle.wc_board.proofs.clients.Clients.take_out.Goals as goal

pub invariant_of-self : goal.invariant_of-self
invariant_of-self c =
    let a = c.self.inside in
    let ids = a.entries.items in
    let cs = a.connections.items in
    let inside : c.args.place < length cs = subst (λ (all : List Connection). c.args.place < length all) (sym c.self.view_is) c.requires in
    subst (λ (all : List HookId). AreHooked c.unhook.new.self all a.drawn c.remove-gone.new.self.items) (sym c.remove.ensures.items)
    (subst (λ (all : List Connection). AreHooked c.unhook.new.self (remove ids c.args.place) a.drawn all) (sym c.remove-gone.ensures.items)
    (one_removed a.hooks c.unhook.new.self ids a.drawn cs c.args.place c.index.result.now c.self.invariant inside c.index.ensures c.unhook.ensures.after))
