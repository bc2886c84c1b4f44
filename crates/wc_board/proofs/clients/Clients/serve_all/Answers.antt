use Rattle.std.proofs.Common.{◌≡◌, sym, subst, List}
use Rattle.std.proofs.lemmas.Bool.{eqb-true}
use Rattle.wc_hooks.specs.declared.entry.HookId.{HookId}
use Rattle.wc_board.specs.RelayPass.{IsPassAt}
use Rattle.wc_board.proofs.PassLemmas.{pass_opened}
use Rattle.wc_board.proofs.clients.Clients.serve_all.Goals as goal

pub serve_pass-told-requires-clause-opened : goal.serve_pass-told-requires-clause-opened
serve_pass-told-requires-clause-opened c =
    let a = c.self.inside in
    let here : c.in-Some.pass ≡ 16 = eqb-true c.in-Some.pass 16 c.in-Some.ensures.place in
    subst (λ (ids : List HookId). IsPassAt c.open_pass.new.self ids 0 a.connections.items) (sym c.deref.ensures.value)
    (pass_opened a.hooks c.open_pass.new.self a.entries.items a.drawn c.in-Some.pass _ a.connections.items c.self.invariant here c.new-key.ensures c.in-Some.ensures.opened)
