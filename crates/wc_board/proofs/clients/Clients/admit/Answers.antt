use Rattle.std.proofs.Common.{◌≡◌, ◌+◌, ◌++◌, ◌∷◌, [], None, refl, ap, sym, subst, ◌∙◌, List}
use Rattle.wc_hooks.specs.declared.entry.HookId.{HookId}
use Rattle.wc_board.specs.declared.connection.Connection.{Connection}
use Rattle.wc_board.specs.Hooked.{AreHooked}
use Rattle.wc_board.proofs.HookedChanges.{one_admitted}
use Rattle.wc_board.proofs.clients.Clients.admit.Goals as goal

pub invariant_of-self-2 : goal.invariant_of-self-2
invariant_of-self-2 c =
    let a = c.self.inside in
    let ids = a.entries.items in
    let cs = a.connections.items in
    let id = c.in_ok-entry.entry in
    let new : Connection = record { session = c.args.session; leaving = None } in
    let table = c.hook_client.new.hooks in
    let all_ids : c.push_reserved.new.self.items ≡ ids ++ id ∷ [] = c.push_reserved.ensures.items ∙ ap (λ (all : List HookId). all ++ id ∷ []) c.in_ok-reserve-2.ensures.items in
    let all : c.push_reserved-2.new.self.items ≡ cs ++ new ∷ [] = c.push_reserved-2.ensures.items ∙ ap (λ (all : List Connection). all ++ new ∷ []) c.in_ok-reserve.ensures.items in
    subst (λ (numbers : List HookId). AreHooked table numbers (a.drawn + 1) c.push_reserved-2.new.self.items) (sym all_ids)
    (subst (λ (connections : List Connection). AreHooked table (ids ++ id ∷ []) (a.drawn + 1) connections) (sym all)
    (one_admitted a.hooks table ids a.drawn (a.drawn + 1) cs id c.link.result new c.self.invariant c.in_ok-entry.ensures.number refl c.in_ok-entry.ensures.hooked c.link.ensures refl))
