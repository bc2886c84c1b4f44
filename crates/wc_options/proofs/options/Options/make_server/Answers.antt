use Rattle.std.proofs.Common.{◌≡◌, ◌<◌, ◌∙◌, ◌++◌, ◌∷◌, [], List, ℕ, Some, false, length, ap, subst, sym}
use Rattle.wc_options.specs.Options.{OptionsValue, ServerOptions, has_server, with_own, fresh_server}
use Rattle.wc_options.proofs.KeptLemmas.{stored-made}
use Rattle.wc_options.proofs.options.Options.make_server.Goals as goal

pub invariant_of-self-2 : goal.invariant_of-self-2
invariant_of-self-2 c =
    let options : OptionsValue = record { set = c.self.inside.set.items; servers = c.self.inside.servers.items } in
    let absent : has_server c.args.name.now options.servers ≡ false = subst (λ (o : OptionsValue). has_server c.args.name.now o.servers ≡ false) (sym c.self.view_is) c.requires.absent in
    let few : length options.servers < 64 = subst (λ (o : OptionsValue). length o.servers < 64) (sym c.self.view_is) c.requires.few in
    let servers : c.push_reserved.new.self.items ≡ options.servers ++ with_own c.args.place (Some c.args.value) (fresh_server c.args.name.now) ∷ [] =
    c.push_reserved.ensures.items
    ∙ ap (λ (ss : List ServerOptions). ss ++ c.in_ok-server.server ∷ []) c.in_ok-reserve.ensures.items
    ∙ ap (λ (s : ServerOptions). options.servers ++ s ∷ []) c.in_ok-server.ensures in
    let names : c.push_reserved-2.new.self.items ≡ c.self.inside.names.items ++ c.args.name.now ∷ [] =
    c.push_reserved-2.ensures.items
    ∙ ap (λ (ns : List (List ℕ)). ns ++ c.in_ok-name.name ∷ []) c.in_ok-reserve-2.ensures.items
    ∙ ap (λ (n : List ℕ). c.self.inside.names.items ++ n ∷ []) c.in_ok-name.ensures in
    rw (servers, names) (stored-made options _ _ _ c.args.name.now c.args.place c.args.value c.self.invariant c.requires.named absent few c.requires.fits)
