use Rattle.std.proofs.Common.{◌≡◌, ◌<◌, length, arith, subst, sym}
use Rattle.wc_options.specs.Options.{OptionsValue}
use Rattle.wc_options.proofs.ReadLemmas.{length-own_at, stored-own_at}
use Rattle.wc_options.proofs.options.Options.put_own.Goals as goal

pub put-requires : goal.put-requires
put-requires c =
    let h : c.args.found < length c.self.inside.servers.items = subst (λ (o : OptionsValue). c.args.found < length o.servers) (sym c.self.view_is) c.requires.found in
    let e : length c.index_mut.result.now.own ≡ 12 = length-own_at c.self.inside.servers.items c.args.found c.index_mut.result.now h c.self.invariant.kept.servers_fit c.index_mut.ensures.value in
    omega (arith, c.requires.place)

pub invariant_of-self : goal.invariant_of-self
invariant_of-self c =
    let h : c.args.found < length c.self.inside.servers.items = subst (λ (o : OptionsValue). c.args.found < length o.servers) (sym c.self.view_is) c.requires.found in
    stored-own_at _ _ _ _ c.args.found c.args.place c.args.value c.index_mut.result.now c.put.new.self c.self.invariant h c.requires.fits c.index_mut.ensures.value c.put.ensures
