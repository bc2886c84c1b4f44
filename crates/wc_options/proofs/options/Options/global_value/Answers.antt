use Rattle.std.proofs.Common.{◌≡◌, length, arith}
use Rattle.wc_options.specs.Options.{OptionsValue}
use Rattle.wc_options.proofs.KeptLemmas.{length-set_values}
use Rattle.wc_options.proofs.ReadLemmas.{length-defaults, global_value-some, global_value-none}
use Rattle.wc_options.proofs.options.Options.global_value.Goals as goal

pub index-requires : goal.index-requires
index-requires c = let e : length c.self.inside.set.items ≡ 19 = length-set_values _ c.self.invariant.kept in omega arith

pub index-requires-in-None : goal.index-requires-in-None
index-requires-in-None c = let e : length c.self.inside.defaults.items ≡ 19 = length-defaults _ c.self.invariant.defaults_are in omega arith

pub returns-in-Some : goal.returns-in-Some
returns-in-Some c =
    let e : length c.self.inside.set.items ≡ 19 = length-set_values _ c.self.invariant.kept in
    let options : OptionsValue = record { set = c.self.inside.set.items; servers = c.self.inside.servers.items } in
    rw (← c.self.view_is) (global_value-some options c.args.place c.index.result.now c.in-Some.value c.index.ensures (omega arith) c.in-Some.is)

pub returns-in-None : goal.returns-in-None
returns-in-None c =
    let e : length c.self.inside.set.items ≡ 19 = length-set_values _ c.self.invariant.kept in
    let options : OptionsValue = record { set = c.self.inside.set.items; servers = c.self.inside.servers.items } in
    rw (← c.self.view_is)
    (global_value-none options c.args.place c.index.result.now c.self.inside.defaults.items c.index-in-None.result.now c.index.ensures (omega arith) c.in-None.is c.self.invariant.defaults_are c.requires c.index-in-None.ensures)
