use Rattle.std.proofs.Common.{◌≡◌, length, arith}
use Rattle.wc_options.proofs.KeptLemmas.{length-set_values, stored-set}
use Rattle.wc_options.proofs.options.Options.put_global.Goals as goal

pub index_mut-requires : goal.index_mut-requires
index_mut-requires c = let e : length c.self.inside.set.items ≡ 19 = length-set_values _ c.self.invariant.kept in omega (arith, c.requires.place)

pub invariant_of-self : goal.invariant_of-self
invariant_of-self c = stored-set _ _ _ _ c.args.place c.args.value c.self.invariant c.requires.fits
