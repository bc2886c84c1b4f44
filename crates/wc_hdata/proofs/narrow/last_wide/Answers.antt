use Rattle.std.proofs.Common.{arith, length, ◌-◌, ◌∙◌, sym}
use Rattle.wc_hdata.specs.declared.count.Count.TheVariants.{One}
use Rattle.wc_hdata.specs.declared.variable.Variable.TheVariants.{OwnLines}
use Rattle.wc_hdata.proofs.NarrowLemmas.{narrow_last, narrow_more}
use Rattle.wc_hdata.proofs.narrow.last_wide.Goals as goal

pub loop-last-init : goal.loop-last-init
loop-last-init c = record {
  inside = omega (arith, c.requires);
  narrow = narrow_last c.args.steps.now (length c.args.steps.now - 1) (record { variable = OwnLines; count = One }) (omega (arith, c.requires));
}

pub loop-last-preserved : goal.loop-last-preserved
loop-last-preserved c =
    let inside = c.loop-last.invariant.inside in
    record {
      inside = omega (arith, inside);
      narrow = narrow_more c.args.steps.now c.loop-last.last (record { variable = OwnLines; count = One }) c.target.result c.loop-last-test.true inside c.loop-last.invariant.narrow c.target.ensures (sym c.gives_one.ensures ∙ c.if-not-gives_one.false);
    }
