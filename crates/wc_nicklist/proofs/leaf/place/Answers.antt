use Rattle.std.proofs.Common.{arith, ◌<◌, length, map, sym, ◌∙◌}
use Rattle.std.proofs.lemmas.List.{length-map}
use Rattle.wc_nicklist.specs.Stored.{entry_row}
use Rattle.wc_nicklist.proofs.Lasts.{row_here, stand_at, first_not}
use Rattle.wc_nicklist.proofs.Places.{left_grows}
use Rattle.wc_nicklist.proofs.leaf.place.Goals as goal

pub comes_before-requires : goal.comes_before-requires
comes_before-requires c = stand_at c.args.store.now c.args.entries.now c.loop-at.at _ c.requires.stand c.loop-at-test.true

pub loop-at-preserved : goal.loop-at-preserved
loop-at-preserved c =
    let s = c.args.store.now in
    let rows = map (entry_row s) c.args.entries.now in
    let h = c.loop-at-test.true in
    let l : c.loop-at.at < length rows = omega (arith, h, length-map c.args.entries.now (entry_row s)) in
    record {
      within = omega (arith, h);
      left = left_grows rows _ c.loop-at.at _ c.requires.order l (row_here s c.args.entries.now c.loop-at.at _ h) (sym c.comes_before.ensures ∙ c.if-comes_before.true);
    }

-- the last branch: some row is not before the address, or there is no other
pub returns-else-comes_before : goal.returns-else-comes_before
returns-else-comes_before c =
    let s = c.args.store.now in
    let es = c.args.entries.now in
    let h = c.loop-at-test.true in
    record {
      within = omega (arith, h, length-map es (entry_row s));
      left = c.loop-at.invariant.left;
      right = first_not s es c.loop-at.at _ _ h (sym c.comes_before.ensures ∙ c.if-comes_before.false);
    }
