use Rattle.std.proofs.Common.{◌≡◌, ℕ, arith, ◌+◌, ◌-◌, ◌<◌, ◌≤◌, length, map, take, sym, ◌∙◌, subst}
use Rattle.std.proofs.lemmas.List.{length-map}
use Rattle.wc_nicklist.specs.Order.{key_at, address_of}
use Rattle.wc_nicklist.specs.Stored.{entry_row, AllBefore}
use Rattle.wc_nicklist.proofs.Lasts.{row_here, stand_at}
use Rattle.wc_nicklist.proofs.Places.{left_grows}
use Rattle.wc_nicklist.proofs.leaf.place_by_strides.Goals as goal

pub comes_before-requires : goal.comes_before-requires
comes_before-requires c =
    let test = c.loop-at-test.true in
    let within = c.loop-at.invariant.within in
    stand_at c.args.store.now c.args.entries.now (c.loop-at.at + 8 - 1) _ c.requires.stand (omega (arith, test, within))

-- the last row of a stride is before the address, so all of it does
pub loop-at-preserved : goal.loop-at-preserved
loop-at-preserved c =
    let s = c.args.store.now in
    let es = c.args.entries.now in
    let rows = map (entry_row s) es in
    let a = address_of c.args.address.now.path.now (key_at c.args.address.now.is_group c.args.address.now.name.now) in
    let m = c.loop-at.at + 8 - 1 in
    let test = c.loop-at-test.true in
    let within = c.loop-at.invariant.within in
    let most : c.loop-at.at + 8 ≤ length es = omega (arith, test, within) in
    let h : m < length es = omega (arith, most) in
    let l : m < length rows = omega (arith, h, length-map es (entry_row s)) in
    let same : m + 1 ≡ c.loop-at.at + 8 = omega arith in
    let P : ℕ → Type 0 = λ n. AllBefore (take n rows) a in
    record {
      within = most;
      left = subst P same (left_grows rows a m _ c.requires.order l (row_here s es m _ h) (sym c.comes_before.ensures ∙ c.if-comes_before.true));
    }
