use Rattle.std.proofs.Common.{◌≡◌, ◌<◌, ◌-◌, true, false, refl, arith}
use Rattle.std.specs.List.{slice_get}
use Rattle.wc_view.specs.NickLists.{comes_after}
use Rattle.wc_view.proofs.NickListing.{group_without_level, group_too_far, group_in_front}
use Rattle.wc_view.proofs.nick_list.Listing.depth_of.Goals as goal

pub returns-then-group-eq0-clause-none : goal.returns-then-group-eq0-clause-none
returns-then-group-eq0-clause-none c = group_without_level c.args.self.now c.requires.listing c.args.group.now c.requires.kind c.if-group-eq0.true

pub returns-then-depth-len-clause-none : goal.returns-then-depth-len-clause-none
returns-then-depth-len-clause-none c = group_too_far c.args.self.now c.requires.listing c.args.group.now c.requires.kind (omega (arith, c.if-depth-len.true, c.len.ensures))

pub returns-then-not-comes_after-clause-none : goal.returns-then-not-comes_after-clause-none
returns-then-not-comes_after-clause-none c =
    let l = c.args.self.now in
    let b : comes_after (slice_get l.path.items (c.args.group.now.level - 1)) c.args.group.now.name ≡ false = cc (c.comes_after.ensures, c.sibling_at.ensures, c.deref.ensures.value, c.as_slice.ensures, c.if-not-comes_after.true) in
    group_in_front l c.requires.listing c.args.group.now c.requires.kind (omega (arith, c.if-depth-len.false, c.len.ensures)) b

pub returns-clause-some : goal.returns-clause-some
returns-clause-some c =
    let l = c.args.self.now in
    let b : comes_after (slice_get l.path.items (c.args.group.now.level - 1)) c.args.group.now.name ≡ true = cc (c.comes_after.ensures, c.sibling_at.ensures, c.deref.ensures.value, c.as_slice.ensures, c.if-not-comes_after.false) in
    record { level = refl; some = omega arith; deep = omega (arith, c.if-depth-len.false, c.len.ensures); after = b }
