use Rattle.std.proofs.Common.{arith}
use Rattle.wc_board.proofs.FlagLemmas.{whole_told}
use Rattle.wc_board.proofs.telling.tell_notice.Goals as goal

pub returns-clause-told : goal.returns-clause-told
returns-clause-told g c =
    let w = c.args.world.now in
    let own = c.tell_own-own_told.ensures in
    let flags = c.tell_flags-flags_told.ensures in
    let trims = rw c.as_slice.ensures at c.tell_trims-trims_told.ensures in
    (whole_told w c.args.notice.now own.told own.each own.count flags.told flags.each flags.least flags.once (λ told. trims.told told w) (trims.each w) trims.least trims.once).told

pub returns-clause-each : goal.returns-clause-each
returns-clause-each g c =
    let w = c.args.world.now in
    let own = c.tell_own-own_told.ensures in
    let flags = c.tell_flags-flags_told.ensures in
    let trims = rw c.as_slice.ensures at c.tell_trims-trims_told.ensures in
    (whole_told w c.args.notice.now own.told own.each own.count flags.told flags.each flags.least flags.once (λ told. trims.told told w) (trims.each w) trims.least trims.once).each

pub returns-clause-once : goal.returns-clause-once
returns-clause-once g c =
    let w = c.args.world.now in
    let own = c.tell_own-own_told.ensures in
    let flags = c.tell_flags-flags_told.ensures in
    let trims = rw c.as_slice.ensures at c.tell_trims-trims_told.ensures in
    (whole_told w c.args.notice.now own.told own.each own.count flags.told flags.each flags.least flags.once (λ told. trims.told told w) (trims.each w) trims.least trims.once).once

pub returns-clause-none : goal.returns-clause-none
returns-clause-none g c = λ none.
    let most = returns-clause-once g c in
    let own = c.tell_own-own_told.ensures.count in
    let flags = c.tell_flags-flags_told.ensures.least in
    let trims = c.tell_trims-trims_told.ensures.least in
    omega (arith, none, most, own, flags, trims)
