use Rattle.std.proofs.Common.{ℕ, List, sym, subst}
use Rattle.wc_objects.specs.Spelling.{HasRoomFor, Puts}
use Rattle.wc_events.proofs.NickBytes.{diff_told}
use Rattle.wc_events.proofs.nick_bytes.put_diff.Goals as goal

pub put_told-requires : goal.put_told-requires
put_told-requires c =
    let same = diff_told c.args.buffer c.of_diff.result c.args.diff.now c.keys.result.now c.of_diff.ensures.mark c.of_diff.ensures.item c.keys.ensures in
    subst (λ (b : List ℕ). HasRoomFor c.args.out.now b) (sym same) c.requires

pub returns : goal.returns
returns c =
    let same = diff_told c.args.buffer c.of_diff.result c.args.diff.now c.keys.result.now c.of_diff.ensures.mark c.of_diff.ensures.item c.keys.ensures in
    subst (λ (b : List ℕ). Puts c.args.out.now c.put_told.new.out b) same c.put_told.ensures
