use Rattle.std.proofs.Common.{ℕ, List, sym, subst}
use Rattle.wc_nickdiff.specs.NickPush.{root_item}
use Rattle.wc_objects.specs.Spelling.{HasRoomFor, Puts}
use Rattle.wc_events.proofs.NickBytes.{list_told}
use Rattle.wc_events.proofs.nick_bytes.put_root.Goals as goal

pub put_told-requires : goal.put_told-requires
put_told-requires c =
    let same = list_told c.args.buffer c.root.result (root_item c.args.root) c.keys.result.now c.root.ensures.mark c.root.ensures.item c.keys.ensures in
    subst (λ (b : List ℕ). HasRoomFor c.args.out.now b) (sym same) c.requires

pub returns : goal.returns
returns c =
    let same = list_told c.args.buffer c.root.result (root_item c.args.root) c.keys.result.now c.root.ensures.mark c.root.ensures.item c.keys.ensures in
    subst (λ (b : List ℕ). Puts c.args.out.now c.put_told.new.out b) same c.put_told.ensures
