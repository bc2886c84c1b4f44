use Rattle.std.proofs.Common.{◌≡◌, Some, sym, ap, ◌∙◌}
use Rattle.std.specs.Prelude.{is_some}
use Rattle.wc_nicklist.specs.Index.{id_in}
use Rattle.wc_nicklist.specs.Order.{key_at}
use Rattle.wc_nicklist.proofs.Keeps.{id_row}
use Rattle.wc_nicklist.proofs.nicklist.Nicklist.stored.Goals as goal

pub get-requires : goal.get-requires
get-requires c =
    let k = key_at c.args.is_group c.args.name.now in
    let e : id_in c.self.inside.index k ≡ Some c.in_ok-id.id = sym c.find.ensures ∙ c.in_ok-id.was in
    ap is_some (id_row c.self.inside.rows c.self.inside.index k c.in_ok-id.id c.self.invariant.indexed e).1
