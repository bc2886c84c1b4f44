use Rattle.std.proofs.Common.{◌≡◌, sym, ap, ◌∙◌}
use Rattle.std.specs.Prelude.{is_some}
use Rattle.wc_nicklist.specs.Rows.{path_below}
use Rattle.wc_nicklist.proofs.Keeps.{parent_root, parent_group, room_parent}
use Rattle.wc_nicklist.proofs.nicklist.Nicklist.has_parent.Goals as goal

pub returns-then-is_root : goal.returns-then-is_root
returns-then-is_root c = record {
  exact = c.if-is_root.true ∙ parent_root c.args.name.now c.args.self.now.rows (sym c.is_root.ensures ∙ c.if-is_root.true);
  room = λ _. c.if-is_root.true;
}

pub returns-else-is_root : goal.returns-else-is_root
returns-else-is_root c =
    let p = c.args.name.now in
    let exact : c.has.result ≡ is_some (path_below p c.args.self.now.rows) = c.has.ensures ∙ parent_group p c.args.self.now.rows (sym c.is_root.ensures ∙ c.if-is_root.false) in
    record {
      exact = exact;
      room = λ r. exact ∙ ap (λ s. is_some (path_below p s.rows)) (sym c.self.view_is) ∙ room_parent c.self.inside.rows c.self.inside.index c.self.inside.room p c.self.invariant.prepared (ap (λ s. s.room) c.self.view_is ∙ r);
    }
