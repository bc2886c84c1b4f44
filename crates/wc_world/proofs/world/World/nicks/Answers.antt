use Rattle.std.proofs.Common.{◌≡◌, ◌∙◌, option_map, is_some, ap, sym, subst}
use Rattle.std.specs.FinMap.{get}
use Rattle.wc_buffers.specs.Calls.{is_there}
use Rattle.wc_nicklist.specs.Rows.{Nicks, IsRows}
use Rattle.wc_model.specs.World.{World, rows_at, root_at}
use Rattle.wc_world.specs.Nicks.{list_at, AreCut}
use Rattle.wc_world.proofs.NickLemmas.{get_rows, rows_listed, lent_list, all_held}
use Rattle.wc_world.proofs.world.World.nicks.Goals as goal

pub returns : goal.returns
returns c =
    let h = c.args.h.0 in
    let lent = lent_list c.get.result (list_at c.self.inside.nicks h) in
    record {
      there = ap is_some c.get.ensures.value ∙ c.self.invariant.1.stored h ∙ ap (λ (v : World). is_there c.args.h v.groups) c.self.view_is;
      stored = ap (option_map (λ (x : Nicks). x.rows)) c.get.ensures.value ∙ sym (get_rows c.self.inside.nicks h) ∙ ap (λ (v : World). get v.nicks h) c.self.view_is;
      rows = lent (λ x. x.rows ≡ rows_at c.args.self.now h) c.get.ensures.value (λ x e. sym (rows_listed c.self.inside.nicks h x e) ∙ ap (λ (v : World). rows_at v h) c.self.view_is);
      root = lent (λ x. x.root ≡ root_at h) c.get.ensures.value (λ x e. (c.self.invariant.1.fit h x e).rooted);
      held = λ b. subst IsRows (ap (λ (v : World). rows_at v b) c.self.view_is) (all_held c.self.inside.buffers c.self.inside.nicks c.self.inside.row_count c.self.invariant.1 b);
      cut = lent (λ x. AreCut x.rows) c.get.ensures.value (λ x e. (c.self.invariant.1.fit h x e).cut);
    }
