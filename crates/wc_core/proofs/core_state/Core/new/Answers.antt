use Rattle.std.proofs.Common.{true, false, List, [], None, ap, sym, subst, ◌∙◌}
use Rattle.std.specs.Prelude.{map, string_bytes}
use Rattle.wc_filters.specs.declared.filter.Filter.{Filter}
use Rattle.wc_hotlist.specs.declared.row.HotRow.{HotRow}
use Rattle.wc_board.specs.BoardView.{BoardView, first_board}
use Rattle.wc_servers.specs.Seats.{ServersView, no_servers}
use Rattle.wc_core.specs.CoreView.{CoreView}
use Rattle.wc_core.specs.Limits.{most_lines}
use Rattle.wc_core.specs.State.{first_state}
use Rattle.wc_core.specs.Served.{Means}
use Rattle.wc_core.proofs.PushLemmas.{first-means}
use Rattle.wc_core.proofs.core_state.Core.new.Goals as goal

pub returns-clause-means : goal.returns-clause-means
returns-clause-means c = λ oracle.
    let limit = most_lines c.args.options in
    let commands = map string_bytes c.args.commands.items in
    let of : BoardView → List HotRow → List Filter → ServersView → CoreView = λ board hotlist filters servers. record {
      options = c.args.options;
      world = board.world;
      pending = board.pending;
      connections = board.connections;
      moment = 0;
      commands = commands;
      saved = None;
      unwritten = false;
      hotlist = hotlist;
      filters = filters;
      servers = servers;
      verdicts = c.in_ok-made.made.rules.verdicts;
      connects = true;
      starved = 0;
      cuts = 0;
      quits = false;
    } in
    let P : BoardView → Type 0 = λ board. Means (of board [] [] no_servers) (first_state oracle c.args.options limit commands) in
    let Q : ServersView → Type 0 = λ servers. Means (of c.in_ok-made.made.board c.in_ok-made.made.hotlist c.in_ok-made.made.rules.filters servers) (first_state oracle c.args.options limit commands) in
    let R : List HotRow → Type 0 = λ rows. Means (of c.in_ok-made.made.board rows [] no_servers) (first_state oracle c.args.options limit commands) in
    let S : List Filter → Type 0 = λ filters. Means (of c.in_ok-made.made.board c.in_ok-made.made.hotlist filters no_servers) (first_state oracle c.args.options limit commands) in
    subst Q (sym c.new-2.ensures) (subst S (sym c.in_ok-made.ensures.filters) (subst R (sym c.in_ok-made.ensures.hotlist) (subst P (sym (c.in_ok-made.ensures.board ∙ ap first_board c.most_lines.ensures.number)) (first-means oracle c.in_ok-made.made.rules.verdicts c.args.options limit commands 0 0 false))))
