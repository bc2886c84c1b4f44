use Rattle.std.proofs.Common.{rules, arith, ◌≡◌, ◌+◌, ℕ, refl, sym, ap, subst, ◌∙◌, ◌++◌, ◌∷◌, ◌&&◌, [], List, map}
use Rattle.wc_text.specs.declared.names.Handle.{Handle}
use Rattle.wc_buffers.specs.Kept.{handles}
use Rattle.wc_model.specs.Order.{order}
use Rattle.wc_world.specs.Near.{numbers, all_numbers}
use Rattle.wc_world.proofs.NearLemmas.{order_handles}
use Rattle.wc_board.specs.declared.connection.Connection.{Connection}
use Rattle.wc_board.specs.Pushes.{pushed_connection, EachPushed, touched_number}
use Rattle.wc_board.proofs.ConnectionLemmas.{and_left, and_right}
use Rattle.wc_board.proofs.PushConnections.{AllThere, all_there, pushed_more, pushed_none, map_more, map_none, ConnectionsKept-refl, ConnectionsKept-trans}
use Rattle.wc_board.proofs.TouchCounts.{touched_more}
use Rattle.wc_board.proofs.PushEach.{each_more, each_map}
use Rattle.wc_board.proofs.PushedBytes.{pushed-sent}
use Rattle.wc_board.proofs.pushes.push_nicks.Goals as goal

pub push_group-pushed-requires : goal.push_group-pushed-requires
push_group-pushed-requires g c = c.nicks-held.ensures.held

pub loop-group-init : goal.loop-group-init
loop-group-init g c =
    let w = c.args.world.now in
    let all : c.into_iter-group-iterator.result ≡ handles w.groups = search rules in
    let order : all_numbers c.into_iter-group-iterator.result ≡ order w.groups = ap all_numbers all ∙ sym (order_handles w.groups) in
    record {
      told = λ t told are. ap (λ ns. map (pushed_connection w told ns) c.args.clients.now) order;
      each = λ told are final pushed. (let P : List ℕ → Type 0 = λ ns. EachPushed ns (pushed_connection w told ns) c.args.clients.now final in subst P order pushed);
      there = subst (AllThere w) (sym all) (all_there w);
      kept = ConnectionsKept-refl c.args.clients.now;
      clients = refl;
      once = (let same = ap (touched_number c.args.pending.now) order in omega (arith, same));
      idle = λ none. (refl, refl);
    }

pub loop-group-preserved : goal.loop-group-preserved
loop-group-preserved g c =
    let w = c.args.world.now in
    let connections = c.loop-group.clients in
    let group = c.in-Some.group.now in
    let rest = all_numbers c.next.new.self in
    let holds = c.loop-group.invariant in
    let pushed = c.push_group-pushed.ensures in
    let next : c.loop-group.group-iterator ≡ group ∷ c.next.new.self = search rules in
    let there = subst (AllThere w) next holds.there in
    record {
      told = λ both told are.
          ap (map (pushed_connection w told rest)) (pushed.told (and_right c.loop-group.told c.push_group-pushed.result both) there.0 told are)
          ∙ sym (map_more (pushed_connection w told (numbers group ++ rest)) (pushed_connection w told rest) (pushed_connection w told (numbers group)) (pushed_more w told (numbers group) rest) connections)
          ∙ ap (λ groups. map (pushed_connection w told (all_numbers groups)) connections) (sym next)
          ∙ holds.told (and_left c.loop-group.told c.push_group-pushed.result both) told are;
      each = λ told are final others.
          let P : List (List Handle) → Type 0 = λ groups. EachPushed (all_numbers groups) (pushed_connection w told (all_numbers groups)) connections final in
          holds.each told are final (subst P (sym next) (each_more w told (numbers group) rest connections c.push_group-pushed.new.clients final (pushed.each there.0 told are) others));
      there = there.1;
      kept = ConnectionsKept-trans c.args.clients.now connections c.push_group-pushed.new.clients holds.kept pushed.kept;
      clients = pushed.clients ∙ holds.clients;
      once =
          let pending = c.args.pending.now in
          let parts : touched_number pending (all_numbers c.loop-group.group-iterator) ≡ touched_number pending (numbers group) + touched_number pending rest = ap (λ groups. touched_number pending (all_numbers groups)) next ∙ touched_more pending (numbers group) rest in
          omega (arith, parts, pushed.once, holds.once);
      idle = λ none.
          let before = holds.idle none in
          let now = pushed.idle none in
          (ap (λ t. t && c.push_group-pushed.result) before.0 ∙ now.0, now.1 ∙ before.1);
    }

pub returns-clause-told : goal.returns-clause-told
returns-clause-told g c = λ t told are.
    let w = c.args.world.now in
    let connections = c.loop-group.clients in
    let end : c.loop-group.group-iterator ≡ [] = search rules in
    sym (map_none (pushed_connection w told []) (pushed_none w told) connections)
    ∙ ap (λ groups. map (pushed_connection w told (all_numbers groups)) connections) (sym end)
    ∙ c.loop-group.invariant.told t told are

pub returns-clause-each : goal.returns-clause-each
returns-clause-each g c = λ told are.
    let w = c.args.world.now in
    let connections = c.loop-group.clients in
    let end : c.loop-group.group-iterator ≡ [] = search rules in
    let P : List (List Handle) → Type 0 = λ groups. EachPushed (all_numbers groups) (pushed_connection w told (all_numbers groups)) connections connections in
    let Q : List Connection → Type 0 = λ final. EachPushed [] (pushed_connection w told []) connections final in
    c.loop-group.invariant.each told are connections (subst P (sym end) (subst Q (map_none (pushed_connection w told []) (pushed_none w told) connections) (each_map [] (pushed_connection w told []) connections)))

pub returns-clause-sent : goal.returns-clause-sent
returns-clause-sent g c = λ t told are. pushed-sent c.args.world.now told (order c.args.world.now.groups) c.args.clients.now c.loop-group.clients (returns-clause-told g c t told are)

pub returns-clause-once : goal.returns-clause-once
returns-clause-once g c = omega (arith, c.loop-group.invariant.once)
