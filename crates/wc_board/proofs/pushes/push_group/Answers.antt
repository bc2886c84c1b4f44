use Rattle.std.proofs.Common.{◌≡◌, ◌+◌, arith, refl, sym, ap, subst, ◌∙◌, ◌∷◌, ◌&&◌, [], List, map, drop, get_or}
use Rattle.std.proofs.lemmas.List.{drop_more}
use Rattle.wc_text.specs.declared.names.Handle.{Handle}
use Rattle.wc_world.specs.Near.{numbers}
use Rattle.wc_board.specs.declared.connection.Connection.{Connection}
use Rattle.wc_board.specs.Pushes.{AreThere, push_of, push_connection, pushed_connection, EachPushed, touched_number}
use Rattle.wc_board.proofs.ConnectionLemmas.{and_left, and_right}
use Rattle.wc_board.proofs.PushConnections.{pushed_first, pushed_none, map_more, map_none, drop_end, ConnectionsKept-refl, ConnectionsKept-trans}
use Rattle.wc_board.proofs.TouchCounts.{touched_first}
use Rattle.wc_board.proofs.PushEach.{each_first, each_map}
use Rattle.wc_board.proofs.pushes.push_group.Goals as goal

pub loop-buffer-init : goal.loop-buffer-init
loop-buffer-init g c = record { told = λ t there told are. refl; each = λ there told are final pushed. pushed; there = λ there. there; kept = ConnectionsKept-refl c.args.clients.now; clients = refl; once = omega arith; idle = λ none. (refl, refl) }

pub loop-buffer-preserved : goal.loop-buffer-preserved
loop-buffer-preserved g c =
    let w = c.args.world.now in
    let group = c.args.group.now in
    let i = c.loop-buffer.buffer-index in
    let connections = c.loop-buffer.clients in
    let holds = c.loop-buffer.invariant in
    let pushed = c.push_buffer-pushed.ensures in
    let h : Handle = get_or group i (record { 0 = 0 }) in
    let rest = numbers (drop (i + 1) group) in
    let next : drop i group ≡ h ∷ drop (i + 1) group = drop_more group i (record { 0 = 0 }) c.loop-buffer-test.true in
    record {
      told = λ both there told are.
          ap (map (pushed_connection w told rest)) (pushed.told (and_right c.loop-buffer.told c.push_buffer-pushed.result both) (subst (AreThere w) next (holds.there there)).0 (told h.0) (are h))
          ∙ sym (map_more (pushed_connection w told (h.0 ∷ rest)) (pushed_connection w told rest) (push_connection h (push_of w h.0 (told h.0))) (pushed_first w told h rest) connections)
          ∙ ap (λ hs. map (pushed_connection w told (numbers hs)) connections) (sym next)
          ∙ holds.told (and_left c.loop-buffer.told c.push_buffer-pushed.result both) there told are;
      each = λ there told are final others.
          let P : List Handle → Type 0 = λ hs. EachPushed (numbers hs) (pushed_connection w told (numbers hs)) connections final in
          holds.each there told are final
          (subst P (sym next) (each_first w told h rest connections c.push_buffer-pushed.new.clients final (pushed.each (subst (AreThere w) next (holds.there there)).0 (told h.0) (are h)) others));
      there = λ there. (subst (AreThere w) next (holds.there there)).1;
      kept = ConnectionsKept-trans c.args.clients.now connections c.push_buffer-pushed.new.clients holds.kept pushed.kept;
      clients = pushed.clients ∙ holds.clients;
      once =
          let pending = c.args.pending.now in
          let parts : touched_number pending (numbers (drop i group)) ≡ touched_number pending (h.0 ∷ []) + touched_number pending rest = ap (λ hs. touched_number pending (numbers hs)) next ∙ touched_first pending h.0 rest in
          omega (arith, parts, pushed.once, holds.once);
      idle = λ none.
          let before = holds.idle none in
          let now = pushed.idle (none h) in
          (ap (λ t. t && c.push_buffer-pushed.result) before.0 ∙ now.0, now.1 ∙ before.1);
    }

pub returns-clause-told : goal.returns-clause-told
returns-clause-told g c = λ t there told are.
    let w = c.args.world.now in
    let connections = c.loop-buffer.clients in
    let end : drop c.loop-buffer.buffer-index c.args.group.now ≡ [] = drop_end c.loop-buffer.buffer-index c.args.group.now (omega arith) in
    sym (map_none (pushed_connection w told []) (pushed_none w told) connections)
    ∙ ap (λ hs. map (pushed_connection w told (numbers hs)) connections) (sym end)
    ∙ c.loop-buffer.invariant.told t there told are

pub returns-clause-each : goal.returns-clause-each
returns-clause-each g c = λ there told are.
    let w = c.args.world.now in
    let connections = c.loop-buffer.clients in
    let end : drop c.loop-buffer.buffer-index c.args.group.now ≡ [] = drop_end c.loop-buffer.buffer-index c.args.group.now (omega arith) in
    let P : List Handle → Type 0 = λ hs. EachPushed (numbers hs) (pushed_connection w told (numbers hs)) connections connections in
    let Q : List Connection → Type 0 = λ final. EachPushed [] (pushed_connection w told []) connections final in
    c.loop-buffer.invariant.each there told are connections (subst P (sym end) (subst Q (map_none (pushed_connection w told []) (pushed_none w told) connections) (each_map [] (pushed_connection w told []) connections)))

pub returns-clause-once : goal.returns-clause-once
returns-clause-once g c = omega (arith, c.loop-buffer.invariant.once)
