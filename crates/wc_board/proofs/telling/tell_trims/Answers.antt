use Rattle.std.proofs.Common.{◌≡◌, ◌+◌, ◌≤◌, arith, refl, sym, ap, subst, ◌∙◌, ◌∷◌, [], List, map, drop, get_or}
use Rattle.std.proofs.lemmas.List.{drop_more, drop_all}
use Rattle.wc_model.specs.declared.notice.Notice.{Notice}
use Rattle.wc_model.specs.declared.notice.Trim.{Trim}
use Rattle.wc_model.specs.Parts.{trim_part}
use Rattle.wc_model.specs.World.{first_world}
use Rattle.wc_board.specs.Served.{PartsServed, heard_number}
use Rattle.wc_board.proofs.ConnectionLemmas.{and_left, and_right}
use Rattle.wc_board.proofs.HeardCounts.{heard_fewer, heard_more}
use Rattle.wc_board.proofs.PartLemmas.{parts_connection, parts_first}
use Rattle.wc_board.proofs.PushConnections.{map_none}
use Rattle.wc_board.proofs.telling.tell_trims.Goals as goal

pub loop-trim-init : goal.loop-trim-init
loop-trim-init g c = record { told = λ t w. refl; each = λ w final served. served; least = omega arith; once = omega arith }

pub loop-trim-preserved : goal.loop-trim-preserved
loop-trim-preserved g c =
    let trims = c.args.trims.now in
    let i = c.loop-trim.trim-index in
    let connections = c.loop-trim.clients in
    let holds = c.loop-trim.invariant in
    let told = c.tell_trim-trim_told.ensures in
    let trim : Trim = get_or trims i (record { buffer = record { 0 = 0 }; count = 0 }) in
    let part : Notice = trim_part trim in
    let rest = map trim_part (drop (i + 1) trims) in
    let next : drop i trims ≡ trim ∷ drop (i + 1) trims = drop_more trims i (record { buffer = record { 0 = 0 }; count = 0 }) c.loop-trim-test.true in
    record {
      told = λ both w.
          ap (map (parts_connection w rest)) (told.told (and_right c.loop-trim.told c.tell_trim-trim_told.result both) w)
          ∙ sym (parts_first w part rest connections)
          ∙ ap (λ ts. map (parts_connection w (map trim_part ts)) connections) (sym next)
          ∙ holds.told (and_left c.loop-trim.told c.tell_trim-trim_told.result both) w;
      each = λ w final others.
          let P : List Trim → Type 0 = λ ts. PartsServed w (map trim_part ts) connections final in
          holds.each w final (subst P (sym next) (record { between = c.tell_trim-trim_told.new.clients; served = told.each w; others = others }));
      least = omega (arith, holds.least, told.count);
      once =
          let parts : heard_number connections (map trim_part (drop i trims)) ≡ heard_number connections (part ∷ []) + heard_number connections rest = ap (λ ts. heard_number connections (map trim_part ts)) next ∙ heard_more connections part rest in
          let fewer : heard_number c.tell_trim-trim_told.new.clients rest ≤ heard_number connections rest = heard_fewer (first_world 1) part rest connections c.tell_trim-trim_told.new.clients (told.each (first_world 1)) in
          omega (arith, parts, fewer, told.count, holds.once);
    }

pub returns-clause-told : goal.returns-clause-told
returns-clause-told g c = λ t w.
    let connections = c.loop-trim.clients in
    let end : drop c.loop-trim.trim-index c.args.trims.now ≡ [] = drop_all c.loop-trim.trim-index c.args.trims.now (omega arith) in
    sym (map_none (parts_connection w []) (λ s. refl) connections)
    ∙ ap (λ ts. map (parts_connection w (map trim_part ts)) connections) (sym end)
    ∙ c.loop-trim.invariant.told t w

pub returns-clause-each : goal.returns-clause-each
returns-clause-each g c = λ w.
    let connections = c.loop-trim.clients in
    let end : drop c.loop-trim.trim-index c.args.trims.now ≡ [] = drop_all c.loop-trim.trim-index c.args.trims.now (omega arith) in
    let P : List Trim → Type 0 = λ ts. PartsServed w (map trim_part ts) connections connections in
    c.loop-trim.invariant.each w connections (subst P (sym end) refl)

pub returns-clause-least : goal.returns-clause-least
returns-clause-least g c = omega (arith, c.loop-trim.invariant.least)

pub returns-clause-once : goal.returns-clause-once
returns-clause-once g c = omega (arith, c.loop-trim.invariant.once)
