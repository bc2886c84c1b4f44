use Rattle.std.proofs.Common.{◌≡◌, ◌+◌, ◌-◌, ◌<◌, ◌≤◌, suc, true, false, refl, ap, sym, subst, ◌∙◌, arith, length, length-set, get_or, set}
use Rattle.std.proofs.lemmas.List.{get_or_default}
use Rattle.wc_hooks.specs.declared.entry.HookId.{HookId}
use Rattle.wc_hooks.specs.Table.{Table, IsOpen}
use Rattle.wc_board.specs.Connections.{is_open}
use Rattle.wc_board.specs.RelayPass.{IsPassAt, IsGivenAt}
use Rattle.wc_board.specs.Services.{kind_of, buffer_of, serve_connection}
use Rattle.wc_board.proofs.ConnectionLemmas.{element, served_by, served_next, served_whole, serve_more, pass_more, passed_next, whole_told}
use Rattle.wc_board.proofs.EventLemmas.{serve_shut}
use Rattle.wc_board.proofs.PassLemmas.{given_next, turn_is, passed_over, turn_over, turn_open, turn_drawn, all_over}
use Rattle.wc_board.proofs.relay_pass.serve_pass.Goals as goal

pub loop-place-init : goal.loop-place-init
loop-place-init g c = record {
  pass = given_next c.args.hooks.now c.next-given.new.self c.args.pass.now _ c.args.ids.now 0 c.args.connections.now.items c.next-given.result c.requires.opened c.requires.place c.next-given.ensures.given c.next-given.ensures.after;
  told = λ told. refl;
  each = refl;
  length = refl;
  drawn = ap (λ (t : Table). t.hooked) c.next-given.ensures.after;
  here = c.next-given.ensures.pass;
}

pub loop-place-preserved-then-not-is_given : goal.loop-place-preserved-then-not-is_given
loop-place-preserved-then-not-is_given g c =
    let old = c.args.connections.now.items in
    let now = c.loop-place.connections.items in
    let i = c.loop-place.place in
    let ids = c.args.ids.now in
    let service = c.args.service.now in
    let holds = c.loop-place.invariant in
    let all = c.args.connections.now.ok.0 in
    let each : length ids ≡ length now = c.requires.each ∙ sym holds.length in
    let inside : i < length now = omega (arith, all, holds.length) in
    let before : i < length old = omega (arith, inside, holds.length) in
    let within : i < length ids = omega (arith, inside, each) in
    let id : HookId = get_or ids i (record { 0 = 0 }) in
    let of : id ≡ get_or ids i id = get_or_default ids i (record { 0 = 0 }) id within in
    let one = element now i inside in
    let shut : is_open one.0 ≡ false = sym (turn_is 0 _ ids now i id one.0 c.loop-place.given _ c.requires.rising each within of one.1 holds.pass.first) ∙ sym c.is_given.ensures ∙ c.if-not-is_given.true in
    let same = serve_shut service one.0 shut in
    let next : suc i ≡ i + 1 = omega arith in
    record {
      pass = subst (λ n. IsGivenAt c.loop-place.hooks ids n now c.loop-place.given) next (passed_over c.loop-place.hooks ids i now c.loop-place.given one.0 holds.pass each within one.1 shut);
      told = λ told. pass_more (serve_connection service) old now i (i + 1) one.0 c.loop-place.told refl one.1 holds.told same before told;
      each = passed_next (kind_of service) (buffer_of service) (serve_connection service) i (i + 1) old now one.0 (omega arith) holds.each inside one.1 same;
      length = holds.length;
      drawn = holds.drawn;
      here = holds.here;
    }

pub next-given-requires-in-loop-place : goal.next-given-requires-in-loop-place
next-given-requires-in-loop-place g c =
    let here : c.loop-place.pass ≡ 16 = c.loop-place.invariant.here ∙ c.requires.place in
    subst (λ n. IsOpen c.run_entry-stays.new.hooks n) (sym here) (turn_open c.loop-place.hooks c.run_entry-stays.new.hooks _ c.run_entry-stays.result 16 c.run_entry-stays.ensures.hooks c.loop-place.invariant.pass.is_open)

pub loop-place-preserved : goal.loop-place-preserved
loop-place-preserved g c =
    let old = c.args.connections.now.items in
    let now = c.loop-place.connections.items in
    let i = c.loop-place.place in
    let ids = c.args.ids.now in
    let service = c.args.service.now in
    let holds = c.loop-place.invariant in
    let ran = c.run_entry-stays.ensures in
    let x = c.index_mut.result.now in
    let y = c.run_entry-stays.new.connection in
    let all = c.args.connections.now.ok.0 in
    let each : length ids ≡ length now = c.requires.each ∙ sym holds.length in
    let inside : i < length now = omega (arith, all, holds.length) in
    let before : i < length old = omega (arith, inside, holds.length) in
    let within : i < length ids = omega (arith, inside, each) in
    let at : x ≡ get_or now i x = c.index_mut.ensures.value in
    let id : HookId = get_or ids i (record { 0 = 0 }) in
    let of : id ≡ get_or ids i id = get_or_default ids i (record { 0 = 0 }) id within in
    let is = sym c.is_given.ensures ∙ c.if-not-is_given.false in
    let next : suc i ≡ i + 1 = omega arith in
    let over = turn_over c.loop-place.hooks c.run_entry-stays.new.hooks ids _ i now c.loop-place.given id x y c.run_entry-stays.result holds.pass c.requires.rising each within of at is ran.hooks ran.stays ran.shut ran.link in
    let over_next = subst (λ n. IsPassAt c.run_entry-stays.new.hooks ids n (set now i y)) next over in
    let here : c.loop-place.pass ≡ 16 = holds.here ∙ c.requires.place in
    record {
      pass = given_next c.run_entry-stays.new.hooks c.next-given-in-loop-place.new.self c.loop-place.pass _ ids (i + 1) (set now i y) c.next-given-in-loop-place.result over_next here c.next-given-in-loop-place.ensures.given c.next-given-in-loop-place.ensures.after;
      told = λ both. serve_more (serve_connection service) old now i (i + 1) x y c.loop-place.told c.run_entry-stays.result refl at holds.told ran.served before both;
      each = served_next (kind_of service) (buffer_of service) (serve_connection service) i (i + 1) old now x y (omega arith) holds.each inside at (served_by (kind_of service) (buffer_of service) (serve_connection service) x y c.run_entry-stays.result ran.served ran.starved);
      length = length-set now i y ∙ holds.length;
      drawn = ap (λ (t : Table). t.hooked) c.next-given-in-loop-place.ensures.after ∙ turn_drawn c.loop-place.hooks c.run_entry-stays.new.hooks id c.run_entry-stays.result ran.hooks ∙ holds.drawn;
      here = c.next-given-in-loop-place.ensures.pass ∙ holds.here;
    }

pub returns-clause-told : goal.returns-clause-told
returns-clause-told g c = λ told.
    let past : length c.args.connections.now.items ≤ c.loop-place.place = omega (arith, c.args.connections.now.ok.0) in
    whole_told (serve_connection c.args.service.now) c.args.connections.now.items c.loop-place.connections.items c.loop-place.place past (c.loop-place.invariant.told told)

pub returns-clause-marks : goal.returns-clause-marks
returns-clause-marks g c = all_over c.loop-place.hooks c.args.ids.now c.loop-place.place c.loop-place.connections.items c.loop-place.given c.loop-place.invariant.pass (omega (arith, c.args.connections.now.ok.0, c.requires.each))

pub returns-clause-each : goal.returns-clause-each
returns-clause-each g c =
    let past : length c.args.connections.now.items ≤ c.loop-place.place = omega (arith, c.args.connections.now.ok.0) in
    served_whole (kind_of c.args.service.now) (buffer_of c.args.service.now) (serve_connection c.args.service.now) c.loop-place.place c.args.connections.now.items c.loop-place.connections.items past c.loop-place.invariant.each
