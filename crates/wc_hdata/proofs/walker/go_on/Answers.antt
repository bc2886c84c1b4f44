use Rattle.std.proofs.Common.{◌≡◌, ◌<◌, ◌≤◌, ◌+◌, ◌++◌, ◌∷◌, [], length, arith, length-append, subst, sym, ap, ◌∙◌}
use Rattle.std.proofs.Common.{set, length-set}
use Rattle.wc_buffers.specs.Calls.{EntryGroups}
use Rattle.wc_model.specs.World.{World}
use Rattle.wc_hdata.specs.declared.count.Count.TheVariants.{One}
use Rattle.wc_hdata.specs.declared.variable.Variable.TheVariants.{OwnLines}
use Rattle.wc_hdata.specs.Depth.{nodes_left, turns_left}
use Rattle.wc_hdata.specs.Reached.{Data_at, held_line, place_of}
use Rattle.wc_hdata.specs.Walk.{pointer_of}
use Rattle.wc_hdata.proofs.DepthLemmas.{kept_top, one_more, turns_back, turns_given, turns_on, walk_back, walk_given, walk_more, walk_on, walk_one, walk_rest}
use Rattle.wc_hdata.proofs.walker.go_on.Goals as goal

pub returns-in_default-clause-given : goal.returns-in_default-clause-given
returns-in_default-clause-given c =
    walk_back c.args.lists.now.world c.args.steps.now c.args.pointers.now c.args.open.now.items c.args.top c.in_default.ensures.0

pub returns-in_default-clause-turned : goal.returns-in_default-clause-turned
returns-in_default-clause-turned c =
    turns_back c.args.lists.now.world c.args.steps.now c.args.open.now.items c.args.top

pub reach-requires-clause-kept : goal.reach-requires-clause-kept
reach-requires-clause-kept c =
    (kept_top c.args.lists.now c.args.open.now.items c.args.top c.next.new.self (place_of c.in-Some.place) c.requires.kept c.in-Some.ensures).0

pub returns-then-level-steps-clause-kept : goal.returns-then-level-steps-clause-kept
returns-then-level-steps-clause-kept c =
    (kept_top c.args.lists.now c.args.open.now.items c.args.top c.next.new.self (place_of c.in-Some.place) c.requires.kept c.in-Some.ensures).0

pub returns-then-level-steps-clause-walk : goal.returns-then-level-steps-clause-walk
returns-then-level-steps-clause-walk c =
    walk_rest c.args.lists.now c.args.steps.now (length c.args.pointers.now) (length c.put.new.self) c.args.open.now.items c.push_reserved.new.self.items c.args.top c.next.new.self (place_of c.in-Some.place) _ _ c.requires (ap length c.put.ensures ∙ length-set c.args.pointers.now c.len-level.result c.pointer_of.result) c.in-Some.ensures c.push_reserved.ensures.items c.push_reserved.ensures.capacity

pub returns-then-level-steps-clause-given : goal.returns-then-level-steps-clause-given
returns-then-level-steps-clause-given c =
    let deep : c.len-level.result ≡ length c.args.open.now.items = omega (arith, c.len-level.ensures) in
    let are = c.requires.pointers_are in
    let have = c.requires.pointers_all in
    let all : length c.args.pointers.now ≡ length c.args.steps.now + 1 = omega (arith, are, have) in
    let last : c.len-level.result ≡ length c.args.steps.now = omega (arith, c.if-level-steps.true) in
    subst (λ items. nodes_left c.args.lists.now.world c.args.steps.now c.args.pointers.now 0 (c.args.open.now.items ++ c.args.top ∷ []) ≡ record { pointers = c.put.new.self; place = (place_of c.in-Some.place) } ∷ nodes_left c.args.lists.now.world c.args.steps.now c.put.new.self 0 items) (sym c.push_reserved.ensures.items) (walk_given c.args.lists.now.world c.args.steps.now c.args.pointers.now c.put.new.self c.args.open.now.items c.args.top c.next.new.self (place_of c.in-Some.place) c.len-level.result c.in-Some.ensures deep all (c.put.ensures ∙ ap (set c.args.pointers.now c.len-level.result) (c.pointer_of.ensures ∙ ap (λ (groups : EntryGroups). pointer_of groups (place_of c.in-Some.place)) (c.buffers.ensures ∙ ap (λ (world : World). world.groups) c.world.ensures))) last)

pub returns-then-level-steps-clause-turned : goal.returns-then-level-steps-clause-turned
returns-then-level-steps-clause-turned c =
    let deep : c.len-level.result ≡ length c.args.open.now.items = omega (arith, c.len-level.ensures) in
    let are = c.requires.pointers_are in
    let have = c.requires.pointers_all in
    let all : length c.args.pointers.now ≡ length c.args.steps.now + 1 = omega (arith, are, have) in
    let last : c.len-level.result ≡ length c.args.steps.now = omega (arith, c.if-level-steps.true) in
    subst (λ items. turns_left c.args.lists.now.world c.args.steps.now 0 items < turns_left c.args.lists.now.world c.args.steps.now 0 (c.args.open.now.items ++ c.args.top ∷ [])) (sym c.push_reserved.ensures.items) (turns_given c.args.lists.now.world c.args.steps.now c.args.open.now.items c.args.top c.next.new.self (place_of c.in-Some.place) c.len-level.result c.in-Some.ensures deep last)

pub returns-clause-walk : goal.returns-clause-walk
returns-clause-walk c =
    let deep : c.len-level.result ≡ length c.args.open.now.items = omega (arith, c.len-level.ensures) in
    let are = c.requires.pointers_are in
    let have = c.requires.pointers_all in
    let all : length c.args.pointers.now ≡ length c.args.steps.now + 1 = omega (arith, are, have) in
    let inside : c.len-level.result < length c.args.steps.now = (let size = length-append c.args.open.now.items (c.args.top ∷ []) in let most = c.requires.deep in let other = c.if-level-steps.false in omega (arith, size, deep, most, other)) in
    let size = one_more c.args.open.now.items c.push_reserved.new.self.items c.next.new.self c.push_reserved.ensures.items in
    let le : length c.push_reserved.new.self.items ≤ length c.args.steps.now = omega (arith, size, deep, inside) in
    walk_more c.args.lists.now c.args.steps.now (length c.put.new.self) c.push_reserved.new.self.items c.push_reserved-2.new.self.items c.reach.result _ _ (walk_rest c.args.lists.now c.args.steps.now (length c.args.pointers.now) (length c.put.new.self) c.args.open.now.items c.push_reserved.new.self.items c.args.top c.next.new.self (place_of c.in-Some.place) _ _ c.requires (ap length c.put.ensures ∙ length-set c.args.pointers.now c.len-level.result c.pointer_of.result) c.in-Some.ensures c.push_reserved.ensures.items c.push_reserved.ensures.capacity) le c.reach.ensures.kept c.push_reserved-2.ensures.items c.push_reserved-2.ensures.capacity

pub returns-clause-given : goal.returns-clause-given
returns-clause-given c =
    let deep : c.len-level.result ≡ length c.args.open.now.items = omega (arith, c.len-level.ensures) in
    let are = c.requires.pointers_are in
    let have = c.requires.pointers_all in
    let all : length c.args.pointers.now ≡ length c.args.steps.now + 1 = omega (arith, are, have) in
    let inside : c.len-level.result < length c.args.steps.now = (let size = length-append c.args.open.now.items (c.args.top ∷ []) in let most = c.requires.deep in let other = c.if-level-steps.false in omega (arith, size, deep, most, other)) in
    subst (λ items. nodes_left c.args.lists.now.world c.args.steps.now c.args.pointers.now 0 (c.args.open.now.items ++ c.args.top ∷ []) ≡ nodes_left c.args.lists.now.world c.args.steps.now c.put.new.self 0 items) (sym (c.push_reserved-2.ensures.items ∙ ap (λ l. l ++ c.reach.result ∷ []) c.push_reserved.ensures.items)) (walk_on c.args.lists.now.world c.args.steps.now c.args.pointers.now c.put.new.self c.args.open.now.items c.args.top c.next.new.self (place_of c.in-Some.place) c.len-level.result c.in-Some.ensures deep all (c.put.ensures ∙ ap (set c.args.pointers.now c.len-level.result) (c.pointer_of.ensures ∙ ap (λ (groups : EntryGroups). pointer_of groups (place_of c.in-Some.place)) (c.buffers.ensures ∙ ap (λ (world : World). world.groups) c.world.ensures))) c.reach.result (record { variable = OwnLines; count = One }) inside c.reach.ensures.places)

pub returns-clause-turned : goal.returns-clause-turned
returns-clause-turned c =
    let deep : c.len-level.result ≡ length c.args.open.now.items = omega (arith, c.len-level.ensures) in
    let are = c.requires.pointers_are in
    let have = c.requires.pointers_all in
    let all : length c.args.pointers.now ≡ length c.args.steps.now + 1 = omega (arith, are, have) in
    let inside : c.len-level.result < length c.args.steps.now = (let size = length-append c.args.open.now.items (c.args.top ∷ []) in let most = c.requires.deep in let other = c.if-level-steps.false in omega (arith, size, deep, most, other)) in
    subst (λ items. turns_left c.args.lists.now.world c.args.steps.now 0 items < turns_left c.args.lists.now.world c.args.steps.now 0 (c.args.open.now.items ++ c.args.top ∷ [])) (sym (c.push_reserved-2.ensures.items ∙ ap (λ l. l ++ c.reach.result ∷ []) c.push_reserved.ensures.items)) (turns_on c.args.lists.now.world c.args.steps.now c.args.open.now.items c.args.top c.next.new.self (place_of c.in-Some.place) c.len-level.result c.in-Some.ensures deep c.reach.result (record { variable = OwnLines; count = One }) inside c.reach.ensures.places)

pub returns-in-Some-said_by-clause-kept : goal.returns-in-Some-said_by-clause-kept
returns-in-Some-said_by-clause-kept c =
    c.in-Some-said_by.ensures.kept c.args.lists.now (kept_top c.args.lists.now c.args.open.now.items c.args.top c.next.new.self (place_of c.in-Some.place) c.requires.kept c.in-Some.ensures).0

pub returns-in-Some-said_by-clause-given : goal.returns-in-Some-said_by-clause-given
returns-in-Some-said_by-clause-given c =
    let deep : c.len-level.result ≡ length c.args.open.now.items = omega (arith, c.len-level.ensures) in
    let are = c.requires.pointers_are in
    let have = c.requires.pointers_all in
    let all : length c.args.pointers.now ≡ length c.args.steps.now + 1 = omega (arith, are, have) in
    let end : c.len-level.result + 1 ≡ length c.args.steps.now = omega (arith, c.if-level-steps-2.true) in
    subst (λ items. nodes_left c.args.lists.now.world c.args.steps.now c.args.pointers.now 0 (c.args.open.now.items ++ c.args.top ∷ []) ≡ record { pointers = c.put_said.new.pointers; place = Data_at (held_line c.in-Some-said_by.said) } ∷ nodes_left c.args.lists.now.world c.args.steps.now c.put_said.new.pointers 0 items) (sym c.push_reserved.ensures.items)
    (walk_one c.args.lists.now.world c.args.steps.now c.args.pointers.now c.put.new.self c.put_said.new.pointers c.args.open.now.items c.args.top c.next.new.self (place_of c.in-Some.place) (Data_at (held_line c.in-Some-said_by.said)) c.len-level.result (record { variable = OwnLines; count = One }) c.in-Some.ensures deep all (c.put.ensures ∙ ap (set c.args.pointers.now c.len-level.result) (c.pointer_of.ensures ∙ ap (λ (groups : EntryGroups). pointer_of groups (place_of c.in-Some.place)) (c.buffers.ensures ∙ ap (λ (world : World). world.groups) c.world.ensures))) (c.in-Some-said_by.ensures.led c.args.lists.now.world) end c.put_said.ensures)

pub returns-in-Some-said_by-clause-turned : goal.returns-in-Some-said_by-clause-turned
returns-in-Some-said_by-clause-turned c =
    let deep : c.len-level.result ≡ length c.args.open.now.items = omega (arith, c.len-level.ensures) in
    let end : c.len-level.result + 1 ≡ length c.args.steps.now = omega (arith, c.if-level-steps-2.true) in
    let said = Data_at (held_line c.in-Some-said_by.said) in
    let on = turns_on c.args.lists.now.world c.args.steps.now c.args.open.now.items c.args.top c.next.new.self (place_of c.in-Some.place) c.len-level.result c.in-Some.ensures deep (said ∷ []) (record { variable = OwnLines; count = One }) (omega (arith, end)) (sym (c.in-Some-said_by.ensures.led c.args.lists.now.world)) in
    let back = turns_back c.args.lists.now.world c.args.steps.now (c.args.open.now.items ++ c.next.new.self ∷ []) (said ∷ []) in
    subst (λ items. turns_left c.args.lists.now.world c.args.steps.now 0 items < turns_left c.args.lists.now.world c.args.steps.now 0 (c.args.open.now.items ++ c.args.top ∷ [])) (sym c.push_reserved.ensures.items) (omega (arith, on, back))
