use Rattle.std.proofs.Common.{◌∙◌, ap, arith}
use Rattle.std.specs.Prelude.{is_none}
use Rattle.wc_hooks.specs.Inside.{seen_as}
use Rattle.wc_hooks.specs.Table.{opening}
use Rattle.wc_hooks.proofs.Counts.{place_of, place_at}
use Rattle.wc_hooks.proofs.Calls.{kept_opened, seen_opened, opens_at, opened_count, cursor_free, pass_free, no_place_is, places_are}
use Rattle.wc_hooks.proofs.table.HookTable.open_pass.Goals as goal

pub returns-in_err-place-clause-none : goal.returns-in_err-place-clause-none
returns-in_err-place-clause-none c =
    let a = c.self.inside in
    ap is_none c.from_residual.ensures
    ∙ ap is_none (c.in_err-place.ensures ∙ ap (place_of c.args.kind) c.as_slice.ensures.value)
    ∙ no_place_is a.slots a.cursors.items a.marks.items a.hooked c.args.kind c.args.self.now c.self.view_is c.self.invariant.kept.places

pub open-start-requires-clause-place : goal.open-start-requires-clause-place
open-start-requires-clause-place c =
    let a = c.self.inside in
    let at = c.in_ok-place.place in
    let found = c.in_ok-place.ensures ∙ ap (place_of c.args.kind) c.as_slice.ensures.value in
    let here = place_at c.args.kind a.cursors.items at found c.self.invariant.kept.places (λ relay. cursor_free a.slots a.cursors.items a.marks.items a.hooked 16 c.args.self.now c.self.view_is (c.requires relay)) in
    let lt = here.inside in
    omega (arith, lt)

pub put_cursor-requires : goal.put_cursor-requires
put_cursor-requires c =
    let a = c.self.inside in
    let at = c.in_ok-place.place in
    let found = c.in_ok-place.ensures ∙ ap (place_of c.args.kind) c.as_slice.ensures.value in
    let here = place_at c.args.kind a.cursors.items at found c.self.invariant.kept.places (λ relay. cursor_free a.slots a.cursors.items a.marks.items a.hooked 16 c.args.self.now c.self.view_is (c.requires relay)) in
    let lt = here.inside in
    let places = c.self.invariant.kept.places in
    omega (arith, lt, places)

pub invariant_of-self : goal.invariant_of-self
invariant_of-self c =
    let a = c.self.inside in
    let at = c.in_ok-place.place in
    let found = c.in_ok-place.ensures ∙ ap (place_of c.args.kind) c.as_slice.ensures.value in
    let here = place_at c.args.kind a.cursors.items at found c.self.invariant.kept.places (λ relay. cursor_free a.slots a.cursors.items a.marks.items a.hooked 16 c.args.self.now c.self.view_is (c.requires relay)) in
    record {
      kept = kept_opened a.slots a.cursors.items a.marks.items a.hooked a.relays a.others a.has_gone c.self.invariant.kept at c.open-start.result.0 c.open-start.result.1 c.args.kind c.args.key.now c.open-start.new.self c.put_cursor.new.places.items here.inside c.open-start.ensures.range c.open-start.ensures.slots c.put_cursor.ensures;
      room = c.self.invariant.room;
    }

pub returns-clause-none : goal.returns-clause-none
returns-clause-none c =
    let a = c.self.inside in
    ap is_none (c.in_ok-place.ensures ∙ ap (place_of c.args.kind) c.as_slice.ensures.value)
    ∙ no_place_is a.slots a.cursors.items a.marks.items a.hooked c.args.kind c.args.self.now c.self.view_is c.self.invariant.kept.places

pub returns-clause-place : goal.returns-clause-place
returns-clause-place c =
    let a = c.self.inside in
    let at = c.in_ok-place.place in
    let found = c.in_ok-place.ensures ∙ ap (place_of c.args.kind) c.as_slice.ensures.value in
    let here = place_at c.args.kind a.cursors.items at found c.self.invariant.kept.places (λ relay. cursor_free a.slots a.cursors.items a.marks.items a.hooked 16 c.args.self.now c.self.view_is (c.requires relay)) in
    here.fits

pub returns-clause-free : goal.returns-clause-free
returns-clause-free c =
    let a = c.self.inside in
    let at = c.in_ok-place.place in
    let found = c.in_ok-place.ensures ∙ ap (place_of c.args.kind) c.as_slice.ensures.value in
    let here = place_at c.args.kind a.cursors.items at found c.self.invariant.kept.places (λ relay. cursor_free a.slots a.cursors.items a.marks.items a.hooked 16 c.args.self.now c.self.view_is (c.requires relay)) in
    let free = pass_free a.slots a.cursors.items a.marks.items a.hooked at c.args.self.now c.self.view_is here.free in
    free

pub returns-clause-opened : goal.returns-clause-opened
returns-clause-opened c =
    let a = c.self.inside in
    let at = c.in_ok-place.place in
    let found = c.in_ok-place.ensures ∙ ap (place_of c.args.kind) c.as_slice.ensures.value in
    let here = place_at c.args.kind a.cursors.items at found c.self.invariant.kept.places (λ relay. cursor_free a.slots a.cursors.items a.marks.items a.hooked 16 c.args.self.now c.self.view_is (c.requires relay)) in
    let opened = seen_opened a.slots a.cursors.items a.marks.items a.hooked a.relays a.others a.has_gone c.self.invariant.kept at c.open-start.result.0 c.open-start.result.1 c.args.kind c.args.key.now c.open-start.new.self c.put_cursor.new.places.items c.args.self.now c.self.view_is here.inside here.free c.open-start.ensures.range c.open-start.ensures.slots c.put_cursor.ensures in
    opened

pub returns-clause-is_open : goal.returns-clause-is_open
returns-clause-is_open c =
    let a = c.self.inside in
    let at = c.in_ok-place.place in
    let found = c.in_ok-place.ensures ∙ ap (place_of c.args.kind) c.as_slice.ensures.value in
    let here = place_at c.args.kind a.cursors.items at found c.self.invariant.kept.places (λ relay. cursor_free a.slots a.cursors.items a.marks.items a.hooked 16 c.args.self.now c.self.view_is (c.requires relay)) in
    let free = pass_free a.slots a.cursors.items a.marks.items a.hooked at c.args.self.now c.self.view_is here.free in
    let opened = seen_opened a.slots a.cursors.items a.marks.items a.hooked a.relays a.others a.has_gone c.self.invariant.kept at c.open-start.result.0 c.open-start.result.1 c.args.kind c.args.key.now c.open-start.new.self c.put_cursor.new.places.items c.args.self.now c.self.view_is here.inside here.free c.open-start.ensures.range c.open-start.ensures.slots c.put_cursor.ensures in
    let new = seen_as c.open-start.new.self c.put_cursor.new.places.items a.marks.items a.hooked in
    let pass = opening c.args.kind c.args.key.now c.args.self.now in
    let places = places_are a.slots a.cursors.items a.marks.items a.hooked c.args.self.now c.self.view_is c.self.invariant.kept.places in
    let lt = here.inside in
    (opens_at at pass c.args.self.now new opened (omega (arith, places, lt)) free).is_open

pub returns-clause-apart : goal.returns-clause-apart
returns-clause-apart c =
    let a = c.self.inside in
    let at = c.in_ok-place.place in
    let found = c.in_ok-place.ensures ∙ ap (place_of c.args.kind) c.as_slice.ensures.value in
    let here = place_at c.args.kind a.cursors.items at found c.self.invariant.kept.places (λ relay. cursor_free a.slots a.cursors.items a.marks.items a.hooked 16 c.args.self.now c.self.view_is (c.requires relay)) in
    let free = pass_free a.slots a.cursors.items a.marks.items a.hooked at c.args.self.now c.self.view_is here.free in
    let opened = seen_opened a.slots a.cursors.items a.marks.items a.hooked a.relays a.others a.has_gone c.self.invariant.kept at c.open-start.result.0 c.open-start.result.1 c.args.kind c.args.key.now c.open-start.new.self c.put_cursor.new.places.items c.args.self.now c.self.view_is here.inside here.free c.open-start.ensures.range c.open-start.ensures.slots c.put_cursor.ensures in
    let new = seen_as c.open-start.new.self c.put_cursor.new.places.items a.marks.items a.hooked in
    let pass = opening c.args.kind c.args.key.now c.args.self.now in
    let places = places_are a.slots a.cursors.items a.marks.items a.hooked c.args.self.now c.self.view_is c.self.invariant.kept.places in
    let lt = here.inside in
    (opens_at at pass c.args.self.now new opened (omega (arith, places, lt)) free).apart

pub returns-clause-others : goal.returns-clause-others
returns-clause-others c =
    let a = c.self.inside in
    let at = c.in_ok-place.place in
    let found = c.in_ok-place.ensures ∙ ap (place_of c.args.kind) c.as_slice.ensures.value in
    let here = place_at c.args.kind a.cursors.items at found c.self.invariant.kept.places (λ relay. cursor_free a.slots a.cursors.items a.marks.items a.hooked 16 c.args.self.now c.self.view_is (c.requires relay)) in
    let free = pass_free a.slots a.cursors.items a.marks.items a.hooked at c.args.self.now c.self.view_is here.free in
    let opened = seen_opened a.slots a.cursors.items a.marks.items a.hooked a.relays a.others a.has_gone c.self.invariant.kept at c.open-start.result.0 c.open-start.result.1 c.args.kind c.args.key.now c.open-start.new.self c.put_cursor.new.places.items c.args.self.now c.self.view_is here.inside here.free c.open-start.ensures.range c.open-start.ensures.slots c.put_cursor.ensures in
    let new = seen_as c.open-start.new.self c.put_cursor.new.places.items a.marks.items a.hooked in
    let pass = opening c.args.kind c.args.key.now c.args.self.now in
    let places = places_are a.slots a.cursors.items a.marks.items a.hooked c.args.self.now c.self.view_is c.self.invariant.kept.places in
    let lt = here.inside in
    (opens_at at pass c.args.self.now new opened (omega (arith, places, lt)) free).others

pub returns-clause-count : goal.returns-clause-count
returns-clause-count c =
    let a = c.self.inside in
    let at = c.in_ok-place.place in
    let found = c.in_ok-place.ensures ∙ ap (place_of c.args.kind) c.as_slice.ensures.value in
    let here = place_at c.args.kind a.cursors.items at found c.self.invariant.kept.places (λ relay. cursor_free a.slots a.cursors.items a.marks.items a.hooked 16 c.args.self.now c.self.view_is (c.requires relay)) in
    let free = pass_free a.slots a.cursors.items a.marks.items a.hooked at c.args.self.now c.self.view_is here.free in
    let opened = seen_opened a.slots a.cursors.items a.marks.items a.hooked a.relays a.others a.has_gone c.self.invariant.kept at c.open-start.result.0 c.open-start.result.1 c.args.kind c.args.key.now c.open-start.new.self c.put_cursor.new.places.items c.args.self.now c.self.view_is here.inside here.free c.open-start.ensures.range c.open-start.ensures.slots c.put_cursor.ensures in
    let new = seen_as c.open-start.new.self c.put_cursor.new.places.items a.marks.items a.hooked in
    let pass = opening c.args.kind c.args.key.now c.args.self.now in
    let places = places_are a.slots a.cursors.items a.marks.items a.hooked c.args.self.now c.self.view_is c.self.invariant.kept.places in
    let lt = here.inside in
    opened_count c.args.kind at pass c.args.self.now new opened places here.fits free
