use Rattle.std.proofs.Common.{◌≡◌, ◌∙◌, ap, sym, false}
use Rattle.std.specs.Prelude.{is_some}
use Rattle.std.specs.List.{list_any}
use Rattle.std.proofs.lemmas.Bool.{true≢false}
use Rattle.wc_hooks.specs.Inside.{seen_as}
use Rattle.wc_hooks.specs.Table.{without_pass}
use Rattle.wc_hooks.proofs.Lists.{open_inside}
use Rattle.wc_hooks.proofs.Calls.{kept_closed, seen_closed, kept_purged, seen_purged, closes_at, cursor_there}
use Rattle.wc_hooks.proofs.table.HookTable.close_pass.Goals as goal
use Rattle.wc_hooks.proofs.table.HookTable.close_pass.Goals.{then-not-self-via-then-not-self, then-not-self-via-else-not-self+then-is_any_open}

pub put_cursor-requires : goal.put_cursor-requires
put_cursor-requires c = let a = c.self.inside in open_inside a.cursors.items c.pass.inside.place (cursor_there a.slots a.cursors.items a.marks.items a.hooked c.pass.inside.place c.args.pass c.args.self.now c.self.view_is c.pass.view_is c.requires)

pub invariant_of-self : goal.invariant_of-self
invariant_of-self c =
    let a = c.self.inside in
    let at = c.pass.inside.place in
    let closed = λ (none : list_any is_some c.put_cursor.new.places.items ≡ false). elim c.then-not-self.branch as (λ w. a.has_gone ≡ false) [
      | then-not-self-via-then-not-self w ↦ w.if-not-self.true
      | then-not-self-via-else-not-self+then-is_any_open w ↦ absurd (true≢false (sym w.if-is_any_open.true ∙ w.is_any_open.ensures ∙ ap (list_any is_some) w.as_slice.ensures.value ∙ none))
    ] in
    record { kept = kept_closed a.slots a.cursors.items a.marks.items a.hooked a.relays a.others a.has_gone c.self.invariant.kept at c.put_cursor.new.places.items c.put_cursor.ensures closed; room = c.self.invariant.room }

pub returns-then-not-self-clause-after : goal.returns-then-not-self-clause-after
returns-then-not-self-clause-after c =
    let a = c.self.inside in
    let at = c.pass.inside.place in
    let closed = λ (none : list_any is_some c.put_cursor.new.places.items ≡ false). elim c.then-not-self.branch as (λ w. a.has_gone ≡ false) [
      | then-not-self-via-then-not-self w ↦ w.if-not-self.true
      | then-not-self-via-else-not-self+then-is_any_open w ↦ absurd (true≢false (sym w.if-is_any_open.true ∙ w.is_any_open.ensures ∙ ap (list_any is_some) w.as_slice.ensures.value ∙ none))
    ] in
    let after = seen_closed a.slots a.cursors.items a.marks.items a.hooked a.relays a.others a.has_gone c.self.invariant.kept at c.put_cursor.new.places.items c.args.self.now c.self.view_is c.put_cursor.ensures closed ∙ ap (λ p. without_pass p c.args.self.now) c.pass.view_is in
    let new = seen_as a.slots c.put_cursor.new.places.items a.marks.items a.hooked in
    after

pub returns-then-not-self-clause-closed : goal.returns-then-not-self-clause-closed
returns-then-not-self-clause-closed c =
    let a = c.self.inside in
    let at = c.pass.inside.place in
    let closed = λ (none : list_any is_some c.put_cursor.new.places.items ≡ false). elim c.then-not-self.branch as (λ w. a.has_gone ≡ false) [
      | then-not-self-via-then-not-self w ↦ w.if-not-self.true
      | then-not-self-via-else-not-self+then-is_any_open w ↦ absurd (true≢false (sym w.if-is_any_open.true ∙ w.is_any_open.ensures ∙ ap (list_any is_some) w.as_slice.ensures.value ∙ none))
    ] in
    let after = seen_closed a.slots a.cursors.items a.marks.items a.hooked a.relays a.others a.has_gone c.self.invariant.kept at c.put_cursor.new.places.items c.args.self.now c.self.view_is c.put_cursor.ensures closed ∙ ap (λ p. without_pass p c.args.self.now) c.pass.view_is in
    let new = seen_as a.slots c.put_cursor.new.places.items a.marks.items a.hooked in
    (closes_at c.args.pass c.args.self.now new after c.requires).closed

pub returns-then-not-self-clause-others : goal.returns-then-not-self-clause-others
returns-then-not-self-clause-others c =
    let a = c.self.inside in
    let at = c.pass.inside.place in
    let closed = λ (none : list_any is_some c.put_cursor.new.places.items ≡ false). elim c.then-not-self.branch as (λ w. a.has_gone ≡ false) [
      | then-not-self-via-then-not-self w ↦ w.if-not-self.true
      | then-not-self-via-else-not-self+then-is_any_open w ↦ absurd (true≢false (sym w.if-is_any_open.true ∙ w.is_any_open.ensures ∙ ap (list_any is_some) w.as_slice.ensures.value ∙ none))
    ] in
    let after = seen_closed a.slots a.cursors.items a.marks.items a.hooked a.relays a.others a.has_gone c.self.invariant.kept at c.put_cursor.new.places.items c.args.self.now c.self.view_is c.put_cursor.ensures closed ∙ ap (λ p. without_pass p c.args.self.now) c.pass.view_is in
    let new = seen_as a.slots c.put_cursor.new.places.items a.marks.items a.hooked in
    (closes_at c.args.pass c.args.self.now new after c.requires).others

pub returns-then-not-self-clause-count : goal.returns-then-not-self-clause-count
returns-then-not-self-clause-count c =
    let a = c.self.inside in
    let at = c.pass.inside.place in
    let closed = λ (none : list_any is_some c.put_cursor.new.places.items ≡ false). elim c.then-not-self.branch as (λ w. a.has_gone ≡ false) [
      | then-not-self-via-then-not-self w ↦ w.if-not-self.true
      | then-not-self-via-else-not-self+then-is_any_open w ↦ absurd (true≢false (sym w.if-is_any_open.true ∙ w.is_any_open.ensures ∙ ap (list_any is_some) w.as_slice.ensures.value ∙ none))
    ] in
    let after = seen_closed a.slots a.cursors.items a.marks.items a.hooked a.relays a.others a.has_gone c.self.invariant.kept at c.put_cursor.new.places.items c.args.self.now c.self.view_is c.put_cursor.ensures closed ∙ ap (λ p. without_pass p c.args.self.now) c.pass.view_is in
    let new = seen_as a.slots c.put_cursor.new.places.items a.marks.items a.hooked in
    (closes_at c.args.pass c.args.self.now new after c.requires).count

pub invariant_of-self-2 : goal.invariant_of-self-2
invariant_of-self-2 c =
    let a = c.self.inside in
    let at = c.pass.inside.place in
    let none = sym (c.is_any_open.ensures ∙ ap (list_any is_some) c.as_slice.ensures.value) ∙ c.if-is_any_open.false in
    record { kept = kept_purged a.slots a.cursors.items a.marks.items a.hooked a.relays a.others a.has_gone c.self.invariant.kept at c.put_cursor.new.places.items c.purge.new.self c.put_cursor.ensures none c.purge.ensures; room = c.self.invariant.room }

pub returns-clause-after : goal.returns-clause-after
returns-clause-after c =
    let a = c.self.inside in
    let at = c.pass.inside.place in
    let none = sym (c.is_any_open.ensures ∙ ap (list_any is_some) c.as_slice.ensures.value) ∙ c.if-is_any_open.false in
    let after = seen_purged a.slots a.cursors.items a.marks.items a.hooked a.relays a.others a.has_gone c.self.invariant.kept at c.put_cursor.new.places.items c.purge.new.self c.args.self.now c.self.view_is c.put_cursor.ensures none c.purge.ensures ∙ ap (λ p. without_pass p c.args.self.now) c.pass.view_is in
    let new = seen_as c.purge.new.self c.put_cursor.new.places.items a.marks.items a.hooked in
    after

pub returns-clause-closed : goal.returns-clause-closed
returns-clause-closed c =
    let a = c.self.inside in
    let at = c.pass.inside.place in
    let none = sym (c.is_any_open.ensures ∙ ap (list_any is_some) c.as_slice.ensures.value) ∙ c.if-is_any_open.false in
    let after = seen_purged a.slots a.cursors.items a.marks.items a.hooked a.relays a.others a.has_gone c.self.invariant.kept at c.put_cursor.new.places.items c.purge.new.self c.args.self.now c.self.view_is c.put_cursor.ensures none c.purge.ensures ∙ ap (λ p. without_pass p c.args.self.now) c.pass.view_is in
    let new = seen_as c.purge.new.self c.put_cursor.new.places.items a.marks.items a.hooked in
    (closes_at c.args.pass c.args.self.now new after c.requires).closed

pub returns-clause-others : goal.returns-clause-others
returns-clause-others c =
    let a = c.self.inside in
    let at = c.pass.inside.place in
    let none = sym (c.is_any_open.ensures ∙ ap (list_any is_some) c.as_slice.ensures.value) ∙ c.if-is_any_open.false in
    let after = seen_purged a.slots a.cursors.items a.marks.items a.hooked a.relays a.others a.has_gone c.self.invariant.kept at c.put_cursor.new.places.items c.purge.new.self c.args.self.now c.self.view_is c.put_cursor.ensures none c.purge.ensures ∙ ap (λ p. without_pass p c.args.self.now) c.pass.view_is in
    let new = seen_as c.purge.new.self c.put_cursor.new.places.items a.marks.items a.hooked in
    (closes_at c.args.pass c.args.self.now new after c.requires).others

pub returns-clause-count : goal.returns-clause-count
returns-clause-count c =
    let a = c.self.inside in
    let at = c.pass.inside.place in
    let none = sym (c.is_any_open.ensures ∙ ap (list_any is_some) c.as_slice.ensures.value) ∙ c.if-is_any_open.false in
    let after = seen_purged a.slots a.cursors.items a.marks.items a.hooked a.relays a.others a.has_gone c.self.invariant.kept at c.put_cursor.new.places.items c.purge.new.self c.args.self.now c.self.view_is c.put_cursor.ensures none c.purge.ensures ∙ ap (λ p. without_pass p c.args.self.now) c.pass.view_is in
    let new = seen_as c.purge.new.self c.put_cursor.new.places.items a.marks.items a.hooked in
    (closes_at c.args.pass c.args.self.now new after c.requires).count
