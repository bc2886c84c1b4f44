use Rattle.std.proofs.Common.{◌≡◌, ◌∙◌, ◌+◌, ◌-◌, ap, subst, arith, List}
use Rattle.wc_hooks.specs.declared.entry.Entry.{Entry}
use Rattle.wc_hooks.specs.Inside.{seen_as}
use Rattle.wc_hooks.specs.Slots.{live_rows, Walked}
use Rattle.wc_hooks.specs.Table.{next_of, after_next}
use Rattle.wc_hooks.proofs.Sounds.{lies_at}
use Rattle.wc_hooks.proofs.TableLaws.{marked_next, room_for, next_given}
use Rattle.wc_hooks.proofs.Calls.{law_of, kept_next, seen_next, goes_at, cursor_there}
use Rattle.wc_hooks.proofs.table.HookTable.next.Goals as goal

pub cursor_at-cursor-requires : goal.cursor_at-cursor-requires
cursor_at-cursor-requires g c = let a = c.self.inside in cursor_there a.slots a.cursors.items a.marks.items a.hooked c.pass.inside.place c.args.pass.now c.args.self.now c.self.view_is c.pass.view_is c.requires

pub next-given-requires-clause-inside : goal.next-given-requires-clause-inside
next-given-requires-clause-inside g c =
    let stands = lies_at c.self.inside.hooked c.self.inside.slots c.self.inside.cursors.items c.pass.inside.place c.cursor_at-cursor.result c.cursor_at-cursor.ensures c.self.invariant.kept.standing in
    stands.inside

pub next-given-requires-clause-within : goal.next-given-requires-clause-within
next-given-requires-clause-within g c =
    let stands = lies_at c.self.inside.hooked c.self.inside.slots c.self.inside.cursors.items c.pass.inside.place c.cursor_at-cursor.result c.cursor_at-cursor.ensures c.self.invariant.kept.standing in
    stands.within

pub next-given-requires-clause-counted : goal.next-given-requires-clause-counted
next-given-requires-clause-counted g c =
    let stands = lies_at c.self.inside.hooked c.self.inside.slots c.self.inside.cursors.items c.pass.inside.place c.cursor_at-cursor.result c.cursor_at-cursor.ensures c.self.invariant.kept.standing in
    stands.counted

pub mark_given-requires : goal.mark_given-requires
mark_given-requires g c some =
    let a = c.self.inside in
    let k = c.self.invariant.kept in
    let at = c.pass.inside.place in
    let here = c.cursor_at-cursor.ensures in
    let walked = subst (λ (l : List Entry). Walked a.slots l at c.cursor_at-cursor.result c.next-given.new.cursor c.next-given.result) c.as_slice.ensures.value c.next-given.ensures.walked in
    let fewer = room_for (live_rows a.slots) a.marks.items c.next-given.result a.relays a.others k.counted (marked_next a.hooked at c.cursor_at-cursor.result a.slots a.marks.items c.next-given.result k.ordered.known k.marked walked.given) some in
    let room = c.self.invariant.room in
    omega (arith, fewer, room)

pub invariant_of-self : goal.invariant_of-self
invariant_of-self g c =
    let a = c.self.inside in
    let k = c.self.invariant.kept in
    let at = c.pass.inside.place in
    let here = c.cursor_at-cursor.ensures in
    let walked = subst (λ (l : List Entry). Walked a.slots l at c.cursor_at-cursor.result c.next-given.new.cursor c.next-given.result) c.as_slice.ensures.value c.next-given.ensures.walked in
    let same = c.mark_given.ensures.capacity in
    let room = c.self.invariant.room in
    record { kept = kept_next a.slots a.cursors.items a.marks.items a.hooked a.relays a.others a.has_gone c.self.invariant.kept at c.cursor_at-cursor.result c.next-given.new.cursor c.next-given.result c.mark_given.new.marks.items c.put_cursor.new.places.items here walked c.put_cursor.ensures c.mark_given.ensures.marks; room = omega (arith, same, room) }

pub returns-clause-given : goal.returns-clause-given
returns-clause-given g c =
    let a = c.self.inside in
    let k = c.self.invariant.kept in
    let at = c.pass.inside.place in
    let here = c.cursor_at-cursor.ensures in
    let walked = subst (λ (l : List Entry). Walked a.slots l at c.cursor_at-cursor.result c.next-given.new.cursor c.next-given.result) c.as_slice.ensures.value c.next-given.ensures.walked in
    next_given a.hooked at a.slots a.cursors.items a.marks.items c.cursor_at-cursor.result c.next-given.new.cursor c.next-given.result k.ordered here walked ∙ (λ i. next_of (c.self.view_is i) (c.pass.view_is i))

pub returns-clause-after : goal.returns-clause-after
returns-clause-after g c =
    let a = c.self.inside in
    let k = c.self.invariant.kept in
    let at = c.pass.inside.place in
    let here = c.cursor_at-cursor.ensures in
    let walked = subst (λ (l : List Entry). Walked a.slots l at c.cursor_at-cursor.result c.next-given.new.cursor c.next-given.result) c.as_slice.ensures.value c.next-given.ensures.walked in
    let counted = c.next-given.ensures.steps in
    let onward = walked.onward in
    let steps = c.next-given.new.steps - c.args.steps.now in
    let looked : c.next-given.new.cursor.looked ≡ c.cursor_at-cursor.result.looked + steps = omega (arith, counted, onward) in
    let new = seen_as a.slots c.put_cursor.new.places.items c.mark_given.new.marks.items a.hooked in
    let goes : new ≡ after_next c.args.self.now c.args.pass.now steps = seen_next a.slots a.cursors.items a.marks.items a.hooked a.relays a.others a.has_gone c.self.invariant.kept at steps c.cursor_at-cursor.result c.next-given.new.cursor c.next-given.result c.mark_given.new.marks.items c.put_cursor.new.places.items c.args.self.now c.self.view_is here walked looked c.put_cursor.ensures c.mark_given.ensures.marks ∙ ap (λ p. after_next c.args.self.now p steps) c.pass.view_is in
    goes

pub returns-clause-steps : goal.returns-clause-steps
returns-clause-steps g c =
    let a = c.self.inside in
    let k = c.self.invariant.kept in
    let at = c.pass.inside.place in
    let here = c.cursor_at-cursor.ensures in
    let walked = subst (λ (l : List Entry). Walked a.slots l at c.cursor_at-cursor.result c.next-given.new.cursor c.next-given.result) c.as_slice.ensures.value c.next-given.ensures.walked in
    let counted = c.next-given.ensures.steps in
    let onward = walked.onward in
    let steps = c.next-given.new.steps - c.args.steps.now in
    let looked : c.next-given.new.cursor.looked ≡ c.cursor_at-cursor.result.looked + steps = omega (arith, counted, onward) in
    let new = seen_as a.slots c.put_cursor.new.places.items c.mark_given.new.marks.items a.hooked in
    let goes : new ≡ after_next c.args.self.now c.args.pass.now steps = seen_next a.slots a.cursors.items a.marks.items a.hooked a.relays a.others a.has_gone c.self.invariant.kept at steps c.cursor_at-cursor.result c.next-given.new.cursor c.next-given.result c.mark_given.new.marks.items c.put_cursor.new.places.items c.args.self.now c.self.view_is here walked looked c.put_cursor.ensures c.mark_given.ensures.marks ∙ ap (λ p. after_next c.args.self.now p steps) c.pass.view_is in
    let more = (goes_at c.args.pass.now steps c.args.self.now new goes c.requires).looked in
    omega (arith, more, counted, onward)

pub returns-clause-bound : goal.returns-clause-bound
returns-clause-bound g c =
    let a = c.self.inside in
    let k = c.self.invariant.kept in
    let at = c.pass.inside.place in
    let here = c.cursor_at-cursor.ensures in
    let walked = subst (λ (l : List Entry). Walked a.slots l at c.cursor_at-cursor.result c.next-given.new.cursor c.next-given.result) c.as_slice.ensures.value c.next-given.ensures.walked in
    (law_of a.slots c.put_cursor.new.places.items c.mark_given.new.marks.items a.hooked a.relays a.others a.has_gone (kept_next a.slots a.cursors.items a.marks.items a.hooked a.relays a.others a.has_gone c.self.invariant.kept at c.cursor_at-cursor.result c.next-given.new.cursor c.next-given.result c.mark_given.new.marks.items c.put_cursor.new.places.items here walked c.put_cursor.ensures c.mark_given.ensures.marks)).within c.args.pass.now

pub returns-clause-is_open : goal.returns-clause-is_open
returns-clause-is_open g c =
    let a = c.self.inside in
    let k = c.self.invariant.kept in
    let at = c.pass.inside.place in
    let here = c.cursor_at-cursor.ensures in
    let walked = subst (λ (l : List Entry). Walked a.slots l at c.cursor_at-cursor.result c.next-given.new.cursor c.next-given.result) c.as_slice.ensures.value c.next-given.ensures.walked in
    let counted = c.next-given.ensures.steps in
    let onward = walked.onward in
    let steps = c.next-given.new.steps - c.args.steps.now in
    let looked : c.next-given.new.cursor.looked ≡ c.cursor_at-cursor.result.looked + steps = omega (arith, counted, onward) in
    let new = seen_as a.slots c.put_cursor.new.places.items c.mark_given.new.marks.items a.hooked in
    let goes : new ≡ after_next c.args.self.now c.args.pass.now steps = seen_next a.slots a.cursors.items a.marks.items a.hooked a.relays a.others a.has_gone c.self.invariant.kept at steps c.cursor_at-cursor.result c.next-given.new.cursor c.next-given.result c.mark_given.new.marks.items c.put_cursor.new.places.items c.args.self.now c.self.view_is here walked looked c.put_cursor.ensures c.mark_given.ensures.marks ∙ ap (λ p. after_next c.args.self.now p steps) c.pass.view_is in
    (goes_at c.args.pass.now steps c.args.self.now new goes c.requires).is_open

pub returns-clause-others : goal.returns-clause-others
returns-clause-others g c =
    let a = c.self.inside in
    let k = c.self.invariant.kept in
    let at = c.pass.inside.place in
    let here = c.cursor_at-cursor.ensures in
    let walked = subst (λ (l : List Entry). Walked a.slots l at c.cursor_at-cursor.result c.next-given.new.cursor c.next-given.result) c.as_slice.ensures.value c.next-given.ensures.walked in
    let counted = c.next-given.ensures.steps in
    let onward = walked.onward in
    let steps = c.next-given.new.steps - c.args.steps.now in
    let looked : c.next-given.new.cursor.looked ≡ c.cursor_at-cursor.result.looked + steps = omega (arith, counted, onward) in
    let new = seen_as a.slots c.put_cursor.new.places.items c.mark_given.new.marks.items a.hooked in
    let goes : new ≡ after_next c.args.self.now c.args.pass.now steps = seen_next a.slots a.cursors.items a.marks.items a.hooked a.relays a.others a.has_gone c.self.invariant.kept at steps c.cursor_at-cursor.result c.next-given.new.cursor c.next-given.result c.mark_given.new.marks.items c.put_cursor.new.places.items c.args.self.now c.self.view_is here walked looked c.put_cursor.ensures c.mark_given.ensures.marks ∙ ap (λ p. after_next c.args.self.now p steps) c.pass.view_is in
    (goes_at c.args.pass.now steps c.args.self.now new goes c.requires).others

pub returns-clause-count : goal.returns-clause-count
returns-clause-count g c =
    let a = c.self.inside in
    let k = c.self.invariant.kept in
    let at = c.pass.inside.place in
    let here = c.cursor_at-cursor.ensures in
    let walked = subst (λ (l : List Entry). Walked a.slots l at c.cursor_at-cursor.result c.next-given.new.cursor c.next-given.result) c.as_slice.ensures.value c.next-given.ensures.walked in
    let counted = c.next-given.ensures.steps in
    let onward = walked.onward in
    let steps = c.next-given.new.steps - c.args.steps.now in
    let looked : c.next-given.new.cursor.looked ≡ c.cursor_at-cursor.result.looked + steps = omega (arith, counted, onward) in
    let new = seen_as a.slots c.put_cursor.new.places.items c.mark_given.new.marks.items a.hooked in
    let goes : new ≡ after_next c.args.self.now c.args.pass.now steps = seen_next a.slots a.cursors.items a.marks.items a.hooked a.relays a.others a.has_gone c.self.invariant.kept at steps c.cursor_at-cursor.result c.next-given.new.cursor c.next-given.result c.mark_given.new.marks.items c.put_cursor.new.places.items c.args.self.now c.self.view_is here walked looked c.put_cursor.ensures c.mark_given.ensures.marks ∙ ap (λ p. after_next c.args.self.now p steps) c.pass.view_is in
    (goes_at c.args.pass.now steps c.args.self.now new goes c.requires).count
