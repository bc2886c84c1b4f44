use Rattle.std.proofs.Common.{◌≡◌, sym, ◌∙◌, take, drop, length, min}
use Rattle.wc_scripted.specs.declared.scripted.Scripted.TheVariants.{Stands, Gives, Ends}
use Rattle.wc_scripted.proofs.CursorLemmas.{drop_read, give-found, give-given, give_within, give-end, give-stands}
use Rattle.wc_scripted.proofs.cursors.Cursor.give.Goals as goal

pub returns-in-Some-Gives-clause-found : goal.returns-in-Some-Gives-clause-found
returns-in-Some-Gives-clause-found c =
    let x = c.in-Some-Gives.ensures.lookup in
    let e = drop_read c.args.steps.now c.args.self.now.step (Gives c.in-Some-Gives.field-0-0 c.in-Some-Gives.bytes) x.3.0 (sym c.in-Some-Gives.field-0-is ∙ x.3.1 (Gives c.in-Some-Gives.field-0-0 c.in-Some-Gives.bytes)) in
    let size : c.min-count.result ≡ min (length (drop c.args.self.now.given c.in-Some-Gives.bytes)) (length c.args.into.now) = cc in
    let piece : c.copy_from_slice.new.self ≡ take c.min-count.result (drop c.args.self.now.given c.in-Some-Gives.bytes) = cc in
    give-found c.args.link.0 c.args.steps.now c.args.self.now c.in-Some-Gives.field-0-0 c.in-Some-Gives.bytes _ c.min-count.result (length c.args.into.now) c.copy_from_slice.new.self _ c.requires.placed e c.requires.begins (give_within c.args.link.0 c.args.steps.now c.args.self.now c.in-Some-Gives.field-0-0 c.in-Some-Gives.bytes _ c.requires.placed e c.requires.begins) size piece

pub returns-in-Some-Gives-clause-given : goal.returns-in-Some-Gives-clause-given
returns-in-Some-Gives-clause-given c =
    let x = c.in-Some-Gives.ensures.lookup in
    let e = drop_read c.args.steps.now c.args.self.now.step (Gives c.in-Some-Gives.field-0-0 c.in-Some-Gives.bytes) x.3.0 (sym c.in-Some-Gives.field-0-is ∙ x.3.1 (Gives c.in-Some-Gives.field-0-0 c.in-Some-Gives.bytes)) in
    let step = rw c.as_slice-in-Some-Gives.ensures at c.pass.ensures.step in
    let given = rw c.as_slice-in-Some-Gives.ensures at c.pass.ensures.given in
    give-given c.args.link.0 c.args.steps.now c.args.self.now c.pass.new.self c.in-Some-Gives.field-0-0 c.in-Some-Gives.bytes _ c.min-count.result c.requires.placed e c.requires.begins step given

pub returns-in-Some-Ends-clause-found : goal.returns-in-Some-Ends-clause-found
returns-in-Some-Ends-clause-found c =
    let x = c.in-Some-Ends.ensures.lookup in
    let e = drop_read c.args.steps.now c.args.self.now.step (Ends c.in-Some-Ends.field-0-0) x.3.0 (sym c.in-Some-Ends.field-0-is ∙ x.3.1 (Ends c.in-Some-Ends.field-0-0)) in
    give-end c.args.link.0 c.args.steps.now c.args.self.now c.in-Some-Ends.field-0-0 _ c.args.into.now c.requires.placed e c.requires.begins

pub returns-in-Some-Stands-clause-found : goal.returns-in-Some-Stands-clause-found
returns-in-Some-Stands-clause-found c =
    let x = c.in-Some-Stands.ensures.lookup in
    let e = drop_read c.args.steps.now c.args.self.now.step (Stands c.in-Some-Stands.field-0-0) x.3.0 (sym c.in-Some-Stands.field-0-is ∙ x.3.1 (Stands c.in-Some-Stands.field-0-0)) in
    give-stands c.args.link.0 c.args.steps.now c.args.self.now c.in-Some-Stands.field-0-0 _ c.args.into.now c.requires.placed e c.requires.begins
