use Rattle.std.proofs.Common.{sym, ◌∙◌}
use Rattle.wc_scripted.specs.declared.scripted.Scripted.TheVariants.{Stands, Gives, Ends}
use Rattle.wc_scripted.proofs.CursorLemmas.{drop_read, left_stands, left_bytes, left_end, stand-given, stand-placed}
use Rattle.wc_scripted.proofs.cursors.Cursor.stand.Goals as goal

pub returns-in-Some-Stands-clause-placed : goal.returns-in-Some-Stands-clause-placed
returns-in-Some-Stands-clause-placed c =
    let x = c.in-Some-Stands.ensures.lookup in
    let e = drop_read c.args.steps.now c.args.self.now.step (Stands c.in-Some-Stands.field-0-0) x.3.0 (sym c.in-Some-Stands.field-0-is ∙ x.3.1 (Stands c.in-Some-Stands.field-0-0)) in
    stand-placed c.args.link.0 c.args.steps.now c.args.self.now c.in-Some-Stands.field-0-0 _ c.requires.placed e c.requires.begins

pub returns-in-Some-Stands-clause-found : goal.returns-in-Some-Stands-clause-found
returns-in-Some-Stands-clause-found c =
    let x = c.in-Some-Stands.ensures.lookup in
    let e = drop_read c.args.steps.now c.args.self.now.step (Stands c.in-Some-Stands.field-0-0) x.3.0 (sym c.in-Some-Stands.field-0-is ∙ x.3.1 (Stands c.in-Some-Stands.field-0-0)) in
    sym (left_stands c.args.link.0 c.args.steps.now c.args.self.now c.in-Some-Stands.field-0-0 _ c.requires.placed e c.requires.begins)

pub returns-in-Some-Stands-clause-given : goal.returns-in-Some-Stands-clause-given
returns-in-Some-Stands-clause-given c =
    let x = c.in-Some-Stands.ensures.lookup in
    let e = drop_read c.args.steps.now c.args.self.now.step (Stands c.in-Some-Stands.field-0-0) x.3.0 (sym c.in-Some-Stands.field-0-is ∙ x.3.1 (Stands c.in-Some-Stands.field-0-0)) in
    stand-given c.args.link.0 c.args.steps.now c.args.self.now c.in-Some-Stands.field-0-0 _ c.requires.placed e c.requires.begins

pub returns-in-Some-Gives-clause-found : goal.returns-in-Some-Gives-clause-found
returns-in-Some-Gives-clause-found c =
    let x = c.in-Some-Gives.ensures.lookup in
    let e = drop_read c.args.steps.now c.args.self.now.step (Gives c.in-Some-Gives.field-0-0 c.in-Some-Gives.field-0-1) x.3.0 (sym c.in-Some-Gives.field-0-is ∙ x.3.1 (Gives c.in-Some-Gives.field-0-0 c.in-Some-Gives.field-0-1)) in
    sym (left_bytes c.args.link.0 c.args.steps.now c.args.self.now c.in-Some-Gives.field-0-0 c.in-Some-Gives.field-0-1 _ c.requires.placed e c.requires.begins)

pub returns-in-Some-Ends-clause-found : goal.returns-in-Some-Ends-clause-found
returns-in-Some-Ends-clause-found c =
    let x = c.in-Some-Ends.ensures.lookup in
    let e = drop_read c.args.steps.now c.args.self.now.step (Ends c.in-Some-Ends.field-0-0) x.3.0 (sym c.in-Some-Ends.field-0-is ∙ x.3.1 (Ends c.in-Some-Ends.field-0-0)) in
    sym (left_end c.args.link.0 c.args.steps.now c.args.self.now c.in-Some-Ends.field-0-0 _ c.requires.placed e c.requires.begins)
