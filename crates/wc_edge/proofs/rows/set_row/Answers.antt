use Rattle.std.proofs.Common.{Bool, refl}
use Rattle.wc_edge.specs.declared.rows.Row.{Row}
use Rattle.wc_edge.specs.Rows.{has, undrained_in, blocked_in}
use Rattle.wc_edge.proofs.RowLemmas.{edited, edited_same, numbers_edited}
use Rattle.wc_edge.proofs.rows.set_row.Goals as goal

abbrev noted : Bool → Bool → Row → Row
noted undrained blocked row = record row { undrained = undrained; blocked = blocked }

pub returns-clause-undrained : goal.returns-clause-undrained
returns-clause-undrained c = edited undrained_in (noted c.args.undrained c.args.blocked) c.args.rows.now c.args.place c.args.link.0 (λ x. refl) c.requires

pub returns-clause-blocked : goal.returns-clause-blocked
returns-clause-blocked c = edited blocked_in (noted c.args.undrained c.args.blocked) c.args.rows.now c.args.place c.args.link.0 (λ x. refl) c.requires

pub returns-clause-there : goal.returns-clause-there
returns-clause-there c = edited_same has (noted c.args.undrained c.args.blocked) c.args.rows.now c.args.place c.args.link.0 (λ x. refl) (λ x. refl) c.requires

pub returns-clause-numbers : goal.returns-clause-numbers
returns-clause-numbers c = numbers_edited (noted c.args.undrained c.args.blocked) c.args.rows.now c.args.place (λ x. refl)
