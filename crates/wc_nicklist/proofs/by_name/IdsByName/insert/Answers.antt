use Rattle.std.proofs.Common.{Some, sym, ap, ◌∙◌}
use Rattle.wc_nicklist.specs.Index.{is_short, number}
use Rattle.wc_nicklist.proofs.Numbers.{short_update, long_update}
use Rattle.wc_nicklist.proofs.by_name.IdsByName.insert.Goals as goal

pub returns-in-Some : goal.returns-in-Some
returns-in-Some c =
    let same = c.as_slice.ensures.value in
    short_update c.args.name.items c.in-Some.number c.args.self.now c.insert_short.new.ids (Some c.args.id) (ap is_short (sym same) ∙ c.in-Some.ensures.short.0) (c.in-Some.ensures.short.1 ∙ ap number same) c.insert_short.ensures

pub returns-in-None : goal.returns-in-None
returns-in-None c = long_update c.args.name.items c.args.self.now c.insert_long.new.ids (Some c.args.id) (ap is_short (sym c.as_slice.ensures.value) ∙ c.in-None.ensures.long) c.insert_long.ensures
