use Rattle.std.proofs.Common.{IsUtf8, length, sym, subst, ap}
use Rattle.std.proofs.lemmas.Bool.{ltb-true, ltb-false}
use Rattle.std.proofs.lemmas.Option.{slice_get_past}
use Rattle.wc_eval.specs.Names.{or_empty}
use Rattle.wc_eval.proofs.KindValues.{all_read}
use Rattle.wc_eval.proofs.calls.argument.Goals as goal

pub returns-in-Some-clause-utf8 : goal.returns-in-Some-clause-utf8
returns-in-Some-clause-utf8 c =
    let found = c.in-Some.ensures.lookup in
    subst IsUtf8 (sym c.as_slice.ensures) (all_read c.args.values.now c.args.place c.in-Some.value.now
    c.requires (ltb-true c.args.place (length c.args.values.now) (sym found.0)) found.1)

pub returns-in-None-clause-value : goal.returns-in-None-clause-value
returns-in-None-clause-value c =
    ap or_empty (sym (slice_get_past c.args.values.now c.args.place (ltb-false c.args.place (length c.args.values.now)
    (sym c.in-None.ensures.lookup.0))))
