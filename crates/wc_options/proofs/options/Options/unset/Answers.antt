use Rattle.std.proofs.Common.{◌≡◌, ◌∙◌, sym, ap}
use Rattle.wc_options.specs.Names.{located}
use Rattle.wc_options.specs.Place.{located_of}
use Rattle.wc_options.proofs.KeptLemmas.{value_of_some, value_of_none, without_value_some}
use Rattle.wc_options.proofs.options.Options.unset.Goals as goal

pub returns-in-Some-clause-after : goal.returns-in-Some-clause-after
returns-in-Some-clause-after c =
    rw (without_value_some c.args.self.now c.args.name.now (located_of c.in-Some.place) (c.in-Some.ensures.place ∙ ap located c.as_slice.ensures)) c.reset.ensures.after

pub returns-in-Some-clause-known : goal.returns-in-Some-clause-known
returns-in-Some-clause-known c =
    rw (← value_of_some c.args.self.now c.args.name.now (located_of c.in-Some.place) (c.in-Some.ensures.place ∙ ap located c.as_slice.ensures)) c.reset.ensures.known

pub returns-in-Some-clause-unknown : goal.returns-in-Some-clause-unknown
returns-in-Some-clause-unknown c =
    rw (← value_of_some c.args.self.now c.args.name.now (located_of c.in-Some.place) (c.in-Some.ensures.place ∙ ap located c.as_slice.ensures)) c.reset.ensures.unknown

pub returns-in-None-clause-unknown : goal.returns-in-None-clause-unknown
returns-in-None-clause-unknown c = sym (value_of_none c.args.self.now c.args.name.now (c.in-None.ensures.place ∙ ap located c.as_slice.ensures))
