use Rattle.std.proofs.Common.{◌≡◌, ◌∙◌, sym, ap}
use Rattle.wc_options.specs.Place.{located_of}
use Rattle.wc_options.proofs.KeptLemmas.{refusal_of_some, refusal_of_none, with_value_some, makes_some}
use Rattle.wc_options.proofs.options.Options.set_bytes.Goals as goal

pub returns-in-Some-clause-after : goal.returns-in-Some-clause-after
returns-in-Some-clause-after c =
    rw (with_value_some c.args.self.now c.args.name.now c.args.value.now (located_of c.in-Some.place) c.in-Some.ensures.place) c.set_at.ensures.after

pub returns-in-Some-clause-made : goal.returns-in-Some-clause-made
returns-in-Some-clause-made c =
    rw (makes_some c.args.self.now c.args.name.now (located_of c.in-Some.place) c.in-Some.ensures.place) c.set_at.ensures.made

pub returns-in-Some-clause-accepted : goal.returns-in-Some-clause-accepted
returns-in-Some-clause-accepted c =
    rw (refusal_of_some c.args.self.now c.args.name.now c.args.value.now (located_of c.in-Some.place) c.in-Some.ensures.place) c.set_at.ensures.accepted

pub returns-in-Some-clause-refused : goal.returns-in-Some-clause-refused
returns-in-Some-clause-refused c =
    rw (refusal_of_some c.args.self.now c.args.name.now c.args.value.now (located_of c.in-Some.place) c.in-Some.ensures.place) c.set_at.ensures.refused

pub returns-in-None-clause-refused : goal.returns-in-None-clause-refused
returns-in-None-clause-refused c ne = refusal_of_none c.args.self.now c.args.name.now c.args.value.now c.in-None.ensures.place
