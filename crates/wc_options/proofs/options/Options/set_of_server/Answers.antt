use Rattle.std.proofs.Common.{◌≡◌, ◌≤◌, ◌∙◌, sym, ap, not, length, arith, subst}
use Rattle.wc_options.specs.Options.{OptionsValue}
use Rattle.wc_options.proofs.ReadLemmas.{with_own_there, with_own_made, made-some, made-none, refusal_there, refusal_full}
use Rattle.wc_options.proofs.options.Options.set_of_server.Goals as goal

pub returns-in-Some-clause-after : goal.returns-in-Some-clause-after
returns-in-Some-clause-after c = c.put_own.ensures ∙ with_own_there c.args.self.now c.args.name.now c.in-Some.found c.args.place c.args.value c.in-Some.ensures

pub returns-in-Some-clause-made : goal.returns-in-Some-clause-made
returns-in-Some-clause-made c = sym (ap not (made-some c.args.self.now c.args.name.now c.in-Some.found c.in-Some.ensures))

pub returns-in-Some-clause-accepted : goal.returns-in-Some-clause-accepted
returns-in-Some-clause-accepted c =
    refusal_there c.args.self.now c.args.name.now c.args.place c.args.value c.requires.fits.0 (made-some c.args.self.now c.args.name.now c.in-Some.found c.in-Some.ensures)

pub returns-then-len-ge-MOST_SERVERS-clause-refused : goal.returns-then-len-ge-MOST_SERVERS-clause-refused
returns-then-len-ge-MOST_SERVERS-clause-refused c ne =
    let full : 64 ≤ length c.args.self.now.servers = subst (λ (o : OptionsValue). 64 ≤ length o.servers) c.self.view_is (omega arith) in
    refusal_full c.args.self.now c.args.name.now c.args.place c.args.value c.requires.fits.0 (made-none c.args.self.now c.args.name.now c.in-None.ensures) full

pub make_server-requires-clause-absent : goal.make_server-requires-clause-absent
make_server-requires-clause-absent c = made-none c.args.self.now c.args.name.now c.in-None.ensures

pub returns-in-Ok-clause-after : goal.returns-in-Ok-clause-after
returns-in-Ok-clause-after c = c.in-Ok.ensures.after ∙ with_own_made c.args.self.now c.args.name.now c.args.place c.args.value c.in-None.ensures

pub returns-in-Ok-clause-made : goal.returns-in-Ok-clause-made
returns-in-Ok-clause-made c = sym (ap not (made-none c.args.self.now c.args.name.now c.in-None.ensures))
