use Rattle.std.proofs.Common.{arith}
use Rattle.std.proofs.lemmas.List.{length-drop}
use Rattle.wc_scripted.proofs.CursorLemmas.{seek-placed, seek-given, seek-found, seek-begins}
use Rattle.wc_scripted.proofs.cursors.Cursor.seek.Goals as goal

pub returns-clause-placed : goal.returns-clause-placed
returns-clause-placed c =
    let place = rw c.split_at.ensures.back at c.before_link.ensures.place in
    let within = rw c.split_at.ensures.back at c.before_link.ensures.within in
    seek-placed c.args.link.0 c.args.steps.now c.args.self.now c.before_link.result c.requires place (omega (arith, length-drop c.args.self.now.step c.args.steps.now))

pub returns-clause-given : goal.returns-clause-given
returns-clause-given c = let place = rw c.split_at.ensures.back at c.before_link.ensures.place in seek-given c.args.link.0 c.args.steps.now c.args.self.now c.before_link.result c.requires place

pub returns-clause-found : goal.returns-clause-found
returns-clause-found c = let place = rw c.split_at.ensures.back at c.before_link.ensures.place in seek-found c.args.link.0 c.args.steps.now c.args.self.now.step c.before_link.result c.requires.within place

pub returns-clause-begins : goal.returns-clause-begins
returns-clause-begins c = let place = rw c.split_at.ensures.back at c.before_link.ensures.place in seek-begins c.args.link.0 c.args.steps.now c.args.self.now.step c.before_link.result place
