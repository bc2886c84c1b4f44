use Rattle.std.proofs.Common.{◌∙◌, arith}
use Rattle.wc_turns.proofs.TurnLemmas.{LoopStep-trans}
use Rattle.wc_turns.proofs.logins.serve_link.Goals as goal

pub returns-then-stand_link-clause-continues : goal.returns-then-stand_link-clause-continues
returns-then-stand_link-clause-continues g c =
    let seen = g.S.Sockets.seen in
    LoopStep-trans c.args.headless.now c.stand_link.new.headless c.read_link-then-stand_link.new.headless (seen c.args.sockets.now) (seen c.stand_link.new.sockets) (seen c.read_link-then-stand_link.new.sockets) c.stand_link.ensures.continues c.read_link-then-stand_link.ensures.continues

pub returns-then-stand_link-clause-within : goal.returns-then-stand_link-clause-within
returns-then-stand_link-clause-within g c = λ t.
    let stood = c.stand_link.ensures.nothing.bytes (c.read_link-then-stand_link.ensures.continues.told t) c.args.link.0 in
    let read = c.read_link-then-stand_link.ensures.within t in
    omega arith

pub returns-then-stand_link-clause-others : goal.returns-then-stand_link-clause-others
returns-then-stand_link-clause-others g c = λ t other apart.
    c.read_link-then-stand_link.ensures.others t other apart ∙ c.stand_link.ensures.nothing.bytes (c.read_link-then-stand_link.ensures.continues.told t) other

pub returns-else-stand_link-clause-within : goal.returns-else-stand_link-clause-within
returns-else-stand_link-clause-within g c = λ t.
    let stood = c.stand_link.ensures.nothing.bytes t c.args.link.0 in
    omega arith
