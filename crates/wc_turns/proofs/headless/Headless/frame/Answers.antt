use Rattle.std.proofs.Common.{refl, arith}
use Rattle.wc_text.specs.declared.names.Cause.TheVariants.{NoMemory}
use Rattle.wc_turns.proofs.ContainedLemmas.{starved-counted}
use Rattle.wc_turns.proofs.LossLemmas.{LosesLink-of}
use Rattle.wc_turns.proofs.SocketLemmas.{Loses-starved, Loses-broken}
use Rattle.wc_turns.proofs.headless.Headless.frame.Goals as goal

pub returns-in-Some-NoMemory : goal.returns-in-Some-NoMemory
returns-in-Some-NoMemory c =
    let e = c.link_gone.ensures in
    let mid = c.frame_unsent.new.self in
    let loses = LosesLink-of mid.core c.link_gone.new.self c.args.link.0 NoMemory e.does e.stays e.gone e.servers (record { does = e.does; contained = e.contained; counted = e.counts; drops = e.drops }) in
    Loses-starved c.args.link.0 c.args.self.now mid _ (rw c.in-Some-NoMemory.field-0-is at c.in-Some-NoMemory.ensures) refl loses (starved-counted mid.core.starved mid.core.starved c.link_gone.new.self.starved (omega arith) loses.keeps.rises (e.counted refl))

pub returns-in-Some-NotTaken : goal.returns-in-Some-NotTaken
returns-in-Some-NotTaken c =
    let e = c.link_gone-in-Some-NotTaken.ensures in
    Loses-broken c.args.link c.args.self.now c.frame_unsent.new.self _ (rw c.in-Some-NotTaken.field-0-is at c.in-Some-NotTaken.ensures) (e.broken refl) e.core
