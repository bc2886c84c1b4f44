use Rattle.std.proofs.Common.{false, sym, ◌∙◌, arith}
use Rattle.std.proofs.lemmas.Bool.{false≢true}
use Rattle.wc_turns.proofs.CloseLemmas.{LoopStep-refl}
use Rattle.wc_turns.proofs.ContainedLemmas.{KeepsLinks-refl}
use Rattle.wc_turns.proofs.ServeLemmas.{TakesWithin-refl}
use Rattle.wc_turns.specs.Sources.ReadsGuests.{ends}
use Rattle.wc_turns.proofs.serve.serve_unless_quit.Goals as goal

pub returns-then-quits : goal.returns-then-quits
returns-then-quits g c = record {
  continues = LoopStep-refl _ _;
  calm = c.requires.calm;
  contained = λ agrees. KeepsLinks-refl _;
  served = λ agrees on. absurd (false≢true (sym on ∙ sym c.quits.ensures ∙ c.if-quits.true));
  heard = λ good agrees on. absurd (false≢true (sym on ∙ sym c.quits.ensures ∙ c.if-quits.true));
  failed = λ bad. absurd (omega arith);
  within = TakesWithin-refl _;
  once = record { by = false; guests = ends };
}
