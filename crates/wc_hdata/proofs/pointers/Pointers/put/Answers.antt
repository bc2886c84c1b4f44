use Rattle.std.proofs.Common.{arith, ◌<◌, ◌≤◌, ℕ, length, sym, subst, ap, length-set}
use Rattle.std.proofs.lemmas.List.Elements.{All-set}
use Rattle.wc_objects.specs.Spelling.{pointer_bytes}
use Rattle.wc_hdata.specs.Pointers.{IsPointer}
use Rattle.wc_hdata.proofs.SpelledLemmas.{less_fits, put_bytes}
use Rattle.wc_hdata.proofs.pointers.Pointers.put.Goals as goal

pub bytes_after-self-inside-requires-clause-less : goal.bytes_after-self-inside-requires-clause-less
bytes_after-self-inside-requires-clause-less c =
    let was = c.self.invariant in
    let within = subst (λ l. c.args.place < length l) (sym c.self.view_is) c.requires in
    subst (λ (p : ℕ). length (pointer_bytes p) ≤ c.self.inside.bytes) (sym c.index-old.ensures)
    (less_fits c.self.inside.items.items c.self.inside.bytes c.args.place c.args.pointer _ was.bytes within was.few was.numbers c.ranges.pointer.fits).0

pub bytes_after-self-inside-requires-clause-fits : goal.bytes_after-self-inside-requires-clause-fits
bytes_after-self-inside-requires-clause-fits c =
    let was = c.self.invariant in
    let within = subst (λ l. c.args.place < length l) (sym c.self.view_is) c.requires in
    (less_fits c.self.inside.items.items c.self.inside.bytes c.args.place c.args.pointer 0 was.bytes within was.few was.numbers c.ranges.pointer.fits).1

pub invariant_of-self : goal.invariant_of-self
invariant_of-self c =
    let was = c.self.invariant in
    let few = was.few in
    let within = subst (λ l. c.args.place < length l) (sym c.self.view_is) c.requires in
    let same = length-set c.self.inside.items.items c.args.place c.args.pointer in
    let one = ap (λ (p : ℕ). length (pointer_bytes p)) c.index-old.ensures in
    record {
      bytes = put_bytes c.self.inside.items.items c.self.inside.bytes _ c.args.place c.args.pointer c.index-old.result.now was.bytes within (omega (arith, one, c.bytes_after-self-inside.ensures));
      few = omega (arith, few, same);
      numbers = All-set IsPointer c.self.inside.items.items c.args.place c.args.pointer c.ranges.pointer.fits was.numbers;
    }
