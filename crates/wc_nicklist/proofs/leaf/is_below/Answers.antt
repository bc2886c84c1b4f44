use Rattle.std.proofs.Common.{◌≡◌, true, false, sym, ap, ◌∙◌}
use Rattle.std.specs.Prelude.{bytes_eq}
use Rattle.wc_nicklist.proofs.Paths.{below_alike, below_differs, below_empty}
use Rattle.wc_nicklist.proofs.leaf.is_below.Goals as goal

pub returns-then-eq : goal.returns-then-eq
returns-then-eq c =
    let t : bytes_eq c.in-Some.last.now c.args.name.now ≡ true = ap (λ l. bytes_eq l c.args.name.now) (sym c.as_slice.ensures) ∙ sym c.if-eq.ensures in
    c.same_path.ensures ∙ sym (below_alike c.args.path.now c.in-Some.front.now c.args.above.now c.in-Some.last.now c.args.name.now c.in-Some.ensures.cases.0 t)

pub returns-else-eq : goal.returns-else-eq
returns-else-eq c =
    let t : bytes_eq c.in-Some.last.now c.args.name.now ≡ false = ap (λ l. bytes_eq l c.args.name.now) (sym c.as_slice.ensures) ∙ sym c.if-eq.ensures in
    c.if-eq.false ∙ sym (below_differs c.args.path.now c.in-Some.front.now c.args.above.now c.in-Some.last.now c.args.name.now c.in-Some.ensures.cases.0 t)

pub returns-in-None : goal.returns-in-None
returns-in-None c = sym (below_empty c.args.path.now c.args.above.now c.args.name.now c.in-None.ensures.cases)
