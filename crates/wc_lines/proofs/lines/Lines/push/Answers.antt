use Rattle.std.proofs.Common.{◌∷◌, ◌++◌, [], drop, sym, subst, ◌∙◌, ap, arith}
use Rattle.std.specs.Prelude.{All}
use Rattle.std.proofs.lemmas.List.Elements.{All-drop}
use Rattle.wc_lines.specs.LineText.{HasUtf8Texts}
use Rattle.wc_lines.proofs.RingLemmas.{all_with_line, popped_len, oldest_text}
use Rattle.wc_lines.proofs.lines.Lines.push.Goals as goal

pub invariant_of-self : goal.invariant_of-self
invariant_of-self c =
    let was = c.self.invariant in
    let now = c.push_back_reserved.ensures in
    record {
      some = was.some;
      most = was.most;
      within = omega (arith, now.len);
      room = was.room;
      taken = omega (arith, now.capacity, was.taken);
      text = subst (All HasUtf8Texts) (sym now.items) (all_with_line c.self.inside.queue.items c.args.line was.text c.requires);
    }

pub invariant_of-self-2 : goal.invariant_of-self-2
invariant_of-self-2 c =
    let was = c.self.invariant in
    let popped = c.pop_front-oldest.ensures in
    let now = c.push_back_reserved-2.ensures in
    record {
      some = was.some;
      most = was.most;
      within = omega (arith, now.len, popped_len c.pop_front-oldest.result _ _ popped.cases (omega (arith, was.some)));
      room = was.room;
      taken = omega (arith, now.capacity, popped.capacity, was.taken);
      text = subst (All HasUtf8Texts) (sym (now.items ∙ ap (λ lines. lines ++ c.args.line ∷ []) popped.rest))
          (all_with_line (drop 1 c.self.inside.queue.items) c.args.line (All-drop HasUtf8Texts 1 c.self.inside.queue.items was.text) c.requires);
    }

pub returns-clause-text : goal.returns-clause-text
returns-clause-text c = let popped = c.pop_front-oldest.ensures in oldest_text c.pop_front-oldest.result c.self.inside.queue.items _ popped.items c.self.invariant.text
