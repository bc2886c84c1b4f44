use Rattle.std.proofs.Common.{◌≡◌, ap, sym, ◌∙◌}
use Rattle.wc_core.specs.CoreView.{CoreView}
use Rattle.wc_core.proofs.CoreLemmas.{not_same, are_same}
use Rattle.wc_core.proofs.ServeLemmas.{stops-quit, stops-cut}
use Rattle.wc_core.proofs.core_state.Core.run_line.Goals as goal

pub returns-then-self-clause-stops : goal.returns-then-self-clause-stops
returns-then-self-clause-stops c = λ over.
    stops-quit c.args.self.now c.input.new.self c.args.buffer c.args.line.now c.requires.going (ap (λ (core : CoreView). core.quits) (sym c.self-2.view_is) ∙ c.if-self.true) c.input.ensures

pub returns-clause-goes_on : goal.returns-clause-goes_on
returns-clause-goes_on c = λ same. record {
  goes = ap (λ (core : CoreView). core.quits) (sym c.self-2.view_is) ∙ c.if-self.false;
  uncut =
      let following : c.self-2.inside.cuts ≡ c.input.new.self.cuts = ap (λ (core : CoreView). core.cuts) c.self-2.view_is in
      let before : c.self.inside.cuts ≡ c.args.self.now.cuts = ap (λ (core : CoreView). core.cuts) c.self.view_is in
      sym following ∙ are_same _ _ same ∙ before;
  runs = c.input.ensures;
}

pub returns-clause-stops : goal.returns-clause-stops
returns-clause-stops c = λ differs.
    let following : c.self-2.inside.cuts ≡ c.input.new.self.cuts = ap (λ (core : CoreView). core.cuts) c.self-2.view_is in
    let before : c.self.inside.cuts ≡ c.args.self.now.cuts = ap (λ (core : CoreView). core.cuts) c.self.view_is in
    stops-cut c.args.self.now c.input.new.self c.args.buffer c.args.line.now (λ same. not_same _ _ differs (following ∙ same ∙ sym before)) c.input.ensures
