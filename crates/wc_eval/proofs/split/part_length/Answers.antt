use Rattle.std.proofs.Common.{◌∙◌, arith}
use Rattle.wc_eval.specs.Cuts.{is_among}
use Rattle.wc_eval.proofs.CharacterLemmas.{before_none, before_more, before_end}
use Rattle.wc_eval.proofs.split.part_length.Goals as goal

pub returns-then-contains-clause-length : goal.returns-then-contains-clause-length
returns-then-contains-clause-length c = λ of known.
    let rest = c.characters.rest.now in
    let none = before_none (is_among of) c.in-Some.first.now c.in-Some.others.now rest
    c.in-Some.ensures.cases.0 (c.if-contains.ensures ∙ known c.in-Some.first.now) in
    omega (arith, none, c.characters.invariant.before of known, c.characters.invariant.shorter)

pub returns-clause-length : goal.returns-clause-length
returns-clause-length c = λ of known.
    let none = before_end (is_among of) c.characters.rest.now c.in_default.ensures.cases in
    omega (arith, none, c.in_default.ensures.cases, c.characters.invariant.before of known)

pub characters-preserved : goal.characters-preserved
characters-preserved c = record {
  before = λ of known.
      let more = before_more (is_among of) c.in-Some.first.now c.in-Some.others.now
      c.characters.rest.now c.in-Some.ensures.cases.0 (c.if-contains.ensures ∙ known c.in-Some.first.now) in
      omega (arith, more, c.characters.invariant.before of known, c.in-Some.ensures.cases.1);
  shorter = omega (arith, c.characters.invariant.shorter, c.in-Some.ensures.cases.1);
}
