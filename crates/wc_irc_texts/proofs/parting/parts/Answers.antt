use Rattle.std.proofs.Common.{◌≡◌, ◌<◌, List, [], ◌∷◌, ◌++◌, ℕ, length, ap, sym, ◌∙◌, subst, arith, IsUtf8}
use Rattle.std.proofs.lemmas.Bool.Decides.{nat_tests}
use Rattle.wc_irc_texts.proofs.PartLemmas.{after_utf8, after_shorter, part_taken, parts_end}
use Rattle.wc_irc_texts.proofs.parting.parts.Goals as goal

pub loop-rest-smaller : goal.loop-rest-smaller
loop-rest-smaller c =
    let rest = c.loop-rest.rest.now in
    let some : 0 < length rest = grind (arith, nat_tests) in
    omega (arith, ap (λ (l : List ℕ). length l) c.cut_part.ensures.rest, after_shorter rest c.args.room c.requires.room c.loop-rest.invariant.utf8 some)

pub loop-rest-preserved : goal.loop-rest-preserved
loop-rest-preserved c =
    let rest = c.loop-rest.rest.now in
    let some : 0 < length rest = grind (arith, nat_tests) in
    record {
      utf8 = subst IsUtf8 (sym c.cut_part.ensures.rest) (after_utf8 rest c.args.room c.requires.room c.loop-rest.invariant.utf8 some);
      same = part_taken c.push.new.self c.loop-rest.parts c.cut_part.result.0.now c.cut_part.result.1.now rest c.args.text.now c.args.room c.requires.room c.loop-rest.invariant.utf8 some c.cut_part.ensures.part c.cut_part.ensures.rest
          (c.in_ok-push.ensures.ok ∙ ap (λ (t : List ℕ). c.loop-rest.parts ++ t ∷ []) c.in_ok-from_slice.ensures) c.loop-rest.invariant.same;
    }

pub returns : goal.returns
returns c =
    let none : length c.loop-rest.rest.now ≡ 0 = grind (arith, nat_tests) in
    parts_end c.loop-rest.parts c.loop-rest.rest.now c.args.text.now c.args.room none c.loop-rest.invariant.same
