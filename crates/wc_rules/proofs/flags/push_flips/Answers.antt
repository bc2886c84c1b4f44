use Rattle.std.proofs.Common.{rules, ◌≡◌, ◌∷◌, ◌++◌, [], true, false, refl, ap, sym, subst, ◌∙◌}
use Rattle.std.specs.Prelude.{All}
use Rattle.std.proofs.lemmas.List.Elements.{All-head, All-tail}
use Rattle.wc_filters.specs.Finders.{Ready}
use Rattle.wc_lines.specs.LineText.{HasUtf8Texts}
use Rattle.wc_lines.specs.LinesLeft.{lines_left}
use Rattle.wc_rules.specs.Displayed.{is_flipped, flips_of}
use Rattle.wc_rules.proofs.FlipLemmas.{listed, passed}
use Rattle.wc_rules.proofs.flags.push_flips.Goals as goal

pub loop-line-init : goal.loop-line-init
loop-line-init c =
    let seeker = c.args.seeker.now in
    let all : lines_left c.into_iter-line-iterator.result ≡ c.args.lines.now.lines = search rules in record {
      seeks = refl;
      text = subst (λ l. All HasUtf8Texts l) (sym all) c.iter-line-items.ensures.text;
      flips = ap (λ l. c.args.flips.now ++ flips_of seeker.filters seeker.name l) all;
    }

pub is_flipped-requires : goal.is_flipped-requires
is_flipped-requires c =
    let line = c.in-Some.line.now in
    let next : lines_left c.loop-line.line-iterator ≡ line ∷ lines_left c.next.new.self = search rules in
    All-head HasUtf8Texts line (lines_left c.next.new.self) (subst (λ l. All HasUtf8Texts l) next c.loop-line.invariant.text)

pub loop-line-preserved-in-Continue-1 : goal.loop-line-preserved-in-Continue-1
loop-line-preserved-in-Continue-1 c =
    let seeker = c.args.seeker.now in
    let line = c.in-Some.line.now in
    let rest = lines_left c.next.new.self in
    let next : lines_left c.loop-line.line-iterator ≡ line ∷ rest = search rules in
    let flipped : is_flipped seeker.filters seeker.name line ≡ true =
    ap (λ (r : Ready). is_flipped r.filters r.name line) (sym c.loop-line.invariant.seeks) ∙ sym c.is_flipped.ensures.found ∙ c.if-is_flipped.true in
    let put = c.in_ok-push.ensures.ok ∙ ap (λ f. c.loop-line.flips ++ f ∷ []) c.flip_of.ensures in record {
      seeks = c.is_flipped.ensures.same ∙ c.loop-line.invariant.seeks;
      text = All-tail HasUtf8Texts line rest (subst (λ l. All HasUtf8Texts l) next c.loop-line.invariant.text);
      flips = listed seeker.filters seeker.name _ rest line next c.loop-line.flips c.push.new.self _ flipped put c.loop-line.invariant.flips;
    }

pub loop-line-preserved : goal.loop-line-preserved
loop-line-preserved c =
    let seeker = c.args.seeker.now in
    let line = c.in-Some.line.now in
    let rest = lines_left c.next.new.self in
    let next : lines_left c.loop-line.line-iterator ≡ line ∷ rest = search rules in
    let same : is_flipped seeker.filters seeker.name line ≡ false =
    ap (λ (r : Ready). is_flipped r.filters r.name line) (sym c.loop-line.invariant.seeks) ∙ sym c.is_flipped.ensures.found ∙ c.if-is_flipped.false in record {
      seeks = c.is_flipped.ensures.same ∙ c.loop-line.invariant.seeks;
      text = All-tail HasUtf8Texts line rest (subst (λ l. All HasUtf8Texts l) next c.loop-line.invariant.text);
      flips = passed seeker.filters seeker.name _ rest line next c.loop-line.flips _ same c.loop-line.invariant.flips;
    }
