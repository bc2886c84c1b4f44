use Rattle.std.proofs.Common.{◌≡◌, ◌∙◌, map, length, ap, sym, subst}
use Rattle.std.proofs.lemmas.List.{length-map}
use Rattle.std.specs.Prelude.{All}
use Rattle.wc_lines.specs.Flags.{flag_at, with_own_flag}
use Rattle.wc_lines.specs.LineText.{HasUtf8Texts}
use Rattle.wc_lines.proofs.FlagLemmas.{all_flagged}
use Rattle.wc_lines.proofs.lines.Lines.set_flags.Goals as goal

pub invariant_of-self : goal.invariant_of-self
invariant_of-self c =
    let was = c.self.invariant in
    let F = with_own_flag (flag_at c.args.flags.now) in
    let value = c.make_contiguous.ensures.value in
    let lines : c.set_flags.new.lines ≡ map F c.self.inside.queue.items = c.set_flags.ensures ∙ ap (map F) value in
    let as_many = ap length c.set_flags.ensures ∙ length-map c.make_contiguous.result.now F ∙ c.make_contiguous.ensures.len in
    record {
      some = was.some;
      most = was.most;
      within = was.within;
      room = was.room;
      taken = was.taken;
      text = subst (All HasUtf8Texts) (sym (c.make_contiguous.ensures.writes_back c.set_flags.new.lines as_many ∙ lines)) (all_flagged (flag_at c.args.flags.now) c.self.inside.queue.items was.text);
    }
