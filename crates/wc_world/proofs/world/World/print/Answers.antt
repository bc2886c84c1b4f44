use Rattle.std.proofs.Common.{◌∙◌, [], refl, ap, sym, subst, arith}
use Rattle.wc_lines.specs.LineText.{HasUtf8Texts}
use Rattle.wc_lines.specs.Ring.{with_line}
use Rattle.wc_buffers.proofs.RefusalLemmas.{there_good}
use Rattle.wc_model.specs.declared.change.What.TheVariants.{Print}
use Rattle.wc_world.specs.Kept.{world_of, printed_under, IsHeldChanged}
use Rattle.wc_world.specs.Nicks.{rows_map}
use Rattle.wc_world.proofs.CutTags.{line_text}
use Rattle.wc_world.proofs.Done.{printed_done, kept_printed}
use Rattle.wc_world.proofs.Refused.{by_world, print_spent, print_nowhere}
use Rattle.wc_world.proofs.world.World.print.Goals as goal

pub returns-in-Some : goal.returns-in-Some
returns-in-Some c = (refl, by_world (world_of c.self.inside.buffers c.self.inside.held (rows_map c.self.inside.nicks) c.self.inside.limit c.self.inside.next) c.args.self.now c.args.h (Print c.args.spec) _ c.self.view_is (print_nowhere (world_of c.self.inside.buffers c.self.inside.held (rows_map c.self.inside.nicks) c.self.inside.limit c.self.inside.next) c.args.h c.args.spec _ (sym c.no_buffer.ensures ∙ c.in-Some.is)))

pub returns-then-self-ge-LAST_HANDLE : goal.returns-then-self-ge-LAST_HANDLE
returns-then-self-ge-LAST_HANDLE c = (refl, by_world (world_of c.self.inside.buffers c.self.inside.held (rows_map c.self.inside.nicks) c.self.inside.limit c.self.inside.next) c.args.self.now c.args.h (Print c.args.spec) _ c.self.view_is (print_spent (world_of c.self.inside.buffers c.self.inside.held (rows_map c.self.inside.nicks) c.self.inside.limit c.self.inside.next) c.args.h c.args.spec (there_good c.args.h c.self.inside.buffers (sym c.no_buffer.ensures ∙ c.in_default.is)) (omega (arith, c.if-self-ge-LAST_HANDLE.true))))

pub put_line-requires-clause-there : goal.put_line-requires-clause-there
put_line-requires-clause-there c = c.self.invariant.0.stored c.args.h.0 ∙ (there_good c.args.h c.self.inside.buffers (sym c.no_buffer.ensures ∙ c.in_default.is))

pub put_line-requires-clause-text : goal.put_line-requires-clause-text
put_line-requires-clause-text c = subst HasUtf8Texts (sym c.in_ok-new.ensures.line) (line_text (printed_under c.self.inside.held c.args.h.0) c.self.inside.next c.args.spec c.requires)

pub invariant_of-self : goal.invariant_of-self
invariant_of-self c = (kept_printed c.self.inside.buffers c.self.inside.held c.put_line.new.held c.self.inside.limit c.self.inside.next c.args.h.0 c.in_ok-new.new.line (ap (λ l. l.content.0) c.in_ok-new.ensures.line) (omega (arith, c.if-self-ge-LAST_HANDLE.false)) c.put_line.ensures c.self.invariant.0, c.self.invariant.1)

pub returns : goal.returns
returns c =
    let new = c.in_ok-new.new in
    let put = subst (λ l. IsHeldChanged c.args.h.0 (λ x. with_line x l) c.self.inside.held c.put_line.new.held) c.in_ok-new.ensures.line c.put_line.ensures in
    printed_done c.self.inside.buffers c.self.inside.held c.put_line.new.held (rows_map c.self.inside.nicks) c.self.inside.limit c.self.inside.next c.self.invariant.0 c.args.h c.args.self.now c.args.spec new.news.full_name new.news.lines [] new.news.trims c.told_news.result c.self.view_is
    (there_good c.args.h c.self.inside.buffers (sym c.no_buffer.ensures ∙ c.in_default.is)) (omega (arith, c.if-self-ge-LAST_HANDLE.false)) put c.in_ok-new.ensures.name c.told_news.ensures c.in_ok-new.ensures.lines refl c.in_ok-new.ensures.trims
