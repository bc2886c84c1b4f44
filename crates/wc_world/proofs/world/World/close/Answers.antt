use Rattle.std.proofs.Common.{◌≡◌, length, ap, arith}
use Rattle.wc_model.specs.declared.change.What.TheVariants.{Close}
use Rattle.wc_model.specs.Apply.{refusal_of, of_buffers}
use Rattle.wc_world.specs.Nicks.{list_at, rows_of, rows_map}
use Rattle.wc_world.proofs.NickLemmas.{removed_rows, rows_within, nicks_closed}
use Rattle.wc_world.proofs.Opened.{has_closed, closed_done, kept_closed}
use Rattle.wc_world.proofs.Refused.{groups_refused}
use Rattle.wc_world.proofs.world.World.close.Goals as goal

pub returns-in_err-close : goal.returns-in_err-close
unfolding refusal_of
returns-in_err-close c = groups_refused c.self.inside.buffers c.close.new.self c.self.inside.held (rows_map c.self.inside.nicks) c.self.inside.limit c.self.inside.next c.args.self.now c.args.h Close _ c.from_residual-in_err-close.result c.from_residual-in_err-close.ensures.1 c.in_err-close.ensures.err c.self.view_is (λ n. ap of_buffers c.in_err-close.ensures.refused)

-- the rows that go are counted
pub overflow_sub-self : goal.overflow_sub-self
overflow_sub-self c =
    let within = rows_within c.self.inside.buffers c.self.inside.buffers c.self.inside.nicks c.self.inside.nicks c.self.inside.row_count c.self.invariant.1 c.args.h.0 in
    let gone : c.remove-2.result ≡ length (rows_of (list_at c.self.inside.nicks c.args.h.0)) = c.remove-2.ensures.count in
    omega (arith, within, gone)

pub invariant_of-self-2 : goal.invariant_of-self-2
invariant_of-self-2 c =
    let within = rows_within c.self.inside.buffers c.self.inside.buffers c.self.inside.nicks c.self.inside.nicks c.self.inside.row_count c.self.invariant.1 c.args.h.0 in
    let gone : c.remove-2.result ≡ length (rows_of (list_at c.self.inside.nicks c.args.h.0)) = c.remove-2.ensures.count in (
      kept_closed c.self.inside.buffers c.close.new.self c.self.inside.held c.remove.new.held (rows_map c.self.inside.nicks) (rows_map c.remove-2.new.lists) c.self.inside.limit c.self.inside.next c.self.invariant.0 c.args.self.now c.self.view_is c.args.h c.in_ok-full_name.full_name c.told-notice.result c.in_ok-close.ensures.after c.remove.ensures,
      nicks_closed c.self.inside.buffers c.close.new.self c.self.inside.nicks c.remove-2.new.lists c.self.inside.row_count c.self.invariant.1 c.args.h.0 _ (omega (arith, within, gone)) c.remove-2.ensures.gone (has_closed c.self.inside.buffers c.close.new.self c.args.h c.in_ok-close.ensures.after),
    )

pub returns : goal.returns
returns c = closed_done c.self.inside.buffers c.close.new.self c.self.inside.held c.remove.new.held (rows_map c.self.inside.nicks) (rows_map c.remove-2.new.lists) c.self.inside.limit c.self.inside.next c.self.invariant.0 c.args.self.now c.self.view_is c.args.h c.in_ok-full_name.full_name c.told-notice.result c.in_ok-close.ensures.after c.in_ok-close.ensures.accepted c.remove.ensures
    (removed_rows c.self.inside.nicks c.remove-2.new.lists c.args.h.0 c.remove-2.ensures.gone) c.in_ok-full_name.ensures c.told-notice.ensures
