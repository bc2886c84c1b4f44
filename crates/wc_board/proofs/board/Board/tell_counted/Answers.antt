use Rattle.std.proofs.Common.{ap, ◌∙◌}
use Rattle.wc_model.specs.Parts.{parts_of}
use Rattle.wc_board.specs.BoardView.{BoardView}
use Rattle.wc_board.specs.Served.{heard_number}
use Rattle.wc_board.proofs.board.Board.tell_counted.Goals as goal

pub returns-clause-none : goal.returns-clause-none
returns-clause-none g c = λ none.
    let parts = parts_of c.change_world.new.world c.in_ok-notice.notice in
    c.tell_notice-to_all.ensures.none (ap (λ (board : BoardView). heard_number board.connections parts) c.self.view_is ∙ none)

pub returns-clause-touched : goal.returns-clause-touched
returns-clause-touched g c = rw (← c.self.view_is) c.in_ok-notice.ensures.touched
