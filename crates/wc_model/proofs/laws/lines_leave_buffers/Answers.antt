use Rattle.wc_model.proofs.laws.lines_leave_buffers.Goals as goal
use Rattle.wc_model.proofs.WorldLemmas.{print_groups, clear_groups}

pub returns : goal.returns
returns c = record { print = λ world buffer line. print_groups world buffer line; clear = λ world buffer. clear_groups world buffer }
