-- What is noticed of a buffer in these groups.
use Rattle.std.specs.Prelude.{ℕ, List, [], unwrap_or}
use Rattle.wc_text.specs.declared.names.Handle.{Handle}
use Rattle.wc_buffers.specs.Calls.{EntryGroups, number}
use Rattle.wc_model.specs.declared.notice.EventKind.{EventKind}
use Rattle.wc_model.specs.declared.notice.Notice.{Notice}
use Rattle.wc_model.specs.declared.notice.Trim.{Trim}
use Rattle.wc_model.specs.Order.{prev_of, next_of}

-- under a name that was read before
abbrev pub told_with : EventKind → Handle → EntryGroups → List ℕ → List Handle → List Handle →
    List Trim → Notice
told_with kind h groups name lines flips trims = record {
  kind = kind;
  buffer = h;
  number = unwrap_or (number h groups) 0;
  full_name = name;
  prev = record { 0 = prev_of h.0 groups };
  next = record { 0 = next_of h.0 groups };
  lines = lines;
  flips = flips;
  trims = trims;
}

-- the same where no line went
abbrev pub told_at : EventKind → Handle → EntryGroups → List ℕ → List Handle → List Handle → Notice
told_at kind h groups name lines flips = told_with kind h groups name lines flips []
