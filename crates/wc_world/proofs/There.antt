-- A buffer that is there has a row.
use Rattle.std.proofs.Common.{◌≡◌, is_some, refl}
use Rattle.wc_text.specs.declared.names.Handle.{Handle}
use Rattle.wc_buffers.specs.Calls.{EntryGroups, handle_of, is_there, buffer_of}
use Rattle.wc_buffers.proofs.GroupLaws.{by_bool}
use Rattle.wc_world.proofs.GroupRows.{some_row, no_row}

-- whether a buffer is there, by its row
pub there_by_row : (h : Handle) (gs : EntryGroups) → is_some (buffer_of h gs) ≡ is_there h gs
there_by_row h gs = by_bool (is_there h gs) _
    (λ t. let r = some_row handle_of h.0 gs t in rw (t, r.1) refl)
    (λ t. rw (t, no_row handle_of h.0 gs t) refl)
