-- A handle that no buffer has.
use Rattle.std.proofs.Common.{◌≡◌, ℕ, ◌+◌, false, Option, Some, None, refl}
use Rattle.std.specs.Prelude.{option_map, is_some}
use Rattle.wc_text.specs.declared.names.Handle.{Handle}
use Rattle.wc_buffers.specs.Calls.{EntryGroups, handle_of, number, is_there}
use Rattle.wc_buffers.specs.Groups.{in_group, place}
use Rattle.wc_buffers.proofs.TableLemmas.{position_none}

none_by : (o : Option ℕ) → is_some (option_map (λ n. n + 1) o) ≡ false → o ≡ None
none_by None e = refl
none_by (Some n) e = absurd (cc)

pub absent : (h : Handle) (gs : EntryGroups) → is_some (number h gs) ≡ false → is_there h gs ≡ false
absent h gs e = position_none (in_group handle_of h.0) gs (none_by (place handle_of h.0 gs) e)
