-- The last of some lines.
use Rattle.std.proofs.Common.{◌≡◌, Some, None, List, [], ◌∷◌, ◌++◌, refl}
use Rattle.wc_hdata.specs.declared.place.HeldLine.{HeldLine as Lent}
use Rattle.wc_hdata.specs.Reached.{held_line, held_lines}
use Rattle.wc_hdata.specs.Values.{last_of}

pub last_is : (front : List Lent) (held : Lent) → last_of (held_lines (front ++ held ∷ [])) ≡ Some (held_line held)
last_is [] held = refl
last_is (first ∷ []) held = refl
last_is (first ∷ (second ∷ front)) held = last_is (second ∷ front) held

pub no_last : last_of [] ≡ None
no_last = refl
