-- The names of an evaluation as they are stored.
use Rattle.std.specs.Prelude.{ℕ, List, map, String, string_bytes}
use Rattle.std.specs.declared.alloc.Global.{Global}
use Rattle.std.specs.declared.vec.Vec.{Vec}

abbrev pub Stored : Type 0
Stored = List (Vec ℕ Global × String Global)

abbrev pub names_of : Stored → List (List ℕ × List ℕ)
names_of stored = map (λ e. (e.0.items, string_bytes e.1)) stored
