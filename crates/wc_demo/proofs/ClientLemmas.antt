-- Messages that a mirror takes one after another.
use Rattle.std.proofs.Common.{◌≡◌, ℕ, ◌<◌, List, [], ◌∷◌, drop, Option, Some, None, refl, ap, ◌∙◌, arith}
use Rattle.std.specs.Prelude.{Result, Ok, Err}
use Rattle.wc_objects.specs.declared.object.WireMessage.{WireMessage}
use Rattle.wc_objects.specs.Reading.{first_message}
use Rattle.wc_view.specs.Taking.{MirrorParts, TakesMessage}
use Rattle.wc_demo.specs.Client.{TakesOne, TakesAll}

takes_by : (read : Result (Option (WireMessage × ℕ)) ℕ) (size : ℕ) (old new : MirrorParts) (bytes left : List ℕ) → first_message bytes ≡ read → 0 < size → left ≡ drop size bytes
    → TakesMessage (Ok size) old new read → TakesOne old bytes new left
takes_by (Ok (Some found)) size old new bytes left e some rest t =
    (found.0, record { size = found.1; front = e; rest = rest ∙ ap (λ n. drop n bytes) t.0; folds = t.1 })
takes_by (Ok None) size old new bytes left e some rest t = absurd (omega (arith, t.0))
takes_by (Err place) size old new bytes left e some rest t = absurd t

pub takes_one : (size : ℕ) (old new : MirrorParts) (bytes left : List ℕ) → 0 < size → left ≡ drop size bytes → TakesMessage (Ok size) old new (first_message bytes) → TakesOne old bytes new left
takes_one size old new bytes left some rest t = takes_by (first_message bytes) size old new bytes left refl some rest t

pub takes_none : (old new : MirrorParts) (bytes : List ℕ) → bytes ≡ [] → new ≡ old → TakesAll old bytes new
takes_none old new bytes e same = record { messages = []; each = (e, same) }

pub takes_more : (old between new : MirrorParts) (bytes left : List ℕ) → TakesOne old bytes between left → TakesAll between left new → TakesAll old bytes new
takes_more old between new bytes left one all = record { messages = one.0 ∷ all.messages; each = (between, left, one.1, all.each) }
