-- What a mirror has of a buffer.
use Rattle.std.proofs.Common.{◌≡◌, ℕ, List, [], Option, Some, None, refl}
use Rattle.std.specs.Prelude.{option_map, unwrap_or}
use Rattle.std.specs.FinMap.{get}
use Rattle.std.specs.Option.{option_and_then}
use Rattle.wc_nicklist.specs.declared.item.Row.{Row}
use Rattle.wc_view.specs.declared.mirror_buffer.MirrorLine.{MirrorLine}
use Rattle.wc_view.specs.Parts.{Part, lines_at}
use Rattle.wc_view.specs.NickFold.{NickPart}
use Rattle.wc_demo.specs.MirrorCounts.{lines_held, rows_held}

pub mirrored_some : (o : Option Part) (buffer : ℕ) (lines : List MirrorLine) → Some lines ≡ option_map (λ part. lines_at part buffer) o → lines ≡ lines_held o buffer
mirrored_some None buffer lines e = cc
mirrored_some (Some part) buffer lines e = cc

pub mirrored_none : (o : Option Part) (buffer : ℕ) → None ≡ option_map (λ part. lines_at part buffer) o → lines_held o buffer ≡ []
mirrored_none None buffer e = refl
mirrored_none (Some part) buffer e = cc

pub held_rows : (o : Option NickPart) (buffer : ℕ) (found : Option (List Row)) → found ≡ option_and_then (λ part. get part buffer) o → unwrap_or found [] ≡ rows_held o buffer
held_rows None buffer found e = rw e
held_rows (Some part) buffer found e = rw e
