-- What flips come to: each content gets the flag of the last flip that names it.
use Rattle.std.specs.Prelude.{◌≡◌, ◌≢◌, ℕ, Bool, false, not, nat_eq, Option, Some, None, List, []}
use Rattle.std.specs.Prelude.{◌∷◌, map, filter, option_map, unwrap_or, if◌then◌else◌, Result, Ok}
use Rattle.std.specs.Prelude.{Err}
use Rattle.std.specs.HashMap.{HashMap}
use Rattle.std.specs.List.{list_any, flat_map}
use Rattle.wc_text.specs.declared.names.Handle.{Handle}
use Rattle.wc_lines.specs.declared.line.Line.{Line}
use Rattle.wc_lines.specs.Flags.{flag_at}
use Rattle.wc_lines.specs.Held.{RingView}
use Rattle.wc_lines.specs.Ring.{has_content}
use Rattle.wc_model.specs.declared.change.Flip.{Flip}
use Rattle.wc_model.specs.declared.refused.ChangeRefused.{ChangeRefused}
use Rattle.wc_model.specs.Apply.{no_line}
use Rattle.wc_model.specs.Notices.{bool_eq}
use Rattle.wc_model.specs.Order.{order}
use Rattle.wc_model.specs.World.{World, lines_at}
use Rattle.wc_world.specs.Kept.{held_at}
use Rattle.wc_world.specs.Near.{numbers}
use Rattle.wc_world.specs.declared.on_flips.Plan.{Plan}

abbrev pub last_from : Option Bool → ℕ → List Flip → Option Bool
last_from flag content [] = flag
last_from flag content (flip ∷ flips) = last_from (if nat_eq flip.content.0 content
    then Some flip.displayed else flag) content flips

abbrev pub last_flag : List Flip → ℕ → Option Bool
last_flag flips content = last_from None content flips

-- ---- the lines of one buffer

abbrev pub has_number : ℕ → List Line → Bool
has_number content lines = has_content (record { 0 = content }) lines

-- whether a flag is another one
abbrev pub is_other : Option Bool → Bool → Bool
is_other None displayed = false
is_other (Some on) displayed = not (bool_eq displayed on)

-- whether a line gets another flag
abbrev pub differs : (ℕ → Option Bool) → Line → Bool
differs flags line = is_other (flags line.content.0) line.displayed

-- the lines that get another flag
abbrev pub differing_handles : (ℕ → Option Bool) → List Line → List Handle
differing_handles flags lines = map (λ (line : Line). line.content) (filter (differs flags) lines)

-- ---- the lines of all buffers

-- the lines that are stored for a buffer
abbrev pub stored_lines : {S : Type 0} → HashMap ℕ RingView S → ℕ → List Line
stored_lines m buffer = unwrap_or (option_map (λ (x : RingView). x.lines) (held_at m buffer)) []

abbrev pub is_stored : {S : Type 0} → HashMap ℕ RingView S → List ℕ → ℕ → Bool
is_stored m buffers content =
    list_any (λ buffer. has_number content (stored_lines m buffer)) buffers

abbrev pub all_differing : {S : Type 0} → (ℕ → Option Bool) → HashMap ℕ RingView S → List ℕ →
    List Handle
all_differing flags m buffers =
    flat_map (λ buffer. differing_handles flags (stored_lines m buffer)) buffers

-- whether a number is in a list
abbrev pub lies_in : ℕ → List ℕ → Bool
lies_in n ns = list_any (λ m. nat_eq m n) ns

-- ---- what is found before anything is written

pub record IsPlan (flips : List Flip) (world : World) (plan : Plan) : Type 0 where
  pub all_held : no_line flips world ≡ None
  pub last : (content : ℕ) → flag_at plan.flags content ≡ last_flag flips content
  pub ordered : numbers plan.order ≡ order world.groups
  pub found : plan.differing ≡ flat_map (λ buffer. differing_handles (last_flag flips)
      (lines_at world buffer)) (order world.groups)

abbrev pub Planned : List Flip → World → Result Plan ChangeRefused → Type 0
Planned flips world (Ok plan) = IsPlan flips world plan
Planned flips world (Err reason) = reason ≢ ChangeRefused.NoMemory → no_line flips world
    ≡ Some reason
