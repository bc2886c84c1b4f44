-- The walks of the dumps give fewer pointers than a walk may, and one that has too many bytes is too
-- long for a message.
use Rattle.std.proofs.Common.{◌≡◌, ℕ, suc, ◌+◌, ◌*◌, ◌≤◌, false, cond, List, [], ◌∷◌, ◌++◌, map, length, Some, None, arith, refl, ap, ◌∙◌, length-append}
use Rattle.std.specs.Prelude.{nat_lt}
use Rattle.std.proofs.lemmas.Bool.Decides.{nat_tests}
use Rattle.std.proofs.lemmas.List.{length-map}
use Rattle.std.proofs.lemmas.List.Concat.{flat_map-append}
use Rattle.wc_text.specs.declared.names.Handle.{Handle}
use Rattle.wc_buffers.specs.Calls.{buffer_of}
use Rattle.wc_buffers.specs.Groups.{rows}
use Rattle.wc_model.specs.World.{World, lines_at}
use Rattle.wc_hdata.specs.Dumps.{AreShort, buffers_path, lines_path}
use Rattle.wc_hdata.specs.Lists.{held_by}
use Rattle.wc_hdata.specs.Reached.{HeldLine, Buffer, Line_at}
use Rattle.wc_hdata.specs.Refusals.{most_visits, too_many, walk_refusal}
use Rattle.wc_hdata.specs.Starts.{starts}
use Rattle.wc_hdata.specs.Steps.{all_buffers, reach}
use Rattle.wc_hdata.specs.Walk.{Node, nodes_at, node_at, onward, onward_all, visits, row_number}
use Rattle.wc_hdata.proofs.DumpWalks.{to_list, to_lines, to_data, all_handles, handle}

-- the buffers as nodes
abbrev buffer_nodes : World → List Handle → List Node
buffer_nodes world buffers = nodes_at world.groups [] (map Buffer buffers)

abbrev list_nodes : World → List Handle → List Node
list_nodes world buffers = onward_all world to_list (buffer_nodes world buffers)

abbrev line_nodes : World → List Handle → List Node
line_nodes world buffers = onward_all world to_lines (list_nodes world buffers)

abbrev data_nodes : World → List Handle → List Node
data_nodes world buffers = onward_all world to_data (line_nodes world buffers)

as_many_buffers : (world : World) (buffers : List Handle) → length (buffer_nodes world buffers) ≡ length buffers
as_many_buffers world [] = refl
as_many_buffers world (buffer ∷ buffers) = ap (λ n. suc n) (as_many_buffers world buffers)

as_many_lists : (world : World) (buffers : List Handle) → length (list_nodes world buffers) ≡ length buffers
unfolding reach
as_many_lists world [] = refl
as_many_lists world (buffer ∷ buffers) = ap (λ n. suc n) (as_many_lists world buffers)

-- ---- the lines of one buffer

abbrev own : World → Handle → ℕ
own world buffer = row_number (λ row. row.own_lines.0) (buffer_of buffer world.groups)

abbrev lines_from : World → Handle → List Node
lines_from world buffer = nodes_at world.groups (buffer.0 ∷ own world buffer ∷ []) (map Line_at (map (held_by buffer) (lines_at world buffer.0)))

as_many_lines : (world : World) (buffer : Handle) → length (lines_from world buffer) ≡ length (lines_at world buffer.0)
as_many_lines world buffer =
    length-map (map Line_at (map (held_by buffer) (lines_at world buffer.0))) (node_at world.groups (buffer.0 ∷ own world buffer ∷ []))
    ∙ length-map (map (held_by buffer) (lines_at world buffer.0)) Line_at ∙ length-map (lines_at world buffer.0) (held_by buffer)

as_many_data : (world : World) (pointers : List ℕ) (lines : List HeldLine) → length (onward_all world to_data (nodes_at world.groups pointers (map Line_at lines))) ≡ length lines
unfolding reach
as_many_data world pointers [] = refl
as_many_data world pointers (line ∷ lines) = ap (λ n. suc n) (as_many_data world pointers lines)

first_lines : (world : World) (buffer : Handle) (buffers : List Handle) → line_nodes world (buffer ∷ buffers) ≡ lines_from world buffer ++ line_nodes world buffers
unfolding reach
first_lines world buffer buffers = refl

first_data : (world : World) (buffer : Handle) (buffers : List Handle) → data_nodes world (buffer ∷ buffers) ≡ onward_all world to_data (lines_from world buffer) ++ data_nodes world buffers
first_data world buffer buffers =
    ap (onward_all world to_data) (first_lines world buffer buffers) ∙ flat_map-append (onward world to_data) (lines_from world buffer) (line_nodes world buffers)

few_lines : (world : World) (buffers : List Handle) → AreShort world → length (line_nodes world buffers) ≤ 4096 * length buffers
few_lines world [] short = omega arith
few_lines world (buffer ∷ buffers) short =
    let parts : length (line_nodes world (buffer ∷ buffers)) ≡ length (lines_from world buffer) + length (line_nodes world buffers) =
    ap length (first_lines world buffer buffers) ∙ length-append (lines_from world buffer) (line_nodes world buffers) in
    let most = short buffer.0 in
    omega (arith, parts, as_many_lines world buffer, most, few_lines world buffers short)

few_data : (world : World) (buffers : List Handle) → AreShort world → length (data_nodes world buffers) ≤ 4096 * length buffers
few_data world [] short = omega arith
few_data world (buffer ∷ buffers) short =
    let here = onward_all world to_data (lines_from world buffer) in
    let parts : length (data_nodes world (buffer ∷ buffers)) ≡ length here + length (data_nodes world buffers) =
    ap length (first_data world buffer buffers) ∙ length-append here (data_nodes world buffers) in
    let same : length here ≡ length (lines_at world buffer.0) =
    as_many_data world (buffer.0 ∷ own world buffer ∷ []) (map (held_by buffer) (lines_at world buffer.0)) ∙ length-map (lines_at world buffer.0) (held_by buffer) in
    let most = short buffer.0 in
    omega (arith, parts, same, most, few_data world buffers short)

-- ---- the visits

as_many_handles : (world : World) → length (all_buffers world.groups) ≡ length (rows world.groups)
as_many_handles world = ap length (all_handles world.groups) ∙ length-map (rows world.groups) handle

within : (n : ℕ) → n ≤ 4194304 → cond (nat_lt most_visits n) (Some too_many) None ≡ None
within n few =
    let t : nat_lt most_visits n ≡ false = grind (arith, nat_tests) in
    rw t refl

pub buffers_accepted : (world : World) → length (rows world.groups) ≤ 256 → walk_refusal world buffers_path ≡ None
unfolding walk_refusal starts
buffers_accepted world few =
    let buffers = all_buffers world.groups in
    within (visits world [] (buffer_nodes world buffers)) (omega (arith, few, as_many_buffers world buffers, as_many_handles world))

pub lines_accepted : (world : World) → length (rows world.groups) ≤ 256 → AreShort world → walk_refusal world lines_path ≡ None
unfolding walk_refusal starts
lines_accepted world few short =
    let buffers = all_buffers world.groups in
    within (visits world (to_list ∷ to_lines ∷ to_data ∷ []) (buffer_nodes world buffers))
    (omega (arith, few, as_many_handles world, as_many_buffers world buffers, as_many_lists world buffers, few_lines world buffers short, few_data world buffers short))
