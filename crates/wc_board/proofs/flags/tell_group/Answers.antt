use Rattle.std.proofs.Common.{◌≡◌, ◌+◌, ◌++◌, ◌∷◌, [], ap, ◌∙◌, arith, drop, get_or}
use Rattle.std.proofs.lemmas.List.{drop_more, drop_all}
use Rattle.wc_text.specs.declared.names.Handle.{Handle}
use Rattle.wc_world.specs.Near.{numbers}
use Rattle.wc_board.specs.Served.{flags_of}
use Rattle.wc_board.proofs.FlagLemmas.{flags_more, telling_more, telling_last}
use Rattle.wc_board.proofs.flags.tell_group.Goals as goal

pub loop-buffer-init : goal.loop-buffer-init
loop-buffer-init g c = record { tells = λ u final m told. told }

pub loop-buffer-preserved : goal.loop-buffer-preserved
loop-buffer-preserved g c =
    let w = c.args.world.now in
    let flips = c.args.flips.now in
    let group = c.args.group.now in
    let i = c.loop-buffer.buffer-index in
    let h : Handle = get_or group i (record { 0 = 0 }) in
    let rest = numbers (drop (i + 1) group) in
    let next : drop i group ≡ h ∷ drop (i + 1) group = drop_more group i (record { 0 = 0 }) c.loop-buffer-test.true in
    let split : flags_of w flips (numbers (drop i group)) ≡ flags_of w flips (h.0 ∷ []) ++ flags_of w flips rest = ap (λ hs. flags_of w flips (numbers hs)) next ∙ flags_more w flips (h.0 ∷ []) rest in
    record {
      tells = telling_more w (flags_of w flips (numbers group)) (flags_of w flips (numbers (drop i group))) (flags_of w flips (h.0 ∷ [])) (flags_of w flips rest) c.loop-buffer.told c.tell_buffer-buffer_told.result
          c.args.clients.now c.loop-buffer.clients c.tell_buffer-buffer_told.new.clients c.args.spellings.now c.loop-buffer.spellings c.tell_buffer-buffer_told.new.spellings
          split c.loop-buffer.invariant.tells c.tell_buffer-buffer_told.ensures;
    }

pub returns : goal.returns
returns g c =
    let w = c.args.world.now in
    let flips = c.args.flips.now in
    let group = c.args.group.now in
    let i = c.loop-buffer.buffer-index in
    let end : drop i group ≡ [] = drop_all i group (omega arith) in
    telling_last w (flags_of w flips (numbers group)) (flags_of w flips (numbers (drop i group))) c.loop-buffer.told c.args.clients.now c.loop-buffer.clients c.args.spellings.now c.loop-buffer.spellings
    (ap (λ hs. flags_of w flips (numbers hs)) end) c.loop-buffer.invariant.tells
