use Rattle.std.proofs.Common.{◌≡◌, ◌≤◌, ℕ, Bool, true, false, ap, refl, sym, subst, ◌∙◌}
use Rattle.wc_outside.specs.Keyed.{at_key}
use Rattle.wc_board.specs.Connections.{connection_link, is_open_at}
use Rattle.wc_core.specs.CoreView.{CoreView}
use Rattle.wc_core.specs.Served.{plain_beside}
use Rattle.wc_core.specs.Step.{client_link, leave_step, link_loss_step}
use Rattle.wc_core.specs.Contained.{Counts, lost_number, RunsHere}
use Rattle.wc_core.proofs.CoreLemmas.{client-lost}
use Rattle.wc_core.proofs.LinkLemmas.{open-does, shut-chooses, stays-shut, loss-contains, loss-does, loss-more, loss-counts, loss-board}
use Rattle.wc_core.proofs.RunLemmas.{does-here, contains-here, counts-here, board-here}
use Rattle.wc_core.proofs.core_state.Core.link_gone.Goals as goal

pub lose_client-requires : goal.lose_client-requires
lose_client-requires c =
    let P : CoreView → Type 0 = λ core. is_open_at (at_key connection_link c.args.link.0 core.connections) ≡ true in
    subst P c.self.view_is (sym c.is_open.ensures ∙ c.if-is_open.true)

-- ---- an open client

-- it leaves
leaves-here : (c : goal.After-lose_client) → RunsHere c.args.link.0 c.args.self.now c.lose_client.new.self (λ state. link_loss_step state c.args.link.0 c.args.cause (at_key client_link c.args.link.0 state.clients))
leaves-here c =
    let P : CoreView → Type 0 = λ core. is_open_at (at_key connection_link c.args.link.0 core.connections) ≡ true in
    let opened = subst P c.self.view_is (sym c.is_open.ensures ∙ c.if-is_open.true) in
    let left = c.lose_client.ensures.leaves in
    let Q : ℕ → Type 0 = λ n. c.args.self.now.starved ≤ n in
    open-does c.args.self.now c.lose_client.new.self c.args.link.0 (λ state. leave_step state c.args.link.0 c.args.cause) (λ state client. link_loss_step state c.args.link.0 c.args.cause client) (λ state client. refl) opened
    (client-lost c.args.self.now c.lose_client.new.self c.args.link.0 c.args.cause opened left (subst Q (ap (λ (core : CoreView). core.starved) left) c.lose_client.ensures.rises))

pub returns-then-is_open-clause-does : goal.returns-then-is_open-clause-does
returns-then-is_open-clause-does c = does-here c.args.link.0 c.args.self.now c.lose_client.new.self (λ state. link_loss_step state c.args.link.0 c.args.cause (at_key client_link c.args.link.0 state.clients)) (leaves-here c)

pub returns-then-is_open-clause-contained : goal.returns-then-is_open-clause-contained
returns-then-is_open-clause-contained c = contains-here c.args.link.0 c.args.self.now c.lose_client.new.self (λ state. link_loss_step state c.args.link.0 c.args.cause (at_key client_link c.args.link.0 state.clients)) (leaves-here c)

pub returns-then-is_open-clause-counts : goal.returns-then-is_open-clause-counts
returns-then-is_open-clause-counts c =
    let P : CoreView → Type 0 = λ core. is_open_at (at_key connection_link c.args.link.0 core.connections) ≡ true in
    let opened = subst P c.self.view_is (sym c.is_open.ensures ∙ c.if-is_open.true) in
    let Q : Bool → Type 0 = λ t. Counts (lost_number t c.args.cause) c.args.self.now c.lose_client.new.self in
    subst Q (sym opened) (counts-here c.args.link.0 c.args.self.now c.lose_client.new.self (λ state. link_loss_step state c.args.link.0 c.args.cause (at_key client_link c.args.link.0 state.clients)) (leaves-here c))

-- ---- another link

shut : (c : goal.After-count_refusal) → is_open_at (at_key connection_link c.args.link.0 c.args.self.now.connections) ≡ false
shut c =
    let P : CoreView → Type 0 = λ core. is_open_at (at_key connection_link c.args.link.0 core.connections) ≡ false in
    subst P c.self.view_is (sym c.is_open.ensures ∙ c.if-is_open.false)

-- its server is lost
lost-here : (c : goal.After-count_refusal) → RunsHere c.args.link.0 c.args.self.now c.lose_server.new.self (λ state. link_loss_step state c.args.link.0 c.args.cause (at_key client_link c.args.link.0 state.clients))
lost-here c = shut-chooses c.args.self.now c.lose_server.new.self c.args.link.0 (λ state client. link_loss_step state c.args.link.0 c.args.cause client) (shut c) c.lose_server.ensures.does

pub returns-clause-does : goal.returns-clause-does
returns-clause-does c =
    loss-does c.args.link.0 c.args.self.now c.lose_server.new.self c.count_refusal.new.self c.args.cause (λ state. link_loss_step state c.args.link.0 c.args.cause (at_key client_link c.args.link.0 state.clients)) (lost-here c) c.count_refusal.ensures.counts
    c.count_refusal.ensures.rises

pub returns-clause-contained : goal.returns-clause-contained
returns-clause-contained c =
    loss-contains c.args.link.0 c.args.self.now c.lose_server.new.self c.count_refusal.new.self c.args.cause (λ state. link_loss_step state c.args.link.0 c.args.cause (at_key client_link c.args.link.0 state.clients)) (lost-here c) c.count_refusal.ensures.counts
    c.count_refusal.ensures.rises

pub returns-clause-counted : goal.returns-clause-counted
returns-clause-counted c =
    loss-more c.args.link.0 c.args.self.now c.lose_server.new.self c.count_refusal.new.self c.args.cause (λ state. link_loss_step state c.args.link.0 c.args.cause (at_key client_link c.args.link.0 state.clients)) (lost-here c) c.count_refusal.ensures.counts
    c.count_refusal.ensures.rises

pub returns-clause-counts : goal.returns-clause-counts
returns-clause-counts c =
    let Q : Bool → Type 0 = λ t. Counts (lost_number t c.args.cause) c.args.self.now c.count_refusal.new.self in
    subst Q (sym (shut c))
    (loss-counts c.args.link.0 c.args.self.now c.lose_server.new.self c.count_refusal.new.self c.args.cause (λ state. link_loss_step state c.args.link.0 c.args.cause (at_key client_link c.args.link.0 state.clients)) (lost-here c) c.count_refusal.ensures.counts
    c.count_refusal.ensures.rises)

pub returns-clause-gone : goal.returns-clause-gone
returns-clause-gone c =
    ap (λ (core : CoreView). is_open_at (at_key connection_link c.args.link.0 core.connections)) c.count_refusal.ensures.counts
    ∙ stays-shut c.args.self.now c.lose_server.new.self c.args.link.0 (does-here c.args.link.0 c.args.self.now c.lose_server.new.self (λ state. link_loss_step state c.args.link.0 c.args.cause (at_key client_link c.args.link.0 state.clients)) (lost-here c) (plain_beside c.args.self.now)).keeps (shut c)

pub returns-then-is_open-clause-drops : goal.returns-then-is_open-clause-drops
returns-then-is_open-clause-drops c = board-here c.args.link.0 c.args.self.now c.lose_client.new.self (λ state. link_loss_step state c.args.link.0 c.args.cause (at_key client_link c.args.link.0 state.clients)) (leaves-here c)

pub returns-clause-drops : goal.returns-clause-drops
returns-clause-drops c =
    loss-board c.args.link.0 c.args.self.now c.lose_server.new.self c.count_refusal.new.self c.args.cause (λ state. link_loss_step state c.args.link.0 c.args.cause (at_key client_link c.args.link.0 state.clients)) (lost-here c) c.count_refusal.ensures.counts
    c.count_refusal.ensures.rises
