use Rattle.std.proofs.Common.{ℕ, List, Option, ◌⊎◌, inl, inr, ap, sym, subst, ◌∙◌, Some}
use Rattle.wc_irc_words.specs.declared.typed.ServerCommand.{ServerCommand as Lent}
use Rattle.wc_irc_words.specs.TypedSeen.{meaning}
use Rattle.wc_core.specs.ServerTyped.{disconnect_step, served_step}
use Rattle.wc_core.proofs.FoundLemmas.{words_copied}
use Rattle.wc_core.proofs.TypedTexts.{added_text}
use Rattle.wc_core.proofs.core_state.Core.serve_command.Goals as goal
use Rattle.wc_core.specs.Contained.{Runs}

either : {A B C : Type 0} → A ⊎ B → (A → C) → (B → C) → C
either (inl a) f g = f a
either (inr b) f g = g b

pub add_server-requires : goal.add_server-requires
add_server-requires c =
    added_text c.args.line.now c.in-AddServer.name.now c.in-AddServer.address.now c.in-AddServer.tls c.requires.line (c.requires.asked ∙ ap (λ (command : Lent). Some (meaning command)) c.in-AddServer.is)

pub returns-in-AddServer : goal.returns-in-AddServer
returns-in-AddServer c = λ text.
    let P : Lent → Type 0 = λ command. Runs c.args.self.now c.add_server.new.self (λ state. served_step state c.args.buffer c.args.line.now text (Some (meaning command))) in
    subst P (sym c.in-AddServer.is) c.add_server.ensures

pub returns-in-DeleteServer : goal.returns-in-DeleteServer
returns-in-DeleteServer c = λ text.
    let P : Lent → Type 0 = λ command. Runs c.args.self.now c.delete_server.new.self (λ state. served_step state c.args.buffer c.args.line.now text (Some (meaning command))) in
    subst P (sym c.in-DeleteServer.is) c.delete_server.ensures

pub returns-in-Connect : goal.returns-in-Connect
returns-in-Connect c = λ text.
    let P : Lent → Type 0 = λ command. Runs c.args.self.now c.connect.new.self (λ state. served_step state c.args.buffer c.args.line.now text (Some (meaning command))) in
    subst P (sym c.in-Connect.is) c.connect.ensures

pub returns-in-Disconnect : goal.returns-in-Disconnect
returns-in-Disconnect c = λ text.
    let P : Lent → Type 0 = λ command. Runs c.args.self.now c.disconnect.new.self (λ state. served_step state c.args.buffer c.args.line.now text (Some (meaning command))) in
    let Q : Option (List ℕ) → Type 0 = λ name. Runs c.args.self.now c.disconnect.new.self (λ state. disconnect_step state c.args.buffer name) in
    subst P (sym c.in-Disconnect.is) (subst Q (words_copied c.in-Disconnect.name) c.disconnect.ensures)

pub returns-in-Join : goal.returns-in-Join
returns-in-Join c = λ text.
    let P : Lent → Type 0 = λ command. Runs c.args.self.now c.serve_buffer.new.self (λ state. served_step state c.args.buffer c.args.line.now text (Some (meaning command))) in
    either c.in-Join.is (λ x. subst P (sym x.1) c.serve_buffer.ensures) (λ rest. either rest (λ x. subst P (sym x.1) c.serve_buffer.ensures) (λ rest. either rest (λ x. subst P (sym x.2) c.serve_buffer.ensures) (λ rest. either rest (λ x. subst P (sym x.2) c.serve_buffer.ensures) (λ rest. either rest (λ x. subst P (sym x.1) c.serve_buffer.ensures) (λ rest. either rest (λ x. subst P (sym x.1) c.serve_buffer.ensures) (λ rest. either rest (λ x. subst P (sym x.1) c.serve_buffer.ensures) (λ rest. either rest (λ x. subst P (sym x.1) c.serve_buffer.ensures) (λ rest. either rest (λ x. subst P (sym x.2) c.serve_buffer.ensures) (λ rest. either rest (λ x. subst P (sym x.1) c.serve_buffer.ensures) (λ rest. either rest (λ x. subst P (sym x) c.serve_buffer.ensures) (λ rest. either rest (λ x. subst P (sym x.2) c.serve_buffer.ensures) (λ rest. either rest (λ x. subst P (sym x.1) c.serve_buffer.ensures) (λ rest. either rest (λ x. subst P (sym x.1) c.serve_buffer.ensures) (λ x. subst P (sym x.1) c.serve_buffer.ensures))))))))))))))
