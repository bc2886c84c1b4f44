use Rattle.std.proofs.Common.{rules, refl, true, false, arith, ◌≡◌, slice_set}
use Rattle.std.proofs.lemmas.Grind.{common_steps}
use Rattle.wc_scripted.specs.declared.rows.Row.{Row}
use Rattle.wc_scripted.specs.Rows.{row_at}
use Rattle.wc_scripted.proofs.RowLemmas.{set_rest}
use Rattle.wc_scripted.proofs.SeesLemmas.{sees_with, plays_with, blocked_sees, sent_sees, not_past}
use Rattle.wc_scripted.proofs.memory_sockets.MemorySocketsSockets.write.Goals as goal

pub returns-then-next_fails-clause-sees : goal.returns-then-next_fails-clause-sees
returns-then-next_fails-clause-sees c = sees_with c.set_blocked.new.rows.items _ _ _ refl (search rules) (rw c.set_blocked.ensures.rows (blocked_sees c.args.self.now.rows.items c.args.link.0 false (λ h. refl)))

pub returns-then-next_fails-clause-play : goal.returns-then-next_fails-clause-play
returns-then-next_fails-clause-play c = plays_with c.set_blocked.new.rows.items _ _ refl (search rules) (λ other. rw c.set_blocked.ensures.rows (set_rest (λ (row : Row). row.news) c.args.self.now.rows.items c.args.link.0 other _ refl)) (λ other. rw c.set_blocked.ensures.rows (set_rest (λ (row : Row). row.taken) c.args.self.now.rows.items c.args.link.0 other _ refl))

pub returns-then-not-is_empty-clause-sees : goal.returns-then-not-is_empty-clause-sees
returns-then-not-is_empty-clause-sees c =
    let there : (row_at c.args.link.0 c.args.self.now.rows.items).is_open ≡ true = search rules in
    sees_with c.set_blocked-then-not-is_empty.new.rows.items _ _ _ refl (search rules) (rw c.set_blocked-then-not-is_empty.ensures.rows (blocked_sees c.args.self.now.rows.items c.args.link.0 true (λ h. absurd (not_past c.args.self.now.rows.items c.args.link.0 there h))))

pub returns-then-not-is_empty-clause-play : goal.returns-then-not-is_empty-clause-play
returns-then-not-is_empty-clause-play c = plays_with c.set_blocked-then-not-is_empty.new.rows.items _ _ refl (search rules) (λ other. rw c.set_blocked-then-not-is_empty.ensures.rows (set_rest (λ (row : Row). row.news) c.args.self.now.rows.items c.args.link.0 other _ refl)) (λ other. grind (arith, common_steps))

pub returns-in_default-clause-sees : goal.returns-in_default-clause-sees
returns-in_default-clause-sees c =
    let e : c.send.new.rows.items ≡ slice_set c.args.self.now.rows.items c.args.link.0 (record (row_at c.args.link.0 c.args.self.now.rows.items) { blocked = false }) = search rules in
    sees_with c.send.new.rows.items _ _ _ refl (search rules) (rw e (blocked_sees c.args.self.now.rows.items c.args.link.0 false (λ h. refl)))

pub returns-in_default-clause-play : goal.returns-in_default-clause-play
returns-in_default-clause-play c =
    let e : c.send.new.rows.items ≡ slice_set c.args.self.now.rows.items c.args.link.0 (record (row_at c.args.link.0 c.args.self.now.rows.items) { blocked = false }) = search rules in
    plays_with c.send.new.rows.items _ _ refl (search rules) (λ other. rw e (set_rest (λ (row : Row). row.news) c.args.self.now.rows.items c.args.link.0 other _ refl)) (λ other. rw e (set_rest (λ (row : Row). row.taken) c.args.self.now.rows.items c.args.link.0 other _ refl))

pub returns-clause-sees : goal.returns-clause-sees
returns-clause-sees c =
    let there : (row_at c.args.link.0 c.args.self.now.rows.items).is_open ≡ true = search rules in
    sees_with c.send.new.rows.items _ _ _ refl (search rules) (rw c.in-Ok.ensures.ok (sent_sees c.args.self.now.rows.items c.args.link.0 _ _ there))

pub returns-clause-play : goal.returns-clause-play
returns-clause-play c = plays_with c.send.new.rows.items _ _ refl (search rules) (λ other. rw c.in-Ok.ensures.ok (set_rest (λ (row : Row). row.news) c.args.self.now.rows.items c.args.link.0 other _ refl)) (λ other. grind (arith, common_steps))
