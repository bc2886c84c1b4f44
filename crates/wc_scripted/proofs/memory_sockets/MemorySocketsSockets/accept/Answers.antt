use Rattle.std.proofs.Common.{rules, refl, ◌≡◌, ◌+◌, ◌≤◌, length, take, vec_len}
use Rattle.wc_scripted.proofs.SeesLemmas.{sees_with, plays_with, made_sees, made_took, made_news}
use Rattle.wc_scripted.proofs.memory_sockets.MemorySocketsSockets.accept.Goals as goal

pub returns-clause-sees : goal.returns-clause-sees
returns-clause-sees c =
    let past : length c.args.self.now.rows.items ≤ c.args.self.now.used + 1 = let same : length c.args.self.now.rows.items ≡ vec_len c.args.self.now.rows = search rules in rw same c.args.self.now.numbered in
    let made = rw c.arrival.ensures.script at c.in-Ok.ensures.ok in
    sees_with c.make_link.new.rows.items _ _ _ refl (search rules) (made_sees c.args.self.now.rows.items c.make_link.new.rows.items (c.args.self.now.used + 1) (take c.args.self.now.play.script.released c.args.self.now.play.script.steps) made past)

pub returns-clause-play : goal.returns-clause-play
returns-clause-play c =
    let past : length c.args.self.now.rows.items ≤ c.args.self.now.used + 1 = let same : length c.args.self.now.rows.items ≡ vec_len c.args.self.now.rows = search rules in rw same c.args.self.now.numbered in
    let made = rw c.arrival.ensures.script at c.in-Ok.ensures.ok in
    plays_with c.make_link.new.rows.items _ _ refl (search rules) (made_news c.args.self.now.rows.items c.make_link.new.rows.items (c.args.self.now.used + 1) (take c.args.self.now.play.script.released c.args.self.now.play.script.steps) made) (made_took c.args.self.now.rows.items c.make_link.new.rows.items (c.args.self.now.used + 1) (take c.args.self.now.play.script.released c.args.self.now.play.script.steps) made past)
