use Rattle.std.proofs.Common.{◌≡◌, refl, sym, subst, ◌∙◌, arith, get_or, List}
use Rattle.std.proofs.lemmas.Bool.{false≢true}
use Rattle.std.proofs.lemmas.List.{get_or_default, set-get_or}
use Rattle.wc_servers.specs.Seats.{SeatView, QuitFront}
use Rattle.wc_servers.proofs.ToldLemmas.{tell_more, front_more}
use Rattle.wc_servers.proofs.QuitLemmas.{may_quit_links, may_quit_front}
use Rattle.wc_servers.proofs.places.quit_all.Goals as goal
use Rattle.wc_servers.proofs.places.quit_all.Goals.{then-told, else-told}

pub loop-seat-init : goal.loop-seat-init
loop-seat-init c = record { told = λ e. refl; front = record { count = 0; told = refl } }

pub loop-seat-preserved : goal.loop-seat-preserved
loop-seat-preserved c =
    let old = c.args.seats.now in
    let now = c.loop-seat.seats in
    let i = c.loop-seat.seat-index in
    let x = get_or now i c.seat-item.result in
    let at : x ≡ get_or now i x = get_or_default now i c.seat-item.result x (omega arith) in
    let P : List SeatView → Type 0 = λ seats. QuitFront old seats in
    elim c.if-told.branch [
      | then-told w ↦
          let so_far = c.loop-seat.invariant.told w.if-told.true in
          let hears = w.quit-told.ensures.told in
          record {
            told = λ told. w.seats-is ∙ tell_more old now i x w.quit-told.new.self at so_far (hears (sym w.told-is ∙ told)) (omega arith);
            front = subst P (sym w.seats-is) (front_more old now i x w.quit-told.new.self w.quit-told.result at so_far hears w.quit-told.ensures.unchanged (omega arith));
          }
      | else-told w ↦ record { told = λ told. absurd (false≢true (sym w.if-told.false ∙ sym w.told-is ∙ told)); front = subst P (sym (w.seats-is ∙ set-get_or now i c.seat-item.result)) c.loop-seat.invariant.front }
    ]

pub returns-clause-front : goal.returns-clause-front
returns-clause-front c = c.loop-seat.invariant.front

pub returns-clause-links : goal.returns-clause-links
returns-clause-links c = may_quit_links c.args.seats.now c.loop-seat.seats (may_quit_front c.args.seats.now c.loop-seat.seats c.loop-seat.invariant.front)
