use Rattle.std.proofs.Common.{◌≡◌, ◌++◌, true, sym, ap, ◌∙◌}
use Rattle.wc_framing.specs.declared.opening.Opening.TheVariants as opening
use Rattle.wc_framing.specs.Opening.{may_open, opening_of}
use Rattle.wc_framing.proofs.FramingLemmas.{Opens-socket}
use Rattle.wc_framing.proofs.framing.Framing.decide.Goals as goal

pub returns-in-Socket : goal.returns-in-Socket
returns-in-Socket c = λ bytes text framed held.
    let known = rw c.requires at framed in
    let same = held c.requires in
    let may : may_open c.args.held.now ≡ true = rw same known.0 in
    let is : opening.Socket ≡ opening_of (bytes ++ c.args.piece.now) = sym c.in-Socket.is ∙ c.opening_of.ensures may ∙ ap (λ h. opening_of (h ++ c.args.piece.now)) same in
    rw (c.requires, c.new_socket.ensures) (Opens-socket (bytes ++ c.args.piece.now) is)
