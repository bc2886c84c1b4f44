-- The frames of a link whose bytes were cut.
use Rattle.std.proofs.Common.{◌≡◌, ℕ, ◌+◌, List, [], ◌∷◌, ◌++◌, drop, take, Option, Some, Result, Ok, refl, sym, ap, ◌∙◌, subst}
use Rattle.std.specs.List.{flat_map}
use Rattle.std.proofs.lemmas.Grind.{flat_map-append}
use Rattle.std.proofs.lemmas.List.{drop-append-le, take-append-le}
use Rattle.memchr.proofs.lemmas.ValueLemmas.{FindsNeedle-value}
use Rattle.websocket.specs.declared.error.Error.{Error}
use Rattle.websocket.specs.declared.protocol.frame.codec.FrameStatus.{FrameStatus}
use Rattle.websocket.specs.declared.protocol.frame.codec.FrameStatus.TheVariants.{Complete}
use Rattle.websocket.specs.Connection.{Connection, Effect, read_step}
use Rattle.wc_ws.specs.Head.{FirstEmptyLine, IsUpgrade, after_head, empty_line}
use Rattle.wc_ws.specs.Link.{Link, server}
use Rattle.wc_ws.proofs.HeadLemmas.{line_fits}
use Rattle.wc_framing.specs.Unframed.{payload, payloads, Reads, fresh, ReadsFrames}
use Rattle.wc_framing.specs.Cut.{reply, AddsPieces, JoinsPieces, ReadsOneWay, CutAnywhere}
use Rattle.wc_framing.proofs.UnframedLemmas.{Fed-piece, Reads-append, line-more}

pub adds_pieces : AddsPieces
adds_pieces bytes made piece link fed = Fed-piece bytes made piece link fed

-- ---- frames and then more of them

reads_join : (c d e : Connection) (i l m : List ℕ) (es fs : List Effect) → Reads c i es d l → Reads d l fs e m → Reads c i (es ++ fs) e m
reads_join c d e i l m [] fs h k = subst (λ conn. Reads conn i fs e m) h.0 (subst (λ bytes. Reads d bytes fs e m) h.1 k)
reads_join c d e i l m (x ∷ es) fs h k = (h.0, (h.1.0, reads_join x.next d e (drop h.0 i) l m es fs h.1.1 k))

pub joins_pieces : JoinsPieces
joins_pieces bytes made piece link last more first reads =
    let fits = line_fits bytes first.place first.ends in
    let grown : Reads fresh (after_head first.place (bytes ++ piece)) first.effects (server link) (link.input ++ piece) = subst (λ after. Reads fresh after first.effects (server link) (link.input ++ piece)) (sym (drop-append-le (first.place + 4) bytes piece fits.0)) (Reads-append fresh (server link) (after_head first.place bytes) link.input piece first.effects first.reads) in (
      record {
        place = first.place;
        key = first.key;
        ends = line-more bytes piece first.place first.ends;
        asks = subst (λ head. IsUpgrade head first.key) (sym (take-append-le (first.place + 4) bytes piece fits.0)) first.asks;
        effects = first.effects ++ more;
        reads = reads_join fresh (server link) (server last) (after_head first.place (bytes ++ piece)) (link.input ++ piece) last.input first.effects more grown reads;
        made = ap (λ t. t ++ payloads more) first.made ∙ sym (flat_map-append payload first.effects more);
      },
      (refl, (refl, refl)),
    )

-- ---- one way of reading

same_frame : (r : Result (FrameStatus (ℕ × Effect)) Error) (p q : ℕ × Effect) → r ≡ Ok (Complete p) → r ≡ Ok (Complete q) → p ≡ q
same_frame r p q e f = cc (e, f)

reads_alone : (c d e : Connection) (i l m : List ℕ) (es fs : List Effect) → Reads c i es d l → ((p : ℕ × Effect) → ¬ (read_step d l ≡ Ok (Complete p)))
    → Reads c i fs e m → ((p : ℕ × Effect) → ¬ (read_step e m ≡ Ok (Complete p))) → (fs ≡ es) × ((e ≡ d) × (m ≡ l))
reads_alone c d e i l m [] [] h stop k none = (refl, (k.0 ∙ sym h.0, k.1 ∙ sym h.1))
reads_alone c d e i l m [] (y ∷ fs) h stop k none =
    absurd (stop (k.0, y) (ap (λ conn. read_step conn l) h.0 ∙ ap (λ bytes. read_step c bytes) h.1 ∙ k.1.0))
reads_alone c d e i l m (x ∷ es) [] h stop k none =
    absurd (none (h.0, x) (ap (λ conn. read_step conn m) k.0 ∙ ap (λ bytes. read_step c bytes) k.1 ∙ h.1.0))
reads_alone c d e i l m (x ∷ es) (y ∷ fs) h stop k none =
    let same = same_frame (read_step c i) (k.0, y) (h.0, x) k.1.0 h.1.0 in
    let size : k.0 ≡ h.0 = ap (λ (p : ℕ × Effect). p.0) same in
    let effect : y ≡ x = ap (λ (p : ℕ × Effect). p.1) same in
    let rest : Reads x.next (drop h.0 i) fs e m = subst (λ (f : Effect). Reads f.next (drop h.0 i) fs e m) effect (subst (λ n. Reads y.next (drop n i) fs e m) size k.1.1) in
    let below = reads_alone x.next d e (drop h.0 i) l m es fs h.1.1 stop rest none in
    (ap (λ f. f ∷ fs) effect ∙ ap (λ more. x ∷ more) below.0, below.1)

some_same : (p q : ℕ) (r : Option ℕ) → Some p ≡ r → Some q ≡ r → q ≡ p
some_same p q r e f = cc (e, f)

line_alone : (bytes : List ℕ) (p q : ℕ) → FirstEmptyLine bytes (Some p) → FirstEmptyLine bytes (Some q) → q ≡ p
line_alone bytes p q e f = some_same p q _ (FindsNeedle-value (take 8192 bytes) empty_line (Some p) e) (FindsNeedle-value (take 8192 bytes) empty_line (Some q) f)

pub reads_one_way : ReadsOneWay
reads_one_way bytes made other link same first stop second none =
    let place = line_alone bytes first.place second.place first.ends second.ends in
    let reads : Reads fresh (after_head first.place bytes) second.effects (server same) same.input = subst (λ n. Reads fresh (after_head n bytes) second.effects (server same) same.input) place second.reads in
    let is = reads_alone fresh (server link) (server same) (after_head first.place bytes) link.input same.input first.effects second.effects first.reads stop reads none in
    (place, (is.0, (second.made ∙ ap payloads is.0 ∙ sym first.made, is.1)))

pub cut_anywhere : CutAnywhere
cut_anywhere bytes made piece other link last same more first reads stop whole none =
    let joint = joins_pieces bytes made piece link last more first reads in
    let is = reads_one_way (bytes ++ piece) (made ++ payloads more) other last same joint.0 stop whole none in
    let effects = is.1.0 ∙ joint.1.1.1 in
    (effects, (is.1.1.0, (ap (λ es. flat_map reply es) effects ∙ flat_map-append reply first.effects more, is.1.1.1)))
