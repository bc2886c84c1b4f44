-- A link's framing, as its bytes come.
use Rattle.std.proofs.Common.{◌≡◌, ℕ, Bool, true, false, cond, List, [], ◌∷◌, ◌++◌, refl, sym, ap, ◌∙◌, subst}
use Rattle.std.proofs.lemmas.Bool.{false≢true}
use Rattle.std.proofs.lemmas.List.{append-nil}
use Rattle.wc_framing.specs.declared.framing.Framing.{Framing}
use Rattle.wc_framing.specs.declared.framing.Framing.TheVariants as framing
use Rattle.wc_framing.specs.declared.framing.Belongs.{Belongs}
use Rattle.wc_framing.specs.declared.framing.Belongs.TheVariants.{Text, Opened, Frames}
use Rattle.wc_framing.specs.declared.opening.Opening.{Opening}
use Rattle.wc_framing.specs.declared.opening.Opening.TheVariants as opening
use Rattle.wc_framing.specs.Framing.{is_socket, silent, FramedAs, FedAs, BelongsAs}
use Rattle.wc_framing.specs.Opening.{begins, may_open, opening_of}
use Rattle.wc_framing.specs.Unframed.{HoldsHead, ReadsFrames, FedAt, Fed, AwaitsAt, Unframes}
use Rattle.wc_framing.proofs.OpeningLemmas.{begins-more, plain-more}
use Rattle.wc_ws.specs.declared.names.WsStage.{WsStage}
use Rattle.wc_ws.specs.declared.names.WsStage.TheVariants.{Head, Frames as ReadFrames, Over}
use Rattle.wc_ws.specs.Link.{Link, fresh_link}

-- ---- what is to be sent is of no matter

fed-output : (stage : WsStage) (bytes text bs : List ℕ) (link : Link) → FedAt stage bytes text link → FedAt stage bytes text (record link { output = bs })
fed-output Head bytes text bs link h = record { input = h.input; state = h.state; fragments = h.fragments; none = h.none }
fed-output ReadFrames bytes text bs link h = record { place = h.place; key = h.key; ends = h.ends; asks = h.asks; effects = h.effects; reads = h.reads; made = h.made }
fed-output (Over why) bytes text bs link h = absurd h

awaits-output : (stage : WsStage) (bs : List ℕ) (link : Link) → AwaitsAt stage link → AwaitsAt stage (record link { output = bs })
awaits-output Head bs link h = h
awaits-output ReadFrames bs link h = h
awaits-output (Over why) bs link h = absurd h

pub Unframes-output : (bytes text bs : List ℕ) (link : Link) → Unframes bytes text link → Unframes bytes text (record link { output = bs })
Unframes-output bytes text bs link h = record { fed = fed-output link.stage bytes text bs link h.fed; awaits = awaits-output link.stage bs link h.awaits }

abbrev socket_of : Framing → Link
socket_of framing.Undecided = fresh_link
socket_of framing.Plain = fresh_link
socket_of (framing.Socket link) = link

-- two links that differ in that alone
same-silent : (l m : Link) → silent (framing.Socket m) ≡ silent (framing.Socket l) → record l { output = m.output } ≡ m
same-silent l m e = let q : record m { output = [] } ≡ record l { output = [] } = ap socket_of e in ap (λ (n : Link). record n { output = m.output }) (sym q)

pub FramedAs-silent : (bytes text : List ℕ) (f g : Framing) → silent g ≡ silent f → FramedAs bytes text f → FramedAs bytes text g
FramedAs-silent bytes text framing.Undecided framing.Undecided e h = h
FramedAs-silent bytes text framing.Plain framing.Plain e h = h
FramedAs-silent bytes text (framing.Socket l) (framing.Socket m) e h = (h.0, subst (Unframes bytes text) (same-silent l m e) (Unframes-output bytes text m.output l h.1))
FramedAs-silent bytes text framing.Undecided framing.Plain e h = absurd (cc e)
FramedAs-silent bytes text framing.Undecided (framing.Socket m) e h = absurd (cc e)
FramedAs-silent bytes text framing.Plain framing.Undecided e h = absurd (cc e)
FramedAs-silent bytes text framing.Plain (framing.Socket m) e h = absurd (cc e)
FramedAs-silent bytes text (framing.Socket l) framing.Undecided e h = absurd (cc e)
FramedAs-silent bytes text (framing.Socket l) framing.Plain e h = absurd (cc e)

pub plain-silent : (g : Framing) → silent g ≡ framing.Plain → g ≡ framing.Plain
plain-silent framing.Plain e = refl
plain-silent framing.Undecided e = absurd (cc e)
plain-silent (framing.Socket l) e = absurd (cc e)

-- ---- a piece comes

plain-by : (bytes : List ℕ) (t : Bool) → begins bytes ≡ t → (s : Bool) → may_open bytes ≡ s → (o : Opening) → o ≡ opening_of bytes → o ≡ opening.Plain → FramedAs bytes [] framing.Plain
plain-by bytes true e s f o is q = absurd (let z : opening.Plain ≡ opening.Socket = sym q ∙ is ∙ ap (λ t. cond t opening.Socket (cond (may_open bytes) opening.Undecided opening.Plain)) e in cc)
plain-by bytes false e true f o is q = absurd (let z : opening.Plain ≡ opening.Undecided = sym q ∙ is ∙ ap (λ t. cond t opening.Socket (cond (may_open bytes) opening.Undecided opening.Plain)) e ∙ ap (λ t. cond t opening.Undecided opening.Plain) f in cc)
plain-by bytes false e false f o is q = (e, (f, refl))

undecided-by : (bytes : List ℕ) (t : Bool) → begins bytes ≡ t → (s : Bool) → may_open bytes ≡ s → opening.Undecided ≡ opening_of bytes → may_open bytes ≡ true
undecided-by bytes true e s f is = absurd (let z : opening.Undecided ≡ opening.Socket = is ∙ ap (λ t. cond t opening.Socket (cond (may_open bytes) opening.Undecided opening.Plain)) e in cc)
undecided-by bytes false e true f is = f
undecided-by bytes false e false f is = absurd (let z : opening.Undecided ≡ opening.Plain = is ∙ ap (λ t. cond t opening.Socket (cond (may_open bytes) opening.Undecided opening.Plain)) e ∙ ap (λ t. cond t opening.Undecided opening.Plain) f in cc)

socket-by : (bytes : List ℕ) (t : Bool) → begins bytes ≡ t → (s : Bool) → may_open bytes ≡ s → opening.Socket ≡ opening_of bytes → begins bytes ≡ true
socket-by bytes true e s f is = e
socket-by bytes false e true f is = absurd (let z : opening.Socket ≡ opening.Undecided = is ∙ ap (λ t. cond t opening.Socket (cond (may_open bytes) opening.Undecided opening.Plain)) e ∙ ap (λ t. cond t opening.Undecided opening.Plain) f in cc)
socket-by bytes false e false f is = absurd (let z : opening.Socket ≡ opening.Plain = is ∙ ap (λ t. cond t opening.Socket (cond (may_open bytes) opening.Undecided opening.Plain)) e ∙ ap (λ t. cond t opening.Undecided opening.Plain) f in cc)

-- what is decided by all bytes
pub Opens-undecided : (bytes : List ℕ) → opening.Undecided ≡ opening_of bytes → BelongsAs bytes framing.Undecided Text framing.Undecided
Opens-undecided bytes is = (refl, (undecided-by bytes (begins bytes) refl (may_open bytes) refl is, refl))

pub Opens-plain : (bytes : List ℕ) → opening.Plain ≡ opening_of bytes → BelongsAs bytes framing.Undecided Text framing.Plain
Opens-plain bytes is = (refl, plain-by bytes (begins bytes) refl (may_open bytes) refl opening.Plain is refl)

pub Fed-fresh : Fed [] [] fresh_link
Fed-fresh = record { input = refl; state = refl; fragments = refl; none = refl }

pub Opens-socket : (bytes : List ℕ) → opening.Socket ≡ opening_of bytes → BelongsAs bytes framing.Undecided Opened (framing.Socket fresh_link)
Opens-socket bytes is = (refl, (socket-by bytes (begins bytes) refl (may_open bytes) refl is, Fed-fresh))

-- a plain link stays plain
pub Opens-text : (bytes text piece : List ℕ) → FramedAs bytes text framing.Plain → BelongsAs (bytes ++ piece) framing.Plain Text framing.Plain
Opens-text bytes text piece h = let more = plain-more bytes piece h.0 h.1.0 in (refl, (more.0, (more.1, refl)))
