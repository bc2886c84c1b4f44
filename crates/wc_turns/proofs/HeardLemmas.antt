-- Laws of what was heard.
use Rattle.std.proofs.Common.{◌≡◌, ◌≢◌, ℕ, Bool, true, false, cond, eqb, ◌&&◌, ◌||◌, List, [], ◌∷◌, ◌++◌, refl, sym, ap, ◌∙◌, arith}
use Rattle.std.specs.List.{flat_map}
use Rattle.std.proofs.lemmas.Grind.{flat_map-append}
use Rattle.std.proofs.lemmas.List.{append-nil}
use Rattle.std.proofs.lemmas.List.Folds.{list_any-append}
use Rattle.std.proofs.lemmas.Bool.{false≢true}
use Rattle.std.proofs.lemmas.Bool.Decides.{nat_tests}
use Rattle.wc_text.specs.declared.names.LinkId.{LinkId}
use Rattle.wc_outside.specs.declared.happening.Happening.{Happening}
use Rattle.wc_outside.specs.declared.happening.Happening.TheVariants.{Accepted, Read}
use Rattle.wc_framing.specs.Opening.{begins}
use Rattle.wc_framing.proofs.OpeningLemmas.{begins-more}
use Rattle.wc_turns.specs.Heard.{Heard, Happened, Unframed, NotPut, happened, happenings}
use Rattle.wc_turns.specs.Events.{bytes_on, comes_on, has_come, socket_on, text_in, tail_as, tail_on, text_of_read}
use Rattle.wc_turns.specs.Lines.{rest}
use Rattle.wc_turns.specs.Turns.{frames_text}
use Rattle.wc_turns.proofs.LineLemmas.{rest-append}

pub happenings-append : (xs ys : List Heard) → happenings (xs ++ ys) ≡ happenings xs ++ happenings ys
happenings-append xs ys = flat_map-append happened xs ys

pub happenings-push : (history : List Heard) (h : Heard) → happenings (history ++ h ∷ []) ≡ happenings history ++ happened h
happenings-push history h = happenings-append history (h ∷ []) ∙ ap (λ hs. happenings history ++ hs) (append-nil (happened h))

-- what was heard, after what spells these happenings
pub spells-push : (taken : List Happening) (history : List Heard) (h : Heard) → happenings history ≡ taken → happenings (history ++ h ∷ []) ≡ taken ++ happened h
spells-push taken history h e = happenings-push history h ∙ ap (λ hs. hs ++ happened h) e

-- ---- whether a link is a WebSocket

and-left : (a b : Bool) → (a && b) ≡ true → a ≡ true
and-left true b e = refl
and-left false b e = absurd (false≢true e)

and-right : (a b : Bool) → (a && b) ≡ true → b ≡ true
and-right true b e = e
and-right false b e = absurd (false≢true e)

or-first : (a b : Bool) → a ≡ true → (a || b) ≡ true
or-first true b e = refl
or-first false b e = absurd (false≢true e)

-- a WebSocket stays one
pub socket-stays : (k : ℕ) (taken more : List Happening) → socket_on k taken ≡ true → socket_on k (taken ++ more) ≡ true
socket-stays k taken more e =
    let came : has_come k (taken ++ more) ≡ true = list_any-append (comes_on k) taken more ∙ or-first (has_come k taken) (has_come k more) (and-left (has_come k taken) _ e) in
    let begun : begins (flat_map (bytes_on k) (taken ++ more)) ≡ true = ap begins (flat_map-append (bytes_on k) taken more) ∙ begins-more (flat_map (bytes_on k) taken) (flat_map (bytes_on k) more) (and-right (has_come k taken) _ e) in
    ap (λ t. t && begins (flat_map (bytes_on k) (taken ++ more))) came ∙ begun

-- so one that is plain later was plain before
pub plain-before : (k : ℕ) (taken more : List Happening) → socket_on k (taken ++ more) ≡ false → socket_on k taken ≡ false
plain-before k taken more e = by (socket_on k taken) refl
  where
    by : (t : Bool) → socket_on k taken ≡ t → t ≡ false
    by true q = absurd (false≢true (sym e ∙ socket-stays k taken more q))
    by false q = refl

-- where no bytes came on a link, and no client, it is what it was
pub socket-same : (k : ℕ) (taken more : List Happening) → flat_map (bytes_on k) more ≡ [] → has_come k more ≡ false → socket_on k (taken ++ more) ≡ socket_on k taken
socket-same k taken more none nobody =
    ap (λ t. t && begins (flat_map (bytes_on k) (taken ++ more))) (list_any-append (comes_on k) taken more ∙ ap (λ t. has_come k taken || t) nobody ∙ or-none (has_come k taken))
    ∙ ap (λ bs. has_come k taken && begins bs) (flat_map-append (bytes_on k) taken more ∙ ap (λ bs. flat_map (bytes_on k) taken ++ bs) none ∙ append-nil (flat_map (bytes_on k) taken))
  where
    or-none : (b : Bool) → (b || false) ≡ b
    or-none true = refl
    or-none false = refl

and-none : (b : Bool) → (b && false) ≡ false
and-none true = refl
and-none false = refl

-- a link without bytes is none
pub socket-fresh : (k : ℕ) (taken : List Happening) → flat_map (bytes_on k) taken ≡ [] → socket_on k taken ≡ false
socket-fresh k taken none = ap (λ bs. has_come k taken && begins bs) none ∙ and-none (has_come k taken)

-- ---- the text of a link

-- the text of a plain link is that of its bytes
in-plain : (k : ℕ) (h : Heard) → text_in k false h ≡ flat_map (bytes_on k) (happened h)
in-plain k (Happened h) = sym (append-nil (bytes_on k h))
in-plain k (Unframed link bytes text end) = sym (append-nil (cond (eqb link.0 k) bytes []))
in-plain k (NotPut link) = refl

pub plain-text : (k : ℕ) (history : List Heard) → flat_map (text_in k false) history ≡ flat_map (bytes_on k) (happenings history)
plain-text k [] = refl
plain-text k (h ∷ history) =
    ap (λ bs. bs ++ flat_map (text_in k false) history) (in-plain k h) ∙ ap (λ bs. flat_map (bytes_on k) (happened h) ++ bs) (plain-text k history)
    ∙ sym (flat_map-append (bytes_on k) (happened h) (happenings history))

-- what comes after the last LF, by the bytes and the text of the frames
pub tail_as-is : (socket : Bool) (k : ℕ) (taken : List Happening) (history : List Heard) → happenings history ≡ taken
    → tail_as socket k history ≡ rest [] (text_of_read socket (flat_map (bytes_on k) taken) (frames_text k history))
tail_as-is false k taken history e = ap (rest []) (plain-text k history ∙ ap (flat_map (bytes_on k)) e)
tail_as-is true k taken history e = refl

pub tail_as-push : (socket : Bool) (k : ℕ) (history : List Heard) (h : Heard) → tail_as socket k (history ++ h ∷ []) ≡ rest (tail_as socket k history) (text_in k socket h)
tail_as-push socket k history h =
    ap (rest []) (flat_map-append (text_in k socket) history (h ∷ []) ∙ ap (λ bs. flat_map (text_in k socket) history ++ bs) (append-nil (text_in k socket h)))
    ∙ rest-append [] (flat_map (text_in k socket) history) (text_in k socket h)

pub frames-push : (k : ℕ) (history : List Heard) (h : Heard) → frames_text k (history ++ h ∷ []) ≡ frames_text k history ++ text_in k true h
frames-push k history h = flat_map-append (text_in k true) history (h ∷ []) ∙ ap (λ bs. frames_text k history ++ bs) (append-nil (text_in k true h))

-- what is heard adds nothing to a link
pub record IsQuiet (k : ℕ) (h : Heard) : Type 0 where
  pub bytes : flat_map (bytes_on k) (happened h) ≡ []
  pub text : text_in k true h ≡ []
  pub nobody : has_come k (happened h) ≡ false

quiet-in : (k : ℕ) (socket : Bool) (h : Heard) → IsQuiet k h → text_in k socket h ≡ []
quiet-in k true h q = q.text
quiet-in k false h q = in-plain k h ∙ q.bytes

pub tail-quiet : (k : ℕ) (taken : List Happening) (history : List Heard) (h : Heard) → happenings history ≡ taken → IsQuiet k h → tail_on k (history ++ h ∷ []) ≡ tail_on k history
tail-quiet k taken history h e q =
    ap (λ s. tail_as s k (history ++ h ∷ [])) (ap (socket_on k) (happenings-push history h) ∙ socket-same k (happenings history) (happened h) q.bytes q.nobody)
    ∙ tail_as-push (socket_on k (happenings history)) k history h ∙ ap (rest (tail_on k history)) (quiet-in k (socket_on k (happenings history)) h q)

pub frames-quiet : (k : ℕ) (history : List Heard) (h : Heard) → IsQuiet k h → frames_text k (history ++ h ∷ []) ≡ frames_text k history
frames-quiet k history h q = frames-push k history h ∙ ap (λ bs. frames_text k history ++ bs) q.text ∙ append-nil (frames_text k history)

-- a happening without bytes, at which no client comes
pub quiet-happened : (h : Happening) → ((k : ℕ) → bytes_on k h ≡ []) → ((k : ℕ) → comes_on k h ≡ false) → (k : ℕ) → IsQuiet k (Happened h)
quiet-happened h none nobody k = record {
  bytes = append-nil (bytes_on k h) ∙ none k;
  text = refl;
  nobody = ap (λ t. t || false) (nobody k);
}

-- an arrival is quiet to the other links
pub other-test : (link : LinkId) (k : ℕ) → k ≢ link.0 → eqb link.0 k ≡ false
other-test link k n = grind (arith, nat_tests)

pub quiet-arrival : (link : LinkId) (nonce : List ℕ) (k : ℕ) → k ≢ link.0 → IsQuiet k (Happened (Accepted link nonce))
quiet-arrival link nonce k n = record { bytes = refl; text = refl; nobody = ap (λ t. t || false) (other-test link k n) }

-- and so is a read
pub quiet-read : (link : LinkId) (bytes : List ℕ) (k : ℕ) → k ≢ link.0 → IsQuiet k (Happened (Read link bytes))
quiet-read link bytes k n = record { bytes = ap (λ t. cond t bytes [] ++ []) (other-test link k n); text = refl; nobody = refl }

pub quiet-notput : (link : LinkId) (k : ℕ) → IsQuiet k (NotPut link)
quiet-notput link k = record { bytes = refl; text = refl; nobody = refl }
