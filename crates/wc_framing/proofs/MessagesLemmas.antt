-- Messages that are put into frames.
use Rattle.std.proofs.Common.{◌≡◌, ◌≢◌, ℕ, zero, suc, ◌+◌, ◌-◌, ◌<◌, ◌≤◌, false, List, [], ◌∷◌, ◌++◌, length, take, drop, Option, Some, None, refl, sym, ap, ◌∙◌, subst, arith, append_assoc, length-append, length-take, length-drop}
use Rattle.std.specs.List.{flat_map}
use Rattle.std.specs.Int.{w32, from_be_bytes}
use Rattle.std.proofs.lemmas.Grind.{flat_map-append}
use Rattle.std.proofs.lemmas.List.{append-nil, take-append-le, take-take, take-append-drop}
use Rattle.wc_framing.specs.declared.messages.Framed.{Framed}
use Rattle.wc_framing.specs.Messages.{stated, IsMessage, HasNoMessage, FirstMessage, concat, AreMessages, StopsAt, Frames}
use Rattle.wc_ws.specs.declared.names.PutRefused.{PutRefused}
use Rattle.wc_ws.specs.Link.{Link, binary_frame}

-- what a message states is stated by the bytes that begin with it
stated-front : (message rest : List ℕ) → 9 ≤ length message → stated (message ++ rest) ≡ stated message
stated-front message rest least = ap (from_be_bytes w32) (take-append-le 4 message rest (omega arith))

stated-by : (bytes message rest : List ℕ) → IsMessage message → bytes ≡ message ++ rest → stated bytes ≡ length message
stated-by bytes message rest is e = ap stated e ∙ stated-front message rest is.least ∙ sym is.whole

-- fewer bytes than a message has, ones that state fewer, and ones that state more than there are
pub none_short : (bytes : List ℕ) → length bytes < 4 → HasNoMessage bytes
none_short bytes short = λ message rest is e. (let l = ap length e in let a = length-append message rest in let least = is.least in absurd (omega arith))

pub none_stated : (bytes : List ℕ) (n : ℕ) → n ≡ stated bytes → n < 9 → HasNoMessage bytes
none_stated bytes n same few = λ message rest is e. (let s = stated-by bytes message rest is e in let least = is.least in absurd (omega arith))

pub none_whole : (bytes : List ℕ) (n : ℕ) → n ≡ stated bytes → length bytes < n → HasNoMessage bytes
none_whole bytes n same long = λ message rest is e. (let s = stated-by bytes message rest is e in let l = ap length e in let a = length-append message rest in absurd (omega arith))

pub first_whole : (bytes : List ℕ) (n : ℕ) → n ≡ stated bytes → 9 ≤ n → n ≤ length bytes → FirstMessage bytes (Some (take n bytes))
first_whole bytes n is least within =
    let size : length (take n bytes) ≡ n = (let l = length-take n bytes in omega arith) in (
      record {
        least = omega arith;
        whole = size ∙ is ∙ sym (ap (from_be_bytes w32) (take-take 4 n bytes (omega arith)));
      },
      (drop n bytes, sym (take-append-drop n bytes)),
    )

-- the bytes from a place on
take-all : (n : ℕ) (xs : List ℕ) → length xs ≤ n → take n xs ≡ xs
take-all zero [] l = refl
take-all (suc n) [] l = refl
take-all zero (x ∷ xs) l = absurd (omega arith)
take-all (suc n) (x ∷ xs) l = ap (λ ys. x ∷ ys) (take-all n xs (omega arith))

pub sliced : (bytes : List ℕ) (count : ℕ) → take (length bytes - count) (drop count bytes) ≡ drop count bytes
sliced bytes count = take-all (length bytes - count) (drop count bytes) (let l = length-drop count bytes in omega arith)

-- ---- messages that were put so far

pub record Puts (bytes : List ℕ) (count : ℕ) (old now : Link) : Type 0 where
  pub messages : List (List ℕ)
  pub are : AreMessages messages
  pub parts : bytes ≡ concat messages ++ drop count bytes
  pub size : count ≡ length (concat messages)
  pub link : now ≡ record old { output = old.output ++ flat_map binary_frame messages }

pub Puts-none : (bytes : List ℕ) (old : Link) → Puts bytes 0 old old
Puts-none bytes old = record { messages = []; are = tt; parts = refl; size = refl; link = ap (λ bs. record old { output = bs }) (sym (append-nil old.output)) }

concat-more : (ms : List (List ℕ)) (m : List ℕ) → concat (ms ++ m ∷ []) ≡ concat ms ++ m
concat-more [] m = append-nil m
concat-more (x ∷ ms) m = ap (λ bs. x ++ bs) (concat-more ms m) ∙ sym (append_assoc x (concat ms) m)

are-more : (ms : List (List ℕ)) (m : List ℕ) → AreMessages ms → IsMessage m → AreMessages (ms ++ m ∷ [])
are-more [] m h is = (is, tt)
are-more (x ∷ ms) m h is = (h.0, are-more ms m h.1 is)

pub drop-front : (xs ys : List ℕ) → drop (length xs) (xs ++ ys) ≡ ys
drop-front [] ys = refl
drop-front (x ∷ xs) ys = drop-front xs ys

pub Puts-more : (bytes message : List ℕ) (count count' : ℕ) (old now new : Link) → Puts bytes count old now → FirstMessage (drop count bytes) (Some message) → count' ≡ count + length message
    → new ≡ record now { output = now.output ++ binary_frame message } → Puts bytes count' old new
Puts-more bytes message count count' old now new h first next put =
    let rest = first.1.0 in
    let all : bytes ≡ (concat h.messages ++ message) ++ rest = h.parts ∙ ap (λ bs. concat h.messages ++ bs) first.1.1 ∙ sym (append_assoc (concat h.messages) message rest) in
    let size : count' ≡ length (concat h.messages ++ message) = (let s = h.size in let l = length-append (concat h.messages) message in omega arith) in
    let left : drop count' bytes ≡ rest = ap (λ n. drop n bytes) size ∙ ap (λ bs. drop (length (concat h.messages ++ message)) bs) all ∙ drop-front (concat h.messages ++ message) rest in
    record {
      messages = h.messages ++ message ∷ [];
      are = are-more h.messages message h.are first.0;
      parts = all ∙ ap (λ bs. (concat h.messages ++ message) ++ bs) (sym left) ∙ ap (λ bs. bs ++ drop count' bytes) (sym (concat-more h.messages message));
      size = size ∙ ap length (sym (concat-more h.messages message));
      link = put ∙ ap (λ (l : Link). record l { output = l.output ++ binary_frame message }) h.link
          ∙ ap (λ bs. record old { output = bs }) (append_assoc old.output (flat_map binary_frame h.messages) (binary_frame message) ∙ ap (λ bs. old.output ++ bs) (ap (λ bs. flat_map binary_frame h.messages ++ bs) (sym (append-nil (binary_frame message))) ∙ sym (flat_map-append binary_frame h.messages (message ∷ []))));
    }

pub Puts-within : (bytes : List ℕ) (count : ℕ) (old now : Link) → Puts bytes count old now → count ≤ length bytes
Puts-within bytes count old now h = (let e = ap length h.parts in let l = length-append (concat h.messages) (drop count bytes) in let s = h.size in omega arith)

-- no more are put
pub Frames-of : (bytes : List ℕ) (count : ℕ) (old now new : Link) (refused : Option PutRefused) → Puts bytes count old now → new ≡ now → StopsAt (drop count bytes) now refused → Frames bytes old (record { count = count; refused = refused }) new
Frames-of bytes count old now new refused h same stops = record {
  messages = h.messages;
  rest = drop count bytes;
  are = h.are;
  parts = h.parts;
  count = h.size;
  link = same ∙ h.link;
  stops = subst (λ l. StopsAt (drop count bytes) l refused) (sym same) stops;
}
