-- The test of a login says who is let in.
use Rattle.std.proofs.Common.{◌≡◌, ◌≢◌, ℕ, ◌<◌, ◌==◌, Bool, true, false, ◌&&◌, nat_lt, List, [], ◌∷◌, ◌++◌, length, take, drop, Some, None, Option, refl, sym, ap, ◌∙◌, arith}
use Rattle.std.specs.Option.{MatchOption}
use Rattle.std.proofs.lemmas.Bool.{false≢true}
use Rattle.std.specs.Bool.{Decides}
use Rattle.std.proofs.lemmas.Bool.Decides.{nat_tests}
use Rattle.std.proofs.Math.Seq.{take-append_seam}
use Rattle.std.proofs.lemmas.Slice.Eq.{bytes_eq-Decides}
use Rattle.std.proofs.lemmas.List.{take-append-drop, length-append, length-drop}
use Rattle.sha2.specs.Sha256.{sha256}
use Rattle.sha2.specs.Sha512.{sha512}
use Rattle.wc_relaycmd.specs.declared.algorithm.Algorithm.{Algorithm}
use Rattle.wc_relaycmd.specs.declared.algorithm.Algorithm.TheVariants as a
use Rattle.wc_relaycmd.specs.declared.login.Login.{Login}
use Rattle.wc_relaycmd.specs.declared.login.HashLogin.{HashLogin}
use Rattle.wc_relaycmd.specs.Pbkdf2.{sha256_key, sha512_key}
use Rattle.wc_relaycmd.specs.Logins.{round_count, IsDigestOf, IsSalted, Proves, LetsIn}
use Rattle.wc_session.specs.Logins.{same_algorithm, is_digest, is_salted, hash_proves, is_password, login_proves, lets_in}

both : (a b : Bool) (P Q : Type 0) → Decides a P → Decides b Q → Decides (a && b) (P × Q)
both true b P Q p q = (λ t. (p.0 refl, q.0 t), λ h. q.1 h.1)
both false b P Q p q = (λ t. absurd (false≢true t), λ h. p.1 h.0)

never : (P : Type 0) → (P → ⊥) → Decides false P
never P refused = (λ t. absurd (false≢true t), λ h. absurd (refused h))

always : (P : Type 0) → P → Decides true P
always P h = (λ _. h, λ _. refl)

same_decides : (a b : Algorithm) → Decides (same_algorithm a b) (a ≡ b)
same_decides a.Plain a.Plain = always _ refl
same_decides a.Sha256 a.Sha256 = always _ refl
same_decides a.Sha512 a.Sha512 = always _ refl
same_decides a.Pbkdf2Sha256 a.Pbkdf2Sha256 = always _ refl
same_decides a.Pbkdf2Sha512 a.Pbkdf2Sha512 = always _ refl
same_decides a.Plain a.Sha256 = never _ (λ e. cc)
same_decides a.Plain a.Sha512 = never _ (λ e. cc)
same_decides a.Plain a.Pbkdf2Sha256 = never _ (λ e. cc)
same_decides a.Plain a.Pbkdf2Sha512 = never _ (λ e. cc)
same_decides a.Sha256 a.Plain = never _ (λ e. cc)
same_decides a.Sha256 a.Sha512 = never _ (λ e. cc)
same_decides a.Sha256 a.Pbkdf2Sha256 = never _ (λ e. cc)
same_decides a.Sha256 a.Pbkdf2Sha512 = never _ (λ e. cc)
same_decides a.Sha512 a.Plain = never _ (λ e. cc)
same_decides a.Sha512 a.Sha256 = never _ (λ e. cc)
same_decides a.Sha512 a.Pbkdf2Sha256 = never _ (λ e. cc)
same_decides a.Sha512 a.Pbkdf2Sha512 = never _ (λ e. cc)
same_decides a.Pbkdf2Sha256 a.Plain = never _ (λ e. cc)
same_decides a.Pbkdf2Sha256 a.Sha256 = never _ (λ e. cc)
same_decides a.Pbkdf2Sha256 a.Sha512 = never _ (λ e. cc)
same_decides a.Pbkdf2Sha256 a.Pbkdf2Sha512 = never _ (λ e. cc)
same_decides a.Pbkdf2Sha512 a.Plain = never _ (λ e. cc)
same_decides a.Pbkdf2Sha512 a.Sha256 = never _ (λ e. cc)
same_decides a.Pbkdf2Sha512 a.Sha512 = never _ (λ e. cc)
same_decides a.Pbkdf2Sha512 a.Pbkdf2Sha256 = never _ (λ e. cc)

count_decides : (rounds : ℕ) → Decides (rounds == round_count) (rounds ≡ round_count)
count_decides rounds = (λ t. grind (arith, nat_tests), λ e. grind (arith, nat_tests))

digest_decides : (algorithm : Algorithm) (salt password : List ℕ) (rounds : ℕ) (digest : List ℕ)
    → Decides (is_digest algorithm salt password rounds digest) (IsDigestOf algorithm salt password rounds digest)
digest_decides a.Plain salt password rounds digest = never _ (λ h. h)
digest_decides a.Sha256 salt password rounds digest = bytes_eq-Decides digest (sha256 (salt ++ password))
digest_decides a.Sha512 salt password rounds digest = bytes_eq-Decides digest (sha512 (salt ++ password))
digest_decides a.Pbkdf2Sha256 salt password rounds digest = both _ _ _ _ (count_decides rounds) (bytes_eq-Decides digest (sha256_key password salt rounds))
digest_decides a.Pbkdf2Sha512 salt password rounds digest = both _ _ _ _ (count_decides rounds) (bytes_eq-Decides digest (sha512_key password salt rounds))

password_decides : (given : Option (List ℕ)) (password : List ℕ) → Decides (is_password given password) (given ≡ Some password)
password_decides None password = never _ (λ e. cc)
password_decides (Some given) password =
    let same = bytes_eq-Decides given password in
    (λ t. ap Some (same.0 t), λ e. let h : given ≡ password = cc in same.1 h)

some_decides : (text : List ℕ) → Decides (nat_lt 0 (length text)) (text ≢ [])
some_decides [] = never _ (λ h. h refl)
some_decides (b ∷ text) = (λ _ e. cc, λ _. grind (arith, nat_tests))

some_rest : (rest : List ℕ) → 0 < length rest → rest ≢ []
some_rest rest h e = let none : length rest ≡ 0 = ap length e in omega arith

salted_from : (salt nonce : List ℕ) → (take (length nonce) salt ≡ nonce) × (length nonce < length salt) → IsSalted salt nonce
salted_from salt nonce h =
    let rest = drop (length nonce) salt in
    (rest, sym (take-append-drop (length nonce) salt) ∙ ap (λ (t : List ℕ). t ++ rest) h.0, some_rest rest (omega (arith, length-drop (length nonce) salt, h.1)))

longer : (more : List ℕ) → more ≢ [] → 0 < length more
longer [] h = absurd (h refl)
longer (b ∷ more) h = omega arith

salted_to : (salt nonce : List ℕ) → IsSalted salt nonce → (take (length nonce) salt ≡ nonce) × (length nonce < length salt)
salted_to salt nonce h =
    let more = h.0 in (
      ap (take (length nonce)) h.1 ∙ take-append_seam nonce more,
      omega (arith, ap length h.1, length-append nonce more, longer more h.2),
    )

below_decides : (a b : ℕ) → Decides (nat_lt a b) (a < b)
below_decides a b = (λ t. grind (arith, nat_tests), λ h. grind (arith, nat_tests))

salted_decides : (salt nonce : List ℕ) → Decides (is_salted salt nonce) (IsSalted salt nonce)
salted_decides salt nonce =
    let all = both _ _ _ _ (bytes_eq-Decides (take (length nonce) salt) nonce) (below_decides (length nonce) (length salt)) in
    (λ t. salted_from salt nonce (all.0 t), λ h. all.1 (salted_to salt nonce h))

hash_decides : (login : HashLogin) (password nonce : List ℕ) (chosen : Algorithm) → Decides (hash_proves login password nonce chosen) (Proves login password nonce chosen)
hash_decides login password nonce chosen =
    let all = both _ _ _ _ (both _ _ _ _ (same_decides login.algorithm chosen) (salted_decides login.salt nonce)) (digest_decides chosen login.salt password login.rounds login.hash) in
    (λ t. record { algorithm = (all.0 t).0.0; salted = (all.0 t).0.1; hashed = (all.0 t).1 }, λ p. all.1 ((p.algorithm, p.salted), p.hashed))

proof_decides : (given : Option (List ℕ)) (hash : Option HashLogin) (password nonce : List ℕ) (chosen : Algorithm)
    → Decides (login_proves given hash password nonce chosen) (MatchOption hash ((chosen ≡ a.Plain) × (given ≡ Some password)) (λ hash. Proves hash password nonce chosen))
proof_decides given None password nonce chosen = both _ _ _ _ (same_decides chosen a.Plain) (password_decides given password)
proof_decides given (Some hash) password nonce chosen = hash_decides hash password nonce chosen

pub lets_in_decides : (login : Login) (password nonce : List ℕ) (chosen : Algorithm) → Decides (lets_in login password nonce chosen) (LetsIn login password nonce chosen)
unfolding lets_in
lets_in_decides login password nonce chosen =
    both _ _ _ _ (some_decides password) (proof_decides login.password login.hash password nonce chosen)
