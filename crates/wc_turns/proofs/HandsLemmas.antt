-- What is handed to one link over a run.
use Rattle.std.proofs.Common.{◌≡◌, ℕ, Bool, true, false, List, [], ◌++◌, refl, sym, ap, ◌∙◌, append_assoc}
use Rattle.std.proofs.lemmas.Bool.{false≢true}
use Rattle.std.proofs.lemmas.List.{append-nil}
use Rattle.wc_turns.specs.Hands.{Point, IsFrontOf, Delivers}

clash : {A : Type 0} (b : Bool) → b ≡ true → b ≡ false → A
clash b t f = absurd (false≢true (sym f ∙ t))

open_before : (a b : Point) (x : Bool) → a.gone ≡ x → (a.gone ≡ true → b.gone ≡ true) → b.gone ≡ false → a.gone ≡ false
open_before a b true e h f = clash b.gone (h e) f
open_before a b false e h f = e

closes-by : (a b c : Point) (o p : List ℕ) (x : Bool) → b.gone ≡ x → Delivers a b o → Delivers b c p → a.gone ≡ false → c.gone ≡ true → IsFrontOf ((a.sent ++ a.unsent) ++ (o ++ p)) c
closes-by a b c o p false e h g f t =
    let front = g.closes e t in
    record {
      rest = front.rest;
      same = sym (append_assoc (a.sent ++ a.unsent) o p) ∙ ap (λ bytes. bytes ++ p) (sym (h.stays e)) ∙ front.same;
      whole = front.whole;
    }
closes-by a b c o p true e h g f t =
    let front = h.closes f e in
    record {
      rest = front.rest;
      same = ap (λ bytes. (a.sent ++ a.unsent) ++ (o ++ bytes)) (g.nothing e) ∙ ap (λ bytes. (a.sent ++ a.unsent) ++ bytes) (append-nil o) ∙ front.same ∙ ap (λ bytes. bytes ++ front.rest) (sym (g.sent e));
      whole = λ q. front.whole (g.spoils q);
    }

pub Delivers-trans : (a b c : Point) (o p : List ℕ) → Delivers a b o → Delivers b c p → Delivers a c (o ++ p)
Delivers-trans a b c o p h g = record {
  gone = λ e. g.gone (h.gone e);
  spoils = λ e. h.spoils (g.spoils e);
  stays = λ e. g.stays e ∙ ap (λ bytes. bytes ++ p) (h.stays (open_before b c b.gone refl g.gone e)) ∙ append_assoc (a.sent ++ a.unsent) o p;
  closes = closes-by a b c o p b.gone refl h g;
  sent = λ e. g.sent (h.gone e) ∙ h.sent e;
  nothing = λ e. ap (λ bytes. bytes ++ p) (h.nothing e) ∙ g.nothing (h.gone e);
}

-- a link that is open stays open, and one that is gone stays as it is
pub Delivers-stays : (a b : Point) (owed : List ℕ) → b.gone ≡ a.gone → (b.spoiled ≡ false → a.spoiled ≡ false) → b.sent ++ b.unsent ≡ (a.sent ++ a.unsent) ++ owed → (a.gone ≡ true → b.sent ≡ a.sent) → (a.gone ≡ true → owed ≡ []) → Delivers a b owed
Delivers-stays a b owed gone spoils bytes sent nothing = record {
  gone = λ e. gone ∙ e;
  spoils = spoils;
  stays = λ e. bytes;
  closes = λ f t. clash a.gone (sym gone ∙ t) f;
  sent = sent;
  nothing = nothing;
}

-- a link whose client is leaving is closed
pub Delivers-close : (a b : Point) → a.gone ≡ false → b.gone ≡ true → b.sent ≡ a.sent → (b.spoiled ≡ false → a.spoiled ≡ false) → (b.spoiled ≡ false → a.unsent ≡ []) → Delivers a b []
Delivers-close a b f t same spoils all = record {
  gone = λ e. t;
  spoils = spoils;
  stays = λ e. clash b.gone t e;
  closes = λ x y. record { rest = a.unsent; same = append-nil (a.sent ++ a.unsent) ∙ ap (λ bytes. bytes ++ a.unsent) (sym same); whole = all };
  sent = λ e. same;
  nothing = λ e. refl;
}
