-- The lines as they are stored, seen as maps of what is seen of them.
use Rattle.std.proofs.Common.{◌≡◌, ℕ, ◌+◌, ◌≤◌, ◌^◌, true, cond, eqb, List, Option, Some, None, option_map, is_some, refl, ap, sym, ◌∙◌, arith, eqb-true}
use Rattle.std.specs.FinMap.{get, insert, remove}
use Rattle.std.specs.HashMap.{HashMap}
use Rattle.std.proofs.lemmas.Bool.{false≢true}
use Rattle.wc_lines.specs.declared.line.Line.{Line}
use Rattle.wc_lines.specs.Held.{RingView}
use Rattle.wc_lines.specs.Ring.{counted}
use Rattle.wc_buffers.proofs.GroupLaws.{by_bool}
use Rattle.wc_world.specs.Kept.{held_at, field_map, IsHeldChanged}
use Rattle.wc_world.proofs.MapLemmas.{get_shown, same_shown, put_shown, removed_shown, map_in_cond}
pub use Rattle.wc_world.proofs.MapLemmas.{tied}

abbrev pub lines_of : RingView → List Line
lines_of x = x.lines

abbrev pub count_of : RingView → ℕ
count_of x = x.pushed

module _ {Y : Type 0} (f : RingView → Y) where
  pub get_field : {S : Type 0} (m : HashMap ℕ RingView S) (q : ℕ) → get (field_map f m) q ≡ option_map f (held_at m q)
  get_field m q = get_shown f m q

  module _ {S T : Type 0} (m : HashMap ℕ RingView S) (n : HashMap ℕ RingView T) where
    pub same_field : ((q : ℕ) → option_map f (held_at n q) ≡ option_map f (held_at m q)) → field_map f n ≡ field_map f m
    same_field is = same_shown f m n is

    pub put_field : (h : ℕ) (x : RingView) → ((q : ℕ) → held_at n q ≡ cond (eqb h q) (Some x) (held_at m q)) → field_map f n ≡ insert (field_map f m) h (f x)
    put_field h x is = put_shown f m n h (f x) (λ q. ap (option_map f) (is q) ∙ map_in_cond f (eqb h q) (Some x) (held_at m q))

    pub removed_field : (h : ℕ) → ((q : ℕ) → held_at n q ≡ cond (eqb h q) None (held_at m q)) → field_map f n ≡ remove (field_map f m) h
    removed_field h is = removed_shown f m n h (λ q. ap (option_map f) (is q) ∙ map_in_cond f (eqb h q) None (held_at m q))

    module _ (g : RingView → RingView) (stays : (x : RingView) → f (g x) ≡ f x) where
      left_over : (o : Option RingView) → option_map f (option_map g o) ≡ option_map f o
      left_over None = refl
      left_over (Some x) = ap (λ y. Some y) (stays x)

      -- what is changed under one handle, where the field stays
      pub field_left : (h : ℕ) → IsHeldChanged h g m n → field_map f n ≡ field_map f m
      field_left h is = same_field (λ q. ap (option_map f) (is q) ∙ by_bool (eqb h q) _ (λ t. rw t (left_over (held_at m q))) (λ t. rw t refl))

      -- what is changed under all handles
      pub field_left_all : ((q : ℕ) → held_at n q ≡ option_map g (held_at m q)) → field_map f n ≡ field_map f m
      field_left_all is = same_field (λ q. ap (option_map f) (is q) ∙ left_over (held_at m q))

module _ {S T : Type 0} (m : HashMap ℕ RingView S) (n : HashMap ℕ RingView T) where
  pub changed_to : (h : ℕ) (f : RingView → RingView) (x : RingView) → held_at m h ≡ Some x → IsHeldChanged h f m n → (q : ℕ) → held_at n q ≡ cond (eqb h q) (Some (f x)) (held_at m q)
  changed_to h f x at is q = is q ∙ by_bool (eqb h q) _ (λ t. rw t (ap (λ k. option_map f (held_at m k)) (sym (eqb-true h q t)) ∙ ap (option_map f) at)) (λ t. rw t refl)

pub some_held : (o : Option RingView) → is_some o ≡ true → (x : RingView) × (o ≡ Some x)
some_held None e = absurd (false≢true e)
some_held (Some x) e = (x, refl)

-- ---- how many lines were printed

-- below the greatest count one line more is one more
pub one_more : (n : ℕ) → n ≤ 2 ^ 63 → counted n ≡ n + 1
one_more n le = omega arith
