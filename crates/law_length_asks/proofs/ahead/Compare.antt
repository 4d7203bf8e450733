-- How much is ahead on a read, star by star, and where no more is.
use Rattle.std.proofs.Common.{◌≡◌, ◌≤◌, ◌<◌, ℕ, zero, suc, ◌+◌, not, nat_lt, Bool, true, false, if◌then◌else◌, List, [], ◌∷◌, ◌++◌, length, Option, Some, None, refl, sym, ap, ◌∙◌, arith, append-nil, append_assoc, length-append}
use Rattle.std.proofs.lemmas.Bool.Decides.{nat_tests}
use Rattle.law_walks_own.specs.Below.fr_base.declared.place.Lval.{Lval}
use Rattle.law_walks_own.specs.Below.heap_partition.declared.value.Owned.TheVariants as owned
use Rattle.law_walks_own.specs.Below.thread_state.declared.value.Value.{Value}
use Rattle.law_walks_own.specs.Below.thread_state.declared.value.Value.TheVariants as value
use Rattle.law_walks_own.specs.Below.coherent_memory.Names.{other}
use Rattle.law_walks_own.specs.Below.coherent_memory.Things.{Location, at_slot, at_temp, in_cell}
use Rattle.law_walks_own.specs.Below.coherent_memory.Follow.{Ground, leads, locate, hop_at, hops}
use Rattle.law_walks_own.specs.Below.coherent_memory.Paths.{Awaited, to_read, all_to, is_at_hand, is_readable}
use Rattle.law_walks_own.specs.Below.coherent_memory.Walking.{loose_hop}
use Rattle.law_walks_own.proofs.Below.coherent_memory.Passing.{one_more}
use Rattle.law_length_asks.specs.ahead.Ahead.{ahead_from}
use Rattle.law_length_asks.proofs.ahead.Lists.{from_few, read_single}

-- what is ahead of two lists, one behind the other
abbrev join : ℕ → ℕ → ℕ → ℕ
join zero a l = a
join (suc m) a l = suc m + l

-- what a pointer that leads there has
abbrev cell_there : Option Location → ℕ
cell_there (Some (in_cell o)) = 1
cell_there (Some (at_slot t i)) = 0
cell_there (Some (at_temp t i)) = 0
cell_there None = 0

read_length : (colours t : ℕ) (v : Option Value) → length (to_read colours v) ≡ cell_there (leads t v)
read_length colours t None = refl
read_length colours t (Some (value.Own (owned.Box p))) = refl
read_length colours t (Some (value.Own owned.Nothing)) = refl
read_length colours t (Some (value.Own owned.Unit)) = refl
read_length colours t (Some (value.Own (owned.Int n))) = refl
read_length colours t (Some (value.Own (owned.Mutex m))) = refl
read_length colours t (Some (value.Own (owned.Task u))) = refl
read_length colours t (Some (value.Shared r)) = refl
read_length colours t (Some (value.Mut r)) = refl
read_length colours t (Some (value.SharedSlot i)) = refl
read_length colours t (Some (value.MutSlot i)) = refl
read_length colours t (Some (value.Held m)) = refl
read_length colours t (Some value.Gone) = refl

all_append : (f : Option Value → List Awaited) (us : List (Option Value)) (v : Option Value) → all_to f (us ++ v ∷ []) ≡ all_to f us ++ f v
all_append f [] v = append-nil (f v)
all_append f (u ∷ us) v = ap (λ l. f u ++ l) (all_append f us v) ∙ sym (append_assoc (f u) (all_to f us) (f v))

module _ (s : ℕ) (kept : List ℕ) where
  from_append : (xs ys : List Awaited) → ahead_from kept s (xs ++ ys) ≡ join (ahead_from kept s xs) (ahead_from kept s ys) (length ys)
  from_append [] ys = refl
  from_append (a ∷ xs) ys = by (is_readable kept s a) (from_append xs ys)
    where
      by : (b : Bool) → ahead_from kept s (xs ++ ys) ≡ join (ahead_from kept s xs) (ahead_from kept s ys) (length ys)
          → (if b then ahead_from kept s (xs ++ ys) else suc (length (xs ++ ys))) ≡ join (if b then ahead_from kept s xs else suc (length xs)) (ahead_from kept s ys) (length ys)
      by true g = g
      by false g = omega (arith, length-append xs ys)

  -- a pointer alone is ahead where it isn't at hand
  own_hop : (colours : ℕ) (v : Option Value) → ahead_from kept s (to_read colours v) ≡ loose_hop s kept v
  own_hop colours v = by v
    where
      one : (b : Bool) → (if b then 0 else 1) ≡ other b
      one true = refl
      one false = refl

      by : (v : Option Value) → ahead_from kept s (to_read colours v) ≡ loose_hop s kept v
      by None = refl
      by (Some (value.Own (owned.Box p))) = one (is_at_hand kept s true p.word)
      by (Some (value.Shared r)) = one (is_at_hand kept s true r.word)
      by (Some (value.Mut r)) = one (is_at_hand kept s (not r.dirty) r.word)
      by (Some (value.Own owned.Nothing)) = refl
      by (Some (value.Own owned.Unit)) = refl
      by (Some (value.Own (owned.Int n))) = refl
      by (Some (value.Own (owned.Mutex m))) = refl
      by (Some (value.Own (owned.Task u))) = refl
      by (Some (value.SharedSlot i)) = refl
      by (Some (value.MutSlot i)) = refl
      by (Some (value.Held m)) = refl
      by (Some value.Gone) = refl

  module _ (colours : ℕ) (g : Ground) (t : ℕ) (w : Lval) where
    abbrev pub A : ℕ → ℕ
    A n = ahead_from kept s (all_to (to_read colours) (hops g t w n))

    abbrev loose : ℕ → ℕ
    loose n = loose_hop s kept (hop_at g t w n)

    abbrev cells : ℕ → ℕ
    cells n = length (to_read colours (hop_at g t w n))

    -- one star more
    star_more : (n : ℕ) → A (suc n) ≡ join (A n) (loose n) (cells n)
    star_more n =
        ap (λ l. ahead_from kept s (all_to (to_read colours) l)) (one_more g t w n) ∙ ap (ahead_from kept s) (all_append (to_read colours) (hops g t w n) (hop_at g t w n)) ∙ from_append (all_to (to_read colours) (hops g t w n)) (to_read colours (hop_at g t w n))
        ∙ ap (λ m. join (A n) m (cells n)) (own_hop colours (hop_at g t w n))

    -- where nothing is ahead each pointer is at hand
    none_ahead : (n : ℕ) → A n ≡ 0 → (e : ℕ) → e < n → loose e ≡ 0
    none_ahead zero z e lt = absurd (omega (arith, lt))
    none_ahead (suc n) z e lt = by (A n) refl (sym (star_more n) ∙ z) (λ q l. none_ahead n q e l)
      where
        last : loose n ≡ 0 → A n ≡ 0 → (b : Bool) → nat_lt e n ≡ b → (A n ≡ 0 → e < n → loose e ≡ 0) → loose e ≡ 0
        last l y true f go = go y (grind (arith, nat_tests, f))
        last l y false f go = let not_less : n ≤ e = grind (arith, nat_tests, f) in let same : e ≡ n = omega (arith, lt, not_less) in ap loose same ∙ l

        by : (a : ℕ) → A n ≡ a → join (A n) (loose n) (cells n) ≡ 0 → (A n ≡ 0 → e < n → loose e ≡ 0) → loose e ≡ 0
        by zero y j go = last (sym (ap (λ q. join q (loose n) (cells n)) y) ∙ j) y (nat_lt e n) refl go
        by (suc a) y j go = let some : suc a + cells n ≡ 0 = sym (ap (λ q. join q (loose n) (cells n)) y) ∙ j in absurd (omega (arith, some))

    few : (n : ℕ) → loose n ≤ cells n
    few n = (let a = own_hop colours (hop_at g t w n) in omega (arith, a, from_few kept s (to_read colours (hop_at g t w n))))

-- where a pointer that was at hand with those before it is so still, no more is ahead
module _ (s colours colours2 : ℕ) (kept kept2 : List ℕ) (g g2 : Ground) (t : ℕ) (w : Lval) (same : (n : ℕ) → n ≤ w.depth → locate g2 t w.slot n ≡ locate g t w.slot n)
    (near : (d : ℕ) → d < w.depth → ((e : ℕ) → e < suc d → loose_hop s kept (hop_at g t w e) ≡ 0) → loose_hop s kept2 (hop_at g2 t w d) ≡ 0) where
  lengths : (d : ℕ) → d < w.depth → length (to_read colours2 (hop_at g2 t w d)) ≡ length (to_read colours (hop_at g t w d))
  lengths d lt = read_length colours2 t (hop_at g2 t w d) ∙ ap cell_there (same (suc d) (omega (arith, lt))) ∙ sym (read_length colours t (hop_at g t w d))

  pub no_more : (n : ℕ) → n ≤ w.depth → A s kept2 colours2 g2 t w n ≤ A s kept colours g t w n
  no_more zero le = omega arith
  no_more (suc n) le = by (A s kept colours g t w n) refl (A s kept2 colours2 g2 t w n) refl (no_more n (omega (arith, le)))
    where
      lt : n < w.depth
      lt = omega (arith, le)

      one : loose_hop s kept2 (hop_at g2 t w n) ≤ 1
      one = (let a = own_hop s kept2 colours2 (hop_at g2 t w n) in omega (arith, a, from_few kept2 s (to_read colours2 (hop_at g2 t w n)), read_single colours2 (hop_at g2 t w n)))

      first : A s kept colours g t w n ≡ 0 → (m : ℕ) → loose_hop s kept (hop_at g t w n) ≡ m → loose_hop s kept2 (hop_at g2 t w n) ≤ m
      first z zero e = (let a = near n lt (λ d l. none_ahead s kept colours g t w (suc n) (star_more s kept colours g t w n ∙ ap (λ q. join q (loose_hop s kept (hop_at g t w n)) (length (to_read colours (hop_at g t w n)))) z ∙ e) d l) in omega (arith, a))
      first z (suc m) e = omega (arith, one)

      by : (a : ℕ) → A s kept colours g t w n ≡ a → (b : ℕ) → A s kept2 colours2 g2 t w n ≡ b → A s kept2 colours2 g2 t w n ≤ A s kept colours g t w n → A s kept2 colours2 g2 t w (suc n) ≤ A s kept colours g t w (suc n)
      by zero e zero f l =
          let p = star_more s kept colours g t w n ∙ ap (λ q. join q (loose_hop s kept (hop_at g t w n)) (length (to_read colours (hop_at g t w n)))) e in
          let q = star_more s kept2 colours2 g2 t w n ∙ ap (λ m. join m (loose_hop s kept2 (hop_at g2 t w n)) (length (to_read colours2 (hop_at g2 t w n)))) f in
          omega (arith, p, q, first e (loose_hop s kept (hop_at g t w n)) refl)
      by zero e (suc b) f l = absurd (omega (arith, e, f, l))
      by (suc a) e zero f l =
          let p = star_more s kept colours g t w n ∙ ap (λ q. join q (loose_hop s kept (hop_at g t w n)) (length (to_read colours (hop_at g t w n)))) e in
          let q = star_more s kept2 colours2 g2 t w n ∙ ap (λ m. join m (loose_hop s kept2 (hop_at g2 t w n)) (length (to_read colours2 (hop_at g2 t w n)))) f in
          omega (arith, p, q, few s kept2 colours2 g2 t w n, lengths n lt)
      by (suc a) e (suc b) f l =
          let p = star_more s kept colours g t w n ∙ ap (λ q. join q (loose_hop s kept (hop_at g t w n)) (length (to_read colours (hop_at g t w n)))) e in
          let q = star_more s kept2 colours2 g2 t w n ∙ ap (λ m. join m (loose_hop s kept2 (hop_at g2 t w n)) (length (to_read colours2 (hop_at g2 t w n)))) f in
          omega (arith, p, q, e, f, l, lengths n lt)
