-- Things in two parts, and the things that a thread has beside itself.
use Rattle.std.proofs.Common.{◌≡◌, ℕ, ◌+◌, ◌||◌, Bool, true, false, if◌then◌else◌, List, [], ◌∷◌, ◌++◌, Option, Some, None, refl, sym, ap, ap₂, ◌∙◌, subst, arith}
use Rattle.std.specs.List.{AllByRecursion}
use Rattle.law_words_kept.proofs.Below.fr_typing.PlaceLemmas.{eq_cases}
use Rattle.law_words_kept.specs.Below.fr_base.declared.name.MutexNo.{MutexNo}
use Rattle.law_words_kept.specs.Below.heap_partition.declared.value.Owned.{Owned}
use Rattle.law_words_kept.specs.Below.mut_borrow.declared.mutable.MutRef.{MutRef}
use Rattle.law_words_kept.specs.Below.mut_borrow.declared.shared.SharedRef.{SharedRef}
use Rattle.law_words_kept.specs.Below.thread_state.View.{ThreadState}
use Rattle.law_words_kept.specs.Below.thread_state.declared.value.Value.{Value}
use Rattle.law_words_kept.specs.Below.thread_state.declared.value.Value.TheVariants as value
use Rattle.law_words_kept.specs.Below.coherent_memory.Names.{tot, one, some}
use Rattle.law_words_kept.specs.Below.coherent_memory.Things.{Location, at_slot, at_temp, Spot, in_slot, in_temp, Thing, holds, shares, borrows, locks, uses, lies, flies, stands, things_at, pin_things, value_things, slot_things, temp_things, gift_things, walk_things}
use Rattle.law_words_kept.specs.Below.coherent_memory.Follow.{Standing, threads_in, thread_at, cells_in}
use Rattle.law_words_kept.specs.Below.coherent_memory.Sight.{Sight}
use Rattle.law_words_kept.specs.Below.coherent_memory.OneHeap.{Node, owns, names, owner_of, named_in, any_named, or_else, first_shown}
use Rattle.law_words_kept.proofs.Below.law_counts_sums.Bags.{had_by}
use Rattle.law_words_kept.proofs.Below.law_counts_sums.Trades.{tot-append}
use Rattle.law_heap_still.proofs.events.Told.{some_or}

-- LISTS IN TWO PARTS

or_else_over : {A : Type 0} (a b c : Option A) → or_else a (or_else b c) ≡ or_else (or_else a b) c
or_else_over None b c = refl
or_else_over (Some x) b c = refl

or_over : (a b c : Bool) → a || (b || c) ≡ (a || b) || c
or_over true b c = refl
or_over false b c = refl

pub shown_both : {A : Type 0} (f : Thing → Option A) (xs ys : List Thing) → first_shown f (xs ++ ys) ≡ or_else (first_shown f xs) (first_shown f ys)
shown_both f [] ys = refl
shown_both f (x ∷ xs) ys = ap (or_else (f x)) (shown_both f xs ys) ∙ or_else_over (f x) (first_shown f xs) (first_shown f ys)

pub any_both : (s : Sight) (go : Node → Bool) (n : Node) (xs ys : List Thing) → any_named s go n (xs ++ ys) ≡ any_named s go n xs || any_named s go n ys
any_both s go n [] ys = refl
any_both s go n (x ∷ xs) ys =
    ap (λ q. named_in (names n x) go (owner_of s x) || q) (any_both s go n xs ys) ∙ or_over (named_in (names n x) go (owner_of s x)) (any_named s go n xs) (any_named s go n ys)

pub threads_both : (xs ys : List Thing) → threads_in (xs ++ ys) ≡ threads_in xs ++ threads_in ys
threads_both [] ys = refl
threads_both (stands s p t ∷ xs) ys = ap (λ l. record { server = s; packed = p; thread = t } ∷ l) (threads_both xs ys)
threads_both (_ ∷ xs) ys = threads_both xs ys

pub cells_both : (xs ys : List Thing) → cells_in (xs ++ ys) ≡ cells_in xs ++ cells_in ys
cells_both [] ys = refl
cells_both (lies s a c ∷ xs) ys = ap (λ l. c ∷ l) (cells_both xs ys)
cells_both (flies w c ∷ xs) ys = ap (λ l. c ∷ l) (cells_both xs ys)
cells_both (_ ∷ xs) ys = cells_both xs ys

pub thread_both : (xs ys : List Standing) (t : ℕ) → thread_at (xs ++ ys) t ≡ or_else (thread_at xs t) (thread_at ys t)
thread_both [] ys t = refl
thread_both (x ∷ xs) ys t =
    eq_cases (λ b. (if b then Some x else thread_at (xs ++ ys) t) ≡ or_else (if b then Some x else thread_at xs t) (thread_at ys t)) x.thread.number t (λ _. refl) (λ _. thread_both xs ys t)

-- WHAT A THREAD HAS

-- what is so of an owned value in a slot or a temporary value, of references, marks and uses
pub record Own (P : Thing → Type 0) : Type 0 where
  pub slots : (t i : ℕ) (v : Owned) → P (holds (in_slot t i) v)
  pub temps : (t i : ℕ) (v : Owned) → P (holds (in_temp t i) v)
  pub shared : (l : Location) (r : SharedRef) → P (shares l r)
  pub lent : (l : Location) (r : MutRef) → P (borrows l r)
  pub marks : (l : Location) (m : MutexNo) → P (locks l m)
  pub used : (s w : ℕ) → P (uses s w)

module _ (P : Thing → Type 0) (own : Own P) where
  all_both : (xs ys : List Thing) → AllByRecursion P xs → AllByRecursion P ys → AllByRecursion P (xs ++ ys)
  all_both [] ys a b = b
  all_both (x ∷ xs) ys a b = (a.0, all_both xs ys a.1 b)

  all_at : {A : Type 0} (g : ℕ → A → List Thing) → ((i : ℕ) (x : A) → AllByRecursion P (g i x)) → (i : ℕ) (xs : List A) → AllByRecursion P (things_at g i xs)
  all_at g e i [] = tt
  all_at g e i (x ∷ xs) = all_both (g i x) (things_at g (i + 1) xs) (e i x) (all_at g e (i + 1) xs)

  pins : (s : ℕ) (r : SharedRef) → AllByRecursion P (pin_things s r)
  pins s r = by r.pinned
    where
      by : (q : Bool) → AllByRecursion P (if q then uses s r.word ∷ [] else [])
      by true = (own.used s r.word, tt)
      by false = tt

  values : (s : ℕ) (p : Spot) (l : Location) → ((v : Owned) → P (holds p v)) → (v : Value) → AllByRecursion P (value_things s p l v)
  values s p l e (value.Own v) = (e v, tt)
  values s p l e (value.Shared r) = (own.shared l r, pins s r)
  values s p l e (value.Mut r) = (own.lent l r, tt)
  values s p l e (value.Held m) = (own.marks l m, tt)
  values s p l e value.Gone = tt
  values s p l e (value.SharedSlot i) = tt
  values s p l e (value.MutSlot i) = tt

  -- it is so of all that a thread without a gift has
  pub own_all : (n : ℕ) (x : ThreadState) → x.gift ≡ None → AllByRecursion P (had_by n x)
  own_all n x g =
      let gs : AllByRecursion P (gift_things x.number x.gift) = subst (λ o. AllByRecursion P (gift_things x.number o)) (sym g) tt in
      let ws = things_at (walk_things n) 0 x.walk in
      let ss = things_at (slot_things n x.number) 0 x.slots in
      let ts = things_at (temp_things n x.number) 0 x.temps in
      let aw = all_at (walk_things n) (λ i w. (own.used n w, tt)) 0 x.walk in
      let asl = all_at (slot_things n x.number) (λ i v. values n (in_slot x.number i) (at_slot x.number i) (own.slots x.number i) v) 0 x.slots in
      let at = all_at (temp_things n x.number) (λ i v. values n (in_temp x.number i) (at_temp x.number i) (own.temps x.number i) v) 0 x.temps in
      let gift = gift_things x.number x.gift in
      all_both (gift ++ ws ++ ss) ts (all_both (gift ++ ws) ss (all_both gift ws gs aw) asl) at

-- where it is so of each thing, it is so of the list

pub none_shown : {A : Type 0} (f : Thing → Option A) (xs : List Thing) → AllByRecursion (λ x. f x ≡ None) xs → first_shown f xs ≡ None
none_shown f [] h = refl
none_shown f (x ∷ xs) h = ap (λ o. or_else o (first_shown f xs)) h.0 ∙ none_shown f xs h.1

pub same_counted : (f g : Thing → ℕ) (xs : List Thing) → AllByRecursion (λ x. f x ≡ g x) xs → tot f xs ≡ tot g xs
same_counted f g [] h = refl
same_counted f g (x ∷ xs) h = ap₂ (λ a b. a + b) h.0 (same_counted f g xs h.1)

pub none_counted : (f : Thing → ℕ) (xs : List Thing) → AllByRecursion (λ x. f x ≡ 0) xs → tot f xs ≡ 0
none_counted f [] h = refl
none_counted f (x ∷ xs) h = ap₂ (λ a b. a + b) h.0 (none_counted f xs h.1)

pub no_threads : (xs ys : List Thing) → AllByRecursion (λ x. (l : List Thing) → threads_in (x ∷ l) ≡ threads_in l) xs → threads_in (xs ++ ys) ≡ threads_in ys
no_threads [] ys h = refl
no_threads (x ∷ xs) ys h = h.0 (xs ++ ys) ∙ no_threads xs ys h.1

pub no_cells : (xs ys : List Thing) → AllByRecursion (λ x. (l : List Thing) → cells_in (x ∷ l) ≡ cells_in l) xs → cells_in (xs ++ ys) ≡ cells_in ys
no_cells [] ys h = refl
no_cells (x ∷ xs) ys h = h.0 (xs ++ ys) ∙ no_cells xs ys h.1

-- who is named there, whatever is in the state
pub any_told : (s : Sight) (go : Node → Bool) (n : Node) (xs : List Thing) → AllByRecursion (λ x. named_in (names n x) go (owner_of s x) ≡ names n x) xs → any_named s go n xs ≡ some (tot (λ x. one (names n x)) xs)
any_told s go n [] h = refl
any_told s go n (x ∷ xs) h = ap₂ (λ p q. p || q) h.0 (any_told s go n xs h.1) ∙ sym (some_or (names n x) (tot (λ y. one (names n y)) xs))

-- WHAT A THREAD'S VALUES OWN

abbrev pub value_owns : Node → Value → Bool
value_owns n (value.Own v) = owns n v
value_owns n v = false

-- how many of these values own it
abbrev pub owned_in : Node → List Value → ℕ
owned_in n vs = tot (λ v. one (value_owns n v)) vs

module _ (n : Node) where
  abbrev named : Thing → ℕ
  named x = one (names n x)

  no_pin : (s : ℕ) (r : SharedRef) → tot named (pin_things s r) ≡ 0
  no_pin s r = by r.pinned
    where
      by : (q : Bool) → tot named (if q then uses s r.word ∷ [] else []) ≡ 0
      by true = refl
      by false = refl

  value_named : (s : ℕ) (p : Spot) (l : Location) (v : Value) → tot named (value_things s p l v) ≡ one (value_owns n v)
  value_named s p l (value.Own v) = omega arith
  value_named s p l (value.Shared r) = omega (arith, no_pin s r)
  value_named s p l (value.Mut r) = refl
  value_named s p l (value.Held m) = refl
  value_named s p l value.Gone = refl
  value_named s p l (value.SharedSlot i) = refl
  value_named s p l (value.MutSlot i) = refl

  values_named : (s : ℕ) (place : ℕ → Spot) (at : ℕ → Location) (i : ℕ) (vs : List Value) → tot named (things_at (λ j v. value_things s (place j) (at j) v) i vs) ≡ owned_in n vs
  values_named s place at i [] = refl
  values_named s place at i (v ∷ vs) =
      omega (arith, value_named s (place i) (at i) v, values_named s place at (i + 1) vs, tot-append named (value_things s (place i) (at i) v) (things_at (λ j v. value_things s (place j) (at j) v) (i + 1) vs))

  walk_named : (s i : ℕ) (ws : List ℕ) → tot named (things_at (walk_things s) i ws) ≡ 0
  walk_named s i [] = refl
  walk_named s i (w ∷ ws) = omega (arith, walk_named s (i + 1) ws)

  -- what a thread without a gift owns stands in its slots and temporary values
  pub own_named : (s : ℕ) (x : ThreadState) → x.gift ≡ None → tot named (had_by s x) ≡ owned_in n x.slots + owned_in n x.temps
  own_named s x g =
      let gift = gift_things x.number x.gift in
      let ws = things_at (walk_things s) 0 x.walk in
      let ss = things_at (slot_things s x.number) 0 x.slots in
      let ts = things_at (temp_things s x.number) 0 x.temps in
      let none : tot named gift ≡ 0 = subst (λ o. tot named (gift_things x.number o) ≡ 0) (sym g) refl in
      omega (
        arith,
        none,
        walk_named s 0 x.walk,
        values_named s (λ i. in_slot x.number i) (λ i. at_slot x.number i) 0 x.slots,
        values_named s (λ i. in_temp x.number i) (λ i. at_temp x.number i) 0 x.temps,
        tot-append named (gift ++ ws ++ ss) ts,
        tot-append named (gift ++ ws) ss,
        tot-append named gift ws,
      )
