-- The mutexes by the numbers of their names.
use Rattle.std.proofs.Common.{◌≡◌, ℕ, suc, ◌/◌, ◌%◌, ◌<◌, ◌^◌, true, false, List, [], ◌∷◌, ◌++◌, length, Option, Some, None, refl, sym, ap, ap₂, ◌∙◌, subst, arith, nat_eq}
use Rattle.std.specs.Prelude.{◌==◌, ◌&&◌, is_some, option_map, cond, if◌then◌else◌, IsSome}
use Rattle.fr_base.specs.Names.{same_mutex}
use Rattle.fr_base.specs.declared.name.MutexNo.{MutexNo}
use Rattle.fr_plain.specs.MachineThreads as plain
use Rattle.fr_plain.specs.MachineThreads.{Mutex, mutex_at, mutex_there, with_mutex}
use Rattle.fr_typing.proofs.PlaceLemmas.{eq_cases}
use Rattle.fr_shared.proofs.PlaceLemmas.{no_more, turned}
use Rattle.fr_shared.specs.declared.mutexes.Shared.{Shared}
use Rattle.fr_shared.specs.Places.{place_of}
use Rattle.fr_shared.specs.MutexInside.{there_of, mutexes_of, key_of, name_of, AreApart}

-- NAMES AND NUMBERS

-- names with the same number are the same
same_key : (m n : MutexNo) → m.count < 2 ^ 32 → n.count < 2 ^ 32 → same_mutex m n ≡ key_of m == key_of n
same_key m n a b =
    eq_cases (λ x. same_mutex m n ≡ x) (key_of m) (key_of n) (λ e. both (omega (arith, e, a, b)) (omega (arith, e, a, b)))
    (λ ne. eq_cases (λ x. (x && (m.count == n.count)) ≡ false) m.home n.home (λ h. eq_cases (λ x. x ≡ false) m.count n.count (λ k. absurd (ne (omega (arith, h, k)))) (λ _. refl)) (λ _. refl))
  where
    both : m.home ≡ n.home → m.count ≡ n.count → same_mutex m n ≡ true
    both h k = eq_cases (λ x. (x && (m.count == n.count)) ≡ true) m.home n.home (λ _. eq_cases (λ x. x ≡ true) m.count n.count (λ _. refl) (λ no. absurd (no k))) (λ no. absurd (no h))

key_again : (k : ℕ) → key_of (name_of k) ≡ k
key_again k = omega arith

-- a number's name and another
same_name : (k : ℕ) (n : MutexNo) → n.count < 2 ^ 32 → same_mutex (name_of k) n ≡ k == key_of n
same_name k n b = same_key (name_of k) n (omega arith) b ∙ ap (λ x. x == key_of n) (key_again k)

name_again : (n : MutexNo) → n.count < 2 ^ 32 → name_of (key_of n) ≡ n
name_again n b = ap₂ named home count
  where
    named : ℕ → ℕ → MutexNo
    named h c = record { home = h; count = c }

    home : key_of n / 2 ^ 32 ≡ n.home
    home = omega (arith, b)

    count : key_of n % 2 ^ 32 ≡ n.count
    count = omega (arith, b)

-- WHAT IS THERE

-- a name was given where it has a place
pub given_as : (f : ℕ → Option Shared) (ks : List ℕ) (n : MutexNo) → n.count < 2 ^ 32 → is_some (place_of ks (key_of n)) ≡ is_some (mutex_at (mutexes_of f ks) n)
given_as f [] n b = refl
given_as f (k ∷ ks) n b =
    eq_cases (λ c. is_some (if c then Some 0 else option_map (λ i. suc i) (place_of ks (key_of n))) ≡ is_some (if c then Some (mutex k) else mutex_at (mutexes_of f ks) n)) k (key_of n)
    (λ same. refl) (λ other. later (place_of ks (key_of n)) ∙ given_as f ks n b)
    ∙ ap (λ x. is_some (if x then Some (mutex k) else mutex_at (mutexes_of f ks) n)) (sym (same_name k n b))
  where
    mutex : ℕ → Mutex
    mutex q = record { number = name_of q; there = there_of (f q) }

    later : (o : Option ℕ) → is_some (option_map (λ i. suc i) o) ≡ is_some o
    later None = refl
    later (Some i) = refl

-- a new name has no place
pub new_name : (f : ℕ → Option Shared) (ks : List ℕ) (n : MutexNo) → n.count < 2 ^ 32 → mutex_at (mutexes_of f ks) n ≡ None → place_of ks (key_of n) ≡ None
new_name f ks n b h = by (place_of ks (key_of n)) (given_as f ks n b ∙ ap (λ (o : Option Mutex). is_some o) h)
  where
    by : (o : Option ℕ) → is_some o ≡ false → o ≡ None
    by None g = refl
    by (Some i) g = cc

abbrev there_in : Option Mutex → Option plain.Shared
there_in None = None
there_in (Some x) = x.there

there_same : (ms : List Mutex) (n : MutexNo) → mutex_there ms n ≡ there_in (mutex_at ms n)
there_same ms n = by (mutex_at ms n) refl
  where
    by : (o : Option Mutex) → mutex_at ms n ≡ o → mutex_there ms n ≡ there_in (mutex_at ms n)
    by None h = rw h refl
    by (Some x) h = rw h refl

-- what a name has
there_by : (f : ℕ → Option Shared) (ks : List ℕ) (n : MutexNo) → n.count < 2 ^ 32 → (place_of ks (key_of n) ≡ None → f (key_of n) ≡ None) → there_in (mutex_at (mutexes_of f ks) n) ≡ there_of (f (key_of n))
there_by f [] n b h = ap there_of (sym (h refl))
there_by f (k ∷ ks) n b h =
    ap (λ x. there_in (if x then Some (mutex k) else mutex_at (mutexes_of f ks) n)) (same_name k n b)
    ∙ eq_cases (λ c. ((if c then Some 0 else option_map (λ i. suc i) (place_of ks (key_of n))) ≡ None → f (key_of n) ≡ None) → there_in (if c then Some (mutex k) else mutex_at (mutexes_of f ks) n) ≡ there_of (f (key_of n))) k (key_of n)
    (λ same g. ap (λ q. there_of (f q)) same) (λ other g. there_by f ks n b (λ e. g (ap (option_map (λ i. suc i)) e))) h
  where
    mutex : ℕ → Mutex
    mutex q = record { number = name_of q; there = there_of (f q) }

pub there_is : (f : ℕ → Option Shared) (ks : List ℕ) (n : MutexNo) → n.count < 2 ^ 32 → ((k : ℕ) → place_of ks k ≡ None → f k ≡ None) → mutex_there (mutexes_of f ks) n ≡ there_of (f (key_of n))
there_is f ks n b named = there_same (mutexes_of f ks) n ∙ there_by f ks n b (named (key_of n))

-- a name with a share has it by its number
pub lives_of : (f : ℕ → Option Shared) (ks : List ℕ) (n : MutexNo) → n.count < 2 ^ 32 → ((k : ℕ) → place_of ks k ≡ None → f k ≡ None) → IsSome (mutex_there (mutexes_of f ks) n) → IsSome (f (key_of n))
lives_of f ks n b named h = by (f (key_of n)) (subst (λ (o : Option plain.Shared). IsSome o) (there_is f ks n b named) h)
  where
    by : (o : Option Shared) → IsSome (there_of o) → IsSome o
    by None g = absurd cc
    by (Some x) g = refl

-- CHANGES

-- without a place of its number, a change changes nothing
mutexes_same : (f g : ℕ → Option Shared) (ks : List ℕ) (k : ℕ) → place_of ks k ≡ None → ((q : ℕ) → nat_eq k q ≡ false → g q ≡ f q) → mutexes_of g ks ≡ mutexes_of f ks
mutexes_same f g [] k h others = refl
mutexes_same f g (q ∷ ks) k h others =
    eq_cases (λ c. q == k ≡ c → (if c then Some 0 else option_map (λ i. suc i) (place_of ks k)) ≡ None → mutexes_of g (q ∷ ks) ≡ mutexes_of f (q ∷ ks)) q k (λ same _ e. cc)
    (λ other t e. ap₂ (λ (o : Option Shared) (l : List Mutex). (let x : Mutex = record { number = name_of q; there = there_of o } in x ∷ l)) (others q (turned k q ∙ t)) (mutexes_same f g ks k (no_more (place_of ks k) e) others)) refl h

-- another state of a name
pub set_there : (f g : ℕ → Option Shared) (ks : List ℕ) (n : MutexNo) (new : Option Shared) → n.count < 2 ^ 32 → AreApart ks → g (key_of n) ≡ new → ((q : ℕ) → nat_eq (key_of n) q ≡ false → g q ≡ f q) → mutexes_of g ks ≡ with_mutex (mutexes_of f ks) n (there_of new)
set_there f g [] n new b apart at others = refl
set_there f g (k ∷ ks) n new b apart at others =
    eq_cases (λ c. k == key_of n ≡ c → mutexes_of g (k ∷ ks) ≡ (if c then mutex k (there_of new) ∷ mutexes_of f ks else mutex k (there_of (f k)) ∷ with_mutex (mutexes_of f ks) n (there_of new))) k (key_of n)
    (λ same t. ap₂ (λ (o : Option Shared) (l : List Mutex). mutex k (there_of o) ∷ l) (ap g same ∙ at) (mutexes_same f g ks (key_of n) (subst (λ q. place_of ks q ≡ None) same apart.0) others))
    (λ other t. ap₂ (λ (o : Option Shared) (l : List Mutex). mutex k (there_of o) ∷ l) (others k (turned (key_of n) k ∙ t)) (set_there f g ks n new b apart.1 at others)) refl
    ∙ ap (λ c. if c then mutex k (there_of new) ∷ mutexes_of f ks else mutex k (there_of (f k)) ∷ with_mutex (mutexes_of f ks) n (there_of new)) (sym (same_name k n b))
  where
    mutex : ℕ → Option plain.Shared → Mutex
    mutex q there = record { number = name_of q; there = there }

-- whatever has a share still has a name
pub set_named : (f g : ℕ → Option Shared) (ks : List ℕ) (k : ℕ) → IsSome (f k) → ((q : ℕ) → nat_eq k q ≡ false → g q ≡ f q) → ((q : ℕ) → place_of ks q ≡ None → f q ≡ None) → (q : ℕ) → place_of ks q ≡ None → g q ≡ None
set_named f g ks k lives others named q h =
    eq_cases (λ c. nat_eq k q ≡ c → g q ≡ None) k q
    (λ same _. let none = ap f same ∙ named q h in let no = subst (λ (o : Option Shared). IsSome o) none lives in absurd cc) (λ other t. others q t ∙ named q h) refl

pub gone_named : (f g : ℕ → Option Shared) (ks : List ℕ) (k : ℕ) → ((q : ℕ) → g q ≡ cond (nat_eq k q) None (f q)) → ((q : ℕ) → place_of ks q ≡ None → f q ≡ None) → (q : ℕ) → place_of ks q ≡ None → g q ≡ None
gone_named f g ks k by named q h = by q ∙ eq_cases (λ c. cond c None (f q) ≡ None) k q (λ _. refl) (λ _. named q h)

-- ONE MORE

push_names : (f : ℕ → Option Shared) (ks : List ℕ) (k : ℕ) → mutexes_of f (ks ++ k ∷ []) ≡ mutexes_of f ks ++ record { number = name_of k; there = there_of (f k) } ∷ []
push_names f [] k = refl
push_names f (q ∷ ks) k = ap (λ (l : List Mutex). (let x : Mutex = record { number = name_of q; there = there_of (f q) } in x ∷ l)) (push_names f ks k)

pub mutexes_push : (f g : ℕ → Option Shared) (ks : List ℕ) (n : MutexNo) (x : Shared) → n.count < 2 ^ 32 → place_of ks (key_of n) ≡ None → g (key_of n) ≡ Some x → ((q : ℕ) → nat_eq (key_of n) q ≡ false → g q ≡ f q) → mutexes_of g (ks ++ key_of n ∷ []) ≡ mutexes_of f ks ++ record { number = n; there = there_of (Some x) } ∷ []
mutexes_push f g ks n x b new at others =
    push_names g ks (key_of n)
    ∙ ap₂ (λ (l : List Mutex) (m : Mutex). l ++ m ∷ []) (mutexes_same f g ks (key_of n) new others)
    (ap₂ (λ (m : MutexNo) (o : Option Shared). (let y : Mutex = record { number = m; there = there_of o } in y)) (name_again n b) at)

-- a number that has no place behind another has none before it, and is another
place_push : (ks : List ℕ) (k q : ℕ) → place_of (ks ++ k ∷ []) q ≡ None → (place_of ks q ≡ None) × (nat_eq k q ≡ false)
place_push [] k q h =
    eq_cases (λ c. (if c then Some 0 else option_map (λ i. suc i) (place_of [] q)) ≡ None → nat_eq k q ≡ c → (place_of [] q ≡ None) × (nat_eq k q ≡ false)) k q (λ _ e _. absurd cc) (λ _ e t. (refl, t)) h refl
place_push (p ∷ ks) k q h =
    eq_cases (λ c. (if c then Some 0 else option_map (λ i. suc i) (place_of (ks ++ k ∷ []) q)) ≡ None → ((if c then Some 0 else option_map (λ i. suc i) (place_of ks q)) ≡ None) × (nat_eq k q ≡ false)) p q (λ _ e. absurd cc)
    (λ _ e. let r = place_push ks k q (no_more (place_of (ks ++ k ∷ []) q) e) in (ap (option_map (λ i. suc i)) r.0, r.1)) h

pub push_named : (f g : ℕ → Option Shared) (ks : List ℕ) (k : ℕ) → ((q : ℕ) → nat_eq k q ≡ false → g q ≡ f q) → ((q : ℕ) → place_of ks q ≡ None → f q ≡ None) → (q : ℕ) → place_of (ks ++ k ∷ []) q ≡ None → g q ≡ None
push_named f g ks k others named q h = let r = place_push ks k q h in others q r.1 ∙ named q r.0

-- a number without a place is another than each
placed_push : (ks : List ℕ) (k q : ℕ) → place_of ks q ≡ None → k == q ≡ false → place_of (ks ++ k ∷ []) q ≡ None
placed_push [] k q h ne = ap (λ b. if b then Some 0 else None) ne
placed_push (p ∷ ks) k q h ne =
    eq_cases (λ c. (if c then Some 0 else option_map (λ i. suc i) (place_of ks q)) ≡ None → (if c then Some 0 else option_map (λ i. suc i) (place_of (ks ++ k ∷ []) q)) ≡ None) p q (λ _ e. absurd cc)
    (λ _ e. ap (option_map (λ i. suc i)) (placed_push ks k q (no_more (place_of ks q) e) ne)) h

pub apart_push : (ks : List ℕ) (k : ℕ) → AreApart ks → place_of ks k ≡ None → AreApart (ks ++ k ∷ [])
apart_push [] k apart h = (refl, tt)
apart_push (p ∷ ks) k apart h =
    eq_cases (λ c. p == k ≡ c → (if c then Some 0 else option_map (λ i. suc i) (place_of ks k)) ≡ None → AreApart ((p ∷ ks) ++ k ∷ [])) p k (λ _ _ e. absurd cc)
    (λ _ t e. (placed_push ks k p apart.0 (turned k p ∙ t), apart_push ks k apart.1 (no_more (place_of ks k) e))) refl h

-- as many mutexes as names
pub length_mutexes : (f : ℕ → Option Shared) (ks : List ℕ) → length (mutexes_of f ks) ≡ length ks
length_mutexes f [] = refl
length_mutexes f (k ∷ ks) = ap suc (length_mutexes f ks)

-- what isn't there is nothing
pub new_none : (o : Option Mutex) → is_some o ≡ false → o ≡ None
new_none None h = refl
new_none (Some x) h = cc
