-- Lists of threads, mutexes and pairs by the names in them, and what is let go in states that are the same name by name.
use Rattle.std.proofs.Common.{◌≡◌, ◌≢◌, ℕ, zero, suc, ◌+◌, ◌≤◌, Bool, true, false, List, [], ◌∷◌, ◌++◌, Option, Some, None, refl, sym, ap, ◌∙◌, subst, arith}
use Rattle.std.specs.Prelude.{◌==◌, ◌&&◌, is_some, if◌then◌else◌}
use Rattle.fr_base.specs.Names.{same_mutex}
use Rattle.fr_base.specs.declared.label.Plain.{Plain}
use Rattle.fr_base.specs.declared.label.Plain.TheVariants as plain
use Rattle.fr_base.specs.declared.name.MutexNo.{MutexNo}
use Rattle.fr_typing.proofs.PlaceLemmas.{eq_cases}
use Rattle.fr_plain.specs.declared.value.Value.{Value}
use Rattle.fr_plain.specs.declared.value.Value.TheVariants.{Own}
use Rattle.fr_plain.specs.Heap.{Heap}
use Rattle.fr_plain.specs.State.{without}
use Rattle.fr_plain.specs.MachineActs.{end_of}
use Rattle.fr_plain.specs.MachineThreads.{Life, alive, over, owing, loose, ended, Thread, Shared, Mutex, Pair, Whole, mutex_at, mutex_there, with_mutex, pair_of, without_pair, thread_at, with_thread, with_life, is_over, value_gone, thread_released, thread_released_in, content_gone, share_gone, share_released, release_by, count_both, release, dropped}
use Rattle.fr_plain.specs.PlainState.{running, running_in, is_over_in, two_of}
use Rattle.fr_plain.proofs.SameHeaps.{let_go_of, SameHeap, same_without, same_end}

-- MUTEXES

abbrev mutex_of : ℕ → ℕ → MutexNo
mutex_of h c = record { home = h; count = c }

-- a choice by whether two names of mutexes are equal
mutex_cases : (P : Bool → Type 0) (m n : MutexNo) → (m ≡ n → P true) → (m ≢ n → P false) → P (same_mutex m n)
mutex_cases P m n same other =
    eq_cases (λ b. P (b && m.count == n.count)) m.home n.home
    (λ e. eq_cases P m.count n.count (λ f. same (ap (λ h. mutex_of h m.count) e ∙ ap (mutex_of n.home) f)) (λ ne. other (λ f. ne (ap (λ (x : MutexNo). x.count) f)))) (λ ne. other (λ f. ne (ap (λ (x : MutexNo). x.home) f)))

abbrev pub there_of : Option Mutex → Option Shared
there_of None = None
there_of (Some x) = x.there

abbrev with_there : Option Shared → Option Mutex → Option Mutex
with_there new None = None
with_there new (Some x) = Some (record x { there = new })

set_at : (xs : List Mutex) (n : MutexNo) (new : Option Shared) (k : MutexNo) → n ≡ k → mutex_at (with_mutex xs n new) k ≡ with_there new (mutex_at xs k)
set_at [] n new k e = refl
set_at (x ∷ xs) n new k e =
    mutex_cases (λ b. mutex_at (if b then record x { there = new } ∷ xs else x ∷ with_mutex xs n new) k ≡ with_there new (if same_mutex x.number k then Some x else mutex_at xs k)) x.number n
    (λ f. mutex_cases (λ b. (if b then Some (record x { there = new }) else mutex_at xs k) ≡ with_there new (if b then Some x else mutex_at xs k)) x.number k (λ _. refl) (λ ne. absurd (ne (f ∙ e))))
    (λ off. mutex_cases (λ b. (if b then Some x else mutex_at (with_mutex xs n new) k) ≡ with_there new (if b then Some x else mutex_at xs k)) x.number k (λ f. absurd (off (f ∙ sym e))) (λ _. set_at xs n new k e))

set_off : (xs : List Mutex) (n : MutexNo) (new : Option Shared) (k : MutexNo) → n ≢ k → mutex_at (with_mutex xs n new) k ≡ mutex_at xs k
set_off [] n new k e = refl
set_off (x ∷ xs) n new k e =
    mutex_cases (λ b. mutex_at (if b then record x { there = new } ∷ xs else x ∷ with_mutex xs n new) k ≡ (if same_mutex x.number k then Some x else mutex_at xs k)) x.number n
    (λ f. mutex_cases (λ b. (if b then Some (record x { there = new }) else mutex_at xs k) ≡ (if b then Some x else mutex_at xs k)) x.number k (λ g. absurd (e (sym f ∙ g))) (λ _. refl))
    (λ off. mutex_cases (λ b. (if b then Some x else mutex_at (with_mutex xs n new) k) ≡ (if b then Some x else mutex_at xs k)) x.number k (λ _. refl) (λ _. set_off xs n new k e))

-- what is seen of a name: nothing, or whether the mutex is there
abbrev pub shown : Option Mutex → Option (Option Shared)
shown None = None
shown (Some x) = Some x.there

abbrev pub SameMutexes : List Mutex → List Mutex → Type 0
SameMutexes xs ys = (k : MutexNo) → shown (mutex_at xs k) ≡ shown (mutex_at ys k)

shown_with : (new : Option Shared) (p q : Option Mutex) → shown p ≡ shown q → shown (with_there new p) ≡ shown (with_there new q)
shown_with new None None e = refl
shown_with new None (Some y) e = absurd cc
shown_with new (Some x) None e = absurd cc
shown_with new (Some x) (Some y) e = refl

pub same_set : (xs ys : List Mutex) → SameMutexes xs ys → (n : MutexNo) (new : Option Shared) → SameMutexes (with_mutex xs n new) (with_mutex ys n new)
same_set xs ys h n new k =
    mutex_cases (λ b. shown (mutex_at (with_mutex xs n new) k) ≡ shown (mutex_at (with_mutex ys n new) k)) n k
    (λ e. ap shown (set_at xs n new k e) ∙ shown_with new (mutex_at xs k) (mutex_at ys k) (h k) ∙ sym (ap shown (set_at ys n new k e)))
    (λ ne. ap shown (set_off xs n new k ne) ∙ h k ∙ sym (ap shown (set_off ys n new k ne)))

abbrev pub or_else : {A : Type 0} → Option A → Option A → Option A
or_else None y = y
or_else (Some x) y = Some x

mutex_more : (xs ys : List Mutex) (k : MutexNo) → mutex_at (xs ++ ys) k ≡ or_else (mutex_at xs k) (mutex_at ys k)
mutex_more [] ys k = refl
mutex_more (x ∷ xs) ys k =
    mutex_cases (λ b. (if b then Some x else mutex_at (xs ++ ys) k) ≡ or_else (if b then Some x else mutex_at xs k) (mutex_at ys k)) x.number k (λ _. refl) (λ _. mutex_more xs ys k)

shown_or : (p q r : Option Mutex) → shown p ≡ shown q → shown (or_else p r) ≡ shown (or_else q r)
shown_or None None r e = refl
shown_or None (Some y) r e = absurd cc
shown_or (Some x) None r e = absurd cc
shown_or (Some x) (Some y) r e = e

pub same_mutex_more : (xs ys zs : List Mutex) → SameMutexes xs ys → SameMutexes (xs ++ zs) (ys ++ zs)
same_mutex_more xs ys zs h k = ap shown (mutex_more xs zs k) ∙ shown_or (mutex_at xs k) (mutex_at ys k) (mutex_at zs k) (h k) ∙ sym (ap shown (mutex_more ys zs k))

there_shown : (p q : Option Mutex) → shown p ≡ shown q → there_of p ≡ there_of q
there_shown None None e = refl
there_shown None (Some y) e = absurd cc
there_shown (Some x) None e = absurd cc
there_shown (Some x) (Some y) e = cc

pub same_there : (xs ys : List Mutex) → SameMutexes xs ys → (k : MutexNo) → mutex_there xs k ≡ mutex_there ys k
same_there xs ys h k = there_shown (mutex_at xs k) (mutex_at ys k) (h k)

given_shown : (p q : Option Mutex) → shown p ≡ shown q → is_some p ≡ is_some q
given_shown None None e = refl
given_shown None (Some y) e = absurd cc
given_shown (Some x) None e = absurd cc
given_shown (Some x) (Some y) e = refl

pub same_given : (xs ys : List Mutex) → SameMutexes xs ys → (k : MutexNo) → is_some (mutex_at xs k) ≡ is_some (mutex_at ys k)
same_given xs ys h k = given_shown (mutex_at xs k) (mutex_at ys k) (h k)

-- how many mutexes are there
abbrev weigh_there : Option Shared → ℕ
weigh_there None = 0
weigh_there (Some x) = 1

abbrev weigh_mutexes : List Mutex → ℕ
weigh_mutexes [] = 0
weigh_mutexes (x ∷ xs) = weigh_there x.there + weigh_mutexes xs

mutex_weighs : (xs : List Mutex) (n : MutexNo) (x : Shared) → mutex_there xs n ≡ Some x → weigh_mutexes (with_mutex xs n None) + 1 ≡ weigh_mutexes xs
mutex_weighs [] n x e = absurd cc
mutex_weighs (y ∷ ys) n x e =
    mutex_cases (λ b. there_of (if b then Some y else mutex_at ys n) ≡ Some x → weigh_mutexes (if b then record y { there = None } ∷ ys else y ∷ with_mutex ys n None) + 1 ≡ weigh_there y.there + weigh_mutexes ys) y.number n
    (λ _ f. let w = ap weigh_there f in omega (arith, w)) (λ _ f. let rest = mutex_weighs ys n x f in omega (arith, rest)) e

-- PAIRS

pair_off : (ps : List Pair) (t u : ℕ) → t ≢ u → pair_of (without_pair ps t) u ≡ pair_of ps u
pair_off [] t u e = refl
pair_off (p ∷ ps) t u e =
    eq_cases (λ b. pair_of (if b then without_pair ps t else p ∷ without_pair ps t) u ≡ (if p.parent == u then Some p else pair_of ps u)) p.parent t
    (λ f. eq_cases (λ b. pair_of (without_pair ps t) u ≡ (if b then Some p else pair_of ps u)) p.parent u (λ g. absurd (e (sym f ∙ g))) (λ _. pair_off ps t u e))
    (λ _. eq_cases (λ b. (if b then Some p else pair_of (without_pair ps t) u) ≡ (if b then Some p else pair_of ps u)) p.parent u (λ _. refl) (λ _. pair_off ps t u e))

pair_gone : (ps : List Pair) (t : ℕ) → pair_of (without_pair ps t) t ≡ None
pair_gone [] t = refl
pair_gone (p ∷ ps) t =
    eq_cases (λ b. pair_of (if b then without_pair ps t else p ∷ without_pair ps t) t ≡ None) p.parent t (λ _. pair_gone ps t)
    (λ ne. eq_cases (λ b. (if b then Some p else pair_of (without_pair ps t) t) ≡ None) p.parent t (λ e. absurd (ne e)) (λ _. pair_gone ps t))

abbrev pub SamePairs : (ℕ → Type 0) → List Pair → List Pair → Type 0
SamePairs K ps qs = (t : ℕ) → K t → two_of (pair_of ps t) ≡ two_of (pair_of qs t)

pub same_pair_gone : (K : ℕ → Type 0) (ps qs : List Pair) → SamePairs K ps qs → (t : ℕ) → SamePairs K (without_pair ps t) (without_pair qs t)
same_pair_gone K ps qs h t u k =
    eq_cases (λ b. two_of (pair_of (without_pair ps t) u) ≡ two_of (pair_of (without_pair qs t) u)) t u
    (λ e. ap (λ v. two_of (pair_of (without_pair ps v) u)) e ∙ ap two_of (pair_gone ps u) ∙ sym (ap (λ v. two_of (pair_of (without_pair qs v) u)) e ∙ ap two_of (pair_gone qs u)))
    (λ ne. ap two_of (pair_off ps t u ne) ∙ h u k ∙ sym (ap two_of (pair_off qs t u ne)))

pub same_pair_more : (K : ℕ → Type 0) (ps qs : List Pair) → SamePairs K ps qs → (p : Pair) → SamePairs K (p ∷ ps) (p ∷ qs)
same_pair_more K ps qs h p u k = eq_cases (λ b. two_of (if b then Some p else pair_of ps u) ≡ two_of (if b then Some p else pair_of qs u)) p.parent u (λ _. refl) (λ _. h u k)

-- HEAPS

pub heap_less : (K L : ℕ → Type 0) (h g : Heap) → ((t : ℕ) → L t → K t) → SameHeap K h g → SameHeap L h g
heap_less K L h g f s = record { cells = s.cells; made = λ t k. s.made t (f t k) }

module _ {P : Type 0} where
  -- THREADS

  abbrev pub put_in : Thread P → Option (Thread P) → Option (Thread P)
  put_in u None = None
  put_in u (Some x) = Some u

  pub put_at : (xs : List (Thread P)) (u : Thread P) (t : ℕ) → u.number ≡ t → thread_at (with_thread xs u) t ≡ put_in u (thread_at xs t)
  put_at [] u t e = refl
  put_at (x ∷ xs) u t e =
      eq_cases (λ b. thread_at (if b then u ∷ xs else x ∷ with_thread xs u) t ≡ put_in u (if x.number == t then Some x else thread_at xs t)) x.number u.number
      (λ f. eq_cases (λ b. (if b then Some u else thread_at xs t) ≡ put_in u (if x.number == t then Some x else thread_at xs t)) u.number t
      (λ _. eq_cases (λ b. Some u ≡ put_in u (if b then Some x else thread_at xs t)) x.number t (λ _. refl) (λ ne. absurd (ne (f ∙ e)))) (λ ne. absurd (ne e)))
      (λ off. eq_cases (λ b. (if b then Some x else thread_at (with_thread xs u) t) ≡ put_in u (if b then Some x else thread_at xs t)) x.number t (λ f. absurd (off (f ∙ sym e))) (λ _. put_at xs u t e))

  pub put_off : (xs : List (Thread P)) (u : Thread P) (t : ℕ) → u.number ≢ t → thread_at (with_thread xs u) t ≡ thread_at xs t
  put_off [] u t e = refl
  put_off (x ∷ xs) u t e =
      eq_cases (λ b. thread_at (if b then u ∷ xs else x ∷ with_thread xs u) t ≡ (if x.number == t then Some x else thread_at xs t)) x.number u.number
      (λ f. eq_cases (λ b. (if b then Some u else thread_at xs t) ≡ (if x.number == t then Some x else thread_at xs t)) u.number t (λ g. absurd (e g))
      (λ _. eq_cases (λ b. thread_at xs t ≡ (if b then Some x else thread_at xs t)) x.number t (λ g. absurd (e (sym f ∙ g))) (λ _. refl)))
      (λ off. eq_cases (λ b. (if b then Some x else thread_at (with_thread xs u) t) ≡ (if b then Some x else thread_at xs t)) x.number t (λ _. refl) (λ _. put_off xs u t e))

  -- a thread that is found has that number
  pub found_number : (xs : List (Thread P)) (t : ℕ) (x : Thread P) → thread_at xs t ≡ Some x → x.number ≡ t
  found_number [] t x e = cc
  found_number (y ∷ ys) t x e =
      eq_cases (λ b. (if b then Some y else thread_at ys t) ≡ Some x → x.number ≡ t) y.number t (λ f g. let same : y ≡ x = cc in sym (ap (λ (z : Thread P). z.number) same) ∙ f) (λ _ g. found_number ys t x g) e

  abbrev pub SameThreads : List (Thread P) → List (Thread P) → Type 0
  SameThreads xs ys = (t : ℕ) → running_in (thread_at xs t) ≡ running_in (thread_at ys t)

  put_same : (u v : Thread P) → running u.slots u.life ≡ running v.slots v.life → (p q : Option (Thread P)) → running_in p ≡ running_in q → running_in (put_in u p) ≡ running_in (put_in v q)
  put_same u v e None None f = refl
  put_same u v e None (Some y) f = absurd cc
  put_same u v e (Some x) None f = absurd cc
  put_same u v e (Some x) (Some y) f = ap Some e

  pub same_put : (xs ys : List (Thread P)) → SameThreads xs ys → (u v : Thread P) → u.number ≡ v.number → running u.slots u.life ≡ running v.slots v.life → SameThreads (with_thread xs u) (with_thread ys v)
  same_put xs ys h u v e f t =
      eq_cases (λ b. running_in (thread_at (with_thread xs u) t) ≡ running_in (thread_at (with_thread ys v) t)) u.number t
      (λ g. ap running_in (put_at xs u t g) ∙ put_same u v f (thread_at xs t) (thread_at ys t) (h t) ∙ sym (ap running_in (put_at ys v t (sym e ∙ g))))
      (λ ne. ap running_in (put_off xs u t ne) ∙ h t ∙ sym (ap running_in (put_off ys v t (λ g. ne (e ∙ g)))))

  pub thread_more : (xs ys : List (Thread P)) (t : ℕ) → thread_at (xs ++ ys) t ≡ or_else (thread_at xs t) (thread_at ys t)
  thread_more [] ys t = refl
  thread_more (x ∷ xs) ys t = eq_cases (λ b. (if b then Some x else thread_at (xs ++ ys) t) ≡ or_else (if b then Some x else thread_at xs t) (thread_at ys t)) x.number t (λ _. refl) (λ _. thread_more xs ys t)

  running_or : (p q r : Option (Thread P)) → running_in p ≡ running_in q → running_in (or_else p r) ≡ running_in (or_else q r)
  running_or None None r e = refl
  running_or None (Some y) r e = absurd cc
  running_or (Some x) None r e = absurd cc
  running_or (Some x) (Some y) r e = e

  pub same_more : (xs ys zs : List (Thread P)) → SameThreads xs ys → SameThreads (xs ++ zs) (ys ++ zs)
  same_more xs ys zs h t = ap running_in (thread_more xs zs t) ∙ running_or (thread_at xs t) (thread_at ys t) (thread_at zs t) (h t) ∙ sym (ap running_in (thread_more ys zs t))

  -- a thread that isn't over, or whose name was not given
  abbrev pub GoesOn : List (Thread P) → ℕ → Type 0
  GoesOn xs t = is_over_in (thread_at xs t) ≡ false

  pub goes_put : (xs : List (Thread P)) (u x : Thread P) → thread_at xs u.number ≡ Some x → (is_over u.life ≡ false → is_over x.life ≡ false) → (t : ℕ) → GoesOn (with_thread xs u) t → GoesOn xs t
  goes_put xs u x e f t =
      eq_cases (λ b. is_over_in (thread_at (with_thread xs u) t) ≡ false → is_over_in (thread_at xs t) ≡ false) u.number t
      (λ g k. let here : thread_at xs t ≡ Some x = sym (ap (thread_at xs) g) ∙ e in
      let new : thread_at (with_thread xs u) t ≡ Some u = put_at xs u t g ∙ ap (put_in u) here in
      ap is_over_in here ∙ f (sym (ap is_over_in new) ∙ k))
      (λ ne k. sym (ap is_over_in (put_off xs u t ne)) ∙ k)

  goes_or : (p r : Option (Thread P)) → is_over_in (or_else p r) ≡ false → is_over_in p ≡ false
  goes_or None r e = refl
  goes_or (Some x) r e = e

  pub goes_more : (xs zs : List (Thread P)) (t : ℕ) → GoesOn (xs ++ zs) t → GoesOn xs t
  goes_more xs zs t k = goes_or (thread_at xs t) (thread_at zs t) (sym (ap is_over_in (thread_more xs zs t)) ∙ k)

  -- THE SAME STATE

  pub record Same (s c : Whole P) : Type 0 where
    pub threads : SameThreads s.threads c.threads
    pub heap : SameHeap (GoesOn s.threads) s.heap c.heap
    pub mutexes : SameMutexes s.mutexes c.mutexes
    pub pairs : SamePairs (GoesOn s.threads) s.pairs c.pairs

  -- WHAT IS LET GO

  abbrev SameGo : (Whole P → Plain → Whole P) → (Whole P → Plain → Whole P) → Type 0
  SameGo f g = (s c : Whole P) → Same s c → (v : Plain) → Same (f s v) (g c v)

  -- only what is let go counts
  abbrev Lets : (Whole P → Plain → Whole P) → Type 0
  Lets f = (s : Whole P) (v : Plain) → f s v ≡ f s (let_go_of v)

  module _ (f g : Whole P → Plain → Whole P) (go : SameGo f g) (fl : Lets f) (gl : Lets g) where
    same_let_go : (s c : Whole P) → Same s c → (v w : Plain) → let_go_of v ≡ let_go_of w → Same (f s v) (g c w)
    same_let_go s c h v w e = subst (λ z. Same z (g c w)) (sym (fl s v)) (subst (λ z. Same (f s (let_go_of v)) z) (ap (g c) e ∙ sym (gl c w)) (go s c h (let_go_of v)))

    same_gone : (s c : Whole P) → Same s c → (v : Value) → Same (value_gone f s v) (value_gone g c v)
    same_gone s c h v =
        same_let_go (record s { heap = without s.heap v }) (record c { heap = without c.heap v }) (record { threads = h.threads; heap = same_without (GoesOn s.threads) s.heap c.heap h.heap v; mutexes = h.mutexes; pairs = h.pairs })
        (end_of s.heap v) (end_of c.heap v) (same_end (GoesOn s.threads) s.heap c.heap h.heap v)

    -- a thread has another life
    same_life : (s c : Whole P) → Same s c → (t : ℕ) (x y : Thread P) → thread_at s.threads t ≡ Some x → thread_at c.threads t ≡ Some y → (l m : Life P) → running x.slots l ≡ running y.slots m → (is_over l ≡ false → is_over x.life ≡ false)
        → Same (record s { threads = with_thread s.threads (with_life x l) }) (record c { threads = with_thread c.threads (with_life y m) })
    same_life s c h t x y e f l m r k =
        let nx = found_number s.threads t x e in
        let ny = found_number c.threads t y f in
        let less : (u : ℕ) → GoesOn (with_thread s.threads (with_life x l)) u → GoesOn s.threads u = goes_put s.threads (with_life x l) x (ap (thread_at s.threads) nx ∙ e) k in
        record {
          threads = same_put s.threads c.threads h.threads (with_life x l) (with_life y m) (nx ∙ sym ny) r;
          heap = heap_less (GoesOn s.threads) (GoesOn (with_thread s.threads (with_life x l))) s.heap c.heap less h.heap;
          mutexes = h.mutexes;
          pairs = λ u g. h.pairs u (less u g);
        }

    same_released : (s c : Whole P) → Same s c → (t : ℕ) (x y : Thread P) → thread_at s.threads t ≡ Some x → thread_at c.threads t ≡ Some y → (l m : Life P) → x.life ≡ l → y.life ≡ m → running x.slots l ≡ running y.slots m → Same (thread_released f s x l) (thread_released g c y m)
    same_released s c h t x y e1 e2 (alive p) (alive q) e k r = h
    same_released s c h t x y e1 e2 over over e k r = h
    same_released s c h t x y e1 e2 (loose p) (loose q) e k r = h
    same_released s c h t x y e1 e2 (owing p) (owing q) e k r =
        let one : record { place = p; slots = x.slots } ≡ record { place = q; slots = y.slots } = cc in same_life s c h t x y e1 e2 (loose p) (loose q) (ap loose one) (λ z. ap is_over e)
    same_released s c h t x y e1 e2 (ended v) (ended w) e k r =
        let one : v ≡ w = cc in
        subst (λ z. Same (value_gone f (record s { threads = with_thread s.threads (with_life x over) }) v) (value_gone g (record c { threads = with_thread c.threads (with_life y over) }) z)) one
        (same_gone (record s { threads = with_thread s.threads (with_life x over) }) (record c { threads = with_thread c.threads (with_life y over) }) (same_life s c h t x y e1 e2 over over refl (λ z. absurd cc)) v)
    same_released s c h t x y e1 e2 l m e k r = absurd cc

    same_released_in : (s c : Whole P) → Same s c → (t : ℕ) (p q : Option (Thread P)) → thread_at s.threads t ≡ p → thread_at c.threads t ≡ q → running_in p ≡ running_in q → Same (thread_released_in f s p) (thread_released_in g c q)
    same_released_in s c h t None None e k r = h
    same_released_in s c h t None (Some y) e k r = absurd cc
    same_released_in s c h t (Some x) None e k r = absurd cc
    same_released_in s c h t (Some x) (Some y) e k r = same_released s c h t x y e k x.life y.life refl refl cc

    same_with : (s c : Whole P) → Same s c → (n : MutexNo) (new : Option Shared) → Same (record s { mutexes = with_mutex s.mutexes n new }) (record c { mutexes = with_mutex c.mutexes n new })
    same_with s c h n new = record { threads = h.threads; heap = h.heap; mutexes = same_set s.mutexes c.mutexes h.mutexes n new; pairs = h.pairs }

    same_content : (s c : Whole P) → Same s c → (v : Option Plain) → Same (content_gone f s v) (content_gone g c v)
    same_content s c h None = h
    same_content s c h (Some v) = same_gone s c h (Own v)

    same_share : (s c : Whole P) → Same s c → (n : MutexNo) (x : Shared) (k : ℕ) → Same (share_gone f s n x k) (share_gone g c n x k)
    same_share s c h n x (suc (suc k)) = same_with s c h n (Some (record x { shares = suc k }))
    same_share s c h n x (suc zero) = same_content (record s { mutexes = with_mutex s.mutexes n None }) (record c { mutexes = with_mutex c.mutexes n None }) (same_with s c h n None) x.content
    same_share s c h n x zero = same_content (record s { mutexes = with_mutex s.mutexes n None }) (record c { mutexes = with_mutex c.mutexes n None }) (same_with s c h n None) x.content

    same_shares : (s c : Whole P) → Same s c → (n : MutexNo) (x : Option Shared) → Same (share_released f s n x) (share_released g c n x)
    same_shares s c h n None = h
    same_shares s c h n (Some x) = same_share s c h n x x.shares

    same_task_gone : (s c : Whole P) → Same s c → (t : ℕ) → Same (thread_released_in f s (thread_at s.threads t)) (thread_released_in g c (thread_at c.threads t))
    same_task_gone s c h t = same_released_in s c h t (thread_at s.threads t) (thread_at c.threads t) refl refl (h.threads t)

    same_share_gone : (s c : Whole P) → Same s c → (n : MutexNo) → Same (share_released f s n (mutex_there s.mutexes n)) (share_released g c n (mutex_there c.mutexes n))
    same_share_gone s c h n = subst (λ z. Same (share_released f s n (mutex_there s.mutexes n)) (share_released g c n z)) (same_there s.mutexes c.mutexes h.mutexes n) (same_shares s c h n (mutex_there s.mutexes n))

  lets_by : (k : ℕ) → Lets (release_by k)
  lets_by k s plain.Nothing = refl
  lets_by k s plain.Unit = refl
  lets_by k s (plain.Int i) = refl
  lets_by k s (plain.Box o) = refl
  lets_by k s (plain.Task t) = refl
  lets_by k s (plain.Mutex m) = refl

  same_by : (k : ℕ) → SameGo (release_by k) (release_by k)
  same_by k s c h plain.Nothing = h
  same_by k s c h plain.Unit = h
  same_by k s c h (plain.Int i) = h
  same_by k s c h (plain.Box o) = h
  same_by zero s c h (plain.Task t) = h
  same_by (suc k) s c h (plain.Task t) = same_task_gone (release_by k) (release_by k) (same_by k) (lets_by k) (lets_by k) s c h t
  same_by zero s c h (plain.Mutex m) = h
  same_by (suc k) s c h (plain.Mutex m) = same_share_gone (release_by k) (release_by k) (same_by k) (lets_by k) (lets_by k) s c h m

  -- HOW OFTEN SOMETHING CAN BE LET GO

  abbrev weigh : Life P → ℕ
  weigh (owing p) = 1
  weigh (ended v) = 1
  weigh _ = 0

  abbrev weigh_threads : List (Thread P) → ℕ
  weigh_threads [] = 0
  weigh_threads (x ∷ xs) = weigh x.life + weigh_threads xs

  abbrev weight : Whole P → ℕ
  weight s = weigh_mutexes s.mutexes + weigh_threads s.threads

  thread_weighs : (xs : List (Thread P)) (t : ℕ) (x : Thread P) → thread_at xs t ≡ Some x → weigh x.life ≤ weigh_threads xs
  thread_weighs [] t x e = absurd cc
  thread_weighs (y ∷ ys) t x e =
      eq_cases (λ b. (if b then Some y else thread_at ys t) ≡ Some x → weigh x.life ≤ weigh y.life + weigh_threads ys) y.number t
      (λ _ f. let same : y ≡ x = cc in let w = ap (λ (z : Thread P). weigh z.life) same in omega (arith, w)) (λ _ f. let rest = thread_weighs ys t x f in omega (arith, rest)) e

  weighs_put : (xs : List (Thread P)) (t : ℕ) (x : Thread P) (l : Life P) → thread_at xs t ≡ Some x → weigh_threads (with_thread xs (with_life x l)) + weigh x.life ≡ weigh_threads xs + weigh l
  weighs_put xs t x l e = by xs e (found_number xs t x e)
    where
      by : (xs : List (Thread P)) → thread_at xs t ≡ Some x → x.number ≡ t → weigh_threads (with_thread xs (with_life x l)) + weigh x.life ≡ weigh_threads xs + weigh l
      by [] e n = absurd cc
      by (y ∷ ys) e n =
          eq_cases (λ b. weigh_threads (if b then with_life x l ∷ ys else y ∷ with_thread ys (with_life x l)) + weigh x.life ≡ weigh y.life + weigh_threads ys + weigh l) y.number x.number
          (λ f. eq_cases (λ b. (if b then Some y else thread_at ys t) ≡ Some x → weigh l + weigh_threads ys + weigh x.life ≡ weigh y.life + weigh_threads ys + weigh l) y.number t
          (λ _ g. let same : y ≡ x = cc in let w = ap (λ (z : Thread P). weigh z.life) same in omega (arith, w)) (λ ne. absurd (ne (f ∙ n))) e)
          (λ off. eq_cases (λ b. (if b then Some y else thread_at ys t) ≡ Some x → weigh y.life + weigh_threads (with_thread ys (with_life x l)) + weigh x.life ≡ weigh y.life + weigh_threads ys + weigh l) y.number t
          (λ f. absurd (off (f ∙ sym n))) (λ _ g. let rest = by ys g n in omega (arith, rest)) e)

  weighs_less : (ms : List Mutex) (xs : List (Thread P)) → weigh_mutexes ms + weigh_threads xs ≤ count_both ms xs
  weighs_less [] [] = omega arith
  weighs_less [] (x ∷ xs) = let rest = weighs_less [] xs in let one = at_most x.life in omega (arith, rest, one)
    where
      at_most : (l : Life P) → weigh l ≤ 1
      at_most (alive p) = omega arith
      at_most over = omega arith
      at_most (owing p) = omega arith
      at_most (loose p) = omega arith
      at_most (ended v) = omega arith
  weighs_less (m ∷ ms) xs = let rest = weighs_less ms xs in let one = at_most m.there in omega (arith, rest, one)
    where
      at_most : (x : Option Shared) → weigh_there x ≤ 1
      at_most None = omega arith
      at_most (Some x) = omega arith

  -- where nothing weighs, nothing is let go
  light_thread : (go : Whole P → Plain → Whole P) (s : Whole P) (x : Thread P) (l : Life P) → weigh l ≤ 0 → s ≡ thread_released go s x l
  light_thread go s x (alive p) w = refl
  light_thread go s x over w = refl
  light_thread go s x (loose p) w = refl
  light_thread go s x (owing p) w = absurd (omega (arith, w))
  light_thread go s x (ended v) w = absurd (omega (arith, w))

  light_task : (go : Whole P → Plain → Whole P) (s : Whole P) (t : ℕ) → weight s ≤ 0 → s ≡ thread_released_in go s (thread_at s.threads t)
  light_task go s t w = by (thread_at s.threads t) refl
    where
      by : (p : Option (Thread P)) → thread_at s.threads t ≡ p → s ≡ thread_released_in go s p
      by None e = refl
      by (Some x) e = let l = thread_weighs s.threads t x e in light_thread go s x x.life (omega (arith, w, l))

  light_share : (go : Whole P → Plain → Whole P) (s : Whole P) (n : MutexNo) → weight s ≤ 0 → s ≡ share_released go s n (mutex_there s.mutexes n)
  light_share go s n w = by (mutex_there s.mutexes n) refl
    where
      by : (p : Option Shared) → mutex_there s.mutexes n ≡ p → s ≡ share_released go s n p
      by None e = refl
      by (Some x) e = let l = mutex_weighs s.mutexes n x e in absurd (omega (arith, w, l))

  -- any number that is as large as the weight is enough
  enough : (k j : ℕ) (s : Whole P) (v : Plain) → weight s ≤ k → weight s ≤ j → release_by k s v ≡ release_by j s v
  enough k j s plain.Nothing a b = refl
  enough k j s plain.Unit a b = refl
  enough k j s (plain.Int i) a b = refl
  enough k j s (plain.Box o) a b = refl
  enough zero zero s (plain.Task t) a b = refl
  enough zero (suc j) s (plain.Task t) a b = light_task (release_by j) s t a
  enough (suc k) zero s (plain.Task t) a b = sym (light_task (release_by k) s t b)
  enough (suc k) (suc j) s (plain.Task t) a b = by (thread_at s.threads t) refl (λ z v. enough k j z v)
    where
      one : (x : Thread P) (l : Life P) → x.life ≡ l → thread_at s.threads t ≡ Some x → ((z : Whole P) (v : Plain) → weight z ≤ k → weight z ≤ j → release_by k z v ≡ release_by j z v) → thread_released (release_by k) s x l ≡ thread_released (release_by j) s x l
      one x (alive p) e f go = refl
      one x over e f go = refl
      one x (owing p) e f go = refl
      one x (loose p) e f go = refl
      one x (ended v) e f go =
          let less = weighs_put s.threads t x over f in
          let here = ap weigh e in
          go (record s { threads = with_thread s.threads (with_life x over); heap = without s.heap v }) (end_of s.heap v) (omega (arith, a, less, here)) (omega (arith, b, less, here))

      by : (p : Option (Thread P)) → thread_at s.threads t ≡ p → ((z : Whole P) (v : Plain) → weight z ≤ k → weight z ≤ j → release_by k z v ≡ release_by j z v) → thread_released_in (release_by k) s p ≡ thread_released_in (release_by j) s p
      by None e go = refl
      by (Some x) e go = one x x.life refl e go
  enough zero zero s (plain.Mutex m) a b = refl
  enough zero (suc j) s (plain.Mutex m) a b = light_share (release_by j) s m a
  enough (suc k) zero s (plain.Mutex m) a b = sym (light_share (release_by k) s m b)
  enough (suc k) (suc j) s (plain.Mutex m) a b = by (mutex_there s.mutexes m) refl (λ z v. enough k j z v)
    where
      last : (x : Shared) (c : Option Plain) → mutex_there s.mutexes m ≡ Some x → ((z : Whole P) (v : Plain) → weight z ≤ k → weight z ≤ j → release_by k z v ≡ release_by j z v)
          → content_gone (release_by k) (record s { mutexes = with_mutex s.mutexes m None }) c ≡ content_gone (release_by j) (record s { mutexes = with_mutex s.mutexes m None }) c
      last x None e go = refl
      last x (Some v) e go =
          let less = mutex_weighs s.mutexes m x e in
          go (record s { mutexes = with_mutex s.mutexes m None; heap = without s.heap (Own v) }) (end_of s.heap (Own v)) (omega (arith, a, less)) (omega (arith, b, less))

      one : (x : Shared) (n : ℕ) → mutex_there s.mutexes m ≡ Some x → ((z : Whole P) (v : Plain) → weight z ≤ k → weight z ≤ j → release_by k z v ≡ release_by j z v) → share_gone (release_by k) s m x n ≡ share_gone (release_by j) s m x n
      one x (suc (suc n)) e go = refl
      one x (suc zero) e go = last x x.content e go
      one x zero e go = last x x.content e go

      by : (p : Option Shared) → mutex_there s.mutexes m ≡ p → ((z : Whole P) (v : Plain) → weight z ≤ k → weight z ≤ j → release_by k z v ≡ release_by j z v) → share_released (release_by k) s m p ≡ share_released (release_by j) s m p
      by None e go = refl
      by (Some x) e go = one x x.shares e go

  pub same_release : (s c : Whole P) → Same s c → (v w : Plain) → let_go_of v ≡ let_go_of w → Same (release s v) (release c w)
  same_release s c h v w e =
      let a = weighs_less s.mutexes s.threads in
      let b = weighs_less c.mutexes c.threads in
      let n : ℕ = count_both s.mutexes s.threads + count_both c.mutexes c.threads in
      subst (λ z. Same z (release c w)) (sym (enough (count_both s.mutexes s.threads) n s v a (omega (arith, a))))
      (subst (λ z. Same (release_by n s v) z) (sym (enough (count_both c.mutexes c.threads) n c w b (omega (arith, b)))) (same_let_go (release_by n) (release_by n) (same_by n) (lets_by n) (lets_by n) s c h v w e))

  -- a value is dropped that stands nowhere any more
  pub same_dropped_value : (s c : Whole P) → Same s c → (v : Plain) → Same (dropped s v) (dropped c v)
  same_dropped_value s c h v =
      same_release (record s { heap = without s.heap (Own v) }) (record c { heap = without c.heap (Own v) }) (record { threads = h.threads; heap = same_without (GoesOn s.threads) s.heap c.heap h.heap (Own v); mutexes = h.mutexes; pairs = h.pairs })
      (end_of s.heap (Own v)) (end_of c.heap (Own v)) (same_end (GoesOn s.threads) s.heap c.heap h.heap (Own v))
