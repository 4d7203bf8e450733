-- Contents that are out stay out where a thread waits and where one is granted a content.
use Rattle.std.proofs.Common.{◌≡◌, ℕ, Bool, true, false, true≢false, ◌==◌, cond, List, [], ◌∷◌, ◌++◌, Option, None, Some, is_none, refl, sym, ap, ap₂, ◌∙◌}
use Rattle.std.proofs.lemmas.Bool.{eqb-true, and_parts}
use Rattle.std.proofs.lemmas.Option.{same_Some}
use Rattle.fr_base.specs.declared.name.MutexNo.{MutexNo}
use Rattle.fr_base.specs.Names.{same_mutex}
use Rattle.heap_partition.specs.declared.value.Owned.{Owned}
use Rattle.mutex_home.specs.Mutexes.{Mutex, Mutexes, mutex_in, with_mutex, put_mutex, end_mutex, ask, asked_in, asked_of, give_back, back_in, back_out, back_to}
use Rattle.mutex_home.specs.declared.answers.Asked.{Asked}
use Rattle.mutex_home.specs.declared.answers.Back.{Back}
use Rattle.mutex_home.specs.declared.answers.Back.TheVariants.{Next, Ended, Kept}
use Rattle.memory_tests.specs.Mutexes.{out_of, is_out}

one_number : (l m : MutexNo) → same_mutex l m ≡ true → l ≡ m
one_number l m h = let both = and_parts (l.home == m.home) (l.count == m.count) h in ap₂ (λ a b. record { home = a; count = b }) (eqb-true l.home m.home both.0) (eqb-true l.count m.count both.1)

-- where a content that is out replaces one
stays_out : (xs : List Mutex) (y : Mutex) → is_none y.content ≡ true → (l : MutexNo) → out_of (mutex_in xs l) ≡ true → out_of (mutex_in (with_mutex xs y) l) ≡ true
stays_out [] y out l h = h
stays_out (z ∷ xs) y out l h = by (same_mutex z.number y.number) refl (stays_out xs y out l)
  where
    put : (q : Bool) → out_of (cond q (Some z) (mutex_in xs l)) ≡ true → out_of (cond q (Some y) (mutex_in xs l)) ≡ true
    put true g = out
    put false g = g

    past : (q : Bool) → out_of (cond q (Some z) (mutex_in xs l)) ≡ true → (out_of (mutex_in xs l) ≡ true → out_of (mutex_in (with_mutex xs y) l) ≡ true) → out_of (cond q (Some z) (mutex_in (with_mutex xs y) l)) ≡ true
    past true g ih = g
    past false g ih = ih g

    by : (q : Bool) → same_mutex z.number y.number ≡ q → (out_of (mutex_in xs l) ≡ true → out_of (mutex_in (with_mutex xs y) l) ≡ true)
        → out_of (mutex_in (cond q (y ∷ xs) (z ∷ with_mutex xs y)) l) ≡ true
    by true p ih = ap (λ n. out_of (cond (same_mutex n l) (Some y) (mutex_in xs l))) (sym (one_number z.number y.number p)) ∙ put (same_mutex z.number l) h
    by false p ih = past (same_mutex z.number l) h ih

pub waits_out : (ms : Mutexes) {new : Mutexes} (m : MutexNo) (server thread : ℕ) {r : Asked} → ask ms m server thread ≡ Some (new, r) → is_out ms m ≡ true → (l : MutexNo) → is_out ms l ≡ true → is_out new l ≡ true
waits_out ms {new = new} m server thread {r = r} g out l h = by (mutex_in ms.there m) g out
  where
    at : (x : Mutex) (o : Option Owned) → x.content ≡ o → Some (asked_of ms server thread o x) ≡ Some (new, r) → is_none o ≡ true → is_out new l ≡ true
    at x None c e i =
        let is : put_mutex ms (record x { queue = x.queue ++ (server, thread) ∷ [] }) ≡ new = ap (λ p. p.0) (same_Some (asked_of ms server thread None x) (new, r) e) in
        ap (λ k. is_out k l) (sym is) ∙ stays_out ms.there (record x { queue = x.queue ++ (server, thread) ∷ [] }) (ap is_none c) l h
    at x (Some v) c e i = absurd (true≢false (sym i))

    by : (o : Option Mutex) → asked_in ms server thread o ≡ Some (new, r) → out_of o ≡ true → is_out new l ≡ true
    by None e i = absurd (true≢false (sym i))
    by (Some x) e i = at x x.content refl e i

pub granted_out : (ms : Mutexes) {new : Mutexes} (m : MutexNo) (v : Owned) {w : Owned} {server thread : ℕ} → give_back ms m v ≡ Some (new, Next server thread w) → is_out ms m ≡ true → (l : MutexNo) → is_out ms l ≡ true → is_out new l ≡ true
granted_out ms {new = new} m v {w = w} {server = server} {thread = thread} g out l h = by (mutex_in ms.there m) g out
  where
    ends : (x : Mutex) (q : Bool) → ◌≡◌ {A = Option (Mutexes × Back)} (Some (cond q (end_mutex ms x.number, Ended v) (put_mutex ms (record x { content = Some v }), Kept))) (Some (new, Next server thread w)) → is_out new l ≡ true
    ends x true e = let i : Ended v ≡ Next server thread w = ap (λ p. p.1) (same_Some (end_mutex ms x.number, Ended v) (new, Next server thread w) e) in absurd cc
    ends x false e = let i : Kept ≡ Next server thread w = ap (λ p. p.1) (same_Some (put_mutex ms (record x { content = Some v }), Kept) (new, Next server thread w) e) in absurd cc

    to : (x : Mutex) (queue : List (ℕ × ℕ)) → is_none x.content ≡ true → Some (back_to ms v x queue) ≡ Some (new, Next server thread w) → is_out new l ≡ true
    to x [] i e = ends x (x.shares == 0) e
    to x (first ∷ rest) i e =
        let is : put_mutex ms (record x { queue = rest }) ≡ new = ap (λ p. p.0) (same_Some (back_to ms v x (first ∷ rest)) (new, Next server thread w) e) in
        ap (λ k. is_out k l) (sym is) ∙ stays_out ms.there (record x { queue = rest }) i l h

    at : (x : Mutex) (o : Option Owned) → x.content ≡ o → back_out ms v x o ≡ Some (new, Next server thread w) → is_out new l ≡ true
    at x None c e = to x x.queue (ap is_none c) e
    at x (Some u) c e = absurd cc

    by : (o : Option Mutex) → back_in ms v o ≡ Some (new, Next server thread w) → out_of o ≡ true → is_out new l ≡ true
    by None e i = absurd (true≢false (sym i))
    by (Some x) e i = at x x.content refl e
