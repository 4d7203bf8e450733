-- Tests of what is shown: two of a kind are the same where the test says so.
use Rattle.std.proofs.Common.{◌≡◌, ℕ, Bool, true, false, ◌&&◌, List, [], ◌∷◌, Option, Some, None, refl, ap, ap₂, sym}
use Rattle.std.specs.Prelude.{◌==◌}
use Rattle.std.proofs.lemmas.Bool.{eqb-true, eq-eqb}
use Rattle.std.proofs.lemmas.Bool.Decides.{Decides-int_eq}
use Rattle.law_counts_sums.specs.Below.fr_base.declared.label.Plain.{Plain}
use Rattle.law_counts_sums.specs.Below.fr_base.declared.label.Plain.TheVariants as plain
use Rattle.law_counts_sums.specs.Below.fr_base.declared.name.MutexNo.{MutexNo}
use Rattle.law_counts_sums.specs.Below.fr_base.declared.name.ObjNo.{ObjNo}
use Rattle.law_counts_sums.specs.Below.fr_base.Names.{same_object, same_mutex, same_plain}
use Rattle.law_counts_sums.specs.Below.fr_base.declared.place.Lval.{Lval}
use Rattle.law_counts_sums.proofs.Below.coherent_memory.Names.{and_left, and_right}
use Rattle.law_heap_still.specs.events.Shows.{ShownThread, Frame, moved_out, owning, shared_slot, mutable_slot, shared_object, mutable_object, marking}

pub record IsTest {A : Type 0} (same : A → A → Bool) : Type 0 where
  pub itself : (x : A) → same x x ≡ true
  pub tells : (x y : A) → same x y ≡ true → x ≡ y

both_true : (p q : Bool) → p ≡ true → q ≡ true → (p && q) ≡ true
both_true true q a b = b
both_true false q a b = absurd (cc a)

pub numbers : IsTest (λ (m n : ℕ). m == n)
numbers = record { itself = λ n. eq-eqb n n refl; tells = eqb-true }

abbrev pub same_truth : Bool → Bool → Bool
same_truth true q = q
same_truth false true = false
same_truth false false = true

pub truths : IsTest same_truth
truths = record { itself = itself; tells = tells }
  where
    itself : (x : Bool) → same_truth x x ≡ true
    itself true = refl
    itself false = refl

    tells : (x y : Bool) → same_truth x y ≡ true → x ≡ y
    tells true y e = sym e
    tells false true e = absurd (cc e)
    tells false false e = refl

abbrev object_of : ℕ → ℕ → ObjNo
object_of t n = record { thread = t; count = n }

abbrev mutex_at : ℕ → ℕ → MutexNo
mutex_at s n = record { home = s; count = n }

pub objects : IsTest same_object
objects = record {
  itself = λ o. both_true (o.thread == o.thread) (o.count == o.count) (numbers.itself o.thread) (numbers.itself o.count);
  tells = λ p q e. ap₂ object_of (numbers.tells p.thread q.thread (and_left (p.thread == q.thread) (p.count == q.count) e)) (numbers.tells p.count q.count (and_right (p.thread == q.thread) (p.count == q.count) e));
}

pub mutexes : IsTest same_mutex
mutexes = record {
  itself = λ m. both_true (m.home == m.home) (m.count == m.count) (numbers.itself m.home) (numbers.itself m.count);
  tells = λ p q e. ap₂ mutex_at (numbers.tells p.home q.home (and_left (p.home == q.home) (p.count == q.count) e)) (numbers.tells p.count q.count (and_right (p.home == q.home) (p.count == q.count) e));
}

pub plains : IsTest same_plain
plains = record { itself = itself; tells = tells }
  where
    itself : (v : Plain) → same_plain v v ≡ true
    itself plain.Nothing = refl
    itself plain.Unit = refl
    itself (plain.Int n) = (Decides-int_eq n n).1 refl
    itself (plain.Box o) = objects.itself o
    itself (plain.Mutex m) = mutexes.itself m
    itself (plain.Task t) = numbers.itself t

    tells : (v w : Plain) → same_plain v w ≡ true → v ≡ w
    tells plain.Nothing plain.Nothing e = refl
    tells plain.Unit plain.Unit e = refl
    tells (plain.Int m) (plain.Int n) e = ap plain.Int ((Decides-int_eq m n).0 e)
    tells (plain.Box p) (plain.Box q) e = ap plain.Box (objects.tells p q e)
    tells (plain.Mutex p) (plain.Mutex q) e = ap plain.Mutex (mutexes.tells p q e)
    tells (plain.Task p) (plain.Task q) e = ap plain.Task (numbers.tells p q e)
    tells _ _ e = absurd (cc e)

abbrev pub same_place : Lval → Lval → Bool
same_place p q = (p.slot == q.slot) && (p.depth == q.depth)

abbrev place_of : ℕ → ℕ → Lval
place_of s d = record { slot = s; depth = d }

pub places : IsTest same_place
places = record {
  itself = λ p. both_true (p.slot == p.slot) (p.depth == p.depth) (numbers.itself p.slot) (numbers.itself p.depth);
  tells = λ p q e. ap₂ place_of (numbers.tells p.slot q.slot (and_left (p.slot == q.slot) (p.depth == q.depth) e)) (numbers.tells p.depth q.depth (and_right (p.slot == q.slot) (p.depth == q.depth) e));
}

abbrev pub same_frame : Frame → Frame → Bool
same_frame moved_out moved_out = true
same_frame (owning v) (owning w) = same_plain v w
same_frame (shared_slot i) (shared_slot j) = i == j
same_frame (mutable_slot i) (mutable_slot j) = i == j
same_frame (shared_object o) (shared_object p) = same_object o p
same_frame (mutable_object o v) (mutable_object p w) = same_object o p && same_place v w
same_frame (marking m) (marking n) = same_mutex m n
same_frame _ _ = false

pub frames : IsTest same_frame
frames = record { itself = itself; tells = tells }
  where
    itself : (v : Frame) → same_frame v v ≡ true
    itself moved_out = refl
    itself (owning v) = plains.itself v
    itself (shared_slot i) = numbers.itself i
    itself (mutable_slot i) = numbers.itself i
    itself (shared_object o) = objects.itself o
    itself (mutable_object o v) = both_true (same_object o o) (same_place v v) (objects.itself o) (places.itself v)
    itself (marking m) = mutexes.itself m

    tells : (v w : Frame) → same_frame v w ≡ true → v ≡ w
    tells moved_out moved_out e = refl
    tells (owning v) (owning w) e = ap owning (plains.tells v w e)
    tells (shared_slot i) (shared_slot j) e = ap shared_slot (numbers.tells i j e)
    tells (mutable_slot i) (mutable_slot j) e = ap mutable_slot (numbers.tells i j e)
    tells (shared_object o) (shared_object p) e = ap shared_object (objects.tells o p e)
    tells (mutable_object o v) (mutable_object p w) e = ap₂ mutable_object (objects.tells o p (and_left (same_object o p) (same_place v w) e)) (places.tells v w (and_right (same_object o p) (same_place v w) e))
    tells (marking m) (marking n) e = ap marking (mutexes.tells m n e)
    tells _ _ e = absurd (cc e)

module _ {A : Type 0} (same : A → A → Bool) (test : IsTest same) where
  abbrev pub same_list : List A → List A → Bool
  same_list [] [] = true
  same_list (x ∷ xs) (y ∷ ys) = same x y && same_list xs ys
  same_list _ _ = false

  lists_itself : (xs : List A) → same_list xs xs ≡ true
  lists_itself [] = refl
  lists_itself (x ∷ xs) = both_true (same x x) (same_list xs xs) (test.itself x) (lists_itself xs)

  lists_tell : (xs ys : List A) → same_list xs ys ≡ true → xs ≡ ys
  lists_tell [] [] e = refl
  lists_tell (x ∷ xs) (y ∷ ys) e = ap₂ (λ z zs. z ∷ zs) (test.tells x y (and_left (same x y) (same_list xs ys) e)) (lists_tell xs ys (and_right (same x y) (same_list xs ys) e))
  lists_tell [] (y ∷ ys) e = absurd (cc e)
  lists_tell (x ∷ xs) [] e = absurd (cc e)

abbrev pub same_pair : Option (ℕ × ℕ) → Option (ℕ × ℕ) → Bool
same_pair None None = true
same_pair (Some p) (Some q) = (p.0 == q.0) && (p.1 == q.1)
same_pair _ _ = false

abbrev pub pair_of : ℕ → ℕ → Option (ℕ × ℕ)
pair_of a b = Some (a, b)

pub pairs : IsTest same_pair
pairs = record { itself = itself; tells = tells }
  where
    itself : (x : Option (ℕ × ℕ)) → same_pair x x ≡ true
    itself None = refl
    itself (Some p) = both_true (p.0 == p.0) (p.1 == p.1) (numbers.itself p.0) (numbers.itself p.1)

    tells : (x y : Option (ℕ × ℕ)) → same_pair x y ≡ true → x ≡ y
    tells None None e = refl
    tells (Some p) (Some q) e = ap₂ pair_of (numbers.tells p.0 q.0 (and_left (p.0 == q.0) (p.1 == q.1) e)) (numbers.tells p.1 q.1 (and_right (p.0 == q.0) (p.1 == q.1) e))
    tells None (Some q) e = absurd (cc e)
    tells (Some p) None e = absurd (cc e)

abbrev pub same_frames : List Frame → List Frame → Bool
same_frames xs ys = same_list same_frame frames xs ys

abbrev pub same_part : ShownThread → ShownThread → Bool
same_part x y =
    (x.number == y.number) && (same_truth x.is_over y.is_over && (same_pair x.pair y.pair
    && ((x.pc == y.pc) && (same_frames x.temps y.temps && (same_frames x.slots y.slots && (x.made == y.made))))))

-- all that is shown of a thread
abbrev pub thread_of : ℕ → Bool → Option (ℕ × ℕ) → ℕ → List Frame → List Frame → ℕ → ShownThread
thread_of a b c d e f g = record { number = a; is_over = b; pair = c; pc = d; temps = e; slots = f; made = g }

all_true : (p q : Bool) → (p && q) ≡ true → (p ≡ true) × (q ≡ true)
all_true p q e = (and_left p q e, and_right p q e)

pub threads : IsTest same_part
threads = record { itself = itself; tells = tells }
  where
    itself : (x : ShownThread) → same_part x x ≡ true
    itself x =
        both_true _ _ (numbers.itself x.number) (both_true _ _ (truths.itself x.is_over) (both_true _ _ (pairs.itself x.pair)
        (both_true _ _ (numbers.itself x.pc) (both_true _ _ (lists_itself same_frame frames x.temps) (both_true _ _ (lists_itself same_frame frames x.slots) (numbers.itself x.made))))))

    tells : (x y : ShownThread) → same_part x y ≡ true → x ≡ y
    tells x y e =
        let p1 = all_true _ _ e in
        let p2 = all_true _ _ p1.1 in
        let p3 = all_true _ _ p2.1 in
        let p4 = all_true _ _ p3.1 in
        let p5 = all_true _ _ p4.1 in
        let p6 = all_true _ _ p5.1 in
        let e1 : x.number ≡ y.number = numbers.tells x.number y.number p1.0 in
        let e2 : x.is_over ≡ y.is_over = truths.tells x.is_over y.is_over p2.0 in
        let e3 : x.pair ≡ y.pair = pairs.tells x.pair y.pair p3.0 in
        let e4 : x.pc ≡ y.pc = numbers.tells x.pc y.pc p4.0 in
        let e5 : x.temps ≡ y.temps = lists_tell same_frame frames x.temps y.temps p5.0 in
        let e6 : x.slots ≡ y.slots = lists_tell same_frame frames x.slots y.slots p6.0 in
        let e7 : x.made ≡ y.made = numbers.tells x.made y.made p6.1 in
        let same : thread_of x.number x.is_over x.pair x.pc x.temps x.slots x.made ≡ thread_of y.number y.is_over y.pair y.pc y.temps y.slots y.made = cc in
        same
