-- What such weights find in a list of things: a thread that shows the same, and a cell of an object with the same value.
use Rattle.std.proofs.Common.{◌≡◌, inl, inr, ℕ, zero, suc, ◌+◌, ◌≤◌, ◌==◌, ◌&&◌, Bool, true, false, List, [], ◌∷◌, refl, sym, ap, subst, arith}
use Rattle.law_counts_asking.specs.Below.fr_base.declared.label.Plain.{Plain}
use Rattle.law_counts_asking.specs.Below.fr_base.declared.name.ObjNo.{ObjNo}
use Rattle.law_counts_asking.specs.Below.fr_base.Names.{same_object, same_plain}
use Rattle.law_counts_asking.specs.Below.heap_partition.Plain.{plain_of}
use Rattle.law_counts_asking.specs.Below.heap_partition.declared.value.Cell.{Cell}
use Rattle.law_counts_asking.specs.Below.join_home.Tasks.{TaskState, going, let_go, kept, asked, in_pair}
use Rattle.law_counts_asking.specs.Below.coherent_memory.Names.{tot, one, Among}
use Rattle.law_counts_asking.specs.Below.coherent_memory.Things.{Thing, holds, shares, borrows, locks, lies, flies, vacant, retired, copied, uses, sent, stands, at_home, queued, noted, counts}
use Rattle.law_counts_asking.specs.Below.coherent_memory.Follow.{Standing, threads_in}
use Rattle.law_counts_asking.proofs.Below.coherent_memory.Names.{and_left, and_right}
use Rattle.law_words_asked.specs.Below.law_heap_still.events.Shows.{Sign, nothing, a_value, an_object, a_thread, a_branch, a_count, ShownThread, shown_thread, has_both, sign_of, note_sign}
use Rattle.law_words_asked.proofs.Below.law_heap_still.events.Tests.{IsTest, same_part, threads, objects, plains}
use Rattle.law_words_asked.proofs.Below.law_words_paths.words.Standing.{CellOf, lying, flying}
use Rattle.law_counts_waiting.proofs.waits.Amounts.{SeesStanding}

-- what is in a list weighs no more than the list
pub among_weighs : (f : Thing → ℕ) (x : Thing) (b : List Thing) → Among x b → f x ≤ tot f b
among_weighs f x [] h = absurd h
among_weighs f x (y ∷ b) (inl e) = let same : f y ≡ f x = ap f e in omega (arith, same)
among_weighs f x (y ∷ b) (inr h) = omega (arith, among_weighs f x b h)

-- where a sum isn't zero something weighs
pub record Weighing (f : Thing → ℕ) (b : List Thing) : Type 0 where
  pub thing : Thing
  pub among : Among thing b
  pub weighs : 1 ≤ f thing

pub weighing : (f : Thing → ℕ) (b : List Thing) → 1 ≤ tot f b → Weighing f b
weighing f [] l = absurd (omega (arith, l))
weighing f (x ∷ b) l = by (f x) refl (weighing f b)
  where
    by : (m : ℕ) → f x ≡ m → (1 ≤ tot f b → Weighing f b) → Weighing f (x ∷ b)
    by zero e go = let r = go (omega (arith, l, e)) in record { thing = r.thing; among = inr r.among; weighs = r.weighs }
    by (suc m) e go = record { thing = x; among = inl refl; weighs = omega (arith, e) }

truly : (q : Bool) → 1 ≤ one q → q ≡ true
truly true l = refl
truly false l = absurd (omega (arith, l))

-- THREADS

-- one that shows that
abbrev pub shows_thread : ShownThread → Sign → ℕ
shows_thread z (a_thread y b) = one (same_part y z)
shows_thread z s = 0

pub sees_thread : (z : ShownThread) → SeesStanding (shows_thread z)
sees_thread z = record { none = refl; values = λ p v. refl; branches = λ t b. refl; counts = λ s m n. refl }

-- a thread is among those of the list
pub standing_listed : (s : ℕ) (p : Bool) (t : Rattle.law_counts_asking.specs.Below.thread_state.View.ThreadState) (b : List Thing) → Among (stands s p t) b → Among (record { server = s; packed = p; thread = t }) (threads_in b)
standing_listed s p t [] h = absurd h
standing_listed s p t (x ∷ b) (inl e) = subst (λ y. Among (record { server = s; packed = p; thread = t }) (threads_in (y ∷ b))) (sym e) (inl refl)
standing_listed s p t (x ∷ b) (inr h) = later x (standing_listed s p t b h)
  where
    later : (x : Thing) → Among (record { server = s; packed = p; thread = t }) (threads_in b) → Among (record { server = s; packed = p; thread = t }) (threads_in (x ∷ b))
    later (stands r q u) g = inr g
    later (holds q v) g = g
    later (shares l r) g = g
    later (borrows l r) g = g
    later (locks l m) g = g
    later (lies r a c) g = g
    later (flies v c) g = g
    later (vacant r a c) g = g
    later (retired r a) g = g
    later (copied r c) g = g
    later (uses r v) g = g
    later (sent r m) g = g
    later (at_home r m) g = g
    later (queued m r u) g = g
    later (noted r u) g = g
    later (counts r a d c m e) g = g

pub record ShowsIt (z : ShownThread) (b : List Thing) : Type 0 where
  pub standing : Standing
  pub among : Among standing (threads_in b)
  pub same : shown_thread standing.thread ≡ z

-- a note is no thread
note_no_thread : (z : ShownThread) (t : ℕ) (x : TaskState) → shows_thread z (note_sign t x) ≡ 0
note_no_thread z t going = refl
note_no_thread z t let_go = refl
note_no_thread z t (kept v) = refl
note_no_thread z t (asked s u) = refl
note_no_thread z t (in_pair p o) = refl

pub thread_shown : (z : ShownThread) (b : List Thing) → 1 ≤ tot (λ x. shows_thread z (sign_of x)) b → ShowsIt z b
thread_shown z b l = let r = weighing (λ x. shows_thread z (sign_of x)) b l in by r.thing r.among r.weighs
  where
    by : (x : Thing) → Among x b → 1 ≤ shows_thread z (sign_of x) → ShowsIt z b
    by (stands s p t) h w = record { standing = record { server = s; packed = p; thread = t }; among = standing_listed s p t b h; same = (let test : IsTest same_part = threads in test.tells (shown_thread t) z (truly (same_part (shown_thread t) z) w)) }
    by (noted s t) h w = absurd (omega (arith, w, note_no_thread z t.thread t.state))
    by (holds q v) h w = absurd (omega (arith, w))
    by (shares l r) h w = absurd (omega (arith, w))
    by (borrows l r) h w = absurd (omega (arith, w))
    by (locks l m) h w = absurd (omega (arith, w))
    by (lies r a c) h w = absurd (omega (arith, w))
    by (flies v c) h w = absurd (omega (arith, w))
    by (vacant r a c) h w = absurd (omega (arith, w))
    by (retired r a) h w = absurd (omega (arith, w))
    by (copied r c) h w = absurd (omega (arith, w))
    by (uses r v) h w = absurd (omega (arith, w))
    by (sent r m) h w = absurd (omega (arith, w))
    by (at_home r m) h w = absurd (omega (arith, w))
    by (queued m r u) h w = absurd (omega (arith, w))
    by (counts r a d c m e) h w = absurd (omega (arith, w))

-- it shows itself
pub shows_itself : (t : Rattle.law_counts_asking.specs.Below.thread_state.View.ThreadState) (b : Bool) → shows_thread (shown_thread t) (a_thread (shown_thread t) b) ≡ 1
shows_itself t b = let test : IsTest same_part = threads in ap one (test.itself (shown_thread t))

-- CELLS

-- a cell of the object with that value
abbrev pub shows_cell : ObjNo → Plain → Sign → ℕ
shows_cell o v (an_object p u) = one (same_object p o && same_plain u v)
shows_cell o v s = 0

pub sees_cell : (o : ObjNo) (v : Plain) → SeesStanding (shows_cell o v)
sees_cell o v = record { none = refl; values = λ p u. refl; branches = λ t b. refl; counts = λ s m n. refl }

pub record ShowsCell (o : ObjNo) (v : Plain) (b : List Thing) : Type 0 where
  pub cell : Cell
  pub thing : Thing
  pub among : Among thing b
  pub is : CellOf cell thing
  pub object : cell.object ≡ o
  pub value : plain_of cell.value ≡ v

note_no_cell : (o : ObjNo) (v : Plain) (t : ℕ) (x : TaskState) → shows_cell o v (note_sign t x) ≡ 0
note_no_cell o v t going = refl
note_no_cell o v t let_go = refl
note_no_cell o v t (kept u) = refl
note_no_cell o v t (asked s u) = refl
note_no_cell o v t (in_pair p q) = refl

pub cell_shown : (o : ObjNo) (v : Plain) (b : List Thing) → 1 ≤ tot (λ x. shows_cell o v (sign_of x)) b → ShowsCell o v b
cell_shown o v b l = let r = weighing (λ x. shows_cell o v (sign_of x)) b l in by r.thing r.among r.weighs
  where
    found : (c : Cell) (x : Thing) → Among x b → CellOf c x → 1 ≤ one (same_object c.object o && same_plain (plain_of c.value) v) → ShowsCell o v b
    found c x h is w =
        let both = truly (same_object c.object o && same_plain (plain_of c.value) v) w in
        let names : IsTest same_object = objects in
        let values : IsTest same_plain = plains in record {
          cell = c;
          thing = x;
          among = h;
          is = is;
          object = names.tells c.object o (and_left (same_object c.object o) (same_plain (plain_of c.value) v) both);
          value = values.tells (plain_of c.value) v (and_right (same_object c.object o) (same_plain (plain_of c.value) v) both);
        }

    by : (x : Thing) → Among x b → 1 ≤ shows_cell o v (sign_of x) → ShowsCell o v b
    by (lies r a c) h w = found c (lies r a c) h (lying r a) w
    by (flies u c) h w = found c (flies u c) h (flying u) w
    by (noted s t) h w = absurd (omega (arith, w, note_no_cell o v t.thread t.state))
    by (stands s p t) h w = absurd (omega (arith, w))
    by (holds q u) h w = absurd (omega (arith, w))
    by (shares l r) h w = absurd (omega (arith, w))
    by (borrows l r) h w = absurd (omega (arith, w))
    by (locks l m) h w = absurd (omega (arith, w))
    by (vacant r a c) h w = absurd (omega (arith, w))
    by (retired r a) h w = absurd (omega (arith, w))
    by (copied r c) h w = absurd (omega (arith, w))
    by (uses r u) h w = absurd (omega (arith, w))
    by (sent r m) h w = absurd (omega (arith, w))
    by (at_home r m) h w = absurd (omega (arith, w))
    by (queued m r u) h w = absurd (omega (arith, w))
    by (counts r a d c m e) h w = absurd (omega (arith, w))

both_true : (p q : Bool) → p ≡ true → q ≡ true → (p && q) ≡ true
both_true true q a b = b
both_true false q a b = absurd (cc a)

-- a cell shows itself
pub cell_weighs : (o : ObjNo) (v : Plain) (c : Cell) (x : Thing) → CellOf c x → c.object ≡ o → plain_of c.value ≡ v → shows_cell o v (sign_of x) ≡ 1
cell_weighs o v c _ (lying r a) e f = let names : IsTest same_object = objects in let values : IsTest same_plain = plains in ap one (both_true (same_object c.object o) (same_plain (plain_of c.value) v) (subst (λ p. same_object c.object p ≡ true) e (names.itself c.object)) (subst (λ u. same_plain (plain_of c.value) u ≡ true) f (values.itself (plain_of c.value))))
cell_weighs o v c _ (flying u) e f = let names : IsTest same_object = objects in let values : IsTest same_plain = plains in ap one (both_true (same_object c.object o) (same_plain (plain_of c.value) v) (subst (λ p. same_object c.object p ≡ true) e (names.itself c.object)) (subst (λ a. same_plain (plain_of c.value) a ≡ true) f (values.itself (plain_of c.value))))
