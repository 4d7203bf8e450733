-- What a cluster shows of objects, copies, threads and holders, after some things went and others came.
use Rattle.std.proofs.Common.{◌≡◌, ℕ, ◌+◌, ◌≤◌, ◌==◌, ◌&&◌, not, Bool, true, false, List, [], ◌∷◌, Option, Some, None, option_map, refl, sym, ap, ap₂, ◌∙◌, arith}
use Rattle.std.specs.Prelude.{unwrap_or}
use Rattle.law_words_ends.specs.Below.fr_base.Names.{same_plain}
use Rattle.law_words_ends.specs.Below.fr_base.declared.name.MutexNo.{MutexNo}
use Rattle.law_words_ends.specs.Below.fr_base.declared.name.ObjNo.{ObjNo}
use Rattle.law_words_ends.specs.Below.fr_base.declared.label.Plain.{Plain}
use Rattle.law_words_ends.specs.Below.heap_partition.Plain.{plain_of}
use Rattle.law_words_ends.specs.Below.heap_partition.declared.value.Cell.{Cell}
use Rattle.law_words_ends.specs.Below.thread_state.View.{is_over}
use Rattle.law_words_ends.specs.Below.join_home.Tasks.{TaskState, asked}
use Rattle.law_words_ends.specs.Below.server_msgs.declared.message.Message.{Message}
use Rattle.law_words_ends.specs.Below.server_msgs.declared.message.Message.TheVariants.{Fetch, Fetched, Move, Moved, Lock, Granted, Dup, Join}
use Rattle.law_words_ends.specs.Below.server_model.Servers.{Cluster}
use Rattle.law_words_ends.specs.Below.law_words_kept.Below.coloured_heap.Heap.{Place, Lies, Flies, Living, Copied, Wish, ForCopy, ForObject, ForContent, ForShare, ForResult, Running, same_wish}
use Rattle.law_words_ends.specs.Below.coherent_memory.Names.{tot, one, some, same_object, same_mutex}
use Rattle.law_words_ends.specs.Below.coherent_memory.Things.{at_slot, Thing, lies, copied, sent, locks, stands, at_home, queued, noted, things_of}
use Rattle.law_words_ends.specs.Below.coherent_memory.Follow.{Standing, threads_in, thread_at}
use Rattle.law_words_ends.specs.Below.coherent_memory.Sight.{Sight, sight, word}
use Rattle.law_words_ends.specs.Below.coherent_memory.Weights.{drops, is_thread}
use Rattle.law_words_ends.specs.Below.coherent_memory.Sharing.{gift_content}
use Rattle.law_words_ends.specs.Below.coherent_memory.OneHeap.{or_else, first_shown}
use Rattle.law_words_ends.specs.Below.coherent_memory.Colours.{living_of, copy_of, same_copied, served_of, wishes_of, running_of, holder_of, is_mutex_there}
use Rattle.law_words_ends.proofs.Below.coherent_memory.Names.{and_left, and_right}
use Rattle.law_words_ends.proofs.Below.law_heap_still.events.Tests.{IsTest, numbers, truths, same_truth, objects, plains}
use Rattle.law_words_ends.proofs.Below.law_heap_still.events.Told.{told, ones, same_told, first_told, at_thread, thread_told}

both_true : (p q : Bool) → p ≡ true → q ≡ true → (p && q) ≡ true
both_true true q a b = b
both_true false q a b = absurd (cc a)

-- WHAT IS SHOWN ONCE, AFTERWARDS

module _ {A : Type 0} (same : A → A → Bool) (test : IsTest same) (f : Thing → Option A) (a olds news b : List Thing) where
  -- these sums of what is shown
  abbrev pub shown : (A → ℕ) → List Thing → ℕ
  shown g xs = tot (λ x. told g (f x)) xs

  pub shown_after : ((g : A → ℕ) → shown g b + shown g olds ≡ shown g a + shown g news) → shown ones a ≤ 1 → (p : Option A) → ((g : A → ℕ) → told g p + shown g olds ≡ told g (first_shown f a) + shown g news) → first_shown f b ≡ p
  shown_after change few p e = same_told same test (first_shown f b) p (λ g. sym (first_told f g b few2) ∙ at g)
    where
      at : (g : A → ℕ) → shown g b ≡ told g p
      at g = omega (arith, change g, first_told f g a few, e g)

      once : (o : Option A) → told ones o ≤ 1
      once None = omega arith
      once (Some x) = omega arith

      few2 : shown ones b ≤ 1
      few2 = omega (arith, at ones, once p)

  pub shown_still : ((g : A → ℕ) → shown g b + shown g olds ≡ shown g a + shown g news) → shown ones a ≤ 1 → ((g : A → ℕ) → shown g olds ≡ shown g news) → first_shown f b ≡ first_shown f a
  shown_still change few e = shown_after change few (first_shown f a) (λ g. ap (λ n. told g (first_shown f a) + n) (e g))

-- what is shown is that of a thing
module _ {A : Type 0} (f : Thing → Option A) where
  pub first_same : (g : Thing → Option A) → ((x : Thing) → f x ≡ g x) → (b : List Thing) → first_shown f b ≡ first_shown g b
  first_same g e [] = refl
  first_same g e (x ∷ b) = ap₂ (λ o p. or_else o p) (e x) (first_same g e b)

  pub first_mapped : {B : Type 0} (h : A → B) (b : List Thing) → first_shown (λ x. option_map h (f x)) b ≡ option_map h (first_shown f b)
  first_mapped h [] = refl
  first_mapped h (x ∷ b) = by (f x) (first_mapped h b)
    where
      by : (o : Option A) → first_shown (λ x. option_map h (f x)) b ≡ option_map h (first_shown f b) → or_else (option_map h o) (first_shown (λ x. option_map h (f x)) b) ≡ option_map h (or_else o (first_shown f b))
      by None e = e
      by (Some v) e = refl

  pub none_first : (b : List Thing) → tot (λ x. told ones (f x)) b ≡ 0 → first_shown f b ≡ None
  none_first [] z = refl
  none_first (x ∷ b) z = by (f x) z (none_first b)
    where
      by : (o : Option A) → told ones o + tot (λ x. told ones (f x)) b ≡ 0 → (tot (λ x. told ones (f x)) b ≡ 0 → first_shown f b ≡ None) → or_else o (first_shown f b) ≡ None
      by None z go = go (omega (arith, z))
      by (Some v) z go = absurd (omega (arith, z))

-- of two things that are shown once together, the first is the first of either
module _ {A : Type 0} (f g : Thing → Option A) where
  abbrev pub either : Thing → Option A
  either x = or_else (f x) (g x)

  none_either : (b : List Thing) → tot (λ x. told ones (either x)) b ≡ 0 → (first_shown f b ≡ None) × (first_shown g b ≡ None)
  none_either [] z = (refl, refl)
  none_either (x ∷ b) z = by (f x) (g x) z (none_either b)
    where
      by : (o p : Option A) → told ones (or_else o p) + tot (λ x. told ones (either x)) b ≡ 0 → (tot (λ x. told ones (either x)) b ≡ 0 → (first_shown f b ≡ None) × (first_shown g b ≡ None))
          → (or_else o (first_shown f b) ≡ None) × (or_else p (first_shown g b) ≡ None)
      by None None z go = go (omega (arith, z))
      by None (Some v) z go = absurd (omega (arith, z))
      by (Some v) p z go = absurd (omega (arith, z))

  pub first_either : (b : List Thing) → tot (λ x. told ones (either x)) b ≤ 1 → first_shown either b ≡ or_else (first_shown f b) (first_shown g b)
  first_either [] l = refl
  first_either (x ∷ b) l = by (f x) (g x) l (none_either b) (first_either b)
    where
      by : (o p : Option A) → told ones (or_else o p) + tot (λ x. told ones (either x)) b ≤ 1 → (tot (λ x. told ones (either x)) b ≡ 0 → (first_shown f b ≡ None) × (first_shown g b ≡ None))
          → (tot (λ x. told ones (either x)) b ≤ 1 → first_shown either b ≡ or_else (first_shown f b) (first_shown g b))
          → or_else (or_else o p) (first_shown either b) ≡ or_else (or_else o (first_shown f b)) (or_else p (first_shown g b))
      by None None l none go = go (omega (arith, l))
      by None (Some v) l none go = ap (λ i. or_else i (Some v)) (sym (none (omega (arith, l))).0)
      by (Some v) p l none go = refl

-- OBJECTS

abbrev pub if_some : {A : Type 0} → Bool → A → Option A
if_some true x = Some x
if_some false x = None

abbrev pub dropped_by : ObjNo → Thing → ℕ
dropped_by o (sent r m) = drops o m
dropped_by o x = 0

abbrev living_as : Sight → ObjNo → Cell → Place → Option Living
living_as s o c p =
    if_some (same_object c.object o) (record { object = o; place = p; word = unwrap_or (word s o) 0; value = plain_of c.value; is_condemned = some (tot (dropped_by o) s.things) })

abbrev moved_living : Sight → ObjNo → ℕ → Message → Option Living
moved_living s o r (Moved w c t) = living_as s o c (Flies r)
moved_living s o r m = None

abbrev living_in : Sight → ObjNo → Thing → Option Living
living_in s o (lies r a c) = living_as s o c (Lies r)
living_in s o (sent r m) = moved_living s o r m
living_in s o x = None

-- where an object is, and its value without words
abbrev pub placed_message : ObjNo → ℕ → Message → Option (Plain × Place)
placed_message o r (Moved w c t) = if_some (same_object c.object o) (plain_of c.value, Flies r)
placed_message o r m = None

abbrev pub placed_in : ObjNo → Thing → Option (Plain × Place)
placed_in o (lies r a c) = if_some (same_object c.object o) (plain_of c.value, Lies r)
placed_in o (sent r m) = placed_message o r m
placed_in o x = None

abbrev pub as_living : ObjNo → Option ℕ → Bool → Plain × Place → Living
as_living o w is_condemned p = record { object = o; place = p.1; word = unwrap_or w 0; value = p.0; is_condemned = is_condemned }

module _ (s : Sight) (o : ObjNo) where
  abbrev seen_so : Plain × Place → Living
  seen_so = as_living o (word s o) (some (tot (dropped_by o) s.things))

  living_so : (q : Bool) (v : Plain) (p : Place) → if_some q (seen_so (v, p)) ≡ option_map seen_so (if_some q (v, p))
  living_so true v p = refl
  living_so false v p = refl

  message_so : (r : ℕ) (m : Message) → moved_living s o r m ≡ option_map seen_so (placed_message o r m)
  message_so r (Moved w c t) = living_so (same_object c.object o) (plain_of c.value) (Flies r)
  message_so r _ = refl

  thing_so : (x : Thing) → living_in s o x ≡ option_map seen_so (placed_in o x)
  thing_so (lies r a c) = living_so (same_object c.object o) (plain_of c.value) (Lies r)
  thing_so (sent r m) = message_so r m
  thing_so _ = refl

  -- an object with its word, condemned where a `drop` names it
  pub living_is : living_of s o ≡ option_map (as_living o (word s o) (some (tot (dropped_by o) s.things))) (first_shown (placed_in o) s.things)
  living_is = first_same (living_in s o) (λ x. option_map seen_so (placed_in o x)) thing_so s.things ∙ first_mapped (placed_in o) seen_so s.things

abbrev pub same_place : Place → Place → Bool
same_place (Lies r) (Lies q) = r == q
same_place (Flies r) (Flies q) = r == q
same_place _ _ = false

places_told : (p q : Place) → same_place p q ≡ true → p ≡ q
places_told (Lies r) (Lies q) e = ap Lies (numbers.tells r q e)
places_told (Flies r) (Flies q) e = ap Flies (numbers.tells r q e)
places_told (Lies r) (Flies q) e = absurd (cc e)
places_told (Flies r) (Lies q) e = absurd (cc e)

places_itself : (p : Place) → same_place p p ≡ true
places_itself (Lies r) = numbers.itself r
places_itself (Flies r) = numbers.itself r

abbrev pub same_placed : Plain × Place → Plain × Place → Bool
same_placed a b = same_plain a.0 b.0 && same_place a.1 b.1

abbrev pair_of : Plain → Place → Plain × Place
pair_of v p = (v, p)

pub placings : IsTest same_placed
placings = record {
  itself = λ a. both_true (same_plain a.0 a.0) (same_place a.1 a.1) (plains.itself a.0) (places_itself a.1);
  tells = λ a b e. ap₂ pair_of (plains.tells a.0 b.0 (and_left (same_plain a.0 b.0) (same_place a.1 b.1) e)) (places_told a.1 b.1 (and_right (same_plain a.0 b.0) (same_place a.1 b.1) e));
}

-- COPIES

abbrev copied_as : ℕ → ℕ → Cell → Copied
copied_as r w c = record { server = r; word = w; object = c.object; value = plain_of c.value }

abbrev pub copy_in : ℕ → ℕ → Thing → Option Copied
copy_in r w (copied q c) = if_some (q == r && c.word == w) (copied_as q c.word c.cell)
copy_in r w x = None

pub copy_is : (s : Sight) (r w : ℕ) → copy_of s r w ≡ first_shown (copy_in r w) s.things
copy_is s r w = refl

abbrev copied_of : ℕ → ℕ → ObjNo → Plain → Copied
copied_of r w o v = record { server = r; word = w; object = o; value = v }

pub copies_test : IsTest same_copied
copies_test = record { itself = itself; tells = tells }
  where
    itself : (a : Copied) → same_copied a a ≡ true
    itself a =
        both_true (((a.server == a.server) && (a.word == a.word)) && same_object a.object a.object) (same_plain a.value a.value)
        (both_true ((a.server == a.server) && (a.word == a.word)) (same_object a.object a.object) (both_true (a.server == a.server) (a.word == a.word) (numbers.itself a.server) (numbers.itself a.word)) (objects.itself a.object)) (plains.itself a.value)

    tells : (a b : Copied) → same_copied a b ≡ true → a ≡ b
    tells a b e =
        let d = and_left (((a.server == b.server) && (a.word == b.word)) && same_object a.object b.object) (same_plain a.value b.value) e in
        let f = and_left ((a.server == b.server) && (a.word == b.word)) (same_object a.object b.object) d in
        ap₂ (λ r w. copied_of r w a.object a.value) (numbers.tells a.server b.server (and_left (a.server == b.server) (a.word == b.word) f)) (numbers.tells a.word b.word (and_right (a.server == b.server) (a.word == b.word) f))
        ∙ ap₂ (λ o v. copied_of b.server b.word o v) (objects.tells a.object b.object (and_right ((a.server == b.server) && (a.word == b.word)) (same_object a.object b.object) d))
        (plains.tells a.value b.value (and_right (((a.server == b.server) && (a.word == b.word)) && same_object a.object b.object) (same_plain a.value b.value) e))

abbrev pub served_message : Copied → ℕ → Message → ℕ
served_message a r (Fetched w c t) = one (same_copied a (copied_as r w c))
served_message a r m = 0

abbrev pub served_in : Copied → Thing → ℕ
served_in a (sent r m) = served_message a r m
served_in a x = 0

pub served_is : (s : Sight) (a : Copied) → served_of s a ≡ tot (served_in a) s.things
served_is s a = refl

-- WISHES

abbrev pub message_wish : Message → Option Wish
message_wish (Fetch w o s t) = Some (ForCopy o w s)
message_wish (Move w o s t) = Some (ForObject o w s)
message_wish (Lock m s t) = Some (ForContent m t s)
message_wish (Dup m s t) = Some (ForShare m t s)
message_wish (Join u s t) = Some (ForResult u t s)
message_wish m = None

abbrev pub noted_wish : ℕ → TaskState → Option Wish
noted_wish u (asked s t) = Some (ForResult u t s)
noted_wish u x = None

abbrev pub wish_in : Thing → Option Wish
wish_in (sent r m) = message_wish m
wish_in (queued m s t) = Some (ForContent m t s)
wish_in (noted r x) = noted_wish x.thread x.state
wish_in x = None

abbrev pub same_as : Wish → Option Wish → ℕ
same_as a None = 0
same_as a (Some b) = one (same_wish a b)

abbrev pub wished_in : Wish → Thing → ℕ
wished_in a x = same_as a (wish_in x)

pub wishes_is : (s : Sight) (a : Wish) → wishes_of s a ≡ tot (wished_in a) s.things
wishes_is s a = refl

-- THREADS

abbrev pub running_as : ℕ → Option Standing → Option Running
running_as t None = None
running_as t (Some x) = if_some (not (is_over x.thread.phase)) (record { thread = t; server = x.server; has_ended = false })

pub running_is : (k : Cluster) (t : ℕ) → running_of (sight k) t ≡ running_as t (thread_at (threads_in (things_of k)) t)
running_is k t = refl

-- how much the thread counts that is found by that number, where it isn't over
abbrev pub runs : (Running → ℕ) → ℕ → Thing → ℕ
runs g t x = at_thread (λ y. told g (running_as t (Some y))) t x

abbrev same_running : Running → Running → Bool
same_running a b = ((a.thread == b.thread) && (a.server == b.server)) && same_truth a.has_ended b.has_ended

abbrev running_by : ℕ → ℕ → Bool → Running
running_by t r e = record { thread = t; server = r; has_ended = e }

runnings : IsTest same_running
runnings = record {
  itself = λ a. both_true ((a.thread == a.thread) && (a.server == a.server)) (same_truth a.has_ended a.has_ended) (both_true (a.thread == a.thread) (a.server == a.server) (numbers.itself a.thread) (numbers.itself a.server)) (truths.itself a.has_ended);
  tells = λ a b e.
      let d = and_left ((a.thread == b.thread) && (a.server == b.server)) (same_truth a.has_ended b.has_ended) e in
      ap₂ (λ t r. running_by t r a.has_ended) (numbers.tells a.thread b.thread (and_left (a.thread == b.thread) (a.server == b.server) d)) (numbers.tells a.server b.server (and_right (a.thread == b.thread) (a.server == b.server) d))
      ∙ ap (running_by b.thread b.server) (truths.tells a.has_ended b.has_ended (and_right ((a.thread == b.thread) && (a.server == b.server)) (same_truth a.has_ended b.has_ended) e));
}

module _ (t : ℕ) (a olds news b : List Thing) where
  pub found_told : (g : Running → ℕ) (xs : List Thing) → tot (is_thread t) xs ≤ 1 → tot (runs g t) xs ≡ told g (running_as t (thread_at (threads_in xs) t))
  found_told g xs few = thread_told (λ y. told g (running_as t (Some y))) t xs few ∙ by (thread_at (threads_in xs) t)
    where
      by : (o : Option Standing) → told (λ y. told g (running_as t (Some y))) o ≡ told g (running_as t o)
      by None = refl
      by (Some x) = refl

  pub running_after : ((g : Running → ℕ) → tot (runs g t) b + tot (runs g t) olds ≡ tot (runs g t) a + tot (runs g t) news) → tot (is_thread t) a ≤ 1 → tot (is_thread t) b ≤ 1 → (p : Option Running)
      → ((g : Running → ℕ) → told g p + tot (runs g t) olds ≡ told g (running_as t (thread_at (threads_in a) t)) + tot (runs g t) news) → running_as t (thread_at (threads_in b) t) ≡ p
  running_after change few few2 p e = same_told same_running runnings (running_as t (thread_at (threads_in b) t)) p (λ g. omega (arith, change g, found_told g a few, found_told g b few2, e g))

-- MUTEXES

abbrev granted_message : MutexNo → Message → Option ℕ
granted_message m (Granted n v t) = if_some (same_mutex n m) t
granted_message m x = None

abbrev holder_in : MutexNo → Thing → Option ℕ
holder_in m (sent r x) = granted_message m x
holder_in m (locks (at_slot t i) n) = if_some (same_mutex n m) t
holder_in m x = None

abbrev or_other : {A : Type 0} → Option A → Option A → Option A
or_other None y = y
or_other (Some x) y = Some x

abbrev gift_holder : Sight → MutexNo → List Standing → Option ℕ
gift_holder s m [] = None
gift_holder s m (x ∷ xs) = or_other (if_some (some (gift_content s m x)) x.thread.number) (gift_holder s m xs)

abbrev gift_in : Sight → MutexNo → Thing → Option ℕ
gift_in s m (stands r p x) = if_some (some (gift_content s m (record { server = r; packed = p; thread = x }))) x.number
gift_in s m x = None

-- the thread to which a mutex's content was granted: by a message, a mark in a slot, or a gift
abbrev pub holder_by : Sight → MutexNo → Thing → Option ℕ
holder_by s m x = or_else (holder_in m x) (gift_in s m x)

module _ (s : Sight) (m : MutexNo) where
  gifts_found : (b : List Thing) → gift_holder s m (threads_in b) ≡ first_shown (gift_in s m) b
  gifts_found [] = refl
  gifts_found (stands r p x ∷ b) = by (some (gift_content s m (record { server = r; packed = p; thread = x }))) (gifts_found b)
    where
      by : (q : Bool) → gift_holder s m (threads_in b) ≡ first_shown (gift_in s m) b → or_other (if_some q x.number) (gift_holder s m (threads_in b)) ≡ or_else (if_some q x.number) (first_shown (gift_in s m) b)
      by true e = refl
      by false e = e
  gifts_found (_ ∷ b) = gifts_found b

others : (o p q : Option ℕ) → p ≡ q → or_other o p ≡ or_else o q
others None p q e = e
others (Some v) p q e = refl

pub holder_is : (k : Cluster) (m : MutexNo) → tot (λ x. told ones (holder_by (sight k) m x)) (things_of k) ≤ 1 → holder_of (sight k) m ≡ first_shown (holder_by (sight k) m) (things_of k)
holder_is k m few = start ∙ sym (first_either (holder_in m) (gift_in (sight k) m) (things_of k) few)
  where
    start : or_other (first_shown (holder_in m) (things_of k)) (gift_holder (sight k) m (threads_in (things_of k))) ≡ or_else (first_shown (holder_in m) (things_of k)) (first_shown (gift_in (sight k) m) (things_of k))
    start = others (first_shown (holder_in m) (things_of k)) (gift_holder (sight k) m (threads_in (things_of k))) (first_shown (gift_in (sight k) m) (things_of k)) (gifts_found (sight k) m (things_of k))

abbrev pub there_in : MutexNo → Thing → ℕ
there_in m (at_home r n) = one (same_mutex n.number m)
there_in m x = 0

pub there_is : (s : Sight) (m : MutexNo) → is_mutex_there s m ≡ some (tot (there_in m) s.things)
there_is s m = refl
