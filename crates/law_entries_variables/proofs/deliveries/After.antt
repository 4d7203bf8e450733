-- What a cluster answers after an event: question by question, where some things went and others came.
use Rattle.std.proofs.Common.{◌≡◌, ℕ, zero, suc, ◌+◌, ◌≤◌, ◌==◌, ◌&&◌, ◌||◌, not, true, List, Option, Some, None, is_none, refl, sym, ap, ap₂, ◌∙◌, arith}
use Rattle.std.specs.Prelude.{◌%◌, ◌^◌}
use Rattle.law_words_ends.specs.Below.fr_base.declared.name.MutexNo.{MutexNo}
use Rattle.law_words_ends.specs.Below.fr_base.declared.name.ObjNo.{ObjNo}
use Rattle.law_words_ends.specs.Below.fr_base.declared.label.Plain.{Plain}
use Rattle.law_words_ends.specs.Below.server_model.Servers.{Cluster}
use Rattle.law_words_ends.specs.Below.law_words_kept.Below.coloured_heap.Heap.{Place, Copied, Wish, Running}
use Rattle.law_words_ends.specs.Below.coherent_memory.Names.{tot, some}
use Rattle.law_words_ends.specs.Below.coherent_memory.Things.{Thing, stands, things_of}
use Rattle.law_words_ends.specs.Below.coherent_memory.Follow.{Standing}
use Rattle.law_words_ends.specs.Below.coherent_memory.Sight.{sight, issued}
use Rattle.law_words_ends.specs.Below.coherent_memory.Weights.{is_thread}
use Rattle.law_words_ends.specs.Below.coherent_memory.Sharing.{gift_content}
use Rattle.law_words_ends.specs.Below.coherent_memory.Naming.{started_at, made_at}
use Rattle.law_words_ends.specs.Below.coherent_memory.Requests.{home_of}
use Rattle.law_words_ends.specs.Below.coherent_memory.OneHeap.{first_shown, is_given_thread, is_given_mutex}
use Rattle.law_words_ends.specs.Below.coherent_memory.Words.{HasWords}
use Rattle.law_words_ends.specs.Below.coherent_memory.Colours.{living_of, copy_of, same_copied, served_of, wishes_of, running_of, has_finished, holder_of, is_mutex_there}
use Rattle.law_words_ends.specs.Below.coherent_memory.Coherent.{IsSound}
use Rattle.law_words_ends.specs.Below.law_words_paths.words.Unmoved.{WordsStay}
use Rattle.law_words_ends.proofs.Below.law_heap_still.events.Tests.{numbers}
use Rattle.law_words_ends.proofs.Below.law_heap_still.events.Told.{told, ones, tot_same, first_told}
use Rattle.law_entries_variables.proofs.deliveries.Weighed.{Seen, Turned}
use Rattle.law_entries_variables.proofs.deliveries.Shown.{if_some, placed_in, dropped_by, copy_in, copies_test, served_in, wished_in, runs, running_after, holder_by, holder_is, there_in, shown_after, first_same}
use Rattle.law_entries_variables.proofs.deliveries.HeldOnce.{copies_once, holders_once}
use Rattle.law_entries_variables.proofs.deliveries.Live.{living_still as living_stays, issued_by, issued_still as issued_stays}

-- the cluster after an event: these things went, those came
pub record Follows (k c : Cluster) (olds news : List Thing) : Type 0 where
  pub code : c.code ≡ k.code
  pub options : c.options ≡ k.options
  pub things : Turned (things_of k) olds news (things_of c)

-- each object keeps its word, and a gift is the content of the mutex that it was
pub record Keeps (k c : Cluster) : Type 0 where
  pub words : (before : HasWords (sight k)) → WordsStay (sight k) (sight c) before
  pub gifts : (m : MutexNo) (x : Standing) → gift_content (sight c) m x ≡ gift_content (sight k) m x

-- WEIGHTS OF WHAT IS SEEN

pub copy_seen : (r w : ℕ) (g : Copied → ℕ) → Seen (λ x. told g (copy_in r w x))
copy_seen r w g = record { held = λ p v. refl; shared = λ l q. refl; lent = λ l q. refl; flown = λ v c. refl; used = λ n v. refl; loose = λ t i m. refl; counted = λ n a q s m e. refl; unused = λ i d u. refl }

served_seen : (a : Copied) → Seen (served_in a)
served_seen a = record { held = λ p v. refl; shared = λ l q. refl; lent = λ l q. refl; flown = λ v c. refl; used = λ n v. refl; loose = λ t i m. refl; counted = λ n b q s m e. refl; unused = λ i d u. refl }

wished_seen : (a : Wish) → Seen (wished_in a)
wished_seen a = record { held = λ p v. refl; shared = λ l q. refl; lent = λ l q. refl; flown = λ v c. refl; used = λ n v. refl; loose = λ t i m. refl; counted = λ n b q s m e. refl; unused = λ i d u. refl }

there_seen : (m : MutexNo) → Seen (there_in m)
there_seen m = record { held = λ p v. refl; shared = λ l q. refl; lent = λ l q. refl; flown = λ v c. refl; used = λ n v. refl; loose = λ t i o. refl; counted = λ n b q s o e. refl; unused = λ i d u. refl }

started_seen : (s n : ℕ) → Seen (started_at s n)
started_seen s n = record { held = λ p v. refl; shared = λ l q. refl; lent = λ l q. refl; flown = λ v c. refl; used = λ r v. refl; loose = λ t i o. refl; counted = λ r b q t o e. refl; unused = λ i d u. refl }

made_seen : (s n : ℕ) → Seen (made_at s n)
made_seen s n = record { held = λ p v. refl; shared = λ l q. refl; lent = λ l q. refl; flown = λ v c. refl; used = λ r v. refl; loose = λ t i o. refl; counted = λ r b q t o e. refl; unused = λ i d u. refl }

runs_seen : (g : Running → ℕ) (t : ℕ) → Seen (runs g t)
runs_seen g t = record { held = λ p v. refl; shared = λ l q. refl; lent = λ l q. refl; flown = λ v c. refl; used = λ r v. refl; loose = λ u i o. refl; counted = λ r b q s o e. refl; unused = λ i d u. refl }

thread_seen : (t : ℕ) → Seen (is_thread t)
thread_seen t = record { held = λ p v. refl; shared = λ l q. refl; lent = λ l q. refl; flown = λ v c. refl; used = λ r v. refl; loose = λ u i o. refl; counted = λ r b q s o e. refl; unused = λ i d u. refl }

holder_seen : (k : Cluster) (m : MutexNo) (g : ℕ → ℕ) → Seen (λ x. told g (holder_by (sight k) m x))
holder_seen k m g = record { held = λ p v. refl; shared = λ l q. refl; lent = λ l q. refl; flown = λ v c. refl; used = λ r v. refl; loose = λ u i o. refl; counted = λ r b q s o e. refl; unused = λ i d u. refl }

-- QUESTIONS

module _ (k c : Cluster) (olds news : List Thing) (sound : IsSound k) (f : Follows k c olds news) where
  pub copy_after : (r w : ℕ) (p : Option Copied) → ((g : Copied → ℕ) → told g p + tot (λ x. told g (copy_in r w x)) olds ≡ told g (copy_of (sight k) r w) + tot (λ x. told g (copy_in r w x)) news) → p ≡ copy_of (sight c) r w
  copy_after r w p e = sym (shown_after same_copied copies_test (copy_in r w) (things_of k) olds news (things_of c) (λ g. f.things (λ x. told g (copy_in r w x)) (copy_seen r w g)) (copies_once k sound r w) p e)

  pub copy_still : (r w : ℕ) → ((g : Copied → ℕ) → tot (λ x. told g (copy_in r w x)) olds ≡ tot (λ x. told g (copy_in r w x)) news) → copy_of (sight k) r w ≡ copy_of (sight c) r w
  copy_still r w e = copy_after r w (copy_of (sight k) r w) (λ g. ap (λ n. told g (copy_of (sight k) r w) + n) (e g))

  pub served_still : (a : Copied) → tot (served_in a) olds ≡ tot (served_in a) news → served_of (sight k) a ≡ served_of (sight c) a
  served_still a e = omega (arith, f.things (served_in a) (served_seen a), e)

  pub served_after : (a : Copied) → tot (served_in a) (things_of c) + tot (served_in a) olds ≡ tot (served_in a) (things_of k) + tot (served_in a) news
  served_after a = f.things (served_in a) (served_seen a)

  pub wishes_still : (a : Wish) → tot (wished_in a) olds ≡ tot (wished_in a) news → wishes_of (sight k) a ≡ wishes_of (sight c) a
  wishes_still a e = omega (arith, f.things (wished_in a) (wished_seen a), e)

  pub wishes_after : (a : Wish) → tot (wished_in a) (things_of c) + tot (wished_in a) olds ≡ tot (wished_in a) (things_of k) + tot (wished_in a) news
  wishes_after a = f.things (wished_in a) (wished_seen a)

  pub there_still : (m : MutexNo) → tot (there_in m) olds ≡ tot (there_in m) news → is_mutex_there (sight k) m ≡ is_mutex_there (sight c) m
  there_still m e = ap some (omega (arith, f.things (there_in m) (there_seen m), e))

  -- a mutex may go
  pub there_less : (m : MutexNo) → tot (there_in m) news ≤ tot (there_in m) olds → is_mutex_there (sight c) m ≡ true → is_mutex_there (sight k) m ≡ true
  there_less m l e = more (tot (there_in m) (things_of c)) (tot (there_in m) (things_of k)) (omega (arith, f.things (there_in m) (there_seen m), l)) e
    where
      more : (i j : ℕ) → i ≤ j → some i ≡ true → some j ≡ true
      more zero j l e = absurd (cc e)
      more (suc i) zero l e = absurd (omega (arith, l))
      more (suc i) (suc j) l e = refl

  pub started_still : ((s n : ℕ) → tot (started_at s n) olds ≡ tot (started_at s n) news) → (t : ℕ) → is_given_thread (sight k) t ≡ is_given_thread (sight c) t
  started_still e t =
      let s = home_of t in
      let n = t % 2 ^ 32 in
      let same : tot (started_at s n) (things_of k) ≡ tot (started_at s n) (things_of c) = omega (arith, f.things (started_at s n) (started_seen s n), e s n) in
      ap (λ i. t == 0 || (not (t % 2 ^ 32 == 0) && some i)) same

  pub made_still : ((s n : ℕ) → tot (made_at s n) olds ≡ tot (made_at s n) news) → (m : MutexNo) → is_given_mutex (sight k) m ≡ is_given_mutex (sight c) m
  made_still e m =
      let same : tot (made_at m.home m.count) (things_of k) ≡ tot (made_at m.home m.count) (things_of c) = omega (arith, f.things (made_at m.home m.count) (made_seen m.home m.count), e m.home m.count) in
      ap (λ i. not (m.count == 0) && some i) same

  pub threads_once : ((t : ℕ) → tot (is_thread t) olds ≡ tot (is_thread t) news) → (t : ℕ) → tot (is_thread t) (things_of c) ≤ 1
  threads_once e t = omega (arith, f.things (is_thread t) (thread_seen t), e t, sound.names.numbers_differ t)

  pub running_then : ((t : ℕ) → tot (is_thread t) olds ≡ tot (is_thread t) news) → (t : ℕ) (p : Option Running)
      → ((g : Running → ℕ) → told g p + tot (runs g t) olds ≡ told g (running_of (sight k) t) + tot (runs g t) news) → p ≡ running_of (sight c) t
  running_then differ t p e = sym (running_after t (things_of k) olds news (things_of c) (λ g. f.things (runs g t) (runs_seen g t)) (sound.names.numbers_differ t) (threads_once differ t) p e)

  pub running_still : ((t : ℕ) → tot (is_thread t) olds ≡ tot (is_thread t) news) → (t : ℕ) → ((g : Running → ℕ) → tot (runs g t) olds ≡ tot (runs g t) news) → running_of (sight k) t ≡ running_of (sight c) t
  running_still differ t e = running_then differ t (running_of (sight k) t) (λ g. ap (λ n. told g (running_of (sight k) t) + n) (e g))

  module _ (keeps : Keeps k c) where
    pub living_still : (o : ObjNo) → ((g : Plain × Place → ℕ) → tot (λ x. told g (placed_in o x)) olds ≡ tot (λ x. told g (placed_in o x)) news) → tot (dropped_by o) olds ≡ tot (dropped_by o) news → living_of (sight k) o ≡ living_of (sight c) o
    living_still o = living_stays k c olds news f.things sound.one_home.home_of_each sound.words.have_words (keeps.words sound.words.have_words) o

    pub issued_still : ((h : ObjNo → ℕ) (n w : ℕ) → tot (issued_by h n w) olds ≡ tot (issued_by h n w) news) → (w : ℕ) → issued (sight k) w ≡ issued (sight c) w
    issued_still e w =
        let before = sound.words.have_words in
        issued_stays k c olds news f.things f.options before (keeps.words before) w (e before.word k.options.colours w)

    holder_kept : (m : MutexNo) (x : Thing) → holder_by (sight c) m x ≡ holder_by (sight k) m x
    holder_kept m (stands r p x) = ap (λ n. if_some (some n) x.number) (keeps.gifts m (record { server = r; packed = p; thread = x }))
    holder_kept m _ = refl

    pub holder_after : (m : MutexNo) (p : Option ℕ) → ((g : ℕ → ℕ) → told g p + tot (λ x. told g (holder_by (sight k) m x)) olds ≡ told g (holder_of (sight k) m) + tot (λ x. told g (holder_by (sight k) m x)) news) → p ≡ holder_of (sight c) m
    holder_after m p e =
        sym (holder_is c m few2 ∙ first_same (holder_by (sight c) m) (holder_by (sight k) m) (holder_kept m) (things_of c) ∙ there)
      where
        few : tot (λ x. told ones (holder_by (sight k) m x)) (things_of k) ≤ 1
        few = holders_once k m sound

        was : holder_of (sight k) m ≡ first_shown (holder_by (sight k) m) (things_of k)
        was = holder_is k m few

        change : (g : ℕ → ℕ) → told g p + tot (λ x. told g (holder_by (sight k) m x)) olds ≡ told g (first_shown (holder_by (sight k) m) (things_of k)) + tot (λ x. told g (holder_by (sight k) m x)) news
        change g = e g ∙ ap (λ o. told g o + tot (λ x. told g (holder_by (sight k) m x)) news) was

        there : first_shown (holder_by (sight k) m) (things_of c) ≡ p
        there = shown_after (λ (i j : ℕ). i == j) numbers (holder_by (sight k) m) (things_of k) olds news (things_of c) (λ g. f.things (λ x. told g (holder_by (sight k) m x)) (holder_seen k m g)) few p change

        most : (o : Option ℕ) → told ones o ≤ 1
        most None = omega arith
        most (Some x) = omega arith

        count : tot (λ x. told ones (holder_by (sight k) m x)) (things_of c) ≤ 1
        count = omega (arith, f.things (λ x. told ones (holder_by (sight k) m x)) (holder_seen k m ones), change ones, first_told (holder_by (sight k) m) ones (things_of k) few, most p)

        few2 : tot (λ x. told ones (holder_by (sight c) m x)) (things_of c) ≤ 1
        few2 = let same : tot (λ x. told ones (holder_by (sight c) m x)) (things_of c) ≡ tot (λ x. told ones (holder_by (sight k) m x)) (things_of c) = tot_same (λ x. told ones (holder_by (sight c) m x)) (λ x. told ones (holder_by (sight k) m x)) (λ x. ap (told ones) (holder_kept m x)) (things_of c) in omega (arith, same, count)

    pub holder_still : (m : MutexNo) → ((g : ℕ → ℕ) → tot (λ x. told g (holder_by (sight k) m x)) olds ≡ tot (λ x. told g (holder_by (sight k) m x)) news) → holder_of (sight k) m ≡ holder_of (sight c) m
    holder_still m e = holder_after m (holder_of (sight k) m) (λ g. ap (λ n. told g (holder_of (sight k) m) + n) (e g))

-- who has finished is told by who was started and who runs
pub ended_by : (k c : Cluster) → ((t : ℕ) → is_given_thread (sight k) t ≡ is_given_thread (sight c) t) → ((t : ℕ) → is_none (running_of (sight k) t) ≡ is_none (running_of (sight c) t)) → (t : ℕ) → has_finished (sight k) t ≡ has_finished (sight c) t
ended_by k c e d t = ap₂ (λ a b. (a && b) && not (t == 0)) (e t) (d t)
