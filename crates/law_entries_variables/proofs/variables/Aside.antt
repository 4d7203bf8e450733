-- What a cluster answers after a step that leaves objects, copies, words and wishes as they were, whatever becomes of threads and mutexes.
use Rattle.std.proofs.Common.{◌≡◌, ℕ, ◌≤◌, ◌==◌, Bool, true, false, List, ◌∷◌, Some, None, is_some, is_none, refl, ap, ◌∙◌, arith}
use Rattle.law_words_ends.specs.Below.fr_base.declared.name.MutexNo.{MutexNo}
use Rattle.law_words_ends.specs.Below.fr_base.declared.name.ObjNo.{ObjNo}
use Rattle.law_words_ends.specs.Below.fr_base.declared.label.Plain.{Plain}
use Rattle.law_words_ends.specs.Below.thread_state.View.{ThreadState}
use Rattle.law_words_ends.specs.Below.server_model.Servers.{Server, Cluster, server_at}
use Rattle.law_words_ends.specs.Below.server_model.Work.{thread_in}
use Rattle.law_entries_variables.specs.Below.coloured_heap.Heap.{Place, Copied, Wish, Running}
use Rattle.law_entries_variables.proofs.Below.coloured_heap.ShownNames.{number_flip, number_itself}
use Rattle.law_words_ends.specs.Below.coherent_memory.Names.{tot, one, if_so}
use Rattle.law_words_ends.specs.Below.coherent_memory.Things.{Thing, stands, things_of}
use Rattle.law_words_ends.specs.Below.coherent_memory.Sight.{sight, issued}
use Rattle.law_words_ends.specs.Below.coherent_memory.Naming.{started_at, made_at}
use Rattle.law_words_ends.specs.Below.coherent_memory.OneHeap.{is_given_thread}
use Rattle.law_words_ends.specs.Below.coherent_memory.Weights.{is_thread}
use Rattle.law_words_ends.specs.Below.coherent_memory.Words.{HasWords}
use Rattle.law_words_ends.specs.Below.coherent_memory.Colours.{living_of, copy_of, served_of, wishes_of, running_of}
use Rattle.law_words_ends.specs.Below.coherent_memory.Coherent.{IsSound}
use Rattle.law_words_ends.proofs.Below.law_counts_sums.ThreadThere.{thread_there}
use Rattle.law_entries_variables.specs.Below.law_heap_still.events.Shows.{ShownThread}
use Rattle.law_entries_variables.proofs.Below.law_heap_still.events.Told.{told, tot_same, at_thread, thread_told}
use Rattle.law_words_ends.specs.Below.law_words_paths.words.Unmoved.{WordsStay}
use Rattle.law_entries_variables.proofs.deliveries.Answers.{Agrees, answers_of}
use Rattle.law_entries_variables.proofs.deliveries.Shown.{placed_in, dropped_by, copy_in, served_in, wished_in, holder_by, runs, there_in}
use Rattle.law_entries_variables.proofs.deliveries.Live.{issued_by, living_still, issued_still}
use Rattle.law_entries_variables.proofs.deliveries.After.{Follows, copy_still, served_still, wishes_still, started_still, running_still, ended_by, made_still, there_less}
use Rattle.law_entries_variables.proofs.still.Kept.{masked_of, Staying}
use Rattle.law_entries_variables.proofs.variables.Holders.{gifted, gifted_seen, Others, holder_still}

-- objects, copies, words and wishes stay
pub record Aside (olds news : List Thing) : Type 0 where
  pub objects : (o : ObjNo) (g : Plain × Place → ℕ) → tot (λ x. told g (placed_in o x)) olds ≡ tot (λ x. told g (placed_in o x)) news
  pub drops : (o : ObjNo) → tot (dropped_by o) olds ≡ tot (dropped_by o) news
  pub copies : (r w : ℕ) (g : Copied → ℕ) → tot (λ x. told g (copy_in r w x)) olds ≡ tot (λ x. told g (copy_in r w x)) news
  pub served : (a : Copied) → tot (served_in a) olds ≡ tot (served_in a) news
  pub issued : (h : ObjNo → ℕ) (n w : ℕ) → tot (issued_by h n w) olds ≡ tot (issued_by h n w) news
  pub wishes : (a : Wish) → tot (wished_in a) olds ≡ tot (wished_in a) news

module _ (k c : Cluster) (olds news : List Thing) (sound : IsSound k) (f : Follows k c olds news) (words : (before : HasWords (sight k)) → WordsStay (sight k) (sight c) before) (a : Aside olds news) where
  pub objects_same : (o : ObjNo) → living_of (sight k) o ≡ living_of (sight c) o
  objects_same o = living_still k c olds news f.things sound.one_home.home_of_each sound.words.have_words (words sound.words.have_words) o (a.objects o) (a.drops o)

  -- copies are where they were
  pub copies_same : (r w : ℕ) → copy_of (sight k) r w ≡ copy_of (sight c) r w
  copies_same r w = copy_still k c olds news sound f r w (a.copies r w)

  -- so are those on their way
  pub served_same : (b : Copied) → served_of (sight k) b ≡ served_of (sight c) b
  served_same b = served_still k c olds news sound f b (a.served b)

  -- no word was issued
  pub issued_same : (w : ℕ) → issued (sight k) w ≡ issued (sight c) w
  issued_same w = let before = sound.words.have_words in issued_still k c olds news f.things f.options before (words before) w (a.issued before.word k.options.colours w)

  -- nothing was asked for or answered
  pub wishes_same : (b : Wish) → wishes_of (sight k) b ≡ wishes_of (sight c) b
  wishes_same b = wishes_still k c olds news sound f b (a.wishes b)

-- ONE THREAD CHANGES

abbrev pub only : ℕ → ℕ → Bool
only t u = u == t

-- a gift of it
gift_at : (t : ℕ) (x : Thing) → gifted (only t) x ≡ at_thread (λ v. one (is_some v.thread.gift)) t x
gift_at t (stands r p x) = refl
gift_at t _ = refl

-- a thread without a gift afterwards, beside things that are neither threads nor objects
module _ (k c : Cluster) (sound : IsSound k) (number : ℕ) (s : Server) (here : server_at k.servers number ≡ Some s) (y : ThreadState) (at : thread_in s.threads y.number ≡ Some y) (z : ThreadState) (named : z.number ≡ y.number) (free : z.gift ≡ None) (olds news : List Thing)
    (f : Follows k c (stands s.rest.number false y ∷ olds) (stands s.rest.number false z ∷ news)) (objects : (o : ObjNo) (w : Plain × Place → ℕ) → tot (λ v. told w (placed_in o v)) olds ≡ tot (λ v. told w (placed_in o v)) news) (threads : (t : ℕ) → tot (is_thread t) olds ≡ tot (is_thread t) news) (slots : (h : ShownThread → ℕ) (t : ℕ) → tot (at_thread (λ v. h (masked_of v)) t) olds ≡ tot (at_thread (λ v. h (masked_of v)) t) news)
    (gifts : tot (gifted (only y.number)) olds ≡ tot (gifted (only y.number)) news) where
  abbrev n : ℕ
  n = s.rest.number

  -- another thread isn't the one that steps
  apart : (t : ℕ) → only y.number t ≡ false → (y.number == t) ≡ false
  apart t e = number_flip y.number t ∙ e

  stays : (t : ℕ) → only y.number t ≡ false → Staying t (stands n false y ∷ olds) (stands n false z ∷ news)
  stays t e = record {
    thread = let same : one (z.number == t) ≡ one (y.number == t) = ap (λ i. one (i == t)) named in omega (arith, same, threads t);
    slots = λ h.
        let before : at_thread (λ v. h (masked_of v)) t (stands n false y) ≡ 0 = ap (λ b. if_so b (h (masked_of (record { server = n; packed = false; thread = y })))) (apart t e) in
        let after : at_thread (λ v. h (masked_of v)) t (stands n false z) ≡ 0 = ap (λ b. if_so b (h (masked_of (record { server = n; packed = false; thread = z })))) (ap (λ i. i == t) named ∙ apart t e) in
        omega (arith, before, after, slots h t);
    objects = λ o w. let same = objects o w in omega (arith, same);
  }

  bare_then : tot (gifted (only y.number)) (things_of c) ≡ 0
  bare_then =
      let g : ThreadState → ℕ = λ x. one (is_some x.gift) in
      let before : tot (gifted (only y.number)) (things_of k) ≡ g y =
      tot_same (gifted (only y.number)) (at_thread (λ x. g x.thread) y.number) (gift_at y.number) (things_of k) ∙ thread_told (λ x. g x.thread) y.number (things_of k) (sound.names.numbers_differ y.number) ∙ ap (told (λ x. g x.thread)) (thread_there k sound number s here y.number y at) in
      let mine : gifted (only y.number) (stands n false y) ≡ g y = ap (λ b. if_so b (g y)) (number_itself y.number) in
      let its : gifted (only y.number) (stands n false z) ≡ if_so (only y.number z.number) 0 = ap (λ o. if_so (only y.number z.number) (one (is_some o))) free in
      omega (arith, f.things (gifted (only y.number)) (gifted_seen (only y.number)), before, mine, its, none (only y.number z.number), gifts)
    where
      none : (b : Bool) → if_so b 0 ≡ 0
      none true = refl
      none false = refl

  -- it alone counts among those whose slots change
  pub one_changes : Others k c (stands n false y ∷ olds) (stands n false z ∷ news) (only y.number)
  one_changes = record { staying = stays; bare = bare_then }

-- NOTHING THAT IS ASKED CHANGES

-- nor do threads and mutexes
pub record Silently (k : Cluster) (olds news : List Thing) : Type 0 where
  pub aside : Aside olds news
  pub started : (s n : ℕ) → tot (started_at s n) olds ≡ tot (started_at s n) news
  pub made : (s n : ℕ) → tot (made_at s n) olds ≡ tot (made_at s n) news
  pub threads : (t : ℕ) → tot (is_thread t) olds ≡ tot (is_thread t) news
  pub running : (t : ℕ) (g : Running → ℕ) → tot (runs g t) olds ≡ tot (runs g t) news
  pub there : (m : MutexNo) → tot (there_in m) news ≤ tot (there_in m) olds
  pub holders : (m : MutexNo) (g : ℕ → ℕ) → tot (λ x. told g (holder_by (sight k) m x)) olds ≡ tot (λ x. told g (holder_by (sight k) m x)) news

-- then the cluster answers as it did
pub all_agree : (k c : Cluster) (olds news : List Thing) (sound : IsSound k) (f : Follows k c olds news) → ((before : HasWords (sight k)) → WordsStay (sight k) (sight c) before) → (mine : ℕ → Bool) → Others k c olds news mine → Silently k olds news
    → Agrees (answers_of (sight k)) (answers_of (sight c))
all_agree k c olds news sound f words mine others q =
    let started : (t : ℕ) → is_given_thread (sight k) t ≡ is_given_thread (sight c) t = started_still k c olds news sound f q.started in
    let running : (t : ℕ) → running_of (sight k) t ≡ running_of (sight c) t = (λ t. running_still k c olds news sound f q.threads t (q.running t)) in record {
      object = objects_same k c olds news sound f words q.aside;
      copy = copies_same k c olds news sound f words q.aside;
      served = served_same k c olds news sound f words q.aside;
      issued = issued_same k c olds news sound f words q.aside;
      started = started;
      running = running;
      ended = ended_by k c started (λ t. ap is_none (running t));
      wishes = wishes_same k c olds news sound f words q.aside;
      made = made_still k c olds news sound f q.made;
      there = λ m. there_less k c olds news sound f m (q.there m);
      holder = λ m. holder_still k c olds news sound f mine others m (q.holders m);
    }
