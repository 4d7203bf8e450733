-- What a cluster answers after a step that gave objects words and whose thread goes on without a gift: words and what is issued are others, and all else stays.
use Rattle.std.proofs.Common.{◌≡◌, ℕ, zero, suc, ◌≤◌, ◌==◌, ◌||◌, Bool, false, List, ◌∷◌, Option, Some, None, is_none, option_map, refl, sym, ap, ap₂, ◌∙◌, arith}
use Rattle.std.specs.Prelude.{unwrap_or}
use Rattle.law_entries_reads.specs.Below.law_entries_variables.Below.law_words_ends.Below.fr_base.Lists.{is_in}
use Rattle.law_entries_reads.specs.Below.law_entries_variables.Below.law_words_ends.Below.fr_base.declared.name.MutexNo.{MutexNo}
use Rattle.law_entries_reads.specs.Below.law_entries_variables.Below.law_words_ends.Below.fr_base.declared.name.ObjNo.{ObjNo}
use Rattle.law_entries_reads.specs.Below.law_entries_variables.Below.law_words_ends.Below.fr_base.declared.label.Plain.{Plain}
use Rattle.law_entries_reads.specs.Below.law_entries_variables.Below.law_words_ends.Below.thread_state.View.{ThreadState, is_over}
use Rattle.law_entries_reads.specs.Below.law_entries_variables.Below.law_words_ends.Below.server_model.Servers.{Server, Cluster, server_at}
use Rattle.law_entries_reads.specs.Below.law_entries_variables.Below.law_words_ends.Below.server_model.Work.{thread_in}
use Rattle.law_entries_writes.specs.Below.law_entries_variables.Below.coloured_heap.Heap.{Place, Copied, Wish, Running, Coloured}
use Rattle.law_entries_reads.specs.Below.law_entries_variables.Below.law_words_ends.Below.coherent_memory.Names.{tot, one, some}
use Rattle.law_entries_reads.specs.Below.law_entries_variables.Below.law_words_ends.Below.coherent_memory.Things.{Thing, stands, things_of}
use Rattle.law_entries_reads.specs.Below.law_entries_variables.Below.law_words_ends.Below.coherent_memory.Sight.{sight, word, issued}
use Rattle.law_entries_reads.specs.Below.law_entries_variables.Below.law_words_ends.Below.coherent_memory.Weights.{cells, is_thread}
use Rattle.law_entries_reads.specs.Below.law_entries_variables.Below.law_words_ends.Below.coherent_memory.Naming.{started_at, made_at}
use Rattle.law_entries_reads.specs.Below.law_entries_variables.Below.law_words_ends.Below.coherent_memory.OneHeap.{first_shown, is_given_thread}
use Rattle.law_entries_reads.specs.Below.law_entries_variables.Below.law_words_ends.Below.coherent_memory.Words.{HasWords}
use Rattle.law_entries_reads.specs.Below.law_entries_variables.Below.law_words_ends.Below.coherent_memory.Colours.{StandsColoured, living_of, running_of}
use Rattle.law_entries_reads.specs.Below.law_entries_variables.Below.law_words_ends.Below.coherent_memory.Coherent.{IsSound}
use Rattle.law_entries_writes.specs.Below.law_entries_variables.Below.law_heap_still.events.Shows.{ShownThread}
use Rattle.law_entries_writes.proofs.Below.law_entries_variables.Below.law_heap_still.events.Told.{told, ones, at_thread}
use Rattle.law_entries_writes.proofs.Below.law_entries_variables.deliveries.Answers.{Agrees, answers_of}
use Rattle.law_entries_writes.proofs.Below.law_entries_variables.deliveries.Shown.{placed_in, placings, same_placed, dropped_by, as_living, living_is, copy_in, served_in, wished_in, holder_by, runs, there_in, shown_after, none_first}
use Rattle.law_entries_writes.proofs.Below.law_entries_variables.deliveries.Live.{word_told, placed_cells, placed_seen, dropped_seen}
use Rattle.law_entries_writes.proofs.Below.law_entries_variables.deliveries.After.{Follows, copy_still, served_still, wishes_still, started_still, running_still, ended_by, made_still, there_less}
use Rattle.law_entries_writes.proofs.Below.law_entries_variables.still.Kept.{masked_of}
use Rattle.law_entries_writes.proofs.Below.law_entries_variables.still.Settled.{none_held}
use Rattle.law_entries_reads.proofs.Below.law_entries_variables.variables.Holders.{gifted, Others, holder_still}
use Rattle.law_entries_reads.proofs.Below.law_entries_variables.variables.Aside.{only, one_changes}
use Rattle.law_entries_reads.proofs.Below.law_entries_variables.variables.Quiets.{runs_on}
use Rattle.law_entries_writes.proofs.Below.law_entries_reads.asks.Recoloured.{NewWords, word_after, given_words, reworded_by, recoloured}
use Rattle.law_entries_writes.proofs.Below.law_entries_reads.asks.Agreeing.{Rewords}

-- things that the coloured heap sees alike but for words: no thread, request, copy or mutex comes or goes, and each object is where it was
pub record Bland (olds news : List Thing) : Type 0 where
  pub objects : (o : ObjNo) (g : Plain × Place → ℕ) → tot (λ x. told g (placed_in o x)) olds ≡ tot (λ x. told g (placed_in o x)) news
  pub drops : (o : ObjNo) → tot (dropped_by o) olds ≡ tot (dropped_by o) news
  pub copies : (r w : ℕ) (g : Copied → ℕ) → tot (λ x. told g (copy_in r w x)) olds ≡ tot (λ x. told g (copy_in r w x)) news
  pub served : (a : Copied) → tot (served_in a) olds ≡ tot (served_in a) news
  pub wishes : (a : Wish) → tot (wished_in a) olds ≡ tot (wished_in a) news
  pub started : (s n : ℕ) → tot (started_at s n) olds ≡ tot (started_at s n) news
  pub made : (s n : ℕ) → tot (made_at s n) olds ≡ tot (made_at s n) news
  pub threads : (t : ℕ) → tot (is_thread t) olds ≡ tot (is_thread t) news
  pub running : (t : ℕ) (g : Running → ℕ) → tot (runs g t) olds ≡ tot (runs g t) news
  pub there : (m : MutexNo) → tot (there_in m) olds ≡ tot (there_in m) news
  pub holders : (k : Cluster) (m : MutexNo) (g : ℕ → ℕ) → tot (λ x. told g (holder_by (sight k) m x)) olds ≡ tot (λ x. told g (holder_by (sight k) m x)) news
  pub slots : (h : ShownThread → ℕ) (t : ℕ) → tot (at_thread (λ v. h (masked_of v)) t) olds ≡ tot (at_thread (λ v. h (masked_of v)) t) news
  pub gifts : (mine : ℕ → Bool) → tot (gifted mine) olds ≡ tot (gifted mine) news

-- what is shown of an object is that of a cell
some_live : (k : Cluster) (o : ObjNo) (p : Plain × Place) → first_shown (placed_in o) (things_of k) ≡ Some p → 1 ≤ tot (cells o) (things_of k)
some_live k o p e = by (tot (λ x. told ones (placed_in o x)) (things_of k)) refl
  where
    by : (n : ℕ) → tot (λ x. told ones (placed_in o x)) (things_of k) ≡ n → 1 ≤ tot (cells o) (things_of k)
    by zero z = absurd (cc (sym e ∙ none_first (placed_in o) (things_of k) z))
    by (suc n) z = omega (arith, z, placed_cells o k)

module _ (k c : Cluster) (sound : IsSound k) (number : ℕ) (s : Server) (here : server_at k.servers number ≡ Some s) (c0 : Coloured) (is_coloured : StandsColoured k c0) (y : ThreadState) (at : thread_in s.threads y.number ≡ Some y) (live : is_over y.phase ≡ false) (bare : y.gift ≡ None)
    (z : ThreadState) (named : z.number ≡ y.number) (on : is_over z.phase ≡ false) (free : z.gift ≡ None) (olds news : List Thing) (f : Follows k c (stands s.rest.number false y ∷ olds) (stands s.rest.number false z ∷ news)) (q : Bland olds news)
    (l : NewWords) (words : Rewords k c l sound.words.have_words) where
  abbrev n : ℕ
  n = s.rest.number

  abbrev before : HasWords (sight k)
  before = sound.words.have_words

  abbrev gone : List Thing
  gone = stands n false y ∷ olds

  abbrev come : List Thing
  come = stands n false z ∷ news

  -- OBJECTS

  placed_same : (o : ObjNo) → first_shown (placed_in o) (things_of c) ≡ first_shown (placed_in o) (things_of k)
  placed_same o =
      shown_after same_placed placings (placed_in o) (things_of k) gone come (things_of c) (λ g. f.things (λ x. told g (placed_in o x)) (placed_seen o g)) (omega (arith, placed_cells o k, sound.one_home.home_of_each o)) (first_shown (placed_in o) (things_of k))
      (λ g. omega (arith, q.objects o g))

  condemned_same : (o : ObjNo) → tot (dropped_by o) (things_of c) ≡ tot (dropped_by o) (things_of k)
  condemned_same o = omega (arith, f.things (dropped_by o) (dropped_seen o), q.drops o)

  -- an object with its new word
  living_then : (o : ObjNo) → option_map (reworded_by l) (living_of (sight k) o) ≡ living_of (sight c) o
  living_then o =
      ap (option_map (reworded_by l)) (living_is (sight k) o) ∙ by (first_shown (placed_in o) (things_of k)) refl
      ∙ sym (living_is (sight c) o ∙ ap₂ (λ d p. option_map (as_living o (word (sight c) o) (some d)) p) (condemned_same o) (placed_same o))
    where
      words_so : (p : Plain × Place) → first_shown (placed_in o) (things_of k) ≡ Some p → word_after l o (unwrap_or (word (sight k) o) 0) ≡ unwrap_or (word (sight c) o) 0
      words_so p e =
          ap (λ w. word_after l o (unwrap_or w 0)) (word_told k before o (some_live k o p e)) ∙ sym (words.word o) ∙ ap (λ w. unwrap_or w 0) (sym (word_told c words.after o (some_live c o p (placed_same o ∙ e))))

      by : (p : Option (Plain × Place)) → first_shown (placed_in o) (things_of k) ≡ p → option_map (reworded_by l) (option_map (as_living o (word (sight k) o) (some (tot (dropped_by o) (things_of k)))) p) ≡ option_map (as_living o (word (sight c) o) (some (tot (dropped_by o) (things_of k)))) p
      by None e = refl
      by (Some p) e = ap (λ w. Some (as_living o (Some w) (some (tot (dropped_by o) (things_of k))) p)) (words_so p e)

  -- THREADS

  threads_same : (t : ℕ) → tot (is_thread t) gone ≡ tot (is_thread t) come
  threads_same t = let same : one (y.number == t) ≡ one (z.number == t) = ap (λ i. one (i == t)) (sym named) in omega (arith, same, q.threads t)

  started : (t : ℕ) → is_given_thread (sight k) t ≡ is_given_thread (sight c) t
  started = started_still k c gone come sound f (λ r w. omega (arith, q.started r w))

  running : (t : ℕ) → running_of (sight k) t ≡ running_of (sight c) t
  running t = running_still k c gone come sound f threads_same t (λ g. let same = runs_on k sound number s here c0 is_coloured y at live z named on t g in omega (arith, same, q.running t g))

  -- HOLDERS

  others : Others k c gone come (only y.number)
  others = one_changes k c sound number s here y at z named free olds news f q.objects q.threads q.slots (q.gifts (only y.number))

  held : (m : MutexNo) (g : ℕ → ℕ) → tot (λ x. told g (holder_by (sight k) m x)) gone ≡ tot (λ x. told g (holder_by (sight k) m x)) come
  held m g = omega (arith, q.holders k m g, none_held k sound number s here c0 is_coloured y.number y at live y bare m g, none_held k sound number s here c0 is_coloured y.number y at live z free m g)

  -- ALL ANSWERS

  pub ended_agrees : ((v : ℕ) → is_in v (given_words l) || issued (sight k) v ≡ issued (sight c) v) → Agrees (recoloured l (answers_of (sight k))) (answers_of (sight c))
  ended_agrees issues = record {
    object = living_then;
    copy = λ r w. copy_still k c gone come sound f r w (λ g. omega (arith, q.copies r w g));
    served = λ b. served_still k c gone come sound f b (omega (arith, q.served b));
    issued = issues;
    started = started;
    running = running;
    ended = ended_by k c started (λ t. ap is_none (running t));
    wishes = λ b. wishes_still k c gone come sound f b (omega (arith, q.wishes b));
    made = made_still k c gone come sound f (λ r w. omega (arith, q.made r w));
    there = λ m e. there_less k c gone come sound f m (omega (arith, q.there m)) e;
    holder = λ m. holder_still k c gone come sound f (only y.number) others m (held m);
  }
