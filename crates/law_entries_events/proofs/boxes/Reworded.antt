-- What a cluster answers after a step of a thread with which objects got words: these, which are issued, and all else is as it was, where objects are at the servers at which they were.
use Rattle.std.proofs.Common.{◌≡◌, ℕ, zero, suc, ◌≤◌, ◌==◌, ◌||◌, false, List, [], ◌∷◌, Option, Some, None, is_none, option_map, refl, sym, ap, ap₂, ◌∙◌, arith}
use Rattle.std.specs.Prelude.{unwrap_or}
use Rattle.law_entries_writes.specs.Below.law_entries_reads.Below.law_words_borrows.Below.fr_base.Lists.{is_in}
use Rattle.law_entries_writes.specs.Below.law_entries_reads.Below.law_words_borrows.Below.fr_base.declared.name.ObjNo.{ObjNo}
use Rattle.law_entries_writes.specs.Below.law_entries_reads.Below.law_words_borrows.Below.fr_base.declared.label.Plain.{Plain}
use Rattle.law_entries_writes.specs.Below.law_entries_reads.Below.law_words_borrows.Below.heap_partition.declared.value.Cell.{Cell}
use Rattle.law_entries_writes.specs.Below.law_entries_reads.Below.law_words_borrows.Below.thread_state.View.{ThreadState, is_over}
use Rattle.law_entries_writes.specs.Below.law_entries_reads.Below.law_words_borrows.Below.server_model.Servers.{Server, Cluster, server_at}
use Rattle.law_entries_writes.specs.Below.law_entries_reads.Below.law_words_borrows.Below.server_model.Work.{thread_in}
use Rattle.law_entries_writes.specs.Below.law_entries_variables.Below.coloured_heap.Heap.{Place, Coloured}
use Rattle.law_entries_writes.specs.Below.law_entries_reads.Below.law_words_borrows.Below.coherent_memory.Names.{tot, one, some}
use Rattle.law_entries_writes.specs.Below.law_entries_reads.Below.law_words_borrows.Below.coherent_memory.Things.{Thing, lies, vacant, retired, stands, things_of}
use Rattle.law_entries_writes.specs.Below.law_entries_reads.Below.law_words_borrows.Below.coherent_memory.Sight.{sight, word, issued}
use Rattle.law_entries_writes.specs.Below.law_entries_reads.Below.law_words_borrows.Below.coherent_memory.Weights.{cells, is_thread}
use Rattle.law_entries_writes.specs.Below.law_entries_reads.Below.law_words_borrows.Below.coherent_memory.Naming.{started_at, made_at}
use Rattle.law_entries_writes.specs.Below.law_entries_reads.Below.law_words_borrows.Below.coherent_memory.OneHeap.{first_shown, is_given_thread}
use Rattle.law_entries_writes.specs.Below.law_entries_reads.Below.law_words_borrows.Below.coherent_memory.Words.{HasWords}
use Rattle.law_entries_writes.specs.Below.law_entries_reads.Below.law_words_borrows.Below.coherent_memory.Colours.{StandsColoured, living_of, running_of}
use Rattle.law_entries_writes.specs.Below.law_entries_reads.Below.law_words_borrows.Below.coherent_memory.Coherent.{IsSound}
use Rattle.law_entries_writes.proofs.Below.law_entries_variables.Below.law_heap_still.events.Told.{told, ones, at_thread}
use Rattle.law_entries_writes.proofs.Below.law_entries_variables.deliveries.Answers.{answers_of, Agrees}
use Rattle.law_entries_writes.proofs.Below.law_entries_variables.deliveries.Shown.{placed_in, placings, same_placed, dropped_by, as_living, living_is, shown_still, none_first, copy_in, served_in, wished_in, runs, there_in, holder_by}
use Rattle.law_entries_writes.proofs.Below.law_entries_variables.deliveries.Live.{word_told, placed_cells, placed_seen, dropped_seen}
use Rattle.law_entries_writes.proofs.Below.law_entries_variables.deliveries.After.{Follows, copy_still, served_still, started_still, running_still, ended_by, wishes_still, made_still, there_still}
use Rattle.law_entries_writes.proofs.Below.law_entries_variables.still.Kept.{masked_of}
use Rattle.law_entries_writes.proofs.Below.law_entries_variables.still.Settled.{none_held}
use Rattle.law_entries_writes.proofs.Below.law_entries_reads.asks.Recoloured.{NewWords, word_after, given_words, reworded_by, recoloured}
use Rattle.law_entries_writes.proofs.Below.law_entries_reads.asks.Agreeing.{Rewords}
use Rattle.law_entries_writes.proofs.Below.law_entries_variables.variables.Holders.{gifted, holder_still}
use Rattle.law_entries_writes.proofs.Below.law_entries_variables.variables.Quiets.{runs_on}
use Rattle.law_entries_writes.proofs.Below.law_entries_variables.variables.Aside.{only, one_changes}

-- beside the thread: what sees no address sees nothing of it, and an object that lies elsewhere then lies at the same server
pub record Moved (olds news : List Thing) : Type 0 where
  pub even : (f : Thing → ℕ) → ((r a m : ℕ) → f (vacant r a m) ≡ 0) → ((r a : ℕ) → f (retired r a) ≡ 0) → ((r a : ℕ) (c : Cell) → f (lies r a c) ≡ 0) → tot f olds ≡ tot f news
  pub objects : (o : ObjNo) (g : Plain × Place → ℕ) → tot (λ x. told g (placed_in o x)) olds ≡ tot (λ x. told g (placed_in o x)) news

-- nothing comes and goes
pub none_moves : Moved [] []
none_moves = record { even = λ f v r l. refl; objects = λ o g. refl }

-- what is shown lives
shown_lives : (k : Cluster) (o : ObjNo) (p : Plain × Place) → first_shown (placed_in o) (things_of k) ≡ Some p → 1 ≤ tot (cells o) (things_of k)
shown_lives k o p e = by (tot (λ x. told ones (placed_in o x)) (things_of k)) refl
  where
    by : (n : ℕ) → tot (λ x. told ones (placed_in o x)) (things_of k) ≡ n → 1 ≤ tot (cells o) (things_of k)
    by zero z = absurd (cc (sym e ∙ none_first (placed_in o) (things_of k) z))
    by (suc n) z = omega (arith, z, placed_cells o k)

module _ (k c : Cluster) (sound : IsSound k) (number : ℕ) (s : Server) (here : server_at k.servers number ≡ Some s) (y : ThreadState) (at : thread_in s.threads y.number ≡ Some y) (live : is_over y.phase ≡ false) (bare : y.gift ≡ None) (c0 : Coloured) (is_coloured : StandsColoured k c0)
    (z : ThreadState) (named : z.number ≡ y.number) (free : z.gift ≡ None) (on : is_over z.phase ≡ false) (olds news : List Thing) (moved : Moved olds news) (f : Follows k c (stands s.rest.number false y ∷ olds) (stands s.rest.number false z ∷ news)) (l : NewWords) (words : Rewords k c l sound.words.have_words) where
  abbrev n : ℕ
  n = s.rest.number

  abbrev gone : List Thing
  gone = stands n false y ∷ olds

  abbrev come : List Thing
  come = stands n false z ∷ news

  abbrev before : HasWords (sight k)
  before = sound.words.have_words

  even : (g : Thing → ℕ) → ((r a m : ℕ) → g (vacant r a m) ≡ 0) → ((r a : ℕ) → g (retired r a) ≡ 0) → ((r a : ℕ) (d : Cell) → g (lies r a d) ≡ 0) → g (stands n false y) ≡ g (stands n false z) → tot g gone ≡ tot g come
  even g v r i same = omega (arith, moved.even g v r i, same)

  -- OBJECTS

  placed_same : (o : ObjNo) → first_shown (placed_in o) (things_of c) ≡ first_shown (placed_in o) (things_of k)
  placed_same o =
      shown_still same_placed placings (placed_in o) (things_of k) gone come (things_of c) (λ g. f.things (λ x. told g (placed_in o x)) (placed_seen o g)) (omega (arith, placed_cells o k, sound.one_home.home_of_each o)) (λ g. omega (arith, moved.objects o g))

  dropped_same : (o : ObjNo) → tot (dropped_by o) (things_of c) ≡ tot (dropped_by o) (things_of k)
  dropped_same o = omega (arith, f.things (dropped_by o) (dropped_seen o), even (dropped_by o) (λ r a m. refl) (λ r a. refl) (λ r a d. refl) refl)

  -- an object with its new word
  living_then : (o : ObjNo) → option_map (reworded_by l) (living_of (sight k) o) ≡ living_of (sight c) o
  living_then o =
      ap (option_map (reworded_by l)) (living_is (sight k) o) ∙ by (first_shown (placed_in o) (things_of k)) refl
      ∙ sym (living_is (sight c) o ∙ ap₂ (λ d p. option_map (as_living o (word (sight c) o) (some d)) p) (dropped_same o) (placed_same o))
    where
      words_so : (p : Plain × Place) → first_shown (placed_in o) (things_of k) ≡ Some p → word_after l o (unwrap_or (word (sight k) o) 0) ≡ unwrap_or (word (sight c) o) 0
      words_so p e =
          ap (λ w. word_after l o (unwrap_or w 0)) (word_told k before o (shown_lives k o p e)) ∙ sym (words.word o) ∙ ap (λ w. unwrap_or w 0) (sym (word_told c words.after o (shown_lives c o p (placed_same o ∙ e))))

      by : (p : Option (Plain × Place)) → first_shown (placed_in o) (things_of k) ≡ p → option_map (reworded_by l) (option_map (as_living o (word (sight k) o) (some (tot (dropped_by o) (things_of k)))) p) ≡ option_map (as_living o (word (sight c) o) (some (tot (dropped_by o) (things_of k)))) p
      by None e = refl
      by (Some p) e = ap (λ w. Some (as_living o (Some w) (some (tot (dropped_by o) (things_of k))) p)) (words_so p e)

  -- ALL ANSWERS

  started : (u : ℕ) → is_given_thread (sight k) u ≡ is_given_thread (sight c) u
  started = started_still k c gone come sound f (λ r j. even (started_at r j) (λ i a m. refl) (λ i a. refl) (λ i a d. refl) refl)

  running : (u : ℕ) → running_of (sight k) u ≡ running_of (sight c) u
  running u =
      running_still k c gone come sound f (λ q. even (is_thread q) (λ i a m. refl) (λ i a. refl) (λ i a d. refl) (ap (λ j. one (j == q)) (sym named))) u
      (λ g. even (runs g u) (λ i a m. refl) (λ i a. refl) (λ i a d. refl) (runs_on k sound number s here c0 is_coloured y at live z named on u g))

  pub agrees : ((v : ℕ) → is_in v (given_words l) || issued (sight k) v ≡ issued (sight c) v) → Agrees (recoloured l (answers_of (sight k))) (answers_of (sight c))
  agrees issues = record {
    object = living_then;
    copy = λ r w. copy_still k c gone come sound f r w (λ g. even (λ q. told g (copy_in r w q)) (λ i a m. refl) (λ i a. refl) (λ i a d. refl) refl);
    served = λ b. served_still k c gone come sound f b (even (served_in b) (λ i a m. refl) (λ i a. refl) (λ i a d. refl) refl);
    issued = issues;
    started = started;
    running = running;
    ended = ended_by k c started (λ u. ap is_none (running u));
    wishes = λ b. wishes_still k c gone come sound f b (even (wished_in b) (λ i a m. refl) (λ i a. refl) (λ i a d. refl) refl);
    made = made_still k c gone come sound f (λ r j. even (made_at r j) (λ i a m. refl) (λ i a. refl) (λ i a d. refl) refl);
    there = λ m e. there_still k c gone come sound f m (even (there_in m) (λ i a j. refl) (λ i a. refl) (λ i a d. refl) refl) ∙ e;
    holder = λ m.
        holder_still k c gone come sound f (only y.number)
        (one_changes k c sound number s here y at z named free olds news f moved.objects (λ t. moved.even (is_thread t) (λ i a j. refl) (λ i a. refl) (λ i a d. refl))
        (λ h t. moved.even (at_thread (λ j. h (masked_of j)) t) (λ i a j. refl) (λ i a. refl) (λ i a d. refl)) (moved.even (gifted (only y.number)) (λ i a j. refl) (λ i a. refl) (λ i a d. refl))) m
        (λ g. even (λ q. told g (holder_by (sight k) m q)) (λ i a j. refl) (λ i a. refl) (λ i a d. refl) (none_held k sound number s here c0 is_coloured y.number y at live y bare m g ∙ sym (none_held k sound number s here c0 is_coloured y.number y at live z free m g)));
  }
