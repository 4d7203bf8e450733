-- What a cluster answers after a step that is done, which gave objects words, and let one go, and gave one another value: these alone are others.
use Rattle.std.proofs.Common.{◌≡◌, ℕ, zero, suc, ◌+◌, ◌≤◌, ◌==◌, ◌||◌, not, Bool, true, false, if◌then◌else◌, List, [], ◌∷◌, ◌++◌, Option, Some, None, is_some, is_none, option_map, refl, sym, ap, ap₂, subst, ◌∙◌, arith}
use Rattle.std.specs.Prelude.{unwrap_or}
use Rattle.law_entries_reads.specs.Below.law_entries_variables.Below.law_words_ends.Below.fr_base.Lists.{is_in}
use Rattle.law_entries_reads.specs.Below.law_entries_variables.Below.law_words_ends.Below.fr_base.declared.name.MutexNo.{MutexNo}
use Rattle.law_entries_reads.specs.Below.law_entries_variables.Below.law_words_ends.Below.fr_base.declared.name.ObjNo.{ObjNo}
use Rattle.law_entries_reads.specs.Below.law_entries_variables.Below.law_words_ends.Below.fr_base.declared.label.Plain.{Plain}
use Rattle.law_entries_reads.specs.Below.law_entries_variables.Below.law_words_ends.Below.fr_base.declared.release.Released.{Released}
use Rattle.law_entries_reads.specs.Below.law_entries_variables.Below.law_words_ends.Below.heap_partition.Plain.{plain_of}
use Rattle.law_entries_reads.specs.Below.law_entries_variables.Below.law_words_ends.Below.heap_partition.declared.value.Cell.{Cell}
use Rattle.law_entries_reads.specs.Below.law_entries_variables.Below.law_words_ends.Below.heap_partition.declared.value.Owned.{Owned}
use Rattle.law_entries_reads.specs.Below.law_entries_variables.Below.law_words_ends.Below.thread_state.View.{ThreadState, is_over}
use Rattle.law_entries_reads.specs.Below.law_entries_variables.Below.law_words_ends.Below.server_msgs.declared.message.Message.TheVariants as message
use Rattle.law_entries_reads.specs.Below.law_entries_variables.Below.law_words_ends.Below.server_model.Servers.{Server, Cluster, server_at}
use Rattle.law_entries_reads.specs.Below.law_entries_variables.Below.law_words_ends.Below.server_model.Work.{thread_in}
use Rattle.law_entries_writes.specs.Below.law_entries_variables.Below.coloured_heap.Heap.{Place, Lies, Living, Copied, Wish, Running}
use Rattle.law_entries_writes.proofs.Below.law_entries_variables.Below.coloured_heap.ShownNames.{number_flip, object_flip}
use Rattle.law_entries_reads.specs.Below.law_entries_variables.Below.law_words_ends.Below.coherent_memory.Names.{tot, one, some, if_so, same_object}
use Rattle.law_entries_reads.specs.Below.law_entries_variables.Below.law_words_ends.Below.coherent_memory.Things.{Thing, lies, sent, stands, things_of}
use Rattle.law_entries_reads.specs.Below.law_entries_variables.Below.law_words_ends.Below.coherent_memory.Follow.{Standing}
use Rattle.law_entries_reads.specs.Below.law_entries_variables.Below.law_words_ends.Below.coherent_memory.Sight.{Sight, sight, word, issued}
use Rattle.law_entries_reads.specs.Below.law_entries_variables.Below.law_words_ends.Below.coherent_memory.Naming.{started_at, made_at}
use Rattle.law_entries_reads.specs.Below.law_entries_variables.Below.law_words_ends.Below.coherent_memory.Requests.{is_mutex, locked_mutex}
use Rattle.law_entries_reads.specs.Below.law_entries_variables.Below.law_words_ends.Below.coherent_memory.Walking.{instr_of}
use Rattle.law_entries_reads.specs.Below.law_entries_variables.Below.law_words_ends.Below.coherent_memory.Weights.{cells, is_thread}
use Rattle.law_entries_reads.specs.Below.law_entries_variables.Below.law_words_ends.Below.coherent_memory.Words.{HasWords}
use Rattle.law_entries_reads.specs.Below.law_entries_variables.Below.law_words_ends.Below.coherent_memory.OneHeap.{first_shown, is_given_thread}
use Rattle.law_entries_reads.specs.Below.law_entries_variables.Below.law_words_ends.Below.coherent_memory.Colours.{living_of, running_of}
use Rattle.law_entries_reads.specs.Below.law_entries_variables.Below.law_words_ends.Below.coherent_memory.Coherent.{IsSound}
use Rattle.law_entries_reads.proofs.Below.law_entries_variables.Below.law_words_ends.Below.coherent_memory.Words.{named as object_named}
use Rattle.law_entries_reads.proofs.Below.law_entries_variables.Below.law_words_ends.Below.law_counts_sums.Trades.{tot-append}
use Rattle.law_entries_reads.proofs.Below.law_entries_variables.Below.law_words_ends.Below.law_counts_sums.ThreadThere.{thread_there}
use Rattle.law_entries_writes.specs.Below.law_entries_variables.Below.law_heap_still.events.Shows.{ShownThread}
use Rattle.law_entries_writes.proofs.Below.law_entries_variables.Below.law_heap_still.events.Alike.{LocksSee}
use Rattle.law_entries_writes.proofs.Below.law_entries_variables.Below.law_heap_still.events.Told.{told, ones, tot_same, at_thread, thread_told}
use Rattle.law_entries_writes.proofs.Below.law_entries_variables.deliveries.Answers.{answers_of, Agrees}
use Rattle.law_entries_writes.proofs.Below.law_entries_variables.deliveries.Shown.{if_some, placed_in, placings, same_placed, dropped_by, as_living, living_is, copy_in, served_in, wished_in, holder_by, runs, there_in, shown_after, none_first}
use Rattle.law_entries_writes.proofs.Below.law_entries_variables.deliveries.Live.{word_told, placed_cells, placed_seen, dropped_seen}
use Rattle.law_entries_writes.proofs.Below.law_entries_variables.deliveries.After.{Follows, copy_still, served_still, wishes_still, started_still, running_still, ended_by, made_still, there_less}
use Rattle.law_entries_writes.proofs.Below.law_entries_variables.still.Kept.{masked_of, slots_seen}
use Rattle.law_entries_reads.proofs.Below.law_entries_variables.variables.Holders.{gifted}
use Rattle.law_entries_reads.proofs.Below.law_entries_variables.variables.Aside.{only}
use Rattle.law_entries_writes.proofs.Below.law_entries_reads.asks.Recoloured.{NewWords, word_after, given_words, reworded_by, recoloured}
use Rattle.law_entries_writes.proofs.Below.law_entries_reads.asks.Agreeing.{Rewords}
use Rattle.law_entries_writes.proofs.walks.Weights.{Blind, placed_blind, dropped_blind, copy_blind, served_blind, wished_blind, there_blind, started_blind, made_blind, runs_blind, thread_blind, holder_blind}
use Rattle.law_entries_writes.proofs.stores.Storing.{Store, valued, storing, leaving, dropping}
use Rattle.law_entries_writes.proofs.stores.Holding.{Beside, holder_still}

-- WHAT GOES AND COMES

-- of two states of a server's memory: all that is seen is the same, or one cell has another value
pub data Swap (k : Cluster) (n : ℕ) (gone come : List Thing) : Store → Type 0 where
  swaps_none : ((g : Thing → ℕ) → Blind g → tot g come ≡ tot g gone) → Swap k n gone come None
  swaps_cell : (a : ℕ) (c : Cell) (v : Owned) → first_shown (placed_in c.object) (things_of k) ≡ Some (plain_of c.value, Lies n) → ((g : Thing → ℕ) → Blind g → tot g come + g (lies n a c) ≡ tot g gone + g (lies n a (record c { value = v }))) → Swap k n gone come (Some (c.object, plain_of v))

-- for what sees no cells
pub even : (k : Cluster) (n : ℕ) (gone come : List Thing) (st : Store) → Swap k n gone come st → (g : Thing → ℕ) → Blind g → ((a : ℕ) (c : Cell) → g (lies n a c) ≡ 0) → tot g come ≡ tot g gone
even k n gone come _ (swaps_none e) g b none = e g b
even k n gone come _ (swaps_cell a c v was e) g b none = omega (arith, e g b, none a c, none a (record c { value = v }))

-- how often an object's pointer is given up
abbrev pub given_by : Option ObjNo → ObjNo → ℕ
given_by None o = 0
given_by (Some p) o = one (same_object p o)

-- a message that no answer sees but who was given up
pub record Told (more : List Thing) (d : Option ObjNo) : Type 0 where
  pub objects : (o : ObjNo) (g : Plain × Place → ℕ) → tot (λ x. told g (placed_in o x)) more ≡ 0
  pub drops : (o : ObjNo) → tot (dropped_by o) more ≡ given_by d o
  pub copies : (r w : ℕ) (g : Copied → ℕ) → tot (λ x. told g (copy_in r w x)) more ≡ 0
  pub served : (a : Copied) → tot (served_in a) more ≡ 0
  pub wishes : (a : Wish) → tot (wished_in a) more ≡ 0
  pub started : (s n : ℕ) → tot (started_at s n) more ≡ 0
  pub made : (s n : ℕ) → tot (made_at s n) more ≡ 0
  pub threads : (t : ℕ) → tot (is_thread t) more ≡ 0
  pub running : (t : ℕ) (g : Running → ℕ) → tot (runs g t) more ≡ 0
  pub there : (m : MutexNo) → tot (there_in m) more ≡ 0
  pub holders : (s : Sight) (m : MutexNo) (g : ℕ → ℕ) → tot (λ x. told g (holder_by s m x)) more ≡ 0
  pub slots : (h : ShownThread → ℕ) (t : ℕ) → tot (at_thread (λ v. h (masked_of v)) t) more ≡ 0

pub told_none : Told [] None
told_none = record { objects = λ o g. refl; drops = λ o. refl; copies = λ r w g. refl; served = λ a. refl; wishes = λ a. refl; started = λ s n. refl; made = λ s n. refl; threads = λ t. refl; running = λ t g. refl; there = λ m. refl; holders = λ s m g. refl; slots = λ h t. refl }

pub told_release : (r : ℕ) (x : Released) → Told (sent r (message.Release x) ∷ []) None
told_release r x = record { objects = λ o g. refl; drops = λ o. refl; copies = λ i w g. refl; served = λ a. refl; wishes = λ a. refl; started = λ s n. refl; made = λ s n. refl; threads = λ t. refl; running = λ t g. refl; there = λ m. refl; holders = λ s m g. refl; slots = λ h t. refl }

pub told_drop : (r w : ℕ) (p : ObjNo) → Told (sent r (message.Drop w p) ∷ []) (Some p)
told_drop r w p = record { objects = λ o g. refl; drops = λ o. omega arith; copies = λ i v g. refl; served = λ a. refl; wishes = λ a. refl; started = λ s n. refl; made = λ s n. refl; threads = λ t. refl; running = λ t g. refl; there = λ m. refl; holders = λ s m g. refl; slots = λ h t. refl }

-- a weight of slots sees no cells
slots_blind : (h : ShownThread → ℕ) (t : ℕ) → Blind (at_thread (λ y. h (masked_of y)) t)
slots_blind h t = record { seen = slots_seen h t; lying = λ r a b c d e f. refl; free = λ r a m. refl; left = λ r a. refl }

-- OBJECTS

-- where an object is and what it has, where one has another value
abbrev replaced : Store → ObjNo → Plain × Place → Plain × Place
replaced None o p = p
replaced (Some s) o p = if same_object s.0 o then (s.1, p.1) else p

some_more : (n : ℕ) → some (n + 1) ≡ true
some_more n = let e : n + 1 ≡ suc n = omega arith in ap some e

some_live : (k : Cluster) (o : ObjNo) (p : Plain × Place) → first_shown (placed_in o) (things_of k) ≡ Some p → 1 ≤ tot (cells o) (things_of k)
some_live k o p e = by (tot (λ x. told ones (placed_in o x)) (things_of k)) refl
  where
    by : (n : ℕ) → tot (λ x. told ones (placed_in o x)) (things_of k) ≡ n → 1 ≤ tot (cells o) (things_of k)
    by zero z = absurd (cc (sym e ∙ none_first (placed_in o) (things_of k) z))
    by (suc n) z = omega (arith, z, placed_cells o k)

-- without its gift a thread holds nothing by it
bare_holds : (s : Sight) (m : MutexNo) (n : ℕ) (z : ThreadState) → z.gift ≡ None → (g : ℕ → ℕ) → told g (holder_by s m (stands n false z)) ≡ 0
bare_holds s m n z e g = ap (λ o. told g (if_some (some (if_so (is_some o) (one (is_mutex m (locked_mutex s x (instr_of s x)))))) z.number)) e
  where
    x : Standing
    x = record { server = n; packed = false; thread = z }

-- how an object changes
module _ (o : ObjNo) (w : Option ℕ) (v : ℕ) (d : ℕ) (p : Plain × Place) where
  abbrev now : ℕ → Plain × Place → Living
  now i q = as_living o (Some v) (some i) q

  left_so : (l : Option ObjNo) → leaving l (now d p) ≡ now (d + given_by l o) p
  left_so None = ap (λ i. now i p) (omega arith)
  left_so (Some r) = by (same_object o r) refl
    where
      by : (b : Bool) → same_object o r ≡ b → (if same_object o r then record (now d p) { is_condemned = true } else now d p) ≡ now (d + one (same_object r o)) p
      by true e = ap (λ b. if b then record (now d p) { is_condemned = true } else now d p) e ∙ ap (λ b. as_living o (Some v) b p) (sym (some_more d)) ∙ ap (λ b. now (d + one b) p) (sym (object_flip r o ∙ e))
      by false e = ap (λ b. if b then record (now d p) { is_condemned = true } else now d p) e ∙ ap (λ i. now i p) (omega arith) ∙ ap (λ b. now (d + one b) p) (sym (object_flip r o ∙ e))

  valued_so : (i : ℕ) (s : Store) → valued s (now i p) ≡ now i (replaced s o p)
  valued_so i None = refl
  valued_so i (Some s) = by (same_object o s.0) refl
    where
      by : (b : Bool) → same_object o s.0 ≡ b → (if same_object o s.0 then record (now i p) { value = s.1 } else now i p) ≡ now i (if same_object s.0 o then (s.1, p.1) else p)
      by true e = ap (λ b. if b then record (now i p) { value = s.1 } else now i p) e ∙ ap (λ b. now i (if b then (s.1, p.1) else p)) (sym (object_flip s.0 o ∙ e))
      by false e = ap (λ b. if b then record (now i p) { value = s.1 } else now i p) e ∙ ap (λ b. now i (if b then (s.1, p.1) else p)) (sym (object_flip s.0 o ∙ e))

-- THE CLUSTER

module _ (k c : Cluster) (sound : IsSound k) (number : ℕ) (s : Server) (here : server_at k.servers number ≡ Some s) (y : ThreadState) (at : thread_in s.threads y.number ≡ Some y) (bare : y.gift ≡ None) (live : is_over y.phase ≡ false)
    (z : ThreadState) (named : z.number ≡ y.number) (free : z.gift ≡ None) (on : is_over z.phase ≡ false) (gone come more : List Thing) (f : Follows k c (stands s.rest.number false y ∷ gone) (stands s.rest.number false z ∷ (come ++ more)))
    (st : Store) (swap : Swap k s.rest.number gone come st) (d : Option ObjNo) (told_so : Told more d) (l : NewWords) (words : Rewords k c l sound.words.have_words)
    (spared : ObjNo → Bool) (paths : LocksSee spared k) where
  abbrev n : ℕ
  n = s.rest.number

  abbrev olds : List Thing
  olds = stands n false y ∷ gone

  abbrev news : List Thing
  news = stands n false z ∷ (come ++ more)

  abbrev before : HasWords (sight k)
  before = sound.words.have_words

  -- what sees no cells sees the same
  same : (g : Thing → ℕ) → Blind g → ((a : ℕ) (b : Cell) → g (lies n a b) ≡ 0) → g (stands n false y) ≡ g (stands n false z) → tot g more ≡ 0 → tot g olds ≡ tot g news
  same g b none thread quiet = omega (arith, even k n gone come st swap g b none, thread, quiet, tot-append g come more)

  -- WHERE OBJECTS ARE

  placed_now : (o : ObjNo) → first_shown (placed_in o) (things_of c) ≡ option_map (replaced st o) (first_shown (placed_in o) (things_of k))
  placed_now o =
      shown_after same_placed placings (placed_in o) (things_of k) olds news (things_of c) (λ g. f.things (λ x. told g (placed_in o x)) (placed_seen o g)) (omega (arith, placed_cells o k, sound.one_home.home_of_each o)) (option_map (replaced st o) (first_shown (placed_in o) (things_of k)))
      (λ g. by g st swap)
    where
      kept : (p : Option (Plain × Place)) → option_map (replaced None o) p ≡ p
      kept None = refl
      kept (Some p) = refl

      by : (g : Plain × Place → ℕ) (st : Store) → Swap k n gone come st → told g (option_map (replaced st o) (first_shown (placed_in o) (things_of k))) + tot (λ x. told g (placed_in o x)) olds ≡ told g (first_shown (placed_in o) (things_of k)) + tot (λ x. told g (placed_in o x)) news
      by g _ (swaps_none e) =
          let w : Thing → ℕ = λ x. told g (placed_in o x) in
          omega (arith, ap (told g) (kept (first_shown (placed_in o) (things_of k))), e w (placed_blind o g), told_so.objects o g, tot-append w come more)
      by g _ (swaps_cell a cell v was e) = two (same_object cell.object o) refl
        where
          w : Thing → ℕ
          w x = told g (placed_in o x)

          sums : tot w news + w (lies n a cell) ≡ tot w olds + w (lies n a (record cell { value = v }))
          sums = omega (arith, e w (placed_blind o g), told_so.objects o g, tot-append w come more)

          two : (b : Bool) → same_object cell.object o ≡ b → told g (option_map (replaced (Some (cell.object, plain_of v)) o) (first_shown (placed_in o) (things_of k))) + tot w olds ≡ told g (first_shown (placed_in o) (things_of k)) + tot w news
          two false q =
              let none : w (lies n a cell) ≡ 0 = ap (λ b. told g (if_some b (plain_of cell.value, Lies n))) q in
              let none2 : w (lies n a (record cell { value = v })) ≡ 0 = ap (λ b. told g (if_some b (plain_of v, Lies n))) q in
              let is : told g (option_map (replaced (Some (cell.object, plain_of v)) o) (first_shown (placed_in o) (things_of k))) ≡ told g (first_shown (placed_in o) (things_of k)) = unchanged (first_shown (placed_in o) (things_of k)) in
              omega (arith, sums, none, none2, is)
            where
              unchanged : (p : Option (Plain × Place)) → told g (option_map (replaced (Some (cell.object, plain_of v)) o) p) ≡ told g p
              unchanged None = refl
              unchanged (Some p) = ap (λ b. g (if b then (plain_of v, p.1) else p)) q
          two true q =
              let its : w (lies n a cell) ≡ g (plain_of cell.value, Lies n) = ap (λ b. told g (if_some b (plain_of cell.value, Lies n))) q in
              let new : w (lies n a (record cell { value = v })) ≡ g (plain_of v, Lies n) = ap (λ b. told g (if_some b (plain_of v, Lies n))) q in
              let there : first_shown (placed_in o) (things_of k) ≡ Some (plain_of cell.value, Lies n) = subst (λ i. first_shown (placed_in i) (things_of k) ≡ Some (plain_of cell.value, Lies n)) (object_named cell.object o q) was in
              let now : told g (option_map (replaced (Some (cell.object, plain_of v)) o) (first_shown (placed_in o) (things_of k))) ≡ g (plain_of v, Lies n) =
              ap (λ p. told g (option_map (replaced (Some (cell.object, plain_of v)) o) p)) there ∙ ap (λ b. g (if b then (plain_of v, Lies n) else (plain_of cell.value, Lies n))) q in
              omega (arith, sums, its, new, now, ap (told g) there)

  -- THE WORDS

  words_so : (o : ObjNo) (p q : Plain × Place) → first_shown (placed_in o) (things_of k) ≡ Some p → first_shown (placed_in o) (things_of c) ≡ Some q → word (sight c) o ≡ Some (word_after l o (unwrap_or (word (sight k) o) 0))
  words_so o p q e e2 = word_told c words.after o (some_live c o q e2) ∙ ap (λ v. Some v) (words.word o ∙ ap (λ v. word_after l o (unwrap_or v 0)) (sym (word_told k before o (some_live k o p e))))

  drops_now : (o : ObjNo) → tot (dropped_by o) (things_of c) ≡ tot (dropped_by o) (things_of k) + given_by d o
  drops_now o = omega (arith, f.things (dropped_by o) (dropped_seen o), even k n gone come st swap (dropped_by o) (dropped_blind o) (λ a b. refl), told_so.drops o, tot-append (dropped_by o) come more)

  living_now : (o : ObjNo) → option_map (valued st) (option_map (leaving d) (option_map (reworded_by l) (living_of (sight k) o))) ≡ living_of (sight c) o
  living_now o =
      ap (λ x. option_map (valued st) (option_map (leaving d) (option_map (reworded_by l) x))) (living_is (sight k) o) ∙ by (first_shown (placed_in o) (things_of k)) refl
      ∙ sym (living_is (sight c) o ∙ ap₂ (λ i p. option_map (as_living o (word (sight c) o) (some i)) p) (drops_now o) (placed_now o))
    where
      i : ℕ
      i = tot (dropped_by o) (things_of k)

      v : ℕ
      v = word_after l o (unwrap_or (word (sight k) o) 0)

      by : (p : Option (Plain × Place)) → first_shown (placed_in o) (things_of k) ≡ p
          → option_map (valued st) (option_map (leaving d) (option_map (reworded_by l) (option_map (as_living o (word (sight k) o) (some i)) p))) ≡ option_map (as_living o (word (sight c) o) (some (i + given_by d o))) (option_map (replaced st o) p)
      by None e = refl
      by (Some p) e =
          ap (λ x. Some (valued st x)) (left_so o (word (sight k) o) v i p d) ∙ ap (λ x. Some x) (valued_so o (word (sight k) o) v i p (i + given_by d o) st)
          ∙ ap (λ u. Some (as_living o u (some (i + given_by d o)) (replaced st o p))) (sym (words_so o p (replaced st o p) e (placed_now o ∙ ap (option_map (replaced st o)) e)))

  -- WHO HOLDS A MUTEX

  beside : ((o : ObjNo) → spared o ≡ true → (w : Plain × Place → ℕ) → tot (λ v. told w (placed_in o v)) olds ≡ tot (λ v. told w (placed_in o v)) news) → Beside k olds news (only y.number) spared
  beside objects = record {
    threads = λ t. same (is_thread t) (thread_blind t) (λ a b. refl) (ap (λ i. one (i == t)) (sym named)) (told_so.threads t);
    slots = λ t e h.
        let was : at_thread (λ v. h (masked_of v)) t (stands n false y) ≡ 0 = ap (λ b. if_so b (h (masked_of (record { server = n; packed = false; thread = y })))) (number_flip y.number t ∙ e) in
        let is : at_thread (λ v. h (masked_of v)) t (stands n false z) ≡ 0 = ap (λ b. if_so b (h (masked_of (record { server = n; packed = false; thread = z })))) (ap (λ i. i == t) named ∙ number_flip y.number t ∙ e) in
        same (at_thread (λ v. h (masked_of v)) t) (slots_blind h t) (λ a b. refl) (was ∙ sym is) (told_so.slots h t);
    objects = objects;
    bare = none_gifted;
  }
    where
      gift_at : (t : ℕ) (x : Thing) → gifted (only t) x ≡ at_thread (λ v. one (is_some v.thread.gift)) t x
      gift_at t (stands r p x) = refl
      gift_at t _ = refl

      none_gifted : tot (gifted (only y.number)) (things_of k) ≡ 0
      none_gifted =
          tot_same (gifted (only y.number)) (at_thread (λ v. one (is_some v.thread.gift)) y.number) (gift_at y.number) (things_of k) ∙ thread_told (λ v. one (is_some v.thread.gift)) y.number (things_of k) (sound.names.numbers_differ y.number)
          ∙ ap (told (λ (v : Standing). one (is_some v.thread.gift))) (thread_there k sound number s here y.number y at) ∙ ap (λ g. one (is_some g)) bare

  -- ALL ANSWERS

  pub agrees : ((v : ℕ) → is_in v (given_words l) || issued (sight k) v ≡ issued (sight c) v) → ((o : ObjNo) → spared o ≡ true → (w : Plain × Place → ℕ) → tot (λ v. told w (placed_in o v)) olds ≡ tot (λ v. told w (placed_in o v)) news)
      → Agrees (storing st (dropping d (recoloured l (answers_of (sight k))))) (answers_of (sight c))
  agrees issues objects = record {
    object = living_now;
    copy = λ r w. copy_still k c olds news sound f r w (λ g. same (λ x. told g (copy_in r w x)) (copy_blind r w g) (λ a b. refl) refl (told_so.copies r w g));
    served = λ a. served_still k c olds news sound f a (same (served_in a) (served_blind a) (λ x b. refl) refl (told_so.served a));
    issued = issues;
    started = started;
    running = running;
    ended = ended_by k c started (λ t. ap is_none (running t));
    wishes = λ a. wishes_still k c olds news sound f a (same (wished_in a) (wished_blind a) (λ x b. refl) refl (told_so.wishes a));
    made = made_still k c olds news sound f (λ r i. same (made_at r i) (made_blind r i) (λ a b. refl) refl (told_so.made r i));
    there = λ m. there_less k c olds news sound f m (let e = same (there_in m) (there_blind m) (λ a b. refl) refl (told_so.there m) in omega (arith, e));
    holder = λ m. holder_still k c olds news sound f (only y.number) spared (beside objects) paths m (λ g. same (λ x. told g (holder_by (sight c) m x)) (holder_blind c m g) (λ a b. refl) (bare_holds (sight c) m n y bare g ∙ sym (bare_holds (sight c) m n z free g)) (told_so.holders (sight c) m g));
  }
    where
      started : (t : ℕ) → is_given_thread (sight k) t ≡ is_given_thread (sight c) t
      started = started_still k c olds news sound f (λ r i. same (started_at r i) (started_blind r i) (λ a b. refl) refl (told_so.started r i))

      runs_on : (t : ℕ) (g : Running → ℕ) → runs g t (stands n false y) ≡ runs g t (stands n false z)
      runs_on t g = ap₂ (λ i q. if_so (i == t) (told g (if_some (not q) (record { thread = t; server = n; has_ended = false })))) (sym named) (live ∙ sym on)

      running : (t : ℕ) → running_of (sight k) t ≡ running_of (sight c) t
      running t = running_still k c olds news sound f (λ u. same (is_thread u) (thread_blind u) (λ a b. refl) (ap (λ i. one (i == u)) (sym named)) (told_so.threads u)) t (λ g. same (runs g t) (runs_blind g t) (λ a b. refl) (runs_on t g) (told_so.running t g))
