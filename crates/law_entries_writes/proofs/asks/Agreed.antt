-- What a cluster answers after a step that gave objects words, moved some of them to other addresses, and asked for something: the words and the wish come, and all else stays.
use Rattle.std.proofs.Common.{◌≡◌, ℕ, zero, suc, ◌+◌, ◌≤◌, ◌==◌, ◌||◌, not, false, List, [], ◌∷◌, ◌++◌, Option, Some, None, is_some, is_none, option_map, refl, sym, ap, ap₂, ◌∙◌, arith}
use Rattle.std.specs.Prelude.{unwrap_or, map}
use Rattle.law_copies_writes.specs.Below.law_copies_kept.Below.fr_base.Lists.{is_in}
use Rattle.law_copies_writes.specs.Below.law_copies_kept.Below.fr_base.declared.name.MutexNo.{MutexNo}
use Rattle.law_copies_writes.specs.Below.law_copies_kept.Below.fr_base.declared.name.ObjNo.{ObjNo}
use Rattle.law_copies_writes.specs.Below.law_copies_kept.Below.fr_base.declared.label.Plain.{Plain}
use Rattle.law_copies_writes.specs.Below.law_copies_kept.Below.fr_base.declared.instruction.Instr.{Instr}
use Rattle.law_copies_writes.specs.Below.law_copies_kept.Below.fr_base.declared.instruction.Instr.TheVariants as instr
use Rattle.law_copies_writes.specs.Below.law_copies_kept.Below.heap_partition.declared.value.Owned.{Owned}
use Rattle.law_copies_writes.specs.Below.law_copies_kept.Below.thread_state.View.{ThreadState, is_over}
use Rattle.law_copies_writes.specs.Below.law_copies_kept.Below.server_msgs.declared.message.Message.{Message}
use Rattle.law_copies_writes.specs.Below.law_copies_kept.Below.server_model.Servers.{Cluster}
use Rattle.law_entries_writes.specs.Below.law_entries_variables.Below.coloured_heap.Heap.{Place, Wish}
use Rattle.law_copies_writes.specs.Below.law_copies_kept.Below.coherent_memory.Names.{tot, one, some, if_so}
use Rattle.law_copies_writes.specs.Below.law_copies_kept.Below.coherent_memory.Things.{Thing, sent, stands, things_of}
use Rattle.law_copies_writes.specs.Below.law_copies_kept.Below.coherent_memory.Follow.{Standing, value_at}
use Rattle.law_copies_writes.specs.Below.law_copies_kept.Below.coherent_memory.Sight.{sight, word, issued}
use Rattle.law_copies_writes.specs.Below.law_copies_kept.Below.coherent_memory.Weights.{cells}
use Rattle.law_copies_writes.specs.Below.law_copies_kept.Below.coherent_memory.Walking.{instr_of}
use Rattle.law_copies_writes.specs.Below.law_copies_kept.Below.coherent_memory.Requests.{mutex_of, is_mutex, locked_mutex}
use Rattle.law_copies_writes.specs.Below.law_copies_kept.Below.coherent_memory.Sharing.{gift_content}
use Rattle.law_copies_writes.specs.Below.law_copies_kept.Below.coherent_memory.OneHeap.{first_shown, is_given_thread}
use Rattle.law_copies_writes.specs.Below.law_copies_kept.Below.coherent_memory.Words.{HasWords}
use Rattle.law_copies_writes.specs.Below.law_copies_kept.Below.coherent_memory.Colours.{living_of, holder_of, running_of}
use Rattle.law_copies_writes.specs.Below.law_copies_kept.Below.coherent_memory.Coherent.{IsSound}
use Rattle.law_copies_writes.proofs.Below.law_copies_kept.Below.law_heap_still.events.Tests.{numbers}
use Rattle.law_copies_writes.proofs.Below.law_copies_kept.Below.law_heap_still.events.Told.{told, ones, tot_same, at_thread}
use Rattle.law_entries_writes.proofs.Below.law_entries_variables.deliveries.Weighed.{Seen}
use Rattle.law_entries_writes.proofs.Below.law_entries_variables.deliveries.Answers.{answers_of, Agrees}
use Rattle.law_entries_writes.proofs.Below.law_entries_variables.deliveries.Shown.{if_some, placed_in, placings, same_placed, dropped_by, as_living, living_is, copy_in, served_in, wished_in, runs, there_in, holder_by, holder_is, shown_after, first_same, none_first}
use Rattle.law_entries_writes.proofs.Below.law_entries_variables.deliveries.HeldOnce.{holders_once}
use Rattle.law_entries_writes.proofs.Below.law_entries_variables.deliveries.Live.{word_told, placed_cells, placed_seen, dropped_seen}
use Rattle.law_entries_writes.proofs.Below.law_entries_variables.deliveries.After.{Follows, copy_still, served_still, wishes_after, there_still, started_still, made_still, running_still, ended_by}
use Rattle.law_entries_writes.specs.Below.law_entries_variables.Below.law_heap_still.events.Shows.{Frame, ShownThread, frame_of}
use Rattle.law_copies_writes.specs.Below.law_copies_kept.Below.coherent_memory.Weights.{is_thread}
use Rattle.law_copies_writes.specs.Below.law_copies_kept.Below.coherent_memory.Naming.{started_at, made_at}
use Rattle.law_copies_writes.proofs.Below.law_copies_kept.Below.law_counts_sums.Trades.{tot-append}
use Rattle.law_entries_writes.proofs.Below.law_entries_variables.still.Kept.{masked_of, cells_placed, numbered_seen, slots_seen, gifts_placed}
use Rattle.law_entries_writes.proofs.Below.law_entries_reads.asks.Recoloured.{NewWords, word_after, given_words, reworded_by, recoloured, wishing}
use Rattle.law_entries_writes.proofs.Below.law_entries_reads.asks.Agreeing.{Asks, Alone, asks_alone, Waits, Rewords}
use Rattle.law_entries_writes.proofs.walks.Weights.{Blind, placed_blind, dropped_blind, copy_blind, served_blind, wished_blind, there_blind, started_blind, made_blind, runs_blind, thread_blind, holder_blind}

holder_seen : (k : Cluster) (m : MutexNo) (g : ℕ → ℕ) → Seen (λ x. told g (holder_by (sight k) m x))
holder_seen k m g = (holder_blind k m g).seen

some_live : (k : Cluster) (o : ObjNo) (p : Plain × Place) → first_shown (placed_in o) (things_of k) ≡ Some p → 1 ≤ tot (cells o) (things_of k)
some_live k o p e = by (tot (λ x. told ones (placed_in o x)) (things_of k)) refl
  where
    by : (n : ℕ) → tot (λ x. told ones (placed_in o x)) (things_of k) ≡ n → 1 ≤ tot (cells o) (things_of k)
    by zero z = absurd (cc (sym e ∙ none_first (placed_in o) (things_of k) z))
    by (suc n) z = omega (arith, z, placed_cells o k)

module _ (k c : Cluster) (sound : IsSound k) (n : ℕ) (y z : ThreadState) (waits : Waits y z) (target : ℕ) (m : Message) (a : Wish) (asks : Asks m a) (os ns : List Thing)
    (blind : (f : Thing → ℕ) → Blind f → tot f ns ≡ tot f os) (follows : Follows k c (stands n false y ∷ os) (stands n false z ∷ (ns ++ sent target m ∷ []))) where
  abbrev olds : List Thing
  olds = stands n false y ∷ os

  abbrev news : List Thing
  news = stands n false z ∷ (ns ++ sent target m ∷ [])

  abbrev before : HasWords (sight k)
  before = sound.words.have_words

  alone : Alone k target m a
  alone = asks_alone k target m a asks

  -- what is seen in what went and in what came
  same_lists : (f : Thing → ℕ) → Blind f → f (stands n false y) ≡ f (stands n false z) + f (sent target m) → tot f olds ≡ tot f news
  same_lists f b e = omega (arith, blind f b, tot-append f ns (sent target m ∷ []), e)

  -- HOLDERS

  gifts : (o : MutexNo) (x : Standing) → gift_content (sight c) o x ≡ gift_content (sight k) o x
  gifts =
      gifts_placed k c sound follows.code (record {
        threads = λ t. let same : one (z.number == t) ≡ one (y.number == t) = ap (λ i. one (i == t)) waits.number in omega (arith, follows.things (is_thread t) (numbered_seen t), same_lists (is_thread t) (thread_blind t) (omega (arith, same)));
        slots = λ h t.
            let same : if_so (z.number == t) (h (of z.number (map frame_of z.slots))) ≡ if_so (y.number == t) (h (of y.number (map frame_of y.slots))) = ap₂ (λ i l. if_so (i == t) (h (of i l))) waits.number waits.frames in
            let its : Blind (at_thread (λ v. h (masked_of v)) t) = record { seen = slots_seen h t; lying = λ r b d x w e f. refl; free = λ r b q. refl; left = λ r b. refl } in
            omega (arith, follows.things (at_thread (λ v. h (masked_of v)) t) (slots_seen h t), same_lists (at_thread (λ v. h (masked_of v)) t) its (omega (arith, same)));
        cells = λ o g. let w : Plain × Place → ℕ = (λ v. g v.0) in omega (arith, cells_placed o g k, cells_placed o g c, follows.things (λ v. told w (placed_in o v)) (placed_seen o w), same_lists (λ v. told w (placed_in o v)) (placed_blind o w) (omega (arith, alone.objects o w)));
      })
    where
      of : ℕ → List Frame → ShownThread
      of i l = record { number = i; is_over = false; pair = None; pc = 0; temps = []; slots = l; made = 0 }

  locked_same : (x u : Standing) → u.thread.number ≡ x.thread.number → (i : Option Instr) → locked_mutex (sight k) u i ≡ locked_mutex (sight k) x i
  locked_same x u e (Some (instr.Lock w)) = ap (λ t. mutex_of (value_at (sight k).ground t w)) e
  locked_same x u e _ = refl

  abbrev me : ThreadState → Standing
  me t = record { server = n; packed = false; thread = t }

  instr_same : instr_of (sight k) (me z) ≡ instr_of (sight k) (me y)
  instr_same = ap (λ p. instr_of (sight k) (me (record y { pc = p }))) waits.pc

  abbrev held_as : MutexNo → Option Owned → Option MutexNo → ℕ → Option ℕ
  held_as o g i t = if_some (some (if_so (is_some g) (one (is_mutex o i)))) t

  thread_holds : (o : MutexNo) → holder_by (sight k) o (stands n false z) ≡ holder_by (sight k) o (stands n false y)
  thread_holds o =
      ap₂ (λ g t. held_as o g (locked_mutex (sight k) (me z) (instr_of (sight k) (me z))) t) waits.gift waits.number
      ∙ ap (λ i. held_as o y.gift i y.number) (locked_same (me y) (me z) waits.number (instr_of (sight k) (me z)) ∙ ap (locked_mutex (sight k) (me y)) instr_same)

  holder_kept : (o : MutexNo) (x : Thing) → holder_by (sight c) o x ≡ holder_by (sight k) o x
  holder_kept o (stands r p x) = ap (λ i. if_some (some i) x.number) (gifts o (record { server = r; packed = p; thread = x }))
  holder_kept o _ = refl

  holders_same : (o : MutexNo) → holder_of (sight k) o ≡ holder_of (sight c) o
  holders_same o = sym (holder_is c o few_then ∙ first_same (holder_by (sight c) o) (holder_by (sight k) o) (holder_kept o) (things_of c) ∙ there)
    where
      few : tot (λ x. told ones (holder_by (sight k) o x)) (things_of k) ≤ 1
      few = holders_once k o sound

      none_comes : (g : ℕ → ℕ) → tot (λ x. told g (holder_by (sight k) o x)) olds ≡ tot (λ x. told g (holder_by (sight k) o x)) news
      none_comes g = same_lists (λ x. told g (holder_by (sight k) o x)) (holder_blind k o g) (omega (arith, ap (told g) (thread_holds o), alone.holders o g))

      change : (g : ℕ → ℕ) → tot (λ x. told g (holder_by (sight k) o x)) (things_of c) + tot (λ x. told g (holder_by (sight k) o x)) olds ≡ tot (λ x. told g (holder_by (sight k) o x)) (things_of k) + tot (λ x. told g (holder_by (sight k) o x)) news
      change g = follows.things (λ x. told g (holder_by (sight k) o x)) (holder_seen k o g)

      there : first_shown (holder_by (sight k) o) (things_of c) ≡ holder_of (sight k) o
      there =
          shown_after (λ (i j : ℕ). i == j) numbers (holder_by (sight k) o) (things_of k) olds news (things_of c) change few (holder_of (sight k) o)
          (λ g. ap (λ p. told g p + tot (λ x. told g (holder_by (sight k) o x)) olds) (holder_is k o few) ∙ ap (λ i. told g (first_shown (holder_by (sight k) o) (things_of k)) + i) (none_comes g))

      few_then : tot (λ x. told ones (holder_by (sight c) o x)) (things_of c) ≤ 1
      few_then = let same : tot (λ x. told ones (holder_by (sight c) o x)) (things_of c) ≡ tot (λ x. told ones (holder_by (sight k) o x)) (things_of c) = tot_same (λ x. told ones (holder_by (sight c) o x)) (λ x. told ones (holder_by (sight k) o x)) (λ x. ap (told ones) (holder_kept o x)) (things_of c) in omega (arith, same, change ones, none_comes ones, few)

  -- OBJECTS

  module _ (l : NewWords) (words : Rewords k c l before) where
    placed_same : (o : ObjNo) → first_shown (placed_in o) (things_of c) ≡ first_shown (placed_in o) (things_of k)
    placed_same o =
        shown_after same_placed placings (placed_in o) (things_of k) olds news (things_of c) (λ g. follows.things (λ x. told g (placed_in o x)) (placed_seen o g)) (omega (arith, placed_cells o k, sound.one_home.home_of_each o)) (first_shown (placed_in o) (things_of k))
        (λ g. omega (arith, same_lists (λ x. told g (placed_in o x)) (placed_blind o g) (omega (arith, alone.objects o g))))

    condemned_same : (o : ObjNo) → tot (dropped_by o) (things_of c) ≡ tot (dropped_by o) (things_of k)
    condemned_same o = omega (arith, follows.things (dropped_by o) (dropped_seen o), same_lists (dropped_by o) (dropped_blind o) (omega (arith, alone.drops o)))

    -- an object with its new word
    living_then : (o : ObjNo) → option_map (reworded_by l) (living_of (sight k) o) ≡ living_of (sight c) o
    living_then o =
        ap (option_map (reworded_by l)) (living_is (sight k) o) ∙ by (first_shown (placed_in o) (things_of k)) refl
        ∙ sym (living_is (sight c) o ∙ ap₂ (λ d p. option_map (as_living o (word (sight c) o) (some d)) p) (condemned_same o) (placed_same o))
      where
        words_so : (p : Plain × Place) → first_shown (placed_in o) (things_of k) ≡ Some p → word_after l o (unwrap_or (word (sight k) o) 0) ≡ unwrap_or (word (sight c) o) 0
        words_so p e =
            ap (λ w. word_after l o (unwrap_or w 0)) (word_told k before o (some_live k o p e)) ∙ sym (words.word o) ∙ ap (λ w. unwrap_or w 0) (sym (word_told c words.after o (some_live c o p (placed_same o ∙ e))))

        by : (p : Option (Plain × Place)) → first_shown (placed_in o) (things_of k) ≡ p → option_map (reworded_by l) (option_map (as_living o (word (sight k) o) (some (tot (dropped_by o) (things_of k)))) p) ≡ option_map (as_living o (word (sight c) o) (some (tot (dropped_by o) (things_of k)))) p
        by None e = refl
        by (Some p) e = ap (λ w. Some (as_living o (Some w) (some (tot (dropped_by o) (things_of k))) p)) (words_so p e)

    -- ALL ANSWERS

    started : (t : ℕ) → is_given_thread (sight k) t ≡ is_given_thread (sight c) t
    started = started_still k c olds news sound follows (λ r w. same_lists (started_at r w) (started_blind r w) refl)

    running : (t : ℕ) → running_of (sight k) t ≡ running_of (sight c) t
    running t =
        running_still k c olds news sound follows (λ u. same_lists (is_thread u) (thread_blind u) (let same : one (z.number == u) ≡ one (y.number == u) = ap (λ i. one (i == u)) waits.number in omega (arith, same))) t
        (λ g.
        let same : if_so (z.number == t) (told g (if_some (not (is_over z.phase)) (record { thread = t; server = n; has_ended = false }))) ≡ if_so (y.number == t) (told g (if_some (not (is_over y.phase)) (record { thread = t; server = n; has_ended = false }))) =
        ap₂ (λ i b. if_so (i == t) (told g (if_some (not b) (record { thread = t; server = n; has_ended = false })))) waits.number waits.over in
        same_lists (runs g t) (runs_blind g t) (omega (arith, same)))

    pub agrees : ((v : ℕ) → is_in v (given_words l) || issued (sight k) v ≡ issued (sight c) v) → Agrees (wishing a (recoloured l (answers_of (sight k)))) (answers_of (sight c))
    agrees issues = record {
      object = living_then;
      copy = λ r w. copy_still k c olds news sound follows r w (λ g. same_lists (λ x. told g (copy_in r w x)) (copy_blind r w g) refl);
      served = λ b. served_still k c olds news sound follows b (same_lists (served_in b) (served_blind b) (omega (arith, alone.served b)));
      issued = issues;
      started = started;
      running = running;
      ended = ended_by k c started (λ t. ap is_none (running t));
      wishes = λ b. omega (arith, wishes_after k c olds news sound follows b, alone.wishes b, blind (wished_in b) (wished_blind b), tot-append (wished_in b) ns (sent target m ∷ []));
      made = made_still k c olds news sound follows (λ r w. same_lists (made_at r w) (made_blind r w) refl);
      there = λ o e. there_still k c olds news sound follows o (same_lists (there_in o) (there_blind o) refl) ∙ e;
      holder = holders_same;
    }
