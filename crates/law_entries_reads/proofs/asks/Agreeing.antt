-- What a cluster answers after a step that gave objects words and sent a request: the words and the wish come, and all else stays.
use Rattle.std.proofs.Common.{◌≡◌, ℕ, zero, suc, ◌+◌, ◌≤◌, ◌==◌, ◌||◌, not, false, List, [], ◌∷◌, Option, Some, None, is_some, is_none, option_map, refl, sym, ap, ap₂, ◌∙◌, arith}
use Rattle.std.specs.Prelude.{unwrap_or}
use Rattle.law_entries_reads.specs.Below.law_copies_kept.Below.fr_base.Lists.{is_in}
use Rattle.law_entries_reads.specs.Below.law_copies_kept.Below.fr_base.declared.name.MutexNo.{MutexNo}
use Rattle.law_entries_reads.specs.Below.law_copies_kept.Below.fr_base.declared.name.ObjNo.{ObjNo}
use Rattle.law_entries_reads.specs.Below.law_copies_kept.Below.fr_base.declared.label.Plain.{Plain}
use Rattle.law_entries_reads.specs.Below.law_copies_kept.Below.fr_base.declared.instruction.Instr.{Instr}
use Rattle.law_entries_reads.specs.Below.law_copies_kept.Below.fr_base.declared.instruction.Instr.TheVariants as instr
use Rattle.law_entries_reads.specs.Below.law_copies_kept.Below.heap_partition.declared.value.Owned.{Owned}
use Rattle.law_entries_reads.specs.Below.law_copies_kept.Below.thread_state.View.{ThreadState, is_over}
use Rattle.law_entries_reads.specs.Below.law_copies_kept.Below.server_msgs.declared.message.Message.{Message}
use Rattle.law_entries_reads.specs.Below.law_copies_kept.Below.server_msgs.declared.message.Message.TheVariants as message
use Rattle.law_entries_reads.specs.Below.law_copies_kept.Below.server_model.Servers.{Cluster}
use Rattle.law_entries_reads.specs.Below.law_entries_variables.Below.coloured_heap.Heap.{Place, Copied, Wish, ForCopy, ForObject, ForContent, ForShare, same_wish}
use Rattle.law_entries_reads.specs.Below.law_copies_kept.Below.coherent_memory.Names.{tot, one, some, if_so}
use Rattle.law_entries_reads.specs.Below.law_copies_kept.Below.coherent_memory.Things.{Thing, sent, stands, message_things, things_of}
use Rattle.law_entries_reads.specs.Below.law_copies_kept.Below.coherent_memory.Follow.{Standing, value_at}
use Rattle.law_entries_reads.specs.Below.law_copies_kept.Below.coherent_memory.Sight.{sight, word, issued}
use Rattle.law_entries_reads.specs.Below.law_copies_kept.Below.coherent_memory.Weights.{cells}
use Rattle.law_entries_reads.specs.Below.law_copies_kept.Below.coherent_memory.Walking.{instr_of}
use Rattle.law_entries_reads.specs.Below.law_copies_kept.Below.coherent_memory.Requests.{mutex_of, is_mutex, locked_mutex}
use Rattle.law_entries_reads.specs.Below.law_copies_kept.Below.coherent_memory.Sharing.{gift_content}
use Rattle.law_entries_reads.specs.Below.law_copies_kept.Below.coherent_memory.OneHeap.{first_shown}
use Rattle.law_entries_reads.specs.Below.law_copies_kept.Below.coherent_memory.Words.{HasWords}
use Rattle.law_entries_reads.specs.Below.law_copies_kept.Below.coherent_memory.Colours.{living_of, holder_of, running_of}
use Rattle.law_entries_reads.specs.Below.law_copies_kept.Below.coherent_memory.Coherent.{IsSound}
use Rattle.law_entries_reads.proofs.Below.law_copies_kept.Below.law_heap_still.events.Tests.{numbers}
use Rattle.law_entries_reads.proofs.Below.law_copies_kept.Below.law_heap_still.events.Told.{told, ones, tot_same}
use Rattle.law_entries_reads.proofs.Below.law_entries_variables.deliveries.Weighed.{Seen}
use Rattle.law_entries_reads.proofs.Below.law_entries_variables.deliveries.Answers.{answers_of, Agrees}
use Rattle.law_entries_reads.proofs.Below.law_entries_variables.deliveries.Shown.{if_some, placed_in, placings, same_placed, dropped_by, as_living, living_is, served_in, wished_in, holder_by, holder_is, shown_after, first_same, none_first}
use Rattle.law_entries_reads.proofs.Below.law_entries_variables.deliveries.HeldOnce.{holders_once}
use Rattle.law_entries_reads.proofs.Below.law_entries_variables.deliveries.Live.{word_told, placed_cells, placed_seen, dropped_seen, issued_by, issued_seen, issued_told}
use Rattle.law_entries_reads.proofs.Below.law_entries_variables.deliveries.After.{Follows, copy_still, served_still, wishes_after, there_still, started_still, made_still, running_still, ended_by}
use Rattle.law_entries_reads.proofs.asks.Recoloured.{NewWords, word_after, given_words, reworded_by, recoloured, wishing}
use Rattle.law_entries_reads.proofs.asks.Frames.{SameFrames, gifts_unchanged}

-- WHAT ASKS

-- a message that asks for something, and what it asks for
pub data Asks : Message → Wish → Type 0 where
  a_copy : {w : ℕ} {o : ObjNo} {s t : ℕ} → Asks (message.Fetch w o s t) (ForCopy o w s)
  an_object : {w : ℕ} {o : ObjNo} {s t : ℕ} → Asks (message.Move w o s t) (ForObject o w s)
  a_content : {m : MutexNo} {s t : ℕ} → Asks (message.Lock m s t) (ForContent m t s)
  a_share : {m : MutexNo} {s t : ℕ} → Asks (message.Dup m s t) (ForShare m t s)

-- it is seen as that alone
pub record Alone (k : Cluster) (target : ℕ) (m : Message) (a : Wish) : Type 0 where
  pub objects : (o : ObjNo) (g : Plain × Place → ℕ) → told g (placed_in o (sent target m)) ≡ 0
  pub drops : (o : ObjNo) → dropped_by o (sent target m) ≡ 0
  pub served : (b : Copied) → served_in b (sent target m) ≡ 0
  pub holders : (n : MutexNo) (g : ℕ → ℕ) → told g (holder_by (sight k) n (sent target m)) ≡ 0
  pub wishes : (b : Wish) → wished_in b (sent target m) ≡ one (same_wish b a)
  pub carries : message_things target m ≡ sent target m ∷ []

pub asks_alone : (k : Cluster) (target : ℕ) (m : Message) (a : Wish) → Asks m a → Alone k target m a
asks_alone k target _ _ a_copy = record { objects = λ o g. refl; drops = λ o. refl; served = λ b. refl; holders = λ n g. refl; wishes = λ b. refl; carries = refl }
asks_alone k target _ _ an_object = record { objects = λ o g. refl; drops = λ o. refl; served = λ b. refl; holders = λ n g. refl; wishes = λ b. refl; carries = refl }
asks_alone k target _ _ a_content = record { objects = λ o g. refl; drops = λ o. refl; served = λ b. refl; holders = λ n g. refl; wishes = λ b. refl; carries = refl }
asks_alone k target _ _ a_share = record { objects = λ o g. refl; drops = λ o. refl; served = λ b. refl; holders = λ n g. refl; wishes = λ b. refl; carries = refl }

-- WORDS

some_live : (k : Cluster) (o : ObjNo) (p : Plain × Place) → first_shown (placed_in o) (things_of k) ≡ Some p → 1 ≤ tot (cells o) (things_of k)
some_live k o p e = by (tot (λ x. told ones (placed_in o x)) (things_of k)) refl
  where
    by : (n : ℕ) → tot (λ x. told ones (placed_in o x)) (things_of k) ≡ n → 1 ≤ tot (cells o) (things_of k)
    by zero z = absurd (cc (sym e ∙ none_first (placed_in o) (things_of k) z))
    by (suc n) z = omega (arith, z, placed_cells o k)

holder_seen : (k : Cluster) (m : MutexNo) (g : ℕ → ℕ) → Seen (λ x. told g (holder_by (sight k) m x))
holder_seen k m g = record { held = λ p v. refl; shared = λ l q. refl; lent = λ l q. refl; flown = λ v c. refl; used = λ r v. refl; loose = λ u i o. refl; counted = λ r b q s o e. refl; unused = λ i d u. refl }

-- THE THREAD THAT ASKS

-- it runs on, and all but words, marks and pins in slots is as it was
pub record Waits (y z : ThreadState) : Type 0 where
  pub number : z.number ≡ y.number
  pub frames : SameFrames z.slots y.slots
  pub gift : z.gift ≡ y.gift
  pub pc : z.pc ≡ y.pc
  pub over : is_over z.phase ≡ is_over y.phase

-- the words afterwards are those from before, and the new ones
pub record Rewords (k c : Cluster) (l : NewWords) (before : HasWords (sight k)) : Type 0 where
  pub after : HasWords (sight c)
  pub word : (o : ObjNo) → after.word o ≡ word_after l o (before.word o)

module _ (k c : Cluster) (sound : IsSound k) (n : ℕ) (y z : ThreadState) (waits : Waits y z) (target : ℕ) (m : Message) (a : Wish) (asks : Asks m a) (follows : Follows k c (stands n false y ∷ []) (stands n false z ∷ sent target m ∷ [])) where
  abbrev olds : List Thing
  olds = stands n false y ∷ []

  abbrev news : List Thing
  news = stands n false z ∷ sent target m ∷ []

  abbrev before : HasWords (sight k)
  before = sound.words.have_words

  alone : Alone k target m a
  alone = asks_alone k target m a asks

  -- HOLDERS

  gifts : (o : MutexNo) (x : Standing) → gift_content (sight c) o x ≡ gift_content (sight k) o x
  gifts = gifts_unchanged k c sound n false false y z (sent target m ∷ []) (λ t. refl) (λ h t. refl) (λ o w. omega (arith, alone.objects o w)) waits.number waits.frames follows

  locked_same : (x u : Standing) → u.thread.number ≡ x.thread.number → (i : Option Instr) → locked_mutex (sight k) u i ≡ locked_mutex (sight k) x i
  locked_same x u e (Some (instr.Lock w)) = ap (λ t. mutex_of (value_at (sight k).ground t w)) e
  locked_same x u e _ = refl

  abbrev me : ThreadState → Standing
  me t = record { server = n; packed = false; thread = t }

  instr_same : instr_of (sight k) (me z) ≡ instr_of (sight k) (me y)
  instr_same = ap (λ p. instr_of (sight k) (me (record y { pc = p }))) waits.pc

  abbrev held_as : MutexNo → Option Owned → Option MutexNo → ℕ → Option ℕ
  held_as o g i t = if_some (some (if_so (is_some g) (one (is_mutex o i)))) t

  thread_holds : (o : MutexNo) → holder_by (sight k) o (stands n false z) ≡ holder_by (sight k) o (stands n false y)
  thread_holds o =
      ap₂ (λ g t. held_as o g (locked_mutex (sight k) (me z) (instr_of (sight k) (me z))) t) waits.gift waits.number
      ∙ ap (λ i. held_as o y.gift i y.number) (locked_same (me y) (me z) waits.number (instr_of (sight k) (me z)) ∙ ap (locked_mutex (sight k) (me y)) instr_same)

  holder_kept : (o : MutexNo) (x : Thing) → holder_by (sight c) o x ≡ holder_by (sight k) o x
  holder_kept o (stands r p x) = ap (λ i. if_some (some i) x.number) (gifts o (record { server = r; packed = p; thread = x }))
  holder_kept o _ = refl

  holders_same : (o : MutexNo) → holder_of (sight k) o ≡ holder_of (sight c) o
  holders_same o = sym (holder_is c o few_then ∙ first_same (holder_by (sight c) o) (holder_by (sight k) o) (holder_kept o) (things_of c) ∙ there)
    where
      few : tot (λ x. told ones (holder_by (sight k) o x)) (things_of k) ≤ 1
      few = holders_once k o sound

      none_comes : (g : ℕ → ℕ) → tot (λ x. told g (holder_by (sight k) o x)) olds ≡ tot (λ x. told g (holder_by (sight k) o x)) news
      none_comes g = omega (arith, ap (told g) (thread_holds o), alone.holders o g)

      change : (g : ℕ → ℕ) → tot (λ x. told g (holder_by (sight k) o x)) (things_of c) + tot (λ x. told g (holder_by (sight k) o x)) olds ≡ tot (λ x. told g (holder_by (sight k) o x)) (things_of k) + tot (λ x. told g (holder_by (sight k) o x)) news
      change g = follows.things (λ x. told g (holder_by (sight k) o x)) (holder_seen k o g)

      there : first_shown (holder_by (sight k) o) (things_of c) ≡ holder_of (sight k) o
      there =
          shown_after (λ (i j : ℕ). i == j) numbers (holder_by (sight k) o) (things_of k) olds news (things_of c) change few (holder_of (sight k) o)
          (λ g. ap (λ p. told g p + tot (λ x. told g (holder_by (sight k) o x)) olds) (holder_is k o few) ∙ ap (λ i. told g (first_shown (holder_by (sight k) o) (things_of k)) + i) (none_comes g))

      few_then : tot (λ x. told ones (holder_by (sight c) o x)) (things_of c) ≤ 1
      few_then = let same : tot (λ x. told ones (holder_by (sight c) o x)) (things_of c) ≡ tot (λ x. told ones (holder_by (sight k) o x)) (things_of c) = tot_same (λ x. told ones (holder_by (sight c) o x)) (λ x. told ones (holder_by (sight k) o x)) (λ x. ap (told ones) (holder_kept o x)) (things_of c) in omega (arith, same, change ones, none_comes ones, few)

  -- OBJECTS

  module _ (l : NewWords) (words : Rewords k c l before) where
    placed_same : (o : ObjNo) → first_shown (placed_in o) (things_of c) ≡ first_shown (placed_in o) (things_of k)
    placed_same o =
        shown_after same_placed placings (placed_in o) (things_of k) olds news (things_of c) (λ g. follows.things (λ x. told g (placed_in o x)) (placed_seen o g)) (omega (arith, placed_cells o k, sound.one_home.home_of_each o)) (first_shown (placed_in o) (things_of k))
        (λ g. omega (arith, alone.objects o g))

    condemned_same : (o : ObjNo) → tot (dropped_by o) (things_of c) ≡ tot (dropped_by o) (things_of k)
    condemned_same o = omega (arith, follows.things (dropped_by o) (dropped_seen o), alone.drops o)

    -- an object with its new word
    living_then : (o : ObjNo) → option_map (reworded_by l) (living_of (sight k) o) ≡ living_of (sight c) o
    living_then o =
        ap (option_map (reworded_by l)) (living_is (sight k) o) ∙ by (first_shown (placed_in o) (things_of k)) refl
        ∙ sym (living_is (sight c) o ∙ ap₂ (λ d p. option_map (as_living o (word (sight c) o) (some d)) p) (condemned_same o) (placed_same o))
      where
        words_so : (p : Plain × Place) → first_shown (placed_in o) (things_of k) ≡ Some p → word_after l o (unwrap_or (word (sight k) o) 0) ≡ unwrap_or (word (sight c) o) 0
        words_so p e =
            ap (λ w. word_after l o (unwrap_or w 0)) (word_told k before o (some_live k o p e)) ∙ sym (words.word o) ∙ ap (λ w. unwrap_or w 0) (sym (word_told c words.after o (some_live c o p (placed_same o ∙ e))))

        by : (p : Option (Plain × Place)) → first_shown (placed_in o) (things_of k) ≡ p → option_map (reworded_by l) (option_map (as_living o (word (sight k) o) (some (tot (dropped_by o) (things_of k)))) p) ≡ option_map (as_living o (word (sight c) o) (some (tot (dropped_by o) (things_of k)))) p
        by None e = refl
        by (Some p) e = ap (λ w. Some (as_living o (Some w) (some (tot (dropped_by o) (things_of k))) p)) (words_so p e)

    -- ALL ANSWERS

    started : (t : ℕ) → Rattle.law_entries_reads.specs.Below.law_copies_kept.Below.coherent_memory.OneHeap.is_given_thread (sight k) t ≡ Rattle.law_entries_reads.specs.Below.law_copies_kept.Below.coherent_memory.OneHeap.is_given_thread (sight c) t
    started = started_still k c olds news sound follows (λ r w. refl)

    running : (t : ℕ) → running_of (sight k) t ≡ running_of (sight c) t
    running t =
        running_still k c olds news sound follows (λ u. ap (λ i. one (i == u) + 0) (sym waits.number)) t
        (λ g. ap₂ (λ i b. if_so (i == t) (told g (if_some (not b) (record { thread = t; server = n; has_ended = false }))) + 0) (sym waits.number) (sym waits.over))

    pub agrees : ((v : ℕ) → is_in v (given_words l) || issued (sight k) v ≡ issued (sight c) v) → Agrees (wishing a (recoloured l (answers_of (sight k)))) (answers_of (sight c))
    agrees issues = record {
      object = living_then;
      copy = λ r w. copy_still k c olds news sound follows r w (λ g. refl);
      served = λ b. served_still k c olds news sound follows b (omega (arith, alone.served b));
      issued = issues;
      started = started;
      running = running;
      ended = ended_by k c started (λ t. ap is_none (running t));
      wishes = λ b. omega (arith, wishes_after k c olds news sound follows b, alone.wishes b);
      made = made_still k c olds news sound follows (λ r w. refl);
      there = λ o e. there_still k c olds news sound follows o refl ∙ e;
      holder = holders_same;
    }

  -- ISSUED WORDS

  -- by words of objects
  pub issued_as : (after : HasWords (sight c)) (v : ℕ) → issued (sight c) v ≡ some (tot (issued_by after.word k.options.colours v) (things_of k))
  issued_as after v = issued_told c after v ∙ ap (λ o. some (tot (issued_by after.word o.colours v) (things_of c))) follows.options ∙ ap some (omega (arith, follows.things (issued_by after.word k.options.colours v) (issued_seen after.word k.options.colours v)))
