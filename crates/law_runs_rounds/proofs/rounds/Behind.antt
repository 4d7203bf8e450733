-- With other messages in front of those that wait at a server and of those in its outbox, what an event makes of it is the same: its parts and its threads.
use Rattle.std.proofs.Common.{◌≡◌, ℕ, ◌==◌, Bool, true, false, if◌then◌else◌, List, [], ◌∷◌, ◌++◌, Option, Some, None, refl, ap, ◌∙◌, append_assoc}
use Rattle.std.specs.Prelude.{option_map}
use Rattle.law_runs_whole.specs.Below.heap_partition.declared.value.BoxPtr.{BoxPtr}
use Rattle.law_runs_whole.specs.Below.heap_partition.declared.value.Cell.{Cell}
use Rattle.law_runs_whole.specs.Below.heap_partition.declared.value.Owned.{Owned}
use Rattle.law_runs_whole.specs.Below.heap_partition.declared.value.Owned.TheVariants as owned
use Rattle.law_runs_whole.specs.Below.fr_base.declared.instruction.Operand.{Operand}
use Rattle.law_runs_whole.specs.Below.fr_base.declared.instruction.Operand.TheVariants as operand
use Rattle.law_runs_whole.specs.Below.fr_base.declared.release.Released.TheVariants as released
use Rattle.global_addr.specs.Words.{server_of}
use Rattle.law_runs_whole.specs.Below.read_cache.Cache.{can_pin, can_unpin}
use Rattle.law_runs_whole.specs.Below.mut_borrow.Refs.{finish_word}
use Rattle.law_runs_whole.specs.Below.mut_borrow.declared.shared.SharedRef.{SharedRef}
use Rattle.law_runs_whole.specs.Below.mut_borrow.declared.mutable.MutRef.{MutRef}
use Rattle.law_runs_whole.specs.Below.thread_state.View.{ThreadState}
use Rattle.law_runs_whole.specs.Below.thread_state.declared.value.Value.{Value}
use Rattle.law_runs_whole.specs.Below.thread_state.declared.value.Value.TheVariants as value
use Rattle.law_runs_coherent.specs.Below.server_msgs.declared.message.Message.{Message}
use Rattle.law_runs_coherent.specs.Below.server_msgs.declared.message.Message.TheVariants as message
use Rattle.law_runs_whole.specs.Below.journal.declared.act.Act.{Act}
use Rattle.law_runs_whole.specs.Below.journal.declared.act.Act.TheVariants as act
use Rattle.law_runs_whole.specs.Below.server_model.Servers.{Sent, Rest}
use Rattle.law_runs_whole.specs.Below.server_model.Work.{Work, Hand, Site, Popped, last_of, send, note, then_some, thread_in, put_back, at_thread, beside_threads, pop_temp, pop_slot, pop, taken_as, owned_of, int_of, pop_owned, pop_int, used_once, working, label_all}
use Rattle.law_runs_whole.specs.Below.server_model.NewWords.{NewWord, can_grow, issue_placed, issue_tint, issue_renewal, issue_colour}
use Rattle.law_runs_whole.specs.Below.server_model.Places.{Spot, in_slot, on_top, in_cell, in_copy, nowhere, cell_at, value_at, load_of, load_at, note_write, put_cell, put_slot, put_at, with_word, set_pointer, put_word}
use Rattle.law_runs_whole.specs.Below.server_model.Drop.{home_of, give_up, unpin_ref, finished_at, finish, drop_value}
use Rattle.law_runs_rounds.proofs.rounds.Chains.{map_by, then_by, map_same, then_same, if_same, if_either}

module _ (ms : List Message) (xs : List Sent) where
  -- with those messages in front
  abbrev pub rest_behind : Rest → Rest
  rest_behind r = record r { inbox = ms ++ r.inbox; outbox = xs ++ r.outbox }

  abbrev pub work_behind : Work → Work
  work_behind w = record w { rest = rest_behind w.rest }

  abbrev pub hand_behind : Hand → Hand
  hand_behind h = record h { work = work_behind h.work }

  abbrev pub site_behind : Site → Site
  site_behind x = record x { work = work_behind x.work }

  abbrev pub popped_behind : {X : Type 0} → Popped X → Popped X
  popped_behind p = record p { hand = hand_behind p.hand }

  abbrev pub word_behind : NewWord → NewWord
  word_behind n = record n { work = work_behind n.work }

  -- MESSAGES

  pub sends : (t : ℕ) (m : Message) (w : Work) → send t m (work_behind w) ≡ work_behind (send t m w)
  sends t m w = ap (λ r. record w { rest = r }) (by (t == w.rest.number))
    where
      by : (b : Bool) → (if b then record (rest_behind w.rest) { inbox = (ms ++ w.rest.inbox) ++ m ∷ [] } else record (rest_behind w.rest) { outbox = (xs ++ w.rest.outbox) ++ record { target = t; message = m } ∷ [] })
          ≡ rest_behind (if b then record w.rest { inbox = w.rest.inbox ++ m ∷ [] } else record w.rest { outbox = w.rest.outbox ++ record { target = t; message = m } ∷ [] })
      by true = ap (λ l. record (rest_behind w.rest) { inbox = l }) (append_assoc ms w.rest.inbox (m ∷ []))
      by false = ap (λ l. record (rest_behind w.rest) { outbox = l }) (append_assoc xs w.rest.outbox (record { target = t; message = m } ∷ []))

  -- a message of the event of a thread, with its act
  pub hand_sends : (t : ℕ) (m : Message) (a : Act) (h : Hand) → working (λ w. send t m (note a w)) (hand_behind h) ≡ hand_behind (working (λ w. send t m (note a w)) h)
  hand_sends t m a h = ap (λ w. record h { work = w }) (sends t m (note a h.work))

  -- THREADS

  pub beside : (f : Work → Option Work) (x : Site) → f (work_behind x.work) ≡ option_map work_behind (f x.work) → beside_threads f (site_behind x) ≡ option_map site_behind (beside_threads f x)
  beside f x e = map_by work_behind site_behind _ _ _ _ e (λ w. refl)

  pub at : (t : ℕ) (f : Hand → Option Hand) (x : Site) → ((h : Hand) → f (hand_behind h) ≡ option_map hand_behind (f h)) → at_thread t f (site_behind x) ≡ option_map site_behind (at_thread t f x)
  at t f x go = by (thread_in x.threads t)
    where
      by : (o : Option ThreadState) → then_some (option_map (λ y. record { work = work_behind x.work; thread = y }) o) (λ h. option_map (put_back x.threads) (f h))
          ≡ option_map site_behind (then_some (option_map (λ y. record { work = x.work; thread = y }) o) (λ h. option_map (put_back x.threads) (f h)))
      by None = refl
      by (Some y) = map_by hand_behind site_behind _ _ (put_back x.threads) (put_back x.threads) (go (record { work = x.work; thread = y })) (λ h. refl)

  -- VALUES TAKEN OUT

  pub pops_temp : (h : Hand) → pop_temp (hand_behind h) ≡ option_map popped_behind (pop_temp h)
  pops_temp h = map_same popped_behind (last_of h.thread.temps) _ _ (λ v. refl)

  pub pops_slot : (h : Hand) → pop_slot (hand_behind h) ≡ option_map popped_behind (pop_slot h)
  pops_slot h = map_same popped_behind (last_of h.thread.slots) _ _ (λ v. refl)

  pub pops : (o : Operand) (h : Hand) → pop o (hand_behind h) ≡ option_map popped_behind (pop o h)
  pops (operand.Const n) h = refl
  pops operand.Unit h = refl
  pops operand.Pop h = pops_temp h

  pub takes_as : {X : Type 0} (f : Value → Option X) (o2 o : Option (Popped Value)) → o2 ≡ option_map popped_behind o → then_some o2 (taken_as f) ≡ option_map popped_behind (then_some o (taken_as f))
  takes_as f o2 o e = then_by popped_behind popped_behind o2 o (taken_as f) (taken_as f) e (λ p. map_same popped_behind (f p.item) _ _ (λ x. refl))

  pub pops_owned : (o : Operand) (h : Hand) → pop_owned o (hand_behind h) ≡ option_map popped_behind (pop_owned o h)
  pops_owned o h = takes_as owned_of _ (pop o h) (pops o h)

  pub pops_int : (o : Operand) (h : Hand) → pop_int o (hand_behind h) ≡ option_map popped_behind (pop_int o h)
  pops_int o h = takes_as int_of _ (pop o h) (pops o h)

  -- WORDS

  pub uses_once : (w : ℕ) (b : Bool) (h : Hand) → used_once w b (hand_behind h) ≡ option_map hand_behind (used_once w b h)
  uses_once w true h = refl
  uses_once w false h = if_same hand_behind (can_pin h.work.rest.cache w) _ _ refl

  pub places_it : (a : ℕ → Act) (c : Cell) (w : Work) → issue_placed a c (work_behind w) ≡ option_map word_behind (issue_placed a c w)
  places_it a c w = if_same word_behind (can_grow w.rest.partition) _ _ refl

  pub renews : (p : BoxPtr) (w : Work) → issue_renewal p (work_behind w) ≡ option_map word_behind (issue_renewal p w)
  renews p w = if_same word_behind _ _ _ refl

  pub colours : (p : BoxPtr) (w : Work) → issue_colour p (work_behind w) ≡ option_map word_behind (issue_colour p w)
  colours p w = if_either (option_map word_behind) _ (Some (issue_tint p w)) (issue_renewal p w) (Some (issue_tint p (work_behind w))) (issue_renewal p (work_behind w)) refl (renews p w)

  -- PLACES

  pub cell_same : (h : Hand) (s : Spot) → cell_at (hand_behind h) s ≡ cell_at h s
  cell_same h (in_cell w through) = refl
  cell_same h (in_copy w) = refl
  cell_same h (in_slot i) = refl
  cell_same h on_top = refl
  cell_same h nowhere = refl

  pub value_same : (h : Hand) (s : Spot) → value_at (hand_behind h) s ≡ value_at h s
  value_same h (in_cell w through) = refl
  value_same h (in_copy w) = refl
  value_same h (in_slot i) = refl
  value_same h on_top = refl
  value_same h nowhere = refl

  pub loads : (s : Spot) (h : Hand) → load_at s (hand_behind h) ≡ hand_behind (load_at s h)
  loads s h = ap (λ c. working (label_all (load_of c)) (hand_behind h)) (cell_same h s)

  notes_write : (through : Option ℕ) (h : Hand) → note_write through (hand_behind h) ≡ hand_behind (note_write through h)
  notes_write None h = refl
  notes_write (Some i) h = refl

  puts_cell : (w : ℕ) (through : Option ℕ) (v : Owned) (h : Hand) → put_cell w through v (hand_behind h) ≡ option_map hand_behind (put_cell w through v h)
  puts_cell w through v h = if_same hand_behind _ _ _ (ap Some (notes_write through _))

  pub puts_slot : (i : ℕ) (v : Value) (h : Hand) → put_slot i v (hand_behind h) ≡ option_map hand_behind (put_slot i v h)
  puts_slot i v h = if_same hand_behind _ _ _ refl

  pub puts : (s : Spot) (v : Value) (h : Hand) → put_at s v (hand_behind h) ≡ option_map hand_behind (put_at s v h)
  puts (in_slot i) v h = puts_slot i v h
  puts on_top v h = refl
  puts (in_cell w through) (value.Own v) h = puts_cell w through v h
  puts (in_cell w through) _ h = refl
  puts (in_copy w) v h = refl
  puts nowhere v h = refl

  pub points : (s : Spot) (w : ℕ) (h : Hand) → set_pointer s w (hand_behind h) ≡ option_map hand_behind (set_pointer s w h)
  points s w h =
      ap (λ o. then_some o (λ v. then_some (with_word w v) (λ new. put_at s new (hand_behind h)))) (value_same h s)
      ∙ then_same hand_behind (value_at h s) _ _ (λ v. then_same hand_behind (with_word w v) _ _ (λ new. puts s new h))

  pub puts_word : (s : Spot) (n : NewWord) (h : Hand) → put_word s (word_behind n) (hand_behind h) ≡ option_map hand_behind (put_word s n h)
  puts_word s n h = points s n.word (record h { work = n.work })

  -- VALUES DROPPED

  pub gives_up : (v : Owned) (w : Work) → give_up v (work_behind w) ≡ work_behind (give_up v w)
  gives_up (owned.Box p) w = sends (server_of p.word) (message.Drop p.word p.object) (note (act.Condemn p.object p.word) w)
  gives_up (owned.Mutex m) w = sends m.home (message.Release (released.Mutex m)) (note (act.LetGo (released.Mutex m)) w)
  gives_up (owned.Task t) w = sends (home_of t) (message.Release (released.Task t)) (note (act.LetGo (released.Task t)) w)
  gives_up owned.Nothing w = refl
  gives_up owned.Unit w = refl
  gives_up (owned.Int i) w = refl

  unpins : (q : SharedRef) (b : Bool) (h : Hand) → unpin_ref q b (hand_behind h) ≡ option_map hand_behind (unpin_ref q b h)
  unpins q false h = refl
  unpins q true h = if_same hand_behind (can_unpin h.work.rest.cache q.word) _ _ refl

  finishes_at : (holder : Spot) (o : Option ℕ) (h : Hand) → finished_at holder o (hand_behind h) ≡ option_map hand_behind (finished_at holder o h)
  finishes_at holder None h = refl
  finishes_at holder (Some w) h = points holder w h

  finishes : (holder : Spot) (q : MutRef) (h : Hand) → finish holder q (hand_behind h) ≡ option_map hand_behind (finish holder q h)
  finishes holder q h = if_either (option_map hand_behind) q.dirty None (finished_at holder (finish_word q) h) None (finished_at holder (finish_word q) (hand_behind h)) refl (finishes_at holder (finish_word q) h)

  pub drops : (holder : Spot) (v : Value) (h : Hand) → drop_value holder v (hand_behind h) ≡ option_map hand_behind (drop_value holder v h)
  drops holder (value.Own v) h = ap (λ w. Some (record h { work = w })) (gives_up v h.work)
  drops holder (value.Shared q) h = unpins q q.pinned h
  drops holder (value.Mut q) h = finishes holder q h
  drops holder value.Gone h = refl
  drops holder (value.SharedSlot i) h = refl
  drops holder (value.MutSlot i) h = refl
  drops holder (value.Held m) h = refl
