-- What a server and a thread name: words, threads, mutexes, objects, holders, next colours. A name fits where its weight is nothing.
use Rattle.std.proofs.Common.{◌≡◌, ℕ, ◌+◌, ◌-◌, ◌^◌, ◌<◌, ◌==◌, not, Bool, true, false, nat_lt, if◌then◌else◌, List, [], ◌∷◌, ◌++◌, length, Option, Some, None, refl, ap, subst, ◌∙◌, arith}
use Rattle.std.specs.Prelude.{slice_get, slice_set, slice_index_or, map}
use Rattle.std.specs.List.{AllByRecursion}
use Rattle.std.specs.Bool.{⊤}
use Rattle.std.proofs.lemmas.Bool.Decides.{nat_tests}
use Rattle.law_counts_things.specs.Below.fr_base.declared.name.MutexNo.{MutexNo}
use Rattle.law_counts_things.specs.Below.fr_base.declared.name.ObjNo.{ObjNo}
use Rattle.law_counts_things.specs.Below.global_addr.Words.{word_of, colour_of, address_of, next_word}
use Rattle.law_counts_things.specs.Below.heap_partition.declared.value.Cell.{Cell}
use Rattle.law_counts_things.specs.Below.heap_partition.declared.value.Owned.{Owned}
use Rattle.law_counts_things.specs.Below.colour_retire.Colours.{picked, rest_of}
use Rattle.law_counts_things.specs.Below.owner_box.View.{PartitionState}
use Rattle.law_counts_things.specs.Below.owner_box.Partition.{cell_of, with_value, stored, put_cell, new_word, made, freed, made_again, renewed}
use Rattle.law_counts_things.specs.Below.read_cache.Cache.{Copy, copy_of, is_cached, users, can_unpin, with_users, fill, unpin, without_copy}
use Rattle.law_counts_things.specs.Below.migration.Packing.{unpin_all, unpinned}
use Rattle.law_counts_things.specs.Below.mutex_home.Mutexes.{Mutex, Mutexes}
use Rattle.law_counts_things.specs.Below.join_home.Tasks.{Task, TaskState, kept, asked, in_pair}
use Rattle.law_counts_things.specs.Below.thread_state.View.{ThreadState, is_over}
use Rattle.law_counts_things.specs.Below.thread_state.declared.phase.Phase.{Phase}
use Rattle.law_counts_things.specs.Below.thread_state.declared.value.Value.{Value}
use Rattle.law_counts_things.specs.Below.thread_state.declared.value.Value.TheVariants as value
use Rattle.law_counts_things.specs.Below.server_msgs.declared.message.Message.{Message}
use Rattle.law_counts_things.specs.Below.server_msgs.declared.message.Message.TheVariants as message
use Rattle.law_counts_things.specs.Below.server_model.Servers.{Sent, Rest}
use Rattle.law_counts_things.specs.Below.server_model.NewWords.{can_grow}
use Rattle.law_counts_things.specs.Below.coherent_memory.Names.{if_so}
use Rattle.law_counts_things.specs.Below.coherent_memory.Placing.{owned_word, message_word, phase_word}
use Rattle.law_counts_things.specs.Below.coherent_memory.Naming.{owned_thread, message_thread, phase_thread, fetched_mutex}
use Rattle.law_counts_things.specs.Below.coherent_memory.Sharing.{owned_mutex, phase_mutex}
use Rattle.law_counts_things.specs.Below.law_counts_sums.Laws.{Gives}
use Rattle.law_counts_things.proofs.Below.law_counts_sums.Objects.{length_set}
use Rattle.law_counts_things.proofs.Below.law_counts_sums.Known.{all_or, all_set, all_append}

-- how much each name weighs: a word, a thread, a mutex, the object of a cell, the stars of a holder, the next colour of a free address, how many objects
-- a thread has made, the mark of a lock among temporary values, a thread that asks with its server, a thread
-- that goes on with how many objects it has made, a copy of a cell with its word, and a word of which a copy was asked for
pub record Weights : Type 0 where
  pub word : ℕ → ℕ
  pub thread : ℕ → ℕ
  pub mutex : MutexNo → ℕ
  pub object : ObjNo → ℕ
  pub holder : ℕ → ℕ
  pub colour : ℕ → ℕ
  pub made : ℕ → ℕ
  pub mark : ℕ
  pub asker : ℕ → ℕ → ℕ
  pub going : ℕ → ℕ → ℕ
  pub copy : ℕ → Cell → ℕ
  pub wanted : ℕ → ℕ

-- who asks, with its server: by a request, and by an answer that goes to that server
abbrev pub message_asker : (ℕ → ℕ → ℕ) → ℕ → Message → ℕ
message_asker f n (message.Fetch v o s t) = f s t
message_asker f n (message.Move v o s t) = f s t
message_asker f n (message.Lock m s t) = f s t
message_asker f n (message.Dup m s t) = f s t
message_asker f n (message.Join u s t) = f s t
message_asker f n (message.Fetched v c t) = f n t
message_asker f n (message.Moved v c t) = f n t
message_asker f n (message.Granted m v t) = f n t
message_asker f n (message.Dupped m t) = f n t
message_asker f n (message.Joined u v t) = f n t
message_asker f n m = 0

-- words that a partition issues fit, and so do next colours, under a limit of colours
pub record Closed (w : Weights) (limit : ℕ) : Type 0 where
  pub issued : (c s a : ℕ) → s < 2 ^ 8 → a < 2 ^ 40 → w.colour c ≡ 0 → w.word (word_of c s a) ≡ 0
  pub first : w.colour 0 ≡ 0
  pub next : (v : ℕ) → nat_lt (colour_of v + 1) limit ≡ true → w.word (next_word v) ≡ 0
  pub later : (v : ℕ) → nat_lt (colour_of v + 1) limit ≡ true → w.colour (colour_of v + 1) ≡ 0

-- WHAT IS OF EACH OF A LIST

pub all_map : {X : Type 0} (P Q : X → Type 0) → ((x : X) → P x → Q x) → (xs : List X) → AllByRecursion P xs → AllByRecursion Q xs
all_map P Q f [] a = tt
all_map P Q f (x ∷ xs) a = (f x a.0, all_map P Q f xs a.1)

-- VALUES

module _ (w : Weights) where
  abbrev pub owned_weight : Owned → ℕ
  owned_weight v = owned_word w.word v + owned_thread w.thread v + owned_mutex w.mutex v

  abbrev pub value_weight : Value → ℕ
  value_weight (value.Own v) = owned_weight v
  value_weight (value.Shared r) = w.word r.word + w.thread r.object.thread
  value_weight (value.Mut r) = w.word r.word + w.word r.first + w.thread r.object.thread + w.holder r.holder.depth
  value_weight (value.Held m) = w.mutex m
  value_weight v = 0

  abbrev pub marks : Value → ℕ
  marks (value.Held m) = w.mark
  marks v = 0

  -- an owned value, any value, a temporary one
  abbrev pub OwnedFits : Owned → Type 0
  OwnedFits v = owned_weight v ≡ 0

  abbrev pub Fits : Value → Type 0
  Fits v = value_weight v ≡ 0

  abbrev pub TempFits : Value → Type 0
  TempFits v = value_weight v + marks v ≡ 0

  abbrev pub WordFits : ℕ → Type 0
  WordFits v = w.word v ≡ 0

  -- a copy of a cell; a cell
  abbrev pub body_weight : Cell → ℕ
  body_weight c = w.thread c.object.thread + owned_weight c.value

  abbrev pub CellFits : Cell → Type 0
  CellFits c = w.object c.object + body_weight c ≡ 0

  abbrev pub CopyFits : Copy → Type 0
  CopyFits c = w.word c.word + body_weight c.cell + w.copy c.word c.cell ≡ 0

  -- an owned value is a temporary one that fits, and what is on top of the temporary values fits
  pub owned_temp : (v : Owned) → OwnedFits v → TempFits (value.Own v)
  owned_temp v a = omega (arith, a)

  pub temp_fits : (v : Value) → TempFits v → Fits v
  temp_fits v a = omega (arith, a)

  -- THREADS

  pub record ThreadFit (number made : ℕ) (p : Phase) (gift : Option Owned) (walk : List ℕ) (slots temps : List Value) : Type 0 where
    pub named : w.thread number ≡ 0
    pub made_so : w.made made ≡ 0
    pub waits : phase_word w.word p + phase_thread w.thread p + phase_mutex w.mutex p ≡ 0
    pub given : Gives OwnedFits gift
    pub walks : AllByRecursion WordFits walk
    pub slots_fit : AllByRecursion Fits slots
    pub temps_fit : AllByRecursion TempFits temps

  abbrev pub ThreadBody : ThreadState → Type 0
  ThreadBody t = ThreadFit t.number t.made t.phase t.gift t.walk t.slots t.temps

  -- it is over, or has made as many as fits
  abbrev pub Live : ℕ → ℕ → Phase → Type 0
  Live number made p = if_so (not (is_over p)) (w.going number made) ≡ 0

  abbrev pub ThreadFits : ThreadState → Type 0
  ThreadFits t = ThreadBody t × Live t.number t.made t.phase

  -- MESSAGES

  -- what it names and what it carries, to that server
  abbrev pub MessageFits : ℕ → Message → Type 0
  MessageFits n (message.Start t) = ThreadFits t
  MessageFits n (message.Migrate t) = ThreadFits t
  MessageFits n (message.Moved v c t) = w.thread t + w.word v + (w.object c.object + body_weight c) + w.asker n t ≡ 0
  MessageFits n (message.Fetch v o s t) = w.thread o.thread + w.thread t + w.word v + w.asker s t + w.wanted v ≡ 0
  MessageFits n (message.Fetched v c t) = w.thread t + w.word v + body_weight c + w.asker n t + (w.copy v c + w.wanted v) ≡ 0
  MessageFits n (message.Granted m v t) = w.thread t + w.mutex m + owned_weight v + w.asker n t ≡ 0
  MessageFits n (message.Unlock m v) = w.mutex m + owned_weight v ≡ 0
  MessageFits n (message.Joined u v t) = w.thread u + w.thread t + owned_weight v + w.asker n t ≡ 0
  MessageFits n (message.Finished u v) = w.thread u + owned_weight v ≡ 0
  MessageFits n m = message_word w.word m + message_thread w.thread m + fetched_mutex w.mutex m + message_asker w.asker n m ≡ 0

  abbrev pub SentFits : Sent → Type 0
  SentFits x = MessageFits x.target x.message

  -- who waits for an answer
  abbrev pub AskerFits : ℕ × ℕ → Type 0
  AskerFits x = w.thread x.1 + w.asker x.0 x.1 ≡ 0

  -- PARTS OF A SERVER

  abbrev pub FreeFits : ℕ × ℕ → Type 0
  FreeFits x = (x.0 < 2 ^ 40) × (w.colour x.1 ≡ 0)

  pub record PartitionFit (limit : ℕ) (p : PartitionState) : Type 0 where
    pub cells_fit : AllByRecursion (Gives CellFits) p.cells
    pub free_fit : AllByRecursion FreeFits p.free
    pub small : p.server < 2 ^ 8
    pub limited : p.limit ≡ limit

  pub record MutexFit (m : Mutex) : Type 0 where
    pub named : w.mutex m.number ≡ 0
    pub inside : Gives OwnedFits m.content
    pub waiting : AllByRecursion AskerFits m.queue

  abbrev pub StateFits : TaskState → Type 0
  StateFits (asked s t) = w.thread t + w.asker s t ≡ 0
  StateFits (in_pair t over) = w.thread t ≡ 0
  StateFits (kept v) = OwnedFits v
  StateFits x = ⊤

  abbrev pub TaskFits : Task → Type 0
  TaskFits x = (w.thread x.thread ≡ 0) × StateFits x.state

  -- PARTITIONS

  module _ (limit : ℕ) (closed : Closed w limit) where
    valued : (v : Owned) (c : Option Cell) → OwnedFits v → Gives CellFits c → Gives CellFits (with_value v c)
    valued v None k a = tt
    valued v (Some c) k a = omega (arith, k, a)

    pub cell_fits : (p : PartitionState) (v : ℕ) → PartitionFit limit p → Gives CellFits (cell_of p v)
    cell_fits p v g = all_or (Gives CellFits) p.cells (address_of v) None g.cells_fit tt

    pub stored_fits : (p : PartitionState) (x : ℕ) (v : Owned) → OwnedFits v → PartitionFit limit p → PartitionFit limit (stored p x v)
    stored_fits p x v k g = record {
      cells_fit = all_set (Gives CellFits) p.cells (address_of x) (with_value v (cell_of p x)) g.cells_fit (valued v (cell_of p x) k (cell_fits p x g));
      free_fit = g.free_fit;
      small = g.small;
      limited = g.limited;
    }

    pub freed_fits : (p : PartitionState) (x : ℕ) → PartitionFit limit p → PartitionFit limit (freed p x)
    freed_fits p x g = record {
      cells_fit = all_set (Gives CellFits) p.cells (address_of x) None g.cells_fit tt;
      free_fit = by (nat_lt (colour_of x + 1) p.limit) refl;
      small = g.small;
      limited = g.limited;
    }
      where
        by : (b : Bool) → nat_lt (colour_of x + 1) p.limit ≡ b → AllByRecursion FreeFits (if b then (address_of x, colour_of x + 1) ∷ p.free else p.free)
        by true e = ((omega arith, closed.later x (subst (λ l. nat_lt (colour_of x + 1) l ≡ true) g.limited e)), g.free_fit)
        by false e = g.free_fit

    pub made_fits : (p : PartitionState) (c : Cell) → CellFits c → PartitionFit limit p → PartitionFit limit (made p c)
    made_fits p c k g = record {
      cells_fit = put (picked p.free (length p.cells)).0;
      free_fit = fewer p.free g.free_fit;
      small = g.small;
      limited = g.limited;
    }
      where
        put : (a : ℕ) → AllByRecursion (Gives CellFits) (put_cell p.cells a c)
        put a = by (a == length p.cells)
          where
            by : (b : Bool) → AllByRecursion (Gives CellFits) (if b then p.cells ++ Some c ∷ [] else slice_set p.cells a (Some c))
            by true = all_append (Gives CellFits) p.cells (Some c ∷ []) g.cells_fit (k, tt)
            by false = all_set (Gives CellFits) p.cells a (Some c) g.cells_fit k

        fewer : (xs : List (ℕ × ℕ)) → AllByRecursion FreeFits xs → AllByRecursion FreeFits (rest_of xs)
        fewer [] a = tt
        fewer (x ∷ xs) a = a.1

    pub renewed_fits : (p : PartitionState) (x : ℕ) → PartitionFit limit p → PartitionFit limit (renewed p x)
    renewed_fits p x g = by (cell_of p x) (cell_fits p x g)
      where
        by : (c : Option Cell) → Gives CellFits c → PartitionFit limit (made_again (freed p x) c)
        by None k = freed_fits p x g
        by (Some c) k = made_fits (freed p x) c k (freed_fits p x g)

    -- the word of the next object fits
    pub issued_fits : (p : PartitionState) → can_grow p ≡ true → PartitionFit limit p → WordFits (new_word p)
    issued_fits p grows g =
        let few : length p.cells < 2 ^ 40 = grind (arith, nat_tests, grows) in
        let place = at p.free few g.free_fit in
        closed.issued (picked p.free (length p.cells)).1 p.server (picked p.free (length p.cells)).0 g.small place.0 place.1
      where
        at : (xs : List (ℕ × ℕ)) → length p.cells < 2 ^ 40 → AllByRecursion FreeFits xs → FreeFits (picked xs (length p.cells))
        at [] l a = (l, closed.first)
        at (x ∷ xs) l a = a.0

    pub renewal_fits : (p : PartitionState) (x : ℕ) → can_grow p ≡ true → PartitionFit limit p → WordFits (new_word (freed p x))
    renewal_fits p x grows g =
        let more : can_grow (freed p x) ≡ true = ap (λ n. nat_lt n (2 ^ 40)) (length_set p.cells (address_of x) None) ∙ grows in
        issued_fits (freed p x) more (freed_fits p x g)

  -- COPIES

  pub copy_fits : (cs : List Copy) (v : ℕ) → AllByRecursion CopyFits cs → Gives (λ (c : Copy). CopyFits c × WordFits v) (copy_of cs v)
  copy_fits [] v a = tt
  copy_fits (c ∷ cs) v a = by (c.word == v) refl (copy_fits cs v a.1)
    where
      by : (b : Bool) → (c.word == v) ≡ b → Gives (λ (d : Copy). CopyFits d × WordFits v) (copy_of cs v) → Gives (λ (d : Copy). CopyFits d × WordFits v) (if b then Some c else copy_of cs v)
      by true e g =
          let same : c.word ≡ v = grind (arith, nat_tests, e) in
          let word : w.word c.word ≡ 0 = omega (arith, a.0) in
          (a.0, subst WordFits same word)
      by false e g = g

  -- a word that is cached fits
  pub cached_fits : (cs : List Copy) (v : ℕ) → is_cached cs v ≡ true → AllByRecursion CopyFits cs → WordFits v
  cached_fits cs v e a = by (copy_of cs v) e (copy_fits cs v a)
    where
      by : (o : Option Copy) → Rattle.std.specs.Prelude.is_some o ≡ true → Gives (λ (d : Copy). CopyFits d × WordFits v) o → WordFits v
      by None e g = absurd (cc e)
      by (Some c) e g = g.1

  pub users_fit : (cs : List Copy) (v n : ℕ) → AllByRecursion CopyFits cs → AllByRecursion CopyFits (with_users cs v n)
  users_fit [] v n a = tt
  users_fit (c ∷ cs) v n a = by (c.word == v) (users_fit cs v n a.1)
    where
      by : (b : Bool) → AllByRecursion CopyFits (with_users cs v n) → AllByRecursion CopyFits (if b then record c { users = n } ∷ cs else c ∷ with_users cs v n)
      by true g = (a.0, a.1)
      by false g = (a.0, g)

  pub unpinned_fit : (ws : List ℕ) (cs ds : List Copy) → unpin_all ws cs ≡ Some ds → AllByRecursion CopyFits cs → AllByRecursion CopyFits ds
  unpinned_fit [] cs ds e a = let same : cs ≡ ds = cc in subst (AllByRecursion CopyFits) same a
  unpinned_fit (v ∷ ws) cs ds e a = by (can_unpin cs v) (λ d. unpinned_fit ws (unpin cs v) ds d (users_fit cs v (users cs v - 1) a)) e
    where
      by : (b : Bool) → (unpin_all ws (unpin cs v) ≡ Some ds → AllByRecursion CopyFits ds) → (if b then unpin_all ws (unpin cs v) else None) ≡ Some ds → AllByRecursion CopyFits ds
      by true go d = go d
      by false go d = absurd (cc d)

  pub filled_fit : (cs : List Copy) (v : ℕ) (c : Cell) → w.word v + body_weight c + w.copy v c ≡ 0 → AllByRecursion CopyFits cs → AllByRecursion CopyFits (fill cs v c)
  filled_fit [] v c k a = (k, tt)
  filled_fit (x ∷ cs) v c k a = by (x.word == v) (filled_fit cs v c k a.1)
    where
      by : (b : Bool) → AllByRecursion CopyFits (fill cs v c) → AllByRecursion CopyFits (if b then x ∷ cs else x ∷ fill cs v c)
      by true g = a
      by false g = (a.0, g)

  pub without_fit : (cs : List Copy) (v : ℕ) → AllByRecursion CopyFits cs → AllByRecursion CopyFits (without_copy cs v)
  without_fit [] v a = tt
  without_fit (x ∷ cs) v a = by (x.word == v) (without_fit cs v a.1)
    where
      by : (b : Bool) → AllByRecursion CopyFits (without_copy cs v) → AllByRecursion CopyFits (if b then cs else x ∷ without_copy cs v)
      by true g = a.1
      by false g = (a.0, g)

  -- PARCELS

  unpinned_value : (v : Value) → value_weight (unpinned v) ≡ value_weight v
  unpinned_value (value.Shared r) = refl
  unpinned_value value.Gone = refl
  unpinned_value (value.Own v) = refl
  unpinned_value (value.SharedSlot i) = refl
  unpinned_value (value.MutSlot i) = refl
  unpinned_value (value.Mut r) = refl
  unpinned_value (value.Held m) = refl

  unpinned_mark : (v : Value) → marks (unpinned v) ≡ marks v
  unpinned_mark (value.Shared r) = refl
  unpinned_mark value.Gone = refl
  unpinned_mark (value.Own v) = refl
  unpinned_mark (value.SharedSlot i) = refl
  unpinned_mark (value.MutSlot i) = refl
  unpinned_mark (value.Mut r) = refl
  unpinned_mark (value.Held m) = refl

  slots_unpinned : (vs : List Value) → AllByRecursion Fits vs → AllByRecursion Fits (map unpinned vs)
  slots_unpinned [] a = tt
  slots_unpinned (v ∷ vs) a = (unpinned_value v ∙ a.0, slots_unpinned vs a.1)

  temps_unpinned : (vs : List Value) → AllByRecursion TempFits vs → AllByRecursion TempFits (map unpinned vs)
  temps_unpinned [] a = tt
  temps_unpinned (v ∷ vs) a = (omega (arith, unpinned_value v, unpinned_mark v, a.0), temps_unpinned vs a.1)

  -- a thread that leaves
  pub packed_fits : (t : ThreadState) → ThreadFits t → ThreadFit t.number t.made t.phase t.gift [] (map unpinned t.slots) (map unpinned t.temps) × Live t.number t.made t.phase
  packed_fits t g =
      let fit = g.0 in (
        record {
          named = fit.named;
          made_so = fit.made_so;
          waits = fit.waits;
          given = fit.given;
          walks = tt;
          slots_fit = slots_unpinned t.slots fit.slots_fit;
          temps_fit = temps_unpinned t.temps fit.temps_fit;
        },
        g.1,
      )

-- A SERVER

-- its number, how many threads and mutexes it has started and made, whose home it is, and the limit of colours
pub record Base : Type 0 where
  pub number : ℕ
  pub started : ℕ
  pub made : ℕ
  pub home : ℕ
  pub limit : ℕ

pub record RestFit (w : Weights) (b : Base) (number : ℕ) (p : PartitionState) (cs : List Copy) (ms : Mutexes) (ts : List Task) (inbox : List Message) (outbox : List Sent) (started : ℕ) : Type 0 where
  pub numbered : number ≡ b.number
  pub begun : started ≡ b.started
  pub made_so : ms.made ≡ b.made
  pub homed : ms.home ≡ b.home
  pub partition : PartitionFit w b.limit p
  pub copies : AllByRecursion (CopyFits w) cs
  pub mutexes : AllByRecursion (MutexFit w) ms.there
  pub tasks : AllByRecursion (TaskFits w) ts
  pub waiting : AllByRecursion (MessageFits w b.number) inbox
  pub leaving : AllByRecursion (SentFits w) outbox

abbrev pub RestFits : Weights → Base → Rest → Type 0
RestFits w b r = RestFit w b r.number r.partition r.cache r.mutexes r.tasks r.inbox r.outbox r.started
