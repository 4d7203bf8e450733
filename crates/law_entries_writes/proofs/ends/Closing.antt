-- The plain step with which a mutable reference ends, from a hand in which objects got words: the reference goes, the pointer at its holder gets its word, in a slot or in a cell, and the entry leads on.
use Rattle.std.proofs.Common.{◌≡◌, ℕ, ◌+◌, ◌||◌, ◌&&◌, Bool, true, false, if◌then◌else◌, List, [], ◌∷◌, ◌++◌, length, Option, Some, None, nat_lt, refl, sym, ap, subst, ◌∙◌, arith}
use Rattle.std.specs.Prelude.{slice_get, slice_set, option_map}
use Rattle.law_entries_reads.specs.Below.law_entries_variables.Below.law_words_ends.Below.fr_base.Lists.{is_in}
use Rattle.law_entries_reads.specs.Below.law_entries_variables.Below.law_words_ends.Below.fr_base.declared.instruction.Instr.TheVariants as instr
use Rattle.law_entries_reads.specs.Below.law_entries_variables.Below.law_words_ends.Below.fr_base.declared.instruction.Operand.{Operand}
use Rattle.law_entries_reads.specs.Below.law_entries_variables.Below.law_words_ends.Below.fr_base.declared.instruction.Operand.TheVariants as operand
use Rattle.law_entries_reads.specs.Below.law_entries_variables.Below.law_words_ends.Below.fr_base.declared.place.Lval.{Lval}
use Rattle.law_entries_reads.specs.Below.law_entries_variables.Below.law_words_ends.Below.fr_base.declared.label.Plain.{Plain}
use Rattle.law_entries_reads.specs.Below.law_entries_variables.Below.law_words_ends.Below.fr_base.declared.name.ObjNo.{ObjNo}
use Rattle.law_entries_reads.specs.Below.law_entries_variables.Below.law_words_ends.Below.fr_base.declared.settings.Options.{Options}
use Rattle.law_entries_reads.specs.Below.law_entries_variables.Below.law_words_ends.Below.fr_base.declared.step.Fresh.TheVariants as fresh
use Rattle.law_entries_reads.specs.Below.law_entries_variables.Below.law_words_ends.Below.heap_partition.Plain.{plain_of}
use Rattle.law_entries_reads.specs.Below.law_entries_variables.Below.law_words_ends.Below.heap_partition.declared.value.BoxPtr.{BoxPtr}
use Rattle.law_entries_reads.specs.Below.law_entries_variables.Below.law_words_ends.Below.heap_partition.declared.value.Cell.{Cell}
use Rattle.law_entries_reads.specs.Below.law_entries_variables.Below.law_words_ends.Below.heap_partition.declared.value.Owned.{Owned}
use Rattle.law_entries_reads.specs.Below.law_entries_variables.Below.law_words_ends.Below.heap_partition.declared.value.Owned.TheVariants as owned
use Rattle.law_entries_reads.specs.Below.law_entries_variables.Below.law_words_ends.Below.mut_borrow.declared.mutable.MutRef.{MutRef}
use Rattle.law_entries_reads.specs.Below.law_entries_variables.Below.law_words_ends.Below.mut_borrow.Refs.{finish_word}
use Rattle.law_entries_reads.specs.Below.law_entries_variables.Below.law_words_ends.Below.owner_box.View.{PartitionState}
use Rattle.law_entries_reads.specs.Below.law_entries_variables.Below.law_words_ends.Below.owner_box.Partition.{stored}
use Rattle.law_entries_reads.specs.Below.law_entries_variables.Below.law_words_ends.Below.thread_state.View.{ThreadState, is_over}
use Rattle.law_entries_reads.specs.Below.law_entries_variables.Below.law_words_ends.Below.thread_state.declared.value.Value.{Value}
use Rattle.law_entries_reads.specs.Below.law_entries_variables.Below.law_words_ends.Below.thread_state.declared.value.Value.TheVariants as value
use Rattle.law_entries_reads.specs.Below.law_entries_variables.Below.law_words_ends.Below.server_model.Servers.{Rest, Server, Cluster, server_at}
use Rattle.law_entries_reads.specs.Below.law_entries_variables.Below.law_words_ends.Below.server_model.Work.{Hand, Popped, last_of, front_of, with_slots, with_temps, with_partition, working, then_some, pop, thread_in, set_thread, look, leads_here}
use Rattle.law_entries_reads.specs.Below.law_entries_variables.Below.law_words_ends.Below.server_model.Places.{Spot, in_slot, on_top, in_cell, in_copy, nowhere, value_at, value_in, written, note_slot, note_write, with_word, put_slot, put_at, set_pointer}
use Rattle.law_entries_reads.specs.Below.law_entries_variables.Below.law_words_ends.Below.server_model.Drop.{drop_value, finished_at}
use Rattle.law_entries_reads.specs.Below.law_entries_variables.Below.law_words_ends.Below.server_model.Commit.{goes_on, label_dropped, replace_slot, assign, discard, drop_slot, commit}
use Rattle.law_entries_reads.specs.Below.law_entries_variables.Below.law_words_ends.Below.server_model.Events.{Stepped, committed, stepped}
use Rattle.law_entries_writes.specs.Below.law_entries_variables.Below.coloured_heap.Heap.{Coloured, Place}
use Rattle.law_entries_reads.specs.Below.law_entries_variables.Below.law_words_ends.Below.coherent_memory.Names.{tot, one, some}
use Rattle.law_entries_reads.specs.Below.law_entries_variables.Below.law_words_ends.Below.coherent_memory.Things.{Thing, lies, vacant, retired, stands, things_at, slot_things, cell_things, free_things, is_free, partition_things, things_of}
use Rattle.law_entries_reads.specs.Below.law_entries_variables.Below.law_words_ends.Below.coherent_memory.Sight.{is_spot, colour_up_to, sight, issued}
use Rattle.law_entries_reads.specs.Below.law_entries_variables.Below.law_words_ends.Below.coherent_memory.Naming.{started_at, made_at}
use Rattle.law_entries_reads.specs.Below.law_entries_variables.Below.law_words_ends.Below.coherent_memory.Weights.{is_thread}
use Rattle.law_entries_reads.specs.Below.law_entries_variables.Below.law_words_ends.Below.coherent_memory.Words.{HasWords}
use Rattle.law_entries_reads.specs.Below.law_entries_variables.Below.law_words_ends.Below.coherent_memory.Colours.{StandsColoured}
use Rattle.law_entries_reads.specs.Below.law_entries_variables.Below.law_words_ends.Below.coherent_types.ClusterTypes.{IsCoherent}
use Rattle.law_entries_reads.specs.Below.law_entries_variables.Below.law_words_ends.Below.law_counts_sums.Laws.{Gives}
use Rattle.law_entries_reads.proofs.Below.law_entries_variables.Below.law_words_ends.Below.law_counts_sums.Trades.{tot-append, trade_whole}
use Rattle.law_entries_reads.proofs.Below.law_entries_variables.Below.law_words_ends.Below.law_counts_sums.Bags.{rest_things, of_partition}
use Rattle.law_entries_reads.proofs.Below.law_entries_variables.Below.law_words_ends.Below.law_counts_sums.Events.{tot-server}
use Rattle.law_entries_reads.proofs.Below.law_entries_variables.Below.law_words_ends.variables.EndHands.{bare}
use Rattle.law_entries_writes.specs.Below.law_entries_variables.Below.law_heap_still.events.Shows.{frame_of}
use Rattle.law_entries_writes.proofs.Below.law_entries_variables.Below.law_heap_still.events.Told.{told, tot_same, at_thread}
use Rattle.law_entries_writes.proofs.Below.law_entries_variables.deliveries.Answers.{Answers, answers_of, Fits, fits}
use Rattle.law_entries_writes.proofs.Below.law_entries_variables.deliveries.Weighed.{marks_of}
use Rattle.law_entries_writes.proofs.Below.law_entries_variables.deliveries.Shown.{placed_in, dropped_by, copy_in, served_in, wished_in, holder_by, runs, there_in}
use Rattle.law_entries_writes.proofs.Below.law_entries_variables.deliveries.Live.{issued_by, issued_seen, issued_told}
use Rattle.law_entries_writes.proofs.Below.law_entries_variables.deliveries.After.{Follows}
use Rattle.law_entries_writes.proofs.Below.law_entries_variables.deliveries.Applied.{server_there}
use Rattle.law_entries_writes.proofs.Below.law_entries_variables.Below.law_heap_still.events.Tests.{numbers}
use Rattle.law_entries_writes.proofs.Below.law_entries_variables.still.Kept.{masked_of}
use Rattle.law_entries_reads.proofs.Below.law_entries_variables.variables.Holders.{gifted}
use Rattle.law_entries_reads.proofs.Below.law_entries_variables.variables.Slots.{IsUnmarked, slot_popped, slot_put}
use Rattle.law_entries_reads.proofs.Below.law_entries_variables.variables.Turning.{Turning, rethreaded, slots_alike, labelled, turned_server}
use Rattle.law_entries_reads.proofs.Below.law_entries_variables.variables.Led.{LedWith, Steps, done_entry, done_leads, goes_on_led}
use Rattle.law_entries_reads.proofs.Below.law_entries_variables.variables.InStep.{by_number}
use Rattle.law_entries_reads.proofs.Below.law_entries_variables.variables.Quiets.{names_none, running_here, it_runs}
use Rattle.law_heap_writes.proofs.Below.law_words_writes.Below.law_words_kept.prepared.Hands.{put}
use Rattle.law_entries_writes.proofs.Below.law_entries_reads.asks.Recoloured.{NewWords, given_words, recoloured}
use Rattle.law_entries_writes.proofs.Below.law_entries_reads.asks.Agreeing.{Rewords}
use Rattle.law_entries_writes.proofs.Below.law_entries_reads.asks.Frames.{SameFrames, marks_same}
use Rattle.law_entries_writes.proofs.Below.law_entries_reads.asks.KeptRest.{set_frames}
use Rattle.law_entries_writes.proofs.walks.Weights.{placed_blind}
use Rattle.law_entries_writes.proofs.walks.Given.{Given, issued_now}
use Rattle.law_entries_writes.proofs.walks.Partitions.{stored_blind, stored_issues}
use Rattle.law_entries_writes.proofs.ends.Agreeing.{Bland, ended_agrees}

-- A PARTITION

none_at : {A : Type 0} (f : Thing → ℕ) (g : ℕ → A → List Thing) → ((i : ℕ) (x : A) → tot f (g i x) ≡ 0) → (i : ℕ) (xs : List A) → tot f (things_at g i xs) ≡ 0
none_at f g none i [] = refl
none_at f g none i (x ∷ xs) = omega (arith, none i x, none_at f g none (i + 1) xs, tot-append f (g i x) (things_at g (i + 1) xs))

-- what sees no object at an address and no address sees nothing of it
pub partition_none : (f : Thing → ℕ) → ((r a : ℕ) (c : Cell) → f (lies r a c) ≡ 0) → ((r a i : ℕ) → f (vacant r a i) ≡ 0) → ((r a : ℕ) → f (retired r a) ≡ 0) → (n : ℕ) (p : PartitionState) → tot f (partition_things n p) ≡ 0
partition_none f lie free gone n p =
    omega (
      arith,
      none_at f (cell_things n p.free) at_cell 0 p.cells,
      none_at f (free_things n) (λ i x. let none = free n x.0 x.1 in omega (arith, none)) 0 p.free,
      tot-append f (things_at (cell_things n p.free) 0 p.cells) (things_at (free_things n) 0 p.free),
    )
  where
    at_cell : (i : ℕ) (o : Option Cell) → tot f (cell_things n p.free i o) ≡ 0
    at_cell i (Some c) = let none = lie n i c in omega (arith, none)
    at_cell i None = by (is_free i p.free)
      where
        by : (b : Bool) → tot f (if b then [] else retired n i ∷ []) ≡ 0
        by true = refl
        by false = let none = gone n i in omega (arith, none)

-- partitions in which objects show the same are seen alike but for words
bland_partition : (n : ℕ) (p q : PartitionState) → ((o : ObjNo) (g : Plain × Place → ℕ) → tot (λ x. told g (placed_in o x)) (partition_things n p) ≡ tot (λ x. told g (placed_in o x)) (partition_things n q)) → Bland (partition_things n p) (partition_things n q)
bland_partition n p q objects = record {
  objects = objects;
  drops = λ o. both (dropped_by o) (λ r a c. refl) (λ r a i. refl) (λ r a. refl);
  copies = λ r w g. both (λ x. told g (copy_in r w x)) (λ r a c. refl) (λ r a i. refl) (λ r a. refl);
  served = λ b. both (served_in b) (λ r a c. refl) (λ r a i. refl) (λ r a. refl);
  wishes = λ b. both (wished_in b) (λ r a c. refl) (λ r a i. refl) (λ r a. refl);
  started = λ r w. both (started_at r w) (λ r a c. refl) (λ r a i. refl) (λ r a. refl);
  made = λ r w. both (made_at r w) (λ r a c. refl) (λ r a i. refl) (λ r a. refl);
  threads = λ t. both (is_thread t) (λ r a c. refl) (λ r a i. refl) (λ r a. refl);
  running = λ t g. both (runs g t) (λ r a c. refl) (λ r a i. refl) (λ r a. refl);
  there = λ m. both (there_in m) (λ r a c. refl) (λ r a i. refl) (λ r a. refl);
  holders = λ k m g. both (λ x. told g (holder_by (sight k) m x)) (λ r a c. refl) (λ r a i. refl) (λ r a. refl);
  slots = λ h t. both (at_thread (λ v. h (masked_of v)) t) (λ r a c. refl) (λ r a i. refl) (λ r a. refl);
  gifts = λ mine. both (gifted mine) (λ r a c. refl) (λ r a i. refl) (λ r a. refl);
}
  where
    both : (f : Thing → ℕ) → ((r a : ℕ) (c : Cell) → f (lies r a c) ≡ 0) → ((r a i : ℕ) → f (vacant r a i) ≡ 0) → ((r a : ℕ) → f (retired r a) ≡ 0) → tot f (partition_things n p) ≡ tot f (partition_things n q)
    both f lie free gone = partition_none f lie free gone n p ∙ sym (partition_none f lie free gone n q)

-- VALUES

-- a pointer with another word is no mark, nor was it one
reworded : (w : ℕ) (v new : Value) → with_word w v ≡ Some new → IsUnmarked v × IsUnmarked new
reworded w (value.Own (owned.Box p)) new e = let same : value.Own (owned.Box (record p { word = w })) ≡ new = cc in (tt, subst IsUnmarked same tt)
reworded w (value.Mut r) new e = let same : value.Mut (record r { word = w; dirty = false }) ≡ new = cc in (tt, subst IsUnmarked same tt)
reworded w (value.Own owned.Nothing) new e = absurd (cc e)
reworded w (value.Own owned.Unit) new e = absurd (cc e)
reworded w (value.Own (owned.Int i)) new e = absurd (cc e)
reworded w (value.Own (owned.Mutex m)) new e = absurd (cc e)
reworded w (value.Own (owned.Task u)) new e = absurd (cc e)
reworded w value.Gone new e = absurd (cc e)
reworded w (value.SharedSlot i) new e = absurd (cc e)
reworded w (value.MutSlot i) new e = absurd (cc e)
reworded w (value.Shared q) new e = absurd (cc e)
reworded w (value.Held m) new e = absurd (cc e)

-- a value that is marked shows what it showed
written_frame : (v : Value) → frame_of (written v) ≡ frame_of v
written_frame value.Gone = refl
written_frame (value.Own v) = refl
written_frame (value.SharedSlot i) = refl
written_frame (value.MutSlot i) = refl
written_frame (value.Shared r) = refl
written_frame (value.Mut r) = refl
written_frame (value.Held m) = refl

noted_frames : (vs : List Value) (i : ℕ) → SameFrames (note_slot vs i (slice_get vs i)) vs
noted_frames vs i = by (slice_get vs i) refl
  where
    by : (o : Option Value) → slice_get vs i ≡ o → SameFrames (note_slot vs i o) vs
    by None e = refl
    by (Some v) e = set_frames vs i v (written v) e (written_frame v)

module _ (k : Cluster) (coherent : IsCoherent k) (s : Server) (here : server_at k.servers s.rest.number ≡ Some s) (t : ℕ) (y : ThreadState) (at : thread_in s.threads t ≡ Some y) (c0 : Coloured) (is_coloured : StandsColoured k c0) where
  abbrev n : ℕ
  n = s.rest.number

  abbrev P : Hand → Cluster
  P = put k coherent s here t y at

  abbrev before : HasWords (sight k)
  before = coherent.sound.words.have_words

  abbrev q0 : Answers
  q0 = answers_of (sight k)

  abbrev things : PartitionState → List Thing
  things p = partition_things n p

  -- objects show in it what they showed
  abbrev ShowsObjects : PartitionState → Type 0
  ShowsObjects p = (o : ObjNo) (g : Plain × Place → ℕ) → tot (λ x. told g (placed_in o x)) (things s.rest.partition) ≡ tot (λ x. told g (placed_in o x)) (things p)

  module _ (live : is_over y.phase ≡ false) (free : y.gift ≡ None) (h : Hand) (l : NewWords) (w : Given k coherent s here t y at c0 is_coloured h l) where
    abbrev mine : thread_in s.threads y.number ≡ Some y
    mine = by_number s t y at

    named : h.thread.number ≡ y.number
    named = ap (λ (x : ThreadState). x.number) w.thread

    -- what is known of the cluster afterwards
    abbrev pub Known : Cluster → Type 0
    Known c = Rewords k c l before

    abbrev S : Hand → Type 0
    S = Steps Known k s y c0 fresh.None false

    abbrev H : Hand
    H = bare h

    abbrev p : PartitionState
    p = h.work.rest.partition

    -- how far the step is, with that partition
    abbrev Turns : PartitionState → Hand → Type 0
    Turns r = Turning s y (things s.rest.partition) (things r) h.work.acts

    begun : Turns p H
    begun = record {
      named = named;
      number = ap (λ (r : Rest). r.number) w.rest;
      noted = refl;
      labels = refl;
      things = λ f i.
          let there : tot f (rest_things n 0 h.work.rest) ≡ tot f (rest_things n 0 (record s.rest { partition = p })) = ap (λ r. tot f (rest_things n 0 r)) w.rest in
          let trade = of_partition n 0 s.rest p (trade_whole (things s.rest.partition) (things p)) in
          let marks : marks_of f i h.thread ≡ marks_of f i y = ap (λ j. tot f (things_at (slot_things 0 j) 0 h.thread.slots)) named ∙ marks_same f i 0 y.number 0 h.thread.slots y.slots w.frames in
          omega (
            arith,
            there,
            marks,
            trade.before f,
            trade.after f,
            i.counted n (length s.rest.partition.cells) s.rest.partition.retired s.rest.started s.rest.mutexes.made 0,
            i.counted n (length p.cells) p.retired s.rest.started s.rest.mutexes.made 0,
          );
    }

    -- the partition is another one
    repartitioned : (r : PartitionState) (g : Hand) → Turns g.work.rest.partition g → Turns r (working (with_partition r) g)
    repartitioned r g u = record {
      named = u.named;
      number = u.number;
      noted = u.noted;
      labels = u.labels;
      things = λ f i.
          let trade = of_partition n 0 g.work.rest r (trade_whole (things g.work.rest.partition) (things r)) in
          omega (
            arith,
            u.things f i,
            trade.before f,
            trade.after f,
            i.counted n (length g.work.rest.partition.cells) g.work.rest.partition.retired g.work.rest.started g.work.rest.mutexes.made 0,
            i.counted n (length r.cells) r.retired g.work.rest.started g.work.rest.mutexes.made 0,
          );
    }

    -- WHAT IS LEFT

    -- in it objects show what they showed, and the words are issued that were
    record Fine (r : PartitionState) : Type 0 where
      objects : ShowsObjects r
      issued : (u : ObjNo → ℕ) (colours v : ℕ) → tot (issued_by u colours v) (things r) ≡ tot (issued_by u colours v) (things p)

    fine : Fine p
    fine = record { objects = λ o f. sym (w.blind (λ x. told f (placed_in o x)) (placed_blind o f)); issued = λ u colours v. refl }

    abbrev ThreadThing : ThreadState → Thing
    ThreadThing z = stands n false z

    module _ (r : PartitionState) (ok : Fine r) (c : Cluster) (z : ThreadState) (f : Follows k c (ThreadThing y ∷ things s.rest.partition) (ThreadThing z ∷ things r)) (words : Rewords k c l before) (v : ℕ) where
      abbrev G : Thing → ℕ
      G = issued_by (words.after).word k.options.colours v

      abbrev left : Server
      left = record { rest = h.work.rest; threads = set_thread s.threads h.thread; events = s.events + 1 }

      words_same : (x : Thing) → issued_by ((w.rewords).after).word k.options.colours v x ≡ G x
      words_same (lies q a d) = ap (λ o. one (is_spot q a v && colour_up_to (Some o) v)) ((w.rewords).word d.object ∙ sym (words.word d.object))
      words_same _ = refl

      sums : tot G (things_of (P h)) ≡ tot G (things_of c)
      sums =
          let turned = turned_server s y (things s.rest.partition) (things p) h.work.acts H begun mine in
          let there = tot-server G k.servers n s left here in
          omega (arith, f.things G (issued_seen (words.after).word k.options.colours v), turned G (issued_seen (words.after).word k.options.colours v), there.0, there.1, ok.issued (words.after).word k.options.colours v)

      issued_then : is_in v (given_words l) || issued (sight k) v ≡ issued (sight c) v
      issued_then =
          w.issues v ∙ issued_now k coherent s here t y at c0 is_coloured h l w v ∙ issued_told (P h) (w.rewords).after v ∙ ap some (tot_same (issued_by ((w.rewords).after).word k.options.colours v) G words_same (things_of (P h)) ∙ sums)
          ∙ ap (λ o. some (tot (issued_by (words.after).word o v) (things_of c))) (sym (ap (λ (o : Options). o.colours) f.options)) ∙ sym (issued_told c words.after v)

    -- from such a hand the entry leads on
    closes : (r : PartitionState) (g : Hand) → Turns r g → g.thread.gift ≡ None → Fine r → S g
    closes r g u bare_now ok = record {
      olds = things s.rest.partition;
      news = things r;
      acts = h.work.acts;
      turned = u;
      gift = bare_now;
      leads = λ c z its none on f words.
          let q1 : Answers = recoloured l q0 in
          let all : Fits q0 c0 = fits (sight k) c0 is_coloured in
          done_leads k.options n y.number fresh.None h.work.acts g.work.labels c0 q0 q1 q1 c u.labels all (server_there k coherent.sound n s here).0 (running_here k coherent.sound n s here c0 is_coloured y mine live) (it_runs k coherent.sound n s here c0 is_coloured y mine live) (numbers.itself n)
          (w.runs (done_entry n y.number fresh.None h.work.acts g.work.labels) refl) (names_none n y.number h.work.acts g.work.labels q1)
          (ended_agrees k c coherent.sound n s here c0 is_coloured y mine live free z its on none (things s.rest.partition) (things r) f (bland_partition n s.rest.partition r ok.objects) l words (λ v. issued_then r ok c z f words v));
    }

    -- THE HOLDER'S POINTER

    -- in a slot
    slot_gets : (i v : ℕ) (g : Hand) → Turns p g → g.thread.gift ≡ None → Gives S (set_pointer (in_slot i) v g)
    slot_gets i v g u none = by (slice_get g.thread.slots i) refl
      where
        puts_it : (a new : Value) → slice_get g.thread.slots i ≡ Some a → IsUnmarked a × IsUnmarked new → (b : Bool) → Gives S (if b then Some (with_slots (slice_set g.thread.slots i new) g) else None)
        puts_it a new e m true = closes p (with_slots (slice_set g.thread.slots i new) g) (slots_alike s y (things s.rest.partition) (things p) h.work.acts g u (slice_set g.thread.slots i new) (λ f j. slot_put f j 0 g.thread.number g.thread.slots i a new e m.0 m.1)) none fine
        puts_it a new e m false = tt

        worded : (a : Value) → slice_get g.thread.slots i ≡ Some a → (o : Option Value) → with_word v a ≡ o → Gives S (then_some o (λ new. put_at (in_slot i) new g))
        worded a e None q = tt
        worded a e (Some new) q = puts_it a new e (reworded v a new q) (nat_lt i (length g.thread.slots))

        by : (o : Option Value) → slice_get g.thread.slots i ≡ o → Gives S (then_some o (λ a. then_some (with_word v a) (λ new. put_at (in_slot i) new g)))
        by None e = tt
        by (Some a) e = worded a e (with_word v a) refl

    -- in a cell
    module _ (b : ℕ) (through : Option ℕ) (v : ℕ) (g : Hand) (u : Turns p g) (none : g.thread.gift ≡ None) (same : g.work.rest.partition ≡ p) where
      abbrev boxed : BoxPtr → Owned
      boxed x = owned.Box (record x { word = v })

      stored_fine : (c : Cell) (x : BoxPtr) → look p b ≡ Some c → c.value ≡ owned.Box x → Fine (stored p b (boxed x))
      stored_fine c x e is = record {
        objects = λ o f. fine.objects o f ∙ sym (stored_blind (λ z. told f (placed_in o z)) (placed_blind o f) n p b c (boxed x) e (sym (ap plain_of is)));
        issued = λ a colours i. stored_issues a colours i n p b c (boxed x) e;
      }

      marked : (r : PartitionState) (q : Option ℕ) → Fine r → (k2 : Hand) → Turns r k2 → k2.thread.gift ≡ None → S (note_write q k2)
      marked r None ok k2 a bare_now = closes r k2 a bare_now ok
      marked r (Some i) ok k2 a bare_now =
          let vs : List Value = note_slot k2.thread.slots i (slice_get k2.thread.slots i) in
          closes r (with_slots vs k2) (slots_alike s y (things s.rest.partition) (things r) h.work.acts k2 a vs (λ f j. marks_same f j 0 k2.thread.number 0 vs k2.thread.slots (noted_frames k2.thread.slots i))) bare_now ok

      cell_gets : Gives S (set_pointer (in_cell b through) v g)
      cell_gets = by (look g.work.rest.partition b) refl
        where
          at_box : (c : Cell) → look g.work.rest.partition b ≡ Some c → (a : Owned) → c.value ≡ a → Gives S (then_some (with_word v (value.Own a)) (λ new. put_at (in_cell b through) new g))
          at_box c e (owned.Box x) is = puts_it (leads_here g.work.rest.partition b)
            where
              now : look p b ≡ Some c
              now = ap (λ z. look z b) (sym same) ∙ e

              r : PartitionState
              r = stored g.work.rest.partition b (boxed x)

              ok : Fine r
              ok = subst (λ z. Fine (stored z b (boxed x))) (sym same) (stored_fine c x now is)

              puts_it : (d : Bool) → Gives S (if d then Some (note_write through (working (with_partition r) g)) else None)
              puts_it true = marked r through ok (working (with_partition r) g) (repartitioned r g (subst (λ z. Turns z g) (sym same) u)) none
              puts_it false = tt
          at_box c e owned.Nothing is = tt
          at_box c e owned.Unit is = tt
          at_box c e (owned.Int i) is = tt
          at_box c e (owned.Mutex m) is = tt
          at_box c e (owned.Task j) is = tt

          by : (o : Option Cell) → look g.work.rest.partition b ≡ o → Gives S (then_some (value_in o) (λ a. then_some (with_word v a) (λ new. put_at (in_cell b through) new g)))
          by None e = tt
          by (Some c) e = at_box c e c.value refl

    -- on top, which is no holder's place
    top_gets : (v : ℕ) (g : Hand) → Turns p g → g.thread.gift ≡ None → Gives S (set_pointer on_top v g)
    top_gets v g u none = by (last_of g.thread.temps)
      where
        worded : (o : Option Value) → Gives S (then_some o (λ new. put_at on_top new g))
        worded None = tt
        worded (Some new) =
            let z : ThreadState = record g.thread { temps = front_of g.thread.temps ++ new ∷ [] } in
            closes p (record g { thread = z }) (rethreaded s y (things s.rest.partition) (things p) h.work.acts g u z refl refl) none fine

        by : (o : Option Value) → Gives S (then_some o (λ a. then_some (with_word v a) (λ new. put_at on_top new g)))
        by None = tt
        by (Some a) = worded (with_word v a)

    -- no copy is written
    copy_gets : (b v : ℕ) (g : Hand) → Gives S (set_pointer (in_copy b) v g)
    copy_gets b v g = by (value_at g (in_copy b))
      where
        worded : (o : Option Value) → Gives S (then_some o (λ new. put_at (in_copy b) new g))
        worded None = tt
        worded (Some new) = tt

        by : (o : Option Value) → Gives S (then_some o (λ a. then_some (with_word v a) (λ new. put_at (in_copy b) new g)))
        by None = tt
        by (Some a) = worded (with_word v a)

    gets : (sp : Spot) (v : ℕ) (g : Hand) → Turns p g → g.thread.gift ≡ None → g.work.rest.partition ≡ p → Gives S (set_pointer sp v g)
    gets (in_slot i) v g u none same = slot_gets i v g u none
    gets on_top v g u none same = top_gets v g u none
    gets (in_cell b through) v g u none same = cell_gets b through v g u none same
    gets (in_copy b) v g u none same = copy_gets b v g
    gets nowhere v g u none same = tt

    -- THE REFERENCE GOES

    finishes : (sp : Spot) (r : MutRef) (g : Hand) → Turns p g → g.thread.gift ≡ None → g.work.rest.partition ≡ p → Gives S (drop_value sp (value.Mut r) (label_dropped (value.Mut r) g))
    finishes sp r g u none same = by r.dirty
      where
        g1 : Hand
        g1 = label_dropped (value.Mut r) g

        u1 : Turns p g1
        u1 = labelled s y (things s.rest.partition) (things p) h.work.acts g u [] refl

        at_holder : (o : Option ℕ) → Gives S (finished_at sp o g1)
        at_holder None = closes p g1 u1 none fine
        at_holder (Some v) = gets sp v g1 u1 none same

        by : (b : Bool) → Gives S (if b then None else finished_at sp (finish_word r) g1)
        by true = tt
        by false = at_holder (finish_word r)

    abbrev Leads : Stepped → Type 0
    Leads d = LedWith Known k s c0 (stepped s d)

    unmoved : H.thread.gift ≡ None
    unmoved = ap (λ (x : ThreadState). x.gift) w.thread ∙ free

    -- from the hand
    pub discard_leads : (servers : ℕ) (sp : Spot) (r : MutRef) → last_of h.thread.temps ≡ Some (value.Mut r) → Gives Leads (committed (commit servers instr.Discard sp H))
    discard_leads servers sp r e =
        goes_on_led Known k s y mine c0 fresh.None (discard sp H)
        (subst (λ o. Gives S (then_some (option_map (λ u. record { item = u; hand = with_temps (front_of h.thread.temps) H }) o) (λ (z : Popped Value). drop_value sp z.item (label_dropped z.item z.hand)))) (sym e)
        (finishes sp r (with_temps (front_of h.thread.temps) H) (rethreaded s y (things s.rest.partition) (things p) h.work.acts H begun (record h.thread { temps = front_of h.thread.temps }) refl refl) unmoved refl))

    -- with the newest slot
    pub drop_leads : (servers : ℕ) (sp : Spot) (r : MutRef) → last_of h.thread.slots ≡ Some (value.Mut r) → Gives Leads (committed (commit servers instr.DropSlot sp H))
    drop_leads servers sp r e =
        goes_on_led Known k s y mine c0 fresh.None (drop_slot sp H)
        (subst (λ o. Gives S (then_some (option_map (λ u. record { item = u; hand = with_slots (front_of h.thread.slots) H }) o) (λ (z : Popped Value). drop_value sp z.item (label_dropped z.item z.hand)))) (sym e)
        (finishes sp r (with_slots (front_of h.thread.slots) H) (slots_alike s y (things s.rest.partition) (things p) h.work.acts H begun (front_of h.thread.slots) (λ f i. slot_popped f i 0 h.thread.number h.thread.slots (value.Mut r) e tt)) unmoved refl))

    -- a variable is assigned
    module _ (j : ℕ) (r : MutRef) (e : slice_get h.thread.slots j ≡ Some (value.Mut r)) (sp : Spot) (tops : (v : Value) → last_of h.thread.temps ≡ Some v → IsUnmarked v) where
      put_over : (v : Value) → IsUnmarked v → (ts : List Value) → Gives S (replace_slot j sp v (with_temps ts H))
      put_over v unmarked ts = subst (λ o. Gives S (then_some o (λ u. then_some (put_slot j v (label_dropped u (with_temps ts H))) (drop_value sp u)))) (sym e) (by (nat_lt j (length h.thread.slots)))
        where
          g : Hand
          g = with_slots (slice_set h.thread.slots j v) (with_temps ts H)

          turned : Turns p g
          turned =
              slots_alike s y (things s.rest.partition) (things p) h.work.acts (with_temps ts H) (rethreaded s y (things s.rest.partition) (things p) h.work.acts H begun (record h.thread { temps = ts }) refl refl) (slice_set h.thread.slots j v)
              (λ f i. slot_put f i 0 h.thread.number h.thread.slots j (value.Mut r) v e tt unmarked)

          by : (b : Bool) → Gives S (then_some (if b then Some (label_dropped (value.Mut r) g) else None) (drop_value sp (value.Mut r)))
          by true = finishes sp r g turned unmoved refl
          by false = tt

      assigned_over : (o : Operand) → Gives S (then_some (pop o H) (λ u. replace_slot j sp u.item u.hand))
      assigned_over (operand.Const c) = put_over (value.Own (owned.Int c)) tt h.thread.temps
      assigned_over operand.Unit = put_over (value.Own owned.Unit) tt h.thread.temps
      assigned_over operand.Pop = by (last_of h.thread.temps) refl
        where
          by : (o : Option Value) → last_of h.thread.temps ≡ o → Gives S (then_some {X = Popped Value} (option_map (λ v. record { item = v; hand = with_temps (front_of h.thread.temps) H }) o) (λ u. replace_slot j sp u.item u.hand))
          by None f = tt
          by (Some v) f = put_over v (tops v f) (front_of h.thread.temps)

    pub assign_leads : (servers : ℕ) (w : Lval) (o : Operand) (sp : Spot) (r : MutRef) → w.depth ≡ 0 → slice_get h.thread.slots w.slot ≡ Some (value.Mut r) → ((v : Value) → last_of h.thread.temps ≡ Some v → IsUnmarked v) → Gives Leads (committed (commit servers (instr.Assign w o) sp H))
    assign_leads servers w o sp r flat e tops =
        subst (λ d. Gives Leads (committed (goes_on (assign w d o sp H)))) (sym flat) (goes_on_led Known k s y mine c0 fresh.None (then_some (pop o H) (λ u. replace_slot w.slot sp u.item u.hand)) (assigned_over w.slot r e sp tops o))
