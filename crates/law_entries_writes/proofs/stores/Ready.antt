-- A write through stars whose place is ready: what its server's memory and its thread are, what went and what came, and that its entry leads on.
use Rattle.std.proofs.Common.{◌≡◌, ℕ, ◌+◌, ◌&&◌, ◌||◌, not, Bool, true, false, List, [], ◌∷◌, ◌++◌, length, Option, Some, None, refl, sym, ap, ◌∙◌, arith}
use Rattle.law_heap_writes.specs.Below.law_words_asked.Below.fr_base.Lists.{is_in}
use Rattle.law_heap_writes.specs.Below.law_words_asked.Below.fr_base.declared.label.Label.{Label}
use Rattle.law_heap_writes.specs.Below.law_words_asked.Below.fr_base.declared.label.Plain.{Plain}
use Rattle.law_heap_writes.specs.Below.law_words_asked.Below.fr_base.declared.name.ObjNo.{ObjNo}
use Rattle.law_heap_writes.specs.Below.law_words_asked.Below.fr_base.declared.step.Fresh.TheVariants as fresh
use Rattle.law_heap_writes.specs.Below.law_words_asked.Below.global_addr.Words.{address_of}
use Rattle.law_heap_writes.specs.Below.law_words_asked.Below.heap_partition.Plain.{plain_of}
use Rattle.law_heap_writes.specs.Below.law_words_asked.Below.heap_partition.declared.value.Cell.{Cell}
use Rattle.law_heap_writes.specs.Below.law_words_asked.Below.heap_partition.declared.value.Owned.{Owned}
use Rattle.law_heap_writes.specs.Below.law_words_asked.Below.heap_partition.declared.value.Owned.TheVariants as owned
use Rattle.law_heap_writes.specs.Below.law_words_asked.Below.owner_box.View.{PartitionState}
use Rattle.law_heap_writes.specs.Below.law_words_asked.Below.owner_box.Partition.{stored}
use Rattle.law_heap_writes.specs.Below.law_words_asked.Below.thread_state.View.{ThreadState, is_over}
use Rattle.law_heap_writes.specs.Below.law_words_asked.Below.journal.View.{EntryView}
use Rattle.law_heap_writes.specs.Below.law_words_asked.Below.journal.declared.act.Act.{Act}
use Rattle.law_heap_writes.specs.Below.law_words_asked.Below.server_model.Servers.{Rest, Server, Cluster, server_at}
use Rattle.law_heap_writes.specs.Below.law_words_asked.Below.server_model.Work.{Work, Hand, thread_in, set_thread}
use Rattle.law_heap_writes.specs.Below.law_words_asked.Below.server_model.Drop.{give_up}
use Rattle.law_entries_writes.specs.Below.law_entries_variables.Below.coloured_heap.Heap.{Place, Lies, Coloured}
use Rattle.law_heap_writes.specs.Below.law_words_asked.Below.coherent_memory.Names.{tot, one, some, same_object}
use Rattle.law_heap_writes.specs.Below.law_words_asked.Below.coherent_memory.Things.{Thing, lies, stands, partition_things, things_of}
use Rattle.law_heap_writes.specs.Below.law_words_asked.Below.coherent_memory.Sight.{is_spot, colour_up_to, sight, issued}
use Rattle.law_heap_writes.specs.Below.law_words_asked.Below.coherent_memory.Words.{HasWords}
use Rattle.law_heap_writes.specs.Below.law_words_asked.Below.coherent_memory.OneHeap.{first_shown}
use Rattle.law_heap_writes.specs.Below.law_words_asked.Below.coherent_memory.Colours.{StandsColoured}
use Rattle.law_heap_writes.specs.Below.law_words_asked.Below.coherent_types.ClusterTypes.{IsCoherent}
use Rattle.law_heap_writes.proofs.Below.law_words_writes.Below.law_words_asked.Below.law_counts_sums.Trades.{Trade, tot-append, trade_whole}
use Rattle.law_heap_writes.proofs.Below.law_words_writes.Below.law_words_asked.Below.law_counts_sums.Bags.{rest_things, of_partition}
use Rattle.law_heap_writes.proofs.Below.law_words_writes.Below.law_words_asked.Below.law_counts_sums.Events.{tot-server}
use Rattle.law_heap_writes.proofs.Below.law_words_writes.Below.law_words_asked.Below.law_counts_sums.Values.{stores}
use Rattle.law_heap_writes.proofs.Below.law_words_writes.Below.law_words_asked.Below.law_words_kept.prepared.Hands.{put}
use Rattle.law_heap_writes.proofs.Below.law_words_writes.Below.law_words_asked.Below.law_results_events.writes.Memory.{Leads, looks}
use Rattle.law_heap_writes.proofs.Below.law_words_writes.Below.law_words_asked.writes.Passing.{Fits}
use Rattle.law_entries_writes.proofs.Below.law_entries_variables.Below.law_heap_still.events.Alike.{LocksSee}
use Rattle.law_entries_writes.proofs.Below.law_entries_variables.Below.law_heap_still.events.Tests.{numbers}
use Rattle.law_entries_writes.proofs.Below.law_entries_variables.Below.law_heap_still.events.Told.{told, tot_same}
use Rattle.law_entries_writes.proofs.Below.law_entries_variables.Below.coloured_heap.ShownNames.{object_flip}
use Rattle.law_entries_writes.specs.Below.law_entries_variables.deliveries.Entries.{LeadsOn}
use Rattle.law_entries_writes.proofs.Below.law_entries_variables.deliveries.Answers.{Answers, answers_of, fits}
use Rattle.law_entries_writes.proofs.Below.law_entries_variables.deliveries.Weighed.{Seen, marks_of}
use Rattle.law_entries_writes.proofs.Below.law_entries_variables.deliveries.Shown.{if_some, placed_in}
use Rattle.law_entries_writes.proofs.Below.law_entries_variables.deliveries.Live.{issued_by, issued_seen, issued_told}
use Rattle.law_entries_writes.proofs.Below.law_entries_variables.deliveries.GiveUp.{give_news, give_acts, gives_turns}
use Rattle.law_entries_writes.proofs.Below.law_entries_variables.deliveries.Changed.{turns_none}
use Rattle.law_entries_writes.proofs.Below.law_entries_variables.deliveries.After.{Follows}
use Rattle.law_entries_writes.proofs.Below.law_entries_variables.deliveries.Applied.{server_there}
use Rattle.law_entries_reads.proofs.Below.law_entries_variables.variables.Turning.{Turning, worked, turned_server}
use Rattle.law_entries_reads.proofs.Below.law_entries_variables.variables.Led.{done_entry}
use Rattle.law_entries_reads.proofs.Below.law_entries_variables.variables.Quiets.{running_here, it_runs}
use Rattle.law_entries_writes.proofs.Below.law_entries_reads.asks.Recoloured.{NewWords, given_words, recoloured}
use Rattle.law_entries_writes.proofs.Below.law_entries_reads.asks.Agreeing.{Rewords}
use Rattle.law_entries_writes.proofs.walks.Weights.{placed_blind}
use Rattle.law_entries_writes.proofs.walks.Given.{words_by, Given}
use Rattle.law_heap_writes.proofs.Below.law_words_writes.Putting.{give_same}
use Rattle.law_entries_writes.proofs.stores.Storing.{Store, dropping, AllLoads, Stores, runs_then, store_leads}
use Rattle.law_entries_writes.proofs.stores.Answering.{Swap, swaps_none, swaps_cell, even, Told, agrees}
use Rattle.law_entries_writes.proofs.stores.GivingUp.{StoodIn, given_of, given_told, IsSent, sent_there, give_runs}
use Rattle.law_entries_writes.proofs.stores.Doing.{shadow}

-- THE SERVER

-- a hand of which the rest of the server has another memory, and the thread the same marks in its slots
pub memory_turns : (s : Server) (y : ThreadState) (h : Hand) (q : PartitionState) (acts : List Act) → h.work.rest ≡ record s.rest { partition = q } → h.thread.number ≡ y.number → ((f : Thing → ℕ) (i : Seen f) → marks_of f i h.thread ≡ marks_of f i y)
    → Turning s y (partition_things s.rest.number s.rest.partition) (partition_things s.rest.number q) acts (shadow acts h)
memory_turns s y h q acts rest named marks = record {
  named = named;
  number = ap (λ (r : Rest). r.number) rest;
  noted = refl;
  labels = refl;
  things = λ f i.
      let n = s.rest.number in
      let p0 = s.rest.partition in
      let t = of_partition n 0 s.rest q (trade_whole (partition_things n p0) (partition_things n q)) in
      let there : tot f (rest_things n 0 h.work.rest) ≡ tot f (rest_things n 0 (record s.rest { partition = q })) = ap (λ r. tot f (rest_things n 0 r)) rest in
      omega (
        arith,
        there,
        marks f i,
        t.before f,
        t.after f,
        i.counted n (length p0.cells) p0.retired s.rest.started s.rest.mutexes.made 0,
        i.counted n (length q.cells) q.retired s.rest.started s.rest.mutexes.made 0,
      );
}

-- the same with what goes
pub giving_turns : (s : Server) (y : ThreadState) (olds news : List Thing) (acts : List Act) (h : Hand) (u : Owned) (h2 : Hand) → Turning s y olds news acts (shadow acts h) → h2.work.rest ≡ (give_up u h.work).rest → h2.thread ≡ h.thread
    → Turning s y olds (news ++ give_news u) (acts ++ give_acts u) (shadow (acts ++ give_acts u) h2)
giving_turns s y olds news acts h u h2 t rest thread = record {
  named = ap (λ (x : ThreadState). x.number) thread ∙ w.named;
  number = ap (λ (r : Rest). r.number) same ∙ w.number;
  noted = refl;
  labels = refl;
  things = λ f i.
      let n = s.rest.number in
      let marks : marks_of f i h2.thread ≡ marks_of f i h.thread = ap (λ x. marks_of f i x) thread in
      let there : tot f (rest_things n 0 h2.work.rest) ≡ tot f (rest_things n 0 (give_up u (shadow acts h).work).rest) = ap (λ r. tot f (rest_things n 0 r)) same in
      omega (arith, marks, there, w.things f i, tot-append f olds []);
}
  where
    sh : Hand
    sh = shadow acts h

    w : Turning s y (olds ++ []) (news ++ give_news u) (acts ++ give_acts u) (record sh { work = give_up u sh.work })
    w = worked s y olds news acts sh t (give_up u sh.work) [] (give_news u) (give_acts u) (gives_turns sh.work [] [] [] sh.work u (turns_none sh.work))

    same : h2.work.rest ≡ (give_up u sh.work).rest
    same = rest ∙ give_same u sh.work h.work refl

-- its acts and its labels
pub gave : (u : Owned) (w : Work) → ((give_up u w).acts ≡ w.acts ++ give_acts u) × ((give_up u w).labels ≡ w.labels)
gave u w = let x = gives_turns w [] [] [] w u (turns_none w) in (x.noted, x.labels)

-- THE CLUSTER AFTERWARDS

module _ (k : Cluster) (coherent : IsCoherent k) (s : Server) (here : server_at k.servers s.rest.number ≡ Some s) (t : ℕ) (y : ThreadState) (at : thread_in s.threads t ≡ Some y) (own : thread_in s.threads y.number ≡ Some y) (bare : y.gift ≡ None) (live : is_over y.phase ≡ false) (c0 : Coloured) (is_coloured : StandsColoured k c0) where
  abbrev n : ℕ
  n = s.rest.number

  abbrev p0 : PartitionState
  p0 = s.rest.partition

  abbrev P : Hand → Cluster
  P = put k coherent s here t y at

  abbrev before : HasWords (sight k)
  before = coherent.sound.words.have_words

  abbrev q0 : Answers
  q0 = answers_of (sight k)

  abbrev G : Hand → NewWords → Type 0
  G = Given k coherent s here t y at c0 is_coloured

  -- a memory after the place was ready, of which all that is seen is the same, or one cell has another value, and no other word is issued
  pub record Memory (h : Hand) (q : PartitionState) (st : Store) : Type 0 where
    pub swap : Swap k n (partition_things n p0) (partition_things n q) st
    pub issues : (u : ObjNo → ℕ) (v : ℕ) → tot (issued_by u k.options.colours v) (partition_things n q) ≡ tot (issued_by u k.options.colours v) (partition_things n h.work.rest.partition)

  pub same_memory : (h : Hand) (l : NewWords) → G h l → Memory h h.work.rest.partition None
  same_memory h l g = record { swap = swaps_none (λ f b. g.blind f b); issues = λ u v. refl }

  pub stored_memory : (h : Hand) (l : NewWords) → G h l → (b : ℕ) (c : Cell) (v : Owned) → Leads h.work.rest.partition b c → first_shown (placed_in c.object) (things_of k) ≡ Some (plain_of c.value, Lies n) → Memory h (stored h.work.rest.partition b v) (Some (c.object, plain_of v))
  stored_memory h l g b c v leads was = record {
    swap = swaps_cell (address_of b) c v was (λ f blind. omega (arith, g.blind f blind, (trade).before f, (trade).after f));
    issues = λ u x. (let w : Thing → ℕ = issued_by u k.options.colours x in omega (arith, trade.before w, trade.after w));
  }
    where
      trade : Trade (partition_things n h.work.rest.partition) (lies n (address_of b) c ∷ []) (lies n (address_of b) (record c { value = v }) ∷ []) (partition_things n (stored h.work.rest.partition b v))
      trade = stores n h.work.rest.partition b c v (looks h.work.rest.partition b c leads)

  -- WORDS THAT ARE ISSUED

  module _ (h : Hand) (l : NewWords) (g : G h l) (ok : Fits k coherent s here t y at h) (marks : (f : Thing → ℕ) (i : Seen f) → marks_of f i h.thread ≡ marks_of f i y) (q : PartitionState) (st : Store) (m : Memory h q st) (c : Cluster) (z : ThreadState) (more : List Thing)
      (f : Follows k c (stands n false y ∷ partition_things n p0) (stands n false z ∷ (partition_things n q ++ more))) (none : (u : ObjNo → ℕ) (v : ℕ) → tot (issued_by u k.options.colours v) more ≡ 0) (words : Rewords k c l before) where
    abbrev I : ℕ → Thing → ℕ
    I v = issued_by (words_by k coherent s here t y at c0 is_coloured l) k.options.colours v

    -- the hand put back
    put_there : (v : ℕ) → tot (I v) (things_of (P h)) + tot (I v) (partition_things n p0) ≡ tot (I v) (things_of k) + tot (I v) (partition_things n h.work.rest.partition)
    put_there v =
        let w = I v in
        let with_hand : Server = record { rest = h.work.rest; threads = set_thread s.threads h.thread; events = s.events + 1 } in
        let t1 = memory_turns s y h h.work.rest.partition h.work.acts g.rest (ap (λ (x : ThreadState). x.number) g.thread) marks in
        omega (arith, turned_server s y (partition_things n p0) (partition_things n h.work.rest.partition) h.work.acts (shadow h.work.acts h) t1 own w (issued_seen (words_by k coherent s here t y at c0 is_coloured l) k.options.colours v), (tot-server w k.servers n s with_hand here).0, (tot-server w k.servers n s with_hand here).1)

    pub issued_then : (v : ℕ) → is_in v (given_words l) || issued (sight k) v ≡ issued (sight c) v
    issued_then v =
        g.issues v ∙ ap some same
        ∙ sym (issued_told c words.after v ∙ ap some (ap (λ o. tot (issued_by words.after.word o.colours v) (things_of c)) f.options ∙ tot_same (issued_by words.after.word k.options.colours v) (I v) each (things_of c)))
      where
        each : (x : Thing) → issued_by words.after.word k.options.colours v x ≡ I v x
        each (lies r a d) = ap (λ w. one (is_spot r a v && colour_up_to (Some w) v)) (words.word d.object)
        each _ = refl

        same : tot (I v) (things_of (P h)) ≡ tot (I v) (things_of c)
        same =
            let w = I v in
            omega (arith, put_there v, f.things w (issued_seen (words_by k coherent s here t y at c0 is_coloured l) k.options.colours v), m.issues (words_by k coherent s here t y at c0 is_coloured l) v, none (words_by k coherent s here t y at c0 is_coloured l) v, tot-append w (partition_things n q) more)

  -- THE ENTRY

  -- what isn't changed is seen
  abbrev Spared : Store → ObjNo → Bool
  Spared None o = true
  Spared (Some x) o = not (same_object o x.0)

  others_same : (q : PartitionState) (st : Store) (swap : Swap k n (partition_things n p0) (partition_things n q) st) (more : List Thing) (d : Option ObjNo) → Told more d → (z : ThreadState) (o : ObjNo) → Spared st o ≡ true → (w : Plain × Place → ℕ)
      → tot (λ v. told w (placed_in o v)) (stands n false y ∷ partition_things n p0) ≡ tot (λ v. told w (placed_in o v)) (stands n false z ∷ (partition_things n q ++ more))
  others_same q _ (swaps_none e) more d told_so z o spared w = let g : Thing → ℕ = (λ v. told w (placed_in o v)) in omega (arith, e g (placed_blind o w), told_so.objects o w, tot-append g (partition_things n q) more)
  others_same q _ (swaps_cell a c v was e) more d told_so z o spared w =
      let g : Thing → ℕ = (λ v. told w (placed_in o v)) in
      let other : same_object c.object o ≡ false = object_flip c.object o ∙ flipped (same_object o c.object) spared in
      let none : g (lies n a c) ≡ 0 = ap (λ b. told w (if_some b (plain_of c.value, Lies n))) other in
      let none2 : g (lies n a (record c { value = v })) ≡ 0 = ap (λ b. told w (if_some b (plain_of v, Lies n))) other in
      omega (arith, e g (placed_blind o w), none, none2, told_so.objects o w, tot-append g (partition_things n q) more)
    where
      flipped : (b : Bool) → not b ≡ true → b ≡ false
      flipped true e = absurd (cc e)
      flipped false e = refl

  -- nothing is issued with what goes
  none_issued : (u : Owned) (f : ObjNo → ℕ) (v : ℕ) → tot (issued_by f k.options.colours v) (give_news u) ≡ 0
  none_issued (owned.Box b) f v = refl
  none_issued (owned.Mutex m) f v = refl
  none_issued (owned.Task i) f v = refl
  none_issued _ f v = refl

  -- whatever goes
  module _ (h : Hand) (l : NewWords) (g : G h l) (ok : Fits k coherent s here t y at h) (marks : (f : Thing → ℕ) (i : Seen f) → marks_of f i h.thread ≡ marks_of f i y) (q : PartitionState) (st : Store) (m : Memory h q st) (paths : LocksSee (Spared st) k) (u : Owned) (stood : StoodIn k u)
      (ls ss : List Label) (loads : AllLoads (dropping (given_of u) (recoloured l q0)) n ls) (stores : Stores (dropping (given_of u) (recoloured l q0)) n ss st) where
    abbrev acts : List Act
    acts = h.work.acts ++ give_acts u

    pub leads_so : (c : Cluster) (z : ThreadState) → z.number ≡ y.number → z.gift ≡ None → is_over z.phase ≡ false → Follows k c (stands n false y ∷ partition_things n p0) (stands n false z ∷ (partition_things n q ++ give_news u)) → Rewords k c l before
        → LeadsOn k.options (done_entry n y.number fresh.None acts (ls ++ ss)) c0 c
    leads_so c z named free on f words =
        store_leads k.options n y.number acts ls ss c0 q0 (dropping (given_of u) (recoloured l q0)) st c loads stores (fits (sight k) c0 is_coloured) (server_there k coherent.sound n s here).0 (running_here k coherent.sound n s here c0 is_coloured y own live) (it_runs k coherent.sound n s here c0 is_coloured y own live) (numbers.itself n)
        (runs_then k.options e h.work.acts (give_acts u) c0 (recoloured l q0) (dropping (given_of u) (recoloured l q0)) (g.runs e refl) (λ d x. give_runs k c coherent.sound l words e d x u stood sent_it))
        (agrees k c coherent.sound n s here y own bare live z named free on (partition_things n p0) (partition_things n q) (give_news u) f st m.swap (given_of u) (given_told u) l words (Spared st) paths
        (issued_then h l g ok marks q st m c z (give_news u) f (none_issued u) words) (others_same q st m.swap (give_news u) (given_of u) (given_told u) z))
      where
        e : EntryView
        e = done_entry n y.number fresh.None acts (ls ++ ss)

        sent_it : IsSent c u
        sent_it =
            sent_there c u (λ w b no_threads no_cells.
            let same = even k n (partition_things n p0) (partition_things n q) st m.swap w b (λ a d. no_cells n a d) in
            omega (arith, f.things w b.seen, same, no_threads n false y, no_threads n false z, tot-append w (partition_things n q) (give_news u)))
