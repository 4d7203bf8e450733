-- A lock that has its content, as the coloured heap sees it: a mark stands in a new slot, and who held the mutex by a gift holds it by that mark.
use Rattle.std.proofs.Common.{◌≡◌, ℕ, ◌+◌, ◌==◌, Bool, true, false, List, [], ◌∷◌, ◌++◌, length, Option, Some, is_some, refl, sym, ap, ap₂, subst, ◌∙◌, arith}
use Rattle.std.specs.Prelude.{slice_get}
use Rattle.law_entries_reads.specs.Below.law_words_borrows.Below.fr_base.declared.name.MutexNo.{MutexNo}
use Rattle.law_entries_reads.specs.Below.law_words_borrows.Below.fr_base.declared.place.Lval.{Lval}
use Rattle.law_entries_reads.specs.Below.law_words_borrows.Below.fr_base.declared.instruction.Instr.TheVariants as instr
use Rattle.law_entries_reads.specs.Below.law_words_borrows.Below.fr_base.declared.step.Fresh.{Fresh}
use Rattle.law_entries_reads.specs.Below.law_words_borrows.Below.heap_partition.declared.value.Owned.{Owned}
use Rattle.law_entries_reads.specs.Below.law_words_borrows.Below.thread_state.View.{ThreadState, is_over}
use Rattle.law_entries_reads.specs.Below.law_words_borrows.Below.thread_state.declared.value.Value.{Value}
use Rattle.law_entries_reads.specs.Below.law_words_borrows.Below.thread_state.declared.value.Value.TheVariants as value
use Rattle.law_entries_reads.specs.Below.law_words_borrows.Below.journal.View.{EntryView}
use Rattle.law_entries_reads.specs.Below.law_words_borrows.Below.server_model.Servers.{Rest, Server, Cluster, server_at}
use Rattle.law_entries_reads.specs.Below.law_words_borrows.Below.server_model.Work.{Hand, thread_in}
use Rattle.law_entries_reads.specs.Below.law_words_borrows.Below.server_model.Events.{entry_of, Stepped, stepped}
use Rattle.law_entries_reads.specs.Below.law_entries_variables.Below.coloured_heap.Heap.{Running, Coloured}
use Rattle.law_entries_reads.proofs.Below.law_entries_variables.Below.coloured_heap.ShownNames.{mutex_flip}
use Rattle.law_entries_reads.specs.Below.law_words_borrows.Below.coherent_memory.Names.{tot, one, some, if_so, same_mutex}
use Rattle.law_entries_reads.specs.Below.law_words_borrows.Below.coherent_memory.Things.{at_slot, Thing, locks, stands, things_at, slot_things, copy_things}
use Rattle.law_entries_reads.specs.Below.law_words_borrows.Below.coherent_memory.Follow.{Standing}
use Rattle.law_entries_reads.specs.Below.law_words_borrows.Below.coherent_memory.Sight.{sight}
use Rattle.law_entries_reads.specs.Below.law_words_borrows.Below.coherent_memory.Requests.{is_mutex, locked_mutex}
use Rattle.law_entries_reads.specs.Below.law_words_borrows.Below.coherent_memory.Colours.{StandsColoured, running_of}
use Rattle.law_entries_reads.specs.Below.law_words_borrows.Below.coherent_memory.Coherent.{IsSound}
use Rattle.law_entries_reads.proofs.Below.law_words_borrows.Below.law_counts_sums.Trades.{trade_whole, tot-push}
use Rattle.law_entries_reads.proofs.Below.law_words_borrows.Below.law_counts_sums.Bags.{rest_things, of_cache}
use Rattle.law_entries_reads.proofs.Below.law_entries_variables.Below.law_heap_still.events.Told.{told}
use Rattle.law_entries_reads.proofs.Below.law_entries_variables.Below.law_heap_still.events.Tests.{numbers}
use Rattle.law_entries_reads.specs.Below.law_entries_variables.deliveries.Entries.{LeadsOn}
use Rattle.law_entries_reads.proofs.Below.law_entries_variables.deliveries.Answers.{Answers, answers_of, Fits, fits, coloured_by}
use Rattle.law_entries_reads.proofs.Below.law_entries_variables.deliveries.Weighed.{Seen, marks_of, slots_unpinned}
use Rattle.law_entries_reads.proofs.Below.law_entries_variables.deliveries.Shown.{if_some, holder_by}
use Rattle.law_entries_reads.proofs.Below.law_entries_variables.deliveries.After.{Follows}
use Rattle.law_entries_reads.proofs.Below.law_entries_variables.deliveries.Applied.{server_there}
use Rattle.law_entries_reads.proofs.Below.law_entries_variables.still.Settled.{StepLed, runs_here, none_held}
use Rattle.law_entries_variables.proofs.variables.Slots.{slot_unseen}
use Rattle.law_entries_variables.proofs.variables.Turning.{Turning, turned_server}
use Rattle.law_entries_variables.proofs.variables.Aside.{only, one_changes, Silently, all_agree}
use Rattle.law_entries_variables.proofs.variables.Gifts.{or_none}
use Rattle.law_entries_variables.proofs.variables.Quiets.{runs_on}
use Rattle.law_entries_reads.proofs.places.Standing.{plain_entry, entry_leaves, entry_reaches}
use Rattle.law_entries_reads.proofs.places.Done.{Left}
use Rattle.law_entries_reads.proofs.locks.Contents.{with_content, contented}

-- one is some where it counts
counted_some : (b : Bool) → some (one b) ≡ b
counted_some true = refl
counted_some false = refl

-- what is left by a lock that is done
pub record Locked (k : Cluster) (c0 : Coloured) (s : Server) (y : ThreadState) (w : Lval) (d : Stepped) : Type 0 where
  pub mutex : MutexNo
  pub content : Owned
  pub given : y.gift ≡ Some content
  -- the mutex at its place
  pub its : locked_mutex (sight k) (record { server = s.rest.number; packed = false; thread = y }) (Some (instr.Lock w)) ≡ Some mutex
  pub left : Left k.options c0 s (contented y mutex content) d

module _ (k : Cluster) (sound : IsSound k) (s : Server) (here : server_at k.servers s.rest.number ≡ Some s) (c0 : Coloured) (is_coloured : StandsColoured k c0) (y : ThreadState) (at : thread_in s.threads y.number ≡ Some y) (live : is_over y.phase ≡ false) (w : Lval)
    (code : slice_get k.code y.pc ≡ Some (instr.Lock w)) where
  abbrev n : ℕ
  n = s.rest.number

  abbrev t : ℕ
  t = y.number

  abbrev me : Standing
  me = record { server = n; packed = false; thread = y }

  module _ (d : Stepped) (q : Locked k c0 s y w d) where
    abbrev z : ThreadState
    z = d.hand.thread

    abbrev mark : Thing
    mark = locks (at_slot t (0 + length y.slots)) q.mutex

    -- the content was held by the gift, and is by the mark
    held_on : (x : MutexNo) (g : ℕ → ℕ) → told g (holder_by (sight k) x (stands n false y)) ≡ told g (holder_by (sight k) x mark)
    held_on x g =
        ap (λ o. told g (if_some (some (if_so (is_some o) (one (is_mutex x (locked_mutex (sight k) me (slice_get k.code y.pc)))))) t)) q.given ∙ ap (λ j. told g (if_some (some (one (is_mutex x (locked_mutex (sight k) me j)))) t)) code
        ∙ ap (λ j. told g (if_some (some (one (is_mutex x j))) t)) q.its ∙ ap (λ b. told g (if_some b t)) (counted_some (same_mutex x q.mutex) ∙ mutex_flip x q.mutex) ∙ sym (or_none (same_mutex q.mutex x) t g)

    -- of its slots the new mark is seen
    marked : (f : Thing → ℕ) (i : Seen f) → marks_of f i z ≡ marks_of f i y + (f mark + 0)
    marked f i =
        let vs : List Value = with_content y.slots q.mutex q.content in
        let same : marks_of f i z ≡ tot f (things_at (slot_things 0 t) 0 vs) =
        ap (λ j. tot f (things_at (slot_things 0 j) 0 z.slots)) q.left.kept.number ∙ sym (slots_unpinned f i 0 0 t 0 z.slots) ∙ ap (λ l. tot f (things_at (slot_things 0 t) 0 l)) q.left.kept.slots ∙ slots_unpinned f i 0 0 t 0 vs in
        omega (
          arith,
          same,
          tot-push (slot_things 0 t) f (y.slots ++ value.Held q.mutex ∷ []) 0 (value.Own q.content),
          slot_unseen f i 0 t (0 + length (y.slots ++ value.Held q.mutex ∷ [])) (value.Own q.content) tt,
          tot-push (slot_things 0 t) f y.slots 0 (value.Held q.mutex),
        )

    abbrev bare_hand : Hand
    bare_hand = record { work = record { rest = d.hand.work.rest; acts = []; labels = [] }; thread = z }

    turns : Turning s y [] (mark ∷ []) [] bare_hand
    turns = record {
      named = q.left.kept.number;
      number = ap (λ (r : Rest). r.number) q.left.kept.rest;
      noted = refl;
      labels = refl;
      things = λ f i.
          let cs = d.hand.work.rest.cache in
          let u = of_cache n 0 s.rest cs (trade_whole (things_at (copy_things n) 0 s.rest.cache) (things_at (copy_things n) 0 cs)) in
          let there : tot f (rest_things n 0 d.hand.work.rest) ≡ tot f (rest_things n 0 (record s.rest { cache = cs })) = ap (λ r. tot f (rest_things n 0 r)) q.left.kept.rest in
          omega (arith, there, u.before f, u.after f, q.left.kept.copies f i.unused, marked f i);
    }

    -- nothing that is asked for changes
    silently : Silently k (stands n false y ∷ []) (stands n false z ∷ mark ∷ [])
    silently = record {
      aside = record { objects = λ o g. refl; drops = λ o. refl; copies = λ r i g. refl; served = λ b. refl; issued = λ h r i. refl; wishes = λ b. refl };
      started = λ r i. refl;
      made = λ r i. refl;
      threads = λ u. ap (λ i. one (i == u) + 0) (sym q.left.kept.number);
      running = λ u g. let same = runs_on k sound n s here c0 is_coloured y at live z q.left.kept.number q.left.live u g in omega (arith, same);
      there = λ x. omega arith;
      holders = λ x g. omega (arith, held_on x g, none_held k sound n s here c0 is_coloured t y at live z q.left.kept.gift x g);
    }

    -- so its entry leads on
    pub locked_led : StepLed k s c0 (stepped s d)
    locked_led c after words = subst (λ e. LeadsOn k.options e c0 c) (sym entry) (record {
      state = c0;
      legal = entry_leaves k.options n t d.hand.work.acts d.hand.work.labels c0 (server_there k sound n s here).0 runner (h.servers t runner runs) (numbers.itself n) q.left.kept.acts q.left.kept.labels;
      reached = entry_reaches k.options n t d.hand.work.acts d.hand.work.labels c0 (server_there k sound n s here).0 runner (h.servers t runner runs) (numbers.itself n) q.left.kept.acts q.left.kept.labels;
      stands = coloured_by a (sight c) c0 h
          (all_agree k c (stands n false y ∷ []) (stands n false z ∷ mark ∷ []) sound follows words.words (only t)
          (one_changes k c sound n s here y at z q.left.kept.number q.left.kept.gift [] (mark ∷ []) follows (λ o g. refl) (λ u. refl) (λ g u. refl) refl) silently);
    })
      where
        runner : Running
        runner = record { thread = t; server = n; has_ended = false }

        runs : running_of (sight k) t ≡ Some runner
        runs = runs_here k sound n s here c0 is_coloured t y at live

        a : Answers
        a = answers_of (sight k)

        h : Fits (answers_of (sight k)) c0
        h = fits (sight k) c0 is_coloured

        made : ℕ → ℕ → Option Fresh → EntryView
        made m i names = record { server = m; thread = Some i; done = names; acts = d.hand.work.acts; labels = d.hand.work.labels }

        entry : entry_of (Some z.number) d.names d.hand.work ≡ plain_entry n t d.hand.work.acts d.hand.work.labels
        entry = ap₂ (λ (r : Rest) i. made r.number i d.names) q.left.kept.rest q.left.kept.number ∙ ap (made n t) q.left.names

        follows : Follows k c (stands n false y ∷ []) (stands n false z ∷ mark ∷ [])
        follows = record { code = after.0; options = after.1; things = λ f i. omega (arith, after.2 f, turned_server s y [] (mark ∷ []) [] bare_hand turns at f i) }
