-- An object lands at its server, and the pointer that its thread waits at gets its word: what went and what came there, as the coloured heap sees it, and no word but that one comes.
use Rattle.std.proofs.Common.{◌≡◌, ℕ, ◌+◌, ◌≤◌, Bool, true, false, if◌then◌else◌, List, [], ◌∷◌, ◌++◌, length, Option, Some, None, option_map, refl, ap, ap₂, ◌∙◌, arith}
use Rattle.std.specs.Prelude.{slice_get}
use Rattle.law_runs_whole.specs.Below.law_words_ends.Below.fr_base.declared.name.ObjNo.{ObjNo}
use Rattle.law_runs_whole.specs.Below.law_words_ends.Below.heap_partition.declared.value.Cell.{Cell}
use Rattle.law_runs_whole.specs.Below.law_words_ends.Below.owner_box.View.{PartitionState}
use Rattle.law_runs_whole.specs.Below.law_words_ends.Below.owner_box.Partition.{made, new_word, next_place}
use Rattle.law_runs_whole.specs.Below.law_words_ends.Below.thread_state.View.{ThreadState, is_over}
use Rattle.law_runs_whole.specs.Below.law_words_ends.Below.server_msgs.declared.message.Message.TheVariants as message
use Rattle.law_runs_whole.specs.Below.journal.declared.act.Act.{Act}
use Rattle.law_runs_whole.specs.Below.journal.declared.act.Act.TheVariants as act
use Rattle.law_runs_whole.specs.Below.server_model.Servers.{Server, Cluster, server_at}
use Rattle.law_runs_whole.specs.Below.server_model.Work.{Work, Hand, Site, note, with_partition, thread_in, set_thread, put_back, then_some}
use Rattle.law_runs_whole.specs.Below.server_model.NewWords.{NewWord, can_grow}
use Rattle.law_runs_whole.specs.Below.server_model.Objects.{waits_for_cell, arrived, instr_access, came, deliver_moved}
use Rattle.law_runs_whole.specs.Below.server_model.Events.{received, deliver_message}
use Rattle.law_runs_whole.specs.Below.coherent_memory.Names.{tot}
use Rattle.law_runs_whole.specs.Below.coherent_memory.Things.{Thing, lies, stands, gift_things, things_at, walk_things, slot_things, temp_things, thread_things, message_things}
use Rattle.law_runs_whole.specs.Below.coherent_memory.Placing.{phase_word, words}
use Rattle.law_runs_whole.specs.Below.coherent_memory.Coherent.{IsSound}
use Rattle.law_runs_whole.specs.Below.law_counts_sums.Laws.{Gives}
use Rattle.law_runs_whole.proofs.Below.law_counts_sums.Trades.{tot-append}
use Rattle.law_runs_whole.proofs.Below.law_counts_sums.Results.{over_gives, weaker}
use Rattle.law_runs_whole.proofs.Below.law_counts_sums.Bags.{all_standing, rest_things, of_partition, thread_number, tot-without, tot-set}
use Rattle.law_runs_whole.proofs.Below.law_counts_sums.Objects.{taken_place, makes, free_place}
use Rattle.law_runs_whole.proofs.Below.law_words_ends.Below.law_heap_still.events.Leaving.{others, placed_here}
use Rattle.law_entries_writes.proofs.Below.law_entries_variables.deliveries.Weighed.{Seen, SiteTurns, site_things, marks_of, thread_seen}
use Rattle.law_entries_events.proofs.objects.Putting.{ThreadPuts, Plainly, GoesOn, got_for}

-- WORDS OF A THREAD

-- what it has, part by part
thread_split : (f : Thing → ℕ) (n : ℕ) (p : Bool) (t : ThreadState)
    → tot f (thread_things n p t) ≡ f (stands n p t) + tot f (gift_things t.number t.gift) + tot f (things_at (walk_things n) 0 t.walk) + tot f (things_at (slot_things n t.number) 0 t.slots) + tot f (things_at (temp_things n t.number) 0 t.temps)
thread_split f n p t =
    let g = gift_things t.number t.gift in
    let u = things_at (walk_things n) 0 t.walk in
    let a = things_at (slot_things n t.number) 0 t.slots in
    let b = things_at (temp_things n t.number) 0 t.temps in
    omega (arith, tot-append f (g ++ u ++ a) b, tot-append f (g ++ u) a, tot-append f g u)

thread_words : (w : ℕ) (n : ℕ) (y z : ThreadState) → ThreadPuts w y z → (g : ℕ → ℕ) → g w ≡ 0 → phase_word g z.phase ≡ 0 → tot (words g) (thread_things n false z) ≤ tot (words g) (thread_things n false y)
thread_words w n y z q g zero_word none =
    let f = words g in
    let gifts : tot f (gift_things z.number z.gift) ≡ tot f (gift_things y.number y.gift) = ap₂ (λ i v. tot f (gift_things i v)) q.number q.gift in
    let walks : tot f (things_at (walk_things n) 0 z.walk) ≡ tot f (things_at (walk_things n) 0 y.walk) = ap (λ l. tot f (things_at (walk_things n) 0 l)) q.walk in
    let slots : tot f (things_at (slot_things n z.number) 0 z.slots) ≡ tot f (things_at (slot_things n y.number) 0 z.slots) = ap (λ i. tot f (things_at (slot_things n i) 0 z.slots)) q.number in
    let temps : tot f (things_at (temp_things n z.number) 0 z.temps) ≡ tot f (things_at (temp_things n y.number) 0 z.temps) = ap (λ i. tot f (things_at (temp_things n i) 0 z.temps)) q.number in
    omega (arith, none, gifts, walks, slots, temps, q.fewer g zero_word n y.number, thread_split f n false y, thread_split f n false z)

module _ (k : Cluster) (sound : IsSound k) (number : ℕ) (s : Server) (here : server_at k.servers number ≡ Some s) (i old : ℕ) (c : Cell) (t : ℕ) where
  abbrev n : ℕ
  n = s.rest.number

  abbrev p : PartitionState
  p = s.rest.partition

  abbrev pub new : ℕ
  new = new_word p

  -- the address at which it lands
  abbrev pub place : ℕ
  place = (next_place p).0

  abbrev x : Site
  x = received i s

  abbrev o : ObjNo
  o = c.object

  abbrev pub taken : Act
  taken = act.Take o old new

  abbrev landed : Work
  landed = note taken (with_partition (made p c) x.work)

  -- what is left then
  pub record Lands (z : Site) : Type 0 where
    pub before : ThreadState
    pub mine : thread_in s.threads t ≡ Some before
    pub waits : waits_for_cell before.phase old ≡ true
    pub after : ThreadState
    pub named : after.number ≡ before.number
    pub gift : after.gift ≡ before.gift
    pub pc : after.pc ≡ before.pc
    pub live : is_over after.phase ≡ false
    -- a cell whose pointer gets the word
    pub old_cells : List Thing
    pub new_cells : List Thing
    pub alike : (f : Thing → ℕ) → Plainly f → tot f new_cells ≡ tot f old_cells
    pub cells : (f : Thing → ℕ) → ((r b : ℕ) (e : Cell) → f (lies r b e) ≡ 0) → tot f old_cells ≡ 0
    pub turns : SiteTurns x (stands n false before ∷ (taken_place n p.free ++ old_cells)) (stands n false after ∷ lies n place c ∷ new_cells) (taken ∷ []) z
    pub words : (g : ℕ → ℕ) → g new ≡ 0 → tot (words g) (site_things z) ≤ tot (words g) (site_things x) + tot (words g) (message_things n (message.Moved old c t))

  module _ (y : ThreadState) (mine : thread_in s.threads t ≡ Some y) (waits : waits_for_cell y.phase old ≡ true) where
    abbrev h1 : Hand
    h1 = record { work = landed; thread = y }

    -- the partition takes it
    lands_there : (f : Thing → ℕ) → Seen f → tot f (rest_things n 0 landed.rest) + tot f (taken_place n p.free) ≡ tot f (rest_things n 0 x.work.rest) + f (lies n place c)
    lands_there f h =
        let r = x.work.rest in
        let u = of_partition n 0 r (made p c) (makes n p c p.free (free_place n s.events s.rest (others k sound number s here) (placed_here k sound number s here))) in
        omega (arith, u.before f, u.after f, h.counted n (length p.cells) p.retired r.started r.mutexes.made 0, h.counted n (length (made p c).cells) (made p c).retired r.started r.mutexes.made 0)

    words_there : (g : ℕ → ℕ) → tot (words g) (rest_things n 0 landed.rest) ≤ tot (words g) (rest_things n 0 x.work.rest) + words g (lies n place c)
    words_there g =
        let u = of_partition n 0 x.work.rest (made p c) (makes n p c p.free (free_place n s.events s.rest (others k sound number s here) (placed_here k sound number s here))) in
        omega (arith, u.before (words g), u.after (words g))

    lands_so : (h2 : Hand) → GoesOn new h1 h2 → Lands (put_back x.threads h2)
    lands_so h2 q =
        let z = h2.thread in
        let os = q.puts.rest.olds in
        let ns = q.puts.rest.news in
        let ts = set_thread x.threads z in
        let same_thread : z.number ≡ t = q.puts.thread.number ∙ thread_number x.threads t y mine in
        record {
          before = y;
          mine = mine;
          waits = waits;
          after = z;
          named = q.puts.thread.number;
          gift = q.puts.thread.gift;
          pc = q.puts.thread.pc;
          live = q.live;
          old_cells = os;
          new_cells = ns;
          alike = q.puts.rest.alike;
          cells = q.puts.rest.cells;
          turns = record {
            number = q.puts.rest.number;
            noted = q.puts.acts;
            labels = q.puts.labels;
            things = λ f h.
                let there : tot f (site_things (put_back x.threads h2)) ≡ tot f (all_standing n ts ++ rest_things n 0 h2.work.rest) = ap (λ j. tot f (all_standing j ts ++ rest_things j 0 h2.work.rest)) q.puts.rest.number in
                let marks : marks_of f h z ≡ marks_of f h y = ap (λ j. tot f (things_at (slot_things 0 j) 0 z.slots)) q.puts.thread.number ∙ q.puts.thread.marks f h y.number in
                omega (
                  arith,
                  there,
                  marks,
                  lands_there f h,
                  q.puts.rest.things f,
                  thread_seen f h n false y,
                  thread_seen f h n false z,
                  tot-without n f x.threads t y mine,
                  tot-set n f x.threads t y z mine same_thread,
                  tot-append f (all_standing n x.threads) (rest_things n 0 x.work.rest),
                  tot-append f (all_standing n ts) (rest_things n 0 h2.work.rest),
                  tot-append f (taken_place n p.free) os,
                );
          };
          words = λ g zero_word.
              let f = words g in
              let there : tot f (site_things (put_back x.threads h2)) ≡ tot f (all_standing n ts ++ rest_things n 0 h2.work.rest) = ap (λ j. tot f (all_standing j ts ++ rest_things j 0 h2.work.rest)) q.puts.rest.number in
              omega (
                arith,
                there,
                words_there g,
                thread_words new n y z q.puts.thread g zero_word (q.old g zero_word),
                q.puts.rest.things f,
                q.puts.rest.fewer g zero_word,
                tot-without n f x.threads t y mine,
                tot-set n f x.threads t y z mine same_thread,
                tot-append f (all_standing n x.threads) (rest_things n 0 x.work.rest),
                tot-append f (all_standing n ts) (rest_things n 0 h2.work.rest),
              );
        }

    issued_so : (b : Bool) → can_grow p ≡ b → Gives (λ (h2 : Hand). Lands (put_back x.threads h2)) (then_some (if b then Some (record { word = new; work = landed }) else None) (λ (m : NewWord). arrived (instr_access (record { work = x.work; thread = y }) (slice_get k.code y.pc)) old m.word (record { work = m.work; thread = y })))
    issued_so false e = tt
    issued_so true e =
        let access = instr_access (record { work = x.work; thread = y }) (slice_get k.code y.pc) in
        weaker (GoesOn new h1) (λ (h2 : Hand). Lands (put_back x.threads h2)) (arrived access old new h1) (got_for new access old h1) lands_so

  pub moved_lands : Gives Lands (deliver_message k.code (message.Moved old c t) x)
  moved_lands = by (thread_in s.threads t) refl
    where
      waiting : (y : ThreadState) → thread_in s.threads t ≡ Some y → (b : Bool) → waits_for_cell y.phase old ≡ b → Gives Lands (option_map (put_back x.threads) (if b then came k.code old c (record { work = x.work; thread = y }) else None))
      waiting y mine false on = tt
      waiting y mine true on =
          over_gives (λ (h2 : Hand). Lands (put_back x.threads h2)) Lands (came k.code old c (record { work = x.work; thread = y })) (put_back x.threads) (issued_so y mine on (can_grow p) refl) (λ h2 l. l)

      by : (r : Option ThreadState) → thread_in s.threads t ≡ r → Gives Lands (then_some (option_map (λ y. record { work = x.work; thread = y }) r) (λ h. option_map (put_back x.threads) (deliver_moved k.code old c h)))
      by None e = tt
      by (Some y) e = waiting y e (waits_for_cell y.phase old) refl
