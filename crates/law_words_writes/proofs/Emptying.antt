-- The hand of a step that stores: what its cell has becomes the thread's gift, and the other way round.
use Rattle.std.proofs.Common.{◌≡◌, ◌⊎◌, inl, inr, ⊎_elim, ℕ, zero, suc, ◌+◌, false, List, [], ◌∷◌, ◌++◌, length, Option, Some, None, refl, sym, ap, subst, arith}
use Rattle.std.specs.Prelude.{slice_set, slice_index_or, slice_get}
use Rattle.std.proofs.lemmas.List.{length-set}
use Rattle.law_words_asked.specs.Below.global_addr.Words.{address_of}
use Rattle.law_words_asked.specs.Below.heap_partition.declared.value.Cell.{Cell}
use Rattle.law_words_asked.specs.Below.heap_partition.declared.value.Owned.{Owned}
use Rattle.law_words_asked.specs.Below.heap_partition.declared.value.Owned.TheVariants as owned
use Rattle.law_words_asked.specs.Below.owner_box.Partition.{cell_of as cell_under, with_value, stored}
use Rattle.law_words_asked.specs.Below.thread_state.View.{ThreadState}
use Rattle.law_words_asked.specs.Below.thread_state.declared.value.Value.TheVariants as value
use Rattle.law_words_asked.specs.Below.server_model.Servers.{Rest, Cluster}
use Rattle.law_words_asked.specs.Below.server_model.Work.{Hand, look, set_thread}
use Rattle.law_words_asked.specs.Below.server_model.Places.{in_cell as cell_spot, value_at, put_at}
use Rattle.law_words_asked.specs.Below.coherent_memory.Names.{Among}
use Rattle.law_words_asked.specs.Below.coherent_memory.Things.{Location, Thing, as_gift, in_hand, holds, lies, stands, counts, things_at, cell_things, free_things, partition_things, copy_things, mutex_things, task_things, standing_things, waiting_things, leaving_things, walk_things, slot_things, temp_things, gift_things, thread_things, server_things, servers_things, things_of}
use Rattle.law_words_asked.specs.Below.coherent_memory.Things as things
use Rattle.law_words_asked.proofs.Below.coherent_memory.Bags.{among_split}
use Rattle.law_words_asked.proofs.Below.law_words_paths.paths.Origins.{among_first, among_second}
use Rattle.law_words_asked.specs.Below.law_words_paths.words.Unmoved.{taking_by}
use Rattle.law_words_asked.specs.Below.law_words_paths.words.PutBack.{put_in, StandsHere}
use Rattle.law_words_asked.proofs.Below.law_words_paths.words.Put.{Split, split_whole, split_left, split_right, servers_split, put_split}
use Rattle.law_words_asked.specs.Below.law_counts_sums.Sums.{Sums}
use Rattle.law_words_asked.proofs.Below.law_counts_sums.Results.{given_by}
use Rattle.law_words_asked.proofs.Below.law_counts_sums.Rules.{Rule, comes, hands_on, turned as rule_turned, beside as rules_beside, in_turn}
use Rattle.law_words_asked.proofs.Below.law_counts_sums.RulesKeep.{sums_kept}
use Rattle.law_words_asked.proofs.Below.law_counts_sums.Bags.{HandOk, had_by}
use Rattle.law_words_asked.proofs.Below.law_counts_sums.Objects.{one_goes}
use Rattle.law_words_asked.proofs.Below.law_counts_sums.Trades.{Trade}
use Rattle.law_words_asked.proofs.Below.law_counts_sums.Values.{thread_trades, puts_at}
use Rattle.law_words_writes.proofs.Swapped.{emptied, given, Swapped}

-- A CELL WITH ANOTHER VALUE

cells_split : (s : ℕ) (free : List (ℕ × ℕ)) (i a : ℕ) (xs : List (Option Cell)) (c d : Cell) → slice_index_or xs a None ≡ Some c
    → Split (things_at (cell_things s free) i xs) (things_at (cell_things s free) i (slice_set xs a (Some d))) (lies s (i + a) c ∷ []) (lies s (i + a) d ∷ [])
cells_split s free i a [] c d e = absurd cc
cells_split s free i zero (x ∷ xs) c d e =
    let rest = things_at (cell_things s free) (i + 1) xs in
    let number : i ≡ i + 0 = omega arith in
    subst (λ m. Split (things_at (cell_things s free) i (x ∷ xs)) (lies s i d ∷ rest) (lies s m c ∷ []) (lies s m d ∷ [])) number
    (subst (λ y. Split (cell_things s free i y ++ rest) (lies s i d ∷ rest) (lies s i c ∷ []) (lies s i d ∷ [])) (sym e) (split_right rest (split_whole (lies s i c ∷ []) (lies s i d ∷ []))))
cells_split s free i (suc a) (x ∷ xs) c d e =
    let number : i + 1 + a ≡ i + suc a = omega arith in
    split_left (cell_things s free i x) (subst (λ m. Split (things_at (cell_things s free) (i + 1) xs) (things_at (cell_things s free) (i + 1) (slice_set xs a (Some d))) (lies s m c ∷ []) (lies s m d ∷ [])) number (cells_split s free (i + 1) a xs c d e))

pub stored_split : (r : Rest) (ts : List ThreadState) (e w : ℕ) (c : Cell) (v : Owned) → cell_under r.partition w ≡ Some c
    → Split (server_things (record { rest = r; threads = ts; events = e })) (server_things (record { rest = record r { partition = stored r.partition w v }; threads = ts; events = e })) (lies r.number (address_of w) c ∷ [])
    (lies r.number (address_of w) (record c { value = v }) ∷ [])
stored_split r ts e w c v at =
    let n = r.number in
    let p = r.partition in
    let new = slice_set p.cells (address_of w) (with_value v (cell_under p w)) in
    let d = record c { value = v } in
    let copies = things_at (copy_things n) 0 r.cache in
    let mutexes = things_at (mutex_things n) 0 r.mutexes.there in
    let tasks = things_at (task_things n) 0 r.tasks in
    let threads = things_at (standing_things n) 0 ts in
    let inbox = things_at (waiting_things n) 0 r.inbox in
    let outbox = things_at leaving_things 0 r.outbox in
    let cells : Split (things_at (cell_things n p.free) 0 p.cells) (things_at (cell_things n p.free) 0 new) (lies n (address_of w) c ∷ []) (lies n (address_of w) d ∷ []) =
    subst (λ o. Split (things_at (cell_things n p.free) 0 p.cells) (things_at (cell_things n p.free) 0 (slice_set p.cells (address_of w) (with_value v o))) (lies n (address_of w) c ∷ []) (lies n (address_of w) d ∷ [])) (sym at)
    (subst (λ a. Split (things_at (cell_things n p.free) 0 p.cells) (things_at (cell_things n p.free) 0 (slice_set p.cells (address_of w) (Some d))) (lies n a c ∷ []) (lies n a d ∷ [])) (omega arith) (cells_split n p.free 0 (address_of w) p.cells c d at)) in
    let parts : Split (partition_things n p) (partition_things n (stored p w v)) (lies n (address_of w) c ∷ []) (lies n (address_of w) d ∷ []) = split_right (things_at (free_things n) 0 p.free) cells in
    let whole = split_right outbox (split_right inbox (split_right threads (split_right tasks (split_right mutexes (split_right copies (split_left (counts n (length p.cells) p.retired r.started r.mutexes.made e ∷ []) parts)))))) in
    subst
    (λ m. Split (server_things (record { rest = r; threads = ts; events = e })) (counts n m p.retired r.started r.mutexes.made e ∷ partition_things n (stored p w v) ++ copies ++ mutexes ++ tasks ++ threads ++ inbox ++ outbox) (lies n (address_of w) c ∷ [])
    (lies n (address_of w) d ∷ [])) (sym (length-set p.cells (address_of w) (with_value v (cell_under p w)))) whole

-- WHAT IS AMONG TWO LISTS THAT DIFFER IN ONE PART

-- among one it is in the part, or among the other one
pub other_side : (a b c d : List Thing) → Split a b c d → (y : Thing) → Among y a → Among y c ⊎ Among y b
other_side a b c d s y h =
    ⊎_elim
    (λ (q : Among y (s.left ++ c)).
    ⊎_elim (λ (z : Among y s.left). inr (subst (λ l. Among y l) (sym s.after) (among_first y (s.left ++ d) s.right (among_first y s.left d z)))) (λ (z : Among y c). inl z) (among_split y s.left c q))
    (λ (q : Among y s.right). inr (subst (λ l. Among y l) (sym s.after) (among_second y (s.left ++ d) s.right q))) (among_split y (s.left ++ c) s.right (subst (λ l. Among y l) s.before h))

pub back_split : {a b c d : List Thing} → Split a b c d → Split b a d c
back_split s = record { left = s.left; right = s.right; before = s.after; after = s.before }

-- the part is among it
pub part_among : (a b c d : List Thing) → Split a b c d → (y : Thing) → Among y c → Among y a
part_among a b c d s y h = subst (λ l. Among y l) (sym s.before) (among_first y (s.left ++ c) s.right (among_second y s.left c h))

alone_is : (x y : Thing) → Among y (x ∷ []) → x ≡ y
alone_is x y (inl e) = e
alone_is x y (inr h) = absurd h

-- A THREAD WITH A GIFT

module _ (n : ℕ) (x : ThreadState) (u : Owned) (free : x.gift ≡ None) where
  abbrev ws : List Thing
  ws = things_at (walk_things n) 0 x.walk

  abbrev ss : List Thing
  ss = things_at (slot_things n x.number) 0 x.slots

  abbrev ts : List Thing
  ts = things_at (temp_things n x.number) 0 x.temps

  abbrev gifted : List Thing
  gifted = (stands n false (given x u) ∷ holds (as_gift x.number) u ∷ []) ++ ws ++ ss ++ ts

  abbrev bare : List Thing
  bare = (stands n false x ∷ []) ++ ws ++ ss ++ ts

  is_bare : thread_things n false x ≡ bare
  is_bare = ap (λ g. (stands n false x ∷ gift_things x.number g) ++ ws ++ ss ++ ts) free

  -- beside itself it has the same
  thread_on : (y : Thing) → Among y (thread_things n false x) → (stands n false x ≡ y) ⊎ Among y (thread_things n false (given x u))
  thread_on y h = by (among_split y (stands n false x ∷ [] ++ ws ++ ss) ts (subst (λ l. Among y l) is_bare h))
    where
      first : Among y (stands n false x ∷ [] ++ ws) → (stands n false x ≡ y) ⊎ Among y gifted
      first q =
          ⊎_elim (λ (z : Among y (stands n false x ∷ [])). inl (alone_is (stands n false x) y z))
          (λ (z : Among y ws). inr (among_first y ((stands n false (given x u) ∷ holds (as_gift x.number) u ∷ []) ++ ws ++ ss) ts (among_first y ((stands n false (given x u) ∷ holds (as_gift x.number) u ∷ []) ++ ws) ss (among_second y (stands n false (given x u) ∷ holds (as_gift x.number) u ∷ []) ws z))))
          (among_split y (stands n false x ∷ []) ws q)

      by : Among y (stands n false x ∷ [] ++ ws ++ ss) ⊎ Among y ts → (stands n false x ≡ y) ⊎ Among y gifted
      by (inr q) = inr (among_second y ((stands n false (given x u) ∷ holds (as_gift x.number) u ∷ []) ++ ws ++ ss) ts q)
      by (inl q) =
          ⊎_elim first (λ (z : Among y ss). inr (among_first y ((stands n false (given x u) ∷ holds (as_gift x.number) u ∷ []) ++ ws ++ ss) ts (among_second y ((stands n false (given x u) ∷ holds (as_gift x.number) u ∷ []) ++ ws) ss z)))
          (among_split y (stands n false x ∷ [] ++ ws) ss q)

  thread_back : (y : Thing) → Among y (thread_things n false (given x u)) → (stands n false (given x u) ≡ y) ⊎ ((holds (as_gift x.number) u ≡ y) ⊎ Among y (thread_things n false x))
  thread_back y h = by (among_split y ((stands n false (given x u) ∷ holds (as_gift x.number) u ∷ []) ++ ws ++ ss) ts h)
    where
      plain : Among y bare → Among y (thread_things n false x)
      plain q = subst (λ l. Among y l) (sym is_bare) q

      two : Among y (stands n false (given x u) ∷ holds (as_gift x.number) u ∷ []) → (stands n false (given x u) ≡ y) ⊎ ((holds (as_gift x.number) u ≡ y) ⊎ Among y (thread_things n false x))
      two (inl q) = inl q
      two (inr q) = inr (inl (alone_is (holds (as_gift x.number) u) y q))

      first : Among y ((stands n false (given x u) ∷ holds (as_gift x.number) u ∷ []) ++ ws) → (stands n false (given x u) ≡ y) ⊎ ((holds (as_gift x.number) u ≡ y) ⊎ Among y (thread_things n false x))
      first q =
          ⊎_elim two (λ (z : Among y ws). inr (inr (plain (among_first y (stands n false x ∷ [] ++ ws ++ ss) ts (among_first y (stands n false x ∷ [] ++ ws) ss (among_second y (stands n false x ∷ []) ws z))))))
          (among_split y (stands n false (given x u) ∷ holds (as_gift x.number) u ∷ []) ws q)

      by : Among y ((stands n false (given x u) ∷ holds (as_gift x.number) u ∷ []) ++ ws ++ ss) ⊎ Among y ts → (stands n false (given x u) ≡ y) ⊎ ((holds (as_gift x.number) u ≡ y) ⊎ Among y (thread_things n false x))
      by (inr q) = inr (inr (plain (among_second y (stands n false x ∷ [] ++ ws ++ ss) ts q)))
      by (inl q) =
          ⊎_elim first (λ (z : Among y ss). inr (inr (plain (among_first y (stands n false x ∷ [] ++ ws ++ ss) ts (among_second y (stands n false x ∷ [] ++ ws) ss z)))))
          (among_split y ((stands n false (given x u) ∷ holds (as_gift x.number) u ∷ []) ++ ws) ss q)

-- THE TWO CLUSTERS

module _ (k : Cluster) (n : ℕ) (threads : List ThreadState) (events : ℕ) (h : Hand) (here : StandsHere k n threads h) (free : h.thread.gift ≡ None) (untaken : taking_by h.thread.number h.thread.phase (slice_get k.code h.thread.pc) ≡ None)
    (w : ℕ) (c : Cell) (found : cell_under h.work.rest.partition w ≡ Some c) where
  -- the cell without its value, which is the thread's gift
  abbrev pub emptied_hand : Hand
  emptied_hand = record { work = record h.work { rest = record h.work.rest { partition = stored h.work.rest.partition w owned.Nothing } }; thread = given h.thread c.value }

  abbrev half : Hand
  half = record h { work = record h.work { rest = record h.work.rest { partition = stored h.work.rest.partition w owned.Nothing } } }

  abbrev A : Cluster
  A = put_in k n threads events h

  abbrev B : Cluster
  B = put_in k n threads events emptied_hand

  abbrev H : Cluster
  H = put_in k n threads events half

  cell_part : Split (things_of A) (things_of H) (lies n (address_of w) c ∷ []) (lies n (address_of w) (emptied c) ∷ [])
  cell_part =
      subst (λ m. Split (things_of A) (things_of H) (lies m (address_of w) c ∷ []) (lies m (address_of w) (emptied c) ∷ [])) here.number
      (servers_split n k.servers (record { rest = h.work.rest; threads = set_thread threads h.thread; events = events }) (record { rest = half.work.rest; threads = set_thread threads h.thread; events = events }) (lies h.work.rest.number (address_of w) c ∷ [])
      (lies h.work.rest.number (address_of w) (emptied c) ∷ []) here.server (stored_split h.work.rest (set_thread threads h.thread) events w c owned.Nothing found))

  here_half : StandsHere k n threads half
  here_half = record { server = here.server; number = here.number; thread = here.thread }

  thread_part : Split (things_of H) (things_of B) (thread_things n false h.thread) (thread_things n false (given h.thread c.value))
  thread_part = put_split k n threads events half emptied_hand here_half refl refl

  thread_in_half : (y : Thing) → Among y (thread_things n false h.thread) → Among y (things_of H)
  thread_in_half y q = part_among (things_of H) (things_of B) (thread_things n false h.thread) (thread_things n false (given h.thread c.value)) thread_part y q

  -- what the thread has is there before
  half_on : (y : Thing) → Among y (things_of H) → (lies n (address_of w) (emptied c) ≡ y) ⊎ Among y (things_of A)
  half_on y q =
      ⊎_elim (λ (z : Among y (lies n (address_of w) (emptied c) ∷ [])). inl (alone_is (lies n (address_of w) (emptied c)) y z)) (λ (z : Among y (things_of A)). inr z)
      (other_side (things_of H) (things_of A) (lies n (address_of w) (emptied c) ∷ []) (lies n (address_of w) c ∷ []) (back_split cell_part) y q)

  half_to : (y : Thing) → Among y (things_of H) → (stands n false h.thread ≡ y) ⊎ Among y (things_of B)
  half_to y q =
      ⊎_elim
      (λ (z : Among y (thread_things n false h.thread)).
      ⊎_elim (λ (v : stands n false h.thread ≡ y). inl v)
      (λ (v : Among y (thread_things n false (given h.thread c.value))). inr (part_among (things_of B) (things_of H) (thread_things n false (given h.thread c.value)) (thread_things n false h.thread) (back_split thread_part) y v))
      (thread_on n h.thread c.value free y z))
      (λ (z : Among y (things_of B)). inr z) (other_side (things_of H) (things_of B) (thread_things n false h.thread) (thread_things n false (given h.thread c.value)) thread_part y q)

  on : (y : Thing) → Among y (things_of A) → (lies n (address_of w) c ≡ y) ⊎ ((stands n false h.thread ≡ y) ⊎ Among y (things_of B))
  on y q =
      ⊎_elim (λ (z : Among y (lies n (address_of w) c ∷ [])). inl (alone_is (lies n (address_of w) c) y z)) (λ (z : Among y (things_of H)). inr (half_to y z))
      (other_side (things_of A) (things_of H) (lies n (address_of w) c ∷ []) (lies n (address_of w) (emptied c) ∷ []) cell_part y q)

  back : (y : Thing) → Among y (things_of B) → (lies n (address_of w) (emptied c) ≡ y) ⊎ ((stands n false (given h.thread c.value) ≡ y) ⊎ ((holds (as_gift h.thread.number) c.value ≡ y) ⊎ Among y (things_of A)))
  back y q =
      ⊎_elim
      (λ (z : Among y (thread_things n false (given h.thread c.value))).
      ⊎_elim (λ (v : stands n false (given h.thread c.value) ≡ y). inr (inl v))
      (λ (v : (holds (as_gift h.thread.number) c.value ≡ y) ⊎ Among y (thread_things n false h.thread)).
      ⊎_elim (λ (r : holds (as_gift h.thread.number) c.value ≡ y). inr (inr (inl r))) (λ (r : Among y (thread_things n false h.thread)). from_half (thread_in_half y r)) v) (thread_back n h.thread c.value free y z))
      from_half (other_side (things_of B) (things_of H) (thread_things n false (given h.thread c.value)) (thread_things n false h.thread) (back_split thread_part) y q)
    where
      from_half : Among y (things_of H) → (lies n (address_of w) (emptied c) ≡ y) ⊎ ((stands n false (given h.thread c.value) ≡ y) ⊎ ((holds (as_gift h.thread.number) c.value ≡ y) ⊎ Among y (things_of A)))
      from_half v = ⊎_elim (λ (r : lies n (address_of w) (emptied c) ≡ y). inl r) (λ (r : Among y (things_of A)). inr (inr (inr r))) (half_on y v)

  pub swapped : Swapped A B n (address_of w) c h.thread
  swapped = record {
    untaken = untaken;
    code = refl;
    on = on;
    back = back;
    cell = part_among (things_of A) (things_of H) (lies n (address_of w) c ∷ []) (lies n (address_of w) (emptied c) ∷ []) cell_part (lies n (address_of w) c) (inl refl);
    cell_after =
        (let in_half = part_among (things_of H) (things_of A) (lies n (address_of w) (emptied c) ∷ []) (lies n (address_of w) c ∷ []) (back_split cell_part) (lies n (address_of w) (emptied c)) (inl refl) in
        ⊎_elim (λ (v : stands n false h.thread ≡ lies n (address_of w) (emptied c)). absurd (cc v)) (λ (v : Among (lies n (address_of w) (emptied c)) (things_of B)). v) (half_to (lies n (address_of w) (emptied c)) in_half));
    thread =
        (let in_half = thread_in_half (stands n false h.thread) (inl refl) in
        ⊎_elim (λ (v : lies n (address_of w) (emptied c) ≡ stands n false h.thread). absurd (cc v)) (λ (v : Among (stands n false h.thread) (things_of A)). v) (half_on (stands n false h.thread) in_half));
    thread_after = part_among (things_of B) (things_of H) (thread_things n false (given h.thread c.value)) (thread_things n false h.thread) (back_split thread_part) (stands n false (given h.thread c.value)) (inl refl);
    gift_after = part_among (things_of B) (things_of H) (thread_things n false (given h.thread c.value)) (thread_things n false h.thread) (back_split thread_part) (holds (as_gift h.thread.number) c.value) (inr (inl refl));
  }

-- THE SUMS

module _ (n e t : ℕ) where
  abbrev O : List Thing → Hand → Type 0
  O others h = HandOk Sums n e t others h

  -- what is in the hand becomes the thread's gift, or comes out of it
  gift_trade : (x : ThreadState) (u : Owned) → x.gift ≡ None → Trade (had_by n x) [] (holds (as_gift x.number) u ∷ []) (had_by n (given x u))
  gift_trade x u free =
      subst (λ g. Trade (gift_things x.number g ++ things_at (walk_things n) 0 x.walk ++ things_at (slot_things n x.number) 0 x.slots ++ things_at (temp_things n x.number) 0 x.temps) [] (holds (as_gift x.number) u ∷ []) (had_by n (given x u))) (sym free)
      (record {
        rest = things_at (walk_things n) 0 x.walk ++ things_at (slot_things n x.number) 0 x.slots ++ things_at (temp_things n x.number) 0 x.temps;
        before = λ f. omega arith;
        after = λ f. omega (arith, Rattle.law_words_asked.proofs.Below.law_counts_sums.Trades.tot-append f (holds (as_gift x.number) u ∷ things_at (walk_things n) 0 x.walk ++ things_at (slot_things n x.number) 0 x.slots) (things_at (temp_things n x.number) 0 x.temps), Rattle.law_words_asked.proofs.Below.law_counts_sums.Trades.tot-append f (holds (as_gift x.number) u ∷ things_at (walk_things n) 0 x.walk) (things_at (slot_things n x.number) 0 x.slots), Rattle.law_words_asked.proofs.Below.law_counts_sums.Trades.tot-append f (things_at (walk_things n) 0 x.walk ++ things_at (slot_things n x.number) 0 x.slots) (things_at (temp_things n x.number) 0 x.temps), Rattle.law_words_asked.proofs.Below.law_counts_sums.Trades.tot-append f (things_at (walk_things n) 0 x.walk) (things_at (slot_things n x.number) 0 x.slots));
      })

  pub gift_comes : (others : List Thing) (u : Owned) (h : Hand) → h.thread.gift ≡ None → O (holds in_hand u ∷ others) h → O others (record h { thread = given h.thread u })
  gift_comes others u h free g = thread_trades sums_kept n e t h (given h.thread u) refl (gift_trade h.thread u free) (one_goes (holds in_hand u) others) (hands_on in_hand (as_gift h.thread.number) u) g

  -- a value of a cell is taken out into the hand, with another one in its place
  pub cell_trades : (others : List Thing) (w : ℕ) (c : Cell) (v : Owned) (h h2 : Hand) → look h.work.rest.partition w ≡ Some c → put_at (cell_spot w None) (value.Own v) h ≡ Some h2 → O (holds in_hand v ∷ others) h → O (holds in_hand c.value ∷ others) h2
  cell_trades others w c v h h2 found put_so g =
      given_by (O (holds in_hand c.value ∷ others)) (put_at (cell_spot w None) (value.Own v) h) h2
      (puts_at sums_kept n e t (cell_spot w None) (value.Own c.value) (value.Own v) h (ap Rattle.law_words_asked.specs.Below.server_model.Places.value_in found) swap rule g) put_so
    where
      swap : Trade (holds in_hand v ∷ others) (holds in_hand v ∷ []) (holds in_hand c.value ∷ []) (holds in_hand c.value ∷ others)
      swap = record { rest = others; before = λ f. omega arith; after = λ f. omega arith }

      rule : (p : things.Spot) (l : Location) → Rule (holds p c.value ∷ holds in_hand v ∷ []) (holds p v ∷ holds in_hand c.value ∷ [])
      rule p l =
          in_turn (rules_beside {a = holds p c.value ∷ []} {b = holds in_hand c.value ∷ []} {c = holds in_hand v ∷ []} {d = holds p v ∷ []} (hands_on p in_hand c.value) (hands_on in_hand p v))
          (rule_turned (holds in_hand c.value ∷ holds p v ∷ []) (holds p v ∷ holds in_hand c.value ∷ []) (λ f. omega arith))

  pub nothing_comes : (others : List Thing) (h : Hand) → O others h → O (holds in_hand owned.Nothing ∷ others) h
  nothing_comes others h g = Rattle.law_words_asked.proofs.Below.law_counts_sums.Values.some_come_by sums_kept n e t others (holds in_hand owned.Nothing ∷ []) h (comes (holds in_hand owned.Nothing) refl) g

  pub nothing_goes : (others : List Thing) (h : Hand) → O (holds in_hand owned.Nothing ∷ others) h → O others h
  nothing_goes others h g = Rattle.law_words_asked.proofs.Below.law_counts_sums.Values.some_go_by sums_kept n e t others (holds in_hand owned.Nothing ∷ []) h (Rattle.law_words_asked.proofs.Below.law_counts_sums.Rules.goes (holds in_hand owned.Nothing) refl) g
