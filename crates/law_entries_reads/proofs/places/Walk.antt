-- A place is followed star by star for reading: where it becomes ready, the acts on the way are allowed and leave the coloured heap as it is, the loads are reached, and what stands at
-- the spot is reached too. Whoever reads uses it.
use Rattle.std.proofs.Common.{◌≡◌, ◌<◌, ◌≤◌, ℕ, zero, suc, ◌+◌, ◌==◌, nat_lt, Bool, true, false, if◌then◌else◌, List, length, Option, Some, None, is_some, option_map, refl, sym, ap, subst, ◌∙◌, arith}
use Rattle.std.specs.Prelude.{slice_get, slice_set}
use Rattle.law_copies_kept.specs.Below.fr_base.declared.place.Lval.{Lval}
use Rattle.law_copies_kept.specs.Below.fr_base.declared.settings.Options.{Options}
use Rattle.law_copies_kept.specs.Below.fr_base.declared.instruction.Instr.{Instr}
use Rattle.law_copies_kept.specs.Below.global_addr.Words.{colour_of, server_of, next_word}
use Rattle.law_copies_kept.specs.Below.heap_partition.Plain.{plain_of}
use Rattle.law_copies_kept.specs.Below.heap_partition.declared.value.BoxPtr.{BoxPtr}
use Rattle.law_copies_kept.specs.Below.heap_partition.declared.value.Cell.{Cell}
use Rattle.law_copies_kept.specs.Below.read_cache.Cache.{Copy, copy_of, cell_in, hit, is_cached}
use Rattle.law_copies_kept.specs.Below.mut_borrow.Refs.{cleaned_answer}
use Rattle.law_copies_kept.specs.Below.mut_borrow.declared.mutable.MutRef.{MutRef}
use Rattle.law_copies_kept.specs.Below.mut_borrow.declared.mutable.Cleaned.TheVariants as cleaned
use Rattle.law_copies_kept.specs.Below.migration.Packing.{unpinned}
use Rattle.law_copies_kept.specs.Below.place_walk.declared.hop.Hop.{Hop}
use Rattle.law_copies_kept.specs.Below.place_walk.declared.hop.Hop.TheVariants as hop
use Rattle.law_copies_kept.specs.Below.place_walk.Hops.{by_copy, read_hop}
use Rattle.law_copies_kept.specs.Below.thread_state.View.{ThreadState}
use Rattle.law_copies_kept.specs.Below.thread_state.declared.value.Value.{Value}
use Rattle.law_copies_kept.specs.Below.thread_state.declared.value.Value.TheVariants as value
use Rattle.law_copies_kept.specs.Below.journal.declared.act.Act.TheVariants as act
use Rattle.law_copies_kept.specs.Below.server_model.declared.event.Event.{Event}
use Rattle.law_copies_kept.specs.Below.server_model.Servers.{Rest, Server, Cluster}
use Rattle.law_copies_kept.specs.Below.server_model.Work.{Hand, note, working, with_slots, look, then_some}
use Rattle.law_copies_kept.specs.Below.server_model.NewWords.{issue_tint, issue_renewal}
use Rattle.law_copies_kept.specs.Below.server_model.Places.{Spot, in_slot, on_top, in_cell, in_copy, nowhere, value_at, load_of, load_at, put_at, pointer_of, took, with_word, put_word}
use Rattle.law_copies_kept.specs.Below.server_model.Prepare.{Prepared, ready, requested, nothing, and_then, ready_at, ask_copy, ask_object, request_by, box_of, clean_last, cleaned_by, clean, clean_value, use_copy, hopped, local, hit_by, read_by, read_value, read_clean, tinted_first, read_star, read_stars}
use Rattle.law_copies_kept.specs.Below.server_model.Events.{begin_work}
use Rattle.law_entries_variables.specs.Below.coloured_heap.Heap.{Coloured, copy_at}
use Rattle.law_copies_kept.specs.Below.coherent_memory.Follow.{Ground, value_in}
use Rattle.law_copies_kept.specs.Below.coherent_memory.Sight.{sight}
use Rattle.law_copies_kept.specs.Below.coherent_memory.Colours.{StandsColoured}
use Rattle.law_copies_kept.specs.Below.coherent_types.ClusterTypes.{IsCoherent}
use Rattle.law_copies_kept.specs.Below.law_counts_sums.Laws.{Gives}
use Rattle.law_copies_kept.proofs.Below.law_counts_sums.Known.{next_server}
use Rattle.law_copies_kept.proofs.Below.law_counts_sums.Results.{test_gives, weaker}
use Rattle.law_copies_kept.specs.Below.law_words_kept.reads.Reading.{Reads}
use Rattle.law_copies_kept.proofs.Below.law_words_borrows.Below.law_heap_steps.turns.Events.{AtStep}
use Rattle.law_copies_kept.proofs.Below.law_words_borrows.Below.law_heap_steps.turns.ReadWalk.{Finds, At, Comes, reads as walk, seen_value, same_pointer, set_there, value_loaded}
use Rattle.law_copies_kept.proofs.Below.law_words_borrows.Below.law_heap_steps.turns.StarLines.{finds}
use Rattle.law_entries_reads.proofs.places.Standing.{Loads, loads_none}
use Rattle.law_entries_reads.proofs.places.Found.{InHeap, in_heap, local_allowed, hit_allowed, loads_here, loads_copy, cached_there}
use Rattle.law_entries_reads.proofs.places.Hops.{Hops, no_way, to_slot, to_cell, to_copy, asks, cleans, hops_of, stars_end}
use Rattle.law_entries_reads.proofs.places.Still.{Still, Walked, Reaches, still_begins, still_loads, still_notes, uses, ready_reaches}

-- a mutable reference is no shared one
mut_unpinned : (u : Value) (q : MutRef) → unpinned u ≡ value.Mut q → u ≡ value.Mut q
mut_unpinned (value.Mut r) q e = e
mut_unpinned (value.Own o) q e = absurd (cc e)
mut_unpinned value.Gone q e = absurd (cc e)
mut_unpinned (value.SharedSlot i) q e = absurd (cc e)
mut_unpinned (value.MutSlot i) q e = absurd (cc e)
mut_unpinned (value.Shared r) q e = absurd (cc e)
mut_unpinned (value.Held m) q e = absurd (cc e)

-- what is cached is hit
cached_as_hit : (cs : List Copy) (w : ℕ) → is_cached cs w ≡ is_some (hit cs w)
cached_as_hit cs w = by (copy_of cs w)
  where
    by : (o : Option Copy) → is_some o ≡ is_some (cell_in o)
    by None = refl
    by (Some c) = refl

-- what is there
has_some : {A : Type 0} (o : Option A) → is_some o ≡ true → (a : A) × (o ≡ Some a)
has_some None e = absurd (cc e)
has_some (Some a) e = (a, refl)

-- IN A COHERENT CLUSTER

module _ (k : Cluster) (co : IsCoherent k) (e : Event) (i : Instr) (s : Server) (t : ℕ) (y : ThreadState) (a : AtStep k e i s t y) (c0 : Coloured) (is_coloured : StandsColoured k c0) (w : Lval) (n : ℕ) (reads : Reads i w n) where
  abbrev o : Options
  o = k.options

  abbrev num : ℕ
  num = s.rest.number

  abbrev g : Ground
  g = (sight k).ground

  abbrev found : Finds g y s.rest w n
  found = finds k co e i s t y a w n reads

  abbrev W : Hand → Spot → Type 0
  W = Walked o c0 s y

  abbrev S : Hand → Type 0
  S = Still o c0 s y

  abbrev R : Prepared → Type 0
  R = Reaches o c0 s y

  -- ONE STAR

  module _ (d : ℕ) (lt : d < n) (h : Hand) (p : Spot) (at : At g y s.rest w n found d h p) (q : Walked k.options c0 s y h p) (v : Value) (there : value_at h p ≡ Some v) where
    abbrev h1 : Hand
    h1 = load_at p h

    abbrev cs : List Copy
    cs = h.work.rest.cache

    -- with what is loaded
    still1 : S h1
    still1 = still_loads o c0 s y h p q

    -- what stands there in the cluster
    it : (u : Value) × (value_in g at.location ≡ Some u) × (unpinned v ≡ unpinned u)
    it = seen_value (value_in g at.location) v (sym (ap (option_map unpinned) there) ∙ at.seen)

    -- at the same server
    same_number : h.work.rest.number ≡ num
    same_number = at.like.number

    -- at a slot the value stands in it
    slot_there : (j : ℕ) → p ≡ in_slot j → slice_get h.thread.slots j ≡ Some v
    slot_there j z = ap (value_at h) (sym z) ∙ there

    module _ (b : BoxPtr) (pointer : pointer_of v ≡ Some b) where
      its_pointer : pointer_of it.0 ≡ Some b
      its_pointer = same_pointer v it.0 it.2 ∙ pointer

      z : InHeap c0 g b
      z = in_heap k co e i s t y a c0 is_coloured w n reads d lt at.location it.0 b at.located it.1 its_pointer

      some_cell : {c f : Cell} → Some c ≡ Some f → c ≡ f
      some_cell m = cc

      -- the object is here
      here : server_of b.word ≡ h.work.rest.number → R (ready (local v h1) (in_cell b.word None))
      here mine = subst (λ m. R (ready (hopped (λ f. note (act.Local f.object f.word)) m h1) (in_cell b.word None))) (sym pointer) (λ u f. by (look h.work.rest.partition b.word) refl)
        where
          h2 : Hand
          h2 = working (note (act.Local b.object b.word)) h1

          still2 : S h2
          still2 = still_notes o c0 s y h1 (act.Local b.object b.word) (local_allowed o num c0 g b z (mine ∙ same_number)) (λ m. refl) still1

          by : (m : Option Cell) → look h.work.rest.partition b.word ≡ m → W h2 (in_cell b.word None)
          by None f = record { still = still2; reached = subst (λ m. Loads num c0 (load_of m)) (sym f) (loads_none num c0) }
          by (Some c) f =
              let same : z.cell ≡ c = some_cell (sym z.found ∙ found.direct d at.location it.0 b lt at.located it.1 its_pointer (mine ∙ same_number) c (ap (λ m. look m b.word) (sym at.like.partition) ∙ f)) in
              record { still = still2; reached = subst (λ m. Loads num c0 (load_of m)) (ap (λ m. Some m) same ∙ sym f) (loads_here o num c0 g b z (mine ∙ same_number)) }

      -- a copy of it is here
      module _ (clean : (m : MutRef) → v ≡ value.Mut m → m.dirty ≡ false) (cached : is_cached cs b.word ≡ true) where
        copy : (c : Cell) × (hit cs b.word ≡ Some c)
        copy = has_some (hit cs b.word) (sym (cached_as_hit cs b.word) ∙ cached)

        copy_there : hit s.rest.cache b.word ≡ Some copy.0
        copy_there = sym (at.like.hits b.word) ∙ copy.1

        clean_there : (m : MutRef) → it.0 ≡ value.Mut m → m.dirty ≡ false
        clean_there m f = clean m (mut_unpinned v m (it.2 ∙ ap unpinned f))

        same : z.cell ≡ copy.0
        same = some_cell (sym z.found ∙ found.copied d at.location it.0 b lt at.located it.1 its_pointer clean_there copy.0 copy_there)

        its_copy : copy_at c0 num b.word ≡ Some (record { server = num; word = b.word; object = copy.0.object; value = plain_of copy.0.value })
        its_copy = cached_there k co e.server s a.here c0 is_coloured b.word copy.0 copy_there

        loads : Loads num c0 (load_of (Some copy.0))
        loads = subst (λ m. Loads num c0 (load_of (Some m))) same (loads_copy o num c0 g b z _ its_copy (ap (λ (m : Cell). plain_of m.value) (sym same)))

        abbrev h2 : Hand
        h2 = working (note (act.Hit b.object b.word)) h1

        still2 : S h2
        still2 = still_notes o c0 s y h1 (act.Hit b.object b.word) (hit_allowed o num c0 g b z _ its_copy) (λ m. refl) still1

        hits : R (ready_at (in_copy b.word) (use_copy p v b.word (hit_by v h1)))
        hits =
            subst (λ m. R (ready_at (in_copy b.word) (use_copy p v b.word (hopped (λ f. note (act.Hit f.object f.word)) m h1)))) (sym pointer)
            (ready_reaches o c0 s y (in_copy b.word) (use_copy p v b.word h2)
            (weaker S (λ (h3 : Hand). (u : Value) → value_at h3 (in_copy b.word) ≡ Some u → W h3 (in_copy b.word)) (use_copy p v b.word h2) (uses o c0 s y p v b.word h2 still2 slot_there at.off_top)
            (λ h3 r u f. record { still = r; reached = subst (λ m. Loads num c0 (load_of m)) (sym (r.hits b.word ∙ copy_there)) loads })))

    -- CLEANING

    -- a dirty reference to an object elsewhere gets the next colour, and its object is asked for
    module _ (m : MutRef) (is : v ≡ value.Mut m) (dirty : m.dirty ≡ true) (away : (server_of m.word == h.work.rest.number) ≡ false) where
      abbrev new : MutRef
      new = took m (next_word m.word)

      uncached : is_cached cs (next_word m.word) ≡ false
      uncached =
          cached_as_hit cs (next_word m.word) ∙ ap is_some (at.like.hits (next_word m.word)) ∙ sym (cached_as_hit s.rest.cache (next_word m.word))
          ∙ found.uncached d at.location it.0 (record { word = m.word; object = m.object }) lt at.located it.1 (its_pointer (record { word = m.word; object = m.object }) (ap pointer_of is))

      asks_new : (h3 : Hand) (p2 : Spot) → h3.work.rest ≡ h.work.rest → value_at h3 p2 ≡ Some (value.Mut new) → R (read_value p2 (value_at h3 p2) h3)
      asks_new h3 p2 f there2 = subst (λ z. R (read_value p2 z h3)) (sym there2) (subst (λ z. R (read_by p2 (value.Mut new) z h3)) (sym hop_is) tt)
        where
          elsewhere : (server_of (next_word m.word) == h.work.rest.number) ≡ false
          elsewhere = ap (λ z. z == h.work.rest.number) (next_server m.word) ∙ away

          hop_is : read_hop h3.work.rest.number h3.work.rest.cache (value.Mut new) ≡ Some (hop.NeedCopy (next_word m.word))
          hop_is =
              ap (λ (z : Rest). read_hop z.number z.cache (value.Mut new)) f ∙ ap (λ z. Some (if z then hop.Direct (next_word m.word) else by_copy cs (next_word m.word))) elsewhere
              ∙ ap (λ z. Some (if z then hop.Hit (next_word m.word) else hop.NeedCopy (next_word m.word))) uncached

      abbrev Asks : Spot → Hand → Type 0
      Asks p2 h3 = R (read_value p2 (value_at h3 p2) h3)

      abbrev go : Hand → Spot → Prepared
      go h3 p2 = read_value p2 (value_at h3 p2) h3

      then_asks : (p2 : Spot) (f : Option Hand) → Gives (Asks p2) f → R (and_then go (ready_at p2 f))
      then_asks p2 None r = tt
      then_asks p2 (Some h3) r = r

      puts_new : (p2 : Spot) (h3 : Hand) → h3.work.rest ≡ h.work.rest → value_at h3 p2 ≡ Some (value.Mut m) → (p2 ≡ on_top → ⊥) → Gives (Asks p2) (put_at p2 (value.Mut new) h3)
      puts_new (in_slot j) h3 f r off =
          test_gives (Asks (in_slot j)) (nat_lt j (length h3.thread.slots)) _ (λ on. asks_new (with_slots (slice_set h3.thread.slots j (value.Mut new)) h3) (in_slot j) f (set_there h3.thread.slots j (value.Mut m) (value.Mut new) r))
      puts_new on_top h3 f r off = absurd (off refl)
      puts_new (in_cell u z) h3 f r off = tt
      puts_new (in_copy u) h3 f r off = tt
      puts_new nowhere h3 f r off = tt

      tints : R (and_then go (ready_at p (put_word p (issue_tint (box_of m) h1.work) h1)))
      tints =
          let h3 : Hand = record h1 { work = (issue_tint (box_of m) h1.work).work } in
          let stands : value_at h3 p ≡ Some (value.Mut m) = tinted p ∙ there ∙ ap (λ z. Some z) is in
          then_asks p (put_word p (issue_tint (box_of m) h1.work) h1)
          (subst (λ z. Gives (Asks p) (then_some z (λ u. then_some (with_word (next_word m.word) u) (λ f. put_at p f h3)))) (sym stands) (puts_new p h3 refl stands at.off_top))
        where
          tinted : (p2 : Spot) → value_at (record h1 { work = (issue_tint (box_of m) h1.work).work }) p2 ≡ value_at h p2
          tinted (in_slot j) = refl
          tinted on_top = refl
          tinted (in_cell u z) = refl
          tinted (in_copy u) = refl
          tinted nowhere = refl

      last : R (and_then go (clean_last p m h1))
      last = subst (λ b. R (and_then go (if b then ready_at p (then_some (issue_renewal (box_of m) h1.work) (λ f. put_word p f h1)) else requested (ask_object (box_of m) h1)))) (sym away) tt

      by_answer : (b : Bool) → R (and_then go (cleaned_by (if b then cleaned.Tinted (next_word m.word) else cleaned.MustRenew) p m h1))
      by_answer true = tints
      by_answer false = last

      is_cleaned : R (and_then go (clean p m h1))
      is_cleaned = by (nat_lt (colour_of m.word) h1.work.rest.partition.limit)
        where
          answer : R (and_then go (cleaned_by (cleaned_answer h1.work.rest.partition.limit m) p m h1))
          answer =
              subst (λ b. R (and_then go (cleaned_by (if b then (if nat_lt (colour_of m.word + 1) h1.work.rest.partition.limit then cleaned.Tinted (next_word m.word) else cleaned.MustRenew) else cleaned.Same) p m h1))) (sym dirty)
              (by_answer (nat_lt (colour_of m.word + 1) h1.work.rest.partition.limit))

          by : (b : Bool) → R (and_then go (if b then cleaned_by (cleaned_answer h1.work.rest.partition.limit m) p m h1 else nothing))
          by true = answer
          by false = tt

    -- ITS HOP

    abbrev read_on : Hand → Spot → Prepared
    read_on h3 p2 = read_value p2 (value_at h3 p2) h3

    -- a hop before which nothing is cleaned
    steadily : (z : Option Hop) → read_hop h.work.rest.number cs v ≡ z → read_clean p v z h1 ≡ ready h1 p → R (read_by p v z h1) → R (and_then read_on (read_clean p v z h1))
    steadily z is still r =
        subst (λ f. R (and_then read_on f)) (sym still) (subst (λ f. R (read_value p f h1)) (sym (value_loaded p h ∙ there)) (subst (λ f. R (read_by p v f h1)) (sym is) r))

    -- a request
    asked : (f : Option BoxPtr) → R (request_by ask_copy h1 f)
    asked None = tt
    asked (Some b) = tt

    -- by its hop
    by_hop : (z : Option Hop) → Hops h.work.rest.number cs v z → read_hop h.work.rest.number cs v ≡ z → R (and_then read_on (read_clean p v z h1))
    by_hop _ no_way is = steadily None is refl tt
    by_hop _ (to_slot j) is = steadily (Some (hop.Slot j)) is refl (λ u f. record { still = still1; reached = loads_none num c0 })
    by_hop _ (to_cell b pointer mine) is = steadily (Some (hop.Direct b.word)) is refl (here b pointer mine)
    by_hop _ (to_copy b pointer clean cached) is = steadily (Some (hop.Hit b.word)) is refl (hits b pointer clean cached)
    by_hop _ (asks u) is = steadily (Some (hop.NeedCopy u)) is refl (asked (pointer_of v))
    by_hop _ (cleans m same dirty away) is = subst (λ f. R (and_then read_on (clean_value p (Some f) h1))) (sym same) (is_cleaned m same dirty away)

    -- whatever stands there
    star_reached : R (read_star h p)
    star_reached = subst (λ f. R (and_then read_on (tinted_first p f h1))) (sym there) (by_hop (read_hop h.work.rest.number cs v) (hops_of h.work.rest.number cs v) refl)

  -- ALL STARS

  abbrev h0 : Hand
  h0 = record { work = begin_work s.rest; thread = y }

  abbrev after : ℕ → Prepared
  after m = read_stars m h0 (in_slot w.slot)

  -- one star more
  next_star : (d : ℕ) → d < n → (x : Prepared) → Comes g y s.rest w n found d x → R x → R (and_then read_star x)
  next_star d lt (ready h p) c r = by (value_at h p) refl
    where
      by : (f : Option Value) → value_at h p ≡ f → R (read_star h p)
      by None z = subst (λ f. R (and_then (λ h3 p2. read_value p2 (value_at h3 p2) h3) (tinted_first p f (load_at p h)))) (sym z) tt
      by (Some v) z = star_reached d lt h p (c v z) (r v z) v z
  next_star d lt (requested h) c r = tt
  next_star d lt nothing c r = tt

  -- so many stars of the place
  pub stars_reached : (m : ℕ) → m ≤ n → R (after m)
  stars_reached zero le = λ v z. record { still = still_begins o c0 s y; reached = loads_none num c0 }
  stars_reached (suc m) le = subst R (sym (stars_end m h0 (in_slot w.slot))) (next_star m (omega (arith, le)) (after m) (walk g y s.rest w n found m (omega (arith, le))) (stars_reached m (omega (arith, le))))
