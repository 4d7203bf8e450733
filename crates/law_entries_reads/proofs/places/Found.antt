-- What the coloured heap has of an object to which a pointer leads that a thread reads, and of a copy in the cache.
use Rattle.std.proofs.Common.{◌≡◌, inl, inr, ◌<◌, ◌≤◌, ℕ, ◌==◌, ◌&&◌, ◌||◌, not, Bool, true, false, List, [], ◌∷◌, Option, Some, None, option_map, refl, sym, ap, ap₂, subst, ◌∙◌, arith}
use Rattle.law_copies_kept.specs.Below.fr_base.declared.label.Label.TheVariants as label
use Rattle.law_copies_kept.specs.Below.fr_base.Names.{same_plain}
use Rattle.law_copies_kept.specs.Below.fr_base.declared.place.Lval.{Lval}
use Rattle.law_copies_kept.specs.Below.fr_base.declared.settings.Options.{Options}
use Rattle.law_copies_kept.specs.Below.fr_base.declared.instruction.Instr.{Instr}
use Rattle.law_copies_kept.specs.Below.global_addr.Words.{server_of}
use Rattle.law_copies_kept.specs.Below.heap_partition.Plain.{plain_of}
use Rattle.law_copies_kept.specs.Below.heap_partition.declared.value.BoxPtr.{BoxPtr}
use Rattle.law_copies_kept.specs.Below.heap_partition.declared.value.Cell.{Cell}
use Rattle.law_copies_kept.specs.Below.read_cache.Cache.{Copy, copy_of, cell_in, hit}
use Rattle.law_copies_kept.specs.Below.thread_state.View.{ThreadState}
use Rattle.law_copies_kept.specs.Below.thread_state.declared.phase.Phase.TheVariants as phase
use Rattle.law_copies_kept.specs.Below.thread_state.declared.value.Value.{Value}
use Rattle.law_copies_kept.specs.Below.journal.View.{EntryView}
use Rattle.law_copies_kept.specs.Below.journal.declared.act.Act.TheVariants as act
use Rattle.law_copies_kept.specs.Below.server_model.declared.event.Event.{Event}
use Rattle.law_copies_kept.specs.Below.server_model.Servers.{Server, Cluster, server_at}
use Rattle.law_copies_kept.specs.Below.server_model.Places.{pointer_of}
use Rattle.law_copies_kept.specs.Below.server_model.Events.{can_step}
use Rattle.law_entries_variables.specs.Below.coloured_heap.Lists.{holds}
use Rattle.law_entries_variables.specs.Below.coloured_heap.Heap.{Lies, Living, Copied, Coloured, object_at, lies_at, copy_at}
use Rattle.law_entries_variables.specs.Below.coloured_heap.Rules.{names, allows}
use Rattle.law_entries_variables.specs.Below.coloured_heap.Reach.{is_loaded, has_copy}
use Rattle.law_copies_kept.specs.Below.coherent_memory.Names.{tot, some, Among}
use Rattle.law_copies_kept.specs.Below.coherent_memory.Things.{Location, Thing, lies, copied, things_of}
use Rattle.law_copies_kept.specs.Below.coherent_memory.Follow.{Standing, Ground, cell_of, value_in, locate, leads}
use Rattle.law_copies_kept.specs.Below.coherent_memory.Sight.{sight, word}
use Rattle.law_copies_kept.specs.Below.coherent_memory.Words.{HasWords, Fresh, IsStale}
use Rattle.law_copies_kept.specs.Below.coherent_memory.OneHeap.{first_shown}
use Rattle.law_copies_kept.specs.Below.coherent_memory.Colours.{StandsColoured, living_of, copy_of as shown_copy, same_copied}
use Rattle.law_copies_kept.proofs.Below.coherent_memory.Sums.{server_parts}
use Rattle.law_copies_kept.proofs.Below.coherent_memory.Words.{itself, words_law}
use Rattle.law_copies_kept.specs.Below.coherent_types.ClusterTypes.{IsCoherent}
use Rattle.law_copies_kept.proofs.Below.law_counts_sums.Events.{tot-server}
use Rattle.law_copies_kept.proofs.Below.law_counts_sums.Copies.{copy_word, copy_goes}
use Rattle.law_copies_kept.specs.Below.law_words_paths.paths.HeapStore.{HasPaths}
use Rattle.law_copies_kept.proofs.Below.law_words_paths.paths.Alike.{coherent_has_paths}
use Rattle.law_copies_kept.specs.Below.law_words_kept.reads.Reading.{Reads}
use Rattle.law_copies_kept.proofs.Below.law_words_kept.reads.FreshReads.{read_fresh}
use Rattle.law_copies_kept.proofs.Below.law_words_kept.reads.Homes.{pointer_leads, fresh_word, Home, home}
use Rattle.law_copies_kept.proofs.Below.law_heap_still.events.Tests.{numbers, plains}
use Rattle.law_copies_kept.proofs.Below.law_heap_still.events.Told.{told, ones}
use Rattle.law_copies_kept.proofs.Below.law_words_borrows.Below.law_heap_steps.turns.Events.{AtStep}
use Rattle.law_copies_kept.proofs.Below.law_words_borrows.Below.law_heap_steps.turns.StarLines.{x, goes}
use Rattle.law_entries_variables.proofs.deliveries.HeldOnce.{copies_once}
use Rattle.law_entries_variables.proofs.deliveries.Live.{placed_cells}
use Rattle.law_entries_variables.proofs.deliveries.Shown.{if_some, placed_in, same_placed, placings, dropped_by, as_living, living_is, copy_in, copies_test}
use Rattle.law_copies_kept.proofs.Below.law_words_values.freed.Lists.{NoneLeads}
use Rattle.law_entries_reads.proofs.served.Kept.{led_kept}
use Rattle.law_entries_reads.proofs.served.Lying.{found_there}
use Rattle.law_entries_reads.proofs.places.Standing.{Loads}

-- a thing among others counts
weighs : (f : Thing → ℕ) (x : Thing) (b : List Thing) → Among x b → f x ≤ tot f b
weighs f x [] h = absurd h
weighs f x (y ∷ b) (inl e) = subst (λ z. f z ≤ tot f (y ∷ b)) e (omega arith)
weighs f x (y ∷ b) (inr h) = omega (arith, weighs f x b h)

-- A POINTER THAT IS READ

-- the pointer's object lies where its word leads, under that word and with the value of its cell
pub record InHeap (c0 : Coloured) (g : Ground) (p : BoxPtr) : Type 0 where
  pub cell : Cell
  pub object : cell.object ≡ p.object
  pub found : cell_of g.cells p.object ≡ Some cell
  pub living : object_at c0 p.object ≡ Some (record { object = p.object; place = Lies (server_of p.word); word = p.word; value = plain_of cell.value; is_condemned = false })

module _ (k : Cluster) (co : IsCoherent k) (e : Event) (i : Instr) (s : Server) (t : ℕ) (y : ThreadState) (a : AtStep k e i s t y) (c0 : Coloured) (is_coloured : StandsColoured k c0) (w : Lval) (n : ℕ) (reads : Reads i w n) where
  abbrev g : Ground
  g = (sight k).ground

  abbrev me : Standing
  me = x k co e i s t y a

  abbrev words : HasWords (sight k)
  words = co.sound.words.have_words

  -- the thread waits for no cell
  awake : (u : ℕ) → y.phase ≡ phase.WaitCell u → ⊥
  awake u q = let z : false ≡ true = sym (ap can_step q) ∙ a.on in cc z

  module _ (d : ℕ) (lt : d < n) (l : Location) (v : Value) (p : BoxPtr) (there : locate g y.number w.slot d ≡ Some l) (stands : value_in g l ≡ Some v) (pointer : pointer_of v ≡ Some p) where
    abbrev its : Home k co me i w n d (goes k co e i s t y a) a.code reads lt awake l v p there stands pointer
    its = home k co me i w n d (goes k co e i s t y a) a.code reads lt awake l v p there stands pointer

    -- places of the cluster lead by its types
    paths : HasPaths k
    paths = coherent_has_paths k co

    -- the pointer isn't stale
    fresh : IsStale (sight k) (Some l) → ⊥
    fresh = read_fresh k paths me i w n d l (goes k co e i s t y a) a.code reads lt there

    -- so the object has a pointer that isn't stale
    fresh_one : Fresh (sight k) p.object
    fresh_one = subst (λ o. Fresh (sight k) o) its.object (words.live its.server its.address its.cell its.among)

    -- its word is the object's
    named : word (sight k) p.object ≡ Some p.word
    named = words_law.first_tells k words p.object fresh_one ∙ ap (λ z. Some z) (sym (fresh_word k words l v p stands pointer fresh))

    -- a place leads to it, so that it isn't given up
    kept : tot (dropped_by p.object) (things_of k) ≡ 0
    kept = led_kept k co p.object (λ (none : NoneLeads k p.object). none y.number l (ap (leads y.number) stands ∙ pointer_leads y.number v p pointer))

    -- the object is in one place
    once : tot (λ z. told ones (placed_in p.object z)) (things_of k) ≤ 1
    once = omega (arith, placed_cells p.object k, co.sound.one_home.home_of_each p.object)

    -- which is the one where its word leads
    placed : first_shown (placed_in p.object) (things_of k) ≡ Some (plain_of its.cell.value, Lies its.server)
    placed =
        found_there same_placed placings (placed_in p.object) (plain_of its.cell.value, Lies its.server) (things_of k) once (λ h.
        let shows : told h (placed_in p.object (lies its.server its.address its.cell)) ≡ h (plain_of its.cell.value, Lies its.server) = ap (λ b. told h (if_some b (plain_of its.cell.value, Lies its.server))) (itself its.cell.object p.object its.object) in
        omega (arith, shows, weighs (λ z. told h (placed_in p.object z)) (lies its.server its.address its.cell) (things_of k) its.among))

    -- so it lives there
    living : living_of (sight k) p.object ≡ Some (record { object = p.object; place = Lies its.server; word = p.word; value = plain_of its.cell.value; is_condemned = false })
    living =
        living_is (sight k) p.object ∙ ap (option_map (as_living p.object (word (sight k) p.object) (some (tot (dropped_by p.object) (things_of k))))) placed
        ∙ ap₂ (λ j m. Some (as_living p.object j (some m) (plain_of its.cell.value, Lies its.server))) named kept

    -- the state of the coloured heap has it so
    pub in_heap : InHeap c0 g p
    in_heap = record {
      cell = its.cell;
      object = its.object;
      found = its.found;
      living = is_coloured.objects p.object ∙ living ∙ ap (λ r. Some (record { object = p.object; place = Lies r; word = p.word; value = plain_of its.cell.value; is_condemned = false })) (sym its.leads.server);
    }

-- ITS ACTS AND ITS LOAD

module _ (o : Options) (n : ℕ) (c0 : Coloured) (g : Ground) (p : BoxPtr) (z : InHeap c0 g p) where
  abbrev is_living : Living
  is_living = record { object = p.object; place = Lies (server_of p.word); word = p.word; value = plain_of z.cell.value; is_condemned = false }

  -- its word names it, and it isn't given up
  is_named : names c0 p.object p.word ≡ true
  is_named = ap (holds (λ (x : Living). (x.word == p.word) && not x.is_condemned)) z.living ∙ ap (λ b. b && true) (numbers.itself p.word)

  -- it lies here
  pub local_allowed : server_of p.word ≡ n → (e : EntryView) → e.server ≡ n → allows o e c0 (act.Local p.object p.word) ≡ true
  local_allowed mine e own =
      ap₂ (λ a b. a && b) is_named (ap (holds (λ (x : Living). lies_at e.server x.place)) z.living ∙ ap₂ (λ a b. a == b) mine own ∙ numbers.itself n)

  -- a copy is cached here
  pub hit_allowed : (b : Copied) → copy_at c0 n p.word ≡ Some b → (e : EntryView) → e.server ≡ n → allows o e c0 (act.Hit p.object p.word) ≡ true
  hit_allowed b there e own = ap₂ (λ a f. a && f) is_named (ap (λ m. holds (λ (x : Copied). true) (copy_at c0 m p.word)) own ∙ ap (holds (λ (x : Copied). true)) there)

  -- its load is reached where it lies here or a copy with its value is cached here
  its_load : (r : ℕ) → (lies_at r (Lies (server_of p.word)) || has_copy c0 r p.word (plain_of z.cell.value)) ≡ true → holds (is_loaded r c0 (plain_of z.cell.value)) (object_at c0 z.cell.object) ≡ true
  its_load r near =
      ap (λ q. holds (is_loaded r c0 (plain_of z.cell.value)) (object_at c0 q)) z.object ∙ ap (holds (is_loaded r c0 (plain_of z.cell.value))) z.living
      ∙ ap₂ (λ a b. a && b) (plains.itself (plain_of z.cell.value)) near

  -- its load, where it lies here
  pub loads_here : server_of p.word ≡ n → Loads n c0 (label.Load z.cell.object (plain_of z.cell.value) ∷ [])
  loads_here mine = (
    refl,
    λ e own. ap (λ b. b && true) (its_load e.server (ap (λ b. b || has_copy c0 e.server p.word (plain_of z.cell.value)) (ap₂ (λ a b. a == b) mine own ∙ numbers.itself n))),
  )

  -- the one or what holds
  or_true : (b : Bool) → (b || true) ≡ true
  or_true true = refl
  or_true false = refl

  -- and where a copy with that value is cached here
  pub loads_copy : (b : Copied) → copy_at c0 n p.word ≡ Some b → b.value ≡ plain_of z.cell.value → Loads n c0 (label.Load z.cell.object (plain_of z.cell.value) ∷ [])
  loads_copy b there same = (
    refl,
    λ e own. ap (λ q. q && true) (its_load e.server (ap (λ q. lies_at e.server (Lies (server_of p.word)) || q)
        (ap (λ m. holds (λ (x : Copied). same_plain x.value (plain_of z.cell.value)) (copy_at c0 m p.word)) own ∙ ap (holds (λ (x : Copied). same_plain x.value (plain_of z.cell.value))) there
        ∙ ap (λ v. same_plain v (plain_of z.cell.value)) same ∙ plains.itself (plain_of z.cell.value)) ∙ or_true (lies_at e.server (Lies (server_of p.word))))),
  )

-- A COPY

module _ (k : Cluster) (co : IsCoherent k) (number : ℕ) (s : Server) (here : server_at k.servers number ≡ Some s) (c0 : Coloured) (is_coloured : StandsColoured k c0) (w : ℕ) (b : Cell) where
  abbrev own : ℕ
  own = s.rest.number

  abbrev as_copied : Copied
  as_copied = record { server = own; word = w; object = b.object; value = plain_of b.value }

  -- a copy in the cache of a server is cached there
  pub cached_there : hit s.rest.cache w ≡ Some b → copy_at c0 own w ≡ Some as_copied
  cached_there q = is_coloured.copies own w ∙ by (copy_of s.rest.cache w) refl q
    where
      of_copy : (y : Copy) → copy_of s.rest.cache w ≡ Some y → y.cell ≡ b → shown_copy (sight k) own w ≡ Some as_copied
      of_copy y at cell =
          found_there same_copied copies_test (copy_in own w) as_copied (things_of k) (copies_once k co.sound own w) (λ h.
          let g = copy_goes own s.rest.cache w y at in
          let under : (own == own && y.word == w) ≡ true = ap₂ (λ m j. m && j) (numbers.itself own) (ap (λ j. j == w) (copy_word s.rest.cache w y at) ∙ numbers.itself w) in
          let shows : told h (copy_in own w (copied own y)) ≡ h (record { server = own; word = y.word; object = y.cell.object; value = plain_of y.cell.value }) = ap (λ m. told h (if_some m (record { server = own; word = y.word; object = y.cell.object; value = plain_of y.cell.value }))) under in
          let same : h (record { server = own; word = y.word; object = y.cell.object; value = plain_of y.cell.value }) ≡ h as_copied = ap₂ (λ (j : ℕ) (m : Cell). h (record { server = own; word = j; object = m.object; value = plain_of m.value })) (copy_word s.rest.cache w y at) cell in
          omega (arith, shows, same, (tot-server (λ z. told h (copy_in own w z)) k.servers number s s here).0, server_parts (λ z. told h (copy_in own w z)) s, g.before (λ z. told h (copy_in own w z))))

      some_cell : {a d : Cell} → Some a ≡ Some d → a ≡ d
      some_cell r = cc

      by : (o : Option Copy) → copy_of s.rest.cache w ≡ o → cell_in o ≡ Some b → shown_copy (sight k) own w ≡ Some as_copied
      by None at r = absurd (cc r)
      by (Some y) at r = of_copy y at (some_cell r)
