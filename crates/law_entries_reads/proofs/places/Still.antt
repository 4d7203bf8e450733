-- A hand on its way through a place that it reads: what stays, which acts and labels it has, and how copies are used.
use Rattle.std.proofs.Common.{◌≡◌, ℕ, ◌+◌, ◌==◌, nat_lt, Bool, true, false, if◌then◌else◌, List, [], ◌∷◌, ◌++◌, length, map, Option, Some, None, refl, ap, ◌∙◌}
use Rattle.std.specs.Prelude.{⊤, slice_get, slice_set}
use Rattle.law_copies_kept.specs.Below.fr_base.Lists.{is_in}
use Rattle.law_copies_kept.specs.Below.fr_base.declared.settings.Options.{Options}
use Rattle.law_copies_kept.specs.Below.read_cache.Cache.{Copy, copy_of, cell_in, hit, can_pin, pin, users, with_users}
use Rattle.law_copies_kept.specs.Below.mut_borrow.declared.shared.SharedRef.{SharedRef}
use Rattle.law_copies_kept.specs.Below.migration.Packing.{unpinned}
use Rattle.law_copies_kept.specs.Below.thread_state.View.{ThreadState}
use Rattle.law_copies_kept.specs.Below.thread_state.declared.value.Value.{Value}
use Rattle.law_copies_kept.specs.Below.thread_state.declared.value.Value.TheVariants as value
use Rattle.law_copies_kept.specs.Below.journal.View.{EntryView}
use Rattle.law_copies_kept.specs.Below.journal.declared.act.Act.{Act}
use Rattle.law_copies_kept.specs.Below.server_model.Servers.{Rest, Server}
use Rattle.law_copies_kept.specs.Below.server_model.Work.{Hand, note, with_cache, working, with_slots, used_once}
use Rattle.law_copies_kept.specs.Below.server_model.Places.{Spot, in_slot, on_top, in_cell, in_copy, nowhere, cell_at, value_at, load_of, load_at, put_at}
use Rattle.law_copies_kept.specs.Below.server_model.Prepare.{Prepared, ready, requested, nothing, ready_at, pinned_once, use_copy}
use Rattle.law_copies_kept.specs.Below.server_model.Events.{begin_work}
use Rattle.law_entries_variables.specs.Below.coloured_heap.Heap.{Coloured}
use Rattle.law_entries_variables.specs.Below.coloured_heap.Rules.{allows}
use Rattle.law_entries_variables.specs.Below.coloured_heap.Changes.{after_act}
use Rattle.law_copies_kept.specs.Below.coherent_memory.Names.{tot}
use Rattle.law_copies_kept.specs.Below.coherent_memory.Things.{Thing, things_at, copy_things}
use Rattle.law_copies_kept.specs.Below.law_counts_sums.Laws.{Gives}
use Rattle.law_copies_kept.proofs.Below.law_counts_sums.Results.{test_gives}
use Rattle.law_copies_kept.proofs.Below.law_results_reads.Reading.{set_alike}
use Rattle.law_copies_kept.proofs.Below.law_words_borrows.Below.law_heap_steps.turns.ReadWalk.{reads as walk}
use Rattle.law_entries_variables.proofs.still.Settled.{Unused, users_unseen}
use Rattle.law_entries_reads.proofs.places.Standing.{Leave, leave_more, Loads, loads_none, loads_both}

-- uses of copies are none of what they are hit for
hit_users : (cs : List Copy) (u m w : ℕ) → hit (with_users cs u m) w ≡ hit cs w
hit_users [] u m w = refl
hit_users (c ∷ cs) u m w = by (c.word == u) (hit_users cs u m w)
  where
    mine : (b : Bool) → cell_in (if b then Some (record c { users = m }) else copy_of cs w) ≡ cell_in (if b then Some c else copy_of cs w)
    mine true = refl
    mine false = refl

    later : (b : Bool) → hit (with_users cs u m) w ≡ hit cs w → cell_in (if b then Some c else copy_of (with_users cs u m) w) ≡ cell_in (if b then Some c else copy_of cs w)
    later true e = refl
    later false e = e

    by : (b : Bool) → hit (with_users cs u m) w ≡ hit cs w → hit (if b then record c { users = m } ∷ cs else c ∷ with_users cs u m) w ≡ hit (c ∷ cs) w
    by true go = mine (c.word == w)
    by false go = later (c.word == w) go

-- THE HAND ON THE WAY

-- all of the server but uses of copies is as it was, and so is all of the thread but pins and its walk; the acts leave the coloured heap, and the labels load what is reached
pub record Still (o : Options) (c0 : Coloured) (s : Server) (y : ThreadState) (h : Hand) : Type 0 where
  pub rest : h.work.rest ≡ record s.rest { cache = h.work.rest.cache }
  pub copies : (f : Thing → ℕ) → Unused f → tot f (things_at (copy_things s.rest.number) 0 h.work.rest.cache) ≡ tot f (things_at (copy_things s.rest.number) 0 s.rest.cache)
  pub hits : (u : ℕ) → hit h.work.rest.cache u ≡ hit s.rest.cache u
  pub thread : h.thread ≡ record y { slots = h.thread.slots; walk = h.thread.walk }
  pub slots : map unpinned h.thread.slots ≡ map unpinned y.slots
  pub acts : Leave o s.rest.number c0 h.work.acts
  pub labels : Loads s.rest.number c0 h.work.labels

-- and what stands at the spot is reached
pub record Walked (o : Options) (c0 : Coloured) (s : Server) (y : ThreadState) (h : Hand) (p : Spot) : Type 0 where
  pub still : Still o c0 s y h
  pub reached : Loads s.rest.number c0 (load_of (cell_at h p))

module _ (o : Options) (c0 : Coloured) (s : Server) (y : ThreadState) where
  abbrev n : ℕ
  n = s.rest.number

  abbrev S : Hand → Type 0
  S = Still o c0 s y

  -- nothing is known where no step is done
  abbrev pub Reaches : Prepared → Type 0
  Reaches (ready h p) = (v : Value) → value_at h p ≡ Some v → Walked o c0 s y h p
  Reaches (requested h) = ⊤
  Reaches nothing = ⊤

  -- at the start
  pub still_begins : S (record { work = begin_work s.rest; thread = y })
  still_begins = record { rest = refl; copies = λ f z. refl; hits = λ u. refl; thread = refl; slots = refl; acts = λ e own. refl; labels = loads_none n c0 }

  -- what stands at a spot is loaded
  pub still_loads : (h : Hand) (p : Spot) → Walked o c0 s y h p → S (load_at p h)
  still_loads h p q = record { rest = q.still.rest; copies = q.still.copies; hits = q.still.hits; thread = q.still.thread; slots = q.still.slots; acts = q.still.acts; labels = loads_both n c0 h.work.labels (load_of (cell_at h p)) q.still.labels q.reached }

  -- an act that changes nothing is noted
  pub still_notes : (h : Hand) (a : Act) → ((e : EntryView) → e.server ≡ n → allows o e c0 a ≡ true) → ((e : EntryView) → after_act e c0 a ≡ c0) → S h → S (working (note a) h)
  still_notes h a allowed still q = record { rest = q.rest; copies = q.copies; hits = q.hits; thread = q.thread; slots = q.slots; acts = leave_more o n c0 h.work.acts a allowed still q.acts; labels = q.labels }

  -- one use more of a copy, and some walk
  pub still_pins : (h : Hand) (u : ℕ) (walk : List ℕ) → S h → S (record { work = with_cache (pin h.work.rest.cache u) h.work; thread = record h.thread { walk = walk } })
  still_pins h u walk q = record {
    rest = ap (λ (r : Rest). record r { cache = pin h.work.rest.cache u }) q.rest;
    copies = λ f z. users_unseen f z n 0 h.work.rest.cache u (users h.work.rest.cache u + 1) ∙ q.copies f z;
    hits = λ v. hit_users h.work.rest.cache u (users h.work.rest.cache u + 1) v ∙ q.hits v;
    thread = ap (λ (th : ThreadState). record th { walk = walk }) q.thread;
    slots = q.slots;
    acts = q.acts;
    labels = q.labels;
  }

  -- slots that are the same but for pins
  pub still_slots : (h : Hand) (vs : List Value) → map unpinned vs ≡ map unpinned h.thread.slots → S h → S (with_slots vs h)
  still_slots h vs e q = record { rest = q.rest; copies = q.copies; hits = q.hits; thread = ap (λ (th : ThreadState). record th { slots = vs }) q.thread; slots = e ∙ q.slots; acts = q.acts; labels = q.labels }

  -- a reference in a slot is pinned
  pins : (p : Spot) (r : SharedRef) (h : Hand) → S h → ((i : ℕ) → p ≡ in_slot i → slice_get h.thread.slots i ≡ Some (value.Shared r)) → (p ≡ on_top → ⊥) → Gives S (put_at p (value.Shared (record r { pinned = true })) h)
  pins (in_slot i) r h q stands off =
      let new = value.Shared (record r { pinned = true }) in
      test_gives S (nat_lt i (length h.thread.slots)) _ (λ on. still_slots h (slice_set h.thread.slots i new) (set_alike h.thread.slots i (value.Shared r) new (stands i refl) refl) q)
  pins on_top r h q stands off = absurd (off refl)
  pins (in_cell u z) r h q stands off = tt
  pins (in_copy u) r h q stands off = tt
  pins nowhere r h q stands off = tt

  -- unless it is pinned
  pins_once : (p : Spot) (r : SharedRef) (b : Bool) (h : Hand) → S h → ((i : ℕ) → p ≡ in_slot i → slice_get h.thread.slots i ≡ Some (value.Shared r)) → (p ≡ on_top → ⊥) → Gives S (pinned_once p r b h)
  pins_once p r true h q stands off = q
  pins_once p r false h q stands off = test_gives S (can_pin h.work.rest.cache r.word) _ (λ on. pins p r (working (with_cache (pin h.work.rest.cache r.word)) h) (still_pins h r.word h.thread.walk q) stands off)

  -- unless the walk has the word
  uses_once : (u : ℕ) (b : Bool) (h : Hand) → S h → Gives S (used_once u b h)
  uses_once u true h q = q
  uses_once u false h q = test_gives S (can_pin h.work.rest.cache u) _ (λ on. still_pins h u (h.thread.walk ++ u ∷ []) q)

  -- a copy is used, by whatever pointer
  pub uses : (p : Spot) (v : Value) (u : ℕ) (h : Hand) → S h → ((i : ℕ) → p ≡ in_slot i → slice_get h.thread.slots i ≡ Some v) → (p ≡ on_top → ⊥) → Gives S (use_copy p v u h)
  uses p (value.Shared r) u h q stands off = pins_once p r r.pinned h q stands off
  uses p _ u h q stands off = uses_once u (is_in u h.thread.walk) h q

  -- where the hand is ready
  pub ready_reaches : (p : Spot) (f : Option Hand) → Gives (λ h. (v : Value) → value_at h p ≡ Some v → Walked o c0 s y h p) f → Reaches (ready_at p f)
  ready_reaches p None g = tt
  ready_reaches p (Some h) g = g
