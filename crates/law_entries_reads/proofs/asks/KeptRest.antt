-- What making a place ready leaves of the rest of the server where it is read: all but the partition, and how often copies are used.
use Rattle.std.proofs.Common.{◌≡◌, ℕ, zero, suc, ◌+◌, List, [], ◌∷◌, Option, Some, refl, sym, ap, ◌∙◌, arith}
use Rattle.std.specs.Bool.{⊤}
use Rattle.std.specs.Prelude.{slice_get, slice_set, map}
use Rattle.law_entries_reads.specs.Below.law_copies_kept.Below.owner_box.Partition.{stored}
use Rattle.law_entries_reads.specs.Below.law_copies_kept.Below.migration.Packing.{unpinned}
use Rattle.law_entries_reads.specs.Below.law_copies_kept.Below.read_cache.Cache.{users, pin}
use Rattle.law_entries_reads.specs.Below.law_copies_kept.Below.thread_state.View.{ThreadState}
use Rattle.law_entries_reads.specs.Below.law_copies_kept.Below.thread_state.declared.value.Value.{Value}
use Rattle.law_entries_reads.specs.Below.law_copies_kept.Below.thread_state.declared.value.Value.TheVariants as value
use Rattle.law_entries_reads.specs.Below.law_copies_kept.Below.server_model.Servers.{Rest}
use Rattle.law_entries_reads.specs.Below.law_copies_kept.Below.server_model.Work.{Hand}
use Rattle.law_entries_reads.specs.Below.law_copies_kept.Below.server_model.Prepare.{Access, prepare}
use Rattle.law_entries_reads.specs.Below.law_copies_kept.Below.coherent_memory.Names.{tot}
use Rattle.law_entries_reads.specs.Below.law_copies_kept.Below.coherent_memory.Things.{Thing, things_at, copy_things}
use Rattle.law_entries_reads.proofs.Below.law_copies_kept.Below.law_counts_sums.Trades.{trade_whole}
use Rattle.law_entries_reads.proofs.Below.law_copies_kept.Below.law_counts_sums.Bags.{rest_things, of_cache}
use Rattle.law_entries_reads.proofs.Below.law_copies_kept.Below.law_counts_things.things.Small.{Of, Small, Passes, Made, prepare_makes}
use Rattle.law_entries_reads.proofs.Below.law_copies_kept.Below.law_counts_things.things.Goes.{puts_by, Any, AnyWord}
use Rattle.law_entries_reads.specs.Below.law_entries_variables.Below.law_heap_still.events.Shows.{frame_of}
use Rattle.law_entries_reads.proofs.Below.law_entries_variables.deliveries.Weighed.{Seen}
use Rattle.law_entries_variables.proofs.still.Settled.{users_unseen}
use Rattle.law_entries_reads.proofs.asks.Frames.{SameFrames, heads}

-- the rest, where copies are used, and where the thread is
pub record Kept (r0 : Rest) (y : ThreadState) (r : Rest) (t : ThreadState) : Type 0 where
  pub rest : r ≡ record r0 { partition = r.partition; cache = r.cache }
  pub copies : (f : Thing → ℕ) → Seen f → tot f (things_at (copy_things r0.number) 0 r.cache) ≡ tot f (things_at (copy_things r0.number) 0 r0.cache)
  pub pc : t.pc ≡ y.pc

module _ (r0 : Rest) (y : ThreadState) where
  abbrev F : Rest → ThreadState → Type 0
  F = Kept r0 y

  pinned : (w : ℕ) (r : Rest) (t : ThreadState) → F r t → F (record r { cache = pin r.cache w }) t
  pinned w r t g = record { rest = ap (λ (x : Rest). record x { cache = pin r.cache w }) g.rest; copies = λ f h. users_unseen f h.unused r0.number 0 r.cache w (users r.cache w + 1) ∙ g.copies f h; pc = g.pc }

  small : Small F (λ r t. ⊤) Any AnyWord
  small = record {
    places = record {
      spot = λ s v h g e. tt;
      puts = λ s v h z a g. puts_by F (λ vs r t u. record { rest = u.rest; copies = u.copies; pc = u.pc }) (λ vs r t u. record { rest = u.rest; copies = u.copies; pc = u.pc })
          (λ h2 w x u. record { rest = ap (λ (z : Rest). record z { partition = stored h2.work.rest.partition w x }) u.rest; copies = u.copies; pc = u.pc }) s v h g;
      worded = λ w v new x a e. tt;
      word_of = λ r a. tt;
      points = λ v p a e. tt;
    };
    tints = λ p h a g e. tt;
    renews = λ p h a g e. (tt, record { rest = ap (λ (z : Rest). record z { partition = Rattle.law_entries_reads.specs.Below.law_copies_kept.Below.owner_box.Partition.renewed h.work.rest.partition p.word }) g.rest; copies = g.copies; pc = g.pc });
    pinned = λ r a. tt;
    pins = λ w h e g. pinned w h.work.rest h.thread g;
    uses = λ w h e g. (let q = pinned w h.work.rest h.thread g in record { rest = q.rest; copies = q.copies; pc = q.pc });
    asks_copy = λ p h a e g. tt;
    asks_object = λ p h a e g. tt;
  }

  passes : Passes F
  passes m h g = record { rest = g.rest; copies = g.copies; pc = g.pc }

  pub kept_start : F r0 y
  kept_start = record { rest = refl; copies = λ f h. refl; pc = refl }

  -- so it is where a place is ready
  pub kept_ready : (a : Option Access) (h : Hand) → Of F h → Made F (λ r t. ⊤) (prepare a h)
  kept_ready a h g = prepare_makes a h (λ z. small) (λ z. passes) g

  -- with the partition that it had, the rest is seen as it was
  pub seen_as_was : (r : Rest) (t : ThreadState) → F r t → r.partition ≡ r0.partition → (f : Thing → ℕ) → Seen f → tot f (rest_things r0.number 0 r) ≡ tot f (rest_things r0.number 0 r0)
  seen_as_was r t g same f h =
      let is : r ≡ record r0 { cache = r.cache } = g.rest ∙ ap (λ p. record r0 { partition = p; cache = r.cache }) same in
      let there : tot f (rest_things r0.number 0 r) ≡ tot f (rest_things r0.number 0 (record r0 { cache = r.cache })) = ap (λ x. tot f (rest_things r0.number 0 x)) is in
      let t2 = of_cache r0.number 0 r0 r.cache (trade_whole (things_at (copy_things r0.number) 0 r0.cache) (things_at (copy_things r0.number) 0 r.cache)) in
      omega (arith, there, t2.before f, t2.after f, g.copies f h)

-- FRAMES

frame_unpinned : (v : Value) → frame_of (unpinned v) ≡ frame_of v
frame_unpinned value.Gone = refl
frame_unpinned (value.Own v) = refl
frame_unpinned (value.SharedSlot i) = refl
frame_unpinned (value.MutSlot i) = refl
frame_unpinned (value.Shared r) = refl
frame_unpinned (value.Mut r) = refl
frame_unpinned (value.Held m) = refl

-- values that are the same but for pins
pub unpinned_frames : (xs ys : List Value) → map unpinned xs ≡ map unpinned ys → SameFrames xs ys
unpinned_frames [] [] e = refl
unpinned_frames [] (y ∷ ys) e = absurd cc
unpinned_frames (x ∷ xs) [] e = absurd cc
unpinned_frames (x ∷ xs) (y ∷ ys) e =
    let q = heads e in
    let first : frame_of x ≡ frame_of y = sym (frame_unpinned x) ∙ ap frame_of q.0 ∙ frame_unpinned y in
    ap (λ z. z ∷ map frame_of xs) first ∙ ap (λ l. frame_of y ∷ l) (unpinned_frames xs ys q.1)

-- one value is put for another that shows the same
pub set_frames : (xs : List Value) (j : ℕ) (old new : Value) → slice_get xs j ≡ Some old → frame_of new ≡ frame_of old → SameFrames (slice_set xs j new) xs
set_frames [] j old new e f = absurd (cc e)
set_frames (x ∷ xs) zero old new e f = let q : x ≡ old = cc in ap (λ z. z ∷ map frame_of xs) (f ∙ ap frame_of (sym q))
set_frames (x ∷ xs) (suc j) old new e f = ap (λ l. frame_of x ∷ l) (set_frames xs j old new e f)
