-- Of two clusters words see the same, but that the second one has a shared reference more.
use Rattle.std.proofs.Common.{◌≡◌, ◌⊎◌, inl, inr, ⊎_elim, ℕ, Bool, true, ◌∷◌, Some, None, refl, sym, ap, subst, ◌∙◌}
use Rattle.std.specs.Prelude.{⊤}
use Rattle.law_heap_steps.specs.Below.fr_base.declared.name.ObjNo.{ObjNo}
use Rattle.law_heap_steps.specs.Below.heap_partition.declared.value.Cell.{Cell}
use Rattle.law_heap_steps.specs.Below.mut_borrow.declared.mutable.MutRef.{MutRef}
use Rattle.law_heap_steps.specs.Below.mut_borrow.declared.shared.SharedRef.{SharedRef}
use Rattle.law_heap_steps.specs.Below.thread_state.View.{ThreadState}
use Rattle.law_heap_steps.specs.Below.thread_state.declared.value.Value.{Value}
use Rattle.law_heap_steps.specs.Below.thread_state.declared.value.Value.TheVariants as value
use Rattle.law_heap_steps.specs.Below.server_model.Servers.{Cluster}
use Rattle.law_heap_steps.specs.Below.coherent_memory.Names.{Among}
use Rattle.law_heap_steps.specs.Below.coherent_memory.Things.{Location, at_slot, at_temp, in_cell, Thing, shares, lies, flies, stands, things_of}
use Rattle.law_heap_steps.specs.Below.coherent_memory.Follow.{value_in}
use Rattle.law_heap_steps.specs.Below.coherent_memory.Stale.{is_held_at}
use Rattle.law_heap_steps.specs.Below.coherent_memory.Sight.{Pointer, pointers_in, sight}
use Rattle.law_heap_steps.specs.Below.coherent_memory.Placing.{standing_in, standing_pointers}
use Rattle.law_heap_steps.specs.Below.coherent_memory.Words.{IsStale}
use Rattle.law_heap_steps.specs.Below.coherent_memory.Dirty.{DirtyAlone}
use Rattle.law_words_values.proofs.Below.law_words_paths.paths.FreshPaths.{held_at}
use Rattle.law_words_values.proofs.Below.law_words_paths.paths.Sole.{some_is}
use Rattle.law_words_kept.specs.Below.law_words_paths.words.Reworded.{HasPlaces}
use Rattle.law_words_kept.specs.Below.law_words_paths.words.Unmoved.{takings}
use Rattle.law_words_kept.specs.Below.law_words_paths.words.OneMore.{IsClean, Beside, OneMore}
use Rattle.law_words_kept.proofs.Below.law_words_paths.words.Standing.{CellOf, lying, flying, borrow_stands}
use Rattle.law_words_kept.proofs.Below.law_words_paths.words.Grounds.{of_borrows}
use Rattle.law_words_values.proofs.Below.law_words_kept.stays.Alike.{StandsIn, Alike, standing_turn}
use Rattle.law_words_values.proofs.carried.Far.{loose_within, CellIn, lies_in, flies_in}
use Rattle.law_words_values.proofs.made.Sames.{taken_on, CellAway, stands_alike}

-- the pointer of a shared reference
abbrev pub shared_pointer : SharedRef → Pointer
shared_pointer r = record { at = None; word = r.word; object = r.object }

module _ (k z : Cluster) (c : HasPlaces k) (d : HasPlaces z) (same : z.code ≡ k.code) (l : Location) (r : SharedRef) (p : Alike k.code (things_of z) (shares l r ∷ things_of k)) where
  -- threads are there
  thread_on : (s : ℕ) (b : Bool) (t : ThreadState) → Among (stands s b t) (things_of k) → StandsIn k.code (things_of z) t
  thread_on s b t h = p.back (stands s b t) (inr h)

  -- and were
  thread_back : (s : ℕ) (b : Bool) (t : ThreadState) → Among (stands s b t) (things_of z) → StandsIn k.code (things_of k) t
  thread_back s b t h = let x = p.on (stands s b t) h in by x x.among
    where
      by : (x : StandsIn k.code (shares l r ∷ things_of k) t) → Among (stands x.server x.packed x.thread) (shares l r ∷ things_of k) → StandsIn k.code (things_of k) t
      by x (inl f) = absurd cc
      by x (inr f) = record { server = x.server; packed = x.packed; thread = x.thread; among = f; shows = x.shows }

  -- cells are there
  cell_on : (g : Cell) (y : Thing) → CellOf g y → Among y (things_of k) → CellIn (things_of z) g
  cell_on g _ (lying m a) h = lies_in m a g (p.back (lies m a g) (inr h))
  cell_on g _ (flying v) h = flies_in v g (p.back (flies v g) (inr h))

  -- where one lies it lay
  lies_back : (m a : ℕ) (g : Cell) → Among (lies m a g) (things_of z) → Among (lies m a g) (things_of k)
  lies_back m a g h = by (p.on (lies m a g) h)
    where
      by : Among (lies m a g) (shares l r ∷ things_of k) → Among (lies m a g) (things_of k)
      by (inl f) = absurd cc
      by (inr f) = f

  -- one under way was
  flies_back : (v : ℕ) (g : Cell) → Among (flies v g) (things_of z) → Among (flies v g) (things_of k)
  flies_back v g h = by (p.on (flies v g) h)
    where
      by : Among (flies v g) (shares l r ∷ things_of k) → Among (flies v g) (things_of k)
      by (inl f) = absurd cc
      by (inr f) = f

  -- so cells were there
  cell_back : (g : Cell) (y : Thing) → CellOf g y → Among y (things_of z) → ⊤ → CellIn (things_of k) g
  cell_back g _ (lying m a) h u = lies_in m a g (lies_back m a g h)
  cell_back g _ (flying v) h u = flies_in v g (flies_back v g h)

  -- wherever they are
  nothing_away : (x : Location) → CellAway (λ n. ⊤) x
  nothing_away (at_slot t i) = tt
  nothing_away (at_temp t i) = tt
  nothing_away (in_cell n) = tt

  -- a pointer at no location is the new one or was there
  loose : (q : Pointer) → q.at ≡ None → Among q (pointers_in (things_of z)) → (shared_pointer r ≡ q) ⊎ Among q (pointers_in (things_of k))
  loose q e h = loose_within k.code (things_of z) (shares l r ∷ things_of k) p.on q e h

  -- so is one that counts beside dirty references
  standing : IsClean k r.object → (q : Pointer) → q.at ≡ None → Among q (standing_in (things_of z)) → IsClean k q.object ⊎ Among q (standing_in (things_of k))
  standing clean q e h = by (standing_turn k.code (things_of z) (shares l r ∷ things_of k) q p.on e h)
    where
      by : Among q (standing_in (shares l r ∷ things_of k)) → IsClean k q.object ⊎ Among q (standing_in (things_of k))
      by (inl f) = inl (subst (λ n. IsClean k n) (ap (λ (x : Pointer). x.object) f) clean)
      by (inr f) = inr f

  -- so there is one pointer more
  pub share_more : Beside k (shared_pointer r) → IsClean k r.object → OneMore k z (shared_pointer r)
  share_more beside clean = record {
    stands = λ x. stands_alike k.code k z c d (λ n. ⊤) thread_on thread_back cell_on cell_back x (nothing_away x);
    takes = λ t h. taken_on k.code (things_of z) k c thread_back t (subst (λ n. Among t (takings n (sight z).ground.threads)) same h);
    took = λ t h. subst (λ n. Among t (takings n (sight z).ground.threads)) (sym same) (taken_on k.code (things_of k) z d thread_on t h);
    loose = loose;
    remain = λ q e h. loose_within k.code (things_of k) (things_of z) (λ y i. p.back y (inr i)) q e h;
    standing = standing clean;
    lay = λ m a g h. record { cell = g; among = lies_back m a g h; object = refl };
    nowhere = refl;
    beside = beside;
  }

-- WHAT A POINTER THAT ISN'T STALE TELLS

-- nothing was made from a pointer at no location
no_held : (l : Location) → is_held_at l None ≡ true → ⊥
no_held l e = cc e

-- where a pointer at no location is to the object, no dirty reference to it isn't stale
pub clean_shared : (k : Cluster) (o : ObjNo) (q : Pointer) → DirtyAlone (sight k) → Among q (standing_pointers (sight k)) → q.at ≡ None → q.object ≡ o → IsClean k o
clean_shared k o q alone h e is r i dirty fresh same =
    let y = alone r i dirty fresh in
    ⊎_elim (λ (x : IsStale (sight k) q.at). let z : IsStale (sight k) None = subst (λ m. IsStale (sight k) m) e x in z) (λ (x : is_held_at r.at q.at ≡ true). no_held r.at (subst (λ m. is_held_at r.at m ≡ true) e x)) (y.sole q h (is ∙ sym same))

-- nor where one at a location isn't stale that is no dirty reference
pub clean_placed : (k : Cluster) → HasPlaces k → (o : ObjNo) (q : Pointer) (l : Location) (v : Value) → DirtyAlone (sight k) → Among q (standing_pointers (sight k)) → q.at ≡ Some l → q.object ≡ o → (IsStale (sight k) (Some l) → ⊥)
    → value_in (sight k).ground l ≡ Some v → ((p : MutRef) → v ≡ value.Mut p → p.dirty ≡ true → ⊥) → IsClean k o
clean_placed k c o q l v alone h e is awake it other r i dirty fresh same =
    let y = alone r i dirty fresh in
    ⊎_elim (λ (x : IsStale (sight k) q.at). awake (subst (λ m. IsStale (sight k) m) e x))
    (λ (x : is_held_at r.at q.at ≡ true).
    let here : r.at ≡ l = some_is (sym (held_at r.at q.at x) ∙ e) in
    let there : value_in (sight k).ground r.at ≡ Some (value.Mut r.reference) = borrow_stands k c r.at r.reference (of_borrows (sight k).ground r (things_of k) i).among in
    other r.reference (some_is (sym it ∙ ap (value_in (sight k).ground) (sym here) ∙ there)) dirty) (y.sole q h (is ∙ sym same))
