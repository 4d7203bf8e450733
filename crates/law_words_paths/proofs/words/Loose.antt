-- Pointers that stand at no location, by the things that have them.
use Rattle.std.proofs.Common.{◌≡◌, inl, inr, ⊎_elim, ℕ, true, List, [], ◌∷◌, Some, None, refl, sym, ap, ◌∙◌}
use Rattle.law_words_paths.specs.Below.fr_base.declared.name.ObjNo.{ObjNo}
use Rattle.law_words_paths.specs.Below.heap_partition.declared.value.Owned.{Owned}
use Rattle.law_words_paths.specs.Below.heap_partition.declared.value.Owned.TheVariants as owned
use Rattle.law_words_paths.specs.Below.server_msgs.declared.message.Message.{Message}
use Rattle.law_words_paths.specs.Below.server_msgs.declared.message.Message.TheVariants.{Drop}
use Rattle.law_words_paths.specs.Below.server_model.Servers.{Cluster}
use Rattle.law_words_paths.specs.Below.coherent_memory.Names.{Among, same_object}
use Rattle.law_words_paths.specs.Below.coherent_memory.Things.{Location, at_slot, at_temp, in_cell, Spot, in_slot, in_temp, as_gift, as_content, as_result, in_hand, Thing, holds, shares, borrows, lies, flies, sent, things_of}
use Rattle.law_words_paths.specs.Below.coherent_memory.Weights.{cells}
use Rattle.law_words_paths.specs.Below.coherent_memory.Placing.{standing_of, standing_in}
use Rattle.law_words_paths.specs.Below.coherent_memory.Sight.{Pointer, pointer_in, location_of, dropped_pointer, pointers_of, pointers_in}
use Rattle.law_words_paths.proofs.Below.coherent_memory.Bags.{among_split}
use Rattle.law_words_paths.proofs.Below.coherent_memory.Names.{one_not}
use Rattle.law_words_paths.proofs.Below.coherent_memory.Words.{named}
use Rattle.law_words_paths.specs.words.Reworded.{is_loose}
use Rattle.law_words_paths.proofs.words.Standing.{of_thing, pointers_among, standing_among, stands_of}

some_nothing : (l : Location) (p : Pointer) → p.at ≡ Some l → p.at ≡ None → ⊥
some_nothing l p e f = let y : None ≡ Some l = sym f ∙ e in absurd cc

-- a box at a location isn't such a pointer
pub box_nowhere : (l : Location) (u : Owned) (p : Pointer) → Among p (pointer_in (Some l) u) → p.at ≡ None → ⊥
box_nowhere l (owned.Box b) p (inl e) f = some_nothing l p (sym (ap (λ (y : Pointer). y.at) e)) f
box_nowhere l (owned.Box b) p (inr m) f = m
box_nowhere l owned.Nothing p m f = m
box_nowhere l owned.Unit p m f = m
box_nowhere l (owned.Int n) p m f = m
box_nowhere l (owned.Mutex n) p m f = m
box_nowhere l (owned.Task t) p m f = m

held_loose : (sp : Spot) (u : Owned) (p : Pointer) → Among p (pointer_in (location_of sp) u) → p.at ≡ None → is_loose (holds sp u) ≡ true
held_loose (in_slot t i) u p h e = absurd (box_nowhere (at_slot t i) u p h e)
held_loose (in_temp t i) u p h e = absurd (box_nowhere (at_temp t i) u p h e)
held_loose (as_gift t) u p h e = refl
held_loose (as_content m) u p h e = refl
held_loose (as_result t) u p h e = refl
held_loose in_hand u p h e = refl

sent_loose : (s : ℕ) (m : Message) (p : Pointer) → Among p (dropped_pointer m) → is_loose (sent s m) ≡ true
sent_loose s (Drop w o) p h = refl
sent_loose s _ p h = absurd h

-- a thing with such a pointer is loose
loose_of : (y : Thing) (p : Pointer) → Among p (pointers_of y) → p.at ≡ None → is_loose y ≡ true
loose_of (holds sp u) p h e = held_loose sp u p h e
loose_of (shares l r) p h e = refl
loose_of (borrows l r) p (inl q) e = absurd (some_nothing l p (sym (ap (λ (y : Pointer). y.at) q)) e)
loose_of (borrows l r) p (inr q) e = absurd q
loose_of (lies s a c) p h e = absurd (box_nowhere (in_cell c.object) c.value p h e)
loose_of (flies w c) p h e = refl
loose_of (sent s m) p h e = sent_loose s m p h
loose_of _ p h e = absurd h

-- and where the pointer is to another object it is no cell of this one
no_cell : (o : ObjNo) (y : Thing) (p : Pointer) → Among p (pointers_of y) → p.at ≡ None → (p.object ≡ o → ⊥) → cells o y ≡ 0
no_cell o (lies s a c) p h e n = absurd (box_nowhere (in_cell c.object) c.value p h e)
no_cell o (flies w c) p (inl q) e n = one_not (same_object c.object o) (λ f. n (sym (ap (λ (y : Pointer). y.object) q) ∙ named c.object o f))
no_cell o (flies w c) p (inr h) e n = absurd (box_nowhere (in_cell c.object) c.value p h e)
no_cell o _ p h e n = refl

module _ (k z : Cluster) (o : ObjNo) where
  pub unplaced : ((y : Thing) → Among y (things_of z) → is_loose y ≡ true → Among y (things_of k)) → (p : Pointer) → Among p (pointers_in (things_of z)) → p.at ≡ None → Among p (pointers_in (things_of k))
  unplaced go p h e = let q = of_thing p (things_of z) h in pointers_among p q.thing (things_of k) (go q.thing q.among (loose_of q.thing p q.pointer e)) q.pointer

  pub remains : ((y : Thing) → Among y (things_of k) → is_loose y ≡ true → cells o y ≡ 0 → Among y (things_of z)) → (p : Pointer) → Among p (pointers_in (things_of k)) → p.at ≡ None → (p.object ≡ o → ⊥) → Among p (pointers_in (things_of z))
  remains go p h e n =
      let q = of_thing p (things_of k) h in
      pointers_among p q.thing (things_of z) (go q.thing q.among (loose_of q.thing p q.pointer e) (no_cell o q.thing p q.pointer e n)) q.pointer

  -- the same without what is under way
  pub unplaced_standing : ((y : Thing) → Among y (things_of z) → is_loose y ≡ true → Among y (things_of k)) → (p : Pointer) → Among p (standing_in (things_of z)) → p.at ≡ None → Among p (standing_in (things_of k))
  unplaced_standing go p h e = by (things_of z) h (λ y m. go y m)
    where
      by : (b : List Thing) → Among p (standing_in b) → ((y : Thing) → Among y b → is_loose y ≡ true → Among y (things_of k)) → Among p (standing_in (things_of k))
      by [] m f = absurd m
      by (x ∷ b) m f =
          ⊎_elim (λ (l : Among p (standing_of x)). standing_among p x (things_of k) (f x (inl refl) (loose_of x p (stands_of p x l) e)) l) (λ (r : Among p (standing_in b)). by b r (λ y n. f y (inr n)))
          (among_split p (standing_of x) (standing_in b) m)
