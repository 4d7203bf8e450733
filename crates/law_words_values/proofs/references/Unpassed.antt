-- No holder's place passes a slot that no type names.
use Rattle.std.proofs.Common.{◌≡◌, ◌≢◌, Bool, ⊎_elim, ℕ, zero, suc, ◌+◌, ◌-◌, ◌≤◌, true, Some, refl, sym, subst, ◌∙◌, arith}
use Rattle.std.specs.Prelude.{slice_get}
use Rattle.law_words_values.specs.Below.fr_base.declared.place.Lval.{Lval}
use Rattle.law_words_values.specs.Below.fr_store.Keys.{Key, slot_k}
use Rattle.law_words_values.specs.Below.fr_store.Store.{at_key, Store, Place as StorePlace, walk}
use Rattle.law_words_values.specs.Below.fr_store.Typed.{Exact, KeyTypes, Resolves, Typed, Unnamed}
use Rattle.law_words_values.proofs.Below.fr_store.Chains.{unique}
use Rattle.law_words_values.proofs.Below.fr_store.Sound.{ref_at, sound}
use Rattle.law_words_values.proofs.Below.fr_store.Rows.{not_to}
use Rattle.law_words_values.specs.Below.mut_borrow.declared.mutable.MutRef.{MutRef}
use Rattle.law_words_values.specs.Below.thread_state.declared.value.Value.TheVariants as value
use Rattle.law_words_values.specs.Below.server_model.Servers.{Cluster}
use Rattle.law_words_values.specs.Below.coherent_memory.Things.{Location, at_slot, at_temp, things_of}
use Rattle.law_words_values.specs.Below.coherent_memory.Follow.{Standing, Ground, leads, locate, place_at}
use Rattle.law_words_values.specs.Below.coherent_memory.Stale.{Reference, holder_of}
use Rattle.law_words_values.specs.Below.coherent_memory.Sight.{sight}
use Rattle.law_words_values.specs.Below.coherent_types.ClusterTypes.{leads_as, same_place, is_held_at}
use Rattle.law_words_values.specs.Below.law_words_paths.paths.HeapStore.{heap_store, GoesOn, HasPaths}
use Rattle.law_words_values.proofs.Below.law_words_paths.paths.Alike.{leads_in_heap}
use Rattle.law_words_values.proofs.Below.law_words_paths.paths.Circles.{shorter}
use Rattle.law_words_values.proofs.Below.law_words_paths.paths.Climbs.{held_as, and_second}
use Rattle.law_words_values.proofs.Below.law_words_paths.paths.Contained.{reference_there}
use Rattle.law_words_values.proofs.Below.law_words_paths.paths.FreshPaths.{MutThere, slot_there, temp_there}
use Rattle.law_words_values.proofs.Below.law_words_paths.paths.Pointers.{borrowed_at}
use Rattle.law_words_values.proofs.Below.law_words_paths.words.Grounds.{of_borrows}
use Rattle.law_words_values.specs.references.Unpassed.{IsUnpassed, UnnamedAreUnpassed}

-- a holder's type has a star more
has_star : (slot : ℕ) (h : Lval) (d : ℕ) → is_held_at slot d h ≡ true → (s : ℕ) × (d ≡ suc s)
has_star slot h zero e = absurd cc
has_star slot h (suc s) e = (s, refl)

-- and is its holder's place with one more
has_held : (g : Ground) (t : ℕ) (w : Lval) (r : MutRef) → leads_as g t w (value.Mut r) ≡ true → is_held_at w.slot w.depth r.holder ≡ true
has_held g t w r e = and_second (same_place (leads t (Some (value.Mut r))) (place_at g t w)) (is_held_at w.slot w.depth r.holder) e

-- what types resolve comes to no key that no type names
not_reached : (rank : Key → ℕ) (E : KeyTypes) (s : Store) → Typed rank E s → (key : Key) → Unnamed E key → (only : Bool) (k : Key) (d : ℕ) (b : Key) (n : ℕ) (p : Exact) → Resolves E only k d b n p → k ≢ key → walk s d (at_key k) ≡ Some (at_key key) → ⊥
not_reached rank E s t key free only k d b n p r ne w = not_to E key free only k d b n p r ne (unique s t.owner b key n 0 (at_key key) (sym (sound rank E s t only k d b n p r) ∙ w) refl).0

module _ (k : Cluster) (c : HasPaths k) (t i : ℕ) (free : Unnamed c.types.typing.exact (slot_k t i)) where
  abbrev st : Store
  st = heap_store k c.types

  abbrev E : KeyTypes
  E = c.types.typing.exact

  abbrev ground : Ground
  ground = (sight k).ground

  -- of a thread's reference, whose type names the place
  not_passed : (y : Standing) (g : GoesOn k y) (l : Location) (r : MutRef) (d : ℕ) → MutThere k c y l r → d ≤ r.holder.depth → locate ground y.thread.number r.holder.slot d ≡ Some (at_slot t i) → ⊥
  not_passed y g l r d m le there =
      let n = y.thread.number in
      let at_holder = has_held ground n m.place r m.leads_so in
      let s = has_star m.place.slot r.holder m.place.depth at_holder in
      let h = held_as m.place.slot s.0 m.place.depth r s.1 at_holder in
      let placed : locate ground n m.place.slot d ≡ Some (at_slot t i) = subst (λ z. locate ground n z d ≡ Some (at_slot t i)) h.0 there in
      let w : walk st d (at_key (slot_k n m.place.slot)) ≡ Some (at_key (slot_k t i)) = (leads_in_heap k c y g m.place.slot d (at_slot t i) placed).0 in
      let u : StorePlace = record { key = slot_k n m.place.slot; depth = m.place.depth } in
      let f = ref_at c.types.typing.rank E st c.types.state.typed m.key true u m.exact in
      let more : m.place.depth ≡ (m.place.depth - d) + d = omega (arith, s.1, h.1, le) in
      let a = shorter E true u.key (m.place.depth - d) m.place.depth d f.base f.boxes f.type more f.res in
      not_reached c.types.typing.rank E st c.types.state.typed (slot_k t i) free true u.key d a.base a.boxes a.type a.res (free m.key true u m.exact) w

  pub unnamed : IsUnpassed k (at_slot t i)
  unnamed l m r d stands held le there =
      let q : Reference = record { at = l; holder = holder_of ground l r.holder; reference = r } in
      let s = borrowed_at k c l r (of_borrows ground q (things_of k) (reference_there k l r stands)).among in
      let y = s.thread in
      let go = λ (j : Location) (same : l ≡ j) (w : MutThere k c y j r) (e : locate ground y.thread.number r.holder.slot d ≡ Some (at_slot t i)). not_passed y s.goes j r d w le e in
      ⊎_elim
      (λ (a : (l ≡ at_slot y.thread.number s.number) × (slice_get y.thread.slots s.number ≡ Some (value.Mut r))).
      go (at_slot y.thread.number s.number) a.0 (slot_there k c y s.goes s.number r a.1) (subst (λ j. holder_of ground j (record r.holder { depth = d }) ≡ Some (at_slot t i)) a.0 there))
      (λ (a : (l ≡ at_temp y.thread.number s.number) × (slice_get y.thread.temps s.number ≡ Some (value.Mut r))).
      go (at_temp y.thread.number s.number) a.0 (temp_there k c y s.goes s.number r a.1) (subst (λ j. holder_of ground j (record r.holder { depth = d }) ≡ Some (at_slot t i)) a.0 there)) s.at

pub unnamed_are_unpassed : UnnamedAreUnpassed
unnamed_are_unpassed k c t i free = unnamed k c t i free
