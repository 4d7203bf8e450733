-- A mutable reference that ends is alone.
use Rattle.std.proofs.Common.{◌≡◌, ◌⊎◌, inl, inr, ⊎_elim, ℕ, zero, suc, true, Some, refl, sym, ap, subst, ◌∙◌, arith}
use Rattle.std.specs.Prelude.{slice_get}
use Rattle.law_words_kept.specs.Below.fr_base.declared.name.ObjNo.{ObjNo}
use Rattle.law_words_kept.specs.Below.fr_base.declared.place.Lval.{Lval}
use Rattle.law_words_kept.specs.Below.fr_base.declared.instruction.Instr.TheVariants as instr
use Rattle.law_words_kept.specs.Below.fr_store.Keys.{Key, slot_k, temp_k}
use Rattle.law_words_kept.specs.Below.fr_store.Store.{Location as StoreLocation, at_key, at_object, Val, ref_v, Store, Place as StorePlace, then_location, star_target, star_hop, walk, below_key}
use Rattle.law_words_kept.specs.Below.fr_store.Typed.{refers, KeyTypes, Resolves, through, RefFits}
use Rattle.law_words_kept.proofs.Below.fr_store.Below.{add_zero}
use Rattle.law_words_kept.proofs.Below.fr_store.Chains.{unique}
use Rattle.law_words_kept.proofs.Below.fr_store.Sound.{walk_last, ref_at, sound}
use Rattle.law_words_kept.specs.Below.mut_borrow.declared.mutable.MutRef.{MutRef}
use Rattle.law_words_kept.specs.Below.mut_borrow.declared.shared.SharedRef.{SharedRef}
use Rattle.law_words_kept.specs.Below.thread_state.View.{is_over}
use Rattle.law_words_kept.specs.Below.thread_state.declared.value.Value.TheVariants as value
use Rattle.law_words_kept.specs.Below.server_model.Servers.{Cluster}
use Rattle.law_words_kept.specs.Below.coherent_memory.Names.{Among}
use Rattle.law_words_kept.specs.Below.coherent_memory.Things.{Location, at_slot, at_temp, shares, things_of}
use Rattle.law_words_kept.specs.Below.coherent_memory.Follow.{Standing, Ground, threads_in, thread_at, temp_of, value_in, locate}
use Rattle.law_words_kept.specs.Below.coherent_memory.Paths as paths
use Rattle.law_words_kept.specs.Below.coherent_memory.Paths.{ends, path_of}
use Rattle.law_words_kept.specs.Below.coherent_memory.Stale.{Reference, references, is_among, is_held_at as is_held_there, holder_of, lent_places, changed_above, stale_above, taken_above}
use Rattle.law_words_kept.specs.Below.coherent_memory.Sight.{Pointer, pointers_in, sight}
use Rattle.law_words_kept.specs.Below.coherent_memory.Walking.{instr_of, path}
use Rattle.law_words_kept.specs.Below.coherent_memory.Words.{IsStale}
use Rattle.law_words_kept.specs.Below.law_words_paths.paths.Above.{IsMadeFrom, StandsAbove, holder, higher, PointsTo, a_reference}
use Rattle.law_words_kept.specs.Below.law_words_paths.paths.HeapStore.{in_store, heap_store, GoesOn, IsUnmarked, HasPaths}
use Rattle.law_words_kept.specs.Below.law_words_paths.paths.Pointing.{Above, made_from, made_below, lends}
use Rattle.law_words_kept.proofs.Below.law_words_paths.paths.Sole.{sole_pointer, sole_mutable, sole_named, some_is}
use Rattle.law_words_kept.proofs.Below.law_words_paths.paths.Circles.{no_circle}
use Rattle.law_words_kept.proofs.Below.law_words_paths.paths.Shown.{stands_there}
use Rattle.law_words_kept.proofs.Below.law_words_paths.paths.Alike.{IsShown, there_of, mark_unnamed, leads_in_heap, leads_in_cluster, slot_shared, temp_shared}
use Rattle.law_words_kept.proofs.Below.law_words_paths.paths.Forms.{not_mutable}
use Rattle.law_words_kept.proofs.Below.law_words_paths.paths.Climbs.{one_location, held_as, and_second, ref_is, climbs}
use Rattle.law_words_kept.proofs.Below.law_words_paths.paths.Pointers.{Stood, pointed_at, shared_at, temp_unnamed}
use Rattle.law_words_kept.proofs.Below.law_words_paths.paths.FreshPaths.{MutThere, flat, holds_there, chain_of, followed_of, taken_among}
use Rattle.law_words_kept.specs.ends.Ending.{EndsAlone, EndedAreAlone}
use Rattle.law_words_kept.proofs.ends.Ends.{EndsAt, ends_at}

mut_no_shared : (r : MutRef) (q : SharedRef) → Some (value.Mut r) ≡ Some (value.Shared q) → ⊥
mut_no_shared r q e = absurd cc

no_lend : (w : Lval) (r : MutRef) → paths.lends w ≡ ends r → ⊥
no_lend w r e = absurd cc

module _ (k : Cluster) (c : HasPaths k) where
  -- NO THREAD HAS TAKEN FROM A POINTER OF ANOTHER ONE
  -- in a chain of a thread's slot, unless that thread lends mutably itself
  pub not_taken : (x : Standing) (g : GoesOn k x) (l : Location) → ((t i b : ℕ) → below_key (heap_store k c.types) (slot_k t i) b ≡ Some (in_store l) → t ≡ x.thread.number) → ((p : Lval) → instr_of (sight k) x ≡ Some (instr.BorrowMut p) → ⊥)
      → is_among l (lent_places (sight k).code (sight k).ground (threads_in (things_of k))) ≡ true → ⊥
  not_taken x g l own other e =
      let t = taken_among k c (threads_in (things_of k)) l e in
      let z = t.0 in
      let h = t.2 in
      let goes : GoesOn k z = record { among = t.1; going = ap is_over h.taken } in
      let f = followed_of k c z (instr.BorrowMut h.place) h.place h.stars l goes h.at lends (let d = h.depth in omega (arith, d)) h.located in
      let b = chain_of k c z l f in
      let one = own z.thread.number b.slot b.boxes b.leads_there in
      let at : Some z ≡ Some x = sym (stands_there k c z goes) ∙ ap (thread_at (sight k).ground.threads) one ∙ stands_there k c x g in
      other h.place (ap (λ (y : Standing). instr_of (sight k) y) (sym (some_is at)) ∙ h.at)

module _ (k : Cluster) (c : HasPaths k) (x : Standing) (g : GoesOn k x) (r : MutRef) (is : path (sight k) x ≡ ends r) (e : EndsAt k c x g r) where
  abbrev st : Store
  st = heap_store k c.types

  abbrev n : ℕ
  n = x.thread.number

  abbrev E : KeyTypes
  E = c.types.typing.exact

  abbrev ground : Ground
  ground = (sight k).ground

  abbrev m : MutThere k c x e.at r
  m = e.there

  abbrev key : Key
  key = m.key

  abbrev o : ObjNo
  o = r.object

  -- the place that its exact type names
  abbrev u : StorePlace
  u = record { key = slot_k n m.place.slot; depth = m.place.depth }

  f : RefFits E st true u (st.at key)
  f = ref_at c.types.typing.rank E st c.types.state.typed key true u m.exact

  resolved : Resolves E true key 1 f.base f.boxes f.type
  resolved = through true u 0 m.exact (λ z. refl) refl (subst (λ z. Resolves E true u.key z f.base f.boxes f.type) (sym (add_zero u.depth)) f.res)

  star_there : star_hop st (at_key key) ≡ Some (at_object o)
  star_there = ap (λ (v : Val). star_target (Some v)) m.shown

  one_star : walk st 1 (at_key key) ≡ Some (at_object o)
  one_star = ap (λ (v : Val). then_location (star_target (Some v)) (walk st 0)) m.shown

  -- who else points there, in the store
  sole_there : (l : StoreLocation) → PointsTo st o l → (l ≡ at_key key) ⊎ StandsAbove E st l (at_key key)
  sole_there l pts = sole_pointer c.types.typing.rank E st key 0 f.base f.boxes f.type (at_key key) l o c.types.state.typed e.free resolved refl one_star pts

  -- WHAT IT WAS MADE FROM

  pub holder_stars : (i : ℕ) × (m.place.depth ≡ suc i) × (r.holder.slot ≡ m.place.slot) × (r.holder.depth ≡ i)
  holder_stars = by m.place.depth refl
    where
      by : (d : ℕ) → m.place.depth ≡ d → (i : ℕ) × (m.place.depth ≡ suc i) × (r.holder.slot ≡ m.place.slot) × (r.holder.depth ≡ i)
      by zero z =
          let w : walk st 0 (at_key u.key) ≡ Some f.target = sym (ap (λ y. walk st y (at_key u.key)) z) ∙ (sound c.types.typing.rank E st c.types.state.typed true u.key u.depth f.base f.boxes f.type f.res ∙ f.leads) in
          let q : at_key u.key ≡ at_object o = some_is w ∙ ref_is (sym f.is ∙ m.shown) in
          absurd cc
      by (suc i) z = let h = held_as m.place.slot i m.place.depth r z (and_second _ _ m.leads_so) in (i, z, h.0, h.1)

  -- no type names a mark
  unmarked : IsUnmarked x m.place.slot
  unmarked y at = mark_unnamed k c x g m.place.slot y at key true u m.exact refl

  record OneUp (sh : StoreLocation) : Type 0 where
    location : Location
    held : holder_of ground e.at r.holder ≡ Some location
    same : in_store location ≡ sh
    shown : IsShown k c x g location
    clear : (j : ℕ) → location ≡ at_slot n j → IsUnmarked x j
    leads_there : star_hop st sh ≡ Some (at_object o)

  one_up : (sh : StoreLocation) → IsMadeFrom E st key sh → OneUp sh
  one_up sh made =
      let p : made.place ≡ u = (let z : refers true made.place ≡ refers true u = sym made.refers ∙ m.exact in cc) in
      let h = holder_stars in
      let stars : made.stars ≡ h.0 = (let q : suc made.stars ≡ suc h.0 = sym made.last ∙ ap (λ (z : StorePlace). z.depth) p ∙ h.1 in omega (arith, q)) in
      let w : walk st h.0 (at_key u.key) ≡ Some sh = subst (λ (z : StorePlace). walk st h.0 (at_key z.key) ≡ Some sh) p (subst (λ z. walk st z (at_key made.place.key) ≡ Some sh) stars made.leads) in
      let there = leads_in_cluster k c x g m.place.slot h.0 sh unmarked w in
      let heap = leads_in_heap k c x g m.place.slot h.0 there.0 there.1 in
      let whole_walk : walk st (suc h.0) (at_key u.key) ≡ Some f.target = sym (ap (λ z. walk st z (at_key u.key)) h.1) ∙ (sound c.types.typing.rank E st c.types.state.typed true u.key u.depth f.base f.boxes f.type f.res ∙ f.leads) in
      let target : f.target ≡ at_object o = ref_is (sym f.is ∙ m.shown) in
      record {
        location = there.0;
        held = m.holder_is ∙ subst (λ z. locate ground n z r.holder.depth ≡ Some there.0) (sym h.2) (subst (λ z. locate ground n m.place.slot z ≡ Some there.0) (sym h.3) there.1);
        same = some_is (sym heap.0 ∙ w);
        shown = heap.1;
        clear = there.2;
        leads_there = sym (walk_last st h.0 (at_key u.key) sh w) ∙ whole_walk ∙ ap Some target;
      }

  -- what stands above it in the store does in the cluster
  climb : (l : Location) (a : Key) → StandsAbove E st (in_store l) (at_key a) → a ≡ key → Above ground l e.at
  climb l a (holder made) same =
      let up = one_up (in_store l) (subst (λ z. IsMadeFrom E st z (in_store l)) same made) in
      made_from r e.stands (up.held ∙ ap Some (one_location up.location l up.same))
  climb l a (higher {h = h} made rest) same =
      let up = one_up h (subst (λ z. IsMadeFrom E st z h) same made) in
      made_below r e.stands up.held (climbs k c x g l (in_store l) up.location h o up.shown up.clear up.same up.leads_there refl rest)

  pointed_above : (p : Pointer) (l : Location) → Among p (pointers_in (things_of k)) → p.object ≡ o → p.at ≡ Some l → (l ≡ e.at) ⊎ Above ground l e.at
  pointed_above p l among same at =
      let heap = there_of c.types.typing.rank E st c.types.state.typed key (at_object o) m.shown in
      ⊎_elim (λ (q : in_store l ≡ at_key key). inl (one_location l e.at (q ∙ sym m.is))) (λ (q : StandsAbove E st (in_store l) (at_key key)). inr (climb l key q refl)) (sole_there (in_store l) (pointed_at k c p l o heap.0 among same at heap.1))

  -- no shared reference leads there
  unshared : (l : Location) (q : SharedRef) → Among (shares l q) (things_of k) → q.object ≡ o → ⊥
  unshared l q among same = by s.at
    where
      s : Stood k c l (value.Shared q)
      s = shared_at k c l q among

      z : Standing
      z = s.thread

      by : ((l ≡ at_slot z.thread.number s.number) × (slice_get z.thread.slots s.number ≡ Some (value.Shared q))) ⊎ ((l ≡ at_temp z.thread.number s.number) × (slice_get z.thread.temps s.number ≡ Some (value.Shared q))) → ⊥
      by (inl a) =
          let at = slot_shared k c z s.goes s.number q a.1 ∙ ap (λ y. ref_v (at_object y)) same in
          let y = sole_mutable c.types.typing.rank E st key 0 f.base f.boxes f.type (at_key key) (slot_k z.thread.number s.number) o c.types.state.typed e.free resolved refl one_star at in
          not_mutable k c z s.goes s.number q y.0 a.1 y.1
      by (inr a) =
          let at = temp_shared k c z s.goes s.number q a.1 ∙ ap (λ y. ref_v (at_object y)) same in
          let one = sole_named c.types.typing.rank E st key 0 f.base f.boxes f.type (temp_k z.thread.number s.number) o c.types.state.typed e.free resolved one_star at (temp_unnamed k c z.thread.number s.number) in
          let here : at_temp z.thread.number s.number ≡ e.at = one_location (at_temp z.thread.number s.number) e.at (ap at_key one ∙ sym m.is) in
          let shown : value_in ground (at_temp z.thread.number s.number) ≡ Some (value.Shared q) = ap (λ y. temp_of y s.number) (stands_there k c z s.goes) ∙ a.1 in
          mut_no_shared r q (sym e.stands ∙ ap (value_in ground) (sym here) ∙ shown)

  -- none was made from it
  none_made : (q : Reference) → Among q (references ground (things_of k)) → is_held_there e.at q.holder ≡ true → ⊥
  none_made q among held =
      let h = holds_there k c q e.at among held in
      let w = h.2 in
      let made : IsMadeFrom E st w.key (at_key key) = subst (IsMadeFrom E st w.key) m.is w.made in
      let star : star_hop st (at_key key) ≡ Some (at_object h.1.object) = subst (λ z. star_hop st z ≡ Some (at_object h.1.object)) m.is w.star in
      let one : at_object o ≡ at_object h.1.object = some_is (sym star_there ∙ star) in
      no_circle c.types.typing.rank E st c.types.state.typed (flat k c) w.key (at_key key) made (sole_there (at_key w.key) (a_reference (w.shown ∙ ap ref_v (sym one))))

  no_lending : (p : Lval) → instr_of (sight k) x ≡ Some (instr.BorrowMut p) → ⊥
  no_lending p at = no_lend p r (ap (λ i. path_of i x.thread) (sym at) ∙ is)

  not_taken_here : is_among e.at (lent_places (sight k).code ground (threads_in (things_of k))) ≡ true → ⊥
  not_taken_here =
      not_taken k c x g e.at
      (λ t i b h. (let one = unique st c.types.state.typed.owner (slot_k t i) key b 0 (at_key key) (h ∙ ap Some m.is) refl in e.own t i (sym one.0)))
      no_lending

  fresh : IsStale (sight k) (Some e.at) → ⊥
  fresh (changed_above q among held ch) = none_made q among held
  fresh (stale_above q among held s) = none_made q among held
  fresh (taken_above t) = not_taken_here t

  pub ended : EndsAlone k r
  ended = record { at = e.at; stands = e.stands; alone = record { above = pointed_above; unshared = unshared; none_made = none_made }; fresh = fresh }

pub ended_are_alone : EndedAreAlone
ended_are_alone k c x r g is = ended k c x g r is (ends_at k c x g r is)
