-- A mutable reference that stands in a thread leads into a slot's boxes of its own thread, and the pointer that it was made from is that of its place.
use Rattle.std.proofs.Common.{◌≡◌, inl, inr, ⊎_elim, ℕ, zero, suc, Bool, true, List, [], ◌∷◌, Some, refl, sym, ap, subst, ◌∙◌}
use Rattle.std.specs.Prelude.{slice_get}
use Rattle.law_counts_sums.specs.Below.fr_base.declared.name.ObjNo.{ObjNo}
use Rattle.law_counts_sums.specs.Below.fr_base.declared.place.Lval.{Lval}
use Rattle.law_counts_sums.specs.Below.fr_store.Keys.{Key, slot_k, temp_k}
use Rattle.law_counts_sums.specs.Below.fr_store.Store.{at_key, at_object, Store, Place as StorePlace, walk, below_key}
use Rattle.law_counts_sums.specs.Below.fr_store.Typed.{Exact, refers, KeyTypes, Resolves, Unlent}
use Rattle.law_counts_sums.specs.Below.fr_store.Below.{ExactOf}
use Rattle.law_counts_sums.proofs.Below.fr_store.Sound.{ref_at, sound}
use Rattle.law_counts_sums.specs.Below.mut_borrow.declared.mutable.MutRef.{MutRef}
use Rattle.law_counts_sums.specs.Below.thread_state.declared.value.Value.TheVariants as value
use Rattle.law_counts_sums.specs.Below.server_model.Servers.{Cluster}
use Rattle.law_counts_sums.specs.Below.coherent_memory.Names.{Among}
use Rattle.law_counts_sums.specs.Below.coherent_memory.Things.{Location, at_slot, at_temp, Thing, borrows, things_of}
use Rattle.law_counts_sums.specs.Below.coherent_memory.Follow.{Standing, Ground, locate}
use Rattle.law_counts_sums.specs.Below.coherent_memory.Stale.{Reference, references, holder_of, is_held_at as is_held_there}
use Rattle.law_counts_sums.specs.Below.coherent_memory.Sight.{sight}
use Rattle.law_words_paths.specs.Below.coherent_types.ClusterTypes.{astray, is_held_at}
use Rattle.law_words_paths.specs.paths.Above.{IsMadeFrom}
use Rattle.law_words_paths.specs.paths.HeapStore.{in_store, heap_store, GoesOn, HasPaths}
use Rattle.law_words_paths.proofs.paths.Alike.{leads_in_heap, ref_type, temp_mut}
use Rattle.law_words_paths.proofs.paths.Forms.{mutable_own, temp_piece, temp_not_astray}
use Rattle.law_words_paths.proofs.paths.Climbs.{held_as, right_place, and_second, ref_is}
use Rattle.law_words_paths.proofs.paths.Circles.{base_in}
use Rattle.law_words_paths.proofs.paths.Pointers.{borrowed_at}
use Rattle.law_words_paths.proofs.paths.FreshPaths.{held_at, MutThere, slot_there, OwnSlot, own_closed}
use Rattle.law_results_reads.proofs.Lent.{none_lent}

-- a reference of the cluster is one of its things
record OfBorrow (g : Ground) (r : Reference) (b : List Thing) : Type 0 where
  reference : MutRef
  among : Among (borrows r.at reference) b
  holder : r.holder ≡ holder_of g r.at reference.holder

of_borrow : (g : Ground) (r : Reference) (b : List Thing) → Among r (references g b) → OfBorrow g r b
of_borrow g r [] h = absurd h
of_borrow g r (borrows l q ∷ b) (inl e) =
    let at : l ≡ r.at = ap (λ (z : Reference). z.at) e in
    record {
      reference = q;
      among = inl (ap (λ z. borrows z q) at);
      holder = sym (ap (λ (z : Reference). z.holder) e) ∙ ap (λ z. holder_of g z q.holder) at;
    }
of_borrow g r (borrows l q ∷ b) (inr h) = let w = of_borrow g r b h in record { reference = w.reference; among = inr w.among; holder = w.holder }
of_borrow g r (_ ∷ b) h = let w = of_borrow g r b h in record { reference = w.reference; among = inr w.among; holder = w.holder }

module _ (k : Cluster) (c : HasPaths k) where
  abbrev st : Store
  st = heap_store k c.types

  abbrev E : KeyTypes
  E = c.types.typing.exact

  abbrev ground : Ground
  ground = (sight k).ground

  -- a mutable reference among temporary values, as `slot_there` has it for slots
  pub temp_there : (y : Standing) (g : GoesOn k y) (i : ℕ) (q : MutRef) → slice_get y.thread.temps i ≡ Some (value.Mut q) → MutThere k c y (at_temp y.thread.number i) q
  temp_there y g i q e =
      let shown = temp_mut k c y g i q e in
      let r = ref_type c.types.typing.rank E st c.types.state.typed (temp_k y.thread.number i) (at_object q.object) shown in
      let p = temp_piece k c y g i (value.Mut q) r.0 r.1 e r.2 in
      let own = mutable_own (slot_k y.thread.number) E _ p.piece r.0 r.1 q (subst (λ z. ExactOf (slot_k y.thread.number) E p.piece z) r.2 p.exact) p.form in
      let exact = r.2 ∙ ap (λ b. refers b r.1) own.0 ∙ ap (refers true) own.2 in
      record {
        key = temp_k y.thread.number i;
        is = refl;
        shown = shown;
        place = own.1;
        exact = exact;
        leads_so = right_place k c y g own.1 (value.Mut q) (subst (λ z. astray ground y.thread.number z (value.Mut q) ≡ 0) exact (temp_not_astray k c y g i (value.Mut q) e));
        holder_is = refl;
      }

  pub has_star : (slot : ℕ) (h : Lval) (d : ℕ) → is_held_at slot d h ≡ true → (s : ℕ) × (d ≡ suc s)
  has_star slot h zero e = absurd cc
  has_star slot h (suc s) e = (s, refl)

  -- its holder is the pointer that its place follows last
  made_there : (y : Standing) (g : GoesOn k y) (m l : Location) (q : MutRef) → (t : MutThere k c y m q) → holder_of ground m q.holder ≡ Some l → IsMadeFrom E st t.key (in_store l)
  made_there y g m l q t held =
      let n = y.thread.number in
      let at_holder = and_second _ _ t.leads_so in
      let s = has_star t.place.slot q.holder t.place.depth at_holder in
      let h = held_as t.place.slot s.0 t.place.depth q s.1 at_holder in
      let placed : locate ground n q.holder.slot q.holder.depth ≡ Some l = sym t.holder_is ∙ held in
      let there : locate ground n t.place.slot s.0 ≡ Some l = subst (λ z. locate ground n z s.0 ≡ Some l) h.0 (subst (λ z. locate ground n q.holder.slot z ≡ Some l) h.1 placed) in
      record { place = record { key = slot_k n t.place.slot; depth = t.place.depth }; stars = s.0; refers = t.exact; last = s.1; leads = (leads_in_heap k c y g t.place.slot s.0 l there).0 }

  -- whatever holds there was made from it
  holds_there : (r : Reference) (l : Location) → Among r (references ground (things_of k)) → is_held_there l r.holder ≡ true → (key : Key) × IsMadeFrom E st key (in_store l)
  holds_there r l among e =
      let b = of_borrow ground r (things_of k) among in
      let held : holder_of ground r.at b.reference.holder ≡ Some l = sym b.holder ∙ held_at l r.holder e in
      let s = borrowed_at k c r.at b.reference b.among in
      let y = s.thread in
      let go : (m : Location) → r.at ≡ m → MutThere k c y m b.reference → (key : Key) × IsMadeFrom E st key (in_store l) = λ m same t. (t.key, made_there y s.goes m l b.reference t (subst (λ z. holder_of ground z b.reference.holder ≡ Some l) same held)) in
      ⊎_elim (λ (a : (r.at ≡ at_slot y.thread.number s.number) × (slice_get y.thread.slots s.number ≡ Some (value.Mut b.reference))). go (at_slot y.thread.number s.number) a.0 (slot_there k c y s.goes s.number b.reference a.1))
      (λ (a : (r.at ≡ at_temp y.thread.number s.number) × (slice_get y.thread.temps s.number ≡ Some (value.Mut b.reference))). go (at_temp y.thread.number s.number) a.0 (temp_there y s.goes s.number b.reference a.1)) s.at

  -- a pointer that a thread follows on a place whose variable no type lends mutably
  pub record Reads (x : Standing) (l : Location) : Type 0 where
    pub goes : GoesOn k x
    pub slot : ℕ
    pub stars : ℕ
    pub free : Unlent E (slot_k x.thread.number slot)
    pub only : Bool
    pub base : Key
    pub boxes : ℕ
    pub type : Exact
    pub resolves : Resolves E only (slot_k x.thread.number slot) stars base boxes type
    pub located : locate ground x.thread.number slot stars ≡ Some l

  -- no mutable reference was made from it
  pub none_made : (x : Standing) (l : Location) (r : Reference) → Reads x l → Among r (references ground (things_of k)) → is_held_there l r.holder ≡ true → ⊥
  none_made x l r f among held =
      let h = holds_there r l among held in
      none_lent c.types.typing.rank E st c.types.state.typed (slot_k x.thread.number f.slot) f.free f.only f.stars f.base f.boxes f.type (in_store l) h.0 f.resolves (leads_in_heap k c x f.goes f.slot f.stars l f.located).0 h.1

  -- WHOSE SLOT IT IS IN

  -- the object stands in boxes of a slot of the thread
  pub record OwnedBy (t : ℕ) (o : ObjNo) : Type 0 where
    pub slot : ℕ
    pub boxes : ℕ
    pub leads : below_key st (slot_k t slot) boxes ≡ Some (at_object o)

  -- over mutable references alone a slot's place leads into a slot of the same thread
  pub own_path : (x : Standing) (g : GoesOn k x) (slot d : ℕ) (b : Key) (n : ℕ) (p : Exact) (o : ObjNo) → Resolves E true (slot_k x.thread.number slot) d b n p → walk st d (at_key (slot_k x.thread.number slot)) ≡ Some (at_object o) → OwnedBy x.thread.number o
  own_path x g slot d b n p o r w =
      let a = base_in (OwnSlot k c x.thread.number) E (own_closed k c x g) (slot_k x.thread.number slot) d b n p (slot, refl) r in
      let there = sym (sound c.types.typing.rank E st c.types.state.typed true (slot_k x.thread.number slot) d b n p r) ∙ w in
      record { slot = a.0; boxes = n; leads = subst (λ z. below_key st z n ≡ Some (at_object o)) a.1 there }

  -- so does a mutable reference of the thread
  pub own_reference : (y : Standing) (g : GoesOn k y) (m : Location) (q : MutRef) → MutThere k c y m q → OwnedBy y.thread.number q.object
  own_reference y g m q t =
      let u : StorePlace = record { key = slot_k y.thread.number t.place.slot; depth = t.place.depth } in
      let f = ref_at c.types.typing.rank E st c.types.state.typed t.key true u t.exact in
      let target : f.target ≡ at_object q.object = ref_is (sym f.is ∙ t.shown) in
      own_path y g t.place.slot t.place.depth f.base f.boxes f.type q.object f.res (sound c.types.typing.rank E st c.types.state.typed true u.key u.depth f.base f.boxes f.type f.res ∙ f.leads ∙ ap Some target)
