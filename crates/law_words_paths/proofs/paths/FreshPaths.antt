-- No pointer that a place of an instruction follows for writing is stale: no reference was made from it, and no other thread's place meets it.
use Rattle.std.proofs.Common.{◌≡◌, inl, inr, ⊎_elim, ℕ, zero, suc, ◌+◌, ◌-◌, ◌<◌, ◌==◌, ◌&&◌, ◌||◌, Bool, true, false, List, [], ◌∷◌, Option, Some, None, refl, sym, ap, subst, ◌∙◌, arith}
use Rattle.std.specs.Prelude.{slice_get}
use Rattle.std.proofs.lemmas.Bool.Decides.{nat_tests}
use Rattle.coherent_types.specs.Below.fr_base.declared.name.ObjNo.{ObjNo}
use Rattle.coherent_types.specs.Below.fr_base.declared.place.Lval.{Lval}
use Rattle.coherent_types.specs.Below.fr_base.declared.label.Plain.{Plain}
use Rattle.coherent_types.specs.Below.fr_base.declared.label.Plain.TheVariants as plain
use Rattle.coherent_types.specs.Below.fr_base.declared.instruction.Instr.{Instr}
use Rattle.coherent_types.specs.Below.fr_base.declared.instruction.Instr.TheVariants as instr
use Rattle.coherent_types.specs.Below.fr_store.Keys.{Key, slot_k, temp_k}
use Rattle.coherent_types.specs.Below.fr_store.Store.{Location as StoreLocation, at_key, at_object, gone_v, ref_v, Store, Place as StorePlace, star_hop, walk, below_key}
use Rattle.coherent_types.specs.Below.fr_store.Typed.{Exact, refers, KeyTypes, Resolves, Unnamed}
use Rattle.coherent_types.specs.Below.fr_store.Below.{ExactOf}
use Rattle.coherent_types.proofs.Below.fr_store.Chains.{unique}
use Rattle.coherent_types.proofs.Below.fr_store.Sound.{walk_last, ref_at, sound}
use Rattle.coherent_types.specs.Below.fr_sound.Seen.{seen_cell}
use Rattle.coherent_types.specs.Below.mut_borrow.declared.mutable.MutRef.{MutRef}
use Rattle.coherent_types.specs.Below.thread_state.View.{is_over}
use Rattle.coherent_types.specs.Below.thread_state.declared.phase.Phase.{Phase}
use Rattle.coherent_types.specs.Below.thread_state.declared.phase.Phase.TheVariants as phase
use Rattle.coherent_types.specs.Below.thread_state.declared.value.Value.{Value}
use Rattle.coherent_types.specs.Below.thread_state.declared.value.Value.TheVariants as value
use Rattle.coherent_types.specs.Below.server_model.Servers.{Cluster}
use Rattle.coherent_types.specs.Below.coherent_memory.Names.{Among}
use Rattle.coherent_types.specs.Below.coherent_memory.Things.{Location, at_slot, at_temp, in_cell, Thing, borrows, things_of}
use Rattle.coherent_types.specs.Below.coherent_memory.Follow.{Standing, Ground, threads_in, thread_at, locate, place_at}
use Rattle.coherent_types.specs.Below.coherent_memory.Stale.{same_location, is_among, Reference, references, holder_of, is_held_at as is_held_there, one_star_less, lent_place, with_place, lent_places, changed_above, stale_above, taken_above}
use Rattle.coherent_types.specs.Below.coherent_memory.Sight.{sight}
use Rattle.coherent_types.specs.Below.coherent_memory.Walking.{instr_of}
use Rattle.coherent_types.specs.Below.coherent_memory.Words.{IsStale}
use Rattle.coherent_types.specs.Below.coherent_memory.OneHeap.{object_value}
use Rattle.coherent_types.proofs.Below.coherent_memory.Words.{named}
use Rattle.coherent_types.specs.ClusterTypes.{astray, leads_as, is_held_at}
use Rattle.law_words_paths.specs.paths.Above.{IsMadeFrom, a_reference}
use Rattle.law_words_paths.specs.paths.HeapStore.{in_store, heap_store, GoesOn, HasPaths}
use Rattle.law_words_paths.specs.paths.Pointing.{WritesTo, lends, WrittenAreFresh, WrittenAreApart}
use Rattle.law_words_paths.proofs.paths.Sole.{sole_pointer, some_is}
use Rattle.law_words_paths.proofs.paths.Circles.{shorter, base_in, no_circle}
use Rattle.law_words_paths.proofs.paths.Shown.{stands_there}
use Rattle.law_words_paths.proofs.paths.Alike.{leads_in_heap, ref_type, slot_none, slot_mut, temp_mut}
use Rattle.law_words_paths.proofs.paths.Forms.{own_place, mutable_own, slot_piece, temp_piece, not_astray, temp_not_astray}
use Rattle.law_words_paths.proofs.paths.Climbs.{held_as, right_place, and_second, ref_is}
use Rattle.law_words_paths.proofs.paths.Pointers.{borrowed_at}
use Rattle.law_words_paths.proofs.paths.MayWrites.{may_write_there}

pub same_is : (l m : Location) → same_location l m ≡ true → l ≡ m
same_is (at_slot t i) (at_slot u j) e = by (t == u) (i == j) refl refl e
  where
    by : (a b : Bool) → (t == u) ≡ a → (i == j) ≡ b → a && b ≡ true → at_slot t i ≡ at_slot u j
    by true true p q h =
        let x : t ≡ u = grind (arith, nat_tests, p) in
        let y : i ≡ j = grind (arith, nat_tests, q) in
        cc
    by true false p q h = absurd cc
    by false b p q h = absurd cc
same_is (at_temp t i) (at_temp u j) e = by (t == u) (i == j) refl refl e
  where
    by : (a b : Bool) → (t == u) ≡ a → (i == j) ≡ b → a && b ≡ true → at_temp t i ≡ at_temp u j
    by true true p q h =
        let x : t ≡ u = grind (arith, nat_tests, p) in
        let y : i ≡ j = grind (arith, nat_tests, q) in
        cc
    by true false p q h = absurd cc
    by false b p q h = absurd cc
same_is (in_cell o) (in_cell p) e = ap in_cell (named o p e)
same_is (at_slot t i) (at_temp u j) e = absurd cc
same_is (at_slot t i) (in_cell o) e = absurd cc
same_is (at_temp t i) (at_slot u j) e = absurd cc
same_is (at_temp t i) (in_cell o) e = absurd cc
same_is (in_cell o) (at_slot u j) e = absurd cc
same_is (in_cell o) (at_temp u j) e = absurd cc

pub threads_same : {t u i j : ℕ} → slot_k t i ≡ slot_k u j → t ≡ u
threads_same e = cc

gone_no_ref : {l : StoreLocation} → gone_v ≡ ref_v l → ⊥
gone_no_ref e = absurd cc

nothing_there : {A : Type 0} {x : A} → None ≡ Some x → ⊥
nothing_there e = absurd cc

-- who holds there
pub held_at : (l : Location) (o : Option Location) → is_held_there l o ≡ true → o ≡ Some l
held_at l None e = absurd cc
held_at l (Some h) e = ap Some (same_is h l e)

-- a reference of the cluster is one of its things
record OfBorrow (g : Ground) (r : Reference) (b : List Thing) : Type 0 where
  reference : MutRef
  among : Among (borrows r.at reference) b
  holder : r.holder ≡ holder_of g r.at reference.holder

of_borrow : (g : Ground) (r : Reference) (b : List Thing) → Among r (references g b) → OfBorrow g r b
of_borrow g r [] h = absurd h
of_borrow g r (borrows l q ∷ b) (inl e) =
    let at : l ≡ r.at = ap (λ (z : Reference). z.at) e in
    record {
      reference = q;
      among = inl (ap (λ z. borrows z q) at);
      holder = sym (ap (λ (z : Reference). z.holder) e) ∙ ap (λ z. holder_of g z q.holder) at;
    }
of_borrow g r (borrows l q ∷ b) (inr h) = let w = of_borrow g r b h in record { reference = w.reference; among = inr w.among; holder = w.holder }
of_borrow g r (_ ∷ b) h = let w = of_borrow g r b h in record { reference = w.reference; among = inr w.among; holder = w.holder }

module _ (k : Cluster) (c : HasPaths k) where
  abbrev st : Store
  st = heap_store k c.types

  abbrev E : KeyTypes
  E = c.types.typing.exact

  abbrev ground : Ground
  ground = (sight k).ground

  -- objects hold no references
  pub flat : (o : ObjNo) (l : StoreLocation) → st.heap o ≡ Some (ref_v l) → ⊥
  flat o l e = by (object_value (sight k) o) e
    where
      by : (p : Option Plain) → seen_cell c.types.typing.gives p ≡ Some (ref_v l) → ⊥
      by None f = absurd cc
      by (Some plain.Nothing) f = absurd cc
      by (Some plain.Unit) f = absurd cc
      by (Some (plain.Int n)) f = absurd cc
      by (Some (plain.Box q)) f = absurd cc
      by (Some (plain.Mutex m)) f = absurd cc
      by (Some (plain.Task t)) f = absurd cc

  -- WHAT A MUTABLE REFERENCE WAS MADE FROM

  -- a mutable reference in a thread, with its exact type
  pub record MutThere (y : Standing) (m : Location) (q : MutRef) : Type 0 where
    pub key : Key
    pub is : in_store m ≡ at_key key
    pub shown : st.at key ≡ ref_v (at_object q.object)
    pub place : Lval
    pub exact : E key ≡ refers true (record { key = slot_k y.thread.number place.slot; depth = place.depth })
    pub leads_so : leads_as ground y.thread.number place (value.Mut q) ≡ true
    pub holder_is : holder_of ground m q.holder ≡ place_at ground y.thread.number q.holder

  pub slot_there : (y : Standing) (g : GoesOn k y) (i : ℕ) (q : MutRef) → slice_get y.thread.slots i ≡ Some (value.Mut q) → MutThere y (at_slot y.thread.number i) q
  slot_there y g i q e =
      let shown = slot_mut k c y g i q e in
      let r = ref_type c.types.typing.rank E st c.types.state.typed (slot_k y.thread.number i) (at_object q.object) shown in
      let p = slot_piece k c y g i (value.Mut q) refl e in
      let own = mutable_own (slot_k y.thread.number) E _ p.piece r.0 r.1 q (subst (λ z. ExactOf (slot_k y.thread.number) E p.piece z) r.2 p.exact) p.form in
      let exact = r.2 ∙ ap (λ b. refers b r.1) own.0 ∙ ap (refers true) own.2 in
      record {
        key = slot_k y.thread.number i;
        is = refl;
        shown = shown;
        place = own.1;
        exact = exact;
        leads_so = right_place k c y g own.1 (value.Mut q) (subst (λ z. astray ground y.thread.number z (value.Mut q) ≡ 0) exact (not_astray k c y g i (value.Mut q) e));
        holder_is = refl;
      }

  pub temp_there : (y : Standing) (g : GoesOn k y) (i : ℕ) (q : MutRef) → slice_get y.thread.temps i ≡ Some (value.Mut q) → MutThere y (at_temp y.thread.number i) q
  temp_there y g i q e =
      let shown = temp_mut k c y g i q e in
      let r = ref_type c.types.typing.rank E st c.types.state.typed (temp_k y.thread.number i) (at_object q.object) shown in
      let p = temp_piece k c y g i (value.Mut q) r.0 r.1 e r.2 in
      let own = mutable_own (slot_k y.thread.number) E _ p.piece r.0 r.1 q (subst (λ z. ExactOf (slot_k y.thread.number) E p.piece z) r.2 p.exact) p.form in
      let exact = r.2 ∙ ap (λ b. refers b r.1) own.0 ∙ ap (refers true) own.2 in
      record {
        key = temp_k y.thread.number i;
        is = refl;
        shown = shown;
        place = own.1;
        exact = exact;
        leads_so = right_place k c y g own.1 (value.Mut q) (subst (λ z. astray ground y.thread.number z (value.Mut q) ≡ 0) exact (temp_not_astray k c y g i (value.Mut q) e));
        holder_is = refl;
      }

  -- its holder is the pointer that its exact type's place follows last
  has_star : (slot : ℕ) (h : Lval) (d : ℕ) → is_held_at slot d h ≡ true → (s : ℕ) × (d ≡ suc s)
  has_star slot h zero e = absurd cc
  has_star slot h (suc s) e = (s, refl)

  pub record MadeFrom (y : Standing) (m : Location) (q : MutRef) (l : Location) : Type 0 where
    pub key : Key
    pub is : in_store m ≡ at_key key
    pub shown : st.at key ≡ ref_v (at_object q.object)
    pub made : IsMadeFrom E st key (in_store l)
    pub star : star_hop st (in_store l) ≡ Some (at_object q.object)

  made_from_there : (y : Standing) (g : GoesOn k y) (m l : Location) (q : MutRef) → MutThere y m q → holder_of ground m q.holder ≡ Some l → MadeFrom y m q l
  made_from_there y g m l q t held =
      let n = y.thread.number in
      let at_holder = and_second _ _ t.leads_so in
      let s = has_star t.place.slot q.holder t.place.depth at_holder in
      let h = held_as t.place.slot s.0 t.place.depth q s.1 at_holder in
      let placed : locate ground n q.holder.slot q.holder.depth ≡ Some l = sym t.holder_is ∙ held in
      let there : locate ground n t.place.slot s.0 ≡ Some l = subst (λ z. locate ground n z s.0 ≡ Some l) h.0 (subst (λ z. locate ground n q.holder.slot z ≡ Some l) h.1 placed) in
      let w = (leads_in_heap k c y g t.place.slot s.0 l there).0 in
      let u : StorePlace = record { key = slot_k n t.place.slot; depth = t.place.depth } in
      let f = ref_at c.types.typing.rank E st c.types.state.typed t.key true u t.exact in
      let target : f.target ≡ at_object q.object = ref_is (sym f.is ∙ t.shown) in
      let whole_walk : walk st t.place.depth (at_key (slot_k n t.place.slot)) ≡ Some f.target = sound c.types.typing.rank E st c.types.state.typed true u.key u.depth f.base f.boxes f.type f.res ∙ f.leads in
      let one_more : walk st (suc s.0) (at_key (slot_k n t.place.slot)) ≡ Some f.target = sym (ap (λ z. walk st z (at_key (slot_k n t.place.slot))) s.1) ∙ whole_walk in
      record {
        key = t.key;
        is = t.is;
        shown = t.shown;
        made = record { place = u; stars = s.0; refers = t.exact; last = s.1; leads = w };
        star = sym (walk_last st s.0 (at_key (slot_k n t.place.slot)) (in_store l) w) ∙ one_more ∙ ap Some target;
      }

  -- whatever holds there was made from it
  pub holds_there : (r : Reference) (l : Location) → Among r (references ground (things_of k)) → is_held_there l r.holder ≡ true → (y : Standing) × (q : MutRef) × MadeFrom y r.at q l
  holds_there r l among e =
      let b = of_borrow ground r (things_of k) among in
      let held : holder_of ground r.at b.reference.holder ≡ Some l = sym b.holder ∙ held_at l r.holder e in
      let s = borrowed_at k c r.at b.reference b.among in
      let y = s.thread in
      let go = λ (m : Location) (same : r.at ≡ m) (t : MutThere y m b.reference). made_from_there y s.goes r.at l b.reference (subst (λ z. MutThere y z b.reference) (sym same) t) held in (
        y,
        b.reference,
        ⊎_elim (λ (a : (r.at ≡ at_slot y.thread.number s.number) × (slice_get y.thread.slots s.number ≡ Some (value.Mut b.reference))). go (at_slot y.thread.number s.number) a.0 (slot_there y s.goes s.number b.reference a.1))
            (λ (a : (r.at ≡ at_temp y.thread.number s.number) × (slice_get y.thread.temps s.number ≡ Some (value.Mut b.reference))). go (at_temp y.thread.number s.number) a.0 (temp_there y s.goes s.number b.reference a.1)) s.at,
      )

  -- NO REFERENCE WAS MADE FROM A POINTER THAT IS FOLLOWED

  pub record Followed (x : Standing) (l : Location) : Type 0 where
    pub goes : GoesOn k x
    pub slot : ℕ
    pub stars : ℕ
    pub free : Unnamed E (slot_k x.thread.number slot)
    pub base : Key
    pub boxes : ℕ
    pub type : Exact
    pub resolves : Resolves E true (slot_k x.thread.number slot) (suc stars) base boxes type
    pub located : locate ground x.thread.number slot stars ≡ Some l

  pub none_made : (x : Standing) (l : Location) (r : Reference) → Followed x l → Among r (references ground (things_of k)) → is_held_there l r.holder ≡ true → ⊥
  none_made x l r f among held =
      let h = holds_there r l among held in
      let q = h.1 in
      let m = h.2 in
      let key = slot_k x.thread.number f.slot in
      let hw = (leads_in_heap k c x f.goes f.slot f.stars l f.located).0 in
      let w : walk st (suc f.stars) (at_key key) ≡ Some (at_object q.object) = walk_last st f.stars (at_key key) (in_store l) hw ∙ m.star in
      no_circle c.types.typing.rank E st c.types.state.typed flat m.key (in_store l) m.made
      (sole_pointer c.types.typing.rank E st key f.stars f.base f.boxes f.type (in_store l) (at_key m.key) q.object c.types.state.typed f.free f.resolves hw w (a_reference m.shown))

  -- OTHER THREADS

  -- a key is a slot of the thread
  abbrev pub OwnSlot : ℕ → Key → Type 0
  OwnSlot t a = (j : ℕ) × (a ≡ slot_k t j)

  pub own_closed : (x : Standing) (g : GoesOn k x) (a : Key) (u : StorePlace) → OwnSlot x.thread.number a → E a ≡ refers true u → OwnSlot x.thread.number u.key
  own_closed x g a u o is = by (slice_get x.thread.slots o.0) refl
    where
      exact : E (slot_k x.thread.number o.0) ≡ refers true u
      exact = sym (ap E o.1) ∙ is

      by : (v : Option Value) → slice_get x.thread.slots o.0 ≡ v → OwnSlot x.thread.number u.key
      by None e =
          let f = ref_at c.types.typing.rank E st c.types.state.typed (slot_k x.thread.number o.0) true u exact in
          let z : gone_v ≡ ref_v f.target = sym (slot_none k c x g o.0 e) ∙ f.is in
          absurd (gone_no_ref z)
      by (Some v) e = let w = own_place k c x g o.0 v u e exact in (w.0.slot, ap (λ (z : StorePlace). z.key) w.1)

  -- the pointer that a place follows stands in a chain of a slot of the thread
  pub record OwnChain (t : ℕ) (l : Location) : Type 0 where
    pub slot : ℕ
    pub boxes : ℕ
    pub leads_there : below_key st (slot_k t slot) boxes ≡ Some (in_store l)

  pub chain_of : (x : Standing) (l : Location) → Followed x l → OwnChain x.thread.number l
  chain_of x l f =
      let key = slot_k x.thread.number f.slot in
      let s = shorter E true key 1 (suc f.stars) f.stars f.base f.boxes f.type (omega arith) f.resolves in
      let b = base_in (OwnSlot x.thread.number) E (own_closed x f.goes) key f.stars s.base s.boxes s.type (f.slot, refl) s.res in
      let hw = (leads_in_heap k c x f.goes f.slot f.stars l f.located).0 in
      let there = sym (sound c.types.typing.rank E st c.types.state.typed true key f.stars s.base s.boxes s.type s.res) ∙ hw in
      record { slot = b.0; boxes = s.boxes; leads_there = subst (λ z. below_key st z s.boxes ≡ Some (in_store l)) b.1 there }

  -- so two threads follow no pointer in common
  one_follows : (x z : Standing) (l : Location) → Followed x l → Followed z l → x.thread.number ≡ z.thread.number
  one_follows x z l f g =
      let a = chain_of x l f in
      let b = chain_of z l g in
      let same = unique st c.types.state.typed.owner (slot_k x.thread.number a.slot) (slot_k z.thread.number b.slot) a.boxes b.boxes (in_store l) a.leads_there b.leads_there in
      threads_same same.0

  -- the place of an instruction is followed star by star
  pub followed_of : (x : Standing) (i : Instr) (w : Lval) (d : ℕ) (l : Location) → GoesOn k x → instr_of (sight k) x ≡ Some i → WritesTo i w → d < w.depth → locate ground x.thread.number w.slot d ≡ Some l → Followed x l
  followed_of x i w d l g at writes lt there =
      let may = may_write_there k c x g i w at writes in
      let more : w.depth ≡ (w.depth - suc d) + suc d = omega (arith, lt) in
      let s = shorter E true (slot_k x.thread.number w.slot) (w.depth - suc d) w.depth (suc d) may.base may.boxes may.type more may.resolves in
      record { goes = g; slot = w.slot; stars = d; free = may.free; base = s.base; boxes = s.boxes; type = s.type; resolves = s.res; located = there }

  -- a thread that has taken an object
  pub record HasTaken (z : Standing) (l : Location) : Type 0 where
    pub word : ℕ
    pub taken : z.thread.phase ≡ phase.Taken word
    pub place : Lval
    pub at : slice_get (sight k).code z.thread.pc ≡ Some (instr.BorrowMut place)
    pub stars : ℕ
    pub depth : place.depth ≡ suc stars
    pub located : locate ground z.thread.number place.slot stars ≡ Some l

  taken_of : (z : Standing) (l : Location) (m : Location) → lent_place ground z.thread.number z.thread.phase (slice_get (sight k).code z.thread.pc) ≡ Some m → m ≡ l → HasTaken z l
  taken_of z l m e same = by z.thread.phase refl (slice_get (sight k).code z.thread.pc) refl e
    where
      at_depth : (w : ℕ) (p : Lval) → z.thread.phase ≡ phase.Taken w → slice_get (sight k).code z.thread.pc ≡ Some (instr.BorrowMut p) → (d : ℕ) → p.depth ≡ d → one_star_less ground z.thread.number p.slot d ≡ Some m → HasTaken z l
      at_depth w p t i zero q f = absurd (nothing_there f)
      at_depth w p t i (suc n) q f = record { word = w; taken = t; place = p; at = i; stars = n; depth = q; located = f ∙ ap Some same }

      by : (p : Phase) → z.thread.phase ≡ p → (i : Option Instr) → slice_get (sight k).code z.thread.pc ≡ i → lent_place ground z.thread.number p i ≡ Some m → HasTaken z l
      by (phase.Taken w) t (Some (instr.BorrowMut p)) i f = at_depth w p t i p.depth refl f
      by _ t _ i f = absurd (nothing_there f)

  pub taken_among : (xs : List Standing) (l : Location) → is_among l (lent_places (sight k).code ground xs) ≡ true → (z : Standing) × Among z xs × HasTaken z l
  taken_among [] l e = absurd cc
  taken_among (z ∷ xs) l e = by (lent_place ground z.thread.number z.thread.phase (slice_get (sight k).code z.thread.pc)) refl e (taken_among xs l)
    where
      first : (m : Location) (b : Bool) → same_location m l ≡ b → lent_place ground z.thread.number z.thread.phase (slice_get (sight k).code z.thread.pc) ≡ Some m → b || is_among l (lent_places (sight k).code ground xs) ≡ true
          → (is_among l (lent_places (sight k).code ground xs) ≡ true → (y : Standing) × Among y xs × HasTaken y l) → (y : Standing) × Among y (z ∷ xs) × HasTaken y l
      first m true q at f go = (z, inl refl, taken_of z l m at (same_is m l q))
      first m false q at f go = let r = go f in (r.0, inr r.1, r.2)

      by : (o : Option Location) → lent_place ground z.thread.number z.thread.phase (slice_get (sight k).code z.thread.pc) ≡ o → is_among l (with_place o (lent_places (sight k).code ground xs)) ≡ true
          → (is_among l (lent_places (sight k).code ground xs) ≡ true → (y : Standing) × Among y xs × HasTaken y l) → (y : Standing) × Among y (z ∷ xs) × HasTaken y l
      by None at f go = let r = go f in (r.0, inr r.1, r.2)
      by (Some m) at f go = first m (same_location m l) refl at f go

  -- no other thread has taken what is followed
  none_taken : (x : Standing) (l : Location) → Followed x l → ((v : ℕ) → x.thread.phase ≡ phase.Taken v → ⊥) → is_among l (lent_places (sight k).code ground (threads_in (things_of k))) ≡ true → ⊥
  none_taken x l f free e =
      let t = taken_among (threads_in (things_of k)) l e in
      let z = t.0 in
      let h = t.2 in
      let goes : GoesOn k z = record { among = t.1; going = ap is_over h.taken } in
      let lt : h.stars < h.place.depth = omega (arith, h.depth) in
      let g = followed_of z (instr.BorrowMut h.place) h.place h.stars l goes h.at lends lt h.located in
      let one = one_follows x z l f g in
      let at : Some x ≡ Some z = sym (stands_there k c x f.goes) ∙ ap (thread_at ground.threads) one ∙ stands_there k c z goes in
      free h.word (ap (λ (y : Standing). y.thread.phase) (some_is at) ∙ h.taken)

  fresh_there : (x : Standing) (l : Location) → Followed x l → ((v : ℕ) → x.thread.phase ≡ phase.Taken v → ⊥) → IsStale (sight k) (Some l) → ⊥
  fresh_there x l f free (changed_above r among held ch) = none_made x l r f among held
  fresh_there x l f free (stale_above r among held s) = none_made x l r f among held
  fresh_there x l f free (taken_above e) = none_taken x l f free e

-- NO POINTER THAT IS FOLLOWED FOR WRITING IS STALE
pub written_are_fresh : WrittenAreFresh
written_are_fresh k c x i w d l g at writes free lt there = fresh_there k c x l (followed_of k c x i w d l g at writes lt there) free

-- NO TWO THREADS FOLLOW A POINTER FOR WRITING
pub written_are_apart : WrittenAreApart
written_are_apart k c x z i j w v d e l g h at bt writes also lt lu there here_too =
    one_follows k c x z l (followed_of k c x i w d l g at writes lt there) (followed_of k c z j v e l h bt also lu here_too)
