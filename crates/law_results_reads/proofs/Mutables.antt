-- A place over mutable references alone: the pointers that it follows aren't shared, and with different counts of stars it leads apart.
use Rattle.std.proofs.Common.{◌≡◌, ◌≤◌, ◌<◌, ℕ, suc, ◌-◌, is_some, Bool, true, false, Some, refl, sym, ap, subst, ◌∙◌, arith}
use Rattle.std.specs.Prelude.{slice_get}
use Rattle.law_counts_sums.specs.Below.fr_typing.Kinds.{own, shared, mutable, view, Piece, whole, gone, boxed}
use Rattle.law_counts_sums.specs.Below.fr_typing.Places.{Slot}
use Rattle.law_counts_sums.specs.Below.fr_store.Keys.{Key, slot_k}
use Rattle.law_counts_sums.specs.Below.fr_store.Store.{Location as StoreLocation, at_key, at_object, ref_v, Store, Place as StorePlace, add, below_key}
use Rattle.law_counts_sums.specs.Below.fr_store.Typed.{hole, Exact, owns, refers, Whole, KeyTypes, exact_under, Resolves, here, through, Typed}
use Rattle.law_counts_sums.specs.Below.fr_store.Below.{RefOf, ExactOf}
use Rattle.law_counts_sums.proofs.Below.fr_store.Below.{part_zero}
use Rattle.law_counts_sums.proofs.Below.fr_store.Chains.{add_plus, unique}
use Rattle.law_counts_sums.proofs.Below.fr_store.Sound.{ref_at, sound, res_part}
use Rattle.law_counts_sums.proofs.Below.fr_store.ThreadKept.{res_low, ref_base}
use Rattle.law_counts_sums.specs.Below.mut_borrow.declared.shared.SharedRef.{SharedRef}
use Rattle.law_counts_sums.specs.Below.thread_state.declared.value.Value.{Value}
use Rattle.law_counts_sums.specs.Below.thread_state.declared.value.Value.TheVariants as value
use Rattle.law_counts_sums.specs.Below.server_model.Servers.{Cluster}
use Rattle.law_counts_sums.specs.Below.coherent_memory.Things.{Location, at_slot}
use Rattle.law_counts_sums.specs.Below.coherent_memory.Follow.{Standing, Ground, value_in, slot_of, locate}
use Rattle.law_counts_sums.specs.Below.coherent_memory.Sight.{sight}
use Rattle.law_words_paths.specs.Below.coherent_types.Names.{NameTypes}
use Rattle.law_words_paths.specs.Below.coherent_types.ClusterTypes.{has_form, slot_form}
use Rattle.law_words_paths.specs.paths.HeapStore.{in_store, heap_store, GoesOn, HasPaths}
use Rattle.law_words_paths.proofs.paths.Alike.{leads_in_heap, ref_type, slot_shared, slot_shared_slot, slot_mut_slot}
use Rattle.law_words_paths.proofs.paths.Circles.{shorter}
use Rattle.law_words_paths.proofs.paths.Forms.{not_mutable, slot_part, names as names_at}
use Rattle.law_words_paths.proofs.paths.Shown.{stands_there}
use Rattle.law_words_paths.proofs.paths.Sole.{some_is}

-- PLACES IN A TYPED STORE

no_reference_under : (d : ℕ) (m : Bool) (u : StorePlace) (q : Exact) → exact_under (suc d) (refers m u) ≡ Some q → ⊥
no_reference_under d m u q f = absurd cc

-- a star more over mutable references alone follows a mutable one
star_mutable : (E : KeyTypes) (k : Key) (c d : ℕ) (b b2 : Key) (n n2 : ℕ) (p : Exact) (m : Bool) (u : StorePlace) → c ≡ suc d → Resolves E true k c b n p → Resolves E true k d b2 n2 (refers m u) → m ≡ true
star_mutable E k c d b _ n _ p m u e r (here x) = by b n r
  where
    its_own : E k ≡ refers m u
    its_own = ref_base d (E k) m u x

    by : (a : Key) (j : ℕ) → Resolves E true k c a j p → m ≡ true
    by _ _ (here y) = absurd (no_reference_under d m u p (ap (exact_under (suc d)) (sym its_own) ∙ ap (λ z. exact_under z (E k)) (sym e) ∙ y))
    by _ _ (through m2 u2 e2 is on de r2) = let g : refers m2 u2 ≡ refers m u = sym is ∙ its_own in let same : m2 ≡ m = cc in sym same ∙ on refl
star_mutable E k c d b b2 n n2 p m u e r (through m2 u2 f is on de r2) = by b n (λ h e2 a. star_mutable E u2.key h (add u2.depth f) b b2 n n2 p m u e2 a r2) r
  where
    by : (a : Key) (j : ℕ) → ((h : ℕ) → h ≡ suc (add u2.depth f) → Resolves E true u2.key h a j p → m ≡ true) → Resolves E true k c a j p → m ≡ true
    by _ _ again (here y) = absurd (no_reference_under d m2 u2 p (ap (exact_under (suc d)) (sym is) ∙ ap (λ z. exact_under z (E k)) (sym e) ∙ y))
    by a j again (through m3 u3 f3 is3 on3 de3 r3) =
        let g : refers m3 u3 ≡ refers m2 u2 = sym is3 ∙ is in
        let su : u3 ≡ u2 = cc in
        let sum3 = add_plus u3.depth f3 in
        let sum2 = add_plus u2.depth f in
        let depths : u3.depth ≡ u2.depth = ap (λ (z : StorePlace). z.depth) su in
        let one : add u3.depth f3 ≡ suc (add u2.depth f) = omega (arith, sum3, sum2, depths, e, de, de3) in
        again (add u3.depth f3) one (subst (λ (z : StorePlace). Resolves E true z.key (add u3.depth f3) a j p) su r3)

-- two places at a key that come to the same have as many stars
res_inj : (rank : Key → ℕ) (E : KeyTypes) (s : Store) → Typed rank E s → (o1 o2 : Bool) (k : Key) (d e : ℕ) (b : Key) (n : ℕ) (p q : Exact) → Resolves E o1 k d b n p → Resolves E o2 k e b n q → d ≡ e
res_inj rank E s t o1 o2 k d e _ _ p q (here x) r = by k d refl r
  where
    by : (a : Key) (j : ℕ) → a ≡ k → Resolves E o2 k e a j q → j ≡ e
    by _ _ same (here y) = refl
    by a j same (through m u f is on de r2) =
        let low = t.below k m u is in
        let least = res_low rank E s t o2 u.key (add u.depth f) a j q r2 in
        let ranks : rank a ≡ rank k = ap rank same in
        absurd (omega (arith, low, least, ranks))
res_inj rank E s t o1 o2 k d e b n p q (through m u f is on de r) r2 = by b n refl refl (λ h y. res_inj rank E s t o1 o2 u.key (add u.depth f) h b n p q r y) r2
  where
    low : rank u.key < rank k
    low = t.below k m u is

    least : rank b ≤ rank u.key
    least = res_low rank E s t o1 u.key (add u.depth f) b n p r

    by : (a : Key) (j : ℕ) → a ≡ b → j ≡ n → ((h : ℕ) → Resolves E o2 u.key h b n q → add u.depth f ≡ h) → Resolves E o2 k e a j q → d ≡ e
    by _ _ key boxes again (here y) = let ranks : rank k ≡ rank b = ap rank key in absurd (omega (arith, low, least, ranks))
    by a j key boxes again (through m2 u2 f2 is2 on2 de2 r3) =
        let g : refers m2 u2 ≡ refers m u = sym is2 ∙ is in
        let su : u2 ≡ u = cc in
        let at_base : Resolves E o2 u2.key (add u2.depth f2) b n q = subst (λ z. Resolves E o2 u2.key (add u2.depth f2) z n q) key (subst (λ z. Resolves E o2 u2.key (add u2.depth f2) a z q) boxes r3) in
        let same = again (add u2.depth f2) (subst (λ (z : StorePlace). Resolves E o2 z.key (add u2.depth f2) b n q) su at_base) in
        let sum1 = add_plus u.depth f in
        let sum2 = add_plus u2.depth f2 in
        let depths : u2.depth ≡ u.depth = ap (λ (z : StorePlace). z.depth) su in
        omega (arith, same, sum1, sum2, depths, de, de2)

-- a shared reference to a slot has no mutable type
no_slot : (key : ℕ → Key) (E : KeyTypes) (n : NameTypes) (s : Slot) (j : ℕ) (u : StorePlace) → ExactOf key E s.part (refers true u) → slot_form n s (is_some s.name) (value.SharedSlot j) ≡ true → ⊥
no_slot key E n s j u ex = by (is_some s.name)
  where
    named : (p : Piece) → RefOf key E p true u → has_form n p (value.SharedSlot j) ≡ true → ⊥
    named (whole (own o)) x f = x
    named (whole (shared us)) x f = let z = x.0 in absurd cc
    named (whole (mutable us)) x f = absurd cc
    named (whole (view o)) x f = absurd cc
    named (gone q) x f = x
    named (boxed q) x f = x

    by : (b : Bool) → slot_form n s b (value.SharedSlot j) ≡ true → ⊥
    by true f = named s.part ex f
    by false f = absurd cc

-- A THREAD'S PLACE

module _ (k : Cluster) (c : HasPaths k) (x : Standing) (on : GoesOn k x) (slot depth : ℕ) (base : Key) (boxes : ℕ) (type : Exact) (resolves : Resolves c.types.typing.exact true (slot_k x.thread.number slot) depth base boxes type) where
  abbrev g : Ground
  g = (sight k).ground

  abbrev tn : ℕ
  tn = x.thread.number

  abbrev st : Store
  st = heap_store k c.types

  abbrev E : KeyTypes
  E = c.types.typing.exact

  abbrev rank : Key → ℕ
  rank = c.types.typing.rank

  abbrev typed_there : Typed rank E st
  typed_there = c.types.state.typed

  abbrev K : Key
  K = slot_k tn slot

  -- places of the variable with different counts of stars lead to different locations
  pub apart : (e d : ℕ) → e < d → d ≤ depth → (l : Location) → locate g tn slot e ≡ Some l → locate g tn slot d ≡ Some l → ⊥
  apart e d lt le l first second =
      let p = shorter E true K (depth - e) depth e base boxes type (omega (arith, lt, le)) resolves in
      let q = shorter E true K (depth - d) depth d base boxes type (omega (arith, le)) resolves in
      let below_first = sym (sound rank E st typed_there true K e p.base p.boxes p.type p.res) ∙ (leads_in_heap k c x on slot e l first).0 in
      let below_second = sym (sound rank E st typed_there true K d q.base q.boxes q.type q.res) ∙ (leads_in_heap k c x on slot d l second).0 in
      let one = unique st typed_there.owner p.base q.base p.boxes q.boxes (in_store l) below_first below_second in
      let same = res_inj rank E st typed_there true true K e d q.base q.boxes p.type q.type (subst (λ a. Resolves E true K e a q.boxes p.type) one.0 (subst (λ m. Resolves E true K e p.base m p.type) one.1 p.res)) q.res in
      absurd (omega (arith, lt, same))

  -- THE POINTER THAT A STAR FOLLOWS IS NO SHARED ONE

  module _ (d : ℕ) (lt : d < depth) where
    pub exact_true : (j : ℕ) (target : StoreLocation) → locate g tn slot d ≡ Some (at_slot tn j) → st.at (slot_k tn j) ≡ ref_v target → (u : StorePlace) × (E (slot_k tn j) ≡ refers true u)
    exact_true j target located is =
        let more = shorter E true K (depth - suc d) depth (suc d) base boxes type (omega (arith, lt)) resolves in
        let q = shorter E true K (depth - d) depth d base boxes type (omega (arith, lt)) resolves in
        let there : below_key st q.base q.boxes ≡ Some (at_key (slot_k tn j)) = sym (sound rank E st typed_there true K d q.base q.boxes q.type q.res) ∙ (leads_in_heap k c x on slot d (at_slot tn j) located).0 in
        let one = unique st typed_there.owner q.base (slot_k tn j) q.boxes 0 (at_key (slot_k tn j)) there refl in
        let r = ref_type rank E st typed_there (slot_k tn j) target is in
        let part : exact_under 0 (E (slot_k tn j)) ≡ Some q.type = subst (λ a. exact_under 0 (E a) ≡ Some q.type) one.0 (subst (λ m. exact_under m (E q.base) ≡ Some q.type) one.1 (res_part E true K d q.base q.boxes q.type q.res)) in
        let its_type : q.type ≡ refers r.0 r.1 = some_is (sym part ∙ part_zero (E (slot_k tn j))) ∙ r.2 in
        let is_mutable : r.0 ≡ true = star_mutable E K (suc d) d more.base q.base more.boxes q.boxes more.type r.0 r.1 refl more.res (subst (λ p. Resolves E true K d q.base q.boxes p) its_type q.res) in
        (r.1, r.2 ∙ ap (λ b. refers b r.1) is_mutable)

    pub in_its_slot : (j : ℕ) (v : Value) → value_in g (at_slot tn j) ≡ Some v → slice_get x.thread.slots j ≡ Some v
    in_its_slot j v stands = sym (ap (λ o. slot_of o j) (stands_there k c x on)) ∙ stands

    pub not_shared : (j : ℕ) (r : SharedRef) → locate g tn slot d ≡ Some (at_slot tn j) → value_in g (at_slot tn j) ≡ Some (value.Shared r) → ⊥
    not_shared j r located stands =
        let there = in_its_slot j (value.Shared r) stands in
        let q = exact_true j (at_object r.object) located (slot_shared k c x on j r there) in
        not_mutable k c x on j r q.0 there q.1

    pub not_shared_slot : (j m : ℕ) → locate g tn slot d ≡ Some (at_slot tn j) → value_in g (at_slot tn j) ≡ Some (value.SharedSlot m) → ⊥
    not_shared_slot j m located stands =
        let there = in_its_slot j (value.SharedSlot m) stands in
        let q = exact_true j (at_key (slot_k tn m)) located (slot_shared_slot k c x on j m there) in
        let part = slot_part k c x on j (value.SharedSlot m) there in
        no_slot (slot_k tn) E (names_at k c x on) part.slot m q.0 (subst (ExactOf (slot_k tn) E part.slot.part) q.1 part.exact) part.form

  -- what a mutable reference to a slot leads to is whole
  pub end_whole : (d : ℕ) → depth ≡ suc d → (j m : ℕ) → locate g tn slot d ≡ Some (at_slot tn j) → locate g tn slot depth ≡ Some (at_slot tn m) → value_in g (at_slot tn j) ≡ Some (value.MutSlot m) → type ≡ owns hole → ⊥
  end_whole d last j m located ends stands empty =
      let lt : d < depth = omega (arith, last) in
      let is = slot_mut_slot k c x on j m (in_its_slot d lt j (value.MutSlot m) stands) in
      let q = exact_true d lt j (at_key (slot_k tn m)) located is in
      let f = ref_at rank E st typed_there (slot_k tn j) true q.0 q.1 in
      let target : ref_v f.target ≡ ref_v (at_key (slot_k tn m)) = sym f.is ∙ is in
      let same_target : f.target ≡ at_key (slot_k tn m) = cc in
      let below_place : below_key st base boxes ≡ Some (at_key (slot_k tn m)) = sym (sound rank E st typed_there true K depth base boxes type resolves) ∙ (leads_in_heap k c x on slot depth (at_slot tn m) ends).0 in
      let one = unique st typed_there.owner base f.base boxes f.boxes (at_key (slot_k tn m)) below_place (f.leads ∙ ap Some same_target) in
      let part = res_part E true q.0.key q.0.depth f.base f.boxes f.type f.res in
      let its_part : exact_under f.boxes (E f.base) ≡ Some type = subst (λ a. exact_under f.boxes (E a) ≡ Some type) one.0 (subst (λ b. exact_under b (E base) ≡ Some type) one.1 (res_part E true K depth base boxes type resolves)) in
      let same_type : f.type ≡ owns hole = some_is (sym part ∙ its_part) ∙ empty in
      subst Whole same_type f.whole
