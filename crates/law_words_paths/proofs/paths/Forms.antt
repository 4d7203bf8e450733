-- The value in a slot has the form of its exact type: where that is a mutable reference, so is the value.
use Rattle.std.proofs.Common.{◌≡◌, inl, inr, ℕ, zero, suc, ◌+◌, not, Bool, true, false, if◌then◌else◌, List, [], ◌∷◌, length, reverse, Some, is_some, refl, sym, ap, subst, ◌∙◌, arith, ◌<◌}
use Rattle.std.specs.Prelude.{slice_get}
use Rattle.coherent_types.proofs.Below.fr_typing.PlaceLemmas.{eq_cases}
use Rattle.coherent_types.specs.Below.fr_typing.Kinds.{Kind, Piece, whole, gone, boxed, own, shared, mutable, view}
use Rattle.coherent_types.specs.Below.fr_typing.Places.{Slot, Env}
use Rattle.coherent_types.specs.Below.fr_base.declared.place.Lval.{Lval}
use Rattle.coherent_types.specs.Below.fr_store.Keys.{Key, slot_k, temp_k}
use Rattle.coherent_types.specs.Below.fr_store.Store.{Place as StorePlace}
use Rattle.coherent_types.specs.Below.fr_store.Thread.{TempIs}
use Rattle.coherent_types.specs.Below.fr_store.Typed.{owns, int_tree, refers, KeyTypes}
use Rattle.coherent_types.specs.Below.fr_store.Below.{ExactOf, RefOf, SlotsBelow}
use Rattle.coherent_types.specs.Below.fr_sound.States.{RunningTyped, IsThread, hand_key, hand_kind, operands}
use Rattle.coherent_types.specs.Below.fr_code.Steps.{Place}
use Rattle.coherent_types.specs.Below.fr_code.CodeTypes.{is_variable}
use Rattle.coherent_types.specs.Below.mut_borrow.declared.mutable.MutRef.{MutRef}
use Rattle.coherent_types.specs.Below.mut_borrow.declared.shared.SharedRef.{SharedRef}
use Rattle.coherent_types.specs.Below.thread_state.View.{is_over}
use Rattle.coherent_types.specs.Below.thread_state.declared.value.Value.{Value}
use Rattle.coherent_types.specs.Below.thread_state.declared.value.Value.TheVariants as value
use Rattle.coherent_types.specs.Below.server_model.Servers.{Cluster}
use Rattle.coherent_types.specs.Below.coherent_memory.Names.{tot, if_so, Among}
use Rattle.coherent_types.specs.Below.coherent_memory.Follow.{Standing, Ground}
use Rattle.coherent_types.specs.Below.coherent_memory.Sight.{sight}
use Rattle.coherent_types.specs.Below.coherent_memory.OneHeap.{one_heap, running_at}
use Rattle.coherent_types.specs.Names.{NameTypes, names_of}
use Rattle.coherent_types.specs.ClusterTypes.{temps_wrong, is_mark, KnownAt, astray, all_astray, astray_of, slot_form, slots_wrong, has_form, entry_wrong, forms_of}
use Rattle.law_words_paths.specs.paths.HeapStore.{GoesOn, heap_store, HasPaths}
use Rattle.law_words_paths.proofs.paths.Sole.{some_is}
use Rattle.law_words_paths.proofs.paths.Shown.{none_else, is_running, at_behind, behind_is}

-- THE PART OF A SLOT

-- the part that typing gives a slot, with the value there
pub record HasPart (key : ℕ → Key) (E : KeyTypes) (n : NameTypes) (e : Env) (i : ℕ) (v : Value) : Type 0 where
  pub slot : Slot
  pub exact : ExactOf key E slot.part (E (key i))
  pub form : slot_form n slot (is_some slot.name) v ≡ true
  pub variable : is_variable e i ≡ is_some slot.name

same_length : (n : NameTypes) (e : Env) (vs : List Value) → slots_wrong n e vs ≡ 0 → length e ≡ length vs
same_length n [] [] z = refl
same_length n [] (v ∷ vs) z = absurd cc
same_length n (s ∷ e) [] z = absurd cc
same_length n (s ∷ e) (v ∷ vs) z = ap suc (same_length n e vs (omega (arith, z)))

part_behind : (key : ℕ → Key) (E : KeyTypes) (n : NameTypes) (e : Env) (vs : List Value) (i : ℕ) (v : Value) → SlotsBelow key E e → slots_wrong n e vs ≡ 0 → at_behind vs i ≡ Some v → HasPart key E n e i v
part_behind key E n [] [] i v below z h = absurd cc
part_behind key E n [] (w ∷ vs) i v below z h = absurd cc
part_behind key E n (s ∷ e) [] i v below z h = absurd cc
part_behind key E n (s ∷ e) (w ∷ vs) i v below z h =
    let lengths = same_length n e vs (omega (arith, z)) in
    eq_cases (λ b. (if b then Some w else at_behind vs i) ≡ Some v → HasPart key E n (s ∷ e) i v) i (length vs)
    (λ same found.
    let value_is : w ≡ v = some_is found in
    let number : length e ≡ i = lengths ∙ sym same in
    let form : slot_form n s (is_some s.name) w ≡ true = none_else (slot_form n s (is_some s.name) w) (omega (arith, z)) in
    record {
      slot = s;
      exact = subst (λ j. ExactOf key E s.part (E (key j))) number below.0;
      form = subst (λ y. slot_form n s (is_some s.name) y ≡ true) value_is form;
      variable = eq_cases (λ b. (if b then is_some s.name else is_variable e i) ≡ is_some s.name) i (length e) (λ e2. refl) (λ ne. absurd (ne (sym number)));
    })
    (λ ne found.
    let q = part_behind key E n e vs i v below.1 (omega (arith, z)) found in
    record {
      slot = q.slot;
      exact = q.exact;
      form = q.form;
      variable = eq_cases (λ b. (if b then is_some s.name else is_variable e i) ≡ is_some q.slot.name) i (length e) (λ e2. absurd (ne (e2 ∙ lengths))) (λ ne2. q.variable);
    })
    h

-- a sum over threads that is nothing is nothing at each
pub none_of : (f : Standing → ℕ) (x : Standing) (xs : List Standing) → tot f xs ≡ 0 → Among x xs → f x ≡ 0
none_of f x [] z h = absurd h
none_of f x (y ∷ xs) z (inl e) = subst (λ w. f w ≡ 0) e (omega (arith, z))
none_of f x (y ∷ xs) z (inr h) = none_of f x xs (omega (arith, z)) h

no_part : (key : ℕ → Key) (E : KeyTypes) (n : NameTypes) (s : Slot) (r : SharedRef) (u : StorePlace) → ExactOf key E s.part (refers true u) → slot_form n s (is_some s.name) (value.Shared r) ≡ true → ⊥
no_part key E n s r u ex = by (is_some s.name)
  where
    named : (p : Piece) → RefOf key E p true u → has_form n p (value.Shared r) ≡ true → ⊥
    named (whole (own o)) x f = x
    named (whole (shared us)) x f = let z = x.0 in absurd cc
    named (whole (mutable us)) x f = absurd cc
    named (whole (view o)) x f = let z = x.0 in absurd cc
    named (gone q) x f = x
    named (boxed q) x f = x

    by : (b : Bool) → slot_form n s b (value.Shared r) ≡ true → ⊥
    by true f = named s.part ex f
    by false f = absurd cc

own_of : (key : ℕ → Key) (E : KeyTypes) (p : Piece) (u : StorePlace) → ExactOf key E p (refers true u) → (w : Lval) × (u ≡ (record { key = key w.slot; depth = w.depth }))
own_of key E (whole (own o)) u x = absurd x
own_of key E (whole (shared us)) u x = let z = x.0 in absurd cc
own_of key E (whole (mutable us)) u x = (x.1.place, x.1.is)
own_of key E (whole (view o)) u x = let z = x.0 in absurd cc
own_of key E (gone q) u x = absurd x
own_of key E (boxed q) u x = absurd x

astray_at : (E : KeyTypes) (g : Ground) (t : ℕ) (key : ℕ → Key) (j i : ℕ) (vs : List Value) (v : Value) → all_astray E g t key j vs ≡ 0 → slice_get vs i ≡ Some v → astray g t (E (key (j + i))) v ≡ 0
astray_at E g t key j i [] v z e = absurd cc
astray_at E g t key j zero (w ∷ vs) v z e =
    let same : w ≡ v = some_is e in
    let here_it : astray g t (E (key j)) w ≡ 0 = omega (arith, z) in
    subst (λ n. astray g t (E (key n)) v ≡ 0) (omega arith) (subst (λ y. astray g t (E (key j)) y ≡ 0) same here_it)
astray_at E g t key j (suc i) (w ∷ vs) v z e = subst (λ n. astray g t (E (key n)) v ≡ 0) (omega arith) (astray_at E g t key (j + 1) i vs v (omega (arith, z)) e)

-- the part of a value whose exact type is a reference
pub record HasPiece (key : ℕ → Key) (E : KeyTypes) (n : NameTypes) (a : Key) (v : Value) : Type 0 where
  pub piece : Piece
  pub exact : ExactOf key E piece (E a)
  pub form : has_form n piece v ≡ true

named_piece : (key : ℕ → Key) (E : KeyTypes) (n : NameTypes) (s : Slot) (a : Key) (v : Value) → is_mark v ≡ false → ExactOf key E s.part (E a) → slot_form n s (is_some s.name) v ≡ true → HasPiece key E n a v
named_piece key E n s a v plain ex = by (is_some s.name)
  where
    by : (b : Bool) → slot_form n s b v ≡ true → HasPiece key E n a v
    by true f = record { piece = s.part; exact = ex; form = f }
    by false f = let z : false ≡ true = sym plain ∙ f in absurd cc

-- a mutable reference has the exact type of one, of a place of its own thread
pub mutable_own : (key : ℕ → Key) (E : KeyTypes) (n : NameTypes) (p : Piece) (m : Bool) (u : StorePlace) (q : MutRef) → ExactOf key E p (refers m u) → has_form n p (value.Mut q) ≡ true
    → (m ≡ true) × (w : Lval) × (u ≡ (record { key = key w.slot; depth = w.depth }))
mutable_own key E n (whole (own o)) m u q x f = absurd x
mutable_own key E n (whole (shared us)) m u q x f = absurd cc
mutable_own key E n (whole (mutable us)) m u q x f = (x.0, x.1.place, x.1.is)
mutable_own key E n (whole (view o)) m u q x f = absurd cc
mutable_own key E n (gone k) m u q x f = absurd x
mutable_own key E n (boxed p) m u q x f = absurd x

same_count : (n : NameTypes) (ks : List Kind) (vs : List Value) → temps_wrong n ks vs ≡ 0 → length ks ≡ length vs
same_count n [] [] z = refl
same_count n [] (v ∷ vs) z = absurd cc
same_count n (k ∷ ks) [] z = absurd cc
same_count n (k ∷ ks) (v ∷ vs) z = ap suc (same_count n ks vs (omega (arith, z)))

within_behind : {A : Type 0} (xs : List A) (i : ℕ) (v : A) → at_behind xs i ≡ Some v → i < length xs
within_behind [] i v e = absurd cc
within_behind (x ∷ xs) i v e = eq_cases (λ b. (if b then Some x else at_behind xs i) ≡ Some v → i < suc (length xs)) i (length xs) (λ q f. omega (arith, q)) (λ ne f. omega (arith, within_behind xs i v f)) e

temp_behind : (t : ℕ) (E : KeyTypes) (n : NameTypes) (ks : List Kind) (vs : List Value) (i : ℕ) (v : Value) (m : Bool) (u : StorePlace) → temps_wrong n ks vs ≡ 0 → TempIs (slot_k t) E (hand_key t ks) (hand_kind ks)
    → ((j : ℕ) → j < operands ks → E (temp_k t j) ≡ owns int_tree) → at_behind vs i ≡ Some v → E (temp_k t i) ≡ refers m u → HasPiece (slot_k t) E n (temp_k t i) v
temp_behind t E n [] [] i v m u z hand waits e is = absurd cc
temp_behind t E n [] (w ∷ vs) i v m u z hand waits e is = absurd cc
temp_behind t E n (k ∷ ks) [] i v m u z hand waits e is = absurd cc
temp_behind t E n (k ∷ ks) (w ∷ vs) i v m u z hand waits e is =
    let lengths = same_count n ks vs (omega (arith, z)) in
    eq_cases (λ b. (if b then Some w else at_behind vs i) ≡ Some v → HasPiece (slot_k t) E n (temp_k t i) v) i (length vs)
    (λ q f.
    let here_it : i ≡ length ks = q ∙ sym lengths in
    let form : has_form n (whole k) w ≡ true = none_else (has_form n (whole k) w) (omega (arith, z)) in
    record { piece = whole k; exact = subst (λ j. ExactOf (slot_k t) E (whole k) (E (temp_k t j))) (sym here_it) hand; form = subst (λ y. has_form n (whole k) y ≡ true) (some_is f) form })
    (λ ne f.
    let inside = within_behind vs i v f in
    let int_there = waits i (omega (arith, inside, lengths)) in
    let y : owns int_tree ≡ refers m u = sym int_there ∙ is in
    absurd cc)
    e

module _ (k : Cluster) (c : HasPaths k) (x : Standing) (g : GoesOn k x) where
  abbrev pub names : NameTypes
  names = names_of c.types.object c.types.typing.gives

  -- what typing knows of the thread
  pub running_typed : RunningTyped (KnownAt c.types.table) (λ (p : Place). p.temps) c.types.typing (heap_store k c.types) x.thread.number ((one_heap k).pair x.thread.number) (running_at x.thread)
  running_typed = c.types.state.threads x.thread.number (running_at x.thread) (is_running k c x g)

  slots_right : slots_wrong names running_typed.entry.env (reverse x.thread.slots) ≡ 0
  slots_right =
      let all = none_of (λ y. if_so (not (is_over y.thread.phase)) (entry_wrong (forms_of names y.thread) (c.types.table y.thread.pc))) x (sight k).ground.threads c.types.forms g.among in
      let here_it : entry_wrong (forms_of names x.thread) (c.types.table x.thread.pc) ≡ 0 = sym (ap (λ b. if_so (not b) (entry_wrong (forms_of names x.thread) (c.types.table x.thread.pc))) g.going) ∙ all in
      let known : forms_of names x.thread running_typed.entry ≡ 0 = sym (ap (entry_wrong (forms_of names x.thread)) running_typed.known) ∙ here_it in
      omega (arith, known)

  pub slots_below : SlotsBelow (slot_k x.thread.number) c.types.typing.exact running_typed.entry.env
  slots_below = by running_typed.entry.forked running_typed.thread
    where
      by : (b : Bool) → IsThread b (slot_k x.thread.number) c.types.typing.rank (hand_key x.thread.number running_typed.entry.temps) running_typed.entry.env c.types.typing.exact (heap_store k c.types) (hand_kind running_typed.entry.temps) → SlotsBelow (slot_k x.thread.number) c.types.typing.exact running_typed.entry.env
      by true t = t.slots
      by false t = t.slots

  pub slot_part : (i : ℕ) (v : Value) → slice_get x.thread.slots i ≡ Some v → HasPart (slot_k x.thread.number) c.types.typing.exact names running_typed.entry.env i v
  slot_part i v e = part_behind (slot_k x.thread.number) c.types.typing.exact names running_typed.entry.env (reverse x.thread.slots) i v slots_below slots_right (behind_is x.thread.slots i ∙ e)

  -- a shared reference has no mutable exact type
  pub not_mutable : (i : ℕ) (r : SharedRef) (u : StorePlace) → slice_get x.thread.slots i ≡ Some (value.Shared r) → c.types.typing.exact (slot_k x.thread.number i) ≡ refers true u → ⊥
  not_mutable i r u e is =
      let q = slot_part i (value.Shared r) e in
      no_part (slot_k x.thread.number) c.types.typing.exact names q.slot r u (subst (ExactOf (slot_k x.thread.number) c.types.typing.exact q.slot.part) is q.exact) q.form

  -- the exact type of a mutable reference names a place of its own thread, and so is its value one
  pub own_place : (i : ℕ) (v : Value) (u : StorePlace) → slice_get x.thread.slots i ≡ Some v → c.types.typing.exact (slot_k x.thread.number i) ≡ refers true u
      → (w : Lval) × (u ≡ (record { key = slot_k x.thread.number w.slot; depth = w.depth }))
  own_place i v u e is =
      let q = slot_part i v e in
      own_of (slot_k x.thread.number) c.types.typing.exact q.slot.part u (subst (ExactOf (slot_k x.thread.number) c.types.typing.exact q.slot.part) is q.exact)

  -- each value leads as its exact type says
  pub not_astray : (i : ℕ) (v : Value) → slice_get x.thread.slots i ≡ Some v → astray (sight k).ground x.thread.number (c.types.typing.exact (slot_k x.thread.number i)) v ≡ 0
  not_astray i v e =
      let all = none_of (λ y. astray_of c.types.typing.exact (sight k).ground y.thread) x (sight k).ground.threads c.types.lead g.among in
      subst (λ j. astray (sight k).ground x.thread.number (c.types.typing.exact (slot_k x.thread.number j)) v ≡ 0) (omega arith)
      (astray_at c.types.typing.exact (sight k).ground x.thread.number (slot_k x.thread.number) 0 i x.thread.slots v (omega (arith, all)) e)

  -- the part that typing gives a value with an exact type that is a reference, where it is no mark
  pub slot_piece : (i : ℕ) (v : Value) → is_mark v ≡ false → slice_get x.thread.slots i ≡ Some v → HasPiece (slot_k x.thread.number) c.types.typing.exact names (slot_k x.thread.number i) v
  slot_piece i v plain e = let q = slot_part i v e in named_piece (slot_k x.thread.number) c.types.typing.exact names q.slot (slot_k x.thread.number i) v plain q.exact q.form

  temps_right : temps_wrong names running_typed.entry.temps (reverse x.thread.temps) ≡ 0
  temps_right =
      let all = none_of (λ y. if_so (not (is_over y.thread.phase)) (entry_wrong (forms_of names y.thread) (c.types.table y.thread.pc))) x (sight k).ground.threads c.types.forms g.among in
      let here_it : entry_wrong (forms_of names x.thread) (c.types.table x.thread.pc) ≡ 0 = sym (ap (λ b. if_so (not b) (entry_wrong (forms_of names x.thread) (c.types.table x.thread.pc))) g.going) ∙ all in
      let known : forms_of names x.thread running_typed.entry ≡ 0 = sym (ap (entry_wrong (forms_of names x.thread)) running_typed.known) ∙ here_it in
      omega (arith, known)

  hand_is : TempIs (slot_k x.thread.number) c.types.typing.exact (hand_key x.thread.number running_typed.entry.temps) (hand_kind running_typed.entry.temps)
  hand_is = by running_typed.entry.forked running_typed.thread
    where
      by : (b : Bool) → IsThread b (slot_k x.thread.number) c.types.typing.rank (hand_key x.thread.number running_typed.entry.temps) running_typed.entry.env c.types.typing.exact (heap_store k c.types) (hand_kind running_typed.entry.temps)
          → TempIs (slot_k x.thread.number) c.types.typing.exact (hand_key x.thread.number running_typed.entry.temps) (hand_kind running_typed.entry.temps)
      by true t = t.temp
      by false t = t.temp

  pub temp_piece : (i : ℕ) (v : Value) (m : Bool) (u : StorePlace) → slice_get x.thread.temps i ≡ Some v → c.types.typing.exact (temp_k x.thread.number i) ≡ refers m u → HasPiece (slot_k x.thread.number) c.types.typing.exact names (temp_k x.thread.number i) v
  temp_piece i v m u e is =
      temp_behind x.thread.number c.types.typing.exact names running_typed.entry.temps (reverse x.thread.temps) i v m u temps_right hand_is running_typed.waiting (behind_is x.thread.temps i ∙ e) is

  pub temp_not_astray : (i : ℕ) (v : Value) → slice_get x.thread.temps i ≡ Some v → astray (sight k).ground x.thread.number (c.types.typing.exact (temp_k x.thread.number i)) v ≡ 0
  temp_not_astray i v e =
      let all = none_of (λ y. astray_of c.types.typing.exact (sight k).ground y.thread) x (sight k).ground.threads c.types.lead g.among in
      subst (λ j. astray (sight k).ground x.thread.number (c.types.typing.exact (temp_k x.thread.number j)) v ≡ 0) (omega arith)
      (astray_at c.types.typing.exact (sight k).ground x.thread.number (temp_k x.thread.number) 0 i x.thread.temps v (omega (arith, all)) e)
