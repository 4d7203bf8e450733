-- The types of objects that a typed one heap gives: each object has the type that stands under the boxes of the key that owns it.
use Rattle.std.proofs.Common.{◌≡◌, ◌⊎◌, inl, inr, ℕ, zero, suc, ◌+◌, ◌<◌, ◌==◌, Bool, true, false, if◌then◌else◌, List, [], ◌∷◌, ◌++◌, length, Option, Some, None, refl, sym, ap, subst, ◌∙◌, arith}
use Rattle.law_heap_still.specs.Below.fr_base.declared.name.ObjNo.{ObjNo}
use Rattle.law_heap_still.specs.Below.fr_base.declared.name.MutexNo.{MutexNo}
use Rattle.law_heap_still.specs.Below.server_model.Servers.{Cluster}
use Rattle.law_heap_still.specs.Below.fr_typing.Kinds.{Owned as OwnedType, unit, int, box, mutex, task, Kind, Piece}
use Rattle.law_heap_still.proofs.Below.fr_typing.PlaceLemmas.{eq_cases}
use Rattle.law_heap_still.specs.Below.fr_store.Keys.{Key, slot_k, temp_k, content_k, result_k, hand_k}
use Rattle.law_heap_still.specs.Below.fr_store.Store.{Location as StoreLocation, at_key, at_object, Store, then_location, box_hop, below_location, below_key, value_at}
use Rattle.law_heap_still.specs.Below.fr_store.Tidy.{OneOwner}
use Rattle.law_heap_still.proofs.Below.fr_store.Chains.{then_some, inside_some, unique}
use Rattle.law_heap_still.proofs.Below.fr_store.Keys.{object_cases}
use Rattle.law_heap_still.specs.Below.fr_sound.States.{owned_part, owned_kind, part_at}
use Rattle.law_heap_still.specs.Below.fr_code.CodeTypes.{Entry}
use Rattle.law_heap_still.specs.Below.coherent_memory.Names.{Among, same_object}
use Rattle.law_heap_still.specs.Below.coherent_memory.Follow.{Standing, thread_at}
use Rattle.law_heap_still.specs.Below.coherent_memory.Sight.{sight}
use Rattle.law_heap_still.specs.Below.coherent_memory.OneHeap.{or_else, object_n, mutex_n, task_n, Owner, a_thread, inside, outside, owner_of}
use Rattle.law_heap_still.specs.Below.coherent_memory.Things.{Thing}
use Rattle.law_heap_still.proofs.Below.law_words_paths.paths.Sole.{some_is}
use Rattle.law_heap_still.proofs.Below.law_words_paths.paths.Shown.{at_behind}
use Rattle.law_types_still.proofs.heap.Following.{HasHeap, heap_of}

-- BELOW A LOCATION

-- the type that an object has as what stands under boxes of a location of that type
abbrev pub next_type : Option StoreLocation → OwnedType → ObjNo → (StoreLocation → Option OwnedType) → Option OwnedType
next_type None a o go = None
next_type (Some (at_key k)) a o go = None
next_type (Some (at_object q)) a o go = if same_object q o then Some a else go (at_object q)

abbrev pub seek : Store → OwnedType → ObjNo → StoreLocation → Option OwnedType
seek s unit o l = None
seek s int o l = None
seek s (mutex a) o l = None
seek s (task a) o l = None
seek s (box a) o l = next_type (box_hop s l) a o (seek s a o)

-- one box down first, instead of last
below_first : (s : Store) (l m : StoreLocation) (n : ℕ) → box_hop s l ≡ Some m → below_location s l (suc n) ≡ below_location s m n
below_first s l m zero e = e
below_first s l m (suc n) e = ap (λ o. then_location o (box_hop s)) (below_first s l m n e)

same_is : (p o : ObjNo) → same_object p o ≡ true → p ≡ o
same_is p o = object_cases (λ b. b ≡ true → p ≡ o) p o (λ e f. e) (λ ne f. absurd cc)

pub itself : (o : ObjNo) → same_object o o ≡ true
itself o = object_cases (λ b. b ≡ true) o o (λ e. refl) (λ ne. absurd (ne refl))

-- an object that has a type so is that many boxes below
seek_leads : (s : Store) (a : OwnedType) (o : ObjNo) (l : StoreLocation) (b : OwnedType) → seek s a o l ≡ Some b → (n : ℕ) × (below_location s l (suc n) ≡ Some (at_object o))
seek_leads s unit o l b e = absurd cc
seek_leads s int o l b e = absurd cc
seek_leads s (mutex a) o l b e = absurd cc
seek_leads s (task a) o l b e = absurd cc
seek_leads s (box a) o l b e = by (λ m. seek_leads s a o m b) (box_hop s l) refl e
  where
    under : ((m : StoreLocation) → seek s a o m ≡ Some b → (n : ℕ) × (below_location s m (suc n) ≡ Some (at_object o))) → (q : ObjNo) → box_hop s l ≡ Some (at_object q) → (t : Bool) → same_object q o ≡ t → (if t then Some a else seek s a o (at_object q)) ≡ Some b
        → (n : ℕ) × (below_location s l (suc n) ≡ Some (at_object o))
    under go q h true t f = (0, h ∙ ap (λ i. Some (at_object i)) (same_is q o t))
    under go q h false t f = let r = go (at_object q) f in (suc r.0, below_first s l (at_object q) (suc r.0) h ∙ r.1)

    by : ((m : StoreLocation) → seek s a o m ≡ Some b → (n : ℕ) × (below_location s m (suc n) ≡ Some (at_object o))) → (h : Option StoreLocation) → box_hop s l ≡ h → next_type h a o (seek s a o) ≡ Some b → (n : ℕ) × (below_location s l (suc n) ≡ Some (at_object o))
    by go None h f = absurd cc
    by go (Some (at_key k)) h f = absurd cc
    by go (Some (at_object q)) h f = under go q h (same_object q o) refl f

-- the type so many boxes down
abbrev pub under_boxes : ℕ → OwnedType → Option OwnedType
under_boxes zero a = Some a
under_boxes (suc n) (box a) = under_boxes n a
under_boxes (suc n) a = None

-- so many boxes more
below_more : (s : Store) (k : Key) (n : ℕ) (l m : StoreLocation) (d : ℕ) → below_key s k n ≡ Some l → below_location s l d ≡ Some m → below_key s k (n + d) ≡ Some m
below_more s k n l m zero e f = let z : n ≡ n + 0 = omega arith in let q : l ≡ m = some_is f in subst (λ i. below_key s k i ≡ Some m) z (e ∙ ap Some q)
below_more s k n l m (suc d) e f =
    let y = then_some (below_location s l d) (box_hop s) m f in
    let deeper = below_more s k n l y.0 d e y.1 in
    let z : suc (n + d) ≡ n + suc d = omega arith in
    subst (λ i. below_key s k i ≡ Some m) z (ap (λ o. then_location o (box_hop s)) deeper ∙ y.2)

pub none_below : (s : Store) (l : StoreLocation) (n : ℕ) → box_hop s l ≡ None → below_location s l (suc n) ≡ None
none_below s l zero e = e
none_below s l (suc n) e = ap (λ o. then_location o (box_hop s)) (none_below s l n e)

-- the type of an object so many boxes below a location that stands in the chain of a key
pub seek_finds : (s : Store) → OneOwner s → (h : Key) (a : ℕ) (l : StoreLocation) (o : ObjNo) (n : ℕ) (q b : OwnedType) → below_key s h a ≡ Some l → below_location s l (suc n) ≡ Some (at_object o) → under_boxes (suc n) q ≡ Some b → seek s q o l ≡ Some b
seek_finds s w h a l o n unit b e f u = absurd cc
seek_finds s w h a l o n int b e f u = absurd cc
seek_finds s w h a l o n (mutex q) b e f u = absurd cc
seek_finds s w h a l o n (task q) b e f u = absurd cc
seek_finds s w h a l o zero (box q) b e f u = ap (λ r. next_type r q o (seek s q o)) f ∙ ap (λ t. if t then Some q else seek s q o (at_object o)) (itself o) ∙ u
seek_finds s w h a l o (suc n) (box q) b e f u = by (λ m down rest. seek_finds s w h (suc a) m o n q b down rest u) (box_hop s l) refl
  where
    found : (p : ObjNo) → box_hop s l ≡ Some (at_object p) → (below_key s h (suc a) ≡ Some (at_object p) → below_location s (at_object p) (suc n) ≡ Some (at_object o) → seek s q o (at_object p) ≡ Some b) → (t : Bool) → same_object p o ≡ t → (if t then Some q else seek s q o (at_object p)) ≡ Some b
    found p g go t y =
        let down : below_key s h (suc a) ≡ Some (at_object p) = ap (λ r. then_location r (box_hop s)) e ∙ g in
        let rest : below_location s (at_object p) (suc n) ≡ Some (at_object o) = sym (below_first s l (at_object p) (suc n) g) ∙ f in
        either t y down rest
      where
        either : (t : Bool) → same_object p o ≡ t → below_key s h (suc a) ≡ Some (at_object p) → below_location s (at_object p) (suc n) ≡ Some (at_object o) → (if t then Some q else seek s q o (at_object p)) ≡ Some b
        either true y down rest =
            let far = below_more s h (suc a) (at_object p) (at_object o) (suc n) down rest in
            let near : below_key s h (suc a) ≡ Some (at_object o) = down ∙ ap (λ i. Some (at_object i)) (same_is p o y) in
            let same = (unique s w h h (suc a + suc n) (suc a) (at_object o) far near).1 in
            absurd (omega (arith, same))
        either false y down rest = go down rest

    by : ((m : StoreLocation) → below_key s h (suc a) ≡ Some m → below_location s m (suc n) ≡ Some (at_object o) → seek s q o m ≡ Some b) → (r : Option StoreLocation) → box_hop s l ≡ r → next_type r q o (seek s q o) ≡ Some b
    by go None g = let z : None ≡ Some (at_object o) = sym (none_below s l (suc n) g) ∙ f in absurd cc
    by go (Some (at_key j)) g = let y = inside_some (value_at s l) (at_key j) g in let z : at_key j ≡ at_object y.0 = y.2 in absurd cc
    by go (Some (at_object p)) g = found p g (go (at_object p)) (same_object p o) refl

-- KEYS

module _ (k : Cluster) (c : HasHeap k) where
  abbrev st : Store
  st = heap_of k c

  abbrev at : ℕ → Option Standing
  at t = thread_at (sight k).ground.threads t

  abbrev pub entry_in : Option Standing → Option Entry
  entry_in None = None
  entry_in (Some x) = c.table x.thread.pc

  abbrev pub some_part : Option Piece → Option OwnedType
  some_part None = None
  some_part (Some p) = owned_part p

  abbrev pub some_kind : Option Kind → Option OwnedType
  some_kind None = None
  some_kind (Some q) = owned_kind q

  abbrev pub slot_type : Option Entry → ℕ → Option OwnedType
  slot_type None i = None
  slot_type (Some e) i = some_part (part_at e.env i)

  abbrev pub temp_type : Option Entry → ℕ → Option OwnedType
  temp_type None i = None
  temp_type (Some e) i = some_kind (at_behind e.temps i)

  -- the owned type of a key's part, where it has one; a content has that of its mutex, and a result that of its thread
  abbrev pub key_type : Key → Option OwnedType
  key_type (slot_k t i) = slot_type (entry_in (at t)) i
  key_type (temp_k t i) = temp_type (entry_in (at t)) i
  key_type (content_k h n) = Some (c.typing.gives.mutex (record { home = h; count = n }))
  key_type (result_k t) = Some (c.typing.gives.result t)
  key_type (hand_k t) = None

  abbrev pub seek_some : Option OwnedType → ObjNo → StoreLocation → Option OwnedType
  seek_some None o l = None
  seek_some (Some a) o l = seek st a o l

  abbrev pub pick : List Key → ObjNo → Option OwnedType
  pick [] o = None
  pick (h ∷ hs) o = or_else (seek_some (key_type h) o (at_key h)) (pick hs o)

  pub picked : (h : Key) (o : ObjNo) (b : OwnedType) (n : ℕ) → below_key st h (suc n) ≡ Some (at_object o) → seek_some (key_type h) o (at_key h) ≡ Some b → (hs : List Key) → Among h hs → pick hs o ≡ Some b
  picked h o b n below is [] a = absurd a
  picked h o b n below is (j ∷ hs) a = by (seek_some (key_type j) o (at_key j)) refl (key_type j) refl a (picked h o b n below is hs)
    where
      leads : (t : Option OwnedType) (d : OwnedType) → seek_some t o (at_key j) ≡ Some d → (m : ℕ) × (below_key st j (suc m) ≡ Some (at_object o))
      leads None d e = absurd cc
      leads (Some a) d e = seek_leads st a o (at_key j) d e

      by : (r : Option OwnedType) → seek_some (key_type j) o (at_key j) ≡ r → (t : Option OwnedType) → key_type j ≡ t → (j ≡ h) ⊎ Among h hs → (Among h hs → pick hs o ≡ Some b) → or_else r (pick hs o) ≡ Some b
      by (Some d) e t f y go =
          let m = leads (key_type j) d e in
          let same = (unique st c.state.typed.owner j h (suc m.0) (suc n) (at_object o) m.1 below).0 in
          sym e ∙ ap (λ i. seek_some (key_type i) o (at_key i)) same ∙ is
      by None e t f (inl y) go = let z : None ≡ Some b = sym e ∙ ap (λ i. seek_some (key_type i) o (at_key i)) y ∙ is in absurd cc
      by None e t f (inr y) go = go y

  -- the keys of all that stands in threads
  abbrev keys_up : (ℕ → Key) → ℕ → List Key
  keys_up key zero = []
  keys_up key (suc n) = key n ∷ keys_up key n

  abbrev keys_of : Standing → List Key
  keys_of x = keys_up (slot_k x.thread.number) (length x.thread.slots) ++ keys_up (temp_k x.thread.number) (length x.thread.temps)

  abbrev all_keys : List Standing → List Key
  all_keys [] = []
  all_keys (x ∷ xs) = keys_of x ++ all_keys xs

  among_up : (key : ℕ → Key) (i n : ℕ) → i < n → Among (key i) (keys_up key n)
  among_up key i zero l = absurd (omega (arith, l))
  among_up key i (suc n) l = eq_cases (λ b. b ≡ (n == i) → Among (key i) (key n ∷ keys_up key n)) n i (λ e f. inl (ap key e)) (λ ne f. inr (among_up key i n (omega (arith, l, ne)))) refl

  among_left : (h : Key) (xs ys : List Key) → Among h xs → Among h (xs ++ ys)
  among_left h [] ys a = absurd a
  among_left h (x ∷ xs) ys (inl e) = inl e
  among_left h (x ∷ xs) ys (inr a) = inr (among_left h xs ys a)

  among_right : (h : Key) (xs ys : List Key) → Among h ys → Among h (xs ++ ys)
  among_right h [] ys a = a
  among_right h (x ∷ xs) ys a = inr (among_right h xs ys a)

  among_thread_keys : (h : Key) (x : Standing) (xs : List Standing) → Among x xs → Among h (keys_of x) → Among h (all_keys xs)
  among_thread_keys h x [] a m = absurd a
  among_thread_keys h x (y ∷ xs) (inl e) m = among_left h (keys_of y) (all_keys xs) (subst (λ z. Among h (keys_of z)) (sym e) m)
  among_thread_keys h x (y ∷ xs) (inr a) m = among_right h (keys_of y) (all_keys xs) (among_thread_keys h x xs a m)

  -- the keys of contents and results, wherever they stand
  abbrev owner_keys : Owner → List Key
  owner_keys (inside (mutex_n m)) = content_k m.home m.count ∷ []
  owner_keys (inside (task_n t)) = result_k t ∷ []
  owner_keys (inside (object_n o)) = []
  owner_keys a_thread = []
  owner_keys outside = []

  abbrev things_keys : List Thing → List Key
  things_keys [] = []
  things_keys (x ∷ xs) = owner_keys (owner_of (sight k) x) ++ things_keys xs

  abbrev pub keys : List Key
  keys = all_keys (sight k).ground.threads ++ things_keys (sight k).things

  among_things : (h : Key) (x : Thing) (xs : List Thing) → Among x xs → Among h (owner_keys (owner_of (sight k) x)) → Among h (things_keys xs)
  among_things h x [] a m = absurd a
  among_things h x (y ∷ xs) (inl e) m = among_left h (owner_keys (owner_of (sight k) y)) (things_keys xs) (subst (λ z. Among h (owner_keys (owner_of (sight k) z))) (sym e) m)
  among_things h x (y ∷ xs) (inr a) m = among_right h (owner_keys (owner_of (sight k) y)) (things_keys xs) (among_things h x xs a m)

  -- the key of the content of a mutex, where a thing has it
  pub content_among : (x : Thing) (m : MutexNo) → Among x (sight k).things → owner_of (sight k) x ≡ inside (mutex_n m) → Among (content_k m.home m.count) keys
  content_among x m a e =
      among_right (content_k m.home m.count) (all_keys (sight k).ground.threads) (things_keys (sight k).things)
      (among_things (content_k m.home m.count) x (sight k).things a (subst (λ o. Among (content_k m.home m.count) (owner_keys o)) (sym e) (inl refl)))

  -- and of the result of a thread
  pub result_among : (x : Thing) (t : ℕ) → Among x (sight k).things → owner_of (sight k) x ≡ inside (task_n t) → Among (result_k t) keys
  result_among x t a e =
      among_right (result_k t) (all_keys (sight k).ground.threads) (things_keys (sight k).things)
      (among_things (result_k t) x (sight k).things a (subst (λ o. Among (result_k t) (owner_keys o)) (sym e) (inl refl)))

  pub slot_among : (x : Standing) (i : ℕ) → Among x (sight k).ground.threads → i < length x.thread.slots → Among (slot_k x.thread.number i) keys
  slot_among x i a l =
      among_left (slot_k x.thread.number i) (all_keys (sight k).ground.threads) (things_keys (sight k).things)
      (among_thread_keys (slot_k x.thread.number i) x (sight k).ground.threads a
      (among_left (slot_k x.thread.number i) (keys_up (slot_k x.thread.number) (length x.thread.slots)) (keys_up (temp_k x.thread.number) (length x.thread.temps)) (among_up (slot_k x.thread.number) i (length x.thread.slots) l)))

  pub temp_among : (x : Standing) (i : ℕ) → Among x (sight k).ground.threads → i < length x.thread.temps → Among (temp_k x.thread.number i) keys
  temp_among x i a l =
      among_left (temp_k x.thread.number i) (all_keys (sight k).ground.threads) (things_keys (sight k).things)
      (among_thread_keys (temp_k x.thread.number i) x (sight k).ground.threads a
      (among_right (temp_k x.thread.number i) (keys_up (slot_k x.thread.number) (length x.thread.slots)) (keys_up (temp_k x.thread.number) (length x.thread.temps)) (among_up (temp_k x.thread.number) i (length x.thread.temps) l)))

  abbrev or_unit : Option OwnedType → OwnedType
  or_unit None = unit
  or_unit (Some a) = a

  -- each object's type
  pub object_type : ObjNo → OwnedType
  object_type o = or_unit (pick keys o)

  -- it is what stands so many boxes below a key of a thread
  pub object_is : (h : Key) (o : ObjNo) (b : OwnedType) (n : ℕ) → Among h keys → below_key st h (suc n) ≡ Some (at_object o) → seek_some (key_type h) o (at_key h) ≡ Some b → object_type o ≡ b
  unfolding object_type
  object_is h o b n a below is = ap or_unit (picked h o b n below is keys a)
