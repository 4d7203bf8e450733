-- Gifts stay the contents that they were where slots and objects show what they showed, whatever temporary values, phases and instructions of threads are.
use Rattle.std.proofs.Common.{◌≡◌, ℕ, zero, suc, ◌≤◌, ◌==◌, Bool, true, false, List, [], ◌∷◌, Option, Some, None, is_some, option_map, refl, sym, ap, ap₂, subst, ◌∙◌, arith}
use Rattle.std.specs.Prelude.{⊤, slice_get, map}
use Rattle.law_entries_variables.specs.Below.fr_base.declared.name.MutexNo.{MutexNo}
use Rattle.law_entries_variables.specs.Below.fr_base.declared.name.ObjNo.{ObjNo}
use Rattle.law_entries_variables.specs.Below.fr_base.declared.label.Plain.{Plain}
use Rattle.law_entries_variables.specs.Below.fr_base.declared.instruction.Instr.{Instr}
use Rattle.law_entries_variables.specs.Below.fr_base.declared.instruction.Instr.TheVariants as instr
use Rattle.law_entries_variables.specs.Below.fr_base.declared.place.Lval.{Lval}
use Rattle.law_entries_variables.specs.Below.fr_base.Names.{same_plain}
use Rattle.law_entries_variables.specs.Below.heap_partition.Plain.{plain_of}
use Rattle.law_entries_variables.specs.Below.heap_partition.declared.value.Owned.TheVariants as owned
use Rattle.law_entries_variables.specs.Below.thread_state.View.{ThreadState}
use Rattle.law_entries_variables.specs.Below.thread_state.declared.value.Value.{Value}
use Rattle.law_entries_variables.specs.Below.thread_state.declared.value.Value.TheVariants as value
use Rattle.law_entries_variables.specs.Below.server_msgs.declared.message.Message.{Message}
use Rattle.law_entries_variables.specs.Below.server_msgs.declared.message.Message.TheVariants as message
use Rattle.law_entries_variables.specs.Below.server_model.Servers.{Cluster}
use Rattle.law_entries_variables.specs.Below.coloured_heap.Heap.{Place, Lies, Flies}
use Rattle.law_entries_variables.specs.Below.coherent_memory.Names.{tot, one, if_so, same_object}
use Rattle.law_entries_variables.specs.Below.coherent_memory.Things.{Location, at_slot, at_temp, in_cell, Thing, lies, flies, sent, stands, message_things, things_of}
use Rattle.law_entries_variables.specs.Below.coherent_memory.Follow.{Standing, Ground, ground_of, threads_in, thread_at, cells_in, cell_of, value_behind, leads, locate, value_at}
use Rattle.law_entries_variables.specs.Below.coherent_memory.Sight.{sight}
use Rattle.law_entries_variables.specs.Below.coherent_memory.Weights.{is_thread}
use Rattle.law_entries_variables.specs.Below.coherent_memory.Requests.{mutex_of, is_mutex, locked_mutex}
use Rattle.law_entries_variables.specs.Below.coherent_memory.Sharing.{gift_content}
use Rattle.law_entries_variables.specs.Below.coherent_memory.OneHeap.{first_shown, if_in, cell_value, plain_value}
use Rattle.law_entries_variables.specs.Below.coherent_memory.Coherent.{IsSound}
use Rattle.law_entries_variables.specs.Below.law_heap_still.events.Shows.{Frame, ShownThread, frame_of}
use Rattle.law_entries_variables.proofs.Below.law_heap_still.events.Tests.{plains, same_part, threads as thread_test}
use Rattle.law_entries_variables.proofs.Below.law_heap_still.events.Told.{told, ones, same_told, first_told, at_thread, thread_told}
use Rattle.law_entries_variables.proofs.Below.law_heap_still.events.PlainValues.{told_map, plain_leads, plain_mutex, leads_plain, mutex_plain, cell_found, shown_of, slot_from, slot_shown, owned_from, value_shown}
use Rattle.law_entries_variables.proofs.Below.law_heap_still.events.Once.{shown_once}
use Rattle.law_entries_variables.proofs.deliveries.Weighed.{Seen, Bare}
use Rattle.law_entries_variables.proofs.deliveries.Carried.{cluster_less, is_sent}
use Rattle.law_entries_variables.proofs.deliveries.Shown.{if_some, placed_in}
use Rattle.law_entries_variables.proofs.deliveries.Live.{placed_seen}
use Rattle.law_entries_variables.proofs.deliveries.After.{Follows}

-- a thread's number and slots alone
abbrev pub masked : ShownThread → ShownThread
masked y = record { number = y.number; is_over = false; pair = None; pc = 0; temps = []; slots = y.slots; made = 0 }

abbrev pub masked_of : Standing → ShownThread
masked_of x = masked (shown_of x)

slot_masked : (o : Option Standing) (i : ℕ) → slot_from (option_map shown_of o) i ≡ slot_from (option_map masked_of o) i
slot_masked None i = refl
slot_masked (Some x) i = refl

-- places of a thread lead to its slots and to objects
abbrev IsPlace : ℕ → Option Location → Type 0
IsPlace t (Some (at_temp u i)) = ⊥
IsPlace t (Some (at_slot u i)) = u ≡ t
IsPlace t o = ⊤

leads_place : (t : ℕ) (v : Option Value) → IsPlace t (leads t v)
leads_place t None = tt
leads_place t (Some value.Gone) = tt
leads_place t (Some (value.Own (owned.Box p))) = tt
leads_place t (Some (value.Own owned.Nothing)) = tt
leads_place t (Some (value.Own owned.Unit)) = tt
leads_place t (Some (value.Own (owned.Int i))) = tt
leads_place t (Some (value.Own (owned.Mutex m))) = tt
leads_place t (Some (value.Own (owned.Task u))) = tt
leads_place t (Some (value.SharedSlot i)) = refl
leads_place t (Some (value.MutSlot i)) = refl
leads_place t (Some (value.Shared r)) = tt
leads_place t (Some (value.Mut r)) = tt
leads_place t (Some (value.Held m)) = tt

located : (g : Ground) (t slot n : ℕ) → IsPlace t (locate g t slot n)
located g t slot zero = refl
located g t slot (suc n) = leads_place t (value_behind g (locate g t slot n))

-- AN OBJECT IN A MESSAGE

cell_placed : (q : Bool) (g : Plain → ℕ) (v : Plain) (p : Place) → told g (if_in q (Some v)) ≡ told (λ (x : Plain × Place). g x.0) (if_some q (v, p))
cell_placed true g v p = refl
cell_placed false g v p = refl

module _ (o : ObjNo) (g : Plain → ℕ) where
  -- an object by its cells
  abbrev celled : Thing → ℕ
  celled x = told g (cell_value o x)

  -- and by where it is
  abbrev placed : Thing → ℕ
  placed x = told (λ (y : Plain × Place). g y.0) (placed_in o x)

  each_up : (x : Thing) → is_sent x ≡ false → celled x ≤ placed x
  each_up (lies r a c) e = let z = cell_placed (same_object c.object o) g (plain_of c.value) (Lies r) in omega (arith, z)
  each_up (sent r m) e = absurd (cc e)
  each_up (flies w c) e = absurd (cc e)
  each_up _ e = omega arith

  each_down : (x : Thing) → is_sent x ≡ false → placed x ≤ celled x
  each_down (lies r a c) e = let z = cell_placed (same_object c.object o) g (plain_of c.value) (Lies r) in omega (arith, z)
  each_down (sent r m) e = absurd (cc e)
  each_down (flies w c) e = absurd (cc e)
  each_down _ e = omega arith

  message_same : (n : ℕ) (m : Message) → Bare m → tot celled (message_things n m) ≡ tot placed (message_things n m)
  message_same n (message.Moved w c t) b = let z = cell_placed (same_object c.object o) g (plain_of c.value) (Flies n) in omega (arith, z)
  message_same n (message.Start t) b = absurd b
  message_same n (message.Migrate t) b = absurd b
  message_same n (message.Granted m v t) b = omega arith
  message_same n (message.Unlock m v) b = omega arith
  message_same n (message.Joined u v t) b = omega arith
  message_same n (message.Finished u v) b = omega arith
  message_same n _ b = omega arith

  pub cells_placed : (k : Cluster) → tot celled (things_of k) ≡ tot placed (things_of k)
  cells_placed k =
      let up : tot celled (things_of k) ≤ tot placed (things_of k) = cluster_less celled placed each_up (λ n m b. omega (arith, message_same n m b)) (λ n t. omega arith) (λ n t. omega arith) k in
      let down : tot placed (things_of k) ≤ tot celled (things_of k) = cluster_less placed celled each_down (λ n m b. omega (arith, message_same n m b)) (λ n t. omega arith) (λ n t. omega arith) k in
      omega (arith, up, down)

-- SLOTS AND OBJECTS THAT STAY

-- what is shown of the slots of a thread, and of objects
pub record PlacingOf (t : ℕ) (a b : List Thing) : Type 0 where
  pub thread : tot (is_thread t) a ≡ tot (is_thread t) b
  pub slots : (h : ShownThread → ℕ) → tot (at_thread (λ y. h (masked_of y)) t) a ≡ tot (at_thread (λ y. h (masked_of y)) t) b
  pub cells : (o : ObjNo) (g : Plain → ℕ) → tot (λ x. told g (cell_value o x)) a ≡ tot (λ x. told g (cell_value o x)) b

module _ (t : ℕ) (a b : List Thing) (threads : tot (is_thread t) a ≤ 1) (cells : (o : ObjNo) → tot (λ x. told ones (cell_value o x)) a ≤ 1) (alike : PlacingOf t a b) where
  abbrev ga : Ground
  ga = ground_of a

  abbrev gb : Ground
  gb = ground_of b

  thread_same : option_map masked_of (thread_at (threads_in a) t) ≡ option_map masked_of (thread_at (threads_in b) t)
  thread_same =
      let few2 : tot (is_thread t) b ≤ 1 = omega (arith, threads, alike.thread) in
      let oa = thread_at (threads_in a) t in
      let ob = thread_at (threads_in b) t in
      same_told same_part thread_test (option_map masked_of oa) (option_map masked_of ob) (λ h.
      let g : Standing → ℕ = λ y. h (masked_of y) in
      told_map h masked_of oa ∙ sym (thread_told g t a threads) ∙ alike.slots h ∙ thread_told g t b few2 ∙ sym (told_map h masked_of ob))

  cell_same : (o : ObjNo) → first_shown (cell_value o) a ≡ first_shown (cell_value o) b
  cell_same o =
      let few2 : tot (λ x. told ones (cell_value o x)) b ≤ 1 = omega (arith, cells o, alike.cells o ones) in
      same_told same_plain plains (first_shown (cell_value o) a) (first_shown (cell_value o) b) (λ g. sym (first_told (cell_value o) g a (cells o)) ∙ alike.cells o g ∙ first_told (cell_value o) g b few2)

  -- PLACES

  slot_same : (i : ℕ) → option_map plain_value (value_behind ga (Some (at_slot t i))) ≡ option_map plain_value (value_behind gb (Some (at_slot t i)))
  slot_same i =
      let oa = thread_at (threads_in a) t in
      let ob = thread_at (threads_in b) t in
      slot_shown oa i ∙ slot_masked oa i ∙ ap (λ o. slot_from o i) thread_same ∙ sym (slot_masked ob i) ∙ sym (slot_shown ob i)

  behind_same : (o : Option Location) → IsPlace t o → option_map plain_value (value_behind ga o) ≡ option_map plain_value (value_behind gb o)
  behind_same None p = refl
  behind_same (Some (at_temp u i)) p = absurd p
  behind_same (Some (at_slot u i)) p = subst (λ v. option_map plain_value (value_behind ga (Some (at_slot v i))) ≡ option_map plain_value (value_behind gb (Some (at_slot v i)))) (sym p) (slot_same i)
  behind_same (Some (in_cell o)) p = value_shown (cell_of (cells_in a) o) ∙ ap owned_from (cell_found o a ∙ cell_same o ∙ sym (cell_found o b)) ∙ sym (value_shown (cell_of (cells_in b) o))

  place_same : (slot n : ℕ) → locate ga t slot n ≡ locate gb t slot n
  place_same slot zero = refl
  place_same slot (suc n) =
      let at : Option Location = locate ga t slot n in
      leads_plain t (value_behind ga at) ∙ ap (plain_leads t) (behind_same at (located ga t slot n)) ∙ sym (leads_plain t (value_behind gb at)) ∙ ap (λ o. leads t (value_behind gb o)) (place_same slot n)

  -- the mutex at a place is the one that was there
  pub mutex_kept : (w : Lval) → mutex_of (value_at ga t w) ≡ mutex_of (value_at gb t w)
  mutex_kept w =
      let at : Option Location = locate ga t w.slot w.depth in
      mutex_plain (value_behind ga at) ∙ ap plain_mutex (behind_same at (located ga t w.slot w.depth)) ∙ sym (mutex_plain (value_behind gb at)) ∙ ap (λ o. mutex_of (value_behind gb o)) (place_same w.slot w.depth)

-- so a gift of that thread is the content of the mutex that it was
pub gift_placed : (k c : Cluster) → IsSound k → c.code ≡ k.code → (m : MutexNo) (x : Standing) → PlacingOf x.thread.number (things_of k) (things_of c) → gift_content (sight c) m x ≡ gift_content (sight k) m x
gift_placed k c sound code m x alike =
    ap (λ cs. if_so (is_some x.thread.gift) (one (is_mutex m (locked_mutex (sight c) x (slice_get cs x.thread.pc))))) code ∙ ap (λ o. if_so (is_some x.thread.gift) (one (is_mutex m o))) (by (slice_get k.code x.thread.pc))
  where
    by : (i : Option Instr) → locked_mutex (sight c) x i ≡ locked_mutex (sight k) x i
    by (Some (instr.Lock w)) = let once = shown_once k sound in sym (mutex_kept x.thread.number (things_of k) (things_of c) (once.threads x.thread.number) once.cells alike w)
    by _ = refl

-- what is shown of the slots of all threads, and of objects
pub record Placing (a b : List Thing) : Type 0 where
  pub threads : (t : ℕ) → tot (is_thread t) a ≡ tot (is_thread t) b
  pub slots : (h : ShownThread → ℕ) (t : ℕ) → tot (at_thread (λ y. h (masked_of y)) t) a ≡ tot (at_thread (λ y. h (masked_of y)) t) b
  pub cells : (o : ObjNo) (g : Plain → ℕ) → tot (λ x. told g (cell_value o x)) a ≡ tot (λ x. told g (cell_value o x)) b

-- so every gift is the content that it was
pub gifts_placed : (k c : Cluster) → IsSound k → c.code ≡ k.code → Placing (things_of k) (things_of c) → (m : MutexNo) (x : Standing) → gift_content (sight c) m x ≡ gift_content (sight k) m x
gifts_placed k c sound code alike m x = gift_placed k c sound code m x (record { thread = alike.threads x.thread.number; slots = λ h. alike.slots h x.thread.number; cells = alike.cells })

pub numbered_seen : (t : ℕ) → Seen (is_thread t)
numbered_seen t = record { held = λ p v. refl; shared = λ l q. refl; lent = λ l q. refl; flown = λ v c. refl; used = λ r v. refl; loose = λ u i o. refl; counted = λ r b q s o e. refl; unused = λ i d u. refl }

pub slots_seen : (h : ShownThread → ℕ) (t : ℕ) → Seen (at_thread (λ y. h (masked_of y)) t)
slots_seen h t = record { held = λ p v. refl; shared = λ l q. refl; lent = λ l q. refl; flown = λ v c. refl; used = λ r v. refl; loose = λ u i o. refl; counted = λ r b q s o e. refl; unused = λ i d u. refl }

-- what is shown of the slots of a thread, and of objects, is the same in what went and in what came
pub record Staying (t : ℕ) (olds news : List Thing) : Type 0 where
  pub thread : tot (is_thread t) olds ≡ tot (is_thread t) news
  pub slots : (h : ShownThread → ℕ) → tot (at_thread (λ y. h (masked_of y)) t) olds ≡ tot (at_thread (λ y. h (masked_of y)) t) news
  pub objects : (o : ObjNo) (w : Plain × Place → ℕ) → tot (λ v. told w (placed_in o v)) olds ≡ tot (λ v. told w (placed_in o v)) news

-- so its gifts stay the contents that they were
pub gifts_by : (k c : Cluster) → IsSound k → (olds news : List Thing) → Follows k c olds news → (m : MutexNo) (x : Standing) → Staying x.thread.number olds news → gift_content (sight c) m x ≡ gift_content (sight k) m x
gifts_by k c sound olds news f m x u =
    let t = x.thread.number in
    gift_placed k c sound f.code m x (record {
      thread = omega (arith, f.things (is_thread t) (numbered_seen t), u.thread);
      slots = λ h. omega (arith, f.things (at_thread (λ v. h (masked_of v)) t) (slots_seen h t), u.slots h);
      cells = λ o g. let w : Plain × Place → ℕ = (λ v. g v.0) in omega (arith, cells_placed o g k, cells_placed o g c, f.things (λ v. told w (placed_in o v)) (placed_seen o w), u.objects o w);
    })

-- a thread changes but for its number and what its slots show, and things come that are no threads and no objects
pub gifts_shown : (k c : Cluster) → IsSound k → (r : ℕ) (p q : Bool) (y z : ThreadState) (more : List Thing) → ((t : ℕ) → tot (is_thread t) more ≡ 0) → ((h : ShownThread → ℕ) (t : ℕ) → tot (at_thread (λ v. h (masked_of v)) t) more ≡ 0)
    → ((o : ObjNo) (w : Plain × Place → ℕ) → tot (λ v. told w (placed_in o v)) more ≡ 0) → z.number ≡ y.number → map frame_of z.slots ≡ map frame_of y.slots → Follows k c (stands r p y ∷ []) (stands r q z ∷ more)
    → (m : MutexNo) (x : Standing) → gift_content (sight c) m x ≡ gift_content (sight k) m x
gifts_shown k c sound r p q y z more no_threads no_slots no_objects named slots f m x =
    let t = x.thread.number in
    gifts_by k c sound (stands r p y ∷ []) (stands r q z ∷ more) f m x (record {
      thread = let same : one (z.number == t) ≡ one (y.number == t) = ap (λ i. one (i == t)) named in omega (arith, same, no_threads t);
      slots = λ h.
          let same : if_so (z.number == t) (h (of z.number (map frame_of z.slots))) ≡ if_so (y.number == t) (h (of y.number (map frame_of y.slots))) = ap₂ (λ i l. if_so (i == t) (h (of i l))) named slots in
          omega (arith, same, no_slots h t);
      objects = λ o w. let none = no_objects o w in omega (arith, none);
    })
  where
    of : ℕ → List Frame → ShownThread
    of i l = record { number = i; is_over = false; pair = None; pc = 0; temps = []; slots = l; made = 0 }

-- the same where its slots stay
pub gifts_stay : (k c : Cluster) → IsSound k → (r : ℕ) (p q : Bool) (y z : ThreadState) (more : List Thing) → ((t : ℕ) → tot (is_thread t) more ≡ 0) → ((h : ShownThread → ℕ) (t : ℕ) → tot (at_thread (λ v. h (masked_of v)) t) more ≡ 0)
    → ((o : ObjNo) (w : Plain × Place → ℕ) → tot (λ v. told w (placed_in o v)) more ≡ 0) → z.number ≡ y.number → z.slots ≡ y.slots → Follows k c (stands r p y ∷ []) (stands r q z ∷ more)
    → (m : MutexNo) (x : Standing) → gift_content (sight c) m x ≡ gift_content (sight k) m x
gifts_stay k c sound r p q y z more no_threads no_slots no_objects named slots f = gifts_shown k c sound r p q y z more no_threads no_slots no_objects named (ap (map frame_of) slots) f
