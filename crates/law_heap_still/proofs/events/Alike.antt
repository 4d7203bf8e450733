-- Clusters whose things show alike stand for the same one heap, where each object, content and result is shown once and no two threads have one number.
use Rattle.std.proofs.Common.{◌≡◌, ℕ, zero, ◌<◌, suc, ◌+◌, ◌≤◌, ◌==◌, ◌&&◌, ◌||◌, not, Bool, true, false, if◌then◌else◌, List, [], ◌∷◌, length, Option, Some, None, option_map, map, refl, sym, ap, ap₂, subst, ◌∙◌, arith}
use Rattle.std.specs.Bool.{⊤}
use Rattle.law_counts_sums.proofs.Below.fr_store.Keys.{object_cases}
use Rattle.std.specs.Prelude.{◌%◌, ◌^◌, slice_get, nat_le}
use Rattle.law_counts_sums.specs.Below.fr_base.declared.name.MutexNo.{MutexNo}
use Rattle.law_counts_sums.specs.Below.fr_base.declared.name.ObjNo.{ObjNo}
use Rattle.law_counts_sums.specs.Below.fr_base.declared.label.Plain.{Plain}
use Rattle.law_counts_sums.specs.Below.fr_base.declared.label.Plain.TheVariants as plain
use Rattle.law_counts_sums.specs.Below.fr_base.declared.instruction.Instr.{Instr}
use Rattle.law_counts_sums.specs.Below.fr_base.declared.instruction.Instr.TheVariants as instr
use Rattle.law_counts_sums.specs.Below.fr_base.declared.instruction.Operand.{Operand}
use Rattle.law_counts_sums.specs.Below.fr_base.declared.place.Lval.{Lval}
use Rattle.law_counts_sums.specs.Below.fr_base.Names.{same_plain}
use Rattle.law_counts_sums.proofs.Below.fr_typing.PlaceLemmas.{eq_cases}
use Rattle.law_counts_sums.specs.Below.fr_plain.PlainState.{SameState}
use Rattle.law_counts_sums.specs.Below.fr_code.Machine.{CodeRunning}
use Rattle.law_counts_sums.specs.Below.heap_partition.Plain.{plain_of}
use Rattle.law_counts_sums.specs.Below.heap_partition.declared.value.Owned.{Owned}
use Rattle.law_counts_sums.specs.Below.thread_state.View.{is_over}
use Rattle.law_counts_sums.specs.Below.join_home.Tasks.{TaskState, going, let_go, kept, asked, in_pair}
use Rattle.law_counts_sums.specs.Below.server_model.Servers.{Cluster}
use Rattle.law_counts_sums.specs.Below.coherent_memory.Names.{tot, one, other, if_so, some, same_object, same_mutex}
use Rattle.law_counts_sums.specs.Below.coherent_memory.Things.{Location, at_slot, at_temp, in_cell, Spot, in_slot, in_temp, as_gift, as_content, as_result, in_hand, Thing, holds, lies, flies, stands, noted, things_of}
use Rattle.law_counts_sums.specs.Below.coherent_memory.Follow.{Standing, threads_in, thread_at, cells_in, cell_of, value_in, value_behind, leads, locate, value_at}
use Rattle.law_counts_sums.specs.Below.coherent_memory.Sight.{Sight, sight, with_things}
use Rattle.law_counts_sums.specs.Below.coherent_memory.Paths.{popped, task_in}
use Rattle.law_counts_sums.specs.Below.coherent_memory.Walking.{instr_of}
use Rattle.law_counts_sums.specs.Below.coherent_memory.Requests.{home_of, mutex_of}
use Rattle.law_counts_sums.specs.Below.coherent_memory.Sharing.{got_phase, has_ended}
use Rattle.law_counts_sums.specs.Below.coherent_memory.Naming.{started_at, made_at}
use Rattle.law_counts_sums.specs.Below.coherent_memory.Weights.{is_thread}
use Rattle.law_counts_sums.specs.Below.coherent_memory.OneHeap.{Node, object_n, mutex_n, task_n, Owner, inside, outside, content_owner, result_owner, gift_owner, gift_owner_of, spot_owner, owner_of, names, owner_in, named_in, any_named, in_state_by, is_in_state, if_in, cell_value, or_else, first_shown, object_value, is_content, content_value, share_in, if_there, plain_value, pair_note, pair_over, is_branch, branch_result, is_result, result_of, ended_with, going_on, running_at, life_of, life_at, made_of, pair_of, is_given_thread, is_given_mutex, if_given, one_heap, state_of}
use Rattle.law_counts_sums.proofs.Below.coherent_memory.Names.{if_not, same_number, same_mutexes}
use Rattle.law_heap_still.specs.events.Shows.{plain_frame, ShownThread, Sign, nothing, a_value, an_object, a_thread as a_shown_thread, a_branch, a_count, note_sign, sign_of, gift_spot_at, gift_spot_of, gift_spot, counted_at, is_named, held_branch, is_held, Counts, CountAlike, ShowAlike}
use Rattle.law_heap_still.proofs.events.Tests.{plains, same_part, threads as thread_test}
use Rattle.law_heap_still.proofs.events.Rounds.{owner_same, named_alike, enough}
use Rattle.law_heap_still.proofs.events.Told.{at_most, tot_same, tot_but, told, ones, same_told, first_told, at_thread, thread_told, some_or}
use Rattle.law_counts_sums.specs.Below.fr_plain.MachineThreads.{loose, owing}
use Rattle.law_heap_still.proofs.events.PlainValues.{told_map, told_if, one_so, unnoted, plain_owns, owns_plain, unit_owns, plain_leads, plain_mutex, plain_task, leads_plain, mutex_plain, task_plain, popped_plain, pop_plain, cell_found, shown_of, all_framed, slot_from, temp_from, slot_shown, temp_shown, owned_from, value_shown, got_of, got_is, shown_running, running_shown}
use Rattle.law_heap_still.proofs.events.Counting.{shown_result, gifted, stray, no_stray, by_gift_spot, spot_owned, gift_owned, is_content_at, is_result_at, gift_is_content, gift_is_result, no_values, unnamed_out, none_some, got_at, got_held, held_branches, no_got, result_none, result_shown}

-- what is shown of each object, thread, content and result is shown once
pub record Once (s : Sight) : Type 0 where
  pub cells : (o : ObjNo) → tot (λ x. told ones (cell_value o x)) s.things ≤ 1
  pub threads : (t : ℕ) → tot (is_thread t) s.things ≤ 1
  pub contents : (m : MutexNo) → tot (λ x. told ones (content_value s m x)) s.things ≤ 1
  -- a result, in whatever place, where its thread has ended
  pub ends : (t : ℕ) → tot (λ x. told ones (shown_result s t x)) s.things ≤ tot (has_ended t) s.things

-- an object that a place passes is seen
abbrev pub SeenAt : (ObjNo → Bool) → Option Location → Type 0
SeenAt seen (Some (in_cell o)) = seen o ≡ true
SeenAt seen l = ⊤

-- so is each one that the place of a lock passes
abbrev pub LocksSeeIn : (ObjNo → Bool) → Sight → Type 0
LocksSeeIn seen s =
    (t : ℕ) (x : Standing) (w : Lval) → thread_at s.ground.threads t ≡ Some x → instr_of s x ≡ Some (instr.Lock w) → (n : ℕ) → n ≤ w.depth → SeenAt seen (locate s.ground x.thread.number w.slot n)

abbrev pub LocksSee : (ObjNo → Bool) → Cluster → Type 0
LocksSee seen k = LocksSeeIn seen (sight k)

-- a weight of what counts and of objects that are seen
abbrev pub Heeds : (ObjNo → Bool) → Sight → (Sign → ℕ) → Type 0
Heeds seen s w = Counts s w × ((o : ObjNo) (v : Plain) → seen o ≡ false → w (an_object o v) ≡ 0)

abbrev pub HeedAlike : (ObjNo → Bool) → Sight → List Thing → List Thing → Type 0
HeedAlike seen s a b = (w : Sign → ℕ) → w nothing ≡ 0 → Heeds seen s w → tot (λ x. w (sign_of x)) a ≡ tot (λ x. w (sign_of x)) b

-- where what something names is seen, and no gift is without its thread; of things in whatever order
module _ (k c : Cluster) (a b : List Thing) (code : c.code ≡ k.code) (once : Once (with_things k a)) (seen : ObjNo → Bool) (covers : (o : ObjNo) → seen o ≡ false → is_named (with_things k a) (object_n o) ≡ false) (paths : LocksSeeIn seen (with_things k a))
    (alike : HeedAlike seen (with_things k a) a b) (given : tot (stray (with_things k a)) a ≡ 0) (given2 : ((t : ℕ) → tot (is_thread t) b ≤ 1) → tot (stray (with_things c b)) b ≡ 0) where
  abbrev s : Sight
  s = with_things k a

  abbrev s2 : Sight
  s2 = with_things c b

  -- a weight of each side that is one of what is shown
  carried : (w : Sign → ℕ) → w nothing ≡ 0 → Heeds seen s w → (f f2 : Thing → ℕ) → ((x : Thing) → f x ≡ w (sign_of x)) → ((x : Thing) → f2 x ≡ w (sign_of x)) → tot f a ≡ tot f2 b
  carried w z n f f2 e e2 = tot_same f (λ x. w (sign_of x)) e a ∙ alike w z n ∙ sym (tot_same f2 (λ x. w (sign_of x)) e2 b)

  -- what is shown first, where it is shown once
  first_by : (f f2 : Thing → Option Plain) → ((g : Plain → ℕ) → tot (λ x. told g (f x)) a ≡ tot (λ x. told g (f2 x)) b) → tot (λ x. told ones (f x)) a ≤ 1 → first_shown f a ≡ first_shown f2 b
  first_by f f2 e few =
      let few2 : tot (λ x. told ones (f2 x)) b ≤ 1 = omega (arith, few, e ones) in
      same_told same_plain plains (first_shown f a) (first_shown f2 b) (λ g. sym (first_told f g a few) ∙ e g ∙ first_told f2 g b few2)

  first_same : (f f2 : Thing → Option Plain) (w : (Plain → ℕ) → Sign → ℕ) → ((g : Plain → ℕ) → w g nothing ≡ 0) → ((g : Plain → ℕ) → Heeds seen s (w g)) → ((g : Plain → ℕ) (x : Thing) → told g (f x) ≡ w g (sign_of x))
      → ((g : Plain → ℕ) (x : Thing) → told g (f2 x) ≡ w g (sign_of x)) → tot (λ x. told ones (f x)) a ≤ 1 → first_shown f a ≡ first_shown f2 b
  first_same f f2 w z n e e2 few = first_by f f2 (λ g. carried (w g) (z g) (n g) (λ x. told g (f x)) (λ x. told g (f2 x)) (e g) (e2 g)) few

  -- THREADS

  abbrev thread_weight : (ShownThread → ℕ) → ℕ → Sign → ℕ
  thread_weight h t (a_shown_thread y q) = if_so (y.number == t) (h y)
  thread_weight h t x = 0

  thread_is : (h : ShownThread → ℕ) (t : ℕ) (x : Thing) → at_thread (λ y. h (shown_of y)) t x ≡ thread_weight h t (sign_of x)
  thread_is h t (noted r x) = unnoted (thread_weight h t) refl (λ u d. refl) x.thread x.state
  thread_is h t _ = refl

  number_is : (t : ℕ) (x : Thing) → is_thread t x ≡ thread_weight ones t (sign_of x)
  number_is t (stands r p x) = one_so (x.number == t)
  number_is t (noted r x) = unnoted (thread_weight ones t) refl (λ u d. refl) x.thread x.state
  number_is t _ = refl

  no_thread_value : (h : ShownThread → ℕ) (t : ℕ) → Heeds seen s (thread_weight h t)
  no_thread_value h t = (no_values s (thread_weight h t) (λ p v. refl) (λ u d. refl) (λ y. refl), λ o v e. refl)

  numbers_differ : (t : ℕ) → tot (is_thread t) b ≤ 1
  numbers_differ t = omega (arith, once.threads t, carried (thread_weight ones t) refl (no_thread_value ones t) (is_thread t) (is_thread t) (number_is t) (number_is t))

  thread_same : (t : ℕ) → option_map shown_of (thread_at (threads_in a) t) ≡ option_map shown_of (thread_at (threads_in b) t)
  thread_same t =
      let few2 = numbers_differ t in
      let oa = thread_at (threads_in a) t in
      let ob = thread_at (threads_in b) t in
      same_told same_part thread_test (option_map shown_of oa) (option_map shown_of ob) (λ h.
      let g : Standing → ℕ = λ y. h (shown_of y) in
      told_map h shown_of oa ∙ sym (thread_told g t a (once.threads t)) ∙ carried (thread_weight h t) refl (no_thread_value h t) (at_thread g t) (at_thread g t) (thread_is h t) (thread_is h t) ∙ thread_told g t b few2 ∙ sym (told_map h shown_of ob))

  -- OBJECTS

  abbrev object_weight : ObjNo → (Plain → ℕ) → Sign → ℕ
  object_weight o g (an_object p v) = if_so (same_object p o) (g v)
  object_weight o g x = 0

  object_is : (o : ObjNo) (g : Plain → ℕ) (x : Thing) → told g (cell_value o x) ≡ object_weight o g (sign_of x)
  object_is o g (lies r i d) = told_if g (same_object d.object o) (plain_of d.value)
  object_is o g (flies w d) = told_if g (same_object d.object o) (plain_of d.value)
  object_is o g (noted r x) = unnoted (object_weight o g) refl (λ u d. refl) x.thread x.state
  object_is o g _ = refl

  object_heeds : (o : ObjNo) → seen o ≡ true → (g : Plain → ℕ) → Heeds seen s (object_weight o g)
  object_heeds o there g =
      (no_values s (object_weight o g) (λ p v. refl) (λ u d. refl) (λ y. refl), λ p v e. object_cases (λ q. if_so q (g v) ≡ 0) p o (λ same. absurd (cc (sym e ∙ ap seen same ∙ there))) (λ ne. refl))

  cell_same : (o : ObjNo) → seen o ≡ true → first_shown (cell_value o) a ≡ first_shown (cell_value o) b
  cell_same o there = first_same (cell_value o) (cell_value o) (object_weight o) (λ g. refl) (object_heeds o there) (object_is o) (object_is o) (once.cells o)

  -- PLACES

  value_same : (l : Location) → SeenAt seen (Some l) → option_map plain_value (value_in s.ground l) ≡ option_map plain_value (value_in s2.ground l)
  value_same (at_slot t i) p = slot_shown (thread_at (threads_in a) t) i ∙ ap (λ o. slot_from o i) (thread_same t) ∙ sym (slot_shown (thread_at (threads_in b) t) i)
  value_same (at_temp t i) p = temp_shown (thread_at (threads_in a) t) i ∙ ap (λ o. temp_from o i) (thread_same t) ∙ sym (temp_shown (thread_at (threads_in b) t) i)
  value_same (in_cell o) p =
      value_shown (cell_of (cells_in a) o) ∙ ap owned_from (cell_found o a ∙ cell_same o p ∙ sym (cell_found o b)) ∙ sym (value_shown (cell_of (cells_in b) o))

  behind_same : (o : Option Location) → SeenAt seen o → option_map plain_value (value_behind s.ground o) ≡ option_map plain_value (value_behind s2.ground o)
  behind_same None p = refl
  behind_same (Some l) p = value_same l p

  pub place_same : (t slot n : ℕ) → ((m : ℕ) → m < n → SeenAt seen (locate s.ground t slot m)) → locate s.ground t slot n ≡ locate s2.ground t slot n
  place_same t slot zero p = refl
  place_same t slot (suc n) p =
      let at : Option Location = locate s.ground t slot n in
      leads_plain t (value_behind s.ground at) ∙ ap (plain_leads t) (behind_same at (p n (omega arith))) ∙ sym (leads_plain t (value_behind s2.ground at)) ∙ ap (λ o. leads t (value_behind s2.ground o)) (place_same t slot n (λ m l. p m (omega (arith, l))))

  pub mutex_same : (t : ℕ) (w : Lval) → ((n : ℕ) → n ≤ w.depth → SeenAt seen (locate s.ground t w.slot n)) → mutex_of (value_at s.ground t w) ≡ mutex_of (value_at s2.ground t w)
  mutex_same t w p =
      let at : Option Location = locate s.ground t w.slot w.depth in
      mutex_plain (value_behind s.ground at) ∙ ap plain_mutex (behind_same at (p w.depth (omega arith))) ∙ sym (mutex_plain (value_behind s2.ground at))
      ∙ ap (λ o. mutex_of (value_behind s2.ground o)) (place_same t w.slot w.depth (λ m l. p m (omega (arith, l))))

  -- WHO OWNS A GIFT

  module _ (u : ℕ) (x y : Standing) (there : thread_at (threads_in a) u ≡ Some x) (q : shown_of x ≡ shown_of y) where
    instr_same : instr_of s x ≡ instr_of s2 y
    instr_same = ap₂ (λ (cs : List Instr) i. slice_get cs i) (sym code) (ap (λ (z : ShownThread). z.pc) q)

    number_same : x.thread.number ≡ y.thread.number
    number_same = ap (λ (z : ShownThread). z.number) q

    locked_at : (w : Lval) → instr_of s x ≡ Some (instr.Lock w) → mutex_of (value_at s.ground x.thread.number w) ≡ mutex_of (value_at s2.ground y.thread.number w)
    locked_at w e = mutex_same x.thread.number w (paths u x w there e) ∙ ap (λ t. mutex_of (value_at s2.ground t w)) number_same

    joined_at : (o : Operand) → task_in (popped o x.thread.temps) ≡ task_in (popped o y.thread.temps)
    joined_at o =
        task_plain (popped o x.thread.temps) ∙ ap plain_task (pop_plain o x.thread.temps ∙ ap (popped_plain o) (sym (all_framed x.thread.temps) ∙ ap (λ (z : ShownThread). map plain_frame z.temps) q ∙ all_framed y.thread.temps) ∙ sym (pop_plain o y.thread.temps)) ∙ sym (task_plain (popped o y.thread.temps))

    owner_by : (i : Option Instr) → instr_of s x ≡ i → gift_owner s x i ≡ gift_owner s2 y i
    owner_by (Some (instr.Lock w)) e = ap content_owner (locked_at w e)
    owner_by (Some (instr.Join o)) e = ap result_owner (joined_at o)
    owner_by _ e = refl

    gift_owner_same : gift_owner s x (instr_of s x) ≡ gift_owner s2 y (instr_of s2 y)
    gift_owner_same = owner_by (instr_of s x) refl ∙ ap (gift_owner s2 y) instr_same

    spot_by : (i : Option Instr) → instr_of s x ≡ i → gift_spot_at s x i ≡ gift_spot_at s2 y i
    spot_by (Some (instr.Lock w)) e = ap (option_map as_content) (locked_at w e)
    spot_by (Some (instr.Join o)) e = ap (option_map as_result) (joined_at o)
    spot_by _ e = refl

    gift_spot_same : gift_spot_at s x (instr_of s x) ≡ gift_spot_at s2 y (instr_of s2 y)
    gift_spot_same = spot_by (instr_of s x) refl ∙ ap (gift_spot_at s2 y) instr_same

  -- what is the same of threads that are shown alike is the same of those that are found
  by_found : {A : Type 0} (t : ℕ) (f f2 : Option Standing → A) → f None ≡ f2 None → ((x y : Standing) → thread_at (threads_in a) t ≡ Some x → shown_of x ≡ shown_of y → f (Some x) ≡ f2 (Some y)) → f (thread_at (threads_in a) t) ≡ f2 (thread_at (threads_in b) t)
  by_found t f f2 z e = by (thread_at (threads_in a) t) (thread_at (threads_in b) t) refl (thread_same t)
    where
      by : (o p : Option Standing) → thread_at (threads_in a) t ≡ o → option_map shown_of o ≡ option_map shown_of p → f o ≡ f2 p
      by None None h q = z
      by None (Some y) h q = absurd (cc q)
      by (Some x) None h q = absurd (cc q)
      by (Some x) (Some y) h q = e x y h (let r : shown_of x ≡ shown_of y = cc in r)

  spot_same : (p : Spot) → spot_owner s p ≡ spot_owner s2 p
  spot_same (as_gift t) = by_found t (gift_owner_of s) (gift_owner_of s2) refl (gift_owner_same t)
  spot_same (in_slot t i) = refl
  spot_same (in_temp t i) = refl
  spot_same (as_content m) = refl
  spot_same (as_result t) = refl
  spot_same in_hand = refl

  places_same : (t : ℕ) → gift_spot s t ≡ gift_spot s2 t
  places_same t = by_found t (gift_spot_of s) (gift_spot_of s2) refl (gift_spot_same t)

  -- WHAT IS IN THE STATE

  abbrev named_weight : (Node → Bool) → Node → Sign → ℕ
  named_weight go n (a_value p v) = one (named_in (plain_owns n v) go (spot_owner s p))
  named_weight go n (an_object o v) = one (named_in (plain_owns n v) go (inside (object_n o)))
  named_weight go n x = 0

  abbrev named_one : Sight → (Node → Bool) → Node → Thing → ℕ
  named_one r go n x = one (named_in (names n x) go (owner_of r x))

  named_is : (r : Sight) → ((p : Spot) → spot_owner r p ≡ spot_owner s p) → (go : Node → Bool) (n : Node) (x : Thing) → named_one r go n x ≡ named_weight go n (sign_of x)
  named_is r e go n (holds p v) = ap₂ (λ q o. one (named_in q go o)) (owns_plain n v) (e p)
  named_is r e go n (lies i j d) = ap (λ q. one (named_in q go (inside (object_n d.object)))) (owns_plain n d.value)
  named_is r e go n (flies w d) = ap (λ q. one (named_in q go (inside (object_n d.object)))) (owns_plain n d.value)
  named_is r e go n (noted i x) = unnoted (named_weight go n) refl (λ u d. refl) x.thread x.state
  named_is r e go n _ = refl

  any_is : (r : Sight) (go : Node → Bool) (n : Node) (xs : List Thing) → any_named r go n xs ≡ some (tot (named_one r go n) xs)
  any_is r go n [] = refl
  any_is r go n (x ∷ xs) =
      let q = named_in (names n x) go (owner_of r x) in
      ap (λ p. q || p) (any_is r go n xs) ∙ sym (some_or q (tot (named_one r go n) xs))

  back : (p : Spot) → spot_owner s2 p ≡ spot_owner s p
  back p = sym (spot_same p)

  -- a weight by owners, where what nothing names owns nothing
  by_owner : (f : Plain → Owner → ℕ) → ((v : Plain) → f v outside ≡ 0) → ((n : Node) (v : Plain) → is_named s n ≡ false → f v (inside n) ≡ 0) → ((o : Owner) → f plain.Unit o ≡ 0)
      → (w : Sign → ℕ) → ((p : Spot) (v : Plain) → w (a_value p v) ≡ f v (spot_owner s p)) → ((t : ℕ) (d : Bool) → w (a_branch t d) ≡ 0) → ((y : ShownThread) (q : Bool) → w (a_shown_thread y q) ≡ 0) → Counts s w
  by_owner f out none unit w e b p = record {
    gifts = λ t v. e (as_gift t) v ∙ ap (f v) (gift_owned s t) ∙ sym (at_spot (gift_spot s t) v);
    contents = λ m v q. e (as_content m) v ∙ none (mutex_n m) v q;
    results = λ t v q r. e (as_result t) v ∙ none (task_n t) v q;
    branches = λ t. omega (arith, b t true, b t false, e (as_result t) plain.Unit, unit (spot_owner s (as_result t)));
    pairs = λ y i j q r. omega (arith, p y true, p y false, b i true, b j true);
  }
    where
      at_spot : (o : Option Spot) (v : Plain) → counted_at w o v ≡ f v (spot_owned s o)
      at_spot None v = sym (out v)
      at_spot (Some p) v = e p v

  named_none : (q : Bool) (go : Node → Bool) → one (named_in q go outside) ≡ 0
  named_none true go = refl
  named_none false go = refl

  unnamed_none : (q : Bool) (go : Node → Bool) (n : Node) → go n ≡ false → one (named_in q go (inside n)) ≡ 0
  unnamed_none true go n e = ap one e
  unnamed_none false go n e = refl

  named_counts : (i : ℕ) (n : Node) → Counts s (named_weight (in_state_by i s) n)
  named_counts i n =
      by_owner (λ v o. one (named_in (plain_owns n v) (in_state_by i s) o)) (λ v. named_none (plain_owns n v) (in_state_by i s))
      (λ m v e. unnamed_none (plain_owns n v) (in_state_by i s) m (unnamed_out s i m e)) (λ o. ap (λ q. one (named_in q (in_state_by i s) o)) (unit_owns n)) (named_weight (in_state_by i s) n) (λ p v. refl) (λ t d. refl) (λ y q. refl)

  any_same : (i : ℕ) (n : Node) → any_named s (in_state_by i s) n a ≡ any_named s2 (in_state_by i s) n b
  any_same i n =
      let go = in_state_by i s in
      any_is s go n a ∙ ap some (carried (named_weight go n) refl (named_counts i n, λ o v e. unnamed_none (plain_owns n v) go (object_n o) (unnamed_out s i (object_n o) (covers o e))) (named_one s go n) (named_one s2 go n) (named_is s (λ p. refl) go n) (named_is s2 back go n)) ∙ sym (any_is s2 go n b)

  round_same : (i : ℕ) (n : Node) → in_state_by i s n ≡ in_state_by i s2 n
  round_same zero n = refl
  round_same (suc i) n = any_same i n ∙ named_alike s2 (in_state_by i s) (in_state_by i s2) (round_same i) n b

  both_ways : (p q : Bool) → (p ≡ true → q ≡ true) → (q ≡ true → p ≡ true) → p ≡ q
  both_ways true q f g = sym (f refl)
  both_ways false true f g = g refl
  both_ways false false f g = refl

  in_same : (n : Node) → is_in_state s n ≡ is_in_state s2 n
  in_same n =
      both_ways (is_in_state s n) (is_in_state s2 n) (λ e. enough s2 (length a) n (sym (round_same (length a) n) ∙ e))
      (λ e. enough s (length b) n (round_same (length b) n ∙ e))

  -- OBJECTS AND MUTEXES

  object_same : (o : ObjNo) → object_value s o ≡ object_value s2 o
  object_same o = by (seen o) refl
    where
      by : (q : Bool) → seen o ≡ q → object_value s o ≡ object_value s2 o
      by true e = ap₂ (λ q v. if_in q v) (in_same (object_n o)) (cell_same o e)
      by false e =
          let out : is_in_state s (object_n o) ≡ false = unnamed_out s (length a) (object_n o) (covers o e) in
          ap (λ q. if_in q (first_shown (cell_value o) a)) out ∙ ap (λ q. if_in q (first_shown (cell_value o) b)) (sym out ∙ in_same (object_n o))

  -- by where a value counts, and no gift is without its thread
  abbrev counts_as : Spot → Option Spot
  counts_as (as_gift t) = gift_spot s t
  counts_as p = Some p

  real : (w : Sign → ℕ) → w nothing ≡ 0 → Heeds seen s w → (f f2 : Thing → ℕ) → ((x : Thing) → stray s x ≡ 0 → f x ≡ w (sign_of x)) → ((x : Thing) → stray s2 x ≡ 0 → f2 x ≡ w (sign_of x)) → tot f a ≡ tot f2 b
  real w z n f f2 e e2 = tot_but (stray s) f (λ x. w (sign_of x)) e a given ∙ alike w z n ∙ sym (tot_but (stray s2) f2 (λ x. w (sign_of x)) e2 b (given2 numbers_differ))

  first_real : (f f2 : Thing → Option Plain) (w : (Plain → ℕ) → Sign → ℕ) → ((g : Plain → ℕ) → w g nothing ≡ 0) → ((g : Plain → ℕ) → Heeds seen s (w g)) → ((g : Plain → ℕ) (x : Thing) → stray s x ≡ 0 → told g (f x) ≡ w g (sign_of x))
      → ((g : Plain → ℕ) (x : Thing) → stray s2 x ≡ 0 → told g (f2 x) ≡ w g (sign_of x)) → tot (λ x. told ones (f x)) a ≤ 1 → first_shown f a ≡ first_shown f2 b
  first_real f f2 w z n e e2 few = first_by f f2 (λ g. real (w g) (z g) (n g) (λ x. told g (f x)) (λ x. told g (f2 x)) (e g) (e2 g)) few

  found_gift : (o : Option Standing) → other (gifted o) ≡ 0 → gifted o ≡ true
  found_gift o z = by (gifted o) z
    where
      by : (q : Bool) → other q ≡ 0 → q ≡ true
      by true z = refl
      by false z = absurd (cc z)

  abbrev content_weight : MutexNo → (Plain → ℕ) → Sign → ℕ
  content_weight m g (a_value p v) = if_so (is_content_at m (counts_as p)) (g v)
  content_weight m g x = 0

  content_spot : (r : Sight) → ((t : ℕ) → gift_spot r t ≡ gift_spot s t) → (m : MutexNo) (p : Spot) (v : Owned) → stray r (holds p v) ≡ 0 → is_content r m p ≡ is_content_at m (counts_as p)
  content_spot r e m (as_gift t) v z = gift_is_content r m (thread_at r.ground.threads t) (found_gift (thread_at r.ground.threads t) z) ∙ ap (is_content_at m) (e t)
  content_spot r e m (in_slot t i) v z = refl
  content_spot r e m (in_temp t i) v z = refl
  content_spot r e m (as_content n) v z = refl
  content_spot r e m (as_result t) v z = refl
  content_spot r e m in_hand v z = refl

  content_is : (r : Sight) → ((t : ℕ) → gift_spot r t ≡ gift_spot s t) → (m : MutexNo) (g : Plain → ℕ) (x : Thing) → stray r x ≡ 0 → told g (content_value r m x) ≡ content_weight m g (sign_of x)
  content_is r e m g (holds p v) z = told_if g (is_content r m p) (plain_of v) ∙ ap (λ q. if_so q (g (plain_of v))) (content_spot r e m p v z)
  content_is r e m g (noted i x) z = unnoted (content_weight m g) refl (λ u d. refl) x.thread x.state
  content_is r e m g _ z = refl

  content_counts : (m : MutexNo) → is_named s (mutex_n m) ≡ true → (g : Plain → ℕ) → Counts s (content_weight m g)
  content_counts m named g = record {
    gifts = λ t v. by_gift_spot s (λ o. if_so (is_content_at m o) (g v) ≡ counted_at (content_weight m g) o v) refl (λ n. refl) (λ u. refl) t;
    contents = λ n v e. if_not (same_mutex n m) (g v) (λ q. let same : is_named s (mutex_n n) ≡ is_named s (mutex_n m) = ap (λ i. is_named s (mutex_n i)) (same_mutexes n m q) in cc (sym e ∙ same ∙ named));
    results = λ t v e f. refl;
    branches = λ t. refl;
    pairs = λ y i j e f. refl;
  }

  content_same : (m : MutexNo) → is_named s (mutex_n m) ≡ true → first_shown (content_value s m) a ≡ first_shown (content_value s2 m) b
  content_same m named =
      first_real (content_value s m) (content_value s2 m) (content_weight m) (λ g. refl) (λ g. (content_counts m named g, λ o v e. refl)) (content_is s (λ t. refl) m) (content_is s2 (λ t. sym (places_same t)) m) (once.contents m)

  abbrev share_weight : MutexNo → Sign → ℕ
  share_weight m (a_value p v) = if_so (plain_owns (mutex_n m) v) (one (owner_in (is_in_state s) (spot_owner s p)))
  share_weight m (an_object o v) = if_so (plain_owns (mutex_n m) v) (one (owner_in (is_in_state s) (inside (object_n o))))
  share_weight m x = 0

  share_is : (r : Sight) → ((p : Spot) → spot_owner r p ≡ spot_owner s p) → ((n : Node) → is_in_state r n ≡ is_in_state s n) → (m : MutexNo) (x : Thing) → share_in r m x ≡ share_weight m (sign_of x)
  share_is r e f m (holds p v) =
      ap₂ (λ q o. if_so q (one o)) (owns_plain (mutex_n m) v) (owner_same (is_in_state r) (is_in_state s) f (spot_owner r p) ∙ ap (owner_in (is_in_state s)) (e p))
  share_is r e f m (lies i j d) = ap₂ (λ q o. if_so q (one o)) (owns_plain (mutex_n m) d.value) (f (object_n d.object))
  share_is r e f m (flies w d) = ap₂ (λ q o. if_so q (one o)) (owns_plain (mutex_n m) d.value) (f (object_n d.object))
  share_is r e f m (noted i x) = unnoted (share_weight m) refl (λ u d. refl) x.thread x.state
  share_is r e f m _ = refl

  none_if : (q : Bool) → if_so q 0 ≡ 0
  none_if true = refl
  none_if false = refl

  unowned : (q r : Bool) → r ≡ false → if_so q (one r) ≡ 0
  unowned q r e = ap (λ i. if_so q (one i)) e ∙ none_if q

  shares_same : (m : MutexNo) → tot (share_in s m) a ≡ tot (share_in s2 m) b
  shares_same m =
      carried (share_weight m) refl
      (by_owner (λ v o. if_so (plain_owns (mutex_n m) v) (one (owner_in (is_in_state s) o))) (λ v. none_if (plain_owns (mutex_n m) v)) (λ n v e. unowned (plain_owns (mutex_n m) v) (is_in_state s n) (unnamed_out s (length a) n e)) (λ o. refl) (share_weight m) (λ p v. refl) (λ t d. refl) (λ y q. refl), λ o v e. unowned (plain_owns (mutex_n m) v) (is_in_state s (object_n o)) (unnamed_out s (length a) (object_n o) (covers o e))) (share_in s m) (share_in s2 m) (share_is s (λ p. refl) (λ n. refl) m) (share_is s2 back (λ n. sym (in_same n)) m)

  mutexes_same : (m : MutexNo) → (state_of s).mutex m ≡ (state_of s2).mutex m
  mutexes_same m = by (is_named s (mutex_n m)) refl
    where
      by : (q : Bool) → is_named s (mutex_n m) ≡ q → (state_of s).mutex m ≡ (state_of s2).mutex m
      by true e =
          ap (λ q. if_there q (record { content = first_shown (content_value s m) a; shares = tot (share_in s m) a })) (in_same (mutex_n m))
          ∙ ap₂ (λ v n. if_there (is_in_state s2 (mutex_n m)) (record { content = v; shares = n })) (content_same m e) (shares_same m)
      by false e =
          let out : is_in_state s (mutex_n m) ≡ false = unnamed_out s (length a) (mutex_n m) e in
          ap (λ q. if_there q (record { content = first_shown (content_value s m) a; shares = tot (share_in s m) a })) out
          ∙ ap (λ q. if_there q (record { content = first_shown (content_value s2 m) b; shares = tot (share_in s2 m) b })) (sym out ∙ in_same (mutex_n m))

  -- RESULTS

  abbrev got_weight : ℕ → ℕ → Option (ℕ × ℕ) → Bool → ℕ
  got_weight t g p q = if_so (some (got_of t p q)) g

  -- both threads of a pair, which differ
  got_both : (t g : ℕ) (y : ShownThread) (i j : ℕ) → y.pair ≡ Some (i, j) → (i == j) ≡ false → got_weight t g y.pair true ≡ got_weight t g y.pair false + if_so (i == t) g + if_so (j == t) g
  got_both t g y i j e f = ap (λ p. got_weight t g p true) e ∙ by (i == t) refl (j == t) refl ∙ sym (ap (λ p. got_weight t g p false + if_so (i == t) g + if_so (j == t) g) e)
    where
      by : (p : Bool) → (i == t) ≡ p → (q : Bool) → (j == t) ≡ q → if_so (some (one p + one q)) g ≡ 0 + if_so p g + if_so q g
      by true c true d = absurd (cc (sym f ∙ ap (λ l. i == l) (same_number j t d) ∙ c))
      by true c false d = omega arith
      by false c true d = omega arith
      by false c false d = omega arith

  abbrev branch_weight : ℕ → Sign → ℕ
  branch_weight t (a_branch u d) = if_so (u == t) 1
  branch_weight t (a_shown_thread y q) = got_weight t 1 y.pair q
  branch_weight t x = 0

  noted_is : (t u : ℕ) (x : TaskState) → if_so (u == t) (pair_note x) ≡ branch_weight t (note_sign u x)
  noted_is t u (in_pair p d) = refl
  noted_is t u going = none_if (u == t)
  noted_is t u let_go = none_if (u == t)
  noted_is t u (kept v) = none_if (u == t)
  noted_is t u (asked r w) = none_if (u == t)

  branch_is : (t : ℕ) (x : Thing) → held_branch t x ≡ branch_weight t (sign_of x)
  branch_is t (noted r x) = noted_is t x.thread x.state
  branch_is t (stands r p x) = one_so (some (got_phase t x.phase)) ∙ ap (λ n. if_so (some n) 1) (got_is t x.phase)
  branch_is t _ = refl

  branch_counts : (t : ℕ) → Counts s (branch_weight t)
  branch_counts t = record {
    gifts = λ u v. by_gift_spot s (λ o. 0 ≡ counted_at (branch_weight t) o v) refl (λ m. refl) (λ i. refl) u;
    contents = λ m v e. refl;
    results = λ u v e f. refl;
    branches = λ u. omega arith;
    pairs = got_both t 1;
  }

  held_sums : (t : ℕ) → tot (held_branch t) a ≡ tot (held_branch t) b
  held_sums t = carried (branch_weight t) refl (branch_counts t, λ o v e. refl) (held_branch t) (held_branch t) (branch_is t) (branch_is t)

  held_same : (t : ℕ) → is_held s t ≡ is_held s2 t
  held_same t = ap some (held_sums t)

  abbrev result_weight : ℕ → (Plain → ℕ) → Sign → ℕ
  result_weight t g (a_value p v) = if_so (is_result_at t (counts_as p)) (g v)
  result_weight t g (a_branch u d) = if_so (u == t) (if_so d (g plain.Unit))
  result_weight t g (a_shown_thread y q) = got_weight t (g plain.Unit) y.pair q
  result_weight t g x = 0

  result_spot : (r : Sight) → ((t : ℕ) → gift_spot r t ≡ gift_spot s t) → (t : ℕ) (p : Spot) (v : Owned) → stray r (holds p v) ≡ 0 → is_result r t p ≡ is_result_at t (counts_as p)
  result_spot r e t (as_gift u) v z = gift_is_result r t (thread_at r.ground.threads u) (found_gift (thread_at r.ground.threads u) z) ∙ ap (is_result_at t) (e u)
  result_spot r e t (in_slot u i) v z = refl
  result_spot r e t (in_temp u i) v z = refl
  result_spot r e t (as_content n) v z = refl
  result_spot r e t (as_result u) v z = refl
  result_spot r e t in_hand v z = refl

  or_none : (o : Option Plain) → or_else o None ≡ o
  or_none None = refl
  or_none (Some v) = refl

  done_note : (t : ℕ) (g : Plain → ℕ) (u : ℕ) (x : TaskState) → told g (if u == t then pair_over x else None) ≡ result_weight t g (note_sign u x)
  done_note t g u x = by (u == t) x refl
    where
      none : (q : Bool) → told g (if q then None else None) ≡ 0
      none true = refl
      none false = refl

      both : (q d : Bool) → told g (if q then pair_over (in_pair 0 d) else None) ≡ if_so q (if_so d (g plain.Unit))
      both true true = refl
      both true false = refl
      both false d = refl

      by : (q : Bool) (z : TaskState) → x ≡ z → told g (if u == t then pair_over z else None) ≡ result_weight t g (note_sign u z)
      by q (in_pair p true) e = both (u == t) true
      by q (in_pair p false) e = both (u == t) false
      by q going e = none (u == t)
      by q let_go e = none (u == t)
      by q (kept v) e = none (u == t)
      by q (asked r w) e = none (u == t)

  result_is : (r : Sight) → ((t : ℕ) → gift_spot r t ≡ gift_spot s t) → (t : ℕ) (g : Plain → ℕ) (x : Thing) → stray r x ≡ 0 → told g (shown_result r t x) ≡ result_weight t g (sign_of x)
  result_is r e t g (holds p v) z = told_if g (is_result r t p) (plain_of v) ∙ ap (λ q. if_so q (g (plain_of v))) (result_spot r e t p v z)
  result_is r e t g (noted i x) z = ap (told g) (or_none (branch_result t (noted i x))) ∙ done_note t g x.thread x.state
  result_is r e t g (stands i p x) z = ap (told g) (or_none (branch_result t (stands i p x))) ∙ told_if g (some (got_phase t x.phase)) plain.Unit ∙ ap (λ n. if_so (some n) (g plain.Unit)) (got_is t x.phase)
  result_is r e t g _ z = refl

  -- somebody names the thread, or it is a branch
  abbrev owed : ℕ → Bool
  owed t = is_held s t || is_named s (task_n t)

  neither : (p q : Bool) → p ≡ false → q ≡ false → (p || q) ≡ true → ⊥
  neither false false d e f = cc f
  neither true q d e f = cc d
  neither false true d e f = cc e

  result_counts : (t : ℕ) → owed t ≡ true → (g : Plain → ℕ) → Counts s (result_weight t g)
  result_counts t some_owe g = record {
    gifts = λ u v. by_gift_spot s (λ o. if_so (is_result_at t o) (g v) ≡ counted_at (result_weight t g) o v) refl (λ n. refl) (λ i. refl) u;
    contents = λ n v e. refl;
    results = λ u v e f. eq_cases (λ q. if_so q (g v) ≡ 0) u t (λ same. absurd (neither (is_held s u) (is_named s (task_n u)) f e (ap owed same ∙ some_owe))) (λ ne. refl);
    branches = λ u. omega (arith, none_if (u == t));
    pairs = got_both t (g plain.Unit);
  }

  result_sums : (t : ℕ) → owed t ≡ true → (g : Plain → ℕ) → tot (λ x. told g (shown_result s t x)) a ≡ tot (λ x. told g (shown_result s2 t x)) b
  result_sums t some_owe g =
      real (result_weight t g) refl (result_counts t some_owe g, λ o v e. refl) (λ x. told g (shown_result s t x)) (λ x. told g (shown_result s2 t x)) (result_is s (λ u. refl) t g) (result_is s2 (λ u. sym (places_same u)) t g)

  ended_there : (t : ℕ) (x : Thing) → has_ended t x ≤ is_thread t x
  ended_there t (stands r p x) = at_most_one (x.number == t) (not (x.number == 0) && is_over x.phase)
    where
      at_most_one : (p q : Bool) → one (p && q) ≤ one p
      at_most_one true true = omega arith
      at_most_one true false = omega arith
      at_most_one false q = omega arith
  ended_there t _ = omega arith

  few_results : (t : ℕ) → tot (λ x. told ones (shown_result s t x)) a ≤ 1
  few_results t = omega (arith, once.ends t, at_most (has_ended t) (is_thread t) (ended_there t) a, once.threads t)

  shown_same : (t : ℕ) → owed t ≡ true → first_shown (shown_result s t) a ≡ first_shown (shown_result s2 t) b
  shown_same t some_owe = first_by (shown_result s t) (shown_result s2 t) (result_sums t some_owe) (few_results t)

  unowed : (p q r : Bool) → (p || q) ≡ false → (q ≡ false → r ≡ false) → (p || r) ≡ false
  unowed true q r e f = absurd (cc e)
  unowed false true r e f = absurd (cc e)
  unowed false false r e f = f refl

  first_half : (p q : Bool) → (p || q) ≡ false → p ≡ false
  first_half true q e = absurd (cc e)
  first_half false q e = refl

  owed_same : (t : ℕ) → is_held s t || is_in_state s (task_n t) ≡ is_held s2 t || is_in_state s2 (task_n t)
  owed_same t = ap₂ (λ p q. p || q) (held_same t) (in_same (task_n t))

  result_same : (t : ℕ) → result_of s t ≡ result_of s2 t
  result_same t = by (owed t) refl
    where
      by : (q : Bool) → owed t ≡ q → result_of s t ≡ result_of s2 t
      by true e =
          let few2 : tot (λ x. told ones (shown_result s2 t x)) b ≤ 1 = omega (arith, few_results t, result_sums t e ones) in
          result_shown s t (few_results t) ∙ ap₂ if_in (owed_same t) (shown_same t e) ∙ sym (result_shown s2 t few2)
      by false e =
          let out : is_held s t || is_in_state s (task_n t) ≡ false = unowed (is_held s t) (is_named s (task_n t)) (is_in_state s (task_n t)) e (unnamed_out s (length a) (task_n t)) in
          result_none s t out ∙ sym (result_none s2 t (sym (owed_same t) ∙ out))

  -- a thread that goes on has no result yet, so it is in no pair that its parent has
  still_going : (t : ℕ) → tot (has_ended t) a ≡ 0 → is_branch s t || is_in_state s (task_n t) ≡ is_branch s2 t || is_in_state s2 (task_n t)
  still_going t z =
      let ours : tot (λ x. told ones (shown_result s t x)) a ≡ 0 = omega (arith, once.ends t, z) in
      ap (λ q. q || is_in_state s (task_n t)) (sym (held_branches s t (no_got s t ours))) ∙ owed_same t ∙ ap (λ q. q || is_in_state s2 (task_n t)) (held_branches s2 t (theirs (owed t) refl ours))
    where
      theirs : (q : Bool) → owed t ≡ q → tot (λ x. told ones (shown_result s t x)) a ≡ 0 → tot (got_at t) b ≡ 0
      theirs true e o = no_got s2 t (sym (result_sums t e ones) ∙ o)
      theirs false e o =
          let none : tot (held_branch t) b ≡ 0 = none_some (tot (held_branch t) b) (sym (held_same t) ∙ first_half (is_held s t) (is_named s (task_n t)) e) in
          omega (arith, none, at_most (got_at t) (held_branch t) (got_held t) b)

  -- LIVES

  going_same : (t : ℕ) (p : CodeRunning) → tot (has_ended t) a ≡ 0 → going_on s t p ≡ going_on s2 t p
  going_same zero p z = refl
  going_same (suc t) p z = ap (λ q. if not q then loose p else owing p) (still_going (suc t) z)

  life_by : (x y : Standing) → tot (has_ended x.thread.number) a ≤ one (is_over x.thread.phase) → shown_of x ≡ shown_of y → (q : Bool) → is_over x.thread.phase ≡ q → life_of s x.thread q ≡ life_of s2 y.thread q
  life_by x y ends e true over = ap ended_with (result_same x.thread.number ∙ ap (result_of s2) (ap (λ (z : ShownThread). z.number) e))
  life_by x y ends e false over =
      going_same x.thread.number (running_at x.thread) (let none : one (is_over x.thread.phase) ≡ 0 = ap one over in omega (arith, ends, none)) ∙ ap₂ (going_on s2) (ap (λ (z : ShownThread). z.number) e) (running_shown x ∙ ap shown_running e ∙ sym (running_shown y))

  -- a found thread that isn't main has ended where it is over
  ended_found : (t : ℕ) → tot (has_ended t) a ≤ told (λ z. one (is_over z.thread.phase)) (thread_at (threads_in a) t)
  ended_found t = let g : Standing → ℕ = λ z. one (is_over z.thread.phase) in omega (arith, at_most (has_ended t) (at_thread g t) (less g) a, thread_told g t a (once.threads t))
    where
      parts : (p q o : Bool) → one (p && (q && o)) ≤ if_so p (one o)
      parts true true o = omega arith
      parts true false true = omega arith
      parts true false false = omega arith
      parts false q o = omega arith

      less : (g : Standing → ℕ) (x : Thing) → has_ended t x ≤ at_thread (λ z. one (is_over z.thread.phase)) t x
      less g (stands r p x) = parts (x.number == t) (not (x.number == 0)) (is_over x.phase)
      less g _ = omega arith

  life_same : (t : ℕ) → life_at s t (thread_at (threads_in a) t) ≡ life_at s2 t (thread_at (threads_in b) t)
  life_same t = by (thread_at (threads_in a) t) (thread_at (threads_in b) t) (ended_found t) refl (thread_same t)
    where
      numbered : (xs : List Standing) (x : Standing) → thread_at xs t ≡ Some x → x.thread.number ≡ t
      numbered [] x e = absurd (cc e)
      numbered (y ∷ xs) x e =
          eq_cases (λ q. (if q then Some y else thread_at xs t) ≡ Some x → x.thread.number ≡ t) y.thread.number t
          (λ same d. let it : y ≡ x = cc in subst (λ (z : Standing). z.thread.number ≡ t) it same) (λ ne d. numbered xs x d) e

      by : (o p : Option Standing) → tot (has_ended t) a ≤ told (λ z. one (is_over z.thread.phase)) o → thread_at (threads_in a) t ≡ o → option_map shown_of o ≡ option_map shown_of p → life_at s t o ≡ life_at s2 t p
      by None None l e q = ap ended_with (result_same t)
      by None (Some y) l e q = absurd (cc q)
      by (Some x) None l e q = absurd (cc q)
      by (Some x) (Some y) l e q =
          let same : shown_of x ≡ shown_of y = cc in
          let number = numbered (threads_in a) x e in
          life_by x y (subst (λ i. tot (has_ended i) a ≤ one (is_over x.thread.phase)) (sym number) l) same (is_over x.thread.phase) refl ∙ ap (life_of s2 y.thread) (ap (λ (z : ShownThread). z.is_over) same)

  -- NAMES

  abbrev started_weight : ℕ → ℕ → Sign → ℕ
  started_weight h n (a_count r started made) = one (r == h && nat_le n started)
  started_weight h n x = 0

  started_is : (h n : ℕ) (x : Thing) → started_at h n x ≡ started_weight h n (sign_of x)
  started_is h n (noted i x) = unnoted (started_weight h n) refl (λ u d. refl) x.thread x.state
  started_is h n _ = refl

  abbrev made_weight : ℕ → ℕ → Sign → ℕ
  made_weight h n (a_count r started made) = one (r == h && nat_le n made)
  made_weight h n x = 0

  made_is : (h n : ℕ) (x : Thing) → made_at h n x ≡ made_weight h n (sign_of x)
  made_is h n (noted i x) = unnoted (made_weight h n) refl (λ u d. refl) x.thread x.state
  made_is h n _ = refl

  given_same : (t : ℕ) → is_given_thread s t ≡ is_given_thread s2 t
  given_same t =
      let h = home_of t in
      let n = t % 2 ^ 32 in
      ap (λ m. t == 0 || (not (n == 0) && some m)) (carried (started_weight h n) refl (no_values s (started_weight h n) (λ p v. refl) (λ u d. refl) (λ y. refl), λ o v e. refl) (started_at h n) (started_at h n) (started_is h n) (started_is h n))

  mutex_given : (m : MutexNo) → is_given_mutex s m ≡ is_given_mutex s2 m
  mutex_given m = ap (λ n. not (m.count == 0) && some n) (carried (made_weight m.home m.count) refl (no_values s (made_weight m.home m.count) (λ p v. refl) (λ u d. refl) (λ y. refl), λ o v e. refl) (made_at m.home m.count) (made_at m.home m.count) (made_is m.home m.count) (made_is m.home m.count))

  pub heeds_same_state : SameState (state_of s2) (state_of s)
  heeds_same_state = record {
    threads = λ t. sym (ap₂ if_given (given_same t) (life_same t));
    made = λ t. sym (by_found t made_of made_of refl (λ x y h e. ap (λ (z : ShownThread). if z.is_over then 0 else z.made) e));
    pairs = λ t. sym (by_found t pair_of pair_of refl (λ x y h e. ap (λ (z : ShownThread). z.pair) e));
    objects = λ o. sym (object_same o);
    mutexes = λ m. sym (mutexes_same m);
    given = λ m. sym (mutex_given m);
  }

  -- WHAT IS SHOWN ONCE

  abbrev ended_weight : ℕ → Sign → ℕ
  ended_weight t (a_shown_thread y q) = one (y.number == t && (not (y.number == 0) && y.is_over))
  ended_weight t x = 0

  ended_is : (t : ℕ) (x : Thing) → has_ended t x ≡ ended_weight t (sign_of x)
  ended_is t (noted i x) = unnoted (ended_weight t) refl (λ u d. refl) x.thread x.state
  ended_is t _ = refl

  -- where all that is shown is the same
  module _ (all : ShowAlike a b) where
    sums : (w : Sign → ℕ) → w nothing ≡ 0 → (f f2 : Thing → ℕ) → ((x : Thing) → stray s x ≡ 0 → f x ≡ w (sign_of x)) → ((x : Thing) → stray s2 x ≡ 0 → f2 x ≡ w (sign_of x)) → tot f a ≡ tot f2 b
    sums w z f f2 e e2 = tot_but (stray s) f (λ x. w (sign_of x)) e a given ∙ all w z ∙ sym (tot_but (stray s2) f2 (λ x. w (sign_of x)) e2 b (given2 numbers_differ))

    pub once_there : Once s2
    once_there = record {
      cells = λ o. omega (arith, once.cells o, sums (object_weight o ones) refl (λ x. told ones (cell_value o x)) (λ x. told ones (cell_value o x)) (λ x z. object_is o ones x) (λ x z. object_is o ones x));
      threads = numbers_differ;
      contents = λ m. omega (
        arith,
        once.contents m,
        sums (content_weight m ones) refl (λ x. told ones (content_value s m x)) (λ x. told ones (content_value s2 m x)) (content_is s (λ t. refl) m ones) (content_is s2 (λ t. sym (places_same t)) m ones),
      );
      ends = λ t. omega (
        arith,
        once.ends t,
        sums (result_weight t ones) refl (λ x. told ones (shown_result s t x)) (λ x. told ones (shown_result s2 t x)) (result_is s (λ u. refl) t ones) (result_is s2 (λ u. sym (places_same u)) t ones),
        sums (ended_weight t) refl (has_ended t) (has_ended t) (λ x z. ended_is t x) (λ x z. ended_is t x),
      );
    }

-- of the things of two clusters
module _ (k c : Cluster) (code : c.code ≡ k.code) (once : Once (sight k)) where
  pub heeds_same_heap : (seen : ObjNo → Bool) → ((o : ObjNo) → seen o ≡ false → is_named (sight k) (object_n o) ≡ false) → LocksSee seen k → HeedAlike seen (sight k) (things_of k) (things_of c) → SameState (one_heap c) (one_heap k)
  heeds_same_heap seen covers paths alike = heeds_same_state k c (things_of k) (things_of c) code once seen covers paths alike (no_stray k once.threads) (no_stray c)

pub all_seen : (l : Option Location) → SeenAt (λ o. true) l
all_seen None = tt
all_seen (Some (at_slot t i)) = tt
all_seen (Some (at_temp t i)) = tt
all_seen (Some (in_cell o)) = refl

-- where objects count that nothing names
pub counts_same_heap : (k c : Cluster) → c.code ≡ k.code → Once (sight k) → CountAlike (sight k) (things_of k) (things_of c) → SameState (one_heap c) (one_heap k)
counts_same_heap k c code once alike =
    heeds_same_heap k c code once (λ o. true) (λ o e. absurd (cc e)) (λ t x w h e n l. all_seen (locate (sight k).ground x.thread.number w.slot n)) (λ w z n. alike w z n.0)

-- where all that is shown is the same, whatever counts is
pub same_heap : (k c : Cluster) → c.code ≡ k.code → Once (sight k) → ShowAlike (things_of k) (things_of c) → SameState (one_heap c) (one_heap k)
same_heap k c code once alike = counts_same_heap k c code once (λ w z n. alike w z)

-- the same of things in whatever order, where no gift is without its thread
module _ (k : Cluster) (a b : List Thing) (once : Once (with_things k a)) (alike : ShowAlike a b) (given : tot (stray (with_things k a)) a ≡ 0) (given2 : ((t : ℕ) → tot (is_thread t) b ≤ 1) → tot (stray (with_things k b)) b ≡ 0) where
  abbrev all_locks : LocksSeeIn (λ o. true) (with_things k a)
  all_locks = λ t x w h e n l. all_seen (locate (with_things k a).ground x.thread.number w.slot n)

  pub same_state : SameState (state_of (with_things k b)) (state_of (with_things k a))
  same_state = heeds_same_state k k a b refl once (λ o. true) (λ o e. absurd (cc e)) all_locks (λ w z n. alike w z) given given2

  -- and what is shown once there is shown once here
  pub same_once : Once (with_things k b)
  same_once = once_there k k a b refl once (λ o. true) (λ o e. absurd (cc e)) all_locks (λ w z n. alike w z) given given2 alike

  -- a spot has the same owner, and a gift counts as the same
  pub same_spots : (p : Spot) → spot_owner (with_things k a) p ≡ spot_owner (with_things k b) p
  same_spots p = spot_same k k a b refl once (λ o. true) (λ o e. absurd (cc e)) all_locks (λ w z n. alike w z) given given2 p

  -- a thread shows the same, a place leads alike, and what is in the state is in it
  pub same_threads : (t : ℕ) → option_map shown_of (thread_at (threads_in a) t) ≡ option_map shown_of (thread_at (threads_in b) t)
  same_threads t = thread_same k k a b refl once (λ o. true) (λ o e. absurd (cc e)) all_locks (λ w z n. alike w z) given given2 t

  pub same_places : (t slot n : ℕ) → locate (with_things k a).ground t slot n ≡ locate (with_things k b).ground t slot n
  same_places t slot n =
      place_same k k a b refl once (λ o. true) (λ o e. absurd (cc e)) all_locks (λ w z n. alike w z) given given2 t slot n (λ m l. all_seen (locate (with_things k a).ground t slot m))

  pub same_nodes : (n : Node) → is_in_state (with_things k a) n ≡ is_in_state (with_things k b) n
  same_nodes n = in_same k k a b refl once (λ o. true) (λ o e. absurd (cc e)) all_locks (λ w z n. alike w z) given given2 n

  pub same_gifts : (t : ℕ) → gift_spot (with_things k a) t ≡ gift_spot (with_things k b) t
  same_gifts t = places_same k k a b refl once (λ o. true) (λ o e. absurd (cc e)) all_locks (λ w z n. alike w z) given given2 t
