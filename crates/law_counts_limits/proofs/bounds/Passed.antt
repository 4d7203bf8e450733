-- A write never passes more hops than its place has.
use Rattle.std.proofs.Common.{◌≡◌, ◌≤◌, ℕ, zero, suc, ◌+◌, ◌-◌, ◌==◌, nat_lt, Bool, true, false, if◌then◌else◌, List, [], length, Option, Some, None, refl, sym, ap, subst, ◌∙◌, arith}
use Rattle.std.specs.Prelude.{slice_get, option_map}
use Rattle.std.specs.Bool.{⊤}
use Rattle.std.proofs.lemmas.Bool.Decides.{nat_tests}
use Rattle.law_counts_things.specs.Below.fr_base.Lists.{is_in, last_of}
use Rattle.law_counts_things.specs.Below.fr_base.declared.place.Lval.{Lval}
use Rattle.law_counts_things.specs.Below.fr_base.declared.step.Fresh.{Fresh}
use Rattle.law_counts_things.specs.Below.fr_base.declared.instruction.Instr.{Instr}
use Rattle.law_counts_things.specs.Below.fr_base.declared.instruction.Instr.TheVariants as instr
use Rattle.law_counts_things.specs.Below.heap_partition.declared.value.Cell.{Cell}
use Rattle.law_counts_things.specs.Below.heap_partition.declared.value.Owned.{Owned}
use Rattle.law_counts_things.specs.Below.read_cache.Cache.{Copy, can_pin, can_fill}
use Rattle.law_counts_things.specs.Below.migration.Packing.{unpin_all}
use Rattle.law_counts_things.specs.Below.thread_state.View.{ThreadState}
use Rattle.law_counts_things.specs.Below.thread_state.declared.phase.Phase.{Phase}
use Rattle.law_counts_things.specs.Below.thread_state.declared.phase.Phase.TheVariants as phase
use Rattle.law_counts_things.specs.Below.thread_state.declared.value.Value.{Value}
use Rattle.law_counts_things.specs.Below.thread_state.declared.value.Value.TheVariants as value
use Rattle.law_counts_things.specs.Below.server_model.Servers.{Rest}
use Rattle.law_counts_things.specs.Below.server_model.Work.{Hand, note, then_some, used_once, with_cache, with_phase, working, task_of, pop}
use Rattle.law_counts_things.specs.Below.server_model.NewWords.{NewWord, issue_placed}
use Rattle.law_counts_things.specs.Below.server_model.Places.{Spot, in_slot, on_top, value_at, set_pointer}
use Rattle.law_counts_things.specs.Below.server_model.Commit.{Committed, done, waits, refused, done_where, goes_on, waiting, ask_join, join, ask_dup, dup, ask_lock, lock, mutex_at, commit, settle}
use Rattle.law_counts_things.specs.Below.server_model.Prepare.{Prepared, ready, requested, nothing, ending, assigned, read_or_taken, access_of, prepare, passing, write_stars}
use Rattle.law_counts_things.specs.Below.server_model.Objects.{waits_for_cell, filled, deliver_fetched, chased, waits_under, arrived_at, arrived_slot, passed_spot, arrived_write, arrived_lend, arrived_end, arrived, instr_access, deliver_moved}
use Rattle.law_counts_things.specs.Below.server_model.Events.{Stepped, done_step, committed, prepared, step}
use Rattle.law_counts_things.specs.Below.journal.declared.act.Act.TheVariants as act
use Rattle.law_counts_things.specs.Below.coherent_memory.Names.{other}
use Rattle.law_counts_things.specs.Below.coherent_memory.Follow.{Standing}
use Rattle.law_counts_things.specs.Below.coherent_memory.Sight.{Sight}
use Rattle.law_counts_things.specs.Below.coherent_memory.Paths.{Path, no_path, reads, shares, lends, writes, ends, taking, assigning, path_of, written_place}
use Rattle.law_counts_things.specs.Below.coherent_memory.Paths as paths
use Rattle.law_counts_things.specs.Below.coherent_memory.Walking.{hop_count, next_hop, in_turn, not_asked}
use Rattle.law_counts_things.specs.Below.law_counts_sums.Laws.{Gives}
use Rattle.law_counts_things.proofs.Below.law_counts_sums.Results.{then_gives, over_gives, test_gives}
use Rattle.law_counts_things.proofs.things.Small.{Writes}
use Rattle.law_counts_limits.proofs.bounds.Stars.{depth_there, depths, same_there, same_last, Steps, stars, after, Shape, Made, sets, prepare_made}

-- HOPS OF A WRITE

-- how many hops the write of a thread has at an instruction
abbrev pub hops_of : Option Instr → ThreadState → ℕ
hops_of i y = hop_count (written_place (path_of i y))

-- the end of a reference has the hops of its holder
ending_hops : (o : Option Value) → hop_count (written_place (paths.ending o)) ≡ depth_there o
ending_hops None = refl
ending_hops (Some (value.Mut r)) = refl
ending_hops (Some value.Gone) = refl
ending_hops (Some (value.Own v)) = refl
ending_hops (Some (value.SharedSlot j)) = refl
ending_hops (Some (value.MutSlot j)) = refl
ending_hops (Some (value.Shared q)) = refl
ending_hops (Some (value.Held m)) = refl

-- the same holders give as many
same_hops : (i : Instr) (y t : ThreadState) → depths t.slots ≡ depths y.slots → depths t.temps ≡ depths y.temps → hops_of (Some i) t ≡ hops_of (Some i) y
same_hops (instr.Assign w o) y t a b = by w.depth
  where
    by : (n : ℕ) → hop_count (written_place (assigning t.slots w n)) ≡ hop_count (written_place (assigning y.slots w n))
    by zero = ending_hops (slice_get t.slots w.slot) ∙ same_there t.slots y.slots a w.slot ∙ sym (ending_hops (slice_get y.slots w.slot))
    by (suc n) = refl
same_hops instr.DropSlot y t a b = ending_hops (last_of t.slots) ∙ same_last t.slots y.slots a ∙ sym (ending_hops (last_of y.slots))
same_hops instr.Discard y t a b = ending_hops (last_of t.temps) ∙ same_last t.temps y.temps b ∙ sym (ending_hops (last_of y.temps))
same_hops (instr.Read w true) y t a b = refl
same_hops (instr.Read w false) y t a b = refl
same_hops (instr.Dup w) y t a b = refl
same_hops (instr.Lock w) y t a b = refl
same_hops (instr.Borrow w) y t a b = refl
same_hops (instr.BorrowMut w) y t a b = refl
same_hops (instr.Let o) y t a b = refl
same_hops (instr.Box o) y t a b = refl
same_hops (instr.Arith f c d) y t a b = refl
same_hops (instr.Print o) y t a b = refl
same_hops (instr.Spawn cs pc) y t a b = refl
same_hops (instr.Join o) y t a b = refl
same_hops (instr.Mutex o) y t a b = refl
same_hops instr.Unlock y t a b = refl
same_hops (instr.Par cs pc ds other) y t a b = refl
same_hops instr.ParEnd y t a b = refl
same_hops (instr.End o) y t a b = refl

-- an access that writes has as many stars
ending_written : (s : Spot) (o : Option Value) (h : Hand) → value_at h s ≡ o → Writes (ending s o) → stars (ending s o) h ≡ hop_count (written_place (paths.ending o))
ending_written s (Some (value.Mut r)) h e w = ap depth_there e
ending_written s None h e w = absurd w
ending_written s (Some value.Gone) h e w = absurd w
ending_written s (Some (value.Own v)) h e w = absurd w
ending_written s (Some (value.SharedSlot j)) h e w = absurd w
ending_written s (Some (value.MutSlot j)) h e w = absurd w
ending_written s (Some (value.Shared q)) h e w = absurd w
ending_written s (Some (value.Held m)) h e w = absurd w

-- each access that writes has as many stars as its write has hops
written_stars : (i : Instr) (h : Hand) → Writes (access_of i h.thread) → stars (access_of i h.thread) h ≡ hops_of (Some i) h.thread
written_stars (instr.Assign p o) h w = by p.depth refl w
  where
    by : (n : ℕ) → p.depth ≡ n → Writes (assigned p n h.thread) → stars (assigned p n h.thread) h ≡ hop_count (written_place (assigning h.thread.slots p n))
    by zero e w = ending_written (in_slot p.slot) (slice_get h.thread.slots p.slot) h refl w
    by (suc n) e w = refl
written_stars (instr.Read p true) h w = by p.depth w
  where
    by : (n : ℕ) → Writes (Some (read_or_taken p n true)) → stars (Some (read_or_taken p n true)) h ≡ hop_count (written_place (taking p n))
    by zero w = absurd w
    by (suc n) w = refl
written_stars (instr.Read p false) h w = by p.depth w
  where
    by : (n : ℕ) → Writes (Some (read_or_taken p n false)) → stars (Some (read_or_taken p n false)) h ≡ 0
    by zero w = absurd w
    by (suc n) w = absurd w
written_stars instr.Discard h w = ending_written on_top (last_of h.thread.temps) h refl w
written_stars instr.DropSlot h w = ending_written (in_slot (length h.thread.slots - 1)) (last_of h.thread.slots) h refl w
written_stars (instr.Borrow p) h w = absurd w
written_stars (instr.BorrowMut p) h w = absurd w
written_stars (instr.Dup p) h w = absurd w
written_stars (instr.Lock p) h w = absurd w
written_stars (instr.Let o) h w = absurd w
written_stars (instr.Box o) h w = absurd w
written_stars (instr.Arith f c d) h w = absurd w
written_stars (instr.Print o) h w = absurd w
written_stars (instr.Spawn cs pc) h w = absurd w
written_stars (instr.Join o) h w = absurd w
written_stars (instr.Mutex o) h w = absurd w
written_stars instr.Unlock h w = absurd w
written_stars (instr.Par cs pc ds other) h w = absurd w
written_stars instr.ParEnd h w = absurd w
written_stars (instr.End o) h w = absurd w

-- so many hops are passed at most
abbrev pub Within : List Instr → ThreadState → Type 0
Within code t = t.passed ≤ hops_of (slice_get code t.pc) t

-- who has passed nothing is within its place
pub none_within : (code : List Instr) (t : ThreadState) → t.passed ≡ 0 → Within code t
none_within code t e = omega (arith, e)

module _ (code : List Instr) (i : Instr) (y : ThreadState) (at : slice_get code y.pc ≡ Some i) where
  -- a thread at that instruction with the same holders
  abbrev Still : ThreadState → Type 0
  Still t = Shape y t.pc t.slots t.temps × (t.passed ≤ hops_of (Some i) y)

  -- such a thread is within its place
  within : (t : ThreadState) → Still t → Within code t
  within t g =
      let shape = g.0 in
      let same : slice_get code t.pc ≡ Some i = ap (slice_get code) shape.pc_so ∙ at in
      let hops : hops_of (slice_get code t.pc) t ≡ hops_of (Some i) y = ap (λ o. hops_of o t) same ∙ same_hops i y t shape.slots_so shape.temps_so in
      omega (arith, hops, g.1)

  -- the thread itself is one
  start : Within code y → Still y
  start p = let same : hops_of (slice_get code y.pc) y ≡ hops_of (Some i) y = ap (λ o. hops_of o y) at in (record { pc_so = refl; slots_so = refl; temps_so = refl }, omega (arith, same, p))

  -- PLAIN STEPS

  -- a step that is done, or whose thread waits as it was
  abbrev Ended : Committed → Type 0
  Ended (done names h) = ⊤
  Ended (waits h) = Still h.thread
  Ended refused = ⊤

  -- no plain step but a request waits
  done_ends : (names : Fresh) (o : Option Hand) → Ended (done_where names o)
  done_ends names None = tt
  done_ends names (Some h) = tt

  goes_ends : (o : Option Hand) → Ended (goes_on o)
  goes_ends None = tt
  goes_ends (Some h) = tt

  -- a request leaves slots, values and hops
  waits_end : {X : Type 0} (o : Option X) (f : X → Hand) → ((x : X) → Still (f x).thread) → Ended (waiting (option_map f o))
  waits_end None f g = tt
  waits_end (Some x) f g = g x

  joins : (o : _) (gift : Option Owned) (h : Hand) → Still h.thread → Ended (join o gift h)
  joins o None h g = waits_end (then_some (pop o h) (λ t. task_of t.item)) (ask_join h) (λ x. g)
  joins o (Some v) h g = goes_ends _

  dups : (s : Spot) (gift : Option Owned) (h : Hand) → Still h.thread → Ended (dup s gift h)
  dups s None h g = waits_end (mutex_at h s) (ask_dup h) (λ x. g)
  dups s (Some v) h g = goes_ends _

  locks : (s : Spot) (gift : Option Owned) (h : Hand) → Still h.thread → Ended (lock s gift h)
  locks s None h g = waits_end (mutex_at h s) (ask_lock h) (λ x. g)
  locks s (Some v) h g = goes_ends _

  -- all instructions
  commits : (n : ℕ) (j : Instr) (s : Spot) (h : Hand) → Still h.thread → Ended (commit n j s h)
  commits n (instr.Join o) s h g = joins o h.thread.gift h g
  commits n (instr.Dup w) s h g = dups s h.thread.gift h g
  commits n (instr.Lock w) s h g = locks s h.thread.gift h g
  commits n (instr.Let o) s h g = goes_ends _
  commits n (instr.Assign w o) s h g = goes_ends _
  commits n (instr.Read w take) s h g = goes_ends _
  commits n (instr.Borrow w) s h g = goes_ends _
  commits n (instr.BorrowMut w) s h g = goes_ends _
  commits n (instr.Box o) s h g = goes_ends _
  commits n (instr.Arith f a b) s h g = goes_ends _
  commits n (instr.Print o) s h g = goes_ends _
  commits n instr.Discard s h g = goes_ends _
  commits n instr.DropSlot s h g = goes_ends _
  commits n (instr.Spawn cs pc) s h g = done_ends _ _
  commits n (instr.Mutex o) s h g = done_ends _ _
  commits n instr.Unlock s h g = goes_ends _
  commits n (instr.Par cs pc ds other) s h g = done_ends _ _
  commits n instr.ParEnd s h g = goes_ends _
  commits n (instr.End o) s h g = done_ends _ _

  abbrev StepWithin : Stepped → Type 0
  StepWithin d = Within code d.hand.thread

  -- a step that is done has passed nothing any more
  settled : (names : Fresh) (h : Hand) → Gives StepWithin (option_map (done_step names) (settle h))
  settled names h = by (unpin_all h.thread.walk h.work.rest.cache)
    where
      by : (o : Option (List Copy)) → Gives StepWithin (option_map (done_step names) (option_map (λ cs. record { work = with_cache cs h.work; thread = record h.thread { passed = 0; walk = []; moved_since_step = false } }) o))
      by None = tt
      by (Some cs) = omega arith

  -- what became of the plain step is within its place
  committing : (c : Committed) → Ended c → Gives StepWithin (committed c)
  committing (done names h) g = settled names h
  committing (waits h) g = within h.thread g
  committing refused g = tt

  -- STEPS

  abbrev X : ℕ → Rest → ℕ → Type 0
  X c r n = n ≤ hops_of (Some i) y

  -- making the place ready passes at most as many hops as there are
  walk : (h : Hand) → h.thread ≡ y → Steps (stars (access_of i y) h) (Writes (access_of i y)) X
  walk h e = record {
    more = λ c r n g. g;
    stores = λ w v c r n g. g;
    renews = λ w c r n g. g;
    pins = λ w c r n g. g;
    sends = λ t m c r n g. g;
    passes = λ on m c r n l g.
        let same : stars (access_of i y) h ≡ hops_of (Some i) y = subst (λ z. Writes (access_of i z) → stars (access_of i z) h ≡ hops_of (Some i) z) e (written_stars i h) on in
        omega (arith, l, same);
  }

  -- a whole step
  pub step_within : (n : ℕ) (h : Hand) → h.thread ≡ y → Within code y → Gives StepWithin (step n i h)
  step_within n h e p =
      subst (λ z. Gives StepWithin (prepared n i (prepare (access_of i z) h))) (sym e)
      (by (suc (after (stars (access_of i y) h) 0)) (prepare (access_of i y) h) (prepare_made (walk h e) y (access_of i y) h (λ w. w) (omega arith) (subst Still (sym e) (start p))))
    where
      by : (c : ℕ) (q : Prepared) → Made (walk h e) y c q → Gives StepWithin (prepared n i q)
      by c (ready h2 s) g = committing (commit n i s h2) (commits n i s h2 g)
      by c (requested h2) g = within h2.thread g
      by c nothing g = tt

  -- AN OBJECT COMES

  -- where no hop is passed
  quiet : Steps 0 ⊥ X
  quiet = record { more = λ c r n g. g; stores = λ w v c r n g. g; renews = λ w c r n g. g; pins = λ w c r n g. g; sends = λ t m c r n g. g; passes = λ on m c r n l g. absurd on }

  abbrev StillHand : Hand → Type 0
  StillHand h = Still h.thread

  -- a pointer that gets a word keeps its holder
  comes_at : (s : Spot) (new : ℕ) (h : Hand) → StillHand h → Gives StillHand (arrived_at s new h)
  comes_at s new h g = over_gives StillHand StillHand (set_pointer s new h) (with_phase phase.Got) (sets quiet y 0 s new h g) (λ h2 u. u)

  -- the same in a slot
  comes_slot : (old new j : ℕ) (h : Hand) → StillHand h → Gives StillHand (arrived_slot old new j h)
  comes_slot old new j h g = test_gives StillHand (waits_under old (slice_get h.thread.slots j)) _ (λ z. comes_at (in_slot j) new h g)

  -- one hop more, where one is left
  comes_write : (w : Lval) (new : ℕ) (h : Hand) → h.thread.passed + 1 ≤ hops_of (Some i) y → StillHand h → Gives StillHand (arrived_write w new h)
  comes_write w new h l g = then_gives StillHand (passed_spot (write_stars h.thread.passed 0 h (in_slot w.slot))) _ (λ s q. comes_at s new (passing (h.thread.passed + 1) h) (g.0, l))

  -- for a mutable borrow nothing is passed
  comes_lend : (slot d old new : ℕ) (h : Hand) → StillHand h → Gives StillHand (arrived_lend slot d old new h)
  comes_lend slot zero old new h g = tt
  comes_lend slot (suc zero) old new h g = g
  comes_lend slot (suc (suc d)) old new h g = by (waits_under old (slice_get h.thread.slots (chased d h.thread.slots slot)))
    where
      by : (b : Bool) → Gives StillHand (if b then arrived_at (in_slot (chased d h.thread.slots slot)) new h else Some (with_phase (phase.Taken new) h))
      by true = comes_at (in_slot (chased d h.thread.slots slot)) new h g
      by false = g

  -- what is known of a thread that waits for a word: it waits in turn on its path
  module _ (q : Sight) (x : Standing) (same : x.thread ≡ y) where
    abbrev Turns : ℕ → Path → Type 0
    Turns w p = not_asked q x w (in_turn q x w p) ≡ 0

    left_by : (w : ℕ) (p : Lval) → not_asked q x w (next_hop q x p) ≡ 0 → y.passed + 1 ≤ p.depth
    left_by w p z = by (nat_lt x.thread.passed p.depth) refl z
      where
        by : (b : Bool) → nat_lt x.thread.passed p.depth ≡ b → not_asked q x w (if b then Rattle.law_counts_things.specs.Below.coherent_memory.Walking.first_of (paths.to_write (Rattle.law_counts_things.specs.Below.coherent_memory.Follow.hop_at q.ground x.thread.number p x.thread.passed)) else None) ≡ 0 → y.passed + 1 ≤ p.depth
        by true e z = let low : x.thread.passed + 1 ≤ p.depth = grind (arith, nat_tests, e) in subst (λ (t : ThreadState). t.passed + 1 ≤ p.depth) same low
        by false e z = absurd (cc z)

    comes_end : (s : Spot) (o : Option Value) (w old new : ℕ) (h : Hand) → w ≡ old → h.thread.passed ≡ y.passed → hop_count (written_place (paths.ending o)) ≡ hops_of (Some i) y → Turns w (paths.ending o) → StillHand h → Gives StillHand (arrived_end s o old new h)
    comes_end s (Some (value.Mut r)) w old new h e m d z g = by (r.word == old) (subst (λ n. not_asked q x w (if r.word == n then Rattle.law_counts_things.specs.Below.coherent_memory.Walking.first_of (paths.to_write (Some (value.Mut r))) else next_hop q x r.holder) ≡ 0) e z)
      where
        by : (b : Bool) → not_asked q x w (if b then Rattle.law_counts_things.specs.Below.coherent_memory.Walking.first_of (paths.to_write (Some (value.Mut r))) else next_hop q x r.holder) ≡ 0 → Gives StillHand (if b then arrived_at s new h else arrived_write r.holder new h)
        by true z2 = comes_at s new h g
        by false z2 = comes_write r.holder new h (omega (arith, left_by w r.holder z2, m, d)) g
    comes_end s _ w old new h e m d z g = tt

    comes_for : (j : Instr) (w old new : ℕ) (h : Hand) → i ≡ j → w ≡ old → h.thread ≡ y → Turns w (path_of (Some j) y) → StillHand h → Gives StillHand (arrived (access_of j h.thread) old new h)
    comes_for (instr.Assign p o) w old new h k e t z g =
        let turns : Turns w (assigning h.thread.slots p p.depth) = subst (λ (c : ThreadState). Turns w (assigning c.slots p p.depth)) (sym t) z in
        let hops : hop_count (written_place (assigning h.thread.slots p p.depth)) ≡ hops_of (Some i) y = ap (λ (c : ThreadState). hop_count (written_place (assigning c.slots p p.depth))) t ∙ sym (ap (λ c. hops_of (Some c) y) k) in
        by p.depth refl hops turns
      where
        ended : (c : Option Value) → slice_get h.thread.slots p.slot ≡ c → hop_count (written_place (paths.ending c)) ≡ hops_of (Some i) y → Turns w (paths.ending c) → Gives StillHand (arrived (ending (in_slot p.slot) c) old new h)
        ended (Some (value.Mut r)) c hops z2 =
            subst (λ v. Gives StillHand (arrived_end (in_slot p.slot) v old new h)) (sym c) (comes_end (in_slot p.slot) (Some (value.Mut r)) w old new h e (ap (λ (b : ThreadState). b.passed) t) hops z2 g)
        ended None c hops z2 = tt
        ended (Some value.Gone) c hops z2 = tt
        ended (Some (value.Own v)) c hops z2 = tt
        ended (Some (value.SharedSlot j)) c hops z2 = tt
        ended (Some (value.MutSlot j)) c hops z2 = tt
        ended (Some (value.Shared r)) c hops z2 = tt
        ended (Some (value.Held m)) c hops z2 = tt

        by : (n : ℕ) → p.depth ≡ n → hop_count (written_place (assigning h.thread.slots p n)) ≡ hops_of (Some i) y → Turns w (assigning h.thread.slots p n) → Gives StillHand (arrived (assigned p n h.thread) old new h)
        by zero d hops z2 = ended (slice_get h.thread.slots p.slot) refl hops z2
        by (suc n) d hops z2 = comes_write p new h (let m : h.thread.passed ≡ y.passed = ap (λ (b : ThreadState). b.passed) t in omega (arith, left_by w p z2, m, hops)) g
    comes_for (instr.Read p true) w old new h k e t z g = by p.depth (sym (ap (λ c. hops_of (Some c) y) k)) z
      where
        by : (n : ℕ) → hop_count (written_place (taking p n)) ≡ hops_of (Some i) y → Turns w (taking p n) → Gives StillHand (arrived (Some (read_or_taken p n true)) old new h)
        by zero hops z2 = comes_slot old new (chased (p.depth - 1) h.thread.slots p.slot) h g
        by (suc n) hops z2 = comes_write p new h (let m : h.thread.passed ≡ y.passed = ap (λ (b : ThreadState). b.passed) t in omega (arith, left_by w p z2, m, hops)) g
    comes_for (instr.Read p false) w old new h k e t z g = by p.depth
      where
        by : (n : ℕ) → Gives StillHand (arrived (Some (read_or_taken p n false)) old new h)
        by zero = comes_slot old new (chased (p.depth - 1) h.thread.slots p.slot) h g
        by (suc n) = comes_slot old new (chased (p.depth - 1) h.thread.slots p.slot) h g
    comes_for (instr.Borrow p) w old new h k e t z g = comes_slot old new (chased (p.depth - 1) h.thread.slots p.slot) h g
    comes_for (instr.BorrowMut p) w old new h k e t z g = comes_lend p.slot p.depth old new h g
    comes_for (instr.Dup p) w old new h k e t z g = comes_slot old new (chased (p.depth - 1) h.thread.slots p.slot) h g
    comes_for (instr.Lock p) w old new h k e t z g = comes_slot old new (chased (p.depth - 1) h.thread.slots p.slot) h g
    comes_for instr.Discard w old new h k e t z g = by (last_of h.thread.temps) refl (ap (λ (c : ThreadState). hop_count (written_place (paths.ending (last_of c.temps)))) t ∙ sym (ap (λ c. hops_of (Some c) y) k)) (subst (λ (c : ThreadState). Turns w (paths.ending (last_of c.temps))) (sym t) z)
      where
        by : (c : Option Value) → last_of h.thread.temps ≡ c → hop_count (written_place (paths.ending c)) ≡ hops_of (Some i) y → Turns w (paths.ending c) → Gives StillHand (arrived (ending on_top c) old new h)
        by (Some (value.Mut r)) c hops z2 =
            subst (λ v. Gives StillHand (arrived_end on_top v old new h)) (sym c) (comes_end on_top (Some (value.Mut r)) w old new h e (ap (λ (b : ThreadState). b.passed) t) hops z2 g)
        by None c hops z2 = tt
        by (Some value.Gone) c hops z2 = tt
        by (Some (value.Own v)) c hops z2 = tt
        by (Some (value.SharedSlot j)) c hops z2 = tt
        by (Some (value.MutSlot j)) c hops z2 = tt
        by (Some (value.Shared r)) c hops z2 = tt
        by (Some (value.Held m)) c hops z2 = tt
    comes_for instr.DropSlot w old new h k e t z g = by (last_of h.thread.slots) refl (ap (λ (c : ThreadState). hop_count (written_place (paths.ending (last_of c.slots)))) t ∙ sym (ap (λ c. hops_of (Some c) y) k)) (subst (λ (c : ThreadState). Turns w (paths.ending (last_of c.slots))) (sym t) z)
      where
        s : Spot
        s = in_slot (length h.thread.slots - 1)

        by : (c : Option Value) → last_of h.thread.slots ≡ c → hop_count (written_place (paths.ending c)) ≡ hops_of (Some i) y → Turns w (paths.ending c) → Gives StillHand (arrived (ending s c) old new h)
        by (Some (value.Mut r)) c hops z2 = subst (λ v. Gives StillHand (arrived_end s v old new h)) (sym c) (comes_end s (Some (value.Mut r)) w old new h e (ap (λ (b : ThreadState). b.passed) t) hops z2 g)
        by None c hops z2 = tt
        by (Some value.Gone) c hops z2 = tt
        by (Some (value.Own v)) c hops z2 = tt
        by (Some (value.SharedSlot j)) c hops z2 = tt
        by (Some (value.MutSlot j)) c hops z2 = tt
        by (Some (value.Shared r)) c hops z2 = tt
        by (Some (value.Held m)) c hops z2 = tt
    comes_for (instr.Let o) w old new h k e t z g = tt
    comes_for (instr.Box o) w old new h k e t z g = tt
    comes_for (instr.Arith f a b) w old new h k e t z g = tt
    comes_for (instr.Print o) w old new h k e t z g = tt
    comes_for (instr.Spawn cs pc) w old new h k e t z g = tt
    comes_for (instr.Join o) w old new h k e t z g = tt
    comes_for (instr.Mutex o) w old new h k e t z g = tt
    comes_for instr.Unlock w old new h k e t z g = tt
    comes_for (instr.Par cs pc ds other) w old new h k e t z g = tt
    comes_for instr.ParEnd w old new h k e t z g = tt
    comes_for (instr.End o) w old new h k e t z g = tt

-- a thread that was changed where its place isn't seen
seen_within : (code : List Instr) (y t : ThreadState) → t.pc ≡ y.pc → t.slots ≡ y.slots → t.temps ≡ y.temps → t.passed ≡ y.passed → Within code y → Within code t
seen_within code y t a b c d p =
    let same : hops_of (slice_get code t.pc) t ≡ hops_of (slice_get code y.pc) t = ap (λ n. hops_of (slice_get code n) t) a in
    omega (arith, same, by (slice_get code y.pc), d, p)
  where
    by : (o : Option Instr) → hops_of o t ≡ hops_of o y
    by None = refl
    by (Some i) = same_hops i y t (ap depths b) (ap depths c)

-- ANSWERS

record Waited (p : Phase) (old : ℕ) : Type 0 where
  word : ℕ
  was : p ≡ phase.WaitCell word
  same : word ≡ old

-- a thread that waits for that word
waits_cell : (p : Phase) (old : ℕ) → waits_for_cell p old ≡ true → Waited p old
waits_cell (phase.WaitCell v) old e = record { word = v; was = refl; same = grind (arith, nat_tests, e) }
waits_cell p old e = absurd (cc e)

module _ (code : List Instr) (y : ThreadState) (p : Within code y) where
  abbrev Fine : Hand → Type 0
  Fine h = Within code h.thread

  -- an object comes to a thread that waits in turn
  pub moved_within : (q : Sight) (x : Standing) → x.thread ≡ y → ((w : ℕ) → y.phase ≡ phase.WaitCell w → not_asked q x w (in_turn q x w (path_of (slice_get code y.pc) y)) ≡ 0)
      → (old : ℕ) (c : Cell) (h : Hand) → h.thread ≡ y → Gives Fine (deliver_moved code old c h)
  moved_within q x same turns old c h e =
      test_gives Fine (waits_for_cell h.thread.phase old) _ (λ z.
      let w = waits_cell h.thread.phase old z in
      let was : y.phase ≡ phase.WaitCell w.word = subst (λ (t : ThreadState). t.phase ≡ phase.WaitCell w.word) e w.was in
      then_gives Fine (issue_placed (act.Take c.object old) c h.work) _ (λ n d. by w (slice_get code h.thread.pc) (ap (λ (t : ThreadState). slice_get code t.pc) (sym e)) n (turns w.word was)))
    where
      over : (i : Instr) (at : slice_get code y.pc ≡ Some i) (o : Option Hand) → Gives (λ (h2 : Hand). Still code i y at h2.thread) o → Gives Fine o
      over i at None g = tt
      over i at (Some h2) g = within code i y at h2.thread g

      by : (w : Waited h.thread.phase old) (o : Option Instr) → slice_get code y.pc ≡ o → (n : NewWord) → not_asked q x w.word (in_turn q x w.word (path_of (slice_get code y.pc) y)) ≡ 0
          → Gives Fine (arrived (instr_access h o) old n.word (record h { work = n.work }))
      by w None at n z = tt
      by w (Some i) at n z =
          let h2 : Hand = record h { work = n.work } in
          over i at (arrived (access_of i h.thread) old n.word h2)
          (comes_for code i y at q x same i w.word old n.word h2 refl w.same e (subst (λ o. not_asked q x w.word (in_turn q x w.word (path_of o y)) ≡ 0) at z) (subst (λ (t : ThreadState). Still code i y at t) (sym e) (start code i y at p)))

  abbrev Like : ThreadState → Type 0
  Like t = (t.pc ≡ y.pc) × (t.slots ≡ y.slots) × (t.temps ≡ y.temps) × (t.passed ≡ y.passed)

  -- a thread is like itself
  like_self : (t : ThreadState) → t ≡ y → Like t
  like_self t e = (ap (λ (z : ThreadState). z.pc) e, ap (λ (z : ThreadState). z.slots) e, ap (λ (z : ThreadState). z.temps) e, ap (λ (z : ThreadState). z.passed) e)

  -- a use of a copy changes nothing of it
  uses_like : (v : ℕ) (b : Bool) (h : Hand) → Like h.thread → Gives (λ (h2 : Hand). Like h2.thread) (used_once v b h)
  uses_like v true h g = g
  uses_like v false h g = test_gives (λ (h2 : Hand). Like h2.thread) (can_pin h.work.rest.cache v) _ (λ z. g)

  -- a copy comes
  pub fetched_within : (v : ℕ) (c : Cell) (h : Hand) → h.thread ≡ y → Gives Fine (deliver_fetched v c h)
  fetched_within v c h e =
      test_gives Fine (waits_for_cell h.thread.phase v) _ (λ z. over_gives (λ (h2 : Hand). Like h2.thread) Fine (filled v c h) (λ h2. with_phase phase.Got (working (note (act.Fill c.object v)) h2))
      (test_gives (λ (h2 : Hand). Like h2.thread) (can_fill h.work.rest.cache v c) _ (λ d. uses_like v (is_in v h.thread.walk) _ (like_self h.thread e))) (λ h2 g. let t : ThreadState = record h2.thread { phase = phase.Got } in seen_within code y t g.0 g.1 g.2 g.3 p))
