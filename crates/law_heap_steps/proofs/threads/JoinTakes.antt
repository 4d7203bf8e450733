-- A join whose answer came, in the one heap: the thread goes on with the result, and the thread that it joined is over.
use Rattle.std.proofs.Common.{◌≡◌, ℕ, zero, suc, ◌+◌, ◌≤◌, ◌==◌, ◌||◌, Bool, true, false, List, [], ◌∷◌, ◌++◌, Option, Some, None, is_some, refl, sym, ap, ap₂, ◌∙◌, subst, arith}
use Rattle.std.specs.List.{AllByRecursion}
use Rattle.std.proofs.lemmas.Bool.{eqb-true}
use Rattle.law_heap_steps.proofs.Below.fr_typing.PlaceLemmas.{eq_cases}
use Rattle.law_heap_steps.specs.Below.fr_base.declared.label.Plain.TheVariants as plain
use Rattle.law_heap_steps.specs.Below.fr_base.declared.instruction.Operand.{Operand}
use Rattle.law_heap_steps.specs.Below.fr_base.declared.instruction.Instr.{Instr}
use Rattle.law_heap_steps.specs.Below.fr_base.declared.instruction.Instr.TheVariants as instr
use Rattle.law_heap_steps.specs.Below.heap_partition.Plain.{plain_of}
use Rattle.law_heap_steps.specs.Below.heap_partition.declared.value.Owned.{Owned}
use Rattle.law_heap_steps.specs.Below.heap_partition.declared.value.Owned.TheVariants as owned
use Rattle.law_heap_steps.specs.Below.fr_base.declared.name.MutexNo.{MutexNo}
use Rattle.law_heap_steps.specs.Below.thread_state.View.{ThreadState}
use Rattle.law_heap_steps.specs.Below.thread_state.declared.value.Value.{Value}
use Rattle.law_heap_steps.specs.Below.thread_state.declared.value.Value.TheVariants as value
use Rattle.law_heap_steps.specs.Below.server_model.declared.event.Event.{Event}
use Rattle.law_heap_steps.specs.Below.server_model.Servers.{Server, Cluster}
use Rattle.law_heap_steps.specs.Below.coherent_memory.Names.{tot, one, other, some, if_so}
use Rattle.law_heap_steps.specs.Below.coherent_memory.Things.{in_slot, in_temp, as_gift, as_content, as_result, in_hand, Thing, holds, lies, flies, stands, things_of}
use Rattle.law_heap_steps.specs.Below.coherent_memory.Follow.{Standing, thread_at}
use Rattle.law_heap_steps.specs.Below.coherent_memory.Sight.{Sight, sight}
use Rattle.law_heap_steps.specs.Below.coherent_memory.Paths.{joined_thread}
use Rattle.law_heap_steps.specs.Below.coherent_memory.Walking.{instr_of}
use Rattle.law_heap_steps.specs.Below.coherent_memory.Requests.{is_task, locked_mutex}
use Rattle.law_heap_steps.specs.Below.coherent_memory.Naming.{threads, uncounted_thread, zeroth_thread, named_mutexes, uncounted_mutex, zeroth_mutex}
use Rattle.law_heap_steps.specs.Below.coherent_memory.OneHeap.{Node, object_n, mutex_n, task_n, Owner, inside, content_owner, result_owner, gift_owner, gift_owner_of, spot_owner, owner_of, owns, names, owner_in, named_in, any_named, is_in_state, is_branch, if_in, or_else, first_shown, share_in, branch_result, is_joined_by, result_value, result_of, running_at, is_given_thread, state_of}
use Rattle.law_heap_steps.specs.Below.coherent_memory.Coherent.{IsSound}
use Rattle.law_heap_steps.proofs.Below.law_counts_sums.Bags.{had_by}
use Rattle.law_heap_steps.proofs.Below.law_heap_still.events.Alike.{Once}
use Rattle.law_heap_steps.proofs.Below.law_heap_still.events.Counting.{shown_result, gifted, stray}
use Rattle.law_heap_steps.proofs.Below.law_heap_still.events.Told.{told, ones}
use Rattle.law_heap_steps.proofs.turns.Parts.{Own, owned_in, own_named}
use Rattle.law_heap_steps.proofs.turns.OneTurn.{Calm}
use Rattle.law_heap_steps.proofs.turns.Instructions.{Pops, owned_push}
use Rattle.law_heap_steps.proofs.turns.Events.{AtStep}
use Rattle.law_heap_steps.proofs.mutexes.Reach.{SameOwners, NoneUnder, or_left, or_right, or_cases, with_extra, here, stays_in, comes_from}
use Rattle.law_heap_steps.proofs.mutexes.Beside.{giftless, IsBeside, so_one, mine, any_mine, first_with, tot_of}
use Rattle.law_heap_steps.proofs.mutexes.OneNode.{some_there, there_some, one_of_two, is_one}
use Rattle.law_heap_steps.proofs.mutexes.OneThread as one_thread
use Rattle.law_heap_steps.proofs.mutexes.OneThread.{past, none_got}
use Rattle.law_heap_steps.proofs.mutexes.Changed as changed
use Rattle.law_heap_steps.proofs.mutexes.ThreadTurns.{quiet}
use Rattle.law_heap_steps.proofs.mutexes.Gifted.{is_it, owner_there, gift_names, gift_shares, gift_result, gift_contents}
use Rattle.law_heap_steps.proofs.mutexes.NewMutex.{rest_and_own}
use Rattle.law_heap_steps.proofs.mutexes.SharedLines.{shown_counts}
use Rattle.law_heap_steps.proofs.threads.Taken as taken
use Rattle.law_heap_steps.proofs.threads.Taken.{ResultsTaken, Takes, branch_flat, value_flat, results_taken}

-- SMALL FACTS

itself_named : (u : ℕ) → (u == u) ≡ true
itself_named u = eq_cases (λ b. b ≡ true) u u (λ _. refl) (λ ne. absurd (ne refl))

-- who is named there at all
is_named : (b : Bool) (f : Node → Bool) (o : Owner) → named_in b f o ≡ true → b ≡ true
is_named true f o e = refl
is_named false f o e = absurd (cc e)

flip_owners : (s s2 : Sight) (xs : List Thing) → SameOwners s s2 xs → SameOwners s2 s xs
flip_owners s s2 [] h = tt
flip_owners s s2 (th ∷ xs) h = (sym h.0, flip_owners s s2 xs h.1)

none_too : (s s2 : Sight) (extra : Node → Bool) (xs : List Thing) → SameOwners s s2 xs → NoneUnder s extra xs → NoneUnder s2 extra xs
none_too s s2 extra [] h none = tt
none_too s s2 extra (th ∷ xs) h none = ((λ q d e. none.0 q d (h.0 ∙ e)), none_too s s2 extra xs h.1 none.1)

-- THE RESULT OF A TASK STANDS ONCE

-- where nothing shows a thread's result, and gifts have their threads, nothing is owned by it
module _ (r : Sight) (u : ℕ) where
  task_is : (o : Option ℕ) → result_owner o ≡ inside (task_n u) → o ≡ Some u
  task_is None e = absurd (cc e)
  task_is (Some w) e = let same : w ≡ u = cc in ap (λ z. Some z) same

  not_content : (o : Option MutexNo) → content_owner o ≡ inside (task_n u) → ⊥
  not_content None e = cc e
  not_content (Some m) e = cc e

  joined_gift : (z : Standing) → is_some z.thread.gift ≡ true → (i : Option Instr) → instr_of r z ≡ i → gift_owner r z i ≡ inside (task_n u) → is_joined_by r u (Some z) ≡ true
  joined_gift z g (Some (instr.Lock w)) q e = absurd (not_content (locked_mutex r z (Some (instr.Lock w))) e)
  joined_gift z g (Some (instr.Join o)) q e =
      ap₂ (λ b j. some (if_so b (one (is_task u (joined_thread j z.thread))))) g q
      ∙ ap (λ j. some (one (is_task u j))) (task_is (joined_thread (Some (instr.Join o)) z.thread) e) ∙ ap (λ b. some (one b)) (itself_named u)
  joined_gift z g _ q e = absurd (cc e)

  gift_shows : (o : Option Standing) → other (gifted o) ≡ 0 → gift_owner_of r o ≡ inside (task_n u) → is_joined_by r u o ≡ true
  gift_shows None g e = absurd (cc e)
  gift_shows (Some z) g e = joined_gift z (by (is_some z.thread.gift) g) (instr_of r z) refl e
    where
      by : (b : Bool) → other b ≡ 0 → b ≡ true
      by true l = refl
      by false l = absurd (cc l)

  shows_one : (b : Bool) (v : Owned) → b ≡ true → told ones (or_else None (if_in b (Some (plain_of v)))) ≡ 1
  shows_one b v e = ap (λ c. told ones (or_else None (if_in c (Some (plain_of v))))) e

  owns_none : (th : Thing) → told ones (shown_result r u th) ≡ 0 → stray r th ≡ 0 → owner_of r th ≡ inside (task_n u) → ⊥
  owns_none (holds (as_result w) v) c g e = let same : w ≡ u = cc in absurd (omega (arith, c, shows_one (w == u) v (ap (λ z. w == z) (sym same) ∙ itself_named w)))
  owns_none (holds (as_gift w) v) c g e = absurd (omega (arith, c, shows_one (is_joined_by r u (thread_at r.ground.threads w)) v (gift_shows (thread_at r.ground.threads w) g e)))
  owns_none (holds (as_content m) v) c g e = cc e
  owns_none (holds (in_slot w j) v) c g e = cc e
  owns_none (holds (in_temp w j) v) c g e = cc e
  owns_none (holds in_hand v) c g e = cc e
  owns_none (lies a b d) c g e = cc e
  owns_none (flies w d) c g e = cc e
  owns_none _ c g e = cc e

  pub none_owned : (extra : Node → Bool) → ((q : Node) → extra q ≡ true → q ≡ task_n u) → (xs : List Thing) → tot (λ v. told ones (shown_result r u v)) xs ≡ 0 → tot (stray r) xs ≡ 0 → NoneUnder r extra xs
  none_owned extra only [] c g = tt
  none_owned extra only (th ∷ xs) c g =
      ((λ q d e. owns_none th (omega (arith, c)) (omega (arith, g)) (e ∙ ap inside (only q d))), none_owned extra only xs (omega (arith, c)) (omega (arith, g)))

-- a task value counts its thread
module _ (u : ℕ) (f : ℕ → ℕ) where
  counts_owned : (v : Owned) → 1 ≤ f u → one (owns (task_n u) v) ≤ threads f (holds in_hand v)
  counts_owned (owned.Task w) l = eq_cases (λ b. one b ≤ f w) w u (λ e. let m : 1 ≤ f w = subst (λ z. 1 ≤ f z) (sym e) l in omega (arith, m)) (λ _. omega arith)
  counts_owned owned.Nothing l = omega arith
  counts_owned owned.Unit l = omega arith
  counts_owned (owned.Int i) l = omega arith
  counts_owned (owned.Box p) l = omega arith
  counts_owned (owned.Mutex m) l = omega arith

  counts_named : 1 ≤ f u → (th : Thing) → one (names (task_n u) th) ≤ threads f th
  counts_named l (holds p v) = counts_owned v l
  counts_named l (lies r a c) = let m = counts_owned c.value l in omega (arith, m)
  counts_named l (flies w c) = let m = counts_owned c.value l in omega (arith, m)
  counts_named l _ = omega arith

  all_named : 1 ≤ f u → (xs : List Thing) → tot (λ th. one (names (task_n u) th)) xs ≤ tot (threads f) xs
  all_named l [] = omega arith
  all_named l (th ∷ xs) = omega (arith, counts_named l th, all_named l xs)

  uncounted : (xs : List Thing) → 1 ≤ tot (λ th. one (names (task_n u) th)) xs → tot (threads f) xs ≡ 0 → f u ≡ 0
  uncounted xs n z = by (f u) refl
    where
      by : (i : ℕ) → f u ≡ i → f u ≡ 0
      by zero e = e
      by (suc i) e = absurd (omega (arith, n, z, all_named (omega (arith, e)) xs))

-- THE TURN

module _ (k : Cluster) (sound : IsSound k) (e : Event) (o : Operand) (s : Server) (t : ℕ) (x : ThreadState) (at : AtStep k e (instr.Join o) s t x) (v : Owned) (gift : x.gift ≡ Some v) (u : ℕ) (rest : List Value)
    (pops : Pops o x.temps (value.Own (owned.Task u)) rest) (joins : joined_thread (Some (instr.Join o)) x ≡ Some u) where
  abbrev i : Instr
  i = instr.Join o

  abbrev n : ℕ
  n = s.rest.number

  abbrev pub temps : List Value
  temps = rest ++ value.Own v ∷ []

  abbrev R : List Thing
  R = taken.R k sound e i s t x at (x.pc + 1) x.slots temps

  abbrev G : List Thing
  G = taken.G k sound e i s t x at (x.pc + 1) x.slots temps

  abbrev G2 : List Thing
  G2 = taken.G2 k sound e i s t x at (x.pc + 1) x.slots temps

  abbrev pub s1 : Sight
  s1 = taken.s1 k sound e i s t x at (x.pc + 1) x.slots temps

  abbrev pub s2 : Sight
  s2 = taken.s2 k sound e i s t x at (x.pc + 1) x.slots temps

  abbrev y : ThreadState
  y = past x (x.pc + 1) x.slots temps

  pub calm : Calm x.phase
  calm = quiet k sound e i refl s t x at

  beside : AllByRecursion IsBeside G
  beside = taken.beside k sound e i s t x at (x.pc + 1) x.slots temps

  -- the answer is the result of the task
  in_task : spot_owner s1 (as_gift x.number) ≡ inside (task_n u)
  in_task = owner_there k sound e i refl s t x at ∙ ap result_owner joins

  abbrev pub is_its : ℕ → Bool
  is_its r = r == u

  shown_there : (r : ℕ) → first_shown (result_value s1 r) G ≡ if_in (some (one (r == u))) (Some (plain_of v))
  shown_there r = gift_result k sound e i refl s t x at v gift r ∙ ap (λ j. if_in (some (one (is_task r j))) (Some (plain_of v))) joins

  shown_here : (r : ℕ) → is_its r ≡ true → first_shown (result_value s1 r) G ≡ Some (plain_of v)
  shown_here r m = shown_there r ∙ ap (λ b. if_in (some (one b)) (Some (plain_of v))) m

  counted : (r : ℕ) → is_its r ≡ true → 1 ≤ told ones (shown_result s1 r (stands n false x)) + tot (λ w. told ones (shown_result s1 r w)) G
  counted r m =
      let its = is_it k sound e i refl s t x at v gift in
      let all : first_shown (shown_result s1 r) G ≡ Some (plain_of v) = ap (first_shown (shown_result s1 r)) its ∙ sym (ap (first_shown (result_value s1 r)) its) ∙ shown_here r m in
      omega (arith, shown_counts (shown_result s1 r) G (plain_of v) all)

  -- WHO IS IN THE STATE

  abbrev In : Node → Bool
  In = is_in_state s1

  abbrev In2 : Node → Bool
  In2 = is_in_state s2

  abbrev own : Node → ℕ
  own q = owned_in q x.slots + owned_in q x.temps

  abbrev own2 : Node → ℕ
  own2 q = owned_in q x.slots + owned_in q temps

  own_then : (q : Node) → own2 q ≡ owned_in q x.slots + owned_in q rest + one (owns q v)
  own_then q = omega (arith, owned_push q rest (value.Own v))

  abbrev gone : Node → Bool
  gone q = owns q (owned.Task u)

  only : (q : Node) → gone q ≡ true → q ≡ task_n u
  only (object_n w) f = absurd (cc f)
  only (mutex_n w) f = absurd (cc f)
  only (task_n w) f = ap (λ z. task_n z) (sym (eqb-true u w f))

  none1 : NoneUnder s1 gone R
  none1 =
      let flat : Own (λ w. stray s1 w ≡ 0) = record { slots = λ a j w. refl; temps = λ a j w. refl; shared = λ l m. refl; lent = λ l m. refl; marks = λ l m. refl; used = λ a m. refl } in
      let z = changed.none_stray k sound e s at.here t x at.at at.number in
      none_owned s1 u gone only R (taken.sums k sound e i s t x at (x.pc + 1) x.slots temps calm.goes is_its counted u (itself_named u)).0 (omega (arith, z, tot_of n x G R (stray s1) flat))

  same1 : SameOwners s1 s2 R
  same1 = one_thread.same_owners k R G G2 n x (taken.z k sound e i s t x at (x.pc + 1) x.slots temps) beside (tt, tt) (taken.lone1 k sound e i s t x at (x.pc + 1) x.slots temps) (taken.locks k sound e i s t x at (x.pc + 1) x.slots temps)

  same2 : SameOwners s2 s1 R
  same2 = flip_owners s1 s2 R same1

  has : (q : Node) → 1 ≤ own q → In q ≡ true
  has q l = here k (mine n x G) R q (any_mine n x G s1 In q ∙ or_right (any_named s1 In q G) (some (own q)) (there_some (own q) l))

  has2 : (q : Node) → 1 ≤ own2 q → In2 q ≡ true
  has2 q l = here k (mine n y G2) R q (any_mine n y G2 s2 In2 q ∙ or_right (any_named s2 In2 q G2) (some (own2 q)) (there_some (own2 q) l))

  -- the task was in it
  in_it : In (task_n u) ≡ true
  in_it = has (task_n u) (omega (arith, pops.owned (task_n u), ap one (itself_named u)))

  gift_has : (f : Node → Bool) (q : Node) → any_named s1 f q G ≡ named_in (owns q v) f (inside (task_n u))
  gift_has f q = gift_names k sound e i refl s t x at v gift f q ∙ ap (named_in (owns q v) f) in_task

  gift_in : (q : Node) → owns q v ≡ true → In q ≡ true
  gift_in q h = here k (mine n x G) R q (any_mine n x G s1 In q ∙ or_left (any_named s1 In q G) (some (own q)) (gift_has In q ∙ ap (λ b. named_in b In (inside (task_n u))) h ∙ in_it))

  come : (q : Node) → In2 q ≡ true → In q ≡ true
  come = stays_in k (mine n y G2) (mine n x G) R same2 (λ q f. by q (some_there (own2 q) (sym (any_mine n y G2 s2 In q) ∙ f)))
    where
      by : (q : Node) → 1 ≤ own2 q → In q ≡ true
      by q l =
          one_of_two (owned_in q x.slots + owned_in q rest) (one (owns q v)) (In q ≡ true) (λ m. has q (omega (arith, m, pops.owned q)))
          (λ m. gift_in q (is_one (owns q v) m)) (omega (arith, l, own_then q))

  abbrev F : Node → Bool
  F = with_extra In2 gone

  stay : (q : Node) → In q ≡ true → F q ≡ true
  stay =
      comes_from k (mine n y G2) (mine n x G) R same2 gone (none_too s1 s2 gone R same1 none1)
      (λ q f. or_cases (any_named s1 F q G) (some (own q)) (F q ≡ true) (by_gift q) (by_own q) (sym (any_mine n x G s1 F q) ∙ f))
    where
      by_gift : (q : Node) → any_named s1 F q G ≡ true → F q ≡ true
      by_gift q f = or_left (In2 q) (gone q) (has2 q (omega (arith, own_then q, ap one (is_named (owns q v) F (inside (task_n u)) (sym (gift_has F q) ∙ f)))))

      by_own : (q : Node) → some (own q) ≡ true → F q ≡ true
      by_own q f =
          one_of_two (owned_in q x.slots + owned_in q rest) (one (gone q)) (F q ≡ true) (λ m. or_left (In2 q) (gone q) (has2 q (omega (arith, m, own_then q))))
          (λ m. or_right (In2 q) (gone q) (is_one (gone q) m)) (omega (arith, some_there (own q) f, pops.owned q))

  same_in : (q : Node) → gone q ≡ false → In q ≡ In2 q
  same_in q off = by (In q) refl (In2 q) refl
    where
      by : (c : Bool) → In q ≡ c → (d : Bool) → In2 q ≡ d → In q ≡ In2 q
      by true f true g = f ∙ sym g
      by false f false g = f ∙ sym g
      by false f true g = absurd (cc (sym f ∙ come q g))
      by true f false g = or_cases (In2 q) (gone q) (In q ≡ In2 q) (λ d. absurd (cc (sym g ∙ d))) (λ d. absurd (cc (sym off ∙ d))) (stay q f)

  -- THE RESULT

  result_before : (r : ℕ) → is_its r ≡ true → result_of s1 r ≡ Some (plain_of v)
  result_before r m =
      let branch = branch_flat k sound e i s t x at (x.pc + 1) x.slots temps r in
      let values = value_flat k sound e i s t x at (x.pc + 1) x.slots temps s1 r in
      let others = taken.rest_none k sound e i s t x at (x.pc + 1) x.slots temps calm.goes is_its counted r m in
      let lone1 = taken.lone1 k sound e i s t x at (x.pc + 1) x.slots temps in
      let none_here : branch_result r (stands n false x) ≡ None = ap (λ a. if_in (some a) (Some plain.Unit)) (none_got r x.phase calm.alone) in
      let none : first_shown (branch_result r) s1.things ≡ None =
      first_with n x G R (branch_result r) branch ∙ ap₂ or_else none_here (ap₂ or_else (one_thread.no_done k R G G2 n x (taken.z k sound e i s t x at (x.pc + 1) x.slots temps) beside (tt, tt) lone1 (taken.locks k sound e i s t x at (x.pc + 1) x.slots temps) gone none1 same_in r G beside) others.0) in
      let shown : first_shown (result_value s1 r) s1.things ≡ Some (plain_of v) =
      first_with n x G R (result_value s1 r) values ∙ ap (λ a. or_else a (first_shown (result_value s1 r) R)) (shown_here r m) in
      let owed : is_branch s1 r || In (task_n r) ≡ true = or_right (is_branch s1 r) (In (task_n r)) (ap (λ a. In (task_n a)) (eqb-true r u m) ∙ in_it) in
      ap₂ or_else none (ap₂ if_in owed shown)

  -- its name was given
  uncounted_here : (f : ℕ → ℕ) → tot (threads f) (things_of k) ≡ 0 → f u ≡ 0
  uncounted_here f z =
      let had = had_by n (giftless x) in
      let l = rest_and_own k sound e s at.here t x at.at at.number (threads f) in
      uncounted u f had (omega (arith, own_named (task_n u) n (giftless x) refl, pops.owned (task_n u), ap one (itself_named u))) (omega (arith, z, l))

  given : is_given_thread s1 u ≡ true
  given =
      let counts : tot (threads (uncounted_thread (sight k))) (things_of k) + tot (named_mutexes (uncounted_mutex (sight k))) (things_of k) ≡ 0 = sound.names.names_counted in
      let from_one : tot (threads zeroth_thread) (things_of k) + tot (named_mutexes zeroth_mutex) (things_of k) ≡ 0 = sound.names.counts_from_one in
      taken.given_by k sound e i s t x at (x.pc + 1) x.slots temps u (uncounted_here (uncounted_thread (sight k)) (omega (arith, counts))) (uncounted_here zeroth_thread (omega (arith, from_one)))

  -- THE STATE

  takes : Takes k sound e i s t x at (x.pc + 1) x.slots temps calm.goes is_its counted (plain_of v) gone
  takes = record {
    result = result_before;
    its_given = λ r m. subst (λ a. is_given_thread s1 a ≡ true) (sym (eqb-true r u m)) given;
    silent = λ r off. ap (λ a. if_in (some a) (Some plain.Unit)) (none_got r x.phase calm.alone);
    results = λ r off. shown_there r ∙ ap (λ b. if_in (some (one b)) (Some (plain_of v))) off;
    contents = λ m. gift_contents k sound e i refl s t x at v gift m;
    none = none1;
    same = same_in;
    no_object = λ a. refl;
    no_mutex = λ m. refl;
    no_other = λ r off. eq_cases (λ b. b ≡ false) u r (λ f. absurd (cc (sym off ∙ ap (λ a. a == u) (sym f) ∙ itself_named u))) (λ _. refl);
    shares = λ m.
        let there : tot (share_in s1 m) G ≡ one (owns (mutex_n m) v) = gift_shares k sound e i refl s t x at v gift m ∙ ap (λ a. if_so (owns (mutex_n m) v) (one (owner_in In a))) in_task ∙ ap (λ b. if_so (owns (mutex_n m) v) (one b)) in_it ∙ so_one (owns (mutex_n m) v) in
        omega (arith, there, pops.owned (mutex_n m), own_then (mutex_n m));
  }

  pub result_taken : ResultsTaken x.number is_its (plain_of v) (running_at x) (running_at y) (state_of s1) (state_of s2)
  result_taken = results_taken k sound e i s t x at (x.pc + 1) x.slots temps calm.goes is_its counted takes

  pub once_then : Once s2
  once_then = taken.once_then k sound e i s t x at (x.pc + 1) x.slots temps calm.goes
