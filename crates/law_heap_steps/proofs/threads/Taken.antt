-- A thread goes on, and results that show at that thread alone are taken: their threads are over then, and all else is as it was.
use Rattle.std.proofs.Common.{◌≡◌, ◌≢◌, ℕ, ◌+◌, ◌≤◌, ◌==◌, ◌||◌, not, Bool, true, false, if◌then◌else◌, List, [], ◌∷◌, ◌++◌, Option, Some, None, refl, sym, ap, ap₂, ◌∙◌, subst, arith}
use Rattle.std.specs.Prelude.{◌&&◌}
use Rattle.std.specs.List.{AllByRecursion}
use Rattle.law_heap_steps.proofs.Below.fr_typing.PlaceLemmas.{eq_cases}
use Rattle.law_heap_steps.specs.Below.fr_base.declared.name.MutexNo.{MutexNo}
use Rattle.law_heap_steps.specs.Below.fr_base.declared.name.ObjNo.{ObjNo}
use Rattle.law_heap_steps.specs.Below.fr_base.declared.label.Plain.{Plain}
use Rattle.law_heap_steps.specs.Below.fr_base.declared.instruction.Instr.{Instr}
use Rattle.law_heap_steps.specs.Below.fr_plain.declared.value.Value.TheVariants.{Own as OwnValue}
use Rattle.law_heap_steps.specs.Below.fr_plain.MachineThreads.{over, ended}
use Rattle.law_heap_steps.specs.Below.fr_code.Machine.{CodeState, CodeRunning}
use Rattle.law_heap_steps.specs.Below.heap_partition.declared.value.Owned.{Owned}
use Rattle.law_heap_steps.specs.Below.thread_state.View.{ThreadState, is_over}
use Rattle.law_heap_steps.specs.Below.thread_state.declared.value.Value.{Value}
use Rattle.law_heap_steps.specs.Below.server_model.declared.event.Event.{Event}
use Rattle.law_heap_steps.specs.Below.server_model.Servers.{Server, Cluster}
use Rattle.law_heap_steps.specs.Below.coherent_memory.Names.{tot, one, some}
use Rattle.law_heap_steps.specs.Below.coherent_memory.Things.{Thing, stands, gift_things, things_of}
use Rattle.law_heap_steps.specs.Below.coherent_memory.Follow.{Standing, threads_in, thread_at}
use Rattle.law_heap_steps.specs.Below.coherent_memory.Sight.{Sight, sight, with_things}
use Rattle.law_heap_steps.specs.Below.coherent_memory.Requests.{home_of}
use Rattle.law_heap_steps.specs.Below.coherent_memory.Sharing.{has_ended}
use Rattle.law_heap_steps.specs.Below.coherent_memory.Naming.{count_of, started_at, made_at, uncounted_thread, zeroth_thread}
use Rattle.law_heap_steps.specs.Below.coherent_memory.Weights.{is_thread}
use Rattle.law_heap_steps.specs.Below.coherent_memory.OneHeap.{Node, object_n, mutex_n, task_n, is_in_state, is_branch, if_in, or_else, first_shown, cell_value, share_in, content_value, in_pair_of, branch_result, result_value, result_of, ended_with, running_at, life_of, life_at, pair_of, is_given_thread, if_given, state_of}
use Rattle.law_heap_steps.specs.Below.coherent_memory.Coherent.{IsSound}
use Rattle.law_heap_steps.proofs.Below.law_counts_sums.Bags.{counts_of}
use Rattle.law_heap_steps.proofs.Below.law_heap_still.events.Alike.{Once}
use Rattle.law_heap_steps.proofs.Below.law_heap_still.events.Counting.{shown_result}
use Rattle.law_heap_steps.proofs.Below.law_heap_still.events.Told.{told, ones, at_most}
use Rattle.law_heap_steps.proofs.Below.law_words_paths.paths.Contained.{among_thread}
use Rattle.law_heap_steps.proofs.turns.Parts.{Own, owned_in}
use Rattle.law_heap_steps.proofs.turns.OneTurn.{Going, life_as, going_of, going_is, of_thread, after}
use Rattle.law_heap_steps.proofs.turns.Events.{AtStep, given_by_count}
use Rattle.law_heap_steps.proofs.mutexes.Reach.{NoneUnder}
use Rattle.law_heap_steps.proofs.mutexes.Beside.{IsBeside, IsLoose, loose_beside, all_so, gift_uncounted, all_of, first_with, tot_of, itself, cells_of}
use Rattle.law_heap_steps.proofs.mutexes.ThreadTurns.{gift_loose}
use Rattle.law_heap_steps.proofs.mutexes.OneThread as one_thread
use Rattle.law_heap_steps.proofs.mutexes.OneThread.{past, first_alike}
use Rattle.law_heap_steps.proofs.mutexes.Changed as changed

-- one thread goes on, the results of these are taken, which are that value, and the others are as they were
pub record ResultsTaken (t : ℕ) (is_its : ℕ → Bool) (v : Plain) (p q : CodeRunning) (a b : CodeState) : Type 0 where
  pub way : Going
  pub before : a.thread t ≡ Some (life_as way p)
  pub afterwards : b.thread t ≡ Some (life_as way q)
  pub differ : (u : ℕ) → is_its u ≡ true → t ≢ u
  pub ended_before : (u : ℕ) → is_its u ≡ true → a.thread u ≡ Some (ended (OwnValue v))
  pub taken : (u : ℕ) → is_its u ≡ true → b.thread u ≡ Some over
  pub others : (u : ℕ) → t ≢ u → is_its u ≡ false → a.thread u ≡ b.thread u
  pub made : (u : ℕ) → a.made u ≡ b.made u
  pub alone : b.pair t ≡ None
  pub pairs : (u : ℕ) → t ≢ u → a.pair u ≡ b.pair u
  pub objects : (o : ObjNo) → a.object o ≡ b.object o
  pub mutexes : (m : MutexNo) → a.mutex m ≡ b.mutex m
  pub given : (m : MutexNo) → a.is_given m ≡ b.is_given m

-- where none is shown, nothing shows one
pub none_shown_there : (s : Sight) (r : ℕ) (xs : List Thing) → tot (λ v. told ones (shown_result s r v)) xs ≡ 0 → (first_shown (branch_result r) xs ≡ None) × (first_shown (result_value s r) xs ≡ None)
none_shown_there s r [] z = (refl, refl)
none_shown_there s r (th ∷ xs) z =
    let go = none_shown_there s r xs (omega (arith, z)) in
    let two = by (branch_result r th) (result_value s r th) (omega (arith, z)) in
    (ap₂ or_else two.0 go.0, ap₂ or_else two.1 go.1)
  where
    by : (o p : Option Plain) → told ones (or_else o p) ≡ 0 → (o ≡ None) × (p ≡ None)
    by None None e = (refl, refl)
    by None (Some v) e = absurd (cc e)
    by (Some u) p e = absurd (cc e)

pub ended_there : (t : ℕ) (x : Thing) → has_ended t x ≤ is_thread t x
ended_there t (stands r p x) = at_most_one (x.number == t) (not (x.number == 0) && is_over x.phase)
  where
    at_most_one : (p q : Bool) → one (p && q) ≤ one p
    at_most_one true true = omega arith
    at_most_one true false = omega arith
    at_most_one false q = omega arith
ended_there t _ = omega arith

-- where a thread of that number has ended, and no two have it, the found one is over
over_found : (t : ℕ) (xs : List Thing) → tot (is_thread t) xs ≤ 1 → 1 ≤ tot (has_ended t) xs → (w : Standing) → thread_at (threads_in xs) t ≡ Some w → is_over w.thread.phase ≡ true
over_found t [] few l w e = absurd (omega (arith, l))
over_found t (stands s p x ∷ xs) few l w e =
    eq_cases (λ b. (if b then Some (record { server = s; packed = p; thread = x }) else thread_at (threads_in xs) t) ≡ Some w → one b + tot (is_thread t) xs ≤ 1 → 1 ≤ one (b && (not (x.number == 0) && is_over x.phase)) + tot (has_ended t) xs → is_over w.thread.phase ≡ true) x.number t
    (λ _ f g h. let same : record { server = s; packed = p; thread = x } ≡ w = cc in subst (λ (v : Standing). is_over v.thread.phase ≡ true) same (by (not (x.number == 0)) (is_over x.phase) (omega (arith, g, h, at_most (has_ended t) (is_thread t) (ended_there t) xs))))
    (λ _ f g h. over_found t xs (omega (arith, g)) (omega (arith, h)) w f) e few l
  where
    by : (p q : Bool) → 1 ≤ one (p && q) → q ≡ true
    by true true l = refl
    by true false l = absurd (omega (arith, l))
    by false q l = absurd (omega (arith, l))
over_found t (_ ∷ xs) few l w e = over_found t xs (omega (arith, few)) (omega (arith, l)) w e

pub none_if : (b : Bool) → if_in b None ≡ None
none_if true = refl
none_if false = refl

module _ (k : Cluster) (sound : IsSound k) (e : Event) (i : Instr) (s : Server) (t : ℕ) (x : ThreadState) (at : AtStep k e i s t x) (pc : ℕ) (slots temps : List Value) where
  abbrev n : ℕ
  n = s.rest.number

  abbrev pub R : List Thing
  R = changed.R k sound e s at.here t x at.at at.number

  abbrev pub G : List Thing
  G = changed.G k sound e s at.here t x at.at at.number

  abbrev counts_here : Thing
  counts_here = counts_of n s.events s.rest

  -- afterwards the counts alone stand beside the thread
  abbrev pub G2 : List Thing
  G2 = counts_of n 0 s.rest ∷ []

  abbrev pub z : ThreadState
  z = after x pc slots temps

  abbrev y : ThreadState
  y = past x pc slots temps

  abbrev pub s1 : Sight
  s1 = with_things k (all_of n x G R)

  abbrev pub s2 : Sight
  s2 = with_things k (all_of n y G2 R)

  loose : AllByRecursion IsLoose G
  loose = gift_loose x.number counts_here tt x.gift

  pub beside : AllByRecursion IsBeside G
  beside = all_so IsLoose IsBeside loose_beside G loose

  pub lone1 : tot (of_thread x.number) R ≡ 0
  lone1 = changed.lone k sound e s at.here t x at.at at.number

  pub locks : one_thread.LocksStay k R G G2 n x z
  locks = one_thread.locks_stay k R G G2 n x z beside (tt, tt) lone1 (cells_of n x G R loose ∙ sym (cells_of n y G2 R (tt, tt)))

  pub once1 : Once s1
  once1 = changed.once_before k sound e s at.here t x at.at at.number

  -- a name that is counted was given
  pub given_by : (r : ℕ) → uncounted_thread (sight k) r ≡ 0 → zeroth_thread r ≡ 0 → is_given_thread s1 r ≡ true
  given_by r named first =
      ap (λ m. r == 0 || (not (count_of r == 0) && some m)) (sym (changed.same_things k sound e s at.here t x at.at at.number (started_at (home_of r) (count_of r))))
      ∙ given_by_count (count_of r == 0) (r == 0) (some (tot (started_at (home_of r) (count_of r)) (things_of k))) first named

  pub branch_flat : (r : ℕ) → Own (λ v. branch_result r v ≡ None)
  branch_flat r = record { slots = λ u j v. refl; temps = λ u j v. refl; shared = λ l w. refl; lent = λ l w. refl; marks = λ l w. refl; used = λ u w. refl }

  pub value_flat : (w : Sight) (r : ℕ) → Own (λ v. result_value w r v ≡ None)
  value_flat w r = record { slots = λ u j v. refl; temps = λ u j v. refl; shared = λ l m. refl; lent = λ l m. refl; marks = λ l m. refl; used = λ u m. refl }

  abbrev pub owed : Sight → ℕ → Bool
  owed w r = is_branch w r || is_in_state w (task_n r)

  seen_there : (u : ℕ) → x.number ≢ u → thread_at (threads_in s1.things) u ≡ thread_at (threads_in s2.things) u
  seen_there u ne = one_thread.other_seen k R G G2 n x z beside (tt, tt) lone1 u ne

  -- RESULTS THAT SHOW AT THE THREAD

  module _ (goes : is_over x.phase ≡ false) (is_its : ℕ → Bool) (counted : (r : ℕ) → is_its r ≡ true → 1 ≤ told ones (shown_result s1 r (stands n false x)) + tot (λ v. told ones (shown_result s1 r v)) G) where
    module _ (r : ℕ) (mine_too : is_its r ≡ true) where
      pub sums : (tot (λ v. told ones (shown_result s1 r v)) R ≡ 0) × (1 ≤ tot (has_ended r) s1.things)
      sums =
          let flat : Own (λ v. told ones (shown_result s1 r v) ≡ 0) = record { slots = λ u j v. refl; temps = λ u j v. refl; shared = λ l m. refl; lent = λ l m. refl; marks = λ l m. refl; used = λ u m. refl } in
          let all = tot_of n x G R (λ v. told ones (shown_result s1 r v)) flat in
          let most = at_most (has_ended r) (is_thread r) (ended_there r) s1.things in
          (omega (arith, counted r mine_too, all, once1.ends r, most, once1.threads r), omega (arith, counted r mine_too, all, once1.ends r))

      -- no other thing shows it
      pub rest_none : (first_shown (branch_result r) R ≡ None) × (first_shown (result_value s1 r) R ≡ None)
      rest_none = none_shown_there s1 r R sums.0

      result_after : result_of s2 r ≡ None
      result_after =
          ap₂ or_else (first_with n y G2 R (branch_result r) (branch_flat r) ∙ rest_none.0)
          (ap (if_in (owed s2 r)) (first_with n y G2 R (result_value s2 r) (value_flat s2 r) ∙ sym (first_alike x.number (result_value s1 r) (result_value s2 r) (one_thread.result_stays k R G G2 n x z beside (tt, tt) lone1 locks r) R lone1) ∙ rest_none.1) ∙ none_if (owed s2 r))

      not_mine : x.number ≢ r
      not_mine f =
          let here_it = itself n x G R beside in
          let over_it = over_found r s1.things (once1.threads r) sums.1 (record { server = n; packed = false; thread = x }) (ap (thread_at (threads_in s1.things)) (sym f) ∙ here_it) in
          absurd (cc (sym over_it ∙ goes))

    -- that they are that value, and who leaves the state with them
    pub record Takes (v : Plain) (gone : Node → Bool) : Type 0 where
      pub result : (r : ℕ) → is_its r ≡ true → result_of s1 r ≡ Some v
      pub its_given : (r : ℕ) → is_its r ≡ true → is_given_thread s1 r ≡ true
      pub silent : (r : ℕ) → is_its r ≡ false → branch_result r (stands n false x) ≡ None
      pub results : (r : ℕ) → is_its r ≡ false → first_shown (result_value s1 r) G ≡ None
      pub contents : (m : MutexNo) → first_shown (content_value s1 m) G ≡ None
      pub none : NoneUnder s1 gone R
      pub same : (q : Node) → gone q ≡ false → is_in_state s1 q ≡ is_in_state s2 q
      pub no_object : (o : ObjNo) → gone (object_n o) ≡ false
      pub no_mutex : (m : MutexNo) → gone (mutex_n m) ≡ false
      pub no_other : (r : ℕ) → is_its r ≡ false → gone (task_n r) ≡ false
      pub shares : (m : MutexNo) → tot (share_in s1 m) G + (owned_in (mutex_n m) x.slots + owned_in (mutex_n m) x.temps) ≡ owned_in (mutex_n m) slots + owned_in (mutex_n m) temps

    module _ {v : Plain} {gone : Node → Bool} (c : Takes v gone) where
      apart : (r : ℕ) → tot (in_pair_of r) G ≡ tot (in_pair_of r) G2
      apart r = gift_uncounted (in_pair_of r) x.number counts_here (λ v. refl) x.gift

      -- LIVES

      way_same : (r : ℕ) → is_its r ≡ false → going_of s1 r ≡ going_of s2 r
      way_same r off = one_thread.way_goes_on k R G G2 n x z beside (tt, tt) lone1 locks gone c.none c.same r (apart r) (c.no_other r off) (c.silent r off) refl (c.results r off)

      itself_off : is_its x.number ≡ false
      itself_off = by (is_its x.number) refl
        where
          by : (b : Bool) → is_its x.number ≡ b → is_its x.number ≡ false
          by true m = absurd (not_mine x.number m refl)
          by false m = m

      other_life : (u : ℕ) → x.number ≢ u → is_its u ≡ false → life_at s1 u (thread_at (threads_in s1.things) u) ≡ life_at s2 u (thread_at (threads_in s2.things) u)
      other_life u ne off = one_thread.life_goes_on k R G G2 n x z beside (tt, tt) lone1 locks gone c.none c.same u (apart u) (c.no_other u off) (c.silent u off) refl (c.results u off) ne

      its_life : (u : ℕ) → is_its u ≡ true → life_at s1 u (thread_at (threads_in s1.things) u) ≡ ended_with (result_of s1 u)
      its_life u mine_too = by (thread_at (threads_in s1.things) u) refl
        where
          by : (o : Option Standing) → thread_at (threads_in s1.things) u ≡ o → life_at s1 u o ≡ ended_with (result_of s1 u)
          by None f = refl
          by (Some w) f = ap (life_of s1 w.thread) (over_found u s1.things (once1.threads u) (sums u mine_too).1 w f) ∙ ap (λ r. ended_with (result_of s1 r)) (among_thread (threads_in s1.things) u w f).1

      its_life_then : (u : ℕ) → is_its u ≡ true → life_at s2 u (thread_at (threads_in s2.things) u) ≡ ended_with (result_of s2 u)
      its_life_then u mine_too = ap (life_at s2 u) (sym (seen_there u (not_mine u mine_too))) ∙ by (thread_at (threads_in s1.things) u) refl
        where
          by : (o : Option Standing) → thread_at (threads_in s1.things) u ≡ o → life_at s2 u o ≡ ended_with (result_of s2 u)
          by None f = refl
          by (Some w) f = ap (life_of s2 w.thread) (over_found u s1.things (once1.threads u) (sums u mine_too).1 w f) ∙ ap (λ r. ended_with (result_of s2 r)) (among_thread (threads_in s1.things) u w f).1

      -- NAMES

      given_same : (u : ℕ) → is_given_thread s1 u ≡ is_given_thread s2 u
      given_same = one_thread.given_same k R G G2 n x z beside (tt, tt) lone1 locks (λ h c. gift_uncounted (started_at h c) x.number counts_here (λ v. refl) x.gift ∙ omega arith)

      -- THE STATE

      no_cells_in : (o : ObjNo) → first_shown (cell_value o) G ≡ None
      no_cells_in o = by x.gift
        where
          by : (g : Option Owned) → first_shown (cell_value o) (gift_things x.number g ++ counts_here ∷ []) ≡ None
          by None = refl
          by (Some v) = refl

      pub results_taken : ResultsTaken x.number is_its v (running_at x) (running_at y) (state_of s1) (state_of s2)
      results_taken =
          let given = changed.given k sound e s at.here t x at.at at.number in
          record {
            way = going_of s1 x.number;
            before = ap₂ if_given given (ap (life_at s1 x.number) (itself n x G R beside) ∙ ap (life_of s1 x) goes ∙ going_is s1 x.number (running_at x));
            afterwards =
                ap₂ if_given (sym (given_same x.number) ∙ given) (ap (life_at s2 x.number) (itself n y G2 R (tt, tt)) ∙ going_is s2 x.number (running_at y) ∙ ap (λ w. life_as w (running_at y)) (sym (way_same x.number itself_off)));
            differ = not_mine;
            ended_before = λ u m. ap₂ if_given (c.its_given u m) (its_life u m ∙ ap ended_with (c.result u m));
            taken = λ u m. ap₂ if_given (sym (given_same u) ∙ c.its_given u m) (its_life_then u m ∙ ap ended_with (result_after u m));
            others = λ u ne off. ap₂ if_given (given_same u) (other_life u ne off);
            made = one_thread.made_same k R G G2 n x z beside (tt, tt) lone1 locks goes refl refl;
            alone = ap pair_of (itself n y G2 R (tt, tt));
            pairs = λ u ne. ap pair_of (seen_there u ne);
            objects = λ o. one_thread.object_same k R G G2 n x z beside (tt, tt) lone1 locks gone c.none c.same o (c.no_object o) (no_cells_in o);
            mutexes = λ m. one_thread.mutex_same k R G G2 n x z beside (tt, tt) lone1 locks gone c.none c.same m (c.no_mutex m) (c.contents m) (omega (arith, c.shares m));
            given = λ m. one_thread.mutex_given k R G G2 n x z beside (tt, tt) lone1 locks (λ h c. gift_uncounted (made_at h c) x.number counts_here (λ v. refl) x.gift ∙ omega arith) m;
          }

  -- what is shown once stays so
  pub once_then : is_over x.phase ≡ false → Once s2
  once_then goes = record {
    cells = λ o.
        let flat : Own (λ v. told ones (cell_value o v) ≡ 0) = record { slots = λ u j v. refl; temps = λ u j v. refl; shared = λ l m. refl; lent = λ l m. refl; marks = λ l m. refl; used = λ u m. refl } in
        omega (arith, once1.cells o, tot_of n x G R (λ v. told ones (cell_value o v)) flat, tot_of n y G2 R (λ v. told ones (cell_value o v)) flat);
    threads = λ u.
        let flat : Own (λ v. is_thread u v ≡ 0) = record { slots = λ w j v. refl; temps = λ w j v. refl; shared = λ l m. refl; lent = λ l m. refl; marks = λ l m. refl; used = λ w m. refl } in
        omega (arith, once1.threads u, tot_of n x G R (is_thread u) flat, tot_of n y G2 R (is_thread u) flat);
    contents = λ m.
        let flat : (r : Sight) → Own (λ v. told ones (content_value r m v) ≡ 0) = λ r. record { slots = λ w j v. refl; temps = λ w j v. refl; shared = λ l u. refl; lent = λ l u. refl; marks = λ l u. refl; used = λ w v. refl } in
        omega (
          arith,
          once1.contents m,
          tot_of n x G R (λ v. told ones (content_value s1 m v)) (flat s1),
          tot_of n y G2 R (λ v. told ones (content_value s2 m v)) (flat s2),
          one_thread.tot_alike x.number (λ v. told ones (content_value s1 m v)) (λ v. told ones (content_value s2 m v)) (λ th w. ap (told ones) (one_thread.content_stays k R G G2 n x z beside (tt, tt) lone1 locks m th w)) R lone1,
        );
    ends = λ r.
        let flat : (w : Sight) → Own (λ v. told ones (shown_result w r v) ≡ 0) = λ w. record { slots = λ u j v. refl; temps = λ u j v. refl; shared = λ l m. refl; lent = λ l m. refl; marks = λ l m. refl; used = λ u m. refl } in
        let over_flat : Own (λ v. has_ended r v ≡ 0) = record { slots = λ w j v. refl; temps = λ w j v. refl; shared = λ l m. refl; lent = λ l m. refl; marks = λ l m. refl; used = λ w m. refl } in
        let still : has_ended r (stands n false x) ≡ has_ended r (stands n false y) = ap (λ o. one (x.number == r && (not (x.number == 0) && o))) goes in
        omega (
          arith,
          once1.ends r,
          still,
          gift_uncounted (has_ended r) x.number counts_here (λ v. refl) x.gift,
          tot_of n x G R (has_ended r) over_flat,
          tot_of n y G2 R (has_ended r) over_flat,
          tot_of n x G R (λ v. told ones (shown_result s1 r v)) (flat s1),
          tot_of n y G2 R (λ v. told ones (shown_result s2 r v)) (flat s2),
          one_thread.tot_alike x.number (λ v. told ones (shown_result s1 r v)) (λ v. told ones (shown_result s2 r v)) (λ th w. ap (λ o. told ones (or_else (branch_result r th) o)) (one_thread.result_stays k R G G2 n x z beside (tt, tt) lone1 locks r th w)) R lone1,
        );
  }
