-- A pair of threads that starts in the one heap: its parent waits for both, they are new and have what they captured, and all else is as it was.
use Rattle.std.proofs.Common.{◌≡◌, ◌≢◌, ℕ, zero, suc, ◌+◌, ◌*◌, ◌<◌, ◌≤◌, ◌==◌, ◌||◌, nat_le, not, Bool, true, false, if◌then◌else◌, List, [], ◌∷◌, ◌++◌, Option, Some, None, refl, sym, ap, ap₂, ◌∙◌, arith}
use Rattle.std.specs.Prelude.{◌^◌, ◌&&◌}
use Rattle.std.specs.List.{AllByRecursion}
use Rattle.law_heap_steps.proofs.Below.fr_typing.PlaceLemmas.{eq_cases}
use Rattle.law_heap_steps.specs.Below.fr_base.declared.name.MutexNo.{MutexNo}
use Rattle.law_heap_steps.specs.Below.fr_base.declared.name.ObjNo.{ObjNo}
use Rattle.law_heap_steps.specs.Below.fr_base.declared.label.Plain.{Plain}
use Rattle.law_heap_steps.specs.Below.fr_base.declared.label.Plain.TheVariants as plain
use Rattle.law_heap_steps.specs.Below.fr_base.declared.instruction.Instr.{Instr}
use Rattle.law_heap_steps.specs.Below.fr_plain.PlainState.{SameState}
use Rattle.law_heap_steps.specs.Below.fr_code.Machine.{CodeState}
use Rattle.law_heap_steps.specs.Below.join_home.Tasks.{in_pair}
use Rattle.law_heap_steps.specs.Below.thread_state.View.{ThreadState, new_thread}
use Rattle.law_heap_steps.specs.Below.thread_state.declared.value.Value.{Value}
use Rattle.law_heap_steps.specs.Below.thread_state.declared.phase.Phase.TheVariants as phase
use Rattle.law_heap_steps.specs.Below.server_model.declared.event.Event.{Event}
use Rattle.law_heap_steps.specs.Below.server_model.Servers.{Server, Cluster}
use Rattle.law_heap_steps.specs.Below.coherent_memory.Names.{tot, one, some, if_so}
use Rattle.law_heap_steps.specs.Below.coherent_memory.Things.{Thing, stands, noted, gift_things}
use Rattle.law_heap_steps.specs.Below.coherent_memory.Follow.{threads_in, thread_at, cells_in}
use Rattle.law_heap_steps.specs.Below.coherent_memory.Sight.{Sight, with_things}
use Rattle.law_heap_steps.specs.Below.coherent_memory.Requests.{home_of, is_par_end}
use Rattle.law_heap_steps.specs.Below.coherent_memory.Naming.{count_of, started_at, made_at}
use Rattle.law_heap_steps.specs.Below.coherent_memory.Weights.{is_thread}
use Rattle.law_heap_steps.specs.Below.coherent_memory.OneHeap.{Node, mutex_n, task_n, any_named, is_in_state, is_branch, if_in, or_else, first_shown, cell_value, share_in, content_value, in_pair_of, branch_result, result_value, running_at, life_of, life_at, pair_of, is_given_thread, if_given, one_heap, state_of}
use Rattle.law_heap_steps.specs.Below.coherent_memory.Coherent.{IsSound}
use Rattle.law_heap_steps.proofs.Below.law_counts_sums.Bags.{counts_of, had_by}
use Rattle.law_heap_steps.proofs.Below.law_counts_sums.Trades.{Same, tot-append}
use Rattle.law_heap_steps.specs.Below.law_heap_still.events.Shows.{ShowAlike, sign_of}
use Rattle.law_heap_steps.proofs.Below.law_heap_still.events.Alike.{Once, same_state, same_once}
use Rattle.law_heap_steps.proofs.Below.law_heap_still.events.Counting.{shown_result, stray, nought, no_stray_in}
use Rattle.law_heap_steps.proofs.Below.law_heap_still.events.Gifts.{placed, telling}
use Rattle.law_heap_steps.proofs.Below.law_heap_still.events.Told.{told, ones}
use Rattle.law_heap_steps.proofs.mutexes.SharedLines.{nothing_under}
use Rattle.law_heap_steps.proofs.turns.Parts.{shown_both, any_both, Own, own_all, none_shown, none_counted, owned_in}
use Rattle.law_heap_steps.proofs.turns.OneTurn.{as_loose, as_owing, life_as, going_of, going_is, of_thread, Calm, after}
use Rattle.law_heap_steps.proofs.turns.Events.{AtStep}
use Rattle.law_heap_steps.proofs.mutexes.Reach.{SameOwners, or_left, or_right, or_cases, with_extra, here, stays_in, comes_from}
use Rattle.law_heap_steps.proofs.mutexes.Beside.{IsBeside, IsLoose, loose_beside, all_so, gift_uncounted, mine, any_mine, all_of, tot_of, shares_of, itself, besides, cells_of}
use Rattle.law_heap_steps.proofs.mutexes.OneNode.{some_there, there_some, one_of_two}
use Rattle.law_heap_steps.proofs.mutexes.OneThread as one_thread
use Rattle.law_heap_steps.proofs.mutexes.OneThread.{next, none_got, same_but}
use Rattle.law_heap_steps.proofs.mutexes.NotGiven as not_given
use Rattle.law_heap_steps.proofs.mutexes.Changed as changed
use Rattle.law_heap_steps.proofs.mutexes.NewLines.{le_itself, le_next}
use Rattle.law_heap_steps.proofs.mutexes.ThreadTurns.{G, R, quiet, loose}
use Rattle.law_heap_steps.proofs.threads.Spawned.{name_is, count_not_zero, same_number}
use Rattle.law_heap_steps.proofs.threads.NewName.{home_is, count_is, later_name, from_one, unknown, lone_all, not_it}
use Rattle.law_heap_steps.proofs.threads.PlainPar.{PairStarts}

module _ (k : Cluster) (sound : IsSound k) (e : Event) (i : Instr) (single : is_par_end (Some i) ≡ false) (s : Server) (t : ℕ) (x : ThreadState) (at : AtStep k e i s t x) (bare : x.gift ≡ None) (few : s.rest.started + 2 < 2 ^ 32) (target target2 body body2 : ℕ) (left vs us : List Value)
    (even : (q : Node) → owned_in q x.slots ≡ owned_in q left + owned_in q vs + owned_in q us) where
  abbrev n : ℕ
  n = s.rest.number

  abbrev j1 : ℕ
  j1 = s.rest.started

  abbrev j2 : ℕ
  j2 = s.rest.started + 1

  -- the names of the two
  abbrev pub u1 : ℕ
  u1 = n * 2 ^ 32 + (j1 + 1)

  abbrev pub u2 : ℕ
  u2 = n * 2 ^ 32 + (j2 + 1)

  abbrev pub z1 : ThreadState
  z1 = new_thread u1 body vs

  abbrev pub z2 : ThreadState
  z2 = new_thread u2 body2 us

  abbrev pub E1 : Thing
  E1 = stands target true z1

  abbrev pub E2 : Thing
  E2 = stands target2 true z2

  abbrev G1 : List Thing
  G1 = G k sound e i single s t x at

  abbrev Others : List Thing
  Others = R k sound e i single s t x at

  -- the others, with the new threads among them
  abbrev pub Rest2 : List Thing
  Rest2 = E2 ∷ E1 ∷ Others

  abbrev counts_here : Thing
  counts_here = counts_of n s.events s.rest

  abbrev pub counts_then : Thing
  counts_then = counts_of n 0 (record s.rest { started = j2 + 1 })

  abbrev pub note1 : Thing
  note1 = noted n (record { thread = u1; state = in_pair x.number false })

  abbrev pub note2 : Thing
  note2 = noted n (record { thread = u2; state = in_pair x.number false })

  abbrev pub Had1 : List Thing
  Had1 = had_by target z1

  abbrev pub Had2 : List Thing
  Had2 = had_by target2 z2

  abbrev pub G2 : List Thing
  G2 = counts_then ∷ note1 ∷ note2 ∷ (Had1 ++ Had2)

  abbrev pub became : ThreadState
  became = record (after x (x.pc + 1) left x.temps) { phase = phase.WaitPar u1 u2 }

  abbrev pub y : ThreadState
  y = next x became

  abbrev L : List Thing
  L = all_of n x G1 Others

  abbrev s0 : Sight
  s0 = with_things k L

  abbrev L1 : List Thing
  L1 = E1 ∷ L

  abbrev L2 : List Thing
  L2 = E2 ∷ E1 ∷ L

  abbrev front : List Thing
  front = all_of n x G1 Rest2

  abbrev pub s1 : Sight
  s1 = with_things k front

  abbrev pub after_all : List Thing
  after_all = all_of n y G2 Rest2

  abbrev pub s2 : Sight
  s2 = with_things k after_all

  calm : Calm x.phase
  calm = quiet k sound e i single s t x at

  calm1 : Calm z1.phase
  calm1 = record { alone = refl; goes = refl }

  alone : {A : Type 0} (f : List Thing → A) → f G1 ≡ f (counts_here ∷ [])
  alone f = ap (λ g. f (gift_things x.number g ++ counts_here ∷ [])) bare

  loose1 : AllByRecursion IsLoose G1
  loose1 = loose k sound e i single s t x at

  beside1 : AllByRecursion IsBeside G1
  beside1 = all_so IsLoose IsBeside loose_beside G1 loose1

  own_loose : Own IsLoose
  own_loose = record { slots = λ a b v. tt; temps = λ a b v. tt; shared = λ a b. tt; lent = λ a b. tt; marks = λ a b. tt; used = λ a b. tt }

  both_all : (P : Thing → Type 0) (xs ys : List Thing) → AllByRecursion P xs → AllByRecursion P ys → AllByRecursion P (xs ++ ys)
  both_all P [] ys a b = b
  both_all P (th ∷ xs) ys a b = (a.0, both_all P xs ys a.1 b)

  loose_new : AllByRecursion IsLoose (Had1 ++ Had2)
  loose_new = both_all IsLoose Had1 Had2 (own_all IsLoose own_loose target z1 refl) (own_all IsLoose own_loose target2 z2 refl)

  pub beside2 : AllByRecursion IsBeside G2
  beside2 = (tt, (refl, (refl, all_so IsLoose IsBeside loose_beside (Had1 ++ Had2) loose_new)))

  -- THE NAMES ARE NEW

  above1 : s.rest.started < j1 + 1
  above1 = omega arith

  few1 : j1 + 1 < 2 ^ 32
  few1 = omega (arith, few)

  above2 : s.rest.started < j2 + 1
  above2 = omega arith

  few2 : j2 + 1 < 2 ^ 32
  few2 = omega (arith, few)

  differ1 : x.number ≢ u1
  differ1 = not_it k sound e i single s t x at j1 above1 few1

  differ2 : x.number ≢ u2
  differ2 = not_it k sound e i single s t x at j2 above2 few2

  pub apart12 : (u1 == u2) ≡ false
  apart12 = later_name n s.rest.started

  two_differ : u1 ≢ u2
  two_differ f = cc (sym apart12 ∙ ap (λ a. a == u2) f ∙ same_number u2)

  -- WITH THE NEW THREADS AMONG THEM THE STATE IS THE SAME

  once0 : Once s0
  once0 = changed.once_before k sound e s at.here t x at.at at.number

  lone_one : tot (of_thread u1) L ≡ 0
  lone_one = lone_all k sound e i single s t x at j1 above1 few1

  lone_two : tot (of_thread u2) L1 ≡ 0
  lone_two = omega (arith, ap one apart12, lone_all k sound e i single s t x at j2 above2 few2)

  onceE : Once (with_things k L2)
  onceE = not_given.once_with k L1 target2 true z2 lone_two (record { alone = refl; goes = refl }) refl (not_given.once_with k L target true z1 lone_one calm1 refl once0)

  strayE : tot (stray (with_things k L2)) L2 ≡ 0
  strayE = not_given.stray_with k L1 target2 true z2 lone_two (not_given.stray_with k L target true z1 lone_one (changed.none_stray k sound e s at.here t x at.at at.number))

  moved : Same L2 front
  moved f = let a = tot-append f (mine n x G1) Others in let b = tot-append f (mine n x G1) Rest2 in omega (arith, a, b)

  alike1 : ShowAlike L2 front
  alike1 w zero_w = moved (λ v. w (sign_of v))

  stray_in : ((r : ℕ) → tot (is_thread r) front ≤ 1) → tot (stray s1) front ≡ 0
  stray_in =
      no_stray_in k front (λ gift. (let p = changed.places k sound e s at.here t x at.at at.number gift in omega (arith, p, moved (placed nought nought gift), moved (telling nought nought gift))))

  given_with : (r : ℕ) → is_given_thread s0 r ≡ is_given_thread (with_things k L1) r
  given_with r = let sums : tot (started_at (home_of r) (count_of r)) L ≡ tot (started_at (home_of r) (count_of r)) L1 = omega arith in ap (λ d. r == 0 || (not (count_of r == 0) && some d)) sums

  pub state_before : SameState (state_of s1) (one_heap k)
  state_before =
      let one_way : SameState (state_of s0) (state_of (with_things k L1)) = not_given.same_without k L target true z1 lone_one calm1 refl (unknown k sound e i single s t x at j1 above1 few1) in
      let two_way : SameState (state_of (with_things k L1)) (state_of (with_things k L2)) =
      not_given.same_without k L1 target2 true z2 lone_two (record { alone = refl; goes = refl }) refl (sym (given_with u2) ∙ unknown k sound e i single s t x at j2 above2 few2) in
      let other_way : SameState (state_of s1) (state_of (with_things k L2)) = same_state k L2 front onceE alike1 strayE stray_in in
      let first : SameState (state_of s0) (one_heap k) = changed.state_before k sound e s at.here t x at.at at.number in
      then_back (state_of s1) (state_of (with_things k L2)) (state_of (with_things k L1)) (state_of s0) (one_heap k) other_way two_way one_way first
    where
      then_back : (a b b2 c d : CodeState) → SameState a b → SameState b2 b → SameState c b2 → SameState c d → SameState a d
      then_back a b b2 c d p o q r = record {
        threads = λ v. p.threads v ∙ sym (o.threads v) ∙ sym (q.threads v) ∙ r.threads v;
        made = λ v. p.made v ∙ sym (o.made v) ∙ sym (q.made v) ∙ r.made v;
        pairs = λ v. p.pairs v ∙ sym (o.pairs v) ∙ sym (q.pairs v) ∙ r.pairs v;
        objects = λ v. p.objects v ∙ sym (o.objects v) ∙ sym (q.objects v) ∙ r.objects v;
        mutexes = λ v. p.mutexes v ∙ sym (o.mutexes v) ∙ sym (q.mutexes v) ∙ r.mutexes v;
        given = λ v. p.given v ∙ sym (o.given v) ∙ sym (q.given v) ∙ r.given v;
      }

  once1 : Once s1
  once1 = same_once k L2 front onceE alike1 strayE stray_in

  none_stray1 : tot (stray s1) front ≡ 0
  none_stray1 = stray_in once1.threads

  given1 : (r : ℕ) → is_given_thread s0 r ≡ is_given_thread s1 r
  given1 r = let m = moved (started_at (home_of r) (count_of r)) in let sums : tot (started_at (home_of r) (count_of r)) L ≡ tot (started_at (home_of r) (count_of r)) front = omega (arith, m) in ap (λ d. r == 0 || (not (count_of r == 0) && some d)) sums

  -- THE TURN

  off_number : (v : ℕ) → x.number ≢ v → one (v == x.number) ≡ 0
  off_number v ne = eq_cases (λ b. one b ≡ 0) v x.number (λ f. absurd (ne (sym f))) (λ _. refl)

  lone2 : tot (of_thread x.number) Rest2 ≡ 0
  lone2 = omega (arith, off_number u1 differ1, off_number u2 differ2, changed.lone k sound e s at.here t x at.at at.number)

  new_cells : cells_in after_all ≡ cells_in Rest2
  new_cells = cells_of n y (counts_then ∷ (Had1 ++ Had2)) Rest2 (tt, loose_new)

  locks : one_thread.LocksStay k Rest2 G1 G2 n x became
  locks = one_thread.locks_stay k Rest2 G1 G2 n x became beside1 beside2 lone2 (cells_of n x G1 Rest2 loose1 ∙ sym new_cells)

  same1 : SameOwners s1 s2 Rest2
  same1 = one_thread.same_owners k Rest2 G1 G2 n x became beside1 beside2 lone2 locks

  -- WHO IS IN THE STATE

  abbrev In : Node → Bool
  In = is_in_state s1

  abbrev In2 : Node → Bool
  In2 = is_in_state s2

  abbrev own : Node → ℕ
  own q = owned_in q x.slots + owned_in q x.temps

  abbrev own2 : Node → ℕ
  own2 q = owned_in q left + owned_in q x.temps

  abbrev given_away : Node → ℕ
  given_away q = owned_in q vs + 0 + (owned_in q us + 0)

  all_even : (q : Node) → own q ≡ own2 q + given_away q
  all_even q = omega (arith, even q)

  some_both : (a b : ℕ) → some a || some b ≡ some (a + b)
  some_both zero b = ap some (let e : b ≡ 0 + b = omega arith in e)
  some_both (suc a) b = (let e : suc (a + b) ≡ suc a + b = omega arith in ap some e)

  -- what the new threads have
  new_has : (r : Sight) (f : Node → Bool) (q : Node) → any_named r f q G2 ≡ some (given_away q)
  new_has r f q = any_both r f q Had1 Had2 ∙ ap₂ (λ a b. a || b) (any_mine target z1 [] r f q) (any_mine target2 z2 [] r f q) ∙ some_both (owned_in q vs + 0) (owned_in q us + 0)

  has : (q : Node) → 1 ≤ own q → In q ≡ true
  has q l = here k (mine n x G1) Rest2 q (any_mine n x G1 s1 In q ∙ or_right (any_named s1 In q G1) (some (own q)) (there_some (own q) l))

  has2 : (q : Node) → 1 ≤ own2 q + given_away q → In2 q ≡ true
  has2 q l =
      here k (mine n y G2) Rest2 q
      (any_mine n y G2 s2 In2 q ∙ one_of_two (own2 q) (given_away q) (any_named s2 In2 q G2 || some (own2 q) ≡ true) (λ m. or_right (any_named s2 In2 q G2) (some (own2 q)) (there_some (own2 q) m))
      (λ m. or_left (any_named s2 In2 q G2) (some (own2 q)) (new_has s2 In2 q ∙ there_some (given_away q) m)) l)

  stay : (q : Node) → In q ≡ true → In2 q ≡ true
  stay =
      stays_in k (mine n x G1) (mine n y G2) Rest2 same1
      (λ q f. or_cases (any_named s1 In2 q G1) (some (own q)) (In2 q ≡ true) (λ d. absurd (cc (sym d ∙ alone (any_named s1 In2 q)))) (λ d. has2 q (omega (arith, some_there (own q) d, all_even q))) (sym (any_mine n x G1 s1 In2 q) ∙ f))

  abbrev none_extra : Node → Bool
  none_extra q = false

  come : (q : Node) → In2 q ≡ true → with_extra In none_extra q ≡ true
  come =
      comes_from k (mine n x G1) (mine n y G2) Rest2 same1 none_extra (nothing_under s1 Rest2)
      (λ q f. or_cases (any_named s2 (with_extra In none_extra) q G2) (some (own2 q)) (with_extra In none_extra q ≡ true) (λ d. or_left (In q) false (has q (omega (arith, some_there (given_away q) (sym (new_has s2 (with_extra In none_extra) q) ∙ d), all_even q))))
      (λ d. or_left (In q) false (has q (omega (arith, some_there (own2 q) d, all_even q)))) (sym (any_mine n y G2 s2 (with_extra In none_extra) q) ∙ f))

  same_in : (q : Node) → false ≡ false → In q ≡ In2 q
  same_in q off = by (In q) refl (In2 q) refl
    where
      by : (c : Bool) → In q ≡ c → (d : Bool) → In2 q ≡ d → In q ≡ In2 q
      by true f true g = f ∙ sym g
      by false f false g = f ∙ sym g
      by true f false g = absurd (cc (sym g ∙ stay q f))
      by false f true g = or_cases (In q) false (In q ≡ In2 q) (λ d. absurd (cc (sym f ∙ d))) (λ d. absurd (cc d)) (come q g)

  -- WHAT THE NEW THINGS SHOW

  none_in : {A : Type 0} (f : Thing → Option A) → Own (λ a. f a ≡ None) → first_shown f (Had1 ++ Had2) ≡ None
  none_in f flat = shown_both f Had1 Had2 ∙ ap₂ or_else (none_shown f Had1 (own_all (λ a. f a ≡ None) flat target z1 refl)) (none_shown f Had2 (own_all (λ a. f a ≡ None) flat target2 z2 refl))

  zero_in : (f : Thing → ℕ) → Own (λ a. f a ≡ 0) → tot f (Had1 ++ Had2) ≡ 0
  zero_in f flat = omega (arith, tot-append f Had1 Had2, none_counted f Had1 (own_all (λ a. f a ≡ 0) flat target z1 refl), none_counted f Had2 (own_all (λ a. f a ≡ 0) flat target2 z2 refl))

  results_none : (r : ℕ) → first_shown (result_value s1 r) G1 ≡ first_shown (result_value s2 r) G2
  results_none r = alone (first_shown (result_value s1 r)) ∙ sym (none_in (result_value s2 r) (record { slots = λ a j v. refl; temps = λ a j v. refl; shared = λ l w. refl; lent = λ l w. refl; marks = λ l w. refl; used = λ a w. refl }))

  contents_none : (m : MutexNo) → first_shown (content_value s1 m) G1 ≡ first_shown (content_value s2 m) G2
  contents_none m = alone (first_shown (content_value s1 m)) ∙ sym (none_in (content_value s2 m) (record { slots = λ a j v. refl; temps = λ a j v. refl; shared = λ l w. refl; lent = λ l w. refl; marks = λ l w. refl; used = λ a w. refl }))

  cells_none : (o : ObjNo) → first_shown (cell_value o) G1 ≡ first_shown (cell_value o) G2
  cells_none o = alone (first_shown (cell_value o)) ∙ sym (none_in (cell_value o) (record { slots = λ a j v. refl; temps = λ a j v. refl; shared = λ l w. refl; lent = λ l w. refl; marks = λ l w. refl; used = λ a w. refl }))

  new_shares : (m : MutexNo) → tot (share_in s2 m) G2 ≡ owned_in (mutex_n m) vs + owned_in (mutex_n m) us
  new_shares m =
      let a1 = shares_of target z1 [] [] s2 m in
      let a2 = shares_of target2 z2 [] [] s2 m in
      omega (arith, a1, a2, tot-append (share_in s2 m) (stands target false z1 ∷ Had1) [], tot-append (share_in s2 m) (stands target2 false z2 ∷ Had2) [], tot-append (share_in s2 m) Had1 Had2)

  -- LIVES

  silent : (r : ℕ) → branch_result r (stands n false x) ≡ None
  silent r = ap (λ m. if_in (some m) (Some plain.Unit)) (none_got r x.phase calm.alone)

  pairs_flat : (r : ℕ) → Own (λ a. in_pair_of r a ≡ 0)
  pairs_flat r = record { slots = λ a j v. refl; temps = λ a j v. refl; shared = λ l w. refl; lent = λ l w. refl; marks = λ l w. refl; used = λ a w. refl }

  so_none : (v r : ℕ) → v ≢ r → if_so (v == r) 1 ≡ 0
  so_none v r ne = eq_cases (λ b. if_so b 1 ≡ 0) v r (λ f. absurd (ne f)) (λ _. refl)

  apart : (r : ℕ) → u1 ≢ r → u2 ≢ r → tot (in_pair_of r) G1 ≡ tot (in_pair_of r) G2
  apart r na nb = let old : tot (in_pair_of r) G1 ≡ 0 = alone (tot (in_pair_of r)) in omega (arith, old, zero_in (in_pair_of r) (pairs_flat r), so_none u1 r na, so_none u2 r nb)

  other_life : (r : ℕ) → x.number ≢ r → u1 ≢ r → u2 ≢ r → life_at s1 r (thread_at (threads_in front) r) ≡ life_at s2 r (thread_at (threads_in after_all) r)
  other_life r ne na nb = one_thread.life_goes_on k Rest2 G1 G2 n x became beside1 beside2 lone2 locks none_extra (nothing_under s1 Rest2) same_in r (apart r na nb) refl (silent r) refl (results_none r) ne

  way_same : going_of s1 x.number ≡ going_of s2 x.number
  way_same = one_thread.way_goes_on k Rest2 G1 G2 n x became beside1 beside2 lone2 locks none_extra (nothing_under s1 Rest2) same_in x.number (apart x.number (λ f. differ1 (sym f)) (λ f. differ2 (sym f))) refl (silent x.number) refl (results_none x.number)

  -- NAMES

  flat_starts : (h c : ℕ) → Own (λ v. started_at h c v ≡ 0)
  flat_starts h c = record { slots = λ a j v. refl; temps = λ a j v. refl; shared = λ l w. refl; lent = λ l w. refl; marks = λ l w. refl; used = λ a v. refl }

  counts_same : (r : ℕ) → u1 ≢ r → u2 ≢ r → started_at (home_of r) (count_of r) counts_here ≡ started_at (home_of r) (count_of r) counts_then
  counts_same r na nb =
      eq_cases (λ b. one (b && nat_le (count_of r) s.rest.started) ≡ one (b && nat_le (count_of r) (s.rest.started + 1 + 1))) n (home_of r)
      (λ f. ap one (le_next (count_of r) s.rest.started (λ g. na (sym (name_is r n (j1 + 1) (sym f) g))) ∙ le_next (count_of r) (s.rest.started + 1) (λ g. nb (sym (name_is r n (j2 + 1) (sym f) g))))) (λ _. refl)

  given_same : (r : ℕ) → u1 ≢ r → u2 ≢ r → is_given_thread s1 r ≡ is_given_thread s2 r
  given_same r na nb =
      let h = home_of r in
      let c = count_of r in
      let new = zero_in (started_at h c) (flat_starts h c) in
      let mine1 : tot (started_at h c) G1 ≡ started_at h c counts_here = gift_uncounted (started_at h c) x.number counts_here (λ v. refl) x.gift in
      let mine2 : tot (started_at h c) G2 ≡ started_at h c counts_then = omega (arith, new) in
      ap (λ m. r == 0 || (not (c == 0) && some m)) (one_thread.tot_same k Rest2 G1 G2 n x became beside1 beside2 lone2 locks (started_at h c) (started_at h c) (flat_starts h c) (flat_starts h c) (omega (arith, mine1, mine2, counts_same r na nb)) (λ th w. refl))

  -- a name up to which the server counts
  known : (j : ℕ) → j + 1 < 2 ^ 32 → nat_le (j + 1) (j2 + 1) ≡ true → is_given_thread s2 (n * 2 ^ 32 + (j + 1)) ≡ true
  known j l up =
      let v = n * 2 ^ 32 + (j + 1) in
      let at_n : one ((n == n) && nat_le (j + 1) (j2 + 1)) ≡ 1 = ap₂ (λ a b. one (a && b)) (same_number n) up in
      let mine2 : started_at (home_of v) (count_of v) counts_then ≡ 1 = ap₂ (λ h c. started_at h c counts_then) (home_is n (j + 1) l) (count_is n (j + 1) l) ∙ at_n in
      let all : 1 ≤ tot (started_at (home_of v) (count_of v)) after_all = (let sums = tot_of n y G2 Rest2 (started_at (home_of v) (count_of v)) (flat_starts (home_of v) (count_of v)) in omega (arith, sums, mine2)) in
      ap₂ (λ a b. a || (not b && some (tot (started_at (home_of v) (count_of v)) after_all))) (from_one n j) (ap (λ c. c == 0) (count_is n (j + 1) l) ∙ count_not_zero j) ∙ there_some (tot (started_at (home_of v) (count_of v)) after_all) all

  known1 : is_given_thread s2 u1 ≡ true
  known1 = known j1 few1 (sym (le_next (j1 + 1) (j1 + 1) (λ f. absurd (omega (arith, f)))) ∙ le_itself (j1 + 1))

  known2 : is_given_thread s2 u2 ≡ true
  known2 = known j2 few2 (le_itself (j2 + 1))

  given_x : is_given_thread s1 x.number ≡ true
  given_x = sym (given1 x.number) ∙ changed.given k sound e s at.here t x at.at at.number

  -- THE NEW THREADS

  there2 : thread_at (threads_in after_all) u2 ≡ Some (record { server = target2; packed = true; thread = z2 })
  there2 = besides n y G2 Rest2 beside2 u2 differ2 ∙ ap (λ b. if b then Some (record { server = target2; packed = true; thread = z2 }) else thread_at (threads_in (E1 ∷ Others)) u2) (same_number u2)

  later : (u2 == u1) ≡ false
  later = eq_cases (λ b. b ≡ false) u2 u1 (λ f. absurd (two_differ (sym f))) (λ _. refl)

  there1 : thread_at (threads_in after_all) u1 ≡ Some (record { server = target; packed = true; thread = z1 })
  there1 =
      besides n y G2 Rest2 beside2 u1 differ1 ∙ ap (λ b. if b then Some (record { server = target2; packed = true; thread = z2 }) else thread_at (threads_in (E1 ∷ Others)) u1) later
      ∙ ap (λ b. if b then Some (record { server = target; packed = true; thread = z1 }) else thread_at (threads_in Others) u1) (same_number u1)

  branch1 : is_branch s2 u1 ≡ true
  branch1 = there_some (tot (in_pair_of u1) after_all) (let all = tot_of n y G2 Rest2 (in_pair_of u1) (pairs_flat u1) in let mine2 : if_so (u1 == u1) 1 ≡ 1 = ap (λ b. if_so b 1) (same_number u1) in omega (arith, all, mine2))

  branch2 : is_branch s2 u2 ≡ true
  branch2 = there_some (tot (in_pair_of u2) after_all) (let all = tot_of n y G2 Rest2 (in_pair_of u2) (pairs_flat u2) in let mine2 : if_so (u2 == u2) 1 ≡ 1 = ap (λ b. if_so b 1) (same_number u2) in omega (arith, all, mine2))

  goes_owing : (v : ℕ) → v ≢ 0 → is_branch s2 v ≡ true → going_of s2 v ≡ as_owing
  goes_owing zero f g = absurd (f refl)
  goes_owing (suc v) f g = ap (λ c. if not (c || In2 (task_n (suc v))) then as_loose else as_owing) g

  not_main : (v : ℕ) → (v == 0) ≡ false → v ≢ 0
  not_main v f d = cc (sym f ∙ ap (λ a. a == 0) d)

  -- THE STATE

  pub starts : PairStarts x.number u1 u2 (running_at x) (running_at y) (running_at z1) (running_at z2) (state_of s1) (state_of s2)
  starts = record {
    way = going_of s1 x.number;
    before = ap₂ if_given given_x (ap (life_at s1 x.number) (itself n x G1 Rest2 beside1) ∙ ap (life_of s1 x) calm.goes ∙ going_is s1 x.number (running_at x));
    afterwards =
        ap₂ if_given (sym (given_same x.number (λ f. differ1 (sym f)) (λ f. differ2 (sym f))) ∙ given_x) (ap (life_at s2 x.number) (itself n y G2 Rest2 beside2) ∙ going_is s2 x.number (running_at y) ∙ ap (λ w. life_as w (running_at y)) (sym way_same));
    first_differs = differ1;
    second_differs = differ2;
    two_differ = two_differ;
    first_unknown = ap (λ b. if_given b (life_at s1 u1 (thread_at (threads_in front) u1))) (sym (given1 u1) ∙ unknown k sound e i single s t x at j1 above1 few1);
    second_unknown = ap (λ b. if_given b (life_at s1 u2 (thread_at (threads_in front) u2))) (sym (given1 u2) ∙ unknown k sound e i single s t x at j2 above2 few2);
    first_started = ap₂ if_given known1 (ap (life_at s2 u1) there1 ∙ going_is s2 u1 (running_at z1) ∙ ap (λ w. life_as w (running_at z1)) (goes_owing u1 (not_main u1 (from_one n j1)) branch1));
    second_started = ap₂ if_given known2 (ap (life_at s2 u2) there2 ∙ going_is s2 u2 (running_at z2) ∙ ap (λ w. life_as w (running_at z2)) (goes_owing u2 (not_main u2 (from_one n j2)) branch2));
    others = λ r ne na nb. ap₂ if_given (given_same r na nb) (other_life r ne na nb);
    made = one_thread.made_same k Rest2 G1 G2 n x became beside1 beside2 lone2 locks calm.goes refl refl;
    waits = ap pair_of (itself n y G2 Rest2 beside2);
    pairs = λ r ne. ap pair_of (one_thread.other_seen k Rest2 G1 G2 n x became beside1 beside2 lone2 r ne);
    objects = λ o. one_thread.object_same k Rest2 G1 G2 n x became beside1 beside2 lone2 locks none_extra (nothing_under s1 Rest2) same_in o refl (cells_none o);
    mutexes = λ m.
        let here_none : tot (share_in s1 m) G1 ≡ 0 = alone (tot (share_in s1 m)) in
        one_thread.mutex_same k Rest2 G1 G2 n x became beside1 beside2 lone2 locks none_extra (nothing_under s1 Rest2) same_in m refl (contents_none m) (omega (arith, here_none, new_shares m, all_even (mutex_n m)));
    given = one_thread.mutex_given k Rest2 G1 G2 n x became beside1 beside2 lone2 locks (λ h c. (let new = zero_in (made_at h c) (record { slots = λ a j v. refl; temps = λ a j v. refl; shared = λ l w. refl; lent = λ l w. refl; marks = λ l w. refl; used = λ a v. refl }) in let old : tot (made_at h c) G1 ≡ tot (made_at h c) (counts_here ∷ []) = alone (tot (made_at h c)) in omega (arith, new, old)));
  }

  -- what is shown once stays so
  pub once_then : Once s2
  once_then = one_thread.once_on k Rest2 G1 G2 n x became beside1 beside2 lone2 locks calm (λ r. refl) refl once1 few_cells few_contents few_ends
    where
      few_cells : (o : ObjNo) → tot (λ v. told ones (cell_value o v)) G2 + tot (λ v. told ones (cell_value o v)) Rest2 ≤ 1
      few_cells o =
          let flat : Own (λ v. told ones (cell_value o v) ≡ 0) = record { slots = λ a j v. refl; temps = λ a j v. refl; shared = λ l w. refl; lent = λ l w. refl; marks = λ l w. refl; used = λ a w. refl } in
          omega (arith, once1.cells o, zero_in (λ v. told ones (cell_value o v)) flat, tot_of n x G1 Rest2 (λ v. told ones (cell_value o v)) flat)

      few_contents : (m : MutexNo) → tot (λ v. told ones (content_value s2 m v)) G2 + tot (λ v. told ones (content_value s1 m v)) Rest2 ≤ 1
      few_contents m =
          let flat : (r : Sight) → Own (λ v. told ones (content_value r m v) ≡ 0) = λ r. record { slots = λ a j v. refl; temps = λ a j v. refl; shared = λ l w. refl; lent = λ l w. refl; marks = λ l w. refl; used = λ a w. refl } in
          omega (arith, once1.contents m, zero_in (λ v. told ones (content_value s2 m v)) (flat s2), tot_of n x G1 Rest2 (λ v. told ones (content_value s1 m v)) (flat s1))

      by : (b : Bool) → told {A = Plain} ones (or_else (if b then None else None) None) ≡ 0
      by true = refl
      by false = refl

      few_ends : (r : ℕ) → tot (λ v. told ones (shown_result s2 r v)) G2 ≤ tot (λ v. told ones (shown_result s1 r v)) G1
      few_ends r =
          let flat : Own (λ v. told ones (shown_result s2 r v) ≡ 0) = record { slots = λ a j v. refl; temps = λ a j v. refl; shared = λ l w. refl; lent = λ l w. refl; marks = λ l w. refl; used = λ a w. refl } in
          let quiet1 : told ones (shown_result s2 r note1) ≡ 0 = by (u1 == r) in
          let quiet2 : told ones (shown_result s2 r note2) ≡ 0 = by (u2 == r) in
          omega (arith, zero_in (λ v. told ones (shown_result s2 r v)) flat, quiet1, quiet2)

  -- each gift has its thread afterwards
  pub unstray_then : tot (stray s2) after_all ≡ 0
  unstray_then =
      let flat : (r : Sight) → Own (λ a. stray r a ≡ 0) = λ r. record { slots = λ a j v. refl; temps = λ a j v. refl; shared = λ l w. refl; lent = λ l w. refl; marks = λ l w. refl; used = λ a w. refl } in
      omega (arith, none_stray1, tot_of n x G1 Rest2 (stray s1) (flat s1), one_thread.stray_stays k Rest2 G1 G2 n x became beside1 beside2 lone2, tot_of n y G2 Rest2 (stray s2) (flat s2), zero_in (stray s2) (flat s2))
