-- A thread that starts in the one heap: its parent goes on with its task, it is new and has what it captured, and all else is as it was.
use Rattle.std.proofs.Common.{◌≡◌, ◌≢◌, ℕ, zero, suc, ◌+◌, ◌*◌, ◌<◌, ◌≤◌, ◌==◌, ◌||◌, nat_le, not, Bool, true, false, if◌then◌else◌, List, [], ◌∷◌, ◌++◌, Option, Some, None, refl, sym, ap, ap₂, ◌∙◌, subst, arith}
use Rattle.std.specs.Prelude.{◌^◌, ◌&&◌}
use Rattle.std.specs.List.{AllByRecursion}
use Rattle.std.proofs.lemmas.Bool.{eqb-true}
use Rattle.law_heap_steps.proofs.Below.fr_typing.PlaceLemmas.{eq_cases}
use Rattle.law_heap_steps.specs.Below.fr_base.declared.name.MutexNo.{MutexNo}
use Rattle.law_heap_steps.specs.Below.fr_base.declared.name.ObjNo.{ObjNo}
use Rattle.law_heap_steps.specs.Below.fr_base.declared.label.Plain.{Plain}
use Rattle.law_heap_steps.specs.Below.fr_base.declared.label.Plain.TheVariants as plain
use Rattle.law_heap_steps.specs.Below.fr_base.declared.instruction.Instr.{Instr}
use Rattle.law_heap_steps.specs.Below.fr_plain.PlainState.{SameState}
use Rattle.law_heap_steps.specs.Below.fr_code.Machine.{CodeState}
use Rattle.law_heap_steps.specs.Below.heap_partition.declared.value.Owned.TheVariants as owned
use Rattle.law_heap_steps.specs.Below.join_home.Tasks.{going}
use Rattle.law_heap_steps.specs.Below.thread_state.View.{ThreadState, new_thread}
use Rattle.law_heap_steps.specs.Below.thread_state.declared.value.Value.{Value}
use Rattle.law_heap_steps.specs.Below.thread_state.declared.value.Value.TheVariants as value
use Rattle.law_heap_steps.specs.Below.server_model.declared.event.Event.{Event}
use Rattle.law_heap_steps.specs.Below.server_model.Servers.{Server, Cluster}
use Rattle.law_heap_steps.specs.Below.server_model.Start.{next_thread}
use Rattle.law_heap_steps.specs.Below.coherent_memory.Names.{tot, one, some, if_so}
use Rattle.law_heap_steps.specs.Below.coherent_memory.Things.{Thing, stands, noted, gift_things}
use Rattle.law_heap_steps.specs.Below.coherent_memory.Follow.{threads_in, thread_at, cells_in}
use Rattle.law_heap_steps.specs.Below.coherent_memory.Sight.{Sight, with_things}
use Rattle.law_heap_steps.specs.Below.coherent_memory.Requests.{home_of, is_par_end}
use Rattle.law_heap_steps.specs.Below.coherent_memory.Sharing.{has_ended}
use Rattle.law_heap_steps.specs.Below.coherent_memory.Naming.{count_of, started_at, made_at}
use Rattle.law_heap_steps.specs.Below.coherent_memory.Weights.{is_thread}
use Rattle.law_heap_steps.specs.Below.coherent_memory.OneHeap.{Node, object_n, mutex_n, task_n, owns, any_named, is_in_state, is_branch, if_in, or_else, first_shown, cell_value, share_in, content_value, in_pair_of, branch_result, result_value, running_at, life_of, life_at, pair_of, is_given_thread, if_given, one_heap, state_of}
use Rattle.law_heap_steps.specs.Below.coherent_memory.Coherent.{IsSound}
use Rattle.law_heap_steps.proofs.Below.law_counts_sums.Bags.{counts_of, had_by}
use Rattle.law_heap_steps.proofs.Below.law_counts_sums.Trades.{Same, tot-append}
use Rattle.law_heap_steps.specs.Below.law_heap_still.events.Shows.{ShowAlike, sign_of}
use Rattle.law_heap_steps.proofs.Below.law_heap_still.events.Alike.{Once, same_state, same_once}
use Rattle.law_heap_steps.proofs.Below.law_heap_still.events.Counting.{shown_result, stray, nought, no_stray_in}
use Rattle.law_heap_steps.proofs.Below.law_heap_still.events.Gifts.{placed, telling}
use Rattle.law_heap_steps.proofs.Below.law_heap_still.events.Told.{told, ones, at_most}
use Rattle.law_heap_steps.proofs.turns.Parts.{Own, own_all, none_shown, none_counted, owned_in}
use Rattle.law_heap_steps.proofs.turns.OneTurn.{as_loose, as_owing, life_as, going_of, going_is, of_thread, Calm, after}
use Rattle.law_heap_steps.proofs.turns.Instructions.{owned_push}
use Rattle.law_heap_steps.proofs.turns.Events.{AtStep}
use Rattle.law_heap_steps.proofs.mutexes.Reach.{SameOwners, NoneUnder, or_left, or_right, or_cases, with_extra, here, stays_in, comes_from}
use Rattle.law_heap_steps.proofs.mutexes.Beside.{IsBeside, IsLoose, loose_beside, all_so, gift_uncounted, mine, any_mine, all_of, tot_of, shares_of, itself, besides, cells_of}
use Rattle.law_heap_steps.proofs.mutexes.OneNode.{some_there, there_some, one_of_two, is_one}
use Rattle.law_heap_steps.proofs.mutexes.OneThread as one_thread
use Rattle.law_heap_steps.proofs.mutexes.OneThread.{next, none_got, same_but}
use Rattle.law_heap_steps.proofs.mutexes.NotGiven as not_given
use Rattle.law_heap_steps.proofs.mutexes.Changed as changed
use Rattle.law_heap_steps.proofs.mutexes.NewLines.{le_itself, le_next}
use Rattle.law_heap_steps.proofs.mutexes.ThreadTurns.{G, R, quiet, loose}
use Rattle.law_heap_steps.proofs.threads.JoinTakes.{none_owned}
use Rattle.law_heap_steps.proofs.threads.Taken.{ended_there}
use Rattle.law_heap_steps.proofs.threads.NewName.{home_is, count_is, from_one, and_false, unknown, no_thread, lone_all, not_it}
use Rattle.law_heap_steps.proofs.threads.PlainSpawn.{Starts}

-- NUMBERS

pub name_is : (r n c : ℕ) → home_of r ≡ n → count_of r ≡ c → r ≡ n * 2 ^ 32 + c
name_is r n c h m = omega (arith, h, m)

pub count_not_zero : (c : ℕ) → (c + 1 == 0) ≡ false
count_not_zero c = eq_cases (λ b. b ≡ false) (c + 1) 0 (λ e. absurd (omega (arith, e))) (λ _. refl)

pub same_number : (t : ℕ) → (t == t) ≡ true
same_number t = eq_cases (λ b. b ≡ true) t t (λ _. refl) (λ ne. absurd (ne refl))

pub ends_less : (t : ℕ) (x : Thing) → has_ended t x ≤ is_thread t x
ends_less t x = ended_there t x

module _ (k : Cluster) (sound : IsSound k) (e : Event) (i : Instr) (single : is_par_end (Some i) ≡ false) (s : Server) (t : ℕ) (x : ThreadState) (at : AtStep k e i s t x) (bare : x.gift ≡ None) (few : s.rest.started + 2 < 2 ^ 32) (target body : ℕ) (left vs : List Value)
    (even : (q : Node) → owned_in q x.slots ≡ owned_in q left + owned_in q vs) where
  abbrev n : ℕ
  n = s.rest.number

  -- the new thread's name
  abbrev pub u : ℕ
  u = next_thread s.rest

  abbrev c1 : ℕ
  c1 = s.rest.started + 1

  abbrev pub z : ThreadState
  z = new_thread u body vs

  abbrev pub E : Thing
  E = stands target true z

  abbrev G1 : List Thing
  G1 = G k sound e i single s t x at

  abbrev Others : List Thing
  Others = R k sound e i single s t x at

  -- the others, with the new thread among them
  abbrev pub Rest2 : List Thing
  Rest2 = E ∷ Others

  abbrev counts_here : Thing
  counts_here = counts_of n s.events s.rest

  abbrev pub counts_then : Thing
  counts_then = counts_of n 0 (record s.rest { started = c1 })

  abbrev note : Thing
  note = noted n (record { thread = u; state = going })

  abbrev H : List Thing
  H = had_by target z

  abbrev pub G2 : List Thing
  G2 = counts_then ∷ note ∷ H

  abbrev pub temps : List Value
  temps = x.temps ++ value.Own (owned.Task u) ∷ []

  abbrev pub became : ThreadState
  became = after x (x.pc + 1) left temps

  abbrev pub y : ThreadState
  y = next x became

  abbrev L : List Thing
  L = all_of n x G1 Others

  abbrev s0 : Sight
  s0 = with_things k L

  abbrev front : List Thing
  front = all_of n x G1 Rest2

  abbrev pub s1 : Sight
  s1 = with_things k front

  abbrev pub after_all : List Thing
  after_all = all_of n y G2 Rest2

  abbrev pub s2 : Sight
  s2 = with_things k after_all

  calm : Calm x.phase
  calm = quiet k sound e i single s t x at

  calm2 : Calm became.phase
  calm2 = record { alone = refl; goes = refl }

  calm_new : Calm z.phase
  calm_new = record { alone = refl; goes = refl }

  alone : {A : Type 0} (f : List Thing → A) → f G1 ≡ f (counts_here ∷ [])
  alone f = ap (λ g. f (gift_things x.number g ++ counts_here ∷ [])) bare

  loose1 : AllByRecursion IsLoose G1
  loose1 = loose k sound e i single s t x at

  beside1 : AllByRecursion IsBeside G1
  beside1 = all_so IsLoose IsBeside loose_beside G1 loose1

  loose_new : AllByRecursion IsLoose H
  loose_new = own_all IsLoose (record { slots = λ a b v. tt; temps = λ a b v. tt; shared = λ a b. tt; lent = λ a b. tt; marks = λ a b. tt; used = λ a b. tt }) target z refl

  pub beside2 : AllByRecursion IsBeside G2
  beside2 = (tt, (refl, all_so IsLoose IsBeside loose_beside H loose_new))

  -- THE NAME IS NEW

  above : s.rest.started < c1
  above = omega arith

  few_here : c1 < 2 ^ 32
  few_here = omega (arith, few)

  unknown0 : is_given_thread s0 u ≡ false
  unknown0 = unknown k sound e i single s t x at s.rest.started above few_here

  lone_u : tot (of_thread u) L ≡ 0
  lone_u = lone_all k sound e i single s t x at s.rest.started above few_here

  differ : x.number ≢ u
  differ = not_it k sound e i single s t x at s.rest.started above few_here

  -- WITH THE NEW THREAD AMONG THEM THE STATE IS THE SAME

  once0 : Once s0
  once0 = changed.once_before k sound e s at.here t x at.at at.number

  onceE : Once (with_things k (E ∷ L))
  onceE = not_given.once_with k L target true z lone_u calm_new refl once0

  strayE : tot (stray (with_things k (E ∷ L))) (E ∷ L) ≡ 0
  strayE = not_given.stray_with k L target true z lone_u (changed.none_stray k sound e s at.here t x at.at at.number)

  moved : Same (E ∷ L) front
  moved f = let a = tot-append f (mine n x G1) Others in let b = tot-append f (mine n x G1) Rest2 in omega (arith, a, b)

  alike1 : ShowAlike (E ∷ L) front
  alike1 w zero_w = moved (λ v. w (sign_of v))

  stray_in : ((r : ℕ) → tot (is_thread r) front ≤ 1) → tot (stray s1) front ≡ 0
  stray_in =
      no_stray_in k front (λ gift. (let p = changed.places k sound e s at.here t x at.at at.number gift in omega (arith, p, moved (placed nought nought gift), moved (telling nought nought gift))))

  pub state_before : SameState (state_of s1) (one_heap k)
  state_before =
      let one_way : SameState (state_of s0) (state_of (with_things k (E ∷ L))) = not_given.same_without k L target true z lone_u calm_new refl unknown0 in
      let other_way : SameState (state_of s1) (state_of (with_things k (E ∷ L))) = same_state k (E ∷ L) front onceE alike1 strayE stray_in in
      let first : SameState (state_of s0) (one_heap k) = changed.state_before k sound e s at.here t x at.at at.number in
      then_back (state_of s1) (state_of (with_things k (E ∷ L))) (state_of s0) (one_heap k) other_way one_way first
    where
      then_back : (a b c d : CodeState) → SameState a b → SameState c b → SameState c d → SameState a d
      then_back a b c d p q r = record {
        threads = λ v. p.threads v ∙ sym (q.threads v) ∙ r.threads v;
        made = λ v. p.made v ∙ sym (q.made v) ∙ r.made v;
        pairs = λ v. p.pairs v ∙ sym (q.pairs v) ∙ r.pairs v;
        objects = λ v. p.objects v ∙ sym (q.objects v) ∙ r.objects v;
        mutexes = λ v. p.mutexes v ∙ sym (q.mutexes v) ∙ r.mutexes v;
        given = λ v. p.given v ∙ sym (q.given v) ∙ r.given v;
      }

  once1 : Once s1
  once1 = same_once k (E ∷ L) front onceE alike1 strayE stray_in

  pub none_stray1 : tot (stray s1) front ≡ 0
  none_stray1 = stray_in once1.threads

  given1 : (r : ℕ) → is_given_thread s0 r ≡ is_given_thread s1 r
  given1 r = let m = moved (started_at (home_of r) (count_of r)) in let sums : tot (started_at (home_of r) (count_of r)) L ≡ tot (started_at (home_of r) (count_of r)) front = omega (arith, m) in ap (λ d. r == 0 || (not (count_of r == 0) && some d)) sums

  -- THE TURN

  lone2 : tot (of_thread x.number) Rest2 ≡ 0
  lone2 = let off : one (u == x.number) ≡ 0 = eq_cases (λ b. one b ≡ 0) u x.number (λ f. absurd (differ (sym f))) (λ _. refl) in omega (arith, off, changed.lone k sound e s at.here t x at.at at.number)

  new_cells : cells_in after_all ≡ cells_in Rest2
  new_cells = cells_of n y (counts_then ∷ H) Rest2 (tt, loose_new)

  pub locks : one_thread.LocksStay k Rest2 G1 G2 n x became
  locks = one_thread.locks_stay k Rest2 G1 G2 n x became beside1 beside2 lone2 (cells_of n x G1 Rest2 loose1 ∙ sym new_cells)

  same1 : SameOwners s1 s2 Rest2
  same1 = one_thread.same_owners k Rest2 G1 G2 n x became beside1 beside2 lone2 locks

  -- WHO IS IN THE STATE

  abbrev In : Node → Bool
  In = is_in_state s1

  abbrev In2 : Node → Bool
  In2 = is_in_state s2

  abbrev own : Node → ℕ
  own q = owned_in q x.slots + owned_in q x.temps

  abbrev own2 : Node → ℕ
  own2 q = owned_in q left + owned_in q temps

  abbrev extra : Node → Bool
  extra q = owns q (owned.Task u)

  only : (q : Node) → extra q ≡ true → q ≡ task_n u
  only (object_n w) f = absurd (cc f)
  only (mutex_n w) f = absurd (cc f)
  only (task_n w) f = ap (λ a. task_n a) (sym (eqb-true u w f))

  all_even : (q : Node) → own q + one (extra q) ≡ own2 q + owned_in q vs
  all_even q = omega (arith, even q, owned_push q x.temps (value.Own (owned.Task u)))

  -- what the new thread has
  new_has : (r : Sight) (f : Node → Bool) (q : Node) → any_named r f q G2 ≡ some (owned_in q vs + 0)
  new_has r f q = any_mine target z [] r f q

  has : (q : Node) → 1 ≤ own q → In q ≡ true
  has q l = here k (mine n x G1) Rest2 q (any_mine n x G1 s1 In q ∙ or_right (any_named s1 In q G1) (some (own q)) (there_some (own q) l))

  has2 : (q : Node) → 1 ≤ own2 q + owned_in q vs → In2 q ≡ true
  has2 q l =
      here k (mine n y G2) Rest2 q
      (any_mine n y G2 s2 In2 q ∙ one_of_two (own2 q) (owned_in q vs) (any_named s2 In2 q G2 || some (own2 q) ≡ true) (λ m. or_right (any_named s2 In2 q G2) (some (own2 q)) (there_some (own2 q) m))
      (λ m. or_left (any_named s2 In2 q G2) (some (own2 q)) (new_has s2 In2 q ∙ there_some (owned_in q vs + 0) (omega (arith, m)))) l)

  task_in : In2 (task_n u) ≡ true
  task_in = has2 (task_n u) (omega (arith, all_even (task_n u), ap one (same_number u)))

  stay : (q : Node) → In q ≡ true → In2 q ≡ true
  stay =
      stays_in k (mine n x G1) (mine n y G2) Rest2 same1
      (λ q f. or_cases (any_named s1 In2 q G1) (some (own q)) (In2 q ≡ true) (λ d. absurd (cc (sym d ∙ alone (any_named s1 In2 q)))) (λ d. has2 q (omega (arith, some_there (own q) d, all_even q))) (sym (any_mine n x G1 s1 In2 q) ∙ f))

  shown_none : tot (λ a. told ones (shown_result s1 u a)) Rest2 ≡ 0
  shown_none =
      let flat : Own (λ a. told ones (shown_result s1 u a) ≡ 0) = record { slots = λ a j v. refl; temps = λ a j v. refl; shared = λ l w. refl; lent = λ l w. refl; marks = λ l w. refl; used = λ a w. refl } in
      let none : tot (is_thread u) L ≡ 0 = sym (changed.same_things k sound e s at.here t x at.at at.number (is_thread u)) ∙ no_thread k sound e i single s t x at s.rest.started above few_here in
      let new_one : has_ended u E ≡ 0 = ap one (ap (λ b. (u == u) && b) (and_false (not (u == 0))) ∙ and_false (u == u)) in
      omega (arith, once1.ends u, tot_of n x G1 Rest2 (λ a. told ones (shown_result s1 u a)) flat, moved (has_ended u), at_most (has_ended u) (is_thread u) (ends_less u) L, none, new_one)

  stray_none : tot (stray s1) Rest2 ≡ 0
  stray_none =
      let flat : Own (λ a. stray s1 a ≡ 0) = record { slots = λ a j v. refl; temps = λ a j v. refl; shared = λ l w. refl; lent = λ l w. refl; marks = λ l w. refl; used = λ a w. refl } in
      omega (arith, none_stray1, tot_of n x G1 Rest2 (stray s1) flat)

  none1 : NoneUnder s1 extra Rest2
  none1 = none_owned s1 u extra only Rest2 shown_none stray_none

  abbrev F : Node → Bool
  F = with_extra In extra

  came : (q : Node) → 1 ≤ own2 q + owned_in q vs → F q ≡ true
  came q l =
      one_of_two (own q) (one (extra q)) (F q ≡ true) (λ m. or_left (In q) (extra q) (has q m)) (λ m. or_right (In q) (extra q) (is_one (extra q) m)) (omega (arith, l, all_even q))

  come : (q : Node) → In2 q ≡ true → F q ≡ true
  come =
      comes_from k (mine n x G1) (mine n y G2) Rest2 same1 extra none1
      (λ q f. or_cases (any_named s2 F q G2) (some (own2 q)) (F q ≡ true) (λ d. came q (omega (arith, some_there (owned_in q vs + 0) (sym (new_has s2 F q) ∙ d)))) (λ d. came q (omega (arith, some_there (own2 q) d))) (sym (any_mine n y G2 s2 F q) ∙ f))

  same_in : (q : Node) → extra q ≡ false → In q ≡ In2 q
  same_in q off = by (In q) refl (In2 q) refl
    where
      by : (c : Bool) → In q ≡ c → (d : Bool) → In2 q ≡ d → In q ≡ In2 q
      by true f true g = f ∙ sym g
      by false f false g = f ∙ sym g
      by true f false g = absurd (cc (sym g ∙ stay q f))
      by false f true g = or_cases (In q) (extra q) (In q ≡ In2 q) (λ d. absurd (cc (sym f ∙ d))) (λ d. absurd (cc (sym off ∙ d))) (come q g)

  -- WHAT THE NEW THINGS SHOW

  none_in : {A : Type 0} (f : Thing → Option A) → Own (λ a. f a ≡ None) → first_shown f H ≡ None
  none_in f flat = none_shown f H (own_all (λ a. f a ≡ None) flat target z refl)

  zero_in : (f : Thing → ℕ) → Own (λ a. f a ≡ 0) → tot f H ≡ 0
  zero_in f flat = none_counted f H (own_all (λ a. f a ≡ 0) flat target z refl)

  results_none : (r : ℕ) → first_shown (result_value s1 r) G1 ≡ first_shown (result_value s2 r) G2
  results_none r = alone (first_shown (result_value s1 r)) ∙ sym (none_in (result_value s2 r) (record { slots = λ a j v. refl; temps = λ a j v. refl; shared = λ l w. refl; lent = λ l w. refl; marks = λ l w. refl; used = λ a w. refl }))

  contents_none : (m : MutexNo) → first_shown (content_value s1 m) G1 ≡ first_shown (content_value s2 m) G2
  contents_none m = alone (first_shown (content_value s1 m)) ∙ sym (none_in (content_value s2 m) (record { slots = λ a j v. refl; temps = λ a j v. refl; shared = λ l w. refl; lent = λ l w. refl; marks = λ l w. refl; used = λ a w. refl }))

  cells_none : (o : ObjNo) → first_shown (cell_value o) G1 ≡ first_shown (cell_value o) G2
  cells_none o = alone (first_shown (cell_value o)) ∙ sym (none_in (cell_value o) (record { slots = λ a j v. refl; temps = λ a j v. refl; shared = λ l w. refl; lent = λ l w. refl; marks = λ l w. refl; used = λ a w. refl }))

  new_shares : (m : MutexNo) → tot (share_in s2 m) G2 ≡ owned_in (mutex_n m) vs
  new_shares m = let all = shares_of target z [] [] s2 m in omega (arith, all, tot-append (share_in s2 m) (stands target false z ∷ H) [])

  -- LIVES

  silent : (r : ℕ) → branch_result r (stands n false x) ≡ None
  silent r = ap (λ m. if_in (some m) (Some plain.Unit)) (none_got r x.phase calm.alone)

  apart : (r : ℕ) → tot (in_pair_of r) G1 ≡ tot (in_pair_of r) G2
  apart r =
      let new = zero_in (in_pair_of r) (record { slots = λ a j v. refl; temps = λ a j v. refl; shared = λ l w. refl; lent = λ l w. refl; marks = λ l w. refl; used = λ a w. refl }) in
      let old : tot (in_pair_of r) G1 ≡ 0 = alone (tot (in_pair_of r)) in
      let note_none : in_pair_of r note ≡ 0 = by (u == r) in
      omega (arith, new, old, note_none)
    where
      by : (b : Bool) → if_so b 0 ≡ 0
      by true = refl
      by false = refl

  off_task : (r : ℕ) → u ≢ r → extra (task_n r) ≡ false
  off_task r ne = eq_cases (λ b. b ≡ false) u r (λ f. absurd (ne f)) (λ _. refl)

  other_life : (r : ℕ) → x.number ≢ r → u ≢ r → life_at s1 r (thread_at (threads_in front) r) ≡ life_at s2 r (thread_at (threads_in after_all) r)
  other_life r ne nu = one_thread.life_goes_on k Rest2 G1 G2 n x became beside1 beside2 lone2 locks extra none1 same_in r (apart r) (off_task r nu) (silent r) refl (results_none r) ne

  way_same : going_of s1 x.number ≡ going_of s2 x.number
  way_same = one_thread.way_goes_on k Rest2 G1 G2 n x became beside1 beside2 lone2 locks extra none1 same_in x.number (apart x.number) (off_task x.number (λ f. differ (sym f))) (silent x.number) refl (results_none x.number)

  -- NAMES

  flat_starts : (h c : ℕ) → Own (λ v. started_at h c v ≡ 0)
  flat_starts h c = record { slots = λ a j v. refl; temps = λ a j v. refl; shared = λ l w. refl; lent = λ l w. refl; marks = λ l w. refl; used = λ a v. refl }

  counts_same : (r : ℕ) → u ≢ r → started_at (home_of r) (count_of r) counts_here ≡ started_at (home_of r) (count_of r) counts_then
  counts_same r ne =
      eq_cases (λ b. one (b && nat_le (count_of r) s.rest.started) ≡ one (b && nat_le (count_of r) (s.rest.started + 1))) n (home_of r)
      (λ f. ap one (le_next (count_of r) s.rest.started (λ g. ne (sym (name_is r n c1 (sym f) g))))) (λ _. refl)

  given_same : (r : ℕ) → u ≢ r → is_given_thread s1 r ≡ is_given_thread s2 r
  given_same r ne =
      let h = home_of r in
      let c = count_of r in
      let new = zero_in (started_at h c) (flat_starts h c) in
      let mine1 : tot (started_at h c) G1 ≡ started_at h c counts_here = gift_uncounted (started_at h c) x.number counts_here (λ v. refl) x.gift in
      let mine2 : tot (started_at h c) G2 ≡ started_at h c counts_then = omega (arith, new) in
      ap (λ m. r == 0 || (not (c == 0) && some m)) (one_thread.tot_same k Rest2 G1 G2 n x became beside1 beside2 lone2 locks (started_at h c) (started_at h c) (flat_starts h c) (flat_starts h c) (omega (arith, mine1, mine2, counts_same r ne)) (λ th w. refl))

  known2 : is_given_thread s2 u ≡ true
  known2 =
      let at_n : one ((n == n) && nat_le c1 c1) ≡ 1 = ap₂ (λ a b. one (a && b)) (same_number n) (le_itself c1) in
      let mine2 : started_at (home_of u) (count_of u) counts_then ≡ 1 = ap₂ (λ h c. started_at h c counts_then) (home_is n c1 few_here) (count_is n c1 few_here) ∙ at_n in
      let all : 1 ≤ tot (started_at (home_of u) (count_of u)) after_all = (let sums = tot_of n y G2 Rest2 (started_at (home_of u) (count_of u)) (flat_starts (home_of u) (count_of u)) in omega (arith, sums, mine2)) in
      ap₂ (λ a b. a || (not b && some (tot (started_at (home_of u) (count_of u)) after_all))) (from_one n s.rest.started) (ap (λ c. c == 0) (count_is n c1 few_here) ∙ count_not_zero s.rest.started) ∙ there_some (tot (started_at (home_of u) (count_of u)) after_all) all

  given_x : is_given_thread s1 x.number ≡ true
  given_x = sym (given1 x.number) ∙ changed.given k sound e s at.here t x at.at at.number

  -- THE NEW THREAD

  new_there : thread_at (threads_in after_all) u ≡ Some (record { server = target; packed = true; thread = z })
  new_there = besides n y G2 Rest2 beside2 u differ ∙ eq_cases (λ b. (if b then Some (record { server = target; packed = true; thread = z }) else thread_at (threads_in Others) u) ≡ Some (record { server = target; packed = true; thread = z })) u u (λ _. refl) (λ ne. absurd (ne refl))

  goes_owing : going_of s2 u ≡ as_owing
  goes_owing = by u (λ f. absurd (cc (sym (from_one n s.rest.started) ∙ ap (λ a. a == 0) f))) (or_right (is_branch s2 u) (In2 (task_n u)) task_in)
    where
      by : (m : ℕ) → m ≢ 0 → is_branch s2 m || In2 (task_n m) ≡ true → going_of s2 m ≡ as_owing
      by zero f g = absurd (f refl)
      by (suc m) f g = ap (λ c. if not c then as_loose else as_owing) g

  -- THE STATE

  pub starts : Starts x.number u (running_at x) (running_at y) (running_at z) (state_of s1) (state_of s2)
  starts = record {
    way = going_of s1 x.number;
    before = ap₂ if_given given_x (ap (life_at s1 x.number) (itself n x G1 Rest2 beside1) ∙ ap (life_of s1 x) calm.goes ∙ going_is s1 x.number (running_at x));
    afterwards = ap₂ if_given (sym (given_same x.number (λ f. differ (sym f))) ∙ given_x) (ap (life_at s2 x.number) (itself n y G2 Rest2 beside2) ∙ going_is s2 x.number (running_at y) ∙ ap (λ w. life_as w (running_at y)) (sym way_same));
    differ = differ;
    unknown = ap (λ b. if_given b (life_at s1 u (thread_at (threads_in front) u))) (sym (given1 u) ∙ unknown0);
    started = ap₂ if_given known2 (ap (life_at s2 u) new_there ∙ going_is s2 u (running_at z) ∙ ap (λ w. life_as w (running_at z)) goes_owing);
    others = λ r ne nu. ap₂ if_given (given_same r nu) (other_life r ne nu);
    made = one_thread.made_same k Rest2 G1 G2 n x became beside1 beside2 lone2 locks calm.goes refl refl;
    pairs = λ r.
        eq_cases (λ b. (w : ℕ) → w ≡ r → (state_of s1).pair w ≡ (state_of s2).pair w) x.number r
        (λ f w g. subst (λ (v : ℕ). (state_of s1).pair v ≡ (state_of s2).pair v) (f ∙ sym g) (ap pair_of (itself n x G1 Rest2 beside1) ∙ calm.alone ∙ sym (ap pair_of (itself n y G2 Rest2 beside2))))
        (λ ne w g. ap pair_of (one_thread.other_seen k Rest2 G1 G2 n x became beside1 beside2 lone2 w (λ d. ne (d ∙ g)))) r refl;
    objects = λ o. one_thread.object_same k Rest2 G1 G2 n x became beside1 beside2 lone2 locks extra none1 same_in o refl (cells_none o);
    mutexes = λ m.
        let here_none : tot (share_in s1 m) G1 ≡ 0 = alone (tot (share_in s1 m)) in
        one_thread.mutex_same k Rest2 G1 G2 n x became beside1 beside2 lone2 locks extra none1 same_in m refl (contents_none m) (omega (arith, here_none, new_shares m, all_even (mutex_n m)));
    given = one_thread.mutex_given k Rest2 G1 G2 n x became beside1 beside2 lone2 locks (λ h c. (let new = zero_in (made_at h c) (record { slots = λ a j v. refl; temps = λ a j v. refl; shared = λ l w. refl; lent = λ l w. refl; marks = λ l w. refl; used = λ a v. refl }) in let old : tot (made_at h c) G1 ≡ tot (made_at h c) (counts_here ∷ []) = alone (tot (made_at h c)) in omega (arith, new, old)));
  }

  -- what is shown once stays so
  pub once_then : Once s2
  once_then = one_thread.once_on k Rest2 G1 G2 n x became beside1 beside2 lone2 locks calm (λ r. refl) refl once1 few_cells few_contents few_ends
    where
      few_cells : (o : ObjNo) → tot (λ v. told ones (cell_value o v)) G2 + tot (λ v. told ones (cell_value o v)) Rest2 ≤ 1
      few_cells o =
          let flat : Own (λ v. told ones (cell_value o v) ≡ 0) = record { slots = λ a j v. refl; temps = λ a j v. refl; shared = λ l w. refl; lent = λ l w. refl; marks = λ l w. refl; used = λ a w. refl } in
          omega (arith, once1.cells o, zero_in (λ v. told ones (cell_value o v)) flat, tot_of n x G1 Rest2 (λ v. told ones (cell_value o v)) flat)

      few_contents : (m : MutexNo) → tot (λ v. told ones (content_value s2 m v)) G2 + tot (λ v. told ones (content_value s1 m v)) Rest2 ≤ 1
      few_contents m =
          let flat : (r : Sight) → Own (λ v. told ones (content_value r m v) ≡ 0) = λ r. record { slots = λ a j v. refl; temps = λ a j v. refl; shared = λ l w. refl; lent = λ l w. refl; marks = λ l w. refl; used = λ a w. refl } in
          omega (arith, once1.contents m, zero_in (λ v. told ones (content_value s2 m v)) (flat s2), tot_of n x G1 Rest2 (λ v. told ones (content_value s1 m v)) (flat s1))

      few_ends : (r : ℕ) → tot (λ v. told ones (shown_result s2 r v)) G2 ≤ tot (λ v. told ones (shown_result s1 r v)) G1
      few_ends r =
          let flat : Own (λ v. told ones (shown_result s2 r v) ≡ 0) = record { slots = λ a j v. refl; temps = λ a j v. refl; shared = λ l w. refl; lent = λ l w. refl; marks = λ l w. refl; used = λ a w. refl } in
          let silent_note : told ones (shown_result s2 r note) ≡ 0 = by (u == r) in
          omega (arith, zero_in (λ v. told ones (shown_result s2 r v)) flat, silent_note)
        where
          by : (b : Bool) → told {A = Plain} ones (or_else (if b then None else None) None) ≡ 0
          by true = refl
          by false = refl

  -- each gift has its thread afterwards
  pub unstray_then : tot (stray s2) after_all ≡ 0
  unstray_then =
      let flat : Own (λ a. stray s2 a ≡ 0) = record { slots = λ a j v. refl; temps = λ a j v. refl; shared = λ l w. refl; lent = λ l w. refl; marks = λ l w. refl; used = λ a w. refl } in
      omega (arith, stray_none, one_thread.stray_stays k Rest2 G1 G2 n x became beside1 beside2 lone2, tot_of n y G2 Rest2 (stray s2) flat, zero_in (stray s2) flat)
