-- A thread that stands somewhere while its name wasn't given shows nothing: the state is the same with it and without it.
use Rattle.std.proofs.Common.{◌≡◌, ◌≢◌, ℕ, zero, suc, ◌+◌, ◌≤◌, ◌==◌, ◌||◌, not, Bool, true, false, if◌then◌else◌, List, [], ◌∷◌, Option, Some, None, refl, sym, ap, ap₂, ◌∙◌, subst, arith}
use Rattle.std.specs.Prelude.{◌%◌, ◌^◌, ◌&&◌}
use Rattle.law_heap_steps.proofs.Below.fr_typing.PlaceLemmas.{eq_cases}
use Rattle.law_heap_steps.specs.Below.fr_base.declared.label.Plain.TheVariants as plain
use Rattle.law_heap_steps.specs.Below.fr_base.declared.name.MutexNo.{MutexNo}
use Rattle.law_heap_steps.specs.Below.fr_plain.PlainState.{SameState}
use Rattle.law_heap_steps.specs.Below.thread_state.View.{ThreadState, is_over}
use Rattle.law_heap_steps.specs.Below.server_model.Servers.{Cluster}
use Rattle.law_heap_steps.specs.Below.coherent_memory.Names.{tot, one, some, if_so}
use Rattle.law_heap_steps.specs.Below.coherent_memory.Things.{Thing, stands}
use Rattle.law_heap_steps.specs.Below.coherent_memory.Follow.{Standing, threads_in, thread_at}
use Rattle.law_heap_steps.specs.Below.coherent_memory.Sight.{Sight, with_things}
use Rattle.law_heap_steps.specs.Below.coherent_memory.Requests.{home_of}
use Rattle.law_heap_steps.specs.Below.coherent_memory.Naming.{started_at, made_at}
use Rattle.law_heap_steps.specs.Below.coherent_memory.Weights.{is_thread}
use Rattle.law_heap_steps.specs.Below.coherent_memory.OneHeap.{Node, object_n, mutex_n, task_n, Owner, inside, a_thread, outside, names, owner_of, owner_in, is_in_state, if_in, cell_value, or_else, first_shown, content_value, share_in, if_there, in_pair_of, is_branch, branch_result, result_value, result_of, ended_with, running_at, life_of, life_at, made_of, pair_of, is_given_thread, if_given, state_of}
use Rattle.law_heap_steps.proofs.Below.law_heap_still.events.Alike.{Once}
use Rattle.law_heap_steps.proofs.Below.law_heap_still.events.Counting.{shown_result, stray}
use Rattle.law_heap_steps.proofs.Below.law_heap_still.events.Told.{told, ones}
use Rattle.law_heap_steps.proofs.turns.OneTurn.{as_loose, as_owing, life_as, going_of, going_is, of_thread, none_at, Calm}
use Rattle.law_heap_steps.proofs.mutexes.Reach.{SameOwners, closes, least, same_named}
use Rattle.law_heap_steps.proofs.mutexes.TwoSights as two
use Rattle.law_heap_steps.proofs.mutexes.TwoSights.{first_alike, tot_alike}
use Rattle.law_heap_steps.proofs.mutexes.OneThread.{none_got}

-- these things, and thread z, of whose number nothing is among them
module _ (k : Cluster) (L : List Thing) (m : ℕ) (p : Bool) (z : ThreadState) (lone : tot (of_thread z.number) L ≡ 0) where
  abbrev u : ℕ
  u = z.number

  abbrev it : Thing
  it = stands m p z

  abbrev pub s : Sight
  s = with_things k L

  abbrev pub s2 : Sight
  s2 = with_things k (it ∷ L)

  abbrev me : Standing
  me = record { server = m; packed = p; thread = z }

  pub other_seen : (r : ℕ) → u ≢ r → thread_at (threads_in L) r ≡ thread_at (threads_in (it ∷ L)) r
  other_seen r ne = eq_cases (λ b. thread_at (threads_in L) r ≡ (if b then Some me else thread_at (threads_in L) r)) u r (λ e. absurd (ne e)) (λ _. refl)

  unseen : thread_at (threads_in L) u ≡ None
  unseen = none_at u L lone

  pub seen : thread_at (threads_in (it ∷ L)) u ≡ Some me
  seen = eq_cases (λ b. (if b then Some me else thread_at (threads_in L) u) ≡ Some me) u u (λ _. refl) (λ ne. absurd (ne refl))

  locks : two.LocksStay k L (it ∷ L) u
  locks = two.locks_stay k L (it ∷ L) u other_seen refl

  pub same_owners : SameOwners s s2 L
  same_owners = two.same_owners k L (it ∷ L) u other_seen locks L lone

  -- WHO IS IN THE STATE

  abbrev In : Node → Bool
  In = is_in_state s

  abbrev In2 : Node → Bool
  In2 = is_in_state s2

  pub same_in : (q : Node) → In q ≡ In2 q
  same_in q = by (In q) refl (In2 q) refl
    where
      more : (v : Node) → In v ≡ true → In2 v ≡ true
      more = least s In2 (λ v e. closes s2 v (sym (same_named s s2 In2 v L same_owners) ∙ e))

      less : (v : Node) → In2 v ≡ true → In v ≡ true
      less = least s2 In (λ v e. closes s v (same_named s s2 In v L same_owners ∙ e))

      by : (c : Bool) → In q ≡ c → (d : Bool) → In2 q ≡ d → In q ≡ In2 q
      by true e true f = e ∙ sym f
      by false e false f = e ∙ sym f
      by true e false f = absurd (cc (sym f ∙ more q e))
      by false e true f = absurd (cc (sym e ∙ less q f))

  owner_same : (o : Owner) → owner_in In o ≡ owner_in In2 o
  owner_same a_thread = refl
  owner_same outside = refl
  owner_same (inside q) = same_in q

  shares_same : (w : MutexNo) (xs : List Thing) → SameOwners s s2 xs → tot (share_in s w) xs ≡ tot (share_in s2 w) xs
  shares_same w [] h = refl
  shares_same w (th ∷ xs) h = ap₂ (λ c d. if_so (names (mutex_n w) th) (one c) + d) (owner_same (owner_of s th) ∙ ap (owner_in In2) h.0) (shares_same w xs h.1)

  mutex_same : (w : MutexNo) → (state_of s).mutex w ≡ (state_of s2).mutex w
  mutex_same w =
      let content : first_shown (content_value s w) L ≡ first_shown (content_value s2 w) L = first_alike u (content_value s w) (content_value s2 w) (two.content_stays k L (it ∷ L) u other_seen locks w) L lone in
      let shares : tot (share_in s w) L ≡ tot (share_in s2 w) (it ∷ L) = omega (arith, shares_same w L same_owners) in
      ap (λ q. if_there q (record { content = first_shown (content_value s w) L; shares = tot (share_in s w) L })) (same_in (mutex_n w)) ∙ ap₂ (λ a b. if_there (In2 (mutex_n w)) (record { content = a; shares = b })) content shares

  -- WHERE IT WAITS FOR NO PAIR, IS NOT OVER AND HAS MADE NOTHING

  module _ (calm : Calm z.phase) (unmade : z.made ≡ 0) where
    none_branch : (r : ℕ) → branch_result r it ≡ None
    none_branch r = ap (λ c. if_in (some c) (Some plain.Unit)) (none_got r z.phase calm.alone)

    branch_same : (r : ℕ) → is_branch s r ≡ is_branch s2 r
    branch_same r = let sums : tot (in_pair_of r) L ≡ tot (in_pair_of r) (it ∷ L) = omega arith in ap some sums

    owed_same : (r : ℕ) → is_branch s r || In (task_n r) ≡ is_branch s2 r || In2 (task_n r)
    owed_same r = ap₂ (λ a b. a || b) (branch_same r) (same_in (task_n r))

    result_same : (r : ℕ) → result_of s r ≡ result_of s2 r
    result_same r =
        ap₂ or_else (ap (λ o. or_else o (first_shown (branch_result r) L)) (sym (none_branch r)))
        (ap₂ if_in (owed_same r) (first_alike u (result_value s r) (result_value s2 r) (two.result_stays k L (it ∷ L) u other_seen locks r) L lone))

    way_same : (r : ℕ) → going_of s r ≡ going_of s2 r
    way_same zero = refl
    way_same (suc r) = ap (λ q. if not q then as_loose else as_owing) (owed_same (suc r))

    life_by : (y : ThreadState) (q : Bool) → life_of s y q ≡ life_of s2 y q
    life_by y true = ap ended_with (result_same y.number)
    life_by y false = going_is s y.number (running_at y) ∙ ap (λ w. life_as w (running_at y)) (way_same y.number) ∙ sym (going_is s2 y.number (running_at y))

    life_same : (r : ℕ) → u ≢ r → life_at s r (thread_at (threads_in L) r) ≡ life_at s2 r (thread_at (threads_in (it ∷ L)) r)
    life_same r ne = by (thread_at (threads_in L) r) ∙ ap (life_at s2 r) (other_seen r ne)
      where
        by : (o : Option Standing) → life_at s r o ≡ life_at s2 r o
        by None = ap ended_with (result_same r)
        by (Some w) = life_by w.thread (is_over w.thread.phase)

    given_same : (r : ℕ) → is_given_thread s r ≡ is_given_thread s2 r
    given_same r = let sums : tot (started_at (home_of r) (r % 2 ^ 32)) L ≡ tot (started_at (home_of r) (r % 2 ^ 32)) (it ∷ L) = omega arith in ap (λ c. r == 0 || (not (r % 2 ^ 32 == 0) && some c)) sums

    -- the same of each thread, also of this one
    for_all : {X : Type 0} (f : Option Standing → X) → f None ≡ f (Some me) → (r : ℕ) → f (thread_at (threads_in L) r) ≡ f (thread_at (threads_in (it ∷ L)) r)
    for_all f e r =
        eq_cases (λ q. (w : ℕ) → w ≡ r → f (thread_at (threads_in L) w) ≡ f (thread_at (threads_in (it ∷ L)) w)) u r
        (λ i w j. subst (λ (v : ℕ). f (thread_at (threads_in L) v) ≡ f (thread_at (threads_in (it ∷ L)) v)) (i ∙ sym j) (ap f unseen ∙ e ∙ sym (ap f seen))) (λ ne w j. ap f (other_seen w (λ d. ne (d ∙ j)))) r refl

    -- where its name wasn't given
    pub same_without : is_given_thread s u ≡ false → SameState (state_of s) (state_of s2)
    same_without off = record {
      threads = λ r.
          eq_cases (λ q. (w : ℕ) → w ≡ r → (state_of s).thread w ≡ (state_of s2).thread w) u r
          (λ i w j. subst (λ (v : ℕ). (state_of s).thread v ≡ (state_of s2).thread v) (i ∙ sym j) (ap (λ b. if_given b (life_at s u (thread_at (threads_in L) u))) off ∙ sym (ap (λ b. if_given b (life_at s2 u (thread_at (threads_in (it ∷ L)) u))) (sym (given_same u) ∙ off))))
          (λ ne w j. ap₂ if_given (given_same w) (life_same w (λ d. ne (d ∙ j)))) r refl;
      made = for_all made_of (sym (ap (λ q. if q then 0 else z.made) calm.goes ∙ unmade));
      pairs = for_all pair_of (sym calm.alone);
      objects = λ o. ap (λ q. if_in q (first_shown (cell_value o) L)) (same_in (object_n o));
      mutexes = mutex_same;
      given = λ w. (let sums : tot (made_at w.home w.count) L ≡ tot (made_at w.home w.count) (it ∷ L) = omega arith in ap (λ c. not (w.count == 0) && some c) sums);
    }

    -- what is shown once is so with it too
    pub once_with : Once s → Once s2
    once_with once = record {
      cells = λ o. omega (arith, once.cells o);
      threads = λ r.
          eq_cases (λ b. one b + tot (is_thread r) L ≤ 1) u r (λ e. let none : tot (is_thread u) L ≡ 0 = unnumbered L lone in let here : tot (is_thread r) L ≡ 0 = subst (λ v. tot (is_thread v) L ≡ 0) e none in omega (arith, here)) (λ _. omega (arith, once.threads r));
      contents = λ w. omega (arith, once.contents w, tot_alike u (λ v. told ones (content_value s w v)) (λ v. told ones (content_value s2 w v)) (λ th y. ap (told ones) (two.content_stays k L (it ∷ L) u other_seen locks w th y)) L lone);
      ends = λ r.
          let mine : told ones (shown_result s2 r it) ≡ 0 = ap (λ o. told ones (or_else o None)) (none_branch r) in
          omega (arith, once.ends r, mine, tot_alike u (λ v. told ones (shown_result s r v)) (λ v. told ones (shown_result s2 r v)) (λ th y. ap (λ o. told ones (or_else (branch_result r th) o)) (two.result_stays k L (it ∷ L) u other_seen locks r th y)) L lone);
    }
      where
        unnumbered : (xs : List Thing) → tot (of_thread u) xs ≡ 0 → tot (is_thread u) xs ≡ 0
        unnumbered [] e = refl
        unnumbered (stands r q y ∷ xs) e = omega (arith, e, unnumbered xs (omega (arith, e)))
        unnumbered (_ ∷ xs) e = omega (arith, unnumbered xs (omega (arith, e)))

  pub stray_with : tot (stray s) L ≡ 0 → tot (stray s2) (it ∷ L) ≡ 0
  stray_with z0 = omega (arith, z0, tot_alike u (stray s) (stray s2) (two.stray_alike k L (it ∷ L) u other_seen) L lone)
