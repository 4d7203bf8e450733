-- One thread goes on, with other things beside it: where the places of locks lead as before, who owns the other things stays, and so do results, lives and names.
use Rattle.std.proofs.Common.{◌≡◌, ◌≢◌, ℕ, zero, suc, ◌+◌, ◌==◌, ◌||◌, ◌≤◌, not, Bool, true, false, if◌then◌else◌, List, [], ◌∷◌, Option, Some, None, refl, sym, ap, ap₂, ◌∙◌, subst, arith}
use Rattle.std.specs.Prelude.{◌%◌, ◌^◌, ◌&&◌}
use Rattle.std.specs.List.{AllByRecursion}
use Rattle.law_heap_steps.proofs.Below.fr_typing.PlaceLemmas.{eq_cases}
use Rattle.law_heap_steps.specs.Below.fr_base.declared.name.MutexNo.{MutexNo}
use Rattle.law_heap_steps.specs.Below.fr_base.declared.name.ObjNo.{ObjNo}
use Rattle.law_heap_steps.specs.Below.fr_base.declared.label.Plain.{Plain}
use Rattle.law_heap_steps.specs.Below.fr_base.declared.label.Plain.TheVariants as plain
use Rattle.law_heap_steps.specs.Below.fr_code.Machine.{CodeState, CodeRunning}
use Rattle.law_heap_steps.specs.Below.thread_state.View.{ThreadState, is_over}
use Rattle.law_heap_steps.specs.Below.thread_state.declared.phase.Phase.{Phase}
use Rattle.law_heap_steps.specs.Below.thread_state.declared.phase.Phase.TheVariants as phase
use Rattle.law_heap_steps.specs.Below.thread_state.declared.value.Value.{Value}
use Rattle.law_heap_steps.specs.Below.server_model.Servers.{Cluster}
use Rattle.law_heap_steps.specs.Below.coherent_memory.Names.{tot, one, some, if_so}
use Rattle.law_heap_steps.specs.Below.coherent_memory.Things.{Thing, stands, noted}
use Rattle.law_heap_steps.specs.Below.coherent_memory.Follow.{Standing, threads_in, thread_at, cells_in, cell_of, value_of}
use Rattle.law_heap_steps.specs.Below.coherent_memory.Sight.{Sight, with_things}
use Rattle.law_heap_steps.specs.Below.coherent_memory.Walking.{instr_of}
use Rattle.law_heap_steps.specs.Below.coherent_memory.Requests.{home_of, locked_mutex}
use Rattle.law_heap_steps.specs.Below.coherent_memory.Sharing.{got_phase, has_ended}
use Rattle.law_heap_steps.specs.Below.coherent_memory.Naming.{started_at, made_at}
use Rattle.law_heap_steps.specs.Below.coherent_memory.Weights.{is_thread}
use Rattle.law_heap_steps.specs.Below.coherent_memory.OneHeap.{pair_over, Node, object_n, mutex_n, task_n, Owner, a_thread, inside, outside, owner_of, names, owner_in, is_in_state, if_in, cell_value, or_else, first_shown, object_value, content_value, share_in, if_there, in_pair_of, is_branch, branch_result, result_value, result_of, ended_with, running_at, life_of, life_at, made_of, two_in, pair_of, is_given_thread, is_given_mutex, if_given, state_of}
use Rattle.law_heap_steps.proofs.Below.law_heap_still.events.Alike.{Once, LocksSeeIn}
use Rattle.law_heap_steps.proofs.Below.law_heap_still.events.Counting.{shown_result, stray}
use Rattle.law_heap_steps.proofs.Below.law_heap_still.events.Told.{told, ones}
use Rattle.law_heap_still.proofs.Below.law_words_paths.paths.Contained.{among_thread}
use Rattle.law_heap_steps.proofs.turns.Parts.{Own, owned_in}
use Rattle.law_heap_steps.proofs.turns.OneTurn.{Going, as_loose, as_owing, life_as, going_of, going_is, of_thread, Calm, after}
use Rattle.law_heap_steps.proofs.mutexes.Reach.{SameOwners, NoneUnder, with_extra}
pub use Rattle.law_heap_steps.proofs.mutexes.TwoSights.{first_alike, tot_alike}
use Rattle.law_heap_steps.proofs.mutexes.TwoSights as two
use Rattle.law_heap_steps.proofs.mutexes.Beside.{giftless, IsBeside, me, all_of, first_of, tot_of, shares_of, itself, besides}

pub none_got : (t : ℕ) (p : Phase) → two_in p ≡ None → got_phase t p ≡ 0
none_got t (phase.GotPar a b) e = absurd (cc e)
none_got t _ e = refl

-- the thread at that instruction, with these slots and temporary values, no step begun and no gift
abbrev pub past : ThreadState → ℕ → List Value → List Value → ThreadState
past x pc slots temps = giftless (after x pc slots temps)

-- what became of thread x, without a gift
abbrev pub next : ThreadState → ThreadState → ThreadState
next x z = record z { number = x.number; gift = None }

none_of : (b : Bool) (o : Option Plain) → o ≡ None → (if b then o else None) ≡ None
none_of true o e = e
none_of false o e = refl

-- where such nodes may have come, each other one is in the state as before
pub same_but : (f g extra : Node → Bool) → ((q : Node) → g q ≡ with_extra f extra q) → (q : Node) → extra q ≡ false → f q ≡ g q
same_but f g extra then_in q e = by (f q) refl ∙ sym (then_in q)
  where
    by : (c : Bool) → f q ≡ c → f q ≡ (f q || extra q)
    by true d = d ∙ sym (ap (λ c. c || extra q) d)
    by false d = d ∙ sym (ap₂ (λ c w. c || w) d e)

-- one thread goes on from its place in the plain state, and the others are as they were. (How many objects it has made is told apart)
pub record GoesOn (t : ℕ) (p q : CodeRunning) (a b : CodeState) : Type 0 where
  pub way : Going
  pub before : a.thread t ≡ Some (life_as way p)
  pub afterwards : b.thread t ≡ Some (life_as way q)
  pub others : (u : ℕ) → t ≢ u → a.thread u ≡ b.thread u
  pub pairs : (u : ℕ) → a.pair u ≡ b.pair u

-- the thread, what stands beside it before and afterwards, and the others
module _ (k : Cluster) (R G G2 : List Thing) (n : ℕ) (x became : ThreadState) where
  abbrev pub y : ThreadState
  y = next x became

  abbrev pub a : List Thing
  a = all_of n x G R

  abbrev pub b : List Thing
  b = all_of n y G2 R

  abbrev pub s : Sight
  s = with_things k a

  abbrev pub s2 : Sight
  s2 = with_things k b

  -- the places of locks of other threads lead to the mutexes to which they led
  abbrev pub LocksStay : Type 0
  LocksStay = (u : ℕ) (w : Standing) → x.number ≢ w.thread.number → thread_at (threads_in a) u ≡ Some w → locked_mutex s w (instr_of s w) ≡ locked_mutex s2 w (instr_of s w)

  module _ (beside : AllByRecursion IsBeside G) (beside2 : AllByRecursion IsBeside G2) (lone : tot (of_thread x.number) R ≡ 0) where
    abbrev t : ℕ
    t = x.number

    pub other_seen : (u : ℕ) → t ≢ u → thread_at (threads_in a) u ≡ thread_at (threads_in b) u
    other_seen u ne = besides n x G R beside u ne ∙ sym (besides n y G2 R beside2 u ne)

    -- where the cells that the places of locks pass stay, these lead as before
    pub locks_lead : (seen : ObjNo → Bool) → ((o : ObjNo) → seen o ≡ true → value_of (cell_of (cells_in a) o) ≡ value_of (cell_of (cells_in b) o)) → LocksSeeIn seen s → LocksStay
    locks_lead = two.locks_lead k a b t other_seen

    pub locks_stay : cells_in a ≡ cells_in b → LocksStay
    locks_stay = two.locks_stay k a b t other_seen

    -- a gift has its thread as before
    pub stray_stays : tot (stray s) R ≡ tot (stray s2) R
    stray_stays = tot_alike t (stray s) (stray s2) (two.stray_alike k a b t other_seen) R lone

    module _ (locks : LocksStay) where
      by_seen : {X : Type 0} (f g : Option Standing → X) → f None ≡ g None → (u : ℕ) → ((w : Standing) → t ≢ w.thread.number → thread_at (threads_in a) u ≡ Some w → f (Some w) ≡ g (Some w)) → t ≢ u → f (thread_at (threads_in a) u) ≡ g (thread_at (threads_in b) u)
      by_seen = two.by_seen k a b t other_seen

      -- what is the same of each thread, also of the one whose turn it is
      for_all : {X : Type 0} (f g : Option Standing → X) → f (Some (me n x G)) ≡ g (Some (me n y G2)) → f None ≡ g None → ((z : Standing) → f (Some z) ≡ g (Some z)) → (u : ℕ) → f (thread_at (threads_in a) u) ≡ g (thread_at (threads_in b) u)
      for_all f g e z h u =
          eq_cases (λ q. (w : ℕ) → w ≡ u → f (thread_at (threads_in a) w) ≡ g (thread_at (threads_in b) w)) t u
          (λ i w j. subst (λ (v : ℕ). f (thread_at (threads_in a) v) ≡ g (thread_at (threads_in b) v)) (i ∙ sym j) (ap f (itself n x G R beside) ∙ e ∙ sym (ap g (itself n y G2 R beside2))))
          (λ ne w j. by_seen f g z w (λ v d q. h v) (λ d. ne (d ∙ j))) u refl

      -- how many objects each thread has made
      module _ (goes : is_over x.phase ≡ false) (goes2 : is_over became.phase ≡ false) where
        pub made_same : x.made ≡ became.made → (u : ℕ) → (state_of s).made u ≡ (state_of s2).made u
        made_same e = for_all made_of made_of (ap (λ q. if q then 0 else x.made) goes ∙ e ∙ sym (ap (λ q. if q then 0 else became.made) goes2)) refl (λ z. refl)

        pub made_before : (state_of s).made t ≡ x.made
        made_before = ap made_of (itself n x G R beside) ∙ ap (λ q. if q then 0 else x.made) goes

        pub made_then : (state_of s2).made t ≡ became.made
        made_then = ap made_of (itself n y G2 R beside2) ∙ ap (λ q. if q then 0 else became.made) goes2

        pub made_others : (u : ℕ) → t ≢ u → (state_of s).made u ≡ (state_of s2).made u
        made_others u ne = ap made_of (other_seen u ne)

      pub content_stays : (m : MutexNo) (th : Thing) → of_thread t th ≡ 0 → content_value s m th ≡ content_value s2 m th
      content_stays = two.content_stays k a b t other_seen locks

      pub result_stays : (r : ℕ) (th : Thing) → of_thread t th ≡ 0 → result_value s r th ≡ result_value s2 r th
      result_stays = two.result_stays k a b t other_seen locks

      pub same_owners : SameOwners s s2 R
      same_owners = two.same_owners k a b t other_seen locks R lone

      -- what only the others show
      pub first_same : {X : Type 0} (f g : Thing → Option X) → Own (λ v. f v ≡ None) → Own (λ v. g v ≡ None) → f (stands n false x) ≡ None → g (stands n false y) ≡ None → first_shown f G ≡ first_shown g G2
          → ((th : Thing) → of_thread t th ≡ 0 → f th ≡ g th) → first_shown f a ≡ first_shown g b
      first_same f g own own2 e e2 h all = first_of n x G R f own e ∙ ap₂ or_else h (first_alike t f g all R lone) ∙ sym (first_of n y G2 R g own2 e2)

      pub tot_same : (f g : Thing → ℕ) → Own (λ v. f v ≡ 0) → Own (λ v. g v ≡ 0) → f (stands n false x) + tot f G ≡ g (stands n false y) + tot g G2 → ((th : Thing) → of_thread t th ≡ 0 → f th ≡ g th) → tot f a ≡ tot g b
      tot_same f g own own2 e h = omega (arith, tot_of n x G R f own, tot_of n y G2 R g own2, e, tot_alike t f g h R lone)

      -- whose names were given
      pub given_same : ((h c : ℕ) → tot (started_at h c) G ≡ tot (started_at h c) G2) → (u : ℕ) → is_given_thread s u ≡ is_given_thread s2 u
      given_same started u =
          let h = home_of u in
          let c = u % 2 ^ 32 in
          let flat : Own (λ v. started_at h c v ≡ 0) = record { slots = λ w i v. refl; temps = λ w i v. refl; shared = λ l w. refl; lent = λ l w. refl; marks = λ l w. refl; used = λ w v. refl } in
          ap (λ m. u == 0 || (not (c == 0) && some m)) (tot_same (started_at h c) (started_at h c) flat flat (omega (arith, started h c)) (λ th z. refl))

      pub mutex_given : ((h c : ℕ) → tot (made_at h c) G ≡ tot (made_at h c) G2) → (m : MutexNo) → is_given_mutex s m ≡ is_given_mutex s2 m
      mutex_given made m =
          let flat : Own (λ v. made_at m.home m.count v ≡ 0) = record { slots = λ w i v. refl; temps = λ w i v. refl; shared = λ l w. refl; lent = λ l w. refl; marks = λ l w. refl; used = λ w v. refl } in
          ap (λ c. not (m.count == 0) && some c) (tot_same (made_at m.home m.count) (made_at m.home m.count) flat flat (omega (arith, made m.home m.count)) (λ th z. refl))

      -- ONCE

      -- the sights show things once together
      pub once_on : Calm x.phase → ((r : ℕ) → got_phase r became.phase ≡ 0) → is_over became.phase ≡ false → Once s → ((o : ObjNo) → tot (λ v. told ones (cell_value o v)) G2 + tot (λ v. told ones (cell_value o v)) R ≤ 1)
          → ((m : MutexNo) → tot (λ v. told ones (content_value s2 m v)) G2 + tot (λ v. told ones (content_value s m v)) R ≤ 1)
          → ((r : ℕ) → tot (λ v. told ones (shown_result s2 r v)) G2 ≤ tot (λ v. told ones (shown_result s r v)) G) → Once s2
      once_on calm ungot goes2 once cells contents ends = record {
        cells = λ o.
            let flat : Own (λ v. told ones (cell_value o v) ≡ 0) = record { slots = λ w i v. refl; temps = λ w i v. refl; shared = λ l w. refl; lent = λ l w. refl; marks = λ l w. refl; used = λ w v. refl } in
            omega (arith, cells o, tot_of n y G2 R (λ v. told ones (cell_value o v)) flat);
        threads = λ u.
            let flat : Own (λ v. is_thread u v ≡ 0) = record { slots = λ w i v. refl; temps = λ w i v. refl; shared = λ l w. refl; lent = λ l w. refl; marks = λ l w. refl; used = λ w v. refl } in
            omega (arith, once.threads u, tot_same (is_thread u) (is_thread u) flat flat (omega (arith, no_threads_in u G beside, no_threads_in u G2 beside2)) (λ th z. refl));
        contents = λ m.
            let flat : (r : Sight) → Own (λ v. told ones (content_value r m v) ≡ 0) = λ r. record { slots = λ w i v. refl; temps = λ w i v. refl; shared = λ l w. refl; lent = λ l w. refl; marks = λ l w. refl; used = λ w v. refl } in
            omega (arith, contents m, tot_of n y G2 R (λ v. told ones (content_value s2 m v)) (flat s2), tot_alike t (λ v. told ones (content_value s m v)) (λ v. told ones (content_value s2 m v)) (λ th z. ap (told ones) (content_stays m th z)) R lone);
        ends = λ r.
            let flat : (w : Sight) → Own (λ v. told ones (shown_result w r v) ≡ 0) = λ w. record { slots = λ u i v. refl; temps = λ u i v. refl; shared = λ l m. refl; lent = λ l m. refl; marks = λ l m. refl; used = λ u m. refl } in
            let over : Own (λ v. has_ended r v ≡ 0) = record { slots = λ w i v. refl; temps = λ w i v. refl; shared = λ l w. refl; lent = λ l w. refl; marks = λ l w. refl; used = λ w v. refl } in
            let mine : told ones (shown_result s r (stands n false x)) ≡ 0 = ap (λ m. told ones (or_else (if_in (some m) (Some plain.Unit)) None)) (none_got r x.phase calm.alone) in
            let mine2 : told ones (shown_result s2 r (stands n false y)) ≡ 0 = ap (λ m. told ones (or_else (if_in (some m) (Some plain.Unit)) None)) (ungot r) in
            let still : has_ended r (stands n false x) ≡ has_ended r (stands n false y) = ap (λ o. one (x.number == r && (not (x.number == 0) && o))) (calm.goes ∙ sym goes2) in
            omega (
              arith,
              once.ends r,
              ends r,
              mine,
              mine2,
              still,
              tot_of n x G R (λ v. told ones (shown_result s r v)) (flat s),
              tot_of n y G2 R (λ v. told ones (shown_result s2 r v)) (flat s2),
              tot_alike t (λ v. told ones (shown_result s r v)) (λ v. told ones (shown_result s2 r v)) (λ th z. ap (λ o. told ones (or_else (branch_result r th) o)) (result_stays r th z)) R lone,
              tot_of n x G R (has_ended r) over,
              tot_of n y G2 R (has_ended r) over,
              none_ended r G beside,
              none_ended r G2 beside2,
            );
      }
        where
          no_threads_in : (u : ℕ) (xs : List Thing) → AllByRecursion IsBeside xs → tot (is_thread u) xs ≡ 0
          no_threads_in u [] h = refl
          no_threads_in u (th ∷ xs) h = omega (arith, by th h.0, no_threads_in u xs h.1)
            where
              by : (th : Thing) → IsBeside th → is_thread u th ≡ 0
              by (stands q p z) i = absurd i
              by _ i = refl

          none_ended : (r : ℕ) (xs : List Thing) → AllByRecursion IsBeside xs → tot (has_ended r) xs ≡ 0
          none_ended r [] h = refl
          none_ended r (th ∷ xs) h = omega (arith, by th h.0, none_ended r xs h.1)
            where
              by : (th : Thing) → IsBeside th → has_ended r th ≡ 0
              by (stands q p z) i = absurd i
              by _ i = refl

      -- THE STATE, where these are in it as before, but for such as stand under none of the others, which may come or go

      module _ (extra : Node → Bool) (none : NoneUnder s extra R) (in_same : (q : Node) → extra q ≡ false → is_in_state s q ≡ is_in_state s2 q) where
        owner_in_same : (o : Owner) → ((q : Node) → extra q ≡ true → o ≡ inside q → ⊥) → owner_in (is_in_state s) o ≡ owner_in (is_in_state s2) o
        owner_in_same a_thread off = refl
        owner_in_same outside off = refl
        owner_in_same (inside q) off = by (extra q) refl
          where
            by : (c : Bool) → extra q ≡ c → is_in_state s q ≡ is_in_state s2 q
            by true e = absurd (off q e refl)
            by false e = in_same q e

        -- OBJECTS AND MUTEXES

        pub object_same : (o : ObjNo) → extra (object_n o) ≡ false → first_shown (cell_value o) G ≡ first_shown (cell_value o) G2 → object_value s o ≡ object_value s2 o
        object_same o e h =
            let flat : Own (λ v. cell_value o v ≡ None) = record { slots = λ u i v. refl; temps = λ u i v. refl; shared = λ l r. refl; lent = λ l r. refl; marks = λ l m. refl; used = λ u w. refl } in
            ap₂ if_in (in_same (object_n o) e) (first_same (cell_value o) (cell_value o) flat flat refl refl h (λ th z. refl))

        content_flat : (r : Sight) (m : MutexNo) → Own (λ v. content_value r m v ≡ None)
        content_flat r m = record { slots = λ u i v. refl; temps = λ u i v. refl; shared = λ l w. refl; lent = λ l w. refl; marks = λ l w. refl; used = λ u w. refl }

        -- the content that is shown before and afterwards
        pub content_before : (m : MutexNo) → first_shown (content_value s m) a ≡ or_else (first_shown (content_value s m) G) (first_shown (content_value s m) R)
        content_before m = first_of n x G R (content_value s m) (content_flat s m) refl

        pub content_afterwards : (m : MutexNo) → first_shown (content_value s2 m) b ≡ or_else (first_shown (content_value s2 m) G2) (first_shown (content_value s m) R)
        content_afterwards m =
            first_of n y G2 R (content_value s2 m) (content_flat s2 m) refl ∙ ap (or_else (first_shown (content_value s2 m) G2)) (sym (first_alike t (content_value s m) (content_value s2 m) (content_stays m) R lone))

        -- the shares of the others stay
        shares_stay : (m : MutexNo) (xs : List Thing) → AllByRecursion (λ th. owner_of s th ≡ owner_of s2 th) xs → NoneUnder s extra xs → tot (share_in s m) xs ≡ tot (share_in s2 m) xs
        shares_stay m [] h w = refl
        shares_stay m (th ∷ xs) h w =
            ap₂ (λ c d. if_so (names (mutex_n m) th) (one c) + d) (owner_in_same (owner_of s th) w.0 ∙ ap (owner_in (is_in_state s2)) h.0) (shares_stay m xs h.1 w.1)

        pub shares_go_on : (m : MutexNo)
            → tot (share_in s2 m) b + (tot (share_in s m) G + (owned_in (mutex_n m) x.slots + owned_in (mutex_n m) x.temps)) ≡ tot (share_in s m) a + (tot (share_in s2 m) G2 + (owned_in (mutex_n m) became.slots + owned_in (mutex_n m) became.temps))
        shares_go_on m = omega (arith, shares_of n x G R s m, shares_of n y G2 R s2 m, shares_stay m R same_owners none)

        pub mutex_same : (m : MutexNo) → extra (mutex_n m) ≡ false → first_shown (content_value s m) G ≡ first_shown (content_value s2 m) G2
            → tot (share_in s m) G + (owned_in (mutex_n m) x.slots + owned_in (mutex_n m) x.temps) ≡ tot (share_in s2 m) G2 + (owned_in (mutex_n m) became.slots + owned_in (mutex_n m) became.temps) → (state_of s).mutex m ≡ (state_of s2).mutex m
        mutex_same m e h even =
            let shares : tot (share_in s m) a ≡ tot (share_in s2 m) b = omega (arith, shares_go_on m, even) in
            let content : first_shown (content_value s m) a ≡ first_shown (content_value s2 m) b = content_before m ∙ ap (λ o. or_else o (first_shown (content_value s m) R)) h ∙ sym (content_afterwards m) in
            ap (λ q. if_there q (record { content = first_shown (content_value s m) a; shares = tot (share_in s m) a })) (in_same (mutex_n m) e) ∙ ap₂ (λ v w. if_there (is_in_state s2 (mutex_n m)) (record { content = v; shares = w })) content shares

        -- RESULTS

        pub no_done : (r : ℕ) (xs : List Thing) → AllByRecursion IsBeside xs → first_shown (branch_result r) xs ≡ None
        no_done r [] h = refl
        no_done r (th ∷ xs) h = ap₂ or_else (by th h.0) (no_done r xs h.1)
          where
            by : (th : Thing) → IsBeside th → branch_result r th ≡ None
            by (noted q z) i = none_of (z.thread == r) (pair_over z.state) i
            by (stands q p z) i = absurd i
            by _ i = refl

        pub branch_same : (r : ℕ) → tot (in_pair_of r) G ≡ tot (in_pair_of r) G2 → is_branch s r ≡ is_branch s2 r
        branch_same r apart =
            let flat : Own (λ v. in_pair_of r v ≡ 0) = record { slots = λ u i v. refl; temps = λ u i v. refl; shared = λ l w. refl; lent = λ l w. refl; marks = λ l w. refl; used = λ u w. refl } in
            ap some (tot_same (in_pair_of r) (in_pair_of r) flat flat (omega (arith, apart)) (λ th z. refl))

        pub kept_same : (r : ℕ) → first_shown (result_value s r) G ≡ first_shown (result_value s2 r) G2 → first_shown (result_value s r) a ≡ first_shown (result_value s2 r) b
        kept_same r h =
            let flat : (w : Sight) → Own (λ v. result_value w r v ≡ None) = λ w. record { slots = λ u i v. refl; temps = λ u i v. refl; shared = λ l m. refl; lent = λ l m. refl; marks = λ l m. refl; used = λ u m. refl } in
            first_same (result_value s r) (result_value s2 r) (flat s) (flat s2) refl refl h (result_stays r)

        pub owed_same : (r : ℕ) → tot (in_pair_of r) G ≡ tot (in_pair_of r) G2 → extra (task_n r) ≡ false → is_branch s r || is_in_state s (task_n r) ≡ is_branch s2 r || is_in_state s2 (task_n r)
        owed_same r apart e = ap₂ (λ p q. p || q) (branch_same r apart) (in_same (task_n r) e)

        -- a thread whose result is shown as before goes on as before
        module _ (r : ℕ) (apart : tot (in_pair_of r) G ≡ tot (in_pair_of r) G2) (no_task : extra (task_n r) ≡ false) (silent : branch_result r (stands n false x) ≡ None) (silent2 : branch_result r (stands n false y) ≡ None) (shown : first_shown (result_value s r) G ≡ first_shown (result_value s2 r) G2) where
          result_goes_on : result_of s r ≡ result_of s2 r
          result_goes_on =
              let flat : Own (λ v. branch_result r v ≡ None) = record { slots = λ u i v. refl; temps = λ u i v. refl; shared = λ l w. refl; lent = λ l w. refl; marks = λ l w. refl; used = λ u w. refl } in
              ap₂ or_else (first_same (branch_result r) (branch_result r) flat flat silent silent2 (no_done r G beside ∙ sym (no_done r G2 beside2)) (λ th z. refl)) (ap₂ if_in (owed_same r apart no_task) (kept_same r shown))

          pub way_goes_on : going_of s r ≡ going_of s2 r
          way_goes_on = by r (owed_same r apart no_task)
            where
              by : (m : ℕ) → is_branch s m || is_in_state s (task_n m) ≡ is_branch s2 m || is_in_state s2 (task_n m) → going_of s m ≡ going_of s2 m
              by zero e = refl
              by (suc m) e = ap (λ q. if not q then as_loose else as_owing) e

          life_by : (z : ThreadState) → z.number ≡ r → (q : Bool) → life_of s z q ≡ life_of s2 z q
          life_by z e true = ap (λ m. ended_with (result_of s m)) e ∙ ap ended_with result_goes_on ∙ sym (ap (λ m. ended_with (result_of s2 m)) e)
          life_by z e false =
              going_is s z.number (running_at z) ∙ ap (λ m. life_as (going_of s m) (running_at z)) e ∙ ap (λ w. life_as w (running_at z)) way_goes_on ∙ sym (ap (λ m. life_as (going_of s2 m) (running_at z)) e) ∙ sym (going_is s2 z.number (running_at z))

          pub life_goes_on : t ≢ r → life_at s r (thread_at (threads_in a) r) ≡ life_at s2 r (thread_at (threads_in b) r)
          life_goes_on ne = by (thread_at (threads_in a) r) refl ∙ ap (life_at s2 r) (other_seen r ne)
            where
              by : (o : Option Standing) → thread_at (threads_in a) r ≡ o → life_at s r o ≡ life_at s2 r o
              by None f = ap ended_with result_goes_on
              by (Some w) f = life_by w.thread (among_thread (threads_in a) r w f).1 (is_over w.thread.phase)

        -- where the thread waits for no pair and isn't over, before and afterwards, and no task comes or goes
        module _ (apart : (r : ℕ) → tot (in_pair_of r) G ≡ tot (in_pair_of r) G2) (no_task : (u : ℕ) → extra (task_n u) ≡ false) (results : (r : ℕ) → first_shown (result_value s r) G ≡ first_shown (result_value s2 r) G2) (calm : Calm x.phase) (calm2 : Calm became.phase) where
          silent : (r : ℕ) → branch_result r (stands n false x) ≡ None
          silent r = ap (λ m. if_in (some m) (Some plain.Unit)) (none_got r x.phase calm.alone)

          silent2 : (r : ℕ) → branch_result r (stands n false y) ≡ None
          silent2 r = ap (λ m. if_in (some m) (Some plain.Unit)) (none_got r became.phase calm2.alone)

          way_same : (r : ℕ) → going_of s r ≡ going_of s2 r
          way_same r = way_goes_on r (apart r) (no_task r) (silent r) (silent2 r) (results r)

          life_same : (u : ℕ) → t ≢ u → life_at s u (thread_at (threads_in a) u) ≡ life_at s2 u (thread_at (threads_in b) u)
          life_same u = life_goes_on u (apart u) (no_task u) (silent u) (silent2 u) (results u)

          -- NAMES

          module _ (started : (h c : ℕ) → tot (started_at h c) G ≡ tot (started_at h c) G2) where
            pub goes_on : is_given_thread s t ≡ true → GoesOn t (running_at x) (running_at y) (state_of s) (state_of s2)
            goes_on named = record {
              way = going_of s t;
              before = ap₂ if_given named (ap (life_at s t) (itself n x G R beside) ∙ ap (life_of s x) calm.goes ∙ going_is s t (running_at x));
              afterwards =
                  ap₂ if_given (sym (given_same started t) ∙ named) (ap (life_at s2 t) (itself n y G2 R beside2) ∙ ap (life_of s2 y) calm2.goes ∙ going_is s2 t (running_at y) ∙ ap (λ w. life_as w (running_at y)) (sym (way_same t)));
              others = λ u ne. ap₂ if_given (given_same started u) (life_same u ne);
              pairs = for_all pair_of pair_of (calm.alone ∙ sym calm2.alone) refl (λ z. refl);
            }
