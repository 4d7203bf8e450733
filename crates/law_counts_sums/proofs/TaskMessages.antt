-- Messages about threads: what a list of tasks trades, and what each delivery keeps.
use Rattle.std.proofs.Common.{◌≡◌, ℕ, ◌+◌, Bool, true, false, nat_lt, if◌then◌else◌, List, [], ◌∷◌, ◌++◌, Option, Some, None, refl, ap, subst, arith}
use Rattle.coherent_memory.proofs.Below.fr_typing.PlaceLemmas.{eq_cases}
use Rattle.coherent_memory.specs.Below.fr_base.declared.release.Released.TheVariants as released
use Rattle.coherent_memory.specs.Below.heap_partition.declared.value.Owned.{Owned}
use Rattle.coherent_memory.specs.Below.join_home.Tasks.{Task, TaskState, going, let_go, kept, asked, in_pair, task_in, state_in, with_state, without_task, asked_from, ask, let_go_from, let_go_of}
use Rattle.coherent_memory.specs.Below.thread_state.View.{ThreadState}
use Rattle.coherent_memory.specs.Below.server_msgs.declared.message.Message.TheVariants as message
use Rattle.coherent_memory.specs.Below.journal.declared.act.Act.TheVariants as act
use Rattle.coherent_memory.specs.Below.server_model.Work.{Work, Site, note, with_tasks, thread_in, with_thread}
use Rattle.coherent_memory.specs.Below.server_model.Joining.{arrive, answer, answer_join, deliver_join, release_task}
use Rattle.coherent_memory.specs.Names.{tot}
use Rattle.coherent_memory.specs.Things.{Thing, in_hand, as_result, holds, stands, sent, noted, things_at, result_things, task_things, thread_things}
use Rattle.law_counts_sums.specs.Laws.{Gives}
use Rattle.law_counts_sums.proofs.Trades.{Trade, tot-append, tot-front, trade_none, trade_left}
use Rattle.law_counts_sums.proofs.Rules.{Rule, turned, hands_on, sends, notes, unnotes, packs, beside, in_turn, Kept, Spends}
use Rattle.law_counts_sums.proofs.Results.{over_gives, stand_gives}
use Rattle.law_counts_sums.proofs.Bags.{WorkOk, SiteOk, all_standing, rest_things, of_tasks}
use Rattle.law_counts_sums.proofs.Chains.{work_trades, work_sends}
use Rattle.law_counts_sums.proofs.Objects.{one_goes}
use Rattle.law_counts_sums.proofs.MutexMessages.{left_things, gives_up_left}

abbrev pub all_tasks : ℕ → List Task → List Thing
all_tasks s xs = things_at (task_things s) 0 xs

module _ (f : Thing → ℕ) (s : ℕ) where
  front : (x : Task) (xs : List Task) → tot f (all_tasks s (x ∷ xs)) ≡ tot f (task_things s 0 x) + tot f (all_tasks s xs)
  front x xs = tot-front (task_things s 0) f 0 x xs

  pub tot-gone : (xs : List Task) (t : ℕ) (x : Task) → task_in xs t ≡ Some x → tot f (all_tasks s xs) ≡ tot f (task_things s 0 x) + tot f (all_tasks s (without_task xs t))
  tot-gone [] t x e = absurd (cc e)
  tot-gone (y ∷ xs) t x e =
      eq_cases (λ b. (if b then Some y else task_in xs t) ≡ Some x → tot f (all_tasks s (y ∷ xs)) ≡ tot f (task_things s 0 x) + tot f (all_tasks s (if b then xs else y ∷ without_task xs t))) y.thread t
      (λ q g. let same : y ≡ x = cc in subst (λ z. tot f (all_tasks s (y ∷ xs)) ≡ tot f (task_things s 0 z) + tot f (all_tasks s xs)) same (front y xs))
      (λ ne g. omega (arith, tot-gone xs t x g, front y xs, front y (without_task xs t))) e

  pub tot-put : (xs : List Task) (t : ℕ) (x : Task) (z : TaskState) → task_in xs t ≡ Some x → tot f (all_tasks s (with_state xs t z)) ≡ tot f (task_things s 0 (record { thread = t; state = z })) + tot f (all_tasks s (without_task xs t))
  tot-put [] t x z e = absurd (cc e)
  tot-put (y ∷ xs) t x z e =
      eq_cases (λ b. (if b then Some y else task_in xs t) ≡ Some x → tot f (all_tasks s (if b then record { thread = t; state = z } ∷ xs else y ∷ with_state xs t z)) ≡ tot f (task_things s 0 (record { thread = t; state = z })) + tot f (all_tasks s (if b then xs else y ∷ without_task xs t))) y.thread t
      (λ q g. front (record { thread = t; state = z }) xs)
      (λ ne g. omega (arith, tot-put xs t x z g, front y (with_state xs t z), front y (without_task xs t))) e

-- a note with its result
pub note_rule : (s : ℕ) (x : Task) (z : TaskState) → x.state ≡ z → (f : Thing → ℕ) → tot f (task_things s 0 x) ≡ f (noted s x) + tot f (result_things x.thread z)
note_rule s x z q f = ap (λ y. f (noted s x) + tot f (result_things x.thread y)) q

module _ {K : List Thing → Type 0} (k : Kept K) (n e : ℕ) where
  -- a note changes, or goes, with what is beside
  pub puts_state : {others others2 : List Thing} (w : Work) (t : ℕ) (x : Task) (z : TaskState) {o2 n2 : List Thing} → task_in w.rest.tasks t ≡ Some x → Trade others o2 n2 others2
      → Rule (task_things n 0 x ++ o2) (task_things n 0 (record { thread = t; state = z }) ++ n2) → WorkOk K n e others w → WorkOk K n e others2 (with_tasks (with_state w.rest.tasks t z) w)
  puts_state w t x z q u r g =
      let ts = with_state w.rest.tasks t z in
      let new : Task = record { thread = t; state = z } in
      let changed : Trade (all_tasks n w.rest.tasks) (task_things n 0 x) (task_things n 0 new) (all_tasks n ts) = record { rest = all_tasks n (without_task w.rest.tasks t); before = λ f. tot-gone f n w.rest.tasks t x q; after = λ f. tot-put f n w.rest.tasks t x z q } in
      work_trades k n e w (with_tasks ts w) refl (of_tasks n e w.rest ts changed) u r g

  pub unnotes_task : {others others2 : List Thing} (w : Work) (t : ℕ) (x : Task) {o2 n2 : List Thing} → task_in w.rest.tasks t ≡ Some x → Trade others o2 n2 others2
      → Rule (task_things n 0 x ++ o2) n2 → WorkOk K n e others w → WorkOk K n e others2 (with_tasks (without_task w.rest.tasks t) w)
  unnotes_task w t x q u r g =
      let ts = without_task w.rest.tasks t in
      let gone : Trade (all_tasks n w.rest.tasks) (task_things n 0 x) [] (all_tasks n ts) = record { rest = all_tasks n ts; before = λ f. tot-gone f n w.rest.tasks t x q; after = λ f. omega arith } in
      work_trades k n e w (with_tasks ts w) refl (of_tasks n e w.rest ts gone) u r g

  -- from a going task to one without a result
  state_rule : (x : Task) (t : ℕ) (z : TaskState) → x.state ≡ going → result_things t z ≡ [] → Rule (task_things n 0 x ++ []) (task_things n 0 (record { thread = t; state = z }) ++ [])
  state_rule x t z q bare =
      let y : Task = record { thread = t; state = z } in
      let empty : (f : Thing → ℕ) → tot f (result_things t z) ≡ 0 = λ f. ap (tot f) bare in
      in_turn (turned (task_things n 0 x ++ []) (noted n x ∷ []) (λ f. omega (arith, note_rule n x going q f, tot-append f (task_things n 0 x) [])))
      (in_turn (unnotes n x) (in_turn (notes n y) (turned (noted n y ∷ []) (task_things n 0 y ++ []) (λ f. omega (arith, empty f, tot-append f (task_things n 0 y) [])))))

  -- a kept result comes to the hand
  result_rule : (x : Task) (v : Owned) → x.state ≡ kept v → Rule (task_things n 0 x ++ []) (holds in_hand v ∷ [])
  result_rule x v q =
      in_turn (turned (task_things n 0 x ++ []) (noted n x ∷ holds (as_result x.thread) v ∷ []) (λ f. omega (arith, note_rule n x (kept v) q f, tot-append f (task_things n 0 x) [])))
      (beside (unnotes n x) (hands_on (as_result x.thread) in_hand v))

  some_come : (xs others : List Thing) → Trade others [] xs (xs ++ others)
  some_come xs others = record { rest = others; before = λ f. omega arith; after = λ f. tot-append f xs others }

  -- JOINS

  asks : (others : List Thing) (t s by : ℕ) (w : Work) → WorkOk K n e others w → Gives (λ a. WorkOk K n e (left_things k n e a.1 ++ others) (with_tasks a.0 w)) (ask w.rest.tasks t s by)
  asks others t s by w g = task (task_in w.rest.tasks t) refl
    where
      state : (x : Task) → task_in w.rest.tasks t ≡ Some x → (z : TaskState) → x.state ≡ z → Gives (λ a. WorkOk K n e (left_things k n e a.1 ++ others) (with_tasks a.0 w)) (asked_from w.rest.tasks t s by (Some z))
      state x q going z = puts_state w t x (asked s by) q (trade_none others) (state_rule x t (asked s by) z refl) g
      state x q (kept v) z = unnotes_task w t x q (some_come (holds in_hand v ∷ []) others) (result_rule x v z) g
      state x q let_go z = tt
      state x q (asked a b) z = tt
      state x q (in_pair a b) z = tt

      task : (o : Option Task) → task_in w.rest.tasks t ≡ o → Gives (λ a. WorkOk K n e (left_things k n e a.1 ++ others) (with_tasks a.0 w)) (asked_from w.rest.tasks t s by (state_in o))
      task None q = tt
      task (Some x) q = state x q x.state refl

  pub answers : (others : List Thing) (u s by : ℕ) (v : Owned) (w : Work) → WorkOk K n e (holds in_hand v ∷ others) w → WorkOk K n e others (answer u s by v w)
  answers others u s by v w g =
      work_sends k n e (holds in_hand v ∷ others) (note (act.Answer u by s) w) s (message.Joined u v by) (one_goes (holds in_hand v) others)
      (beside (sends s (message.Joined u v by) refl) (hands_on in_hand (as_result u) v)) (record { number = g.number; bag = g.bag })

  answers_join : (others : List Thing) (u s by : ℕ) (o : Option Owned) (w : Work) → WorkOk K n e (left_things k n e o ++ others) w → WorkOk K n e others (answer_join u s by o w)
  answers_join others u s by None w g = g
  answers_join others u s by (Some v) w g = answers others u s by v w g

  pub joins_deliver : (others : List Thing) (u s by : ℕ) (w : Work) → WorkOk K n e others w → Gives (WorkOk K n e others) (deliver_join u s by w)
  joins_deliver others u s by w g =
      over_gives (λ a. WorkOk K n e (left_things k n e a.1 ++ others) (with_tasks a.0 w)) (WorkOk K n e others) (ask w.rest.tasks u s by) _ (asks others u s by w g) (λ a x. answers_join others u s by a.1 (with_tasks a.0 w) x)

  -- TASKS THAT ARE DROPPED

  lets : (others : List Thing) (t : ℕ) (w : Work) → WorkOk K n e others w → Gives (λ a. WorkOk K n e (left_things k n e a.1 ++ others) (with_tasks a.0 w)) (let_go_of w.rest.tasks t)
  lets others t w g = task (task_in w.rest.tasks t) refl
    where
      state : (x : Task) → task_in w.rest.tasks t ≡ Some x → (z : TaskState) → x.state ≡ z → Gives (λ a. WorkOk K n e (left_things k n e a.1 ++ others) (with_tasks a.0 w)) (let_go_from w.rest.tasks t (Some z))
      state x q going z = puts_state w t x let_go q (trade_none others) (state_rule x t let_go z refl) g
      state x q (kept v) z = unnotes_task w t x q (some_come (holds in_hand v ∷ []) others) (result_rule x v z) g
      state x q let_go z = tt
      state x q (asked a b) z = tt
      state x q (in_pair a b) z = tt

      task : (o : Option Task) → task_in w.rest.tasks t ≡ o → Gives (λ a. WorkOk K n e (left_things k n e a.1 ++ others) (with_tasks a.0 w)) (let_go_from w.rest.tasks t (state_in o))
      task None q = tt
      task (Some x) q = state x q x.state refl

  -- its `release` has gone
  pub task_goes : (others : List Thing) (t : ℕ) (w : Work) → WorkOk K n e others w → Gives (WorkOk K n e others) (release_task t w)
  task_goes others t w g =
      over_gives (λ a. WorkOk K n e (left_things k n e a.1 ++ others) (with_tasks a.0 w)) (WorkOk K n e others) (let_go_of w.rest.tasks t) _ (lets others t w g) (λ a u. gives_up_left k n e others a.1 (with_tasks a.0 w) u)

  pub releases_task : Spends K → (others : List Thing) (t : ℕ) (w : Work) → WorkOk K n e (sent n (message.Release (released.Task t)) ∷ others) w → Gives (WorkOk K n e others) (release_task t w)
  releases_task sp others t w g =
      task_goes others t w (record { number = g.number; bag = sp.let_go n t (trade_left (rest_things n e w.rest) (one_goes (sent n (message.Release (released.Task t))) others)) g.bag })

  -- THREADS THAT ARRIVE

  tot-with : (f : Thing → ℕ) (xs : List ThreadState) (x : ThreadState) → tot f (all_standing n (with_thread xs x)) ≡ tot f (thread_things n false x) + tot f (all_standing n xs)
  tot-with f [] x = omega (arith, tot-append f (thread_things n false x) [])
  tot-with f (z ∷ xs) x = either (nat_lt x.number z.number) (tot-with f xs x)
    where
      either : (b : Bool) → tot f (all_standing n (with_thread xs x)) ≡ tot f (thread_things n false x) + tot f (all_standing n xs)
          → tot f (all_standing n (if b then x ∷ z ∷ xs else z ∷ with_thread xs x)) ≡ tot f (thread_things n false x) + tot f (all_standing n (z ∷ xs))
      either true go = tot-front (thread_things n false) f 0 x (z ∷ xs)
      either false go = omega (arith, tot-front (thread_things n false) f 0 z (with_thread xs x), tot-front (thread_things n false) f 0 z xs, go)

  pub arrives : (others : List Thing) (p : ThreadState) (x : Site) → SiteOk K n e (thread_things n true p ++ others) x → Gives (SiteOk K n e others) (arrive p x)
  arrives others p x g =
      let a = all_standing n x.threads in
      let r = rest_things n e x.work.rest in
      let packed = thread_things n true p in
      let whole = thread_things n false p in
      let both : Trade (a ++ (r ++ (packed ++ others))) (stands n true p ∷ []) (stands n false p ∷ []) (all_standing n (with_thread x.threads p) ++ (r ++ others)) = record {
        rest = Rattle.law_counts_sums.proofs.Bags.had_by n p ++ (a ++ (r ++ others));
        before = λ f. omega (arith, tot-append f a (r ++ (packed ++ others)), tot-append f r (packed ++ others), tot-append f packed others, tot-append f (Rattle.law_counts_sums.proofs.Bags.had_by n p) (a ++ (r ++ others)), tot-append f a (r ++ others), tot-append f r others);
        after = λ f. omega (arith, tot-with f x.threads p, tot-append f (all_standing n (with_thread x.threads p)) (r ++ others), tot-append f r others, tot-append f (Rattle.law_counts_sums.proofs.Bags.had_by n p) (a ++ (r ++ others)), tot-append f a (r ++ others));
      } in
      stand_gives (SiteOk K n e others) (thread_in x.threads p.number) p x (record { number = g.number; bag = k.trades both (packs n n true false p p refl) g.bag })
