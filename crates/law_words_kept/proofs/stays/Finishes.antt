-- A thread has ended: its result is kept, sent or dropped, or is a branch's, which is unit, and vanishes.
use Rattle.std.proofs.Common.{◌≡◌, ℕ, ◌==◌, ◌||◌, Bool, true, false, if◌then◌else◌, List, [], ◌∷◌, ◌++◌, Option, Some, None, refl, sym, ap, subst, ◌∙◌}
use Rattle.law_counts_sums.specs.Below.fr_base.declared.instruction.Instr.{Instr}
use Rattle.law_counts_sums.specs.Below.heap_partition.declared.value.Owned.{Owned}
use Rattle.law_counts_sums.specs.Below.heap_partition.declared.value.Owned.TheVariants as owned
use Rattle.law_counts_sums.specs.Below.join_home.Tasks.{Task, TaskState, going, let_go, kept, asked, in_pair, task_in, state_in, without_task, over_of, over_in, pair_ended, ended_from, ended}
use Rattle.law_counts_sums.specs.Below.join_home.declared.answers.EndedAs.{EndedAs}
use Rattle.law_counts_sums.specs.Below.join_home.declared.answers.EndedAs.TheVariants as ended_as
use Rattle.law_counts_sums.specs.Below.thread_state.declared.phase.Phase.{Phase}
use Rattle.law_counts_sums.specs.Below.thread_state.declared.phase.Phase.TheVariants as phase
use Rattle.law_counts_sums.specs.Below.server_msgs.declared.message.Message.TheVariants as message
use Rattle.law_counts_sums.specs.Below.server_model.Servers.{Rest}
use Rattle.law_counts_sums.specs.Below.server_model.Work.{Hand, Site, with_tasks, with_phase}
use Rattle.law_counts_sums.specs.Below.server_model.Drop.{give_up}
use Rattle.law_counts_sums.specs.Below.server_model.Joining.{answer, got_par, pair_over, end_answer, deliver_finished}
use Rattle.law_counts_sums.specs.Below.coherent_memory.Rooted.{is_unit}
use Rattle.law_counts_sums.specs.Below.coherent_memory.Things.{Thing, in_hand, holds, sent, message_things}
use Rattle.law_counts_sums.specs.Laws.{Gives}
use Rattle.law_counts_sums.proofs.Results.{bind_gives, map_gives, weaker}
use Rattle.law_counts_sums.proofs.Bags.{body_things, all_standing}
use Rattle.law_counts_sums.proofs.Finished.{PairsAreRight, pair_finds, other_stays, same_task, not_over}
use Rattle.law_words_kept.proofs.stays.Alike.{Alike, itself, turned, chain, beside, in_front, alone, blank}
use Rattle.law_words_kept.proofs.stays.Servers.{held, held_if, result_held, result_of, note_changes, note_ends, sent_alike, given_up}
use Rattle.law_words_kept.proofs.stays.Threads.{slots_of, temps_of, thread_alike, TakesNone, phase_shows}
use Rattle.law_words_kept.proofs.stays.Deliveries.{result_message}
use Rattle.law_words_kept.proofs.stays.Sites.{HandAlike, SiteAlike, site_things, beside_alike, thread_alike_at}

finished_message : {code : List Instr} (n u : ℕ) (v : Owned) → Alike code (message_things n (message.Finished u v)) (held v)
finished_message n u v = beside {a = sent n (message.Finished u v) ∷ []} {b = []} (blank (sent n (message.Finished u v)) (λ p e h. h)) (result_held u v)

unit_unseen : {code : List Instr} (v : Owned) → is_unit v ≡ true → Alike code (held v) []
unit_unseen owned.Unit e = blank (holds in_hand owned.Unit) (λ p i h. h)
unit_unseen owned.Nothing e = blank (holds in_hand owned.Nothing) (λ p i h. h)
unit_unseen (owned.Int j) e = blank (holds in_hand (owned.Int j)) (λ p i h. h)
unit_unseen (owned.Mutex m) e = blank (holds in_hand (owned.Mutex m)) (λ p i h. h)
unit_unseen (owned.Task t) e = blank (holds in_hand (owned.Task t)) (λ p i h. h)
unit_unseen (owned.Box p) e = absurd cc

-- a branch that is over has no result
over_bare : (p : ℕ) (s : TaskState) → over_of p s ≡ true → result_of s ≡ None
over_bare p (in_pair q b) h = refl
over_bare p going h = refl
over_bare p let_go h = refl
over_bare p (asked a b) h = refl
over_bare p (kept v) h = absurd cc

-- what is in the hand once the home knows
abbrev hand_of : EndedAs → List Thing
hand_of (ended_as.Answer s by v) = held v
hand_of (ended_as.Both p) = []
hand_of (ended_as.LetGo v) = held v
hand_of ended_as.Kept = []

module _ (code : List Instr) (n : ℕ) (r : Rest) (u : ℕ) (v : Owned) (right : PairsAreRight r.tasks u v) where
  abbrev msg : List Thing
  msg = message_things n (message.Finished u v)

  abbrev Ended : List Task × EndedAs → Type 0
  Ended a = Alike code (msg ++ body_things n r) (hand_of a.1 ++ body_things n (record r { tasks = a.0 }))

  -- the note had no result
  bare : (x : Task) (z : TaskState) → x.state ≡ z → result_of z ≡ None → (h2 : List Thing) → Alike code msg h2 → Alike code (msg ++ held_if (result_of x.state)) h2
  bare x z q e h2 a = subst (λ o. Alike code (msg ++ held_if o) h2) (sym (ap result_of q ∙ e)) (chain (alone msg) a)

  comes : Alike code msg (held v)
  comes = finished_message n u v

  pair_case : (x : Task) (p : ℕ) → task_in r.tasks u ≡ Some x → x.state ≡ in_pair p false → (o : Option ℕ) → over_in r.tasks p ≡ o → Ended (pair_ended r.tasks u p o)
  pair_case x p e q None m = note_changes n r u x (in_pair p true) msg [] e (bare x (in_pair p false) q refl [] (chain comes (unit_unseen v (right.unit x p e q))))
  pair_case x p e q (Some o) m =
      let found = pair_finds p r.tasks o right.rise m in
      let y = found.0 in
      let differ : (u ≡ o) → ⊥ = λ same.
      let both : x ≡ y = same_task (sym e ∙ subst (λ i. task_in r.tasks i ≡ Some y) (sym same) found.1) in
      not_over p p y.state (subst (λ (i : Task). i.state ≡ in_pair p false) both q) found.2 in
      let first : Alike code (msg ++ body_things n r) (body_things n (record r { tasks = without_task r.tasks u })) = note_ends n r u x msg [] e (bare x (in_pair p false) q refl [] (chain comes (unit_unseen v (right.unit x p e q)))) in
      let none : Alike code (held_if (result_of y.state)) [] = subst (λ o. Alike code (held_if o) []) (sym (over_bare p y.state found.2)) (itself []) in
      chain first (note_ends n (record r { tasks = without_task r.tasks u }) o y [] [] (other_stays r.tasks u o y differ found.1) none)

  state : (x : Task) → task_in r.tasks u ≡ Some x → (z : TaskState) → x.state ≡ z → Gives Ended (ended_from r.tasks u v (Some z))
  state x e going q = note_changes n r u x (kept v) msg [] e (bare x going q refl (held v) comes)
  state x e let_go q = note_ends n r u x msg (held v) e (bare x let_go q refl (held v) comes)
  state x e (kept w) q = tt
  state x e (asked s by) q = note_ends n r u x msg (held v) e (bare x (asked s by) q refl (held v) comes)
  state x e (in_pair p true) q = tt
  state x e (in_pair p false) q = pair_case x p e q (over_in r.tasks p) refl

  pub ends : Gives Ended (ended r.tasks u v)
  ends = by (task_in r.tasks u) refl
    where
      by : (o : Option Task) → task_in r.tasks u ≡ o → Gives Ended (ended_from r.tasks u v (state_in o))
      by None e = tt
      by (Some x) e = state x e x.state refl

-- THE PARENT OF A PAIR GOES ON

waits_takes : (u : ℕ) (q p : Phase) → got_par u q ≡ Some p → TakesNone q × TakesNone p
waits_takes u (phase.WaitPar a b) p e = by ((a == u) || (b == u)) e
  where
    got : {x y : Phase} → Some x ≡ Some y → x ≡ y
    got f = cc

    by : (c : Bool) → (if c then Some (phase.GotPar a b) else None) ≡ Some p → TakesNone (phase.WaitPar a b) × TakesNone p
    by true f = (λ t i. refl, subst TakesNone (got f) (λ t i. refl))
    by false f = absurd cc
waits_takes u phase.Ready p e = absurd cc
waits_takes u phase.Got p e = absurd cc
waits_takes u (phase.Taken w) p e = absurd cc
waits_takes u (phase.WaitCell w) p e = absurd cc
waits_takes u (phase.WaitLock m) p e = absurd cc
waits_takes u (phase.WaitDup m) p e = absurd cc
waits_takes u (phase.WaitJoin t) p e = absurd cc
waits_takes u (phase.GotPar a b) p e = absurd cc
waits_takes u phase.Over p e = absurd cc

pair_goes_on : (code : List Instr) (n u : ℕ) (h : Hand) → Gives (HandAlike code n [] h) (pair_over u h)
pair_goes_on code n u h = map_gives (HandAlike code n [] h) (got_par u h.thread.phase) _ (λ p e. by p (waits_takes u h.thread.phase p e))
  where
    by : (p : Phase) → TakesNone h.thread.phase × TakesNone p → HandAlike code n [] h (with_phase p h)
    by p t = record {
      number = refl;
      named = refl;
      thread = thread_alike n n false false h.thread (record h.thread { phase = p }) [] [] (phase_shows code h.thread p h.thread.gift h.thread.walk t.0 t.1) (itself (slots_of n h.thread)) (itself (temps_of n h.thread)) (itself (held_if h.thread.gift));
      rest = itself (body_things n h.work.rest);
    }

-- THE DELIVERY

answer_ends : (code : List Instr) (u : ℕ) (a : EndedAs) (x : Site) → Gives (SiteAlike code (hand_of a) x) (end_answer u a x)
answer_ends code u (ended_as.Answer s by v) x =
    let n = x.work.rest.number in
    beside_alike code (held v) (λ w. Some (answer u s by v w)) x (sent_alike n (held v ++ body_things n x.work.rest) x.work.rest s (message.Joined u v by) refl (beside (turned (result_message s u v by)) (itself (body_things n x.work.rest))))
answer_ends code u (ended_as.Both parent) x = thread_alike_at code [] parent (pair_over u) x (λ y e. pair_goes_on code x.work.rest.number u (record { work = x.work; thread = y }))
answer_ends code u (ended_as.LetGo v) x = let n = x.work.rest.number in beside_alike code (held v) (λ w. Some (give_up v w)) x (given_up n (held v ++ body_things n x.work.rest) v x.work refl (itself (held v ++ body_things n x.work.rest)))
answer_ends code u ended_as.Kept x = record { number = refl; alike = itself (site_things x.work.rest.number x) }

pub finishes : (code : List Instr) (u : ℕ) (v : Owned) (x : Site) → PairsAreRight x.work.rest.tasks u v → Gives (SiteAlike code (message_things x.work.rest.number (message.Finished u v)) x) (deliver_finished u v x)
finishes code u v x right =
    bind_gives (Ended code n x.work.rest u v right) (SiteAlike code (message_things n (message.Finished u v)) x) (ended x.work.rest.tasks u v) _ (ends code n x.work.rest u v right)
    (λ a h. weaker (SiteAlike code (hand_of a.1) (after a)) (SiteAlike code (message_things n (message.Finished u v)) x) (end_answer u a.1 (after a)) (answer_ends code u a.1 (after a)) (λ z s. record { number = s.number; alike = chain (told a h) s.alike }))
  where
    n : ℕ
    n = x.work.rest.number

    after : List Task × EndedAs → Site
    after a = record x { work = with_tasks a.0 x.work }

    told : (a : List Task × EndedAs) → Ended code n x.work.rest u v right a → Alike code (message_things n (message.Finished u v) ++ site_things n x) (hand_of a.1 ++ site_things n (after a))
    told a h =
        let threads = all_standing n x.threads in
        chain (in_front (message_things n (message.Finished u v)) threads (body_things n x.work.rest)) (chain (beside (itself threads) h) (in_front threads (hand_of a.1) (body_things n (record x.work.rest { tasks = a.0 }))))
