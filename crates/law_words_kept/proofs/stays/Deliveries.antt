-- What the delivery of each message changes, where words see nothing of it.
use Rattle.std.proofs.Common.{◌≡◌, ℕ, ◌+◌, ◌==◌, ◌-◌, ◌^◌, Bool, true, false, ◌&&◌, if◌then◌else◌, List, [], ◌∷◌, ◌++◌, Option, Some, None, option_map, refl, sym, subst}
use Rattle.std.specs.Prelude.{nat_lt}
use Rattle.law_counts_sums.specs.Below.fr_base.declared.instruction.Instr.{Instr}
use Rattle.law_counts_sums.specs.Below.fr_base.declared.name.MutexNo.{MutexNo}
use Rattle.law_counts_sums.specs.Below.fr_base.declared.name.ObjNo.{ObjNo}
use Rattle.law_counts_sums.specs.Below.fr_base.declared.release.Released.TheVariants as released
use Rattle.law_counts_sums.specs.Below.heap_partition.declared.value.Owned.{Owned}
use Rattle.law_counts_sums.specs.Below.mutex_home.Mutexes.{Mutex, Mutexes, mutex_in, put_mutex, end_mutex, asked_in, asked_of, back_in, back_out, back_to, more, more_in, less_in, less_of, last_less}
use Rattle.law_counts_sums.specs.Below.mutex_home.declared.answers.Back.{Back}
use Rattle.law_counts_sums.specs.Below.mutex_home.declared.answers.Back.TheVariants as back
use Rattle.law_counts_sums.specs.Below.join_home.Tasks.{Task, TaskState, going, let_go, kept, asked, in_pair, task_in, state_in, without_task, asked_from, let_go_from}
use Rattle.law_counts_sums.specs.Below.server_msgs.declared.message.Message.{Message}
use Rattle.law_counts_sums.specs.Below.server_msgs.declared.message.Message.TheVariants as message
use Rattle.law_counts_sums.specs.Below.server_model.Servers.{Rest}
use Rattle.law_counts_sums.specs.Below.server_model.Work.{Work, sent_from, with_mutexes, with_tasks, look_object}
use Rattle.law_counts_sums.specs.Below.server_model.Objects.{deliver_fetch}
use Rattle.law_counts_sums.specs.Below.server_model.Sharing.{deliver_lock, deliver_unlock, deliver_dup, answer_lock, answer_back, give_up_left, release_mutex}
use Rattle.law_counts_sums.specs.Below.server_model.Joining.{deliver_join, answer_join, release_task}
use Rattle.law_counts_sums.specs.Below.server_model.Events.{begin_work}
use Rattle.law_counts_sums.specs.Below.coherent_memory.Things.{sent, Thing, message_things}
use Rattle.law_counts_sums.specs.Laws.{Gives}
use Rattle.law_counts_sums.proofs.Results.{map_gives, test_gives, over_gives}
use Rattle.law_counts_sums.proofs.Bags.{body_things}
use Rattle.law_words_kept.proofs.stays.Alike.{Alike, itself, turned, chain, beside, alone, blank, goes}
use Rattle.law_words_kept.proofs.stays.Servers.{held, held_if, content_held, result_held, result_of, mutex_changes, mutex_ends, note_changes, note_ends, RestAlike, sent_alike, given_up}

-- WHAT MESSAGES SHOW

pub content_message : {code : List Instr} (n : ℕ) (m : MutexNo) (v : Owned) (t : ℕ) → Alike code (message_things n (message.Granted m v t)) (held v)
content_message n m v t = beside {a = sent n (message.Granted m v t) ∷ []} {b = []} (blank (sent n (message.Granted m v t)) (λ p e h. h)) (content_held m v)

unlock_message : {code : List Instr} (n : ℕ) (m : MutexNo) (v : Owned) → Alike code (message_things n (message.Unlock m v)) (held v)
unlock_message n m v = beside {a = sent n (message.Unlock m v) ∷ []} {b = []} (blank (sent n (message.Unlock m v)) (λ p e h. h)) (content_held m v)

pub result_message : {code : List Instr} (n u : ℕ) (v : Owned) (t : ℕ) → Alike code (message_things n (message.Joined u v t)) (held v)
result_message n u v t = beside {a = sent n (message.Joined u v t) ∷ []} {b = []} (blank (sent n (message.Joined u v t)) (λ p e h. h)) (result_held u v)

module _ (code : List Instr) (n : ℕ) (r : Rest) (number : r.number ≡ n) where
  abbrev start : Work
  start = begin_work r

  abbrev B : Rest → List Thing
  B q = body_things n q

  -- a message that shows nothing
  abbrev Blank : Message → Type 0
  Blank m = Alike code (message_things n m) []

  -- it has come, and one goes out that shows nothing
  answered : (m : Message) → Blank m → (q : Rest) → q.number ≡ n → Alike code (message_things n m ++ B r) (B q) → (a : ℕ) (m2 : Message) → Alike code (message_things a m2) [] → RestAlike code n (message_things n m ++ B r) (sent_from q a m2)
  answered m blank q e h a m2 none = sent_alike n (message_things n m ++ B r) q a m2 e (chain h (turned (goes none)))

  -- OBJECTS

  pub fetches : (w : ℕ) (o : ObjNo) (s t : ℕ) → Gives (λ (x : Work). RestAlike code n (message_things n (message.Fetch w o s t) ++ B r) x.rest) (deliver_fetch w o s t start)
  fetches w o s t =
      let gone : Blank (message.Fetch w o s t) = blank (sent n (message.Fetch w o s t)) (λ p e h. h) in
      map_gives (λ (x : Work). RestAlike code n (message_things n (message.Fetch w o s t) ++ B r) x.rest) (look_object r.partition w o) _
      (λ c q. answered (message.Fetch w o s t) gone r number (goes gone) s (message.Fetched w c t) (blank (sent s (message.Fetched w c t)) (λ p e h. h)))

  -- MUTEXES

  pub locks : (m : MutexNo) (s t : ℕ) → Gives (λ (x : Work). RestAlike code n (message_things n (message.Lock m s t) ++ B r) x.rest) (deliver_lock m s t start)
  locks m s t = by (mutex_in r.mutexes.there m) refl
    where
      msg : List Thing
      msg = message_things n (message.Lock m s t)

      gone : Blank (message.Lock m s t)
      gone = blank (sent n (message.Lock m s t)) (λ p e h. h)

      Then : Work → Type 0
      Then x = RestAlike code n (message_things n (message.Lock m s t) ++ B r) x.rest

      content : (x : Mutex) → mutex_in r.mutexes.there m ≡ Some x → (c : Option Owned) → x.content ≡ c → Then (answer_lock m s t (asked_of r.mutexes s t c x).1 (with_mutexes (asked_of r.mutexes s t c x).0 start))
      content x e None q = record {
        number = number;
        alike = mutex_changes n r m x (record x { queue = x.queue ++ (s, t) ∷ [] }) (message_things n (message.Lock m s t)) [] e refl (goes gone);
      }
      content x e (Some v) q =
          let r2 = record r { mutexes = put_mutex r.mutexes (record x { content = None }) } in
          sent_alike n (message_things n (message.Lock m s t) ++ B r) r2 s (message.Granted m v t) number
          (chain (mutex_changes n r m x (record x { content = None }) (message_things n (message.Lock m s t)) (held v) e refl
          (chain (goes gone) (subst (λ c. Alike code (held_if c) (held v ++ [])) (sym q) (itself (held v))))) (beside (turned (content_message s m v t)) (itself (B r2))))

      by : (o : Option Mutex) → mutex_in r.mutexes.there m ≡ o → Gives Then (option_map (λ a. answer_lock m s t a.1 (with_mutexes a.0 start)) (asked_in r.mutexes s t o))
      by None e = tt
      by (Some x) e = content x e x.content refl

  pub unlocks : (m : MutexNo) (v : Owned) → Gives (λ (x : Work). RestAlike code n (message_things n (message.Unlock m v) ++ B r) x.rest) (deliver_unlock m v start)
  unlocks m v = by (mutex_in r.mutexes.there m) refl
    where
      Then : Work → Type 0
      Then x = RestAlike code n (message_things n (message.Unlock m v) ++ B r) x.rest

      Done : Mutexes × Back → Type 0
      Done a = RestAlike code n (message_things n (message.Unlock m v) ++ B r) (answer_back m a.1 (with_mutexes a.0 start)).rest

      comes : Alike code (message_things n (message.Unlock m v)) (held v)
      comes = unlock_message n m v

      -- the content was out
      out : (x : Mutex) → x.content ≡ None → (h2 : List Thing) → Alike code (held v) h2 → Alike code (message_things n (message.Unlock m v) ++ held_if x.content) h2
      out x q h2 a = subst (λ c. Alike code (message_things n (message.Unlock m v) ++ held_if c) h2) (sym q) (chain (alone (message_things n (message.Unlock m v))) (chain comes a))

      in_again : (x : Mutex) → mutex_in r.mutexes.there m ≡ Some x → x.content ≡ None → (b : Bool) → Done (if b then (end_mutex r.mutexes x.number, back.Ended v) else (put_mutex r.mutexes (record x { content = Some v }), back.Kept))
      in_again x e q true =
          given_up n (message_things n (message.Unlock m v) ++ B r) v (with_mutexes (end_mutex r.mutexes x.number) start) number
          (mutex_ends n r m x (message_things n (message.Unlock m v)) (held v) e (out x q (held v) (itself (held v))))
      in_again x e q false = record {
        number = number;
        alike = mutex_changes n r m x (record x { content = Some v }) (message_things n (message.Unlock m v)) [] e refl (out x q (held v) (itself (held v)));
      }

      waiting : (x : Mutex) → mutex_in r.mutexes.there m ≡ Some x → x.content ≡ None → (l : List (ℕ × ℕ)) → Done (back_to r.mutexes v x l)
      waiting x e q [] = in_again x e q (x.shares == 0)
      waiting x e q (first ∷ rest) =
          let y : Mutex = record x { queue = rest } in
          let r2 = record r { mutexes = put_mutex r.mutexes y } in
          sent_alike n (message_things n (message.Unlock m v) ++ B r) r2 first.0 (message.Granted m v first.1) number
          (chain (mutex_changes n r m x y (message_things n (message.Unlock m v)) (held v) e refl (out x q (held v ++ held_if x.content) (subst (λ c. Alike code (held v) (held v ++ held_if c)) (sym q) (itself (held v)))))
          (beside (turned (content_message first.0 m v first.1)) (itself (B r2))))

      content : (x : Mutex) → mutex_in r.mutexes.there m ≡ Some x → (c : Option Owned) → x.content ≡ c → Gives Done (back_out r.mutexes v x c)
      content x e None q = waiting x e q x.queue
      content x e (Some u) q = tt

      by : (o : Option Mutex) → mutex_in r.mutexes.there m ≡ o → Gives Then (option_map (λ a. answer_back m a.1 (with_mutexes a.0 start)) (back_in r.mutexes v o))
      by None e = tt
      by (Some x) e = over_gives Done Then (back_out r.mutexes v x x.content) _ (content x e x.content refl) (λ a g. g)

  pub dups : (m : MutexNo) (s t : ℕ) → Gives (λ (x : Work). RestAlike code n (message_things n (message.Dup m s t) ++ B r) x.rest) (deliver_dup m s t start)
  dups m s t = over_gives Good Then (more r.mutexes m) _ (by (mutex_in r.mutexes.there m) refl) (λ ms a. answered (message.Dup m s t) gone (record r { mutexes = ms }) number a s (message.Dupped m t) (blank (sent s (message.Dupped m t)) (λ p e h. h)))
    where
      gone : Blank (message.Dup m s t)
      gone = blank (sent n (message.Dup m s t)) (λ p e h. h)

      Then : Work → Type 0
      Then x = RestAlike code n (message_things n (message.Dup m s t) ++ B r) x.rest

      Good : Mutexes → Type 0
      Good ms = Alike code (message_things n (message.Dup m s t) ++ B r) (B (record r { mutexes = ms }))

      by : (o : Option Mutex) → mutex_in r.mutexes.there m ≡ o → Gives Good (more_in r.mutexes o)
      by None e = tt
      by (Some x) e =
          test_gives Good (nat_lt 0 x.shares && nat_lt x.shares (2 ^ 64 - 1)) _
          (λ on. mutex_changes n r m x (record x { shares = x.shares + 1 }) (message_things n (message.Dup m s t)) [] e refl (goes gone))

  -- what is left over goes
  leaves : (before : List Thing) (v : Option Owned) (w : Work) → w.rest.number ≡ n → Alike code before (held_if v ++ B w.rest) → RestAlike code n before (give_up_left v w).rest
  leaves before None w e a = record { number = e; alike = a }
  leaves before (Some v) w e a = given_up n before v w e a

  pub shares_go : (m : MutexNo) → Gives (λ (x : Work). RestAlike code n (message_things n (message.Release (released.Mutex m)) ++ B r) x.rest) (release_mutex m start)
  shares_go m = by (mutex_in r.mutexes.there m) refl
    where
      msg : List Thing
      msg = message_things n (message.Release (released.Mutex m))

      gone : Blank (message.Release (released.Mutex m))
      gone = blank (sent n (message.Release (released.Mutex m))) (λ p e h. h)

      Then : Work → Type 0
      Then x = RestAlike code n (message_things n (message.Release (released.Mutex m)) ++ B r) x.rest

      Done : Mutexes × Option Owned → Type 0
      Done a = RestAlike code n (message_things n (message.Release (released.Mutex m)) ++ B r) (give_up_left a.1 (with_mutexes a.0 start)).rest

      last : (x : Mutex) → mutex_in r.mutexes.there m ≡ Some x → (c : Option Owned) → x.content ≡ c → Done (last_less r.mutexes x c)
      last x e None q = record { number = number; alike = mutex_changes n r m x (record x { shares = 0 }) (message_things n (message.Release (released.Mutex m))) [] e refl (goes gone) }
      last x e (Some v) q =
          given_up n (message_things n (message.Release (released.Mutex m)) ++ B r) v (with_mutexes (end_mutex r.mutexes x.number) start) number
          (mutex_ends n r m x (message_things n (message.Release (released.Mutex m))) (held v) e (chain (goes gone) (subst (λ c. Alike code (held_if c) (held v)) (sym q) (itself (held v)))))

      one_less : (x : Mutex) → mutex_in r.mutexes.there m ≡ Some x → (b : Bool) → Done (if b then last_less r.mutexes x x.content else (put_mutex r.mutexes (record x { shares = x.shares - 1 }), None))
      one_less x e true = last x e x.content refl
      one_less x e false = record { number = number; alike = mutex_changes n r m x (record x { shares = x.shares - 1 }) (message_things n (message.Release (released.Mutex m))) [] e refl (goes gone) }

      by : (o : Option Mutex) → mutex_in r.mutexes.there m ≡ o → Gives Then (option_map (λ a. give_up_left a.1 (with_mutexes a.0 start)) (less_in r.mutexes o))
      by None e = tt
      by (Some x) e = over_gives Done Then (less_in r.mutexes (Some x)) _ (test_gives Done (nat_lt 0 x.shares) (Some (less_of r.mutexes x)) (λ on. one_less x e (x.shares == 1))) (λ a g. g)

  -- RESULTS

  pub joins : (u s t : ℕ) → Gives (λ (x : Work). RestAlike code n (message_things n (message.Join u s t) ++ B r) x.rest) (deliver_join u s t start)
  joins u s t = by (task_in r.tasks u) refl
    where
      gone : Blank (message.Join u s t)
      gone = blank (sent n (message.Join u s t)) (λ p e h. h)

      Then : Work → Type 0
      Then x = RestAlike code n (message_things n (message.Join u s t) ++ B r) x.rest

      noted : (x : Task) → task_in r.tasks u ≡ Some x → (z : TaskState) → x.state ≡ z → Gives Then (option_map (λ a. answer_join u s t a.1 (with_tasks a.0 start)) (asked_from r.tasks u s t (Some z)))
      noted x e going q = record {
        number = number;
        alike = note_changes n r u x (asked s t) (message_things n (message.Join u s t)) [] e (subst (λ z. Alike code (message_things n (message.Join u s t) ++ held_if (result_of z)) []) (sym q) (goes gone));
      }
      noted x e (kept v) q =
          let r2 = record r { tasks = without_task r.tasks u } in
          sent_alike n (message_things n (message.Join u s t) ++ B r) r2 s (message.Joined u v t) number
          (chain (note_ends n r u x (message_things n (message.Join u s t)) (held v) e (subst (λ z. Alike code (message_things n (message.Join u s t) ++ held_if (result_of z)) (held v)) (sym q) (goes gone)))
          (beside (turned (result_message s u v t)) (itself (B r2))))
      noted x e let_go q = tt
      noted x e (asked a b) q = tt
      noted x e (in_pair p over) q = tt

      by : (o : Option Task) → task_in r.tasks u ≡ o → Gives Then (option_map (λ a. answer_join u s t a.1 (with_tasks a.0 start)) (asked_from r.tasks u s t (state_in o)))
      by None e = tt
      by (Some x) e = noted x e x.state refl

  pub tasks_go : (u : ℕ) → Gives (λ (x : Work). RestAlike code n (message_things n (message.Release (released.Task u)) ++ B r) x.rest) (release_task u start)
  tasks_go u = by (task_in r.tasks u) refl
    where
      gone : Blank (message.Release (released.Task u))
      gone = blank (sent n (message.Release (released.Task u))) (λ p e h. h)

      Then : Work → Type 0
      Then x = RestAlike code n (message_things n (message.Release (released.Task u)) ++ B r) x.rest

      noted : (x : Task) → task_in r.tasks u ≡ Some x → (z : TaskState) → x.state ≡ z → Gives Then (option_map (λ a. give_up_left a.1 (with_tasks a.0 start)) (let_go_from r.tasks u (Some z)))
      noted x e going q = record {
        number = number;
        alike = note_changes n r u x let_go (message_things n (message.Release (released.Task u))) [] e (subst (λ z. Alike code (message_things n (message.Release (released.Task u)) ++ held_if (result_of z)) []) (sym q) (goes gone));
      }
      noted x e (kept v) q =
          given_up n (message_things n (message.Release (released.Task u)) ++ B r) v (with_tasks (without_task r.tasks u) start) number
          (note_ends n r u x (message_things n (message.Release (released.Task u))) (held v) e (subst (λ z. Alike code (message_things n (message.Release (released.Task u)) ++ held_if (result_of z)) (held v)) (sym q) (goes gone)))
      noted x e let_go q = tt
      noted x e (asked a b) q = tt
      noted x e (in_pair p over) q = tt

      by : (o : Option Task) → task_in r.tasks u ≡ o → Gives Then (option_map (λ a. give_up_left a.1 (with_tasks a.0 start)) (let_go_from r.tasks u (state_in o)))
      by None e = tt
      by (Some x) e = noted x e x.state refl
