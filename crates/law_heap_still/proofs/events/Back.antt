-- A content comes back, a value is dropped, or a thread's result comes home: what it carries goes on to where it counts, or goes where nothing names it.
use Rattle.std.proofs.Common.{◌≡◌, ℕ, ◌+◌, ◌-◌, ◌==◌, Bool, true, false, nat_lt, if◌then◌else◌, List, [], ◌∷◌, Option, Some, None, refl, ap, ap₂, ◌∙◌, arith}
use Rattle.std.specs.Prelude.{slice_get}
use Rattle.std.proofs.lemmas.Bool.{eqb-true}
use Rattle.law_counts_sums.specs.Below.fr_base.declared.name.MutexNo.{MutexNo}
use Rattle.law_counts_sums.specs.Below.fr_base.declared.release.Released.TheVariants as released
use Rattle.law_counts_sums.specs.Below.global_addr.Words.{server_of}
use Rattle.law_counts_sums.specs.Below.heap_partition.Plain.{plain_of}
use Rattle.law_counts_sums.specs.Below.heap_partition.declared.value.Owned.{Owned}
use Rattle.law_counts_sums.specs.Below.heap_partition.declared.value.Owned.TheVariants as owned
use Rattle.law_counts_sums.specs.Below.mutex_home.Mutexes.{Mutex, Mutexes, mutex_in, put_mutex, end_mutex, back_to, back_out, back_in, give_back, last_less, less_of, less_in, less}
use Rattle.law_counts_sums.specs.Below.mutex_home.declared.answers.Back.{Back}
use Rattle.law_counts_sums.specs.Below.mutex_home.declared.answers.Back.TheVariants as back
use Rattle.law_counts_sums.specs.Below.join_home.Tasks.{Task, TaskState, going, let_go, kept, asked, in_pair, task_in, state_in, with_state, without_task, let_go_from, let_go_of}
use Rattle.law_counts_sums.specs.Below.server_msgs.declared.message.Message.{Message}
use Rattle.law_counts_sums.specs.Below.server_msgs.declared.message.Message.TheVariants as message
use Rattle.law_counts_sums.specs.Below.journal.declared.act.Act.TheVariants as act
use Rattle.law_counts_sums.specs.Below.server_model.declared.event.What.TheVariants.{Deliver}
use Rattle.law_counts_sums.specs.Below.server_model.Servers.{Rest, Server, Cluster, server_at}
use Rattle.law_counts_sums.specs.Below.server_model.Work.{Work, note, send, with_mutexes, with_tasks}
use Rattle.law_counts_sums.specs.Below.server_model.Drop.{home_of, give_up}
use Rattle.law_counts_sums.specs.Below.server_model.Sharing.{answer_back, deliver_unlock, give_up_left}
use Rattle.law_counts_sums.specs.Below.server_model.Events.{received, release, does}
use Rattle.law_counts_sums.specs.Below.coherent_memory.Things.{Thing, as_content, as_result, holds, sent, things_at, message_things, content_things, task_things}
use Rattle.law_counts_sums.specs.Below.coherent_memory.Coherent.{IsSound}
use Rattle.law_counts_sums.specs.Laws.{Gives}
use Rattle.law_counts_sums.proofs.Trades.{tot-append}
use Rattle.law_counts_sums.proofs.Results.{over_gives, test_gives}
use Rattle.law_counts_sums.proofs.Bags.{rest_things, of_mutexes, of_sending, sent_number}
use Rattle.law_counts_sums.proofs.MutexLists.{found_number, mutex_goes}
use Rattle.law_counts_sums.proofs.TaskMessages.{tot-gone, tot-put}
use Rattle.law_counts_sums.proofs.FinishSteps.{task_number}
use Rattle.law_heap_still.specs.events.Shows.{Sign, nothing, a_value, sign_of}
use Rattle.law_heap_still.proofs.events.Sites.{shown, Moves, sends, ServerStill, RestTakes, beside_takes, takes_all, deliveries_by}
use Rattle.law_heap_still.proofs.events.Requests.{mutex_shown, mutex_moves, task_moves}
use Rattle.law_heap_still.proofs.events.Unnamed.{shareless, last_share, task_dropped, kept_alone}

-- WHAT IS LET GO

-- a message that carries nothing changes nothing that is shown
tells : (gone hand : List Thing) (r : Rest) (w : Work) (target : ℕ) (m : Message) → message_things target m ≡ sent target m ∷ [] → Moves gone hand r w.rest → Moves gone hand r (send target m w).rest
tells gone hand r w target m alone s = record {
  number = sent_number w.rest target m ∙ s.number;
  alike = λ v z.
      let f : Thing → ℕ = λ x. v (sign_of x) in
      let t = of_sending r.number 0 w.rest s.number target m in
      let none : shown v (message_things target m) ≡ shown v (sent target m ∷ []) = ap (shown v) alone in
      omega (arith, z, none, t.before f, t.after f, s.alike v z, tot-append f hand (rest_things r.number 0 w.rest), tot-append f hand (rest_things r.number 0 (send target m w).rest));
}

pub gives_up : (gone hand : List Thing) (r : Rest) (v : Owned) (w : Work) → Moves gone hand r w.rest → Moves gone hand r (give_up v w).rest
gives_up gone hand r (owned.Box p) w s = tells gone hand r (note (act.Condemn p.object p.word) w) (server_of p.word) (message.Drop p.word p.object) refl s
gives_up gone hand r (owned.Mutex m) w s = tells gone hand r (note (act.LetGo (released.Mutex m)) w) m.home (message.Release (released.Mutex m)) refl s
gives_up gone hand r (owned.Task t) w s = tells gone hand r (note (act.LetGo (released.Task t)) w) (home_of t) (message.Release (released.Task t)) refl s
gives_up gone hand r owned.Nothing w s = s
gives_up gone hand r owned.Unit w s = s
gives_up gone hand r (owned.Int i) w s = s

-- a mutex goes, with what it shows
mutex_ends : (gone hand : List Thing) (r : Rest) (m : MutexNo) (x : Mutex) → mutex_in r.mutexes.there m ≡ Some x → ((w : Sign → ℕ) → w nothing ≡ 0 → shown w gone + shown w (content_things x.number x.content) ≡ shown w hand)
    → Moves gone hand r (record r { mutexes = end_mutex r.mutexes x.number })
mutex_ends gone hand r m x q e = record {
  number = refl;
  alike = λ w z.
      let f : Thing → ℕ = λ y. w (sign_of y) in
      let n = r.number in
      let r2 : Rest = record r { mutexes = end_mutex r.mutexes x.number } in
      let t = of_mutexes n 0 r (end_mutex r.mutexes x.number) (mutex_goes n r.mutexes.there m x q) in
      omega (arith, t.before f, t.after f, mutex_shown w z n x, e w z, tot-append f gone (rest_things n 0 r), tot-append f hand (rest_things n 0 r2));
}

module _ (k : Cluster) (sound : IsSound k) (number : ℕ) (s : Server) (here : server_at k.servers number ≡ Some s) where
  abbrev n : ℕ
  n = s.rest.number

  -- A CONTENT COMES BACK

  module _ (i : ℕ) (m : MutexNo) (v : Owned) (q : slice_get s.rest.inbox i ≡ Some (message.Unlock m v)) where
    abbrev came : List Thing
    came = message_things s.rest.number (message.Unlock m v)

    abbrev it : List Thing
    it = holds (as_content m) v ∷ []

    abbrev w0 : Work
    w0 = (received i s).work

    abbrev Then : Mutexes × Back → Type 0
    Then a = RestTakes k came w0.rest (answer_back m a.1 (with_mutexes a.0 w0)).rest

    -- what the mutex shows of its content
    inside : (x : Mutex) → mutex_in s.rest.mutexes.there m ≡ Some x → (c : Option Owned) → x.content ≡ c → (w : Sign → ℕ) → shown w (content_things x.number x.content) ≡ shown w (content_things m c)
    inside x e c h w = ap₂ (λ j d. shown w (content_things j d)) (found_number s.rest.mutexes.there m x e) h

    alone : (x : Mutex) → mutex_in s.rest.mutexes.there m ≡ Some x → x.content ≡ None → (b : Bool) → (x.shares == 0) ≡ b
        → Then (if b then (end_mutex s.rest.mutexes x.number, back.Ended v) else (put_mutex s.rest.mutexes (record x { content = Some v }), back.Kept))
    alone x e h true d = record {
      gone = came;
      hand = it;
      moves = gives_up came it w0.rest v (with_mutexes (end_mutex s.rest.mutexes x.number) w0) (mutex_ends came it w0.rest m x e (λ w z. omega (arith, z, inside x e None h w)));
      counts = λ w z c. (let none : w (a_value (as_content m) (plain_of v)) ≡ 0 = c.contents m (plain_of v) (shareless k sound number s here i m v x q e (eqb-true x.shares 0 d)) in omega (arith, none));
    }
    alone x e h false d =
        let filled : (w : Sign → ℕ) → shown w (content_things x.number (Some v)) ≡ shown w it = λ w. ap (λ j. shown w (content_things j (Some v))) (found_number s.rest.mutexes.there m x e) in
        takes_all k came w0.rest (record w0.rest { mutexes = put_mutex s.rest.mutexes (record x { content = Some v }) })
        (mutex_moves came [] w0.rest m x (record x { content = Some v }) e refl (λ w z. omega (arith, z, inside x e None h w, filled w)))

    queued : (x : Mutex) → mutex_in s.rest.mutexes.there m ≡ Some x → x.content ≡ None → (l : List (ℕ × ℕ)) → Then (back_to s.rest.mutexes v x l)
    queued x e h [] = alone x e h (x.shares == 0) refl
    queued x e h (first ∷ rest) =
        let w1 : Work = note (act.Grant m first.1 first.0) (with_mutexes (put_mutex s.rest.mutexes (record x { queue = rest })) w0) in
        takes_all k came w0.rest (send first.0 (message.Granted m v first.1) w1).rest
        (sends came it w0.rest w1 first.0 (message.Granted m v first.1) (mutex_moves came it w0.rest m x (record x { queue = rest }) e refl (λ w z. omega (arith, z))) (λ w z. omega (arith, z)))

    content : (x : Mutex) → mutex_in s.rest.mutexes.there m ≡ Some x → (c : Option Owned) → x.content ≡ c → Gives Then (back_out s.rest.mutexes v x c)
    content x e None h = queued x e h x.queue
    content x e (Some u) h = tt

    by_mutex : (o : Option Mutex) → mutex_in s.rest.mutexes.there m ≡ o → Gives Then (back_in s.rest.mutexes v o)
    by_mutex None e = tt
    by_mutex (Some x) e = content x e x.content refl

    pub contents_back : Gives (ServerStill k s) (does k.code k.options s (Deliver i))
    contents_back =
        deliveries_by k s i (message.Unlock m v) q
        (beside_takes k came (deliver_unlock m v) (received i s)
        (over_gives Then (λ (w : Work). RestTakes k came w0.rest w.rest) (give_back s.rest.mutexes m v) (λ a. answer_back m a.1 (with_mutexes a.0 w0)) (by_mutex (mutex_in s.rest.mutexes.there m) refl) (λ a t. t)))

  -- A SHARE IS DROPPED

  module _ (i : ℕ) (m : MutexNo) (q : slice_get s.rest.inbox i ≡ Some (message.Release (released.Mutex m))) where
    abbrev told : List Thing
    told = message_things s.rest.number (message.Release (released.Mutex m))

    abbrev w1 : Work
    w1 = (received i s).work

    abbrev Less : Mutexes × Option Owned → Type 0
    Less a = RestTakes k told w1.rest (give_up_left a.1 (with_mutexes a.0 w1)).rest

    fewer : (x : Mutex) (new : Mutex) → mutex_in s.rest.mutexes.there m ≡ Some x → new.number ≡ x.number → new.content ≡ x.content → Less (put_mutex s.rest.mutexes new, None)
    fewer x new e named same =
        takes_all k told w1.rest (record w1.rest { mutexes = put_mutex s.rest.mutexes new })
        (mutex_moves told [] w1.rest m x new e named (λ w z. let c : shown w (content_things new.number new.content) ≡ shown w (content_things x.number x.content) = ap₂ (λ j d. shown w (content_things j d)) named same in omega (arith, z, c)))

    last : (x : Mutex) → mutex_in s.rest.mutexes.there m ≡ Some x → x.shares ≡ 1 → (c : Option Owned) → x.content ≡ c → Less (last_less s.rest.mutexes x c)
    last x e once None h = fewer x (record x { shares = 0 }) e refl refl
    last x e once (Some v) h = record {
      gone = told;
      hand = holds (as_content m) v ∷ [];
      moves =
          gives_up told (holds (as_content m) v ∷ []) w1.rest v (with_mutexes (end_mutex s.rest.mutexes x.number) w1)
          (mutex_ends told (holds (as_content m) v ∷ []) w1.rest m x e (λ w z. let c : shown w (content_things x.number x.content) ≡ shown w (content_things m (Some v)) = ap₂ (λ j d. shown w (content_things j d)) (found_number s.rest.mutexes.there m x e) h in omega (arith, z, c)));
      counts = λ w z c. (let none : w (a_value (as_content m) (plain_of v)) ≡ 0 = c.contents m (plain_of v) (last_share k sound number s here i m x q e once) in omega (arith, none));
    }

    shares : (x : Mutex) → mutex_in s.rest.mutexes.there m ≡ Some x → (b : Bool) → (x.shares == 1) ≡ b → Less (if b then last_less s.rest.mutexes x x.content else (put_mutex s.rest.mutexes (record x { shares = x.shares - 1 }), None))
    shares x e true d = last x e (eqb-true x.shares 1 d) x.content refl
    shares x e false d = fewer x (record x { shares = x.shares - 1 }) e refl refl

    some_less : (o : Option Mutex) → mutex_in s.rest.mutexes.there m ≡ o → Gives Less (less_in s.rest.mutexes o)
    some_less None e = tt
    some_less (Some x) e = test_gives Less (nat_lt 0 x.shares) (Some (less_of s.rest.mutexes x)) (λ on. shares x e (x.shares == 1) refl)

    pub share_dropped : Gives (ServerStill k s) (does k.code k.options s (Deliver i))
    share_dropped =
        deliveries_by k s i (message.Release (released.Mutex m)) q
        (beside_takes k told (release (released.Mutex m)) (received i s)
        (over_gives Less (λ (w : Work). RestTakes k told w1.rest w.rest) (less s.rest.mutexes m) (λ a. give_up_left a.1 (with_mutexes a.0 w1)) (some_less (mutex_in s.rest.mutexes.there m) refl) (λ a t. t)))

  -- A TASK IS DROPPED

  module _ (i u : ℕ) (q : slice_get s.rest.inbox i ≡ Some (message.Release (released.Task u))) where
    abbrev heard : List Thing
    heard = message_things s.rest.number (message.Release (released.Task u))

    abbrev w2 : Work
    w2 = (received i s).work

    abbrev Left : List Task × Option Owned → Type 0
    Left a = RestTakes k heard w2.rest (give_up_left a.1 (with_tasks a.0 w2)).rest

    state : (y : Task) → task_in s.rest.tasks u ≡ Some y → (z : TaskState) → y.state ≡ z → Gives Left (let_go_from s.rest.tasks u (Some z))
    state y e going h =
        takes_all k heard w2.rest (record w2.rest { tasks = with_state s.rest.tasks u let_go })
        (task_moves heard [] w2.rest (with_state s.rest.tasks u let_go) (task_things n 0 y) (task_things n 0 (record { thread = u; state = let_go }))
        (record { rest = things_at (task_things n) 0 (without_task s.rest.tasks u); before = λ f. tot-gone f n s.rest.tasks u y e; after = λ f. tot-put f n s.rest.tasks u y let_go e })
        (λ w z. let shows : shown w (task_things n 0 y) ≡ shown w (task_things n 0 (record { thread = y.thread; state = going })) = ap (λ v. shown w (task_things n 0 (record { thread = y.thread; state = v }))) h in omega (arith, z, shows)))
    state y e (kept v) h = record {
      gone = heard;
      hand = holds (as_result u) v ∷ [];
      moves =
          gives_up heard (holds (as_result u) v ∷ []) w2.rest v (with_tasks (without_task s.rest.tasks u) w2)
          (task_moves heard (holds (as_result u) v ∷ []) w2.rest (without_task s.rest.tasks u) (task_things n 0 y) []
          (record { rest = things_at (task_things n) 0 (without_task s.rest.tasks u); before = λ f. tot-gone f n s.rest.tasks u y e; after = λ f. omega arith })
          (λ w z.
          let shows : shown w (task_things n 0 y) ≡ shown w (task_things n 0 (record { thread = u; state = kept v })) = ap₂ (λ j x. shown w (task_things n 0 (record { thread = j; state = x }))) (task_number s.rest.tasks u y e) h in
          omega (arith, z, shows)));
      counts = λ w z c. (let none : w (a_value (as_result u) (plain_of v)) ≡ 0 = c.results u (plain_of v) (task_dropped k sound number s here i u q) (kept_alone k sound number s here i u y v e h) in omega (arith, none));
    }
    state y e let_go h = tt
    state y e (asked r t) h = tt
    state y e (in_pair p o) h = tt

    by_task : (o : Option Task) → task_in s.rest.tasks u ≡ o → Gives Left (let_go_from s.rest.tasks u (state_in o))
    by_task None e = tt
    by_task (Some y) e = state y e y.state refl

    pub task_released : Gives (ServerStill k s) (does k.code k.options s (Deliver i))
    task_released =
        deliveries_by k s i (message.Release (released.Task u)) q
        (beside_takes k heard (release (released.Task u)) (received i s)
        (over_gives Left (λ (w : Work). RestTakes k heard w2.rest w.rest) (let_go_of s.rest.tasks u) (λ a. give_up_left a.1 (with_tasks a.0 w2)) (by_task (task_in s.rest.tasks u) refl) (λ a t. t)))
