-- Requests of a share, a content or a result: they are answered, or noted.
use Rattle.std.proofs.Common.{◌≡◌, ℕ, zero, suc, ◌+◌, ◌-◌, ◌≤◌, ◌^◌, ◌==◌, ◌&&◌, not, nat_lt, Bool, true, false, if◌then◌else◌, List, [], ◌∷◌, ◌++◌, Option, Some, None, is_none, option_map, refl, sym, ap, ap₂, ◌∙◌, arith}
use Rattle.law_words_ends.specs.Below.fr_base.declared.name.MutexNo.{MutexNo}
use Rattle.law_words_ends.specs.Below.heap_partition.declared.value.Owned.{Owned}
use Rattle.law_words_ends.specs.Below.thread_state.View.{is_over}
use Rattle.law_words_ends.specs.Below.mutex_home.Mutexes.{Mutex, mutex_in, put_mutex, asked_of, asked_in, more_in}
use Rattle.law_words_ends.specs.Below.join_home.Tasks.{Task, TaskState, going, let_go, kept, asked, in_pair, task_in, state_in, with_state, without_task, asked_from}
use Rattle.law_words_ends.specs.Below.server_msgs.declared.message.Message.TheVariants as message
use Rattle.law_words_ends.specs.Below.journal.declared.act.Act.TheVariants as act
use Rattle.law_words_ends.specs.Below.server_model.Servers.{Server, Cluster, server_at}
use Rattle.law_words_ends.specs.Below.server_model.Work.{Work, Site, note, send, with_mutexes, with_tasks, beside_threads}
use Rattle.law_words_ends.specs.Below.server_model.Events.{received, deliver_message}
use Rattle.law_words_ends.specs.Below.server_model.Sharing.{answer_lock, deliver_lock, deliver_dup}
use Rattle.law_words_ends.specs.Below.server_model.Joining.{answer_join, deliver_join}
use Rattle.law_words_ends.specs.Below.server_model.Clusters.{with_server}
use Rattle.law_words_ends.specs.Below.law_words_kept.Below.coloured_heap.Heap.{Wish, Coloured, Running, ForContent, ForShare, ForResult, same_wish}
use Rattle.law_words_ends.proofs.Below.law_words_kept.Below.coloured_heap.ShownNames.{mutex_flip}
use Rattle.law_words_ends.specs.Below.coherent_memory.Names.{tot, one, some, if_so, same_mutex}
use Rattle.law_words_ends.specs.Below.coherent_memory.Things.{Thing, as_content, as_result, holds, sent, stands, at_home, queued, noted, things_at, queue_things, content_things, message_things, server_things, servers_things, things_of}
use Rattle.law_words_ends.specs.Below.coherent_memory.Sight.{sight}
use Rattle.law_words_ends.specs.Below.coherent_memory.Requests.{home_of}
use Rattle.law_words_ends.specs.Below.coherent_memory.Weights.{is_thread, is_home_of}
use Rattle.law_words_ends.specs.Below.coherent_memory.Sharing.{contents, results, has_ended, kept_note}
use Rattle.law_words_ends.specs.Below.coherent_memory.OneHeap.{or_else, is_given_thread}
use Rattle.law_words_ends.specs.Below.coherent_memory.Colours.{StandsColoured, holder_of, running_of, has_finished, is_mutex_there}
use Rattle.law_words_ends.specs.Below.coherent_memory.Coherent.{IsSound}
use Rattle.law_words_ends.proofs.Below.coherent_memory.Names.{same_mutexes}
use Rattle.law_words_ends.proofs.Below.coherent_memory.Sums.{tot-append, server_parts}
use Rattle.law_words_ends.specs.Below.law_counts_sums.Laws.{Gives}
use Rattle.law_words_ends.proofs.Below.law_counts_sums.Trades.{tot-push}
use Rattle.law_words_ends.proofs.Below.law_counts_sums.Results.{over_gives}
use Rattle.law_words_ends.proofs.Below.law_counts_sums.Events.{others_of, tot-server}
use Rattle.law_words_ends.proofs.Below.law_counts_sums.MutexLists.{found_number, mutex_changes}
use Rattle.law_words_ends.proofs.Below.law_counts_sums.FinishSteps.{task_number}
use Rattle.law_words_ends.proofs.Below.law_heap_still.events.Once.{few_homes}
use Rattle.law_words_ends.proofs.Below.law_heap_still.events.Told.{told, ones}
use Rattle.law_words_ends.proofs.Below.law_heap_still.events.Tests.{numbers, mutexes}
use Rattle.law_entries_variables.proofs.deliveries.Answers.{answers_of, fits, answering, granting, dup_allowed, grant_allowed, answer_allowed}
use Rattle.law_entries_variables.proofs.deliveries.Weighed.{beside, sends}
use Rattle.law_entries_variables.proofs.deliveries.Shown.{if_some, wished_in, noted_wish, same_as, runs, found_told, holder_by, holder_is, there_in, none_first}
use Rattle.law_entries_variables.proofs.deliveries.HeldOnce.{holders_less}
use Rattle.law_entries_variables.proofs.deliveries.After.{holder_still, holder_after}
use Rattle.law_entries_variables.proofs.deliveries.Runs.{silent, runs_one, leads_on}
use Rattle.law_entries_variables.proofs.deliveries.Applied.{Legal, server_there}
use Rattle.law_entries_variables.proofs.deliveries.Quiet.{Quietly, quiet_leads}
use Rattle.law_entries_variables.proofs.deliveries.Partly.{Partly, part_agrees, wish_answered, wished_once}
use Rattle.law_entries_variables.proofs.deliveries.Changed.{mutex_there, task_there, mutex_home, task_home, task_given, notes, mutex_turns, note_turns, note_goes}

some_true : (n : ℕ) → 1 ≤ n → some n ≡ true
some_true zero l = absurd (omega (arith, l))
some_true (suc n) l = refl

or_none : {A : Type 0} (o : Option A) → or_else o None ≡ o
or_none None = refl
or_none (Some x) = refl

module _ (k : Cluster) (sound : IsSound k) (number : ℕ) (s : Server) (here : server_at k.servers number ≡ Some s) (c0 : Coloured) (is_coloured : StandsColoured k c0) where
  abbrev n : ℕ
  n = s.rest.number

  abbrev Ok : List Thing → Site → Site → Type 0
  Ok has start x = Legal k s None has start c0 x

  -- WHO HAS A CONTENT THAT IS HERE

  -- nobody, where it is at its home
  module _ (m : MutexNo) (y : Mutex) (q : mutex_in s.rest.mutexes.there m ≡ Some y) (v : Owned) (inside : y.content ≡ Some v) where
    abbrev bare : Mutex
    bare = record y { content = None }

    abbrev without : Server
    without = record s { rest = record s.rest { mutexes = put_mutex s.rest.mutexes bare } }

    named : y.number ≡ m
    named = found_number s.rest.mutexes.there m y q

    content_is : (f : Thing → ℕ) → tot f (content_things y.number y.content) ≡ f (holds (as_content y.number) v)
    content_is f = let e : tot f (content_things y.number y.content) ≡ tot f (content_things y.number (Some v)) = ap (λ o. tot f (content_things y.number o)) inside in omega (arith, e)

    server_without : (f : Thing → ℕ) → f (at_home n y) ≡ f (at_home n bare) → tot f (server_things s) ≡ tot f (server_things without) + f (holds (as_content y.number) v)
    server_without f e =
        let t = mutex_changes n s.rest.mutexes.there m y bare q refl in
        omega (arith, server_parts f s, server_parts f without, t.before f, t.after f, e, content_is f, tot-append f (content_things y.number y.content) (things_at (queue_things y.number) 0 y.queue))

    abbrev cluster_without : Cluster
    cluster_without = record k { servers = with_server k.servers number without }

    abbrev held : Thing → ℕ
    held x = told ones (holder_by (sight k) m x)

    abbrev places : Thing → ℕ
    places x = contents (sight k) m x

    places_few : tot places (things_of k) ≤ 1
    places_few = let one_place : tot places (things_of k) ≡ tot (is_home_of m) (things_of k) = sound.mutexes_and_tasks.one_content m in omega (arith, one_place, few_homes k sound m)

    places_without : tot places (things_of cluster_without) ≡ 0
    places_without =
        let all : tot places (things_of k) ≡ tot places (server_things s) + tot places (servers_things (others_of k.servers number)) = (tot-server places k.servers number s without here).0 in
        let new : tot places (things_of cluster_without) ≡ tot places (server_things without) + tot places (servers_things (others_of k.servers number)) = (tot-server places k.servers number s without here).1 in
        let mine : places (holds (as_content y.number) v) ≡ 1 = ap one (ap (λ j. same_mutex j m) named ∙ mutexes.itself m) in
        let less : tot places (server_things s) ≡ tot places (server_things without) + 1 = server_without places refl ∙ ap (λ i. tot places (server_things without) + i) mine in
        omega (arith, all, new, less, places_few)

    held_none : tot held (things_of k) ≡ 0
    held_none =
        let all : tot held (things_of k) ≡ tot held (server_things s) + tot held (servers_things (others_of k.servers number)) = (tot-server held k.servers number s without here).0 in
        let new : tot held (things_of cluster_without) ≡ tot held (server_things without) + tot held (servers_things (others_of k.servers number)) = (tot-server held k.servers number s without here).1 in
        let same : tot held (server_things s) ≡ tot held (server_things without) + 0 = server_without held refl in
        let less : tot held (things_of cluster_without) ≤ tot places (things_of cluster_without) = holders_less k m cluster_without in
        omega (arith, all, new, same, less, places_without)

    pub none_holds : holder_of (sight k) m ≡ None
    none_holds = holder_is k m (let z = held_none in omega (arith, z)) ∙ none_first (holder_by (sight k) m) (things_of k) held_none

  -- a mutex that is here is there
  pub mutex_stands : (m : MutexNo) (y : Mutex) → mutex_in s.rest.mutexes.there m ≡ Some y → is_mutex_there (sight k) m ≡ true
  mutex_stands m y q =
      let mine : there_in m (at_home n y) ≡ 1 = ap one (ap (λ j. same_mutex j m) (found_number s.rest.mutexes.there m y q) ∙ mutexes.itself m) in
      some_true (tot (there_in m) (things_of k)) (omega (arith, mine, mutex_there k number s here m y q (there_in m)))

  pub home_here : (m : MutexNo) (y : Mutex) → mutex_in s.rest.mutexes.there m ≡ Some y → (m.home == n) ≡ true
  home_here m y q = ap (λ (j : MutexNo). j.home == n) (sym (found_number s.rest.mutexes.there m y q)) ∙ mutex_home k sound n y _ (mutex_there k number s here m y q)

  -- BESIDE THE THREADS

  pub work_legal : (has : List Thing) (x : Site) (f : Work → Option Work) → Gives (λ w. Ok has x (record x { work = w })) (f x.work) → Gives (Ok has x) (beside_threads f x)
  work_legal has x f g = over_gives (λ w. Ok has x (record x { work = w })) (Ok has x) (f x.work) (λ w. record x { work = w }) g (λ w l. l)

  -- A SHARE

  module _ (i : ℕ) (m : MutexNo) (a t : ℕ) where
    abbrev x : Site
    x = received i s

    pub share_asked : Gives (Ok (message_things n (message.Dup m a t)) x) (deliver_message k.code (message.Dup m a t) x)
    share_asked = work_legal (message_things n (message.Dup m a t)) x (deliver_dup m a t) (by (mutex_in s.rest.mutexes.there m) refl)
      where
        P : Work → Type 0
        P w = Ok (message_things n (message.Dup m a t)) x (record x { work = w })

        wish : Wish
        wish = ForShare m t a

        more_shares : (y : Mutex) → mutex_in s.rest.mutexes.there m ≡ Some y → (b : Bool)
            → Gives P (option_map (λ ms. send a (message.Dupped m t) (note (act.Dupped m t a) (with_mutexes ms x.work))) (if b then Some (put_mutex s.rest.mutexes (record y { shares = y.shares + 1 })) else None))
        more_shares y q false = tt
        more_shares y q true =
            let new : Mutex = record y { shares = y.shares + 1 } in
            let w1 = with_mutexes (put_mutex s.rest.mutexes new) x.work in
            let w2 = note (act.Dupped m t a) w1 in
            let news : List Thing = at_home n new ∷ sent a (message.Dupped m t) ∷ [] in
            let olds : List Thing = sent n (message.Dup m a t) ∷ at_home n y ∷ [] in
            let part : Partly k olds news = record {
              objects = λ o g. refl;
              drops = λ o. refl;
              copies = λ r w g. refl;
              served = λ j. refl;
              issued = λ h r w. refl;
              started = λ r w. refl;
              made = λ r w. refl;
              threads = λ u. refl;
              running = λ u g. refl;
              there = λ o. omega arith;
            } in record {
              olds = at_home n y ∷ [];
              news = news;
              acts = act.Dupped m t a ∷ [];
              turns = beside x (at_home n y ∷ []) news (act.Dupped m t a ∷ []) (send a (message.Dupped m t) w2)
                  (sends x.work (at_home n y ∷ []) (at_home n new ∷ []) (act.Dupped m t a ∷ []) w2 a (message.Dupped m t) (notes x.work (at_home n y ∷ []) (at_home n new ∷ []) [] w1 (act.Dupped m t a) (mutex_turns x.work m y new [] [] q refl (λ f h. refl))));
              leads = λ c f keeps.
                  let q0 = answers_of (sight k) in
                  let h = fits (sight k) c0 is_coloured in
                  let less : (b : Wish) → tot (wished_in b) olds ≡ tot (wished_in b) news + one (same_wish b wish) = (λ b. omega arith) in
                  leads_on k.options n None (act.Dupped m t a ∷ []) c0 q0 (answering wish q0) c h (server_there k sound number s here).0 tt
                  (runs_one k.options (silent n None (act.Dupped m t a ∷ [])) (act.Dupped m t a) c0 (answering wish q0)
                  (dup_allowed k.options (silent n None (act.Dupped m t a ∷ [])) c0 q0 m t a h (home_here m y q) (wished_once k c olds news sound f wish less)))
                  (part_agrees k c olds news sound f keeps part _ _ (wish_answered k c olds news sound f wish less) (λ o. holder_still k c olds news sound f keeps o (λ g. refl)));
            }

        by : (o : Option Mutex) → mutex_in s.rest.mutexes.there m ≡ o → Gives P (option_map (λ ms. send a (message.Dupped m t) (note (act.Dupped m t a) (with_mutexes ms x.work))) (more_in s.rest.mutexes o))
        by None q = tt
        by (Some y) q = more_shares y q (nat_lt 0 y.shares && nat_lt y.shares (2 ^ 64 - 1))

    -- A CONTENT

    pub content_asked : Gives (Ok (message_things n (message.Lock m a t)) x) (deliver_message k.code (message.Lock m a t) x)
    content_asked = work_legal (message_things n (message.Lock m a t)) x (deliver_lock m a t) (by (mutex_in s.rest.mutexes.there m) refl)
      where
        P : Work → Type 0
        P w = Ok (message_things n (message.Lock m a t)) x (record x { work = w })

        wish : Wish
        wish = ForContent m t a

        content : (y : Mutex) → mutex_in s.rest.mutexes.there m ≡ Some y → (o : Option Owned) → y.content ≡ o → P (answer_lock m a t (asked_of s.rest.mutexes a t o y).1 (with_mutexes (asked_of s.rest.mutexes a t o y).0 x.work))
        content y q None e =
            let new : Mutex = record y { queue = y.queue ++ (a, t) ∷ [] } in
            let olds : List Thing = sent n (message.Lock m a t) ∷ at_home n y ∷ [] in
            let news : List Thing = at_home n new ∷ queued y.number a t ∷ [] in
            let quietly : Quietly k olds news = record {
              objects = λ o g. refl;
              drops = λ o. refl;
              copies = λ r w g. refl;
              served = λ j. refl;
              issued = λ h r w. refl;
              started = λ r w. refl;
              made = λ r w. refl;
              threads = λ u. refl;
              running = λ u g. refl;
              wishes = λ b. let w : one (same_wish b (ForContent y.number t a)) ≡ one (same_wish b wish) = ap (λ j. one (same_wish b (ForContent j t a))) (found_number s.rest.mutexes.there m y q) in omega (arith, w);
              there = λ o. omega arith;
              holders = λ o g. refl;
            } in record {
              olds = at_home n y ∷ [];
              news = news;
              acts = [];
              turns = beside x (at_home n y ∷ []) news [] (with_mutexes (put_mutex s.rest.mutexes new) x.work) (mutex_turns x.work m y new [] (queued y.number a t ∷ []) q refl (λ f h. omega (arith, tot-push (queue_things y.number) f y.queue 0 (a, t))));
              leads = λ c f keeps. quiet_leads k c number s olds news c0 sound here is_coloured f keeps quietly;
            }
        content y q (Some v) e =
            let new : Mutex = record y { content = None } in
            let w1 = with_mutexes (put_mutex s.rest.mutexes new) x.work in
            let w2 = note (act.Grant m t a) w1 in
            let olds : List Thing = sent n (message.Lock m a t) ∷ at_home n y ∷ [] in
            let news : List Thing = at_home n new ∷ sent a (message.Granted m v t) ∷ holds (as_content m) v ∷ [] in
            let part : Partly k olds news = record {
              objects = λ o g. refl;
              drops = λ o. refl;
              copies = λ r w g. refl;
              served = λ j. refl;
              issued = λ h r w. refl;
              started = λ r w. refl;
              made = λ r w. refl;
              threads = λ u. refl;
              running = λ u g. refl;
              there = λ o. omega arith;
            } in record {
              olds = at_home n y ∷ [];
              news = news;
              acts = act.Grant m t a ∷ [];
              turns = beside x (at_home n y ∷ []) news (act.Grant m t a ∷ []) (send a (message.Granted m v t) w2)
                  (sends x.work (at_home n y ∷ []) (at_home n new ∷ []) (act.Grant m t a ∷ []) w2 a (message.Granted m v t) (notes x.work (at_home n y ∷ []) (at_home n new ∷ []) [] w1 (act.Grant m t a) (mutex_turns x.work m y new [] [] q refl (λ f h. refl))));
              leads = λ c f keeps.
                  let q0 = answers_of (sight k) in
                  let h = fits (sight k) c0 is_coloured in
                  let less : (b : Wish) → tot (wished_in b) olds ≡ tot (wished_in b) news + one (same_wish b wish) = (λ b. omega arith) in
                  leads_on k.options n None (act.Grant m t a ∷ []) c0 q0 (granting m t a q0) c h (server_there k sound number s here).0 tt
                  (runs_one k.options (silent n None (act.Grant m t a ∷ [])) (act.Grant m t a) c0 (granting m t a q0)
                  (grant_allowed k.options (silent n None (act.Grant m t a ∷ [])) c0 q0 m t a h (home_here m y q) (mutex_stands m y q) (none_holds m y q v e) (wished_once k c olds news sound f wish less)))
                  (part_agrees k c olds news sound f keeps part _ _ (wish_answered k c olds news sound f wish less) (λ o. holder_after k c olds news sound f keeps o (if same_mutex o m then Some t else holder_of (sight k) o) (λ g. omega (arith, held y q v e o (same_mutex m o) refl g))));
            }
          where
            held : (y : Mutex) → mutex_in s.rest.mutexes.there m ≡ Some y → (v : Owned) → y.content ≡ Some v → (o : MutexNo) (d : Bool) → same_mutex m o ≡ d → (g : ℕ → ℕ)
                → told g (if same_mutex o m then Some t else holder_of (sight k) o) + 0 ≡ told g (holder_of (sight k) o) + (told g (or_else (if_some (same_mutex m o) t) None) + 0)
            held y q v e o true d g =
                let same : m ≡ o = same_mutexes m o d in
                let free : holder_of (sight k) o ≡ None = ap (holder_of (sight k)) (sym same) ∙ none_holds m y q v e in
                let left : told g (if same_mutex o m then Some t else holder_of (sight k) o) ≡ g t = ap (λ b. told g (if b then Some t else holder_of (sight k) o)) (mutex_flip o m ∙ d) in
                let right : told g (or_else (if_some (same_mutex m o) t) None) ≡ g t = ap (λ b. told g (or_else (if_some b t) None)) d in
                let none : told g (holder_of (sight k) o) ≡ 0 = ap (told g) free in
                omega (arith, left, right, none)
            held y q v e o false d g =
                let left : told g (if same_mutex o m then Some t else holder_of (sight k) o) ≡ told g (holder_of (sight k) o) = ap (λ b. told g (if b then Some t else holder_of (sight k) o)) (mutex_flip o m ∙ d) in
                let right : told g (or_else (if_some (same_mutex m o) t) None) ≡ 0 = ap (λ b. told g (or_else (if_some b t) None)) d in
                omega (arith, left, right)

        by : (o : Option Mutex) → mutex_in s.rest.mutexes.there m ≡ o → Gives P (option_map (λ r. answer_lock m a t r.1 (with_mutexes r.0 x.work)) (asked_in s.rest.mutexes a t o))
        by None q = tt
        by (Some y) q = content y q y.content refl

  -- A RESULT

  -- a thread whose result is kept has ended
  module _ (u : ℕ) (y : Task) (q : task_in s.rest.tasks u ≡ Some y) where
    its : y.thread ≡ u
    its = task_number s.rest.tasks u y q

    kept_ends : (v : Owned) → y.state ≡ kept v → 1 ≤ tot (has_ended u) (things_of k)
    kept_ends v is_kept =
        let mine : if_so (y.thread == u) (kept_note y.state) ≡ 1 = ap₂ (λ i j. if_so (i == u) (kept_note j)) its is_kept ∙ ap (λ b. if_so b 1) (numbers.itself u) in
        let most : tot (results (sight k) u) (things_of k) ≤ tot (has_ended u) (things_of k) = sound.mutexes_and_tasks.one_result u in
        let stands_there = task_there k number s here u y q (results (sight k) u) in
        omega (arith, mine, most, stands_there)

    pub started_it : is_given_thread (sight k) u ≡ true
    started_it = ap (is_given_thread (sight k)) (sym its) ∙ task_given k sound n y _ (task_there k number s here u y q)

    pub task_here : (home_of u == n) ≡ true
    task_here = ap (λ j. home_of j == n) (sym its) ∙ task_home k sound n y _ (task_there k number s here u y q)

  -- a thread that was started and has ended has finished
  module _ (u : ℕ) (ends : 1 ≤ tot (has_ended u) (things_of k)) (given : is_given_thread (sight k) u ≡ true) where
    -- it is over, so it doesn't run
    runs_or_ended : (x : Thing) → runs ones u x + has_ended u x ≤ is_thread u x
    runs_or_ended (stands r p x) = by (x.number == u) (x.number == 0) (is_over x.phase)
      where
        by : (a b d : Bool) → if_so a (told {A = Running} ones (if_some (not d) (record { thread = u; server = r; has_ended = false }))) + one (a && (not b && d)) ≤ one a
        by true true true = omega arith
        by true true false = omega arith
        by true false true = omega arith
        by true false false = omega arith
        by false b d = omega arith
    runs_or_ended _ = omega arith

    both_most : (b : List Thing) → tot (runs ones u) b + tot (has_ended u) b ≤ tot (is_thread u) b
    both_most [] = omega arith
    both_most (x ∷ b) = omega (arith, runs_or_ended x, both_most b)

    none_told : (o : Option Running) → told ones o ≡ 0 → o ≡ None
    none_told None e = refl
    none_told (Some r) e = absurd (cc e)

    not_running : running_of (sight k) u ≡ None
    not_running =
        let few = sound.names.numbers_differ u in
        let counted : tot (runs ones u) (things_of k) ≡ told ones (running_of (sight k) u) = found_told u (things_of k) [] [] (things_of k) ones (things_of k) few in
        let e = ends in
        none_told (running_of (sight k) u) (omega (arith, counted, both_most (things_of k), e, few))

    none_main : (b : List Thing) → tot (has_ended 0) b ≡ 0
    none_main [] = refl
    none_main (stands r p x ∷ b) = omega (arith, by (x.number == 0) (is_over x.phase), none_main b)
      where
        by : (a d : Bool) → one (a && (not a && d)) ≡ 0
        by true d = refl
        by false d = refl
    none_main (_ ∷ b) = omega (arith, none_main b)

    not_main : (u == 0) ≡ false
    not_main = by (u == 0) refl
      where
        by : (b : Bool) → (u == 0) ≡ b → b ≡ false
        by false e = refl
        by true e = let same : u ≡ 0 = numbers.tells u 0 e in let l = ends in let z : tot (has_ended u) (things_of k) ≡ 0 = ap (λ j. tot (has_ended j) (things_of k)) same ∙ none_main (things_of k) in absurd (omega (arith, l, z))

    pub finished : has_finished (sight k) u ≡ true
    finished = ap₂ (λ a b. (a && b) && not (u == 0)) given (ap is_none not_running) ∙ ap not not_main

  module _ (i u a t : ℕ) where
    abbrev z : Site
    z = received i s

    pub result_asked : Gives (Ok (message_things n (message.Join u a t)) z) (deliver_message k.code (message.Join u a t) z)
    result_asked = work_legal (message_things n (message.Join u a t)) z (deliver_join u a t) (by (task_in s.rest.tasks u) refl)
      where
        P : Work → Type 0
        P w = Ok (message_things n (message.Join u a t)) z (record z { work = w })

        wish : Wish
        wish = ForResult u t a

        state : (y : Task) → task_in s.rest.tasks u ≡ Some y → (o : TaskState) → y.state ≡ o → Gives P (option_map (λ r. answer_join u a t r.1 (with_tasks r.0 z.work)) (asked_from s.rest.tasks u a t (Some o)))
        state y q going e =
            let new : Task = record { thread = u; state = asked a t } in
            let olds : List Thing = sent n (message.Join u a t) ∷ noted n y ∷ [] in
            let news : List Thing = noted n new ∷ [] in
            let quietly : Quietly k olds news = record {
              objects = λ o g. refl;
              drops = λ o. refl;
              copies = λ r w g. refl;
              served = λ j. refl;
              issued = λ h r w. refl;
              started = λ r w. refl;
              made = λ r w. refl;
              threads = λ j. refl;
              running = λ j g. refl;
              wishes = λ b. let w : wished_in b (noted n y) ≡ 0 = ap (λ j. same_as b (noted_wish y.thread j)) e in omega (arith, w);
              there = λ o. omega arith;
              holders = λ o g. refl;
            } in record {
              olds = noted n y ∷ [];
              news = news;
              acts = [];
              turns = beside z (noted n y ∷ []) news [] (with_tasks (with_state s.rest.tasks u (asked a t)) z.work) (note_turns z.work u y (asked a t) q);
              leads = λ c f keeps. quiet_leads k c number s olds news c0 sound here is_coloured f keeps quietly;
            }
        state y q (kept v) e =
            let w1 = with_tasks (without_task s.rest.tasks u) z.work in
            let w2 = note (act.Answer u t a) w1 in
            let olds : List Thing = sent n (message.Join u a t) ∷ noted n y ∷ [] in
            let news : List Thing = sent a (message.Joined u v t) ∷ holds (as_result u) v ∷ [] in
            let part : Partly k olds news = record {
              objects = λ o g. refl;
              drops = λ o. refl;
              copies = λ r w g. refl;
              served = λ j. refl;
              issued = λ h r w. refl;
              started = λ r w. refl;
              made = λ r w. refl;
              threads = λ j. refl;
              running = λ j g. refl;
              there = λ o. refl;
            } in record {
              olds = noted n y ∷ [];
              news = news;
              acts = act.Answer u t a ∷ [];
              turns = beside z (noted n y ∷ []) news (act.Answer u t a ∷ []) (send a (message.Joined u v t) w2)
                  (sends z.work (noted n y ∷ []) [] (act.Answer u t a ∷ []) w2 a (message.Joined u v t) (notes z.work (noted n y ∷ []) [] [] w1 (act.Answer u t a) (note_goes z.work u y q)));
              leads = λ c f keeps.
                  let q0 = answers_of (sight k) in
                  let h = fits (sight k) c0 is_coloured in
                  let less : (b : Wish) → tot (wished_in b) olds ≡ tot (wished_in b) news + one (same_wish b wish) = (λ b. let w : wished_in b (noted n y) ≡ 0 = ap (λ j. same_as b (noted_wish y.thread j)) e in omega (arith, w)) in
                  leads_on k.options n None (act.Answer u t a ∷ []) c0 q0 (answering wish q0) c h (server_there k sound number s here).0 tt
                  (runs_one k.options (silent n None (act.Answer u t a ∷ [])) (act.Answer u t a) c0 (answering wish q0)
                  (answer_allowed k.options (silent n None (act.Answer u t a ∷ [])) c0 q0 u t a h (task_here u y q) (finished u (kept_ends u y q v e) (started_it u y q)) (wished_once k c olds news sound f wish less)))
                  (part_agrees k c olds news sound f keeps part _ _ (wish_answered k c olds news sound f wish less) (λ o. holder_still k c olds news sound f keeps o (λ g. refl)));
            }
        state y q let_go e = tt
        state y q (asked r b) e = tt
        state y q (in_pair p d) e = tt

        by : (o : Option Task) → task_in s.rest.tasks u ≡ o → Gives P (option_map (λ r. answer_join u a t r.1 (with_tasks r.0 z.work)) (asked_from s.rest.tasks u a t (state_in o)))
        by None q = tt
        by (Some y) q = state y q y.state refl
