-- A content that comes back, shares and tasks that are let go, and threads that end.
use Rattle.std.proofs.Common.{◌≡◌, ℕ, ◌+◌, ◌-◌, ◌≤◌, ◌==◌, nat_lt, Bool, true, false, if◌then◌else◌, List, [], ◌∷◌, ◌++◌, length, Option, Some, None, is_some, option_map, refl, sym, ap, ap₂, ◌∙◌, arith, append-nil}
use Rattle.std.specs.Prelude.{slice_get}
use Rattle.law_words_ends.specs.Below.fr_base.declared.name.MutexNo.{MutexNo}
use Rattle.law_words_ends.specs.Below.fr_base.declared.release.Released.TheVariants as released
use Rattle.law_words_ends.specs.Below.heap_partition.declared.value.Owned.{Owned}
use Rattle.law_words_ends.specs.Below.mutex_home.Mutexes.{Mutex, Mutexes, mutex_in, put_mutex, end_mutex, back_to, back_out, back_in, last_less, less_of, less_in}
use Rattle.law_words_ends.specs.Below.mutex_home.declared.answers.Back.{Back}
use Rattle.law_words_ends.specs.Below.mutex_home.declared.answers.Back.TheVariants.{Ended, Kept}
use Rattle.law_words_ends.specs.Below.join_home.Tasks.{Task, TaskState, going, let_go, kept, asked, in_pair, task_in, state_in, with_state, without_task, let_go_from}
use Rattle.law_words_ends.specs.Below.server_msgs.declared.message.Message.{Message}
use Rattle.law_words_ends.specs.Below.server_msgs.declared.message.Message.TheVariants as message
use Rattle.law_words_ends.specs.Below.journal.declared.act.Act.TheVariants as act
use Rattle.law_words_ends.specs.Below.server_model.Servers.{Server, Cluster, server_at}
use Rattle.law_words_ends.specs.Below.server_model.Work.{Work, Site, note, send, receive, with_mutexes, with_tasks}
use Rattle.law_words_ends.specs.Below.server_model.Drop.{give_up}
use Rattle.law_words_ends.specs.Below.server_model.Events.{received, deliver_message}
use Rattle.law_words_ends.specs.Below.server_model.Sharing.{answer_back, deliver_unlock, give_up_left, release_mutex}
use Rattle.law_words_ends.specs.Below.server_model.Joining.{release_task}
use Rattle.law_words_ends.specs.Below.server_model.Clusters.{with_server}
use Rattle.law_words_ends.specs.Below.law_words_kept.Below.coloured_heap.Heap.{Wish, Coloured, ForContent, same_wish}
use Rattle.law_words_ends.proofs.Below.law_words_kept.Below.coloured_heap.ShownNames.{mutex_flip}
use Rattle.law_words_ends.specs.Below.coherent_memory.Names.{tot, one, if_so, same_mutex}
use Rattle.law_words_ends.specs.Below.coherent_memory.Things.{Thing, as_content, as_result, holds, sent, at_home, queued, noted, things_at, queue_things, content_things, result_things, message_things, server_things, servers_things, things_of}
use Rattle.law_words_ends.specs.Below.coherent_memory.Sight.{sight}
use Rattle.law_words_ends.specs.Below.coherent_memory.Weights.{is_home_of}
use Rattle.law_words_ends.specs.Below.coherent_memory.Sharing.{contents}
use Rattle.law_words_ends.specs.Below.coherent_memory.OneHeap.{or_else}
use Rattle.law_words_ends.specs.Below.coherent_memory.Colours.{StandsColoured, holder_of}
use Rattle.law_words_ends.specs.Below.coherent_memory.Coherent.{IsSound}
use Rattle.law_words_ends.proofs.Below.coherent_memory.Names.{same_mutexes}
use Rattle.law_words_ends.proofs.Below.coherent_memory.Sums.{tot-append, server_parts}
use Rattle.law_words_ends.specs.Below.law_counts_sums.Laws.{Gives}
use Rattle.law_words_ends.proofs.Below.law_counts_sums.Trades.{tot-remove, tot-front}
use Rattle.law_words_ends.proofs.Below.law_counts_sums.Bags.{of_mutexes}
use Rattle.law_words_ends.proofs.Below.law_counts_sums.Events.{others_of, tot-server}
use Rattle.law_words_ends.proofs.Below.law_counts_sums.MutexLists.{found_number, mutex_goes}
use Rattle.law_words_ends.proofs.Below.law_heap_still.events.Once.{few_homes}
use Rattle.law_words_ends.proofs.Below.law_heap_still.events.Told.{told, ones}
use Rattle.law_words_ends.proofs.Below.law_heap_still.events.Tests.{mutexes}
use Rattle.law_entries_variables.proofs.deliveries.Answers.{answers_of, fits, granting, grant_allowed}
use Rattle.law_entries_variables.proofs.deliveries.Weighed.{WorkTurns, beside, sends}
use Rattle.law_entries_variables.proofs.deliveries.Shown.{if_some, wished_in, noted_wish, same_as, holder_by, holder_is, none_first}
use Rattle.law_entries_variables.proofs.deliveries.HeldOnce.{holders_less}
use Rattle.law_entries_variables.proofs.deliveries.After.{holder_after}
use Rattle.law_entries_variables.proofs.deliveries.Runs.{silent, runs_one, leads_on}
use Rattle.law_entries_variables.proofs.deliveries.Applied.{Legal, server_there}
use Rattle.law_entries_variables.proofs.deliveries.Quiet.{Quietly, quiet_leads}
use Rattle.law_entries_variables.proofs.deliveries.Partly.{Partly, part_agrees, wish_answered, wished_once}
use Rattle.law_entries_variables.proofs.deliveries.Changed.{AreThere, message_there, mutex_there, task_there, notes, mutex_seen, mutex_turns, note_turns, note_goes}
use Rattle.law_entries_variables.proofs.deliveries.Asked.{mutex_stands, home_here, work_legal}
use Rattle.law_entries_variables.proofs.deliveries.GiveUp.{give_news, give_acts, gives_turns, gives_lead}

-- a mutex for which nobody waits goes
end_turns : (x : Work) (m : MutexNo) (y : Mutex) → mutex_in x.rest.mutexes.there m ≡ Some y → y.queue ≡ [] → WorkTurns x (at_home x.rest.number y ∷ []) [] [] (with_mutexes (end_mutex x.rest.mutexes y.number) x)
end_turns x m y q empty = record {
  number = refl;
  noted = sym (append-nil x.acts);
  labels = refl;
  things = λ f h.
      let n = x.rest.number in
      let t = of_mutexes n 0 x.rest (end_mutex x.rest.mutexes y.number) (mutex_goes n x.rest.mutexes.there m y q) in
      let none : tot f (things_at (queue_things y.number) 0 y.queue) ≡ 0 = ap (λ l. tot f (things_at (queue_things y.number) 0 l)) empty in
      omega (arith, t.before f, t.after f, mutex_seen f h n y, none);
}

abbrev queued_inside : Thing → ℕ
queued_inside (at_home r m) = if_so (is_some m.content) (length m.queue)
queued_inside x = 0

none_listed : {A : Type 0} (xs : List A) → length xs ≡ 0 → xs ≡ []
none_listed [] e = refl
none_listed (x ∷ xs) e = absurd (omega (arith, e))

module _ (k : Cluster) (sound : IsSound k) (number : ℕ) (s : Server) (here : server_at k.servers number ≡ Some s) (c0 : Coloured) (is_coloured : StandsColoured k c0) where
  abbrev n : ℕ
  n = s.rest.number

  abbrev Ok : List Thing → Site → Site → Type 0
  Ok has start x = Legal k s None has start c0 x

  -- a change beside the threads that no answer sees
  pub quiet_legal : (has olds news : List Thing) (x : Site) (w : Work) → WorkTurns x.work olds news [] w → Quietly k (has ++ olds) news → Ok has x (record x { work = w })
  quiet_legal has olds news x w t q = record { olds = olds; news = news; acts = []; turns = beside x olds news [] w t; leads = λ c f keeps. quiet_leads k c number s (has ++ olds) news c0 sound here is_coloured f keeps q }

  -- and then a content or a result is let go
  content_given : (has olds news : List Thing) (x : Site) (w : Work) (m : MutexNo) (v : Owned) → WorkTurns x.work olds news [] w → Quietly k (has ++ olds) news → AreThere k (holds (as_content m) v ∷ []) → Ok has x (record x { work = give_up v w })
  content_given has olds news x w m v t q there = record {
    olds = olds;
    news = news ++ give_news v;
    acts = give_acts v;
    turns = beside x olds (news ++ give_news v) (give_acts v) (give_up v w) (gives_turns x.work olds news [] w v t);
    leads = λ c f keeps. gives_lead k sound number s here c0 is_coloured (as_content m) refl v [] there c (has ++ olds) news q f keeps;
  }

  pub result_given : (has olds news : List Thing) (x : Site) (w : Work) (u : ℕ) (v : Owned) → WorkTurns x.work olds news [] w → Quietly k (has ++ olds) news → AreThere k (holds (as_result u) v ∷ []) → Ok has x (record x { work = give_up v w })
  result_given has olds news x w u v t q there = record {
    olds = olds;
    news = news ++ give_news v;
    acts = give_acts v;
    turns = beside x olds (news ++ give_news v) (give_acts v) (give_up v w) (gives_turns x.work olds news [] w v t);
    leads = λ c f keeps. gives_lead k sound number s here c0 is_coloured (as_result u) refl v [] there c (has ++ olds) news q f keeps;
  }

  -- A CONTENT THAT COMES BACK

  module _ (i : ℕ) (m : MutexNo) (v : Owned) (q : slice_get s.rest.inbox i ≡ Some (message.Unlock m v)) where
    abbrev it : Message
    it = message.Unlock m v

    abbrev x : Site
    x = received i s

    abbrev held : Thing → ℕ
    held y = told ones (holder_by (sight k) m y)

    abbrev places : Thing → ℕ
    places y = contents (sight k) m y

    abbrev without : Server
    without = record s { rest = receive s.rest i }

    abbrev cluster_without : Cluster
    cluster_without = record k { servers = with_server k.servers number without }

    server_without : (f : Thing → ℕ) → tot f (server_things s) ≡ tot f (server_things without) + tot f (message_things n it)
    server_without f = omega (arith, server_parts f s, server_parts f without, tot-remove (λ y. message_things n y) f 0 s.rest.inbox i it q)

    places_few : tot places (things_of k) ≤ 1
    places_few = let one_place : tot places (things_of k) ≡ tot (is_home_of m) (things_of k) = sound.mutexes_and_tasks.one_content m in omega (arith, one_place, few_homes k sound m)

    places_without : tot places (things_of cluster_without) ≡ 0
    places_without =
        let all : tot places (things_of k) ≡ tot places (server_things s) + tot places (servers_things (others_of k.servers number)) = (tot-server places k.servers number s without here).0 in
        let new : tot places (things_of cluster_without) ≡ tot places (server_things without) + tot places (servers_things (others_of k.servers number)) = (tot-server places k.servers number s without here).1 in
        let mine : one (same_mutex m m) ≡ 1 = ap one (mutexes.itself m) in
        let its : tot places (message_things n it) ≡ one (same_mutex m m) = omega arith in
        omega (arith, all, new, server_without places, its, mine, places_few)

    held_none : tot held (things_of k) ≡ 0
    held_none =
        let all : tot held (things_of k) ≡ tot held (server_things s) + tot held (servers_things (others_of k.servers number)) = (tot-server held k.servers number s without here).0 in
        let new : tot held (things_of cluster_without) ≡ tot held (server_things without) + tot held (servers_things (others_of k.servers number)) = (tot-server held k.servers number s without here).1 in
        let its : tot held (message_things n it) ≡ 0 = refl in
        let less : tot held (things_of cluster_without) ≤ tot places (things_of cluster_without) = holders_less k m cluster_without in
        omega (arith, all, new, server_without held, its, less, places_without)

    -- nobody has it
    free : holder_of (sight k) m ≡ None
    free = holder_is k m (let z = held_none in omega (arith, z)) ∙ none_first (holder_by (sight k) m) (things_of k) held_none

    content_there : AreThere k (holds (as_content m) v ∷ [])
    content_there f = omega (arith, message_there k number s here i it q f)

    abbrev P : Work → Type 0
    P w = Ok (message_things n it) x (record x { work = w })

    abbrev Then : Mutexes × Back → Type 0
    Then r = P (answer_back m r.1 (with_mutexes r.0 x.work))

    -- it goes on to the first that waits
    module _ (y : Mutex) (at : mutex_in s.rest.mutexes.there m ≡ Some y) (first : ℕ × ℕ) (rest : List (ℕ × ℕ)) (waits : y.queue ≡ first ∷ rest) where
      abbrev a : ℕ
      a = first.0

      abbrev t : ℕ
      t = first.1

      abbrev new : Mutex
      new = record y { queue = rest }

      abbrev wish : Wish
      wish = ForContent m t a

      abbrev olds : List Thing
      olds = sent n it ∷ holds (as_content m) v ∷ at_home n y ∷ queued y.number a t ∷ []

      abbrev news : List Thing
      news = at_home n new ∷ sent a (message.Granted m v t) ∷ holds (as_content m) v ∷ []

      part : Partly k olds news
      part = record {
        objects = λ o g. refl;
        drops = λ o. refl;
        copies = λ r w g. refl;
        served = λ j. refl;
        issued = λ h r w. refl;
        started = λ r w. refl;
        made = λ r w. refl;
        threads = λ u. refl;
        running = λ u g. refl;
        there = λ o. omega arith;
      }

      queue_less : (f : Thing → ℕ) → tot f (things_at (queue_things y.number) 0 rest) + tot f (queued y.number a t ∷ []) ≡ tot f (things_at (queue_things y.number) 0 y.queue) + tot f []
      queue_less f =
          let all : tot f (things_at (queue_things y.number) 0 y.queue) ≡ tot f (things_at (queue_things y.number) 0 (first ∷ rest)) = ap (λ l. tot f (things_at (queue_things y.number) 0 l)) waits in
          omega (arith, all, tot-front (λ (z : ℕ × ℕ). queued y.number z.0 z.1 ∷ []) f 0 first rest)

      less : (b : Wish) → tot (wished_in b) olds ≡ tot (wished_in b) news + one (same_wish b wish)
      less b = let w : one (same_wish b (ForContent y.number t a)) ≡ one (same_wish b wish) = ap (λ j. one (same_wish b (ForContent j t a))) (found_number s.rest.mutexes.there m y at) in omega (arith, w)

      held_then : (o : MutexNo) (d : Bool) → same_mutex m o ≡ d → (g : ℕ → ℕ) → told g (if same_mutex o m then Some t else holder_of (sight k) o) ≡ told g (holder_of (sight k) o) + told g (or_else (if_some (same_mutex m o) t) None)
      held_then o true d g =
          let same : m ≡ o = same_mutexes m o d in
          let none : told g (holder_of (sight k) o) ≡ 0 = ap (told g) (ap (holder_of (sight k)) (sym same) ∙ free) in
          let left : told g (if same_mutex o m then Some t else holder_of (sight k) o) ≡ g t = ap (λ b. told g (if b then Some t else holder_of (sight k) o)) (mutex_flip o m ∙ d) in
          let right : told g (or_else (if_some (same_mutex m o) t) None) ≡ g t = ap (λ b. told g (or_else (if_some b t) None)) d in
          omega (arith, left, right, none)
      held_then o false d g =
          let left : told g (if same_mutex o m then Some t else holder_of (sight k) o) ≡ told g (holder_of (sight k) o) = ap (λ b. told g (if b then Some t else holder_of (sight k) o)) (mutex_flip o m ∙ d) in
          let right : told g (or_else (if_some (same_mutex m o) t) None) ≡ 0 = ap (λ b. told g (or_else (if_some b t) None)) d in
          omega (arith, left, right)

      abbrev w1 : Work
      w1 = with_mutexes (put_mutex s.rest.mutexes new) x.work

      abbrev w2 : Work
      w2 = note (act.Grant m t a) w1

      next_granted : P (send a (message.Granted m v t) w2)
      next_granted = record {
        olds = at_home n y ∷ queued y.number a t ∷ [];
        news = news;
        acts = act.Grant m t a ∷ [];
        turns = beside x (at_home n y ∷ queued y.number a t ∷ []) news (act.Grant m t a ∷ []) (send a (message.Granted m v t) w2)
            (sends x.work (at_home n y ∷ queued y.number a t ∷ []) (at_home n new ∷ []) (act.Grant m t a ∷ []) w2 a (message.Granted m v t)
            (notes x.work (at_home n y ∷ queued y.number a t ∷ []) (at_home n new ∷ []) [] w1 (act.Grant m t a) (mutex_turns x.work m y new (queued y.number a t ∷ []) [] at refl (λ f h. queue_less f))));
        leads = λ c f keeps.
            let q0 = answers_of (sight k) in
            let h = fits (sight k) c0 is_coloured in
            let e = silent n None (act.Grant m t a ∷ []) in
            leads_on k.options n None (act.Grant m t a ∷ []) c0 q0 (granting m t a q0) c h (server_there k sound number s here).0 tt
            (runs_one k.options e (act.Grant m t a) c0 (granting m t a q0)
            (grant_allowed k.options e c0 q0 m t a h (home_here k sound number s here c0 is_coloured m y at) (mutex_stands k sound number s here c0 is_coloured m y at) free (wished_once k c olds news sound f wish less)))
            (part_agrees k c olds news sound f keeps part _ _ (wish_answered k c olds news sound f wish less)
            (λ o. holder_after k c olds news sound f keeps o (if same_mutex o m then Some t else holder_of (sight k) o) (λ g. omega (arith, held_then o (same_mutex m o) refl g))));
      }

    back_home : (y : Mutex) → mutex_in s.rest.mutexes.there m ≡ Some y → (l : List (ℕ × ℕ)) → y.queue ≡ l → P (answer_back m (back_to s.rest.mutexes v y l).1 (with_mutexes (back_to s.rest.mutexes v y l).0 x.work))
    back_home y at (first ∷ rest) e = next_granted y at first rest e
    back_home y at [] e = by (y.shares == 0)
      where
        new : Mutex
        new = record y { content = Some v }

        by : (b : Bool) → Then (if b then (end_mutex s.rest.mutexes y.number, Ended v) else (put_mutex s.rest.mutexes new, Kept))
        by true =
            content_given (message_things n it) (at_home n y ∷ []) [] x (with_mutexes (end_mutex s.rest.mutexes y.number) x.work) m v (end_turns x.work m y at e) (record {
              objects = λ o g. refl;
              drops = λ o. refl;
              copies = λ r w g. refl;
              served = λ j. refl;
              issued = λ h r w. refl;
              started = λ r w. refl;
              made = λ r w. refl;
              threads = λ u. refl;
              running = λ u g. refl;
              wishes = λ b. refl;
              there = λ o. omega arith;
              holders = λ o g. refl;
            }) content_there
        by false =
            quiet_legal (message_things n it) (at_home n y ∷ []) (at_home n new ∷ []) x (with_mutexes (put_mutex s.rest.mutexes new) x.work) (mutex_turns x.work m y new [] [] at refl (λ f h. refl)) (record {
              objects = λ o g. refl;
              drops = λ o. refl;
              copies = λ r w g. refl;
              served = λ j. refl;
              issued = λ h r w. refl;
              started = λ r w. refl;
              made = λ r w. refl;
              threads = λ u. refl;
              running = λ u g. refl;
              wishes = λ b. refl;
              there = λ o. omega arith;
              holders = λ o g. refl;
            })

    pub content_back : Gives (Ok (message_things n it) x) (deliver_message k.code it x)
    content_back = work_legal k sound number s here c0 is_coloured (message_things n it) x (deliver_unlock m v) (by (mutex_in s.rest.mutexes.there m) refl)
      where
        outside : (y : Mutex) → mutex_in s.rest.mutexes.there m ≡ Some y → (o : Option Owned) → Gives P (option_map (λ r. answer_back m r.1 (with_mutexes r.0 x.work)) (back_out s.rest.mutexes v y o))
        outside y at None = back_home y at y.queue refl
        outside y at (Some u) = tt

        by : (o : Option Mutex) → mutex_in s.rest.mutexes.there m ≡ o → Gives P (option_map (λ r. answer_back m r.1 (with_mutexes r.0 x.work)) (back_in s.rest.mutexes v o))
        by None at = tt
        by (Some y) at = outside y at y.content

  -- A SHARE THAT IS LET GO

  module _ (i : ℕ) (m : MutexNo) where
    abbrev share : Message
    share = message.Release (released.Mutex m)

    abbrev z : Site
    z = received i s

    abbrev Q : Work → Type 0
    Q w = Ok (message_things n share) z (record z { work = w })

    abbrev Less : Mutexes × Option Owned → Type 0
    Less r = Q (give_up_left r.1 (with_mutexes r.0 z.work))

    module _ (y : Mutex) (at : mutex_in s.rest.mutexes.there m ≡ Some y) where
      -- there is one less
      one_less : (new : Mutex) → new.number ≡ y.number → new.queue ≡ y.queue → Q (with_mutexes (put_mutex s.rest.mutexes new) z.work)
      one_less new named queue =
          quiet_legal (message_things n share) (at_home n y ∷ []) (at_home n new ∷ []) z (with_mutexes (put_mutex s.rest.mutexes new) z.work)
          (mutex_turns z.work m y new [] [] at named (λ f h. ap₂ (λ j l. tot f (things_at (queue_things j) 0 l) + 0) named queue)) (record {
            objects = λ o g. refl;
            drops = λ o. refl;
            copies = λ r w g. refl;
            served = λ j. refl;
            issued = λ h r w. refl;
            started = λ r w. refl;
            made = λ r w. refl;
            threads = λ u. refl;
            running = λ u g. refl;
            wishes = λ b. refl;
            there = λ o. let e : one (same_mutex new.number o) ≡ one (same_mutex y.number o) = ap (λ j. one (same_mutex j o)) named in omega (arith, e);
            holders = λ o g. refl;
          })

      -- the last one ends the mutex where its content is in, for which nobody waits
      ends_it : (v : Owned) → y.content ≡ Some v → Q (give_up v (with_mutexes (end_mutex s.rest.mutexes y.number) z.work))
      ends_it v e =
          content_given (message_things n share) (at_home n y ∷ []) [] z (with_mutexes (end_mutex s.rest.mutexes y.number) z.work) y.number v (end_turns z.work m y at empty) (record {
            objects = λ o g. refl;
            drops = λ o. refl;
            copies = λ r w g. refl;
            served = λ j. refl;
            issued = λ h r w. refl;
            started = λ r w. refl;
            made = λ r w. refl;
            threads = λ u. refl;
            running = λ u g. refl;
            wishes = λ b. refl;
            there = λ o. omega arith;
            holders = λ o g. refl;
          }) content_at
        where
          empty : y.queue ≡ []
          empty =
              let none : tot queued_inside (things_of k) ≡ 0 = sound.mutexes_and_tasks.queue_while_out in
              let mine : queued_inside (at_home n y) ≡ length y.queue = ap (λ o. if_so (is_some o) (length y.queue)) e in
              none_listed y.queue (omega (arith, none, mine, mutex_there k number s here m y at queued_inside))

          content_at : AreThere k (holds (as_content y.number) v ∷ [])
          content_at f =
              let same : tot f (content_things y.number y.content) ≡ f (holds (as_content y.number) v) + 0 = ap (λ o. tot f (content_things y.number o)) e in
              omega (arith, same, mutex_there k number s here m y at f, tot-append f (content_things y.number y.content) (things_at (queue_things y.number) 0 y.queue))

      last_one : (o : Option Owned) → y.content ≡ o → Less (last_less s.rest.mutexes y o)
      last_one None e = one_less (record y { shares = 0 }) refl refl
      last_one (Some v) e = ends_it v e

      by_shares : (b : Bool) → Less (if b then last_less s.rest.mutexes y y.content else (put_mutex s.rest.mutexes (record y { shares = y.shares - 1 }), None))
      by_shares true = last_one y.content refl
      by_shares false = one_less (record y { shares = y.shares - 1 }) refl refl

    pub share_dropped : Gives (Ok (message_things n share) z) (deliver_message k.code share z)
    share_dropped = work_legal k sound number s here c0 is_coloured (message_things n share) z (release_mutex m) (by (mutex_in s.rest.mutexes.there m) refl)
      where
        some_shares : (y : Mutex) → mutex_in s.rest.mutexes.there m ≡ Some y → (b : Bool) → Gives Q (option_map (λ r. give_up_left r.1 (with_mutexes r.0 z.work)) (if b then Some (less_of s.rest.mutexes y) else None))
        some_shares y at true = by_shares y at (y.shares == 1)
        some_shares y at false = tt

        by : (o : Option Mutex) → mutex_in s.rest.mutexes.there m ≡ o → Gives Q (option_map (λ r. give_up_left r.1 (with_mutexes r.0 z.work)) (less_in s.rest.mutexes o))
        by None at = tt
        by (Some y) at = some_shares y at (nat_lt 0 y.shares)

  -- A TASK THAT IS LET GO

  -- the result that is kept of a thread stands there
  kept_there : (u : ℕ) (y : Task) (v : Owned) → task_in s.rest.tasks u ≡ Some y → y.state ≡ kept v → AreThere k (holds (as_result y.thread) v ∷ [])
  kept_there u y v at e f =
      let same : tot f (result_things y.thread y.state) ≡ f (holds (as_result y.thread) v) + 0 = ap (λ o. tot f (result_things y.thread o)) e in
      omega (arith, same, task_there k number s here u y at f)

  module _ (i u : ℕ) where
    abbrev task : Message
    task = message.Release (released.Task u)

    abbrev r : Site
    r = received i s

    pub task_dropped : Gives (Ok (message_things n task) r) (deliver_message k.code task r)
    task_dropped = work_legal k sound number s here c0 is_coloured (message_things n task) r (release_task u) (by (task_in s.rest.tasks u) refl)
      where
        R : Work → Type 0
        R w = Ok (message_things n task) r (record r { work = w })

        state : (y : Task) → task_in s.rest.tasks u ≡ Some y → (o : TaskState) → y.state ≡ o → Gives R (option_map (λ a. give_up_left a.1 (with_tasks a.0 r.work)) (let_go_from s.rest.tasks u (Some o)))
        state y at going e =
            quiet_legal (message_things n task) (noted n y ∷ []) (noted n (record { thread = u; state = let_go }) ∷ []) r (with_tasks (with_state s.rest.tasks u let_go) r.work) (note_turns r.work u y let_go at) (record {
              objects = λ o g. refl;
              drops = λ o. refl;
              copies = λ i w g. refl;
              served = λ j. refl;
              issued = λ h i w. refl;
              started = λ i w. refl;
              made = λ i w. refl;
              threads = λ j. refl;
              running = λ j g. refl;
              wishes = λ b. let w : wished_in b (noted n y) ≡ 0 = ap (λ j. same_as b (noted_wish y.thread j)) e in omega (arith, w);
              there = λ o. omega arith;
              holders = λ o g. refl;
            })
        state y at (kept v) e =
            result_given (message_things n task) (noted n y ∷ []) [] r (with_tasks (without_task s.rest.tasks u) r.work) y.thread v (note_goes r.work u y at) (record {
              objects = λ o g. refl;
              drops = λ o. refl;
              copies = λ i w g. refl;
              served = λ j. refl;
              issued = λ h i w. refl;
              started = λ i w. refl;
              made = λ i w. refl;
              threads = λ j. refl;
              running = λ j g. refl;
              wishes = λ b. let w : wished_in b (noted n y) ≡ 0 = ap (λ j. same_as b (noted_wish y.thread j)) e in omega (arith, w);
              there = λ o. omega arith;
              holders = λ o g. refl;
            }) (kept_there u y v at e)
        state y at let_go e = tt
        state y at (asked a b) e = tt
        state y at (in_pair p d) e = tt

        by : (o : Option Task) → task_in s.rest.tasks u ≡ o → Gives R (option_map (λ a. give_up_left a.1 (with_tasks a.0 r.work)) (let_go_from s.rest.tasks u (state_in o)))
        by None at = tt
        by (Some y) at = state y at y.state refl
