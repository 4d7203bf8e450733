-- What asks for something for a thread is there still after each event that is no step, but for the delivery of what brings it.
use Rattle.std.proofs.Common.{◌≡◌, ℕ, ◌+◌, ◌≤◌, ◌==◌, ◌&&◌, true, false, List, Option, Some, None, refl, ap, subst, arith}
use Rattle.std.specs.Prelude.{slice_get, option_map}
use Rattle.law_walks_others.specs.Below.fr_base.declared.name.ObjNo.{ObjNo}
use Rattle.law_walks_others.specs.Below.fr_base.Names.{same_object}
use Rattle.law_walks_others.specs.Below.heap_partition.declared.value.Cell.{Cell}
use Rattle.law_walks_others.specs.Below.read_cache.Cache.{Copy, can_evict}
use Rattle.law_walks_others.specs.Below.migration.Packing.{unpin_all, used_words, packed}
use Rattle.law_walks_others.specs.Below.thread_state.View.{ThreadState}
use Rattle.law_walks_others.specs.Below.server_msgs.declared.message.Message.{Message}
use Rattle.law_walks_others.specs.Below.server_msgs.declared.message.Message.TheVariants as message
use Rattle.law_walks_others.specs.Below.journal.View.{EntryView}
use Rattle.law_walks_others.specs.Below.server_model.declared.event.Event.{Event}
use Rattle.law_walks_others.specs.Below.server_model.declared.event.What.{What}
use Rattle.law_walks_others.specs.Below.server_model.declared.event.What.TheVariants.{Step, Deliver, Evict, Migrate}
use Rattle.law_walks_others.specs.Below.server_model.Servers.{Server, Cluster, server_at}
use Rattle.law_walks_others.specs.Below.server_model.Work.{Work, Site, receive, look_object, then_some, thread_in, without_thread, beside_threads}
use Rattle.law_walks_others.specs.Below.server_model.Objects.{deliver_fetch, deliver_move}
use Rattle.law_walks_others.specs.Below.server_model.Moving.{depart}
use Rattle.law_walks_others.specs.Below.server_model.Events.{begin_work, begin_at, enabled, received, left_by, deliver_message, evict_copy, does}
use Rattle.law_walks_others.specs.Below.server_model.Clusters.{done_at, act_at, apply}
use Rattle.law_walks_others.specs.Below.owner_box.Partition.{freed}
use Rattle.law_walks_others.specs.Below.coherent_memory.Names.{tot, one}
use Rattle.law_walks_others.specs.Below.coherent_memory.Things.{Thing, standing_things, message_things, server_things, things_of}
use Rattle.law_walks_others.specs.Below.coherent_memory.Paths.{Awaited}
use Rattle.law_walks_others.specs.Below.coherent_memory.Walking.{asks_for, asked_for}
use Rattle.law_walks_others.specs.Below.coherent_memory.Coherent.{IsSound}
use Rattle.law_walks_others.specs.Below.law_counts_sums.Laws.{Gives, FewEvents}
use Rattle.law_walks_others.proofs.Below.law_counts_sums.Results.{then_gives, map_gives, over_gives, test_gives}
use Rattle.law_walks_others.proofs.Below.law_counts_sums.Trades.{tot-remove}
use Rattle.law_walks_others.proofs.Below.law_counts_sums.Unseen.{Unseen, Unnoted, none_at, thread_alone, seen_of}
use Rattle.law_walks_others.proofs.Below.law_counts_sums.ObjectMessages.{looked_object}
use Rattle.law_walks_others.proofs.Below.law_counts_sums.Events.{tot-server}
use Rattle.law_walks_others.proofs.Below.law_counts_sums.Applied.{handed_on}
use Rattle.law_walks_others.proofs.Below.law_counts_sums.Sending.{each_event_sends}
use Rattle.law_walks_others.proofs.still.Mail.{mail, Has, sent_more, message_leaves}

-- what is asked for or brought goes where it is brought
abbrev pub lost : ℕ → Awaited → Message → ℕ
lost t b (message.Fetched w c u) = one (asks_for t b (message.Fetched w c u))
lost t b (message.Moved w c u) = one (asks_for t b (message.Moved w c u))
lost t b m = 0

abbrev pub lost_of : ℕ → Awaited → Option Message → ℕ
lost_of t b None = 0
lost_of t b (Some m) = lost t b m

abbrev pub lost_by : ℕ → Awaited → What → Server → ℕ
lost_by t b (Deliver i) s = lost_of t b (slice_get s.rest.inbox i)
lost_by t b w s = 0

-- the event is no step
abbrev pub NoStep : What → Type 0
NoStep (Step t) = ⊥
NoStep w = Rattle.std.specs.Bool.⊤

module _ (t : ℕ) (b : Awaited) where
  abbrev f : Thing → ℕ
  f x = asked_for t b x

  unseen : (n : ℕ) → Unseen f n
  unseen n = record { held = λ p v. refl; shared = λ l r. refl; borrowed = λ l r. refl; locked = λ l m. refl; live = λ a c. refl; free = λ a m. refl; old = λ a. refl; copy = λ s c. refl; used = λ s x. refl }

  unnoted : Unnoted f
  unnoted = record { mutex = λ s m. refl; queue = λ m s u. refl; note = λ s u. refl }

  -- a message that asks, or brings, weighs one
  weigh : (n : ℕ) (m : Message) → tot f (message_things n m) ≡ one (asks_for t b m)
  weigh n (message.Start y) = omega (arith, thread_alone f n (unseen n) n true y)
  weigh n (message.Migrate y) = omega (arith, thread_alone f n (unseen n) n true y)
  weigh n (message.Fetch w o s u) = omega arith
  weigh n (message.Fetched w c u) = omega arith
  weigh n (message.Move w o s u) = omega arith
  weigh n (message.Moved w c u) = omega arith
  weigh n (message.Drop w o) = refl
  weigh n (message.Lock m s u) = refl
  weigh n (message.Granted m v u) = refl
  weigh n (message.Unlock m v) = refl
  weigh n (message.Dup m s u) = refl
  weigh n (message.Dupped m u) = refl
  weigh n (message.Release x) = refl
  weigh n (message.Join u s v) = refl
  weigh n (message.Joined u v w) = refl
  weigh n (message.Finished u v) = refl

  -- AT ITS SERVER

  module _ (s : Server) where
    abbrev n : ℕ
    n = s.rest.number

    whole : (s2 : Server) → s2.rest.number ≡ n → tot f (server_things s2) ≡ mail n f s2.rest.inbox s2.rest.outbox
    whole s2 e = subst (λ m. tot f (server_things s2) ≡ mail m f s2.rest.inbox s2.rest.outbox) e (
        omega (
          arith,
          seen_of f s2.rest.number (unseen s2.rest.number) unnoted s2 refl,
          none_at f s2.rest.number (unseen s2.rest.number) (standing_things s2.rest.number) (λ i y. omega (arith, thread_alone f s2.rest.number (unseen s2.rest.number) s2.rest.number false y)) 0 s2.threads,
        ))

    abbrev pub Less : ℕ → Server × EntryView → Type 0
    Less m r = tot f (server_things s) ≤ tot f (server_things r.0) + m

    abbrev SiteHas : ℕ → Site → Type 0
    SiteHas l x = Has n f l x.work.rest

    ends : (l m : ℕ) (thread : Option ℕ) (x : Option Site) → mail n f s.rest.inbox s.rest.outbox ≤ l + m → Gives (SiteHas l) x → Gives (Less m) (option_map (left_by s.events thread None) x)
    ends l m thread x le g =
        over_gives (SiteHas l) (Less m) x (left_by s.events thread None) g (λ y a. omega (arith, le, a.1, whole s refl, whole (record { rest = y.work.rest; threads = y.threads; events = s.events + 1 }) a.0))

    -- without the message that is delivered
    abbrev left : ℕ → ℕ
    left i = mail n f (receive s.rest i).inbox (receive s.rest i).outbox

    taken_out : (i : ℕ) (m : Message) → slice_get s.rest.inbox i ≡ Some m → mail n f s.rest.inbox s.rest.outbox ≡ one (asks_for t b m) + left i
    taken_out i m q = omega (arith, weigh n m, tot-remove (λ x. message_things n x) f 0 s.rest.inbox i m q)

    same_asks : (w : ℕ) (o : ObjNo) (c : Cell) (r u : ℕ) → c.object ≡ o → one (asks_for t b (message.Fetched w c u)) ≡ one (asks_for t b (message.Fetch w o r u))
    same_asks w o c r u e = ap (λ q. one ((u == t && Rattle.std.specs.Prelude.not b.comes) && (b.word == w && same_object q b.object))) e

    same_moves : (w : ℕ) (o : ObjNo) (c : Cell) (r u : ℕ) → c.object ≡ o → one (asks_for t b (message.Moved w c u)) ≡ one (asks_for t b (message.Move w o r u))
    same_moves w o c r u e = ap (λ q. one ((u == t && b.comes) && (b.word == w && same_object q b.object))) e

    -- another message
    others : (i : ℕ) (m : Message) (q : slice_get s.rest.inbox i ≡ Some m) → one (asks_for t b m) ≤ lost t b m → (code : List Rattle.law_walks_others.specs.Below.fr_base.declared.instruction.Instr.Instr) → Gives (Less (lost t b m)) (option_map (left_by s.events None None) (deliver_message code m (received i s)))
    others i m q le code = ends (left i) (lost t b m) None (deliver_message code m (received i s)) (omega (arith, taken_out i m q, le)) (message_leaves n f (left i) code m (received i s) (refl, omega arith))

    -- a request is answered
    fetches : (i w : ℕ) (o : ObjNo) (r u : ℕ) (q : slice_get s.rest.inbox i ≡ Some (message.Fetch w o r u)) → Gives (Less 0) (option_map (left_by s.events None None) (beside_threads (deliver_fetch w o r u) (received i s)))
    fetches i w o r u q =
        let l : ℕ = left i + one (asks_for t b (message.Fetch w o r u)) in
        ends l 0 None (beside_threads (deliver_fetch w o r u) (received i s)) (omega (arith, taken_out i (message.Fetch w o r u) q))
        (over_gives (λ (x : Work). Has n f l x.rest) (SiteHas l) (deliver_fetch w o r u (begin_work (receive s.rest i))) _
        (map_gives (λ (x : Work). Has n f l x.rest) (look_object s.rest.partition w o) _ (λ c g.
        let a = sent_more n f (left i) r (message.Fetched w c u) (receive s.rest i) (refl, omega arith) in
        (a.0, omega (arith, a.1, weigh r (message.Fetched w c u), same_asks w o c r u (looked_object s.rest.partition w o c g).1)))) (λ x a. a))

    moves : (i w : ℕ) (o : ObjNo) (r u : ℕ) (q : slice_get s.rest.inbox i ≡ Some (message.Move w o r u)) → Gives (Less 0) (option_map (left_by s.events None None) (beside_threads (deliver_move w o r u) (received i s)))
    moves i w o r u q =
        let l : ℕ = left i + one (asks_for t b (message.Move w o r u)) in
        ends l 0 None (beside_threads (deliver_move w o r u) (received i s)) (omega (arith, taken_out i (message.Move w o r u) q))
        (over_gives (λ (x : Work). Has n f l x.rest) (SiteHas l) (deliver_move w o r u (begin_work (receive s.rest i))) _
        (map_gives (λ (x : Work). Has n f l x.rest) (look_object s.rest.partition w o) _ (λ c g.
        let a = sent_more n f (left i) r (message.Moved w c u) (record (receive s.rest i) { partition = freed s.rest.partition w }) (refl, omega arith) in
        (a.0, omega (arith, a.1, weigh r (message.Moved w c u), same_moves w o c r u (looked_object s.rest.partition w o c g).1)))) (λ x a. a))

    delivers : (code : List Rattle.law_walks_others.specs.Below.fr_base.declared.instruction.Instr.Instr) (i : ℕ) (m : Message) (q : slice_get s.rest.inbox i ≡ Some m) → Gives (Less (lost t b m)) (option_map (left_by s.events None None) (deliver_message code m (received i s)))
    delivers code i (message.Fetch w o r u) q = fetches i w o r u q
    delivers code i (message.Move w o r u) q = moves i w o r u q
    delivers code i (message.Fetched w c u) q = others i (message.Fetched w c u) q (omega arith) code
    delivers code i (message.Moved w c u) q = others i (message.Moved w c u) q (omega arith) code
    delivers code i (message.Drop w o) q = others i (message.Drop w o) q (omega arith) code
    delivers code i (message.Lock m r u) q = others i (message.Lock m r u) q (omega arith) code
    delivers code i (message.Granted m v u) q = others i (message.Granted m v u) q (omega arith) code
    delivers code i (message.Unlock m v) q = others i (message.Unlock m v) q (omega arith) code
    delivers code i (message.Dup m r u) q = others i (message.Dup m r u) q (omega arith) code
    delivers code i (message.Dupped m u) q = others i (message.Dupped m u) q (omega arith) code
    delivers code i (message.Release x) q = others i (message.Release x) q (omega arith) code
    delivers code i (message.Start y) q = others i (message.Start y) q (omega arith) code
    delivers code i (message.Join u r v) q = others i (message.Join u r v) q (omega arith) code
    delivers code i (message.Joined u v w) q = others i (message.Joined u v w) q (omega arith) code
    delivers code i (message.Finished u v) q = others i (message.Finished u v) q (omega arith) code
    delivers code i (message.Migrate y) q = others i (message.Migrate y) q (omega arith) code

    abbrev all : ℕ
    all = mail n f s.rest.inbox s.rest.outbox

    goes : (code : List Rattle.law_walks_others.specs.Below.fr_base.declared.instruction.Instr.Instr) (o : Rattle.law_walks_others.specs.Below.fr_base.declared.settings.Options.Options) (w : What) → NoStep w → Gives (Less (lost_by t b w s)) (does code o s w)
    goes code o (Step u) still = absurd still
    goes code o (Deliver i) still = by (slice_get s.rest.inbox i) refl
      where
        by : (m : Option Message) → slice_get s.rest.inbox i ≡ m → Gives (Less (lost_of t b m)) (option_map (left_by s.events None None) (then_some m (λ x. deliver_message code x (received i s))))
        by None q = tt
        by (Some m) q = delivers code i m q
    goes code o (Evict w) still =
        ends all 0 None (beside_threads (evict_copy w) (begin_at s)) (omega arith)
        (over_gives (λ (x : Work). Has n f all x.rest) (SiteHas all) (evict_copy w (begin_work s.rest)) _ (test_gives (λ (x : Work). Has n f all x.rest) (can_evict s.rest.cache w) _ (λ q. (refl, omega arith))) (λ x a. a))
    goes code o (Migrate u target) still =
        ends all 0 (Some u) (Rattle.law_walks_others.specs.Below.server_model.Moving.migrate u target (begin_at s)) (omega arith) (then_gives (SiteHas all) (thread_in s.threads u) _ (λ y q. by y (unpin_all (used_words y) s.rest.cache)))
      where
        by : (y : ThreadState) (l : Option (List Copy)) → Gives (SiteHas all) (option_map (λ p. record { work = depart target (begin_work s.rest) p; threads = without_thread s.threads u }) (option_map (λ cs. (packed (record y { moved_since_step = true }), cs)) l))
        by y None = tt
        by y (Some cs) = let a = sent_more n f all target (message.Migrate (packed (record y { moved_since_step = true }))) (record s.rest { cache = cs }) (refl, omega arith) in (a.0, omega (arith, a.1))

  -- IN ITS CLUSTER

  module _ (k : Cluster) (e : Event) (sound : IsSound k) (few : FewEvents k) (still : NoStep e.what) (none : (s : Server) → server_at k.servers e.server ≡ Some s → lost_by t b e.what s ≡ 0) where
    abbrev Grown : Cluster → Type 0
    Grown c = tot f (things_of k) ≤ tot f (things_of c)

    acted : Gives (λ (d : Cluster × EntryView). Grown d.0) (act_at k e)
    acted =
        then_gives (λ (d : Cluster × EntryView). Grown d.0) (server_at k.servers e.server) _ (λ s here.
        over_gives (Less s (lost_by t b e.what s)) (λ (d : Cluster × EntryView). Grown d.0) (done_at k e.what s) _
        (test_gives (Less s (lost_by t b e.what s)) (enabled k.options s e.what) (does k.code k.options s e.what) (λ able. goes s k.code k.options e.what still))
        (λ r less. omega (arith, less, none s here, (tot-server f k.servers e.server s r.0 here).0, (tot-server f k.servers e.server s r.0 here).1)))

    pub still_asked : Gives (λ (d : Cluster × EntryView). tot f (things_of k) ≤ tot f (things_of d.0)) (apply k e)
    still_asked = handed_on Grown (λ c x y same g. omega (arith, g, same f)) k e (each_event_sends k e sound few) acted
