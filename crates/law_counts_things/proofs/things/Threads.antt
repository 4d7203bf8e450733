-- What each thread keeps by itself: from its server to the cluster, with the messages handed over.
use Rattle.std.proofs.Common.{◌≡◌, ℕ, zero, suc, ◌==◌, ◌&&◌, not, Bool, true, false, nat_lt, if◌then◌else◌, List, [], ◌∷◌, Option, Some, None, refl, subst}
use Rattle.std.specs.Prelude.{slice_get, option_map, remove, drop}
use Rattle.std.specs.Bool.{⊤}
use Rattle.std.specs.List.{AllByRecursion}
use Rattle.law_counts_sums.specs.Below.fr_base.declared.instruction.Instr.{Instr}
use Rattle.law_counts_sums.specs.Below.fr_base.declared.settings.Options.{Options}
use Rattle.law_counts_sums.specs.Below.read_cache.Cache.{Copy, can_evict}
use Rattle.law_counts_sums.specs.Below.join_home.Tasks.{Task, ended}
use Rattle.law_counts_sums.specs.Below.join_home.declared.answers.EndedAs.{EndedAs}
use Rattle.law_counts_sums.specs.Below.join_home.declared.answers.EndedAs.TheVariants as over
use Rattle.law_counts_sums.specs.Below.thread_state.View.{ThreadState, new_thread}
use Rattle.law_counts_sums.specs.Below.thread_state.declared.value.Value.{Value}
use Rattle.law_counts_sums.specs.Below.server_msgs.declared.message.Message.{Message}
use Rattle.law_counts_sums.specs.Below.server_msgs.declared.message.Message.TheVariants as message
use Rattle.law_counts_sums.specs.Below.migration.Packing.{unpin_all, used_words, packed, pack_thread}
use Rattle.law_counts_sums.specs.Below.journal.View.{EntryView}
use Rattle.law_counts_sums.specs.Below.server_model.declared.event.What.{What}
use Rattle.law_counts_sums.specs.Below.server_model.declared.event.What.TheVariants.{Step, Deliver, Evict, Migrate}
use Rattle.law_counts_sums.specs.Below.server_model.Servers.{Sent, Server}
use Rattle.law_counts_sums.specs.Below.server_model.Work.{Work, Hand, Site, then_some, thread_in, set_thread, without_thread, with_thread, put_back, at_thread, beside_threads, with_tasks}
use Rattle.law_counts_sums.specs.Below.server_model.Objects.{deliver_fetch, deliver_fetched, deliver_move, deliver_moved, deliver_drop}
use Rattle.law_counts_sums.specs.Below.server_model.Sharing.{deliver_lock, deliver_granted, deliver_unlock, deliver_dup, deliver_dupped}
use Rattle.law_counts_sums.specs.Below.server_model.Joining.{deliver_join, deliver_joined, pair_over, end_answer, deliver_finished, arrive}
use Rattle.law_counts_sums.specs.Below.server_model.Moving.{depart}
use Rattle.law_counts_sums.specs.Below.server_model.Events.{Stepped, has_phase, can_step, is_ready, enabled, begin_work, begin_at, left_by, received, release, deliver_message, evict_copy, step, step_in, stepped, does}
use Rattle.law_counts_sums.proofs.Below.coherent_memory.Names.{and_left}
use Rattle.law_counts_sums.specs.Laws.{Gives}
use Rattle.law_counts_sums.proofs.Results.{then_gives, map_gives, over_gives, test_gives, stand_gives, both_give, weaker}
use Rattle.law_counts_sums.proofs.Known.{all_at, all_append, all_take}
use Rattle.law_counts_things.proofs.things.Goes.{Goes, IsGotten, GoesOn, thread_goes, moved_goes, fetched_goes, granted_goes, dupped_goes, joined_goes, pair_goes}
use Rattle.law_counts_things.proofs.things.Mail.{Mailed, mail_sent, Replies, Requests, StartsAt, Begins, message_says, step_says}
use Rattle.law_counts_sums.specs.Below.heap_partition.declared.value.Owned.{Owned}

-- THREADS OF A SERVER

module _ (P : ThreadState → Type 0) where
  pub set_all : (ts : List ThreadState) (new : ThreadState) → AllByRecursion P ts → P new → AllByRecursion P (set_thread ts new)
  set_all [] new a p = tt
  set_all (x ∷ ts) new a p = by (x.number == new.number) (set_all ts new a.1 p)
    where
      by : (b : Bool) → AllByRecursion P (set_thread ts new) → AllByRecursion P (if b then new ∷ ts else x ∷ set_thread ts new)
      by true g = (p, a.1)
      by false g = (a.0, g)

  pub without_all : (ts : List ThreadState) (t : ℕ) → AllByRecursion P ts → AllByRecursion P (without_thread ts t)
  without_all [] t a = tt
  without_all (x ∷ ts) t a = by (x.number == t) (without_all ts t a.1)
    where
      by : (b : Bool) → AllByRecursion P (without_thread ts t) → AllByRecursion P (if b then ts else x ∷ without_thread ts t)
      by true g = a.1
      by false g = (a.0, g)

  pub with_all : (ts : List ThreadState) (new : ThreadState) → AllByRecursion P ts → P new → AllByRecursion P (with_thread ts new)
  with_all [] new a p = (p, tt)
  with_all (x ∷ ts) new a p = by (nat_lt new.number x.number) (with_all ts new a.1 p)
    where
      by : (b : Bool) → AllByRecursion P (with_thread ts new) → AllByRecursion P (if b then new ∷ x ∷ ts else x ∷ with_thread ts new)
      by true g = (p, a)
      by false g = (a.0, g)

  pub found_all : (ts : List ThreadState) (t : ℕ) (y : ThreadState) → AllByRecursion P ts → thread_in ts t ≡ Some y → P y
  found_all [] t y a e = absurd (cc e)
  found_all (x ∷ ts) t y a e = by (x.number == t) (found_all ts t y a.1) e
    where
      by : (b : Bool) → (thread_in ts t ≡ Some y → P y) → (if b then Some x else thread_in ts t) ≡ Some y → P y
      by true g d = let same : x ≡ y = cc in subst P same a.0
      by false g d = g d

drop_all : {X : Type 0} (P : X → Type 0) (n : ℕ) (xs : List X) → AllByRecursion P xs → AllByRecursion P (drop n xs)
drop_all P zero xs a = a
drop_all P (suc n) [] a = tt
drop_all P (suc n) (x ∷ xs) a = drop_all P n xs a.1

pub remove_all : {X : Type 0} (P : X → Type 0) (xs : List X) (i : ℕ) → AllByRecursion P xs → AllByRecursion P (remove xs i)
remove_all P xs i a = all_append P _ _ (all_take P i xs a) (drop_all P (suc i) xs a)

-- a parcel is as it should be
abbrev pub Parcel : (ℕ → ThreadState → Type 0) → ℕ → Message → Type 0
Parcel Q n (message.Start t) = Q n t
Parcel Q n (message.Migrate t) = Q n t
Parcel Q n m = ⊤

-- what a fact on the threads of a server, and on parcels, needs in an event: what its step makes of its thread, what threads do that get what they waited for, and that they arrive, start and leave
pub record Ways (code : List Instr) (servers : ℕ) (s : Server) (what : What) (P : ThreadState → Type 0) (Q : ℕ → ThreadState → Type 0) : Type 0 where
  pub steps : (t : ℕ) (y : ThreadState) (i : Instr) → what ≡ Step t → has_phase can_step (thread_in s.threads t) ≡ true → thread_in s.threads t ≡ Some y → P y → slice_get code y.pc ≡ Some i
      → Gives (λ (d : Stepped). P d.hand.thread) (step servers i (record { work = begin_work s.rest; thread = y }))
  pub goes : (t : ℕ) (y y2 : ThreadState) → thread_in s.threads t ≡ Some y → P y → (g : Goes code y y2) → IsGotten g → P y2
  pub arrives : (t : ThreadState) → Q s.rest.number t → P t
  pub starts : (t n : ℕ) (y : ThreadState) (i : Instr) (u pc : ℕ) (vs : List Value) → thread_in s.threads t ≡ Some y → P y → slice_get code y.pc ≡ Some i → StartsAt i pc → Q n (new_thread u pc vs)
  pub leaves : (t n : ℕ) (y : ThreadState) → thread_in s.threads t ≡ Some y → P y → is_ready y.phase ≡ true → Q n (packed (record y { moved_since_step = true }))

-- the same where a step is known by how its thread goes on
pub record Control (code : List Instr) (s : Server) (P : ThreadState → Type 0) (Q : ℕ → ThreadState → Type 0) : Type 0 where
  pub goes : (t : ℕ) (y y2 : ThreadState) → thread_in s.threads t ≡ Some y → P y → Goes code y y2 → P y2
  pub arrives : (t : ThreadState) → Q s.rest.number t → P t
  pub starts : (t n : ℕ) (y : ThreadState) (i : Instr) (u pc : ℕ) (vs : List Value) → thread_in s.threads t ≡ Some y → P y → slice_get code y.pc ≡ Some i → StartsAt i pc → Q n (new_thread u pc vs)
  pub leaves : (t n : ℕ) (y : ThreadState) → thread_in s.threads t ≡ Some y → P y → is_ready y.phase ≡ true → Q n (packed (record y { moved_since_step = true }))

pub ways : {code : List Instr} {s : Server} {P : ThreadState → Type 0} {Q : ℕ → ThreadState → Type 0} (servers : ℕ) (what : What) → Control code s P Q → Ways code servers s what P Q
ways {code} {s} {P} servers what k = record {
  steps = λ t y i is on q p e.
      let h : Hand = record { work = begin_work s.rest; thread = y } in
      weaker (λ (d : Stepped). Goes code y d.hand.thread) (λ (d : Stepped). P d.hand.thread) (step servers i h) (thread_goes code servers i y e s.rest h refl) (λ d g. k.goes t y d.hand.thread q p g);
  goes = λ t y y2 q p g gets. k.goes t y y2 q p g;
  arrives = k.arrives;
  starts = k.starts;
  leaves = k.leaves;
}

-- the threads of a server and the parcels there
pub record Held (P : ThreadState → Type 0) (Q : ℕ → ThreadState → Type 0) (n : ℕ) (old : List Sent) (s : Server) : Type 0 where
  pub standing : AllByRecursion P s.threads
  pub mail : Mailed (Parcel Q) n old s.rest

replies : (Q : ℕ → ThreadState → Type 0) → Replies (Parcel Q)
replies Q = record { fetched = λ s w c t. tt; moved = λ s w c t. tt; granted = λ s m v t. tt; dupped = λ s m t. tt; joined = λ s u v t. tt; drop = λ w o. tt; release = λ m. tt; let_go = λ u. tt }

requests : (Q : ℕ → ThreadState → Type 0) (n : ℕ) (y : ThreadState) (i : Instr) → Requests (Parcel Q) n y i
requests Q n y i = record { replies = replies Q; fetch = λ p e. tt; move = λ p e. tt; lock = λ m. tt; dup = λ m. tt; unlock = λ m v. tt; join = λ u. tt; finished = λ o e v. tt }

module _ (code : List Instr) (o : Options) (s : Server) (what : What) (P : ThreadState → Type 0) (Q : ℕ → ThreadState → Type 0) (k : Ways code o.servers s what P Q) (held : Held P Q s.rest.number s.rest.outbox s) where
  abbrev n : ℕ
  n = s.rest.number

  abbrev Then : Server × EntryView → Type 0
  Then r = Held P Q n s.rest.outbox r.0

  abbrev Stood : Site → Type 0
  Stood x = AllByRecursion P x.threads

  abbrev Posted : Site → Type 0
  Posted x = Mailed (Parcel Q) n s.rest.outbox x.work.rest

  together : (t : Option ℕ) (x : Option Site) → Gives Stood x → Gives Posted x → Gives Then (option_map (left_by s.events t None) x)
  together t None a b = tt
  together t (Some x) a b = record { standing = a; mail = b }

  -- STEPS

  stepping : (t : ℕ) → what ≡ Step t → has_phase can_step (thread_in s.threads t) ≡ true → Gives Then (does code o s (Step t))
  stepping t is on = by (thread_in s.threads t) refl
    where
      at : (y : ThreadState) → thread_in s.threads t ≡ Some y → (i : Option Instr) → slice_get code y.pc ≡ i
          → Gives Then (option_map (stepped s) (then_some i (λ x. step o.servers x (record { work = begin_work s.rest; thread = y }))))
      at y q None e = tt
      at y q (Some i) e =
          let h : Hand = record { work = begin_work s.rest; thread = y } in
          let p : P y = found_all P s.threads t y held.standing q in
          let begins : Begins (Parcel Q) o.servers s.rest i = λ pc vs r at d f. k.starts t _ y i _ pc vs q p e at in
          over_gives (λ (d : Stepped). P d.hand.thread × Mailed (Parcel Q) n s.rest.outbox d.hand.work.rest) Then (step o.servers i h) (stepped s)
          (both_give (λ (d : Stepped). P d.hand.thread) (λ (d : Stepped). Mailed (Parcel Q) n s.rest.outbox d.hand.work.rest) _ (step o.servers i h) (k.steps t y i is on q p e)
          (step_says (Parcel Q) o.servers i s.rest y (requests Q n y i) begins h (record { mail = held.mail; begun = refl; named = refl; at_home = refl })) (λ d a b. (a, b)))
          (λ d u. record { standing = set_all P s.threads d.hand.thread held.standing u.0; mail = u.1 })

      by : (x : Option ThreadState) → thread_in s.threads t ≡ x → Gives Then (option_map (stepped s) (then_some (option_map (λ y. record { work = begin_work s.rest; thread = y }) x) (step_in code o.servers)))
      by None q = tt
      by (Some y) q = at y q (slice_get code y.pc) refl

  -- DELIVERIES

  beside : (f : Work → Option Work) (w : Work) → Gives Stood (beside_threads f (record { work = w; threads = s.threads }))
  beside f w = map_gives Stood (f w) _ (λ v q. held.standing)

  at : (t : ℕ) (f : Hand → Option Hand) (w : Work) → ((y : ThreadState) → Gives (GoesOn code y) (f (record { work = w; thread = y }))) → Gives Stood (at_thread t f (record { work = w; threads = s.threads }))
  at t f w go = by (thread_in s.threads t) refl
    where
      by : (x : Option ThreadState) → thread_in s.threads t ≡ x → Gives Stood (then_some (option_map (λ y. record { work = w; thread = y }) x) (λ h. option_map (put_back s.threads) (f h)))
      by None q = tt
      by (Some y) q =
          over_gives (GoesOn code y) Stood (f (record { work = w; thread = y })) (put_back s.threads) (go y)
          (λ h a. set_all P s.threads h.thread held.standing (k.goes t y h.thread q (found_all P s.threads t y held.standing q) a.0 a.1))

  ends : (u : ℕ) (v : Owned) (w : Work) → Gives Stood (deliver_finished u v (record { work = w; threads = s.threads }))
  ends u v w = then_gives Stood (ended w.rest.tasks u v) _ (λ p q. by p.0 p.1)
    where
      by : (ts : List Task) (e : EndedAs) → Gives Stood (end_answer u e (record { work = with_tasks ts w; threads = s.threads }))
      by ts (over.Answer r t b) = held.standing
      by ts (over.Both parent) = at parent (pair_over u) (with_tasks ts w) (λ y. pair_goes code y u (record { work = with_tasks ts w; thread = y }) refl)
      by ts (over.LetGo b) = held.standing
      by ts over.Kept = held.standing

  arrives : (t : ThreadState) (w : Work) → Q n t → Gives Stood (arrive t (record { work = w; threads = s.threads }))
  arrives t w q = stand_gives Stood (thread_in s.threads t.number) t (record { work = w; threads = s.threads }) (with_all P s.threads t held.standing (k.arrives t q))

  delivers : (m : Message) (w : Work) → Parcel Q n m → Gives Stood (deliver_message code m (record { work = w; threads = s.threads }))
  delivers (message.Fetch v b r t) w q = beside (deliver_fetch v b r t) w
  delivers (message.Fetched v c t) w q = at t (deliver_fetched v c) w (λ y. fetched_goes code y v c (record { work = w; thread = y }) refl)
  delivers (message.Move v b r t) w q = beside (deliver_move v b r t) w
  delivers (message.Moved v c t) w q = at t (deliver_moved code v c) w (λ y. moved_goes code y v c (record { work = w; thread = y }) refl)
  delivers (message.Drop v b) w q = beside (deliver_drop v b) w
  delivers (message.Lock m r t) w q = beside (deliver_lock m r t) w
  delivers (message.Granted m v t) w q = at t (deliver_granted m v) w (λ y. granted_goes code y m v (record { work = w; thread = y }) refl)
  delivers (message.Unlock m v) w q = beside (deliver_unlock m v) w
  delivers (message.Dup m r t) w q = beside (deliver_dup m r t) w
  delivers (message.Dupped m t) w q = at t (deliver_dupped m) w (λ y. dupped_goes code y m (record { work = w; thread = y }) refl)
  delivers (message.Release x) w q = beside (release x) w
  delivers (message.Start t) w q = arrives t w q
  delivers (message.Join u r t) w q = beside (deliver_join u r t) w
  delivers (message.Joined u v t) w q = at t (deliver_joined u v) w (λ y. joined_goes code y u v (record { work = w; thread = y }) refl)
  delivers (message.Finished u v) w q = ends u v w
  delivers (message.Migrate t) w q = arrives t w q

  delivering : (i : ℕ) → Gives Then (does code o s (Deliver i))
  delivering i = by (slice_get s.rest.inbox i) refl
    where
      mail : Mailed (Parcel Q) n s.rest.outbox s.rest
      mail = held.mail

      by : (m : Option Message) → slice_get s.rest.inbox i ≡ m → Gives Then (option_map (left_by s.events None None) (then_some m (λ x. deliver_message code x (received i s))))
      by None q = tt
      by (Some m) q =
          let x = received i s in
          together None (deliver_message code m x) (delivers m x.work (all_at (Parcel Q n) s.rest.inbox i m mail.waiting q))
          (message_says (Parcel Q) n s.rest.outbox (replies Q) code m x (record { numbered = refl; waiting = remove_all (Parcel Q n) s.rest.inbox i mail.waiting; leaving = mail.leaving; more = mail.more; appended = mail.appended }))

  -- EVICTIONS AND MIGRATIONS

  evicting : (w : ℕ) → Gives Then (does code o s (Evict w))
  evicting w = together None (beside_threads (evict_copy w) (begin_at s)) (beside (evict_copy w) (begin_work s.rest)) (over_gives (λ (x : Work). Mailed (Parcel Q) n s.rest.outbox x.rest) Posted (evict_copy w (begin_work s.rest)) _ (test_gives (λ (x : Work). Mailed (Parcel Q) n s.rest.outbox x.rest) (can_evict s.rest.cache w) _ (λ q. held.mail)) (λ x b. b))

  leaving : (t target : ℕ) → has_phase is_ready (thread_in s.threads t) ≡ true → Gives Then (does code o s (Migrate t target))
  leaving t target on = by (thread_in s.threads t) refl on
    where
      by : (x : Option ThreadState) → thread_in s.threads t ≡ x → has_phase is_ready x ≡ true
          → Gives Then (option_map (left_by s.events (Some t) None) (then_some x (λ y. option_map (λ p. record { work = depart target (begin_work s.rest) p; threads = without_thread s.threads t }) (pack_thread (record y { moved_since_step = true }) s.rest.cache))))
      by None q z = tt
      by (Some y) q z = packs (unpin_all (used_words y) s.rest.cache)
        where
          packs : (l : Option (List Copy))
              → Gives Then (option_map (left_by s.events (Some t) None) (option_map (λ p. record { work = depart target (begin_work s.rest) p; threads = without_thread s.threads t }) (option_map (λ left. (packed (record y { moved_since_step = true }), left)) l)))
          packs None = tt
          packs (Some cs) = record {
            standing = without_all P s.threads t held.standing;
            mail = mail_sent (Parcel Q) n s.rest.outbox (record s.rest { cache = cs }) target (message.Migrate (packed (record y { moved_since_step = true }))) (k.leaves t target y q (found_all P s.threads t y held.standing q) z) held.mail;
          }

  pub doing : enabled o s what ≡ true → Gives Then (does code o s what)
  doing on = by what refl on
    where
      by : (w : What) → what ≡ w → enabled o s w ≡ true → Gives Then (does code o s w)
      by (Step t) is steps = stepping t is steps
      by (Deliver i) is delivers_it = delivering i
      by (Evict v) is evicts = evicting v
      by (Migrate t target) is leaves = leaving t target (and_left (has_phase is_ready (thread_in s.threads t)) (nat_lt target o.servers && not (target == s.rest.number)) leaves)
