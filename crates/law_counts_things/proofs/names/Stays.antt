-- A thread that doesn't leave stays where it stands, whatever event is done.
use Rattle.std.proofs.Common.{◌≡◌, ℕ, ◌==◌, Bool, true, false, nat_lt, if◌then◌else◌, List, [], ◌∷◌, Option, Some, None, IsSome, refl, subst, arith}
use Rattle.std.specs.Prelude.{slice_get, option_map}
use Rattle.std.proofs.lemmas.Bool.Decides.{nat_tests}
use Rattle.law_counts_things.proofs.Below.fr_typing.PlaceLemmas.{eq_cases}
use Rattle.law_counts_things.specs.Below.fr_base.declared.instruction.Instr.{Instr}
use Rattle.law_counts_things.specs.Below.fr_base.declared.settings.Options.{Options}
use Rattle.law_counts_things.specs.Below.heap_partition.declared.value.Owned.{Owned}
use Rattle.law_counts_things.specs.Below.join_home.Tasks.{Task, ended}
use Rattle.law_counts_things.specs.Below.join_home.declared.answers.EndedAs.{EndedAs}
use Rattle.law_counts_things.specs.Below.join_home.declared.answers.EndedAs.TheVariants as over
use Rattle.law_counts_things.specs.Below.migration.Packing.{pack_thread}
use Rattle.law_counts_things.specs.Below.thread_state.View.{ThreadState}
use Rattle.law_counts_things.specs.Below.server_msgs.declared.message.Message.{Message}
use Rattle.law_counts_things.specs.Below.server_msgs.declared.message.Message.TheVariants as message
use Rattle.law_counts_things.specs.Below.journal.View.{EntryView}
use Rattle.law_counts_things.specs.Below.server_model.declared.event.What.{What}
use Rattle.law_counts_things.specs.Below.server_model.declared.event.What.TheVariants.{Step, Deliver, Evict, Migrate}
use Rattle.law_counts_things.specs.Below.server_model.Servers.{Server}
use Rattle.law_counts_things.specs.Below.server_model.Work.{Work, Hand, Site, thread_in, set_thread, without_thread, with_thread, at_thread, beside_threads, with_tasks}
use Rattle.law_counts_things.specs.Below.server_model.Objects.{deliver_fetch, deliver_fetched, deliver_move, deliver_moved, deliver_drop}
use Rattle.law_counts_things.specs.Below.server_model.Sharing.{deliver_lock, deliver_granted, deliver_unlock, deliver_dup, deliver_dupped}
use Rattle.law_counts_things.specs.Below.server_model.Joining.{deliver_join, deliver_joined, pair_over, end_answer, deliver_finished}
use Rattle.law_counts_things.specs.Below.server_model.Events.{begin_at, left_by, received, release, deliver_message, evict_copy, stepped, does}
use Rattle.law_counts_things.specs.Below.law_counts_sums.Laws.{Gives}
use Rattle.law_counts_things.proofs.Below.law_counts_sums.Results.{then_gives, map_gives, over_gives, stand_gives}

module _ (t : ℕ) where
  -- it stands there
  abbrev pub Stands : List ThreadState → Type 0
  Stands ts = IsSome (thread_in ts t)

  either : (b : Bool) (x y : ThreadState) (o : Option ThreadState) → IsSome (if b then Some x else o) → IsSome (if b then Some y else o)
  either true x y o g = refl
  either false x y o g = g

  behind : (b : Bool) (x : ThreadState) (o p : Option ThreadState) → (IsSome o → IsSome p) → IsSome (if b then Some x else o) → IsSome (if b then Some x else p)
  behind true x o p go g = refl
  behind false x o p go g = go g

  before : (b : Bool) (x : ThreadState) (o : Option ThreadState) → IsSome o → IsSome (if b then Some x else o)
  before true x o g = refl
  before false x o g = g

  set_there : (ts : List ThreadState) (new : ThreadState) → Stands ts → Stands (set_thread ts new)
  set_there [] new g = g
  set_there (x ∷ ts) new g =
      eq_cases (λ b. Stands (if b then new ∷ ts else x ∷ set_thread ts new)) x.number new.number
      (λ e. either (new.number == t) x new (thread_in ts t) (subst (λ n. IsSome (if n == t then Some x else thread_in ts t)) e g))
      (λ ne. behind (x.number == t) x (thread_in ts t) (thread_in (set_thread ts new) t) (set_there ts new) g)

  with_there : (ts : List ThreadState) (new : ThreadState) → Stands ts → Stands (with_thread ts new)
  with_there [] new g = absurd (cc g)
  with_there (x ∷ ts) new g = by (nat_lt new.number x.number) (behind (x.number == t) x (thread_in ts t) (thread_in (with_thread ts new) t) (with_there ts new) g)
    where
      by : (b : Bool) → Stands (x ∷ with_thread ts new) → Stands (if b then new ∷ x ∷ ts else x ∷ with_thread ts new)
      by true h = before (new.number == t) new (thread_in (x ∷ ts) t) g
      by false h = h

  without_there : (ts : List ThreadState) (u : ℕ) → (u ≡ t → ⊥) → Stands ts → Stands (without_thread ts u)
  without_there [] u ne g = g
  without_there (x ∷ ts) u ne g =
      eq_cases (λ b. Stands (if b then ts else x ∷ without_thread ts u)) x.number u
      (λ e. later (x.number == t) refl (λ q. ne (trans e q)) g)
      (λ n. behind (x.number == t) x (thread_in ts t) (thread_in (without_thread ts u) t) (without_there ts u ne) g)
    where
      trans : x.number ≡ u → x.number ≡ t → u ≡ t
      trans a b = subst (λ n. n ≡ t) a b

      later : (b : Bool) → (x.number == t) ≡ b → (x.number ≡ t → ⊥) → IsSome (if b then Some x else thread_in ts t) → Stands ts
      later true e n h = absurd (n (grind (arith, nat_tests, e)))
      later false e n h = h

  -- DELIVERIES

  abbrev Stood : Site → Type 0
  Stood x = Stands x.threads

  beside : (f : Work → Option Work) (x : Site) → Stood x → Gives Stood (beside_threads f x)
  beside f x g = map_gives Stood (f x.work) _ (λ w q. g)

  at : (u : ℕ) (f : Hand → Option Hand) (x : Site) → Stood x → Gives Stood (at_thread u f x)
  at u f x g = then_gives Stood (option_map (λ y. record { work = x.work; thread = y }) (thread_in x.threads u)) _ (λ h q. map_gives Stood (f h) _ (λ h2 r. set_there x.threads h2.thread g))

  finishes : (u : ℕ) (v : Owned) (x : Site) → Stood x → Gives Stood (deliver_finished u v x)
  finishes u v x g = then_gives Stood (ended x.work.rest.tasks u v) _ (λ p q. by p.0 p.1)
    where
      by : (ts : List Task) (e : EndedAs) → Gives Stood (end_answer u e (record x { work = with_tasks ts x.work }))
      by ts (over.Answer s r b) = g
      by ts (over.Both parent) = at parent (pair_over u) (record x { work = with_tasks ts x.work }) g
      by ts (over.LetGo b) = g
      by ts over.Kept = g

  delivers : (code : List Instr) (m : Message) (x : Site) → Stood x → Gives Stood (deliver_message code m x)
  delivers code (message.Fetch v o s u) x g = beside (deliver_fetch v o s u) x g
  delivers code (message.Fetched v c u) x g = at u (deliver_fetched v c) x g
  delivers code (message.Move v o s u) x g = beside (deliver_move v o s u) x g
  delivers code (message.Moved v c u) x g = at u (deliver_moved code v c) x g
  delivers code (message.Drop v o) x g = beside (deliver_drop v o) x g
  delivers code (message.Lock m s u) x g = beside (deliver_lock m s u) x g
  delivers code (message.Granted m v u) x g = at u (deliver_granted m v) x g
  delivers code (message.Unlock m v) x g = beside (deliver_unlock m v) x g
  delivers code (message.Dup m s u) x g = beside (deliver_dup m s u) x g
  delivers code (message.Dupped m u) x g = at u (deliver_dupped m) x g
  delivers code (message.Release r) x g = beside (release r) x g
  delivers code (message.Start p) x g = stand_gives Stood (thread_in x.threads p.number) p x (with_there x.threads p g)
  delivers code (message.Join u s b) x g = beside (deliver_join u s b) x g
  delivers code (message.Joined u v b) x g = at b (deliver_joined u v) x g
  delivers code (message.Finished u v) x g = finishes u v x g
  delivers code (message.Migrate p) x g = stand_gives Stood (thread_in x.threads p.number) p x (with_there x.threads p g)

  -- ALL EVENTS

  -- the event moves that thread to another server
  abbrev pub Leaves : What → Type 0
  Leaves (Migrate u target) = u ≡ t
  Leaves e = ⊥

  abbrev Then : Server × EntryView → Type 0
  Then r = Stands r.0.threads

  pub stays : (code : List Instr) (o : Options) (s : Server) (e : What) → (Leaves e → ⊥) → Stands s.threads → Gives Then (does code o s e)
  stays code o s (Step u) n g = map_gives Then _ (stepped s) (λ d q. set_there s.threads d.hand.thread g)
  stays code o s (Deliver i) n g = over_gives Stood Then _ (left_by s.events None None) (then_gives Stood (slice_get s.rest.inbox i) (λ m. deliver_message code m (received i s)) (λ m q. delivers code m (received i s) g)) (λ x h. h)
  stays code o s (Evict v) n g = over_gives Stood Then _ (left_by s.events None None) (beside (evict_copy v) (begin_at s) g) (λ x h. h)
  stays code o s (Migrate u target) n g =
      over_gives Stood Then _ (left_by s.events (Some u) None)
      (then_gives Stood (thread_in s.threads u) _ (λ y q. map_gives Stood (pack_thread (record y { moved_since_step = true }) s.rest.cache) _ (λ p r. without_there s.threads u n g))) (λ x h. h)
