-- Threads stand by rising number, whatever event is done.
use Rattle.std.proofs.Common.{◌≡◌, ℕ, true, List, Option, Some, None, refl}
use Rattle.std.specs.Prelude.{slice_get, option_map}
use Rattle.law_counts_limits.specs.Below.fr_base.declared.instruction.Instr.{Instr}
use Rattle.law_counts_limits.specs.Below.fr_base.declared.settings.Options.{Options}
use Rattle.law_counts_limits.specs.Below.heap_partition.declared.value.Owned.{Owned}
use Rattle.law_counts_limits.specs.Below.join_home.Tasks.{Task, ended}
use Rattle.law_counts_limits.specs.Below.join_home.declared.answers.EndedAs.{EndedAs}
use Rattle.law_counts_limits.specs.Below.join_home.declared.answers.EndedAs.TheVariants as over
use Rattle.law_counts_limits.specs.Below.migration.Packing.{pack_thread}
use Rattle.law_counts_limits.specs.Below.thread_state.View.{ThreadState}
use Rattle.law_counts_limits.specs.Below.server_msgs.declared.message.Message.{Message}
use Rattle.law_counts_limits.specs.Below.server_msgs.declared.message.Message.TheVariants as message
use Rattle.law_counts_limits.specs.Below.journal.View.{EntryView}
use Rattle.law_counts_limits.specs.Below.server_model.declared.event.What.{What}
use Rattle.law_counts_limits.specs.Below.server_model.declared.event.What.TheVariants.{Step, Deliver, Evict, Migrate}
use Rattle.law_counts_limits.specs.Below.server_model.Servers.{Server}
use Rattle.law_counts_limits.specs.Below.server_model.Work.{Work, Hand, Site, thread_in, set_thread, at_thread, beside_threads, with_tasks}
use Rattle.law_counts_limits.specs.Below.server_model.Objects.{deliver_fetch, deliver_fetched, deliver_move, deliver_moved, deliver_drop}
use Rattle.law_counts_limits.specs.Below.server_model.Sharing.{deliver_lock, deliver_granted, deliver_unlock, deliver_dup, deliver_dupped}
use Rattle.law_counts_limits.specs.Below.server_model.Joining.{stand, arrive, deliver_join, deliver_joined, pair_over, end_answer, deliver_finished}
use Rattle.law_counts_limits.specs.Below.server_model.Events.{begin_at, left_by, received, release, deliver_message, evict_copy, stepped, does}
use Rattle.law_counts_limits.specs.Below.law_counts_sums.Laws.{Gives}
use Rattle.law_counts_limits.proofs.Below.law_counts_sums.Results.{then_gives, map_gives, over_gives}
use Rattle.law_types_events.proofs.parts.Rising.{Rises, fewer_rise, same_rise}
use Rattle.law_types_events.proofs.parts.Lists.{number_of, threads_stay, thread_less, comes_rise}

abbrev Stood : Site → Type 0
Stood x = Rises number_of x.threads

-- another state of a thread
set_rise : (ts : List ThreadState) (new : ThreadState) → Rises number_of ts → Rises number_of (set_thread ts new)
set_rise ts new g = same_rise number_of ts (set_thread ts new) (threads_stay ts new) g

-- DELIVERIES

-- what changes no thread
beside : (f : Work → Option Work) (x : Site) → Stood x → Gives Stood (beside_threads f x)
beside f x g = map_gives Stood (f x.work) _ (λ w q. g)

-- what changes one thread
at : (u : ℕ) (f : Hand → Option Hand) (x : Site) → Stood x → Gives Stood (at_thread u f x)
at u f x g = then_gives Stood (option_map (λ y. record { work = x.work; thread = y }) (thread_in x.threads u)) _ (λ h q. map_gives Stood (f h) _ (λ h2 r. set_rise x.threads h2.thread g))

-- a thread comes in its place, where none has its number
arrives : (p : ThreadState) (x : Site) → Stood x → Gives Stood (arrive p x)
arrives p x g = by (thread_in x.threads p.number) refl
  where
    by : (o : Option ThreadState) → thread_in x.threads p.number ≡ o → Gives Stood (stand o p x)
    by None e = comes_rise x.threads p e g
    by (Some y) e = tt

-- a thread has ended
finishes : (u : ℕ) (v : Owned) (x : Site) → Stood x → Gives Stood (deliver_finished u v x)
finishes u v x g = then_gives Stood (ended x.work.rest.tasks u v) _ (λ p q. by p.0 p.1)
  where
    by : (ts : List Task) (e : EndedAs) → Gives Stood (end_answer u e (record x { work = with_tasks ts x.work }))
    by ts (over.Answer s r b) = g
    by ts (over.Both parent) = at parent (pair_over u) (record x { work = with_tasks ts x.work }) g
    by ts (over.LetGo b) = g
    by ts over.Kept = g

-- all messages
delivers : (code : List Instr) (m : Message) (x : Site) → Stood x → Gives Stood (deliver_message code m x)
delivers code (message.Fetch v o s u) x g = beside (deliver_fetch v o s u) x g
delivers code (message.Fetched v c u) x g = at u (deliver_fetched v c) x g
delivers code (message.Move v o s u) x g = beside (deliver_move v o s u) x g
delivers code (message.Moved v c u) x g = at u (deliver_moved code v c) x g
delivers code (message.Drop v o) x g = beside (deliver_drop v o) x g
delivers code (message.Lock m s u) x g = beside (deliver_lock m s u) x g
delivers code (message.Granted m v u) x g = at u (deliver_granted m v) x g
delivers code (message.Unlock m v) x g = beside (deliver_unlock m v) x g
delivers code (message.Dup m s u) x g = beside (deliver_dup m s u) x g
delivers code (message.Dupped m u) x g = at u (deliver_dupped m) x g
delivers code (message.Release r) x g = beside (release r) x g
delivers code (message.Start p) x g = arrives p x g
delivers code (message.Join u s b) x g = beside (deliver_join u s b) x g
delivers code (message.Joined u v b) x g = at b (deliver_joined u v) x g
delivers code (message.Finished u v) x g = finishes u v x g
delivers code (message.Migrate p) x g = arrives p x g

-- ALL EVENTS

abbrev pub Then : Server × EntryView → Type 0
Then r = Rises number_of r.0.threads

-- threads still stand by rising number
pub rise_on : (code : List Instr) (o : Options) (s : Server) (e : What) → Rises number_of s.threads → Gives Then (does code o s e)
rise_on code o s (Step u) g = map_gives Then _ (stepped s) (λ d q. set_rise s.threads d.hand.thread g)
rise_on code o s (Deliver i) g = over_gives Stood Then _ (left_by s.events None None) (then_gives Stood (slice_get s.rest.inbox i) (λ m. deliver_message code m (received i s)) (λ m q. delivers code m (received i s) g)) (λ x h. h)
rise_on code o s (Evict v) g = over_gives Stood Then _ (left_by s.events None None) (beside (evict_copy v) (begin_at s) g) (λ x h. h)
rise_on code o s (Migrate u target) g =
    over_gives Stood Then _ (left_by s.events (Some u) None)
    (then_gives Stood (thread_in s.threads u) _ (λ y q. map_gives Stood (pack_thread (record y { moved_since_step = true }) s.rest.cache) _ (λ p r. fewer_rise number_of (thread_less s.threads u) g))) (λ x h. h)
