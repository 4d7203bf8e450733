-- A thread leaves for another server (this project's rules).
use Rattle.std.specs.Prelude.{ℕ, true, List, Option, option_map}
use Rattle.place_walk.specs.Below.read_cache.Cache.{Copy}
use Rattle.place_walk.specs.Below.thread_state.View.{ThreadState}
use Rattle.server_msgs.specs.declared.message.Message.TheVariants as message
use Rattle.journal.specs.declared.act.Act.TheVariants as act
use Rattle.server_model.specs.Work.{Work, Site, send, note, with_cache, thread_in, without_thread, then_some}
use Rattle.migration.specs.Packing.{pack_thread}

-- the parcel goes to that server
abbrev pub depart : ℕ → Work → ThreadState × List Copy → Work
depart target w p = send target (message.Migrate p.0) (note (act.Depart p.0.number target) (with_cache p.1 w))

-- the thread leaves for that server; it is noted that it has moved since its last step
abbrev pub migrate : ℕ → ℕ → Site → Option Site
migrate t target x =
    then_some (thread_in x.threads t)
    (λ y. option_map (λ p. record { work = depart target x.work p; threads = without_thread x.threads t }) (pack_thread (record y { moved_since_step = true }) x.work.rest.cache))
