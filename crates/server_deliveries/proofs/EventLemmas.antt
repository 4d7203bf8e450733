-- How an event begins at its server.
use Rattle.std.proofs.Common.{◌≡◌, ℕ, List, [], Option, Some, IfSome, option_map, sym, ap, subst, ◌∙◌}
use Rattle.std.specs.Prelude.{slice_get}
use Rattle.fr_base.specs.declared.instruction.Instr.{Instr}
use Rattle.rank_map.specs.Places.{Place}
use Rattle.read_cache.specs.View.{has_place}
use Rattle.thread_state.specs.View.{ThreadView}
use Rattle.server_msgs.specs.declared.message.Message.{Message}
use Rattle.server_msgs.specs.declared.message.Message.TheVariants as message
use Rattle.server_model.specs.Servers.{Server, Rest}
use Rattle.server_model.specs.Work.{Work, Site, receive, then_some, beside_threads}
use Rattle.server_model.specs.Events.{begin_work, begin_at, received, deliver, deliver_message, evict_copy}
use Rattle.server_parts.specs.Sites.{site}
use Rattle.server_deliveries.specs.Taking.{CanTake}
use Rattle.server_deliveries.specs.Standing.{standing}
use Rattle.server_parts.specs.Threads.{states}
use Rattle.server_parts.specs.Works.{WorkView}

-- what a message needs lies in the copies, their room and the threads
pub still_ready : (m : Message) (x y : WorkView) (ps : List (Place ThreadView)) → x.copies ≡ y.copies → x.state.rest.cache ≡ y.state.rest.cache → CanTake m x ps → CanTake m y ps
still_ready (message.Fetched w c t) x y ps rooms copies h =
    (sym (ap (λ r. has_place (record { state = x.state.rest.cache; rooms = r }) w) rooms ∙ ap (λ s. has_place (record { state = s; rooms = y.copies }) w) copies) ∙ h.0, h.1)
still_ready (message.Moved w c t) x y ps rooms copies h = h
still_ready (message.Start p) x y ps rooms copies h = h
still_ready (message.Migrate p) x y ps rooms copies h = h
still_ready (message.Fetch w o s t) x y ps rooms copies h = tt
still_ready (message.Move w o s t) x y ps rooms copies h = tt
still_ready (message.Drop w o) x y ps rooms copies h = tt
still_ready (message.Lock m s t) x y ps rooms copies h = tt
still_ready (message.Granted m v t) x y ps rooms copies h = tt
still_ready (message.Unlock m v) x y ps rooms copies h = tt
still_ready (message.Dup m s t) x y ps rooms copies h = tt
still_ready (message.Dupped m t) x y ps rooms copies h = tt
still_ready (message.Release r) x y ps rooms copies h = tt
still_ready (message.Join u s b) x y ps rooms copies h = tt
still_ready (message.Joined u v b) x y ps rooms copies h = tt
still_ready (message.Finished u v) x y ps rooms copies h = tt

-- nothing is done yet where no act and no label is noted
pub begins : (w : Work) → w.acts ≡ [] → w.labels ≡ [] → w ≡ begin_work w.rest
begins w acts labels = ap (λ a. record w { acts = a }) acts ∙ ap (λ l. record w { acts = []; labels = l }) labels

pub begins_at : (w : WorkView) (ps : List (Place ThreadView)) (n : ℕ) → w.state.acts ≡ [] → w.state.labels ≡ [] → site w ps ≡ begin_at (standing w ps n)
begins_at w ps n acts labels = ap (λ s. record { work = s; threads = states ps }) (begins w.state acts labels)

-- the message at that place is taken out
pub begins_received : (w x : WorkView) (ps : List (Place ThreadView)) (n i : ℕ) → w.state.acts ≡ [] → w.state.labels ≡ [] → x.state ≡ record w.state { rest = receive w.state.rest i } → site x ps ≡ received i (standing w ps n)
begins_received w x ps n i acts labels is = ap back (is ∙ taken)
  where
    back : Work → Site
    back s = record { work = s; threads = states ps }

    with_rest : Rest → Work → Work
    with_rest r s = record s { rest = r }

    taken : with_rest (receive w.state.rest i) w.state ≡ begin_work (receive w.state.rest i)
    taken = ap (with_rest (receive w.state.rest i)) (begins w.state acts labels)

pub delivers : (code : List Instr) (i : ℕ) (s : Server) (m : Message) → slice_get s.rest.inbox i ≡ Some m → deliver code i s ≡ deliver_message code m (received i s)
delivers code i s m is = ap (λ o. then_some o (λ n. deliver_message code n (received i s))) is

pub ready_there : (o : Option Message) (m : Message) (P : Message → Type 0) → o ≡ Some m → IfSome o P → P m
ready_there o m P is h = subst (λ p. IfSome p P) is h

-- a delivery is what the message does once it is taken out
pub begins_delivery : (code : List Instr) (w x : WorkView) (ps : List (Place ThreadView)) (n i : ℕ) (m : Message) → w.state.acts ≡ [] → w.state.labels ≡ [] → slice_get w.state.rest.inbox i ≡ Some m → x.state ≡ record w.state { rest = receive w.state.rest i }
    → deliver code i (standing w ps n) ≡ deliver_message code m (site x ps)
begins_delivery code w x ps n i m acts labels there is =
    delivers code i (standing w ps n) m there ∙ ap (λ s. deliver_message code m s) (sym (begins_received w x ps n i acts labels is))

-- what it needs is still there
pub ready_delivery : (w x : WorkView) (ps : List (Place ThreadView)) (i : ℕ) (m : Message) → slice_get w.state.rest.inbox i ≡ Some m → x.state ≡ record w.state { rest = receive w.state.rest i } → x.copies ≡ w.copies
    → IfSome (slice_get w.state.rest.inbox i) (λ k. CanTake k w ps) → CanTake m x ps
ready_delivery w x ps i m there is rooms h =
    still_ready m w x ps (sym rooms) (sym (ap (λ s. s.rest.cache) is)) (ready_there (slice_get w.state.rest.inbox i) m (λ k. CanTake k w ps) there h)

-- an eviction is what it does to the work alone
pub begins_eviction : (c : ℕ) (w : WorkView) (ps : List (Place ThreadView)) (n : ℕ) → w.state.acts ≡ [] → w.state.labels ≡ [] → beside_threads (evict_copy c) (begin_at (standing w ps n)) ≡ option_map (λ v. record { work = v; threads = states ps }) (evict_copy c w.state)
begins_eviction c w ps n acts labels = ap beside_threads_of (sym (begins w.state acts labels))
  where
    back : Work → Site
    back v = record { work = v; threads = states ps }

    beside_threads_of : Work → Option Site
    beside_threads_of s = option_map back (evict_copy c s)
