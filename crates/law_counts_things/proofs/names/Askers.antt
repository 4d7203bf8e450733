-- Who asks stands where the answer is to come, and an answer goes there, after each event of a sound cluster.
use Rattle.std.proofs.Common.{◌≡◌, ℕ, ◌+◌, ◌≤◌, ◌==◌, ◌&&◌, ◌||◌, not, is_some, Bool, true, false, if◌then◌else◌, List, [], ◌∷◌, Option, Some, None, IsSome, refl, sym, ap, subst, ◌∙◌, arith}
use Rattle.std.specs.Prelude.{slice_get, option_map}
use Rattle.std.proofs.lemmas.Bool.{eq-eqb}
use Rattle.law_counts_things.proofs.Below.fr_typing.PlaceLemmas.{eq_cases}
use Rattle.law_counts_things.specs.Below.fr_base.declared.instruction.Instr.{Instr}
use Rattle.law_counts_things.specs.Below.join_home.Tasks.{TaskState, asked}
use Rattle.law_counts_things.specs.Below.thread_state.View.{ThreadState}
use Rattle.law_counts_things.specs.Below.thread_state.declared.phase.Phase.{Phase}
use Rattle.law_counts_things.specs.Below.thread_state.declared.phase.Phase.TheVariants as phase
use Rattle.law_counts_things.specs.Below.server_msgs.declared.message.Message.{Message}
use Rattle.law_counts_things.specs.Below.server_msgs.declared.message.Message.TheVariants as message
use Rattle.law_counts_things.specs.Below.journal.View.{EntryView}
use Rattle.law_counts_things.specs.Below.server_model.declared.event.Event.{Event}
use Rattle.law_counts_things.specs.Below.server_model.declared.event.What.{What}
use Rattle.law_counts_things.specs.Below.server_model.declared.event.What.TheVariants.{Step, Deliver, Evict, Migrate}
use Rattle.law_counts_things.specs.Below.server_model.Servers.{Server, Cluster, server_at}
use Rattle.law_counts_things.specs.Below.server_model.Work.{thread_in, then_some}
use Rattle.law_counts_things.specs.Below.server_model.Events.{has_phase, can_step, enabled, does}
use Rattle.law_counts_things.specs.Below.server_model.Events as events
use Rattle.law_counts_things.specs.Below.server_model.Clusters.{with_server, done_at, apply}
use Rattle.law_counts_things.specs.Below.coherent_memory.Names.{tot, one, other}
use Rattle.law_counts_things.specs.Below.coherent_memory.Things.{Thing, sent, stands, queued, noted, standing_things, server_things, servers_things, things_of}
use Rattle.law_counts_things.specs.Below.coherent_memory.Follow.{Standing, threads_in, thread_at}
use Rattle.law_counts_things.specs.Below.coherent_memory.Sight.{sight}
use Rattle.law_counts_things.specs.Below.coherent_memory.Requests.{waits, is_cell, is_lock, is_dup, is_join, in_phase, phase_fits, message_carries, note_carries, carries, in_server, stands_at, lost_answer, lost, asker_message, asker_noted, other_asker, is_got}
use Rattle.law_counts_things.specs.Below.coherent_memory.Walking as walking
use Rattle.law_counts_things.specs.Below.coherent_memory.Weights.{is_thread}
use Rattle.law_counts_things.specs.Below.coherent_memory.Coherent.{IsSound, Holds, return_right, askers_stand}
use Rattle.law_counts_things.proofs.Below.coherent_memory.Names.{and_left, same_number}
use Rattle.law_counts_things.proofs.Below.coherent_memory.Sums.{server_parts}
use Rattle.law_counts_things.specs.Below.law_counts_sums.Laws.{Gives, FewEvents}
use Rattle.law_counts_things.proofs.Below.law_counts_sums.Results.{over_gives, weaker, both_give}
use Rattle.law_counts_things.proofs.Below.law_counts_sums.Askers.{other_none, stands_there}
use Rattle.law_counts_things.proofs.Below.law_counts_sums.Bags.{thread_number}
use Rattle.law_counts_things.proofs.Below.law_counts_sums.StandsHere.{IsWaiting, stands_here}
use Rattle.law_counts_things.proofs.Below.law_counts_sums.Events.{tot-server}
use Rattle.law_counts_things.proofs.Below.law_counts_sums.Applied.{handed_on, handed_part}
use Rattle.law_counts_things.proofs.Below.law_counts_sums.Sending.{each_event_sends}
use Rattle.law_counts_things.specs.things.Laws.{EachEventKeeps}
use Rattle.law_counts_things.proofs.names.Fit.{message_asker}
use Rattle.law_counts_things.proofs.names.Sums.{noted_asker, asked_of}
use Rattle.law_counts_things.proofs.names.Split.{two_le}
use Rattle.law_counts_things.proofs.names.Kept.{Coded, GoneOn, ends_as, number_stays, gone_on}
use Rattle.law_counts_things.proofs.names.Sentences.{asking, asking_before, plain_step, askers_kept}
use Rattle.law_counts_things.proofs.names.Stays.{Stands, Leaves, stays}

-- WHERE A THREAD STANDS

-- it stands at that server, or goes there
abbrev here_as : ℕ → ℕ → Thing → ℕ
here_as t r (stands s p x) = one (x.number == t && s == r)
here_as t r x = 0

here_is_thread : (t r : ℕ) (x : Thing) → here_as t r x ≤ is_thread t x
here_is_thread t r (stands s p x) = by (x.number == t) (s == r)
  where
    by : (a b : Bool) → one (a && b) ≤ one a
    by true true = omega arith
    by true false = omega arith
    by false b = omega arith
here_is_thread t r x = omega arith

all_here : (t r : ℕ) (b : List Thing) → tot (here_as t r) b ≤ tot (is_thread t) b
all_here t r [] = omega arith
all_here t r (x ∷ b) = omega (arith, here_is_thread t r x, all_here t r b)

-- where one such stands it is the one that is found
found_here : (t r : ℕ) (b : List Thing) → tot (is_thread t) b ≤ 1 → 1 ≤ tot (here_as t r) b → in_server r (thread_at (threads_in b) t) ≡ true
found_here t r [] few l = absurd (omega (arith, l))
found_here t r (stands s p x ∷ b) few l =
    eq_cases (λ c. one c + tot (is_thread t) b ≤ 1 → 1 ≤ one (c && s == r) + tot (here_as t r) b → in_server r (if c then Some (record { server = s; packed = p; thread = x }) else thread_at (threads_in b) t) ≡ true) x.number t
    (λ e f g. at (s == r) (omega (arith, f, g, all_here t r b))) (λ ne f g. found_here t r b (omega (arith, f)) (omega (arith, g))) few l
  where
    at : (c : Bool) → 1 ≤ one c → c ≡ true
    at true h = refl
    at false h = absurd (omega (arith, h))
found_here t r (_ ∷ b) few l = found_here t r b (omega (arith, few)) (omega (arith, l))

-- a thread of a server stands there
all_standing_here : (t n i : ℕ) (ts : List ThreadState) → Stands t ts → 1 ≤ tot (here_as t n) (Rattle.law_counts_things.specs.Below.coherent_memory.Things.things_at (standing_things n) i ts)
all_standing_here t n i [] g = absurd (cc g)
all_standing_here t n i (x ∷ ts) g =
    let split = Rattle.law_counts_things.proofs.Below.coherent_memory.Sums.tot-append (here_as t n) (standing_things n i x) (Rattle.law_counts_things.specs.Below.coherent_memory.Things.things_at (standing_things n) (i + 1) ts) in
    eq_cases (λ c. IsSome (if c then Some x else thread_in ts t) → here_as t n (stands n false x) ≡ one (c && n == n) → 1 ≤ tot (here_as t n) (Rattle.law_counts_things.specs.Below.coherent_memory.Things.things_at (standing_things n) i (x ∷ ts))) x.number t
    (λ e h q. let self : one (true && n == n) ≡ 1 = ap one (eq-eqb n n refl) in omega (arith, q, self, split))
    (λ ne h q. omega (arith, all_standing_here t n (i + 1) ts h, split)) g refl

server_here : (t : ℕ) (s : Server) → Stands t s.threads → 1 ≤ tot (here_as t s.rest.number) (server_things s)
server_here t s g = omega (arith, all_standing_here t s.rest.number 0 s.threads g, server_parts (here_as t s.rest.number) s)

server_number : (ss : List Server) (n : ℕ) (s : Server) → server_at ss n ≡ Some s → s.rest.number ≡ n
server_number [] n s h = absurd (cc h)
server_number (x ∷ ss) n s h =
    eq_cases (λ b. (if b then Some x else server_at ss n) ≡ Some s → s.rest.number ≡ n) x.rest.number n
    (λ e d. let same : x ≡ s = cc in subst (λ (y : Server). y.rest.number ≡ n) same e) (λ ne d. server_number ss n s d) h

-- the other servers are as they were
others_at : (ss : List Server) (n : ℕ) (new : Server) (r : ℕ) (s : Server) → new.rest.number ≡ n → (n ≡ r → ⊥) → server_at ss r ≡ Some s → server_at (with_server ss n new) r ≡ Some s
others_at [] n new r s e ne h = absurd (cc h)
others_at (x ∷ ss) n new r s e ne h =
    eq_cases (λ b. server_at (if b then new ∷ ss else x ∷ with_server ss n new) r ≡ Some s) x.rest.number n
    (λ same. skip (new.rest.number == r) refl (over (x.rest.number == r) refl same h))
    (λ n2. eq_cases (λ b. (if b then Some x else server_at ss r) ≡ Some s → (if b then Some x else server_at (with_server ss n new) r) ≡ Some s) x.rest.number r (λ q d. d) (λ q d. others_at ss n new r s e ne d) h)
  where
    over : (b : Bool) → (x.rest.number == r) ≡ b → x.rest.number ≡ n → (if b then Some x else server_at ss r) ≡ Some s → server_at ss r ≡ Some s
    over true q same d = let here : x.rest.number ≡ r = same_number x.rest.number r q in absurd (ne (sym same ∙ here))
    over false q same d = d

    skip : (b : Bool) → (new.rest.number == r) ≡ b → server_at ss r ≡ Some s → (if b then Some new else server_at ss r) ≡ Some s
    skip true q d = let here : new.rest.number ≡ r = same_number new.rest.number r q in absurd (ne (sym e ∙ here))
    skip false q d = d

new_at : (ss : List Server) (n : ℕ) (s new : Server) → new.rest.number ≡ n → server_at ss n ≡ Some s → server_at (with_server ss n new) n ≡ Some new
new_at [] n s new e h = absurd (cc h)
new_at (x ∷ ss) n s new e h =
    eq_cases (λ b. (if b then Some x else server_at ss n) ≡ Some s → server_at (if b then new ∷ ss else x ∷ with_server ss n new) n ≡ Some new) x.rest.number n
    (λ q d. ap (λ b. if b then Some new else server_at ss n) (eq-eqb new.rest.number n e))
    (λ ne d. eq_cases (λ b. (if b then Some x else server_at (with_server ss n new) n) ≡ Some new) x.rest.number n (λ q. absurd (ne q)) (λ q. new_at ss n s new e d)) h

-- WHO ASKS

waiting : IsWaiting waits
waiting = record { unready = unready; ungot = ungot }
  where
    unready : (p : Phase) → waits p ≡ true → walking.is_ready p ≡ false
    unready phase.Ready e = absurd (cc e)
    unready p e = refl

    ungot : (p : Phase) → waits p ≡ true → is_got p ≡ false
    ungot phase.Got e = absurd (cc e)
    ungot p e = refl

abbrev is_step : What → ℕ → Bool
is_step (Step u) t = u == t
is_step e t = false

-- it waits at that server before the event, or the event is its step there
abbrev asks_from : Cluster → Event → ℕ → ℕ → Bool
asks_from k e r t = (in_server r (thread_at (threads_in (things_of k)) t) && in_phase waits (thread_at (threads_in (things_of k)) t)) || (r == e.server && is_step e.what t)

abbrev ask : Cluster → Event → ℕ → ℕ → ℕ
ask k e r t = other (asks_from k e r t)

still_waits : (f : Phase → Bool) → ((p : Phase) → f p ≡ true → waits p ≡ true) → (o : Option Standing) → in_phase f o ≡ true → in_phase waits o ≡ true
still_waits f g None e = absurd (cc e)
still_waits f g (Some x) e = g x.thread.phase e

cell_waits : (w : ℕ) (p : Phase) → is_cell w p ≡ true → waits p ≡ true
cell_waits w (phase.WaitCell v) e = refl
cell_waits w p e = absurd (cc e)

lock_waits : (m : Rattle.law_counts_things.specs.Below.fr_base.declared.name.MutexNo.MutexNo) (p : Phase) → is_lock m p ≡ true → waits p ≡ true
lock_waits m (phase.WaitLock n) e = refl
lock_waits m p e = absurd (cc e)

dup_waits : (m : Rattle.law_counts_things.specs.Below.fr_base.declared.name.MutexNo.MutexNo) (p : Phase) → is_dup m p ≡ true → waits p ≡ true
dup_waits m (phase.WaitDup n) e = refl
dup_waits m p e = absurd (cc e)

join_waits : (t : ℕ) (p : Phase) → is_join t p ≡ true → waits p ≡ true
join_waits t (phase.WaitJoin u) e = refl
join_waits t p e = absurd (cc e)

and_both : (a b : Bool) → a ≡ true → b ≡ true → a && b ≡ true
and_both true true e h = refl
and_both false b e h = absurd (cc e)
and_both true false e h = absurd (cc h)

or_first : (a b : Bool) → a ≡ true → a || b ≡ true
or_first true b e = refl
or_first false b e = absurd (cc e)

or_other : (a b : Bool) → b ≡ true → a || b ≡ true
or_other true b e = refl
or_other false b e = e

module _ (k : Cluster) (e : Event) where
  -- who stands there and waits may ask
  may_ask : (f : Phase → Bool) → ((p : Phase) → f p ≡ true → waits p ≡ true) → (r t : ℕ) → other (stands_at (sight k) t r) ≡ 0 → phase_fits (sight k) t f ≡ 0 → ask k e r t ≡ 0
  may_ask f g r t a p =
      let o = thread_at (threads_in (things_of k)) t in
      ap other (or_first (in_server r o && in_phase waits o) (r == e.server && is_step e.what t) (and_both (in_server r o) (in_phase waits o) (other_none (in_server r o) a) (still_waits f g o (other_none (in_phase f o) p))))

  message_asks : (n : ℕ) (m : Message) → lost_answer (sight k) n m + asker_message (sight k) m ≡ 0 → message_carries (sight k) m ≡ 0 → message_asker (ask k e) n m ≡ 0
  message_asks n (message.Fetch w o s t) a p = may_ask (is_cell w) (cell_waits w) s t (omega (arith, a)) p
  message_asks n (message.Fetched w c t) a p = may_ask (is_cell w) (cell_waits w) n t (omega (arith, a)) p
  message_asks n (message.Move w o s t) a p = may_ask (is_cell w) (cell_waits w) s t (omega (arith, a)) p
  message_asks n (message.Moved w c t) a p = may_ask (is_cell w) (cell_waits w) n t (omega (arith, a)) p
  message_asks n (message.Lock m s t) a p = may_ask (is_lock m) (lock_waits m) s t (omega (arith, a)) p
  message_asks n (message.Granted m v t) a p = may_ask (is_lock m) (lock_waits m) n t (omega (arith, a)) p
  message_asks n (message.Dup m s t) a p = may_ask (is_dup m) (dup_waits m) s t (omega (arith, a)) p
  message_asks n (message.Dupped m t) a p = may_ask (is_dup m) (dup_waits m) n t (omega (arith, a)) p
  message_asks n (message.Join u s t) a p = may_ask (is_join u) (join_waits u) s t (omega (arith, a)) p
  message_asks n (message.Joined u v t) a p = may_ask (is_join u) (join_waits u) n t (omega (arith, a)) p
  message_asks n (message.Drop w o) a p = refl
  message_asks n (message.Unlock m v) a p = refl
  message_asks n (message.Release x) a p = refl
  message_asks n (message.Start t) a p = refl
  message_asks n (message.Finished u v) a p = refl
  message_asks n (message.Migrate t) a p = refl

  note_asks : (u : ℕ) (s : TaskState) → asker_noted (sight k) s ≡ 0 → note_carries (sight k) u s ≡ 0 → noted_asker (ask k e) s ≡ 0
  note_asks u (asked r t) a p = may_ask (is_join u) (join_waits u) r t a p
  note_asks u s a p = refl

  thing_asks : (x : Thing) → lost (sight k) x + other_asker (sight k) x ≡ 0 → carries (sight k) x ≡ 0 → asked_of (ask k e) x ≡ 0
  thing_asks (sent n m) a p = message_asks n m (omega (arith, a)) p
  thing_asks (queued m r t) a p = may_ask (is_lock m) (lock_waits m) r t (omega (arith, a)) p
  thing_asks (noted r x) a p = note_asks x.thread x.state (omega (arith, a)) p
  thing_asks x a p = refl

  all_ask : (b : List Thing) → tot (lost (sight k)) b + tot (other_asker (sight k)) b ≡ 0 → tot (carries (sight k)) b ≡ 0 → tot (asked_of (ask k e)) b ≡ 0
  all_ask [] a p = refl
  all_ask (x ∷ b) a p =
      let here = thing_asks x (omega (arith, a)) (omega (arith, p)) in
      omega (arith, here, all_ask b (omega (arith, a)) (omega (arith, p)))

-- AFTER THE EVENT

pub all_give : {X I : Type 0} (P : I → Type 0) (Q : I → X → Type 0) (o : Option X) → ((i : I) → P i → Gives (Q i) o) → Gives (λ x. (i : I) → P i → Q i x) o
all_give P Q None f = tt
all_give P Q (Some x) f = f

or_cases : (a b : Bool) (P : Type 0) → a || b ≡ true → (a ≡ true → P) → (b ≡ true → P) → P
or_cases true b P e f g = f refl
or_cases false b P e f g = g e

right_of : (a b : Bool) → a && b ≡ true → b ≡ true
right_of true b e = e
right_of false b e = absurd (cc e)

is_so : (b : Bool) → other b ≡ 0 → b ≡ true
is_so true z = refl
is_so false z = absurd (cc z)

phase_there : (f : Phase → Bool) (o : Option ThreadState) → has_phase f o ≡ true → IsSome o
phase_there f None e = absurd (cc e)
phase_there f (Some y) e = refl

has_server : (o : Option Server) → IsSome o → (s : Server) × (o ≡ Some s)
has_server None h = absurd (cc h)
has_server (Some s) h = (s, refl)

not_ready : (p : Phase) → waits p ≡ true → events.is_ready p ≡ true → ⊥
not_ready phase.Ready w e = cc w
not_ready p w e = cc e

module _ (k : Cluster) (e : Event) (sound : IsSound k) (few : FewEvents k) where
  abbrev b : List Thing
  b = things_of k

  askers_before : tot (asked_of (ask k e)) b ≡ 0
  askers_before =
      let returns : tot (lost (sight k)) b ≡ 0 = sound.requests.return_right in
      let asks : tot (other_asker (sight k)) b ≡ 0 = sound.requests.askers_stand in
      let carried : tot (carries (sight k)) b ≡ 0 = sound.requests.carry_what_is_asked in
      all_ask k e b (omega (arith, returns, asks)) carried

  -- the thread that steps may ask
  steps_ask : (s : Server) → server_at k.servers e.server ≡ Some s → (t : ℕ) (y : ThreadState) → e.what ≡ Step t → thread_in s.threads t ≡ Some y → ask k e s.rest.number y.number ≡ 0
  steps_ask s here t y q there =
      let mine : is_step e.what y.number ≡ true = ap (λ w. is_step w y.number) q ∙ eq-eqb t y.number (sym (thread_number s.threads t y there)) in
      let o = thread_at (threads_in b) y.number in
      ap other (or_other (in_server s.rest.number o && in_phase waits o) (s.rest.number == e.server && is_step e.what y.number) (and_both (s.rest.number == e.server) (is_step e.what y.number) (eq-eqb s.rest.number e.server (server_number k.servers e.server s here)) mine))

  -- it stands at a server of that number
  abbrev StandsIn : List Server → ℕ → ℕ → Type 0
  StandsIn ss r t = (s : Server) × (server_at ss r ≡ Some s) × Stands t s.threads

  in_servers : (ss : List Server) (r t : ℕ) → StandsIn ss r t → 1 ≤ tot (here_as t r) (servers_things ss)
  in_servers ss r t g =
      let s = g.0 in
      let here : 1 ≤ tot (here_as t r) (server_things s) = subst (λ n. 1 ≤ tot (here_as t n) (server_things s)) (server_number ss r s (g.1)) (server_here t s (g.2)) in
      omega (arith, here, (tot-server (here_as t r) ss r s s (g.1)).0)

  module _ (s : Server) (here : server_at k.servers e.server ≡ Some s) (on : enabled k.options s e.what ≡ true) (new : Server) (number : new.rest.number ≡ s.rest.number)
      (go : (t : ℕ) → ((Leaves t e.what → ⊥) × Stands t s.threads) → Stands t new.threads) where
    abbrev after : List Server
    after = with_server k.servers e.server new

    numbered : new.rest.number ≡ e.server
    numbered = number ∙ server_number k.servers e.server s here

    -- at the server of the event
    stands_new : (t : ℕ) → (Leaves t e.what → ⊥) → Stands t s.threads → StandsIn after e.server t
    stands_new t n h = (new, new_at k.servers e.server s new numbered here, go t (n, h))

    steps_on : (w : What) → e.what ≡ w → (t : ℕ) → is_step w t ≡ true → StandsIn after e.server t
    steps_on (Step u) q t i =
        let same : u ≡ t = same_number u t i in
        let phase : has_phase can_step (thread_in s.threads t) ≡ true = subst (λ n. has_phase can_step (thread_in s.threads n) ≡ true) same (subst (λ w. enabled k.options s w ≡ true) q on) in
        stands_new t (λ l. subst (Leaves t) q l) (phase_there can_step (thread_in s.threads t) phase)
    steps_on (Deliver i) q t h = absurd (cc h)
    steps_on (Evict v) q t h = absurd (cc h)
    steps_on (Migrate u target) q t h = absurd (cc h)

    -- who waits doesn't leave
    stays_there : (w : What) → e.what ≡ w → (t : ℕ) (y : ThreadState) → thread_in s.threads t ≡ Some y → waits y.phase ≡ true → Leaves t w → ⊥
    stays_there (Migrate u target) q t y there wait l =
        let on2 : has_phase events.is_ready (thread_in s.threads u) ≡ true = and_left (has_phase events.is_ready (thread_in s.threads u)) _ (subst (λ w. enabled k.options s w ≡ true) q on) in
        let mine : has_phase events.is_ready (thread_in s.threads t) ≡ true = subst (λ n. has_phase events.is_ready (thread_in s.threads n) ≡ true) l on2 in
        not_ready y.phase wait (subst (λ o. has_phase events.is_ready o ≡ true) there mine)
    stays_there (Step u) q t y there wait l = l
    stays_there (Deliver i) q t y there wait l = l
    stays_there (Evict v) q t y there wait l = l

    waits_on : (r t : ℕ) → in_server r (thread_at (threads_in b) t) ≡ true → in_phase waits (thread_at (threads_in b) t) ≡ true → StandsIn after r t
    waits_on r t at phase =
        let there = has_server (server_at k.servers r) (stands_there k sound t r at) in
        let x = there.0 in
        let n = server_number k.servers r x (there.1) in
        let found = stands_here k sound r x (there.1) t waits waiting (subst (λ m. in_server m (thread_at (threads_in b) t) ≡ true) (sym n) at) phase in
        let y = found.0 in
        let wait : waits y.phase ≡ true = and_left (waits y.phase) (not (is_some y.gift)) (right_of (not false) (waits y.phase && not (is_some y.gift)) (right_of (x.rest.number == x.rest.number) (not false && (waits y.phase && not (is_some y.gift))) (found.2))) in
        let upon : Stands t x.threads = ap is_some (found.1) in
        by (e.server == r) refl x (there.1) y (found.1) wait upon
      where
        by : (q : Bool) → (e.server == r) ≡ q → (x : Server) → server_at k.servers r ≡ Some x → (y : ThreadState) → thread_in x.threads t ≡ Some y → waits y.phase ≡ true → Stands t x.threads → StandsIn after r t
        by true q x h y found wait upon =
            let same : e.server ≡ r = same_number e.server r q in
            let mine : Some x ≡ Some s = sym h ∙ ap (server_at k.servers) (sym same) ∙ here in
            let is : x ≡ s = cc in
            let there : thread_in s.threads t ≡ Some y = subst (λ (z : Server). thread_in z.threads t ≡ Some y) is found in
            subst (λ n. StandsIn after n t) same (stands_new t (stays_there e.what refl t y there wait) (subst (λ (z : Server). Stands t z.threads) is upon))
        by false q x h y found wait upon = (x, others_at k.servers e.server new r x numbered (λ p. apart p) h, upon)
          where
            apart : e.server ≡ r → ⊥
            apart p = let is : (e.server == r) ≡ true = eq-eqb e.server r p in absurd (cc (sym is ∙ q))

    stands_after : (r t : ℕ) → ask k e r t ≡ 0 → 1 ≤ tot (here_as t r) (servers_things after)
    stands_after r t z =
        let o = thread_at (threads_in b) t in
        in_servers after r t
        (or_cases (in_server r o && in_phase waits o) (r == e.server && is_step e.what t) (StandsIn after r t) (is_so (asks_from k e r t) z)
        (λ w. waits_on r t (and_left (in_server r o) (in_phase waits o) w) (right_of (in_server r o) (in_phase waits o) w))
        (λ w.
        let same : e.server ≡ r = number_is (and_left (r == e.server) (is_step e.what t) w) in
        subst (λ n. StandsIn after n t) same (steps_on e.what refl t (right_of (r == e.server) (is_step e.what t) w))))
      where
        number_is : (r == e.server) ≡ true → e.server ≡ r
        number_is q = sym (same_number r e.server q)

-- THE CLUSTER AFTERWARDS

other_le : (a b : Bool) → (b ≡ true → a ≡ true) → other a ≤ other b
other_le a true f = omega (arith, ap other (f refl))
other_le true false f = omega arith
other_le false false f = omega arith

module _ (k : Cluster) (e : Event) (c : Cluster) (numbers : (t : ℕ) → tot (is_thread t) (things_of c) ≤ 1) (standing : (r t : ℕ) → ask k e r t ≡ 0 → 1 ≤ tot (here_as t r) (things_of c)) where
  asks_le : (r t : ℕ) → other (stands_at (sight c) t r) ≤ ask k e r t
  asks_le r t = other_le (stands_at (sight c) t r) (asks_from k e r t) (λ q. found_here t r (things_of c) (numbers t) (standing r t (ap other q)))

  message_le : (n : ℕ) (m : Message) → lost_answer (sight c) n m + asker_message (sight c) m ≤ message_asker (ask k e) n m
  message_le n (message.Fetch w o s t) = omega (arith, asks_le s t)
  message_le n (message.Fetched w d t) = omega (arith, asks_le n t)
  message_le n (message.Move w o s t) = omega (arith, asks_le s t)
  message_le n (message.Moved w d t) = omega (arith, asks_le n t)
  message_le n (message.Lock m s t) = omega (arith, asks_le s t)
  message_le n (message.Granted m v t) = omega (arith, asks_le n t)
  message_le n (message.Dup m s t) = omega (arith, asks_le s t)
  message_le n (message.Dupped m t) = omega (arith, asks_le n t)
  message_le n (message.Join u s t) = omega (arith, asks_le s t)
  message_le n (message.Joined u v t) = omega (arith, asks_le n t)
  message_le n (message.Drop w o) = omega arith
  message_le n (message.Unlock m v) = omega arith
  message_le n (message.Release x) = omega arith
  message_le n (message.Start t) = omega arith
  message_le n (message.Finished u v) = omega arith
  message_le n (message.Migrate t) = omega arith

  note_le : (s : TaskState) → asker_noted (sight c) s ≤ noted_asker (ask k e) s
  note_le (asked r t) = asks_le r t
  note_le s = omega arith

  thing_le : (x : Thing) → lost (sight c) x + other_asker (sight c) x ≤ asked_of (ask k e) x
  thing_le (sent n m) = message_le n m
  thing_le (queued m r t) = omega (arith, asks_le r t)
  thing_le (noted r x) = omega (arith, note_le x.state)
  thing_le x = omega arith

  both_none : tot (asked_of (ask k e)) (things_of c) ≡ 0 → tot (lost (sight c)) (things_of c) + tot (other_asker (sight c)) (things_of c) ≡ 0
  both_none z = omega (arith, two_le (lost (sight c)) (other_asker (sight c)) (asked_of (ask k e)) thing_le (things_of c), z)

-- both sentences
abbrev Asked : Cluster → Type 0
Asked c = tot (lost (sight c)) (things_of c) + tot (other_asker (sight c)) (things_of c) ≡ 0

module _ (k : Cluster) (e : Event) (sound : IsSound k) (few : FewEvents k) where
  known_step : (s : Server) → server_at k.servers e.server ≡ Some s → (t : ℕ) (y : ThreadState) (i : Instr) → e.what ≡ Step t → thread_in s.threads t ≡ Some y → slice_get k.code y.pc ≡ Some i → enabled k.options s e.what ≡ true → Coded k (asking (ask k e)) s i y
  known_step s here t y i q there at on = plain_step k (ask k e) s i y (steps_ask k e sound few s here t y q there)

  -- who may ask stands there
  abbrev AskersStand : Cluster → Type 0
  AskersStand c = (r t : ℕ) → ask k e r t ≡ 0 → 1 ≤ tot (here_as t r) (things_of c)

  acted : (o : Option Server) → server_at k.servers e.server ≡ o → Gives (λ (x : Cluster × EntryView). AskersStand x.0) (then_some o (λ s. option_map (λ x. (record k { servers = with_server k.servers e.server x.0 }, x.1)) (done_at k e.what s)))
  acted None q = tt
  acted (Some s) q = by (enabled k.options s e.what) refl
    where
      by : (on : Bool) → enabled k.options s e.what ≡ on
          → Gives (λ (x : Cluster × EntryView). AskersStand x.0) (option_map (λ x. (record k { servers = with_server k.servers e.server x.0 }, x.1)) (if on then does k.code k.options s e.what else None))
      by false on = tt
      by true on =
          over_gives (λ (r : Server × EntryView). (r.0.rest.number ≡ s.rest.number) × ((t : ℕ) → ((Leaves t e.what → ⊥) × Stands t s.threads) → Stands t r.0.threads)) (λ (x : Cluster × EntryView). AskersStand x.0) (does k.code k.options s e.what) _
          (both_give (λ (r : Server × EntryView). r.0.rest.number ≡ s.rest.number) (λ (r : Server × EntryView). (t : ℕ) → ((Leaves t e.what → ⊥) × Stands t s.threads) → Stands t r.0.threads) _ (does k.code k.options s e.what)
          (number_stays k e (asking (ask k e)) sound few (asking_before k (ask k e) (askers_before k e sound few)) known_step s q on)
          (all_give (λ t. (Leaves t e.what → ⊥) × Stands t s.threads) (λ t (r : Server × EntryView). Stands t r.0.threads) (does k.code k.options s e.what) (λ t p. stays t k.code k.options s e.what p.0 p.1)) (λ r n g. (n, g)))
          (λ r g. stands_after k e sound few s q on r.0 g.0 g.1)

  standing_on : Gives (λ (x : Cluster × EntryView). AskersStand x.0) (apply k e)
  standing_on = handed_on AskersStand (λ c x y same g r t z. omega (arith, same (here_as t r), g r t z)) k e (each_event_sends k e sound few) (acted (server_at k.servers e.server) refl)

  asked_on : Gives (λ (x : Cluster × EntryView). Asked x.0) (apply k e)
  asked_on =
      let j = ends_as k e (server_at k.servers e.server) in
      both_give (λ (x : Cluster × EntryView). GoneOn k (asking (ask k e)) j x.0) (λ (x : Cluster × EntryView). AskersStand x.0 × ((t : ℕ) → tot (is_thread t) (things_of x.0) ≤ 1)) (λ (x : Cluster × EntryView). Asked x.0) (apply k e)
      (gone_on k e (asking (ask k e)) sound few (asking_before k (ask k e) (askers_before k e sound few)) known_step)
      (both_give (λ (x : Cluster × EntryView). AskersStand x.0) (λ (x : Cluster × EntryView). (t : ℕ) → tot (is_thread t) (things_of x.0) ≤ 1) _ (apply k e) standing_on
      (handed_part (λ c. (t : ℕ) → tot (is_thread t) (things_of c) ≤ 1) (λ c sums. sums.numbers_differ) k e sound few (each_event_sends k e sound few)) (λ x p q. (p, q)))
      (λ x g p. both_none k e x.0 p.1 p.0 (askers_kept k (asking (ask k e)) j x.0 g))

pub returns_kept : EachEventKeeps return_right
returns_kept k e sound few = weaker (λ (x : Cluster × EntryView). Asked x.0) (λ (x : Cluster × EntryView). Holds x.0 return_right) (apply k e) (asked_on k e sound few) (λ x g. omega (arith, g))

pub askers_stay : EachEventKeeps askers_stand
askers_stay k e sound few = weaker (λ (x : Cluster × EntryView). Asked x.0) (λ (x : Cluster × EntryView). Holds x.0 askers_stand) (apply k e) (asked_on k e sound few) (λ x g. omega (arith, g))
