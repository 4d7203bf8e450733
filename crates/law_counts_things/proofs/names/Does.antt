-- An event keeps what its server names, where the new names of its instruction fit.
use Rattle.std.proofs.Common.{◌≡◌, sym, subst, ◌+◌, ℕ, Bool, true, false, if◌then◌else◌, List, Option, Some, None, refl}
use Rattle.std.specs.Prelude.{slice_get, option_map}
use Rattle.std.specs.List.{AllByRecursion}
use Rattle.law_counts_things.specs.Below.fr_base.declared.instruction.Instr.{Instr}
use Rattle.law_counts_things.specs.Below.fr_base.declared.settings.Options.{Options}
use Rattle.law_counts_things.specs.Below.read_cache.Cache.{Copy, can_evict, evict, without_copy}
use Rattle.law_counts_things.specs.Below.migration.Packing.{unpin_all, used_words, packed, pack_thread}
use Rattle.law_counts_things.specs.Below.thread_state.View.{ThreadState}
use Rattle.law_counts_things.specs.Below.server_msgs.declared.message.Message.{Message}
use Rattle.law_counts_things.specs.Below.server_msgs.declared.message.Message.TheVariants as message
use Rattle.law_counts_things.specs.Below.journal.View.{EntryView}
use Rattle.law_counts_things.specs.Below.server_model.declared.event.What.{What}
use Rattle.law_counts_things.specs.Below.server_model.declared.event.What.TheVariants.{Step, Deliver, Evict, Migrate}
use Rattle.law_counts_things.specs.Below.server_model.Servers.{Server}
use Rattle.law_counts_things.specs.Below.server_model.Work.{set_thread, Work, Hand, receive, then_some, thread_in, without_thread, beside_threads}
use Rattle.law_counts_things.specs.Below.server_model.Moving.{depart}
use Rattle.law_counts_things.specs.Below.server_model.Events.{Stepped, begin_work, begin_at, left_by, received, deliver_message, evict_copy, step, step_in, stepped, does}
use Rattle.law_counts_things.specs.Below.law_counts_sums.Laws.{Gives}
use Rattle.law_counts_things.proofs.Below.law_counts_sums.Results.{over_gives, test_gives}
use Rattle.law_counts_things.proofs.Below.law_counts_sums.Known.{all_at}
use Rattle.law_counts_things.proofs.things.Threads.{set_all, without_all, found_all, remove_all}
use Rattle.law_counts_things.proofs.names.Fit.{Weights, Closed, CopyFits, ThreadFits, MessageFits, without_fit, unpinned_fit, packed_fits, Base, RestFits}
use Rattle.law_counts_things.proofs.names.Middle.{says_fits, with_copies, taken_up}
use Rattle.law_counts_things.proofs.names.Steps.{creates, after, NewNames, E, step_fits}
use Rattle.law_counts_things.proofs.names.Deliveries.{SiteFits, Served, message_fits}
use Rattle.law_counts_things.proofs.names.Sums.{ServerFits}

-- the instruction of which an event is a step
abbrev pub instr_at : List Instr → List ThreadState → What → Option Instr
instr_at code ts (Step t) = then_some (thread_in ts t) (λ y. slice_get code y.pc)
instr_at code ts e = None

-- what a server is afterwards
abbrev pub final : Base → Option Instr → Base
final b None = b
final b (Some i) = after i b

module _ (w : Weights) (b : Base) (closed : Closed w b.limit) (code : List Instr) (o : Options) (s : Server) (fits : ServerFits w b s) where
  abbrev Then : Base → Server × EntryView → Type 0
  Then j r = ServerFits w j r.0

  stepping : (t : ℕ) → ((y : ThreadState) (i : Instr) → thread_in s.threads t ≡ Some y → slice_get code y.pc ≡ Some i → NewNames w b i y) → Gives (Then (final b (instr_at code s.threads (Step t)))) (does code o s (Step t))
  stepping t news = by (thread_in s.threads t) refl
    where
      at : (y : ThreadState) → thread_in s.threads t ≡ Some y → (i : Option Instr) → slice_get code y.pc ≡ i
          → Gives (Then (final b i)) (option_map (stepped s) (then_some i (λ x. step o.servers x (record { work = begin_work s.rest; thread = y }))))
      at y q None e = tt
      at y q (Some i) e =
          let h : Hand = record { work = begin_work s.rest; thread = y } in
          over_gives (λ (d : Stepped). E w b closed o.servers i y (news y i q e) d.hand.work.rest d.hand.thread) (Then (after i b)) (step o.servers i h) (stepped s)
          (step_fits w b closed o.servers i y (news y i q e) h refl (taken_up w b closed y s.rest fits.0 (found_all (ThreadFits w) s.threads t y fits.1 q)))
          (λ d g. let ended = g.2 in (g.0, set_all (ThreadFits w) s.threads d.hand.thread fits.1 (g.1, ended.live)))

      by : (x : Option ThreadState) → thread_in s.threads t ≡ x → Gives (Then (final b (then_some x (λ y. slice_get code y.pc)))) (option_map (stepped s) (then_some (option_map (λ y. record { work = begin_work s.rest; thread = y }) x) (step_in code o.servers)))
      by None q = tt
      by (Some y) q = at y q (slice_get code y.pc) refl

  -- the thread that stepped, with as many objects more as its instruction makes
  abbrev pub Made : ThreadState → Instr → Server × EntryView → Type 0
  Made y i r = (z : ThreadState) × (r.0.threads ≡ set_thread s.threads z) × (z.number ≡ y.number) × (z.made ≡ y.made + creates i)

  pub made_so : (t : ℕ) (y : ThreadState) (i : Instr) → thread_in s.threads t ≡ Some y → slice_get code y.pc ≡ Some i → NewNames w b i y → Gives (Made y i) (does code o s (Step t))
  made_so t y i q e new =
      subst (λ x. Gives (Made y i) (option_map (stepped s) (then_some (option_map (λ z. record { work = begin_work s.rest; thread = z }) x) (step_in code o.servers)))) (sym q)
      (subst (λ x. Gives (Made y i) (option_map (stepped s) (then_some x (λ j. step o.servers j h)))) (sym e)
      (over_gives (λ (d : Stepped). E w b closed o.servers i y new d.hand.work.rest d.hand.thread) (Made y i) (step o.servers i h) (stepped s)
      (step_fits w b closed o.servers i y new h refl (taken_up w b closed y s.rest fits.0 (found_all (ThreadFits w) s.threads t y fits.1 q)))
      (λ d g. let ended = g.2 in (d.hand.thread, refl, ended.same, ended.as_many))))
    where
      h : Hand
      h = record { work = begin_work s.rest; thread = y }

  delivering : (i : ℕ) → ((m : Message) → slice_get s.rest.inbox i ≡ Some m → Served w b closed m (received i s)) → Gives (Then b) (does code o s (Deliver i))
  delivering i served = by (slice_get s.rest.inbox i) refl
    where
      rest : RestFits w b s.rest
      rest = fits.0

      by : (m : Option Message) → slice_get s.rest.inbox i ≡ m → Gives (Then b) (option_map (left_by s.events None None) (then_some m (λ x. deliver_message code x (received i s))))
      by None q = tt
      by (Some m) q =
          let less : RestFits w b (receive s.rest i) = record {
            numbered = rest.numbered;
            begun = rest.begun;
            made_so = rest.made_so;
            homed = rest.homed;
            partition = rest.partition;
            copies = rest.copies;
            mutexes = rest.mutexes;
            tasks = rest.tasks;
            waiting = remove_all (MessageFits w b.number) s.rest.inbox i rest.waiting;
            leaving = rest.leaving;
          } in
          over_gives (SiteFits w b closed) (Then b) (deliver_message code m (received i s)) (left_by s.events None None)
          (message_fits w b closed code m (received i s) (all_at (MessageFits w b.number) s.rest.inbox i m rest.waiting q) (served m q) (less, fits.1)) (λ x a. a)

  evicting : (v : ℕ) → Gives (Then b) (does code o s (Evict v))
  evicting v =
      over_gives (SiteFits w b closed) (Then b) (beside_threads (evict_copy v) (begin_at s)) (left_by s.events None None)
      (over_gives (λ (x : Work). RestFits w b x.rest) (SiteFits w b closed) (evict_copy v (begin_work s.rest)) (λ x. record { work = x; threads = s.threads })
      (test_gives (λ (x : Work). RestFits w b x.rest) (can_evict s.rest.cache v) _ (λ q. with_copies w b closed (evict s.rest.cache v) s.rest (gone (can_evict s.rest.cache v)) fits.0)) (λ x a. (a, fits.1))) (λ x a. a)
    where
      rest : RestFits w b s.rest
      rest = fits.0

      gone : (q : Bool) → AllByRecursion (CopyFits w) (if q then without_copy s.rest.cache v else s.rest.cache)
      gone true = without_fit w s.rest.cache v rest.copies
      gone false = rest.copies

  leaving : (t target : ℕ) → Gives (Then b) (does code o s (Migrate t target))
  leaving t target = by (thread_in s.threads t) refl
    where
      rest : RestFits w b s.rest
      rest = fits.0

      by : (x : Option ThreadState) → thread_in s.threads t ≡ x
          → Gives (Then b) (option_map (left_by s.events (Some t) None) (then_some x (λ y. option_map (λ p. record { work = depart target (begin_work s.rest) p; threads = without_thread s.threads t }) (pack_thread (record y { moved_since_step = true }) s.rest.cache))))
      by None q = tt
      by (Some y) q = packs (unpin_all (used_words y) s.rest.cache) refl
        where
          packs : (l : Option (List Copy)) → unpin_all (used_words y) s.rest.cache ≡ l
              → Gives (Then b) (option_map (left_by s.events (Some t) None) (option_map (λ p. record { work = depart target (begin_work s.rest) p; threads = without_thread s.threads t }) (option_map (λ left. (packed (record y { moved_since_step = true }), left)) l)))
          packs None e = tt
          packs (Some cs) e = (
            says_fits w b closed target (message.Migrate (packed (record y { moved_since_step = true }))) (record s.rest { cache = cs }) (packed_fits w y (found_all (ThreadFits w) s.threads t y fits.1 q))
                (with_copies w b closed cs s.rest (unpinned_fit w (used_words y) s.rest.cache cs e rest.copies) rest),
            without_all (ThreadFits w) s.threads t fits.1,
          )

  -- copies that a delivery serves fit
  abbrev pub Serves : What → Type 0
  Serves e = (i : ℕ) (m : Message) → e ≡ Deliver i → slice_get s.rest.inbox i ≡ Some m → Served w b closed m (received i s)

  pub doing : (e : What) → Serves e → ((t : ℕ) (y : ThreadState) (i : Instr) → e ≡ Step t → thread_in s.threads t ≡ Some y → slice_get code y.pc ≡ Some i → NewNames w b i y) → Gives (Then (final b (instr_at code s.threads e))) (does code o s e)
  doing (Step t) served news = stepping t (λ y i. news t y i refl)
  doing (Deliver i) served news = delivering i (λ m q. served i m refl q)
  doing (Evict v) served news = evicting v
  doing (Migrate t target) served news = leaving t target
