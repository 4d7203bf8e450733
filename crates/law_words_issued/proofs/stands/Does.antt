-- An event with which no object comes or goes keeps what its server names, and its addresses.
use Rattle.std.proofs.Common.{◌≡◌, sym, subst, ℕ, Bool, true, false, if◌then◌else◌, List, Option, Some, None, refl}
use Rattle.std.specs.Prelude.{slice_get, option_map}
use Rattle.std.specs.List.{AllByRecursion}
use Rattle.law_walks_own.specs.Below.fr_base.declared.instruction.Instr.{Instr}
use Rattle.law_walks_own.specs.Below.fr_base.declared.settings.Options.{Options}
use Rattle.law_walks_own.specs.Below.law_walks_others.Below.owner_box.View.{PartitionState}
use Rattle.law_walks_own.specs.Below.law_walks_others.Below.read_cache.Cache.{Copy, can_evict, evict, without_copy}
use Rattle.law_walks_own.specs.Below.migration.Packing.{unpin_all, used_words, packed, pack_thread}
use Rattle.law_walks_own.specs.Below.thread_state.View.{ThreadState}
use Rattle.law_walks_own.specs.Below.server_msgs.declared.message.Message.{Message}
use Rattle.law_walks_own.specs.Below.server_msgs.declared.message.Message.TheVariants as message
use Rattle.law_walks_own.specs.Below.journal.View.{EntryView}
use Rattle.law_walks_own.specs.Below.server_model.declared.event.What.TheVariants.{Step, Deliver, Evict, Migrate}
use Rattle.law_walks_own.specs.Below.server_model.Servers.{Server}
use Rattle.law_walks_own.specs.Below.server_model.Work.{Work, Hand, receive, then_some, thread_in, without_thread, beside_threads}
use Rattle.law_walks_own.specs.Below.server_model.Moving.{depart}
use Rattle.law_walks_own.specs.Below.server_model.Events.{Stepped, begin_work, begin_at, left_by, received, deliver_message, evict_copy, step, step_in, stepped, does}
use Rattle.law_walks_own.specs.Below.law_counts_sums.Laws.{Gives}
use Rattle.law_walks_own.proofs.Below.law_counts_sums.Results.{over_gives, test_gives}
use Rattle.law_walks_own.proofs.Below.law_counts_sums.Known.{all_at}
use Rattle.law_walks_own.proofs.Below.law_counts_things.things.Threads.{set_all, without_all, found_all, remove_all}
use Rattle.law_walks_own.proofs.Below.law_counts_things.names.Fit.{Weights, CopyFits, ThreadFits, MessageFits, without_fit, unpinned_fit, packed_fits, Base, RestFits}
use Rattle.law_words_issued.specs.stands.Issuing.{MakesNone, IsReady}
use Rattle.law_words_issued.proofs.stands.Words.{only}
use Rattle.law_words_issued.proofs.stands.Hands.{Kept, says_fits, with_copies, taken_up}
use Rattle.law_words_issued.proofs.stands.Steps.{E, step_keeps}
use Rattle.law_words_issued.proofs.stands.Deliveries.{SiteFits, Served, MovesNone, message_fits}

-- what a server names fits, and its addresses are those
abbrev pub ServerKept : Weights → Base → PartitionState → Server → Type 0
ServerKept w b p s = Kept w b p s.rest × AllByRecursion (ThreadFits w) s.threads

module _ (g : ℕ → ℕ) (b : Base) (p : PartitionState) (code : List Instr) (o : Options) (s : Server) (fits : ServerKept (only g) b p s) where
  abbrev pub Then : Server × EntryView → Type 0
  Then r = ServerKept (only g) b p r.0

  -- a step at such an instruction whose place is ready as it is
  pub stepping : (t : ℕ) (y : ThreadState) (i : Instr) → thread_in s.threads t ≡ Some y → slice_get code y.pc ≡ Some i → MakesNone i → IsReady s y i → Gives Then (does code o s (Step t))
  stepping t y i q e none at =
      subst (λ x. Gives Then (option_map (stepped s) (then_some (option_map (λ z. record { work = begin_work s.rest; thread = z }) x) (step_in code o.servers)))) (sym q)
      (subst (λ x. Gives Then (option_map (stepped s) (then_some x (λ j. step o.servers j h)))) (sym e)
      (over_gives (λ (d : Stepped). E g b p o.servers i y none d.hand.work.rest d.hand.thread) Then (step o.servers i h) (stepped s)
      (step_keeps g b p o.servers i y none h at.spot at.ready (taken_up (only g) b p y s.rest fits.0 (found_all (ThreadFits (only g)) s.threads t y fits.1 q)))
      (λ d k. (k.0, set_all (ThreadFits (only g)) s.threads d.hand.thread fits.1 k.1))))
    where
      h : Hand
      h = record { work = begin_work s.rest; thread = y }

  -- a delivery
  pub delivering : (i : ℕ) → ((m : Message) → slice_get s.rest.inbox i ≡ Some m → MovesNone (only g) b p m × Served (only g) b p m (received i s)) → Gives Then (does code o s (Deliver i))
  delivering i calm = by (slice_get s.rest.inbox i) refl
    where
      all : Kept (only g) b p s.rest
      all = fits.0

      rest : RestFits (only g) b s.rest
      rest = all.0

      by : (m : Option Message) → slice_get s.rest.inbox i ≡ m → Gives Then (option_map (left_by s.events None None) (then_some m (λ x. deliver_message code x (received i s))))
      by None q = tt
      by (Some m) q =
          let less : RestFits (only g) b (receive s.rest i) = record {
            numbered = rest.numbered;
            begun = rest.begun;
            made_so = rest.made_so;
            homed = rest.homed;
            partition = rest.partition;
            copies = rest.copies;
            mutexes = rest.mutexes;
            tasks = rest.tasks;
            waiting = remove_all (MessageFits (only g) b.number) s.rest.inbox i rest.waiting;
            leaving = rest.leaving;
          } in
          let fair = calm m q in
          over_gives (SiteFits (only g) b p) Then (deliver_message code m (received i s)) (left_by s.events None None)
          (message_fits (only g) b p code m (received i s) fair.0 (all_at (MessageFits (only g) b.number) s.rest.inbox i m rest.waiting q) fair.1 ((less, all.1), fits.1)) (λ x a. a)

  -- a copy goes
  pub evicting : (v : ℕ) → Gives Then (does code o s (Evict v))
  evicting v =
      over_gives (SiteFits (only g) b p) Then (beside_threads (evict_copy v) (begin_at s)) (left_by s.events None None)
      (over_gives (λ (x : Work). Kept (only g) b p x.rest) (SiteFits (only g) b p) (evict_copy v (begin_work s.rest)) (λ x. record { work = x; threads = s.threads })
      (test_gives (λ (x : Work). Kept (only g) b p x.rest) (can_evict s.rest.cache v) _ (λ q. with_copies (only g) b p (evict s.rest.cache v) s.rest (gone (can_evict s.rest.cache v)) fits.0)) (λ x a. (a, fits.1))) (λ x a. a)
    where
      all : Kept (only g) b p s.rest
      all = fits.0

      rest : RestFits (only g) b s.rest
      rest = all.0

      gone : (q : Bool) → AllByRecursion (CopyFits (only g)) (if q then without_copy s.rest.cache v else s.rest.cache)
      gone true = without_fit (only g) s.rest.cache v rest.copies
      gone false = rest.copies

  -- a thread leaves
  pub leaving : (t target : ℕ) → Gives Then (does code o s (Migrate t target))
  leaving t target = by (thread_in s.threads t) refl
    where
      all : Kept (only g) b p s.rest
      all = fits.0

      rest : RestFits (only g) b s.rest
      rest = all.0

      by : (x : Option ThreadState) → thread_in s.threads t ≡ x
          → Gives Then (option_map (left_by s.events (Some t) None) (then_some x (λ y. option_map (λ q. record { work = depart target (begin_work s.rest) q; threads = without_thread s.threads t }) (pack_thread (record y { moved_since_step = true }) s.rest.cache))))
      by None q = tt
      by (Some y) q = packs (unpin_all (used_words y) s.rest.cache) refl
        where
          packs : (l : Option (List Copy)) → unpin_all (used_words y) s.rest.cache ≡ l
              → Gives Then (option_map (left_by s.events (Some t) None) (option_map (λ r. record { work = depart target (begin_work s.rest) r; threads = without_thread s.threads t }) (option_map (λ left. (packed (record y { moved_since_step = true }), left)) l)))
          packs None e = tt
          packs (Some cs) e = (
            says_fits (only g) b p target (message.Migrate (packed (record y { moved_since_step = true }))) (record s.rest { cache = cs }) (packed_fits (only g) y (found_all (ThreadFits (only g)) s.threads t y fits.1 q))
                (with_copies (only g) b p cs s.rest (unpinned_fit (only g) (used_words y) s.rest.cache cs e rest.copies) all),
            without_all (ThreadFits (only g)) s.threads t fits.1,
          )
