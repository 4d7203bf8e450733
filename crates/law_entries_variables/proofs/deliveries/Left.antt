-- A copy that goes, and a thread that leaves for another server.
use Rattle.std.proofs.Common.{◌≡◌, ℕ, ◌+◌, ◌-◌, ◌==◌, ◌&&◌, not, Bool, true, false, if◌then◌else◌, List, [], ◌∷◌, ◌++◌, Option, Some, None, is_some, is_none, option_map, refl, sym, ap, ap₂, subst, ◌∙◌, arith}
use Rattle.law_words_ends.proofs.Below.fr_typing.PlaceLemmas.{eq_cases}
use Rattle.law_words_ends.specs.Below.heap_partition.Plain.{plain_of}
use Rattle.law_words_ends.specs.Below.law_words_values.Below.read_cache.Cache.{Copy, copy_of, users, is_cached, can_evict, without_copy, with_users, can_unpin, unpin}
use Rattle.law_words_ends.specs.Below.thread_state.View.{ThreadState, is_over}
use Rattle.law_words_ends.specs.Below.thread_state.declared.phase.Phase.{Phase}
use Rattle.law_words_ends.specs.Below.thread_state.declared.phase.Phase.TheVariants as phase
use Rattle.law_words_ends.specs.Below.migration.Packing.{unpin_all, used_words, packed, pack_thread}
use Rattle.law_words_ends.specs.Below.server_msgs.declared.message.Message.TheVariants as message
use Rattle.law_words_ends.specs.Below.journal.declared.act.Act.TheVariants as act
use Rattle.law_words_ends.specs.Below.server_model.declared.event.What.TheVariants.{Evict, Migrate}
use Rattle.law_words_ends.specs.Below.server_model.Servers.{Server, Cluster, server_at}
use Rattle.law_words_ends.specs.Below.server_model.Work.{Work, Site, note, with_cache, beside_threads, thread_in, without_thread, then_some}
use Rattle.law_words_ends.specs.Below.server_model.Moving.{depart, migrate}
use Rattle.law_words_ends.specs.Below.server_model.Events.{has_phase, is_ready, begin_at, left_by, evict_copy, does}
use Rattle.law_words_ends.specs.Below.law_words_kept.Below.coloured_heap.Heap.{Copied, Coloured, Running}
use Rattle.law_words_ends.specs.Below.law_words_kept.Below.coloured_heap.Rules.{of_run}
use Rattle.law_words_ends.specs.Below.coherent_memory.Names.{tot, if_so}
use Rattle.law_words_ends.specs.Below.coherent_memory.Things.{Thing, copied, sent, stands, things_at, copy_things, things_of}
use Rattle.law_words_ends.specs.Below.coherent_memory.Follow.{Standing, threads_in, thread_at}
use Rattle.law_words_ends.specs.Below.coherent_memory.Sight.{sight}
use Rattle.law_words_ends.specs.Below.coherent_memory.Weights.{is_thread}
use Rattle.law_words_ends.specs.Below.coherent_memory.OneHeap.{first_shown, is_given_thread}
use Rattle.law_words_ends.specs.Below.coherent_memory.Colours.{StandsColoured, same_copied, copy_of as shown_copy, running_of}
use Rattle.law_words_ends.specs.Below.coherent_memory.Coherent.{IsSound}
use Rattle.law_words_ends.proofs.Below.coherent_memory.Names.{and_left}
use Rattle.law_words_ends.specs.Below.law_counts_sums.Laws.{Gives}
use Rattle.law_words_ends.proofs.Below.law_counts_sums.Trades.{tot-append, trade_whole}
use Rattle.law_words_ends.proofs.Below.law_counts_sums.Results.{over_gives}
use Rattle.law_words_ends.proofs.Below.law_counts_sums.Bags.{all_standing, rest_things, of_cache, of_sending, sent_number, thread_number, tot-without}
use Rattle.law_words_ends.proofs.Below.law_counts_sums.Copies.{copy_goes}
use Rattle.law_words_ends.proofs.Below.law_counts_sums.ThreadThere.{thread_there}
use Rattle.law_words_ends.proofs.Below.law_heap_still.events.Told.{told, ones, first_told, same_told}
use Rattle.law_words_ends.proofs.Below.law_heap_still.events.Tests.{numbers}
use Rattle.law_entries_variables.proofs.deliveries.Answers.{Agrees, answers_of, fits, evicting, evict_allowed, departing, departed, depart_allowed}
use Rattle.law_entries_variables.proofs.deliveries.Weighed.{Seen, site_things, WorkTurns, SiteTurns, beside, of_trade, slots_unpinned, thread_seen}
use Rattle.law_entries_variables.proofs.deliveries.Shown.{if_some, copy_in, copies_test, runs, running_as, none_first}
use Rattle.law_entries_variables.proofs.deliveries.HeldOnce.{copies_once}
use Rattle.law_entries_variables.proofs.deliveries.After.{Follows, Keeps, copy_seen, living_still, copy_still, copy_after, served_still, issued_still, started_still, running_still, running_then, ended_by, wishes_still, made_still, there_still, holder_still}
use Rattle.law_entries_variables.proofs.deliveries.Runs.{silent, runs_one, leads_on}
use Rattle.law_entries_variables.proofs.deliveries.Applied.{Legal, Led, led_on, server_there}
use Rattle.law_entries_variables.proofs.deliveries.Changed.{notes}
use Rattle.law_words_ends.proofs.Below.law_words_kept.Below.coloured_heap.ShownNames.{number_flip}

-- A COPY GOES

-- what is shown once, and goes, was there and is gone
goes : (k c : Cluster) (r w : ℕ) (x : Copied) (olds news : List Thing) → IsSound k → ((g : Copied → ℕ) → tot (λ y. told g (copy_in r w y)) (things_of c) + tot (λ y. told g (copy_in r w y)) olds ≡ tot (λ y. told g (copy_in r w y)) (things_of k) + tot (λ y. told g (copy_in r w y)) news)
    → ((g : Copied → ℕ) → tot (λ y. told g (copy_in r w y)) olds ≡ g x) → ((g : Copied → ℕ) → tot (λ y. told g (copy_in r w y)) news ≡ 0) → shown_copy (sight k) r w ≡ Some x
goes k c r w x olds news sound change gone came =
    let few = copies_once k sound r w in
    let none : tot (λ y. told ones (copy_in r w y)) (things_of c) ≡ 0 = omega (arith, change ones, gone ones, came ones, few) in
    let empty : first_shown (copy_in r w) (things_of c) ≡ None = none_first (copy_in r w) (things_of c) none in
    same_told same_copied copies_test (first_shown (copy_in r w) (things_of k)) (Some x) (λ g.
    let left : tot (λ y. told g (copy_in r w y)) (things_of c) ≡ 0 = first_told (copy_in r w) g (things_of c) (omega (arith, none)) ∙ ap (told g) empty in
    omega (arith, first_told (copy_in r w) g (things_of k) few, change g, gone g, came g, left))

module _ (k : Cluster) (sound : IsSound k) (number : ℕ) (s : Server) (here : server_at k.servers number ≡ Some s) (c0 : Coloured) (is_coloured : StandsColoured k c0) where
  abbrev n : ℕ
  n = s.rest.number

  abbrev start : Site
  start = begin_at s

  -- the copy under that word
  module _ (w : ℕ) (d : Copy) (named : d.word ≡ w) where
    abbrev gone : Copied
    gone = record { server = n; word = d.word; object = d.cell.object; value = plain_of d.cell.value }

    shows : (r v : ℕ) (g : Copied → ℕ) → tot (λ y. told g (copy_in r v y)) (copied n d ∷ []) ≡ told g (if_some (n == r && d.word == v) gone)
    shows r v g = omega arith

    away : (c : Cluster) (f : Follows k c (copied n d ∷ []) []) (r v : ℕ) → (if (r == n) && (v == w) then None else shown_copy (sight k) r v) ≡ shown_copy (sight c) r v
    away c f r v = by (r == n) refl (v == w) refl
      where
        turned : (a b : ℕ) (q : Bool) → (a == b) ≡ q → (b == a) ≡ q
        turned a b q e = number_flip b a ∙ e

        none_shown : (q : Bool) → (n == r && d.word == v) ≡ false → (g : Copied → ℕ) → tot (λ y. told g (copy_in r v y)) (copied n d ∷ []) ≡ 0
        none_shown q e g = omega (arith, ap (λ b. told g (if_some b gone)) e)

        other_one : (n == r && d.word == v) ≡ false → shown_copy (sight k) r v ≡ shown_copy (sight c) r v
        other_one e = copy_after k c (copied n d ∷ []) [] sound f r v (shown_copy (sight k) r v) (λ g. omega (arith, none_shown true e g))

        and_false : (a b : Bool) → b ≡ false → (a && b) ≡ false
        and_false true b e = e
        and_false false b e = refl

        by : (p : Bool) → (r == n) ≡ p → (q : Bool) → (v == w) ≡ q → (if p && q then None else shown_copy (sight k) r v) ≡ shown_copy (sight c) r v
        by false a q b = other_one (ap (λ i. i && (d.word == v)) (turned r n false a))
        by true a false b = other_one (and_false (n == r) (d.word == v) (ap (λ i. i == v) named ∙ turned v w false b))
        by true a true b =
            let at : (n == r && d.word == v) ≡ true = ap₂ (λ i j. i && j) (turned r n true a) (ap (λ i. i == v) named ∙ turned v w true b) in
            let gives : (g : Copied → ℕ) → tot (λ y. told g (copy_in r v y)) (copied n d ∷ []) ≡ g gone = (λ g. omega (arith, ap (λ i. told g (if_some i gone)) at)) in
            let was = goes k c r v gone (copied n d ∷ []) [] sound (λ g. f.things (λ y. told g (copy_in r v y)) (copy_seen r v g)) gives (λ g. refl) in
            copy_after k c (copied n d ∷ []) [] sound f r v None (λ g. let t : told g (shown_copy (sight k) r v) ≡ g gone = ap (told g) was in omega (arith, gives g, t))

    there : (c : Cluster) (f : Follows k c (copied n d ∷ []) []) → shown_copy (sight k) n w ≡ Some gone
    there c f =
        let at : (n == n && d.word == w) ≡ true = ap₂ (λ i j. i && j) (numbers.itself n) (ap (λ i. i == w) named ∙ numbers.itself w) in
        goes k c n w gone (copied n d ∷ []) [] sound (λ g. f.things (λ y. told g (copy_in n w y)) (copy_seen n w g)) (λ g. omega (arith, ap (λ i. told g (if_some i gone)) at)) (λ g. refl)

    evicted : copy_of s.rest.cache w ≡ Some d → Legal k s None [] start c0 (record start { work = note (act.Evict w) (with_cache (without_copy s.rest.cache w) start.work) })
    evicted q =
        let olds : List Thing = copied n d ∷ [] in
        let w1 = with_cache (without_copy s.rest.cache w) start.work in
        let cache : WorkTurns start.work olds [] [] w1 = record { number = refl; noted = refl; labels = refl; things = of_trade _ olds [] _ (of_cache n 0 s.rest (without_copy s.rest.cache w) (copy_goes n s.rest.cache w d q)) } in record {
          olds = olds;
          news = [];
          acts = act.Evict w ∷ [];
          turns = beside start olds [] (act.Evict w ∷ []) (note (act.Evict w) w1) (notes start.work olds [] [] w1 (act.Evict w) cache);
          leads = λ c f keeps.
              let q0 = answers_of (sight k) in
              let h = fits (sight k) c0 is_coloured in
              let e = silent n None (act.Evict w ∷ []) in
              let started = started_still k c olds [] sound f (λ r v. refl) in
              let running : (t : ℕ) → running_of (sight k) t ≡ running_of (sight c) t = (λ t. running_still k c olds [] sound f (λ u. refl) t (λ g. refl)) in
              leads_on k.options n None (act.Evict w ∷ []) c0 q0 (evicting n w q0) c h (server_there k sound number s here).0 tt (runs_one k.options e (act.Evict w) c0 (evicting n w q0) (evict_allowed k.options e c0 q0 w gone h (there c f)))
              (record {
                object = λ o. living_still k c olds [] sound f keeps o (λ g. refl) refl;
                copy = λ r v. away c f r v;
                served = λ a. served_still k c olds [] sound f a refl;
                issued = λ v. issued_still k c olds [] sound f keeps (λ i r j. refl) v;
                started = started;
                running = running;
                ended = ended_by k c started (λ t. ap is_none (running t));
                wishes = λ a. wishes_still k c olds [] sound f a refl;
                made = made_still k c olds [] sound f (λ r v. refl);
                there = λ m e. there_still k c olds [] sound f m refl ∙ e;
                holder = λ m. holder_still k c olds [] sound f keeps m (λ g. refl);
              });
        }

  word_is : (cs : List Copy) (w : ℕ) (d : Copy) → copy_of cs w ≡ Some d → d.word ≡ w
  word_is [] w d e = absurd (cc e)
  word_is (x ∷ cs) w d e =
      eq_cases (λ b. (if b then Some x else copy_of cs w) ≡ Some d → d.word ≡ w) x.word w
      (λ q h. let same : x ≡ d = cc in subst (λ (y : Copy). y.word ≡ w) same q) (λ ne h. word_is cs w d h) e

  pub evictions : (w : ℕ) → Gives (Led k s c0) (does k.code k.options s (Evict w))
  evictions w =
      over_gives (Legal k s None [] start c0) (Led k s c0) (beside_threads (evict_copy w) start) (left_by s.events None None)
      (over_gives P (Legal k s None [] start c0) (evict_copy w start.work) (λ y. record start { work = y }) (by (can_evict s.rest.cache w) refl (copy_of s.rest.cache w) refl) (λ y l. l)) (λ x l. led_on k s None c0 x s.events l)
    where
      P : Work → Type 0
      P y = Legal k s None [] start c0 (record start { work = y })

      by : (b : Bool) → can_evict s.rest.cache w ≡ b → (o : Option Copy) → copy_of s.rest.cache w ≡ o
          → Gives P (if b then Some (note (act.Evict w) (with_cache (if b then without_copy s.rest.cache w else s.rest.cache) start.work)) else None)
      by false a o q = tt
      by true a None q = let z : is_cached s.rest.cache w ≡ false = ap is_some q in absurd (cc (sym z ∙ and_left (is_cached s.rest.cache w) (users s.rest.cache w == 0) a))
      by true a (Some d) q = evicted w d (word_is s.rest.cache w d q) q

-- A THREAD LEAVES

module _ (f : Thing → ℕ) (h : Seen f) where
  users_unseen : (n i : ℕ) (cs : List Copy) (w u : ℕ) → tot f (things_at (copy_things n) i (with_users cs w u)) ≡ tot f (things_at (copy_things n) i cs)
  users_unseen n i [] w u = refl
  users_unseen n i (c ∷ cs) w u = by (c.word == w) (users_unseen n (i + 1) cs w u)
    where
      by : (b : Bool) → tot f (things_at (copy_things n) (i + 1) (with_users cs w u)) ≡ tot f (things_at (copy_things n) (i + 1) cs)
          → tot f (things_at (copy_things n) i (if b then record c { users = u } ∷ cs else c ∷ with_users cs w u)) ≡ tot f (things_at (copy_things n) i (c ∷ cs))
      by true go = omega (arith, h.unused n c u)
      by false go = omega (arith, go)

  unpinned_unseen : (n : ℕ) (ws : List ℕ) (cs left : List Copy) → unpin_all ws cs ≡ Some left → tot f (things_at (copy_things n) 0 left) ≡ tot f (things_at (copy_things n) 0 cs)
  unpinned_unseen n [] cs left e = let same : cs ≡ left = cc in ap (λ l. tot f (things_at (copy_things n) 0 l)) (sym same)
  unpinned_unseen n (w ∷ ws) cs left e = by (can_unpin cs w) e (unpinned_unseen n ws (unpin cs w) left)
    where
      by : (b : Bool) → (if b then unpin_all ws (unpin cs w) else None) ≡ Some left → (unpin_all ws (unpin cs w) ≡ Some left → tot f (things_at (copy_things n) 0 left) ≡ tot f (things_at (copy_things n) 0 (unpin cs w)))
          → tot f (things_at (copy_things n) 0 left) ≡ tot f (things_at (copy_things n) 0 cs)
      by true g go = go g ∙ users_unseen n 0 cs w (users cs w - 1)
      by false g go = absurd (cc g)

running_named : (u : ℕ) (o : Option Standing) (r : Running) → running_as u o ≡ Some r → r.thread ≡ u
running_named u None r e = absurd (cc e)
running_named u (Some x) r e = by (is_over x.thread.phase) e
  where
    by : (b : Bool) → if_some (not b) (record { thread = u; server = x.server; has_ended = false }) ≡ Some r → r.thread ≡ u
    by true g = absurd (cc g)
    by false g = let same : record { thread = u; server = x.server; has_ended = false } ≡ r = cc in ap (λ (y : Running). y.thread) (sym same)

module _ (k : Cluster) (sound : IsSound k) (number : ℕ) (s : Server) (here : server_at k.servers number ≡ Some s) (c0 : Coloured) (is_coloured : StandsColoured k c0) (t target : ℕ) (goes_on : of_run k.options target ≡ true) (elsewhere : (target == s.rest.number) ≡ false) where
  abbrev own : ℕ
  own = s.rest.number

  abbrev first : Site
  first = begin_at s

  module _ (y : ThreadState) (at : thread_in s.threads t ≡ Some y) (ready : is_ready y.phase ≡ true) (left : List Copy) (packs : unpin_all (used_words y) s.rest.cache ≡ Some left) where
    abbrev parcel : ThreadState
    parcel = packed (record y { moved_since_step = true })

    abbrev olds : List Thing
    olds = stands own false y ∷ []

    abbrev news : List Thing
    news = sent target (message.Migrate parcel) ∷ stands target true parcel ∷ []

    abbrev after : Site
    after = record { work = depart target first.work (parcel, left); threads = without_thread s.threads t }

    its : y.number ≡ t
    its = thread_number s.threads t y at

    live : is_over y.phase ≡ false
    live = by y.phase ready
      where
        by : (p : Phase) → is_ready p ≡ true → is_over p ≡ false
        by phase.Ready e = refl
        by _ e = absurd (cc e)

    turns : SiteTurns first olds news (act.Depart parcel.number target ∷ []) after
    turns = record {
      number = number_same;
      noted = refl;
      labels = refl;
      things = λ f h.
          let base = record s.rest { cache = left } in
          let ts = without_thread s.threads t in
          let sent_on = of_sending own 0 base refl target (message.Migrate parcel) in
          let cache = of_cache own 0 s.rest left (trade_whole (things_at (copy_things own) 0 s.rest.cache) (things_at (copy_things own) 0 left)) in
          let there : tot f (site_things after) ≡ tot f (all_standing own ts ++ rest_things own 0 after.work.rest) = ap (λ m. tot f (all_standing m ts ++ rest_things m 0 after.work.rest)) number_same in
          omega (
            arith,
            there,
            sent_on.before f,
            sent_on.after f,
            cache.before f,
            cache.after f,
            unpinned_unseen f h own (used_words y) s.rest.cache left packs,
            tot-without own f s.threads t y at,
            thread_seen f h own false y,
            thread_seen f h target true parcel,
            slots_unpinned f h 0 0 y.number 0 y.slots,
            tot-append f (all_standing own s.threads) (rest_things own 0 s.rest),
            tot-append f (all_standing own ts) (rest_things own 0 after.work.rest),
          );
    }
      where
        number_same : after.work.rest.number ≡ own
        number_same = sent_number (record s.rest { cache = left }) target (message.Migrate parcel)

    -- it runs here
    runs_here : running_of (sight k) y.number ≡ Some (record { thread = y.number; server = own; has_ended = false })
    runs_here =
        ap (running_as y.number) (ap (thread_at (threads_in (things_of k))) its ∙ thread_there k sound number s here t y at) ∙ ap (λ b. if_some (not b) (record { thread = y.number; server = own; has_ended = false })) live

    module _ (c : Cluster) (f : Follows k c olds news) (keeps : Keeps k c) where
      runs_then : (u : ℕ) (g : Running → ℕ) → told g (option_map (departed y.number target) (running_of (sight k) u)) + tot (runs g u) olds ≡ told g (running_of (sight k) u) + tot (runs g u) news
      runs_then u g = by (y.number == u) refl (running_of (sight k) u) refl
        where
          by : (b : Bool) → (y.number == u) ≡ b → (o : Option Running) → running_of (sight k) u ≡ o
              → told g (option_map (departed y.number target) o) + (if_so b (told g (if_some (not (is_over y.phase)) (record { thread = u; server = own; has_ended = false }))) + 0)
              ≡ told g o + (0 + (if_so b (told g (if_some (not (is_over y.phase)) (record { thread = u; server = target; has_ended = false }))) + 0))
          by false e None q = refl
          by false e (Some r) q =
              let named : r.thread ≡ u = running_named u (thread_at (threads_in (things_of k)) u) r q in
              let other_one : (r.thread == y.number) ≡ false = ap (λ i. i == y.number) named ∙ number_flip u y.number ∙ e in
              let same : told g (Some (departed y.number target r)) ≡ g r = ap (λ b. g (if b then record r { server = target } else r)) other_one in
              omega (arith, same)
          by true e None q =
              let same : y.number ≡ u = numbers.tells y.number u e in
              absurd (cc (sym q ∙ ap (running_of (sight k)) (sym same) ∙ runs_here))
          by true e (Some r) q =
              let same : y.number ≡ u = numbers.tells y.number u e in
              let is_here : r ≡ record { thread = y.number; server = own; has_ended = false } = (let p : Some r ≡ Some (record { thread = y.number; server = own; has_ended = false }) = sym q ∙ ap (running_of (sight k)) (sym same) ∙ runs_here in cc) in
              let here_named : r ≡ record { thread = u; server = own; has_ended = false } = is_here ∙ ap (λ i. runner i own) same in
              let mine : (r.thread == y.number) ≡ true = ap (λ (z : Running). z.thread == y.number) is_here ∙ numbers.itself y.number in
              let left_so : told g (Some (departed y.number target r)) ≡ g (runner u target) = ap (λ b. g (if b then record r { server = target } else r)) mine ∙ ap (λ (z : Running). g (record z { server = target })) here_named in
              let right_so : g r ≡ g (runner u own) = ap g here_named in
              let old : told g (if_some (not (is_over y.phase)) (runner u own)) ≡ g (runner u own) = ap (λ b. told g (if_some (not b) (runner u own))) live in
              let new : told g (if_some (not (is_over y.phase)) (runner u target)) ≡ g (runner u target) = ap (λ b. told g (if_some (not b) (runner u target))) live in
              omega (arith, left_so, right_so, old, new)
            where
              runner : ℕ → ℕ → Running
              runner i r = record { thread = i; server = r; has_ended = false }

      differ : (u : ℕ) → tot (is_thread u) olds ≡ tot (is_thread u) news
      differ u = omega arith

      running : (u : ℕ) → option_map (departed y.number target) (running_of (sight k) u) ≡ running_of (sight c) u
      running u = running_then k c olds news sound f differ u (option_map (departed y.number target) (running_of (sight k) u)) (runs_then u)

      none_same : (o : Option Running) → is_none o ≡ is_none (option_map (departed y.number target) o)
      none_same None = refl
      none_same (Some r) = refl

      started : (u : ℕ) → is_given_thread (sight k) u ≡ is_given_thread (sight c) u
      started = started_still k c olds news sound f (λ r v. refl)

      agrees : Agrees (departing y.number target (answers_of (sight k))) (answers_of (sight c))
      agrees = record {
        object = λ o. living_still k c olds news sound f keeps o (λ g. refl) refl;
        copy = λ r v. copy_still k c olds news sound f r v (λ g. refl);
        served = λ a. served_still k c olds news sound f a refl;
        issued = λ v. issued_still k c olds news sound f keeps (λ i r j. refl) v;
        started = started;
        running = running;
        ended = ended_by k c started (λ u. none_same (running_of (sight k) u) ∙ ap is_none (running u));
        wishes = λ a. wishes_still k c olds news sound f a refl;
        made = made_still k c olds news sound f (λ r v. refl);
        there = λ m e. there_still k c olds news sound f m refl ∙ e;
        holder = λ m. holder_still k c olds news sound f keeps m (λ g. omega arith);
      }

    departs : Legal k s (Some t) [] first c0 after
    departs = record {
      olds = olds;
      news = news;
      acts = act.Depart parcel.number target ∷ [];
      turns = turns;
      leads = λ c f keeps.
          let q0 = answers_of (sight k) in
          let h = fits (sight k) c0 is_coloured in
          let e = silent own (Some t) (act.Depart y.number target ∷ []) in
          leads_on k.options own (Some t) (act.Depart y.number target ∷ []) c0 q0 (departing y.number target q0) c h (server_there k sound number s here).0
          (record { thread = y.number; server = own; has_ended = false }, ap (running_of (sight k)) (sym its) ∙ runs_here, numbers.itself own)
          (runs_one k.options e (act.Depart y.number target) c0 (departing y.number target q0) (depart_allowed k.options e c0 q0 y.number target h (ap (λ i. Some i) (sym its)) goes_on elsewhere)) (agrees c f keeps);
    }

  pub departures : has_phase is_ready (thread_in s.threads t) ≡ true → Gives (Led k s c0) (does k.code k.options s (Migrate t target))
  departures on = over_gives (Legal k s (Some t) [] first c0) (Led k s c0) (migrate t target first) (left_by s.events (Some t) None) (by (thread_in s.threads t) refl on) (λ x l. led_on k s (Some t) c0 x s.events l)
    where
      P : Site → Type 0
      P x = Legal k s (Some t) [] first c0 x

      gone_with : (y : ThreadState) → thread_in s.threads t ≡ Some y → is_ready y.phase ≡ true → (o : Option (List Copy)) → unpin_all (used_words y) s.rest.cache ≡ o
          → Gives P (option_map (λ p. record { work = depart target first.work p; threads = without_thread s.threads t }) (option_map (λ l. (packed (record y { moved_since_step = true }), l)) o))
      gone_with y at r None q = tt
      gone_with y at r (Some left) q = departs y at r left q

      by : (o : Option ThreadState) → thread_in s.threads t ≡ o → has_phase is_ready o ≡ true
          → Gives P (then_some o (λ y. option_map (λ p. record { work = depart target first.work p; threads = without_thread s.threads t }) (pack_thread (record y { moved_since_step = true }) s.rest.cache)))
      by None at r = tt
      by (Some y) at r = gone_with y at r (unpin_all (used_words y) s.rest.cache) refl
