-- Each delivery of an object that comes has a legal entry, from a coherent cluster to a coherent one.
use Rattle.std.proofs.Common.{◌≡◌, ◌≤◌, ℕ, ◌+◌, ◌<◌, ◌^◌, ◌==◌, ◌&&◌, Bool, true, false, if◌then◌else◌, List, [], ◌∷◌, ◌++◌, Option, Some, None, refl, sym, ap, ap₂, subst, ◌∙◌, arith}
use Rattle.std.specs.Prelude.{⊤, slice_get}
use Rattle.law_runs_whole.specs.Below.law_words_ends.Below.fr_base.declared.instruction.Instr.{Instr}
use Rattle.law_runs_whole.specs.Below.law_words_ends.Below.fr_base.declared.instruction.Instr.TheVariants as instr
use Rattle.law_runs_whole.specs.Below.law_words_ends.Below.fr_base.declared.label.Label.{Label}
use Rattle.law_runs_whole.specs.Below.law_words_ends.Below.fr_base.declared.name.ObjNo.{ObjNo}
use Rattle.law_runs_whole.specs.Below.law_words_ends.Below.global_addr.Words.{server_of, address_of}
use Rattle.law_runs_whole.specs.Below.law_words_ends.Below.heap_partition.declared.value.Cell.{Cell}
use Rattle.law_runs_whole.specs.Below.law_words_ends.Below.owner_box.View.{PartitionState}
use Rattle.law_runs_whole.specs.Below.law_words_ends.Below.owner_box.Partition.{new_word, next_place}
use Rattle.law_runs_whole.proofs.Below.law_words_issued.Below.owner_box.Issued.{packed}
use Rattle.law_runs_whole.specs.Below.law_words_ends.Below.server_msgs.declared.message.Message.{Message}
use Rattle.law_runs_whole.specs.Below.law_words_ends.Below.server_msgs.declared.message.Message.TheVariants as message
use Rattle.law_runs_whole.specs.Below.journal.View.{EntryView}
use Rattle.law_runs_whole.specs.Below.journal.declared.act.Act.{Act}
use Rattle.law_runs_whole.specs.Below.journal.declared.act.Act.TheVariants as act
use Rattle.law_runs_whole.specs.Below.server_model.declared.event.Event.{Event}
use Rattle.law_runs_whole.specs.Below.server_model.declared.event.What.TheVariants.{Deliver}
use Rattle.law_runs_whole.specs.Below.server_model.Servers.{Server, Cluster, server_at}
use Rattle.law_runs_whole.specs.Below.server_model.Work.{Site, then_some}
use Rattle.law_runs_whole.specs.Below.server_model.Events.{left_by, entry_of, received, deliver_message, deliver, does}
use Rattle.law_runs_whole.specs.Below.server_model.Clusters.{apply}
use Rattle.law_runs_whole.specs.Below.coloured_heap.Heap.{Coloured}
use Rattle.law_runs_whole.specs.Below.coherent_memory.Names.{tot, one, other, same_object, Among}
use Rattle.law_runs_whole.specs.Below.coherent_memory.Things.{Thing, lies, stands, message_things, server_things, things_of}
use Rattle.law_runs_whole.specs.Below.coherent_memory.Follow.{locate}
use Rattle.law_runs_whole.specs.Below.coherent_memory.Sight.{sight, issued}
use Rattle.law_runs_whole.specs.Below.coherent_memory.Placing.{words}
use Rattle.law_runs_whole.specs.Below.coherent_memory.Colours.{StandsColoured}
use Rattle.law_runs_whole.specs.Below.coherent_memory.Coherent.{IsSound}
use Rattle.law_runs_whole.proofs.Below.law_words_ends.Below.coherent_memory.Names.{and_left, and_right}
use Rattle.law_runs_whole.proofs.Below.law_words_ends.Below.coherent_memory.Words.{named}
use Rattle.law_runs_whole.specs.Below.law_words_ends.Below.coherent_types.ClusterTypes.{IsCoherent}
use Rattle.law_runs_whole.specs.Below.law_counts_sums.Kinds.{moved, kind_at, kind_of, message_kind, instr_kind}
use Rattle.law_runs_whole.specs.Below.law_counts_sums.Laws.{Gives, FewEvents}
use Rattle.law_runs_whole.proofs.Below.law_counts_sums.Bags.{all_standing, rest_things, of_receiving, server_same}
use Rattle.law_runs_whole.proofs.Below.law_counts_sums.Objects.{taken_place}
use Rattle.law_runs_whole.proofs.Below.law_counts_sums.Trades.{tot-append}
use Rattle.law_runs_whole.proofs.Below.law_counts_sums.Results.{over_gives, both_give, weaker}
use Rattle.law_entries_writes.specs.Below.law_entries_variables.Below.law_heap_still.events.Shows.{Sign}
use Rattle.law_runs_whole.proofs.Below.law_words_ends.Below.law_heap_still.events.Alike.{Heeds, all_seen}
use Rattle.law_runs_whole.proofs.Below.law_words_ends.Below.law_heap_still.events.Sites.{AlikeBy, ServerStill, leads_by}
use Rattle.law_runs_whole.proofs.Below.law_words_ends.Below.law_heap_still.events.StillKinds.{server_still}
use Rattle.law_runs_whole.proofs.Below.law_words_ends.Below.law_heap_still.events.Tests.{numbers, objects}
use Rattle.law_runs_whole.proofs.Below.law_words_ends.Below.law_words_paths.paths.Alike.{coherent_has_paths}
use Rattle.law_runs_whole.proofs.Below.law_words_ends.Below.law_words_kept.reads.Flights.{truly}
use Rattle.law_runs_whole.proofs.Below.law_words_ends.Below.law_words_kept.reads.Lookups.{one_state}
use Rattle.law_runs_whole.specs.Below.law_words_ends.Below.law_words_paths.words.Reworded.{HasPlaces}
use Rattle.law_runs_whole.specs.Below.law_words_ends.Below.law_words_paths.words.Unmoved.{Delivers}
use Rattle.law_runs_whole.proofs.Below.law_words_ends.Below.law_results_reads.Flights.{weighs}
use Rattle.law_runs_whole.proofs.Below.law_words_ends.Below.law_results_reads.Pointing.{its_partition}
use Rattle.law_runs_whole.proofs.Below.law_words_ends.Below.law_results_events.writes.Memory.{Sane}
use Rattle.law_runs_whole.proofs.Below.law_words_ends.Below.law_results_events.writes.Routes.{sane_at, roomy_at}
use Rattle.law_runs_whole.proofs.Below.law_words_ends.Below.law_words_asked.writes.Later.{later_itself, next_unissued, place_vacant}
use Rattle.law_runs_whole.specs.Below.law_words_ends.Below.law_words_kept.prepared.Requests.{WordsRise}
use Rattle.law_runs_whole.proofs.Below.law_words_ends.arrivals.Each.{words_rise}
use Rattle.law_runs_whole.proofs.Below.law_words_issued.apart.UnderWay.{FlightsIssued, landing_flights}
use Rattle.law_runs_whole.specs.Below.law_words_issued.old.Old.{unissued, first_words, lent_words}
use Rattle.law_runs_whole.proofs.Below.law_words_issued.old.Firsts.{arrivals_leave_firsts}
use Rattle.law_runs_whole.proofs.Below.law_words_issued.ever.Fresh.{Home, at_home}
use Rattle.law_runs_whole.proofs.Below.law_words_issued.ever.Landings.{landings_leave_lent}
use Rattle.law_runs_whole.proofs.Below.law_words_issued.ever.There.{word_of, shown}
use Rattle.law_entries_writes.specs.Below.law_entries_variables.deliveries.Entries.{LeadsOn}
use Rattle.law_entries_writes.proofs.Below.law_entries_variables.deliveries.Weighed.{Seen, server_turns, received_turns}
use Rattle.law_entries_writes.proofs.Below.law_entries_variables.deliveries.After.{Follows}
use Rattle.law_entries_writes.proofs.Below.law_entries_variables.deliveries.Applied.{Afterwards, applied_by}
use Rattle.law_entries_writes.proofs.Below.law_entries_variables.deliveries.Runs.{silent}
use Rattle.law_entries_writes.specs.Below.law_entries_reads.served.Served.{CoherentEntriesLegal}
use Rattle.law_runs_whole.specs.Below.law_runs_coherent.events.Coherence.{EventsKeepCoherence}
use Rattle.law_entries_events.proofs.objects.Delivered.{DeliveryOf, delivery_of}
use Rattle.law_entries_events.proofs.objects.Gifts.{GiftsKept, gifts_kept}
use Rattle.law_entries_events.proofs.objects.Landing.{Lands, moved_lands}
use Rattle.law_entries_events.proofs.objects.PointerWords.{words_less}
use Rattle.law_entries_events.proofs.objects.Takes.{takes}
use Rattle.law_entries_events.proofs.objects.Words.{strange, strange_itself, WordsThen, words_then}

-- what is known of the cluster afterwards
pub record Known (k : Cluster) (w : ℕ) (d : Cluster) : Type 0 where
  pub rise : WordsRise k d
  pub flights : FlightsIssued k d
  pub gifts : GiftsKept k d
  pub shows : 1 ≤ tot (word_of w) (things_of d)
  pub firsts : tot (first_words (unissued k)) (things_of d) ≡ 0
  pub lent : lent_words (unissued k) (sight d) ≡ 0
  pub coherent : IsCoherent d

-- an object at that address
abbrev laid_at : ℕ → ℕ → ObjNo → Thing → ℕ
laid_at n a o (lies r b e) = one ((r == n && b == a) && same_object e.object o)
laid_at n a o x = 0

laid_seen : (n a : ℕ) (o : ObjNo) → Seen (laid_at n a o)
laid_seen n a o = record { held = λ p v. refl; shared = λ l q. refl; lent = λ l q. refl; flown = λ v c. refl; used = λ r v. refl; loose = λ u i m. refl; counted = λ r b q s m e. refl; unused = λ i d u. refl }

abbrev entry_so : ℕ → List Act → List Label → EntryView
entry_so n acts labels = record { server = n; thread = None; done = None; acts = acts; labels = labels }

module _ (k : Cluster) (coherent : IsCoherent k) (few : FewEvents k) (number : ℕ) (s : Server) (here : server_at k.servers number ≡ Some s) (c0 : Coloured) (is_coloured : StandsColoured k c0) (i old : ℕ) (c : Cell) (t : ℕ) (at : slice_get s.rest.inbox i ≡ Some (message.Moved old c t)) where
  abbrev sound : IsSound k
  sound = coherent.sound

  abbrev n : ℕ
  n = s.rest.number

  abbrev p : PartitionState
  p = s.rest.partition

  abbrev new : ℕ
  new = new_word p

  abbrev a : ℕ
  a = (next_place p).0

  abbrev m : Message
  m = message.Moved old c t

  sane : Sane p
  sane = sane_at k coherent few number s here

  within : (next_place p).0 < 2 ^ 40
  within = let r = roomy_at k coherent few number s here in let v = (place_vacant p sane).within in omega (arith, r, v)

  fresh : issued (sight k) new ≡ false
  fresh = next_unissued k sound number s here p (later_itself p) sane.small within

  parts : (server_of new ≡ n) × (address_of new ≡ a)
  parts = let q = packed (next_place p).1 p.server (next_place p).0 sane.small within in (q.1 ∙ (its_partition k sound number s here).0, q.2)

  none_before : tot (words (strange k new)) (things_of k) ≡ 0
  none_before =
      let all : tot (words (λ u. other (issued (sight k) u))) (things_of k) ≡ 0 = sound.words.are_issued in
      omega (arith, all, words_less (strange k new) (λ u. other (issued (sight k) u)) less (things_of k))
    where
      less : (u : ℕ) → strange k new u ≤ other (issued (sight k) u)
      less u = by (u == new)
        where
          by : (b : Bool) → (if b then 0 else other (issued (sight k) u)) ≤ other (issued (sight k) u)
          by true = omega arith
          by false = omega arith

  module _ (z : Site) (l : Lands k sound number s here i old c t z) where
    abbrev r : Server
    r = (left_by s.events None None z).0

    -- at the server no word but the new one comes
    server_words : tot (words (strange k new)) (server_things r) ≤ tot (words (strange k new)) (server_things s)
    server_words =
        let f = words (strange k new) in
        let x = received i s in
        let u = of_receiving n 0 s.rest i m at in
        let q = z.work.rest.number in
        omega (
          arith,
          l.words (strange k new) (strange_itself k new),
          server_same s f,
          server_same r f,
          u.before f,
          u.after f,
          tot-append f (all_standing n s.threads) (rest_things n s.events s.rest),
          tot-append f (all_standing n s.threads) (rest_things n 0 x.work.rest),
          tot-append f (all_standing q z.threads) (rest_things q (s.events + 1) z.work.rest),
          tot-append f (all_standing q z.threads) (rest_things q 0 z.work.rest),
        )

    module _ (d : Cluster) (after : Afterwards k s r d) (q : Known k new d) where
      abbrev went : List Thing
      went = stands n false l.before ∷ (taken_place n p.free ++ l.old_cells)

      abbrev news : List Thing
      news = stands n false l.after ∷ lies n a c ∷ l.new_cells

      follows : Follows k d (message_things n m ++ went) news
      follows = record {
        code = after.0;
        options = after.1;
        things = λ f h. omega (arith, after.2 f, server_turns s z (message_things n m ++ went) news (act.Take c.object old new ∷ []) s.events None None (received_turns s i m z went news (act.Take c.object old new ∷ []) at l.turns) f h);
      }

      here_then : 1 ≤ tot (laid_at n a c.object) (things_of d)
      here_then =
          let f = laid_at n a c.object in
          let mine : one ((n == n && a == a) && same_object c.object c.object) ≡ 1 = ap₂ (λ (b e : Bool). one (b && e)) (ap₂ (λ (b e : Bool). b && e) (numbers.itself n) (numbers.itself a)) (objects.itself c.object) in
          let cells : tot f l.new_cells ≡ tot f l.old_cells = l.alike f (λ u b e v same. refl) in
          omega (arith, mine, cells, follows.things f (laid_seen n a c.object), vacant_none, tot-append f (taken_place n p.free) l.old_cells)
        where
          vacant_none : tot (laid_at n a c.object) (taken_place n p.free) ≡ 0
          vacant_none = by p.free
            where
              by : (fl : List (ℕ × ℕ)) → tot (laid_at n a c.object) (taken_place n fl) ≡ 0
              by [] = refl
              by (pair ∷ rest) = refl

      places : HasPlaces d
      places = record { numbers_differ = q.coherent.sound.names.numbers_differ; home_of_each = q.coherent.sound.one_home.home_of_each; owner_of_each = q.coherent.sound.one_owner.owner_of_each }

      home : Home d q.rise.has_words new
      home = at_home k d new fresh places (coherent_has_paths d q.coherent) q.rise.has_words q.rise.first_at_holder q.firsts q.lent q.flights q.coherent.sound.requests.taken_stands q.shows

      words_so : tot (words (strange k new)) (things_of d) ≡ 0
      words_so = omega (arith, after.2 (words (strange k new)), server_words, none_before)

      known_words : WordsThen k d c.object new
      known_words = let y = weighs (laid_at n a c.object) (things_of d) here_then in by y.0 y.1 y.2
        where
          at_spot : (u b : ℕ) (e : Cell) → u ≡ n → b ≡ a → e.object ≡ c.object → Among (lies u b e) (things_of d) → WordsThen k d c.object new
          at_spot u b e x y object h =
              words_then k d c.object new n a e fresh parts.0 parts.1 object (subst (λ j. Among (lies n j e) (things_of d)) y (subst (λ j. Among (lies j b e) (things_of d)) x h)) (one_state d q.coherent.sound (n, a)) q.rise q.flights home words_so

          by : (y : Thing) → Among y (things_of d) → 1 ≤ laid_at n a c.object y → WordsThen k d c.object new
          by (lies u b e) h w =
              let all : ((u == n && b == a) && same_object e.object c.object) ≡ true = truly ((u == n && b == a) && same_object e.object c.object) w in
              let spot : (u == n && b == a) ≡ true = and_left (u == n && b == a) (same_object e.object c.object) all in
              at_spot u b e (numbers.tells u n (and_left (u == n) (b == a) spot)) (numbers.tells b a (and_right (u == n) (b == a) spot)) (named e.object c.object (and_right (u == n && b == a) (same_object e.object c.object) all)) h
          by _ h w = absurd (omega (arith, w))

      pub leads : LeadsOn k.options (left_by s.events None None z).1 c0 d
      leads =
          let entry : entry_of None None z.work ≡ silent n None (act.Take c.object old new ∷ []) = ap₂ (λ j acts. entry_so j acts z.work.labels) l.turns.number l.turns.noted ∙ ap (entry_so n (act.Take c.object old new ∷ [])) l.turns.labels in
          subst (λ v. LeadsOn k.options v c0 d) (sym entry) (takes k coherent number s here c0 is_coloured i old c t at z l sane within fresh d follows q.gifts known_words)

  -- the entry of a server that was left so
  abbrev Came : Server × EntryView → Type 0
  Came r = (d : Cluster) → Afterwards k s r.0 d → Known k new d → LeadsOn k.options r.1 c0 d

  pub came : Gives Came (does k.code k.options s (Deliver i))
  came =
      over_gives (Lands k sound number s here i old c t) Came (deliver k.code i s) (left_by s.events None None)
      (subst (λ o. Gives (Lands k sound number s here i old c t) (then_some o (λ y. deliver_message k.code y (received i s)))) (sym at) (moved_lands k sound number s here i old c t)) (λ z l d after q. leads z l d after q)

-- WHAT IS KNOWN

module _ (k : Cluster) (e : Event) (coherent : IsCoherent k) (few : FewEvents k) (keep : EventsKeepCoherence) (s : Server) (here : server_at k.servers e.server ≡ Some s) (i old : ℕ) (c : Cell) (t : ℕ) (what : e.what ≡ Deliver i) (at : slice_get s.rest.inbox i ≡ Some (message.Moved old c t)) (q : kind_of k e ≡ Some moved) where
  abbrev D : Type 0
  D = Cluster × EntryView

  abbrev issued_word : ℕ
  issued_word = new_word s.rest.partition

  delivers : Delivers k e (message.Moved old c t)
  delivers = record { place = i; what = what; server = s; there = here; message = at }

  flights : Gives (λ (d : D). FlightsIssued k d.0) (apply k e)
  flights =
      subst (λ v. Gives (λ (d : D). FlightsIssued k d.0) (apply k (record { server = e.server; what = v }))) (sym what) (landing_flights k coherent.sound few e.server i old s c t here at)

  gifts : Gives (λ (d : D). ⊤ → GiftsKept k d.0) (apply k e)
  gifts =
      leads_by (λ r. ⊤) Class (GiftsKept k) k e coherent.sound few (λ d code alike. gifts_kept k d coherent.sound code (λ o. true) (λ o z. absurd (cc z)) (λ u slot n. all_seen (locate (sight k).ground u slot n)) alike)
      (λ s2 here2 on. weaker (ServerStill k s2) (λ r. ⊤ → AlikeBy Class (server_things s2) (server_things r.0)) (does k.code k.options s2 e.what)
      (server_still k coherent.sound e.server s2 here2 moved tt e.what (subst (λ o. then_some o (kind_at k e.what) ≡ Some moved) here2 q)) (λ r u sort w z h. u w z h.0))
    where
      Class : (Sign → ℕ) → Type 0
      Class w = Heeds (λ o. true) (sight k) w

  pub known : Gives (λ (d : D). Known k issued_word d.0) (apply k e)
  known =
      both_give One Two (λ (d : D). Known k issued_word d.0) (apply k e)
      (both_give (λ (d : D). WordsRise k d.0) (λ (d : D). FlightsIssued k d.0 × (⊤ → GiftsKept k d.0)) One (apply k e) (words_rise k e coherent few)
      (both_give (λ (d : D). FlightsIssued k d.0) (λ (d : D). ⊤ → GiftsKept k d.0) (λ (d : D). FlightsIssued k d.0 × (⊤ → GiftsKept k d.0)) (apply k e) flights gifts (λ d x y. (x, y))) (λ d x y. (x, y)))
      (both_give (λ (d : D). (1 ≤ tot (word_of issued_word) (things_of d.0)) × (tot (first_words (unissued k)) (things_of d.0) ≡ 0)) (λ (d : D). (lent_words (unissued k) (sight d.0) ≡ 0) × IsCoherent d.0) Two (apply k e)
      (both_give (λ (d : D). 1 ≤ tot (word_of issued_word) (things_of d.0)) (λ (d : D). tot (first_words (unissued k)) (things_of d.0) ≡ 0) (λ (d : D). (1 ≤ tot (word_of issued_word) (things_of d.0)) × (tot (first_words (unissued k)) (things_of d.0) ≡ 0)) (apply k e)
      (shown k e coherent.sound few s here i old c t what at) (arrivals_leave_firsts k e old c t delivers coherent few) (λ d x y. (x, y)))
      (both_give (λ (d : D). lent_words (unissued k) (sight d.0) ≡ 0) (λ (d : D). IsCoherent d.0) (λ (d : D). (lent_words (unissued k) (sight d.0) ≡ 0) × IsCoherent d.0) (apply k e)
      (landings_leave_lent k e old c t delivers coherent few) (keep k e coherent few) (λ d x y. (x, y))) (λ d x y. (x, y)))
      (λ d x y. record { rise = x.0; flights = x.1.0; gifts = x.1.1 tt; shows = y.0.0; firsts = y.0.1; lent = y.1.0; coherent = y.1.1 })
    where
      One : D → Type 0
      One d = WordsRise k d.0 × (FlightsIssued k d.0 × (⊤ → GiftsKept k d.0))

      Two : D → Type 0
      Two d = ((1 ≤ tot (word_of issued_word) (things_of d.0)) × (tot (first_words (unissued k)) (things_of d.0) ≡ 0)) × ((lent_words (unissued k) (sight d.0) ≡ 0) × IsCoherent d.0)

-- THE KIND

is_moved : (m : Message) → message_kind m ≡ moved → (w : ℕ) × (c : Cell) × (t : ℕ) × (m ≡ message.Moved w c t)
is_moved (message.Moved w c t) e = (w, c, t, refl)
is_moved (message.Fetch w o a t) e = absurd (cc e)
is_moved _ e = absurd (cc e)

no_step : (i : Instr) → instr_kind i ≡ moved → ⊥
no_step (instr.Let o) e = cc e
no_step _ e = cc e

pub moves_legal : EventsKeepCoherence → CoherentEntriesLegal moved
moves_legal keep k e q coherent few c0 is_coloured = by (server_at k.servers e.server) refl
  where
    Then : Cluster × EntryView → Type 0
    Then d = LeadsOn k.options d.1 c0 d.0

    same_server : {x y : Server} → Some x ≡ Some y → x ≡ y
    same_server f = cc

    at : (s : Server) → server_at k.servers e.server ≡ Some s → DeliveryOf s moved e.what → Gives Then (apply k e)
    at s here v =
        let b = is_moved v.message v.sort in
        let waits : slice_get s.rest.inbox v.place ≡ Some (message.Moved b.0 b.1 b.2) = v.waits ∙ ap (λ z. Some z) b.3 in
        let w = new_word s.rest.partition in
        both_give (λ (d : Cluster × EntryView). Known k w d.0) (λ (d : Cluster × EntryView). Known k w d.0 → Then d) Then (apply k e) (known k e coherent few keep s here v.place b.0 b.1 b.2 v.what waits q)
        (applied_by (λ (d : Cluster × EntryView). Known k w d.0 → Then d) k e coherent.sound few (λ s2 here2 on.
        subst (λ (x : Server). Gives (λ (r : Server × EntryView). (d : Cluster) → Afterwards k x r.0 d → Known k w d → LeadsOn k.options r.1 c0 d) (does k.code k.options x e.what)) (same_server (sym here ∙ here2))
        (subst (λ u. Gives (λ (r : Server × EntryView). (d : Cluster) → Afterwards k s r.0 d → Known k w d → LeadsOn k.options r.1 c0 d) (does k.code k.options s u)) (sym v.what) (came k coherent few e.server s here c0 is_coloured v.place b.0 b.1 b.2 waits))))
        (λ d x l. l x)

    by : (r : Option Server) → server_at k.servers e.server ≡ r → Gives Then (apply k e)
    by None here = let none : then_some None (kind_at k e.what) ≡ Some moved = subst (λ r. then_some r (kind_at k e.what) ≡ Some moved) here q in absurd (cc none)
    by (Some s) here = at s here (delivery_of k s moved no_step (λ f. cc f) (λ f. cc f) e.what (subst (λ r. then_some r (kind_at k e.what) ≡ Some moved) here q))
