-- Where an object comes its word is new, so what was issued is issued.
use Rattle.std.proofs.Common.{◌≡◌, ◌≤◌, ◌<◌, ℕ, ◌^◌, ◌==◌, ◌&&◌, true, false, nat_lt, None, option_map, refl, sym, ap, ap₂, subst, ◌∙◌, arith}
use Rattle.std.proofs.lemmas.Bool.{eq-eqb}
use Rattle.law_words_issued.specs.Below.fr_base.declared.name.ObjNo.{ObjNo}
use Rattle.law_words_issued.specs.Below.global_addr.Words.{colour_of, server_of, address_of}
use Rattle.law_words_issued.specs.Below.heap_partition.declared.value.Cell.{Cell}
use Rattle.law_words_issued.proofs.Below.owner_box.Issued.{packed}
use Rattle.law_words_issued.specs.Below.owner_box.View.{PartitionState}
use Rattle.law_words_issued.specs.Below.owner_box.Partition.{next_place, new_word}
use Rattle.law_words_issued.specs.Below.server_msgs.declared.message.Message.TheVariants as message
use Rattle.law_words_issued.specs.Below.journal.View.{EntryView}
use Rattle.law_words_issued.specs.Below.server_model.declared.event.Event.{Event}
use Rattle.law_words_issued.specs.Below.server_model.Servers.{Server, Cluster}
use Rattle.law_words_issued.specs.Below.server_model.Work.{Site, then_some, at_thread}
use Rattle.law_words_issued.specs.Below.server_model.Objects.{deliver_moved}
use Rattle.law_words_issued.specs.Below.server_model.Events.{left_by, received, deliver_message, does}
use Rattle.law_words_issued.specs.Below.server_model.Clusters.{apply}
use Rattle.law_words_issued.specs.Below.coherent_memory.Names.{Among, tot, one, same_object}
use Rattle.law_words_issued.specs.Below.coherent_memory.Things.{Thing, lies, things_of}
use Rattle.law_words_issued.specs.Below.coherent_memory.Sight.{issued, sight}
use Rattle.law_words_issued.specs.Below.coherent_memory.Weights.{states}
use Rattle.law_words_issued.specs.Below.coherent_memory.Balances.{AtMostOne}
use Rattle.law_words_issued.specs.Below.coherent_memory.Words.{LeadsTo}
use Rattle.law_words_issued.specs.Below.coherent_memory.Coherent.{Holds, taken_stands}
use Rattle.law_words_issued.proofs.Below.coherent_memory.Names.{and_left, and_right}
use Rattle.law_words_issued.proofs.Below.coherent_memory.Words.{named}
use Rattle.law_words_issued.specs.Below.coherent_types.ClusterTypes.{IsCoherent}
use Rattle.law_words_issued.specs.Below.law_words_paths.paths.HeapStore.{HasPaths}
use Rattle.law_words_issued.proofs.Below.law_words_paths.paths.InState.{only_one}
use Rattle.law_words_issued.specs.Below.law_words_paths.words.Reworded.{HasPlaces}
use Rattle.law_words_issued.specs.Below.law_words_paths.words.Unmoved.{Delivers}
use Rattle.law_words_issued.specs.Below.law_counts_sums.Laws.{Gives, FewEvents}
use Rattle.law_words_issued.proofs.Below.law_counts_sums.Results.{over_gives, both_give, weaker}
use Rattle.law_words_issued.proofs.Below.law_counts_sums.Sending.{applied_part}
use Rattle.law_words_issued.proofs.Below.law_words_kept.reads.Flights.{found, truly}
use Rattle.law_words_issued.proofs.Below.law_heap_still.events.Addresses.{InPlace, in_place}
use Rattle.law_words_issued.proofs.Below.law_heap_still.events.Leaving.{others, placed_here}
use Rattle.law_words_issued.proofs.Below.law_results_reads.Pointing.{its_partition}
use Rattle.law_walks_own.proofs.Below.law_results_events.writes.Memory.{Sane}
use Rattle.law_walks_own.proofs.Below.law_results_events.writes.Routes.{sane_at, roomy_at}
use Rattle.law_walks_own.proofs.Below.law_walks_others.Below.law_words_asked.writes.Later.{later_itself, next_unissued, place_vacant}
use Rattle.law_words_issued.specs.Below.law_words_kept.prepared.Requests.{WordsRise}
use Rattle.law_words_issued.proofs.Below.law_words_ends.arrivals.Each.{words_rise}
use Rattle.law_walks_own.proofs.taken.AllStand.{each_stands}
use Rattle.law_words_issued.proofs.apart.UnderWay.{FlightsIssued, landing_flights}
use Rattle.law_words_issued.proofs.stays.Places.{laid, next_address}
use Rattle.law_words_issued.proofs.stays.Rising.{states_differ}
use Rattle.law_words_issued.proofs.stays.Coming.{Brought, ComesTo, comes_to, issued_where_it_comes}
use Rattle.law_words_issued.proofs.stays.Landing.{Landed, lands_at}
use Rattle.law_words_issued.specs.old.Old.{unissued, first_words, lent_words}
use Rattle.law_words_issued.proofs.old.Firsts.{arrivals_leave_firsts}
use Rattle.law_words_issued.specs.ever.Arrivals.{ArrivalsKeepWhatWasIssued}
use Rattle.law_words_issued.proofs.ever.There.{word_of, shown}
use Rattle.law_words_issued.proofs.ever.Fresh.{Home, at_home}

same_spot : (r a s b : ℕ) → s ≡ r → b ≡ a → one (s == r && b == a) ≡ 1
same_spot r a s b e f = ap₂ (λ p q. one (p && q)) (eq-eqb s r e) (eq-eqb b a f)

same_lying : (r a s b : ℕ) (c d : Cell) → lies r a c ≡ lies s b d → c ≡ d
same_lying r a s b c d e = cc

module _ (k : Cluster) (e : Event) (old : ℕ) (c : Cell) (t : ℕ) (d : Delivers k e (message.Moved old c t)) (coherent : IsCoherent k) (few : FewEvents k) where
  abbrev s : Server
  s = d.server

  abbrev n : ℕ
  n = s.rest.number

  abbrev p : PartitionState
  p = s.rest.partition

  abbrev w : ℕ
  w = new_word p

  abbrev a : ℕ
  a = next_address p

  abbrev o : ObjNo
  o = c.object

  -- THE NEW WORD

  sane : Sane p
  sane = sane_at k coherent few e.server s d.there

  within : (next_place p).0 < 2 ^ 40
  within = let r = roomy_at k coherent few e.server s d.there in let v = (place_vacant p sane).within in omega (arith, r, v)

  new : issued (sight k) w ≡ false
  new = next_unissued k coherent.sound e.server s d.there p (later_itself p) sane.small within

  parts : (server_of w ≡ n) × (address_of w ≡ a)
  parts = let q = packed (next_place p).1 p.server (next_place p).0 sane.small within in (q.1 ∙ (its_partition k coherent.sound e.server s d.there).0, q.2)

  -- THE EVENT

  placed : InPlace n p
  placed = in_place n s.events s.rest (others k coherent.sound e.server s d.there) (placed_here k coherent.sound e.server s d.there)

  abbrev x0 : Site
  x0 = received d.place s

  brings : Gives (Brought k e s d.there o) (does k.code k.options s e.what)
  brings =
      subst (λ v. Gives (Brought k e s d.there o) (does k.code k.options s v)) (sym d.what)
      (subst (λ q. Gives (Brought k e s d.there o) (option_map (left_by s.events None None) (then_some q (λ m. deliver_message k.code m x0)))) (sym d.message)
      (over_gives (λ (x : Site). Landed k.options.colours n p o x.work.rest) (Brought k e s d.there o) (at_thread t (deliver_moved k.code old c) x0) (left_by s.events None None)
      (lands_at k.options.colours n k.code old c t x0 refl placed) (λ x u. u)))

  flights : Gives (λ (z : Cluster × EntryView). FlightsIssued k z.0) (apply k e)
  flights =
      subst (λ v. Gives (λ (z : Cluster × EntryView). FlightsIssued k z.0) (apply k (record { server = e.server; what = v }))) (sym d.what)
      (landing_flights k coherent.sound few e.server d.place old s c t d.there d.message)

  -- WHAT IS KNOWN AFTERWARDS

  pub record Known (z : Cluster) : Type 0 where
    pub rise : WordsRise k z
    pub comes : ComesTo k n a o z
    pub shows : 1 ≤ tot (word_of w) (things_of z)
    pub firsts : tot (first_words (unissued k)) (things_of z) ≡ 0
    pub flies_old : FlightsIssued k z
    pub taken : Holds z taken_stands
    pub places : HasPlaces z
    pub differ : AtMostOne states (things_of z)

  abbrev First : Cluster × EntryView → Type 0
  First z = (WordsRise k z.0 × ComesTo k n a o z.0) × ((1 ≤ tot (word_of w) (things_of z.0)) × (tot (first_words (unissued k)) (things_of z.0) ≡ 0))

  abbrev Second : Cluster × EntryView → Type 0
  Second z = (FlightsIssued k z.0 × Holds z.0 taken_stands) × (HasPlaces z.0 × AtMostOne states (things_of z.0))

  first : Gives First (apply k e)
  first =
      both_give (λ (z : Cluster × EntryView). WordsRise k z.0 × ComesTo k n a o z.0) (λ (z : Cluster × EntryView). (1 ≤ tot (word_of w) (things_of z.0)) × (tot (first_words (unissued k)) (things_of z.0) ≡ 0)) First (apply k e)
      (both_give (λ (z : Cluster × EntryView). WordsRise k z.0) (λ (z : Cluster × EntryView). ComesTo k n a o z.0) (λ (z : Cluster × EntryView). WordsRise k z.0 × ComesTo k n a o z.0) (apply k e)
      (words_rise k e coherent few) (comes_to k e s d.there o coherent.sound few brings) (λ z x y. (x, y)))
      (both_give (λ (z : Cluster × EntryView). 1 ≤ tot (word_of w) (things_of z.0)) (λ (z : Cluster × EntryView). tot (first_words (unissued k)) (things_of z.0) ≡ 0)
      (λ (z : Cluster × EntryView). (1 ≤ tot (word_of w) (things_of z.0)) × (tot (first_words (unissued k)) (things_of z.0) ≡ 0)) (apply k e)
      (shown k e coherent.sound few s d.there d.place old c t d.what d.message) (arrivals_leave_firsts k e old c t d coherent few) (λ z x y. (x, y))) (λ z x y. (x, y))

  second : Gives Second (apply k e)
  second =
      both_give (λ (z : Cluster × EntryView). FlightsIssued k z.0 × Holds z.0 taken_stands) (λ (z : Cluster × EntryView). HasPlaces z.0 × AtMostOne states (things_of z.0)) Second (apply k e)
      (both_give (λ (z : Cluster × EntryView). FlightsIssued k z.0) (λ (z : Cluster × EntryView). Holds z.0 taken_stands) (λ (z : Cluster × EntryView). FlightsIssued k z.0 × Holds z.0 taken_stands) (apply k e)
      flights (each_stands k e coherent few) (λ z x y. (x, y)))
      (both_give (λ (z : Cluster × EntryView). HasPlaces z.0) (λ (z : Cluster × EntryView). AtMostOne states (things_of z.0)) (λ (z : Cluster × EntryView). HasPlaces z.0 × AtMostOne states (things_of z.0)) (apply k e)
      (applied_part HasPlaces (λ z u. record { numbers_differ = u.numbers_differ; home_of_each = u.home_of_each; owner_of_each = u.owner_of_each }) k e coherent.sound few)
      (applied_part (λ z. AtMostOne states (things_of z)) states_differ k e coherent.sound few) (λ z x y. (x, y))) (λ z x y. (x, y))

  known : Gives (λ (z : Cluster × EntryView). Known z.0) (apply k e)
  known =
      both_give First Second (λ (z : Cluster × EntryView). Known z.0) (apply k e) first second
      (λ z x y. record { rise = x.0.0; comes = x.0.1; shows = x.1.0; firsts = x.1.1; flies_old = y.0.0; taken = y.0.1; places = y.1.0; differ = y.1.1 })

  -- THE OBJECT'S WORD

  module _ (z : Cluster) (q : Known z) (paths : HasPaths z) (lent : lent_words (unissued k) (sight z) ≡ 0) where
    abbrev rise : WordsRise k z
    rise = q.rise

    abbrev comes : ComesTo k n a o z
    comes = q.comes

    -- an object lies where the new word leads
    home : Home z rise.has_words w
    home = at_home k z w new q.places paths rise.has_words rise.first_at_holder q.firsts lent q.flies_old q.taken q.shows

    -- there the one that came lies
    its_word : rise.has_words.word o ≡ w
    its_word = let f = found (laid n a o) (things_of z) comes.here in by f.0 f.1 f.2
      where
        by : (y : Thing) → Among y (things_of z) → 1 ≤ laid n a o y → rise.has_words.word o ≡ w
        by (lies r b x) h l =
            let all : ((r == n && b == a) && same_object x.object o) ≡ true = truly ((r == n && b == a) && same_object x.object o) l in
            let spot : (r == n && b == a) ≡ true = and_left (r == n && b == a) (same_object x.object o) all in
            let object : x.object ≡ o = named x.object o (and_right (r == n && b == a) (same_object x.object o) all) in
            let there : states (n, a) (lies r b x) ≡ 1 = ap one spot in
            let leads : LeadsTo home.server home.address (rise.has_words.word (home.cell).object) = rise.has_words.home home.server home.address home.cell home.among in
            let server : home.server ≡ n = sym leads.server ∙ ap server_of home.word ∙ parts.0 in
            let address : home.address ≡ a = sym leads.address ∙ ap address_of home.word ∙ parts.1 in
            let here : states (n, a) (lies home.server home.address home.cell) ≡ 1 = same_spot n a home.server home.address server address in
            let one_thing : lies home.server home.address home.cell ≡ lies r b x =
            only_one (states (n, a)) (lies home.server home.address home.cell) (lies r b x) (things_of z) (q.differ (n, a)) home.among h (omega (arith, here)) (omega (arith, there)) in
            let same : home.cell ≡ x = same_lying home.server home.address r b home.cell x one_thing in
            ap rise.has_words.word (sym (ap (λ (y : Cell). y.object) same ∙ object)) ∙ home.word
        by _ h l = absurd (omega (arith, l))

    pub stays_issued : (v : ℕ) → nat_lt (colour_of v) k.options.colours ≡ true → issued (sight k) v ≡ true → issued (sight z) v ≡ true
    stays_issued = issued_where_it_comes k z n a o coherent.sound rise comes (λ r b x h same. ap (issued (sight k)) its_word ∙ new)

pub arrivals_keep_issued : ArrivalsKeepWhatWasIssued
arrivals_keep_issued k e old c t d coherent few =
    weaker (λ (z : Cluster × EntryView). Known k e old c t d coherent few z.0) _ (apply k e) (known k e old c t d coherent few) (λ z q paths lent. stays_issued k e old c t d coherent few z.0 q paths lent)
