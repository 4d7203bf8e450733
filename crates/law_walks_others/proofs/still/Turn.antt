-- Who waits for an object or a copy waits in turn after each event that is no step and in which no object comes or goes.
use Rattle.std.proofs.Common.{◌≡◌, ℕ, ◌≤◌, ◌==◌, ◌&&◌, not, Bool, true, false, Option, Some, None, option_map, refl, sym, ap, subst, ◌∙◌, arith}
use Rattle.std.proofs.lemmas.Bool.Decides.{nat_tests}
use Rattle.std.specs.Prelude.{slice_get}
use Rattle.law_walks_others.specs.Below.fr_base.Names.{same_object}
use Rattle.law_walks_others.specs.Below.heap_partition.declared.value.Cell.{Cell}
use Rattle.law_walks_others.specs.Below.migration.Packing.{packed}
use Rattle.law_walks_others.specs.Below.thread_state.declared.phase.Phase.{Phase}
use Rattle.law_walks_others.specs.Below.thread_state.declared.phase.Phase.TheVariants as phase
use Rattle.law_walks_others.specs.Below.server_msgs.declared.message.Message.{Message}
use Rattle.law_walks_others.specs.Below.server_msgs.declared.message.Message.TheVariants as message
use Rattle.law_walks_others.specs.Below.journal.View.{EntryView}
use Rattle.law_walks_others.specs.Below.server_model.declared.event.Event.{Event}
use Rattle.law_walks_others.specs.Below.server_model.declared.event.What.{What}
use Rattle.law_walks_others.specs.Below.server_model.declared.event.What.TheVariants.{Step, Deliver, Evict, Migrate}
use Rattle.law_walks_others.specs.Below.server_model.Servers.{Server, Cluster, server_at}
use Rattle.law_walks_others.specs.Below.server_model.Work.{Hand}
use Rattle.law_walks_others.specs.Below.server_model.Objects.{waits_for_cell, filled}
use Rattle.law_walks_others.specs.Below.server_model.Events.{Stepped, begin_work, received, is_ready, step}
use Rattle.law_walks_others.specs.Below.server_model.Clusters.{apply}
use Rattle.law_walks_others.specs.Below.coherent_memory.Names.{tot, one, Among}
use Rattle.law_walks_others.specs.Below.coherent_memory.Things.{things_of}
use Rattle.law_walks_others.specs.Below.coherent_memory.Follow.{Standing, threads_in}
use Rattle.law_walks_others.specs.Below.coherent_memory.Paths.{Path, no_path, reads, shares, lends, writes, ends, Awaited}
use Rattle.law_walks_others.specs.Below.coherent_memory.Sight.{Sight, sight}
use Rattle.law_walks_others.specs.Below.coherent_memory.Turn.{TurnLaw}
use Rattle.law_walks_others.specs.Below.coherent_memory.Walking.{path, asked_for, in_turn, not_asked, out_of_turn}
use Rattle.law_walks_others.specs.Below.coherent_memory.Coherent.{IsSound, Holds, waits_in_turn}
use Rattle.law_walks_others.proofs.Below.coherent_memory.Turn.{turn_law}
use Rattle.law_walks_others.proofs.Below.coherent_memory.Words.{none_at, none_all}
use Rattle.law_walks_others.specs.Below.law_counts_sums.Kinds.{Kind, moved, message_kind, kind_at}
use Rattle.law_walks_others.specs.Below.law_counts_sums.Laws.{Gives, FewEvents}
use Rattle.law_walks_others.proofs.Below.law_counts_sums.Results.{map_gives, test_gives, both_give, weaker}
use Rattle.law_walks_others.proofs.Below.law_counts_things.things.Handed.{Stood, InParcel}
use Rattle.law_walks_others.specs.Below.law_words_kept.stays.Laws.{IsOfKind}
use Rattle.law_walks_others.specs.Below.law_words_paths.words.Unmoved.{Delivers}
use Rattle.law_walks_others.specs.Below.law_counts_waiting.waits.Steady.{IsSteady}
use Rattle.law_walks_others.proofs.Below.law_counts_waiting.waits.Fates.{Fates, fated}
use Rattle.law_walks_others.proofs.pointers.Sentences.{turn_kept}
use Rattle.law_walks_others.proofs.pointers.Steady.{Kept, kept, on_paths}
use Rattle.law_walks_others.proofs.pointers.Followed.{same_settings}
use Rattle.law_walks_others.specs.still.Deliveries.{BringsNoObject}
use Rattle.law_walks_others.proofs.still.Asked.{NoStep, lost, lost_of, lost_by, still_asked}
use Rattle.law_walks_others.proofs.still.Filled.{waits_cell, filled_waits}
use Rattle.law_walks_others.proofs.still.Sorts.{with_server, at_server, unstepped, not_stepping, no_object, places_in}

pub any_gives : {X : Type 0} (P : X → Type 0) (o : Option X) → ((x : X) → P x) → Gives P o
any_gives P None f = tt
any_gives P (Some x) f = f x

-- of each, and so of all
pub all_give : {A X : Type 0} (P : A → X → Type 0) (o : Option X) → ((a : A) → Gives (P a) o) → Gives (λ x. (a : A) → P a x) o
all_give P None g = tt
all_give P (Some x) g = λ a. g a

pub ready_is : (q : Phase) → is_ready q ≡ true → q ≡ phase.Ready
ready_is phase.Ready e = refl
ready_is q e = absurd (cc e)

-- THE MESSAGE STAYS

-- what asks for something for a thread, or brings it, is there still where the thread waits
abbrev Asked : Cluster → Cluster × EntryView → Type 0
Asked k d = (x : Standing) → Among x (threads_in (things_of d.0)) → waits_cell x.thread.phase ≡ true → (b : Awaited) → tot (asked_for x.thread.number b) (things_of k) ≤ tot (asked_for x.thread.number b) (things_of d.0)

pub none_else : (u t : ℕ) (p q : Bool) → (u ≡ t → ⊥) → one ((u == t && p) && q) ≡ 0
none_else u t p q ne = by (u == t) refl
  where
    by : (b : Bool) → (u == t) ≡ b → one ((b && p) && q) ≡ 0
    by true e = absurd (ne (grind (arith, nat_tests, e)))
    by false e = refl

module _ (k : Cluster) (e : Event) (sound : IsSound k) (few : FewEvents k) (still : NoStep e.what) where
  -- where nothing is brought
  unbrought : ((t : ℕ) (b : Awaited) (s : Server) → server_at k.servers e.server ≡ Some s → lost_by t b e.what s ≡ 0) → Gives (Asked k) (apply k e)
  unbrought none =
      weaker (λ (d : Cluster × EntryView). (a : ℕ × Awaited) → tot (asked_for a.0 a.1) (things_of k) ≤ tot (asked_for a.0 a.1) (things_of d.0)) (Asked k) (apply k e)
      (all_give (λ (a : ℕ × Awaited) (d : Cluster × EntryView). tot (asked_for a.0 a.1) (things_of k) ≤ tot (asked_for a.0 a.1) (things_of d.0)) (apply k e) (λ a. still_asked a.0 a.1 k e sound few still (none a.0 a.1)))
      (λ d all x among waits b. all (x.thread.number, b))

  -- where something is brought to one thread, of the others
  abbrev pub But : ℕ → Cluster × EntryView → Type 0
  But u d = (t : ℕ) (b : Awaited) → (u ≡ t → ⊥) → tot (asked_for t b) (things_of k) ≤ tot (asked_for t b) (things_of d.0)

  pub others_asked : (u : ℕ) → ((t : ℕ) (b : Awaited) → (u ≡ t → ⊥) → (s : Server) → server_at k.servers e.server ≡ Some s → lost_by t b e.what s ≡ 0) → Gives (But u) (apply k e)
  others_asked u none =
      weaker (λ (d : Cluster × EntryView). (a : (t : ℕ) × Awaited × (u ≡ t → ⊥)) → tot (asked_for a.0 a.1) (things_of k) ≤ tot (asked_for a.0 a.1) (things_of d.0)) (But u) (apply k e)
      (all_give (λ (a : (t : ℕ) × Awaited × (u ≡ t → ⊥)) (d : Cluster × EntryView). tot (asked_for a.0 a.1) (things_of k) ≤ tot (asked_for a.0 a.1) (things_of d.0)) (apply k e) (λ a. still_asked a.0 a.1 k e sound few still (none a.0 a.1 a.2)))
      (λ d all t b ne. all (t, b, ne))

same : {X : Type 0} {a b : X} → Some a ≡ Some b → a ≡ b
same e = cc

-- after each event that is no step and brings no object
module _ (k : Cluster) (e : Event) (kind : Kind) (sound : IsSound k) (few : FewEvents k) (still : NoStep e.what) (quiet : moved ≡ kind → ⊥) (s : Server) (here : server_at k.servers e.server ≡ Some s) where
  by_message : (i : ℕ) → e.what ≡ Deliver i → (m : Message) → slice_get s.rest.inbox i ≡ Some m → message_kind m ≡ kind → Gives (Asked k) (apply k e)
  by_message i is m q at = of m q at
    where
      lost_there : (t : ℕ) (b : Awaited) (m : Message) → slice_get s.rest.inbox i ≡ Some m → (s2 : Server) → server_at k.servers e.server ≡ Some s2 → lost_by t b e.what s2 ≡ lost t b m
      lost_there t b m q s2 there =
          ap (λ w. lost_by t b w s2) is ∙ ap (λ (z : Server). lost_by t b (Deliver i) z) (same (sym there ∙ here)) ∙ ap (lost_of t b) q

      other : (m : Message) → slice_get s.rest.inbox i ≡ Some m → ((t : ℕ) (b : Awaited) → lost t b m ≡ 0) → Gives (Asked k) (apply k e)
      other m q none = unbrought k e sound few still (λ t b s2 there. lost_there t b m q s2 there ∙ none t b)

      of : (m : Message) → slice_get s.rest.inbox i ≡ Some m → message_kind m ≡ kind → Gives (Asked k) (apply k e)
      of (message.Fetched w c u) q at =
          let d : Delivers k e (message.Fetched w c u) = record { place = i; what = is; server = s; there = here; message = q } in
          both_give (But k e sound few still u) (λ (r : Cluster × EntryView). (x : Standing) → Among x (threads_in (things_of r.0)) → x.thread.number ≡ u → waits_cell x.thread.phase ≡ false) (Asked k) (apply k e)
          (others_asked k e sound few still u (λ t b ne s2 there. lost_there t b (message.Fetched w c u) q s2 there ∙ none_else u t (not b.comes) (b.word == w && same_object c.object b.object) ne)) (filled_waits u k e w c d sound few)
          (λ r but filled x among waits b. but x.thread.number b (λ f. let no : waits_cell x.thread.phase ≡ false = filled x among (sym f) in absurd (cc (sym waits ∙ no))))
      of (message.Moved w c u) q at = absurd (quiet at)
      of m q at = other m q (λ t b. refl)

  by_what : (w : What) → e.what ≡ w → kind_at k w s ≡ Some kind → Gives (Asked k) (apply k e)
  by_what (Step t) is q = absurd (not_stepping e.what still t is)
  by_what (Evict c) is q = unbrought k e sound few still (λ t b s2 there. ap (λ w. lost_by t b w s2) is)
  by_what (Migrate t target) is q = unbrought k e sound few still (λ t b s2 there. ap (λ w. lost_by t b w s2) is)
  by_what (Deliver i) is q = by (slice_get s.rest.inbox i) refl q
    where
      by : (o : Option Message) → slice_get s.rest.inbox i ≡ o → option_map message_kind o ≡ Some kind → Gives (Asked k) (apply k e)
      by None f g = absurd (cc g)
      by (Some m) f g = by_message i is m f (same g)

  pub asked_then : kind_at k e.what s ≡ Some kind → Gives (Asked k) (apply k e)
  asked_then q = by_what e.what refl q

-- WHO WAITS

abbrev bare : Standing → Standing
bare x = record { server = x.server; packed = false; thread = x.thread }

abbrev weight : Cluster → Standing → ℕ
weight k x = out_of_turn (sight k) (bare x) x.thread.phase

-- whether it goes in a parcel makes no difference
turn_bare : (s : Sight) (x : Standing) (w : ℕ) (p : Path) → in_turn s (bare x) w p ≡ in_turn s x w p
turn_bare s x w no_path = refl
turn_bare s x w (reads p) = refl
turn_bare s x w (shares p) = refl
turn_bare s x w (lends p) = refl
turn_bare s x w (writes p) = refl
turn_bare s x w (ends r) = refl

asked_bare : (s : Sight) (x : Standing) (w : ℕ) (o : Option Awaited) → not_asked s (bare x) w o ≡ not_asked s x w o
asked_bare s x w None = refl
asked_bare s x w (Some a) = refl

out_bare : (s : Sight) (x : Standing) (q : Phase) → out_of_turn s (bare x) q ≡ out_of_turn s x q
out_bare s x (phase.WaitCell w) = ap (not_asked s (bare x) w) (turn_bare s x w (path s x)) ∙ asked_bare s x w (in_turn s x w (path s x))
out_bare s x q = refl

pub unwaiting : (s : Sight) (x : Standing) (q : Phase) → waits_cell q ≡ false → out_of_turn s x q ≡ 0
unwaiting s x (phase.WaitCell w) e = absurd (cc e)
unwaiting s x q e = refl

module _ (k : Cluster) (sound : IsSound k) where
  none_before : tot (weight k) (threads_in (things_of k)) ≡ 0
  none_before = none_all (weight k) (threads_in (things_of k)) (λ x among. out_bare (sight k) x x.thread.phase ∙ none_at (λ y. out_of_turn (sight k) y y.thread.phase) x (threads_in (things_of k)) (let law : TurnLaw = turn_law in law.none_counted (sight k) sound.walks.wait_in_turn) among)

  fates : (e : Event) (still : NoStep e.what) (s : Server) (quiet : (i t v : ℕ) (c : Cell) → e.what ≡ Deliver i → slice_get s.rest.inbox i ≡ Some (message.Moved v c t) → ⊥) → Fates k.code k.options s e.what (Stood (weight k) s.rest.number) (InParcel (weight k))
  fates e still s quiet = record {
    steps = λ t y i is able there p code. any_gives (λ (d : Stepped). Stood (weight k) s.rest.number d.hand.thread) (step k.options.servers i (record { work = begin_work s.rest; thread = y })) (λ d. absurd (not_stepping e.what still t is));
    comes = λ i t v c y is there at p. absurd (quiet i t v c is there);
    copied = λ i t v c y is there at p.
        test_gives (λ (h2 : Hand). Stood (weight k) s.rest.number h2.thread) (waits_for_cell y.phase v) _ (λ z.
        map_gives (λ (h2 : Hand). Stood (weight k) s.rest.number h2.thread) (filled v c (record { work = (received i s).work; thread = y })) _ (λ h2 q. refl));
    given_it = λ t y v at p a. refl;
    paired = λ t a b y at p q. refl;
    arrives = λ t q. q;
    starts = λ t n y i u pc vs at p there d. refl;
    leaves = λ t n y at p r. ap (out_of_turn (sight k) (record { server = n; packed = false; thread = packed (record y { moved_since_step = true }) })) (ready_is y.phase r);
  }

-- AFTERWARDS

module _ (kind : Kind) (steady : IsSteady kind) (brings : BringsNoObject kind) (k : Cluster) (e : Event) (q : IsOfKind kind k e) (sound : IsSound k) (few : FewEvents k) (s : Server) (here : server_at k.servers e.server ≡ Some s) where
  at_it : kind_at k e.what s ≡ Some kind
  at_it = at_server kind k e q s here

  still_there : NoStep e.what
  still_there = unstepped kind brings k s e.what at_it

  not_moved : moved ≡ kind → ⊥
  not_moved f = subst IsSteady (sym f) steady

  abbrev Settings : Cluster × EntryView → Type 0
  Settings d = (d.0.code ≡ k.code) × (d.0.options ≡ k.options)

  abbrev Known : Cluster × EntryView → Type 0
  Known d = (Kept k d × Settings d) × Asked k d

  known : Gives Known (apply k e)
  known =
      both_give (λ (d : Cluster × EntryView). Kept k d × Settings d) (Asked k) Known (apply k e) (both_give (Kept k) Settings (λ (d : Cluster × EntryView). Kept k d × Settings d) (apply k e) (kept kind steady k e q sound few) (same_settings k e) (λ d a b. (a, b)))
      (asked_then k e kind sound few still_there not_moved s here at_it) (λ d a b. (a, b))

  weighs_none : Gives (λ (d : Cluster × EntryView). tot (weight k) (threads_in (things_of d.0)) ≡ 0) (apply k e)
  weighs_none = fated (weight k) k e sound few (none_before k sound) (λ s2 there. fates k sound e still_there s2 (no_object kind steady k e q s2 there))

  then_turn : (d : Cluster × EntryView) → Known d → tot (weight k) (threads_in (things_of d.0)) ≡ 0 → Holds d.0 waits_in_turn
  then_turn d a z = none_all (λ x. out_of_turn (sight d.0) x x.thread.phase) (threads_in (things_of d.0)) (λ x among. by x among (waits_cell x.thread.phase) refl)
    where
      c : Cluster
      c = d.0

      by : (x : Standing) → Among x (threads_in (things_of c)) → (b : Bool) → waits_cell x.thread.phase ≡ b → out_of_turn (sight c) x x.thread.phase ≡ 0
      by x among false f = unwaiting (sight c) x x.thread.phase f
      by x among true f =
          turn_kept k c x a.0.1.0 a.0.1.1 (on_paths k c (places_in sound) a.0.0.0 a.0.0.1.0 a.0.0.1.1 x.thread.number (path (sight k) x)) (λ b. a.1 x among f b) x.thread.phase
          (sym (out_bare (sight k) x x.thread.phase) ∙ none_at (weight k) x (threads_in (things_of c)) z among)

  pub turn_then : Gives (λ (d : Cluster × EntryView). Holds d.0 waits_in_turn) (apply k e)
  turn_then = both_give Known (λ (d : Cluster × EntryView). tot (weight k) (threads_in (things_of d.0)) ≡ 0) (λ (d : Cluster × EntryView). Holds d.0 waits_in_turn) (apply k e) known weighs_none (λ d a z. then_turn d a z)

pub turn_steady : (kind : Kind) → IsSteady kind → BringsNoObject kind → (k : Cluster) (e : Event) → IsOfKind kind k e → IsSound k → FewEvents k → Gives (λ (d : Cluster × EntryView). Holds d.0 waits_in_turn) (apply k e)
turn_steady kind steady brings k e q sound few = with_server (λ (d : Cluster × EntryView). Holds d.0 waits_in_turn) k e (λ s here. turn_then kind steady brings k e q sound few s here)
