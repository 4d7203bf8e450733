-- What a thread has passed for a write lies at its server after each event that is no step and brings no object.
use Rattle.std.proofs.Common.{◌≡◌, ℕ, ◌+◌, ◌≤◌, ◌==◌, ◌&&◌, not, nat_le, Bool, true, false, List, [], ◌∷◌, ◌++◌, Option, Some, None, refl, ap, subst, ◌∙◌, arith}
use Rattle.std.specs.Prelude.{slice_get}
use Rattle.std.proofs.lemmas.Bool.Decides.{nat_tests}
use Rattle.law_walks_others.specs.Below.fr_base.Lists.{is_in}
use Rattle.law_walks_others.specs.Below.fr_base.declared.name.ObjNo.{ObjNo}
use Rattle.law_walks_others.specs.Below.fr_base.declared.place.Lval.{Lval}
use Rattle.law_walks_others.specs.Below.fr_base.declared.instruction.Instr.{Instr}
use Rattle.law_walks_others.specs.Below.fr_base.declared.instruction.Instr.TheVariants as instr
use Rattle.law_walks_others.specs.Below.heap_partition.declared.value.Cell.{Cell}
use Rattle.law_walks_others.specs.Below.heap_partition.declared.value.Owned.{Owned}
use Rattle.law_walks_others.specs.Below.migration.Packing.{packed}
use Rattle.law_walks_others.specs.Below.read_cache.Cache.{can_fill, can_pin}
use Rattle.law_walks_others.specs.Below.thread_state.View.{ThreadState, new_thread}
use Rattle.law_walks_others.specs.Below.thread_state.declared.phase.Phase.{Phase}
use Rattle.law_walks_others.specs.Below.thread_state.declared.phase.Phase.TheVariants as phase
use Rattle.law_walks_others.specs.Below.server_msgs.declared.message.Message.TheVariants as message
use Rattle.law_walks_others.specs.Below.journal.View.{EntryView}
use Rattle.law_walks_others.specs.Below.server_model.declared.event.Event.{Event}
use Rattle.law_walks_others.specs.Below.server_model.declared.event.What.TheVariants.{Deliver}
use Rattle.law_walks_others.specs.Below.server_model.Servers.{Server, Cluster, server_at}
use Rattle.law_walks_others.specs.Below.server_model.Work.{Hand, thread_in, used_once}
use Rattle.law_walks_others.specs.Below.server_model.Objects.{waits_for_cell, filled}
use Rattle.law_walks_others.specs.Below.server_model.Events.{Stepped, begin_work, received, step}
use Rattle.law_walks_others.specs.Below.server_model.Clusters.{apply}
use Rattle.law_walks_others.specs.Below.coherent_memory.Names.{tot, one, other, Among}
use Rattle.law_walks_others.specs.Below.coherent_memory.Things.{Thing, lies, things_of}
use Rattle.law_walks_others.specs.Below.coherent_memory.Follow.{Standing, threads_in}
use Rattle.law_walks_others.specs.Below.coherent_memory.Paths.{path_of, written_place}
use Rattle.law_walks_others.specs.Below.coherent_memory.Passing.{PassedLaw}
use Rattle.law_walks_others.specs.Below.coherent_memory.Sight.{Sight, sight}
use Rattle.law_walks_others.specs.Below.coherent_memory.Weights.{lies_at}
use Rattle.law_walks_others.specs.Below.coherent_memory.Walking.{instr_of, path, over_place, over_passed, away, early, hop_count, too_far}
use Rattle.law_walks_others.specs.Below.coherent_memory.Coherent.{IsSound, Holds, passed_lie_here}
use Rattle.law_walks_others.proofs.Below.coherent_memory.Passing.{passed_law}
use Rattle.law_walks_others.proofs.Below.coherent_memory.Words.{none_at, none_all}
use Rattle.law_walks_others.specs.Below.law_counts_sums.Kinds.{Kind}
use Rattle.law_walks_others.specs.Below.law_counts_sums.Laws.{Gives, FewEvents}
use Rattle.law_walks_others.proofs.Below.law_counts_sums.Results.{over_gives, test_gives, both_give}
use Rattle.law_walks_others.proofs.Below.law_counts_things.things.Handed.{Stood, InParcel}
use Rattle.law_walks_others.specs.Below.law_words_kept.stays.Laws.{IsOfKind}
use Rattle.law_walks_others.proofs.Below.law_words_kept.stays.Alike.{Alike}
use Rattle.law_walks_others.specs.Below.law_counts_waiting.waits.Steady.{IsSteady}
use Rattle.law_walks_others.proofs.Below.law_counts_waiting.waits.Fates.{Fates, fated}
use Rattle.law_walks_others.proofs.Below.law_counts_waiting.waits.Found.{weighing, among_weighs}
use Rattle.law_walks_others.proofs.pointers.Steady.{Kept, kept, on_paths}
use Rattle.law_walks_others.proofs.pointers.Followed.{same_settings}
use Rattle.law_walks_others.specs.still.Deliveries.{BringsNoObject}
use Rattle.law_walks_others.proofs.still.Asked.{NoStep}
use Rattle.law_walks_others.proofs.still.Sorts.{with_server, at_server, unstepped, not_stepping, no_object, places_in}
use Rattle.law_walks_others.proofs.still.Turn.{any_gives, ready_is}
use Rattle.law_walks_others.proofs.still.Passing.{away_still}

-- WHO PASSED SOMETHING

-- what it has passed that isn't there, and whether it has passed more than there are
abbrev pub weight : Cluster → Standing → ℕ
weight k x = over_passed (sight k) (away (sight k)) x + too_far (sight k) x

-- the path sees neither the walk nor the gift nor the phase
path_walk : (o : Option Instr) (t : ThreadState) (ws : List ℕ) (g : Option Owned) (q : Phase) → path_of o (record t { walk = ws; gift = g; phase = q }) ≡ path_of o t
path_walk None t ws g q = refl
path_walk (Some (instr.Read w true)) t ws g q = refl
path_walk (Some (instr.Read w false)) t ws g q = refl
path_walk (Some i) t ws g q = refl

same_weight : (k : Cluster) (n : ℕ) (p : Bool) (t : ThreadState) (ws : List ℕ) (g : Option Owned) (q : Phase) → weight k (record { server = n; packed = p; thread = record t { walk = ws; gift = g; phase = q } }) ≡ weight k (record { server = n; packed = p; thread = t })
same_weight k n p t ws g q = ap (λ w. over_place (sight k).ground t.number t.passed (away (sight k) n) (written_place w) + other (nat_le t.passed (hop_count (written_place w)))) (path_walk (slice_get k.code t.pc) t ws g q)

none_passed : (s : Sight) (r t : ℕ) (o : Option Lval) → over_place s.ground t 0 (away s r) o + other (nat_le 0 (hop_count o)) ≡ 0
none_passed s r t None = refl
none_passed s r t (Some w) = least w.depth
  where
    least : (n : ℕ) → 0 + other (nat_le 0 n) ≡ 0
    least n = let e : nat_le 0 n ≡ true = grind (arith, nat_tests) in omega (arith, ap other e)

unpassed : (m : ℕ) (b : Bool) → (m == 0) ≡ b → one (true && not b) ≡ 0 → m ≡ 0
unpassed m true f z = grind (arith, nat_tests, f)
unpassed m false f z = absurd (cc z)

ready_unpassed : (x : Standing) → x.thread.phase ≡ phase.Ready → early x ≡ 0 → x.thread.passed ≡ 0
ready_unpassed x e z = unpassed x.thread.passed (x.thread.passed == 0) refl (subst (λ q. one (not (Rattle.law_walks_others.specs.Below.coherent_memory.Walking.in_walk q) && not (x.thread.passed == 0)) ≡ 0) e z)

module _ (k : Cluster) (sound : IsSound k) where
  none_before : tot (weight k) (threads_in (things_of k)) ≡ 0
  none_before =
      let law : PassedLaw = passed_law in
      let none = law.none_counted k sound.walks.have_passed in
      let one : tot (over_passed (sight k) (away (sight k))) (threads_in (things_of k)) ≡ 0 = omega (arith, none) in
      none_all (weight k) (threads_in (things_of k)) (λ x among. omega (arith, none_at (over_passed (sight k) (away (sight k))) x (threads_in (things_of k)) one among, none_at (too_far (sight k)) x (threads_in (things_of k)) sound.walks.passed_within among))

  fates : (e : Event) (still : NoStep e.what) (s : Server) → server_at k.servers e.server ≡ Some s → (quiet : (i t v : ℕ) (c : Cell) → e.what ≡ Deliver i → slice_get s.rest.inbox i ≡ Some (message.Moved v c t) → ⊥) → Fates k.code k.options s e.what (Stood (weight k) s.rest.number) (InParcel (weight k))
  fates e still s here quiet = record {
    steps = λ t y i is able there p code. any_gives (λ (d : Stepped). Stood (weight k) s.rest.number d.hand.thread) (step k.options.servers i (record { work = begin_work s.rest; thread = y })) (λ d. absurd (not_stepping e.what still t is));
    comes = λ i t v c y is there at p. absurd (quiet i t v c is there);
    copied = λ i t v c y is there at p.
        test_gives (λ (h2 : Hand). Stood (weight k) s.rest.number h2.thread) (waits_for_cell y.phase v) _ (λ z.
        over_gives Weightless (λ (h2 : Hand). Stood (weight k) s.rest.number h2.thread) (filled v c (record { work = (received i s).work; thread = y })) _ (fills v c (record { work = (received i s).work; thread = y }) p)
        (λ h2 g. same_weight k s.rest.number false h2.thread h2.thread.walk h2.thread.gift phase.Got ∙ g));
    given_it = λ t y v at p a. same_weight k s.rest.number false y y.walk (Some v) phase.Got ∙ p;
    paired = λ t a b y at p q. same_weight k s.rest.number false y y.walk y.gift (phase.GotPar a b) ∙ p;
    arrives = λ t q. q;
    starts = λ t n y i u pc vs at p there d. none_passed (sight k) n u (written_place (path_of (slice_get k.code pc) (new_thread u pc vs)));
    leaves = λ t n y at p r.
        let none : y.passed ≡ 0 = ready_unpassed (record { server = s.rest.number; packed = false; thread = y }) (ready_is y.phase r) (early_there t y at) in
        ap (λ m. over_place (sight k).ground y.number m (away (sight k) n) (written_place (path_of (slice_get k.code y.pc) (packed (record y { moved_since_step = true })))) + other (nat_le m (hop_count (written_place (path_of (slice_get k.code y.pc) (packed (record y { moved_since_step = true }))))))) none
        ∙ none_passed (sight k) n y.number (written_place (path_of (slice_get k.code y.pc) (packed (record y { moved_since_step = true }))));
  }
    where
      Weightless : Hand → Type 0
      Weightless h = Stood (weight k) s.rest.number h.thread

      uses : (v : ℕ) (b : Bool) (h : Hand) → Weightless h → Gives Weightless (used_once v b h)
      uses v true h g = g
      uses v false h g = test_gives Weightless (can_pin h.work.rest.cache v) _ (λ z. same_weight k s.rest.number false h.thread (h.thread.walk ++ v ∷ []) h.thread.gift h.thread.phase ∙ g)

      fills : (v : ℕ) (c : Cell) (h : Hand) → Weightless h → Gives Weightless (filled v c h)
      fills v c h g = test_gives Weightless (can_fill h.work.rest.cache v c) _ (λ p. uses v (is_in v h.thread.walk) _ g)

      early_there : (t : ℕ) (y : ThreadState) → thread_in s.threads t ≡ Some y → early (record { server = s.rest.number; packed = false; thread = y }) ≡ 0
      early_there t y there =
          none_at early (record { server = s.rest.number; packed = false; thread = y }) (threads_in (things_of k)) sound.walks.passed_in_a_walk
          (Rattle.law_walks_others.proofs.Below.law_words_paths.paths.Contained.among_thread (sight k).ground.threads t (record { server = s.rest.number; packed = false; thread = y }) (Rattle.law_walks_others.proofs.Below.law_counts_sums.ThreadThere.thread_there k sound e.server s here t y there)).0

-- AFTERWARDS

-- where nothing changes that words see, objects lie where they lay
lies_on : (k c : Cluster) → Alike k.code (things_of k) (things_of c) → (r : ℕ) (o : ObjNo) → 1 ≤ tot (lies_at r o) (things_of k) → 1 ≤ tot (lies_at r o) (things_of c)
lies_on k c alike r o l = let a = weighing (lies_at r o) (things_of k) l in by a.thing a.among a.weighs
  where
    by : (x : Thing) → Among x (things_of k) → 1 ≤ lies_at r o x → 1 ≤ tot (lies_at r o) (things_of c)
    by (lies s a d) h w = omega (arith, w, among_weighs (lies_at r o) (lies s a d) (things_of c) (alike.on (lies s a d) h))
    by _ h w = absurd (omega (arith, w))

module _ (kind : Kind) (steady : IsSteady kind) (brings : BringsNoObject kind) (k : Cluster) (e : Event) (q : IsOfKind kind k e) (sound : IsSound k) (few : FewEvents k) (s : Server) (here : server_at k.servers e.server ≡ Some s) where
  still_there : NoStep e.what
  still_there = unstepped kind brings k s e.what (at_server kind k e q s here)

  abbrev Settings : Cluster × EntryView → Type 0
  Settings d = (d.0.code ≡ k.code) × (d.0.options ≡ k.options)

  known : Gives (λ (d : Cluster × EntryView). Kept k d × Settings d) (apply k e)
  known = both_give (Kept k) Settings (λ (d : Cluster × EntryView). Kept k d × Settings d) (apply k e) (kept kind steady k e q sound few) (same_settings k e) (λ d a b. (a, b))

  weighs_none : Gives (λ (d : Cluster × EntryView). tot (weight k) (threads_in (things_of d.0)) ≡ 0) (apply k e)
  weighs_none = fated (weight k) k e sound few (none_before k sound) (λ s2 there. fates k sound e still_there s2 there (no_object kind steady k e q s2 there))

  then_lie : (d : Cluster × EntryView) → Kept k d × Settings d → tot (weight k) (threads_in (things_of d.0)) ≡ 0 → Holds d.0 passed_lie_here
  then_lie d a z =
      none_all (over_passed (sight d.0) (away (sight d.0))) (threads_in (things_of d.0)) (λ x among.
      let none : weight k x ≡ 0 = none_at (weight k) x (threads_in (things_of d.0)) z among in
      away_still k d.0 x a.1.0 (on_paths k d.0 (places_in sound) a.0.0 a.0.1.0 a.0.1.1 x.thread.number (path (sight k) x)) (λ w is i o lt led l. lies_on k d.0 a.0.1.1 x.server o l) (omega (arith, none)) (omega (arith, none)))

  pub lie_then : Gives (λ (d : Cluster × EntryView). Holds d.0 passed_lie_here) (apply k e)
  lie_then = both_give (λ (d : Cluster × EntryView). Kept k d × Settings d) (λ (d : Cluster × EntryView). tot (weight k) (threads_in (things_of d.0)) ≡ 0) (λ (d : Cluster × EntryView). Holds d.0 passed_lie_here) (apply k e) known weighs_none then_lie

pub lie_steady : (kind : Kind) → IsSteady kind → BringsNoObject kind → (k : Cluster) (e : Event) → IsOfKind kind k e → IsSound k → FewEvents k → Gives (λ (d : Cluster × EntryView). Holds d.0 passed_lie_here) (apply k e)
lie_steady kind steady brings k e q sound few = with_server (λ (d : Cluster × EntryView). Holds d.0 passed_lie_here) k e (λ s here. lie_then kind steady brings k e q sound few s here)
