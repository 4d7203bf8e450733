-- What threads have passed has no copy after each event in which no object comes or goes, no pointer gets another word and no thread steps.
use Rattle.std.proofs.Common.{◌≡◌, ℕ, ◌+◌, ◌==◌, ◌&&◌, not, nat_le, Bool, true, false, List, ◌∷◌, ◌++◌, [], Option, Some, None, refl, ap, subst, ◌∙◌, arith}
use Rattle.std.specs.Prelude.{slice_get}
use Rattle.std.proofs.lemmas.Bool.Decides.{nat_tests}
use Rattle.law_copies_kept.specs.Below.fr_base.Lists.{is_in}
use Rattle.law_copies_kept.specs.Below.fr_base.declared.place.Lval.{Lval}
use Rattle.law_copies_kept.specs.Below.fr_base.declared.instruction.Instr.{Instr}
use Rattle.law_copies_kept.specs.Below.fr_base.declared.instruction.Instr.TheVariants as instr
use Rattle.law_copies_kept.specs.Below.heap_partition.declared.value.Cell.{Cell}
use Rattle.law_copies_kept.specs.Below.heap_partition.declared.value.Owned.{Owned}
use Rattle.law_copies_kept.specs.Below.migration.Packing.{packed}
use Rattle.law_copies_kept.specs.Below.read_cache.Cache.{can_fill, can_pin}
use Rattle.law_copies_kept.specs.Below.thread_state.View.{ThreadState, new_thread}
use Rattle.law_copies_kept.specs.Below.thread_state.declared.phase.Phase.{Phase}
use Rattle.law_copies_kept.specs.Below.thread_state.declared.phase.Phase.TheVariants as phase
use Rattle.law_copies_kept.specs.Below.server_msgs.declared.message.Message.TheVariants as message
use Rattle.law_copies_kept.specs.Below.journal.View.{EntryView}
use Rattle.law_copies_kept.specs.Below.server_model.declared.event.Event.{Event}
use Rattle.law_copies_kept.specs.Below.server_model.declared.event.What.TheVariants.{Deliver}
use Rattle.law_copies_kept.specs.Below.server_model.Servers.{Server, Cluster, server_at}
use Rattle.law_copies_kept.specs.Below.server_model.Work.{Hand, thread_in, used_once}
use Rattle.law_copies_kept.specs.Below.server_model.Objects.{waits_for_cell, filled}
use Rattle.law_copies_kept.specs.Below.server_model.Events.{Stepped, begin_work, received, step}
use Rattle.law_copies_kept.specs.Below.server_model.Clusters.{apply}
use Rattle.law_copies_kept.specs.Below.coherent_memory.Names.{tot, one, other}
use Rattle.law_copies_kept.specs.Below.coherent_memory.Things.{Location, things_of}
use Rattle.law_copies_kept.specs.Below.coherent_memory.Follow.{Standing, threads_in}
use Rattle.law_copies_kept.specs.Below.thread_state.declared.value.Value.{Value}
use Rattle.law_copies_kept.specs.Below.coherent_memory.Paths.{path_of, written_place}
use Rattle.law_copies_kept.specs.Below.coherent_memory.Sight.{Sight, sight}
use Rattle.law_copies_kept.specs.Below.coherent_memory.Walking.{path, in_walk, over_place, over_passed, copied_box, early, hop_count, too_far}
use Rattle.law_copies_kept.specs.Below.coherent_memory.Coherent.{IsSound, Holds, passed_not_copied}
use Rattle.law_copies_kept.proofs.Below.coherent_memory.Words.{none_at, none_all}
use Rattle.law_copies_kept.specs.Below.coherent_types.ClusterTypes.{IsCoherent}
use Rattle.law_copies_kept.specs.Below.law_counts_sums.Kinds.{Kind}
use Rattle.law_copies_kept.specs.Below.law_counts_sums.Laws.{Gives, FewEvents}
use Rattle.law_copies_kept.proofs.Below.law_counts_sums.Results.{over_gives, test_gives, both_give, given_by}
use Rattle.law_walks_own.proofs.Below.law_counts_things.things.Handed.{Stood, InParcel}
use Rattle.law_walks_others.specs.Below.law_words_kept.stays.Laws.{IsOfKind}
use Rattle.law_walks_own.specs.Below.law_counts_waiting.waits.Steady.{IsSteady}
use Rattle.law_walks_own.proofs.Below.law_counts_waiting.waits.Fates.{Fates, fated}
use Rattle.law_walks_own.proofs.Below.law_walks_others.pointers.Steady.{Kept, kept, on_paths}
use Rattle.law_walks_own.proofs.Below.law_walks_others.pointers.Followed.{same_settings}
use Rattle.law_walks_own.proofs.taken.Landed.{all_give}
use Rattle.law_walks_others.specs.still.Deliveries.{BringsNoObject}
use Rattle.law_walks_others.proofs.still.Asked.{NoStep}
use Rattle.law_walks_others.proofs.still.Sorts.{with_server, at_server, unstepped, not_stepping, no_object, places_in}
use Rattle.law_walks_others.proofs.still.Turn.{any_gives, ready_is}
use Rattle.law_walks_own.proofs.passed.Passed.{passed_uncopied}
use Rattle.law_walks_own.proofs.passed.Then.{OnePassed, NoneThen, before_uncopied, on_written, uncopied_still}

-- by the result
pub result_gives : {X : Type 0} (P : X → Type 0) (o : Option X) → ((x : X) → o ≡ Some x → P x) → Gives P o
result_gives P None f = tt
result_gives P (Some x) f = f x refl

-- WHO PASSED SOMETHING

-- what is told of the hops that a thread has passed
abbrev Told : Type 0
Told = ℕ → Option Location → Option Value → ℕ

-- with whether it has passed more than there are
abbrev weight : Cluster → Told → Standing → ℕ
weight k f x = over_passed (sight k) f x + too_far (sight k) x

-- the path sees neither the walk nor the gift nor the phase
path_walk : (o : Option Instr) (t : ThreadState) (ws : List ℕ) (g : Option Owned) (q : Phase) → path_of o (record t { walk = ws; gift = g; phase = q }) ≡ path_of o t
path_walk None t ws g q = refl
path_walk (Some (instr.Read w true)) t ws g q = refl
path_walk (Some (instr.Read w false)) t ws g q = refl
path_walk (Some i) t ws g q = refl

same_weight : (k : Cluster) (f : Told) (n : ℕ) (p : Bool) (t : ThreadState) (ws : List ℕ) (g : Option Owned) (q : Phase) → weight k f (record { server = n; packed = p; thread = record t { walk = ws; gift = g; phase = q } }) ≡ weight k f (record { server = n; packed = p; thread = t })
same_weight k f n p t ws g q = ap (λ w. over_place (sight k).ground t.number t.passed (f n) (written_place w) + other (nat_le t.passed (hop_count (written_place w)))) (path_walk (slice_get k.code t.pc) t ws g q)

none_passed : (s : Sight) (f : Told) (r t : ℕ) (o : Option Lval) → over_place s.ground t 0 (f r) o + other (nat_le 0 (hop_count o)) ≡ 0
none_passed s f r t None = refl
none_passed s f r t (Some w) = least w.depth
  where
    least : (n : ℕ) → 0 + other (nat_le 0 n) ≡ 0
    least n = let e : nat_le 0 n ≡ true = grind (arith, nat_tests) in omega (arith, ap other e)

unpassed : (m : ℕ) (b : Bool) → (m == 0) ≡ b → one (true && not b) ≡ 0 → m ≡ 0
unpassed m true f z = grind (arith, nat_tests, f)
unpassed m false f z = absurd (cc z)

ready_unpassed : (x : Standing) → x.thread.phase ≡ phase.Ready → early x ≡ 0 → x.thread.passed ≡ 0
ready_unpassed x e z = unpassed x.thread.passed (x.thread.passed == 0) refl (subst (λ q. one (not (in_walk q) && not (x.thread.passed == 0)) ≡ 0) e z)

fates : (k : Cluster) (sound : IsSound k) (f : Told) (e : Event) (still : NoStep e.what) (s : Server) → server_at k.servers e.server ≡ Some s → (quiet : (i t v : ℕ) (c : Cell) → e.what ≡ Deliver i → slice_get s.rest.inbox i ≡ Some (message.Moved v c t) → ⊥)
    → Fates k.code k.options s e.what (Stood (weight k f) s.rest.number) (InParcel (weight k f))
fates k sound f e still s here quiet = record {
  steps = λ t y i is able there p code. any_gives (λ (d : Stepped). Stood (weight k f) s.rest.number d.hand.thread) (step k.options.servers i (record { work = begin_work s.rest; thread = y })) (λ d. absurd (not_stepping e.what still t is));
  comes = λ i t v c y is there at p. absurd (quiet i t v c is there);
  copied = λ i t v c y is there at p.
      test_gives (λ (h2 : Hand). Stood (weight k f) s.rest.number h2.thread) (waits_for_cell y.phase v) _ (λ z.
      over_gives Weightless (λ (h2 : Hand). Stood (weight k f) s.rest.number h2.thread) (filled v c (record { work = (received i s).work; thread = y })) _ (fills v c (record { work = (received i s).work; thread = y }) p)
      (λ h2 g. same_weight k f s.rest.number false h2.thread h2.thread.walk h2.thread.gift phase.Got ∙ g));
  given_it = λ t y v at p a. same_weight k f s.rest.number false y y.walk (Some v) phase.Got ∙ p;
  paired = λ t a b y at p q. same_weight k f s.rest.number false y y.walk y.gift (phase.GotPar a b) ∙ p;
  arrives = λ t q. q;
  starts = λ t n y i u pc vs at p there d. none_passed (sight k) f n u (written_place (path_of (slice_get k.code pc) (new_thread u pc vs)));
  leaves = λ t n y at p r.
      let none : y.passed ≡ 0 = ready_unpassed (record { server = s.rest.number; packed = false; thread = y }) (ready_is y.phase r) (early_there t y at) in
      ap (λ m. over_place (sight k).ground y.number m (f n) (written_place (path_of (slice_get k.code y.pc) (packed (record y { moved_since_step = true })))) + other (nat_le m (hop_count (written_place (path_of (slice_get k.code y.pc) (packed (record y { moved_since_step = true }))))))) none
      ∙ none_passed (sight k) f n y.number (written_place (path_of (slice_get k.code y.pc) (packed (record y { moved_since_step = true }))));
}
  where
    Weightless : Hand → Type 0
    Weightless h = Stood (weight k f) s.rest.number h.thread

    uses : (v : ℕ) (b : Bool) (h : Hand) → Weightless h → Gives Weightless (used_once v b h)
    uses v true h g = g
    uses v false h g = test_gives Weightless (can_pin h.work.rest.cache v) _ (λ z. same_weight k f s.rest.number false h.thread (h.thread.walk ++ v ∷ []) h.thread.gift h.thread.phase ∙ g)

    fills : (v : ℕ) (c : Cell) (h : Hand) → Weightless h → Gives Weightless (filled v c h)
    fills v c h g = test_gives Weightless (can_fill h.work.rest.cache v c) _ (λ p. uses v (is_in v h.thread.walk) _ g)

    early_there : (t : ℕ) (y : ThreadState) → thread_in s.threads t ≡ Some y → early (record { server = s.rest.number; packed = false; thread = y }) ≡ 0
    early_there t y there =
        none_at early (record { server = s.rest.number; packed = false; thread = y }) (threads_in (things_of k)) sound.walks.passed_in_a_walk
        (Rattle.law_copies_kept.proofs.Below.law_words_paths.paths.Contained.among_thread (sight k).ground.threads t (record { server = s.rest.number; packed = false; thread = y }) (Rattle.law_copies_kept.proofs.Below.law_counts_sums.ThreadThere.thread_there k sound e.server s here t y there)).0

-- AFTERWARDS

module _ (kind : Kind) (steady : IsSteady kind) (brings : BringsNoObject kind) (k : Cluster) (e : Event) (q : IsOfKind kind k e) (coherent : IsCoherent k) (few : FewEvents k) (s : Server) (here : server_at k.servers e.server ≡ Some s) where
  still_there : NoStep e.what
  still_there = unstepped kind brings k s e.what (at_server kind k e q s here)

  abbrev Known : Cluster × EntryView → Type 0
  Known d = Kept k d × (d.0.code ≡ k.code) × NoneThen k d.0

  known : Gives Known (apply k e)
  known =
      both_give (Kept k) (λ (d : Cluster × EntryView). (d.0.code ≡ k.code) × NoneThen k d.0) Known (apply k e) (kept kind steady k e q coherent.sound few)
      (both_give (λ (d : Cluster × EntryView). (d.0.code ≡ k.code) × (d.0.options ≡ k.options)) (λ (d : Cluster × EntryView). NoneThen k d.0) (λ (d : Cluster × EntryView). (d.0.code ≡ k.code) × NoneThen k d.0) (apply k e) (same_settings k e)
      (all_give (λ (q : OnePassed k) (d : Cluster × EntryView). tot (Rattle.law_copies_kept.specs.Below.coherent_memory.Weights.copies q.pointer.word) (things_of d.0) ≡ 0) (apply k e) (λ q. passed_uncopied k e coherent few q.thread q.pointer q.passed)) (λ d a b. (a.0, b))) (λ d a b. (a, b.0, b.1))

  module _ (d : Cluster × EntryView) (a : Known d) where
    none_before : tot (weight k (copied_box (sight d.0))) (threads_in (things_of k)) ≡ 0
    none_before = none_all (weight k (copied_box (sight d.0))) (threads_in (things_of k)) (λ x among. omega (arith, before_uncopied k d.0 coherent a.2 x among, none_at (too_far (sight k)) x (threads_in (things_of k)) coherent.sound.walks.passed_within among))

    weighs_none : Gives (λ (d2 : Cluster × EntryView). tot (weight k (copied_box (sight d.0))) (threads_in (things_of d2.0)) ≡ 0) (apply k e)
    weighs_none = fated (weight k (copied_box (sight d.0))) k e coherent.sound few none_before (λ s2 there. fates k coherent.sound (copied_box (sight d.0)) e still_there s2 there (no_object kind steady k e q s2 there))

    then_uncopied : apply k e ≡ Some d → Holds d.0 passed_not_copied
    then_uncopied is =
        let z = given_by (λ (d2 : Cluster × EntryView). tot (weight k (copied_box (sight d.0))) (threads_in (things_of d2.0)) ≡ 0) (apply k e) d weighs_none is in
        none_all (over_passed (sight d.0) (copied_box (sight d.0))) (threads_in (things_of d.0)) (λ x among.
        let none : weight k (copied_box (sight d.0)) x ≡ 0 = none_at (weight k (copied_box (sight d.0))) x (threads_in (things_of d.0)) z among in
        uncopied_still k d.0 x a.1 (on_written k d.0 x.thread.number (path (sight k) x) (on_paths k d.0 (places_in coherent.sound) a.0.0 a.0.1.0 a.0.1.1 x.thread.number (path (sight k) x))) (omega (arith, none)) (omega (arith, none)))

  pub uncopied_then : Gives (λ (d : Cluster × EntryView). Holds d.0 passed_not_copied) (apply k e)
  uncopied_then = result_gives (λ (d : Cluster × EntryView). Holds d.0 passed_not_copied) (apply k e) (λ d is. then_uncopied d (given_by Known (apply k e) d known is) is)

pub uncopied_steady : (kind : Kind) → IsSteady kind → BringsNoObject kind → (k : Cluster) (e : Event) → IsOfKind kind k e → IsCoherent k → FewEvents k → Gives (λ (d : Cluster × EntryView). Holds d.0 passed_not_copied) (apply k e)
uncopied_steady kind steady brings k e q coherent few = with_server (λ (d : Cluster × EntryView). Holds d.0 passed_not_copied) k e (λ s here. uncopied_then kind steady brings k e q coherent few s here)
