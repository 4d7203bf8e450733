-- A thread that is over ended with the type that its task has, by types that names keep: it was over, or it has just ended.
use Rattle.std.proofs.Common.{◌≡◌, ℕ, ◌==◌, ◌&&◌, ◌||◌, not, Bool, true, false, List, [], ◌∷◌, inl, inr, Option, Some, None, refl, sym, ap, subst, ◌∙◌, arith}
use Rattle.std.specs.Prelude.{◌%◌, ◌^◌}
use Rattle.coherent_memory.specs.Below.fr_base.declared.name.ObjNo.{ObjNo}
use Rattle.coherent_memory.specs.Below.fr_base.declared.instruction.Instr.{Instr}
use Rattle.coherent_memory.specs.Below.fr_base.declared.instruction.Instr.TheVariants as instr
use Rattle.coherent_memory.specs.Below.fr_base.Names.{home_of}
use Rattle.coherent_memory.specs.Below.fr_typing.Kinds.{Owned as OwnedType, same_owned}
use Rattle.law_counts_things.specs.Below.fr_sound.Seen.{Gives as NamesGive}
use Rattle.law_types_events.specs.Below.law_plain_values.acts.Keeps.{KeepsNames}
use Rattle.coherent_memory.specs.Below.thread_state.View.{ThreadState, is_over}
use Rattle.coherent_memory.specs.Below.thread_state.declared.phase.Phase.{Phase}
use Rattle.coherent_memory.specs.Below.thread_state.declared.phase.Phase.TheVariants as phase
use Rattle.coherent_memory.specs.Below.journal.View.{EntryView}
use Rattle.coherent_memory.specs.Below.server_model.declared.event.Event.{Event}
use Rattle.coherent_memory.specs.Below.server_model.Servers.{Server, Cluster, server_at}
use Rattle.coherent_memory.specs.Below.server_model.Work.{thread_in}
use Rattle.coherent_memory.specs.Below.server_model.Events.{is_ready}
use Rattle.coherent_memory.specs.Below.server_model.Clusters.{apply}
use Rattle.coherent_memory.specs.Names.{tot, one, other, some, if_so, Among}
use Rattle.coherent_memory.specs.Things.{Thing, stands, things_of}
use Rattle.coherent_memory.specs.Follow.{Standing, threads_in, thread_at}
use Rattle.coherent_memory.specs.Sight.{sight}
use Rattle.coherent_memory.specs.OneHeap.{one_heap, if_given, is_given_thread, life_at}
use Rattle.coherent_memory.specs.Naming.{started_at, uncounted_thread, zeroth_thread, threads}
use Rattle.law_counts_things.specs.Below.coherent_types.Names.{NameTypes, names_of}
use Rattle.law_counts_things.specs.Below.coherent_types.ClusterTypes.{IsCoherent, Types, entry_wrong, gives_other}
use Rattle.law_counts_sums.specs.Laws.{Gives, FewEvents}
use Rattle.law_counts_things.proofs.Below.law_words_paths.paths.Shown.{none_else}
use Rattle.law_counts_things.proofs.things.Goes.{Goes, AsksHome, HasCell, on, waits_pair, is_over as goes_over, asks_cell, asks_home, gets_cell, gets_gift, goes_pair}
use Rattle.law_counts_things.proofs.things.Threads.{Control, ways}
use Rattle.law_counts_things.proofs.things.Handed.{Stood, InParcel, threads_go, known}
use Rattle.law_types_events.specs.Below.law_types_still.heap.Counted.{over_ends_wrong}
use Rattle.law_types_events.proofs.Below.law_types_still.heap.Leads.{each_none}
use Rattle.law_runs_coherent.specs.events.Ends.{EndsStay}

-- WHO STANDS WAS GIVEN

none_at : (f : Thing → ℕ) (x : Standing) (b : List Thing) → tot f b ≡ 0 → Among x (threads_in b) → f (stands x.server x.packed x.thread) ≡ 0
none_at f x [] z h = absurd h
none_at f x (stands s p t ∷ b) z (inl e) = subst (λ (y : Standing). f (stands y.server y.packed y.thread) ≡ 0) e (omega (arith, z))
none_at f x (stands s p t ∷ b) z (inr h) = none_at f x b (omega (arith, z)) h
none_at f x (_ ∷ b) z h = none_at f x b (omega (arith, z)) h

given_by : (a b d : Bool) → one (b && not a) ≡ 0 → d ≡ true → a || (not b && d) ≡ true
given_by true b d z e = refl
given_by false true d z e = absurd cc
given_by false false d z e = e

module _ (k : Cluster) (co : IsCoherent k) where
  standing_given : (x : Standing) → Among x (threads_in (things_of k)) → is_given_thread (sight k) x.thread.number ≡ true
  standing_given x h =
      let t = x.thread.number in
      let counted : tot (threads (uncounted_thread (sight k))) (things_of k) ≡ 0 = (let z = co.sound.names.names_counted in omega (arith, z)) in
      let zeroth : tot (threads zeroth_thread) (things_of k) ≡ 0 = (let z = co.sound.names.counts_from_one in omega (arith, z)) in
      let a : uncounted_thread (sight k) t ≡ 0 = (let z = none_at (threads (uncounted_thread (sight k))) x (things_of k) counted h in omega (arith, z)) in
      let b : zeroth_thread t ≡ 0 = (let z = none_at (threads zeroth_thread) x (things_of k) zeroth h in omega (arith, z)) in
      given_by (t == 0) (t % 2 ^ 32 == 0) (some (tot (started_at (home_of t) (t % 2 ^ 32)) (things_of k))) b (none_else (some (tot (started_at (home_of t) (t % 2 ^ 32)) (things_of k))) a)

-- ENDS

module _ (k : Cluster) (co : IsCoherent k) (after : NamesGive) (kept : KeepsNames (one_heap k) co.types.typing.gives after) (object : ObjNo → OwnedType) where
  abbrev c : Types k
  c = co.types

  abbrev names : NameTypes
  names = names_of object after

  abbrev before_names : NameTypes
  before_names = names_of object c.typing.gives

  -- the code of a thread ends with another type than its task has, or than it had before
  abbrev other_end : Standing → ℕ
  other_end x = entry_wrong (gives_other names x.thread.number) (c.table x.thread.pc)

  abbrev was_end : Standing → ℕ
  was_end x = entry_wrong (gives_other before_names x.thread.number) (c.table x.thread.pc)

  -- the same of a thread that is over
  abbrev over_end : Standing → ℕ
  over_end x = if_so (is_over x.thread.phase) (other_end x)

  -- a thread that stands somewhere has the type that it had
  same_end : (x : Standing) → Among x (threads_in (things_of k)) → other_end x ≡ was_end x
  same_end x h =
      let n = x.thread.number in
      let l = life_at (sight k) n (thread_at (sight k).ground.threads n) in
      ap (λ o. entry_wrong (λ y. other (same_owned y.gives o)) (c.table x.thread.pc)) (kept.results n l (ap (λ b. if_given b l) (standing_given k co x h)))

  ends : tot other_end (threads_in (things_of k)) ≡ 0
  ends = each_none was_end other_end (threads_in (things_of k)) (λ x a e. same_end x a ∙ e) c.ends

  goes_on : (x : Standing) → is_over x.thread.phase ≡ false → over_end x ≡ 0
  goes_on x e = ap (λ b. if_so b (other_end x)) e

  ended : (x : Standing) → other_end x ≡ 0 → over_end x ≡ 0
  ended x e = by (is_over x.thread.phase)
    where
      by : (b : Bool) → if_so b (other_end x) ≡ 0
      by true = e
      by false = refl

  asks_on : (j : Instr) (p : Phase) → AsksHome j p → is_over p ≡ false
  asks_on (instr.Join o) (phase.WaitJoin u) a = refl
  asks_on (instr.Dup w) (phase.WaitDup m) a = refl
  asks_on (instr.Lock w) (phase.WaitLock m) a = refl
  asks_on j p a = elim a [ ]

  cell_on : (p : Phase) → HasCell p → is_over p ≡ false
  cell_on phase.Got a = refl
  cell_on (phase.Taken w) a = refl
  cell_on p a = elim a [ ]

  ready_on : (p : Phase) → is_ready p ≡ true → is_over p ≡ false
  ready_on phase.Ready e = refl
  ready_on p e = absurd cc

  module _ (number : ℕ) (s : Server) (here : server_at k.servers number ≡ Some s) where
    abbrev at : ThreadState → Standing
    at t = record { server = s.rest.number; packed = false; thread = t }

    -- a thread that goes on isn't over, and one that has just ended stands where it stood
    goes : (t : ℕ) (y y2 : ThreadState) → thread_in s.threads t ≡ Some y → Goes k.code y y2 → over_end (at y2) ≡ 0
    goes t y y2 there (on j code o pc q passed walk g same) = goes_on (at y2) (ap is_over q)
    goes t y y2 there (waits_pair cs a ds b m d code pc q passed walk g same) = goes_on (at y2) (ap is_over q)
    goes t y y2 there (goes_over o code pc q passed walk slots temps g same) =
        let was : other_end (at y) ≡ 0 = known k co.sound number s here t y there other_end ends in
        ended (at y2) (subst (λ m. entry_wrong (gives_other names m) (c.table y2.pc) ≡ 0) (sym same.number) (subst (λ m. entry_wrong (gives_other names y.number) (c.table m) ≡ 0) (sym pc) was))
    goes t y y2 there (asks_cell j w code f pc q g same) = goes_on (at y2) (ap is_over q)
    goes t y y2 there (asks_home j p code a pc q g passed walk same) = goes_on (at y2) (ap is_over q ∙ asks_on j p a)
    goes t y y2 there (gets_cell w was got pc g same) = goes_on (at y2) (cell_on y2.phase got)
    goes t y y2 there (gets_gift was q pc passed walk temps shares same) = goes_on (at y2) (ap is_over q)
    goes t y y2 there (goes_pair a b was q pc g passed walk same) = goes_on (at y2) (ap is_over q)

    control : Control k.code s (Stood over_end s.rest.number) (InParcel over_end)
    control = record {
      goes = λ t y y2 there p g. goes t y y2 there g;
      arrives = λ t q. q;
      starts = λ t n y i u pc vs there p code d. refl;
      leaves = λ t n y there p ready. ap (λ b. if_so b (other_end (at y))) (ready_on y.phase ready);
    }

  before : tot over_end (threads_in (things_of k)) ≡ 0
  before = each_none other_end over_end (threads_in (things_of k)) (λ x a e. ended x e) ends

  ends_kept : (e : Event) → FewEvents k → Gives (λ (d : Cluster × EntryView). over_ends_wrong c.table names (sight d.0) ≡ 0) (apply k e)
  ends_kept e few = threads_go over_end k e co.sound few before (λ s here. ways k.options.servers e.what (control e.server s here))

all_give : {A X : Type 0} (P : A → X → Type 0) (o : Option X) → ((a : A) → Gives (P a) o) → Gives (λ x. (a : A) → P a x) o
all_give P None g = tt
all_give P (Some x) g = λ a. g a

pub ends_stay : EndsStay
ends_stay k e co few =
    all_give (λ (after : NamesGive) (d : Cluster × EntryView). KeepsNames (one_heap k) co.types.typing.gives after → (object : ObjNo → OwnedType) → over_ends_wrong co.types.table (names_of object after) (sight d.0) ≡ 0) (apply k e)
    (λ after. all_give (λ (kept : KeepsNames (one_heap k) co.types.typing.gives after) (d : Cluster × EntryView). (object : ObjNo → OwnedType) → over_ends_wrong co.types.table (names_of object after) (sight d.0) ≡ 0) (apply k e)
    (λ kept. all_give (λ (object : ObjNo → OwnedType) (d : Cluster × EntryView). over_ends_wrong co.types.table (names_of object after) (sight d.0) ≡ 0) (apply k e) (λ object. ends_kept k co after kept object e few)))
