-- A thread that is over stands at its `End` and has nothing, by the table of its code.
use Rattle.std.proofs.Common.{◌≡◌, inl, inr, ℕ, ◌+◌, ◌≤◌, not, is_some, Bool, true, false, List, [], ◌∷◌, length, reverse, Option, Some, None, refl, sym, ap, subst, ◌∙◌, arith}
use Rattle.std.specs.Prelude.{slice_get}
use Rattle.std.proofs.lemmas.List.{length-reverse}
use Rattle.law_counts_sums.specs.Below.fr_base.declared.instruction.Instr.{Instr}
use Rattle.law_counts_sums.specs.Below.fr_base.declared.instruction.Instr.TheVariants as instr
use Rattle.law_counts_sums.specs.Below.fr_base.declared.instruction.Operand.{Operand}
use Rattle.law_counts_sums.specs.Below.fr_base.declared.instruction.Operand.TheVariants as operand
use Rattle.law_counts_sums.specs.Below.fr_typing.Kinds.{Kind}
use Rattle.law_counts_sums.specs.Below.fr_code.CodeTypes.{Entry, Table, Takes, takes_const, takes_unit, takes_pop, InstrTypes, i_par_end}
use Rattle.law_counts_sums.specs.Below.fr_code.CodeTable.{Successors, Leads, to_next, ends, IsTable}
use Rattle.law_counts_sums.specs.Below.heap_partition.declared.value.Owned.{Owned}
use Rattle.law_counts_sums.specs.Below.thread_state.View.{ThreadState, is_over}
use Rattle.law_counts_sums.specs.Below.thread_state.declared.phase.Phase.{Phase}
use Rattle.law_counts_sums.specs.Below.thread_state.declared.phase.Phase.TheVariants as phase
use Rattle.law_counts_sums.specs.Below.thread_state.declared.value.Value.{Value}
use Rattle.law_counts_sums.specs.Below.server_model.Servers.{Server, Cluster, server_at}
use Rattle.law_counts_sums.specs.Below.server_model.Work.{thread_in, front_of}
use Rattle.law_counts_sums.specs.Below.server_model.Events.{is_ready}
use Rattle.law_counts_sums.specs.Below.coherent_memory.Names.{one, other, if_so}
use Rattle.law_counts_sums.specs.Below.coherent_memory.Follow.{Standing}
use Rattle.law_counts_sums.specs.Below.coherent_memory.Sight.{sight}
use Rattle.law_counts_sums.specs.Below.coherent_memory.Requests.{gift_fits, gift_there}
use Rattle.law_counts_sums.specs.Below.coherent_memory.Rooted.{is_end, dressed}
use Rattle.law_counts_sums.specs.Below.coherent_memory.Coherent.{IsSound, over_are_bare}
use Rattle.law_words_paths.specs.Below.coherent_types.ClusterTypes.{slots_wrong, temps_wrong, entry_wrong, forms_of, Types, IsCoherent}
use Rattle.law_words_paths.specs.Below.coherent_types.Names.{NameTypes, names_of}
use Rattle.law_counts_sums.specs.Below.migration.Packing.{packed}
use Rattle.law_counts_things.specs.things.Laws.{EachCoherentEventKeeps}
use Rattle.law_counts_things.proofs.things.Goes.{AsksHome, HasCell, Without, Left, Goes, on, waits_pair, is_over as ends_there, asks_cell, asks_home, gets_cell, gets_gift, goes_pair}
use Rattle.law_counts_things.proofs.things.Handed.{ThreadsKeep, threads_keep, standing, known}

-- WHAT IS LEFT AT AN END

-- so many temporary values are there that the operand is all
abbrev Fits : Operand → List Value → Type 0
Fits operand.Pop ts = length ts ≤ 1
Fits o ts = length ts ≡ 0

few_front : (ts : List Value) → length ts ≤ 1 → length (front_of ts) ≡ 0
few_front [] l = refl
few_front (x ∷ []) l = refl
few_front (x ∷ y ∷ ts) l = absurd (omega (arith, l))

without_none : (o : Operand) (ts us : List Value) → Fits o ts → Without o ts us → length us ≡ 0
without_none operand.Pop ts us f w = ap length w ∙ few_front ts f
without_none (operand.Const n) ts us f w = ap length w ∙ f
without_none operand.Unit ts us f w = ap length w ∙ f

none_fits : (o : Operand) (ts : List Value) → length ts ≡ 0 → Fits o ts
none_fits operand.Pop ts e = omega (arith, e)
none_fits (operand.Const n) ts e = e
none_fits operand.Unit ts e = e

slots_none : (n : NameTypes) (vs : List Value) → slots_wrong n [] vs ≡ 0 → length vs ≡ 0
slots_none n [] z = refl
slots_none n (v ∷ vs) z = absurd (cc z)

temps_none : (n : NameTypes) (vs : List Value) → temps_wrong n [] vs ≡ 0 → length vs ≡ 0
temps_none n [] z = refl
temps_none n (v ∷ vs) z = absurd (cc z)

temps_one : (n : NameTypes) (k : Kind) (vs : List Value) → temps_wrong n (k ∷ []) vs ≡ 0 → length vs ≤ 1
temps_one n k [] z = omega arith
temps_one n k (v ∷ vs) z = let none = temps_none n vs (omega (arith, z)) in omega (arith, none)

-- the operand of an end is all that is there
fits_by : {o : Operand} {ts us : List Kind} {k : Kind} → Takes o ts k us → us ≡ [] → (n : NameTypes) (vs : List Value) → temps_wrong n ts (reverse vs) ≡ 0 → Fits o vs
fits_by (takes_const w) e n vs z = sym (length-reverse vs) ∙ temps_none n (reverse vs) (subst (λ l. temps_wrong n l (reverse vs) ≡ 0) e z)
fits_by (takes_unit w) e n vs z = sym (length-reverse vs) ∙ temps_none n (reverse vs) (subst (λ l. temps_wrong n l (reverse vs) ≡ 0) e z)
fits_by {k = k} (takes_pop w) e n vs z = let few = temps_one n k (reverse vs) (subst (λ l. temps_wrong n (k ∷ l) (reverse vs) ≡ 0) e z) in omega (arith, few, length-reverse vs)

no_end : {table : Table} {x y : Entry} {i : Instr} → InstrTypes table x i y → is_end (Some i) ≡ false
no_end i_par_end = refl
no_end _ = refl

-- at an end no slot is there, and the operand is all
ended : {table : Table} {pc : ℕ} {x : Entry} {i : Instr} {ss : Successors} → Leads table pc x i ss → (o : Operand) → i ≡ instr.End o → (n : NameTypes) (y : ThreadState) → forms_of n y x ≡ 0 → (length y.slots ≡ 0) × Fits o y.temps
ended (to_next a) o e n y z = let same : true ≡ false = ap (λ j. is_end (Some j)) (sym e) ∙ no_end a in absurd (cc same)
ended (ends t) o e n y z = (
  sym (length-reverse y.slots) ∙ slots_none n (reverse y.slots) (omega (arith, z)),
  subst (λ p. Fits p y.temps) (operand_same e) (fits_by t refl n y.temps (omega (arith, z))),
)
  where
    operand_same : {a b : Operand} → instr.End a ≡ instr.End b → a ≡ b
    operand_same e = cc

-- THREADS

abbrev dressed_at : List Instr → Standing → ℕ
dressed_at code x = if_so (is_over x.thread.phase) (other (is_end (slice_get code x.thread.pc)) + length x.thread.slots + length x.thread.temps + one (is_some x.thread.gift))

abbrev Undressed : List Instr → ThreadState → Type 0
Undressed code y = if_so (is_over y.phase) (other (is_end (slice_get code y.pc)) + length y.slots + length y.temps + one (is_some y.gift)) ≡ 0

not_over : (code : List Instr) (y : ThreadState) → is_over y.phase ≡ false → Undressed code y
not_over code y e = subst (λ b. if_so b (other (is_end (slice_get code y.pc)) + length y.slots + length y.temps + one (is_some y.gift)) ≡ 0) (sym e) refl

asks_not_over : (i : Instr) (p : Phase) → AsksHome i p → is_over p ≡ false
asks_not_over (instr.Join o) (phase.WaitJoin u) a = refl
asks_not_over (instr.Dup w) (phase.WaitDup m) a = refl
asks_not_over (instr.Lock w) (phase.WaitLock m) a = refl
asks_not_over i p a = absurd a

has_not_over : (p : Phase) → HasCell p → is_over p ≡ false
has_not_over phase.Got h = refl
has_not_over (phase.Taken w) h = refl
has_not_over p h = absurd h

ready_not_over : (p : Phase) → is_ready p ≡ true → is_over p ≡ false
ready_not_over phase.Ready e = refl
ready_not_over p e = absurd (cc e)

left_none : (g g2 : Option Owned) → is_some g ≡ false → Left g g2 → one (is_some g2) ≡ 0
left_none g g2 e (inl same) = ap (λ o. one (is_some o)) same ∙ ap one e
left_none g g2 e (inr none) = ap (λ o. one (is_some o)) none

module _ (k : Cluster) (coherent : IsCoherent k) (number : ℕ) (s : Server) (here : server_at k.servers number ≡ Some s) (n : ℕ) (y : ThreadState) (there : thread_in s.threads n ≡ Some y) where
  abbrev types : Types k
  types = coherent.types

  abbrev sound : IsSound k
  sound = coherent.sound

  abbrev me : Standing
  me = standing k sound number s here n y there

  abbrev names : NameTypes
  names = names_of types.object types.typing.gives

  -- no gift stands at an end
  no_gift : (o : Operand) → slice_get k.code y.pc ≡ Some (instr.End o) → is_some y.gift ≡ false
  no_gift o at = by y.gift refl
    where
      told : gift_there (sight k) me y.gift ≡ 0
      told = known k sound number s here n y there (λ x. gift_there (sight k) x x.thread.gift) sound.requests.gifts_fit

      by : (g : Option Owned) → y.gift ≡ g → is_some g ≡ false
      by None e = refl
      by (Some v) e =
          let here : gift_fits (sight k) me v (slice_get k.code y.pc) ≡ 0 = subst (λ g. gift_there (sight k) me g ≡ 0) e told in
          let there : gift_fits (sight k) me v (Some (instr.End o)) ≡ 0 = subst (λ j. gift_fits (sight k) me v j ≡ 0) at here in
          absurd (cc there)

  -- where the thread comes to its end, or is over
  at_end : (o : Operand) → slice_get k.code y.pc ≡ Some (instr.End o) → (length y.slots ≡ 0) × Fits o y.temps
  at_end o at = by (is_over y.phase) refl
    where
      undressed : Undressed k.code y
      undressed = known k sound number s here n y there (dressed (sight k)) sound.rooted.over_are_bare

      entered : (f : Entry → ℕ) (x : Option Entry) → types.table y.pc ≡ x → entry_wrong f x ≡ 0 → ((z : Entry) → types.table y.pc ≡ Some z → f z ≡ 0 → (length y.slots ≡ 0) × Fits o y.temps) → (length y.slots ≡ 0) × Fits o y.temps
      entered f None q z go = absurd (cc z)
      entered f (Some x) q z go = go x q z

      by : (b : Bool) → is_over y.phase ≡ b → (length y.slots ≡ 0) × Fits o y.temps
      by true e =
          let z : other (is_end (slice_get k.code y.pc)) + length y.slots + length y.temps + one (is_some y.gift) ≡ 0 =
          subst (λ b. if_so b (other (is_end (slice_get k.code y.pc)) + length y.slots + length y.temps + one (is_some y.gift)) ≡ 0) e undressed in
          (omega (arith, z), none_fits o y.temps (omega (arith, z)))
      by false e =
          let told : if_so (not (is_over y.phase)) (entry_wrong (forms_of names y) (types.table y.pc)) ≡ 0 = known k sound number s here n y there _ types.forms in
          entered (forms_of names y) (types.table y.pc) refl (subst (λ b. if_so (not b) (entry_wrong (forms_of names y) (types.table y.pc)) ≡ 0) e told) (λ x q z.
          let t : IsTable k.code types.table = types.is_table in
          let r = t.rows y.pc x q in
          ended r.leads o (instr_same (sym r.there ∙ at)) names y z)
        where
          instr_same : {a b : Instr} → Some a ≡ Some b → a ≡ b
          instr_same e = cc

  bare_goes : (y2 : ThreadState) → Goes k.code y y2 → Undressed k.code y2
  bare_goes y2 (on i at o pc q passed walk g same) = not_over k.code y2 (ap is_over q)
  bare_goes y2 (waits_pair cs c ds d a b at pc q passed walk g same) = not_over k.code y2 (ap is_over q)
  bare_goes y2 (ends_there o at pc q passed walk slots temps g same) =
      let left = at_end o at in
      let no_slots : length y2.slots ≡ 0 = ap length slots ∙ left.0 in
      let no_temps : length y2.temps ≡ 0 = without_none o y.temps y2.temps left.1 temps in
      let ends : other (is_end (slice_get k.code y2.pc)) ≡ 0 = ap (λ m. other (is_end (slice_get k.code m))) pc ∙ ap (λ j. other (is_end j)) at in
      subst (λ p. if_so (is_over p) (other (is_end (slice_get k.code y2.pc)) + length y2.slots + length y2.temps + one (is_some y2.gift)) ≡ 0) (sym q)
      (omega (arith, ends, no_slots, no_temps, left_none y.gift y2.gift (no_gift o at) g))
  bare_goes y2 (asks_cell i w at f pc q g same) = not_over k.code y2 (ap is_over q)
  bare_goes y2 (asks_home i m at a pc q g passed walk same) = not_over k.code y2 (ap is_over q ∙ asks_not_over i m a)
  bare_goes y2 (gets_cell w was q pc g same) = not_over k.code y2 (has_not_over y2.phase q)
  bare_goes y2 (gets_gift was q pc passed walk temps shares same) = not_over k.code y2 (ap is_over q)
  bare_goes y2 (goes_pair a b was q pc g passed walk same) = not_over k.code y2 (ap is_over q)

bare_keep : ThreadsKeep IsCoherent dressed_at
bare_keep = record {
  before = λ k coherent. let sound : IsSound k = coherent.sound in sound.rooted.over_are_bare;
  control = λ k number s coherent few here. record {
    goes = λ t y y2 there p g. bare_goes k coherent number s here t y there y2 g;
    arrives = λ t q. q;
    starts = λ t n y i u pc vs there p at d. refl;
    leaves = λ t n y there p r. not_over k.code (packed (record y { moved_since_step = true })) (ready_not_over y.phase r);
  };
}

pub bare_kept : EachCoherentEventKeeps over_are_bare
bare_kept = threads_keep IsCoherent (λ k coherent. coherent.sound) dressed_at bare_keep
