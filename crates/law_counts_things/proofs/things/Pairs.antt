-- A thread is at the end of a pair exactly where it waits for one or has got one, by the table of its code.
use Rattle.std.proofs.Common.{◌≡◌, inl, inr, ℕ, ◌+◌, not, is_some, Bool, true, false, List, length, Option, Some, None, refl, sym, ap, subst, ◌∙◌, arith}
use Rattle.std.specs.Prelude.{slice_get}
use Rattle.std.specs.Bool.{⊤}
use Rattle.law_counts_sums.specs.Below.fr_base.declared.instruction.Instr.{Instr}
use Rattle.law_counts_sums.specs.Below.fr_base.declared.instruction.Instr.TheVariants as instr
use Rattle.law_counts_sums.specs.Below.fr_code.CodeTypes.{Entry, Table, InstrTypes, i_spawn, i_par, i_par_end}
use Rattle.law_counts_sums.specs.Below.fr_code.CodeTable.{Successors, Leads, to_next, ends, AllEnter, IsTable}
use Rattle.law_counts_sums.specs.Below.fr_code.Joins.{JoinsTo, alone, first, second}
use Rattle.law_counts_sums.specs.Below.thread_state.View.{ThreadState, is_over}
use Rattle.law_counts_sums.specs.Below.thread_state.declared.phase.Phase.{Phase}
use Rattle.law_counts_sums.specs.Below.thread_state.declared.phase.Phase.TheVariants as phase
use Rattle.law_counts_sums.specs.Below.server_model.Servers.{Server, Cluster, server_at}
use Rattle.law_counts_sums.specs.Below.server_model.Work.{thread_in}
use Rattle.law_counts_sums.specs.Below.server_model.Prepare.{access_of}
use Rattle.law_counts_sums.specs.Below.coherent_memory.Names.{one, other, if_so}
use Rattle.law_counts_sums.specs.Below.coherent_memory.Follow.{Standing}
use Rattle.law_counts_sums.specs.Below.coherent_memory.Sight.{sight}
use Rattle.law_counts_sums.specs.Below.coherent_memory.Requests.{is_par_end, is_par, same_truth}
use Rattle.law_counts_sums.specs.Below.coherent_memory.Rooted.{is_end, dressed}
use Rattle.law_counts_sums.specs.Below.coherent_memory.Coherent.{IsSound, par_ends}
use Rattle.law_words_paths.specs.Below.coherent_types.ClusterTypes.{entry_wrong, forms_of, Types, IsCoherent}
use Rattle.law_counts_things.specs.things.Laws.{EachCoherentEventKeeps}
use Rattle.law_counts_things.proofs.things.Small.{Follows}
use Rattle.law_counts_things.proofs.things.Plainly.{Onward}
use Rattle.law_counts_things.proofs.things.Goes.{AsksHome, IsAsking, HasCell, Goes, on, waits_pair, is_over as ends_there, asks_cell, asks_home, gets_cell, gets_gift, goes_pair}
use Rattle.law_counts_things.proofs.things.Mail.{StartsAt}
use Rattle.law_counts_things.proofs.things.Handed.{ThreadsKeep, threads_keep, known}

-- ENTRIES

abbrev IsPar : Instr → Type 0
IsPar (instr.Par cs pc ds other) = ⊤
IsPar i = ⊥

-- after an instruction whose thread goes on no branches are there
forked_after : {table : Table} {x y : Entry} {i : Instr} → InstrTypes table x i y → Onward i → y.forked ≡ false
forked_after (i_par a b c d e) o = absurd o
forked_after _ o = refl

-- after a par they are
forked_by : {table : Table} {x y : Entry} {i : Instr} → InstrTypes table x i y → IsPar i → y.forked ≡ true
forked_by (i_par a b c d e) o = refl
forked_by _ o = absurd o

joined_forked : {x y : Entry} → JoinsTo x y → x.forked ≡ y.forked
joined_forked alone = refl
joined_forked (first z j) = j.forked.0
joined_forked (second z j) = j.forked.1

-- with no branches it is no end of a pair, and with them it is
no_pair_end : {table : Table} {x y : Entry} {i : Instr} → InstrTypes table x i y → x.forked ≡ false → is_par_end (Some i) ≡ false
no_pair_end i_par_end e = absurd (cc e)
no_pair_end _ e = refl

pair_end : {table : Table} {x y : Entry} {i : Instr} → InstrTypes table x i y → x.forked ≡ true → is_par_end (Some i) ≡ true
pair_end i_par_end e = refl
pair_end _ e = absurd (cc e)

module _ (code : List Instr) (table : Table) (t : IsTable code table) where
  leads_on : {pc : ℕ} {x : Entry} {i : Instr} {ss : Successors} → Leads table pc x i ss → x.forked ≡ false → is_par_end (Some i) ≡ false
  leads_on (to_next a) e = no_pair_end a e
  leads_on (ends a) e = refl

  leads_back : {pc : ℕ} {x : Entry} {i : Instr} {ss : Successors} → Leads table pc x i ss → x.forked ≡ true → is_par_end (Some i) ≡ true
  leads_back (to_next a) e = pair_end a e
  leads_back (ends a) e = absurd (cc e)

  -- what stands at an entry
  entry_on : (pc : ℕ) (x : Entry) → table pc ≡ Some x → x.forked ≡ false → is_par_end (slice_get code pc) ≡ false
  entry_on pc x at e = let r = t.rows pc x at in subst (λ o. is_par_end o ≡ false) (sym r.there) (leads_on r.leads e)

  entry_back : (pc : ℕ) (x : Entry) → table pc ≡ Some x → x.forked ≡ true → is_par_end (slice_get code pc) ≡ true
  entry_back pc x at e = let r = t.rows pc x at in subst (λ o. is_par_end o ≡ true) (sym r.there) (leads_back r.leads e)

  some_same : {a b : Instr} → Some a ≡ Some b → a ≡ b
  some_same e = cc

  -- what the next instruction is, by the one that leads there
  after_leads : (pc : ℕ) {x : Entry} {i : Instr} {ss : Successors} → Leads table pc x i ss → AllEnter table ss → Onward i → is_par_end (slice_get code (pc + 1)) ≡ false
  after_leads pc (to_next a) enter o = let g = enter.0 in entry_on (pc + 1) g.entry g.at (sym (joined_forked g.joins) ∙ forked_after a o)
  after_leads pc (ends a) enter o = absurd o

  after_par : (pc : ℕ) {x : Entry} {i : Instr} {ss : Successors} → Leads table pc x i ss → AllEnter table ss → IsPar i → is_par_end (slice_get code (pc + 1)) ≡ true
  after_par pc (to_next a) enter o = let g = enter.0 in entry_back (pc + 1) g.entry g.at (sym (joined_forked g.joins) ∙ forked_by a o)
  after_par pc (ends a) enter o = absurd o

  next_on : (pc : ℕ) (x : Entry) (i : Instr) → table pc ≡ Some x → slice_get code pc ≡ Some i → Onward i → is_par_end (slice_get code (pc + 1)) ≡ false
  next_on pc x i at there o = let r = t.rows pc x at in after_leads pc r.leads r.enter (subst Onward (some_same (sym there ∙ r.there)) o)

  next_par : (pc : ℕ) (x : Entry) (i : Instr) → table pc ≡ Some x → slice_get code pc ≡ Some i → IsPar i → is_par_end (slice_get code (pc + 1)) ≡ true
  next_par pc x i at there o = let r = t.rows pc x at in after_par pc r.leads r.enter (subst IsPar (some_same (sym there ∙ r.there)) o)

  -- a thread starts at an entry without branches
  starts_on : {x y : Entry} {i : Instr} (pc : ℕ) → InstrTypes table x i y → StartsAt i pc → is_par_end (slice_get code pc) ≡ false
  starts_on pc (i_spawn a b c d) s = subst (λ p. is_par_end (slice_get code p) ≡ false) (sym s) (entry_on _ _ c refl)
  starts_on pc (i_par a b c d e) (inl s) = subst (λ p. is_par_end (slice_get code p) ≡ false) (sym s) (entry_on _ _ d refl)
  starts_on pc (i_par a b c d e) (inr s) = subst (λ p. is_par_end (slice_get code p) ≡ false) (sym s) (entry_on _ _ e refl)
  starts_on pc _ s = absurd s

  leads_start : {at : ℕ} {x : Entry} {i : Instr} {ss : Successors} (pc : ℕ) → Leads table at x i ss → StartsAt i pc → is_par_end (slice_get code pc) ≡ false
  leads_start pc (to_next a) s = starts_on pc a s
  leads_start pc (ends a) s = absurd s

  begins_on : (at pc : ℕ) (x : Entry) (i : Instr) → table at ≡ Some x → slice_get code at ≡ Some i → StartsAt i pc → is_par_end (slice_get code pc) ≡ false
  begins_on at pc x i e there s = let r = t.rows at x e in leads_start pc r.leads (subst (λ j. StartsAt j pc) (some_same (sym there ∙ r.there)) s)

-- the table has an entry there
record HasEntry (table : Table) (pc : ℕ) : Type 0 where
  entry : Entry
  at : table pc ≡ Some entry

-- THREADS

abbrev at_pair : List Instr → Standing → ℕ
at_pair code x = other (same_truth (is_par_end (slice_get code x.thread.pc)) (is_par x.thread.phase))

-- the weight by what the instruction and the phase are
agrees : (code : List Instr) (y2 : ThreadState) (b : Bool) → is_par_end (slice_get code y2.pc) ≡ b → is_par y2.phase ≡ b → other (same_truth (is_par_end (slice_get code y2.pc)) (is_par y2.phase)) ≡ 0
agrees code y2 b e p = subst (λ c. other (same_truth c (is_par y2.phase)) ≡ 0) (sym e) (subst (λ c. other (same_truth b c) ≡ 0) (sym p) (by b))
  where
    by : (c : Bool) → other (same_truth c c) ≡ 0
    by true = refl
    by false = refl

-- at the same place, in a phase that is of a pair where the other one was
agrees_as : (code : List Instr) (y y2 : ThreadState) → y2.pc ≡ y.pc → is_par y2.phase ≡ is_par y.phase → other (same_truth (is_par_end (slice_get code y.pc)) (is_par y.phase)) ≡ 0
    → other (same_truth (is_par_end (slice_get code y2.pc)) (is_par y2.phase)) ≡ 0
agrees_as code y y2 pc p z = subst (λ n. other (same_truth (is_par_end (slice_get code n)) (is_par y2.phase)) ≡ 0) (sym pc) (subst (λ c. other (same_truth (is_par_end (slice_get code y.pc)) c) ≡ 0) (sym p) z)

follows_none : (i : Instr) (y : ThreadState) → Follows (access_of i y) → is_par_end (Some i) ≡ false
follows_none instr.ParEnd y f = absurd f
follows_none i y f = refl

asks_none : (i : Instr) (p : Phase) → AsksHome i p → (is_par_end (Some i) ≡ false) × (is_par p ≡ false)
asks_none (instr.Join o) (phase.WaitJoin u) a = (refl, refl)
asks_none (instr.Dup w) (phase.WaitDup m) a = (refl, refl)
asks_none (instr.Lock w) (phase.WaitLock m) a = (refl, refl)
asks_none i p a = absurd a

has_none : (p : Phase) → HasCell p → is_par p ≡ false
has_none phase.Got h = refl
has_none (phase.Taken w) h = refl
has_none p h = absurd h

asking_none : (p : Phase) → IsAsking p → is_par p ≡ false
asking_none (phase.WaitLock m) a = refl
asking_none (phase.WaitDup m) a = refl
asking_none (phase.WaitJoin u) a = refl
asking_none p a = absurd a

onward_no_end : (i : Instr) → Onward i → is_end (Some i) ≡ false
onward_no_end (instr.End o) a = absurd a
onward_no_end i a = refl

starts_no_end : (i : Instr) (pc : ℕ) → StartsAt i pc → is_end (Some i) ≡ false
starts_no_end (instr.End o) pc a = absurd a
starts_no_end i pc a = refl

module _ (k : Cluster) (coherent : IsCoherent k) (number : ℕ) (s : Server) (here : server_at k.servers number ≡ Some s) (n : ℕ) (y : ThreadState) (there : thread_in s.threads n ≡ Some y) where
  abbrev types : Types k
  types = coherent.types

  abbrev sound : IsSound k
  sound = coherent.sound

  pub goes_still : (i : Instr) → slice_get k.code y.pc ≡ Some i → is_end (Some i) ≡ false → is_over y.phase ≡ false
  goes_still i at e =
      by (is_over y.phase) refl (subst (λ o. if_so (is_over y.phase) (other (is_end o) + length y.slots + length y.temps + one (is_some y.gift)) ≡ 0) at (known k sound number s here n y there (dressed (sight k)) sound.rooted.over_are_bare))
    where
      by : (b : Bool) → is_over y.phase ≡ b → if_so b (other (is_end (Some i)) + length y.slots + length y.temps + one (is_some y.gift)) ≡ 0 → b ≡ false
      by false q z = refl
      by true q z =
          let one_more : other (is_end (Some i)) ≡ 1 = ap other e in
          absurd (omega (arith, z, one_more))

  -- it has an entry where it goes on
  has_entry : (i : Instr) → slice_get k.code y.pc ≡ Some i → is_end (Some i) ≡ false → HasEntry types.table y.pc
  has_entry i at e =
      let f : Entry → ℕ = forms_of _ y in
      let told : if_so (not (is_over y.phase)) (entry_wrong f (types.table y.pc)) ≡ 0 = known k sound number s here n y there _ types.forms in
      by f (types.table y.pc) refl (subst (λ b. if_so (not b) (entry_wrong f (types.table y.pc)) ≡ 0) (goes_still i at e) told)
    where
      by : (f : Entry → ℕ) (o : Option Entry) → types.table y.pc ≡ o → entry_wrong f o ≡ 0 → HasEntry types.table y.pc
      by f None q z = absurd (cc z)
      by f (Some x) q z = record { entry = x; at = q }

  pair_goes : (y2 : ThreadState) → other (same_truth (is_par_end (slice_get k.code y.pc)) (is_par y.phase)) ≡ 0 → Goes k.code y y2 → other (same_truth (is_par_end (slice_get k.code y2.pc)) (is_par y2.phase)) ≡ 0
  pair_goes y2 p (on i at o pc q passed walk g same) =
      let x = has_entry i at (onward_no_end i o) in
      agrees k.code y2 false (subst (λ m. is_par_end (slice_get k.code m) ≡ false) (sym pc) (next_on k.code types.table types.is_table y.pc x.entry i x.at at o)) (ap is_par q)
  pair_goes y2 p (waits_pair cs c ds d a b at pc q passed walk g same) =
      let x = has_entry (instr.Par cs c ds d) at refl in
      agrees k.code y2 true (subst (λ m. is_par_end (slice_get k.code m) ≡ true) (sym pc) (next_par k.code types.table types.is_table y.pc x.entry (instr.Par cs c ds d) x.at at tt)) (ap is_par q)
  pair_goes y2 p (ends_there o at pc q passed walk slots temps g same) = agrees k.code y2 false (subst (λ m. is_par_end (slice_get k.code m) ≡ false) (sym pc) (ap is_par_end at)) (ap is_par q)
  pair_goes y2 p (asks_cell i w at f pc q g same) = agrees k.code y2 false (subst (λ m. is_par_end (slice_get k.code m) ≡ false) (sym pc) (ap is_par_end at ∙ follows_none i y f)) (ap is_par q)
  pair_goes y2 p (asks_home i m at a pc q g passed walk same) =
      let none = asks_none i m a in
      agrees k.code y2 false (subst (λ c. is_par_end (slice_get k.code c) ≡ false) (sym pc) (ap is_par_end at ∙ none.0)) (ap is_par q ∙ none.1)
  pair_goes y2 p (gets_cell w was q pc g same) = agrees_as k.code y y2 pc (has_none y2.phase q ∙ sym (ap is_par was)) p
  pair_goes y2 p (gets_gift was q pc passed walk temps shares same) = agrees_as k.code y y2 pc (ap is_par q ∙ sym (asking_none y.phase was)) p
  pair_goes y2 p (goes_pair a b was q pc g passed walk same) = agrees_as k.code y y2 pc (ap is_par q ∙ sym (ap is_par was)) p

  -- a thread that it starts
  start_goes : (i : Instr) (pc : ℕ) → slice_get k.code y.pc ≡ Some i → StartsAt i pc → other (same_truth (is_par_end (slice_get k.code pc)) false) ≡ 0
  start_goes i pc at d =
      let x = has_entry i at (starts_no_end i pc d) in
      subst (λ b. other (same_truth b false) ≡ 0) (sym (begins_on k.code types.table types.is_table y.pc pc x.entry i x.at at d)) refl

pairs_keep : ThreadsKeep IsCoherent at_pair
pairs_keep = record {
  before = λ k coherent. let sound : IsSound k = coherent.sound in sound.requests.par_ends;
  control = λ k number s coherent few here. record {
    goes = λ t y y2 there p g. pair_goes k coherent number s here t y there y2 p g;
    arrives = λ t q. q;
    starts = λ t n y i u pc vs there p at d. start_goes k coherent number s here t y there i pc at d;
    leaves = λ t n y there p r. p;
  };
}

pub pairs_kept : EachCoherentEventKeeps par_ends
pairs_kept = threads_keep IsCoherent (λ k coherent. coherent.sound) at_pair pairs_keep
