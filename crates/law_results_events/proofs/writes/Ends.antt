-- Steps that end a mutable reference have results: it is cleaned where it is dirty, its holder's place is followed, and the pointer there takes its word.
use Rattle.std.proofs.Common.{◌≡◌, inl, ◌≤◌, ◌<◌, ℕ, zero, suc, ◌+◌, ◌-◌, ◌^◌, ◌==◌, nat_lt, Bool, true, false, if◌then◌else◌, List, [], ◌∷◌, ◌++◌, length, Option, Some, None, IsSome, refl, sym, ap, subst, ◌∙◌, arith}
use Rattle.std.specs.Prelude.{slice_get, slice_set}
use Rattle.std.specs.Bool.{⊤}
use Rattle.std.proofs.lemmas.Option.{slice_get_within}
use Rattle.std.proofs.lemmas.Bool.Decides.{nat_tests}
use Rattle.law_results_reads.specs.Below.fr_base.Lists.{last_of}
use Rattle.law_results_reads.specs.Below.fr_base.declared.name.ObjNo.{ObjNo}
use Rattle.law_results_reads.specs.Below.fr_base.declared.place.Lval.{Lval}
use Rattle.law_results_reads.specs.Below.fr_base.declared.step.Fresh.TheVariants as fresh
use Rattle.law_results_reads.specs.Below.fr_base.declared.instruction.Instr.{Instr}
use Rattle.law_results_reads.specs.Below.global_addr.Words.{colour_of, server_of, next_word}
use Rattle.law_results_reads.specs.Below.heap_partition.declared.value.BoxPtr.{BoxPtr}
use Rattle.law_results_reads.specs.Below.heap_partition.declared.value.Cell.{Cell}
use Rattle.law_results_reads.specs.Below.heap_partition.declared.value.Owned.{Owned}
use Rattle.law_results_reads.specs.Below.heap_partition.declared.value.Owned.TheVariants as owned
use Rattle.law_results_reads.specs.Below.migration.Packing.{unpin_all}
use Rattle.law_results_reads.specs.Below.mut_borrow.Refs.{cleaned_answer, finish_word}
use Rattle.law_results_reads.specs.Below.mut_borrow.declared.mutable.MutRef.{MutRef}
use Rattle.law_results_reads.specs.Below.mut_borrow.declared.mutable.Cleaned.TheVariants as cleaned
use Rattle.law_results_reads.specs.Below.owner_box.View.{PartitionState}
use Rattle.law_results_reads.specs.Below.owner_box.Partition.{stored}
use Rattle.law_results_reads.specs.Below.thread_state.View.{ThreadState}
use Rattle.law_results_reads.specs.Below.thread_state.declared.value.Value.{Value}
use Rattle.law_results_reads.specs.Below.thread_state.declared.value.Value.TheVariants as value
use Rattle.law_results_reads.specs.Below.server_model.Servers.{Rest, Server, Cluster}
use Rattle.law_results_reads.specs.Below.server_model.Work.{Hand, with_slots, with_temps, with_partition, working, front_of, then_some}
use Rattle.law_results_reads.specs.Below.server_model.NewWords.{NewWord, issue_tint, issue_renewal}
use Rattle.law_results_reads.specs.Below.server_model.Places.{Spot, in_slot, on_top, in_cell, value_in as cell_value, value_at, note_write, put_at, with_word, took, put_word, set_pointer}
use Rattle.law_results_reads.specs.Below.server_model.Prepare.{Prepared, ready, requested, nothing, and_then, ready_at, ask_object, box_of, cleaned_by, clean, clean_value, follow_holder, follow_ended, unlabelled, end_ref, write_stars}
use Rattle.law_results_reads.specs.Below.server_model.Drop.{finished_at, finish}
use Rattle.law_results_reads.specs.Below.server_model.Commit.{goes_on, go_on}
use Rattle.law_results_reads.specs.Below.server_model.Events.{committed}
use Rattle.law_results_reads.specs.Below.coherent_memory.Things.{Location, at_slot, in_cell as in_object}
use Rattle.law_results_reads.specs.Below.coherent_memory.Follow.{Standing}
use Rattle.law_results_reads.specs.Below.coherent_memory.Paths.{ends}
use Rattle.law_results_reads.specs.Below.coherent_memory.Sight.{Pointer, sight}
use Rattle.law_results_reads.specs.Below.coherent_memory.Walking.{path}
use Rattle.law_results_reads.specs.Below.coherent_memory.Words.{IsStale}
use Rattle.law_results_reads.specs.Below.law_words_paths.paths.HeapStore.{GoesOn, HasPaths}
use Rattle.law_results_reads.proofs.Below.law_words_paths.paths.Sole.{some_is}
use Rattle.law_words_kept.proofs.Below.law_words_paths.words.Standing.{told, told_standing}
use Rattle.law_words_kept.specs.reads.Reading.{LiesUnder}
use Rattle.law_results_reads.proofs.Below.law_counts_sums.Objects.{length_set}
use Rattle.law_words_kept.specs.ends.Ending.{EndsAlone}
use Rattle.law_words_kept.proofs.ends.Alone.{ended_are_alone}
use Rattle.law_words_kept.proofs.ends.Ends.{EndsAt}
use Rattle.law_words_kept.proofs.ends.Lying.{ended_lies_there}
use Rattle.law_results_reads.proofs.Usable.{walk_goes}
use Rattle.law_results_reads.proofs.Known.{settled, Steps, hand, standing, paths, goes, usable}
use Rattle.law_results_reads.proofs.Pointing.{Stands, its_partition, its_colour, leads_home}
use Rattle.law_results_reads.proofs.Borrowing.{puts_reference}
use Rattle.law_results_events.proofs.writes.Memory.{Leads, leads_on, looks, looked, Sane, renewal_issued}
use Rattle.law_results_events.proofs.writes.Route.{Route, Writing, begins, At, a_slot, a_cell, Fine, all_hops, rerouted, set_other}
use Rattle.law_results_events.proofs.writes.StepRoutes.{sane_there, roomy, awake}
use Rattle.law_results_events.proofs.writes.Holders.{C, at, short_holder, route, object_away, slot_away, TakesWord, Last, last_slot, last_cell, last_there}

pub set_there : (xs : List Value) (i : ℕ) (v u : Value) → slice_get xs i ≡ Some v → slice_get (slice_set xs i u) i ≡ Some u
set_there [] i v u e = absurd (cc e)
set_there (x ∷ xs) zero v u e = refl
set_there (x ∷ xs) (suc i) v u e = set_there xs i v u e

last_pushed : (xs : List Value) (v : Value) → last_of (xs ++ v ∷ []) ≡ Some v
last_pushed xs v = ap (slice_get (xs ++ v ∷ [])) (one_less xs) ∙ got xs
  where
    one_less : (xs : List Value) → length (xs ++ v ∷ []) - 1 ≡ length xs
    one_less xs = let l = pushed_length xs in omega (arith, l)
      where
        pushed_length : (xs : List Value) → length (xs ++ v ∷ []) ≡ length xs + 1
        pushed_length [] = refl
        pushed_length (x ∷ xs) = let l = pushed_length xs in omega (arith, l)

    got : (xs : List Value) → slice_get (xs ++ v ∷ []) (length xs) ≡ Some v
    got [] = refl
    got (x ∷ xs) = got xs

-- the value at a spot of the thread itself
abbrev pub value_of_thread : ThreadState → Spot → Option Value
value_of_thread y (in_slot j) = slice_get y.slots j
value_of_thread y on_top = last_of y.temps
value_of_thread y sp = None

-- THE POINTER THAT TAKES THE WORD

-- where it stands at the server or in the thread
pub data Pointed (a : Rest) (b : ThreadState) : Spot → Type 0 where
  in_a_slot : (m : ℕ) (v : Value) → slice_get b.slots m ≡ Some v → TakesWord v → Pointed a b (in_slot m)
  in_a_cell : (w : ℕ) (q : Option ℕ) (c : Cell) (p : BoxPtr) → Leads a.partition w c → c.value ≡ owned.Box p → Pointed a b (in_cell w q)

module _ (k : Cluster) (n t : ℕ) (s : Server) (y : ThreadState) (i : Instr) (z : Steps k n t s y i) where
  abbrev Goes : Option Hand → Type 0
  Goes o = IsSome (committed (goes_on o))

  -- a hand with the walk and the copies of the start
  pub record IsKept (h : Hand) : Type 0 where
    pub walk : h.thread.walk ≡ y.walk
    pub cache : h.work.rest.cache ≡ s.rest.cache

  pub settles : (h : Hand) → IsKept h → Goes (Some h)
  settles h a =
      settled fresh.None (go_on h) (subst (λ ws. IsSome (unpin_all ws h.work.rest.cache)) (sym a.walk) (subst (λ cs. IsSome (unpin_all y.walk cs)) (sym a.cache) (walk_goes y s.rest.cache (usable k n t s y i z))))

  noted_walk : (q : Option ℕ) (h : Hand) → (note_write q h).thread.walk ≡ h.thread.walk
  noted_walk None h = refl
  noted_walk (Some j) h = refl

  noted_cache : (q : Option ℕ) (h : Hand) → (note_write q h).work.rest.cache ≡ h.work.rest.cache
  noted_cache None h = refl
  noted_cache (Some j) h = refl

  gets_word : (h : Hand) (sp : Spot) (w : ℕ) → Pointed h.work.rest h.thread sp → IsKept h → Goes (set_pointer sp w h)
  gets_word h _ w (in_a_slot m v there takes) a =
      let u = takes w in
      let within : m < length h.thread.slots = slice_get_within h.thread.slots m v there in
      let test : nat_lt m (length h.thread.slots) ≡ true = grind (arith, nat_tests, within) in
      let h2 : Hand = with_slots (slice_set h.thread.slots m u.0) h in
      subst (λ o. Goes (then_some o (λ b. then_some (with_word w b) (λ q. put_at (in_slot m) q h)))) (sym there)
      (subst (λ o. Goes (then_some o (λ q. put_at (in_slot m) q h))) (sym u.1)
      (subst (λ b. Goes (if b then Some h2 else None)) (sym test) (settles h2 (record { walk = a.walk; cache = a.cache }))))
  gets_word h _ w (in_a_cell b q c p leads boxed) a =
      let new : Owned = owned.Box (record p { word = w }) in
      let there : value_at h (in_cell b q) ≡ Some (value.Own (owned.Box p)) = ap cell_value (looks h.work.rest.partition b c leads) ∙ ap (λ v. Some (value.Own v)) boxed in
      let h1 : Hand = working (with_partition (stored h.work.rest.partition b new)) h in
      subst (λ o. Goes (then_some o (λ v. then_some (with_word w v) (λ u. put_at (in_cell b q) u h)))) (sym there)
      (subst (λ e. Goes (if e then Some (note_write q h1) else None)) (sym (leads_on h.work.rest.partition b c leads))
      (settles (note_write q h1) (record { walk = noted_walk q h1 ∙ a.walk; cache = noted_cache q h1 ∙ a.cache })))

  -- a clean reference ends
  pub finishes : (h : Hand) (sp : Spot) (r : MutRef) → r.dirty ≡ false → ((w : ℕ) → finish_word r ≡ Some w → Pointed h.work.rest h.thread sp) → IsKept h → Goes (finish sp r h)
  finishes h sp r clean pointed a = subst (λ b. Goes (if b then None else finished_at sp (finish_word r) h)) (sym clean) (by (finish_word r) refl)
    where
      by : (o : Option ℕ) → finish_word r ≡ o → Goes (finished_at sp o h)
      by None e = settles h a
      by (Some w) e = gets_word h sp w (pointed w e) a

  -- A REFERENCE THAT ENDS

  module _ (r : MutRef) (is : path (sight k) (standing k n t s y i z) ≡ ends r) (it : EndsAt k (paths k n t s y i z) (standing k n t s y i z) (goes k n t s y i z) r) where
    abbrev x : Standing
    x = standing k n t s y i z

    abbrev c : HasPaths k
    c = paths k n t s y i z

    abbrev on : GoesOn k x
    on = goes k n t s y i z

    abbrev P : PartitionState
    P = s.rest.partition

    abbrev tn : ℕ
    tn = y.number

    abbrev h0 : Hand
    h0 = hand k n t s y i z

    abbrev depth : ℕ
    depth = r.holder.depth

    abbrev Cells : ObjNo → Option Cell
    Cells = C k n t s y i z r is it

    abbrev leads : ℕ → Option Location
    leads = at k n t s y i z r is it

    -- the spot at which it stands
    pub data RefAt : Spot → Type 0 where
      in_its_slot : (j : ℕ) → slice_get y.slots j ≡ Some (value.Mut r) → it.at ≡ at_slot tn j → RefAt (in_slot j)
      on_its_top : last_of y.temps ≡ Some (value.Mut r) → RefAt on_top

    its_slot : (sp : Spot) (m : ℕ) → RefAt sp → sp ≡ in_slot m → it.at ≡ at_slot tn m
    its_slot _ m (in_its_slot j e f) q = let same : j ≡ m = cc in subst (λ b. it.at ≡ at_slot tn b) same f
    its_slot _ m (on_its_top e) q = absurd (cc q)

    -- WHAT ITS WORD TELLS

    lies : LiesUnder k (record { word = r.word; object = r.object })
    lies = ended_lies_there k z.coherent x r on (awake k n t s y i z) is

    alone : EndsAlone k r
    alone = ended_are_alone k c x r on is

    abbrev pointer : Pointer
    pointer = record { at = Some alone.at; word = r.word; object = r.object }

    fresh_there : IsStale (sight k) (Some alone.at) → ⊥
    fresh_there = alone.fresh

    stands_so : Stands k pointer
    stands_so = record { pointers = told k alone.at (value.Mut r) pointer alone.stands (inl refl); standing = told_standing k alone.at (value.Mut r) pointer alone.stands (inl refl) }

    colour : colour_of r.word < P.limit
    colour =
        let l = its_colour k z.coherent.sound n s z.here pointer stands_so fresh_there in
        let e = (its_partition k z.coherent.sound n s z.here).1 in
        omega (arith, l, e)

    home : server_of r.word ≡ s.rest.number → Leads P r.word lies.there.cell
    home mine = looked P r.word lies.there.cell (leads_home k z.coherent.sound n s z.here pointer stands_so fresh_there lies.there.cell lies.server lies.address lies.there.among lies.there.object mine)

    -- CLEANING IT

    -- the reference is clean, and other slots and other objects' cells are as they were
    record IsCleaned (sp : Spot) (h : Hand) : Type 0 where
      reference : MutRef
      clean_now : reference.dirty ≡ false
      holder : reference.holder ≡ r.holder
      rest : h.work.rest ≡ record s.rest { partition = h.work.rest.partition }
      thread : h.thread ≡ record y { slots = h.thread.slots; temps = h.thread.temps }
      there : value_of_thread h.thread sp ≡ Some (value.Mut reference)
      temps : (sp ≡ on_top → ⊥) → h.thread.temps ≡ y.temps
      size : length h.thread.slots ≡ length y.slots
      slots : (m : ℕ) → (sp ≡ in_slot m → ⊥) → slice_get h.thread.slots m ≡ slice_get y.slots m
      cells : (v : ℕ) (e : Cell) → Leads P v e → (e.object ≡ r.object → ⊥) → Leads h.work.rest.partition v e
      sane : Sane h.work.rest.partition
      long : length h.work.rest.partition.cells ≤ length P.cells + 1

    abbrev CleanFine : Spot → Prepared → Type 0
    CleanFine sp (ready h q) = (q ≡ sp) × IsCleaned sp h
    CleanFine sp (requested h) = ⊤
    CleanFine sp nothing = ⊥

    -- its new word is put
    puts : (sp : Spot) → RefAt sp → (new : NewWord) → new.work.rest ≡ record s.rest { partition = new.work.rest.partition } → ((v : ℕ) (e : Cell) → Leads P v e → (e.object ≡ r.object → ⊥) → Leads new.work.rest.partition v e)
        → Sane new.work.rest.partition → length new.work.rest.partition.cells ≤ length P.cells + 1 → CleanFine sp (ready_at sp (put_word sp new h0))
    puts _ (in_its_slot j e f) new rest cells sane long =
        let v : Value = value.Mut (took r new.word) in
        subst (λ o. CleanFine (in_slot j) (ready_at (in_slot j) o)) (sym (puts_reference j r new h0 e)) (
          refl,
          record {
            reference = took r new.word;
            clean_now = refl;
            holder = refl;
            rest = rest;
            thread = refl;
            there = set_there y.slots j (value.Mut r) v e;
            temps = λ ne. refl;
            size = length_set y.slots j v;
            slots = λ m ne. set_other y.slots j m v (λ q. ne (ap in_slot (sym q)));
            cells = cells;
            sane = sane;
            long = long;
          },
        )
    puts _ (on_its_top e) new rest cells sane long =
        let v : Value = value.Mut (took r new.word) in
        let h1 : Hand = with_temps (front_of y.temps ++ v ∷ []) (record h0 { work = new.work }) in
        let puts_it : put_word on_top new h0 ≡ Some h1 = ap (λ o. then_some o (λ b. then_some (with_word new.word b) (λ u. put_at on_top u (record h0 { work = new.work })))) e in
        subst (λ o. CleanFine on_top (ready_at on_top o)) (sym puts_it) (
          refl,
          record {
            reference = took r new.word;
            clean_now = refl;
            holder = refl;
            rest = rest;
            thread = refl;
            there = last_pushed (front_of y.temps) v;
            temps = λ ne. absurd (ne refl);
            size = refl;
            slots = λ m ne. refl;
            cells = cells;
            sane = sane;
            long = long;
          },
        )

    cleans : (sp : Spot) → RefAt sp → CleanFine sp (clean_value sp (Some (value.Mut r)) h0)
    cleans sp at_it =
        let below : nat_lt (colour_of r.word) P.limit ≡ true = (let l = colour in grind (arith, nat_tests, l)) in
        subst (λ b. CleanFine sp (if b then cleaned_by (cleaned_answer P.limit r) sp r h0 else nothing)) (sym below) (by_dirty r.dirty refl)
      where
        value_there : (q : Spot) → RefAt q → value_of_thread y q ≡ Some (value.Mut r)
        value_there _ (in_its_slot j e f) = e
        value_there _ (on_its_top e) = e

        by_server : (b : Bool) → (server_of r.word == s.rest.number) ≡ b → colour_of r.word + 1 ≡ P.limit
            → CleanFine sp (if b then ready_at sp (then_some (issue_renewal (box_of r) h0.work) (λ new. put_word sp new h0)) else requested (ask_object (box_of r) h0))
        by_server true e last =
            let mine : server_of r.word ≡ s.rest.number = grind (arith, nat_tests, e) in
            let room : length P.cells < 2 ^ 40 = (let l = roomy k n t s y i z in omega (arith, l)) in
            let new = renewal_issued (box_of r) h0.work lies.there.cell (sane_there k n t s y i z) (home mine) last room in
            subst (λ o. CleanFine sp (ready_at sp (then_some o (λ b. put_word sp b h0)))) (sym new.1)
            (puts sp at_it new.0 new.2.rest (λ v q l ne. new.2.given.others v q l (λ f. ne (f ∙ lies.there.object))) new.2.given.sane new.2.given.longer)
        by_server false e last = tt

        by_colour : (b : Bool) → nat_lt (colour_of r.word + 1) P.limit ≡ b → CleanFine sp (cleaned_by (if b then cleaned.Tinted (next_word r.word) else cleaned.MustRenew) sp r h0)
        by_colour true e = puts sp at_it (issue_tint (box_of r) h0.work) refl (λ v q l ne. l) (sane_there k n t s y i z) (omega arith)
        by_colour false e =
            let no_more : P.limit ≤ colour_of r.word + 1 = grind (arith, nat_tests, e) in
            let l = colour in
            by_server (server_of r.word == s.rest.number) refl (omega (arith, no_more, l))

        by_dirty : (b : Bool) → r.dirty ≡ b → CleanFine sp (cleaned_by (if b then (if nat_lt (colour_of r.word + 1) P.limit then cleaned.Tinted (next_word r.word) else cleaned.MustRenew) else cleaned.Same) sp r h0)
        by_dirty true e = by_colour (nat_lt (colour_of r.word + 1) P.limit) refl
        by_dirty false e = (
          refl,
          record {
            reference = r;
            clean_now = e;
            holder = refl;
            rest = refl;
            thread = refl;
            there = value_there sp at_it;
            temps = λ ne. refl;
            size = refl;
            slots = λ m ne. refl;
            cells = λ v q l ne. l;
            sane = sane_there k n t s y i z;
            long = omega arith;
          },
        )

    -- FOLLOWING ITS HOLDER'S PLACE

    -- the reference is clean, and where its word is to be put the pointer stands there
    pub record IsReady (sp : Spot) (a : Rest) (b : ThreadState) (end : Spot) : Type 0 where
      pub reference : MutRef
      pub clean_now : reference.dirty ≡ false
      pub walk : b.walk ≡ y.walk
      pub cache : a.cache ≡ s.rest.cache
      pub there : value_of_thread b sp ≡ Some (value.Mut reference)
      pub temps : (sp ≡ on_top → ⊥) → b.temps ≡ y.temps
      pub size : length b.slots ≡ length y.slots
      pub pointed : (w : ℕ) → finish_word reference ≡ Some w → Pointed a b end × ((m : ℕ) → end ≡ in_slot m → sp ≡ in_slot m → ⊥)

    abbrev pub EndFine : Spot → Prepared → Type 0
    EndFine sp (ready h q) = IsReady sp h.work.rest h.thread q
    EndFine sp (requested h) = ⊤
    EndFine sp nothing = ⊥

    value_is : (sp : Spot) (h : Hand) → RefAt sp → value_at h sp ≡ value_of_thread h.thread sp
    value_is _ h (in_its_slot j e f) = refl
    value_is _ h (on_its_top e) = refl

    module _ (sp : Spot) (at_it : RefAt sp) (h1 : Hand) (cl : IsCleaned sp h1) where
      abbrev q : PartitionState
      q = h1.work.rest.partition

      route_again : Route (record s.rest { partition = q }) (record y { slots = h1.thread.slots; temps = h1.thread.temps }) Cells leads depth
      route_again =
          rerouted s.rest y Cells leads depth (route k n t s y i z r is it) (record s.rest { partition = q }) refl h1.thread.slots h1.thread.temps
          (λ m j lt located. cl.slots m (λ e. slot_away k n t s y i z r is it m j (its_slot sp m at_it e) (omega (arith, lt)) located))
          (λ j v e le located l. cl.cells v e l (λ f. object_away k n t s y i z r is it j le (located ∙ ap (λ o. Some (in_object o)) f))) (λ less. cl.sane)
          (let a = cl.long in let b = roomy k n t s y i z in let d = short_holder k n t s y i z r is it in omega (arith, a, b, d))

      abbrev OnWay : Hand → Type 0
      OnWay h = Writing (record s.rest { partition = q }) (record y { slots = h1.thread.slots; temps = h1.thread.temps }) Cells leads depth h

      -- at the end of the way
      arrived : (w : ℕ) → finish_word cl.reference ≡ Some w → (h : Hand) (end : Spot) (l : Location) → leads depth ≡ Some l → At (record s.rest { partition = q }) (record y { slots = h1.thread.slots; temps = h1.thread.temps }) Cells leads h.work.rest.partition depth end l → OnWay h
          → IsReady sp h.work.rest h.thread end
      arrived w word h end l located spot a = record {
        reference = cl.reference;
        clean_now = cl.clean_now;
        walk = ap (λ (b : ThreadState). b.walk) a.thread;
        cache = ap (λ (b : Rest). b.cache) a.rest;
        there = by_spot sp at_it cl.there;
        temps = λ ne. ap (λ (b : ThreadState). b.temps) a.thread ∙ cl.temps ne;
        size = a.size ∙ cl.size;
        pointed = λ v e. pointed_there end l located spot;
      }
        where
          by_spot : (p : Spot) → RefAt p → value_of_thread h1.thread p ≡ Some (value.Mut cl.reference) → value_of_thread h.thread p ≡ Some (value.Mut cl.reference)
          by_spot _ (in_its_slot j e f) there = a.slots j (λ b lt g. slot_away k n t s y i z r is it j b f (omega (arith, lt)) g) ∙ there
          by_spot _ (on_its_top e) there = ap (λ (b : ThreadState). last_of b.temps) a.thread ∙ there

          -- the slot at the end is as it was
          end_slot : (m : ℕ) → leads depth ≡ Some (at_slot tn m) → slice_get h.thread.slots m ≡ slice_get y.slots m
          end_slot m final =
              a.slots m (λ b lt g. route_again.apart depth b lt (omega arith) (at_slot tn m) g final)
              ∙ cl.slots m (λ e. slot_away k n t s y i z r is it m depth (its_slot sp m at_it e) (omega arith) final)

          pointed_there : (end : Spot) (l : Location) → leads depth ≡ Some l → At (record s.rest { partition = q }) (record y { slots = h1.thread.slots; temps = h1.thread.temps }) Cells leads h.work.rest.partition depth end l
              → Pointed h.work.rest h.thread end × ((m : ℕ) → end ≡ in_slot m → sp ≡ in_slot m → ⊥)
          pointed_there _ _ final (a_slot m) = by (at_slot tn m) refl (last_there k n t s y i z r is it (at_slot tn m) final)
            where
              same_slot : {b d : ℕ} → at_slot tn b ≡ at_slot tn d → b ≡ d
              same_slot e = cc

              same_spot : {b d : ℕ} → in_slot b ≡ in_slot d → b ≡ d
              same_spot e = cc

              by : (b : Location) → b ≡ at_slot tn m → Last k n t s y i z r is it b → Pointed h.work.rest h.thread (in_slot m) × ((d : ℕ) → in_slot m ≡ in_slot d → sp ≡ in_slot d → ⊥)
              by _ e (last_slot j v there takes) = (
                in_a_slot m v (end_slot m final ∙ ap (slice_get y.slots) (sym (same_slot e)) ∙ there) takes,
                λ d f g. slot_away k n t s y i z r is it m depth (its_slot sp m at_it (g ∙ ap in_slot (sym (same_spot f)))) (omega arith) final,
              )
              by _ e (last_cell o d p there boxed) = absurd (cc e)
          pointed_there _ _ final (a_cell v b o d led there object behind) = by (in_object o) refl (last_there k n t s y i z r is it (in_object o) final)
            where
              same_object : {b d : ObjNo} → in_object b ≡ in_object d → b ≡ d
              same_object e = cc

              by : (l : Location) → l ≡ in_object o → Last k n t s y i z r is it l → Pointed h.work.rest h.thread (in_cell v b) × ((m : ℕ) → in_cell v b ≡ in_slot m → sp ≡ in_slot m → ⊥)
              by _ e (last_slot j u f takes) = absurd (cc e)
              by _ e (last_cell o2 d2 p there2 boxed) =
                  let same : d ≡ d2 = some_is (sym there ∙ ap Cells (sym (same_object e)) ∙ there2) in
                  (in_a_cell v b d p led (ap (λ (w2 : Cell). w2.value) same ∙ boxed), λ m f g. absurd (cc f))

      walked : (w : ℕ) → finish_word cl.reference ≡ Some w → EndFine sp (write_stars depth 0 h1 (in_slot r.holder.slot))
      walked w word =
          by (write_stars depth 0 h1 (in_slot r.holder.slot))
          (all_hops (record s.rest { partition = q }) (record y { slots = h1.thread.slots; temps = h1.thread.temps }) Cells leads ⊤ depth route_again (λ j less le. tt) depth 0 (omega arith) h1 (in_slot r.holder.slot) (at_slot tn r.holder.slot) refl (a_slot r.holder.slot)
          (begins (record s.rest { partition = q }) (record y { slots = h1.thread.slots; temps = h1.thread.temps }) Cells leads h1 cl.rest cl.thread))
        where
          by : (p : Prepared) → Fine (record s.rest { partition = q }) (record y { slots = h1.thread.slots; temps = h1.thread.temps }) Cells leads ⊤ depth p → EndFine sp p
          by (ready h end) f = arrived w word h end f.0 f.1 f.2 f.3
          by (requested h) f = tt
          by nothing f = f

      follows : EndFine sp (follow_ended (value_at h1 sp) h1)
      follows =
          subst (λ o. EndFine sp (follow_ended o h1)) (sym (value_is sp h1 at_it ∙ cl.there)) (go (finish_word cl.reference) refl)
        where
          go : (o : Option ℕ) → finish_word cl.reference ≡ o → EndFine sp (follow_holder cl.reference o h1)
          go None e = record {
            reference = cl.reference;
            clean_now = cl.clean_now;
            walk = ap (λ (b : ThreadState). b.walk) cl.thread;
            cache = ap (λ (b : Rest). b.cache) cl.rest;
            there = cl.there;
            temps = cl.temps;
            size = cl.size;
            pointed = λ v f. (let no : None ≡ Some v = sym e ∙ f in absurd (cc no));
          }
          go (Some v) e = subst (λ (w : Lval). EndFine sp (write_stars w.depth 0 h1 (in_slot w.slot))) (sym cl.holder) (walked v e)

    -- the end is ready, or something is asked for
    pub ends_ref : (sp : Spot) → RefAt sp → EndFine sp (end_ref sp h0)
    ends_ref sp at_it =
        unlabels (and_then (λ h2 s2. follow_ended (value_at h2 s2) h2) (clean_value sp (value_at h0 sp) h0))
        (subst (λ o. EndFine sp (and_then (λ h2 s2. follow_ended (value_at h2 s2) h2) (clean_value sp o h0))) (sym (at_start sp at_it)) (follow (clean_value sp (Some (value.Mut r)) h0) (cleans sp at_it)))
      where
        at_start : (p : Spot) → RefAt p → value_at h0 p ≡ Some (value.Mut r)
        at_start _ (in_its_slot j e f) = e
        at_start _ (on_its_top e) = e

        unlabels : (p : Prepared) → EndFine sp p → EndFine sp (and_then unlabelled p)
        unlabels (ready h end) f = f
        unlabels (requested h) f = tt
        unlabels nothing f = f

        follow : (p : Prepared) → CleanFine sp p → EndFine sp (and_then (λ h2 s2. follow_ended (value_at h2 s2) h2) p)
        follow (ready h1 b) f = subst (λ d. EndFine sp (follow_ended (value_at h1 d) h1)) (sym f.0) (follows sp at_it h1 f.1)
        follow (requested h) f = tt
        follow nothing f = f
