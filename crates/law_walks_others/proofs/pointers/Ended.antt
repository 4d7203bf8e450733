-- Where a step ends a mutable reference: it is cleaned, and its holder's place is followed over objects in chains of the thread's own slots.
use Rattle.std.proofs.Common.{◌≡◌, inl, ◌≤◌, ◌<◌, ℕ, zero, suc, ◌+◌, ◌-◌, ◌^◌, ◌==◌, nat_lt, Bool, true, false, if◌then◌else◌, List, [], ◌∷◌, ◌++◌, length, Option, Some, refl, sym, ap, subst, ◌∙◌, arith}
use Rattle.std.specs.Prelude.{slice_get, slice_set}
use Rattle.std.specs.Bool.{⊤}
use Rattle.std.proofs.lemmas.Bool.Decides.{nat_tests}
use Rattle.law_words_values.specs.Below.fr_base.Lists.{last_of}
use Rattle.law_words_values.specs.Below.fr_base.declared.name.ObjNo.{ObjNo}
use Rattle.law_words_values.specs.Below.fr_base.declared.place.Lval.{Lval}
use Rattle.law_words_values.specs.Below.fr_base.declared.instruction.Instr.{Instr}
use Rattle.law_words_values.specs.Below.global_addr.Words.{colour_of, server_of, next_word}
use Rattle.law_words_values.specs.Below.heap_partition.declared.value.Cell.{Cell}
use Rattle.law_words_values.specs.Below.heap_partition.declared.value.Owned.{Owned}
use Rattle.law_words_values.specs.Below.mut_borrow.Refs.{cleaned_answer}
use Rattle.law_words_values.specs.Below.mut_borrow.declared.mutable.MutRef.{MutRef}
use Rattle.law_words_values.specs.Below.mut_borrow.declared.mutable.Cleaned.TheVariants as cleaned
use Rattle.law_words_values.specs.Below.owner_box.View.{PartitionState}
use Rattle.law_words_values.specs.Below.thread_state.View.{ThreadState}
use Rattle.law_words_values.specs.Below.thread_state.declared.value.Value.{Value}
use Rattle.law_words_values.specs.Below.thread_state.declared.value.Value.TheVariants as value
use Rattle.law_words_values.specs.Below.server_model.Servers.{Rest, Server, Cluster}
use Rattle.law_words_values.specs.Below.server_model.Work.{Hand, with_temps, front_of, then_some}
use Rattle.law_words_values.specs.Below.server_model.NewWords.{NewWord, issue_tint, issue_renewal}
use Rattle.law_words_values.specs.Below.server_model.Places.{Spot, in_slot, on_top, value_at, put_at, with_word, took, put_word}
use Rattle.law_words_values.specs.Below.server_model.Prepare.{Prepared, ready, requested, nothing, ready_at, ask_object, box_of, cleaned_by, clean_value, write_stars}
use Rattle.law_words_values.specs.Below.coherent_memory.Things.{Location, at_slot, in_cell as in_object}
use Rattle.law_words_values.specs.Below.coherent_memory.Follow.{Standing}
use Rattle.law_words_values.specs.Below.coherent_memory.Paths.{ends}
use Rattle.law_words_values.specs.Below.coherent_memory.Sight.{Pointer, sight}
use Rattle.law_words_values.specs.Below.coherent_memory.Walking.{path}
use Rattle.law_words_values.specs.Below.coherent_memory.Words.{IsStale}
use Rattle.law_words_values.specs.Below.law_words_paths.paths.HeapStore.{GoesOn, HasPaths}
use Rattle.law_counts_waiting.proofs.Below.law_words_paths.words.Standing.{told, told_standing}
use Rattle.law_counts_waiting.specs.Below.law_words_kept.reads.Reading.{LiesUnder}
use Rattle.law_words_values.proofs.Below.law_counts_sums.Objects.{length_set}
use Rattle.law_words_values.specs.Below.law_words_kept.ends.Ending.{EndsAlone}
use Rattle.law_words_values.proofs.Below.law_words_kept.ends.Alone.{ended_are_alone}
use Rattle.law_words_values.proofs.Below.law_words_kept.ends.Ends.{EndsAt}
use Rattle.law_words_values.proofs.Below.law_words_kept.ends.Lying.{ended_lies_there}
use Rattle.law_words_values.proofs.Below.law_results_reads.Known.{Steps, hand, standing, paths, goes}
use Rattle.law_words_values.proofs.Below.law_results_reads.Pointing.{Stands, its_partition, its_colour, leads_home}
use Rattle.law_words_values.proofs.Below.law_results_reads.Borrowing.{puts_reference}
use Rattle.law_counts_waiting.proofs.Below.law_results_events.writes.Memory.{Leads, looked, Sane, renewal_issued}
use Rattle.law_counts_waiting.proofs.Below.law_results_events.writes.Route.{Route, begins, a_slot, Fine, all_hops, rerouted, set_other}
use Rattle.law_counts_waiting.proofs.Below.law_results_events.writes.StepRoutes.{sane_there, roomy, awake}
use Rattle.law_counts_waiting.proofs.Below.law_results_events.writes.Holders.{C, at, short_holder, route, object_away, slot_away}
use Rattle.law_counts_waiting.proofs.waits.Written.{chain_of_holder, Written}
use Rattle.law_counts_waiting.proofs.Below.law_results_events.writes.Ends.{value_of_thread, RefAt as StandsAt, in_its_slot, on_its_top}
use Rattle.law_walks_others.proofs.pointers.Cells.{Seeing}
use Rattle.law_walks_others.proofs.pointers.Ready.{Blind}
use Rattle.law_walks_others.proofs.pointers.Steps.{IsPlain, written_in, at_end, less_far}

set_there : (xs : List Value) (i : ℕ) (v u : Value) → slice_get xs i ≡ Some v → slice_get (slice_set xs i u) i ≡ Some u
set_there [] i v u e = absurd (cc e)
set_there (x ∷ xs) zero v u e = refl
set_there (x ∷ xs) (suc i) v u e = set_there xs i v u e

last_pushed : (xs : List Value) (v : Value) → last_of (xs ++ v ∷ []) ≡ Some v
last_pushed xs v = ap (slice_get (xs ++ v ∷ [])) (one_less xs) ∙ got xs
  where
    one_less : (xs : List Value) → length (xs ++ v ∷ []) - 1 ≡ length xs
    one_less xs = let l = pushed_length xs in omega (arith, l)
      where
        pushed_length : (xs : List Value) → length (xs ++ v ∷ []) ≡ length xs + 1
        pushed_length [] = refl
        pushed_length (x ∷ xs) = let l = pushed_length xs in omega (arith, l)

    got : (xs : List Value) → slice_get (xs ++ v ∷ []) (length xs) ≡ Some v
    got [] = refl
    got (x ∷ xs) = got xs

module _ (k : Cluster) (n t : ℕ) (s : Server) (y : ThreadState) (i : Instr) (z : Steps k n t s y i) where
  -- A REFERENCE THAT ENDS

  module _ (r : MutRef) (is : path (sight k) (standing k n t s y i z) ≡ ends r) (it : EndsAt k (paths k n t s y i z) (standing k n t s y i z) (goes k n t s y i z) r) where
    abbrev x : Standing
    x = standing k n t s y i z

    abbrev c : HasPaths k
    c = paths k n t s y i z

    abbrev on : GoesOn k x
    on = goes k n t s y i z

    abbrev P : PartitionState
    P = s.rest.partition

    abbrev tn : ℕ
    tn = y.number

    abbrev h0 : Hand
    h0 = hand k n t s y i z

    abbrev depth : ℕ
    depth = r.holder.depth

    abbrev Cells : ObjNo → Option Cell
    Cells = C k n t s y i z r is it

    abbrev leads : ℕ → Option Location
    leads = at k n t s y i z r is it

    abbrev RefAt : Spot → Type 0
    RefAt sp = StandsAt k n t s y i z r is it sp

    its_slot : (sp : Spot) (m : ℕ) → RefAt sp → sp ≡ in_slot m → it.at ≡ at_slot tn m
    its_slot _ m (in_its_slot j e f) q = let same : j ≡ m = cc in subst (λ b. it.at ≡ at_slot tn b) same f
    its_slot _ m (on_its_top e) q = absurd (cc q)

    -- WHAT ITS WORD TELLS

    lies : LiesUnder k (record { word = r.word; object = r.object })
    lies = ended_lies_there k z.coherent x r on (awake k n t s y i z) is

    alone : EndsAlone k r
    alone = ended_are_alone k c x r on is

    abbrev pointer : Pointer
    pointer = record { at = Some alone.at; word = r.word; object = r.object }

    fresh_there : IsStale (sight k) (Some alone.at) → ⊥
    fresh_there = alone.fresh

    stands_so : Stands k pointer
    stands_so = record { pointers = told k alone.at (value.Mut r) pointer alone.stands (inl refl); standing = told_standing k alone.at (value.Mut r) pointer alone.stands (inl refl) }

    colour : colour_of r.word < P.limit
    colour =
        let l = its_colour k z.coherent.sound n s z.here pointer stands_so fresh_there in
        let e = (its_partition k z.coherent.sound n s z.here).1 in
        omega (arith, l, e)

    home : server_of r.word ≡ s.rest.number → Leads P r.word lies.there.cell
    home mine = looked P r.word lies.there.cell (leads_home k z.coherent.sound n s z.here pointer stands_so fresh_there lies.there.cell lies.server lies.address lies.there.among lies.there.object mine)

    -- CLEANING IT

    -- the reference is clean, and other slots and other objects' cells are as they were
    record IsCleaned (sp : Spot) (h : Hand) : Type 0 where
      reference : MutRef
      clean_now : reference.dirty ≡ false
      holder : reference.holder ≡ r.holder
      rest : h.work.rest ≡ record s.rest { partition = h.work.rest.partition }
      thread : h.thread ≡ record y { slots = h.thread.slots; temps = h.thread.temps }
      there : value_of_thread h.thread sp ≡ Some (value.Mut reference)
      temps : (sp ≡ on_top → ⊥) → h.thread.temps ≡ y.temps
      size : length h.thread.slots ≡ length y.slots
      slots : (m : ℕ) → (sp ≡ in_slot m → ⊥) → slice_get h.thread.slots m ≡ slice_get y.slots m
      cells : (v : ℕ) (e : Cell) → Leads P v e → (e.object ≡ r.object → ⊥) → Leads h.work.rest.partition v e
      sane : Sane h.work.rest.partition
      long : length h.work.rest.partition.cells ≤ length P.cells + 1

    abbrev CleanFine : Spot → Prepared → Type 0
    CleanFine sp (ready h q) = (q ≡ sp) × IsCleaned sp h
    CleanFine sp (requested h) = ⊤
    CleanFine sp nothing = ⊥

    -- its new word is put
    puts : (sp : Spot) → RefAt sp → (new : NewWord) → new.work.rest ≡ record s.rest { partition = new.work.rest.partition } → ((v : ℕ) (e : Cell) → Leads P v e → (e.object ≡ r.object → ⊥) → Leads new.work.rest.partition v e)
        → Sane new.work.rest.partition → length new.work.rest.partition.cells ≤ length P.cells + 1 → CleanFine sp (ready_at sp (put_word sp new h0))
    puts _ (in_its_slot j e f) new rest cells sane long =
        let v : Value = value.Mut (took r new.word) in
        subst (λ o. CleanFine (in_slot j) (ready_at (in_slot j) o)) (sym (puts_reference j r new h0 e)) (
          refl,
          record {
            reference = took r new.word;
            clean_now = refl;
            holder = refl;
            rest = rest;
            thread = refl;
            there = set_there y.slots j (value.Mut r) v e;
            temps = λ ne. refl;
            size = length_set y.slots j v;
            slots = λ m ne. set_other y.slots j m v (λ q. ne (ap in_slot (sym q)));
            cells = cells;
            sane = sane;
            long = long;
          },
        )
    puts _ (on_its_top e) new rest cells sane long =
        let v : Value = value.Mut (took r new.word) in
        let h1 : Hand = with_temps (front_of y.temps ++ v ∷ []) (record h0 { work = new.work }) in
        let puts_it : put_word on_top new h0 ≡ Some h1 = ap (λ o. then_some o (λ b. then_some (with_word new.word b) (λ u. put_at on_top u (record h0 { work = new.work })))) e in
        subst (λ o. CleanFine on_top (ready_at on_top o)) (sym puts_it) (
          refl,
          record {
            reference = took r new.word;
            clean_now = refl;
            holder = refl;
            rest = rest;
            thread = refl;
            there = last_pushed (front_of y.temps) v;
            temps = λ ne. absurd (ne refl);
            size = refl;
            slots = λ m ne. refl;
            cells = cells;
            sane = sane;
            long = long;
          },
        )

    cleans : (sp : Spot) → RefAt sp → CleanFine sp (clean_value sp (Some (value.Mut r)) h0)
    cleans sp at_it =
        let below : nat_lt (colour_of r.word) P.limit ≡ true = (let l = colour in grind (arith, nat_tests, l)) in
        subst (λ b. CleanFine sp (if b then cleaned_by (cleaned_answer P.limit r) sp r h0 else nothing)) (sym below) (by_dirty r.dirty refl)
      where
        value_there : (q : Spot) → RefAt q → value_of_thread y q ≡ Some (value.Mut r)
        value_there _ (in_its_slot j e f) = e
        value_there _ (on_its_top e) = e

        by_server : (b : Bool) → (server_of r.word == s.rest.number) ≡ b → colour_of r.word + 1 ≡ P.limit
            → CleanFine sp (if b then ready_at sp (then_some (issue_renewal (box_of r) h0.work) (λ new. put_word sp new h0)) else requested (ask_object (box_of r) h0))
        by_server true e last =
            let mine : server_of r.word ≡ s.rest.number = grind (arith, nat_tests, e) in
            let room : length P.cells < 2 ^ 40 = (let l = roomy k n t s y i z in omega (arith, l)) in
            let new = renewal_issued (box_of r) h0.work lies.there.cell (sane_there k n t s y i z) (home mine) last room in
            subst (λ o. CleanFine sp (ready_at sp (then_some o (λ b. put_word sp b h0)))) (sym new.1)
            (puts sp at_it new.0 new.2.rest (λ v q l ne. new.2.given.others v q l (λ f. ne (f ∙ lies.there.object))) new.2.given.sane new.2.given.longer)
        by_server false e last = tt

        by_colour : (b : Bool) → nat_lt (colour_of r.word + 1) P.limit ≡ b → CleanFine sp (cleaned_by (if b then cleaned.Tinted (next_word r.word) else cleaned.MustRenew) sp r h0)
        by_colour true e = puts sp at_it (issue_tint (box_of r) h0.work) refl (λ v q l ne. l) (sane_there k n t s y i z) (omega arith)
        by_colour false e =
            let no_more : P.limit ≤ colour_of r.word + 1 = grind (arith, nat_tests, e) in
            let l = colour in
            by_server (server_of r.word == s.rest.number) refl (omega (arith, no_more, l))

        by_dirty : (b : Bool) → r.dirty ≡ b → CleanFine sp (cleaned_by (if b then (if nat_lt (colour_of r.word + 1) P.limit then cleaned.Tinted (next_word r.word) else cleaned.MustRenew) else cleaned.Same) sp r h0)
        by_dirty true e = by_colour (nat_lt (colour_of r.word + 1) P.limit) refl
        by_dirty false e = (
          refl,
          record {
            reference = r;
            clean_now = e;
            holder = refl;
            rest = refl;
            thread = refl;
            there = value_there sp at_it;
            temps = λ ne. refl;
            size = refl;
            slots = λ m ne. refl;
            cells = λ v q l ne. l;
            sane = sane_there k n t s y i z;
            long = omega arith;
          },
        )

    value_is : (sp : Spot) (h : Hand) → RefAt sp → value_at h sp ≡ value_of_thread h.thread sp
    value_is _ h (in_its_slot j e f) = refl
    value_is _ h (on_its_top e) = refl

    module _ (sp : Spot) (at_it : RefAt sp) (h1 : Hand) (cl : IsCleaned sp h1) where
      abbrev q : PartitionState
      q = h1.work.rest.partition

      route_again : Route (record s.rest { partition = q }) (record y { slots = h1.thread.slots; temps = h1.thread.temps }) Cells leads depth
      route_again =
          rerouted s.rest y Cells leads depth (route k n t s y i z r is it) (record s.rest { partition = q }) refl h1.thread.slots h1.thread.temps
          (λ m j lt located. cl.slots m (λ e. slot_away k n t s y i z r is it m j (its_slot sp m at_it e) (omega (arith, lt)) located))
          (λ j v e le located l. cl.cells v e l (λ f. object_away k n t s y i z r is it j le (located ∙ ap (λ o. Some (in_object o)) f))) (λ less. cl.sane)
          (let a = cl.long in let b = roomy k n t s y i z in let d = short_holder k n t s y i z r is it in omega (arith, a, b, d))

    -- WHAT IS PUT OVER

    module _ (plain : IsPlain i) (see : Seeing) (own : (o : ObjNo) → Written k c tn o → (r : Option ℕ) (v : Owned) → see.cells r o v ≡ 0) where
      -- what stands on the way is in a chain of the thread's own slots
      on_way : (j : ℕ) → j ≤ depth → (o : ObjNo) → leads j ≡ Some (in_object o) → Written k c tn o
      on_way zero le o e = absurd (cc e)
      on_way (suc j) le o e = written_in k n t s y i z plain o (chain_of_holder k c x on r is j (in_object o) (omega (arith, le)) e)

      holder_blind : (sp : Spot) (at_it : RefAt sp) (h1 : Hand) (cl : IsCleaned sp h1) (j : ℕ) → j ≤ depth → (h : Hand) (end : Spot) → write_stars j 0 h1 (in_slot r.holder.slot) ≡ ready h end → Blind see end h.work.rest.partition
      holder_blind sp at_it h1 cl j le h end e =
          let r2 : Rest = record s.rest { partition = h1.work.rest.partition } in
          let y2 : ThreadState = record y { slots = h1.thread.slots; temps = h1.thread.temps } in
          let way = less_far r2 y2 Cells leads depth j le (route_again sp at_it h1 cl) in
          let f = subst (Fine r2 y2 Cells leads ⊤ j) e (all_hops r2 y2 Cells leads ⊤ j way (λ a less more. tt) j 0 (omega arith) h1 (in_slot r.holder.slot) (at_slot tn r.holder.slot) refl (a_slot r.holder.slot) (begins r2 y2 Cells leads h1 cl.rest cl.thread)) in
          at_end k n t s y i z see own r2 y2 Cells leads j (λ o located. on_way j le o located) h.work.rest.partition end f.0 f.1 f.2

      -- so is what is passed, or put over at the end, however far the holder's place is followed
      pub end_blind : (sp : Spot) → RefAt sp → (h1 : Hand) (s1 : Spot) (q : MutRef) → clean_value sp (value_at h0 sp) h0 ≡ ready h1 s1 → value_at h1 s1 ≡ Some (value.Mut q) → (j : ℕ) → j ≤ q.holder.depth → (h : Hand) (end : Spot)
          → write_stars j 0 h1 (in_slot q.holder.slot) ≡ ready h end → Blind see end h.work.rest.partition
      end_blind sp at_it h1 s1 q cleaned there j le h end e =
          let f = subst (CleanFine sp) (sym (ap (λ o. clean_value sp o h0) (at_start sp at_it)) ∙ cleaned) (cleans sp at_it) in
          let cl : IsCleaned sp h1 = f.1 in
          let stands : value_at h1 sp ≡ Some (value.Mut cl.reference) = value_is sp h1 at_it ∙ cl.there in
          let same : cl.reference ≡ q = reference_is (sym stands ∙ ap (value_at h1) (sym f.0) ∙ there) in
          let held : q.holder ≡ r.holder = ap (λ (m : MutRef). m.holder) (sym same) ∙ cl.holder in
          let depths : q.holder.depth ≡ depth = ap (λ (w : Lval). w.depth) held in
          holder_blind sp at_it h1 cl j (omega (arith, le, depths)) h end (ap (λ (w : Lval). write_stars j 0 h1 (in_slot w.slot)) (sym held) ∙ e)
        where
          reference_is : {a b : MutRef} → Some (value.Mut a) ≡ Some (value.Mut b) → a ≡ b
          reference_is g = cc

          at_start : (p : Spot) → RefAt p → value_at h0 p ≡ Some (value.Mut r)
          at_start _ (in_its_slot j e f) = e
          at_start _ (on_its_top e) = e
