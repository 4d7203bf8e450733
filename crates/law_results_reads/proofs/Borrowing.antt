-- Borrows through stars have results: the pointer is there, and is cleaned or comes where that is needed.
use Rattle.std.proofs.Common.{◌≡◌, ◌≤◌, ◌<◌, ℕ, zero, suc, ◌+◌, ◌==◌, ◌&&◌, nat_lt, Bool, true, false, if◌then◌else◌, List, [], ◌∷◌, length, Option, Some, None, option_map, IsSome, refl, sym, ap, subst, ◌∙◌, arith}
use Rattle.std.specs.Prelude.{slice_get, slice_set}
use Rattle.std.proofs.lemmas.Option.{slice_get_within}
use Rattle.std.proofs.lemmas.Bool.Decides.{nat_tests}
use Rattle.law_counts_sums.specs.Below.fr_base.declared.place.Lval.{Lval}
use Rattle.law_counts_sums.specs.Below.fr_base.declared.instruction.Instr.{Instr}
use Rattle.law_counts_sums.specs.Below.fr_base.declared.instruction.Instr.TheVariants as instr
use Rattle.law_counts_sums.specs.Below.fr_typing.Kinds.{Kind}
use Rattle.law_counts_sums.specs.Below.fr_code.CodeTypes.{Entry, Table, InstrTypes, i_borrow}
use Rattle.law_counts_sums.specs.Below.global_addr.Words.{colour_of, server_of, next_word}
use Rattle.law_counts_sums.specs.Below.heap_partition.declared.value.Cell.{Cell}
use Rattle.law_counts_sums.specs.Below.heap_partition.declared.value.Owned.{Owned}
use Rattle.law_counts_sums.specs.Below.heap_partition.declared.value.Owned.TheVariants as owned
use Rattle.law_counts_sums.specs.Below.mut_borrow.declared.mutable.MutRef.{MutRef}
use Rattle.law_counts_sums.specs.Below.mut_borrow.declared.mutable.Cleaned.TheVariants as cleaned
use Rattle.law_counts_sums.specs.Below.mut_borrow.Refs.{cleaned_answer}
use Rattle.law_counts_sums.specs.Below.owner_box.View.{PartitionState}
use Rattle.law_counts_sums.specs.Below.owner_box.Partition.{cell_of}
use Rattle.law_counts_sums.specs.Below.thread_state.View.{ThreadState}
use Rattle.law_counts_sums.specs.Below.thread_state.declared.value.Value.{Value}
use Rattle.law_counts_sums.specs.Below.thread_state.declared.value.Value.TheVariants as value
use Rattle.law_counts_sums.specs.Below.server_model.declared.event.What.TheVariants.{Step}
use Rattle.law_counts_sums.specs.Below.server_model.Servers.{Server, Cluster}
use Rattle.law_counts_sums.specs.Below.server_model.Work.{Hand, with_slots, push_temp, look, leads_here, then_some}
use Rattle.law_counts_sums.specs.Below.server_model.NewWords.{NewWord, can_grow, is_last, issue_tint, issue_renewal}
use Rattle.law_counts_sums.specs.Below.server_model.Places.{Spot, in_slot, in_cell, in_copy, on_top, nowhere, value_at, load_at, with_word, took, put_at, put_word}
use Rattle.law_counts_sums.specs.Below.server_model.Prepare.{Prepared, ready, requested, nothing, and_then, ready_at, ask_object, box_of, cleaned_by, clean_value, read_pointer, read_stars}
use Rattle.law_counts_sums.specs.Below.server_model.Commit.{goes_on, shared_from, borrow_from}
use Rattle.law_counts_sums.specs.Below.server_model.Events.{committed, prepared}
use Rattle.law_counts_sums.specs.Below.coherent_memory.Things.{Location, in_cell as in_object}
use Rattle.law_counts_sums.specs.Below.coherent_memory.Follow.{Standing, Ground, value_in, value_of, leads, locate}
use Rattle.law_counts_sums.specs.Below.coherent_memory.Sight.{Pointer, sight}
use Rattle.law_counts_sums.specs.Kinds.{step_borrow, instr_kind}
use Rattle.law_counts_sums.specs.Laws.{HasResult}
use Rattle.law_words_paths.specs.paths.HeapStore.{HasPaths}
use Rattle.law_words_paths.proofs.paths.Sole.{some_is}
use Rattle.law_results_reads.specs.Results.{shares_variable, Anyhow, StepsHaveResults}
use Rattle.law_results_reads.proofs.Variables.{quiet_steps}
use Rattle.law_results_reads.proofs.Known.{Steps, hand, standing, able, paths, goes, entry, typed, types, grows, has_result}
use Rattle.law_results_reads.proofs.Pointing.{its_partition}
use Rattle.law_results_reads.proofs.Followed.{Place, at, hop_from, Told, told}
use Rattle.law_results_reads.proofs.Reading.{Alike, equal, both_shared, Reading}
use Rattle.law_results_reads.proofs.Starred.{bound, At, a_slot, a_cell, a_copy, seen, Fine}
use Rattle.law_results_reads.proofs.Readers.{IsReadable, readable_place, never_taken, stars_fine, settles, to_entry}

slice_set_there : (xs : List Value) (i : ℕ) (v : Value) → i < length xs → slice_get (slice_set xs i v) i ≡ Some v
slice_set_there [] i v l = absurd (omega (arith, l))
slice_set_there (x ∷ xs) zero v l = refl
slice_set_there (x ∷ xs) (suc i) v l = slice_set_there xs i v (omega (arith, l))

-- a reference in a slot gets a word
abbrev pub reworded : ℕ → MutRef → NewWord → Hand → Hand
reworded j q new h = with_slots (slice_set h.thread.slots j (value.Mut (took q new.word))) (record h { work = new.work })

pub puts_reference : (j : ℕ) (q : MutRef) (new : NewWord) (h : Hand) → slice_get h.thread.slots j ≡ Some (value.Mut q) → put_word (in_slot j) new h ≡ Some (reworded j q new h)
puts_reference j q new h e =
    let within : j < length h.thread.slots = slice_get_within h.thread.slots j (value.Mut q) e in
    let test : nat_lt j (length h.thread.slots) ≡ true = grind (arith, nat_tests, within) in
    ap (λ o. then_some o (λ v. then_some (with_word new.word v) (λ w. put_at (in_slot j) w (record h { work = new.work })))) e ∙ ap (λ b. if b then Some (reworded j q new h) else None) test

-- the word leads to a cell here
pub leads_of : (p : PartitionState) (w : ℕ) (c : Cell) → look p w ≡ Some c → leads_here p w ≡ true
leads_of p w c e = by (leads_here p w) refl e
  where
    by : (b : Bool) → leads_here p w ≡ b → (if b then cell_of p w else None) ≡ Some c → b ≡ true
    by true q f = refl
    by false q f = absurd cc

-- a look at a spot changes nothing there
pub loaded_there : (h : Hand) (sp : Spot) (u : Value) → value_at h sp ≡ Some u → value_at (load_at sp h) sp ≡ Some u
loaded_there h (in_slot j) u e = e
loaded_there h (in_cell b r) u e = e
loaded_there h (in_copy b) u e = e
loaded_there h on_top u e = e
loaded_there h nowhere u e = e

-- SHARED BORROWS

module _ (k : Cluster) (n t : ℕ) (s : Server) (y : ThreadState) (w : Lval) (d : ℕ) (depth : w.depth ≡ suc d) where
  module _ (z : Steps k n t s y (instr.Borrow w)) (q : Kind) (may : IsReadable (entry k n t s y (instr.Borrow w) z) w q) where
    abbrev i : Instr
    i = instr.Borrow w

    abbrev x : Standing
    x = standing k n t s y i z

    abbrev c : HasPaths k
    c = paths k n t s y i z

    abbrev g : Ground
    g = (sight k).ground

    abbrev tn : ℕ
    tn = y.number

    abbrev servers : ℕ
    servers = k.options.servers

    abbrev Reads : ℕ → Hand → Type 0
    Reads e h = Reading y s.rest (bound k n t s y i z) e h

    place : Place k c x false w
    place = (readable_place k c x (goes k n t s y i z) w q may).0

    lt : d < w.depth
    lt = omega (arith, depth)

    fine : Fine k n t s y i z w.slot d (read_stars d (hand k n t s y i z) (in_slot w.slot))
    fine = stars_fine k n t s y i z false w place may.has.short d (omega (arith, depth)) (λ e le under l located m v stands leads_on. never_taken k n t s y i z (λ p f. cc) false w place e le le l located m v stands leads_on)

    abbrev Done : Prepared → Type 0
    Done p = IsSome (prepared servers i p)

    -- a reference is made of what stands there
    made : (h h2 : Hand) (sp : Spot) (u r : Value) → Reads d h → value_at h2 sp ≡ Some u → shared_from u ≡ Some r → h2.thread.walk ≡ h.thread.walk → h2.work.rest.cache ≡ h.work.rest.cache → Done (ready h2 sp)
    made h h2 sp u r a at_spot from walk cache =
        subst (λ e. IsSome (committed (goes_on (borrow_from w e sp h2)))) (sym depth)
        (subst (λ o. IsSome (committed (goes_on (then_some o (λ v. option_map (λ b. push_temp b h2) (shared_from v)))))) (sym at_spot)
        (subst (λ o. IsSome (committed (goes_on (option_map (λ b. push_temp b h2) o)))) (sym from) (settles k n t s y i z d h (push_temp r h2) a walk cache)))

    module _ (h : Hand) (sp : Spot) (l : Location) (located : locate g tn w.slot d ≡ Some l) (spot : At k n t s y i z sp l) (a : Reads d h) where
      abbrev h1 : Hand
      h1 = load_at sp h

      at_loaded : (u : Value) → value_at h sp ≡ Some u → value_at h1 sp ≡ Some u
      at_loaded u e = loaded_there h sp u e

      next : (m : Location) × (locate g tn w.slot (suc d) ≡ Some m)
      next = at k z.coherent.sound c n s z.here x (goes k n t s y i z) (able k n t s y i z) false w place (suc d) (omega (arith, depth))

      -- a mutable reference is cleaned
      module _ (j : ℕ) (r : MutRef) (in_it : sp ≡ in_slot j) (there : slice_get h.thread.slots j ≡ Some (value.Mut r)) (stands : value_in g l ≡ Some (value.Mut r)) where
        abbrev p : Pointer
        p = record { at = Some l; word = r.word; object = r.object }

        facts : Told k z.coherent.sound c n s z.here x (goes k n t s y i z) (able k n t s y i z) false w place d lt l (in_object r.object) (value.Mut r) located stands refl p
        facts = told k z.coherent.sound c n s z.here x (goes k n t s y i z) (able k n t s y i z) false w place d lt l (in_object r.object) (value.Mut r) located stands refl p refl refl
            (never_taken k n t s y i z (λ b f. cc) false w place d lt lt l located (in_object r.object) (value.Mut r) stands refl)

        abbrev limit : ℕ
        limit = h1.work.rest.partition.limit

        limit_is : limit ≡ k.options.colours
        limit_is = ap (λ (b : PartitionState). b.limit) a.partition ∙ (its_partition k z.coherent.sound n s z.here).1

        below : colour_of r.word < limit
        below = omega (arith, facts.colour, limit_is)

        -- with its new word
        with_new : (new : NewWord) → new.work.rest.cache ≡ h.work.rest.cache → Done (ready_at (in_slot j) (put_word (in_slot j) new h1))
        with_new new cache =
            let within : j < length h.thread.slots = slice_get_within h.thread.slots j (value.Mut r) there in
            subst (λ o. Done (ready_at (in_slot j) o)) (sym (puts_reference j r new h1 there))
            (made h (reworded j r new h1) (in_slot j) (value.Mut (took r new.word)) _ a (slice_set_there h.thread.slots j (value.Mut (took r new.word)) within) refl refl cache)

        renews : (colour_of r.word + 1 ≡ limit) → (server_of r.word == h1.work.rest.number) ≡ true → Done (ready_at (in_slot j) (then_some (issue_renewal (box_of r) h1.work) (λ new. put_word (in_slot j) new h1)))
        renews last here_it =
            let at_home : server_of r.word ≡ s.rest.number = (let e : server_of r.word ≡ h1.work.rest.number = grind (arith, nat_tests, here_it) in e ∙ a.number) in
            let leads_it : leads_here h1.work.rest.partition r.word ≡ true = ap (λ b. leads_here b r.word) a.partition ∙ leads_of s.rest.partition r.word facts.cell (facts.home at_home) in
            let last_one : is_last h1.work.rest.partition r.word ≡ true = grind (arith, nat_tests, last) in
            let grow : can_grow h1.work.rest.partition ≡ true = ap can_grow a.partition ∙ grows k n t s y i z in
            by (leads_here h1.work.rest.partition r.word && (is_last h1.work.rest.partition r.word && can_grow h1.work.rest.partition)) (all _ _ _ leads_it last_one grow) _ refl
          where
            all : (e f b : Bool) → e ≡ true → f ≡ true → b ≡ true → (e && (f && b)) ≡ true
            all true true true e f b = refl
            all true true false e f b = absurd (cc b)
            all true false b e f d = absurd (cc f)
            all false b d e f m = absurd (cc e)

            by : (b : Bool) → b ≡ true → (new : NewWord) → new.work.rest.cache ≡ h.work.rest.cache → Done (ready_at (in_slot j) (then_some (if b then Some new else None) (λ e. put_word (in_slot j) e h1)))
            by true e new cache = with_new new cache
            by false e new cache = absurd (cc e)

        by_server : (b : Bool) → (server_of r.word == h1.work.rest.number) ≡ b → (colour_of r.word + 1 ≡ limit) → Done (if b then ready_at (in_slot j) (then_some (issue_renewal (box_of r) h1.work) (λ new. put_word (in_slot j) new h1)) else requested (ask_object (box_of r) h1))
        by_server true e last = renews last e
        by_server false e last = refl

        by_colour : (b : Bool) → nat_lt (colour_of r.word + 1) limit ≡ b → Done (cleaned_by (if b then cleaned.Tinted (next_word r.word) else cleaned.MustRenew) (in_slot j) r h1)
        by_colour true e = with_new (issue_tint (box_of r) h1.work) refl
        by_colour false e =
            let no_more : limit ≤ colour_of r.word + 1 = grind (arith, nat_tests, e) in
            by_server (server_of r.word == h1.work.rest.number) refl (omega (arith, no_more, below))

        by_dirty : (b : Bool) → r.dirty ≡ b → Done (cleaned_by (if b then (if nat_lt (colour_of r.word + 1) limit then cleaned.Tinted (next_word r.word) else cleaned.MustRenew) else cleaned.Same) (in_slot j) r h1)
        by_dirty true e = by_colour (nat_lt (colour_of r.word + 1) limit) refl
        by_dirty false e = made h h1 (in_slot j) (value.Mut r) _ a there refl refl refl

        cleans : Done (clean_value sp (Some (value.Mut r)) h1)
        cleans =
            let test : nat_lt (colour_of r.word) limit ≡ true = grind (arith, nat_tests, below) in
            subst (λ b. Done (clean_value b (Some (value.Mut r)) h1)) (sym in_it)
            (subst (λ b. Done (if b then cleaned_by (cleaned_answer limit r) (in_slot j) r h1 else nothing)) (sym test) (by_dirty r.dirty refl))

      abbrev Goal : Option Value → Type 0
      Goal o = Done (clean_value sp o h1)

      plain : (u r : Value) → value_at h sp ≡ Some u → shared_from u ≡ Some r → clean_value sp (Some u) h1 ≡ ready h1 sp → Goal (Some u)
      plain u r e from stays = subst Done (sym stays) (made h h1 sp u r a (at_loaded u e) from refl refl)

      owned_pointer : (v : Owned) (m : Location) → leads tn (Some (value.Own v)) ≡ Some m → value_at h sp ≡ Some (value.Own v) → Goal (Some (value.Own v))
      owned_pointer (owned.Box b) m e at_hand = plain (value.Own (owned.Box b)) _ at_hand refl refl
      owned_pointer owned.Nothing m e at_hand = absurd cc
      owned_pointer owned.Unit m e at_hand = absurd cc
      owned_pointer (owned.Int b) m e at_hand = absurd cc
      owned_pointer (owned.Mutex b) m e at_hand = absurd cc
      owned_pointer (owned.Task b) m e at_hand = absurd cc

      in_its_slot : (j : ℕ) (u v : Value) (m : Location) → sp ≡ in_slot j → slice_get h.thread.slots j ≡ Some u → value_in g l ≡ Some v → leads tn (Some v) ≡ Some m → Alike u v → value_at h sp ≡ Some u → Goal (Some u)
      in_its_slot j _ _ m e there stands on (both_shared b r words objects) at_hand = plain (value.Shared b) _ at_hand refl refl
      in_its_slot j (value.Own v) _ m e there stands on equal at_hand = owned_pointer v m on at_hand
      in_its_slot j (value.SharedSlot b) _ m e there stands on equal at_hand = plain (value.SharedSlot b) _ at_hand refl refl
      in_its_slot j (value.MutSlot b) _ m e there stands on equal at_hand = plain (value.MutSlot b) _ at_hand refl refl
      in_its_slot j (value.Shared b) _ m e there stands on equal at_hand = plain (value.Shared b) _ at_hand refl refl
      in_its_slot j (value.Mut b) _ m e there stands on equal at_hand = cleans j b e there stands
      in_its_slot j value.Gone _ m e there stands on equal at_hand = absurd cc
      in_its_slot j (value.Held b) _ m e there stands on equal at_hand = absurd cc

      borrowed : Done (clean_value sp (value_at h sp) h1)
      borrowed =
          let e = hop_from g tn w.slot d l next.0 located next.1 in
          let u = seen k n t s y i z d h sp l e.0 a spot e.1 in
          subst Goal (sym u.1) (by sp l refl refl spot e.0 e.1 e.2 u.0 u.1 u.2)
        where
          cell_case : (cell : Cell) (v u : Value) → value_of (Some cell) ≡ Some v → leads tn (Some v) ≡ Some next.0 → value_at h sp ≡ Some u → Alike u v → Goal (Some u)
          cell_case cell v u f on at_hand al = by_own v u (sym (some_is f)) on at_hand al
            where
              by_own : (v u : Value) → v ≡ value.Own cell.value → leads tn (Some v) ≡ Some next.0 → value_at h sp ≡ Some u → Alike u v → Goal (Some u)
              by_own v u is on at_hand equal = subst (λ b. value_at h sp ≡ Some b → Goal (Some b)) (sym is) (owned_pointer cell.value next.0 (ap (λ b. leads tn (Some b)) (sym is) ∙ on)) at_hand
              by_own _ _ is on at_hand (both_shared b r words objects) = absurd cc

          by : (b : Spot) (f : Location) → sp ≡ b → l ≡ f → At k n t s y i z b f → (v : Value) → value_in g l ≡ Some v → leads tn (Some v) ≡ Some next.0 → (u : Value) → value_at h sp ≡ Some u → Alike u v → Goal (Some u)
          by _ _ e f (a_slot j) v stands on u at_hand al = in_its_slot j u v next.0 e (sym (ap (value_at h) e) ∙ at_hand) stands on al at_hand
          by _ _ e f (a_cell b r o cell there has) v stands on u at_hand al = cell_case cell v u (sym (ap (value_in g) f ∙ ap value_of has) ∙ stands) on at_hand al
          by _ _ e f (a_copy b o cell there has) v stands on u at_hand al = cell_case cell v u (sym (ap (value_in g) f ∙ ap value_of has) ∙ stands) on at_hand al

    after : (p : Prepared) → Fine k n t s y i z w.slot d p → Done (and_then (λ h2 sp. clean_value sp (value_at h2 sp) (load_at sp h2)) p)
    after (ready h sp) f = borrowed h sp f.0 f.1 f.2 f.3
    after (requested h) f = refl
    after nothing f = absurd f

    pub shares_it : Done (read_pointer w w.depth (hand k n t s y i z))
    shares_it = subst (λ e. Done (read_pointer w e (hand k n t s y i z))) (sym depth) (after (read_stars d (hand k n t s y i z) (in_slot w.slot)) fine)

readable_borrow : (table : Table) (e e2 : Entry) (w : Lval) → InstrTypes table e (instr.Borrow w) e2 → (q : Kind) × IsReadable e w q
readable_borrow table _ _ w (i_borrow {k = q} waits has free) = (q, record { awake = refl; has = has; free = free; waits_there = waits })

borrow_step : (k : Cluster) (n t : ℕ) (s : Server) (y : ThreadState) (w : Lval) (d : ℕ) → w.depth ≡ suc d → Steps k n t s y (instr.Borrow w) → HasResult k n (Step t)
borrow_step k n t s y w d depth z =
    let i = instr.Borrow w in
    let at_it = typed k n t s y i z in
    let to = to_entry (types k n t s y i z).table y.pc (entry k n t s y i z) i at_it.0 at_it.1 (λ o e. cc) in
    let q = readable_borrow (types k n t s y i z).table (entry k n t s y i z) to.0 w to.1 in
    has_result k n t s y i z (shares_it k n t s y w d depth z q.0 q.1)

pub borrows_have_results : StepsHaveResults step_borrow Anyhow
borrows_have_results k n t s y i coherent few server on at_it code is f = by i code is
  where
    by_depth : (w : Lval) (d : ℕ) → w.depth ≡ d → slice_get k.code y.pc ≡ Some (instr.Borrow w) → HasResult k n (Step t)
    by_depth w zero e c = quiet_steps step_borrow tt (λ q. cc) k n t s y (instr.Borrow w) coherent few server on at_it c refl (shares_variable e)
    by_depth w (suc d) e c = borrow_step k n t s y w d e (record { coherent = coherent; few = few; here = server; on = on; at = at_it; code = c })

    by : (i : Instr) → slice_get k.code y.pc ≡ Some i → instr_kind i ≡ step_borrow → HasResult k n (Step t)
    by (instr.Borrow w) c e = by_depth w w.depth refl c
    by _ c e = absurd (cc e)
