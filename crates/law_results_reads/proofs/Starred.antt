-- A place that is read is ready, or something is asked for: each hop of it leads to an object here, to a copy here, or to a slot.
use Rattle.std.proofs.Common.{◌≡◌, ◌≤◌, ◌<◌, ℕ, zero, suc, ◌+◌, ◌*◌, ◌^◌, ◌==◌, nat_lt, is_some, Bool, true, false, if◌then◌else◌, List, [], ◌∷◌, length, Option, Some, None, refl, sym, ap, subst, ◌∙◌, arith}
use Rattle.std.specs.Prelude.{slice_get, slice_set}
use Rattle.std.specs.Bool.{⊤}
use Rattle.std.proofs.lemmas.Option.{slice_get_within}
use Rattle.std.proofs.lemmas.Bool.Decides.{nat_tests}
use Rattle.law_counts_sums.specs.Below.fr_base.declared.name.ObjNo.{ObjNo}
use Rattle.law_counts_sums.specs.Below.fr_base.declared.place.Lval.{Lval}
use Rattle.law_counts_sums.specs.Below.fr_base.declared.instruction.Instr.{Instr}
use Rattle.law_counts_sums.specs.Below.global_addr.Words.{colour_of, server_of, next_word}
use Rattle.law_counts_sums.specs.Below.heap_partition.declared.value.BoxPtr.{BoxPtr}
use Rattle.law_counts_sums.specs.Below.heap_partition.declared.value.Cell.{Cell}
use Rattle.law_counts_sums.specs.Below.heap_partition.declared.value.Owned.TheVariants as owned
use Rattle.law_counts_sums.specs.Below.mut_borrow.declared.mutable.MutRef.{MutRef}
use Rattle.law_counts_sums.specs.Below.mut_borrow.declared.shared.SharedRef.{SharedRef}
use Rattle.law_counts_sums.specs.Below.mut_borrow.declared.mutable.Cleaned.TheVariants as cleaned
use Rattle.law_counts_sums.specs.Below.mut_borrow.Refs.{cleaned_answer}
use Rattle.law_counts_sums.specs.Below.read_cache.Cache.{Copy, hit, is_cached}
use Rattle.law_counts_sums.specs.Below.place_walk.declared.hop.Hop.{Hop}
use Rattle.law_counts_sums.specs.Below.place_walk.declared.hop.Hop.TheVariants as hop
use Rattle.law_counts_sums.specs.Below.place_walk.Hops.{by_copy, clean_hop, dirty_hop, read_hop}
use Rattle.law_counts_sums.specs.Below.journal.declared.act.Act.{Act}
use Rattle.law_counts_sums.specs.Below.thread_state.View.{ThreadState}
use Rattle.law_counts_sums.specs.Below.thread_state.declared.value.Value.{Value}
use Rattle.law_counts_sums.specs.Below.thread_state.declared.value.Value.TheVariants as value
use Rattle.law_counts_sums.specs.Below.server_model.Servers.{Rest, Server, Cluster}
use Rattle.law_counts_sums.specs.Below.server_model.Work.{Hand, note, label_all, with_slots, look, use_word, then_some}
use Rattle.law_counts_sums.specs.Below.server_model.NewWords.{issue_tint}
use Rattle.law_counts_sums.specs.Below.server_model.Places.{Spot, in_slot, in_cell, in_copy, value_at, value_in as cell_value, cell_at, load_of, load_at, pointer_of, with_word, took, put_slot, put_word}
use Rattle.law_counts_sums.specs.Below.server_model.Prepare.{Prepared, ready, requested, nothing, and_then, ready_at, ask_copy, request_by, box_of, clean_last, cleaned_by, clean, clean_value, use_copy, hopped, local, hit_by, read_by, read_value, read_clean, tinted_first, read_star, read_stars}
use Rattle.law_counts_sums.specs.Below.coherent_memory.Things.{Location, at_slot, in_cell as in_object}
use Rattle.law_counts_sums.specs.Below.coherent_memory.Follow.{Standing, Ground, cell_of, value_in, value_of, slot_of, leads, locate}
use Rattle.law_counts_sums.specs.Below.coherent_memory.Sight.{Pointer, sight}
use Rattle.law_counts_sums.specs.Below.coherent_memory.Naming.{events_of}
use Rattle.law_words_paths.proofs.paths.Shown.{stands_there}
use Rattle.law_words_paths.proofs.paths.Sole.{some_is}
use Rattle.law_results_reads.proofs.Known.{Steps, able, goes, paths, standing}
use Rattle.law_results_reads.proofs.Pointing.{pointer_at, its_partition}
use Rattle.law_results_reads.proofs.Followed.{Place, at, hop_from, Told, told, Untaken}
use Rattle.law_results_reads.proofs.Reading.{Alike, equal, both_shared, alike_at, Reading, one_more, noted, uses, pins, cached_hit}

slice_set_there : (xs : List Value) (i : ℕ) (v : Value) → i < length xs → slice_get (slice_set xs i v) i ≡ Some v
slice_set_there [] i v l = absurd (omega (arith, l))
slice_set_there (x ∷ xs) zero v l = refl
slice_set_there (x ∷ xs) (suc i) v l = slice_set_there xs i v (omega (arith, l))

no_owned : (t : ℕ) (m : Location) (v : Value) → leads t (Some v) ≡ Some m → leads t (Some v) ≡ None → ⊥
no_owned t m v e f = let no : None ≡ Some m = sym f ∙ e in cc

module _ (k : Cluster) (n t : ℕ) (s : Server) (y : ThreadState) (i : Instr) (z : Steps k n t s y i) where
  abbrev x : Standing
  x = standing k n t s y i z

  abbrev g : Ground
  g = (sight k).ground

  abbrev r : Rest
  r = s.rest

  abbrev tn : ℕ
  tn = y.number

  -- at most so many users of a word at the start
  abbrev pub bound : ℕ
  bound = 16 * events_of (sight k)

  pub few_bound : bound + 16 < 2 ^ 64
  few_bound = omega (arith, z.few)

  -- where a spot of the hand stands for a location
  pub data At : Spot → Location → Type 0 where
    a_slot : (j : ℕ) → At (in_slot j) (at_slot tn j)
    a_cell : (w : ℕ) (q : Option ℕ) (o : ObjNo) (d : Cell) → look r.partition w ≡ Some d → cell_of g.cells o ≡ Some d → At (in_cell w q) (in_object o)
    a_copy : (w : ℕ) (o : ObjNo) (d : Cell) → hit r.cache w ≡ Some d → cell_of g.cells o ≡ Some d → At (in_copy w) (in_object o)

  slot_there : (j : ℕ) → value_in g (at_slot tn j) ≡ slice_get y.slots j
  slot_there j = ap (λ o. slot_of o j) (stands_there k (paths k n t s y i z) x (goes k n t s y i z))

  -- the value at the spot is that at the location, up to its pin
  pub seen : (j : ℕ) (h : Hand) (sp : Spot) (l : Location) (v : Value) → Reading y r bound j h → At sp l → value_in g l ≡ Some v → (u : Value) × (value_at h sp ≡ Some u) × Alike u v
  seen j h _ _ v a (a_slot b) e = alike_at h.thread.slots y.slots b v a.slots (sym (slot_there b) ∙ e)
  seen j h _ _ v a (a_cell w q o d f c) e = (v, ap cell_value (ap (λ p. look p w) a.partition ∙ f) ∙ sym (ap value_of c) ∙ e, equal)
  seen j h _ _ v a (a_copy w o d f c) e = (v, ap cell_value (a.hits w ∙ f) ∙ sym (ap value_of c) ∙ e, equal)

  -- a place is ready where it leads with so many stars, or something was asked for
  abbrev pub Fine : ℕ → ℕ → Prepared → Type 0
  Fine slot d (ready h sp) = (l : Location) × (locate g tn slot d ≡ Some l) × At sp l × Reading y r bound d h
  Fine slot d (requested h) = ⊤
  Fine slot d nothing = ⊥

  hopped_reads : (j : ℕ) (h : Hand) (f : BoxPtr → Act) (o : Option BoxPtr) → Reading y r bound j h → Reading y r bound j (hopped (λ p. note (f p)) o h)
  hopped_reads j h f None a = a
  hopped_reads j h f (Some p) a = noted y r bound few_bound j h (note (f p)) refl a

  pub loaded : (j : ℕ) (h : Hand) (sp : Spot) → Reading y r bound j h → Reading y r bound j (load_at sp h)
  loaded j h sp a = noted y r bound few_bound j h (label_all (load_of (cell_at h sp))) refl a

  -- ONE HOP

  module _ (slot d : ℕ) (m : Location) (next : locate g tn slot (d + 1) ≡ Some m) (few_stars : d ≤ 8) (h : Hand) (sp : Spot) (a : Reading y r bound d h) where
    abbrev N : ℕ
    N = h.work.rest.number

    abbrev C : List Copy
    C = h.work.rest.cache

    -- a reference to a slot
    to_slot : (u : Value) (j : ℕ) → read_hop N C u ≡ Some (hop.Slot j) → m ≡ at_slot tn j → Fine slot (d + 1) (read_by sp u (read_hop N C u) h)
    to_slot u j e f = subst (λ q. Fine slot (d + 1) (read_by sp u q h)) (sym e) (m, next, subst (At (in_slot j)) (sym f) (a_slot j), one_more y r bound few_bound d h a)

    -- a pointer to an object here
    direct : (u : Value) (p : Pointer) (cell : Cell) → read_hop N C u ≡ Some (hop.Direct p.word) → m ≡ in_object p.object → look r.partition p.word ≡ Some cell → cell_of g.cells p.object ≡ Some cell → Fine slot (d + 1) (read_by sp u (read_hop N C u) h)
    direct u p cell e f home there =
        subst (λ q. Fine slot (d + 1) (read_by sp u q h)) (sym e)
        (m, next, subst (At (in_cell p.word None)) (sym f) (a_cell p.word None p.object cell home there), one_more y r bound few_bound d (local u h) (hopped_reads d h _ (pointer_of u) a))

    -- a pointer that isn't dirty
    clean_by : (u : Value) (p : Pointer) (cell : Cell) (b : BoxPtr) → m ≡ in_object p.object → cell_of g.cells p.object ≡ Some cell → (server_of p.word ≡ r.number → look r.partition p.word ≡ Some cell)
        → ((q : Cell) → hit r.cache p.word ≡ Some q → q ≡ cell) → pointer_of u ≡ Some b → (is_cached C p.word ≡ true → (h2 : Hand) × (use_copy sp u p.word (hit_by u h) ≡ Some h2) × Reading y r bound (d + 1) h2)
        → read_hop N C u ≡ Some (clean_hop N C p.word) → Fine slot (d + 1) (read_by sp u (read_hop N C u) h)
    clean_by u p cell b f there home copied pointer used e = subst (λ q. Fine slot (d + 1) (read_by sp u q h)) (sym e) (by (server_of p.word == N) refl)
      where
        by_cached : (q : Bool) → is_cached C p.word ≡ q → Fine slot (d + 1) (read_by sp u (Some (if q then hop.Hit p.word else hop.NeedCopy p.word)) h)
        by_cached true q =
            let h2 = used q in
            let some_copy : is_some (hit r.cache p.word) ≡ true = ap is_some (sym (a.hits p.word)) ∙ sym (cached_hit C p.word) ∙ q in
            subst (λ o. Fine slot (d + 1) (ready_at (in_copy p.word) o)) (sym h2.1)
            (m, next, subst (At (in_copy p.word)) (sym f) (its_copy (hit r.cache p.word) refl some_copy), h2.2)
          where
            its_copy : (o : Option Cell) → hit r.cache p.word ≡ o → is_some o ≡ true → At (in_copy p.word) (in_object p.object)
            its_copy None q e = absurd cc
            its_copy (Some c) q e = a_copy p.word p.object cell (q ∙ ap Some (copied c q)) there
        by_cached false q = subst (λ o. Fine slot (d + 1) (request_by ask_copy h o)) (sym pointer) tt

        by : (q : Bool) → (server_of p.word == N) ≡ q → Fine slot (d + 1) (read_by sp u (Some (if q then hop.Direct p.word else by_copy C p.word)) h)
        by true q =
            let here_it : server_of p.word ≡ r.number = (let w : server_of p.word ≡ N = grind (arith, nat_tests, q) in w ∙ a.number) in
            (m, next, subst (At (in_cell p.word None)) (sym f) (a_cell p.word None p.object cell (home here_it) there), one_more y r bound few_bound d (local u h) (hopped_reads d h _ (pointer_of u) a))
        by false q = by_cached (is_cached C p.word) refl

  -- where nothing is to be cleaned the hop is read
  no_tint : (sp : Spot) (u : Value) (o : Option Hop) (h : Hand) → ((w : ℕ) → o ≡ Some (hop.NeedTint w) → ⊥) → read_clean sp u o h ≡ ready h sp
  no_tint sp u None h f = refl
  no_tint sp u (Some (hop.NeedTint w)) h f = absurd (f w refl)
  no_tint sp u (Some (hop.Slot j)) h f = refl
  no_tint sp u (Some (hop.Direct w)) h f = refl
  no_tint sp u (Some (hop.Hit w)) h f = refl
  no_tint sp u (Some (hop.NeedCopy w)) h f = refl
  no_tint sp u (Some (hop.NeedMove w)) h f = refl
  no_tint sp u (Some (hop.AtCell w)) h f = refl

  clean_no_tint : (server : ℕ) (cs : List Copy) (w v : ℕ) → Some (clean_hop server cs w) ≡ Some (hop.NeedTint v) → ⊥
  clean_no_tint server cs w v e = by (server_of w == server) (is_cached cs w) e
    where
      by : (p q : Bool) → Some (if p then hop.Direct w else (if q then hop.Hit w else hop.NeedCopy w)) ≡ Some (hop.NeedTint v) → ⊥
      by true q f = cc
      by false true f = cc
      by false false f = cc

  -- the hop is read as it is
  read_plainly : (slot d : ℕ) (h : Hand) (sp : Spot) (u : Value) → value_at h sp ≡ Some u → value_at (load_at sp h) sp ≡ Some u → ((w : ℕ) → read_hop h.work.rest.number h.work.rest.cache u ≡ Some (hop.NeedTint w) → ⊥)
      → Fine slot d (read_by sp u (read_hop h.work.rest.number h.work.rest.cache u) (load_at sp h)) → Fine slot d (read_star h sp)
  read_plainly slot d h sp u e f clean go =
      subst (λ o. Fine slot d (and_then (λ h2 s2. read_value s2 (value_at h2 s2) h2) (tinted_first sp o (load_at sp h)))) (sym e)
      (subst (λ p. Fine slot d (and_then (λ h2 s2. read_value s2 (value_at h2 s2) h2) p)) (sym (no_tint sp u (read_hop h.work.rest.number h.work.rest.cache u) (load_at sp h) clean))
      (subst (λ o. Fine slot d (read_value sp o (load_at sp h))) (sym f) go))

  -- A DIRTY REFERENCE TO AN OBJECT ELSEWHERE

  module _ (slot d : ℕ) (h : Hand) (j : ℕ) (q : MutRef) (a : Reading y r bound d h) (there : slice_get h.thread.slots j ≡ Some (value.Mut q)) (dirty : q.dirty ≡ true) (elsewhere : (server_of q.word == h.work.rest.number) ≡ false)
      (colour : colour_of q.word < r.partition.limit) (new : is_cached r.cache (next_word q.word) ≡ false) where
    abbrev go : Hand → Spot → Prepared
    go h2 s2 = read_value s2 (value_at h2 s2) h2

    abbrev Asked : Prepared → Type 0
    Asked p = Fine slot d (and_then go p)

    abbrev tinted : MutRef
    tinted = took q (next_word q.word)

    abbrev h3 : Hand
    h3 = with_slots (slice_set h.thread.slots j (value.Mut tinted)) (record h { work = (issue_tint (box_of q) h.work).work })

    within : j < length h.thread.slots
    within = slice_get_within h.thread.slots j (value.Mut q) there

    puts : put_word (in_slot j) (issue_tint (box_of q) h.work) h ≡ Some h3
    puts =
        let test : nat_lt j (length h.thread.slots) ≡ true = grind (arith, nat_tests, within) in
        ap (λ o. then_some o (λ v. then_some (with_word (next_word q.word) v) (λ w. Rattle.law_counts_sums.specs.Below.server_model.Places.put_at (in_slot j) w (record h { work = (issue_tint (box_of q) h.work).work })))) there
        ∙ ap (λ b. if b then Some h3 else None) test

    not_cached : is_cached h.work.rest.cache (next_word q.word) ≡ false
    not_cached = cached_hit h.work.rest.cache (next_word q.word) ∙ ap is_some (a.hits (next_word q.word)) ∙ sym (cached_hit r.cache (next_word q.word)) ∙ new

    still_elsewhere : (server_of (next_word q.word) == h.work.rest.number) ≡ false
    still_elsewhere = let e : server_of (next_word q.word) ≡ server_of q.word = omega arith in ap (λ w. w == h.work.rest.number) e ∙ elsewhere

    -- under its new word a copy is asked for
    asks : Fine slot d (go h3 (in_slot j))
    asks =
        let there_now : value_at h3 (in_slot j) ≡ Some (value.Mut tinted) = slice_set_there h.thread.slots j (value.Mut tinted) within in
        subst (λ o. Fine slot d (read_value (in_slot j) o h3)) (sym there_now)
        (subst (λ b. Fine slot d (read_by (in_slot j) (value.Mut tinted) (Some (if b then hop.Direct (next_word q.word) else by_copy h.work.rest.cache (next_word q.word))) h3)) (sym still_elsewhere)
        (subst (λ b. Fine slot d (read_by (in_slot j) (value.Mut tinted) (Some (if b then hop.Hit (next_word q.word) else hop.NeedCopy (next_word q.word))) h3)) (sym not_cached) tt))

    by_answer : (b : Bool) → Asked (cleaned_by (if b then cleaned.Tinted (next_word q.word) else cleaned.MustRenew) (in_slot j) q h)
    by_answer true = subst (λ o. Asked (ready_at (in_slot j) o)) (sym puts) asks
    by_answer false = subst (λ b. Asked (if b then ready_at (in_slot j) (then_some (Rattle.law_counts_sums.specs.Below.server_model.NewWords.issue_renewal (box_of q) h.work) (λ n. put_word (in_slot j) n h)) else requested (Rattle.law_counts_sums.specs.Below.server_model.Prepare.ask_object (box_of q) h))) (sym elsewhere) tt

    pub cleans : Asked (clean_value (in_slot j) (Some (value.Mut q)) h)
    cleans =
        let limit : colour_of q.word < h.work.rest.partition.limit = subst (λ (p : Rattle.law_counts_sums.specs.Below.owner_box.View.PartitionState). colour_of q.word < p.limit) (sym a.partition) colour in
        let below : nat_lt (colour_of q.word) h.work.rest.partition.limit ≡ true = grind (arith, nat_tests, limit) in
        subst (λ b. Asked (if b then cleaned_by (cleaned_answer h.work.rest.partition.limit q) (in_slot j) q h else nothing)) (sym below)
        (subst (λ b. Asked (cleaned_by (if b then (if nat_lt (colour_of q.word + 1) h.work.rest.partition.limit then cleaned.Tinted (next_word q.word) else cleaned.MustRenew) else cleaned.Same) (in_slot j) q h)) (sym dirty)
        (by_answer (nat_lt (colour_of q.word + 1) h.work.rest.partition.limit)))

  -- ONE STAR

  module _ (only : Bool) (w : Lval) (place : Place k (paths k n t s y i z) x only w) (d : ℕ) (lt : d < w.depth) (short : w.depth ≤ 8) (l : Location) (located : locate g tn w.slot d ≡ Some l)
      (free : (m : Location) (v : Value) (stands : value_in g l ≡ Some v) (leads_on : leads tn (Some v) ≡ Some m) → Untaken k z.coherent.sound (paths k n t s y i z) n s z.here x (goes k n t s y i z) (able k n t s y i z) only w place d lt l m v located stands leads_on) where
    abbrev Next : Prepared → Type 0
    Next p = Fine w.slot (d + 1) p

    module _ (m : Location) (v : Value) (stands : value_in g l ≡ Some v) (leads_on : leads tn (Some v) ≡ Some m) (next : locate g tn w.slot (d + 1) ≡ Some m) (h : Hand) (sp : Spot) (spot : At sp l) (a : Reading y r bound d h) where
      abbrev h1 : Hand
      h1 = load_at sp h

      a1 : Reading y r bound d h1
      a1 = loaded d h sp a

      tells : (p : Pointer) → pointer_at l v ≡ Some p → m ≡ in_object p.object → Told k z.coherent.sound (paths k n t s y i z) n s z.here x (goes k n t s y i z) (able k n t s y i z) only w place d lt l m v located stands leads_on p
      tells p is e = told k z.coherent.sound (paths k n t s y i z) n s z.here x (goes k n t s y i z) (able k n t s y i z) only w place d lt l m v located stands leads_on p is e (free m v stands leads_on)

      eight : d ≤ 8
      eight = omega (arith, lt, short)

      value_loaded : (u : Value) → value_at h sp ≡ Some u → value_at h1 sp ≡ Some u
      value_loaded u e = by sp e
        where
          by : (q : Spot) → value_at h q ≡ Some u → value_at (load_at q h) q ≡ Some u
          by (in_slot j) f = f
          by (in_cell c q) f = f
          by (in_copy c) f = f
          by Rattle.law_counts_sums.specs.Below.server_model.Places.on_top f = f
          by Rattle.law_counts_sums.specs.Below.server_model.Places.nowhere f = f

      -- the value at hand has the pointer
      clean_pointer : (u : Value) (p : Pointer) (b : BoxPtr) → pointer_at l v ≡ Some p → m ≡ in_object p.object → value_at h sp ≡ Some u → pointer_of u ≡ Some b → ((q : MutRef) → v ≡ value.Mut q → q.dirty ≡ true → ⊥)
          → read_hop h1.work.rest.number h1.work.rest.cache u ≡ Some (clean_hop h1.work.rest.number h1.work.rest.cache p.word) → (is_cached h1.work.rest.cache p.word ≡ true → (h2 : Hand) × (use_copy sp u p.word (hit_by u h1) ≡ Some h2) × Reading y r bound (d + 1) h2) → Next (read_star h sp)
      clean_pointer u p b is e at_hand pointer clean hop_is used =
          let t2 = tells p is e in
          read_plainly w.slot (d + 1) h sp u at_hand (value_loaded u at_hand) (λ c f. clean_no_tint h1.work.rest.number h1.work.rest.cache p.word c (sym hop_is ∙ f))
          (clean_by w.slot d m next eight h1 sp a1 u p t2.cell b e t2.there t2.home (t2.copied clean) pointer used hop_is)

      of_slot : (j : ℕ) (u : Value) → v ≡ u → value_at h sp ≡ Some u → m ≡ at_slot tn j → ((server : ℕ) (cs : List Copy) → read_hop server cs u ≡ Some (hop.Slot j)) → Next (read_star h sp)
      of_slot j u same_value at_hand e hop_is =
          read_plainly w.slot (d + 1) h sp u at_hand (value_loaded u at_hand) (λ c f. let no : Some (hop.Slot j) ≡ Some (hop.NeedTint c) = sym (hop_is h1.work.rest.number h1.work.rest.cache) ∙ f in cc)
          (to_slot w.slot d m next eight h1 sp a1 u j (hop_is h1.work.rest.number h1.work.rest.cache) e)

      -- what is used of a box or a mutable reference
      walked : (u : Value) (c : ℕ) → ((q : SharedRef) → u ≡ value.Shared q → ⊥) → is_cached h1.work.rest.cache c ≡ true → (h2 : Hand) × (use_copy sp u c (hit_by u h1) ≡ Some h2) × Reading y r bound (d + 1) h2
      walked u c no_shared e =
          let b = hopped_reads d h1 (λ p. Rattle.law_counts_sums.specs.Below.journal.declared.act.Act.TheVariants.Hit p.object p.word) (pointer_of u) a1 in
          let q = uses y r bound few_bound d (hit_by u h1) c eight b (subst (λ cs. is_cached cs c ≡ true) (sym (same_cache (pointer_of u))) e) in
          (q.0, as_walk u no_shared ∙ q.1, q.2)
        where
          same_cache : (o : Option BoxPtr) → (hopped (λ p. note (Rattle.law_counts_sums.specs.Below.journal.declared.act.Act.TheVariants.Hit p.object p.word)) o h1).work.rest.cache ≡ h1.work.rest.cache
          same_cache None = refl
          same_cache (Some p) = refl

          as_walk : (u : Value) → ((q : SharedRef) → u ≡ value.Shared q → ⊥) → use_copy sp u c (hit_by u h1) ≡ use_word c (hit_by u h1)
          as_walk (value.Shared q) f = absurd (f q refl)
          as_walk value.Gone f = refl
          as_walk (value.Own o) f = refl
          as_walk (value.SharedSlot j) f = refl
          as_walk (value.MutSlot j) f = refl
          as_walk (value.Mut q) f = refl
          as_walk (value.Held q) f = refl

      -- a shared reference stands in a slot, and is pinned there
      shared_pinned : (q : SharedRef) (j : ℕ) → slice_get h1.thread.slots j ≡ Some (value.Shared q) → is_cached h1.work.rest.cache q.word ≡ true → (h2 : Hand) × (use_copy (in_slot j) (value.Shared q) q.word (hit_by (value.Shared q) h1) ≡ Some h2) × Reading y r bound (d + 1) h2
      shared_pinned q j e c = pins y r bound few_bound d (hit_by (value.Shared q) h1) j q eight (noted y r bound few_bound d h1 (note (Rattle.law_counts_sums.specs.Below.journal.declared.act.Act.TheVariants.Hit q.object q.word)) refl a1) c e

      by_box : (p : BoxPtr) → v ≡ value.Own (owned.Box p) → value_at h sp ≡ Some (value.Own (owned.Box p)) → m ≡ in_object p.object → Next (read_star h sp)
      by_box p same_value at_hand e =
          clean_pointer (value.Own (owned.Box p)) (record { at = Some l; word = p.word; object = p.object }) p (ap (pointer_at l) same_value) e at_hand refl (λ q f g. let no : value.Own (owned.Box p) ≡ value.Mut q = sym same_value ∙ f in cc) refl
          (walked (value.Own (owned.Box p)) p.word (λ q f. cc))

      by_lent : (q : MutRef) (j : ℕ) → v ≡ value.Mut q → sp ≡ in_slot j → slice_get h.thread.slots j ≡ Some (value.Mut q) → value_at h sp ≡ Some (value.Mut q) → m ≡ in_object q.object → Next (read_star h sp)
      by_lent q j same_value in_its_slot there at_hand e = by q.dirty refl
        where
          p : Pointer
          p = record { at = Some l; word = q.word; object = q.object }

          t2 : Told k z.coherent.sound (paths k n t s y i z) n s z.here x (goes k n t s y i z) (able k n t s y i z) only w place d lt l m v located stands leads_on p
          t2 = tells p (ap (pointer_at l) same_value) e

          by_server : (b : Bool) → (server_of q.word == h1.work.rest.number) ≡ b → q.dirty ≡ true → Next (read_star h sp)
          by_server true f dirty =
              let here_it : server_of q.word ≡ r.number = (let c : server_of q.word ≡ h1.work.rest.number = grind (arith, nat_tests, f) in c ∙ a1.number) in
              let its_hop : read_hop h1.work.rest.number h1.work.rest.cache (value.Mut q) ≡ Some (hop.Direct q.word) =
              ap (λ b. Some (if b then dirty_hop h1.work.rest.number q.word else clean_hop h1.work.rest.number h1.work.rest.cache q.word)) dirty ∙ ap (λ b. Some (if b then hop.Direct q.word else hop.NeedTint q.word)) f in
              read_plainly w.slot (d + 1) h sp (value.Mut q) at_hand (value_loaded (value.Mut q) at_hand) (λ c no. let bad : Some (hop.Direct q.word) ≡ Some (hop.NeedTint c) = sym its_hop ∙ no in cc)
              (direct w.slot d m next eight h1 sp a1 (value.Mut q) p t2.cell its_hop e (t2.home here_it) t2.there)
          by_server false f dirty =
              let its_hop : read_hop h1.work.rest.number h1.work.rest.cache (value.Mut q) ≡ Some (hop.NeedTint q.word) =
              ap (λ b. Some (if b then dirty_hop h1.work.rest.number q.word else clean_hop h1.work.rest.number h1.work.rest.cache q.word)) dirty ∙ ap (λ b. Some (if b then hop.Direct q.word else hop.NeedTint q.word)) f in
              let limit : colour_of q.word < r.partition.limit = omega (arith, t2.colour, (its_partition k z.coherent.sound n s z.here).1) in
              subst (λ o. Next (and_then (λ h2 s2. read_value s2 (value_at h2 s2) h2) (tinted_first sp o h1))) (sym at_hand)
              (subst (λ o. Next (and_then (λ h2 s2. read_value s2 (value_at h2 s2) h2) (read_clean sp (value.Mut q) o h1))) (sym its_hop)
              (subst (λ c. Next (and_then (λ h2 s2. read_value s2 (value_at h2 s2) h2) (clean_value c (Some (value.Mut q)) h1))) (sym in_its_slot)
              (cleans w.slot (d + 1) h1 j q (one_more y r bound few_bound d h1 a1) there dirty f limit t2.new)))

          by : (b : Bool) → q.dirty ≡ b → Next (read_star h sp)
          by true f = by_server (server_of q.word == h1.work.rest.number) refl f
          by false f =
              clean_pointer (value.Mut q) p (record { word = q.word; object = q.object }) (ap (pointer_at l) same_value) e at_hand refl
              (λ b g dirty. let one : value.Mut q ≡ value.Mut b = sym same_value ∙ g in let same_reference : q ≡ b = cc in let no : true ≡ false = sym dirty ∙ sym (ap (λ (c : MutRef). c.dirty) same_reference) ∙ f in cc)
              (ap (λ b. Some (if b then dirty_hop h1.work.rest.number q.word else clean_hop h1.work.rest.number h1.work.rest.cache q.word)) f) (walked (value.Mut q) q.word (λ b g. cc))

      by_shared : (q b : SharedRef) (j : ℕ) → v ≡ value.Shared b → q.word ≡ b.word → sp ≡ in_slot j → slice_get h.thread.slots j ≡ Some (value.Shared q) → value_at h sp ≡ Some (value.Shared q) → m ≡ in_object b.object → Next (read_star h sp)
      by_shared q b j same_value words in_its_slot there at_hand e =
          let hop_is : read_hop h1.work.rest.number h1.work.rest.cache (value.Shared q) ≡ Some (clean_hop h1.work.rest.number h1.work.rest.cache b.word) = ap (λ c. Some (clean_hop h1.work.rest.number h1.work.rest.cache c)) words in
          clean_pointer (value.Shared q) (record { at = None; word = b.word; object = b.object }) (record { word = q.word; object = q.object }) (ap (pointer_at l) same_value) e at_hand refl (λ c f g. let no : value.Shared b ≡ value.Mut c = sym same_value ∙ f in cc) hop_is
          (λ c. subst (λ v2. (h2 : Hand) × (use_copy sp (value.Shared q) v2 (hit_by (value.Shared q) h1) ≡ Some h2) × Reading y r bound (d + 1) h2) words
          (subst (λ p2. (h2 : Hand) × (use_copy p2 (value.Shared q) q.word (hit_by (value.Shared q) h1) ≡ Some h2) × Reading y r bound (d + 1) h2) (sym in_its_slot) (shared_pinned q j there (subst (λ v2. is_cached h1.work.rest.cache v2 ≡ true) (sym words) c))))

      to_object : (o : ObjNo) → leads tn (Some v) ≡ Some (in_object o) → m ≡ in_object o
      to_object o e = some_is (sym leads_on ∙ e)

      none_leads : leads tn (Some v) ≡ None → Next (read_star h sp)
      none_leads e = absurd (no_owned tn m v leads_on e)

      owned_star : (o : Rattle.law_counts_sums.specs.Below.heap_partition.declared.value.Owned.Owned) → v ≡ value.Own o → value_at h sp ≡ Some (value.Own o) → Next (read_star h sp)
      owned_star (owned.Box p) e f = by_box p e f (to_object p.object (ap (λ q. leads tn (Some q)) e))
      owned_star owned.Nothing e f = none_leads (ap (λ q. leads tn (Some q)) e)
      owned_star owned.Unit e f = none_leads (ap (λ q. leads tn (Some q)) e)
      owned_star (owned.Int b) e f = none_leads (ap (λ q. leads tn (Some q)) e)
      owned_star (owned.Mutex b) e f = none_leads (ap (λ q. leads tn (Some q)) e)
      owned_star (owned.Task b) e f = none_leads (ap (λ q. leads tn (Some q)) e)

      in_slot_star : (j : ℕ) (u b : Value) → v ≡ b → sp ≡ in_slot j → slice_get h.thread.slots j ≡ Some u → value_at h sp ≡ Some u → Alike u b → Next (read_star h sp)
      in_slot_star j _ _ e q there f (both_shared a b words objects) = by_shared a b j e words q there f (to_object b.object (ap (λ c. leads tn (Some c)) e))
      in_slot_star j (value.Own o) _ e q there f equal = owned_star o e f
      in_slot_star j (value.SharedSlot b) _ e q there f equal = of_slot b (value.SharedSlot b) e f (some_is (sym leads_on ∙ ap (λ c. leads tn (Some c)) e)) (λ server cs. refl)
      in_slot_star j (value.MutSlot b) _ e q there f equal = of_slot b (value.MutSlot b) e f (some_is (sym leads_on ∙ ap (λ c. leads tn (Some c)) e)) (λ server cs. refl)
      in_slot_star j (value.Shared b) _ e q there f equal = by_shared b b j e refl q there f (to_object b.object (ap (λ c. leads tn (Some c)) e))
      in_slot_star j (value.Mut b) _ e q there f equal = by_lent b j e q there f (to_object b.object (ap (λ c. leads tn (Some c)) e))
      in_slot_star j value.Gone _ e q there f equal = none_leads (ap (λ c. leads tn (Some c)) e)
      in_slot_star j (value.Held b) _ e q there f equal = none_leads (ap (λ c. leads tn (Some c)) e)

    pub star : (h : Hand) (sp : Spot) → At sp l → Reading y r bound d h → Next (read_star h sp)
    star h sp spot a =
        let after = at k z.coherent.sound (paths k n t s y i z) n s z.here x (goes k n t s y i z) (able k n t s y i z) only w place (d + 1) (omega (arith, lt)) in
        let one : d + 1 ≡ suc d = omega arith in
        let e = hop_from g tn w.slot d l after.0 located (subst (λ q. locate g tn w.slot q ≡ Some after.0) one after.1) in
        let v = e.0 in
        let u = seen d h sp l v a spot e.1 in
        by sp l refl refl spot after.0 after.1 v e.1 e.2 u.0 u.1 u.2
      where
        by : (q : Spot) (b : Location) → sp ≡ q → l ≡ b → At q b → (m : Location) → locate g tn w.slot (d + 1) ≡ Some m → (v : Value) → value_in g l ≡ Some v → leads tn (Some v) ≡ Some m → (u : Value) → value_at h sp ≡ Some u → Alike u v → Next (read_star h sp)
        by _ _ p f (a_slot j) m next v e on u at_hand al = in_slot_star m v e on next h sp spot a j u v refl p (sym (ap (value_at h) p) ∙ at_hand) at_hand al
        by _ _ p f (a_cell c q o cell there has) m next v e on u at_hand al = in_object_star m v e on next u at_hand al (sym (sym (ap (λ b. value_in g b) f ∙ ap value_of has) ∙ e))
          where
            in_object_star : (m : Location) (v : Value) → value_in g l ≡ Some v → leads tn (Some v) ≡ Some m → locate g tn w.slot (d + 1) ≡ Some m → (u : Value) → value_at h sp ≡ Some u → Alike u v → Some v ≡ Some (value.Own cell.value) → Next (read_star h sp)
            in_object_star m v e on next u at_hand al is = owned_star m v e on next h sp spot a cell.value (some_is is) (at_hand ∙ ap Some (same_owned u v (some_is is) al ∙ some_is is))
              where
                same_owned : (u v : Value) → v ≡ value.Own cell.value → Alike u v → u ≡ v
                same_owned u _ e equal = refl
                same_owned _ _ e (both_shared q b words objects) = absurd cc
        by _ _ p f (a_copy c o cell there has) m next v e on u at_hand al = in_object_star m v e on next u at_hand al (sym (sym (ap (λ b. value_in g b) f ∙ ap value_of has) ∙ e))
          where
            in_object_star : (m : Location) (v : Value) → value_in g l ≡ Some v → leads tn (Some v) ≡ Some m → locate g tn w.slot (d + 1) ≡ Some m → (u : Value) → value_at h sp ≡ Some u → Alike u v → Some v ≡ Some (value.Own cell.value) → Next (read_star h sp)
            in_object_star m v e on next u at_hand al is = owned_star m v e on next h sp spot a cell.value (some_is is) (at_hand ∙ ap Some (same_owned u v (some_is is) al ∙ some_is is))
              where
                same_owned : (u v : Value) → v ≡ value.Own cell.value → Alike u v → u ≡ v
                same_owned u _ e equal = refl
                same_owned _ _ e (both_shared q b words objects) = absurd cc
