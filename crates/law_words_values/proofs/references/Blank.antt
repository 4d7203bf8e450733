-- A thread comes that has nothing: words see the same.
use Rattle.std.proofs.Common.{◌≡◌, inl, inr, ⊎_elim, ℕ, Bool, List, ◌∷◌, Option, Some, None, refl, sym, ap, subst, ◌∙◌}
use Rattle.std.specs.Prelude.{slice_get}
use Rattle.law_words_values.specs.Below.fr_base.declared.instruction.Instr.{Instr}
use Rattle.law_words_values.specs.Below.fr_base.declared.name.ObjNo.{ObjNo}
use Rattle.law_words_values.specs.Below.heap_partition.declared.value.Cell.{Cell}
use Rattle.law_words_values.specs.Below.thread_state.View.{ThreadState}
use Rattle.law_words_values.specs.Below.thread_state.declared.value.Value.{Value}
use Rattle.law_words_values.specs.Below.server_model.Servers.{Cluster}
use Rattle.law_words_values.specs.Below.coherent_memory.Names.{Among}
use Rattle.law_words_values.specs.Below.coherent_memory.Things.{Location, at_slot, at_temp, in_cell, Thing, lies, flies, stands, things_of}
use Rattle.law_words_values.specs.Below.coherent_memory.Follow.{Standing, threads_in, thread_at, cells_in, cell_of, slot_of, temp_of, value_of, value_in}
use Rattle.law_words_values.specs.Below.coherent_memory.Sight.{Pointer, pointers_of, pointers_in, sight}
use Rattle.law_words_values.proofs.Below.coherent_types.Branches.{found}
use Rattle.law_words_values.proofs.Below.law_words_paths.paths.Contained.{among_thread}
use Rattle.law_words_values.specs.Below.law_words_paths.words.Reworded.{HasPlaces, LiesThere}
use Rattle.law_words_values.specs.Below.law_words_paths.words.Unmoved.{pointing, owning, seen_at, Taking, taking_by, takings, Untouched}
use Rattle.law_words_values.proofs.Below.law_words_paths.words.Loose.{box_nowhere}
use Rattle.law_words_values.proofs.Below.law_words_paths.words.Standing.{CellOf, lying, flying, cell_among, cell_found, of_thing, pointers_among, stands_in}
use Rattle.law_words_values.proofs.Below.law_words_kept.stays.Alike.{ShowsAs, Seen, Within, Alike, standing_turn}
use Rattle.law_words_values.proofs.carried.Far.{thread_thing, thing_thread, taking_listed, none_some}
use Rattle.law_words_values.proofs.carried.Taken.{taker_of}
use Rattle.law_words_values.proofs.Below.law_words_kept.stays.Seen.{pair, cell_pair, loose_on, taken_on}

same_thread : (s r : ℕ) (p q : Bool) (t u : ThreadState) → stands s p t ≡ stands r q u → t ≡ u
same_thread s r p q t u e = cc

stands_no_cell : (r s a : ℕ) (p : Bool) (u : ThreadState) (c : Cell) → stands r p u ≡ lies s a c → ⊥
stands_no_cell r s a p u c e = absurd cc

stands_no_flight : (r w : ℕ) (p : Bool) (u : ThreadState) (c : Cell) → stands r p u ≡ flies w c → ⊥
stands_no_flight r w p u c e = absurd cc

-- a thread without values, which has taken nothing
pub record IsBare (code : List Instr) (u : ThreadState) : Type 0 where
  pub slots : (i : ℕ) → pointing (slice_get u.slots i) ≡ None
  pub temps : (i : ℕ) → owning (slice_get u.temps i) ≡ None
  pub untaken : taking_by u.number u.phase (slice_get code u.pc) ≡ None

module _ (a b : Cluster) (c : HasPlaces a) (d : HasPlaces b) (same : b.code ≡ a.code) (r : ℕ) (p : Bool) (u : ThreadState) (bare : IsBare a.code u) (s : Alike a.code (stands r p u ∷ things_of a) (things_of b)) where
  abbrev ta : List Standing
  ta = threads_in (things_of a)

  abbrev tb : List Standing
  tb = threads_in (things_of b)

  on : Within a.code (things_of a) (things_of b)
  on y h = s.on y (inr h)

  -- what stands in threads
  module _ (look : Option Value → Option Value) (read : Option Standing → Option Value) (shown : (x y : Standing) → ShowsAs a.code x.thread y.thread → look (read (Some y)) ≡ look (read (Some x)))
      (nothing : (x : Standing) → x.thread ≡ u → look (read (Some x)) ≡ look (read None)) where
    there_none : (t : ℕ) (y : Standing) → thread_at tb t ≡ Some y → thread_at ta t ≡ None → look (read (Some y)) ≡ look (read None)
    there_none t y f e =
        let m = among_thread tb t y f in
        let q = s.back (stands y.server y.packed y.thread) (thread_thing y (things_of b) m.0) in
        let z : Standing = record { server = q.server; packed = q.packed; thread = q.thread } in
        sym (shown y z q.shows)
        ∙ ⊎_elim (λ (x : stands r p u ≡ stands q.server q.packed q.thread). nothing z (sym (same_thread r q.server p q.packed u q.thread x)))
        (λ (x : Among (stands q.server q.packed q.thread) (things_of a)).
        let at : thread_at ta q.thread.number ≡ Some z = found z (things_of a) (c.numbers_differ q.thread.number) (thing_thread q.server q.packed q.thread (things_of a) x) in
        absurd (none_some z (sym e ∙ ap (thread_at ta) (sym m.1 ∙ sym q.shows.number) ∙ at))) q.among

    at_thread : (t : ℕ) → look (read (thread_at tb t)) ≡ look (read (thread_at ta t))
    at_thread t = by (thread_at ta t) refl
      where
        absent : (o : Option Standing) → thread_at tb t ≡ o → thread_at ta t ≡ None → look (read o) ≡ look (read None)
        absent None f e = refl
        absent (Some y) f e = there_none t y f e

        by : (o : Option Standing) → thread_at ta t ≡ o → look (read (thread_at tb t)) ≡ look (read o)
        by None e = absent (thread_at tb t) refl e
        by (Some x) e = let q = pair a.code a b d on t x e in ap (λ o. look (read o)) q.at ∙ shown x q.there q.shows

  -- in cells
  cell_was : (o : ObjNo) (y : Cell) → cell_of (cells_in (things_of b)) o ≡ Some y → cell_of (cells_in (things_of a)) o ≡ None → ⊥
  cell_was o y f e =
      let i = cell_among o y (things_of b) f in
      by i.thing i.is i.among (sym i.object)
    where
      by : (z : Thing) → CellOf y z → Among z (things_of b) → o ≡ y.object → ⊥
      by _ (lying m n) h w =
          ⊎_elim (λ (x : stands r p u ≡ lies m n y). stands_no_cell r m n p u y x)
          (λ (x : Among (lies m n y) (things_of a)). none_some y (sym e ∙ ap (cell_of (cells_in (things_of a))) w ∙ cell_found y (lies m n y) (things_of a) (c.home_of_each y.object) (lying m n) x)) (s.back (lies m n y) h)
      by _ (flying v) h w =
          ⊎_elim (λ (x : stands r p u ≡ flies v y). stands_no_flight r v p u y x)
          (λ (x : Among (flies v y) (things_of a)). none_some y (sym e ∙ ap (cell_of (cells_in (things_of a))) w ∙ cell_found y (flies v y) (things_of a) (c.home_of_each y.object) (flying v) x)) (s.back (flies v y) h)

  in_cells : (o : ObjNo) → pointing (value_of (cell_of (cells_in (things_of b)) o)) ≡ pointing (value_of (cell_of (cells_in (things_of a)) o))
  in_cells o = by (cell_of (cells_in (things_of a)) o) refl
    where
      absent : (m : Option Cell) → cell_of (cells_in (things_of b)) o ≡ m → cell_of (cells_in (things_of a)) o ≡ None → pointing (value_of m) ≡ pointing None
      absent None f e = refl
      absent (Some y) f e = absurd (cell_was o y f e)

      by : (m : Option Cell) → cell_of (cells_in (things_of a)) o ≡ m → pointing (value_of (cell_of (cells_in (things_of b)) o)) ≡ pointing (value_of m)
      by None e = absent (cell_of (cells_in (things_of b)) o) refl e
      by (Some x) e = let q = cell_pair a.code a b d on o x e in ap (λ m. pointing (value_of m)) q.1 ∙ q.2

  stands_same : (l : Location) → seen_at l (value_in (sight b).ground l) ≡ seen_at l (value_in (sight a).ground l)
  stands_same (at_slot t i) = at_thread pointing (λ o. slot_of o i) (λ x y h. h.slots i) (λ x e. ap (λ (z : ThreadState). pointing (slice_get z.slots i)) e ∙ bare.slots i) t
  stands_same (at_temp t i) = at_thread owning (λ o. temp_of o i) (λ x y h. h.temps i) (λ x e. ap (λ (z : ThreadState). owning (slice_get z.temps i)) e ∙ bare.temps i) t
  stands_same (in_cell o) = in_cells o

  -- what was taken
  took_before : (t : Taking) → Among t (takings a.code tb) → Among t (takings a.code ta)
  took_before t h =
      let q = taker_of a.code tb t h in
      let z = s.back (stands q.taker.server q.taker.packed q.taker.thread) (thread_thing q.taker (things_of b) q.among) in
      let taking : taking_by z.thread.number z.thread.phase (slice_get a.code z.thread.pc) ≡ Some t = z.shows.taking ∙ q.taking in
      ⊎_elim
      (λ (x : stands r p u ≡ stands z.server z.packed z.thread).
      absurd (none_some t (sym bare.untaken ∙ ap (λ (w : ThreadState). taking_by w.number w.phase (slice_get a.code w.pc)) (same_thread r z.server p z.packed u z.thread x) ∙ taking)))
      (λ (x : Among (stands z.server z.packed z.thread) (things_of a)). taking_listed a.code (record { server = z.server; packed = z.packed; thread = z.thread }) t ta (thing_thread z.server z.packed z.thread (things_of a) x) taking) z.among

  -- pointers at no location
  loose_by : (q : Pointer) (y : Thing) → Seen a.code (stands r p u ∷ things_of a) y → q.at ≡ None → Among q (pointers_of y) → Among q (pointers_in (things_of a))
  loose_by q (stands m f t) h e w = absurd w
  loose_by q (lies m n z) h e w = absurd (box_nowhere (in_cell z.object) z.value q w e)
  loose_by q (flies v z) h e (inl w) =
      ⊎_elim (λ (x : stands r p u ≡ flies v z). absurd (stands_no_flight r v p u z x)) (λ (x : Among (flies v z) (things_of a)). pointers_among q (flies v z) (things_of a) x (inl w)) h
  loose_by q (flies v z) h e (inr w) = absurd (box_nowhere (in_cell z.object) z.value q w e)
  loose_by q y h e w = stands_in q (things_of a) (h q e w)

  lay_there : (m n : ℕ) (e : Cell) → Among (lies m n e) (things_of b) → LiesThere a m n e.object
  lay_there m n e h =
      ⊎_elim (λ (x : stands r p u ≡ lies m n e). absurd (stands_no_cell r m n p u e x)) (λ (x : Among (lies m n e) (things_of a)). record { cell = e; among = x; object = refl }) (s.back (lies m n e) h)

  pub bare_comes : Untouched a b
  bare_comes = record {
    stands = stands_same;
    takes = λ t h. took_before t (subst (λ n. Among t (takings n tb)) same h);
    took = λ t h. subst (λ n. Among t (takings n tb)) (sym same) (taken_on a.code a b d on t h);
    loose = λ q e m. (let w = of_thing q (things_of b) m in loose_by q w.thing (s.back w.thing w.among) e w.pointer);
    remain = loose_on a.code a b d on;
    standing = λ q e m. standing_turn a.code (things_of b) (stands r p u ∷ things_of a) q s.back e m;
    lay = lay_there;
  }
