-- A dirty reference gets a word that wasn't issued, wherever its object lies then: the object has that word and isn't changed through it any more, and all else is what it was.
use Rattle.std.proofs.Common.{◌≡◌, inl, ⊎_elim, ℕ, true, false, Option, Some, None, refl, sym, ap, ap₂, subst, ◌∙◌}
use Rattle.law_copies_kept.specs.Below.fr_base.declared.name.ObjNo.{ObjNo}
use Rattle.law_copies_kept.specs.Below.heap_partition.declared.value.Cell.{Cell}
use Rattle.law_copies_kept.specs.Below.heap_partition.declared.value.Owned.{Owned}
use Rattle.law_copies_kept.specs.Below.server_model.Places.{took}
use Rattle.law_copies_kept.specs.Below.mut_borrow.declared.mutable.MutRef.{MutRef}
use Rattle.law_copies_kept.specs.Below.thread_state.declared.value.Value.TheVariants as value
use Rattle.law_copies_kept.specs.Below.server_model.Servers.{Cluster}
use Rattle.law_copies_kept.specs.Below.coherent_memory.Names.{Among}
use Rattle.law_copies_kept.specs.Below.coherent_memory.Things.{Location, in_cell, things_of}
use Rattle.law_copies_kept.specs.Below.coherent_memory.Follow.{cell_of, cells_in, value_in, value_of}
use Rattle.law_copies_kept.specs.Below.coherent_memory.Stale.{Reference, references, holder_of, is_held_at}
use Rattle.law_copies_kept.specs.Below.coherent_memory.Sight.{Pointer, taken_pointers, sight}
use Rattle.law_copies_kept.specs.Below.coherent_memory.Words.{IsStale, HasWords}
use Rattle.law_copies_kept.specs.Below.coherent_memory.Placing.{standing_in}
use Rattle.law_copies_kept.specs.Below.coherent_memory.Dirty.{DirtyAlone}
use Rattle.law_copies_kept.specs.Below.coherent_memory.Coherent.{Holds, IsSound, first_at_holder}
use Rattle.law_copies_kept.proofs.Below.law_words_paths.paths.Origins.{among_first}
use Rattle.law_copies_kept.proofs.Below.law_words_paths.paths.Contained.{reference_there}
use Rattle.law_copies_kept.proofs.Below.law_words_paths.paths.FreshPaths.{same_is}
use Rattle.law_words_borrows.specs.Below.law_words_paths.words.Reworded.{HasPlaces, Reworded}
use Rattle.law_words_borrows.specs.Below.law_words_paths.words.WordsAfter.{Rewrites, WordsAfter}
use Rattle.law_words_borrows.proofs.Below.law_words_paths.words.Standing.{CellOf, cell_among, cell_found, borrow_stands, told_standing}
use Rattle.law_words_borrows.proofs.Below.law_words_paths.words.Grounds.{of_borrows, still_stale}
use Rattle.law_words_borrows.proofs.Below.law_words_paths.words.Only.{are_only}
use Rattle.law_words_borrows.proofs.Below.law_words_paths.words.Words.{words_go_on, changed_rewords}
use Rattle.law_words_borrows.proofs.Below.law_words_kept.prepared.Along.{dirty_changed}
use Rattle.law_copies_kept.proofs.copies.Clean.{Found, Leaves, cell_thing, thing_cell}
use Rattle.law_copies_kept.proofs.references.Worded.{Worded}

-- CELLS BY THEIR VALUES

of_cell : (c : Option Cell) (v : Owned) → value_of c ≡ Some (value.Own v) → (d : Cell) × (c ≡ Some d) × (d.value ≡ v)
of_cell None v e = absurd (cc e)
of_cell (Some d) v e = (d, refl, let z : d.value ≡ v = cc in z)

-- where what stands in each cell is the same, cells are the same
pub cells_by_values : (a b : Cluster) → HasPlaces a → ((o : ObjNo) → value_in (sight b).ground (in_cell o) ≡ value_in (sight a).ground (in_cell o)) → (c : Cell) → Among c (cells_in (things_of a)) → Among c (cells_in (things_of b))
cells_by_values a b places same c m =
    let y = cell_thing (things_of a) c m in
    let was : value_in (sight a).ground (in_cell c.object) ≡ Some (value.Own c.value) = ap value_of (cell_found c y.0 (things_of a) (places.home_of_each c.object) y.2 y.1) in
    let d = of_cell (cell_of (cells_in (things_of b)) c.object) c.value (same c.object ∙ was) in
    let i = cell_among c.object d.0 (things_of b) d.1 in
    let is : d.0 ≡ c = one_cell d.0 c i.object d.2 in
    thing_cell (things_of b) c i.thing (subst (λ x. CellOf x i.thing) is i.is) i.among
  where
    one_cell : (d e : Cell) → d.object ≡ e.object → d.value ≡ e.value → d ≡ e
    one_cell d e o v = ap₂ (λ x u. let z : Cell = record { object = x; value = u } in z) o v

-- THE REFERENCE GETS ITS WORD

module _ (k x z : Cluster) (sound : IsSound k) (cx : HasPlaces x) (cz : HasPlaces z) (stay : Leaves k x) (l : Location) (r : MutRef) (w : ℕ) (there : value_in (sight x).ground l ≡ Some (value.Mut r)) (dirty : r.dirty ≡ true) (awake : IsStale (sight x) (Some l) → ⊥)
    (reworded : Reworded x z l r.object w) (now : value_in (sight z).ground l ≡ Some (value.Mut (took r w))) where
  abbrev words_k : HasWords (sight k)
  words_k = sound.words.have_words

  abbrev words_x : HasWords (sight x)
  words_x = ((stay.0).words words_k).after

  alone : DirtyAlone (sight x)
  alone = (stay.0).dirty sound.words.dirty_alone

  firsts : Holds x first_at_holder
  firsts = (stay.0).holders sound.words.first_at_holder

  rewrites : Rewrites x z l r.object w
  rewrites = record { before = cx; only = are_only.dirty x l r cx alone there dirty awake; fresh = awake; firsts = firsts; places = cz; reworded = reworded }

  after : WordsAfter (sight x) (sight z) r.object w words_x
  after = words_go_on x z l r.object w rewrites words_x

  abbrev pointer : Pointer
  pointer = record { at = Some l; word = r.word; object = r.object }

  -- the location is no cell
  no_cell : (o : ObjNo) → in_cell o ≡ l → ⊥
  no_cell o e = by (cell_of (cells_in (things_of x)) o) (ap (value_in (sight x).ground) e ∙ there)
    where
      by : (c : Option Cell) → value_of c ≡ Some (value.Mut r) → ⊥
      by None f = cc f
      by (Some c) f = cc f

  same_cells : (o : ObjNo) → value_in (sight z).ground (in_cell o) ≡ value_in (sight x).ground (in_cell o)
  same_cells o = reworded.elsewhere (in_cell o) (no_cell o)

  -- another object's reference stays
  stays : (q : Reference) → Among q (references (sight k).ground (things_of k)) → (IsStale (sight k) (Some q.at) → ⊥) → (q.reference.object ≡ r.object → ⊥) → Found z q.reference
  stays q m f away =
      let p = (stay.1).changed_on q m f in
      let at_p = p.reference.at in
      let it = p.reference.reference in
      let stands : value_in (sight x).ground at_p ≡ Some (value.Mut it) = borrow_stands x cx at_p it (of_borrows (sight x).ground p.reference (things_of x) p.among).among in
      let apart : at_p ≡ l → ⊥ = λ e.
      (let both : Some (value.Mut it) ≡ Some (value.Mut r) = sym stands ∙ ap (value_in (sight x).ground) e ∙ there in
      let same : it ≡ r = cc in
      away (ap (λ (b : MutRef). b.object) (sym p.same ∙ same))) in
      let stands_z : value_in (sight z).ground at_p ≡ Some (value.Mut it) = reworded.elsewhere at_p apart ∙ stands in
      record {
        reference = record { at = at_p; holder = holder_of (sight z).ground at_p it.holder; reference = it };
        among = reference_there z at_p it stands_z;
        same = p.same;
        fresh = λ e. p.fresh (changed_rewords x z l r.object w rewrites r there (dirty_changed r dirty) at_p e);
      }

  -- and a dirty one that isn't stale was there, and is another object's
  stood_so : (q : Reference) → Among q (references (sight z).ground (things_of z)) → (IsStale (sight z) (Some q.at) → ⊥) → q.reference.dirty ≡ true → (q.reference.object ≡ r.object → ⊥) × Found k q.reference
  stood_so q m f its_mark =
      let stands : value_in (sight z).ground q.at ≡ Some (value.Mut q.reference) = borrow_stands z cz q.at q.reference (of_borrows (sight z).ground q (things_of z) m).among in
      let apart : q.at ≡ l → ⊥ = λ e.
      (let both : Some (value.Mut q.reference) ≡ Some (value.Mut (took r w)) = sym stands ∙ ap (value_in (sight z).ground) e ∙ now in
      let same : q.reference ≡ took r w = cc in
      let no : true ≡ false = sym its_mark ∙ ap (λ (b : MutRef). b.dirty) same in
      absurd cc) in
      let before : value_in (sight x).ground q.at ≡ Some (value.Mut q.reference) = sym (reworded.elsewhere q.at apart) ∙ stands in
      let q2 : Reference = record { at = q.at; holder = holder_of (sight x).ground q.at q.reference.holder; reference = q.reference } in
      let among_2 : Among q2 (references (sight x).ground (things_of x)) = reference_there x q.at q.reference before in
      let fresh_2 : IsStale (sight x) (Some q.at) → ⊥ = λ e. f (still_stale x z l r.object w reworded cx cz q.at e) in
      let alone_2 = alone q2 among_2 its_mark fresh_2 in (
        λ same. ⊎_elim (λ (e : IsStale (sight x) (Some l)). awake e) (λ (e : is_held_at q.at (Some l) ≡ true). apart (sym (same_is l q.at e)))
            (alone_2.sole pointer (among_first pointer (standing_in (things_of x)) (taken_pointers (sight x).code (sight x).ground (sight x).ground.threads) (told_standing x l (value.Mut r) pointer there (inl refl))) (sym same)),
        (stay.1).changed_back q2 among_2 fresh_2,
      )

  pub cleaned : Worded k z r.object w words_k
  cleaned = record {
    after = after.after;
    new = after.new;
    others = λ p f. after.others p f ∙ ((stay.0).words words_k).same p;
    on = λ c m. cells_by_values x z cx same_cells c ((stay.1).on c m);
    back = λ c m. (stay.1).back c (cells_by_values z x cz (λ o. sym (same_cells o)) c m);
    changed_on = stays;
    changed_back = stood_so;
  }
