-- A mutable reference that ends: it is the only one that was made from the pointer at its holder, by types.
use Rattle.std.proofs.Common.{◌≡◌, inl, ⊎_elim, ◌<◌, ◌≤◌, ◌==◌, Bool, true, false, Option, Some, None, refl, sym, ap, subst, ◌∙◌, arith}
use Rattle.law_words_borrows.specs.Below.fr_base.declared.instruction.Instr.TheVariants as instr
use Rattle.law_words_borrows.specs.Below.heap_partition.declared.value.Owned.TheVariants as owned
use Rattle.law_words_borrows.specs.Below.mut_borrow.declared.mutable.MutRef.{MutRef}
use Rattle.law_words_borrows.specs.Below.thread_state.View.{is_over}
use Rattle.law_words_borrows.specs.Below.thread_state.declared.value.Value.{Value}
use Rattle.law_words_borrows.specs.Below.thread_state.declared.value.Value.TheVariants as value
use Rattle.law_words_borrows.specs.Below.server_model.Servers.{Cluster}
use Rattle.law_words_borrows.specs.Below.coherent_memory.Names.{Among, other, same_object}
use Rattle.law_words_borrows.specs.Below.coherent_memory.Things.{Location, things_of}
use Rattle.law_words_borrows.specs.Below.coherent_memory.Follow.{Standing, Ground, value_in, value_behind}
use Rattle.law_words_borrows.specs.Below.coherent_memory.Stale.{Reference, references, holder_of, is_held_at, is_among, lent_places}
use Rattle.law_words_borrows.specs.Below.coherent_memory.Sight.{Pointer, sight}
use Rattle.law_words_borrows.specs.Below.coherent_memory.Placing.{is_first, other_first}
use Rattle.law_words_borrows.specs.Below.coherent_memory.Paths.{ends}
use Rattle.law_words_borrows.specs.Below.coherent_memory.Walking.{path}
use Rattle.law_words_borrows.specs.Below.coherent_memory.Coherent.{Holds, first_at_holder}
use Rattle.law_words_borrows.specs.Below.coherent_memory.Words.{IsStale}
use Rattle.law_words_borrows.proofs.Below.coherent_memory.Words.{named, none_at}
use Rattle.law_words_borrows.specs.Below.law_words_paths.paths.HeapStore.{GoesOn, HasPaths}
use Rattle.law_words_borrows.specs.Below.law_words_paths.paths.Pointing.{Above, made_from, made_below, lends}
use Rattle.law_words_borrows.proofs.Below.law_words_paths.paths.Climbs.{and_second}
use Rattle.law_words_borrows.proofs.Below.law_words_paths.paths.Contained.{reference_there, held_there}
use Rattle.law_words_borrows.proofs.Below.law_words_paths.paths.FreshPaths.{held_at, taken_among, followed_of, none_made}
use Rattle.law_words_borrows.specs.Below.law_words_kept.ends.Ending.{IsAlone, EndsAlone}
use Rattle.law_words_borrows.proofs.Below.law_words_kept.ends.Alone.{ended_are_alone}
use Rattle.law_words_borrows.specs.Below.law_words_paths.words.Reworded.{HasPlaces}
use Rattle.law_words_borrows.proofs.Below.law_words_paths.words.Grounds.{of_borrows}
use Rattle.law_words_borrows.proofs.Below.law_words_paths.words.Standing.{told, borrow_stands}
use Rattle.law_words_borrows.specs.Below.law_words_values.references.Fewer.{IsRanked}
use Rattle.law_words_borrows.proofs.Below.law_words_values.references.Ranks.{types_rank}

-- references with a first word there lead to one object
one_object : (r q : MutRef) (v : Option Value) → is_first r v ≡ true → is_first q v ≡ true → r.object ≡ q.object
one_object r q (Some (value.Own (owned.Box b))) e f = named r.object b.object (and_second (r.first == b.word) (same_object r.object b.object) e) ∙ sym (named q.object b.object (and_second (q.first == b.word) (same_object q.object b.object) f))
one_object r q (Some (value.Mut m)) e f = named r.object m.object (and_second (r.first == m.word) (same_object r.object m.object) e) ∙ sym (named q.object m.object (and_second (q.first == m.word) (same_object q.object m.object) f))
one_object r q None e f = absurd cc
one_object r q (Some (value.Own owned.Nothing)) e f = absurd cc
one_object r q (Some (value.Own owned.Unit)) e f = absurd cc
one_object r q (Some (value.Own (owned.Int i))) e f = absurd cc
one_object r q (Some (value.Own (owned.Mutex i))) e f = absurd cc
one_object r q (Some (value.Own (owned.Task i))) e f = absurd cc
one_object r q (Some value.Gone) e f = absurd cc
one_object r q (Some (value.SharedSlot i)) e f = absurd cc
one_object r q (Some (value.MutSlot i)) e f = absurd cc
one_object r q (Some (value.Shared m)) e f = absurd cc
one_object r q (Some (value.Held m)) e f = absurd cc

-- what is tested
is_so : (b : Bool) → other b ≡ 0 → b ≡ true
is_so true e = refl
is_so false e = absurd cc

-- what is some is one reference
some_mut : {r q : MutRef} → Some (value.Mut r) ≡ Some (value.Mut q) → r ≡ q
some_mut e = cc

-- or one location
one_of : {l m : Location} → Some l ≡ Some m → l ≡ m
one_of e = cc

-- it stands there, was made from the pointer at h, and no reference was made from it
module _ (k : Cluster) (c : HasPaths k) (d : HasPlaces k) (firsts : Holds k first_at_holder) (x : Standing) (g : GoesOn k x) (r : MutRef) (at h : Location) (stood : value_in (sight k).ground at ≡ Some (value.Mut r)) (held : holder_of (sight k).ground at r.holder ≡ Some h)
    (does_end : path (sight k) x ≡ ends r) (unheld : (l : Location) (q : MutRef) → value_in (sight k).ground l ≡ Some (value.Mut q) → holder_of (sight k).ground l q.holder ≡ Some at → ⊥) where
  abbrev ground : Ground
  ground = (sight k).ground

  -- references rank above what they were made from
  ranked : IsRanked k
  ranked = types_rank k c

  -- the reference that ends is alone
  there : EndsAlone k r
  there = ended_are_alone k c x r g does_end

  -- nothing stands above it
  nothing_above : (m : Location) → Above ground at m → ⊥
  nothing_above _ (made_from {m = m} q is e) = unheld m q is e
  nothing_above _ (made_below {m = m} {h = j} q is e rest) = nothing_above j rest

  -- so it is the one that types mean
  same_place : at ≡ there.at
  same_place =
      let p : Pointer = record { at = Some at; word = r.word; object = r.object } in
      ⊎_elim (λ (e : at ≡ there.at). e) (λ (a : Above ground at there.at). absurd (nothing_above there.at a)) (there.alone.above p at (told k at (value.Mut r) p stood (inl refl)) refl refl)

  -- it is alone there
  pub alone : IsAlone k at r.object
  alone = subst (λ l. IsAlone k l r.object) (sym same_place) there.alone

  -- and isn't stale
  pub fresh : IsStale (sight k) (Some at) → ⊥
  fresh = subst (λ l. IsStale (sight k) (Some l) → ⊥) (sym same_place) there.fresh

  -- what stands above ranks lower
  above_rank : (l m : Location) → Above ground l m → ranked.rank l < ranked.rank m
  above_rank l _ (made_from {m = m} q is e) = ranked.above m l q is e
  above_rank l _ (made_below {m = m} {h = j} q is e rest) = let a = ranked.above m j q is e in let b = above_rank l j rest in omega (arith, a, b)

  -- what stands above it is no higher than its holder's pointer
  below_holder : (l m : Location) → m ≡ at → Above ground l m → ranked.rank l ≤ ranked.rank h
  below_holder l _ e (made_from {m = m} q is w) =
      let one : q ≡ r = some_mut (sym (subst (λ z. value_in ground z ≡ Some (value.Mut q)) e is) ∙ stood) in
      let same : l ≡ h = one_of (sym w ∙ ap (λ z. holder_of ground z q.holder) e ∙ ap (λ (z : MutRef). holder_of ground at z.holder) one ∙ held) in
      let z = ap ranked.rank same in
      omega (arith, z)
  below_holder l _ e (made_below {m = m} {h = j} q is w rest) =
      let one : q ≡ r = some_mut (sym (subst (λ z. value_in ground z ≡ Some (value.Mut q)) e is) ∙ stood) in
      let same : j ≡ h = one_of (sym w ∙ ap (λ z. holder_of ground z q.holder) e ∙ ap (λ (z : MutRef). holder_of ground at z.holder) one ∙ held) in
      let a = above_rank l j rest in
      let z = ap ranked.rank same in
      omega (arith, a, z)

  -- a reference knows the word at its holder
  first_there : (q : Reference) → Among q (references ground (things_of k)) → q.holder ≡ Some h → is_first q.reference (value_in ground h) ≡ true
  first_there q i e = is_so (is_first q.reference (value_in ground h)) (subst (λ o. other (is_first q.reference (value_behind ground o)) ≡ 0) e (none_at (other_first ground) q (references ground (things_of k)) firsts i))

  abbrev its_own : Reference
  its_own = record { at = at; holder = holder_of ground at r.holder; reference = r }

  -- NO OTHER WAS MADE FROM THE SAME
  pub only : (q : Reference) → Among q (references ground (things_of k)) → is_held_at h q.holder ≡ true → q.at ≡ at
  only q i e =
      let of_h : q.holder ≡ Some h = held_at h q.holder e in
      let b = of_borrows ground q (things_of k) i in
      let is : value_in ground q.at ≡ Some (value.Mut q.reference) = borrow_stands k d q.at q.reference b.among in
      let object : q.reference.object ≡ r.object = one_object q.reference r (value_in ground h) (first_there q i of_h) (first_there its_own (reference_there k at r stood) held) in
      let p : Pointer = record { at = Some q.at; word = q.reference.word; object = q.reference.object } in
      let higher = ranked.above q.at h q.reference is (sym b.holder ∙ of_h) in
      ⊎_elim (λ (z : q.at ≡ at). z) (λ (a : Above ground q.at at). let low = below_holder q.at at refl a in absurd (omega (arith, low, higher)))
      (alone.above p q.at (told k q.at (value.Mut q.reference) p is (inl refl)) object refl)

  -- NOR HAS A THREAD TAKEN FROM IT
  pub untaken : is_among h (lent_places k.code ground ground.threads) ≡ true → ⊥
  untaken e =
      let t = taken_among k c ground.threads h e in
      let z = t.0 in
      let w = t.2 in
      let goes : GoesOn k z = record { among = t.1; going = ap is_over w.taken } in
      let lt : w.stars < w.place.depth = omega (arith, w.depth) in
      none_made k c z h its_own (followed_of k c z (instr.BorrowMut w.place) w.place w.stars h goes w.at lends lt w.located) (reference_there k at r stood) (held_there k h (holder_of ground at r.holder) held)
