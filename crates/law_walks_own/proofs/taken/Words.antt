-- Words of pointers that stand where places lead were issued.
use Rattle.std.proofs.Common.{◌≡◌, inl, ℕ, ◌+◌, Bool, true, false, Option, Some, None, refl, sym, subst, ◌∙◌, arith}
use Rattle.std.proofs.lemmas.Bool.{eqb-true}
use Rattle.law_words_ends.specs.Below.fr_base.declared.name.ObjNo.{ObjNo}
use Rattle.law_words_ends.specs.Below.heap_partition.declared.value.Cell.{Cell}
use Rattle.law_words_ends.specs.Below.heap_partition.declared.value.Owned.{Owned}
use Rattle.law_words_ends.specs.Below.heap_partition.declared.value.Owned.TheVariants as owned
use Rattle.law_words_ends.specs.Below.thread_state.declared.value.Value.{Value}
use Rattle.law_words_ends.specs.Below.thread_state.declared.value.Value.TheVariants as value
use Rattle.law_words_ends.specs.Below.server_model.Servers.{Cluster}
use Rattle.law_words_ends.specs.Below.coherent_memory.Names.{other, Among}
use Rattle.law_words_ends.specs.Below.coherent_memory.Things.{in_slot, at_slot, Thing, holds, shares, borrows, lies, flies, things_of}
use Rattle.law_words_ends.specs.Below.coherent_memory.Follow.{cell_of, value_in}
use Rattle.law_words_ends.specs.Below.coherent_memory.Sight.{sight, issued}
use Rattle.law_words_ends.specs.Below.coherent_memory.Placing.{words}
use Rattle.law_words_ends.specs.Below.coherent_memory.Requests.{has_word}
use Rattle.law_words_ends.specs.Below.coherent_memory.Coherent.{Holds, are_issued}
use Rattle.law_words_ends.proofs.Below.coherent_memory.Words.{none_at}
use Rattle.law_words_ends.proofs.Below.law_words_paths.words.Standing.{CellOf, lying, flying, cell_among, slot_among}

pub other_none : (b : Bool) → other b ≡ 0 → b ≡ true
other_none true e = refl
other_none false e = absurd (cc e)

-- a pointer has one word
pub one_word : (a b : ℕ) (v : Option Value) → has_word a v ≡ true → has_word b v ≡ true → a ≡ b
one_word a b (Some (value.Own (owned.Box p))) e f = sym (eqb-true p.word a e) ∙ eqb-true p.word b f
one_word a b (Some (value.Shared r)) e f = sym (eqb-true r.word a e) ∙ eqb-true r.word b f
one_word a b (Some (value.Mut r)) e f = sym (eqb-true r.word a e) ∙ eqb-true r.word b f
one_word a b None e f = absurd (cc e)
one_word a b (Some value.Gone) e f = absurd (cc e)
one_word a b (Some (value.Own owned.Nothing)) e f = absurd (cc e)
one_word a b (Some (value.Own owned.Unit)) e f = absurd (cc e)
one_word a b (Some (value.Own (owned.Int n))) e f = absurd (cc e)
one_word a b (Some (value.Own (owned.Mutex n))) e f = absurd (cc e)
one_word a b (Some (value.Own (owned.Task n))) e f = absurd (cc e)
one_word a b (Some (value.SharedSlot j)) e f = absurd (cc e)
one_word a b (Some (value.MutSlot j)) e f = absurd (cc e)
one_word a b (Some (value.Held m)) e f = absurd (cc e)

module _ (k : Cluster) (all : Holds k are_issued) where
  abbrev strange : ℕ → ℕ
  strange w = other (issued (sight k) w)

  -- of each thing
  none_strange : (x : Thing) → Among x (things_of k) → words strange x ≡ 0
  none_strange x m = none_at (words strange) x (things_of k) all m

  pub in_a_slot : (t i : ℕ) (w : ℕ) (v : Value) → value_in (sight k).ground (at_slot t i) ≡ Some v → has_word w (Some v) ≡ true → issued (sight k) w ≡ true
  in_a_slot t i w (value.Own (owned.Box p)) e h =
      let z : other (issued (sight k) p.word) ≡ 0 = none_strange (holds (in_slot t i) (owned.Box p)) (slot_among k t i (value.Own (owned.Box p)) e (holds (in_slot t i) (owned.Box p)) (λ s. inl refl)) in
      subst (λ u. issued (sight k) u ≡ true) (eqb-true p.word w h) (other_none (issued (sight k) p.word) z)
  in_a_slot t i w (value.Shared r) e h =
      let z : other (issued (sight k) r.word) ≡ 0 = none_strange (shares (at_slot t i) r) (slot_among k t i (value.Shared r) e (shares (at_slot t i) r) (λ s. inl refl)) in
      subst (λ u. issued (sight k) u ≡ true) (eqb-true r.word w h) (other_none (issued (sight k) r.word) z)
  in_a_slot t i w (value.Mut r) e h =
      let z : other (issued (sight k) r.word) + other (issued (sight k) r.first) ≡ 0 = none_strange (borrows (at_slot t i) r) (slot_among k t i (value.Mut r) e (borrows (at_slot t i) r) (λ s. inl refl)) in
      subst (λ u. issued (sight k) u ≡ true) (eqb-true r.word w h) (other_none (issued (sight k) r.word) (omega (arith, z)))
  in_a_slot t i w value.Gone e h = absurd (cc h)
  in_a_slot t i w (value.Own owned.Nothing) e h = absurd (cc h)
  in_a_slot t i w (value.Own owned.Unit) e h = absurd (cc h)
  in_a_slot t i w (value.Own (owned.Int n)) e h = absurd (cc h)
  in_a_slot t i w (value.Own (owned.Mutex n)) e h = absurd (cc h)
  in_a_slot t i w (value.Own (owned.Task n)) e h = absurd (cc h)
  in_a_slot t i w (value.SharedSlot j) e h = absurd (cc h)
  in_a_slot t i w (value.MutSlot j) e h = absurd (cc h)
  in_a_slot t i w (value.Held m) e h = absurd (cc h)

  boxed : (v : Owned) (w : ℕ) → has_word w (Some (value.Own v)) ≡ true → Rattle.law_words_ends.specs.Below.coherent_memory.Placing.owned_word strange v ≡ 0 → issued (sight k) w ≡ true
  boxed (owned.Box p) w h z = subst (λ u. issued (sight k) u ≡ true) (eqb-true p.word w h) (other_none (issued (sight k) p.word) z)
  boxed owned.Nothing w h z = absurd (cc h)
  boxed owned.Unit w h z = absurd (cc h)
  boxed (owned.Int n) w h z = absurd (cc h)
  boxed (owned.Mutex n) w h z = absurd (cc h)
  boxed (owned.Task n) w h z = absurd (cc h)

  pub in_a_cell : (o : ObjNo) (w : ℕ) (d : Cell) → cell_of (sight k).ground.cells o ≡ Some d → has_word w (Some (value.Own d.value)) ≡ true → issued (sight k) w ≡ true
  in_a_cell o w d e h = let a = cell_among o d (things_of k) e in by a.thing a.is a.among
    where
      by : (y : Thing) → CellOf d y → Among y (things_of k) → issued (sight k) w ≡ true
      by _ (lying r b) m = boxed d.value w h (none_strange (lies r b d) m)
      by _ (flying u) m = boxed d.value w h (let z = none_strange (flies u d) m in omega (arith, z))
