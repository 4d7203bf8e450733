-- How a value of a slot goes to the end of the temporary values, whatever it is, and how a reference goes from there.
use Rattle.std.proofs.Common.{◌≡◌, ⊎_elim, ℕ, zero, suc, ◌+◌, Bool, true, false, if◌then◌else◌, List, [], ◌∷◌, ◌++◌, Some, None, refl, sym, ap, subst, ◌∙◌, arith}
use Rattle.std.specs.Prelude.{slice_get, slice_set, length}
use Rattle.law_words_values.specs.Below.fr_base.declared.instruction.Instr.{Instr}
use Rattle.law_words_values.specs.Below.fr_base.declared.name.ObjNo.{ObjNo}
use Rattle.law_words_values.specs.Below.thread_state.View.{ThreadState}
use Rattle.law_words_values.specs.Below.thread_state.declared.value.Value.{Value}
use Rattle.law_words_values.specs.Below.thread_state.declared.value.Value.TheVariants as value
use Rattle.law_words_values.specs.Below.server_model.Servers.{Cluster}
use Rattle.law_words_values.specs.Below.coherent_memory.Names.{Among, tot}
use Rattle.law_words_values.specs.Below.coherent_memory.Things.{Location, in_slot, in_temp, at_slot, at_temp, in_cell, Thing, uses, things_at, slot_things, temp_things, gift_things, walk_things, thread_things, things_of}
use Rattle.law_words_values.specs.Below.coherent_memory.Follow.{value_in}
use Rattle.law_words_values.specs.Below.coherent_memory.Sight.{Pointer, pointers_in, sight}
use Rattle.law_words_values.specs.Below.coherent_memory.Placing.{standing_in}
use Rattle.law_words_values.specs.Below.coherent_memory.Weights.{owners}
use Rattle.law_words_values.proofs.Below.coherent_memory.Sums.{tot-append}
use Rattle.law_words_values.specs.Below.law_words_paths.words.Reworded.{HasPlaces}
use Rattle.law_words_values.specs.Below.law_words_paths.words.Unmoved.{pointing, owning, seen_at, taking_by, takings}
use Rattle.law_words_values.proofs.Below.law_words_paths.words.Put.{Split}
use Rattle.law_words_values.proofs.Below.law_words_paths.words.Slots.{set_same, set_other}
use Rattle.law_words_values.proofs.Below.law_words_paths.words.Standing.{stands_in}
use Rattle.law_words_values.proofs.Below.law_words_paths.paths.Origins.{among_first}
use Rattle.law_words_values.proofs.Below.law_words_kept.stays.Steps.{last_points}
use Rattle.law_words_values.proofs.Below.law_words_kept.stays.Alike.{Alike, Within, standing_turn, within_both, within_first, within_second, itself, turned, chain, beside, exchanged, in_front, joined}
use Rattle.law_words_values.proofs.carried.Passing.{slot, temp, Passes, between}
use Rattle.law_words_values.proofs.carried.Places.{end_is, end_none, end_other, end_things, end_sum, value_moves, value_owns}
use Rattle.law_words_values.proofs.carried.Replaced.{tail_of, in_slots, in_temps, in_cells, takings_same, lies_back, pointer_back, standing_back, of_thread}
use Rattle.law_words_values.specs.references.Fewer.{Fewer}
use Rattle.law_words_values.specs.references.Gone.{IsLight, to_slot, to_slot_mutably, shared_to}

pub light_owns_none : (v : Value) → IsLight v → owning (Some v) ≡ None
light_owns_none _ (to_slot i) = refl
light_owns_none _ (to_slot_mutably i) = refl
light_owns_none _ (shared_to r) = refl

light_weighs_none : (o : ObjNo) (n t j : ℕ) (v : Value) → IsLight v → tot (owners o) (temp_things n t j v) ≡ 0
light_weighs_none o n t j _ (to_slot i) = refl
light_weighs_none o n t j _ (to_slot_mutably i) = refl
light_weighs_none o n t j _ (shared_to r) = let z = by r.pinned in omega (arith, z)
  where
    by : (b : Bool) → tot (owners o) (if b then uses n r.word ∷ [] else []) ≡ 0
    by true = refl
    by false = refl

-- what a slot has beside what is left
pub record Out (code : List Instr) (n t i j : ℕ) (xs : List Value) (v : Value) : Type 0 where
  pub number : ℕ
  pub alike : Alike code (things_at (slot_things n t) i xs) (slot_things n t number v ++ things_at (slot_things n t) i (slice_set xs j value.Gone))
  pub sum : (w : Thing → ℕ) → tot w (things_at (slot_things n t) i xs) ≡ tot w (slot_things n t number v) + tot w (things_at (slot_things n t) i (slice_set xs j value.Gone))

pub out : (code : List Instr) (n t i j : ℕ) (xs : List Value) (v : Value) → slice_get xs j ≡ Some v → Out code n t i j xs v
out code n t i j [] v e = absurd cc
out code n t i zero (x ∷ xs) v e =
    let s : x ≡ v = cc in
    let rest = things_at (slot_things n t) (i + 1) xs in record {
      number = i;
      alike = subst (λ u. Alike code (slot_things n t i u ++ rest) (slot_things n t i v ++ rest)) (sym s) (itself (slot_things n t i v ++ rest));
      sum = λ w. (let a = tot-append w (slot_things n t i x) rest in let b = ap (λ u. tot w (slot_things n t i u)) s in omega (arith, a, b));
    }
out code n t i (suc j) (x ∷ xs) v e =
    let q = out code n t (i + 1) j xs v e in
    let rest = things_at (slot_things n t) (i + 1) xs in
    let left = things_at (slot_things n t) (i + 1) (slice_set xs j value.Gone) in record {
      number = q.number;
      alike = chain (beside (itself (slot_things n t i x)) q.alike) (in_front (slot_things n t i x) (slot_things n t q.number v) left);
      sum = λ w. (let a = tot-append w (slot_things n t i x) rest in let b = tot-append w (slot_things n t i x) left in let c = q.sum w in omega (arith, a, b, c));
    }

-- WHAT IS LOST

-- a thread without a pointer at no location
pub record Loses (code : List Instr) (n : ℕ) (x y : ThreadState) : Type 0 where
  pub number : y.number ≡ x.number
  pub untaken : taking_by x.number x.phase (slice_get code x.pc) ≡ None
  pub untaken_after : taking_by y.number y.phase (slice_get code y.pc) ≡ None
  pub slots : (i : ℕ) → pointing (slice_get y.slots i) ≡ pointing (slice_get x.slots i)
  pub temps : (i : ℕ) → owning (slice_get y.temps i) ≡ owning (slice_get x.temps i)
  pub fewer : Within code (tail_of n y) (tail_of n x)
  pub owns : (o : ObjNo) → tot (owners o) (tail_of n y) ≡ tot (owners o) (tail_of n x)

module _ (a b : Cluster) (n : ℕ) (x y : ThreadState) (p : Loses a.code n x y) (s : Split (things_of a) (things_of b) (thread_things n false x) (thread_things n false y)) (code : b.code ≡ a.code) (c : HasPlaces a) (d : HasPlaces b) where
  same_there : (l : Location) → seen_at l (value_in (sight b).ground l) ≡ seen_at l (value_in (sight a).ground l)
  same_there (at_slot m i) =
      ⊎_elim (λ (e : value_in (sight b).ground (at_slot m i) ≡ value_in (sight a).ground (at_slot m i)). ap pointing e)
      (λ (e : (x.number ≡ m) × (value_in (sight a).ground (at_slot m i) ≡ slice_get x.slots i) × (value_in (sight b).ground (at_slot m i) ≡ slice_get y.slots i)). ap pointing e.2 ∙ p.slots i ∙ sym (ap pointing e.1)) (in_slots a b n x y p.number s c d m i)
  same_there (at_temp m i) =
      ⊎_elim (λ (e : value_in (sight b).ground (at_temp m i) ≡ value_in (sight a).ground (at_temp m i)). ap owning e)
      (λ (e : (x.number ≡ m) × (value_in (sight a).ground (at_temp m i) ≡ slice_get x.temps i) × (value_in (sight b).ground (at_temp m i) ≡ slice_get y.temps i)). ap owning e.2 ∙ p.temps i ∙ sym (ap owning e.1)) (in_temps a b n x y p.number s c d m i)
  same_there (in_cell o) = ap pointing (in_cells a b n x y p.number s c d o)

  same_takings : takings b.code (sight b).ground.threads ≡ takings a.code (sight a).ground.threads
  same_takings = ap (λ q. takings q (sight b).ground.threads) code ∙ takings_same a b n x y p.number s c d a.code p.untaken p.untaken_after

  of_tail : (q : Pointer) → q.at ≡ None → Among q (standing_in (tail_of n y)) → Among q (standing_in (things_of a))
  of_tail q e m = of_thread a b n x y p.number s c d q (standing_turn a.code (tail_of n y) (tail_of n x) q p.fewer e m)

  pub is_fewer : Fewer a b
  is_fewer = record {
    stands = same_there;
    takes = λ t h. subst (λ ts. Among t ts) same_takings h;
    took = λ t h. subst (λ ts. Among t ts) (sym same_takings) h;
    loose = λ q e m. ⊎_elim (λ (w : Among q (pointers_in (things_of a))). w) (λ (w : Among q (standing_in (tail_of n y))). stands_in q (things_of a) (of_tail q e w)) (pointer_back a b n x y p.number s c d q m);
    standing = λ q e m. ⊎_elim (λ (w : Among q (standing_in (things_of a))). w) (λ (w : Among q (standing_in (tail_of n y))). of_tail q e w) (standing_back a b n x y p.number s c d q m);
    lay = λ r v z h. record { cell = z; among = lies_back a b n x y p.number s c d r v z h; object = refl };
  }

module _ (code : List Instr) (n : ℕ) (x : ThreadState) (none : taking_by x.number x.phase (slice_get code x.pc) ≡ None) where
  abbrev G : List Thing
  G = gift_things x.number x.gift

  abbrev W : List Thing
  W = things_at (walk_things n) 0 x.walk

  abbrev slots_with : List Value → List Thing
  slots_with vs = things_at (slot_things n x.number) 0 vs

  abbrev temps_with : List Value → List Thing
  temps_with vs = things_at (temp_things n x.number) 0 vs

  abbrev S : List Thing
  S = slots_with x.slots

  abbrev T : List Thing
  T = temps_with x.temps

  sum_of : (w : Thing → ℕ) (a b c d : List Thing) → tot w (a ++ b ++ c ++ d) ≡ tot w a + tot w b + tot w c + tot w d
  sum_of w a b c d = let p = tot-append w (a ++ b ++ c) d in let q = tot-append w (a ++ b) c in let r = tot-append w a b in omega (arith, p, q, r)

  -- slots with the value beside them, and temporary values to which it goes
  over : (v : Value) (i : ℕ) (ss : List Value) → Alike code S (slot_things n x.number i v ++ slots_with ss) → Alike code (G ++ W ++ S ++ T) (G ++ W ++ slots_with ss ++ temps_with (x.temps ++ v ∷ []))
  over v i ss q =
      let b = slot_things n x.number i v in
      let p = end_things {code = code} (temp_things n x.number) 0 x.temps v in
      let there : Alike code (T ++ b) (temps_with (x.temps ++ v ∷ [])) = turned (chain p.1 (beside (itself T) (value_moves n x.number x.number p.0 i v))) in
      chain (beside (beside (itself (G ++ W)) (chain q (exchanged b (slots_with ss)))) (itself T))
      (chain (beside (joined (G ++ W) (slots_with ss) b) (itself T)) (chain (turned (joined (G ++ W ++ slots_with ss) b T)) (beside (itself (G ++ W ++ slots_with ss)) (chain (exchanged b T) there))))

  over_sum : (v : Value) (i : ℕ) (ss : List Value) (o : ObjNo) → tot (owners o) S ≡ tot (owners o) (slot_things n x.number i v) + tot (owners o) (slots_with ss) → tot (owners o) (G ++ W ++ slots_with ss ++ temps_with (x.temps ++ v ∷ [])) ≡ tot (owners o) (G ++ W ++ S ++ T)
  over_sum v i ss o s =
      let w = owners o in
      let p = end_sum w (temp_things n x.number) 0 x.temps v in
      let r = value_owns o n (in_temp x.number p.0) (in_slot x.number i) (at_temp x.number p.0) (at_slot x.number i) v in
      let a = sum_of w G W (slots_with ss) (temps_with (x.temps ++ v ∷ [])) in
      let b = sum_of w G W S T in
      omega (arith, p.1, r, s, a, b)

  -- A VARIABLE'S VALUE BECOMES A TEMPORARY ONE

  pub slot_moves : (i : ℕ) (v : Value) → slice_get x.slots i ≡ Some v → Passes code n x (record x { slots = slice_set x.slots i value.Gone; temps = x.temps ++ v ∷ [] }) (slot i) (temp (length x.temps))
  slot_moves i v e =
      let q = out code n x.number 0 i x.slots v e in record {
        number = refl;
        untaken = none;
        untaken_after = none;
        slots = λ j h k. ap pointing (set_other x.slots i j value.Gone (λ q. h (ap slot q)));
        temps = λ j h k. ap owning (end_other x.temps v j (λ q. k (ap temp q)));
        left = ap owning (set_same x.slots i v value.Gone e);
        free = ap owning (end_none x.temps);
        beside = between (λ q. absurd cc) (λ q. absurd cc) (ap owning (end_is x.temps v) ∙ sym (ap owning e)) (over v q.number (slice_set x.slots i value.Gone) q.alike);
        owns = λ o. over_sum v q.number (slice_set x.slots i value.Gone) o (q.sum (owners o));
      }

  -- so does that of the newest slot, which goes

  pub newest_moves : (ss : List Value) (v : Value) → x.slots ≡ ss ++ v ∷ [] → Passes code n x (record x { slots = ss; temps = x.temps ++ v ∷ [] }) (slot (length ss)) (temp (length x.temps))
  newest_moves ss v e =
      let q = end_things {code = code} (slot_things n x.number) 0 ss v in
      let there : Alike code S (slot_things n x.number q.0 v ++ slots_with ss) = chain (subst (λ vs. Alike code (slots_with vs) (slots_with ss ++ slot_things n x.number q.0 v)) (sym e) q.1) (exchanged (slots_with ss) (slot_things n x.number q.0 v)) in record {
        number = refl;
        untaken = none;
        untaken_after = none;
        slots = λ i h k. ap pointing (sym (end_other ss v i (λ q. h (ap slot q))) ∙ sym (ap (λ vs. slice_get vs i) e));
        temps = λ j h k. ap owning (end_other x.temps v j (λ q. k (ap temp q)));
        left = ap owning (end_none ss);
        free = ap owning (end_none x.temps);
        beside = between (λ q. absurd cc) (λ q. absurd cc) (ap owning (end_is x.temps v) ∙ sym (ap owning (ap (λ vs. slice_get vs (length ss)) e ∙ end_is ss v))) (over v q.0 ss there);
        owns = λ o. (let p = end_sum (owners o) (slot_things n x.number) 0 ss v in let t = ap (λ vs. tot (owners o) (slots_with vs)) e in over_sum v p.0 ss o (omega (arith, p.1, t)));
      }

  -- A REFERENCE ON TOP IS LOST

  pub top_lost : (ts : List Value) (v : Value) → x.temps ≡ ts ++ v ∷ [] → IsLight v → Loses code n x (record x { temps = ts })
  top_lost ts v e light =
      let q = end_things {code = code} (temp_things n x.number) 0 ts v in
      let front : List Thing = G ++ W ++ S in
      let there : Within code (temps_with ts) T = subst (λ vs. Within code (temps_with ts) (temps_with vs)) (sym e) (lists_first q.0 q.1) in record {
        number = refl;
        untaken = none;
        untaken_after = none;
        slots = λ i. refl;
        temps = λ i. sym (same_temps i) ∙ sym (ap (λ vs. owning (slice_get vs i)) e);
        fewer = within_both code front (temps_with ts) (front ++ T) (within_first code front front T (itself front).on) (within_second code (temps_with ts) front T there);
        owns = λ o. sums o;
      }
    where
      lists_first : (j : ℕ) → Alike code (temps_with (ts ++ v ∷ [])) (temps_with ts ++ temp_things n x.number j v) → Within code (temps_with ts) (temps_with (ts ++ v ∷ []))
      lists_first j al y h = al.back y (among_first y (temps_with ts) (temp_things n x.number j v) h)

      same_temps : (i : ℕ) → owning (slice_get (ts ++ v ∷ []) i) ≡ owning (slice_get ts i)
      same_temps i = last_points ts v (light_owns_none v light) i

      sums : (o : ObjNo) → tot (owners o) (G ++ W ++ S ++ temps_with ts) ≡ tot (owners o) (G ++ W ++ S ++ T)
      sums o =
          let w = owners o in
          let p = end_sum w (temp_things n x.number) 0 ts v in
          let z = light_weighs_none o n x.number p.0 v light in
          let t = ap (λ vs. tot w (temps_with vs)) e in
          let a = sum_of w G W S (temps_with ts) in
          let b = sum_of w G W S T in
          omega (arith, p.1, z, t, a, b)
