-- Different objects have different words.
use Rattle.std.proofs.Common.{◌≡◌, ◌⊎◌, inl, inr, ⊎_elim, ℕ, zero, suc, ◌+◌, ◌==◌, ◌≤◌, ◌&&◌, ◌||◌, not, nat_le, Bool, true, false, List, [], ◌∷◌, Option, Some, None, option_map, refl, sym, ap, ap₂, subst, ◌∙◌, arith}
use Rattle.std.specs.Prelude.{slice_get}
use Rattle.std.proofs.lemmas.Bool.{eq-eqb}
use Rattle.std.proofs.lemmas.Bool.Decides.{nat_tests}
use Rattle.law_counts_things.proofs.Below.fr_store.Keys.{object_cases}
use Rattle.law_counts_things.specs.Below.fr_base.declared.name.ObjNo.{ObjNo}
use Rattle.law_counts_things.specs.Below.fr_base.declared.instruction.Operand.{Operand}
use Rattle.law_counts_things.specs.Below.fr_base.declared.instruction.Instr.{Instr}
use Rattle.law_counts_things.specs.Below.fr_base.declared.instruction.Instr.TheVariants as instr
use Rattle.law_counts_things.specs.Below.global_addr.Words.{colour_of, server_of, address_of}
use Rattle.law_counts_things.specs.Below.heap_partition.declared.value.Cell.{Cell}
use Rattle.law_counts_things.specs.Below.journal.View.{EntryView}
use Rattle.law_counts_things.specs.Below.thread_state.View.{ThreadState}
use Rattle.law_counts_things.specs.Below.thread_state.declared.value.Value.{Value}
use Rattle.law_counts_things.specs.Below.thread_state.declared.value.Value.TheVariants as value
use Rattle.law_counts_things.specs.Below.server_model.declared.event.Event.{Event}
use Rattle.law_counts_things.specs.Below.server_model.declared.event.What.TheVariants.{Step}
use Rattle.law_counts_things.specs.Below.server_model.Servers.{Server, Cluster, server_at}
use Rattle.law_counts_things.specs.Below.server_model.Work.{thread_in, then_some}
use Rattle.law_counts_things.specs.Below.server_model.Clusters.{apply}
use Rattle.law_counts_things.specs.Below.coherent_memory.Names.{Among, tot, one, other, same_object}
use Rattle.law_counts_things.specs.Below.coherent_memory.Things.{Thing, lies, flies, things_of}
use Rattle.law_counts_things.specs.Below.coherent_memory.Sight.{Pointer, pointers_in, taken_pointers, colour_up_to, word_of_object, is_issued_at, is_issued, issued, word, Sight, sight}
use Rattle.law_counts_things.specs.Below.coherent_memory.Placing.{words, is_word_of, same_words, shared_words, different_words_wrong}
use Rattle.law_counts_things.specs.Below.coherent_memory.Weights.{cells}
use Rattle.law_counts_things.specs.Below.coherent_memory.Words.{Fresh, HasWords}
use Rattle.law_counts_things.specs.Below.coherent_memory.Coherent.{Holds, IsSound, different_words}
use Rattle.law_counts_things.proofs.Below.coherent_memory.Names.{same_number}
use Rattle.law_counts_things.proofs.Below.coherent_memory.Words.{words_law, none_at, none_all, named, itself}
use Rattle.law_counts_things.proofs.Below.law_words_paths.paths.Origins.{among_first}
use Rattle.law_counts_things.specs.Below.law_counts_sums.Kinds.{step_box, instr_kind, kind_at, kind_of}
use Rattle.law_counts_things.specs.Below.law_counts_sums.Laws.{Gives, FewEvents}
use Rattle.law_counts_things.proofs.Below.law_counts_sums.Results.{both_give, weaker}
use Rattle.law_counts_things.proofs.Below.law_counts_sums.Boxes.{tot_le}
use Rattle.law_counts_things.proofs.Below.law_counts_sums.Askers.{other_none}
use Rattle.law_words_values.proofs.Below.law_words_kept.reads.Flights.{found, truly}
use Rattle.law_words_values.specs.Below.law_words_paths.words.Unmoved.{WordsStay}
use Rattle.law_words_values.specs.Below.law_words_paths.words.WordsAfter.{WordsAfter}
use Rattle.law_words_values.proofs.Below.law_words_paths.words.Standing.{CellOf, lying, flying, pointers_among}
use Rattle.law_counts_things.proofs.names.Fit.{marks, Base}
use Rattle.law_counts_things.proofs.names.Named.{Also, names}
use Rattle.law_counts_things.proofs.names.Sums.{stray, cell_object}
use Rattle.law_counts_things.proofs.names.Kept.{GoneOn, ends_as, gone_on}
use Rattle.law_counts_things.proofs.names.Sentences.{nothing, nobody, no_askers, no_going, no_copies, no_holder, no_mark}
use Rattle.law_words_values.specs.made.Boxes.{HasNewWord}
use Rattle.law_words_values.specs.made.Apart.{WordsTell, StayApart, NewApart}
use Rattle.law_words_values.proofs.made.Boxes.{boxes_keep}

-- WHAT WORDS TELL

pub words_tell : WordsTell
words_tell = record {
  same_word = λ k h. (let z = words_law.none_counted k h in omega (arith, z));
  lead_home = λ k h. (let z = words_law.none_counted k h in omega (arith, z));
}

-- LIVE OBJECTS

pub record Live (k : Cluster) (o : ObjNo) : Type 0 where
  cell : Cell
  thing : Thing
  is : CellOf cell thing
  among : Among thing (things_of k)
  object : cell.object ≡ o

live_thing : (o : ObjNo) (y : Thing) → 1 ≤ cells o y → (c : Cell) × CellOf c y × (c.object ≡ o)
live_thing o (lies r a c) l = (c, lying r a, named c.object o (truly (same_object c.object o) l))
live_thing o (flies w c) l = (c, flying w, named c.object o (truly (same_object c.object o) l))
live_thing o _ l = absurd (omega (arith, l))

live_found : (k : Cluster) (o : ObjNo) → 1 ≤ tot (cells o) (things_of k) → Live k o
live_found k o l =
    let f = found (cells o) (things_of k) l in
    let x = live_thing o f.0 f.2 in
    record { cell = x.0; thing = f.0; is = x.1; among = f.1; object = x.2 }

weighs_one : (o : ObjNo) (c : Cell) (y : Thing) → CellOf c y → c.object ≡ o → cells o y ≡ 1
weighs_one o c _ (lying r a) e = ap one (itself c.object o e)
weighs_one o c _ (flying v) e = ap one (itself c.object o e)

-- it isn't counted as none
not_none : (k : Cluster) (o : ObjNo) → Live k o → tot (cells o) (things_of k) ≡ 0 → ⊥
not_none k o x z = let w = weighs_one o x.cell x.thing x.is x.object in absurd (omega (arith, w, none_at (cells o) x.thing (things_of k) z x.among))

-- its word is told
module _ (k : Cluster) (h : HasWords (sight k)) where
  fresh_of : (o : ObjNo) → Live k o → Fresh (sight k) o
  fresh_of o x = by x.thing x.is x.among
    where
      by : (y : Thing) → CellOf x.cell y → Among y (things_of k) → Fresh (sight k) o
      by _ (lying r a) m = subst (λ q. Fresh (sight k) q) x.object (h.live r a x.cell m)
      by _ (flying v) m =
          let p : Pointer = record { at = None; word = v; object = x.cell.object } in
          record { pointer = p; among = among_first p (pointers_in (things_of k)) (taken_pointers (sight k).code (sight k).ground (sight k).ground.threads) (pointers_among p (flies v x.cell) (things_of k) m (inl refl)); object = x.object; fresh = λ s. s }

  told : (o : ObjNo) → Live k o → word (sight k) o ≡ Some (h.word o)
  told o x = words_law.first_tells k h o (fresh_of o x)

-- FROM COUNTS AND BACK

abbrev Apart : Cluster → Type 0
Apart k = (o q : ObjNo) → Live k o → Live k q → is_word_of (word (sight k) q) (word (sight k) o) ≡ true → q ≡ o

apart_one : (a b : Bool) → b ≡ true → one (not a && b) ≡ 0 → a ≡ true
apart_one true b e z = refl
apart_one false true e z = absurd (omega (arith, z))
apart_one false false e z = absurd (cc e)

shared_of : (s : Sight) (c : Cell) (y : Thing) → CellOf c y → shared_words s y ≡ tot (same_words s (word s c.object) c.object) s.things
shared_of s c _ (lying r a) = refl
shared_of s c _ (flying v) = refl

same_of : (s : Sight) (w : Option ℕ) (o : ObjNo) (c : Cell) (y : Thing) → CellOf c y → same_words s w o y ≡ one (not (same_object c.object o) && is_word_of (word s c.object) w)
same_of s w o c _ (lying r a) = refl
same_of s w o c _ (flying v) = refl

from_counts : (k : Cluster) → different_words_wrong (sight k) ≡ 0 → Apart k
from_counts k z o q x y e =
    let s = sight k in
    let first : tot (same_words s (word s (x.cell).object) (x.cell).object) s.things ≡ 0 = sym (shared_of s x.cell x.thing x.is) ∙ none_at (shared_words s) x.thing s.things z x.among in
    let second = sym (same_of s (word s (x.cell).object) (x.cell).object y.cell y.thing y.is) ∙ none_at (same_words s (word s (x.cell).object) (x.cell).object) y.thing s.things first y.among in
    let test : is_word_of (word s (y.cell).object) (word s (x.cell).object) ≡ true = ap₂ (λ a b. is_word_of (word s a) (word s b)) y.object x.object ∙ e in
    sym y.object ∙ named (y.cell).object (x.cell).object (apart_one (same_object (y.cell).object (x.cell).object) (is_word_of (word s (y.cell).object) (word s (x.cell).object)) test second) ∙ x.object

none_if : (a b : Bool) → (b ≡ true → a ≡ true) → one (not a && b) ≡ 0
none_if true b f = refl
none_if false true f = absurd (cc (f refl))
none_if false false f = refl

to_counts : (k : Cluster) → Apart k → different_words_wrong (sight k) ≡ 0
to_counts k f = none_all (shared_words s) s.things (λ x h. outer x h)
  where
    s : Sight
    s = sight k

    pair : (c e : Cell) (x y : Thing) → CellOf c x → CellOf e y → Among x s.things → Among y s.things → one (not (same_object e.object c.object) && is_word_of (word s e.object) (word s c.object)) ≡ 0
    pair c e x y i j h m =
        none_if (same_object e.object c.object) (is_word_of (word s e.object) (word s c.object))
        (λ t. itself e.object c.object (f c.object e.object (record { cell = c; thing = x; is = i; among = h; object = refl }) (record { cell = e; thing = y; is = j; among = m; object = refl }) t))

    inner : (c : Cell) (x : Thing) → CellOf c x → Among x s.things → (y : Thing) → Among y s.things → same_words s (word s c.object) c.object y ≡ 0
    inner c x i h (lies r a e) m = pair c e x (lies r a e) i (lying r a) h m
    inner c x i h (flies v e) m = pair c e x (flies v e) i (flying v) h m
    inner c x i h _ m = refl

    outer : (x : Thing) → Among x s.things → shared_words s x ≡ 0
    outer (lies r a c) h = none_all (same_words s (word s c.object) c.object) s.things (λ y m. inner c (lies r a c) (lying r a) h y m)
    outer (flies v c) h = none_all (same_words s (word s c.object) c.object) s.things (λ y m. inner c (flies v c) (flying v) h y m)
    outer _ h = refl

same_told : (a b : Option ℕ) (v w : ℕ) → a ≡ Some v → b ≡ Some w → is_word_of a b ≡ true → v ≡ w
same_told a b v w e f t = same_number v w (subst (λ x. is_word_of (Some v) x ≡ true) f (subst (λ x. is_word_of x b ≡ true) e t))

tells_same : (a b : Option ℕ) (v w : ℕ) → a ≡ Some v → b ≡ Some w → v ≡ w → is_word_of a b ≡ true
tells_same a b v w e f s = ap₂ is_word_of e f ∙ eq-eqb v w s

-- WHERE NO OBJECT COMES

stays_apart : (k z : Cluster) (before : HasWords (sight k)) → ((o : ObjNo) → Live z o → Live k o) → WordsStay (sight k) (sight z) before → Apart k → Apart z
stays_apart k z before old stay f o q x y t =
    let xo = old o x in
    let yq = old q y in
    let after : stay.after.word q ≡ stay.after.word o = same_told (word (sight z) q) (word (sight z) o) (stay.after.word q) (stay.after.word o) (told z stay.after q y) (told z stay.after o x) t in
    let was : before.word q ≡ before.word o = sym (stay.same q) ∙ after ∙ stay.same o in
    f o q xo yq (tells_same (word (sight k) q) (word (sight k) o) (before.word q) (before.word o) (told k before q yq) (told k before o xo) was)

-- objects alone
abbrev objects_alone : (ObjNo → ℕ) → Also
objects_alone f = record { holder = nothing; mark = 0; asker = nobody; object = f; going = nobody; copy = λ v c. 0; wanted = nothing }

abbrev is_it : ObjNo → ObjNo → ℕ
is_it o q = one (same_object q o)

object_is : (o : ObjNo) (x : Thing) → cell_object (is_it o) x ≡ cells o x
object_is o (lies s a c) = refl
object_is o (flies v c) = refl
object_is o x = refl

objects_are : (o : ObjNo) (b : List Thing) → tot (cell_object (is_it o)) b ≡ tot (cells o) b
objects_are o [] = refl
objects_are o (x ∷ b) = ap₂ (λ m n. m + n) (object_is o x) (objects_are o b)

box_kind : (i : Instr) (o : Operand) → i ≡ instr.Box o → instr_kind i ≡ step_box
box_kind i o e = ap instr_kind e

-- there is no mark in them
unmarked : (k : Cluster) (f : ObjNo → ℕ) (j : Base) (v : Value) → marks (names k (objects_alone f) j) v ≡ 0
unmarked k f j (value.Held m) = refl
unmarked k f j value.Gone = refl
unmarked k f j (value.Own v) = refl
unmarked k f j (value.SharedSlot i) = refl
unmarked k f j (value.MutSlot i) = refl
unmarked k f j (value.Shared r) = refl
unmarked k f j (value.Mut r) = refl

-- an event brings no object but what its box makes
module _ (k : Cluster) (e : Event) (sound : IsSound k) (few : FewEvents k) (o : ObjNo)
    (away : (s : Server) → server_at k.servers e.server ≡ Some s → (t : ℕ) (y : ThreadState) (i : Instr) (p : Operand) → e.what ≡ Step t → thread_in s.threads t ≡ Some y → slice_get k.code y.pc ≡ Some i → i ≡ instr.Box p → is_it o (record { thread = y.number; count = y.made }) ≡ 0) where
  part : (j : Base) (y : Thing) → cell_object (is_it o) y ≤ stray (names k (objects_alone (is_it o)) j) y
  part j y = omega arith

  none_comes : tot (cells o) (things_of k) ≡ 0 → Gives (λ (d : Cluster × EntryView). tot (cells o) (things_of d.0) ≡ 0) (apply k e)
  none_comes z =
      let also = objects_alone (is_it o) in
      let j = ends_as k e (server_at k.servers e.server) in
      weaker (λ (x : Cluster × EntryView). GoneOn k also j x.0) (λ (x : Cluster × EntryView). tot (cells o) (things_of x.0) ≡ 0) (apply k e)
      (gone_on k e also sound few
      (record { holders = no_holder (things_of k); marks_none = no_mark (things_of k); askers = no_askers (things_of k); objects = objects_are o (things_of k) ∙ z; lives = no_going (things_of k); copies = no_copies (things_of k); served = λ n s h i v q r t c x y. refl })
      (λ s here t y i what there at on. record {
        stands = refl;
        lives = λ q. refl;
        boxed = λ p q. (away s here t y i p what there at q, refl);
        young = λ c low high. refl;
        lends = λ p m c q. refl;
        asks = λ f p. refl;
        moves = λ b p c h h2 x v q r u. unmarked k (is_it o) b v;
      }))
      (λ x g. let none = g.none in omega (arith, none, objects_are o (things_of x.0), tot_le (cell_object (is_it o)) (stray (names k also j)) (part j) (things_of x.0)))

-- where the step isn't a box
not_box : (k : Cluster) (e : Event) → (kind_of k e ≡ Some step_box → ⊥) → (s : Server) → server_at k.servers e.server ≡ Some s → (t : ℕ) (y : ThreadState) (i : Instr) (o : Operand) → e.what ≡ Step t → thread_in s.threads t ≡ Some y → slice_get k.code y.pc ≡ Some i → i ≡ instr.Box o → ⊥
not_box k e no_box s here t y i o what there at box =
    no_box
    (ap (λ x. then_some x (kind_at k e.what)) here ∙ ap (λ x. kind_at k x s) what ∙ ap (λ x. then_some x (λ z. option_map instr_kind (slice_get k.code z.pc))) there ∙ ap (option_map instr_kind) at ∙ ap (λ x. Some x) (box_kind i o box))

live_or_none : (k : Cluster) (o : ObjNo) → Live k o ⊎ (tot (cells o) (things_of k) ≡ 0)
live_or_none k o = by (tot (cells o) (things_of k)) refl
  where
    by : (n : ℕ) → tot (cells o) (things_of k) ≡ n → Live k o ⊎ (tot (cells o) (things_of k) ≡ 0)
    by zero e = inr e
    by (suc n) e = inl (live_found k o (omega (arith, e)))

-- of each object at once
for_each : {A : Type 0} {B : A → Type 0} {X : Type 0} (P : A → X → Type 0) (o : Option X) → ((a : A) → B a → Gives (P a) o) → Gives (λ x. (a : A) → B a → P a x) o
for_each P None f = tt
for_each P (Some x) f = λ a b. f a b

pub stay_apart : StayApart
stay_apart k e before no_box sound few =
    weaker (λ (d : Cluster × EntryView). (o : ObjNo) → tot (cells o) (things_of k) ≡ 0 → tot (cells o) (things_of d.0) ≡ 0) (λ (d : Cluster × EntryView). WordsStay (sight k) (sight d.0) before → Holds d.0 different_words) (apply k e)
    (for_each {B = λ o. tot (cells o) (things_of k) ≡ 0} (λ o (d : Cluster × EntryView). tot (cells o) (things_of d.0) ≡ 0) (apply k e) (λ o z. none_comes k e sound few o (λ s here t y i p what there at box. absurd (not_box k e no_box s here t y i p what there at box)) z))
    (λ d none stay. to_counts d.0 (stays_apart k d.0 before (λ o x. ⊎_elim (λ (l : Live k o). l) (λ (z : tot (cells o) (things_of k) ≡ 0). absurd (not_none d.0 o x (none o z))) (live_or_none k o)) stay (from_counts k sound.words.different_words)))

-- WHERE ONE IS MADE

issued_among : (colours w : ℕ) (ps : List Pointer) (x : Thing) (b : List Thing) → Among x b → is_issued_at colours ps w x ≡ true → is_issued colours ps b w ≡ true
issued_among colours w ps x [] h e = absurd h
issued_among colours w ps x (y ∷ b) (inl q) e = ap (λ z. z || is_issued colours ps b w) (ap (is_issued_at colours ps w) q ∙ e)
issued_among colours w ps x (y ∷ b) (inr h) e = by (is_issued_at colours ps w y) (issued_among colours w ps x b h e)
  where
    by : (q : Bool) → is_issued colours ps b w ≡ true → q || is_issued colours ps b w ≡ true
    by true f = refl
    by false f = f

-- the word of a live object was issued
live_issued : (k : Cluster) (sound : IsSound k) (before : HasWords (sight k)) (o : ObjNo) → Live k o → issued (sight k) (before.word o) ≡ true
live_issued k sound before o x = by x.thing x.is x.among
  where
    colours : ℕ
    colours = (sight k).options.colours

    by : (y : Thing) → CellOf x.cell y → Among y (things_of k) → issued (sight k) (before.word o) ≡ true
    by _ (lying r a) m =
        let w = before.word (x.cell).object in
        let l = before.home r a x.cell m in
        let low : nat_le (colour_of w) (colour_of w) ≡ true = grind (arith, nat_tests) in
        let up : colour_up_to (word_of_object (sight k).pointers (x.cell).object) w ≡ true = ap (λ p. colour_up_to p w) (told k before (x.cell).object (record { cell = x.cell; thing = lies r a x.cell; is = lying r a; among = m; object = refl })) ∙ low in
        let spot : (server_of w == r && address_of w == a) ≡ true = ap₂ (λ p q. p && q) (eq-eqb (server_of w) r l.server) (eq-eqb (address_of w) a l.address) in
        subst (λ q. issued (sight k) (before.word q) ≡ true) x.object (issued_among colours w (sight k).pointers (lies r a x.cell) (things_of k) m (ap₂ (λ p q. p && q) spot up))
    by _ (flying v) m =
        let all : tot (words (λ w. other (issued (sight k) w))) (things_of k) ≡ 0 = sound.words.are_issued in
        let mine = none_at (words (λ w. other (issued (sight k) w))) (flies v x.cell) (things_of k) all m in
        let p : Pointer = record { at = None; word = v; object = (x.cell).object } in
        let same : v ≡ before.word (x.cell).object = ⊎_elim (λ (s : ⊥). absurd s) (λ (s : v ≡ before.word (x.cell).object). s) (before.same p (among_first p (pointers_in (things_of k)) (taken_pointers (sight k).code (sight k).ground (sight k).ground.threads) (pointers_among p (flies v x.cell) (things_of k) m (inl refl)))) in
        subst (λ w. issued (sight k) w ≡ true) (same ∙ ap before.word x.object) (other_none (issued (sight k) v) (omega (arith, mine)))

same_or_not : (o q : ObjNo) → (o ≡ q) ⊎ (o ≡ q → ⊥)
same_or_not o q = object_cases (λ b. (o ≡ q) ⊎ (o ≡ q → ⊥)) o q (λ e. inl e) (λ n. inr n)

module _ (k z : Cluster) (sound : IsSound k) (before : HasWords (sight k)) (name : ObjNo) (new : HasNewWord k z name before) (old : (o : ObjNo) → (o ≡ name → ⊥) → Live z o → Live k o) (f : Apart k) where
  clash : (o : ObjNo) → (o ≡ name → ⊥) → Live z o → before.word o ≡ new.word → ⊥
  clash o n x e = let t : true ≡ false = sym (live_issued k sound before o (old o n x)) ∙ ap (issued (sight k)) e ∙ new.new in absurd (cc t)

  new_stays_apart : Apart z
  new_stays_apart o q x y t = by (same_or_not o name) (same_or_not q name)
    where
      w : WordsAfter (sight k) (sight z) name new.word before
      w = new.keeps.words

      same : w.after.word q ≡ w.after.word o
      same = same_told (word (sight z) q) (word (sight z) o) (w.after.word q) (w.after.word o) (told z w.after q y) (told z w.after o x) t

      by : (o ≡ name) ⊎ (o ≡ name → ⊥) → (q ≡ name) ⊎ (q ≡ name → ⊥) → q ≡ o
      by (inl e) (inl d) = d ∙ sym e
      by (inl e) (inr d) = absurd (clash q d y (sym (w.others q d) ∙ same ∙ ap w.after.word e ∙ w.new))
      by (inr e) (inl d) = absurd (clash o e x (sym (w.others o e) ∙ sym same ∙ ap w.after.word d ∙ w.new))
      by (inr e) (inr d) =
          let was : before.word q ≡ before.word o = sym (w.others q d) ∙ same ∙ w.others o e in
          f o q (old o e x) (old q d y) (tells_same (word (sight k) q) (word (sight k) o) (before.word q) (before.word o) (told k before q (old q d y)) (told k before o (old o e x)) was)

one_thread : {x y : ThreadState} → Some x ≡ Some y → x ≡ y
one_thread e = cc

pub new_apart : NewApart
new_apart k number t s y o coherent few here at code =
    both_give (λ (d : Cluster × EntryView). HasNewWord k d.0 name before) (λ (d : Cluster × EntryView). (q : ObjNo) → (q ≡ name → ⊥) × (tot (cells q) (things_of k) ≡ 0) → tot (cells q) (things_of d.0) ≡ 0) (λ (d : Cluster × EntryView). Holds d.0 different_words) (apply k e)
    (boxes_keep k number t s y o before coherent few here at code)
    (for_each {B = λ q. (q ≡ name → ⊥) × (tot (cells q) (things_of k) ≡ 0)} (λ q (d : Cluster × EntryView). tot (cells q) (things_of d.0) ≡ 0) (apply k e) (λ q n. none_comes k e coherent.sound few q (λ s2 here2 t2 y2 i p what there at2 box. away q n.0 s2 here2 t2 y2 what there) n.1))
    (λ d new none. to_counts d.0 (new_stays_apart k d.0 coherent.sound before name new (λ q n x. ⊎_elim (λ (l : Live k q). l) (λ (z : tot (cells q) (things_of k) ≡ 0). absurd (not_none d.0 q x (none q (n, z)))) (live_or_none k q)) (from_counts k coherent.sound.words.different_words)))
  where
    name : ObjNo
    name = record { thread = y.number; count = y.made }

    before : HasWords (sight k)
    before = coherent.sound.words.have_words

    e : Event
    e = record { server = number; what = Step t }

    away : (q : ObjNo) → (q ≡ name → ⊥) → (s2 : Server) → server_at k.servers number ≡ Some s2 → (t2 : ℕ) (y2 : ThreadState) → Step t ≡ Step t2 → thread_in s2.threads t2 ≡ Some y2 → is_it q (record { thread = y2.number; count = y2.made }) ≡ 0
    away q n s2 here2 t2 y2 what there =
        let here_it : s ≡ s2 = (let z : Some s ≡ Some s2 = sym here ∙ here2 in cc) in
        let step : t ≡ t2 = cc in
        let mine : y ≡ y2 = one_thread (sym at ∙ ap (λ (x : Server). thread_in x.threads t) here_it ∙ ap (thread_in s2.threads) step ∙ there) in
        subst (λ (x : ThreadState). is_it q (record { thread = x.number; count = x.made }) ≡ 0) mine (object_cases (λ b. one b ≡ 0) name q (λ d. absurd (n (sym d))) (λ d. refl))
