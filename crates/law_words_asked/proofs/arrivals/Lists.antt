-- What lists of things have of threads, cells and loose things where a cell comes, or a message goes that has one.
use Rattle.std.proofs.Common.{◌≡◌, ◌⊎◌, inl, inr, ⊎_elim, ℕ, zero, suc, ◌+◌, true, false, List, [], ◌∷◌, ◌++◌, Some, None, refl, sym, ap, subst, ◌∙◌, arith}
use Rattle.std.specs.Prelude.{slice_index_or, slice_get, remove}
use Rattle.law_results_events.specs.Below.fr_base.declared.name.ObjNo.{ObjNo}
use Rattle.law_results_events.specs.Below.heap_partition.declared.value.Cell.{Cell}
use Rattle.law_results_events.specs.Below.owner_box.View.{PartitionState}
use Rattle.law_results_events.specs.Below.owner_box.Partition.{made, next_place}
use Rattle.law_results_events.specs.Below.server_msgs.declared.message.Message.{Message}
use Rattle.law_results_events.specs.Below.server_msgs.declared.message.Message.TheVariants.{Moved}
use Rattle.law_results_events.specs.Below.coherent_memory.Names.{Among, one, same_object}
use Rattle.law_results_events.specs.Below.coherent_memory.Things.{Thing, lies, flies, sent, things_at, partition_things, waiting_things}
use Rattle.law_results_events.specs.Below.coherent_memory.Follow.{threads_in}
use Rattle.law_results_events.specs.Below.coherent_memory.Weights.{cells}
use Rattle.law_results_events.proofs.Below.coherent_memory.Bags.{among_split}
use Rattle.law_results_events.proofs.Below.coherent_memory.Words.{itself}
use Rattle.law_results_events.proofs.Below.law_words_paths.paths.Origins.{threads_joined, among_first, among_second}
use Rattle.law_results_events.specs.Below.law_words_paths.words.Reworded.{is_loose}
use Rattle.law_results_events.proofs.Below.law_words_paths.words.Standing.{CellOf, lying, flying}
use Rattle.law_results_events.specs.Below.law_words_kept.moves.Relaid.{NextIsVacant}
use Rattle.law_results_events.proofs.Below.law_words_kept.moves.Relaid.{Shifted, lies_at, at_lies, put_told, put_here, put_keeps, Addresses, address_one, address_join, partition_addresses, address_threads, address_fixed, is_address}

-- A CELL THAT COMES

pub record Comes (c : Cell) (a b : List Thing) : Type 0 where
  pub threads : threads_in b ≡ threads_in a
  pub server : ℕ
  pub address : ℕ
  pub there : Among (lies server address c) b
  pub on : (e : Cell) (y : Thing) → CellOf e y → Among y a → Among y b
  pub back : (e : Cell) (y : Thing) → CellOf e y → Among y b → (c ≡ e) ⊎ Among y a
  pub loose : (y : Thing) → Among y b → is_loose y ≡ true → Among y a
  pub remain : (y : Thing) → Among y a → is_loose y ≡ true → Among y b

-- beside what stays
pub comes_beside : {c : Cell} {a b : List Thing} → Comes c a b → (x : List Thing) → Comes c (a ++ x) (b ++ x)
comes_beside {c = c} {a = a} {b = b} u x = record {
  threads = threads_joined b x ∙ ap (λ l. l ++ threads_in x) u.threads ∙ sym (threads_joined a x);
  server = u.server;
  address = u.address;
  there = among_first (lies u.server u.address c) b x u.there;
  on = λ e y is h. ⊎_elim (λ (q : Among y a). among_first y b x (u.on e y is q)) (λ (q : Among y x). among_second y b x q) (among_split y a x h);
  back = λ e y is h. ⊎_elim (λ (q : Among y b). ⊎_elim (λ (z : c ≡ e). inl z) (λ (z : Among y a). inr (among_first y a x z)) (u.back e y is q)) (λ (q : Among y x). inr (among_second y a x q)) (among_split y b x h);
  loose = λ y h f. ⊎_elim (λ (q : Among y b). among_first y a x (u.loose y q f)) (λ (q : Among y x). among_second y a x q) (among_split y b x h);
  remain = λ y h f. ⊎_elim (λ (q : Among y a). among_first y b x (u.remain y q f)) (λ (q : Among y x). among_second y b x q) (among_split y a x h);
}

-- A MESSAGE THAT GOES

pub record Goes (n old t : ℕ) (c : Cell) (a b : List Thing) : Type 0 where
  pub threads : threads_in b ≡ threads_in a
  pub there : Among (flies old c) a
  pub on : (y : Thing) → Among y a → (sent n (Moved old c t) ≡ y) ⊎ ((flies old c ≡ y) ⊎ Among y b)
  pub back : (y : Thing) → Among y b → Among y a

same_waiting : (n i j : ℕ) (ms : List Message) → things_at (waiting_things n) i ms ≡ things_at (waiting_things n) j ms
same_waiting n i j [] = refl
same_waiting n i j (m ∷ ms) = ap (λ l. waiting_things n i m ++ l) (same_waiting n (i + 1) (j + 1) ms)

pub message_goes : (n old t : ℕ) (c : Cell) (i j : ℕ) (ms : List Message) → slice_get ms j ≡ Some (Moved old c t) → Goes n old t c (things_at (waiting_things n) i ms) (things_at (waiting_things n) i (remove ms j))
message_goes n old t c i j [] e = absurd (cc e)
message_goes n old t c i zero (m ∷ ms) e =
    let same : m ≡ Moved old c t = cc in
    subst (λ q. Goes n old t c (waiting_things n i q ++ things_at (waiting_things n) (i + 1) ms) (things_at (waiting_things n) i ms)) (sym same)
    (subst (λ l. Goes n old t c (sent n (Moved old c t) ∷ flies old c ∷ l) (things_at (waiting_things n) i ms)) (same_waiting n i (i + 1) ms)
    (record { threads = refl; there = inr (inl refl); on = λ y h. h; back = λ y h. inr (inr h) }))
message_goes n old t c i (suc j) (m ∷ ms) e =
    let u = message_goes n old t c (i + 1) j ms e in
    let x = waiting_things n i m in
    let a = things_at (waiting_things n) (i + 1) ms in
    let b = things_at (waiting_things n) (i + 1) (remove ms j) in record {
      threads = threads_joined x b ∙ ap (λ l. threads_in x ++ l) u.threads ∙ sym (threads_joined x a);
      there = among_second (flies old c) x a u.there;
      on = λ y h. ⊎_elim (λ (q : Among y x). inr (inr (among_first y x b q)))
          (λ (q : Among y a).
          ⊎_elim (λ (v : sent n (Moved old c t) ≡ y). inl v) (λ (v : (flies old c ≡ y) ⊎ Among y b). inr (⊎_elim (λ (r : flies old c ≡ y). inl r) (λ (r : Among y b). inr (among_second y x b r)) v)) (u.on y q)) (among_split y x a h);
      back = λ y h. ⊎_elim (λ (q : Among y x). among_first y x a q) (λ (q : Among y b). among_second y x a (u.back y q)) (among_split y x b h);
    }

-- BOTH

no_cell : (e : Cell) (y : Thing) → CellOf e y → (n : ℕ) (m : Message) → sent n m ≡ y → ⊥
no_cell e _ (lying r a) n m q = absurd (cc q)
no_cell e _ (flying w) n m q = absurd (cc q)

flown : (e : Cell) (y : Thing) → CellOf e y → (w : ℕ) (c : Cell) → flies w c ≡ y → c ≡ e
flown e _ (lying r a) w c q = absurd (cc q)
flown e _ (flying v) w c q = cc

pub shifts : {n old t : ℕ} {c : Cell} {a b p q : List Thing} → Comes c a b → Goes n old t c p q → Shifted c.object (a ++ p) (b ++ q)
shifts {n = n} {old = old} {t = t} {c = c} {a = a} {b = b} {p = p} {q = q} u v = record {
  threads = threads_joined b q ∙ ap (λ l. l ++ threads_in q) u.threads ∙ ap (λ l. threads_in a ++ l) v.threads ∙ sym (threads_joined a p);
  on = on;
  back = back;
  loose = λ y h f. ⊎_elim (λ (z : Among y b). among_first y a p (u.loose y z f)) (λ (z : Among y q). among_second y a p (v.back y z)) (among_split y b q h);
  remain = λ y h f g. ⊎_elim (λ (z : Among y a). among_first y b q (u.remain y z f)) (λ (z : Among y p). stays y f g (v.on y z)) (among_split y a p h);
  lay = λ r d e h f. ⊎_elim (λ (z : Among (lies r d e) b). ⊎_elim (λ (x : c ≡ e). absurd (f (ap (λ (k : Cell). k.object) (sym x)))) (λ (x : Among (lies r d e) a). among_first (lies r d e) a p x) (u.back e (lies r d e) (lying r d) z))
      (λ (z : Among (lies r d e) q). among_second (lies r d e) a p (v.back (lies r d e) z)) (among_split (lies r d e) b q h);
}
  where
    lands : (e : Cell) → c ≡ e → (z : Thing) × CellOf e z × Among z (b ++ q)
    lands e s = (lies u.server u.address e, lying u.server u.address, among_first (lies u.server u.address e) b q (subst (λ k. Among (lies u.server u.address k) b) s u.there))

    on : (e : Cell) (y : Thing) → CellOf e y → Among y (a ++ p) → (z : Thing) × CellOf e z × Among z (b ++ q)
    on e y is h =
        ⊎_elim (λ (z : Among y a). (y, is, among_first y b q (u.on e y is z)))
        (λ (z : Among y p).
        ⊎_elim (λ (s : sent n (Moved old c t) ≡ y). absurd (no_cell e y is n (Moved old c t) s))
        (λ (s : (flies old c ≡ y) ⊎ Among y q). ⊎_elim (λ (x : flies old c ≡ y). lands e (flown e y is old c x)) (λ (x : Among y q). (y, is, among_second y b q x)) s) (v.on y z)) (among_split y a p h)

    flew : (e : Cell) → c ≡ e → (z : Thing) × CellOf e z × Among z (a ++ p)
    flew e s = (flies old e, flying old, among_second (flies old e) a p (subst (λ k. Among (flies old k) p) s v.there))

    back : (e : Cell) (y : Thing) → CellOf e y → Among y (b ++ q) → (z : Thing) × CellOf e z × Among z (a ++ p)
    back e y is h =
        ⊎_elim (λ (z : Among y b). ⊎_elim (λ (s : c ≡ e). flew e s) (λ (s : Among y a). (y, is, among_first y a p s)) (u.back e y is z)) (λ (z : Among y q). (y, is, among_second y a p (v.back y z))) (among_split y b q h)

    stays : (y : Thing) → is_loose y ≡ true → cells c.object y ≡ 0 → (sent n (Moved old c t) ≡ y) ⊎ ((flies old c ≡ y) ⊎ Among y q) → Among y (b ++ q)
    stays y f g (inl s) = let z : false ≡ true = ap is_loose s ∙ f in absurd (cc z)
    stays y f g (inr (inl s)) = let z : one (same_object c.object c.object) ≡ 0 = ap (cells c.object) s ∙ g in let m = ap one (itself c.object c.object refl) in absurd (omega (arith, z, m))
    stays y f g (inr (inr s)) = among_second y b q s

-- and what stays beside
pub shifted_beside : {o : ObjNo} {a b : List Thing} → Shifted o a b → (x : List Thing) → Shifted o (a ++ x) (b ++ x)
shifted_beside {o = o} {a = a} {b = b} u x = record {
  threads = threads_joined b x ∙ ap (λ l. l ++ threads_in x) u.threads ∙ sym (threads_joined a x);
  on = λ e y is h. ⊎_elim (λ (q : Among y a). (let z = u.on e y is q in (z.0, z.1, among_first z.0 b x z.2))) (λ (q : Among y x). (y, is, among_second y b x q)) (among_split y a x h);
  back = λ e y is h. ⊎_elim (λ (q : Among y b). (let z = u.back e y is q in (z.0, z.1, among_first z.0 a x z.2))) (λ (q : Among y x). (y, is, among_second y a x q)) (among_split y b x h);
  loose = λ y h f. ⊎_elim (λ (q : Among y b). among_first y a x (u.loose y q f)) (λ (q : Among y x). among_second y a x q) (among_split y b x h);
  remain = λ y h f g. ⊎_elim (λ (q : Among y a). among_first y b x (u.remain y q f g)) (λ (q : Among y x). among_second y b x q) (among_split y a x h);
  lay = λ r d e h f. ⊎_elim (λ (q : Among (lies r d e) b). among_first (lies r d e) a x (u.lay r d e q f)) (λ (q : Among (lies r d e) x). among_second (lies r d e) a x q) (among_split (lies r d e) b x h);
}

-- A PARTITION

module _ (n : ℕ) (p : PartitionState) (c : Cell) (room : NextIsVacant p) (x z : Thing) (x_counts : (is_address x ≡ true) × ((e : Cell) → CellOf e x → ⊥)) (z_counts : (is_address z ≡ true) × ((e : Cell) → CellOf e z → ⊥)) where
  abbrev before : List Thing
  before = x ∷ partition_things n p

  abbrev after : List Thing
  after = z ∷ partition_things n (made p c)

  before_addresses : Addresses before
  before_addresses = address_join (x ∷ []) (partition_things n p) (address_one x x_counts.0) (partition_addresses n p)

  after_addresses : Addresses after
  after_addresses = address_join (z ∷ []) (partition_things n (made p c)) (address_one z z_counts.0) (partition_addresses n (made p c))

  abbrev at : ℕ
  at = (next_place p).0

  on : (e : Cell) (y : Thing) → CellOf e y → Among y before → Among y after
  on e y is (inl q) = absurd (x_counts.1 e (subst (λ v. CellOf e v) (sym q) is))
  on e _ (flying v) (inr h) = let f : false ≡ true = partition_addresses n p (flies v e) h in absurd (cc f)
  on e _ (lying r a) (inr h) =
      let q = lies_at n p r a e h in
      inr (subst (λ k. Among (lies k a e) (partition_things n (made p c))) (sym q.0) (at_lies n (made p c) a e (put_keeps p.cells at c room.vacant a e q.1)))

  back : (e : Cell) (y : Thing) → CellOf e y → Among y after → (c ≡ e) ⊎ Among y before
  back e y is (inl q) = absurd (z_counts.1 e (subst (λ v. CellOf e v) (sym q) is))
  back e _ (flying v) (inr h) = let f : false ≡ true = partition_addresses n (made p c) (flies v e) h in absurd (cc f)
  back e _ (lying r a) (inr h) =
      let q = lies_at n (made p c) r a e h in
      ⊎_elim (λ (s : (a ≡ at) × (c ≡ e)). inl s.1) (λ (s : slice_index_or p.cells a None ≡ Some e). inr (inr (subst (λ k. Among (lies k a e) (partition_things n p)) (sym q.0) (at_lies n p a e s)))) (put_told p.cells at c a e q.1)

  pub cell_comes : Comes c before after
  cell_comes = record {
    threads = address_threads after after_addresses ∙ sym (address_threads before before_addresses);
    server = n;
    address = at;
    there = inr (at_lies n (made p c) at c (put_here p.cells at c room.within));
    on = on;
    back = back;
    loose = λ y h f. absurd (address_fixed y (after_addresses y h) f);
    remain = λ y h f. absurd (address_fixed y (before_addresses y h) f);
  }
