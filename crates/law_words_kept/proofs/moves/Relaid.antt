-- An object lies at another address: the clusters are the same but for that.
use Rattle.std.proofs.Common.{◌≡◌, ◌⊎◌, inl, inr, ⊎_elim, ℕ, zero, suc, ◌+◌, ◌<◌, ◌≤◌, ◌&&◌, Bool, true, false, if◌then◌else◌, List, [], ◌∷◌, ◌++◌, length, map, Option, Some, None, refl, sym, ap, subst, ◌∙◌, arith}
use Rattle.std.specs.Prelude.{slice_index_or, slice_set}
use Rattle.law_words_paths.proofs.Below.fr_typing.PlaceLemmas.{eq_cases}
use Rattle.law_words_paths.specs.Below.journal.declared.act.Act.TheVariants as act
use Rattle.law_words_paths.specs.Below.fr_base.declared.name.ObjNo.{ObjNo}
use Rattle.law_words_paths.specs.Below.global_addr.Words.{address_of}
use Rattle.law_words_paths.specs.Below.heap_partition.declared.value.BoxPtr.{BoxPtr}
use Rattle.law_words_paths.specs.Below.heap_partition.declared.value.Cell.{Cell}
use Rattle.law_words_paths.specs.Below.owner_box.View.{PartitionState}
use Rattle.law_words_paths.specs.Below.owner_box.Partition.{cell_of as cell_under, freed, made, made_again, renewed, put_cell, next_place, new_word}
use Rattle.law_words_paths.specs.Below.thread_state.View.{ThreadState}
use Rattle.law_words_paths.specs.Below.server_model.Servers.{Rest, Server, Cluster}
use Rattle.law_words_paths.specs.Below.server_model.Work.{Hand, leads_here, note, with_partition, set_thread}
use Rattle.law_words_paths.specs.Below.server_model.Clusters.{with_server}
use Rattle.law_words_paths.specs.Below.server_model.NewWords.{NewWord, issue_renewal, is_last, can_grow}
use Rattle.law_words_paths.specs.Below.coherent_memory.Names.{Among}
use Rattle.law_words_paths.specs.Below.coherent_memory.Things.{Location, at_slot, at_temp, in_cell, Thing, lies, flies, vacant, retired, stands, counts, things_at, is_free, cell_things, free_things, partition_things, copy_things, mutex_things, task_things, standing_things, waiting_things, leaving_things, server_things, servers_things, things_of}
use Rattle.law_words_paths.specs.Below.coherent_memory.Follow.{threads_in, cells_in, cell_of, slot_of, temp_of, value_of, value_in, thread_at}
use Rattle.law_words_paths.specs.Below.coherent_memory.Sight.{sight}
use Rattle.law_words_paths.specs.Below.coherent_memory.Weights.{cells}
use Rattle.law_words_paths.proofs.Below.coherent_memory.Bags.{among_split}
use Rattle.law_words_paths.proofs.paths.Sole.{some_is}
use Rattle.law_words_paths.proofs.paths.Origins.{threads_joined, among_first, among_second}
use Rattle.law_words_paths.specs.words.Reworded.{is_loose, turn_of, HasPlaces, LiesThere}
use Rattle.law_words_paths.specs.words.PutBack.{put_in, StandsHere}
use Rattle.law_words_kept.specs.moves.Relaid.{Relaid, RelaidRewords, NextIsVacant, Renewal, RenewalsReword}
use Rattle.law_words_paths.proofs.words.Standing.{CellOf, lying, flying, cell_among, cell_found}
use Rattle.law_words_paths.proofs.words.Put.{Split, split_whole, split_right, servers_split}
use Rattle.law_words_paths.proofs.words.Tints.{slots_reword}
use Rattle.law_words_paths.proofs.words.Cells.{looked, cells_reword}

-- WITH A WORD

pub relaid_rewords : RelaidRewords
relaid_rewords k y z h o w p r = record {
  code = r.code ∙ p.code;
  old = r.old;
  new = r.new;
  stood = sym (p.stands h) ∙ r.stood;
  renewed = r.renewed;
  stands = r.stands;
  changed = r.changed;
  elsewhere = λ l n. r.elsewhere l n ∙ p.stands l;
  turns = r.turns ∙ p.turns;
  loose = λ x m e. p.loose x (r.loose x m e) e;
  remain = λ x m e f. r.remain x (p.remain x m e f) e f;
  server = r.server;
  address = r.address;
  lying = r.lying;
  leads = r.leads;
  lay = λ m a c q n. (let x = r.lay m a c q n in let u = p.lay m a x.cell x.among (λ f. n (sym x.object ∙ f)) in record { cell = u.cell; among = u.among; object = u.object ∙ x.object });
}

-- BETWEEN WHAT STAYS

-- what two lists have of threads, cells and loose things, but for one object's address
pub record Shifted (o : ObjNo) (c d : List Thing) : Type 0 where
  pub threads : threads_in d ≡ threads_in c
  pub on : (e : Cell) (y : Thing) → CellOf e y → Among y c → (z : Thing) × CellOf e z × Among z d
  pub back : (e : Cell) (y : Thing) → CellOf e y → Among y d → (z : Thing) × CellOf e z × Among z c
  pub loose : (y : Thing) → Among y d → is_loose y ≡ true → Among y c
  pub remain : (y : Thing) → Among y c → is_loose y ≡ true → cells o y ≡ 0 → Among y d
  pub lay : (r a : ℕ) (e : Cell) → Among (lies r a e) d → (e.object ≡ o → ⊥) → Among (lies r a e) c

around : (y : Thing) (l m k r : List Thing) → (Among y m → Among y k) → Among y (l ++ m ++ r) → Among y (l ++ k ++ r)
around y l m k r go h =
    ⊎_elim (λ (q : Among y (l ++ m)). among_first y (l ++ k) r (⊎_elim (λ (z : Among y l). among_first y l k z) (λ (z : Among y m). among_second y l k (go z)) (among_split y l m q))) (λ (q : Among y r). among_second y (l ++ k) r q)
    (among_split y (l ++ m) r h)

-- where a thing among three lists is
pub data Where (y : Thing) (l m r : List Thing) : Type 0 where
  within : Among y m → Where y l m r
  beside : ((k : List Thing) → Among y (l ++ k ++ r)) → Where y l m r

where_is : (y : Thing) (l m r : List Thing) → Among y (l ++ m ++ r) → Where y l m r
where_is y l m r h =
    ⊎_elim (λ (q : Among y (l ++ m)). ⊎_elim (λ (z : Among y l). beside (λ k. among_first y (l ++ k) r (among_first y l k z))) (λ (z : Among y m). within z) (among_split y l m q)) (λ (q : Among y r). beside (λ k. among_second y (l ++ k) r q))
    (among_split y (l ++ m) r h)

module _ (a b : Cluster) (o : ObjNo) (c d : List Thing) (s : Split (things_of a) (things_of b) c d) (code : b.code ≡ a.code) (i : HasPlaces a) (j : HasPlaces b) (u : Shifted o c d) where
  threads_same : threads_in (things_of b) ≡ threads_in (things_of a)
  threads_same =
      ap threads_in s.after ∙ threads_joined (s.left ++ d) s.right ∙ ap (λ q. q ++ threads_in s.right) (threads_joined s.left d ∙ ap (λ q. threads_in s.left ++ q) u.threads ∙ sym (threads_joined s.left c)) ∙ sym (threads_joined (s.left ++ c) s.right) ∙ sym (ap threads_in s.before)

  cell_on : (e : Cell) (y : Thing) → CellOf e y → Among y (things_of a) → (z : Thing) × CellOf e z × Among z (things_of b)
  cell_on e y is m = by (where_is y s.left c s.right (subst (λ q. Among y q) s.before m))
    where
      by : Where y s.left c s.right → (z : Thing) × CellOf e z × Among z (things_of b)
      by (within q) = let x = u.on e y is q in (x.0, x.1, subst (λ k. Among x.0 k) (sym s.after) (among_first x.0 (s.left ++ d) s.right (among_second x.0 s.left d x.2)))
      by (beside q) = (y, is, subst (λ k. Among y k) (sym s.after) (q d))

  cell_back : (e : Cell) (y : Thing) → CellOf e y → Among y (things_of b) → (z : Thing) × CellOf e z × Among z (things_of a)
  cell_back e y is m = by (where_is y s.left d s.right (subst (λ q. Among y q) s.after m))
    where
      by : Where y s.left d s.right → (z : Thing) × CellOf e z × Among z (things_of a)
      by (within q) = let x = u.back e y is q in (x.0, x.1, subst (λ k. Among x.0 k) (sym s.before) (among_first x.0 (s.left ++ c) s.right (among_second x.0 s.left c x.2)))
      by (beside q) = (y, is, subst (λ k. Among y k) (sym s.before) (q c))

  none_some : {A : Type 0} (x : A) → None ≡ Some x → ⊥
  none_some x e = absurd cc

  cell_same : (p : ObjNo) → cell_of (cells_in (things_of b)) p ≡ cell_of (cells_in (things_of a)) p
  cell_same p = by (cell_of (cells_in (things_of a)) p) refl
    where
      there : (e : Cell) → cell_of (cells_in (things_of a)) p ≡ Some e → cell_of (cells_in (things_of b)) p ≡ Some e
      there e q =
          let x = cell_among p e (things_of a) q in
          let y = cell_on e x.thing x.is x.among in
          sym (ap (cell_of (cells_in (things_of b))) x.object) ∙ cell_found e y.0 (things_of b) (j.home_of_each e.object) y.1 y.2

      back : (e : Cell) → cell_of (cells_in (things_of b)) p ≡ Some e → cell_of (cells_in (things_of a)) p ≡ Some e
      back e q =
          let x = cell_among p e (things_of b) q in
          let y = cell_back e x.thing x.is x.among in
          sym (ap (cell_of (cells_in (things_of a))) x.object) ∙ cell_found e y.0 (things_of a) (i.home_of_each e.object) y.1 y.2

      absent : (m : Option Cell) → cell_of (cells_in (things_of b)) p ≡ m → cell_of (cells_in (things_of a)) p ≡ None → m ≡ None
      absent None f e = refl
      absent (Some x) f e = absurd (none_some x (sym e ∙ back x f))

      by : (m : Option Cell) → cell_of (cells_in (things_of a)) p ≡ m → cell_of (cells_in (things_of b)) p ≡ m
      by None e = absent (cell_of (cells_in (things_of b)) p) refl e
      by (Some x) e = there x e

  stood : (l : Location) → value_in (sight b).ground l ≡ value_in (sight a).ground l
  stood (at_slot t k) = ap (λ ts. slot_of (thread_at ts t) k) threads_same
  stood (at_temp t k) = ap (λ ts. temp_of (thread_at ts t) k) threads_same
  stood (in_cell p) = ap value_of (cell_same p)

  loose_back : (y : Thing) → Among y (things_of b) → is_loose y ≡ true → Among y (things_of a)
  loose_back y m e = subst (λ q. Among y q) (sym s.before) (around y s.left d c s.right (λ q. u.loose y q e) (subst (λ q. Among y q) s.after m))

  remain_on : (y : Thing) → Among y (things_of a) → is_loose y ≡ true → cells o y ≡ 0 → Among y (things_of b)
  remain_on y m e f = subst (λ q. Among y q) (sym s.after) (around y s.left c d s.right (λ q. u.remain y q e f) (subst (λ q. Among y q) s.before m))

  lay_back : (r g : ℕ) (e : Cell) → Among (lies r g e) (things_of b) → (e.object ≡ o → ⊥) → LiesThere a r g e.object
  lay_back r g e m n = record { cell = e; among = subst (λ q. Among (lies r g e) q) (sym s.before) (around (lies r g e) s.left d c s.right (λ q. u.lay r g e q n) (subst (λ q. Among (lies r g e) q) s.after m)); object = refl }

  pub relaid_by : Relaid a b o
  relaid_by = record { code = code; stands = stood; turns = ap (map turn_of) threads_same; loose = loose_back; remain = remain_on; lay = lay_back }

-- WHAT LIES IN A PARTITION

same_lies : (s r m k : ℕ) (c d : Cell) → lies s r c ≡ lies m k d → (s ≡ m) × (r ≡ k) × (c ≡ d)
same_lies s r m k c d e = (cc, cc, cc)

lies_told : (s : ℕ) (free : List (ℕ × ℕ)) (i : ℕ) (xs : List (Option Cell)) (m a : ℕ) (c : Cell) → Among (lies m a c) (things_at (cell_things s free) i xs) → (k : ℕ) × (m ≡ s) × (a ≡ i + k) × (slice_index_or xs k None ≡ Some c)
lies_told s free i [] m a c h = absurd h
lies_told s free i (Some d ∷ xs) m a c (inl e) = let q = same_lies s i m a d c e in (0, sym q.0, omega (arith, q.1), ap (λ y. Some y) q.2)
lies_told s free i (Some d ∷ xs) m a c (inr h) = let q = lies_told s free (i + 1) xs m a c h in (suc q.0, q.1, omega (arith, q.2), q.3)
lies_told s free i (None ∷ xs) m a c h = by (is_free i free) h (λ g. lies_told s free (i + 1) xs m a c g)
  where
    later : (k : ℕ) × (m ≡ s) × (a ≡ i + 1 + k) × (slice_index_or xs k None ≡ Some c) → (k : ℕ) × (m ≡ s) × (a ≡ i + k) × (slice_index_or (None ∷ xs) k None ≡ Some c)
    later q = (suc q.0, q.1, omega (arith, q.2), q.3)

    by : (b : Bool) → Among (lies m a c) ((if b then [] else retired s i ∷ []) ++ things_at (cell_things s free) (i + 1) xs)
        → (Among (lies m a c) (things_at (cell_things s free) (i + 1) xs) → (k : ℕ) × (m ≡ s) × (a ≡ i + 1 + k) × (slice_index_or xs k None ≡ Some c)) → (k : ℕ) × (m ≡ s) × (a ≡ i + k) × (slice_index_or (None ∷ xs) k None ≡ Some c)
    by true g go = later (go g)
    by false (inl e) go = absurd cc
    by false (inr g) go = later (go g)

lies_listed : (s : ℕ) (free : List (ℕ × ℕ)) (i k : ℕ) (xs : List (Option Cell)) (c : Cell) → slice_index_or xs k None ≡ Some c → Among (lies s (i + k) c) (things_at (cell_things s free) i xs)
lies_listed s free i k [] c e = absurd cc
lies_listed s free i zero (x ∷ xs) c e =
    let number : i ≡ i + 0 = omega arith in
    among_first (lies s (i + 0) c) (cell_things s free i x) (things_at (cell_things s free) (i + 1) xs) (subst (λ y. Among (lies s (i + 0) c) (cell_things s free i y)) (sym e) (inl (ap (λ m. lies s m c) number)))
lies_listed s free i (suc k) (x ∷ xs) c e =
    let number : i + 1 + k ≡ i + suc k = omega arith in
    among_second (lies s (i + suc k) c) (cell_things s free i x) (things_at (cell_things s free) (i + 1) xs) (subst (λ m. Among (lies s m c) (things_at (cell_things s free) (i + 1) xs)) number (lies_listed s free (i + 1) k xs c e))

no_lies_free : (s i : ℕ) (fs : List (ℕ × ℕ)) (m a : ℕ) (c : Cell) → Among (lies m a c) (things_at (free_things s) i fs) → ⊥
no_lies_free s i [] m a c h = h
no_lies_free s i (f ∷ fs) m a c (inl e) = absurd cc
no_lies_free s i (f ∷ fs) m a c (inr h) = no_lies_free s (i + 1) fs m a c h

-- a cell lies where the partition has it
pub lies_at : (s : ℕ) (p : PartitionState) (m a : ℕ) (c : Cell) → Among (lies m a c) (partition_things s p) → (m ≡ s) × (slice_index_or p.cells a None ≡ Some c)
lies_at s p m a c h =
    ⊎_elim
    (λ (l : Among (lies m a c) (things_at (cell_things s p.free) 0 p.cells)).
    let q = lies_told s p.free 0 p.cells m a c l in
    let number : q.0 ≡ a = omega (arith, q.2) in
    (q.1, ap (λ k. slice_index_or p.cells k None) (sym number) ∙ q.3))
    (λ (r : Among (lies m a c) (things_at (free_things s) 0 p.free)). absurd (no_lies_free s 0 p.free m a c r)) (among_split (lies m a c) (things_at (cell_things s p.free) 0 p.cells) (things_at (free_things s) 0 p.free) h)

pub at_lies : (s : ℕ) (p : PartitionState) (a : ℕ) (c : Cell) → slice_index_or p.cells a None ≡ Some c → Among (lies s a c) (partition_things s p)
at_lies s p a c e =
    let number : 0 + a ≡ a = omega arith in
    among_first (lies s a c) (things_at (cell_things s p.free) 0 p.cells) (things_at (free_things s) 0 p.free) (subst (λ m. Among (lies s m c) (things_at (cell_things s p.free) 0 p.cells)) number (lies_listed s p.free 0 a p.cells c e))

-- all things of a partition are addresses
abbrev pub is_address : Thing → Bool
is_address (lies s a c) = true
is_address (vacant s a n) = true
is_address (retired s a) = true
is_address (counts s a r t m e) = true
is_address x = false

abbrev pub Addresses : List Thing → Type 0
Addresses b = (y : Thing) → Among y b → is_address y ≡ true

pub address_one : (x : Thing) → is_address x ≡ true → Addresses (x ∷ [])
address_one x e y (inl q) = subst (λ z. is_address z ≡ true) q e
address_one x e y (inr h) = absurd h

pub address_join : (a b : List Thing) → Addresses a → Addresses b → Addresses (a ++ b)
address_join a b p q y h = ⊎_elim (λ (l : Among y a). p y l) (λ (r : Among y b). q y r) (among_split y a b h)

address_all : {A : Type 0} (g : ℕ → A → List Thing) → ((i : ℕ) (x : A) → Addresses (g i x)) → (i : ℕ) (xs : List A) → Addresses (things_at g i xs)
address_all g p i [] = λ y h. absurd h
address_all g p i (x ∷ xs) = address_join (g i x) (things_at g (i + 1) xs) (p i x) (address_all g p (i + 1) xs)

cell_address : (s : ℕ) (fs : List (ℕ × ℕ)) (i : ℕ) (c : Option Cell) → Addresses (cell_things s fs i c)
cell_address s fs i (Some c) = address_one (lies s i c) refl
cell_address s fs i None = by (is_free i fs)
  where
    by : (b : Bool) → Addresses (if b then [] else retired s i ∷ [])
    by true = λ y h. absurd h
    by false = address_one (retired s i) refl

pub partition_addresses : (s : ℕ) (p : PartitionState) → Addresses (partition_things s p)
partition_addresses s p = address_join (things_at (cell_things s p.free) 0 p.cells) (things_at (free_things s) 0 p.free) (address_all (cell_things s p.free) (cell_address s p.free) 0 p.cells) (address_all (free_things s) (λ i f. address_one (vacant s f.0 f.1) refl) 0 p.free)

pub address_threads : (b : List Thing) → Addresses b → threads_in b ≡ []
address_threads [] f = refl
address_threads (stands s p t ∷ b) f = let q : false ≡ true = f (stands s p t) (inl refl) in absurd cc
address_threads (_ ∷ b) f = address_threads b (λ y h. f y (inr h))

pub address_fixed : (y : Thing) → is_address y ≡ true → is_loose y ≡ true → ⊥
address_fixed (lies s a c) e f = absurd cc
address_fixed (vacant s a n) e f = absurd cc
address_fixed (retired s a) e f = absurd cc
address_fixed (counts s a r t m e2) e f = absurd cc
address_fixed _ e f = absurd cc

-- a list with an item set, or put behind it
set_told : (xs : List (Option Cell)) (i k : ℕ) (v : Option Cell) (c : Cell) → slice_index_or (slice_set xs i v) k None ≡ Some c → ((k ≡ i) × (v ≡ Some c)) ⊎ ((k ≡ i → ⊥) × (slice_index_or xs k None ≡ Some c))
set_told [] i k v c e = absurd cc
set_told (x ∷ xs) zero zero v c e = inl (refl, e)
set_told (x ∷ xs) zero (suc k) v c e = inr ((λ q. absurd cc), e)
set_told (x ∷ xs) (suc i) zero v c e = inr ((λ q. absurd cc), e)
set_told (x ∷ xs) (suc i) (suc k) v c e = ⊎_elim (λ (y : (k ≡ i) × (v ≡ Some c)). inl (ap suc y.0, y.1)) (λ (y : (k ≡ i → ⊥) × (slice_index_or xs k None ≡ Some c)). inr ((λ q. y.0 (omega (arith, q))), y.1)) (set_told xs i k v c e)

set_other : (xs : List (Option Cell)) (i k : ℕ) (v : Option Cell) → (k ≡ i → ⊥) → slice_index_or (slice_set xs i v) k None ≡ slice_index_or xs k None
set_other [] i k v n = refl
set_other (x ∷ xs) zero zero v n = absurd (n refl)
set_other (x ∷ xs) zero (suc k) v n = refl
set_other (x ∷ xs) (suc i) zero v n = refl
set_other (x ∷ xs) (suc i) (suc k) v n = set_other xs i k v (λ q. n (ap suc q))

set_here : (xs : List (Option Cell)) (i : ℕ) (v : Option Cell) → i < length xs → slice_index_or (slice_set xs i v) i None ≡ v
set_here [] i v l = absurd (omega (arith, l))
set_here (x ∷ xs) zero v l = refl
set_here (x ∷ xs) (suc i) v l = set_here xs i v (omega (arith, l))

push_told : (xs : List (Option Cell)) (k : ℕ) (v c : Cell) → slice_index_or (xs ++ Some v ∷ []) k None ≡ Some c → ((k ≡ length xs) × (v ≡ c)) ⊎ (slice_index_or xs k None ≡ Some c)
push_told [] zero v c e = inl (refl, some_is e)
push_told [] (suc k) v c e = absurd cc
push_told (x ∷ xs) zero v c e = inr e
push_told (x ∷ xs) (suc k) v c e = ⊎_elim (λ (y : (k ≡ length xs) × (v ≡ c)). inl (ap suc y.0, y.1)) (λ (y : slice_index_or xs k None ≡ Some c). inr y) (push_told xs k v c e)

push_here : (xs : List (Option Cell)) (v : Cell) → slice_index_or (xs ++ Some v ∷ []) (length xs) None ≡ Some v
push_here [] v = refl
push_here (x ∷ xs) v = push_here xs v

push_keeps : (xs : List (Option Cell)) (k : ℕ) (v c : Cell) → slice_index_or xs k None ≡ Some c → slice_index_or (xs ++ Some v ∷ []) k None ≡ Some c
push_keeps [] k v c e = absurd cc
push_keeps (x ∷ xs) zero v c e = e
push_keeps (x ∷ xs) (suc k) v c e = push_keeps xs k v c e

-- A CELL AT THE NEXT ADDRESS

no_cell : (c : Cell) (m : Option Cell) → m ≡ None → m ≡ Some c → ⊥
no_cell c m e f = let q : None ≡ Some c = sym e ∙ f in absurd cc

module _ (xs : List (Option Cell)) (at : ℕ) (v : Cell) where
  pub put_told : (k : ℕ) (c : Cell) → slice_index_or (put_cell xs at v) k None ≡ Some c → ((k ≡ at) × (v ≡ c)) ⊎ (slice_index_or xs k None ≡ Some c)
  put_told k c e =
      eq_cases (λ b. slice_index_or (if b then xs ++ Some v ∷ [] else slice_set xs at (Some v)) k None ≡ Some c → ((k ≡ at) × (v ≡ c)) ⊎ (slice_index_or xs k None ≡ Some c)) at (length xs)
      (λ q f. ⊎_elim (λ (y : (k ≡ length xs) × (v ≡ c)). inl (y.0 ∙ sym q, y.1)) (λ (y : slice_index_or xs k None ≡ Some c). inr y) (push_told xs k v c f))
      (λ n f. ⊎_elim (λ (y : (k ≡ at) × (Some v ≡ Some c)). inl (y.0, some_is y.1)) (λ (y : (k ≡ at → ⊥) × (slice_index_or xs k None ≡ Some c)). inr y.1) (set_told xs at k (Some v) c f)) e

  pub put_here : at ≤ length xs → slice_index_or (put_cell xs at v) at None ≡ Some v
  put_here l =
      eq_cases (λ b. slice_index_or (if b then xs ++ Some v ∷ [] else slice_set xs at (Some v)) at None ≡ Some v) at (length xs)
      (λ q. ap (λ k. slice_index_or (xs ++ Some v ∷ []) k None) q ∙ push_here xs v) (λ n. set_here xs at (Some v) (below n))
    where
      below : (at ≡ length xs → ⊥) → at < length xs
      below n = omega (arith, l, n)

  pub put_keeps : slice_index_or xs at None ≡ None → (k : ℕ) (c : Cell) → slice_index_or xs k None ≡ Some c → slice_index_or (put_cell xs at v) k None ≡ Some c
  put_keeps z k c e =
      eq_cases (λ b. slice_index_or (if b then xs ++ Some v ∷ [] else slice_set xs at (Some v)) k None ≡ Some c) at (length xs) (λ q. push_keeps xs k v c e)
      (λ n. set_other xs at k (Some v) (λ q. no_cell c (slice_index_or xs at None) z (ap (λ i. slice_index_or xs i None) (sym q) ∙ e)) ∙ e)

-- THE RENEWAL

module _ (n e e2 : ℕ) (r : Rest) (word : ℕ) (o : ObjNo) (c : Cell) (here : cell_under r.partition word ≡ Some c) (object : c.object ≡ o) (vacant_next : NextIsVacant (freed r.partition word)) where
  abbrev p : PartitionState
  p = r.partition

  abbrev q : PartitionState
  q = freed r.partition word

  abbrev at : ℕ
  at = (next_place (freed r.partition word)).0

  abbrev p2 : PartitionState
  p2 = made (freed r.partition word) c

  abbrev before : List Thing
  before = counts n (length p.cells) p.retired r.started r.mutexes.made e ∷ partition_things n p

  abbrev after : List Thing
  after = counts n (length p2.cells) p2.retired r.started r.mutexes.made e2 ∷ partition_things n p2

  before_addresses : Addresses before
  before_addresses = address_join (counts n (length p.cells) p.retired r.started r.mutexes.made e ∷ []) (partition_things n p) (address_one (counts n (length p.cells) p.retired r.started r.mutexes.made e) refl) (partition_addresses n p)

  after_addresses : Addresses after
  after_addresses = address_join (counts n (length p2.cells) p2.retired r.started r.mutexes.made e2 ∷ []) (partition_things n p2) (address_one (counts n (length p2.cells) p2.retired r.started r.mutexes.made e2) refl) (partition_addresses n p2)

  -- a cell that lies here
  in_before : (m a : ℕ) (d : Cell) → Among (lies m a d) before → (m ≡ n) × (slice_index_or p.cells a None ≡ Some d)
  in_before m a d (inl x) = absurd cc
  in_before m a d (inr x) = lies_at n p m a d x

  in_after : (m a : ℕ) (d : Cell) → Among (lies m a d) after → (m ≡ n) × (slice_index_or p2.cells a None ≡ Some d)
  in_after m a d (inl x) = absurd cc
  in_after m a d (inr x) = lies_at n p2 m a d x

  -- what lies there afterwards is the object or lay there
  told_after : (a : ℕ) (d : Cell) → slice_index_or p2.cells a None ≡ Some d → (c ≡ d) ⊎ (slice_index_or p.cells a None ≡ Some d)
  told_after a d x =
      ⊎_elim (λ (y : (a ≡ at) × (c ≡ d)). inl y.1)
      (λ (y : slice_index_or q.cells a None ≡ Some d). ⊎_elim (λ (z : (a ≡ address_of word) × (None ≡ Some d)). absurd (no_cell d None refl z.1)) (λ (z : (a ≡ address_of word → ⊥) × (slice_index_or p.cells a None ≡ Some d)). inr z.1) (set_told p.cells (address_of word) a None d y))
      (put_told q.cells at c a d x)

  on : (d : Cell) (y : Thing) → CellOf d y → Among y before → (z : Thing) × CellOf d z × Among z after
  on d _ (flying v) h = let f : false ≡ true = before_addresses (flies v d) h in absurd cc
  on d _ (lying m a) h =
      let y = in_before m a d h in
      eq_cases (λ b. (z : Thing) × CellOf d z × Among z after) a (address_of word)
      (λ s.
      let same : c ≡ d = some_is (sym here ∙ ap (λ k. slice_index_or p.cells k None) (sym s) ∙ y.1) in
      (lies n at d, lying n at, inr (at_lies n p2 at d (ap (λ k. slice_index_or (put_cell q.cells at c) k None) refl ∙ put_here q.cells at c vacant_next.within ∙ ap (λ k. Some k) same))))
      (λ f. (lies n a d, lying n a, inr (at_lies n p2 a d (put_keeps q.cells at c vacant_next.vacant a d (set_other p.cells (address_of word) a None f ∙ y.1)))))

  back : (d : Cell) (y : Thing) → CellOf d y → Among y after → (z : Thing) × CellOf d z × Among z before
  back d _ (flying v) h = let f : false ≡ true = after_addresses (flies v d) h in absurd cc
  back d _ (lying m a) h =
      let y = in_after m a d h in
      ⊎_elim (λ (s : c ≡ d). (lies n (address_of word) d, lying n (address_of word), inr (at_lies n p (address_of word) d (here ∙ ap (λ k. Some k) s))))
      (λ (s : slice_index_or p.cells a None ≡ Some d). (lies n a d, lying n a, inr (at_lies n p a d s))) (told_after a d y.1)

  lay : (m a : ℕ) (d : Cell) → Among (lies m a d) after → (d.object ≡ o → ⊥) → Among (lies m a d) before
  lay m a d h f =
      let y = in_after m a d h in
      ⊎_elim (λ (s : c ≡ d). absurd (f (sym (ap (λ (k : Cell). k.object) s) ∙ object))) (λ (s : slice_index_or p.cells a None ≡ Some d). inr (subst (λ k. Among (lies k a d) (partition_things n p)) (sym y.0) (at_lies n p a d s))) (told_after a d y.1)

  pub renewed_shifts : Shifted o before after
  renewed_shifts = record {
    threads = address_threads after after_addresses ∙ sym (address_threads before before_addresses);
    on = on;
    back = back;
    loose = λ y h f. absurd (address_fixed y (after_addresses y h) f);
    remain = λ y h f g. absurd (address_fixed y (before_addresses y h) f);
    lay = lay;
  }

-- THE CLUSTER

partition_split : (r : Rest) (p2 : PartitionState) (ts : List ThreadState) (e : ℕ)
    → Split (server_things (record { rest = r; threads = ts; events = e })) (server_things (record { rest = record r { partition = p2 }; threads = ts; events = e }))
    (counts r.number (length r.partition.cells) r.partition.retired r.started r.mutexes.made e ∷ partition_things r.number r.partition) (counts r.number (length p2.cells) p2.retired r.started r.mutexes.made e ∷ partition_things r.number p2)
partition_split r p2 ts e =
    let n = r.number in
    let copies = things_at (copy_things n) 0 r.cache in
    let mutexes = things_at (mutex_things n) 0 r.mutexes.there in
    let tasks = things_at (task_things n) 0 r.tasks in
    let threads = things_at (standing_things n) 0 ts in
    let inbox = things_at (waiting_things n) 0 r.inbox in
    let outbox = things_at leaving_things 0 r.outbox in
    let c = counts n (length r.partition.cells) r.partition.retired r.started r.mutexes.made e ∷ partition_things n r.partition in
    let d = counts n (length p2.cells) p2.retired r.started r.mutexes.made e ∷ partition_things n p2 in
    split_right outbox (split_right inbox (split_right threads (split_right tasks (split_right mutexes (split_right copies (split_whole c d))))))

-- what a renewal leaves of the work
renewal_rest : (p : BoxPtr) (h : Hand) (w : NewWord) (c : Cell) → cell_under h.work.rest.partition p.word ≡ Some c → issue_renewal p h.work ≡ Some w → w.work.rest ≡ record h.work.rest { partition = made (freed h.work.rest.partition p.word) c }
renewal_rest p h w c here e = by (leads_here x p.word && (is_last x p.word && can_grow x)) e
  where
    x : PartitionState
    x = h.work.rest.partition

    by : (b : Bool) → (if b then Some (record { word = new_word (freed x p.word); work = note (act.Renew p.object p.word (new_word (freed x p.word))) (with_partition (renewed x p.word) h.work) }) else None) ≡ Some w → w.work.rest ≡ record h.work.rest { partition = made (freed x p.word) c }
    by true f = ap (λ (y : NewWord). y.work.rest) (sym (some_is f)) ∙ ap (λ o. record h.work.rest { partition = made_again (freed x p.word) o }) here
    by false f = absurd cc

module _ (k : Cluster) (n : ℕ) (ts : List ThreadState) (e : ℕ) (h : Hand) (p : BoxPtr) (w : NewWord) (a : Renewal k n ts e h p w) where
  abbrev moved_hand : Hand
  moved_hand = record h { work = w.work }

  here : cell_under h.work.rest.partition p.word ≡ Some a.cell
  here = looked h.work.rest.partition p.word a.cell a.here

  rest_now : w.work.rest ≡ record h.work.rest { partition = made (freed h.work.rest.partition p.word) a.cell }
  rest_now = renewal_rest p h w a.cell here a.issued

  stands_now : StandsHere k n ts moved_hand
  stands_now = record { server = a.stands.server; number = ap (λ (r : Rest). r.number) rest_now ∙ a.stands.number; thread = a.stands.thread }

  pub relays : Relaid (put_in k n ts e h) (put_in k n ts e (record h { work = w.work })) p.object
  relays =
      let r = h.work.rest in
      let p2 = made (freed r.partition p.word) a.cell in
      let threads = set_thread ts h.thread in
      let c0 = counts r.number (length r.partition.cells) r.partition.retired r.started r.mutexes.made e ∷ partition_things r.number r.partition in
      let d0 = counts r.number (length p2.cells) p2.retired r.started r.mutexes.made e ∷ partition_things r.number p2 in
      let before : Server = record { rest = r; threads = threads; events = e } in
      let after : Server = record { rest = record r { partition = p2 }; threads = threads; events = e } in
      let there : Split (things_of (put_in k n ts e h)) (servers_things (with_server k.servers n after)) c0 d0 = servers_split n k.servers before after c0 d0 a.stands.server (partition_split r p2 threads e) in
      let whole : Split (things_of (put_in k n ts e h)) (things_of (put_in k n ts e (record h { work = w.work }))) c0 d0 =
      subst (λ (x : Rest). Split (things_of (put_in k n ts e h)) (servers_things (with_server k.servers n (record { rest = x; threads = threads; events = e }))) c0 d0) (sym rest_now) there in
      relaid_by (put_in k n ts e h) (put_in k n ts e (record h { work = w.work })) p.object c0 d0 whole refl a.before a.moved (renewed_shifts r.number e e r p.word p.object a.cell here a.object a.room)

pub renewals_reword : RenewalsReword
renewals_reword = record {
  relays = relays;
  slot = λ k n ts e h h2 p w i v a at points put after first.
      relaid_rewords (put_in k n ts e h) (put_in k n ts e (record h { work = w.work })) (put_in k n ts e h2) (at_slot h.thread.number i) p.object w.word (relays k n ts e h p w a)
      (slots_reword k n ts e (record h { work = w.work }) h2 i w.word v p (stands_now k n ts e h p w a) at points put a.moved after a.home first);
  in_cells = λ k n ts e h h2 p w at c a there boxed put after.
      relaid_rewords (put_in k n ts e h) (put_in k n ts e (record h { work = w.work })) (put_in k n ts e h2) (in_cell c.object) p.object w.word (relays k n ts e h p w a)
      (cells_reword.put k n ts e (record h { work = w.work }) h2 at w.word c p (stands_now k n ts e h p w a) there boxed put a.moved after a.home);
}
