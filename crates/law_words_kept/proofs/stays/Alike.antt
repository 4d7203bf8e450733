-- Lists of things in which words see the same: the same threads, cells and pointers, in whatever order.
use Rattle.std.proofs.Common.{◌≡◌, inl, inr, ⊎_elim, ℕ, Bool, List, [], ◌∷◌, ◌++◌, Some, None, refl, subst, ◌∙◌}
use Rattle.std.specs.Prelude.{slice_get}
use Rattle.law_counts_sums.specs.Below.fr_base.declared.instruction.Instr.{Instr}
use Rattle.law_counts_sums.specs.Below.heap_partition.declared.value.Cell.{Cell}
use Rattle.law_counts_sums.specs.Below.thread_state.View.{ThreadState}
use Rattle.law_counts_sums.specs.Below.thread_state.declared.value.Value.TheVariants as value
use Rattle.law_counts_sums.specs.Below.coherent_memory.Names.{Among}
use Rattle.law_counts_sums.specs.Below.coherent_memory.Things.{in_cell, Thing, lies, flies, stands}
use Rattle.law_counts_sums.specs.Below.coherent_memory.Sight.{Pointer, pointers_of}
use Rattle.law_counts_sums.specs.Below.coherent_memory.Placing.{standing_of, standing_in}
use Rattle.law_counts_sums.proofs.Below.coherent_memory.Bags.{among_split}
use Rattle.law_words_paths.proofs.paths.Origins.{among_first, among_second}
use Rattle.law_words_paths.specs.words.Unmoved.{pointing, owning, taking_by}
use Rattle.law_words_paths.proofs.words.Standing.{standing_among}
use Rattle.law_words_paths.proofs.words.Loose.{box_nowhere}

-- a thread that words see as another one
pub record ShowsAs (code : List Instr) (x y : ThreadState) : Type 0 where
  pub number : y.number ≡ x.number
  pub taking : taking_by y.number y.phase (slice_get code y.pc) ≡ taking_by x.number x.phase (slice_get code x.pc)
  pub slots : (i : ℕ) → pointing (slice_get y.slots i) ≡ pointing (slice_get x.slots i)
  pub temps : (i : ℕ) → owning (slice_get y.temps i) ≡ owning (slice_get x.temps i)

-- such a thread is there
pub record StandsIn (code : List Instr) (b : List Thing) (x : ThreadState) : Type 0 where
  pub server : ℕ
  pub packed : Bool
  pub thread : ThreadState
  pub among : Among (stands server packed thread) b
  pub shows : ShowsAs code x thread

-- what words see of a thing is there; a cell as it is, at that address, or under way under that word
abbrev pub Seen : List Instr → List Thing → Thing → Type 0
Seen code b (stands s p t) = StandsIn code b t
Seen code b (lies r a c) = Among (lies r a c) b
Seen code b (flies w c) = Among (flies w c) b
Seen code b x = (p : Pointer) → p.at ≡ None → Among p (pointers_of x) → Among p (standing_in b)

abbrev pub Within : List Instr → List Thing → List Thing → Type 0
Within code a b = (y : Thing) → Among y a → Seen code b y

-- both ways
pub record Alike (code : List Instr) (a b : List Thing) : Type 0 where
  pub on : Within code a b
  pub back : Within code b a

-- ONE THING

pub shows_itself : (code : List Instr) (x : ThreadState) → ShowsAs code x x
shows_itself code x = record { number = refl; taking = refl; slots = λ i. refl; temps = λ i. refl }

pub shows_turn : (code : List Instr) (x y z : ThreadState) → ShowsAs code x y → ShowsAs code y z → ShowsAs code x z
shows_turn code x y z p q = record {
  number = q.number ∙ p.number;
  taking = q.taking ∙ p.taking;
  slots = λ i. q.slots i ∙ p.slots i;
  temps = λ i. q.temps i ∙ p.temps i;
}

pub seen_itself : (code : List Instr) (b : List Thing) (y : Thing) → Among y b → Seen code b y
seen_itself code b (stands s p t) h = record { server = s; packed = p; thread = t; among = h; shows = shows_itself code t }
seen_itself code b (lies r a c) h = h
seen_itself code b (flies w c) h = h
seen_itself code b y h = λ p e q. standing_among p y b h q

-- a pointer that stands nowhere
seen_standing : (code : List Instr) (c : List Thing) (p : Pointer) (y : Thing) → Seen code c y → p.at ≡ None → Among p (standing_of y) → Among p (standing_in c)
seen_standing code c p (stands s q t) h e m = absurd m
seen_standing code c p (lies r a d) h e m = absurd (box_nowhere (in_cell d.object) d.value p m e)
seen_standing code c p (flies w d) h e m = absurd (box_nowhere (in_cell d.object) d.value p m e)
seen_standing code c p y h e m = h p e m

pub standing_turn : (code : List Instr) (b c : List Thing) (p : Pointer) → Within code b c → p.at ≡ None → Among p (standing_in b) → Among p (standing_in c)
standing_turn code [] c p w e m = absurd m
standing_turn code (x ∷ b) c p w e m =
    ⊎_elim (λ (l : Among p (standing_of x)). seen_standing code c p x (w x (inl refl)) e l) (λ (r : Among p (standing_in b)). standing_turn code b c p (λ y n. w y (inr n)) e r)
    (among_split p (standing_of x) (standing_in b) m)

pub seen_turn : (code : List Instr) (b c : List Thing) (y : Thing) → Seen code b y → Within code b c → Seen code c y
seen_turn code b c (stands s p t) q w =
    let r = w (stands q.server q.packed q.thread) q.among in
    record { server = r.server; packed = r.packed; thread = r.thread; among = r.among; shows = shows_turn code t q.thread r.thread q.shows r.shows }
seen_turn code b c (lies s a d) q w = w (lies s a d) q
seen_turn code b c (flies v d) q w = w (flies v d) q
seen_turn code b c y q w = λ p e m. standing_turn code b c p w e (q p e m)

-- INCLUSIONS

pub within_listed : (code : List Instr) (a b : List Thing) → ((y : Thing) → Among y a → Among y b) → Within code a b
within_listed code a b f y h = seen_itself code b y (f y h)

pub within_both : (code : List Instr) (a b c : List Thing) → Within code a c → Within code b c → Within code (a ++ b) c
within_both code a b c p q y h = ⊎_elim (λ (l : Among y a). p y l) (λ (r : Among y b). q y r) (among_split y a b h)

pub within_first : (code : List Instr) (a b c : List Thing) → Within code a b → Within code a (b ++ c)
within_first code a b c p y h = seen_turn code b (b ++ c) y (p y h) (within_listed code b (b ++ c) (λ z m. among_first z b c m))

pub within_second : (code : List Instr) (a b c : List Thing) → Within code a c → Within code a (b ++ c)
within_second code a b c p y h = seen_turn code c (b ++ c) y (p y h) (within_listed code c (b ++ c) (λ z m. among_second z b c m))

-- ALIKE

pub itself : {code : List Instr} (a : List Thing) → Alike code a a
itself {code = code} a = record { on = λ y h. seen_itself code a y h; back = λ y h. seen_itself code a y h }

pub turned : {code : List Instr} {a b : List Thing} → Alike code a b → Alike code b a
turned p = record { on = p.back; back = p.on }

pub chain : {code : List Instr} {a b c : List Thing} → Alike code a b → Alike code b c → Alike code a c
chain {code = code} {a = a} {b = b} {c = c} p q = record { on = λ y h. seen_turn code b c y (p.on y h) q.on; back = λ y h. seen_turn code b a y (q.back y h) p.back }

pub beside : {code : List Instr} {a b c d : List Thing} → Alike code a b → Alike code c d → Alike code (a ++ c) (b ++ d)
beside {code = code} {a = a} {b = b} {c = c} {d = d} p q = record {
  on = within_both code a c (b ++ d) (within_first code a b d p.on) (within_second code c b d q.on);
  back = within_both code b d (a ++ c) (within_first code b a c p.back) (within_second code d a c q.back);
}

pub exchanged : {code : List Instr} (a b : List Thing) → Alike code (a ++ b) (b ++ a)
exchanged {code = code} a b = record { on = other_way a b; back = other_way b a }
  where
    other_way : (x y : List Thing) → Within code (x ++ y) (y ++ x)
    other_way x y = within_listed code (x ++ y) (y ++ x) (λ z h. ⊎_elim (λ (l : Among z x). among_second z y x l) (λ (r : Among z y). among_first z y x r) (among_split z x y h))

-- the first of three goes behind the second
pub in_front : {code : List Instr} (a b c : List Thing) → Alike code (a ++ (b ++ c)) (b ++ (a ++ c))
in_front {code = code} a b c = record { on = over a b; back = over b a }
  where
    over : (x y : List Thing) → Within code (x ++ (y ++ c)) (y ++ (x ++ c))
    over x y = within_listed code (x ++ (y ++ c)) (y ++ (x ++ c))
        (λ z h. ⊎_elim (λ (l : Among z x). among_second z y (x ++ c) (among_first z x c l))
        (λ (r : Among z (y ++ c)). ⊎_elim (λ (m : Among z y). among_first z y (x ++ c) m) (λ (n : Among z c). among_second z y (x ++ c) (among_second z x c n)) (among_split z y c r)) (among_split z x (y ++ c) h))

-- parentheses
pub joined : {code : List Instr} (a b c : List Thing) → Alike code (a ++ (b ++ c)) (a ++ b ++ c)
joined {code = code} a b c = record { on = within_listed code _ _ (λ z h. left z h); back = within_listed code _ _ (λ z h. right z h) }
  where
    left : (z : Thing) → Among z (a ++ (b ++ c)) → Among z (a ++ b ++ c)
    left z h = ⊎_elim (λ (l : Among z a). among_first z (a ++ b) c (among_first z a b l))
        (λ (r : Among z (b ++ c)). ⊎_elim (λ (m : Among z b). among_first z (a ++ b) c (among_second z a b m)) (λ (n : Among z c). among_second z (a ++ b) c n) (among_split z b c r)) (among_split z a (b ++ c) h)

    right : (z : Thing) → Among z (a ++ b ++ c) → Among z (a ++ (b ++ c))
    right z h = ⊎_elim (λ (r : Among z (a ++ b)). ⊎_elim (λ (l : Among z a). among_first z a (b ++ c) l) (λ (m : Among z b). among_second z a (b ++ c) (among_first z b c m)) (among_split z a b r))
        (λ (n : Among z c). among_second z a (b ++ c) (among_second z b c n)) (among_split z (a ++ b) c h)

pub alone : {code : List Instr} (a : List Thing) → Alike code (a ++ []) a
alone {code = code} a = record { on = within_both code a [] a (λ y h. seen_itself code a y h) (λ y h. absurd h); back = within_first code a a [] (λ y h. seen_itself code a y h) }

-- a part among others, with what is beside it
pub inside : {code : List Instr} (l r h h2 m m2 : List Thing) → Alike code (h ++ m) (h2 ++ m2) → Alike code (h ++ (l ++ m ++ r)) (h2 ++ (l ++ m2 ++ r))
inside {code = code} l r h h2 m m2 p = chain (around h m) (chain (beside (itself l) (beside p (itself r))) (turned (around h2 m2)))
  where
    around : (x n : List Thing) → Alike code (x ++ (l ++ n ++ r)) (l ++ (x ++ n ++ r))
    around x n = chain (beside (itself x) (turned (joined l n r))) (chain (in_front x l (n ++ r)) (beside (itself l) (joined x n r)))

-- a part that was taken out of a list, or put into it
pub swapped : {code : List Instr} (m m2 x y rest h h2 : List Thing) → Alike code m (x ++ rest) → Alike code m2 (y ++ rest) → Alike code (h ++ x) (h2 ++ y) → Alike code (h ++ m) (h2 ++ m2)
swapped m m2 x y rest h h2 p q e =
    chain (beside (itself h) p) (chain (joined h x rest) (chain (beside e (itself rest)) (chain (turned (joined h2 y rest)) (beside (itself h2) (turned q)))))

-- WHAT ISN'T SEEN

pub blank : {code : List Instr} (x : Thing) → Seen code [] x → Alike code (x ∷ []) []
blank {code = code} x s = record { on = on; back = λ y h. absurd h }
  where
    on : (y : Thing) → Among y (x ∷ []) → Seen code [] y
    on y (inl e) = subst (λ z. Seen code [] z) e s
    on y (inr h) = absurd h

pub blanks : {code : List Instr} {a b : List Thing} → Alike code a [] → Alike code b [] → Alike code (a ++ b) []
blanks p q = beside p q

-- what isn't seen goes, or comes
pub goes : {code : List Instr} {a b : List Thing} → Alike code a [] → Alike code (a ++ b) b
goes {b = b} p = beside p (itself b)
