-- The objects have words exactly where nothing is counted.
use Rattle.std.proofs.Common.{◌≡◌, ◌⊎◌, inl, inr, ⊎_elim, ℕ, ◌+◌, Bool, true, false, if◌then◌else◌, List, [], ◌∷◌, length, Option, Some, None, refl, sym, ap, subst, ◌∙◌, arith}
use Rattle.std.specs.Prelude.{◌==◌, unwrap_or}
use Rattle.std.proofs.lemmas.Bool.Decides.{nat_tests}
use Rattle.server_model.specs.Below.fr_base.declared.name.ObjNo.{ObjNo}
use Rattle.fr_code.proofs.Below.fr_store.Keys.{object_cases}
use Rattle.server_model.specs.Below.global_addr.Words.{server_of, address_of}
use Rattle.server_model.specs.Below.heap_partition.declared.value.Cell.{Cell}
use Rattle.server_model.specs.Servers.{Cluster}
use Rattle.coherent_memory.specs.Names.{tot, other, Among, same_object}
use Rattle.coherent_memory.specs.Things.{Location, Thing, lies}
use Rattle.coherent_memory.specs.Stale.{references, lent_places}
use Rattle.coherent_memory.specs.Sight.{Pointer, is_stale, unless, fresh_ones, word_of_object, is_word, sight, word}
use Rattle.coherent_memory.specs.Placing.{other_word, same_word_wrong, is_spot, other_spot, homeward_wrong}
use Rattle.coherent_memory.specs.Words.{all_pointers, IsStale, Fresh, LeadsTo, HasWords, WordsLaw}
use Rattle.coherent_memory.proofs.Names.{and_left, and_right, same_number}
use Rattle.coherent_memory.proofs.StaleEnough.{rounds_law}

pub none_at : {A : Type 0} (f : A → ℕ) (x : A) (xs : List A) → tot f xs ≡ 0 → Among x xs → f x ≡ 0
none_at f x [] z h = absurd h
none_at f x (y ∷ ys) z (inl e) = subst (λ w. f w ≡ 0) e (omega (arith, z))
none_at f x (y ∷ ys) z (inr h) = none_at f x ys (omega (arith, z)) h

pub none_all : {A : Type 0} (f : A → ℕ) (xs : List A) → ((x : A) → Among x xs → f x ≡ 0) → tot f xs ≡ 0
none_all f [] g = refl
none_all f (x ∷ xs) g = omega (arith, g x (inl refl), none_all f xs (λ y h. g y (inr h)))

is_so : (b : Bool) → other b ≡ 0 → b ≡ true
is_so true z = refl
is_so false z = absurd (cc z)

-- STALE OR FRESH

-- the test that the sight makes
pub tells : (k : Cluster) (l : Option Location) → is_stale (sight k).stale l ≡ true → IsStale (sight k) l
tells k None e = absurd (cc e)
tells k (Some l) e = rounds_law.sound (lent_places (sight k).code (sight k).ground (sight k).ground.threads) (references (sight k).ground (sight k).things) (length (references (sight k).ground (sight k).things)) l e

pub told : (k : Cluster) (l : Option Location) → IsStale (sight k) l → is_stale (sight k).stale l ≡ true
told k None s = absurd s
told k (Some l) s = rounds_law.enough (lent_places (sight k).code (sight k).ground (sight k).ground.threads) (references (sight k).ground (sight k).things) l s

kept : (ls : List Location) (p q : Pointer) (ps : List Pointer) → is_stale ls p.at ≡ false → (b : Bool) → is_stale ls q.at ≡ b → (q ≡ p) ⊎ Among p (fresh_ones ls ps) → Among p (unless b q (fresh_ones ls ps))
kept ls p q ps f true e (inl s) = let z : true ≡ false = sym e ∙ (subst (λ (x : Pointer). is_stale ls q.at ≡ is_stale ls x.at) s refl ∙ f) in absurd (cc z)
kept ls p q ps f true e (inr h) = h
kept ls p q ps f false e h = h

pub fresh_in : (ls : List Location) (p : Pointer) (ps : List Pointer) → is_stale ls p.at ≡ false → Among p ps → Among p (fresh_ones ls ps)
fresh_in ls p [] f h = absurd h
fresh_in ls p (q ∷ ps) f (inl e) = kept ls p q ps f (is_stale ls q.at) refl (inl e)
fresh_in ls p (q ∷ ps) f (inr h) = kept ls p q ps f (is_stale ls q.at) refl (inr (fresh_in ls p ps f h))

pub record IsFresh (ls : List Location) (p : Pointer) (ps : List Pointer) : Type 0 where
  pub fresh : is_stale ls p.at ≡ false
  pub among : Among p ps

fresh_by : (ls : List Location) (p q : Pointer) (ps : List Pointer) (b : Bool) → is_stale ls q.at ≡ b → (Among p (fresh_ones ls ps) → IsFresh ls p ps) → Among p (unless b q (fresh_ones ls ps)) → IsFresh ls p (q ∷ ps)
fresh_by ls p q ps true e go h = let y = go h in record { fresh = y.fresh; among = inr y.among }
fresh_by ls p q ps false e go (inl s) = record { fresh = subst (λ (x : Pointer). is_stale ls x.at ≡ false) s e; among = inl s }
fresh_by ls p q ps false e go (inr h) = let y = go h in record { fresh = y.fresh; among = inr y.among }

pub fresh_from : (ls : List Location) (p : Pointer) (ps : List Pointer) → Among p (fresh_ones ls ps) → IsFresh ls p ps
fresh_from ls p [] h = absurd h
fresh_from ls p (q ∷ ps) h = fresh_by ls p q ps (is_stale ls q.at) refl (fresh_from ls p ps) h

-- what isn't stale by the rule isn't by the test
pub not_told : (k : Cluster) (l : Option Location) → (IsStale (sight k) l → ⊥) → is_stale (sight k).stale l ≡ false
not_told k l n = by (is_stale (sight k).stale l) refl
  where
    by : (b : Bool) → is_stale (sight k).stale l ≡ b → b ≡ false
    by true e = absurd (n (tells k l e))
    by false e = refl

-- THE FIRST POINTER

-- the first of these to the object
pub record First (ps : List Pointer) (o : ObjNo) : Type 0 where
  pub pointer : Pointer
  pub among : Among pointer ps
  pub object : pointer.object ≡ o
  pub tells : word_of_object ps o ≡ Some pointer.word

first_later : (q : Pointer) (ps : List Pointer) (o : ObjNo) → same_object q.object o ≡ false → First ps o → First (q ∷ ps) o
first_later q ps o e f = record { pointer = f.pointer; among = inr f.among; object = f.object; tells = rw e f.tells }

first_by : (q : Pointer) (ps : List Pointer) (o : ObjNo) (b : Bool) → same_object q.object o ≡ b → (b ≡ true → q.object ≡ o) → (b ≡ false → First ps o) → First (q ∷ ps) o
first_by q ps o true e s go = record { pointer = q; among = inl refl; object = s refl; tells = rw e refl }
first_by q ps o false e s go = first_later q ps o e (go refl)

pub named : (p o : ObjNo) → same_object p o ≡ true → p ≡ o
named p o = object_cases (λ b. b ≡ true → p ≡ o) p o (λ s e. s) (λ n e. absurd (cc e))

pub itself : (p o : ObjNo) → p ≡ o → same_object p o ≡ true
itself p o e = object_cases (λ b. b ≡ true) p o (λ s. refl) (λ n. absurd (n e))

first_of : (p : Pointer) (ps : List Pointer) (o : ObjNo) → Among p ps → p.object ≡ o → First ps o
first_of p [] o h e = absurd h
first_of p (q ∷ ps) o (inl s) e =
    let y : q.object ≡ o = subst (λ (x : Pointer). x.object ≡ o) (sym s) e in
    let t : same_object q.object o ≡ true = itself q.object o y in
    record { pointer = q; among = inl refl; object = y; tells = rw t refl }
first_of p (q ∷ ps) o (inr h) e = first_by q ps o (same_object q.object o) refl (named q.object o) (λ f. first_of p ps o h e)

told_by : (q : Pointer) (ps : List Pointer) (o : ObjNo) (w : ℕ) (b : Bool) → same_object q.object o ≡ b → (word_of_object ps o ≡ Some w → First ps o) → (if b then Some q.word else word_of_object ps o) ≡ Some w → First (q ∷ ps) o
told_by q ps o w true t go f = record { pointer = q; among = inl refl; object = named q.object o t; tells = rw t refl }
told_by q ps o w false t go f = first_later q ps o t (go f)

first_told : (ps : List Pointer) (o : ObjNo) (w : ℕ) → word_of_object ps o ≡ Some w → First ps o
first_told [] o w e = absurd (cc e)
first_told (q ∷ ps) o w e = told_by q ps o w (same_object q.object o) refl (first_told ps o w) e

-- FROM THE COUNTS

word_is : (o : Option ℕ) (w : ℕ) → is_word o w ≡ true → w ≡ unwrap_or o 0
word_is None w e = absurd (cc e)
word_is (Some v) w e = sym (same_number v w e)

-- a word that leads to an address is there
pub record Led (r a : ℕ) (o : Option ℕ) : Type 0 where
  pub word : ℕ
  pub is : o ≡ Some word
  pub leads : LeadsTo r a (unwrap_or o 0)

led : (r a : ℕ) (o : Option ℕ) → is_spot r a o ≡ true → Led r a o
led r a None e = absurd (cc e)
led r a (Some w) e = record {
  word = w;
  is = refl;
  leads = record { server = same_number (server_of w) r (and_left (server_of w == r) (address_of w == a) e); address = same_number (address_of w) a (and_right (server_of w == r) (address_of w == a) e) };
}

same_by : (k : Cluster) → same_word_wrong (sight k) ≡ 0 → (p : Pointer) → Among p (all_pointers (sight k)) → (b : Bool) → is_stale (sight k).stale p.at ≡ b → IsStale (sight k) p.at ⊎ (p.word ≡ unwrap_or (word (sight k) p.object) 0)
same_by k z p m true e = inl (tells k p.at e)
same_by k z p m false e =
    let here : Among p (sight k).pointers = fresh_in (sight k).stale p (all_pointers (sight k)) e m in
    inr (word_is (word (sight k) p.object) p.word (is_so (is_word (word (sight k) p.object) p.word) (none_at (other_word (sight k)) p (sight k).pointers z here)))

fresh_of : (k : Cluster) (o : ObjNo) → First (sight k).pointers o → Fresh (sight k) o
fresh_of k o f =
    let y = fresh_from (sight k).stale f.pointer (all_pointers (sight k)) f.among in
    record { pointer = f.pointer; among = y.among; object = f.object; fresh = λ s. let e : true ≡ false = sym (told k f.pointer.at s) ∙ y.fresh in absurd (cc e) }

led_home : (k : Cluster) → homeward_wrong (sight k) ≡ 0 → (r a : ℕ) (c : Cell) → Among (lies r a c) (sight k).things → Led r a (word (sight k) c.object)
led_home k z r a c m = led r a (word (sight k) c.object) (is_so (is_spot r a (word (sight k) c.object)) (none_at (other_spot (sight k)) (lies r a c) (sight k).things z m))

from_counts : (k : Cluster) → same_word_wrong (sight k) ≡ 0 → homeward_wrong (sight k) ≡ 0 → HasWords (sight k)
from_counts k z h = record {
  word = λ o. unwrap_or (word (sight k) o) 0;
  same = λ p m. same_by k z p m (is_stale (sight k).stale p.at) refl;
  live = λ r a c m. let y = led_home k h r a c m in fresh_of k c.object (first_told (sight k).pointers c.object y.word y.is);
  home = λ r a c m. (led_home k h r a c m).leads;
}

-- FROM THE WORDS

fresh_word : (k : Cluster) (h : HasWords (sight k)) (p : Pointer) → Among p (sight k).pointers → p.word ≡ h.word p.object
fresh_word k h p m =
    let y = fresh_from (sight k).stale p (all_pointers (sight k)) m in
    ⊎_elim (λ (s : IsStale (sight k) p.at). let e : true ≡ false = sym (told k p.at s) ∙ y.fresh in absurd (cc e)) (λ (e : p.word ≡ h.word p.object). e) (h.same p y.among)

first_word : (k : Cluster) (h : HasWords (sight k)) (o : ObjNo) (p : Pointer) → Among p (sight k).pointers → p.object ≡ o → word (sight k) o ≡ Some (h.word o)
first_word k h o p m e =
    let f = first_of p (sight k).pointers o m e in
    let w : f.pointer.word ≡ h.word o = fresh_word k h f.pointer f.among ∙ ap h.word f.object in
    f.tells ∙ ap (λ n. Some n) w

first_tells : (k : Cluster) (h : HasWords (sight k)) (o : ObjNo) → Fresh (sight k) o → word (sight k) o ≡ Some (h.word o)
first_tells k h o f =
    first_word k h o f.pointer (fresh_in (sight k).stale f.pointer (all_pointers (sight k)) (not_told k f.pointer.at f.fresh) f.among) f.object

pub equal_numbers : (m n : ℕ) → m ≡ n → (m == n) ≡ true
equal_numbers m n e = grind (arith, nat_tests, e)

no_other : (o : Option ℕ) (v w : ℕ) → o ≡ Some v → v ≡ w → other (is_word o w) ≡ 0
no_other o v w e q = let t : (v == w) ≡ true = equal_numbers v w q in rw e (rw t refl)

spot_led : (r a w : ℕ) (o : Option ℕ) → o ≡ Some w → LeadsTo r a w → other (is_spot r a o) ≡ 0
spot_led r a w o e l =
    let s : (server_of w == r) ≡ true = equal_numbers (server_of w) r l.server in
    let t : (address_of w == a) ≡ true = equal_numbers (address_of w) a l.address in
    rw e (rw s (rw t refl))

spots_led : (k : Cluster) (h : HasWords (sight k)) (x : Thing) → Among x (sight k).things → other_spot (sight k) x ≡ 0
spots_led k h (lies r a c) m = spot_led r a (h.word c.object) (word (sight k) c.object) (first_tells k h c.object (h.live r a c m)) (h.home r a c m)
spots_led k h _ m = refl

none_counted : (k : Cluster) → HasWords (sight k) → same_word_wrong (sight k) + homeward_wrong (sight k) ≡ 0
none_counted k h =
    let a : same_word_wrong (sight k) ≡ 0 =
    none_all (other_word (sight k)) (sight k).pointers (λ p m. no_other (word (sight k) p.object) (h.word p.object) p.word (first_word k h p.object p m refl) (sym (fresh_word k h p m))) in
    let b : homeward_wrong (sight k) ≡ 0 = none_all (other_spot (sight k)) (sight k).things (spots_led k h) in
    omega (arith, a, b)

pub words_law : WordsLaw
words_law = record { from_counts = from_counts; none_counted = none_counted; first_tells = first_tells }
