-- No word is issued twice in a run of calls.
use Rattle.std.proofs.Common.{arith, ◌≡◌, ◌≢◌, ◌^◌, ◌<◌, ◌≤◌, ℕ, Bool, true, false, List, [], ◌∷◌, All, length, slice_set, sym, subst, ap, refl}
use Rattle.std.specs.Prelude.{Option, Some, None, IsSome, IfSome}
use Rattle.std.proofs.lemmas.Bool.Decides.{nat_tests}
use Rattle.std.proofs.lemmas.List.Elements.{All-cons, All-weaker, All-nil}
use Rattle.std.proofs.lemmas.List.{length-set}
use Rattle.heap_partition.specs.declared.value.Cell.{Cell}
use Rattle.heap_partition.specs.declared.value.Owned.{Owned}
use Rattle.global_addr.specs.Words.{colour_of, spot_of, address_of}
use Rattle.owner_box.specs.View.{PartitionState}
use Rattle.owner_box.specs.Partition.{IsTidy, LeadsTo, cell_of, new_word, started, made_again, stored, freed, with_value}
use Rattle.owner_box.specs.Issued.{WordSet, no_word, with_word, IsFresh, Fits}
use Rattle.owner_box.specs.Runs.{Call, Reserve, Make, Store, Give, Renew, Free, Tint, after, word_given, issued_after, IsAllowed, with_given, words_of, AllDifferent, NoWordTwice, NoneAgain}
use Rattle.owner_box.proofs.States.{states_made, states_set}
use Rattle.owner_box.proofs.Issued.{made_fresh, renewed_fresh, freed_fits, freed_tidy, stored_fits, started_fits, tinted_fits}

-- a partition that was never used is tidy
pub started_tidy : (server limit : ℕ) → 1 ≤ limit → limit ≤ 65536 → IsTidy (started server limit)
started_tidy server limit low high = record {
  free_in = λ k d l. absurd (omega (arith, l));
  once = tt;
  counted = refl;
  few = omega arith;
  limits = (low, high);
}

-- a tidy partition stays tidy where an object is renewed
pub made_again_tidy : (p : PartitionState) (slot : Option Cell) → length p.cells < 2 ^ 40 → IsTidy p → IsTidy (made_again p slot)
made_again_tidy p None few t = t
made_again_tidy p (Some cell) few t = states_made p.limit p.retired p.cells p.free cell few t

-- a tidy partition stays tidy where an object gets another value
pub stored_tidy : (p : PartitionState) (word : ℕ) (value : Owned) → LeadsTo p word → IsTidy p → IsTidy (stored p word value)
stored_tidy p word value leads t = by (cell_of p word) refl
  where
    by : (slot : Option Cell) → cell_of p word ≡ slot → IsTidy (record p { cells = slice_set p.cells (address_of word) (with_value value slot) })
    by None is = let some : IsSome {T = Cell} None = subst IsSome is leads.live in absurd cc
    by (Some cell) is = states_set p.limit p.retired (address_of word) p.cells p.free (record cell { value = value }) leads.live t

-- a call leaves the partition tidy
pub tidy_after : (p : PartitionState) (issued : WordSet) (call : Call) → IsTidy p → IsAllowed p issued call → IsTidy (after p call)
tidy_after p issued (Reserve n) t a = t
tidy_after p issued (Make cell) t a = states_made p.limit p.retired p.cells p.free cell a t
tidy_after p issued (Store word value) t a = stored_tidy p word value a t
tidy_after p issued (Give word) t a = freed_tidy p word t a.0
tidy_after p issued (Renew word) t a =
    made_again_tidy (freed p word) (cell_of p word) (omega (arith, a.3, length-set p.cells (address_of word) None)) (freed_tidy p word t a.0)
tidy_after p issued (Free word) t a = freed_tidy p word t a.0
tidy_after p issued (Tint word) t a = t

-- a call leaves the server as it was
pub server_made_again : (p : PartitionState) (slot : Option Cell) → (made_again p slot).server ≡ p.server
server_made_again p None = refl
server_made_again p (Some cell) = refl

pub server_after : (p : PartitionState) (call : Call) → (after p call).server ≡ p.server
server_after p (Reserve n) = refl
server_after p (Make cell) = refl
server_after p (Store word value) = refl
server_after p (Give word) = refl
server_after p (Renew word) = server_made_again (freed p word) (cell_of p word)
server_after p (Free word) = refl
server_after p (Tint word) = refl

-- the word that a call gives is fresh, and the words fit afterwards
pub step_fresh : (p : PartitionState) (issued : WordSet) (call : Call) → p.server < 2 ^ 8 → IsTidy p → Fits p issued → IsAllowed p issued call
    → IfSome (word_given p call) (IsFresh issued) × Fits (after p call) (issued_after p issued call)
step_fresh p issued (Reserve n) s t f a = (tt, record { used = f.used; free = f.free })
step_fresh p issued (Make cell) s t f a = made_fresh p cell issued s t a f
step_fresh p issued (Store word value) s t f a = (tt, stored_fits p word value issued a f)
step_fresh p issued (Give word) s t f a = (tt, freed_fits p word issued t a.0 a.1 f)
step_fresh p issued (Renew word) s t f a = renewed_fresh p word issued s t a.3 a.0 a.2 a.1 f
step_fresh p issued (Free word) s t f a = (tt, freed_fits p word issued t a.0 a.1 f)
step_fresh p issued (Tint word) s t f a = (tt, tinted_fits p word issued t a f)

-- what is fresh in a larger set is fresh
pub more_word : (issued : WordSet) (word w : ℕ) → issued w ≡ true → with_word issued word w ≡ true
more_word issued word w is = rw is refl

pub issued_more : (p : PartitionState) (issued : WordSet) (call : Call) (w : ℕ) → issued w ≡ true → issued_after p issued call w ≡ true
issued_more p issued (Make cell) w is = more_word issued (new_word p) w is
issued_more p issued (Renew word) w is = more_word issued (new_word (freed p word)) w is
issued_more p issued (Tint word) w is = more_word issued word w is
issued_more p issued _ w is = is

-- the word that a call gives is issued afterwards
pub self_word : (issued : WordSet) (word : ℕ) → with_word issued word word ≡ true
self_word issued word = by (issued word) refl
  where
    by : (b : Bool) → issued word ≡ b → with_word issued word word ≡ true
    by true is = rw is refl
    by false is = rw is (grind (arith, nat_tests))

pub given_issued : (p : PartitionState) (issued : WordSet) (call : Call) → IfSome (word_given p call) (λ w. issued_after p issued call w ≡ true)
given_issued p issued (Make cell) = self_word issued (new_word p)
given_issued p issued (Renew word) = self_word issued (new_word (freed p word))
given_issued p issued _ = tt

-- a list with or without one word in front: each word of it has what the rest has, and what that one has
pub all_with_given : (P : ℕ → Type 0) (given : Option ℕ) (words : List ℕ) → IfSome given P → All P words → All P (with_given given words)
all_with_given P None words first all = all
all_with_given P (Some word) words first all = All-cons P word words first all

-- words that are fresh once a word was issued differ from it
pub different_with_given : (issued : WordSet) (given : Option ℕ) (words : List ℕ) → IfSome given (λ w. issued w ≡ true) → All (IsFresh issued) words
    → AllDifferent words → AllDifferent (with_given given words)
different_with_given issued None words first fresh all = all
different_with_given issued (Some word) words first fresh all = (All-weaker (IsFresh issued) (λ other. other ≢ word) apart words fresh, all)
  where
    apart : (other : ℕ) → IsFresh issued other → other ≢ word
    apart other new same = omega (arith, new word first (ap spot_of (sym same)), ap colour_of same)

pub none_again : NoneAgain
none_again p issued [] s t f a = (tt, All-nil (IsFresh issued), tt)
none_again p issued (call ∷ rest) s t f a =
    let step = step_fresh p issued call s t f a.0 in
    let later = none_again (after p call) (issued_after p issued call) rest (omega (arith, s, server_after p call)) (tidy_after p issued call t a.0) step.1 a.1 in
    let fresh : All (IsFresh issued) (words_of (after p call) rest) =
    All-weaker (IsFresh (issued_after p issued call)) (IsFresh issued) (λ v new w is. new w (issued_more p issued call w is)) (words_of (after p call) rest) later.1 in (
      different_with_given (issued_after p issued call) (word_given p call) (words_of (after p call) rest) (given_issued p issued call) later.1 later.0,
      all_with_given (IsFresh issued) (word_given p call) (words_of (after p call) rest) step.0 fresh,
      (step.0, later.2),
    )

pub no_word_twice : NoWordTwice
no_word_twice server limit calls s low high a =
    let whole = none_again (started server limit) no_word calls s (started_tidy server limit low high) (started_fits server limit no_word (λ w is. cc)) a in
    (whole.0, whole.2)
