-- Sums over kinds, entries and acts in any order.
use Rattle.std.proofs.Common.{arith, ◌≡◌, ◌≤◌, ◌+◌, ◌==◌, ◌&&◌, ℕ, Bool, true, false, List, [], ◌∷◌, refl, sym, ◌∙◌}
use Rattle.std.specs.Prelude.{map, sum}
use Rattle.std.specs.List.{fold}
use Rattle.std.proofs.lemmas.List.Sums.{sum-map}
use Rattle.fr_base.specs.Lists.{tot, one}
use Rattle.fr_base.specs.Kinds.{kind_number}
use Rattle.fr_base.specs.declared.message.Kind.{Kind}
use Rattle.fr_base.specs.declared.message.Kind.TheVariants as kind
use Rattle.journal.specs.View.{EntryView}
use Rattle.coloured_heap.specs.Sends.{Sending, sendings, leaves, count, counts, messages}
use Rattle.coloured_heap.specs.Laws.{KindsAddUp}
use Rattle.coloured_heap.specs.Figures.{by_kind, kinds}

-- SUMS

tot_zero : {A : Type 0} (xs : List A) → tot (λ x. 0) xs ≡ 0
tot_zero [] = refl
tot_zero (x ∷ xs) = omega (arith, tot_zero xs)

pub tot_plus : {A : Type 0} (f g : A → ℕ) (xs : List A) → tot (λ x. f x + g x) xs ≡ tot f xs + tot g xs
tot_plus f g [] = refl
tot_plus f g (x ∷ xs) = omega (arith, tot_plus f g xs)

pub tot_same : {A : Type 0} (f g : A → ℕ) (xs : List A) → ((x : A) → f x ≡ g x) → tot f xs ≡ tot g xs
tot_same f g [] same = refl
tot_same f g (x ∷ xs) same = omega (arith, same x, tot_same f g xs same)

-- a sum of sums the other way round
tot_swap : {A B : Type 0} (f : A → B → ℕ) (xs : List A) (ys : List B) → tot (λ x. tot (λ y. f x y) ys) xs ≡ tot (λ y. tot (λ x. f x y) xs) ys
tot_swap f [] ys = sym (tot_zero ys)
tot_swap f (x ∷ xs) ys = let rest = tot_swap f xs ys in let parts = tot_plus (λ y. f x y) (λ y. tot (λ z. f z y) xs) ys in omega (arith, rest, parts)

-- a sum of no less
pub tot_most : {A : Type 0} (f g : A → ℕ) (xs : List A) → ((x : A) → f x ≤ g x) → tot f xs ≤ tot g xs
tot_most f g [] most = omega arith
tot_most f g (x ∷ xs) most = omega (arith, most x, tot_most f g xs most)

folded : {A : Type 0} (f : A → ℕ) (n : ℕ) (xs : List A) → fold (λ (a : ℕ) (x : A). a + f x) n xs ≡ n + tot f xs
folded f n [] = omega arith
folded f n (x ∷ xs) = folded f (n + f x) xs ∙ omega arith

-- the sum of a list of counts
pub sum_of_counts : {A : Type 0} (f : A → ℕ) (xs : List A) → sum (map f xs) ≡ tot f xs
sum_of_counts f xs = sum-map f xs ∙ folded f 0 xs ∙ omega arith

-- ONE MESSAGE

-- it has one kind
pub of_one_kind : (k : Kind) (b : Bool) → one b ≡ tot (λ j. one ((kind_number k == kind_number j) && b)) kinds
of_one_kind kind.Fetch true = refl
of_one_kind kind.Fetch false = refl
of_one_kind kind.Fetched true = refl
of_one_kind kind.Fetched false = refl
of_one_kind kind.Move true = refl
of_one_kind kind.Move false = refl
of_one_kind kind.Moved true = refl
of_one_kind kind.Moved false = refl
of_one_kind kind.Drop true = refl
of_one_kind kind.Drop false = refl
of_one_kind kind.Lock true = refl
of_one_kind kind.Lock false = refl
of_one_kind kind.Granted true = refl
of_one_kind kind.Granted false = refl
of_one_kind kind.Unlock true = refl
of_one_kind kind.Unlock false = refl
of_one_kind kind.Dup true = refl
of_one_kind kind.Dup false = refl
of_one_kind kind.Dupped true = refl
of_one_kind kind.Dupped false = refl
of_one_kind kind.Release true = refl
of_one_kind kind.Release false = refl
of_one_kind kind.Start true = refl
of_one_kind kind.Start false = refl
of_one_kind kind.Join true = refl
of_one_kind kind.Join false = refl
of_one_kind kind.Joined true = refl
of_one_kind kind.Joined false = refl
of_one_kind kind.Finished true = refl
of_one_kind kind.Finished false = refl
of_one_kind kind.Migrate true = refl
of_one_kind kind.Migrate false = refl

-- ALL OF THEM

abbrev sent : EntryView → Sending → Kind → ℕ
sent e m k = one (counts e.server k m)

abbrev of_entry : EntryView → Kind → ℕ
of_entry e k = tot (λ m. sent e m k) (sendings e.acts)

abbrev leaving : EntryView → ℕ
leaving e = tot (λ m. one (leaves e.server m)) (sendings e.acts)

by_entry : (e : EntryView) → leaving e ≡ tot (λ k. of_entry e k) kinds
by_entry e =
    tot_same (λ m. one (leaves e.server m)) (λ m. tot (λ k. sent e m k) kinds) (sendings e.acts) (λ m. of_one_kind m.kind (leaves e.server m))
    ∙ tot_swap (λ m k. sent e m k) (sendings e.acts) kinds

pub kinds_add_up : KindsAddUp
kinds_add_up es = tot_same leaving (λ e. tot (λ k. of_entry e k) kinds) es by_entry ∙ tot_swap (λ e k. of_entry e k) es kinds

-- the counts by kind add up to the messages
pub all_messages : (es : List EntryView) → sum (by_kind es) ≡ messages es
all_messages es = sum_of_counts (count es) kinds ∙ sym (kinds_add_up es)
